-- Each step of a check takes one of the looks or calls that are left.
use Rattle.std.proofs.Common.{◌≡◌, ℕ, ◌<◌, ◌≤◌, ◌==◌, Bool, true, false, if◌then◌else◌, Option, Some, None, Result, Ok, Err, refl, arith}
use Rattle.txn_store.specs.declared.store.Got.{Got}
use Rattle.txn_store.specs.declared.store.StoreError.{StoreError}
use Rattle.txn_store.specs.declared.store.StoreError.TheVariants as errors
use Rattle.txn_store.specs.declared.request.Reply.{Reply}
use Rattle.txn_store.specs.declared.request.Reply.TheVariants as replies
use Rattle.txn_store.specs.types.BoundaryText.{boundary_read}
use Rattle.txn_steps.specs.declared.boundary.caches.CachedBoundary.{CachedBoundary}
use Rattle.txn_steps.specs.declared.boundary.caches.Caches.{Caches}
use Rattle.txn_steps.specs.declared.boundary.boundary_read.BoundaryRead.{BoundaryRead}
use Rattle.txn_steps.specs.declared.boundary.boundary_read.BoundaryRead.TheVariants as read
use Rattle.txn_steps.specs.declared.boundary.check.BoundaryStep.{BoundaryStep}
use Rattle.txn_steps.specs.declared.boundary.check.BoundaryStep.TheVariants as step
use Rattle.txn_steps.specs.declared.boundary.check.BoundaryCheck.{BoundaryCheck}
use Rattle.txn_steps.specs.declared.boundary.check.CheckOp.{CheckOp}
use Rattle.txn_steps.specs.declared.boundary.check.CheckOp.TheVariants.{Checks, Drops}
use Rattle.txn_steps.specs.declared.boundary.turned.Turned.{Turned}
use Rattle.txn_steps.specs.declared.boundary.turned.Turned.TheVariants.{Goes, Done}
use Rattle.txn_steps.specs.boundary.Boundaries.{Known, refused_by}
use Rattle.txn_steps.specs.boundary.BoundaryReads.{text_read, boundary_got, boundary_held, boundary_turned, IsBoundaryReply}
use Rattle.txn_steps.specs.boundary.BoundaryChecks.{reads_by, reads_turned, turned_at, boundary_check_turned, IsReplyAt, IsBoundaryCheckReply}
use Rattle.txn_steps.specs.boundary.Checks.{checks_turned, check_turned, IsCheckReply}
use Rattle.txn_steps.specs.boundary.Counts.{Budget, no_budget, both_budgets, budget_after, SpendsOne, one_look, boundary_budget, boundary_check_budget_at, boundary_check_budget, check_budget}

-- what a step leaves
abbrev after_read : BoundaryRead × Turned (Result Known ℕ) → Budget
after_read x = budget_after x.1 (boundary_budget x.0)

text_spends : (request : _) (token : ℕ) (n : Option ℕ) → (after_read (text_read (read.Gets request) token n)).looks ≤ 1
text_spends request token None = omega arith
text_spends request token (Some n) = omega arith

text_calls : (request : _) (token : ℕ) (n : Option ℕ) → (after_read (text_read (read.Gets request) token n)).calls < 1
text_calls request token None = omega arith
text_calls request token (Some n) = omega arith

got_spends : (request : _) (answer : Result Got StoreError) → SpendsOne (Some (replies.Get answer)) (boundary_budget (read.Gets request)) (after_read (boundary_got (read.Gets request) answer))
got_spends request (Ok got) = (text_spends request got.token (boundary_read got.bytes), text_calls request got.token (boundary_read got.bytes))
got_spends request (Err errors.NotFound) = (omega arith, omega arith)
got_spends request (Err error) = (omega arith, omega arith)

held_spends : (known cached : Option CachedBoundary) → SpendsOne None (boundary_budget (read.Holds known)) (after_read (boundary_held (read.Holds known) known cached))
held_spends (Some known) cached = (omega arith, omega arith)
held_spends None (Some cached) = (omega arith, omega arith)
held_spends None None = (omega arith, omega arith)

pub read_spends : (op : BoundaryRead) (cached : Option CachedBoundary) (reply : Option Reply) → IsBoundaryReply op reply → SpendsOne reply (boundary_budget op) (after_read (boundary_turned op cached reply))
read_spends (read.Looks path) cached None is = (omega arith, omega arith)
read_spends (read.Looks path) cached (Some reply) is = absurd is
read_spends (read.Gets request) cached None is = absurd is
read_spends (read.Gets request) cached (Some (replies.Get answer)) is = got_spends request answer
read_spends (read.Gets request) cached (Some reply) is = absurd is
read_spends (read.Holds known) cached None is = held_spends known cached
read_spends (read.Holds known) cached (Some reply) is = absurd is

abbrev after_check : BoundaryCheck × Turned (Result (Unit {0}) ℕ) → Budget
after_check x = budget_after x.1 (boundary_check_budget x.0)

looks_spend : (b : Bool) (op : BoundaryCheck) → op.step ≡ step.Looks
    → SpendsOne None (both_budgets one_look (boundary_budget op.read)) (after_check (if b then (op, Done (Err 5)) else (reads_by op op.read, Goes)))
looks_spend true op e = (omega arith, omega arith)
looks_spend false op e = (omega arith, omega arith)

reads_spend : (op : BoundaryCheck) (reply : Option Reply) (x : BoundaryRead × Turned (Result Known ℕ)) → SpendsOne reply (boundary_budget op.read) (after_read x) → SpendsOne reply (boundary_budget op.read) (after_check (reads_turned op x))
reads_spend op reply (r, Goes) h = h
reads_spend op None (r, Done answer) h = h
reads_spend op (Some reply) (r, Done answer) h = h

boundary_check_spends_at : (s : BoundaryStep) (op : BoundaryCheck) → op.step ≡ s → (cached : Option CachedBoundary) (reply : Option Reply) → IsReplyAt s op.read reply
    → SpendsOne reply (boundary_check_budget_at s op.read) (after_check (turned_at s op cached reply))
boundary_check_spends_at step.Looks op e cached None is = looks_spend (refused_by op.id cached) op e
boundary_check_spends_at step.Looks op e cached (Some reply) is = absurd is
boundary_check_spends_at step.Reads op e cached reply is = reads_spend op reply (boundary_turned op.read cached reply) (read_spends op.read cached reply is)

pub boundary_check_spends : (op : BoundaryCheck) (cached : Option CachedBoundary) (reply : Option Reply) → IsBoundaryCheckReply op reply → SpendsOne reply (boundary_check_budget op) (after_check (boundary_check_turned op cached reply))
boundary_check_spends op cached reply is = boundary_check_spends_at op.step op refl cached reply is

-- what a step of a check leaves
abbrev pub after : CheckOp × Turned (Result (Unit {0}) ℕ) → Budget
after x = budget_after x.1 (check_budget x.0)

refused_spends : (b : Bool) (check new : BoundaryCheck) (number : ℕ) (reply : Option Reply) → SpendsOne reply (boundary_check_budget check) no_budget
    → SpendsOne reply (both_budgets (boundary_check_budget check) one_look) (after (if b then (Drops check.id, Goes) else (Checks new, Done (Err number))))
refused_spends true check new number None h = (omega (arith, h.0), omega (arith, h.1))
refused_spends true check new number (Some reply) h = (omega (arith, h.0), omega (arith, h.1))
refused_spends false check new number None h = (omega (arith, h.0), omega (arith, h.1))
refused_spends false check new number (Some reply) h = (omega (arith, h.0), omega (arith, h.1))

checks_spend : (check : BoundaryCheck) (reply : Option Reply) (x : BoundaryCheck × Turned (Result (Unit {0}) ℕ)) → SpendsOne reply (boundary_check_budget check) (after_check x)
    → SpendsOne reply (both_budgets (boundary_check_budget check) one_look) (after (checks_turned check.id x))
checks_spend check None (new, Goes) h = (omega (arith, h.0), omega (arith, h.1))
checks_spend check (Some reply) (new, Goes) h = (omega (arith, h.0), omega (arith, h.1))
checks_spend check None (new, Done (Ok accepted)) h = (omega (arith, h.0), omega (arith, h.1))
checks_spend check (Some reply) (new, Done (Ok accepted)) h = (omega (arith, h.0), omega (arith, h.1))
checks_spend check reply (new, Done (Err number)) h = refused_spends (number == 5) check new number reply h

pub check_spends : (op : CheckOp) (caches : Caches) (reply : Option Reply) → IsCheckReply op reply → SpendsOne reply (check_budget op) (after (check_turned op caches reply))
check_spends (Checks check) caches reply is = checks_spend check reply (boundary_check_turned check caches.boundary reply) (boundary_check_spends check caches.boundary reply is)
check_spends (Drops id) caches None is = (omega arith, omega arith)
check_spends (Drops id) caches (Some reply) is = absurd is
