-- An unchecked read that runs alone from its start: what it leaves.
use Rattle.std.proofs.Common.{◌≡◌, ℕ, ◌+◌, ◌*◌, ◌<◌, ◌≤◌, ◌^◌, ◌&&◌, ◌||◌, Bool, true, false, List, Option, Some, None, IfSome, Result, Ok, Err, refl, sym, ap, subst, ◌∙◌, arith, length}
use Rattle.txn_store.specs.VersionName.{Names}
use Rattle.txn_store.specs.Store.{State}
use Rattle.txn_store.specs.declared.request.Reply.{Reply}
use Rattle.txn_store.specs.declared.request.Reply.TheVariants as replies
use Rattle.txn_store.specs.declared.types.error.TransactionalObjectError.{TransactionalObjectError}
use Rattle.txn_steps.specs.boundary.Windows.{Ascends, greatest_held}
use Rattle.txn_steps.specs.boundary.Steps.{turned_by_number, lacks_memory}
use Rattle.txn_steps.specs.declared.boundary.caches.Cached.{Cached}
use Rattle.txn_steps.specs.declared.boundary.caches.Caches.{Caches}
use Rattle.txn_steps.specs.declared.boundary.turned.Turned.{Turned}
use Rattle.txn_steps.specs.declared.boundary.turned.Turned.TheVariants.{Goes, Done}
use Rattle.txn_steps.specs.declared.latest.LatestOp.{LatestOp}
use Rattle.txn_steps.specs.declared.latest.LatestOp.TheVariants.{Looks, Probes, Finds, Lists, Chooses, Gets, Keeps, Drops, Ended}
use Rattle.txn_steps.specs.Latest.{latest_turned, paged_turned}
use Rattle.txn_store.specs.Paths.{Segments}
use Rattle.txn_steps.specs.Requests.{next_after}
use Rattle.txn_steps.specs.Latest.{greatest_from}
use Rattle.txn_steps_driven.specs.Calls.{one_if}
use Rattle.txn_steps_driven.specs.DriveRuns.{Scene, GoesOn, Drives}
use Rattle.txn_steps_driven.specs.DriveSteps.{LatestSteps}
use Rattle.txn_steps_laws.specs.DrivenReads.{LatestDriven}
use Rattle.txn_steps_driven.specs.LatestReads.{Ended as ReadEnded}
use Rattle.txn_steps_driven.specs.LatestRuns.{is_listing, steps_left, Pays, Holds, IsStep, Running}
use Rattle.txn_steps_driven.specs.PageCount.{files_below}
use Rattle.txn_steps_driven.proofs.DriveLemmas.{after_steps}
use Rattle.txn_steps_driven.proofs.LatestDriver.{begins, goes_on, less, ended}
use Rattle.txn_steps_driven.proofs.NextPages.{page_within}

module _ {T : Type 0} (names : Names) (page : ℕ) (room : 1 ≤ page) (decode : List ℕ → Option T) where
  is_latest_step : (a b : Scene (LatestOp T)) (told : Turned (Result (Option (ℕ × T)) TransactionalObjectError)) → LatestSteps names page decode a told b → IsStep names page decode a.store b.store a.caches.latest b.caches.latest a.op b.op told
  is_latest_step a b told step = record { reply = step.reply; replied = step.replies; lacks = lacks_memory (turned_by_number told); turned = step.takes; left = ap (λ (k : Caches). k.latest) step.leaves; store_error = step.error }

  -- as many turns are left as one likes
  with_turns : (old new : State) (turns turns' : ℕ) (first latest : List Cached) (listed : Bool) (op : LatestOp T) (r : Running names page decode old new turns turns' first latest listed op) (left : ℕ) → Running names page decode old new (left + r.spent) left first latest listed op
  with_turns old new turns turns' first latest listed op r left = record { ascending = r.ascending; small = r.small; kept = r.kept; spent = r.spent; spent_is = refl; has_spent = r.has_spent; calls = r.calls; calls_are = r.calls_are; calls_most = r.calls_most; failures_rise = r.failures_rise; grown = r.grown; holds = r.holds }

  -- after a page it needs no more steps than a page that is asked for after another
  paged_few : (after : Option Segments) (found : Option ℕ) → steps_left true (paged_turned {T = T} names page after found).0 ≤ 5
  paged_few (Some after) found = omega arith
  paged_few None found = omega arith

  lists_few : (op op' : LatestOp T) (latest : List Cached) (reply : Option Reply) → one_if (is_listing op) ≡ 1 → op' ≡ (latest_turned names page decode op latest reply).0 → steps_left true op' ≤ 5
  lists_few (Lists found request) op' latest (Some (replies.List (Ok told))) one is = subst (λ op. steps_left true op ≤ 5) (sym is) (paged_few (next_after told) (greatest_from found names told.metas))
  lists_few (Lists found request) op' latest (Some (replies.List (Err e))) one is = subst (λ op. steps_left true op ≤ 5) (sym is) (omega arith)
  lists_few (Lists found request) op' latest (Some reply) one is = subst (λ op. steps_left true op ≤ 5) (sym is) (omega arith)
  lists_few (Lists found request) op' latest None one is = subst (λ op. steps_left true op ≤ 5) (sym is) (omega arith)
  lists_few Looks op' latest reply one is = absurd (omega (arith, one))
  lists_few (Probes hand found next request) op' latest reply one is = absurd (omega (arith, one))
  lists_few (Finds successor found) op' latest reply one is = absurd (omega (arith, one))
  lists_few (Chooses greatest) op' latest reply one is = absurd (omega (arith, one))
  lists_few (Gets id request) op' latest reply one is = absurd (omega (arith, one))
  lists_few (Keeps version value) op' latest reply one is = absurd (omega (arith, one))
  lists_few (Drops id) op' latest reply one is = absurd (omega (arith, one))
  lists_few Ended op' latest reply one is = absurd (omega (arith, one))

  -- a step takes one of the steps that are left, a turn's beside
  fewer : (lists listed : Bool) (op op' : LatestOp T) (latest : List Cached) (reply : Option Reply) → lists ≡ is_listing op → op' ≡ (latest_turned names page decode op latest reply).0 → steps_left (lists || listed) op' < steps_left listed op + 16 * one_if (lists && listed) → steps_left (lists || listed) op' + 1 ≤ steps_left listed op + one_if (lists && listed)
  fewer false listed op op' latest reply is next less = omega (arith, less)
  fewer true false op op' latest reply is next less = omega (arith, less)
  fewer true true op op' latest reply is next less =
      let few = lists_few op op' latest reply (ap one_if (sym is)) next in
      let five = lists_left op is in
      omega (arith, few, five)
    where
      lists_left : (op : LatestOp T) → true ≡ is_listing op → steps_left true op ≡ 5
      lists_left (Lists found request) is = refl
      lists_left Looks is = absurd (cc)
      lists_left (Probes hand found next request) is = absurd (cc)
      lists_left (Finds successor found) is = absurd (cc)
      lists_left (Chooses greatest) is = absurd (cc)
      lists_left (Gets id request) is = absurd (cc)
      lists_left (Keeps version value) is = absurd (cc)
      lists_left (Drops id) is = absurd (cc)
      lists_left Ended is = absurd (cc)

  some_left : (old new : State) (first : List Cached) (spent calls : ℕ) (listed : Bool) (latest : List Cached) (op : LatestOp T) → Holds names page decode old.files first spent calls listed latest op → 1 ≤ steps_left listed op
  some_left old new first spent calls listed latest Looks at = omega arith
  some_left old new first spent calls listed latest (Probes hand found next request) at = let few = at.2 in omega (arith, few)
  some_left old new first spent calls listed latest (Finds successor found) at = let few = at.2 in omega (arith, few)
  some_left old new first spent calls listed latest (Lists found request) at = omega arith
  some_left old new first spent calls listed latest (Chooses greatest) at = omega arith
  some_left old new first spent calls listed latest (Gets id request) at = omega arith
  some_left old new first spent calls listed latest (Keeps version value) at = omega arith
  some_left old new first spent calls listed latest (Drops id) at = absurd at
  some_left old new first spent calls listed latest Ended at = absurd at

  module _ (a : Scene (LatestOp T)) (starts : a.op ≡ Looks) (ascending : Ascends a.caches.latest) (small : IfSome (greatest_held a.caches.latest) (λ version. version.id < 2 ^ 64)) where
    record LatestOn (n : ℕ) (b : Scene (LatestOp T)) : Type 0 where
      listed : Bool
      turns : ℕ
      runs : Running names page decode a.store b.store turns 0 a.caches.latest b.caches.latest listed b.op
      count : n + steps_left listed b.op ≤ 16 + turns
      boundary : b.caches.boundary ≡ a.caches.boundary

    module _ (n : ℕ) (b c : Scene (LatestOp T)) (so_far : LatestOn n b) where
      abbrev due : ℕ
      due = one_if (is_listing b.op && so_far.listed)

      abbrev listed' : Bool
      listed' = is_listing b.op || so_far.listed

      here : (left : ℕ) → Running names page decode a.store b.store (left + so_far.runs.spent) left a.caches.latest b.caches.latest so_far.listed b.op
      here left = with_turns a.store b.store so_far.turns 0 a.caches.latest b.caches.latest so_far.listed b.op so_far.runs left

      paid : (left : ℕ) → Pays (is_listing b.op) so_far.listed listed' (left + due) left true
      paid left = (refl, refl)

      pays : Pays (is_listing b.op) so_far.listed listed' due 0 true
      pays = (omega arith, refl)

      next : LatestSteps names page decode b Goes c → LatestOn (n + 1) c
      next step =
          let s = is_latest_step b c Goes step in
          let r = goes_on names page room decode a.store b.store (due + so_far.runs.spent) due a.caches.latest b.caches.latest so_far.listed b.op (here due) c.store 0 c.caches.latest listed' c.op pays s in
          let lt = less names page room decode a.store b.store (due + so_far.runs.spent) due a.caches.latest b.caches.latest so_far.listed b.op (here due) c.store 0 c.caches.latest listed' c.op pays s in
          let few = fewer (is_listing b.op) so_far.listed b.op c.op b.caches.latest step.reply refl (ap (λ p. p.0) step.takes) (omega (arith, lt)) in
          let count = so_far.count in
          let spent = so_far.runs.spent_is in
          record { listed = listed'; turns = due + so_far.runs.spent; runs = r; count = omega (arith, few, count, spent); boundary = ap (λ (k : Caches). k.boundary) step.leaves ∙ so_far.boundary }

      ends : (answer : Result (Option (ℕ × T)) TransactionalObjectError) → LatestSteps names page decode b (Done answer) c → (left : ℕ) → ReadEnded names page decode a.store c.store ((left + due) + so_far.runs.spent) left a.caches.latest c.caches.latest answer
      ends answer step left =
          ended names page room decode a.store b.store ((left + due) + so_far.runs.spent) (left + due) a.caches.latest b.caches.latest so_far.listed b.op (here (left + due)) c.store left c.caches.latest listed' c.op (paid left) answer (is_latest_step b c (Done answer) step)

    latest_on : (n : ℕ) (b : Scene (LatestOp T)) → GoesOn (LatestSteps names page decode) n a b → LatestOn n b
    latest_on = after_steps (LatestSteps names page decode) LatestOn a (record {
      listed = false;
      turns = 0;
      runs = begins names page decode a.store 0 a.caches.latest a.op ascending small starts;
      count = subst (λ op. 0 + steps_left false op ≤ 16 + 0) (sym starts) (omega arith);
      boundary = refl;
    }) next

    pub latest_driven : (steps : ℕ) (result : Option (Result (Option (ℕ × T)) TransactionalObjectError)) (b : Scene (LatestOp T)) → Drives (LatestSteps names page decode) steps a result b → LatestDriven names decode page steps a result b
    latest_driven steps None b on =
        let so_far = latest_on steps b on in
        let r = so_far.runs in
        let count = so_far.count in
        let spent = r.spent_is in
        let some = some_left a.store b.store a.caches.latest r.spent r.calls so_far.listed b.caches.latest b.op r.holds in
        let pages = page_within page (length (files_below names a.store.files)) r.spent room r.has_spent in
        omega (arith, count, spent, some, pages)
    latest_driven steps (Some answer) c (n, b, within, on, step) =
        let so_far = latest_on n b on in (
          due n b c so_far + so_far.runs.spent,
          λ left. (let sum : (left + due n b c so_far) + so_far.runs.spent ≡ left + (due n b c so_far + so_far.runs.spent) = omega arith in subst (λ t. ReadEnded names page decode a.store c.store t left a.caches.latest c.caches.latest answer) sum (ends n b c so_far answer step left)),
          ap (λ (k : Caches). k.boundary) step.leaves ∙ so_far.boundary,
        )
