-- A call as a layer over an operation: each step of the call is one of the operation, and its answer is what it makes of the operation's.
use Rattle.std.specs.Prelude.{◌≡◌, ℕ, zero, suc, ◌==◌, ◌&&◌, Bool, true, false, Option, Some, None, Result, Ok, Err}
use Rattle.std.proofs.Common.{refl, sym, ap, subst, ◌∙◌}
use Rattle.std.proofs.lemmas.Bool.{eqb-true}
use Rattle.txn_store.specs.declared.request.Request.{Request}
use Rattle.txn_store.specs.declared.request.Reply.{Reply}
use Rattle.txn_store.specs.types.Errors.{error_number}
use Rattle.txn_store.specs.declared.types.error.TransactionalObjectError.{TransactionalObjectError}
use Rattle.txn_steps.specs.declared.boundary.caches.Caches.{Caches}
use Rattle.txn_steps.specs.declared.boundary.turned.Turned.{Turned}
use Rattle.txn_steps.specs.declared.boundary.turned.Turned.TheVariants.{Goes, Done}
use Rattle.txn_steps.specs.boundary.Asking.{reply_told, unless_lacking}
use Rattle.txn_steps.specs.boundary.Steps.{by_number, turned_by_number, lacks_memory, TellsErrorOf}
use Rattle.txn_steps_driven.specs.Asked.{Replies}
use Rattle.txn_steps_driven.specs.DriveRuns.{Scene, Stepped, GoesOn, Drives}
use Rattle.txn_steps_laws.specs.CallRuns.{CallStepped}
use Rattle.txn_steps_laws.specs.Seen.{seen_as}

-- both go on, or both end
abbrev pub Alike : {A B : Type 0} → Turned A → Turned B → Type 0
Alike Goes Goes = Unit {0}
Alike (Done x) (Done y) = Unit {0}
Alike Goes (Done y) = ⊥
Alike (Done x) Goes = ⊥

-- the operation goes on as the part of the call, and its answer ends the call, which makes of it what it does
abbrev pub layered : {P O A B : Type 0} → (P → O) → O → (A → Result B TransactionalObjectError) → P × Turned (Result A ℕ) → O × Turned (Result B ℕ)
layered whole end see (part, Goes) = (whole part, Goes)
layered whole end see (part, Done (Ok found)) = (end, Done (by_number (see found)))
layered whole end see (part, Done (Err number)) = (end, Done (Err number))

-- the operation in the place of the call
abbrev pub part_of : {P O : Type 0} → P → Scene O → Scene P
part_of part scene = record { op = part; caches = scene.caches; store = scene.store }

module _ {P O A B : Type 0} (may_grow : Bool) (asked_of_part : P → Option Request) (part_turned : P → Caches → Option Reply → P × Turned (Result A ℕ)) (part_left : P → Caches → Turned (Result A ℕ) → Caches) (ended : O → O) (asked : O → Option Request) (turned : O → Caches → Option Reply → O × Turned (Result B ℕ)) (left : O → Caches → Turned (Result B ℕ) → Caches) where
  -- A call is a layer over an operation: `whole` is the call at a state of the operation, `end` the call once it was answered, and `see` what it makes of an answer.
  pub record Layer (whole : P → O) (end : O) (see : A → Result B TransactionalObjectError) : Type 0 where
    pub asks : (part : P) → asked (whole part) ≡ asked_of_part part
    pub turns : (part : P) (caches : Caches) (reply : Option Reply) → turned (whole part) caches reply ≡ layered whole end see (part_turned part caches reply)
    pub leaves : (part next : P) (caches : Caches) (reply : Option Reply) (told : Turned (Result A ℕ)) (answer : Turned (Result B ℕ)) → Alike told answer → (next, told) ≡ unless_lacking (may_grow && lacks_memory told) part (part_turned part caches reply) → left (whole part) caches answer ≡ part_left part caches told
    -- an answer that has the number of what it makes of one is that
    pub settles : (found : A) (answer : Result B TransactionalObjectError) → by_number answer ≡ by_number (see found) → answer ≡ see found

  abbrev pub PartSteps : Scene P → Turned (Result A TransactionalObjectError) → Scene P → Type 0
  PartSteps = Stepped may_grow asked_of_part part_turned part_left

  abbrev pub WholeSteps : Scene O → Turned (Result B TransactionalObjectError) → Scene O → Type 0
  WholeSteps = CallStepped may_grow ended asked turned left

  not_lacking : {Q C : Type 0} (grows : Bool) (old : Q) (next : Q × Turned (Result C ℕ)) → unless_lacking (grows && false) old next ≡ next
  not_lacking true old next = refl
  not_lacking false old next = refl

  right_of : (x y : Bool) → (x && y) ≡ true → y ≡ true
  right_of true y is = is
  right_of false y is = absurd (cc)

  module _ (whole : P → O) (end : O) (see : A → Result B TransactionalObjectError) (layer : Layer whole end see) where
    -- what a step of the call is of the operation
    abbrev pub LedTo : Scene P → Turned (Result B TransactionalObjectError) → Scene O → Type 0
    LedTo from Goes c = (next : P) × PartSteps from Goes (part_of next c) × (c.op ≡ whole next)
    LedTo from (Done answer) c = (next : P) × (found : Result A TransactionalObjectError) × PartSteps from (Done found) (part_of next c) × (answer ≡ seen_as see found)

    module _ (part : P) (a c : Scene O) (reply : Option Reply) (served : Replies (asked_of_part part) a.store reply c.store) where
      one : (next : P) (told : Turned (Result A TransactionalObjectError)) (answer : Turned (Result B TransactionalObjectError)) → Alike (turned_by_number told) (turned_by_number answer) → (next, turned_by_number told) ≡ unless_lacking (may_grow && lacks_memory (turned_by_number told)) part (part_turned part a.caches reply) → c.caches ≡ left (whole part) a.caches (turned_by_number answer) → TellsErrorOf (reply_told reply) told → PartSteps (part_of part a) told (part_of next c)
      one next told answer alike takes leaves tells = record { reply = reply; replies = served; takes = takes; leaves = leaves ∙ layer.leaves part next a.caches reply (turned_by_number told) (turned_by_number answer) alike takes; error = tells }

      -- want of memory ends the operation as it ends the call
      lacks : (error : TransactionalObjectError) → (may_grow && (error_number error == 9)) ≡ true → c.caches ≡ left (whole part) a.caches (Done (Err (error_number error))) → TellsErrorOf {A = A} (reply_told reply) (Done (Err error)) → LedTo (part_of part a) (Done (Err error)) c
      lacks error is leaves tells =
          let nine : error_number error ≡ 9 = eqb-true (error_number error) 9 (right_of may_grow (error_number error == 9) is) in
          let takes : (part, Done (Err (error_number error))) ≡ unless_lacking (may_grow && (error_number error == 9)) part (part_turned part a.caches reply) = subst (λ (lacking : Bool). (part, Done (Err (error_number error))) ≡ unless_lacking lacking part (part_turned part a.caches reply)) (sym is) (ap (λ (n : ℕ). (part, Done (Err n))) nine) in
          (part, Err error, one part (Done (Err error)) (Done (Err error)) tt takes leaves tells, refl)

      errs : (next : P × Turned (Result A ℕ)) (error : TransactionalObjectError) → (may_grow && (error_number error == 9)) ≡ false → next ≡ part_turned part a.caches reply → (c.op, Done (Err (error_number error))) ≡ layered whole end see next → c.caches ≡ left (whole part) a.caches (Done (Err (error_number error))) → TellsErrorOf {A = A} (reply_told reply) (Done (Err error)) → LedTo (part_of part a) (Done (Err error)) c
      errs (next, Goes) error is turned takes leaves tells = let e = ap (λ p. p.1) takes in absurd (cc)
      errs (next, Done (Ok found)) error is turned takes leaves tells =
          let e = ap (λ p. p.1) takes in
          let same : by_number {A = B} (Err error) ≡ by_number (see found) = cc in
          (next, Ok found, one next (Done (Ok found)) (Done (Err error)) tt (turned ∙ sym (not_lacking may_grow part (part_turned part a.caches reply))) leaves tt, layer.settles found (Err error) same)
      errs (next, Done (Err number)) error is turned takes leaves tells =
          let e = ap (λ p. p.1) takes in
          let same : error_number error ≡ number = cc in
          let here : (next, Done (Err (error_number error))) ≡ part_turned part a.caches reply = ap (λ (n : ℕ). (next, Done (Err n))) same ∙ turned in
          let takes' : (next, Done (Err (error_number error))) ≡ unless_lacking (may_grow && (error_number error == 9)) part (part_turned part a.caches reply) = subst (λ (lacking : Bool). (next, Done (Err (error_number error))) ≡ unless_lacking lacking part (part_turned part a.caches reply)) (sym is) here in
          (next, Err error, one next (Done (Err error)) (Done (Err error)) tt takes' leaves tells, refl)

      by_error : (lacking : Bool) (error : TransactionalObjectError) → (may_grow && (error_number error == 9)) ≡ lacking → (c.op, Done (Err (error_number error))) ≡ unless_lacking lacking (ended (whole part)) (layered whole end see (part_turned part a.caches reply)) → c.caches ≡ left (whole part) a.caches (Done (Err (error_number error))) → TellsErrorOf {A = A} (reply_told reply) (Done (Err error)) → LedTo (part_of part a) (Done (Err error)) c
      by_error true error is takes leaves tells = lacks error is leaves tells
      by_error false error is takes leaves tells = errs (part_turned part a.caches reply) error is refl takes leaves tells

      answers : (next : P × Turned (Result A ℕ)) (value : B) → next ≡ part_turned part a.caches reply → (c.op, Done (Ok value)) ≡ layered whole end see next → c.caches ≡ left (whole part) a.caches (Done (Ok value)) → LedTo (part_of part a) (Done (Ok value)) c
      answers (next, Goes) value turned takes leaves = let e = ap (λ p. p.1) takes in absurd (cc)
      answers (next, Done (Ok found)) value turned takes leaves =
          let e = ap (λ p. p.1) takes in
          let same : by_number {A = B} (Ok value) ≡ by_number (see found) = cc in
          (next, Ok found, one next (Done (Ok found)) (Done (Ok value)) tt (turned ∙ sym (not_lacking may_grow part (part_turned part a.caches reply))) leaves tt, layer.settles found (Ok value) same)
      answers (next, Done (Err number)) value turned takes leaves = let e = ap (λ p. p.1) takes in absurd (cc)

      goes : (next : P × Turned (Result A ℕ)) → next ≡ part_turned part a.caches reply → (c.op, Goes) ≡ layered whole end see next → c.caches ≡ left (whole part) a.caches Goes → LedTo (part_of part a) Goes c
      goes (next, Goes) turned takes leaves = (next, one next Goes Goes tt (turned ∙ sym (not_lacking may_grow part (part_turned part a.caches reply))) leaves tt, ap (λ p. p.0) takes)
      goes (next, Done (Ok found)) turned takes leaves = let e = ap (λ p. p.1) takes in absurd (cc)
      goes (next, Done (Err number)) turned takes leaves = let e = ap (λ p. p.1) takes in absurd (cc)

      by_told : (told : Turned (Result B TransactionalObjectError)) → (c.op, turned_by_number told) ≡ unless_lacking (may_grow && lacks_memory (turned_by_number told)) (ended (whole part)) (layered whole end see (part_turned part a.caches reply)) → c.caches ≡ left (whole part) a.caches (turned_by_number told) → TellsErrorOf (reply_told reply) told → LedTo (part_of part a) told c
      by_told Goes takes leaves tells = goes (part_turned part a.caches reply) refl (takes ∙ not_lacking may_grow (ended (whole part)) (layered whole end see (part_turned part a.caches reply))) leaves
      by_told (Done (Ok value)) takes leaves tells = answers (part_turned part a.caches reply) value refl (takes ∙ not_lacking may_grow (ended (whole part)) (layered whole end see (part_turned part a.caches reply))) leaves
      by_told (Done (Err error)) takes leaves tells = by_error (may_grow && (error_number error == 9)) error refl takes leaves tells

    -- a step of the call is a step of the operation
    pub step_through : (part : P) (a c : Scene O) (told : Turned (Result B TransactionalObjectError)) → a.op ≡ whole part → WholeSteps a told c → LedTo (part_of part a) told c
    step_through part a c told at step =
        let served = subst (λ (request : Option Request). Replies request a.store step.reply c.store) (ap asked at ∙ layer.asks part) step.replies in
        let takes = subst (λ (next : O × Turned (Result B ℕ)). (c.op, turned_by_number told) ≡ unless_lacking (may_grow && lacks_memory (turned_by_number told)) (ended (whole part)) next) (layer.turns part a.caches step.reply) (subst (λ (op : O). (c.op, turned_by_number told) ≡ unless_lacking (may_grow && lacks_memory (turned_by_number told)) (ended op) (turned op a.caches step.reply)) at step.takes) in
        let leaves = subst (λ (op : O). c.caches ≡ left op a.caches (turned_by_number told)) at step.leaves in
        by_told part a c step.reply served told takes leaves step.error

    -- as long as the call goes on, so does the operation
    abbrev pub OnTo : ℕ → Scene P → Scene O → Type 0
    OnTo n from c = (next : P) × GoesOn PartSteps n from (part_of next c) × (c.op ≡ whole next)

    pub on_through : (part : P) (a : Scene O) → a.op ≡ whole part → (n : ℕ) (c : Scene O) → GoesOn WholeSteps n a c → OnTo n (part_of part a) c
    on_through part a at zero c same = subst (OnTo zero (part_of part a)) (sym same) (part, refl, at)
    on_through part a at (suc n) c (b, on, step) =
        let so_far = on_through part a at n b on in
        let next = step_through so_far.0 b c Goes so_far.2 step in
        (next.0, (part_of so_far.0 b, so_far.1, next.1), next.2)

    -- A run of the call is a run of the operation, and where it answers that is what it makes of the operation's answer.
    abbrev pub RunOf : ℕ → Scene P → Option (Result B TransactionalObjectError) → Scene O → Type 0
    RunOf steps from None c = OnTo steps from c
    RunOf steps from (Some answer) c = (next : P) × (found : Result A TransactionalObjectError) × Drives PartSteps steps from (Some found) (part_of next c) × (answer ≡ seen_as see found)

    pub run_through : (part : P) (a : Scene O) → a.op ≡ whole part → (steps : ℕ) (answer : Option (Result B TransactionalObjectError)) (c : Scene O) → Drives WholeSteps steps a answer c → RunOf steps (part_of part a) answer c
    run_through part a at steps None c on = on_through part a at steps c on
    run_through part a at steps (Some answer) c (n, b, within, on, step) =
        let so_far = on_through part a at n b on in
        let last = step_through so_far.0 b c (Done answer) so_far.2 step in
        (last.0, last.1, (n, part_of so_far.0 b, within, so_far.1, last.2), last.3)
