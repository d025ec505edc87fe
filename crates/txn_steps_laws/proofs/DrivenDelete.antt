-- A checked delete that runs alone from its start: a check, and then an unchecked delete.
use Rattle.std.proofs.Common.{◌≡◌, ◌⊎◌, ◌==◌, if◌then◌else◌, ℕ, suc, ◌+◌, Bool, true, false, List, Option, Some, None, Result, Ok, Err, refl, sym, ap, subst, ◌∙◌, inl, inr, arith}
use Rattle.std.proofs.lemmas.Bool.{eqb-true}
use Rattle.txn_store.specs.Paths.{Segments}
use Rattle.txn_store.specs.VersionName.{Names}
use Rattle.txn_store.specs.declared.request.Reply.{Reply}
use Rattle.txn_store.specs.types.Errors.{error_number}
use Rattle.txn_store.specs.declared.types.error.TransactionalObjectError.{TransactionalObjectError}
use Rattle.txn_store.specs.declared.types.error.TransactionalObjectError.TheVariants as kinds
use Rattle.txn_steps.specs.boundary.Asking.{reply_told}
use Rattle.txn_steps.specs.boundary.Checks.{check_started, check_turned}
use Rattle.txn_steps.specs.boundary.Steps.{turned_by_number, TellsErrorOf}
use Rattle.txn_steps.specs.declared.boundary.check.CheckOp.{CheckOp}
use Rattle.txn_steps.specs.declared.boundary.turned.Turned.{Turned}
use Rattle.txn_steps.specs.declared.boundary.turned.Turned.TheVariants.{Goes, Done}
use Rattle.txn_steps.specs.declared.delete.DeleteOp.{DeleteOp}
use Rattle.txn_steps.specs.declared.delete.DeleteStep.{DeleteStep}
use Rattle.txn_steps.specs.declared.delete.DeleteStep.TheVariants as steps
use Rattle.txn_steps.specs.declared.delete.DeleteUncheckedOp.{DeleteUncheckedOp}
use Rattle.txn_steps.specs.Deletes.{removal_started, delete_started, at_check, checks_turned, delete_asked_at, delete_turned_at, delete_caches_at}
use Rattle.txn_steps_driven.specs.Asked.{Replies}
use Rattle.txn_steps_driven.specs.DriveRuns.{Scene, GoesOn, Drives}
use Rattle.txn_steps_driven.specs.DriveSteps.{DeleteUncheckedSteps, CheckSteps, DeleteSteps}
use Rattle.txn_steps_laws.specs.DrivenDeletes.{kept_answer, DeleteKept, DeleteFenced, CheckedDeleteDriven}
use Rattle.txn_steps_driven.proofs.DriveCounts.{delete_within}
use Rattle.txn_steps_driven.proofs.DriveLemmas.{after_steps, delete_driven}
use Rattle.txn_steps_laws.proofs.DrivenCheck.{check_driven}
use Rattle.txn_steps_driven.proofs.Refusals.{error_is}

-- its check, and its removal
abbrev checking : Scene DeleteOp → Scene CheckOp
checking s = record { op = s.op.check; caches = s.caches; store = s.store }

abbrev removing : Scene DeleteOp → Scene DeleteUncheckedOp
removing s = record { op = s.op.removal; caches = s.caches; store = s.store }

abbrev removing_at : Scene DeleteOp → DeleteUncheckedOp → Scene DeleteUncheckedOp
removing_at s op = record { op = op; caches = s.caches; store = s.store }

abbrev pair : DeleteOp → Turned (Result (Unit {0}) ℕ) → DeleteOp × Turned (Result (Unit {0}) ℕ)
pair op told = (op, told)

module _ {T : Type 0} (names : Names) (decode : List ℕ → Option T) (path : Segments) (id : ℕ) (a : Scene DeleteOp) (starts : a.op ≡ delete_started names path id) where
  -- the check refused the id
  abbrev HasRefused : Scene CheckOp → Type 0
  HasRefused m = (n : ℕ) × (k : Scene CheckOp) × GoesOn CheckSteps n (checking a) k × CheckSteps k (Done (Err kinds.ObjectVersionExists)) m

  abbrev begun : Scene CheckOp → Scene DeleteUncheckedOp
  begun m = record { op = removal_started names id; caches = m.caches; store = m.store }

  abbrev At : DeleteStep → Scene DeleteOp → Type 0
  At steps.Checks b = (n : ℕ) × GoesOn CheckSteps n (checking a) (checking b) × (b.op.removal ≡ removal_started names id)
  At steps.Removes b = (m : Scene CheckOp) × HasRefused m × (k : ℕ) × GoesOn DeleteUncheckedSteps k (begun m) (removing b)

  abbrev After : Scene DeleteOp → Turned (Result (Unit {0}) TransactionalObjectError) → Type 0
  After c Goes = At c.op.step c
  After c (Done answer) = DeleteKept names decode path id a c answer ⊎ DeleteFenced names decode path id a c answer

  begins : (checking a).op ≡ check_started path id
  begins = ap (λ (op : DeleteOp). op.check) starts

  module _ (b c : Scene DeleteOp) (reply : Option Reply) where
    module _ (is : b.op.step ≡ steps.Checks) (at : At steps.Checks b) (served : Replies (delete_asked_at steps.Checks b.op) b.store reply c.store) (leaves : c.caches ≡ delete_caches_at steps.Checks b.op b.caches) where
      one : (told : Turned (Result (Unit {0}) TransactionalObjectError)) → (c.op.check, turned_by_number told) ≡ check_turned b.op.check b.caches reply → TellsErrorOf (reply_told reply) told → CheckSteps (checking b) told (checking c)
      one told takes tells = record { reply = reply; replies = served; takes = takes; leaves = leaves; error = tells }

      kept : (checked answer : Result (Unit {0}) TransactionalObjectError) → CheckSteps (checking b) (Done checked) (checking c) → answer ≡ kept_answer checked → After c (Done answer)
      kept checked answer step answer_is =
          let ended = check_driven path id (checking a) begins (at.0 + 1) (Some checked) (checking c) (at.0, checking b, omega arith, at.1, step) in
          inl (record { checked = checked; check = ended.0; held = ended.1; answer_is = answer_is })

      refused_by : (k : CheckOp) (number : ℕ) (t : Bool) → (number == 5) ≡ t → (told : Turned (Result (Unit {0}) TransactionalObjectError)) → (k, Done (Err number)) ≡ check_turned b.op.check b.caches reply → (c.op, turned_by_number told) ≡ (if t then pair (at_check b.op steps.Removes k) Goes else pair (at_check b.op b.op.step k) (Done (Err number))) → TellsErrorOf (reply_told reply) told → After c told
      refused_by k number true five (Done answer) turned takes tells = let e = ap (λ p. p.1) takes in absurd (cc)
      refused_by k number true five Goes turned takes tells =
          let op = ap (λ p. p.0) takes in
          let check : c.op.check ≡ k = ap (λ (op : DeleteOp). op.check) op in
          let same : 5 ≡ number = sym (eqb-true number 5 five) in
          subst (λ s. At s c) (sym (ap (λ (op : DeleteOp). op.step) op))
          (checking c, (at.0, checking b, at.1, one (Done (Err kinds.ObjectVersionExists)) (ap (λ k. (k, Done (Err 5))) check ∙ (ap (λ n. (k, Done (Err n))) same ∙ turned)) tt), 0, ap (removing_at c) (ap (λ (op : DeleteOp). op.removal) op ∙ at.2))
      refused_by k number false five Goes turned takes tells = let e = ap (λ p. p.1) takes in absurd (cc)
      refused_by k number false five (Done (Ok done)) turned takes tells = let e = ap (λ p. p.1) takes in absurd (cc)
      refused_by k number false five (Done (Err error)) turned takes tells =
          let check : c.op.check ≡ k = ap (λ p. p.0.check) takes in
          let e = ap (λ p. p.1) takes in
          let same : error_number error ≡ number = cc in
          kept (Err error) (Err error) (one (Done (Err error)) (ap (λ k. (k, Done (Err (error_number error)))) check ∙ (ap (λ n. (k, Done (Err n))) same ∙ turned)) tells) refl

      checks_by : (x : CheckOp × Turned (Result (Unit {0}) ℕ)) (told : Turned (Result (Unit {0}) TransactionalObjectError)) → x ≡ check_turned b.op.check b.caches reply → (c.op, turned_by_number told) ≡ checks_turned b.op x → TellsErrorOf (reply_told reply) told → After c told
      checks_by (k, Goes) Goes turned takes tells =
          let op = ap (λ p. p.0) takes in
          let check : c.op.check ≡ k = ap (λ (op : DeleteOp). op.check) op in
          subst (λ s. At s c) (sym (ap (λ (op : DeleteOp). op.step) op ∙ is))
          (suc at.0, (checking b, at.1, one Goes (ap (λ k. (k, Goes)) check ∙ turned) tells), ap (λ (op : DeleteOp). op.removal) op ∙ at.2)
      checks_by (k, Goes) (Done answer) turned takes tells = let e = ap (λ p. p.1) takes in absurd (cc)
      checks_by (k, Done (Ok accepted)) Goes turned takes tells = let e = ap (λ p. p.1) takes in absurd (cc)
      checks_by (k, Done (Ok accepted)) (Done (Ok done)) turned takes tells = let e = ap (λ p. p.1) takes in absurd (cc)
      checks_by (k, Done (Ok accepted)) (Done (Err error)) turned takes tells =
          let check : c.op.check ≡ k = ap (λ p. p.0.check) takes in
          let e = ap (λ p. p.1) takes in
          let seven : error_number error ≡ 7 = cc in
          kept (Ok tt) (Err error) (one (Done (Ok tt)) (ap (λ k. (k, Done (Ok tt))) check ∙ turned) tt) (ap Err (error_is kinds.InvalidObjectState error tt seven))
      checks_by (k, Done (Err number)) told turned takes tells = refused_by k number (number == 5) refl told turned takes tells

    module _ (is : b.op.step ≡ steps.Removes) (at : At steps.Removes b) (served : Replies (delete_asked_at steps.Removes b.op) b.store reply c.store) (leaves : c.caches ≡ delete_caches_at steps.Removes b.op b.caches) (told : Turned (Result (Unit {0}) TransactionalObjectError)) (takes : (c.op, turned_by_number told) ≡ delete_turned_at steps.Removes b.op b.caches reply) (tells : TellsErrorOf (reply_told reply) told) where
      removes : DeleteUncheckedSteps (removing b) told (removing c)
      removes = record { reply = reply; replies = served; takes = ap (λ p. (p.0.removal, p.1)) takes; leaves = leaves; error = tells }

      same_step : c.op.step ≡ steps.Removes
      same_step = ap (λ p. p.0.step) takes ∙ is

    by_step : (s : DeleteStep) (told : Turned (Result (Unit {0}) TransactionalObjectError)) → b.op.step ≡ s → At s b → Replies (delete_asked_at s b.op) b.store reply c.store → (c.op, turned_by_number told) ≡ delete_turned_at s b.op b.caches reply → c.caches ≡ delete_caches_at s b.op b.caches → TellsErrorOf (reply_told reply) told → After c told
    by_step steps.Checks told is at served takes leaves tells = checks_by is at served leaves (check_turned b.op.check b.caches reply) told refl takes tells
    by_step steps.Removes Goes is at served takes leaves tells = subst (λ s. At s c) (sym (same_step is at served leaves Goes takes tells)) (at.0, at.1, suc at.2, (removing b, at.3, removes is at served leaves Goes takes tells))
    by_step steps.Removes (Done answer) is (m, (n, k, on, step), j, ons) served takes leaves tells =
        let last = removes is (m, (n, k, on, step), j, ons) served leaves (Done answer) takes tells in
        let ended = check_driven path id (checking a) begins (n + 1) (Some (Err kinds.ObjectVersionExists)) m (n, k, omega arith, on, step) in
        let deleted = delete_driven names decode id (begun m) refl (j + 1) (Some answer) (removing c) (j, removing b, omega arith, ons, last) in
        inr (record { store = m.store; caches = m.caches; check = ended.0; held = ended.1; deleted = deleted.0; same_boundary = deleted.1 })

  stepped : (b c : Scene DeleteOp) (told : Turned (Result (Unit {0}) TransactionalObjectError)) → At b.op.step b → DeleteSteps b told c → After c told
  stepped b c told at step = by_step b c step.reply b.op.step told refl at step.replies step.takes step.leaves step.error

  delete_on : (n : ℕ) (b : Scene DeleteOp) → GoesOn DeleteSteps n a b → At b.op.step b
  delete_on = after_steps DeleteSteps (λ n b. At b.op.step b) a
      (subst (λ s. At s a) (sym (ap (λ (op : DeleteOp). op.step) starts)) (0, refl, ap (λ (op : DeleteOp). op.removal) starts))
      (λ n b c at step. stepped b c Goes at step)

  pub checked_delete_driven : (steps : ℕ) (result : Option (Result (Unit {0}) TransactionalObjectError)) (b : Scene DeleteOp) → Drives DeleteSteps steps a result b → CheckedDeleteDriven names decode path id steps a result b
  checked_delete_driven steps None b on = delete_within names path id steps a b None starts on
  checked_delete_driven steps (Some answer) c (n, b, within, on, step) = stepped b c (Done answer) (delete_on n b on) step
