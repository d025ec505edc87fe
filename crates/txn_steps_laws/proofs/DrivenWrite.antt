-- A checked write that runs alone from its start: an unchecked write, and then a check.
use Rattle.std.proofs.Common.{◌≡◌, ◌⊎◌, ℕ, suc, ◌+◌, ◌^◌, ◌<◌, List, Option, Some, None, Result, Ok, Err, refl, sym, ap, subst, ◌∙◌, inl, inr, arith}
use Rattle.txn_store.specs.Paths.{Segments}
use Rattle.txn_store.specs.VersionName.{Names}
use Rattle.txn_store.specs.declared.request.Reply.{Reply}
use Rattle.txn_store.specs.types.Numbers.{number_of}
use Rattle.txn_store.specs.types.Errors.{error_number}
use Rattle.txn_store.specs.declared.types.error.TransactionalObjectError.{TransactionalObjectError}
use Rattle.txn_steps.specs.boundary.Asking.{reply_told}
use Rattle.txn_steps.specs.boundary.Checks.{check_started, check_turned}
use Rattle.txn_steps.specs.boundary.Steps.{turned_by_number, TellsErrorOf}
use Rattle.txn_steps.specs.declared.boundary.check.CheckOp.{CheckOp}
use Rattle.txn_steps.specs.declared.boundary.turned.Turned.{Turned}
use Rattle.txn_steps.specs.declared.boundary.turned.Turned.TheVariants.{Goes, Done}
use Rattle.txn_steps.specs.declared.write.WriteOp.{WriteOp}
use Rattle.txn_steps.specs.declared.write.WriteStep.{WriteStep}
use Rattle.txn_steps.specs.declared.write.WriteStep.TheVariants as steps
use Rattle.txn_steps.specs.declared.write.WriteUncheckedOp.{WriteUncheckedOp}
use Rattle.txn_steps.specs.Writes.{unchecked_started, write_started, unchecked_turned, written_turned, checked_turned, write_asked_at, write_turned_at, write_caches_at}
use Rattle.txn_steps_driven.specs.Asked.{Replies}
use Rattle.txn_steps_driven.specs.Checking.{Checked}
use Rattle.txn_steps_driven.specs.DriveRuns.{Scene, GoesOn, Drives}
use Rattle.txn_steps_driven.specs.DriveSteps.{WriteUncheckedSteps, CheckSteps, WriteSteps}
use Rattle.txn_steps_laws.specs.DrivenWrites.{write_answer, WriteFailed, WriteChecked, CheckedWriteDriven}
use Rattle.txn_steps_driven.proofs.DriveCounts.{write_within}
use Rattle.txn_steps_driven.proofs.DriveLemmas.{after_steps, write_driven}
use Rattle.txn_steps_laws.proofs.DrivenCheck.{check_driven}

-- its unchecked write, and its check
abbrev writing : Scene WriteOp → Scene WriteUncheckedOp
writing s = record { op = s.op.write; caches = s.caches; store = s.store }

abbrev checking : Scene WriteOp → Scene CheckOp
checking s = record { op = s.op.check; caches = s.caches; store = s.store }

abbrev scene_at : Scene WriteOp → CheckOp → Scene CheckOp
scene_at s op = record { op = op; caches = s.caches; store = s.store }

module _ {T : Type 0} (names : Names) (decode : List ℕ → Option T) (path : Segments) (base : Option ℕ) (bytes : List ℕ) (value : T) (reads : decode bytes ≡ Some value) (last : number_of base + 1 < 2 ^ 64) (a : Scene WriteOp) (starts : a.op ≡ write_started names path base bytes) where
  abbrev goal : ℕ
  goal = number_of base + 1

  -- the unchecked write answered this id
  abbrev HasWritten : ℕ → Scene WriteUncheckedOp → Type 0
  HasWritten id m = (n : ℕ) × (w : Scene WriteUncheckedOp) × GoesOn WriteUncheckedSteps n (writing a) w × WriteUncheckedSteps w (Done (Ok id)) m

  abbrev begun : Scene WriteUncheckedOp → Scene CheckOp
  begun m = record { op = check_started path goal; caches = m.caches; store = m.store }

  abbrev At : WriteStep → Scene WriteOp → Type 0
  At steps.Writes b = (n : ℕ) × GoesOn WriteUncheckedSteps n (writing a) (writing b) × (b.op.check ≡ check_started path goal) × (b.op.id ≡ goal)
  At steps.Checks b = (id : ℕ) × (m : Scene WriteUncheckedOp) × HasWritten id m × (k : ℕ) × GoesOn CheckSteps k (begun m) (checking b) × (b.op.id ≡ goal)

  abbrev Ends : Scene WriteOp → Result ℕ TransactionalObjectError → Type 0
  Ends c answer = WriteFailed names decode path base bytes value a c answer ⊎ WriteChecked names decode path base bytes value a c answer

  abbrev After : Scene WriteOp → Turned (Result ℕ TransactionalObjectError) → Type 0
  After c Goes = At c.op.step c
  After c (Done answer) = Ends c answer

  begins : (writing a).op ≡ unchecked_started names base bytes
  begins = ap (λ (op : WriteOp). op.write) starts

  write_fails : (b c : Scene WriteOp) (n : ℕ) (error : TransactionalObjectError) → GoesOn WriteUncheckedSteps n (writing a) (writing b) → WriteUncheckedSteps (writing b) (Done (Err error)) (writing c) → Ends c (Err error)
  write_fails b c n error on step =
      let w = write_driven names decode base bytes value (writing a) begins (n + 1) (Some (Err error)) (writing c) reads last (n, writing b, omega arith, on, step) in
      inl (record { error = error; answer_is = refl; written = w.0; same_boundary = w.1 })

  check_ends : (b c : Scene WriteOp) (id : ℕ) (m : Scene WriteUncheckedOp) (k : ℕ) (checked : Result (Unit {0}) TransactionalObjectError) (answer : Result ℕ TransactionalObjectError) → HasWritten id m → GoesOn CheckSteps k (begun m) (checking b) → CheckSteps (checking b) (Done checked) (checking c) → answer ≡ write_answer goal checked → Ends c answer
  check_ends b c id m k checked answer (n, w, on, step) checks check is =
      let written = write_driven names decode base bytes value (writing a) begins (n + 1) (Some (Ok id)) m reads last (n, w, omega arith, on, step) in
      let ended = check_driven path goal (begun m) refl (k + 1) (Some checked) (checking c) (k, checking b, omega arith, checks, check) in
      inr (record {
        id = id;
        store = m.store;
        latest = m.caches.latest;
        checked = checked;
        written = written.0;
        check = subst (λ known. Checked path goal m.store c.store known c.caches.boundary checked) written.1 ended.0;
        held = ended.1;
        answer_is = is;
      })

  module _ (b c : Scene WriteOp) (reply : Option Reply) where
    module _ (is : b.op.step ≡ steps.Writes) (at : At steps.Writes b) (served : Replies (write_asked_at steps.Writes b.op) b.store reply c.store) (leaves : c.caches ≡ write_caches_at steps.Writes b.op b.caches) where
      one : (told : Turned (Result ℕ TransactionalObjectError)) → (c.op.write, turned_by_number told) ≡ unchecked_turned b.op.write reply → TellsErrorOf (reply_told reply) told → WriteUncheckedSteps (writing b) told (writing c)
      one told takes tells = record { reply = reply; replies = served; takes = takes; leaves = leaves; error = tells }

      writes_by : (x : WriteUncheckedOp × Turned (Result ℕ ℕ)) (told : Turned (Result ℕ TransactionalObjectError)) → x ≡ unchecked_turned b.op.write reply → (c.op, turned_by_number told) ≡ written_turned b.op x → TellsErrorOf (reply_told reply) told → After c told
      writes_by (w, Goes) Goes turned takes tells =
          let op = ap (λ p. p.0) takes in
          let write : c.op.write ≡ w = ap (λ (op : WriteOp). op.write) op in
          subst (λ s. At s c) (sym (ap (λ (op : WriteOp). op.step) op ∙ is))
          (suc at.0, (writing b, at.1, one Goes (ap (λ w. (w, Goes)) write ∙ turned) tells), ap (λ (op : WriteOp). op.check) op ∙ at.2, ap (λ (op : WriteOp). op.id) op ∙ at.3)
      writes_by (w, Goes) (Done answer) turned takes tells = let e = ap (λ p. p.1) takes in absurd (cc)
      writes_by (w, Done (Ok id)) Goes turned takes tells =
          let op = ap (λ p. p.0) takes in
          let write : c.op.write ≡ w = ap (λ (op : WriteOp). op.write) op in
          let check : c.op.check ≡ check_started path goal = ap (λ (op : WriteOp). op.check) op ∙ at.2 in
          subst (λ s. At s c) (sym (ap (λ (op : WriteOp). op.step) op))
          (id, writing c, (at.0, writing b, at.1, one (Done (Ok id)) (ap (λ w. (w, Done (Ok id))) write ∙ turned) tt), 0, ap (scene_at c) check, ap (λ (op : WriteOp). op.id) op ∙ at.3)
      writes_by (w, Done (Ok id)) (Done (Ok n)) turned takes tells = let e = ap (λ p. p.1) takes in absurd (cc)
      writes_by (w, Done (Ok id)) (Done (Err error)) turned takes tells = let e = ap (λ p. p.1) takes in absurd (cc)
      writes_by (w, Done (Err number)) Goes turned takes tells = let e = ap (λ p. p.1) takes in absurd (cc)
      writes_by (w, Done (Err number)) (Done (Ok n)) turned takes tells = let e = ap (λ p. p.1) takes in absurd (cc)
      writes_by (w, Done (Err number)) (Done (Err error)) turned takes tells =
          let write : c.op.write ≡ w = ap (λ p. p.0.write) takes in
          write_fails b c at.0 error at.1 (one (Done (Err error)) (ap (λ w. (w, Done (Err (error_number error)))) write ∙ (ap (λ p. (w, p.1)) takes ∙ turned)) tells)

    module _ (is : b.op.step ≡ steps.Checks) (at : At steps.Checks b) (served : Replies (write_asked_at steps.Checks b.op) b.store reply c.store) (leaves : c.caches ≡ write_caches_at steps.Checks b.op b.caches) where
      checks : (told : Turned (Result (Unit {0}) TransactionalObjectError)) → (c.op.check, turned_by_number told) ≡ check_turned b.op.check b.caches reply → TellsErrorOf (reply_told reply) told → CheckSteps (checking b) told (checking c)
      checks told takes tells = record { reply = reply; replies = served; takes = takes; leaves = leaves; error = tells }

      checks_by : (x : CheckOp × Turned (Result (Unit {0}) ℕ)) (told : Turned (Result ℕ TransactionalObjectError)) → x ≡ check_turned b.op.check b.caches reply → (c.op, turned_by_number told) ≡ checked_turned b.op x → TellsErrorOf (reply_told reply) told → After c told
      checks_by (k, Goes) Goes turned takes tells =
          let op = ap (λ p. p.0) takes in
          let check : c.op.check ≡ k = ap (λ (op : WriteOp). op.check) op in
          subst (λ s. At s c) (sym (ap (λ (op : WriteOp). op.step) op ∙ is))
          (at.0, at.1, at.2, suc at.3, (checking b, at.4, checks Goes (ap (λ k. (k, Goes)) check ∙ turned) tells), ap (λ (op : WriteOp). op.id) op ∙ at.5)
      checks_by (k, Goes) (Done answer) turned takes tells = let e = ap (λ p. p.1) takes in absurd (cc)
      checks_by (k, Done (Ok accepted)) Goes turned takes tells = let e = ap (λ p. p.1) takes in absurd (cc)
      checks_by (k, Done (Ok accepted)) (Done (Err error)) turned takes tells = let e = ap (λ p. p.1) takes in absurd (cc)
      checks_by (k, Done (Ok accepted)) (Done (Ok n)) turned takes tells =
          let check : c.op.check ≡ k = ap (λ p. p.0.check) takes in
          let e = ap (λ p. p.1) takes in
          let same : n ≡ b.op.id = cc in
          check_ends b c at.0 at.1 at.3 (Ok accepted) (Ok n) at.2 at.4 (checks (Done (Ok accepted)) (ap (λ k. (k, Done (Ok accepted))) check ∙ turned) tt) (ap Ok (same ∙ at.5))
      checks_by (k, Done (Err number)) Goes turned takes tells = let e = ap (λ p. p.1) takes in absurd (cc)
      checks_by (k, Done (Err number)) (Done (Ok n)) turned takes tells = let e = ap (λ p. p.1) takes in absurd (cc)
      checks_by (k, Done (Err number)) (Done (Err error)) turned takes tells =
          let check : c.op.check ≡ k = ap (λ p. p.0.check) takes in
          let e = ap (λ p. p.1) takes in
          let same : error_number error ≡ number = cc in
          check_ends b c at.0 at.1 at.3 (Err error) (Err error) at.2 at.4 (checks (Done (Err error)) (ap (λ k. (k, Done (Err (error_number error)))) check ∙ (ap (λ n. (k, Done (Err n))) same ∙ turned)) tells) refl

    by_step : (s : WriteStep) (told : Turned (Result ℕ TransactionalObjectError)) → b.op.step ≡ s → At s b → Replies (write_asked_at s b.op) b.store reply c.store → (c.op, turned_by_number told) ≡ write_turned_at s b.op b.caches reply → c.caches ≡ write_caches_at s b.op b.caches → TellsErrorOf (reply_told reply) told → After c told
    by_step steps.Writes told is at served takes leaves tells = writes_by is at served leaves (unchecked_turned b.op.write reply) told refl takes tells
    by_step steps.Checks told is at served takes leaves tells = checks_by is at served leaves (check_turned b.op.check b.caches reply) told refl takes tells

  stepped : (b c : Scene WriteOp) (told : Turned (Result ℕ TransactionalObjectError)) → At b.op.step b → WriteSteps b told c → After c told
  stepped b c told at step = by_step b c step.reply b.op.step told refl at step.replies step.takes step.leaves step.error

  write_on : (n : ℕ) (b : Scene WriteOp) → GoesOn WriteSteps n a b → At b.op.step b
  write_on = after_steps WriteSteps (λ n b. At b.op.step b) a
      (subst (λ s. At s a) (sym (ap (λ (op : WriteOp). op.step) starts)) (0, refl, ap (λ (op : WriteOp). op.check) starts, ap (λ (op : WriteOp). op.id) starts))
      (λ n b c at step. stepped b c Goes at step)

  pub checked_write_driven : (steps : ℕ) (result : Option (Result ℕ TransactionalObjectError)) (b : Scene WriteOp) → Drives WriteSteps steps a result b → CheckedWriteDriven names decode path base bytes value steps a result b
  checked_write_driven steps None b on = write_within names path base bytes steps a b None starts on
  checked_write_driven steps (Some answer) c (n, b, within, on, step) = stepped b c (Done answer) (write_on n b on) step
