-- What a look or a serve leaves a write with, once its parts are known.
use Rattle.std.proofs.Common.{◌≡◌, ℕ, ◌+◌, ◌<◌, ◌≤◌, List, Option, Ok, Err, Result, ◌⊎◌, inl, inr, refl, sym, ◌∙◌, subst, arith}
use Rattle.txn_store.specs.Store.{State as StoreState}
use Rattle.txn_store.specs.types.Numbers.{number_of}
use Rattle.txn_steps.specs.declared.boundary.caches.Cached.{Cached}
use Rattle.txn_steps.specs.declared.boundary.caches.CachedBoundary.{CachedBoundary}
use Rattle.txn_steps.specs.declared.boundary.check.CheckOp.{CheckOp}
use Rattle.txn_steps.specs.declared.boundary.turned.Turned.{Turned}
use Rattle.txn_steps.specs.declared.boundary.turned.Turned.TheVariants.{Goes, Done}
use Rattle.txn_steps.specs.boundary.Checks.{check_started}
use Rattle.txn_steps.specs.declared.write.WriteUncheckedOp.{WriteUncheckedOp}
use Rattle.txn_steps.specs.declared.write.WriteStep.{WriteStep}
use Rattle.txn_steps.specs.declared.write.WriteStep.TheVariants as writes
use Rattle.txn_steps.specs.declared.write.WriteOp.{WriteOp}
use Rattle.txn_steps.specs.Writes.{at_write, at_check, written_turned, checked_turned}
use Rattle.txn_history.specs.declared.event.PlainCall.{PlainCall}
use Rattle.txn_history.specs.declared.event.PlainCall.TheVariants as calls
use Rattle.txn_history.specs.declared.event.PlainAnswer.TheVariants as answers
use Rattle.txn_history.specs.Trace.{PlainRow}
use Rattle.txn_history.specs.Names.{world_boundary}
use Rattle.txn_history.specs.History.{newest, boundary}
use Rattle.txn_history.specs.Facts.{Created, Entered}
use Rattle.txn_machine.specs.plain.PlainHistory.{AnswerFits}
use Rattle.txn_machine.specs.declared.plain.doing.PlainDoing.TheVariants.{Write, WriteUnchecked}
use Rattle.txn_machine.specs.plain.Doing.{write_next, unchecked_next}
use Rattle.txn_machine.proofs.plain.Stands.{CheckStands, Only, IsWriteOf, CreatedStands, WrittenStands, WriteStands, Runs, TurnStands}
use Rattle.txn_machine.proofs.plain.Turns.{no_id, one_id, ended, goes_on, lacking, CheckTells, UncheckedTells}

module _ {T : Type 0} (decode : List ℕ → Option T) (get_epoch : T → ℕ) where
  -- a write that has created its version, but for its check
  pub record Written (rows : List (PlainRow T)) (op : ℕ) (call : PlainCall T) (write : WriteOp) : Type 0 where
    pub base : Option ℕ
    pub value : T
    pub call_is : call ≡ calls.Write base value
    pub next : write.id ≡ number_of base + 1
    pub known : write.id ≤ newest rows
    pub only : Only rows op write.id

  abbrev pub written_of : (rows : List (PlainRow T)) (store : StoreState) (cached : Option CachedBoundary) (op : ℕ) (call : PlainCall T) (write : WriteOp) → WrittenStands decode get_epoch rows store cached op call write → Written rows op call write
  written_of rows store cached op call write w = record { base = w.base; value = w.value; call_is = w.call_is; next = w.next; known = w.known; only = w.only }

module _ {T : Type 0} (decode : List ℕ → Option T) (get_epoch : T → ℕ) (failed : List ℕ) (rows : List (PlainRow T)) (store : StoreState) (cached : Option CachedBoundary) (op : ℕ) (call : PlainCall T) (r : Runs decode get_epoch rows op call) where
  -- a check that begins
  pub check_begins : (id : ℕ) (Q : Type 0) (check : CheckOp) → check ≡ check_started world_boundary id → (id ≤ boundary rows) ⊎ Q → CheckStands rows store cached id Q check
  check_begins id Q check is open' = subst (λ (c : CheckOp). CheckStands rows store cached id Q c) (sym is) (refl, (refl, open'))

  -- its call writes with a check
  as_write : (base own : Option ℕ) (value mine : T) → IsWriteOf call base value → call ≡ calls.Write own mine → call ≡ calls.Write base value
  as_write base own value mine (inl e) is = e
  as_write base own value mine (inr e) is = absurd (let clash : calls.WriteUnchecked base value ≡ calls.Write own mine = sym e ∙ is in cc)

  -- and this one without
  as_unchecked : (base own : Option ℕ) (value mine : T) → IsWriteOf call base value → call ≡ calls.WriteUnchecked own mine → call ≡ calls.WriteUnchecked base value
  as_unchecked base own value mine (inr e) is = e
  as_unchecked base own value mine (inl e) is = absurd (let clash : calls.Write base value ≡ calls.WriteUnchecked own mine = sym e ∙ is in cc)

  -- what is created and cached is checked
  written_checks : (write : WriteOp) (unchecked : WriteUncheckedOp) (own : Option ℕ) (mine : T) (version : Cached) → write.check ≡ check_started world_boundary write.id → call ≡ calls.Write own mine → CreatedStands decode get_epoch rows op call write.id version →
      WrittenStands decode get_epoch rows store cached op call (at_write write writes.Checks unchecked)
  written_checks write unchecked own mine version started is c =
      let same = c.id_is in
      record {
        base = c.base;
        value = c.value;
        call_is = as_write c.base own c.value mine c.call_is is;
        next = sym same ∙ c.next;
        known = omega (arith, same, c.carried.known.1);
        only = subst (Only rows op) same c.only;
        checks = check_begins write.id (Entered decode rows op write.id c.value) write.check started (subst (λ (n : ℕ). (n ≤ boundary rows) ⊎ Entered decode rows op n c.value) same c.own);
      }

  -- after a step of the write without its check
  pub written_told : (write : WriteOp) (told : WriteUncheckedOp × Turned (Result ℕ ℕ)) (own : Option ℕ) (mine : T) → write.step ≡ writes.Writes → write.check ≡ check_started world_boundary write.id → call ≡ calls.Write own mine →
      UncheckedTells decode get_epoch failed rows op call write.id told → TurnStands decode get_epoch failed rows store cached op call (write_next (written_turned write told))
  written_told write (unchecked, Goes) own mine at started is h =
      let next = at_write write write.step unchecked in
      goes_on decode get_epoch failed rows store cached op call (Write next) r tt (subst (λ (st : WriteStep). WriteStands decode get_epoch rows store cached op call st next) (sym at) (h, started, own, mine, is))
  written_told write (unchecked, Done (Ok n)) own mine at started is h =
      goes_on decode get_epoch failed rows store cached op call (Write (at_write write writes.Checks unchecked)) r tt (written_checks write unchecked own mine h.1 started is h.2)
  written_told write (unchecked, Done (Err number)) own mine at started is h = ended decode get_epoch failed rows store cached op call (answers.Refused number) r h (no_id rows (answers.Refused number) (λ test. refl))

  overtaken : (write : WriteOp) → (w : Written decode get_epoch rows op call write) → write.id ≤ boundary rows → AnswerFits decode get_epoch failed rows op call (answers.Refused 5)
  overtaken write w below =
      let longer : number_of w.base < newest rows = omega (arith, w.next, w.known) in
      subst (λ (c : PlainCall T). AnswerFits decode get_epoch failed rows op c (answers.Refused 5)) (sym w.call_is)
      (inl (inl (refl, record { longer = longer; fenced = λ n value e. (let is = w.only e.create.place e.create.request (n, e.create.bytes) e.create.effect e.create.creates in omega (arith, is, below)) })))

  -- after a step of its check
  pub checked_told : (write : WriteOp) (told : CheckOp × Turned (Result (Unit {0}) ℕ)) → write.step ≡ writes.Checks → (w : Written decode get_epoch rows op call write) →
      CheckTells rows store cached write.id (Entered decode rows op write.id w.value) told → TurnStands decode get_epoch failed rows store cached op call (write_next (checked_turned write told))
  checked_told write (check, Goes) at w h =
      let next = at_check write check in
      goes_on decode get_epoch failed rows store cached op call (Write next) r tt (subst (λ (st : WriteStep). WriteStands decode get_epoch rows store cached op call st next) (sym at)
      (record { base = w.base; value = w.value; call_is = w.call_is; next = w.next; known = w.known; only = w.only; checks = h }))
  checked_told write (check, Done (Ok accepted)) at w h =
      let fits : AnswerFits decode get_epoch failed rows op (calls.Write w.base w.value) (answers.Wrote write.id) = h in
      ended decode get_epoch failed rows store cached op call (answers.Wrote write.id) r (subst (λ (c : PlainCall T). AnswerFits decode get_epoch failed rows op c (answers.Wrote write.id)) (sym w.call_is) fits)
      (one_id rows (answers.Wrote write.id) write.id (omega (arith, w.next), w.known) (λ test. refl))
  checked_told write (check, Done (Err number)) at w (inl h) =
      subst (λ (m : ℕ). TurnStands decode get_epoch failed rows store cached op call (write_next (checked_turned write (check, Done (Err m))))) (sym h.0)
      (ended decode get_epoch failed rows store cached op call (answers.Refused 5) r (overtaken write w h.1) (no_id rows (answers.Refused 5) (λ test. refl)))
  checked_told write (check, Done (Err number)) at w (inr h) =
      subst (λ (m : ℕ). TurnStands decode get_epoch failed rows store cached op call (write_next (checked_turned write (check, Done (Err m))))) (sym h) (lacking decode get_epoch failed rows store cached op call r)

  -- after a step of an unchecked write
  pub unchecked_told : (told : WriteUncheckedOp × Turned (Result ℕ ℕ)) (id : ℕ) (own : Option ℕ) (mine : T) → call ≡ calls.WriteUnchecked own mine → UncheckedTells decode get_epoch failed rows op call id told →
      TurnStands decode get_epoch failed rows store cached op call (unchecked_next told)
  unchecked_told (unchecked, Goes) id own mine is h = goes_on decode get_epoch failed rows store cached op call (WriteUnchecked unchecked) r tt ((id, h), own, mine, is)
  unchecked_told (unchecked, Done (Ok n)) id own mine is h =
      let c = h.2 in
      let same : n ≡ h.1.id = h.0 ∙ sym c.id_is in
      let known = c.carried.known in
      let made : Created rows op n = subst (Created rows op) (sym same) c.made in
      let fits : AnswerFits decode get_epoch failed rows op (calls.WriteUnchecked c.base c.value) (answers.Wrote n) = (made, same ∙ c.next, omega (arith, same, known.1)) in
      ended decode get_epoch failed rows store cached op call (answers.Wrote n) r (subst (λ (c' : PlainCall T). AnswerFits decode get_epoch failed rows op c' (answers.Wrote n)) (sym (as_unchecked c.base own c.value mine c.call_is is)) fits)
      (one_id rows (answers.Wrote n) n (omega (arith, same, known.0), omega (arith, same, known.1)) (λ test. refl))
  unchecked_told (unchecked, Done (Err number)) id own mine is h = ended decode get_epoch failed rows store cached op call (answers.Refused number) r h (no_id rows (answers.Refused number) (λ test. refl))
