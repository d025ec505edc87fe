-- What the answer of a write or a read of the machine owes the layer.
use Rattle.std.proofs.Common.{◌≡◌, ℕ, ◌+◌, List, take, nat_eq, true, Option, Some, None, ◌⊎◌, inl, inr, refl, sym, ◌∙◌, ap, subst}
use Rattle.std.specs.List.{list_any}
use Rattle.std.proofs.lemmas.Bool.{both_ways}
use Rattle.txn_history.specs.declared.event.PlainCall.{PlainCall}
use Rattle.txn_history.specs.declared.event.PlainCall.TheVariants as calls
use Rattle.txn_history.specs.declared.event.PlainAnswer.{PlainAnswer}
use Rattle.txn_history.specs.declared.event.PlainAnswer.TheVariants as answers
use Rattle.txn_history.specs.declared.trace.RowOf.TheVariants.{Effect, Begun}
use Rattle.txn_history.specs.History.{has_id, versions_of, newest}
use Rattle.txn_history.specs.Calls.{IsCall}
use Rattle.txn_history.specs.Facts.{base_on, Entered}
use Rattle.txn_machine.specs.plain.PlainHistory.{WritesOn, Appends, Recreates, AnswerFits, IsOneHistory}
use Rattle.txn_history.proofs.Legal.{put_of_legal}
use Rattle.txn_history.proofs.Fronts.{of_front}
use Rattle.txn_history.proofs.Numbered.{one_call}
use Rattle.txn_history.specs.Trace.{Row, PlainRow}
use Rattle.txn_machine.specs.views.Layer.{Writes, Reads}
use Rattle.txn_machine.specs.views.Parts.{Inside, Wrote, Found, Nothing, Refused, InsideFits}
use Rattle.txn_machine.proofs.views.Tied.{Tied}
use Rattle.txn_machine.proofs.views.Inner.{PastFenced, entered_by_owner, newest_of_owner, empty_of_owner}
use Rattle.txn_machine.proofs.views.Carried.{fails_of_owner, write_refused}
use Rattle.txn_machine.proofs.views.Owed.{same_base}

module _ {T : Type 0} (decode : List ℕ → Option T) (get_epoch : T → ℕ) where
  -- a write's entry is next to its base
  pub own_next : (failed : List ℕ) (fine : List (PlainRow T)) → IsOneHistory decode get_epoch failed fine → (op base id : ℕ) (value v : T) → IsCall fine op (calls.Write (base_on base) value) → Entered decode fine op id v → id ≡ base + 1
  own_next failed fine good op base id value v called e =
      let c = e.create in
      by (take c.place fine) c.bytes refl (put_of_legal decode get_epoch _ _ _ (take c.place fine) op c.request (id, c.bytes) c.creates (good c.place (Effect op c.request) c.effect))
    where
      by : (front : List (PlainRow T)) (bytes : List ℕ) → front ≡ take e.create.place fine → Appends decode get_epoch front op id bytes ⊎ Recreates decode get_epoch front op id bytes → id ≡ base + 1
      by front bytes is (inr r) = absurd (both_ways _ e.first (subst (λ (rows : List (PlainRow T)). has_id (versions_of rows) id ≡ true) is r.again))
      by front bytes is (inl a) =
          let had : IsCall (take e.create.place fine) op a.call = subst (λ (rows : List (PlainRow T)). IsCall rows op a.call) is a.called in
          let there : IsCall fine op a.call = (had.0, (of_front fine e.create.place had.0 (Begun op a.call) had.1).0) in
          let one = one_call fine (λ k o call begun. (good k (Begun o call) begun).next) op a.call (calls.Write (base_on base) value) there called in
          let w : WritesOn decode get_epoch front op (calls.Write (base_on base) value) (newest front) a.value = subst (λ (call : PlainCall T). WritesOn decode get_epoch front op call (newest front) a.value) one a.written in
          a.next ∙ ap (λ (n : ℕ). n + 1) (sym (same_base base (newest front) w.0))

module _ {T : Type 0} where
  -- the answer as one of a write or a read
  abbrev pub inside : PlainAnswer T → Inside T
  inside (answers.Wrote id) = Wrote id
  inside (answers.Read None) = Nothing
  inside (answers.Read (Some found)) = Found found.0 found.1
  inside (answers.Refused number) = Refused number
  inside answer = Nothing

module _ {T : Type 0} (decode : List ℕ → Option T) (get_epoch : T → ℕ) (owner : ℕ → ℕ) (failed told : List ℕ) (fine : List (PlainRow T)) (rows : List (Row T)) (tied : Tied owner fine rows) (op : ℕ) (noted : list_any (nat_eq op) failed ≡ true → list_any (nat_eq (owner op)) told ≡ true) (past : PastFenced decode owner fine rows tied op) where
  pub write_fits : (base epoch : ℕ) (value : T) (answer : PlainAnswer T) → IsOneHistory decode get_epoch failed fine → IsCall fine op (calls.Write (base_on base) value) → AnswerFits decode get_epoch failed fine op (calls.Write (base_on base) value) answer → InsideFits decode told rows (owner op) (Writes base value epoch) (inside answer)
  write_fits base epoch value (answers.Wrote id) good called h = (own_next decode get_epoch failed fine good op base id value value called h, entered_by_owner decode owner fine rows tied op id value h)
  write_fits base epoch value (answers.Refused number) good called (inl h) = inl (write_refused decode get_epoch owner failed told fine rows tied op noted past (base_on base) number h)
  write_fits base epoch value (answers.Refused number) good called (inr h) = inr (fails_of_owner decode get_epoch owner failed told fine rows tied op noted past number h)
  write_fits base epoch value _ good called h = absurd h

  pub read_fits : (answer : PlainAnswer T) → AnswerFits decode get_epoch failed fine op calls.Read answer → InsideFits decode told rows (owner op) Reads (inside answer)
  read_fits (answers.Read None) h = empty_of_owner decode owner fine rows tied op h
  read_fits (answers.Read (Some found)) h = newest_of_owner decode owner fine rows tied op found.0 found.1 h
  read_fits (answers.Refused number) (inl h) = absurd h
  read_fits (answers.Refused number) (inr h) = fails_of_owner decode get_epoch owner failed told fine rows tied op noted past number h
  read_fits _ h = absurd h
