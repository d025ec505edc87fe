-- An answer that fits an operation of the machine fits its owner, and so does a legal effect.
use Rattle.std.proofs.Common.{◌≡◌, ℕ, ◌<◌, ◌≤◌, List, nat_eq, true, false, Option, Some, None, inl, inr, arith}
use Rattle.std.specs.List.{list_any}
use Rattle.txn_history.specs.declared.event.PlainCall.{PlainCall}
use Rattle.txn_history.specs.declared.event.PlainCall.TheVariants as calls
use Rattle.txn_history.specs.declared.event.PlainAnswer.{PlainAnswer}
use Rattle.txn_history.specs.declared.event.PlainAnswer.TheVariants as answers
use Rattle.txn_history.specs.declared.trace.RowOf.{RowOf}
use Rattle.txn_history.specs.History.{is_stored, boundary}
use Rattle.txn_history.specs.Facts.{WriteRefused, FailureFits, PlainSucceeds, PlainRefuses}
use Rattle.txn_machine.specs.plain.PlainHistory.{AnswerFits}
use Rattle.txn_machine.proofs.views.Tied.{Tied, lift_at, same_newest, same_boundary, same_stored}
use Rattle.txn_machine.proofs.views.Inner.{PastFenced, created_by_owner, entered_by_owner, newest_of_owner, empty_of_owner, found_of_owner, lists_of_owner, overtaken_of_owner, no_tokens_both}

module _ {C A D B T : Type 0} (decode : List ℕ → Option T) (get_epoch : T → ℕ) (owner : ℕ → ℕ) (failed told : List ℕ) (fine : List (RowOf C A)) (rows : List (RowOf D B)) (tied : Tied owner fine rows) (op : ℕ) (noted : list_any (nat_eq op) failed ≡ true → list_any (nat_eq (owner op)) told ≡ true) (past : PastFenced decode owner fine rows tied op) where
  pub fails_of_owner : (number : ℕ) → FailureFits failed op number → FailureFits told (owner op) number
  fails_of_owner number (inl h) = inl (h.0, noted h.1)
  fails_of_owner number (inr h) = inr h

  pub write_refused : (base : Option ℕ) (number : ℕ) → WriteRefused decode fine op base number → WriteRefused decode rows (owner op) base number
  write_refused base number (inl h) = inl (h.0, overtaken_of_owner decode owner fine rows tied op base past h.1)
  write_refused base number (inr (inl h)) = inr (inl (h.0, no_tokens_both decode owner fine rows tied op h.1))
  write_refused base number (inr (inr h)) = inr (inr h)

  reaches : (id : ℕ) → id ≤ boundary fine → id ≤ boundary rows
  reaches id h = (let low = same_boundary owner fine rows tied.top in omega (arith, h, low))

  succeeds : (call : PlainCall T) (answer : PlainAnswer T) → PlainSucceeds decode fine op call answer → PlainSucceeds decode rows (owner op) call answer
  succeeds (calls.Write base value) (answers.Wrote n) h = entered_by_owner decode owner fine rows tied op n value h
  succeeds (calls.WriteUnchecked base value) (answers.Wrote n) h = (created_by_owner decode owner fine rows tied op n h.0, h.1, (let le = h.2 in let up = same_newest owner fine rows tied.top in omega (arith, le, up)))
  succeeds calls.Read (answers.Read None) h = empty_of_owner decode owner fine rows tied op h
  succeeds calls.Read (answers.Read (Some found)) h = newest_of_owner decode owner fine rows tied op found.0 found.1 h
  succeeds (calls.ReadUnchecked id) (answers.Value found) (inl h) = inl (reaches id h)
  succeeds (calls.ReadUnchecked id) (answers.Value found) (inr h) = inr (found_of_owner decode owner fine rows tied op id found h)
  succeeds (calls.ReadSeen id) (answers.Value found) (inl h) = inl (reaches id h)
  succeeds (calls.ReadSeen id) (answers.Value found) (inr h) = inr (found_of_owner decode owner fine rows tied op id found h)
  succeeds (calls.ListIds from to) (answers.Ids ids) h = lists_of_owner decode owner fine rows tied op from to ids h
  succeeds (calls.Delete id) answers.Done h = lift_at owner fine rows op (λ f. (id ≤ boundary f) × (is_stored f id ≡ false)) (λ g. (id ≤ boundary g) × (is_stored g id ≡ false)) tied (λ f g a e. ((let low = same_boundary owner f g a in let le = e.0 in omega (arith, low, le)), rw (same_stored owner f g a) e.1)) h
  succeeds (calls.Check id) answers.Done h = lift_at owner fine rows op (λ f. boundary f < id) (λ g. boundary g < id) tied (λ f g a lt. (let low = same_boundary owner f g a in omega (arith, low, lt))) h
  succeeds (calls.Advance to) answers.Done h = reaches to h
  succeeds _ _ h = absurd h

  refuses : (call : PlainCall T) (number : ℕ) → PlainRefuses decode fine op call number → PlainRefuses decode rows (owner op) call number
  refuses (calls.Write base value) number h = write_refused base number h
  refuses (calls.WriteUnchecked base value) number h = write_refused base number h
  refuses (calls.Delete id) number h = (h.0, lift_at owner fine rows op (λ f. boundary f < id) (λ g. boundary g < id) tied (λ f g a lt. (let low = same_boundary owner f g a in omega (arith, low, lt))) h.1)
  refuses (calls.Check id) number h = (h.0, reaches id h.1)
  refuses (calls.Advance to) number h = (h.0, no_tokens_both decode owner fine rows tied op h.1)
  refuses _ number h = absurd h

  -- an answer of a plain call that fits the operation fits its owner
  pub plain_fits : (call : PlainCall T) (answer : PlainAnswer T) → AnswerFits decode get_epoch failed fine op call answer → AnswerFits decode get_epoch told rows (owner op) call answer
  plain_fits call (answers.Refused number) (inl h) = inl (refuses call number h)
  plain_fits call (answers.Refused number) (inr h) = inr (fails_of_owner number h)
  plain_fits call (answers.Wrote n) h = succeeds call (answers.Wrote n) h
  plain_fits call (answers.Read found) h = succeeds call (answers.Read found) h
  plain_fits call (answers.Value found) h = succeeds call (answers.Value found) h
  plain_fits call (answers.Ids ids) h = succeeds call (answers.Ids ids) h
  plain_fits call answers.Done h = succeeds call answers.Done h
