-- What stands in a journal, row by row.
use Rattle.std.proofs.Common.{◌≡◌, ℕ, ◌+◌, ◌<◌, ◌≤◌, List, ◌∷◌, ◌++◌, length, drop, get_or, Option, refl, sym, ◌∙◌, ap, arith}
use Rattle.std.proofs.lemmas.List.{append_assoc, append-nil, drop_more, drop_all}
use Rattle.txn_history.specs.declared.event.Answer.{Answer}
use Rattle.txn_client_journals.specs.declared.rows.Act.TheVariants as acts
use Rattle.txn_client_journals.specs.declared.rows.Receipt.{Receipt}
use Rattle.txn_client_journals.specs.declared.rows.Step.{Step}
use Rattle.txn_client_journals.specs.declared.rows.Step.TheVariants as steps
use Rattle.txn_client_journals.specs.declared.rows.JournalRow.{JournalRow}
use Rattle.txn_client_journals.specs.Verdict.{received_by, receipts_in}
use Rattle.txn_diary.specs.Reading.{op_of, begun_by, with_answer, answers_from, receipt_of, as_receipts}

module _ {T : Type 0} where
  -- what is at a place, and then the rest
  here : (rows : List (JournalRow T)) (i : ℕ) (row : JournalRow T) → i < length rows → row ≡ get_or rows i row → drop i rows ≡ row ∷ drop (i + 1) rows
  here rows i row lt is = drop_more rows i row lt ∙ ap (λ r. r ∷ drop (i + 1) rows) (sym is)

  -- a step begins one operation at most
  pub begun_below : (begun : ℕ) (step : Step T) → begun_by begun step ≤ begun + 1
  begun_below begun (steps.Begin call) = omega arith
  begun_below begun (steps.Act op act) = omega arith
  begun_below begun (steps.Killed lefts) = omega arith

  -- the answers of one row more
  pub answers_more : (rows : List (JournalRow T)) (i begun op next : ℕ) (row : JournalRow T) (before after all : List (ℕ × Answer T)) → i < length rows → row ≡ get_or rows i row → op ≡ op_of begun row.step → next ≡ begun_by begun row.step → after ≡ before ++ with_answer op row.answer →
      before ++ answers_from begun (drop i rows) ≡ all → after ++ answers_from next (drop (i + 1) rows) ≡ all
  answers_more rows i begun op next row before after all lt is o n adds so_far =
      let more = with_answer (op_of begun row.step) row.answer in
      let rest = answers_from (begun_by begun row.step) (drop (i + 1) rows) in
      ap (λ k. after ++ answers_from k (drop (i + 1) rows)) n ∙ (ap (λ xs. xs ++ rest) (adds ∙ ap (λ k. before ++ with_answer k row.answer) o)
      ∙ (append_assoc before more rest ∙ (ap (λ rs. before ++ answers_from begun rs) (sym (here rows i row lt is)) ∙ so_far)))

  pub answers_all : (rows : List (JournalRow T)) (i begun : ℕ) (before all : List (ℕ × Answer T)) → length rows ≤ i → before ++ answers_from begun (drop i rows) ≡ all → before ≡ all
  answers_all rows i begun before all le so_far = sym (append-nil before) ∙ (ap (λ rs. before ++ answers_from begun rs) (sym (drop_all i rows le)) ∙ so_far)

  received : (step : Step T) (receipts : List Receipt) → as_receipts (receipt_of step) ++ receipts ≡ received_by step receipts
  received (steps.Begin call) receipts = refl
  received (steps.Killed lefts) receipts = refl
  received (steps.Act op acts.Look) receipts = refl
  received (steps.Act op (acts.Receive receipt)) receipts = refl
  received (steps.Act op acts.Lacks) receipts = refl
  received (steps.Act op (acts.GiveUp left)) receipts = refl
  received (steps.Act op (acts.Fails request)) receipts = refl

  -- the receipts of one row more
  pub receipts_more : (rows : List (JournalRow T)) (i : ℕ) (row : JournalRow T) (receipt : Option Receipt) (before after all : List Receipt) → i < length rows → row ≡ get_or rows i row → receipt ≡ receipt_of row.step → after ≡ before ++ as_receipts receipt → before ++ receipts_in (drop i rows) ≡ all → after ++ receipts_in (drop (i + 1) rows) ≡ all
  receipts_more rows i row receipt before after all lt is r adds so_far =
      let rest = receipts_in (drop (i + 1) rows) in
      ap (λ xs. xs ++ rest) (adds ∙ ap (λ o. before ++ as_receipts o) r) ∙ (append_assoc before (as_receipts (receipt_of row.step)) rest ∙ (ap (λ xs. before ++ xs) (received row.step rest) ∙ (ap (λ rs. before ++ receipts_in rs) (sym (here rows i row lt is)) ∙ so_far)))

  pub receipts_all : (rows : List (JournalRow T)) (i : ℕ) (before all : List Receipt) → length rows ≤ i → before ++ receipts_in (drop i rows) ≡ all → before ≡ all
  receipts_all rows i before all le so_far = sym (append-nil before) ∙ (ap (λ rs. before ++ receipts_in rs) (sym (drop_all i rows le)) ∙ so_far)
