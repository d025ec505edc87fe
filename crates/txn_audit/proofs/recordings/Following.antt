-- A recording that is followed row by row.
use Rattle.std.proofs.Common.{◌≡◌, ◌≤◌, ◌<◌, ◌+◌, ℕ, List, [], ◌∷◌, ◌++◌, Some, length, drop, get_or, slice_get, refl, sym, ◌∙◌, ap, subst}
use Rattle.std.proofs.lemmas.List.{append_assoc, append-nil, drop_more, drop_all}
use Rattle.txn_client_journals.specs.declared.rows.JournalRow.{JournalRow}
use Rattle.txn_script_lines.specs.Printed.{answered_text}
use Rattle.txn_audit_recordings.specs.declared.row.RecordedRow.{RecordedRow}
use Rattle.txn_audit_recordings.specs.declared.row.RecordedRow.TheVariants as kinds
use Rattle.txn_audit.specs.declared.recordings.stage.Stage.{Stage}
use Rattle.txn_audit.specs.declared.recordings.stage.Stage.TheVariants as stages
use Rattle.txn_audit.specs.recordings.Told.{RowTold, row_tells, recording_tells, journal_tells}
use Rattle.txn_audit.specs.recordings.Stages.{all_begun, IsAt, Stands, Goes}

module _ {T : Type 0} where
  -- what has been told at a place, and with the rows that are left all that the recording tells after its first row
  pub record IsOnTheWay (text : T → List ℕ) (rows : List (RecordedRow T)) (place : ℕ) (recorded : List (RowTold T)) (after : List (JournalRow T)) (begun : ℕ) (stage : Stage) : Type 0 where
    pub so_far : List (RowTold T)
    pub stands : Stands text so_far after begun stage
    pub whole : so_far ++ recording_tells (drop place rows) ≡ recorded ++ recording_tells (drop 1 rows)

  -- the rows before a place lead from one stage to another
  abbrev pub Leads : (T → List ℕ) → List (RecordedRow T) → ℕ → List (JournalRow T) → ℕ → Stage → List (JournalRow T) → ℕ → Stage → Type 0
  Leads text rows place before begun stage after begun_then then =
      (recorded : List (RowTold T)) → Stands text recorded before begun stage → IsOnTheWay text rows place recorded after begun_then then

  -- before the second row
  pub leads_first : (text : T → List ℕ) (rows : List (RecordedRow T)) (before : List (JournalRow T)) (begun : ℕ) (stage : Stage) → Leads text rows 1 before begun stage before begun stage
  leads_first text rows before begun stage recorded stands = record { so_far = recorded; stands = stands; whole = refl }

  -- one row more
  pub leads_more : (text : T → List ℕ) (rows : List (RecordedRow T)) (place : ℕ) (row : RecordedRow T) (before now after : List (JournalRow T)) (k l m : ℕ) (s t u : Stage) → place < length rows → row ≡ get_or rows place row → Leads text rows place before k s now l t → Goes text (row_tells row) now l t after m u → Leads text rows (place + 1) before k s after m u
  leads_more text rows place row before now after k l m s t u lt is leads goes recorded stands =
      let on = leads recorded stands in
      let rest = recording_tells (drop (place + 1) rows) in
      record {
        so_far = on.so_far ++ row_tells row;
        stands = goes on.so_far on.stands;
        whole = append_assoc on.so_far (row_tells row) rest ∙ (ap (λ rs. on.so_far ++ recording_tells rs) (sym (drop_more rows place row lt ∙ ap (λ r. r ∷ drop (place + 1) rows) (sym is))) ∙ on.whole);
      }

  -- after the last row
  pub leads_all : (text : T → List ℕ) (rows : List (RecordedRow T)) (place : ℕ) (before after : List (JournalRow T)) (k m : ℕ) (s u : Stage) → length rows ≤ place → Leads text rows place before k s after m u → Goes text (recording_tells (drop 1 rows)) before k s after m u
  leads_all text rows place before after k m s u le leads recorded stands =
      let on = leads recorded stands in
      subst (λ told. Stands text told after m u) (sym (append-nil on.so_far) ∙ (ap (λ rs. on.so_far ++ recording_tells rs) (sym (drop_all place rows le)) ∙ on.whole)) on.stands

  -- before the second row nothing has been told
  pub opened_stands : (text : T → List ℕ) (before : List (JournalRow T)) (begun : ℕ) (stage : Stage) → before ≡ [] → begun ≡ 0 → stage ≡ stages.Idle → Stands text [] before begun stage
  opened_stands text before begun stage rows count idle =
      (ap (all_begun 0) rows ∙ sym count, subst (IsAt begun [] (journal_tells (answered_text text) 0 before)) (sym idle) (sym (ap (journal_tells (answered_text text) 0) rows)))

  -- a first row that names the client tells nothing
  pub tells_all : (rows : List (RecordedRow T)) (client page : ℕ) → slice_get rows 0 ≡ Some (kinds.Client client page) → recording_tells (drop 1 rows) ≡ recording_tells rows
  tells_all [] client page e = cc
  tells_all (row ∷ rows) client page e =
      let is : row ≡ kinds.Client client page = cc in
      ap (λ r. row_tells r ++ recording_tells rows) (sym is)
