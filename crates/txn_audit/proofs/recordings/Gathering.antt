-- The diaries of recordings, one more at a time.
use Rattle.std.proofs.Common.{◌≡◌, ◌≤◌, ◌<◌, ◌+◌, ℕ, List, [], ◌∷◌, ◌++◌, Some, map, take, length, get_or, slice_get, sym, ◌∙◌, ap, subst}
use Rattle.std.proofs.lemmas.List.{take_more, take-map, take_all, map-append}
use Rattle.txn_client_journals.specs.Verdict.{AuditedDiary}
use Rattle.txn_diary.specs.Diaries.{DiaryState, as_diary}
use Rattle.txn_script_lines.specs.Printed.{answered_text}
use Rattle.txn_audit_recordings.specs.declared.row.RecordedRow.{RecordedRow}
use Rattle.txn_audit_recordings.specs.declared.row.RecordedRow.TheVariants as kinds
use Rattle.txn_audit.specs.recordings.Told.{TellsSame, recording_tells, journal_tells}
use Rattle.txn_audit.specs.recordings.OneHistory.{IsOf, AreOf}

-- one more of a list, as something else
as_more : {D X : Type 0} (see : D → X) (ds next : List D) (d : D) → next ≡ ds ++ d ∷ [] → map see next ≡ map see ds ++ see d ∷ []
as_more see ds next d adds = ap (map see) adds ∙ map-append see ds (d ∷ [])

module _ {T : Type 0} (page : ℕ) (text : T → List ℕ) where
  of_more : (recordings : List (List (RecordedRow T))) (ds : List (AuditedDiary T)) (rows : List (RecordedRow T)) (d : AuditedDiary T) → AreOf page text recordings ds → IsOf page text rows d → AreOf page text (recordings ++ rows ∷ []) (ds ++ d ∷ [])
  of_more [] [] rows d are is = (is, tt)
  of_more [] (e ∷ ds) rows d are is = absurd are
  of_more (r ∷ rs) [] rows d are is = absurd are
  of_more (r ∷ rs) (e ∷ ds) rows d are is = (are.0, of_more rs ds rows d are.1 is)

  -- the diary of the recording at this place
  pub of_next : {V D : Type 0} (rows_of : V → List (RecordedRow T)) (see : D → AuditedDiary T) (recordings : List V) (i : ℕ) (ds next : List D) (v : V) (d : D) → i < length recordings → v ≡ get_or recordings i v → next ≡ ds ++ d ∷ [] → AreOf page text (take i (map rows_of recordings)) (map see ds) → IsOf page text (rows_of v) (see d) → AreOf page text (take (i + 1) (map rows_of recordings)) (map see next)
  of_next rows_of see recordings i ds next v d lt at adds are is =
      let all = map rows_of recordings in
      let more : take (i + 1) all ≡ take i all ++ rows_of v ∷ [] =
      take-map rows_of (i + 1) recordings ∙ (ap (map rows_of) (take_more recordings i v lt ∙ ap (λ x. take i recordings ++ x ∷ []) (sym at))
      ∙ (map-append rows_of (take i recordings) (v ∷ []) ∙ ap (λ xs. xs ++ rows_of v ∷ []) (sym (take-map rows_of i recordings)))) in
      subst (AreOf page text (take (i + 1) all)) (sym (as_more see ds next d adds))
      (subst (λ rs. AreOf page text rs (map see ds ++ see d ∷ [])) (sym more) (of_more (take i all) (map see ds) (rows_of v) (see d) are is))

  -- after the last recording
  pub of_all : {V D : Type 0} (rows_of : V → List (RecordedRow T)) (see : D → AuditedDiary T) (recordings : List V) (i : ℕ) (ds : List D) → length recordings ≤ i → AreOf page text (take i (map rows_of recordings)) (map see ds) → AreOf page text (map rows_of recordings) (map see ds)
  of_all rows_of see recordings i ds le are =
      subst (λ rs. AreOf page text rs (map see ds)) (take-map rows_of i recordings ∙ ap (map rows_of) (take_all i recordings le)) are

module _ {T C E : Type 0} where
  -- a diary that was made from these rows
  pub is_of : (page : ℕ) (text : T → List ℕ) (rows items : List (RecordedRow T)) (d : DiaryState T C E) → rows ≡ items → slice_get rows 0 ≡ Some (kinds.Client d.client page) → TellsSame (recording_tells rows) (journal_tells (answered_text text) 0 d.rows) → IsOf page text items (as_diary d)
  is_of page text rows items d at client tells = subst (λ rs. IsOf page text rs (as_diary d)) at (record { client = client; tells = tells })
