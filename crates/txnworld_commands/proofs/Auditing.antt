-- Diaries of a run, as an audit reads them.
use Rattle.std.proofs.Common.{◌≡◌, ℕ, ◌+◌, ◌<◌, List, length, get_or, slice_get, Some, refl, sym, ◌∙◌, ap, arith}
use Rattle.std.specs.Option.{option_map}
use Rattle.std.proofs.lemmas.List.{length-map}
use Rattle.std.proofs.lemmas.Option.{slice_get-map, slice_get-get_or, slice_get_within, same_Some}
use Rattle.txn_script_lines.specs.declared.record.RecordCodec.{RecordCodec}
use Rattle.txn_script_lines.specs.declared.record.RecordEpoch.{RecordEpoch}
use Rattle.txn_diary.specs.Diaries.{IsMadeWith}
use Rattle.txnworld_commands.specs.Audits.{RecordDiary, AreClients}

abbrev client_and_page : RecordDiary → ℕ × ℕ
client_and_page diary = (diary.client, diary.page)

-- the client and the page at a place
pub client_at : (workers : ℕ) (diaries : List RecordDiary) (k : ℕ) (diary : RecordDiary) → AreClients workers diaries → slice_get diaries k ≡ Some diary → (diary.client ≡ k + 1) × (diary.page ≡ 1000) × (k < workers)
client_at workers diaries k diary are at =
    let below : k < workers = omega (arith, slice_get_within diaries k diary at, length-map diaries client_and_page, are.all) in
    let same : client_and_page diary ≡ (k + 1, 1000) = same_Some _ _ (sym (slice_get-map client_and_page diaries k ∙ ap (option_map client_and_page) at) ∙ are.each k below) in
    (ap (λ (pair : ℕ × ℕ). pair.0) same, ap (λ (pair : ℕ × ℕ). pair.1) same, below)

codec_is : (one other : RecordCodec) → one ≡ other
codec_is one other = refl

epochs_are : (one other : RecordEpoch) → one ≡ other
epochs_are one other = refl

-- they were all made with these
pub made_with : (workers : ℕ) (diaries : List RecordDiary) (codec : RecordCodec) (epochs : RecordEpoch) → AreClients workers diaries → (k : ℕ) (d : RecordDiary) → k < length diaries → IsMadeWith 1000 codec epochs (get_or diaries k d)
made_with workers diaries codec epochs are k d below =
    record {
      page_is = (client_at workers diaries k (get_or diaries k d) are (slice_get-get_or diaries k d below)).1;
      codec_is = codec_is (get_or diaries k d).codec codec;
      epochs_are = epochs_are (get_or diaries k d).epochs epochs;
    }
