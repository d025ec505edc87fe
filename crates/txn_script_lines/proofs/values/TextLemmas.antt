-- The text of an entry.
use Rattle.std.proofs.Common.{◌≡◌, ℕ, ◌<◌, ◌^◌, true, false, List, Option, Some, None, refl, ap, sym, ◌∙◌, lit<, ◌↔◌, All}
use Rattle.std.specs.Option.{MatchOption}
use Rattle.std.specs.Fmt.{decimal}
use Rattle.std.proofs.lemmas.Str.Pattern.{IsSplitOnceResult, split_after}
use Rattle.percent_encoding.specs.Percent.{percent_encode, percent_decode}
use Rattle.percent_encoding.proofs.PercentLemmas.{round_trip}
use denote.Ref.{Bor}
use Rattle.std.specs.Prelude.{nat_eq}
use Rattle.std.specs.Cmp.Lexicographic.{pointwise, other_text}
use Rattle.txn_store.proofs.PathLemmas.{same_text}
use Rattle.txn_script_lines.proofs.values.EntryLemmas.{no_colon_in}
use Rattle.txn_script_lines.specs.declared.values.text.TheConstants.{ESCAPED}
use Rattle.txn_script_lines.specs.declared.values.entry.Entry.{Entry}
use Rattle.txn_script_lines.specs.values.Text.{entry_text, IsEntry}

-- where the text of an entry is cut at its first colon
pub cut : (bs : List ℕ) (r : Option (Bor (List ℕ) × Bor (List ℕ))) → IsSplitOnceResult 58 bs r → (v : Entry) → IsEntry v → bs ≡ entry_text v → MatchOption r ⊥ (λ x. (x.0.now ≡ decimal v.epoch) × (x.1.now ≡ percent_encode ESCAPED v.payload))
cut bs r h v fits is = split_after 58 bs (decimal v.epoch) (percent_encode ESCAPED v.payload) r h (lit< tt) is (no_colon_in v.epoch fits.epoch)

pub decoded : (v : Entry) → IsEntry v → percent_decode (percent_encode ESCAPED v.payload) ≡ v.payload
decoded v fits = round_trip ESCAPED v.payload refl fits.payload

-- What a text is read as, one step after another: `text` is cut at its first colon, `epoch` is what its front says, and `payload` what its escapes do.
pub no_colon : (text : List ℕ) → IsSplitOnceResult 58 text None → (v : Entry) → IsEntry v → text ≡ entry_text v → None ≡ Some v
no_colon text is v fits e = absurd (cut text None is v fits e)

-- what `read_decimal` says of a text
abbrev pub Reads : Option ℕ → List ℕ → Type 0
Reads r ds = (n : ℕ) → n < 2 ^ 64 → (r ≡ Some n) ↔ (ds ≡ decimal n)

pub bad_epoch : (text : List ℕ) (x : Bor (List ℕ) × Bor (List ℕ)) → IsSplitOnceResult 58 text (Some x) → Reads None x.0.now → (v : Entry) → IsEntry v → text ≡ entry_text v → None ≡ Some v
bad_epoch text x is none v fits e = let no = (none v.epoch fits.epoch).1 (cut text (Some x) is v fits e).0 in absurd (cc)

pub loosely : (text : List ℕ) (x : Bor (List ℕ) × Bor (List ℕ)) (epoch : ℕ) (payload : List ℕ) → IsSplitOnceResult 58 text (Some x) → Reads (Some epoch) x.0.now → payload ≡ percent_decode x.1.now → (v : Entry) → IsEntry v → text ≡ entry_text v → Some (record { epoch = epoch; payload = payload }) ≡ Some v
loosely text x epoch payload is reads payload_is v fits e =
    let parts = cut text (Some x) is v fits e in
    let one = (reads v.epoch fits.epoch).1 parts.0 in
    let epochs : epoch ≡ v.epoch = cc in
    let payloads : payload ≡ v.payload = payload_is ∙ ap percent_decode parts.1 ∙ decoded v fits in
    rw (epochs, payloads) refl

-- a text is read where it is the one that is written
pub not_read : (text : List ℕ) → ((v : Entry) → IsEntry v → text ≡ entry_text v → None ≡ Some v) → (v : Entry) → IsEntry v → (None ≡ Some v) ↔ (text ≡ entry_text v)
not_read text reads v fits = (λ e. absurd (cc), reads v fits)

module _ (text written : List ℕ) (entry : Entry) (reads : (v : Entry) → IsEntry v → text ≡ entry_text v → Some entry ≡ Some v) (written_is : written ≡ entry_text entry) where
  pub own_text : pointwise nat_eq written text ≡ true → (v : Entry) → IsEntry v → (Some entry ≡ Some v) ↔ (text ≡ entry_text v)
  own_text is v fits = (λ e. let same : entry ≡ v = cc in sym (same_text written text is) ∙ written_is ∙ ap entry_text same, reads v fits)

  pub other : pointwise nat_eq written text ≡ false → (v : Entry) → IsEntry v → (None ≡ Some v) ↔ (text ≡ entry_text v)
  other is v fits = (λ e. absurd (cc), λ e. let found = reads v fits e in let same : entry ≡ v = cc in absurd (other_text written text (sym is) (written_is ∙ ap entry_text same ∙ sym e)))

-- an entry of an epoch that fits and of bytes
pub fits_of : (epoch : ℕ) (payload bytes : List ℕ) → epoch < 2 ^ 64 → All (λ b. b < 256) bytes → payload ≡ bytes → IsEntry (record { epoch = epoch; payload = payload })
fits_of epoch payload bytes fits small same = record { epoch = fits; payload = rw same small }
