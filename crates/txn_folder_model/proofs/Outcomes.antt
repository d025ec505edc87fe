-- A create that is cut before its folder is synced, and after its answer.
use Rattle.std.proofs.Common.{◌≡◌, ℕ, zero, suc, ◌<◌, ◌≤◌, if◌then◌else◌, Option, Some, None, [], ◌∷◌, refl, ap, sym, ◌∙◌, arith, ◌⊎◌, inl, inr}
use Rattle.std.specs.Prelude.{Bool, true, false}
use Rattle.txn_folder.specs.steps.Folders.{Place, Version, same_place, Plainly}
use Rattle.txn_folder_model.specs.Worlds.{Event, Step, world}
use Rattle.txn_folder_model.specs.Power.{AfterCut, IsLeft, NameIsLeft, SyncsAt, SyncsNames, Synced, OwnFile, FolderOf, Nothing, synced_in, name_at}
use Rattle.txn_folder_model.specs.Examples.{late_run, all_synced, left_with, CutEnds}
use Rattle.txn_folder_model.proofs.Changes.{same_places}
use Rattle.txn_folder_model.proofs.Power.{left_whole}

abbrev SyncsNow : ℕ → ℕ → Synced → Type 0
SyncsNow s call what = SyncsAt 10 late_run all_synced s call what

-- the call of an event, and whether it goes plainly
call_of : Event → ℕ
call_of (Step call way) = call
call_of event = 0

is_plain : Event → Bool
is_plain (Step call Plainly) = true
is_plain event = false

-- what a moment's step makes last
one : (s : ℕ) (made what : Synced) (call : ℕ) → late_run s ≡ Step 0 Plainly → synced_in ((world 10 late_run s).calls 0).work false ≡ made → SyncsNow s call what → (call ≡ 0) × (what ≡ made)
unfolding call_of
one s made what call here makes h =
    let same : call ≡ 0 = ap call_of (sym h.step ∙ here) in
    (same, sym h.is ∙ ap (λ (c : ℕ). synced_in ((world 10 late_run s).calls c).work false) same ∙ makes)

other : (P : Type 0) (s call : ℕ) (what : Synced) → is_plain (late_run s) ≡ false → SyncsNow s call what → P
unfolding is_plain
other P s call what here h = absurd (let clash : true ≡ false = ap is_plain (sym h.step) ∙ here in cc)

abbrev Only : ℕ → ℕ → Synced → Type 0
Only s call what = (what ≡ Nothing) ⊎ ((s ≡ 5) × (call ≡ 0) × (what ≡ OwnFile))

-- before moment 10 it is the call's own file alone, at moment 5
only : (s call : ℕ) (what : Synced) → s < 10 → SyncsNow s call what → Only s call what
unfolding is_plain
only zero call what low h = other (Only 0 call what) 0 call what refl h
only (suc zero) call what low h = other (Only 1 call what) 1 call what refl h
only (suc (suc zero)) call what low h = inl (one 2 Nothing what call refl refl h).1
only (suc (suc (suc zero))) call what low h = inl (one 3 Nothing what call refl refl h).1
only (suc (suc (suc (suc zero)))) call what low h = inl (one 4 Nothing what call refl refl h).1
only (suc (suc (suc (suc (suc zero))))) call what low h = let own = one 5 OwnFile what call refl refl h in inr (refl, own.0, own.1)
only (suc (suc (suc (suc (suc (suc zero)))))) call what low h = other (Only 6 call what) 6 call what refl h
only (suc (suc (suc (suc (suc (suc (suc zero))))))) call what low h = inl (one 7 Nothing what call refl refl h).1
only (suc (suc (suc (suc (suc (suc (suc (suc zero)))))))) call what low h = inl (one 8 Nothing what call refl refl h).1
only (suc (suc (suc (suc (suc (suc (suc (suc (suc zero))))))))) call what low h = inl (one 9 Nothing what call refl refl h).1
only (suc (suc (suc (suc (suc (suc (suc (suc (suc (suc s)))))))))) call what low h = absurd (omega (arith, low))

no_names : (s : ℕ) (place : Place) → s < 10 → SyncsNames 10 late_run all_synced s place → ⊥
no_names s place low (inr (listed, same)) = cc
no_names s place low (inl (call, beside, same, h)) = by (only s call (FolderOf beside) low h)
  where
    by : Only s call (FolderOf beside) → ⊥
    by (inl is) = cc
    by (inr is) = let clash = is.2 in cc

-- a name that may be left so
name_left : (o : Option ℕ) (at : ℕ) → at ≤ 10 → o ≡ name_at 10 late_run at (Version 1) → (place : Place) → NameIsLeft 10 late_run all_synced 10 place ((left_with o).names place)
name_left o at past is place = by (same_place place (Version 1)) refl
  where
    by : (b : Bool) → same_place place (Version 1) ≡ b → NameIsLeft 10 late_run all_synced 10 place (if b then o else None)
    by true same = record { at = at; past = past; since = λ s low syncs. absurd (no_names s place low syncs); is = is ∙ ap (name_at 10 late_run at) (sym (same_places place (Version 1) same)) }
    by false same = record { at = 0; past = omega arith; since = λ s low syncs. absurd (no_names s place low syncs); is = refl }

left_so : (o : Option ℕ) (at : ℕ) → at ≤ 10 → o ≡ name_at 10 late_run at (Version 1) → IsLeft 10 late_run all_synced 10 (left_with o)
left_so o at past is = record { names = name_left o at past is; files = λ file s low syncs kept. by file s (only s file OwnFile low syncs) }
  where
    by : (file s : ℕ) → Only s file OwnFile → record { bytes = 65 ∷ []; time = 11 } ≡ (world 10 late_run s).folder.files file
    by file s (inl is) = absurd (cc)
    by file s (inr is) = ap (λ (c : ℕ). (world 10 late_run 5).folder.files c) (sym is.1) ∙ ap (λ (m : ℕ). (world 10 late_run m).folder.files file) (sym is.0)

-- after the answer
name_after : (left : AfterCut) → IsLeft 10 late_run all_synced 12 left → left.names (Version 1) ≡ Some 0
name_after left is = name.is ∙ numbers name.at late name.past
  where
    name : NameIsLeft 10 late_run all_synced 12 (Version 1) (left.names (Version 1))
    name = is.names (Version 1)

    late : 10 ≤ name.at
    late = name.since 10 (omega arith) (inl (0, Version 1, refl, record { step = refl; goes = refl; is = refl }))

    numbers : (m : ℕ) → 10 ≤ m → m ≤ 12 → name_at 10 late_run m (Version 1) ≡ Some 0
    numbers (suc (suc (suc (suc (suc (suc (suc (suc (suc (suc zero)))))))))) low high = refl
    numbers (suc (suc (suc (suc (suc (suc (suc (suc (suc (suc (suc zero))))))))))) low high = refl
    numbers (suc (suc (suc (suc (suc (suc (suc (suc (suc (suc (suc (suc zero)))))))))))) low high = refl
    numbers (suc (suc (suc (suc (suc (suc (suc (suc (suc (suc (suc (suc (suc m))))))))))))) low high = absurd (omega (arith, high))
    numbers m low high = absurd (omega (arith, low))

pub cut_ends : CutEnds
cut_ends = record {
  stands = left_so (Some 0) 10 (omega arith) refl;
  lost = left_so None 0 (omega arith) refl;
  told = λ left is.
      let name = name_after left is in
      record { name = name; file = sym (left_whole 10 late_run all_synced 12 0 left (Version 1) is name).put.1 };
}
