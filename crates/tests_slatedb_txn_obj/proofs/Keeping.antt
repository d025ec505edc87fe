-- What two manifests and a collection leave of the files of a history's versions.
use Rattle.std.proofs.Common.{◌≡◌, ◌≢◌, ℕ, ◌+◌, ◌<◌, ◌≤◌, ◌^◌, ◌||◌, Bool, true, false, List, ◌∷◌, filter, None, inr, refl, ◌∙◌, ap, subst, arith}
use Rattle.std.specs.Prelude.{nat_eq, nat_lt, not}
use Rattle.std.specs.List.{list_any}
use Rattle.std.specs.FinMap as map
use Rattle.std.proofs.lemmas.Bool.{eq-eqb}
use Rattle.std.proofs.lemmas.List.Folds.{list_any-append}
use Rattle.txn_store.specs.VersionName.{Names, version_path}
use Rattle.txn_store.specs.Store.{Files, State}
use Rattle.txn_store.proofs.VersionOfLemmas.{one_path}
use Rattle.slatedb_txn_obj.specs.Leaves.{MayCreate}
use Rattle.slatedb_txn_obj.proofs.Leaving.{others-create}
use Rattle.txn_manifest.specs.declared.manifest.Manifest.{Manifest}
use Rattle.txn_manifest.specs.Manifest.{with_pins, with_payload}
use Rattle.txn_manifest.specs.Pins.{pins_with}
use Rattle.txn_manifest.specs.Collected.{IsSameFile, LeavesNeeded, is_unpinned}
use Rattle.tests_slatedb_txn_obj.specs.Kept.{IsStored, LeavesPinned}

-- a created version leaves the files of the others
pub created_others : (names now : Names) (id : ℕ) (old new : State) → now ≡ names → id < 2 ^ 64 → MayCreate (version_path now id) old new → (n : ℕ) → n < 2 ^ 64 → n ≢ id → IsSameFile names old.files new.files n
created_others names now id old new same fits creates n small differs =
    (others-create {own = λ at. at ≡ version_path now id} (version_path now id) refl creates).others (version_path names n)
    (λ is. differs (one_path names n id small fits (is ∙ ap (λ (nm : Names). version_path nm id) same)))

or_true : (a b : Bool) → b ≡ true → (a || b) ≡ true
or_true true b e = refl
or_true false b e = e

-- the id that was added is pinned
with_it : (id : ℕ) (pins : List ℕ) → is_unpinned (pins_with id pins) id ≡ false
with_it id pins =
    let below = filter (λ pin. nat_lt pin id) pins in
    let above = filter (λ pin. nat_lt id pin) pins in
    let here : list_any (nat_eq id) (id ∷ above) ≡ true = rw (eq-eqb id id refl) refl in
    ap not (list_any-append (nat_eq id) below (id ∷ above) ∙ or_true (list_any (nat_eq id) below) (list_any (nat_eq id) (id ∷ above)) here)

module _ (names : Names) (id : ℕ) (object : Manifest) (payload : ℕ) (first second third last : Files) (small : id + 2 < 2 ^ 64)
    (one : (n : ℕ) → n < 2 ^ 64 → n ≢ id + 1 → IsSameFile names first second n) (two : (n : ℕ) → n < 2 ^ 64 → n ≢ id + 2 → IsSameFile names second third n)
    (newest : ℕ) (pins : List ℕ) (newest_is : newest ≡ id + 2) (pins_are : pins ≡ pins_with id object.pins) (needed : LeavesNeeded names newest pins third last)
    (gone : (n : ℕ) → n < newest → is_unpinned pins n ≡ true → map.get last (version_path names n) ≡ None) where
  same : (n : ℕ) → n ≤ id → is_unpinned (pins_with id object.pins) n ≡ false → IsSameFile names first last n
  same n le pinned =
      let fits : n < 2 ^ 64 = omega (arith, le, small) in
      needed n fits (inr (ap (λ ids. is_unpinned ids n) pins_are ∙ pinned)) ∙ (two n fits (λ is. absurd (omega (arith, is, le))) ∙ one n fits (λ is. absurd (omega (arith, is, le))))

  pub leaves_pinned : IsStored names first id object → IsStored names last newest (with_payload (with_pins object (pins_with id object.pins)) payload) → LeavesPinned names id object payload first last
  leaves_pinned stood stands = record {
    kept = (stood.0, same id (omega arith) (with_it id object.pins) ∙ stood.1, stood.2);
    newest = subst (λ (n : ℕ). IsStored names last n (with_payload (with_pins object (pins_with id object.pins)) payload)) newest_is stands;
    pinned = same;
    gone = λ n lt unpinned. gone n (omega (arith, lt, newest_is)) (ap (λ ids. is_unpinned ids n) pins_are ∙ unpinned);
  }
