-- Where a change is, and what it makes of its own path and of others.
use Rattle.std.proofs.Common.{◌≡◌, ℕ, ◌<◌, ◌^◌, if◌then◌else◌, not, is_some, Bool, true, false, List, Option, Some, None, refl, sym, ◌∙◌}
use Rattle.std.specs.Prelude.{nat_lt}
use Rattle.std.specs.FinMap.{get}
use Rattle.std.proofs.lemmas.Bool.{ltb-true}
use Rattle.txn_store.proofs.FileLemmas.{get-insert_same, get-insert_other, get-remove_same, get-remove_other}
use Rattle.txn_store.specs.Paths.{Segments}
use Rattle.txn_store.specs.VersionName.{Names, version_path}
use Rattle.txn_store.specs.declared.request.Request.{Request}
use Rattle.txn_store.specs.declared.request.Request.TheVariants as requests
use Rattle.txn_folder.specs.steps.Folders.{Place, Version, Boundary, Folder, same_place, Way, Plainly, Late}
use Rattle.txn_folder.specs.steps.Steps as steps
use Rattle.txn_folder.specs.steps.Steps.{Is, Work, Creates, Updates, Deletes}
use Rattle.txn_folder_model.specs.Worlds.{World, Event, Begin, Step, Kill, Clean, IsPlace, runs, world}
use Rattle.txn_folder_model.specs.Linear.{IsApart, path_of}
use Rattle.txn_folder_model.proofs.Ghosts.{Change, Created, Updated, Removed, Effect, Ghost, effect_in, effect_of, by_call, link_change, rename_change, peek_change, changed_by, change_request}
use Rattle.txn_folder_model.proofs.Facts.{MayDo}
use Rattle.txn_folder_model.proofs.Changes.{same_places}
use Rattle.txn_folder_model.proofs.Puts.{paths_apart}
use Rattle.txn_folder_model.proofs.Stepping.{fits_of, second_true}
use Rattle.txn_folder_model.proofs.Theorem.{Allowed, all_holds}

-- where a change is
abbrev pub place_of : Change → Place
place_of (Created place bytes token) = place
place_of (Updated bytes old token) = Boundary
place_of (Removed id) = Version id

abbrev InPlace : Option Change → Type 0
InPlace None = Unit {0}
InPlace (Some change) = IsPlace (place_of change)

abbrev pub EffectIn : Option Effect → Type 0
EffectIn None = Unit {0}
EffectIn (Some effect) = IsPlace (place_of effect.change)

link_in : (place : Place) (bytes : List ℕ) (token : ℕ) (first now : Option ℕ) → IsPlace place → InPlace (link_change place bytes token first now)
link_in place bytes token None now fits = tt
link_in place bytes token (Some file) (Some other) fits = tt
link_in place bytes token (Some file) None fits = fits

rename_in : (bytes : List ℕ) (old token : ℕ) (first : Option ℕ) → InPlace (rename_change bytes old token first)
rename_in bytes old token None = tt
rename_in bytes old token (Some file) = tt

peek_in : (id : ℕ) (o : Option ℕ) → IsPlace (Version id) → InPlace (peek_change id o)
peek_in id None fits = fits
peek_in id (Some file) fits = tt

in_place : (floor c : ℕ) (f : Folder) (work : Work) (way : Way) → MayDo floor work → InPlace (effect_in c f work way)
in_place floor c f (Creates place bytes (Is (steps.Links n))) Plainly may = link_in place bytes _ _ _ (fits_of floor place bytes may)
in_place floor c f (Creates place bytes (Is (steps.Links n))) Late may = link_in place bytes _ _ _ (fits_of floor place bytes may)
in_place floor c f (Updates bytes token (Is (steps.Renames n))) Plainly may = rename_in bytes token _ _
in_place floor c f (Updates bytes token (Is (steps.Renames n))) Late may = rename_in bytes token _ _
in_place floor c f (Deletes id (Is steps.Removes)) Plainly may = may
in_place floor c f (Deletes id (Is steps.Removes)) Late may = may
in_place floor c f (Deletes id (Is steps.Peeks)) Plainly may = peek_in id _ may
in_place floor c f work way may = tt

call_in : (c : ℕ) (o : Option Change) → InPlace o → EffectIn (by_call c o)
call_in c None fits = tt
call_in c (Some change) fits = fits

step_in : (floor c : ℕ) (w : World) (way : Way) → ((d : ℕ) → d < w.count → MayDo floor (w.calls d).work) → (b : Bool) → runs w c ≡ b → EffectIn (if b then by_call c (effect_in c w.folder (w.calls c).work way) else None)
step_in floor c w way may true on = let both = second_true (nat_lt c w.count) (not (is_some (w.calls c).ended)) on in call_in c (effect_in c w.folder (w.calls c).work way) (in_place floor c w.folder (w.calls c).work way (may c (ltb-true c w.count both.0)))
step_in floor c w way may false on = tt

event_in : (floor : ℕ) (w : World) → ((d : ℕ) → d < w.count → MayDo floor (w.calls d).work) → (e : Event) → EffectIn (effect_of w e)
event_in floor w may (Begin client job) = tt
event_in floor w may (Step c way) = step_in floor c w way may (runs w c) refl
event_in floor w may (Kill c) = tt
event_in floor w may (Clean c) = tt

-- the path that a request names
abbrev pub asked_path : Request → Segments
asked_path (requests.Put at bytes mode) = at
asked_path (requests.Get at known) = at
asked_path (requests.List prefix after limit) = prefix
asked_path (requests.Delete at) = at

module _ (names : Names) (boundary : Segments) where
  abbrev path : Place → Segments
  path p = path_of names boundary p

  -- what a change makes of its own path, and of another
  pub changed_same : (g h : Ghost) (change : Change) → get (changed_by names boundary g change).files (path (place_of change)) ≡ get (changed_by names boundary h change).files (path (place_of change))
  changed_same g h (Created place bytes token) = get-insert_same g.files (path place) (record { bytes = bytes; token = token }) ∙ sym (get-insert_same h.files (path place) (record { bytes = bytes; token = token }))
  changed_same g h (Updated bytes old token) = get-insert_same g.files boundary (record { bytes = bytes; token = token }) ∙ sym (get-insert_same h.files boundary (record { bytes = bytes; token = token }))
  changed_same g h (Removed id) = get-remove_same g.files (version_path names id) ∙ sym (get-remove_same h.files (version_path names id))

  pub changed_other : (g : Ghost) (change : Change) (at : Segments) → ¬ (at ≡ path (place_of change)) → get (changed_by names boundary g change).files at ≡ get g.files at
  changed_other g (Created place bytes token) at other = get-insert_other g.files (path place) at (record { bytes = bytes; token = token }) other
  changed_other g (Updated bytes old token) at other = get-insert_other g.files boundary at (record { bytes = bytes; token = token }) other
  changed_other g (Removed id) at other = get-remove_other g.files (version_path names id) at other

  pub change_path : (change : Change) → path (place_of change) ≡ asked_path (change_request names boundary change)
  change_path (Created place bytes token) = refl
  change_path (Updated bytes old token) = refl
  change_path (Removed id) = refl

  -- one path is of one place
  pub same_by_path : IsApart names boundary → (p q : Place) → IsPlace p → IsPlace q → path p ≡ path q → p ≡ q
  same_by_path apart p q fits other is = by (same_place p q) refl
    where
      by : (b : Bool) → same_place p q ≡ b → p ≡ q
      by true same = same_places p q same
      by false same = absurd (paths_apart names boundary apart p q fits other same is)

-- the effects of a schedule are at places
pub effect_in_place : (names : Names) (boundary : Segments) (floor : ℕ) (events : ℕ → Event) → IsApart names boundary → Allowed floor events → (s : ℕ) → s < 2 ^ 64 → EffectIn (effect_of (world floor events s) (events s))
effect_in_place names boundary floor events apart may s room = event_in floor (world floor events s) (λ d low. ((all_holds names boundary floor events apart may s room).calls d low).may) (events s)
