-- A delete takes its steps, but for those that remove.
use Rattle.std.proofs.Common.{ℕ, suc, ◌≤◌, Option, Some, None, refl}
use Rattle.txn_store.specs.Paths.{Segments}
use Rattle.txn_store.specs.VersionName.{Names}
use Rattle.txn_folder.specs.steps.Folders.{Version, Folder, OfVersions, Way, Plainly, Late, after_step, step_told, made_told, locked}
use Rattle.txn_folder.specs.steps.Steps as steps
use Rattle.txn_folder.specs.steps.Steps.{Verdict, Fails, Phase, Is, Ends, Deletes, Deleting, delete_asked, delete_turned}
use Rattle.txn_folder_model.specs.Worlds.{World, IsPlace, drawn}
use Rattle.txn_folder_model.specs.Linear.{request_of}
use Rattle.txn_folder_model.proofs.Ghosts.{Effect, Ghost}
use Rattle.txn_folder_model.proofs.Facts.{By, NoWrite, IsSo, Outcome, Not, Must, so_fails, delete_outcome, delete_live, IsLive, Holds}
use Rattle.txn_folder_model.proofs.Frames.{Running}
use Rattle.txn_folder_model.proofs.Getting.{so_far}

-- the states and ways that may remove
abbrev pub MayRemove : Deleting → Way → Type 0
MayRemove steps.Removes Plainly = Unit {0}
MayRemove steps.Removes Late = Unit {0}
MayRemove steps.Peeks Plainly = Unit {0}
MayRemove state way = ⊥

module _ (names : Names) (boundary : Segments) (floor : ℕ) (ghosts : ℕ → Ghost) (effects : ℕ → Option Effect) (t : ℕ) (w : World) (h : Holds names boundary floor ghosts effects t w) (c began : ℕ) (since : began ≤ t) (none : ¬ (By effects t c)) where
  module _ (id : ℕ) (may : IsPlace (Version id)) where
    abbrev SoThen : Outcome → Type 0
    SoThen o = IsSo names boundary floor ghosts effects (suc t) (suc t) began c (request_of names boundary (Deletes id (Ends Fails))) o

    abbrev SoNow : Outcome → Type 0
    SoNow o = IsSo names boundary floor ghosts effects t t began c (request_of names boundary (Deletes id (Ends Fails))) o

    more : (o : Outcome) → SoNow o → SoThen o
    more o so = so_far names boundary floor ghosts effects t w h c began since none (Deletes id (Ends Fails)) o so

    failed : (o : Outcome) → SoNow o → SoThen (Must Fails)
    failed o so = so_fails names boundary floor ghosts effects (suc t) (suc t) began c (request_of names boundary (Deletes id (Ends Fails))) o (more o so)

    module _ (g : Folder) (owners : ℕ → Option ℕ) where
      abbrev pub Then : Phase Deleting → Type 0
      Then phase = Running names boundary floor ghosts effects (suc t) c began g owners (Deletes id phase)

      plain : (state : Deleting) → SoThen (delete_outcome state) → IsLive g c (delete_live state) → Then (Is state)
      plain state so live = record { may = may; outcome = so; number = λ n is. absurd (cc); content = tt; opened = tt; live = live }

      ends : (verdict : Verdict) → SoThen (Must verdict) → Then (Ends verdict)
      ends verdict so = record { may = may; outcome = so; number = λ n is. absurd (cc); content = tt; opened = tt; live = tt }

      pub peeked : NoWrite effects t c → Then (Is steps.DeleteLocks)
      peeked never = plain steps.DeleteLocks (more Not never) tt

    takes : (o : Option ℕ) → NoWrite effects t c → Then (locked w.folder c OfVersions o) w.owners (delete_turned steps.DeleteLocks (made_told o))
    takes None never = plain (locked w.folder c OfVersions None) w.owners steps.Removes (more Not never) refl
    takes (Some x) never = plain w.folder w.owners steps.DeleteLocks (more Not never) tt

    abbrev pub Next : Deleting → Way → Type 0
    Next state way = Then (after_step c (delete_asked id state) way w.folder) (drawn w.owners c (delete_asked id state) way) (delete_turned state (step_told c (delete_asked id state) way w.folder))

    abbrev pub Was : Deleting → Type 0
    Was state = Running names boundary floor ghosts effects t c began w.folder w.owners (Deletes id (Is state))

    pub delete_running : (state : Deleting) (way : Way) → ¬ (MayRemove state way) → Was state → Next state way
    delete_running steps.Peeks Plainly quiet r = absurd (quiet tt)
    delete_running steps.Peeks way quiet r = ends _ _ Fails (failed Not r.outcome)
    delete_running steps.DeleteLocks Plainly quiet r = takes (w.folder.locks OfVersions) r.outcome
    delete_running steps.DeleteLocks way quiet r = plain _ _ (steps.DeleteFrees Fails) (failed Not r.outcome) tt
    delete_running steps.Removes Plainly quiet r = absurd (quiet tt)
    delete_running steps.Removes Late quiet r = absurd (quiet tt)
    delete_running steps.Removes way quiet r = plain _ _ (steps.DeleteFrees Fails) (failed Not r.outcome) tt
    delete_running (steps.DeleteSyncs verdict) Plainly quiet r = plain w.folder w.owners (steps.DeleteFrees verdict) (more (Must verdict) r.outcome) tt
    delete_running (steps.DeleteSyncs verdict) way quiet r = plain _ _ (steps.DeleteFrees Fails) (failed (Must verdict) r.outcome) tt
    delete_running (steps.DeleteFrees verdict) way quiet r = ends _ _ verdict (more (Must verdict) r.outcome)
