-- What a call has made to last, after a step of its own.
use Rattle.std.proofs.Common.{◌≡◌, ℕ, suc, ◌<◌, ◌≤◌, ◌==◌, if◌then◌else◌, List, Option, Some, None, Ok, Err, refl, ap, sym, subst, ◌∙◌, arith, ◌⊎◌, inl, inr}
use Rattle.std.specs.Prelude.{Bool, true, false}
use Rattle.std.proofs.lemmas.Bool.{eqb-true, eq-eqb}
use Rattle.std.proofs.lemmas.Option.{same_Some}
use Rattle.txn_store.specs.declared.request.Reply.TheVariants as replies
use Rattle.txn_store.specs.declared.store.StoreError.{StoreError}
use Rattle.txn_store.specs.declared.store.StoreError.TheVariants as errors
use Rattle.txn_store.specs.types.BoundaryText.{boundary_read}
use Rattle.txn_folder.specs.steps.Folders.{Place, Version, Boundary, At, Temporary, File, Folder, OfBoundary, OfVersions, linked, moved, Ask, Draw, Make, Write, SetTime, Link, Rename, Unlink, Find, Read, Take, Let, Sync, Way, Plainly, Told, Done, Missing, Holds, Says, Number, step_told, found_told, linked_told, there_told}
use Rattle.txn_folder.specs.steps.Steps as steps
use Rattle.txn_folder.specs.steps.Steps.{Verdict, Tells, Fails, Phase, Is, Work, Creates, Gets, Updates, Deletes, got_at, got_told, not_same, cleaned, compared, said_fault, create_turned, update_turned, get_turned, delete_turned, asked, put_ok}
use Rattle.txn_folder_model.specs.Worlds.{Call, World, Event, Step, runs, stepped, world}
use Rattle.txn_folder_model.specs.Power.{Syncs, SyncsAt, SyncsNames, Synced, OwnFile, FolderOf, same_folder, synced_in, ChangesAt, MayChange, name_at}
use Rattle.txn_folder_model.proofs.Ghosts.{Removed, effect_in, effect_of, by_call, peek_change}
use Rattle.txn_folder_model.proofs.Puts.{place_self}
use Rattle.txn_folder_model.proofs.Sealed.{Removes, Sealed, Was, WasSynced, Skipped, PutSo, PutEnds, CreateSo, UpdateSo, GoneSo, GoneEnds, DeleteSo, FileTold, FileEnds, GotEnds, GetSo, was_on, put_so, put_ends, gone_ends, told_same}

folder_self : (p : Place) → same_folder p p ≡ true
folder_self (Version id) = refl
folder_self Boundary = refl

module _ (floor : ℕ) (events : ℕ → Event) (syncs : Syncs) (t c : ℕ) where
  abbrev w : World
  w = world floor events t

  abbrev its : Call
  its = w.calls c

  abbrev next : Ask → Way → World
  next ask way = stepped c ask way w

  -- what a call has at a step
  pub record Acts (way : Way) : Type 0 where
    pub step : events t ≡ Step c way
    pub goes : runs w c ≡ true
    pub began_is : its.began ≤ t
    pub own : (file : ℕ) → w.folder.names (Temporary c) ≡ Some file → file ≡ c
    pub made : (place : Place) (file : ℕ) → w.folder.names (At place) ≡ Some file → w.owners (w.folder.files file).time ≡ Some file

  -- files that were made stay
  abbrev pub Keeps : World → Type 0
  Keeps v = (place : Place) (file m : ℕ) → m ≤ t → name_at floor events m place ≡ Some file → v.folder.files file ≡ w.folder.files file

  module _ (way : Way) (acts : Acts way) where
    was_now : (place : Place) (name : Option ℕ) → w.folder.names (At place) ≡ name → Was floor events syncs (suc t) (suc t) its.began place name
    was_now place name is = record { at = t; since = acts.began_is; past = omega arith; within = omega arith; is = is }

    is_then : (v : World) → world floor events (suc t) ≡ v → (place : Place) (name : Option ℕ) → v.folder.names (At place) ≡ name → Was floor events syncs (suc t) (suc t) its.began place name
    is_then v now place name is = let began = acts.began_is in record { at = suc t; since = omega (arith, began); past = omega arith; within = omega arith; is = ap (λ (x : World). x.folder.names (At place)) now ∙ is }

  -- a sync that goes plainly
  module _ (acts : Acts Plainly) where
    syncs_now : (what : Synced) → synced_in its.work (syncs.skipped t) ≡ what → SyncsAt floor events syncs t c what
    syncs_now what is = record { step = acts.step; goes = acts.goes; is = is }

    syncs_names : (place : Place) → synced_in its.work (syncs.skipped t) ≡ FolderOf place → SyncsNames floor events syncs t place
    syncs_names place is = inl (c, place, folder_self place, syncs_now (FolderOf place) is)

    was_synced : (place : Place) (name : Option ℕ) → synced_in its.work (syncs.skipped t) ≡ FolderOf place → Was floor events syncs t t its.began place name → WasSynced floor events syncs (suc t) (suc t) its.began place name
    was_synced place name is was = record { at = was.at; since = was.since; is = was.is; sync = t; after = was.past; past = omega arith; within = omega arith; synced = syncs_names place is }

    seals : (v : World) → v.folder.files c ≡ w.folder.files c → synced_in its.work (syncs.skipped t) ≡ OwnFile → ¬ (MayChange (asked c its.work)) → Sealed floor events syncs (suc t) v c
    seals v same is plain = record {
      at = t;
      past = omega arith;
      synced = syncs_now OwnFile is;
      still = λ m since low. let now : m ≡ t = omega (arith, since, low) in λ changes. plain (subst (λ (x : ℕ). ChangesAt floor events x c) now changes).asks;
      same = same;
    }

  -- A create.
  module _ (place : Place) (bytes : List ℕ) where
    abbrev Then : World → Phase steps.Creating → Type 0
    Then v phase = CreateSo floor events syncs (suc t) v (suc t) its.began c place bytes phase

    abbrev Now : Phase steps.Creating → Type 0
    Now phase = CreateSo floor events syncs t w t its.began c place bytes phase

    looks_first : (v : World) (told : Told) → Then v (create_turned place bytes steps.LooksFirst told)
    looks_first v Missing = tt
    looks_first v told = tt

    draws : (v : World) (told : Told) → Then v (create_turned place bytes steps.Draws told)
    draws v (Number n) = tt
    draws v told = tt

    makes : (v : World) (n : ℕ) (told : Told) → Then v (create_turned place bytes (steps.Makes n) told)
    makes v n Done = tt
    makes v n told = tt

    writes : (n : ℕ) (way : Way) → Then (next (Write bytes) way) (create_turned place bytes (steps.Writes n) (step_told c (Write bytes) way w.folder))
    writes n Plainly = rw (eq-eqb c c refl) refl
    writes n way = tt

    sets_time : (n : ℕ) (way : Way) → Now (Is (steps.SetsTime n)) → Then (next (SetTime n) way) (create_turned place bytes (steps.SetsTime n) (step_told c (SetTime n) way w.folder))
    sets_time n Plainly so = rw (eq-eqb c c refl) (so, refl)
    sets_time n way so = tt

    syncs_new : (n : ℕ) (way : Way) → Acts way → its.work ≡ Creates place bytes (Is (steps.SyncsNew n)) → Now (Is (steps.SyncsNew n)) → Then (next Sync way) (create_turned place bytes (steps.SyncsNew n) (step_told c Sync way w.folder))
    syncs_new n Plainly acts is so = (so, seals acts (next Sync Plainly) refl (ap (λ (k : Work). synced_in k (syncs.skipped t)) is) (λ may. subst (λ (k : Work). MayChange (asked c k)) is may))
    syncs_new n way acts is so = tt

    linked_here : (i : ℕ) → (linked w.folder place (Some i) None).names (At place) ≡ Some i
    linked_here i = rw (place_self place) refl

    links_by : (n : ℕ) (acts : Acts Plainly) (v : World) → world floor events (suc t) ≡ v → (o there : Option ℕ) → w.folder.names (Temporary c) ≡ o → v.folder ≡ linked w.folder place o there → Then v (create_turned place bytes (steps.Links n) (linked_told o there))
    links_by n acts v now None there has is = tt
    links_by n acts v now (Some i) (Some x) has is = tt
    links_by n acts v now (Some i) None has is = is_then Plainly acts v now place (Some c) (ap (λ (f : Folder). f.names (At place)) is ∙ linked_here i ∙ ap Some (acts.own i has))

    links : (n : ℕ) (way : Way) → Acts way → world floor events (suc t) ≡ next (Link place) way → Then (next (Link place) way) (create_turned place bytes (steps.Links n) (step_told c (Link place) way w.folder))
    links n Plainly acts now = links_by n acts (next (Link place) Plainly) now (w.folder.names (Temporary c)) (w.folder.names (At place)) refl refl
    links n way acts now = tt

    not_so : (v : World) (n : ℕ) (taken : Bool) → Then v (not_same n taken)
    not_so v n true = tt
    not_so v n false = tt

    owns : (v : World) (n : ℕ) (taken : Bool) (way : Way) → Acts way → (o : Option ℕ) → w.folder.names (Temporary c) ≡ o → Then v (create_turned place bytes (steps.LooksOwn n taken) (found_told w.folder o))
    owns v n taken way acts None has = not_so v n taken
    owns v n taken way acts (Some i) has = acts.own i has

    looks_own : (v : World) (n : ℕ) (taken : Bool) (way : Way) → Acts way → Then v (create_turned place bytes (steps.LooksOwn n taken) (step_told c (Find (Temporary c)) way w.folder))
    looks_own v n taken Plainly acts = owns v n taken Plainly acts (w.folder.names (Temporary c)) refl
    looks_own v n taken way acts = not_so v n taken

    there_if : (v : World) (n : ℕ) (taken : Bool) (own : ℕ) → Acts Plainly → own ≡ c → (i token : ℕ) → w.folder.names (At place) ≡ Some i → (b : Bool) → (i == own) ≡ b → Then v (if b then Is (steps.Cleans (put_ok token)) else not_same n taken)
    there_if v n taken own acts mine i token has true is = was_now Plainly acts place (Some c) (has ∙ ap Some (eqb-true i own is ∙ mine))
    there_if v n taken own acts mine i token has false is = not_so v n taken

    there_by : (v : World) (n : ℕ) (taken : Bool) (own : ℕ) → Acts Plainly → own ≡ c → (o : Option ℕ) → w.folder.names (At place) ≡ o → Then v (create_turned place bytes (steps.LooksThere n taken own) (found_told w.folder o))
    there_by v n taken own acts mine None has = not_so v n taken
    there_by v n taken own acts mine (Some i) has = there_if v n taken own acts mine i (steps.token_at place bytes n) has (i == own) refl

    looks_there : (v : World) (n : ℕ) (taken : Bool) (own : ℕ) (way : Way) → Acts way → own ≡ c → Then v (create_turned place bytes (steps.LooksThere n taken own) (step_told c (Find (At place)) way w.folder))
    looks_there v n taken own Plainly acts mine = there_by v n taken own acts mine (w.folder.names (At place)) refl
    looks_there v n taken own way acts mine = not_so v n taken

    looks_taken : (v : World) (n : ℕ) (told : Told) → Then v (create_turned place bytes (steps.LooksTaken n) told)
    looks_taken v n (Holds file time) = tt
    looks_taken v n told = tt

    cleans : (v : World) (verdict : Verdict) → PutSo floor events syncs (suc t) v (suc t) its.began c place verdict → Then v (cleaned verdict)
    cleans v Fails so = tt
    cleans v (Tells (replies.Put (Ok token))) so = so
    cleans v (Tells (replies.Put (Err error))) so = tt
    cleans v (Tells reply) so = tt

    puts_last : (v : World) (verdict : Verdict) → Acts Plainly → synced_in its.work (syncs.skipped t) ≡ FolderOf place → PutSo floor events syncs t w t its.began c place verdict → PutEnds floor events syncs (suc t) v (suc t) its.began c place verdict
    puts_last v (Tells (replies.Put (Ok token))) acts is so = was_synced acts place (Some c) is so
    puts_last v verdict acts is so = tt

    syncs_put : (v : World) (verdict : Verdict) (way : Way) → Acts way → its.work ≡ Creates place bytes (Is (steps.Syncs verdict)) → Now (Is (steps.Syncs verdict)) → Then v (create_turned place bytes (steps.Syncs verdict) (step_told c Sync way w.folder))
    syncs_put v verdict Plainly acts is so = puts_last v verdict acts (ap (λ (k : Work). synced_in k (syncs.skipped t)) is) so
    syncs_put v verdict way acts is so = tt

    pub create_step : (state : steps.Creating) (way : Way) → Acts way → its.work ≡ Creates place bytes (Is state) → Keeps (next (steps.create_asked c place bytes state) way) → world floor events (suc t) ≡ next (steps.create_asked c place bytes state) way → Now (Is state) → Then (next (steps.create_asked c place bytes state) way) (create_turned place bytes state (step_told c (steps.create_asked c place bytes state) way w.folder))
    create_step steps.LooksFirst way acts is keeps now so = looks_first (next (Find (At place)) way) (step_told c (Find (At place)) way w.folder)
    create_step steps.Draws way acts is keeps now so = draws (next Draw way) (step_told c Draw way w.folder)
    create_step (steps.Makes n) way acts is keeps now so = makes (next Make way) n (step_told c Make way w.folder)
    create_step (steps.Writes n) way acts is keeps now so = writes n way
    create_step (steps.SetsTime n) way acts is keeps now so = sets_time n way so
    create_step (steps.SyncsNew n) way acts is keeps now so = syncs_new n way acts is so
    create_step (steps.Links n) way acts is keeps now so = links n way acts now
    create_step (steps.LooksOwn n taken) way acts is keeps now so = looks_own (next (Find (Temporary c)) way) n taken way acts
    create_step (steps.LooksThere n taken own) way acts is keeps now so = looks_there (next (Find (At place)) way) n taken own way acts so
    create_step (steps.LooksTaken n) way acts is keeps now so = looks_taken (next (Find (At place)) way) n (step_told c (Find (At place)) way w.folder)
    create_step (steps.Cleans verdict) way acts is keeps now so = cleans (next (Unlink (Temporary c)) way) verdict (put_so floor events syncs t w (next (Unlink (Temporary c)) way) keeps t (suc t) its.began c (omega arith) place verdict so)
    create_step (steps.Syncs verdict) way acts is keeps now so = syncs_put (next Sync way) verdict way acts is so

  -- An update.
  module _ (bytes : List ℕ) (token : ℕ) where
    abbrev ThenAt : World → Phase steps.Updating → Type 0
    ThenAt v phase = UpdateSo floor events syncs (suc t) v (suc t) its.began c bytes phase

    abbrev NowAt : Phase steps.Updating → Type 0
    NowAt phase = UpdateSo floor events syncs t w t its.began c bytes phase

    locks : (v : World) (told : Told) → ThenAt v (update_turned bytes token steps.Locks told)
    locks v Done = tt
    locks v told = tt

    seeks : (v : World) (told : Told) → ThenAt v (update_turned bytes token steps.Seeks told)
    seeks v (Holds file time) = tt
    seeks v told = tt

    enters : (v : World) (told : Told) → ThenAt v (update_turned bytes token steps.Enters told)
    enters v (Holds file time) = tt
    enters v told = tt

    compared_so : (v : World) (fault : Option StoreError) → ThenAt v (compared fault)
    compared_so v None = tt
    compared_so v (Some error) = tt

    compares : (v : World) (file : ℕ) (told : Told) → ThenAt v (update_turned bytes token (steps.Compares file) told)
    compares v file (Says read time) = compared_so v (said_fault token (boundary_read read))
    compares v file told = tt

    update_draws : (v : World) (told : Told) → ThenAt v (update_turned bytes token steps.UpdateDraws told)
    update_draws v (Number n) = tt
    update_draws v told = tt

    update_makes : (v : World) (n : ℕ) (told : Told) → ThenAt v (update_turned bytes token (steps.UpdateMakes n) told)
    update_makes v n Done = tt
    update_makes v n told = tt

    update_writes : (n : ℕ) (way : Way) → ThenAt (next (Write bytes) way) (update_turned bytes token (steps.UpdateWrites n) (step_told c (Write bytes) way w.folder))
    update_writes n Plainly = rw (eq-eqb c c refl) refl
    update_writes n way = tt

    update_sets_time : (n : ℕ) (way : Way) → NowAt (Is (steps.UpdateSetsTime n)) → ThenAt (next (SetTime n) way) (update_turned bytes token (steps.UpdateSetsTime n) (step_told c (SetTime n) way w.folder))
    update_sets_time n Plainly so = rw (eq-eqb c c refl) (so, refl)
    update_sets_time n way so = tt

    update_syncs_new : (n : ℕ) (way : Way) → Acts way → its.work ≡ Updates bytes token (Is (steps.UpdateSyncsNew n)) → NowAt (Is (steps.UpdateSyncsNew n)) → ThenAt (next Sync way) (update_turned bytes token (steps.UpdateSyncsNew n) (step_told c Sync way w.folder))
    update_syncs_new n Plainly acts is so = (so, seals acts (next Sync Plainly) refl (ap (λ (k : Work). synced_in k (syncs.skipped t)) is) (λ may. subst (λ (k : Work). MayChange (asked c k)) is may))
    update_syncs_new n way acts is so = tt

    renames_by : (n : ℕ) (acts : Acts Plainly) (v : World) → world floor events (suc t) ≡ v → (o : Option ℕ) → w.folder.names (Temporary c) ≡ o → v.folder ≡ moved w.folder c Boundary o → ThenAt v (update_turned bytes token (steps.Renames n) (there_told o))
    renames_by n acts v now None has is = tt
    renames_by n acts v now (Some i) has is = is_then Plainly acts v now Boundary (Some c) (ap (λ (f : Folder). f.names (At Boundary)) is ∙ ap Some (acts.own i has))

    renames : (n : ℕ) (way : Way) → Acts way → world floor events (suc t) ≡ next (Rename Boundary) way → ThenAt (next (Rename Boundary) way) (update_turned bytes token (steps.Renames n) (step_told c (Rename Boundary) way w.folder))
    renames n Plainly acts now = renames_by n acts (next (Rename Boundary) Plainly) now (w.folder.names (Temporary c)) refl refl
    renames n way acts now = tt

    number_if : (v : World) (n said : ℕ) → Acts Plainly → w.owners n ≡ Some c → (i : ℕ) → w.folder.names (At Boundary) ≡ Some i → (b : Bool) → ((w.folder.files i).time == n) ≡ b → ThenAt v (if b then Is (steps.UpdateSyncs (put_ok said)) else Is steps.UpdateCleans)
    number_if v n said acts mine i has true is =
        let same : i ≡ c = same_Some i c (sym (acts.made Boundary i has) ∙ ap w.owners (eqb-true (w.folder.files i).time n is) ∙ mine) in
        was_now Plainly acts Boundary (Some c) (has ∙ ap Some same)
    number_if v n said acts mine i has false is = tt

    number_by : (v : World) (n : ℕ) → Acts Plainly → w.owners n ≡ Some c → (o : Option ℕ) → w.folder.names (At Boundary) ≡ o → ThenAt v (update_turned bytes token (steps.LooksNumber n) (found_told w.folder o))
    number_by v n acts mine None has = tt
    number_by v n acts mine (Some i) has = number_if v n (steps.token_at Boundary bytes n) acts mine i has ((w.folder.files i).time == n) refl

    looks_number : (v : World) (n : ℕ) (way : Way) → Acts way → w.owners n ≡ Some c → ThenAt v (update_turned bytes token (steps.LooksNumber n) (step_told c (Find (At Boundary)) way w.folder))
    looks_number v n Plainly acts mine = number_by v n acts mine (w.folder.names (At Boundary)) refl
    looks_number v n way acts mine = tt

    update_syncs : (v : World) (verdict : Verdict) (way : Way) → Acts way → its.work ≡ Updates bytes token (Is (steps.UpdateSyncs verdict)) → NowAt (Is (steps.UpdateSyncs verdict)) → ThenAt v (update_turned bytes token (steps.UpdateSyncs verdict) (step_told c Sync way w.folder))
    update_syncs v verdict Plainly acts is so = puts_last Boundary bytes v verdict acts (ap (λ (k : Work). synced_in k (syncs.skipped t)) is) so
    update_syncs v verdict way acts is so = tt

    pub update_step : (state : steps.Updating) (way : Way) → Acts way → its.work ≡ Updates bytes token (Is state) → ((n : ℕ) → state ≡ steps.LooksNumber n → w.owners n ≡ Some c) → Keeps (next (steps.update_asked c bytes state) way) → world floor events (suc t) ≡ next (steps.update_asked c bytes state) way → NowAt (Is state) → ThenAt (next (steps.update_asked c bytes state) way) (update_turned bytes token state (step_told c (steps.update_asked c bytes state) way w.folder))
    update_step steps.Locks way acts is number keeps now so = locks (next (Take OfBoundary) way) (step_told c (Take OfBoundary) way w.folder)
    update_step steps.Seeks way acts is number keeps now so = seeks (next (Find (At Boundary)) way) (step_told c (Find (At Boundary)) way w.folder)
    update_step steps.Enters way acts is number keeps now so = enters (next (Find (At Boundary)) way) (step_told c (Find (At Boundary)) way w.folder)
    update_step (steps.Compares file) way acts is number keeps now so = compares (next (Read file) way) file (step_told c (Read file) way w.folder)
    update_step steps.UpdateDraws way acts is number keeps now so = update_draws (next Draw way) (step_told c Draw way w.folder)
    update_step (steps.UpdateMakes n) way acts is number keeps now so = update_makes (next Make way) n (step_told c Make way w.folder)
    update_step (steps.UpdateWrites n) way acts is number keeps now so = update_writes n way
    update_step (steps.UpdateSetsTime n) way acts is number keeps now so = update_sets_time n way so
    update_step (steps.UpdateSyncsNew n) way acts is number keeps now so = update_syncs_new n way acts is so
    update_step (steps.Renames n) way acts is number keeps now so = renames n way acts now
    update_step (steps.LooksNumber n) way acts is number keeps now so = looks_number (next (Find (At Boundary)) way) n way acts (number n refl)
    update_step steps.UpdateCleans way acts is number keeps now so = tt
    update_step (steps.UpdateSyncs verdict) way acts is number keeps now so = update_syncs (next Sync way) verdict way acts is so
    update_step (steps.Frees verdict) way acts is number keeps now so = put_ends floor events syncs t w (next (Let OfBoundary) way) keeps t (suc t) its.began c (omega arith) Boundary verdict so

  -- A delete.
  module _ (id : ℕ) where
    abbrev ThenGone : World → Phase steps.Deleting → Type 0
    ThenGone v phase = DeleteSo floor events syncs (suc t) v (suc t) its.began c id phase

    abbrev NowGone : Phase steps.Deleting → Type 0
    NowGone phase = DeleteSo floor events syncs t w t its.began c id phase

    -- the step removes the version
    removed_by : (state : steps.Deleting) → Acts Plainly → its.work ≡ Deletes id (Is state) → effect_in c w.folder (Deletes id (Is state)) Plainly ≡ Some (Removed id) → (s : ℕ) × (s < suc t) × Removes floor events syncs s c id
    removed_by state acts is makes = (
      t,
      omega arith,
      ap (effect_of w) acts.step ∙ ap (λ (b : Bool). if b then by_call c (effect_in c w.folder its.work Plainly) else None) acts.goes ∙ ap (λ (k : Work). by_call c (effect_in c w.folder k Plainly)) is ∙ ap (by_call c) makes,
    )

    peeks_by : (v : World) → Acts Plainly → its.work ≡ Deletes id (Is steps.Peeks) → (o : Option ℕ) → w.folder.names (At (Version id)) ≡ o → ThenGone v (delete_turned steps.Peeks (found_told w.folder o))
    peeks_by v acts is None has = (was_now Plainly acts (Version id) None has, removed_by steps.Peeks acts is (ap (peek_change id) has))
    peeks_by v acts is (Some i) has = tt

    peeks : (v : World) (way : Way) → Acts way → its.work ≡ Deletes id (Is steps.Peeks) → ThenGone v (delete_turned steps.Peeks (step_told c (Find (At (Version id))) way w.folder))
    peeks v Plainly acts is = peeks_by v acts is (w.folder.names (At (Version id))) refl
    peeks v way acts is = tt

    delete_locks : (v : World) (told : Told) → ThenGone v (delete_turned steps.DeleteLocks told)
    delete_locks v Done = tt
    delete_locks v told = tt

    unlinked_here : (next (Unlink (At (Version id))) Plainly).folder.names (At (Version id)) ≡ None
    unlinked_here = rw (eq-eqb id id refl) refl

    removes_by : Acts Plainly → its.work ≡ Deletes id (Is steps.Removes) → world floor events (suc t) ≡ next (Unlink (At (Version id))) Plainly → (o : Option ℕ) → ThenGone (next (Unlink (At (Version id))) Plainly) (delete_turned steps.Removes (there_told o))
    removes_by acts is now None = (is_then Plainly acts (next (Unlink (At (Version id))) Plainly) now (Version id) None unlinked_here, removed_by steps.Removes acts is refl)
    removes_by acts is now (Some i) = (is_then Plainly acts (next (Unlink (At (Version id))) Plainly) now (Version id) None unlinked_here, removed_by steps.Removes acts is refl)

    removes : (way : Way) → Acts way → its.work ≡ Deletes id (Is steps.Removes) → world floor events (suc t) ≡ next (Unlink (At (Version id))) way → ThenGone (next (Unlink (At (Version id))) way) (delete_turned steps.Removes (step_told c (Unlink (At (Version id))) way w.folder))
    removes Plainly acts is now = removes_by acts is now (w.folder.names (At (Version id)))
    removes way acts is now = tt

    gone_last : (v : World) (verdict : Verdict) → Acts Plainly → synced_in its.work (syncs.skipped t) ≡ FolderOf (Version id) → GoneSo floor events syncs t w t its.began c id verdict → GoneEnds floor events syncs (suc t) v (suc t) its.began c id verdict
    gone_last v (Tells (replies.Delete (Ok done))) acts is (was, (s, low, removes)) = (was_synced acts (Version id) None is was, record { at = s; removes = removes; sync = t; before = low; past = omega arith; synced = syncs_names acts (Version id) is })
    gone_last v verdict acts is so = tt

    delete_syncs : (v : World) (verdict : Verdict) (way : Way) → Acts way → its.work ≡ Deletes id (Is (steps.DeleteSyncs verdict)) → NowGone (Is (steps.DeleteSyncs verdict)) → ThenGone v (delete_turned (steps.DeleteSyncs verdict) (step_told c Sync way w.folder))
    delete_syncs v verdict Plainly acts is so = gone_last v verdict acts (ap (λ (k : Work). synced_in k (syncs.skipped t)) is) so
    delete_syncs v verdict way acts is so = tt

    pub delete_step : (state : steps.Deleting) (way : Way) → Acts way → its.work ≡ Deletes id (Is state) → Keeps (next (steps.delete_asked id state) way) → world floor events (suc t) ≡ next (steps.delete_asked id state) way → NowGone (Is state) → ThenGone (next (steps.delete_asked id state) way) (delete_turned state (step_told c (steps.delete_asked id state) way w.folder))
    delete_step steps.Peeks way acts is keeps now so = peeks (next (Find (At (Version id))) way) way acts is
    delete_step steps.DeleteLocks way acts is keeps now so = delete_locks (next (Take OfVersions) way) (step_told c (Take OfVersions) way w.folder)
    delete_step steps.Removes way acts is keeps now so = removes way acts is now
    delete_step (steps.DeleteSyncs verdict) way acts is keeps now so = delete_syncs (next Sync way) verdict way acts is so
    delete_step (steps.DeleteFrees verdict) way acts is keeps now so = gone_ends floor events syncs t w (next (Let OfVersions) way) keeps t (suc t) its.began c (omega arith) id verdict so

  -- A get.
  module _ (place : Place) (known : Option ℕ) where
    abbrev ThenGot : World → Phase steps.Getting → Type 0
    ThenGot v phase = GetSo floor events syncs (suc t) v (suc t) its.began c place known phase

    abbrev NowGot : Phase steps.Getting → Type 0
    NowGot phase = GetSo floor events syncs t w t its.began c place known phase

    looks : (v : World) (told : Told) → ThenGot v (get_turned place known steps.Looks told)
    looks v (Holds file time) = tt
    looks v told = tt

    opens_by : (v : World) → Acts Plainly → (o : Option ℕ) → w.folder.names (At place) ≡ o → ThenGot v (get_turned place known steps.Opens (found_told w.folder o))
    opens_by v acts None has = tt
    opens_by v acts (Some i) has = was_now Plainly acts place (Some i) has

    opens : (v : World) (way : Way) → Acts way → ThenGot v (get_turned place known steps.Opens (step_told c (Find (At place)) way w.folder))
    opens v Plainly acts = opens_by v acts (w.folder.names (At place)) refl
    opens v way acts = tt

    told_so : (v : World) → Keeps v → (file : ℕ) → Was floor events syncs t t its.began place (Some file) → ThenGot v (Is (steps.Lasts (got_told known (got_at place (w.folder.files file)))))
    told_so v keeps file was = (file, was_on floor events syncs t t (suc t) its.began place (Some file) (omega arith) was, ap (λ (f : File). got_told known (got_at place f)) (keeps place file was.at was.past was.is))

    reads : (v : World) (file : ℕ) (way : Way) → Keeps v → NowGot (Is (steps.Reads file)) → ThenGot v (get_turned place known (steps.Reads file) (step_told c (Read file) way w.folder))
    reads v file Plainly keeps so = told_so v keeps file so
    reads v file way keeps so = tt

    lasts_by : (file : ℕ) → Acts Plainly → (verdict : Verdict) → its.work ≡ Gets place known (Is (steps.Lasts verdict)) → Was floor events syncs t t its.began place (Some file) → (b : Bool) → syncs.skipped t ≡ b → Skipped floor events syncs (suc t) c ⊎ WasSynced floor events syncs (suc t) (suc t) its.began place (Some file)
    lasts_by file acts verdict is was true left = inl (t, omega arith, acts.step, left)
    lasts_by file acts verdict is was false left = inr (was_synced acts place (Some file) (ap (λ (k : Work). synced_in k (syncs.skipped t)) is ∙ ap (synced_in (Gets place known (Is (steps.Lasts verdict)))) left) was)

    file_last : (v : World) → Keeps v → (verdict : Verdict) → Acts Plainly → its.work ≡ Gets place known (Is (steps.Lasts verdict)) → FileTold floor events syncs t w t its.began c place known verdict → FileEnds floor events syncs (suc t) v (suc t) its.began c place known verdict
    file_last v keeps verdict acts is so =
        (so.0, was_on floor events syncs t t (suc t) its.began place (Some so.0) (omega arith) so.1, told_same floor events syncs t w v keeps t (suc t) its.began c (omega arith) place known so.0 verdict so.1 so.2, lasts_by so.0 acts verdict is so.1 (syncs.skipped t) refl)

    got_last : (v : World) → Keeps v → (verdict : Verdict) → Acts Plainly → its.work ≡ Gets place known (Is (steps.Lasts verdict)) → FileTold floor events syncs t w t its.began c place known verdict → GotEnds floor events syncs (suc t) v (suc t) its.began c place known verdict
    got_last v keeps (Tells (replies.Get (Ok got))) acts is so = file_last v keeps (Tells (replies.Get (Ok got))) acts is so
    got_last v keeps (Tells (replies.Get (Err errors.NotModified))) acts is so = file_last v keeps (Tells (replies.Get (Err errors.NotModified))) acts is so
    got_last v keeps verdict acts is so = tt

    lasts : (v : World) (verdict : Verdict) (way : Way) → Acts way → its.work ≡ Gets place known (Is (steps.Lasts verdict)) → Keeps v → NowGot (Is (steps.Lasts verdict)) → ThenGot v (get_turned place known (steps.Lasts verdict) (step_told c Sync way w.folder))
    lasts v verdict Plainly acts is keeps so = got_last v keeps verdict acts is so
    lasts v verdict way acts is keeps so = tt

    pub get_step : (state : steps.Getting) (way : Way) → Acts way → its.work ≡ Gets place known (Is state) → Keeps (next (steps.get_asked place state) way) → NowGot (Is state) → ThenGot (next (steps.get_asked place state) way) (get_turned place known state (step_told c (steps.get_asked place state) way w.folder))
    get_step steps.Looks way acts is keeps so = looks (next (Find (At place)) way) (step_told c (Find (At place)) way w.folder)
    get_step steps.Opens way acts is keeps so = opens (next (Find (At place)) way) way acts
    get_step (steps.Reads file) way acts is keeps so = reads (next (Read file) way) file way keeps so
    get_step (steps.Lasts verdict) way acts is keeps so = lasts (next Sync way) verdict way acts is keeps so
