-- What holds of the calls over a folder at each moment, of what they have made to last.
use Rattle.std.proofs.Common.{◌≡◌, ℕ, suc, ◌<◌, ◌≤◌, List, Option, Some, None, Ok, Err, ap, sym, subst, ◌∙◌, arith, ◌⊎◌, inl, inr}
use Rattle.std.specs.Prelude.{true}
use Rattle.std.proofs.lemmas.Bool.{cases_lt}
use Rattle.txn_store.specs.declared.store.StoreError.TheVariants as errors
use Rattle.txn_store.specs.declared.request.Reply.TheVariants as replies
use Rattle.txn_folder.specs.steps.Folders.{Place, Version, Boundary, Temporary, File, Plainly}
use Rattle.txn_folder.specs.steps.Steps as steps
use Rattle.txn_folder.specs.steps.Steps.{Verdict, Tells, Phase, Is, Ends, Work, Creates, Gets, Updates, Deletes, got_at, got_told, asked, verdict_of}
use Rattle.txn_store.specs.declared.request.Reply.{Reply}
use Rattle.txn_folder_model.specs.Worlds.{Call, World, Event, Step, world}
use Rattle.txn_folder_model.specs.Power.{Syncs, SyncsAt, SyncsNames, OwnFile, ChangesAt, MayChange, name_at, IsPut}
use Rattle.txn_folder_model.proofs.Ghosts.{Removed, effect_of}
use Rattle.txn_folder_model.proofs.Facts.{number_of}

-- the moment up to which a call may have done something
abbrev pub limit : ℕ → Option ℕ → ℕ
limit t None = t
limit t (Some end) = end

-- A call that changes its file no more, and gives it no name.
abbrev pub create_rests : steps.Creating → Type 0
create_rests (steps.LooksOwn n taken) = Unit {0}
create_rests (steps.LooksThere n taken own) = Unit {0}
create_rests (steps.LooksTaken n) = Unit {0}
create_rests (steps.Cleans verdict) = Unit {0}
create_rests (steps.Syncs verdict) = Unit {0}
create_rests state = ⊥

abbrev pub update_rests : steps.Updating → Type 0
update_rests (steps.LooksNumber n) = Unit {0}
update_rests steps.UpdateCleans = Unit {0}
update_rests (steps.UpdateSyncs verdict) = Unit {0}
update_rests (steps.Frees verdict) = Unit {0}
update_rests state = ⊥

abbrev pub Rests : Work → Type 0
Rests (Creates place bytes (Is state)) = create_rests state
Rests (Updates bytes token (Is state)) = update_rests state
Rests (Creates place bytes (Ends verdict)) = Unit {0}
Rests (Updates bytes token (Ends verdict)) = Unit {0}
Rests work = ⊥

abbrev pub HasAll : File → List ℕ → ℕ → Type 0
HasAll file bytes n = (file.bytes ≡ bytes) × (file.time ≡ n)

module _ (floor : ℕ) (events : ℕ → Event) (syncs : Syncs) where
  -- a call's file was synced, and not changed since
  pub record Sealed (t : ℕ) (w : World) (c : ℕ) : Type 0 where
    pub at : ℕ
    pub past : at < t
    pub synced : SyncsAt floor events syncs at c OwnFile
    pub still : (m : ℕ) → at ≤ m → m < t → ¬ (ChangesAt floor events m c)
    pub same : w.folder.files c ≡ (world floor events at).folder.files c

  -- what has the name of a place was made there by its call
  pub record Made (t : ℕ) (w : World) (place : Place) (file : ℕ) : Type 0 where
    pub low : file < w.count
    pub put : IsPut (w.calls file).work place (w.folder.files file).bytes
    pub sealed : Sealed t w file
    pub rests : Rests (w.calls file).work
    pub number : w.owners (w.folder.files file).time ≡ Some file

  -- a place's name led there at a moment since a call began
  pub record Was (t until began : ℕ) (place : Place) (name : Option ℕ) : Type 0 where
    pub at : ℕ
    pub since : began ≤ at
    pub past : at ≤ t
    pub within : at ≤ until
    pub is : name_at floor events at place ≡ name

  -- and was made to last after it
  pub record WasSynced (t until began : ℕ) (place : Place) (name : Option ℕ) : Type 0 where
    pub at : ℕ
    pub since : began ≤ at
    pub is : name_at floor events at place ≡ name
    pub sync : ℕ
    pub after : at ≤ sync
    pub past : sync < t
    pub within : sync < until
    pub synced : SyncsNames floor events syncs sync place

  -- a call left its sync out
  abbrev pub Skipped : ℕ → ℕ → Type 0
  Skipped t c = (s : ℕ) × (s < t) × (events s ≡ Step c Plainly) × (syncs.skipped s ≡ true)

  -- a call's step removed a version
  abbrev pub Removes : ℕ → ℕ → ℕ → Type 0
  Removes s c id = effect_of (world floor events s) (events s) ≡ Some (record { call = c; change = Removed id })

  -- and that was made to last after it
  pub record IsGone (t c id : ℕ) : Type 0 where
    pub at : ℕ
    pub removes : Removes at c id
    pub sync : ℕ
    pub before : at < sync
    pub past : sync < t
    pub synced : SyncsNames floor events syncs sync (Version id)

  module _ (t : ℕ) (w : World) (until began c : ℕ) where
    abbrev pub PutSo : Place → Verdict → Type 0
    PutSo place (Tells (replies.Put (Ok token))) = Was t until began place (Some c)
    PutSo place verdict = Unit {0}

    abbrev pub PutEnds : Place → Verdict → Type 0
    PutEnds place (Tells (replies.Put (Ok token))) = WasSynced t until began place (Some c)
    PutEnds place verdict = Unit {0}

    abbrev pub CreateSo : Place → List ℕ → Phase steps.Creating → Type 0
    CreateSo place bytes (Is (steps.SetsTime n)) = (w.folder.files c).bytes ≡ bytes
    CreateSo place bytes (Is (steps.SyncsNew n)) = HasAll (w.folder.files c) bytes n
    CreateSo place bytes (Is (steps.Links n)) = HasAll (w.folder.files c) bytes n × Sealed t w c
    CreateSo place bytes (Is (steps.LooksThere n taken own)) = own ≡ c
    CreateSo place bytes (Is (steps.Cleans verdict)) = PutSo place verdict
    CreateSo place bytes (Is (steps.Syncs verdict)) = PutSo place verdict
    CreateSo place bytes (Is state) = Unit {0}
    CreateSo place bytes (Ends verdict) = PutEnds place verdict

    abbrev pub UpdateSo : List ℕ → Phase steps.Updating → Type 0
    UpdateSo bytes (Is (steps.UpdateSetsTime n)) = (w.folder.files c).bytes ≡ bytes
    UpdateSo bytes (Is (steps.UpdateSyncsNew n)) = HasAll (w.folder.files c) bytes n
    UpdateSo bytes (Is (steps.Renames n)) = HasAll (w.folder.files c) bytes n × Sealed t w c
    UpdateSo bytes (Is (steps.UpdateSyncs verdict)) = PutSo Boundary verdict
    UpdateSo bytes (Is (steps.Frees verdict)) = PutEnds Boundary verdict
    UpdateSo bytes (Is state) = Unit {0}
    UpdateSo bytes (Ends verdict) = PutEnds Boundary verdict

    abbrev pub GoneSo : ℕ → Verdict → Type 0
    GoneSo id (Tells (replies.Delete (Ok done))) = Was t until began (Version id) None × ((s : ℕ) × (s < t) × Removes s c id)
    GoneSo id verdict = Unit {0}

    abbrev pub GoneEnds : ℕ → Verdict → Type 0
    GoneEnds id (Tells (replies.Delete (Ok done))) = WasSynced t until began (Version id) None × IsGone t c id
    GoneEnds id verdict = Unit {0}

    abbrev pub DeleteSo : ℕ → Phase steps.Deleting → Type 0
    DeleteSo id (Is (steps.DeleteSyncs verdict)) = GoneSo id verdict
    DeleteSo id (Is (steps.DeleteFrees verdict)) = GoneEnds id verdict
    DeleteSo id (Is state) = Unit {0}
    DeleteSo id (Ends verdict) = GoneEnds id verdict

    -- a get was to tell this of a file that was there
    abbrev pub FileTold : Place → Option ℕ → Verdict → Type 0
    FileTold place known verdict = (file : ℕ) × Was t until began place (Some file) × (got_told known (got_at place (w.folder.files file)) ≡ verdict)

    -- and synced the folder, or left that out
    abbrev pub FileEnds : Place → Option ℕ → Verdict → Type 0
    FileEnds place known verdict = (file : ℕ) × Was t until began place (Some file) × (got_told known (got_at place (w.folder.files file)) ≡ verdict) × (Skipped t c ⊎ WasSynced t until began place (Some file))

    abbrev pub GotEnds : Place → Option ℕ → Verdict → Type 0
    GotEnds place known (Tells (replies.Get (Ok got))) = FileEnds place known (Tells (replies.Get (Ok got)))
    GotEnds place known (Tells (replies.Get (Err errors.NotModified))) = FileEnds place known (Tells (replies.Get (Err errors.NotModified)))
    GotEnds place known verdict = Unit {0}

    abbrev pub GetSo : Place → Option ℕ → Phase steps.Getting → Type 0
    GetSo place known (Is (steps.Reads file)) = Was t until began place (Some file)
    GetSo place known (Is (steps.Lasts verdict)) = FileTold place known verdict
    GetSo place known (Is state) = Unit {0}
    GetSo place known (Ends verdict) = GotEnds place known verdict

    abbrev pub WorkSo : Work → Type 0
    WorkSo (Creates place bytes phase) = CreateSo place bytes phase
    WorkSo (Gets place known phase) = GetSo place known phase
    WorkSo (Updates bytes token phase) = UpdateSo bytes phase
    WorkSo (Deletes id phase) = DeleteSo id phase

  pub record CallSo (t : ℕ) (w : World) (c : ℕ) (k : Call) : Type 0 where
    pub work : WorkSo t w (limit t k.ended) k.began c k.work
    pub number : (n : ℕ) → number_of k.work ≡ Some n → w.owners n ≡ Some c
    pub began_is : k.began ≤ t
    pub told : (reply : Reply) → k.answer ≡ Some reply → verdict_of k.work ≡ Some (Tells reply)
    pub silent : k.ended ≡ None → k.answer ≡ None

  pub record AllSo (t : ℕ) (w : World) : Type 0 where
    pub calls : (c : ℕ) → c < w.count → CallSo t w c (w.calls c)
    pub temps : (c file : ℕ) → w.folder.names (Temporary c) ≡ Some file → file ≡ c
    pub ever : (m : ℕ) (place : Place) (file : ℕ) → m ≤ t → name_at floor events m place ≡ Some file → Made t w place file

  -- One moment later.

  module _ (t : ℕ) where
    pub was_on : (until more began : ℕ) (place : Place) (name : Option ℕ) → until ≤ more → Was t until began place name → Was (suc t) more began place name
    was_on until more began place name most h = let past = h.past in let within = h.within in record { at = h.at; since = h.since; past = omega (arith, past); within = omega (arith, within, most); is = h.is }

    pub was_synced_on : (until more began : ℕ) (place : Place) (name : Option ℕ) → until ≤ more → WasSynced t until began place name → WasSynced (suc t) more began place name
    was_synced_on until more began place name most h = let past = h.past in let within = h.within in record { at = h.at; since = h.since; is = h.is; sync = h.sync; after = h.after; past = omega (arith, past); within = omega (arith, within, most); synced = h.synced }

    pub gone_on : (c id : ℕ) → IsGone t c id → IsGone (suc t) c id
    gone_on c id h = let past = h.past in record { at = h.at; removes = h.removes; sync = h.sync; before = h.before; past = omega (arith, past); synced = h.synced }

    pub skipped_on : (c : ℕ) → Skipped t c → Skipped (suc t) c
    skipped_on c h = let past = h.1 in (h.0, omega (arith, past), h.2, h.3)

    earlier : (m : ℕ) → m < suc t → (m < t) ⊎ (m ≡ t)
    earlier m low = by (cases_lt m t)
      where
        by : (m < t) ⊎ (t ≤ m) → (m < t) ⊎ (m ≡ t)
        by (inl less) = inl less
        by (inr most) = inr (omega (arith, low, most))

    pub sealed_on : (w v : World) (c : ℕ) → ¬ (ChangesAt floor events t c) → v.folder.files c ≡ w.folder.files c → Sealed t w c → Sealed (suc t) v c
    sealed_on w v c never same h = let past = h.past in record {
      at = h.at;
      past = omega (arith, past);
      synced = h.synced;
      still = λ m since low. at m since (earlier m low);
      same = same ∙ h.same;
    }
      where
        at : (m : ℕ) → h.at ≤ m → (m < t) ⊎ (m ≡ t) → ¬ (ChangesAt floor events m c)
        at m since (inl before) = h.still m since before
        at m since (inr now) = λ changes. never (subst (λ (x : ℕ). ChangesAt floor events x c) now changes)

    -- by what an event leaves of files that were made
    module _ (w v : World) (kept : (place : Place) (file m : ℕ) → m ≤ t → name_at floor events m place ≡ Some file → v.folder.files file ≡ w.folder.files file) (until more began c : ℕ) (most : until ≤ more) where
      pub put_so : (place : Place) (verdict : Verdict) → PutSo t w until began c place verdict → PutSo (suc t) v more began c place verdict
      put_so place (Tells (replies.Put (Ok token))) h = was_on until more began place (Some c) most h
      put_so place verdict h = tt

      pub put_ends : (place : Place) (verdict : Verdict) → PutEnds t w until began c place verdict → PutEnds (suc t) v more began c place verdict
      put_ends place (Tells (replies.Put (Ok token))) h = was_synced_on until more began place (Some c) most h
      put_ends place verdict h = tt

      pub gone_so : (id : ℕ) (verdict : Verdict) → GoneSo t w until began c id verdict → GoneSo (suc t) v more began c id verdict
      gone_so id (Tells (replies.Delete (Ok done))) (was, (s, low, removes)) = (was_on until more began (Version id) None most was, (s, omega (arith, low), removes))
      gone_so id verdict h = tt

      pub gone_ends : (id : ℕ) (verdict : Verdict) → GoneEnds t w until began c id verdict → GoneEnds (suc t) v more began c id verdict
      gone_ends id (Tells (replies.Delete (Ok done))) h = (was_synced_on until more began (Version id) None most h.0, gone_on c id h.1)
      gone_ends id verdict h = tt

      pub told_same : (place : Place) (known : Option ℕ) (file : ℕ) (verdict : Verdict) → Was t until began place (Some file) → got_told known (got_at place (w.folder.files file)) ≡ verdict → got_told known (got_at place (v.folder.files file)) ≡ verdict
      told_same place known file verdict was is = ap (λ (f : File). got_told known (got_at place f)) (kept place file was.at was.past was.is) ∙ is

      file_told : (place : Place) (known : Option ℕ) (verdict : Verdict) → FileTold t w until began c place known verdict → FileTold (suc t) v more began c place known verdict
      file_told place known verdict h = (h.0, was_on until more began place (Some h.0) most h.1, told_same place known h.0 verdict h.1 h.2)

      skips_on : (place : Place) (file : ℕ) → Skipped t c ⊎ WasSynced t until began place (Some file) → Skipped (suc t) c ⊎ WasSynced (suc t) more began place (Some file)
      skips_on place file (inl skipped) = inl (skipped_on c skipped)
      skips_on place file (inr synced) = inr (was_synced_on until more began place (Some file) most synced)

      file_ends : (place : Place) (known : Option ℕ) (verdict : Verdict) → FileEnds t w until began c place known verdict → FileEnds (suc t) v more began c place known verdict
      file_ends place known verdict h = (h.0, was_on until more began place (Some h.0) most h.1, told_same place known h.0 verdict h.1 h.2, skips_on place h.0 h.3)

      got_ends : (place : Place) (known : Option ℕ) (verdict : Verdict) → GotEnds t w until began c place known verdict → GotEnds (suc t) v more began c place known verdict
      got_ends place known (Tells (replies.Get (Ok got))) h = file_ends place known (Tells (replies.Get (Ok got))) h
      got_ends place known (Tells (replies.Get (Err errors.NotModified))) h = file_ends place known (Tells (replies.Get (Err errors.NotModified))) h
      got_ends place known verdict h = tt

      -- of a call that asks for no change of its file, or whose file is not changed
      module _ (same : v.folder.files c ≡ w.folder.files c) where
        all_on : (bytes : List ℕ) (n : ℕ) → HasAll (w.folder.files c) bytes n → HasAll (v.folder.files c) bytes n
        all_on bytes n has = subst (λ (f : File). HasAll f bytes n) (sym same) has

        sealed_so : (bytes : List ℕ) (n : ℕ) → ¬ (ChangesAt floor events t c) → HasAll (w.folder.files c) bytes n × Sealed t w c → HasAll (v.folder.files c) bytes n × Sealed (suc t) v c
        sealed_so bytes n never h = (all_on bytes n h.0, sealed_on w v c never same h.1)

        create_on : (place : Place) (bytes : List ℕ) (phase : Phase steps.Creating) → (¬ (MayChange (asked c (Creates place bytes phase))) → ¬ (ChangesAt floor events t c)) → CreateSo t w until began c place bytes phase → CreateSo (suc t) v more began c place bytes phase
        create_on place bytes (Is (steps.SetsTime n)) never h = ap (λ (f : File). f.bytes) same ∙ h
        create_on place bytes (Is (steps.SyncsNew n)) never h = all_on bytes n h
        create_on place bytes (Is (steps.Links n)) never h = sealed_so bytes n (never (λ changes. changes)) h
        create_on place bytes (Is (steps.LooksThere n taken own)) never h = h
        create_on place bytes (Is (steps.Cleans verdict)) never h = put_so place verdict h
        create_on place bytes (Is (steps.Syncs verdict)) never h = put_so place verdict h
        create_on place bytes (Is state) never h = tt
        create_on place bytes (Ends verdict) never h = put_ends place verdict h

        update_on : (bytes : List ℕ) (token : ℕ) (phase : Phase steps.Updating) → (¬ (MayChange (asked c (Updates bytes token phase))) → ¬ (ChangesAt floor events t c)) → UpdateSo t w until began c bytes phase → UpdateSo (suc t) v more began c bytes phase
        update_on bytes token (Is (steps.UpdateSetsTime n)) never h = ap (λ (f : File). f.bytes) same ∙ h
        update_on bytes token (Is (steps.UpdateSyncsNew n)) never h = all_on bytes n h
        update_on bytes token (Is (steps.Renames n)) never h = sealed_so bytes n (never (λ changes. changes)) h
        update_on bytes token (Is (steps.UpdateSyncs verdict)) never h = put_so Boundary verdict h
        update_on bytes token (Is (steps.Frees verdict)) never h = put_ends Boundary verdict h
        update_on bytes token (Is state) never h = tt
        update_on bytes token (Ends verdict) never h = put_ends Boundary verdict h

        delete_on : (id : ℕ) (phase : Phase steps.Deleting) → DeleteSo t w until began c id phase → DeleteSo (suc t) v more began c id phase
        delete_on id (Is (steps.DeleteSyncs verdict)) h = gone_so id verdict h
        delete_on id (Is (steps.DeleteFrees verdict)) h = gone_ends id verdict h
        delete_on id (Is state) h = tt
        delete_on id (Ends verdict) h = gone_ends id verdict h

        get_on : (place : Place) (known : Option ℕ) (phase : Phase steps.Getting) → GetSo t w until began c place known phase → GetSo (suc t) v more began c place known phase
        get_on place known (Is (steps.Reads file)) h = was_on until more began place (Some file) most h
        get_on place known (Is (steps.Lasts verdict)) h = file_told place known verdict h
        get_on place known (Is state) h = tt
        get_on place known (Ends verdict) h = got_ends place known verdict h

        pub work_on : (work : Work) → (¬ (MayChange (asked c work)) → ¬ (ChangesAt floor events t c)) → WorkSo t w until began c work → WorkSo (suc t) v more began c work
        work_on (Creates place bytes phase) never h = create_on place bytes phase never h
        work_on (Gets place known phase) never h = get_on place known phase h
        work_on (Updates bytes token phase) never h = update_on bytes token phase never h
        work_on (Deletes id phase) never h = delete_on id phase h
