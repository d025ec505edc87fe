-- Calls on views that run alone: what they answer, by the runs of the write or the read inside.
use Rattle.std.proofs.Common.{◌≡◌, ℕ, ◌≤◌, ◌+◌, ◌^◌, ◌<◌, true, false, List, Option, Some, None, IfSome, IfOk, IfErr, Result, Ok, Err, refl, sym, subst}
use Rattle.txn_store.specs.Paths.{Segments}
use Rattle.txn_store.specs.VersionName.{Names}
use Rattle.txn_store.specs.Store.{State}
use Rattle.txn_store.specs.types.Numbers.{number_of}
use Rattle.txn_store.specs.types.Epochs.{epoch_tested}
use Rattle.txn_store.specs.declared.types.error.TransactionalObjectError.{TransactionalObjectError}
use Rattle.txn_store.specs.declared.types.error.TransactionalObjectError.TheVariants as kinds
use Rattle.txn_steps.specs.boundary.Windows.{Ascends, greatest_held}
use Rattle.txn_steps.specs.declared.read.ReadOp.TheVariants as reads
use Rattle.txn_steps.specs.Reads.{read_started, read_asked, read_turned, read_caches_after}
use Rattle.txn_steps.specs.Writes.{write_started, write_asked, write_turned, write_caches}
use Rattle.txn_steps_driven.specs.Calls.{HasCause}
use Rattle.txn_steps_driven.specs.DriveRuns.{Scene, Drives}
use Rattle.txn_steps_laws.specs.DrivenReads.{IsNewest}
use Rattle.txn_steps_laws.proofs.DrivenRead.{read_driven}
use Rattle.txn_steps_laws.proofs.DrivenWrite.{checked_write_driven}
use Rattle.txn_steps_views.specs.declared.entry.EntryOp.{EntryOp}
use Rattle.txn_steps_views.specs.declared.entry.EntryOp.TheVariants as entries
use Rattle.txn_steps_views.specs.declared.outcome.Outcome.{Outcome}
use Rattle.txn_steps_views.specs.declared.view_read.Purpose.{Purpose}
use Rattle.txn_steps_views.specs.declared.view_read.Purpose.TheVariants.{Load, Refresh, HolderRefresh}
use Rattle.txn_steps_views.specs.declared.view_read.ViewReadOp.{ViewReadOp}
use Rattle.txn_steps_views.specs.Entries.{entry_asked, entry_caches}
use Rattle.txn_steps_views.specs.Readings.{said}
use Rattle.txn_steps_views.specs.ViewReads.{holder_viewed, view_read_asked}
use Rattle.txn_steps_laws.specs.declared.call.ViewCall.{ViewCall}
use Rattle.txn_steps_laws.specs.declared.with_epochs.WithEpochs.{WithEpochs}
use Rattle.txn_steps_laws.specs.CallLayers.{entry_at, entry_layer, view_read_at, view_read_gone, view_read_layer}
use Rattle.txn_steps_laws.specs.CallRuns.{EntrySteps, entry_call_turned, ViewReadSteps, view_read_call_turned}
use Rattle.txn_steps_laws.specs.Entering.{EntryStood, EntryDriven}
use Rattle.txn_steps_laws.specs.Layers.{run_through, part_of}
use Rattle.txn_steps_laws.specs.Viewing.{LoadAnswers, RefreshAnswers, HolderAnswers, ViewDriven}
use Rattle.txn_steps_laws.proofs.EntryRuns.{write_answers, write_spends}
use Rattle.txn_steps_laws.specs.Seen.{entry_seen, view_read_seen, seen_as}

-- a call over a write, which is based so and has an id

module _ {T : Type 0} (value : T) (names : Names) (decode : List ℕ → Option T) (path : Segments) (base : Option ℕ) (bytes : List ℕ) (reads : decode bytes ≡ Some value) (last : number_of base + 1 < 2 ^ 64) (a : Scene (ViewCall (EntryOp T))) (starts : a.op ≡ entry_at (entries.Writes (write_started names path base bytes) value)) where
  pub entry_driven : (steps : ℕ) (answer : Option (Result (Outcome T) TransactionalObjectError)) (b : Scene (ViewCall (EntryOp T))) → Drives EntrySteps steps a answer b → EntryDriven names decode path base bytes value steps a answer b
  entry_driven steps None b on =
      let run = run_through false write_asked write_turned (λ op caches told. write_caches op caches) (λ (call : ViewCall (EntryOp T)). call) (λ call. entry_asked call.op) entry_call_turned (λ call caches told. entry_caches call.op caches) (λ write. entry_at (entries.Writes write value)) (entry_at entries.Ended) (entry_seen value) (entry_layer value) (write_started names path base bytes) a starts steps None b on in
      checked_write_driven names decode path base bytes value reads last (part_of (write_started names path base bytes) a) refl steps None (part_of run.0 b) run.1
  entry_driven steps (Some answer) b on =
      let run = run_through false write_asked write_turned (λ op caches told. write_caches op caches) (λ (call : ViewCall (EntryOp T)). call) (λ call. entry_asked call.op) entry_call_turned (λ call caches told. entry_caches call.op caches) (λ write. entry_at (entries.Writes write value)) (entry_at entries.Ended) (entry_seen value) (entry_layer value) (write_started names path base bytes) a starts steps (Some answer) b on in
      let write = checked_write_driven names decode path base bytes value reads last (part_of (write_started names path base bytes) a) refl steps (Some run.1) (part_of run.0 b) run.2 in
      record {
        last = run.0;
        told = run.1;
        write = write;
        shows = run.3;
        spends = write_spends names decode path base bytes value (part_of (write_started names path base bytes) a) (part_of run.0 b) last run.1 write;
        stood = λ apart h n stood most. subst (λ answer. EntryStood names decode path h n (number_of base) value a.store b.store b.caches answer) (sym run.3) (write_answers names decode path base bytes value (part_of (write_started names path base bytes) a) (part_of run.0 b) last apart h n stood most run.1 write);
      }

-- what a call makes of a read, where all stood, by what it is for

module _ {T : Type 0} (epoch_of : T → ℕ) (h : List T) (old new : State) where
  abbrev Told : Result (Option (ℕ × T)) TransactionalObjectError → Type 0
  Told told = IfOk told (IsNewest h) × IfErr told (HasCause old new)

  abbrev AnswersFor : Purpose → Result (Outcome T) TransactionalObjectError → Type 0
  AnswersFor Load = LoadAnswers h old new
  AnswersFor Refresh = RefreshAnswers h old new
  AnswersFor (HolderRefresh local) = HolderAnswers epoch_of local h old new

  failed : (purpose : Purpose) (error : TransactionalObjectError) → HasCause old new error → AnswersFor purpose (Err error)
  failed Load kinds.LatestRecordMissing cause = absurd cause
  failed Load error cause = cause
  failed Refresh kinds.InvalidObjectState cause = absurd cause
  failed Refresh error cause = cause
  failed (HolderRefresh local) kinds.InvalidObjectState cause = absurd cause
  failed (HolderRefresh local) error cause = cause

  by_epoch : (local : ℕ) (found : ℕ × T) (tested : Result (Unit {0}) TransactionalObjectError) → IsNewest h (Some found) → epoch_tested local (epoch_of found.1) ≡ tested → HolderAnswers epoch_of local h old new (Ok (holder_viewed found tested))
  by_epoch local found (Ok own) newest is = (newest, is)
  by_epoch local found (Err error) newest is = (newest, is)

  answers : (purpose : Purpose) (told : Result (Option (ℕ × T)) TransactionalObjectError) → Told told → AnswersFor purpose (seen_as (view_read_seen epoch_of purpose) told)
  answers Load (Ok None) is = is.0
  answers Load (Ok (Some found)) is = is.0
  answers Refresh (Ok None) is = is.0
  answers Refresh (Ok (Some found)) is = is.0
  answers (HolderRefresh local) (Ok None) is = is.0
  answers (HolderRefresh local) (Ok (Some found)) is = by_epoch local found (epoch_tested local (epoch_of found.1)) is.0 refl
  answers purpose (Err error) is = failed purpose error is.1

-- a call over a read, for a purpose

module _ {T X : Type 0} (names : Names) (path : Segments) (page : ℕ) (room : 1 ≤ page) (decode : List ℕ → Option T) (epoch_of : X → T → ℕ) (purpose : Purpose) (a : Scene (WithEpochs (ViewReadOp T) X)) (ascending : Ascends a.caches.latest) (small : IfSome (greatest_held a.caches.latest) (λ version. version.id < 2 ^ 64)) (starts : a.op ≡ view_read_at purpose a.op.epochs (read_started path)) where
  pub view_driven : (steps : ℕ) (answer : Option (Result (Outcome T) TransactionalObjectError)) (b : Scene (WithEpochs (ViewReadOp T) X)) → Drives (ViewReadSteps names path page decode epoch_of) steps a answer b → ViewDriven names decode path page (view_read_seen (epoch_of a.op.epochs) purpose) (λ h old new. AnswersFor (epoch_of a.op.epochs) h old new purpose) steps a answer b
  view_driven steps None b on =
      let run = run_through true read_asked (read_turned names path page decode) read_caches_after view_read_gone (λ call. view_read_asked call.op) (view_read_call_turned names path page decode epoch_of) (λ call caches told. read_caches_after call.op.read caches (said told)) (view_read_at purpose a.op.epochs) (view_read_at purpose a.op.epochs reads.Ended) (view_read_seen (epoch_of a.op.epochs) purpose) (view_read_layer names path page decode epoch_of purpose a.op.epochs) (read_started path) a starts steps None b on in
      read_driven names path page room decode (part_of (read_started path) a) refl ascending small steps None (part_of run.0 b) run.1
  view_driven steps (Some answer) b on =
      let run = run_through true read_asked (read_turned names path page decode) read_caches_after view_read_gone (λ call. view_read_asked call.op) (view_read_call_turned names path page decode epoch_of) (λ call caches told. read_caches_after call.op.read caches (said told)) (view_read_at purpose a.op.epochs) (view_read_at purpose a.op.epochs reads.Ended) (view_read_seen (epoch_of a.op.epochs) purpose) (view_read_layer names path page decode epoch_of purpose a.op.epochs) (read_started path) a starts steps (Some answer) b on in
      let read = read_driven names path page room decode (part_of (read_started path) a) refl ascending small steps (Some run.1) (part_of run.0 b) run.2 in
      record {
        last = run.0;
        told = run.1;
        read = read;
        shows = run.3;
        stood = λ h n stood. let newest = read.stands h n stood in record { stands = newest.stands; answer = subst (AnswersFor (epoch_of a.op.epochs) h a.store b.store purpose) (sym run.3) (answers (epoch_of a.op.epochs) h a.store b.store purpose run.1 (newest.answer, newest.cause)); calls = newest.calls };
      }
