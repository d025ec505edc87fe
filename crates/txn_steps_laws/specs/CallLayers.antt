-- Which layer a call is: over its write, or over its read of the newest version.
use Rattle.std.specs.Prelude.{◌≡◌, ℕ, true, false, List, Option, Some, None, Result, Ok, Err}
use Rattle.std.proofs.Common.{refl, sym, ap, ◌∙◌}
use Rattle.txn_store.specs.Paths.{Segments}
use Rattle.txn_store.specs.VersionName.{Names}
use Rattle.txn_store.specs.declared.request.Reply.{Reply}
use Rattle.txn_store.specs.types.Errors.{error_number}
use Rattle.txn_store.specs.types.Epochs.{epoch_tested}
use Rattle.txn_store.specs.declared.types.error.TransactionalObjectError.{TransactionalObjectError}
use Rattle.txn_store.specs.declared.types.error.TransactionalObjectError.TheVariants.{LatestRecordMissing, InvalidObjectState}
use Rattle.txn_steps.specs.declared.boundary.caches.Caches.{Caches}
use Rattle.txn_steps.specs.declared.boundary.turned.Turned.{Turned}
use Rattle.txn_steps.specs.declared.boundary.turned.Turned.TheVariants.{Goes, Done}
use Rattle.txn_steps.specs.boundary.Asking.{unless_lacking}
use Rattle.txn_steps.specs.boundary.Steps.{by_number, lacks_memory}
use Rattle.txn_steps.specs.declared.read.ReadOp.{ReadOp}
use Rattle.txn_steps.specs.declared.read.ReadOp.TheVariants as reads
use Rattle.txn_steps.specs.declared.write.WriteOp.{WriteOp}
use Rattle.txn_steps.specs.Latest.{ReadAnswer}
use Rattle.txn_steps.specs.Reads.{read_asked, read_turned, read_caches_after}
use Rattle.txn_steps.specs.Writes.{write_asked, write_turned, write_caches}
use Rattle.txn_steps_driven.proofs.Refusals.{HoldsNothing, error_is}
use Rattle.txn_steps_views.specs.declared.entry.EntryOp.{EntryOp}
use Rattle.txn_steps_views.specs.declared.entry.EntryOp.TheVariants as entries
use Rattle.txn_steps_views.specs.declared.outcome.Outcome.{Outcome}
use Rattle.txn_steps_views.specs.declared.outcome.Outcome.TheVariants.{Viewed}
use Rattle.txn_steps_views.specs.declared.view_read.Purpose.{Purpose}
use Rattle.txn_steps_views.specs.declared.view_read.Purpose.TheVariants.{Load, Refresh, HolderRefresh}
use Rattle.txn_steps_views.specs.declared.view_read.ViewReadOp.{ViewReadOp}
use Rattle.txn_steps_views.specs.Entries.{entry_asked, entry_caches, written_turned}
use Rattle.txn_steps_views.specs.Readings.{seen, said}
use Rattle.txn_steps_views.specs.ViewReads.{as_view_read, holder_viewed, shown, view_read_asked, view_read_ended}
use Rattle.txn_steps_views.proofs.ReadLemmas.{left_as_said}
use Rattle.txn_steps_laws.specs.declared.call.ViewCall.{ViewCall}
use Rattle.txn_steps_laws.specs.declared.with_epochs.WithEpochs.{WithEpochs}
use Rattle.txn_steps_laws.specs.CallRuns.{entry_call_turned, view_read_call_turned}
use Rattle.txn_steps_laws.specs.Layers.{Alike, Layer, layered}
use Rattle.txn_steps_laws.specs.Seen.{entry_seen, view_read_seen}

-- an answer that is known by its number

module _ {B : Type 0} where
  settles_ok : (value : B) (answer : Result B TransactionalObjectError) → by_number answer ≡ Ok value → answer ≡ Ok value
  settles_ok value (Ok other) is = let same : other ≡ value = cc in ap Ok same
  settles_ok value (Err error) is = absurd (cc)

  settles_err : (kind : TransactionalObjectError) → HoldsNothing kind → (answer : Result B TransactionalObjectError) → by_number answer ≡ Err (error_number kind) → answer ≡ Err kind
  settles_err kind bare (Ok value) is = absurd (cc)
  settles_err kind bare (Err error) is = let same : error_number error ≡ error_number kind = cc in ap Err (error_is kind error bare same)

-- a call over a write

module _ {T : Type 0} where
  -- a call at a state of its write
  abbrev pub entry_at : EntryOp T → ViewCall (EntryOp T)
  entry_at entry = record { op = entry }

  abbrev pub EntryLayer : T → Type 0
  EntryLayer value = Layer false write_asked write_turned (λ op caches told. write_caches op caches) (λ (call : ViewCall (EntryOp T)). call) (λ call. entry_asked call.op) entry_call_turned (λ call caches told. entry_caches call.op caches) (λ write. entry_at (entries.Writes write value)) (entry_at entries.Ended) (entry_seen value)

  entry_turns : (value : T) (next : WriteOp × Turned (Result ℕ ℕ)) → (entry_at (written_turned value next).0, (written_turned value next).1) ≡ layered (λ write. entry_at (entries.Writes write value)) (entry_at entries.Ended) (entry_seen value) next
  entry_turns value (write, Goes) = refl
  entry_turns value (write, Done (Ok id)) = refl
  entry_turns value (write, Done (Err number)) = refl

  pub entry_layer : (value : T) → EntryLayer value
  entry_layer value = record { asks = λ part. refl; turns = λ part caches reply. entry_turns value (write_turned part caches reply); leaves = λ part next caches reply told answer alike takes. refl; settles = λ id answer is. settles_ok (Viewed id value) answer is }

-- a call over a read

module _ {T : Type 0} where
  same_said : {A B : Type 0} (told : Turned A) (answer : Turned B) → Alike told answer → said {T = T} answer ≡ said told
  same_said Goes Goes alike = refl
  same_said (Done x) (Done y) alike = refl
  same_said Goes (Done y) alike = absurd alike
  same_said (Done x) Goes alike = absurd alike

  seen_turns : {P O : Type 0} (wrap : ReadOp T → P) (hold : P → O) (see : Option (ℕ × T) → Result (Outcome T) ℕ) (see' : Option (ℕ × T) → Result (Outcome T) TransactionalObjectError) → ((found : Option (ℕ × T)) → see found ≡ by_number (see' found)) → (next : ReadOp T × Turned (ReadAnswer T)) → (hold (seen wrap see next).0, (seen wrap see next).1) ≡ layered (λ read. hold (wrap read)) (hold (wrap reads.Ended)) see' next
  seen_turns {P} {O} wrap hold see see' same (read, Goes) = refl
  seen_turns {P} {O} wrap hold see see' same (read, Done (Ok found)) = ap (λ (answer : Result (Outcome T) ℕ). (hold (wrap reads.Ended), Done answer)) (same found)
  seen_turns {P} {O} wrap hold see see' same (read, Done (Err number)) = refl

module _ {T : Type 0} (names : Names) (path : Segments) (page : ℕ) (decode : List ℕ → Option T) where
  read_leaves : (part next : ReadOp T) (caches : Caches) (reply : Option Reply) (told : Turned (ReadAnswer T)) (answer : Turned (Result (Outcome T) ℕ)) → Alike told answer → (next, told) ≡ unless_lacking (lacks_memory told) part (read_turned names path page decode part caches reply) → read_caches_after part caches (said answer) ≡ read_caches_after part caches told
  read_leaves part next caches reply told answer alike takes = ap (λ (t : Turned (ReadAnswer T)). read_caches_after part caches t) (same_said told answer alike) ∙ sym (left_as_said names path page decode part caches reply next told takes)

module _ {T : Type 0} (epoch_of : T → ℕ) where
  -- what is shown of a read, by number
  shown_same : (purpose : Purpose) (found : Option (ℕ × T)) → shown epoch_of purpose found ≡ by_number (view_read_seen epoch_of purpose found)
  shown_same Load (Some found) = refl
  shown_same Load None = refl
  shown_same Refresh (Some found) = refl
  shown_same Refresh None = refl
  shown_same (HolderRefresh local) (Some found) = refl
  shown_same (HolderRefresh local) None = refl

  shown_settles : (purpose : Purpose) (found : Option (ℕ × T)) (answer : Result (Outcome T) TransactionalObjectError) → by_number answer ≡ by_number (view_read_seen epoch_of purpose found) → answer ≡ view_read_seen epoch_of purpose found
  shown_settles Load (Some found) answer is = settles_ok (Viewed found.0 found.1) answer is
  shown_settles Load None answer is = settles_err LatestRecordMissing tt answer is
  shown_settles Refresh (Some found) answer is = settles_ok (Viewed found.0 found.1) answer is
  shown_settles Refresh None answer is = settles_err InvalidObjectState tt answer is
  shown_settles (HolderRefresh local) (Some found) answer is = settles_ok (holder_viewed found (epoch_tested local (epoch_of found.1))) answer is
  shown_settles (HolderRefresh local) None answer is = settles_err InvalidObjectState tt answer is

module _ {T X : Type 0} where
  -- a call at a state of its read
  abbrev pub view_read_at : Purpose → X → ReadOp T → WithEpochs (ViewReadOp T) X
  view_read_at purpose epochs read = record { op = as_view_read purpose read; epochs = epochs }

  abbrev pub view_read_gone : WithEpochs (ViewReadOp T) X → WithEpochs (ViewReadOp T) X
  view_read_gone call = record { op = view_read_ended call.op; epochs = call.epochs }

module _ {T X : Type 0} (names : Names) (path : Segments) (page : ℕ) (decode : List ℕ → Option T) (epoch_of : X → T → ℕ) (purpose : Purpose) (epochs : X) where
  abbrev pub ViewReadLayer : Type 0
  ViewReadLayer = Layer true read_asked (read_turned names path page decode) read_caches_after view_read_gone (λ call. view_read_asked call.op) (view_read_call_turned names path page decode epoch_of) (λ call caches told. read_caches_after call.op.read caches (said told)) (view_read_at purpose epochs) (view_read_at purpose epochs reads.Ended) (view_read_seen (epoch_of epochs) purpose)

  pub view_read_layer : ViewReadLayer
  view_read_layer = record {
    asks = λ part. refl;
    turns = λ part caches reply. seen_turns (as_view_read purpose) (λ op. record { op = op; epochs = epochs }) (shown (epoch_of epochs) purpose) (view_read_seen (epoch_of epochs) purpose) (shown_same (epoch_of epochs) purpose) (read_turned names path page decode part caches reply);
    leaves = read_leaves names path page decode;
    settles = shown_settles (epoch_of epochs) purpose;
  }
