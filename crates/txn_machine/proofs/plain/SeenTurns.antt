-- What a look or a serve leaves a read of one id with.
use Rattle.std.proofs.Common.{◌≡◌, ℕ, ◌<◌, ◌^◌, List, Option, Some, None, Ok, Err, Result, ◌⊎◌, inl, inr, refl, sym, subst}
use Rattle.std.specs.FinMap.{get}
use Rattle.txn_store.specs.VersionName.{version_path}
use Rattle.txn_store.specs.Store.{State as StoreState, Gets}
use Rattle.txn_store.specs.Requests.{Serves}
use Rattle.txn_store.specs.declared.store.Got.{Got}
use Rattle.txn_store.specs.declared.store.StoreError.{StoreError}
use Rattle.txn_store.specs.declared.store.StoreError.TheVariants as errors
use Rattle.txn_store.specs.declared.request.Request.{Request}
use Rattle.txn_store.specs.declared.request.Reply.{Reply}
use Rattle.txn_store.specs.declared.request.Reply.TheVariants as replies
use Rattle.txn_steps.specs.declared.boundary.caches.Cached.{Cached}
use Rattle.txn_steps.specs.declared.boundary.caches.CachedBoundary.{CachedBoundary}
use Rattle.txn_steps.specs.declared.boundary.turned.Turned.TheVariants.{Done}
use Rattle.txn_steps.specs.boundary.Windows.{held}
use Rattle.txn_steps.specs.declared.seen.ReadUncheckedOp.{ReadUncheckedOp}
use Rattle.txn_steps.specs.declared.seen.ReadSeenOp.TheVariants as seen
use Rattle.txn_steps.specs.Requests.{version_got}
use Rattle.txn_steps.specs.SeenSteps.{value_read, as_found, value_got, unchecked_turned as value_turned, seen_turned, seen_looked, seen_keeping, seen_got}
use Rattle.txn_history.specs.declared.event.PlainCall.{PlainCall}
use Rattle.txn_history.specs.declared.event.PlainCall.TheVariants as calls
use Rattle.txn_history.specs.declared.event.PlainAnswer.TheVariants as answers
use Rattle.txn_history.specs.Trace.{PlainRow}
use Rattle.txn_history.specs.Names.{world_names}
use Rattle.txn_history.specs.History.{newest}
use Rattle.txn_history.specs.Facts.{IsFound}
use Rattle.txn_machine.specs.plain.PlainHistory.{AnswerFits}
use Rattle.txn_machine.specs.declared.plain.doing.PlainDoing.TheVariants.{ReadSeen}
use Rattle.txn_machine.specs.plain.Doing.{Next, value_next, seen_next}
use Rattle.txn_machine.proofs.plain.Stands.{KnowStands, Open, Carried, WindowFits, HoldsStand, Runs, TurnStands}
use Rattle.txn_machine.proofs.plain.Turns.{no_id, ended, goes_on, lacking, ends_with}
use Rattle.txn_machine.proofs.plain.Windows.{held_fits}
use Rattle.txn_history.proofs.More.{AtRow-now}
use Rattle.txn_machine.proofs.plain.Stored.{carried_entry, carried_stored, none_stored}
use Rattle.txn_machine.proofs.plain.Faults.{get_missing, get_other, get_same, ruled_out}

module _ {T : Type 0} (decode : List ℕ → Option T) (rows : List (PlainRow T)) (op : ℕ) where
  -- what a read of one id may answer
  abbrev pub FindsStand : ℕ → Option T → Type 0
  FindsStand id found = Open rows id (IsFound decode rows op id found)

module _ {T : Type 0} (decode : List ℕ → Option T) (get_epoch : T → ℕ) (failed : List ℕ) (rows : List (PlainRow T)) (store : StoreState) (cached : Option CachedBoundary) (op : ℕ) (call : PlainCall T) (r : Runs decode get_epoch rows op call) where
  -- an answer of a read of one id
  pub finds : (id : ℕ) (found : Option T) → (call ≡ calls.ReadUnchecked id) ⊎ (call ≡ calls.ReadSeen id) → FindsStand decode rows op id found → TurnStands decode get_epoch failed rows store cached op call (ends_with decode get_epoch (answers.Value found))
  finds id found is fits =
      ended decode get_epoch failed rows store cached op call (answers.Value found) r
      (elim is [
        | inl e ↦ subst (λ (c : PlainCall T). AnswerFits decode get_epoch failed rows op c (answers.Value found)) (sym e) fits
        | inr e ↦ subst (λ (c : PlainCall T). AnswerFits decode get_epoch failed rows op c (answers.Value found)) (sym e) fits
      ])
      (no_id rows (answers.Value found) (λ test. refl))

  -- a version in hand is answered
  held_found : (version : Cached) (value : T) → HoldsStand decode rows version value → FindsStand decode rows op version.id (Some value)
  held_found version value h = carried_entry decode rows version value h.0 h.1

  reads_value : (next : Result T ℕ → Next T) (bytes : List ℕ) (value : T) → decode bytes ≡ Some value → TurnStands decode get_epoch failed rows store cached op call (next (Ok value)) → TurnStands decode get_epoch failed rows store cached op call (next (value_read (decode bytes)))
  reads_value next bytes value e h = subst (λ (o : Option T). TurnStands decode get_epoch failed rows store cached op call (next (value_read o))) (sym e) h

  -- after the look of a read of one id
  pub seen_looks : (id : ℕ) (versions : List Cached) → call ≡ calls.ReadSeen id → id < 2 ^ 64 → WindowFits decode rows versions → (o : Option Cached) → held id versions ≡ o → TurnStands decode get_epoch failed rows store cached op call (seen_next (seen_looked world_names decode (seen.Looks id) id o))
  seen_looks id versions is fits w None e = goes_on decode get_epoch failed rows store cached op call (ReadSeen (seen.Gets id (version_got world_names id))) r tt (is, fits, refl)
  seen_looks id versions is fits w (Some version) e =
      let c = held_fits decode rows id versions version w e in
      reads_value (λ (o : Result T ℕ). seen_next (seen.Looks id, Done (as_found o))) version.bytes c.0.value c.0.reads
      (finds id (Some c.0.value) (inr is) (subst (λ (n : ℕ). FindsStand decode rows op n (Some c.0.value)) c.1 (held_found version c.0.value (c.0, c.0.reads))))

  -- after its get

  absent : (id : ℕ) → Open rows id (newest rows < id) → FindsStand decode rows op id None
  absent id (inl below) = inl below
  absent id (inr over) = inr (AtRow-now rows op (λ front. newest front < id) r.begun over)

  found_value : (id : ℕ) (bytes : List ℕ) (c : Carried decode rows (record { id = id; bytes = bytes })) → FindsStand decode rows op id (Some c.value)
  found_value id bytes c = held_found (record { id = id; bytes = bytes }) c.value (c, c.reads)

  module _ (old : StoreState) (k : KnowStands decode get_epoch failed rows old) (honest : store.failures ≡ 0) (id : ℕ) (fits : id < 2 ^ 64) where
    value_answered : (answer : Result Got StoreError) → call ≡ calls.ReadUnchecked id → Gets (version_path world_names id) None old answer store → (op' : ReadUncheckedOp) → TurnStands decode get_epoch failed rows store cached op call (value_next op' (Done (value_got decode answer)))
    value_answered (Ok got) is g op' =
        let c = carried_stored decode get_epoch failed rows old k id got fits g.found in
        reads_value (λ (o : Result T ℕ). value_next op' (Done (as_found o))) got.bytes c.value c.reads (finds id (Some c.value) (inl is) (found_value id got.bytes c))
    value_answered (Err errors.NotFound) is g op' = finds id None (inl is) (absent id (none_stored decode get_epoch failed rows old k id (get_missing None (get old.files (version_path world_names id)) g.err.0)))
    value_answered (Err errors.NoMemory) is g op' = lacking decode get_epoch failed rows store cached op call r
    value_answered (Err errors.Failed) is g op' = ruled_out old store honest g.err.0
    value_answered (Err errors.TokensExhausted) is g op' = absurd g.err
    value_answered (Err errors.AlreadyExists) is g op' = absurd (get_other None (get old.files (version_path world_names id)) errors.AlreadyExists (λ e. cc) (λ e. cc) g.err.0)
    value_answered (Err errors.Precondition) is g op' = absurd (get_other None (get old.files (version_path world_names id)) errors.Precondition (λ e. cc) (λ e. cc) g.err.0)
    value_answered (Err errors.NotModified) is g op' = absurd (let same = get_same None (get old.files (version_path world_names id)) g.err.0 in let sent = same.sent in cc)

    pub value_serves : (reply : Reply) → call ≡ calls.ReadUnchecked id → Serves (version_got world_names id) old reply store → (op' : ReadUncheckedOp) → TurnStands decode get_epoch failed rows store cached op call (value_next op' (value_turned decode (Some reply)))
    value_serves (replies.Get answer) is s op' = value_answered answer is s op'
    value_serves (replies.Put answer) is s op' = absurd s
    value_serves (replies.List answer) is s op' = absurd s
    value_serves (replies.Delete answer) is s op' = absurd s

    seen_answered : (request : Request) (answer : Result Got StoreError) → call ≡ calls.ReadSeen id → Gets (version_path world_names id) None old answer store → TurnStands decode get_epoch failed rows store cached op call (seen_next (seen_got world_names decode (seen.Gets id request) id answer))
    seen_answered request (Ok got) is g =
        let c = carried_stored decode get_epoch failed rows old k id got fits g.found in
        let version : Cached = record { id = id; bytes = got.bytes } in
        subst (λ (o : Option T). TurnStands decode get_epoch failed rows store cached op call (seen_next (seen_keeping world_names decode (seen.Gets id request) version o))) (sym c.reads)
        (goes_on decode get_epoch failed rows store cached op call (ReadSeen (seen.Keeps version c.value)) r tt (is, (c, c.reads)))
    seen_answered request (Err errors.NotFound) is g = finds id None (inr is) (absent id (none_stored decode get_epoch failed rows old k id (get_missing None (get old.files (version_path world_names id)) g.err.0)))
    seen_answered request (Err errors.NoMemory) is g = lacking decode get_epoch failed rows store cached op call r
    seen_answered request (Err errors.Failed) is g = ruled_out old store honest g.err.0
    seen_answered request (Err errors.TokensExhausted) is g = absurd g.err
    seen_answered request (Err errors.AlreadyExists) is g = absurd (get_other None (get old.files (version_path world_names id)) errors.AlreadyExists (λ e. cc) (λ e. cc) g.err.0)
    seen_answered request (Err errors.Precondition) is g = absurd (get_other None (get old.files (version_path world_names id)) errors.Precondition (λ e. cc) (λ e. cc) g.err.0)
    seen_answered request (Err errors.NotModified) is g = absurd (let same = get_same None (get old.files (version_path world_names id)) g.err.0 in let sent = same.sent in cc)

    pub seen_serves : (request : Request) (reply : Reply) → call ≡ calls.ReadSeen id → Serves (version_got world_names id) old reply store → (versions : List Cached) → TurnStands decode get_epoch failed rows store cached op call (seen_next (seen_turned world_names decode (seen.Gets id request) versions (Some reply)))
    seen_serves request (replies.Get answer) is s versions = seen_answered request answer is s
    seen_serves request (replies.Put answer) is s versions = absurd s
    seen_serves request (replies.List answer) is s versions = absurd s
    seen_serves request (replies.Delete answer) is s versions = absurd s

  -- after the look that caches it
  pub seen_keeps : (version : Cached) (value : T) (versions : List Cached) → call ≡ calls.ReadSeen version.id → HoldsStand decode rows version value → TurnStands decode get_epoch failed rows store cached op call (seen_next (seen_turned world_names decode (seen.Keeps version value) versions None))
  seen_keeps version value versions is h = finds version.id (Some value) (inr is) (held_found version value h)
