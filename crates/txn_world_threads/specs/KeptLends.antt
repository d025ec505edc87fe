-- What a kept world ends as, once what it lent has ended.
use Rattle.std.specs.Prelude.{◌≡◌, ℕ, Result, MatchResult, ⊤}
use Rattle.std.specs.Borrow.{Fml, RattleType, Bor, MutBor, follows_so}
use mathlib.Core.Option.{none}
use Rattle.std.specs.declared.clone.Clone as clone
use Rattle.txn_store.specs.declared.types.codec.ObjectCodec as codec
use Rattle.txn_store.specs.declared.types.epoch.EpochField as epochs
use Rattle.txn_history.specs.Trace.{Event, Told}
use Rattle.txn_history.specs.declared.event.EventFault.{EventFault}
use Rattle.txn_world_threads.specs.Kept.{KeptState, AddsEventRow}
use Rattle.txn_world_threads.specs.contracts.kept.Kept.{the_row}

module _ (T C E : RattleType) (clone : clone.Ghosts T.Denot) (codec : codec.Ghosts C.Denot T.Denot) (field : epochs.Ghosts E.Denot T.Denot) where
  -- the type of a kept world, as the logic holds it
  abbrev pub kept_row : RattleType
  kept_row = the_row T C E clone codec field

  -- one row more, with what is lent; or all as it was
  abbrev pub Rests : KeptState T.Denot C.Denot E.Denot → ℕ → Event T.Denot → Result (Bor (Told T.Denot)) EventFault → KeptState T.Denot C.Denot E.Denot → Type 0
  Rests old worker event r new = MatchResult r (λ told. AddsEventRow (codec.encoded old.world.codec) (codec.decoded old.world.codec) (field.epoch_of old.world.epochs) (field.with_epoch old.world.epochs) old new worker event told.now) (λ _. new ≡ old)

  abbrev pub ends_taken : MutBor (KeptState T.Denot C.Denot E.Denot) → ℕ → Event T.Denot → Result (Bor (Told T.Denot)) EventFault → Fml
  ends_taken kept worker event r = follows_so kept_row kept_row kept.ghost_name none (λ _ _. ⊤) (Rests kept.now worker event r)
