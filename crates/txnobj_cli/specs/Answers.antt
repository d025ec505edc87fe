-- What is printed of what a client was answered. `said` is what the writer has before, and `said'` after it.
use Rattle.std.specs.Prelude.{◌≡◌, ◌<◌, ◌≤◌, ℕ, Bool, true, false, List, [], ◌∷◌, Option, Some, None, Ok, IfSome}
use Rattle.std.specs.Fmt.{decimal}
use Rattle.std.specs.Io.KnownBytes.{Appends}
use Rattle.std.specs.declared.ops.Bound.TheVariants.{Unbounded}
use Rattle.txn_history.specs.declared.event.PlainCall.TheVariants as plain_calls
use Rattle.txn_history.specs.declared.event.ViewCall.TheVariants as view_calls
use Rattle.txn_history.specs.declared.event.Call.{Call}
use Rattle.txn_history.specs.declared.event.Call.TheVariants as calls
use Rattle.txn_history.specs.declared.event.Answer.{Answer}
use Rattle.txnobj.specs.declared.clients.stop.Stop.{Stop}
use Rattle.txnobj.specs.declared.answers.Viewed.{Viewed}
use Rattle.txn_store.specs.declared.types.invariant.NoInvariant.{NoInvariant}
use Rattle.txn_script_lines.specs.declared.values.entry.Entry.{Entry}
use Rattle.txn_script_lines.specs.values.Holder.{FollowsEpoch}
use Rattle.txn_script_lines.specs.values.Text.{entry_text}
use Rattle.txnobj.specs.Answers.{ids_in, value_in}
use Rattle.txnobj.specs.Calls.{Ends, ViewEnds}
use Rattle.txnobj.specs.Objects.{Begins, Refreshes, Updates, refresh_of, update_of}
use Rattle.txnobj.specs.Rounds.{Rounds, AfterRounds}
use Rattle.txnobj.specs.Retrying.{Tries, Round}
use Rattle.txnobj.specs.Claims.{ClaimEnds}
use Rattle.txnobj.specs.Collecting.{Collects, ReadEnds}
use Rattle.txnobj.specs.declared.fenceable.FenceableTransactionalObject.{FenceableTransactionalObject}
use Rattle.txnobj_words.specs.Said.{with_feed, lines_of, stored_text}
use Rattle.txnobj_cli.specs.Calls.{Object, AsksNext, version_words}

module _ {F P : Type 0} (made : P → Call Entry → Answer Entry → P → Type 0) (stopped : P → Call Entry → Stop → P → Type 0) (tells : P → Option F → Type 0) where
  -- the newest version was loaded
  abbrev pub Loads : Object → P → P → Type 0
  Loads object old new = Begins made stopped tells view_calls.Load old (Ok object) new

  -- the id of the first version, in epoch 0
  pub record PrintsFirst (payload : List ℕ) (old new : P) (said said' : Option (List ℕ)) : Type 0 where
    pub first : Object
    pub begun : Begins made stopped tells (view_calls.Init (record { epoch = 0; payload = payload })) old (Ok first) new
    pub line : Appends said said' (with_feed (decimal first.id))

  -- the id and the epoch of the newest version
  pub record PrintsNewest (old new : P) (said said' : Option (List ℕ)) : Type 0 where
    pub newest : Object
    pub loaded : Loads newest old new
    pub line : Appends said said' (with_feed (version_words (record { id = newest.id; epoch = newest.object.epoch })))

  -- its bytes
  pub record PrintsValue (old new : P) (said said' : Option (List ℕ)) : Type 0 where
    pub newest : Object
    pub loaded : Loads newest old new
    pub bytes : Appends said said' newest.object.payload

  -- The id of a version on this base: the newest version was loaded, it was the base, and one update of its view, by this payload in its epoch, gave a version of this id. A holder's is of its own epoch.
  pub record PrintsPut (base : ℕ) (holder : Option ℕ) (payload : List ℕ) (old new : P) (said said' : Option (List ℕ)) : Type 0 where
    pub newest : Object
    pub between : P
    pub loaded : Loads newest old between
    pub at : newest.id ≡ base
    pub entry : Entry
    pub follows : FollowsEpoch holder newest.object.epoch payload entry
    pub written : Viewed Entry
    pub put : ViewEnds made stopped tells (view_calls.Update newest.view entry) between (Ok written) new
    pub line : Appends said said' (with_feed (decimal written.id))

  -- The id of a version on the newest: that was loaded, and after fewer rounds than an update is tried an update by what a put asks for, of the object as it was then, was written. Each round was such an update that was a conflict, and a refresh.
  pub record PrintsPutOnNewest (most : P → ℕ) (holder : Option ℕ) (payload : List ℕ) (old new : P) (said said' : Option (List ℕ)) : Type 0 where
    pub newest : Object
    pub between : P
    pub loaded : Loads newest old between
    pub object : Object
    pub written : AfterRounds (Round (AsksNext holder payload) (Refreshes made stopped tells (refresh_of false)) (Updates (λ _ _ _. Unit {0}) (λ _ _ _ _. ⊥) made stopped tells (update_of false))) (most between) (record { object = newest; protocol = between }) (λ last. Tries (AsksNext holder payload) (Refreshes made stopped tells (refresh_of false)) (Updates (λ _ _ _. Unit {0}) (λ _ _ _ _. ⊥) made stopped tells (update_of false)) last (Ok tt) (record { object = object; protocol = new }))
    pub line : Appends said said' (with_feed (decimal object.id))

  -- The id and the epoch of a claimed version: the newest version was loaded, and a claim of its view, which is tried as often as a claim is and may take any time, was held.
  pub record PrintsClaim (lets_go : P → ℕ → P → Type 0) (most : P → ℕ) (asked : Option ℕ) (old : P) (readings : List ℕ) (new : P) (readings' : List ℕ) (said said' : Option (List ℕ)) : Type 0 where
    pub newest : Object
    pub between : P
    pub loaded : Loads newest old between
    pub holder : FenceableTransactionalObject Entry NoInvariant
    pub claimed : ClaimEnds made stopped tells lets_go asked 18446744073709551615 (most between) newest between readings (Ok holder) new readings'
    pub line : Appends said said' (with_feed (version_words (record { id = holder.delegate.id; epoch = holder.local_epoch })))

  -- the ids of the stored versions
  abbrev pub Lists : List ℕ → P → P → Type 0
  Lists ids old new = Ends made stopped tells ids_in (calls.Plain (plain_calls.ListIds Unbounded Unbounded)) old (Ok ids) new

  -- a line each
  pub record PrintsIds (old new : P) (said said' : Option (List ℕ)) : Type 0 where
    pub ids : List ℕ
    pub listed : Lists ids old new
    pub lines : Appends said said' (lines_of decimal ids)

  -- a stored version, if it still stands, and else nothing
  abbrev pub PrintsLine : ℕ → Option Entry → Option (List ℕ) → Option (List ℕ) → Type 0
  PrintsLine id None said said' = said' ≡ said
  PrintsLine id (Some entry) said said' = Appends said said' (with_feed (stored_text entry_text id entry))

  -- the version of an id, as it was read
  pub record PrintsStored (id : ℕ) (old new : P) (said said' : Option (List ℕ)) : Type 0 where
    pub value : Option Entry
    pub read : Ends made stopped tells value_in (calls.Plain (plain_calls.ReadUnchecked id)) old (Ok value) new
    pub line : PrintsLine id value said said'

  -- each of these versions, the first first
  abbrev pub PrintsEach : List ℕ → P → P → Option (List ℕ) → Option (List ℕ) → Type 0
  PrintsEach [] old new said said' = (new ≡ old) × (said' ≡ said)
  PrintsEach (id ∷ ids) old new said said' = (between : P) × (saying : Option (List ℕ)) × PrintsStored id old between said saying × PrintsEach ids between new saying said'

  -- the stored versions
  pub record PrintsHistory (old new : P) (said said' : Option (List ℕ)) : Type 0 where
    pub ids : List ℕ
    pub between : P
    pub listed : Lists ids old between
    pub lines : PrintsEach ids between new said said'

  -- how many versions were found below the newest
  pub record PrintsCollected (old new : P) (said said' : Option (List ℕ)) : Type 0 where
    pub found : ℕ
    pub collected : Collects made stopped tells 18446744073709551615 old (Ok found) new
    pub line : Appends said said' (with_feed (decimal found))

  -- the newest version was read, and it is above this id, or it is not, or there is none
  abbrev pub IsAbove : ℕ → (ℕ × Entry) → P → P → Type 0
  IsAbove after found old new = ReadEnds made stopped tells old (Ok (Some found)) new × (after < found.0)

  abbrev pub IsNotAbove : ℕ → P → P → Type 0
  IsNotAbove after old new = (found : Option (ℕ × Entry)) × ReadEnds made stopped tells old (Ok found) new × IfSome found (λ version. version.0 ≤ after)

  -- the id and the epoch of the newest version, if it is above this id, and else nothing
  abbrev pub PrintsSeen : ℕ → Bool → P → P → Option (List ℕ) → Option (List ℕ) → Type 0
  PrintsSeen after true old new said said' = (found : ℕ × Entry) × IsAbove after found old new × Appends said said' (with_feed (version_words (record { id = found.0; epoch = found.1.epoch })))
  PrintsSeen after false old new said said' = IsNotAbove after old new × (said' ≡ said)

  -- the same, after some looks that found none
  abbrev pub PrintsWatched : ℕ → Bool → P → P → Option (List ℕ) → Option (List ℕ) → Type 0
  PrintsWatched after true old new said said' = (looks : ℕ) × (last : P) × Rounds (IsNotAbove after) looks old last × PrintsSeen after true last new said said'
  PrintsWatched after false old new said said' = (looks : ℕ) × Rounds (IsNotAbove after) looks old new × (said' ≡ said)
