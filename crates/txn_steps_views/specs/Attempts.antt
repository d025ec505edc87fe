-- The steps of claims: attempts, each on the version that the last one's conflict led to.
use Rattle.std.specs.Prelude.{◌≡◌, ℕ, ◌==◌, ◌<◌, ◌^◌, if◌then◌else◌, List, Option, Some, None, Result, Ok, Err}
use Rattle.txn_store.specs.Paths.{Segments}
use Rattle.txn_store.specs.VersionName.{Names}
use Rattle.txn_store.specs.declared.request.Request.{Request}
use Rattle.txn_store.specs.declared.request.Reply.{Reply}
use Rattle.txn_store.specs.types.Errors.{error_number}
use Rattle.txn_store.specs.types.Epochs.{claimed_epoch}
use Rattle.txn_store.specs.declared.types.error.TransactionalObjectError.{TransactionalObjectError}
use Rattle.txn_steps.specs.declared.boundary.caches.Caches.{Caches}
use Rattle.txn_steps.specs.declared.boundary.turned.Turned.{Turned}
use Rattle.txn_steps.specs.declared.boundary.turned.Turned.TheVariants.{Goes, Done}
use Rattle.txn_steps.specs.declared.read.ReadOp.{ReadOp}
use Rattle.txn_steps.specs.declared.write.WriteOp.{WriteOp}
use Rattle.txn_steps.specs.Latest.{ReadAnswer}
use Rattle.txn_steps.specs.Reads.{read_started, read_asked, read_turned, read_caches_after, IsReadReply, IsInRange}
use Rattle.txn_steps.specs.Writes.{write_started, write_asked, write_turned, write_caches, IsWriteReply}
use Rattle.txn_steps_views.specs.declared.outcome.Outcome.{Outcome}
use Rattle.txn_steps_views.specs.declared.outcome.Outcome.TheVariants.{Held}
use Rattle.txn_steps_views.specs.declared.claiming.Claiming.{Claiming}
use Rattle.txn_steps_views.specs.declared.claiming.Claiming.TheVariants.{Writes, Reads, Ended}
use Rattle.txn_steps_views.specs.Readings.{said}

module _ {T : Type 0} where
  -- what it asks
  abbrev pub claiming_asked : Claiming T → Option Request
  claiming_asked (Writes write value epoch) = write_asked write
  claiming_asked (Reads read) = read_asked read
  claiming_asked Ended = None

  -- a reply of the kind that it asks for, where it has not ended
  abbrev pub IsClaimingReply : Claiming T → Option Reply → Type 0
  IsClaimingReply (Writes write value epoch) reply = IsWriteReply write reply
  IsClaimingReply (Reads read) reply = IsReadReply read reply
  IsClaimingReply Ended reply = ⊥

  -- its read has found at most four successors
  abbrev pub IsClaimingInRange : Claiming T → Type 0
  IsClaimingInRange (Writes write value epoch) = Unit {0}
  IsClaimingInRange (Reads read) = IsInRange read
  IsClaimingInRange Ended = Unit {0}

  abbrev pub IsAttempting : Claiming T → Type 0
  IsAttempting (Writes write value epoch) = Unit {0}
  IsAttempting (Reads read) = ⊥
  IsAttempting Ended = ⊥

  abbrev pub IsRefreshing : Claiming T → Type 0
  IsRefreshing (Writes write value epoch) = ⊥
  IsRefreshing (Reads read) = Unit {0}
  IsRefreshing Ended = ⊥

  -- its attempt was written under an id: the view is at that with its value, as the holder of its epoch
  abbrev pub held_at : ℕ → Claiming T → Option (Outcome T)
  held_at id (Writes write value epoch) = Some (Held id value epoch)
  held_at id (Reads read) = None
  held_at id Ended = None

  -- it goes on, or is answered a refusal
  abbrev pub followed : Result (Claiming T) ℕ → Claiming T × Turned (Result (Outcome T) ℕ)
  followed (Ok next) = (next, Goes)
  followed (Err number) = (Ended, Done (Err number))

  -- it reads the newest version
  abbrev pub refreshing : Segments → Result (Claiming T) ℕ
  refreshing path = Ok (Reads (read_started path))

  -- a conflict leads to a read of the newest version
  abbrev pub attempt_turned : Segments → T → ℕ → WriteOp × Turned (Result ℕ ℕ) → Claiming T × Turned (Result (Outcome T) ℕ)
  attempt_turned path value epoch (write, Goes) = (Writes write value epoch, Goes)
  attempt_turned path value epoch (write, Done (Ok id)) = (Ended, Done (Ok (Held id value epoch)))
  attempt_turned path value epoch (write, Done (Err number)) = if number == 5 then (Reads (read_started path), Goes) else (Ended, Done (Err number))

  -- its attempt's write says this
  abbrev pub attempt_told : Segments → Claiming T → Turned (Result ℕ ℕ) → Claiming T × Turned (Result (Outcome T) ℕ)
  attempt_told path (Writes write value epoch) told = attempt_turned path value epoch (write, told)
  attempt_told path (Reads read) told = (Reads read, Goes)
  attempt_told path Ended told = (Ended, Goes)

  -- what it leaves of the caches, by whether it goes on
  abbrev pub claiming_caches_after : Claiming T → Caches → Turned (Result (Outcome T) ℕ) → Caches
  claiming_caches_after (Writes write value epoch) caches told = write_caches write caches
  claiming_caches_after (Reads read) caches told = read_caches_after read caches (said told)
  claiming_caches_after Ended caches told = caches

module _ {T : Type 0} (encode : T → List ℕ) (decode : List ℕ → Option T) (epoch_of : T → ℕ) where
  -- What it attempts to write has an id, is read back, and has its epoch.
  pub record IsMadeOf (write : WriteOp) (value : T) (epoch : ℕ) : Type 0 where
    pub last : write.id < 2 ^ 64
    pub reads_back : decode (encode value) ≡ Some value
    pub own : epoch_of value ≡ epoch

  abbrev pub IsMade : Claiming T → Type 0
  IsMade (Writes write value epoch) = IsMadeOf write value epoch
  IsMade (Reads read) = Unit {0}
  IsMade Ended = Unit {0}

module _ {T : Type 0} (names : Names) (path : Segments) (encode : T → List ℕ) (with_epoch : T → ℕ → T) where
  -- it writes the value with an epoch set on a version, which has a next id
  abbrev pub entered : ℕ → ℕ → T → Result (Claiming T) ℕ
  entered epoch id value = if id == 18446744073709551615 then Err 10 else Ok (Writes (write_started names path (Some id) (encode (with_epoch value epoch))) (with_epoch value epoch) epoch)

  abbrev pub entered_with : Result ℕ TransactionalObjectError → ℕ → T → Result (Claiming T) ℕ
  entered_with (Ok epoch) id value = entered epoch id value
  entered_with (Err error) id value = Err (error_number error)

module _ {T : Type 0} (names : Names) (path : Segments) (encode : T → List ℕ) (epoch_of : T → ℕ) (with_epoch : T → ℕ → T) where
  -- an attempt on a version, whose epoch decides which one is set
  abbrev pub attempted : Option ℕ → ℕ → T → Result (Claiming T) ℕ
  attempted asked id value = entered_with names path encode with_epoch (claimed_epoch asked (epoch_of value)) id value

  -- an attempt on the version that was read, which has to be there
  abbrev pub attempted_again : Option ℕ → Option (ℕ × T) → Result (Claiming T) ℕ
  attempted_again asked (Some found) = attempted asked found.0 found.1
  attempted_again asked None = Err 7

  abbrev pub refreshed_turned : Option ℕ → ReadOp T × Turned (ReadAnswer T) → Claiming T × Turned (Result (Outcome T) ℕ)
  refreshed_turned asked (read, Goes) = (Reads read, Goes)
  refreshed_turned asked (read, Done (Ok found)) = followed (attempted_again asked found)
  refreshed_turned asked (read, Done (Err number)) = (Ended, Done (Err number))

  -- its read says this
  abbrev pub refresh_told : Option ℕ → Claiming T → Turned (ReadAnswer T) → Claiming T × Turned (Result (Outcome T) ℕ)
  refresh_told asked (Writes write value epoch) told = (Writes write value epoch, Goes)
  refresh_told asked (Reads read) told = refreshed_turned asked (read, told)
  refresh_told asked Ended told = (Ended, Goes)

module _ {T : Type 0} (names : Names) (path : Segments) (page : ℕ) (encode : T → List ℕ) (decode : List ℕ → Option T) (epoch_of : T → ℕ) (with_epoch : T → ℕ → T) where
  -- what it makes of a look or a reply, memory aside
  abbrev pub claiming_turned : Option ℕ → Claiming T → Caches → Option Reply → Claiming T × Turned (Result (Outcome T) ℕ)
  claiming_turned asked (Writes write value epoch) caches reply = attempt_turned path value epoch (write_turned write caches reply)
  claiming_turned asked (Reads read) caches reply = refreshed_turned names path encode epoch_of with_epoch asked (read_turned names path page decode read caches reply)
  claiming_turned asked Ended caches reply = (Ended, Goes)
