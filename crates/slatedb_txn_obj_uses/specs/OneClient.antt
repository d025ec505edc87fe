-- What one client is told, and what its calls move, over a history and a boundary.
use Rattle.std.specs.Prelude.{◌≡◌, ◌⊎◌, ℕ, ◌+◌, ◌<◌, ◌≤◌, max, List, [], ◌∷◌, ◌++◌, length, Ok, Err}
use Rattle.txn_store.specs.declared.types.error.TransactionalObjectError.TheVariants.{ObjectVersionExists, InvalidObjectState}
use Rattle.slatedb_txn_obj.specs.Protocol.{base_number, LatestBy}
use Rattle.slatedb_txn_obj_uses.specs.declared.one_client.Call.{Call}
use Rattle.slatedb_txn_obj_uses.specs.declared.one_client.Call.TheVariants.{Write, Read, Check, Advance, Delete}
use Rattle.slatedb_txn_obj_uses.specs.declared.one_client.Reply.{Reply}
use Rattle.slatedb_txn_obj_uses.specs.declared.one_client.Reply.TheVariants.{Wrote, Newest, Done}

module _ {T : Type 0} where
  -- a base is a version of the history, and the boundary stays below the newest
  abbrev pub IsAllowed : List T → Call T → Type 0
  IsAllowed h (Write base value) = base_number (λ n. n) base ≤ length h
  IsAllowed h Read = Unit {0}
  IsAllowed h (Check id) = Unit {0}
  IsAllowed h (Advance id) = (id ≡ 0) ⊎ (id < length h)
  IsAllowed h (Delete id) = Unit {0}

  -- nothing moved
  abbrev pub IsSame : List T → ℕ → List T → ℕ → Type 0
  IsSame h b h' b' = (h' ≡ h) × (b' ≡ b)

  -- What a call is told of a history and a boundary, and the ones that it leaves. An error but a conflict or a refusal is a failure: the call's one move was made, or not.
  abbrev pub Moves : List T → ℕ → Call T → Reply T → List T → ℕ → Type 0
  Moves h b (Write base value) (Wrote (Ok id)) h' b' = (base_number (λ n. n) base ≡ length h) × (id ≡ length h + 1) × IsSame (h ++ value ∷ []) b h' b'
  Moves h b (Write base value) (Wrote (Err ObjectVersionExists)) h' b' = (base_number (λ n. n) base < length h) × IsSame h b h' b'
  Moves h b (Write base value) (Wrote (Err error)) h' b' = IsSame h b h' b' ⊎ IsSame (h ++ value ∷ []) b h' b'
  Moves h b Read (Newest (Ok read)) h' b' = LatestBy (λ n. n) h read × IsSame h b h' b'
  Moves h b Read (Newest (Err error)) h' b' = IsSame h b h' b'
  Moves h b (Check id) (Done (Ok accepted)) h' b' = (b < id) × IsSame h b h' b'
  Moves h b (Check id) (Done (Err ObjectVersionExists)) h' b' = (id ≤ b) × IsSame h b h' b'
  Moves h b (Check id) (Done (Err error)) h' b' = IsSame h b h' b'
  Moves h b (Advance id) (Done (Ok done)) h' b' = IsSame h (max b id) h' b'
  Moves h b (Advance id) (Done (Err error)) h' b' = IsSame h b h' b' ⊎ IsSame h (max b id) h' b'
  Moves h b (Delete id) (Done (Ok done)) h' b' = (id ≤ b) × IsSame h b h' b'
  Moves h b (Delete id) (Done (Err InvalidObjectState)) h' b' = (b < id) × IsSame h b h' b'
  Moves h b (Delete id) (Done (Err error)) h' b' = IsSame h b h' b'
  Moves h b call reply h' b' = ⊥

  -- What calls are told one after another from a history and a boundary on: each reply is the one of a move from where the replies before it led, and `Ends` holds where the last one leads. A call that may not be made where it is made ends what is said.
  abbrev pub Runs : (List T → ℕ → Type 0) → List T → ℕ → List (Call T) → List (Reply T) → Type 0
  Runs Ends h b [] [] = Ends h b
  Runs Ends h b (call ∷ calls) (reply ∷ replies) = IsAllowed h call → (h' : List T) × (b' : ℕ) × Moves h b call reply h' b' × Runs Ends h' b' calls replies
  Runs Ends h b calls replies = ⊥
