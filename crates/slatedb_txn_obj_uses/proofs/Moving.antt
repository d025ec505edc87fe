-- What a check and an advance move.
use Rattle.std.proofs.Common.{◌≡◌, ◌⊎◌, ℕ, ◌<◌, ◌≤◌, max, List, length, Result, Ok, Err, OnOk, IfErr, refl, inl, inr, arith}
use Rattle.txn_store.specs.declared.types.error.TransactionalObjectError.{TransactionalObjectError}
use Rattle.txn_store.specs.declared.types.error.TransactionalObjectError.TheVariants.{ObjectVersionExists}
use Rattle.slatedb_txn_obj_uses.specs.declared.one_client.Call.TheVariants.{Check, Advance}
use Rattle.slatedb_txn_obj_uses.specs.declared.one_client.Reply.TheVariants.{Done}
use Rattle.slatedb_txn_obj_uses.specs.OneClient.{IsAllowed, Moves}

module _ {T : Type 0} (stands stands' : List T → ℕ → Type 0) (bounds bounds' : ℕ → Type 0) (bounded : (h : List T) (b : ℕ) → stands h b → bounds b) where
  pub checked : (id : ℕ) (result : Result (Unit {0}) TransactionalObjectError) → OnOk result ((b : ℕ) → bounds b → b < id) → (result ≡ Err ObjectVersionExists → (b : ℕ) → bounds b → id ≤ b) → ((h : List T) (b : ℕ) → stands h b → stands' h b)
      → (h : List T) (b : ℕ) → stands h b → IsAllowed h (Check id) → (h' : List T) × (b' : ℕ) × Moves h b (Check id) (Done result) h' b' × stands' h' b'
  checked id (Ok accepted) above fenced kept h b s allowed = (h, b, (above b (bounded h b s), (refl, refl)), kept h b s)
  checked id (Err ObjectVersionExists) above fenced kept h b s allowed = (h, b, (fenced refl b (bounded h b s), (refl, refl)), kept h b s)
  checked id (Err error) above fenced kept h b s allowed = (h, b, (refl, refl), kept h b s)

  module _ (moved : (h : List T) (b c : ℕ) → stands h b → b ≤ c → (c ≡ b) ⊎ (c < length h) → bounds' c → stands' h c) (newest : (h : List T) (b : ℕ) → stands h b → 0 < length h → b < length h) where
    raised_stands : (id : ℕ) (h : List T) (b : ℕ) → stands h b → (id ≡ 0) ⊎ (id < length h) → bounds' (max b id) → stands' h (max b id)
    raised_stands id h b s (inl none) now = moved h b (max b id) s (omega arith) (inl (omega (arith, none))) now
    raised_stands id h b s (inr less) now = let above = newest h b s (omega (arith, less)) in moved h b (max b id) s (omega arith) (inr (omega (arith, less, above))) now

    pub advanced : (id : ℕ) (result : Result (Unit {0}) TransactionalObjectError) → OnOk result ((b : ℕ) → bounds b → bounds' (max b id)) → IfErr result (λ error. (b : ℕ) → bounds b → bounds' b ⊎ bounds' (max b id))
        → (h : List T) (b : ℕ) → stands h b → IsAllowed h (Advance id) → (h' : List T) × (b' : ℕ) × Moves h b (Advance id) (Done result) h' b' × stands' h' b'
    advanced id (Ok done) raised kept h b s allowed = (h, max b id, (refl, refl), raised_stands id h b s allowed (raised b (bounded h b s)))
    advanced id (Err error) raised kept h b s allowed = elim (kept b (bounded h b s)) [
      | inl same ↦ (h, b, inl (refl, refl), moved h b b s (omega arith) (inl refl) same)
      | inr up ↦ (h, max b id, inr (refl, refl), raised_stands id h b s allowed up)
    ]
