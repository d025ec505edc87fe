-- What the calls of an object give, of what those of its protocol give.
use Rattle.std.proofs.Common.{suc, zero, ◌≡◌, ℕ, ◌<◌, List, [], ◌∷◌, ◌++◌, length, take, drop, All, Err, refl, sym, ap, subst, arith}
use Rattle.std.proofs.Math.ListN.{get_or}
use Rattle.std.proofs.lemmas.List.{get_or-take, length-take}
use Rattle.txn_store.specs.types.Callbacks.{OnRefusal}
use Rattle.txn_store.specs.declared.types.callback.CallbackFault.{CallbackFault}
use Rattle.txn_steps_driven.specs.LatestReads.{IsLatest}
use Rattle.slatedb_txn_obj.specs.Views.{IsVersion, Tested}

pub version-of_latest : {T : Type 0} {h : List T} {id : ℕ} {value : T} → IsLatest h id value → IsVersion h id value
version-of_latest latest = record { positive = omega (arith, latest.some, latest.id_is); within = omega (arith, latest.id_is); entry = latest.entry }

pub latest-of_version : {T : Type 0} {h : List T} {id : ℕ} {value : T} → IsVersion h id value → id ≡ length h → IsLatest h id value
latest-of_version version newest = record { some = omega (arith, version.positive, version.within); id_is = newest; entry = version.entry }

-- a history with a version is not empty
pub none-empty : {T : Type 0} (h : List T) {number : ℕ} {value : T} → h ≡ [] → IsVersion h number value → ⊥
none-empty h empty version = let none = ap length empty in absurd (omega (arith, none, version.positive, version.within))

-- a list at one of its places
pub split_at : {X : Type 0} (xs : List X) (k : ℕ) (d : X) → k < length xs → xs ≡ take k xs ++ get_or xs k d ∷ drop (suc k) xs
split_at {X} [] k d within = absurd (omega (arith, within))
split_at (x ∷ xs) zero d within = refl
split_at (x ∷ xs) (suc k) d within = ap (λ rest. x ∷ rest) (split_at xs k d (omega (arith, within)))

-- each invariant before this place holds, and the one there fails, which does not hold where it refuses
pub failed_at : {I : Type 0} (holds : I → Type 0) (fails : I → CallbackFault → Type 0) (xs : List I) (k : ℕ) (it : I) (fault : CallbackFault) → k < length xs → it ≡ get_or xs k it → ((j : ℕ) (d : I) → j < k → holds (get_or xs j d)) → fails it fault → OnRefusal (holds it → ⊥) fault → Tested holds fails xs (Err fault)
failed_at holds fails xs k it fault within is so_far failed refused =
    (take k xs, it, drop (suc k) xs, subst (λ x. xs ≡ take k xs ++ x ∷ drop (suc k) xs) (sym is) (split_at xs k it within), before, failed, refused)
  where
    before : All holds (take k xs)
    before j d below =
        let early : j < k = omega (arith, below, length-take k xs) in
        rw (get_or-take k xs j d early) (so_far j d early)
