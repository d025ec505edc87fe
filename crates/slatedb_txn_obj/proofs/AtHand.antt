-- The version that is held as the newest, after a read and after a write.
use Rattle.std.proofs.Common.{◌≡◌, ℕ, ◌+◌, ◌≤◌, ◌==◌, List, [], ◌∷◌, length, Option, Some, None, Result, Ok, Err, IfOk, IfSome, inl, inr, refl, sym, ap, subst, ◌∙◌, arith}
use Rattle.std.proofs.lemmas.Bool.{cases_Bool, eqb-true}
use Rattle.std.proofs.lemmas.Option.{same_Some}
use Rattle.txn_store.specs.VersionName.{Names}
use Rattle.txn_store.specs.Store.{State}
use Rattle.txn_store.specs.types.Numbers.{number_of}
use Rattle.txn_store.specs.declared.types.error.TransactionalObjectError.{TransactionalObjectError}
use Rattle.txn_steps.specs.declared.boundary.caches.Cached.{Cached}
use Rattle.txn_steps.specs.boundary.Windows.{Ascends, held, greatest_held}
use Rattle.txn_steps_driven.specs.Standing.{WindowFits}
use Rattle.txn_steps_driven.specs.WriteRuns.{Written}
use Rattle.txn_steps_driven.specs.LatestReads.{UpTo, IsOneOf, Ended}
use Rattle.txn_steps_driven.proofs.LatestWindows.{up_one, up_more, up_kept, up_greatest, one_greatest, none_greatest, held_above, held_kept}
use Rattle.slatedb_txn_obj.specs.Protocol.{base_number}
use Rattle.slatedb_txn_obj.specs.Whole.{IsGreatestHeld}
use Rattle.slatedb_txn_obj.proofs.Wholes.{base_is}

-- a version that is held is one of those held, under this id
one_held : (id : ℕ) (versions : List Cached) (version : Cached) → held id versions ≡ Some version → IsOneOf versions version × (version.id ≡ id)
one_held id [] version is = cc
one_held id (first ∷ versions) version is = elim (cases_Bool (first.id == id)) [
  | inl same ↦ let it : first ≡ version = same_Some first version (rw same at is) in (inl it, ap (λ (c : Cached). c.id) (sym it) ∙ eqb-true first.id id same)
  | inr other ↦ let rest = one_held id versions version (rw other at is) in (inr rest.0, rest.1)
]

-- where none above it is held it is the greatest
module _ (id : ℕ) (versions : List Cached) (version : Cached) (ascends : Ascends versions) (is : held id versions ≡ Some version) (up : UpTo id versions) where
  by_greatest : (o : Option Cached) → greatest_held versions ≡ o → IsGreatestHeld versions id
  by_greatest None none = let lacks : held id [] ≡ Some version = subst (λ vs. held id vs ≡ Some version) (none_greatest versions none) is in absurd (cc)
  by_greatest (Some hand) at =
      let one = one_held id versions version is in
      let most = up_one id versions hand up (one_greatest versions hand at) in
      let least = up_one hand.id versions version (up_greatest versions hand ascends at) one.0 in
      (hand, at, omega (arith, most, least, one.1))

  greatest-of_held : IsGreatestHeld versions id
  greatest-of_held = by_greatest (greatest_held versions) refl

-- what a read of the newest answers
pub read-at_hand : {T : Type 0} (names : Names) (page : ℕ) (decode : List ℕ → Option T) (old new : State) (turns turns' : ℕ) (first latest : List Cached) (result : Result (Option (ℕ × T)) TransactionalObjectError) → Ascends latest → Ended names page decode old new turns turns' first latest result → IfOk result (λ r. IfSome r (λ read. IsGreatestHeld latest read.0))
read-at_hand names page decode old new turns turns' first latest (Ok None) ascends ended = tt
read-at_hand names page decode old new turns turns' first latest (Ok (Some read)) ascends ended = let told = ended.answer in greatest-of_held read.0 latest told.1.0 ascends told.1.1 told.2
read-at_hand names page decode old new turns turns' first latest (Err error) ascends ended = tt

-- each held version of a history is at or below its newest
fits_up : {T : Type 0} (decode : List ℕ → Option T) (h : List T) (b : ℕ) (versions : List Cached) → WindowFits decode h b versions → UpTo (length h) versions
fits_up decode h b [] fits = tt
fits_up decode h b (version ∷ versions) fits = (fits.0.within, fits_up decode h b versions fits.1)

-- what a write on the newest created
pub write-at_hand : {T : Type 0} (names : Names) (decode : List ℕ → Option T) (base : Option ℕ) (bytes : List ℕ) (value : T) (old new : State) (latest latest' : List Cached) (result : Result ℕ TransactionalObjectError) → Ascends latest' → Written names decode base bytes value old new latest latest' result
    → IfOk result (λ id. (h : List T) (b : ℕ) → WindowFits decode h b latest → length h ≤ base_number (λ n. n) base → IsGreatestHeld latest' id)
write-at_hand names decode base bytes value old new latest latest' (Err error) ascends written = tt
write-at_hand names decode base bytes value old new latest latest' (Ok n) ascends written = λ h b fits newest.
    let leaves = written.ends.leaves in
    let id = number_of base + 1 in
    let version : Cached = record { id = id; bytes = bytes } in
    let same = base_is base in
    let up : UpTo (number_of base) latest = up_more (length h) (number_of base) latest (omega (arith, newest, same)) (fits_up decode h b latest fits) in
    let none = held_above (number_of base) id latest up (omega arith) in
    let above : UpTo id latest = up_more (number_of base) id latest (omega arith) up in
    let there : held id latest' ≡ Some version = rw leaves.2 (held_kept version latest above none) in
    let most : UpTo id latest' = rw leaves.2 (up_kept version latest above) in
    subst (λ k. IsGreatestHeld latest' k) (sym leaves.0) (greatest-of_held id latest' version ascends there most)
