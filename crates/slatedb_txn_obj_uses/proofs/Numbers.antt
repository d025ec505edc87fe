-- What calls in a row leave and answer, where each version's value is its id.
use Rattle.std.proofs.Common.{◌≡◌, ℕ, zero, suc, ◌+◌, ◌-◌, ◌<◌, List, [], ◌∷◌, ◌++◌, length, get_or, slice_get, Option, None, Some, refl, sym, ap, subst, ◌∙◌, arith}
use Rattle.std.proofs.lemmas.List.{length-append}
use Rattle.std.proofs.lemmas.Option.{same_Some, slice_get_read}
use Rattle.std.proofs.Math.Seq.{get_or-append_seam}
use Rattle.txn_steps_driven.specs.LatestReads.{IsLatest}
use Rattle.slatedb_txn_obj.specs.Protocol.{base_number, Appended, Overtaken, LatestBy}
use Rattle.slatedb_txn_obj_uses.specs.Workloads.{numbers_to}

pub length-numbers_to : (n : ℕ) → length (numbers_to n) ≡ n
length-numbers_to zero = refl
length-numbers_to (suc n) = let before = length-numbers_to n in let grown = length-append (numbers_to n) (suc n ∷ []) in omega (arith, before, grown)

numbers_to-more : (n : ℕ) → numbers_to (n + 1) ≡ numbers_to n ++ (n + 1) ∷ []
numbers_to-more n = let next : n + 1 ≡ suc n = omega arith in ap numbers_to next ∙ ap (λ m. numbers_to n ++ m ∷ []) (sym next)

-- the versions so far stand where the object was empty, and the newest is the base
abbrev pub StandTo : (first now : List ℕ → ℕ → Type 0) → Option ℕ → ℕ → Type 0
StandTo first now base n = (b : ℕ) → first [] b → (base_number (λ m. m) base ≡ n) × now (numbers_to n) b

module _ (first now after : List ℕ → ℕ → Type 0) (base : Option ℕ) (n : ℕ) (stand : StandTo first now base n) where
  pub reached : (b : ℕ) → first [] b → base_number (λ m. m) base ≡ length (numbers_to n)
  reached b s = (stand b s).0 ∙ sym (length-numbers_to n)

  pub one_more : (id : ℕ) → Appended now after (base_number (λ m. m) base) (n + 1) id → StandTo first after (Some id) (n + 1)
  one_more id appended b s =
      let is = reached b s in
      let id_is = appended.id_is (numbers_to n) b (stand b s).1 (omega (arith, is)) in
      (id_is ∙ ap (λ m. m + 1) (stand b s).0, subst (λ h. after h b) (sym (numbers_to-more n)) (appended.stands (numbers_to n) b (stand b s).1 (omega (arith, is))))

  pub not_overtaken : Overtaken now after (base_number (λ m. m) base) → (b : ℕ) → first [] b → ⊥
  not_overtaken overtaken b s =
      let is = reached b s in
      let newer = overtaken.newer (numbers_to n) b (stand b s).1 (omega (arith, is)) in
      absurd (omega (arith, is, newer))

pub last_number : (m : ℕ) → slice_get (numbers_to (suc m)) m ≡ Some (suc m)
last_number m =
    let len = length-numbers_to (suc m) in
    slice_get_read (numbers_to (suc m)) (suc m) m (suc m) (sym len) (omega arith)
    (sym (ap (λ i. get_or (numbers_to (suc m)) i (suc m)) (sym (length-numbers_to m)) ∙ get_or-append_seam (numbers_to m) (suc m) [] (suc m)))

-- the value of the newest version is this number
pub last_is : (newest id value : ℕ) → IsLatest (numbers_to newest) id value → value ≡ newest
last_is zero id value latest = absurd (omega (arith, latest.some))
last_is (suc m) id value latest =
    let is : id ≡ suc m = latest.id_is ∙ length-numbers_to (suc m) in
    let at : id - 1 ≡ m = omega (arith, is) in
    same_Some value (suc m) (sym latest.entry ∙ (ap (λ i. slice_get (numbers_to (suc m)) i) at ∙ last_number m))

-- the newest version and its value are this number
pub newest_is : (newest : ℕ) (read : Option (ℕ × ℕ)) → 0 < newest → LatestBy {T = ℕ} {Id = ℕ} (λ n. n) (numbers_to newest) read → read ≡ Some (newest, newest)
newest_is newest None some none = let len : newest ≡ 0 = sym (length-numbers_to newest) ∙ ap length none in absurd (omega (arith, some, len))
newest_is newest (Some (id, value)) some latest = ap (λ i. Some (i, value)) (latest.id_is ∙ length-numbers_to newest) ∙ ap (λ v. Some (newest, v)) (last_is newest id value latest)
