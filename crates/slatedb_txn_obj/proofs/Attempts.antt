-- What attempts of an update spend and fail for.
use Rattle.std.proofs.Common.{Bool, true, false, List, length, Option, Some, Result, Ok, inl, inr, arith, refl, sym, subst, ◌∙◌, ◌≡◌, ◌⊎◌, ℕ, ◌+◌, ◌-◌, ◌*◌, ◌<◌, ◌≤◌}
use Rattle.txn_store.specs.Store.{State}
use Rattle.txn_store.specs.declared.types.callback.CallbackFault.{CallbackFault}
use Rattle.txn_store.specs.declared.types.dirty.DirtyObject.{DirtyObject}
use Rattle.txn_steps_driven.specs.Calls.{Spends, SpendsTurns}
use Rattle.txn_steps_driven.specs.LatestReads.{IsLatest}
use Rattle.slatedb_txn_obj.specs.Protocol.{Stays, Overtaken}
use Rattle.slatedb_txn_obj.specs.Views.{IsVersion}

-- a call that makes none
pub spends-nothing : (s : State) → Spends 2 1 s s
spends-nothing s = record {
  calls_rise = omega arith;
  calls_most = omega arith;
  failures_rise = omega arith;
  left_falls = omega arith;
  left_least = omega arith;
}

pub le-more : (n : ℕ) → n ≤ n + 1
le-more n = omega arith

-- an update that spends a turn, after other attempts
pub spends-update : (first turns left : ℕ) (old middle new : State) → turns ≡ left + 1 → SpendsTurns 7 0 (first - turns) first turns old middle → Spends 2 1 middle new → SpendsTurns 7 0 (first - left) first left old new
spends-update first turns left old middle new spent before update = record {
  turns_fall = omega (arith, spent, before.turns_fall);
  calls_rise = omega (arith, before.calls_rise, update.calls_rise);
  calls_most = omega (arith, spent, before.calls_most, update.calls_most);
  failures_rise = omega (arith, before.failures_rise, update.failures_rise);
  left_falls = omega (arith, before.left_falls, update.left_falls);
  left_least = omega (arith, spent, before.turns_fall, before.left_least, update.left_least);
}

-- a refresh after other attempts
pub spends-refresh : (first turns left : ℕ) (old middle new : State) → SpendsTurns 7 0 (first - turns) first turns old middle → SpendsTurns 7 0 0 turns left middle new → SpendsTurns 7 0 (first - left) first left old new
spends-refresh first turns left old middle new before refresh = record {
  turns_fall = omega (arith, refresh.turns_fall, before.turns_fall);
  calls_rise = omega (arith, before.calls_rise, refresh.calls_rise);
  calls_most = omega (arith, before.calls_most, refresh.calls_most);
  failures_rise = omega (arith, before.failures_rise, refresh.failures_rise);
  left_falls = omega (arith, before.left_falls, refresh.left_falls);
  left_least = omega (arith, refresh.turns_fall, before.turns_fall, before.left_least, refresh.left_least);
}

module _ {T : Type 0} (before after : List T → ℕ → Type 0) (number : ℕ) where
  -- a conflict moves nothing, whether its candidate was made of the object's version or not
  pub conflict-stays : (same : Bool) → (same ≡ false → Stays before after) → (same ≡ true → Overtaken before after number) → (h : List T) (b : ℕ) → before h b → number ≤ length h → after h b
  conflict-stays false other overtaken h b stands within = other refl h b stands
  conflict-stays true other overtaken h b stands within = (overtaken refl).stands h b stands within

  -- the newest version is not overtaken
  pub latest-not_overtaken : (h : List T) (b : ℕ) (value : T) → Overtaken before after number → before h b → IsVersion h number value → IsLatest h number value → ⊥
  latest-not_overtaken h b value overtaken stands version latest = omega (arith, overtaken.newer h b stands version.within, latest.id_is)

module _ {T Id View : Type 0} (answers : View → Result (Option (DirtyObject T Id)) CallbackFault → Type 0) where
  -- a mutator's first answer was a candidate
  abbrev pub IsCandidateFirst : View → Type 0
  IsCandidateFirst start = (dirty : DirtyObject T Id) × answers start (Ok (Some dirty))

  -- so it was where this answer, the first or a later one, is a candidate
  pub candidate-first : (start view : View) (B C D : Type 0) (dirty : DirtyObject T Id) → ((view ≡ start) × B × C × D) ⊎ IsCandidateFirst start → answers view (Ok (Some dirty)) → IsCandidateFirst start
  candidate-first start view B C D dirty (inl first) answered = (dirty, subst (λ v. answers v (Ok (Some dirty))) first.0 answered)
  candidate-first start view B C D dirty (inr earlier) answered = earlier

-- by turns, pages and tokens left: the first attempt comes, or the second, which is on the newest version
abbrev Attempted : (t0 t p0 p l0 l : ℕ) → Type 0 → Type 0
Attempted t0 t p0 p l0 l Latest = ((t ≡ t0) × (p ≡ p0) × (l0 ≤ l)) ⊎ ((t0 ≤ t + 3 + 2 * p0) × Latest × (l0 ≤ l + 1))

-- what a first attempt has spent after a conflict and its refresh, by turns, pages and tokens left
pub first-spent : (t0 t t1 t2 p0 p p1 l0 l l1 l2 : ℕ) → (t ≡ t0) × (p ≡ p0) × (l0 ≤ l) → t ≡ t1 + 1 → p1 ≤ p + 1 → t1 ≤ t2 + 2 * p1 → l ≤ l1 + 1 → l1 ≤ l2 + 0 → (t0 ≤ t2 + 3 + 2 * p0) × (l0 ≤ l2 + 1)
first-spent t0 t t1 t2 p0 p p1 l0 l l1 l2 first spent paged few took took' = (omega (arith, first.0, first.1, spent, paged, few), omega (arith, first.2, took, took'))

-- what the first attempt or the second has spent, by turns, pages and tokens left
pub attempt-spends : (t0 t t1 p0 p l0 l l1 : ℕ) (Latest : Type 0) → t ≤ t1 + 1 → l ≤ l1 + 1 → Attempted t0 t p0 p l0 l Latest → (t0 ≤ t1 + 4 + 2 * p0) × (l0 ≤ l1 + 2)
attempt-spends t0 t t1 p0 p l0 l l1 Latest spent took (inl first) = (omega (arith, spent, first.0), omega (arith, took, first.2))
attempt-spends t0 t t1 p0 p l0 l l1 Latest spent took (inr second) = (omega (arith, spent, second.0), omega (arith, took, second.2))

-- so a turn is left for each
pub turn-left : (t0 t p0 p l0 l : ℕ) (Latest : Type 0) → 4 + 2 * p0 ≤ t0 → t ≡ 0 → Attempted t0 t p0 p l0 l Latest → ⊥
turn-left t0 t p0 p l0 l Latest many none (inl first) = omega (arith, many, none, first.0)
turn-left t0 t p0 p l0 l Latest many none (inr second) = omega (arith, many, none, second.0)

-- what attempts have spent after a conflict and its refresh, where one on the newest version is no conflict
pub attempts-after : (t0 t t1 t2 p0 p p1 l0 l l1 l2 : ℕ) (Latest : Type 0) → (Latest → ⊥) → t ≡ t1 + 1 → p1 ≤ p + 1 → t1 ≤ t2 + 2 * p1 → l ≤ l1 + 1 → l1 ≤ l2 + 0 → Attempted t0 t p0 p l0 l Latest → (t0 ≤ t2 + 3 + 2 * p0) × (l0 ≤ l2 + 1)
attempts-after t0 t t1 t2 p0 p p1 l0 l l1 l2 Latest over spent paged few took took' (inl first) = first-spent t0 t t1 t2 p0 p p1 l0 l l1 l2 first spent paged few took took'
attempts-after t0 t t1 t2 p0 p p1 l0 l l1 l2 Latest over spent paged few took took' (inr second) = absurd (over second.1)

-- which is no more than what two have
pub one-within_two : (t0 t2 p0 l0 l2 : ℕ) → t0 ≤ t2 + 3 + 2 * p0 → l0 ≤ l2 + 1 → (t0 ≤ t2 + 4 + 2 * p0) × (l0 ≤ l2 + 2)
one-within_two t0 t2 p0 l0 l2 few took = (omega (arith, few), omega (arith, took))

pub refresh-within_two : (t0 t t1 t2 p0 p p1 l0 l l1 l2 : ℕ) (Latest : Type 0) → (Latest → ⊥) → t ≡ t1 + 1 → p1 ≤ p + 1 → t1 ≤ t2 + 2 * p1 → l ≤ l1 + 1 → l1 ≤ l2 + 0 → Attempted t0 t p0 p l0 l Latest → (t0 ≤ t2 + 4 + 2 * p0) × (l0 ≤ l2 + 2)
refresh-within_two t0 t t1 t2 p0 p p1 l0 l l1 l2 Latest over spent paged few took took' before = let after = attempts-after t0 t t1 t2 p0 p p1 l0 l l1 l2 Latest over spent paged few took took' before in one-within_two t0 t2 p0 l0 l2 after.0 after.1

-- and the refresh has the turns that it needs
pub enough-after : (t0 t t1 p0 p p1 l0 l : ℕ) (Latest : Type 0) → (Latest → ⊥) → 4 + 2 * p0 ≤ t0 → t ≡ t1 + 1 → p1 ≤ p + 1 → Attempted t0 t p0 p l0 l Latest → 2 * p1 ≤ t1
enough-after t0 t t1 p0 p p1 l0 l Latest over many spent paged (inl first) = omega (arith, many, spent, paged, first.0, first.1)
enough-after t0 t t1 p0 p p1 l0 l Latest over many spent paged (inr second) = absurd (over second.1)

-- the same beside the newest number and the readings of a clock
module _ (t0 t p0 p l0 l n0 n m k : ℕ) (Latest : Type 0) where
  abbrev pub IsAttempt : Type 0
  IsAttempt = ((t ≡ t0) × (p ≡ p0) × (l0 ≤ l) × (n ≡ n0) × (k ≡ 0)) ⊎ ((t0 ≤ t + 3 + 2 * p0) × Latest × (l0 ≤ l + 1) × (n0 < m) × (k ≡ 2))

  without-readings : IsAttempt → Attempted t0 t p0 p l0 l Latest
  without-readings (inl first) = inl (first.0, first.1, first.2)
  without-readings (inr second) = inr (second.0, second.1, second.2)

  -- what is spent after it
  pub attempt-within_two : (t1 l1 : ℕ) → IsAttempt → t ≡ t1 + 1 → l ≤ l1 + 1 → (t0 ≤ t1 + 4 + 2 * p0) × (l0 ≤ l1 + 2)
  attempt-within_two t1 l1 attempt spent took = attempt-spends t0 t t1 p0 p l0 l l1 Latest (omega (arith, spent)) took (without-readings attempt)

  -- and after its refresh where it was a conflict: it was the first, since the newest version is not overtaken
  pub conflict-spent : (t1 t2 p1 l1 l2 : ℕ) → IsAttempt → (Latest → ⊥) → t ≡ t1 + 1 → p1 ≤ p + 1 → t1 ≤ t2 + 2 * p1 → l ≤ l1 + 1 → l1 ≤ l2 + 0 → (t0 ≤ t2 + 3 + 2 * p0) × (l0 ≤ l2 + 1)
  conflict-spent t1 t2 p1 l1 l2 attempt over spent paged few took took' = attempts-after t0 t t1 t2 p0 p p1 l0 l l1 l2 Latest over spent paged few took took' (without-readings attempt)

  -- so the second comes, with two readings more
  pub conflict-next : (t1 t2 p1 p2 l1 l2 n' k' k'' : ℕ) (Newest : Type 0) → IsAttempt → (Latest → ⊥) → t ≡ t1 + 1 → p1 ≤ p + 1 → t1 ≤ t2 + 2 * p1 → l ≤ l1 + 1 → l1 ≤ l2 + 0 → Newest → n < m → k' ≡ k + 1 → k'' ≡ k' + 1 → ((t2 ≡ t0) × (p2 ≡ p0) × (l0 ≤ l2) × (n' ≡ n0) × (k'' ≡ 0)) ⊎ ((t0 ≤ t2 + 3 + 2 * p0) × Newest × (l0 ≤ l2 + 1) × (n0 < m) × (k'' ≡ 2))
  conflict-next t1 t2 p1 p2 l1 l2 n' k' k'' Newest (inl first) over spent paged few took took' newest newer one two = let most = first-spent t0 t t1 t2 p0 p p1 l0 l l1 l2 (first.0, first.1, first.2) spent paged few took took' in inr (most.0, newest, most.1, omega (arith, first.3, newer), omega (arith, first.4, one, two))
  conflict-next t1 t2 p1 p2 l1 l2 n' k' k'' Newest (inr second) over spent paged few took took' newest newer one two = absurd (over second.1)

  -- and the clock was read as often as it has to be where it was none
  pub reads-for : (k' : ℕ) → IsAttempt → k' ≡ k + 1 → n ≡ m → (n0 ≡ m → k' ≡ 1) × (n0 < m → k' ≡ 3)
  reads-for k' (inl first) read newest = ((λ is. omega (arith, first.4, read)), (λ less. absurd (omega (arith, first.3, newest, less))))
  reads-for k' (inr second) read newest = ((λ is. absurd (omega (arith, is, second.3))), (λ less. omega (arith, second.4, read)))

-- a turn that had no call
pub idle-spent : (t0 t t1 c0 c c1 : ℕ) → c1 ≡ c → c + 7 * t ≤ c0 + 0 + 7 * t0 → t ≡ t1 + 1 → c1 + 7 * t1 + 7 ≤ c0 + 7 * t0
idle-spent t0 t t1 c0 c c1 calls most spent = omega (arith, calls, most, spent)

-- one that had an update's two calls at most, and one that had none
pub late-spent : (t0 t t1 c0 c c1 : ℕ) → c1 ≤ c + 2 → c + 7 * t ≤ c0 + 0 + 7 * t0 → t ≡ t1 + 1 → c1 + 7 * t1 + 5 ≤ c0 + 7 * t0
late-spent t0 t t1 c0 c c1 calls most spent = omega (arith, calls, most, spent)

pub late-idle : (t0 t t1 c0 c c1 : ℕ) → c1 ≡ c → c + 7 * t ≤ c0 + 0 + 7 * t0 → t ≡ t1 + 1 → c1 + 7 * t1 + 5 ≤ c0 + 7 * t0
late-idle t0 t t1 c0 c c1 calls most spent = omega (arith, calls, most, spent)

-- turns that were enough for two attempts are not all spent after one
pub conflict-left : (t0 t2 p0 : ℕ) → t0 ≤ t2 + 3 + 2 * p0 → t2 ≡ 0 → 4 + 2 * p0 ≤ t0 → ⊥
conflict-left t0 t2 p0 few none enough = omega (arith, few, none, enough)

-- The pages after an attempt that was a conflict, and its refresh. So far there were as many as at first, or one more at most and the attempt was made on the newest version.
pub paged-after : (same : Bool) (p0 p p1 p2 : ℕ) (Latest Newest : Type 0) → (same ≡ false → p1 ≡ p) → (same ≡ true → Latest → ⊥) → p1 ≤ p + 1 → p2 ≡ p1 → Newest → (p ≡ p0) ⊎ ((p ≤ p0 + 1) × Latest) → (p2 ≡ p0) ⊎ ((p2 ≤ p0 + 1) × Newest)
paged-after false p0 p p1 p2 Latest Newest other over most read newest (inl first) = inl (read ∙ other refl ∙ first)
paged-after false p0 p p1 p2 Latest Newest other over most read newest (inr second) = let kept = other refl in inr (omega (arith, read, kept, second.0), newest)
paged-after true p0 p p1 p2 Latest Newest other over most read newest (inl first) = inr (omega (arith, read, most, first), newest)
paged-after true p0 p p1 p2 Latest Newest other over most read newest (inr second) = absurd (over refl second.1)

-- and with the write of one attempt more
pub pages-most : (p0 p p1 : ℕ) (Latest : Type 0) → p1 ≤ p + 1 → (p ≡ p0) ⊎ ((p ≤ p0 + 1) × Latest) → p1 ≤ p0 + 2
pages-most p0 p p1 Latest most (inl first) = omega (arith, most, first)
pages-most p0 p p1 Latest most (inr second) = let before = second.0 in omega (arith, most, before)

-- a turn of which nothing more was spent, after other attempts
pub spends-turn : (first turns left : ℕ) (old new : State) → turns ≡ left + 1 → SpendsTurns 7 0 (first - turns) first turns old new → SpendsTurns 7 0 (first - left) first left old new
spends-turn first turns left old new spent before = record {
  turns_fall = omega (arith, spent, before.turns_fall);
  calls_rise = before.calls_rise;
  calls_most = omega (arith, spent, before.calls_most);
  failures_rise = before.failures_rise;
  left_falls = before.left_falls;
  left_least = omega (arith, spent, before.turns_fall, before.left_least);
}

-- no turn that was left
pub spends-none : (first turns left : ℕ) (old new : State) → (turns ≡ 0) × (left ≡ 0) → SpendsTurns 7 0 (first - turns) first turns old new → SpendsTurns 7 0 (first - left) first left old new
spends-none first turns left old new none before = subst (λ n. SpendsTurns 7 0 (first - n) first n old new) (none.0 ∙ sym none.1) before
