-- The landings of a log, one row more at a time.
use Rattle.std.proofs.Common.{◌≡◌, ◌⊎◌, inl, inr, Bool, true, false, true≢false, cond, ℕ, List, [], ◌∷◌, ◌++◌, Option, Some, None, IfSome, refl, sym, subst, ◌∙◌}
use Rattle.std.proofs.lemmas.Option.{same_Some}
use Rattle.txn_client_journals.specs.declared.rows.LogRow.{LogRow}
use Rattle.txn_audit.specs.recordings.OneHistory.{HasLanded, LandsAlone, LandOnce}

landed_at_end : (client op : ℕ) (log : List LogRow) (row : LogRow) → HasLanded client op (log ++ row ∷ []) → HasLanded client op log ⊎ ((row.client ≡ client) × (row.landed ≡ Some op))
landed_at_end client op [] row (inl is) = inr is
landed_at_end client op [] row (inr none) = absurd none
landed_at_end client op (first ∷ log) row (inl is) = inl (inl is)
landed_at_end client op (first ∷ log) row (inr later) = elim (landed_at_end client op log row later) [ inl before ↦ inl (inr before) | inr is ↦ inr is ]

alone_at_end : (first row : LogRow) (landed : Option ℕ) (log : List LogRow) → LandsAlone first landed log → ((op : ℕ) → landed ≡ Some op → row.client ≡ first.client → row.landed ≡ Some op → ⊥) → LandsAlone first landed (log ++ row ∷ [])
alone_at_end first row None log alone other = tt
alone_at_end first row (Some op) log alone other = λ has. elim (landed_at_end first.client op log row has) [ inl before ↦ alone before | inr is ↦ other op refl is.0 is.1 ]

alone : (row : LogRow) (landed : Option ℕ) → LandsAlone row landed []
alone row None = tt
alone row (Some op) = λ none. none

once_at_end : (log : List LogRow) (row : LogRow) → LandOnce log → ((op : ℕ) → row.landed ≡ Some op → HasLanded row.client op log → ⊥) → LandOnce (log ++ row ∷ [])
once_at_end [] row once new = (alone row row.landed, tt)
once_at_end (first ∷ log) row once new = (
  alone_at_end first row first.landed log once.0 (λ op firsts same lands. new op lands (inl (sym same, firsts))),
  once_at_end log row once.1 (λ op lands has. new op lands (inr has)),
)

-- what a landing's note says
abbrev IsNoted : (noted noted' : ℕ × ℕ → Bool) → LogRow → Option ℕ → Type 0
IsNoted noted noted' row landed = IfSome landed (λ op. (noted (row.client, op) ≡ false) × (noted' (row.client, op) ≡ true))

module _ (noted noted' : ℕ × ℕ → Bool) (log next : List LogRow) (row : LogRow) (adds : next ≡ log ++ row ∷ []) (all : (client op : ℕ) → HasLanded client op log → noted (client, op) ≡ true) where
  its_note : (landed : Option ℕ) (op : ℕ) → landed ≡ Some op → IsNoted noted noted' row landed → (noted (row.client, op) ≡ false) × (noted' (row.client, op) ≡ true)
  its_note None op is note = cc
  its_note (Some other) op is note = rw (← same_Some other op is) note

  -- an operation that was not noted lands once
  pub once_more : LandOnce log → IsNoted noted noted' row row.landed → LandOnce next
  once_more once note = subst LandOnce (sym adds) (once_at_end log row once (λ op lands has. true≢false (sym (all row.client op has) ∙ (its_note row.landed op lands note).0)))

  -- and each landing is noted
  pub noted_more : ((q : ℕ × ℕ) → noted q ≡ true → noted' q ≡ true) → IsNoted noted noted' row row.landed → (client op : ℕ) → HasLanded client op next → noted' (client, op) ≡ true
  noted_more kept note client op has = elim (landed_at_end client op log row (subst (HasLanded client op) adds has)) [
    | inl before ↦ kept (client, op) (all client op before)
    | inr is ↦ subst (λ c. noted' (c, op) ≡ true) is.0 (its_note row.landed op is.1 note).1
  ]

-- one more that is noted, in place of what was
pub still_noted : (b noted : Bool) → noted ≡ true → cond b true noted ≡ true
still_noted true noted is = refl
still_noted false noted is = is
