-- Rounds, one after another.
use Rattle.std.proofs.Common.{◌+◌, ◌<◌, ℕ, sym, subst, add-one}
use Rattle.txnobj.specs.Rounds.{Rounds, AfterRounds}

module _ {X : Type 0} (round : X → X → Type 0) where
  -- one round more
  pub rounds_more : (count : ℕ) (start last next : X) → Rounds round count start last → round last next → Rounds round (count + 1) start next
  rounds_more count start last next rounds one = subst (λ n. Rounds round n start next) (sym (add-one count)) (last, rounds, one)

module _ {X : Type 0} {round : X → X → Type 0} where
  -- what holds after so many rounds
  pub after_rounds : {attempts : ℕ} {start : X} {holds : X → Type 0} (count : ℕ) (last : X) → count < attempts → Rounds round count start last → holds last → AfterRounds round attempts start holds
  after_rounds count last fewer rounds so = record { count = count; fewer = fewer; last = last; rounds = rounds; so = so }
