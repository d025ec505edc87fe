-- What stands of each operation of a world, whatever the events do to it.
use Rattle.std.proofs.Common.{◌≡◌, ℕ, ◌==◌, List, [], ◌∷◌, ◌++◌, map, Bool, true, false, Some, inl, inr, refl, sym, subst, arith}
use Rattle.txn_history.specs.Lists.{numbered}
use Rattle.txn_history.proofs.Lists.{numbered_set, numbered_more}
use Rattle.txn_machine.proofs.plain.Lists.{within, numbered_map}
use Rattle.txn_machine.specs.declared.doing.Doing.{Doing}
use Rattle.txn_machine.specs.declared.doing.Operation.{Operation}
use Rattle.txn_machine.specs.Doing.{ended}
use Rattle.txn_machine.specs.Machine.{doing_next, with_doing, ended_by}

module _ {T : Type 0} (P : Doing T → Type 0) where
  abbrev pub Each : List (Operation T) → Type 0
  Each operations = (op : ℕ) (o : Operation T) → numbered operations op ≡ Some o → P o.doing

  pub each_none : Each []
  each_none op o e = absurd (let some = within [] op o e in omega (arith, some.0, some.1))

  pub each_begun : (operations : List (Operation T)) (new : Operation T) → P new.doing → Each operations → Each (operations ++ new ∷ [])
  each_begun operations new is h op o e =
      elim (numbered_more operations new op o e) [
        | inl was ↦ h op o was
        | inr new' ↦ subst (λ (x : Operation T). P x.doing) new'.1 is
      ]

  pub each_set : (operations : List (Operation T)) (other : ℕ) (was : Operation T) (doing : Doing T) → numbered operations other ≡ Some was → P doing → Each operations → Each (with_doing operations other was doing)
  each_set operations other was doing there is h op o e =
      elim (numbered_set operations other (doing_next was doing) op o (within operations other was there).0 e) [
        | inl here ↦ subst (λ (x : Operation T). P x.doing) here.1 is
        | inr old ↦ h op o old.1
      ]

  pub each_crash : (client : ℕ) (operations : List (Operation T)) → P ended → Each operations → Each (map (ended_by client) operations)
  each_crash client operations gone h op o e =
      let was = numbered_map (ended_by client) operations op o e in
      subst (λ (x : Operation T). P x.doing) (sym was.2) (by was.0 (was.0.client == client) refl (h op was.0 was.1))
    where
      by : (w : Operation T) (b : Bool) → (w.client == client) ≡ b → P w.doing → P (ended_by client w).doing
      by w true is p = rw is gone
      by w false is p = rw is p
