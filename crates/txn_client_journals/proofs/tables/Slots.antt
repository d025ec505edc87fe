-- A view that is taken out of its place and put back.
use Rattle.std.proofs.Common.{◌≡◌, ℕ, ◌-◌, List, set, Bool, true, false, is_some, IsSome, OnSome, Option, Some, None, sym, ◌∙◌, ap}
use Rattle.std.specs.Option.{option_map}
use Rattle.std.proofs.lemmas.List.{set-set}
use Rattle.txn_machine.specs.views.Layer.{Used, Change, with_busy, changed}
use Rattle.txn_machine.specs.Machine.{with_used}

module _ {T : Type 0} where
  -- what is put is what the place holds
  pub put_in : (views rest after : List (Option (Used T))) (number : ℕ) (put : Option (Used T)) → rest ≡ with_used views (Some number) None → after ≡ with_used rest (Some number) put → after ≡ with_used views (Some number) put
  put_in views rest after number put out is = is ∙ (ap (λ (vs : List (Option (Used T))). set vs (number - 1) put) out ∙ set-set views (number - 1) None put)

  -- what comes back has the place of what was taken out

  pub taken_back : (P : Type 0) (out back : Option (Used T)) (op : ℕ) → OnSome out P → back ≡ option_map (with_busy (Some op)) out → IsSome back → P
  taken_back P None back op place is there = absurd (let clash : false ≡ true = sym (ap is_some is) ∙ there in cc)
  taken_back P (Some used) back op place is there = place

  pub changed_back : (P : Type 0) (out back : Option (Used T)) (change : Change T) → OnSome out P → back ≡ changed out change → IsSome back → P
  changed_back P None back change place is there = absurd (let clash : false ≡ true = sym (ap is_some is) ∙ there in cc)
  changed_back P (Some used) back change place is there = place
