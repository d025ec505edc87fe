-- What the raises and erasures of the machine are on the layer's rows.
use Rattle.std.proofs.Common.{◌≡◌, ℕ, zero, suc, List, refl, arith}
use Rattle.std.proofs.lemmas.Option.{same_Some}
use Rattle.txn_history.specs.declared.event.PlainCall.TheVariants as calls
use Rattle.txn_history.specs.Calls.{IsCall}
use Rattle.txn_history.specs.Facts.{base_on}
use Rattle.txn_machine.specs.plain.PlainHistory.{alone}
use Rattle.txn_history.specs.Effects.{Raises, Erases}
use Rattle.txn_history.specs.declared.event.Call.TheVariants as any
use Rattle.txn_history.specs.Trace.{Row, PlainRow}
use Rattle.txn_machine.proofs.views.Tied.{Alike, same_newest, same_boundary}

pub same_base : (n m : ℕ) → base_on n ≡ base_on m → n ≡ m
same_base zero zero e = refl
same_base zero (suc m) e = cc
same_base (suc n) zero e = cc
same_base (suc n) (suc m) e = same_Some (suc n) (suc m) e

module _ {T : Type 0} (owner : ℕ → ℕ) (fine : List (PlainRow T)) (rows : List (Row T)) (h : Alike owner fine rows) where
  -- a raise, and an erasure, of an operation whose owner's call is the same
  pub raises_too : (op to : ℕ) → IsCall rows (owner op) (any.Plain (calls.Advance to)) → Raises alone fine op to → Raises any.Plain rows (owner op) to
  raises_too op to called r =
      let low = same_boundary owner fine rows h in
      let new = same_newest owner fine rows h in
      record { called = called; up = (let up = r.up in omega (arith, up, low)); under = (let under = r.under in omega (arith, under, new)) }

  pub erases_too : (op id : ℕ) → IsCall rows (owner op) (any.Plain (calls.Delete id)) → Erases alone fine op id → Erases any.Plain rows (owner op) id
  erases_too op id called e = (let low = same_boundary owner fine rows h in record { called = called; below = (let le = e.below in omega (arith, le, low)) })
