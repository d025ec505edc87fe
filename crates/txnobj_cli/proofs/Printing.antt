-- Versions that are printed, one after another.
use Rattle.std.proofs.Common.{ℕ, List, [], ◌∷◌, ◌++◌, Option, refl}
use Rattle.txn_history.specs.declared.event.Call.{Call}
use Rattle.txn_history.specs.declared.event.Answer.{Answer}
use Rattle.txnobj.specs.declared.clients.stop.Stop.{Stop}
use Rattle.txn_script_lines.specs.declared.values.entry.Entry.{Entry}
use Rattle.txnobj_cli.specs.Answers.{PrintsStored, PrintsEach}

module _ {F P : Type 0} (made : P → Call Entry → Answer Entry → P → Type 0) (stopped : P → Call Entry → Stop → P → Type 0) (tells : P → Option F → Type 0) where
  -- one version more
  pub each_more : (ids : List ℕ) (id : ℕ) (old between new : P) (said saying said' : Option (List ℕ)) → PrintsEach made stopped tells ids old between said saying → PrintsStored made stopped tells id between new saying said' → PrintsEach made stopped tells (ids ++ id ∷ []) old new said said'
  each_more [] id old between new said saying said' (still, silent) one = (new, said', rw (← still, ← silent) one, (refl, refl))
  each_more (first ∷ ids) id old between new said saying said' (after, half, stored, rest) one = (after, half, stored, each_more ids id after between new half saying said' rest one)
