-- One call more at the end of a run.
use Rattle.std.proofs.Common.{ℕ, List, [], ◌∷◌, ◌++◌}
use Rattle.slatedb_txn_obj_uses.specs.declared.one_client.Call.{Call}
use Rattle.slatedb_txn_obj_uses.specs.declared.one_client.Reply.{Reply}
use Rattle.slatedb_txn_obj_uses.specs.OneClient.{IsAllowed, Moves, Runs}

module _ {T : Type 0} (Ends Ends' : List T → ℕ → Type 0) (call : Call T) (reply : Reply T) (moves : (h : List T) (b : ℕ) → Ends h b → IsAllowed h call → (h' : List T) × (b' : ℕ) × Moves h b call reply h' b' × Ends' h' b') where
  pub run_on : (h : List T) (b : ℕ) (calls : List (Call T)) (replies : List (Reply T)) → Runs Ends h b calls replies → Runs Ends' h b (calls ++ call ∷ []) (replies ++ reply ∷ [])
  run_on h b [] [] ends = moves h b ends
  run_on h b [] (r ∷ rs) ends = absurd ends
  run_on h b (c ∷ cs) [] ends = absurd ends
  run_on h b (c ∷ cs) (r ∷ rs) runs = λ allowed. let m = runs allowed in (m.0, m.1, m.2, run_on m.0 m.1 cs rs m.3)
