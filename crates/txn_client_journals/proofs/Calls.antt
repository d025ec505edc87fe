-- A call by the world's numbers of views: what it is as the same call by its client's.
use Rattle.std.proofs.Common.{◌≡◌, ℕ, List, Option, Some, None, option_map, refl}
use Rattle.txn_history.specs.declared.event.ViewCall.TheVariants as view_calls
use Rattle.txn_history.specs.declared.event.Call.{Call}
use Rattle.txn_history.specs.declared.event.Call.TheVariants as any
use Rattle.txn_history.specs.Trace.{Row}
use Rattle.txn_history.specs.Views.{View}
use Rattle.txn_history.specs.Calls.{view_used, is_holders, value_written}
use Rattle.txn_history.specs.OneHistory.{base_of, has_low_boundary}
use Rattle.txn_machine.specs.Doing.{started, ReadsBack, FitsWord}
use Rattle.txn_machine.specs.views.Parts.{is_claim_call}
use Rattle.txn_client_journals.specs.Traces.{named_call}

module _ {T : Type 0} (names : ℕ → ℕ) where
  -- what does not depend on the numbers of views
  pub record IsSame (call : Call T) : Type 0 where
    pub uses : option_map names (view_used call) ≡ view_used (named_call names call)
    pub holders : is_holders (named_call names call) ≡ is_holders call
    pub claims : is_claim_call call ≡ is_claim_call (named_call names call)
    pub written : value_written (named_call names call) ≡ value_written call
    pub base : (at : Option ℕ) → base_of at (named_call names call) ≡ base_of at call
    pub low : (rows : List (Row T)) → has_low_boundary rows (named_call names call) ≡ has_low_boundary rows call
    pub word : FitsWord call → FitsWord (named_call names call)

  pub same : (call : Call T) → IsSame call
  same (any.Plain call) = record { uses = refl; holders = refl; claims = refl; written = refl; base = λ at. refl; low = λ rows. refl; word = λ h. h }
  same (any.View (view_calls.Init value)) = record { uses = refl; holders = refl; claims = refl; written = refl; base = λ at. refl; low = λ rows. refl; word = λ h. tt }
  same (any.View view_calls.Load) = record { uses = refl; holders = refl; claims = refl; written = refl; base = λ at. refl; low = λ rows. refl; word = λ h. tt }
  same (any.View (view_calls.Refresh view)) = record { uses = refl; holders = refl; claims = refl; written = refl; base = λ at. refl; low = λ rows. refl; word = λ h. tt }
  same (any.View (view_calls.Update view value)) = record { uses = refl; holders = refl; claims = refl; written = refl; base = λ at. refl; low = λ rows. refl; word = λ h. tt }
  same (any.View (view_calls.Claim view)) = record { uses = refl; holders = refl; claims = refl; written = refl; base = λ at. refl; low = λ rows. refl; word = λ h. tt }
  same (any.View (view_calls.ClaimAt view epoch)) = record { uses = refl; holders = refl; claims = refl; written = refl; base = λ at. refl; low = λ rows. refl; word = λ h. tt }
  same (any.View (view_calls.HolderRefresh view)) = record { uses = refl; holders = refl; claims = refl; written = refl; base = λ at. refl; low = λ rows. refl; word = λ h. tt }
  same (any.View (view_calls.HolderUpdate view value)) = record { uses = refl; holders = refl; claims = refl; written = refl; base = λ at. refl; low = λ rows. refl; word = λ h. tt }

module _ {T : Type 0} (page : ℕ) (encode : T → List ℕ) (decode : List ℕ → Option T) (get_epoch : T → ℕ) (set_epoch : T → ℕ → T) (names : ℕ → ℕ) where
  pub reads_named : (call : Call T) → ReadsBack encode decode call → ReadsBack encode decode (named_call names call)
  reads_named (any.Plain call) h = h
  reads_named (any.View (view_calls.Init value)) h = tt
  reads_named (any.View view_calls.Load) h = tt
  reads_named (any.View (view_calls.Refresh view)) h = tt
  reads_named (any.View (view_calls.Update view value)) h = tt
  reads_named (any.View (view_calls.Claim view)) h = tt
  reads_named (any.View (view_calls.ClaimAt view epoch)) h = tt
  reads_named (any.View (view_calls.HolderRefresh view)) h = tt
  reads_named (any.View (view_calls.HolderUpdate view value)) h = tt

  pub starts_named : (call : Call T) (view : Option (View T)) → started page encode get_epoch set_epoch call view ≡ started page encode get_epoch set_epoch (named_call names call) view
  starts_named (any.Plain call) view = refl
  starts_named (any.View (view_calls.Init value)) view = refl
  starts_named (any.View view_calls.Load) view = refl
  starts_named (any.View (view_calls.Refresh number)) view = refl
  starts_named (any.View (view_calls.Update number value)) None = refl
  starts_named (any.View (view_calls.Update number value)) (Some view) = refl
  starts_named (any.View (view_calls.Claim number)) None = refl
  starts_named (any.View (view_calls.Claim number)) (Some view) = refl
  starts_named (any.View (view_calls.ClaimAt number epoch)) None = refl
  starts_named (any.View (view_calls.ClaimAt number epoch)) (Some view) = refl
  starts_named (any.View (view_calls.HolderRefresh number)) None = refl
  starts_named (any.View (view_calls.HolderRefresh number)) (Some view) = refl
  starts_named (any.View (view_calls.HolderUpdate number value)) None = refl
  starts_named (any.View (view_calls.HolderUpdate number value)) (Some view) = refl
