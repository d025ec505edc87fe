-- Operations that run alone, a look or a store call a step.
use Rattle.std.specs.Prelude.{◌≡◌, ℕ, zero, suc, ◌<◌, Bool, ◌&&◌, Option, Some, None, Result}
use Rattle.txn_store.specs.Store.{State}
use Rattle.txn_store.specs.declared.request.Request.{Request}
use Rattle.txn_store.specs.declared.request.Reply.{Reply}
use Rattle.txn_store.specs.declared.types.error.TransactionalObjectError.{TransactionalObjectError}
use Rattle.txn_steps.specs.declared.boundary.caches.Caches.{Caches}
use Rattle.txn_steps.specs.declared.boundary.turned.Turned.{Turned}
use Rattle.txn_steps.specs.declared.boundary.turned.Turned.TheVariants.{Goes, Done}
use Rattle.txn_steps.specs.boundary.Asking.{reply_told, unless_lacking}
use Rattle.txn_steps.specs.boundary.Steps.{turned_by_number, lacks_memory, TellsErrorOf}
use Rattle.txn_steps_driven.specs.Asked.{Replies}

-- an operation, the caches of its client, and the store
pub record Scene (O : Type 0) : Type 0 where
  pub op : O
  pub caches : Caches
  pub store : State

module _ {O A : Type 0} (Steps : Scene O → Turned A → Scene O → Type 0) where
  -- so many steps, after each of which it goes on
  abbrev pub GoesOn : ℕ → Scene O → Scene O → Type 0
  GoesOn zero a b = b ≡ a
  GoesOn (suc n) a c = (b : Scene O) × GoesOn n a b × Steps b Goes c

  -- Within so many steps: the answer of the first step that ends it, or none, where it goes on after all of them.
  abbrev pub Drives : ℕ → Scene O → Option A → Scene O → Type 0
  Drives steps a None b = GoesOn steps a b
  Drives steps a (Some answer) c = (n : ℕ) × (b : Scene O) × (n < steps) × GoesOn n a b × Steps b (Done answer) c

-- One step: the store replies to what the operation asks, or it looks, and it takes that. `turned` is what it makes of that, `left` what it leaves of the caches, and `may_grow` whether it takes memory, which may be refused.
pub record Stepped {O A : Type 0} (may_grow : Bool) (asked : O → Option Request) (turned : O → Caches → Option Reply → O × Turned (Result A ℕ)) (left : O → Caches → Turned (Result A ℕ) → Caches) (a : Scene O) (told : Turned (Result A TransactionalObjectError)) (b : Scene O) : Type 0 where
  pub reply : Option Reply
  pub replies : Replies (asked a.op) a.store reply b.store
  pub takes : (b.op, turned_by_number told) ≡ unless_lacking (may_grow && lacks_memory (turned_by_number told)) a.op (turned a.op a.caches reply)
  pub leaves : b.caches ≡ left a.op a.caches (turned_by_number told)
  pub error : TellsErrorOf (reply_told reply) told
