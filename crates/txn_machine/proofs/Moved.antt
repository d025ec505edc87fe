-- Operations that run, and loose requests, where something else has moved.
use Rattle.std.proofs.Common.{◌≡◌, ℕ, List, Option, Some, None, inl, inr, refl, sym, ◌∙◌, ap, subst}
use Rattle.txn_store.specs.declared.request.Request.{Request}
use Rattle.txn_history.specs.Lists.{numbered}
use Rattle.txn_history.specs.declared.event.Call.{Call}
use Rattle.txn_history.specs.Trace.{Row, PlainRow}
use Rattle.txn_history.specs.Calls.{view_used}
use Rattle.txn_machine.specs.declared.plain.doing.PlainDoing.{PlainDoing}
use Rattle.txn_machine.specs.views.Layer as layer
use Rattle.txn_machine.specs.views.Layer.{Used, Inner, Asked, Layer, look_up, local_of}
use Rattle.txn_machine.proofs.views.Stands as layer_stands
use Rattle.txn_machine.proofs.views.Stands.{Uses, UsesView}
use Rattle.txn_machine.proofs.views.Tables.{Leaves, op_of}
use Rattle.txn_machine.specs.declared.doing.Operation.{Operation}
use Rattle.txn_machine.proofs.Matched.{Matched}
use Rattle.txn_machine.proofs.Joined.{Fine, as_laid, as_fine, Does, PastAt, Held, At, LooseAt}

module _ {T : Type 0} where
  -- the epoch of a view that is left
  used_local : (rows : List (Row T)) (old new : ℕ → Option (Used T)) (op : ℕ) (o : layer.Operation T) → Leaves old new op → (number : Option ℕ) → Uses rows old op o number → local_of (look_up new number) ≡ local_of (look_up old number)
  used_local rows old new op o f None h = refl
  used_local rows old new op o f (Some number) h = ap local_of (f number h.used h.there h.busy ∙ sym h.there)

module _ {T : Type 0} (decode : List ℕ → Option T) (get_epoch : T → ℕ) where
  module _ (operations operations' : List (Fine T)) (fine fine' : List (PlainRow T)) (rows rows' : List (Row T)) (owner owner' now now' : ℕ → ℕ) (ops ops' : ℕ → Option (layer.Operation T)) (views views' : ℕ → Option (Used T)) (asked asked' : List (Asked T)) where
    -- What holds of an operation that runs, for its layer's part.
    pub record Was (o client : ℕ) (call : Call T) (inner : Inner T) : Type 0 where
      pub runs : ops o ≡ Some (as_laid client call inner)
      pub owned : owner (now o) ≡ o
      pub does : Does get_epoch fine rows asked (now o) o call inner
      pub past : PastAt decode owner fine o (now o)

    -- What it keeps.
    pub record Keeps (o client : ℕ) (call : Call T) (inner : Inner T) : Type 0 where
      pub runs : ops' o ≡ Some (as_laid client call inner)
      pub there : (doing : PlainDoing T) → numbered operations (now o) ≡ Some (as_fine client doing) → numbered operations' (now' o) ≡ Some (as_fine client doing)
      pub owned : owner' (now' o) ≡ o
      pub local : local_of (look_up views' (view_used call)) ≡ local_of (look_up views (view_used call))
      pub does : Does get_epoch fine' rows' asked' (now' o) o call inner
      pub past : PastAt decode owner' fine' o (now' o)

    pub held_on : (o : ℕ) (operation : Operation T) → ((client : ℕ) (call : Call T) (inner : Inner T) → client ≡ operation.client → Was o client call inner → Keeps o client call inner) → Held decode get_epoch operations fine rows owner now ops views asked o operation → Held decode get_epoch operations' fine' rows' owner' now' ops' views' asked' o operation
    held_on o operation keeps h =
        let k = keeps operation.client h.call h.inner refl (record { runs = h.runs; owned = h.owned; does = h.does; past = h.past }) in
        record { call = h.call; inner = h.inner; runs = k.runs; view = h.view; claims = h.claims; doing = h.doing; there = k.there h.doing h.there; matched = subst (λ (local : Option ℕ). Matched get_epoch h.call local h.inner operation.doing h.doing) (sym k.local) h.matched; owned = k.owned; does = k.does; past = k.past }

    pub at_on : (o : ℕ) (x : Option (Operation T)) → (ops o ≡ None → ops' o ≡ None) → ((client : ℕ) (call : Call T) (inner : Inner T) → Was o client call inner → Keeps o client call inner) → At decode get_epoch operations fine rows owner now ops views asked o x → At decode get_epoch operations' fine' rows' owner' now' ops' views' asked' o x
    at_on o None gone keeps h = gone h
    at_on o (Some operation) gone keeps (inl h) = inl (h.0, gone h.1)
    at_on o (Some operation) gone keeps (inr h) = inr (held_on o operation (λ client call inner same was. keeps client call inner was) h)

  pub loose_on : (loose loose' : List (ℕ × Request)) (fine fine' : List (PlainRow T)) (rows rows' : List (Row T)) (owner owner' : ℕ → ℕ) (ops ops' : ℕ → Option (layer.Operation T)) (asked asked' : List (Asked T)) (o : ℕ) (request : Request) →
      ((k n : ℕ) → numbered loose k ≡ Some (n, request) → numbered loose' k ≡ Some (n, request)) → ((n : ℕ) (call : Call T) (inner : Inner T) → Does get_epoch fine rows asked n o call inner → owner n ≡ o → owner' n ≡ o) →
      ((n : ℕ) (call : Call T) (inner : Inner T) → Does get_epoch fine rows asked n o call inner → ops o ≡ None → ops' o ≡ None) → ((n : ℕ) (call : Call T) (inner : Inner T) → Does get_epoch fine rows asked n o call inner → Does get_epoch fine' rows' asked' n o call inner) →
      LooseAt decode get_epoch loose fine rows owner ops asked o request → LooseAt decode get_epoch loose' fine' rows' owner' ops' asked' o request
  loose_on loose loose' fine fine' rows rows' owner owner' ops ops' asked asked' o request there owned gone does h =
      record { place = h.place; n = h.n; there = there h.place h.n h.there; owned = owned h.n h.call h.inner h.does h.owned; gone = gone h.n h.call h.inner h.does h.gone; call = h.call; inner = h.inner; does = does h.n h.call h.inner h.does }

module _ {T : Type 0} (decode : List ℕ → Option T) (get_epoch : T → ℕ) (set_epoch : T → ℕ → T) where
  -- a view that an operation leaves to another keeps its epoch
  pub local_left : (l : Layer T) → layer_stands.Stands decode get_epoch set_epoch l → (views : ℕ → Option (Used T)) (o : ℕ) → Leaves l.views views o → (client : ℕ) (call : Call T) (inner : Inner T) → l.ops o ≡ Some (as_laid client call inner) → local_of (look_up views (view_used call)) ≡ local_of (look_up l.views (view_used call))
  local_left l over views o leaves client call inner runs = used_local l.rows l.views views o (as_laid client call inner) leaves (view_used call) (op_of decode get_epoch set_epoch l over o (as_laid client call inner) runs).uses
