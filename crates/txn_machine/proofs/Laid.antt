-- An effect of a fine operation is one of its owner, which the layer takes.
use Rattle.std.proofs.Common.{◌≡◌, ℕ, zero, suc, ◌+◌, List, true, false, Option, Some, None, ◌⊎◌, inl, inr, refl, sym, ◌∙◌, ap, subst, arith}
use Rattle.txn_store.specs.declared.request.Request.{Request}
use Rattle.txn_store.specs.types.Numbers.{number_of}
use Rattle.txn_history.specs.declared.event.PlainCall.{PlainCall}
use Rattle.txn_history.specs.declared.event.PlainCall.TheVariants as calls
use Rattle.txn_history.specs.declared.trace.RowOf.TheVariants.{Effect, Begun}
use Rattle.txn_history.specs.Trace.{PlainRow}
use Rattle.txn_history.specs.History.{Version, created, raised, removed, has_id, versions_of, newest, was_erased, is_stored}
use Rattle.txn_history.specs.Calls.{IsCall}
use Rattle.txn_history.specs.Facts.{base_on}
use Rattle.txn_machine.specs.plain.PlainHistory.{alone, WritesOn, Appends, Recreates, IsLegal, IsOneHistory}
use Rattle.txn_history.specs.Effects.{Raises, Erases, Append, Recreate, Raise, Erase}
use Rattle.txn_history.proofs.Numbered.{one_call}
use Rattle.txn_history.specs.declared.event.Call.{Call}
use Rattle.txn_history.specs.declared.event.Call.TheVariants as any
use Rattle.txn_machine.specs.views.Layer as layer
use Rattle.txn_machine.specs.views.Layer.{Inner, Starts, Writes, Reads, Acts, Asked, Layer, with_row}
use Rattle.txn_machine.specs.views.Steps.{IsDue, WasRemoved, Steps}
use Rattle.txn_machine.proofs.views.Tied.{Alike, same_versions, same_newest, same_stored, same_boundary, same_erased}
use Rattle.txn_machine.proofs.views.Owed.{same_base, raises_too, erases_too}
use Rattle.txn_machine.proofs.Matched.{inner_call, fine_call}
use Rattle.txn_machine.proofs.Joined.{Noted, DoesFirst, Does}

number_on : (n : ℕ) → number_of (base_on n) ≡ n
number_on zero = refl
number_on (suc n) = refl

abbrev some_version : ℕ → List ℕ → Option Version
some_version id bytes = Some (id, bytes)

module _ {T : Type 0} where
  -- a write is what its operation does now, or its operation has ended
  abbrev pub DueFor : ℕ → Inner T → Option (layer.Operation T) → Type 0
  DueFor op (Writes base value epoch) o = IsDue (record { op = op; base = base; value = value }) o
  DueFor op Reads o = Unit {0}
  DueFor op Starts o = Unit {0}
  DueFor op Acts o = Unit {0}

  inner_advance : (inner : Inner T) (to : ℕ) → inner_call inner ≡ calls.Advance to → ⊥
  inner_advance (Writes base value epoch) to e = cc
  inner_advance Reads to e = cc
  inner_advance Starts to e = cc
  inner_advance Acts to e = cc

  inner_delete : (inner : Inner T) (id : ℕ) → inner_call inner ≡ calls.Delete id → ⊥
  inner_delete (Writes base value epoch) id e = cc
  inner_delete Reads id e = cc
  inner_delete Starts id e = cc
  inner_delete Acts id e = cc

  is_advance : (call : Call T) (inner : Inner T) (to : ℕ) → fine_call call inner ≡ calls.Advance to → call ≡ any.Plain (calls.Advance to)
  is_advance (any.Plain call) inner to e = ap any.Plain e
  is_advance (any.View call) inner to e = absurd (inner_advance inner to e)

  is_delete : (call : Call T) (inner : Inner T) (id : ℕ) → fine_call call inner ≡ calls.Delete id → call ≡ any.Plain (calls.Delete id)
  is_delete (any.Plain call) inner id e = ap any.Plain e
  is_delete (any.View call) inner id e = absurd (inner_delete inner id e)

  abbrev layer_write : ℕ → T → ℕ → Inner T
  layer_write base value epoch = Writes base value epoch

  written_same : (base m : ℕ) (value v : T) (epoch : ℕ) → base ≡ m → v ≡ value → layer_write base value epoch ≡ layer_write m v epoch
  written_same base m value v epoch e h = ap (λ (n : ℕ). layer_write n value epoch) e ∙ ap (λ (x : T). layer_write m x epoch) (sym h)

module _ {T : Type 0} (decode : List ℕ → Option T) (get_epoch : T → ℕ) where
  -- what writes an entry on an entry is a write of it there
  writes_is : (call : Call T) (inner : Inner T) → DoesFirst get_epoch call inner → (rows : List (PlainRow T)) (n m : ℕ) (v : T) → WritesOn decode get_epoch rows n (fine_call call inner) m v → (epoch : ℕ) × (inner ≡ Writes m v epoch)
  writes_is (any.Plain (calls.Write base value)) inner first rows n m v w = (get_epoch value, first ∙ written_same (number_of base) m value v (get_epoch value) (ap number_of w.0 ∙ number_on m) w.1)
  writes_is (any.Plain (calls.WriteUnchecked base value)) inner first rows n m v w = (get_epoch value, first ∙ written_same (number_of base) m value v (get_epoch value) (ap number_of w.0 ∙ number_on m) w.1)
  writes_is (any.Plain _) inner first rows n m v w = absurd w
  writes_is (any.View call) (Writes base value epoch) first rows n m v w = (epoch, written_same base m value v epoch (same_base base m w.0) w.1)
  writes_is (any.View call) Reads first rows n m v w = absurd w
  writes_is (any.View call) Starts first rows n m v w = absurd w
  writes_is (any.View call) Acts first rows n m v w = absurd w

-- a fine operation began as one call
pub one_fine : {T : Type 0} (decode : List ℕ → Option T) (get_epoch : T → ℕ) (failed : List ℕ) (fine : List (PlainRow T)) → IsOneHistory decode get_epoch failed fine → (n : ℕ) (call other : PlainCall T) → IsCall fine n call → IsCall fine n other → call ≡ other
one_fine decode get_epoch failed fine good n call other = one_call fine (λ k o c begun. (good k (Begun o c) begun).next) n call other

module _ {T : Type 0} (decode : List ℕ → Option T) (get_epoch : T → ℕ) (set_epoch : T → ℕ → T) (owner : ℕ → ℕ) (fine : List (PlainRow T)) (l : Layer T) (alike : Alike owner fine l.rows) (n op : ℕ) (own : owner n ≡ op) (call : Call T) (inner : Inner T) (d : Does get_epoch fine l.rows l.asked n op call inner) (one : (c : PlainCall T) → IsCall fine n c → c ≡ fine_call call inner) (due : DueFor op inner (l.ops op)) (request : Request) where
  creates_step : (m : ℕ) (v : T) (epoch id : ℕ) (bytes : List ℕ) → inner ≡ Writes m v epoch → created request ≡ Some (id, bytes) → id ≡ m + 1 → decode bytes ≡ Some v → (m ≡ newest l.rows) ⊎ WasRemoved l.rows (m + 1) → Steps decode get_epoch set_epoch l (with_row l (Effect op request))
  creates_step m v epoch id bytes is e next reads place =
      inr (inr (inr (inl (record {
        write = record { op = op; base = m; value = v };
        asked = subst (Noted l.asked op) is d.noted;
        due = subst (λ (i : Inner T). DueFor op i (l.ops op)) is due;
        request = request;
        bytes = bytes;
        creates = e ∙ ap (λ (i : ℕ). some_version i bytes) next;
        reads = reads;
        place = place;
        new = refl;
      }))))

  append_step : (id : ℕ) (bytes : List ℕ) → created request ≡ Some (id, bytes) → Appends decode get_epoch fine n id bytes → Steps decode get_epoch set_epoch l (with_row l (Effect op request))
  append_step id bytes e a =
      let w : WritesOn decode get_epoch fine n (fine_call call inner) (newest fine) a.value = subst (λ (c : PlainCall T). WritesOn decode get_epoch fine n c (newest fine) a.value) (one a.call a.called) a.written in
      let is = writes_is decode get_epoch call inner d.first fine n (newest fine) a.value w in
      creates_step (newest fine) a.value is.0 id bytes is.1 e a.next a.reads (inl (sym (same_newest owner fine l.rows alike)))

  recreate_step : (id : ℕ) (bytes : List ℕ) → created request ≡ Some (id, bytes) → Recreates decode get_epoch fine n id bytes → Steps decode get_epoch set_epoch l (with_row l (Effect op request))
  recreate_step id bytes e r =
      let w : WritesOn decode get_epoch fine n (fine_call call inner) r.base r.value = subst (λ (c : PlainCall T). WritesOn decode get_epoch fine n c r.base r.value) (one r.call r.called) r.written in
      let is = writes_is decode get_epoch call inner d.first fine n r.base r.value w in
      let low = same_boundary owner fine l.rows alike in
      creates_step r.base r.value is.0 id bytes is.1 e r.next r.reads
      (inr (record {
        again = subst (λ (i : ℕ). has_id (versions_of l.rows) i ≡ true) r.next (rw (same_versions owner fine l.rows alike) r.again);
        erased = subst (λ (i : ℕ). was_erased l.rows i ≡ true) r.next (same_erased owner fine l.rows alike id ∙ r.erased);
        free = subst (λ (i : ℕ). is_stored l.rows i ≡ false) r.next (rw (same_stored owner fine l.rows alike) r.free);
        below = (let le = r.below in let next = r.next in omega (arith, le, low, next));
      }))

  raise_step : (to : ℕ) → raised request ≡ Some to → Raises alone fine n to → Steps decode get_epoch set_epoch l (with_row l (Effect op request))
  raise_step to e up =
      let is : call ≡ any.Plain (calls.Advance to) = is_advance call inner to (sym (one (calls.Advance to) up.called)) in
      let called : IsCall l.rows op (any.Plain (calls.Advance to)) = subst (IsCall l.rows op) is d.own in
      inr (inr (inr (inr (inl (record {
        op = op;
        number = to;
        request = request;
        has = e;
        allows = subst (λ (o : ℕ). Raises any.Plain l.rows o to) own (raises_too owner fine l.rows alike n to (subst (λ (o : ℕ). IsCall l.rows o (any.Plain (calls.Advance to))) (sym own) called) up);
        new = refl;
      })))))

  erase_step : (id : ℕ) → removed request ≡ Some id → Erases alone fine n id → Steps decode get_epoch set_epoch l (with_row l (Effect op request))
  erase_step id e gone =
      let is : call ≡ any.Plain (calls.Delete id) = is_delete call inner id (sym (one (calls.Delete id) gone.called)) in
      let called : IsCall l.rows op (any.Plain (calls.Delete id)) = subst (IsCall l.rows op) is d.own in
      inr (inr (inr (inr (inr (inl (record {
        op = op;
        number = id;
        request = request;
        has = e;
        allows = subst (λ (o : ℕ). Erases any.Plain l.rows o id) own (erases_too owner fine l.rows alike n id (subst (λ (o : ℕ). IsCall l.rows o (any.Plain (calls.Delete id))) (sym own) called) gone);
        new = refl;
      }))))))

  -- a legal effect is a step of the layer
  pub effect_step : IsLegal decode get_epoch fine n request → Steps decode get_epoch set_epoch l (with_row l (Effect op request))
  effect_step (Append id bytes creates a) = append_step id bytes creates a
  effect_step (Recreate id bytes creates r) = recreate_step id bytes creates r
  effect_step (Raise to raises r) = raise_step to raises r
  effect_step (Erase id removes r) = erase_step id removes r
