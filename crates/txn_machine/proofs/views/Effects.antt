-- Effects: a write that is due is legal where it takes effect, and each legal effect keeps the layer.
use Rattle.std.proofs.Common.{◌≡◌, ℕ, ◌+◌, ◌≤◌, List, [], ◌∷◌, ◌++◌, Bool, true, false, cond, Option, Some, None, ◌⊎◌, inl, inr, refl, sym, ◌∙◌, ap, subst, arith}
use Rattle.std.proofs.lemmas.Bool.{cases_eq, both_ways}
use Rattle.txn_store.specs.Paths.{Segments}
use Rattle.txn_store.specs.declared.request.Request.{Request}
use Rattle.txn_store.specs.declared.request.Request.TheVariants as requests
use Rattle.txn_store.specs.declared.store.PutMode.{PutMode}
use Rattle.txn_store.specs.types.BoundaryText.{boundary_read}
use Rattle.txn_history.specs.declared.trace.RowOf.TheVariants.{Effect}
use Rattle.txn_history.specs.History.{Version, is_boundary, created, raised, removed, newest, boundary}
use Rattle.txn_history.specs.Calls.{begins, ends}
use Rattle.txn_history.proofs.Lists.{any_false}
use Rattle.txn_history.proofs.More.{begun_count-more}
use Rattle.txn_history.proofs.Legal.{raised_creates, removed_creates}
use Rattle.txn_history.specs.declared.event.ViewCall.TheVariants as view_calls
use Rattle.txn_history.specs.declared.event.Call.{Call}
use Rattle.txn_history.specs.declared.event.Call.TheVariants as any
use Rattle.txn_history.specs.Trace.{Row}
use Rattle.txn_history.specs.Views.{view_count}
use Rattle.txn_history.specs.OneHistory.{WritesOn, MayAppend, IsLegal, IsOneHistory}
use Rattle.txn_history.specs.Effects.{Appends, Recreates, Append, Recreate, Raise, Erase}
use Rattle.txn_machine.specs.views.Layer.{Operation, Asked, Layer, with_row}
use Rattle.txn_machine.specs.views.Steps.{IsAsked, IsDue, WasRemoved, Creates, Advances, Removes}
use Rattle.txn_machine.proofs.views.History.{one_history-more, boundary_up, top_epoch}
use Rattle.txn_machine.proofs.views.Stands.{MayWrite, WriteStands, OpAt, AskedStand, Stands}
use Rattle.txn_machine.proofs.views.Frames.{NotBy, is_write, count_more, view_at_more, unseen_more, asked_more, op_more}
use Rattle.txn_machine.proofs.views.Tables.{op_of, known_of, op_row}
use Rattle.txn_machine.proofs.views.Turns.{count_same}

module _ {T : Type 0} where
  -- a request that creates nothing makes no entry
  makes_none : (op o : ℕ) (request : Request) → created request ≡ None → NotBy {T = T} (Effect o request) op
  makes_none op o request none other n bytes same creates =
      let is : request ≡ other = cc in
      let clash = sym none ∙ (ap created is ∙ creates) in
      cc

module _ {T : Type 0} (decode : List ℕ → Option T) (get_epoch : T → ℕ) (set_epoch : T → ℕ → T) where
  -- what an effect owes of its own operation: it makes an entry where that writes, if it runs
  abbrev MakesOwn : Layer T → ℕ → Request → Type 0
  MakesOwn s op request = (o : Operation T) → s.ops op ≡ Some o → is_write o.inner ≡ false → NotBy {T = T} (Effect op request) op

  own_op : (s : Layer T) (op : ℕ) (request : Request) → Stands decode get_epoch set_epoch s → boundary s.rows ≤ boundary (s.rows ++ Effect op request ∷ []) → MakesOwn s op request → (x : Option (Operation T)) → s.ops op ≡ x → OpAt decode get_epoch set_epoch (s.rows ++ Effect op request ∷ []) s.views op x
  own_op s op request st up mine None e = tt
  own_op s op request st up mine (Some o) e = op_more decode get_epoch set_epoch s.rows (Effect op request) s.views up (known_of decode get_epoch set_epoch s st) op o refl (mine o e) (op_of decode get_epoch set_epoch s st op o e)

  -- a legal effect keeps the layer
  pub effect_keeps : (s : Layer T) (op : ℕ) (request : Request) → Stands decode get_epoch set_epoch s → IsLegal decode get_epoch set_epoch s.rows op request → MakesOwn s op request → Stands decode get_epoch set_epoch (with_row s (Effect op request))
  effect_keeps s op request st legal mine =
      let row : Row T = Effect op request in
      let good = one_history-more decode get_epoch set_epoch s.failed s.rows row st.good legal in
      let up = boundary_up decode get_epoch set_epoch s.failed s.rows row good in
      let k = known_of decode get_epoch set_epoch s st in
      record {
        good = good;
        count = count_same s.count (view_count s.rows) 0 (view_count (s.rows ++ row ∷ [])) (count_more s.rows row) st.count (omega arith);
        views = λ number. view_at_more decode get_epoch set_epoch s.rows row s.count s.count number (omega arith) (s.views number) (refl, refl) (st.views number);
        ops = λ n. elim (cases_eq n op) [
          | inl same ↦ subst (λ (i : ℕ). OpAt decode get_epoch set_epoch (s.rows ++ row ∷ []) s.views i (s.ops i)) (sym same) (own_op s op request st up mine (s.ops op) refl)
          | inr apart ↦ op_row decode get_epoch set_epoch s.rows row s.views up k n (λ e. apart (sym e)) (s.ops n) (st.ops n)
        ];
        asked = asked_more decode get_epoch set_epoch s.rows row s.asked st.asked;
        unseen = λ number le. unseen_more s.rows row number (refl, refl) (st.unseen number le);
        begun = st.begun ∙ ap (λ (n : ℕ). n + 1) (sym (begun_count-more s.rows row refl));
        fresh = λ n le. (let f = st.fresh n le in (record { begun = any_false (begins n) s.rows row f.0.begun refl; running = any_false (ends n) s.rows row f.0.running refl }, f.1));
      }

  -- a write that is due

  asked_in : (rows : List (Row T)) (write : Asked T) (asked : List (Asked T)) → IsAsked write asked → AskedStand decode get_epoch set_epoch rows asked → (call : Call T) × WriteStands decode get_epoch set_epoch rows write.op call write.base write.value
  asked_in rows write [] i h = absurd i
  asked_in rows write (other ∷ rest) (inl e) h = subst (λ (w : Asked T). (call : Call T) × WriteStands decode get_epoch set_epoch rows w.op call w.base w.value) e h.0
  asked_in rows write (other ∷ rest) (inr i) h = asked_in rows write rest i h.1

  -- no entry has an epoch above a holder's that writes on the newest
  may_append : (failed : List ℕ) (rows : List (Row T)) → IsOneHistory decode get_epoch set_epoch failed rows → (call : Call T) → MayWrite decode get_epoch set_epoch rows call (newest rows) → MayAppend decode get_epoch set_epoch rows call
  may_append failed rows good (any.View (view_calls.HolderUpdate number v)) h =
      record { epoch = h.epoch; holder = h.holder; keeps = h.keeps; none_above = λ id. (let top = top_epoch decode get_epoch set_epoch failed rows good id in let below = h.below in omega (arith, top, below)) }
  may_append failed rows good _ h = tt

  appends : (failed : List ℕ) (rows : List (Row T)) → IsOneHistory decode get_epoch set_epoch failed rows → (op base : ℕ) (call : Call T) (value : T) (bytes : List ℕ) → WriteStands decode get_epoch set_epoch rows op call base value → decode bytes ≡ Some value → base ≡ newest rows → Appends decode get_epoch (WritesOn decode get_epoch set_epoch) (MayAppend decode get_epoch set_epoch) rows op (base + 1) bytes
  appends failed rows good op base call value bytes w reads e =
      let w' : WriteStands decode get_epoch set_epoch rows op call (newest rows) value = subst (λ (n : ℕ). WriteStands decode get_epoch set_epoch rows op call n value) e w in
      record { call = call; called = w.called; value = value; reads = reads; next = ap (λ (n : ℕ). n + 1) e; written = w'.written; rises = w'.rises; unfenced = may_append failed rows good call w'.may }

  recreates : (rows : List (Row T)) (op base : ℕ) (call : Call T) (value : T) (bytes : List ℕ) → WriteStands decode get_epoch set_epoch rows op call base value → decode bytes ≡ Some value → WasRemoved rows (base + 1) → Recreates decode get_epoch (WritesOn decode get_epoch set_epoch) (MayAppend decode get_epoch set_epoch) rows op (base + 1) bytes
  recreates rows op base call value bytes w reads r = record { call = call; called = w.called; value = value; reads = reads; base = base; next = refl; written = w.written; again = r.again; erased = r.erased; free = r.free; below = r.below }

  create_legal : (s : Layer T) → Stands decode get_epoch set_epoch s → (write : Asked T) → IsAsked write s.asked → (request : Request) (bytes : List ℕ) → created request ≡ Some (write.base + 1, bytes) → decode bytes ≡ Some write.value → (write.base ≡ newest s.rows) ⊎ WasRemoved s.rows (write.base + 1) → IsLegal decode get_epoch set_epoch s.rows write.op request
  create_legal s st write asked request bytes creates reads place =
      let a = asked_in s.rows write s.asked asked st.asked in
      elim place [
        | inl next ↦ Append (write.base + 1) bytes creates (appends s.failed s.rows st.good write.op write.base a.0 write.value bytes a.1 reads next)
        | inr gone ↦ Recreate (write.base + 1) bytes creates (recreates s.rows write.op write.base a.0 write.value bytes a.1 reads gone)
      ]

  due_writes : (s : Layer T) (write : Asked T) → IsDue write (s.ops write.op) → (o : Operation T) → s.ops write.op ≡ Some o → is_write o.inner ≡ true
  due_writes s write due o e = by (subst (IsDue write) e due)
    where
      by : IsDue write (Some o) → is_write o.inner ≡ true
      by d = ap is_write d.1

  pub create_keeps : (s after : Layer T) → Stands decode get_epoch set_epoch s → Creates decode get_epoch set_epoch s after → Stands decode get_epoch set_epoch after
  create_keeps s after st c =
      subst (Stands decode get_epoch set_epoch) (sym c.new)
      (effect_keeps s c.write.op c.request st (create_legal s st c.write c.asked c.request c.bytes c.creates c.reads c.place)
      (λ o e none. absurd (both_ways (is_write o.inner) none (due_writes s c.write c.due o e))))

  pub advance_keeps : (s after : Layer T) → Stands decode get_epoch set_epoch s → Advances s after → Stands decode get_epoch set_epoch after
  advance_keeps s after st a =
      subst (Stands decode get_epoch set_epoch) (sym a.new)
      (effect_keeps s a.op a.request st (Raise a.number a.has a.allows) (λ o e none. makes_none a.op a.op a.request (raised_creates a.request a.number a.has)))

  pub remove_keeps : (s after : Layer T) → Stands decode get_epoch set_epoch s → Removes s after → Stands decode get_epoch set_epoch after
  remove_keeps s after st r =
      subst (Stands decode get_epoch set_epoch) (sym r.new)
      (effect_keeps s r.op r.request st (Erase r.number r.has r.allows) (λ o e none. makes_none r.op r.op r.request (removed_creates r.request r.number r.has)))
