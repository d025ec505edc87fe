-- Views and operations by their numbers: what a change of one leaves of the others.
use Rattle.std.proofs.Common.{◌≡◌, ◌≢◌, ℕ, ◌≤◌, List, [], ◌∷◌, ◌++◌, ◌==◌, Option, Some, None, inl, inr, refl, sym, ◌∙◌, ap, subst}
use Rattle.std.proofs.lemmas.Bool.{cases_Bool, eqb-true, eq-eqb, ne_eqb}
use Rattle.std.proofs.lemmas.Option.{same_Some}
use Rattle.txn_history.specs.History.{boundary}
use Rattle.txn_history.proofs.Rows.{row_op}
use Rattle.txn_history.proofs.More.{ends_other}
use Rattle.txn_history.specs.Trace.{Row}
use Rattle.txn_history.specs.Calls.{view_used}
use Rattle.txn_history.specs.Views.{ViewFits}
use Rattle.txn_machine.specs.views.Layer.{Used, Operation, Layer, set_at, set_used}
use Rattle.txn_machine.proofs.views.History.{entry_within}
use Rattle.txn_machine.proofs.views.Stands.{Uses, OpStands, OpAt, ViewAt, Stands}
use Rattle.txn_machine.proofs.views.Frames.{other_row, AreKnown, op_more}

pub set_here : {A : Type 0} (table : ℕ → Option A) (place : ℕ) (new : Option A) → set_at table place new place ≡ new
set_here table place new = rw (eq-eqb place place refl) refl

pub set_other : {A : Type 0} (table : ℕ → Option A) (place : ℕ) (new : Option A) (n : ℕ) → n ≢ place → set_at table place new n ≡ table n
set_other table place new n ne = rw (ne_eqb n place ne) refl

module _ {T : Type 0} where
  -- an operation's own view is left as it is
  abbrev pub Leaves : (ℕ → Option (Used T)) → (ℕ → Option (Used T)) → ℕ → Type 0
  Leaves old new op = (number : ℕ) (used : Used T) → old number ≡ Some used → used.busy ≡ Some op → new number ≡ Some used

  uses_leaves : (rows : List (Row T)) (old new : ℕ → Option (Used T)) (op : ℕ) (o : Operation T) → Leaves old new op → (number : Option ℕ) → Uses rows old op o number → Uses rows new op o number
  uses_leaves rows old new op o f None h = tt
  uses_leaves rows old new op o f (Some number) h = record { used = h.used; there = f number h.used h.there h.busy; busy = h.busy; client = h.client; kind = h.kind; least = h.least }

  -- the views after one is set: those of other operations are left
  pub set_leaves : (views : ℕ → Option (Used T)) (number n : ℕ) (new : Option (Used T)) → ((used : Used T) → views number ≡ Some used → used.busy ≡ Some n → ⊥) → Leaves views (set_at views number new) n
  set_leaves views number n new apart i used e busy =
      elim (cases_Bool (i == number)) [
        | inl h ↦ absurd (apart used (ap views (sym (eqb-true i number h)) ∙ e) busy)
        | inr h ↦ rw h e
      ]

  pub used_leaves : (views : ℕ → Option (Used T)) (n : ℕ) (number : Option ℕ) (new : Option (Used T)) → ((i : ℕ) (used : Used T) → number ≡ Some i → views i ≡ Some used → used.busy ≡ Some n → ⊥) → Leaves views (set_used views number new) n
  used_leaves views n None new apart i used e busy = e
  used_leaves views n (Some number) new apart i used e busy = set_leaves views number n new (λ u. apart number u refl) i used e busy

  -- the operation alone is busy with its view
  pub alone : (rows : List (Row T)) (views : ℕ → Option (Used T)) (op n : ℕ) (o : Operation T) → n ≢ op → (number : Option ℕ) → Uses rows views op o number → (i : ℕ) (used : Used T) → number ≡ Some i → views i ≡ Some used → used.busy ≡ Some n → ⊥
  alone rows views op n o ne None h i used e there busy = cc
  alone rows views op n o ne (Some number) h i used e there busy =
      let same : number ≡ i = same_Some number i e in
      let both : Some h.used ≡ Some used = sym h.there ∙ (ap views same ∙ there) in
      let busy_same = ap (λ (u : Used T). u.busy) (same_Some h.used used both) in
      let ops : Some op ≡ Some n = sym h.busy ∙ (busy_same ∙ busy) in
      ne (sym (same_Some op n ops))

module _ {T : Type 0} (decode : List ℕ → Option T) (get_epoch : T → ℕ) (set_epoch : T → ℕ → T) where
  pub view_of : (s : Layer T) → Stands decode get_epoch set_epoch s → (number : ℕ) (used : Used T) → s.views number ≡ Some used → (number ≤ s.count) × ViewFits decode get_epoch s.rows number used.view
  view_of s st number used e = subst (λ (x : Option (Used T)). ViewAt decode get_epoch set_epoch s.rows s.count number x) e (st.views number)

  pub op_of : (s : Layer T) → Stands decode get_epoch set_epoch s → (op : ℕ) (o : Operation T) → s.ops op ≡ Some o → OpStands decode get_epoch set_epoch s.rows s.views op o
  op_of s st op o e = subst (λ (x : Option (Operation T)). OpAt decode get_epoch set_epoch s.rows s.views op x) e (st.ops op)

  pub known_of : (s : Layer T) → Stands decode get_epoch set_epoch s → AreKnown s.rows s.views
  known_of s st number used e = (let h = (view_of s st number used e).1 in (entry_within decode get_epoch set_epoch s.failed s.rows used.view.id used.view.object h.object).1)

  -- an operation of a number that was not given out is none
  pub numbered : (s : Layer T) → Stands decode get_epoch set_epoch s → (op n : ℕ) (o : Operation T) → s.ops op ≡ Some o → s.next ≤ n → n ≢ op
  numbered s st op n o e le same = (let gone = (st.fresh n le).1 in let clash : None ≡ Some o = sym gone ∙ (ap s.ops same ∙ e) in cc)

  -- the view that an operation uses was given out
  pub used_known : (s : Layer T) → Stands decode get_epoch set_epoch s → (op : ℕ) (o : Operation T) (number : Option ℕ) → Uses s.rows s.views op o number → (i : ℕ) → number ≡ Some i → i ≤ s.count
  used_known s st op o None h i e = cc
  used_known s st op o (Some number) h i e = subst (λ (n : ℕ). n ≤ s.count) (same_Some number i e) (view_of s st number h.used h.there).0

  pub op_leaves : (rows : List (Row T)) (old new : ℕ → Option (Used T)) (op : ℕ) → Leaves old new op → (x : Option (Operation T)) → OpAt decode get_epoch set_epoch rows old op x → OpAt decode get_epoch set_epoch rows new op x
  op_leaves rows old new op f None h = tt
  op_leaves rows old new op f (Some o) h = record { called = h.called; begun = h.begun; once = h.once; inner = h.inner; uses = uses_leaves rows old new op o f (view_used o.call) h.uses }

  -- a row of another operation
  pub op_row : (rows : List (Row T)) (row : Row T) (views : ℕ → Option (Used T)) → boundary rows ≤ boundary (rows ++ row ∷ []) → AreKnown rows views → (op : ℕ) → row_op row ≢ op → (x : Option (Operation T)) → OpAt decode get_epoch set_epoch rows views op x → OpAt decode get_epoch set_epoch (rows ++ row ∷ []) views op x
  op_row rows row views up k op ne None h = tt
  op_row rows row views up k op ne (Some o) h = op_more decode get_epoch set_epoch rows row views up k op o (ends_other op row ne) (λ _. other_row row op ne) h
