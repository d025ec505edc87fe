-- Give-ups and crashes keep the layer.
use Rattle.std.proofs.Common.{◌≡◌, ℕ, List, Bool, true, false, ◌==◌, if◌then◌else◌, Option, Some, None, inl, inr, refl, sym, ◌∙◌, subst}
use Rattle.std.proofs.lemmas.Bool.{cases_Bool, eqb-true, eqb-false}
use Rattle.txn_history.specs.Trace.{Row}
use Rattle.txn_history.specs.Calls.{view_used}
use Rattle.txn_machine.specs.views.Layer.{Used, Operation, Layer, Keeps, Closes, look_up, changed, set_used}
use Rattle.txn_machine.specs.views.Parts.{is_claim_call}
use Rattle.txn_machine.specs.views.Steps.{view_without, op_without, GivesUp, Crashes}
use Rattle.txn_machine.proofs.views.Stands.{Uses, OpStands, OpAt, ViewAt, Stands}
use Rattle.txn_machine.proofs.views.Tables.{set_other, used_leaves, alone, op_of, numbered, op_leaves}

module _ {T : Type 0} where
  -- a client that does not crash keeps its views
  crash_uses : (rows : List (Row T)) (views : ℕ → Option (Used T)) (client op : ℕ) (o : Operation T) → (o.client == client) ≡ false → (number : Option ℕ) → Uses rows views op o number → Uses rows (λ n. view_without client (views n)) op o number
  crash_uses rows views client op o e None h = tt
  crash_uses rows views client op o e (Some number) h =
      record {
        used = h.used;
        there = rw h.there (rw (subst (λ (c : ℕ). (c == client) ≡ false) (sym h.client) e) refl);
        busy = h.busy;
        client = h.client;
        kind = h.kind;
        least = h.least;
      }

module _ {T : Type 0} (decode : List ℕ → Option T) (get_epoch : T → ℕ) (set_epoch : T → ℕ → T) where
  closed_at : (rows : List (Row T)) (count number : ℕ) (used : Option (Used T)) (closes : Bool) → ViewAt decode get_epoch set_epoch rows count number used → ViewAt decode get_epoch set_epoch rows count number (changed used (if closes then Closes else Keeps))
  closed_at rows count number None true h = tt
  closed_at rows count number None false h = tt
  closed_at rows count number (Some used) true h = tt
  closed_at rows count number (Some used) false h = h

  closed_views : (rows : List (Row T)) (views : ℕ → Option (Used T)) (count : ℕ) (closes : Bool) → ((number : ℕ) → ViewAt decode get_epoch set_epoch rows count number (views number)) → (used : Option ℕ) (number : ℕ) → ViewAt decode get_epoch set_epoch rows count number (set_used views used (changed (look_up views used) (if closes then Closes else Keeps)) number)
  closed_views rows views count closes all None number = all number
  closed_views rows views count closes all (Some i) number =
      elim (cases_Bool (number == i)) [
        | inl h ↦ rw h (let same : number ≡ i = eqb-true number i h in closed_at rows count number (views i) closes (subst (λ (n : ℕ). ViewAt decode get_epoch set_epoch rows count number (views n)) same (all number)))
        | inr h ↦ rw h (all number)
      ]

  pub give_up_keeps : (s after : Layer T) → Stands decode get_epoch set_epoch s → GivesUp s after → Stands decode get_epoch set_epoch after
  give_up_keeps s after st g =
      let op = g.op in
      let own = op_of decode get_epoch set_epoch s st op g.o g.runs in
      let new = changed (look_up s.views (view_used g.o.call)) (if is_claim_call g.o.call then Closes else Keeps) in
      subst (Stands decode get_epoch set_epoch) (sym g.new)
      (record {
        good = st.good;
        count = st.count;
        views = closed_views s.rows s.views s.count (is_claim_call g.o.call) st.views (view_used g.o.call);
        ops = λ n. elim (cases_Bool (n == op)) [
          | inl q ↦ rw q tt
          | inr q ↦ rw q (op_leaves decode get_epoch set_epoch s.rows s.views (set_used s.views (view_used g.o.call) new) n (used_leaves s.views n (view_used g.o.call) new (alone s.rows s.views op n g.o (eqb-false n op q) (view_used g.o.call) own.uses)) (s.ops n) (st.ops n))
        ];
        asked = st.asked;
        unseen = st.unseen;
        begun = st.begun;
        fresh = λ n le. (let ne = numbered decode get_epoch set_epoch s st op n g.o g.runs le in let f = st.fresh n le in (f.0, set_other s.ops op None n ne ∙ f.1));
      })

  crashed_view : (rows : List (Row T)) (count number client : ℕ) (used : Option (Used T)) → ViewAt decode get_epoch set_epoch rows count number used → ViewAt decode get_epoch set_epoch rows count number (view_without client used)
  crashed_view rows count number client None h = tt
  crashed_view rows count number client (Some used) h = elim (cases_Bool (used.view.client == client)) [ inl e ↦ rw e tt | inr e ↦ rw e h ]

  crashed_op : (rows : List (Row T)) (views : ℕ → Option (Used T)) (client op : ℕ) (o : Option (Operation T)) → OpAt decode get_epoch set_epoch rows views op o → OpAt decode get_epoch set_epoch rows (λ n. view_without client (views n)) op (op_without client o)
  crashed_op rows views client op None h = tt
  crashed_op rows views client op (Some o) h =
      elim (cases_Bool (o.client == client)) [
        | inl e ↦ rw e tt
        | inr e ↦ rw e (by e)
      ]
    where
      by : (o.client == client) ≡ false → OpStands decode get_epoch set_epoch rows (λ n. view_without client (views n)) op o
      by e = record { called = h.called; begun = h.begun; once = h.once; inner = h.inner; uses = crash_uses rows views client op o e (view_used o.call) h.uses }

  pub crash_keeps : (s after : Layer T) → Stands decode get_epoch set_epoch s → Crashes s after → Stands decode get_epoch set_epoch after
  crash_keeps s after st c =
      subst (Stands decode get_epoch set_epoch) (sym c.new)
      (record {
        good = st.good;
        count = st.count;
        views = λ number. crashed_view s.rows s.count number c.client (s.views number) (st.views number);
        ops = λ op. crashed_op s.rows s.views c.client op (s.ops op) (st.ops op);
        asked = st.asked;
        unseen = st.unseen;
        begun = st.begun;
        fresh = λ n le. (let f = st.fresh n le in (f.0, rw f.1 refl));
      })
