-- What an operation does next keeps the layer, whatever its call is: it owes only that what it does next stands.
use Rattle.std.proofs.Common.{◌≡◌, ◌≢◌, ℕ, ◌+◌, ◌<◌, ◌≤◌, max, List, [], ◌∷◌, ◌++◌, true, ◌==◌, Option, Some, None, inl, inr, refl, sym, ◌∙◌, ap, subst, arith}
use Rattle.std.proofs.lemmas.Bool.{cases_Bool, eqb-true, eqb-false, eq-eqb, ne_eqb}
use Rattle.std.proofs.lemmas.Option.{same_Some}
use Rattle.txn_history.specs.declared.trace.RowOf.TheVariants.{Answered}
use Rattle.txn_history.specs.History.{IsEntry}
use Rattle.txn_history.proofs.More.{begun_count-more}
use Rattle.txn_history.specs.declared.event.Call.{Call}
use Rattle.txn_history.specs.declared.event.Answer.{Answer}
use Rattle.txn_history.specs.declared.event.Answer.TheVariants as answers
use Rattle.txn_history.specs.Trace.{Row}
use Rattle.txn_history.specs.Calls.{view_used}
use Rattle.txn_history.specs.Views.{id_shown, epoch_shown, view_count}
use Rattle.txn_history.specs.OneHistory.{Answers, IsOneHistory}
use Rattle.txn_history.proofs.Holders.{last_more, first_more}
use Rattle.txn_machine.specs.views.Layer.{Used, Inner, Starts, Writes, Reads, Acts, Operation, Asked, Layer, Change, Next, Goes, Ends, Opens, look_up, changed, new_view, set_at, set_used, noted, turned}
use Rattle.txn_machine.proofs.views.History.{one_history-more, boundary_up}
use Rattle.txn_machine.proofs.views.Stands.{Uses, InnerStands, OpStands, AskedStand, ViewAt, Stands, Quiet, IsUnseen, shown_by, EndStands, OpenStands, NextStands}
use Rattle.txn_machine.proofs.views.Frames.{count_more, entry_kept, view_at_more, unseen_more, asked_more, fresh_more}
use Rattle.txn_machine.proofs.views.Tables.{set_other, set_leaves, used_leaves, alone, view_of, op_of, known_of, numbered, used_known, op_leaves, op_row}

pub count_same : (count more shown all : ℕ) → all ≡ max more shown → count ≡ more → shown ≤ count → count ≡ all
count_same count more shown all is e le = omega (arith, is, e, le)

count_one : (count more all : ℕ) → all ≡ max more (count + 1) → count ≡ more → count + 1 ≡ all
count_one count more all is e = omega (arith, is, e)

module _ {T : Type 0} (decode : List ℕ → Option T) (get_epoch : T → ℕ) (set_epoch : T → ℕ → T) where
  -- an answer that fits keeps one history
  answer_good : (s : Layer T) (op : ℕ) (answer : Answer T) → IsOneHistory decode get_epoch set_epoch s.failed s.rows → Answers decode get_epoch s.failed s.rows op answer → IsOneHistory decode get_epoch set_epoch s.failed (s.rows ++ Answered op answer ∷ [])
  answer_good s op answer good a = one_history-more decode get_epoch set_epoch s.failed s.rows (Answered op answer) good a

  ends_views : (rows : List (Row T)) (views : ℕ → Option (Used T)) (count op : ℕ) (answer : Answer T) (change : Change T) → ((number : ℕ) → ViewAt decode get_epoch set_epoch rows count number (views number)) → (used : Option ℕ) → ((number : ℕ) → used ≢ Some number → Quiet (Answered op answer) number) →
      ((number : ℕ) → used ≡ Some number → ViewAt decode get_epoch set_epoch (rows ++ Answered op answer ∷ []) count number (changed (views number) change)) → (number : ℕ) → ViewAt decode get_epoch set_epoch (rows ++ Answered op answer ∷ []) count number (set_used views used (changed (look_up views used) change) number)
  ends_views rows views count op answer change all None quiet own number = view_at_more decode get_epoch set_epoch rows (Answered op answer) count count number (omega arith) (views number) (quiet number (λ e. cc)) (all number)
  ends_views rows views count op answer change all (Some i) quiet own number =
      elim (cases_Bool (number == i)) [
        | inl h ↦ rw h (let same : number ≡ i = eqb-true number i h in subst (λ (n : ℕ). ViewAt decode get_epoch set_epoch (rows ++ Answered op answer ∷ []) count n (changed (views i) change)) (sym same) (own i refl))
        | inr h ↦ rw h (view_at_more decode get_epoch set_epoch rows (Answered op answer) count count number (omega arith) (views number) (quiet number (λ e. eqb-false number i h (sym (same_Some i number e)))) (all number))
      ]

  turn_ends : (s : Layer T) (op : ℕ) (o : Operation T) (answer : Answer T) (change : Change T) → Stands decode get_epoch set_epoch s → s.ops op ≡ Some o → EndStands decode get_epoch set_epoch s.failed s.rows s.views s.count op o answer change → Stands decode get_epoch set_epoch (turned s op o (Ends answer change))
  turn_ends s op o answer change st e h =
      let own = op_of decode get_epoch set_epoch s st op o e in
      let row : Row T = Answered op answer in
      let good = answer_good s op answer st.good (record { call = o.call; called = own.called; once = own.once; fits = h.fits }) in
      let up = boundary_up decode get_epoch set_epoch s.failed s.rows row good in
      let k = known_of decode get_epoch set_epoch s st in
      let new = changed (look_up s.views (view_used o.call)) change in
      record {
        good = good;
        count = count_same s.count (view_count s.rows) (shown_by answer) (view_count (s.rows ++ row ∷ [])) (count_more s.rows row) st.count h.known;
        views = ends_views s.rows s.views s.count op answer change st.views (view_used o.call) h.quiet h.own;
        ops = λ n. elim (cases_Bool (n == op)) [
          | inl q ↦ rw q tt
          | inr q ↦ rw q (op_leaves decode get_epoch set_epoch (s.rows ++ row ∷ []) s.views (set_used s.views (view_used o.call) new) n
              (used_leaves s.views n (view_used o.call) new (alone s.rows s.views op n o (eqb-false n op q) (view_used o.call) own.uses))
              (s.ops n) (op_row decode get_epoch set_epoch s.rows row s.views up k n (λ x. eqb-false n op q (sym x)) (s.ops n) (st.ops n)))
        ];
        asked = asked_more decode get_epoch set_epoch s.rows row s.asked st.asked;
        unseen = λ number le. unseen_more s.rows row number (h.quiet number (λ q. absurd (omega (arith, used_known decode get_epoch set_epoch s st op o (view_used o.call) own.uses number q, le)))) (st.unseen number le);
        begun = st.begun ∙ ap (λ (n : ℕ). n + 1) (sym (begun_count-more s.rows row refl));
        fresh = λ n le. (let ne = numbered decode get_epoch set_epoch s st op n o e le in let f = st.fresh n le in (fresh_more s.rows row n (λ x. ne (sym x)) f.0, set_other s.ops op None n ne ∙ f.1));
      }

  -- a new view

  quiet_other : (op count id : ℕ) (value : T) (number : ℕ) → number ≢ count + 1 → Quiet (Answered op (answers.View (count + 1) id value)) number
  quiet_other op count id value number ne = (rw (ne_eqb (count + 1) number (λ e. ne (sym e))) refl, refl)

  open_views : (rows : List (Row T)) (views : ℕ → Option (Used T)) (count op client id : ℕ) (value : T) → ((number : ℕ) → ViewAt decode get_epoch set_epoch rows count number (views number)) → ((number : ℕ) → count < number → IsUnseen rows number) → IsEntry decode rows id value → (number : ℕ) →
      ViewAt decode get_epoch set_epoch (rows ++ Answered op (answers.View (count + 1) id value) ∷ []) (count + 1) number (set_at views (count + 1) (Some (new_view client id value)) number)
  open_views rows views count op client id value all unseen there number =
      let row : Row T = Answered op (answers.View (count + 1) id value) in
      elim (cases_Bool (number == count + 1)) [
        | inl h ↦ rw h (
            let same : number ≡ count + 1 = eqb-true number (count + 1) h in (
              omega (arith, same),
              record {
                object = entry_kept decode get_epoch set_epoch rows row id value there;
                shown = id;
                last = last_more (id_shown number) None rows row ∙ rw (subst (λ (n : ℕ). (count + 1 == n) ≡ true) (sym same) (eq-eqb (count + 1) (count + 1) refl)) refl;
                stands = inl refl;
                epoch = sym (first_more (epoch_shown number) rows row ∙ rw (unseen number (omega (arith, same))).1 refl);
              },
            )
            )
        | inr h ↦ rw h (view_at_more decode get_epoch set_epoch rows row count (count + 1) number (omega arith) (views number) (quiet_other op count id value number (eqb-false number (count + 1) h)) (all number))
      ]

  turn_opens : (s : Layer T) (op : ℕ) (o : Operation T) (id : ℕ) (value : T) → Stands decode get_epoch set_epoch s → s.ops op ≡ Some o → OpenStands decode get_epoch set_epoch s.failed s.rows s.count op o id value → Stands decode get_epoch set_epoch (turned s op o (Opens id value))
  turn_opens s op o id value st e h =
      let own = op_of decode get_epoch set_epoch s st op o e in
      let answer : Answer T = answers.View (s.count + 1) id value in
      let row : Row T = Answered op answer in
      let good = answer_good s op answer st.good (record { call = o.call; called = own.called; once = own.once; fits = h.fits }) in
      let up = boundary_up decode get_epoch set_epoch s.failed s.rows row good in
      let k = known_of decode get_epoch set_epoch s st in
      let new = new_view o.client id value in
      record {
        good = good;
        count = count_one s.count (view_count s.rows) (view_count (s.rows ++ row ∷ [])) (count_more s.rows row) st.count;
        views = open_views s.rows s.views s.count op o.client id value st.views st.unseen h.object;
        ops = λ n. elim (cases_Bool (n == op)) [
          | inl q ↦ rw q tt
          | inr q ↦ rw q (op_leaves decode get_epoch set_epoch (s.rows ++ row ∷ []) s.views (set_at s.views (s.count + 1) (Some new)) n
              (set_leaves s.views (s.count + 1) n (Some new) (λ used there busy. absurd (omega (arith, (view_of decode get_epoch set_epoch s st (s.count + 1) used there).0))))
              (s.ops n) (op_row decode get_epoch set_epoch s.rows row s.views up k n (λ x. eqb-false n op q (sym x)) (s.ops n) (st.ops n)))
        ];
        asked = asked_more decode get_epoch set_epoch s.rows row s.asked st.asked;
        unseen = λ number le. unseen_more s.rows row number (quiet_other op s.count id value number (λ same. absurd (omega (arith, le, same)))) (st.unseen number (omega (arith, le)));
        begun = st.begun ∙ ap (λ (n : ℕ). n + 1) (sym (begun_count-more s.rows row refl));
        fresh = λ n le. (let ne = numbered decode get_epoch set_epoch s st op n o e le in let f = st.fresh n le in (fresh_more s.rows row n (λ x. ne (sym x)) f.0, set_other s.ops op None n ne ∙ f.1));
      }

  -- a write or a read

  uses_as : (rows : List (Row T)) (views : ℕ → Option (Used T)) (op : ℕ) (o : Operation T) (inner : Inner T) (number : Option ℕ) → Uses rows views op o number → Uses rows views op (record { client = o.client; call = o.call; inner = inner }) number
  uses_as rows views op o inner None h = tt
  uses_as rows views op o inner (Some number) h = record { used = h.used; there = h.there; busy = h.busy; client = h.client; kind = h.kind; least = h.least }

  noted_stand : (rows : List (Row T)) (op : ℕ) (call : Call T) (inner : Inner T) (asked : List (Asked T)) → InnerStands decode get_epoch set_epoch rows op call inner → AskedStand decode get_epoch set_epoch rows asked → AskedStand decode get_epoch set_epoch rows (noted op inner asked)
  noted_stand rows op call (Writes base value epoch) asked h a = ((call, h.0), a)
  noted_stand rows op call Reads asked h a = a
  noted_stand rows op call Starts asked h a = a
  noted_stand rows op call Acts asked h a = a

  inner_of : (s : Layer T) (op : ℕ) (o : Operation T) (inner : Inner T) → NextStands decode get_epoch set_epoch s.failed s.rows s.views s.count op o (Goes inner) → InnerStands decode get_epoch set_epoch s.rows op o.call inner
  inner_of s op o (Writes base value epoch) h = h.0
  inner_of s op o Reads h = h
  inner_of s op o Starts h = absurd h
  inner_of s op o Acts h = tt

  turn_goes : (s : Layer T) (op : ℕ) (o : Operation T) (inner : Inner T) → Stands decode get_epoch set_epoch s → s.ops op ≡ Some o → InnerStands decode get_epoch set_epoch s.rows op o.call inner → Stands decode get_epoch set_epoch (turned s op o (Goes inner))
  turn_goes s op o inner st e h =
      let own = op_of decode get_epoch set_epoch s st op o e in
      let new : Operation T = record { client = o.client; call = o.call; inner = inner } in
      record {
        good = st.good;
        count = st.count;
        views = st.views;
        ops = λ n. elim (cases_Bool (n == op)) [
          | inl q ↦ rw q (
              let same : n ≡ op = eqb-true n op q in
              let now : OpStands decode get_epoch set_epoch s.rows s.views op new = record { called = own.called; begun = own.begun; once = own.once; inner = h; uses = uses_as s.rows s.views op o inner (view_used o.call) own.uses } in
              subst (λ (i : ℕ). OpStands decode get_epoch set_epoch s.rows s.views i new) (sym same) now
              )
          | inr q ↦ rw q (st.ops n)
        ];
        asked = noted_stand s.rows op o.call inner s.asked h st.asked;
        unseen = st.unseen;
        begun = st.begun;
        fresh = λ n le. (let ne = numbered decode get_epoch set_epoch s st op n o e le in let f = st.fresh n le in (f.0, set_other s.ops op (Some new) n ne ∙ f.1));
      }

  -- where it stands, what an operation does next keeps the layer
  pub turn_keeps : (s : Layer T) (op : ℕ) (o : Operation T) (next : Next T) → Stands decode get_epoch set_epoch s → s.ops op ≡ Some o → NextStands decode get_epoch set_epoch s.failed s.rows s.views s.count op o next → Stands decode get_epoch set_epoch (turned s op o next)
  turn_keeps s op o (Goes inner) st e h = turn_goes s op o inner st e (inner_of s op o inner h)
  turn_keeps s op o (Ends answer change) st e h = turn_ends s op o answer change st e h
  turn_keeps s op o (Opens id value) st e h = turn_opens s op o id value st e h
