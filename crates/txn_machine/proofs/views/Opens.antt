-- A begin keeps the layer, before the operation does anything.
use Rattle.std.proofs.Common.{◌≡◌, ◌≢◌, ℕ, zero, suc, ◌≤◌, List, [], ◌∷◌, ◌++◌, length, take, Bool, true, false, ◌==◌, ◌||◌, Option, Some, None, inl, inr, refl, sym, ◌∙◌, ap, subst, arith}
use Rattle.std.specs.List.{list_any}
use Rattle.std.specs.Option.{option_map}
use Rattle.std.proofs.lemmas.Bool.{cases_Bool, eqb-true, eqb-false, eq-eqb, both_ways}
use Rattle.std.proofs.lemmas.Option.{same_Some}
use Rattle.txn_history.specs.declared.trace.RowOf.TheVariants.{Begun}
use Rattle.txn_history.specs.History.{newest}
use Rattle.txn_history.specs.Calls.{begins, ends, was_begun, before_begin, view_used}
use Rattle.txn_history.proofs.Lists.{get_last, any_false, any_last}
use Rattle.txn_history.proofs.More.{entered_back, begun_count-begun}
use Rattle.txn_history.specs.declared.event.Call.{Call}
use Rattle.txn_history.specs.Trace.{Row}
use Rattle.txn_history.specs.Views.{view_count}
use Rattle.txn_history.specs.OneHistory as history
use Rattle.txn_machine.specs.views.Layer.{Used, Layer, look_up, with_busy, starting, set_used, opened}
use Rattle.txn_machine.specs.views.Steps.{Allowed}
use Rattle.txn_machine.proofs.views.History.{one_history-more, boundary_up}
use Rattle.txn_machine.proofs.views.Stands.{NeverBelow, Uses, OwnFenced, OpStands, ViewAt, Stands}
use Rattle.txn_machine.proofs.views.Frames.{never_more, unseen_more, count_more, view_at_more, asked_more, fresh_more}
use Rattle.txn_machine.proofs.views.Tables.{set_here, set_other, Leaves, set_leaves, known_of, op_leaves, op_row}
use Rattle.txn_machine.proofs.views.Turns.{count_same}

any_take : {A : Type 0} (p : A → Bool) (xs : List A) (k : ℕ) → list_any p xs ≡ false → list_any p (take k xs) ≡ false
any_take p xs zero e = refl
any_take p [] (suc k) e = refl
any_take p (x ∷ xs) (suc k) e = by (p x) refl e (λ rest. any_take p xs k rest)
  where
    by : (b : Bool) → p x ≡ b → (b || list_any p xs) ≡ false → (list_any p xs ≡ false → list_any p (take k xs) ≡ false) → (p x || list_any p (take k xs)) ≡ false
    by true is h rest = cc
    by false is h rest = rw is (rest h)

module _ {T : Type 0} where
  -- the rows before a begin are all before it
  pub before_now : (op : ℕ) (rows : List (Row T)) (call : Call T) → was_begun rows op ≡ false → before_begin op (rows ++ Begun op call ∷ []) ≡ rows
  before_now op [] call e = rw (eq-eqb op op refl) refl
  before_now op (r ∷ rows) call e = by (begins op r) refl e (λ rest. before_now op rows call rest)
    where
      by : (b : Bool) → begins op r ≡ b → (b || list_any (begins op) rows) ≡ false → (was_begun rows op ≡ false → before_begin op (rows ++ Begun op call ∷ []) ≡ rows) → before_begin op (r ∷ rows ++ Begun op call ∷ []) ≡ r ∷ rows
      by true is h rest = cc
      by false is h rest = rw is (ap (λ (rs : List (Row T)). r ∷ rs) (rest h))

  -- at the rows of a call that begins now, the newest is that of now
  never_now : (op : ℕ) (rows : List (Row T)) (row : Row T) (id : ℕ) → was_begun rows op ≡ false → id ≤ newest rows → NeverBelow (rows ++ row ∷ []) op id
  never_now op rows row id none known = never_more rows row op id known (λ place le begun. absurd (both_ways (was_begun (take place rows) op) (any_take (begins op) rows place none) begun))

module _ {T : Type 0} (decode : List ℕ → Option T) (get_epoch : T → ℕ) (set_epoch : T → ℕ → T) where
  -- an operation that begins has no entries
  none_own : (op : ℕ) (rows : List (Row T)) (call : Call T) → was_begun rows op ≡ false → OwnFenced decode get_epoch set_epoch (rows ++ Begun op call ∷ []) op
  none_own op rows call none n v e =
      elim (entered_back decode rows (Begun op call) op n v e) [
        | inl old ↦ absurd (both_ways (was_begun (take old.create.place rows) op) (any_take (begins op) rows old.create.place none) old.create.begun)
        | inr last ↦ absurd (let clash = last.2 in cc)
      ]

  busied_at : (rows : List (Row T)) (count number op : ℕ) (used : Option (Used T)) → ViewAt decode get_epoch set_epoch rows count number used → ViewAt decode get_epoch set_epoch rows count number (option_map (with_busy (Some op)) used)
  busied_at rows count number op None h = tt
  busied_at rows count number op (Some used) h = h

  opened_views : (rows : List (Row T)) (views : ℕ → Option (Used T)) (count op : ℕ) (call : Call T) → ((number : ℕ) → ViewAt decode get_epoch set_epoch rows count number (views number)) → (used : Option ℕ) (number : ℕ) → ViewAt decode get_epoch set_epoch (rows ++ Begun op call ∷ []) count number (set_used views used (option_map (with_busy (Some op)) (look_up views used)) number)
  opened_views rows views count op call all None number = view_at_more decode get_epoch set_epoch rows (Begun op call) count count number (omega arith) (views number) (refl, refl) (all number)
  opened_views rows views count op call all (Some i) number =
      elim (cases_Bool (number == i)) [
        | inl h ↦ rw h (
            let same : number ≡ i = eqb-true number i h in
            busied_at (rows ++ Begun op call ∷ []) count number op (views i) (view_at_more decode get_epoch set_epoch rows (Begun op call) count count number (omega arith) (views i) (refl, refl) (subst (λ (n : ℕ). ViewAt decode get_epoch set_epoch rows count number (views n)) same (all number)))
            )
        | inr h ↦ rw h (view_at_more decode get_epoch set_epoch rows (Begun op call) count count number (omega arith) (views number) (refl, refl) (all number))
      ]

  -- its view is busy with it alone
  begin_uses : (s : Layer T) → Stands decode get_epoch set_epoch s → (client : ℕ) (call : Call T) (number : Option ℕ) → Allowed s client call number → Uses (s.rows ++ Begun s.next call ∷ []) (set_used s.views number (option_map (with_busy (Some s.next)) (look_up s.views number))) s.next (starting client call) number
  begin_uses s st client call None h = tt
  begin_uses s st client call (Some number) h =
      record {
        used = with_busy (Some s.next) h.used;
        there = set_here s.views number (option_map (with_busy (Some s.next)) (s.views number)) ∙ ap (option_map (with_busy (Some s.next))) h.there;
        busy = refl;
        client = h.own;
        kind = h.kind;
        least = never_now s.next s.rows (Begun s.next call) h.used.view.id (st.fresh s.next (omega arith)).0.begun (known_of decode get_epoch set_epoch s st number h.used h.there);
      }

  free_leaves : (s : Layer T) (client : ℕ) (call : Call T) (n : ℕ) (number : Option ℕ) (new : Option (Used T)) → Allowed s client call number → Leaves s.views (set_used s.views number new) n
  free_leaves s client call n None new h i used e busy = e
  free_leaves s client call n (Some number) new h i used e busy =
      set_leaves s.views number n new (λ other there q. (
      let same : h.used ≡ other = same_Some h.used other (sym h.there ∙ there) in
      let clash : None ≡ Some n = sym h.free ∙ (ap (λ (u : Used T). u.busy) same ∙ q) in
      cc
      )) i used e busy

  pub begin_opens : (s : Layer T) (client : ℕ) (call : Call T) → Stands decode get_epoch set_epoch s → Allowed s client call (view_used call) → history.Opens decode get_epoch s.rows s.next call → Stands decode get_epoch set_epoch (opened s client call)
  begin_opens s client call st allowed opens =
      let row : Row T = Begun s.next call in
      let fresh = (st.fresh s.next (omega arith)).0 in
      let good = one_history-more decode get_epoch set_epoch s.failed s.rows row st.good opens in
      let up = boundary_up decode get_epoch set_epoch s.failed s.rows row good in
      let k = known_of decode get_epoch set_epoch s st in
      let o = starting client call in
      let new = option_map (with_busy (Some s.next)) (look_up s.views (view_used call)) in
      let views = set_used s.views (view_used call) new in
      record {
        good = good;
        count = count_same s.count (view_count s.rows) 0 (view_count (s.rows ++ row ∷ [])) (count_more s.rows row) st.count (omega arith);
        views = opened_views s.rows s.views s.count s.next call st.views (view_used call);
        ops = λ n. elim (cases_Bool (n == s.next)) [
          | inl q ↦ rw q (
              let same : n ≡ s.next = eqb-true n s.next q in
              let now : OpStands decode get_epoch set_epoch (s.rows ++ row ∷ []) views s.next o = record {
                called = (length s.rows, get_last s.rows row);
                begun = any_last (begins s.next) s.rows row (eq-eqb s.next s.next refl);
                once = any_false (ends s.next) s.rows row fresh.running refl;
                inner = none_own s.next s.rows call fresh.begun;
                uses = begin_uses s st client call (view_used call) allowed;
              } in
              subst (λ (i : ℕ). OpStands decode get_epoch set_epoch (s.rows ++ row ∷ []) views i o) (sym same) now
              )
          | inr q ↦ rw q (op_leaves decode get_epoch set_epoch (s.rows ++ row ∷ []) s.views views n (free_leaves s client call n (view_used call) new allowed) (s.ops n) (op_row decode get_epoch set_epoch s.rows row s.views up k n (λ x. eqb-false n s.next q (sym x)) (s.ops n) (st.ops n)))
        ];
        asked = asked_more decode get_epoch set_epoch s.rows row s.asked st.asked;
        unseen = λ number le. unseen_more s.rows row number (refl, refl) (st.unseen number le);
        begun = let one = begun_count-begun s.rows s.next call in let is = st.begun in omega (arith, one, is);
        fresh = λ n le. (
            let ne : n ≢ s.next = (λ x. absurd (omega (arith, x, le))) in
            let f = st.fresh n (omega (arith, le)) in
            (fresh_more s.rows row n (λ x. ne (sym x)) f.0, set_other s.ops s.next (Some o) n ne ∙ f.1)
            );
      }
