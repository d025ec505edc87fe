-- What each call does first stands.
use Rattle.std.proofs.Common.{◌≡◌, ◌≢◌, ℕ, zero, suc, ◌+◌, ◌<◌, ◌≤◌, List, [], ◌∷◌, Bool, true, false, if◌then◌else◌, ◌==◌, nat_lt, Option, Some, None, Ok, Err, inl, inr, refl, sym, ◌∙◌, ap, subst, arith}
use Rattle.std.proofs.lemmas.Bool.{cases_lt, both_ways, eqb-true, eqb-false, ltb-true, lt-ltb, leb-true}
use Rattle.std.proofs.lemmas.Option.{same_Some}
use Rattle.txn_store.specs.types.Numbers.{number_of}
use Rattle.txn_store.specs.declared.types.error.TransactionalObjectError.TheVariants.{Fenced, InvalidObjectState}
use Rattle.txn_history.specs.declared.event.PlainCall.{PlainCall}
use Rattle.txn_history.specs.declared.event.PlainCall.TheVariants as calls
use Rattle.txn_history.specs.declared.trace.RowOf.TheVariants.{Begun}
use Rattle.txn_history.specs.History.{newest, epoch_at}
use Rattle.txn_history.specs.Facts.{base_on, greatest}
use Rattle.txn_history.proofs.Rows.{newest_grows}
use Rattle.txn_history.proofs.More.{epoch_kept}
use Rattle.txn_steps_views.specs.Entries.{value_tested, own_epochs}
use Rattle.txn_history.specs.declared.event.ViewCall.TheVariants as view_calls
use Rattle.txn_history.specs.declared.event.Call.{Call}
use Rattle.txn_history.specs.declared.event.Call.TheVariants as any
use Rattle.txn_history.specs.Trace.{Row}
use Rattle.txn_history.specs.Calls.{view_used}
use Rattle.txn_history.specs.Views.{view_at, epoch_held, ViewFits}
use Rattle.txn_history.specs.OneHistory as history
use Rattle.txn_history.specs.OneHistory.{base_now, base_by, AnswerFits}
use Rattle.txn_machine.specs.views.Layer.{Used, Starts, Layer, Next, Goes, look_up, starting, opened}
use Rattle.txn_machine.specs.views.Parts.{tested, with_local, plain_inner, started_on, started, HasEpoch}
use Rattle.txn_machine.specs.views.Steps.{MayUse, Allowed, LayerBegins}
use Rattle.txn_machine.proofs.views.History.{entry_within, epoch_is}
use Rattle.txn_machine.proofs.views.Told.{told_within}
use Rattle.txn_machine.proofs.views.Stands.{WriteStands, OpStands, Stands, NextStands}
use Rattle.txn_machine.proofs.views.Frames.{view_more}
use Rattle.txn_machine.proofs.views.Tables.{set_here, view_of, op_of}
use Rattle.txn_machine.proofs.views.Turns.{turn_keeps}
use Rattle.txn_machine.proofs.views.Shows.{no_epoch, some_epoch, least_at, refusing_stands}
use Rattle.txn_machine.proofs.views.Attempts.{written_stands, claim_stands, claim_at_stands}
use Rattle.txn_machine.proofs.views.Opens.{before_now, begin_opens}

-- a base above 0 is its own
base_some : (n : ℕ) → 0 < n → base_on n ≡ Some n
base_some zero p = absurd (omega (arith, p))
base_some (suc n) p = refl

module _ {T : Type 0} (decode : List ℕ → Option T) (get_epoch : T → ℕ) (set_epoch : T → ℕ → T) where
  -- the operation of this call begins
  module _ (s : Layer T) (st : Stands decode get_epoch set_epoch s) (client : ℕ) (call : Call T) (allowed : Allowed s client call (view_used call)) (opens : history.Opens decode get_epoch s.rows s.next call) where
    abbrev now : Layer T
    now = opened s client call

    pub stands : Stands decode get_epoch set_epoch now
    stands = begin_opens decode get_epoch set_epoch s client call st allowed opens

    pub own : OpStands decode get_epoch set_epoch now.rows now.views s.next (starting client call)
    own = op_of decode get_epoch set_epoch now stands s.next (starting client call) (set_here s.ops s.next (Some (starting client call)))

    abbrev First : Next T → Type 0
    First next = NextStands decode get_epoch set_epoch now.failed now.rows now.views now.count s.next (starting client call) next

    -- its base by the rows
    base_is : base_by now.rows s.next call ≡ base_now s.rows call
    base_is = ap (λ (rs : List (Row T)). base_now rs call) (before_now s.next s.rows call (st.fresh s.next (omega arith)).0.begun)

    grown : newest s.rows ≤ newest now.rows
    grown = newest_grows s.rows (Begun s.next call)

    -- an epoch by the rows stays
    epoch_now : (base epoch : ℕ) → base ≤ newest s.rows → epoch_at decode get_epoch s.rows base ≤ epoch → epoch_at decode get_epoch now.rows base ≤ epoch
    epoch_now base epoch known le = (let same = epoch_kept decode get_epoch s.rows (Begun s.next call ∷ []) base known in omega (arith, same, le))

    -- the base of a call without a view was answered
    pub known_base : (base : Option ℕ) → history.is_known_base s.rows base ≡ true → (base ≡ base_on (number_of base)) × (number_of base ≤ newest s.rows)
    known_base None e = (refl, omega arith)
    known_base (Some n) e = (let w = told_within decode get_epoch set_epoch s.failed s.rows st.good n e in (sym (base_some n w.0), w.1))

    -- the view that a call uses
    module _ (number : ℕ) (m : MayUse s client call number) where
      pub fits : ViewFits decode get_epoch s.rows number m.used.view
      fits = (view_of decode get_epoch set_epoch s st number m.used m.there).1

      pub fits_now : ViewFits decode get_epoch now.rows number m.used.view
      fits_now = view_more decode get_epoch set_epoch s.rows (Begun s.next call) number m.used.view (refl, refl) fits

      pub id_within : (0 < m.used.view.id) × (m.used.view.id ≤ newest s.rows)
      id_within = entry_within decode get_epoch set_epoch s.failed s.rows m.used.view.id m.used.view.object fits.object

      pub known_now : m.used.view.id ≤ newest now.rows
      known_now = (let w = id_within.1 in let g = grown in omega (arith, w, g))

      pub epoch_here : epoch_at decode get_epoch now.rows m.used.view.id ≡ get_epoch m.used.view.object
      epoch_here = epoch_is decode get_epoch set_epoch now.failed now.rows m.used.view.id m.used.view.object fits_now.object

      -- a view that is not fenced stands where it was shown
      stood : ((epoch : ℕ) → m.used.view.epoch ≡ Some epoch → get_epoch m.used.view.object ≤ epoch) → view_at s.rows number ≡ Some m.used.view.id
      stood free = elim fits.stands [
        | inl same ↦ fits.last ∙ ap Some (sym same)
        | inr up ↦ absurd (let f = up.1 in let le = free f.epoch f.holder in let lt = f.greater in omega (arith, le, lt))
      ]

      -- an update's base is where its view stands
      base_stands : base_now s.rows call ≡ view_at s.rows number → view_at s.rows number ≡ Some m.used.view.id → base_by now.rows s.next call ≡ Some m.used.view.id
      base_stands is at = base_is ∙ (is ∙ at)

      on_base : base_now s.rows call ≡ view_at s.rows number → view_at s.rows number ≡ Some m.used.view.id → base_by now.rows s.next call ≡ base_on m.used.view.id
      on_base is at = base_stands is at ∙ sym (base_some m.used.view.id id_within.0)

      pub at_greatest : base_now s.rows call ≡ view_at s.rows number → view_at s.rows number ≡ Some m.used.view.id → m.used.view.id ≡ greatest → base_by now.rows s.next call ≡ Some greatest
      at_greatest is at e = base_stands is at ∙ ap Some e

  module _ (s : Layer T) (st : Stands decode get_epoch set_epoch s) (client : ℕ) where
    -- a call without a view

    plain_write : (call : PlainCall T) (opens : history.Opens decode get_epoch s.rows s.next (any.Plain call)) (base : Option ℕ) (value : T) → history.WritesOn decode get_epoch set_epoch (now s st client (any.Plain call) tt opens).rows s.next (any.Plain call) (number_of base) value → number_of base ≤ newest s.rows →
        epoch_at decode get_epoch s.rows (number_of base) ≤ get_epoch value → WriteStands decode get_epoch set_epoch (now s st client (any.Plain call) tt opens).rows s.next (any.Plain call) (number_of base) value
    plain_write call opens base value written known high =
        let o = own s st client (any.Plain call) tt opens in
        let up = grown s st client (any.Plain call) tt opens in
        record { called = o.called; begun = o.begun; known = omega (arith, known, up); written = written; rises = epoch_now s st client (any.Plain call) tt opens (number_of base) (get_epoch value) known high; may = tt }

    first_plain : (call : PlainCall T) (opens : history.Opens decode get_epoch s.rows s.next (any.Plain call)) → First s st client (any.Plain call) tt opens (Goes (plain_inner get_epoch call))
    first_plain (calls.Write base value) opens =
        let call = calls.Write base value in
        let k = known_base s st client (any.Plain call) tt opens base opens.known in
        ((plain_write call opens base value (k.0, refl) k.1 (leb-true _ _ opens.keeps), tt), (own s st client (any.Plain call) tt opens).inner)
    first_plain (calls.WriteUnchecked base value) opens =
        let call = calls.WriteUnchecked base value in
        let k = known_base s st client (any.Plain call) tt opens base opens.known in
        ((plain_write call opens base value (k.0, refl) k.1 (leb-true _ _ opens.keeps), tt), (own s st client (any.Plain call) tt opens).inner)
    first_plain calls.Read opens = tt
    first_plain (calls.ReadUnchecked id) opens = tt
    first_plain (calls.ReadSeen id) opens = tt
    first_plain (calls.ListIds from to) opens = tt
    first_plain (calls.Delete id) opens = tt
    first_plain (calls.Check id) opens = tt
    first_plain (calls.Advance to) opens = tt

    -- an update writes on the id of its view
    first_update : (w : ℕ) (v : T) (m : MayUse s client (any.View (view_calls.Update w v)) w) (opens : history.Opens decode get_epoch s.rows s.next (any.View (view_calls.Update w v))) → HasEpoch get_epoch (started_on get_epoch set_epoch (any.View (view_calls.Update w v)) m.used.view) →
        First s st client (any.View (view_calls.Update w v)) m opens (started_on get_epoch set_epoch (any.View (view_calls.Update w v)) m.used.view)
    first_update w v m opens has =
        let call : Call T = any.View (view_calls.Update w v) in
        let o = own s st client call m opens in
        let none = no_epoch m.used.view.epoch m.kind in
        let at = stood s st client call m opens w m (λ epoch e. absurd (let clash : None ≡ Some epoch = sym none ∙ e in cc)) in
        let high : epoch_at decode get_epoch s.rows m.used.view.id ≤ get_epoch v = subst (λ (b : Option ℕ). epoch_at decode get_epoch s.rows (number_of b) ≤ get_epoch v) at (leb-true _ _ opens.keeps) in
        let within = id_within s st client call m opens w m in
        written_stands decode get_epoch set_epoch (now s st client call m opens) (stands s st client call m opens) s.next client call Starts m.used.view.id v (get_epoch v) has
        (λ e. inl (inr (inr (refl, at_greatest s st client call m opens w m refl at e))))
        (λ e. (
          (
            record {
              called = o.called;
              begun = o.begun;
              known = known_now s st client call m opens w m;
              written = (on_base s st client call m opens w m refl at, refl);
              rises = epoch_now s st client call m opens m.used.view.id (get_epoch v) within.1 high;
              may = tt;
            },
            tt,
          ),
          o.inner,
        ))

    -- a holder's update is fenced, or its value has another epoch, or it writes on the id of its view
    module _ (w : ℕ) (v : T) (m : MayUse s client (any.View (view_calls.HolderUpdate w v)) w) (opens : history.Opens decode get_epoch s.rows s.next (any.View (view_calls.HolderUpdate w v))) (local : ℕ) (holder : m.used.view.epoch ≡ Some local) where
      abbrev update : Call T
      update = any.View (view_calls.HolderUpdate w v)

      abbrev viewed : ℕ
      viewed = get_epoch m.used.view.object

      held_now : epoch_held (now s st client update m opens).rows w ≡ Some local
      held_now = sym (fits_now s st client update m opens w m).epoch ∙ holder

      holder_own : (d : Bool) → (get_epoch v == local) ≡ d → viewed ≤ local → HasEpoch get_epoch (tested update m.used.view.id v (get_epoch v) (if d then Ok tt else Err 7)) → First s st client update m opens (tested update m.used.view.id v (get_epoch v) (if d then Ok tt else Err 7))
      holder_own false e le has =
          let other = eqb-false (get_epoch v) local e in
          let differs : epoch_held (now s st client update m opens).rows w ≢ Some (get_epoch v) = λ q. other (sym (same_Some local (get_epoch v) (sym held_now ∙ q))) in
          refusing_stands decode get_epoch set_epoch (now s st client update m opens) (stands s st client update m opens) s.next client update Starts 7 (inl (inr (inl (refl, differs))))
      holder_own true e le has =
          let o = own s st client update m opens in
          let keeps = eqb-true (get_epoch v) local e in
          let at = stood s st client update m opens w m (λ epoch q. (let same = same_Some local epoch (sym holder ∙ q) in omega (arith, le, same))) in
          let here = epoch_here s st client update m opens w m in
          written_stands decode get_epoch set_epoch (now s st client update m opens) (stands s st client update m opens) s.next client update Starts m.used.view.id v (get_epoch v) has
          (λ q. inl (inr (inr (inr (inr (refl, at_greatest s st client update m opens w m refl at q))))))
          (λ q. (
            (
              record {
                called = o.called;
                begun = o.begun;
                known = known_now s st client update m opens w m;
                written = (on_base s st client update m opens w m refl at, refl);
                rises = omega (arith, here, le, keeps);
                may = record { epoch = local; holder = held_now; keeps = keeps; below = omega (arith, here, le) };
              },
              tt,
            ),
            o.inner,
          ))

      holder_first : (b c : Bool) → nat_lt local viewed ≡ b → nat_lt viewed local ≡ c → HasEpoch get_epoch (tested update m.used.view.id v (get_epoch v) (value_tested local (get_epoch v) (if b then Err Fenced else (if c then Err InvalidObjectState else Ok tt)))) →
          First s st client update m opens (tested update m.used.view.id v (get_epoch v) (value_tested local (get_epoch v) (if b then Err Fenced else (if c then Err InvalidObjectState else Ok tt))))
      holder_first true c lt gt has =
          let f = fits_now s st client update m opens w m in
          let less = ltb-true local viewed lt in
          let above : local + 1 ≤ viewed = omega (arith, less) in
          refusing_stands decode get_epoch set_epoch (now s st client update m opens) (stands s st client update m opens) s.next client update Starts 6
          (inl (inl (refl, record { epoch = local; holder = held_now; above = record { id = m.used.view.id; value = m.used.view.object; entry = f.object; high = above } })))
      holder_first false true lt gt has =
          let f = fits s st client update m opens w m in
          let least = least_at decode get_epoch set_epoch s.failed s.rows st.good w m.used.view f m.used.view.id m.used.view.object (omega arith) f.object local holder in
          let less = ltb-true viewed local gt in
          absurd (omega (arith, least, less))
      holder_first false false lt gt has =
          let le : viewed ≤ local = elim (cases_lt local viewed) [ inl l ↦ absurd (both_ways (nat_lt local viewed) lt (lt-ltb local viewed l)) | inr h ↦ h ] in
          holder_own (get_epoch v == local) refl le has

    -- whatever the call
    first_stands : (call : Call T) (allowed : Allowed s client call (view_used call)) (opens : history.Opens decode get_epoch s.rows s.next call) → HasEpoch get_epoch (started get_epoch set_epoch call (look_up s.views (view_used call))) → First s st client call allowed opens (started get_epoch set_epoch call (look_up s.views (view_used call)))
    first_stands (any.Plain call) allowed opens has = first_plain call opens
    first_stands (any.View (view_calls.Init v)) allowed opens has =
        let o = own s st client (any.View (view_calls.Init v)) tt opens in
        ((record { called = o.called; begun = o.begun; known = omega arith; written = (refl, refl); rises = omega arith; may = tt }, tt), o.inner)
    first_stands (any.View view_calls.Load) allowed opens has = (tt, (own s st client (any.View view_calls.Load) tt opens).inner)
    first_stands (any.View (view_calls.Refresh w)) m opens has = rw m.there (tt, (own s st client (any.View (view_calls.Refresh w)) m opens).inner)
    first_stands (any.View (view_calls.HolderRefresh w)) m opens has = rw m.there (tt, (own s st client (any.View (view_calls.HolderRefresh w)) m opens).inner)
    first_stands (any.View (view_calls.Update w v)) m opens has =
        let call : Call T = any.View (view_calls.Update w v) in
        subst (λ (x : Option (Used T)). HasEpoch get_epoch (started get_epoch set_epoch call x) → First s st client call m opens (started get_epoch set_epoch call x)) (sym m.there) (λ h. first_update w v m opens h) has
    first_stands (any.View (view_calls.Claim w)) m opens has =
        let call : Call T = any.View (view_calls.Claim w) in
        let o = own s st client call m opens in
        subst (λ (x : Option (Used T)). HasEpoch get_epoch (started get_epoch set_epoch call x) → First s st client call m opens (started get_epoch set_epoch call x)) (sym m.there)
        (λ h. claim_stands decode get_epoch set_epoch (now s st client call m opens) (stands s st client call m opens) s.next client w Starts m.used.view.id m.used.view.object h o.called o.begun (fits_now s st client call m opens w m).object o.inner) has
    first_stands (any.View (view_calls.ClaimAt w at)) m opens has =
        let call : Call T = any.View (view_calls.ClaimAt w at) in
        let o = own s st client call m opens in
        subst (λ (x : Option (Used T)). HasEpoch get_epoch (started get_epoch set_epoch call x) → First s st client call m opens (started get_epoch set_epoch call x)) (sym m.there)
        (λ h. claim_at_stands decode get_epoch set_epoch (now s st client call m opens) (stands s st client call m opens) s.next client w at Starts m.used.view.id m.used.view.object h o.called o.begun (fits_now s st client call m opens w m).object o.inner) has
    first_stands (any.View (view_calls.HolderUpdate w v)) m opens has =
        let call : Call T = any.View (view_calls.HolderUpdate w v) in
        let e = some_epoch m.used.view.epoch m.kind in
        let viewed = get_epoch m.used.view.object in
        let first : ℕ → Next T = λ local. tested call m.used.view.id v (get_epoch v) (own_epochs local viewed (get_epoch v)) in
        subst (λ (x : Option (Used T)). HasEpoch get_epoch (started get_epoch set_epoch call x) → First s st client call m opens (started get_epoch set_epoch call x)) (sym m.there)
        (subst (λ (x : Option ℕ). HasEpoch get_epoch (with_local call x first) → First s st client call m opens (with_local call x first)) (sym e.1)
        (λ h. holder_first w v m opens e.0 e.1 (nat_lt e.0 viewed) (nat_lt viewed e.0) refl refl h)) has

  -- what an operation does first stands
  pub begin_stands : (s after : Layer T) (st : Stands decode get_epoch set_epoch s) (b : LayerBegins decode get_epoch set_epoch s after) → First s st b.client b.call b.allowed b.opens b.next
  begin_stands s after st b =
      elim b.first [
        | inl due ↦ subst (First s st b.client b.call b.allowed b.opens) (sym due) (first_stands s st b.client b.call b.allowed b.opens (subst (HasEpoch get_epoch) due b.has))
        | inr lacking ↦ subst (First s st b.client b.call b.allowed b.opens) (sym lacking) (refusing_stands decode get_epoch set_epoch (now s st b.client b.call b.allowed b.opens) (stands s st b.client b.call b.allowed b.opens) s.next b.client b.call Starts 9 (inr (inr refl)))
      ]

  pub begin_keeps : (s after : Layer T) → Stands decode get_epoch set_epoch s → LayerBegins decode get_epoch set_epoch s after → Stands decode get_epoch set_epoch after
  begin_keeps s after st b =
      let o = starting b.client b.call in
      let there = set_here s.ops s.next (Some o) in
      subst (Stands decode get_epoch set_epoch) (sym b.new) (turn_keeps decode get_epoch set_epoch (opened s b.client b.call) s.next o b.next (stands s st b.client b.call b.allowed b.opens) there (begin_stands s after st b))
