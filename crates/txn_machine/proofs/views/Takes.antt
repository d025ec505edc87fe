-- What each call makes of the answer of its write or its read stands.
use Rattle.std.proofs.Common.{◌≡◌, ℕ, zero, suc, ◌+◌, ◌≤◌, List, Bool, true, false, if◌then◌else◌, ◌==◌, nat_lt, Option, Some, None, Ok, Err, ◌⊎◌, inl, inr, refl, sym, ◌∙◌, ap, subst, arith}
use Rattle.std.proofs.lemmas.Bool.{cases_lt, both_ways, ltb-true, lt-ltb}
use Rattle.std.proofs.lemmas.Option.{same_Some}
use Rattle.txn_store.specs.types.Numbers.{number_of}
use Rattle.txn_store.specs.declared.types.error.TransactionalObjectError.TheVariants.{Fenced, InvalidObjectState}
use Rattle.txn_history.specs.History.{newest, IsEntry}
use Rattle.txn_history.specs.Calls.{AtRow, view_used}
use Rattle.txn_history.specs.Facts.{base_on, greatest, Entered, WasNewest, WasEmpty, WriteRefused, FailureFits}
use Rattle.txn_history.specs.declared.event.ViewCall.{ViewCall}
use Rattle.txn_history.specs.declared.event.ViewCall.TheVariants as view_calls
use Rattle.txn_history.specs.declared.event.Call.TheVariants as any
use Rattle.txn_history.specs.Views.{view_at, view_count}
use Rattle.txn_history.specs.OneHistory.{Shows, ClaimRefused, AnswerFits}
use Rattle.txn_machine.specs.views.Layer.{Inner, Writes, Reads, Layer, Next, Goes, look_up, local_of, refused}
use Rattle.txn_machine.specs.views.Parts.{Inside, Wrote, Found, Nothing, Refused, InsideFits, refusing, entered, denied, missed, viewed, found, taken, HasEpoch, OrLacking}
use Rattle.txn_machine.specs.views.Steps.{Takes, operation_of}
use Rattle.txn_machine.proofs.views.History.{entry_within, entered_now, newest_now, was_newest}
use Rattle.txn_machine.proofs.views.Stands.{MayRead, UsesView, OpStands, Stands, NextStands}
use Rattle.txn_machine.proofs.views.Tables.{view_of, op_of}
use Rattle.txn_machine.proofs.views.Turns.{turn_keeps}
use Rattle.txn_machine.proofs.views.Shows.{op_as, no_epoch, some_epoch, least_at, refuses, refusing_stands, Showing, rises, shows, holds, fences}
use Rattle.txn_machine.proofs.views.Attempts.{NextFits, claim_stands, claim_at_stands}

-- a base is the greatest id
base_greatest : (base : ℕ) → base_on base ≡ Some greatest → base ≡ greatest
base_greatest zero e = cc
base_greatest (suc n) e = same_Some (suc n) greatest e

module _ {T : Type 0} (decode : List ℕ → Option T) (get_epoch : T → ℕ) (set_epoch : T → ℕ → T) (s : Layer T) (st : Stands decode get_epoch set_epoch s) (op client : ℕ) where
  -- of the operation with this call, which does this now
  abbrev Runs : ViewCall T → Inner T → Type 0
  Runs call inner = OpStands decode get_epoch set_epoch s.rows s.views op (op_as client (any.View call) inner)

  abbrev Fit : ViewCall T → Inner T → Next T → Type 0
  Fit call inner next = NextFits decode get_epoch set_epoch s st op client (any.View call) inner next

  abbrev UsesIt : ViewCall T → Inner T → ℕ → Type 0
  UsesIt call inner number = UsesView s.rows s.views op (op_as client (any.View call) inner) number

  -- what was newest at a row of the call is at or above the view, and so is one's own entry

  showing : (call : ViewCall T) (inner : Inner T) (number id : ℕ) (value : T) → (u : UsesIt call inner number) → u.used.view.id ≤ id → IsEntry decode s.rows id value → Showing decode get_epoch set_epoch s st op number id value
  showing call inner number id value u up there = record { used = u.used; there = u.there; up = up; entry = there }

  up_at : (call : ViewCall T) (inner : Inner T) (number id : ℕ) (u : UsesIt call inner number) → AtRow s.rows op (λ front. newest front ≡ id) → u.used.view.id ≤ id
  up_at call inner number id u a = (let low = u.least a.place a.within a.begun in let is = a.there in omega (arith, low, is))

  show_newest : (call : ViewCall T) (inner : Inner T) (number id : ℕ) (value : T) → UsesIt call inner number → WasNewest decode s.rows op id value → Showing decode get_epoch set_epoch s st op number id value
  show_newest call inner number id value u w =
      showing call inner number id value u (let low = u.least w.place w.within w.begun in let is = w.there.0 in omega (arith, low, is)) (newest_now decode get_epoch set_epoch s.failed s.rows st.good op id value w)

  show_own : (call : ViewCall T) (inner : Inner T) (number id : ℕ) (value : T) → UsesIt call inner number → Entered decode s.rows op id value → Showing decode get_epoch set_epoch s st op number id value
  show_own call inner number id value u e =
      showing call inner number id value u (up_at call inner number id u (was_newest decode get_epoch set_epoch s.failed s.rows st.good op id value e)) (entered_now decode get_epoch set_epoch s.failed s.rows st.good op id value e)

  -- some entry was there at every row of the call
  never_empty : (call : ViewCall T) (inner : Inner T) (number : ℕ) → UsesIt call inner number → WasEmpty s.rows op → ⊥
  never_empty call inner number u a =
      let h = (view_of decode get_epoch set_epoch s st number u.used u.there).1 in
      let low = up_at call inner number 0 u a in
      let pos = (entry_within decode get_epoch set_epoch s.failed s.rows u.used.view.id u.used.view.object h.object).0 in
      omega (arith, low, pos)

  -- a new view was not shown before
  new_shows : (id : ℕ) → Shows s.rows (view_count s.rows + 1) (s.count + 1) id
  new_shows id =
      let unseen : view_at s.rows (view_count s.rows + 1) ≡ None = subst (λ (n : ℕ). view_at s.rows (n + 1) ≡ None) st.count (st.unseen (s.count + 1) (omega arith)).0 in
      let at : number_of (view_at s.rows (view_count s.rows + 1)) ≡ 0 = ap number_of unseen in
      record { same = ap (λ (n : ℕ). n + 1) st.count; rises = omega (arith, at) }

  -- its write was entered

  wrote_stands : (call : ViewCall T) (base : ℕ) (value : T) (epoch id : ℕ) → Runs call (Writes base value epoch) → id ≡ base + 1 → Entered decode s.rows op id value → Fit call (Writes base value epoch) (entered (any.View call) id value epoch)
  unfolding show_own showing
  wrote_stands (view_calls.Init v) base value epoch id h next e = record { fits = (new_shows id, e); object = entered_now decode get_epoch set_epoch s.failed s.rows st.good op id value e; free = refl }
  wrote_stands (view_calls.Update w v) base value epoch id h next e =
      let shown = show_own (view_calls.Update w v) (Writes base value epoch) w id value h.uses e in
      shows decode get_epoch set_epoch s st op (op_as client (any.View (view_calls.Update w v)) (Writes base value epoch)) w id value shown refl (rises decode get_epoch set_epoch s st op w id value shown, e)
  wrote_stands (view_calls.HolderUpdate w v) base value epoch id h next e =
      let shown = show_own (view_calls.HolderUpdate w v) (Writes base value epoch) w id value h.uses e in
      shows decode get_epoch set_epoch s st op (op_as client (any.View (view_calls.HolderUpdate w v)) (Writes base value epoch)) w id value shown refl (rises decode get_epoch set_epoch s st op w id value shown, e)
  wrote_stands (view_calls.Claim w) base value epoch id h next e =
      let shown = show_own (view_calls.Claim w) (Writes base value epoch) w id value h.uses e in
      let a = h.inner.1 in
      holds decode get_epoch set_epoch s st op (op_as client (any.View (view_calls.Claim w)) (Writes base value epoch)) w id epoch value shown (no_epoch h.uses.used.view.epoch h.uses.kind) refl
      (rises decode get_epoch set_epoch s st op w id value shown, record { entered = e; has = a.has; base = base; next = next; old = a.old; entry = a.entry; smaller = a.smaller })
  wrote_stands (view_calls.ClaimAt w at) base value epoch id h next e =
      let shown = show_own (view_calls.ClaimAt w at) (Writes base value epoch) w id value h.uses e in
      let a = h.inner.1.0 in
      holds decode get_epoch set_epoch s st op (op_as client (any.View (view_calls.ClaimAt w at)) (Writes base value epoch)) w id epoch value shown (no_epoch h.uses.used.view.epoch h.uses.kind) refl
      (rises decode get_epoch set_epoch s st op w id value shown, record { entered = e; has = a.has; base = base; next = next; old = a.old; entry = a.entry; smaller = a.smaller }, h.inner.1.1)
  wrote_stands view_calls.Load base value epoch id h next e = absurd h.inner.0.written
  wrote_stands (view_calls.Refresh w) base value epoch id h next e = absurd h.inner.0.written
  wrote_stands (view_calls.HolderRefresh w) base value epoch id h next e = absurd h.inner.0.written

  -- its write was refused

  abbrev Denied : ℕ → ℕ → Type 0
  Denied base k = WriteRefused decode s.rows op (base_on base) k ⊎ FailureFits s.failed op k

  -- a claim reads after a conflict, and else is refused
  claim_denied : (call : ViewCall T) (inner : Inner T) (base k : ℕ) → ((n : ℕ) → ClaimRefused s.rows n ⊎ FailureFits s.failed op n → AnswerFits decode get_epoch s.failed s.rows op (any.View call) (refused n)) →
      MayRead (any.View call) → base ≤ newest s.rows → Denied base k → Fit call inner (if k == 5 then Goes Reads else refusing (any.View call) k)
  claim_denied call inner base k refuse may known fits =
      let at : ℕ → Type 0 = λ n. Fit call inner (if n == 5 then Goes Reads else refusing (any.View call) n) in
      elim fits [
        | inl (inl five) ↦ subst at (sym five.0) (may, five.1.fenced)
        | inl (inr (inl two)) ↦ subst at (sym two.0) (refusing_stands decode get_epoch set_epoch s st op client (any.View call) inner 2 (refuse 2 (inl (inl (refl, two.1)))))
        | inl (inr (inr ten)) ↦ subst at (sym ten.0) (refusing_stands decode get_epoch set_epoch s st op client (any.View call) inner 10 (refuse 10 (inl (inr (refl, subst (λ (n : ℕ). n ≤ newest s.rows) (base_greatest base ten.1) known)))))
        | inr (inl two) ↦ subst at (sym two.0) (refusing_stands decode get_epoch set_epoch s st op client (any.View call) inner 2 (refuse 2 (inr (inl (refl, two.1)))))
        | inr (inr nine) ↦ subst at (sym nine) (refusing_stands decode get_epoch set_epoch s st op client (any.View call) inner 9 (refuse 9 (inr (inr refl))))
      ]

  -- of the write's own base
  base_refused : (base k : ℕ) (own : Option ℕ) → own ≡ base_on base → Denied base k → WriteRefused decode s.rows op own k ⊎ FailureFits s.failed op k
  base_refused base k own e fits = subst (λ (b : Option ℕ). WriteRefused decode s.rows op b k ⊎ FailureFits s.failed op k) (sym e) fits

  denied_stands : (call : ViewCall T) (base : ℕ) (value : T) (epoch k : ℕ) → Runs call (Writes base value epoch) → Denied base k → Fit call (Writes base value epoch) (denied (any.View call) k)
  denied_stands (view_calls.Init v) base value epoch k h fits =
      refusing_stands decode get_epoch set_epoch s st op client (any.View (view_calls.Init v)) (Writes base value epoch) k (base_refused base k None (sym (ap base_on h.inner.0.written.0)) fits)
  denied_stands (view_calls.Update w v) base value epoch k h fits =
      refusing_stands decode get_epoch set_epoch s st op client (any.View (view_calls.Update w v)) (Writes base value epoch) k (base_refused base k _ h.inner.0.written.0 fits)
  denied_stands (view_calls.HolderUpdate w v) base value epoch k h fits =
      refusing_stands decode get_epoch set_epoch s st op client (any.View (view_calls.HolderUpdate w v)) (Writes base value epoch) k
      (elim (base_refused base k _ h.inner.0.written.0 fits) [ inl r ↦ inl (inr (inr r)) | inr f ↦ inr f ])
  denied_stands (view_calls.Claim w) base value epoch k h fits =
      claim_denied (view_calls.Claim w) (Writes base value epoch) base k (λ n r. elim r [ inl c ↦ inl (inr c) | inr f ↦ inr f ]) tt h.inner.0.known fits
  denied_stands (view_calls.ClaimAt w at) base value epoch k h fits =
      claim_denied (view_calls.ClaimAt w at) (Writes base value epoch) base k (λ n r. elim r [ inl c ↦ inl (inr c) | inr f ↦ inr f ]) tt h.inner.0.known fits
  denied_stands view_calls.Load base value epoch k h fits = absurd h.inner.0.written
  denied_stands (view_calls.Refresh w) base value epoch k h fits = absurd h.inner.0.written
  denied_stands (view_calls.HolderRefresh w) base value epoch k h fits = absurd h.inner.0.written

  -- its read found nothing

  missed_stands : (call : ViewCall T) → Runs call Reads → WasEmpty s.rows op → Fit call Reads (missed (any.View call))
  missed_stands view_calls.Load h empty = refuses decode get_epoch set_epoch s st op (op_as client (any.View view_calls.Load) Reads) 4 (inl (refl, empty))
  missed_stands (view_calls.Refresh w) h empty = absurd (never_empty (view_calls.Refresh w) Reads w h.uses empty)
  missed_stands (view_calls.Claim w) h empty = absurd (never_empty (view_calls.Claim w) Reads w h.uses empty)
  missed_stands (view_calls.ClaimAt w at) h empty = absurd (never_empty (view_calls.ClaimAt w at) Reads w h.uses empty)
  missed_stands (view_calls.HolderRefresh w) h empty = absurd (never_empty (view_calls.HolderRefresh w) Reads w h.uses empty)
  missed_stands (view_calls.Init v) h empty = absurd h.inner.0
  missed_stands (view_calls.Update w v) h empty = absurd h.inner.0
  missed_stands (view_calls.HolderUpdate w v) h empty = absurd h.inner.0

  -- its read found this

  -- a holder's refresh, by its epoch test
  tests : (b c : Bool) (w epoch id : ℕ) (value : T) → nat_lt epoch (get_epoch value) ≡ b → nat_lt (get_epoch value) epoch ≡ c → (u : UsesIt (view_calls.HolderRefresh w) Reads w) → u.used.view.epoch ≡ Some epoch → WasNewest decode s.rows op id value →
      Fit (view_calls.HolderRefresh w) Reads (viewed w id value (if b then Err Fenced else (if c then Err InvalidObjectState else Ok tt)))
  unfolding show_newest showing
  tests true c w epoch id value lt gt u holder newest_was =
      let shown = show_newest (view_calls.HolderRefresh w) Reads w id value u newest_was in
      let h = (view_of decode get_epoch set_epoch s st w u.used u.there).1 in
      let less = ltb-true epoch (get_epoch value) lt in
      let above : epoch + 1 ≤ get_epoch value = omega (arith, less) in
      fences decode get_epoch set_epoch s st op (op_as client (any.View (view_calls.HolderRefresh w)) Reads) w id 6 value shown epoch holder less refl
      (inl (refl, record { epoch = epoch; holder = sym h.epoch ∙ holder; above = record { id = id; value = value; entry = shown.entry; high = above } }))
  tests false true w epoch id value lt gt u holder newest_was =
      let shown = show_newest (view_calls.HolderRefresh w) Reads w id value u newest_was in
      let h = (view_of decode get_epoch set_epoch s st w u.used u.there).1 in
      let least = least_at decode get_epoch set_epoch s.failed s.rows st.good w u.used.view h id value shown.up shown.entry epoch holder in
      let less = ltb-true (get_epoch value) epoch gt in
      absurd (omega (arith, least, less))
  tests false false w epoch id value lt gt u holder newest_was =
      let shown = show_newest (view_calls.HolderRefresh w) Reads w id value u newest_was in
      let h = (view_of decode get_epoch set_epoch s st w u.used u.there).1 in
      let le : get_epoch value ≤ epoch = elim (cases_lt epoch (get_epoch value)) [ inl l ↦ absurd (both_ways (nat_lt epoch (get_epoch value)) lt (lt-ltb epoch (get_epoch value) l)) | inr m ↦ m ] in
      let ge : epoch ≤ get_epoch value = elim (cases_lt (get_epoch value) epoch) [ inl l ↦ absurd (both_ways (nat_lt (get_epoch value) epoch) gt (lt-ltb (get_epoch value) epoch l)) | inr m ↦ m ] in
      let same : epoch ≡ get_epoch value = omega (arith, le, ge) in
      shows decode get_epoch set_epoch s st op (op_as client (any.View (view_calls.HolderRefresh w)) Reads) w id value shown refl
      (rises decode get_epoch set_epoch s st op w id value shown, newest_was, (sym h.epoch ∙ holder) ∙ ap Some same)

  found_stands : (call : ViewCall T) (id : ℕ) (value : T) → Runs call Reads → WasNewest decode s.rows op id value → HasEpoch get_epoch (found get_epoch set_epoch (any.View call) (local_of (look_up s.views (view_used (any.View call)))) id value) →
      Fit call Reads (found get_epoch set_epoch (any.View call) (local_of (look_up s.views (view_used (any.View call)))) id value)
  found_stands view_calls.Load id value h w has = record { fits = (new_shows id, w); object = newest_now decode get_epoch set_epoch s.failed s.rows st.good op id value w; free = refl }
  found_stands (view_calls.Refresh n) id value h w has =
      let shown = show_newest (view_calls.Refresh n) Reads n id value h.uses w in
      shows decode get_epoch set_epoch s st op (op_as client (any.View (view_calls.Refresh n)) Reads) n id value shown refl (rises decode get_epoch set_epoch s st op n id value shown, w)
  found_stands (view_calls.Claim n) id value h w has = claim_stands decode get_epoch set_epoch s st op client n Reads id value has h.called h.begun (newest_now decode get_epoch set_epoch s.failed s.rows st.good op id value w) h.inner.1
  found_stands (view_calls.ClaimAt n at) id value h w has = claim_at_stands decode get_epoch set_epoch s st op client n at Reads id value has h.called h.begun (newest_now decode get_epoch set_epoch s.failed s.rows st.good op id value w) h.inner.1
  found_stands (view_calls.HolderRefresh n) id value h w has =
      let e = some_epoch h.uses.used.view.epoch h.uses.kind in
      let local : local_of (s.views n) ≡ Some e.0 = ap local_of h.uses.there ∙ e.1 in
      rw local (tests (nat_lt e.0 (get_epoch value)) (nat_lt (get_epoch value) e.0) n e.0 id value refl refl h.uses e.1 w)
  found_stands (view_calls.Init v) id value h w has = absurd h.inner.0
  found_stands (view_calls.Update n v) id value h w has = absurd h.inner.0
  found_stands (view_calls.HolderUpdate n v) id value h w has = absurd h.inner.0

  -- whatever the answer

  abbrev Taken : ViewCall T → Inner T → Inside T → Next T
  Taken call inner answer = taken get_epoch set_epoch (any.View call) (local_of (look_up s.views (view_used (any.View call)))) inner answer

  taken_stands : (call : ViewCall T) (inner : Inner T) → Runs call inner → (answer : Inside T) → InsideFits decode s.failed s.rows op inner answer → HasEpoch get_epoch (Taken call inner answer) → Fit call inner (Taken call inner answer)
  taken_stands call (Writes base value epoch) h (Wrote id) f has = wrote_stands call base value epoch id h f.0 f.1
  taken_stands call (Writes base value epoch) h (Refused k) f has = denied_stands call base value epoch k h f
  taken_stands call Reads h (Found id value) f has = found_stands call id value h f has
  taken_stands call Reads h Nothing f has = missed_stands call h f
  taken_stands call Reads h (Refused k) f has = refusing_stands decode get_epoch set_epoch s st op client (any.View call) Reads k (inr f)
  taken_stands call _ h _ f has = absurd f

  pub next_stands : (call : ViewCall T) (inner : Inner T) → Runs call inner → (answer : Inside T) → InsideFits decode s.failed s.rows op inner answer → (next : Next T) → OrLacking (any.View call) (Taken call inner answer) next → HasEpoch get_epoch next → Fit call inner next
  next_stands call inner h answer f next (inl due) has = subst (Fit call inner) (sym due) (taken_stands call inner h answer f (subst (HasEpoch get_epoch) due has))
  next_stands call inner h answer f next (inr lacking) has = subst (Fit call inner) (sym lacking) (refusing_stands decode get_epoch set_epoch s st op client (any.View call) inner 9 (inr (inr refl)))

module _ {T : Type 0} (decode : List ℕ → Option T) (get_epoch : T → ℕ) (set_epoch : T → ℕ → T) where
  -- what an operation does next stands
  pub take_stands : (s after : Layer T) → Stands decode get_epoch set_epoch s → (t : Takes decode get_epoch set_epoch s after) → NextStands decode get_epoch set_epoch s.failed s.rows s.views s.count t.of.op (operation_of t.of) t.next
  take_stands s after st t = next_stands decode get_epoch set_epoch s st t.of.op t.of.client t.of.call t.of.inner (op_of decode get_epoch set_epoch s st t.of.op (operation_of t.of) t.of.runs) t.answer t.fits t.next t.makes t.has

  pub take_keeps : (s after : Layer T) → Stands decode get_epoch set_epoch s → Takes decode get_epoch set_epoch s after → Stands decode get_epoch set_epoch after
  take_keeps s after st t = subst (Stands decode get_epoch set_epoch) (sym t.new) (turn_keeps decode get_epoch set_epoch s t.of.op (operation_of t.of) t.next st t.of.runs (take_stands s after st t))
