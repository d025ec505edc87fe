-- A begin that is allowed by the views as they stand opens by the rows.
use Rattle.std.proofs.Common.{◌≡◌, ℕ, ◌+◌, ◌≤◌, List, [], ◌∷◌, ◌||◌, ◌&&◌, ◌==◌, nat_eq, length, Bool, true, false, not, cond, Option, Some, None, is_some, ◌⊎◌, inl, inr, refl, sym, ◌∙◌, ap, subst, arith}
use Rattle.std.specs.List.{list_any}
use Rattle.std.specs.Option.{option_map}
use Rattle.std.proofs.lemmas.List.{take_all}
use Rattle.std.proofs.lemmas.Bool.{cases_eq, eq-eqb, leb-true, le-leb, and_parts}
use Rattle.std.proofs.lemmas.Option.{same_Some}
use Rattle.std.proofs.Math.Bool.{or-true}
use Rattle.txn_store.specs.types.Numbers.{number_of}
use Rattle.txn_history.specs.declared.event.PlainCall.{PlainCall}
use Rattle.txn_history.specs.declared.event.PlainCall.TheVariants as plain_calls
use Rattle.txn_history.specs.declared.event.EventOf.TheVariants as events
use Rattle.txn_history.specs.declared.event.EventFault.TheVariants as faults
use Rattle.txn_history.specs.declared.trace.RowOf.TheVariants.{Effect, Begun, Answered}
use Rattle.txn_history.specs.Lists.{numbered}
use Rattle.txn_history.specs.History.{versions_of, epoch_at, epoch_in}
use Rattle.txn_history.specs.Calls.{begun_count, plain_has_low_boundary, view_used, is_holders, tells, tells_id, was_told}
use Rattle.txn_history.specs.Facts.{is_high}
use Rattle.txn_history.specs.Allowed.{first_fault, is_client, is_own, may_use, is_busy, id_seen, base_seen, fault_of}
use Rattle.txn_history.proofs.Entries.{Front, fronts_of, read_within}
use Rattle.txn_history.specs.declared.event.ViewCall.TheVariants as view_calls
use Rattle.txn_history.specs.declared.event.Call.{Call}
use Rattle.txn_history.specs.declared.event.Call.TheVariants as any
use Rattle.txn_history.specs.declared.event.Answer.{Answer}
use Rattle.txn_history.specs.declared.event.Answer.TheVariants as answers
use Rattle.txn_history.specs.Trace.{Row}
use Rattle.txn_history.specs.Views.{or_else, last_told, id_shown, view_at, View, ViewFits, ViewsFit}
use Rattle.txn_history.specs.OneHistory.{Opens, agree, base_of, base_now, is_known_base, has_low_boundary, has_shown_view, keeps_epoch, IsOneHistory}
use Rattle.txn_history.specs.Seen.{AllSeen, view_in, view_of}
use Rattle.txn_history.proofs.Legal.{are_moves}

-- a begin without a fault passed its tests
record Passed (one six three four five : Bool) : Type 0 where
  one_is : one ≡ true
  three_is : three ≡ true
  four_is : four ≡ true
  five_is : five ≡ true

passed : (one six three four five : Bool) → first_fault ((one, faults.UnknownNumber) ∷ (six, faults.ViewBusy) ∷ (three, faults.UnknownBase) ∷ (four, faults.BoundaryTooHigh) ∷ (five, faults.EpochLowered) ∷ []) ≡ None → Passed one six three four five
passed false six three four five e = cc
passed true false three four five e = cc
passed true true false four five e = cc
passed true true true false five e = cc
passed true true true true false e = cc
passed true true true true true e = record { one_is = refl; three_is = refl; four_is = refl; five_is = refl }

module _ {T : Type 0} where
  -- a boundary that is low by one test is so by another that whatever passes the one passes
  pub plain_low : (one other : ℕ → Bool) → ((to : ℕ) → one to ≡ true → other to ≡ true) → (call : PlainCall T) → plain_has_low_boundary one call ≡ true → plain_has_low_boundary other call ≡ true
  plain_low one other passes (plain_calls.Advance to) e = either (to == 0) (one to) (other to) (passes to) e
    where
      either : (a b c : Bool) → (b ≡ true → c ≡ true) → (a || b) ≡ true → (a || c) ≡ true
      either true b c f h = refl
      either false b c f h = f h
  plain_low one other passes (plain_calls.Write base value) e = refl
  plain_low one other passes (plain_calls.WriteUnchecked base value) e = refl
  plain_low one other passes plain_calls.Read e = refl
  plain_low one other passes (plain_calls.ReadUnchecked id) e = refl
  plain_low one other passes (plain_calls.ReadSeen id) e = refl
  plain_low one other passes (plain_calls.ListIds from to) e = refl
  plain_low one other passes (plain_calls.Delete id) e = refl
  plain_low one other passes (plain_calls.Check id) e = refl

  shown_told : (view n : ℕ) (answer : Answer T) → id_shown view answer ≡ Some n → tells_id (nat_eq n) answer ≡ true
  shown_told view n (answers.View shown id value) e = (let q = if_some (shown == view) id n e in eq-eqb n id (sym q))
    where
      if_some : (b : Bool) (i m : ℕ) → cond b (Some i) None ≡ Some m → i ≡ m
      if_some true i m e = same_Some i m e
      if_some false i m e = cc
  shown_told view n (answers.Held shown id value epoch) e = (let q = if_some (shown == view) id n e in eq-eqb n id (sym q))
    where
      if_some : (b : Bool) (i m : ℕ) → cond b (Some i) None ≡ Some m → i ≡ m
      if_some true i m e = same_Some i m e
      if_some false i m e = cc
  shown_told view n _ e = cc

  last_is_told : (view n : ℕ) (last : Option ℕ) (rows : List (Row T)) → last_told (id_shown view) last rows ≡ Some n → (last ≡ Some n) ⊎ (list_any (tells (nat_eq n)) rows ≡ true)
  last_is_told view n last [] e = inl e
  last_is_told view n last (Effect op request ∷ rows) e = last_is_told view n last rows e
  last_is_told view n last (Begun op call ∷ rows) e = last_is_told view n last rows e
  last_is_told view n last (Answered op answer ∷ rows) e =
      elim (last_is_told view n (or_else (id_shown view answer) last) rows e) [
        | inl now ↦ by (id_shown view answer) refl now
        | inr later ↦ inr (rw later (or-true (tells_id (nat_eq n) answer)))
      ]
    where
      by : (found : Option ℕ) → id_shown view answer ≡ found → or_else found last ≡ Some n → (last ≡ Some n) ⊎ ((tells_id (nat_eq n) answer || list_any (tells (nat_eq n)) rows) ≡ true)
      by None is now = inl now
      by (Some m) is now = inr (rw (shown_told view n answer (is ∙ now)) refl)

  -- where a view was last shown, some call answered
  pub stood_told : (rows : List (Row T)) (view n : ℕ) → view_at rows view ≡ Some n → was_told rows n ≡ true
  stood_told rows view n e = elim (last_is_told view n None rows e) [ inl never ↦ absurd (let clash : None ≡ Some n = never in cc) | inr told ↦ told ]

  view_there : (found : Option (Option (View T))) (v : View T) → view_in found ≡ Some v → found ≡ Some (Some v)
  view_there None v e = cc
  view_there (Some view) v e = ap Some e

  own_view : (client : ℕ) (holders : Bool) (found : Option (View T)) → is_own client holders found ≡ true → (v : View T) × (found ≡ Some v) × (agree holders (is_some v.epoch) ≡ true)
  own_view client holders None e = cc
  own_view client holders (Some v) e = (v, refl, (and_parts (v.client == client) (agree holders (is_some v.epoch)) e).1)

module _ {T : Type 0} (decode : List ℕ → Option T) (get_epoch : T → ℕ) (set_epoch : T → ℕ → T) (failed : List ℕ) where
  pub now_front : (rows : List (Row T)) → IsOneHistory decode get_epoch set_epoch failed rows → Front decode get_epoch (versions_of rows)
  now_front rows good = subst (λ (rs : List (Row T)). Front decode get_epoch (versions_of rs)) (take_all (length rows) rows (omega arith)) (fronts_of decode get_epoch rows (are_moves decode get_epoch set_epoch failed rows good) (length rows))

  -- a view never stood at an entry of a greater epoch than the one where it stands
  stood_epoch : (rows : List (Row T)) → IsOneHistory decode get_epoch set_epoch failed rows → (number : ℕ) (v : View T) (f : ViewFits decode get_epoch rows number v) → epoch_at decode get_epoch rows f.shown ≤ epoch_at decode get_epoch rows v.id
  stood_epoch rows good number v f =
      let front = now_front rows good in
      let below : f.shown ≤ v.id = elim f.stands [ inl same ↦ omega (arith, same) | inr up ↦ up.0 ] in
      let here : epoch_at decode get_epoch rows v.id ≡ get_epoch v.object = ap (epoch_in get_epoch) f.object in
      let within = read_within decode get_epoch (versions_of rows) v.id v.object f.object in
      elim (cases_eq f.shown 0) [
        | inl none ↦ (let zero_at : epoch_at decode get_epoch rows f.shown ≡ 0 = ap (λ (n : ℕ). epoch_at decode get_epoch rows n) none in omega (arith, zero_at))
        | inr some ↦ (
            let r = front.reads f.shown (omega (arith, some)) (omega (arith, below, within.1)) in
            let at : epoch_at decode get_epoch rows f.shown ≡ get_epoch r.0 = ap (epoch_in get_epoch) r.1 in
            let up = front.rising f.shown v.id r.0 v.object below r.1 f.object in
            omega (arith, here, at, up)
            )
      ]

  higher : (low high : ℕ) (value : Option T) → low ≤ high → is_high get_epoch high value ≡ true → is_high get_epoch low value ≡ true
  higher low high None le e = refl
  higher low high (Some value) le e = (let top = leb-true high (get_epoch value) e in le-leb low (get_epoch value) (omega (arith, le, top)))

  -- what a begin that is allowed owes by the rows, but for its number
  pub record MayOpen (rows : List (Row T)) (call : Call T) : Type 0 where
    pub shown : has_shown_view rows (view_used call) (is_holders call) ≡ true
    pub known : is_known_base rows (base_now rows call) ≡ true
    pub low : has_low_boundary rows call ≡ true
    pub keeps : keeps_epoch decode get_epoch rows (base_now rows call) call ≡ true

  -- a call that updates its view: the base by the rows is told, and has no greater epoch than the base by the views
  updates : (rows : List (Row T)) → IsOneHistory decode get_epoch set_epoch failed rows → (number : ℕ) (v : View T) → ViewFits decode get_epoch rows number v → (value : T) → is_high get_epoch (epoch_at decode get_epoch rows v.id) (Some value) ≡ true →
      (is_known_base rows (view_at rows number) ≡ true) × ((shown : ℕ) → view_at rows number ≡ Some shown → is_high get_epoch (epoch_at decode get_epoch rows shown) (Some value) ≡ true)
  updates rows good number v f value e = (
    rw f.last (stood_told rows number f.shown f.last),
    λ shown is. (
        let same : f.shown ≡ shown = same_Some f.shown shown (sym f.last ∙ is) in
        subst (λ (n : ℕ). is_high get_epoch (epoch_at decode get_epoch rows n) (Some value) ≡ true) same (higher (epoch_at decode get_epoch rows f.shown) (epoch_at decode get_epoch rows v.id) (Some value) (stood_epoch rows good number v f) e)
        ),
  )

  -- the view that a client may use fits, and is of the call's kind
  record Usable (rows : List (Row T)) (seen : AllSeen T) (holders : Bool) (number : ℕ) : Type 0 where
    view : View T
    there : view_of seen number ≡ Some view
    fits : ViewFits decode get_epoch rows number view
    kind : agree holders (is_some view.epoch) ≡ true

  usable : (rows : List (Row T)) (seen : AllSeen T) (client number : ℕ) (holders : Bool) → ViewsFit decode get_epoch rows seen.views → may_use seen client holders (Some number) ≡ true → Usable rows seen holders number
  usable rows seen client number holders fit e = (let o = own_view client holders (view_of seen number) e in record { view = o.0; there = o.1; fits = fit.each number o.0 (view_there (numbered seen.views number) o.0 o.1); kind = o.2 })

  usable_shown : (rows : List (Row T)) (seen : AllSeen T) (number : ℕ) (holders : Bool) → Usable rows seen holders number → has_shown_view rows (Some number) holders ≡ true
  usable_shown rows seen number holders u = rw u.fits.last (subst (λ (o : Option ℕ). agree holders (is_some o) ≡ true) u.fits.epoch u.kind)

  open_update : (rows : List (Row T)) → IsOneHistory decode get_epoch set_epoch failed rows → (seen : AllSeen T) (holders : Bool) (number : ℕ) (value : T) (u : Usable rows seen holders number) → is_high get_epoch (epoch_at decode get_epoch rows (number_of (id_seen seen (Some number)))) (Some value) ≡ true →
      (is_known_base rows (view_at rows number) ≡ true) × (is_high get_epoch (epoch_at decode get_epoch rows (number_of (view_at rows number))) (Some value) ≡ true)
  open_update rows good seen holders number value u e =
      let at : id_seen seen (Some number) ≡ Some u.view.id = ap (option_map (λ (v : View T). v.id)) u.there in
      let high = subst (λ (o : Option ℕ). is_high get_epoch (epoch_at decode get_epoch rows (number_of o)) (Some value) ≡ true) at e in
      let q = updates rows good number u.view u.fits value high in
      (q.0, subst (λ (o : Option ℕ). is_high get_epoch (epoch_at decode get_epoch rows (number_of o)) (Some value) ≡ true) (sym u.fits.last) (q.1 u.fits.shown u.fits.last))

  plain_opens : (rows : List (Row T)) (call : PlainCall T) → is_known_base rows (base_of None (any.Plain call)) ≡ true → has_low_boundary rows (any.Plain call) ≡ true → keeps_epoch decode get_epoch rows (base_of None (any.Plain call)) (any.Plain call) ≡ true → MayOpen rows (any.Plain call)
  plain_opens rows call known low keeps = record { shown = refl; known = known; low = low; keeps = keeps }

  opens_by : (rows : List (Row T)) → IsOneHistory decode get_epoch set_epoch failed rows → (seen : AllSeen T) (client : ℕ) → ViewsFit decode get_epoch rows seen.views → (call : Call T) → may_use seen client (is_holders call) (view_used call) ≡ true → is_known_base rows (base_seen seen call) ≡ true → has_low_boundary rows call ≡ true →
      keeps_epoch decode get_epoch rows (base_seen seen call) call ≡ true → MayOpen rows call
  opens_by rows good seen client fit (any.Plain call) may known low keeps = plain_opens rows call known low keeps
  opens_by rows good seen client fit (any.View (view_calls.Update view value)) may known low keeps =
      let u = usable rows seen client view false fit may in
      let q = open_update rows good seen false view value u keeps in
      record { shown = usable_shown rows seen view false u; known = q.0; low = low; keeps = q.1 }
  opens_by rows good seen client fit (any.View (view_calls.HolderUpdate view value)) may known low keeps =
      let u = usable rows seen client view true fit may in
      let f = u.fits in
      record { shown = usable_shown rows seen view true u; known = rw f.last (stood_told rows view f.shown f.last); low = low; keeps = refl }
  opens_by rows good seen client fit (any.View (view_calls.Refresh view)) may known low keeps = record { shown = usable_shown rows seen view false (usable rows seen client view false fit may); known = refl; low = low; keeps = refl }
  opens_by rows good seen client fit (any.View (view_calls.Claim view)) may known low keeps = record { shown = usable_shown rows seen view false (usable rows seen client view false fit may); known = refl; low = low; keeps = refl }
  opens_by rows good seen client fit (any.View (view_calls.ClaimAt view at)) may known low keeps = record { shown = usable_shown rows seen view false (usable rows seen client view false fit may); known = refl; low = low; keeps = refl }
  opens_by rows good seen client fit (any.View (view_calls.HolderRefresh view)) may known low keeps = record { shown = usable_shown rows seen view true (usable rows seen client view true fit may); known = refl; low = low; keeps = refl }
  opens_by rows good seen client fit (any.View (view_calls.Init value)) may known low keeps = record { shown = refl; known = known; low = low; keeps = keeps }
  opens_by rows good seen client fit (any.View view_calls.Load) may known low keeps = record { shown = refl; known = known; low = low; keeps = keeps }

  -- a begin that is allowed opens
  pub allowed_opens : (rows : List (Row T)) → IsOneHistory decode get_epoch set_epoch failed rows → (seen : AllSeen T) → ViewsFit decode get_epoch rows seen.views → (client : ℕ) (call : Call T) → fault_of decode get_epoch seen rows (events.Begin client call) ≡ None → MayOpen rows call
  allowed_opens rows good seen fit client call e =
      let base = base_seen seen call in
      let one = is_client seen.calls.clients client && may_use seen client (is_holders call) (view_used call) in
      let p = passed one (not (is_busy seen rows (view_used call))) (is_known_base rows base) (has_low_boundary rows call) (keeps_epoch decode get_epoch rows base call) e in
      opens_by rows good seen client fit call (and_parts (is_client seen.calls.clients client) (may_use seen client (is_holders call) (view_used call)) p.one_is).1 p.three_is p.four_is p.five_is

  pub opens_next : (rows : List (Row T)) → IsOneHistory decode get_epoch set_epoch failed rows → (seen : AllSeen T) → ViewsFit decode get_epoch rows seen.views → (client : ℕ) (call : Call T) → fault_of decode get_epoch seen rows (events.Begin client call) ≡ None → Opens decode get_epoch rows (begun_count rows + 1) call
  opens_next rows good seen fit client call e = (let m = allowed_opens rows good seen fit client call e in record { next = refl; shown = m.shown; known = m.known; low = m.low; keeps = m.keeps })
