-- Opening one operation of a state, more rows of it, its turn, and closing it again.
use Rattle.std.proofs.Common.{◌≡◌, ◌≢◌, ℕ, ◌-◌, ◌<◌, ◌≤◌, List, [], ◌∷◌, ◌++◌, length, set, slice_get, true, Option, Some, None, inl, inr, refl, sym, ◌∙◌, ap, subst, arith}
use Rattle.std.proofs.lemmas.List.{length-set, append-nil}
use Rattle.std.proofs.lemmas.Bool.{cases_eq}
use Rattle.std.proofs.lemmas.Option.{same_Some}
use Rattle.txn_store.specs.Store.{State as StoreState}
use Rattle.txn_store.specs.declared.request.Request.{Request}
use Rattle.txn_steps.specs.declared.boundary.caches.CachedBoundary.{CachedBoundary}
use Rattle.txn_steps.specs.declared.boundary.caches.Caches.{Caches}
use Rattle.txn_history.specs.declared.event.PlainCall.{PlainCall}
use Rattle.txn_history.specs.declared.event.PlainAnswer.{PlainAnswer}
use Rattle.txn_history.specs.Trace.{PlainRow}
use Rattle.txn_history.specs.declared.trace.RowOf.TheVariants.{Answered}
use Rattle.txn_history.specs.Lists.{numbered}
use Rattle.txn_history.specs.Seen.{Ask}
use Rattle.txn_history.specs.GoesOn.{may_be_loose, as_loose, left_loose}
use Rattle.txn_history.specs.Calls.{was_begun, begun_count}
use Rattle.txn_history.proofs.Lists.{numbered_set}
use Rattle.txn_machine.specs.declared.plain.doing.PlainDoing.{PlainDoing}
use Rattle.txn_machine.specs.declared.plain.doing.PlainDoing.TheVariants.{Write, WriteUnchecked, Read, ReadUnchecked, ReadSeen, ListIds, Delete, Check, Advance, Ended}
use Rattle.txn_machine.specs.declared.plain.doing.PlainOperation.{PlainOperation}
use Rattle.txn_machine.specs.plain.Doing.{asked}
use Rattle.txn_machine.specs.plain.Machine.{State, with_doing, acted, loosened}
use Rattle.txn_machine.proofs.plain.Lists.{within, numbered_here, numbered_other, numbered_append, get_first}
use Rattle.txn_history.proofs.More.{begun_count-more}
use Rattle.txn_machine.proofs.plain.Stands.{AreOthers, Frame, KnowStands, CachesStand, RunStands, Ends, OpStands, TurnStands, Asks, LooseStands, AtClient, StandsBut, Stands}
use Rattle.txn_machine.proofs.plain.Turns.{RisesTo}
use Rattle.txn_machine.proofs.plain.Rising.{op_rises}
use Rattle.txn_machine.proofs.plain.Frames.{begun_more, caches_more, asks_more, op_more, fresh_more, zero_more}
use Rattle.txn_machine.proofs.plain.Effects.{answered_know, answered_frame}

-- an operation that asks has not ended
pub asks_runs : {T : Type 0} (doing : PlainDoing T) (ask : Ask) → asked doing ≡ Some ask → doing ≢ Ended
asks_runs doing ask e is = let none : asked doing ≡ None = ap asked is in let clash : Some ask ≡ None = sym e ∙ none in cc

-- what is left loose of one request is that request
pub one_left : (op : ℕ) (found : Option Request) (j n : ℕ) (request : Request) → slice_get (as_loose op found) j ≡ Some (n, request) → (n ≡ op) × (found ≡ Some request)
one_left op None j n request e = cc
one_left op (Some q) j n request e = elim (get_first [] (op, q) j (n, request) e) [
  | inl is ↦ (sym (ap (λ (l : ℕ × Request). l.0) is), ap Some (ap (λ (l : ℕ × Request). l.1) is))
  | inr none ↦ (let clash = none.1 in cc)
]

-- the same frame, by the rows that it adds
abbrev pub framed_by : {T : Type 0} {rows : List (PlainRow T)} {store new : StoreState} → (more : List (PlainRow T)) → Frame rows store (rows ++ more) new → Frame rows store (rows ++ more) new
framed_by more f = record { more = more; is = refl; up = f.up; given = f.given; same = f.same }

module _ {T : Type 0} (decode : List ℕ → Option T) (get_epoch : T → ℕ) where
  -- the same, but for another operation, and with other requests loose
  but_for : (s : State T) (hole other : ℕ) (loose : List (ℕ × Request)) → StandsBut decode get_epoch s hole → ((k op : ℕ) (request : Request) → numbered loose k ≡ Some (op, request) → LooseStands decode get_epoch s.trace s.store s.operations op request) →
      ((op : ℕ) (o : PlainOperation T) → op ≢ other → numbered s.operations op ≡ Some o → AtClient decode get_epoch s op o) → StandsBut decode get_epoch (record s { loose = loose }) other
  but_for s hole other loose st asks each = record { paged = st.paged; know = st.know; wide = st.wide; caches = st.caches; count = st.count; zero = st.zero; fresh = st.fresh; loose = asks; each = each }

  -- opens one operation
  pub but : (s : State T) (op : ℕ) → Stands decode get_epoch s → StandsBut decode get_epoch s op
  but s op st = but_for s 0 op s.loose st st.loose (λ n o _ e. st.each n o (λ z. omega (arith, z, (within s.operations n o e).0)) e)

  -- closes it again
  pub close : (s : State T) (op : ℕ) → StandsBut decode get_epoch s op → ((o : PlainOperation T) → numbered s.operations op ≡ Some o → AtClient decode get_epoch s op o) → Stands decode get_epoch s
  close s op st at =
      but_for s op 0 s.loose st st.loose
      (λ n o _ e. elim (cases_eq n op) [
        | inl h ↦ subst (λ (m : ℕ). AtClient decode get_epoch s m o) (sym h) (at o (subst (λ (m : ℕ). numbered s.operations m ≡ Some o) h e))
        | inr h ↦ st.each n o h e
      ])

  -- what stands of an operation at its own place
  pub at_place : (s : State T) (op : ℕ) (o : PlainOperation T) → Stands decode get_epoch s → numbered s.operations op ≡ Some o → AtClient decode get_epoch s op o
  at_place s op o st e = st.each op o (λ z. omega (arith, z, (within s.operations op o e).0)) e

  -- more rows of the open operation, none of which is a begin
  pub framed_but : (s : State T) (op : ℕ) (failed : List ℕ) (after : List (PlainRow T)) (new : StoreState) → (f : Frame s.trace s.store after new) → ((n : ℕ) → n ≢ op → AreOthers n f.more) → begun_count after ≡ begun_count s.trace →
      0 < op → op ≤ length s.operations → KnowStands decode get_epoch failed after new → StandsBut decode get_epoch s op → StandsBut decode get_epoch (record s { store = new; failed = failed; trace = after }) op
  framed_but s op failed after new f others quiet some most k st =
      record {
        paged = st.paged;
        know = k;
        wide = st.wide;
        caches = λ client caches e. caches_more decode get_epoch s.trace s.store after new f caches (st.caches client caches e);
        count = st.count ∙ sym quiet;
        zero = zero_more decode get_epoch s.trace s.store after new f 0 (others 0 (λ z. omega (arith, z, some))) st.zero;
        fresh = λ n h. fresh_more decode get_epoch s.trace s.store after new f n (others n (λ e. omega (arith, h, most, e))) (st.fresh n h);
        loose = λ k n request e. (let l = st.loose k n request e in
            record { asks = asks_more decode get_epoch s.trace s.store after new f n request l.asks; begun = begun_more decode get_epoch s.trace s.store after new f n l.begun; ended = l.ended });
        each = λ n o ne e. (let a = st.each n o ne e in (a.0, a.1, op_more decode get_epoch s.trace s.store after new f n (others n ne) a.0.boundary o.doing a.2));
      }

  -- the open operation does something else, and leaves these caches of its client
  pub acted_but : (s : State T) (op : ℕ) (o : PlainOperation T) (ask : Ask) (doing : PlainDoing T) (caches new : Caches) → numbered s.operations op ≡ Some o → asked o.doing ≡ Some ask → numbered s.caches o.client ≡ Some caches →
      CachesStand decode s.trace s.store new → RisesTo caches.boundary new.boundary → StandsBut decode get_epoch s op → StandsBut decode get_epoch (record s { operations = with_doing s.operations op o doing; caches = set s.caches (o.client - 1) new }) op
  acted_but s op o ask doing caches new found asks kept fits rises st =
      let next : PlainOperation T = record { client = o.client; doing = doing } in
      let some = (within s.operations op o found).0 in
      let some' = (within s.caches o.client caches kept).0 in
      record {
        paged = st.paged;
        know = st.know;
        wide = length-set s.caches (o.client - 1) new ∙ st.wide;
        caches = λ client held e. elim (numbered_set s.caches o.client new client held some' e) [
          | inl here ↦ subst (λ (c : Caches). CachesStand decode s.trace s.store c) here.1 fits
          | inr there ↦ st.caches client held there.1
        ];
        count = length-set s.operations (op - 1) next ∙ st.count;
        zero = st.zero;
        fresh = λ n h. st.fresh n (omega (arith, h, length-set s.operations (op - 1) next));
        loose = λ k n request e. (let l = st.loose k n request e in
            record {
              asks = l.asks;
              begun = l.begun;
              ended = λ o' e'. elim (numbered_set s.operations op next n o' some e') [
                | inl here ↦ absurd (asks_runs o.doing ask asks (l.ended o (subst (λ (m : ℕ). numbered s.operations m ≡ Some o) (sym here.0) found)))
                | inr there ↦ l.ended o' there.1
              ];
            });
        each = λ n o' ne e. elim (numbered_set s.operations op next n o' some e) [
          | inl here ↦ absurd (ne here.0)
          | inr there ↦ beside n o' (st.each n o' ne there.1)
        ];
      }
    where
      beside : (n : ℕ) (o' : PlainOperation T) → AtClient decode get_epoch s n o' → (c : Caches) × (numbered (set s.caches (o.client - 1) new) o'.client ≡ Some c) × OpStands decode get_epoch s.trace s.store c.boundary n o'.doing
      beside n o' a =
          elim (cases_eq o'.client o.client) [
            | inl same ↦
                let kept' : numbered s.caches o'.client ≡ Some caches = subst (λ (m : ℕ). numbered s.caches m ≡ Some caches) (sym same) kept in
                let is : a.0 ≡ caches = same_Some a.0 caches (sym a.1 ∙ kept') in
                let old : OpStands decode get_epoch s.trace s.store caches.boundary n o'.doing = subst (λ (c : Caches). OpStands decode get_epoch s.trace s.store c.boundary n o'.doing) is a.2 in
                (new, subst (λ (m : ℕ). numbered (set s.caches (o.client - 1) new) m ≡ Some new) (sym same) (numbered_here s.caches o.client new caches kept), op_rises decode get_epoch s.trace s.store caches.boundary new.boundary rises n o'.doing old)
            | inr other ↦ (a.0, numbered_other s.caches o.client o'.client new (within s.caches o.client caches kept).0 other ∙ a.1, a.2)
          ]

  -- what a turn leaves of its own operation: it runs on, it has ended, or it is answered
  abbrev pub OwnStands : List ℕ → List (PlainRow T) → StoreState → Option CachedBoundary → ℕ → PlainCall T → PlainDoing T → Option (PlainAnswer T) → Type 0
  OwnStands failed rows store cached op call doing None = OpStands decode get_epoch rows store cached op doing
  OwnStands failed rows store cached op call doing (Some answer) = Ends decode get_epoch failed rows op call doing answer

  pub running : (rows : List (PlainRow T)) (store : StoreState) (cached : Option CachedBoundary) (op : ℕ) (call : PlainCall T) (doing : PlainDoing T) → RunStands decode get_epoch rows store cached op call doing → OpStands decode get_epoch rows store cached op doing
  running rows store cached op call (Write write) r = (call, r)
  running rows store cached op call (WriteUnchecked write) r = (call, r)
  running rows store cached op call (Read read) r = (call, r)
  running rows store cached op call (ReadUnchecked read) r = (call, r)
  running rows store cached op call (ReadSeen read) r = (call, r)
  running rows store cached op call (ListIds list) r = (call, r)
  running rows store cached op call (Delete delete) r = (call, r)
  running rows store cached op call (Check check) r = (call, r)
  running rows store cached op call (Advance advance) r = (call, r)
  running rows store cached op call Ended r = absurd r.stands

  pub own_turn : (failed : List ℕ) (rows : List (PlainRow T)) (store : StoreState) (cached : Option CachedBoundary) (op : ℕ) (call : PlainCall T) (doing : PlainDoing T) (answer : Option (PlainAnswer T)) → TurnStands decode get_epoch failed rows store cached op call (doing, answer) → OwnStands failed rows store cached op call doing answer
  own_turn failed rows store cached op call doing None t = running rows store cached op call doing t
  own_turn failed rows store cached op call doing (Some answer) t = t

  -- an ended operation, wherever its client's caches are
  ended_at : (rows : List (PlainRow T)) (store : StoreState) (cached : Option CachedBoundary) (op : ℕ) (doing : PlainDoing T) → doing ≡ Ended → was_begun rows op ≡ true → OpStands decode get_epoch rows store cached op doing
  ended_at rows store cached op doing is begun = subst (λ (d : PlainDoing T). OpStands decode get_epoch rows store cached op d) (sym is) begun

  -- the open operation acts with no row, and is closed
  closes : (s : State T) (op : ℕ) (o : PlainOperation T) (ask : Ask) (doing : PlainDoing T) (caches new : Caches) → numbered s.operations op ≡ Some o → asked o.doing ≡ Some ask → numbered s.caches o.client ≡ Some caches →
      CachesStand decode s.trace s.store new → RisesTo caches.boundary new.boundary → OpStands decode get_epoch s.trace s.store new.boundary op doing → StandsBut decode get_epoch s op →
      Stands decode get_epoch (record s { operations = with_doing s.operations op o doing; caches = set s.caches (o.client - 1) new })
  closes s op o ask doing caches new found asks kept fits rises own st =
      let next : PlainOperation T = record { client = o.client; doing = doing } in
      close (record s { operations = with_doing s.operations op o doing; caches = set s.caches (o.client - 1) new }) op (acted_but s op o ask doing caches new found asks kept fits rises st)
      (λ o' e. (
      let is : next ≡ o' = same_Some next o' (sym (numbered_here s.operations op next o found) ∙ e) in
      subst (λ (x : PlainOperation T). (c : Caches) × (numbered (set s.caches (o.client - 1) new) x.client ≡ Some c) × OpStands decode get_epoch s.trace s.store c.boundary op x.doing) is
      (new, numbered_here s.caches o.client new caches kept, own)
      ))

  answered_others : (op n : ℕ) (answer : PlainAnswer T) → n ≢ op → AreOthers n (Answered op answer ∷ [])
  answered_others op n answer ne = ((λ e. ne (sym e)), tt)

  -- The open operation takes its turn, and is closed.
  pub turn_keeps : (s : State T) (op : ℕ) (o : PlainOperation T) (ask : Ask) (call : PlainCall T) (doing : PlainDoing T) (answer : Option (PlainAnswer T)) (caches new : Caches) → numbered s.operations op ≡ Some o → asked o.doing ≡ Some ask → numbered s.caches o.client ≡ Some caches →
      CachesStand decode s.trace s.store new → RisesTo caches.boundary new.boundary → OwnStands s.failed s.trace s.store new.boundary op call doing answer → StandsBut decode get_epoch s op → Stands decode get_epoch (acted s op o (doing, answer) new)
  turn_keeps s op o ask call doing None caches new found asks kept fits rises own st =
      subst (λ (t : List (PlainRow T)). Stands decode get_epoch (record s { operations = with_doing s.operations op o doing; caches = set s.caches (o.client - 1) new; trace = t })) (sym (append-nil s.trace))
      (closes s op o ask doing caches new found asks kept fits rises own st)
  turn_keeps s op o ask call doing (Some answer) caches new found asks kept fits rises own st =
      let row : PlainRow T = Answered op answer in
      let after = s.trace ++ row ∷ [] in
      let bound = within s.operations op o found in
      let r = own.runs in
      let k = answered_know decode get_epoch s.failed s.trace s.store op answer st.know (record { call = call; called = r.called; once = r.running; fits = own.fits }) own.tells in
      let f = framed_by (row ∷ []) (answered_frame s.trace s.store op answer) in
      let open' = framed_but s op s.failed after s.store f (λ n ne. answered_others op n answer ne) (begun_count-more s.trace row refl) bound.0 bound.1 k st in
      closes (record s { trace = after }) op o ask doing caches new found asks kept (caches_more decode get_epoch s.trace s.store after s.store f new fits) rises (ended_at after s.store new.boundary op doing own.is_end (begun_more decode get_epoch s.trace s.store after s.store f op r.begun)) open'

  -- a request becomes loose once its operation has ended

  pub loosen_keeps : (s : State T) (op : ℕ) (ask : Ask) → Stands decode get_epoch s → was_begun s.trace op ≡ true → ((o : PlainOperation T) → numbered s.operations op ≡ Some o → o.doing ≡ Ended) → ((request : Request) → may_be_loose ask ≡ Some request → Asks decode get_epoch s.trace s.store op request) →
      Stands decode get_epoch (loosened s op ask)
  loosen_keeps s op ask st begun ended asks =
      but_for s 0 0 (s.loose ++ left_loose op (Some ask)) st
      (λ k n request e. elim (numbered_append s.loose (left_loose op (Some ask)) k (n, request) e) [
        | inl old ↦ st.loose k n request old
        | inr new ↦
            let is = one_left op (may_be_loose ask) new.0 n request new.1 in
            subst (λ (m : ℕ). LooseStands decode get_epoch s.trace s.store s.operations m request) (sym is.0) (record { asks = asks request is.1; begun = begun; ended = ended })
      ]) st.each
