-- A crash keeps what stands of a world's state.
use Rattle.std.proofs.Common.{◌≡◌, ◌≢◌, ℕ, suc, ◌+◌, ◌-◌, ◌<◌, List, [], ◌∷◌, map, set, slice_get, true, ◌==◌, cond, Option, Some, None, inl, inr, refl, sym, ◌∙◌, ap, subst, arith}
use Rattle.std.proofs.lemmas.List.{length-set, length-map}
use Rattle.std.proofs.lemmas.Bool.{cases_Bool, cases_eq, eqb-true, eq-eqb}
use Rattle.std.proofs.lemmas.Option.{same_Some}
use Rattle.txn_store.specs.Store.{State as StoreState}
use Rattle.txn_store.specs.declared.request.Request.{Request}
use Rattle.txn_steps.specs.declared.boundary.caches.CachedBoundary.{CachedBoundary}
use Rattle.txn_steps.specs.declared.boundary.caches.Caches.{Caches}
use Rattle.txn_history.specs.Trace.{PlainRow, PlainTold}
use Rattle.txn_history.specs.Lists.{numbered}
use Rattle.txn_history.specs.Seen.{Ask, Store}
use Rattle.txn_history.specs.GoesOn.{may_be_loose, left_loose, all_left_loose}
use Rattle.txn_history.specs.Calls.{was_begun}
use Rattle.txn_history.proofs.Lists.{numbered_set}
use Rattle.txn_machine.specs.declared.plain.doing.PlainDoing.{PlainDoing}
use Rattle.txn_machine.specs.declared.plain.doing.PlainDoing.TheVariants.{Write, WriteUnchecked, Read, ReadUnchecked, ReadSeen, ListIds, Delete, Check, Advance, Ended}
use Rattle.txn_machine.specs.declared.plain.doing.PlainOperation.{PlainOperation}
use Rattle.txn_machine.specs.plain.Doing.{asked}
use Rattle.txn_machine.specs.plain.Machine.{State, no_caches, seen_operations, ended_by, crashed, Crashes}
use Rattle.txn_machine.proofs.plain.Lists.{numbered_here, numbered_other, numbered_map, numbered_append, none_got, get_split}
use Rattle.txn_machine.proofs.plain.Stands.{CachesStand, OpStands, LooseStands, AtClient, Stands}
use Rattle.txn_machine.proofs.plain.States.{one_left, at_place}
use Rattle.txn_machine.proofs.plain.Events.{loose_is, run_of}
use Rattle.txn_machine.proofs.plain.Operations.{asks_of}

-- a loose request of one operation
pub record LeftBy {T : Type 0} (operations : List (PlainOperation T)) (client op : ℕ) (request : Request) : Type 0 where
  pub operation : PlainOperation T
  pub place : ℕ
  pub there : slice_get operations place ≡ Some operation
  pub of : operation.client ≡ client
  pub asks : asked operation.doing ≡ Some (Store request)

left_asks : (op : ℕ) (asks : Option Ask) (j n : ℕ) (request : Request) → slice_get (left_loose op asks) j ≡ Some (n, request) → (n ≡ op) × (asks ≡ Some (Store request))
left_asks op None j n request e = cc
left_asks op (Some ask) j n request e = let is = one_left op (may_be_loose ask) j n request e in (is.0, ap Some (loose_is ask request is.1))

module _ {T : Type 0} where
  -- what one operation leaves loose, where it is the client's
  one_of : (client op : ℕ) (o : PlainOperation T) (j n : ℕ) (request : Request) → slice_get (cond (o.client == client) (left_loose op (asked o.doing)) []) j ≡ Some (n, request) → (n ≡ op) × (o.client ≡ client) × (asked o.doing ≡ Some (Store request))
  one_of client op o j n request e =
      elim (cases_Bool (o.client == client)) [
        | inl same ↦ (let is = left_asks op (asked o.doing) j n request (rw same at e) in (is.0, eqb-true o.client client same, is.1))
        | inr other ↦ none_got j (n, request) (rw other at e)
      ]

  -- what a client's operations leave loose is what they asked
  pub all_left : (client op : ℕ) (operations : List (PlainOperation T)) (j n : ℕ) (request : Request) → slice_get (all_left_loose client op (seen_operations operations)) j ≡ Some (n, request) → (l : LeftBy operations client n request) × (n ≡ op + l.place)
  all_left client op [] j n request e = cc
  all_left client op (o ∷ rest) j n request e =
      elim (get_split (cond (o.client == client) (left_loose op (asked o.doing)) []) (all_left_loose client (op + 1) (seen_operations rest)) j (n, request) e) [
        | inl here ↦ (let is = one_of client op o j n request here in (record { operation = o; place = 0; there = refl; of = is.1; asks = is.2 }, omega (arith, is.0)))
        | inr there ↦ (let l = all_left client (op + 1) rest there.0 n request there.1 in (record { operation = l.0.operation; place = suc l.0.place; there = l.0.there; of = l.0.of; asks = l.0.asks }, omega (arith, l.1)))
      ]

  -- an operation of the client has ended, and no other has changed
  ended_of : (client : ℕ) (o : PlainOperation T) → o.client ≡ client → (ended_by client o).doing ≡ Ended
  ended_of client o same = rw (eq-eqb o.client client same) refl

  same_client : (client : ℕ) (o : PlainOperation T) → (ended_by client o).client ≡ o.client
  same_client client o = elim (cases_Bool (o.client == client)) [ inl e ↦ rw e refl | inr e ↦ rw e refl ]

  other_of : (client : ℕ) (o : PlainOperation T) → o.client ≢ client → ended_by client o ≡ o
  other_of client o ne = elim (cases_Bool (o.client == client)) [ inl e ↦ absurd (ne (eqb-true o.client client e)) | inr e ↦ rw e refl ]

  stays_ended : (client : ℕ) (o : PlainOperation T) → o.doing ≡ Ended → (ended_by client o).doing ≡ Ended
  stays_ended client o is = elim (cases_Bool (o.client == client)) [ inl e ↦ rw e refl | inr e ↦ rw e is ]

module _ {T : Type 0} (decode : List ℕ → Option T) (get_epoch : T → ℕ) (s : State T) (client : ℕ) (st : Stands decode get_epoch s) (some : 0 < client) where
  -- what it keeps, after it kept nothing
  caches_at : (c : ℕ) (caches : Caches) → numbered (set s.caches (client - 1) no_caches) c ≡ Some caches → CachesStand decode s.trace s.store caches
  caches_at c caches e =
      elim (numbered_set s.caches client no_caches c caches some e) [
        | inl here ↦ subst (λ (d : Caches). CachesStand decode s.trace s.store d) here.1 (record { latest = tt; boundary = tt })
        | inr there ↦ st.caches c caches there.1
      ]

  begun_of : (op : ℕ) (o : PlainOperation T) → numbered s.operations op ≡ Some o → was_begun s.trace op ≡ true
  begun_of op o e = let at = at_place decode get_epoch s op o st e in began s.trace s.store at.0.boundary op o.doing at.2
    where
      began : (rows : List (PlainRow T)) (store : StoreState) (cached : Option CachedBoundary) (op : ℕ) (doing : PlainDoing T) → OpStands decode get_epoch rows store cached op doing → was_begun rows op ≡ true
      began rows store cached op (Write write) h = h.1.runs.begun
      began rows store cached op (WriteUnchecked write) h = h.1.runs.begun
      began rows store cached op (Read read) h = h.1.runs.begun
      began rows store cached op (ReadUnchecked read) h = h.1.runs.begun
      began rows store cached op (ReadSeen read) h = h.1.runs.begun
      began rows store cached op (ListIds list) h = h.1.runs.begun
      began rows store cached op (Delete delete) h = h.1.runs.begun
      began rows store cached op (Check check) h = h.1.runs.begun
      began rows store cached op (Advance advance) h = h.1.runs.begun
      began rows store cached op Ended h = h

  -- an operation after the crash
  each_at : (op : ℕ) (o : PlainOperation T) → numbered s.operations op ≡ Some o → AtClient decode get_epoch (crashed s client) op (ended_by client o)
  each_at op o e =
      let at = at_place decode get_epoch s op o st e in
      let own = same_client client o in
      elim (cases_eq o.client client) [
        | inl same ↦ (
          no_caches,
          subst (λ (m : ℕ). numbered (set s.caches (client - 1) no_caches) m ≡ Some no_caches) (sym (own ∙ same)) (numbered_here s.caches client no_caches at.0 (subst (λ (m : ℕ). numbered s.caches m ≡ Some at.0) same at.1)),
          subst (λ (d : PlainDoing T). OpStands decode get_epoch s.trace s.store None op d) (sym (ended_of client o same)) (begun_of op o e),
        )
        | inr other ↦
            subst (λ (x : PlainOperation T). AtClient decode get_epoch (crashed s client) op x) (sym (other_of client o other))
            (at.0, numbered_other s.caches client o.client no_caches some other ∙ at.1, at.2)
      ]

  -- a request that was loose before
  old_loose : (op : ℕ) (request : Request) → LooseStands decode get_epoch s.trace s.store s.operations op request → LooseStands decode get_epoch s.trace s.store (map (ended_by client) s.operations) op request
  old_loose op request l =
      record {
        asks = l.asks;
        begun = l.begun;
        ended = λ o e. (let m = numbered_map (ended_by client) s.operations op o e in ap (λ (x : PlainOperation T). x.doing) m.2 ∙ stays_ended client m.0 (l.ended m.0 m.1));
      }

  -- one that the crash left
  new_loose : (op : ℕ) (request : Request) → (l : LeftBy s.operations client op request) → op ≡ 1 + l.place → LooseStands decode get_epoch s.trace s.store (map (ended_by client) s.operations) op request
  new_loose op request l is =
      let found : numbered s.operations op ≡ Some l.operation = (let next : suc l.place ≡ op = omega (arith, is) in subst (λ (n : ℕ). numbered s.operations n ≡ Some l.operation) next l.there) in
      let at = at_place decode get_epoch s op l.operation st found in
      let run = run_of decode get_epoch s.trace s.store at.0.boundary op l.operation.doing (Store request) l.asks at.2 in
      record {
        asks = asks_of decode get_epoch s.trace s.store at.0.boundary op run.0 request run.1.runs l.operation.doing run.1.stands l.asks;
        begun = run.1.runs.begun;
        ended = λ o e. (
            let m = numbered_map (ended_by client) s.operations op o e in
            let own : l.operation ≡ m.0 = same_Some l.operation m.0 (sym found ∙ m.1) in
            ap (λ (x : PlainOperation T). x.doing) m.2 ∙ ended_of client m.0 (sym (ap (λ (x : PlainOperation T). x.client) own) ∙ l.of)
            );
      }

  crashed_stands : Stands decode get_epoch (crashed s client)
  crashed_stands =
      record {
        paged = st.paged;
        know = st.know;
        wide = length-set s.caches (client - 1) no_caches ∙ st.wide;
        caches = caches_at;
        count = length-map s.operations (ended_by client) ∙ st.count;
        zero = st.zero;
        fresh = λ n h. (let same = length-map s.operations (ended_by client) in st.fresh n (omega (arith, h, same)));
        loose = λ k op request e. elim (numbered_append s.loose (all_left_loose client 1 (seen_operations s.operations)) k (op, request) e) [
          | inl old ↦ old_loose op request (st.loose k op request old)
          | inr new ↦ (let l = all_left client 1 s.operations new.0 op request new.1 in new_loose op request l.0 l.1)
        ];
        each = λ op o ne e. (let m = numbered_map (ended_by client) s.operations op o e in subst (λ (x : PlainOperation T). AtClient decode get_epoch (crashed s client) op x) (sym m.2) (each_at op m.0 m.1));
      }

  pub crash_keeps : (said : PlainTold T) (new : State T) → Crashes s client said new → Stands decode get_epoch new
  crash_keeps said new v = subst (λ (x : State T). Stands decode get_epoch x) (sym v.state) crashed_stands
