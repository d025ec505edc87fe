-- How a call starts fits.
use Rattle.std.proofs.Common.{◌≡◌, nat_eq, nat_lt, ℕ, zero, suc, ◌+◌, ◌<◌, ◌≤◌, ◌^◌, List, [], ◌∷◌, ◌++◌, length, Bool, true, false, ◌==◌, ◌||◌, cond, Option, Some, None, inl, inr, refl, sym, ap, subst, arith}
use Rattle.std.specs.List.{list_any}
use Rattle.std.specs.List.Sorted.{IsStrictlySortedBy}
use Rattle.std.specs.Ordering.{nat_cmp}
use Rattle.std.specs.declared.ops.Bound.{Bound}
use Rattle.std.proofs.lemmas.Bool.{cases_Bool, cases_lt, both_ways, or_cases, eqb-true, eq-eqb, ltb-true, leb-true}
use Rattle.txn_store.specs.Store.{State as StoreState}
use Rattle.txn_store.specs.types.Numbers.{number_of}
use Rattle.txn_steps.specs.declared.boundary.caches.CachedBoundary.{CachedBoundary}
use Rattle.txn_steps.specs.Writes.{write_started, unchecked_started}
use Rattle.txn_steps.specs.Reads.{read_started}
use Rattle.txn_steps.specs.Listings.{listing_started}
use Rattle.txn_history.specs.declared.event.PlainCall.{PlainCall}
use Rattle.txn_history.specs.declared.event.PlainCall.TheVariants as calls
use Rattle.txn_history.specs.declared.event.PlainAnswer.TheVariants as answers
use Rattle.txn_history.specs.Trace.{PlainRow}
use Rattle.txn_history.specs.declared.trace.RowOf.TheVariants.{Begun}
use Rattle.txn_history.specs.Names.{world_names, world_boundary}
use Rattle.txn_history.specs.History.{newest, boundary, epoch_at}
use Rattle.txn_history.specs.Calls.{begins, ends}
use Rattle.txn_history.specs.Facts.{base_on}
use Rattle.txn_machine.specs.plain.PlainHistory.{tells, is_known_base, PlainOpens, AnswerFits}
use Rattle.txn_history.proofs.Lists.{get_last, any_false, any_last}
use Rattle.txn_machine.specs.declared.plain.doing.PlainDoing.TheVariants.{Write, WriteUnchecked, Read, Ended}
use Rattle.txn_machine.specs.plain.Doing.{started, ReadsBack, FitsWord}
use Rattle.txn_history.proofs.More.{AtRow-now, epoch_kept, newest_grows_by}
use Rattle.txn_machine.proofs.plain.Stands.{create, affects, has_effect, IsWriteOf, Open, Room, CollectingStands, WasAbove, Creates, PuttingStands, KnowStands, Runs, TurnStands, Fresh}
use Rattle.txn_machine.proofs.plain.Turns.{no_id, ended, goes_on}

-- the greatest id
last_base : (base : Option ℕ) → (number_of base == 18446744073709551615) ≡ true → base ≡ Some 18446744073709551615
last_base None e = cc
last_base (Some n) e = ap Some (eqb-true n 18446744073709551615 e)

-- a listing of ids begins with none
none_sorted : IsStrictlySortedBy nat_cmp []
unfolding IsStrictlySortedBy
none_sorted = tt

module _ {T : Type 0} (encode : T → List ℕ) (decode : List ℕ → Option T) (get_epoch : T → ℕ) (failed : List ℕ) (rows : List (PlainRow T)) (store : StoreState) (op : ℕ) (k : KnowStands decode get_epoch failed rows store) (f : Fresh decode get_epoch rows op) where
  -- the rows with a begin
  abbrev after : PlainCall T → List (PlainRow T)
  after call = rows ++ Begun op call ∷ []

  began : (call : PlainCall T) → Runs decode get_epoch (after call) op call
  began call =
      record {
        called = (length rows, get_last rows (Begun op call));
        begun = any_last (begins op) rows (Begun op call) (eq-eqb op op refl);
        running = any_false (ends op) rows (Begun op call) f.answered refl;
      }

  no_effect : (call : PlainCall T) → has_effect (after call) op ≡ false
  no_effect call = any_false (affects op) rows (Begun op call) f.none refl

  base_known : (base : Option ℕ) → is_known_base rows base ≡ true → (base ≡ base_on (number_of base)) × (number_of base ≤ newest rows)
  base_known None e = (refl, omega arith)
  base_known (Some n) e =
      let told = k.history.told (nat_eq n) e in
      let same : n ≡ told.0 = eqb-true n told.0 told.1 in
      let known = told.2 in
      (on n (omega (arith, same, known.0)), omega (arith, same, known.1))
    where
      on : (n : ℕ) → 0 < n → Some n ≡ base_on n
      on zero some = absurd (omega (arith, some))
      on (suc n) some = refl

  id_fits : (base : Option ℕ) → number_of base ≤ newest rows → (number_of base == 18446744073709551615) ≡ false → number_of base + 1 < 2 ^ 64
  id_fits base known next =
      elim (cases_lt (number_of base) 18446744073709551615) [
        | inl lt ↦ omega (arith, lt)
        | inr ge ↦ (let small = k.history.small in absurd (both_ways _ next (eq-eqb (number_of base) 18446744073709551615 (omega (arith, ge, small, known)))))
      ]

  creates : (call : PlainCall T) (base : Option ℕ) (value : T) → is_known_base rows base ≡ true → epoch_at decode get_epoch rows (number_of base) ≤ get_epoch value → (number_of base == 18446744073709551615) ≡ false → decode (encode value) ≡ Some value →
      Creates decode get_epoch (after call) base value (record { id = number_of base + 1; bytes = encode value })
  creates call base value known keeps next reads =
      let is = base_known base known in
      let same : epoch_at decode get_epoch (after call) (number_of base) ≡ epoch_at decode get_epoch rows (number_of base) = epoch_kept decode get_epoch rows (Begun op call ∷ []) (number_of base) is.1 in
      record {
        next = refl;
        fits = id_fits base is.1 next;
        base_is = is.0;
        known = (let up = newest_grows_by rows (Begun op call ∷ []) in omega (arith, is.1, up));
        reads = reads;
        keeps = omega (arith, same, keeps);
      }

  module _ (cached : Option CachedBoundary) where
    exhausted : (call : PlainCall T) (base : Option ℕ) (value : T) → IsWriteOf call base value → (number_of base == 18446744073709551615) ≡ true → TurnStands decode get_epoch failed (after call) store cached op call (Ended, Some (answers.Refused 10))
    exhausted call base value is last =
        ended decode get_epoch failed (after call) store cached op call (answers.Refused 10) (began call)
        (elim is [
          | inl e ↦ subst (λ (c : PlainCall T). AnswerFits decode get_epoch failed (after call) op c (answers.Refused 10)) (sym e) (inl (inr (inr (refl, last_base base last))))
          | inr e ↦ subst (λ (c : PlainCall T). AnswerFits decode get_epoch failed (after call) op c (answers.Refused 10)) (sym e) (inl (inr (inr (refl, last_base base last))))
        ])
        (no_id (after call) (answers.Refused 10) (λ test. refl))

    putting : (call : PlainCall T) (base : Option ℕ) (value : T) → IsWriteOf call base value → Creates decode get_epoch (after call) base value (record { id = number_of base + 1; bytes = encode value }) →
        PuttingStands decode get_epoch (after call) op call (number_of base + 1) (record { id = number_of base + 1; bytes = encode value }) (create (number_of base + 1) (encode value))
    putting call base value is c = record { base = base; value = value; call_is = is; id_is = refl; asks = refl; creates = c; none = no_effect call }

    write_starts : (page : ℕ) (base : Option ℕ) (value : T) → is_known_base rows base ≡ true → epoch_at decode get_epoch rows (number_of base) ≤ get_epoch value → ((number_of base == 18446744073709551615) ≡ false → decode (encode value) ≡ Some value) →
        TurnStands decode get_epoch failed (after (calls.Write base value)) store cached op (calls.Write base value) (started page encode (calls.Write base value))
    write_starts page base value known keeps back =
        let call : PlainCall T = calls.Write base value in
        let Goal : Bool → Type 0 = λ last. TurnStands decode get_epoch failed (after call) store cached op call (cond last (Ended, Some (answers.Refused 10)) (Write (write_started world_names world_boundary base (encode value)), None)) in
        elim (cases_Bool (number_of base == 18446744073709551615)) [
          | inl last ↦ subst Goal (sym last) (exhausted call base value (inl refl) last)
          | inr next ↦ subst Goal (sym next)
              (goes_on decode get_epoch failed (after call) store cached op call (Write (write_started world_names world_boundary base (encode value))) (began call) tt
              (putting call base value (inl refl) (creates call base value known keeps next (back next)), refl, base, value, refl))
        ]

    unchecked_starts : (page : ℕ) (base : Option ℕ) (value : T) → is_known_base rows base ≡ true → epoch_at decode get_epoch rows (number_of base) ≤ get_epoch value → ((number_of base == 18446744073709551615) ≡ false → decode (encode value) ≡ Some value) →
        TurnStands decode get_epoch failed (after (calls.WriteUnchecked base value)) store cached op (calls.WriteUnchecked base value) (started page encode (calls.WriteUnchecked base value))
    unchecked_starts page base value known keeps back =
        let call : PlainCall T = calls.WriteUnchecked base value in
        let Goal : Bool → Type 0 = λ last. TurnStands decode get_epoch failed (after call) store cached op call (cond last (Ended, Some (answers.Refused 10)) (WriteUnchecked (unchecked_started world_names base (encode value)), None)) in
        elim (cases_Bool (number_of base == 18446744073709551615)) [
          | inl last ↦ subst Goal (sym last) (exhausted call base value (inr refl) last)
          | inr next ↦ subst Goal (sym next)
              (goes_on decode get_epoch failed (after call) store cached op call (WriteUnchecked (unchecked_started world_names base (encode value))) (began call) tt
              ((number_of base + 1, putting call base value (inr refl) (creates call base value known keeps next (back next))), base, value, refl))
        ]

    low_room : (call : PlainCall T) (to : ℕ) → (to == 0 || list_any (tells (nat_lt to)) rows) ≡ true → Room (after call) to
    low_room call to e =
        elim (or_cases (to == 0) (list_any (tells (nat_lt to)) rows) e) [
          | inl z ↦ inl (eqb-true to 0 z)
          | inr told ↦
              let one = k.history.told (nat_lt to) told in
              let lt = ltb-true to one.0 one.1 in
              let known = one.2 in
              let up = newest_grows_by rows (Begun op call ∷ []) in
              inr (omega (arith, lt, known.1, up))
        ]

    check_open : (call : PlainCall T) (id : ℕ) → Open (after call) id (WasAbove (after call) op id)
    check_open call id =
        elim (cases_lt (boundary (after call)) id) [ inl above ↦ inr (AtRow-now (after call) op (λ front. boundary front < id) (began call).begun above) | inr below ↦ inl below ]

    collects : (page : ℕ) → 1 ≤ page → (call : PlainCall T) (from to : Bound ℕ) → CollectingStands (after call) from to [] (listing_started world_names page from to).request
    collects page room call from to =
        record {
          after = None;
          limit = page;
          room = room;
          asks = refl;
          reached = 0;
          begins = inl (refl, refl);
          known = omega arith;
          ascending = none_sorted;
          there = λ n e. cc;
          whole = λ n above le e. absurd (omega (arith, above, le));
        }

    -- how a call starts fits
    pub start_turn : (page : ℕ) → 1 ≤ page → (call : PlainCall T) → PlainOpens decode get_epoch rows op call → ReadsBack encode decode call → FitsWord call → TurnStands decode get_epoch failed (after call) store cached op call (started page encode call)
    start_turn page room (calls.Write base value) o back word = write_starts page base value o.known (leb-true _ _ o.keeps) back
    start_turn page room (calls.WriteUnchecked base value) o back word = unchecked_starts page base value o.known (leb-true _ _ o.keeps) back
    start_turn page room calls.Read o back word = goes_on decode get_epoch failed (after calls.Read) store cached op calls.Read (Read (read_started world_boundary)) (began calls.Read) tt (refl, (tt, refl))
    start_turn page room (calls.ReadUnchecked id) o back word =
        let call : PlainCall T = calls.ReadUnchecked id in
        goes_on decode get_epoch failed (after call) store cached op call (started page encode call).0 (began call) tt (id, refl, word, refl)
    start_turn page room (calls.ReadSeen id) o back word =
        let call : PlainCall T = calls.ReadSeen id in
        goes_on decode get_epoch failed (after call) store cached op call (started page encode call).0 (began call) tt (refl, word)
    start_turn page room (calls.ListIds from to) o back word =
        let call : PlainCall T = calls.ListIds from to in
        goes_on decode get_epoch failed (after call) store cached op call (started page encode call).0 (began call) tt (refl, collects page room call from to)
    start_turn page room (calls.Delete id) o back word =
        let call : PlainCall T = calls.Delete id in
        goes_on decode get_epoch failed (after call) store cached op call (started page encode call).0 (began call) tt (id, refl, ((refl, (refl, check_open call id)), refl))
    start_turn page room (calls.Check id) o back word =
        let call : PlainCall T = calls.Check id in
        goes_on decode get_epoch failed (after call) store cached op call (started page encode call).0 (began call) tt (id, refl, (refl, (refl, check_open call id)))
    start_turn page room (calls.Advance to) o back word =
        let call : PlainCall T = calls.Advance to in
        goes_on decode get_epoch failed (after call) store cached op call (started page encode call).0 (began call) tt (refl, low_room call to o.low, refl)
