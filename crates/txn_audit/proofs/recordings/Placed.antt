-- The calls of a log, one row more at a time, and what is noted of them.
use Rattle.std.proofs.Common.{◌≡◌, ◌⊎◌, inl, inr, ◌<◌, ◌+◌, ℕ, zero, suc, Bool, true, false, cond, ◌&&◌, nat_eq, true≢false, List, [], ◌∷◌, ◌++◌, length, map, get_or, Option, Some, None, IsSome, slice_get, refl, sym, ap, subst, ◌∙◌, arith}
use Rattle.std.proofs.lemmas.Bool.{cases_lt, eqb-true, false≢true}
use Rattle.std.specs.Borrow.{Bor}
use Rattle.std.proofs.lemmas.Option.{same_Some, slice_get_within, slice_get-map, slice_get_read}
use Rattle.std.specs.Option.{option_map}
use Rattle.std.specs.HashSet.{contains}
use Rattle.txn_store.specs.declared.request.Request.{Request}
use Rattle.txn_store.specs.declared.request.Reply.{Reply}
use Rattle.txn_history.proofs.Lists.{get_more, get_kept, get_last}
use Rattle.txn_client_journals.specs.declared.rows.LogRow.{LogRow}
use Rattle.txn_audit_recordings.specs.declared.row.RecordedRow.{RecordedRow}
use Rattle.txn_audit_recordings.specs.declared.row.RecordedRow.TheVariants as kinds
use Rattle.txn_audit_effects.specs.declared.clock.Clock.{Clock}
use Rattle.txn_audit_effects.specs.Clocks.{clock_of, MayPrecede}
use Rattle.txn_audit.specs.declared.recordings.placing.Placing.{Placing}
use Rattle.txn_audit.specs.recordings.Calls.{StoreCall, EndsWith, HasCall, IsCall, IsRowAt, StandsBehind, AreCalls, HaveAllReplies, IsInTime, KeepTime}
use Rattle.txn_audit.specs.recordings.Places.{is_same_pair, seen_reply, is_placed, HasAsked, IsReplied, ArePlaced, AllArePlaced, IsTaken, IsSoFar, IsReplayed}
use Rattle.txn_audit.proofs.recordings.Landing.{once_more, noted_more}

module _ {T : Type 0} (recordings : List (List (RecordedRow T))) where
  calls_at_end : (log : List LogRow) (calls : List StoreCall) (row : LogRow) (call : StoreCall) → AreCalls recordings log calls → HasCall recordings call → IsCall call row → AreCalls recordings (log ++ row ∷ []) (calls ++ call ∷ [])
  calls_at_end [] [] row call are has is = (has, is, tt)
  calls_at_end [] (c ∷ calls) row call are has is = absurd are
  calls_at_end (r ∷ log) [] row call are has is = absurd are
  calls_at_end (r ∷ log) (c ∷ calls) row call are has is = (are.0, are.1, calls_at_end log calls row call are.2 has is)

  -- each of these calls is recorded
  pub call_at : (log : List LogRow) (calls : List StoreCall) (i : ℕ) (call : StoreCall) → AreCalls recordings log calls → slice_get calls i ≡ Some call → HasCall recordings call
  call_at [] [] i call are e = cc
  call_at [] (c ∷ calls) i call are e = absurd are
  call_at (r ∷ log) [] i call are e = absurd are
  call_at (r ∷ log) (c ∷ calls) zero call are e = subst (HasCall recordings) (same_Some c call e) are.0
  call_at (r ∷ log) (c ∷ calls) (suc i) call are e = call_at log calls i call are.2 e

  module _ (clocks : List Clock) (log next : List LogRow) (row : LogRow) (old new : Placing) (adds : next ≡ log ++ row ∷ []) (so_far : IsSoFar recordings clocks log old) (taken : IsTaken recordings clocks old row new) where
    abbrev calls_then : List StoreCall
    calls_then = so_far.calls ++ taken.call ∷ []

    asked_then : (i : ℕ) (call : StoreCall) → slice_get calls_then i ≡ Some call → HasAsked new.asked (clock_of clocks call.recording) call.asked
    asked_then i call at = elim (get_more so_far.calls taken.call i call at) [
      | inl before ↦ taken.keeps.asked (clock_of clocks call.recording) call.asked (so_far.asked i call before)
      | inr last ↦ subst (λ (call : StoreCall). HasAsked new.asked (clock_of clocks call.recording) call.asked) last.1 taken.asked
    ]

    time_then : KeepTime clocks calls_then
    time_then i j first second le at_i at_j = elim (get_more so_far.calls taken.call j second at_j) [
      | inl in_j ↦ elim (get_more so_far.calls taken.call i first at_i) [
        | inl in_i ↦ so_far.in_time i j first second le in_i in_j
        | inr last ↦ absurd (let within = slice_get_within so_far.calls j second in_j in let at = last.0 in omega (arith, le, within, at))
      ]
      | inr last_j ↦ subst (λ (second : StoreCall). IsInTime clocks first second second.reply) last_j.1 (taken.in_time first (asked_then i first at_i))
    ]

    placed_then : (recording place : ℕ) → is_placed new recording place ≡ true → (i : ℕ) × (call : StoreCall) × (slice_get calls_then i ≡ Some call) × (call.recording ≡ recording) × (call.place ≡ place)
    placed_then recording place is = elim (taken.places recording place is) [
      | inl before ↦ let found = so_far.placed recording place before in (found.0, found.1, get_kept so_far.calls (taken.call ∷ []) found.0 found.1 found.2, found.3, found.4)
      | inr here ↦ (length so_far.calls, taken.call, get_last so_far.calls taken.call, here.0, here.1)
    ]

    -- one row more
    pub so_far_more : IsSoFar recordings clocks next new
    so_far_more =
        let noted : ℕ × ℕ → _ = λ q. contains is_same_pair old.landed q in
        let noted' : ℕ × ℕ → _ = λ q. contains is_same_pair new.landed q in
        record {
          calls = calls_then;
          recorded = subst (λ rows. AreCalls recordings rows calls_then) (sym adds) (calls_at_end log so_far.calls row taken.call so_far.recorded taken.has taken.is);
          in_time = time_then;
          once = once_more noted noted' log next row adds so_far.landed so_far.once taken.first;
          landed = noted_more noted noted' log next row adds so_far.landed (λ q. taken.keeps.landed q.0 q.1) taken.first;
          asked = asked_then;
          placed = placed_then;
        }

  -- before the first row
  pub none_so_far : (clocks : List Clock) (kept : Placing) → ((recording place : ℕ) → is_placed kept recording place ≡ false) → IsSoFar recordings clocks [] kept
  none_so_far clocks kept none = record {
    calls = [];
    recorded = tt;
    in_time = λ i j first second le at_i at_j. cc;
    once = tt;
    landed = λ client op has. absurd has;
    asked = λ i call at. cc;
    placed = λ recording place is. absurd (true≢false (sym is ∙ none recording place));
  }

  -- at the end

  same_pair : (at at' : ℕ) (reply reply' : Reply) → at ≡ at' → reply ≡ reply' → ◌≡◌ {A = Option (ℕ × Reply)} (Some (at, reply)) (Some (at', reply'))
  same_pair at at' reply reply' one other = rw (one, other) refl

  same_reply : (next : Option (RecordedRow T)) (op : ℕ) (one other : Option (ℕ × Reply)) → EndsWith next op one → EndsWith next op other → IsSome other → one ≡ other
  same_reply next op (Some one) (Some other) ends ends' some =
      let told = sym ends ∙ ends' in
      let at : one.0 ≡ other.0 = cc in
      let what : one.1 ≡ other.1 = cc in
      same_pair one.0 other.0 one.1 other.1 at what
  same_reply next op None (Some other) ends ends' some = absurd (ends other.0 other.1 ends')
  same_reply next op one None ends ends' some = absurd (false≢true some)

  same_fields : (recording place client op asked : ℕ) (request : Request) (reply : Option (ℕ × Reply)) (call : StoreCall) → recording ≡ call.recording → place ≡ call.place → client ≡ call.client → op ≡ call.op → asked ≡ call.asked → request ≡ call.request → reply ≡ call.reply → record { recording = recording; place = place; client = client; op = op; asked = asked; request = request; reply = reply } ≡ call
  same_fields recording place client op asked request reply call a b c d e f g = rw (a, b, c, d, e, f, g) refl

  same_call : (one other : StoreCall) → HasCall recordings one → HasCall recordings other → one.recording ≡ other.recording → one.place ≡ other.place → IsSome other.reply → one ≡ other
  same_call one other has has' recording place some =
      let rows : has.rows ≡ has'.rows = same_Some has.rows has'.rows (sym has.is_recorded ∙ (ap (slice_get recordings) recording ∙ has'.is_recorded)) in
      let client : one.client ≡ other.client = cc in
      let asks : Some (kinds.Ask one.op one.asked one.request) ≡ Some (kinds.Ask other.op other.asked other.request) = sym has.asks ∙ (ap (slice_get has.rows) place ∙ (ap (λ (rows : List (RecordedRow T)). slice_get rows other.place) rows ∙ has'.asks)) in
      let op : one.op ≡ other.op = cc in
      let asked : one.asked ≡ other.asked = cc in
      let request : one.request ≡ other.request = cc in
      let reply : one.reply ≡ other.reply = same_reply (slice_get has'.rows (other.place + 1)) other.op one.reply other.reply (rw (← rows) (rw (← place) (rw (← op) has.ends))) has'.ends some in
      same_fields one.recording one.place one.client one.op one.asked one.request one.reply other recording place client op asked request reply

  module _ (calls : List StoreCall) (kept : Placing) (placed : AllArePlaced kept recordings (length recordings)) (each : (i : ℕ) (call : StoreCall) → slice_get calls i ≡ Some call → HasCall recordings call) (find : (recording place : ℕ) → is_placed kept recording place ≡ true → (i : ℕ) × (call : StoreCall) × (slice_get calls i ≡ Some call) × (call.recording ≡ recording) × (call.place ≡ place)) where
    replied : (call : StoreCall) (has : HasCall recordings call) (reply : Option (ℕ × Reply)) → call.reply ≡ reply → IsSome reply → IsReplied has.rows call.place
    replied call has None e some = absurd (false≢true some)
    replied call has (Some reply) e some = record { op = call.op; asked = call.asked; request = call.request; reply = reply; asks = has.asks; ends = rw e at has.ends }

    whole : HaveAllReplies recordings calls
    whole call has some =
        let at = slice_get_within recordings call.recording has.rows has.is_recorded in
        let row = slice_get_within has.rows call.place (kinds.Ask call.op call.asked call.request) has.asks in
        let found = find call.recording call.place (placed call.recording has.rows at has.is_recorded call.place row (replied call has call.reply refl some)) in
        (found.0, found.2 ∙ ap Some (same_call found.1 call (each found.0 found.1 found.2) has found.3 found.4 some))

  -- after the last row, where no reply lacks a place
  pub all_replayed : (clocks : List Clock) (log : List LogRow) (kept : Placing) → IsSoFar recordings clocks log kept → AllArePlaced kept recordings (length recordings) → IsReplayed recordings clocks log
  all_replayed clocks log kept so_far placed = record {
    calls = so_far.calls;
    recorded = so_far.recorded;
    whole = whole so_far.calls kept placed (λ i call. call_at log so_far.calls i call so_far.recorded) so_far.placed;
    in_time = so_far.in_time;
    once = so_far.once;
  }

  -- the calls of a log, as rows of it

  row_at : (log : List LogRow) (calls : List StoreCall) (i : ℕ) (call : StoreCall) → AreCalls recordings log calls → slice_get calls i ≡ Some call → IsRowAt log i call
  row_at [] [] i call are e = cc
  row_at [] (c ∷ calls) i call are e = absurd are
  row_at (r ∷ log) [] i call are e = absurd are
  row_at (r ∷ log) (c ∷ calls) zero call are e = (r, refl, subst (λ (call : StoreCall). IsCall call r) (same_Some c call e) are.1)
  row_at (r ∷ log) (c ∷ calls) (suc i) call are e = row_at log calls i call are.2 e

  -- a call that was asked later than the reply to another was there stands behind it
  pub stands_behind : (clocks : List Clock) (log : List LogRow) (calls : List StoreCall) (first second : StoreCall) (reply : ℕ × Reply) → AreCalls recordings log calls → HaveAllReplies recordings calls → KeepTime clocks calls → HasCall recordings first → HasCall recordings second → first.reply ≡ Some reply → IsSome second.reply → (IsInTime clocks second first (Some reply) → ⊥) → StandsBehind log first second
  stands_behind clocks log calls first second reply are all in_time has has' told some late =
      let one = all first has (rw told refl) in
      let other = all second has' some in
      elim (cases_lt one.0 other.0) [
        | inl lt ↦ (one.0, other.0, lt, row_at log calls one.0 first are one.1, row_at log calls other.0 second are other.1)
        | inr le ↦ absurd (late (subst (IsInTime clocks second first) told (in_time other.0 one.0 second first le other.1 one.1)))
      ]

-- what is noted of one call

both : (b c : Bool) → (b && c) ≡ true → (b ≡ true) × (c ≡ true)
both true c is = (refl, is)
both false c is = cc

-- a pair is in a set to which another was added
pub with_pair : (b old : Bool) (one other : ℕ × ℕ) → b ≡ is_same_pair one other → cond b true old ≡ true → (old ≡ true) ⊎ ((one.0 ≡ other.0) × (one.1 ≡ other.1))
with_pair true old one other is has = let same = both (nat_eq one.0 other.0) (nat_eq one.1 other.1) (sym is) in inr (eqb-true one.0 other.0 same.0, eqb-true one.1 other.1 same.1)
with_pair false old one other is has = inl has

-- a reply is in time by the clock of its call
pub in_time_by : (clocks : List Clock) (first call : StoreCall) (clock : Clock) (at : ℕ) (seen : Bor Reply) (reply : Option (ℕ × Bor Reply)) → reply ≡ Some (at, seen) → clock ≡ clock_of clocks call.recording → MayPrecede (clock_of clocks first.recording) first.asked clock at → IsInTime clocks first call (seen_reply reply)
in_time_by clocks first call clock at seen reply is of may = rw is (rw (← of) may)

-- one recording more of which each reply has a place
pub placed_more : {T V : Type 0} (rows_of : V → List (RecordedRow T)) (kept : Placing) (recordings : List V) (i : ℕ) (v : V) → i < length recordings → v ≡ get_or recordings i v → AllArePlaced kept (map rows_of recordings) i → ArePlaced kept i (rows_of v) (length (rows_of v)) → AllArePlaced kept (map rows_of recordings) (i + 1)
placed_more rows_of kept recordings i v lt is before here recording rows below at = elim (cases_lt recording i) [
  | inl less ↦ before recording rows less at
  | inr le ↦
      let same : recording ≡ i = omega (arith, below, le) in
      let found : slice_get (map rows_of recordings) i ≡ Some (rows_of v) = slice_get-map rows_of recordings i ∙ ap (option_map rows_of) (slice_get_read recordings (length recordings) i v refl lt is) in
      let its : rows_of v ≡ rows = same_Some (rows_of v) rows (sym found ∙ (ap (slice_get (map rows_of recordings)) (sym same) ∙ at)) in
      subst (λ rows. ArePlaced kept recording rows (length rows)) its (subst (λ n. ArePlaced kept n (rows_of v) (length (rows_of v))) (sym same) here)
]
