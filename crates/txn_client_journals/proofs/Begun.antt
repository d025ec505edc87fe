-- A begin: what a client permits the world allows, and the new operation is the client's.
use Rattle.std.proofs.Common.{◌≡◌, ℕ, zero, suc, ◌≤◌, List, [], ◌∷◌, length, slice_get, ◌&&◌, not, is_some, Bool, true, false, Option, Some, None, option_map, refl, sym, ◌∙◌, ap, arith}
use Rattle.std.proofs.lemmas.Bool.{lt-ltb, le-leb}
use Rattle.std.proofs.lemmas.Option.{same_Some, slice_get-map}
use Rattle.txn_store.specs.types.Numbers.{number_of}
use Rattle.txn_history.specs.declared.event.EventOf.TheVariants as events
use Rattle.txn_history.specs.declared.event.EventFault.{EventFault}
use Rattle.txn_history.specs.declared.event.EventFault.TheVariants as faults
use Rattle.txn_history.specs.Lists.{numbered}
use Rattle.txn_history.specs.History.{epoch_at}
use Rattle.txn_history.specs.Facts.{is_high}
use Rattle.txn_history.specs.Allowed.{is_client, first_fault, is_own, may_use, is_busy, id_seen, base_seen}
use Rattle.txn_machine.proofs.plain.Lists.{within}
use Rattle.txn_history.specs.declared.event.Call.{Call}
use Rattle.txn_history.specs.declared.event.Call.TheVariants as any
use Rattle.txn_history.specs.Views.{View}
use Rattle.txn_history.specs.Calls.{is_below_told, view_used, is_holders, value_written}
use Rattle.txn_history.specs.Seen.{view_in, view_of}
use Rattle.txn_history.specs.OneHistory.{base_of, is_known_base, has_low_boundary, keeps_epoch}
use Rattle.txn_history.proofs.Begins.{plain_low}
use Rattle.txn_machine.specs.views.Layer.{Used}
use Rattle.txn_machine.specs.Machine.{State, seen_view, seen_views, seen_of, used_in, used_by, view_now, refusal_of, IsReached}
use Rattle.txn_machine.proofs.Busy.{reached_busy}
use Rattle.txn_client_journals.specs.Parts as diary
use Rattle.txn_client_journals.specs.Parts.{Part, seen_in, knows_base, is_below_known, epoch_told, is_low, is_in_use}
use Rattle.txn_client_journals.specs.Numbers.{count, number}
use Rattle.txn_client_journals.specs.Traces.{named_call}
use Rattle.txn_client_journals.proofs.Numbers.{IsWithin}
use Rattle.txn_client_journals.proofs.Views.{named_used, used_same}
use Rattle.txn_client_journals.proofs.Told.{base_known, below_known, epoch_known}
use Rattle.txn_client_journals.proofs.Calls as by_client
use Rattle.txn_client_journals.proofs.Ties.{TiedTo}

-- five tests that pass

pub record Passed (one six three four five : Bool) : Type 0 where
  pub one_is : one ≡ true
  pub six_is : six ≡ true
  pub three_is : three ≡ true
  pub four_is : four ≡ true
  pub five_is : five ≡ true

abbrev pub tests : Bool → Bool → Bool → Bool → Bool → Option EventFault
tests one six three four five = first_fault ((one, faults.UnknownNumber) ∷ (six, faults.ViewBusy) ∷ (three, faults.UnknownBase) ∷ (four, faults.BoundaryTooHigh) ∷ (five, faults.EpochLowered) ∷ [])

pub passed : (one six three four five : Bool) → tests one six three four five ≡ None → Passed one six three four five
passed true true true true true h = record { one_is = refl; six_is = refl; three_is = refl; four_is = refl; five_is = refl }
passed true true true true false h = absurd (cc)
passed true true true false five h = absurd (cc)
passed true true false four five h = absurd (cc)
passed true false three four five h = absurd (cc)
passed false six three four five h = absurd (cc)

pub all_pass : (one six three four five : Bool) → Passed one six three four five → tests one six three four five ≡ None
all_pass one six three four five p = rw (p.one_is, p.six_is, p.three_is, p.four_is, p.five_is) refl

and_parts : (a b : Bool) → (a && b) ≡ true → (a ≡ true) × (b ≡ true)
and_parts true b h = (refl, h)
and_parts false b h = absurd (cc)

and_from : (a b : Bool) → a ≡ true → b ≡ true → (a && b) ≡ true
and_from a b e f = rw e f

pub client_above : (client : ℕ) → is_client client client ≡ true → 1 ≤ client
client_above zero h = absurd (cc)
client_above (suc n) h = omega arith

is_one_of : (clients client : ℕ) → 1 ≤ client → client ≤ clients → is_client clients client ≡ true
is_one_of clients zero some le = absurd (omega (arith, some))
is_one_of clients (suc n) some le = lt-ltb n clients (omega (arith, le))

module _ {T : Type 0} where
  view_seen : (views : List (Option (Used T))) (w : ℕ) → view_in (numbered (seen_views views) w) ≡ seen_view (used_by views (Some w))
  view_seen views zero = refl
  view_seen views (suc k) = ap view_in (slice_get-map seen_view views k) ∙ by (slice_get views k)
    where
      by : (found : Option (Option (Used T))) → view_in (option_map seen_view found) ≡ seen_view (used_in found)
      by None = refl
      by (Some None) = refl
      by (Some (Some used)) = refl

  seen_named : (names : ℕ → ℕ) (u : Option (Used T)) → seen_view (option_map (named_used names) u) ≡ seen_view u
  seen_named names None = refl
  seen_named names (Some used) = refl

  own_there : (client : ℕ) (holders : Bool) (u : Option (Used T)) → is_own client holders (seen_view u) ≡ true → (used : Used T) × (u ≡ Some used)
  own_there client holders None h = absurd (cc)
  own_there client holders (Some used) h = (used, refl)

  used_there : (views : List (Option (Used T))) (w : ℕ) (used : Used T) → used_by views (Some w) ≡ Some used → numbered views w ≡ Some (Some used)
  used_there views w used e = by (numbered views w) e
    where
      by : (found : Option (Option (Used T))) → used_in found ≡ Some used → found ≡ Some (Some used)
      by None e = absurd (cc)
      by (Some None) e = absurd (cc)
      by (Some (Some u)) e = ap Some e

  -- a view that a client may use is among its own
  pub usable_within : (client : ℕ) (part : Part T) (holders : Bool) (view : Option ℕ) (size : ℕ) → length part.views ≡ size → may_use (seen_in client part) client holders view ≡ true → (w : ℕ) → view ≡ Some w → IsWithin w size
  usable_within client part holders None size is h w e = absurd (cc)
  usable_within client part holders (Some v) size is h w e =
      let same : v ≡ w = same_Some v w e in
      let own : is_own client holders (seen_view (used_by part.views (Some v))) ≡ true = ap (is_own client holders) (sym (view_seen part.views v)) ∙ h in
      let used = own_there client holders (used_by part.views (Some v)) own in
      let i = within part.views v (Some used.0) (used_there part.views v used.0 used.1) in
      record { above = omega (arith, i.0, same); below = omega (arith, i.1, same, is) }

module _ {T : Type 0} (encode : T → List ℕ) (decode : List ℕ → Option T) (get_epoch : T → ℕ) (set_epoch : T → ℕ → T) (s : State T) (reached : IsReached encode decode get_epoch set_epoch s) (client : ℕ) (part : Part T) (begins views : List ℕ) (t : TiedTo decode get_epoch s client part begins views)
    (call : Call T) (permits : diary.client_begin_fault get_epoch client part call ≡ None) where
  abbrev names : ℕ → ℕ
  names = number views client

  abbrev call' : Call T
  call' = named_call names call

  abbrev base : Option ℕ
  base = base_seen (seen_in client part) call

  ok : Passed (is_client client client && may_use (seen_in client part) client (is_holders call) (view_used call)) (not (is_in_use (used_by part.views (view_used call)))) (knows_base part.told base) (is_low part.told call) (is_high get_epoch (epoch_told part.told (number_of base)) (value_written call))
  ok = passed (is_client client client && may_use (seen_in client part) client (is_holders call) (view_used call)) (not (is_in_use (used_by part.views (view_used call)))) (knows_base part.told base) (is_low part.told call) (is_high get_epoch (epoch_told part.told (number_of base)) (value_written call)) permits

  pub some_client : 1 ≤ client
  some_client = client_above client (and_parts (is_client client client) (may_use (seen_in client part) client (is_holders call) (view_used call)) ok.one_is).0

  may : may_use (seen_in client part) client (is_holders call) (view_used call) ≡ true
  may = (and_parts (is_client client client) (may_use (seen_in client part) client (is_holders call) (view_used call)) ok.one_is).1

  pub uses_within : (w : ℕ) → view_used call ≡ Some w → IsWithin w (count client views)
  uses_within = usable_within client part (is_holders call) (view_used call) (count client views) t.seen.size may

  -- its view is seen in the world as by the client
  view_same : (w : ℕ) → IsWithin w (count client views) → view_of (seen_of s) (names w) ≡ view_of (seen_in client part) w
  view_same w some = view_seen s.views (names w) ∙ (ap seen_view (used_same s.views part.views client begins views w t.seen some) ∙ (seen_named (number begins client) (used_by part.views (Some w)) ∙ sym (view_seen part.views w)))

  pub now_same : view_now s call' ≡ seen_view (used_by part.views (view_used call))
  now_same = ap (λ (view : Option ℕ). seen_view (used_by s.views view)) (sym (by_client.same names call).uses) ∙ by (view_used call) uses_within
    where
      by : (view : Option ℕ) → ((w : ℕ) → view ≡ Some w → IsWithin w (count client views)) → seen_view (used_by s.views (option_map names view)) ≡ seen_view (used_by part.views view)
      by None h = refl
      by (Some w) h = ap seen_view (used_same s.views part.views client begins views w t.seen (h w refl)) ∙ seen_named (number begins client) (used_by part.views (Some w))

  may_there : may_use (seen_of s) client (is_holders call') (view_used call') ≡ true
  may_there = ap (λ (h : Bool). may_use (seen_of s) client h (view_used call')) (by_client.same names call).holders ∙ (ap (may_use (seen_of s) client (is_holders call)) (sym (by_client.same names call).uses) ∙ by (view_used call) uses_within may)
    where
      by : (view : Option ℕ) → ((w : ℕ) → view ≡ Some w → IsWithin w (count client views)) → may_use (seen_in client part) client (is_holders call) view ≡ true → may_use (seen_of s) client (is_holders call) (option_map names view) ≡ true
      by None h m = refl
      by (Some w) h m = ap (is_own client (is_holders call)) (view_same w (h w refl)) ∙ m

  not_busy : not (is_busy (seen_of s) s.trace (view_used call')) ≡ true
  not_busy = ap (λ (view : Option ℕ). not (is_busy (seen_of s) s.trace view)) (sym (by_client.same names call).uses) ∙ by (view_used call) uses_within may ok.six_is
    where
      same_busy : (busy : Option ℕ) → is_some (option_map (number begins client) busy) ≡ is_some busy
      same_busy None = refl
      same_busy (Some op) = refl

      by : (view : Option ℕ) → ((w : ℕ) → view ≡ Some w → IsWithin w (count client views)) → may_use (seen_in client part) client (is_holders call) view ≡ true → not (is_in_use (used_by part.views view)) ≡ true → not (is_busy (seen_of s) s.trace (option_map names view)) ≡ true
      by None h m free = refl
      by (Some w) h m free =
          let own : is_own client (is_holders call) (seen_view (used_by part.views (Some w))) ≡ true = ap (is_own client (is_holders call)) (sym (view_seen part.views w)) ∙ m in
          let used = own_there client (is_holders call) (used_by part.views (Some w)) own in
          let there = t.seen.each w (Some used.0) (used_there part.views w used.0 used.1) in
          ap not (reached_busy encode decode get_epoch set_epoch s reached (names w) (named_used (number begins client) used.0) there ∙ same_busy used.0.busy) ∙ (ap (λ (u : Option (Used T)). not (is_in_use u)) (sym used.1) ∙ free)

  -- its base is the same
  base_same : base_seen (seen_of s) call' ≡ base
  base_same = ap (λ (view : Option ℕ). base_of (id_seen (seen_of s) view) call') (sym (by_client.same names call).uses) ∙ ((by_client.same names call).base (id_seen (seen_of s) (option_map names (view_used call))) ∙ ap (λ (at : Option ℕ). base_of at call) (by (view_used call) uses_within))
    where
      by : (view : Option ℕ) → ((w : ℕ) → view ≡ Some w → IsWithin w (count client views)) → id_seen (seen_of s) (option_map names view) ≡ id_seen (seen_in client part) view
      by None h = refl
      by (Some w) h = ap (option_map (λ (v : View T). v.id)) (view_same w (h w refl))

  known : is_known_base s.trace (base_seen (seen_of s) call') ≡ true
  known = ap (is_known_base s.trace) base_same ∙ by base ok.three_is
    where
      by : (b : Option ℕ) → knows_base part.told b ≡ true → is_known_base s.trace b ≡ true
      by None h = refl
      by (Some id) h = base_known decode get_epoch s.trace part.told id t.told h

  low : has_low_boundary s.trace call' ≡ true
  low = (by_client.same names call).low s.trace ∙ by call ok.four_is
    where
      by : (c : Call T) → is_low part.told c ≡ true → has_low_boundary s.trace c ≡ true
      by (any.Plain c) h = plain_low (is_below_known part.told) (is_below_told s.trace) (λ to. below_known decode get_epoch s.trace part.told to t.told) c h
      by (any.View c) h = refl

  keeps : keeps_epoch decode get_epoch s.trace (base_seen (seen_of s) call') call' ≡ true
  keeps = ap (λ (b : Option ℕ). is_high get_epoch (epoch_at decode get_epoch s.trace (number_of b)) (value_written call')) base_same ∙ (ap (is_high get_epoch (epoch_at decode get_epoch s.trace (number_of base))) (by_client.same names call).written ∙ by base ok.three_is ok.five_is)
    where
      none_high : (value : Option T) → is_high get_epoch 0 value ≡ true
      none_high None = refl
      none_high (Some v) = le-leb 0 (get_epoch v) (omega arith)

      by : (b : Option ℕ) → knows_base part.told b ≡ true → is_high get_epoch (epoch_told part.told (number_of b)) (value_written call) ≡ true → is_high get_epoch (epoch_at decode get_epoch s.trace (number_of b)) (value_written call) ≡ true
      by None k h = none_high (value_written call)
      by (Some id) k h = ap (λ (e : ℕ). is_high get_epoch e (value_written call)) (epoch_known decode get_epoch s.trace part.told id t.told k) ∙ h

  pub allowed : client ≤ s.clients → refusal_of encode decode get_epoch set_epoch s (events.Begin client call') ≡ None
  allowed le =
      all_pass (is_client s.clients client && may_use (seen_of s) client (is_holders call') (view_used call')) (not (is_busy (seen_of s) s.trace (view_used call'))) (is_known_base s.trace (base_seen (seen_of s) call')) (has_low_boundary s.trace call') (keeps_epoch decode get_epoch s.trace (base_seen (seen_of s) call') call')
      (record { one_is = and_from (is_client s.clients client) (may_use (seen_of s) client (is_holders call') (view_used call')) (is_one_of s.clients client some_client le) may_there; six_is = not_busy; three_is = known; four_is = low; five_is = keeps })
