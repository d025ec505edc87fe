-- What a look or a serve leaves any operation with, what its request owes, and that a serve leaves its client's caches.
use Rattle.std.proofs.Common.{◌≡◌, ℕ, ◌≤◌, List, Bool, Option, Some, None, Ok, Err, inr, refl, sym, ◌∙◌, ap, subst}
use Rattle.std.proofs.lemmas.Option.{same_Some}
use Rattle.txn_store.specs.Store.{State as StoreState}
use Rattle.txn_store.specs.Requests.{Serves}
use Rattle.txn_store.specs.declared.request.Request.{Request}
use Rattle.txn_store.specs.Paths.{Segments}
use Rattle.txn_store.specs.declared.store.ObjectMeta.{ObjectMeta}
use Rattle.txn_store.specs.declared.request.Reply.{Reply}
use Rattle.txn_store.specs.declared.request.Reply.TheVariants as replies
use Rattle.txn_steps.specs.declared.boundary.caches.CachedBoundary.{CachedBoundary}
use Rattle.txn_steps.specs.declared.boundary.caches.Caches.{Caches}
use Rattle.txn_steps.specs.declared.boundary.turned.Turned.{Turned}
use Rattle.txn_steps.specs.declared.write.WriteUncheckedOp.{WriteUncheckedOp}
use Rattle.txn_steps.specs.declared.write.WriteUncheckedOp.TheVariants as unchecked
use Rattle.txn_steps.specs.declared.write.WriteStep.{WriteStep}
use Rattle.txn_steps.specs.declared.write.WriteStep.TheVariants as writes
use Rattle.txn_steps.specs.declared.write.WriteOp.{WriteOp}
use Rattle.txn_steps.specs.declared.latest.LatestOp.{LatestOp}
use Rattle.txn_steps.specs.declared.latest.LatestOp.TheVariants as latest
use Rattle.txn_steps.specs.declared.read.ReadOp.{ReadOp}
use Rattle.txn_steps.specs.declared.read.ReadOp.TheVariants as reads
use Rattle.txn_steps.specs.declared.seen.ReadSeenOp.{ReadSeenOp}
use Rattle.txn_steps.specs.declared.seen.ReadSeenOp.TheVariants as seen
use Rattle.txn_steps.specs.Writes.{unchecked_asked, unchecked_turned, unchecked_latest, write_asked, write_asked_at, write_caches_at}
use Rattle.txn_steps.specs.Latest.{ReadAnswer, latest_asked, latest_window_after}
use Rattle.txn_steps.specs.Reads.{read_asked, read_turned, read_caches_after}
use Rattle.txn_steps.specs.SeenSteps.{unchecked_turned as value_turned, seen_asked, seen_turned, seen_latest}
use Rattle.txn_steps.specs.declared.listing.ListOp.{ListOp}
use Rattle.txn_steps.specs.Requests.{next_after}
use Rattle.txn_steps.specs.Listings.{listing_after, listing_turned}
use Rattle.txn_history.specs.declared.event.PlainCall.{PlainCall}
use Rattle.txn_history.specs.declared.event.PlainCall.TheVariants as calls
use Rattle.txn_history.specs.declared.event.PlainAnswer.{PlainAnswer}
use Rattle.txn_history.specs.Trace.{PlainRow}
use Rattle.txn_history.specs.Names.{world_names, world_boundary}
use Rattle.txn_history.specs.Seen.{Store, Look}
use Rattle.txn_history.specs.Facts.{Entered, WasNewest}
use Rattle.txn_machine.specs.declared.plain.doing.PlainDoing.{PlainDoing}
use Rattle.txn_machine.specs.declared.plain.doing.PlainDoing.TheVariants.{Write, WriteUnchecked, Read, ReadUnchecked, ReadSeen, ListIds, Delete, Check, Advance, Ended}
use Rattle.txn_machine.specs.plain.Doing.{asked, read_next, value_next, seen_next, ids_next, said_of, plain_caches_after, turned}
use Rattle.txn_machine.specs.plain.Machine.{effect_of}
use Rattle.txn_machine.proofs.plain.Stands.{IsQuiet, Frame, KnowStands, CachesStand, UncheckedStands, WriteStands, ReadStands, SeenStands, DoingStands, Asks, Runs, RunStands}
use Rattle.txn_machine.proofs.plain.Turns.{may_lack}
use Rattle.txn_machine.proofs.plain.Parts.{check_asks, check_kept}
use Rattle.txn_machine.proofs.plain.BoundServes.{asks_request, asks_look, rows_after, ServesTo, LooksFrom, check_op_asks, check_op_serves, check_op_looks, check_op_keeps, delete_op_asks, delete_op_serves, delete_op_looks, delete_op_keeps, advance_op_asks, advance_op_serves, advance_op_looks, advance_op_keeps}
use Rattle.txn_machine.proofs.plain.WriteServes.{putting_asks, runs_kept}
use Rattle.txn_machine.proofs.plain.ListServes.{list_serves}
use Rattle.txn_machine.proofs.plain.WriteTurns.{unchecked_told}
use Rattle.txn_machine.proofs.plain.ReadTurns.{list_told}
use Rattle.txn_machine.proofs.plain.Serves.{latest_quiet, unchecked_serves, write_serves_at, read_serves, value_serves_at, seen_serves_at, quiet_serve}
use Rattle.txn_machine.proofs.plain.Looks.{write_looks, unchecked_write_looks, read_looks, seen_read_looks}

-- a listing keeps its bounds

abbrev BoundsStay : ListOp → ListOp → Type 0
BoundsStay list next = (next.from ≡ list.from) × (next.to ≡ list.to)

after_stays : (page : ℕ) (list : ListOp) (metas : List ObjectMeta) (after : Option Segments) → BoundsStay list (listing_after world_names page list metas after).0
after_stays page list metas None = (refl, refl)
after_stays page list metas (Some after) = (refl, refl)

bounds_stay : (page : ℕ) (list : ListOp) (reply : Reply) → BoundsStay list (listing_turned world_names page list (Some reply)).0
bounds_stay page list (replies.List (Ok told)) = after_stays page list told.metas (next_after told)
bounds_stay page list (replies.List (Err error)) = (refl, refl)
bounds_stay page list (replies.Put answer) = (refl, refl)
bounds_stay page list (replies.Get answer) = (refl, refl)
bounds_stay page list (replies.Delete answer) = (refl, refl)

module _ {T : Type 0} (decode : List ℕ → Option T) (get_epoch : T → ℕ) where
  -- what a request owes

  module _ (rows : List (PlainRow T)) (store : StoreState) (cached : Option CachedBoundary) (op : ℕ) (call : PlainCall T) (request : Request) (r : Runs decode get_epoch rows op call) where
    unchecked_asks : (id : ℕ) (write : WriteUncheckedOp) → UncheckedStands decode get_epoch rows op call id write → unchecked_asked write ≡ Some request → Asks decode get_epoch rows store op request
    unchecked_asks id (unchecked.Puts version own) h e = subst (λ (q : Request). Asks decode get_epoch rows store op q) (same_Some own request e) (putting_asks decode get_epoch rows store op call id version own r h)
    unchecked_asks id (unchecked.Keeps version) h e = cc
    unchecked_asks id unchecked.Ended h e = cc

    write_asks : (step : WriteStep) (write : WriteOp) → WriteStands decode get_epoch rows store cached op call step write → write_asked_at step write ≡ Some request → Asks decode get_epoch rows store op request
    write_asks writes.Writes write h e = unchecked_asks write.id write.write h.0 e
    write_asks writes.Checks write h e = inr (inr (inr (check_asks rows store cached write.id (Entered decode rows op write.id h.value) write.check request h.checks e)))

    read_asks : (read : ReadOp T) → ReadStands decode rows store cached op read → read_asked read ≡ Some request → IsQuiet request
    read_asks (reads.Reads latest boundary) h e = latest_quiet decode rows op request latest h.0 e
    read_asks (reads.Checks id value check) h e = check_asks rows store cached id (WasNewest decode rows op id value) check request h.1 e
    read_asks reads.Ended h e = cc

    seen_asks : (read : ReadSeenOp T) → SeenStands decode rows call read → seen_asked read ≡ Some request → IsQuiet request
    seen_asks (seen.Gets id own) h e = subst IsQuiet (sym h.2 ∙ same_Some own request e) tt
    seen_asks (seen.Looks id) h e = cc
    seen_asks (seen.Keeps version value) h e = cc
    seen_asks seen.Ended h e = cc

    pub asks_of : (doing : PlainDoing T) → DoingStands decode get_epoch rows store cached op call doing → asked doing ≡ Some (Store request) → Asks decode get_epoch rows store op request
    asks_of (Write write) h e = write_asks write.step write h (asks_request (write_asked write) request e)
    asks_of (WriteUnchecked write) h e = unchecked_asks h.0.0 write h.0.1 (asks_request (unchecked_asked write) request e)
    asks_of (Read read) h e = inr (inr (inr (read_asks read h.1 (asks_request (read_asked read) request e))))
    asks_of (ReadUnchecked read) h e = inr (inr (inr (subst IsQuiet (sym h.3 ∙ same_Some read.request request (asks_request (Some read.request) request e)) tt)))
    asks_of (ReadSeen read) h e = inr (inr (inr (seen_asks read h (asks_request (seen_asked read) request e))))
    asks_of (ListIds list) h e = inr (inr (inr (subst IsQuiet (sym h.1.asks ∙ same_Some list.request request (asks_request (Some list.request) request e)) tt)))
    asks_of (Delete delete) h e = delete_op_asks decode get_epoch rows store cached op call delete request r h e
    asks_of (Check check) h e = check_op_asks decode get_epoch rows store cached op call check request r h e
    asks_of (Advance advance) h e = advance_op_asks decode get_epoch rows store cached op call advance request r h e
    asks_of Ended h e = absurd h

  -- a serve leaves its client's caches

  module _ (caches : Caches) (request : Request) where
    unchecked_keeps : (write : WriteUncheckedOp) → unchecked_asked write ≡ Some request → record { latest = unchecked_latest write caches.latest; boundary = caches.boundary } ≡ caches
    unchecked_keeps (unchecked.Puts version own) e = refl
    unchecked_keeps (unchecked.Keeps version) e = cc
    unchecked_keeps unchecked.Ended e = cc

    write_keeps : (step : WriteStep) (write : WriteOp) → write_asked_at step write ≡ Some request → write_caches_at step write caches ≡ caches
    write_keeps writes.Writes write e = unchecked_keeps write.write e
    write_keeps writes.Checks write e = check_kept caches write.check request e

    latest_keeps : (read : LatestOp T) (said : Turned (ReadAnswer T)) → latest_asked read ≡ Some request → latest_window_after read caches.latest said ≡ caches.latest
    latest_keeps (latest.Probes hand found next own) said e = refl
    latest_keeps (latest.Lists found own) said e = refl
    latest_keeps (latest.Gets id own) said e = refl
    latest_keeps latest.Looks said e = cc
    latest_keeps (latest.Finds successor found) said e = cc
    latest_keeps (latest.Chooses greatest) said e = cc
    latest_keeps (latest.Keeps version value) said e = cc
    latest_keeps (latest.Drops id) said e = cc
    latest_keeps latest.Ended said e = cc

    read_keeps : (read : ReadOp T) (said : Turned (ReadAnswer T)) → read_asked read ≡ Some request → read_caches_after read caches said ≡ caches
    read_keeps (reads.Reads latest boundary) said e = ap (λ vs. record { latest = vs; boundary = caches.boundary }) (latest_keeps latest said e)
    read_keeps (reads.Checks id value check) said e = check_kept caches check request e
    read_keeps reads.Ended said e = cc

    seen_keeps : (read : ReadSeenOp T) → seen_asked read ≡ Some request → record { latest = seen_latest read caches.latest; boundary = caches.boundary } ≡ caches
    seen_keeps (seen.Gets id own) e = refl
    seen_keeps (seen.Looks id) e = cc
    seen_keeps (seen.Keeps version value) e = cc
    seen_keeps seen.Ended e = cc

    pub keeps_caches : (doing : PlainDoing T) (answer : Option (PlainAnswer T)) → asked doing ≡ Some (Store request) → plain_caches_after doing caches answer ≡ caches
    keeps_caches (Write write) answer e = write_keeps write.step write (asks_request (write_asked write) request e)
    keeps_caches (WriteUnchecked write) answer e = unchecked_keeps write (asks_request (unchecked_asked write) request e)
    keeps_caches (Read read) answer e = read_keeps read (said_of answer) (asks_request (read_asked read) request e)
    keeps_caches (ReadUnchecked read) answer e = refl
    keeps_caches (ReadSeen read) answer e = seen_keeps read (asks_request (seen_asked read) request e)
    keeps_caches (ListIds list) answer e = refl
    keeps_caches (Delete delete) answer e = delete_op_keeps caches delete request answer e
    keeps_caches (Check check) answer e = check_op_keeps caches check request answer e
    keeps_caches (Advance advance) answer e = advance_op_keeps caches advance request answer e
    keeps_caches Ended answer e = refl

  -- a serve's turn

  module _ (page : ℕ) (room : 1 ≤ page) (refused : Bool) (failed : List ℕ) (rows : List (PlainRow T)) (old new : StoreState) (caches : Caches) (op : ℕ) (call : PlainCall T) (request : Request) (reply : Reply) (k : KnowStands decode get_epoch failed rows old) (k' : KnowStands decode get_epoch failed (rows_after rows op old request reply) new)
      (f : Frame rows old (rows_after rows op old request reply) new) (s : Serves request old reply new) (honest : new.failures ≡ 0) (r : Runs decode get_epoch rows op call) where
    r' : Runs decode get_epoch (rows_after rows op old request reply) op call
    r' = runs_kept decode get_epoch rows op call (effect_of old.files request reply) r

    pub serve_turn : (doing : PlainDoing T) → RunStands decode get_epoch rows old caches.boundary op call doing → asked doing ≡ Some (Store request) → ServesTo decode get_epoch page refused failed rows old new caches op call doing request reply
    serve_turn (Write write) h e = write_serves_at decode get_epoch failed rows old new caches op call request reply k r s honest write.step write refl h.stands (asks_request (write_asked write) request e)
    serve_turn (WriteUnchecked write) h e =
        let st = h.stands in
        unchecked_told decode get_epoch failed (rows_after rows op old request reply) new caches.boundary op call r' (unchecked_turned write (Some reply)) st.0.0 st.1 st.2 st.3
        (unchecked_serves decode get_epoch failed rows old new caches op call request reply k r s honest st.0.0 write st.0.1 (asks_request (unchecked_asked write) request e))
    serve_turn (Read read) h e =
        may_lack decode get_epoch refused failed (rows_after rows op old request reply) new caches.boundary op call (read_next (read_turned world_names world_boundary page decode read caches (Some reply))) r'
        (read_serves decode get_epoch failed rows old new caches op call request reply k r s honest page room read h.range h.stands.0 h.stands.1 (asks_request (read_asked read) request e))
    serve_turn (ReadUnchecked read) h e =
        may_lack decode get_epoch refused failed (rows_after rows op old request reply) new caches.boundary op call (value_next read (value_turned decode (Some reply))) r'
        (value_serves_at decode get_epoch failed rows old new caches op call request reply k r s honest read h.stands.0 h.stands.1 h.stands.2 h.stands.3 (same_Some read.request request (asks_request (Some read.request) request e)))
    serve_turn (ReadSeen read) h e =
        may_lack decode get_epoch refused failed (rows_after rows op old request reply) new caches.boundary op call (seen_next (seen_turned world_names decode read caches.latest (Some reply))) r'
        (seen_serves_at decode get_epoch failed rows old new caches op call request reply k r s honest read h.stands (asks_request (seen_asked read) request e))
    serve_turn (ListIds list) h e =
        let next = ids_next (listing_turned world_names page list (Some reply)) in
        let same = bounds_stay page list reply in
        let is : list.request ≡ request = same_Some list.request request (asks_request (Some list.request) request e) in
        may_lack decode get_epoch refused failed (rows_after rows op old request reply) new caches.boundary op call next r'
        (quiet_serve decode get_epoch failed rows old new caches op call request reply next (subst IsQuiet (sym h.stands.1.asks ∙ is) tt)
        (list_told decode get_epoch failed rows new caches.boundary op call r (listing_turned world_names page list (Some reply)) (h.stands.0 ∙ (ap (λ b. calls.ListIds b list.to) (sym same.0) ∙ ap (λ b. calls.ListIds (listing_turned world_names page list (Some reply)).0.from b) (sym same.1)))
        (list_serves decode get_epoch failed rows old new op list page reply room k r.begun h.stands.1 (subst (λ (q : Request). Serves q old reply new) (sym is) s) honest)))
    serve_turn (Delete delete) h e = delete_op_serves decode get_epoch refused failed rows old new caches op call delete request reply page k k' f r' h.stands e s honest
    serve_turn (Check check) h e = check_op_serves decode get_epoch refused failed rows old new caches op call check request reply page k k' f r' h.stands e s honest
    serve_turn (Advance advance) h e = advance_op_serves decode get_epoch refused failed rows old new caches op call advance request reply page k k' f r' h.stands e s honest
    serve_turn Ended h e = absurd h.stands

  -- a look's turn

  pub look_turn : (page : ℕ) → 1 ≤ page → (refused : Bool) (failed : List ℕ) (rows : List (PlainRow T)) (store : StoreState) (caches : Caches) (op : ℕ) (call : PlainCall T) → KnowStands decode get_epoch failed rows store → CachesStand decode rows store caches → (doing : PlainDoing T) →
      RunStands decode get_epoch rows store caches.boundary op call doing → asked doing ≡ Some Look → LooksFrom decode get_epoch page refused failed rows store caches op call doing
  look_turn page room refused failed rows store caches op call k c (Write write) h e = write_looks decode get_epoch failed rows store caches op call k h.runs c write h.stands (asks_look (write_asked write) e)
  look_turn page room refused failed rows store caches op call k c (WriteUnchecked write) h e =
      let st = h.stands in
      unchecked_write_looks decode get_epoch failed rows store caches op call k h.runs c write st.0.0 st.1 st.2 st.3 st.0.1 (asks_look (unchecked_asked write) e)
  look_turn page room refused failed rows store caches op call k c (Read read) h e =
      read_looks decode get_epoch failed rows store caches op call k h.runs c refused page room read h.range h.stands.0 h.stands.1 (asks_look (read_asked read) e) (said_of (turned page decode refused (Read read) caches None).1)
  look_turn page room refused failed rows store caches op call k c (ReadUnchecked read) h e = absurd (let none = asks_look (Some read.request) e in cc)
  look_turn page room refused failed rows store caches op call k c (ReadSeen read) h e = seen_read_looks decode get_epoch failed rows store caches op call k h.runs c refused read h.stands (asks_look (seen_asked read) e)
  look_turn page room refused failed rows store caches op call k c (ListIds list) h e = absurd (let none = asks_look (Some list.request) e in cc)
  look_turn page room refused failed rows store caches op call k c (Delete delete) h e = delete_op_looks decode get_epoch refused failed rows store caches op call delete page k h.runs c h.stands e
  look_turn page room refused failed rows store caches op call k c (Check check) h e = check_op_looks decode get_epoch refused failed rows store caches op call check page k h.runs c h.stands e
  look_turn page room refused failed rows store caches op call k c (Advance advance) h e = advance_op_looks decode get_epoch refused failed rows store caches op call advance page k h.runs c h.stands e
  look_turn page room refused failed rows store caches op call k c Ended h e = absurd h.stands
