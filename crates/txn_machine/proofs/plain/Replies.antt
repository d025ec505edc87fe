-- A reply is of the kind that the operation asks for, and a look is asked for where none is.
use Rattle.std.proofs.Common.{◌≡◌, ℕ, List, Option, Some, None, sym, subst, ◌∙◌}
use Rattle.std.proofs.lemmas.Option.{same_Some}
use Rattle.txn_store.specs.Store.{State as StoreState}
use Rattle.txn_store.specs.Requests.{Serves}
use Rattle.txn_store.specs.declared.request.Request.{Request}
use Rattle.txn_store.specs.declared.request.Request.TheVariants as requests
use Rattle.txn_store.specs.declared.request.Reply.{Reply}
use Rattle.txn_store.specs.declared.request.Reply.TheVariants as replies
use Rattle.txn_steps.specs.declared.boundary.caches.CachedBoundary.{CachedBoundary}
use Rattle.txn_steps.specs.declared.boundary.boundary_read.BoundaryRead.{BoundaryRead}
use Rattle.txn_steps.specs.declared.boundary.boundary_read.BoundaryRead.TheVariants as reading
use Rattle.txn_steps.specs.declared.boundary.check.BoundaryStep.{BoundaryStep}
use Rattle.txn_steps.specs.declared.boundary.check.BoundaryStep.TheVariants as boundary_step
use Rattle.txn_steps.specs.declared.boundary.check.CheckOp.{CheckOp}
use Rattle.txn_steps.specs.declared.boundary.check.CheckOp.TheVariants as checks
use Rattle.txn_steps.specs.declared.boundary.advance.BoundaryAdvance.{BoundaryAdvance}
use Rattle.txn_steps.specs.declared.boundary.advance.BoundaryAdvance.TheVariants as raising
use Rattle.txn_steps.specs.declared.boundary.advance.AdvanceOp.{AdvanceOp}
use Rattle.txn_steps.specs.declared.boundary.advance.AdvanceOp.TheVariants as advances
use Rattle.txn_steps.specs.boundary.BoundaryReads.{boundary_read_asked, IsBoundaryReply}
use Rattle.txn_steps.specs.boundary.BoundaryChecks.{asked_at, IsReplyAt}
use Rattle.txn_steps.specs.boundary.Checks.{check_asked, IsCheckReply}
use Rattle.txn_steps.specs.boundary.BoundaryAdvances.{boundary_advance_asked, IsBoundaryAdvanceReply}
use Rattle.txn_steps.specs.boundary.Advances.{advance_asked, IsAdvanceReply}
use Rattle.txn_steps.specs.boundary.Steps.{IsPutReply, IsGetReply, IsListReply, IsDeleteReply}
use Rattle.txn_steps.specs.declared.write.WriteUncheckedOp.{WriteUncheckedOp}
use Rattle.txn_steps.specs.declared.write.WriteUncheckedOp.TheVariants as unchecked
use Rattle.txn_steps.specs.declared.write.WriteStep.{WriteStep}
use Rattle.txn_steps.specs.declared.write.WriteStep.TheVariants as writes
use Rattle.txn_steps.specs.declared.write.WriteOp.{WriteOp}
use Rattle.txn_steps.specs.declared.latest.LatestOp.{LatestOp}
use Rattle.txn_steps.specs.declared.latest.LatestOp.TheVariants as latest
use Rattle.txn_steps.specs.declared.read.ReadOp.{ReadOp}
use Rattle.txn_steps.specs.declared.read.ReadOp.TheVariants as reads
use Rattle.txn_steps.specs.declared.seen.ReadSeenOp.{ReadSeenOp}
use Rattle.txn_steps.specs.declared.seen.ReadSeenOp.TheVariants as seen
use Rattle.txn_steps.specs.declared.delete.RemovalStep.{RemovalStep}
use Rattle.txn_steps.specs.declared.delete.RemovalStep.TheVariants as removals
use Rattle.txn_steps.specs.declared.delete.DeleteStep.{DeleteStep}
use Rattle.txn_steps.specs.declared.delete.DeleteStep.TheVariants as deletes
use Rattle.txn_steps.specs.declared.delete.DeleteUncheckedOp.{DeleteUncheckedOp}
use Rattle.txn_steps.specs.declared.delete.DeleteOp.{DeleteOp}
use Rattle.txn_steps.specs.Writes.{unchecked_asked, IsUncheckedReply, write_asked, write_asked_at, IsWriteReplyAt}
use Rattle.txn_steps.specs.Latest.{latest_asked, IsLatestReply}
use Rattle.txn_steps.specs.Reads.{read_asked, IsReadReply}
use Rattle.txn_steps.specs.SeenSteps.{seen_asked, IsSeenReply}
use Rattle.txn_steps.specs.Deletes.{removal_asked_at, IsRemovalReplyAt, delete_asked, delete_asked_at, IsDeleteReplyAt}
use Rattle.txn_history.specs.declared.event.PlainCall.{PlainCall}
use Rattle.txn_history.specs.Trace.{PlainRow}
use Rattle.txn_history.specs.Lists.{numbered}
use Rattle.txn_history.specs.Seen.{Store, Look}
use Rattle.txn_history.specs.Facts.{Entered, WasNewest}
use Rattle.txn_machine.specs.declared.plain.doing.PlainDoing.{PlainDoing}
use Rattle.txn_machine.specs.declared.plain.doing.PlainDoing.TheVariants.{Write, WriteUnchecked, Read, ReadUnchecked, ReadSeen, ListIds, Delete, Check, Advance, Ended}
use Rattle.txn_machine.specs.declared.plain.doing.PlainOperation.{PlainOperation}
use Rattle.txn_machine.specs.plain.Doing.{asked, InRange, IsReply}
use Rattle.txn_machine.specs.plain.Machine.{State, IsReached}
use Rattle.txn_machine.proofs.plain.Stands.{ReadingStands, Stands, StepStands, CheckStands, RaiseStands, AdvanceStands, WasAbove, RemovalStands, DeleteStepStands, LatestStands, ReadStands, SeenStands, UncheckedStands, WriteStands, DoingStands, OpStands}
use Rattle.txn_machine.proofs.plain.BoundServes.{asks_request, asks_look}
use Rattle.txn_machine.proofs.plain.States.{at_place}
use Rattle.txn_machine.proofs.plain.Events.{run_of}
use Rattle.txn_machine.proofs.plain.World.{reached_stands}

module _ (old new : StoreState) (request : Request) (reply : Reply) (s : Serves request old reply new) where
  -- a reply is of its request's kind

  abbrev IsReplyTo : Request → Reply → Type 0
  IsReplyTo (requests.Put path bytes mode) r = IsPutReply r
  IsReplyTo (requests.Get path known) r = IsGetReply r
  IsReplyTo (requests.List prefix after limit) r = IsListReply r
  IsReplyTo (requests.Delete path) r = IsDeleteReply r

  of_kind : (own asks : Request) → own ≡ request → own ≡ asks → IsReplyTo asks reply
  of_kind own asks is e = by asks reply (subst (λ (q : Request). Serves q old reply new) (sym is ∙ e) s)
    where
      by : (q : Request) (r : Reply) → Serves q old r new → IsReplyTo q r
      by (requests.Put path bytes mode) (replies.Put answer) s' = tt
      by (requests.Get path known) (replies.Get answer) s' = tt
      by (requests.List prefix after limit) (replies.List answer) s' = tt
      by (requests.Delete path) (replies.Delete answer) s' = tt
      by _ _ s' = absurd s'

  module _ {T : Type 0} (decode : List ℕ → Option T) (get_epoch : T → ℕ) (rows : List (PlainRow T)) (store : StoreState) (cached : Option CachedBoundary) (op : ℕ) (call : PlainCall T) where
    -- the parts

    reading_reply : (id : ℕ) (Q : Type 0) (read : BoundaryRead) → ReadingStands rows store cached id Q read → boundary_read_asked read ≡ Some request → IsBoundaryReply read (Some reply)
    reading_reply id Q (reading.Looks path) h e = cc
    reading_reply id Q (reading.Gets own) h e = of_kind own _ (same_Some own request e) h.asks
    reading_reply id Q (reading.Holds known) h e = cc

    step_reply : (id : ℕ) (Q : Type 0) (step : BoundaryStep) (read : BoundaryRead) → StepStands rows store cached id Q step read → asked_at step read ≡ Some request → IsReplyAt step read (Some reply)
    step_reply id Q boundary_step.Looks read h e = cc
    step_reply id Q boundary_step.Reads read h e = reading_reply id Q read h e

    check_reply : (id : ℕ) (Q : Type 0) (check : CheckOp) → CheckStands rows store cached id Q check → check_asked check ≡ Some request → IsCheckReply check (Some reply)
    check_reply id Q (checks.Checks check) h e = step_reply id Q check.step check.read h.1 e
    check_reply id Q (checks.Drops i) h e = cc

    raise_reply : (target : ℕ) (raise : BoundaryAdvance) → RaiseStands rows store cached target raise → boundary_advance_asked raise ≡ Some request → IsBoundaryAdvanceReply raise (Some reply)
    raise_reply target (raising.Looks t) h e = cc
    raise_reply target (raising.Reads t again read) h e = reading_reply 0 ⊥ read h.1 e
    raise_reply target (raising.Puts t own) h e = of_kind own _ (same_Some own request e) h.1.asks
    raise_reply target (raising.Keeps t token) h e = cc

    -- the operations

    unchecked_reply : (id : ℕ) (write : WriteUncheckedOp) → UncheckedStands decode get_epoch rows op call id write → unchecked_asked write ≡ Some request → IsUncheckedReply write (Some reply)
    unchecked_reply id (unchecked.Puts version own) h e = of_kind own _ (same_Some own request e) h.asks
    unchecked_reply id (unchecked.Keeps version) h e = cc
    unchecked_reply id unchecked.Ended h e = cc

    write_reply : (step : WriteStep) (write : WriteOp) → WriteStands decode get_epoch rows store cached op call step write → write_asked_at step write ≡ Some request → IsWriteReplyAt step write (Some reply)
    write_reply writes.Writes write h e = unchecked_reply write.id write.write h.0 e
    write_reply writes.Checks write h e = check_reply write.id (Entered decode rows op write.id h.value) write.check h.checks e

    latest_reply : (read : LatestOp T) → LatestStands decode rows op read → latest_asked read ≡ Some request → IsLatestReply read (Some reply)
    latest_reply (latest.Probes hand found next own) h e = of_kind own _ (same_Some own request e) h.3
    latest_reply (latest.Lists found own) h e = of_kind own _ (same_Some own request e) h.asks
    latest_reply (latest.Gets id own) h e = of_kind own _ (same_Some own request e) h.1
    latest_reply latest.Looks h e = cc
    latest_reply (latest.Finds successor found) h e = cc
    latest_reply (latest.Chooses greatest) h e = cc
    latest_reply (latest.Keeps version value) h e = cc
    latest_reply (latest.Drops id) h e = cc
    latest_reply latest.Ended h e = cc

    read_reply : (read : ReadOp T) → ReadStands decode rows store cached op read → read_asked read ≡ Some request → IsReadReply read (Some reply)
    read_reply (reads.Reads latest boundary) h e = latest_reply latest h.0 e
    read_reply (reads.Checks id value check) h e = check_reply id (WasNewest decode rows op id value) check h.1 e
    read_reply reads.Ended h e = cc

    seen_reply : (read : ReadSeenOp T) → SeenStands decode rows call read → seen_asked read ≡ Some request → IsSeenReply read (Some reply)
    seen_reply (seen.Gets id own) h e = of_kind own _ (same_Some own request e) h.2
    seen_reply (seen.Looks id) h e = cc
    seen_reply (seen.Keeps version value) h e = cc
    seen_reply seen.Ended h e = cc

    removal_reply : (id : ℕ) (step : RemovalStep) (removal : DeleteUncheckedOp) → RemovalStands rows op id step removal.request → removal_asked_at step removal ≡ Some request → IsRemovalReplyAt step (Some reply)
    removal_reply id removals.Removes removal h e = of_kind removal.request _ (same_Some removal.request request e) h.0
    removal_reply id removals.Drops removal h e = cc

    delete_reply : (id : ℕ) (step : DeleteStep) (delete : DeleteOp) → DeleteStepStands rows store cached op id step delete → delete_asked_at step delete ≡ Some request → IsDeleteReplyAt step delete (Some reply)
    delete_reply id deletes.Checks delete h e = check_reply id (WasAbove rows op id) delete.check h.0 e
    delete_reply id deletes.Removes delete h e = removal_reply id delete.removal.step delete.removal h.1 e

    advance_reply : (advance : AdvanceOp) → AdvanceStands rows store cached call advance → advance_asked advance ≡ Some request → IsAdvanceReply advance (Some reply)
    advance_reply (advances.Raises target raise) h e = raise_reply target raise h.2 e
    advance_reply (advances.Drops target) h e = cc

    pub doing_reply : (doing : PlainDoing T) → DoingStands decode get_epoch rows store cached op call doing → asked doing ≡ Some (Store request) → IsReply doing (Some reply)
    doing_reply (Write write) h e = write_reply write.step write h (asks_request (write_asked write) request e)
    doing_reply (WriteUnchecked write) h e = unchecked_reply h.0.0 write h.0.1 (asks_request (unchecked_asked write) request e)
    doing_reply (Read read) h e = read_reply read h.1 (asks_request (read_asked read) request e)
    doing_reply (ReadUnchecked read) h e = of_kind read.request _ (same_Some read.request request (asks_request (Some read.request) request e)) h.3
    doing_reply (ReadSeen read) h e = seen_reply read h (asks_request (seen_asked read) request e)
    doing_reply (ListIds list) h e = of_kind list.request _ (same_Some list.request request (asks_request (Some list.request) request e)) h.1.asks
    doing_reply (Delete delete) h e = delete_reply h.0 delete.step delete h.2 (asks_request (delete_asked delete) request e)
    doing_reply (Check check) h e = check_reply h.0 (WasAbove rows op h.0) check h.2 (asks_request (check_asked check) request e)
    doing_reply (Advance advance) h e = advance_reply advance h (asks_request (advance_asked advance) request e)
    doing_reply Ended h e = absurd h

module _ {T : Type 0} (decode : List ℕ → Option T) (get_epoch : T → ℕ) (rows : List (PlainRow T)) (store : StoreState) (cached : Option CachedBoundary) (op : ℕ) (call : PlainCall T) where
  -- a look is asked for where nothing is asked of the store

  reading_look : (read : BoundaryRead) → boundary_read_asked read ≡ None → IsBoundaryReply read None
  reading_look (reading.Looks path) e = tt
  reading_look (reading.Gets own) e = cc
  reading_look (reading.Holds known) e = tt

  step_look : (step : BoundaryStep) (read : BoundaryRead) → asked_at step read ≡ None → IsReplyAt step read None
  step_look boundary_step.Looks read e = tt
  step_look boundary_step.Reads read e = reading_look read e

  check_look : (check : CheckOp) → check_asked check ≡ None → IsCheckReply check None
  check_look (checks.Checks check) e = step_look check.step check.read e
  check_look (checks.Drops i) e = tt

  raise_look : (raise : BoundaryAdvance) → boundary_advance_asked raise ≡ None → IsBoundaryAdvanceReply raise None
  raise_look (raising.Looks t) e = tt
  raise_look (raising.Reads t again read) e = reading_look read e
  raise_look (raising.Puts t own) e = cc
  raise_look (raising.Keeps t token) e = tt

  unchecked_look : (id : ℕ) (write : WriteUncheckedOp) → UncheckedStands decode get_epoch rows op call id write → unchecked_asked write ≡ None → IsUncheckedReply write None
  unchecked_look id (unchecked.Puts version own) h e = cc
  unchecked_look id (unchecked.Keeps version) h e = tt
  unchecked_look id unchecked.Ended h e = absurd h

  write_look : (step : WriteStep) (write : WriteOp) → WriteStands decode get_epoch rows store cached op call step write → write_asked_at step write ≡ None → IsWriteReplyAt step write None
  write_look writes.Writes write h e = unchecked_look write.id write.write h.0 e
  write_look writes.Checks write h e = check_look write.check e

  latest_look : (read : LatestOp T) → LatestStands decode rows op read → latest_asked read ≡ None → IsLatestReply read None
  latest_look latest.Looks h e = tt
  latest_look (latest.Finds successor found) h e = tt
  latest_look (latest.Chooses greatest) h e = tt
  latest_look (latest.Keeps version value) h e = tt
  latest_look (latest.Drops id) h e = tt
  latest_look (latest.Probes hand found next own) h e = cc
  latest_look (latest.Lists found own) h e = cc
  latest_look (latest.Gets id own) h e = cc
  latest_look latest.Ended h e = absurd h

  read_look : (read : ReadOp T) → ReadStands decode rows store cached op read → read_asked read ≡ None → IsReadReply read None
  read_look (reads.Reads latest boundary) h e = latest_look latest h.0 e
  read_look (reads.Checks id value check) h e = check_look check e
  read_look reads.Ended h e = absurd h

  seen_look : (read : ReadSeenOp T) → SeenStands decode rows call read → seen_asked read ≡ None → IsSeenReply read None
  seen_look (seen.Looks id) h e = tt
  seen_look (seen.Keeps version value) h e = tt
  seen_look (seen.Gets id own) h e = cc
  seen_look seen.Ended h e = absurd h

  removal_look : (step : RemovalStep) (removal : DeleteUncheckedOp) → removal_asked_at step removal ≡ None → IsRemovalReplyAt step None
  removal_look removals.Removes removal e = cc
  removal_look removals.Drops removal e = tt

  delete_look : (step : DeleteStep) (delete : DeleteOp) → delete_asked_at step delete ≡ None → IsDeleteReplyAt step delete None
  delete_look deletes.Checks delete e = check_look delete.check e
  delete_look deletes.Removes delete e = removal_look delete.removal.step delete.removal e

  advance_look : (advance : AdvanceOp) → advance_asked advance ≡ None → IsAdvanceReply advance None
  advance_look (advances.Raises target raise) e = raise_look raise e
  advance_look (advances.Drops target) e = tt

  pub doing_look : (doing : PlainDoing T) → DoingStands decode get_epoch rows store cached op call doing → asked doing ≡ Some Look → IsReply doing None
  doing_look (Write write) h e = write_look write.step write h (asks_look (write_asked write) e)
  doing_look (WriteUnchecked write) h e = unchecked_look h.0.0 write h.0.1 (asks_look (unchecked_asked write) e)
  doing_look (Read read) h e = read_look read h.1 (asks_look (read_asked read) e)
  doing_look (ReadUnchecked read) h e = absurd (let none = asks_look (Some read.request) e in cc)
  doing_look (ReadSeen read) h e = seen_look read h (asks_look (seen_asked read) e)
  doing_look (ListIds list) h e = absurd (let none = asks_look (Some list.request) e in cc)
  doing_look (Delete delete) h e = delete_look delete.step delete (asks_look (delete_asked delete) e)
  doing_look (Check check) h e = check_look check (asks_look (check_asked check) e)
  doing_look (Advance advance) h e = advance_look advance (asks_look (advance_asked advance) e)
  doing_look Ended h e = absurd h

module _ {T : Type 0} (decode : List ℕ → Option T) (get_epoch : T → ℕ) (s : State T) (st : Stands decode get_epoch s) (op : ℕ) (o : PlainOperation T) (found : numbered s.operations op ≡ Some o) where
  -- of a state that stands

  pub stood_replies : (request : Request) (reply : Reply) (new : StoreState) → asked o.doing ≡ Some (Store request) → Serves request s.store reply new → IsReply o.doing (Some reply)
  stood_replies request reply new asks serves =
      let at = at_place decode get_epoch s op o st found in
      let run = run_of decode get_epoch s.trace s.store at.0.boundary op o.doing (Store request) asks at.2 in
      doing_reply s.store new request reply serves decode get_epoch s.trace s.store at.0.boundary op run.0 o.doing run.1.stands asks

  pub stood_looks : asked o.doing ≡ Some Look → IsReply o.doing None
  stood_looks asks =
      let at = at_place decode get_epoch s op o st found in
      let run = run_of decode get_epoch s.trace s.store at.0.boundary op o.doing Look asks at.2 in
      doing_look decode get_epoch s.trace s.store at.0.boundary op run.0 o.doing run.1.stands asks

  pub stood_range : InRange o.doing
  stood_range = let at = at_place decode get_epoch s op o st found in by s.trace s.store at.0.boundary op o.doing at.2
    where
      by : (rows : List (PlainRow T)) (store : StoreState) (cached : Option CachedBoundary) (op : ℕ) (doing : PlainDoing T) → OpStands decode get_epoch rows store cached op doing → InRange doing
      by rows store cached op (Read read) h = h.1.range
      by rows store cached op (Write write) h = tt
      by rows store cached op (WriteUnchecked write) h = tt
      by rows store cached op (ReadUnchecked read) h = tt
      by rows store cached op (ReadSeen read) h = tt
      by rows store cached op (ListIds list) h = tt
      by rows store cached op (Delete delete) h = tt
      by rows store cached op (Check check) h = tt
      by rows store cached op (Advance advance) h = tt
      by rows store cached op Ended h = tt

module _ {T : Type 0} (encode : T → List ℕ) (decode : List ℕ → Option T) (get_epoch : T → ℕ) (s : State T) (r : IsReached encode decode get_epoch s) (op : ℕ) (o : PlainOperation T) (found : numbered s.operations op ≡ Some o) where
  -- of a reached state

  pub reached_replies : (request : Request) (reply : Reply) (new : StoreState) → asked o.doing ≡ Some (Store request) → Serves request s.store reply new → IsReply o.doing (Some reply)
  reached_replies = stood_replies decode get_epoch s (reached_stands encode decode get_epoch s r) op o found

  pub reached_looks : asked o.doing ≡ Some Look → IsReply o.doing None
  reached_looks = stood_looks decode get_epoch s (reached_stands encode decode get_epoch s r) op o found

  pub reached_range : InRange o.doing
  reached_range = stood_range decode get_epoch s (reached_stands encode decode get_epoch s r) op o found
