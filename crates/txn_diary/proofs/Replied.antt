-- What fits what such an operation asks for it can take, and what it asks for can be served.
use Rattle.std.proofs.Common.{◌≡◌, Option, Some, None, refl, sym, subst}
use Rattle.txn_store.specs.declared.request.Request.{Request}
use Rattle.txn_store.specs.declared.request.Request.TheVariants as requests
use Rattle.txn_store.specs.declared.request.Reply.{Reply}
use Rattle.txn_store.specs.declared.request.Reply.TheVariants as replies
use Rattle.txn_steps.specs.boundary.Asking.{IsLook, IsGot, IsPut, IsListed, IsDeleted}
use Rattle.txn_steps.specs.declared.boundary.boundary_read.BoundaryRead.{BoundaryRead}
use Rattle.txn_steps.specs.declared.boundary.boundary_read.BoundaryRead.TheVariants as boundary
use Rattle.txn_steps.specs.declared.boundary.check.BoundaryStep.{BoundaryStep}
use Rattle.txn_steps.specs.declared.boundary.check.BoundaryStep.TheVariants as steps
use Rattle.txn_steps.specs.declared.boundary.check.CheckOp.{CheckOp}
use Rattle.txn_steps.specs.declared.boundary.check.CheckOp.TheVariants as checks
use Rattle.txn_steps.specs.declared.boundary.advance.BoundaryAdvance.{BoundaryAdvance}
use Rattle.txn_steps.specs.declared.boundary.advance.BoundaryAdvance.TheVariants as raises
use Rattle.txn_steps.specs.declared.boundary.advance.AdvanceOp.{AdvanceOp}
use Rattle.txn_steps.specs.declared.boundary.advance.AdvanceOp.TheVariants as advances
use Rattle.txn_steps.specs.boundary.BoundaryReads.{boundary_read_asked, IsBoundaryReply}
use Rattle.txn_steps.specs.boundary.BoundaryChecks.{asked_at, IsReplyAt}
use Rattle.txn_steps.specs.boundary.BoundaryAdvances.{boundary_advance_asked, IsBoundaryAdvanceReply}
use Rattle.txn_steps.specs.boundary.Checks.{check_asked, IsCheckReply}
use Rattle.txn_steps.specs.boundary.Advances.{advance_asked, IsAdvanceReply}
use Rattle.txn_steps.specs.declared.write.WriteUncheckedOp.{WriteUncheckedOp}
use Rattle.txn_steps.specs.declared.write.WriteUncheckedOp.TheVariants as unchecked
use Rattle.txn_steps.specs.declared.write.WriteStep.{WriteStep}
use Rattle.txn_steps.specs.declared.write.WriteStep.TheVariants as writes
use Rattle.txn_steps.specs.declared.write.WriteOp.{WriteOp}
use Rattle.txn_steps.specs.declared.read.ReadOp.{ReadOp}
use Rattle.txn_steps.specs.declared.read.ReadOp.TheVariants as reads
use Rattle.txn_steps.specs.declared.latest.LatestOp.{LatestOp}
use Rattle.txn_steps.specs.declared.latest.LatestOp.TheVariants as latest
use Rattle.txn_steps.specs.declared.seen.ReadSeenOp.{ReadSeenOp}
use Rattle.txn_steps.specs.declared.seen.ReadSeenOp.TheVariants as seen
use Rattle.txn_steps.specs.declared.delete.DeleteOp.{DeleteOp}
use Rattle.txn_steps.specs.declared.delete.DeleteStep.{DeleteStep}
use Rattle.txn_steps.specs.declared.delete.DeleteStep.TheVariants as deletes
use Rattle.txn_steps.specs.declared.delete.RemovalStep.{RemovalStep}
use Rattle.txn_steps.specs.declared.delete.RemovalStep.TheVariants as removals
use Rattle.txn_steps.specs.Latest.{latest_asked, IsLatestReply, InRange}
use Rattle.txn_steps.specs.Reads.{read_asked, IsReadReply, IsInRange}
use Rattle.txn_steps.specs.SeenSteps.{seen_asked, IsSeenReply}
use Rattle.txn_steps.specs.Writes.{unchecked_asked, IsUncheckedReply, write_asked_at, write_asked, IsWriteReplyAt, IsWriteReply}
use Rattle.txn_steps.specs.Deletes.{removal_asked_at, IsRemovalReplyAt, delete_asked_at, delete_asked, IsDeleteReplyAt}
use Rattle.txn_steps_driven.specs.DriveSteps.{CanGet, CanPut, CanReadBoundary, CanCheck, CanRaise, CanAdvance, CanWriteAt, CanWriteChecked, CanDelete, CanReadSeen, CanReadLatest, CanRead}
use Rattle.txn_steps_driven.specs.ListRuns.{CanList}
use Rattle.txn_steps_driven.specs.RemovalRuns.{CanRemove}
use Rattle.txn_steps_driven.specs.WriteRuns.{CanWrite}
use Rattle.txn_history.specs.Seen.{Ask}
use Rattle.txn_machine.specs.declared.plain.doing.PlainDoing.{PlainDoing}
use Rattle.txn_machine.specs.declared.plain.doing.PlainDoing.TheVariants as doings
use Rattle.txn_machine.specs.plain.Doing as plain
use Rattle.txn_machine.specs.plain.Doing.{ask_of}
use Rattle.txn_client_journals.specs.tables.Operations.{request_of}
use Rattle.txn_steps_views.specs.declared.entry.EntryOp.{EntryOp}
use Rattle.txn_steps_views.specs.declared.entry.EntryOp.TheVariants as entries
use Rattle.txn_steps_views.specs.declared.claiming.Claiming.{Claiming}
use Rattle.txn_steps_views.specs.declared.claiming.Claiming.TheVariants as claimings
use Rattle.txn_steps_views.specs.declared.op.ViewOp.{ViewOp}
use Rattle.txn_steps_views.specs.declared.op.ViewOp.TheVariants as views
use Rattle.txn_steps_views.specs.Entries.{entry_asked, IsEntryReply}
use Rattle.txn_steps_views.specs.Attempts.{claiming_asked, IsClaimingReply, IsClaimingInRange}
use Rattle.txn_steps_views.specs.ViewOps.{view_asked, IsViewReply, IsViewInRange}
use Rattle.txn_machine.specs.declared.doing.Doing.{Doing}
use Rattle.txn_machine.specs.declared.doing.Doing.TheVariants as does
use Rattle.txn_machine.specs.Doing as any
use Rattle.txn_diary.specs.Taking.{CanDo, CanEnter, CanClaim, CanView, CanTake, FitsAsk, CanServe}

ask_request : (request : Option Request) → request_of (Some (ask_of request)) ≡ request
ask_request None = refl
ask_request (Some request) = refl

-- one request

look : (reply : Option Reply) → FitsAsk None reply → IsLook reply
look None fits = tt
look (Some reply) fits = absurd fits

got : (request : Request) (reply : Option Reply) → CanGet request → FitsAsk (Some request) reply → IsGot reply
got request None can fits = absurd fits
got (requests.Get path known) (Some (replies.Get answer)) can fits = tt
got (requests.Get path known) (Some reply) can fits = absurd fits
got request (Some reply) can fits = absurd can

put : (request : Request) (reply : Option Reply) → CanPut request → FitsAsk (Some request) reply → IsPut reply
put request None can fits = absurd fits
put (requests.Put path bytes mode) (Some (replies.Put answer)) can fits = tt
put (requests.Put path bytes mode) (Some reply) can fits = absurd fits
put request (Some reply) can fits = absurd can

listed : (request : Request) (reply : Option Reply) → CanList request → FitsAsk (Some request) reply → IsListed reply
listed request None can fits = absurd fits
listed (requests.List prefix after limit) (Some (replies.List answer)) can fits = tt
listed (requests.List prefix after limit) (Some reply) can fits = absurd fits
listed request (Some reply) can fits = absurd can

deleted : (request : Request) (reply : Option Reply) → CanRemove removals.Removes request → FitsAsk (Some request) reply → IsDeleted reply
deleted request None can fits = absurd fits
deleted (requests.Delete path) (Some (replies.Delete answer)) can fits = tt
deleted (requests.Delete path) (Some reply) can fits = absurd fits
deleted request (Some reply) can fits = absurd can

serve_get : (request : Request) → CanGet request → CanServe (Some request)
serve_get (requests.Get path known) can = tt
serve_get (requests.Put path bytes mode) can = absurd can
serve_get (requests.List prefix after limit) can = absurd can
serve_get (requests.Delete path) can = absurd can

serve_put : (request : Request) → CanPut request → CanServe (Some request)
serve_put (requests.Put path bytes mode) can = tt
serve_put (requests.Get path known) can = absurd can
serve_put (requests.List prefix after limit) can = absurd can
serve_put (requests.Delete path) can = absurd can

serve_list : (request : Request) → CanList request → CanServe (Some request)
serve_list (requests.List prefix after limit) can = can
serve_list (requests.Put path bytes mode) can = absurd can
serve_list (requests.Get path known) can = absurd can
serve_list (requests.Delete path) can = absurd can

serve_delete : (request : Request) → CanRemove removals.Removes request → CanServe (Some request)
serve_delete (requests.Delete path) can = tt
serve_delete (requests.Put path bytes mode) can = absurd can
serve_delete (requests.Get path known) can = absurd can
serve_delete (requests.List prefix after limit) can = absurd can

-- checks and advances

boundary_replies : (op : BoundaryRead) (reply : Option Reply) → CanReadBoundary op → FitsAsk (boundary_read_asked op) reply → IsBoundaryReply op reply
boundary_replies (boundary.Looks path) reply can fits = look reply fits
boundary_replies (boundary.Gets request) reply can fits = got request reply can fits
boundary_replies (boundary.Holds known) reply can fits = look reply fits

boundary_serves : (op : BoundaryRead) → CanReadBoundary op → CanServe (boundary_read_asked op)
boundary_serves (boundary.Looks path) can = tt
boundary_serves (boundary.Gets request) can = serve_get request can
boundary_serves (boundary.Holds known) can = tt

at_replies : (step : BoundaryStep) (read : BoundaryRead) (reply : Option Reply) → CanReadBoundary read → FitsAsk (asked_at step read) reply → IsReplyAt step read reply
at_replies steps.Looks read reply can fits = look reply fits
at_replies steps.Reads read reply can fits = boundary_replies read reply can fits

at_serves : (step : BoundaryStep) (read : BoundaryRead) → CanReadBoundary read → CanServe (asked_at step read)
at_serves steps.Looks read can = tt
at_serves steps.Reads read can = boundary_serves read can

check_replies : (op : CheckOp) (reply : Option Reply) → CanCheck op → FitsAsk (check_asked op) reply → IsCheckReply op reply
check_replies (checks.Checks check) reply can fits = at_replies check.step check.read reply can fits
check_replies (checks.Drops id) reply can fits = look reply fits

check_serves : (op : CheckOp) → CanCheck op → CanServe (check_asked op)
check_serves (checks.Checks check) can = at_serves check.step check.read can
check_serves (checks.Drops id) can = tt

raise_replies : (op : BoundaryAdvance) (reply : Option Reply) → CanRaise op → FitsAsk (boundary_advance_asked op) reply → IsBoundaryAdvanceReply op reply
raise_replies (raises.Looks target) reply can fits = look reply fits
raise_replies (raises.Reads target again read) reply can fits = boundary_replies read reply can fits
raise_replies (raises.Puts target request) reply can fits = put request reply can fits
raise_replies (raises.Keeps target token) reply can fits = look reply fits

raise_serves : (op : BoundaryAdvance) → CanRaise op → CanServe (boundary_advance_asked op)
raise_serves (raises.Looks target) can = tt
raise_serves (raises.Reads target again read) can = boundary_serves read can
raise_serves (raises.Puts target request) can = serve_put request can
raise_serves (raises.Keeps target token) can = tt

advance_replies : (op : AdvanceOp) (reply : Option Reply) → CanAdvance op → FitsAsk (advance_asked op) reply → IsAdvanceReply op reply
advance_replies (advances.Raises target raise) reply can fits = raise_replies raise reply can fits
advance_replies (advances.Drops target) reply can fits = look reply fits

advance_serves : (op : AdvanceOp) → CanAdvance op → CanServe (advance_asked op)
advance_serves (advances.Raises target raise) can = raise_serves raise can
advance_serves (advances.Drops target) can = tt

-- writes and deletes

unchecked_put : (request : Request) (version : _) → CanWrite (unchecked.Puts version request) → CanPut request
unchecked_put (requests.Put path bytes mode) version can = tt
unchecked_put (requests.Get path known) version can = absurd can
unchecked_put (requests.List prefix after limit) version can = absurd can
unchecked_put (requests.Delete path) version can = absurd can

unchecked_replies : (op : WriteUncheckedOp) (reply : Option Reply) → CanWrite op → FitsAsk (unchecked_asked op) reply → IsUncheckedReply op reply
unchecked_replies (unchecked.Puts version request) reply can fits = put request reply (unchecked_put request version can) fits
unchecked_replies (unchecked.Keeps version) reply can fits = look reply fits
unchecked_replies unchecked.Ended reply can fits = absurd can

unchecked_serves : (op : WriteUncheckedOp) → CanWrite op → CanServe (unchecked_asked op)
unchecked_serves (unchecked.Puts version request) can = serve_put request (unchecked_put request version can)
unchecked_serves (unchecked.Keeps version) can = tt
unchecked_serves unchecked.Ended can = absurd can

write_at_replies : (step : WriteStep) (op : WriteOp) (reply : Option Reply) → CanWriteAt step op.write → CanCheck op.check → FitsAsk (write_asked_at step op) reply → IsWriteReplyAt step op reply
write_at_replies writes.Writes op reply can check fits = unchecked_replies op.write reply can fits
write_at_replies writes.Checks op reply can check fits = check_replies op.check reply check fits

write_at_serves : (step : WriteStep) (op : WriteOp) → CanWriteAt step op.write → CanCheck op.check → CanServe (write_asked_at step op)
write_at_serves writes.Writes op can check = unchecked_serves op.write can
write_at_serves writes.Checks op can check = check_serves op.check check

write_replies : (op : WriteOp) (reply : Option Reply) → CanWriteChecked op → FitsAsk (write_asked op) reply → IsWriteReply op reply
write_replies op reply can fits = write_at_replies op.step op reply can.0 can.1 fits

write_serves : (op : WriteOp) → CanWriteChecked op → CanServe (write_asked op)
write_serves op can = write_at_serves op.step op can.0 can.1

delete_at_replies : (step : DeleteStep) (now : RemovalStep) (op : DeleteOp) (reply : Option Reply) → op.removal.step ≡ now → CanDelete op → FitsAsk (delete_asked_at step op) reply → IsDeleteReplyAt step op reply
delete_at_replies deletes.Checks now op reply is can fits = check_replies op.check reply can.0 fits
delete_at_replies deletes.Removes removals.Removes op reply is can fits =
    subst (λ (s : RemovalStep). IsRemovalReplyAt s reply) (sym is) (deleted op.removal.request reply (subst (λ (s : RemovalStep). CanRemove s op.removal.request) is can.1) (subst (λ (s : RemovalStep). FitsAsk (removal_asked_at s op.removal) reply) is fits))
delete_at_replies deletes.Removes removals.Drops op reply is can fits =
    subst (λ (s : RemovalStep). IsRemovalReplyAt s reply) (sym is) (look reply (subst (λ (s : RemovalStep). FitsAsk (removal_asked_at s op.removal) reply) is fits))

delete_at_serves : (step : DeleteStep) (now : RemovalStep) (op : DeleteOp) → op.removal.step ≡ now → CanDelete op → CanServe (delete_asked_at step op)
delete_at_serves deletes.Checks now op is can = check_serves op.check can.0
delete_at_serves deletes.Removes removals.Removes op is can =
    subst (λ (s : RemovalStep). CanServe (removal_asked_at s op.removal)) (sym is) (serve_delete op.removal.request (subst (λ (s : RemovalStep). CanRemove s op.removal.request) is can.1))
delete_at_serves deletes.Removes removals.Drops op is can = subst (λ (s : RemovalStep). CanServe (removal_asked_at s op.removal)) (sym is) tt

module _ {T : Type 0} where
  -- reads

  latest_replies : (op : LatestOp T) (reply : Option Reply) → CanReadLatest op → FitsAsk (latest_asked op) reply → IsLatestReply op reply
  latest_replies latest.Looks reply can fits = look reply fits
  latest_replies (latest.Probes hand found next request) reply can fits = got request reply can.0 fits
  latest_replies (latest.Finds successor found) reply can fits = look reply fits
  latest_replies (latest.Lists found request) reply can fits = listed request reply can fits
  latest_replies (latest.Chooses greatest) reply can fits = look reply fits
  latest_replies (latest.Gets id request) reply can fits = got request reply can fits
  latest_replies (latest.Keeps version value) reply can fits = look reply fits
  latest_replies (latest.Drops id) reply can fits = look reply fits
  latest_replies latest.Ended reply can fits = absurd can

  latest_serves : (op : LatestOp T) → CanReadLatest op → CanServe (latest_asked op)
  latest_serves latest.Looks can = tt
  latest_serves (latest.Probes hand found next request) can = serve_get request can.0
  latest_serves (latest.Finds successor found) can = tt
  latest_serves (latest.Lists found request) can = serve_list request can
  latest_serves (latest.Chooses greatest) can = tt
  latest_serves (latest.Gets id request) can = serve_get request can
  latest_serves (latest.Keeps version value) can = tt
  latest_serves (latest.Drops id) can = tt
  latest_serves latest.Ended can = absurd can

  latest_range : (op : LatestOp T) → CanReadLatest op → InRange op
  latest_range latest.Looks can = tt
  latest_range (latest.Probes hand found next request) can = can.1
  latest_range (latest.Finds successor found) can = can
  latest_range (latest.Lists found request) can = tt
  latest_range (latest.Chooses greatest) can = tt
  latest_range (latest.Gets id request) can = tt
  latest_range (latest.Keeps version value) can = tt
  latest_range (latest.Drops id) can = tt
  latest_range latest.Ended can = absurd can

  read_replies : (op : ReadOp T) (reply : Option Reply) → CanRead op → FitsAsk (read_asked op) reply → IsReadReply op reply
  read_replies (reads.Reads op boundary) reply can fits = latest_replies op reply can.0 fits
  read_replies (reads.Checks id value check) reply can fits = check_replies check reply can fits
  read_replies reads.Ended reply can fits = absurd can

  read_serves : (op : ReadOp T) → CanRead op → CanServe (read_asked op)
  read_serves (reads.Reads op boundary) can = latest_serves op can.0
  read_serves (reads.Checks id value check) can = check_serves check can
  read_serves reads.Ended can = absurd can

  read_range : (op : ReadOp T) → CanRead op → IsInRange op
  read_range (reads.Reads op boundary) can = latest_range op can.0
  read_range (reads.Checks id value check) can = tt
  read_range reads.Ended can = absurd can

  seen_replies : (op : ReadSeenOp T) (reply : Option Reply) → CanReadSeen op → FitsAsk (seen_asked op) reply → IsSeenReply op reply
  seen_replies (seen.Looks id) reply can fits = look reply fits
  seen_replies (seen.Gets id request) reply can fits = got request reply can fits
  seen_replies (seen.Keeps version value) reply can fits = look reply fits
  seen_replies seen.Ended reply can fits = absurd can

  seen_serves : (op : ReadSeenOp T) → CanReadSeen op → CanServe (seen_asked op)
  seen_serves (seen.Looks id) can = tt
  seen_serves (seen.Gets id request) can = serve_get request can
  seen_serves (seen.Keeps version value) can = tt
  seen_serves seen.Ended can = absurd can

  -- calls on views

  entry_replies : (op : EntryOp T) (reply : Option Reply) → CanEnter op → FitsAsk (entry_asked op) reply → IsEntryReply op reply
  entry_replies (entries.Writes write value) reply can fits = write_replies write reply can fits
  entry_replies entries.Ended reply can fits = absurd can

  entry_serves : (op : EntryOp T) → CanEnter op → CanServe (entry_asked op)
  entry_serves (entries.Writes write value) can = write_serves write can
  entry_serves entries.Ended can = absurd can

  claim_replies : (op : Claiming T) (reply : Option Reply) → CanClaim op → FitsAsk (claiming_asked op) reply → IsClaimingReply op reply
  claim_replies (claimings.Writes write value epoch) reply can fits = write_replies write reply can fits
  claim_replies (claimings.Reads read) reply can fits = read_replies read reply can fits
  claim_replies claimings.Ended reply can fits = absurd can

  claim_serves : (op : Claiming T) → CanClaim op → CanServe (claiming_asked op)
  claim_serves (claimings.Writes write value epoch) can = write_serves write can
  claim_serves (claimings.Reads read) can = read_serves read can
  claim_serves claimings.Ended can = absurd can

  claim_range : (op : Claiming T) → CanClaim op → IsClaimingInRange op
  claim_range (claimings.Writes write value epoch) can = tt
  claim_range (claimings.Reads read) can = read_range read can
  claim_range claimings.Ended can = absurd can

  view_replies : (op : ViewOp T) (reply : Option Reply) → CanView op → FitsAsk (view_asked op) reply → IsViewReply op reply
  view_replies (views.Enters op) reply can fits = entry_replies op reply can fits
  view_replies (views.Reads op) reply can fits = read_replies op.read reply can fits
  view_replies (views.Claims op) reply can fits = claim_replies op.claiming reply can fits

  view_serves : (op : ViewOp T) → CanView op → CanServe (view_asked op)
  view_serves (views.Enters op) can = entry_serves op can
  view_serves (views.Reads op) can = read_serves op.read can
  view_serves (views.Claims op) can = claim_serves op.claiming can

  view_range : (op : ViewOp T) → CanView op → IsViewInRange op
  view_range (views.Enters op) can = tt
  view_range (views.Reads op) can = read_range op.read can
  view_range (views.Claims op) can = claim_range op.claiming can

  -- any operation

  -- it takes what fits what it asks for, where it has not ended
  plain_replies : (doing : PlainDoing T) (ask : Ask) (reply : Option Reply) → CanDo doing → plain.asked doing ≡ Some ask → FitsAsk (request_of (plain.asked doing)) reply → plain.IsReply doing reply
  plain_replies (doings.Write op) ask reply can is fits = write_replies op reply can (subst (λ r. FitsAsk r reply) (ask_request (write_asked op)) fits)
  plain_replies (doings.WriteUnchecked op) ask reply can is fits = unchecked_replies op reply can (subst (λ r. FitsAsk r reply) (ask_request (unchecked_asked op)) fits)
  plain_replies (doings.Read op) ask reply can is fits = read_replies op reply can (subst (λ r. FitsAsk r reply) (ask_request (read_asked op)) fits)
  plain_replies (doings.ReadUnchecked op) ask reply can is fits = got op.request reply can fits
  plain_replies (doings.ReadSeen op) ask reply can is fits = seen_replies op reply can (subst (λ r. FitsAsk r reply) (ask_request (seen_asked op)) fits)
  plain_replies (doings.ListIds op) ask reply can is fits = listed op.request reply can fits
  plain_replies (doings.Delete op) ask reply can is fits = delete_at_replies op.step op.removal.step op reply refl can (subst (λ r. FitsAsk r reply) (ask_request (delete_asked op)) fits)
  plain_replies (doings.Check op) ask reply can is fits = check_replies op reply can (subst (λ r. FitsAsk r reply) (ask_request (check_asked op)) fits)
  plain_replies (doings.Advance op) ask reply can is fits = advance_replies op reply can (subst (λ r. FitsAsk r reply) (ask_request (advance_asked op)) fits)
  plain_replies doings.Ended ask reply can is fits = absurd (cc)

  plain_serves : (doing : PlainDoing T) → CanDo doing → CanServe (request_of (plain.asked doing))
  plain_serves (doings.Write op) can = subst CanServe (sym (ask_request (write_asked op))) (write_serves op can)
  plain_serves (doings.WriteUnchecked op) can = subst CanServe (sym (ask_request (unchecked_asked op))) (unchecked_serves op can)
  plain_serves (doings.Read op) can = subst CanServe (sym (ask_request (read_asked op))) (read_serves op can)
  plain_serves (doings.ReadUnchecked op) can = serve_get op.request can
  plain_serves (doings.ReadSeen op) can = subst CanServe (sym (ask_request (seen_asked op))) (seen_serves op can)
  plain_serves (doings.ListIds op) can = serve_list op.request can
  plain_serves (doings.Delete op) can = subst CanServe (sym (ask_request (delete_asked op))) (delete_at_serves op.step op.removal.step op refl can)
  plain_serves (doings.Check op) can = subst CanServe (sym (ask_request (check_asked op))) (check_serves op can)
  plain_serves (doings.Advance op) can = subst CanServe (sym (ask_request (advance_asked op))) (advance_serves op can)
  plain_serves doings.Ended can = tt

  plain_range : (doing : PlainDoing T) → CanDo doing → plain.InRange doing
  plain_range (doings.Read op) can = read_range op can
  plain_range (doings.Write op) can = tt
  plain_range (doings.WriteUnchecked op) can = tt
  plain_range (doings.ReadUnchecked op) can = tt
  plain_range (doings.ReadSeen op) can = tt
  plain_range (doings.ListIds op) can = tt
  plain_range (doings.Delete op) can = tt
  plain_range (doings.Check op) can = tt
  plain_range (doings.Advance op) can = tt
  plain_range doings.Ended can = tt

  pub takes_fitting : (doing : Doing T) (ask : Ask) (reply : Option Reply) → CanTake doing → any.asked doing ≡ Some ask → FitsAsk (request_of (any.asked doing)) reply → any.IsReply doing reply
  takes_fitting (does.Plain doing) ask reply can is fits = plain_replies doing ask reply can is fits
  takes_fitting (does.View op) ask reply can is fits = view_replies op reply can (subst (λ r. FitsAsk r reply) (ask_request (view_asked op)) fits)

  pub can_be_served : (doing : Doing T) → CanTake doing → CanServe (request_of (any.asked doing))
  can_be_served (does.Plain doing) can = plain_serves doing can
  can_be_served (does.View op) can = subst CanServe (sym (ask_request (view_asked op))) (view_serves op can)

  pub is_in_range : (doing : Doing T) → CanTake doing → any.InRange doing
  is_in_range (does.Plain doing) can = plain_range doing can
  is_in_range (does.View op) can = view_range op can
