-- A client's cached boundary only rises, which keeps what stands of its other operations.
use Rattle.std.proofs.Common.{◌≡◌, ℕ, List, true, Option, Some, None}
use Rattle.txn_store.specs.Store.{State as StoreState}
use Rattle.txn_steps.specs.declared.boundary.caches.CachedBoundary.{CachedBoundary}
use Rattle.txn_steps.specs.declared.boundary.boundary_read.BoundaryRead.{BoundaryRead}
use Rattle.txn_steps.specs.declared.boundary.boundary_read.BoundaryRead.TheVariants as reading
use Rattle.txn_steps.specs.declared.boundary.check.BoundaryStep.{BoundaryStep}
use Rattle.txn_steps.specs.declared.boundary.check.BoundaryStep.TheVariants as boundary_step
use Rattle.txn_steps.specs.declared.boundary.check.CheckOp.{CheckOp}
use Rattle.txn_steps.specs.declared.boundary.check.CheckOp.TheVariants as checks
use Rattle.txn_steps.specs.declared.boundary.advance.BoundaryAdvance.{BoundaryAdvance}
use Rattle.txn_steps.specs.declared.boundary.advance.BoundaryAdvance.TheVariants as raising
use Rattle.txn_steps.specs.declared.boundary.advance.AdvanceOp.{AdvanceOp}
use Rattle.txn_steps.specs.declared.boundary.advance.AdvanceOp.TheVariants as advances
use Rattle.txn_steps.specs.declared.write.WriteStep.{WriteStep}
use Rattle.txn_steps.specs.declared.write.WriteStep.TheVariants as writes
use Rattle.txn_steps.specs.declared.write.WriteOp.{WriteOp}
use Rattle.txn_steps.specs.declared.read.ReadOp.{ReadOp}
use Rattle.txn_steps.specs.declared.read.ReadOp.TheVariants as reads
use Rattle.txn_steps.specs.declared.delete.DeleteStep.{DeleteStep}
use Rattle.txn_steps.specs.declared.delete.DeleteStep.TheVariants as deletes
use Rattle.txn_steps.specs.declared.delete.DeleteOp.{DeleteOp}
use Rattle.txn_history.specs.declared.event.PlainCall.{PlainCall}
use Rattle.txn_history.specs.Trace.{PlainRow}
use Rattle.txn_history.specs.Calls.{was_begun}
use Rattle.txn_history.specs.Facts.{Entered, WasNewest}
use Rattle.txn_machine.specs.declared.plain.doing.PlainDoing.{PlainDoing}
use Rattle.txn_machine.specs.declared.plain.doing.PlainDoing.TheVariants.{Write, WriteUnchecked, Read, ReadUnchecked, ReadSeen, ListIds, Delete, Check, Advance, Ended}
use Rattle.txn_machine.proofs.plain.Stands.{TokenStands, ReadingStands, StepStands, CheckStands, RaiseStands, AdvanceStands, WasAbove, DeleteStepStands, ReadStands, WrittenStands, WriteStands, DoingStands, RunStands, OpStands}
use Rattle.txn_machine.proofs.plain.Turns.{RisesTo}

module _ {T : Type 0} (decode : List ℕ → Option T) (get_epoch : T → ℕ) (op : ℕ) (rows rows' : List (PlainRow T)) (store store' : StoreState) (cached cached' : Option CachedBoundary) where
  -- an operation stands on where its run does, or its begin
  pub op_on : (doing : PlainDoing T) → ((call : PlainCall T) → RunStands decode get_epoch rows store cached op call doing → RunStands decode get_epoch rows' store' cached' op call doing) → (was_begun rows op ≡ true → was_begun rows' op ≡ true) →
      OpStands decode get_epoch rows store cached op doing → OpStands decode get_epoch rows' store' cached' op doing
  op_on (Write write) run begun h = (h.0, run h.0 h.1)
  op_on (WriteUnchecked write) run begun h = (h.0, run h.0 h.1)
  op_on (Read read) run begun h = (h.0, run h.0 h.1)
  op_on (ReadUnchecked read) run begun h = (h.0, run h.0 h.1)
  op_on (ReadSeen read) run begun h = (h.0, run h.0 h.1)
  op_on (ListIds list) run begun h = (h.0, run h.0 h.1)
  op_on (Delete delete) run begun h = (h.0, run h.0 h.1)
  op_on (Check check) run begun h = (h.0, run h.0 h.1)
  op_on (Advance advance) run begun h = (h.0, run h.0 h.1)
  op_on Ended run begun h = begun h

module _ {T : Type 0} (decode : List ℕ → Option T) (get_epoch : T → ℕ) (rows : List (PlainRow T)) (store : StoreState) (cached after : Option CachedBoundary) (rises : RisesTo cached after) where
  token_rises : (token : Option ℕ) → TokenStands rows store cached token → TokenStands rows store after token
  token_rises None h = h
  token_rises (Some token) h = (h.0, h.1, rises h.0 h.2)

  reading_rises : (id : ℕ) (Q : Type 0) (read : BoundaryRead) → ReadingStands rows store cached id Q read → ReadingStands rows store after id Q read
  reading_rises id Q (reading.Looks path) h = h
  reading_rises id Q (reading.Gets request) h = record { token = h.token; asks = h.asks; known = token_rises h.token h.known; open' = h.open' }
  reading_rises id Q (reading.Holds (Some known)) h = h
  reading_rises id Q (reading.Holds None) h = record { number = h.number; at = rises h.number h.at; open' = h.open' }

  step_rises : (id : ℕ) (Q : Type 0) (step : BoundaryStep) (read : BoundaryRead) → StepStands rows store cached id Q step read → StepStands rows store after id Q step read
  step_rises id Q boundary_step.Looks read h = h
  step_rises id Q boundary_step.Reads read h = reading_rises id Q read h

  check_rises : (id : ℕ) (Q : Type 0) (check : CheckOp) → CheckStands rows store cached id Q check → CheckStands rows store after id Q check
  check_rises id Q (checks.Checks check) h = (h.0, step_rises id Q check.step check.read h.1)
  check_rises id Q (checks.Drops i) h = h

  raise_rises : (target : ℕ) (raise : BoundaryAdvance) → RaiseStands rows store cached target raise → RaiseStands rows store after target raise
  raise_rises target (raising.Looks t) h = h
  raise_rises target (raising.Reads t again read) h = (h.0, reading_rises 0 ⊥ read h.1)
  raise_rises target (raising.Puts t request) h = h
  raise_rises target (raising.Keeps t token) h = h

  advance_rises : (call : PlainCall T) (advance : AdvanceOp) → AdvanceStands rows store cached call advance → AdvanceStands rows store after call advance
  advance_rises call (advances.Raises target raise) h = (h.0, h.1, raise_rises target raise h.2)
  advance_rises call (advances.Drops target) h = h

  delete_rises : (op id : ℕ) (step : DeleteStep) (delete : DeleteOp) → DeleteStepStands rows store cached op id step delete → DeleteStepStands rows store after op id step delete
  delete_rises op id deletes.Checks delete h = (check_rises id (WasAbove rows op id) delete.check h.0, h.1)
  delete_rises op id deletes.Removes delete h = h

  read_rises : (op : ℕ) (read : ReadOp T) → ReadStands decode rows store cached op read → ReadStands decode rows store after op read
  read_rises op (reads.Reads latest boundary) h = h
  read_rises op (reads.Checks id value check) h = (h.0, check_rises id (WasNewest decode rows op id value) check h.1)
  read_rises op reads.Ended h = h

  written_rises : (op : ℕ) (call : PlainCall T) (write : WriteOp) → WrittenStands decode get_epoch rows store cached op call write → WrittenStands decode get_epoch rows store after op call write
  written_rises op call write h =
      record { base = h.base; value = h.value; call_is = h.call_is; next = h.next; known = h.known; only = h.only; checks = check_rises write.id (Entered decode rows op write.id h.value) write.check h.checks }

  write_rises : (op : ℕ) (call : PlainCall T) (step : WriteStep) (write : WriteOp) → WriteStands decode get_epoch rows store cached op call step write → WriteStands decode get_epoch rows store after op call step write
  write_rises op call writes.Writes write h = h
  write_rises op call writes.Checks write h = written_rises op call write h

  doing_rises : (op : ℕ) (call : PlainCall T) (doing : PlainDoing T) → DoingStands decode get_epoch rows store cached op call doing → DoingStands decode get_epoch rows store after op call doing
  doing_rises op call (Write write) h = write_rises op call write.step write h
  doing_rises op call (WriteUnchecked write) h = h
  doing_rises op call (Read read) h = (h.0, read_rises op read h.1)
  doing_rises op call (ReadUnchecked read) h = h
  doing_rises op call (ReadSeen read) h = h
  doing_rises op call (ListIds list) h = h
  doing_rises op call (Delete delete) h = (h.0, h.1, delete_rises op h.0 delete.step delete h.2)
  doing_rises op call (Check check) h = (h.0, h.1, check_rises h.0 (WasAbove rows op h.0) check h.2)
  doing_rises op call (Advance advance) h = advance_rises call advance h
  doing_rises op call Ended h = h

  run_rises : (op : ℕ) (call : PlainCall T) (doing : PlainDoing T) → RunStands decode get_epoch rows store cached op call doing → RunStands decode get_epoch rows store after op call doing
  run_rises op call doing h = record { runs = h.runs; range = h.range; stands = doing_rises op call doing h.stands }

  pub op_rises : (op : ℕ) (doing : PlainDoing T) → OpStands decode get_epoch rows store cached op doing → OpStands decode get_epoch rows store after op doing
  op_rises op doing h = op_on decode get_epoch op rows rows store store cached after doing (λ call r. run_rises op call doing r) (λ begun. begun) h
