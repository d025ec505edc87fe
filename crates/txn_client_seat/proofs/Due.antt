-- Faults that are due.
use Rattle.std.proofs.Common.{◌≡◌, true, Option, Some, None, refl, sym}
use Rattle.std.specs.Prelude.{Err}
use Rattle.txn_store.specs.declared.request.Request.{Request}
use Rattle.txn_store.specs.declared.request.Reply.{Reply}
use Rattle.txn_history.specs.declared.event.EventFault.{EventFault}
use Rattle.txn_history.specs.declared.event.EventFault.TheVariants as faults
use Rattle.txn_history.specs.Seen.{Ask, Store, Look}
use Rattle.txn_history.specs.Allowed.{ask_fault}
use Rattle.txn_machine.specs.plain.Machine.{fault_met}
use Rattle.txn_diary.specs.Keepers.{IsReplyFault}
use Rattle.txn_diary.proofs.Stepping.{met_reply}
use Rattle.txn_client_seat.specs.Seats.{IsReplyDue}

-- an operation that is handed a reply of another kind, or that asks for none
pub reply_due : (A : Type 0) (ask : Option Ask) (reply : Reply) (fault : EventFault) → IsReplyFault ask reply (fault_met {A = A} (Err fault)) → IsReplyDue ask reply fault
reply_due A None reply faults.UnknownNumber is = sym is
reply_due A None reply faults.NotAsked is = sym is
reply_due A None reply faults.UnknownBase is = sym is
reply_due A None reply faults.BoundaryTooHigh is = sym is
reply_due A None reply faults.EpochLowered is = sym is
reply_due A None reply faults.ViewBusy is = sym is
reply_due A None reply faults.NoMemory is = tt
reply_due A (Some Look) reply faults.UnknownNumber is = sym is
reply_due A (Some Look) reply faults.NotAsked is = sym is
reply_due A (Some Look) reply faults.UnknownBase is = sym is
reply_due A (Some Look) reply faults.BoundaryTooHigh is = sym is
reply_due A (Some Look) reply faults.EpochLowered is = sym is
reply_due A (Some Look) reply faults.ViewBusy is = sym is
reply_due A (Some Look) reply faults.NoMemory is = tt
reply_due A (Some (Store request)) reply faults.UnknownNumber is = absurd is
reply_due A (Some (Store request)) reply faults.NotAsked is = (refl, is)
reply_due A (Some (Store request)) reply faults.UnknownBase is = absurd is
reply_due A (Some (Store request)) reply faults.BoundaryTooHigh is = absurd is
reply_due A (Some (Store request)) reply faults.EpochLowered is = absurd is
reply_due A (Some (Store request)) reply faults.ViewBusy is = absurd is
reply_due A (Some (Store request)) reply faults.NoMemory is = tt

pub refused_due : (ask : Option Ask) (reply : Reply) (fault : EventFault) → IsReplyFault ask reply (Some fault) → IsReplyDue ask reply fault
refused_due ask reply fault is = reply_due (Unit {0}) ask reply fault (met_reply (Unit {0}) ask reply fault is)

-- one that is handed a reply of the kind that it asks for is refused it for want of memory alone
pub failed_due : (A : Type 0) (ask : Option Ask) (reply : Reply) (fault : EventFault) → IsReplyFault ask reply None → fault_met {A = A} (Err fault) ≡ ask_fault true ask → IsReplyDue ask reply fault
failed_due A None reply fault kind is = cc
failed_due A (Some Look) reply fault kind is = cc
failed_due A (Some (Store request)) reply faults.UnknownNumber kind is = cc
failed_due A (Some (Store request)) reply faults.NotAsked kind is = cc
failed_due A (Some (Store request)) reply faults.UnknownBase kind is = cc
failed_due A (Some (Store request)) reply faults.BoundaryTooHigh kind is = cc
failed_due A (Some (Store request)) reply faults.EpochLowered kind is = cc
failed_due A (Some (Store request)) reply faults.ViewBusy kind is = cc
failed_due A (Some (Store request)) reply faults.NoMemory kind is = tt
