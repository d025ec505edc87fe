-- What a client hands to its recorder, as it happens. A recording holds these, the first first.
use Rattle.std.specs.Prelude.{ℕ}
use Rattle.txn_store.specs.declared.request.Request.{Request}
use Rattle.txn_store.specs.declared.request.Reply.{Reply}
use Rattle.txn_history.specs.declared.event.Call.{Call}
use Rattle.txn_history.specs.declared.event.Answer.{Answer}

pub data Noted (T : Type 0) : Type 0 where
  -- a call begins as the operation of this number
  Begun : (op : ℕ) (call : Call T) → Noted T
  -- the operation asks the store for this, which is about to be called
  Asked : (op : ℕ) (request : Request) → Noted T
  -- the store replied so
  Replied : (op : ℕ) (reply : Reply) → Noted T
  -- the store call failed, and nobody knows whether it took effect
  Failed : (op : ℕ) → Noted T
  -- the operation is given up
  GaveUp : (op : ℕ) → Noted T
  -- the operation is answered
  Answered : (op : ℕ) (answer : Answer T) → Noted T
