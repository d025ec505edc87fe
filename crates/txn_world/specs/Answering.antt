-- What a state has to keep so that its operations can be handed what they ask for, and what a failure that is told leaves.
use Rattle.std.specs.Prelude.{◌≡◌, ℕ, Some, None}
use Rattle.txn_store.specs.Store.{State as StoreState}
use Rattle.txn_store.specs.Requests.{Serves}
use Rattle.txn_store.specs.declared.request.Request.{Request}
use Rattle.txn_store.specs.declared.request.Reply.{Reply}
use Rattle.txn_steps.specs.declared.boundary.caches.Caches.{Caches}
use Rattle.txn_history.specs.declared.event.PlainAnswer.TheVariants as plain_answers
use Rattle.txn_history.specs.declared.event.ToldOf.TheVariants as told
use Rattle.txn_history.specs.Lists.{numbered}
use Rattle.txn_history.specs.Seen.{Store, Look}
use Rattle.txn_history.specs.declared.event.Answer.TheVariants as answers
use Rattle.txn_history.specs.Trace.{Told}
use Rattle.txn_history.specs.Allowed.{is_busy}
use Rattle.txn_machine.specs.declared.doing.Operation.{Operation}
use Rattle.txn_machine.specs.Doing.{asked, refused, IsReply, InRange}
use Rattle.txn_machine.specs.plain.Machine.{failing}
use Rattle.txn_machine.specs.Machine.{State, used_by, acted, seen_of}
use Rattle.txn_client_journals.specs.tables.Views.{is_used}

-- The store's reply to what an operation asks for is of the kind that it takes, a look is taken where it is asked for, no
-- read has counted too far, and a view is marked as busy exactly where an operation runs on it.
pub record IsAnswerable {T : Type 0} (s : State T) : Type 0 where
  pub replies : (op : ℕ) (o : Operation T) → numbered s.operations op ≡ Some o → (request : Request) (reply : Reply) (new : StoreState) → asked o.doing ≡ Some (Store request) → Serves request s.store reply new → IsReply o.doing (Some reply)
  pub looks : (op : ℕ) (o : Operation T) → numbered s.operations op ≡ Some o → asked o.doing ≡ Some Look → IsReply o.doing None
  pub range : (op : ℕ) (o : Operation T) → numbered s.operations op ≡ Some o → InRange o.doing
  pub busy : (number : ℕ) → is_busy (seen_of s) s.trace (Some number) ≡ is_used (used_by s.views (Some number))

-- An operation was told that its store call failed: it has ended, and is one of those that failed.
pub record ToldFailure {T : Type 0} (old : State T) (op : ℕ) (said : Told T) (new : State T) : Type 0 where
  pub operation : Operation T
  pub found : numbered old.operations op ≡ Some operation
  pub caches : Caches
  pub kept : numbered old.caches operation.client ≡ Some caches
  pub tells : said ≡ told.Answered op (answers.Plain (plain_answers.Refused 2))
  pub state : new ≡ acted (failing old op) op operation (refused 2) caches
