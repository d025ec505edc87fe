-- What stands of the layer, and what an operation owes for what it does next.
use Rattle.std.proofs.Common.{◌≡◌, ◌≢◌, ℕ, ◌+◌, ◌<◌, ◌≤◌, List, [], ◌∷◌, ◌++◌, length, take, true, false, Option, Some, None, is_some}
use Rattle.txn_history.specs.declared.trace.RowOf.TheVariants.{Answered}
use Rattle.txn_history.specs.History.{newest, boundary, IsEntry, epoch_at}
use Rattle.txn_history.specs.Calls.{was_begun, was_answered, IsCall, begun_count, view_used, is_holders}
use Rattle.txn_history.specs.Facts.{Entered}
use Rattle.txn_history.specs.declared.event.ViewCall.TheVariants as view_calls
use Rattle.txn_history.specs.declared.event.Call.{Call}
use Rattle.txn_history.specs.declared.event.Call.TheVariants as any
use Rattle.txn_history.specs.declared.event.Answer.{Answer}
use Rattle.txn_history.specs.declared.event.Answer.TheVariants as answers
use Rattle.txn_history.specs.Trace.{Row}
use Rattle.txn_history.specs.Views.{id_shown, epoch_shown, view_at, epoch_held, view_count, View, ViewFits}
use Rattle.txn_history.specs.OneHistory.{WritesOn, AnswerFits, IsOneHistory}
use Rattle.txn_history.proofs.Holders.{told_in}
use Rattle.txn_machine.specs.views.Layer.{Used, Inner, Starts, Writes, Reads, Acts, Operation, Asked, Layer, Change, Keeps, Puts, Makes, Closes, Next, Goes, Ends, Opens, changed}

module _ {T : Type 0} where
  -- The newest id was at least this at every row of the call.
  abbrev pub NeverBelow : List (Row T) → ℕ → ℕ → Type 0
  NeverBelow rows op id = (place : ℕ) → place ≤ length rows → was_begun (take place rows) op ≡ true → id ≤ newest (take place rows)

  -- An operation alone uses its view, which stood no higher than the newest entry at any row of the call.
  pub record UsesView (rows : List (Row T)) (views : ℕ → Option (Used T)) (op : ℕ) (o : Operation T) (number : ℕ) : Type 0 where
    pub used : Used T
    pub there : views number ≡ Some used
    pub busy : used.busy ≡ Some op
    pub client : used.view.client ≡ o.client
    pub kind : is_some used.view.epoch ≡ is_holders o.call
    pub least : NeverBelow rows op used.view.id

  abbrev pub Uses : List (Row T) → (ℕ → Option (Used T)) → ℕ → Operation T → Option ℕ → Type 0
  Uses rows views op o None = Unit {0}
  Uses rows views op o (Some number) = UsesView rows views op o number

  -- the calls that read
  abbrev pub MayRead : Call T → Type 0
  MayRead (any.View view_calls.Load) = Unit {0}
  MayRead (any.View (view_calls.Refresh view)) = Unit {0}
  MayRead (any.View (view_calls.Claim view)) = Unit {0}
  MayRead (any.View (view_calls.ClaimAt view epoch)) = Unit {0}
  MayRead (any.View (view_calls.HolderRefresh view)) = Unit {0}
  MayRead call = ⊥

  -- No row is of this operation.
  pub record Fresh (rows : List (Row T)) (op : ℕ) : Type 0 where
    pub begun : was_begun rows op ≡ false
    pub running : was_answered rows op ≡ false

  -- a row says nothing of a view
  abbrev pub Quiet : Row T → ℕ → Type 0
  Quiet row number = (told_in (id_shown number) row ≡ None) × (told_in (epoch_shown number) row ≡ None)

  -- no answer showed the view: its number was not given out
  abbrev pub IsUnseen : List (Row T) → ℕ → Type 0
  IsUnseen rows number = (view_at rows number ≡ None) × (epoch_held rows number ≡ None)

  -- a change does not lower a view, and makes a holder of no holder
  abbrev pub IsUp : View T → Change T → Type 0
  IsUp view Keeps = Unit {0}
  IsUp view (Puts id value) = view.id ≤ id
  IsUp view (Makes id value epoch) = (view.id ≤ id) × (view.epoch ≡ None)
  IsUp view Closes = Unit {0}

  -- the number of the view that an answer shows
  abbrev pub shown_by : Answer T → ℕ
  shown_by (answers.View shown id value) = shown
  shown_by (answers.Held shown id value epoch) = 0
  shown_by (answers.Plain answer) = 0

module _ {T : Type 0} (decode : List ℕ → Option T) (get_epoch : T → ℕ) (set_epoch : T → ℕ → T) where
  -- A holder writes a value of its own epoch on an entry of no greater one.
  pub record HolderWrites (rows : List (Row T)) (number base : ℕ) (value : T) : Type 0 where
    pub epoch : ℕ
    pub holder : epoch_held rows number ≡ Some epoch
    pub keeps : get_epoch value ≡ epoch
    pub below : epoch_at decode get_epoch rows base ≤ epoch

  abbrev pub MayWrite : List (Row T) → Call T → ℕ → Type 0
  MayWrite rows (any.View (view_calls.HolderUpdate number value)) base = HolderWrites rows number base value
  MayWrite rows call base = Unit {0}

  -- A write that a call makes. Once true, it stays so.
  pub record WriteStands (rows : List (Row T)) (op : ℕ) (call : Call T) (base : ℕ) (value : T) : Type 0 where
    pub called : IsCall rows op call
    pub begun : was_begun rows op ≡ true
    pub known : base ≤ newest rows
    pub written : WritesOn decode get_epoch set_epoch rows op call base value
    pub rises : epoch_at decode get_epoch rows base ≤ get_epoch value
    pub may : MayWrite rows call base

  -- A claim's attempt: the value has its epoch, and its base's entry a smaller one.
  pub record AttemptStands (rows : List (Row T)) (base : ℕ) (value : T) (epoch : ℕ) : Type 0 where
    pub has : get_epoch value ≡ epoch
    pub old : T
    pub entry : IsEntry decode rows base old
    pub smaller : get_epoch old < epoch

  abbrev pub Attempts : List (Row T) → Call T → ℕ → T → ℕ → Type 0
  Attempts rows (any.View (view_calls.Claim number)) base value epoch = AttemptStands rows base value epoch
  Attempts rows (any.View (view_calls.ClaimAt number at)) base value epoch = AttemptStands rows base value epoch × (epoch ≡ at)
  Attempts rows call base value epoch = Unit {0}

  -- what the operation entered, the boundary has reached
  abbrev pub OwnFenced : List (Row T) → ℕ → Type 0
  OwnFenced rows op = (n : ℕ) (value : T) → Entered decode rows op n value → n ≤ boundary rows

  -- before its write or its read is asked for, an operation's own entries are fenced
  abbrev pub InnerStands : List (Row T) → ℕ → Call T → Inner T → Type 0
  InnerStands rows op call Starts = OwnFenced rows op
  InnerStands rows op call Acts = Unit {0}
  InnerStands rows op call (Writes base value epoch) = WriteStands rows op call base value × Attempts rows call base value epoch
  InnerStands rows op call Reads = MayRead call × OwnFenced rows op

  pub record OpStands (rows : List (Row T)) (views : ℕ → Option (Used T)) (op : ℕ) (o : Operation T) : Type 0 where
    pub called : IsCall rows op o.call
    pub begun : was_begun rows op ≡ true
    pub once : was_answered rows op ≡ false
    pub inner : InnerStands rows op o.call o.inner
    pub uses : Uses rows views op o (view_used o.call)

  abbrev pub OpAt : List (Row T) → (ℕ → Option (Used T)) → ℕ → Option (Operation T) → Type 0
  OpAt rows views op None = Unit {0}
  OpAt rows views op (Some o) = OpStands rows views op o

  abbrev pub AskedStand : List (Row T) → List (Asked T) → Type 0
  AskedStand rows [] = Unit {0}
  AskedStand rows (write ∷ rest) = ((call : Call T) × WriteStands rows write.op call write.base write.value) × AskedStand rows rest

  abbrev pub ViewAt : List (Row T) → ℕ → ℕ → Option (Used T) → Type 0
  ViewAt rows count number None = Unit {0}
  ViewAt rows count number (Some used) = (number ≤ count) × ViewFits decode get_epoch rows number used.view

  pub record Stands (s : Layer T) : Type 0 where
    pub good : IsOneHistory decode get_epoch set_epoch s.failed s.rows
    pub count : s.count ≡ view_count s.rows
    pub views : (number : ℕ) → ViewAt s.rows s.count number (s.views number)
    pub ops : (op : ℕ) → OpAt s.rows s.views op (s.ops op)
    pub asked : AskedStand s.rows s.asked
    pub unseen : (number : ℕ) → s.count < number → IsUnseen s.rows number
    pub begun : s.next ≡ begun_count s.rows + 1
    pub fresh : (op : ℕ) → s.next ≤ op → Fresh s.rows op × (s.ops op ≡ None)

module _ {T : Type 0} (decode : List ℕ → Option T) (get_epoch : T → ℕ) (set_epoch : T → ℕ → T) (failed : List ℕ) where
  -- What an operation does next stands: calls prove it and see no table, and the tables' lemmas take it and open no call.

  -- an answer fits, shows no view but the call's own, and leaves that as it fits
  pub record EndStands (rows : List (Row T)) (views : ℕ → Option (Used T)) (count op : ℕ) (o : Operation T) (answer : Answer T) (change : Change T) : Type 0 where
    pub fits : AnswerFits decode get_epoch failed rows op o.call answer
    pub known : shown_by answer ≤ count
    pub quiet : (number : ℕ) → view_used o.call ≢ Some number → Quiet (Answered op answer) number
    pub own : (number : ℕ) → view_used o.call ≡ Some number → ViewAt decode get_epoch set_epoch (rows ++ Answered op answer ∷ []) count number (changed (views number) change)
    pub rises : (number : ℕ) (used : Used T) → view_used o.call ≡ Some number → views number ≡ Some used → IsUp used.view change

  -- a new view fits
  pub record OpenStands (rows : List (Row T)) (count op : ℕ) (o : Operation T) (id : ℕ) (value : T) : Type 0 where
    pub fits : AnswerFits decode get_epoch failed rows op o.call (answers.View (count + 1) id value)
    pub object : IsEntry decode rows id value
    pub free : view_used o.call ≡ None

  abbrev pub NextStands : List (Row T) → (ℕ → Option (Used T)) → ℕ → ℕ → Operation T → Next T → Type 0
  NextStands rows views count op o (Goes (Writes base value epoch)) = (WriteStands decode get_epoch set_epoch rows op o.call base value × Attempts decode get_epoch set_epoch rows o.call base value epoch) × OwnFenced decode get_epoch set_epoch rows op
  NextStands rows views count op o (Goes Reads) = MayRead o.call × OwnFenced decode get_epoch set_epoch rows op
  NextStands rows views count op o (Goes Starts) = ⊥
  NextStands rows views count op o (Goes Acts) = Unit {0}
  NextStands rows views count op o (Ends answer change) = EndStands rows views count op o answer change
  NextStands rows views count op o (Opens id value) = OpenStands rows count op o id value
