-- Store calls that are refused for memory before anything has reached the store keep a world joined.
use Rattle.std.proofs.Common.{ℕ, List, Option, Some, inr, refl, sym, subst}
use Rattle.txn_steps.specs.declared.boundary.caches.Caches.{Caches}
use Rattle.txn_history.specs.declared.event.PlainAnswer.TheVariants as plain_answers
use Rattle.txn_history.specs.Seen.{Ask, Store}
use Rattle.txn_machine.specs.declared.plain.doing.PlainDoing.TheVariants as doings
use Rattle.txn_machine.specs.declared.plain.doing.PlainOperation.{PlainOperation}
use Rattle.txn_machine.specs.plain.Doing as plain
use Rattle.txn_machine.specs.plain.Machine as machine
use Rattle.txn_machine.proofs.plain.Stands as machine_stands
use Rattle.txn_machine.proofs.plain.Events.{acts_run}
use Rattle.txn_machine.proofs.plain.States.{but, turn_keeps}
use Rattle.txn_machine.proofs.plain.Turns.{stays, lacking}
use Rattle.txn_history.specs.declared.event.Call.{Call}
use Rattle.txn_history.specs.declared.event.Call.TheVariants as any
use Rattle.txn_history.specs.Trace.{Told}
use Rattle.txn_history.specs.Calls.{view_used}
use Rattle.txn_machine.specs.views.Layer as layer
use Rattle.txn_machine.specs.views.Layer.{Inner, Ends, look_up, local_of}
use Rattle.txn_machine.specs.views.Parts.{HasEpoch, is_claim_call}
use Rattle.txn_machine.specs.declared.doing.Ending.TheVariants as endings
use Rattle.txn_machine.specs.Doing.{refused}
use Rattle.txn_machine.specs.Machine.{State, let_go, Lacks}
use Rattle.txn_machine.proofs.Matched.{Answered as IsAnswered}
use Rattle.txn_machine.proofs.Joined.{Past, as_fine, Joined}
use Rattle.txn_machine.proofs.Serving.{asking, rests_joins}
use Rattle.txn_machine.proofs.Failing.{refusing_is, refusing_epoch}

module _ {T : Type 0} (decode : List ℕ → Option T) (get_epoch : T → ℕ) where
  abbrev lacked : plain.Next T
  lacked = (doings.Ended, Some (plain_answers.Refused 9))

  -- the operation of plain calls that stands for it may be refused so
  fine_stands : (s : machine.State T) (op : ℕ) (o : PlainOperation T) (ask : Ask) (caches : Caches) → machine.Acts s op o ask caches → machine_stands.Stands decode get_epoch s → machine_stands.Stands decode get_epoch (machine.acted s op o lacked caches)
  fine_stands s op o ask caches a st =
      let run = acts_run decode get_epoch s op o ask caches a st in
      turn_keeps decode get_epoch s op o ask run.0 doings.Ended (Some (plain_answers.Refused 9)) caches caches a.found a.asks a.kept (st.caches o.client caches a.kept) (stays caches.boundary)
      (lacking decode get_epoch s.failed s.trace s.store caches.boundary op run.0 run.1.runs) (but decode get_epoch s op st)

module _ {T : Type 0} (page : ℕ) (encode : T → List ℕ) (decode : List ℕ → Option T) (get_epoch : T → ℕ) (set_epoch : T → ℕ → T) where
  -- so may the call itself
  is_answered : (call : Call T) (local : Option ℕ) (inner : Inner T) → IsAnswered page encode decode get_epoch set_epoch call local inner doings.Ended (Some (plain_answers.Refused 9)) (refused 9)
  is_answered (any.Plain call) local inner = (refl, refl)
  is_answered (any.View call) local inner =
      let due : layer.Next T = Ends (layer.refused 9) (let_go (is_claim_call (any.View call))) in
      (due, refl, inr (sym (refusing_is call 9)), subst (HasEpoch get_epoch) (refusing_is call 9) (refusing_epoch get_epoch call 9), record { ending = endings.Answers (plain_answers.Refused 9); ends = refl; answers = λ count. refl; changes = refl; quiet = λ e client. refl })

module _ {T : Type 0} (encode : T → List ℕ) (decode : List ℕ → Option T) (get_epoch : T → ℕ) (set_epoch : T → ℕ → T) (past : Past T) (s : State T) (j : Joined decode get_epoch set_epoch past s) where
  pub lacks_joins : (op : ℕ) (said : Told T) (new : State T) → Lacks s op said new → Joined decode get_epoch set_epoch past new
  lacks_joins op said new v =
      let operation = v.operation in
      let h = asking encode decode get_epoch set_epoch past s j op operation (Store v.request) v.caches v.acts in
      let held = h.held in
      let n = j.now op in
      let o = as_fine operation.client held.doing in
      let fine = machine.acted j.fine n o (lacked decode get_epoch) v.caches in
      let stands = fine_stands decode get_epoch j.fine n o (Store v.request) v.caches h.acts j.stands in
      subst (λ (x : State T). Joined decode get_epoch set_epoch past x) (sym v.state)
      (rests_joins encode decode get_epoch set_epoch past s j op operation v.acts.found held h.client (lacked decode get_epoch) v.caches (refused 9) stands (is_answered s.page encode decode get_epoch set_epoch held.call (local_of (look_up j.l.views (view_used held.call))) held.inner))
