-- What an operation of the world does next keeps it joined with the machine and the layer.
use Rattle.std.proofs.Common.{◌≡◌, ℕ, zero, suc, ◌+◌, ◌-◌, ◌⊎◌, List, slice_set, nat_eq, Bool, true, ◌==◌, Option, Some, None, inl, inr, refl, sym, ◌∙◌, ap, subst, arith}
use Rattle.std.specs.List.{list_any}
use Rattle.std.proofs.lemmas.List.{append-nil, length-set}
use Rattle.std.proofs.lemmas.Bool.{cases_Bool, both_ways, eq-eqb, le-leb}
use Rattle.txn_steps.specs.declared.boundary.caches.Caches.{Caches}
use Rattle.txn_store.specs.types.Numbers.{number_of}
use Rattle.txn_history.specs.declared.event.PlainCall.{PlainCall}
use Rattle.txn_history.specs.declared.event.PlainAnswer.{PlainAnswer}
use Rattle.txn_history.specs.declared.event.PlainAnswer.TheVariants as plain_answers
use Rattle.txn_history.specs.History.{epoch_at}
use Rattle.txn_machine.specs.plain.PlainHistory.{tells as plain_tells}
use Rattle.txn_history.specs.Calls as calls
use Rattle.txn_history.specs.Calls.{begun_count, tells_id, view_used}
use Rattle.txn_machine.specs.plain.PlainHistory as plain_history
use Rattle.txn_history.specs.Facts.{base_on}
use Rattle.txn_machine.specs.declared.plain.doing.PlainDoing.{PlainDoing}
use Rattle.txn_machine.specs.plain.Machine as machine
use Rattle.txn_history.specs.declared.event.ViewCall.{ViewCall}
use Rattle.txn_history.specs.declared.event.Call.{Call}
use Rattle.txn_history.specs.declared.event.Call.TheVariants as any
use Rattle.txn_history.specs.declared.event.Answer.{Answer}
use Rattle.txn_history.specs.declared.event.Answer.TheVariants as answers
use Rattle.txn_history.specs.Trace.{Row, PlainRow}
use Rattle.txn_machine.specs.views.Layer as layer
use Rattle.txn_machine.specs.views.Layer.{Used, Inner, Starts, Writes, Reads, Acts, Asked, Layer, Change, Keeps, Puts, Makes, Closes, Goes, Ends, Opens, changed, look_up, local_of, set_used, views_changed, turned}
use Rattle.txn_machine.specs.views.Parts.{Inside, HasEpoch}
use Rattle.txn_machine.specs.views.Parts as parts
use Rattle.txn_machine.proofs.views.Inside.{inside}
use Rattle.txn_machine.proofs.views.Stands as layer_stands
use Rattle.txn_machine.proofs.views.Stands.{OwnFenced}
use Rattle.txn_machine.proofs.views.Takes.{take_stands}
use Rattle.txn_machine.proofs.views.Runs.{tell_stands}
use Rattle.txn_machine.proofs.views.Tied.{Alike, same_versions}
use Rattle.txn_steps_views.specs.declared.op.ViewOp.{ViewOp}
use Rattle.txn_steps_views.specs.declared.op.ViewOp.TheVariants as ops
use Rattle.txn_machine.specs.declared.doing.Doing.{Doing}
use Rattle.txn_machine.specs.declared.doing.Doing.TheVariants as does
use Rattle.txn_machine.specs.declared.doing.Operation.{Operation}
use Rattle.txn_machine.specs.declared.doing.Ending.TheVariants as endings
use Rattle.txn_machine.specs.Doing.{Next, ended}
use Rattle.txn_machine.specs.Machine.{State, acted, doing_next}
use Rattle.txn_machine.proofs.Matched.{fine_call, Matched, NextAs, Answered as IsAnswered}
use Rattle.txn_machine.proofs.Joined.{Past, as_laid, IsTold, ViewTold, AnswerTold, IsAtWork, Held, At, Tie, Joined, Open, Mid}
use Rattle.txn_machine.proofs.Ending.{each_at, end_joins}
use Rattle.txn_machine.proofs.Opening.{opens_joins}
use Rattle.txn_machine.proofs.Goings.{fine_begins, fine_begins_views}
use Rattle.txn_machine.proofs.Telling.{AnswerOnly, ChangeOnly, NextOnly, InsideOnly, taken_only, lacking_only}

number_on : (n : ℕ) → number_of (base_on n) ≡ n
number_on zero = refl
number_on (suc n) = refl

module _ {T : Type 0} where
  -- the ids that an answer of a fine operation tells
  inside_told : (get_epoch : T → ℕ) (set_epoch : T → ℕ → T) (rows : List (PlainRow T)) (answer : PlainAnswer T) → AnswerTold rows answer → InsideOnly (IsTold rows) get_epoch set_epoch (inside answer)
  inside_told get_epoch set_epoch rows (plain_answers.Wrote id) h = λ test e. h test e
  inside_told get_epoch set_epoch rows (plain_answers.Read None) h = tt
  inside_told get_epoch set_epoch rows (plain_answers.Read (Some found)) h = λ test e. h test e
  inside_told get_epoch set_epoch rows (plain_answers.Value found) h = tt
  inside_told get_epoch set_epoch rows (plain_answers.Ids ids) h = tt
  inside_told get_epoch set_epoch rows plain_answers.Done h = tt
  inside_told get_epoch set_epoch rows (plain_answers.Refused number) h = tt

  -- an answer tells only what was told
  answer_only : (rows : List (PlainRow T)) (answer : Answer T) → AnswerOnly (IsTold rows) answer → (test : ℕ → Bool) → tells_id test answer ≡ true → list_any (plain_tells test) rows ≡ true
  answer_only rows (answers.Plain answer) h test e = absurd (both_ways (calls.plain_tells_id test answer) (h test) e)
  answer_only rows (answers.View number id value) h test e = h test e
  answer_only rows (answers.Held number id value epoch) h test e = h test e

  changed_told : (rows : List (PlainRow T)) (used : Option (Used T)) (change : Change T) → ChangeOnly (IsTold rows) change → ViewTold rows used → ViewTold rows (changed used change)
  changed_told rows None change c h = tt
  changed_told rows (Some used) Keeps c h = h
  changed_told rows (Some used) (Puts id value) c h = c
  changed_told rows (Some used) (Makes id value epoch) c h = c
  changed_told rows (Some used) Closes c h = tt

  -- a view that is put somewhere is put where was told
  pub views_told : (rows : List (PlainRow T)) (views : ℕ → Option (Used T)) (view : Option ℕ) (change : Change T) → ChangeOnly (IsTold rows) change → ((number : ℕ) → ViewTold rows (views number)) → (number : ℕ) → ViewTold rows (set_used views view (changed (look_up views view) change) number)
  views_told rows views None change c h number = h number
  views_told rows views (Some i) change c h number = elim (cases_Bool (number == i)) [ inl e ↦ rw e (changed_told rows (views i) change c (h i)) | inr e ↦ rw e (h number) ]

  -- a base that was told is known
  pub base_told : (rows : List (PlainRow T)) (base : ℕ) → (base ≡ 0) ⊎ IsTold rows base → plain_history.is_known_base rows (base_on base) ≡ true
  base_told rows zero h = refl
  base_told rows (suc n) (inl e) = absurd (omega (arith, e))
  base_told rows (suc n) (inr h) = h (nat_eq (suc n)) (eq-eqb (suc n) (suc n) refl)

module _ {T : Type 0} (get_epoch : T → ℕ) where
  -- a call on a view writes or reads
  acts_nothing : (call : ViewCall T) (local : Option ℕ) (op : ViewOp T) (fine : PlainDoing T) → Matched get_epoch (any.View call) local Acts (does.View op) fine → ⊥
  acts_nothing call local (ops.Enters op) fine h = h
  acts_nothing call local (ops.Reads op) fine h = h
  acts_nothing call local (ops.Claims op) fine h = h

  no_acts : (call : ViewCall T) (local : Option ℕ) (doing : Doing T) (fine : PlainDoing T) → Matched get_epoch (any.View call) local Acts doing fine → ⊥
  no_acts call local (does.Plain doing) fine h = h
  no_acts call local (does.View op) fine h = acts_nothing call local op fine h

module _ {T : Type 0} (decode : List ℕ → Option T) (get_epoch : T → ℕ) where
  -- the epoch of an entry, by rows that say the same
  pub same_epoch : (owner : ℕ → ℕ) (fine : List (PlainRow T)) (rows : List (Row T)) → Alike owner fine rows → (n : ℕ) → epoch_at decode get_epoch rows n ≡ epoch_at decode get_epoch fine n
  same_epoch owner fine rows alike n = rw (same_versions owner fine rows alike) refl

module _ {T : Type 0} (encode : T → List ℕ) (decode : List ℕ → Option T) (get_epoch : T → ℕ) (set_epoch : T → ℕ → T) (past : Past T) (s : State T) (op : ℕ) (operation : Operation T) (left : Caches) where
  abbrev kept : List Caches
  kept = slice_set s.caches (operation.client - 1) left

  -- it goes on within its write, its read, or its act
  pub goes_on_joins : (call : Call T) (inner : Inner T) (doing : Doing T) (fine_doing : PlainDoing T) (m : Mid decode get_epoch set_epoch past s op operation call inner (fine_doing, None) kept) → Matched get_epoch call (local_of (look_up m.opened.l.views (view_used call))) inner doing fine_doing → Joined decode get_epoch set_epoch past (acted s op operation (doing, None) left)
  goes_on_joins call inner doing fine_doing m matched =
      let h = m.opened in
      let t = h.tie in
      let next = t.next ∙ ap (λ (n : ℕ). n + 1) (sym (length-set s.operations (op - 1) (doing_next operation doing))) in
      let tie : Tie (acted s op operation (doing, None) left) h.fine h.l = record { clients = t.clients; page = t.page; store = t.store; rows = t.rows ∙ sym (append-nil s.trace); failed = t.failed; views = t.views; count = t.count; next = next } in
      let held : Held decode get_epoch h.fine.operations h.fine.trace h.l.rows h.owner h.now h.l.ops h.l.views h.l.asked op (doing_next operation doing) = record { call = call; inner = inner; runs = h.rest.runs; view = h.rest.view; claims = h.rest.claims; doing = fine_doing; there = m.there; matched = matched; owned = m.owned; does = m.does; past = m.past } in
      let each = each_at decode get_epoch set_epoch past s op operation call inner left h (λ o x. At decode get_epoch h.fine.operations h.fine.trace h.l.rows h.owner h.now h.l.ops h.l.views h.l.asked o x) (doing_next operation doing) (inr held) h.rest.others in
      record { fine = h.fine; l = h.l; owner = h.owner; now = h.now; stands = h.stands; over = h.over; tie = tie; goes = h.goes; grown = h.grown; caches = h.caches; core = h.core; rest = record { each = each; loose = h.rest.loose } }

  -- a call without a view is answered
  pub tells_joins : (call : PlainCall T) (inner : Inner T) (fine_doing : PlainDoing T) (answer : PlainAnswer T) → Mid decode get_epoch set_epoch past s op operation (any.Plain call) inner (fine_doing, Some answer) kept → Joined decode get_epoch set_epoch past (acted s op operation (ended, Some (endings.Answers answer)) left)
  tells_joins call inner fine_doing answer m =
      let h = m.opened in
      end_joins decode get_epoch set_epoch past s op operation (any.Plain call) inner left h (endings.Answers answer) (answers.Plain answer) Keeps (λ count. refl) refl (λ e client. refl)
      (tell_stands decode get_epoch set_epoch h.l (turned h.l op (as_laid operation.client (any.Plain call) inner) (Ends (answers.Plain answer) Keeps)) (record { of = record { op = op; client = operation.client; call = call; inner = inner; runs = h.rest.runs }; answer = answer; fits = m.owes.0; new = refl }))
      m.owes.1 h.core.seen

  -- a call on a view goes on as the layer says
  module _ (call : ViewCall T) (was : Inner T) (h : Open decode get_epoch set_epoch past s op operation (any.View call) was kept) where
    at_work : (local : Option ℕ) (inner : Inner T) (doing : Doing T) (fine_doing : PlainDoing T) → Matched get_epoch (any.View call) local inner doing fine_doing → layer_stands.NextStands decode get_epoch set_epoch h.l.failed h.l.rows h.l.views h.l.count op (as_laid operation.client (any.View call) was) (Goes inner) →
        NextOnly (IsTold h.fine.trace) (Goes inner) → IsAtWork inner × plain_history.PlainOpens decode get_epoch h.fine.trace (machine.next_op h.fine) (fine_call (any.View call) inner) × OwnFenced decode get_epoch set_epoch h.l.rows op
    at_work local (Writes base value epoch) doing fine_doing matched stands only =
        let rises = stands.0.0.rises in
        let same = same_epoch decode get_epoch h.owner h.fine.trace h.l.rows h.core.tied.top base in
        let on = ap (λ (n : ℕ). epoch_at decode get_epoch h.fine.trace n) (number_on base) in (
          tt,
          record {
            next = ap (λ (n : ℕ). n + 1) h.stands.count;
            known = base_told h.fine.trace base only;
            low = refl;
            keeps = le-leb (epoch_at decode get_epoch h.fine.trace (number_of (base_on base))) (get_epoch value) (omega (arith, rises, same, on));
          },
          stands.1,
        )
    at_work local Reads doing fine_doing matched stands only = (tt, record { next = ap (λ (n : ℕ). n + 1) h.stands.count; known = refl; low = refl; keeps = refl }, stands.1)
    at_work local Starts doing fine_doing matched stands only = absurd stands
    at_work local Acts doing fine_doing matched stands only = absurd (no_acts get_epoch call local doing fine_doing matched)

    pub next_joins : (due : layer.Next T) (next : Next T) → layer_stands.NextStands decode get_epoch set_epoch h.l.failed h.l.rows h.l.views h.l.count op (as_laid operation.client (any.View call) was) due → NextOnly (IsTold h.fine.trace) due →
        NextAs h.fine.page encode decode get_epoch (any.View call) (local_of (look_up h.l.views (view_used (any.View call)))) due next → Joined decode get_epoch set_epoch past (acted s op operation next left)
    next_joins (Goes inner) next stands only says =
        let w = at_work (local_of (look_up h.l.views (view_used (any.View call)))) inner says.doing says.fine says.matched stands only in
        let m = fine_begins encode decode get_epoch set_epoch past s op operation (any.View call) was inner kept h (says.fine, None) (sym says.begins) w.1 says.reads_back says.word w.0 stands w.2 in
        let same = fine_begins_views encode decode get_epoch set_epoch past s op operation (any.View call) was inner kept h (says.fine, None) (sym says.begins) w.1 says.reads_back says.word w.0 stands w.2 in
        let matched = subst (λ (views : ℕ → Option (Used T)). Matched get_epoch (any.View call) (local_of (look_up views (view_used (any.View call)))) inner says.doing says.fine) (sym same) says.matched in
        subst (λ (n : Next T). Joined decode get_epoch set_epoch past (acted s op operation n left)) (sym says.goes) (goes_on_joins (any.View call) inner says.doing says.fine m matched)
    next_joins (Ends answer change) next stands only says =
        subst (λ (n : Next T). Joined decode get_epoch set_epoch past (acted s op operation n left)) (sym says.ends)
        (end_joins decode get_epoch set_epoch past s op operation (any.View call) was left h says.ending answer change says.answers says.changes says.quiet stands (answer_only h.fine.trace answer only.0) (views_told h.fine.trace h.l.views (view_used (any.View call)) change only.1 h.core.seen))
    next_joins (Opens id value) next stands only says =
        subst (λ (n : Next T). Joined decode get_epoch set_epoch past (acted s op operation n left)) (sym says.0)
        (opens_joins decode get_epoch set_epoch past s op operation (any.View call) was left h id value says.1 stands only)

  -- An operation takes its turn: what its fine operation goes on to, the operation goes on to.
  pub turn_joins : (call : Call T) (inner : Inner T) (fine_doing : PlainDoing T) (answer : Option (PlainAnswer T)) (m : Mid decode get_epoch set_epoch past s op operation call inner (fine_doing, answer) kept) (next : Next T) →
      IsAnswered m.opened.fine.page encode decode get_epoch set_epoch call (local_of (look_up m.opened.l.views (view_used call))) inner fine_doing answer next → Joined decode get_epoch set_epoch past (acted s op operation next left)
  turn_joins call inner fine_doing None m next a = subst (λ (n : Next T). Joined decode get_epoch set_epoch past (acted s op operation n left)) (sym a.1) (goes_on_joins call inner a.0 fine_doing m a.2)
  turn_joins (any.Plain call) inner fine_doing (Some answer) m next a = subst (λ (n : Next T). Joined decode get_epoch set_epoch past (acted s op operation n left)) (sym a.1) (tells_joins call inner fine_doing answer m)
  turn_joins (any.View call) inner fine_doing (Some answer) m next a =
      let h = m.opened in
      let local = local_of (look_up h.l.views (view_used (any.View call))) in
      let t = take_stands decode get_epoch set_epoch h.l (turned h.l op (as_laid operation.client (any.View call) inner) a.0) h.over
      (record { of = record { op = op; client = operation.client; call = call; inner = inner; runs = h.rest.runs }; answer = inside answer; fits = m.owes.0; next = a.0; makes = a.2; has = a.3; new = refl }) in
      let only = lacking_only (IsTold h.fine.trace) (any.View call) (parts.taken get_epoch set_epoch (any.View call) local inner (inside answer)) a.0 a.2 (taken_only (IsTold h.fine.trace) get_epoch set_epoch call local inner (inside answer) (inside_told get_epoch set_epoch h.fine.trace answer m.owes.1)) in
      next_joins call inner h a.0 next t only a.4
