-- A journal with one row more, and what is then known of its client.
use Rattle.std.proofs.Common.{◌≡◌, ℕ, ◌+◌, List, [], ◌∷◌, ◌++◌, false, Option, Some, None, string_bytes, refl, sym, ◌∙◌, ap, subst}
use Rattle.std.proofs.lemmas.List.{append_assoc, append-nil}
use Rattle.std.specs.Borrow.{Bor}
use Rattle.txn_store.specs.declared.request.Request.{Request}
use Rattle.txn_store.specs.declared.request.Reply.{Reply}
use Rattle.txn_history.specs.Seen.{Store}
use Rattle.txn_history.specs.declared.event.Call.{Call}
use Rattle.txn_history.specs.declared.event.Answer.{Answer}
use Rattle.txn_client_journals.specs.declared.rows.Act.{Act}
use Rattle.txn_client_journals.specs.declared.rows.Act.TheVariants as acts
use Rattle.txn_client_journals.specs.declared.rows.Receipt.{Receipt}
use Rattle.txn_client_journals.specs.declared.rows.Step.{Step}
use Rattle.txn_client_journals.specs.declared.rows.Step.TheVariants as steps
use Rattle.txn_client_journals.specs.declared.rows.JournalRow.{JournalRow}
use Rattle.txn_client_journals.specs.Parts.{Part}
use Rattle.txn_client_journals.specs.Journals.{goes_on, Follows, FailsAt}
use Rattle.txn_client_journals.specs.tables.Operations.{asked_of}
use Rattle.txn_diary.specs.Diaries.{DiaryState, asked_in}
use Rattle.txn_diary.proofs.Stepping.{asks_alive}
use Rattle.txn_diary.specs.Reading.{begun_by}
use Rattle.txn_script_lines.specs.Printed.{answered_text}
use Rattle.txn_audit.specs.declared.recordings.stage.Stage.{Stage}
use Rattle.txn_audit.specs.declared.recordings.stage.Stage.TheVariants as stages
use Rattle.txn_audit.specs.recordings.Told.{RowTold, Began, Asked, Replied, Failed, GaveUp, Answered, act_tells, answer_tells, entry_tells, journal_tells, TellsSame, Whole, EndsAsking, LacksAnswer}
use Rattle.txn_audit.specs.recordings.Stages.{all_begun, IsAt, Stands, Goes, GoesOn, IsStageOf, IsSameClient}

module _ {T : Type 0} where
  -- what a journal with one row more tells
  pub tells_more : (text : Answer T → List ℕ) (begun : ℕ) (rows : List (JournalRow T)) (row : JournalRow T) → journal_tells text begun (rows ++ row ∷ []) ≡ journal_tells text begun rows ++ entry_tells text (all_begun begun rows) row
  tells_more text begun [] row = append-nil (entry_tells text begun row)
  tells_more text begun (r ∷ rows) row =
      ap (λ xs. entry_tells text begun r ++ xs) (tells_more text (begun_by begun r.step) rows row)
      ∙ sym (append_assoc (entry_tells text begun r) (journal_tells text (begun_by begun r.step) rows) (entry_tells text (all_begun (begun_by begun r.step) rows) row))

  -- how many operations began with it
  pub begun_more : (begun : ℕ) (rows : List (JournalRow T)) (row : JournalRow T) → all_begun begun (rows ++ row ∷ []) ≡ begun_by (all_begun begun rows) row.step
  begun_more begun [] row = refl
  begun_more begun (r ∷ rows) row = begun_more (begun_by begun r.step) rows row

  -- the stage that comes with an answer, by what was told before it
  at_stage : (text : Answer T → List ℕ) (op : ℕ) (recorded journaled before more : List (RowTold T)) (answer : Option (Answer T)) (stage : Stage) → recorded ≡ before ++ more → journaled ≡ before ++ (more ++ answer_tells text op answer) → IsStageOf text answer stage → IsAt op recorded journaled stage
  at_stage text op recorded journaled before more None stage r j is =
      subst (IsAt op recorded journaled) (sym is) (r ∙ (ap (λ xs. before ++ xs) (sym (append-nil more)) ∙ sym j))
  at_stage text op recorded journaled before more (Some answer) (stages.Answers words) r j is =
      ap (λ xs. xs ++ Answered op (string_bytes words) ∷ []) r ∙ (append_assoc before more (Answered op (string_bytes words) ∷ []) ∙ (ap (λ w. before ++ (more ++ Answered op w ∷ [])) is ∙ sym j))
  at_stage text op recorded journaled before more (Some answer) stages.Idle r j is = elim is [ ]
  at_stage text op recorded journaled before more (Some answer) stages.Runs r j is = elim is [ ]
  at_stage text op recorded journaled before more (Some answer) (stages.Asks request) r j is = elim is [ ]

  -- An operation acts, and is answered or not.
  pub acted : (text : T → List ℕ) (rows next : List (JournalRow T)) (begun : ℕ) (act : Act) (answer : Option (Answer T)) (recorded : List (RowTold T)) (stage : Stage) → next ≡ rows ++ record { step = steps.Act begun act; answer = answer } ∷ [] → all_begun 0 rows ≡ begun → recorded ≡ journal_tells (answered_text text) 0 rows ++ act_tells begun act → IsStageOf (answered_text text) answer stage → Stands text recorded next begun stage
  acted text rows next begun act answer recorded stage adds count tells is =
      let words = answered_text text in
      let row : JournalRow T = record { step = steps.Act begun act; answer = answer } in (
        ap (all_begun 0) adds ∙ (begun_more 0 rows row ∙ count),
        at_stage words begun recorded (journal_tells words 0 next) (journal_tells words 0 rows) (act_tells begun act) answer stage tells (ap (journal_tells words 0) adds ∙ tells_more words 0 rows row) is,
      )

  -- it looks
  pub looked : (text : T → List ℕ) (rows next : List (JournalRow T)) (begun : ℕ) (answer : Option (Answer T)) (recorded : List (RowTold T)) (before stage : Stage) → next ≡ rows ++ record { step = steps.Act begun acts.Look; answer = answer } ∷ [] → before ≡ stages.Runs → Stands text recorded rows begun before → IsStageOf (answered_text text) answer stage → Stands text recorded next begun stage
  looked text rows next begun answer recorded before stage adds runs stands is =
      let tells : recorded ≡ journal_tells (answered_text text) 0 rows = subst (IsAt begun recorded (journal_tells (answered_text text) 0 rows)) runs stands.1 in
      acted text rows next begun acts.Look answer recorded stage adds stands.0 (tells ∙ sym (append-nil (journal_tells (answered_text text) 0 rows))) is

  -- it takes the reply to what it asked
  pub replied : (text : T → List ℕ) (rows next : List (JournalRow T)) (begun op : ℕ) (receipt : Receipt) (asked : Bor Request) (reply : Reply) (answer : Option (Answer T)) (recorded : List (RowTold T)) (before stage : Stage) → next ≡ rows ++ record { step = steps.Act op (acts.Receive receipt); answer = answer } ∷ [] → op ≡ begun → receipt.request ≡ asked.now → receipt.reply ≡ reply → before ≡ stages.Asks asked → Stands text recorded rows begun before → IsStageOf (answered_text text) answer stage → Stands text (recorded ++ Replied op reply ∷ []) next begun stage
  replied text rows next begun op receipt asked reply answer recorded before stage adds last request given asks stands is =
      let words = answered_text text in
      let tells : recorded ≡ journal_tells words 0 rows ++ Asked begun asked.now ∷ [] = subst (IsAt begun recorded (journal_tells words 0 rows)) asks stands.1 in
      let row : ℕ → JournalRow T = λ n. record { step = steps.Act n (acts.Receive receipt); answer = answer } in
      acted text rows next begun (acts.Receive receipt) answer (recorded ++ Replied op reply ∷ []) stage (adds ∙ ap (λ n. rows ++ row n ∷ []) last) stands.0
      (ap (λ xs. xs ++ Replied op reply ∷ []) tells ∙ (append_assoc (journal_tells words 0 rows) (Asked begun asked.now ∷ []) (Replied op reply ∷ [])
      ∙ (ap (λ n. journal_tells words 0 rows ++ Asked begun asked.now ∷ Replied n reply ∷ []) last
      ∙ (ap (λ r. journal_tells words 0 rows ++ Asked begun r ∷ Replied begun reply ∷ []) (sym request)
      ∙ ap (λ r. journal_tells words 0 rows ++ Asked begun receipt.request ∷ Replied begun r ∷ []) (sym given))))) is

  -- its store call failed
  pub failed : (text : T → List ℕ) (rows next : List (JournalRow T)) (begun op : ℕ) (request : Request) (asked : Bor Request) (answer : Option (Answer T)) (recorded : List (RowTold T)) (before stage : Stage) → next ≡ rows ++ record { step = steps.Act op (acts.Fails request); answer = answer } ∷ [] → op ≡ begun → request ≡ asked.now → before ≡ stages.Asks asked → Stands text recorded rows begun before → IsStageOf (answered_text text) answer stage → Stands text (recorded ++ Failed op ∷ []) next begun stage
  failed text rows next begun op request asked answer recorded before stage adds last same asks stands is =
      let words = answered_text text in
      let tells : recorded ≡ journal_tells words 0 rows ++ Asked begun asked.now ∷ [] = subst (IsAt begun recorded (journal_tells words 0 rows)) asks stands.1 in
      let row : ℕ → JournalRow T = λ n. record { step = steps.Act n (acts.Fails request); answer = answer } in
      acted text rows next begun (acts.Fails request) answer (recorded ++ Failed op ∷ []) stage (adds ∙ ap (λ n. rows ++ row n ∷ []) last) stands.0
      (ap (λ xs. xs ++ Failed op ∷ []) tells ∙ (append_assoc (journal_tells words 0 rows) (Asked begun asked.now ∷ []) (Failed op ∷ [])
      ∙ (ap (λ n. journal_tells words 0 rows ++ Asked begun asked.now ∷ Failed n ∷ []) last
      ∙ ap (λ r. journal_tells words 0 rows ++ Asked begun r ∷ Failed begun ∷ []) (sym same)))) is

  -- it is given up
  pub gave_up : (text : T → List ℕ) (rows next : List (JournalRow T)) (begun op : ℕ) (left : Option Request) (answer : Option (Answer T)) (recorded : List (RowTold T)) (before : Stage) → next ≡ rows ++ record { step = steps.Act op (acts.GiveUp left); answer = answer } ∷ [] → op ≡ begun → answer ≡ None → before ≡ stages.Runs → Stands text recorded rows begun before → Stands text (recorded ++ GaveUp op ∷ []) next begun stages.Runs
  gave_up text rows next begun op left answer recorded before adds last none runs stands =
      let words = answered_text text in
      let tells : recorded ≡ journal_tells words 0 rows = subst (IsAt begun recorded (journal_tells words 0 rows)) runs stands.1 in
      let row : ℕ → Option (Answer T) → JournalRow T = λ n a. record { step = steps.Act n (acts.GiveUp left); answer = a } in
      acted text rows next begun (acts.GiveUp left) None (recorded ++ GaveUp op ∷ []) stages.Runs (adds ∙ (ap (λ n. rows ++ row n answer ∷ []) last ∙ ap (λ a. rows ++ row begun a ∷ []) none)) stands.0
      (ap (λ xs. xs ++ GaveUp op ∷ []) tells ∙ ap (λ n. journal_tells words 0 rows ++ GaveUp n ∷ []) last) refl

  -- A call begins, and is answered or not.
  pub began : (text : T → List ℕ) (rows next : List (JournalRow T)) (begun op : ℕ) (call : Call T) (answer : Option (Answer T)) (recorded : List (RowTold T)) (stage : Stage) → next ≡ rows ++ record { step = steps.Begin call; answer = answer } ∷ [] → all_begun 0 rows ≡ begun → op ≡ begun + 1 → recorded ≡ journal_tells (answered_text text) 0 rows → IsStageOf (answered_text text) answer stage → Stands text (recorded ++ Began op call ∷ []) next op stage
  began text rows next begun op call answer recorded stage adds count number tells is =
      let words = answered_text text in
      let row : JournalRow T = record { step = steps.Begin call; answer = answer } in
      let here : all_begun 0 rows + 1 ≡ op = ap (λ n. n + 1) count ∙ sym number in (
        ap (all_begun 0) adds ∙ (begun_more 0 rows row ∙ here),
        at_stage words op (recorded ++ Began op call ∷ []) (journal_tells words 0 next) (journal_tells words 0 rows) (Began op call ∷ []) answer stage (ap (λ xs. xs ++ Began op call ∷ []) tells)
            (ap (journal_tells words 0) adds ∙ (tells_more words 0 rows row ∙ ap (λ n. journal_tells words 0 rows ++ ((Began n call ∷ []) ++ answer_tells words n answer)) here)) is,
      )

  -- a client that is killed tells nothing more
  killed_adds : (text : Answer T → List ℕ) (rows next : List (JournalRow T)) (step : Step T) (answer : Option (Answer T)) → next ≡ rows ++ record { step = step; answer = answer } ∷ [] → goes_on step ≡ false → answer ≡ None → journal_tells text 0 next ≡ journal_tells text 0 rows
  killed_adds text rows next (steps.Begin call) answer adds e none = cc
  killed_adds text rows next (steps.Act op act) answer adds e none = cc
  killed_adds text rows next (steps.Killed lefts) answer adds e none =
      let row : Option (Answer T) → JournalRow T = λ a. record { step = steps.Killed lefts; answer = a } in
      ap (journal_tells text 0) (adds ∙ ap (λ a. rows ++ row a ∷ []) none)
      ∙ (tells_more text 0 rows (row None) ∙ append-nil (journal_tells text 0 rows))

  -- at each stage a recording that ends tells what the journal tells
  ended_at : (op : ℕ) (recorded journaled : List (RowTold T)) (stage : Stage) → IsAt op recorded journaled stage → TellsSame recorded journaled
  ended_at op recorded journaled stages.Idle is = Whole is
  ended_at op recorded journaled stages.Runs is = Whole is
  ended_at op recorded journaled (stages.Asks request) is = EndsAsking op request.now is
  ended_at op recorded journaled (stages.Answers words) is = LacksAnswer op (string_bytes words) is

  pub ended : (text : T → List ℕ) (rows : List (JournalRow T)) (begun : ℕ) (recorded : List (RowTold T)) (stage : Stage) → Stands text recorded rows begun stage → TellsSame recorded (journal_tells (answered_text text) 0 rows)
  ended text rows begun recorded stage stands = ended_at begun recorded (journal_tells (answered_text text) 0 rows) stage stands.1

  pub killed_ended : (text : T → List ℕ) (rows next : List (JournalRow T)) (step : Step T) (answer : Option (Answer T)) (begun : ℕ) (recorded : List (RowTold T)) (stage : Stage) → next ≡ rows ++ record { step = step; answer = answer } ∷ [] → goes_on step ≡ false → answer ≡ None → Stands text recorded rows begun stage → TellsSame recorded (journal_tells (answered_text text) 0 next)
  killed_ended text rows next step answer begun recorded stage adds e none stands =
      subst (TellsSame recorded) (sym (killed_adds (answered_text text) rows next step answer adds e none)) (ended text rows begun recorded stage stands)

module _ {T : Type 0} (page : ℕ) (encode : T → List ℕ) (decode : List ℕ → Option T) (get_epoch : T → ℕ) (set_epoch : T → ℕ → T) where
  -- a kill answers nothing
  pub killed_answer : (client : ℕ) (old new : Part T) (step : Step T) (answer : Option (Answer T)) → goes_on step ≡ false → Follows page encode decode get_epoch set_epoch client old step answer new → answer ≡ None
  killed_answer client old new (steps.Begin call) answer e f = cc
  killed_answer client old new (steps.Act op act) answer e f = cc
  killed_answer client old new (steps.Killed lefts) answer e f = f.tells

module _ {T C E : Type 0} where
  -- the request of a call that failed is the one that was asked
  pub failed_request : (get_epoch : T → ℕ) (diary : DiaryState T C E) (op : ℕ) (was request : Request) (answer : Option (Answer T)) (new : Part T) → asked_in diary op ≡ Some (Store was) → FailsAt get_epoch diary.part op request answer new → request ≡ was
  failed_request get_epoch diary op was request answer new asks fails =
      let same : Some (Store was) ≡ Some (Store request) = sym (asks_alive diary op (Store was) asks).1 ∙ (ap asked_of fails.found ∙ fails.asks) in
      cc

module _ {T : Type 0} where
  -- a client goes on, and goes on
  pub goes_on_more : (text : T → List ℕ) (one two three : List (JournalRow T)) (k l m : ℕ) (s t u : Stage) → GoesOn text one k s two l t → GoesOn text two l t three m u → GoesOn text one k s three m u
  goes_on_more text one two three k l m s t u first second recorded stands = second recorded (first recorded stands)

  -- a client makes a row, and goes on
  pub goes_then : (text : T → List ℕ) (more : List (RowTold T)) (one two three : List (JournalRow T)) (k l m : ℕ) (s t u : Stage) → Goes text more one k s two l t → GoesOn text two l t three m u → Goes text more one k s three m u
  goes_then text more one two three k l m s t u first second recorded stands = second (recorded ++ more) (first recorded stands)

module _ {T C E : Type 0} where
  -- the same client, and the same again
  pub same_more : (one two three : DiaryState T C E) → IsSameClient one two → IsSameClient two three → IsSameClient one three
  same_more one two three first second = record { client = second.client ∙ first.client; page = second.page ∙ first.page; codec = second.codec ∙ first.codec; epochs = second.epochs ∙ first.epochs }
