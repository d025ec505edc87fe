-- What a script prints, as a relation of its bytes over the steps of its world.
use Rattle.std.specs.Prelude.{◌≡◌, ℕ, zero, suc, List, [], ◌∷◌, ◌++◌, ◌+◌, ◌≤◌, ◌⊎◌, Bool, true, false, map, Option, Some, None, IfSome, Result, Ok, Err, length}
use Rattle.std.specs.Io.KnownBytes.{Appends}
use Rattle.txn_history.specs.declared.event.EventOf.{EventOf}
use Rattle.txn_history.specs.declared.event.ToldOf.TheVariants as told
use Rattle.txn_history.specs.History.{history, boundary, AreErased}
use Rattle.txn_history.specs.Trace.{Told}
use Rattle.txn_machine.specs.Machine.{State, opening, seen_views}
use Rattle.txn_script_lines.specs.declared.line.Line.{Line}
use Rattle.txn_script_lines.specs.declared.line.Line.TheVariants as lines
use Rattle.txn_script_lines.specs.declared.stop.Stop.{Stop}
use Rattle.txn_script_lines.specs.declared.stop.Stop.TheVariants as stops
use Rattle.txn_script_lines.specs.Lines.{lines_of, is_skipped, kept}
use Rattle.txn_script_lines.specs.Grammar.{line_text, LineFits, Says}
use Rattle.txn_script_lines.specs.Printed.{answer_text, status_of}
use Rattle.txn_script.specs.Printed.{with_feed, end_text}
use Rattle.txn_script.specs.Rules.{Rules}

-- no answer was told: after a look or a serve, its operation goes on
abbrev pub goes_on : {T : Type 0} → Told T → Bool
goes_on (told.Began op) = true
goes_on (told.Went op) = true
goes_on (told.Answered op answer) = false
goes_on (told.GaveUp op) = true
goes_on (told.Landed k changed) = true
goes_on (told.Crashed client) = true

-- what is printed of what an event was told
abbrev pub told_text : {T : Type 0} → (T → List ℕ) → Told T → List ℕ
told_text text (told.Began op) = []
told_text text (told.Went op) = []
told_text text (told.Answered op answer) = with_feed (answer_text text op answer)
told_text text (told.GaveUp op) = []
told_text text (told.Landed k changed) = []
told_text text (told.Crashed client) = []

-- how many clients a script may have
abbrev pub IsClients : ℕ → Type 0
IsClients count = (1 ≤ count) × (count ≤ 64)

-- `page N` may stand directly after `clients`, with N from 1 to 1000.
abbrev pub IsPage : Option ℕ → ℕ → Type 0
IsPage None size = ⊥
IsPage (Some clients) size = (1 ≤ size) × (size ≤ 1000)

-- How far a script is: its world, and directly after the line `clients N` that N.
pub record Stage (T : Type 0) : Type 0 where
  pub state : State T
  pub opened : Option ℕ

-- It makes the world one of pages of that size, in which nothing has happened, and prints nothing.
abbrev pub PageSteps : {T : Type 0} → Option ℕ → ℕ → List ℕ → State T → Type 0
PageSteps None size text new = ⊥
PageSteps (Some clients) size text new = (text ≡ []) × (new ≡ opening clients size) × (1 ≤ size) × (size ≤ 1000)

-- A line may stand at a stage of the script: `clients N` with N from 1 to 64 before there is a world, `page N` directly after it, and each other line where there is a world.
abbrev pub MayStand : {T C : Type 0} → Option (Stage T) → Line C → Type 0
MayStand None (lines.Clients count) = (1 ≤ count) × (count ≤ 64)
MayStand None (lines.Page size) = ⊥
MayStand None (lines.Event event) = ⊥
MayStand None (lines.Run op) = ⊥
MayStand (Some stage) (lines.Clients count) = ⊥
MayStand (Some stage) (lines.Page size) = IsPage stage.opened size
MayStand (Some stage) (lines.Event event) = Unit {0}
MayStand (Some stage) (lines.Run op) = Unit {0}

-- the exit status of a script that ended so
abbrev pub ended_status : {A : Type 0} → Result A Stop → ℕ
ended_status (Ok done) = 0
ended_status (Err stop) = status_of stop

module _ {T C : Type 0} (rules : Rules T C) where
  -- a text says a line
  abbrev pub SaysLine : List ℕ → Line C → Type 0
  SaysLine bytes line = Says (line_text rules.call_text) (LineFits rules.call_fits) bytes line

  -- An event is taken, or is due its fault: whether neither an answer nor a fault was told, what is printed, and the state after it.
  abbrev pub Steps : State T → EventOf C → Bool → List ℕ → State T → Type 0
  Steps old event going text new =
      ((t : Told T) × rules.world.takes old event t new × (going ≡ goes_on t) × (text ≡ told_text rules.value_text t))
      ⊎ ((fault : List ℕ) × (rules.world.due old event ≡ Some fault) × (new ≡ old) × (going ≡ false) × (text ≡ with_feed fault))

  -- An operation gets what it asks for while it goes on, at most n times. It is no abbreviation, so that `RunsOperation 100` stays as it is.
  unfoldable pub RunsOperation : ℕ → State T → ℕ → List ℕ → State T → Type 0
  RunsOperation zero old op text new = (text ≡ []) × (new ≡ old)
  RunsOperation (suc n) old op text new =
      Steps old (rules.world.next old op) false text new
      ⊎ ((first : List ℕ) × (middle : State T) × (rest : List ℕ) × Steps old (rules.world.next old op) true first middle × RunsOperation n middle op rest new × (text ≡ first ++ rest))

  -- What a line after the first one prints, and the state after it.
  abbrev pub EventSteps : Option ℕ → State T → Line C → List ℕ → State T → Type 0
  EventSteps opened old (lines.Clients count) text new = ⊥
  EventSteps opened old (lines.Page size) text new = PageSteps opened size text new
  EventSteps opened old (lines.Event event) text new = (going : Bool) × Steps old event going text new
  EventSteps opened old (lines.Run op) text new = RunsOperation 100 old op text new

  -- What a line prints, and the stage after it. Without a `page` line a page has 1,000 files at most.
  abbrev pub LineSteps : Option (Stage T) → Line C → List ℕ → Option (Stage T) → Type 0
  LineSteps None (lines.Clients count) text new = (text ≡ []) × (new ≡ Some (record { state = opening count 1000; opened = Some count }))
  LineSteps None (lines.Page size) text new = ⊥
  LineSteps None (lines.Event event) text new = ⊥
  LineSteps None (lines.Run op) text new = ⊥
  LineSteps (Some old) line text new = (state : State T) × (new ≡ Some (record { state = state; opened = None })) × EventSteps old.opened old.state line text state

  -- What lines print, one after another, and the stage after them.
  abbrev pub Plays : Option (Stage T) → List (List ℕ) → List ℕ → Option (Stage T) → Type 0
  Plays old [] text new = (text ≡ []) × (new ≡ old)
  Plays old (bytes ∷ rest) text new =
      (line : Line C) × (first : List ℕ) × (middle : Option (Stage T)) × (more : List ℕ) × SaysLine bytes line × MayStand old line × LineSteps old line first middle × Plays middle rest more new × (text ≡ first ++ more)

  -- The lines that are printed at the end of a script: the history, the boundary and the erased ids of its trace, what is pinned where values pin some, and the views as they stand.
  pub record EndsWith (s : State T) (text : List ℕ) : Type 0 where
    pub values : List T
    pub ids : List ℕ
    pub pins : Option (List ℕ)
    pub entries : map Some values ≡ history rules.world.decode s.trace
    pub erased : AreErased s.trace ids
    pub pinned : rules.world.pins s pins
    pub whole : text ≡ end_text rules.value_text values (boundary s.trace) ids pins (seen_views s.views)

  -- What a whole script prints: what its kept lines print, and then the end lines.
  pub record Prints (input text : List ℕ) : Type 0 where
    pub printed : List ℕ
    pub stage : Stage T
    pub ending : List ℕ
    pub plays : Plays None (kept (lines_of input)) printed (Some stage)
    pub ends : EndsWith stage.state ending
    pub whole : text ≡ printed ++ ending

  -- The first of these lines may not stand at this stage; or no line is left, and there is no world yet.
  abbrev pub IsBadNext : Option (Stage T) → List (List ℕ) → Type 0
  IsBadNext stage [] = stage ≡ None
  IsBadNext stage (bytes ∷ rest) = (is_skipped bytes ≡ false) × ((line : Line C) → SaysLine bytes line → ¬ (MayStand stage line))

  -- Line n of the input, counted from 1 over all lines, is bad, and this is what the kept lines before it print.
  pub record IsBadLine (input : List ℕ) (n : ℕ) (text : List ℕ) : Type 0 where
    pub before : List (List ℕ)
    pub left : List (List ℕ)
    pub stage : Option (Stage T)
    pub lines : lines_of input ≡ before ++ left
    pub number : n ≡ length before + 1
    pub plays : Plays None (kept before) text stage
    pub bad : IsBadNext stage left

  -- The first of the end lines, or none of them: none while lines are left, or where there is no world.
  abbrev pub IsEndFront : Option (Stage T) → List (List ℕ) → List ℕ → Type 0
  IsEndFront None left text = text ≡ []
  IsEndFront (Some s) (line ∷ rest) text = text ≡ []
  IsEndFront (Some s) [] text = (text ≡ []) ⊎ ((more : List ℕ) × EndsWith s.state (text ++ more))

  -- What the first so many lines of the input print, and after the last of them perhaps the first of the end lines.
  pub record IsFront (input text : List ℕ) : Type 0 where
    pub before : List (List ℕ)
    pub left : List (List ℕ)
    pub stage : Option (Stage T)
    pub printed : List ℕ
    pub ending : List ℕ
    pub lines : lines_of input ≡ before ++ left
    pub plays : Plays None (kept before) printed stage
    pub ends : IsEndFront stage left ending
    pub whole : text ≡ printed ++ ending

  -- The kept lines of a script lead to this state, where the bytes that were read are known.
  abbrev pub LeadsTo : Option (List ℕ) → State T → Type 0
  LeadsTo input state = IfSome input (λ bytes. (printed : List ℕ) × (opened : Option ℕ) × Plays None (kept (lines_of bytes)) printed (Some (record { state = state; opened = opened })))

  -- What a whole script wrote, where the bytes that were read are known: a writer's bytes before it and after it.
  abbrev pub IsPrinted : Option (List ℕ) → Option (List ℕ) → Option (List ℕ) → Type 0
  IsPrinted input old new = IfSome input (λ bytes. (text : List ℕ) × Prints bytes text × Appends old new text)

  -- The same where line n is bad, and where a read failed or memory was wanting.
  abbrev pub IsPrintedBefore : ℕ → Option (List ℕ) → Option (List ℕ) → Option (List ℕ) → Type 0
  IsPrintedBefore n input old new = IfSome input (λ bytes. (text : List ℕ) × IsBadLine bytes n text × Appends old new text)

  abbrev pub IsFrontPrinted : Option (List ℕ) → Option (List ℕ) → Option (List ℕ) → Type 0
  IsFrontPrinted input old new = IfSome input (λ bytes. (text : List ℕ) × IsFront bytes text × Appends old new text)

  -- What is known where a script stops. After a failed write it is nothing.
  abbrev pub StopsAfter : Stop → Option (List ℕ) → Option (List ℕ) → Option (List ℕ) → Type 0
  StopsAfter (stops.BadLine n) input old new = IsPrintedBefore n input old new
  StopsAfter stops.ReadFailed input old new = IsFrontPrinted input old new
  StopsAfter stops.NoMemory input old new = IsFrontPrinted input old new
  StopsAfter stops.WriteFailed input old new = Unit {0}

  -- What the exit status of a run says: 0 that what the whole script prints was written and nothing said of errors, 2 that a line is bad and that what the lines before it print was written.
  pub record RunEnds {E : Type 0} (status : ℕ) (input old new : Option (List ℕ)) (err err' : E) : Type 0 where
    pub status_most : status ≤ 2
    pub silent : status ≡ 0 → err' ≡ err
    pub done : status ≡ 0 → IsPrinted input old new
    pub bad_line : status ≡ 2 → (n : ℕ) × IsPrintedBefore n input old new
