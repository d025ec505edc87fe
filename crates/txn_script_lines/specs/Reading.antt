-- How the lines are read, for the functions that read them.
use Rattle.std.specs.Prelude.{◌≡◌, ℕ, ◌+◌, ◌≤◌, ◌<◌, ◌==◌, nat_lt, List, [], ◌∷◌, ◌++◌, Bool, true, false, Option, Some, None, IfSome, length, ◌⊎◌}
use Rattle.std.specs.Io.BufRead.{take_through, drop_through, first_piece}
use Rattle.txn_history.specs.declared.event.PlainCall.TheVariants as calls
use Rattle.txn_history.specs.declared.event.EventOf.TheVariants as events
use Rattle.txn_history.specs.declared.event.ViewCall.TheVariants as view_calls
use Rattle.txn_history.specs.declared.event.Call.{Call}
use Rattle.txn_history.specs.declared.event.Call.TheVariants as any
use Rattle.txn_script_lines.specs.declared.line.Line.{Line}
use Rattle.txn_script_lines.specs.declared.line.Line.TheVariants as lines
use Rattle.txn_script_lines.specs.declared.lines.Lines.{Lines}
use Rattle.txn_script_lines.specs.declared.lines.Taken.{Taken}
use Rattle.txn_script_lines.specs.declared.lines.Taken.TheVariants as taken
use Rattle.txn_script_lines.specs.declared.stop.Stop.{Stop}
use Rattle.txn_script_lines.specs.declared.stop.Stop.TheVariants as stops
use Rattle.txn_script_lines.specs.Lines.{lines_of, is_skipped, kept}
use Rattle.txn_script_lines.specs.Grammar.{Says}

-- the reader that the lines are read from
abbrev pub reader_of : {R : Type 0} → Lines R → R
reader_of lines = lines.reader

-- the number of the line last read, from 1; 0 before the first
abbrev pub number_of : {R : Type 0} → Lines R → ℕ
number_of lines = lines.number

-- a fact of the line's number, where a bad line stops the script
abbrev pub OnBadLine : Stop → (ℕ → Type 0) → Type 0
OnBadLine (stops.BadLine n) P = P n
OnBadLine stops.ReadFailed P = Unit {0}
OnBadLine stops.WriteFailed P = Unit {0}
OnBadLine stops.NoMemory P = Unit {0}

-- no line feed is among the bytes
abbrev pub LacksFeed : List ℕ → Type 0
LacksFeed [] = Unit {0}
LacksFeed (b ∷ bs) = ((b == 10) ≡ false) × LacksFeed bs

-- These bytes of a line end it, by a line feed or at the end of the input, or are followed by more of it.
abbrev pub Ends : List ℕ → List ℕ → Bool → Type 0
Ends bytes input true = ((front : List ℕ) × LacksFeed front × (bytes ≡ front ++ 10 ∷ [])) ⊎ ((bytes ≡ []) × (input ≡ []))
Ends bytes input false = LacksFeed bytes

-- A piece of a line went from the reader onto the text.
abbrev pub TakesPiece : Option (List ℕ) → Option (List ℕ) → List ℕ → List ℕ → Bool → Type 0
TakesPiece old new text longer ended =
    IfSome old (λ input. (bytes : List ℕ) × (rest : List ℕ) × (new ≡ Some rest) × (input ≡ bytes ++ rest) × (longer ≡ text ++ bytes) × Ends bytes input ended)

-- a line of so many bytes is longer than any that is kept
abbrev pub is_above : Option ℕ → ℕ → Bool
is_above None length = false
is_above (Some most) length = nat_lt most length

-- Where a line's text has so many bytes at most, so many are kept: no fewer, and all where there is no bound.
abbrev pub IsRoom : Option ℕ → Option ℕ → Type 0
IsRoom None room = room ≡ None
IsRoom (Some most) room = IfSome room (λ kept. most ≤ kept)

-- what was read of the next line, which is this text where it is whole
abbrev pub LineRead : Option ℕ → List ℕ → Option (List ℕ) → List ℕ → Taken → Type 0
LineRead most input new text taken.End = (input ≡ []) × (new ≡ Some [])
LineRead most input new text taken.Line = (0 < length text) × (text ≡ take_through 10 input) × (new ≡ Some (drop_through 10 input))
LineRead most input new text taken.Comment = (0 < length input) × (is_skipped (first_piece 10 input) ≡ true) × (new ≡ Some (drop_through 10 input))
LineRead most input new text taken.TooLong = (0 < length input) × (is_skipped (first_piece 10 input) ≡ false) × (is_above most (length (first_piece 10 input)) ≡ true)

abbrev pub ReadsLine : Option ℕ → Option (List ℕ) → Option (List ℕ) → List ℕ → Taken → Type 0
ReadsLine most old new text taken = IfSome old (λ input. LineRead most input new text taken)

-- From line n of the input lines were skipped, and line m is the first of those left.
pub record SkipsTo (input : List ℕ) (n m : ℕ) (left : List (List ℕ)) : Type 0 where
  pub skipped : List (List ℕ)
  pub lines : lines_of input ≡ skipped ++ left
  pub none_kept : kept skipped ≡ []
  pub number : m ≡ n + length skipped + 1

module _ {L : Type 0} (text : L → List ℕ) (fits : L → Type 0) where
  -- The bytes say this line, and no other.
  pub record SaysOnly (bytes : List ℕ) (line : L) : Type 0 where
    pub says : Says text fits bytes line
    pub only : (other : L) → Says text fits bytes other → other ≡ line

  -- the next kept line, and the bytes after it; or that none is left
  abbrev pub NextIs : List ℕ → ℕ → List ℕ → ℕ → Option L → Type 0
  NextIs input n after m None = SkipsTo input n m []
  NextIs input n after m (Some line) = (bytes : List ℕ) × SkipsTo input n m (bytes ∷ lines_of after) × (is_skipped bytes ≡ false) × SaysOnly bytes line

  abbrev pub ReadsNext : Option (List ℕ) → ℕ → Option (List ℕ) → ℕ → Option L → Type 0
  ReadsNext old n new m found = IfSome old (λ input. (after : List ℕ) × (new ≡ Some after) × NextIs input n after m found)

  -- the next kept line, of number m, says nothing
  abbrev pub MeetsBad : Option (List ℕ) → ℕ → ℕ → Type 0
  MeetsBad old n m = IfSome old (λ input. (bytes : List ℕ) × (rest : List (List ℕ)) × SkipsTo input n m (bytes ∷ rest) × (is_skipped bytes ≡ false) × ((line : L) → ¬ (Says text fits bytes line)))

-- how lines are read by parts

-- it is no begin
abbrev pub IsNoBegin : {C : Type 0} → Line C → Type 0
IsNoBegin (lines.Event (events.Begin client call)) = ⊥
IsNoBegin line = Unit {0}

-- the call has no value
abbrev pub HasNoValue : {T : Type 0} → Call T → Type 0
HasNoValue (any.Plain (calls.Write base value)) = ⊥
HasNoValue (any.Plain (calls.WriteUnchecked base value)) = ⊥
HasNoValue (any.View (view_calls.Init value)) = ⊥
HasNoValue (any.View (view_calls.Update view value)) = ⊥
HasNoValue (any.View (view_calls.HolderUpdate view value)) = ⊥
HasNoValue call = Unit {0}
