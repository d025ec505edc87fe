-- How long the text of a line is.
use Rattle.std.proofs.Common.{◌≡◌, ℕ, suc, ◌+◌, ◌<◌, ◌≤◌, ◌^◌, List, ◌∷◌, ◌++◌, length, Option, Some, None, IfSome, decimal, subst, sym, arith, lit<, lit≤, length-append}
use Rattle.std.specs.Prelude.{codes}
use Rattle.std.specs.Option.{SomeIff}
use Rattle.std.proofs.lemmas.Fmt.{length-decimal-le}
use Rattle.std.specs.declared.ops.Bound.{Bound}
use Rattle.std.specs.declared.ops.Bound.TheVariants as bounds
use Rattle.txn_history.specs.declared.event.PlainCall.{PlainCall}
use Rattle.txn_history.specs.declared.event.PlainCall.TheVariants as calls
use Rattle.txn_history.specs.declared.event.EventOf.{EventOf}
use Rattle.txn_history.specs.declared.event.EventOf.TheVariants as events
use Rattle.txn_history.specs.declared.event.Failure.{Failure}
use Rattle.txn_history.specs.declared.event.Failure.TheVariants as failures
use Rattle.txn_history.specs.declared.event.ViewCall.{ViewCall}
use Rattle.txn_history.specs.declared.event.ViewCall.TheVariants as view_calls
use Rattle.txn_history.specs.declared.event.Call.{Call}
use Rattle.txn_history.specs.declared.event.Call.TheVariants as any
use Rattle.txn_script_lines.specs.declared.record.Record.{Record}
use Rattle.txn_script_lines.specs.Record.{record_text, IsNumbers}
use Rattle.txn_script_lines.specs.declared.line.Line.{Line}
use Rattle.txn_script_lines.specs.declared.line.Line.TheVariants as lines
use Rattle.txn_script_lines.specs.Numerals.{pair_text, PairFits}
use Rattle.txn_script_lines.specs.Grammar.{base_text, write_text, bound_text, list_text, plain_text, update_text, view_call_text, call_text, begin_text, failure_text, fail_text, event_text, line_text, BaseFits, WriteFits, BoundFits, ListFits, PlainFits, UpdateFits, ViewCallFits, CallFits, EventFits, LineFits}

-- a fact of the number that is there
pub some_of : (o : Option ℕ) (n : ℕ) (P : Type 0) → SomeIff o P n → (F : ℕ → Type 0) → F n → IfSome o F
some_of None n P iff F f = tt
some_of (Some x) n P iff F f = subst F (sym iff.1) f

-- a number has at most twenty digits
digits : (n : ℕ) → n < 2 ^ 64 → length (decimal n) ≤ 20
digits n fits = length-decimal-le 20 n (lit< tt) (omega (arith, fits)) fits

length-with : (xs ys : List ℕ) (c : ℕ) → length (xs ++ (c ∷ ys)) ≡ length xs + suc (length ys)
length-with xs ys c = length-append xs (c ∷ ys)

pub record_short : (value : Record) → IsNumbers value → length (record_text value) ≤ 41
record_short value fits = omega (arith, length-with (decimal value.epoch) (decimal value.payload) 58, digits value.epoch fits.epoch, digits value.payload fits.payload)

base_short : (base : Option ℕ) → BaseFits base → length (base_text base) ≤ 20
base_short None fits = lit≤ tt
base_short (Some id) fits = digits id fits

bound_short : (bound : Bound ℕ) → BoundFits bound → length (bound_text bound) ≤ 21
bound_short (bounds.Included id) fits = omega (arith, digits id fits)
bound_short (bounds.Excluded id) fits = omega (arith, digits id fits)
bound_short bounds.Unbounded fits = lit≤ tt

list_short : (from to : Bound ℕ) → ListFits from to → length (list_text from to) ≤ 43
list_short from to fits = omega (arith, length-with (bound_text from) (bound_text to) 32, bound_short from fits.0, bound_short to fits.1)

pair_short : (view epoch : ℕ) → PairFits view epoch → length (pair_text view epoch) ≤ 41
pair_short view epoch fits = omega (arith, length-with (decimal view) (decimal epoch) 32, digits view fits.0, digits epoch fits.1)

failure_short : (failure : Failure) → length (failure_text failure) ≤ 6
failure_short failures.Before = lit≤ tt
failure_short failures.After = lit≤ tt
failure_short failures.Loose = lit≤ tt

-- a word and a number
numbered_short : (word : List ℕ) (n : ℕ) → n < 2 ^ 64 → length (word ++ (32 ∷ decimal n)) ≤ length word + 21
numbered_short word n fits = omega (arith, length-with word (decimal n) 32, digits n fits)

module _ {T : Type 0} (text : T → List ℕ) (fits : T → Type 0) (most : ℕ) (short : (v : T) → fits v → length (text v) ≤ most) where
  write_short : (base : Option ℕ) (value : T) → WriteFits fits base value → length (write_text text base value) ≤ most + 21
  write_short base value ok = omega (arith, length-with (base_text base) (text value) 32, base_short base ok.0, short value ok.1)

  plain_short : (call : PlainCall T) → PlainFits fits call → length (plain_text text call) ≤ most + 50
  plain_short (calls.Write base value) ok = omega (arith, length-with (codes "write") (write_text text base value) 32, write_short base value ok)
  plain_short (calls.WriteUnchecked base value) ok = omega (arith, length-with (codes "write_unchecked") (write_text text base value) 32, write_short base value ok)
  plain_short calls.Read ok = omega arith
  plain_short (calls.ReadUnchecked id) ok = omega (arith, numbered_short (codes "read_unchecked") id ok)
  plain_short (calls.ReadSeen id) ok = omega (arith, numbered_short (codes "read_seen") id ok)
  plain_short (calls.ListIds from to) ok = omega (arith, length-with (codes "list") (list_text from to) 32, list_short from to ok)
  plain_short (calls.Delete id) ok = omega (arith, numbered_short (codes "delete") id ok)
  plain_short (calls.Check id) ok = omega (arith, numbered_short (codes "check") id ok)
  plain_short (calls.Advance to) ok = omega (arith, numbered_short (codes "advance") to ok)

  update_short : (view : ℕ) (value : T) → UpdateFits fits view value → length (update_text text view value) ≤ most + 21
  update_short view value ok = omega (arith, length-with (decimal view) (text value) 32, digits view ok.0, short value ok.1)

  view_call_short : (call : ViewCall T) → ViewCallFits fits call → length (view_call_text text call) ≤ most + 50
  view_call_short (view_calls.Init value) ok = omega (arith, length-with (codes "init") (text value) 32, short value ok)
  view_call_short view_calls.Load ok = omega arith
  view_call_short (view_calls.Refresh view) ok = omega (arith, numbered_short (codes "refresh") view ok)
  view_call_short (view_calls.Update view value) ok = omega (arith, length-with (codes "update") (update_text text view value) 32, update_short view value ok)
  view_call_short (view_calls.Claim view) ok = omega (arith, numbered_short (codes "claim") view ok)
  view_call_short (view_calls.ClaimAt view epoch) ok = omega (arith, length-with (codes "claim_at") (pair_text view epoch) 32, pair_short view epoch ok)
  view_call_short (view_calls.HolderRefresh view) ok = omega (arith, numbered_short (codes "holder_refresh") view ok)
  view_call_short (view_calls.HolderUpdate view value) ok = omega (arith, length-with (codes "holder_update") (update_text text view value) 32, update_short view value ok)

  pub call_short : (call : Call T) → CallFits fits call → length (call_text text call) ≤ most + 50
  call_short (any.Plain call) ok = plain_short call ok
  call_short (any.View call) ok = view_call_short call ok

module _ {C : Type 0} (text : C → List ℕ) (fits : C → Type 0) (most : ℕ) (short : (v : C) → fits v → length (text v) ≤ most) where
  event_short : (event : EventOf C) → EventFits fits event → length (event_text text event) ≤ most + 32
  event_short (events.Begin client call) ok = omega (arith, length-with (codes "begin") (begin_text text client call) 32, length-with (decimal client) (text call) 32, digits client ok.0, short call ok.1)
  event_short (events.Look op) ok = omega (arith, numbered_short (codes "look") op ok)
  event_short (events.Serve op) ok = omega (arith, numbered_short (codes "serve") op ok)
  event_short (events.Fail op failure) ok = omega (arith, length-with (codes "fail") (fail_text op failure) 32, length-with (decimal op) (failure_text failure) 32, digits op ok, failure_short failure)
  event_short (events.GiveUp op) ok = omega (arith, numbered_short (codes "giveup") op ok)
  event_short (events.Land loose) ok = omega (arith, numbered_short (codes "land") loose ok)
  event_short (events.Crash client) ok = omega (arith, numbered_short (codes "crash") client ok)

  pub line_short : (line : Line C) → LineFits fits line → length (line_text text line) ≤ most + 32
  line_short (lines.Clients count) ok = omega (arith, numbered_short (codes "clients") count ok)
  line_short (lines.Page size) ok = omega (arith, numbered_short (codes "page") size ok)
  line_short (lines.Event event) ok = event_short event ok
  line_short (lines.Run op) ok = omega (arith, numbered_short (codes "run") op ok)
