-- What says a value is text: words and numbers in ASCII, and what says the values among them.
use Rattle.std.proofs.Common.{◌≡◌, ℕ, zero, suc, ◌<◌, ◌^◌, List, [], ◌∷◌, ◌++◌, true, Option, Some, None, decimal, refl, lit<, nat_lt}
use Rattle.std.specs.Prelude.{codes}
use Rattle.std.specs.List.{list_all}
use Rattle.std.specs.Str.{IsUtf8, IsAscii}
use Rattle.std.proofs.lemmas.Bool.{ltb-true, and_parts}
use Rattle.std.proofs.lemmas.Fmt.{IsAscii-decimal}
use Rattle.std.proofs.lemmas.Str.{IsUtf8-append, IsUtf8-from_ascii}
use Rattle.std.specs.declared.ops.Bound.{Bound}
use Rattle.std.specs.declared.ops.Bound.TheVariants as bounds
use Rattle.txn_history.specs.declared.event.PlainCall.{PlainCall}
use Rattle.txn_history.specs.declared.event.PlainCall.TheVariants as calls
use Rattle.txn_history.specs.declared.event.EventOf.{EventOf}
use Rattle.txn_history.specs.declared.event.EventOf.TheVariants as events
use Rattle.txn_history.specs.declared.event.Failure.{Failure}
use Rattle.txn_history.specs.declared.event.Failure.TheVariants as failures
use Rattle.txn_history.specs.declared.event.ViewCall.{ViewCall}
use Rattle.txn_history.specs.declared.event.ViewCall.TheVariants as view_calls
use Rattle.txn_history.specs.declared.event.Call.{Call}
use Rattle.txn_history.specs.declared.event.Call.TheVariants as any
use Rattle.txn_script_lines.specs.declared.line.Line.{Line}
use Rattle.txn_script_lines.specs.declared.line.Line.TheVariants as lines
use Rattle.txn_script_lines.specs.Numerals.{pair_text, PairFits}
use Rattle.txn_script_lines.specs.Grammar.{base_text, write_text, bound_text, list_text, plain_text, update_text, view_call_text, call_text, begin_text, failure_text, fail_text, event_text, line_text, BaseFits, WriteFits, BoundFits, ListFits, PlainFits, UpdateFits, ViewCallFits, CallFits, EventFits, LineFits}

-- words that are written out
ascii_of : (xs : List ℕ) → list_all (λ b. nat_lt b 128) xs ≡ true → IsAscii xs
ascii_of [] e i = lit< tt
ascii_of (x ∷ xs) e zero = ltb-true x 128 (and_parts (nat_lt x 128) (list_all (λ b. nat_lt b 128) xs) e).0
ascii_of (x ∷ xs) e (suc i) = ascii_of xs (and_parts (nat_lt x 128) (list_all (λ b. nat_lt b 128) xs) e).1 i

pub word_utf8 : (xs : List ℕ) → list_all (λ b. nat_lt b 128) xs ≡ true → IsUtf8 xs
word_utf8 xs e = IsUtf8-from_ascii xs (ascii_of xs e)

pub number_utf8 : (n : ℕ) → n < 2 ^ 64 → IsUtf8 (decimal n)
number_utf8 n fits = IsUtf8-from_ascii (decimal n) (IsAscii-decimal n fits)

-- two texts with an ASCII byte between them
pub between_utf8 : (xs ys : List ℕ) (c : ℕ) → nat_lt c 128 ≡ true → IsUtf8 xs → IsUtf8 ys → IsUtf8 (xs ++ (c ∷ ys))
between_utf8 xs ys c small one two = IsUtf8-append xs (c ∷ ys) one (IsUtf8-append (c ∷ []) ys (IsUtf8-from_ascii (c ∷ []) alone) two)
  where
    alone : IsAscii (c ∷ [])
    alone zero = ltb-true c 128 small
    alone (suc i) = lit< tt

-- a word and what follows it
pub after_word : (word : List ℕ) (ys : List ℕ) → list_all (λ b. nat_lt b 128) word ≡ true → IsUtf8 ys → IsUtf8 (word ++ (32 ∷ ys))
after_word word ys e two = between_utf8 word ys 32 refl (word_utf8 word e) two

pub numbered_utf8 : (word : List ℕ) (n : ℕ) → list_all (λ b. nat_lt b 128) word ≡ true → n < 2 ^ 64 → IsUtf8 (word ++ (32 ∷ decimal n))
numbered_utf8 word n e fits = after_word word (decimal n) e (number_utf8 n fits)

base_utf8 : (base : Option ℕ) → BaseFits base → IsUtf8 (base_text base)
base_utf8 None fits = word_utf8 (codes "-") refl
base_utf8 (Some id) fits = number_utf8 id fits

-- a byte before a number
sign_utf8 : (c id : ℕ) → nat_lt c 128 ≡ true → id < 2 ^ 64 → IsUtf8 (c ∷ decimal id)
sign_utf8 c id small fits = between_utf8 [] (decimal id) c small (word_utf8 [] refl) (number_utf8 id fits)

bound_utf8 : (bound : Bound ℕ) → BoundFits bound → IsUtf8 (bound_text bound)
bound_utf8 (bounds.Included id) fits = sign_utf8 61 id refl fits
bound_utf8 (bounds.Excluded id) fits = sign_utf8 33 id refl fits
bound_utf8 bounds.Unbounded fits = word_utf8 (codes "-") refl

list_utf8 : (from to : Bound ℕ) → ListFits from to → IsUtf8 (list_text from to)
list_utf8 from to fits = between_utf8 (bound_text from) (bound_text to) 32 refl (bound_utf8 from fits.0) (bound_utf8 to fits.1)

pub pair_utf8 : (view epoch : ℕ) → PairFits view epoch → IsUtf8 (pair_text view epoch)
pair_utf8 view epoch fits = between_utf8 (decimal view) (decimal epoch) 32 refl (number_utf8 view fits.0) (number_utf8 epoch fits.1)

failure_utf8 : (failure : Failure) → IsUtf8 (failure_text failure)
failure_utf8 failures.Before = word_utf8 (codes "before") refl
failure_utf8 failures.After = word_utf8 (codes "after") refl
failure_utf8 failures.Loose = word_utf8 (codes "loose") refl

fail_utf8 : (op : ℕ) (failure : Failure) → op < 2 ^ 64 → IsUtf8 (fail_text op failure)
fail_utf8 op failure fits = between_utf8 (decimal op) (failure_text failure) 32 refl (number_utf8 op fits) (failure_utf8 failure)

module _ {T : Type 0} (text : T → List ℕ) (fits : T → Type 0) (is_utf8 : (v : T) → fits v → IsUtf8 (text v)) where
  write_utf8 : (base : Option ℕ) (value : T) → WriteFits fits base value → IsUtf8 (write_text text base value)
  write_utf8 base value ok = between_utf8 (base_text base) (text value) 32 refl (base_utf8 base ok.0) (is_utf8 value ok.1)

  plain_utf8 : (call : PlainCall T) → PlainFits fits call → IsUtf8 (plain_text text call)
  plain_utf8 (calls.Write base value) ok = after_word (codes "write") (write_text text base value) refl (write_utf8 base value ok)
  plain_utf8 (calls.WriteUnchecked base value) ok = after_word (codes "write_unchecked") (write_text text base value) refl (write_utf8 base value ok)
  plain_utf8 calls.Read ok = word_utf8 (codes "read") refl
  plain_utf8 (calls.ReadUnchecked id) ok = numbered_utf8 (codes "read_unchecked") id refl ok
  plain_utf8 (calls.ReadSeen id) ok = numbered_utf8 (codes "read_seen") id refl ok
  plain_utf8 (calls.ListIds from to) ok = after_word (codes "list") (list_text from to) refl (list_utf8 from to ok)
  plain_utf8 (calls.Delete id) ok = numbered_utf8 (codes "delete") id refl ok
  plain_utf8 (calls.Check id) ok = numbered_utf8 (codes "check") id refl ok
  plain_utf8 (calls.Advance to) ok = numbered_utf8 (codes "advance") to refl ok

  update_utf8 : (view : ℕ) (value : T) → UpdateFits fits view value → IsUtf8 (update_text text view value)
  update_utf8 view value ok = between_utf8 (decimal view) (text value) 32 refl (number_utf8 view ok.0) (is_utf8 value ok.1)

  view_call_utf8 : (call : ViewCall T) → ViewCallFits fits call → IsUtf8 (view_call_text text call)
  view_call_utf8 (view_calls.Init value) ok = after_word (codes "init") (text value) refl (is_utf8 value ok)
  view_call_utf8 view_calls.Load ok = word_utf8 (codes "load") refl
  view_call_utf8 (view_calls.Refresh view) ok = numbered_utf8 (codes "refresh") view refl ok
  view_call_utf8 (view_calls.Update view value) ok = after_word (codes "update") (update_text text view value) refl (update_utf8 view value ok)
  view_call_utf8 (view_calls.Claim view) ok = numbered_utf8 (codes "claim") view refl ok
  view_call_utf8 (view_calls.ClaimAt view epoch) ok = after_word (codes "claim_at") (pair_text view epoch) refl (pair_utf8 view epoch ok)
  view_call_utf8 (view_calls.HolderRefresh view) ok = numbered_utf8 (codes "holder_refresh") view refl ok
  view_call_utf8 (view_calls.HolderUpdate view value) ok = after_word (codes "holder_update") (update_text text view value) refl (update_utf8 view value ok)

  pub call_utf8 : (call : Call T) → CallFits fits call → IsUtf8 (call_text text call)
  call_utf8 (any.Plain call) ok = plain_utf8 call ok
  call_utf8 (any.View call) ok = view_call_utf8 call ok

module _ {C : Type 0} (text : C → List ℕ) (fits : C → Type 0) (is_utf8 : (v : C) → fits v → IsUtf8 (text v)) where
  event_utf8 : (event : EventOf C) → EventFits fits event → IsUtf8 (event_text text event)
  event_utf8 (events.Begin client call) ok = after_word (codes "begin") (begin_text text client call) refl (between_utf8 (decimal client) (text call) 32 refl (number_utf8 client ok.0) (is_utf8 call ok.1))
  event_utf8 (events.Look op) ok = numbered_utf8 (codes "look") op refl ok
  event_utf8 (events.Serve op) ok = numbered_utf8 (codes "serve") op refl ok
  event_utf8 (events.Fail op failure) ok = after_word (codes "fail") (fail_text op failure) refl (fail_utf8 op failure ok)
  event_utf8 (events.GiveUp op) ok = numbered_utf8 (codes "giveup") op refl ok
  event_utf8 (events.Land loose) ok = numbered_utf8 (codes "land") loose refl ok
  event_utf8 (events.Crash client) ok = numbered_utf8 (codes "crash") client refl ok

  pub line_utf8 : (line : Line C) → LineFits fits line → IsUtf8 (line_text text line)
  line_utf8 (lines.Clients count) ok = numbered_utf8 (codes "clients") count refl ok
  line_utf8 (lines.Page size) ok = numbered_utf8 (codes "page") size refl ok
  line_utf8 (lines.Event event) ok = event_utf8 event ok
  line_utf8 (lines.Run op) ok = numbered_utf8 (codes "run") op refl ok
