-- How many calls the first moments are.
use Rattle.std.proofs.Common.{◌≡◌, ℕ, ◌+◌, ◌-◌, ◌<◌, ◌≤◌, List, ◌∷◌, ◌++◌, length, take, drop, get_or, true, false, Bool, if◌then◌else◌, ◌∙◌, ap, sym, arith}
use Rattle.std.proofs.Math.Seq.{take-length}
use Rattle.std.proofs.lemmas.List.{take_more, take_rest}
use Rattle.std.proofs.lemmas.List.Sums.{sum_by_push, sum_by-take-drop}
use Rattle.txn_drawing_moments.specs.declared.moment.Moment.{Moment}
use Rattle.txn_drawing_moments.specs.Parts.{is_call, call_count, calls_in}

pub one_at_most : (b : Bool) → (if b then 1 else 0) ≤ 1
one_at_most true = omega arith
one_at_most false = omega arith

-- one more moment is one call more, if it is a call
pub calls_next : (moments : List Moment) (i : ℕ) (d : Moment) → i < length moments → calls_in (take (i + 1) moments) ≡ calls_in (take i moments) + call_count (get_or moments i d)
calls_next moments i d lt = ap calls_in (take_more moments i d lt) ∙ sum_by_push call_count (take i moments) (get_or moments i d)

-- the calls up to a place and those behind it
pub calls_split : (moments : List Moment) (i : ℕ) → calls_in (take i moments) + calls_in (drop i moments) ≡ calls_in moments
calls_split moments i = sum_by-take-drop call_count moments i

-- the calls up to the end are all
pub whole_end : (moments : List Moment) → calls_in (take (length moments) moments) ≡ calls_in moments
whole_end moments = ap calls_in (take-length moments)

-- no call is left behind a place, and those before it are one less than this number: there are not so many
pub too_few : (moments : List Moment) (i from : ℕ) → 0 < from → calls_in (take i moments) ≡ from - 1 → calls_in (take (length moments - i) (drop i moments)) ≡ 0 → calls_in moments < from
too_few moments i from some before none =
    let left : calls_in (drop i moments) ≡ 0 = sym (ap calls_in (take_rest moments i)) ∙ none in
    let all = calls_split moments i in
    omega (arith, some, before, left, all)

-- no call is left behind a place, so that those before it are all
pub whole_within : (moments : List Moment) (place calls left : ℕ) → calls_in (take place moments) ≡ calls → calls_in (take (length moments - place) (drop place moments)) ≡ left → left ≤ 0 → calls_in (take (length moments) moments) ≤ calls
whole_within moments place calls left before is none =
    let rest : calls_in (drop place moments) ≡ left = sym (ap calls_in (take_rest moments place)) ∙ is in
    let all = calls_split moments place in
    let whole = whole_end moments in
    omega (arith, before, rest, none, all, whole)
