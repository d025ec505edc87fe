-- Two calls raise the boundary from one token.
use Rattle.std.proofs.Common.{◌≡◌, ℕ, zero, suc, List, Option, Some, Ok, refl, ap, sym, subst, ◌∙◌, unwrap_or}
use Rattle.txn_store.specs.declared.request.Reply.TheVariants as replies
use Rattle.txn_store.specs.types.BoundaryText.{boundary_read}
use Rattle.txn_folder.specs.steps.Steps.{Phase, Updating, Updates, compared, said_fault}
use Rattle.txn_folder_model.specs.Worlds.{World, Event, opening, world, after, with_call, worked}
use Rattle.txn_folder_model.specs.Examples.{raise_run, RaiseEnds}

plus : ℕ → ℕ → ℕ
plus zero s = s
plus (suc k) s = suc (plus k s)

module _ (events : ℕ → Event) where
  -- so many moments on
  later : ℕ → ℕ → World → World
  unfolding plus
  later s zero x = x
  later s (suc k) x = after 10 (plus k s) (events (plus k s)) (later s k x)

  later_is : (s k : ℕ) → world 10 events (plus k s) ≡ later s k (world 10 events s)
  unfolding plus later
  later_is s zero = refl
  later_is s (suc k) = ap (after 10 (plus k s) (events (plus k s))) (later_is s k)

module _ (one two three : List ℕ) (first : boundary_read one ≡ Some 1) (second : boundary_read two ≡ Some 2) where
  abbrev events : ℕ → Event
  events = raise_run one two three

  abbrev w : ℕ → World
  w = world 10 events

  -- where a call is another
  abbrev turned_to : World → ℕ → List ℕ → Phase Updating → World
  turned_to x call bytes phase = record { count = x.count; calls = with_call x.calls call (worked (x.calls call) (Updates bytes 1 phase)); folder = x.folder; owners = x.owners }

  -- the first has compared
  before : World
  before = later events 0 16 opening

  compared_first : Option ℕ → World
  compared_first o = turned_to before 1 two (compared (said_fault 1 o))

  is_compared : after 10 16 (events 16) before ≡ compared_first (Some 1)
  unfolding before compared_first later plus
  is_compared = ap compared_first first

  -- the other has compared
  then : World
  then = later events 17 13 (compared_first (Some 1))

  compared_then : Option ℕ → World
  compared_then o = turned_to then 2 three (compared (said_fault 1 o))

  is_then : after 10 30 (events 30) then ≡ compared_then (Some 2)
  unfolding then compared_then before compared_first later plus
  is_then = ap compared_then second

  to_17 : w 17 ≡ compared_first (Some 1)
  unfolding before later plus
  to_17 = later_is events 16 1 ∙ ap (after 10 16 (events 16)) (later_is events 0 16) ∙ is_compared

  to_30 : w 30 ≡ then
  unfolding then plus
  to_30 = later_is events 17 13 ∙ ap (later events 17 13) to_17

  to_31 : w 31 ≡ compared_then (Some 2)
  unfolding later plus
  to_31 = later_is events 30 1 ∙ ap (after 10 30 (events 30)) to_30 ∙ is_then

  to_33 : w 33 ≡ later events 31 2 (compared_then (Some 2))
  unfolding plus
  to_33 = later_is events 31 2 ∙ ap (later events 31 2) to_31

  ends : RaiseEnds two (later events 31 2 (compared_then (Some 2)))
  unfolding then compared_then before compared_first later plus
  ends = record { wins = ap (λ (o : Option ℕ). Some (replies.Put (Ok (unwrap_or o 0)))) second; loses = refl; stands = refl; says = refl }

  pub raise_ends : RaiseEnds two (w 33)
  raise_ends = subst (RaiseEnds two) (sym to_33) ends
