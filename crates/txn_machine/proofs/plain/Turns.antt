-- What a look or a serve leaves an operation with, and what the parts of operations tell.
use Rattle.std.proofs.Common.{◌≡◌, ℕ, ◌≤◌, List, Bool, true, false, Option, Some, None, Ok, Err, Result, ◌⊎◌, inr, refl, nat_eq}
use Rattle.std.specs.List.{list_any}
use Rattle.txn_store.specs.Store.{State as StoreState}
use Rattle.std.specs.declared.ops.Bound.{Bound}
use Rattle.txn_steps.specs.declared.boundary.caches.Cached.{Cached}
use Rattle.txn_steps.specs.declared.boundary.caches.Caches.{Caches}
use Rattle.txn_steps.specs.declared.boundary.caches.CachedBoundary.{CachedBoundary}
use Rattle.txn_steps.specs.declared.boundary.boundary_read.BoundaryRead.{BoundaryRead}
use Rattle.txn_steps.specs.declared.boundary.check.CheckOp.{CheckOp}
use Rattle.txn_steps.specs.declared.boundary.advance.BoundaryAdvance.{BoundaryAdvance}
use Rattle.txn_steps.specs.declared.boundary.turned.Turned.{Turned}
use Rattle.txn_steps.specs.declared.boundary.turned.Turned.TheVariants.{Goes, Done}
use Rattle.txn_steps.specs.boundary.Boundaries.{Known}
use Rattle.txn_steps.specs.declared.write.WriteUncheckedOp.{WriteUncheckedOp}
use Rattle.txn_steps.specs.declared.latest.LatestOp.{LatestOp}
use Rattle.txn_steps.specs.declared.listing.ListOp.{ListOp}
use Rattle.txn_steps.specs.Latest.{ReadAnswer}
use Rattle.txn_steps.specs.Listed.{Listed}
use Rattle.txn_history.specs.declared.event.PlainCall.{PlainCall}
use Rattle.txn_history.specs.declared.event.PlainAnswer.{PlainAnswer}
use Rattle.txn_history.specs.declared.event.PlainAnswer.TheVariants as answers
use Rattle.txn_history.specs.Trace.{PlainRow}
use Rattle.txn_history.specs.History.{boundary}
use Rattle.txn_history.specs.Calls.{plain_tells_id, AtRow}
use Rattle.txn_history.specs.Facts.{IsListing, WasNewest, NoTokens}
use Rattle.txn_machine.specs.plain.PlainHistory.{AnswerFits}
use Rattle.txn_machine.specs.declared.plain.doing.PlainDoing.{PlainDoing}
use Rattle.txn_machine.specs.declared.plain.doing.PlainDoing.TheVariants.{Ended}
use Rattle.txn_machine.specs.plain.Doing.{Next, InRange, ids_of, or_no_memory}
use Rattle.txn_machine.proofs.plain.Stands.{WasEmpty, Open, LatestStands, CollectingStands, UncheckedStands, CreatedStands, Fit, CachedAt, ReadingStands, CheckStands, RaiseStands, CachesStand, IsKnown, TellsKnown, Runs, DoingStands, TurnStands}

-- a client's cached boundary only rises
abbrev pub RisesTo : Option CachedBoundary → Option CachedBoundary → Type 0
RisesTo cached after = (n : ℕ) → CachedAt cached n → CachedAt after n

pub stays : (cached : Option CachedBoundary) → RisesTo cached cached
stays cached n h = h

module _ {T : Type 0} where
  -- a boundary that a read of it tells: it was at least this, and the id is still open
  pub record KnownStands (rows : List (PlainRow T)) (store : StoreState) (id : ℕ) (Q : Type 0) (known : Known) : Type 0 where
    pub below : known.0 ≤ boundary rows
    pub open' : (id ≤ known.0) ⊎ Q
    pub fit : (token : ℕ) → known.1 ≡ Some token → Fit rows store known.0 token

  -- what a read of the boundary tells
  abbrev pub ReadingTells : List (PlainRow T) → StoreState → Option CachedBoundary → ℕ → Type 0 → BoundaryRead × Turned (Result Known ℕ) → Type 0
  ReadingTells rows store cached id Q (read, Goes) = ReadingStands rows store cached id Q read
  ReadingTells rows store cached id Q (read, Done (Ok known)) = KnownStands rows store id Q known
  ReadingTells rows store cached id Q (read, Done (Err number)) = number ≡ 9

  -- what a check tells of an id: it is accepted, so what its caller wants holds, or the boundary has reached it
  abbrev pub Decides : List (PlainRow T) → ℕ → Type 0 → Result (Unit {0}) ℕ → Type 0
  Decides rows id Q (Ok accepted) = Q
  Decides rows id Q (Err number) = ((number ≡ 5) × (id ≤ boundary rows)) ⊎ (number ≡ 9)

  abbrev pub CheckTells : List (PlainRow T) → StoreState → Option CachedBoundary → ℕ → Type 0 → CheckOp × Turned (Result (Unit {0}) ℕ) → Type 0
  CheckTells rows store cached id Q (check, Goes) = CheckStands rows store cached id Q check
  CheckTells rows store cached id Q (check, Done answer) = Decides rows id Q answer

  -- what a raise of the boundary tells: the boundary has reached the target, or no token is left
  abbrev pub RaiseEnds : List (PlainRow T) → ℕ → Result (Unit {0}) ℕ → Type 0
  RaiseEnds rows target (Ok done) = target ≤ boundary rows
  RaiseEnds rows target (Err number) = ((number ≡ 2) × NoTokens rows) ⊎ (number ≡ 9)

  abbrev pub RaiseTells : List (PlainRow T) → StoreState → Option CachedBoundary → ℕ → BoundaryAdvance × Turned (Result (Unit {0}) ℕ) → Type 0
  RaiseTells rows store cached target (raise, Goes) = RaiseStands rows store cached target raise
  RaiseTells rows store cached target (raise, Done answer) = RaiseEnds rows target answer

  -- an answer that tells no id
  pub no_id : (rows : List (PlainRow T)) (answer : PlainAnswer T) → ((test : ℕ → Bool) → plain_tells_id test answer ≡ false) → TellsKnown rows answer
  no_id rows answer none test e = absurd (let clash = none test in cc)

  -- an answer that tells one id
  pub one_id : (rows : List (PlainRow T)) (answer : PlainAnswer T) (n : ℕ) → IsKnown rows n → ((test : ℕ → Bool) → plain_tells_id test answer ≡ test n) → TellsKnown rows answer
  one_id rows answer n known same test e = (n, (let is = same test in cc), known)

module _ {T : Type 0} (decode : List ℕ → Option T) where
  -- what a read of the newest version, without its check, tells: there was none, or this was it unless the boundary has reached it
  abbrev pub LatestEnds : List (PlainRow T) → ℕ → ReadAnswer T → Type 0
  LatestEnds rows op (Ok None) = WasEmpty rows op
  LatestEnds rows op (Ok (Some found)) = IsKnown rows found.0 × Open rows found.0 (WasNewest decode rows op found.0 found.1)
  LatestEnds rows op (Err number) = number ≡ 9

  abbrev pub LatestTells : List (PlainRow T) → ℕ → LatestOp T × Turned (ReadAnswer T) → Type 0
  LatestTells rows op (latest, Goes) = LatestStands decode rows op latest
  LatestTells rows op (latest, Done answer) = LatestEnds rows op answer

  -- what a listing tells
  abbrev pub ListEnds : List (PlainRow T) → ℕ → Bound ℕ → Bound ℕ → Result (List Listed) ℕ → Type 0
  ListEnds rows op from to (Ok found) = AtRow rows op (λ front. IsListing front from to (ids_of found)) × ((n : ℕ) → list_any (nat_eq n) (ids_of found) ≡ true → IsKnown rows n)
  ListEnds rows op from to (Err number) = number ≡ 9

  abbrev pub ListTells : List (PlainRow T) → ℕ → ListOp × Turned (Result (List Listed) ℕ) → Type 0
  ListTells rows op (list, Goes) = CollectingStands rows list.from list.to (ids_of list.found) list.request
  ListTells rows op (list, Done answer) = ListEnds rows op list.from list.to answer

  -- a look of a part that leaves these caches
  pub record PartLooks (rows : List (PlainRow T)) (store : StoreState) (caches after : Caches) (tells : Type 0) : Type 0 where
    pub fits : CachesStand decode rows store after
    pub more : RisesTo caches.boundary after.boundary
    pub told : tells

module _ {T : Type 0} (decode : List ℕ → Option T) (get_epoch : T → ℕ) where
  -- a look that leaves these caches and this turn
  pub record LooksTo (failed : List ℕ) (rows : List (PlainRow T)) (store : StoreState) (caches after : Caches) (op : ℕ) (call : PlainCall T) (next : Next T) : Type 0 where
    pub fits : CachesStand decode rows store after
    pub more : RisesTo caches.boundary after.boundary
    pub turn : TurnStands decode get_epoch failed rows store after.boundary op call next

  -- what a write without its check tells: its version is created and cached, or it is refused
  abbrev pub UncheckedEnds : List ℕ → List (PlainRow T) → ℕ → PlainCall T → ℕ → Result ℕ ℕ → Type 0
  UncheckedEnds failed rows op call id (Ok n) = (n ≡ id) × (version : Cached) × CreatedStands decode get_epoch rows op call id version
  UncheckedEnds failed rows op call id (Err number) = AnswerFits decode get_epoch failed rows op call (answers.Refused number)

  abbrev pub UncheckedTells : List ℕ → List (PlainRow T) → ℕ → PlainCall T → ℕ → WriteUncheckedOp × Turned (Result ℕ ℕ) → Type 0
  UncheckedTells failed rows op call id (write, Goes) = UncheckedStands decode get_epoch rows op call id write
  UncheckedTells failed rows op call id (write, Done answer) = UncheckedEnds failed rows op call id answer

  -- an answer ends an operation
  abbrev pub ends_with : PlainAnswer T → Next T
  ends_with answer = (Ended, Some answer)

  pub ended : (failed : List ℕ) (rows : List (PlainRow T)) (store : StoreState) (cached : Option CachedBoundary) (op : ℕ) (call : PlainCall T) (answer : PlainAnswer T) → Runs decode get_epoch rows op call → AnswerFits decode get_epoch failed rows op call answer → TellsKnown rows answer →
      TurnStands decode get_epoch failed rows store cached op call (ends_with answer)
  ended failed rows store cached op call answer r fits tells = record { is_end = refl; runs = r; fits = fits; tells = tells }

  pub goes_on : (failed : List ℕ) (rows : List (PlainRow T)) (store : StoreState) (cached : Option CachedBoundary) (op : ℕ) (call : PlainCall T) (doing : PlainDoing T) → Runs decode get_epoch rows op call → InRange doing → DoingStands decode get_epoch rows store cached op call doing →
      TurnStands decode get_epoch failed rows store cached op call (doing, None)
  goes_on failed rows store cached op call doing r range stands = record { runs = r; range = range; stands = stands }

  -- a refusal that fits every call
  pub fails_with : (failed : List ℕ) (rows : List (PlainRow T)) (store : StoreState) (cached : Option CachedBoundary) (op : ℕ) (call : PlainCall T) (number : ℕ) → Runs decode get_epoch rows op call → ((number ≡ 2) × (list_any (nat_eq op) failed ≡ true)) ⊎ (number ≡ 9) →
      TurnStands decode get_epoch failed rows store cached op call (ends_with (answers.Refused number))
  fails_with failed rows store cached op call number r fails = ended failed rows store cached op call (answers.Refused number) r (inr fails) (no_id rows (answers.Refused number) (λ test. refl))

  -- a growth was refused
  pub lacking : (failed : List ℕ) (rows : List (PlainRow T)) (store : StoreState) (cached : Option CachedBoundary) (op : ℕ) (call : PlainCall T) → Runs decode get_epoch rows op call → TurnStands decode get_epoch failed rows store cached op call (ends_with (answers.Refused 9))
  lacking failed rows store cached op call r = fails_with failed rows store cached op call 9 r (inr refl)

  pub may_lack : (refused : Bool) (failed : List ℕ) (rows : List (PlainRow T)) (store : StoreState) (cached : Option CachedBoundary) (op : ℕ) (call : PlainCall T) (next : Next T) → Runs decode get_epoch rows op call → TurnStands decode get_epoch failed rows store cached op call next →
      TurnStands decode get_epoch failed rows store cached op call (or_no_memory refused next)
  may_lack true failed rows store cached op call next r turn = lacking failed rows store cached op call r
  may_lack false failed rows store cached op call next r turn = turn
