-- Calls that run their machines, one step on.
use Rattle.std.proofs.Common.{◌≡◌, ℕ, ◌<◌, ◌≤◌, ◌==◌, if◌then◌else◌, Bool, true, false, List, Option, Some, None, Result, IfSome, unwrap_or, refl, ap, sym, subst, ◌∙◌, arith, ◌⊎◌, inl, inr}
use Rattle.txn_folder_files.specs.declared.asked.Ask.{Ask}
use Rattle.txn_folder_files.specs.declared.asked.Ask.TheVariants as asks
use Rattle.txn_folder_files.specs.declared.asked.Told.{Told}
use Rattle.txn_folder_files.specs.declared.asked.Told.TheVariants as told
use Rattle.txn_folder.specs.steps.Tokens.{place_token}
use Rattle.txn_folder.specs.steps.Running.{place_as, told_as, IsNumberOf, create_verdict, update_verdict, getting_as, get_next_as, get_asks, GotIn, GotNext}
use Rattle.txn_folder.specs.steps.Runs.{ComesTo}
use Rattle.txn_folder.specs.steps.Steps.{Is, get_turned}
use Rattle.txn_folder.specs.steps.Steps as steps
use Rattle.txn_folder.proofs.steps.Runs.{comes_on}
use Rattle.txn_folder.specs.declared.steps.get.GetNext.{GetNext}
use Rattle.txn_folder.specs.declared.steps.place.Place.{Place}
use Rattle.txn_folder.specs.declared.steps.place.Place.TheVariants as places
use Rattle.txn_folder.specs.declared.steps.put.PutEnd.{PutEnd}
use Rattle.txn_folder.specs.declared.steps.put.PutEnd.TheVariants as puts
use Rattle.txn_folder.specs.declared.steps.get.GetStep.{GetStep}
use Rattle.txn_folder.specs.declared.steps.get.GetStep.TheVariants as gets
use Rattle.txn_folder.specs.Tokens.{IsAt}
use Rattle.txn_store.specs.declared.store.StoreError.{StoreError}
use Rattle.txn_store.specs.declared.store.StoreError.TheVariants as errors
use Rattle.txn_store.specs.Paths.{Segments}
use Rattle.txn_store.specs.VersionName.{Names}
use Rattle.txn_store.specs.declared.store.PutMode.{PutMode}
use Rattle.txn_store.specs.declared.store.PutMode.TheVariants as modes
use Rattle.txn_store.specs.declared.request.Request.TheVariants as requests
use Rattle.txn_store.specs.declared.request.Reply.TheVariants as replies
use Rattle.txn_folder.specs.Machines.{IsOfMachine}
use Rattle.txn_folder.specs.Replies.{IsGetError}
use Rattle.txn_folder.specs.Calls.{IsDrawn, IsToldOf, create_start, created, updated, matched}

-- A number is above the greatest that was given before, and the greatest now.
abbrev pub IsLatest : ℕ → ℕ → Option ℕ → Type 0
IsLatest before now number = IfSome number (λ n. (before < n) × (n ≡ now))

-- numbers, one step on
pub latest_on : (ask : Ask) (answer : Told) (before now next : ℕ) (number later : Option ℕ) → before ≤ now → IsDrawn ask answer now next → IsNumberOf ask answer number later → IsLatest before now number → IsLatest before next later
latest_on ask answer before now next number None least drawn of was = tt
latest_on asks.Draw (told.Number n) before now next number (Some m) least drawn of was =
    let same : n ≡ m = ap (λ (t : Told). elim t [ told.Number k ↦ k | _ ↦ n ]) of in
    let low = drawn.0 in let is = drawn.1 in (omega (arith, low, same, least), sym same ∙ is)
latest_on asks.Draw answer before now next number (Some m) least drawn of was = absurd (cc)
latest_on ask answer before now next None (Some m) least drawn of was = absurd (cc)
latest_on ask answer before now next (Some n) (Some m) least drawn of was =
    let same : n ≡ m = ap (λ (o : Option ℕ). elim o [ None ↦ n | Some x ↦ x ]) of in
    let low = was.0 in (omega (arith, low, same), sym same ∙ was.1 ∙ sym drawn)

-- the greatest number only rises
pub rises_on : (ask : Ask) (answer : Told) (before now next : ℕ) → before ≤ now → IsDrawn ask answer now next → before ≤ next
rises_on asks.Draw (told.Number n) before now next least drawn = let low = drawn.0 in let is = drawn.1 in omega (arith, low, is, least)
rises_on ask answer before now next least drawn = let is : next ≡ now = drawn in omega (arith, is, least)

-- what is told of a put is how its machine ended
pub created_so : (place : Place) (bytes : List ℕ) (end : PutEnd) (answer : Option ℕ) → IsToldOf place bytes end answer → create_verdict (place_as place) bytes end ≡ created answer
created_so (places.Version id) bytes (puts.Put number) (Some token) is = ap steps.put_ok (sym is)
created_so places.Boundary bytes (puts.Put number) (Some token) is = ap steps.put_ok (sym is)
created_so place bytes (puts.Put number) None is = absurd is
created_so place bytes puts.Refused (Some token) is = absurd is
created_so place bytes puts.Refused None is = refl
created_so place bytes puts.Fails answer is = absurd is

pub updated_so : (place : Place) (bytes : List ℕ) (end : PutEnd) (answer : Option ℕ) → place ≡ places.Boundary → IsToldOf place bytes end answer → update_verdict bytes end ≡ updated answer
updated_so place bytes (puts.Put number) (Some token) at is = ap steps.put_ok (sym (is ∙ ap (λ (p : Place). unwrap_or (place_token p bytes (Some number)) 0) at))
updated_so place bytes (puts.Put number) None at is = absurd is
updated_so place bytes puts.Refused (Some token) at is = absurd is
updated_so place bytes puts.Refused None at is = refl
updated_so place bytes puts.Fails answer at is = absurd is

-- Only a read changes the bytes that were read, and before it none are told.
still : (step : GetStep) (ask : Ask) (a b : List ℕ) → ask ≡ get_asks step → (ask ≡ asks.Read) ⊎ (b ≡ a) → getting_as 0 a step ≡ getting_as 0 b step
still step ask a b is (inr same) = ap (λ (x : List ℕ). getting_as 0 x step) (sym same)
still gets.Looks ask a b is (inl read) = refl
still gets.Opens ask a b is (inl read) = refl
still gets.Reads ask a b is (inl read) = refl
still (gets.Lasts end) ask a b is (inl read) = let e : asks.Sync ≡ asks.Read = sym is ∙ read in absurd (cc)

got_still : (place : Place) (known : Option ℕ) (step : GetStep) (ask : Ask) (a b : List ℕ) → ask ≡ get_asks step → (ask ≡ asks.Read) ⊎ (b ≡ a) → GotIn place known a step → GotIn place known b step
got_still place known step ask a b is (inr same) got = subst (λ (x : List ℕ). GotIn place known x step) (sym same) got
got_still place known gets.Looks ask a b is (inl read) got = tt
got_still place known gets.Opens ask a b is (inl read) got = tt
got_still place known gets.Reads ask a b is (inl read) got = tt
got_still place known (gets.Lasts end) ask a b is (inl read) got = let e : asks.Sync ≡ asks.Read = sym is ∙ read in absurd (cc)

module _ (place : Place) (known : Option ℕ) (a b s : List ℕ) (step : GetStep) (ask : Ask) (answer : Told) (next : GetNext) (same : s ≡ b) (is : ask ≡ get_asks step) (read : (ask ≡ asks.Read) ⊎ (b ≡ a)) where
  -- a get, one step on
  pub get_on : get_next_as 0 s next ≡ get_turned (place_as place) known (getting_as 0 s step) (told_as 0 s (get_asks step) answer) → ComesTo (get_turned (place_as place) known) steps.Looks (Is (getting_as 0 a step)) → ComesTo (get_turned (place_as place) known) steps.Looks (get_next_as 0 b next)
  get_on leads here =
      comes_on (get_turned (place_as place) known) steps.Looks (getting_as 0 b step) (told_as 0 b (get_asks step) answer) (get_next_as 0 b next)
      (subst (λ (at : steps.Getting). ComesTo (get_turned (place_as place) known) steps.Looks (Is at)) (still step ask a b is read) here)
      (sym (subst (λ (x : List ℕ). get_next_as 0 x next ≡ get_turned (place_as place) known (getting_as 0 x step) (told_as 0 x (get_asks step) answer)) same leads))

  pub got_on : (GotIn place known s step → GotNext place known s next) → GotIn place known a step → GotNext place known b next
  got_on leads got = subst (λ (x : List ℕ). GotNext place known x next) same (leads (subst (λ (x : List ℕ). GotIn place known x step) (sym same) (got_still place known step ask a b is read got)))

from_none : (token : ℕ) (error : StoreError) → IsGetError None error → IsGetError (Some token) error
from_none token errors.NotFound is = tt
from_none token errors.AlreadyExists is = is
from_none token errors.Precondition is = is
from_none token errors.NotModified is = tt
from_none token errors.Failed is = is
from_none token errors.NoMemory is = is
from_none token errors.TokensExhausted is = is

from_test : (token : ℕ) (error : StoreError) (b : Bool) → IsGetError (if b then None else Some token) error → IsGetError (Some token) error
from_test token error true is = from_none token error is
from_test token error false is = is

-- a get is refused as it may be where its token is known, also where that matches nothing
pub get_error : (known : Option ℕ) (error : StoreError) → IsGetError (matched known) error → IsGetError known error
get_error None error is = is
get_error (Some token) error is = from_test token error (token == 0) is

module _ (names : Names) (boundary : Segments) (syncs : Bool) (path : Segments) (bytes s : List ℕ) (place : Place) (mode : PutMode) (verdict : steps.Verdict) (answer : Result ℕ StoreError) (same : s ≡ bytes) (at : IsAt names boundary path place) (ends : verdict ≡ steps.Tells (replies.Put answer)) where
  -- what is told of a create is of its machine
  pub create_of : mode ≡ modes.Create → ComesTo (steps.create_turned (place_as place) s) (create_start syncs) (steps.Ends verdict) → IsOfMachine names boundary syncs (requests.Put path bytes mode) (replies.Put answer)
  create_of is run =
      subst (λ (m : PutMode). IsOfMachine names boundary syncs (requests.Put path bytes m) (replies.Put answer)) (sym is)
      (inr (place, at, subst (λ (b : List ℕ). ComesTo (steps.create_turned (place_as place) b) (create_start syncs) (steps.Ends (steps.Tells (replies.Put answer)))) same (subst (λ (v : steps.Verdict). ComesTo (steps.create_turned (place_as place) s) (create_start syncs) (steps.Ends v)) ends run)))

  -- and of an update
  pub update_of : (token : ℕ) → mode ≡ modes.Update token → (place ≡ places.Boundary → ComesTo (steps.update_turned s token) steps.Locks (steps.Ends verdict)) → IsOfMachine names boundary syncs (requests.Put path bytes mode) (replies.Put answer)
  update_of token is run =
      subst (λ (m : PutMode). IsOfMachine names boundary syncs (requests.Put path bytes m) (replies.Put answer)) (sym is)
      (inr (place, at, λ here. subst (λ (b : List ℕ). ComesTo (steps.update_turned b token) steps.Locks (steps.Ends (steps.Tells (replies.Put answer)))) same (subst (λ (v : steps.Verdict). ComesTo (steps.update_turned s token) steps.Locks (steps.Ends v)) ends (run here))))
