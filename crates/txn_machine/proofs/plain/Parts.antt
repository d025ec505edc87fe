-- What a look and a serve leave the parts of operations with: a read of the boundary, a check of an id, a raise of the boundary.
use Rattle.std.proofs.Common.{◌≡◌, ℕ, ◌<◌, ◌≤◌, ◌^◌, List, [], ◌∷◌, ◌++◌, Contains, nat_lt, Bool, true, false, cond, Option, Some, None, Ok, Err, Result, ◌⊎◌, inl, inr, refl, sym, ◌∙◌, ap, subst, arith}
use Rattle.std.specs.Option.{option_map}
use Rattle.std.specs.Fmt.{decimal}
use Rattle.std.specs.FinMap.{get}
use Rattle.std.proofs.lemmas.List.{append-nil}
use Rattle.std.proofs.lemmas.List.Elements.{Contains-append_right}
use Rattle.std.proofs.lemmas.Bool.{cases_Bool, ltb-true, ltb-false, leb-true}
use Rattle.std.proofs.lemmas.Option.{same_Some}
use Rattle.txn_store.specs.Paths.{Segments}
use Rattle.txn_store.specs.Store.{Files, State as StoreState, Kept, Placed, Gets, Puts}
use Rattle.txn_store.specs.Requests.{Serves}
use Rattle.txn_store.specs.declared.store.Got.{Got}
use Rattle.txn_store.specs.declared.store.StoreError.{StoreError}
use Rattle.txn_store.specs.declared.store.StoreError.TheVariants as errors
use Rattle.txn_store.specs.declared.request.Request.{Request}
use Rattle.txn_store.specs.declared.request.Request.TheVariants as requests
use Rattle.txn_store.specs.declared.request.Reply.{Reply}
use Rattle.txn_store.specs.declared.request.Reply.TheVariants as replies
use Rattle.txn_store.proofs.FileLemmas.{get-insert_same}
use Rattle.txn_store.proofs.types.BoundaryLemmas.{read_decimal_text}
use Rattle.txn_steps.specs.declared.boundary.caches.Cached.{Cached}
use Rattle.txn_steps.specs.declared.boundary.caches.Caches.{Caches}
use Rattle.txn_steps.specs.declared.boundary.caches.CachedBoundary.{CachedBoundary}
use Rattle.txn_steps.specs.declared.boundary.boundary_read.BoundaryRead.{BoundaryRead}
use Rattle.txn_steps.specs.declared.boundary.boundary_read.BoundaryRead.TheVariants as reading
use Rattle.txn_steps.specs.declared.boundary.check.BoundaryStep.{BoundaryStep}
use Rattle.txn_steps.specs.declared.boundary.check.BoundaryStep.TheVariants as boundary_step
use Rattle.txn_steps.specs.declared.boundary.check.BoundaryCheck.{BoundaryCheck}
use Rattle.txn_steps.specs.declared.boundary.check.CheckOp.{CheckOp}
use Rattle.txn_steps.specs.declared.boundary.check.CheckOp.TheVariants as checks
use Rattle.txn_steps.specs.declared.boundary.advance.BoundaryAdvance.{BoundaryAdvance}
use Rattle.txn_steps.specs.declared.boundary.advance.BoundaryAdvance.TheVariants as raising
use Rattle.txn_steps.specs.declared.boundary.turned.Turned.{Turned}
use Rattle.txn_steps.specs.declared.boundary.turned.Turned.TheVariants.{Goes, Done}
use Rattle.txn_steps.specs.boundary.Boundaries.{Known, token_of, known_pair, greater_known, refused_by}
use Rattle.txn_steps.specs.boundary.BoundaryReads.{text_read, boundary_got, boundary_held, boundary_read_asked, boundary_replied, boundary_turned, boundary_cached}
use Rattle.txn_steps.specs.boundary.BoundaryChecks.{reads_turned, turned_at, asked_at, cached_at}
use Rattle.txn_steps.specs.boundary.Checks.{check_asked, checks_turned, check_turned, check_caches}
use Rattle.txn_steps.specs.boundary.BoundaryAdvances.{raise_mode, raise_known, known_after, advance_looked, put_answered, put_turned, advance_read, boundary_advance_asked, boundary_advance_turned, boundary_advance_cached}
use Rattle.txn_history.specs.Trace.{PlainRow}
use Rattle.txn_history.specs.Names.{world_boundary}
use Rattle.txn_history.specs.History.{boundary, boundary_said}
use Rattle.txn_history.specs.Facts.{NoTokens}
use Rattle.txn_history.specs.Added.{effect_rows}
use Rattle.txn_machine.specs.plain.Machine.{took, effect_of}
use Rattle.txn_machine.proofs.plain.Stands.{get_boundary, raise, IsQuiet, KnownFits, Fit, Open, UnchangedStands, TokenStands, GettingStands, ReadingStands, StepStands, CheckStands, Room, KnownBelow, RaiseStands, CachesStand, KnowStands}
use Rattle.txn_machine.proofs.plain.Turns.{RisesTo, stays, KnownStands, ReadingTells, CheckTells, RaiseTells, PartLooks}
use Rattle.txn_machine.proofs.plain.Faults.{ruled_out, get_other, get_missing, SameFile, get_same, raise_other}
use Rattle.txn_machine.proofs.plain.Windows.{above_fits}

-- the greater of two boundaries

greater_least : (cached : Option CachedBoundary) (known : CachedBoundary) → known.number ≤ (greater_known cached known).number
greater_least None known = omega arith
greater_least (Some held) known = elim (cases_Bool (nat_lt known.number held.number)) [ inl lt ↦ rw lt (omega (arith, ltb-true known.number held.number lt)) | inr ge ↦ rw ge (omega arith) ]

greater_most : (held known : CachedBoundary) → held.number ≤ (greater_known (Some held) known).number
greater_most held known = elim (cases_Bool (nat_lt known.number held.number)) [ inl lt ↦ rw lt (omega arith) | inr ge ↦ rw ge (ltb-false known.number held.number ge) ]

greater_rises : (cached : Option CachedBoundary) (known : CachedBoundary) → RisesTo cached (Some (greater_known cached known))
greater_rises None known n h = let none = h.there in absurd (cc)
greater_rises (Some held) known n h =
    let same : held ≡ h.known = same_Some held h.known h.there in
    let least : n ≤ held.number = subst (λ (c : CachedBoundary). n ≤ c.number) (sym same) h.least in
    let most = greater_most held known in
    record { known = greater_known (Some held) known; there = refl; least = omega (arith, least, most) }

-- what a lower number leaves open, a greater one does
at_least : (id n m : ℕ) (Q : Type 0) → n ≤ m → (id ≤ n) ⊎ Q → (id ≤ m) ⊎ Q
at_least id n m Q le (inl h) = inl (omega (arith, h, le))
at_least id n m Q le (inr h) = inr h

-- a request that changes nothing has no effect

none_either : (b : Bool) → cond {A = Option Request} b None None ≡ None
none_either true = refl
none_either false = refl

pub quiet_effect : (files : Files) (request : Request) (reply : Reply) → IsQuiet request → effect_of files request reply ≡ None
quiet_effect files (requests.Get path known) reply quiet = none_either (took reply)
quiet_effect files (requests.List prefix after limit) reply quiet = none_either (took reply)
quiet_effect files (requests.Put path bytes mode) reply quiet = absurd quiet
quiet_effect files (requests.Delete path) reply quiet = absurd quiet

-- caches with this boundary
abbrev pub with_boundary : List Cached → Option CachedBoundary → Caches
with_boundary latest boundary = record { latest = latest; boundary = boundary }

-- a part that asks leaves what is cached

pub reading_kept : (cached : Option CachedBoundary) (read : BoundaryRead) (request : Request) → boundary_read_asked read ≡ Some request → boundary_cached read cached ≡ cached
reading_kept cached (reading.Looks path) request asks = refl
reading_kept cached (reading.Gets getting) request asks = refl
reading_kept cached (reading.Holds known) request asks = cc

step_kept : (cached : Option CachedBoundary) (step : BoundaryStep) (read : BoundaryRead) (request : Request) → asked_at step read ≡ Some request → cached_at step read cached ≡ cached
step_kept cached boundary_step.Looks read request asks = refl
step_kept cached boundary_step.Reads read request asks = reading_kept cached read request asks

pub check_kept : (caches : Caches) (check : CheckOp) (request : Request) → check_asked check ≡ Some request → check_caches check caches ≡ caches
check_kept caches (checks.Checks check) request asks = ap (with_boundary caches.latest) (step_kept caches.boundary check.step check.read request asks)
check_kept caches (checks.Drops id) request asks = cc

pub raise_kept : (cached : Option CachedBoundary) (raise : BoundaryAdvance) (request : Request) → boundary_advance_asked raise ≡ Some request → boundary_advance_cached raise cached ≡ cached
raise_kept cached (raising.Looks t) request asks = cc
raise_kept cached (raising.Reads t again read) request asks = reading_kept cached read request asks
raise_kept cached (raising.Puts t put) request asks = refl
raise_kept cached (raising.Keeps t token) request asks = cc

module _ {T : Type 0} where
  pub quiet_rows : (rows : List (PlainRow T)) (op : ℕ) (files : Files) (request : Request) (reply : Reply) → IsQuiet request → rows ++ effect_rows op (effect_of files request reply) ≡ rows
  quiet_rows rows op files request reply quiet = ap (λ (effect : Option Request). rows ++ effect_rows op effect) (quiet_effect files request reply quiet) ∙ append-nil rows

  -- A look that leaves this of the cached boundary.
  pub record KnownLooks (rows : List (PlainRow T)) (store : StoreState) (cached after : Option CachedBoundary) (tells : Type 0) : Type 0 where
    pub fits : KnownFits rows store after
    pub more : RisesTo cached after
    pub told : tells

  -- a read of the boundary that looks
  abbrev pub ReadingLooks : List (PlainRow T) → StoreState → Option CachedBoundary → ℕ → Type 0 → BoundaryRead → Type 0
  ReadingLooks rows store cached id Q read = KnownLooks rows store cached (boundary_cached read cached) (ReadingTells rows store (boundary_cached read cached) id Q (boundary_turned read cached None))

  -- a look of a read of the boundary

  greater_fits : (rows : List (PlainRow T)) (store : StoreState) (cached : Option CachedBoundary) (known : CachedBoundary) → KnownFits rows store cached → Fit rows store known.number known.token →
      Fit rows store (greater_known cached known).number (greater_known cached known).token
  greater_fits rows store None known fits fit = fit
  greater_fits rows store (Some held) known fits fit = elim (cases_Bool (nat_lt known.number held.number)) [ inl lt ↦ rw lt fits | inr ge ↦ rw ge fit ]

  -- a cached boundary is known
  pub cached_known : (rows : List (PlainRow T)) (store : StoreState) (id : ℕ) (Q : Type 0) (known : CachedBoundary) → Fit rows store known.number known.token → (id ≤ known.number) ⊎ Q → KnownStands rows store id Q (known_pair known)
  cached_known rows store id Q known fit open' = record { below = fit.below; open' = open'; fit = λ token is. subst (λ (t : ℕ). Fit rows store known.number t) (same_Some known.token token is) fit }

  token_stands : (rows : List (PlainRow T)) (store : StoreState) (cached : Option CachedBoundary) → KnownFits rows store cached → TokenStands rows store cached (token_of cached)
  token_stands rows store None fits = tt
  token_stands rows store (Some known) fits = (known.number, fits, record { known = known; there = refl; least = omega arith })

  unchanged_stands : (rows : List (PlainRow T)) (store : StoreState) (cached : Option CachedBoundary) (id : ℕ) (Q : Type 0) → KnownFits rows store cached → UnchangedStands cached id Q →
      ReadingTells rows store cached id Q (boundary_held (reading.Holds None) None cached)
  unchanged_stands rows store None id Q fits h = let none = h.at.there in absurd (cc)
  unchanged_stands rows store (Some known) id Q fits h =
      let same : known ≡ h.at.known = same_Some known h.at.known h.at.there in
      let least : h.number ≤ known.number = subst (λ (c : CachedBoundary). h.number ≤ c.number) (sym same) h.at.least in
      cached_known rows store id Q known fits (at_least id h.number known.number Q least h.open')

  pub reading_looks : (rows : List (PlainRow T)) (store : StoreState) (cached : Option CachedBoundary) (id : ℕ) (Q : Type 0) (read : BoundaryRead) → KnownFits rows store cached → ReadingStands rows store cached id Q read → boundary_read_asked read ≡ None → ReadingLooks rows store cached id Q read
  reading_looks rows store cached id Q (reading.Looks path) fits h asks =
      record {
        fits = fits;
        more = stays cached;
        told = record { token = token_of cached; asks = ap (λ (p : Segments). requests.Get p (token_of cached)) h.0; known = token_stands rows store cached fits; open' = h.1 };
      }
  reading_looks rows store cached id Q (reading.Gets request) fits h asks = cc
  reading_looks rows store cached id Q (reading.Holds (Some known)) fits h asks =
      let greater = greater_known cached known in
      let fit = greater_fits rows store cached known fits h.0 in
      record {
        fits = fit;
        more = greater_rises cached known;
        told = cached_known rows store id Q greater fit (at_least id known.number greater.number Q (greater_least cached known) h.1);
      }
  reading_looks rows store cached id Q (reading.Holds None) fits h asks = record { fits = fits; more = stays cached; told = unchanged_stands rows store cached id Q fits h }

  -- it asks for the boundary's file
  pub reading_asks : (rows : List (PlainRow T)) (store : StoreState) (cached : Option CachedBoundary) (id : ℕ) (Q : Type 0) (read : BoundaryRead) (request : Request) → ReadingStands rows store cached id Q read → boundary_read_asked read ≡ Some request → GettingStands rows store cached id Q request
  reading_asks rows store cached id Q (reading.Looks path) request h asks = cc
  reading_asks rows store cached id Q (reading.Gets getting) request h asks = subst (λ (r : Request). GettingStands rows store cached id Q r) (same_Some getting request asks) h
  reading_asks rows store cached id Q (reading.Holds known) request h asks = cc

  pub getting_quiet : (rows : List (PlainRow T)) (store : StoreState) (cached : Option CachedBoundary) (id : ℕ) (Q : Type 0) (request : Request) → GettingStands rows store cached id Q request → IsQuiet request
  getting_quiet rows store cached id Q request h = subst (λ (r : Request). IsQuiet r) (sym h.asks) tt

  -- an id that is open at the boundary
  open_at : (rows : List (PlainRow T)) (id n : ℕ) (Q : Type 0) → boundary rows ≡ n → Open rows id Q → (id ≤ n) ⊎ Q
  open_at rows id n Q e (inl h) = inl (omega (arith, e, h))
  open_at rows id n Q e (inr h) = inr h

  -- the file has the token that was known, so its number is the boundary
  same_open : (rows : List (PlainRow T)) (old : StoreState) (cached : Option CachedBoundary) (id : ℕ) (Q : Type 0) (token : Option ℕ) → TokenStands rows old cached token → Open rows id Q → SameFile token (get old.files world_boundary) → UnchangedStands cached id Q
  same_open rows old cached id Q None known open' same = let none = same.sent in absurd (cc)
  same_open rows old cached id Q (Some token) known open' same =
      let is : same.got.token ≡ token = sym (same_Some token same.got.token same.sent) in
      let number : known.0 ≡ boundary rows = known.1.same same.got same.there is in
      record { number = known.0; at = known.2; open' = open_at rows id known.0 Q (sym number) open' }

  -- a check, after a turn of its read

  known_decides : (rows : List (PlainRow T)) (store : StoreState) (cached : Option CachedBoundary) (id : ℕ) (Q : Type 0) (check : BoundaryCheck) (read : BoundaryRead) (known : Known) → check.id ≡ id → KnownStands rows store id Q known →
      CheckTells rows store cached id Q (checks_turned check.id (reads_turned check (read, Done (Ok known))))
  known_decides rows store cached id Q check read known is h =
      let below = h.below in
      elim (cases_Bool (nat_lt known.0 check.id)) [
        | inl lt ↦
            let above = ltb-true known.0 check.id lt in
            rw lt (elim h.open' [ inl le ↦ absurd (omega (arith, above, le, is)) | inr q ↦ q ])
        | inr ge ↦ (let le = ltb-false known.0 check.id ge in rw ge (is, omega (arith, le, is, below)))
      ]

  check_reads : (rows : List (PlainRow T)) (store : StoreState) (cached : Option CachedBoundary) (id : ℕ) (Q : Type 0) (check : BoundaryCheck) (turn : BoundaryRead × Turned (Result Known ℕ)) → check.id ≡ id → ReadingTells rows store cached id Q turn →
      CheckTells rows store cached id Q (checks_turned check.id (reads_turned check turn))
  check_reads rows store cached id Q check (read, Goes) is h = (is, h)
  check_reads rows store cached id Q check (read, Done (Ok known)) is h = known_decides rows store cached id Q check read known is h
  check_reads rows store cached id Q check (read, Done (Err number)) is h =
      subst (λ (n : ℕ). CheckTells rows store cached id Q (checks_turned check.id (reads_turned check (read, Done (Err n))))) (sym h) (inr refl)

  -- a cached boundary that refuses an id has reached it
  refused_below : (rows : List (PlainRow T)) (store : StoreState) (cached : Option CachedBoundary) (id : ℕ) → KnownFits rows store cached → refused_by id cached ≡ true → id ≤ boundary rows
  refused_below rows store None id fits e = cc
  refused_below rows store (Some known) id fits e = (let le = leb-true id known.number e in let below = fits.below in omega (arith, le, below))

  -- a look of a check

  check_starts : (rows : List (PlainRow T)) (store : StoreState) (cached : Option CachedBoundary) (id : ℕ) (Q : Type 0) (check : BoundaryCheck) → KnownFits rows store cached → check.id ≡ id → (check.read ≡ reading.Looks world_boundary) × Open rows id Q →
      CheckTells rows store cached id Q (checks_turned check.id (turned_at boundary_step.Looks check cached None))
  check_starts rows store cached id Q check fits is h =
      elim (cases_Bool (refused_by check.id cached)) [
        | inl refused ↦ (let below = refused_below rows store cached check.id fits refused in rw refused (is, omega (arith, is, below)))
        | inr open' ↦ rw open' (is, subst (λ (r : BoundaryRead). ReadingStands rows store cached id Q r) (sym h.0) (refl, h.1))
      ]

  step_looks : (rows : List (PlainRow T)) (store : StoreState) (cached : Option CachedBoundary) (id : ℕ) (Q : Type 0) (check : BoundaryCheck) (step : BoundaryStep) → KnownFits rows store cached → check.id ≡ id → StepStands rows store cached id Q step check.read → asked_at step check.read ≡ None →
      KnownLooks rows store cached (cached_at step check.read cached) (CheckTells rows store (cached_at step check.read cached) id Q (checks_turned check.id (turned_at step check cached None)))
  step_looks rows store cached id Q check boundary_step.Looks fits is h asks = record { fits = fits; more = stays cached; told = check_starts rows store cached id Q check fits is h }
  step_looks rows store cached id Q check boundary_step.Reads fits is h asks =
      let looks = reading_looks rows store cached id Q check.read fits h asks in
      record { fits = looks.fits; more = looks.more; told = check_reads rows store (boundary_cached check.read cached) id Q check (boundary_turned check.read cached None) is looks.told }

  -- a raise, where the boundary is known

  known_below : (rows : List (PlainRow T)) (store : StoreState) (target number : ℕ) (token : Option ℕ) → KnownStands rows store 0 ⊥ (number, token) → number < target → KnownBelow rows store target token
  known_below rows store target number None h lt = omega (arith, lt)
  known_below rows store target number (Some token) h lt = (number, h.fit token refl, lt)

  known_raises : (rows : List (PlainRow T)) (store : StoreState) (cached : Option CachedBoundary) (target t : ℕ) (op : BoundaryAdvance) (known : Known) → t ≡ target → KnownStands rows store 0 ⊥ known → RaiseTells rows store cached target (raise_known world_boundary op t known)
  known_raises rows store cached target t op known is h =
      let below = h.below in
      elim (cases_Bool (nat_lt known.0 t)) [
        | inl lt ↦
            let under : known.0 < target = omega (arith, is, ltb-true known.0 t lt) in
            rw lt (is, record { token = known.1; asks = ap (λ (n : ℕ). raise n known.1) is; below = known_below rows store target known.0 known.1 h under })
        | inr ge ↦ (let le = ltb-false known.0 t ge in rw ge (omega (arith, le, is, below)))
      ]

  -- a raise, after a turn of its read

  after_read : (rows : List (PlainRow T)) (store : StoreState) (cached : Option CachedBoundary) (target t : ℕ) (again : Bool) (op : BoundaryAdvance) (known : Known) → t ≡ target → KnownStands rows store 0 ⊥ known → RaiseTells rows store cached target (known_after again world_boundary op t known)
  after_read rows store cached target t true op known is h = is
  after_read rows store cached target t false op known is h = known_raises rows store cached target t op known is h

  raise_reads : (rows : List (PlainRow T)) (store : StoreState) (cached : Option CachedBoundary) (target t : ℕ) (again : Bool) (turn : BoundaryRead × Turned (Result Known ℕ)) → t ≡ target → ReadingTells rows store cached 0 ⊥ turn → RaiseTells rows store cached target (advance_read world_boundary t again turn)
  raise_reads rows store cached target t again (read, Goes) is h = (is, h)
  raise_reads rows store cached target t again (read, Done (Ok known)) is h = after_read rows store cached target t again (raising.Reads t again read) known is h
  raise_reads rows store cached target t again (read, Done (Err number)) is h = inr h

  -- a look of a raise

  raise_starts : (rows : List (PlainRow T)) (store : StoreState) (cached : Option CachedBoundary) (target t : ℕ) → KnownFits rows store cached → t ≡ target → RaiseTells rows store cached target (advance_looked world_boundary (raising.Looks t) t cached)
  raise_starts rows store None target t fits is = (is, (refl, inl (omega arith)))
  raise_starts rows store (Some known) target t fits is = known_raises rows store (Some known) target t (raising.Looks t) (known_pair known) is (cached_known rows store 0 ⊥ known fits (inl (omega arith)))

  -- a look of a raise leaves this
  abbrev pub RaiseLooks : List (PlainRow T) → StoreState → Option CachedBoundary → ℕ → BoundaryAdvance → Type 0
  RaiseLooks rows store cached target raise = KnownLooks rows store cached (boundary_advance_cached raise cached) (RaiseTells rows store (boundary_advance_cached raise cached) target (boundary_advance_turned world_boundary raise cached None))

  pub raise_looks : (rows : List (PlainRow T)) (store : StoreState) (cached : Option CachedBoundary) (target : ℕ) (raise : BoundaryAdvance) → KnownFits rows store cached → RaiseStands rows store cached target raise → boundary_advance_asked raise ≡ None → RaiseLooks rows store cached target raise
  raise_looks rows store cached target (raising.Looks t) fits h asks = record { fits = fits; more = stays cached; told = raise_starts rows store cached target t fits h }
  raise_looks rows store cached target (raising.Reads t again read) fits h asks =
      let looks = reading_looks rows store cached 0 ⊥ read fits h.1 asks in
      record { fits = looks.fits; more = looks.more; told = raise_reads rows store (boundary_cached read cached) target t again (boundary_turned read cached None) h.0 looks.told }
  raise_looks rows store cached target (raising.Puts t request) fits h asks = cc
  raise_looks rows store cached target (raising.Keeps t token) fits h asks =
      let known : CachedBoundary = record { number = t; token = token } in
      let fit : Fit rows store t token = subst (λ (n : ℕ). Fit rows store n token) (sym h.0) h.1 in
      record { fits = greater_fits rows store cached known fits fit; more = greater_rises cached known; told = h.1.below }

  -- what a check asks

  step_asks : (rows : List (PlainRow T)) (store : StoreState) (cached : Option CachedBoundary) (id : ℕ) (Q : Type 0) (step : BoundaryStep) (read : BoundaryRead) (request : Request) → StepStands rows store cached id Q step read → asked_at step read ≡ Some request → IsQuiet request
  step_asks rows store cached id Q boundary_step.Looks read request h asks = cc
  step_asks rows store cached id Q boundary_step.Reads read request h asks = getting_quiet rows store cached id Q request (reading_asks rows store cached id Q read request h asks)

  pub check_asks : (rows : List (PlainRow T)) (store : StoreState) (cached : Option CachedBoundary) (id : ℕ) (Q : Type 0) (check : CheckOp) (request : Request) → CheckStands rows store cached id Q check → check_asked check ≡ Some request → IsQuiet request
  check_asks rows store cached id Q (checks.Checks check) request h asks = step_asks rows store cached id Q check.step check.read request h.1 asks
  check_asks rows store cached id Q (checks.Drops i) request h asks = cc

module _ {T : Type 0} (decode : List ℕ → Option T) where
  -- a look of a check leaves this
  abbrev pub CheckLooks : List (PlainRow T) → StoreState → Caches → ℕ → Type 0 → CheckOp → Type 0
  CheckLooks rows store caches id Q check = PartLooks decode rows store caches (check_caches check caches) (CheckTells rows store (check_caches check caches).boundary id Q (check_turned check caches None))

  pub check_looks : (rows : List (PlainRow T)) (store : StoreState) (caches : Caches) (id : ℕ) (Q : Type 0) (check : CheckOp) → CachesStand decode rows store caches → CheckStands rows store caches.boundary id Q check → check_asked check ≡ None → CheckLooks rows store caches id Q check
  check_looks rows store caches id Q (checks.Checks check) fits h asks =
      let looks = step_looks rows store caches.boundary id Q check check.step fits.boundary h.0 h.1 asks in
      record { fits = record { latest = fits.latest; boundary = looks.fits }; more = looks.more; told = looks.told }
  check_looks rows store caches id Q (checks.Drops i) fits h asks =
      record {
        fits = record { latest = above_fits decode rows i caches.latest fits.latest; boundary = fits.boundary };
        more = stays caches.boundary;
        told = inl (refl, h.1);
      }

module _ {T : Type 0} (decode : List ℕ → Option T) (get_epoch : T → ℕ) where
  -- a serve of a read of the boundary

  missing_zero : (failed : List ℕ) (rows : List (PlainRow T)) (store : StoreState) → KnowStands decode get_epoch failed rows store → get store.files world_boundary ≡ None → boundary rows ≡ 0
  missing_zero failed rows store k e = ap boundary_said (sym (k.files.kept world_boundary) ∙ ap (option_map (λ (g : Got). g.bytes)) e)

  -- the boundary's file, read
  file_fit : (failed : List ℕ) (rows : List (PlainRow T)) (old new : StoreState) (got : Got) → KnowStands decode get_epoch failed rows old → Kept old new → get old.files world_boundary ≡ Some got → Fit rows new (boundary rows) got.token
  file_fit failed rows old new got k kept e =
      record {
        below = omega arith;
        given = subst (λ (given : List ℕ). Contains given got.token) (sym kept.given) (k.files.given world_boundary got e);
        same = λ other e' is. refl;
      }

  got_tells : (failed : List ℕ) (rows : List (PlainRow T)) (old new : StoreState) (cached : Option CachedBoundary) (id : ℕ) (Q : Type 0) (op : BoundaryRead) (token : Option ℕ) (answer : Result Got StoreError) → KnowStands decode get_epoch failed rows old → TokenStands rows old cached token → Open rows id Q →
      Gets world_boundary token old answer new → new.failures ≡ 0 → ReadingTells rows new cached id Q (boundary_got op answer)
  got_tells failed rows old new cached id Q op token (Ok got) k known open' g honest =
      subst (λ (o : Option ℕ). ReadingTells rows new cached id Q (text_read op got.token o)) (sym (k.files.says got g.found)) (file_fit failed rows old new got k g.kept g.found, open_at rows id (boundary rows) Q refl open')
  got_tells failed rows old new cached id Q op token (Err errors.NotFound) k known open' g honest =
      let zero = missing_zero failed rows old k (get_missing token (get old.files world_boundary) g.err.0) in
      record { below = omega arith; open' = open_at rows id 0 Q zero open'; fit = λ t is. cc }
  got_tells failed rows old new cached id Q op token (Err errors.NotModified) k known open' g honest = same_open rows old cached id Q token known open' (get_same token (get old.files world_boundary) g.err.0)
  got_tells failed rows old new cached id Q op token (Err errors.NoMemory) k known open' g honest = refl
  got_tells failed rows old new cached id Q op token (Err errors.Failed) k known open' g honest = ruled_out old new honest g.err.0
  got_tells failed rows old new cached id Q op token (Err errors.TokensExhausted) k known open' g honest = absurd g.err
  got_tells failed rows old new cached id Q op token (Err errors.AlreadyExists) k known open' g honest = absurd (get_other token (get old.files world_boundary) errors.AlreadyExists (λ e. cc) (λ e. cc) g.err.0)
  got_tells failed rows old new cached id Q op token (Err errors.Precondition) k known open' g honest = absurd (get_other token (get old.files world_boundary) errors.Precondition (λ e. cc) (λ e. cc) g.err.0)

  reply_tells : (failed : List ℕ) (rows : List (PlainRow T)) (old new : StoreState) (cached : Option CachedBoundary) (id : ℕ) (Q : Type 0) (op : BoundaryRead) (token : Option ℕ) (reply : Reply) → KnowStands decode get_epoch failed rows old → TokenStands rows old cached token → Open rows id Q →
      Serves (get_boundary token) old reply new → new.failures ≡ 0 → ReadingTells rows new cached id Q (boundary_replied op (Some reply))
  reply_tells failed rows old new cached id Q op token (replies.Get answer) k known open' s honest = got_tells failed rows old new cached id Q op token answer k known open' s honest
  reply_tells failed rows old new cached id Q op token (replies.Put answer) k known open' s honest = absurd s
  reply_tells failed rows old new cached id Q op token (replies.List answer) k known open' s honest = absurd s
  reply_tells failed rows old new cached id Q op token (replies.Delete answer) k known open' s honest = absurd s

  pub reading_serves : (failed : List ℕ) (rows : List (PlainRow T)) (old new : StoreState) (cached : Option CachedBoundary) (id : ℕ) (Q : Type 0) (read : BoundaryRead) (request : Request) (reply : Reply) → KnowStands decode get_epoch failed rows old → ReadingStands rows old cached id Q read →
      boundary_read_asked read ≡ Some request → Serves request old reply new → new.failures ≡ 0 → ReadingTells rows new cached id Q (boundary_turned read cached (Some reply))
  reading_serves failed rows old new cached id Q (reading.Looks path) request reply k h asks s honest = cc
  reading_serves failed rows old new cached id Q (reading.Gets getting) request reply k h asks s honest =
      let is : request ≡ get_boundary h.token = sym (same_Some getting request asks) ∙ h.asks in
      reply_tells failed rows old new cached id Q (reading.Gets getting) h.token reply k h.known h.open' (subst (λ (r : Request). Serves r old reply new) is s) honest
  reading_serves failed rows old new cached id Q (reading.Holds known) request reply k h asks s honest = cc

  -- a serve of a check

  step_serves : (failed : List ℕ) (rows : List (PlainRow T)) (old new : StoreState) (cached : Option CachedBoundary) (id : ℕ) (Q : Type 0) (check : BoundaryCheck) (step : BoundaryStep) (request : Request) (reply : Reply) → KnowStands decode get_epoch failed rows old → check.id ≡ id →
      StepStands rows old cached id Q step check.read → asked_at step check.read ≡ Some request → Serves request old reply new → new.failures ≡ 0 → CheckTells rows new cached id Q (checks_turned check.id (turned_at step check cached (Some reply)))
  step_serves failed rows old new cached id Q check boundary_step.Looks request reply k is h asks s honest = cc
  step_serves failed rows old new cached id Q check boundary_step.Reads request reply k is h asks s honest =
      check_reads rows new cached id Q check (boundary_turned check.read cached (Some reply)) is (reading_serves failed rows old new cached id Q check.read request reply k h asks s honest)

  pub check_serves : (failed : List ℕ) (rows : List (PlainRow T)) (old new : StoreState) (caches : Caches) (id : ℕ) (Q : Type 0) (check : CheckOp) (request : Request) (reply : Reply) → KnowStands decode get_epoch failed rows old → CheckStands rows old caches.boundary id Q check →
      check_asked check ≡ Some request → Serves request old reply new → new.failures ≡ 0 → CheckTells rows new caches.boundary id Q (check_turned check caches (Some reply))
  check_serves failed rows old new caches id Q (checks.Checks check) request reply k h asks s honest = step_serves failed rows old new caches.boundary id Q check check.step request reply k h.0 h.1 asks s honest
  check_serves failed rows old new caches id Q (checks.Drops i) request reply k h asks s honest = cc

  -- a serve of a raise

  -- the file says the target, by a token that was just given
  raised_fit : (failed : List ℕ) (rows : List (PlainRow T)) (old new : StoreState) (target token : ℕ) → KnowStands decode get_epoch failed rows new → target < 2 ^ 64 → Placed world_boundary (decimal target) token old new → Fit rows new target token
  raised_fit failed rows old new target token k small placed =
      let got : Got = record { bytes = decimal target; token = token } in
      let file : get new.files world_boundary ≡ Some got = ap (λ (files : Files). get files world_boundary) placed.files ∙ get-insert_same old.files world_boundary got in
      let at : target ≡ boundary rows = same_Some target (boundary rows) (sym (read_decimal_text target small) ∙ k.files.says got file) in
      record {
        below = omega (arith, at);
        given = subst (λ (given : List ℕ). Contains given token) (sym placed.given) (Contains-append_right old.given (token ∷ []) token (0, omega arith, refl));
        same = λ other e is. at;
      }

  no_tokens : (failed : List ℕ) (rows : List (PlainRow T)) (old new : StoreState) → KnowStands decode get_epoch failed rows new → old.left ≡ 0 → Kept old new → NoTokens rows
  no_tokens failed rows old new k none kept = (let left = k.files.left in let same = kept.left in omega (arith, left, same, none))

  put_tells : (failed : List ℕ) (rows : List (PlainRow T)) (old new : StoreState) (cached : Option CachedBoundary) (target t : ℕ) (token : Option ℕ) (op : BoundaryAdvance) (answer : Result ℕ StoreError) → KnowStands decode get_epoch failed rows new → target < 2 ^ 64 → t ≡ target →
      Puts world_boundary (decimal target) (raise_mode token) old answer new → new.failures ≡ 0 → RaiseTells rows new cached target (put_answered world_boundary op t answer)
  put_tells failed rows old new cached target t token op (Ok token') k small is p honest = (is, raised_fit failed rows old new target token' k small p.placed)
  put_tells failed rows old new cached target t token op (Err errors.AlreadyExists) k small is p honest = (is, (refl, inl (omega arith)))
  put_tells failed rows old new cached target t token op (Err errors.Precondition) k small is p honest = (is, (refl, inl (omega arith)))
  put_tells failed rows old new cached target t token op (Err errors.NoMemory) k small is p honest = inr refl
  put_tells failed rows old new cached target t token op (Err errors.TokensExhausted) k small is p honest = inl (refl, no_tokens failed rows old new k p.err.1 p.err.2)
  put_tells failed rows old new cached target t token op (Err errors.Failed) k small is p honest = ruled_out old new honest p.err.0
  put_tells failed rows old new cached target t token op (Err errors.NotFound) k small is p honest = absurd (raise_other token (get old.files world_boundary) errors.NotFound (λ e. cc) (λ e. cc) p.err.0)
  put_tells failed rows old new cached target t token op (Err errors.NotModified) k small is p honest = absurd (raise_other token (get old.files world_boundary) errors.NotModified (λ e. cc) (λ e. cc) p.err.0)

  raise_tells : (failed : List ℕ) (rows : List (PlainRow T)) (old new : StoreState) (cached : Option CachedBoundary) (target t : ℕ) (token : Option ℕ) (op : BoundaryAdvance) (reply : Reply) → KnowStands decode get_epoch failed rows new → target < 2 ^ 64 → t ≡ target →
      Serves (raise target token) old reply new → new.failures ≡ 0 → RaiseTells rows new cached target (put_turned world_boundary op t (Some reply))
  raise_tells failed rows old new cached target t token op (replies.Put answer) k small is s honest = put_tells failed rows old new cached target t token op answer k small is s honest
  raise_tells failed rows old new cached target t token op (replies.Get answer) k small is s honest = absurd s
  raise_tells failed rows old new cached target t token op (replies.List answer) k small is s honest = absurd s
  raise_tells failed rows old new cached target t token op (replies.Delete answer) k small is s honest = absurd s

  room_small : (failed : List ℕ) (rows : List (PlainRow T)) (store : StoreState) (target : ℕ) → KnowStands decode get_epoch failed rows store → Room rows target → target < 2 ^ 64
  room_small failed rows store target k (inl zero) = omega (arith, zero)
  room_small failed rows store target k (inr under) = (let small = k.history.small in omega (arith, under, small))

  pub raise_serves : (failed : List ℕ) (rows : List (PlainRow T)) (old new : StoreState) (cached : Option CachedBoundary) (op target : ℕ) (raise : BoundaryAdvance) (request : Request) (reply : Reply) → KnowStands decode get_epoch failed rows old →
      KnowStands decode get_epoch failed (rows ++ effect_rows op (effect_of old.files request reply)) new → Room rows target → RaiseStands rows old cached target raise → boundary_advance_asked raise ≡ Some request → Serves request old reply new → new.failures ≡ 0 →
      RaiseTells (rows ++ effect_rows op (effect_of old.files request reply)) new cached target (boundary_advance_turned world_boundary raise cached (Some reply))
  raise_serves failed rows old new cached op target (raising.Looks t) request reply k k' room h asks s honest = cc
  raise_serves failed rows old new cached op target (raising.Reads t again read) request reply k k' room h asks s honest =
      let quiet = getting_quiet rows old cached 0 ⊥ request (reading_asks rows old cached 0 ⊥ read request h.1 asks) in
      let turn = boundary_turned read cached (Some reply) in
      subst (λ (rs : List (PlainRow T)). RaiseTells rs new cached target (advance_read world_boundary t again turn)) (sym (quiet_rows rows op old.files request reply quiet))
      (raise_reads rows new cached target t again turn h.0 (reading_serves failed rows old new cached 0 ⊥ read request reply k h.1 asks s honest))
  raise_serves failed rows old new cached op target (raising.Puts t put) request reply k k' room h asks s honest =
      let is : request ≡ raise target h.1.token = sym (same_Some put request asks) ∙ h.1.asks in
      raise_tells failed (rows ++ effect_rows op (effect_of old.files request reply)) old new cached target t h.1.token (raising.Puts t put) reply k' (room_small failed rows old target k room) h.0 (subst (λ (r : Request). Serves r old reply new) is s) honest
  raise_serves failed rows old new cached op target (raising.Keeps t token) request reply k k' room h asks s honest = cc
