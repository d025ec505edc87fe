-- What a put of a boundary does, by the store's contract alone.
use Rattle.std.proofs.Common.{◌≡◌, ℕ, ◌+◌, ◌<◌, ◌≤◌, ◌==◌, ◌∷◌, [], Bool, true, false, cond, Option, Some, None, Result, Ok, Err, IfOk, IfErr, Contains, refl, sym, ap, subst, ◌∙◌, inl, inr, arith, eq-eqb}
use Rattle.std.proofs.lemmas.Bool.{eqb-true}
use Rattle.std.proofs.lemmas.Option.{same_Some}
use Rattle.std.proofs.lemmas.List.Elements.{Contains-append_left, Contains-append_right}
use Rattle.std.specs.FinMap as map
use Rattle.std.specs.Fmt.{decimal}
use Rattle.txn_store.specs.Paths.{Segments}
use Rattle.txn_store.specs.Store.{State, Kept, Placed, TookPut, Puts as StorePuts, PutRefused, put_fault, create_fault, update_fault}
use Rattle.txn_store.proofs.FileLemmas.{get-insert_same, get-insert_other}
use Rattle.txn_store.specs.declared.store.Got.{Got}
use Rattle.txn_store.specs.declared.store.StoreError.{StoreError}
use Rattle.txn_store.specs.declared.store.StoreError.TheVariants as errors
use Rattle.txn_store.specs.types.BoundaryText.{boundary_read}
use Rattle.txn_steps.specs.declared.boundary.caches.CachedBoundary.{CachedBoundary}
use Rattle.txn_steps.specs.boundary.Boundaries.{token_of}
use Rattle.txn_steps.specs.boundary.BoundaryAdvances.{raise_mode}
use Rattle.txn_steps_driven.specs.Standing.{FileSays, BoundaryFits, BoundaryStands}
use Rattle.txn_steps_driven.specs.BoundaryRuns.{Reads}
use Rattle.txn_steps_driven.specs.AdvanceRuns.{IsStored, Moves}
use Rattle.txn_steps_driven.specs.Checking.{Current, IsCurrent, number_of}
use Rattle.txn_steps_driven.specs.Advancing.{Written}

updated : (token : ℕ) (now : Option Got) → update_fault token now ≡ None → (got : Got) × (now ≡ Some got) × (got.token ≡ token)
updated token None e = absurd (cc)
updated token (Some g) e = by_token (g.token == token) refl e
  where
    by_token : (t : Bool) → (g.token == token) ≡ t → cond t None (Some errors.Precondition) ≡ None → (got : Got) × (Some g ≡ Some got) × (got.token ≡ token)
    by_token true is e = (g, refl, eqb-true g.token token is)
    by_token false is e = absurd (cc)

module _ (path : Segments) (old : State) (b : ℕ) where
  missing : (now : Option Got) → create_fault now ≡ None → FileSays old.given now b → b ≡ 0
  missing None allowed says = says
  missing (Some g) allowed says = absurd (cc)

  -- a put that the file allows raises the boundary
  pub raised : (target : ℕ) (cached : Option CachedBoundary) → put_fault (raise_mode (token_of cached)) (map.get old.files path) ≡ None → BoundaryStands path cached old b → number_of cached < target → b < target
  raised target None allowed stands less = let none = missing (map.get old.files path) allowed stands.says in omega (arith, none, less)
  raised target (Some known) allowed stands less =
      let u = updated known.token (map.get old.files path) allowed in
      let same : stands.fits.file ≡ u.0 = same_Some _ _ (sym stands.fits.is_file ∙ u.1) in
      let number_is = stands.fits.same (ap (λ g. g.token) same ∙ u.2) in
      omega (arith, less, number_is)

  same_token : (token : ℕ) (file : Got) → file.token ≡ token → update_fault token (Some file) ≡ None
  same_token token file same = let is : (file.token == token) ≡ true = eq-eqb file.token token same in rw is refl

  -- where the cached boundary is the file's, its put is allowed
  pub current_allows : (cached : Option CachedBoundary) → Current path cached old b → put_fault (raise_mode (token_of cached)) (map.get old.files path) ≡ None
  current_allows None at = absurd at
  current_allows (Some known) at = ap (update_fault known.token) at.fits.is_file ∙ same_token known.token at.fits.file at.token_is

stored_now : (now : Option Got) (e : StoreError) → create_fault now ≡ Some e → (got : Got) × (now ≡ Some got)
stored_now None e is = absurd (cc)
stored_now (Some got) e is = (got, refl)

-- a create that came too late found a file
pub late_stored : (path : Segments) (old new : State) (cached : Option CachedBoundary) (e : StoreError) → put_fault (raise_mode (token_of cached)) (map.get old.files path) ≡ Some e → Kept old new → cached ≡ None → IsStored path new
late_stored path old new None e fault kept is = let s = stored_now (map.get old.files path) e fault in (s.0, ap (λ f. map.get f path) kept.files ∙ s.1)
late_stored path old new (Some known) e fault kept is = absurd (cc)

-- a put is refused by the files only where it came too late
pub no_other_fault : (token : Option ℕ) (now : Option Got) (e : StoreError) → (e ≡ errors.AlreadyExists → ⊥) → (e ≡ errors.Precondition → ⊥) → put_fault (raise_mode token) now ≡ Some e → ⊥
no_other_fault None None e a p is = cc
no_other_fault None (Some g) e a p is = a (let same : errors.AlreadyExists ≡ e = cc in sym same)
no_other_fault (Some token) None e a p is = p (let same : errors.Precondition ≡ e = cc in sym same)
no_other_fault (Some token) (Some g) e a p is = by_token (g.token == token) is
  where
    by_token : (t : Bool) → cond t None (Some errors.Precondition) ≡ Some e → ⊥
    by_token true is = cc
    by_token false is = p (let same : errors.Precondition ≡ e = cc in sym same)

-- the boundary that was put stands, and what was cached fits still
module _ (path : Segments) (old new : State) (b target token : ℕ) (reads : boundary_read (decimal target) ≡ Some target) (less : b < target) (placed : Placed path (decimal target) token old new) where
  abbrev file : Got
  file = record { bytes = decimal target; token = token }

  at : map.get new.files path ≡ Some file
  at = ap (λ f. map.get f path) placed.files ∙ get-insert_same old.files path file

  still_given : (t : ℕ) → Contains old.given t → Contains new.given t
  still_given t c = subst (λ g. Contains g t) (sym placed.given) (Contains-append_left old.given (token ∷ []) t c)

  now_given : Contains new.given token
  now_given = subst (λ g. Contains g token) (sym placed.given) (Contains-append_right old.given (token ∷ []) token (0, omega arith, refl))

  put_fits : (cached : Option CachedBoundary) → BoundaryFits path old.files old.given b cached → BoundaryFits path new.files new.given target cached
  put_fits None fits = tt
  put_fits (Some known) fits = let most = fits.at_most in let given = fits.given_once in record {
    file = file;
    is_file = at;
    at_most = omega (arith, most, less);
    given_once = still_given known.token given;
    same = λ e. absurd (placed.fresh (subst (Contains old.given) (sym e) given));
  }

  pub put_stands : (cached : Option CachedBoundary) → BoundaryStands path cached old b → BoundaryStands path cached new target
  put_stands cached stands = record {
    says = subst (λ now. FileSays new.given now target) (sym at) (reads, now_given);
    fits = put_fits cached stands.fits;
  }

  pub put_current : IsCurrent path new target (record { number = target; token = token })
  put_current = record {
    number_is = refl;
    fits = record { file = file; is_file = at; at_most = omega arith; given_once = now_given; same = λ e. refl };
    token_is = refl;
  }

module _ (path : Segments) (old new : State) where
  moves_of : Kept old new → old.calls ≤ new.calls → old.failures ≤ new.failures → Moves path old new
  moves_of kept c f = let left = kept.left in record { others = λ other apart. ap (λ m. map.get m other) kept.files; given = λ t g. subst (λ l. Contains l t) (sym kept.given) g; calls_rise = c; failures_rise = f; left_falls = omega (arith, left) }

  pub read_moves : Reads old new → Moves path old new
  read_moves r = moves_of r.kept r.calls_rise r.failures_rise

  put_moved : (bytes : _) (tk : ℕ) → Placed path bytes tk old new → old.calls ≤ new.calls → old.failures ≤ new.failures → Moves path old new
  put_moved bytes tk placed c f = let left = placed.left in record {
    others = λ other apart. ap (λ m. map.get m other) placed.files ∙ get-insert_other old.files path other _ apart;
    given = λ t g. subst (λ l. Contains l t) (sym placed.given) (Contains-append_left old.given (tk ∷ []) t g);
    calls_rise = c;
    failures_rise = f;
    left_falls = omega (arith, left);
  }

  -- what a put leaves: a token at most is taken
  pub record PutLeaves (target : ℕ) : Type 0 where
    pub moves : Moves path old new
    pub written : Written path target old new
    pub least : old.left ≤ new.left + 1

  kept_leaves : (target : ℕ) → Kept old new → old.calls ≤ new.calls → old.failures ≤ new.failures → PutLeaves target
  kept_leaves target kept c f = let left = kept.left in record { written = inl (ap (λ m. map.get m path) kept.files); moves = moves_of kept c f; least = omega (arith, left) }

  placed_leaves : (target tk : ℕ) → Placed path (decimal target) tk old new → old.calls ≤ new.calls → old.failures ≤ new.failures → PutLeaves target
  placed_leaves target tk placed c f = let left = placed.left in record { written = inr (tk, ap (λ m. map.get m path) placed.files ∙ get-insert_same old.files path _, placed.fresh); moves = put_moved (decimal target) tk placed c f; least = omega (arith, left) }

  module _ (target : ℕ) (token : Option ℕ) where
    by_answer : (answer : Result ℕ StoreError) → old.calls ≤ new.calls → old.failures ≤ new.failures → IfOk answer (λ tk. Placed path (decimal target) tk old new)
        → IfErr answer (PutRefused (put_fault (raise_mode token) (map.get old.files path)) (TookPut path (decimal target) (raise_mode token) old new) old new) → PutLeaves target
    by_answer (Ok tk) c f placed err = placed_leaves target tk placed c f
    by_answer (Err errors.TokensExhausted) c f placed err = kept_leaves target err.2 c f
    by_answer (Err errors.Failed) c f placed err = elim err.1 [ inl kept ↦ kept_leaves target kept c f | inr took ↦ placed_leaves target took.token took.placed c f ]
    by_answer (Err error) c f placed err = kept_leaves target err.1 c f

    pub put_leaves : (answer : Result ℕ StoreError) → StorePuts path (decimal target) (raise_mode token) old answer new → PutLeaves target
    put_leaves answer told = let c = told.counted.calls in by_answer answer (omega (arith, c)) told.counted.failures told.placed told.err
