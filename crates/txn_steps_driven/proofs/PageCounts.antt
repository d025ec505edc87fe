-- How many pages a listing has, after a file was added.
use Rattle.std.proofs.Common.{◌≡◌, ℕ, ◌+◌, ◌*◌, ◌<◌, ◌≤◌, ◌&&◌, Bool, List, [], ◌∷◌, length, map, filter, Option, None, sym, subst, inl, inr, arith}
use Rattle.std.specs.Int.{div_ceil}
use Rattle.std.specs.FinMap.{entries, insert, entries-insert}
use Rattle.std.specs.FinMap.Entries.{by_order, put}
use Rattle.std.specs.declared.cmp.Ordering.{Ordering}
use Rattle.std.specs.declared.cmp.Ordering.TheVariants.{Less, Equal, Greater}
use Rattle.std.proofs.lemmas.Bool.{cases_Bool}
use Rattle.std.proofs.lemmas.Grind.{div_ceil_times}
use Rattle.std.proofs.Math.Nat.{lt_of_mul-lt-mul_right}
use Rattle.txn_store.specs.Paths.{Segments, path_cmp, is_below}
use Rattle.txn_store.specs.VersionName.{Names, version_path}
use Rattle.txn_store.specs.Store.{Files, meta_of, is_above}
use Rattle.txn_store.specs.declared.store.Got.{Got}
use Rattle.txn_store.proofs.FileLemmas.{path_cmp_total}
use Rattle.txn_store.specs.Store.{State, Kept}
use Rattle.txn_store.specs.declared.store.StoreError.TheVariants as errors
use Rattle.txn_store.specs.declared.types.error.TransactionalObjectError.{TransactionalObjectError}
use Rattle.txn_store.specs.declared.types.error.TransactionalObjectError.TheVariants as kinds
use Rattle.txn_steps.specs.declared.boundary.caches.Cached.{Cached}
use Rattle.std.specs.Prelude.{Result, Ok, Err}
use Rattle.txn_steps_driven.specs.WriteRuns.{Creates, WriteLeaves, Written}
use Rattle.txn_store.specs.types.Numbers.{number_of}
use Rattle.txn_steps_driven.specs.PageCount.{page_count, pages_below}

-- one file more makes at most one page more
quotient_grows : (page n n' : ℕ) → 1 ≤ page → n' ≤ n + 1 → div_ceil n' page < div_ceil n page + 2
quotient_grows page n n' room le =
    let old = (div_ceil_times n page room).0 in
    let new = (div_ceil_times n' page room).1 in
    let twice : (div_ceil n page + 2) * page ≡ div_ceil n page * page + page + page = grind arith in
    let lt : div_ceil n' page * page < (div_ceil n page + 2) * page = omega (arith, old, new, twice, le, room) in
    lt_of_mul-lt-mul_right page lt

page_grows : (page n n' : ℕ) → 1 ≤ page → n' ≤ n + 1 → page_count page n' ≤ page_count page n + 1
page_grows page n n' room le = let less = quotient_grows page n n' room le in omega (arith, less)

-- the entries whose paths pass a test, with one more entry
module _ (test : Segments → Bool) where
  passing : List (Segments × Got) → ℕ
  passing es = length (map meta_of (filter (λ e. test e.0) es))

  one_more : (e : Segments × Got) (es : List (Segments × Got)) → passing (e ∷ es) ≤ passing es + 1
  unfolding passing
  one_more e es = elim (cases_Bool (test e.0)) [ inl is ↦ rw is (omega arith) | inr out ↦ rw out (omega arith) ]

  same_front : (e : Segments × Got) (es fs : List (Segments × Got)) → passing fs ≤ passing es + 1 → passing (e ∷ fs) ≤ passing (e ∷ es) + 1
  unfolding passing
  same_front e es fs le = elim (cases_Bool (test e.0)) [ inl is ↦ rw is (omega (arith, le)) | inr out ↦ rw out le ]

  same_key : (path : Segments) (old new : Got) (es : List (Segments × Got)) → passing ((path, new) ∷ es) ≤ passing ((path, old) ∷ es) + 1
  unfolding passing
  same_key path old new es = elim (cases_Bool (test path)) [ inl is ↦ rw is (omega arith) | inr out ↦ rw out (omega arith) ]

  put_by : (path : Segments) (got : Got) (e : Segments × Got) (es : List (Segments × Got)) (o : Ordering) → passing (put path_cmp path got es) ≤ passing es + 1 → passing (by_order o ((path, got) ∷ e ∷ es) ((e.0, got) ∷ es) (e ∷ put path_cmp path got es)) ≤ passing (e ∷ es) + 1
  put_by path got e es Less le = one_more (path, got) (e ∷ es)
  put_by path got e es Equal le = same_key e.0 e.1 got es
  put_by path got e es Greater le = same_front e es (put path_cmp path got es) le

  put_adds : (path : Segments) (got : Got) (es : List (Segments × Got)) → passing (put path_cmp path got es) ≤ passing es + 1
  put_adds path got [] = one_more (path, got) []
  put_adds path got (e ∷ es) = put_by path got e es (path_cmp path e.0) (put_adds path got es)

  inserted_adds : (files : Files) (path : Segments) (got : Got) → passing (entries (insert files path got)) ≤ passing (entries files) + 1
  inserted_adds files path got = subst (λ es. passing es ≤ passing (entries files) + 1) (sym (entries-insert path_cmp_total files path got)) (put_adds path got (entries files))

pub pages_grow : (names : Names) (page : ℕ) (files : Files) (path : Segments) (got : Got) → 1 ≤ page → pages_below names page (insert files path got) ≤ pages_below names page files + 1
unfolding passing
pages_grow names page files path got room =
    page_grows page _ _ room (inserted_adds (λ q. is_below names.dir q && is_above None q) files path got)

-- what a write leaves of them
module _ (names : Names) (page : ℕ) (path : Segments) (bytes : List ℕ) (id : ℕ) (old new : State) (latest latest' : List Cached) (room : 1 ≤ page) where
  same : Kept old new → pages_below names page new.files ≤ pages_below names page old.files + 1
  same kept = rw kept.files (omega arith)

  more : Creates path bytes old new → pages_below names page new.files ≤ pages_below names page old.files + 1
  more creates = rw creates.placed.files (pages_grow names page old.files path _ room)

  left_by : (result : Result ℕ TransactionalObjectError) → WriteLeaves path bytes id old new latest latest' result → pages_below names page new.files ≤ pages_below names page old.files + 1
  left_by (Ok n) left = more left.1
  left_by (Err (kinds.ObjectStoreError errors.Failed)) left = elim left.0 [ inl kept ↦ same kept | inr creates ↦ more creates ]
  left_by (Err kinds.IdExhausted) left = rw left.0 (omega arith)
  left_by (Err error) left = same left.0

pub pages_written : {T : Type 0} (names : Names) (page : ℕ) (decode : List ℕ → Option T) (base : Option ℕ) (bytes : List ℕ) (value : T) (old new : State) (latest latest' : List Cached) (result : Result ℕ TransactionalObjectError) → 1 ≤ page → Written names decode base bytes value old new latest latest' result → pages_below names page new.files ≤ pages_below names page old.files + 1
pages_written names page decode base bytes value old new latest latest' result room written =
    left_by names page (version_path names (number_of base + 1)) bytes (number_of base + 1) old new latest latest' room result written.ends.leaves
