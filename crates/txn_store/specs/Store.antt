-- What a store stands for, and what each call may answer.
use Rattle.std.specs.Prelude.{◌≡◌, ◌⊎◌, ℕ, ◌+◌, ◌<◌, ◌≤◌, ◌==◌, ◌&&◌, if◌then◌else◌, Bool, true, nat_lt, List, [], ◌∷◌, ◌++◌, Contains, Option, Some, None, Result, IfOk, IfErr, OnOk, map, filter, take, length}
use Rattle.std.specs.Ordering.{is_lt}
use Rattle.std.specs.FinMap as finmap
use Rattle.txn_store.specs.Paths.{Segments, path_cmp, is_below}
use Rattle.txn_store.specs.declared.page.Page.{Page}
use Rattle.txn_store.specs.declared.store.Got.{Got}
use Rattle.txn_store.specs.declared.store.ObjectMeta.{ObjectMeta}
use Rattle.txn_store.specs.declared.store.PutMode.{PutMode}
use Rattle.txn_store.specs.declared.store.PutMode.TheVariants.{Create, Update, Overwrite}
use Rattle.txn_store.specs.declared.store.StoreError.{StoreError}
use Rattle.txn_store.specs.declared.store.StoreError.TheVariants.{NotFound, AlreadyExists, Precondition, NotModified, Failed, NoMemory, TokensExhausted}

-- files under their paths
abbrev pub Files : Type 0
Files = finmap.FinMap path_cmp Got

-- what a store stands for
pub record State : Type 0 where
  pub files : Files
  -- every token that was ever given
  pub given : List ℕ
  -- how many tokens are left
  pub left : ℕ
  -- how many calls were made
  pub calls : ℕ
  -- how often the store failed
  pub failures : ℕ

-- why a put is refused by the file that stands under its path
abbrev pub create_fault : Option Got → Option StoreError
create_fault None = None
create_fault (Some _) = Some AlreadyExists

abbrev pub update_fault : ℕ → Option Got → Option StoreError
update_fault t None = Some Precondition
update_fault t (Some g) = if g.token == t then None else Some Precondition

abbrev pub put_fault : PutMode → Option Got → Option StoreError
put_fault Create now = create_fault now
put_fault (Update t) now = update_fault t now
put_fault Overwrite now = None

-- why a get is refused by the file that stands under its path, where a token is known
abbrev pub match_fault : ℕ → Got → Option StoreError
match_fault t g = if g.token == t then Some NotModified else None

abbrev pub known_fault : Option ℕ → Got → Option StoreError
known_fault None g = None
known_fault (Some t) g = match_fault t g

abbrev pub get_fault : Option ℕ → Option Got → Option StoreError
get_fault known None = Some NotFound
get_fault known (Some g) = known_fault known g

-- each call is counted once
pub record Counted (old new : State) : Type 0 where
  pub calls : new.calls ≡ old.calls + 1
  pub failures : old.failures ≤ new.failures

-- nothing but the counts changed
pub record Kept (old new : State) : Type 0 where
  pub files : new.files ≡ old.files
  pub given : new.given ≡ old.given
  pub left : new.left ≡ old.left

-- the bytes stand under the path, with a token that was never given before
pub record Placed (path : Segments) (bytes : List ℕ) (token : ℕ) (old new : State) : Type 0 where
  pub files : new.files ≡ finmap.insert old.files path (record { bytes = bytes; token = token })
  pub fresh : Contains old.given token → ⊥
  pub given : new.given ≡ old.given ++ token ∷ []
  pub left : old.left ≡ new.left + 1

-- no file stands under the path
pub record Removed (path : Segments) (old new : State) : Type 0 where
  pub files : new.files ≡ finmap.remove old.files path
  pub given : new.given ≡ old.given
  pub left : new.left ≡ old.left

-- What an error of a get, a listing or a delete says. `fault` is why the files alone refuse the call, and `effect` what the call does where they do not.
abbrev pub Refused : Option StoreError → Type 0 → State → State → StoreError → Type 0
Refused fault effect old new Failed = (old.failures < new.failures) × (Kept old new ⊎ effect)
Refused fault effect old new NoMemory = (fault ≡ None) × Kept old new
Refused fault effect old new TokensExhausted = ⊥
Refused fault effect old new e = (fault ≡ Some e) × Kept old new

-- the same of a put, which wants a token
abbrev pub PutRefused : Option StoreError → Type 0 → State → State → StoreError → Type 0
PutRefused fault effect old new TokensExhausted = (fault ≡ None) × (old.left ≡ 0) × Kept old new
PutRefused fault effect old new e = Refused fault effect old new e

-- a put that the files do not refuse took effect
pub record TookPut (path : Segments) (bytes : List ℕ) (mode : PutMode) (old new : State) : Type 0 where
  pub allowed : put_fault mode (finmap.get old.files path) ≡ None
  pub token : ℕ
  pub placed : Placed path bytes token old new

-- a put, and its answer
pub record Puts (path : Segments) (bytes : List ℕ) (mode : PutMode) (old : State) (result : Result ℕ StoreError) (new : State) : Type 0 where
  pub counted : Counted old new
  pub allowed : OnOk result (put_fault mode (finmap.get old.files path) ≡ None)
  pub placed : IfOk result (λ token. Placed path bytes token old new)
  pub err : IfErr result (PutRefused (put_fault mode (finmap.get old.files path)) (TookPut path bytes mode old new) old new)

-- a get, and its answer
pub record Gets (path : Segments) (known : Option ℕ) (old : State) (result : Result Got StoreError) (new : State) : Type 0 where
  pub counted : Counted old new
  pub allowed : OnOk result (get_fault known (finmap.get old.files path) ≡ None)
  pub found : IfOk result (λ got. finmap.get old.files path ≡ Some got)
  pub kept : OnOk result (Kept old new)
  pub err : IfErr result (Refused (get_fault known (finmap.get old.files path)) ⊥ old new)

-- what a listing tells of a file
abbrev pub meta_of : Segments × Got → ObjectMeta
meta_of e = record { location = e.0; size = length e.1.bytes; token = e.1.token }

-- above a path, where one is given
abbrev pub is_above : Option Segments → Segments → Bool
is_above None path = true
is_above (Some after) path = is_lt (path_cmp after path)

-- the files below a prefix and above a path, in the order of the entries
abbrev pub listing : Segments → Option Segments → List (Segments × Got) → List ObjectMeta
listing prefix after es = map meta_of (filter (λ e. is_below prefix e.0 && is_above after e.0) es)

-- the first of these files, up to a limit, and whether another follows
abbrev pub page_of : ℕ → List ObjectMeta → Page
page_of limit metas = record { metas = take limit metas; more = nat_lt limit (length metas) }

-- a listing, and its answer: the first files below the prefix and above a path, in the order of their paths
pub record Lists (prefix : Segments) (after : Option Segments) (limit : ℕ) (old : State) (result : Result Page StoreError) (new : State) : Type 0 where
  pub counted : Counted old new
  pub listed : IfOk result (λ page. page ≡ page_of limit (listing prefix after (finmap.entries old.files)))
  pub kept : OnOk result (Kept old new)
  pub err : IfErr result (Refused None ⊥ old new)

-- a delete, and its answer
pub record Deletes (path : Segments) (old : State) (result : Result (Unit {0}) StoreError) (new : State) : Type 0 where
  pub counted : Counted old new
  pub removed : OnOk result (Removed path old new)
  pub err : IfErr result (Refused None (Removed path old new) old new)
