-- What stands beside a trace, after one more row.
use Rattle.std.proofs.Common.{◌≡◌, ℕ, zero, suc, ◌-◌, ◌||◌, ◌==◌, nat_eq, nat_lt, List, [], ◌∷◌, ◌++◌, map, slice_get, get_or, Bool, true, false, cond, Option, Some, None, refl, sym, ◌∙◌, ap, subst, arith}
use Rattle.std.specs.List.{list_any}
use Rattle.std.specs.Option.{option_map}
use Rattle.std.specs.FinMap.{get-empty}
use Rattle.std.proofs.lemmas.List.{map-append}
use Rattle.std.proofs.lemmas.List.Folds.{list_any-append}
use Rattle.std.proofs.Math.Bool.{or-false}
use Rattle.txn_store.specs.Paths.{path_cmp}
use Rattle.txn_store.specs.declared.request.Request.{Request}
use Rattle.txn_store.specs.declared.request.Request.TheVariants as requests
use Rattle.txn_history.specs.declared.event.Call.{Call}
use Rattle.txn_history.specs.declared.event.Answer.{Answer}
use Rattle.txn_history.specs.Trace.{Row}
use Rattle.txn_history.specs.declared.trace.RowOf.TheVariants.{Effect, Begun, Answered}
use Rattle.txn_history.specs.Names.{world_boundary}
use Rattle.txn_history.specs.History.{Version, is_id, removed, created, has_id, with_version, versions_of, boundary_said, boundary, erases, was_erased, epoch_in, epoch_at}
use Rattle.txn_history.specs.Calls.{tells_id, tells, was_told, is_below_told}
use Rattle.txn_history.proofs.Rows.{stored-more, boundary-same, versions_of-more}
use Rattle.txn_history.proofs.Fronts as fronts
use Rattle.txn_machine.specs.traces.Beside.{boundary_after, is_among, epoch_read, epochs_of, epoch_made}

any_one : {A : Type 0} (p : A → Bool) (xs : List A) (x : A) → list_any p (xs ++ x ∷ []) ≡ (list_any p xs || p x)
any_one p xs x = list_any-append p xs (x ∷ []) ∙ ap (λ b. list_any p xs || b) (or-false (p x))

any_quiet : {A : Type 0} (p : A → Bool) (xs : List A) (x : A) → p x ≡ false → list_any p (xs ++ x ∷ []) ≡ list_any p xs
any_quiet p xs x none = any_one p xs x ∙ (ap (λ b. list_any p xs || b) none ∙ or-false (list_any p xs))

-- a version's id beside those that are there

in_or : (b c : Bool) → (c ≡ true → b ≡ true) → (b || c) ≡ b
in_or true c h = refl
in_or false true h = sym (h refl)
in_or false false h = refl

with_known : (versions : List Version) (version : Version) (b : Bool) (n : ℕ) → has_id versions version.0 ≡ b → has_id (cond b versions (versions ++ version ∷ [])) n ≡ (has_id versions n || (version.0 == n))
with_known versions version false n e = any_one (λ (v : Version). v.0 == n) versions version
with_known versions version true n e = sym (in_or (has_id versions n) (version.0 == n) (λ same. subst (λ (m : ℕ). has_id versions m ≡ true) (fronts_eq version.0 n same) e))
  where
    fronts_eq : (m n : ℕ) → (m == n) ≡ true → m ≡ n
    fronts_eq m n e = grind arith

-- the ids of the versions, with one more
pub has_with : (versions : List Version) (found : Option Version) (n : ℕ) → has_id (with_version versions found) n ≡ (has_id versions n || is_id n (option_map (λ version. version.0) found))
has_with versions None n = sym (or-false (has_id versions n))
has_with versions (Some version) n = with_known versions version (has_id versions version.0) n refl

module _ {T : Type 0} (decode : List ℕ → Option T) (get_epoch : T → ℕ) where
  with_epoch : (versions : List Version) (version : Version) (b : Bool) → epochs_of decode get_epoch (cond b versions (versions ++ version ∷ [])) ≡ cond b (epochs_of decode get_epoch versions) (epochs_of decode get_epoch versions ++ epoch_read decode get_epoch version.1 ∷ [])
  with_epoch versions version true = refl
  with_epoch versions version false = map-append (λ (v : Version). epoch_read decode get_epoch v.1) versions (version ∷ [])

  -- the epochs of the versions, with one more
  pub epochs_with : (versions : List Version) (found : Option Version) → epochs_of decode get_epoch (with_version versions found) ≡ cond (is_among (has_id versions) (option_map (λ version. version.0) found)) (epochs_of decode get_epoch versions) (epochs_of decode get_epoch versions ++ epoch_made decode get_epoch found ∷ [])
  epochs_with versions None = refl
  epochs_with versions (Some version) = with_epoch versions version (has_id versions version.0)

  epoch_of_version : (versions : List Version) (k : ℕ) → get_or (epochs_of decode get_epoch versions) k 0 ≡ epoch_in get_epoch (slice_get (map (λ (v : Version). decode v.1) versions) k)
  epoch_of_version [] k = refl
  epoch_of_version (v ∷ versions) zero = refl
  epoch_of_version (v ∷ versions) (suc k) = epoch_of_version versions k

  -- an epoch that is looked up
  pub epoch_found : (rows : List (Row T)) (epochs : List ℕ) (n epoch : ℕ) → epochs ≡ epochs_of decode get_epoch (versions_of rows) → (n ≡ 0 → ⊥) → epoch ≡ get_or epochs (n - 1) 0 → epoch ≡ epoch_at decode get_epoch rows n
  epoch_found rows epochs zero epoch e some is = absurd (some refl)
  epoch_found rows epochs (suc n) epoch e some is =
      let place : suc n - 1 ≡ n = omega arith in
      is ∙ (ap (λ k. get_or epochs k 0) place ∙ (ap (λ (es : List ℕ). get_or es n 0) e ∙ epoch_of_version (versions_of rows) n))

is_among_same : (has other : ℕ → Bool) (id : Option ℕ) → ((n : ℕ) → has n ≡ other n) → is_among has id ≡ is_among other id
is_among_same has other None same = refl
is_among_same has other (Some id) same = same id

module _ {T : Type 0} where
  -- a begin leaves all that stands beside the trace

  pub begun_told : (rows : List (Row T)) (op : ℕ) (call : Call T) (n : ℕ) → was_told (rows ++ Begun op call ∷ []) n ≡ was_told rows n
  begun_told rows op call n = any_quiet (tells (nat_eq n)) rows (Begun op call) refl

  pub begun_below : (rows : List (Row T)) (op : ℕ) (call : Call T) (n : ℕ) → is_below_told (rows ++ Begun op call ∷ []) n ≡ is_below_told rows n
  begun_below rows op call n = any_quiet (tells (nat_lt n)) rows (Begun op call) refl

  pub begun_reached : (rows : List (Row T)) (op : ℕ) (call : Call T) → boundary (rows ++ Begun op call ∷ []) ≡ boundary rows
  begun_reached rows op call = boundary-same rows (Begun op call) (stored-more rows (Begun op call))

  pub begun_erased : (rows : List (Row T)) (op : ℕ) (call : Call T) (n : ℕ) → was_erased (rows ++ Begun op call ∷ []) n ≡ was_erased rows n
  begun_erased rows op call n = any_quiet (erases n) rows (Begun op call) refl

  -- an answer may tell ids

  pub answered_told : (rows : List (Row T)) (op : ℕ) (answer : Answer T) (n : ℕ) → was_told (rows ++ Answered op answer ∷ []) n ≡ (was_told rows n || tells_id (nat_eq n) answer)
  answered_told rows op answer n = any_one (tells (nat_eq n)) rows (Answered op answer)

  pub answered_below : (rows : List (Row T)) (op : ℕ) (answer : Answer T) (n : ℕ) → is_below_told (rows ++ Answered op answer ∷ []) n ≡ (is_below_told rows n || tells_id (nat_lt n) answer)
  answered_below rows op answer n = any_one (tells (nat_lt n)) rows (Answered op answer)

  pub answered_reached : (rows : List (Row T)) (op : ℕ) (answer : Answer T) → boundary (rows ++ Answered op answer ∷ []) ≡ boundary rows
  answered_reached rows op answer = boundary-same rows (Answered op answer) (stored-more rows (Answered op answer))

  pub answered_erased : (rows : List (Row T)) (op : ℕ) (answer : Answer T) (n : ℕ) → was_erased (rows ++ Answered op answer ∷ []) n ≡ was_erased rows n
  answered_erased rows op answer n = any_quiet (erases n) rows (Answered op answer) refl

  -- an effect may put the boundary, remove a name, or create a version

  pub effect_told : (rows : List (Row T)) (op : ℕ) (request : Request) (n : ℕ) → was_told (rows ++ Effect op request ∷ []) n ≡ was_told rows n
  effect_told rows op request n = any_quiet (tells (nat_eq n)) rows (Effect op request) refl

  pub effect_below : (rows : List (Row T)) (op : ℕ) (request : Request) (n : ℕ) → is_below_told (rows ++ Effect op request ∷ []) n ≡ is_below_told rows n
  effect_below rows op request n = any_quiet (tells (nat_lt n)) rows (Effect op request) refl

  pub effect_erased : (rows : List (Row T)) (op : ℕ) (request : Request) (n : ℕ) → was_erased (rows ++ Effect op request ∷ []) n ≡ (was_erased rows n || is_id n (removed request))
  effect_erased rows op request n = any_one (erases n) rows (Effect op request)

  pub effect_reached : (rows : List (Row T)) (op : ℕ) (request : Request) → boundary (rows ++ Effect op request ∷ []) ≡ boundary_after (boundary rows) request
  effect_reached rows op (requests.Put path bytes mode) = fronts.effect_reached rows op (requests.Put path bytes mode)
  effect_reached rows op (requests.Get path known) = fronts.effect_reached rows op (requests.Get path known)
  effect_reached rows op (requests.List prefix after limit) = fronts.effect_reached rows op (requests.List prefix after limit)
  effect_reached rows op (requests.Delete path) = fronts.effect_reached rows op (requests.Delete path)

  pub effect_created : (rows : List (Row T)) (op : ℕ) (request : Request) (n : ℕ) → has_id (versions_of (rows ++ Effect op request ∷ [])) n ≡ (has_id (versions_of rows) n || is_id n (option_map (λ version. version.0) (created request)))
  effect_created rows op request n = ap (λ (vs : List Version). has_id vs n) (versions_of-more rows (Effect op request)) ∙ has_with (versions_of rows) (created request) n

-- the epochs after an effect, as they are entered
pub effect_epochs : {T : Type 0} (decode : List ℕ → Option T) (get_epoch : T → ℕ) (rows : List (Row T)) (op : ℕ) (request : Request) (has : ℕ → Bool) (epochs new : List ℕ) (id : Option ℕ) (epoch : ℕ) →
    ((n : ℕ) → has n ≡ has_id (versions_of rows) n) → epochs ≡ epochs_of decode get_epoch (versions_of rows) → id ≡ option_map (λ version. version.0) (created request) → epoch ≡ epoch_made decode get_epoch (created request) →
    new ≡ cond (is_among has id) epochs (epochs ++ epoch ∷ []) → new ≡ epochs_of decode get_epoch (versions_of (rows ++ Effect op request ∷ []))
effect_epochs decode get_epoch rows op request has epochs new id epoch same all is made e =
    let test : is_among has id ≡ is_among (has_id (versions_of rows)) (option_map (λ version. version.0) (created request)) = is_among_same has (has_id (versions_of rows)) id same ∙ ap (is_among (has_id (versions_of rows))) is in
    e ∙ (ap (λ b. cond b epochs (epochs ++ epoch ∷ [])) test
    ∙ (ap (λ (es : List ℕ). cond (is_among (has_id (versions_of rows)) (option_map (λ version. version.0) (created request))) es (es ++ epoch ∷ [])) all
    ∙ (ap (λ (m : ℕ). cond (is_among (has_id (versions_of rows)) (option_map (λ version. version.0) (created request))) (epochs_of decode get_epoch (versions_of rows)) (epochs_of decode get_epoch (versions_of rows) ++ m ∷ [])) made
    ∙ (sym (epochs_with decode get_epoch (versions_of rows) (created request)) ∙ ap (epochs_of decode get_epoch) (sym (versions_of-more rows (Effect op request)))))))

-- no row, and nothing reached
pub none_reached : (T : Type 0) → boundary {C = Call T} {A = Answer T} [] ≡ 0
none_reached T = ap boundary_said (get-empty path_cmp world_boundary)

-- an empty set has nothing
pub none_kept : (keys : List ℕ) (n : ℕ) → keys ≡ [] → list_any (λ k. n == k) keys ≡ false
none_kept keys n e = ap (list_any (λ k. n == k)) e
