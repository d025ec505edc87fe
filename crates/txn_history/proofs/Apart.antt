-- The boundary's file is no version's, and what that makes of the requests for either.
use Rattle.std.proofs.Common.{◌≡◌, ◌≢◌, nat_eq, ℕ, ◌<◌, ◌^◌, List, Bool, true, false, cond, Option, Some, None, refl, sym, ◌∙◌, ap}
use Rattle.std.specs.Option.{option_map}
use Rattle.std.specs.Fmt.{decimal}
use Rattle.std.specs.Ordering.{eq_by_cmp, is_eq, nat_cmp}
use Rattle.std.specs.Cmp.Lexicographic.{pointwise, slice_cmp, lists_ties, texts_ties}
use Rattle.std.specs.Cmp.{tied_itself}
use Rattle.std.specs.declared.cmp.Ordering.{Ordering}
use Rattle.std.specs.declared.cmp.Ordering.TheVariants.{Less, Equal, Greater}
use Rattle.txn_store.specs.Paths.{Segments, path_cmp}
use Rattle.txn_store.specs.VersionName.{version_path}
use Rattle.txn_store.specs.VersionOf.{version_of}
use Rattle.txn_store.specs.declared.store.PutMode.{PutMode}
use Rattle.txn_store.specs.declared.request.Request.TheVariants as requests
use Rattle.txn_store.proofs.FileLemmas.{path_cmp_total, path_cmp-IsAntisymmetric}
use Rattle.txn_store.proofs.VersionOfLemmas.{version_of_path, path_of_version}
use Rattle.txn_store.specs.types.BoundaryText.{boundary_read}
use Rattle.txn_store.proofs.types.BoundaryLemmas.{read_decimal_text}
use Rattle.txn_history.specs.Names.{world_names, world_boundary}
use Rattle.txn_history.specs.History.{is_boundary, created, raised, removed}

pub apart : (n : ℕ) → world_boundary ≢ version_path world_names n
unfolding world_names world_boundary
apart n e = cc

no_version : (found : Option ℕ) → version_of world_names world_boundary ≡ found → found ≡ None
no_version None e = refl
no_version (Some n) e = absurd (apart n (path_of_version world_names world_boundary n e).0)

pub boundary_no_version : version_of world_names world_boundary ≡ None
boundary_no_version = no_version (version_of world_names world_boundary) refl

pub is_itself : is_boundary world_boundary ≡ true
is_itself = ap is_eq (tied_itself path_cmp_total world_boundary)

-- two paths that are tied in the order are one
pub tied_path : (q p : Segments) → eq_by_cmp path_cmp q p ≡ true → q ≡ p
tied_path q p h = by (path_cmp q p) refl h
  where
    by : (r : Ordering) → path_cmp q p ≡ r → is_eq r ≡ true → q ≡ p
    by Less e h = cc
    by Equal e h = path_cmp-IsAntisymmetric q p e
    by Greater e h = cc

pub is_boundary_path : (path : Segments) → is_boundary path ≡ true → path ≡ world_boundary
is_boundary_path path h = tied_path path world_boundary h

other : (path : Segments) (b : Bool) → is_boundary path ≡ b → world_boundary ≢ path → b ≡ false
other path true e h = absurd (h (sym (is_boundary_path path e)))
other path false e h = refl

-- the code's test of a path for the boundary's
pub same_path : (path file : Segments) → file ≡ world_boundary → (test : Bool) → test ≡ pointwise (pointwise nat_eq) path file → is_boundary path ≡ test
same_path path file is test e = sym (e ∙ (ap (pointwise (pointwise nat_eq) path) is ∙ lists_ties (slice_cmp nat_cmp) texts_ties path world_boundary))

-- what a create of a version, a put of the boundary and a removal of a version do to the names

pub created_is : (id : ℕ) (bytes : List ℕ) (mode : PutMode) → id < 2 ^ 64 → created (requests.Put (version_path world_names id) bytes mode) ≡ Some (id, bytes)
created_is id bytes mode fits = ap (option_map (λ n. (n, bytes))) (version_of_path world_names id fits)

pub raise_creates : (bytes : List ℕ) (mode : PutMode) → created (requests.Put world_boundary bytes mode) ≡ None
raise_creates bytes mode = ap (option_map (λ n. (n, bytes))) boundary_no_version

pub raised_is : (to : ℕ) (mode : PutMode) → to < 2 ^ 64 → raised (requests.Put world_boundary (decimal to) mode) ≡ Some to
raised_is to mode fits = ap (λ (b : Bool). cond b (boundary_read (decimal to)) None) is_itself ∙ read_decimal_text to fits

pub removed_is : (id : ℕ) → id < 2 ^ 64 → removed (requests.Delete (version_path world_names id)) ≡ Some id
removed_is id fits = version_of_path world_names id fits
