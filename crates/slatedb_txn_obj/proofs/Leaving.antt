-- What calls leave of the files, one after another.
use Rattle.std.proofs.Common.{◌≡◌, ℕ, ◌+◌, List, Contains, Option, Some, None, Result, Ok, Err, refl, sym, ap, subst, ◌∙◌, inl, inr}
use Rattle.std.specs.FinMap as map
use Rattle.txn_store.specs.Paths.{Segments}
use Rattle.txn_store.specs.VersionName.{Names, version_path}
use Rattle.txn_store.specs.Store.{Files, State, Kept}
use Rattle.txn_store.specs.declared.store.StoreError.TheVariants as errors
use Rattle.txn_store.proofs.FileLemmas.{get-insert_other, get-remove_other}
use Rattle.txn_store.specs.declared.types.error.TransactionalObjectError.{TransactionalObjectError}
use Rattle.txn_store.specs.declared.types.error.TransactionalObjectError.TheVariants as kinds
use Rattle.txn_steps.specs.declared.boundary.caches.Cached.{Cached}
use Rattle.txn_steps_driven.specs.WriteRuns.{WriteLeaves, Written}
use Rattle.txn_steps_driven.specs.RemovalRuns.{DeleteLeaves, Deleted}
use Rattle.slatedb_txn_obj.specs.Leaves.{KeepsTokens, SameFiles, KeepsFiles, MayCreate, MayRemove, LeavesOthers, SameOwn, AreApart}
use Rattle.slatedb_txn_obj.specs.Protocol.{base_number}
use Rattle.slatedb_txn_obj.proofs.Wholes.{base_is}

pub same-refl : (s : State) → SameFiles s s
same-refl s = record { files = refl; given = λ token there. there }

pub same-kept : {old new : State} → Kept old new → SameFiles old new
same-kept kept = record { files = kept.files; given = λ token there. subst (λ (given : List ℕ). Contains given token) (sym kept.given) there }

pub same-trans : {a b c : State} → SameFiles a b → SameFiles b c → SameFiles a c
same-trans first second = record { files = second.files ∙ first.files; given = λ token there. second.given token (first.given token there) }

-- a call that changes no file, before and after one that creates or removes one
module _ {path : Segments} {a b c : State} where
  pub create-same : MayCreate path a b → SameFiles b c → MayCreate path a c
  create-same (inl same) next = inl (same-trans same next)
  create-same (inr created) next = inr (record { free = created.free; file = created.file; files = next.files ∙ created.files; given = λ token there. next.given token (created.given token there) })

  pub same-remove : SameFiles a b → MayRemove path b c → MayRemove path a c
  same-remove first (inl same) = inl (same-trans first same)
  same-remove first (inr removed) = inr (record { files = removed.files ∙ ap (λ (files : Files). map.remove files path) first.files; given = λ token there. removed.given token (first.given token there) })

-- each file that stood stands, also after a call that changes none, or creates one
pub keeps-same : (a b c : State) → KeepsFiles a b → SameFiles b c → KeepsFiles a c
keeps-same a b c keeps same = record { stays = λ path got there. ap (λ (files : Files). map.get files path) same.files ∙ keeps.stays path got there }

pub keeps-create : (a b c : State) (path : Segments) → KeepsFiles a b → MayCreate path b c → KeepsFiles a c
keeps-create a b c path keeps (inl same) = keeps-same a b c keeps same
keeps-create a b c path keeps (inr created) = record { stays = λ at got there. ap (λ (files : Files). map.get files at) created.files ∙ (get-insert_other b.files path at created.file (apart at got there) ∙ keeps.stays at got there) }
  where
    apart : (at : Segments) (got : _) → map.get a.files at ≡ Some got → at ≡ path → ⊥
    apart at got there is = (let clash : None ≡ Some got = sym created.free ∙ (ap (map.get b.files) (sym is) ∙ keeps.stays at got there) in cc)

-- only files of one's own change
module _ {own : Segments → Type 0} where
  pub others-refl : (s : State) → LeavesOthers own s s
  others-refl s = record { others = λ path other. refl; given = λ token there. there }

  pub others-trans : {a b c : State} → LeavesOthers own a b → LeavesOthers own b c → LeavesOthers own a c
  others-trans first second = record { others = λ path other. second.others path other ∙ first.others path other; given = λ token there. second.given token (first.given token there) }

  pub others-same : {a b : State} → SameFiles a b → LeavesOthers own a b
  others-same same = record { others = λ path other. ap (λ (files : Files). map.get files path) same.files; given = same.given }

  pub others-create : {a b : State} (path : Segments) → own path → MayCreate path a b → LeavesOthers own a b
  others-create path its (inl same) = others-same same
  others-create {a} path its (inr created) = record {
    others = λ at other. ap (λ (files : Files). map.get files at) created.files ∙ get-insert_other a.files path at created.file (λ is. other (subst own (sym is) its));
    given = created.given;
  }

  pub others-remove : {a b : State} (path : Segments) → own path → MayRemove path a b → LeavesOthers own a b
  others-remove path its (inl same) = others-same same
  others-remove {a} path its (inr removed) = record {
    others = λ at other. ap (λ (files : Files). map.get files at) removed.files ∙ get-remove_other a.files path at (λ is. other (subst own (sym is) its));
    given = removed.given;
  }

-- a write by a protocol whose files lie where they lay
pub others-placed : {Place : Type 0} (owns : Place → Segments → Type 0) (file : Place → ℕ → Segments) → ((at : Place) (n : ℕ) → owns at (file at n)) → {at at' : Place} {a b c : State} (n : ℕ) → at' ≡ at → LeavesOthers (owns at) a b → MayCreate (file at' n) b c → LeavesOthers (owns at) a c
others-placed owns file its {at' = at'} n same before creates = others-trans before (others-create (file at' n) (subst (λ p. owns p (file at' n)) same (its at' n)) creates)

-- so another's files are as they were, where the two have none in common
pub own-apart : {own own' : Segments → Type 0} {a b : State} → AreApart own own' → LeavesOthers own a b → SameOwn own' a b
own-apart apart leaves = record { same = λ path its. leaves.others path (λ mine. apart path mine its); given = leaves.given }

-- what a write and a delete of a version do to its file
module _ (path : Segments) (old new : State) (latest latest' : List Cached) (given : KeepsTokens old new) where
  created-as : (bytes : List ℕ) (id : ℕ) (result : Result ℕ TransactionalObjectError) → WriteLeaves path bytes id old new latest latest' result → MayCreate path old new
  created-as bytes id (Ok n) leaves = inr (record { free = leaves.1.free; file = record { bytes = bytes; token = leaves.1.token }; files = leaves.1.placed.files; given = given })
  created-as bytes id (Err (kinds.ObjectStoreError errors.Failed)) (inl kept, held) = inl (same-kept kept)
  created-as bytes id (Err (kinds.ObjectStoreError errors.Failed)) (inr created, held) = inr (record { free = created.free; file = record { bytes = bytes; token = created.token }; files = created.placed.files; given = given })
  created-as bytes id (Err kinds.IdExhausted) leaves = inl (record { files = ap (λ (s : State). s.files) leaves.0; given = given })
  created-as bytes id (Err error) leaves = inl (same-kept leaves.0)

  removed-as : (id : ℕ) (result : Result (Unit {0}) TransactionalObjectError) → DeleteLeaves path id old new latest latest' result → MayRemove path old new
  removed-as id (Ok done) leaves = inr (record { files = leaves.0.files; given = given })
  removed-as id (Err (kinds.ObjectStoreError errors.Failed)) (inl kept, held) = inl (same-kept kept)
  removed-as id (Err (kinds.ObjectStoreError errors.Failed)) (inr removed, held) = inr (record { files = removed.files; given = given })
  removed-as id (Err error) leaves = inl (same-kept leaves.0)

module _ {T : Type 0} {names : Names} {decode : List ℕ → Option T} {old new : State} {latest latest' : List Cached} where
  pub written-creates : {bytes : List ℕ} {value : T} (base : Option ℕ) (result : Result ℕ TransactionalObjectError) → Written names decode base bytes value old new latest latest' result → MayCreate (version_path names (base_number (λ n. n) base + 1)) old new
  written-creates {bytes} base result written = rw (base_is base) (created-as _ old new latest latest' written.given bytes _ result written.ends.leaves)

  -- a name that is taken is left
  pub written-stood : {bytes : List ℕ} {value : T} {base : Option ℕ} (result : Result ℕ TransactionalObjectError) → Written names decode base bytes value old new latest latest' result → result ≡ Err kinds.ObjectVersionExists → SameFiles old new
  written-stood {bytes} {value} {base} result written is =
      let told : Written names decode base bytes value old new latest latest' (Err kinds.ObjectVersionExists) = subst (λ (r : Result ℕ TransactionalObjectError). Written names decode base bytes value old new latest latest' r) is written in same-kept told.ends.leaves.0

  pub deleted-removes : (id : ℕ) (result : Result (Unit {0}) TransactionalObjectError) → Deleted names decode id old new latest latest' result → MayRemove (version_path names id) old new
  deleted-removes id result deleted = removed-as _ old new latest latest' deleted.ends.given id result deleted.ends.leaves
