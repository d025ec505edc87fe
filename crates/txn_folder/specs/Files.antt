-- The names of an object's files in a folder of a file system, each as its bytes.
use Rattle.std.specs.Prelude.{◌≡◌, ◌≢◌, ℕ, ◌<◌, ◌^◌, true, List, ◌∷◌, ◌++◌, length, slice_index, codes}
use Rattle.txn_store.specs.Paths.{is_plain}
use Rattle.txn_store.specs.Digits.{padded}
use Rattle.txn_store.specs.VersionName.{is_suffix, version_name}

-- the folder below which the files lie, the object's name, and the suffix of its versions
pub record ObjectFiles : Type 0 where
  pub root : List ℕ
  pub name : List ℕ
  pub suffix : List ℕ

-- <root>/<name>
abbrev pub versions_folder : ObjectFiles → List ℕ
versions_folder o = o.root ++ 47 ∷ o.name

-- <root>/gc
abbrev pub gc_folder : ObjectFiles → List ℕ
gc_folder o = o.root ++ codes "/gc"

-- <name>.boundary
abbrev pub boundary_name : ObjectFiles → List ℕ
boundary_name o = o.name ++ codes ".boundary"

-- <root>/gc/<name>.boundary
abbrev pub boundary_file : ObjectFiles → List ℕ
boundary_file o = gc_folder o ++ 47 ∷ boundary_name o

-- <root>/<name>/<n in 20 digits>.<suffix>
abbrev pub version_file : ObjectFiles → ℕ → List ℕ
version_file o n = versions_folder o ++ 47 ∷ version_name o.suffix n

-- a text without `#`
abbrev pub HasNoHash : List ℕ → Type 0
HasNoHash text = (i : ℕ) → i < length text → slice_index text i ≢ 35

-- A temporary name of a file: the file's name, which has no `#`, a `#` and a number in twenty digits.
pub record IsTemporaryOf (file name : List ℕ) : Type 0 where
  pub plain : HasNoHash file
  pub number : ℕ
  pub fits : number < 2 ^ 64
  pub name_is : name ≡ file ++ 35 ∷ padded number

-- How the texts are kept: the name is a plain segment, the suffix one without a dot, and each text is what it is called.
pub record AreKept (o : ObjectFiles) (versions gc boundary : List ℕ) : Type 0 where
  pub name : is_plain o.name ≡ true
  pub suffix : is_suffix o.suffix ≡ true
  pub versions_is : versions ≡ versions_folder o
  pub gc_is : gc ≡ gc_folder o
  pub boundary_is : boundary ≡ boundary_file o
