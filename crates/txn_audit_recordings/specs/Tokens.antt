-- Recordings whose tokens are renamed: each token of a path becomes another, the same wherever it stands, and no two become one, be they of one path or of two. All else stays.
use Rattle.std.specs.Prelude.{◌≡◌, ℕ, List, [], ◌∷◌, Option, Some, None, Ok}
use Rattle.std.specs.List.{AllZip}
use Rattle.txn_store.specs.Paths.{Segments}
use Rattle.txn_store.specs.declared.store.ObjectMeta.{ObjectMeta}
use Rattle.txn_store.specs.declared.store.PutMode.{PutMode}
use Rattle.txn_store.specs.declared.store.PutMode.TheVariants as modes
use Rattle.txn_store.specs.declared.request.Request.{Request}
use Rattle.txn_store.specs.declared.request.Request.TheVariants as requests
use Rattle.txn_store.specs.declared.request.Reply.{Reply}
use Rattle.txn_store.specs.declared.request.Reply.TheVariants as replies
use Rattle.txn_audit_recordings.specs.declared.row.RecordedRow.{RecordedRow}
use Rattle.txn_audit_recordings.specs.declared.row.RecordedRow.TheVariants as kinds

-- what each token of each path becomes, if anything
abbrev pub Renaming : Type 0
Renaming = Segments → ℕ → Option ℕ

-- No two tokens become one: not two of one path, and not those of two paths.
abbrev pub IsOneToOne : Renaming → Type 0
IsOneToOne becomes = (path other : Segments) (token second new : ℕ) → becomes path token ≡ Some new → becomes other second ≡ Some new → (path ≡ other) × (token ≡ second)

-- the path of the one file that a request is about; a listing is about none
abbrev pub path_of : Request → Option Segments
path_of (requests.Put path bytes mode) = Some path
path_of (requests.Get path known) = Some path
path_of (requests.List prefix after limit) = None
path_of (requests.Delete path) = Some path

-- the path of the file that a row asks about, if it asks about one
abbrev pub path_asked : {T : Type 0} → RecordedRow T → Option Segments
path_asked (kinds.Ask op at request) = path_of request
path_asked _ = None

module _ (becomes : Renaming) where
  -- a token of this path is renamed; where no path is known, it stays
  abbrev pub RenamesToken : Option Segments → ℕ → ℕ → Type 0
  RenamesToken None token new = new ≡ token
  RenamesToken (Some path) token new = becomes path token ≡ Some new

  -- what a put asks of its path
  abbrev pub RenamesMode : Segments → PutMode → PutMode → Type 0
  RenamesMode path (modes.Update token) renamed = (new : ℕ) × (becomes path token ≡ Some new) × (renamed ≡ modes.Update new)
  RenamesMode path mode renamed = renamed ≡ mode

  -- the token that a get knows, if any
  abbrev pub RenamesKnown : Segments → Option ℕ → Option ℕ → Type 0
  RenamesKnown path None renamed = renamed ≡ None
  RenamesKnown path (Some token) renamed = (new : ℕ) × (becomes path token ≡ Some new) × (renamed ≡ Some new)

  abbrev pub RenamesRequest : Request → Request → Type 0
  RenamesRequest (requests.Put path bytes mode) renamed = (new : PutMode) × RenamesMode path mode new × (renamed ≡ requests.Put path bytes new)
  RenamesRequest (requests.Get path known) renamed = (new : Option ℕ) × RenamesKnown path known new × (renamed ≡ requests.Get path new)
  RenamesRequest request renamed = renamed ≡ request

  -- a file of a listing, by its own path
  abbrev pub RenamesMeta : ObjectMeta → ObjectMeta → Type 0
  RenamesMeta meta renamed = (new : ℕ) × (becomes meta.location meta.token ≡ Some new) × (renamed ≡ record meta { token = new })

  -- a reply, by the path of the file that was asked about
  abbrev pub RenamesReply : Option Segments → Reply → Reply → Type 0
  RenamesReply path (replies.Put (Ok token)) renamed = (new : ℕ) × RenamesToken path token new × (renamed ≡ replies.Put (Ok new))
  RenamesReply path (replies.Get (Ok got)) renamed = (new : ℕ) × RenamesToken path got.token new × (renamed ≡ replies.Get (Ok (record got { token = new })))
  RenamesReply path (replies.List (Ok page)) renamed = (new : List ObjectMeta) × AllZip RenamesMeta page.metas new × (renamed ≡ replies.List (Ok (record page { metas = new })))
  RenamesReply path reply renamed = renamed ≡ reply

  module _ {T : Type 0} where
    -- a row, by the path of the file that the row before it asks about
    abbrev pub RenamesRow : Option Segments → RecordedRow T → RecordedRow T → Type 0
    RenamesRow path (kinds.Ask op at request) renamed = (new : Request) × RenamesRequest request new × (renamed ≡ kinds.Ask op at new)
    RenamesRow path (kinds.Reply op at reply) renamed = (new : Reply) × RenamesReply path reply new × (renamed ≡ kinds.Reply op at new)
    RenamesRow path row renamed = renamed ≡ row

    -- rows one after another, behind one that asks about this path
    abbrev pub RenamesRows : Option Segments → List (RecordedRow T) → List (RecordedRow T) → Type 0
    RenamesRows path [] [] = Unit {0}
    RenamesRows path (row ∷ rows) (new ∷ renamed) = RenamesRow path row new × RenamesRows (path_asked row) rows renamed
    RenamesRows path _ _ = ⊥

-- The rows of each recording are the same, but for their tokens. What becomes of a token is told by the path that it is of, and by itself: so two tokens of one path are equal where they were, and tokens of two paths are never equal.
pub record RenamesTokens {T : Type 0} (old new : List (List (RecordedRow T))) : Type 0 where
  pub becomes : Renaming
  pub one_to_one : IsOneToOne becomes
  pub renamed : AllZip (RenamesRows becomes None) old new
