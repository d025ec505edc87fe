-- One order of the calls, in which they are those of one honest store.
use Rattle.std.specs.Prelude.{◌≡◌, ℕ, zero, suc, ◌<◌, ◌≤◌, ◌^◌, ◌==◌, ◌&&◌, Bool, true, false, List, [], ◌∷◌, ◌++◌, Option, Some, None, Ok, if◌then◌else◌}
use Rattle.txn_store.specs.Paths.{Segments, is_below}
use Rattle.txn_store.specs.VersionName.{Names, version_path}
use Rattle.txn_store.specs.Store.{State as StoreState}
use Rattle.txn_store.specs.declared.store.PutMode.TheVariants as modes
use Rattle.txn_store.specs.declared.request.Request.{Request}
use Rattle.txn_store.specs.declared.request.Request.TheVariants as requests
use Rattle.txn_store.specs.declared.request.Reply.{Reply}
use Rattle.txn_store.specs.declared.request.Reply.TheVariants as replies
use Rattle.txn_client_journals.specs.declared.rows.LogRow.{LogRow}
use Rattle.txn_client_journals.specs.Logs.{IsLog}
use Rattle.txn_folder.specs.steps.Folders.{Place, Version, Boundary}
use Rattle.txn_folder.specs.steps.Steps.{Work, Creates, Gets, Updates, Deletes}
use Rattle.txn_folder_model.specs.Worlds.{Call, World}
use Rattle.txn_folder_model.specs.Listings.{ComeInOrder, Listing, listing_row}
use Rattle.txn_folder_model.specs.Runs.{IsRun}

-- Where a call takes place: at a moment, before the step that is made then, or, where it writes, in it. It is given this reply there.
pub record Point : Type 0 where
  pub at : ℕ
  pub writes : Bool
  pub reply : Reply

-- the boundary's path is no version's, and lies in another folder
abbrev pub IsApart : Names → Segments → Type 0
IsApart names boundary = (id : ℕ) → id < 2 ^ 64 → ¬ (boundary ≡ version_path names id)

abbrev pub IsElsewhere : Names → Segments → Type 0
IsElsewhere names boundary = is_below names.dir boundary ≡ false

module _ (names : Names) (boundary : Segments) where
  abbrev pub path_of : Place → Segments
  path_of (Version id) = version_path names id
  path_of Boundary = boundary

  -- the request that a call stands for
  abbrev pub request_of : Work → Request
  request_of (Creates place bytes phase) = requests.Put (path_of place) bytes modes.Create
  request_of (Gets place known phase) = requests.Get (path_of place) known
  request_of (Updates bytes token phase) = requests.Put boundary bytes (modes.Update token)
  request_of (Deletes id phase) = requests.Delete (version_path names id)

-- a put that wrote its bytes, or a removal
abbrev pub IsDone : Request → Reply → Type 0
IsDone (requests.Put path bytes mode) (replies.Put (Ok token)) = Unit {0}
IsDone (requests.Delete path) (replies.Delete (Ok done)) = Unit {0}
IsDone request reply = ⊥

-- with which of its client's operations each call was
module _ (names : Names) (boundary : Segments) (ops : ℕ → ℕ) where
  -- what a log says of a call that nobody was answered: which of its client's operations it was
  abbrev pub landed_as : ℕ → Option Reply → Option ℕ
  landed_as call None = Some (ops call)
  landed_as call (Some reply) = None

  -- a call's row of the log
  abbrev pub row_of : ℕ → Call → Reply → LogRow
  row_of number call reply = record { client = call.client; request = request_of names boundary call.work; reply = reply; landed = landed_as number call.answer }

  -- this row, if the call takes place there
  abbrev pub row_at : ℕ → Bool → ℕ → Call → Option Point → List LogRow
  row_at t writes number call None = []
  row_at t writes number call (Some point) = if (point.at == t) && (if writes then point.writes else if point.writes then false else true) then row_of number call point.reply ∷ [] else []

  -- the rows of the calls below a number that take place there, the latest call first
  abbrev pub rows_at : (ℕ → Call) → (ℕ → Option Point) → ℕ → Bool → ℕ → List LogRow
  rows_at calls points t writes zero = []
  rows_at calls points t writes (suc number) = row_at t writes number (calls number) (points number) ++ rows_at calls points t writes number

  -- the rows of the listings below a number that take place at a moment, by the moments of all
  abbrev pub listed_at : (ℕ → LogRow) → (ℕ → ℕ) → ℕ → ℕ → List LogRow
  listed_at rows moments t zero = []
  listed_at rows moments t (suc number) = (if moments number == t then rows number ∷ [] else []) ++ listed_at rows moments t number

  -- the log of so many calls and listings before a moment, by their points, the newest row first
  abbrev pub log_until : (ℕ → Call) → (ℕ → Option Point) → ℕ → (ℕ → LogRow) → (ℕ → ℕ) → ℕ → ℕ → List LogRow
  log_until calls points count rows moments many zero = []
  log_until calls points count rows moments many (suc t) = rows_at calls points t true count ++ (rows_at calls points t false count ++ (listed_at rows moments t many ++ log_until calls points count rows moments many t))

  -- The calls of a world at a moment, and listings beside them, each take place at a point between begin and end: each that answered has one, with its answer as the reply; one that did not has one only where it took its whole effect; and in the order of the points they are the log of an honest store.
  pub record IsLinearizable (t : ℕ) (worlds : ℕ → World) (listings : ℕ → Listing) (many : ℕ) : Type 0 where
    pub points : ℕ → Option Point
    pub begun : (call : ℕ) (point : Point) → call < (worlds t).count → points call ≡ Some point → ((worlds t).calls call).began ≤ point.at
    pub past : (call : ℕ) (point : Point) → call < (worlds t).count → points call ≡ Some point → point.at < t
    pub ended : (call : ℕ) (point : Point) (end : ℕ) → call < (worlds t).count → points call ≡ Some point → ((worlds t).calls call).ended ≡ Some end → point.at ≤ end
    pub answered : (call : ℕ) (reply : Reply) → call < (worlds t).count → ((worlds t).calls call).answer ≡ Some reply → (point : Point) × (points call ≡ Some point) × (point.reply ≡ reply)
    pub unanswered : (call : ℕ) (point : Point) → call < (worlds t).count → ((worlds t).calls call).answer ≡ None → points call ≡ Some point → (point.writes ≡ true) × IsDone (request_of names boundary ((worlds t).calls call).work) point.reply
    pub moments : ℕ → ℕ
    pub listed : (number : ℕ) → number < many → ((listings number).began ≤ moments number) × (moments number ≤ (listings number).ended) × (moments number < t)
    pub store : StoreState
    pub honest : IsLog (log_until (worlds t).calls points (worlds t).count (λ number. listing_row names (listings number)) moments many t) store

-- These listings are runs of their machine, and had ended before a moment.
abbrev pub AreRuns : Names → ℕ → (ℕ → World) → (ℕ → Listing) → ℕ → Type 0
AreRuns names t worlds listings many = (number : ℕ) → number < many → IsRun names worlds (listings number) × ((listings number).ended < t)

-- While each of them goes on, clients make versions in order.
abbrev pub AllComeInOrder : (ℕ → World) → (ℕ → Listing) → ℕ → Type 0
AllComeInOrder worlds listings many = (number : ℕ) → number < many → ComeInOrder worlds (listings number).began (listings number).ended
