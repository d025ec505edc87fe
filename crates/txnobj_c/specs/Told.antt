-- What an operation asks for, how it ended, and what a view is, in numbers of C's. It stands alone, because it names the structs that C reads.
use Rattle.std.specs.Prelude.{◌≡◌, ◌≤◌, ◌<◌, ◌^◌, ◌↔◌, ℕ, Bool, true, false, length, Option, Some, None}
use Rattle.txn_store.specs.Paths.{Segments}
use Rattle.txn_store.specs.VersionName.{version_path}
use Rattle.txn_store.specs.declared.request.Request.TheVariants as requests
use Rattle.txn_store.specs.declared.store.PutMode.{PutMode}
use Rattle.txn_store.specs.declared.store.PutMode.TheVariants as modes
use Rattle.txn_history.specs.Names.{world_names}
use Rattle.txn_history.specs.Seen.{Ask, Store, Look}
use Rattle.txn_history.specs.Views.{View}
use Rattle.txn_history.specs.declared.event.Answer.{Answer}
use Rattle.txn_history.specs.declared.event.Answer.TheVariants as answers
use Rattle.txn_history.specs.declared.event.PlainAnswer.{PlainAnswer}
use Rattle.txn_history.specs.declared.event.PlainAnswer.TheVariants as plain
use Rattle.txn_script_lines.specs.declared.values.entry.Entry.{Entry}
use Rattle.txnobj_c.specs.declared.told.Asked.{Asked}
use Rattle.txnobj_c.specs.declared.told.Answered.{Answered}
use Rattle.txnobj_c.specs.declared.told.Viewed.{Viewed}

-- a path is that of the version of this number, where it is a version's: so the boundary's has 0
abbrev pub IsVersion : Segments → ℕ → Type 0
IsVersion path version = (n : ℕ) → 1 ≤ n → n < 2 ^ 64 → (version ≡ n) ↔ (path ≡ version_path world_names n)

-- a listing goes on after the version of this number, from the first on where there is none
abbrev pub IsAfter : Option Segments → ℕ → Type 0
IsAfter None version = version ≡ 0
IsAfter (Some path) version = IsVersion path version

-- what an ask says of a file, or of the listing, has this number
abbrev pub IsFileOf : Option Ask → ℕ → Type 0
IsFileOf None version = version ≡ 0
IsFileOf (Some Look) version = version ≡ 0
IsFileOf (Some (Store (requests.Put path bytes mode))) version = IsVersion path version
IsFileOf (Some (Store (requests.Get path known))) version = IsVersion path version
IsFileOf (Some (Store (requests.List prefix after limit))) version = IsAfter after version
IsFileOf (Some (Store (requests.Delete path))) version = IsVersion path version

-- the condition of a put: no file stands there (0), one of this token does (1), none is asked (2)
abbrev pub mode_kind : PutMode → ℕ
mode_kind modes.Create = 0
mode_kind (modes.Update token) = 1
mode_kind modes.Overwrite = 2

abbrev pub mode_token : PutMode → ℕ
mode_token modes.Create = 0
mode_token (modes.Update token) = token
mode_token modes.Overwrite = 0

-- the condition of a get: a file of this token is not to be sent (1)
abbrev pub known_kind : Option ℕ → ℕ
known_kind None = 0
known_kind (Some token) = 1

abbrev pub known_token : Option ℕ → ℕ
known_token None = 0
known_token (Some token) = token

-- what is asked for, in numbers of C's, where this is the file's: nothing (0), a look (1), a put (2), a get (3), a listing (4) or a delete (5)
abbrev pub ask_told : Option Ask → ℕ → Asked
ask_told None version = record { kind = 0; mode = 0; version = version; token = 0; limit = 0; len = 0 }
ask_told (Some Look) version = record { kind = 1; mode = 0; version = version; token = 0; limit = 0; len = 0 }
ask_told (Some (Store (requests.Put path bytes mode))) version = record { kind = 2; mode = mode_kind mode; version = version; token = mode_token mode; limit = 0; len = length bytes }
ask_told (Some (Store (requests.Get path known))) version = record { kind = 3; mode = known_kind known; version = version; token = known_token known; limit = 0; len = 0 }
ask_told (Some (Store (requests.List prefix after limit))) version = record { kind = 4; mode = 0; version = version; token = 0; limit = limit; len = 0 }
ask_told (Some (Store (requests.Delete path))) version = record { kind = 5; mode = 0; version = version; token = 0; limit = 0; len = 0 }

-- C is told what is asked for.
pub record TellsAsk (ask : Option Ask) (told : Asked) : Type 0 where
  pub file : IsFileOf ask told.version
  pub told_is : told ≡ ask_told ask told.version

-- an answer with no value
abbrev pub bare : ℕ → ℕ → ℕ → ℕ → Answered
bare kind refusal id len = record { kind = kind; refusal = refusal; view = 0; id = id; epoch = 0; holder = 0; len = len }

-- an answer with a value
abbrev pub valued : ℕ → ℕ → ℕ → Entry → ℕ → Answered
valued kind view id value holder = record { kind = kind; refusal = 0; view = view; id = id; epoch = value.epoch; holder = holder; len = length value.payload }

abbrev pub plain_told : PlainAnswer Entry → Answered
plain_told (plain.Wrote id) = bare 1 0 id 0
plain_told (plain.Read (Some found)) = valued 2 0 found.0 found.1 0
plain_told (plain.Read None) = bare 3 0 0 0
plain_told (plain.Value (Some value)) = valued 4 0 0 value 0
plain_told (plain.Value None) = bare 5 0 0 0
plain_told (plain.Ids ids) = bare 6 0 0 (length ids)
plain_told plain.Done = bare 7 0 0 0
plain_told (plain.Refused number) = bare 8 number 0 0

-- how an operation ended, in numbers of C's: written (1), the newest version (2), that there is none (3), a value (4), that there is none (5), ids (6), done (7), refused (8), a view (9) or a holder's view (10)
abbrev pub answer_told : Answer Entry → Answered
answer_told (answers.Plain answer) = plain_told answer
answer_told (answers.View view id value) = valued 9 view id value 0
answer_told (answers.Held view id value epoch) = valued 10 view id value epoch

-- How an operation ended, with code 0; that it runs, as kind 0; and for one that is not there code 1, and what stood there stays.
abbrev pub told_of : Option (Answer Entry) → Bool → Answered → ℕ × Answered
told_of (Some answer) runs old = (0, answer_told answer)
told_of None true old = (0, bare 0 0 0 0)
told_of None false old = (1, old)

abbrev pub holder_told : Option ℕ → ℕ
holder_told None = 0
holder_told (Some epoch) = epoch

abbrev pub is_holder : Option ℕ → Bool
is_holder None = false
is_holder (Some epoch) = true

-- a view in numbers of C's
abbrev pub view_told : View Entry → Viewed
view_told view = record { id = view.id; epoch = view.object.epoch; holder = holder_told view.epoch; is_holder = is_holder view.epoch; len = length view.object.payload }

-- A view as it stands, with code 0; for one that is not there code 1, and what stood there stays.
abbrev pub viewed : Option (View Entry) → Viewed → ℕ × Viewed
viewed None old = (1, old)
viewed (Some view) old = (0, view_told view)
