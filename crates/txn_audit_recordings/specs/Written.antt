-- The text of each row. Words are divided by one space, numbers are plain decimals, and bytes are hex digits in lower case; calls and answers are in the words of scripts.
use Rattle.std.specs.Prelude.{ℕ, List, [], ◌∷◌, ◌++◌, Bool, true, false, Option, Some, None, Result, Ok, Err, codes, decimal}
use Rattle.hex.specs.Hex.{encode_lower}
use Rattle.txn_store.specs.Paths.{Segments, shown}
use Rattle.txn_store.specs.declared.store.Got.{Got}
use Rattle.txn_store.specs.declared.store.ObjectMeta.{ObjectMeta}
use Rattle.txn_store.specs.declared.store.PutMode.{PutMode}
use Rattle.txn_store.specs.declared.store.PutMode.TheVariants as modes
use Rattle.txn_store.specs.declared.store.StoreError.{StoreError}
use Rattle.txn_store.specs.declared.store.StoreError.TheVariants as errors
use Rattle.txn_store.specs.declared.page.Page.{Page}
use Rattle.txn_store.specs.declared.request.Request.{Request}
use Rattle.txn_store.specs.declared.request.Request.TheVariants as requests
use Rattle.txn_store.specs.declared.request.Reply.{Reply}
use Rattle.txn_store.specs.declared.request.Reply.TheVariants as replies
use Rattle.txn_history.specs.declared.event.Call.{Call}
use Rattle.txn_history.specs.declared.event.Answer.{Answer}
use Rattle.txn_script_lines.specs.Grammar.{call_text}
use Rattle.txn_script_lines.specs.Printed.{answered_text}

-- a space, and what comes after it
infixr 5 ◌then◌
abbrev pub ◌then◌ : List ℕ → List ℕ → List ℕ
word then rest = word ++ (32 ∷ rest)

-- Requests.

-- a put of a file that is not there, of one over the put with this token, and of one whatever is there
abbrev pub put_text : Segments → List ℕ → PutMode → List ℕ
put_text path bytes modes.Create = codes "create" then shown path then encode_lower bytes
put_text path bytes (modes.Update token) = codes "update" then shown path then decimal token then encode_lower bytes
put_text path bytes modes.Overwrite = codes "overwrite" then shown path then encode_lower bytes

-- the token that is known, or a dash for none
abbrev pub known_text : Option ℕ → List ℕ
known_text None = codes "-"
known_text (Some token) = decimal token

-- how many files a listing tells at most, and the path after which it begins, where there is one
abbrev pub range_text : ℕ → Option Segments → List ℕ
range_text limit None = decimal limit
range_text limit (Some path) = decimal limit then shown path

abbrev pub request_text : Request → List ℕ
request_text (requests.Put path bytes mode) = put_text path bytes mode
request_text (requests.Get path known) = codes "get" then shown path then known_text known
request_text (requests.List prefix after limit) = codes "list" then shown prefix then range_text limit after
request_text (requests.Delete path) = codes "delete" then shown path

-- Replies.

abbrev pub error_text : StoreError → List ℕ
error_text errors.NotFound = codes "NotFound"
error_text errors.AlreadyExists = codes "AlreadyExists"
error_text errors.Precondition = codes "Precondition"
error_text errors.NotModified = codes "NotModified"
error_text errors.Failed = codes "Failed"
error_text errors.NoMemory = codes "NoMemory"
error_text errors.TokensExhausted = codes "TokensExhausted"

-- the token of a put
abbrev pub put_answer : Result ℕ StoreError → List ℕ
put_answer (Ok token) = decimal token
put_answer (Err error) = error_text error

-- the token and the bytes of a file
abbrev pub get_answer : Result Got StoreError → List ℕ
get_answer (Ok got) = decimal got.token then encode_lower got.bytes
get_answer (Err error) = error_text error

-- a file of a listing: its path, its token and how many bytes it has
abbrev pub meta_text : ObjectMeta → List ℕ
meta_text meta = shown meta.location ++ (58 ∷ (decimal meta.token ++ (58 ∷ decimal meta.size)))

-- the files of a listing, each after one space
abbrev pub metas_text : List ObjectMeta → List ℕ
metas_text [] = []
metas_text (meta ∷ metas) = (32 ∷ meta_text meta) ++ metas_text metas

-- whether another file follows
abbrev pub more_text : Bool → List ℕ
more_text true = codes "more"
more_text false = codes "last"

abbrev pub list_answer : Result Page StoreError → List ℕ
list_answer (Ok page) = more_text page.more ++ metas_text page.metas
list_answer (Err error) = error_text error

module _ {U : Type 0} where
  abbrev pub delete_answer : Result U StoreError → List ℕ
  delete_answer (Ok done) = codes "done"
  delete_answer (Err error) = error_text error

abbrev pub reply_text : Reply → List ℕ
reply_text (replies.Put answer) = codes "put" then put_answer answer
reply_text (replies.Get answer) = codes "get" then get_answer answer
reply_text (replies.List answer) = codes "list" then list_answer answer
reply_text (replies.Delete answer) = codes "delete" then delete_answer answer

-- Rows.

-- before a client's first row in a file: the object that the recording is of, the clock of its times, and what is added to these for the nanoseconds since 1970
abbrev pub source_row_text : List ℕ → List ℕ → ℕ → List ℕ
source_row_text object clock ahead = codes "of" then object then codes "clock" then clock then codes "ahead" then decimal ahead

-- the first row: the client's number, and how many files a page of its listings has at most
abbrev pub client_row_text : ℕ → ℕ → List ℕ
client_row_text client page = codes "client" then decimal client then codes "page" then decimal page

-- before each store call
abbrev pub ask_row_text : ℕ → ℕ → Request → List ℕ
ask_row_text op at request = codes "ask" then decimal op then decimal at then request_text request

-- after it
abbrev pub reply_row_text : ℕ → ℕ → Reply → List ℕ
reply_row_text op at reply = codes "reply" then decimal op then decimal at then reply_text reply

-- a store call that failed
abbrev pub failed_row_text : ℕ → ℕ → List ℕ
failed_row_text op at = codes "failed" then decimal op then decimal at

-- an operation that is given up
abbrev pub give_up_row_text : ℕ → List ℕ
give_up_row_text op = codes "giveup" then decimal op

-- the rows of calls, by the text of a value
module _ {T : Type 0} (text : T → List ℕ) where
  -- a call that begins as the operation of this number
  abbrev pub begin_row_text : ℕ → Call T → List ℕ
  begin_row_text op call = codes "begin" then decimal op then call_text text call

  -- the answer of an operation
  abbrev pub answer_row_text : ℕ → Answer T → List ℕ
  answer_row_text op answer = codes "answer" then decimal op then answered_text text answer
