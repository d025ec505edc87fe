-- The files after a request are those that its reply tells.
use Rattle.std.proofs.Common.{◌≡◌, ℕ, List, [], ◌∷◌, Result, Ok, Err, ◌∙◌, ap}
use Rattle.txn_store.specs.Paths.{Segments}
use Rattle.txn_store.specs.Store.{Files, State as StoreState, Puts, Deletes}
use Rattle.txn_store.specs.Requests.{Serves}
use Rattle.txn_store.specs.declared.store.PutMode.{PutMode}
use Rattle.txn_store.specs.declared.store.StoreError.{StoreError}
use Rattle.txn_store.specs.declared.store.StoreError.TheVariants as errors
use Rattle.txn_store.specs.declared.request.Request.{Request}
use Rattle.txn_store.specs.declared.request.Request.TheVariants as requests
use Rattle.txn_store.specs.declared.request.Reply.{Reply}
use Rattle.txn_store.specs.declared.request.Reply.TheVariants as replies
use Rattle.txn_machine.proofs.plain.Faults.{get_kept, listed_kept, ruled_out}
use Rattle.txn_client_journals.specs.declared.rows.LogRow.{LogRow}
use Rattle.txn_client_journals.specs.Logs.{IsLog, files_after, files_of}

put_files : (path : Segments) (bytes : List ℕ) (mode : PutMode) (old new : StoreState) (answer : Result ℕ StoreError) → Puts path bytes mode old answer new → new.failures ≡ 0 → new.files ≡ files_after old.files (requests.Put path bytes mode) (replies.Put answer)
put_files path bytes mode old new (Ok token) p honest = p.placed.files
put_files path bytes mode old new (Err errors.AlreadyExists) p honest = p.err.1.files
put_files path bytes mode old new (Err errors.NoMemory) p honest = p.err.1.files
put_files path bytes mode old new (Err errors.TokensExhausted) p honest = p.err.2.files
put_files path bytes mode old new (Err errors.Failed) p honest = ruled_out old new honest p.err.0
put_files path bytes mode old new (Err errors.NotFound) p honest = p.err.1.files
put_files path bytes mode old new (Err errors.Precondition) p honest = p.err.1.files
put_files path bytes mode old new (Err errors.NotModified) p honest = p.err.1.files

delete_files : (path : Segments) (old new : StoreState) (answer : Result (Unit {0}) StoreError) → Deletes path old answer new → new.failures ≡ 0 → new.files ≡ files_after old.files (requests.Delete path) (replies.Delete answer)
delete_files path old new (Ok done) d honest = d.removed.files
delete_files path old new (Err errors.NoMemory) d honest = d.err.1.files
delete_files path old new (Err errors.Failed) d honest = ruled_out old new honest d.err.0
delete_files path old new (Err errors.TokensExhausted) d honest = absurd d.err
delete_files path old new (Err errors.NotFound) d honest = d.err.1.files
delete_files path old new (Err errors.AlreadyExists) d honest = d.err.1.files
delete_files path old new (Err errors.Precondition) d honest = d.err.1.files
delete_files path old new (Err errors.NotModified) d honest = d.err.1.files

pub served_files : (request : Request) (old : StoreState) (reply : Reply) (new : StoreState) → Serves request old reply new → new.failures ≡ 0 → new.files ≡ files_after old.files request reply
served_files (requests.Put path bytes mode) old (replies.Put answer) new s honest = put_files path bytes mode old new answer s honest
served_files (requests.Get path known) old (replies.Get answer) new s honest = (get_kept path known old new answer s honest).files
served_files (requests.List prefix after limit) old (replies.List answer) new s honest = (listed_kept prefix after limit old new answer s honest).files
served_files (requests.Delete path) old (replies.Delete answer) new s honest = delete_files path old new answer s honest
served_files (requests.Put path bytes mode) old (replies.Get answer) new s honest = absurd s
served_files (requests.Put path bytes mode) old (replies.List answer) new s honest = absurd s
served_files (requests.Put path bytes mode) old (replies.Delete answer) new s honest = absurd s
served_files (requests.Get path known) old (replies.Put answer) new s honest = absurd s
served_files (requests.Get path known) old (replies.List answer) new s honest = absurd s
served_files (requests.Get path known) old (replies.Delete answer) new s honest = absurd s
served_files (requests.List prefix after limit) old (replies.Put answer) new s honest = absurd s
served_files (requests.List prefix after limit) old (replies.Get answer) new s honest = absurd s
served_files (requests.List prefix after limit) old (replies.Delete answer) new s honest = absurd s
served_files (requests.Delete path) old (replies.Put answer) new s honest = absurd s
served_files (requests.Delete path) old (replies.Get answer) new s honest = absurd s
served_files (requests.Delete path) old (replies.List answer) new s honest = absurd s

-- the files of the store that a log leads to
pub log_files : (log : List LogRow) (store : StoreState) → IsLog log store → store.files ≡ files_of log
log_files [] store h = ap (λ (s : StoreState). s.files) h
log_files (row ∷ log) store h = served_files row.request h.0 row.reply store h.2 h.3 ∙ ap (λ (files : Files). files_after files row.request row.reply) (log_files log h.0 h.1)
