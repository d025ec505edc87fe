-- Each file's token was given, whatever requests are served.
use Rattle.std.proofs.Common.{◌≡◌, ℕ, List, Contains, Result, Ok, Err, sym, ◌∙◌, ap, subst}
use Rattle.std.specs.FinMap.{get}
use Rattle.txn_store.specs.Paths.{Segments}
use Rattle.txn_store.specs.Store.{Files, State as StoreState, Kept, Puts, Deletes}
use Rattle.txn_store.specs.Requests.{Serves}
use Rattle.txn_store.specs.declared.store.PutMode.{PutMode}
use Rattle.txn_store.specs.declared.store.StoreError.{StoreError}
use Rattle.txn_store.specs.declared.store.StoreError.TheVariants as errors
use Rattle.txn_store.specs.declared.request.Request.{Request}
use Rattle.txn_store.specs.declared.request.Request.TheVariants as requests
use Rattle.txn_store.specs.declared.request.Reply.{Reply}
use Rattle.txn_store.specs.declared.request.Reply.TheVariants as replies
use Rattle.txn_machine.proofs.plain.Stands.{AllGiven}
use Rattle.txn_machine.proofs.plain.Effects.{given_put, given_removed}
use Rattle.txn_machine.proofs.plain.Faults.{get_kept, listed_kept, ruled_out}

given_kept : (old new : StoreState) → AllGiven old → Kept old new → AllGiven new
given_kept old new all k = λ path got e. subst (λ (ts : List ℕ). Contains ts got.token) (sym k.given) (all path got (sym (ap (λ (files : Files). get files path) k.files) ∙ e))

put_given : (path : Segments) (bytes : List ℕ) (mode : PutMode) (old new : StoreState) (answer : Result ℕ StoreError) → AllGiven old → Puts path bytes mode old answer new → new.failures ≡ 0 → AllGiven new
put_given path bytes mode old new (Ok token) all p honest = given_put path bytes token old new p.placed all
put_given path bytes mode old new (Err errors.AlreadyExists) all p honest = given_kept old new all p.err.1
put_given path bytes mode old new (Err errors.NoMemory) all p honest = given_kept old new all p.err.1
put_given path bytes mode old new (Err errors.TokensExhausted) all p honest = given_kept old new all p.err.2
put_given path bytes mode old new (Err errors.Failed) all p honest = ruled_out old new honest p.err.0
put_given path bytes mode old new (Err errors.NotFound) all p honest = given_kept old new all p.err.1
put_given path bytes mode old new (Err errors.Precondition) all p honest = given_kept old new all p.err.1
put_given path bytes mode old new (Err errors.NotModified) all p honest = given_kept old new all p.err.1

delete_given : (path : Segments) (old new : StoreState) (answer : Result (Unit {0}) StoreError) → AllGiven old → Deletes path old answer new → new.failures ≡ 0 → AllGiven new
delete_given path old new (Ok done) all d honest = given_removed path old new d.removed all
delete_given path old new (Err errors.NoMemory) all d honest = given_kept old new all d.err.1
delete_given path old new (Err errors.Failed) all d honest = ruled_out old new honest d.err.0
delete_given path old new (Err errors.TokensExhausted) all d honest = absurd d.err
delete_given path old new (Err errors.NotFound) all d honest = given_kept old new all d.err.1
delete_given path old new (Err errors.AlreadyExists) all d honest = given_kept old new all d.err.1
delete_given path old new (Err errors.Precondition) all d honest = given_kept old new all d.err.1
delete_given path old new (Err errors.NotModified) all d honest = given_kept old new all d.err.1

pub served_given : (old new : StoreState) (request : Request) (reply : Reply) → AllGiven old → Serves request old reply new → new.failures ≡ 0 → AllGiven new
served_given old new (requests.Put path bytes mode) (replies.Put answer) all s honest = put_given path bytes mode old new answer all s honest
served_given old new (requests.Get path known) (replies.Get answer) all s honest = given_kept old new all (get_kept path known old new answer s honest)
served_given old new (requests.List prefix after limit) (replies.List answer) all s honest = given_kept old new all (listed_kept prefix after limit old new answer s honest)
served_given old new (requests.Delete path) (replies.Delete answer) all s honest = delete_given path old new answer all s honest
served_given old new (requests.Put path bytes mode) (replies.Get answer) all s honest = absurd s
served_given old new (requests.Put path bytes mode) (replies.List answer) all s honest = absurd s
served_given old new (requests.Put path bytes mode) (replies.Delete answer) all s honest = absurd s
served_given old new (requests.Get path known) (replies.Put answer) all s honest = absurd s
served_given old new (requests.Get path known) (replies.List answer) all s honest = absurd s
served_given old new (requests.Get path known) (replies.Delete answer) all s honest = absurd s
served_given old new (requests.List prefix after limit) (replies.Put answer) all s honest = absurd s
served_given old new (requests.List prefix after limit) (replies.Get answer) all s honest = absurd s
served_given old new (requests.List prefix after limit) (replies.Delete answer) all s honest = absurd s
served_given old new (requests.Delete path) (replies.Put answer) all s honest = absurd s
served_given old new (requests.Delete path) (replies.Get answer) all s honest = absurd s
served_given old new (requests.Delete path) (replies.List answer) all s honest = absurd s
