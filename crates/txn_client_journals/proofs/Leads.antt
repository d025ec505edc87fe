-- A log leads to its store, the counts of calls aside, with each row more.
use Rattle.std.proofs.Common.{◌≡◌, None, ℕ, ◌+◌, List, [], ◌∷◌, ◌++◌, reverse, Result, Ok, Err, refl, sym, ◌∙◌, ap, subst, arith}
use Rattle.std.proofs.lemmas.List.{reverse-append}
use Rattle.txn_store.specs.Paths.{Segments}
use Rattle.txn_store.specs.Store.{Files, State as StoreState, Kept, Puts, Gets, Lists, Deletes}
use Rattle.txn_store.specs.Requests.{Serves}
use Rattle.txn_store.specs.declared.page.Page.{Page}
use Rattle.txn_store.specs.declared.store.Got.{Got}
use Rattle.txn_store.specs.declared.store.PutMode.{PutMode}
use Rattle.txn_store.specs.declared.store.StoreError.{StoreError}
use Rattle.txn_store.specs.declared.store.StoreError.TheVariants as errors
use Rattle.txn_store.specs.declared.request.Request.{Request}
use Rattle.txn_store.specs.declared.request.Request.TheVariants as requests
use Rattle.txn_store.specs.declared.request.Reply.{Reply}
use Rattle.txn_store.specs.declared.request.Reply.TheVariants as replies
use Rattle.txn_machine.specs.plain.Machine.{empty_store}
use Rattle.txn_machine.proofs.plain.Faults.{get_kept, listed_kept, ruled_out}
use Rattle.txn_client_journals.specs.declared.rows.LogRow.{LogRow}
use Rattle.txn_client_journals.specs.Logs.{IsLog}
use Rattle.txn_client_journals.specs.Logged.{IsLogged, LeavesFiles}

abbrev of : Files → List ℕ → ℕ → ℕ → ℕ → StoreState
of files given left calls failures = record { files = files; given = given; left = left; calls = calls; failures = failures }

-- the store after a call, where it was called so often before
abbrev counted : ℕ → StoreState → StoreState
counted calls after = of after.files after.given after.left (calls + 1) 0

module _ (files : Files) (given : List ℕ) (left c f calls : ℕ) (after : StoreState) (honest : after.failures ≡ 0) where
  abbrev old : StoreState
  old = of files given left c f

  abbrev mine : StoreState
  mine = of files given left calls 0

  kept_so : Kept old after → Kept mine (counted calls after)
  kept_so k = record { files = k.files; given = k.given; left = k.left }

  puts_so : (path : Segments) (bytes : List ℕ) (mode : PutMode) (answer : Result ℕ StoreError) → Puts path bytes mode old answer after → Puts path bytes mode mine answer (counted calls after)
  puts_so path bytes mode (Ok token) p = record { counted = record { calls = refl; failures = omega arith }; allowed = p.allowed; placed = record { files = p.placed.files; fresh = p.placed.fresh; given = p.placed.given; left = p.placed.left }; err = tt }
  puts_so path bytes mode (Err errors.AlreadyExists) p = record { counted = record { calls = refl; failures = omega arith }; allowed = tt; placed = tt; err = (p.err.0, kept_so p.err.1) }
  puts_so path bytes mode (Err errors.NoMemory) p = record { counted = record { calls = refl; failures = omega arith }; allowed = tt; placed = tt; err = (p.err.0, kept_so p.err.1) }
  puts_so path bytes mode (Err errors.TokensExhausted) p = record { counted = record { calls = refl; failures = omega arith }; allowed = tt; placed = tt; err = (p.err.0, p.err.1, kept_so p.err.2) }
  puts_so path bytes mode (Err errors.Failed) p = ruled_out old after honest p.err.0
  puts_so path bytes mode (Err errors.NotFound) p = record { counted = record { calls = refl; failures = omega arith }; allowed = tt; placed = tt; err = (p.err.0, kept_so p.err.1) }
  puts_so path bytes mode (Err errors.Precondition) p = record { counted = record { calls = refl; failures = omega arith }; allowed = tt; placed = tt; err = (p.err.0, kept_so p.err.1) }
  puts_so path bytes mode (Err errors.NotModified) p = record { counted = record { calls = refl; failures = omega arith }; allowed = tt; placed = tt; err = (p.err.0, kept_so p.err.1) }

  gets_so : (path : Segments) (known : _) (answer : Result Got StoreError) → Gets path known old answer after → Gets path known mine answer (counted calls after)
  gets_so path known (Ok got) g = record { counted = record { calls = refl; failures = omega arith }; allowed = g.allowed; found = g.found; kept = kept_so g.kept; err = tt }
  gets_so path known (Err errors.NotFound) g = record { counted = record { calls = refl; failures = omega arith }; allowed = tt; found = tt; kept = tt; err = (g.err.0, kept_so g.err.1) }
  gets_so path known (Err errors.AlreadyExists) g = record { counted = record { calls = refl; failures = omega arith }; allowed = tt; found = tt; kept = tt; err = (g.err.0, kept_so g.err.1) }
  gets_so path known (Err errors.Precondition) g = record { counted = record { calls = refl; failures = omega arith }; allowed = tt; found = tt; kept = tt; err = (g.err.0, kept_so g.err.1) }
  gets_so path known (Err errors.NotModified) g = record { counted = record { calls = refl; failures = omega arith }; allowed = tt; found = tt; kept = tt; err = (g.err.0, kept_so g.err.1) }
  gets_so path known (Err errors.Failed) g = ruled_out old after honest g.err.0
  gets_so path known (Err errors.NoMemory) g = record { counted = record { calls = refl; failures = omega arith }; allowed = tt; found = tt; kept = tt; err = (g.err.0, kept_so g.err.1) }
  gets_so path known (Err errors.TokensExhausted) g = absurd g.err

  lists_so : (prefix : Segments) (from : _) (limit : ℕ) (answer : Result Page StoreError) → Lists prefix from limit old answer after → Lists prefix from limit mine answer (counted calls after)
  lists_so prefix from limit (Ok page) l = record { counted = record { calls = refl; failures = omega arith }; listed = l.listed; kept = kept_so l.kept; err = tt }
  lists_so prefix from limit (Err errors.NotFound) l = record { counted = record { calls = refl; failures = omega arith }; listed = tt; kept = tt; err = (l.err.0, kept_so l.err.1) }
  lists_so prefix from limit (Err errors.AlreadyExists) l = record { counted = record { calls = refl; failures = omega arith }; listed = tt; kept = tt; err = (l.err.0, kept_so l.err.1) }
  lists_so prefix from limit (Err errors.Precondition) l = record { counted = record { calls = refl; failures = omega arith }; listed = tt; kept = tt; err = (l.err.0, kept_so l.err.1) }
  lists_so prefix from limit (Err errors.NotModified) l = record { counted = record { calls = refl; failures = omega arith }; listed = tt; kept = tt; err = (l.err.0, kept_so l.err.1) }
  lists_so prefix from limit (Err errors.Failed) l = ruled_out old after honest l.err.0
  lists_so prefix from limit (Err errors.NoMemory) l = record { counted = record { calls = refl; failures = omega arith }; listed = tt; kept = tt; err = (l.err.0, kept_so l.err.1) }
  lists_so prefix from limit (Err errors.TokensExhausted) l = absurd l.err

  deletes_so : (path : Segments) (answer : Result (Unit {0}) StoreError) → Deletes path old answer after → Deletes path mine answer (counted calls after)
  deletes_so path (Ok done) d = record { counted = record { calls = refl; failures = omega arith }; removed = record { files = d.removed.files; given = d.removed.given; left = d.removed.left }; err = tt }
  deletes_so path (Err errors.NotFound) d = record { counted = record { calls = refl; failures = omega arith }; removed = tt; err = (d.err.0, kept_so d.err.1) }
  deletes_so path (Err errors.AlreadyExists) d = record { counted = record { calls = refl; failures = omega arith }; removed = tt; err = (d.err.0, kept_so d.err.1) }
  deletes_so path (Err errors.Precondition) d = record { counted = record { calls = refl; failures = omega arith }; removed = tt; err = (d.err.0, kept_so d.err.1) }
  deletes_so path (Err errors.NotModified) d = record { counted = record { calls = refl; failures = omega arith }; removed = tt; err = (d.err.0, kept_so d.err.1) }
  deletes_so path (Err errors.Failed) d = ruled_out old after honest d.err.0
  deletes_so path (Err errors.NoMemory) d = record { counted = record { calls = refl; failures = omega arith }; removed = tt; err = (d.err.0, kept_so d.err.1) }
  deletes_so path (Err errors.TokensExhausted) d = absurd d.err

  serves_so : (request : Request) (reply : Reply) → Serves request old reply after → Serves request mine reply (counted calls after)
  serves_so (requests.Put path bytes mode) (replies.Put answer) s = puts_so path bytes mode answer s
  serves_so (requests.Get path known) (replies.Get answer) s = gets_so path known answer s
  serves_so (requests.List prefix from limit) (replies.List answer) s = lists_so prefix from limit answer s
  serves_so (requests.Delete path) (replies.Delete answer) s = deletes_so path answer s
  serves_so (requests.Put path bytes mode) (replies.Get answer) s = absurd s
  serves_so (requests.Put path bytes mode) (replies.List answer) s = absurd s
  serves_so (requests.Put path bytes mode) (replies.Delete answer) s = absurd s
  serves_so (requests.Get path known) (replies.Put answer) s = absurd s
  serves_so (requests.Get path known) (replies.List answer) s = absurd s
  serves_so (requests.Get path known) (replies.Delete answer) s = absurd s
  serves_so (requests.List prefix from limit) (replies.Put answer) s = absurd s
  serves_so (requests.List prefix from limit) (replies.Get answer) s = absurd s
  serves_so (requests.List prefix from limit) (replies.Delete answer) s = absurd s
  serves_so (requests.Delete path) (replies.Put answer) s = absurd s
  serves_so (requests.Delete path) (replies.Get answer) s = absurd s
  serves_so (requests.Delete path) (replies.List answer) s = absurd s

log_honest : (log : List LogRow) (store : StoreState) → IsLog log store → store.failures ≡ 0
log_honest [] store h = ap (λ (s : StoreState). s.failures) h
log_honest (row ∷ log) store h = h.3

-- a store that is the same but for the counts serves the same
same_serves : (request : Request) (s now : StoreState) (reply : Reply) (after : StoreState) → Kept s now → s.failures ≡ 0 → Serves request now reply after → after.failures ≡ 0 → Serves request s reply (counted s.calls after)
same_serves request s now reply after k fine serves honest =
    let one = subst (λ (x : Files). Serves request (of x now.given now.left now.calls now.failures) reply after) k.files serves in
    let two = subst (λ (x : List ℕ). Serves request (of s.files x now.left now.calls now.failures) reply after) k.given one in
    let three = subst (λ (x : ℕ). Serves request (of s.files s.given x now.calls now.failures) reply after) k.left two in
    let mine = serves_so s.files s.given s.left now.calls now.failures s.calls after honest request reply three in
    subst (λ (x : ℕ). Serves request (of s.files s.given s.left s.calls x) reply (counted s.calls after)) (sym fine) mine

pub served_logged : (log : List LogRow) (now : StoreState) (client : ℕ) (request : Request) (reply : Reply) (after : StoreState) → IsLogged log now → Serves request now reply after → after.failures ≡ 0 → IsLogged (log ++ record { client = client; request = request; reply = reply; landed = None } ∷ []) after
served_logged log now client request reply after h serves honest =
    let row : LogRow = record { client = client; request = request; reply = reply; landed = None } in
    let fine = log_honest (reverse log) h.store h.leads in
    let more : IsLog (row ∷ reverse log) (counted h.store.calls after) = (h.store, h.leads, same_serves request h.store now reply after h.kept fine serves honest, refl) in
    record {
      store = counted h.store.calls after;
      leads = subst (λ (rows : List LogRow). IsLog rows (counted h.store.calls after)) (sym (reverse-append log (row ∷ []))) more;
      kept = record { files = refl; given = refl; left = refl };
    }

-- a call that leaves the files need not be logged
leaves : (request : Request) (now : StoreState) (reply : Reply) (after : StoreState) → LeavesFiles reply → Serves request now reply after → after.failures ≡ 0 → Kept now after
leaves (requests.Get path known) now (replies.Get answer) after l s honest = get_kept path known now after answer s honest
leaves (requests.List prefix from limit) now (replies.List answer) after l s honest = listed_kept prefix from limit now after answer s honest
leaves request now (replies.Put answer) after l s honest = absurd l
leaves request now (replies.Delete answer) after l s honest = absurd l
leaves (requests.Put path bytes mode) now (replies.Get answer) after l s honest = absurd s
leaves (requests.Put path bytes mode) now (replies.List answer) after l s honest = absurd s
leaves (requests.Get path known) now (replies.List answer) after l s honest = absurd s
leaves (requests.List prefix from limit) now (replies.Get answer) after l s honest = absurd s
leaves (requests.Delete path) now (replies.Get answer) after l s honest = absurd s
leaves (requests.Delete path) now (replies.List answer) after l s honest = absurd s

pub not_logged : (log : List LogRow) (now : StoreState) (request : Request) (reply : Reply) (after : StoreState) → IsLogged log now → LeavesFiles reply → Serves request now reply after → after.failures ≡ 0 → IsLogged log after
not_logged log now request reply after h l serves honest =
    let k = leaves request now reply after l serves honest in
    record { store = h.store; leads = h.leads; kept = record { files = k.files ∙ h.kept.files; given = k.given ∙ h.kept.given; left = k.left ∙ h.kept.left } }

pub empty_logged : (now : StoreState) → Kept empty_store now → IsLogged [] now
empty_logged now k = record { store = empty_store; leads = refl; kept = k }
