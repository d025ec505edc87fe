-- How the history of a merged list ends, by the log of its store.
use Rattle.std.proofs.Common.{◌≡◌, ℕ, ◌+◌, ◌||◌, ◌<◌, ◌≤◌, List, [], ◌∷◌, ◌++◌, length, take, reverse, get_or, Bool, true, false, cond, Option, Some, None, is_some, Ok, refl, sym, ◌∙◌, ap, arith}
use Rattle.std.specs.FinMap.{get, get-empty, get-insert, get-remove}
use Rattle.std.specs.Cmp.{eq_by_cmp_equiv}
use Rattle.std.specs.Ordering.{eq_by_cmp}
use Rattle.std.specs.Option.{option_map}
use Rattle.std.proofs.lemmas.List.{append-nil, reverse-append, length-append, take_all, take_more}
use Rattle.txn_store.specs.Paths.{Segments, path_cmp}
use Rattle.txn_store.proofs.FileLemmas.{path_cmp_total}
use Rattle.txn_store.specs.Store.{Files, State as StoreState}
use Rattle.txn_store.specs.declared.store.Got.{Got}
use Rattle.txn_store.specs.declared.request.Request.{Request}
use Rattle.txn_store.specs.declared.request.Request.TheVariants as requests
use Rattle.txn_store.specs.declared.request.Reply.{Reply}
use Rattle.txn_store.specs.declared.request.Reply.TheVariants as replies
use Rattle.txn_history.specs.declared.trace.RowOf.TheVariants.{Effect, Begun, Answered}
use Rattle.txn_history.specs.declared.event.Answer.{Answer}
use Rattle.txn_history.specs.Names.{world_boundary}
use Rattle.txn_history.specs.Added.{answer_rows, effect_rows}
use Rattle.txn_history.specs.History as history
use Rattle.txn_history.specs.History.{Contents, Version, is_id, is_boundary, created, has_id, with_version, versions_of, stored, boundary_said}
use Rattle.txn_history.specs.Trace.{Row}
use Rattle.txn_history.proofs.Rows.{versions_of-more}
use Rattle.txn_machine.specs.plain.Machine.{took, may_change, effect_of}
use Rattle.txn_machine.proofs.Reached.{run_reaches_or_lacking, reached_stored}
use Rattle.txn_machine.specs.traces.Beside.{is_among}
use Rattle.txn_machine.proofs.traces.Indexes.{has_with}
use Rattle.txn_client_journals.specs.declared.rows.LogRow.{LogRow}
use Rattle.txn_client_journals.specs.declared.rows.Act.TheVariants as acts
use Rattle.txn_client_journals.specs.declared.rows.Step.{Step}
use Rattle.txn_client_journals.specs.declared.rows.Step.TheVariants as steps
use Rattle.txn_client_journals.specs.Logs.{files_after, files_of}
use Rattle.txn_client_journals.specs.Merged.{Did, Lands, Merged, log_of, with_receipt}
use Rattle.txn_client_journals.specs.Traces.{call_in, told_in, next_in, op_in, trace_of, with_rows}
use Rattle.txn_client_journals.proofs.Files.{log_files}
use Rattle.txn_client_journals.proofs.Shares.{receipts_reverse}
use Rattle.txn_audit.specs.HistoryEnds.{HistoriesEndAt, created_by, versions_in, boundary_by, boundary_in}

-- the versions

module _ {T : Type 0} where
  answer_quiet : (rows : List (Row T)) (op : ℕ) (answer : Option (Answer T)) → versions_of (rows ++ answer_rows op answer) ≡ versions_of rows
  answer_quiet rows op None = ap versions_of (append-nil rows)
  answer_quiet rows op (Some answer) = versions_of-more rows (Answered op answer)

  changes : (rows : List (Row T)) (op : ℕ) (files : Files) (request : Request) → versions_of (rows ++ effect_rows op (may_change files request)) ≡ with_version (versions_of rows) (created request)
  changes rows op files (requests.Put path bytes mode) = versions_of-more rows (Effect op (requests.Put path bytes mode))
  changes rows op files (requests.Get path known) = ap versions_of (append-nil rows)
  changes rows op files (requests.List prefix after limit) = ap versions_of (append-nil rows)
  changes rows op files (requests.Delete path) = removes (get files path)
    where
      removes : (found : Option Got) → versions_of (rows ++ effect_rows op (cond (is_some found) (Some (requests.Delete path)) None)) ≡ versions_of rows
      removes None = ap versions_of (append-nil rows)
      removes (Some got) = versions_of-more rows (Effect op (requests.Delete path))

  effects : (b : Bool) (rows : List (Row T)) (op : ℕ) (files : Files) (request : Request) → versions_of (rows ++ effect_rows op (cond b (may_change files request) None)) ≡ with_version (versions_of rows) (cond b (created request) None)
  effects true rows op files request = changes rows op files request
  effects false rows op files request = ap versions_of (append-nil rows)

  steps_made : (m : Merged T) (client : ℕ) (step : Step T) (answer : Option (Answer T)) → versions_of (trace_of m) ≡ versions_in (log_of m) → versions_of (with_rows m client step answer (trace_of m)) ≡ versions_in (with_receipt client step (log_of m))
  steps_made m client (steps.Begin call) answer e = answer_quiet (trace_of m ++ Begun (next_in m) (call_in m client call) ∷ []) (next_in m) (told_in m client answer) ∙ (versions_of-more (trace_of m) (Begun (next_in m) (call_in m client call)) ∙ e)
  steps_made m client (steps.Act op (acts.Receive receipt)) answer e =
      answer_quiet (trace_of m ++ effect_rows (op_in m client op) (effect_of (files_of (log_of m)) receipt.request receipt.reply)) (op_in m client op) (told_in m client answer)
      ∙ (effects (took receipt.reply) (trace_of m) (op_in m client op) (files_of (log_of m)) receipt.request ∙ ap (λ (versions : List Version). with_version versions (cond (took receipt.reply) (created receipt.request) None)) e)
  steps_made m client (steps.Act op acts.Look) answer e = answer_quiet (trace_of m) (op_in m client op) (told_in m client answer) ∙ e
  steps_made m client (steps.Act op acts.Lacks) answer e = answer_quiet (trace_of m) (op_in m client op) (told_in m client answer) ∙ e
  steps_made m client (steps.Act op (acts.Fails request)) answer e = answer_quiet (trace_of m) (op_in m client op) (told_in m client answer) ∙ e
  steps_made m client (steps.Act op (acts.GiveUp left)) answer e = e
  steps_made m client (steps.Killed lefts) answer e = e

  -- a trace makes the versions that the log of its list creates
  pub versions_made : (m : Merged T) → versions_of (trace_of m) ≡ versions_in (log_of m)
  versions_made [] = refl
  versions_made (Did client row ∷ m) = steps_made m client row.step row.answer (versions_made m)
  versions_made (Lands landing ∷ m) =
      effects (took landing.reply) (trace_of m) (op_in m landing.client landing.op) (files_of (log_of m)) landing.request ∙ ap (λ (versions : List Version). with_version versions (cond (took landing.reply) (created landing.request) None)) (versions_made m)

-- the boundary

same_tie : (path : Segments) → eq_by_cmp path_cmp world_boundary path ≡ is_boundary path
same_tie path = (eq_by_cmp_equiv path_cmp_total).symm world_boundary path

abbrev said_of : Option Got → ℕ
said_of found = boundary_said (option_map (λ (got : Got). got.bytes) found)

said_put : (b : Bool) (got : Got) (found : Option Got) → said_of (cond b (Some got) found) ≡ cond b (boundary_said (Some got.bytes)) (said_of found)
said_put true got found = refl
said_put false got found = refl

said_removed : (b : Bool) (found : Option Got) → said_of (cond b None found) ≡ cond b 0 (said_of found)
said_removed true found = refl
said_removed false found = refl

said_by : (files : Files) (before : ℕ) (request : Request) (reply : Reply) → said_of (get files world_boundary) ≡ before → said_of (get (files_after files request reply) world_boundary) ≡ boundary_by before request reply
said_by files before (requests.Put path bytes mode) (replies.Put (Ok token)) e =
    let got : Got = record { bytes = bytes; token = token } in
    ap said_of (get-insert path_cmp_total files path got world_boundary ∙ ap (λ b. cond b (Some got) (get files world_boundary)) (same_tie path)) ∙ (said_put (is_boundary path) got (get files world_boundary) ∙ ap (λ (n : ℕ). cond (is_boundary path) (boundary_said (Some bytes)) n) e)
said_by files before (requests.Delete path) (replies.Delete (Ok done)) e =
    ap said_of (get-remove path_cmp_total files path world_boundary ∙ ap (λ b. cond b None (get files world_boundary)) (same_tie path)) ∙ (said_removed (is_boundary path) (get files world_boundary) ∙ ap (λ (n : ℕ). cond (is_boundary path) 0 n) e)
said_by files before request reply e = e

boundary_left : (log : List LogRow) → said_of (get (files_of log) world_boundary) ≡ boundary_in log
boundary_left [] = ap said_of (get-empty path_cmp world_boundary)
boundary_left (row ∷ log) = said_by (files_of log) (boundary_in log) row.request row.reply (boundary_left log)

-- what a log leaves is how the histories end

pub ends_at : {T : Type 0} (rows : List LogRow) (entries boundary : ℕ) → entries ≡ length (versions_in (reverse rows)) → boundary ≡ boundary_in (reverse rows) → HistoriesEndAt T rows entries boundary
ends_at {T = T} rows entries boundary counted stands page clients encode decode get_epoch set_epoch ds store room is_log shares m merges =
    let run = shares.runs m merges in
    let log : log_of (reverse m) ≡ reverse rows = receipts_reverse m ∙ ap reverse merges.receipts in
    let has = reached_stored encode decode get_epoch set_epoch run.state (run_reaches_or_lacking encode decode get_epoch set_epoch clients page _ run.state room run.runs) in
    let files : run.state.store.files ≡ files_of (reverse rows) = ap (λ (s : StoreState). s.files) run.store_is ∙ log_files (reverse rows) store is_log in
    record {
      newest = ap length (versions_made (reverse m) ∙ ap versions_in log) ∙ sym counted;
      stands =
          ap (λ (trace : List (Row T)). history.boundary trace) (sym run.trace)
          ∙ (ap boundary_said (sym (has world_boundary))
          ∙ (ap (λ (fs : Files). said_of (get fs world_boundary)) files ∙ (boundary_left (reverse rows) ∙ sym stands)));
    }

-- what has been counted

counted_more : (b : Bool) (versions : List Version) (version : Version) → length (cond b versions (versions ++ version ∷ [])) ≡ length versions + cond b 0 1
counted_more true versions version = omega arith
counted_more false versions version = length-append versions (version ∷ [])

among : (has other : ℕ → Bool) (id : Option ℕ) → ((n : ℕ) → has n ≡ other n) → is_among has id ≡ is_among other id
among has other None same = refl
among has other (Some id) same = same id

length_with : (versions : List Version) (found : Option Version) → length (with_version versions found) ≡ length versions + cond (is_among (has_id versions) (option_map (λ (version : Version). version.0) found)) 0 1
length_with versions None = omega arith
length_with versions (Some version) = counted_more (has_id versions version.0) versions version

-- the rows up to one more, the newest first
abbrev so_far : List LogRow → ℕ → List LogRow
so_far rows k = reverse (take k rows)

so_far_more : (rows : List LogRow) (k : ℕ) (row : LogRow) → k < length rows → row ≡ get_or rows k row → so_far rows (k + 1) ≡ row ∷ so_far rows k
so_far_more rows k row lt is = ap reverse (take_more rows k row lt ∙ ap (λ (r : LogRow). take k rows ++ r ∷ []) (sym is)) ∙ reverse-append (take k rows) (row ∷ [])

module _ (rows : List LogRow) (k : ℕ) (row : LogRow) (lt : k < length rows) (is : row ≡ get_or rows k row) where
  made : versions_in (so_far rows (k + 1)) ≡ with_version (versions_in (so_far rows k)) (created_by row)
  made = ap versions_in (so_far_more rows k row lt is)

  pub id_entered : (old new : ℕ → Bool) (id : Option ℕ) → id ≡ option_map (λ (version : Version). version.0) (created_by row) → ((n : ℕ) → old n ≡ has_id (versions_in (so_far rows k)) n) → ((n : ℕ) → new n ≡ (old n || is_id n id)) → (n : ℕ) → new n ≡ has_id (versions_in (so_far rows (k + 1))) n
  id_entered old new id e has adds n =
      adds n ∙ (ap (λ b. b || is_id n id) (has n) ∙ (ap (λ (i : Option ℕ). has_id (versions_in (so_far rows k)) n || is_id n i) e ∙ (sym (has_with (versions_in (so_far rows k)) (created_by row) n) ∙ ap (λ (versions : List Version). has_id versions n) (sym made))))

  pub id_counted : (old : ℕ → Bool) (before after : ℕ) (id : Option ℕ) → id ≡ option_map (λ (version : Version). version.0) (created_by row) → ((n : ℕ) → old n ≡ has_id (versions_in (so_far rows k)) n) → before ≡ length (versions_in (so_far rows k)) → after ≡ before + cond (is_among old id) 0 1 → after ≡ length (versions_in (so_far rows (k + 1)))
  id_counted old before after id e has is_before counts =
      counts ∙ (ap (λ b. before + cond b 0 1) (among old (has_id (versions_in (so_far rows k))) id has) ∙ (ap (λ (i : Option ℕ). before + cond (is_among (has_id (versions_in (so_far rows k))) i) 0 1) e
      ∙ (ap (λ (n : ℕ). n + cond (is_among (has_id (versions_in (so_far rows k))) (option_map (λ (version : Version). version.0) (created_by row))) 0 1) is_before ∙ (sym (length_with (versions_in (so_far rows k)) (created_by row)) ∙ ap length (sym made)))))

  pub boundary_followed : (before after : ℕ) → before ≡ boundary_in (so_far rows k) → after ≡ boundary_by before row.request row.reply → after ≡ boundary_in (so_far rows (k + 1))
  boundary_followed before after e followed = followed ∙ (ap (λ (n : ℕ). boundary_by n row.request row.reply) e ∙ ap boundary_in (sym (so_far_more rows k row lt is)))

-- what stands where all rows are counted
pub ends_there : {T : Type 0} (rows : List LogRow) (k entries boundary : ℕ) → length rows ≤ k → entries ≡ length (versions_in (so_far rows k)) → boundary ≡ boundary_in (so_far rows k) → HistoriesEndAt T rows entries boundary
ends_there rows k entries boundary all counted stands =
    let whole : so_far rows k ≡ reverse rows = ap reverse (take_all k rows all) in
    ends_at rows entries boundary (counted ∙ ap (λ (log : List LogRow). length (versions_in log)) whole) (stands ∙ ap boundary_in whole)
