-- How each history of recordings ends, where no put without a reply may decide it.
use Rattle.std.proofs.Common.{◌≡◌, ◌⊎◌, inl, inr, ◌≤◌, ◌<◌, ◌+◌, ◌==◌, ◌||◌, ℕ, zero, suc, nat_lt, max, Bool, true, false, true≢false, cond, List, [], ◌∷◌, ◌++◌, length, take, reverse, get_or, Option, Some, None, unwrap_or, Ok, Err, slice_get, refl, sym, ap, subst, ◌∙◌, arith}
use Rattle.std.proofs.lemmas.Bool.{cases_lt, eq-eqb, eqb-true, ltb-false, false≢true}
use Rattle.std.proofs.Math.Bool.{or-true}
use Rattle.std.proofs.lemmas.List.{take_all, reverse-append}
use Rattle.std.proofs.lemmas.Option.{same_Some, slice_get_within, get_or_from_slice_get, slice_get-get_or}
use Rattle.std.specs.FinMap.{get, get-insert, get-remove, get-empty}
use Rattle.std.specs.Ordering.{eq_by_cmp}
use Rattle.std.specs.Option.{option_map}
use Rattle.txn_store.specs.Paths.{Segments, path_cmp}
use Rattle.txn_store.proofs.FileLemmas.{path_cmp_total}
use Rattle.txn_store.specs.Store.{Files, State as StoreState}
use Rattle.txn_store.specs.Requests.{Serves}
use Rattle.txn_store.specs.VersionOf.{version_of}
use Rattle.txn_store.specs.declared.store.Got.{Got}
use Rattle.txn_store.specs.declared.store.PutMode.{PutMode}
use Rattle.txn_store.specs.declared.request.Request.{Request}
use Rattle.txn_store.specs.declared.request.Request.TheVariants as requests
use Rattle.txn_store.specs.declared.request.Reply.{Reply}
use Rattle.txn_store.specs.declared.request.Reply.TheVariants as replies
use Rattle.txn_history.specs.declared.trace.RowOf.TheVariants.{Effect, Begun}
use Rattle.txn_history.specs.declared.event.Answer.{Answer}
use Rattle.txn_history.specs.Names.{world_names}
use Rattle.txn_history.specs.Added.{answer_rows, effect_rows}
use Rattle.txn_history.specs.History as history
use Rattle.txn_history.specs.History.{Version, is_id, is_boundary, boundary_said, created, has_id, versions_of}
use Rattle.txn_history.specs.Laws.{NeverFalls}
use Rattle.txn_history.specs.Trace.{Row as Trace}
use Rattle.txn_history.proofs.Lists.{get_kept, get_last}
use Rattle.txn_history.proofs.Rows.{front_more}
use Rattle.txn_history.proofs.Apart.{tied_path}
use Rattle.txn_history.proofs.Fronts.{effect_reached, never_falls}
use Rattle.txn_history.proofs.Entries.{AreCounted, lacks_counted, fronts_of}
use Rattle.txn_history.proofs.Legal.{are_moves}
use Rattle.txn_machine.specs.plain.Machine.{took, effect_of}
use Rattle.txn_machine.specs.traces.Beside.{boundary_after}
use Rattle.txn_machine.proofs.traces.Indexes.{has_with}
use Rattle.txn_client_journals.specs.declared.rows.LogRow.{LogRow}
use Rattle.txn_client_journals.specs.declared.rows.Act.TheVariants as acts
use Rattle.txn_client_journals.specs.declared.rows.Step.{Step}
use Rattle.txn_client_journals.specs.declared.rows.Step.TheVariants as steps
use Rattle.txn_client_journals.specs.Logs.{IsLog, files_after, files_of}
use Rattle.txn_client_journals.specs.Merged.{Did, Lands, Merged, log_of, with_receipt}
use Rattle.txn_client_journals.specs.Traces.{call_in, told_in, next_in, op_in, trace_of, with_rows, failed_of}
use Rattle.txn_client_journals.specs.Verdict.{AuditedDiary, clients_in}
use Rattle.txn_client_journals.specs.Shares.{Merges}
use Rattle.txn_client_journals.proofs.Files.{log_files}
use Rattle.txn_client_journals.proofs.Shares.{receipts_reverse}
use Rattle.txn_audit.specs.HistoryEnds.{EndsAt, created_by, versions_in, boundary_by, boundary_in as log_boundary}
use Rattle.txn_audit.proofs.HistoryEnding.{versions_made, ends_at}
use Rattle.txn_audit_recordings.specs.declared.row.RecordedRow.{RecordedRow}
use Rattle.txn_audit_recordings.specs.declared.row.RecordedRow.TheVariants as kinds
use Rattle.txn_audit_effects.specs.declared.clock.Clock.{Clock}
use Rattle.txn_audit.specs.recordings.Calls.{StoreCall, EndsWith, HasCall, IsCall, HasReply, AreCalls}
use Rattle.txn_audit.specs.recordings.OneHistory.{AreOf, IsOneHistoryOf}
use Rattle.txn_audit.specs.recordings.Undecided.{FilePut, file_put, file_shown, version_in, boundary_in, shown_by, shown_at, answers, lost_at, greatest_in, greatest_at, greatest_of, version_shown, boundary_shown, goes_beyond, lost_in, lost_here, lost_of, undecided}

-- a row of a log
abbrev pub IsIn : LogRow → List LogRow → Type 0
IsIn row [] = ⊥
IsIn row (first ∷ rows) = (first ≡ row) ⊎ IsIn row rows

in_append : (row : LogRow) (xs ys : List LogRow) → IsIn row (xs ++ ys) → IsIn row xs ⊎ IsIn row ys
in_append row [] ys is = inr is
in_append row (x ∷ xs) ys (inl is) = inl (inl is)
in_append row (x ∷ xs) ys (inr is) = elim (in_append row xs ys is) [ inl before ↦ inl (inr before) | inr later ↦ inr later ]

in_left : (row : LogRow) (xs ys : List LogRow) → IsIn row xs → IsIn row (xs ++ ys)
in_left row [] ys is = absurd is
in_left row (x ∷ xs) ys (inl is) = inl is
in_left row (x ∷ xs) ys (inr is) = inr (in_left row xs ys is)

in_right : (row : LogRow) (xs ys : List LogRow) → IsIn row ys → IsIn row (xs ++ ys)
in_right row [] ys is = is
in_right row (x ∷ xs) ys is = inr (in_right row xs ys is)

reverse_first : (x : LogRow) (xs : List LogRow) → reverse (x ∷ xs) ≡ reverse xs ++ x ∷ []
reverse_first x xs = reverse-append (x ∷ []) xs

in_reverse : (row : LogRow) (rows : List LogRow) → IsIn row rows → IsIn row (reverse rows)
in_reverse row [] is = absurd is
in_reverse row (x ∷ xs) (inl is) = subst (IsIn row) (sym (reverse_first x xs)) (in_right row (reverse xs) (x ∷ []) (inl is))
in_reverse row (x ∷ xs) (inr is) = subst (IsIn row) (sym (reverse_first x xs)) (in_left row (reverse xs) (x ∷ []) (in_reverse row xs is))

of_reverse : (row : LogRow) (rows : List LogRow) → IsIn row (reverse rows) → IsIn row rows
of_reverse row [] is = absurd is
of_reverse row (x ∷ xs) is = elim (in_append row (reverse xs) (x ∷ []) (subst (IsIn row) (reverse_first x xs) is)) [
  | inl before ↦ inr (of_reverse row xs before)
  | inr (inl here) ↦ inl here
  | inr (inr none) ↦ absurd none
]

-- a row of the log puts this file
pub record PutsFile (row : LogRow) (file : FilePut) : Type 0 where
  pub mode : PutMode
  pub token : ℕ
  pub asks : row.request ≡ requests.Put file.0 file.1 mode
  pub done : row.reply ≡ replies.Put (Ok token)

-- Some row of these puts this file.
abbrev pub IsPutIn : List LogRow → FilePut → Type 0
IsPutIn rows file = (row : LogRow) × IsIn row rows × PutsFile row file

-- each file was put

by_insert : (b : Bool) (files : Files) (path at : Segments) (bytes : List ℕ) (mode : PutMode) (token : ℕ) (got : Got) → eq_by_cmp path_cmp at path ≡ b → cond b (Some (record { bytes = bytes; token = token })) (get files at) ≡ Some got → (get files at ≡ Some got) ⊎ ((path ≡ at) × (bytes ≡ got.bytes))
by_insert true files path at bytes mode token got tied is = inr (sym (tied_path at path tied), ap (λ (got : Got). got.bytes) (same_Some (record { bytes = bytes; token = token }) got is))
by_insert false files path at bytes mode token got tied is = inl is

by_remove : (b : Bool) (found : Option Got) (got : Got) → cond b None found ≡ Some got → found ≡ Some got
by_remove true found got is = cc
by_remove false found got is = is

-- a file that stands after a call stood before it, or was put by it
found_after : (files : Files) (row : LogRow) (request : Request) (reply : Reply) (at : Segments) (got : Got) → row.request ≡ request → row.reply ≡ reply → get (files_after files request reply) at ≡ Some got → (get files at ≡ Some got) ⊎ PutsFile row (at, got.bytes)
found_after files row (requests.Put path bytes mode) (replies.Put (Ok token)) at got asks done found =
    elim (by_insert (eq_by_cmp path_cmp at path) files path at bytes mode token got refl (sym (get-insert path_cmp_total files path (record { bytes = bytes; token = token }) at) ∙ found)) [
      | inl before ↦ inl before
      | inr here ↦ inr (record { mode = mode; token = token; asks = asks ∙ (ap (λ path. requests.Put path bytes mode) here.0 ∙ ap (λ bytes. requests.Put at bytes mode) here.1); done = done })
    ]
found_after files row (requests.Delete path) (replies.Delete (Ok none)) at got asks done found = inl (by_remove (eq_by_cmp path_cmp at path) (get files at) got (sym (get-remove path_cmp_total files path at) ∙ found))
found_after files row request reply at got asks done found = inl found

found_put : (rows : List LogRow) (at : Segments) (got : Got) → get (files_of rows) at ≡ Some got → IsPutIn rows (at, got.bytes)
found_put [] at got found = let none : get (files_of []) at ≡ None = get-empty path_cmp at in let clash = sym none ∙ found in cc
found_put (row ∷ rows) at got found = elim (found_after (files_of rows) row row.request row.reply at got refl refl found) [
  | inl before ↦ let put = found_put rows at got before in (put.0, inr put.1, put.2)
  | inr here ↦ (row, inl refl, here)
]

-- the call of a row, on an honest store
pub record WasServed (row : LogRow) (rows : List LogRow) : Type 0 where
  pub older : List LogRow
  pub before : StoreState
  pub store : StoreState
  pub leads : IsLog older before
  pub serves : Serves row.request before row.reply store
  pub within : (other : LogRow) → IsIn other older → IsIn other rows

was_served : (row : LogRow) (rows : List LogRow) (store : StoreState) → IsLog rows store → IsIn row rows → WasServed row rows
was_served row [] store is_log is = absurd is
was_served row (first ∷ rows) store is_log (inl here) = record {
  older = rows;
  before = is_log.0;
  store = store;
  leads = is_log.1;
  serves = rw (← here) is_log.2;
  within = λ other is. inr is;
}
was_served row (first ∷ rows) store is_log (inr later) =
    let rest = was_served row rows is_log.0 is_log.1 later in
    record { older = rest.older; before = rest.before; store = rest.store; leads = rest.leads; serves = rest.serves; within = λ other is. inr (rest.within other is) }

-- what a reply shows was put
shows_put : (row : LogRow) (rows : List LogRow) (request : Request) (reply : Reply) (file : FilePut) → IsIn row rows → WasServed row rows → row.request ≡ request → row.reply ≡ reply → file_shown request reply ≡ Some file → IsPutIn rows file
shows_put row rows (requests.Put path bytes mode) (replies.Put (Ok token)) file is served asks done shown =
    let same : ◌≡◌ {A = FilePut} (path, bytes) file = same_Some (path, bytes) file shown in
    (row, is, record { mode = mode; token = token; asks = subst (λ (file : FilePut). row.request ≡ requests.Put file.0 file.1 mode) same asks; done = done })
shows_put row rows (requests.Get path known) (replies.Get (Ok got)) file is served asks done shown =
    let same : ◌≡◌ {A = FilePut} (path, got.bytes) file = same_Some (path, got.bytes) file shown in
    let asked : Serves (requests.Get path known) served.before row.reply served.store = subst (λ (request : Request). Serves request served.before row.reply served.store) asks served.serves in
    let gets : Serves (requests.Get path known) served.before (replies.Get (Ok got)) served.store = subst (λ (reply : Reply). Serves (requests.Get path known) served.before reply served.store) done asked in
    let put = found_put served.older path got (ap (λ (files : Files). get files path) (sym (log_files served.older served.before served.leads)) ∙ gets.found) in
    (put.0, served.within put.0 put.1, subst (PutsFile put.0) same put.2)
shows_put row rows request reply file is served asks done shown = cc

no_version : (b : Bool) (version : Version) → ◌≡◌ {A = Option Version} (cond b None None) (Some version) → ⊥
no_version true version e = cc
no_version false version e = cc

abbrev named : Option ℕ → List ℕ → Option Version
named found bytes = option_map (λ id. (id, bytes)) found

-- a row that creates a version puts its file
creates_put : (row : LogRow) (request : Request) (reply : Reply) (before store : StoreState) (version : Version) → row.request ≡ request → row.reply ≡ reply → Serves request before reply store → cond (took reply) (created request) None ≡ Some version → (file : FilePut) × PutsFile row file × (version_in file ≡ version.0)
creates_put row (requests.Put path bytes mode) (replies.Put (Ok token)) before store version asks done serves creates =
    ((path, bytes), record { mode = mode; token = token; asks = asks; done = done }, by (version_of world_names path) creates)
  where
    by : (found : Option ℕ) → named found bytes ≡ Some version → unwrap_or found 0 ≡ version.0
    by None e = cc
    by (Some id) e = ap (λ (version : Version). version.0) (same_Some (id, bytes) version e)
creates_put row (requests.Put path bytes mode) (replies.Put (Err why)) before store version asks done serves creates = cc
creates_put row (requests.Put path bytes mode) (replies.Get answer) before store version asks done serves creates = absurd serves
creates_put row (requests.Put path bytes mode) (replies.List answer) before store version asks done serves creates = absurd serves
creates_put row (requests.Put path bytes mode) (replies.Delete answer) before store version asks done serves creates = absurd serves
creates_put row (requests.Get path known) reply before store version asks done serves creates = absurd (no_version (took reply) version creates)
creates_put row (requests.List prefix after limit) reply before store version asks done serves creates = absurd (no_version (took reply) version creates)
creates_put row (requests.Delete path) reply before store version asks done serves creates = absurd (no_version (took reply) version creates)

-- what a row that puts a file creates
put_creates : (row : LogRow) (file : FilePut) (id : ℕ) → PutsFile row file → version_of world_names file.0 ≡ Some id → created_by row ≡ Some (id, file.1)
put_creates row file id puts is = rw puts.done (rw puts.asks (rw is refl))

-- the versions of a log

made_by : (rows : List LogRow) (n : ℕ) → has_id (versions_in rows) n ≡ true → (row : LogRow) × IsIn row rows × (version : Version) × (created_by row ≡ Some version) × (version.0 ≡ n)
made_by [] n has = absurd (false≢true has)
made_by (row ∷ rows) n has = by (made_by rows n) (has_id (versions_in rows) n) (created_by row) refl refl (sym (has_with (versions_in rows) (created_by row) n) ∙ has)
  where
    by : (has_id (versions_in rows) n ≡ true → (other : LogRow) × IsIn other rows × (version : Version) × (created_by other ≡ Some version) × (version.0 ≡ n)) → (before : Bool) (made : Option Version) → has_id (versions_in rows) n ≡ before → created_by row ≡ made → (has_id (versions_in rows) n || is_id n (option_map (λ (version : Version). version.0) made)) ≡ true → (other : LogRow) × IsIn other (row ∷ rows) × (version : Version) × (created_by other ≡ Some version) × (version.0 ≡ n)
    by rest true made here is either = let found = rest here in (found.0, inr found.1, found.2, found.3, found.4)
    by rest false None here is either = absurd (false≢true (rw here at either))
    by rest false (Some version) here is either = (row, inl refl, version, is, eqb-true version.0 n (rw here at either))

is_made : (rows : List LogRow) (row : LogRow) (id : ℕ) (bytes : List ℕ) → IsIn row rows → created_by row ≡ Some (id, bytes) → has_id (versions_in rows) id ≡ true
is_made [] row id bytes is makes = absurd is
is_made (first ∷ rows) row id bytes (inl here) makes =
    let makes' : created_by first ≡ Some (id, bytes) = ap created_by here ∙ makes in
    has_with (versions_in rows) (created_by first) id ∙ (ap (λ (made : Option Version). has_id (versions_in rows) id || is_id id (option_map (λ (version : Version). version.0) made)) makes' ∙ (ap (λ b. has_id (versions_in rows) id || b) (eq-eqb id id refl) ∙ or-true (has_id (versions_in rows) id)))
is_made (first ∷ rows) row id bytes (inr later) makes =
    has_with (versions_in rows) (created_by first) id ∙ ap (λ b. b || is_id id (option_map (λ (version : Version). version.0) (created_by first))) (is_made rows row id bytes later makes)

has_at : (versions : List Version) (k id : ℕ) (version : Version) → slice_get versions k ≡ Some version → version.0 ≡ id → has_id versions id ≡ true
has_at [] k id version at is = cc
has_at (first ∷ versions) zero id version at is = let here : (first.0 == id) ≡ true = eq-eqb first.0 id (ap (λ (version : Version). version.0) (same_Some first version at) ∙ is) in ap (λ b. b || has_id versions id) here
has_at (first ∷ versions) (suc k) id version at is = ap (λ b. (first.0 == id) || b) (has_at versions k id version at is) ∙ or-true (first.0 == id)

-- this boundary is one that some row put, or 0
abbrev IsRaised : ℕ → List LogRow → Type 0
IsRaised boundary rows = (boundary ≡ 0) ⊎ ((file : FilePut) × IsPutIn rows file × (boundary_in file ≡ boundary))

raised_before : (boundary : ℕ) (row : LogRow) (rows : List LogRow) → IsRaised boundary rows → IsRaised boundary (row ∷ rows)
raised_before boundary row rows (inl none) = inl none
raised_before boundary row rows (inr put) = inr (put.0, (put.1.0, inr put.1.1, put.1.2), put.2)

raised_put : (b : Bool) (before : ℕ) (row : LogRow) (rows : List LogRow) (path : Segments) (bytes : List ℕ) → is_boundary path ≡ b → PutsFile row (path, bytes) → IsRaised before rows → IsRaised (cond b (boundary_said (Some bytes)) before) (row ∷ rows)
raised_put true before row rows path bytes tied puts rest = inr ((path, bytes), (row, inl refl, puts), rw tied refl)
raised_put false before row rows path bytes tied puts rest = raised_before before row rows rest

raised_removed : (b : Bool) (before : ℕ) (row : LogRow) (rows : List LogRow) → IsRaised before rows → IsRaised (cond b 0 before) (row ∷ rows)
raised_removed true before row rows rest = inl refl
raised_removed false before row rows rest = raised_before before row rows rest

raised_after : (before : ℕ) (row : LogRow) (rows : List LogRow) (request : Request) (reply : Reply) → row.request ≡ request → row.reply ≡ reply → IsRaised before rows → IsRaised (boundary_by before request reply) (row ∷ rows)
raised_after before row rows (requests.Put path bytes mode) (replies.Put (Ok token)) asks done rest = raised_put (is_boundary path) before row rows path bytes refl (record { mode = mode; token = token; asks = asks; done = done }) rest
raised_after before row rows (requests.Delete path) (replies.Delete (Ok none)) asks done rest = raised_removed (is_boundary path) before row rows rest
raised_after before row rows request reply asks done rest = raised_before before row rows rest

raised_by : (rows : List LogRow) → IsRaised (log_boundary rows) rows
raised_by [] = inl refl
raised_by (row ∷ rows) = raised_after (log_boundary rows) row rows row.request row.reply refl refl (raised_by rows)

by_said : (b : Bool) (before said : ℕ) → cond b said 0 ≤ cond b said before
by_said true before said = omega arith
by_said false before said = omega arith

-- what a file that was put makes of the boundary of a trace that never falls

module _ {T : Type 0} where
  -- a row of a trace puts this file
  abbrev HasEffect : List (Trace T) → FilePut → Type 0
  HasEffect trace file = (k : ℕ) × (op : ℕ) × (mode : PutMode) × (slice_get trace k ≡ Some (Effect op (requests.Put file.0 file.1 mode)))

  has_more : (trace more : List (Trace T)) (file : FilePut) → HasEffect trace file → HasEffect (trace ++ more) file
  has_more trace more file has = (has.0, has.1, has.2, get_kept trace more has.0 (Effect has.1 (requests.Put file.0 file.1 has.2)) has.3)

  has_here : (trace : List (Trace T)) (op : ℕ) (files : Files) (request : Request) (reply : Reply) (row : LogRow) (file : FilePut) → row.request ≡ request → row.reply ≡ reply → PutsFile row file → HasEffect (trace ++ effect_rows op (effect_of files request reply)) file
  has_here trace op files request reply row file asks done puts =
      let request_is : request ≡ requests.Put file.0 file.1 puts.mode = sym asks ∙ puts.asks in
      let reply_is : reply ≡ replies.Put (Ok puts.token) = sym done ∙ puts.done in
      (length trace, op, puts.mode, rw request_is (rw reply_is (get_last trace (Effect op (requests.Put file.0 file.1 puts.mode)))))

  step_effect : (m : Merged T) (client : ℕ) (step : Step T) (answer : Option (Answer T)) (row : LogRow) (file : FilePut) → (IsIn row (log_of m) → HasEffect (trace_of m) file) → IsIn row (with_receipt client step (log_of m)) → PutsFile row file → HasEffect (with_rows m client step answer (trace_of m)) file
  step_effect m client (steps.Begin call) answer row file before is puts = has_more (trace_of m ++ Begun (next_in m) (call_in m client call) ∷ []) (answer_rows (next_in m) (told_in m client answer)) file (has_more (trace_of m) (Begun (next_in m) (call_in m client call) ∷ []) file (before is))
  step_effect m client (steps.Act op (acts.Receive receipt)) answer row file before is puts =
      let effects = effect_rows (op_in m client op) (effect_of (files_of (log_of m)) receipt.request receipt.reply) in
      has_more (trace_of m ++ effects) (answer_rows (op_in m client op) (told_in m client answer)) file (elim is [
        | inl here ↦ has_here (trace_of m) (op_in m client op) (files_of (log_of m)) receipt.request receipt.reply row file (sym (ap (λ (row : LogRow). row.request) here)) (sym (ap (λ (row : LogRow). row.reply) here)) puts
        | inr later ↦ has_more (trace_of m) effects file (before later)
      ])
  step_effect m client (steps.Act op acts.Look) answer row file before is puts = has_more (trace_of m) (answer_rows (op_in m client op) (told_in m client answer)) file (before is)
  step_effect m client (steps.Act op acts.Lacks) answer row file before is puts = has_more (trace_of m) (answer_rows (op_in m client op) (told_in m client answer)) file (before is)
  step_effect m client (steps.Act op (acts.Fails request)) answer row file before is puts = has_more (trace_of m) (answer_rows (op_in m client op) (told_in m client answer)) file (before is)
  step_effect m client (steps.Act op (acts.GiveUp left)) answer row file before is puts = before is
  step_effect m client (steps.Killed lefts) answer row file before is puts = before is

  -- each file that a row of a merged list's log puts, some row of its trace puts
  has_effect : (m : Merged T) (row : LogRow) (file : FilePut) → IsIn row (log_of m) → PutsFile row file → HasEffect (trace_of m) file
  has_effect [] row file is puts = absurd is
  has_effect (Did client made ∷ m) row file is puts = step_effect m client made.step made.answer row file (λ within. has_effect m row file within puts) is puts
  has_effect (Lands landing ∷ m) row file (inl here) puts = has_here (trace_of m) (op_in m landing.client landing.op) (files_of (log_of m)) landing.request landing.reply row file (sym (ap (λ (row : LogRow). row.request) here)) (sym (ap (λ (row : LogRow). row.reply) here)) puts
  has_effect (Lands landing ∷ m) row file (inr later) puts = has_more (trace_of m) (effect_rows (op_in m landing.client landing.op) (effect_of (files_of (log_of m)) landing.request landing.reply)) file (has_effect m row file later puts)

  -- a boundary that was put is reached
  reaches : (trace : List (Trace T)) (file : FilePut) → NeverFalls trace → HasEffect trace file → boundary_in file ≤ history.boundary trace
  reaches trace file rises has =
      let k = has.0 in
      let effect = Effect has.1 (requests.Put file.0 file.1 has.2) in
      let lt = slice_get_within trace k effect has.3 in
      let more : take (suc k) trace ≡ take k trace ++ effect ∷ [] = front_more trace k effect lt (get_or_from_slice_get trace k effect effect has.3) in
      let now : history.boundary (take (suc k) trace) ≡ boundary_after (history.boundary (take k trace)) (requests.Put file.0 file.1 has.2) = ap (λ (rows : List (Trace T)). history.boundary rows) more ∙ effect_reached (take k trace) has.1 (requests.Put file.0 file.1 has.2) in
      let least = by_said (is_boundary file.0) (history.boundary (take k trace)) (boundary_said (Some file.1)) in
      let up = rises (suc k) (length trace) (omega (arith, lt)) in
      let whole : history.boundary (take (length trace) trace) ≡ history.boundary trace = ap (λ (rows : List (Trace T)). history.boundary rows) (take_all (length trace) trace (omega arith)) in
      omega (arith, now, least, up, whole)

-- the greatest that replies show

abbrev measured : (FilePut → ℕ) → Option FilePut → ℕ
measured measure file = unwrap_or (option_map measure file) 0

module _ {T : Type 0} (measure : FilePut → ℕ) where
  shown_bound : (rows : List (RecordedRow T)) (n place : ℕ) (file : FilePut) → place < n → shown_at rows place ≡ Some file → measure file ≤ greatest_in measure rows n
  shown_bound rows zero place file lt at = absurd (omega (arith, lt))
  shown_bound rows (suc n) place file lt at = elim (cases_lt place n) [
    | inl less ↦ let rest = shown_bound rows n place file less at in omega (arith, rest)
    | inr le ↦
        let same : place ≡ n = omega (arith, lt, le) in
        let here : measured measure (shown_at rows n) ≡ measure file = ap (measured measure) (ap (shown_at rows) (sym same) ∙ at) in
        omega (arith, here)
  ]

  shown_within : (rows : List (RecordedRow T)) (place : ℕ) (file : FilePut) → shown_at rows place ≡ Some file → place < length rows
  shown_within rows place file at = by (slice_get rows place) refl at
    where
      by : (row : Option (RecordedRow T)) → slice_get rows place ≡ row → shown_by row (slice_get rows (place + 1)) ≡ Some file → place < length rows
      by None e shown = cc
      by (Some row) e shown = slice_get_within rows place row e

  greatest_bound : (recordings : List (List (RecordedRow T))) (n recording place : ℕ) (rows : List (RecordedRow T)) (file : FilePut) → recording < n → slice_get recordings recording ≡ Some rows → shown_at rows place ≡ Some file → measure file ≤ greatest_of measure recordings n
  greatest_bound recordings zero recording place rows file lt is at = absurd (omega (arith, lt))
  greatest_bound recordings (suc n) recording place rows file lt is at = elim (cases_lt recording n) [
    | inl less ↦ let rest = greatest_bound recordings n recording place rows file less is at in omega (arith, rest)
    | inr le ↦
        let same : recording ≡ n = omega (arith, lt, le) in
        let here : greatest_at measure (slice_get recordings n) ≡ greatest_in measure rows (length rows) = ap (greatest_at measure) (ap (slice_get recordings) (sym same) ∙ is) in
        let bound = shown_bound rows (length rows) place file (shown_within rows place file at) at in
        omega (arith, here, bound)
  ]

  -- a reply shows as much
  abbrev IsShown : List (RecordedRow T) → ℕ → Type 0
  IsShown rows greatest = (place : ℕ) × (file : FilePut) × (shown_at rows place ≡ Some file) × (measure file ≡ greatest)

  attained_in : (rows : List (RecordedRow T)) (n : ℕ) → (greatest_in measure rows n ≡ 0) ⊎ IsShown rows (greatest_in measure rows n)
  attained_in rows zero = inl refl
  attained_in rows (suc n) = by (shown_at rows n) refl (attained_in rows n)
    where
      by : (file : Option FilePut) → shown_at rows n ≡ file → (greatest_in measure rows n ≡ 0) ⊎ IsShown rows (greatest_in measure rows n) → (max (greatest_in measure rows n) (measured measure file) ≡ 0) ⊎ IsShown rows (max (greatest_in measure rows n) (measured measure file))
      by None at (inl none) = inl (omega (arith, none))
      by None at (inr shown) = let is = shown.3 in inr (shown.0, shown.1, shown.2, omega (arith, is))
      by (Some file) at before = elim (cases_lt (greatest_in measure rows n) (measure file)) [
        | inl lt ↦ inr (n, file, at, omega (arith, lt))
        | inr le ↦ elim before [
          | inl none ↦ inl (omega (arith, none, le))
          | inr shown ↦ let is = shown.3 in inr (shown.0, shown.1, shown.2, omega (arith, is, le))
        ]
      ]

  abbrev IsShownIn : List (List (RecordedRow T)) → ℕ → Type 0
  IsShownIn recordings greatest = (recording : ℕ) × (rows : List (RecordedRow T)) × (slice_get recordings recording ≡ Some rows) × IsShown rows greatest

  attained : (recordings : List (List (RecordedRow T))) (n : ℕ) → (greatest_of measure recordings n ≡ 0) ⊎ IsShownIn recordings (greatest_of measure recordings n)
  attained recordings zero = inl refl
  attained recordings (suc n) = by (slice_get recordings n) refl (attained recordings n)
    where
      by : (found : Option (List (RecordedRow T))) → slice_get recordings n ≡ found → (greatest_of measure recordings n ≡ 0) ⊎ IsShownIn recordings (greatest_of measure recordings n) → (max (greatest_of measure recordings n) (greatest_at measure found) ≡ 0) ⊎ IsShownIn recordings (max (greatest_of measure recordings n) (greatest_at measure found))
      by None at (inl none) = inl (omega (arith, none))
      by None at (inr shown) = let is = shown.3.3 in inr (shown.0, shown.1, shown.2, (shown.3.0, shown.3.1, shown.3.2, omega (arith, is)))
      by (Some rows) at before = elim (cases_lt (greatest_of measure recordings n) (greatest_in measure rows (length rows))) [
        | inl lt ↦ elim (attained_in rows (length rows)) [
          | inl none ↦ absurd (omega (arith, lt, none))
          | inr shown ↦ let is = shown.3 in inr (n, rows, at, (shown.0, shown.1, shown.2, omega (arith, lt, is)))
        ]
        | inr le ↦ elim before [
          | inl none ↦ inl (omega (arith, none, le))
          | inr shown ↦ let is = shown.3.3 in inr (shown.0, shown.1, shown.2, (shown.3.0, shown.3.1, shown.3.2, omega (arith, is, le)))
        ]
      ]

module _ {T : Type 0} (recordings : List (List (RecordedRow T))) where
  calls_is : (log : List LogRow) (calls : List StoreCall) (row : LogRow) → AreCalls recordings log calls → IsIn row log → (call : StoreCall) × HasCall recordings call × IsCall call row
  calls_is [] [] row are is = absurd is
  calls_is [] (c ∷ calls) row are is = absurd is
  calls_is (r ∷ log) [] row are is = absurd are
  calls_is (r ∷ log) (c ∷ calls) row are (inl here) = (c, are.0, subst (IsCall c) here are.1)
  calls_is (r ∷ log) (c ∷ calls) row are (inr later) = calls_is log calls row are.2 later

  row_is : (log : List LogRow) (calls : List StoreCall) (i : ℕ) (call : StoreCall) → AreCalls recordings log calls → slice_get calls i ≡ Some call → (row : LogRow) × IsIn row log × IsCall call row
  row_is [] [] i call are e = cc
  row_is [] (c ∷ calls) i call are e = absurd are
  row_is (r ∷ log) [] i call are e = absurd are
  row_is (r ∷ log) (c ∷ calls) zero call are e = (r, inl refl, subst (λ (call : StoreCall). IsCall call r) (same_Some c call e) are.1)
  row_is (r ∷ log) (c ∷ calls) (suc i) call are e = let found = row_is log calls i call are.2 e in (found.0, inr found.1, found.2)

not_one : (b : Bool) (n : ℕ) → n + cond b 1 0 ≡ 0 → b ≡ false
not_one true n e = absurd (omega (arith, e))
not_one false n e = refl

not_beyond : (version boundary : ℕ) (file : FilePut) → goes_beyond version boundary (Some file) ≡ false → (version_in file ≤ version) × (boundary_in file ≤ boundary)
not_beyond version boundary file none = by (nat_lt version (version_in file)) (nat_lt boundary (boundary_in file)) refl refl none
  where
    by : (b c : Bool) → nat_lt version (version_in file) ≡ b → nat_lt boundary (boundary_in file) ≡ c → (b || c) ≡ false → (version_in file ≤ version) × (boundary_in file ≤ boundary)
    by true c e f none = absurd (true≢false none)
    by false true e f none = absurd (true≢false none)
    by false false e f none = (ltb-false version (version_in file) e, ltb-false boundary (boundary_in file) f)

module _ {T : Type 0} where
  -- what a call shows, and what is lost

  shown_here : (rows : List (RecordedRow T)) (place op asked at : ℕ) (request : Request) (reply : Reply) (file : FilePut) → slice_get rows place ≡ Some (kinds.Ask op asked request) → slice_get rows (place + 1) ≡ Some (kinds.Reply op at reply) → file_shown request reply ≡ Some file → shown_at rows place ≡ Some file
  shown_here rows place op asked at request reply file asks ends shown = rw asks (rw ends (rw (eq-eqb op op refl) shown))

  unanswered : (op : ℕ) (next : Option (RecordedRow T)) → EndsWith next op None → answers op next ≡ false
  unanswered op (Some (kinds.Reply of at reply)) none = by (of == op) refl
    where
      by : (b : Bool) → (of == op) ≡ b → (of == op) ≡ false
      by true e = absurd (none at reply (ap (λ of. Some (kinds.Reply of at reply)) (eqb-true of op e)))
      by false e = e
  unanswered op next none = refl

  lost_here_is : (rows : List (RecordedRow T)) (place op asked : ℕ) (request : Request) (file : FilePut) → slice_get rows place ≡ Some (kinds.Ask op asked request) → EndsWith (slice_get rows (place + 1)) op None → file_put request ≡ Some file → lost_at rows place ≡ Some file
  lost_here_is rows place op asked request file asks none puts = rw asks (rw (unanswered op (slice_get rows (place + 1)) none) puts)

  -- what is lost goes no further where nothing may decide

  module _ (version boundary : ℕ) where
    lost_within : (rows : List (RecordedRow T)) (n place : ℕ) → place < n → lost_in version boundary rows n ≡ 0 → goes_beyond version boundary (lost_at rows place) ≡ false
    lost_within rows zero place lt none = absurd (omega (arith, lt))
    lost_within rows (suc n) place lt none = elim (cases_lt place n) [
      | inl less ↦ lost_within rows n place less (omega (arith, none))
      | inr le ↦
          let same : n ≡ place = omega (arith, lt, le) in
          ap (λ place. goes_beyond version boundary (lost_at rows place)) (sym same) ∙ not_one (goes_beyond version boundary (lost_at rows n)) (lost_in version boundary rows n) none
    ]

    lost_among : (recordings : List (List (RecordedRow T))) (n recording place : ℕ) (rows : List (RecordedRow T)) → recording < n → slice_get recordings recording ≡ Some rows → place < length rows → lost_of version boundary recordings n ≡ 0 → goes_beyond version boundary (lost_at rows place) ≡ false
    lost_among recordings zero recording place rows lt is within none = absurd (omega (arith, lt))
    lost_among recordings (suc n) recording place rows lt is within none = elim (cases_lt recording n) [
      | inl less ↦ lost_among recordings n recording place rows less is within (omega (arith, none))
      | inr le ↦
          let same : recording ≡ n = omega (arith, lt, le) in
          let here : lost_here version boundary (slice_get recordings n) ≡ lost_in version boundary rows (length rows) = ap (lost_here version boundary) (ap (slice_get recordings) (sym same) ∙ is) in
          lost_within rows (length rows) place within (omega (arith, none, here))
    ]

  -- a file that a row of the log puts goes no further than what replies show
  row_decided : (recordings : List (List (RecordedRow T))) (log : List LogRow) (calls : List StoreCall) (row : LogRow) (file : FilePut) → AreCalls recordings log calls → undecided recordings ≡ 0 → IsIn row log → PutsFile row file → (version_in file ≤ version_shown recordings) × (boundary_in file ≤ boundary_shown recordings)
  row_decided recordings log calls row file are none is puts =
      let found = calls_is recordings log calls row are is in
      by found.0 found.1 found.2 found.0.reply refl
    where
      by : (call : StoreCall) → HasCall recordings call → IsCall call row → (reply : Option (ℕ × Reply)) → call.reply ≡ reply → (version_in file ≤ version_shown recordings) × (boundary_in file ≤ boundary_shown recordings)
      by call has is (Some reply) e =
          let served : HasReply call.op row (Some reply) = rw e at is.reply in
          let ends : EndsWith (slice_get has.rows (call.place + 1)) call.op (Some reply) = rw e at has.ends in
          let request_is : call.request ≡ requests.Put file.0 file.1 puts.mode = sym is.request ∙ puts.asks in
          let reply_is : reply.1 ≡ replies.Put (Ok puts.token) = sym served.0 ∙ puts.done in
          let shown : file_shown call.request reply.1 ≡ Some file = rw request_is (rw reply_is refl) in
          let at = shown_here has.rows call.place call.op call.asked reply.0 call.request reply.1 file has.asks ends shown in
          let within = slice_get_within recordings call.recording has.rows has.is_recorded in (
            greatest_bound version_in recordings (length recordings) call.recording call.place has.rows file within has.is_recorded at,
            greatest_bound boundary_in recordings (length recordings) call.recording call.place has.rows file within has.is_recorded at,
          )
      by call has is None e =
          let ends : EndsWith (slice_get has.rows (call.place + 1)) call.op None = rw e at has.ends in
          let request_is : call.request ≡ requests.Put file.0 file.1 puts.mode = sym is.request ∙ puts.asks in
          let lost = lost_here_is has.rows call.place call.op call.asked call.request file has.asks ends (rw request_is refl) in
          let within = slice_get_within recordings call.recording has.rows has.is_recorded in
          let inside = slice_get_within has.rows call.place (kinds.Ask call.op call.asked call.request) has.asks in
          let last = lost_among (version_shown recordings) (boundary_shown recordings) recordings (length recordings) call.recording call.place has.rows within has.is_recorded inside none in
          not_beyond (version_shown recordings) (boundary_shown recordings) file (ap (goes_beyond (version_shown recordings) (boundary_shown recordings)) (sym lost) ∙ last)

  -- what a reply shows, a row of the log put

  record Shown (row next : Option (RecordedRow T)) (file : FilePut) : Type 0 where
    op : ℕ
    asked : ℕ
    request : Request
    at : ℕ
    reply : Reply
    asks : row ≡ Some (kinds.Ask op asked request)
    ends : next ≡ Some (kinds.Reply op at reply)
    shows : file_shown request reply ≡ Some file

  shown_is : (row next : Option (RecordedRow T)) (file : FilePut) → shown_by row next ≡ Some file → Shown row next file
  shown_is (Some (kinds.Ask op asked request)) (Some (kinds.Reply of at reply)) file shown = by (of == op) refl shown
    where
      by : (b : Bool) → (of == op) ≡ b → cond b (file_shown request reply) None ≡ Some file → Shown (Some (kinds.Ask op asked request)) (Some (kinds.Reply of at reply)) file
      by true e shows = record { op = op; asked = asked; request = request; at = at; reply = reply; asks = refl; ends = ap (λ of. Some (kinds.Reply of at reply)) (eqb-true of op e); shows = shows }
      by false e shows = cc
  shown_is row next file shown = cc

  first_row : (page : ℕ) (text : T → List ℕ) (recordings : List (List (RecordedRow T))) (ds : List (AuditedDiary T)) (recording : ℕ) (rows : List (RecordedRow T)) → AreOf page text recordings ds → slice_get recordings recording ≡ Some rows → (client : ℕ) × (slice_get rows 0 ≡ Some (kinds.Client client page))
  first_row page text [] [] recording rows are at = cc
  first_row page text [] (d ∷ ds) recording rows are at = absurd are
  first_row page text (r ∷ rs) [] recording rows are at = absurd are
  first_row page text (r ∷ rs) (d ∷ ds) zero rows are at = subst (λ (rows : List (RecordedRow T)). (client : ℕ) × (slice_get rows 0 ≡ Some (kinds.Client client page))) (same_Some r rows at) (d.client, are.0.client)
  first_row page text (r ∷ rs) (d ∷ ds) (suc recording) rows are at = first_row page text rs ds recording rows are.1 at

module _ {T : Type 0} (text : T → List ℕ) (encode : T → List ℕ) (decode : List ℕ → Option T) (get_epoch : T → ℕ) (set_epoch : T → ℕ → T) (recordings : List (List (RecordedRow T))) (clocks : List Clock) (log : List LogRow) (ds : List (AuditedDiary T)) (one : IsOneHistoryOf text encode decode get_epoch set_epoch recordings clocks log ds) where
  shown_put : (measure : FilePut → ℕ) (recording place : ℕ) (rows : List (RecordedRow T)) (file : FilePut) → slice_get recordings recording ≡ Some rows → shown_at rows place ≡ Some file → IsPutIn (reverse log) file
  shown_put measure recording place rows file is at =
      let shown = shown_is (slice_get rows place) (slice_get rows (place + 1)) file at in
      let first = first_row one.page text recordings ds recording rows one.told is in
      let call : StoreCall = record { recording = recording; place = place; client = first.0; op = shown.op; asked = shown.asked; request = shown.request; reply = Some (shown.at, shown.reply) } in
      let has : HasCall recordings call = record { rows = rows; is_recorded = is; page = one.page; its = first.1; asks = shown.asks; ends = shown.ends } in
      let placed = one.whole call has refl in
      let row = row_is recordings log one.calls placed.0 call one.recorded placed.1 in
      let within = in_reverse row.0 log row.1 in
      shows_put row.0 (reverse log) shown.request shown.reply file within (was_served row.0 (reverse log) one.store one.is_log within) row.2.request row.2.reply.0 shown.shows

  module _ (none : undecided recordings ≡ 0) where
    decided : (row : LogRow) (file : FilePut) → IsIn row (reverse log) → PutsFile row file → (version_in file ≤ version_shown recordings) × (boundary_in file ≤ boundary_shown recordings)
    decided row file is puts = row_decided recordings log one.calls row file one.recorded none (of_reverse row log is) puts

    made_low : (n : ℕ) → has_id (versions_in (reverse log)) n ≡ true → n ≤ version_shown recordings
    made_low n has =
        let made = made_by (reverse log) n has in
        let served = was_served made.0 (reverse log) one.store one.is_log made.1 in
        let file = creates_put made.0 made.0.request made.0.reply served.before served.store made.2 refl refl served.serves made.3 in
        let low = (decided made.0 file.0 made.1 file.1).0 in
        let id = file.2 in
        let is = made.4 in
        omega (arith, low, id, is)

    shown_made : (file : FilePut) → IsPutIn (reverse log) file → (version_in file ≡ 0) ⊎ (has_id (versions_in (reverse log)) (version_in file) ≡ true)
    shown_made file put = by (version_of world_names file.0) refl
      where
        by : (found : Option ℕ) → version_of world_names file.0 ≡ found → (version_in file ≡ 0) ⊎ (has_id (versions_in (reverse log)) (version_in file) ≡ true)
        by None e = inl (ap (λ found. unwrap_or found 0) e)
        by (Some id) e = inr (subst (λ n. has_id (versions_in (reverse log)) n ≡ true) (sym (ap (λ found. unwrap_or found 0) e)) (is_made (reverse log) put.0 id file.1 put.1 (put_creates put.0 file id put.2 e)))

    boundary_low : log_boundary (reverse log) ≤ boundary_shown recordings
    boundary_low = elim (raised_by (reverse log)) [
      | inl zero_is ↦ omega (arith, zero_is)
      | inr put ↦ let low = (decided put.1.0 put.0 put.1.1 put.1.2).1 in let is = put.2 in omega (arith, low, is)
    ]

    counted_within : (versions : List Version) (n : ℕ) → AreCounted versions → has_id versions n ≡ true → n ≤ length versions
    counted_within versions n counted has = elim (cases_lt (length versions) n) [
      | inl above ↦ absurd (true≢false (sym has ∙ lacks_counted 0 versions n (λ k version e. let is = counted k version e in omega (arith, is)) (omega (arith, above))))
      | inr le ↦ le
    ]

    newest_has : (versions : List Version) → AreCounted versions → (length versions ≡ 0) ⊎ (has_id versions (length versions) ≡ true)
    newest_has versions counted = by (length versions) refl
      where
        by : (n : ℕ) → length versions ≡ n → (n ≡ 0) ⊎ (has_id versions n ≡ true)
        by zero e = inl refl
        by (suc n) e =
            let none : Version = (0, []) in
            let there = slice_get-get_or versions n none (omega (arith, e)) in
            let is = counted n (get_or versions n none) there in
            inr (has_at versions n (suc n) (get_or versions n none) there (omega (arith, is)))

    -- the history of each merged list ends so
    pub ends : (m : Merged T) → Merges log ds m → EndsAt (trace_of (reverse m)) (version_shown recordings) (boundary_shown recordings)
    ends m merges =
        let trace = trace_of (reverse m) in
        let history_is = one.shares.histories m merges in
        let log_is : log_of (reverse m) ≡ reverse log = receipts_reverse m ∙ ap reverse merges.receipts in
        let moves = are_moves decode get_epoch set_epoch (failed_of (reverse m)) trace history_is.one_history in
        let versions_is : versions_of trace ≡ versions_in (reverse log) = versions_made (reverse m) ∙ ap versions_in log_is in
        let whole : take (length trace) trace ≡ trace = take_all (length trace) trace (omega arith) in
        let counted : AreCounted (versions_of trace) = subst (λ (rows : List (Trace T)). AreCounted (versions_of rows)) whole (fronts_of decode get_epoch trace moves (length trace)).counted in
        let rises = never_falls decode get_epoch trace moves in
        let stands : history.boundary trace ≡ log_boundary (reverse log) = (ends_at log (length (versions_in (reverse log))) (log_boundary (reverse log)) refl refl one.page (clients_in ds) encode decode get_epoch set_epoch ds one.store one.paged one.is_log one.shares m merges).stands in
        let newest_low : length (versions_of trace) ≤ version_shown recordings = elim (newest_has (versions_of trace) counted) [
          | inl zero_is ↦ omega (arith, zero_is)
          | inr has ↦ made_low (length (versions_of trace)) (subst (λ (versions : List Version). has_id versions (length (versions_of trace)) ≡ true) versions_is has)
        ] in
        let newest_high : version_shown recordings ≤ length (versions_of trace) = elim (attained version_in recordings (length recordings)) [
          | inl zero_is ↦ omega (arith, zero_is)
          | inr shown ↦ elim (shown_made shown.3.1 (shown_put version_in shown.0 shown.3.0 shown.1 shown.3.1 shown.2 shown.3.2)) [
            | inl zero_is ↦ let is = shown.3.3 in omega (arith, zero_is, is)
            | inr has ↦ let within = counted_within (versions_of trace) (version_in shown.3.1) counted (subst (λ (versions : List Version). has_id versions (version_in shown.3.1) ≡ true) (sym versions_is) has) in let is = shown.3.3 in omega (arith, within, is)
          ]
        ] in
        let boundary_high : boundary_shown recordings ≤ history.boundary trace = elim (attained boundary_in recordings (length recordings)) [
          | inl zero_is ↦ omega (arith, zero_is)
          | inr shown ↦
              let put = shown_put boundary_in shown.0 shown.3.0 shown.1 shown.3.1 shown.2 shown.3.2 in
              let within : IsIn put.0 (log_of (reverse m)) = subst (IsIn put.0) (sym log_is) put.1 in
              let up = reaches trace shown.3.1 rises (has_effect (reverse m) put.0 shown.3.1 within put.2) in
              let is = shown.3.3 in
              omega (arith, up, is)
        ] in
        let boundary_is = boundary_low in
        record { newest = omega (arith, newest_low, newest_high); stands = omega (arith, stands, boundary_is, boundary_high) }
