-- Two clients of one store: one writes while the other reads.
use Rattle.std.proofs.Common.{◌≡◌, ℕ, ◌+◌, List, [], ◌∷◌, false, Option, Some, None, Ok, Err, length, inl, inr, refl, arith}
use Rattle.std.specs.FinMap.{empty, get, insert}
use Rattle.txn_store.specs.Store.{State as StoreState}
use Rattle.txn_store.specs.declared.request.Request.{Request}
use Rattle.txn_store.specs.declared.request.Request.TheVariants as requests
use Rattle.txn_store.specs.declared.request.Reply.{Reply}
use Rattle.txn_store.specs.declared.request.Reply.TheVariants as replies
use Rattle.txn_history.specs.declared.event.PlainCall.TheVariants as calls
use Rattle.txn_history.specs.Lists.{numbered}
use Rattle.txn_history.specs.Names.{world_names, world_boundary}
use Rattle.txn_store.specs.VersionName.{version_path}
use Rattle.txn_store.specs.declared.store.Got.{Got}
use Rattle.txn_store.specs.declared.store.StoreError.TheVariants as errors
use Rattle.txn_history.specs.Seen.{Ask, Store, Look}
use Rattle.txn_machine.specs.plain.Machine.{empty_store}
use Rattle.txn_history.specs.declared.event.Call.{Call}
use Rattle.txn_history.specs.declared.event.Call.TheVariants as any
use Rattle.txn_machine.specs.declared.doing.Doing.{Doing}
use Rattle.txn_machine.specs.declared.doing.Doing.TheVariants as does
use Rattle.txn_machine.specs.declared.doing.Operation.{Operation}
use Rattle.txn_steps.specs.declared.boundary.caches.Caches.{Caches}
use Rattle.txn_machine.specs.Doing.{Next, ended, refused, asked, started, turned, ReadsBack, FitsWord, IsMadeSo, Turns}
use Rattle.txn_machine.specs.Machine.{seen_view, used_by, answered}
use Rattle.txn_history.specs.Calls.{view_used}
use Rattle.std.proofs.Common.{reverse, ◌≢◌}
use Rattle.txn_client_journals.specs.declared.fault.AuditFault.TheVariants as faults
use Rattle.txn_client_journals.specs.Verdict.{AuditedDiary, HasClient, IsDue}
use Rattle.txn_client_journals.specs.Shares.{merged}
use Rattle.txn_client_journals.specs.Runs.{IsRun}
use Rattle.txn_client_journals.proofs.Runs.{merged_runs}
use Rattle.std.specs.FinMap.{get-empty}
use Rattle.txn_store.specs.Store.{create_fault, get_fault}
use Rattle.txn_store.specs.Requests.{Serves}
use Rattle.txn_store.specs.declared.store.PutMode.TheVariants.{Create}
use Rattle.txn_store.specs.Paths.{path_cmp}
use Rattle.txn_store.proofs.FileLemmas.{get-insert_same, get-insert_other}
use Rattle.txn_store.proofs.VersionOfLemmas.{one_path}
use Rattle.txn_history.proofs.Apart.{apart}
use Rattle.txn_history.specs.declared.event.PlainAnswer.TheVariants as plain_answers
use Rattle.txn_history.specs.declared.event.Answer.{Answer}
use Rattle.txn_history.specs.declared.event.Answer.TheVariants as answers
use Rattle.txn_history.specs.Trace.{Row}
use Rattle.txn_history.specs.declared.trace.RowOf.TheVariants.{Effect, Begun, Answered}
use Rattle.std.proofs.Common.{◌==◌, if◌then◌else◌, ap, subst, sym, ◌∙◌}
use Rattle.std.proofs.lemmas.Bool.{cases_eq, eq-eqb, ne_eqb}
use Rattle.txn_client_journals.specs.declared.rows.LogRow.{LogRow}
use Rattle.txn_client_journals.specs.declared.rows.Receipt.{Receipt}
use Rattle.txn_client_journals.specs.declared.rows.Act.{Act}
use Rattle.txn_client_journals.specs.declared.rows.Act.TheVariants as acts
use Rattle.std.specs.Prelude.{Vec}
use Rattle.std.specs.declared.alloc.Global.{Global}
use Rattle.txn_client_journals.specs.declared.rows.Left.{Left}
use Rattle.txn_client_journals.specs.declared.rows.Step.{Step}
use Rattle.txn_client_journals.specs.declared.rows.Step.TheVariants as steps
use Rattle.txn_client_journals.specs.declared.rows.JournalRow.{JournalRow}
use Rattle.txn_client_journals.specs.Parts.{client_begin_fault, answer_in}
use Rattle.txn_client_journals.specs.Journals.{Follows, Lives, Replays}
use Rattle.txn_client_journals.specs.Logs.{IsLog}
use Rattle.txn_client_journals.specs.Merged.{Landing, Did, Lands, Merged, part_of, landing_row, with_receipt, log_of, CanLand, IsMerged}
use Rattle.txn_client_journals.specs.Traces.{loose_of, failed_of, trace_of}
use Rattle.txn_client_journals.specs.Parts as diary
use Rattle.txn_client_journals.specs.Journals as noted
use Rattle.txn_client_journals.specs.Parts.{Part, no_part}

abbrev encode : ℕ → List ℕ
encode v = v ∷ []

abbrev decode : List ℕ → Option ℕ
decode (v ∷ []) = Some v
decode _ = None

-- epochs
abbrev get_epoch : ℕ → ℕ
get_epoch v = 0

abbrev set_epoch : ℕ → ℕ → ℕ
set_epoch v e = v

abbrev operation_or : Option (Operation ℕ) → Operation ℕ
operation_or None = record { client = 0; view = None; claims = false; doing = ended }
operation_or (Some o) = o

abbrev operation : Part ℕ → ℕ → Operation ℕ
operation part op = operation_or (numbered part.operations op)

abbrev start : Part ℕ → Call ℕ → Next ℕ
start part call = started 1000 encode get_epoch set_epoch call (seen_view (used_by part.views (view_used call)))

abbrev turn : Part ℕ → ℕ → Option Reply → Next ℕ
turn part op reply = turned 1000 encode decode get_epoch set_epoch false (operation part op).doing part.caches reply

abbrev path : List (List ℕ)
path = version_path world_names 1

abbrev got : Got
got = record { bytes = encode 7; token = 1 }

abbrev reply_put : Reply
reply_put = replies.Put (Ok 1)

abbrev reply_got : Reply
reply_got = replies.Get (Ok got)

abbrev reply_none : Reply
reply_none = replies.Get (Err errors.NotFound)

-- the store after so many calls, and after the put
abbrev stored : ℕ → StoreState
stored calls = record { files = insert empty path got; given = 1 ∷ []; left = 18446744073709551614; calls = calls; failures = 0 }

puts : Serves (requests.Put path (encode 7) Create) empty_store reply_put (stored 1)
puts = record {
  counted = record { calls = refl; failures = omega arith };
  allowed = ap create_fault (get-empty path_cmp path);
  placed = record { files = refl; fresh = λ h. absurd (omega (arith, h.1)); given = refl; left = refl };
  err = tt;
}

gets : (n : ℕ) → Serves (requests.Get path None) (stored n) reply_got (stored (n + 1))
gets n =
    let there : get (insert empty path got) path ≡ Some got = get-insert_same empty path got in
    record {
      counted = record { calls = refl; failures = omega arith };
      allowed = ap (get_fault None) there;
      found = there;
      kept = record { files = refl; given = refl; left = refl };
      err = tt;
    }

misses : (other : List (List ℕ)) → (other ≡ path → ⊥) → (n : ℕ) → Serves (requests.Get other None) (stored n) reply_none (stored (n + 1))
misses other ne n =
    let none : get (insert empty path got) other ≡ None = get-insert_other empty path other got ne ∙ get-empty path_cmp other in
    record {
      counted = record { calls = refl; failures = omega arith };
      allowed = tt;
      found = tt;
      kept = tt;
      err = (ap (get_fault None) none, record { files = refl; given = refl; left = refl });
    }

second : version_path world_names 2 ≡ path → ⊥
second e = absurd (let same = one_path world_names 2 1 (omega arith) (omega arith) e in omega (arith, same))

-- a list of two clients so far, and what each of them has done
record Scene : Type 0 where
  list : Merged ℕ
  parts : ℕ → Part ℕ

abbrev Holds : Scene → StoreState → Type 0
Holds s store = IsMerged 1000 encode decode get_epoch set_epoch s.list s.parts store

abbrev row : Step ℕ → Option (Answer ℕ) → JournalRow ℕ
row step answer = record { step = step; answer = answer }

-- one row more
abbrev grow : ℕ → Step ℕ → Option (Answer ℕ) → Part ℕ → Scene → Scene
grow client step answer new s = record { list = Did client (row step answer) ∷ s.list; parts = λ d. if client == d then new else s.parts d }

grown : (s : Scene) (store after : StoreState) (client : ℕ) (step : Step ℕ) (answer : Option (Answer ℕ)) (new : Part ℕ) → Holds s store → Follows 1000 encode decode get_epoch set_epoch client (s.parts client) step answer new → IsLog (with_receipt client step (log_of s.list)) after → Lives (part_of client s.list) →
    Holds (grow client step answer new s) after
grown s store after client step answer new h follows log lives =
    let t = grow client step answer new s in
    record {
      journals = λ d. elim (cases_eq client d) [
        | inl is ↦ subst (λ (c : ℕ). Replays 1000 encode decode get_epoch set_epoch c (part_of c t.list) (t.parts c)) is (rw (eq-eqb client client refl) (s.parts client, h.journals client, follows, lives))
        | inr ne ↦ rw (ne_eqb client d ne) (h.journals d)
      ];
      log = log;
      landings = h.landings;
    }

-- what a client does next: it begins a call, or an operation of its looks, or has a reply of the store, which is so then
pub data Move : Type 0 where
  Calls : ℕ → Call ℕ → Move
  Looks : ℕ → ℕ → Move
  Receives : ℕ → ℕ → ℕ → Request → Reply → StoreState → Move

-- an operation takes its turn
abbrev takes : ℕ → ℕ → Act → Option Reply → Scene → Scene
takes client op act reply s =
    let part = s.parts client in
    grow client (steps.Act op act) (answer_in part (operation part op) (turn part op reply)) (diary.turned get_epoch part op (operation part op) (turn part op reply)) s

abbrev moved : Move → Scene → Scene
moved (Calls client call) s =
    let part = s.parts client in
    grow client (steps.Begin call) (answered (length part.views) (view_used call) (start part call).1) (diary.begun get_epoch client part call (start part call)) s
moved (Looks client op) s = takes client op acts.Look None s
moved (Receives client op place request reply after) s = takes client op (acts.Receive (record { place = place; request = request; reply = reply })) (Some reply) s

abbrev store_after : Move → StoreState → StoreState
store_after (Receives client op place request reply after) store = after
store_after move store = store

abbrev IsPlain : Doing ℕ → Type 0
IsPlain (does.Plain doing) = Unit {0}
IsPlain (does.View op) = ⊥

turns : (doing : Doing ℕ) (caches : Caches) (reply : Option Reply) → IsPlain doing → Turns 1000 encode decode get_epoch set_epoch doing caches reply (turned 1000 encode decode get_epoch set_epoch false doing caches reply)
turns (does.Plain doing) caches reply plain = record { refused = false; turns = refl; may = tt; made = λ h. absurd h }
turns (does.View op) caches reply plain = absurd plain

-- an operation on no view is there, and asks for this
abbrev Asks : Part ℕ → ℕ → Ask → Type 0
Asks part op ask = (numbered part.operations op ≡ Some (operation part op)) × (asked (operation part op).doing ≡ Some ask) × IsPlain (operation part op).doing

-- when a client can do so
abbrev May : Move → Scene → StoreState → Type 0
May (Calls client call) s store = (client_begin_fault get_epoch client (s.parts client) call ≡ None) × ReadsBack encode decode call × FitsWord call × IsMadeSo encode decode get_epoch (start (s.parts client) call).0 × Lives (part_of client s.list)
May (Looks client op) s store = Asks (s.parts client) op Look × Lives (part_of client s.list)
May (Receives client op place request reply after) s store = Asks (s.parts client) op (Store request) × Serves request store reply after × (after.failures ≡ 0) × Lives (part_of client s.list)

move : (m : Move) (s : Scene) (store : StoreState) → Holds s store → May m s store → Holds (moved m s) (store_after m store)
move (Calls client call) s store h (permits, reads, word, made, lives) =
    grown s store store client (steps.Begin call) _ _ h (record { permits = permits; reads_back = reads; word = word; next = start (s.parts client) call; starts = refl; made = made; tells = refl; part = refl }) h.log lives
move (Looks client op) s store h ((found, asks, plain), lives) =
    let part = s.parts client in
    grown s store store client (steps.Act op acts.Look) _ _ h (record { operation = operation part op; found = found; asks = asks; next = turn part op None; turns = turns (operation part op).doing part.caches None plain; tells = refl; part = refl }) h.log lives
move (Receives client op place request reply after) s store h ((found, asks, plain), serves, fails, lives) =
    let part = s.parts client in
    grown s store after client (steps.Act op (acts.Receive (record { place = place; request = request; reply = reply }))) _ _ h (record { operation = operation part op; found = found; asks = asks; next = turn part op (Some reply); turns = turns (operation part op).doing part.caches (Some reply) plain; tells = refl; part = refl }) (store, h.log, serves, fails) lives

-- moves one after another

abbrev played : List Move → Scene → Scene
played [] s = s
played (m ∷ moves) s = played moves (moved m s)

-- it holds after these moves, where each may be made
abbrev Given : List Move → Scene → StoreState → Type 0
Given [] s store = Holds s store
Given (m ∷ moves) s store = May m s store → Given moves (moved m s) (store_after m store)

plays : (moves : List Move) (s : Scene) (store : StoreState) → Holds s store → Given moves s store
plays [] s store h = h
plays (m ∷ moves) s store h = λ may. plays moves (moved m s) (store_after m store) (move m s store h may)

-- a landing more
abbrev lands : Landing → Scene → Scene
lands landing s = record { list = Lands landing ∷ s.list; parts = s.parts }

landed_more : (s : Scene) (store after : StoreState) (landing : Landing) → Holds s store → CanLand s.list landing → IsLog (landing_row landing ∷ log_of s.list) after → Holds (lands landing s) after
landed_more s store after landing h lands log = record { journals = h.journals; log = log; landings = (lands, h.landings) }

-- client 1 writes the first version, which client 2 reads then, and reads it too

abbrev s0 : Scene
s0 = record { list = []; parts = λ client. no_part }

h0 : Holds s0 empty_store
h0 = record { journals = λ client. refl; log = refl; landings = tt }

abbrev read_first : Call ℕ
read_first = any.Plain (calls.ReadUnchecked 1)

abbrev write_first : Call ℕ
write_first = any.Plain (calls.Write None 7)

abbrev put_asked : Request
put_asked = requests.Put path (encode 7) Create

abbrev moves : List Move
moves =
    Calls 2 read_first ∷ Calls 1 write_first ∷ Receives 1 1 0 put_asked reply_put (stored 1) ∷ Receives 2 1 1 (requests.Get path None) reply_got (stored 2) ∷
    Looks 1 1 ∷ Looks 1 1 ∷ Looks 1 1 ∷ Receives 1 1 2 (requests.Get world_boundary None) reply_none (stored 3) ∷
    Calls 1 (any.Plain calls.Read) ∷ Looks 1 2 ∷ Receives 1 2 3 (requests.Get (version_path world_names 2) None) reply_none (stored 4) ∷
    Looks 1 2 ∷ Looks 1 2 ∷ Receives 1 2 4 (requests.Get world_boundary None) reply_none (stored 5) ∷ []

abbrev whole : Scene
whole = played moves s0

holds : Holds whole (stored 5)
holds =
    plays moves s0 empty_store h0
    (refl, tt, omega arith, tt, tt) (refl, (λ e. refl), tt, tt, tt) ((refl, refl, tt), puts, refl, refl) ((refl, refl, tt), gets 1, refl, refl)
    ((refl, refl, tt), refl) ((refl, refl, tt), refl) ((refl, refl, tt), refl) ((refl, refl, tt), misses world_boundary (apart 1) 2, refl, refl)
    (refl, tt, tt, tt, refl) ((refl, refl, tt), refl) ((refl, refl, tt), misses (version_path world_names 2) second 3, refl, refl)
    ((refl, refl, tt), refl) ((refl, refl, tt), refl) ((refl, refl, tt), misses world_boundary (apart 1) 4, refl, refl)

-- the answers

abbrev answers_in : List (Row ℕ) → List (Row ℕ)
answers_in [] = []
answers_in (Answered op answer ∷ rows) = Answered op answer ∷ answers_in rows
answers_in (Begun op call ∷ rows) = answers_in rows
answers_in (Effect op request ∷ rows) = answers_in rows

abbrev plain : ℕ → Rattle.txn_history.specs.declared.event.PlainAnswer.PlainAnswer ℕ → Row ℕ
plain op answer = Answered op (answers.Plain answer)

pub found : answers_in (trace_of whole.list) ≡ plain 1 (plain_answers.Value (Some 7)) ∷ plain 2 (plain_answers.Wrote 1) ∷ plain 3 (plain_answers.Read (Some (1, 7))) ∷ []
found = refl

-- what client 1 was told
pub told : (whole.parts 1).told ≡ (1, 0) ∷ (1, 0) ∷ []
told = refl

-- the list is a run of a world of two clients
pub runs : IsRun 1000 encode decode get_epoch set_epoch 2 whole.list whole.parts (stored 5)
runs = merged_runs 1000 encode decode get_epoch set_epoch 2 whole.list whole.parts (stored 5) (omega arith) (omega arith) holds

-- the audit

abbrev log : List LogRow
log = reverse (log_of whole.list)

abbrev diary_of : ℕ → AuditedDiary ℕ
diary_of client = record { client = client; rows = reverse (part_of client whole.list); part = whole.parts client }

other : (client d : ℕ) → client ≢ d → HasClient {T = ℕ} (diary_of d ∷ []) client → ⊥
other client d ne h = elim h [ inl e ↦ ne (sym e) | inr none ↦ none ]

one_is_not_two : ◌≢◌ {A = ℕ} 1 2
one_is_not_two e = absurd (omega (arith, e))

-- both diaries agree with the log
pub agrees : IsDue log (diary_of 1 ∷ diary_of 2 ∷ []) (Ok tt)
agrees = ((other 1 2 one_is_not_two, (λ h. h, tt)), (inl refl, (inr (inl refl), (inl refl, (inl refl, (inl refl, tt))))), (refl, (refl, tt)), (tt, (tt, (tt, (tt, (tt, tt))))))

-- of client 1's alone a row of client 2's is of no diary
pub missing : IsDue log (diary_of 1 ∷ []) (Err faults.ClientMissing)
missing = ((λ h. h, tt), λ h. other 2 1 (λ e. one_is_not_two (sym e)) h.1.0)

-- two diaries of client 1
pub twice : IsDue log (diary_of 1 ∷ diary_of 2 ∷ diary_of 1 ∷ []) (Err faults.ClientTwice)
twice h = h.0 (inr (inl refl))

-- against an empty log
pub differ : IsDue [] (diary_of 1 ∷ diary_of 2 ∷ []) (Err faults.RowsDiffer)
differ = ((other 1 2 one_is_not_two, (λ h. h, tt)), tt, λ h. none_left (sym h.0))
  where
    none_left : {r : Receipt} {rs : List Receipt} → [] ≡ r ∷ rs → ⊥
    none_left e = cc

-- the list of the log's rows, where client 2 begins after client 1, has the same answers; operations have other numbers there
pub found_merged : answers_in (trace_of (reverse (merged log (diary_of 1 ∷ diary_of 2 ∷ [])))) ≡ plain 2 (plain_answers.Value (Some 7)) ∷ plain 1 (plain_answers.Wrote 1) ∷ plain 3 (plain_answers.Read (Some (1, 7))) ∷ []
found_merged = refl

-- A put of client 1 fails, and lands while client 2 reads, who finds it.

abbrev k1 : Scene
k1 = moved (Calls 1 write_first) s0

e1 : Holds k1 empty_store
e1 = move (Calls 1 write_first) s0 empty_store h0 (refl, (λ e. refl), tt, tt, tt)

abbrev q1 : Part ℕ
q1 = k1.parts 1

abbrev failed : Part ℕ
failed = diary.turned_with get_epoch q1 1 (operation q1 1) (refused 2) q1.caches

abbrev k2 : Scene
k2 = grow 1 (steps.Act 1 (acts.Fails put_asked)) (answer_in q1 (operation q1 1) (refused 2)) failed k1

e2 : Holds k2 empty_store
e2 = grown k1 empty_store empty_store 1 (steps.Act 1 (acts.Fails put_asked)) (answer_in q1 (operation q1 1) (refused 2)) failed e1 (record { operation = operation q1 1; found = refl; asks = refl; tells = refl; part = refl }) e1.log refl

abbrev k3 : Scene
k3 = moved (Calls 2 read_first) k2

e3 : Holds k3 empty_store
e3 = move (Calls 2 read_first) k2 empty_store e2 (refl, tt, omega arith, tt, tt)

abbrev landing : Landing
landing = record { client = 1; op = 1; request = put_asked; reply = reply_put }

abbrev k4 : Scene
k4 = lands landing k3

e4 : Holds k4 (stored 1)
e4 = landed_more k3 empty_store (stored 1) landing e3 (refl, refl) (empty_store, e3.log, puts, refl)

abbrev k5 : Scene
k5 = moved (Receives 2 1 1 (requests.Get path None) reply_got (stored 2)) k4

e5 : Holds k5 (stored 2)
e5 = move (Receives 2 1 1 (requests.Get path None) reply_got (stored 2)) k4 (stored 1) e4 ((refl, refl, tt), gets 1, refl, refl)

pub found_landed : answers_in (trace_of k5.list) ≡ plain 1 (plain_answers.Refused 2) ∷ plain 2 (plain_answers.Value (Some 7)) ∷ []
found_landed = refl

pub runs_landed : IsRun 1000 encode decode get_epoch set_epoch 2 k5.list k5.parts (stored 2)
runs_landed = merged_runs 1000 encode decode get_epoch set_epoch 2 k5.list k5.parts (stored 2) (omega arith) (omega arith) e5

abbrev landed_log : List LogRow
landed_log = reverse (log_of k5.list)

abbrev landed_diary : ℕ → AuditedDiary ℕ
landed_diary client = record { client = client; rows = reverse (part_of client k5.list); part = k5.parts client }

pub agrees_landed : IsDue landed_log (landed_diary 1 ∷ landed_diary 2 ∷ []) (Ok tt)
agrees_landed = ((other_landed 1 2 one_is_not_two, (λ h. h, tt)), (inl refl, (inr (inl refl), tt)), (refl, (refl, tt)), ((refl, refl), (tt, tt)))
  where
    other_landed : (client d : ℕ) → client ≢ d → HasClient {T = ℕ} (landed_diary d ∷ []) client → ⊥
    other_landed client d ne h = elim h [ inl e ↦ ne (sym e) | inr none ↦ none ]

pub found_landed_merged : answers_in (trace_of (reverse (merged landed_log (landed_diary 1 ∷ landed_diary 2 ∷ [])))) ≡ plain 1 (plain_answers.Refused 2) ∷ plain 2 (plain_answers.Value (Some 7)) ∷ []
found_landed_merged = refl

-- without the row of the failure its landing is of what nobody left
pub unknown_landed : IsDue landed_log (record { client = 1; rows = row (steps.Begin write_first) None ∷ []; part = q1 } ∷ landed_diary 2 ∷ []) (Err faults.LandingUnknown)
unknown_landed = ((other_landed 1 2 one_is_not_two, (λ h. h, tt)), (inl refl, (inr (inl refl), tt)), (refl, (refl, tt)), λ h. nothing h.0.0)
  where
    other_landed : (client d : ℕ) → client ≢ d → HasClient {T = ℕ} (landed_diary d ∷ []) client → ⊥
    other_landed client d ne h = elim h [ inl e ↦ ne (sym e) | inr none ↦ none ]

    nothing : None ≡ Some put_asked → ⊥
    nothing e = cc

-- the same put is refused for memory before it reaches the store: nothing may land, and nothing failed

abbrev lacked : Part ℕ
lacked = diary.turned_with get_epoch q1 1 (operation q1 1) (refused 9) q1.caches

abbrev l2 : Scene
l2 = grow 1 (steps.Act 1 acts.Lacks) (answer_in q1 (operation q1 1) (refused 9)) lacked k1

holds_lacked : Holds l2 empty_store
holds_lacked = grown k1 empty_store empty_store 1 (steps.Act 1 acts.Lacks) (answer_in q1 (operation q1 1) (refused 9)) lacked e1 (record { operation = operation q1 1; request = put_asked; found = refl; asks = refl; tells = refl; part = refl }) e1.log refl

pub runs_lacked : IsRun 1000 encode decode get_epoch set_epoch 1 l2.list l2.parts empty_store
runs_lacked = merged_runs 1000 encode decode get_epoch set_epoch 1 l2.list l2.parts empty_store (omega arith) (omega arith) holds_lacked

pub found_lacked : answers_in (trace_of l2.list) ≡ plain 1 (plain_answers.Refused 9) ∷ []
found_lacked = refl

pub none_failed : (failed_of l2.list ≡ []) × (loose_of l2.list ≡ [])
none_failed = (refl, refl)

-- what failed in the other list, and may land still
pub one_failed : (failed_of k5.list ≡ 1 ∷ []) × (loose_of k5.list ≡ (1, put_asked) ∷ [])
one_failed = (refl, refl)

-- client 1 is killed between asking for the put and its reply, and the put lands then

abbrev put_left : Left
put_left = record { op = 1; request = put_asked }

abbrev killed2 : Vec Left Global → Scene
killed2 lefts = grow 1 (steps.Killed lefts) None (diary.killed 1 q1) k1

holds_killed : (lefts : Vec Left Global) → lefts.items ≡ put_left ∷ [] → Holds (killed2 lefts) empty_store
holds_killed lefts is = grown k1 empty_store empty_store 1 (steps.Killed lefts) None (diary.killed 1 q1) e1 (record { some = omega arith; leaves = ap (λ (ls : List Left). Rattle.std.proofs.Common.map noted.as_pair ls) is; tells = refl; part = refl }) e1.log refl

abbrev killed3 : Vec Left Global → Scene
killed3 lefts = lands landing (killed2 lefts)

holds_after : (lefts : Vec Left Global) → lefts.items ≡ put_left ∷ [] → Holds (killed3 lefts) (stored 1)
holds_after lefts is = (let h = holds_killed lefts is in landed_more (killed2 lefts) empty_store (stored 1) landing h (ap (λ (ls : List Left). noted.left_among 1 ls None) is, refl) (empty_store, h.log, puts, refl))

pub runs_killed : (lefts : Vec Left Global) → lefts.items ≡ put_left ∷ [] → IsRun 1000 encode decode get_epoch set_epoch 1 (killed3 lefts).list (killed3 lefts).parts (stored 1)
runs_killed lefts is = merged_runs 1000 encode decode get_epoch set_epoch 1 (killed3 lefts).list (killed3 lefts).parts (stored 1) (omega arith) (omega arith) (holds_after lefts is)

-- the put is in the trace, and was not answered
pub found_killed : (lefts : Vec Left Global) → trace_of (killed3 lefts).list ≡ Begun 1 write_first ∷ Effect 1 put_asked ∷ []
found_killed lefts = refl
