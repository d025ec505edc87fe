-- A read that began where nothing disturbs it finds the newest version.
use Rattle.std.proofs.Common.{◌≡◌, ℕ, ◌+◌, ◌<◌, ◌≤◌, ◌==◌, nat_lt, List, Option, Some, None, Ok, Err, Result, ◌⊎◌, inl, inr, refl, sym, ◌∙◌, ap, subst, arith}
use Rattle.std.specs.FinMap.{get}
use Rattle.std.specs.Option.{option_map}
use Rattle.std.proofs.lemmas.Bool.{cases_Bool, ltb-true, eqb-true}
use Rattle.std.proofs.lemmas.Option.{same_Some}
use Rattle.txn_store.specs.Paths.{Segments}
use Rattle.txn_store.specs.VersionName.{version_path}
use Rattle.txn_store.specs.Store.{State as StoreState, Gets, get_fault}
use Rattle.txn_store.specs.Requests.{Serves}
use Rattle.txn_store.specs.declared.store.Got.{Got}
use Rattle.txn_store.specs.declared.store.StoreError.{StoreError}
use Rattle.txn_store.specs.declared.store.StoreError.TheVariants as errors
use Rattle.txn_store.specs.declared.request.Request.{Request}
use Rattle.txn_store.specs.declared.request.Reply.{Reply}
use Rattle.txn_store.specs.declared.request.Reply.TheVariants as replies
use Rattle.txn_store.specs.types.BoundaryText.{boundary_read}
use Rattle.txn_steps.specs.declared.boundary.boundary_read.BoundaryRead.{BoundaryRead}
use Rattle.txn_steps.specs.declared.boundary.boundary_read.BoundaryRead.TheVariants as reading
use Rattle.txn_steps.specs.declared.boundary.caches.Cached.{Cached}
use Rattle.txn_steps.specs.declared.boundary.caches.CachedBoundary.{CachedBoundary}
use Rattle.txn_steps.specs.declared.boundary.caches.Caches.{Caches}
use Rattle.txn_steps.specs.declared.boundary.check.BoundaryStep.{BoundaryStep}
use Rattle.txn_steps.specs.declared.boundary.check.BoundaryStep.TheVariants as boundary_step
use Rattle.txn_steps.specs.declared.boundary.check.BoundaryCheck.{BoundaryCheck}
use Rattle.txn_steps.specs.declared.boundary.check.CheckOp.{CheckOp}
use Rattle.txn_steps.specs.declared.boundary.check.CheckOp.TheVariants as checks
use Rattle.txn_steps.specs.declared.boundary.turned.Turned.{Turned}
use Rattle.txn_steps.specs.declared.boundary.turned.Turned.TheVariants.{Goes, Done}
use Rattle.txn_steps.specs.boundary.Boundaries.{Known, greater_known, refused_by, decided}
use Rattle.txn_steps.specs.boundary.BoundaryReads.{text_read, boundary_got, boundary_held, boundary_turned, boundary_cached, boundary_read_asked, IsBoundaryReply}
use Rattle.txn_steps.specs.boundary.BoundaryChecks.{reads_by, reads_turned as boundary_reads_turned, turned_at, cached_at, asked_at, IsReplyAt}
use Rattle.txn_steps.specs.boundary.Checks.{check_asked, check_turned, check_caches, checks_turned as check_told, IsCheckReply}
use Rattle.txn_steps.specs.boundary.Windows.{held, greatest_held}
use Rattle.txn_steps.specs.declared.latest.LatestOp.{LatestOp}
use Rattle.txn_steps.specs.declared.latest.LatestOp.TheVariants as latest
use Rattle.txn_steps.specs.declared.read.ReadOp.{ReadOp}
use Rattle.txn_steps.specs.declared.read.ReadOp.TheVariants as reads
use Rattle.txn_steps.specs.Requests.{version_got, next_after}
use Rattle.txn_steps.specs.Latest.{ReadAnswer, IsLatestReply, latest_turned, paged_turned, unlisted, read_in_hand, probed, keeping, in_hand, held_or_got, chosen, begins_with, found_turned, latest_got, greatest_from}
use Rattle.txn_steps.specs.Reads.{IsReadReply, read_turned, read_caches_after, reads_turned, checks_turned}
use Rattle.txn_history.specs.Facts.{WasNewest}
use Rattle.txn_history.specs.Trace.{PlainRow}
use Rattle.txn_history.specs.Names.{world_names, world_boundary}
use Rattle.txn_history.specs.History.{newest, boundary, boundary_said}
use Rattle.txn_machine.specs.plain.Alone.{IsWindow}
use Rattle.txn_machine.proofs.plain.Stands.{CachedAt, TokenStands, GettingStands, ReadingStands, StepStands, CheckStands, Carried, WindowFits, CachesStand, LatestStands, ReadStands, KnowStands}
use Rattle.txn_machine.proofs.plain.Faults.{get_missing, get_same}
use Rattle.txn_machine.proofs.plain.Stored.{none_stored}
use Rattle.txn_machine.proofs.plain.Windows.{greatest_fits}
use Rattle.txn_machine.proofs.plain.Resting.{Probing, Seeking, Emptied, FirstOn, first_step, Given}
use Rattle.txn_world.proofs.finishing.Reading.{left_fits}

-- the check

-- where it accepts its id, that is the newest
abbrev pub OpenFor : ℕ → ℕ → ℕ → Type 0
OpenFor b m id = (id ≤ b) ⊎ (id ≡ m)

abbrev pub FreshBoundary : ℕ → ℕ → Option CachedBoundary → ℕ → BoundaryRead → Type 0
FreshBoundary b m cached id (reading.Looks path) = OpenFor b m id
FreshBoundary b m cached id (reading.Gets request) = OpenFor b m id
FreshBoundary b m cached id (reading.Holds (Some known)) = OpenFor known.number m id
FreshBoundary b m cached id (reading.Holds None) = (number : ℕ) × CachedAt cached number × OpenFor number m id

abbrev pub FreshAt : ℕ → ℕ → Option CachedBoundary → ℕ → BoundaryStep → BoundaryRead → Type 0
FreshAt b m cached id boundary_step.Looks read = (read ≡ reading.Looks world_boundary) × OpenFor b m id
FreshAt b m cached id boundary_step.Reads read = FreshBoundary b m cached id read

abbrev pub FreshCheck : ℕ → ℕ → Option CachedBoundary → ℕ → CheckOp → Type 0
FreshCheck b m cached id (checks.Checks check) = (check.id ≡ id) × FreshAt b m cached id check.step check.read
FreshCheck b m cached id (checks.Drops i) = Unit {0}

-- what its read of the boundary says, and what it says itself

abbrev BoundaryOn : ℕ → ℕ → Option CachedBoundary → ℕ → BoundaryRead × Turned (Result Known ℕ) → Type 0
BoundaryOn b m cached id (read, Goes) = FreshBoundary b m cached id read
BoundaryOn b m cached id (read, Done (Ok known)) = known.0 < id → id ≡ m
BoundaryOn b m cached id (read, Done (Err number)) = Unit {0}

abbrev CheckOn : ℕ → ℕ → Option CachedBoundary → ℕ → CheckOp × Turned (Result (Unit {0}) ℕ) → Type 0
CheckOn b m cached id (check, Goes) = FreshCheck b m cached id check
CheckOn b m cached id (check, Done (Ok accepted)) = id ≡ m
CheckOn b m cached id (check, Done (Err number)) = Unit {0}

refused_on : (b m : ℕ) (cached : Option CachedBoundary) (id checked number : ℕ) (check : BoundaryCheck) → CheckOn b m cached id (check_told checked (check, Done (Err number)))
refused_on b m cached id checked number check = elim (cases_Bool (number == 5)) [ inl five ↦ rw five tt | inr other ↦ rw other tt ]

decides_on : (b m : ℕ) (cached : Option CachedBoundary) (id : ℕ) (op check : BoundaryCheck) (known : Known) → op.id ≡ id → (known.0 < id → id ≡ m) → CheckOn b m cached id (check_told op.id (check, Done (decided op.id (Ok known))))
decides_on b m cached id op check known is h =
    elim (cases_Bool (nat_lt known.0 op.id)) [
      | inl less ↦ rw less (h (let lt = ltb-true known.0 op.id less in omega (arith, lt, is)))
      | inr not ↦ rw not tt
    ]

told_on : (b m : ℕ) (cached : Option CachedBoundary) (id : ℕ) (op : BoundaryCheck) (told : BoundaryRead × Turned (Result Known ℕ)) → op.id ≡ id → BoundaryOn b m cached id told → CheckOn b m cached id (check_told op.id (boundary_reads_turned op told))
told_on b m cached id op (read, Goes) is h = (is, h)
told_on b m cached id op (read, Done (Ok known)) is h = decides_on b m cached id op (reads_by op read) known is h
told_on b m cached id op (read, Done (Err number)) is h = refused_on b m cached id op.id number (reads_by op read)

-- the greater of two is at least the second
least_known : (cached : Option CachedBoundary) (known : CachedBoundary) → known.number ≤ (greater_known cached known).number
least_known None known = omega arith
least_known (Some held) known = elim (cases_Bool (nat_lt known.number held.number)) [ inl less ↦ rw less (let lt = ltb-true known.number held.number less in omega (arith, lt)) | inr not ↦ rw not (omega arith) ]

holds_on : (b m id : ℕ) (cached : Option CachedBoundary) (op : BoundaryRead) (known : CachedBoundary) (after : Option CachedBoundary) → OpenFor known.number m id → BoundaryOn b m after id (boundary_held op (Some known) cached)
holds_on b m id cached op known after (inr is) lt = is
holds_on b m id cached op known after (inl below) lt = absurd (let least = least_known cached known in omega (arith, below, least, lt))

unchanged_on : (b m id : ℕ) (cached : Option CachedBoundary) (op : BoundaryRead) (after : Option CachedBoundary) → (number : ℕ) × CachedAt cached number × OpenFor number m id → BoundaryOn b m after id (boundary_held op None cached)
unchanged_on b m id None op after h = tt
unchanged_on b m id (Some held) op after h =
    let at = h.1 in
    let same : held.number ≡ at.known.number = ap (λ (c : CachedBoundary). c.number) (same_Some held at.known at.there) in
    let least = at.least in
    λ lt. elim h.2 [ inl below ↦ absurd (omega (arith, same, least, below, lt)) | inr is ↦ is ]

module _ {T : Type 0} (decode : List ℕ → Option T) (get_epoch : T → ℕ) (failed : List ℕ) (rows : List (PlainRow T)) (store new : StoreState) (k : KnowStands decode get_epoch failed rows store) where
  abbrev b : ℕ
  b = boundary rows

  abbrev m : ℕ
  m = newest rows

  -- a boundary without a file is 0
  no_boundary : get store.files world_boundary ≡ None → boundary rows ≡ 0
  no_boundary none = ap boundary_said (sym (k.files.kept world_boundary) ∙ ap (option_map (λ (g : Got). g.bytes)) none)

  -- the reply to its get
  gets_on : (cached : Option CachedBoundary) (id : ℕ) (Q : Type 0) (request : Request) (answer : Result Got StoreError) → 0 < id → GettingStands rows store cached id Q request → Serves request store (replies.Get answer) new → OpenFor b m id → BoundaryOn b m cached id (boundary_got (reading.Gets request) answer)
  gets_on cached id Q request answer some g serves open' =
      served answer (subst (λ (r : Request). Serves r store (replies.Get answer) new) g.asks serves)
    where
      text_on : (got : Got) (said : Option ℕ) → said ≡ Some b → BoundaryOn b m cached id (text_read (reading.Gets request) got.token said)
      text_on got None e = cc
      text_on got (Some number) e = (let is = same_Some number b e in elim open' [ inl below ↦ inl (omega (arith, below, is)) | inr newest_is ↦ inr newest_is ])

      unchanged : (token : Option ℕ) → TokenStands rows store cached token → get_fault token (get store.files world_boundary) ≡ Some errors.NotModified → (number : ℕ) × CachedAt cached number × OpenFor number m id
      unchanged None h e = (let same = get_same None (get store.files world_boundary) e in let clash : None ≡ Some same.got.token = same.sent in cc)
      unchanged (Some token) h e =
          let same = get_same (Some token) (get store.files world_boundary) e in
          let sent : same.got.token ≡ token = sym (same_Some token same.got.token same.sent) in
          let number_is : h.0 ≡ b = h.1.same same.got same.there sent in
          (h.0, h.2, elim open' [ inl below ↦ inl (omega (arith, below, number_is)) | inr is ↦ inr is ])

      served : (answer : Result Got StoreError) → Gets world_boundary g.token store answer new → BoundaryOn b m cached id (boundary_got (reading.Gets request) answer)
      served (Ok got) s = text_on got (boundary_read got.bytes) (k.files.says got s.found)
      served (Err errors.NotFound) s = λ lt. elim open' [ inl below ↦ absurd (let none = no_boundary (get_missing g.token (get store.files world_boundary) s.err.0) in omega (arith, none, below, some)) | inr is ↦ is ]
      served (Err errors.NotModified) s = unchanged g.token g.known s.err.0
      served (Err errors.Failed) s = tt
      served (Err errors.NoMemory) s = tt
      served (Err errors.TokensExhausted) s = tt
      served (Err errors.AlreadyExists) s = tt
      served (Err errors.Precondition) s = tt

  -- a turn of its read of the boundary
  boundary_on : (cached : Option CachedBoundary) (id : ℕ) (Q : Type 0) (read : BoundaryRead) (reply : Option Reply) → 0 < id → ReadingStands rows store cached id Q read → IsBoundaryReply read reply → ((request : Request) (told : Reply) → reply ≡ Some told → boundary_read_asked read ≡ Some request → Serves request store told new) → FreshBoundary b m cached id read →
      BoundaryOn b m (boundary_cached read cached) id (boundary_turned read cached reply)
  boundary_on cached id Q (reading.Looks path) reply some h is serves f = f
  boundary_on cached id Q (reading.Gets request) (Some (replies.Get answer)) some h is serves f = gets_on cached id Q request answer some h (serves request (replies.Get answer) refl refl) f
  boundary_on cached id Q (reading.Gets request) (Some (replies.Put answer)) some h is serves f = absurd is
  boundary_on cached id Q (reading.Gets request) (Some (replies.List answer)) some h is serves f = absurd is
  boundary_on cached id Q (reading.Gets request) (Some (replies.Delete answer)) some h is serves f = absurd is
  boundary_on cached id Q (reading.Gets request) None some h is serves f = absurd is
  boundary_on cached id Q (reading.Holds (Some known)) reply some h is serves f = holds_on b m id cached (reading.Holds (Some known)) known (boundary_cached (reading.Holds (Some known)) cached) f
  boundary_on cached id Q (reading.Holds None) reply some h is serves f = unchanged_on b m id cached (reading.Holds None) (boundary_cached (reading.Holds None) cached) f

  -- a turn of the check
  pub check_on : (check : CheckOp) (caches : Caches) (id : ℕ) (Q : Type 0) (reply : Option Reply) → 0 < id → CheckStands rows store caches.boundary id Q check → IsCheckReply check reply → ((request : Request) (told : Reply) → reply ≡ Some told → check_asked check ≡ Some request → Serves request store told new) → FreshCheck b m caches.boundary id check →
      CheckOn b m (check_caches check caches).boundary id (check_turned check caches reply)
  check_on (checks.Drops i) caches id Q reply some h is serves f = tt
  check_on (checks.Checks check) caches id Q reply some h is serves f = at check.step refl h.1 is serves f.1
    where
      at : (step : BoundaryStep) → check.step ≡ step → StepStands rows store caches.boundary id Q step check.read → IsReplyAt step check.read reply → ((request : Request) (told : Reply) → reply ≡ Some told → asked_at step check.read ≡ Some request → Serves request store told new) → FreshAt b m caches.boundary id step check.read →
          CheckOn b m (cached_at check.step check.read caches.boundary) id (check_told check.id (turned_at check.step check caches.boundary reply))
      at boundary_step.Looks e st given serves' fresh = rw e (
          elim (cases_Bool (refused_by check.id caches.boundary)) [
            | inl refused ↦ rw refused tt
            | inr open' ↦ rw open' (f.0, subst (λ (read : BoundaryRead). FreshBoundary b m caches.boundary id read) (sym fresh.0) fresh.1)
          ]
          )
      at boundary_step.Reads e st given serves' fresh = rw e (told_on b m (boundary_cached check.read caches.boundary) id check (boundary_turned check.read caches.boundary reply) f.0 (boundary_on caches.boundary id Q check.read reply some st given serves' fresh))

-- the read

module _ {T : Type 0} where
  -- It began where nothing disturbed it.
  abbrev pub Fresh : List (PlainRow T) → ReadOp T → Caches → Type 0
  Fresh rows (reads.Reads op ahead) caches = Probing op caches.latest ⊎ Seeking rows op
  Fresh rows (reads.Checks id value check) caches = FreshCheck (boundary rows) (newest rows) caches.boundary id check
  Fresh rows reads.Ended caches = Unit {0}

  -- it goes on so, or has found the newest version
  abbrev pub FreshOn : List (PlainRow T) → Caches → ReadOp T × Turned (ReadAnswer T) → Type 0
  FreshOn rows caches (read, Goes) = Fresh rows read caches
  FreshOn rows caches (read, Done (Ok None)) = Unit {0}
  FreshOn rows caches (read, Done (Ok (Some found))) = found.0 ≡ newest rows
  FreshOn rows caches (read, Done (Err number)) = Unit {0}

  abbrev FoundOn : List (PlainRow T) → LatestOp T × Turned (ReadAnswer T) → Type 0
  FoundOn rows (op, Goes) = Unit {0}
  FoundOn rows (op, Done (Ok None)) = Unit {0}
  FoundOn rows (op, Done (Ok (Some found))) = OpenFor (boundary rows) (newest rows) found.0
  FoundOn rows (op, Done (Err number)) = Unit {0}

  emptied_probes : (op : LatestOp T) (versions : List Cached) → Emptied op versions → Probing op versions
  emptied_probes latest.Looks versions e = tt
  emptied_probes (latest.Probes hand found next request) versions e = absurd e
  emptied_probes (latest.Finds successor found) versions e = absurd e
  emptied_probes (latest.Lists found request) versions e = absurd e
  emptied_probes (latest.Chooses greatest) versions e = absurd e
  emptied_probes (latest.Gets id request) versions e = absurd e
  emptied_probes (latest.Keeps version value) versions e = absurd e
  emptied_probes (latest.Drops id) versions e = absurd e
  emptied_probes latest.Ended versions e = absurd e

  first_fresh : (rows : List (PlainRow T)) (op : LatestOp T) (ahead : BoundaryRead) (caches : Caches) → FirstOn rows (reads.Reads op ahead, Goes) caches.latest → Fresh rows (reads.Reads op ahead) caches
  first_fresh rows op ahead caches f =
      elim f [
        | inl first ↦ first.0
        | inr second ↦ elim second [ inl none ↦ inl (emptied_probes op caches.latest none) | inr seeks ↦ inr seeks ]
      ]

  reads_fresh : (rows : List (PlainRow T)) (ahead : BoundaryRead) (caches : Caches) (told : LatestOp T × Turned (ReadAnswer T)) → ahead ≡ reading.Looks world_boundary → FirstOn rows (reads_turned ahead told) caches.latest → FoundOn rows told → FreshOn rows caches (reads_turned ahead told)
  reads_fresh rows ahead caches (op, Goes) is f o = first_fresh rows op ahead caches f
  reads_fresh rows ahead caches (op, Done (Ok None)) is f o = tt
  reads_fresh rows ahead caches (op, Done (Ok (Some found))) is f o = (refl, (is, o))
  reads_fresh rows ahead caches (op, Done (Err number)) is f o = tt

  checks_fresh : (rows : List (PlainRow T)) (id : ℕ) (value : T) (caches : Caches) (x : CheckOp × Turned (Result (Unit {0}) ℕ)) → CheckOn (boundary rows) (newest rows) caches.boundary id x → FreshOn rows caches (checks_turned world_boundary id value x)
  checks_fresh rows id value caches (check, Goes) h = h
  checks_fresh rows id value caches (check, Done (Ok accepted)) h = h
  checks_fresh rows id value caches (check, Done (Err number)) h = elim (cases_Bool (number == 5)) [ inl five ↦ rw five (inl tt) | inr other ↦ rw other tt ]

module _ {T : Type 0} (decode : List ℕ → Option T) (get_epoch : T → ℕ) (failed : List ℕ) (rows : List (PlainRow T)) (store new : StoreState) (k : KnowStands decode get_epoch failed rows store) (op page : ℕ) where
  -- a version of the greatest id is the newest
  hand_found : (inner : LatestOp T) (id : ℕ) (value : Option T) → OpenFor (boundary rows) (newest rows) id → FoundOn rows (read_in_hand decode inner id value)
  hand_found inner id (Some value) o = o
  hand_found inner id None o = tt

  in_hand_found : (inner : LatestOp T) (hand : Cached) (found : ℕ) → Carried decode rows hand → FoundOn rows (in_hand world_names decode inner hand found)
  in_hand_found inner hand found c =
      elim (cases_Bool (hand.id == 18446744073709551615)) [
        | inl last ↦ rw last (hand_found inner hand.id (decode hand.bytes) (inr (let at = eqb-true hand.id 18446744073709551615 last in let known = c.known.1 in let small = k.history.small in omega (arith, at, known, small))))
        | inr more ↦ rw more tt
      ]

  begins_found : (inner : LatestOp T) (versions : List Cached) (o : Option Cached) → greatest_held versions ≡ o → WindowFits decode rows versions → FoundOn rows (begins_with world_names page decode inner o)
  begins_found inner versions None e w = tt
  begins_found inner versions (Some hand) e w = in_hand_found inner hand 0 (greatest_fits decode rows versions hand w e)

  found_found : (inner : LatestOp T) (successor : Cached) (found : ℕ) → Carried decode rows successor → FoundOn rows (found_turned world_names page decode inner successor found)
  found_found inner successor found c = elim (cases_Bool (found == 4)) [ inl last ↦ rw last tt | inr more ↦ rw more (in_hand_found inner successor found c) ]

  -- where the successor is missing, the version in hand is the newest, or the boundary has reached it
  missing_next : (hand : Cached) (next : ℕ) → Carried decode rows hand → next ≡ hand.id + 1 → get store.files (version_path world_names next) ≡ None → OpenFor (boundary rows) (newest rows) hand.id
  missing_next hand next c is none =
      let known = c.known.1 in
      elim (none_stored decode get_epoch failed rows store k next none) [
        | inl below ↦ inl (omega (arith, below, is))
        | inr over ↦ inr (omega (arith, over, is, known))
      ]

  probed_found : (inner : LatestOp T) (hand : Cached) (found next : ℕ) (request : Request) (answer : Result Got StoreError) → Carried decode rows hand → next ≡ hand.id + 1 → request ≡ version_got world_names next → Serves request store (replies.Get answer) new → FoundOn rows (probed decode inner hand found next answer)
  probed_found inner hand found next request answer c is asks serves = served answer (subst (λ (r : Request). Serves r store (replies.Get answer) new) asks serves)
    where
      served : (answer : Result Got StoreError) → Gets (version_path world_names next) None store answer new → FoundOn rows (probed decode inner hand found next answer)
      served (Ok got) s = tt
      served (Err errors.NotFound) s = hand_found inner hand.id (decode hand.bytes) (missing_next hand next c is (get_missing None (get store.files (version_path world_names next)) s.err.0))
      served (Err errors.NotModified) s = tt
      served (Err errors.Failed) s = tt
      served (Err errors.NoMemory) s = tt
      served (Err errors.TokensExhausted) s = tt
      served (Err errors.AlreadyExists) s = tt
      served (Err errors.Precondition) s = tt

  unlisted_found : (inner : LatestOp T) (o : Option Cached) → FoundOn rows (unlisted inner o)
  unlisted_found inner None = tt
  unlisted_found inner (Some version) = tt

  keeping_found : (inner : LatestOp T) (version : Cached) (value : Option T) → FoundOn rows (keeping decode inner version value)
  keeping_found inner version (Some value) = tt
  keeping_found inner version None = tt

  held_found : (inner : LatestOp T) (id : ℕ) (o : Option Cached) → FoundOn rows (held_or_got world_names decode inner id o)
  held_found inner id None = tt
  held_found inner id (Some version) = keeping_found inner version (decode version.bytes)

  chosen_found : (inner : LatestOp T) (greatest : Option ℕ) (versions : List Cached) → FoundOn rows (chosen world_names decode inner greatest versions)
  chosen_found inner None versions = unlisted_found inner (greatest_held versions)
  chosen_found inner (Some id) versions = held_found inner id (held id versions)

  got_found : (inner : LatestOp T) (id : ℕ) (answer : Result Got StoreError) → FoundOn rows (latest_got world_names page decode inner id answer)
  got_found inner id (Ok got) = keeping_found inner (record { id = id; bytes = got.bytes }) (decode got.bytes)
  got_found inner id (Err errors.NotFound) = tt
  got_found inner id (Err error) = tt

  paged_found : (next : Option Segments) (found : Option ℕ) → FoundOn {T = T} rows (paged_turned world_names page next found)
  paged_found (Some after) found = tt
  paged_found None found = tt

  latest_found : (inner : LatestOp T) (ahead : BoundaryRead) (versions : List Cached) (reply : Option Reply) → LatestStands decode rows op inner → IsLatestReply inner reply → Given (reads.Reads inner ahead) store reply new → WindowFits decode rows versions → Probing inner versions ⊎ Seeking rows inner →
      FoundOn rows (latest_turned world_names page decode inner versions reply)
  latest_found latest.Looks ahead versions reply h is given w f = begins_found latest.Looks versions (greatest_held versions) refl w
  latest_found (latest.Probes hand found next request) ahead versions (Some (replies.Get answer)) h is given w f =
      let asks : request ≡ given.0 = same_Some request given.0 given.1 in
      probed_found (latest.Probes hand found next request) hand found next given.0 answer h.0 h.1 (sym asks ∙ h.3) given.2
  latest_found (latest.Probes hand found next request) ahead versions (Some (replies.Put answer)) h is given w f = absurd is
  latest_found (latest.Probes hand found next request) ahead versions (Some (replies.List answer)) h is given w f = absurd is
  latest_found (latest.Probes hand found next request) ahead versions (Some (replies.Delete answer)) h is given w f = absurd is
  latest_found (latest.Probes hand found next request) ahead versions None h is given w f = absurd is
  latest_found (latest.Finds successor found) ahead versions reply h is given w f = found_found (latest.Finds successor found) successor found h
  latest_found (latest.Lists found request) ahead versions (Some (replies.List (Ok told))) h is given w f = paged_found (next_after told) (greatest_from found world_names told.metas)
  latest_found (latest.Lists found request) ahead versions (Some (replies.List (Err error))) h is given w f = tt
  latest_found (latest.Lists found request) ahead versions (Some (replies.Get answer)) h is given w f = absurd is
  latest_found (latest.Lists found request) ahead versions (Some (replies.Put answer)) h is given w f = absurd is
  latest_found (latest.Lists found request) ahead versions (Some (replies.Delete answer)) h is given w f = absurd is
  latest_found (latest.Lists found request) ahead versions None h is given w f = absurd is
  latest_found (latest.Chooses greatest) ahead versions reply h is given w f = chosen_found (latest.Chooses greatest) greatest versions
  latest_found (latest.Gets id request) ahead versions (Some (replies.Get answer)) h is given w f = got_found (latest.Gets id request) id answer
  latest_found (latest.Gets id request) ahead versions (Some (replies.Put answer)) h is given w f = absurd is
  latest_found (latest.Gets id request) ahead versions (Some (replies.List answer)) h is given w f = absurd is
  latest_found (latest.Gets id request) ahead versions (Some (replies.Delete answer)) h is given w f = absurd is
  latest_found (latest.Gets id request) ahead versions None h is given w f = absurd is
  latest_found (latest.Keeps version value) ahead versions reply h is given w f = elim f [ inl probes ↦ absurd probes | inr seeks ↦ inr seeks ]
  latest_found (latest.Drops id) ahead versions reply h is given w f = tt
  latest_found latest.Ended ahead versions reply h is given w f = absurd is

  pub fresh_step : (read : ReadOp T) (caches : Caches) (reply : Option Reply) → ReadStands decode rows store caches.boundary op read → IsReadReply read reply → Given read store reply new → IsWindow caches.latest → CachesStand decode rows store caches → Fresh rows read caches →
      FreshOn rows (read_caches_after read caches Goes) (read_turned world_names world_boundary page decode read caches reply)
  fresh_step (reads.Reads inner ahead) caches reply h is given w c f =
      reads_fresh rows ahead (read_caches_after (reads.Reads inner ahead) caches Goes) (latest_turned world_names page decode inner caches.latest reply) h.1
      (first_step decode get_epoch failed rows store new k op page (reads.Reads inner ahead) caches reply h given w c (left_fits decode rows store op (reads.Reads inner ahead) caches h c.latest) f)
      (latest_found inner ahead caches.latest reply h.0 is given c.latest f)
  fresh_step (reads.Checks id value check) caches reply h is given w c f =
      checks_fresh rows id value (check_caches check caches) (check_turned check caches reply)
      (check_on decode get_epoch failed rows store new k check caches id (WasNewest decode rows op id value) reply h.0.0 h.1 is (λ request told e asks. served request told e asks given) f)
    where
      served : (request : Request) (told : Reply) → reply ≡ Some told → check_asked check ≡ Some request → Given (reads.Checks id value check) store reply new → Serves request store told new
      served request told e asks given' =
          let g : Given (reads.Checks id value check) store (Some told) new = subst (λ (r : Option Reply). Given (reads.Checks id value check) store r new) e given' in
          subst (λ (r : Request). Serves r store told new) (same_Some g.0 request (sym g.1 ∙ asks)) g.2
  fresh_step reads.Ended caches reply h is given w c f = absurd h
