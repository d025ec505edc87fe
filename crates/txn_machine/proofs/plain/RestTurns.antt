-- How many turns are left for a read that nothing disturbs: a pass lists once, and its get finds what the listing chose.
use Rattle.std.proofs.Common.{◌≡◌, ℕ, zero, suc, ◌+◌, ◌<◌, ◌≤◌, List, ◌==◌, cond, Option, Some, None, Ok, Err, Result, ◌⊎◌, inl, inr, refl, sym, ◌∙◌, ap, subst, arith}
use Rattle.std.specs.FinMap.{get}
use Rattle.std.proofs.lemmas.Bool.{cases_Bool}
use Rattle.std.proofs.lemmas.Option.{same_Some}
use Rattle.txn_store.specs.Paths.{Segments}
use Rattle.txn_store.specs.VersionName.{version_path}
use Rattle.txn_store.specs.Store.{Files, State as StoreState, Gets}
use Rattle.txn_store.specs.Requests.{Serves}
use Rattle.txn_store.specs.declared.store.Got.{Got}
use Rattle.txn_store.specs.declared.store.StoreError.{StoreError}
use Rattle.txn_store.specs.declared.store.StoreError.TheVariants as errors
use Rattle.txn_store.specs.declared.request.Request.{Request}
use Rattle.txn_store.specs.declared.request.Reply.{Reply}
use Rattle.txn_store.specs.declared.request.Reply.TheVariants as replies
use Rattle.txn_steps.specs.declared.boundary.boundary_read.BoundaryRead.{BoundaryRead}
use Rattle.txn_steps.specs.declared.boundary.caches.Cached.{Cached}
use Rattle.txn_steps.specs.declared.boundary.caches.Caches.{Caches}
use Rattle.txn_steps.specs.declared.boundary.check.CheckOp.{CheckOp}
use Rattle.txn_steps.specs.declared.boundary.check.CheckOp.TheVariants as checks
use Rattle.txn_steps.specs.declared.boundary.turned.Turned.{Turned}
use Rattle.txn_steps.specs.declared.boundary.turned.Turned.TheVariants.{Goes, Done}
use Rattle.txn_steps.specs.boundary.Windows.{held, greatest_held}
use Rattle.txn_steps.specs.boundary.BoundaryChecks.{boundary_check_turned}
use Rattle.txn_steps.specs.boundary.Checks.{check_turned}
use Rattle.txn_steps.specs.declared.latest.LatestOp.{LatestOp}
use Rattle.txn_steps.specs.declared.latest.LatestOp.TheVariants as latest
use Rattle.txn_steps.specs.declared.read.ReadOp.{ReadOp}
use Rattle.txn_steps.specs.declared.read.ReadOp.TheVariants as reads
use Rattle.txn_steps.specs.Requests.{version_got, version_page, next_after}
use Rattle.txn_steps.specs.Latest.{ReadAnswer, greatest_from, latest_turned, paged_turned, unlisted, read_in_hand, probed, keeping, in_hand, held_or_got, chosen, begins_with, found_turned, latest_got, latest_replied}
use Rattle.txn_steps.specs.Reads.{read_turned, reads_turned, checks_turned}
use Rattle.txn_history.specs.Trace.{PlainRow}
use Rattle.txn_history.specs.Names.{world_names, world_boundary}
use Rattle.txn_history.specs.History.{newest, versions_of}
use Rattle.txn_machine.specs.declared.plain.doing.PlainDoing.TheVariants.{Read}
use Rattle.txn_machine.specs.plain.Alone.{page_after, AtMost, HasPages, is_turn}
use Rattle.txn_machine.proofs.plain.Lists.{within}
use Rattle.txn_machine.proofs.plain.Stands.{LatestStands, ReadStands, KnowStands}
use Rattle.txn_machine.proofs.plain.Faults.{get_missing}
use Rattle.txn_machine.proofs.plain.Stored.{none_stored}
use Rattle.txn_machine.proofs.plain.Resting.{ChecksOn, checks_on, above_boundary, Given}

-- a page more is one of those that may follow
next_page : (files : Files) (limit most : ℕ) (next : Option Segments) (path : Segments) → AtMost files limit most next → next ≡ Some path → (fewer : ℕ) × (most ≡ fewer + 1) × AtMost files limit fewer (next_after (page_after files limit (Some path)))
next_page files limit most None path h e = cc
next_page files limit zero (Some after) path h e = absurd h
next_page files limit (suc fewer) (Some after) path h e = (fewer, omega arith, subst (λ (p : Segments). AtMost files limit fewer (next_after (page_after files limit (Some p)))) (same_Some after path e) h)

-- one turn or none
abbrev pub turn_count : {T : Type 0} → ReadOp T → ReadOp T → ℕ
turn_count before after = cond (is_turn (Read before) (Read after)) 1 0

-- a listing that asks for the page after this path, with at most so many pages after that, and more turns later
pub record ListsWithin (files : Files) (page extra : ℕ) (request : Request) (left : ℕ) : Type 0 where
  pub after : Option Segments
  pub asks : request ≡ version_page world_names after page
  pub follow : ℕ
  pub pages : AtMost files page follow (next_after (page_after files page after))
  pub enough : follow + extra ≤ left

module _ {T : Type 0} (files : Files) (page more extra : ℕ) where
  -- Enough turns are left for this pass, where a listing has at most so many pages after its first, and for what may follow it.
  abbrev pub LatestLeft : LatestOp T → ℕ → Type 0
  LatestLeft latest.Looks left = more + extra ≤ left
  LatestLeft (latest.Probes hand found next request) left = more + extra ≤ left
  LatestLeft (latest.Finds successor found) left = more + extra ≤ left
  LatestLeft (latest.Lists found request) left = ListsWithin files page extra request left
  LatestLeft (latest.Chooses greatest) left = extra ≤ left
  LatestLeft (latest.Gets id request) left = extra ≤ left
  LatestLeft (latest.Keeps version value) left = extra ≤ left
  LatestLeft (latest.Drops id) left = Unit {0}
  LatestLeft latest.Ended left = Unit {0}

  abbrev pub Left : ReadOp T → ℕ → Type 0
  Left (reads.Reads latest ahead) left = LatestLeft latest left
  Left (reads.Checks id value check) left = extra ≤ left
  Left reads.Ended left = Unit {0}

  -- a step takes its turn from what is left, where the read goes on
  abbrev pub TurnsOn : ReadOp T → ℕ → ReadOp T × Turned (ReadAnswer T) → Type 0
  TurnsOn before left (read, Goes) = (rest : ℕ) × (turn_count before read + rest ≤ left) × Left read rest
  TurnsOn before left (read, Done answer) = Unit {0}

  module _ (ahead : BoundaryRead) where
    abbrev pub StepsOn : LatestOp T → ℕ → LatestOp T × Turned (ReadAnswer T) → Type 0
    StepsOn before left (op, Goes) = (rest : ℕ) × (turn_count (reads.Reads before ahead) (reads.Reads op ahead) + rest ≤ left) × LatestLeft op rest
    StepsOn before left (op, Done (Ok None)) = Unit {0}
    StepsOn before left (op, Done (Ok (Some found))) = extra ≤ left
    StepsOn before left (op, Done (Err number)) = Unit {0}

    steps_on : (before : LatestOp T) (left : ℕ) (told : LatestOp T × Turned (ReadAnswer T)) → StepsOn before left told → TurnsOn (reads.Reads before ahead) left (reads_turned ahead told)
    steps_on before left (op, Goes) h = h
    steps_on before left (op, Done (Ok None)) h = tt
    steps_on before left (op, Done (Ok (Some found))) h = (left, omega arith, h)
    steps_on before left (op, Done (Err number)) h = tt

    module _ (decode : List ℕ → Option T) (pages : HasPages files page more) (left : ℕ) where
      -- the first page of a listing is asked for
      lists_left : more + extra ≤ left → ListsWithin files page extra (version_page world_names None page) left
      lists_left enough = record { after = None; asks = refl; follow = more; pages = pages; enough = enough }

      hand_left : (before op : LatestOp T) (id : ℕ) (value : Option T) → extra ≤ left → StepsOn before left (read_in_hand decode op id value)
      hand_left before op id (Some value) enough = enough
      hand_left before op id None enough = tt

      in_hand_left : (op : LatestOp T) (hand : Cached) (found : ℕ) → more + extra ≤ left → StepsOn op left (in_hand world_names decode op hand found)
      in_hand_left op hand found enough =
          elim (cases_Bool (hand.id == 18446744073709551615)) [
            | inl last ↦ rw last (hand_left op op hand.id (decode hand.bytes) (omega (arith, enough)))
            | inr next ↦ rw next (left, omega arith, enough)
          ]

      begins_left : (o : Option Cached) → more + extra ≤ left → StepsOn latest.Looks left (begins_with world_names page decode latest.Looks o)
      begins_left None enough = (left, omega arith, lists_left enough)
      begins_left (Some hand) enough = in_hand_left latest.Looks hand 0 enough

      found_left : (successor : Cached) (found : ℕ) → more + extra ≤ left → StepsOn (latest.Finds successor found) left (found_turned world_names page decode (latest.Finds successor found) successor found)
      found_left successor found enough =
          elim (cases_Bool (found == 4)) [
            | inl last ↦ rw last (left, omega arith, lists_left enough)
            | inr next ↦ rw next (in_hand_left (latest.Finds successor found) successor found enough)
          ]

      probed_left : (op : LatestOp T) (hand : Cached) (found next : ℕ) (answer : Result Got StoreError) → more + extra ≤ left → StepsOn op left (probed decode op hand found next answer)
      probed_left op hand found next (Ok got) enough = (left, omega arith, enough)
      probed_left op hand found next (Err errors.NotFound) enough = hand_left op op hand.id (decode hand.bytes) (omega (arith, enough))
      probed_left op hand found next (Err error) enough = tt

      probes_left : (hand : Cached) (found next : ℕ) (request : Request) (reply : Option Reply) → more + extra ≤ left → StepsOn (latest.Probes hand found next request) left (latest_replied world_names page decode (latest.Probes hand found next request) reply)
      probes_left hand found next request (Some (replies.Get answer)) enough = probed_left (latest.Probes hand found next request) hand found next answer enough
      probes_left hand found next request (Some (replies.Put answer)) enough = (left, omega arith, enough)
      probes_left hand found next request (Some (replies.List answer)) enough = (left, omega arith, enough)
      probes_left hand found next request (Some (replies.Delete answer)) enough = (left, omega arith, enough)
      probes_left hand found next request None enough = (left, omega arith, enough)

      -- a page takes one turn of those that the listing has
      page_left : (found greatest : Option ℕ) (request : Request) (l : ListsWithin files page extra request left) (next : Option Segments) → next_after (page_after files page l.after) ≡ next → StepsOn (latest.Lists found request) left (paged_turned world_names page next greatest)
      page_left found greatest request l None e = (left, omega arith, (let enough = l.enough in omega (arith, enough)))
      page_left found greatest request l (Some path) e =
          let p = next_page files page l.follow (next_after (page_after files page l.after)) path l.pages e in
          let enough = l.enough in
          (p.0 + extra, omega (arith, p.1, enough), record { after = Some path; asks = refl; follow = p.0; pages = p.2; enough = omega arith })

      unlisted_left : (before op : LatestOp T) (o : Option Cached) → StepsOn before left (unlisted op o)
      unlisted_left before op None = tt
      unlisted_left before op (Some version) = (left, omega arith, tt)

      keeping_left : (before op : LatestOp T) (version : Cached) (value : Option T) → extra ≤ left → StepsOn before left (keeping decode op version value)
      keeping_left before op version (Some value) enough = (left, omega arith, enough)
      keeping_left before op version None enough = tt

      held_left : (before op : LatestOp T) (id : ℕ) (o : Option Cached) → extra ≤ left → StepsOn before left (held_or_got world_names decode op id o)
      held_left before op id None enough = (left, omega arith, enough)
      held_left before op id (Some version) enough = keeping_left before op version (decode version.bytes) enough

      chosen_left : (before op : LatestOp T) (greatest : Option ℕ) (versions : List Cached) → extra ≤ left → StepsOn before left (chosen world_names decode op greatest versions)
      chosen_left before op None versions enough = unlisted_left before op (greatest_held versions)
      chosen_left before op (Some id) versions enough = held_left before op id (held id versions) enough

      -- a get that does not miss
      got_left : (op : LatestOp T) (id : ℕ) (answer : Result Got StoreError) → (answer ≡ Err errors.NotFound → ⊥) → extra ≤ left → StepsOn op left (latest_got world_names page decode op id answer)
      got_left op id (Ok got) finds enough = keeping_left op op (record { id = id; bytes = got.bytes }) (decode got.bytes) enough
      got_left op id (Err errors.NotFound) finds enough = absurd (finds refl)
      got_left op id (Err error) finds enough = tt

      gets_left : (id : ℕ) (request : Request) (reply : Option Reply) → (reply ≡ Some (replies.Get (Err errors.NotFound)) → ⊥) → extra ≤ left → StepsOn (latest.Gets id request) left (latest_replied world_names page decode (latest.Gets id request) reply)
      gets_left id request (Some (replies.Get answer)) finds enough = got_left (latest.Gets id request) id answer (λ e. finds (ap (λ (a : Result Got StoreError). Some (replies.Get a)) e)) enough
      gets_left id request (Some (replies.Put answer)) finds enough = (left, omega arith, enough)
      gets_left id request (Some (replies.List answer)) finds enough = (left, omega arith, enough)
      gets_left id request (Some (replies.Delete answer)) finds enough = (left, omega arith, enough)
      gets_left id request None finds enough = (left, omega arith, enough)

module _ {T : Type 0} where
  -- what it gets is the newest
  abbrev pub AtNewest : List (PlainRow T) → LatestOp T → Type 0
  AtNewest rows (latest.Gets id request) = id ≡ newest rows
  AtNewest rows _ = Unit {0}

  abbrev pub ReadNewest : List (PlainRow T) → ReadOp T → Type 0
  ReadNewest rows (reads.Reads latest ahead) = AtNewest rows latest
  ReadNewest rows (reads.Checks id value check) = Unit {0}
  ReadNewest rows reads.Ended = Unit {0}

  -- its id is refused, and it starts again
  abbrev pub IsRefusal : ReadOp T → Type 0
  IsRefusal (reads.Reads latest ahead) = ⊥
  IsRefusal (reads.Checks id value (checks.Checks check)) = ⊥
  IsRefusal (reads.Checks id value (checks.Drops i)) = Unit {0}
  IsRefusal reads.Ended = ⊥

module _ {T : Type 0} (decode : List ℕ → Option T) (get_epoch : T → ℕ) (failed : List ℕ) (rows : List (PlainRow T)) (store new : StoreState) (k : KnowStands decode get_epoch failed rows store) (op page more extra : ℕ) (pages : HasPages store.files page more) where
  -- the newest version is stored
  newest_found : (id : ℕ) → 0 < id → id ≡ newest rows → get store.files (version_path world_names id) ≡ None → ⊥
  newest_found id some is none =
      elim (none_stored decode get_epoch failed rows store k id none) [
        | inl below ↦ above_boundary decode get_epoch failed rows store new k op page id some is below
        | inr over ↦ omega (arith, over, is)
      ]

  get_finds : (id : ℕ) (request : Request) (ahead : BoundaryRead) (reply : Option Reply) → LatestStands decode rows op (latest.Gets id request) → Given {T = T} (reads.Reads (latest.Gets id request) ahead) store reply new → id ≡ newest rows → reply ≡ Some (replies.Get (Err errors.NotFound)) → ⊥
  get_finds id request ahead None h g is e = cc
  get_finds id request ahead (Some reply) h g is e =
      let missing : reply ≡ replies.Get (Err errors.NotFound) = same_Some reply (replies.Get (Err errors.NotFound)) e in
      let asks : g.0 ≡ version_got world_names id = sym (same_Some request g.0 g.1) ∙ h.1 in
      let s : Gets (version_path world_names id) None store (Err errors.NotFound) new = subst (λ (r : Reply). Serves (version_got world_names id) store r new) missing (subst (λ (r : Request). Serves r store reply new) asks g.2) in
      newest_found id (within (versions_of rows) id h.0.version h.0.kept).0 is (get_missing None (get store.files (version_path world_names id)) s.err.0)

  -- a page is listed
  listing_left : (found : Option ℕ) (request : Request) (ahead : BoundaryRead) (reply : Option Reply) (left : ℕ) → Given {T = T} (reads.Reads (latest.Lists found request) ahead) store reply new → ListsWithin store.files page extra request left →
      StepsOn {T = T} store.files page more extra ahead (latest.Lists found request) left (latest_replied world_names page decode (latest.Lists found request) reply)
  listing_left found request ahead (Some reply) left g l =
      let asks : g.0 ≡ version_page world_names l.after page = sym (same_Some request g.0 g.1) ∙ l.asks in
      served reply (subst (λ (r : Request). Serves r store reply new) asks g.2)
    where
      served : (reply : Reply) → Serves (version_page world_names l.after page) store reply new → StepsOn {T = T} store.files page more extra ahead (latest.Lists found request) left (latest_replied world_names page decode (latest.Lists found request) (Some reply))
      served (replies.List (Ok told)) s = page_left store.files page more extra ahead decode pages left found (greatest_from found world_names told.metas) request l (next_after told) (ap next_after (sym s.listed))
      served (replies.List (Err error)) s = tt
      served (replies.Get answer) s = absurd s
      served (replies.Put answer) s = absurd s
      served (replies.Delete answer) s = absurd s
  listing_left found request ahead None left g l = absurd (let none = g.0 in cc)

  latest_left_on : (read : LatestOp T) (ahead : BoundaryRead) (versions : List Cached) (reply : Option Reply) (left : ℕ) → LatestStands decode rows op read → Given (reads.Reads read ahead) store reply new → AtNewest rows read → LatestLeft store.files page more extra read left →
      StepsOn store.files page more extra ahead read left (latest_turned world_names page decode read versions reply)
  latest_left_on latest.Looks ahead versions reply left h g n enough = begins_left store.files page more extra ahead decode pages left (greatest_held versions) enough
  latest_left_on (latest.Probes hand found next request) ahead versions reply left h g n enough = probes_left store.files page more extra ahead decode pages left hand found next request reply enough
  latest_left_on (latest.Finds successor found) ahead versions reply left h g n enough = found_left store.files page more extra ahead decode pages left successor found enough
  latest_left_on (latest.Lists found request) ahead versions reply left h g n l = listing_left found request ahead reply left g l
  latest_left_on (latest.Chooses greatest) ahead versions reply left h g n enough = chosen_left store.files page more extra ahead decode pages left (latest.Chooses greatest) (latest.Chooses greatest) greatest versions enough
  latest_left_on (latest.Gets id request) ahead versions reply left h g n enough = gets_left store.files page more extra ahead decode pages left id request reply (get_finds id request ahead reply h g n) enough
  latest_left_on (latest.Keeps version value) ahead versions reply left h g n enough = enough
  latest_left_on (latest.Drops id) ahead versions reply left h g n enough = tt
  latest_left_on latest.Ended ahead versions reply left h g n enough = (left, omega arith, tt)

  checks_left : (id : ℕ) (value : T) (check : CheckOp) (left : ℕ) (told : ReadOp T × Turned (ReadAnswer T)) → ChecksOn id told → extra ≤ left → TurnsOn store.files page more extra (reads.Checks id value check) left told
  checks_left id value check left (reads.Checks i v next, Goes) h enough = (left, omega arith, enough)
  checks_left id value check left (reads.Reads latest ahead, Goes) h enough = absurd h
  checks_left id value check left (reads.Ended, Goes) h enough = absurd h
  checks_left id value check left (read, Done answer) h enough = tt

  -- Each step takes its turn from what is left, but for the one that a refusal ends.
  pub turns_step : (read : ReadOp T) (caches : Caches) (reply : Option Reply) (left : ℕ) → ReadStands decode rows store caches.boundary op read → Given read store reply new → ReadNewest rows read → Left store.files page more extra read left →
      IsRefusal read ⊎ TurnsOn store.files page more extra read left (read_turned world_names world_boundary page decode read caches reply)
  turns_step (reads.Reads read ahead) caches reply left h g n enough =
      inr (steps_on store.files page more extra ahead read left (latest_turned world_names page decode read caches.latest reply) (latest_left_on read ahead caches.latest reply left h.0 g n enough))
  turns_step (reads.Checks id value (checks.Checks check)) caches reply left h g n enough =
      inr (checks_left id value (checks.Checks check) left (checks_turned world_boundary id value (check_turned (checks.Checks check) caches reply)) (checks_on id value check.id (boundary_check_turned check caches.boundary reply)) enough)
  turns_step (reads.Checks id value (checks.Drops i)) caches reply left h g n enough = inl tt
  turns_step reads.Ended caches reply left h g n enough = absurd h
