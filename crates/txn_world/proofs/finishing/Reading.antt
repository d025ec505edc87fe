-- A step of a read that nothing disturbs takes one of the steps that it has left, whatever state it was met in.
use Rattle.std.proofs.Common.{◌≡◌, ℕ, ◌+◌, ◌<◌, ◌≤◌, true, false, List, Option, Some, None, Err, ◌⊎◌, inl, inr, refl, sym, ◌∙◌, ap, subst, arith}
use Rattle.std.specs.FinMap.{get}
use Rattle.std.proofs.lemmas.Option.{same_Some}
use Rattle.txn_store.specs.VersionName.{version_path}
use Rattle.txn_store.specs.Store.{Files, State as StoreState, Gets}
use Rattle.txn_store.specs.Requests.{Serves}
use Rattle.txn_store.specs.declared.store.StoreError.TheVariants as errors
use Rattle.txn_store.specs.declared.request.Request.{Request}
use Rattle.txn_store.specs.declared.request.Reply.{Reply}
use Rattle.txn_store.specs.declared.request.Reply.TheVariants as replies
use Rattle.txn_steps.specs.declared.boundary.boundary_read.BoundaryRead.{BoundaryRead}
use Rattle.txn_steps.specs.declared.boundary.boundary_read.BoundaryRead.TheVariants as reading
use Rattle.txn_steps.specs.declared.boundary.caches.Cached.{Cached}
use Rattle.txn_steps.specs.declared.boundary.caches.Caches.{Caches}
use Rattle.txn_steps.specs.declared.boundary.check.CheckOp.TheVariants as checks
use Rattle.txn_steps.specs.declared.boundary.turned.Turned.{Turned}
use Rattle.txn_steps.specs.declared.boundary.turned.Turned.TheVariants.{Goes, Done}
use Rattle.txn_steps.specs.boundary.Windows.{greatest_held}
use Rattle.txn_steps.specs.declared.latest.LatestOp.{LatestOp}
use Rattle.txn_steps.specs.declared.latest.LatestOp.TheVariants as latest
use Rattle.txn_steps.specs.declared.read.ReadOp.{ReadOp}
use Rattle.txn_steps.specs.declared.read.ReadOp.TheVariants as reads
use Rattle.txn_steps.specs.Requests.{version_got, version_page}
use Rattle.txn_steps.specs.Latest.{ReadAnswer, latest_listing, begins_with}
use Rattle.txn_steps.specs.Reads.{IsReadReply, read_started, read_turned, reads_turned, read_caches_after}
use Rattle.txn_history.specs.Trace.{PlainRow}
use Rattle.txn_history.specs.Names.{world_names, world_boundary}
use Rattle.txn_history.specs.History.{newest, versions_of}
use Rattle.txn_machine.specs.plain.Alone.{IsWindow}
use Rattle.txn_machine.proofs.plain.Lists.{within}
use Rattle.txn_machine.proofs.plain.Stands.{WindowFits, CachesStand, LatestStands, ReadStands, KnowStands}
use Rattle.txn_machine.proofs.plain.Faults.{get_missing}
use Rattle.txn_machine.proofs.plain.Stored.{none_stored}
use Rattle.txn_machine.proofs.plain.Windows.{kept_fits, above_fits}
use Rattle.txn_machine.proofs.plain.Resting.{First, Second, FirstOn, SecondOn, GoesOn, above_boundary, first_step, second_step, Given}
use Rattle.txn_world.proofs.finishing.Tries.{PagesLeft, check_small, ReadCost, CostOn, Missed, some_left, cost_step, Restarts, FirstEnough, first_cases, TriesLeft, ReadLeft, ReadOn}

module _ {T : Type 0} (rows : List (PlainRow T)) (files : Files) (unit g n : ℕ) (versions : List Cached) where
  -- what begins a try, and a listing anew

  started_left : (m : ℕ) → m + 1 ≤ n → TriesLeft {T = T} rows files unit g (read_started world_boundary) versions (17 + g) m → ReadOn rows files unit g n versions (read_started world_boundary, Goes)
  started_left m less tries = (m, less, record { cost = 17 + g; costs = (12 + g, omega arith, omega arith); tries = tries })

  listing_left : (page : ℕ) (ahead : BoundaryRead) → PagesLeft files unit (version_page world_names None page) g → g + 9 ≤ n → ReadOn {T = T} rows files unit g n versions (reads.Reads (latest_listing world_names page) ahead, Goes)
  listing_left page ahead fresh enough = (g + 8, omega (arith, enough), record { cost = g + 8; costs = (g + 3, omega arith, (g, fresh, omega arith)); tries = inr (inr (inl (inr tt, omega arith))) })

  -- it goes on in this try

  any_on : (cost : ℕ) (told : ReadOp T × Turned (ReadAnswer T)) → cost + (23 + g) ≤ n → CostOn files unit g cost told → ReadOn rows files unit g n versions told
  any_on cost (read, Goes) enough on = (on.0 + (23 + g), (let less = on.1 in omega (arith, less, enough)), record { cost = on.0; costs = on.2; tries = inl (omega arith) })
  any_on cost (read, Done answer) enough on = tt

  second_goes : (cost : ℕ) (read : ReadOp T) → cost ≤ n → Second rows read versions → CostOn files unit g cost (read, Goes) → ReadOn rows files unit g n versions (read, Goes)
  second_goes cost read enough second on = (on.0, (let less = on.1 in omega (arith, less, enough)), record { cost = on.0; costs = on.2; tries = inr (inr (inl (second, omega arith))) })

  probing_on : (cost : ℕ) (told : ReadOp T × Turned (ReadAnswer T)) → 9 + g ≤ cost → cost + 6 ≤ n → FirstOn rows told versions → CostOn files unit g cost told → ReadOn rows files unit g n versions told
  probing_on cost (reads.Reads op ahead, Goes) least enough f on =
      elim f [
        | inl first ↦ (on.0 + 6, (let less = on.1 in omega (arith, less, enough)), record { cost = on.0; costs = on.2; tries = inr (inl (first.0, omega arith)) })
        | inr second ↦ second_goes cost (reads.Reads op ahead) (omega (arith, enough)) second on
      ]
  probing_on cost (reads.Checks id value check, Goes) least enough f on =
      elim f [
        | inl first ↦ (14 + g, omega (arith, least, enough), record { cost = 5; costs = check_small check; tries = inr (inl (first.0, omega arith)) })
        | inr second ↦ second_goes cost (reads.Checks id value check) (omega (arith, enough)) second on
      ]
  probing_on cost (reads.Ended, Goes) least enough f on = second_goes cost reads.Ended (omega (arith, enough)) tt on
  probing_on cost (read, Done answer) least enough f on = tt

  checking_on : (cost : ℕ) (told : ReadOp T × Turned (ReadAnswer T)) → cost + (9 + g) ≤ n → FirstOn rows told versions → CostOn files unit g cost told → ReadOn rows files unit g n versions told
  checking_on cost (reads.Reads op ahead, Goes) enough f on =
      elim f [
        | inl first ↦ (on.0 + 6, (let less = on.1 in omega (arith, less, enough)), record { cost = on.0; costs = on.2; tries = inr (inl (first.0, omega arith)) })
        | inr second ↦ second_goes cost (reads.Reads op ahead) (omega (arith, enough)) second on
      ]
  checking_on cost (reads.Checks id value check, Goes) enough f on =
      elim f [
        | inl first ↦ (on.0 + (9 + g), (let less = on.1 in omega (arith, less, enough)), record { cost = on.0; costs = on.2; tries = inr (inl (first.0, omega arith)) })
        | inr second ↦ second_goes cost (reads.Checks id value check) (omega (arith, enough)) second on
      ]
  checking_on cost (reads.Ended, Goes) enough f on = second_goes cost reads.Ended (omega (arith, enough)) tt on
  checking_on cost (read, Done answer) enough f on = tt

  second_on : (cost : ℕ) (told : ReadOp T × Turned (ReadAnswer T)) → cost ≤ n → SecondOn rows told versions → CostOn files unit g cost told → ReadOn rows files unit g n versions told
  second_on cost (read, Goes) enough s on = second_goes cost read enough s.0 on
  second_on cost (read, Done answer) enough s on = tt

  -- a try that begins is none that goes on
  begins_again : {A : Type 0} → GoesOn {T = T} (read_started world_boundary) → A
  begins_again on = let clash : true ≡ false = on in cc

module _ {T : Type 0} (decode : List ℕ → Option T) (rows : List (PlainRow T)) (store : StoreState) (op : ℕ) where
  -- what it leaves cached fits
  pub left_fits : (read : ReadOp T) (caches : Caches) → ReadStands decode rows store caches.boundary op read → WindowFits decode rows caches.latest → WindowFits decode rows (read_caches_after read caches Goes).latest
  left_fits (reads.Reads latest.Looks ahead) caches h w = w
  left_fits (reads.Reads (latest.Probes hand found next request) ahead) caches h w = w
  left_fits (reads.Reads (latest.Finds successor found) ahead) caches h w = kept_fits decode rows successor caches.latest h.0 w
  left_fits (reads.Reads (latest.Lists found request) ahead) caches h w = w
  left_fits (reads.Reads (latest.Chooses greatest) ahead) caches h w = w
  left_fits (reads.Reads (latest.Gets id request) ahead) caches h w = w
  left_fits (reads.Reads (latest.Keeps version value) ahead) caches h w = kept_fits decode rows version caches.latest h.0.1.0 w
  left_fits (reads.Reads (latest.Drops id) ahead) caches h w = above_fits decode rows id caches.latest w
  left_fits (reads.Reads latest.Ended ahead) caches h w = w
  left_fits (reads.Checks id value (checks.Checks check)) caches h w = w
  left_fits (reads.Checks id value (checks.Drops i)) caches h w = above_fits decode rows i caches.latest w
  left_fits reads.Ended caches h w = w

module _ {T : Type 0} (decode : List ℕ → Option T) (get_epoch : T → ℕ) (failed : List ℕ) (rows : List (PlainRow T)) (store new : StoreState) (k : KnowStands decode get_epoch failed rows store) (op page unit g : ℕ) (paged : unit ≤ page) (room : 1 ≤ page) (fresh : PagesLeft store.files unit (version_page world_names None page) g) where
  -- the read of the boundary that its check will make
  ahead_is : (read : ReadOp T) (caches : Caches) → ReadStands decode rows store caches.boundary op read → (inner : LatestOp T) (ahead : BoundaryRead) → read ≡ reads.Reads inner ahead → ahead ≡ reading.Looks world_boundary
  ahead_is read caches h inner ahead is = (subst (λ (r : ReadOp T). ReadStands decode rows store caches.boundary op r) is h).1

  -- the get of the newest version finds it

  newest_found : (id : ℕ) → 0 < id → id ≡ newest rows → get store.files (version_path world_names id) ≡ None → ⊥
  newest_found id some is none =
      elim (none_stored decode get_epoch failed rows store k id none) [
        | inl below ↦ above_boundary decode get_epoch failed rows store new k op page id some is below
        | inr over ↦ omega (arith, over, is)
      ]

  get_finds : (id : ℕ) (request : Request) (ahead : BoundaryRead) (reply : Option Reply) → LatestStands decode rows op (latest.Gets id request) → Given {T = T} (reads.Reads (latest.Gets id request) ahead) store reply new → id ≡ newest rows → reply ≡ Some (replies.Get (Err errors.NotFound)) → ⊥
  get_finds id request ahead None h given is e = cc
  get_finds id request ahead (Some reply) h given is e =
      let missing : reply ≡ replies.Get (Err errors.NotFound) = same_Some reply (replies.Get (Err errors.NotFound)) e in
      let asks : given.0 ≡ version_got world_names id = sym (same_Some request given.0 given.1) ∙ h.1 in
      let s : Gets (version_path world_names id) None store (Err errors.NotFound) new = subst (λ (r : Reply). Serves (version_got world_names id) store r new) missing (subst (λ (r : Request). Serves r store reply new) asks given.2) in
      newest_found id (within (versions_of rows) id h.0.version h.0.kept).0 is (get_missing None (get store.files (version_path world_names id)) s.err.0)

  second_finds : (read : ReadOp T) (caches : Caches) (reply : Option Reply) → ReadStands decode rows store caches.boundary op read → Given read store reply new → Second rows read caches.latest → Missed store.files unit g read reply → ⊥
  second_finds (reads.Reads (latest.Gets id request) ahead) caches reply h given s missed = elim s [ inl none ↦ absurd none | inr is ↦ get_finds id request ahead reply h.0 given is missed ]
  second_finds (reads.Reads latest.Looks ahead) caches reply h given s missed = missed
  second_finds (reads.Reads (latest.Probes hand found next request) ahead) caches reply h given s missed = missed
  second_finds (reads.Reads (latest.Finds successor found) ahead) caches reply h given s missed = missed
  second_finds (reads.Reads (latest.Lists found request) ahead) caches reply h given s missed = missed
  second_finds (reads.Reads (latest.Chooses greatest) ahead) caches reply h given s missed = missed
  second_finds (reads.Reads (latest.Keeps version value) ahead) caches reply h given s missed = missed
  second_finds (reads.Reads (latest.Drops id) ahead) caches reply h given s missed = missed
  second_finds (reads.Reads latest.Ended ahead) caches reply h given s missed = missed
  second_finds (reads.Checks id value check) caches reply h given s missed = missed
  second_finds reads.Ended caches reply h given s missed = missed

  -- where a get misses, it lists from the first page on
  missed_lists : (read : ReadOp T) (caches : Caches) (reply : Option Reply) → Missed store.files unit g read reply → (ahead : BoundaryRead) × (read_turned world_names world_boundary page decode read caches reply ≡ (reads.Reads (latest_listing world_names page) ahead, Goes))
  missed_lists (reads.Reads (latest.Gets id request) ahead) caches reply missed = (ahead, ap (λ (r : Option Reply). read_turned world_names world_boundary page decode (reads.Reads (latest.Gets id request) ahead) caches r) missed)
  missed_lists (reads.Reads latest.Looks ahead) caches reply missed = absurd missed
  missed_lists (reads.Reads (latest.Probes hand found next request) ahead) caches reply missed = absurd missed
  missed_lists (reads.Reads (latest.Finds successor found) ahead) caches reply missed = absurd missed
  missed_lists (reads.Reads (latest.Lists found request) ahead) caches reply missed = absurd missed
  missed_lists (reads.Reads (latest.Chooses greatest) ahead) caches reply missed = absurd missed
  missed_lists (reads.Reads (latest.Keeps version value) ahead) caches reply missed = absurd missed
  missed_lists (reads.Reads (latest.Drops id) ahead) caches reply missed = absurd missed
  missed_lists (reads.Reads latest.Ended ahead) caches reply missed = absurd missed
  missed_lists (reads.Checks id value check) caches reply missed = absurd missed
  missed_lists reads.Ended caches reply missed = absurd missed

  -- with nothing held it lists at once
  restarts_lists : (read : ReadOp T) (caches : Caches) (reply : Option Reply) → Restarts read caches.latest → (ahead : BoundaryRead) × (read_turned world_names world_boundary page decode read caches reply ≡ (reads.Reads (latest_listing world_names page) ahead, Goes))
  restarts_lists (reads.Reads latest.Looks ahead) caches reply none = (ahead, ap (λ (versions : List Cached). reads_turned ahead (begins_with world_names page decode latest.Looks (greatest_held versions))) none)
  restarts_lists (reads.Reads (latest.Probes hand found next request) ahead) caches reply none = absurd none
  restarts_lists (reads.Reads (latest.Finds successor found) ahead) caches reply none = absurd none
  restarts_lists (reads.Reads (latest.Lists found request) ahead) caches reply none = absurd none
  restarts_lists (reads.Reads (latest.Chooses greatest) ahead) caches reply none = absurd none
  restarts_lists (reads.Reads (latest.Gets id request) ahead) caches reply none = absurd none
  restarts_lists (reads.Reads (latest.Keeps version value) ahead) caches reply none = absurd none
  restarts_lists (reads.Reads (latest.Drops id) ahead) caches reply none = absurd none
  restarts_lists (reads.Reads latest.Ended ahead) caches reply none = absurd none
  restarts_lists (reads.Checks id value check) caches reply none = absurd none
  restarts_lists reads.Ended caches reply none = absurd none

  module _ (read : ReadOp T) (caches : Caches) (reply : Option Reply) (n : ℕ) (h : ReadStands decode rows store caches.boundary op read) (is : IsReadReply read reply) (given : Given read store reply new) (c : CachesStand decode rows store caches) where
    abbrev told : ReadOp T × Turned (ReadAnswer T)
    told = read_turned world_names world_boundary page decode read caches reply

    abbrev kept : List Cached
    kept = (read_caches_after read caches Goes).latest

    abbrev On : ReadOp T × Turned (ReadAnswer T) → Type 0
    On t = ReadOn rows store.files unit g n kept t

    -- the three ways on
    stepped : (cost : ℕ) → ReadCost store.files unit g read cost → (told ≡ (read_started world_boundary, Goes)) ⊎ Missed store.files unit g read reply ⊎ CostOn store.files unit g cost told
    stepped cost costs = cost_step store.files unit g decode store new refl page paged room fresh read caches reply cost (ahead_is read caches h) is given costs

    missed_on : Missed store.files unit g read reply → g + 9 ≤ n → On told
    missed_on missed enough = (let lists = missed_lists read caches reply missed in subst On (sym lists.1) (listing_left rows store.files unit g n kept page lists.0 fresh enough))

    any_step : (cost : ℕ) → ReadCost store.files unit g read cost → cost + (23 + g) ≤ n → On told
    any_step cost costs enough =
        let some = some_left store.files unit g read reply cost is costs in
        elim (stepped cost costs) [
          | inl again ↦ subst On (sym again) (started_left rows store.files unit g n kept (23 + g) (omega (arith, some, enough)) (inr (inl (inl tt, omega arith))))
          | inr (inl missed) ↦ missed_on missed (omega (arith, enough))
          | inr (inr on) ↦ any_on rows store.files unit g n kept cost told enough on
        ]

    first_stays : (w : IsWindow caches.latest) → First rows read caches.latest → FirstOn rows told kept
    first_stays w f = first_step decode get_epoch failed rows store new k op page read caches reply h given w c (left_fits decode rows store op read caches h c.latest) f

    second_try : (cost : ℕ) → ReadCost store.files unit g read cost → cost ≤ n → Second rows read caches.latest → On told
    second_try cost costs enough s =
        let stays = second_step decode get_epoch failed rows store new k op page read caches reply h given c s in
        elim (stepped cost costs) [
          | inl again ↦ begins_again rows store.files unit g n kept (subst (λ (t : ReadOp T × Turned (ReadAnswer T)). SecondOn rows t kept) again stays).1
          | inr (inl missed) ↦ absurd (second_finds read caches reply h given s missed)
          | inr (inr on) ↦ second_on rows store.files unit g n kept cost told enough stays on
        ]

    -- a first try that is refused leaves nothing held
    refused_on : (cost : ℕ) → told ≡ (read_started world_boundary, Goes) → FirstOn rows told kept → 10 + g ≤ n → On told
    refused_on cost again stays enough =
        subst On (sym again) (
        elim (subst (λ (t : ReadOp T × Turned (ReadAnswer T)). FirstOn rows t kept) again stays) [
          | inl on ↦ begins_again rows store.files unit g n kept on.1
          | inr second ↦ started_left rows store.files unit g n kept (9 + g) (omega (arith, enough)) (inr (inr (inr (elim second [ inl none ↦ none | inr seeks ↦ absurd seeks ], omega arith))))
        ]
        )

    first_try : (cost : ℕ) → ReadCost store.files unit g read cost → FirstEnough g read cost n → IsWindow caches.latest → First rows read caches.latest → On told
    first_try cost costs enough w f =
        let some = some_left store.files unit g read reply cost is costs in
        let stays = first_stays w f in
        elim (first_cases rows store.files unit g read caches.latest cost n costs enough f) [
          | inl probes ↦ (let least = probes.0 in let room' = probes.1 in elim (stepped cost costs) [
            | inl again ↦ refused_on cost again stays (omega (arith, least, room'))
            | inr (inl missed) ↦ missed_on missed (omega (arith, least, room'))
            | inr (inr on) ↦ probing_on rows store.files unit g n kept cost told least room' stays on
          ])
          | inr (inl checks) ↦ elim (stepped cost costs) [
            | inl again ↦ refused_on cost again stays (omega (arith, some, checks))
            | inr (inl missed) ↦ missed_on missed (omega (arith, some, checks))
            | inr (inr on) ↦ checking_on rows store.files unit g n kept cost told checks stays on
          ]
          | inr (inr second) ↦ second_try cost costs second.1 second.0
        ]

    restart_try : Restarts read caches.latest → 9 + g ≤ n → On told
    restart_try none enough = (let lists = restarts_lists read caches reply none in subst On (sym lists.1) (listing_left rows store.files unit g n kept page lists.0 fresh (omega (arith, enough))))

    pub read_step : IsWindow caches.latest → ReadLeft rows store.files unit g read caches.latest n → On told
    read_step w l =
        elim l.tries [
          | inl enough ↦ any_step l.cost l.costs enough
          | inr (inl first) ↦ first_try l.cost l.costs first.1 w first.0
          | inr (inr (inl second)) ↦ second_try l.cost l.costs second.1 second.0
          | inr (inr (inr restarts)) ↦ restart_try restarts.0 restarts.1
        ]
