-- How a read that nothing disturbs goes on: its first pass leaves nothing cached where it is refused, and its second lists.
use Rattle.std.proofs.Common.{◌≡◌, ℕ, ◌+◌, ◌-◌, ◌<◌, ◌≤◌, List, [], ◌∷◌, length, slice_get, nat_lt, ◌==◌, false, Option, Some, None, Ok, Err, Result, ◌⊎◌, inl, inr, refl, sym, ◌∙◌, ap, subst, arith}
use Rattle.std.proofs.lemmas.Bool.{cases_Bool, ltb-true}
use Rattle.std.proofs.lemmas.Option.{same_Some}
use Rattle.txn_store.specs.Paths.{Segments}
use Rattle.txn_store.specs.Store.{State as StoreState, Lists}
use Rattle.txn_store.specs.Requests.{Serves}
use Rattle.txn_store.specs.declared.page.Page.{Page}
use Rattle.txn_store.specs.declared.store.Got.{Got}
use Rattle.txn_store.specs.declared.store.StoreError.{StoreError}
use Rattle.txn_store.specs.declared.store.StoreError.TheVariants as errors
use Rattle.txn_store.specs.declared.request.Request.{Request}
use Rattle.txn_store.specs.declared.request.Reply.{Reply}
use Rattle.txn_store.specs.declared.request.Reply.TheVariants as replies
use Rattle.txn_steps.specs.declared.boundary.boundary_read.BoundaryRead.{BoundaryRead}
use Rattle.txn_steps.specs.declared.boundary.caches.Cached.{Cached}
use Rattle.txn_steps.specs.declared.boundary.caches.Caches.{Caches}
use Rattle.txn_steps.specs.declared.boundary.check.BoundaryCheck.{BoundaryCheck}
use Rattle.txn_steps.specs.declared.boundary.check.CheckOp.TheVariants as checks
use Rattle.txn_steps.specs.declared.boundary.turned.Turned.{Turned}
use Rattle.txn_steps.specs.declared.boundary.turned.Turned.TheVariants.{Goes, Done}
use Rattle.txn_steps.specs.boundary.Windows.{AscendsFrom, Ascends, held, greatest_held, placed, replaced, kept_beside, kept, above}
use Rattle.txn_steps.specs.boundary.BoundaryChecks.{boundary_check_turned}
use Rattle.txn_steps.specs.boundary.Checks.{check_turned, checks_turned as check_told}
use Rattle.txn_steps.specs.declared.latest.LatestOp.{LatestOp}
use Rattle.txn_steps.specs.declared.latest.LatestOp.TheVariants as latest
use Rattle.txn_steps.specs.declared.read.ReadOp.{ReadOp}
use Rattle.txn_steps.specs.declared.read.ReadOp.TheVariants as reads
use Rattle.txn_steps.specs.Requests.{next_after}
use Rattle.txn_steps.specs.Latest.{ReadAnswer, greatest_from, latest_turned, latest_window_after, paged_turned, unlisted, read_in_hand, probed, keeping, in_hand, held_or_got, chosen, begins_with, found_turned, latest_got, latest_replied}
use Rattle.txn_steps.specs.Reads.{read_asked, read_turned, read_caches_after, reads_turned, checks_turned}
use Rattle.txn_history.specs.Trace.{PlainRow}
use Rattle.txn_history.specs.Names.{world_names, world_boundary}
use Rattle.txn_history.specs.History.{newest, boundary}
use Rattle.txn_machine.specs.declared.plain.doing.PlainDoing.TheVariants.{Read}
use Rattle.txn_machine.specs.plain.Alone.{IsWindow, begins_pass}
use Rattle.txn_machine.proofs.plain.Stands.{list_versions, WindowFits, CachesStand, ListingStands, LatestStands, ReadStands, KnowStands}
use Rattle.txn_machine.proofs.plain.Pages.{NewestLeaves, newest_leaves}
use Rattle.txn_machine.proofs.plain.Windows.{held_fits}

-- every held id is at most this

abbrev pub AllUpTo : ℕ → List Cached → Type 0
AllUpTo id [] = Unit {0}
AllUpTo id (version ∷ versions) = (version.id ≤ id) × AllUpTo id versions

up_more : (id more : ℕ) (versions : List Cached) → id ≤ more → AllUpTo id versions → AllUpTo more versions
up_more id more [] le h = tt
up_more id more (version ∷ versions) le h = (let up = h.0 in omega (arith, up, le), up_more id more versions le h.1)

up_placed : (version : Cached) (versions : List Cached) → AllUpTo version.id versions → AllUpTo version.id (placed version versions)
up_placed version [] h = (omega arith, tt)
up_placed version (first ∷ versions) h = elim (cases_Bool (nat_lt first.id version.id)) [ inl lt ↦ rw lt (h.0, up_placed version versions h.1) | inr ge ↦ rw ge (omega arith, h) ]

up_replaced : (version : Cached) (versions : List Cached) → AllUpTo version.id versions → AllUpTo version.id (replaced version versions)
up_replaced version [] h = tt
up_replaced version (first ∷ versions) h = elim (cases_Bool (nat_lt first.id version.id)) [ inl lt ↦ rw lt (up_placed version versions h.1) | inr ge ↦ rw ge h ]

up_beside : (same : Option Cached) (version : Cached) (versions : List Cached) → AllUpTo version.id versions → AllUpTo version.id (kept_beside same version versions)
up_beside (Some same) version versions h = h
up_beside None version versions h = elim (cases_Bool (nat_lt (length versions) 8)) [ inl lt ↦ rw lt (up_placed version versions h) | inr ge ↦ rw ge (up_replaced version versions h) ]

up_kept : (version : Cached) (versions : List Cached) → AllUpTo version.id versions → AllUpTo version.id (kept version versions)
up_kept version versions h = up_beside (held version.id versions) version versions h

-- where what is at or below it is dropped, nothing is left
up_above : (id : ℕ) (versions : List Cached) → AllUpTo id versions → above id versions ≡ []
up_above id [] h = refl
up_above id (version ∷ versions) h =
    elim (cases_Bool (nat_lt id version.id)) [
      | inl lt ↦ absurd (let more = ltb-true id version.id lt in let up = h.0 in omega (arith, more, up))
      | inr ge ↦ rw ge (up_above id versions h.1)
    ]

-- the greatest held id is the last
last_up : (first : Cached) (versions : List Cached) (hand : Cached) → AscendsFrom first.id versions → slice_get (first ∷ versions) (length versions) ≡ Some hand → (first.id ≤ hand.id) × AllUpTo hand.id versions
last_up first [] hand h e = let same = ap (λ (c : Cached). c.id) (same_Some first hand e) in (omega (arith, same), tt)
last_up first (second ∷ versions) hand h e =
    let rest = last_up second versions hand h.1 e in
    let up = h.0 in
    (omega (arith, up, rest.0), (rest.0, rest.1))

up_greatest : (versions : List Cached) (hand : Cached) → Ascends versions → greatest_held versions ≡ Some hand → AllUpTo hand.id versions
up_greatest [] hand h e = tt
up_greatest (first ∷ versions) hand h e =
    let at : length (first ∷ versions) - 1 ≡ length versions = omega arith in
    last_up first versions hand h (subst (λ (k : ℕ). slice_get (first ∷ versions) k ≡ Some hand) at e)

module _ {T : Type 0} where
  -- what a listing found is the newest
  abbrev pub FoundNewest : List (PlainRow T) → Option ℕ → Type 0
  FoundNewest rows None = Unit {0}
  FoundNewest rows (Some id) = id ≡ newest rows

  -- it probes the successors of what it holds
  abbrev pub Probing : LatestOp T → List Cached → Type 0
  Probing latest.Looks versions = Unit {0}
  Probing (latest.Probes hand found next request) versions = AllUpTo hand.id versions
  Probing (latest.Finds successor found) versions = AllUpTo successor.id versions
  Probing _ versions = ⊥

  -- it lists, and has the newest version once the listing ends
  abbrev pub Seeking : List (PlainRow T) → LatestOp T → Type 0
  Seeking rows latest.Looks = ⊥
  Seeking rows (latest.Probes hand found next request) = ⊥
  Seeking rows (latest.Finds successor found) = ⊥
  Seeking rows (latest.Lists found request) = Unit {0}
  Seeking rows (latest.Chooses greatest) = FoundNewest rows greatest
  Seeking rows (latest.Gets id request) = id ≡ newest rows
  Seeking rows (latest.Keeps version value) = version.id ≡ newest rows
  Seeking rows (latest.Drops id) = Unit {0}
  Seeking rows latest.Ended = Unit {0}

  -- it looks, and nothing is cached
  abbrev pub Emptied : LatestOp T → List Cached → Type 0
  Emptied latest.Looks versions = versions ≡ []
  Emptied _ versions = ⊥

  -- the first pass, and the second
  abbrev pub First : List (PlainRow T) → ReadOp T → List Cached → Type 0
  First rows (reads.Reads latest ahead) versions = Probing latest versions ⊎ Seeking rows latest
  First rows (reads.Checks id value check) versions = AllUpTo id versions
  First rows reads.Ended versions = Unit {0}

  abbrev pub Second : List (PlainRow T) → ReadOp T → List Cached → Type 0
  Second rows (reads.Reads latest ahead) versions = Emptied latest versions ⊎ Seeking rows latest
  Second rows (reads.Checks id value check) versions = id ≡ newest rows
  Second rows reads.Ended versions = Unit {0}

  -- no pass begins
  abbrev pub GoesOn : ReadOp T → Type 0
  GoesOn read = begins_pass (Read read) ≡ false

  -- what a step of the first pass, and of the second, leads to where the read goes on
  abbrev pub FirstOn : List (PlainRow T) → ReadOp T × Turned (ReadAnswer T) → List Cached → Type 0
  FirstOn rows (read, Goes) versions = (First rows read versions × GoesOn read) ⊎ Second rows read versions
  FirstOn rows (read, Done answer) versions = Unit {0}

  abbrev pub SecondOn : List (PlainRow T) → ReadOp T × Turned (ReadAnswer T) → List Cached → Type 0
  SecondOn rows (read, Goes) versions = Second rows read versions × GoesOn read
  SecondOn rows (read, Done answer) versions = Unit {0}

  -- what a step of the unchecked read leads to
  abbrev ProbesOn : List (PlainRow T) → LatestOp T × Turned (ReadAnswer T) → List Cached → Type 0
  ProbesOn rows (latest, Goes) versions = (Probing latest versions ⊎ Seeking rows latest) × ((ahead : BoundaryRead) → GoesOn (reads.Reads latest ahead))
  ProbesOn rows (latest, Done (Ok None)) versions = Unit {0}
  ProbesOn rows (latest, Done (Ok (Some found))) versions = AllUpTo found.0 versions
  ProbesOn rows (latest, Done (Err number)) versions = Unit {0}

  abbrev SeeksOn : List (PlainRow T) → LatestOp T × Turned (ReadAnswer T) → Type 0
  SeeksOn rows (latest, Goes) = Seeking rows latest
  SeeksOn rows (latest, Done (Ok None)) = Unit {0}
  SeeksOn rows (latest, Done (Ok (Some found))) = found.0 ≡ newest rows
  SeeksOn rows (latest, Done (Err number)) = Unit {0}

  -- what lists begins no pass
  seeking_on : (rows : List (PlainRow T)) (op : LatestOp T) (ahead : BoundaryRead) → Seeking rows op → GoesOn (reads.Reads op ahead)
  seeking_on rows latest.Looks ahead h = absurd h
  seeking_on rows (latest.Probes hand found next request) ahead h = refl
  seeking_on rows (latest.Finds successor found) ahead h = refl
  seeking_on rows (latest.Lists found request) ahead h = refl
  seeking_on rows (latest.Chooses greatest) ahead h = refl
  seeking_on rows (latest.Gets id request) ahead h = refl
  seeking_on rows (latest.Keeps version value) ahead h = refl
  seeking_on rows (latest.Drops id) ahead h = refl
  seeking_on rows latest.Ended ahead h = refl

module _ {T : Type 0} (decode : List ℕ → Option T) (page : ℕ) (rows : List (PlainRow T)) (versions : List Cached) where
  -- probes

  hand_on : (op : LatestOp T) (id : ℕ) (value : Option T) → AllUpTo id versions → ProbesOn rows (read_in_hand decode op id value) versions
  hand_on op id (Some value) h = h
  hand_on op id None h = tt

  in_hand_on : (op : LatestOp T) (hand : Cached) (found : ℕ) → AllUpTo hand.id versions → ProbesOn rows (in_hand world_names decode op hand found) versions
  in_hand_on op hand found h = elim (cases_Bool (hand.id == 18446744073709551615)) [ inl last ↦ rw last (hand_on op hand.id (decode hand.bytes) h) | inr more ↦ rw more (inl h, λ ahead. refl) ]

  begins_on : (op : LatestOp T) (o : Option Cached) → greatest_held versions ≡ o → Ascends versions → ProbesOn rows (begins_with world_names page decode op o) versions
  begins_on op None e up = (inr tt, λ ahead. refl)
  begins_on op (Some hand) e up = in_hand_on op hand 0 (up_greatest versions hand up e)

  probed_on : (op : LatestOp T) (hand : Cached) (found next : ℕ) (answer : Result Got StoreError) → next ≡ hand.id + 1 → AllUpTo hand.id versions → ProbesOn rows (probed decode op hand found next answer) versions
  probed_on op hand found next (Ok got) is h = (inl (up_more hand.id next versions (omega (arith, is)) h), λ ahead. refl)
  probed_on op hand found next (Err errors.NotFound) is h = hand_on op hand.id (decode hand.bytes) h
  probed_on op hand found next (Err error) is h = tt

  probes_on : (hand : Cached) (found next : ℕ) (request : Request) (reply : Option Reply) → next ≡ hand.id + 1 → AllUpTo hand.id versions → ProbesOn rows (latest_replied world_names page decode (latest.Probes hand found next request) reply) versions
  probes_on hand found next request (Some (replies.Get answer)) is h = probed_on (latest.Probes hand found next request) hand found next answer is h
  probes_on hand found next request (Some (replies.Put answer)) is h = (inl h, λ ahead. refl)
  probes_on hand found next request (Some (replies.List answer)) is h = (inl h, λ ahead. refl)
  probes_on hand found next request (Some (replies.Delete answer)) is h = (inl h, λ ahead. refl)
  probes_on hand found next request None is h = (inl h, λ ahead. refl)

  found_on : (successor : Cached) (found : ℕ) → AllUpTo successor.id versions → ProbesOn rows (found_turned world_names page decode (latest.Finds successor found) successor found) versions
  found_on successor found h = elim (cases_Bool (found == 4)) [ inl last ↦ rw last (inr tt, λ ahead. refl) | inr more ↦ rw more (in_hand_on (latest.Finds successor found) successor found h) ]

  -- a listing, and what it found

  page_on : (next : Option Segments) (found : Option ℕ) → NewestLeaves rows next found → SeeksOn rows (paged_turned world_names page next found)
  page_on (Some after) found h = tt
  page_on None None h = tt
  page_on None (Some id) h = h.1

  unlisted_on : (op : LatestOp T) (o : Option Cached) → SeeksOn rows (unlisted op o)
  unlisted_on op None = tt
  unlisted_on op (Some version) = tt

  keeping_on : (op : LatestOp T) (version : Cached) (value : Option T) → version.id ≡ newest rows → SeeksOn rows (keeping decode op version value)
  keeping_on op version (Some value) e = e
  keeping_on op version None e = tt

  held_on : (op : LatestOp T) (id : ℕ) (o : Option Cached) → held id versions ≡ o → WindowFits decode rows versions → id ≡ newest rows → SeeksOn rows (held_or_got world_names decode op id o)
  held_on op id None e w is = is
  held_on op id (Some version) e w is = keeping_on op version (decode version.bytes) ((held_fits decode rows id versions version w e).1 ∙ is)

  chosen_on : (op : LatestOp T) (greatest : Option ℕ) → WindowFits decode rows versions → FoundNewest rows greatest → SeeksOn rows (chosen world_names decode op greatest versions)
  chosen_on op None w h = unlisted_on op (greatest_held versions)
  chosen_on op (Some id) w h = held_on op id (held id versions) refl w h

  got_on : (op : LatestOp T) (id : ℕ) (answer : Result Got StoreError) → id ≡ newest rows → SeeksOn rows (latest_got world_names page decode op id answer)
  got_on op id (Ok got) is = keeping_on op (record { id = id; bytes = got.bytes }) (decode got.bytes) is
  got_on op id (Err errors.NotFound) is = tt
  got_on op id (Err error) is = tt

  gets_on : (id : ℕ) (request : Request) (reply : Option Reply) → id ≡ newest rows → SeeksOn rows (latest_replied world_names page decode (latest.Gets id request) reply)
  gets_on id request (Some (replies.Get answer)) is = got_on (latest.Gets id request) id answer is
  gets_on id request (Some (replies.Put answer)) is = is
  gets_on id request (Some (replies.List answer)) is = is
  gets_on id request (Some (replies.Delete answer)) is = is
  gets_on id request None is = is

  -- what an unchecked read leads to is what the read leads to

  probes_first : (ahead : BoundaryRead) (told : LatestOp T × Turned (ReadAnswer T)) → ProbesOn rows told versions → FirstOn rows (reads_turned ahead told) versions
  probes_first ahead (op, Goes) h = inl (h.0, h.1 ahead)
  probes_first ahead (op, Done (Ok None)) h = tt
  probes_first ahead (op, Done (Ok (Some found))) h = inl (h, refl)
  probes_first ahead (op, Done (Err number)) h = tt

  up_known : (held : List Cached) → WindowFits decode rows held → AllUpTo (newest rows) held
  up_known [] w = tt
  up_known (version ∷ rest) w = (w.0.known.1, up_known rest w.1)

  seeks_first : (ahead : BoundaryRead) (told : LatestOp T × Turned (ReadAnswer T)) → WindowFits decode rows versions → SeeksOn rows told → FirstOn rows (reads_turned ahead told) versions
  seeks_first ahead (op, Goes) w h = inl (inr h, seeking_on rows op ahead h)
  seeks_first ahead (op, Done (Ok None)) w h = tt
  seeks_first ahead (op, Done (Ok (Some found))) w h = inl (up_more (newest rows) found.0 versions (omega (arith, h)) (up_known versions w), refl)
  seeks_first ahead (op, Done (Err number)) w h = tt

  seeks_second : (ahead : BoundaryRead) (told : LatestOp T × Turned (ReadAnswer T)) → SeeksOn rows told → SecondOn rows (reads_turned ahead told) versions
  seeks_second ahead (op, Goes) h = (inr h, seeking_on rows op ahead h)
  seeks_second ahead (op, Done (Ok None)) h = tt
  seeks_second ahead (op, Done (Ok (Some found))) h = (h, refl)
  seeks_second ahead (op, Done (Err number)) h = tt

-- a check that is not refused yet

module _ {T : Type 0} where
  -- it checks the same id, or has answered
  abbrev pub ChecksOn : ℕ → ReadOp T × Turned (ReadAnswer T) → Type 0
  ChecksOn id (reads.Checks i value check, Goes) = i ≡ id
  ChecksOn id (reads.Reads latest ahead, Goes) = ⊥
  ChecksOn id (reads.Ended, Goes) = ⊥
  ChecksOn id (read, Done answer) = Unit {0}

  pub checks_on : (id : ℕ) (value : T) (checked : ℕ) (told : BoundaryCheck × Turned (Result (Unit {0}) ℕ)) → ChecksOn id (checks_turned world_boundary id value (check_told checked told))
  checks_on id value checked (check, Goes) = refl
  checks_on id value checked (check, Done (Ok accepted)) = tt
  checks_on id value checked (check, Done (Err number)) = elim (cases_Bool (number == 5)) [ inl refused ↦ rw refused refl | inr other ↦ rw other (rw other tt) ]

  checks_first : (rows : List (PlainRow T)) (id : ℕ) (versions : List Cached) (told : ReadOp T × Turned (ReadAnswer T)) → ChecksOn id told → AllUpTo id versions → FirstOn rows told versions
  checks_first rows id versions (reads.Checks i value check, Goes) h up = inl (subst (λ (n : ℕ). AllUpTo n versions) (sym h) up, refl)
  checks_first rows id versions (reads.Reads latest ahead, Goes) h up = absurd h
  checks_first rows id versions (reads.Ended, Goes) h up = absurd h
  checks_first rows id versions (read, Done answer) h up = tt

  checks_second : (rows : List (PlainRow T)) (id : ℕ) (versions : List Cached) (told : ReadOp T × Turned (ReadAnswer T)) → ChecksOn id told → id ≡ newest rows → SecondOn rows told versions
  checks_second rows id versions (reads.Checks i value check, Goes) h is = (h ∙ is, refl)
  checks_second rows id versions (reads.Reads latest ahead, Goes) h is = absurd h
  checks_second rows id versions (reads.Ended, Goes) h is = absurd h
  checks_second rows id versions (read, Done answer) h is = tt

  -- A look's reply is none; else the store serves what the read asks for.
  abbrev pub Given : ReadOp T → StoreState → Option Reply → StoreState → Type 0
  Given read old None new = (read_asked read ≡ None) × (new ≡ old)
  Given read old (Some reply) new = (request : Request) × (read_asked read ≡ Some request) × Serves request old reply new × (new.failures ≡ 0)

module _ {T : Type 0} (decode : List ℕ → Option T) (get_epoch : T → ℕ) (failed : List ℕ) (rows : List (PlainRow T)) (store new : StoreState) (k : KnowStands decode get_epoch failed rows store) (op page : ℕ) where
  -- a page of the listing
  lists_on : (found : Option ℕ) (request : Request) (ahead : BoundaryRead) (reply : Option Reply) → ListingStands rows found request → Given {T = T} (reads.Reads (latest.Lists found request) ahead) store reply new → SeeksOn rows (latest_replied world_names page decode (latest.Lists found request) reply)
  lists_on found request ahead (Some (replies.List (Ok told))) l g =
      let is : g.0 ≡ list_versions l.after l.limit = sym (same_Some request g.0 g.1) ∙ l.asks in
      let s : Lists world_names.dir l.after l.limit store (Ok told) new = subst (λ (r : Request). Serves r store (replies.List (Ok told)) new) is g.2 in
      let leaves = newest_leaves decode get_epoch failed rows store k found request l in
      page_on decode page rows [] (next_after told) (greatest_from found world_names told.metas)
      (subst (λ (p : Page). NewestLeaves rows (next_after p) (greatest_from found world_names p.metas)) (sym s.listed) leaves)
  lists_on found request ahead (Some (replies.List (Err error))) l g = tt
  lists_on found request ahead (Some (replies.Get answer)) l g = tt
  lists_on found request ahead (Some (replies.Put answer)) l g = tt
  lists_on found request ahead (Some (replies.Delete answer)) l g = tt
  lists_on found request ahead None l g = tt

  seeking_step : (read : LatestOp T) (ahead : BoundaryRead) (versions : List Cached) (reply : Option Reply) → LatestStands decode rows op read → Given (reads.Reads read ahead) store reply new → WindowFits decode rows versions → Seeking rows read → SeeksOn rows (latest_turned world_names page decode read versions reply)
  seeking_step latest.Looks ahead versions reply h g w s = absurd s
  seeking_step (latest.Probes hand found next request) ahead versions reply h g w s = absurd s
  seeking_step (latest.Finds successor found) ahead versions reply h g w s = absurd s
  seeking_step (latest.Lists found request) ahead versions reply h g w s = lists_on found request ahead reply h g
  seeking_step (latest.Chooses greatest) ahead versions reply h g w s = chosen_on decode page rows versions (latest.Chooses greatest) greatest w s
  seeking_step (latest.Gets id request) ahead versions reply h g w s = gets_on decode page rows versions id request reply s
  seeking_step (latest.Keeps version value) ahead versions reply h g w s = s
  seeking_step (latest.Drops id) ahead versions reply h g w s = tt
  seeking_step latest.Ended ahead versions reply h g w s = tt

  probing_step : (read : LatestOp T) (versions : List Cached) (reply : Option Reply) → LatestStands decode rows op read → Ascends versions → Probing read versions → ProbesOn rows (latest_turned world_names page decode read versions reply) (latest_window_after read versions Goes)
  probing_step latest.Looks versions reply h up p = begins_on decode page rows versions latest.Looks (greatest_held versions) refl up
  probing_step (latest.Probes hand found next request) versions reply h up p = probes_on decode page rows versions hand found next request reply h.1 p
  probing_step (latest.Finds successor found) versions reply h up p = found_on decode page rows (kept successor versions) successor found (up_kept successor versions p)
  probing_step (latest.Lists found request) versions reply h up p = absurd p
  probing_step (latest.Chooses greatest) versions reply h up p = absurd p
  probing_step (latest.Gets id request) versions reply h up p = absurd p
  probing_step (latest.Keeps version value) versions reply h up p = absurd p
  probing_step (latest.Drops id) versions reply h up p = absurd p
  probing_step latest.Ended versions reply h up p = absurd p

  -- a step of the first pass: it goes on, or a second begins with nothing cached
  pub first_step : (read : ReadOp T) (caches : Caches) (reply : Option Reply) → ReadStands decode rows store caches.boundary op read → Given read store reply new → IsWindow caches.latest → CachesStand decode rows store caches → WindowFits decode rows (read_caches_after read caches Goes).latest → First rows read caches.latest →
      FirstOn rows (read_turned world_names world_boundary page decode read caches reply) (read_caches_after read caches Goes).latest
  first_step (reads.Reads read ahead) caches reply h g w c after f =
      elim f [
        | inl p ↦ probes_first decode page rows (latest_window_after read caches.latest Goes) ahead (latest_turned world_names page decode read caches.latest reply) (probing_step read caches.latest reply h.0 w.ascending p)
        | inr s ↦ seeks_first decode page rows (latest_window_after read caches.latest Goes) ahead (latest_turned world_names page decode read caches.latest reply) after (seeking_step read ahead caches.latest reply h.0 g c.latest s)
      ]
  first_step (reads.Checks id value (checks.Checks check)) caches reply h g w c after f =
      checks_first rows id caches.latest (checks_turned world_boundary id value (check_turned (checks.Checks check) caches reply)) (checks_on id value check.id (boundary_check_turned check caches.boundary reply)) f
  first_step (reads.Checks id value (checks.Drops i)) caches reply h g w c after f = inr (inl (up_above i caches.latest (subst (λ (n : ℕ). AllUpTo n caches.latest) (sym h.1.0) f)))
  first_step reads.Ended caches reply h g w c after f = absurd h

  -- what is newest is above the boundary
  pub above_boundary : (id : ℕ) → 0 < id → id ≡ newest rows → id ≤ boundary rows → ⊥
  above_boundary id some is below = elim k.history.gap [ inl lt ↦ omega (arith, lt, is, below) | inr none ↦ (let zero = none.0 in omega (arith, zero, is, some)) ]

  emptied_step : (read : LatestOp T) (versions : List Cached) (reply : Option Reply) → Emptied read versions → SeeksOn rows (latest_turned world_names page decode read versions reply)
  emptied_step latest.Looks versions reply none = subst (λ (vs : List Cached). SeeksOn rows (latest_turned world_names page decode latest.Looks vs reply)) (sym none) tt
  emptied_step _ versions reply none = absurd none

  -- a step of the second pass: it is never refused
  pub second_step : (read : ReadOp T) (caches : Caches) (reply : Option Reply) → ReadStands decode rows store caches.boundary op read → Given read store reply new → CachesStand decode rows store caches → Second rows read caches.latest →
      SecondOn rows (read_turned world_names world_boundary page decode read caches reply) (read_caches_after read caches Goes).latest
  second_step (reads.Reads read ahead) caches reply h g c s =
      seeks_second decode page rows (latest_window_after read caches.latest Goes) ahead (latest_turned world_names page decode read caches.latest reply)
      (elim s [ inl none ↦ emptied_step read caches.latest reply none | inr seeks ↦ seeking_step read ahead caches.latest reply h.0 g c.latest seeks ])
  second_step (reads.Checks id value (checks.Checks check)) caches reply h g c s =
      checks_second rows id caches.latest (checks_turned world_boundary id value (check_turned (checks.Checks check) caches reply)) (checks_on id value check.id (boundary_check_turned check caches.boundary reply)) s
  second_step (reads.Checks id value (checks.Drops i)) caches reply h g c s = absurd (above_boundary id h.0.0 s h.1.1)
  second_step reads.Ended caches reply h g c s = absurd h
