-- An unchecked read of the newest version makes at most four probes.
use Rattle.std.proofs.Common.{◌≡◌, ℕ, ◌+◌, ◌-◌, ◌<◌, ◌≤◌, ◌==◌, Bool, true, false, List, [], ◌∷◌, if◌then◌else◌, Option, Some, None, Result, Ok, Err, subst, arith}
use Rattle.txn_store.specs.Paths.{Segments}
use Rattle.txn_store.specs.VersionName.{Names}
use Rattle.txn_store.specs.declared.page.Page.{Page}
use Rattle.txn_store.specs.declared.store.Got.{Got}
use Rattle.txn_store.specs.declared.store.StoreError.{StoreError}
use Rattle.txn_store.specs.declared.store.StoreError.TheVariants as errors
use Rattle.txn_store.specs.declared.request.Reply.{Reply}
use Rattle.txn_store.specs.declared.request.Reply.TheVariants as replies
use Rattle.txn_steps.specs.declared.boundary.caches.Cached.{Cached}
use Rattle.txn_steps.specs.declared.boundary.turned.Turned.{Turned}
use Rattle.txn_steps.specs.declared.boundary.turned.Turned.TheVariants.{Goes, Done}
use Rattle.txn_steps.specs.boundary.Windows.{held, greatest_held}
use Rattle.txn_steps.specs.declared.latest.LatestOp.{LatestOp}
use Rattle.txn_steps.specs.declared.latest.LatestOp.TheVariants.{Looks, Probes, Finds, Lists, Chooses, Gets, Keeps, Drops, Ended}
use Rattle.txn_steps.specs.Requests.{version_got, next_after}
use Rattle.txn_steps.specs.Latest.{ReadAnswer, InRange, IsLatestReply, greatest_from, latest_listing, paged_turned, listed, unlisted, read_in_hand, answered, probed, keeping, in_hand, held_or_got, chosen, begins_with, latest_got, latest_turned}
use Rattle.txn_steps.proofs.RangeLemmas.{latest_stays}
use Rattle.txn_machine.specs.plain.Probing.{probe_count, probes, probes_left, GoesTo, GoesThrough}

module _ {T : Type 0} where
  -- where it goes on, so many are left at most
  abbrev Leaves : ℕ → LatestOp T × Turned (ReadAnswer T) → Type 0
  Leaves most (op, Goes) = probes_left op ≤ most
  Leaves most (op, Done answer) = Unit {0}

  fewer_leaves : (least most : ℕ) (told : LatestOp T × Turned (ReadAnswer T)) → least ≤ most → Leaves least told → Leaves most told
  fewer_leaves least most (op, Goes) le h = omega (arith, le, h)
  fewer_leaves least most (op, Done answer) le h = tt

  left_where : (most : ℕ) (told : LatestOp T × Turned (ReadAnswer T)) (next : LatestOp T) → Leaves most told → told ≡ (next, Goes) → probes_left next ≤ most
  left_where most told next h e = subst (λ (t : LatestOp T × Turned (ReadAnswer T)). Leaves most t) e h

module _ {T : Type 0} (names : Names) (page : ℕ) (decode : List ℕ → Option T) where
  hand_leaves : (most : ℕ) (op : LatestOp T) (id : ℕ) (value : Option T) → Leaves most (read_in_hand decode op id value)
  hand_leaves most op id (Some value) = tt
  hand_leaves most op id None = tt

  either_leaves : (b : Bool) (most : ℕ) (op : LatestOp T) (hand : Cached) (probe : LatestOp T) → probes_left probe ≤ most → Leaves most (if b then answered decode op hand else (probe, Goes))
  either_leaves true most op hand probe h = hand_leaves most op hand.id (decode hand.bytes)
  either_leaves false most op hand probe h = h

  in_hand_leaves : (most : ℕ) (op : LatestOp T) (hand : Cached) (found : ℕ) → 4 - found ≤ most → Leaves most (in_hand names decode op hand found)
  in_hand_leaves most op hand found h = either_leaves (hand.id == 18446744073709551615) most op hand (Probes hand found (hand.id + 1) (version_got names (hand.id + 1))) h

  begins_leaves : (latest : Option Cached) → Leaves 4 (begins_with names page decode Looks latest)
  begins_leaves None = omega arith
  begins_leaves (Some hand) = in_hand_leaves 4 Looks hand 0 (omega arith)

  found_leaves : (b : Bool) (successor : Cached) (found : ℕ) → Leaves (4 - found) (if b then (latest_listing names page, Goes) else in_hand names decode (Finds successor found) successor found)
  found_leaves true successor found = omega arith
  found_leaves false successor found = in_hand_leaves (4 - found) (Finds successor found) successor found (omega arith)

  probed_leaves : (hand : Cached) (found next : ℕ) (request : _) (answer : Result Got StoreError) → found < 4 → Leaves (4 - found - 1) (probed decode (Probes hand found next request) hand found next answer)
  probed_leaves hand found next request (Ok got) few = omega (arith, few)
  probed_leaves hand found next request (Err errors.NotFound) few = hand_leaves (4 - found - 1) (Probes hand found next request) hand.id (decode hand.bytes)
  probed_leaves hand found next request (Err errors.AlreadyExists) few = tt
  probed_leaves hand found next request (Err errors.NotModified) few = tt
  probed_leaves hand found next request (Err errors.Precondition) few = tt
  probed_leaves hand found next request (Err errors.Failed) few = tt
  probed_leaves hand found next request (Err errors.NoMemory) few = tt
  probed_leaves hand found next request (Err errors.TokensExhausted) few = tt

  -- once it lists

  keeping_leaves : (op : LatestOp T) (version : Cached) (value : Option T) → Leaves 0 (keeping decode op version value)
  keeping_leaves op version (Some value) = omega arith
  keeping_leaves op version None = tt

  paged_leaves : (after : Option Segments) (found : Option ℕ) → Leaves {T = T} 0 (paged_turned names page after found)
  paged_leaves None found = omega arith
  paged_leaves (Some after) found = omega arith

  listed_leaves : (op : LatestOp T) (found : Option ℕ) (answer : Result Page StoreError) → Leaves 0 (listed names page op found answer)
  listed_leaves op found (Ok told) = paged_leaves (next_after told) (greatest_from found names told.metas)
  listed_leaves op found (Err error) = tt

  got_leaves : (op : LatestOp T) (id : ℕ) (answer : Result Got StoreError) → Leaves 0 (latest_got names page decode op id answer)
  got_leaves op id (Ok got) = keeping_leaves op (record { id = id; bytes = got.bytes }) (decode got.bytes)
  got_leaves op id (Err errors.NotFound) = omega arith
  got_leaves op id (Err errors.AlreadyExists) = tt
  got_leaves op id (Err errors.NotModified) = tt
  got_leaves op id (Err errors.Precondition) = tt
  got_leaves op id (Err errors.Failed) = tt
  got_leaves op id (Err errors.NoMemory) = tt
  got_leaves op id (Err errors.TokensExhausted) = tt

  unlisted_leaves : (op : LatestOp T) (latest : Option Cached) → Leaves 0 (unlisted op latest)
  unlisted_leaves op None = tt
  unlisted_leaves op (Some cached) = omega arith

  held_leaves : (op : LatestOp T) (id : ℕ) (version : Option Cached) → Leaves 0 (held_or_got names decode op id version)
  held_leaves op id None = omega arith
  held_leaves op id (Some cached) = keeping_leaves op cached (decode cached.bytes)

  chosen_leaves : (op : LatestOp T) (greatest : Option ℕ) (latest : List Cached) → Leaves 0 (chosen names decode op greatest latest)
  chosen_leaves op None latest = unlisted_leaves op (greatest_held latest)
  chosen_leaves op (Some id) latest = held_leaves op id (held id latest)

  -- each step takes its probe from those that are left
  turn_leaves : (op : LatestOp T) (latest : List Cached) (reply : Option Reply) → InRange op → IsLatestReply op reply → Leaves (probes_left op - probe_count op) (latest_turned names page decode op latest reply)
  turn_leaves Looks latest reply h given = fewer_leaves 4 _ _ (omega arith) (begins_leaves (greatest_held latest))
  turn_leaves (Finds successor found) latest reply h given = fewer_leaves (4 - found) _ _ (omega arith) (found_leaves (found == 4) successor found)
  turn_leaves (Chooses greatest) latest reply h given = fewer_leaves 0 _ _ (omega arith) (chosen_leaves (Chooses greatest) greatest latest)
  turn_leaves (Keeps version value) latest reply h given = tt
  turn_leaves (Drops id) latest reply h given = tt
  turn_leaves Ended latest reply h given = absurd given
  turn_leaves (Probes hand found next request) latest (Some (replies.Get answer)) h given = fewer_leaves (4 - found - 1) _ _ (omega arith) (probed_leaves hand found next request answer h)
  turn_leaves (Probes hand found next request) latest (Some (replies.Put answer)) h given = absurd given
  turn_leaves (Probes hand found next request) latest (Some (replies.List answer)) h given = absurd given
  turn_leaves (Probes hand found next request) latest (Some (replies.Delete answer)) h given = absurd given
  turn_leaves (Probes hand found next request) latest None h given = absurd given
  turn_leaves (Lists found request) latest (Some (replies.List answer)) h given = fewer_leaves 0 _ _ (omega arith) (listed_leaves (Lists found request) found answer)
  turn_leaves (Lists found request) latest (Some (replies.Put answer)) h given = absurd given
  turn_leaves (Lists found request) latest (Some (replies.Get answer)) h given = absurd given
  turn_leaves (Lists found request) latest (Some (replies.Delete answer)) h given = absurd given
  turn_leaves (Lists found request) latest None h given = absurd given
  turn_leaves (Gets id request) latest (Some (replies.Get answer)) h given = fewer_leaves 0 _ _ (omega arith) (got_leaves (Gets id request) id answer)
  turn_leaves (Gets id request) latest (Some (replies.Put answer)) h given = absurd given
  turn_leaves (Gets id request) latest (Some (replies.List answer)) h given = absurd given
  turn_leaves (Gets id request) latest (Some (replies.Delete answer)) h given = absurd given
  turn_leaves (Gets id request) latest None h given = absurd given

  -- what it asks for is one of those that are left
  asks_one : (op : LatestOp T) → InRange op → probe_count op ≤ probes_left op
  asks_one Looks h = omega arith
  asks_one (Probes hand found next request) h = omega (arith, h)
  asks_one (Finds successor found) h = omega arith
  asks_one (Lists found request) h = omega arith
  asks_one (Chooses greatest) h = omega arith
  asks_one (Gets id request) h = omega arith
  asks_one (Keeps version value) h = omega arith
  asks_one (Drops id) h = omega arith
  asks_one Ended h = omega arith

  pub step_takes : (op next : LatestOp T) → InRange op → GoesTo names page decode op next → probe_count op + probes_left next ≤ probes_left op
  step_takes op next h g =
      let left = left_where (probes_left op - probe_count op) (latest_turned names page decode op g.latest g.reply) next (turn_leaves op g.latest g.reply h g.given) g.turns in
      let one = asks_one op h in
      omega (arith, left, one)

  in_range : (op next : LatestOp T) → InRange op → GoesTo names page decode op next → InRange next
  in_range op next h g = subst (λ (told : LatestOp T × Turned (ReadAnswer T)). InRange told.0) g.turns (latest_stays names page decode op g.latest g.reply h)

  from_here : (states : List (LatestOp T)) (op : LatestOp T) → InRange op → GoesThrough names page decode op states → probe_count op + probes states ≤ probes_left op
  from_here [] op h g = (let one = asks_one op h in omega (arith, one))
  from_here (next ∷ states) op h g =
      let step = step_takes op next h g.0 in
      let rest = from_here states next (in_range op next h g.0) g.1 in
      omega (arith, step, rest)

  pub four_probes : (states : List (LatestOp T)) → GoesThrough names page decode Looks states → probes states ≤ 4
  four_probes states g = (let all = from_here states Looks tt g in omega (arith, all))
