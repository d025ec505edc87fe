-- The probes of an unchecked read of the newest version: the gets of a successor of the version in hand.
use Rattle.std.specs.Prelude.{◌≡◌, ℕ, ◌+◌, ◌-◌, if◌then◌else◌, Bool, true, false, List, [], ◌∷◌, Option}
use Rattle.txn_store.specs.VersionName.{Names}
use Rattle.txn_store.specs.declared.request.Reply.{Reply}
use Rattle.txn_steps.specs.declared.boundary.caches.Cached.{Cached}
use Rattle.txn_steps.specs.declared.boundary.turned.Turned.TheVariants.{Goes}
use Rattle.txn_steps.specs.declared.latest.LatestOp.{LatestOp}
use Rattle.txn_steps.specs.declared.latest.LatestOp.TheVariants.{Looks, Probes, Finds, Lists, Chooses, Gets, Keeps, Drops, Ended}
use Rattle.txn_steps.specs.Latest.{IsLatestReply, latest_turned}

module _ {T : Type 0} where
  -- it asks for the successor of the version in hand
  abbrev pub is_probe : LatestOp T → Bool
  is_probe (Probes hand found next request) = true
  is_probe Looks = false
  is_probe (Finds successor found) = false
  is_probe (Lists found request) = false
  is_probe (Chooses greatest) = false
  is_probe (Gets id request) = false
  is_probe (Keeps version value) = false
  is_probe (Drops id) = false
  is_probe Ended = false

  -- one or none
  abbrev pub probe_count : LatestOp T → ℕ
  probe_count op = if is_probe op then 1 else 0

  -- how many probes it makes through these states
  abbrev pub probes : List (LatestOp T) → ℕ
  probes [] = 0
  probes (op ∷ states) = probe_count op + probes states

  -- how many it may still make, the one that it asks for among them: none once it lists
  abbrev pub probes_left : LatestOp T → ℕ
  probes_left Looks = 4
  probes_left (Probes hand found next request) = 4 - found
  probes_left (Finds successor found) = 4 - found
  probes_left (Lists found request) = 0
  probes_left (Chooses greatest) = 0
  probes_left (Gets id request) = 0
  probes_left (Keeps version value) = 0
  probes_left (Drops id) = 0
  probes_left Ended = 0

module _ {T : Type 0} (names : Names) (page : ℕ) (decode : List ℕ → Option T) where
  -- it goes on from one state to the next, by a look or by a reply of the kind that it asks for, whatever its client keeps then
  pub record GoesTo (op next : LatestOp T) : Type 0 where
    pub latest : List Cached
    pub reply : Option Reply
    pub given : IsLatestReply op reply
    pub turns : latest_turned names page decode op latest reply ≡ (next, Goes)

  -- the states that it goes through from this one on
  abbrev pub GoesThrough : LatestOp T → List (LatestOp T) → Type 0
  GoesThrough op [] = Unit {0}
  GoesThrough op (next ∷ states) = GoesTo op next × GoesThrough next states
