-- Requests that change nothing, and what the files say of the newest version and of the boundary.
use Rattle.std.proofs.Common.{◌≡◌, ℕ, ◌≤◌, List, true, Option, inl, inr, sym, ◌∙◌, ap, subst, arith}
use Rattle.std.specs.FinMap.{get}
use Rattle.std.specs.Option.{option_map}
use Rattle.txn_store.specs.Store.{Files, State as StoreState}
use Rattle.txn_store.specs.Requests.{Serves}
use Rattle.txn_store.specs.declared.request.Request.{Request}
use Rattle.txn_store.specs.declared.request.Request.TheVariants as requests
use Rattle.txn_store.specs.declared.request.Reply.{Reply}
use Rattle.txn_store.specs.declared.request.Reply.TheVariants as replies
use Rattle.txn_store.specs.declared.store.Got.{Got}
use Rattle.txn_history.specs.Names.{world_boundary}
use Rattle.txn_history.specs.History.{newest, boundary, boundary_said}
use Rattle.txn_history.specs.Trace.{PlainRow}
use Rattle.txn_machine.proofs.plain.Stands.{is_there, IsQuiet, KnowStands}
use Rattle.txn_machine.proofs.plain.Stored.{there_above}
use Rattle.txn_machine.proofs.plain.Faults.{get_kept, listed_kept}

-- requests that change nothing

pub quiet_files : (request : Request) (reply : Reply) (old new : StoreState) → IsQuiet request → Serves request old reply new → new.failures ≡ 0 → new.files ≡ old.files
quiet_files (requests.Get path known) (replies.Get answer) old new q s honest = (get_kept path known old new answer s honest).files
quiet_files (requests.List prefix after limit) (replies.List answer) old new q s honest = (listed_kept prefix after limit old new answer s honest).files
quiet_files (requests.Put path bytes mode) reply old new q s honest = absurd q
quiet_files (requests.Delete path) reply old new q s honest = absurd q
quiet_files _ _ old new q s honest = absurd s

-- the newest version is that of the files
module _ {T : Type 0} (decode : List ℕ → Option T) (get_epoch : T → ℕ) where
  newest_at_most : (failed others : List ℕ) (rows after : List (PlainRow T)) (old new : StoreState) → KnowStands decode get_epoch failed rows old → KnowStands decode get_epoch others after new → new.files ≡ old.files → newest rows ≤ newest after
  newest_at_most failed others rows after old new k k' same =
      elim k.history.gap [
        | inl lt ↦
            let there = there_above decode get_epoch failed rows old k (newest rows) lt (omega arith) in
            (k'.files.within (newest rows) k.history.small (subst (λ (files : Files). is_there files (newest rows) ≡ true) (sym same) there)).1
        | inr none ↦ (let zero = none.0 in omega (arith, zero))
      ]

  pub newest_same : (failed others : List ℕ) (rows after : List (PlainRow T)) (old new : StoreState) → KnowStands decode get_epoch failed rows old → KnowStands decode get_epoch others after new → new.files ≡ old.files → newest rows ≡ newest after
  newest_same failed others rows after old new k k' same =
      let up = newest_at_most failed others rows after old new k k' same in
      let down = newest_at_most others failed after rows new old k' k (sym same) in
      omega (arith, up, down)

  -- and so is the boundary
  pub boundary_same : (failed others : List ℕ) (rows after : List (PlainRow T)) (old new : StoreState) → KnowStands decode get_epoch failed rows old → KnowStands decode get_epoch others after new → new.files ≡ old.files → boundary rows ≡ boundary after
  boundary_same failed others rows after old new k k' same =
      let bytes : Files → Option (List ℕ) = λ files. option_map (λ (g : Got). g.bytes) (get files world_boundary) in
      ap boundary_said (sym (k.files.kept world_boundary) ∙ (ap bytes (sym same) ∙ k'.files.kept world_boundary))
