-- What a look or a reply makes of a read of the newest version.
use Rattle.std.proofs.Common.{◌≡◌, ℕ, ◌+◌, ◌-◌, ◌*◌, ◌<◌, ◌≤◌, ◌^◌, ◌&&◌, ◌||◌, not, Bool, true, false, List, Option, Some, None, IfSome, Ok, refl, sym, ap, ◌∙◌, arith}
use Rattle.txn_store.specs.VersionName.{Names, version_path}
use Rattle.txn_store.specs.Store.{State, Files}
use Rattle.txn_store.specs.declared.request.Reply.{Reply}
use Rattle.txn_steps.specs.declared.boundary.caches.Cached.{Cached}
use Rattle.txn_steps.specs.declared.boundary.turned.Turned.{Turned}
use Rattle.txn_steps.specs.declared.boundary.turned.Turned.TheVariants.{Done}
use Rattle.txn_steps.specs.boundary.Asking.{reply_told}
use Rattle.txn_steps.specs.boundary.Windows.{Ascends, greatest_held}
use Rattle.txn_steps.specs.declared.latest.LatestOp.{LatestOp}
use Rattle.txn_steps.specs.declared.latest.LatestOp.TheVariants.{Looks, Probes, Finds, Lists, Chooses, Gets, Keeps, Drops, Ended}
use Rattle.txn_steps.specs.Latest.{ReadAnswer, latest_asked, latest_turned, latest_window_after}
use Rattle.txn_steps_driven.specs.Asked.{Replies}
use Rattle.txn_steps_driven.specs.Calls.{one_if}
use Rattle.txn_steps_driven.specs.LatestReads.{HasGrown}
use Rattle.txn_steps_driven.specs.LatestRuns.{is_listing, steps_left, calls_left, Holds}
use Rattle.txn_steps_driven.proofs.LatestSteps.{Leaves, looks, finds, probes, lists, chooses, gets, keeps}
use Rattle.txn_steps_driven.proofs.LatestTurns.{Reads, look_reads, get_reads, list_reads, found_in, gone_in, listed_in, asked_get, asked_list, asked_look, calls_of, LatestFails, begins_fails, found_fails, chosen_fails, probe_fails, got_fails, list_fails}

pub not_due : (b : Bool) → one_if (false && b) ≡ 0
not_due true = refl
not_due false = refl

pub not_asked : (b : Bool) → (false || b) ≡ b
not_asked true = refl
not_asked false = refl

pub due_as : (b : Bool) → one_if (true && b) ≡ one_if b
due_as true = refl
due_as false = refl

asked_now : (b : Bool) → (true || b) ≡ true
asked_now true = refl
asked_now false = refl

module _ {T : Type 0} (names : Names) (page : ℕ) (room : 1 ≤ page) (decode : List ℕ → Option T) (files : Files) (first : List Cached) (ascending : Ascends first) (small_first : IfSome (greatest_held first) (λ version. version.id < 2 ^ 64)) where
  -- the same, where no turn is due
  as_is : (left : Turned (ReadAnswer T) → List Cached) (spent spent' calls calls' : ℕ) (paged paged' : Bool) (steps steps' : ℕ) (x : LatestOp T × Turned (ReadAnswer T)) → spent' ≡ spent → calls' ≡ calls → paged' ≡ paged → steps' ≡ steps
      → Leaves names page room decode files first ascending small_first left spent calls paged steps (6 + spent) x → Leaves names page room decode files first ascending small_first left spent' calls' paged' steps' (6 + spent') x
  as_is left spent spent' calls calls' paged paged' steps steps' x s c p t h = rw (s, c, p, t) h

  module _ (old new : State) (same : old.files ≡ files) where
    -- what a move leaves, why it fails, and what it makes of the store
    abbrev pub Moved : LatestOp T → List Cached → ℕ → ℕ → Bool → Bool → Option Reply → Type 0
    Moved op latest spent' calls' paged paged' reply =
        Leaves names page room decode files first ascending small_first (latest_window_after op latest) spent' calls' paged' (steps_left paged op + 16 * one_if (is_listing op && paged)) (6 + spent') (latest_turned names page decode op latest reply)
        × LatestFails old new (reply_told reply) (latest_turned names page decode op latest reply)
        × Reads (calls_of op) old new

    steps_as : (paged : Bool) (steps : ℕ) → steps + 16 * one_if (false && paged) ≡ steps
    steps_as paged steps = let none = not_due paged in omega (arith, none)

    steps_more : (paged : Bool) (steps : ℕ) → steps + 16 * one_if (true && paged) ≡ steps + 16 * one_if paged
    steps_more paged steps = let due = due_as paged in omega (arith, due)

    pub moved : (op : LatestOp T) (latest : List Cached) (reply : Option Reply) (spent spent' calls calls' : ℕ) (paged paged' : Bool) → Holds names page decode files first spent calls paged latest op → HasGrown names files first latest → Replies (latest_asked op) old reply new
        → spent' ≡ spent + one_if (is_listing op && paged) → paged' ≡ (is_listing op || paged) → calls' ≡ calls + calls_of op → calls + calls_left paged op ≤ 6 + spent → Moved op latest spent' calls' paged paged' reply
    moved Looks latest reply spent spent' calls calls' paged paged' at every told due asks made within =
        let look = asked_look old new reply told in
        let none = not_due paged in
        rw look.0 (
          as_is (λ t. latest) spent spent' calls calls' paged paged' 16 (16 + 16 * one_if (false && paged)) _ (omega (arith, due, none)) (omega (arith, made)) (asks ∙ not_asked paged) (steps_as paged 16)
              (looks names page room decode files first ascending small_first latest spent calls paged (6 + spent) (greatest_held latest) (ap greatest_held (sym at.0)) at.0 every at.1 at.2 at.3 within),
          begins_fails names page decode old new None Looks (greatest_held latest),
          look_reads old new look.1,
        )
    moved (Probes hand found next request) latest reply spent spent' calls calls' paged paged' at every told due asks made within =
        let got = asked_get (version_path names next) request old new reply at.5 told in
        let none = not_due paged in
        rw got.1 (
          as_is (λ t. latest) spent spent' (calls + 1) calls' paged paged' (15 - 2 * found) (15 - 2 * found + 16 * one_if (false && paged)) _ (omega (arith, due, none)) (omega (arith, made)) (asks ∙ not_asked paged) (steps_as paged (15 - 2 * found))
              (probes names page room decode files first ascending small_first hand found next spent calls paged latest (6 + spent) request got.0 at.0 at.1 at.2 at.3 at.4 every within
              (found_in files (version_path names next) old new got.0 same got.2) (gone_in files (version_path names next) old new got.0 same got.2)),
          probe_fails names page decode old new (Probes hand found next request) hand found next (version_path names next) got.0 got.2,
          get_reads (version_path names next) None old new got.0 got.2,
        )
    moved (Finds successor found) latest reply spent spent' calls calls' paged paged' at every told due asks made within =
        let look = asked_look old new reply told in
        let none = not_due paged in
        rw look.0 (
          as_is (latest_window_after (Finds successor found) latest) spent spent' calls calls' paged paged' (16 - 2 * found) (16 - 2 * found + 16 * one_if (false && paged)) _ (omega (arith, due, none)) (omega (arith, made)) (asks ∙ not_asked paged) (steps_as paged (16 - 2 * found))
              (finds names page room decode files first ascending small_first successor found spent calls paged latest (6 + spent) at.0 at.1 at.2 at.3 every within),
          found_fails names page decode old new None (Finds successor found) successor found,
          look_reads old new look.1,
        )
    moved (Lists found request) latest reply spent spent' calls calls' paged paged' at every told due asks made within =
        let l = at.1 in
        let got = asked_list names.dir l.after page request old new reply l.asks told in
        let turn = due ∙ ap (λ n. spent + n) (due_as paged) in
        rw (got.1, made, asks ∙ asked_now paged, steps_more paged (5 + one_if (not paged))) (
          lists names page room decode files first ascending small_first found request spent spent' calls paged latest (6 + spent') l at.0 every turn within refl got.0 (listed_in files names.dir l.after page old new got.0 same got.2),
          list_fails names page decode old new (Lists found request) found names.dir l.after page got.0 got.2,
          list_reads names.dir l.after page old new got.0 got.2,
        )
    moved (Chooses greatest) latest reply spent spent' calls calls' paged paged' at every told due asks made within =
        let look = asked_look old new reply told in
        let none = not_due paged in
        rw look.0 (
          as_is (λ t. latest) spent spent' calls calls' paged paged' 4 (4 + 16 * one_if (false && paged)) _ (omega (arith, due, none)) (omega (arith, made)) (asks ∙ not_asked paged) (steps_as paged 4)
              (chooses names page room decode files first ascending small_first greatest spent calls paged latest (6 + spent) at.0 at.1 every within),
          chosen_fails names page decode old new None (Chooses greatest) greatest latest,
          look_reads old new look.1,
        )
    moved (Gets id request) latest reply spent spent' calls calls' paged paged' at every told due asks made within =
        let got = asked_get (version_path names id) request old new reply at.2 told in
        let none = not_due paged in
        rw got.1 (
          as_is (λ t. latest) spent spent' (calls + 1) calls' paged paged' 3 (3 + 16 * one_if (false && paged)) _ (omega (arith, due, none)) (omega (arith, made)) (asks ∙ not_asked paged) (steps_as paged 3)
              (gets names page room decode files first ascending small_first id request spent calls paged latest (6 + spent) got.0 at.0 at.1 every within
              (found_in files (version_path names id) old new got.0 same got.2) (gone_in files (version_path names id) old new got.0 same got.2)),
          got_fails names page decode old new (Gets id request) id (version_path names id) got.0 got.2,
          get_reads (version_path names id) None old new got.0 got.2,
        )
    moved (Keeps version value) latest reply spent spent' calls calls' paged paged' at every told due asks made within =
        let look = asked_look old new reply told in
        let none = not_due paged in (
          as_is (latest_window_after (Keeps version value) latest) spent spent' calls calls' paged paged' 2 (2 + 16 * one_if (false && paged)) (Ended, Done (Ok (Some (version.id, value)))) (omega (arith, due, none)) (omega (arith, made)) (asks ∙ not_asked paged) (steps_as paged 2)
              (keeps names page room decode files first ascending small_first version value spent calls paged latest 2 (6 + spent) at.0 at.1 at.2 at.3 every),
          tt,
          look_reads old new look.1,
        )
    moved (Drops id) latest reply spent spent' calls calls' paged paged' at every told due asks made within = absurd at
    moved Ended latest reply spent spent' calls calls' paged paged' at every told due asks made within = absurd at
