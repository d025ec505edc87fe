-- How many pages follow the first of a listing, by how many files there are.
use Rattle.std.proofs.Common.{◌≡◌, ℕ, zero, suc, ◌+◌, ◌*◌, ◌-◌, ◌<◌, ◌≤◌, nat_lt, if◌then◌else◌, Bool, true, false, List, length, take, drop, Option, Some, None, inl, inr, sym, ◌∙◌, ap, subst, arith}
use Rattle.std.specs.FinMap as finmap
use Rattle.std.proofs.lemmas.Bool.{cases_Bool, ltb-true}
use Rattle.std.proofs.lemmas.List.{length-drop}
use Rattle.txn_store.specs.Paths.{Segments}
use Rattle.txn_store.specs.Store.{Files, listing}
use Rattle.txn_store.specs.declared.store.ObjectMeta.{ObjectMeta}
use Rattle.txn_steps.specs.Requests.{last_location, next_after}
use Rattle.txn_history.specs.Names.{world_names}
use Rattle.txn_machine.specs.plain.Alone.{page_after, AtMost, HasPages}
use Rattle.txn_steps_driven.specs.PageCount.{pages_below}
use Rattle.txn_steps_driven.proofs.NextPages.{next_page, has_pages}
use Rattle.txn_history.specs.declared.event.Call.{Call}
use Rattle.txn_history.specs.Trace.{Event, Told}
use Rattle.txn_machine.specs.Alone.{IsReading, ReadsAlone, turns}
use Rattle.txn_machine.specs.plain.Machine.{next_op}
use Rattle.txn_machine.specs.Machine.{State, opening, Runs}
use Rattle.txn_machine.proofs.Mirroring.{turns_at_rest}
use Rattle.txn_machine.proofs.Owned.{run_same}
use Rattle.txn_machine.proofs.Reached.{run_reaches}
use Rattle.txn_machine.proofs.Runs.{runs_or_lacking}

module _ (files : Files) (limit : ℕ) (room : 1 ≤ limit) where
  abbrev metas_after : Option Segments → List ObjectMeta
  metas_after after = listing world_names.dir after (finmap.entries files)

  -- the last page
  none_follow : (more : ℕ) (after : Option Segments) → nat_lt limit (length (metas_after after)) ≡ false → AtMost files limit more (next_after (page_after files limit after))
  none_follow more after out = subst (AtMost files limit more) (sym (ap (λ (b : Bool). if◌then◌else◌ {A = Option Segments} b (last_location (take limit (metas_after after))) None) out)) tt

  -- so many pages hold what is to be listed
  at_most : (more : ℕ) (after : Option Segments) → length (metas_after after) ≤ (more + 1) * limit → AtMost files limit more (next_after (page_after files limit after))
  at_most zero after few =
      elim (cases_Bool (nat_lt limit (length (metas_after after)))) [
        | inl is ↦ (
            let lt = ltb-true limit (length (metas_after after)) is in
            let one : (0 + 1) * limit ≡ limit = grind arith in
            absurd (omega (arith, lt, few, one))
            )
        | inr out ↦ none_follow zero after out
      ]
  at_most (suc more) after few =
      elim (cases_Bool (nat_lt limit (length (metas_after after)))) [
        | inl is ↦ (
            let lt = ltb-true limit (length (metas_after after)) is in
            let next = next_page world_names.dir (finmap.entries files) (finmap.entries_sorted files) after limit room lt in
            let path : next_after (page_after files limit after) ≡ Some next.0 = ap (λ (b : Bool). if◌then◌else◌ {A = Option Segments} b (last_location (take limit (metas_after after))) None) is ∙ next.1 in
            let long : length (metas_after (Some next.0)) ≡ length (metas_after after) - limit = ap (λ (ms : List ObjectMeta). length ms) next.2 ∙ length-drop limit (metas_after after) in
            let times : (suc more + 1) * limit ≡ (more + 1) * limit + limit = grind arith in
            subst (AtMost files limit (suc more)) (sym path) (at_most more (Some next.0) (omega (arith, few, long, times)))
            )
        | inr out ↦ none_follow (suc more) after out
      ]

  -- as many as the files below the directory of the versions make, but the first
  pub pages_follow : HasPages files limit (pages_below world_names limit files - 1)
  pages_follow =
      let count = pages_below world_names limit files in
      let all = has_pages world_names limit files room in
      let same : count - 1 + 1 ≡ count = (let some = all.0 in omega (arith, some)) in
      at_most (count - 1) None (subst (λ (n : ℕ). length (metas_after None) ≤ n * limit) (sym same) all.1)

module _ {T : Type 0} (encode : T → List ℕ) (decode : List ℕ → Option T) (get_epoch : T → ℕ) (set_epoch : T → ℕ → T) where
  -- a read that nothing disturbs takes two turns for each page at most
  pub turns_by_files : (clients page : ℕ) (before : List (Event T × Told T)) (s : State T) (client : ℕ) (call : Call T) (states : List (State T)) → 1 ≤ page → Runs encode decode get_epoch set_epoch (opening clients page) before s → IsReading call → ReadsAlone encode decode get_epoch set_epoch s client call states →
      turns (next_op s) s states ≤ 2 * pages_below world_names page s.store.files
  turns_by_files clients page before s client call states room runs is alone =
      let count = pages_below world_names page s.store.files in
      let same : s.page ≡ page = (run_same encode decode get_epoch set_epoch clients page before s (runs_or_lacking encode decode get_epoch set_epoch (opening clients page) before s runs)).1 in
      let pages : HasPages s.store.files s.page (count - 1) = subst (λ (n : ℕ). HasPages s.store.files n (count - 1)) (sym same) (pages_follow s.store.files page room) in
      let bound = turns_at_rest encode decode get_epoch set_epoch s client call (count - 1) states (run_reaches encode decode get_epoch set_epoch clients page before s room runs) is alone pages in
      let some = (has_pages world_names page s.store.files room).0 in
      omega (arith, bound, some)
