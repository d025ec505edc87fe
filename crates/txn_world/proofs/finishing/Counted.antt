-- Reached stores have at most so many files as there are tokens: a bound on the pages of a listing, and on what an operation has left, that no run passes.
use Rattle.std.proofs.Common.{◌≡◌, ℕ, ◌+◌, ◌*◌, ◌-◌, ◌^◌, ◌≤◌, ◌&&◌, cond, Bool, true, false, List, [], ◌∷◌, length, filter, Option, None, Result, Ok, Err, inl, inr, sym, ◌∙◌, ap, subst, arith}
use Rattle.std.specs.FinMap.{entries, len, len-empty, len-entries, len-insert, len-remove, contains_key}
use Rattle.std.proofs.Math.Nat.{div-le_self}
use Rattle.std.proofs.lemmas.Bool.{cases_Bool}
use Rattle.std.proofs.lemmas.List.{length-map}
use Rattle.txn_store.specs.Paths.{Segments, path_cmp, is_below}
use Rattle.txn_store.specs.Store.{State as StoreState, Puts, Deletes, Kept, is_above, meta_of, listing}
use Rattle.txn_store.specs.Requests.{Serves}
use Rattle.txn_store.specs.declared.store.Got.{Got}
use Rattle.txn_store.specs.declared.store.PutMode.{PutMode}
use Rattle.txn_store.specs.declared.store.StoreError.{StoreError}
use Rattle.txn_store.specs.declared.request.Request.{Request}
use Rattle.txn_store.specs.declared.request.Request.TheVariants as requests
use Rattle.txn_store.specs.declared.request.Reply.{Reply}
use Rattle.txn_store.specs.declared.request.Reply.TheVariants as replies
use Rattle.txn_store.proofs.FileLemmas.{path_cmp_total}
use Rattle.txn_steps.specs.declared.delete.DeleteOp.{DeleteOp}
use Rattle.txn_steps.specs.declared.delete.DeleteStep.{DeleteStep}
use Rattle.txn_steps.specs.declared.delete.DeleteStep.TheVariants as deletes
use Rattle.txn_steps.specs.declared.delete.RemovalStep.{RemovalStep}
use Rattle.txn_steps.specs.declared.delete.RemovalStep.TheVariants as removals
use Rattle.txn_steps.specs.declared.seen.ReadSeenOp.{ReadSeenOp}
use Rattle.txn_steps.specs.declared.seen.ReadSeenOp.TheVariants as seen
use Rattle.txn_steps.specs.CallsLeft.{removal_budget_at, delete_budget_at, seen_budget}
use Rattle.txn_steps_driven.specs.PageCount.{page_count}
use Rattle.txn_history.specs.declared.event.EventOf.TheVariants as events
use Rattle.txn_history.specs.declared.event.Failure.{Failure}
use Rattle.txn_history.specs.declared.event.Failure.TheVariants as failures
use Rattle.txn_history.specs.Names.{world_names}
use Rattle.txn_history.specs.Trace.{Event, Told}
use Rattle.txn_machine.specs.declared.plain.doing.PlainDoing.TheVariants as doings
use Rattle.txn_machine.proofs.plain.Faults.{put_kept, delete_kept, get_kept, listed_kept}
use Rattle.txn_steps_views.specs.declared.entry.EntryOp.{EntryOp}
use Rattle.txn_steps_views.specs.declared.entry.EntryOp.TheVariants as entering
use Rattle.txn_steps_views.specs.declared.op.ViewOp.TheVariants.{Enters, Reads, Claims}
use Rattle.txn_steps_views.specs.CallsLeft.{entry_budget}
use Rattle.txn_machine.specs.declared.doing.Doing.{Doing}
use Rattle.txn_machine.specs.declared.doing.Doing.TheVariants as does
use Rattle.txn_machine.specs.Machine.{State, Fails, TakesOrLacks, IsReached}
use Rattle.txn_machine.proofs.Runs.{runs_keep}
use Rattle.txn_world.specs.finishing.Progress.{sum_of, most_left, FewPages}
use Rattle.txn_world.proofs.finishing.Bounds.{write_small_at, unchecked_small}
use Rattle.txn_world.proofs.finishing.Tries.{check_small}

-- a file has a token that was given

-- the files, and the tokens that are left
abbrev files_and_left : StoreState → ℕ
files_and_left store = len store.files + store.left

one_more : (there : Bool) (n : ℕ) → cond there n (n + 1) ≤ n + 1
one_more true n = omega arith
one_more false n = omega arith

one_less : (there : Bool) (n : ℕ) → cond there (n - 1) n ≤ n
one_less true n = omega arith
one_less false n = omega arith

kept_counts : (old new : StoreState) → Kept old new → files_and_left new ≤ files_and_left old
kept_counts old new k = let files = ap len k.files in let left = k.left in omega (arith, files, left)

put_counts : (path : Segments) (bytes : List ℕ) (mode : PutMode) (old new : StoreState) (answer : Result ℕ StoreError) → Puts path bytes mode old answer new → new.failures ≡ 0 → files_and_left new ≤ files_and_left old
put_counts path bytes mode old new (Ok token) p honest =
    let got : Got = record { bytes = bytes; token = token } in
    let files = ap len p.placed.files ∙ len-insert path_cmp_total old.files path got in
    let most = one_more (contains_key old.files path) (len old.files) in
    let left = p.placed.left in
    omega (arith, files, most, left)
put_counts path bytes mode old new (Err error) p honest = kept_counts old new (put_kept path bytes mode old new error p honest)

delete_counts : (path : Segments) (old new : StoreState) (answer : Result (Unit {0}) StoreError) → Deletes path old answer new → new.failures ≡ 0 → files_and_left new ≤ files_and_left old
delete_counts path old new (Ok done) d honest =
    let files = ap len d.removed.files ∙ len-remove path_cmp_total old.files path in
    let most = one_less (contains_key old.files path) (len old.files) in
    let left = d.removed.left in
    omega (arith, files, most, left)
delete_counts path old new (Err error) d honest = kept_counts old new (delete_kept path old new error d honest)

serve_counts : (request : Request) (reply : Reply) (old new : StoreState) → Serves request old reply new → new.failures ≡ 0 → files_and_left new ≤ files_and_left old
serve_counts (requests.Put path bytes mode) (replies.Put answer) old new s honest = put_counts path bytes mode old new answer s honest
serve_counts (requests.Get path known) (replies.Get answer) old new s honest = kept_counts old new (get_kept path known old new answer s honest)
serve_counts (requests.List prefix after limit) (replies.List answer) old new s honest = kept_counts old new (listed_kept prefix after limit old new answer s honest)
serve_counts (requests.Delete path) (replies.Delete answer) old new s honest = delete_counts path old new answer s honest
serve_counts _ _ old new s honest = absurd s

module _ {T : Type 0} where
  -- fewer files than tokens
  abbrev IsFew : State T → Type 0
  IsFew s = files_and_left s.store ≤ 2 ^ 64

  few_after : (s : State T) (store : StoreState) → files_and_left store ≤ files_and_left s.store → IsFew s → files_and_left store ≤ 2 ^ 64
  few_after s store le few = omega (arith, le, few)

  fails_few : (failure : Failure) (old : State T) (op : ℕ) (said : Told T) (new : State T) → Fails old op failure said new → IsFew old → IsFew new
  fails_few failures.Before old op said new v h = subst IsFew (sym v.state) h
  fails_few failures.After old op said new v h = subst IsFew (sym v.state) (few_after old v.call.store (serve_counts v.call.request v.call.reply old.store v.call.store v.call.reaches.serves v.call.reaches.honest) h)
  fails_few failures.Loose old op said new v h = subst IsFew (sym v.state) h

module _ {T : Type 0} (encode : T → List ℕ) (decode : List ℕ → Option T) (get_epoch : T → ℕ) (set_epoch : T → ℕ → T) where
  few_stays : (old : State T) (event : Event T) (said : Told T) (new : State T) → IsFew old → TakesOrLacks encode decode get_epoch set_epoch old event said new → IsFew new
  few_stays old (events.Begin client call) said new h t = subst IsFew (sym t.step.state) h
  few_stays old (events.Look op) said new h t = subst IsFew (sym t.step.state) h
  few_stays old (events.Serve op) said new h t = elim t.step [
    | inl v ↦ subst IsFew (sym v.state) (few_after old v.call.store (serve_counts v.call.request v.call.reply old.store v.call.store v.call.reaches.serves v.call.reaches.honest) h)
    | inr v ↦ subst IsFew (sym v.state) h
  ]
  few_stays old (events.Fail op failure) said new h t = fails_few failure old op said new t.step h
  few_stays old (events.GiveUp op) said new h t = subst IsFew (sym t.step.state) h
  few_stays old (events.Land k) said new h t = let loose = t.step.loose in subst IsFew (sym t.step.state) (few_after old loose.store (serve_counts loose.request loose.reply old.store loose.store loose.reaches.serves loose.reaches.honest) h)
  few_stays old (events.Crash client) said new h t = subst IsFew (sym t.step.state) h

  reached_few : (s : State T) → IsReached encode decode get_epoch set_epoch s → IsFew s
  reached_few s r = runs_keep encode decode get_epoch set_epoch IsFew few_stays _ r.0 s r.1 (let none = len-empty path_cmp Got in omega (arith, none))

-- and a page has one of them at least

filter_more : {X : Type 0} (p : X → Bool) (x : X) (xs : List X) → length (filter p xs) ≤ length xs → length (filter p (x ∷ xs)) ≤ length (x ∷ xs)
filter_more p x xs most = elim (cases_Bool (p x)) [
  | inl passes ↦ rw passes (omega (arith, most))
  | inr fails ↦ rw fails (omega (arith, most))
]

filter_most : {X : Type 0} (p : X → Bool) (xs : List X) → length (filter p xs) ≤ length xs
filter_most p [] = omega arith
filter_most p (x ∷ xs) = filter_more p x xs (filter_most p xs)

page_most : (page files : ℕ) → page_count page files ≤ files + 1
page_most page files = let most = div-le_self files page in omega (arith, most)

abbrev pub any_pages : ℕ
any_pages = 2 ^ 64 + 1

module _ {T : Type 0} (encode : T → List ℕ) (decode : List ℕ → Option T) (get_epoch : T → ℕ) (set_epoch : T → ℕ → T) where
  pub reached_pages : (s : State T) → IsReached encode decode get_epoch set_epoch s → FewPages any_pages s
  reached_pages s r =
      let few = reached_few encode decode get_epoch set_epoch s r in
      let long = len-entries s.store.files in
      let told = length-map (filter (λ e. is_below world_names.dir e.0 && is_above None e.0) (entries s.store.files)) meta_of in
      let most = filter_most (λ (e : Segments × Got). is_below world_names.dir e.0 && is_above None e.0) (entries s.store.files) in
      let pages = page_most s.page (length (listing world_names.dir None (entries s.store.files))) in
      omega (arith, few, long, told, most, pages)

-- what an operation has left where a listing has so many pages

removal_small : (step : RemovalStep) → sum_of (removal_budget_at step) ≤ 2
removal_small removals.Removes = omega arith
removal_small removals.Drops = omega arith

delete_small : (step : DeleteStep) (op : DeleteOp) → sum_of (delete_budget_at step op) ≤ 7
delete_small deletes.Checks op = let a = check_small op.check in let b = removal_small op.removal.step in omega (arith, a, b)
delete_small deletes.Removes op = let b = removal_small op.removal.step in omega (arith, b)

seen_small : {T : Type 0} (op : ReadSeenOp T) → sum_of (seen_budget op) ≤ 3
seen_small (seen.Looks id) = omega arith
seen_small (seen.Gets id request) = omega arith
seen_small (seen.Keeps version value) = omega arith
seen_small seen.Ended = omega arith

entry_small : {T : Type 0} (op : EntryOp T) → sum_of (entry_budget op) ≤ 7
entry_small (entering.Writes write value) = write_small_at write.step write
entry_small entering.Ended = omega arith

pub most_small : {T : Type 0} (doing : Doing T) (pages : ℕ) → most_left doing pages ≤ 77 + 3 * pages
most_small (does.Plain (doings.Write op)) pages = let most = write_small_at op.step op in omega (arith, most)
most_small (does.Plain (doings.WriteUnchecked op)) pages = let most = unchecked_small op in omega (arith, most)
most_small (does.Plain (doings.Read op)) pages = omega arith
most_small (does.Plain (doings.ReadUnchecked op)) pages = omega arith
most_small (does.Plain (doings.ReadSeen op)) pages = let most = seen_small op in omega (arith, most)
most_small (does.Plain (doings.ListIds op)) pages = omega arith
most_small (does.Plain (doings.Delete op)) pages = let most = delete_small op.step op in omega (arith, most)
most_small (does.Plain (doings.Check op)) pages = let most = check_small op in omega (arith, most)
most_small (does.Plain (doings.Advance op)) pages = omega arith
most_small (does.Plain doings.Ended) pages = omega arith
most_small (does.View (Enters op)) pages = let most = entry_small op in omega (arith, most)
most_small (does.View (Reads op)) pages = omega arith
most_small (does.View (Claims op)) pages = omega arith
