-- Operations that run alone: one step more, and what they leave from their start on.
use Rattle.std.proofs.Common.{◌≡◌, ℕ, zero, suc, ◌+◌, ◌*◌, ◌<◌, ◌≤◌, ◌^◌, List, length, take, drop, Option, Some, None, Result, refl, sym, ap, subst, ◌∙◌, inl, arith}
use Rattle.std.specs.declared.ops.Bound.{Bound}
use Rattle.txn_store.specs.Paths.{Segments}
use Rattle.txn_store.specs.VersionName.{Names, version_path}
use Rattle.txn_store.specs.Store.{State}
use Rattle.txn_store.specs.declared.request.Request.{Request}
use Rattle.txn_store.specs.declared.request.Reply.{Reply}
use Rattle.txn_store.specs.declared.request.Reply.TheVariants as replies
use Rattle.txn_store.specs.types.Numbers.{number_of}
use Rattle.txn_store.specs.declared.types.error.TransactionalObjectError.{TransactionalObjectError}
use Rattle.txn_steps.specs.declared.boundary.caches.Cached.{Cached}
use Rattle.txn_steps.specs.declared.boundary.caches.Caches.{Caches}
use Rattle.txn_steps.specs.declared.boundary.turned.Turned.{Turned}
use Rattle.txn_steps.specs.declared.boundary.turned.Turned.TheVariants.{Goes, Done}
use Rattle.txn_steps.specs.declared.delete.DeleteUncheckedOp.{DeleteUncheckedOp}
use Rattle.txn_steps.specs.declared.delete.RemovalStep.{RemovalStep}
use Rattle.txn_steps.specs.declared.delete.RemovalStep.TheVariants.{Removes, Drops}
use Rattle.txn_steps.specs.declared.listing.ListOp.{ListOp}
use Rattle.txn_steps.specs.declared.write.WriteUncheckedOp.{WriteUncheckedOp}
use Rattle.txn_steps.specs.declared.write.WriteUncheckedOp.TheVariants.{Puts, Keeps, Ended}
use Rattle.txn_steps.specs.Deletes.{removal_started}
use Rattle.txn_steps.specs.Listed.{Listed}
use Rattle.txn_steps.specs.Listings.{listing_started}
use Rattle.txn_steps.specs.Picked.{picked}
use Rattle.txn_steps.specs.Requests.{version_page}
use Rattle.txn_steps.specs.Writes.{unchecked_started}
use Rattle.txn_steps_driven.specs.Asked.{Replies}
use Rattle.txn_steps_driven.specs.DriveEnds.{WriteDriven, DeleteDriven, ListDriven}
use Rattle.txn_steps_driven.specs.DriveRuns.{Scene, GoesOn, Drives}
use Rattle.txn_steps_driven.specs.DriveSteps.{WriteUncheckedSteps, DeleteUncheckedSteps, ListSteps}
use Rattle.txn_steps_driven.specs.ListRuns.{ListRuns, IsListStep}
use Rattle.txn_steps_driven.specs.PageCount.{files_below}
use Rattle.txn_steps_driven.specs.RemovalRuns.{RemovalRuns, removal_rank, IsRemovalStep}
use Rattle.txn_steps_driven.specs.WriteRuns.{WriteRuns, write_rank, IsWriteStep}
use Rattle.txn_steps_driven.proofs.ListSteps.{list_goes, listed}
use Rattle.txn_steps_driven.proofs.NextPages.{page_within}
use Rattle.txn_steps_driven.proofs.RemovalSteps.{removal_goes, deleted}
use Rattle.txn_steps_driven.proofs.WriteStands.{written}
use Rattle.txn_steps_driven.proofs.WriteSteps.{write_goes}

-- after one step more
pub goes_on : {O A : Type 0} (Steps : Scene O → Turned A → Scene O → Type 0) (n : ℕ) (a b c : Scene O) → GoesOn Steps n a b → Steps b Goes c → GoesOn Steps (n + 1) a c
goes_on Steps n a b c on step = let more : suc n ≡ n + 1 = omega arith in subst (λ k. GoesOn Steps k a c) more (b, on, step)

-- what holds at the start, and after each step that goes on, holds after any number of them
pub after_steps : {O A : Type 0} (Steps : Scene O → Turned A → Scene O → Type 0) (At : ℕ → Scene O → Type 0) (a : Scene O) → At 0 a → ((n : ℕ) (b c : Scene O) → At n b → Steps b Goes c → At (n + 1) c) → (n : ℕ) (b : Scene O) → GoesOn Steps n a b → At n b
after_steps Steps At a start next zero b same = subst (At 0) (sym same) start
after_steps Steps At a start next (suc n) c (b, on, step) = let more : n + 1 ≡ suc n = omega arith in subst (λ k. At k c) more (next n b c (after_steps Steps At a start next n b on) step)

-- so many steps after one scene, which came after so many
pub record Since {O A : Type 0} (Steps : Scene O → Turned A → Scene O → Type 0) (a : Scene O) (before n : ℕ) (b : Scene O) : Type 0 where
  pub k : ℕ
  pub on : GoesOn Steps k a b
  pub count : n ≡ before + k

pub since_now : {O A : Type 0} (Steps : Scene O → Turned A → Scene O → Type 0) (a : Scene O) (n : ℕ) → Since Steps a n n a
since_now Steps a n = record { k = 0; on = refl; count = omega arith }

pub since_goes : {O A : Type 0} (Steps : Scene O → Turned A → Scene O → Type 0) (a b c : Scene O) (before n : ℕ) → Since Steps a before n b → Steps b Goes c → Since Steps a before (n + 1) c
since_goes Steps a b c before n since step = let count = since.count in record { k = suc since.k; on = (b, since.on, step); count = omega (arith, count) }

-- an unchecked write

is_write_step : (a b : Scene WriteUncheckedOp) (told : Turned (Result ℕ TransactionalObjectError)) → WriteUncheckedSteps a told b → IsWriteStep a.store b.store a.caches.latest b.caches.latest a.op b.op told
is_write_step a b told step = record { reply = step.reply; replies = step.replies; turned = step.takes; held = ap (λ (k : Caches). k.latest) step.leaves; error = step.error }

write_some : (path : Segments) (bytes : List ℕ) (id : ℕ) (old new : State) (latest latest' : List Cached) (op : WriteUncheckedOp) → WriteRuns path bytes id old new latest latest' op → 1 ≤ write_rank op
write_some path bytes id old new latest latest' (Puts version request) runs = omega arith
write_some path bytes id old new latest latest' (Keeps version) runs = omega arith
write_some path bytes id old new latest latest' Ended runs = absurd runs

module _ {T : Type 0} (names : Names) (decode : List ℕ → Option T) (base : Option ℕ) (bytes : List ℕ) (value : T) (a : Scene WriteUncheckedOp) (starts : a.op ≡ unchecked_started names base bytes) where
  abbrev id : ℕ
  id = number_of base + 1

  abbrev path : Segments
  path = version_path names id

  record WriteOn (n : ℕ) (b : Scene WriteUncheckedOp) : Type 0 where
    runs : WriteRuns path bytes id a.store b.store a.caches.latest b.caches.latest b.op
    left : n + write_rank b.op ≤ 2
    boundary : b.caches.boundary ≡ a.caches.boundary

  write_on : (n : ℕ) (b : Scene WriteUncheckedOp) → GoesOn WriteUncheckedSteps n a b → WriteOn n b
  write_on zero b same = subst (WriteOn 0) (sym same) (record {
    runs = subst (WriteRuns path bytes id a.store a.store a.caches.latest a.caches.latest) (sym starts) (refl, refl, refl, refl);
    left = subst (λ op. 0 + write_rank op ≤ 2) (sym starts) (omega arith);
    boundary = refl;
  })
  write_on (suc n) c (b, on, step) =
      let so_far = write_on n b on in
      let more = write_goes path bytes id (number_of base) a.store c.store a.caches.latest b.store b.caches.latest c.caches.latest b.op c.op Goes so_far.runs (is_write_step b c Goes step) in
      let left = so_far.left in
      let fewer = more.1 in
      record { runs = more.0; left = omega (arith, left, fewer); boundary = ap (λ (k : Caches). k.boundary) step.leaves ∙ so_far.boundary }

  pub write_driven : (steps : ℕ) (result : Option (Result ℕ TransactionalObjectError)) (b : Scene WriteUncheckedOp) → decode bytes ≡ Some value → number_of base + 1 < 2 ^ 64 → Drives WriteUncheckedSteps steps a result b → WriteDriven names decode base bytes value steps a result b
  write_driven steps None b reads last on =
      let so_far = write_on steps b on in
      let left = so_far.left in
      let some = write_some path bytes id a.store b.store a.caches.latest b.caches.latest b.op so_far.runs in
      omega (arith, left, some)
  write_driven steps (Some answer) c reads last (n, b, within, on, step) =
      let so_far = write_on n b on in
      let ends = write_goes path bytes id (number_of base) a.store c.store a.caches.latest b.store b.caches.latest c.caches.latest b.op c.op (Done answer) so_far.runs (is_write_step b c (Done answer) step) in
      (written names decode base bytes value a.store c.store a.caches.latest c.caches.latest answer reads last ends, ap (λ (k : Caches). k.boundary) step.leaves ∙ so_far.boundary)

-- an unchecked delete

is_removal_step : (a b : Scene DeleteUncheckedOp) (told : Turned (Result (Unit {0}) TransactionalObjectError)) → DeleteUncheckedSteps a told b → IsRemovalStep a.store b.store a.caches.latest b.caches.latest a.op b.op told
is_removal_step a b told step = record { reply = step.reply; replies = step.replies; turned = step.takes; held = ap (λ (k : Caches). k.latest) step.leaves; error = step.error }

removal_some : (step : RemovalStep) → 1 ≤ removal_rank step
removal_some Removes = omega arith
removal_some Drops = omega arith

module _ {T : Type 0} (names : Names) (decode : List ℕ → Option T) (id : ℕ) (a : Scene DeleteUncheckedOp) (starts : a.op ≡ removal_started names id) where
  record RemovalOn (n : ℕ) (b : Scene DeleteUncheckedOp) : Type 0 where
    runs : RemovalRuns (version_path names id) id a.store b.store a.caches.latest b.caches.latest b.op
    left : n + removal_rank b.op.step ≤ 2
    boundary : b.caches.boundary ≡ a.caches.boundary

  removal_on : (n : ℕ) (b : Scene DeleteUncheckedOp) → GoesOn DeleteUncheckedSteps n a b → RemovalOn n b
  removal_on zero b same = subst (RemovalOn 0) (sym same) (record {
    runs = subst (RemovalRuns (version_path names id) id a.store a.store a.caches.latest a.caches.latest) (sym starts) (record { id_is = refl; held = refl; at = (refl, refl) });
    left = subst (λ (op : DeleteUncheckedOp). 0 + removal_rank op.step ≤ 2) (sym starts) (omega arith);
    boundary = refl;
  })
  removal_on (suc n) c (b, on, step) =
      let so_far = removal_on n b on in
      let more = removal_goes (version_path names id) id a.store c.store a.caches.latest b.store b.caches.latest c.caches.latest b.op c.op Goes so_far.runs (is_removal_step b c Goes step) in
      let left = so_far.left in
      let fewer = more.1 in
      record { runs = more.0; left = omega (arith, left, fewer); boundary = ap (λ (k : Caches). k.boundary) step.leaves ∙ so_far.boundary }

  pub delete_driven : (steps : ℕ) (result : Option (Result (Unit {0}) TransactionalObjectError)) (b : Scene DeleteUncheckedOp) → Drives DeleteUncheckedSteps steps a result b → DeleteDriven names decode id steps a result b
  delete_driven steps None b on =
      let left = (removal_on steps b on).left in
      let some = removal_some b.op.step in
      omega (arith, left, some)
  delete_driven steps (Some answer) c (n, b, within, on, step) =
      let so_far = removal_on n b on in
      let ends = removal_goes (version_path names id) id a.store c.store a.caches.latest b.store b.caches.latest c.caches.latest b.op c.op (Done answer) so_far.runs (is_removal_step b c (Done answer) step) in
      (deleted names decode id a.store c.store a.caches.latest c.caches.latest answer ends, ap (λ (k : Caches). k.boundary) step.leaves ∙ so_far.boundary)

-- a listing

is_list_step : (names : Names) (page : ℕ) (a b : Scene ListOp) (told : Turned (Result (List Listed) TransactionalObjectError)) → ListSteps names page a told b → IsListStep names page a.store b.store a.op b.op told
is_list_step names page a b told step = record { reply = step.reply; replies = step.replies; turned = step.takes; error = step.error }

list_counted : (names : Names) (after : Option Segments) (page : ℕ) (old new : State) (reply : Option Reply) → Replies (Some (version_page names after page)) old reply new → new.calls ≡ old.calls + 1
list_counted names after page old new (Some (replies.List answer)) served = served.counted.calls
list_counted names after page old new (Some reply) served = absurd served
list_counted names after page old new None served = absurd served

module _ {T : Type 0} (names : Names) (decode : List ℕ → Option T) (page : ℕ) (room : 1 ≤ page) (from to : Bound ℕ) (a : Scene ListOp) (starts : a.op ≡ listing_started names page from to) where
  record ListOn (n : ℕ) (b : Scene ListOp) : Type 0 where
    runs : ListRuns names page from to a.store b.store b.op
    count : b.store.calls ≡ a.store.calls + n
    caches_same : b.caches ≡ a.caches

  list_on : (n : ℕ) (b : Scene ListOp) → GoesOn (ListSteps names page) n a b → ListOn n b
  list_on zero b same =
      let none : 0 * page ≡ 0 = omega arith in
      subst (ListOn 0) (sym same) (record {
        runs = subst (ListRuns names page from to a.store a.store) (sym starts) (record {
          told = 0;
          after = None;
          from_is = refl;
          to_is = refl;
          asks = refl;
          found = ap (λ n. picked names from to (take n (files_below names a.store.files))) (sym none);
          rest = ap (λ n. drop n (files_below names a.store.files)) (sym none);
          more = inl refl;
          kept = record { files = refl; given = refl; left = refl };
          calls = omega arith;
          failures = omega arith;
        });
        count = omega arith;
        caches_same = refl;
      })
  list_on (suc n) c (b, on, step) =
      let so_far = list_on n b on in
      let more = list_goes names page from to a.store b.store c.store b.op c.op Goes room so_far.runs (is_list_step names page b c Goes step) in
      let served = subst (λ (r : Request). Replies (Some r) b.store step.reply c.store) so_far.runs.asks step.replies in
      let one = list_counted names so_far.runs.after page b.store c.store step.reply served in
      let count = so_far.count in
      record { runs = more.0; count = omega (arith, count, one); caches_same = step.leaves ∙ so_far.caches_same }

  pub list_driven : (steps : ℕ) (result : Option (Result (List Listed) TransactionalObjectError)) (b : Scene ListOp) → Drives (ListSteps names page) steps a result b → ListDriven names decode page from to steps a result b
  list_driven steps None b on =
      let so_far = list_on steps b on in
      let low = page_within page (length (files_below names a.store.files)) so_far.runs.told room so_far.runs.more in
      let count = so_far.count in
      let calls = so_far.runs.calls in
      omega (arith, low, count, calls)
  list_driven steps (Some answer) c (n, b, within, on, step) =
      let so_far = list_on n b on in
      let ends = list_goes names page from to a.store b.store c.store b.op c.op (Done answer) room so_far.runs (is_list_step names page b c (Done answer) step) in
      (listed names page decode from to a.store c.store answer ends, step.leaves ∙ so_far.caches_same)
