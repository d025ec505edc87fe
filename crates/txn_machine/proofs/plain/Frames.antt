-- What more rows of others, and the store after them, leave of what stands: nothing is lost.
use Rattle.std.proofs.Common.{◌≡◌, ℕ, zero, suc, ◌<◌, ◌≤◌, List, [], ◌∷◌, ◌++◌, Contains, slice_get, Bool, true, false, Option, Some, None, ◌⊎◌, inl, inr, refl, sym, ◌∙◌, ap, subst, arith}
use Rattle.std.specs.Option.{option_map}
use Rattle.std.specs.List.{list_any}
use Rattle.std.specs.declared.ops.Bound.{Bound}
use Rattle.std.proofs.lemmas.List.Folds.{list_any-append}
use Rattle.txn_store.specs.Store.{State as StoreState}
use Rattle.txn_store.specs.declared.request.Request.{Request}
use Rattle.txn_store.specs.types.Numbers.{number_of}
use Rattle.txn_steps.specs.declared.boundary.caches.Cached.{Cached}
use Rattle.txn_steps.specs.declared.boundary.caches.CachedBoundary.{CachedBoundary}
use Rattle.txn_steps.specs.declared.boundary.caches.Caches.{Caches}
use Rattle.txn_steps.specs.declared.boundary.boundary_read.BoundaryRead.{BoundaryRead}
use Rattle.txn_steps.specs.declared.boundary.boundary_read.BoundaryRead.TheVariants as reading
use Rattle.txn_steps.specs.declared.boundary.check.BoundaryStep.{BoundaryStep}
use Rattle.txn_steps.specs.declared.boundary.check.BoundaryStep.TheVariants as boundary_step
use Rattle.txn_steps.specs.declared.boundary.check.CheckOp.{CheckOp}
use Rattle.txn_steps.specs.declared.boundary.check.CheckOp.TheVariants as checks
use Rattle.txn_steps.specs.declared.boundary.advance.BoundaryAdvance.{BoundaryAdvance}
use Rattle.txn_steps.specs.declared.boundary.advance.BoundaryAdvance.TheVariants as raising
use Rattle.txn_steps.specs.declared.boundary.advance.AdvanceOp.{AdvanceOp}
use Rattle.txn_steps.specs.declared.boundary.advance.AdvanceOp.TheVariants as advances
use Rattle.txn_steps.specs.declared.write.WriteUncheckedOp.{WriteUncheckedOp}
use Rattle.txn_steps.specs.declared.write.WriteUncheckedOp.TheVariants as unchecked
use Rattle.txn_steps.specs.declared.write.WriteStep.{WriteStep}
use Rattle.txn_steps.specs.declared.write.WriteStep.TheVariants as writes
use Rattle.txn_steps.specs.declared.write.WriteOp.{WriteOp}
use Rattle.txn_steps.specs.declared.latest.LatestOp.{LatestOp}
use Rattle.txn_steps.specs.declared.latest.LatestOp.TheVariants as latest
use Rattle.txn_steps.specs.declared.read.ReadOp.{ReadOp}
use Rattle.txn_steps.specs.declared.read.ReadOp.TheVariants as reads
use Rattle.txn_steps.specs.declared.seen.ReadSeenOp.{ReadSeenOp}
use Rattle.txn_steps.specs.declared.seen.ReadSeenOp.TheVariants as seen
use Rattle.txn_steps.specs.declared.delete.RemovalStep.{RemovalStep}
use Rattle.txn_steps.specs.declared.delete.RemovalStep.TheVariants as removals
use Rattle.txn_steps.specs.declared.delete.DeleteStep.{DeleteStep}
use Rattle.txn_steps.specs.declared.delete.DeleteStep.TheVariants as deletes
use Rattle.txn_steps.specs.declared.delete.DeleteOp.{DeleteOp}
use Rattle.txn_history.specs.declared.event.PlainCall.{PlainCall}
use Rattle.txn_history.specs.declared.event.PlainCall.TheVariants as calls
use Rattle.txn_history.specs.Trace.{PlainRow}
use Rattle.txn_history.specs.declared.trace.RowOf.TheVariants.{Effect}
use Rattle.txn_history.specs.Lists.{numbered}
use Rattle.txn_history.specs.History.{Version, newest, boundary, versions_of, is_stored, IsEntry, epoch_at}
use Rattle.txn_history.specs.Calls.{begins, ends, was_begun, was_answered, IsCall, AtRow}
use Rattle.txn_history.specs.Facts.{Created, Entered, WasNewest}
use Rattle.txn_history.proofs.Rows.{row_op}
use Rattle.txn_machine.specs.declared.plain.doing.PlainDoing.{PlainDoing}
use Rattle.txn_machine.specs.declared.plain.doing.PlainDoing.TheVariants.{Write, WriteUnchecked, Read, ReadUnchecked, ReadSeen, ListIds, Delete, Check, Advance, Ended}
use Rattle.txn_machine.specs.plain.Doing.{ids_of}
use Rattle.txn_history.proofs.More.{begins_other, ends_other, call_kept, begun_kept, at_kept, version_kept_by, newest_grows_by, epoch_kept, created_kept, entered_kept}
use Rattle.txn_machine.proofs.plain.Lists.{get_split}
use Rattle.txn_machine.proofs.plain.Rows.{affects_other}
use Rattle.txn_machine.proofs.plain.Rising.{op_on}
use Rattle.txn_machine.proofs.plain.Stands.{affects, has_effect, AreOthers, IsKnown, Frame, Fit, KnownFits, Open, TokenStands, ReadingStands, StepStands, CheckStands, Room, KnownBelow, PutStands, RaiseStands, AdvanceStands, WasAbove, WasGone, WasEmpty, RemovalStands, DeleteStepStands, Only, KnowsFound, ListingStands, FoundStands, ChosenStands, CollectingStands, Carried, WindowFits, CachesStand, LatestStands, ReadStands, SeenStands, Creates, PuttingStands, CreatedStands, UncheckedStands, WrittenStands, WriteStands, DoingStands, Asks, Runs, RunStands, OpStands, Fresh, bytes_at}

any_none : {A : Type 0} (p : A → Bool) (xs ys : List A) → list_any p xs ≡ false → list_any p ys ≡ false → list_any p (xs ++ ys) ≡ false
any_none p xs ys e h = rw (list_any-append p xs ys, e, h) refl

module _ {T : Type 0} where
  -- rows of others have nothing of an operation

  not_own : (op : ℕ) (more : List (PlainRow T)) (k : ℕ) (request : Request) → AreOthers op more → slice_get more k ≡ Some (Effect op request) → ⊥
  not_own op [] k request h e = cc
  not_own op (row ∷ more) zero request h e = h.0 (let is : row ≡ Effect op request = cc in ap row_op is)
  not_own op (row ∷ more) (suc k) request h e = not_own op more k request h.1 e

  no_begins : (op : ℕ) (more : List (PlainRow T)) → AreOthers op more → list_any (begins op) more ≡ false
  no_begins op [] h = refl
  no_begins op (row ∷ more) h = rw (begins_other op row h.0) (no_begins op more h.1)

  no_ends : (op : ℕ) (more : List (PlainRow T)) → AreOthers op more → list_any (ends op) more ≡ false
  no_ends op [] h = refl
  no_ends op (row ∷ more) h = rw (ends_other op row h.0) (no_ends op more h.1)

  no_effects : (op : ℕ) (more : List (PlainRow T)) → AreOthers op more → list_any (affects op) more ≡ false
  no_effects op [] h = refl
  no_effects op (row ∷ more) h = rw (affects_other op row h.0) (no_effects op more h.1)

module _ {T : Type 0} (decode : List ℕ → Option T) (get_epoch : T → ℕ) (rows : List (PlainRow T)) (store : StoreState) (after : List (PlainRow T)) (new : StoreState) (f : Frame rows store after new) where
  -- what the rows say

  pub newest_up : newest rows ≤ newest after
  newest_up = subst (λ (rs : List (PlainRow T)). newest rows ≤ newest rs) (sym f.is) (newest_grows_by rows f.more)

  pub version_more : (n : ℕ) (version : Version) → numbered (versions_of rows) n ≡ Some version → numbered (versions_of after) n ≡ Some version
  version_more n version e = subst (λ (rs : List (PlainRow T)). numbered (versions_of rs) n ≡ Some version) (sym f.is) (version_kept_by rows f.more n version e)

  pub call_more : (op : ℕ) (call : PlainCall T) → IsCall rows op call → IsCall after op call
  call_more op call h = subst (λ (rs : List (PlainRow T)). IsCall rs op call) (sym f.is) (call_kept rows f.more op call h)

  pub begun_more : (op : ℕ) → was_begun rows op ≡ true → was_begun after op ≡ true
  begun_more op h = subst (λ (rs : List (PlainRow T)). was_begun rs op ≡ true) (sym f.is) (begun_kept rows f.more op h)

  pub at_more : (op : ℕ) (holds : List (PlainRow T) → Type 0) → AtRow rows op holds → AtRow after op holds
  at_more op holds h = subst (λ (rs : List (PlainRow T)). AtRow rs op holds) (sym f.is) (at_kept rows f.more op holds h)

  pub known_more : (n : ℕ) → IsKnown rows n → IsKnown after n
  known_more n h = (h.0, let up = newest_up in omega (arith, h.1, up))

  pub bytes_more : (n : ℕ) (bytes : List ℕ) → bytes_at (versions_of rows) n ≡ Some bytes → bytes_at (versions_of after) n ≡ Some bytes
  bytes_more n bytes e = by (numbered (versions_of rows) n) refl e
    where
      by : (o : Option Version) → numbered (versions_of rows) n ≡ o → option_map (λ (v : Version). v.1) o ≡ Some bytes → bytes_at (versions_of after) n ≡ Some bytes
      by None is h = cc
      by (Some version) is h = ap (option_map (λ (v : Version). v.1)) (version_more n version is) ∙ h

  -- what is known of the boundary

  pub fit_more : (number token : ℕ) → Fit rows store number token → Fit after new number token
  fit_more number token h =
      record {
        below = let up = f.up in omega (arith, h.below, up);
        given = f.given token h.given;
        same = λ got e e'. (let was = f.same got (subst (λ (t : ℕ). Contains store.given t) (sym e') h.given) e in h.same got was.0 e' ∙ sym was.1);
      }

  pub known_fits_more : (cached : Option CachedBoundary) → KnownFits rows store cached → KnownFits after new cached
  known_fits_more None h = h
  known_fits_more (Some known) h = fit_more known.number known.token h

  pub open_more : (id : ℕ) (P Q : Type 0) → (P → Q) → Open rows id P → Open after id Q
  open_more id P Q g (inl h) = inl (let up = f.up in omega (arith, h, up))
  open_more id P Q g (inr h) = inr (g h)

  below_or : (id n : ℕ) (P Q : Type 0) → (P → Q) → (id ≤ n) ⊎ P → (id ≤ n) ⊎ Q
  below_or id n P Q g (inl h) = inl h
  below_or id n P Q g (inr h) = inr (g h)

  token_more : (cached : Option CachedBoundary) (token : Option ℕ) → TokenStands rows store cached token → TokenStands after new cached token
  token_more cached None h = h
  token_more cached (Some token) h = (h.0, fit_more h.0 token h.1, h.2)

  pub reading_more : (cached : Option CachedBoundary) (id : ℕ) (P Q : Type 0) → (P → Q) → (read : BoundaryRead) → ReadingStands rows store cached id P read → ReadingStands after new cached id Q read
  reading_more cached id P Q g (reading.Looks path) h = (h.0, open_more id P Q g h.1)
  reading_more cached id P Q g (reading.Gets request) h = record { token = h.token; asks = h.asks; known = token_more cached h.token h.known; open' = open_more id P Q g h.open' }
  reading_more cached id P Q g (reading.Holds (Some known)) h = (fit_more known.number known.token h.0, below_or id known.number P Q g h.1)
  reading_more cached id P Q g (reading.Holds None) h = record { number = h.number; at = h.at; open' = below_or id h.number P Q g h.open' }

  step_more : (cached : Option CachedBoundary) (id : ℕ) (P Q : Type 0) → (P → Q) → (step : BoundaryStep) (read : BoundaryRead) → StepStands rows store cached id P step read → StepStands after new cached id Q step read
  step_more cached id P Q g boundary_step.Looks read h = (h.0, open_more id P Q g h.1)
  step_more cached id P Q g boundary_step.Reads read h = reading_more cached id P Q g read h

  pub check_more : (cached : Option CachedBoundary) (id : ℕ) (P Q : Type 0) → (P → Q) → (check : CheckOp) → CheckStands rows store cached id P check → CheckStands after new cached id Q check
  check_more cached id P Q g (checks.Checks check) h = (h.0, step_more cached id P Q g check.step check.read h.1)
  check_more cached id P Q g (checks.Drops i) h = (h.0, let up = f.up in let below = h.1 in omega (arith, below, up))

  -- an advance

  pub room_more : (to : ℕ) → Room rows to → Room after to
  room_more to (inl z) = inl z
  room_more to (inr lt) = inr (let up = newest_up in omega (arith, lt, up))

  below_more : (to : ℕ) (token : Option ℕ) → KnownBelow rows store to token → KnownBelow after new to token
  below_more to None h = h
  below_more to (Some token) h = (h.0, fit_more h.0 token h.1, h.2)

  put_more : (to : ℕ) (request : Request) → PutStands rows store to request → PutStands after new to request
  put_more to request h = record { token = h.token; asks = h.asks; below = below_more to h.token h.below }

  raise_more : (cached : Option CachedBoundary) (target : ℕ) (raise : BoundaryAdvance) → RaiseStands rows store cached target raise → RaiseStands after new cached target raise
  raise_more cached target (raising.Looks t) h = h
  raise_more cached target (raising.Reads t again read) h = (h.0, reading_more cached 0 ⊥ ⊥ (λ x. x) read h.1)
  raise_more cached target (raising.Puts t request) h = (h.0, put_more target request h.1)
  raise_more cached target (raising.Keeps t token) h = (h.0, fit_more target token h.1)

  advance_more : (cached : Option CachedBoundary) (call : PlainCall T) (advance : AdvanceOp) → AdvanceStands rows store cached call advance → AdvanceStands after new cached call advance
  advance_more cached call (advances.Raises target raise) h = (h.0, room_more target h.1, raise_more cached target raise h.2)
  advance_more cached call (advances.Drops target) h = (h.0, let up = f.up in let below = h.1 in omega (arith, below, up))

  -- a delete

  above_more : (op id : ℕ) → WasAbove rows op id → WasAbove after op id
  above_more op id h = at_more op (λ front. boundary front < id) h

  gone_more : (op id : ℕ) → WasGone rows op id → WasGone after op id
  gone_more op id h = at_more op (λ front. (id ≤ boundary front) × (is_stored front id ≡ false)) h

  removal_more : (op id : ℕ) (step : RemovalStep) (request : Request) → RemovalStands rows op id step request → RemovalStands after op id step request
  removal_more op id removals.Removes request h = (h.0, let up = f.up in let below = h.1 in omega (arith, below, up))
  removal_more op id removals.Drops request h = gone_more op id h

  delete_more : (cached : Option CachedBoundary) (op id : ℕ) (step : DeleteStep) (delete : DeleteOp) → DeleteStepStands rows store cached op id step delete → DeleteStepStands after new cached op id step delete
  delete_more cached op id deletes.Checks delete h = (check_more cached id (WasAbove rows op id) (WasAbove after op id) (above_more op id) delete.check h.0, h.1)
  delete_more cached op id deletes.Removes delete h = (h.0, removal_more op id delete.removal.step delete.removal.request h.1)

  -- versions that are carried

  pub carried_more : (version : Cached) → Carried decode rows version → Carried decode after version
  carried_more version c =
      record {
        known = known_more version.id c.known;
        value = c.value;
        reads = c.reads;
        is = open_more version.id (bytes_at (versions_of rows) version.id ≡ Some version.bytes) (bytes_at (versions_of after) version.id ≡ Some version.bytes) (bytes_more version.id version.bytes) c.is;
      }

  window_more : (versions : List Cached) → WindowFits decode rows versions → WindowFits decode after versions
  window_more [] h = tt
  window_more (version ∷ versions) h = (carried_more version h.0, window_more versions h.1)

  pub caches_more : (caches : Caches) → CachesStand decode rows store caches → CachesStand decode after new caches
  caches_more caches h = record { latest = window_more caches.latest h.latest; boundary = known_fits_more caches.boundary h.boundary }

  -- reads

  knows_more : (found : Option ℕ) → KnowsFound rows found → KnowsFound after found
  knows_more found h n e = known_more n (h n e)

  listing_more : (found : Option ℕ) (request : Request) → ListingStands rows found request → ListingStands after found request
  listing_more found request h =
      record { after = h.after; limit = h.limit; room = h.room; asks = h.asks; reached = h.reached; begins = h.begins; passed = h.passed; known = knows_more found h.known }

  pub found_more : (op id : ℕ) → FoundStands rows op id → FoundStands after op id
  found_more op id h =
      record {
        version = h.version;
        moment = at_more op (λ front. (newest front ≡ id) × (numbered (versions_of front) id ≡ Some h.version)) h.moment;
        kept = version_more id h.version h.kept;
      }

  empty_more : (op : ℕ) → WasEmpty rows op → WasEmpty after op
  empty_more op h = at_more op (λ front. newest front ≡ 0) h

  chosen_more : (op : ℕ) (greatest : Option ℕ) → ChosenStands rows op greatest → ChosenStands after op greatest
  chosen_more op None h = empty_more op h
  chosen_more op (Some id) h = found_more op id h

  latest_more : (op : ℕ) (read : LatestOp T) → LatestStands decode rows op read → LatestStands decode after op read
  latest_more op latest.Looks h = h
  latest_more op (latest.Probes hand found next request) h = (carried_more hand h.0, h.1, h.2, h.3)
  latest_more op (latest.Finds successor found) h = carried_more successor h
  latest_more op (latest.Lists found request) h = listing_more found request h
  latest_more op (latest.Chooses greatest) h = chosen_more op greatest h
  latest_more op (latest.Gets id request) h = (found_more op id h.0, h.1)
  latest_more op (latest.Keeps version value) h = (found_more op version.id h.0, (carried_more version h.1.0, h.1.1))
  latest_more op (latest.Drops id) h = empty_more op h
  latest_more op latest.Ended h = h

  was_newest_more : (op id : ℕ) (value : T) → WasNewest decode rows op id value → WasNewest decode after op id value
  was_newest_more op id value h = at_more op (λ front. (newest front ≡ id) × IsEntry decode front id value) h

  read_more : (cached : Option CachedBoundary) (op : ℕ) (read : ReadOp T) → ReadStands decode rows store cached op read → ReadStands decode after new cached op read
  read_more cached op (reads.Reads latest boundary) h = (latest_more op latest h.0, h.1)
  read_more cached op (reads.Checks id value check) h = (known_more id h.0, check_more cached id (WasNewest decode rows op id value) (WasNewest decode after op id value) (was_newest_more op id value) check h.1)
  read_more cached op reads.Ended h = h

  seen_more : (call : PlainCall T) (read : ReadSeenOp T) → SeenStands decode rows call read → SeenStands decode after call read
  seen_more call (seen.Looks id) h = h
  seen_more call (seen.Gets id request) h = h
  seen_more call (seen.Keeps version value) h = (h.0, (carried_more version h.1.0, h.1.1))
  seen_more call seen.Ended h = h

  collecting_more : (from to : Bound ℕ) (ids : List ℕ) (request : Request) → CollectingStands rows from to ids request → CollectingStands after from to ids request
  collecting_more from to ids request h =
      record { after = h.after; limit = h.limit; room = h.room; asks = h.asks; reached = h.reached; begins = h.begins; known = let up = newest_up in omega (arith, h.known, up); ascending = h.ascending; there = h.there; whole = λ n above le e. h.whole n (let up = f.up in omega (arith, above, up)) le e }

  -- what is asked

  pub creates_more : (base : Option ℕ) (value : T) (version : Cached) → Creates decode get_epoch rows base value version → Creates decode get_epoch after base value version
  creates_more base value version h =
      let same : epoch_at decode get_epoch after (number_of base) ≡ epoch_at decode get_epoch rows (number_of base) = subst (λ (rs : List (PlainRow T)). epoch_at decode get_epoch rs (number_of base) ≡ epoch_at decode get_epoch rows (number_of base)) (sym f.is) (epoch_kept decode get_epoch rows f.more (number_of base) h.known) in
      record {
        next = h.next;
        fits = h.fits;
        base_is = h.base_is;
        known = let up = newest_up in omega (arith, h.known, up);
        reads = h.reads;
        keeps = let keeps = h.keeps in omega (arith, same, keeps);
      }

  pub asks_more : (op : ℕ) (request : Request) → Asks decode get_epoch rows store op request → Asks decode get_epoch after new op request
  asks_more op request (inl h) = inl (record { base = h.base; value = h.value; version = h.version; call = h.call; called = call_more op h.call h.called; call_is = h.call_is; asks = h.asks; creates = creates_more h.base h.value h.version h.creates })
  asks_more op request (inr (inl h)) = inr (inl (record { to = h.to; called = call_more op (calls.Advance h.to) h.called; room = room_more h.to h.room; put = put_more h.to request h.put }))
  asks_more op request (inr (inr (inl h))) = inr (inr (inl (record { id = h.id; called = call_more op (calls.Delete h.id) h.called; asks = h.asks; below = let up = f.up in omega (arith, h.below, up) })))
  asks_more op request (inr (inr (inr h))) = inr (inr (inr h))

  module _ (op : ℕ) (others : AreOthers op f.more) where
    -- writes

    none_more : has_effect rows op ≡ false → has_effect after op ≡ false
    none_more h = subst (λ (rs : List (PlainRow T)). has_effect rs op ≡ false) (sym f.is) (any_none (affects op) rows f.more h (no_effects op f.more others))

    only_more : (id : ℕ) → Only rows op id → Only after op id
    only_more id h k request version e creates =
        elim (get_split rows f.more k (Effect op request) (subst (λ (rs : List (PlainRow T)). slice_get rs k ≡ Some (Effect op request)) f.is e)) [
          | inl there ↦ h k request version there creates
          | inr new' ↦ absurd (not_own op f.more new'.0 request others new'.1)
        ]

    entered_more : (id : ℕ) (value : T) → Entered decode rows op id value → Entered decode after op id value
    entered_more id value h = subst (λ (rs : List (PlainRow T)). Entered decode rs op id value) (sym f.is) (entered_kept decode rows f.more op id value h)

    putting_more : (call : PlainCall T) (id : ℕ) (version : Cached) (request : Request) → PuttingStands decode get_epoch rows op call id version request → PuttingStands decode get_epoch after op call id version request
    putting_more call id version request h =
        record { base = h.base; value = h.value; call_is = h.call_is; id_is = h.id_is; asks = h.asks; creates = creates_more h.base h.value version h.creates; none = none_more h.none }

    created_more : (call : PlainCall T) (id : ℕ) (version : Cached) → CreatedStands decode get_epoch rows op call id version → CreatedStands decode get_epoch after op call id version
    created_more call id version h =
        record {
          base = h.base;
          value = h.value;
          call_is = h.call_is;
          id_is = h.id_is;
          next = h.next;
          carried = carried_more version h.carried;
          reads = h.reads;
          only = only_more version.id h.only;
          made = subst (λ (rs : List (PlainRow T)). Created rs op version.id) (sym f.is) (created_kept rows f.more op version.id h.made);
          own = open_more version.id (Entered decode rows op version.id h.value) (Entered decode after op version.id h.value) (entered_more version.id h.value) h.own;
        }

    unchecked_more : (call : PlainCall T) (id : ℕ) (write : WriteUncheckedOp) → UncheckedStands decode get_epoch rows op call id write → UncheckedStands decode get_epoch after op call id write
    unchecked_more call id (unchecked.Puts version request) h = putting_more call id version request h
    unchecked_more call id (unchecked.Keeps version) h = created_more call id version h
    unchecked_more call id unchecked.Ended h = h

    written_more : (cached : Option CachedBoundary) (call : PlainCall T) (write : WriteOp) → WrittenStands decode get_epoch rows store cached op call write → WrittenStands decode get_epoch after new cached op call write
    written_more cached call write h =
        record {
          base = h.base;
          value = h.value;
          call_is = h.call_is;
          next = h.next;
          known = let up = newest_up in omega (arith, h.known, up);
          only = only_more write.id h.only;
          checks = check_more cached write.id (Entered decode rows op write.id h.value) (Entered decode after op write.id h.value) (entered_more write.id h.value) write.check h.checks;
        }

    write_more : (cached : Option CachedBoundary) (call : PlainCall T) (step : WriteStep) (write : WriteOp) → WriteStands decode get_epoch rows store cached op call step write → WriteStands decode get_epoch after new cached op call step write
    write_more cached call writes.Writes write h = (unchecked_more call write.id write.write h.0, h.1, h.2, h.3, h.4)
    write_more cached call writes.Checks write h = written_more cached call write h

    -- operations

    pub doing_more : (cached : Option CachedBoundary) (call : PlainCall T) (doing : PlainDoing T) → DoingStands decode get_epoch rows store cached op call doing → DoingStands decode get_epoch after new cached op call doing
    doing_more cached call (Write write) h = write_more cached call write.step write h
    doing_more cached call (WriteUnchecked write) h = ((h.0.0, unchecked_more call h.0.0 write h.0.1), h.1, h.2, h.3)
    doing_more cached call (Read read) h = (h.0, read_more cached op read h.1)
    doing_more cached call (ReadUnchecked read) h = h
    doing_more cached call (ReadSeen read) h = seen_more call read h
    doing_more cached call (ListIds list) h = (h.0, collecting_more list.from list.to (ids_of list.found) list.request h.1)
    doing_more cached call (Delete delete) h = (h.0, h.1, delete_more cached op h.0 delete.step delete h.2)
    doing_more cached call (Check check) h = (h.0, h.1, check_more cached h.0 (WasAbove rows op h.0) (WasAbove after op h.0) (above_more op h.0) check h.2)
    doing_more cached call (Advance advance) h = advance_more cached call advance h
    doing_more cached call Ended h = h

    pub runs_more : (call : PlainCall T) → Runs decode get_epoch rows op call → Runs decode get_epoch after op call
    runs_more call r =
        record {
          called = call_more op call r.called;
          begun = begun_more op r.begun;
          running = subst (λ (rs : List (PlainRow T)). was_answered rs op ≡ false) (sym f.is) (any_none (ends op) rows f.more r.running (no_ends op f.more others));
        }

    run_more : (cached : Option CachedBoundary) (call : PlainCall T) (doing : PlainDoing T) → RunStands decode get_epoch rows store cached op call doing → RunStands decode get_epoch after new cached op call doing
    run_more cached call doing h = record { runs = runs_more call h.runs; range = h.range; stands = doing_more cached call doing h.stands }

    pub op_more : (cached : Option CachedBoundary) (doing : PlainDoing T) → OpStands decode get_epoch rows store cached op doing → OpStands decode get_epoch after new cached op doing
    op_more cached doing h = op_on decode get_epoch op rows after store new cached cached doing (λ call r. run_more cached call doing r) (begun_more op) h

    pub zero_more : was_begun rows op ≡ false → was_begun after op ≡ false
    zero_more h = subst (λ (rs : List (PlainRow T)). was_begun rs op ≡ false) (sym f.is) (any_none (begins op) rows f.more h (no_begins op f.more others))

    pub fresh_more : Fresh decode get_epoch rows op → Fresh decode get_epoch after op
    fresh_more h =
        record {
          begun = zero_more h.begun;
          answered = subst (λ (rs : List (PlainRow T)). was_answered rs op ≡ false) (sym f.is) (any_none (ends op) rows f.more h.answered (no_ends op f.more others));
          none = none_more h.none;
        }
