-- What is left after a cut of power is what an honest store has after the changes that were saved.
use Rattle.std.proofs.Common.{◌≡◌, ℕ, ◌^◌, ◌<◌, ◌≤◌, Bool, true, false, Option, Some, None, refl, ap, sym, subst, ◌∙◌, arith, inr}
use Rattle.std.specs.Prelude.{nat_lt}
use Rattle.std.specs.Option.{option_map}
use Rattle.std.specs.FinMap.{get}
use Rattle.std.proofs.lemmas.Bool.{ltb-true, ltb-false}
use Rattle.std.proofs.lemmas.Option.{same_Some}
use Rattle.txn_store.specs.Paths.{Segments, is_below}
use Rattle.txn_store.specs.VersionName.{Names}
use Rattle.txn_store.specs.declared.store.Got.{Got}
use Rattle.txn_store.specs.declared.request.Reply.{Reply}
use Rattle.txn_folder.specs.steps.Folders.{Place, Version, Boundary, File}
use Rattle.txn_folder.specs.steps.Steps.{Is, got_at}
use Rattle.txn_folder.specs.steps.Listing.{ListSees}
use Rattle.txn_folder_model.specs.Worlds.{World, Event, IsPlace, world}
use Rattle.txn_folder_model.specs.Listings.{Listing, listing_row}
use Rattle.txn_folder_model.specs.Linear.{Point, AreRuns, AllComeInOrder, IsApart, IsElsewhere, IsDone, path_of, request_of, log_until}
use Rattle.txn_folder_model.specs.Power.{AfterCut, Syncs, SyncsNames, IsLeft, IsOfStore, IsListed, name_at}
use Rattle.txn_client_journals.specs.Logs.{IsLog}
use Rattle.txn_folder_model.proofs.Ghosts.{Ghost, ReadsSo, store_of, ghost_at}
use Rattle.txn_folder_model.proofs.Facts.{bound}
use Rattle.txn_folder_model.proofs.Honest.{honest}
use Rattle.txn_folder_model.proofs.Theorem.{Allowed, all_holds}
use Rattle.txn_folder_model.proofs.Pages.{IsOf, of_places, right_in}
use Rattle.txn_folder_model.proofs.Runs.{SyncedMoment, synced_moment}
use Rattle.txn_folder_model.proofs.Power.{file_since, left_whole}
use Rattle.txn_folder_model.proofs.Saved as saved_store
use Rattle.txn_folder_model.proofs.SavedPoints as saved_points
use Rattle.txn_folder_model.proofs.SavedRight.{right_at}

module _ (names : Names) (boundary : Segments) (floor : ℕ) (events : ℕ → Event) (apart : IsApart names boundary) (may : Allowed floor events) (elsewhere : IsElsewhere names boundary) (ops : ℕ → ℕ) (syncs : Syncs) (n : ℕ) (room : n < 2 ^ 64) (left : AfterCut) (is : IsLeft floor events syncs n left) where
  abbrev g : ℕ → Ghost
  g s = ghost_at names boundary floor events s

  abbrev w : World
  w = world floor events n

  abbrev cut_at : Place → ℕ
  cut_at p = (is.names p).at

  abbrev late_at : (p : Place) (s : ℕ) → s < n → SyncsNames floor events syncs s p → s ≤ cut_at p
  late_at p s = (is.names p).since s

  abbrev saved : ℕ → Ghost
  saved s = saved_store.saved names boundary floor events cut_at s

  abbrev its_points : ℕ → Option Point
  its_points c = saved_points.points names boundary floor events apart may cut_at syncs n room late_at c

  -- what holds of the points of what was saved or read
  abbrev each_at : (P : ℕ → Point → Type 0) → saved_points.OfWrites names boundary floor events apart may cut_at syncs n room late_at P → saved_points.OfReads names boundary floor events apart may cut_at syncs n room late_at P → (c : ℕ) (p : Point) → c < w.count → its_points c ≡ Some p → P c p
  each_at P own read = saved_points.each names boundary floor events apart may cut_at syncs n room late_at P own read

  stands_by : (p : Place) (o : Option ℕ) → name_at floor events (cut_at p) p ≡ o → left.names p ≡ o → option_map (λ file. got_at p ((world floor events (cut_at p)).folder.files file)) o ≡ option_map (λ file. got_at p (left.files file)) o
  stands_by p None there named = refl
  stands_by p (Some file) there named = ap (λ (f : File). Some (got_at p f)) (sym (file_since floor events syncs p file (cut_at p) n (is.names p).past there) ∙ sym (left_whole floor events syncs n file left p is named).stood)

  stands : (p : Place) → IsPlace p → get (saved n).files (path_of names boundary p) ≡ option_map (λ file. got_at p (left.files file)) (left.names p)
  stands p fits =
      let name = is.names p in
      let past = name.past in
      saved_store.after names boundary floor events cut_at apart may p fits n room past
      ∙ (all_holds names boundary floor events apart may (cut_at p) (omega (arith, past, room))).shown p fits
      ∙ stands_by p (name_at floor events (cut_at p) p) refl name.is
      ∙ ap (option_map (λ file. got_at p (left.files file))) (sym name.is)

  -- at a moment before a sync of the versions' folder the same versions stood
  module _ (s : ℕ) (few : s < 2 ^ 64) (low : (id : ℕ) → s ≤ cut_at (Version id)) where
    same_there : (q : Segments) → is_below names.dir q ≡ true → IsOf names boundary q → get (saved s).files q ≡ get (g s).files q
    same_there q below (Version id, fits, at) = subst (λ (p : Segments). get (saved s).files p ≡ get (g s).files p) (sym at) (saved_store.before names boundary floor events cut_at apart may (Version id) fits s few (low id))
    same_there q below (Boundary, fits, at) = absurd (let clash : true ≡ false = sym below ∙ ap (is_below names.dir) at ∙ elsewhere in cc)

    same_none : (q : Segments) → is_below names.dir q ≡ true → get (saved s).files q ≡ None → (o : Option Got) → get (g s).files q ≡ o → get (saved s).files q ≡ get (g s).files q
    same_none q below none None there = none ∙ sym there
    same_none q below none (Some got) there = same_there q below (of_places names boundary floor events apart elsewhere may s few q got there)

    same_by : (q : Segments) → is_below names.dir q ≡ true → (o : Option Got) → get (saved s).files q ≡ o → get (saved s).files q ≡ get (g s).files q
    same_by q below (Some got) has = same_there q below (saved_store.saved_of names boundary floor events cut_at apart may s few q got has)
    same_by q below None has = same_none q below has (get (g s).files q) refl

    same_below : (q : Segments) → is_below names.dir q ≡ true → get (saved s).files q ≡ get (g s).files q
    same_below q below = same_by q below (get (saved s).files q) refl

  -- listings that synced
  module _ (listings : ℕ → Listing) (many : ℕ) (runs_so : AreRuns names n (world floor events) listings many) (in_order : AllComeInOrder (world floor events) listings many) (listed : (j : ℕ) (low : j < many) → IsListed floor events syncs names (listings j) (Is ListSees) (runs_so j low).0.steps) where
    its_listing : (j : ℕ) → j < many → SyncedMoment names boundary floor events apart elsewhere may syncs (listings j)
    its_listing j low = let high = (runs_so j low).1 in synced_moment names boundary floor events apart elsewhere may syncs (listings j) (runs_so j low).0 (in_order j low) (omega (arith, high, room)) (listed j low)

    moment_by : (j : ℕ) (b : Bool) → nat_lt j many ≡ b → ℕ
    moment_by j true at = (its_listing j (ltb-true j many at)).of.moment
    moment_by j false at = 0

    moments : ℕ → ℕ
    moments j = moment_by j (nat_lt j many) refl

    abbrev ListsAt : ℕ → ℕ → Type 0
    ListsAt j m = ((listings j).began ≤ m) × (m ≤ (listings j).ended) × (m < n) × ReadsSo (saved m) (listing_row names (listings j)).request (listing_row names (listings j)).reply

    right_moment : (j : ℕ) (low : j < many) → ListsAt j (its_listing j low).of.moment
    right_moment j low =
        let its = its_listing j low in
        let of = its.of in
        let high = (runs_so j low).1 in
        let until = of.until in
        let before_sync = its.before in
        let past = its.past in
        let moment_low : (id : ℕ) → of.moment ≤ cut_at (Version id) = λ id. (let most = late_at (Version id) its.sync (omega (arith, past, high)) (inr (its.listed, refl)) in omega (arith, most, before_sync)) in
        (of.since, until, omega (arith, until, high), right_in names boundary floor events apart elsewhere may (listings j) of (omega (arith, high, room)) (saved of.moment) (same_below of.moment (omega (arith, until, high, room)) moment_low))

    moment_right : (j : ℕ) (b : Bool) (at : nat_lt j many ≡ b) → j < many → ListsAt j (moment_by j b at)
    unfolding moment_by
    moment_right j true at low = right_moment j (ltb-true j many at)
    moment_right j false at low = absurd (let most = ltb-false j many at in omega (arith, low, most))

    moments_right : (j : ℕ) → j < many → ListsAt j (moments j)
    unfolding moments
    moments_right j low = moment_right j (nat_lt j many) refl low

    log : (count : ℕ) × IsLog (log_until names boundary ops w.calls its_points w.count (λ j. listing_row names (listings j)) moments many n) (store_of (saved n) count)
    log = honest names boundary w.calls its_points w.count saved ops (λ j. listing_row names (listings j)) moments many n (0, refl) (λ s before. right_at names boundary floor events apart may cut_at syncs n room late_at s before)
        (λ s before j low at. subst (λ (m : ℕ). ReadsSo (saved m) (listing_row names (listings j)).request (listing_row names (listings j)).reply) at (moments_right j low).3)

    pub of_store : IsOfStore floor events syncs names boundary ops listings many n left
    of_store = record {
      points = its_points;
      begun = each_at (λ c p. (w.calls c).began ≤ p.at) (λ c reply so kept same. so.since) (λ c reply r. r.since);
      past = each_at (λ c p. p.at < n) (λ c reply so kept same. so.past) (λ c reply r. r.past);
      ended = λ c p end low has ends. each_at (λ d q. (last : ℕ) → (w.calls d).ended ≡ Some last → q.at ≤ last) (λ d reply so kept same last ends. let within : so.at < bound n (Some last) = subst (λ (o : Option ℕ). so.at < bound n o) ends so.within in omega (arith, within)) (λ d reply r. r.until) c p low has end ends;
      replied = λ c p reply low has told. each_at (λ d q. (reply : Reply) → (w.calls d).answer ≡ Some reply → q.reply ≡ reply) (λ d other so kept same. same) (λ d other r reply told. same_Some other reply (sym r.told ∙ told)) c p low has reply told;
      unanswered = λ c p low has silent. each_at (λ d q. (w.calls d).answer ≡ None → IsDone (request_of names boundary (w.calls d).work) q.reply) (λ d reply so kept same none. saved_points.done_of names boundary floor events apart may cut_at syncs n room late_at d reply so) (λ d reply r none. absurd (let clash : None ≡ Some reply = sym none ∙ r.told in cc)) c p low has silent;
      answered = saved_points.answered names boundary floor events apart may cut_at syncs n room late_at;
      told = saved_points.found names boundary floor events apart may cut_at syncs n room late_at;
      moments = moments;
      listed = λ j low. (let its = moments_right j low in (its.0, its.1, its.2));
      store = store_of (saved n) log.0;
      honest = log.1;
      stands = stands;
    }
