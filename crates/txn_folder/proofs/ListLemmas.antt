-- Listings, one step on.
use Rattle.std.proofs.Common.{◌≡◌, ℕ, zero, suc, ◌<◌, ◌≤◌, Bool, true, false, List, [], ◌∷◌, ◌++◌, length, take, drop, map, Option, Some, None, unwrap_or, Result, Ok, Err, IfOk, refl, ap, sym, subst, ◌∙◌, arith, append_assoc, take-append-drop}
use Rattle.std.specs.Prelude.{nat_lt}
use Rattle.std.proofs.lemmas.Bool.{ltb-true}
use Rattle.std.proofs.lemmas.List.{map_push, length-take-le}
use Rattle.txn_store.specs.Paths.{Segments}
use Rattle.txn_store.specs.VersionName.{Names, version_path}
use Rattle.txn_store.specs.declared.page.Page.{Page}
use Rattle.txn_store.specs.declared.store.ObjectMeta.{ObjectMeta}
use Rattle.txn_store.specs.declared.request.Reply.TheVariants as replies
use Rattle.txn_folder.specs.steps.Scans.{beyond, settled_run}
use Rattle.txn_folder.specs.steps.Steps.{Verdict, Tells, Fails, Phase, Is, Ends}
use Rattle.txn_folder.specs.steps.Listing as listing
use Rattle.txn_folder.specs.steps.Listing.{Scanning, Once, Twice, Thrice, Scanned, Goes, Settles, Paging, ListSees, ListShares, ListScans, ListLooks, ListFrees, ListSyncs, last_of, twice_turned, thrice_turned, scan_turned, looks_up, scanned, meta_told, list_turned, page_ok}
use Rattle.txn_folder.specs.steps.Runs.{ComesTo}
use Rattle.txn_folder.specs.steps.Paging.{list_told_as, list_asks, list_next_as, list_verdict, paging_as}
use Rattle.txn_folder.specs.declared.steps.list.ListEnd.{ListEnd}
use Rattle.txn_folder.specs.declared.steps.list.ListNext.{ListNext}
use Rattle.txn_folder.specs.declared.steps.list.ListNext.TheVariants as nexts
use Rattle.txn_folder.proofs.steps.Runs.{comes_on}
use Rattle.txn_folder.specs.declared.steps.list.ListAsk.{ListAsk}
use Rattle.txn_folder.specs.declared.steps.list.ListAsk.TheVariants as asks
use Rattle.txn_folder.specs.declared.steps.list.ListTold.{ListTold}
use Rattle.txn_folder.specs.declared.steps.list.ListTold.TheVariants as told
use Rattle.txn_folder.specs.declared.steps.list.ListStep.{ListStep}
use Rattle.txn_folder.specs.declared.steps.list.ListStep.TheVariants as lists
use Rattle.txn_folder.proofs.steps.Scanning.{settled_so}
use Rattle.txn_folder.specs.Pages.{AscendAbove, location_of, locations, IsPageAfter}
use Rattle.txn_folder.specs.Files.{ObjectFiles}
use Rattle.txn_folder.specs.Listings.{IsKnownAfter, IsLastingKept, IsNewest, IsShownAbove, IsToldLast, WasSeen, seen_after, newest_id}
use Rattle.txn_folder.specs.declared.lasting.Lasting.{Lasting}
use Rattle.txn_folder.specs.declared.lists.Newest.{Newest}
use Rattle.txn_folder.proofs.PageLemmas.{front, settled_ascend, none_ascend}

-- What a search keeps ascends above what it goes on after.

abbrev pub Up : Option ℕ → Scanning → Type 0
Up after Once = Unit {0}
Up after (Twice first) = AscendAbove after first
Up after (Thrice first second) = AscendAbove after first × AscendAbove after second

abbrev pub UpOn : Option ℕ → Scanned → Type 0
UpOn after (Goes scanning) = Up after scanning
UpOn after (Settles ids) = AscendAbove after ids

twice_up : (after : Option ℕ) (first second : List ℕ) (o : Option (List ℕ)) → AscendAbove after first → AscendAbove after second → UpOn after (twice_turned first second o)
twice_up after first second None x y = y
twice_up after first second (Some []) x y = y
twice_up after first second (Some (id ∷ ids)) x y = (x, y)

thrice_up : (after : Option ℕ) (last : ℕ) (first second third : List ℕ) (o : Option (List ℕ)) → settled_run last first second third ≡ o → AscendAbove after second → AscendAbove after third → UpOn after (thrice_turned first third o)
thrice_up after last first second third None is y z = z
thrice_up after last first second third (Some run) is y z = settled_ascend after last first second third run y (settled_so last first second third run is)

pub scan_up : (after : Option ℕ) (low : ℕ) (scanning : Scanning) (ids : List ℕ) → Up after scanning → AscendAbove after ids → UpOn after (scan_turned low scanning ids)
scan_up after low Once ids up more = more
scan_up after low (Twice first) ids up more = twice_up after first ids (beyond (last_of low first) first ids) up more
scan_up after low (Thrice first second) ids up more = thrice_up after (last_of low first) first second ids (settled_run (last_of low first) first second ids) refl up.1 more

-- the last version that is told, by its id
abbrev pub IsLast : Names → List ObjectMeta → Option ℕ → Type 0
IsLast names metas None = locations metas ≡ []
IsLast names metas (Some id) = (older : List Segments) × (locations metas ≡ older ++ version_path names id ∷ [])

pub last_newest : (names : Names) (metas : List ObjectMeta) (newest : Option Newest) → IsLast names metas (newest_id newest) → IsNewest names metas newest
last_newest names metas None is = is
last_newest names metas (Some newest) is = is

no_more : (limit : ℕ) (ids : List ℕ) → take limit ids ≡ [] → limit < length ids → 0 ≡ limit
no_more zero ids none less = refl
no_more (suc limit) [] none less = absurd (omega (arith, less))
no_more (suc limit) (id ∷ ids) none less = absurd (cc)

length_take : (n : ℕ) (xs : List ℕ) → length (take n xs) ≤ n
length_take zero xs = omega arith
length_take (suc n) [] = omega arith
length_take (suc n) (x ∷ xs) = let more = length_take n xs in omega (arith, more)

module _ (names : Names) (after : Option ℕ) (limit : ℕ) where
  -- the versions so far are told, and they ascend with those that are still to be looked up, up to the limit
  pub record IsLooking (id : ℕ) (ids : List ℕ) (metas : List ObjectMeta) (more : Bool) : Type 0 where
    pub done : List ℕ
    pub told : locations metas ≡ map (version_path names) done
    pub up : AscendAbove after (done ++ id ∷ ids)
    pub few : length (done ++ id ∷ ids) ≤ limit
    pub full : more ≡ true → length (done ++ id ∷ ids) ≡ limit

  abbrev pub IsEnd : Verdict → Option ℕ → Type 0
  IsEnd (Tells (replies.List (Ok page))) newest = IsPageAfter names after limit page × IsLast names page.metas newest
  IsEnd verdict newest = Unit {0}

  -- what holds of a listing, with the newest version that it has seen
  abbrev pub IsPart : Paging → Option ℕ → Type 0
  IsPart ListSees newest = newest ≡ None
  IsPart ListShares newest = newest ≡ None
  IsPart (ListScans scanning) newest = Up after scanning × (newest ≡ None)
  IsPart (ListLooks id ids metas more) newest = IsLooking id ids metas more × IsLast names metas newest
  IsPart (ListFrees verdict) newest = IsEnd verdict newest
  IsPart (ListSyncs verdict) newest = IsEnd verdict newest

  abbrev pub IsNext : Phase Paging → Option ℕ → Type 0
  IsNext (Is state) newest = IsPart state newest
  IsNext (Ends verdict) newest = IsEnd verdict newest

  first_part : (ids front_ids : List ℕ) → take limit ids ≡ front_ids → AscendAbove after ids → IsPart (looks_up front_ids [] (nat_lt limit (length ids))) None
  first_part ids [] is up = (
    record {
      ids = [];
      versions = refl;
      ascend = none_ascend after;
      few = omega arith;
      full = λ more. no_more limit ids is (ltb-true limit (length ids) more);
    },
    refl,
  )
  first_part ids (id ∷ rest) is up =
      let small = length_take limit ids in
      let long : length (take limit ids) ≡ length (id ∷ rest) = ap length is in (
        record {
          done = [];
          told = refl;
          up = subst (AscendAbove after) is (front after (take limit ids) (drop limit ids) (subst (AscendAbove after) (sym (take-append-drop limit ids)) up));
          few = omega (arith, small, long);
          full = λ more. let less = ltb-true limit (length ids) more in sym long ∙ length-take-le limit ids (omega (arith, less));
        },
        refl,
      )

  scanned_part : (s : Scanned) → UpOn after s → IsPart (scanned limit s) None
  scanned_part (Goes scanning) up = (up, refl)
  scanned_part (Settles ids) up = first_part ids (take limit ids) refl up

  shift : (done : List ℕ) (id : ℕ) (ids : List ℕ) → (done ++ id ∷ []) ++ ids ≡ done ++ id ∷ ids
  shift done id ids = append_assoc done (id ∷ []) ids

  more_told : (id size time : ℕ) (metas : List ObjectMeta) (done : List ℕ) → locations metas ≡ map (version_path names) done → locations (metas ++ meta_told names id size time ∷ []) ≡ map (version_path names) (done ++ id ∷ [])
  more_told id size time metas done so_far = map_push location_of metas (meta_told names id size time) ∙ ap (λ (told : List Segments). told ++ version_path names id ∷ []) so_far ∙ sym (map_push (version_path names) done id)

  more_part : (id : ℕ) (ids : List ℕ) (metas : List ObjectMeta) (more : Bool) (size time : ℕ) → IsLooking id ids metas more → IsPart (looks_up ids (metas ++ meta_told names id size time ∷ []) more) (Some id)
  more_part id [] metas more size time l = (
    record {
      ids = l.done ++ id ∷ [];
      versions = more_told id size time metas l.done l.told;
      ascend = l.up;
      few = l.few;
      full = l.full;
    },
    (locations metas, map_push location_of metas (meta_told names id size time)),
  )
  more_part id (next ∷ ids) metas more size time l = (
    record {
      done = l.done ++ id ∷ [];
      told = more_told id size time metas l.done l.told;
      up = subst (AscendAbove after) (sym (shift l.done id (next ∷ ids))) l.up;
      few = subst (λ (xs : List ℕ). length xs ≤ limit) (sym (shift l.done id (next ∷ ids))) l.few;
      full = λ yes. ap length (shift l.done id (next ∷ ids)) ∙ l.full yes;
    },
    (locations metas, map_push location_of metas (meta_told names id size time)),
  )

  abbrev IsUp : listing.ListTold → Type 0
  IsUp (listing.Shown ids) = AscendAbove after ids
  IsUp told = Unit {0}

  -- the newest version that was seen, by the states of the definitions
  abbrev seen_in : Paging → listing.ListTold → Option ℕ → Option ℕ
  seen_in (ListLooks id ids metas more) (listing.Holds size time) old = Some id
  seen_in (ListLooks id ids metas more) told old = None
  seen_in (ListSyncs verdict) listing.Done old = old
  seen_in (ListSyncs verdict) told old = None
  seen_in state told old = old

  page_then : (newest : Option ℕ) → newest ≡ None → IsEnd (page_ok [] false) newest
  page_then newest is = (
    record { ids = []; versions = refl; ascend = none_ascend after; few = omega arith; full = λ more. absurd (cc) },
    subst (IsLast names []) (sym is) refl,
  )

  freed_part : (verdict : Verdict) (newest : Option ℕ) → IsEnd verdict newest → IsNext (listing.freed verdict) newest
  freed_part (Tells reply) newest end = end
  freed_part Fails newest end = tt

  turned_part : (state : Paging) (told : listing.ListTold) (old : Option ℕ) → IsPart state old → IsUp told → IsNext (list_turned names after limit state told) (seen_in state told old)
  turned_part ListSees listing.Done old part up = part
  turned_part ListSees listing.Missing old part up = page_then old part
  turned_part ListSees (listing.Shown ids) old part up = tt
  turned_part ListSees (listing.Holds size time) old part up = tt
  turned_part ListSees listing.Error old part up = tt
  turned_part ListShares listing.Done old part up = (tt, part)
  turned_part ListShares listing.Missing old part up = tt
  turned_part ListShares (listing.Shown ids) old part up = tt
  turned_part ListShares (listing.Holds size time) old part up = tt
  turned_part ListShares listing.Error old part up = tt
  turned_part (ListScans scanning) listing.Done old part up = tt
  turned_part (ListScans scanning) listing.Missing old part up = tt
  turned_part (ListScans scanning) (listing.Shown ids) old part up = subst (IsPart (scanned limit (scan_turned (unwrap_or after 0) scanning ids))) (sym part.1) (scanned_part (scan_turned (unwrap_or after 0) scanning ids) (scan_up after (unwrap_or after 0) scanning ids part.0 up))
  turned_part (ListScans scanning) (listing.Holds size time) old part up = tt
  turned_part (ListScans scanning) listing.Error old part up = tt
  turned_part (ListLooks id ids metas more) listing.Done old part up = tt
  turned_part (ListLooks id ids metas more) listing.Missing old part up = (tt, refl)
  turned_part (ListLooks id ids metas more) (listing.Shown others) old part up = tt
  turned_part (ListLooks id ids metas more) (listing.Holds size time) old part up = more_part id ids metas more size time part.0
  turned_part (ListLooks id ids metas more) listing.Error old part up = tt
  turned_part (ListFrees verdict) told old part up = freed_part verdict old part
  turned_part (ListSyncs verdict) listing.Done old part up = part
  turned_part (ListSyncs verdict) listing.Missing old part up = tt
  turned_part (ListSyncs verdict) (listing.Shown ids) old part up = tt
  turned_part (ListSyncs verdict) (listing.Holds size time) old part up = tt
  turned_part (ListSyncs verdict) listing.Error old part up = tt

  ascend_as : (ask : ListAsk) (answer : ListTold) → IsShownAbove after answer → IsUp (list_told_as ask answer)
  ascend_as asks.Folder told.Done up = tt
  ascend_as asks.Folder told.Missing up = tt
  ascend_as asks.Folder (told.Shown v) up = tt
  ascend_as asks.Folder (told.Holds size time) up = tt
  ascend_as asks.Folder told.Error up = tt
  ascend_as asks.Share told.Done up = tt
  ascend_as asks.Share told.Missing up = tt
  ascend_as asks.Share (told.Shown v) up = tt
  ascend_as asks.Share (told.Holds size time) up = tt
  ascend_as asks.Share told.Error up = tt
  ascend_as asks.Scan told.Done up = tt
  ascend_as asks.Scan told.Missing up = tt
  ascend_as asks.Scan (told.Shown v) up = up
  ascend_as asks.Scan (told.Holds size time) up = tt
  ascend_as asks.Scan told.Error up = tt
  ascend_as (asks.Look i) told.Done up = tt
  ascend_as (asks.Look i) told.Missing up = tt
  ascend_as (asks.Look i) (told.Shown v) up = tt
  ascend_as (asks.Look i) (told.Holds size time) up = tt
  ascend_as (asks.Look i) told.Error up = tt
  ascend_as asks.Let told.Done up = tt
  ascend_as asks.Let told.Missing up = tt
  ascend_as asks.Let (told.Shown v) up = tt
  ascend_as asks.Let (told.Holds size time) up = tt
  ascend_as asks.Let told.Error up = tt
  ascend_as asks.Sync told.Done up = tt
  ascend_as asks.Sync told.Missing up = tt
  ascend_as asks.Sync (told.Shown v) up = tt
  ascend_as asks.Sync (told.Holds size time) up = tt
  ascend_as asks.Sync told.Error up = tt

  seen_so : (step : ListStep) (answer : ListTold) (old : Option ℕ) → seen_after (list_asks step) answer old ≡ seen_in (paging_as step) (list_told_as (list_asks step) answer) old
  seen_so lists.Sees answer old = refl
  seen_so lists.Shares answer old = refl
  seen_so (lists.Scans scanning) answer old = refl
  seen_so (lists.Looks i rest metas more) told.Done old = refl
  seen_so (lists.Looks i rest metas more) told.Missing old = refl
  seen_so (lists.Looks i rest metas more) (told.Shown v) old = refl
  seen_so (lists.Looks i rest metas more) (told.Holds size time) old = refl
  seen_so (lists.Looks i rest metas more) told.Error old = refl
  seen_so (lists.Frees end) answer old = refl
  seen_so (lists.Syncs end) told.Done old = refl
  seen_so (lists.Syncs end) told.Missing old = refl
  seen_so (lists.Syncs end) (told.Shown v) old = refl
  seen_so (lists.Syncs end) (told.Holds size time) old = refl
  seen_so (lists.Syncs end) told.Error old = refl

  -- of the code's steps
  pub step_part : (step : ListStep) (answer : ListTold) (old new : Option ℕ) (next : Phase Paging) → IsPart (paging_as step) old → IsShownAbove after answer → new ≡ seen_after (list_asks step) answer old → next ≡ list_turned names after limit (paging_as step) (list_told_as (list_asks step) answer) → IsNext next new
  step_part step answer old new next part up seen leads =
      subst (λ (n : Option ℕ). IsNext next n) (sym (seen ∙ seen_so step answer old))
      (subst (λ (p : Phase Paging). IsNext p (seen_in (paging_as step) (list_told_as (list_asks step) answer) old)) (sym leads)
      (turned_part (paging_as step) (list_told_as (list_asks step) answer) old part (ascend_as (list_asks step) answer up)))

  -- what is told is a page, with its newest version
  pub end_told : (verdict : Verdict) (newest : Option ℕ) (page : Page) → verdict ≡ page_ok page.metas page.more → IsEnd verdict newest → IsPageAfter names after limit page × IsLast names page.metas newest
  end_told verdict newest page is end = subst (λ (v : Verdict). IsEnd v newest) is end

module _ (names : Names) (after : Option ℕ) (limit : ℕ) (o : ObjectFiles) (l : Lasting) (syncs : Bool) where
  abbrev turned : ListStep → ListTold → Phase Paging
  turned step answer = list_turned names after limit (paging_as step) (list_told_as (list_asks step) answer)

  -- while a listing goes on its newest version was seen
  pub goes_seen : (step : ListStep) (answer : ListTold) (state : Paging) (newest : Option Newest) → Is state ≡ turned step answer → IsKnownAfter o l syncs (list_asks step) answer newest → WasSeen o newest
  goes_seen lists.Sees answer state newest leads known = known
  goes_seen lists.Shares answer state newest leads known = known
  goes_seen (lists.Scans scanning) answer state newest leads known = known
  goes_seen (lists.Looks i rest metas more) answer state newest leads known = known
  goes_seen (lists.Frees end) answer state newest leads known = known
  goes_seen (lists.Syncs end) told.Done state newest leads known = absurd (cc)
  goes_seen (lists.Syncs end) told.Missing state newest leads known = absurd (cc)
  goes_seen (lists.Syncs end) (told.Shown v) state newest leads known = absurd (cc)
  goes_seen (lists.Syncs end) (told.Holds size time) state newest leads known = absurd (cc)
  goes_seen (lists.Syncs end) told.Error state newest leads known = absurd (cc)

  pub goes_lasting : (step : ListStep) (answer : ListTold) (state : Paging) (new : Lasting) → Is state ≡ turned step answer → IsLastingKept (list_asks step) l new → new ≡ l
  goes_lasting lists.Sees answer state new leads kept = kept
  goes_lasting lists.Shares answer state new leads kept = kept
  goes_lasting (lists.Scans scanning) answer state new leads kept = kept
  goes_lasting (lists.Looks i rest metas more) answer state new leads kept = kept
  goes_lasting (lists.Frees end) answer state new leads kept = kept
  goes_lasting (lists.Syncs end) told.Done state new leads kept = absurd (cc)
  goes_lasting (lists.Syncs end) told.Missing state new leads kept = absurd (cc)
  goes_lasting (lists.Syncs end) (told.Shown v) state new leads kept = absurd (cc)
  goes_lasting (lists.Syncs end) (told.Holds size time) state new leads kept = absurd (cc)
  goes_lasting (lists.Syncs end) told.Error state new leads kept = absurd (cc)

  none_told : (newest : Option Newest) → newest_id newest ≡ None → IsToldLast o l syncs newest
  none_told None is = tt
  none_told (Some newest) is = absurd (cc)

  freed_goes : (verdict : Verdict) (metas : List ObjectMeta) (more : Bool) → Ends (page_ok metas more) ≡ listing.freed verdict → ⊥
  freed_goes (Tells reply) metas more leads = cc
  freed_goes Fails metas more leads = cc

  -- at its end what it tells lasts or is known to
  pub ends_last : (step : ListStep) (answer : ListTold) (metas : List ObjectMeta) (more : Bool) (old newest : Option Newest) → Ends (page_ok metas more) ≡ turned step answer → IsPart names after limit (paging_as step) (newest_id old) → newest_id newest ≡ seen_after (list_asks step) answer (newest_id old) → IsKnownAfter o l syncs (list_asks step) answer newest → IsToldLast o l syncs newest
  ends_last lists.Sees answer metas more old newest leads part seen known = none_told newest (seen ∙ part)
  ends_last lists.Shares told.Done metas more old newest leads part seen known = absurd (cc)
  ends_last lists.Shares told.Missing metas more old newest leads part seen known = absurd (cc)
  ends_last lists.Shares (told.Shown v) metas more old newest leads part seen known = absurd (cc)
  ends_last lists.Shares (told.Holds size time) metas more old newest leads part seen known = absurd (cc)
  ends_last lists.Shares told.Error metas more old newest leads part seen known = absurd (cc)
  ends_last (lists.Scans scanning) told.Done metas more old newest leads part seen known = absurd (cc)
  ends_last (lists.Scans scanning) told.Missing metas more old newest leads part seen known = absurd (cc)
  ends_last (lists.Scans scanning) (told.Shown v) metas more old newest leads part seen known = absurd (cc)
  ends_last (lists.Scans scanning) (told.Holds size time) metas more old newest leads part seen known = absurd (cc)
  ends_last (lists.Scans scanning) told.Error metas more old newest leads part seen known = absurd (cc)
  ends_last (lists.Looks i rest told_so more_so) told.Done metas more old newest leads part seen known = absurd (cc)
  ends_last (lists.Looks i rest told_so more_so) told.Missing metas more old newest leads part seen known = absurd (cc)
  ends_last (lists.Looks i rest told_so more_so) (told.Shown v) metas more old newest leads part seen known = absurd (cc)
  ends_last (lists.Looks i rest told_so more_so) (told.Holds size time) metas more old newest leads part seen known = absurd (cc)
  ends_last (lists.Looks i rest told_so more_so) told.Error metas more old newest leads part seen known = absurd (cc)
  ends_last (lists.Frees end) answer metas more old newest leads part seen known = absurd (freed_goes (list_verdict end) metas more leads)
  ends_last (lists.Syncs end) told.Done metas more old newest leads part seen known = known
  ends_last (lists.Syncs end) told.Missing metas more old newest leads part seen known = absurd (cc)
  ends_last (lists.Syncs end) (told.Shown v) metas more old newest leads part seen known = absurd (cc)
  ends_last (lists.Syncs end) (told.Holds size time) metas more old newest leads part seen known = absurd (cc)
  ends_last (lists.Syncs end) told.Error metas more old newest leads part seen known = absurd (cc)

-- one step of the code, whose answer is to this ask
module _ (names : Names) (after : Option ℕ) (limit : ℕ) (o : ObjectFiles) (l : Lasting) (syncs : Bool) (step : ListStep) (ask : ListAsk) (answer : ListTold) (old new : Option Newest) (later : Lasting) (next : ListNext)
    (is : ask ≡ list_asks step) (leads : list_next_as next ≡ turned names after limit o l syncs step answer)
    (run : ComesTo (list_turned names after limit) ListSees (Is (paging_as step))) (part : IsPart names after limit (paging_as step) (newest_id old))
    (up : IsShownAbove after answer) (seen : newest_id new ≡ seen_after ask answer (newest_id old)) (known : IsKnownAfter o l syncs ask answer new) (kept : IsLastingKept ask l later) where
  seen_by : newest_id new ≡ seen_after (list_asks step) answer (newest_id old)
  seen_by = seen ∙ ap (λ (a : ListAsk). seen_after a answer (newest_id old)) is

  known_by : IsKnownAfter o l syncs (list_asks step) answer new
  known_by = subst (λ (a : ListAsk). IsKnownAfter o l syncs a answer new) is known

  comes : ComesTo (list_turned names after limit) ListSees (list_next_as next)
  comes = comes_on (list_turned names after limit) ListSees (paging_as step) (list_told_as (list_asks step) answer) (list_next_as next) run (sym leads)

  is_next : IsNext names after limit (list_next_as next) (newest_id new)
  is_next = step_part names after limit step answer (newest_id old) (newest_id new) (list_next_as next) part up seen_by leads

  module _ (later_step : ListStep) (goes : next ≡ nexts.Goes later_step) where
    goes_leads : Is (paging_as later_step) ≡ turned names after limit o l syncs step answer
    goes_leads = sym (ap list_next_as goes) ∙ leads

    pub run_on : ComesTo (list_turned names after limit) ListSees (Is (paging_as later_step))
    run_on = subst (λ (n : ListNext). ComesTo (list_turned names after limit) ListSees (list_next_as n)) goes comes

    pub part_on : IsPart names after limit (paging_as later_step) (newest_id new)
    part_on = subst (λ (n : ListNext). IsNext names after limit (list_next_as n) (newest_id new)) goes is_next

    pub seen_on : WasSeen o new
    seen_on = goes_seen names after limit o l syncs step answer (paging_as later_step) new goes_leads known_by

    pub lasting_on : later ≡ l
    lasting_on = goes_lasting names after limit o l syncs step answer (paging_as later_step) later goes_leads (subst (λ (a : ListAsk). IsLastingKept a l later) is kept)

  module _ (end : ListEnd) (ends : next ≡ nexts.Ends end) (page : Page) (tells : list_verdict end ≡ page_ok page.metas page.more) where
    ends_leads : Ends (page_ok page.metas page.more) ≡ turned names after limit o l syncs step answer
    ends_leads = ap (λ (v : Verdict). Ends v) (sym tells) ∙ sym (ap list_next_as ends) ∙ leads

    pub run_ends : ComesTo (list_turned names after limit) ListSees (Ends (page_ok page.metas page.more))
    run_ends = subst (λ (v : Verdict). ComesTo (list_turned names after limit) ListSees (Ends v)) tells (subst (λ (n : ListNext). ComesTo (list_turned names after limit) ListSees (list_next_as n)) ends comes)

    its_end : IsPageAfter names after limit page × IsLast names page.metas (newest_id new)
    its_end = end_told names after limit (list_verdict end) (newest_id new) page tells (subst (λ (n : ListNext). IsNext names after limit (list_next_as n) (newest_id new)) ends is_next)

    pub page_ends : IsPageAfter names after limit page
    page_ends = its_end.0

    pub newest_ends : IsNewest names page.metas new
    newest_ends = last_newest names page.metas new its_end.1

    pub last_ends : IsToldLast o l syncs new
    last_ends = ends_last names after limit o l syncs step answer page.metas page.more old new ends_leads part seen_by known_by

pub ok_both : {X Y : Type 0} (r : Result X Y) (P Q : X → Type 0) → IfOk r P → IfOk r Q → IfOk r (λ x. P x × Q x)
ok_both (Ok x) P Q p q = (p, q)
ok_both (Err y) P Q p q = tt
