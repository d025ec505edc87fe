-- What a listing told lasts, where it synced the folder.
use Rattle.std.proofs.Common.{◌≡◌, ℕ, ◌<◌, ◌≤◌, List, [], ◌∷◌, ◌++◌, length, Some, Ok, refl, ap, sym, subst, ◌∙◌, arith, inl, inr}
use Rattle.std.specs.Prelude.{Bool, true, Contains, nat_lt, take, unwrap_or}
use Rattle.std.proofs.lemmas.List.Elements.{Contains-push_cases}
use Rattle.std.proofs.lemmas.Option.{same_Some}
use Rattle.txn_store.specs.VersionName.{Names}
use Rattle.txn_store.specs.declared.store.ObjectMeta.{ObjectMeta}
use Rattle.txn_store.specs.declared.request.Reply.TheVariants as replies
use Rattle.txn_folder.specs.steps.Folders.{Version, File}
use Rattle.txn_folder.specs.steps.Steps.{Verdict, Tells, Fails, Phase, Is, Ends}
use Rattle.txn_folder.specs.steps.Listing.{SeeFile, ListTold, Done, Missing, Shown, Holds, Error, Paging, ListSees, ListShares, ListScans, ListLooks, ListFrees, ListSyncs, Scanning, Scanned, Goes, Settles, scanned, scan_turned, looks_up, freed, list_turned, meta_told}
use Rattle.txn_folder_model.specs.Worlds.{World, Event, world}
use Rattle.txn_folder_model.specs.Listings.{Listing}
use Rattle.txn_folder_model.specs.Runs.{ListingStep, IsFileAt, IsToldOf, GoesOn, IsRun}
use Rattle.txn_folder_model.specs.Power.{Syncs, IsListed, ShowsOf, name_at}
use Rattle.txn_folder_model.proofs.Power.{file_since}
use Rattle.txn_folder_model.proofs.Lasting.{lasts_by}

module _ (names : Names) (floor : ℕ) (events : ℕ → Event) (syncs : Syncs) (l : Listing) (t : ℕ) (ends : l.ended < t) where
  -- it was told what the file of a version has, at a moment since it began
  pub record Saw (now : ℕ) (meta : ObjectMeta) : Type 0 where
    pub id : ℕ
    pub file : ℕ
    pub at : ℕ
    pub since : l.began ≤ at
    pub until : at ≤ now
    pub is : name_at floor events at (Version id) ≡ Some file
    pub told : meta ≡ meta_told names id (length ((world floor events at).folder.files file).bytes) ((world floor events at).folder.files file).time

  abbrev AllSeen : ℕ → List ObjectMeta → Type 0
  AllSeen now metas = (meta : ObjectMeta) → Contains metas meta → Saw now meta

  -- and synced the folder since
  pub record SawSynced (now : ℕ) (meta : ObjectMeta) : Type 0 where
    pub sync : ℕ
    pub saw : Saw sync meta
    pub past : sync ≤ now
    pub synced : syncs.listed sync ≡ true

  abbrev VerdictSo : ℕ → Verdict → Type 0
  VerdictSo now (Tells (replies.List (Ok page))) = AllSeen now page.metas
  VerdictSo now verdict = Unit {0}

  abbrev VerdictEnds : ℕ → Verdict → Type 0
  VerdictEnds now (Tells (replies.List (Ok page))) = (meta : ObjectMeta) → Contains page.metas meta → SawSynced now meta
  VerdictEnds now verdict = Unit {0}

  abbrev PhaseSo : ℕ → Phase Paging → Type 0
  PhaseSo now (Is (ListLooks id ids metas more)) = AllSeen now metas
  PhaseSo now (Is (ListFrees verdict)) = VerdictSo now verdict
  PhaseSo now (Is (ListSyncs verdict)) = VerdictSo now verdict
  PhaseSo now (Is state) = Unit {0}
  PhaseSo now (Ends verdict) = VerdictEnds now verdict

  saw_on : (now to : ℕ) → now ≤ to → (meta : ObjectMeta) → Saw now meta → Saw to meta
  saw_on now to most meta s = let until = s.until in record { id = s.id; file = s.file; at = s.at; since = s.since; until = omega (arith, until, most); is = s.is; told = s.told }

  all_on : (now to : ℕ) → now ≤ to → (metas : List ObjectMeta) → AllSeen now metas → AllSeen to metas
  all_on now to most metas all meta has = saw_on now to most meta (all meta has)

  no_metas : (now : ℕ) → AllSeen now []
  no_metas now meta has = absurd (let low = has.1 in omega (arith, low))

  verdict_on : (now to : ℕ) → now ≤ to → (verdict : Verdict) → VerdictSo now verdict → VerdictSo to verdict
  verdict_on now to most (Tells (replies.List (Ok page))) so = all_on now to most page.metas so
  verdict_on now to most verdict so = tt

  looks_so : (now : ℕ) (ids : List ℕ) (metas : List ObjectMeta) (more : Bool) → AllSeen now metas → PhaseSo now (Is (looks_up ids metas more))
  looks_so now [] metas more all = all
  looks_so now (id ∷ ids) metas more all = all

  scanned_so : (now : ℕ) (s : Scanned) → PhaseSo now (Is (scanned l.limit s))
  scanned_so now (Goes scanning) = tt
  scanned_so now (Settles ids) = looks_so now (take l.limit ids) [] (nat_lt l.limit (length ids)) (no_metas now)

  freed_so : (now : ℕ) (verdict : Verdict) → VerdictSo now verdict → PhaseSo now (freed verdict)
  freed_so now (Tells reply) so = so
  freed_so now Fails so = tt

  -- what a look told
  sees : (from to id size time : ℕ) → l.began ≤ from → (s : ℕ) → from ≤ s → s ≤ to → IsFileAt (world floor events s) id size time → Saw to (meta_told names id size time)
  sees from to id size time began s low high (file, is, long) = record {
    id = id;
    file = file;
    at = s;
    since = omega (arith, began, low);
    until = high;
    is = is;
    told = ap (λ (n : ℕ). meta_told names id n time) long.0 ∙ ap (λ (n : ℕ). meta_told names id (length ((world floor events s).folder.files file).bytes) n) long.1;
  }

  also : (to : ℕ) (metas : List ObjectMeta) (last : ObjectMeta) → AllSeen to metas → Saw to last → AllSeen to (metas ++ last ∷ [])
  also to metas last all saw meta has = elim (Contains-push_cases metas last meta has) [ inl old ↦ all meta old | inr new ↦ subst (Saw to) new saw ]

  syncs_so : (now from to : ℕ) (verdict : Verdict) → now ≤ from → from ≤ to → syncs.listed from ≡ true → VerdictSo now verdict → VerdictEnds to verdict
  syncs_so now from to (Tells (replies.List (Ok page))) low high listed so = λ meta has. record { sync = from; saw = saw_on now from low meta (so meta has); past = high; synced = listed }
  syncs_so now from to verdict low high listed so = tt

  -- one step
  abbrev Turns : Paging → ListingStep → Type 0
  Turns state step = PhaseSo step.to (list_turned names l.after l.limit state step.told)

  shares : (to : ℕ) (told : ListTold) → PhaseSo to (list_turned names l.after l.limit ListShares told)
  shares to Done = tt
  shares to told = tt

  sees_folder : (to : ℕ) (told : ListTold) → PhaseSo to (list_turned names l.after l.limit ListSees told)
  sees_folder to Done = tt
  sees_folder to Missing = λ meta has. absurd (let low = has.1 in omega (arith, low))
  sees_folder to told = tt

  scans : (to : ℕ) (scanning : Scanning) (told : ListTold) → PhaseSo to (list_turned names l.after l.limit (ListScans scanning) told)
  scans to scanning (Shown ids) = scanned_so to (scan_turned (unwrap_or l.after 0) scanning ids)
  scans to scanning told = tt

  looks : (now from to id : ℕ) (ids : List ℕ) (metas : List ObjectMeta) (more : Bool) (told : ListTold) → l.began ≤ now → now ≤ from → from ≤ to → ((size time : ℕ) → told ≡ Holds size time → (s : ℕ) × (from ≤ s) × (s ≤ to) × IsFileAt (world floor events s) id size time) → AllSeen now metas → PhaseSo to (list_turned names l.after l.limit (ListLooks id ids metas more) told)
  looks now from to id ids metas more (Holds size time) began low high saw all =
      let it = saw size time refl in
      looks_so to ids (metas ++ meta_told names id size time ∷ []) more
      (also to metas (meta_told names id size time) (all_on now to (omega (arith, low, high)) metas all) (sees from to id size time (omega (arith, began, low)) it.0 it.1 it.2 it.3))
  looks now from to id ids metas more Missing began low high saw all = tt
  looks now from to id ids metas more told began low high saw all = tt

  syncs_told : (now from to : ℕ) (verdict : Verdict) (told : ListTold) → now ≤ from → from ≤ to → syncs.listed from ≡ true → VerdictSo now verdict → PhaseSo to (list_turned names l.after l.limit (ListSyncs verdict) told)
  syncs_told now from to verdict Done low high listed so = syncs_so now from to verdict low high listed so
  syncs_told now from to verdict told low high listed so = tt

  -- the whole run
  abbrev worlds : ℕ → World
  worlds = world floor events

  abbrev Lists : ℕ → Phase Paging → List ListingStep → Type 0
  Lists now phase steps = GoesOn names worlds l now phase steps

  abbrev Told : Type 0
  Told = (meta : ObjectMeta) → Contains l.page.metas meta → SawSynced l.ended meta

  ended_told : (now : ℕ) (verdict : Verdict) → verdict ≡ Tells (replies.List (Ok l.page)) → now ≤ l.ended → VerdictEnds now verdict → Told
  ended_told now verdict is most so meta has = let it = subst (VerdictEnds now) is so meta has in let past = it.past in record { sync = it.sync; saw = it.saw; past = omega (arith, past, most); synced = it.synced }

  end_told : (now : ℕ) (verdict : Verdict) (steps : List ListingStep) → Lists now (Ends verdict) steps → VerdictEnds now verdict → Told
  end_told now verdict [] goes so = ended_told now verdict goes.0 goes.1 so
  end_told now verdict (step ∷ steps) goes so = absurd goes

  synced_told : (to : ℕ) (verdict : Verdict) (told : ListTold) (steps : List ListingStep) → Lists to (list_turned names l.after l.limit (ListSyncs verdict) told) steps → PhaseSo to (list_turned names l.after l.limit (ListSyncs verdict) told) → Told
  synced_told to verdict Done steps goes so = end_told to verdict steps goes so
  synced_told to verdict Missing steps goes so = end_told to Fails steps goes so
  synced_told to verdict (Shown ids) steps goes so = end_told to Fails steps goes so
  synced_told to verdict (Holds size time) steps goes so = end_told to Fails steps goes so
  synced_told to verdict Error steps goes so = end_told to Fails steps goes so

  saw_file : (id : ℕ) (step : ListingStep) (told : ListTold) → IsToldOf names worlds l (SeeFile id) step.from step.to told → (size time : ℕ) → told ≡ Holds size time → (s : ℕ) × (step.from ≤ s) × (s ≤ step.to) × IsFileAt (worlds s) id size time
  saw_file id step told of size time is = subst (IsToldOf names worlds l (SeeFile id) step.from step.to) is of

  runs_told : (now : ℕ) (phase : Phase Paging) (steps : List ListingStep) → Lists now phase steps → IsListed floor events syncs names l phase steps → l.began ≤ now → PhaseSo now phase → Told
  runs_told now (Ends verdict) steps goes listed began so = absurd listed
  runs_told now (Is state) [] goes listed began so = absurd goes
  runs_told now (Is ListSees) (step ∷ steps) goes listed began so = let low = goes.0 in let high = goes.1 in runs_told step.to (list_turned names l.after l.limit ListSees step.told) steps goes.4 listed (omega (arith, began, low, high)) (sees_folder step.to step.told)
  runs_told now (Is ListShares) (step ∷ steps) goes listed began so = let low = goes.0 in let high = goes.1 in runs_told step.to (list_turned names l.after l.limit ListShares step.told) steps goes.4 listed (omega (arith, began, low, high)) (shares step.to step.told)
  runs_told now (Is (ListScans scanning)) (step ∷ steps) goes listed began so = let low = goes.0 in let high = goes.1 in runs_told step.to (list_turned names l.after l.limit (ListScans scanning) step.told) steps goes.4 listed (omega (arith, began, low, high)) (scans step.to scanning step.told)
  runs_told now (Is (ListLooks id ids metas more)) (step ∷ steps) goes listed began so = let low = goes.0 in let high = goes.1 in runs_told step.to (list_turned names l.after l.limit (ListLooks id ids metas more) step.told) steps goes.4 listed (omega (arith, began, low, high)) (looks now step.from step.to id ids metas more step.told began goes.0 goes.1 (saw_file id step step.told goes.3) so)
  runs_told now (Is (ListFrees verdict)) (step ∷ steps) goes listed began so = let low = goes.0 in let high = goes.1 in runs_told step.to (freed verdict) steps goes.4 listed (omega (arith, began, low, high)) (freed_so step.to verdict (verdict_on now step.to (omega (arith, low, high)) verdict so))
  runs_told now (Is (ListSyncs verdict)) (step ∷ steps) goes listed began so = synced_told step.to verdict step.told steps goes.4 (syncs_told now step.from step.to verdict step.told goes.0 goes.1 listed so)

  shown_lasts : (meta : ObjectMeta) → SawSynced l.ended meta → ShowsOf floor events syncs names l t meta
  shown_lasts meta s =
      let saw = s.saw in
      let until = saw.until in
      let past = s.past in
      let same : (world floor events t).folder.files saw.file ≡ (world floor events saw.at).folder.files saw.file = file_since floor events syncs (Version saw.id) saw.file saw.at t (omega (arith, until, past, ends)) saw.is in
      record {
        id = saw.id;
        file = saw.file;
        told = saw.told ∙ ap (λ (f : File). meta_told names saw.id (length f.bytes) f.time) (sym same);
        lasts = lasts_by floor events syncs t l.began (Some l.ended) (Version saw.id) (Some saw.file) saw.at s.sync saw.since (λ end is. let now : l.ended ≡ end = same_Some l.ended end is in omega (arith, until, past, now)) saw.is saw.until (omega (arith, past, ends)) (inr (s.synced, refl));
      }

  pub listed_lasts : (run : IsRun names worlds l) → IsListed floor events syncs names l (Is ListSees) run.steps → (meta : ObjectMeta) → Contains l.page.metas meta → ShowsOf floor events syncs names l t meta
  listed_lasts run listed meta has = shown_lasts meta (runs_told l.began (Is ListSees) run.steps run.goes listed (omega arith) tt meta has)
