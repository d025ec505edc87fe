-- A listing of versions, step by step.
use Rattle.std.proofs.Common.{◌≡◌, ℕ, ◌+◌, ◌*◌, ◌-◌, ◌<◌, ◌≤◌, cond, nat_lt, Bool, true, List, [], ◌∷◌, ◌++◌, length, take, drop, Option, Some, None, IsSome, Result, Ok, Err, refl, sym, ap, subst, ◌∙◌, inl, inr, arith, append_assoc}
use Rattle.std.specs.FinMap as finmap
use Rattle.std.specs.declared.ops.Bound.{Bound}
use Rattle.std.proofs.Math.Seq.{take-add}
use Rattle.std.proofs.lemmas.Bool.{cases_Bool, eqb-true, ltb-true, ltb-false}
use Rattle.std.proofs.lemmas.List.{length-drop, drop-drop, take_all}
use Rattle.txn_store.specs.Paths.{Segments}
use Rattle.txn_store.specs.VersionName.{Names, version_path}
use Rattle.txn_store.specs.Store.{Files, State, Kept, Counted, listing, page_of, Lists as StoreLists}
use Rattle.txn_store.specs.declared.page.Page.{Page}
use Rattle.txn_store.specs.declared.store.Got.{Got}
use Rattle.txn_store.specs.declared.store.ObjectMeta.{ObjectMeta}
use Rattle.txn_store.specs.declared.store.StoreError.{StoreError}
use Rattle.txn_store.specs.declared.store.StoreError.TheVariants as errors
use Rattle.txn_store.specs.declared.request.Reply.{Reply}
use Rattle.txn_store.specs.declared.request.Reply.TheVariants as replies
use Rattle.txn_store.specs.types.Errors.{error_of_store}
use Rattle.txn_store.specs.declared.types.error.TransactionalObjectError.{TransactionalObjectError}
use Rattle.txn_store.specs.declared.types.error.TransactionalObjectError.TheVariants as kinds
use Rattle.txn_steps.specs.declared.boundary.turned.Turned.{Turned}
use Rattle.txn_steps.specs.declared.boundary.turned.Turned.TheVariants.{Goes, Done}
use Rattle.txn_steps.specs.boundary.Asking.{reply_told, unless_lacking}
use Rattle.txn_steps.specs.boundary.Steps.{turned_by_number, lacks_memory, TellsErrorOf, error_in}
use Rattle.txn_steps.specs.declared.listing.ListOp.{ListOp}
use Rattle.txn_steps.specs.Listed.{Listed}
use Rattle.txn_steps.specs.Listings.{listing_paged, listing_after, listing_got, listing_answered, listing_turned}
use Rattle.txn_steps.specs.Picked.{picked, picked_one, chosen_id}
use Rattle.txn_steps.specs.Requests.{next_after, last_location}
use Rattle.txn_steps_driven.specs.Asked.{Replies}
use Rattle.txn_steps_driven.specs.Calls.{Spends, HasCause}
use Rattle.txn_steps_driven.specs.PageCount.{files_below, pages_below}
use Rattle.txn_steps_driven.specs.Standing.{FilesStand}
use Rattle.txn_steps_driven.specs.ListRuns.{ListRuns, list_rank, IsListStep, ListEnds, AreStored, AreIds, AreTold, VersionsListed}
use Rattle.txn_steps_driven.proofs.Frames.{kept-trans}
use Rattle.txn_steps_driven.proofs.ListIds.{are_stored, are_told}
use Rattle.txn_steps_driven.proofs.NextPages.{next_page, page_within, page_last}
use Rattle.txn_steps_driven.proofs.Refusals.{error_is, goes, answers, tells_store}

picked-append : (names : Names) (from to : Bound ℕ) (xs ys : List ObjectMeta) → picked names from to (xs ++ ys) ≡ picked names from to xs ++ picked names from to ys
picked-append names from to [] ys = refl
picked-append names from to (x ∷ xs) ys = ap (λ (r : List Listed). picked_one (chosen_id names from to x) x ++ r) (picked-append names from to xs ys) ∙ sym (append_assoc (picked_one (chosen_id names from to x) x) (picked names from to xs) (picked names from to ys))

-- it lacks memory exactly where it says so
lacks_is : {A : Type 0} (told : Turned (Result A TransactionalObjectError)) → lacks_memory (turned_by_number told) ≡ true → told ≡ Done (Err kinds.NoMemory)
lacks_is Goes is = absurd (cc)
lacks_is (Done (Ok x)) is = absurd (cc)
lacks_is (Done (Err error)) is = ap (λ (k : TransactionalObjectError). Done (Err k)) (error_is kinds.NoMemory error tt (eqb-true _ 9 is))

-- what a listing's call leaves
kept_by : (prefix : Segments) (after : Option Segments) (limit : ℕ) (old new : State) (answer : Result Page StoreError) → StoreLists prefix after limit old answer new → Kept old new
kept_by prefix after limit old new (Ok page) lists = lists.kept
kept_by prefix after limit old new (Err errors.Failed) lists = elim lists.err.1 [ inl kept ↦ kept | inr none ↦ absurd none ]
kept_by prefix after limit old new (Err errors.TokensExhausted) lists = absurd lists.err
kept_by prefix after limit old new (Err error) lists = lists.err.1

module _ (names : Names) (page : ℕ) (room : 1 ≤ page) (from to : Bound ℕ) (old mid new : State) (op : ListOp) (runs : ListRuns names page from to old mid op) where
  abbrev all : List ObjectMeta
  all = files_below names old.files

  -- what it is told of a page
  abbrev metas : List ObjectMeta
  metas = listing names.dir runs.after (finmap.entries old.files)

  Ends : Result (List Listed) TransactionalObjectError → Type 0
  Ends result = ListEnds names page from to old new result

  -- a call, after which everything is kept
  module _ (counted : Counted mid new) (keeps : Kept mid new) where
    keeps_on : Kept old new
    keeps_on = kept-trans old mid new runs.kept keeps

    calls_on : new.calls ≡ old.calls + (runs.told + 1)
    calls_on = let a = counted.calls in let b = runs.calls in omega (arith, a, b)

    failures_on : old.failures ≤ new.failures
    failures_on = let a = counted.failures in let b = runs.failures in omega (arith, a, b)

    spends_on : Spends (pages_below names page old.files) 0 old new
    spends_on =
        let low = page_within page (length all) runs.told room runs.more in
        let left = keeps_on.left in
        record { calls_rise = omega (arith, calls_on); calls_most = omega (arith, calls_on, low); failures_rise = failures_on; left_falls = omega (arith, left); left_least = omega (arith, left) }

    -- it ended with an error
    fails : (error : TransactionalObjectError) → HasCause old new error → ListEnds names page from to old new (Err error)
    fails error cause = record { listed = tt; kept = keeps_on; calls = tt; spends = spends_on; cause = cause }

    -- what it has found, with this page
    found_on : (limit : ℕ) → limit ≡ page → op.found ++ picked names op.from op.to (take limit metas) ≡ picked names from to (take (runs.told * page + page) all)
    found_on limit same =
        let rest : take limit metas ≡ take page (drop (runs.told * page) all) = ap (λ n. take n metas) same ∙ ap (take page) runs.rest in
        let both : take (runs.told * page + page) all ≡ take (runs.told * page) all ++ take page (drop (runs.told * page) all) = take-add (runs.told * page) page all in
        ap (λ (found : List Listed). found ++ picked names op.from op.to (take limit metas)) runs.found
        ∙ (ap (λ (b : Bound ℕ). picked names from to (take (runs.told * page) all) ++ picked names b op.to (take limit metas)) runs.from_is
        ∙ (ap (λ (b : Bound ℕ). picked names from to (take (runs.told * page) all) ++ picked names from b (take limit metas)) runs.to_is
        ∙ (ap (λ (ms : List ObjectMeta). picked names from to (take (runs.told * page) all) ++ picked names from to ms) rest
        ∙ (sym (picked-append names from to (take (runs.told * page) all) (take page (drop (runs.told * page) all))) ∙ ap (picked names from to) (sym both)))))

    -- the last page
    last_page : length metas ≤ page → ListEnds names page from to old new (Ok (op.found ++ picked names op.from op.to (take page metas)))
    last_page short =
        let long : length metas ≡ length all - runs.told * page = ap (λ (ms : List ObjectMeta). length ms) runs.rest ∙ length-drop (runs.told * page) all in
        let reaches : length all ≤ runs.told * page + page = omega (arith, short, long) in
        let count = page_last page (length all) runs.told room runs.more reaches in
        record {
          listed = found_on page refl ∙ ap (picked names from to) (take_all (runs.told * page + page) all reaches);
          kept = keeps_on;
          calls = omega (arith, calls_on, count);
          spends = spends_on;
          cause = tt;
        }

    -- where more follow
    more_pages : (more : page < length metas) (path : Segments) → listing names.dir (Some path) (finmap.entries old.files) ≡ drop page metas → ListRuns names page from to old new (listing_paged names page op path (take page metas))
    more_pages more path rest =
        let long : length metas ≡ length all - runs.told * page = ap (λ (ms : List ObjectMeta). length ms) runs.rest ∙ length-drop (runs.told * page) all in
        let times : (runs.told + 1) * page ≡ runs.told * page + page = grind arith in
        record {
          told = runs.told + 1;
          after = Some path;
          from_is = runs.from_is;
          to_is = runs.to_is;
          asks = refl;
          found = found_on page refl ∙ ap (λ n. picked names from to (take n all)) (sym times);
          rest = rest ∙ (ap (drop page) runs.rest ∙ (drop-drop page (runs.told * page) all ∙ ap (λ n. drop n all) (sym times)));
          more = inr (omega (arith, times, more, long));
          kept = keeps_on;
          calls = calls_on;
          failures = failures_on;
        }

-- it goes on with fewer files before it, or has ended
abbrev pub ListGoes : Names → ℕ → Bound ℕ → Bound ℕ → State → State → ListOp → ListOp → Turned (Result (List Listed) TransactionalObjectError) → Type 0
ListGoes names page from to old new op op' Goes = ListRuns names page from to old new op' × (list_rank old.files op'.request < list_rank old.files op.request)
ListGoes names page from to old new op op' (Done result) = ListEnds names page from to old new result

module _ (names : Names) (page : ℕ) (room : 1 ≤ page) (from to : Bound ℕ) (old mid new : State) (op op' : ListOp) (runs : ListRuns names page from to old mid op) (told : Turned (Result (List Listed) TransactionalObjectError)) where
  abbrev shown : List ObjectMeta
  shown = listing names.dir runs.after (finmap.entries old.files)

  abbrev Leads : Turned (Result (List Listed) TransactionalObjectError) → Type 0
  Leads t = ListGoes names page from to old new op op' t

  ranked : list_rank old.files op.request ≡ length shown
  ranked = ap (list_rank old.files) runs.asks

  -- after a page
  after_page : Counted mid new → Kept mid new → (op', turned_by_number told) ≡ listing_got names page op (page_of page shown) → Leads told
  after_page counted keeps turned = elim (cases_Bool (nat_lt page (length shown))) [
    | inl more ↦
        let lt = ltb-true page (length shown) more in
        let next = next_page names.dir (finmap.entries old.files) (finmap.entries_sorted old.files) runs.after page room lt in
        let asks : next_after (page_of page shown) ≡ Some next.0 = ap (λ (b : Bool). cond b (last_location (take page shown)) None) more ∙ next.1 in
        let turned' : (op', turned_by_number told) ≡ listing_after names page op (take page shown) (Some next.0) = turned ∙ ap (listing_after names page op (take page shown)) asks in
        let goes_on = more_pages names page room from to old mid new op runs counted keeps lt next.0 next.2 in
        let shorter : length (listing names.dir (Some next.0) (finmap.entries old.files)) < length shown = (let long = ap (λ (ms : List ObjectMeta). length ms) next.2 ∙ length-drop page shown in omega (arith, long, room, lt)) in
        subst Leads (sym (goes told (ap (λ p. p.1) turned')))
        (subst (λ (o : ListOp). ListRuns names page from to old new o × (list_rank old.files o.request < list_rank old.files op.request)) (sym (ap (λ p. p.0) turned'))
        (goes_on, subst (λ n. length (listing names.dir (Some next.0) (finmap.entries old.files)) < n) (sym ranked) shorter))
    | inr last ↦
        let asks : next_after (page_of page shown) ≡ None = ap (λ (b : Bool). cond b (last_location (take page shown)) None) last in
        let turned' : (op', turned_by_number told) ≡ listing_after names page op (take page shown) None = turned ∙ ap (listing_after names page op (take page shown)) asks in
        subst Leads (sym (answers told _ (ap (λ p. p.1) turned'))) (last_page names page room from to old mid new op runs counted keeps (ltb-false page (length shown) last))
  ]

  -- after a call that the store refused
  after_refusal : (e : StoreError) → StoreLists names.dir runs.after page mid (Err e) new → (op', turned_by_number told) ≡ listing_answered names page op (Err e) → TellsErrorOf (Some e) told → Leads told
  after_refusal e lists turned own =
      subst Leads (sym (tells_store told e (ap (λ p. p.1) turned) own)) (fails names page room from to old mid new op runs lists.counted (kept_by names.dir runs.after page mid new (Err e) lists) (error_of_store e) (cause_of e lists))
    where
      cause_of : (e : StoreError) → StoreLists names.dir runs.after page mid (Err e) new → HasCause old new (error_of_store e)
      cause_of errors.Failed lists = let rose = lists.err.0 in let before = runs.failures in omega (arith, rose, before)
      cause_of errors.NoMemory lists = tt
      cause_of errors.TokensExhausted lists = absurd lists.err
      cause_of errors.NotFound lists = absurd (let is = lists.err.0 in cc)
      cause_of errors.AlreadyExists lists = absurd (let is = lists.err.0 in cc)
      cause_of errors.Precondition lists = absurd (let is = lists.err.0 in cc)
      cause_of errors.NotModified lists = absurd (let is = lists.err.0 in cc)

  -- after any call
  after_list : (answer : Result Page StoreError) → StoreLists names.dir runs.after page mid answer new → (op', turned_by_number told) ≡ unless_lacking (lacks_memory (turned_by_number told)) op (listing_answered names page op answer) → TellsErrorOf (error_in answer) told → Leads told
  after_list answer lists turned own = elim (cases_Bool (lacks_memory (turned_by_number told))) [
    | inl lacks ↦ subst Leads (sym (lacks_is told lacks)) (fails names page room from to old mid new op runs lists.counted (kept_by names.dir runs.after page mid new answer lists) kinds.NoMemory tt)
    | inr has ↦ by_answer answer lists (rw has at turned) own
  ]
    where
      by_answer : (answer : Result Page StoreError) → StoreLists names.dir runs.after page mid answer new → (op', turned_by_number told) ≡ listing_answered names page op answer → TellsErrorOf (error_in answer) told → Leads told
      by_answer (Ok page_told) lists turned own =
          let shows : page_told ≡ page_of page shown = lists.listed ∙ ap (λ (f : Files). page_of page (listing names.dir runs.after (finmap.entries f))) runs.kept.files in
          after_page lists.counted lists.kept (turned ∙ ap (listing_got names page op) shows)
      by_answer (Err e) lists turned own = after_refusal e lists turned own

  goes_by : (reply : Option Reply) → Replies (Some op.request) mid reply new → (op', turned_by_number told) ≡ unless_lacking (lacks_memory (turned_by_number told)) op (listing_turned names page op reply) → TellsErrorOf (reply_told reply) told → Leads told
  goes_by (Some (replies.List answer)) served turned own = after_list answer (let asks = runs.asks in rw asks at served) turned own
  goes_by (Some reply) served turned own = absurd (let asks = runs.asks in rw asks at served)
  goes_by None served turned own = absurd served

-- one step of a listing that runs
pub list_goes : (names : Names) (page : ℕ) (from to : Bound ℕ) (old mid new : State) (op op' : ListOp) (told : Turned (Result (List Listed) TransactionalObjectError)) → 1 ≤ page → ListRuns names page from to old mid op → IsListStep names page mid new op op' told → ListGoes names page from to old new op op' told
list_goes names page from to old mid new op op' told room runs step = goes_by names page room from to old mid new op op' runs told step.reply step.replies step.turned step.error

-- where the files stand for a history, the ids of an answer do
are_ids : {T : Type 0} (names : Names) (decode : List ℕ → Option T) (from to : Bound ℕ) (files : Files) (found : List Listed) (h : List T) (b : ℕ) → AreStored names from to files found → FilesStand names decode files h b → AreIds from to (length h) b found
are_ids names decode from to files found h b ids stand = record {
  known = λ n listed.
      let s = ids.stored n listed in
      let there = is_stored (finmap.get files (version_path names n)) s.2 in
      let known = stand.known n there.0 s.0 there.1 in
      (known.0, known.1);
  there = λ n above le within.
      let s = stand.stored n above le in
      let fits = stand.fits in
      ids.all n (omega (arith, le, fits)) within (rw s.1 refl);
}
  where
    is_stored : (stored : Option Got) → IsSome stored → (got : Got) × (stored ≡ Some got)
    is_stored None is = cc
    is_stored (Some got) is = (got, refl)

-- a listing that ended
pub listed : {T : Type 0} (names : Names) (page : ℕ) (decode : List ℕ → Option T) (from to : Bound ℕ) (old new : State) (result : Result (List Listed) TransactionalObjectError) → ListEnds names page from to old new result → VersionsListed names page decode from to old new result
listed names page decode from to old new (Ok found) ends =
    let ids : AreStored names from to old.files found = subst (AreStored names from to old.files) (sym ends.listed) (are_stored names from to old.files) in
    record { ends = ends; stored = ids; told = subst (AreTold (version_path names) old.files) (sym ends.listed) (are_told names from to old.files); stands = λ h b stand. are_ids names decode from to old.files found h b ids stand }
listed names page decode from to old new (Err error) ends = record { ends = ends; stored = tt; told = tt; stands = λ h b stand. tt }
