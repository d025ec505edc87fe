-- Each step of a read of the newest version, by what the store replies.
use Rattle.std.proofs.Common.{◌≡◌, ◌⊎◌, ℕ, ◌+◌, ◌<◌, ◌≤◌, ◌==◌, List, Option, Some, None, Result, Ok, Err, IfOk, refl, sym, ap, subst, ◌∙◌, inl, inr, arith}
use Rattle.std.proofs.lemmas.Bool.{cases_Bool}
use Rattle.std.proofs.lemmas.Option.{same_Some}
use Rattle.std.specs.FinMap as map
use Rattle.txn_store.specs.Paths.{Segments}
use Rattle.txn_store.specs.VersionName.{Names}
use Rattle.txn_store.specs.Store.{State, Files, Kept, Gets as StoreGets, Lists as StoreLists, Refused, get_fault, listing, page_of}
use Rattle.txn_store.specs.declared.page.Page.{Page}
use Rattle.txn_store.specs.declared.store.Got.{Got}
use Rattle.txn_store.specs.declared.store.StoreError.{StoreError}
use Rattle.txn_store.specs.declared.store.StoreError.TheVariants as errors
use Rattle.txn_store.specs.declared.request.Request.{Request}
use Rattle.txn_store.specs.declared.request.Request.TheVariants as requests
use Rattle.txn_store.specs.declared.request.Reply.{Reply}
use Rattle.txn_store.specs.declared.request.Reply.TheVariants as replies
use Rattle.txn_store.specs.types.Errors.{store_error_number}
use Rattle.txn_steps.specs.declared.boundary.caches.Cached.{Cached}
use Rattle.txn_steps.specs.declared.boundary.turned.Turned.{Turned}
use Rattle.txn_steps.specs.declared.boundary.turned.Turned.TheVariants.{Goes, Done}
use Rattle.txn_steps.specs.boundary.Asking.{reply_told}
use Rattle.txn_steps.specs.boundary.Windows.{held, greatest_held, kept}
use Rattle.txn_steps.specs.declared.latest.LatestOp.{LatestOp}
use Rattle.txn_steps.specs.declared.latest.LatestOp.TheVariants.{Looks, Probes, Finds, Lists, Chooses, Gets, Keeps, Drops, Ended}
use Rattle.txn_steps.specs.Requests.{next_after}
use Rattle.txn_steps.specs.Latest.{ReadAnswer, greatest_from, read_in_hand, probed, in_hand, begins_with, found_turned, paged_turned, listed, unlisted, keeping, held_or_got, chosen, latest_got}
use Rattle.txn_steps_driven.specs.Asked.{Replies}
use Rattle.txn_steps_driven.specs.Calls.{HasStoreCause}
use Rattle.txn_steps_driven.proofs.LatestSteps.{missing}

-- what a call that reads leaves

-- so many calls were made, and the files and the tokens are as they were
pub record Reads (calls : ℕ) (old new : State) : Type 0 where
  pub kept : Kept old new
  pub calls_are : new.calls ≡ old.calls + calls
  pub failures_rise : old.failures ≤ new.failures

pub refused_kept : (fault : Option StoreError) (old new : State) (e : StoreError) → Refused fault ⊥ old new e → Kept old new
refused_kept fault old new errors.Failed (rose, inl kept) = kept
refused_kept fault old new errors.Failed (rose, inr never) = absurd never
refused_kept fault old new errors.TokensExhausted r = absurd r
refused_kept fault old new error r = r.1

pub look_reads : (old new : State) → new ≡ old → Reads 0 old new
look_reads old new same = subst (λ s. Reads 0 old s) (sym same) (record { kept = record { files = refl; given = refl; left = refl }; calls_are = omega arith; failures_rise = omega arith })

pub get_reads : (path : Segments) (known : Option ℕ) (old new : State) (answer : Result Got StoreError) → StoreGets path known old answer new → Reads 1 old new
get_reads path known old new (Ok got) told = record { kept = told.kept; calls_are = told.counted.calls; failures_rise = told.counted.failures }
get_reads path known old new (Err e) told = record { kept = refused_kept _ old new e told.err; calls_are = told.counted.calls; failures_rise = told.counted.failures }

pub list_reads : (prefix : Segments) (after : Option Segments) (limit : ℕ) (old new : State) (answer : Result Page StoreError) → StoreLists prefix after limit old answer new → Reads 1 old new
list_reads prefix after limit old new (Ok page) told = record { kept = told.kept; calls_are = told.counted.calls; failures_rise = told.counted.failures }
list_reads prefix after limit old new (Err e) told = record { kept = refused_kept _ old new e told.err; calls_are = told.counted.calls; failures_rise = told.counted.failures }

-- why it failed

-- why an error of this number came: what the store told, a codec that refused, or want of memory
abbrev pub NumberCause : State → State → Option StoreError → ℕ → Type 0
NumberCause old new told number = ((number ≡ 2) × ((e : StoreError) → told ≡ Some e → HasStoreCause old new e)) ⊎ ((number ≡ 8) ⊎ (number ≡ 9))

told_failed : (old new : State) → old.failures < new.failures → NumberCause old new (Some errors.Failed) 2
told_failed old new rose = inl (refl, λ e same. subst (HasStoreCause old new) (same_Some errors.Failed e same) rose)

pub get_failed : (now : Option Got) (old new : State) (e : StoreError) → (e ≡ errors.NotFound → ⊥) → Refused (get_fault None now) ⊥ old new e → NumberCause old new (Some e) (store_error_number e)
get_failed now old new errors.NotFound other r = absurd (other refl)
get_failed now old new errors.Failed other r = told_failed old new r.0
get_failed now old new errors.NoMemory other r = inr (inr refl)
get_failed now old new errors.TokensExhausted other r = absurd r
get_failed None old new error other r = absurd (let f = r.0 in cc)
get_failed (Some g) old new error other r = absurd (let f = r.0 in cc)

pub list_failed : (old new : State) (e : StoreError) → Refused None ⊥ old new e → NumberCause old new (Some e) (store_error_number e)
list_failed old new errors.Failed r = told_failed old new r.0
list_failed old new errors.NoMemory r = inr (inr refl)
list_failed old new errors.TokensExhausted r = absurd r
list_failed old new error r = absurd (let f = r.0 in cc)

-- what a get tells of the files
pub found_in : (files : Files) (path : Segments) (old new : State) (answer : Result Got StoreError) → old.files ≡ files → StoreGets path None old answer new → IfOk answer (λ got. map.get files path ≡ Some got)
found_in files path old new (Ok got) same told = ap (λ fs. map.get fs path) (sym same) ∙ told.found
found_in files path old new (Err e) same told = tt

pub gone_in : (files : Files) (path : Segments) (old new : State) (answer : Result Got StoreError) → old.files ≡ files → StoreGets path None old answer new → answer ≡ Err errors.NotFound → map.get files path ≡ None
gone_in files path old new (Ok got) same told is = cc
gone_in files path old new (Err errors.NotFound) same told is = ap (λ fs. map.get fs path) (sym same) ∙ missing (map.get old.files path) told.err.0
gone_in files path old new (Err error) same told is = cc

pub listed_in : (files : Files) (prefix : Segments) (after : Option Segments) (limit : ℕ) (old new : State) (answer : Result Page StoreError) → old.files ≡ files → StoreLists prefix after limit old answer new → IfOk answer (λ told. told ≡ page_of limit (listing prefix after (map.entries files)))
listed_in files prefix after limit old new (Ok page) same told = told.listed ∙ ap (λ fs. page_of limit (listing prefix after (map.entries fs))) same
listed_in files prefix after limit old new (Err e) same told = tt

-- the store's answer to what was asked

pub asked_get : (path : Segments) (request : Request) (old new : State) (reply : Option Reply) → request ≡ requests.Get path None → Replies (Some request) old reply new → (answer : Result Got StoreError) × (reply ≡ Some (replies.Get answer)) × StoreGets path None old answer new
asked_get path request old new None is told = absurd told
asked_get path request old new (Some (replies.Get answer)) is told = (answer, refl, rw is at told)
asked_get path request old new (Some reply) is told = absurd (rw is at told)

pub asked_list : (prefix : Segments) (after : Option Segments) (limit : ℕ) (request : Request) (old new : State) (reply : Option Reply) → request ≡ requests.List prefix after limit → Replies (Some request) old reply new → (answer : Result Page StoreError) × (reply ≡ Some (replies.List answer)) × StoreLists prefix after limit old answer new
asked_list prefix after limit request old new None is told = absurd told
asked_list prefix after limit request old new (Some (replies.List answer)) is told = (answer, refl, rw is at told)
asked_list prefix after limit request old new (Some reply) is told = absurd (rw is at told)

pub asked_look : (old new : State) (reply : Option Reply) → Replies None old reply new → (reply ≡ None) × (new ≡ old)
asked_look old new None told = (refl, told)
asked_look old new (Some reply) told = absurd told

module _ {T : Type 0} where
  -- how many calls a step makes
  abbrev pub calls_of : LatestOp T → ℕ
  calls_of Looks = 0
  calls_of (Probes hand found next request) = 1
  calls_of (Finds successor found) = 0
  calls_of (Lists found request) = 1
  calls_of (Chooses greatest) = 0
  calls_of (Gets id request) = 1
  calls_of (Keeps version value) = 0
  calls_of (Drops id) = 0
  calls_of Ended = 0

  -- an error that it tells has a cause
  abbrev pub LatestFails : State → State → Option StoreError → LatestOp T × Turned (ReadAnswer T) → Type 0
  LatestFails old new told (next, Goes) = Unit {0}
  LatestFails old new told (next, Done (Ok answer)) = Unit {0}
  LatestFails old new told (next, Done (Err number)) = NumberCause old new told number

  module _ (names : Names) (page : ℕ) (decode : List ℕ → Option T) (old new : State) (told : Option StoreError) where
    hand_fails : (op : LatestOp T) (id : ℕ) (value : Option T) → LatestFails old new told (read_in_hand decode op id value)
    hand_fails op id (Some value) = tt
    hand_fails op id None = inr (inl refl)

    in_hand_fails : (op : LatestOp T) (hand : Cached) (found : ℕ) → LatestFails old new told (in_hand names decode op hand found)
    in_hand_fails op hand found = elim (cases_Bool (hand.id == 18446744073709551615)) [ inl last ↦ rw last (hand_fails op hand.id (decode hand.bytes)) | inr more ↦ rw more tt ]

    pub begins_fails : (op : LatestOp T) (o : Option Cached) → LatestFails old new told (begins_with names page decode op o)
    begins_fails op None = tt
    begins_fails op (Some hand) = in_hand_fails op hand 0

    pub found_fails : (op : LatestOp T) (successor : Cached) (found : ℕ) → LatestFails old new told (found_turned names page decode op successor found)
    found_fails op successor found = elim (cases_Bool (found == 4)) [ inl last ↦ rw last tt | inr more ↦ rw more (in_hand_fails op successor found) ]

    paged_fails : (next : Option Segments) (found : Option ℕ) → LatestFails old new told (paged_turned names page next found)
    paged_fails None found = tt
    paged_fails (Some after) found = tt

    keeping_fails : (op : LatestOp T) (version : Cached) (value : Option T) → LatestFails old new told (keeping decode op version value)
    keeping_fails op version (Some value) = tt
    keeping_fails op version None = inr (inl refl)

    pub chosen_fails : (op : LatestOp T) (greatest : Option ℕ) (latest : List Cached) → LatestFails old new told (chosen names decode op greatest latest)
    chosen_fails op None latest = by_held (greatest_held latest)
      where
        by_held : (o : Option Cached) → LatestFails old new told (unlisted op o)
        by_held None = tt
        by_held (Some cached) = tt
    chosen_fails op (Some id) latest = by_held (held id latest)
      where
        by_held : (o : Option Cached) → LatestFails old new told (held_or_got names decode op id o)
        by_held None = tt
        by_held (Some cached) = keeping_fails op cached (decode cached.bytes)

  module _ (names : Names) (page : ℕ) (decode : List ℕ → Option T) (old new : State) where
    pub probe_fails : (op : LatestOp T) (hand : Cached) (found next : ℕ) (path : Segments) (answer : Result Got StoreError) → StoreGets path None old answer new → LatestFails old new (reply_told (Some (replies.Get answer))) (probed decode op hand found next answer)
    probe_fails op hand found next path (Ok got) g = tt
    probe_fails op hand found next path (Err errors.NotFound) g = hand_fails names page decode old new (Some errors.NotFound) op hand.id (decode hand.bytes)
    probe_fails op hand found next path (Err errors.AlreadyExists) g = get_failed (map.get old.files path) old new errors.AlreadyExists (λ e. cc) g.err
    probe_fails op hand found next path (Err errors.Precondition) g = get_failed (map.get old.files path) old new errors.Precondition (λ e. cc) g.err
    probe_fails op hand found next path (Err errors.NotModified) g = get_failed (map.get old.files path) old new errors.NotModified (λ e. cc) g.err
    probe_fails op hand found next path (Err errors.Failed) g = get_failed (map.get old.files path) old new errors.Failed (λ e. cc) g.err
    probe_fails op hand found next path (Err errors.NoMemory) g = get_failed (map.get old.files path) old new errors.NoMemory (λ e. cc) g.err
    probe_fails op hand found next path (Err errors.TokensExhausted) g = get_failed (map.get old.files path) old new errors.TokensExhausted (λ e. cc) g.err

    pub got_fails : (op : LatestOp T) (id : ℕ) (path : Segments) (answer : Result Got StoreError) → StoreGets path None old answer new → LatestFails old new (reply_told (Some (replies.Get answer))) (latest_got names page decode op id answer)
    got_fails op id path (Ok got) g = keeping_fails names page decode old new None op (record { id = id; bytes = got.bytes }) (decode got.bytes)
    got_fails op id path (Err errors.NotFound) g = tt
    got_fails op id path (Err errors.AlreadyExists) g = get_failed (map.get old.files path) old new errors.AlreadyExists (λ e. cc) g.err
    got_fails op id path (Err errors.Precondition) g = get_failed (map.get old.files path) old new errors.Precondition (λ e. cc) g.err
    got_fails op id path (Err errors.NotModified) g = get_failed (map.get old.files path) old new errors.NotModified (λ e. cc) g.err
    got_fails op id path (Err errors.Failed) g = get_failed (map.get old.files path) old new errors.Failed (λ e. cc) g.err
    got_fails op id path (Err errors.NoMemory) g = get_failed (map.get old.files path) old new errors.NoMemory (λ e. cc) g.err
    got_fails op id path (Err errors.TokensExhausted) g = get_failed (map.get old.files path) old new errors.TokensExhausted (λ e. cc) g.err

    pub list_fails : (op : LatestOp T) (found : Option ℕ) (prefix : Segments) (after : Option Segments) (limit : ℕ) (answer : Result Page StoreError) → StoreLists prefix after limit old answer new → LatestFails old new (reply_told (Some (replies.List answer))) (listed names page op found answer)
    list_fails op found prefix after limit (Ok p) l = paged_fails names page decode old new None (next_after p) (greatest_from found names p.metas)
    list_fails op found prefix after limit (Err e) l = list_failed old new e l.err
