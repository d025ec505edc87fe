-- What a get was answered of a file that was there before a sync of its folder: it reads so in the store of what a cut saved.
use Rattle.std.proofs.Common.{◌≡◌, ℕ, ◌^◌, ◌<◌, ◌≤◌, true, false, Option, Some, None, Ok, Err, refl, ap, sym, subst, ◌∙◌, arith, ◌⊎◌, inl, inr}
use Rattle.std.specs.Option.{option_map}
use Rattle.std.specs.FinMap.{get}
use Rattle.std.proofs.lemmas.Option.{same_Some}
use Rattle.txn_store.specs.Paths.{Segments}
use Rattle.txn_store.specs.VersionName.{Names}
use Rattle.txn_store.specs.declared.request.Request.{Request}
use Rattle.txn_store.specs.declared.request.Request.TheVariants as requests
use Rattle.txn_store.specs.declared.store.StoreError.TheVariants as errors
use Rattle.txn_store.specs.declared.request.Reply.{Reply}
use Rattle.txn_store.specs.declared.request.Reply.TheVariants as replies
use Rattle.txn_folder.specs.steps.Folders.{Place, File}
use Rattle.txn_folder.specs.steps.Steps as steps
use Rattle.txn_folder.specs.steps.Steps.{Verdict, Tells, Fails, Phase, Is, Ends, Work, Creates, Gets, Updates, Deletes, got_at, got_told, verdict_of}
use Rattle.txn_folder_model.specs.Worlds.{World, Event, IsPlace, world}
use Rattle.txn_folder_model.specs.Linear.{IsApart, path_of, request_of}
use Rattle.txn_folder_model.specs.Power.{Syncs, SyncsNames, IsFound, SyncsAll}
use Rattle.txn_folder_model.proofs.Ghosts.{Effect, Ghost, ReadsSo, effect_of, ghost_at}
use Rattle.txn_folder_model.proofs.Facts.{MayDo, Holds}
use Rattle.txn_folder_model.proofs.Replies.{got_reads}
use Rattle.txn_folder_model.proofs.Theorem.{Allowed, all_holds}
use Rattle.txn_folder_model.proofs.Sealed.{limit, WasSynced, WorkSo, GotEnds}
use Rattle.txn_folder_model.proofs.Power.{all_so, file_since}
use Rattle.txn_folder_model.proofs.Saved as saved_store

module _ (names : Names) (boundary : Segments) (floor : ℕ) (events : ℕ → Event) (apart : IsApart names boundary) (may : Allowed floor events) (cut : Place → ℕ) (syncs : Syncs) (n : ℕ) (room : n < 2 ^ 64) (late : (p : Place) (s : ℕ) → s < n → SyncsNames floor events syncs s p → s ≤ cut p) where
  abbrev path : Place → Segments
  path p = path_of names boundary p

  abbrev g : ℕ → Ghost
  g s = ghost_at names boundary floor events s

  abbrev e : ℕ → Option Effect
  e s = effect_of (world floor events s) (events s)

  abbrev saved : ℕ → Ghost
  saved s = saved_store.saved names boundary floor events cut s

  abbrev w : World
  w = world floor events n

  holds : (s : ℕ) → s < 2 ^ 64 → Holds names boundary floor g e s (world floor events s)
  holds s few = all_holds names boundary floor events apart may s few

  h : Holds names boundary floor g e n w
  h = holds n room

  abbrev Its : ℕ → Request
  Its c = request_of names boundary (w.calls c).work

  -- What a get was answered of a file that was there before a sync of its folder.
  pub record Read (c : ℕ) (reply : Reply) : Type 0 where
    pub at : ℕ
    pub since : (w.calls c).began ≤ at
    pub past : at < n
    pub until : (end : ℕ) → (w.calls c).ended ≡ Some end → at ≤ end
    pub told : (w.calls c).answer ≡ Some reply
    pub right : ReadsSo (saved at) (Its c) reply

  file_read : (c : ℕ) (place : Place) (known : Option ℕ) (reply : Reply) (file : ℕ) → IsPlace place → Its c ≡ requests.Get (path place) known → (w.calls c).answer ≡ Some reply → got_told known (got_at place (w.folder.files file)) ≡ Tells reply → WasSynced floor events syncs n (limit n (w.calls c).ended) (w.calls c).began place (Some file) → Read c reply
  file_read c place known reply file fits asks told says was =
      let past = was.past in
      let first = was.after in
      let most = late place was.sync was.past was.synced in
      let here : get (saved was.at).files (path place) ≡ Some (got_at place (w.folder.files file)) =
      saved_store.before names boundary floor events cut apart may place fits was.at (omega (arith, past, first, room)) (omega (arith, first, most))
      ∙ (holds was.at (omega (arith, past, first, room))).shown place fits
      ∙ ap (option_map (λ x. got_at place ((world floor events was.at).folder.files x))) was.is
      ∙ ap (λ (f : File). Some (got_at place f)) (sym (file_since floor events syncs place file was.at n (omega (arith, past, first)) was.is)) in
      let reads = got_reads (saved was.at) (path place) known (got_at place (w.folder.files file)) here in
      let same : reads.0 ≡ reply = ap (λ (v : Verdict). elim v [ Tells r ↦ r | Fails ↦ reply ]) (sym reads.1 ∙ says) in
      record {
        at = was.at;
        since = was.since;
        past = omega (arith, past, first);
        until = λ end ends. let within : was.sync < end = subst (λ (o : Option ℕ). was.sync < limit n o) ends was.within in omega (arith, within, first);
        told = told;
        right = subst (λ (q : Request). ReadsSo (saved was.at) q reply) (sym asks) (subst (ReadsSo (saved was.at) (requests.Get (path place) known)) same reads.2);
      }

  abbrev pub Reads : ℕ → Type 0
  Reads c = Unit {0} ⊎ ((reply : Reply) × Read c reply)

  abbrev EndsSo : ℕ → Place → Option ℕ → Reply → Type 0
  EndsSo c place known reply = GotEnds floor events syncs n w (limit n (w.calls c).ended) (w.calls c).began c place known (Tells reply)

  module _ (c : ℕ) (place : Place) (known : Option ℕ) (fits : IsPlace place) (asks : Its c ≡ requests.Get (path place) known) where
    abbrev end_read : (reply : Reply) → (w.calls c).answer ≡ Some reply → EndsSo c place known reply → Reads c
    end_read (replies.Get (Ok got)) told (file, was, says, inr synced) = inr (replies.Get (Ok got), file_read c place known (replies.Get (Ok got)) file fits asks told says synced)
    end_read (replies.Get (Err errors.NotModified)) told (file, was, says, inr synced) = inr (replies.Get (Err errors.NotModified), file_read c place known (replies.Get (Err errors.NotModified)) file fits asks told says synced)
    end_read reply told ends = inl tt

    -- which is so where no sync was left out
    end_found : (reply : Reply) (told : (w.calls c).answer ≡ Some reply) (ends : EndsSo c place known reply) → IsFound reply → SyncsAll floor events syncs n c → (r : Read c reply) × (end_read reply told ends ≡ inr (reply, r))
    end_found (replies.Get (Ok got)) told (file, was, says, inr synced) found none = (file_read c place known (replies.Get (Ok got)) file fits asks told says synced, refl)
    end_found (replies.Get (Ok got)) told (file, was, says, inl left) found none = absurd (let clash : true ≡ false = sym left.3 ∙ none left.0 left.1 left.2 in cc)
    end_found (replies.Get (Err errors.NotModified)) told (file, was, says, inr synced) found none = (file_read c place known (replies.Get (Err errors.NotModified)) file fits asks told says synced, refl)
    end_found (replies.Get (Err errors.NotModified)) told (file, was, says, inl left) found none = absurd (let clash : true ≡ false = sym left.3 ∙ none left.0 left.1 left.2 in cc)
    end_found reply told ends found none = absurd found

    abbrev got_read : (verdict : Verdict) (o : Option Reply) → (w.calls c).answer ≡ o → ((reply : Reply) → o ≡ Some reply → verdict ≡ Tells reply) → GotEnds floor events syncs n w (limit n (w.calls c).ended) (w.calls c).began c place known verdict → Reads c
    got_read verdict None told says ends = inl tt
    got_read verdict (Some reply) told says ends = end_read reply told (subst (GotEnds floor events syncs n w (limit n (w.calls c).ended) (w.calls c).began c place known) (says reply refl) ends)

    got_found : (verdict : Verdict) (o : Option Reply) (told : (w.calls c).answer ≡ o) (says : (reply : Reply) → o ≡ Some reply → verdict ≡ Tells reply) (ends : GotEnds floor events syncs n w (limit n (w.calls c).ended) (w.calls c).began c place known verdict) (reply : Reply) → o ≡ Some reply → IsFound reply → SyncsAll floor events syncs n c → (r : (x : Reply) × Read c x) × (got_read verdict o told says ends ≡ inr r) × (r.0 ≡ reply)
    got_found verdict None told says ends reply is found none = absurd (cc)
    got_found verdict (Some other) told says ends reply is found none =
        let same = same_Some other reply is in
        let one = end_found other told (subst (GotEnds floor events syncs n w (limit n (w.calls c).ended) (w.calls c).began c place known) (says other refl) ends) (subst IsFound (sym same) found) none in
        ((other, one.0), one.1, same)

  abbrev Told : ℕ → Work → Type 0
  Told c work = (reply : Reply) → (w.calls c).answer ≡ Some reply → verdict_of work ≡ Some (Tells reply)

  abbrev SoAt : ℕ → Work → Type 0
  SoAt c work = WorkSo floor events syncs n w (limit n (w.calls c).ended) (w.calls c).began c work

  abbrev says_of : (c : ℕ) (verdict : Verdict) → ((reply : Reply) → (w.calls c).answer ≡ Some reply → Some verdict ≡ Some (Tells reply)) → (reply : Reply) → (w.calls c).answer ≡ Some reply → verdict ≡ Tells reply
  says_of c verdict told reply is = same_Some verdict (Tells reply) (told reply is)

  abbrev work_read : (c : ℕ) (work : Work) → (w.calls c).work ≡ work → MayDo floor work → Told c work → SoAt c work → Reads c
  work_read c (Gets place known (Ends verdict)) is fits told so = got_read c place known fits (ap (request_of names boundary) is) verdict (w.calls c).answer refl (says_of c verdict told) so
  work_read c work is fits told so = inl tt

  work_found : (c : ℕ) (work : Work) (is : (w.calls c).work ≡ work) (fits : MayDo floor work) (told : Told c work) (so : SoAt c work) (place : Place) (known : Option ℕ) (phase : Phase steps.Getting) (reply : Reply) → work ≡ Gets place known phase → (w.calls c).answer ≡ Some reply → IsFound reply → SyncsAll floor events syncs n c → (r : (x : Reply) × Read c x) × (work_read c work is fits told so ≡ inr r) × (r.0 ≡ reply)
  work_found c (Gets there known (Ends verdict)) is fits told so place asked phase reply same answer found none = got_found c there known fits (ap (request_of names boundary) is) verdict (w.calls c).answer refl (says_of c verdict told) so reply answer found none
  work_found c (Gets there known (Is state)) is fits told so place asked phase reply same answer found none = absurd (let clash : None ≡ Some (Tells reply) = told reply answer in cc)
  work_found c (Creates there bytes p) is fits told so place asked phase reply same answer found none = absurd (cc)
  work_found c (Updates bytes token p) is fits told so place asked phase reply same answer found none = absurd (cc)
  work_found c (Deletes id p) is fits told so place asked phase reply same answer found none = absurd (cc)

  pub reads_of : (c : ℕ) → c < w.count → Reads c
  reads_of c low = work_read c (w.calls c).work refl (h.calls c low).may (h.calls c low).told ((all_so floor events syncs n).calls c low).work

  pub reads_found : (c : ℕ) (low : c < w.count) (place : Place) (known : Option ℕ) (phase : Phase steps.Getting) (reply : Reply) → (w.calls c).work ≡ Gets place known phase → (w.calls c).answer ≡ Some reply → IsFound reply → SyncsAll floor events syncs n c → (r : (x : Reply) × Read c x) × (reads_of c low ≡ inr r) × (r.0 ≡ reply)
  unfolding reads_of
  reads_found c low = work_found c (w.calls c).work refl (h.calls c low).may (h.calls c low).told ((all_so floor events syncs n).calls c low).work
