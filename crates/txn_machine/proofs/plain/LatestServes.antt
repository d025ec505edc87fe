-- What a look and a serve leave a read of the newest version with.
use Rattle.std.proofs.Common.{◌≡◌, ℕ, ◌+◌, ◌<◌, ◌≤◌, ◌^◌, ◌==◌, List, take, is_some, true, false, Option, Some, None, Ok, Err, Result, inl, inr, refl, sym, ◌∙◌, ap, subst, arith}
use Rattle.std.specs.Option.{option_map}
use Rattle.std.specs.FinMap.{get}
use Rattle.std.proofs.lemmas.Bool.{cases_Bool, cases_lt, eqb-true, eqb-false}
use Rattle.std.proofs.lemmas.Option.{same_Some}
use Rattle.txn_store.specs.Paths.{Segments}
use Rattle.txn_store.specs.VersionName.{version_path}
use Rattle.txn_store.specs.Store.{State as StoreState, Gets, Lists as StoreLists}
use Rattle.txn_store.specs.Requests.{Serves}
use Rattle.txn_store.specs.declared.page.Page.{Page}
use Rattle.txn_store.specs.declared.store.Got.{Got}
use Rattle.txn_store.specs.declared.store.StoreError.{StoreError}
use Rattle.txn_store.specs.declared.store.StoreError.TheVariants as errors
use Rattle.txn_store.specs.declared.request.Request.{Request}
use Rattle.txn_store.specs.declared.request.Reply.{Reply}
use Rattle.txn_store.specs.declared.request.Reply.TheVariants as replies
use Rattle.txn_steps.specs.declared.boundary.caches.Cached.{Cached}
use Rattle.txn_steps.specs.declared.boundary.caches.Caches.{Caches}
use Rattle.txn_steps.specs.declared.boundary.turned.Turned.{Turned}
use Rattle.txn_steps.specs.declared.boundary.turned.Turned.TheVariants.{Goes, Done}
use Rattle.txn_steps.specs.boundary.Windows.{held, greatest_held}
use Rattle.txn_steps.specs.declared.latest.LatestOp.{LatestOp}
use Rattle.txn_steps.specs.declared.latest.LatestOp.TheVariants.{Looks, Probes, Finds, Lists, Chooses, Gets as GetsVersion, Keeps, Drops, Ended}
use Rattle.txn_steps.specs.Requests.{version_got, version_page}
use Rattle.txn_steps.specs.Latest.{ReadAnswer, latest_asked, paged_turned, listed, unlisted, found_kept, latest_window_after, read_in_hand, answered, probed, keeping, got_decoded, in_hand, held_or_got, chosen, begins_with, found_turned, latest_got, latest_turned}
use Rattle.txn_history.specs.Trace.{PlainRow}
use Rattle.txn_history.specs.Lists.{numbered}
use Rattle.txn_history.specs.Names.{world_names}
use Rattle.txn_history.specs.History.{Version, versions_of, newest, boundary, IsEntry}
use Rattle.txn_history.specs.Calls.{was_begun}
use Rattle.txn_history.specs.Facts.{WasNewest}
use Rattle.txn_history.proofs.Rows.{entry_at}
use Rattle.txn_machine.proofs.plain.Stands.{KnowStands, IsKnown, Open, WasEmpty, Carried, WindowFits, CachesStand, HoldsStand, ListingStands, FoundStands, ChosenStands, LatestStands, list_versions, is_there}
use Rattle.txn_machine.proofs.plain.Windows.{kept_fits, above_fits, held_fits, greatest_fits}
use Rattle.txn_machine.proofs.plain.Lists.{within, numbered_there}
use Rattle.txn_history.proofs.More.{AtRow-now}
use Rattle.txn_machine.proofs.plain.Faults.{ruled_out, missing_other, get_missing}
use Rattle.txn_machine.proofs.plain.Stored.{carried_entry, carried_stored, there_above}
use Rattle.txn_machine.proofs.plain.Pages.{IsNewest, NewestLeaves, newest_leaves}
use Rattle.txn_machine.proofs.plain.Turns.{LatestTells}

module _ {T : Type 0} (decode : List ℕ → Option T) where
  -- the version that was found, where it is in hand: it is still open, and was the newest
  pub found_newest : (rows : List (PlainRow T)) (op : ℕ) (version : Cached) (value : T) → FoundStands rows op version.id → Carried decode rows version → decode version.bytes ≡ Some value → Open rows version.id (WasNewest decode rows op version.id value)
  found_newest rows op version value f c reads =
      elim c.is [
        | inl below ↦ inl below
        | inr own ↦
            let same : Some f.version.1 ≡ Some version.bytes = sym (ap (option_map (λ (v : Version). v.1)) f.kept) ∙ own in
            let reads_as : decode f.version.1 ≡ Some value = ap decode (same_Some f.version.1 version.bytes same) ∙ reads in
            inr (record {
              place = f.moment.place;
              within = f.moment.within;
              begun = f.moment.begun;
              there = (f.moment.there.0, entry_at decode (take f.moment.place rows) version.id f.version value f.moment.there.1 reads_as);
            })
      ]

  module _ (rows : List (PlainRow T)) (op : ℕ) (begun : was_begun rows op ≡ true) where
    -- a version in hand that is the newest now, unless the boundary has reached it
    newest_now : (hand : Cached) (value : T) → Carried decode rows hand → decode hand.bytes ≡ Some value → (boundary rows < hand.id → newest rows ≡ hand.id) → Open rows hand.id (WasNewest decode rows op hand.id value)
    newest_now hand value c reads last =
        elim (cases_lt (boundary rows) hand.id) [
          | inr below ↦ inl below
          | inl above ↦ elim (carried_entry decode rows hand value c reads) [
            | inl below ↦ inl below
            | inr entry ↦ inr (AtRow-now rows op (λ front. (newest front ≡ hand.id) × IsEntry decode front hand.id value) begun (last above, entry))
          ]
        ]

    -- it is answered
    answered_tells : (latest : LatestOp T) (hand : Cached) → Carried decode rows hand → (boundary rows < hand.id → newest rows ≡ hand.id) → LatestTells decode rows op (answered decode latest hand)
    answered_tells latest hand c last = subst (λ (read : Option T). LatestTells decode rows op (read_in_hand decode latest hand.id read)) (sym c.reads) (c.known, newest_now hand c.value c c.reads last)

    -- its successor is asked for, unless it has the greatest id of all
    in_hand_tells : (latest : LatestOp T) (hand : Cached) (found : ℕ) → newest rows < 2 ^ 64 → Carried decode rows hand → LatestTells decode rows op (in_hand world_names decode latest hand found)
    in_hand_tells latest hand found small c =
        let known = c.known in
        elim (cases_Bool (hand.id == 18446744073709551615)) [
          | inl top ↦ rw top (answered_tells latest hand c (λ above. (let at = eqb-true hand.id 18446744073709551615 top in omega (arith, at, known.1, small))))
          | inr low ↦ rw low (let apart = eqb-false hand.id 18446744073709551615 low in (c, refl, omega (arith, apart, known.1, small), refl))
        ]

    -- it lists from the first page
    listing_stands : (page : ℕ) → 1 ≤ page → ListingStands rows None (version_page world_names None page)
    listing_stands page room = record { after = None; limit = page; room = room; asks = refl; reached = 0; begins = inl (refl, refl); passed = λ some. absurd (omega (arith, some)); known = λ n e. cc }

    -- a version in hand of the id that was found
    keeping_tells : (latest : LatestOp T) (version : Cached) → FoundStands rows op version.id → Carried decode rows version → LatestTells decode rows op (got_decoded decode latest version)
    keeping_tells latest version f c = subst (λ (read : Option T). LatestTells decode rows op (keeping decode latest version read)) (sym c.reads) (f, (c, c.reads))

    -- what the last page told
    chosen_now : (found : Option ℕ) → IsNewest found (newest rows) → ChosenStands rows op found
    chosen_now None none = AtRow-now rows op (λ front. newest front ≡ 0) begun none
    chosen_now (Some id) top =
        let v = numbered_there (versions_of rows) id top.0 (omega (arith, top.1)) in
        record { version = v.0; moment = AtRow-now rows op (λ front. (newest front ≡ id) × (numbered (versions_of front) id ≡ Some v.0)) begun (sym top.1, v.1); kept = v.1 }

    -- after a page: the greatest listed id is chosen, or the next page is asked for
    paged : (page : ℕ) → 1 ≤ page → (next : Option Segments) (found : Option ℕ) → NewestLeaves rows next found → LatestTells decode rows op (paged_turned world_names page next found)
    paged page room None found h = chosen_now found h
    paged page room (Some path) found h = h page room

    -- looks

    begins_tells : (page : ℕ) → 1 ≤ page → (latest : LatestOp T) (hand : Option Cached) → newest rows < 2 ^ 64 → ((version : Cached) → hand ≡ Some version → Carried decode rows version) → LatestTells decode rows op (begins_with world_names page decode latest hand)
    begins_tells page room latest None small c = listing_stands page room
    begins_tells page room latest (Some hand) small c = in_hand_tells latest hand 0 small (c hand refl)

    found_tells : (page : ℕ) → 1 ≤ page → (latest : LatestOp T) (successor : Cached) (found : ℕ) → newest rows < 2 ^ 64 → Carried decode rows successor → LatestTells decode rows op (found_turned world_names page decode latest successor found)
    found_tells page room latest successor found small c =
        elim (cases_Bool (found == 4)) [
          | inl four ↦ rw four (listing_stands page room)
          | inr fewer ↦ rw fewer (in_hand_tells latest successor found small c)
        ]

    -- nothing is listed
    unlisted_tells : (latest : LatestOp T) (hand : Option Cached) → WasEmpty rows op → LatestTells decode rows op (unlisted latest hand)
    unlisted_tells latest None empty = empty
    unlisted_tells latest (Some cached) empty = empty

    held_tells : (latest : LatestOp T) (id : ℕ) (cached : Option Cached) → FoundStands rows op id → ((version : Cached) → cached ≡ Some version → Carried decode rows version × (version.id ≡ id)) → LatestTells decode rows op (held_or_got world_names decode latest id cached)
    held_tells latest id None f c = (f, refl)
    held_tells latest id (Some version) f c = let own = c version refl in keeping_tells latest version (subst (FoundStands rows op) (sym own.1) f) own.0

    chosen_tells : (latest : LatestOp T) (greatest : Option ℕ) (versions : List Cached) → ChosenStands rows op greatest → WindowFits decode rows versions → LatestTells decode rows op (chosen world_names decode latest greatest versions)
    chosen_tells latest None versions empty w = unlisted_tells latest (greatest_held versions) empty
    chosen_tells latest (Some id) versions f w = held_tells latest id (held id versions) f (λ version e. held_fits decode rows id versions version w e)

    kept_tells : (version : Cached) (value : T) → FoundStands rows op version.id → HoldsStand decode rows version value → LatestTells decode rows op (Ended, Done (Ok (Some (version.id, value))))
    kept_tells version value f h = (h.0.known, found_newest rows op version value f h.0 h.1)

    looks_tell : (page : ℕ) → 1 ≤ page → newest rows < 2 ^ 64 → (latest : LatestOp T) (versions : List Cached) → WindowFits decode rows versions → LatestStands decode rows op latest → latest_asked latest ≡ None → LatestTells decode rows op (latest_turned world_names page decode latest versions None)
    looks_tell page room small Looks versions w s none = begins_tells page room Looks (greatest_held versions) small (λ version e. greatest_fits decode rows versions version w e)
    looks_tell page room small (Finds successor found) versions w s none = found_tells page room (Finds successor found) successor found small s
    looks_tell page room small (Chooses greatest) versions w s none = chosen_tells (Chooses greatest) greatest versions s w
    looks_tell page room small (Keeps version value) versions w s none = kept_tells version value s.0 s.1
    looks_tell page room small (Drops id) versions w s none = s
    looks_tell page room small (Probes hand found next request) versions w s none = cc
    looks_tell page room small (Lists found request) versions w s none = cc
    looks_tell page room small (GetsVersion id request) versions w s none = cc
    looks_tell page room small Ended versions w s none = absurd s

  -- what it leaves of the window is carried

  found_fits : (rows : List (PlainRow T)) (successor : Cached) (versions : List Cached) (told : Turned (ReadAnswer T)) → Carried decode rows successor → WindowFits decode rows versions → WindowFits decode rows (found_kept versions successor told)
  found_fits rows successor versions Goes c w = kept_fits decode rows successor versions c w
  found_fits rows successor versions (Done (Ok answer)) c w = kept_fits decode rows successor versions c w
  found_fits rows successor versions (Done (Err number)) c w = w

  pub latest_fits : (rows : List (PlainRow T)) (op : ℕ) (latest : LatestOp T) (versions : List Cached) (told : Turned (ReadAnswer T)) → LatestStands decode rows op latest → WindowFits decode rows versions → WindowFits decode rows (latest_window_after latest versions told)
  latest_fits rows op (Finds successor found) versions told s w = found_fits rows successor versions told s w
  latest_fits rows op (Keeps version value) versions told s w = kept_fits decode rows version versions s.1.0 w
  latest_fits rows op (Drops id) versions told s w = above_fits decode rows id versions w
  latest_fits rows op Looks versions told s w = w
  latest_fits rows op (Probes hand found next request) versions told s w = w
  latest_fits rows op (Lists found request) versions told s w = w
  latest_fits rows op (Chooses greatest) versions told s w = w
  latest_fits rows op (GetsVersion id request) versions told s w = w
  latest_fits rows op Ended versions told s w = w

  pub latest_looks : (rows : List (PlainRow T)) (store : StoreState) (op : ℕ) (latest : LatestOp T) (caches : Caches) (page : ℕ) → 1 ≤ page → newest rows < 2 ^ 64 → was_begun rows op ≡ true → CachesStand decode rows store caches → LatestStands decode rows op latest → latest_asked latest ≡ None →
      LatestTells decode rows op (latest_turned world_names page decode latest caches.latest None)
  latest_looks rows store op latest caches page room small begun cs s none = looks_tell rows op begun page room small latest caches.latest cs.latest s none

module _ {T : Type 0} (decode : List ℕ → Option T) (get_epoch : T → ℕ) (failed : List ℕ) (rows : List (PlainRow T)) (op : ℕ) (page : ℕ) (room : 1 ≤ page) (begun : was_begun rows op ≡ true) where
  -- serves

  -- a successor that is missing: the version in hand is the newest, unless the boundary has reached it
  last_in_hand : (old : StoreState) (hand : Cached) → KnowStands decode get_epoch failed rows old → IsKnown rows hand.id → get old.files (version_path world_names (hand.id + 1)) ≡ None → boundary rows < hand.id → newest rows ≡ hand.id
  last_in_hand old hand k known missing above =
      elim (cases_lt hand.id (newest rows)) [
        | inl lt ↦
            let there : is_there old.files (hand.id + 1) ≡ true = there_above decode get_epoch failed rows old k (hand.id + 1) (omega (arith, above)) (omega (arith, lt)) in
            let none : is_there old.files (hand.id + 1) ≡ false = ap is_some missing in
            absurd (cc)
        | inr ge ↦ omega (arith, ge, known.1)
      ]

  probe_served : (old new : StoreState) (latest : LatestOp T) (hand : Cached) (found next : ℕ) (answer : Result Got StoreError) → KnowStands decode get_epoch failed rows old → Carried decode rows hand → next ≡ hand.id + 1 → next < 2 ^ 64 →
      Gets (version_path world_names next) None old answer new → new.failures ≡ 0 → LatestTells decode rows op (probed decode latest hand found next answer)
  probe_served old new latest hand found next (Ok got) k c is fits g honest = carried_stored decode get_epoch failed rows old k next got fits g.found
  probe_served old new latest hand found next (Err errors.NotFound) k c is fits g honest =
      let missing : get old.files (version_path world_names (hand.id + 1)) ≡ None = ap (λ n. get old.files (version_path world_names n)) (sym is) ∙ get_missing None (get old.files (version_path world_names next)) g.err.0 in
      answered_tells decode rows op begun latest hand c (last_in_hand old hand k c.known missing)
  probe_served old new latest hand found next (Err errors.NoMemory) k c is fits g honest = refl
  probe_served old new latest hand found next (Err errors.Failed) k c is fits g honest = ruled_out old new honest g.err.0
  probe_served old new latest hand found next (Err errors.TokensExhausted) k c is fits g honest = absurd g.err
  probe_served old new latest hand found next (Err errors.AlreadyExists) k c is fits g honest = absurd (missing_other (get old.files (version_path world_names next)) errors.AlreadyExists (λ e. cc) g.err.0)
  probe_served old new latest hand found next (Err errors.Precondition) k c is fits g honest = absurd (missing_other (get old.files (version_path world_names next)) errors.Precondition (λ e. cc) g.err.0)
  probe_served old new latest hand found next (Err errors.NotModified) k c is fits g honest = absurd (missing_other (get old.files (version_path world_names next)) errors.NotModified (λ e. cc) g.err.0)

  list_served : (old new : StoreState) (latest : LatestOp T) (found : Option ℕ) (request : Request) (answer : Result Page StoreError) → KnowStands decode get_epoch failed rows old → (l : ListingStands rows found request) →
      StoreLists world_names.dir l.after l.limit old answer new → new.failures ≡ 0 → LatestTells decode rows op (listed world_names page latest found answer)
  list_served old new latest found request (Ok told) k l s honest =
      subst (λ (p : Page). LatestTells decode rows op (listed world_names page latest found (Ok p))) (sym s.listed) (paged decode rows op begun page room _ _ (newest_leaves decode get_epoch failed rows old k found request l))
  list_served old new latest found request (Err errors.NoMemory) k l s honest = refl
  list_served old new latest found request (Err errors.Failed) k l s honest = ruled_out old new honest s.err.0
  list_served old new latest found request (Err errors.TokensExhausted) k l s honest = absurd s.err
  list_served old new latest found request (Err errors.NotFound) k l s honest = let none = s.err.0 in absurd (cc)
  list_served old new latest found request (Err errors.AlreadyExists) k l s honest = let none = s.err.0 in absurd (cc)
  list_served old new latest found request (Err errors.Precondition) k l s honest = let none = s.err.0 in absurd (cc)
  list_served old new latest found request (Err errors.NotModified) k l s honest = let none = s.err.0 in absurd (cc)

  -- the id of a version that was found is small
  id_fits : (old : StoreState) (id : ℕ) → KnowStands decode get_epoch failed rows old → FoundStands rows op id → id < 2 ^ 64
  id_fits old id k f = let small = k.history.small in let within = within (versions_of rows) id f.version f.kept in omega (arith, small, within.1)

  -- the version that was found is read, or is missing, and the read lists again
  get_served : (old new : StoreState) (latest : LatestOp T) (id : ℕ) (answer : Result Got StoreError) → KnowStands decode get_epoch failed rows old → FoundStands rows op id →
      Gets (version_path world_names id) None old answer new → new.failures ≡ 0 → LatestTells decode rows op (latest_got world_names page decode latest id answer)
  get_served old new latest id (Ok got) k f g honest =
      keeping_tells decode rows op begun latest (record { id = id; bytes = got.bytes }) f (carried_stored decode get_epoch failed rows old k id got (id_fits old id k f) g.found)
  get_served old new latest id (Err errors.NotFound) k f g honest = listing_stands decode rows op begun page room
  get_served old new latest id (Err errors.NoMemory) k f g honest = refl
  get_served old new latest id (Err errors.Failed) k f g honest = ruled_out old new honest g.err.0
  get_served old new latest id (Err errors.TokensExhausted) k f g honest = absurd g.err
  get_served old new latest id (Err errors.AlreadyExists) k f g honest = absurd (missing_other (get old.files (version_path world_names id)) errors.AlreadyExists (λ e. cc) g.err.0)
  get_served old new latest id (Err errors.Precondition) k f g honest = absurd (missing_other (get old.files (version_path world_names id)) errors.Precondition (λ e. cc) g.err.0)
  get_served old new latest id (Err errors.NotModified) k f g honest = absurd (missing_other (get old.files (version_path world_names id)) errors.NotModified (λ e. cc) g.err.0)

  -- by the kind of the reply

  probe_replied : (old new : StoreState) (hand : Cached) (found next : ℕ) (request : Request) (versions : List Cached) (reply : Reply) → KnowStands decode get_epoch failed rows old → Carried decode rows hand → next ≡ hand.id + 1 → next < 2 ^ 64 →
      Serves (version_got world_names next) old reply new → new.failures ≡ 0 → LatestTells decode rows op (latest_turned world_names page decode (Probes hand found next request) versions (Some reply))
  probe_replied old new hand found next request versions (replies.Get answer) k c is fits g honest = probe_served old new (Probes hand found next request) hand found next answer k c is fits g honest
  probe_replied old new hand found next request versions (replies.Put answer) k c is fits g honest = absurd g
  probe_replied old new hand found next request versions (replies.List answer) k c is fits g honest = absurd g
  probe_replied old new hand found next request versions (replies.Delete answer) k c is fits g honest = absurd g

  list_replied : (old new : StoreState) (found : Option ℕ) (request : Request) (versions : List Cached) (reply : Reply) → KnowStands decode get_epoch failed rows old → (l : ListingStands rows found request) →
      Serves (list_versions l.after l.limit) old reply new → new.failures ≡ 0 → LatestTells decode rows op (latest_turned world_names page decode (Lists found request) versions (Some reply))
  list_replied old new found request versions (replies.List answer) k l s honest = list_served old new (Lists found request) found request answer k l s honest
  list_replied old new found request versions (replies.Put answer) k l s honest = absurd s
  list_replied old new found request versions (replies.Get answer) k l s honest = absurd s
  list_replied old new found request versions (replies.Delete answer) k l s honest = absurd s

  get_replied : (old new : StoreState) (id : ℕ) (request : Request) (versions : List Cached) (reply : Reply) → KnowStands decode get_epoch failed rows old → FoundStands rows op id →
      Serves (version_got world_names id) old reply new → new.failures ≡ 0 → LatestTells decode rows op (latest_turned world_names page decode (GetsVersion id request) versions (Some reply))
  get_replied old new id request versions (replies.Get answer) k f g honest = get_served old new (GetsVersion id request) id answer k f g honest
  get_replied old new id request versions (replies.Put answer) k f g honest = absurd g
  get_replied old new id request versions (replies.List answer) k f g honest = absurd g
  get_replied old new id request versions (replies.Delete answer) k f g honest = absurd g

  -- the request is the one that is asked
  as_asked : (old new : StoreState) (asked own is : Request) (reply : Reply) → Some own ≡ Some asked → own ≡ is → Serves asked old reply new → Serves is old reply new
  as_asked old new asked own is reply e f s = subst (λ (request : Request). Serves request old reply new) (sym (same_Some own asked e) ∙ f) s

  serves_tell : (old new : StoreState) (latest : LatestOp T) (versions : List Cached) (request : Request) (reply : Reply) → KnowStands decode get_epoch failed rows old → LatestStands decode rows op latest → latest_asked latest ≡ Some request → Serves request old reply new → new.failures ≡ 0 →
      LatestTells decode rows op (latest_turned world_names page decode latest versions (Some reply))
  serves_tell old new (Probes hand found next own) versions request reply k s e g honest = probe_replied old new hand found next own versions reply k s.0 s.1 s.2 (as_asked old new request own (version_got world_names next) reply e s.3 g) honest
  serves_tell old new (Lists found own) versions request reply k s e g honest = list_replied old new found own versions reply k s (as_asked old new request own (list_versions s.after s.limit) reply e s.asks g) honest
  serves_tell old new (GetsVersion id own) versions request reply k s e g honest = get_replied old new id own versions reply k s.0 (as_asked old new request own (version_got world_names id) reply e s.1 g) honest
  serves_tell old new Looks versions request reply k s e g honest = cc
  serves_tell old new (Finds successor found) versions request reply k s e g honest = cc
  serves_tell old new (Chooses greatest) versions request reply k s e g honest = cc
  serves_tell old new (Keeps version value) versions request reply k s e g honest = cc
  serves_tell old new (Drops id) versions request reply k s e g honest = cc
  serves_tell old new Ended versions request reply k s e g honest = absurd s

module _ {T : Type 0} (decode : List ℕ → Option T) (get_epoch : T → ℕ) where
  pub latest_serves : (failed : List ℕ) (rows : List (PlainRow T)) (old new : StoreState) (op : ℕ) (latest : LatestOp T) (versions : List Cached) (page : ℕ) (request : Request) (reply : Reply) → 1 ≤ page → KnowStands decode get_epoch failed rows old → was_begun rows op ≡ true → LatestStands decode rows op latest → latest_asked latest ≡ Some request →
      Serves request old reply new → new.failures ≡ 0 → LatestTells decode rows op (latest_turned world_names page decode latest versions (Some reply))
  latest_serves failed rows old new op latest versions page request reply room k begun s asks serves honest = serves_tell decode get_epoch failed rows op page room begun old new latest versions request reply k s asks serves honest
