-- Clients make versions in order and raise the boundary: what they ask for says so, as their journals tell, up to each moment.
use Rattle.std.proofs.Common.{◌≡◌, ℕ, zero, suc, ◌+◌, ◌^◌, ◌<◌, ◌≤◌, ◌==◌, if◌then◌else◌, not, is_some, Bool, true, false, List, [], ◌∷◌, length, Option, Some, None, refl, ap, sym, subst, ◌∙◌, arith, ◌⊎◌, inl, inr}
use Rattle.std.specs.Prelude.{Contains, drop, reverse, nat_lt, unwrap_or}
use Rattle.std.specs.Option.{option_map}
use Rattle.std.specs.FinMap.{get}
use Rattle.std.proofs.lemmas.Bool.{cases_lt, eqb-true, ltb-true}
use Rattle.txn_store.specs.Paths.{Segments}
use Rattle.txn_store.specs.Store.{Files, update_fault}
use Rattle.txn_store.specs.VersionName.{Names, version_path}
use Rattle.txn_store.specs.declared.store.Got.{Got}
use Rattle.txn_store.specs.declared.store.PutMode.{PutMode}
use Rattle.txn_store.specs.declared.store.PutMode.TheVariants as modes
use Rattle.txn_store.specs.declared.store.StoreError.TheVariants as errors
use Rattle.txn_store.specs.declared.request.Request.{Request}
use Rattle.txn_store.specs.declared.request.Request.TheVariants as requests
use Rattle.txn_store.specs.types.BoundaryText.{boundary_read}
use Rattle.txn_history.specs.Names.{world_names, world_boundary}
use Rattle.txn_history.specs.declared.event.Answer.{Answer}
use Rattle.txn_machine.proofs.plain.Stands.{is_there}
use Rattle.txn_client_journals.specs.declared.rows.LogRow.{LogRow}
use Rattle.txn_client_journals.specs.declared.rows.Receipt.{Receipt}
use Rattle.txn_client_journals.specs.declared.rows.Act.TheVariants as acts
use Rattle.txn_client_journals.specs.declared.rows.Step.{Step}
use Rattle.txn_client_journals.specs.declared.rows.Step.TheVariants as steps
use Rattle.txn_client_journals.specs.declared.rows.JournalRow.{JournalRow}
use Rattle.txn_client_journals.specs.Journals.{left_in, left_of}
use Rattle.txn_client_journals.specs.Verdict.{AuditedDiary, journal_of, kept_by, received_by, receipts_in, clients_in}
use Rattle.txn_client_journals.specs.Shares.{merged, AreDiaries}
use Rattle.txn_folder_model.proofs.Owed.{HasBase, SaysLess, RaiseOwed, Owed, path_in, says_to, made_above, replaces, left_is_owed}
use Rattle.txn_client_journals.proofs.Woven.{pushed}
use Rattle.txn_folder.specs.steps.Folders.{Place, Version, Boundary, At}
use Rattle.txn_folder.specs.steps.Steps.{Is, Ends, Creating, Links, Renames, Work, Creates, Gets, Updates, Deletes, got_at}
use Rattle.txn_folder_model.specs.Worlds.{World, Event, MayHappen, SaysAbove, PutsAbove, world}
use Rattle.txn_folder_model.specs.Linear.{IsApart, IsElsewhere, AreRuns, AllComeInOrder, request_of}
use Rattle.txn_folder_model.specs.Listings.{stands, Listing}
use Rattle.txn_folder_model.specs.Clients.{Taken, IsChange, AreTold, AreSameRows, AreSameDiaries, AreOfFolder, ShareAFolder, left_before}
use Rattle.txn_folder_model.proofs.Facts.{MayDo, IsLive, live_of}
use Rattle.txn_folder_model.proofs.Theorem.{Allowed, all_holds, ghosts}
use Rattle.txn_folder_model.proofs.Placing.{Receives, Other, view}
use Rattle.txn_folder_model.proofs.Due.{keeps}
use Rattle.txn_folder_model.proofs.Runs.{is_linearizable}
use Rattle.txn_folder_model.proofs.Shared.{same_step, its_log, its_diaries, its_same, is_merged_of, share_a_folder}
use Rattle.txn_folder_model.proofs.Earlier.{GoesOn, IsTimed, goes_on, timed, there_before}
use Rattle.txn_folder_model.proofs.Kept.{pick, picked}
use Rattle.txn_folder_model.proofs.Prefix.{keep, listings_then, many_then}
use Rattle.txn_folder_model.proofs.Making.{Maker, event_makes}
use Rattle.txn_folder_model.proofs.Diaries.{push, diaries_then, are_diaries, ops_then, of_folder}
use Rattle.txn_folder_model.proofs.Until.{until, same_until, may_until, rises_until, run_ends, run_same}
use Rattle.txn_folder_model.proofs.Alike.{of_folder_alike}
use Rattle.txn_folder_model.proofs.Rises.{RisesNow, effect_rises}
use Rattle.txn_folder_model.proofs.Ghosts.{RisesIn, effect_of}
use Rattle.txn_folder_model.proofs.Stepping.{nobody, second_true}
use Rattle.txn_folder_model.proofs.Paths.{same_path, same_id, no_version}

-- the token that was compared
matched : (old : ℕ) (got : Got) → update_fault old (Some got) ≡ None → got.token ≡ old
matched old got none = by (got.token == old) refl none
  where
    by : (b : Bool) → (got.token == old) ≡ b → (if b then None else Some errors.Precondition) ≡ None → got.token ≡ old
    by true is none = eqb-true got.token old is
    by false is none = absurd (cc)

-- a list of which nothing is left
none_left : {A : Type 0} (k : ℕ) (xs : List A) → ((x : A) → Contains (drop k xs) x → ⊥) → length xs ≤ k
none_left k [] none = omega arith
none_left zero (x ∷ xs) none = absurd (none x (0, omega arith, refl))
none_left (suc k) (x ∷ xs) none = let more = none_left k xs none in omega (arith, more)

module _ {T : Type 0} where
  abbrev row_of : Step T → Option (Answer T) → JournalRow T
  row_of step answer = record { step = step; answer = answer }

  -- what is left before a receipt that is none is left at last
  left_all : (number op : ℕ) (rows base : List (JournalRow T)) → length (receipts_in rows) ≤ number → left_before number op (left_of op base) rows ≡ left_of op (pushed rows base)
  left_all number op [] base most = refl
  left_all number op (row ∷ rows) base most = by number row.step row.answer (λ k less. left_all k op rows (row ∷ base) less) (view row.step) most
    where
      took : (number o : ℕ) (old : Receipt) (answer : Option (Answer T)) → ((k : ℕ) → length (receipts_in rows) ≤ k → left_before k op (left_of op base) rows ≡ left_of op (pushed rows (row_of (steps.Act o (acts.Receive old)) answer ∷ base))) → suc (length (receipts_in rows)) ≤ number →
          left_before number op (left_of op base) (row_of (steps.Act o (acts.Receive old)) answer ∷ rows) ≡ left_of op (pushed rows (row_of (steps.Act o (acts.Receive old)) answer ∷ base))
      took zero o old answer more most = absurd (omega (arith, most))
      took (suc k) o old answer more most = more k (omega (arith, most))

      by : (number : ℕ) (step : Step T) (answer : Option (Answer T)) → ((k : ℕ) → length (receipts_in rows) ≤ k → left_before k op (left_in op step (left_of op base)) rows ≡ left_of op (pushed rows (row_of step answer ∷ base))) → Receives step ⊎ Other step → length (received_by step (receipts_in rows)) ≤ number →
          left_before number op (left_of op base) (row_of step answer ∷ rows) ≡ left_of op (pushed rows (row_of step answer ∷ base))
      by number step answer more (inl (o, old, at)) =
          let first = subst (λ (s : Step T). (k : ℕ) → length (receipts_in rows) ≤ k → left_before k op (left_in op s (left_of op base)) rows ≡ left_of op (pushed rows (row_of s answer ∷ base))) at more in
          subst (λ (s : Step T). length (received_by s (receipts_in rows)) ≤ number → left_before number op (left_of op base) (row_of s answer ∷ rows) ≡ left_of op (pushed rows (row_of s answer ∷ base))) (sym at)
          (took number o old answer first)
      by number step answer more (inr o) = λ most. rw (o.takes number) (rw (o.behind number) (more number (subst (λ (l : List Receipt). length l ≤ number) (o.received (receipts_in rows)) most)))

  same_lefts : (op : ℕ) (rows others base with_base : List (JournalRow T)) → AreSameRows rows others → left_of op base ≡ left_of op with_base → left_of op (pushed rows base) ≡ left_of op (pushed others with_base)
  same_lefts op [] [] base with_base same is = is
  same_lefts op [] (other ∷ others) base with_base same is = absurd same
  same_lefts op (row ∷ rows) [] base with_base same is = absurd same
  same_lefts op (row ∷ rows) (other ∷ others) base with_base same is =
      let step : (found : Option Request) → left_in op row.step found ≡ left_in op other.step found =
      same_step (λ (s : Step T). (found : Option Request) → left_in op row.step found ≡ left_in op s found) (λ o p r now a b c h. h) row.step other.step same.0 (λ found. refl) in
      same_lefts op rows others (row ∷ base) (other ∷ with_base) same.2 (step (left_of op base) ∙ ap (left_in op other.step) is)

  same_journals : (client : ℕ) (ds others : List (AuditedDiary T)) → AreSameDiaries ds others → AreSameRows (journal_of ds client) (journal_of others client)
  same_journals client [] [] same = tt
  same_journals client [] (other ∷ others) same = absurd same
  same_journals client (d ∷ ds) [] same = absurd same
  same_journals client (d ∷ ds) (other ∷ others) same =
      subst (λ (c : ℕ). AreSameRows (if d.client == client then d.rows else journal_of ds client) (if c == client then other.rows else journal_of others client)) same.0
      (by (d.client == client) (same_journals client ds others same.3))
    where
      by : (b : Bool) → AreSameRows (journal_of ds client) (journal_of others client) → AreSameRows (if b then d.rows else journal_of ds client) (if b then other.rows else journal_of others client)
      by true more = same.2
      by false more = more

module _ {T : Type 0} (page : ℕ) (encode : T → List ℕ) (decode : List ℕ → Option T) (get_epoch : T → ℕ) (set_epoch : T → ℕ → T)
    (names : Names) (boundary : Segments) (floor n many : ℕ) (ops : ℕ → ℕ) (events : ℕ → Event) (listings : ℕ → Listing)
    (apart : IsApart names boundary) (apart_there : IsApart world_names boundary) (elsewhere : IsElsewhere names boundary) (may : (t : ℕ) → MayHappen floor (events t)) (room : n < 2 ^ 64) (made : AreRuns names n (world floor events) listings many)
    (paged : 1 ≤ page) (ds : List (AuditedDiary T)) (kept : AreDiaries page encode decode get_epoch set_epoch ds) (of : AreOfFolder names boundary ops n (world floor events) listings many ds) where
  abbrev w : ℕ → World
  w = world floor events

  -- a version is made at a moment only where the one before it stands, or a later one
  abbrev InOrderAt : ℕ → Type 0
  InOrderAt s = (id : ℕ) → stands (w s) (id + 1) ≡ false → stands (w (suc s)) (id + 1) ≡ true → (id ≡ 0) ⊎ ((later : ℕ) × (id ≤ later) × (stands (w s) later ≡ true))

  -- and the boundary is changed to say more
  abbrev IsGood : ℕ → Type 0
  IsGood s = InOrderAt s × RisesIn (effect_of (w s) (events s))

  listed : (l : ℕ) → l < many → (listings l).began ≤ (listings l).ended
  listed l low = run_ends names w (listings l) (made l low).0

  -- The calls, the listings and the diaries up to a moment.
  module _ (m : ℕ) (most : m ≤ n) (so_far : (s : ℕ) → s < m → IsGood s) where
    abbrev before : ℕ → World
    before = world floor (until m events)

    same : (t : ℕ) → t ≤ m → before t ≡ w t
    same t low = same_until floor events m t low

    on : (c : ℕ) → c < (before m).count → ((before m).count ≤ (w n).count) × GoesOn names boundary m ((before m).calls c) ((w n).calls c)
    on c = subst (λ (u : World). c < u.count → (u.count ≤ (w n).count) × GoesOn names boundary m (u.calls c) ((w n).calls c)) (sym (same m (omega arith))) (goes_on names boundary floor events m n c most)

    there : (c : ℕ) → c < (w n).count → (c < (before m).count) ⊎ (m ≤ ((w n).calls c).began)
    there c low = subst (λ (u : World). (c < u.count) ⊎ (m ≤ ((w n).calls c).began)) (sym (same m (omega arith))) (there_before names boundary floor events m n c most low)

    timed_then : (c : ℕ) → c < (before m).count → IsTimed m ((before m).calls c)
    timed_then c low = timed names boundary floor (until m events) m c low

    timed_last : (c : ℕ) → c < (w n).count → IsTimed n ((w n).calls c)
    timed_last c low = timed names boundary floor events n c low

    abbrev lists : ℕ → Listing
    lists = listings_then names boundary ops n w listings many m before on there timed_then timed_last listed

    abbrev lists_many : ℕ
    lists_many = many_then names boundary ops n w listings many m before on there timed_then timed_last listed

    abbrev keeps_it : ℕ → Bool
    keeps_it = keep names boundary ops n w listings many m before on there timed_then timed_last listed

    made_then : AreRuns names m before lists lists_many
    made_then j low =
        let p = picked keeps_it many j low in
        let past = ltb-true (listings (pick keeps_it many j)).ended m p.kept in
        (run_same names w before (listings (pick keeps_it many j)) m (λ t less. sym (same t (omega (arith, less)))) past (made (pick keeps_it many j) p.below).0, past)

    order_then : AllComeInOrder before lists lists_many
    order_then j low s id from high free stood =
        let past = (made_then j low).1 in
        let at = same s (omega (arith, high, past)) in
        let next = same (suc s) (omega (arith, high, past)) in
        subst (λ (u : World). (id ≡ 0) ⊎ ((later : ℕ) × (id ≤ later) × (stands u later ≡ true))) (sym at)
        ((so_far s (omega (arith, high, past))).0 id (subst (λ (u : World). stands u (id + 1) ≡ false) at free) (subst (λ (u : World). stands u (id + 1) ≡ true) next stood))

    may_then : Allowed floor (until m events)
    may_then = (may_until floor events may m, rises_until floor events m (λ s less. (so_far s less).1))

    room_then : m < 2 ^ 64
    room_then = omega (arith, most, room)

    abbrev ds_then : List (AuditedDiary T)
    ds_then = diaries_then page encode decode get_epoch set_epoch names boundary ops n w listings many m before on there timed_then timed_last listed ds kept of.keep

    kept_then : AreDiaries page encode decode get_epoch set_epoch ds_then
    kept_then = are_diaries page encode decode get_epoch set_epoch names boundary ops n w listings many m before on there timed_then timed_last listed ds kept of.keep

    abbrev ops_of : ℕ → ℕ
    ops_of = ops_then page encode decode get_epoch set_epoch names boundary ops n w listings many m before on there timed_then timed_last listed ds of

    of_then : AreOfFolder names boundary ops_of m before lists lists_many ds_then
    of_then = of_folder page encode decode get_epoch set_epoch names boundary ops n w listings many m before on there timed_then timed_last listed ds kept of

    abbrev files : Files
    files = (ghosts names boundary floor (until m events) apart may_then m).files

    abbrev placed : List (AuditedDiary T)
    placed = its_diaries page encode decode get_epoch set_epoch names boundary floor m lists_many ops_of (until m events) lists apart elsewhere may_then room_then made_then order_then ds_then paged kept_then of_then

    abbrev placed_log : List LogRow
    placed_log = its_log page encode decode get_epoch set_epoch names boundary floor m lists_many ops_of (until m events) lists apart elsewhere may_then room_then made_then order_then ds_then paged kept_then of_then

    told_size : (all : List Taken) (rs : List Receipt) → AreTold names boundary ops_of m before lists lists_many all rs → length rs ≤ length all
    told_size [] [] told = omega arith
    told_size [] (r ∷ rs) told = absurd told
    told_size (x ∷ all) [] told = absurd told
    told_size (x ∷ all) (r ∷ rs) told = let more = told_size all rs told.1 in omega (arith, more)

    -- what a call asks for that goes on then is left in its client's journal up to then
    left_then : (c : ℕ) → c < (before m).count → ((before m).calls c).ended ≡ None → IsChange (request_of names boundary ((before m).calls c).work) → left_of (ops_of c) (reverse (journal_of placed ((before m).calls c).client)) ≡ Some (request_of names boundary ((before m).calls c).work)
    left_then c low none change =
        let client = ((before m).calls c).client in
        let k = keeps names boundary ops_of m before lists lists_many (is_linearizable names boundary floor (until m events) apart elsewhere may_then m room_then lists lists_many made_then order_then ops_of) ds_then of_then client (of_then.of_calls c low) in
        let lost = k.lost c low refl ((timed_then c low).silent none) change in
        let all = none_left lost.before k.all (λ x has. (let late = lost.later x has in let clash : None ≡ Some late.0 = sym none ∙ late.1 in cc)) in
        let size = told_size k.all (receipts_in (journal_of ds_then client)) k.told in
        let rows = same_journals client ds_then placed (its_same page encode decode get_epoch set_epoch names boundary floor m lists_many ops_of (until m events) lists apart elsewhere may_then room_then made_then order_then ds_then paged kept_then of_then) in
        ap (left_of (ops_of c)) (sym (push (journal_of placed client)))
        ∙ sym (same_lefts (ops_of c) (journal_of ds_then client) (journal_of placed client) [] [] rows refl)
        ∙ sym (left_all lost.before (ops_of c) (journal_of ds_then client) [] (omega (arith, all, size)))
        ∙ lost.left

    -- so it is owed to what stands then
    owed_then : (c : ℕ) → c < (before m).count → ((before m).calls c).ended ≡ None → IsChange (request_of names boundary ((before m).calls c).work) → Owed files (request_of names boundary ((before m).calls c).work)
    owed_then c low none change =
        let client = ((before m).calls c).client in
        let it = is_merged_of page encode decode get_epoch set_epoch names boundary floor m lists_many ops_of (until m events) lists apart elsewhere may_then room_then made_then order_then ds_then paged kept_then of_then in
        subst (λ (f : Files). Owed f (request_of names boundary ((before m).calls c).work)) it.1
        (left_is_owed page encode decode get_epoch set_epoch (reverse (merged placed_log placed)) (kept_by placed) it.0 paged it.2 client (ops_of c) (request_of names boundary ((before m).calls c).work)
        (ap (left_of (ops_of c)) (it.3 client) ∙ left_then c low none change))

    -- a version that has a file stands
    stands_there : (one : (i : ℕ) → version_path names i ≡ version_path world_names i) (later : ℕ) → later < 2 ^ 64 → is_there files later ≡ true → stands (w m) later ≡ true
    stands_there one later fits at =
        let h = all_holds names boundary floor (until m events) apart may_then m room_then in
        let shown = h.shown (Version later) fits in
        let there_is : is_some (get files (version_path names later)) ≡ true = ap (λ (p : Segments). is_some (get files p)) (one later) ∙ at in
        let named : is_some (option_map (λ file. got_at (Version later) ((before m).folder.files file)) ((before m).folder.names (At (Version later)))) ≡ true = ap (λ (o : Option Got). is_some o) (sym shown) ∙ there_is in
        subst (λ (u : World). stands u later ≡ true) (same m (omega arith)) (some_by ((before m).folder.names (At (Version later))) named)
      where
        some_by : (o : Option ℕ) → is_some (option_map (λ file. got_at (Version later) ((before m).folder.files file)) o) ≡ true → is_some o ≡ true
        some_by None is = is
        some_by (Some file) is = refl

    in_order_then : (id : ℕ) → Maker (w m) (id + 1) → (id ≡ 0) ⊎ ((later : ℕ) × (id ≤ later) × (stands (w m) later ≡ true))
    in_order_then id maker = by (subst (λ (q : Request). Owed files q) asks (owed_then moved.call moved.within moved.on (subst IsChange (sym asks) tt)))
      where
        moved : Maker (before m) (id + 1)
        moved = subst (λ (u : World). Maker u (id + 1)) (sym (same m (omega arith))) maker

        asks : request_of names boundary ((before m).calls moved.call).work ≡ requests.Put (version_path names (id + 1)) moved.bytes modes.Create
        asks = ap (request_of names boundary) moved.work_is

        fits : id + 1 < 2 ^ 64
        fits = subst (MayDo floor) moved.work_is ((all_holds names boundary floor (until m events) apart may_then m room_then).calls moved.call moved.within).may

        by : Owed files (requests.Put (version_path names (id + 1)) moved.bytes modes.Create) → (id ≡ 0) ⊎ ((later : ℕ) × (id ≤ later) × (stands (w m) later ≡ true))
        by (inl owed) = based (ap path_in owed.asks) owed.base
          where
            based : version_path names (id + 1) ≡ version_path world_names (owed.id + 1) → HasBase files owed.id → (id ≡ 0) ⊎ ((later : ℕ) × (id ≤ later) × (stands (w m) later ≡ true))
            based path (inl first) = inl (let is = same_id names world_names (id + 1) (owed.id + 1) fits owed.fits path in omega (arith, is, first))
            based path (inr (later, low, small, at)) = inr (
              later,
              (let is = same_id names world_names (id + 1) (owed.id + 1) fits owed.fits path in omega (arith, is, low)),
              stands_there (same_path names world_names (id + 1) (owed.id + 1) fits owed.fits path) later small at,
            )
        by (inr (inl owed)) = absurd (no_version names (id + 1) fits (ap path_in owed.asks))
        by (inr (inr (inl owed))) = absurd (let is = owed.1 in cc)
        by (inr (inr (inr quiet))) = absurd quiet

    -- what is put at the boundary is one that rises
    raise_of : (bytes : List ℕ) (mode : PutMode) → Owed files (requests.Put boundary bytes mode) → RaiseOwed files (requests.Put boundary bytes mode)
    raise_of bytes mode (inl owed) = absurd (apart_there (owed.id + 1) owed.fits (ap path_in owed.asks))
    raise_of bytes mode (inr (inl owed)) = owed
    raise_of bytes mode (inr (inr (inl owed))) = absurd (let is = owed.1 in cc)
    raise_of bytes mode (inr (inr (inr quiet))) = absurd quiet

    -- what replaces the boundary that stands says more
    says_more : (bytes : List ℕ) (old file : ℕ) → RaiseOwed files (requests.Put boundary bytes (modes.Update old)) → (before m).folder.names (At Boundary) ≡ Some file → update_fault old (Some (got_at Boundary ((before m).folder.files file))) ≡ None → SaysAbove old (boundary_read bytes)
    says_more bytes old file owed named none =
        let h = all_holds names boundary floor (until m events) apart may_then m room_then in
        let token = matched old (got_at Boundary ((before m).folder.files file)) none in
        let there_is : get files world_boundary ≡ Some (got_at Boundary ((before m).folder.files file)) =
        ap (get files) (sym (ap path_in owed.asks)) ∙ h.shown Boundary tt ∙ ap (option_map (λ file. got_at Boundary ((before m).folder.files file))) named in
        let less = subst (SaysLess files owed.to) (replaces files boundary bytes old owed) owed.below (got_at Boundary ((before m).folder.files file)) there_is token in
        let stood : old ≡ less.0 = sym token ∙ ap (λ (o : Option ℕ). unwrap_or o 0) less.1 in
        let below = less.2 in
        subst (SaysAbove old) (sym (says_to files boundary bytes (modes.Update old) owed)) (omega (arith, stood, below))

    -- a call that goes on then and is to change the boundary raises it
    module _ (c : ℕ) (low : c < (before m).count) (none : ((before m).calls c).ended ≡ None) where
      owed_as : (work : Work) → ((before m).calls c).work ≡ work → IsChange (request_of names boundary work) → Owed files (request_of names boundary work)
      owed_as work is change = subst (λ (x : Work). Owed files (request_of names boundary x)) is (owed_then c low none (subst (λ (x : Work). IsChange (request_of names boundary x)) (sym is) change))

      link_rises : (place : Place) (bytes : List ℕ) (state : Creating) → ((before m).calls c).work ≡ Creates place bytes (Is state) → PutsAbove place bytes
      link_rises (Version id) bytes state is = tt
      link_rises Boundary bytes state is =
          let owed = raise_of bytes modes.Create (owed_as (Creates Boundary bytes (Is state)) is tt) in
          subst (SaysAbove 0) (sym (says_to files boundary bytes modes.Create owed)) (made_above files boundary bytes owed)

      rename_rises : (bytes : List ℕ) (old number : ℕ) → ((before m).calls c).work ≡ Updates bytes old (Is (Renames number)) → SaysAbove old (boundary_read bytes)
      rename_rises bytes old number is =
          let h = all_holds names boundary floor (until m events) apart may_then m room_then in
          let live = subst (λ (x : Work). IsLive (before m).folder c (live_of x)) is ((h.calls c low).live none) in
          says_more bytes old live.1.0 (raise_of bytes (modes.Update old) (owed_as (Updates bytes old (Is (Renames number))) is tt)) live.1.1 live.1.2

      now_by : (work : Work) → ((before m).calls c).work ≡ work → RisesNow work
      now_by (Creates place bytes (Is (Links number))) is = link_rises place bytes (Links number) is
      now_by (Creates place bytes (Is state)) is = tt
      now_by (Creates place bytes (Ends verdict)) is = tt
      now_by (Gets place known phase) is = tt
      now_by (Updates bytes old (Is (Renames number))) is = rename_rises bytes old number is
      now_by (Updates bytes old (Is state)) is = tt
      now_by (Updates bytes old (Ends verdict)) is = tt
      now_by (Deletes id phase) is = tt

    rises_then : RisesIn (effect_of (w m) (events m))
    rises_then = subst (λ (u : World). RisesIn (effect_of u (events m))) (same m (omega arith))
        (effect_rises (before m) (λ d on. (let both = second_true (nat_lt d (before m).count) (not (is_some ((before m).calls d).ended)) on in now_by d (ltb-true d (before m).count both.0) (nobody ((before m).calls d).ended both.1) ((before m).calls d).work refl)) (events m))

  none_of : (o : Option ℕ) → is_some o ≡ false → o ≡ None
  none_of None is = refl
  none_of (Some file) is = absurd (cc)

  in_order_at : (m : ℕ) → m < n → ((s : ℕ) → s < m → IsGood s) → InOrderAt m
  in_order_at m less so_far id free stood = by ((w (suc m)).folder.names (At (Version (id + 1)))) refl stood
    where
      by : (o : Option ℕ) → (w (suc m)).folder.names (At (Version (id + 1))) ≡ o → is_some o ≡ true → (id ≡ 0) ⊎ ((later : ℕ) × (id ≤ later) × (stands (w m) later ≡ true))
      by None at is = absurd (cc)
      by (Some file) at is = in_order_then m (omega (arith, less)) so_far id (event_makes floor m (w m) (id + 1) file (none_of ((w m).folder.names (At (Version (id + 1)))) free) (events m) at)

  all_good : (m : ℕ) → m ≤ n → (s : ℕ) → s < m → IsGood s
  all_good zero most s less = absurd (omega (arith, less))
  all_good (suc m) most s less = elim (cases_lt s m) [
    | inl early ↦ all_good m (omega (arith, most)) s early
    | inr late ↦
        let now : m ≡ s = omega (arith, less, late) in
        let so_far = all_good m (omega (arith, most)) in
        subst IsGood now (in_order_at m (omega (arith, most)) so_far, rises_then m (omega (arith, most)) so_far)
  ]

  -- The same, where nothing happens from the last moment on.

  abbrev v : ℕ → World
  v = world floor (until n events)

  at_last : (t : ℕ) → t ≤ n → v t ≡ w t
  at_last t low = same_until floor events n t low

  made_last : AreRuns names n v listings many
  made_last j low = let run = made j low in (run_same names w v (listings j) n (λ t less. sym (at_last t (omega (arith, less)))) run.1 run.0, run.1)

  order_last : AllComeInOrder v listings many
  order_last j low s id from high free stood =
      let past = (made j low).1 in
      let at = at_last s (omega (arith, high, past)) in
      let next = at_last (suc s) (omega (arith, high, past)) in
      subst (λ (u : World). (id ≡ 0) ⊎ ((later : ℕ) × (id ≤ later) × (stands u later ≡ true))) (sym at)
      ((all_good n (omega arith) s (omega (arith, high, past))).0 id (subst (λ (u : World). stands u (id + 1) ≡ false) at free) (subst (λ (u : World). stands u (id + 1) ≡ true) next stood))

  may_last : Allowed floor (until n events)
  may_last = (may_until floor events may n, rises_until floor events n (λ s less. (all_good n (omega arith) s less).1))

  -- clients of a folder share only a store
  pub clients_share : (clients : ℕ) → clients_in ds ≤ clients → ShareAFolder page encode decode get_epoch set_epoch clients ds
  clients_share clients few = share_a_folder page encode decode get_epoch set_epoch names boundary floor n many ops (until n events) listings apart elsewhere may_last room made_last order_last ds paged kept (of_folder_alike names boundary ops n w v listings many (sym (at_last n (omega arith))) ds of) clients few
