-- How a holder comes to be: the init or the load of a view, and a claim; rows that tell a store go on with each.
use Rattle.std.proofs.Common.{◌≡◌, ◌≢◌, ℕ, ◌+◌, ◌-◌, ◌<◌, ◌≤◌, ◌^◌, ◌&&◌, nat_lt, List, [], ◌∷◌, ◌++◌, length, take, slice_get, Bool, true, false, Option, Some, None, is_some, inl, inr, refl, sym, ◌∙◌, ap, subst, arith}
use Rattle.std.specs.FinMap.{get, get-empty}
use Rattle.std.proofs.lemmas.List.{length-append, take_all}
use Rattle.std.proofs.lemmas.Bool.{both_ways, cases_lt, eq-eqb, ne_eqb, lt-ltb}
use Rattle.txn_store.specs.Paths.{path_cmp}
use Rattle.txn_store.specs.VersionName.{Names, version_path}
use Rattle.txn_store.specs.Store.{Files, State}
use Rattle.txn_store.specs.declared.store.Got.{Got}
use Rattle.txn_store.specs.declared.store.PutMode.TheVariants as modes
use Rattle.txn_store.specs.declared.request.Request.TheVariants as requests
use Rattle.txn_store.specs.types.Epochs.{NextEpoch}
use Rattle.txn_store.specs.types.Numbers.{number_of}
use Rattle.txn_history.specs.declared.trace.RowOf.TheVariants.{Effect, Begun, Answered}
use Rattle.txn_history.specs.declared.event.ViewCall.TheVariants as view_calls
use Rattle.txn_history.specs.declared.event.Call.{Call}
use Rattle.txn_history.specs.declared.event.Call.TheVariants as any
use Rattle.txn_history.specs.declared.event.Answer.TheVariants as answers
use Rattle.txn_history.specs.Names.{world_names, world_boundary}
use Rattle.txn_history.specs.History.{boundary_said, erases, newest, was_erased, IsEntry, epoch_at}
use Rattle.txn_history.specs.Calls.{begun_count, view_used, is_holders, tells}
use Rattle.txn_history.specs.Effects.{Appends}
use Rattle.txn_history.specs.Facts.{WasNewest}
use Rattle.txn_history.specs.Trace.{Row}
use Rattle.txn_history.specs.Views.{or_else, id_shown, epoch_shown, view_at, epoch_held, view_count}
use Rattle.txn_history.specs.OneHistory.{agree, has_shown_view, WritesOn, MayAppend, Opens, Shows, Holds, AnswerFits, Answers, IsOneHistory}
use Rattle.txn_history.proofs.Claimers.{held_says}
use Rattle.txn_history.proofs.Fronts.{later_at, of_front}
use Rattle.txn_history.proofs.Holders.{told_in, last_more, first_more}
use Rattle.txn_history.proofs.Lists.{get_last, any_last}
use Rattle.txn_history.proofs.More.{AtRow-now}
use Rattle.txn_steps_driven.specs.LatestReads.{IsLatest}
use Rattle.txn_machine.proofs.views.History.{entry_within, epoch_is, entered_now}
use Rattle.txn_machine.proofs.views.Stands.{Quiet, IsUnseen}
use Rattle.txn_machine.proofs.views.Frames.{count_more, unseen_more, entry_kept}
use Rattle.slatedb_txn_obj.specs.Leaves.{KeepsFiles}
use Rattle.slatedb_txn_obj.specs.Protocol.{Appended}
use Rattle.slatedb_txn_obj.specs.Protocol as layer
use Rattle.slatedb_txn_obj.specs.Views.{IsVersion, ShowsLatest}
use Rattle.txn_manifest.specs.declared.manifest.Manifest.{Manifest}
use Rattle.txn_manifest.specs.Manifest.{epoch_of, with_epoch}
use Rattle.txn_manifest.specs.OfManifests.{IsOfManifests}
use Rattle.txn_manifest.specs.Stores.{StandsBy}
use Rattle.txn_manifest.specs.Text.{manifest_read}
use Rattle.txn_manifest.specs.Tells.{bytes_of, Tells, TellsView, GoesOn, Versions, TellsStore, TellsBoth, TellsMore, TellsNew, Inits, Reads, Claims, ClaimHeld, ClaimFailed}
use Rattle.txn_manifest.proofs.Once.{any_none}
use Rattle.txn_manifest.proofs.Growing.{goes_nowhere, goes_more, goes_quiet, view_kept, Pending, effect_pending, begin_pending, told_length, told_entry, entry_told, begun_told, answer_told, told_new, version_told, files_told}
use Rattle.txn_manifest.proofs.Files.{bytes_there, bytes_gone, others_left, still_there, next_newest, next_stored, still}
use Rattle.txn_manifest.proofs.Writing.{entered_last}

-- views of numbers above the count were not shown

some_first : (a b : Bool) → (a && b) ≡ true → a ≡ true
some_first true b e = refl
some_first false b e = cc

some_more : (a b : Option ℕ) → is_some b ≡ true → is_some (or_else a b) ≡ true
some_more None b e = e
some_more (Some n) b e = refl

module _ (decode : List ℕ → Option Manifest) where
  abbrev AreUnseen : List (Row Manifest) → Type 0
  AreUnseen rows = (number : ℕ) → view_count rows < number → IsUnseen rows number

  stays_shown : (rows : List (Row Manifest)) (j k view : ℕ) → j ≤ k → is_some (view_at (take j rows) view) ≡ true → is_some (view_at (take k rows) view) ≡ true
  stays_shown rows j k view le h =
      later_at (λ front. is_some (view_at front view) ≡ true) rows (λ n row _ e. subst (λ (o : Option ℕ). is_some o ≡ true) (sym (last_more (id_shown view) None (take n rows) row)) (some_more (told_in (id_shown view) row) (view_at (take n rows) view) e)) j k le h

  row_quiet : (rows : List (Row Manifest)) → IsOneHistory decode epoch_of with_epoch [] rows → (k : ℕ) (row : Row Manifest) → slice_get rows k ≡ Some row → AreUnseen (take k rows) → (number : ℕ) → view_count (take k rows ++ row ∷ []) < number → Quiet row number
  row_quiet rows good k (Begun op call) e unseen number lt = (refl, refl)
  row_quiet rows good k (Effect op request) e unseen number lt = (refl, refl)
  row_quiet rows good k (Answered op (answers.Plain answer)) e unseen number lt = (refl, refl)
  row_quiet rows good k (Answered op (answers.View shown id value)) e unseen number lt =
      let row : Row Manifest = Answered op (answers.View shown id value) in
      let count = count_more (take k rows) row in
      let ne : shown ≢ number = λ same. absurd (omega (arith, count, lt, same)) in
      (rw (ne_eqb shown number ne) refl, refl)
  row_quiet rows good k (Answered op (answers.Held shown id value epoch)) e unseen number lt =
      let row : Row Manifest = Answered op (answers.Held shown id value epoch) in
      let count = count_more (take k rows) row in
      let a : Answers decode epoch_of [] (take k rows) op (answers.Held shown id value epoch) = good k row e in
      let called = a.called in
      let there = of_front rows k called.0 (Begun op a.call) called.1 in
      let opens : Opens decode epoch_of (take called.0 rows) op a.call = good called.0 (Begun op a.call) there.0 in
      let shows = (held_says decode epoch_of with_epoch [] (take k rows) op shown id epoch value a.call a.fits).0 in
      let shown_is = shows.2 in
      let used : view_used a.call ≡ Some shown = shows.1 ∙ ap Some (sym shown_is.same) in
      let was : has_shown_view (take called.0 rows) (Some shown) (is_holders a.call) ≡ true = subst (λ (o : Option ℕ). has_shown_view (take called.0 rows) o (is_holders a.call) ≡ true) used opens.shown in
      let old = some_first (is_some (view_at (take called.0 rows) shown)) (agree (is_holders a.call) (is_some (epoch_held (take called.0 rows) shown))) was in
      let now = stays_shown rows called.0 k shown (omega (arith, there.1)) old in
      let ne : shown ≢ number = λ same. (
      let none = (unseen number (omega (arith, count, lt))).0 in
      let clash : is_some (view_at (take k rows) shown) ≡ false = ap (λ (v : ℕ). is_some (view_at (take k rows) v)) same ∙ ap is_some none in
      both_ways (is_some (view_at (take k rows) shown)) clash now
      ) in
      (rw (ne_eqb shown number ne) refl, rw (ne_eqb shown number ne) refl)

  pub unseen_above : (rows : List (Row Manifest)) → IsOneHistory decode epoch_of with_epoch [] rows → AreUnseen rows
  unseen_above rows good =
      subst AreUnseen (take_all (length rows) rows (omega arith))
      (later_at AreUnseen rows (λ k row e unseen number lt. (
      let count = count_more (take k rows) row in
      unseen_more (take k rows) row number (row_quiet rows good k row e unseen number lt) (unseen number (omega (arith, count, lt)))
      )) 0 (length rows) (omega arith) (λ number lt. (refl, refl)))

  -- a new view, after the answer that shows it
  new_view : (rows : List (Row Manifest)) (op id : ℕ) (value : Manifest) → IsOneHistory decode epoch_of with_epoch [] rows → IsEntry decode rows id value → TellsView decode (rows ++ Answered op (answers.View (view_count rows + 1) id value) ∷ []) (view_count rows + 1) id value
  new_view rows op id value good entry =
      let number = view_count rows + 1 in
      let row : Row Manifest = Answered op (answers.View number id value) in
      let none = (unseen_above rows good number (omega arith)).1 in
      record {
        client = 0;
        fits = record {
          object = entry_kept decode epoch_of with_epoch rows row id value entry;
          shown = id;
          last = last_more (id_shown number) None rows row ∙ rw (eq-eqb number number refl) refl;
          stands = inl refl;
          epoch = sym (first_more (epoch_shown number) rows row ∙ rw none refl);
        };
      }

  -- an answer that shows a new view
  new_shows : (rows : List (Row Manifest)) (id : ℕ) → IsOneHistory decode epoch_of with_epoch [] rows → Shows rows (view_count rows + 1) (view_count rows + 1) id
  new_shows rows id good =
      let none : number_of (view_at rows (view_count rows + 1)) ≡ 0 = ap number_of (unseen_above rows good (view_count rows + 1) (omega arith)).0 in
      record { same = refl; rises = omega (arith, none) }

  -- and of no other view
  new_apart : (rows : List (Row Manifest)) → IsOneHistory decode epoch_of with_epoch [] rows → (number shown : ℕ) → view_at rows number ≡ Some shown → view_count rows + 1 ≢ number
  new_apart rows good number shown there same =
      let none : view_at rows number ≡ None = ap (view_at rows) (sym same) ∙ (unseen_above rows good (view_count rows + 1) (omega arith)).0 in
      let clash : None ≡ Some shown = sym none ∙ there in
      cc

module _ (p p' : Versions) (s s' : State) (rows : List (Row Manifest)) (told : TellsStore p s rows) where
  abbrev names : Names
  names = p.layout.names

  -- an init

  module _ (value : Manifest) (i : Inits p p' s s' value) where
    abbrev init : Call Manifest
    init = any.View (view_calls.Init value)

    abbrev op : ℕ
    op = begun_count rows + 1

    abbrev init_began : List (Row Manifest)
    init_began = rows ++ Begun op init ∷ []

    init_told : Tells manifest_read names s.files init_began told.h told.b
    init_told = begun_told manifest_read names s.files rows told.h told.b told.tells init (record { next = refl; shown = refl; known = refl; low = refl; keeps = refl }) i.pins

    init_pending : Pending init_began op init
    init_pending = begin_pending manifest_read rows told.tells.one init

    module _ (stands : StandsBy p' s' (told.h ++ value ∷ []) told.b) where
      empty : length told.h ≡ 0
      empty = sym (next_newest p p' s s' rows told 0 value i.placed i.creates (omega arith) stands)

      abbrev init_file : (got : Got) × (get s'.files (version_path names 1) ≡ Some got) × (manifest_read got.bytes ≡ Some value)
      init_file = next_stored p p' s s' rows told 0 value i.placed i.creates (omega arith) stands 1 (ap (λ (n : ℕ). n + 1) (sym empty))

      init_newest : newest init_began ≡ 0
      init_newest = told_length manifest_read names s.files init_began told.h told.b init_told ∙ empty

      init_appends : Appends manifest_read epoch_of (WritesOn manifest_read epoch_of with_epoch) (MayAppend manifest_read epoch_of with_epoch) init_began op 1 init_file.0.bytes
      init_appends =
          let none = init_newest in
          let low : epoch_at manifest_read epoch_of init_began (newest init_began) ≡ 0 = ap (epoch_at manifest_read epoch_of init_began) none in
          record { call = init; called = init_pending.called; value = value; reads = init_file.2; next = omega (arith, none); written = (none, refl); rises = omega (arith, low); unfenced = tt }

      abbrev init_put : List (Row Manifest)
      init_put = init_began ++ Effect op (requests.Put (version_path world_names 1) init_file.0.bytes modes.Create) ∷ []

      init_put_told : Tells manifest_read names s'.files init_put (told.h ++ value ∷ []) told.b
      unfolding init_appends
      init_put_told = version_told manifest_read names s.files init_began told.h told.b init_told s'.files op 1 init_file.0.bytes (omega arith) init_appends (bytes_there names s'.files 1 init_file.0 init_file.1) (λ n fits other spared. others_left names 1 s s' (omega arith) i.creates n fits other)

      init_store : (after : List (Row Manifest)) → Tells manifest_read names s'.files after (told.h ++ value ∷ []) told.b → TellsStore p' s' after
      init_store after t =
          record { h = told.h ++ value ∷ []; b = told.b; stands = stands; tells = files_told manifest_read names s'.files after (told.h ++ value ∷ []) told.b t p'.layout.names s'.files (λ n fits spared. ap (λ layout. bytes_of layout.names s'.files n) i.placed) }

      init_later : GoesOn manifest_read (λ other. Unit {0}) rows init_put
      init_later = goes_quiet manifest_read (λ other. Unit {0}) rows init_began (Effect op (requests.Put (version_path world_names 1) init_file.0.bytes modes.Create)) (λ n. (refl, refl)) (goes_quiet manifest_read (λ other. Unit {0}) rows rows (Begun op init) (λ n. (refl, refl)) (goes_nowhere manifest_read (λ other. Unit {0}) rows))

      init_done : TellsNew p' s' rows 1 value
      init_done =
          let put : Row Manifest = Effect op (requests.Put (version_path world_names 1) init_file.0.bytes modes.Create) in
          let number = view_count init_put + 1 in
          let pending = effect_pending init_began op init op (requests.Put (version_path world_names 1) init_file.0.bytes modes.Create) init_pending in
          let none = init_newest in
          let lacks = told_new manifest_read names s.files init_began told.h told.b init_told 1 (omega (arith, none)) in
          let entered = entered_last manifest_read init_began op 1 init_file.0.bytes value (omega arith) init_pending.begun lacks init_file.2 in
          let entry = entered_now manifest_read epoch_of with_epoch [] init_put init_put_told.one op 1 value entered in
          let fits : Answers manifest_read epoch_of [] init_put op (answers.View number 1 value) = record { call = init; called = pending.called; once = pending.once; fits = (new_shows manifest_read init_put 1 init_put_told.one, entered) } in
          let answer : Row Manifest = Answered op (answers.View number 1 value) in
          record {
            rows = init_put ++ answer ∷ [];
            later = goes_more manifest_read (λ other. Unit {0}) rows init_put answer (λ n shown other e. (rw (ne_eqb number n (new_apart manifest_read init_put init_put_told.one n shown e)) refl, refl)) init_later;
            store = init_store (init_put ++ answer ∷ []) (answer_told manifest_read names s'.files init_put (told.h ++ value ∷ []) told.b init_put_told op (answers.View number 1 value) fits);
            number = number;
            view = new_view manifest_read init_put op 1 value init_put_told.one entry;
          }

    -- it was answered
    pub inits_told : (id : ℕ) → Appended (StandsBy p s) (StandsBy p' s') 0 value id → TellsNew p' s' rows id value
    inits_told id a =
        let at : id ≡ 0 + 1 = a.id_is told.h told.b told.stands (omega arith) in
        subst (λ (n : ℕ). TellsNew p' s' rows n value) (omega (arith, at)) (init_done (a.stands told.h told.b told.stands (omega arith)))

    -- it failed
    pub init_failed : layer.MayAppend (StandsBy p s) (StandsBy p' s') 0 value → TellsMore p' s' rows
    init_failed may =
        elim (may told.h told.b told.stands (omega arith)) [
          | inl stays ↦ record {
            rows = rows;
            later = goes_nowhere manifest_read (λ other. Unit {0}) rows;
            store = record { h = told.h; b = told.b; stands = stays; tells = files_told manifest_read names s.files rows told.h told.b told.tells p'.layout.names s'.files (λ n fits spared. ap (λ layout. bytes_of layout.names s'.files n) i.placed ∙ still p p' s s' rows told 0 value i.placed i.creates (omega arith) stays n fits spared) };
          }
          | inr grown ↦ record { rows = init_put grown.1; later = init_later grown.1; store = init_store grown.1 (init_put grown.1) (init_put_told grown.1) }
        ]

  -- a load that failed
  pub reads_told : Reads p p' s s' → TellsMore p' s' rows
  reads_told l =
      record {
        rows = rows;
        later = goes_nowhere manifest_read (λ other. Unit {0}) rows;
        store = record {
          h = told.h;
          b = told.b;
          stands = l.kept told.h told.b told.stands;
          tells = files_told manifest_read names s.files rows told.h told.b told.tells p'.layout.names s'.files (λ n small spared. ap (λ layout. bytes_of layout.names s'.files n) l.placed ∙ ap (λ (files : Files). bytes_of names files n) l.files.files);
        };
      }

  -- a load
  pub loads_told : (id : ℕ) (object : Manifest) → Reads p p' s s' → ShowsLatest (StandsBy p s) id object → TellsNew p' s' rows id object
  loads_told id object l shows =
      let call : Call Manifest = any.View view_calls.Load in
      let o = begun_count rows + 1 in
      let began = rows ++ Begun o call ∷ [] in
      let t = begun_told manifest_read names s.files rows told.h told.b told.tells call (record { next = refl; shown = refl; known = refl; low = refl; keeps = refl }) tt in
      let pending = begin_pending manifest_read rows told.tells.one call in
      let number = view_count began + 1 in
      let latest = shows told.h told.b told.stands in
      let some = latest.some in
      let at = latest.id_is in
      let entry : IsEntry manifest_read began id object = told_entry manifest_read names s.files began told.h told.b t id object (omega (arith, some, at)) latest.entry in
      let long : newest began ≡ id = told_length manifest_read names s.files began told.h told.b t ∙ sym at in
      let was : WasNewest manifest_read began o id object = AtRow-now began o (λ rs. (newest rs ≡ id) × IsEntry manifest_read rs id object) pending.begun (long, entry) in
      let fits : Answers manifest_read epoch_of [] began o (answers.View number id object) = record { call = call; called = pending.called; once = pending.once; fits = (new_shows manifest_read began id t.one, was) } in
      let answer : Row Manifest = Answered o (answers.View number id object) in
      let after = began ++ answer ∷ [] in
      let t' = answer_told manifest_read names s.files began told.h told.b t o (answers.View number id object) fits in
      record {
        rows = after;
        later = goes_more manifest_read (λ other. Unit {0}) rows began answer (λ n shown other e. (rw (ne_eqb number n (new_apart manifest_read began t.one n shown e)) refl, refl)) (goes_quiet manifest_read (λ other. Unit {0}) rows rows (Begun o call) (λ n. (refl, refl)) (goes_nowhere manifest_read (λ other. Unit {0}) rows));
        store = record {
          h = told.h;
          b = told.b;
          stands = l.kept told.h told.b told.stands;
          tells = files_told manifest_read names s.files after told.h told.b t' p'.layout.names s'.files (λ n small spared. ap (λ layout. bytes_of layout.names s'.files n) l.placed ∙ ap (λ (files : Files). bytes_of names files n) l.files.files);
        };
        number = number;
        view = new_view manifest_read began o id object t.one entry;
      }

  -- a claim that wrote

  -- where the view stands
  view_version : (number id : ℕ) (object : Manifest) → TellsView manifest_read rows number id object → IsVersion told.h id object
  view_version number id object w =
      let r = entry_within manifest_read epoch_of with_epoch [] rows id object w.fits.object in
      let len = told_length manifest_read names s.files rows told.h told.b told.tells in
      record { positive = r.0; within = omega (arith, r.1, len); entry = entry_told manifest_read names s.files rows told.h told.b told.tells id object w.fits.object }

  module _ (asked : Option ℕ) (number id epoch : ℕ) (object base held : Manifest) (w : TellsView manifest_read rows number id object) (keeps : KeepsFiles s s') (placed : p'.layout ≡ p.layout) (latest : IsLatest told.h (length told.h) base) (follows : NextEpoch asked (epoch_of base) epoch) (raised : held ≡ with_epoch base epoch) (stands : StandsBy p' s' (told.h ++ held ∷ []) told.b) where
    abbrev id' : ℕ
    id' = length told.h + 1

    own_epoch : epoch_of held ≡ epoch
    own_epoch = ap epoch_of raised

    abbrev longer : List Manifest
    longer = told.h ++ held ∷ []

    long : length longer ≡ length told.h + 1
    long = length-append told.h (held ∷ [])

    fits_next : id' < 2 ^ 64
    fits_next = (let fits = stands.versions.files_stand.fits in let len = long in omega (arith, fits, len))

    old_names : p'.layout.names ≡ names
    old_names = ap (λ layout. layout.names) placed

    claim_file : (got : Got) × (get s'.files (version_path names id') ≡ Some got) × (manifest_read got.bytes ≡ Some held)
    claim_file =
        let below = told.stands.versions.files_stand.below in
        let len = long in
        let place : id' - 1 ≡ length told.h = omega arith in
        let r = stands.versions.files_stand.stored id' (omega (arith, below)) (omega (arith, len)) in
        (r.0, ap (λ (nm : Names). get s'.files (version_path nm id')) (sym old_names) ∙ r.1, r.2 ∙ (ap (slice_get longer) place ∙ get_last told.h held))

    -- the versions but its own
    claim_others : (n : ℕ) → n < 2 ^ 64 → n ≢ id' → was_erased rows n ≡ false → bytes_of names s'.files n ≡ bytes_of names s.files n
    claim_others n small other spared =
        still_there names s s' rows told.h told.b told.tells keeps n small spared
        (λ got there. (
        let known = stands.versions.files_stand.known n got small (ap (λ (nm : Names). get s'.files (version_path nm n)) old_names ∙ there) in
        let len = long in
        (omega (arith, known.0), elim (cases_lt (length told.h) n) [ inr low ↦ low | inl up ↦ absurd (other (omega (arith, up, known.1, len))) ])
        ))

    -- the claim, by its call
    module _ (call : Call Manifest) (opens : Opens manifest_read epoch_of rows (begun_count rows + 1) call)
        (of : IsOfManifests manifest_read rows call)
        (written : (before : List (Row Manifest)) → IsEntry manifest_read before (length told.h) base → newest before ≡ length told.h → WritesOn manifest_read epoch_of with_epoch before (begun_count rows + 1) call (newest before) held)
        (may : (before : List (Row Manifest)) → MayAppend manifest_read epoch_of with_epoch before call)
        (fits : (before : List (Row Manifest)) → Shows before number number id' → Holds manifest_read epoch_of before (begun_count rows + 1) id' held epoch → AnswerFits manifest_read epoch_of [] before (begun_count rows + 1) call (answers.Held number id' held epoch)) where
      abbrev claim_op : ℕ
      claim_op = begun_count rows + 1

      abbrev claim_began : List (Row Manifest)
      claim_began = rows ++ Begun claim_op call ∷ []

      abbrev claim_put : Row Manifest
      claim_put = Effect claim_op (requests.Put (version_path world_names id') claim_file.0.bytes modes.Create)

      abbrev claim_putted : List (Row Manifest)
      claim_putted = claim_began ++ claim_put ∷ []

      began_told : Tells manifest_read names s.files claim_began told.h told.b
      began_told = begun_told manifest_read names s.files rows told.h told.b told.tells call opens of

      claim_pending : Pending claim_began claim_op call
      claim_pending = begin_pending manifest_read rows told.tells.one call

      top_length : newest claim_began ≡ length told.h
      top_length = told_length manifest_read names s.files claim_began told.h told.b began_told

      old_entry : (before : List (Row Manifest)) (files : Files) (h : List Manifest) → Tells manifest_read names files before h told.b → (slice_get h (length told.h - 1) ≡ Some base) → IsEntry manifest_read before (length told.h) base
      old_entry before files h t there = told_entry manifest_read names files before h told.b t (length told.h) base latest.some there

      began_entry : IsEntry manifest_read claim_began (length told.h) base
      began_entry = old_entry claim_began s.files told.h began_told latest.entry

      higher : epoch_of base < epoch
      higher = by asked follows
        where
          by : (o : Option ℕ) → NextEpoch o (epoch_of base) epoch → epoch_of base < epoch
          by None next = omega (arith, next)
          by (Some at) next = (let lt = next.1 in let is = next.0 in omega (arith, lt, is))

      claim_appends : Appends manifest_read epoch_of (WritesOn manifest_read epoch_of with_epoch) (MayAppend manifest_read epoch_of with_epoch) claim_began claim_op id' claim_file.0.bytes
      claim_appends =
          let len = top_length in
          let own = own_epoch in
          let up = higher in
          let top : epoch_at manifest_read epoch_of claim_began (newest claim_began) ≡ epoch_of base = ap (epoch_at manifest_read epoch_of claim_began) len ∙ epoch_is manifest_read epoch_of with_epoch [] claim_began (length told.h) base began_entry in
          record {
            call = call;
            called = claim_pending.called;
            value = held;
            reads = claim_file.2;
            next = omega (arith, len);
            written = written claim_began began_entry len;
            rises = omega (arith, top, own, up);
            unfenced = may claim_began;
          }

      put_told : Tells manifest_read names s'.files claim_putted longer told.b
      unfolding claim_appends claim_file
      put_told = version_told manifest_read names s.files claim_began told.h told.b began_told s'.files claim_op id' claim_file.0.bytes fits_next claim_appends (bytes_there names s'.files id' claim_file.0 claim_file.1) (λ n small other spared. claim_others n small other (any_none (erases n) rows (Begun claim_op call) spared).0)

      claim_later : (apart : ℕ → Type 0) → GoesOn manifest_read apart rows claim_putted
      claim_later apart = goes_quiet manifest_read apart rows claim_began claim_put (λ n. (refl, refl)) (goes_quiet manifest_read apart rows rows (Begun claim_op call) (λ n. (refl, refl)) (goes_nowhere manifest_read apart rows))

      claim_store : (after : List (Row Manifest)) → Tells manifest_read names s'.files after longer told.b → TellsStore p' s' after
      claim_store after t = record { h = longer; b = told.b; stands = stands; tells = files_told manifest_read names s'.files after longer told.b t p'.layout.names s'.files (λ n small spared. ap (λ (nm : Names). bytes_of nm s'.files n) old_names) }

      -- it was not answered
      claim_cut : TellsMore p' s' rows
      claim_cut = record { rows = claim_putted; later = claim_later (λ other. Unit {0}); store = claim_store claim_putted put_told }

      claim_done : TellsBoth p' s' rows number id' epoch held
      claim_done =
          let len = top_length in
          let pending = effect_pending claim_began claim_op call claim_op (requests.Put (version_path world_names id') claim_file.0.bytes modes.Create) claim_pending in
          let lacks = told_new manifest_read names s.files claim_began told.h told.b began_told id' (omega (arith, len)) in
          let entered = entered_last manifest_read claim_began claim_op id' claim_file.0.bytes held fits_next claim_pending.begun lacks claim_file.2 in
          let entry = entered_now manifest_read epoch_of with_epoch [] claim_putted put_told.one claim_op id' held entered in
          let v = view_kept manifest_read claim_began claim_put number id object (refl, refl) (view_kept manifest_read rows (Begun claim_op call) number id object (refl, refl) w) in
          let stood : v.fits.shown ≤ id = elim v.fits.stands [ inl same ↦ omega (arith, same) | inr up ↦ up.0 ] in
          let shown : number_of (view_at claim_putted number) ≡ v.fits.shown = ap number_of v.fits.last in
          let within = (view_version number id object w).within in
          let shows : Shows claim_putted number number id' = record { same = refl; rises = omega (arith, shown, stood, within) } in
          let holds : Holds manifest_read epoch_of claim_putted claim_op id' held epoch = record {
            entered = entered;
            has = own_epoch;
            base = length told.h;
            next = refl;
            old = base;
            entry = entry_kept manifest_read epoch_of with_epoch claim_began claim_put (length told.h) base began_entry;
            smaller = higher;
          } in
          let answers_it : Answers manifest_read epoch_of [] claim_putted claim_op (answers.Held number id' held epoch) = record { call = call; called = pending.called; once = pending.once; fits = fits claim_putted shows holds } in
          let row : Row Manifest = Answered claim_op (answers.Held number id' held epoch) in
          let after = claim_putted ++ row ∷ [] in
          let t = answer_told manifest_read names s'.files claim_putted longer told.b put_told claim_op (answers.Held number id' held epoch) answers_it in
          let unheld : epoch_held claim_putted number ≡ None = sym v.fits.epoch in
          let now : epoch_held after number ≡ Some epoch = first_more (epoch_shown number) claim_putted row ∙ rw (unheld, eq-eqb number number refl) refl in
          record {
            rows = after;
            later = goes_more manifest_read (λ other. other ≢ number) rows claim_putted row (λ n shown other e. (rw (ne_eqb number n (λ is. other (sym is))) refl, rw (ne_eqb number n (λ is. other (sym is))) refl)) (claim_later (λ other. other ≢ number));
            store = claim_store after t;
            holder = record {
              client = v.client;
              fits = record {
                object = entry_kept manifest_read epoch_of with_epoch claim_putted row id' held entry;
                shown = id';
                last = last_more (id_shown number) None claim_putted row ∙ rw (eq-eqb number number refl) refl;
                stands = inl refl;
                epoch = sym now;
              };
              told = λ n below. any_last (tells (nat_lt n)) claim_putted row (lt-ltb n id' below);
            };
          }

    -- the view was shown, and is no holder
    plain_shown : has_shown_view rows (Some number) false ≡ true
    plain_shown = rw w.fits.last (subst (λ (o : Option ℕ). agree false (is_some o) ≡ true) w.fits.epoch refl)

    -- the claim is one of the next epoch, or at the epoch that was asked for
    told_claim : TellsBoth p' s' rows number id' epoch held × TellsMore p' s' rows
    told_claim = by asked follows
      where
        by : (o : Option ℕ) → NextEpoch o (epoch_of base) epoch → TellsBoth p' s' rows number id' epoch held × TellsMore p' s' rows
        by None next =
            let call : Call Manifest = any.View (view_calls.Claim number) in
            let opens : Opens manifest_read epoch_of rows (begun_count rows + 1) call = record { next = refl; shown = plain_shown; known = refl; low = refl; keeps = refl } in
            let written : (before : List (Row Manifest)) → IsEntry manifest_read before (length told.h) base → newest before ≡ length told.h → WritesOn manifest_read epoch_of with_epoch before (begun_count rows + 1) call (newest before) held =
            λ before entry len. (record { old = base; found = subst (λ (n : ℕ). IsEntry manifest_read before n base) (sym len) entry; raised = raised ∙ ap (with_epoch base) next }) in
            (claim_done call opens tt written (λ before. tt) (λ before shows holds. (shows, holds)), claim_cut call opens tt written (λ before. tt) (λ before shows holds. (shows, holds)))
        by (Some at) next =
            let call : Call Manifest = any.View (view_calls.ClaimAt number epoch) in
            let opens : Opens manifest_read epoch_of rows (begun_count rows + 1) call = record { next = refl; shown = plain_shown; known = refl; low = refl; keeps = refl } in
            let lt = next.1 in
            let is = next.0 in
            let up : epoch_of base < epoch = omega (arith, lt, is) in
            let written : (before : List (Row Manifest)) → IsEntry manifest_read before (length told.h) base → newest before ≡ length told.h → WritesOn manifest_read epoch_of with_epoch before (begun_count rows + 1) call (newest before) held =
            λ before entry len. (record { old = base; found = subst (λ (n : ℕ). IsEntry manifest_read before n base) (sym len) entry; higher = up; raised = raised }) in
            (claim_done call opens tt written (λ before. tt) (λ before shows holds. (shows, holds, refl)), claim_cut call opens tt written (λ before. tt) (λ before shows holds. (shows, holds, refl)))

  -- a claim that is held
  pub claims_told : (asked : Option ℕ) (number id id' epoch : ℕ) (object held : Manifest) → Claims p p' s s' → TellsView manifest_read rows number id object → ClaimHeld p p' s s' asked id id' epoch object held → TellsBoth p' s' rows number id' epoch held
  claims_told asked number id id' epoch object held c w claim =
      let d = claim told.h told.b told.stands (view_version number id object w) in
      let at : id' ≡ length told.h + 1 = d.at.id_is ∙ length-append told.h (held ∷ []) in
      subst (λ (n : ℕ). TellsBoth p' s' rows number n epoch held) (sym at) (told_claim asked number id epoch object d.newest held w c.kept c.placed d.latest d.next d.value d.stands).0

  -- and one that failed
  pub claim_failed : (asked : Option ℕ) (number id : ℕ) (object : Manifest) → Claims p p' s s' → TellsView manifest_read rows number id object → ClaimFailed p p' s s' asked id object → TellsMore p' s' rows
  claim_failed asked number id object c w claim =
      elim (claim told.h told.b told.stands (view_version number id object w)) [
        | inl stays ↦ record {
          rows = rows;
          later = goes_nowhere manifest_read (λ other. Unit {0}) rows;
          store = record {
            h = told.h;
            b = told.b;
            stands = stays;
            tells = files_told manifest_read names s.files rows told.h told.b told.tells p'.layout.names s'.files
                (λ n small spared. ap (λ layout. bytes_of layout.names s'.files n) c.placed
                ∙ still_there names s s' rows told.h told.b told.tells c.kept n small spared (λ got there. (let known = stays.versions.files_stand.known n got small (ap (λ layout. get s'.files (version_path layout.names n)) c.placed ∙ there) in (omega (arith, known.0), known.1))));
          };
        }
        | inr wrote ↦ (
            let latest : IsLatest told.h (length told.h) wrote.1 = subst (λ (n : ℕ). IsLatest told.h n wrote.1) wrote.3.id_is wrote.3 in
            (told_claim asked number id wrote.2 object wrote.1 (with_epoch wrote.1 wrote.2) w c.kept c.placed latest wrote.4 refl wrote.5).1
            )
      ]

-- before anything was done, no rows tell a store that stands for no entries
pub nothing_told : (p : Versions) (s : State) → StandsBy p s [] 0 → TellsStore p s []
nothing_told p s stands =
    record {
      h = [];
      b = 0;
      stands = stands;
      tells = record {
        one = λ k row e. absurd (no_row k row e);
        begins = λ k op call e. absurd (no_row k (Begun op call) e);
        entries = refl;
        bound = ap boundary_said (get-empty path_cmp world_boundary);
        versions = λ n small spared. (by n small (get s.files (version_path p.layout.names n)) refl ∙ sym (get-empty path_cmp (version_path world_names n)));
      };
    }
  where
    no_row : (k : ℕ) (row : Row Manifest) → slice_get [] k ≡ Some row → ⊥
    no_row k row e = cc

    by : (n : ℕ) → n < 2 ^ 64 → (found : Option Got) → get s.files (version_path p.layout.names n) ≡ found → bytes_of p.layout.names s.files n ≡ None
    by n small None is = bytes_gone p.layout.names s.files n is
    by n small (Some got) is = absurd (let known = stands.versions.files_stand.known n got small is in omega (arith, known.0, known.1))
