-- Rows that tell a store and a holder go on with a collection: a refresh, an advance of the boundary, and the removals of versions.
use Rattle.std.proofs.Common.{◌≡◌, ◌≢◌, ℕ, zero, suc, ◌+◌, ◌<◌, ◌≤◌, ◌^◌, ◌==◌, List, [], ◌∷◌, ◌++◌, length, take, nat_lt, Bool, true, false, Option, Some, inl, inr, refl, sym, ◌∙◌, ap, subst, arith}
use Rattle.std.specs.Fmt.{decimal}
use Rattle.std.proofs.Math.Bool.{or-true}
use Rattle.std.proofs.lemmas.Bool.{ne_eqb, both_ways, cases_eq, cases_lt, lt-ltb}
use Rattle.std.proofs.lemmas.List.Folds.{list_any-append}
use Rattle.txn_store.specs.declared.store.PutMode.TheVariants as modes
use Rattle.txn_store.specs.declared.request.Request.TheVariants as requests
use Rattle.txn_store.specs.VersionName.{Names, version_path}
use Rattle.txn_store.specs.Store.{Files}
use Rattle.txn_store.specs.types.Numbers.{number_of}
use Rattle.txn_history.specs.declared.event.PlainCall.TheVariants as calls
use Rattle.txn_history.specs.declared.event.PlainAnswer.TheVariants as plain_answers
use Rattle.txn_history.specs.declared.trace.RowOf.TheVariants.{Effect, Begun, Answered}
use Rattle.txn_history.specs.declared.event.ViewCall.TheVariants as view_calls
use Rattle.txn_history.specs.declared.event.Call.{Call}
use Rattle.txn_history.specs.declared.event.Call.TheVariants as any
use Rattle.txn_history.specs.declared.event.Answer.TheVariants as answers
use Rattle.txn_history.specs.Names.{world_names, world_boundary}
use Rattle.txn_history.specs.History.{newest, boundary, erases, was_erased, is_stored, IsEntry}
use Rattle.txn_history.specs.Calls.{begun_count, tells}
use Rattle.txn_history.specs.Facts.{WasNewest}
use Rattle.txn_history.specs.Trace.{Row}
use Rattle.txn_history.specs.Views.{view_at, epoch_held}
use Rattle.txn_history.specs.OneHistory.{has_low_boundary, Opens, Answers}
use Rattle.txn_history.proofs.Holders.{rises_from}
use Rattle.txn_history.proofs.Lists.{any_true, any_last}
use Rattle.txn_history.proofs.More.{AtRow-now}
use Rattle.txn_steps_driven.specs.LatestReads.{IsLatest}
use Rattle.txn_machine.proofs.views.History.{whole_front, entry_within}
use Rattle.txn_machine.proofs.views.Frames.{entry_kept}
use Rattle.txn_manifest.specs.declared.manifest.Manifest.{Manifest}
use Rattle.txn_manifest.specs.Manifest.{is_pinned, epoch_of, with_epoch}
use Rattle.txn_manifest.specs.Tells.{Tells, TellsHolder, GoesOn}
use Rattle.txn_manifest.proofs.Growing.{goes_nowhere, goes_more, goes_quiet, goes_far, effect_pending, begin_pending, told_length, told_entry, begun_told, answer_told, raise_told, erase_told, erased_now, holder_more}
use Rattle.txn_manifest.proofs.Writing.{holder_shown, holder_answered}

module _ (decode : List ℕ → Option Manifest) where
  -- Rows that go on from these: they tell the same history with this boundary, and the holder.
  pub record Goes (names : Names) (files : Files) (rows after : List (Row Manifest)) (h : List Manifest) (b number id epoch : ℕ) (object : Manifest) : Type 0 where
    pub later : GoesOn decode (λ other. other ≢ number) rows after
    pub tells : Tells decode names files after h b
    pub holder : TellsHolder decode after number id epoch object

  -- where the view was last shown is at or below where it stands
  shown_below : (rows : List (Row Manifest)) (number id epoch : ℕ) (object : Manifest) (w : TellsHolder decode rows number id epoch object) → w.fits.shown ≤ id
  shown_below rows number id epoch object w = elim w.fits.stands [ inl same ↦ omega (arith, same) | inr up ↦ up.0 ]

  module _ (names : Names) (files : Files) (rows : List (Row Manifest)) (h : List Manifest) (b number id epoch : ℕ) (object : Manifest) (t : Tells decode names files rows h b) (w : TellsHolder decode rows number id epoch object) where
    module _ (id' : ℕ) (value : Manifest) (latest : IsLatest h id' value) where
      latest_entry : IsEntry decode rows id' value
      latest_entry = told_entry decode names files rows h b t id' value (let some = latest.some in let at = latest.id_is in omega (arith, some, at)) latest.entry

      below_latest : id ≤ id'
      below_latest = (let within = (entry_within decode epoch_of with_epoch [] rows id object w.fits.object).1 in let long = told_length decode names files rows h b t in let at = latest.id_is in omega (arith, within, long, at))

      -- a refresh of a holder whose epoch the newest version has
      refreshed : epoch_of value ≡ epoch → (after : List (Row Manifest)) × Goes names files rows after h b number id' epoch value
      refreshed own =
          let op = begun_count rows + 1 in
          let call : Call Manifest = any.View (view_calls.HolderRefresh number) in
          let begin : Row Manifest = Begun op call in
          let began = rows ++ begin ∷ [] in
          let opens : Opens decode epoch_of rows op call = record { next = refl; shown = holder_shown decode rows number id epoch object w; known = refl; low = refl; keeps = refl } in
          let t' = begun_told decode names files rows h b t call opens tt in
          let pending = begin_pending decode rows t.one call in
          let w' = holder_more decode rows begin number id epoch object (refl, refl) w in
          let entry = entry_kept decode epoch_of with_epoch rows begin id' value latest_entry in
          let long : newest began ≡ id' = told_length decode names files began h b t' ∙ sym latest.id_is in
          let was : WasNewest decode began op id' value = AtRow-now began op (λ rs. (newest rs ≡ id') × IsEntry decode rs id' value) pending.begun (long, entry) in
          let at : number_of (view_at began number) ≡ w'.fits.shown = ap number_of w'.fits.last in
          let low = shown_below began number id epoch object w' in
          let up = below_latest in
          let fits : Answers decode epoch_of [] began op (answers.View number id' value) = record {
            call = call;
            called = pending.called;
            once = pending.once;
            fits = (record { same = refl; rises = omega (arith, at, low, up) }, was, sym w'.fits.epoch ∙ ap Some (sym own));
          } in
          let answer : Row Manifest = Answered op (answers.View number id' value) in (
            began ++ answer ∷ [],
            record {
              later = goes_more decode (λ other. other ≢ number) rows began answer (λ n shown other e. (rw (ne_eqb number n (λ is. other (sym is))) refl, refl)) (goes_quiet decode (λ other. other ≢ number) rows rows begin (λ n. (refl, refl)) (goes_nowhere decode (λ other. other ≢ number) rows));
              tells = answer_told decode names files began h b t' op (answers.View number id' value) fits;
              holder = holder_answered decode began op number id id' epoch object value w' entry;
            },
          )

      -- a refresh of a fenced holder: it read the newest version
      fenced : epoch_of value ≢ epoch → (after : List (Row Manifest)) × Goes names files rows after h b number id' epoch value
      fenced other =
          let op = begun_count rows + 1 in
          let call : Call Manifest = any.Plain calls.Read in
          let begin : Row Manifest = Begun op call in
          let began = rows ++ begin ∷ [] in
          let opens : Opens decode epoch_of rows op call = record { next = refl; shown = refl; known = refl; low = refl; keeps = refl } in
          let t' = begun_told decode names files rows h b t call opens tt in
          let pending = begin_pending decode rows t.one call in
          let w' = holder_more decode rows begin number id epoch object (refl, refl) w in
          let entry = entry_kept decode epoch_of with_epoch rows begin id' value latest_entry in
          let long : newest began ≡ id' = told_length decode names files began h b t' ∙ sym latest.id_is in
          let was : WasNewest decode began op id' value = AtRow-now began op (λ rs. (newest rs ≡ id') × IsEntry decode rs id' value) pending.begun (long, entry) in
          let fits : Answers decode epoch_of [] began op (answers.Plain (plain_answers.Read (Some (id', value)))) = record { call = call; called = pending.called; once = pending.once; fits = was } in
          let answer : Row Manifest = Answered op (answers.Plain (plain_answers.Read (Some (id', value)))) in
          let w'' = holder_more decode began answer number id epoch object (refl, refl) w' in
          let low = shown_below (began ++ answer ∷ []) number id epoch object w'' in
          let up = below_latest in
          let all = whole_front rows in
          let held : epoch_held (take (length rows) rows) number ≡ Some epoch = subst (λ (rs : List (Row Manifest)). epoch_held rs number ≡ Some epoch) (sym all) (sym w.fits.epoch) in
          let shown : number_of (view_at rows number) ≡ w.fits.shown = ap number_of w.fits.last in
          let shown_low = shown_below rows number id epoch object w in
          let below : number_of (view_at (take (length rows) rows) number) ≤ id' = subst (λ (rs : List (Row Manifest)). number_of (view_at rs number) ≤ id') (sym all) (omega (arith, shown, shown_low, up)) in
          let rises : epoch ≤ epoch_of value = rises_from decode epoch_of with_epoch [] rows t.one (length rows) number epoch id' value held below (subst (λ (rs : List (Row Manifest)). IsEntry decode rs id' value) (sym all) latest_entry) in
          let greater : epoch < epoch_of value = elim (cases_lt epoch (epoch_of value)) [ inl lt ↦ lt | inr ge ↦ absurd (other (omega (arith, rises, ge))) ] in (
            began ++ answer ∷ [],
            record {
              later = goes_quiet decode (λ other. other ≢ number) rows began answer (λ n. (refl, refl)) (goes_quiet decode (λ other. other ≢ number) rows rows begin (λ n. (refl, refl)) (goes_nowhere decode (λ other. other ≢ number) rows));
              tells = answer_told decode names files began h b t' op (answers.Plain (plain_answers.Read (Some (id', value)))) fits;
              holder = record {
                client = w.client;
                fits = record {
                  object = entry_kept decode epoch_of with_epoch began answer id' value entry;
                  shown = w''.fits.shown;
                  last = w''.fits.last;
                  stands = inr (omega (arith, low, up), record { epoch = epoch; holder = refl; greater = greater });
                  epoch = w''.fits.epoch;
                };
                told = λ n lt. any_last (tells (nat_lt n)) began answer (lt-ltb n id' lt);
              };
            },
          )

      -- so or so, the holder is at the newest version
      pub refresh_told : (after : List (Row Manifest)) × Goes names files rows after h b number id' epoch value
      refresh_told = elim (cases_eq (epoch_of value) epoch) [ inl own ↦ refreshed own | inr other ↦ fenced other ]

    -- the boundary rises to below an id that was told
    raised : (to : ℕ) → to < 2 ^ 64 → b < to → to < length h → to < id → (after : List (Row Manifest)) × Goes names files rows after h to number id epoch object
    raised to small up under low =
        let op = begun_count rows + 1 in
        let call : Call Manifest = any.Plain (calls.Advance to) in
        let begin : Row Manifest = Begun op call in
        let began = rows ++ begin ∷ [] in
        let told : has_low_boundary rows call ≡ true = rw (w.told to low) (or-true (to == 0)) in
        let opens : Opens decode epoch_of rows op call = record { next = refl; shown = refl; known = refl; low = told; keeps = refl } in
        let t' = begun_told decode names files rows h b t call opens tt in
        let pending = begin_pending decode rows t.one call in
        let w' = holder_more decode rows begin number id epoch object (refl, refl) w in
        let row : Row Manifest = Effect op (requests.Put world_boundary (decimal to) modes.Overwrite) in
        let put = began ++ row ∷ [] in
        let long = told_length decode names files began h b t' in
        let bound = t'.bound in
        let t'' = raise_told decode names files began h b t' op to small (record { called = pending.called; up = omega (arith, bound, up); under = omega (arith, long, under) }) in
        let pending' = effect_pending began op call op (requests.Put world_boundary (decimal to) modes.Overwrite) pending in
        let w'' = holder_more decode began row number id epoch object (refl, refl) w' in
        let bound' = t''.bound in
        let fits : Answers decode epoch_of [] put op (answers.Plain plain_answers.Done) = record { call = call; called = pending'.called; once = pending'.once; fits = omega (arith, bound') } in
        let answer : Row Manifest = Answered op (answers.Plain plain_answers.Done) in (
          put ++ answer ∷ [],
          record {
            later = goes_quiet decode (λ other. other ≢ number) rows put answer (λ n. (refl, refl)) (goes_quiet decode (λ other. other ≢ number) rows began row (λ n. (refl, refl)) (goes_quiet decode (λ other. other ≢ number) rows rows begin (λ n. (refl, refl)) (goes_nowhere decode (λ other. other ≢ number) rows)));
            tells = answer_told decode names files put h to t'' op (answers.Plain plain_answers.Done) fits;
            holder = holder_more decode put answer number id epoch object (refl, refl) w'';
          },
        )

    -- it rises to this, or it is this already
    pub advance_told : (to : ℕ) → to < 2 ^ 64 → b ≤ to → (b < to → (to < length h) × (to < id)) → (after : List (Row Manifest)) × Goes names files rows after h to number id epoch object
    advance_told to small le within =
        elim (cases_lt b to) [
          | inl lt ↦ (let r = within lt in raised to small lt r.0 r.1)
          | inr ge ↦ (let same : b ≡ to = omega (arith, le, ge) in (rows, subst (λ (n : ℕ). Goes names files rows rows h n number id epoch object) same (record { later = goes_nowhere decode (λ other. other ≢ number) rows; tells = t; holder = w })))
        ]

    -- a version that the holder does not need is removed
    sweep_told : (n : ℕ) → n < 2 ^ 64 → n ≤ b → n < id → is_pinned object n ≡ false → (after : List (Row Manifest)) × Goes names files rows after h b number id epoch object × (was_erased after n ≡ true)
    sweep_told n small low below unpinned =
        let op = begun_count rows + 1 in
        let call : Call Manifest = any.Plain (calls.Delete n) in
        let begin : Row Manifest = Begun op call in
        let began = rows ++ begin ∷ [] in
        let opens : Opens decode epoch_of rows op call = record { next = refl; shown = refl; known = refl; low = refl; keeps = refl } in
        let t' = begun_told decode names files rows h b t call opens (record { above = id; object = object; entry = w.fits.object; below = below; unpinned = unpinned }) in
        let pending = begin_pending decode rows t.one call in
        let w' = holder_more decode rows begin number id epoch object (refl, refl) w in
        let row : Row Manifest = Effect op (requests.Delete (version_path world_names n)) in
        let gone = began ++ row ∷ [] in
        let bound = t'.bound in
        let t'' = erase_told decode names files began h b t' op n small (record { called = pending.called; below = omega (arith, bound, low) }) in
        let pending' = effect_pending began op call op (requests.Delete (version_path world_names n)) pending in
        let w'' = holder_more decode began row number id epoch object (refl, refl) w' in
        let erased = erased_now decode began op n small in
        let bound' = t''.bound in
        let fits : Answers decode epoch_of [] gone op (answers.Plain plain_answers.Done) = record {
          call = call;
          called = pending'.called;
          once = pending'.once;
          fits = AtRow-now gone op (λ rs. (n ≤ boundary rs) × (is_stored rs n ≡ false)) pending'.begun (omega (arith, bound', low), erased.1);
        } in
        let answer : Row Manifest = Answered op (answers.Plain plain_answers.Done) in (
          gone ++ answer ∷ [],
          record {
            later = goes_quiet decode (λ other. other ≢ number) rows gone answer (λ n. (refl, refl)) (goes_quiet decode (λ other. other ≢ number) rows began row (λ n. (refl, refl)) (goes_quiet decode (λ other. other ≢ number) rows rows begin (λ n. (refl, refl)) (goes_nowhere decode (λ other. other ≢ number) rows)));
            tells = answer_told decode names files gone h b t'' op (answers.Plain plain_answers.Done) fits;
            holder = holder_more decode gone answer number id epoch object (refl, refl) w'';
          },
          any_true (erases n) gone answer erased.0,
        )

  -- rows that go on from rows that go on
  pub goes_then : (names : Names) (files : Files) (rows middle after : List (Row Manifest)) (h : List Manifest) (b b' number id id' epoch : ℕ) (object object' : Manifest) → Goes names files rows middle h b number id epoch object → Goes names files middle after h b' number id' epoch object' → Goes names files rows after h b' number id' epoch object'
  goes_then names files rows middle after h b b' number id id' epoch object object' g g' = record { later = goes_far decode (λ other. other ≢ number) rows middle after g.later g'.later; tells = g'.tells; holder = g'.holder }

  -- an erased version stays erased
  stays_erased : (apart : ℕ → Type 0) (rows after : List (Row Manifest)) (n : ℕ) → GoesOn decode apart rows after → was_erased rows n ≡ true → was_erased after n ≡ true
  stays_erased apart rows after n g e = subst (λ (rs : List (Row Manifest)). was_erased rs n ≡ true) (sym g.rows) (rw (list_any-append (erases n) rows g.more, e) refl)

  module _ (names : Names) (files : Files) (h : List Manifest) (b number id epoch : ℕ) (object : Manifest) (goes : ℕ → Bool) (may : (n : ℕ) → goes n ≡ true → (n < 2 ^ 64) × (n ≤ b) × (n < id) × (is_pinned object n ≡ false)) where
    -- rows that go on from these with the removal of each version below a number that goes
    pub record Swept (rows : List (Row Manifest)) (m : ℕ) : Type 0 where
      pub after : List (Row Manifest)
      pub goes_on : Goes names files rows after h b number id epoch object
      pub erased : (n : ℕ) → n < m → goes n ≡ true → was_erased after n ≡ true

    next_swept : (rows : List (Row Manifest)) (m : ℕ) → Swept rows m → (is : Bool) → goes m ≡ is → Swept rows (suc m)
    next_swept rows m s false is =
        record {
          after = s.after;
          goes_on = s.goes_on;
          erased = λ n lt e. elim (cases_eq n m) [
            | inl same ↦ absurd (both_ways (goes n) (ap goes same ∙ is) e)
            | inr other ↦ s.erased n (omega (arith, lt, other)) e
          ];
        }
    next_swept rows m s true is =
        let g = s.goes_on in
        let ok = may m is in
        let r = sweep_told names files s.after h b number id epoch object g.tells g.holder m ok.0 ok.1 ok.2 ok.3 in
        record {
          after = r.0;
          goes_on = goes_then names files rows s.after r.0 h b b number id id epoch object object g r.1;
          erased = λ n lt e. elim (cases_eq n m) [
            | inl same ↦ subst (λ (k : ℕ). was_erased r.0 k ≡ true) (sym same) r.2
            | inr other ↦ stays_erased (λ other. other ≢ number) s.after r.0 n r.1.later (s.erased n (omega (arith, lt, other)) e)
          ];
        }

    pub swept : (rows : List (Row Manifest)) → Goes names files rows rows h b number id epoch object → (m : ℕ) → Swept rows m
    swept rows g zero = record { after = rows; goes_on = g; erased = λ n lt e. absurd (omega (arith, lt)) }
    swept rows g (suc m) = next_swept rows m (swept rows g m) (goes m) refl
