-- What the calls of a manifest store leave is told by rows that go on; and of rows that tell a store, what is pinned is stored.
use Rattle.std.proofs.Common.{◌≡◌, ◌≢◌, ℕ, ◌+◌, ◌-◌, ◌<◌, ◌≤◌, ◌^◌, ◌&&◌, ◌==◌, max, not, nat_lt, nat_eq, List, [], ◌∷◌, ◌++◌, length, Bool, true, false, Option, Some, None, is_some, ◌⊎◌, inl, inr, refl, sym, ◌∙◌, ap, subst, arith}
use Rattle.std.specs.Option.{option_map}
use Rattle.std.specs.FinMap.{get}
use Rattle.std.proofs.lemmas.List.{length-append}
use Rattle.std.proofs.lemmas.Bool.{both_ways, cases_eq, cases_lt, and_parts, lt-ltb, ltb-true}
use Rattle.txn_store.specs.VersionName.{Names, version_path}
use Rattle.txn_store.specs.Store.{Files, State}
use Rattle.txn_store.specs.declared.store.Got.{Got}
use Rattle.txn_history.specs.History.{newest, was_erased, IsEntry}
use Rattle.txn_history.specs.Trace.{Row}
use Rattle.txn_machine.proofs.views.History.{entry_within}
use Rattle.slatedb_txn_obj.specs.Views.{IsVersion}
use Rattle.txn_manifest.specs.declared.manifest.Manifest.{Manifest}
use Rattle.txn_manifest.specs.Manifest.{is_pinned, epoch_of, with_epoch}
use Rattle.txn_manifest.specs.Stores.{EntersManifest, StandsBy}
use Rattle.txn_manifest.specs.Collected.{IsApart, IsSameFile}
use Rattle.txn_manifest.specs.Text.{manifest_read}
use Rattle.txn_manifest.specs.Tells.{bytes_of, Tells, TellsHolder, Versions, TellsStore, TellsBoth, IsNextOf, Enters, Collects, HasPinnedFiles}
use Rattle.txn_manifest.proofs.Spare.{pinned_below, not_erased, pinned_kept}
use Rattle.txn_manifest.proofs.Older.{pins_older}
use Rattle.txn_manifest.proofs.Taking.{any_filter, pinned_with}
use Rattle.txn_manifest.proofs.Standing.{below_newest, at_least}
use Rattle.txn_manifest.proofs.Growing.{goes_nowhere, told_length, told_entry, entry_told, files_told}
use Rattle.txn_manifest.proofs.Files.{bytes_there, file_there, others_left, next_small, next_newest, next_stored, still}
use Rattle.txn_manifest.proofs.Writing.{Updates, NextFile, putted, done_told}
use Rattle.txn_manifest.proofs.Clearing.{Goes, refresh_told, advance_told, goes_then, swept}

-- the manifests that a holder enters

next_epoch : (id : ℕ) (object made : Manifest) → IsNextOf id object made → made.epoch ≡ object.epoch
next_epoch id object made (inl e) = ap epoch_of e
next_epoch id object made (inr (inl e)) = ap epoch_of e.1
next_epoch id object made (inr (inr e)) = ap epoch_of e.1

next_pins : (id : ℕ) (object made : Manifest) → IsNextOf id object made → (n : ℕ) → is_pinned made n ≡ true → (n ≡ id) ⊎ (is_pinned object n ≡ true)
next_pins id object made (inl e) n p = pinned_with n id object.pins (ap (λ (m : Manifest). is_pinned m n) (sym e) ∙ p)
next_pins id object made (inr (inl e)) n p = inr (any_filter (nat_eq n) (λ (pin : ℕ). not (pin == e.0)) object.pins (ap (λ (m : Manifest). is_pinned m n) (sym e.1) ∙ p))
next_pins id object made (inr (inr e)) n p = inr (ap (λ (m : Manifest). is_pinned m n) (sym e.1) ∙ p)

module _ (p p' : Versions) (s s' : State) (rows : List (Row Manifest)) (number id id' epoch : ℕ) (object object' made : Manifest) (e : Enters p p' s s' id id' epoch object object' made) (told : TellsStore p s rows) (w : TellsHolder manifest_read rows number id epoch object) where
  abbrev names : Names
  names = p.layout.names

  abbrev names' : Names
  names' = p'.layout.names

  same_names : names' ≡ names
  same_names = ap (λ layout. layout.names) e.placed

  abbrev h : List Manifest
  h = told.h

  abbrev b : ℕ
  b = told.b

  within : (0 < id) × (id ≤ length h)
  within =
      let r = entry_within manifest_read epoch_of with_epoch [] rows id object w.fits.object in
      let long = told_length manifest_read names s.files rows h b told.tells in
      (r.0, omega (arith, r.1, long))

  version : IsVersion h id object
  version = record { positive = within.0; within = within.1; entry = entry_told manifest_read names s.files rows h b told.tells id object w.fits.object }

  -- the version that the holder writes, where it was appended

  abbrev longer : List Manifest
  longer = h ++ made ∷ []

  long : length longer ≡ length h + 1
  long = length-append h (made ∷ [])

  module _ (stands : StandsBy p' s' longer b) where
    small : length h + 1 < 2 ^ 64
    small = next_small p p' s s' rows told id made e.placed e.creates within.1 stands

    on_newest : id ≡ length h
    on_newest = next_newest p p' s s' rows told id made e.placed e.creates within.1 stands

    updates : object.epoch ≡ epoch → Updates manifest_read names s.files rows h b number id epoch object made
    updates own =
        let sm = small in
        let at = on_newest in
        record {
          tells = told.tells;
          holder = w;
          newest = on_newest;
          own = own;
          same = next_epoch id object made e.next;
          pins = next_pins id object made e.next;
          small = omega (arith, sm, at);
        }

    next_file : (own : object.epoch ≡ epoch) → NextFile manifest_read names s.files rows h b number id epoch object made (updates own) s'.files
    next_file own =
        let sm = small in
        let at = on_newest in
        let file = next_stored p p' s s' rows told id made e.placed e.creates within.1 stands (id + 1) (ap (λ (n : ℕ). n + 1) at) in
        record {
          bytes = file.0.bytes;
          there = bytes_there names s'.files (id + 1) file.0 file.1;
          reads = file.2;
          others = λ n fits other. others_left names (id + 1) s s' (omega (arith, sm, at)) e.creates n fits other;
        }

    tells_more : (after : List (Row Manifest)) → Tells manifest_read names s'.files after longer b → TellsStore p' s' after
    tells_more after t =
        record { h = longer; b = b; stands = stands; tells = files_told manifest_read names s'.files after longer b t names' s'.files (λ n fits spared. ap (λ (nm : Names). bytes_of nm s'.files n) same_names) }

    -- it was entered
    entered_told : object.epoch ≡ epoch → id' ≡ id + 1 → object' ≡ made → TellsBoth p' s' rows number id' epoch object'
    entered_told own at is =
        let f = next_file own in
        let d = done_told manifest_read names s.files rows h b number id epoch object made (updates own) s'.files f in
        record {
          rows = d.0;
          later = d.1.later;
          store = tells_more d.0 d.1.tells;
          holder = subst (λ (m : Manifest). TellsHolder manifest_read d.0 number id' epoch m) (sym is) (subst (λ (n : ℕ). TellsHolder manifest_read d.0 number n epoch made) (sym at) d.1.holder);
        }

    -- it was appended, and not answered
    appended_told : object.epoch ≡ epoch → TellsBoth p' s' rows number id epoch object
    appended_told own =
        let f = next_file own in
        let d = putted manifest_read names s.files rows h b number id epoch object made (updates own) s'.files f in
        record { rows = d.0; later = d.1.later; store = tells_more d.0 d.1.tells; holder = d.1.holder }

  -- nothing moved: at most a version below the boundary is there again
  stays_told : StandsBy p' s' h b → TellsBoth p' s' rows number id epoch object
  stays_told stands =
      record {
        rows = rows;
        later = goes_nowhere manifest_read (λ other. other ≢ number) rows;
        store = record { h = h; b = b; stands = stands; tells = files_told manifest_read names s.files rows h b told.tells names' s'.files (λ n fits spared. ap (λ (nm : Names). bytes_of nm s'.files n) same_names ∙ still p p' s s' rows told id made e.placed e.creates within.1 stands n fits spared) };
        holder = w;
      }

  own_told : object.epoch ≡ epoch → (EntersManifest (StandsBy p s) (StandsBy p' s') id id' object object' made) ⊎ ((id' ≡ id) × (object' ≡ object) × ((h : List Manifest) (b : ℕ) → StandsBy p s h b → id ≤ length h → StandsBy p' s' h b ⊎ ((id ≡ length h) × StandsBy p' s' (h ++ made ∷ []) b))) → TellsBoth p' s' rows number id' epoch object'
  own_told own (inl entered) =
      let u = entered.updated in
      let stands = u.stands h b told.stands version in
      let at = on_newest stands in
      let next = (u.next h b told.stands version).id_is in
      let len = long in
      entered_told stands own (omega (arith, at, next, len)) entered.now
  own_told own (inr failed) =
      let left : TellsBoth p' s' rows number id epoch object = elim (failed.2 h b told.stands within.1) [ inl stays ↦ stays_told stays | inr grown ↦ appended_told grown.1 own ] in
      subst (λ (m : Manifest). TellsBoth p' s' rows number id' epoch m) (sym failed.1) (subst (λ (n : ℕ). TellsBoth p' s' rows number n epoch object) (sym failed.0) left)

  -- what a write of a holder leaves is told by rows that go on
  pub enters_told : TellsBoth p' s' rows number id' epoch object'
  enters_told =
      elim (cases_eq object.epoch epoch) [
        | inl own ↦ own_told own e.ends
        | inr other ↦ (
            let same = e.shut other in
            let left : TellsBoth p s rows number id epoch object = record { rows = rows; later = goes_nowhere manifest_read (λ other. other ≢ number) rows; store = told; holder = w } in
            subst (λ (q : Versions). TellsBoth q s' rows number id' epoch object') (sym same.0)
            (subst (λ (t : State). TellsBoth p t rows number id' epoch object') (sym same.1)
            (subst (λ (m : Manifest). TellsBoth p s rows number id' epoch m) (sym same.3)
            (subst (λ (n : ℕ). TellsBoth p s rows number n epoch object) (sym same.2) left)))
            )
      ]

module _ (p p' : Versions) (s s' : State) (rows : List (Row Manifest)) (number id id' epoch : ℕ) (object object' : Manifest) (c : Collects p p' s s' id id' object object') (told : TellsStore p s rows) (w : TellsHolder manifest_read rows number id epoch object) where
  abbrev at_names : Names
  at_names = p.layout.names

  kept_names : p'.layout.names ≡ at_names
  kept_names = ap (λ layout. layout.names) c.placed

  apart : IsApart at_names p.boundary.path
  apart = told.stands.apart

  -- the holder is where the collection was made
  met : (after : List (Row Manifest)) × Goes manifest_read at_names s.files rows after told.h told.b number id' epoch object'
  met =
      elim c.met [
        | inl same ↦ (rows, subst (λ (m : Manifest). Goes manifest_read at_names s.files rows rows told.h told.b number id' epoch m) (sym same.1) (subst (λ (n : ℕ). Goes manifest_read at_names s.files rows rows told.h told.b number n epoch object) (sym same.0) (record { later = goes_nowhere manifest_read (λ other. other ≢ number) rows; tells = told.tells; holder = w })))
        | inr shows ↦ refresh_told manifest_read at_names s.files rows told.h told.b number id epoch object told.tells w id' object' (shows told.h told.b told.stands)
      ]

  inside : (0 < id') × (id' ≤ length told.h)
  inside =
      let m = met in
      let r = entry_within manifest_read epoch_of with_epoch [] m.0 id' object' m.1.holder.fits.object in
      let len = told_length manifest_read at_names s.files m.0 told.h told.b m.1.tells in
      (r.0, omega (arith, r.1, len))

  -- the boundary then, and rows that tell it
  record Raised (b : ℕ) : Type 0 where
    stands : StandsBy p' s' told.h b
    after : List (Row Manifest)
    goes : Goes manifest_read at_names s.files rows after told.h b number id' epoch object'

  raised : (b : ℕ) × Raised b
  raised =
      let m = met in
      let r = inside in
      elim (c.kept told.h told.b told.stands r.1) [
        | inl same ↦ (told.b, record { stands = same; after = m.0; goes = m.1 })
        | inr up ↦ (
            let to = max told.b (id' - 1) in
            let fits = told.stands.versions.files_stand.fits in
            let below : told.b < to → to < id' = λ lt. elim (below_newest told.b id' id' (omega arith)) [ inl same ↦ absurd (omega (arith, same, lt)) | inr is ↦ is ] in
            let top : to < 2 ^ 64 = elim (below_newest told.b id' (length told.h) r.1) [ inl same ↦ (let low = told.stands.versions.files_stand.below in omega (arith, same, low, fits)) | inr is ↦ omega (arith, is, fits) ] in
            let a = advance_told manifest_read at_names s.files m.0 told.h told.b number id' epoch object' m.1.tells m.1.holder to top (at_least told.b id') (λ lt. (let is = below lt in (omega (arith, is, r.1), is))) in
            (to, record { stands = up; after = a.0; goes = goes_then manifest_read at_names s.files rows m.0 a.0 told.h told.b to number id' id' epoch object' object' m.1 a.1 })
            )
      ]

  -- a version below the holder's that was there and is gone
  abbrev goes_away : ℕ → Bool
  goes_away n = nat_lt n id' && (is_some (get s.files (version_path at_names n)) && not (is_some (get s'.files (version_path at_names n))))

  record Away (n : ℕ) : Type 0 where
    below : n < id'
    got : Got
    was : get s.files (version_path at_names n) ≡ Some got
    gone : get s'.files (version_path at_names n) ≡ None

  away : (n : ℕ) → goes_away n ≡ true → Away n
  away n e =
      let one = and_parts (nat_lt n id') (is_some (get s.files (version_path at_names n)) && not (is_some (get s'.files (version_path at_names n)))) e in
      let two = and_parts (is_some (get s.files (version_path at_names n))) (not (is_some (get s'.files (version_path at_names n)))) one.1 in
      let old = there (get s.files (version_path at_names n)) two.0 in
      record { below = ltb-true n id' one.0; got = old.0; was = old.1; gone = none (get s'.files (version_path at_names n)) two.1 }
    where
      there : (o : Option Got) → is_some o ≡ true → (got : Got) × (o ≡ Some got)
      there None h = cc
      there (Some got) h = (got, refl)

      none : (o : Option Got) → not (is_some o) ≡ true → o ≡ None
      none None h = refl
      none (Some got) h = cc

  away_not_same : (n : ℕ) → Away n → IsSameFile at_names s.files s'.files n → ⊥
  away_not_same n a same = (let clash : None ≡ Some a.got = sym a.gone ∙ (same ∙ a.was) in cc)

  may_go : (b : ℕ) → StandsBy p' s' told.h b → (n : ℕ) → goes_away n ≡ true → (n < 2 ^ 64) × (n ≤ b) × (n < id') × (is_pinned object' n ≡ false)
  may_go b stands n e =
      let a = away n e in
      let lt = a.below in
      let r = inside in
      let fits = told.stands.versions.files_stand.fits in
      let small : n < 2 ^ 64 = omega (arith, lt, r.1, fits) in (
        small,
        elim (cases_lt b n) [
          | inr le ↦ le
          | inl above ↦ absurd (
              let file = stands.versions.files_stand.stored n above (omega (arith, lt, r.1)) in
              let clash : None ≡ Some file.0 = sym a.gone ∙ (ap (λ (nm : Names). get s'.files (version_path nm n)) (sym kept_names) ∙ file.1) in
              cc
              )
        ],
        lt,
        unpinned (is_pinned object' n) refl small a,
      )
    where
      unpinned : (is : Bool) → is_pinned object' n ≡ is → n < 2 ^ 64 → Away n → is ≡ false
      unpinned false h small a = refl
      unpinned true h small a = absurd (away_not_same n a (c.needed apart n small (inr (ap not h))))

  -- what a collection leaves is told by rows that go on
  pub collects_told : TellsBoth p' s' rows number id' epoch object'
  collects_told =
      let r = raised in
      let g = r.1.goes in
      let start : Goes manifest_read at_names s.files r.1.after r.1.after told.h r.0 number id' epoch object' = record { later = goes_nowhere manifest_read (λ other. other ≢ number) r.1.after; tells = g.tells; holder = g.holder } in
      let done = swept manifest_read at_names s.files told.h r.0 number id' epoch object' goes_away (may_go r.0 r.1.stands) r.1.after start id' in
      let all = goes_then manifest_read at_names s.files rows r.1.after done.after told.h r.0 r.0 number id' id' epoch object' object' g done.goes_on in
      record {
        rows = done.after;
        later = all.later;
        store = record {
          h = told.h;
          b = r.0;
          stands = r.1.stands;
          tells = files_told manifest_read at_names s.files done.after told.h r.0 all.tells p'.layout.names s'.files
              (λ n small spared. ap (λ (nm : Names). bytes_of nm s'.files n) kept_names ∙ same done.after n small spared (λ lt is. done.erased n lt is));
        };
        holder = all.holder;
      }
    where
      whole : (n : ℕ) → IsSameFile at_names s.files s'.files n → bytes_of at_names s'.files n ≡ bytes_of at_names s.files n
      whole n e = ap (option_map (λ (g : Got). g.bytes)) e

      same : (after : List (Row Manifest)) (n : ℕ) → n < 2 ^ 64 → was_erased after n ≡ false → (n < id' → goes_away n ≡ true → was_erased after n ≡ true) → bytes_of at_names s'.files n ≡ bytes_of at_names s.files n
      same after n small spared erased =
          elim (cases_lt n id') [
            | inr ge ↦ whole n (c.needed apart n small (inl ge))
            | inl lt ↦ elim (c.removed apart n small) [
              | inl is ↦ whole n is
              | inr gone ↦ by (get s.files (version_path at_names n)) refl gone lt
            ]
          ]
        where
          by : (found : Option Got) → get s.files (version_path at_names n) ≡ found → get s'.files (version_path at_names n) ≡ None → n < id' → bytes_of at_names s'.files n ≡ bytes_of at_names s.files n
          by None is gone lt = whole n (gone ∙ sym is)
          by (Some got) is gone lt = absurd (both_ways (was_erased after n) spared (erased lt (rw (lt-ltb n id' lt) (rw is (rw gone refl)))))

-- of rows that tell a store: each id that the newest manifest pins is stored
pub pinned_files : (names : Names) (files : Files) (rows : List (Row Manifest)) (h : List Manifest) (b : ℕ) → length h < 2 ^ 64 → Tells manifest_read names files rows h b → HasPinnedFiles names files h
pinned_files names files rows h b fits t top id entry latest pinned =
    let older = pins_older manifest_read rows [] t.one t.begins in
    let some = latest.some in
    let at = latest.id_is in
    let len = told_length manifest_read names files rows h b t in
    let is : IsEntry manifest_read rows top entry = told_entry manifest_read names files rows h b t top entry (omega (arith, some, at)) latest.entry in
    let now : IsEntry manifest_read rows (newest rows) entry = subst (λ (n : ℕ). IsEntry manifest_read rows n entry) (at ∙ sym len) is in
    let below = pinned_below manifest_read rows older top id entry is pinned in
    let kept = pinned_kept manifest_read rows [] t.one t.begins id entry now pinned in
    let spared = not_erased manifest_read rows [] t.one t.begins id entry now pinned in
    let file = file_there names files id kept.bytes (t.versions id (omega (arith, below.1, at, fits)) spared ∙ kept.there) in
    record {
      positive = below.0;
      below = below.1;
      value = kept.value;
      entry = entry_told manifest_read names files rows h b t id kept.value kept.entry;
      got = file.0;
      there = file.1;
      reads = ap manifest_read file.2 ∙ kept.reads;
    }
