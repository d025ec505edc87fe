-- Rows that tell a store, with one row more: a begin, an answer, a version, a higher boundary, a version less.
use Rattle.std.proofs.Common.{◌≡◌, ◌≢◌, nat_lt, ℕ, zero, suc, ◌+◌, ◌-◌, ◌<◌, ◌≤◌, ◌^◌, List, [], ◌∷◌, ◌++◌, length, take, map, slice_get, unwrap_or, Bool, true, false, cond, Option, Some, None, inl, inr, refl, sym, ◌∙◌, ap, subst, arith}
use Rattle.std.specs.FinMap.{get, insert, remove}
use Rattle.std.specs.Fmt.{decimal}
use Rattle.std.proofs.lemmas.List.{append_assoc, append-nil, map-append, length-map}
use Rattle.std.proofs.lemmas.Bool.{both_ways, cases_eq, eqb-true, eq-eqb, false_from_ne_true}
use Rattle.std.proofs.lemmas.Option.{same_Some}
use Rattle.txn_store.specs.declared.store.PutMode.TheVariants as modes
use Rattle.txn_store.specs.declared.request.Request.{Request}
use Rattle.txn_store.specs.declared.request.Request.TheVariants as requests
use Rattle.txn_store.specs.VersionName.{Names, version_path}
use Rattle.txn_store.specs.Store.{Files}
use Rattle.txn_store.proofs.VersionOfLemmas.{one_path}
use Rattle.txn_store.proofs.FileLemmas.{get-insert_same, get-insert_other, get-remove_same, get-remove_other}
use Rattle.txn_store.proofs.types.BoundaryLemmas.{read_decimal_text}
use Rattle.txn_history.specs.declared.trace.RowOf.TheVariants.{Effect, Begun, Answered}
use Rattle.txn_history.specs.declared.event.Call.{Call}
use Rattle.txn_history.specs.declared.event.Call.TheVariants as any
use Rattle.txn_history.specs.declared.event.Answer.{Answer}
use Rattle.txn_history.specs.Names.{world_names, world_boundary}
use Rattle.txn_history.specs.History.{Contents, Version, is_id, created_by, has_id, with_version, versions_of, newest, history, stored, stored_with, boundary_said, erases, was_erased, is_stored, IsEntry}
use Rattle.txn_history.specs.Calls.{begins, ends, was_begun, was_answered, begun_count, IsCall, tells}
use Rattle.txn_history.specs.Effects.{Appends, Raises, Erases, Append, Raise, Erase}
use Rattle.txn_history.specs.Trace.{Row}
use Rattle.txn_history.specs.Views.{view_at}
use Rattle.txn_history.specs.OneHistory.{WritesOn, MayAppend, Opens, Answers, Fits, IsOneHistory}
use Rattle.txn_history.proofs.Apart.{apart, created_is, raise_creates, raised_is, removed_is}
use Rattle.txn_history.proofs.Fronts.{of_front}
use Rattle.txn_history.proofs.Lists.{get_last, any_true, any_last, any_false}
use Rattle.txn_history.proofs.More.{IsCall-more}
use Rattle.txn_history.proofs.Rows.{versions_of-more, stored-more, boundary-same}
use Rattle.txn_machine.proofs.views.History.{one_history-more}
use Rattle.txn_machine.proofs.views.Stands.{Quiet}
use Rattle.txn_machine.proofs.views.Frames.{view_more}
use Rattle.txn_manifest.specs.declared.manifest.Manifest.{Manifest}
use Rattle.txn_manifest.specs.Manifest.{epoch_of, with_epoch}
use Rattle.txn_manifest.specs.OfManifests.{IsOfManifests, AreOfManifests}
use Rattle.txn_manifest.specs.Tells.{bytes_of, Tells, TellsHolder, TellsView, GoesOn}
use Rattle.txn_manifest.proofs.Once.{any_none, any_at, is_begin}
use Rattle.txn_manifest.proofs.Keeping.{are_held, next_new}
use Rattle.txn_manifest.proofs.Made.{begun_more, other_more}

-- an operation of the next number

-- where one began, fewer had begun than in all
count_at : (rows : List (Row Manifest)) (k op : ℕ) (call : Call Manifest) → slice_get rows k ≡ Some (Begun op call) → begun_count (take k rows) + 1 ≤ begun_count rows
count_at [] k op call e = cc
count_at (Begun o c ∷ rows) zero op call e = omega arith
count_at (Effect o request ∷ rows) zero op call e = cc
count_at (Answered o answer ∷ rows) zero op call e = cc
count_at (Begun o c ∷ rows) (suc k) op call e = let rest = count_at rows k op call e in omega (arith, rest)
count_at (Effect o request ∷ rows) (suc k) op call e = count_at rows k op call e
count_at (Answered o answer ∷ rows) (suc k) op call e = count_at rows k op call e

is_answer : (op : ℕ) (row : Row Manifest) → ends op row ≡ true → (answer : Answer Manifest) × (row ≡ Answered op answer)
is_answer op (Answered o answer) e = (answer, ap (λ (n : ℕ). Answered n answer) (eqb-true o op e))
is_answer op (Effect o request) e = cc
is_answer op (Begun o call) e = cc

-- an operation that began and was not answered
pub record Pending (rows : List (Row Manifest)) (op : ℕ) (call : Call Manifest) : Type 0 where
  pub called : IsCall rows op call
  pub begun : was_begun rows op ≡ true
  pub once : was_answered rows op ≡ false

pub effect_pending : (rows : List (Row Manifest)) (op : ℕ) (call : Call Manifest) (o : ℕ) (request : Request) → Pending rows op call → Pending (rows ++ Effect o request ∷ []) op call
effect_pending rows op call o request p =
    let row : Row Manifest = Effect o request in
    record {
      called = IsCall-more rows row op call p.called;
      begun = any_true (begins op) rows row p.begun;
      once = any_false (ends op) rows row p.once refl;
    }

module _ (decode : List ℕ → Option Manifest) where
  abbrev IsTold : List (Row Manifest) → Type 0
  IsTold rows = IsOneHistory decode epoch_of with_epoch [] rows

  not_there : (rows : List (Row Manifest)) → IsTold rows → (k : ℕ) (call : Call Manifest) → slice_get rows k ≡ Some (Begun (begun_count rows + 1) call) → ⊥
  not_there rows good k call e =
      let opens : Opens decode epoch_of (take k rows) (begun_count rows + 1) call = good k (Begun (begun_count rows + 1) call) e in
      let next = opens.next in
      let at = count_at rows k (begun_count rows + 1) call e in
      omega (arith, next, at)

  -- the next operation has not begun
  pub unbegun : (rows : List (Row Manifest)) → IsTold rows → was_begun rows (begun_count rows + 1) ≡ false
  unbegun rows good = false_from_ne_true (was_begun rows (begun_count rows + 1)) (λ is. (
      let a = any_at (begins (begun_count rows + 1)) rows is in
      let begin = is_begin (begun_count rows + 1) a.1 a.3 in
      not_there rows good a.0 begin.0 (a.2 ∙ ap Some begin.1)
      ))

  -- nor was it answered
  unanswered : (rows : List (Row Manifest)) → IsTold rows → was_answered rows (begun_count rows + 1) ≡ false
  unanswered rows good = false_from_ne_true (was_answered rows (begun_count rows + 1)) (λ is. (
      let a = any_at (ends (begun_count rows + 1)) rows is in
      let told = is_answer (begun_count rows + 1) a.1 a.3 in
      let answers : Answers decode epoch_of [] (take a.0 rows) (begun_count rows + 1) told.0 = good a.0 (Answered (begun_count rows + 1) told.0) (a.2 ∙ ap Some told.1) in
      let called = answers.called in
      let there = of_front rows a.0 called.0 (Begun (begun_count rows + 1) answers.call) called.1 in
      not_there rows good called.0 answers.call there.0
      ))

  pub begin_pending : (rows : List (Row Manifest)) → IsTold rows → (call : Call Manifest) → Pending (rows ++ Begun (begun_count rows + 1) call ∷ []) (begun_count rows + 1) call
  begin_pending rows good call =
      let op = begun_count rows + 1 in
      let row : Row Manifest = Begun op call in
      record {
        called = (length rows, get_last rows row);
        begun = any_last (begins op) rows row (eq-eqb op op refl);
        once = any_false (ends op) rows row (unanswered rows good) refl;
      }

  -- the entries that rows tell

  get_some : (h : List Manifest) (k : ℕ) (v : Manifest) → slice_get h k ≡ Some v → slice_get (map (λ (entry : Manifest). Some entry) h) k ≡ Some (Some v)
  get_some [] k v e = cc
  get_some (x ∷ h) zero v e = ap Some e
  get_some (x ∷ h) (suc k) v e = get_some h k v e

  some_get : (h : List Manifest) (k : ℕ) (v : Manifest) → slice_get (map (λ (entry : Manifest). Some entry) h) k ≡ Some (Some v) → slice_get h k ≡ Some v
  some_get [] k v e = cc
  some_get (x ∷ h) zero v e = same_Some (Some x) (Some v) e
  some_get (x ∷ h) (suc k) v e = some_get h k v e

  module _ (names : Names) (files : Files) (rows : List (Row Manifest)) (h : List Manifest) (b : ℕ) (t : Tells decode names files rows h b) where
    pub told_length : newest rows ≡ length h
    told_length =
        let one : length (history decode rows) ≡ length (map (λ (entry : Manifest). Some entry) h) = ap (λ (os : List (Option Manifest)). length os) t.entries in
        omega (arith, one, length-map (versions_of rows) (λ (v : Version). decode v.1), length-map h (λ (entry : Manifest). Some entry))

    pub told_entry : (n : ℕ) (v : Manifest) → 0 < n → slice_get h (n - 1) ≡ Some v → IsEntry decode rows n v
    told_entry zero v some e = absurd (omega (arith, some))
    told_entry (suc n) v some e =
        let at : suc n - 1 ≡ n = omega arith in
        let there : slice_get h n ≡ Some v = subst (λ (m : ℕ). slice_get h m ≡ Some v) at e in
        subst (λ (os : List (Option Manifest)). slice_get os n ≡ Some (Some v)) (sym t.entries) (get_some h n v there)

    pub entry_told : (n : ℕ) (v : Manifest) → IsEntry decode rows n v → slice_get h (n - 1) ≡ Some v
    entry_told zero v e = cc
    entry_told (suc n) v e =
        let at : n ≡ suc n - 1 = omega arith in
        subst (λ (m : ℕ). slice_get h m ≡ Some v) at (some_get h n v (subst (λ (os : List (Option Manifest)). slice_get os n ≡ Some (Some v)) t.entries e))

    -- a row that changes no file
    same_told : (row : Row Manifest) → created_by row ≡ None → stored_with (stored rows) row ≡ stored rows → Fits decode epoch_of with_epoch [] rows row → AreOfManifests decode (rows ++ row ∷ []) → Tells decode names files (rows ++ row ∷ []) h b
    same_told row creates keeps fits begun =
        let contents : stored (rows ++ row ∷ []) ≡ stored rows = stored-more rows row ∙ keeps in
        record {
          one = one_history-more decode epoch_of with_epoch [] rows row t.one fits;
          begins = begun;
          entries = ap (map (λ (v : Version). decode v.1)) (versions_of-more rows row ∙ ap (with_version (versions_of rows)) creates) ∙ t.entries;
          bound = boundary-same rows row contents ∙ t.bound;
          versions = λ n small spared. (
              let no = any_none (erases n) rows row spared in
              t.versions n small no.0 ∙ ap (λ (c : Contents). get c (version_path world_names n)) (sym contents)
              );
        }

    pub begun_told : (call : Call Manifest) → Opens decode epoch_of rows (begun_count rows + 1) call → IsOfManifests decode rows call → Tells decode names files (rows ++ Begun (begun_count rows + 1) call ∷ []) h b
    begun_told call opens of = same_told (Begun (begun_count rows + 1) call) refl refl opens (begun_more decode rows (begun_count rows + 1) call t.begins of)

    pub answer_told : (op : ℕ) (answer : Answer Manifest) → Answers decode epoch_of [] rows op answer → Tells decode names files (rows ++ Answered op answer ∷ []) h b
    answer_told op answer fits = same_told (Answered op answer) refl refl fits (other_more decode rows (Answered op answer) refl t.begins)

    -- the name of the next version is new
    pub told_new : (id : ℕ) → id ≡ newest rows + 1 → has_id (versions_of rows) id ≡ false
    told_new id next = next_new rows (are_held decode epoch_of with_epoch [] rows t.one) id next

    -- the next version
    pub version_told : (new : Files) (op id : ℕ) (bytes : List ℕ) → id < 2 ^ 64 → (a : Appends decode epoch_of (WritesOn decode epoch_of with_epoch) (MayAppend decode epoch_of with_epoch) rows op id bytes) → bytes_of names new id ≡ Some bytes → ((n : ℕ) → n < 2 ^ 64 → n ≢ id → was_erased rows n ≡ false → bytes_of names new n ≡ bytes_of names files n) →
        Tells decode names new (rows ++ Effect op (requests.Put (version_path world_names id) bytes modes.Create) ∷ []) (h ++ a.value ∷ []) b
    version_told new op id bytes small a there others =
        let path = version_path world_names id in
        let row : Row Manifest = Effect op (requests.Put path bytes modes.Create) in
        let read = λ (v : Version). decode v.1 in
        let creates = created_is id bytes modes.Create small in
        let versions : versions_of (rows ++ row ∷ []) ≡ versions_of rows ++ (id, bytes) ∷ [] =
        versions_of-more rows row ∙ (ap (with_version (versions_of rows)) creates ∙ ap (λ (o : Bool). cond o (versions_of rows) (versions_of rows ++ (id, bytes) ∷ [])) (told_new id a.next)) in
        let contents : stored (rows ++ row ∷ []) ≡ insert (stored rows) path bytes = stored-more rows row in
        let entries : map read (versions_of rows) ++ decode bytes ∷ [] ≡ map (λ (entry : Manifest). Some entry) h ++ Some a.value ∷ [] =
        ap (λ (os : List (Option Manifest)). os ++ decode bytes ∷ []) t.entries ∙ ap (λ (o : Option Manifest). map (λ (entry : Manifest). Some entry) h ++ o ∷ []) a.reads in
        record {
          one = one_history-more decode epoch_of with_epoch [] rows row t.one (Append id bytes creates a);
          begins = other_more decode rows row refl t.begins;
          entries = ap (map read) versions ∙ (map-append read (versions_of rows) ((id, bytes) ∷ []) ∙ (entries ∙ sym (map-append (λ (entry : Manifest). Some entry) h (a.value ∷ []))));
          bound = ap (λ (c : Contents). boundary_said (get c world_boundary)) contents ∙ (ap boundary_said (get-insert_other (stored rows) path world_boundary bytes (apart id)) ∙ t.bound);
          versions = λ n fits spared. (
              let no = any_none (erases n) rows row spared in
              let here = ap (λ (c : Contents). get c (version_path world_names n)) contents in
              elim (cases_eq n id) [
                | inl same ↦ ap (bytes_of names new) same ∙ (there ∙ sym (here ∙ (ap (λ (m : ℕ). get (insert (stored rows) path bytes) (version_path world_names m)) same ∙ get-insert_same (stored rows) path bytes)))
                | inr other ↦ others n fits other no.0 ∙ (t.versions n fits no.0 ∙ sym (here ∙ get-insert_other (stored rows) path (version_path world_names n) bytes (λ e. other (one_path world_names n id fits small e))))
              ]
              );
        }

    -- a higher boundary
    pub raise_told : (op to : ℕ) → to < 2 ^ 64 → Raises any.Plain rows op to → Tells decode names files (rows ++ Effect op (requests.Put world_boundary (decimal to) modes.Overwrite) ∷ []) h to
    raise_told op to small r =
        let bytes = decimal to in
        let row : Row Manifest = Effect op (requests.Put world_boundary bytes modes.Overwrite) in
        let contents : stored (rows ++ row ∷ []) ≡ insert (stored rows) world_boundary bytes = stored-more rows row in
        record {
          one = one_history-more decode epoch_of with_epoch [] rows row t.one (Raise to (raised_is to modes.Overwrite small) r);
          begins = other_more decode rows row refl t.begins;
          entries = ap (map (λ (v : Version). decode v.1)) (versions_of-more rows row ∙ ap (with_version (versions_of rows)) (raise_creates bytes modes.Overwrite)) ∙ t.entries;
          bound = ap (λ (c : Contents). boundary_said (get c world_boundary)) contents ∙ (ap boundary_said (get-insert_same (stored rows) world_boundary bytes) ∙ ap (λ (o : Option ℕ). unwrap_or o 0) (read_decimal_text to small));
          versions = λ n fits spared. (
              let no = any_none (erases n) rows row spared in
              t.versions n fits no.0 ∙ sym (ap (λ (c : Contents). get c (version_path world_names n)) contents ∙ get-insert_other (stored rows) world_boundary (version_path world_names n) bytes (λ e. apart n (sym e)))
              );
        }

    -- a version less
    pub erase_told : (op id : ℕ) → id < 2 ^ 64 → Erases any.Plain rows op id → Tells decode names files (rows ++ Effect op (requests.Delete (version_path world_names id)) ∷ []) h b
    erase_told op id small e =
        let path = version_path world_names id in
        let row : Row Manifest = Effect op (requests.Delete path) in
        let contents : stored (rows ++ row ∷ []) ≡ remove (stored rows) path = stored-more rows row in
        record {
          one = one_history-more decode epoch_of with_epoch [] rows row t.one (Erase id (removed_is id small) e);
          begins = other_more decode rows row refl t.begins;
          entries = ap (map (λ (v : Version). decode v.1)) (versions_of-more rows row) ∙ t.entries;
          bound = ap (λ (c : Contents). boundary_said (get c world_boundary)) contents ∙ (ap boundary_said (get-remove_other (stored rows) path world_boundary (apart id)) ∙ t.bound);
          versions = λ n fits spared. (
              let no = any_none (erases n) rows row spared in
              let other : version_path world_names n ≡ path → ⊥ = λ same. (
              let one : n ≡ id = one_path world_names n id fits small same in
              both_ways (erases n row) no.1 (ap (is_id n) (removed_is id small) ∙ eq-eqb id n (sym one))
              ) in
              t.versions n fits no.0 ∙ sym (ap (λ (c : Contents). get c (version_path world_names n)) contents ∙ get-remove_other (stored rows) path (version_path world_names n) other)
              );
        }

    -- other files, which say the same of each version that is not erased
    pub files_told : (names' : Names) (new : Files) → ((n : ℕ) → n < 2 ^ 64 → was_erased rows n ≡ false → bytes_of names' new n ≡ bytes_of names files n) → Tells decode names' new rows h b
    files_told names' new same = record { one = t.one; begins = t.begins; entries = t.entries; bound = t.bound; versions = λ n small spared. same n small spared ∙ t.versions n small spared }

  -- an erased id stays erased, and the version is no longer stored
  pub erased_now : (rows : List (Row Manifest)) (op id : ℕ) → id < 2 ^ 64 → (was_erased (rows ++ Effect op (requests.Delete (version_path world_names id)) ∷ []) id ≡ true) × (is_stored (rows ++ Effect op (requests.Delete (version_path world_names id)) ∷ []) id ≡ false)
  erased_now rows op id small =
      let path = version_path world_names id in
      let row : Row Manifest = Effect op (requests.Delete path) in
      let gone : get (stored (rows ++ row ∷ [])) path ≡ None = ap (λ (c : Contents). get c path) (stored-more rows row) ∙ get-remove_same (stored rows) path in
      (any_last (erases id) rows row (ap (is_id id) (removed_is id small) ∙ eq-eqb id id refl), rw gone refl)

  -- a holder, where a row says nothing of its view
  pub holder_more : (rows : List (Row Manifest)) (row : Row Manifest) (number id epoch : ℕ) (object : Manifest) → Quiet row number → TellsHolder decode rows number id epoch object → TellsHolder decode (rows ++ row ∷ []) number id epoch object
  holder_more rows row number id epoch object quiet w =
      record {
        client = w.client;
        fits = view_more decode epoch_of with_epoch rows row number (record { client = w.client; id = id; object = object; epoch = Some epoch }) quiet w.fits;
        told = λ n below. any_true (tells (nat_lt n)) rows row (w.told n below);
      }

  -- a view that is no holder
  pub view_kept : (rows : List (Row Manifest)) (row : Row Manifest) (number id : ℕ) (object : Manifest) → Quiet row number → TellsView decode rows number id object → TellsView decode (rows ++ row ∷ []) number id object
  view_kept rows row number id object quiet w =
      record { client = w.client; fits = view_more decode epoch_of with_epoch rows row number (record { client = w.client; id = id; object = object; epoch = None }) quiet w.fits }

  -- rows that go on

  module _ (apart : ℕ → Type 0) where
    pub goes_nowhere : (rows : List (Row Manifest)) → GoesOn decode apart rows rows
    goes_nowhere rows = record { more = []; rows = sym (append-nil rows); holders = λ number id epoch object is w. w; views = λ number id object is w. w }

    -- with a row that says nothing of a view that was shown and is apart
    pub goes_more : (rows after : List (Row Manifest)) (row : Row Manifest) → ((number shown : ℕ) → apart number → view_at after number ≡ Some shown → Quiet row number) → GoesOn decode apart rows after → GoesOn decode apart rows (after ++ row ∷ [])
    goes_more rows after row quiet g =
        record {
          more = g.more ++ row ∷ [];
          rows = ap (λ (rs : List (Row Manifest)). rs ++ row ∷ []) g.rows ∙ append_assoc rows g.more (row ∷ []);
          holders = λ number id epoch object is w. (let now = g.holders number id epoch object is w in holder_more after row number id epoch object (quiet number now.fits.shown is now.fits.last) now);
          views = λ number id object is w. (let now = g.views number id object is w in view_kept after row number id object (quiet number now.fits.shown is now.fits.last) now);
        }

    -- with a row that says nothing of any view
    pub goes_quiet : (rows after : List (Row Manifest)) (row : Row Manifest) → ((number : ℕ) → Quiet row number) → GoesOn decode apart rows after → GoesOn decode apart rows (after ++ row ∷ [])
    goes_quiet rows after row quiet g = goes_more rows after row (λ number shown is e. quiet number) g

    pub goes_far : (rows middle after : List (Row Manifest)) → GoesOn decode apart rows middle → GoesOn decode apart middle after → GoesOn decode apart rows after
    goes_far rows middle after g h =
        record {
          more = g.more ++ h.more;
          rows = h.rows ∙ (ap (λ (rs : List (Row Manifest)). rs ++ h.more) g.rows ∙ append_assoc rows g.more h.more);
          holders = λ number id epoch object is w. h.holders number id epoch object is (g.holders number id epoch object is w);
          views = λ number id object is w. h.views number id object is (g.views number id object is w);
        }
