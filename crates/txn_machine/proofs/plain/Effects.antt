-- What each kind of row leaves of the history and the store: a begin, an answer, a create, a raise, a removal.
use Rattle.std.proofs.Common.{◌≡◌, ◌≢◌, ℕ, zero, suc, ◌+◌, ◌<◌, ◌≤◌, ◌^◌, List, [], ◌∷◌, ◌++◌, Contains, length, slice_get, Bool, true, false, cond, is_some, Option, Some, None, ◌⊎◌, inl, inr, refl, sym, ◌∙◌, ap, subst, arith}
use Rattle.std.specs.Option.{option_map}
use Rattle.std.specs.Fmt.{decimal}
use Rattle.std.specs.FinMap.{get, insert, remove, get-insert, get-remove, same_map}
use Rattle.std.specs.Ordering.{eq_by_cmp}
use Rattle.std.proofs.lemmas.List.{length-append, append-nil}
use Rattle.std.proofs.lemmas.List.Elements.{Contains-append_left, Contains-append_right}
use Rattle.std.proofs.lemmas.Bool.{cases_eq, ne_eqb, eq-eqb, both_ways}
use Rattle.std.proofs.lemmas.Option.{same_Some}
use Rattle.txn_store.specs.Paths.{Segments, path_cmp, is_below}
use Rattle.txn_store.specs.VersionName.{version_path}
use Rattle.txn_store.specs.Store.{Files, State as StoreState, Kept, Placed, Removed}
use Rattle.txn_store.specs.declared.store.Got.{Got}
use Rattle.txn_store.specs.declared.store.PutMode.{PutMode}
use Rattle.txn_store.specs.declared.store.PutMode.TheVariants.{Create}
use Rattle.txn_store.specs.declared.request.Request.{Request}
use Rattle.txn_store.specs.declared.request.Request.TheVariants as requests
use Rattle.txn_store.proofs.FileLemmas.{path_cmp_total, path_cmp-IsAntisymmetric, get-insert_same, get-insert_other, get-remove_same, get-remove_other}
use Rattle.txn_store.proofs.VersionOfLemmas.{one_path}
use Rattle.txn_store.specs.types.BoundaryText.{boundary_read}
use Rattle.txn_store.proofs.types.BoundaryLemmas.{read_decimal_text}
use Rattle.txn_history.specs.declared.event.PlainCall.{PlainCall}
use Rattle.txn_history.specs.declared.event.PlainAnswer.{PlainAnswer}
use Rattle.txn_history.specs.Trace.{PlainRow}
use Rattle.txn_history.specs.declared.trace.RowOf.TheVariants.{Effect, Begun, Answered}
use Rattle.txn_history.specs.Lists.{numbered}
use Rattle.txn_history.specs.Names.{world_names, world_boundary}
use Rattle.txn_history.specs.History.{Contents, Version, is_id, has_id, with_version, versions_of, newest, stored, boundary, boundary_said, erases, put_count, HasContents}
use Rattle.txn_history.specs.Effects.{Raises, Erases, Append, Recreate, Raise, Erase}
use Rattle.txn_machine.specs.plain.PlainHistory.{tells, alone, PlainOpens, Appends, Recreates, Answers, Fits}
use Rattle.txn_history.proofs.Lists.{get_more, get_last, any_true, any_more, any_last, get_other}
use Rattle.txn_history.proofs.Entries as entries
use Rattle.txn_history.proofs.Rows.{versions_of-more, stored-more, boundary-same, newest_grows}
use Rattle.txn_history.proofs.Apart.{tied_path, apart, created_is, raise_creates, raised_is, removed_is}
use Rattle.txn_machine.proofs.plain.Stands.{AllGiven, IsVersionPath, AllVersions, OneKnown, TellsKnown, Frame, HistoryStands, FilesStand, KnowStands, bytes_at, create, remove_version, file_at, is_there}
use Rattle.txn_history.proofs.More.{put_count-more}
use Rattle.txn_machine.proofs.plain.Rows.{one_history-more}

-- the boundary's file is not below the versions' folder
pub boundary_outside : is_below world_names.dir world_boundary ≡ false
unfolding world_names world_boundary
boundary_outside = refl

-- versions whose ids count up from 1

abbrev pub AreCounted : ℕ → List Version → Type 0
AreCounted m versions = (k : ℕ) (version : Version) → slice_get versions k ≡ Some version → version.0 ≡ m + k + 1

pub lacks_counted : (m : ℕ) (versions : List Version) (id : ℕ) → AreCounted m versions → m + length versions < id → has_id versions id ≡ false
lacks_counted m versions id c above = entries.lacks_counted m versions id c above

pub has_counted : (m : ℕ) (versions : List Version) (id : ℕ) → AreCounted m versions → m < id → id ≤ m + length versions → has_id versions id ≡ true
has_counted m [] id c above within = absurd (omega (arith, above, within))
has_counted m (v ∷ versions) id c above within =
    let first = c 0 v refl in
    elim (cases_eq v.0 id) [
      | inl h ↦ rw (eq-eqb v.0 id h) refl
      | inr h ↦ rw (ne_eqb v.0 id h) (has_counted (m + 1) versions id (λ k w e. omega (arith, c (suc k) w e)) (omega (arith, above, first, h)) (omega (arith, within)))
    ]

pub at_last : (versions : List Version) (version : Version) (n : ℕ) → n ≡ length versions + 1 → bytes_at (versions ++ version ∷ []) n ≡ Some version.1
at_last versions version n e =
    let last : n ≡ suc (length versions) = omega (arith, e) in
    ap (bytes_at (versions ++ version ∷ [])) last ∙ ap (option_map (λ (v : Version). v.1)) (get_last versions version)

pub at_other : (versions : List Version) (version : Version) (n : ℕ) → n ≢ length versions + 1 → bytes_at (versions ++ version ∷ []) n ≡ bytes_at versions n
at_other versions version zero ne = refl
at_other versions version (suc n) ne = ap (option_map (λ (v : Version). v.1)) (get_other versions version n (λ e. ne (omega (arith, e))))

-- a version with bytes has an id of the history
pub within_bytes : (versions : List Version) (n : ℕ) → is_some (bytes_at versions n) ≡ true → (0 < n) × (n ≤ length versions)
within_bytes versions zero e = cc
within_bytes [] (suc n) e = cc
within_bytes (v ∷ versions) (suc zero) e = (omega arith, omega arith)
within_bytes (v ∷ versions) (suc (suc n)) e = let rest = within_bytes versions (suc n) e in (omega arith, omega (arith, rest.1))

pub bytes_within : (versions : List Version) (n : ℕ) → 0 < n → n ≤ length versions → (version : Version) × (numbered versions n ≡ Some version)
bytes_within versions zero some most = absurd (omega (arith, some))
bytes_within [] (suc n) some most = absurd (omega (arith, most))
bytes_within (v ∷ versions) (suc zero) some most = (v, refl)
bytes_within (v ∷ versions) (suc (suc n)) some most = bytes_within versions (suc n) (omega arith) (omega (arith, most))

-- files and contents after the same put, and after the same removal

cond_mapped : (b : Bool) (got found : Option Got) (new at : Option (List ℕ)) → option_map (λ g. g.bytes) got ≡ new → option_map (λ g. g.bytes) found ≡ at → option_map (λ g. g.bytes) (cond b got found) ≡ cond b new at
cond_mapped true got found new at e e' = e
cond_mapped false got found new at e e' = e'

contents_put : (files : Files) (contents : Contents) (path : Segments) (bytes : List ℕ) (token : ℕ) → HasContents files contents → HasContents (insert files path (record { bytes = bytes; token = token })) (insert contents path bytes)
contents_put files contents path bytes token h q =
    ap (option_map (λ g. g.bytes)) (get-insert path_cmp_total files path (record { bytes = bytes; token = token }) q)
    ∙ (cond_mapped (eq_by_cmp path_cmp q path) (Some (record { bytes = bytes; token = token })) (get files q) (Some bytes) (get contents q) refl (h q) ∙ sym (get-insert path_cmp_total contents path bytes q))

contents_removed : (files : Files) (contents : Contents) (path : Segments) → HasContents files contents → HasContents (remove files path) (remove contents path)
contents_removed files contents path h q =
    ap (option_map (λ g. g.bytes)) (get-remove path_cmp_total files path q)
    ∙ (cond_mapped (eq_by_cmp path_cmp q path) None (get files q) None (get contents q) refl (h q) ∙ sym (get-remove path_cmp_total contents path q))

-- a version's file is there exactly where it has bytes
pub there_bytes : (files : Files) (n : ℕ) → is_there files n ≡ is_some (file_at files n)
there_bytes files n = some_mapped (get files (version_path world_names n))
  where
    some_mapped : (found : Option Got) → is_some found ≡ is_some (option_map (λ g. g.bytes) found)
    some_mapped None = refl
    some_mapped (Some x) = refl

-- what a put of a version leaves of the others' files, and of the boundary's

pub put_same : (files : Files) (id : ℕ) (got : Got) → get (insert files (version_path world_names id) got) (version_path world_names id) ≡ Some got
put_same files id got = get-insert_same files (version_path world_names id) got

put_other : (files : Files) (id n : ℕ) (got : Got) → id < 2 ^ 64 → n < 2 ^ 64 → n ≢ id → get (insert files (version_path world_names id) got) (version_path world_names n) ≡ get files (version_path world_names n)
put_other files id n got fits small ne = get-insert_other files (version_path world_names id) (version_path world_names n) got (λ e. ne (one_path world_names n id small fits e))

removed_other : (files : Files) (id n : ℕ) → id < 2 ^ 64 → n < 2 ^ 64 → n ≢ id → get (remove files (version_path world_names id)) (version_path world_names n) ≡ get files (version_path world_names n)
removed_other files id n fits small ne = get-remove_other files (version_path world_names id) (version_path world_names n) (λ e. ne (one_path world_names n id small fits e))

-- a removal of what is not there
pub removed_missing : (files : Files) (path : Segments) → get files path ≡ None → remove files path ≡ files
removed_missing files path missing = same_map path_cmp_total path_cmp-IsAntisymmetric (remove files path) files (λ q. get-remove path_cmp_total files path q ∙ at q (eq_by_cmp path_cmp q path) (tied_path q path))
  where
    at : (q : Segments) (b : Bool) → (b ≡ true → q ≡ path) → cond b None (get files q) ≡ get files q
    at q true same = sym (ap (get files) (same refl) ∙ missing)
    at q false same = refl

-- each file's token was given, after a put and after a removal

last_given : (given : List ℕ) (t : ℕ) → Contains (given ++ t ∷ []) t
last_given given t = Contains-append_right given (t ∷ []) t (0, omega arith, refl)

pub given_put : (path : Segments) (bytes : List ℕ) (token : ℕ) (old new : StoreState) → Placed path bytes token old new → AllGiven old → AllGiven new
given_put path bytes token old new placed all q got e =
    let file : Got = record { bytes = bytes; token = token } in
    let found : cond (eq_by_cmp path_cmp q path) (Some file) (get old.files q) ≡ Some got = sym (ap (λ (files : Files). get files q) placed.files ∙ get-insert path_cmp_total old.files path file q) ∙ e in
    subst (λ (given : List ℕ). Contains given got.token) (sym placed.given) (by (eq_by_cmp path_cmp q path) found)
  where
    by : (b : Bool) → cond b (Some (record { bytes = bytes; token = token })) (get old.files q) ≡ Some got → Contains (old.given ++ token ∷ []) got.token
    by true is = subst (λ (g : Got). Contains (old.given ++ token ∷ []) g.token) (same_Some (record { bytes = bytes; token = token }) got is) (last_given old.given token)
    by false is = Contains-append_left old.given (token ∷ []) got.token (all q got is)

pub given_removed : (path : Segments) (old new : StoreState) → Removed path old new → AllGiven old → AllGiven new
given_removed path old new gone all q got e =
    let found : cond (eq_by_cmp path_cmp q path) None (get old.files q) ≡ Some got = sym (ap (λ (files : Files). get files q) gone.files ∙ get-remove path_cmp_total old.files path q) ∙ e in
    subst (λ (given : List ℕ). Contains given got.token) (sym gone.given) (by (eq_by_cmp path_cmp q path) found)
  where
    by : (b : Bool) → cond b None (get old.files q) ≡ Some got → Contains old.given got.token
    by true is = cc
    by false is = all q got is

-- each file below the folder is a version, after a put and after a removal

versions_put : (path : Segments) (bytes : List ℕ) (token : ℕ) (old new : StoreState) → Placed path bytes token old new → (is_below world_names.dir path ≡ true → IsVersionPath path) → AllVersions old.files → AllVersions new.files
versions_put path bytes token old new placed is all q got below e =
    let file : Got = record { bytes = bytes; token = token } in
    let found : cond (eq_by_cmp path_cmp q path) (Some file) (get old.files q) ≡ Some got = sym (ap (λ (files : Files). get files q) placed.files ∙ get-insert path_cmp_total old.files path file q) ∙ e in
    by (eq_by_cmp path_cmp q path) (tied_path q path) found
  where
    by : (b : Bool) → (b ≡ true → q ≡ path) → cond b (Some (record { bytes = bytes; token = token })) (get old.files q) ≡ Some got → IsVersionPath q
    by true same h = subst IsVersionPath (sym (same refl)) (is (subst (λ (p : Segments). is_below world_names.dir p ≡ true) (same refl) below))
    by false same h = all q got below h

versions_removed : (path : Segments) (old new : StoreState) → Removed path old new → AllVersions old.files → AllVersions new.files
versions_removed path old new gone all q got below e =
    let found : cond (eq_by_cmp path_cmp q path) None (get old.files q) ≡ Some got = sym (ap (λ (files : Files). get files q) gone.files ∙ get-remove path_cmp_total old.files path q) ∙ e in
    by (eq_by_cmp path_cmp q path) found
  where
    by : (b : Bool) → cond b None (get old.files q) ≡ Some got → IsVersionPath q
    by true h = cc
    by false h = all q got below h

-- the put of a boundary
abbrev raise_of : ℕ → PutMode → Request
raise_of to mode = requests.Put world_boundary (decimal to) mode

module _ {T : Type 0} where
  -- the boundary after a put of a version, and after its removal
  pub create_boundary : (rows : List (PlainRow T)) (op id : ℕ) (bytes : List ℕ) (mode : PutMode) → boundary (rows ++ Effect op (requests.Put (version_path world_names id) bytes mode) ∷ []) ≡ boundary rows
  create_boundary rows op id bytes mode =
      ap (λ (contents : Contents). boundary_said (get contents world_boundary)) (stored-more rows (Effect op (requests.Put (version_path world_names id) bytes mode)))
      ∙ ap boundary_said (get-insert_other (stored rows) (version_path world_names id) world_boundary bytes (apart id))

  pub remove_boundary : (rows : List (PlainRow T)) (op id : ℕ) → boundary (rows ++ Effect op (requests.Delete (version_path world_names id)) ∷ []) ≡ boundary rows
  remove_boundary rows op id =
      ap (λ (contents : Contents). boundary_said (get contents world_boundary)) (stored-more rows (Effect op (requests.Delete (version_path world_names id))))
      ∙ ap boundary_said (get-remove_other (stored rows) (version_path world_names id) world_boundary (apart id))

  -- the boundary after its put
  pub raise_boundary : (rows : List (PlainRow T)) (op to : ℕ) (mode : PutMode) → to < 2 ^ 64 → boundary (rows ++ Effect op (requests.Put world_boundary (decimal to) mode) ∷ []) ≡ to
  raise_boundary rows op to mode fits =
      ap (λ (contents : Contents). boundary_said (get contents world_boundary)) (stored-more rows (Effect op (requests.Put world_boundary (decimal to) mode)))
      ∙ (ap boundary_said (get-insert_same (stored rows) world_boundary (decimal to)) ∙ said (boundary_read (decimal to)) (read_decimal_text to fits))
    where
      said : (found : Option ℕ) → found ≡ Some to → boundary_said (Some (decimal to)) ≡ to
      said found e = rw (read_decimal_text to fits) refl

  raise_versions : (rows : List (PlainRow T)) (op to : ℕ) (mode : PutMode) → versions_of (rows ++ Effect op (raise_of to mode) ∷ []) ≡ versions_of rows
  raise_versions rows op to mode = versions_of-more rows (Effect op (raise_of to mode)) ∙ ap (with_version (versions_of rows)) (raise_creates (decimal to) mode)

  remove_versions : (rows : List (PlainRow T)) (op id : ℕ) → versions_of (rows ++ Effect op (remove_version id) ∷ []) ≡ versions_of rows
  remove_versions rows op id = versions_of-more rows (Effect op (remove_version id))

  -- more rows, and the store after them

  -- where nothing but the store's counts changed
  pub kept_frame : (rows : List (PlainRow T)) (old new : StoreState) → Kept old new → Frame rows old rows new
  kept_frame rows old new kept =
      record {
        more = [];
        is = sym (append-nil rows);
        up = omega arith;
        given = λ t h. subst (λ (given : List ℕ). Contains given t) (sym kept.given) h;
        same = λ got h e. (sym (ap (λ (files : Files). get files world_boundary) kept.files) ∙ e, refl);
      }

  -- a row that is no effect
  quiet_frame : (rows : List (PlainRow T)) (store : StoreState) (row : PlainRow T) → stored (rows ++ row ∷ []) ≡ stored rows → Frame rows store (rows ++ row ∷ []) store
  quiet_frame rows store row kept =
      let at : boundary (rows ++ row ∷ []) ≡ boundary rows = boundary-same rows row kept in
      record { more = row ∷ []; is = refl; up = omega (arith, at); given = λ t h. h; same = λ got h e. (e, at) }

  pub begun_frame : (rows : List (PlainRow T)) (store : StoreState) (op : ℕ) (call : PlainCall T) → Frame rows store (rows ++ Begun op call ∷ []) store
  begun_frame rows store op call = quiet_frame rows store (Begun op call) (stored-more rows (Begun op call))

  pub answered_frame : (rows : List (PlainRow T)) (store : StoreState) (op : ℕ) (answer : PlainAnswer T) → Frame rows store (rows ++ Answered op answer ∷ []) store
  answered_frame rows store op answer = quiet_frame rows store (Answered op answer) (stored-more rows (Answered op answer))

  -- a create
  pub create_frame : (rows : List (PlainRow T)) (old new : StoreState) (op id : ℕ) (bytes : List ℕ) (mode : PutMode) (token : ℕ) → Placed (version_path world_names id) bytes token old new → Frame rows old (rows ++ Effect op (requests.Put (version_path world_names id) bytes mode) ∷ []) new
  create_frame rows old new op id bytes mode token placed =
      let row : PlainRow T = Effect op (requests.Put (version_path world_names id) bytes mode) in
      let at = create_boundary rows op id bytes mode in
      let file : get new.files world_boundary ≡ get old.files world_boundary = ap (λ (files : Files). get files world_boundary) placed.files ∙ get-insert_other old.files (version_path world_names id) world_boundary (record { bytes = bytes; token = token }) (apart id) in
      record {
        more = row ∷ [];
        is = refl;
        up = omega (arith, at);
        given = λ t h. subst (λ (given : List ℕ). Contains given t) (sym placed.given) (Contains-append_left old.given (token ∷ []) t h);
        same = λ got h e. (sym file ∙ e, at);
      }

  -- a raise
  pub raise_frame : (rows : List (PlainRow T)) (old new : StoreState) (op to : ℕ) (mode : PutMode) (token : ℕ) → to < 2 ^ 64 → boundary rows < to → Placed world_boundary (decimal to) token old new → Frame rows old (rows ++ Effect op (raise_of to mode) ∷ []) new
  raise_frame rows old new op to mode token fits up placed =
      let row : PlainRow T = Effect op (raise_of to mode) in
      let at = raise_boundary rows op to mode fits in
      let own : get new.files world_boundary ≡ Some (record { bytes = decimal to; token = token }) = ap (λ (files : Files). get files world_boundary) placed.files ∙ get-insert_same old.files world_boundary (record { bytes = decimal to; token = token }) in
      record {
        more = row ∷ [];
        is = refl;
        up = omega (arith, at, up);
        given = λ t h. subst (λ (given : List ℕ). Contains given t) (sym placed.given) (Contains-append_left old.given (token ∷ []) t h);
        same = λ got h e.
            let new_token : got.token ≡ token = ap (λ (g : Got). g.token) (same_Some got (record { bytes = decimal to; token = token }) (sym e ∙ own)) in
            absurd (placed.fresh (subst (λ (u : ℕ). Contains old.given u) new_token h));
      }

  -- a removal
  pub remove_frame : (rows : List (PlainRow T)) (old new : StoreState) (op id : ℕ) → Removed (version_path world_names id) old new → Frame rows old (rows ++ Effect op (remove_version id) ∷ []) new
  remove_frame rows old new op id gone =
      let row : PlainRow T = Effect op (remove_version id) in
      let at = remove_boundary rows op id in
      let file : get new.files world_boundary ≡ get old.files world_boundary = ap (λ (files : Files). get files world_boundary) gone.files ∙ get-remove_other old.files (version_path world_names id) world_boundary (apart id) in
      record {
        more = row ∷ [];
        is = refl;
        up = omega (arith, at);
        given = λ t h. subst (λ (given : List ℕ). Contains given t) (sym gone.given) h;
        same = λ got h e. (sym file ∙ e, at);
      }

module _ {T : Type 0} (decode : List ℕ → Option T) where
  -- what stands of the store after a create, whatever it makes of the history
  record Made (rows : List (PlainRow T)) (old new : StoreState) (op id : ℕ) (bytes : List ℕ) (token : ℕ) : Type 0 where
    fits : id < 2 ^ 64
    known : id ≤ newest (rows ++ Effect op (create id bytes) ∷ [])
    positive : 0 < id
    reads : (value : T) × (decode bytes ≡ Some value)
    -- a version above the boundary is the new one, or one that stood
    above : (n : ℕ) → boundary rows < n → n ≤ newest (rows ++ Effect op (create id bytes) ∷ []) →
        ((n ≡ id) × (bytes_at (versions_of (rows ++ Effect op (create id bytes) ∷ [])) n ≡ Some bytes)) ⊎ ((n ≢ id) × (n ≤ newest rows) × (bytes_at (versions_of (rows ++ Effect op (create id bytes) ∷ [])) n ≡ bytes_at (versions_of rows) n))
    before : (n : ℕ) → n ≢ id → n ≤ newest (rows ++ Effect op (create id bytes) ∷ []) → n ≤ newest rows
    placed : Placed (version_path world_names id) bytes token old new
    honest : new.failures ≡ 0

module _ {T : Type 0} (decode : List ℕ → Option T) (get_epoch : T → ℕ) (failed : List ℕ) where
  -- the store where nothing but its counts changed
  pub kept_know : (rows : List (PlainRow T)) (old new : StoreState) → KnowStands decode get_epoch failed rows old → Kept old new → new.failures ≡ 0 → KnowStands decode get_epoch failed rows new
  kept_know rows old new k same honest =
      record {
        history = k.history;
        files = subst (λ (files : Files). FilesStand decode get_epoch rows (record { files = files; given = new.given; left = new.left; calls = new.calls; failures = new.failures })) (sym same.files)
            (record {
              within = k.files.within;
              there = k.files.there;
              decodes = k.files.decodes;
              gone = k.files.gone;
              says = k.files.says;
              given = λ path got e. subst (λ (given : List ℕ). Contains given got.token) (sym same.given) (k.files.given path got e);
              versions = k.files.versions;
              kept = k.files.kept;
              left = ap (λ n. n + put_count rows) same.left ∙ k.files.left;
              honest = honest;
            });
      }

  -- a row that leaves the versions, and raises the boundary at most
  history_more : (rows : List (PlainRow T)) (row : PlainRow T) → HistoryStands decode get_epoch failed rows → Fits decode get_epoch failed rows row → versions_of (rows ++ row ∷ []) ≡ versions_of rows →
      ((boundary (rows ++ row ∷ []) ≡ boundary rows) ⊎ (boundary (rows ++ row ∷ []) < newest rows)) → ((test : ℕ → Bool) → tells test row ≡ true → OneKnown rows test) → HistoryStands decode get_epoch failed (rows ++ row ∷ [])
  history_more rows row k fits same low tells_known =
      let count : newest (rows ++ row ∷ []) ≡ newest rows = ap (λ (vs : List Version). length vs) same in
      record {
        good = one_history-more decode get_epoch failed rows row k.good fits;
        ids = λ n version e. k.ids n version (subst (λ (vs : List Version). slice_get vs n ≡ Some version) same e);
        reads = λ n version e. k.reads n version (subst (λ (vs : List Version). slice_get vs n ≡ Some version) same e);
        small = subst (λ (vs : List Version). length vs < 2 ^ 64) (sym same) k.small;
        gap = elim low [
          | inl h ↦ elim k.gap [ inl g ↦ inl (omega (arith, h, g, count)) | inr g ↦ inr (omega (arith, g.0, count), h ∙ g.1) ]
          | inr h ↦ inl (omega (arith, h, count))
        ];
        told = λ test e. rw same (elim (any_more (tells test) rows row e) [ inl h ↦ k.told test h | inr h ↦ tells_known test h ]);
      }

  -- a row that is no effect
  quiet_more : (rows : List (PlainRow T)) (store : StoreState) (row : PlainRow T) → KnowStands decode get_epoch failed rows store → Fits decode get_epoch failed rows row →
      versions_of (rows ++ row ∷ []) ≡ versions_of rows → stored (rows ++ row ∷ []) ≡ stored rows → put_count (row ∷ []) ≡ 0 →
      ((test : ℕ → Bool) → tells test row ≡ true → OneKnown rows test) → KnowStands decode get_epoch failed (rows ++ row ∷ []) store
  quiet_more rows store row k fits same kept none tells_known =
      let at : boundary (rows ++ row ∷ []) ≡ boundary rows = boundary-same rows row kept in
      let f = k.files in
      record {
        history = history_more rows row k.history fits same (inl at) tells_known;
        files = record {
          within = λ n small e. rw same (f.within n small e);
          there = λ n above most. rw same (f.there n (subst (λ (b : ℕ). b < n) at above) (subst (λ (vs : List Version). n ≤ length vs) same most));
          decodes = f.decodes;
          gone = λ n some most e. any_true (erases n) rows row (f.gone n some (subst (λ (vs : List Version). n ≤ length vs) same most) e);
          says = λ got e. f.says got e ∙ ap Some (sym at);
          given = f.given;
          versions = f.versions;
          kept = subst (λ (contents : Contents). HasContents store.files contents) (sym kept) f.kept;
          left = let count = put_count-more rows row in let left = f.left in omega (arith, count, none, left);
          honest = f.honest;
        };
      }

  pub begun_know : (rows : List (PlainRow T)) (store : StoreState) (op : ℕ) (call : PlainCall T) → KnowStands decode get_epoch failed rows store → PlainOpens decode get_epoch rows op call → KnowStands decode get_epoch failed (rows ++ Begun op call ∷ []) store
  begun_know rows store op call k opens = quiet_more rows store (Begun op call) k opens (versions_of-more rows (Begun op call)) (stored-more rows (Begun op call)) refl (λ test e. cc)

  pub answered_know : (rows : List (PlainRow T)) (store : StoreState) (op : ℕ) (answer : PlainAnswer T) → KnowStands decode get_epoch failed rows store → Answers decode get_epoch failed rows op answer → TellsKnown rows answer → KnowStands decode get_epoch failed (rows ++ Answered op answer ∷ []) store
  answered_know rows store op answer k fits known = quiet_more rows store (Answered op answer) k fits (versions_of-more rows (Answered op answer)) (stored-more rows (Answered op answer)) refl (λ test e. known test e)

  -- a create of a name that is not stored

  created_file : (rows : List (PlainRow T)) (old new : StoreState) (op id : ℕ) (bytes : List ℕ) (token : ℕ) → Made decode rows old new op id bytes token → file_at new.files id ≡ Some bytes
  created_file rows old new op id bytes token c =
      ap (λ (files : Files). file_at files id) c.placed.files ∙ ap (option_map (λ (g : Got). g.bytes)) (put_same old.files id (record { bytes = bytes; token = token }))

  other_file : (rows : List (PlainRow T)) (old new : StoreState) (op id : ℕ) (bytes : List ℕ) (token n : ℕ) → Made decode rows old new op id bytes token → n < 2 ^ 64 → n ≢ id → get new.files (version_path world_names n) ≡ get old.files (version_path world_names n)
  other_file rows old new op id bytes token n c small ne =
      ap (λ (files : Files). get files (version_path world_names n)) c.placed.files ∙ put_other old.files id n (record { bytes = bytes; token = token }) c.fits small ne

  files_created : (rows : List (PlainRow T)) (old new : StoreState) (op id : ℕ) (bytes : List ℕ) (token : ℕ) → FilesStand decode get_epoch rows old → Made decode rows old new op id bytes token → newest (rows ++ Effect op (create id bytes) ∷ []) < 2 ^ 64 → FilesStand decode get_epoch (rows ++ Effect op (create id bytes) ∷ []) new
  files_created rows old new op id bytes token f c top =
      let row : PlainRow T = Effect op (create id bytes) in
      let at : boundary (rows ++ row ∷ []) ≡ boundary rows = create_boundary rows op id bytes Create in
      let file : get new.files world_boundary ≡ get old.files world_boundary = ap (λ (files : Files). get files world_boundary) c.placed.files ∙ get-insert_other old.files (version_path world_names id) world_boundary (record { bytes = bytes; token = token }) (apart id) in
      let own = created_file rows old new op id bytes token c in
      record {
        within = λ n small e. elim (cases_eq n id) [
          | inl h ↦ (omega (arith, h, c.positive), omega (arith, h, c.known))
          | inr h ↦ (let b = f.within n small (sym (ap is_some (other_file rows old new op id bytes token n c small h)) ∙ e) in (b.0, omega (arith, b.1, newest_grows rows row)))
        ];
        there = λ n above most. elim (c.above n (subst (λ (b : ℕ). b < n) at above) most) [
          | inl h ↦ ap (file_at new.files) h.0 ∙ (own ∙ sym h.1)
          | inr h ↦ ap (option_map (λ (g : Got). g.bytes)) (other_file rows old new op id bytes token n c (omega (arith, top, most)) h.0) ∙ (f.there n (subst (λ (b : ℕ). b < n) at above) h.1 ∙ sym h.2)
        ];
        decodes = λ n bs small e. elim (cases_eq n id) [
          | inl h ↦ (c.reads.0, ap decode (same_Some bs bytes (sym e ∙ (ap (file_at new.files) h ∙ own))) ∙ c.reads.1)
          | inr h ↦ f.decodes n bs small (sym (ap (option_map (λ (g : Got). g.bytes)) (other_file rows old new op id bytes token n c small h)) ∙ e)
        ];
        gone = λ n some most e. elim (cases_eq n id) [
          | inl h ↦ absurd (let clash : is_there new.files id ≡ true = there_bytes new.files id ∙ ap is_some own in both_ways _ (sym (ap (is_there new.files) h) ∙ e) clash)
          | inr h ↦ any_true (erases n) rows row (f.gone n some (c.before n h most) (sym (ap is_some (other_file rows old new op id bytes token n c (omega (arith, top, most)) h)) ∙ e))
        ];
        says = λ got e. f.says got (sym file ∙ e) ∙ ap Some (sym at);
        given = given_put (version_path world_names id) bytes token old new c.placed f.given;
        versions = versions_put (version_path world_names id) bytes token old new c.placed (λ below. (id, c.fits, refl)) f.versions;
        kept = subst (λ (files : Files). HasContents files (stored (rows ++ row ∷ []))) (sym c.placed.files)
            (subst (λ (contents : Contents). HasContents (insert old.files (version_path world_names id) (record { bytes = bytes; token = token })) contents) (sym (stored-more rows row)) (contents_put old.files (stored rows) (version_path world_names id) bytes token f.kept));
        left = let count = put_count-more rows row in let left = f.left in let taken = c.placed.left in omega (arith, count, taken, left);
        honest = c.honest;
      }

  -- the versions after an append
  pub appended : (rows : List (PlainRow T)) (op id : ℕ) (bytes : List ℕ) → HistoryStands decode get_epoch failed rows → id < 2 ^ 64 → id ≡ newest rows + 1 →
      (has_id (versions_of rows) id ≡ false) × (versions_of (rows ++ Effect op (create id bytes) ∷ []) ≡ versions_of rows ++ (id, bytes) ∷ [])
  appended rows op id bytes k fits next =
      let lacks = lacks_counted 0 (versions_of rows) id (λ n version e. k.ids n version e ∙ omega arith) (omega (arith, next)) in
      (lacks, versions_of-more rows (Effect op (create id bytes)) ∙ (ap (with_version (versions_of rows)) (created_is id bytes Create fits) ∙ ap (λ b. cond b (versions_of rows) (versions_of rows ++ (id, bytes) ∷ [])) lacks))

  -- the versions after a re-creation
  pub recreated : (rows : List (PlainRow T)) (op id : ℕ) (bytes : List ℕ) → HistoryStands decode get_epoch failed rows → id < 2 ^ 64 → 0 < id → id ≤ newest rows →
      (has_id (versions_of rows) id ≡ true) × (versions_of (rows ++ Effect op (create id bytes) ∷ []) ≡ versions_of rows)
  recreated rows op id bytes k fits some most =
      let has = has_counted 0 (versions_of rows) id (λ n version e. k.ids n version e ∙ omega arith) some (omega (arith, most)) in
      (has, versions_of-more rows (Effect op (create id bytes)) ∙ (ap (with_version (versions_of rows)) (created_is id bytes Create fits) ∙ ap (λ b. cond b (versions_of rows) (versions_of rows ++ (id, bytes) ∷ [])) has))

  put_legal : (rows : List (PlainRow T)) (op id : ℕ) (bytes : List ℕ) → id < 2 ^ 64 → (Appends decode get_epoch rows op id bytes ⊎ Recreates decode get_epoch rows op id bytes) → Fits decode get_epoch failed rows (Effect op (create id bytes))
  put_legal rows op id bytes fits (inl appends) = Append id bytes (created_is id bytes Create fits) appends
  put_legal rows op id bytes fits (inr recreates) = Recreate id bytes (created_is id bytes Create fits) recreates

  -- a create that appends
  pub append_more : (rows : List (PlainRow T)) (old new : StoreState) (op id : ℕ) (bytes : List ℕ) (token : ℕ) → KnowStands decode get_epoch failed rows old → id < 2 ^ 64 → Appends decode get_epoch rows op id bytes → Placed (version_path world_names id) bytes token old new → new.failures ≡ 0 →
      KnowStands decode get_epoch failed (rows ++ Effect op (create id bytes) ∷ []) new
  append_more rows old new op id bytes token know fits appends placed honest =
      let row : PlainRow T = Effect op (create id bytes) in
      let k = know.history in
      let made = (appended rows op id bytes k fits appends.next).1 in
      let next : id ≡ newest rows + 1 = appends.next in
      let at : boundary (rows ++ row ∷ []) ≡ boundary rows = create_boundary rows op id bytes Create in
      let grown : newest (rows ++ row ∷ []) ≡ newest rows + 1 = ap (λ (vs : List Version). length vs) made ∙ length-append (versions_of rows) ((id, bytes) ∷ []) in
      let each : (n : ℕ) (version : Version) → slice_get (versions_of (rows ++ row ∷ [])) n ≡ Some version → (slice_get (versions_of rows) n ≡ Some version) ⊎ ((n ≡ length (versions_of rows)) × ((id, bytes) ≡ version)) =
      λ n version e. get_more (versions_of rows) (id, bytes) n version (subst (λ (vs : List Version). slice_get vs n ≡ Some version) made e) in
      let top : newest (rows ++ row ∷ []) < 2 ^ 64 = omega (arith, grown, next, fits) in
      record {
        history = record {
          good = one_history-more decode get_epoch failed rows row k.good (put_legal rows op id bytes fits (inl appends));
          ids = λ n version e. elim (each n version e) [ inl h ↦ k.ids n version h | inr h ↦ (let same = ap (λ (v : Version). v.0) h.1 in omega (arith, same, h.0, next)) ];
          reads = λ n version e. elim (each n version e) [ inl h ↦ k.reads n version h | inr h ↦ (appends.value, sym (ap (λ (v : Version). decode v.1) h.1) ∙ appends.reads) ];
          small = top;
          gap = elim k.gap [ inl g ↦ inl (omega (arith, g, at, grown)) | inr g ↦ inl (omega (arith, g.1, at, grown)) ];
          told = λ test e. elim (any_more (tells test) rows row e) [ inl h ↦ (let before = k.told test h in (before.0, before.1, (before.2.0, omega (arith, before.2.1, grown)))) | inr h ↦ cc ];
        };
        files = files_created rows old new op id bytes token know.files (record {
          fits = fits;
          known = omega (arith, next, grown);
          positive = omega (arith, next);
          reads = (appends.value, appends.reads);
          above = λ n above most. elim (cases_eq n id) [
            | inl h ↦ inl (h, ap (λ (vs : List Version). bytes_at vs n) made ∙ at_last (versions_of rows) (id, bytes) n (h ∙ next))
            | inr h ↦ inr (h, omega (arith, h, most, grown, next), ap (λ (vs : List Version). bytes_at vs n) made ∙ at_other (versions_of rows) (id, bytes) n (λ e. h (e ∙ sym next)))
          ];
          before = λ n h most. omega (arith, h, most, grown, next);
          placed = placed;
          honest = honest;
        }) top;
      }

  -- a create that makes an erased name again
  pub recreate_more : (rows : List (PlainRow T)) (old new : StoreState) (op id : ℕ) (bytes : List ℕ) (token : ℕ) → KnowStands decode get_epoch failed rows old → id < 2 ^ 64 → 0 < id → id ≤ newest rows → Recreates decode get_epoch rows op id bytes → Placed (version_path world_names id) bytes token old new → new.failures ≡ 0 →
      KnowStands decode get_epoch failed (rows ++ Effect op (create id bytes) ∷ []) new
  recreate_more rows old new op id bytes token know fits some most recreates placed honest =
      let row : PlainRow T = Effect op (create id bytes) in
      let k = know.history in
      let same = (recreated rows op id bytes k fits some most).1 in
      let count : newest (rows ++ row ∷ []) ≡ newest rows = ap (λ (vs : List Version). length vs) same in
      record {
        history = history_more rows row k (put_legal rows op id bytes fits (inr recreates)) same (inl (create_boundary rows op id bytes Create)) (λ test e. cc);
        files = files_created rows old new op id bytes token know.files (record {
          fits = fits;
          known = omega (arith, count, most);
          positive = some;
          reads = (recreates.value, recreates.reads);
          above = λ n above h. inr ((λ e. (let below = recreates.below in omega (arith, e, above, below))), omega (arith, h, count), ap (λ (vs : List Version). bytes_at vs n) same);
          before = λ n h h'. omega (arith, h', count);
          placed = placed;
          honest = honest;
        }) (let small = k.small in omega (arith, small, count));
      }

  -- a raise

  raise_legal : (rows : List (PlainRow T)) (op to : ℕ) (mode : PutMode) → to < 2 ^ 64 → Raises alone rows op to → Fits decode get_epoch failed rows (Effect op (raise_of to mode))
  raise_legal rows op to mode fits raises = Raise to (raised_is to mode fits) raises

  pub raise_more : (rows : List (PlainRow T)) (old new : StoreState) (op to : ℕ) (mode : PutMode) (token : ℕ) → KnowStands decode get_epoch failed rows old → Raises alone rows op to → Placed world_boundary (decimal to) token old new → new.failures ≡ 0 →
      KnowStands decode get_epoch failed (rows ++ Effect op (raise_of to mode) ∷ []) new
  raise_more rows old new op to mode token know raises placed honest =
      let row : PlainRow T = Effect op (raise_of to mode) in
      let k = know.history in
      let f = know.files in
      let up = raises.up in
      let under = raises.under in
      let small = k.small in
      let fits : to < 2 ^ 64 = omega (arith, under, small) in
      let same = raise_versions rows op to mode in
      let at : boundary (rows ++ row ∷ []) ≡ to = raise_boundary rows op to mode fits in
      let own : get new.files world_boundary ≡ Some (record { bytes = decimal to; token = token }) = ap (λ (files : Files). get files world_boundary) placed.files ∙ get-insert_same old.files world_boundary (record { bytes = decimal to; token = token }) in
      let other : (n : ℕ) → get new.files (version_path world_names n) ≡ get old.files (version_path world_names n) =
      λ n. ap (λ (files : Files). get files (version_path world_names n)) placed.files ∙ get-insert_other old.files world_boundary (version_path world_names n) (record { bytes = decimal to; token = token }) (λ e. apart n (sym e)) in
      record {
        history = history_more rows row k (raise_legal rows op to mode fits raises) same (inr (omega (arith, at, under))) (λ test e. cc);
        files = record {
          within = λ n small e. rw same (f.within n small (sym (ap is_some (other n)) ∙ e));
          there = λ n above most. ap (option_map (λ (g : Got). g.bytes)) (other n) ∙ (f.there n (omega (arith, above, at, up)) (subst (λ (vs : List Version). n ≤ length vs) same most) ∙ sym (ap (λ (vs : List Version). bytes_at vs n) same));
          decodes = λ n bs small e. f.decodes n bs small (sym (ap (option_map (λ (g : Got). g.bytes)) (other n)) ∙ e);
          gone = λ n some most e. any_true (erases n) rows row (f.gone n some (subst (λ (vs : List Version). n ≤ length vs) same most) (sym (ap is_some (other n)) ∙ e));
          says = λ got e. ap (λ (g : Got). boundary_read g.bytes) (same_Some got (record { bytes = decimal to; token = token }) (sym e ∙ own)) ∙ (read_decimal_text to fits ∙ ap Some (sym at));
          given = given_put world_boundary (decimal to) token old new placed f.given;
          versions = versions_put world_boundary (decimal to) token old new placed (λ below. absurd (both_ways _ boundary_outside below)) f.versions;
          kept = subst (λ (files : Files). HasContents files (stored (rows ++ row ∷ []))) (sym placed.files)
              (subst (λ (contents : Contents). HasContents (insert old.files world_boundary (record { bytes = decimal to; token = token })) contents) (sym (stored-more rows row)) (contents_put old.files (stored rows) world_boundary (decimal to) token f.kept));
          left = let count = put_count-more rows row in let left = f.left in let taken = placed.left in omega (arith, count, taken, left);
          honest = honest;
        };
      }

  -- a removal

  remove_legal : (rows : List (PlainRow T)) (op id : ℕ) → id < 2 ^ 64 → Erases alone rows op id → Fits decode get_epoch failed rows (Effect op (remove_version id))
  remove_legal rows op id fits erased = Erase id (removed_is id fits) erased

  pub remove_more : (rows : List (PlainRow T)) (old new : StoreState) (op id : ℕ) → KnowStands decode get_epoch failed rows old → Erases alone rows op id → Removed (version_path world_names id) old new → new.failures ≡ 0 →
      KnowStands decode get_epoch failed (rows ++ Effect op (remove_version id) ∷ []) new
  remove_more rows old new op id know erased gone honest =
      let row : PlainRow T = Effect op (remove_version id) in
      let k = know.history in
      let f = know.files in
      let below = erased.below in
      let small = k.small in
      let fits : id < 2 ^ 64 = elim k.gap [ inl g ↦ omega (arith, g, below, small) | inr g ↦ omega (arith, g.1, below) ] in
      let same = remove_versions rows op id in
      let at : boundary (rows ++ row ∷ []) ≡ boundary rows = remove_boundary rows op id in
      let none : get new.files (version_path world_names id) ≡ None = ap (λ (files : Files). get files (version_path world_names id)) gone.files ∙ get-remove_same old.files (version_path world_names id) in
      let other : (n : ℕ) → n < 2 ^ 64 → n ≢ id → get new.files (version_path world_names n) ≡ get old.files (version_path world_names n) =
      λ n small ne. ap (λ (files : Files). get files (version_path world_names n)) gone.files ∙ removed_other old.files id n fits small ne in
      let file : get new.files world_boundary ≡ get old.files world_boundary = ap (λ (files : Files). get files world_boundary) gone.files ∙ get-remove_other old.files (version_path world_names id) world_boundary (apart id) in
      let erases_id : erases id row ≡ true = ap (is_id id) (removed_is id fits) ∙ eq-eqb id id refl in
      record {
        history = history_more rows row k (remove_legal rows op id fits erased) same (inl at) (λ test e. cc);
        files = record {
          within = λ n small e. elim (cases_eq n id) [
            | inl h ↦ absurd (let clash = sym (ap is_some (ap (λ m. get new.files (version_path world_names m)) h ∙ none)) ∙ e in cc)
            | inr h ↦ rw same (f.within n small (sym (ap is_some (other n small h)) ∙ e))
          ];
          there = λ n above most.
              let above' : boundary rows < n = subst (λ (b : ℕ). b < n) at above in
              let most' : n ≤ newest rows = subst (λ (vs : List Version). n ≤ length vs) same most in
              ap (option_map (λ (g : Got). g.bytes)) (other n (omega (arith, most', small)) (λ e. omega (arith, e, above', below))) ∙ (f.there n above' most' ∙ sym (ap (λ (vs : List Version). bytes_at vs n) same));
          decodes = λ n bs small e. elim (cases_eq n id) [
            | inl h ↦ absurd (let clash = sym (ap (option_map (λ (g : Got). g.bytes)) (ap (λ m. get new.files (version_path world_names m)) h ∙ none)) ∙ e in cc)
            | inr h ↦ f.decodes n bs small (sym (ap (option_map (λ (g : Got). g.bytes)) (other n small h)) ∙ e)
          ];
          gone = λ n some most e.
              let most' : n ≤ newest rows = subst (λ (vs : List Version). n ≤ length vs) same most in
              elim (cases_eq n id) [
                | inl h ↦ any_last (erases n) rows row (subst (λ (m : ℕ). erases m row ≡ true) (sym h) erases_id)
                | inr h ↦ any_true (erases n) rows row (f.gone n some most' (sym (ap is_some (other n (omega (arith, most', small)) h)) ∙ e))
              ];
          says = λ got e. f.says got (sym file ∙ e) ∙ ap Some (sym at);
          given = given_removed (version_path world_names id) old new gone f.given;
          versions = versions_removed (version_path world_names id) old new gone f.versions;
          kept = subst (λ (files : Files). HasContents files (stored (rows ++ row ∷ []))) (sym gone.files)
              (subst (λ (contents : Contents). HasContents (remove old.files (version_path world_names id)) contents) (sym (stored-more rows row)) (contents_removed old.files (stored rows) (version_path world_names id) f.kept));
          left = let count = put_count-more rows row in let left = f.left in let taken = gone.left in omega (arith, count, taken, left);
          honest = honest;
        };
      }
