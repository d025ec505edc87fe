-- A request that was asked reaches the store, whoever sends it: what it leaves of the history and the store.
use Rattle.std.proofs.Common.{◌≡◌, ℕ, ◌<◌, ◌≤◌, ◌^◌, List, [], ◌∷◌, ◌++◌, Bool, true, false, is_some, Option, Some, None, Ok, Err, ◌⊎◌, inl, inr, refl, sym, ◌∙◌, ap, subst, arith}
use Rattle.std.specs.Option.{option_map}
use Rattle.std.specs.FinMap.{get}
use Rattle.std.specs.Fmt.{decimal}
use Rattle.std.proofs.lemmas.List.{append-nil}
use Rattle.std.proofs.lemmas.Bool.{cases_lt, both_ways}
use Rattle.txn_store.specs.VersionName.{version_path}
use Rattle.txn_store.specs.Store.{State as StoreState, Kept, Placed, Removed, put_fault}
use Rattle.txn_store.specs.Requests.{Serves}
use Rattle.txn_store.specs.declared.store.Got.{Got}
use Rattle.txn_store.specs.declared.store.PutMode.TheVariants.{Create}
use Rattle.txn_store.specs.declared.request.Request.{Request}
use Rattle.txn_store.specs.declared.request.Request.TheVariants as requests
use Rattle.txn_store.specs.declared.request.Reply.{Reply}
use Rattle.txn_store.specs.declared.request.Reply.TheVariants as replies
use Rattle.txn_store.specs.types.Numbers.{number_of}
use Rattle.txn_steps.specs.declared.boundary.caches.Cached.{Cached}
use Rattle.txn_steps.specs.boundary.BoundaryAdvances.{raise_mode}
use Rattle.txn_history.specs.declared.event.PlainCall.{PlainCall}
use Rattle.txn_history.specs.declared.event.PlainCall.TheVariants as calls
use Rattle.txn_history.specs.Trace.{PlainRow}
use Rattle.txn_history.specs.declared.trace.RowOf.TheVariants.{Effect}
use Rattle.txn_history.specs.Names.{world_names, world_boundary}
use Rattle.txn_history.specs.History.{Version, versions_of, newest, boundary, boundary_said, epoch_at}
use Rattle.txn_history.specs.Calls.{IsCall}
use Rattle.txn_history.specs.Facts.{base_on}
use Rattle.txn_machine.specs.plain.PlainHistory.{alone, WritesOn, Appends, Recreates}
use Rattle.txn_history.specs.Effects.{Raises, Erases}
use Rattle.txn_history.specs.Added.{effect_rows}
use Rattle.txn_machine.specs.plain.Machine.{effect_of}
use Rattle.txn_machine.proofs.plain.Stands.{KnowStands, Frame, IsWriteOf, Creates, Room, KnownBelow, Asks, IsQuiet, create, raise, remove_version, is_there}
use Rattle.txn_machine.proofs.plain.Effects.{there_bytes, bytes_within, removed_missing, recreated, kept_know, kept_frame, create_frame, raise_frame, remove_frame, append_more, recreate_more, raise_more, remove_more}
use Rattle.txn_machine.proofs.plain.Faults.{put_kept, delete_kept, get_kept, listed_kept, create_none, update_none, not_some}

module _ {T : Type 0} (decode : List ℕ → Option T) (get_epoch : T → ℕ) where
  -- what a request that reached the store leaves
  pub record Reached (failed : List ℕ) (rows : List (PlainRow T)) (old : StoreState) (op : ℕ) (request : Request) (reply : Reply) (new : StoreState) : Type 0 where
    pub know : KnowStands decode get_epoch failed (rows ++ effect_rows op (effect_of old.files request reply)) new
    pub frame : Frame rows old (rows ++ effect_rows op (effect_of old.files request reply)) new

  writes_on : (rows : List (PlainRow T)) (op : ℕ) (call : PlainCall T) (base : Option ℕ) (value : T) (n : ℕ) → IsWriteOf call base value → base ≡ base_on n → WritesOn decode get_epoch rows op call n value
  writes_on rows op call base value n (inl is) e = subst (λ (c : PlainCall T). WritesOn decode get_epoch rows op c n value) (sym is) (e, refl)
  writes_on rows op call base value n (inr is) e = subst (λ (c : PlainCall T). WritesOn decode get_epoch rows op c n value) (sym is) (e, refl)

  appends : (rows : List (PlainRow T)) (op : ℕ) (call : PlainCall T) (base : Option ℕ) (value : T) (version : Cached) → IsCall rows op call → IsWriteOf call base value → Creates decode get_epoch rows base value version → number_of base ≡ newest rows → Appends decode get_epoch rows op version.id version.bytes
  appends rows op call base value version called is c at =
      record {
        call = call;
        called = called;
        value = value;
        reads = c.reads;
        next = (let next = c.next in omega (arith, next, at));
        written = writes_on rows op call base value (newest rows) is (c.base_is ∙ ap base_on at);
        rises = subst (λ (n : ℕ). epoch_at decode get_epoch rows n ≤ get_epoch value) at c.keeps;
        unfenced = tt;
      }

module _ {T : Type 0} (decode : List ℕ → Option T) (get_epoch : T → ℕ) (failed : List ℕ) where
  -- an effect that is none
  quiet_reached : (rows : List (PlainRow T)) (old new : StoreState) (op : ℕ) (request : Request) (reply : Reply) → effect_of old.files request reply ≡ None → KnowStands decode get_epoch failed rows old → Kept old new → new.failures ≡ 0 → Reached decode get_epoch failed rows old op request reply new
  quiet_reached rows old new op request reply none k kept honest =
      let same : rows ≡ rows ++ effect_rows op (effect_of old.files request reply) = sym (ap (λ (effect : Option Request). rows ++ effect_rows op effect) none ∙ append-nil rows) in
      record {
        know = subst (λ (rs : List (PlainRow T)). KnowStands decode get_epoch failed rs new) same (kept_know decode get_epoch failed rows old new k kept honest);
        frame = subst (λ (rs : List (PlainRow T)). Frame rows old rs new) same (kept_frame rows old new kept);
      }

  -- an effect
  effect_reached : (rows : List (PlainRow T)) (old new : StoreState) (op : ℕ) (request effect : Request) (reply : Reply) → effect_of old.files request reply ≡ Some effect → KnowStands decode get_epoch failed (rows ++ Effect op effect ∷ []) new → Frame rows old (rows ++ Effect op effect ∷ []) new →
      Reached decode get_epoch failed rows old op request reply new
  effect_reached rows old new op request effect reply is k frame =
      record {
        know = subst (λ (o : Option Request). KnowStands decode get_epoch failed (rows ++ effect_rows op o) new) (sym is) k;
        frame = subst (λ (o : Option Request). Frame rows old (rows ++ effect_rows op o) new) (sym is) frame;
      }

  -- a create

  recreates : (rows : List (PlainRow T)) (store : StoreState) (op : ℕ) (call : PlainCall T) (base : Option ℕ) (value : T) (version : Cached) → KnowStands decode get_epoch failed rows store → IsCall rows op call → IsWriteOf call base value → Creates decode get_epoch rows base value version →
      number_of base < newest rows → is_there store.files version.id ≡ false → Recreates decode get_epoch rows op version.id version.bytes
  recreates rows store op call base value version k called is c lt missing =
      let next = c.next in
      let some : 0 < version.id = omega (arith, next) in
      let most : version.id ≤ newest rows = omega (arith, next, lt) in
      record {
        call = call;
        called = called;
        value = value;
        reads = c.reads;
        base = number_of base;
        next = next;
        written = writes_on decode get_epoch rows op call base value (number_of base) is c.base_is;
        again = (recreated decode get_epoch failed rows op version.id version.bytes k.history c.fits some most).0;
        erased = k.files.gone version.id some most missing;
        free = ap is_some (sym (k.files.kept (version_path world_names version.id))) ∙ (sym (there_bytes store.files version.id) ∙ missing);
        below = elim (cases_lt (boundary rows) version.id) [
          | inl above ↦
              let v = bytes_within (versions_of rows) version.id some most in
              let there : is_there store.files version.id ≡ true = there_bytes store.files version.id ∙ ap is_some (k.files.there version.id above most ∙ ap (option_map (λ (w : Version). w.1)) v.1) in
              absurd (both_ways _ missing there)
          | inr below ↦ below
        ];
      }

  -- a create of a name that is not stored is an append or a re-creation
  pub create_is : (rows : List (PlainRow T)) (store : StoreState) (op : ℕ) (call : PlainCall T) (base : Option ℕ) (value : T) (version : Cached) → KnowStands decode get_epoch failed rows store → IsCall rows op call → IsWriteOf call base value → Creates decode get_epoch rows base value version →
      is_there store.files version.id ≡ false → Appends decode get_epoch rows op version.id version.bytes ⊎ Recreates decode get_epoch rows op version.id version.bytes
  create_is rows store op call base value version k called is c missing =
      elim (cases_lt (number_of base) (newest rows)) [
        | inl lt ↦ inr (recreates rows store op call base value version k called is c lt missing)
        | inr ge ↦ inl (appends decode get_epoch rows op call base value version called is c (let known = c.known in omega (arith, ge, known)))
      ]

  -- what is created again is an id of the history
  pub recreated_known : (rows : List (PlainRow T)) (store : StoreState) (op id : ℕ) (bytes : List ℕ) → KnowStands decode get_epoch failed rows store → Recreates decode get_epoch rows op id bytes → (0 < id) × (id ≤ newest rows)
  recreated_known rows store op id bytes k r =
      let next = r.next in
      let below = r.below in
      (omega (arith, next), elim k.history.gap [ inl gap ↦ omega (arith, below, gap) | inr none ↦ absurd (omega (arith, next, below, none.1)) ])

  made : (rows : List (PlainRow T)) (old new : StoreState) (op id : ℕ) (bytes : List ℕ) (token : ℕ) → KnowStands decode get_epoch failed rows old → id < 2 ^ 64 → Appends decode get_epoch rows op id bytes ⊎ Recreates decode get_epoch rows op id bytes →
      Placed (version_path world_names id) bytes token old new → new.failures ≡ 0 → KnowStands decode get_epoch failed (rows ++ Effect op (create id bytes) ∷ []) new
  made rows old new op id bytes token k fits (inl appends) placed honest = append_more decode get_epoch failed rows old new op id bytes token k fits appends placed honest
  made rows old new op id bytes token k fits (inr recreates) placed honest =
      let known = recreated_known rows old op id bytes k recreates in
      recreate_more decode get_epoch failed rows old new op id bytes token k fits known.0 known.1 recreates placed honest

  create_reaches : (rows : List (PlainRow T)) (old new : StoreState) (op : ℕ) (call : PlainCall T) (base : Option ℕ) (value : T) (version : Cached) (reply : Reply) → KnowStands decode get_epoch failed rows old → IsCall rows op call → IsWriteOf call base value → Creates decode get_epoch rows base value version →
      Serves (create version.id version.bytes) old reply new → new.failures ≡ 0 → Reached decode get_epoch failed rows old op (create version.id version.bytes) reply new
  create_reaches rows old new op call base value version (replies.Put (Ok token)) k called is c p honest =
      let missing = create_none (get old.files (version_path world_names version.id)) p.allowed in
      let put = create_is rows old op call base value version k called is c missing in
      record {
        know = made rows old new op version.id version.bytes token k c.fits put p.placed honest;
        frame = create_frame rows old new op version.id version.bytes Create token p.placed;
      }
  create_reaches rows old new op call base value version (replies.Put (Err error)) k called is c p honest =
      quiet_reached rows old new op (create version.id version.bytes) (replies.Put (Err error)) refl k (put_kept (version_path world_names version.id) version.bytes Create old new error p honest) honest
  create_reaches rows old new op call base value version (replies.Get answer) k called is c p honest = absurd p
  create_reaches rows old new op call base value version (replies.List answer) k called is c p honest = absurd p
  create_reaches rows old new op call base value version (replies.Delete answer) k called is c p honest = absurd p

  -- a raise

  pub missing_zero : (rows : List (PlainRow T)) (store : StoreState) → KnowStands decode get_epoch failed rows store → get store.files world_boundary ≡ None → boundary rows ≡ 0
  missing_zero rows store k e = ap boundary_said (sym (k.files.kept world_boundary) ∙ ap (option_map (λ (g : Got). g.bytes)) e)

  -- the files take the put: the boundary is below it
  raise_up : (rows : List (PlainRow T)) (store : StoreState) (to : ℕ) (token : Option ℕ) → KnowStands decode get_epoch failed rows store → KnownBelow rows store to token → put_fault (raise_mode token) (get store.files world_boundary) ≡ None → boundary rows < to
  raise_up rows store to None k below allowed =
      let zero = missing_zero rows store k (not_some (get store.files world_boundary) (create_none (get store.files world_boundary) allowed)) in
      omega (arith, zero, below)
  raise_up rows store to (Some token) k below allowed =
      let file = update_none token (get store.files world_boundary) allowed in
      let at = below.1.same file.0 file.1 file.2 in
      omega (arith, at, below.2)

  raise_reaches : (rows : List (PlainRow T)) (old new : StoreState) (op to : ℕ) (token : Option ℕ) (reply : Reply) → KnowStands decode get_epoch failed rows old → IsCall rows op (calls.Advance to) → Room rows to → KnownBelow rows old to token →
      Serves (raise to token) old reply new → new.failures ≡ 0 → Reached decode get_epoch failed rows old op (raise to token) reply new
  raise_reaches rows old new op to token (replies.Put (Ok given)) k called room below p honest =
      let up = raise_up rows old to token k below p.allowed in
      let under : to < newest rows = elim room [ inl z ↦ absurd (omega (arith, z, up)) | inr lt ↦ lt ] in
      let small = k.history.small in
      let raises : Raises alone rows op to = record { called = called; up = up; under = under } in
      record {
        know = raise_more decode get_epoch failed rows old new op to (raise_mode token) given k raises p.placed honest;
        frame = raise_frame rows old new op to (raise_mode token) given (omega (arith, under, small)) up p.placed;
      }
  raise_reaches rows old new op to token (replies.Put (Err error)) k called room below p honest =
      quiet_reached rows old new op (raise to token) (replies.Put (Err error)) refl k (put_kept world_boundary (decimal to) (raise_mode token) old new error p honest) honest
  raise_reaches rows old new op to token (replies.Get answer) k called room below p honest = absurd p
  raise_reaches rows old new op to token (replies.List answer) k called room below p honest = absurd p
  raise_reaches rows old new op to token (replies.Delete answer) k called room below p honest = absurd p

  -- a removal

  -- a removal of what is not there changes nothing but the store's counts
  pub missing_kept : (old new : StoreState) (id : ℕ) → is_there old.files id ≡ false → Removed (version_path world_names id) old new → Kept old new
  missing_kept old new id e gone = record { files = gone.files ∙ removed_missing old.files (version_path world_names id) (not_some (get old.files (version_path world_names id)) e); given = gone.given; left = gone.left }

  -- the file was there, or was not
  removal_reached : (there : Bool) (rows : List (PlainRow T)) (old new : StoreState) (op id : ℕ) → is_there old.files id ≡ there → KnowStands decode get_epoch failed rows old → IsCall rows op (calls.Delete id) → id ≤ boundary rows →
      Removed (version_path world_names id) old new → new.failures ≡ 0 → Reached decode get_epoch failed rows old op (remove_version id) (replies.Delete (Ok tt)) new
  removal_reached true rows old new op id e k called below gone honest =
      let erased : Erases alone rows op id = record { called = called; below = below } in
      effect_reached rows old new op (remove_version id) (remove_version id) (replies.Delete (Ok tt)) (rw e refl) (remove_more decode get_epoch failed rows old new op id k erased gone honest) (remove_frame rows old new op id gone)
  removal_reached false rows old new op id e k called below gone honest =
      quiet_reached rows old new op (remove_version id) (replies.Delete (Ok tt)) (rw e refl) k (missing_kept old new id e gone) honest

  removal_reaches : (rows : List (PlainRow T)) (old new : StoreState) (op id : ℕ) (reply : Reply) → KnowStands decode get_epoch failed rows old → IsCall rows op (calls.Delete id) → id ≤ boundary rows →
      Serves (remove_version id) old reply new → new.failures ≡ 0 → Reached decode get_epoch failed rows old op (remove_version id) reply new
  removal_reaches rows old new op id (replies.Delete (Ok done)) k called below d honest = removal_reached (is_there old.files id) rows old new op id refl k called below d.removed honest
  removal_reaches rows old new op id (replies.Delete (Err error)) k called below d honest =
      quiet_reached rows old new op (remove_version id) (replies.Delete (Err error)) refl k (delete_kept (version_path world_names id) old new error d honest) honest
  removal_reaches rows old new op id (replies.Put answer) k called below d honest = absurd d
  removal_reaches rows old new op id (replies.Get answer) k called below d honest = absurd d
  removal_reaches rows old new op id (replies.List answer) k called below d honest = absurd d

  -- a get and a listing
  pub quiet_reaches : (rows : List (PlainRow T)) (old new : StoreState) (op : ℕ) (request : Request) (reply : Reply) → KnowStands decode get_epoch failed rows old → IsQuiet request → Serves request old reply new → new.failures ≡ 0 → Reached decode get_epoch failed rows old op request reply new
  quiet_reaches rows old new op (requests.Get path known) (replies.Get answer) k quiet g honest = quiet_reached rows old new op (requests.Get path known) (replies.Get answer) refl k (get_kept path known old new answer g honest) honest
  quiet_reaches rows old new op (requests.Get path known) (replies.Put answer) k quiet g honest = absurd g
  quiet_reaches rows old new op (requests.Get path known) (replies.List answer) k quiet g honest = absurd g
  quiet_reaches rows old new op (requests.Get path known) (replies.Delete answer) k quiet g honest = absurd g
  quiet_reaches rows old new op (requests.List prefix after limit) (replies.List answer) k quiet l honest = quiet_reached rows old new op (requests.List prefix after limit) (replies.List answer) refl k (listed_kept prefix after limit old new answer l honest) honest
  quiet_reaches rows old new op (requests.List prefix after limit) (replies.Put answer) k quiet l honest = absurd l
  quiet_reaches rows old new op (requests.List prefix after limit) (replies.Get answer) k quiet l honest = absurd l
  quiet_reaches rows old new op (requests.List prefix after limit) (replies.Delete answer) k quiet l honest = absurd l
  quiet_reaches rows old new op (requests.Put path bytes mode) reply k quiet serves honest = absurd quiet
  quiet_reaches rows old new op (requests.Delete path) reply k quiet serves honest = absurd quiet

  -- what was asked
  pub reaches : (rows : List (PlainRow T)) (old new : StoreState) (op : ℕ) (request : Request) (reply : Reply) → KnowStands decode get_epoch failed rows old → Asks decode get_epoch rows old op request → Serves request old reply new → new.failures ≡ 0 → Reached decode get_epoch failed rows old op request reply new
  reaches rows old new op request reply k (inl c) serves honest =
      subst (λ (r : Request). Serves r old reply new → Reached decode get_epoch failed rows old op r reply new) (sym c.asks) (λ s. create_reaches rows old new op c.call c.base c.value c.version reply k c.called c.call_is c.creates s honest) serves
  reaches rows old new op request reply k (inr (inl raise)) serves honest =
      subst (λ (r : Request). Serves r old reply new → Reached decode get_epoch failed rows old op r reply new) (sym raise.put.asks) (λ s. raise_reaches rows old new op raise.to raise.put.token reply k raise.called raise.room raise.put.below s honest) serves
  reaches rows old new op request reply k (inr (inr (inl removal))) serves honest =
      subst (λ (r : Request). Serves r old reply new → Reached decode get_epoch failed rows old op r reply new) (sym removal.asks) (λ s. removal_reaches rows old new op removal.id reply k removal.called removal.below s honest) serves
  reaches rows old new op request reply k (inr (inr (inr quiet))) serves honest = quiet_reaches rows old new op request reply k quiet serves honest
