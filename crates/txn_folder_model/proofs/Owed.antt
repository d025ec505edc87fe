-- What a journal left is owed to the store as it stands: where it would create a version, the one before it stands, or a later one.
use Rattle.std.proofs.Common.{◌≡◌, ℕ, ◌+◌, ◌<◌, ◌≤◌, ◌^◌, List, [], true, Option, Some, None, is_some, ◌⊎◌, inl, inr, refl, sym, ◌∙◌, ap, subst, arith}
use Rattle.std.specs.FinMap.{get}
use Rattle.txn_store.specs.Paths.{Segments}
use Rattle.txn_store.specs.Store.{Files, State as StoreState}
use Rattle.txn_store.specs.VersionName.{version_path}
use Rattle.txn_store.specs.declared.store.Got.{Got}
use Rattle.txn_store.specs.declared.store.PutMode.{PutMode}
use Rattle.txn_store.specs.declared.store.PutMode.TheVariants.{Create, Update}
use Rattle.txn_store.specs.declared.request.Request.{Request}
use Rattle.txn_store.specs.declared.request.Request.TheVariants as requests
use Rattle.txn_store.specs.types.Numbers.{number_of}
use Rattle.txn_store.specs.types.BoundaryText.{boundary_read}
use Rattle.txn_store.proofs.types.BoundaryLemmas.{read_decimal_text}
use Rattle.txn_steps.specs.boundary.BoundaryAdvances.{raise_mode}
use Rattle.txn_history.specs.Lists.{numbered}
use Rattle.txn_history.specs.Names.{world_names, world_boundary}
use Rattle.txn_history.specs.History.{newest, boundary}
use Rattle.txn_machine.specs.plain.Machine.{State as PlainState}
use Rattle.txn_machine.proofs.plain.Stands.{create, raise, remove_version, is_there, IsQuiet, KnownBelow, CreateAsked, RaiseAsked, Asks, Stands as PlainStands}
use Rattle.txn_machine.proofs.plain.Stored.{none_stored}
use Rattle.txn_machine.specs.Machine.{State, IsReached}
use Rattle.txn_machine.proofs.Joining.{reached_joins}
use Rattle.txn_machine.proofs.Reached.{run_reaches_or_lacking, reached_history}
use Rattle.txn_client_journals.specs.Parts.{Part}
use Rattle.txn_client_journals.specs.Journals.{left_of}
use Rattle.txn_client_journals.specs.Merged.{Merged, part_of, clients_of, IsMerged}
use Rattle.txn_client_journals.specs.Traces.{op_in}
use Rattle.txn_client_journals.proofs.Taken.{taken_of, place_in}
use Rattle.txn_client_journals.proofs.Stages.{History}
use Rattle.txn_client_journals.proofs.Runs.{stages}

-- the path of a put, its bytes, and how it puts them

abbrev pub path_in : Request → Segments
path_in (requests.Put path bytes mode) = path
path_in request = []

abbrev bytes_in : Request → List ℕ
bytes_in (requests.Put path bytes mode) = bytes
bytes_in request = []

abbrev mode_in : Request → PutMode
mode_in (requests.Put path bytes mode) = mode
mode_in request = Create

-- the version before stands, or a later one, where there is one before
abbrev pub HasBase : Files → ℕ → Type 0
HasBase files id = (id ≡ 0) ⊎ ((later : ℕ) × (id ≤ later) × (later < 2 ^ 64) × (is_there files later ≡ true))

-- the create of a version on such a base
pub record CreateOwed (files : Files) (request : Request) : Type 0 where
  pub id : ℕ
  pub bytes : List ℕ
  pub asks : request ≡ create (id + 1) bytes
  pub fits : id + 1 < 2 ^ 64
  pub base : HasBase files id

-- the boundary that is known says less, where its file is as it was known
abbrev pub SaysLess : Files → ℕ → Option ℕ → Type 0
SaysLess files to None = 0 < to
SaysLess files to (Some token) = (got : Got) → get files world_boundary ≡ Some got → got.token ≡ token → (number : ℕ) × (boundary_read got.bytes ≡ Some number) × (number < to)

-- the put of a boundary that rises
pub record RaiseOwed (files : Files) (request : Request) : Type 0 where
  pub to : ℕ
  pub token : Option ℕ
  pub asks : request ≡ raise to token
  pub fits : to < 2 ^ 64
  pub below : SaysLess files to token

-- it says its number
pub says_to : (files : Files) (path : Segments) (bytes : List ℕ) (mode : PutMode) (owed : RaiseOwed files (requests.Put path bytes mode)) → boundary_read bytes ≡ Some owed.to
says_to files path bytes mode owed = ap (λ (q : Request). boundary_read (bytes_in q)) owed.asks ∙ read_decimal_text owed.to owed.fits

-- one that is made says a number above 0
pub made_above : (files : Files) (path : Segments) (bytes : List ℕ) (owed : RaiseOwed files (requests.Put path bytes Create)) → 0 < owed.to
made_above files path bytes owed = by owed.token (ap mode_in owed.asks) owed.below
  where
    by : (o : Option ℕ) → Create ≡ raise_mode o → SaysLess files owed.to o → 0 < owed.to
    by None is less = less
    by (Some token) is less = absurd (cc)

-- one that replaces another knows the token that it names
pub replaces : (files : Files) (path : Segments) (bytes : List ℕ) (old : ℕ) (owed : RaiseOwed files (requests.Put path bytes (Update old))) → owed.token ≡ Some old
replaces files path bytes old owed = by owed.token (ap mode_in owed.asks)
  where
    by : (o : Option ℕ) → Update old ≡ raise_mode o → o ≡ Some old
    by None is = absurd (cc)
    by (Some token) is = cc

abbrev pub Owed : Files → Request → Type 0
Owed files request = CreateOwed files request ⊎ RaiseOwed files request ⊎ ((id : ℕ) × (request ≡ remove_version id)) ⊎ IsQuiet request

module _ {T : Type 0} (decode : List ℕ → Option T) (get_epoch : T → ℕ) (fine : PlainState T) (st : PlainStands decode get_epoch fine) where
  -- the newest version stands
  newest_stands : 0 < newest fine.trace → is_there fine.store.files (newest fine.trace) ≡ true
  newest_stands some = by (get fine.store.files (version_path world_names (newest fine.trace))) refl
    where
      past : newest fine.trace ≤ boundary fine.trace → ⊥
      past low = elim st.know.history.gap [ inl lt ↦ omega (arith, lt, low) | inr none ↦ (let zero = none.0 in omega (arith, zero, some)) ]

      by : (o : Option Got) → get fine.store.files (version_path world_names (newest fine.trace)) ≡ o → is_some o ≡ true
      by (Some got) is = refl
      by None is = elim (none_stored decode get_epoch fine.failed fine.trace fine.store st.know (newest fine.trace) is) [ inl low ↦ absurd (past low) | inr over ↦ absurd (omega (arith, over)) ]

  base_of : (id : ℕ) → id ≤ newest fine.trace → (n : ℕ) → n ≡ newest fine.trace → HasBase fine.store.files id
  base_of id low Rattle.std.proofs.Common.zero is = inl (omega (arith, low, is))
  base_of id low (Rattle.std.proofs.Common.suc n) is = inr (newest fine.trace, low, st.know.history.small, newest_stands (omega (arith, is)))

  create_owed : (op : ℕ) (request : Request) → CreateAsked decode get_epoch fine.trace op request → CreateOwed fine.store.files request
  create_owed op request a =
      let next = a.creates.next in
      let fits = a.creates.fits in
      record {
        id = number_of a.base;
        bytes = a.version.bytes;
        asks = a.asks ∙ ap (λ (n : ℕ). create n a.version.bytes) next;
        fits = omega (arith, next, fits);
        base = base_of (number_of a.base) a.creates.known (newest fine.trace) refl;
      }

  less : (to : ℕ) (token : Option ℕ) → KnownBelow fine.trace fine.store to token → SaysLess fine.store.files to token
  less to None known = known
  less to (Some token) known = λ got there same. (let is = known.1.same got there same in let low = known.2 in (boundary fine.trace, st.know.files.says got there, omega (arith, is, low)))

  raise_owed : (op : ℕ) (request : Request) → RaiseAsked decode get_epoch fine.trace fine.store op request → RaiseOwed fine.store.files request
  raise_owed op request a = record {
    to = a.to;
    token = a.put.token;
    asks = a.put.asks;
    fits = elim a.room [ inl none ↦ omega (arith, none) | inr low ↦ (let small = st.know.history.small in omega (arith, low, small)) ];
    below = less a.to a.put.token a.put.below;
  }

  is_owed : (op : ℕ) (request : Request) → Asks decode get_epoch fine.trace fine.store op request → Owed fine.store.files request
  is_owed op request (inl a) = inl (create_owed op request a)
  is_owed op request (inr (inl a)) = inr (inl (raise_owed op request a))
  is_owed op request (inr (inr (inl a))) = inr (inr (inl (a.id, a.asks)))
  is_owed op request (inr (inr (inr quiet))) = inr (inr (inr quiet))

module _ {T : Type 0} (page : ℕ) (encode : T → List ℕ) (decode : List ℕ → Option T) (get_epoch : T → ℕ) (set_epoch : T → ℕ → T) where
  -- what is loose in a world is owed to its store
  loose_owed : (s : State T) → IsReached encode decode get_epoch set_epoch s → (k op : ℕ) (request : Request) → numbered s.loose k ≡ Some (op, request) → Owed s.store.files request
  loose_owed s r k op request e =
      let j = reached_joins encode decode get_epoch set_epoch s r in
      let l = j.rest.loose k op request e in
      let owed = is_owed decode get_epoch j.fine j.stands l.n request (j.stands.loose l.place l.n request l.there).asks in
      subst (λ (store : StoreState). Owed store.files request) j.tie.store owed

  has_history : History page encode decode get_epoch set_epoch
  has_history clients size taken state room runs = reached_history encode decode get_epoch set_epoch state (run_reaches_or_lacking encode decode get_epoch set_epoch clients size taken state room runs)

  -- what a client's journal left in a merged list is owed to the store to which the list leads
  pub left_is_owed : (m : Merged T) (parts : ℕ → Part T) (store : StoreState) → 1 ≤ page → IsMerged page encode decode get_epoch set_epoch m parts store → (client op : ℕ) (request : Request) → left_of op (part_of client m) ≡ Some request → Owed store.files request
  left_is_owed m parts store room h client op request e =
      let found = stages page encode decode get_epoch set_epoch has_history room (clients_of m) m parts store (omega arith) h in
      let s = found.0 in
      let g = found.1 in
      let r = run_reaches_or_lacking encode decode get_epoch set_epoch (clients_of m) page (taken_of m) s room g.runs in
      let at = (g.lefts client op request e).at in
      let here : numbered s.loose (place_in m client op) ≡ Some (op_in m client op, request) = subst (λ (l : List (ℕ × Request)). numbered l (place_in m client op) ≡ Some (op_in m client op, request)) (sym g.loose) at in
      subst (λ (it : StoreState). Owed it.files request) g.store_is (loose_owed s r (place_in m client op) (op_in m client op) request here)
