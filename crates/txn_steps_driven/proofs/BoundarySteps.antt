-- Each step of a read of the boundary, by the store's contract alone.
use Rattle.std.proofs.Common.{◌≡◌, ◌⊎◌, ℕ, ◌+◌, ◌<◌, ◌≤◌, ◌==◌, Bool, true, false, cond, max, nat_lt, Option, Some, None, Result, Ok, Err, OnOk, IfErr, Contains, refl, sym, ap, subst, ◌∙◌, inl, inr, arith, eq-eqb}
use Rattle.std.proofs.lemmas.Bool.{eqb-true, ltb-true, ltb-false}
use Rattle.std.proofs.lemmas.Bool.Decides.{nat_tests}
use Rattle.std.proofs.lemmas.Option.{same_Some}
use Rattle.std.specs.FinMap as map
use Rattle.txn_store.specs.Paths.{Segments}
use Rattle.txn_store.specs.Store.{State, Kept, Gets as StoreGets, Refused, get_fault, known_fault}
use Rattle.txn_store.specs.declared.store.Got.{Got}
use Rattle.txn_store.specs.declared.store.StoreError.{StoreError}
use Rattle.txn_store.specs.declared.store.StoreError.TheVariants as errors
use Rattle.txn_store.specs.declared.request.Request.{Request}
use Rattle.txn_store.specs.declared.request.Request.TheVariants as requests
use Rattle.txn_store.specs.declared.request.Reply.{Reply}
use Rattle.txn_store.specs.declared.request.Reply.TheVariants as replies
use Rattle.txn_store.specs.types.BoundaryText.{boundary_read}
use Rattle.txn_store.specs.types.Errors.{store_error_number}
use Rattle.txn_steps.specs.declared.boundary.caches.CachedBoundary.{CachedBoundary}
use Rattle.txn_steps.specs.declared.boundary.boundary_read.BoundaryRead.{BoundaryRead}
use Rattle.txn_steps.specs.declared.boundary.boundary_read.BoundaryRead.TheVariants as read
use Rattle.txn_steps.specs.declared.boundary.turned.Turned.{Turned}
use Rattle.txn_steps.specs.declared.boundary.turned.Turned.TheVariants.{Goes, Done}
use Rattle.txn_steps.specs.boundary.Asking.{IsLook, IsGot, reply_told}
use Rattle.txn_steps.specs.boundary.Boundaries.{Known, known_pair, token_of, greater_known}
use Rattle.txn_steps.specs.boundary.BoundaryReads.{text_read, boundary_got, boundary_held, held_cached, boundary_read_asked, boundary_turned, boundary_cached, IsBoundaryReply}
use Rattle.txn_steps_driven.specs.Asked.{Replies}
use Rattle.txn_steps_driven.specs.Calls.{HasStoreCause}
use Rattle.txn_steps_driven.specs.Standing.{FileSays, BoundaryFits, BoundaryStands}
use Rattle.txn_steps_driven.specs.BoundaryRuns.{ReadTells, Reads, read_steps, read_calls, ReadFormed, ReadHolds}
use Rattle.txn_steps_driven.specs.Checking.{IsCurrent, MissingOrCurrent, at_least, number_of, read_says}

-- a fact of either branch is one of the choice
pub branch : {X : Type 0} (P : X → Type 0) (t : Bool) (x y : X) → (t ≡ true → P x) → (t ≡ false → P y) → P (cond t x y)
branch P true x y taken passed = taken refl
branch P false x y taken passed = passed refl

-- what leaves the files and the tokens leaves the boundary
pub stands_kept : (path : Segments) (cached : Option CachedBoundary) (old new : State) (b : ℕ) → Kept old new → BoundaryStands path cached old b → BoundaryStands path cached new b
stands_kept path cached old new b kept stands = record {
  says = subst (λ f. FileSays new.given (map.get f path) b) (sym kept.files) (subst (λ g. FileSays g (map.get old.files path) b) (sym kept.given) stands.says);
  fits = subst (λ f. BoundaryFits path f new.given b cached) (sym kept.files) (subst (λ g. BoundaryFits path old.files g b cached) (sym kept.given) stands.fits);
}

pub kept_on : (a b c : State) → Kept a b → Kept b c → Kept a c
kept_on a b c first second = record { files = second.files ∙ first.files; given = second.given ∙ first.given; left = second.left ∙ first.left }

pub reads_on : (a b c : State) → Reads a b → Reads b c → Reads a c
reads_on a b c first second =
    let f = first.calls_rise in
    let s = second.calls_rise in
    let g = first.failures_rise in
    let t = second.failures_rise in
    record { kept = kept_on a b c first.kept second.kept; calls_rise = omega (arith, f, s); failures_rise = omega (arith, g, t) }

pub look_reads : (old new : State) → new ≡ old → Reads old new
look_reads old new same = subst (Reads old) (sym same) (record { kept = record { files = refl; given = refl; left = refl }; calls_rise = omega arith; failures_rise = omega arith })

-- the store's own error in a reply has its cause
abbrev pub HasToldCause : Option StoreError → State → State → Type 0
HasToldCause told old new = (error : StoreError) → told ≡ Some error → HasStoreCause old new error

-- the cause of an error by its number: the store's own, bytes that say no boundary, or a growth that was refused
abbrev pub HasCauseAt : Option StoreError → State → State → ℕ → Type 0
HasCauseAt told old new number = ((number ≡ 2) × HasToldCause told old new) ⊎ ((number ≡ 7) ⊎ (number ≡ 9))

pub told_is : (old new : State) (e : StoreError) → HasStoreCause old new e → HasToldCause (Some e) old new
told_is old new e cause error same = subst (HasStoreCause old new) (same_Some e error same) cause

-- why a get of a known file fails
pub fault_of : (known : Option ℕ) (now : Option Got) (e : StoreError) → get_fault known now ≡ Some e → ((e ≡ errors.NotFound) × (now ≡ None)) ⊎ ((e ≡ errors.NotModified) × ((t : ℕ) × (g : Got) × (known ≡ Some t) × (now ≡ Some g) × (g.token ≡ t)))
fault_of known None e is = inl (let same : errors.NotFound ≡ e = cc in sym same, refl)
fault_of None (Some g) e is = absurd (cc)
fault_of (Some t) (Some g) e is = by_token (g.token == t) refl is
  where
    by_token : (same : Bool) → (g.token == t) ≡ same → cond same (Some errors.NotModified) None ≡ Some e → ((e ≡ errors.NotFound) × (Some g ≡ None)) ⊎ ((e ≡ errors.NotModified) × ((u : ℕ) × (k : Got) × (Some t ≡ Some u) × (Some g ≡ Some k) × (k.token ≡ u)))
    by_token true same is = inr (let alike : errors.NotModified ≡ e = cc in sym alike, (t, g, refl, refl, eqb-true g.token t same))
    by_token false same is = absurd (cc)

pub greater_is : (b goal : ℕ) → goal ≤ b → max b goal ≡ b
greater_is b goal le = omega (arith, le)

pub target_is : (b goal : ℕ) → b ≤ goal → max b goal ≡ goal
target_is b goal le = omega (arith, le)

-- the greater boundary is at or above both
greater_by : (cached known : CachedBoundary) → (cached.number ≤ (greater_known (Some cached) known).number) × (known.number ≤ (greater_known (Some cached) known).number)
greater_by cached known = branch (λ (k : CachedBoundary). (cached.number ≤ k.number) × (known.number ≤ k.number)) (nat_lt known.number cached.number) cached known
    (λ t. let less = ltb-true known.number cached.number t in (omega arith, omega (arith, less)))
    (λ t. let most = ltb-false known.number cached.number t in (omega (arith, most), omega arith))

pub greater_rises : (cached : Option CachedBoundary) (known : CachedBoundary) → (number_of cached ≤ (greater_known cached known).number) × (known.number ≤ (greater_known cached known).number)
greater_rises None known = (omega arith, omega arith)
greater_rises (Some cached) known = greater_by cached known

held_rises : (held cached : Option CachedBoundary) → number_of cached ≤ number_of (held_cached held cached)
held_rises (Some known) cached = (greater_rises cached known).0
held_rises None cached = omega arith

-- a read never lowers the cached boundary
pub read_rises : (op : BoundaryRead) (cached : Option CachedBoundary) → number_of cached ≤ number_of (boundary_cached op cached)
read_rises (read.Looks p) cached = omega arith
read_rises (read.Gets request) cached = omega arith
read_rises (read.Holds known) cached = held_rises known cached

-- what a read says of a file that is not as it is cached, by the file's own number
abbrev changed : Option CachedBoundary → Option ℕ → Option ℕ
changed None number = number
changed (Some known) number = at_least known.number number

no_number : (cached : Option CachedBoundary) → changed cached None ≡ None
no_number None = refl
no_number (Some known) = refl

greatest : (cached : Option CachedBoundary) (number token : ℕ) → changed cached (Some number) ≡ Some (greater_known cached (record { number = number; token = token })).number
greatest None number token = refl
greatest (Some cached) number token = branch (λ (k : CachedBoundary). Some (max cached.number number) ≡ Some k.number) (nat_lt number cached.number) cached (record { number = number; token = token })
    (λ t. let less = ltb-true number cached.number t in ap Some (greater_is cached.number number (omega (arith, less))))
    (λ t. let most = ltb-false number cached.number t in ap Some (target_is cached.number number most))

same_says : (known : CachedBoundary) (got : Got) → got.token ≡ known.token → read_says (Some known) (Some got) ≡ Some known.number
same_says known got same = let is : (got.token == known.token) ≡ true = eq-eqb got.token known.token same in rw is refl

module _ (path : Segments) (old new : State) where
  get_reads : (known : Option ℕ) (answer : Result Got StoreError) → StoreGets path known old answer new → Reads old new
  get_reads known answer told =
      let c = told.counted.calls in
      let f = told.counted.failures in
      record { kept = by_answer answer told.kept told.err; calls_rise = omega (arith, c); failures_rise = f }
    where
      by_answer : (answer : Result Got StoreError) → OnOk answer (Kept old new) → IfErr answer (Refused (get_fault known (map.get old.files path)) ⊥ old new) → Kept old new
      by_answer (Ok got) kept err = kept
      by_answer (Err errors.Failed) kept err = elim err.1 [ inl k ↦ k | inr none ↦ absurd none ]
      by_answer (Err errors.TokensExhausted) kept err = absurd err
      by_answer (Err errors.NotFound) kept err = err.1
      by_answer (Err errors.AlreadyExists) kept err = err.1
      by_answer (Err errors.Precondition) kept err = err.1
      by_answer (Err errors.NotModified) kept err = err.1
      by_answer (Err errors.NoMemory) kept err = err.1

  pub looked_reply : (reply : Option Reply) → Replies None old reply new → IsLook reply × Reads old new
  looked_reply None same = (tt, look_reads old new same)
  looked_reply (Some reply) same = absurd same

  got_reply : (known : Option ℕ) (request : Request) (reply : Option Reply) → request ≡ requests.Get path known → Replies (Some request) old reply new → IsGot reply × Reads old new
  got_reply known request None is told = absurd told
  got_reply known request (Some (replies.Get answer)) is told = (tt, get_reads known answer (rw is at told))
  got_reply known request (Some reply) is told = absurd (rw is at told)

  -- what a read of the boundary asks for is replied in kind, and changes nothing
  pub read_replied : (op : BoundaryRead) (cached : Option CachedBoundary) (reply : Option Reply) → ReadFormed path cached op → Replies (boundary_read_asked op) old reply new → IsBoundaryReply op reply × Reads old new
  read_replied (read.Looks p) cached reply formed told = looked_reply reply told
  read_replied (read.Gets request) cached reply formed told = got_reply (token_of cached) request reply formed told
  read_replied (read.Holds known) cached reply formed told = looked_reply reply told

  -- how a read ends: the file is missing, or what is then cached is its answer
  abbrev pub ReadEnds : BoundaryRead → Option CachedBoundary → Known → Type 0
  ReadEnds (read.Looks p) cached known = ⊥
  ReadEnds (read.Gets request) cached known = (map.get new.files path ≡ None) × (known ≡ (0, None))
  ReadEnds (read.Holds held) cached known = (kept : CachedBoundary) × (cached ≡ Some kept) × (known ≡ known_pair kept)

  -- any store: it goes on with less to do, or ends
  abbrev pub ReadSteps : Option CachedBoundary → Option StoreError → BoundaryRead → BoundaryRead × Turned (Result Known ℕ) → Type 0
  ReadSteps cached told op (next, Goes) = ReadFormed path cached next × (read_steps next < read_steps op) × (new.calls + read_calls next ≡ old.calls + read_calls op)
  ReadSteps cached told op (next, Done (Ok known)) = (new.calls ≡ old.calls + read_calls op) × ReadEnds op cached known
  ReadSteps cached told op (next, Done (Err number)) = (new.calls ≡ old.calls + read_calls op) × HasCauseAt told old new number

  -- where the file and the cached boundary stand for one
  abbrev pub ReadKeeps : Option CachedBoundary → ℕ → BoundaryRead × Turned (Result Known ℕ) → Type 0
  ReadKeeps cached b (next, Goes) = BoundaryStands path cached new b × ReadHolds path cached new b next
  ReadKeeps cached b (next, Done (Ok known)) = BoundaryStands path cached new b × (known.0 ≡ b) × MissingOrCurrent path cached new b
  ReadKeeps cached b (next, Done (Err number)) = BoundaryStands path cached new b × (number ≡ 7 → ⊥)

  refused : (known : Option ℕ) (now : Option Got) (e : StoreError) → (e ≡ errors.NotFound → ⊥) → (e ≡ errors.NotModified → ⊥) → Refused (get_fault known now) ⊥ old new e → HasCauseAt (Some e) old new (store_error_number e)
  refused known now errors.NotFound a b r = absurd (a refl)
  refused known now errors.NotModified a b r = absurd (b refl)
  refused known now errors.AlreadyExists a b r = elim (fault_of known now errors.AlreadyExists r.0) [ inl x ↦ absurd (a x.0) | inr y ↦ absurd (b y.0) ]
  refused known now errors.Precondition a b r = elim (fault_of known now errors.Precondition r.0) [ inl x ↦ absurd (a x.0) | inr y ↦ absurd (b y.0) ]
  refused known now errors.Failed a b r = inl (refl, told_is old new errors.Failed r.0)
  refused known now errors.NoMemory a b r = inr (inr refl)
  refused known now errors.TokensExhausted a b r = absurd r

  text_steps : (request : Request) (cached : Option CachedBoundary) (token : ℕ) (number : Option ℕ) → new.calls ≡ old.calls + 1 → ReadSteps cached None (read.Gets request) (text_read (read.Gets request) token number)
  text_steps request cached token None calls = (calls, inr (inl refl))
  text_steps request cached token (Some number) calls = (tt, omega arith, omega (arith, calls))

  missing : (known : Option ℕ) → Reads old new → get_fault known (map.get old.files path) ≡ Some errors.NotFound → map.get new.files path ≡ None
  missing known reads is = elim (fault_of known _ errors.NotFound is) [ inl x ↦ ap (λ f. map.get f path) reads.kept.files ∙ x.1 | inr y ↦ absurd (let e = y.0 in cc) ]

  got_steps : (request : Request) (cached : Option CachedBoundary) (known : Option ℕ) (answer : Result Got StoreError) → StoreGets path known old answer new → ReadSteps cached (reply_told (Some (replies.Get answer))) (read.Gets request) (boundary_got (read.Gets request) answer)
  got_steps request cached known (Ok got) told = text_steps request cached got.token (boundary_read got.bytes) told.counted.calls
  got_steps request cached known (Err errors.NotFound) told = (told.counted.calls, (missing known (get_reads known (Err errors.NotFound) told) told.err.0, refl))
  got_steps request cached known (Err errors.NotModified) told = let c = told.counted.calls in (tt, omega arith, omega (arith, c))
  got_steps request cached known (Err errors.AlreadyExists) told = (told.counted.calls, refused known (map.get old.files path) errors.AlreadyExists (λ e. cc) (λ e. cc) told.err)
  got_steps request cached known (Err errors.Precondition) told = (told.counted.calls, refused known (map.get old.files path) errors.Precondition (λ e. cc) (λ e. cc) told.err)
  got_steps request cached known (Err errors.Failed) told = (told.counted.calls, refused known (map.get old.files path) errors.Failed (λ e. cc) (λ e. cc) told.err)
  got_steps request cached known (Err errors.NoMemory) told = (told.counted.calls, refused known (map.get old.files path) errors.NoMemory (λ e. cc) (λ e. cc) told.err)
  got_steps request cached known (Err errors.TokensExhausted) told = absurd told.err

  held_steps : (held cached : Option CachedBoundary) → new.calls ≡ old.calls → ReadSteps (held_cached held cached) None (read.Holds held) (boundary_held (read.Holds held) held cached)
  held_steps (Some known) cached calls = (omega (arith, calls), (greater_known cached known, refl, refl))
  held_steps None (Some cached) calls = (omega (arith, calls), (cached, refl, refl))
  held_steps None None calls = (omega (arith, calls), inr (inl refl))

  pub read_steps_on : (op : BoundaryRead) (cached : Option CachedBoundary) (reply : Option Reply) → ReadFormed path cached op → IsBoundaryReply op reply → Replies (boundary_read_asked op) old reply new → ReadSteps (boundary_cached op cached) (reply_told reply) op (boundary_turned op cached reply)
  read_steps_on (read.Looks p) cached None formed is same = let calls : new.calls ≡ old.calls = ap (λ s. s.calls) same in (ap (λ q. requests.Get q (token_of cached)) formed, omega arith, omega (arith, calls))
  read_steps_on (read.Looks p) cached (Some reply) formed is same = absurd is
  read_steps_on (read.Gets request) cached None formed is told = absurd is
  read_steps_on (read.Gets request) cached (Some (replies.Get answer)) formed is told = got_steps request cached (token_of cached) answer (rw formed at told)
  read_steps_on (read.Gets request) cached (Some reply) formed is told = absurd is
  read_steps_on (read.Holds known) cached None formed is same = held_steps known cached (ap (λ s. s.calls) same)
  read_steps_on (read.Holds known) cached (Some reply) formed is same = absurd is

  module _ (b : ℕ) (kept : Kept old new) where
    on : (cached : Option CachedBoundary) → BoundaryStands path cached old b → BoundaryStands path cached new b
    on cached stands = stands_kept path cached old new b kept stands

    same_file : map.get new.files path ≡ map.get old.files path
    same_file = ap (λ f. map.get f path) kept.files

    says_at : (got : Got) (now : Option Got) → now ≡ Some got → FileSays old.given now b → (boundary_read got.bytes ≡ Some b) × Contains old.given got.token
    says_at got now is says = rw is at says

    says_none : (now : Option Got) → now ≡ None → FileSays old.given now b → b ≡ 0
    says_none now is says = rw is at says

    text_keeps : (request : Request) (cached : Option CachedBoundary) (got : Got) (number : Option ℕ) → boundary_read got.bytes ≡ number → BoundaryStands path cached old b → map.get old.files path ≡ Some got → ReadKeeps cached b (text_read (read.Gets request) got.token number)
    text_keeps request cached got None reads stands is = absurd (let s = says_at got _ is stands.says in let e = s.0 in cc)
    text_keeps request cached got (Some number) reads stands is =
        let s = says_at got _ is stands.says in
        let number_is : number ≡ b = same_Some number b (sym reads ∙ s.0) in (
          on cached stands,
          record {
            number_is = number_is;
            fits = record {
              file = got;
              is_file = same_file ∙ is;
              at_most = omega (arith, number_is);
              given_once = subst (λ g. Contains g got.token) (sym kept.given) s.1;
              same = λ e. number_is;
            };
            token_is = refl;
          },
        )

    got_keeps : (request : Request) (cached : Option CachedBoundary) (answer : Result Got StoreError) → BoundaryStands path cached old b → StoreGets path (token_of cached) old answer new → ReadKeeps cached b (boundary_got (read.Gets request) answer)
    got_keeps request cached (Ok got) stands told = text_keeps request cached got (boundary_read got.bytes) refl stands told.found
    got_keeps request cached (Err errors.NotFound) stands told = elim (fault_of (token_of cached) _ errors.NotFound told.err.0) [
      | inl x ↦ (on cached stands, sym (says_none _ x.1 stands.says), inl (same_file ∙ x.1))
      | inr y ↦ absurd (let e = y.0 in cc)
    ]
    got_keeps request None (Err errors.NotModified) stands told = elim (fault_of None _ errors.NotModified told.err.0) [ inl x ↦ absurd (let e = x.0 in cc) | inr y ↦ absurd (let e = y.1.2 in cc) ]
    got_keeps request (Some cached) (Err errors.NotModified) stands told = elim (fault_of (Some cached.token) _ errors.NotModified told.err.0) [
      | inl x ↦ absurd (let e = x.0 in cc)
      | inr y ↦
          let t_is : cached.token ≡ y.1.0 = same_Some _ _ y.1.2 in
          let file_is : stands.fits.file ≡ y.1.1 = same_Some _ _ (sym stands.fits.is_file ∙ y.1.3) in
          let token_is : stands.fits.file.token ≡ cached.token = ap (λ g. g.token) file_is ∙ (y.1.4 ∙ sym t_is) in
          let now = on (Some cached) stands in
          let alike : now.fits.file ≡ stands.fits.file = same_Some _ _ (sym now.fits.is_file ∙ (same_file ∙ stands.fits.is_file)) in
          (now, record { number_is = stands.fits.same token_is; fits = now.fits; token_is = ap (λ g. g.token) alike ∙ token_is })
    ]
    got_keeps request cached (Err errors.AlreadyExists) stands told = (on cached stands, λ e. cc)
    got_keeps request cached (Err errors.Precondition) stands told = (on cached stands, λ e. cc)
    got_keeps request cached (Err errors.Failed) stands told = (on cached stands, λ e. cc)
    got_keeps request cached (Err errors.NoMemory) stands told = (on cached stands, λ e. cc)
    got_keeps request cached (Err errors.TokensExhausted) stands told = (on cached stands, λ e. cc)

    at_most_kept : (cached known : CachedBoundary) → cached.number ≤ known.number → greater_known (Some cached) known ≡ known
    at_most_kept cached known le = let none : nat_lt known.number cached.number ≡ false = grind (arith, nat_tests) in rw none refl

    pub kept_known : (cached : Option CachedBoundary) (known : CachedBoundary) → BoundaryFits path old.files old.given b cached → known.number ≡ b → greater_known cached known ≡ known
    kept_known None known fits is = refl
    kept_known (Some cached) known fits is = let most = fits.at_most in at_most_kept cached known (omega (arith, most, is))

    current : (held : Option CachedBoundary) (known : CachedBoundary) → new ≡ old → IsCurrent path old b known → FileSays old.given (map.get old.files path) b → ReadKeeps (Some known) b (read.Holds held, Done (Ok (known.number, Some known.token)))
    current held known same at says =
        let stands : BoundaryStands path (Some known) old b = record { says = says; fits = at.fits } in
        (on (Some known) stands, at.number_is, inr (subst (λ s. IsCurrent path s b known) (sym same) at))

    held_keeps : (held cached : Option CachedBoundary) → new ≡ old → BoundaryStands path cached old b → ReadHolds path cached old b (read.Holds held) → ReadKeeps (held_cached held cached) b (boundary_held (read.Holds held) held cached)
    held_keeps (Some known) cached same stands at =
        let is : greater_known cached known ≡ known = kept_known cached known stands.fits at.number_is in
        subst (λ k. ReadKeeps (Some k) b (read.Holds (Some known), Done (Ok (k.number, Some k.token)))) (sym is) (current (Some known) known same at stands.says)
    held_keeps None (Some cached) same stands at = current None cached same at stands.says
    held_keeps None None same stands at = absurd at

    pub read_keeps_on : (op : BoundaryRead) (cached : Option CachedBoundary) (reply : Option Reply) → ReadFormed path cached op → IsBoundaryReply op reply → Replies (boundary_read_asked op) old reply new
        → BoundaryStands path cached old b → ReadHolds path cached old b op → ReadKeeps (boundary_cached op cached) b (boundary_turned op cached reply)
    read_keeps_on (read.Looks p) cached None formed is same stands at = (on cached stands, tt)
    read_keeps_on (read.Looks p) cached (Some reply) formed is same stands at = absurd is
    read_keeps_on (read.Gets request) cached None formed is told stands at = absurd is
    read_keeps_on (read.Gets request) cached (Some (replies.Get answer)) formed is told stands at = got_keeps request cached answer stands (rw formed at told)
    read_keeps_on (read.Gets request) cached (Some reply) formed is told stands at = absurd is
    read_keeps_on (read.Holds known) cached None formed is same stands at = held_keeps known cached same stands at
    read_keeps_on (read.Holds known) cached (Some reply) formed is same stands at = absurd is

  -- what a read says, on any files
  abbrev pub ReadSays : Option CachedBoundary → BoundaryRead × Turned (Result Known ℕ) → Type 0
  ReadSays cached (next, Goes) = ReadTells cached (map.get old.files path) next
  ReadSays cached (next, Done (Ok known)) = read_says cached (map.get old.files path) ≡ Some known.0
  ReadSays cached (next, Done (Err number)) = number ≡ 7 → read_says cached (map.get old.files path) ≡ None

  -- a file that is not as it is cached
  changed_says : (cached : Option CachedBoundary) (got : Got) → known_fault (token_of cached) got ≡ None → (number : Option ℕ) → boundary_read got.bytes ≡ number → read_says cached (Some got) ≡ changed cached number
  changed_says None got allowed number reads = reads
  changed_says (Some known) got allowed number reads = by_token (got.token == known.token) refl allowed
    where
      by_token : (same : Bool) → (got.token == known.token) ≡ same → cond same (Some errors.NotModified) None ≡ None → read_says (Some known) (Some got) ≡ at_least known.number number
      by_token true same allowed = absurd (cc)
      by_token false same allowed = rw same (ap (at_least known.number) reads)

  text_says : (request : Request) (cached : Option CachedBoundary) (got : Got) (number : Option ℕ) → boundary_read got.bytes ≡ number → known_fault (token_of cached) got ≡ None → map.get old.files path ≡ Some got → ReadSays cached (text_read (read.Gets request) got.token number)
  text_says request cached got None reads allowed is = λ seven. ap (read_says cached) is ∙ (changed_says cached got allowed None reads ∙ no_number cached)
  text_says request cached got (Some number) reads allowed is = ap (read_says cached) is ∙ (changed_says cached got allowed (Some number) reads ∙ greatest cached number got.token)

  got_says : (request : Request) (cached : Option CachedBoundary) (answer : Result Got StoreError) → StoreGets path (token_of cached) old answer new → ReadSays cached (boundary_got (read.Gets request) answer)
  got_says request cached (Ok got) told = text_says request cached got (boundary_read got.bytes) refl (ap (get_fault (token_of cached)) (sym told.found) ∙ told.allowed) told.found
  got_says request cached (Err errors.NotFound) told = elim (fault_of (token_of cached) _ errors.NotFound told.err.0) [ inl x ↦ ap (read_says cached) x.1 | inr y ↦ absurd (let e = y.0 in cc) ]
  got_says request None (Err errors.NotModified) told = elim (fault_of None _ errors.NotModified told.err.0) [ inl x ↦ absurd (let e = x.0 in cc) | inr y ↦ absurd (let e = y.1.2 in cc) ]
  got_says request (Some cached) (Err errors.NotModified) told = elim (fault_of (Some cached.token) _ errors.NotModified told.err.0) [
    | inl x ↦ absurd (let e = x.0 in cc)
    | inr y ↦
        let t_is : cached.token ≡ y.1.0 = same_Some _ _ y.1.2 in
        ap (read_says (Some cached)) y.1.3 ∙ same_says cached y.1.1 (y.1.4 ∙ sym t_is)
  ]
  got_says request cached (Err errors.AlreadyExists) told = λ e. absurd (cc)
  got_says request cached (Err errors.Precondition) told = λ e. absurd (cc)
  got_says request cached (Err errors.Failed) told = λ e. absurd (cc)
  got_says request cached (Err errors.NoMemory) told = λ e. absurd (cc)
  got_says request cached (Err errors.TokensExhausted) told = λ e. absurd (cc)

  held_says : (held cached : Option CachedBoundary) → ReadTells cached (map.get old.files path) (read.Holds held) → ReadSays cached (boundary_held (read.Holds held) held cached)
  held_says (Some known) cached tells = tells
  held_says None (Some cached) tells = tells
  held_says None None tells = λ seven. tells

  pub read_says_on : (op : BoundaryRead) (cached : Option CachedBoundary) (reply : Option Reply) → ReadFormed path cached op → IsBoundaryReply op reply → Replies (boundary_read_asked op) old reply new
      → ReadTells cached (map.get old.files path) op → ReadSays cached (boundary_turned op cached reply)
  read_says_on (read.Looks p) cached None formed is same tells = tt
  read_says_on (read.Looks p) cached (Some reply) formed is same tells = absurd is
  read_says_on (read.Gets request) cached None formed is told tells = absurd is
  read_says_on (read.Gets request) cached (Some (replies.Get answer)) formed is told tells = got_says request cached answer (rw formed at told)
  read_says_on (read.Gets request) cached (Some reply) formed is told tells = absurd is
  read_says_on (read.Holds known) cached None formed is same tells = held_says known cached tells
  read_says_on (read.Holds known) cached (Some reply) formed is same tells = absurd is
