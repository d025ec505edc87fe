-- Each step of an advance, by the store's contract alone.
use Rattle.std.proofs.Common.{◌≡◌, ◌⊎◌, ℕ, zero, suc, ◌+◌, ◌*◌, ◌<◌, ◌≤◌, max, Bool, true, false, nat_lt, Option, Some, None, Result, Ok, Err, refl, sym, ap, subst, ◌∙◌, inl, inr, arith}
use Rattle.std.proofs.lemmas.Bool.{ltb-true, ltb-false}
use Rattle.std.specs.FinMap as map
use Rattle.std.specs.Fmt.{decimal}
use Rattle.txn_store.specs.Paths.{Segments}
use Rattle.txn_store.specs.Store.{State, Kept, Puts as StorePuts, put_fault}
use Rattle.txn_store.specs.declared.store.StoreError.{StoreError}
use Rattle.txn_store.specs.declared.store.StoreError.TheVariants as errors
use Rattle.txn_store.specs.declared.request.Request.{Request}
use Rattle.txn_store.specs.declared.request.Request.TheVariants as requests
use Rattle.txn_store.specs.declared.request.Reply.{Reply}
use Rattle.txn_store.specs.declared.request.Reply.TheVariants as replies
use Rattle.txn_store.specs.types.BoundaryText.{boundary_read}
use Rattle.txn_steps.specs.declared.boundary.caches.CachedBoundary.{CachedBoundary}
use Rattle.txn_steps.specs.declared.boundary.boundary_read.BoundaryRead.{BoundaryRead}
use Rattle.txn_steps.specs.declared.boundary.boundary_read.BoundaryRead.TheVariants as read
use Rattle.txn_steps.specs.declared.boundary.advance.BoundaryAdvance.{BoundaryAdvance}
use Rattle.txn_steps.specs.declared.boundary.advance.BoundaryAdvance.TheVariants.{Looks, Reads, Puts, Keeps}
use Rattle.txn_steps.specs.declared.boundary.turned.Turned.{Turned}
use Rattle.txn_steps.specs.declared.boundary.turned.Turned.TheVariants.{Goes, Done}
use Rattle.txn_steps.specs.boundary.Asking.{reply_told}
use Rattle.txn_steps.specs.boundary.Boundaries.{Known, known_pair, token_of, greater_known}
use Rattle.txn_steps.specs.boundary.BoundaryReads.{boundary_cached}
use Rattle.txn_steps.specs.boundary.BoundaryAdvances.{raise_mode, raise_known, advance_looked, advance_read, advance_kept, put_answered, asks_put, boundary_advance_asked, boundary_advance_turned, boundary_advance_cached, IsBoundaryAdvanceReply}
use Rattle.txn_steps_driven.specs.Asked.{Replies}
use Rattle.txn_steps_driven.specs.Calls.{one_if}
use Rattle.txn_steps_driven.specs.Standing.{BoundaryFits, BoundaryStands}
use Rattle.txn_steps_driven.specs.BoundaryRuns.{read_steps, ReadHolds}
use Rattle.txn_steps_driven.specs.AdvanceRuns.{advance_steps, look_calls, advance_calls, advance_tokens, FromAt, ReadFrom, AdvanceFormed, FirstOrCurrent, AdvanceHolds, Moves}
use Rattle.txn_steps_driven.proofs.BoundarySteps.{branch, stands_kept, look_reads, HasCauseAt, told_is, ReadEnds, ReadSteps, ReadKeeps, read_replied, read_steps_on, read_keeps_on, kept_known, greater_rises, greater_is, target_is}
use Rattle.txn_steps_driven.proofs.AdvancePuts.{raised, current_allows, late_stored, no_other_fault, put_stands, put_current, read_moves, put_leaves}
use Rattle.txn_steps_driven.specs.Checking.{Current, number_of}
use Rattle.txn_steps_driven.specs.Advancing.{Written}

-- the answer of a read that leaves this cached
abbrev pair_of : Option CachedBoundary → Known
pair_of cached = (number_of cached, token_of cached)

some_left : (r : BoundaryRead) → 0 < read_steps r
some_left (read.Looks p) = omega arith
some_left (read.Gets request) = omega arith
some_left (read.Holds k) = omega arith

module _ (path : Segments) (goal : ℕ) (old new : State) where
  -- by the number of the error
  abbrev pub Numbered : Option CachedBoundary → Option CachedBoundary → Option StoreError → BoundaryAdvance → BoundaryAdvance × Turned (Result (Unit {0}) ℕ) → Type 0
  Numbered cached cached' told op (next, Goes) = AdvanceFormed path goal cached' new next × (advance_steps next < advance_steps op + 16 * one_if (asks_put op)) × (new.calls + advance_calls cached' next ≤ old.calls + advance_calls cached op + 2 * one_if (asks_put op)) × (old.left + advance_tokens op ≤ new.left + advance_tokens next)
  Numbered cached cached' told op (next, Done (Ok done)) = (new.calls ≤ old.calls + advance_calls cached op + 2 * one_if (asks_put op)) × (old.left + advance_tokens op ≤ new.left + 1) × (goal ≤ number_of cached')
  Numbered cached cached' told op (next, Done (Err number)) = (new.calls ≤ old.calls + advance_calls cached op + 2 * one_if (asks_put op)) × (old.left + advance_tokens op ≤ new.left + 1) × HasCauseAt told old new number

  abbrev pub NumberedKeeps : Option CachedBoundary → ℕ → ℕ → BoundaryAdvance × Turned (Result (Unit {0}) ℕ) → Type 0
  NumberedKeeps cached b spent (next, Goes) = AdvanceHolds path cached new b spent next
  NumberedKeeps cached b spent (next, Done (Ok done)) = BoundaryStands path cached new (max b goal) × (spent ≤ 2)
  NumberedKeeps cached b spent (next, Done (Err number)) = (BoundaryStands path cached new b ⊎ BoundaryStands path cached new (max b goal)) × (number ≡ 7 → ⊥) × (spent ≤ 2)

  few : (cached : Option CachedBoundary) (store : State) (b spent : ℕ) → FirstOrCurrent path cached store b spent → spent ≤ 1
  few cached store b spent (inl none) = omega (arith, none)
  few cached store b spent (inr (one, at)) = omega (arith, one)

  raise_steps : (first op : BoundaryAdvance) (cached cached' : Option CachedBoundary) (told : Option StoreError) (target : ℕ) (known : Known) → target ≡ goal → known ≡ pair_of cached' → 6 < advance_steps first + 16 * one_if (asks_put first)
      → new.calls ≤ old.calls + advance_calls cached first + 2 * one_if (asks_put first) → old.left + advance_tokens first ≤ new.left
      → Numbered cached cached' told first (raise_known path op target known)
  raise_steps first op cached cached' told target known is pair less calls left = branch (Numbered cached cached' told first) (nat_lt known.0 target) _ _
      (λ t. let below = ltb-true known.0 target t in
      ((is, ap (λ k. requests.Put path (decimal target) (raise_mode k.1)) pair, subst (λ k. k.0 < target) pair below), less, omega (arith, calls), omega (arith, left)))
      (λ t. (calls, omega (arith, left), (let le = ltb-false known.0 target t in let number_is : known.0 ≡ number_of cached' = ap (λ k. k.0) pair in omega (arith, le, number_is, is))))

  at_most : (cached : Option CachedBoundary) (b : ℕ) → BoundaryFits path new.files new.given b cached → number_of cached ≤ b
  at_most None b fits = omega arith
  at_most (Some known) b fits = fits.at_most

  raise_keeps : (op : BoundaryAdvance) (cached : Option CachedBoundary) (b spent target : ℕ) (known : Known) → target ≡ goal → known ≡ pair_of cached → BoundaryStands path cached new b → FirstOrCurrent path cached new b spent → NumberedKeeps cached b spent (raise_known path op target known)
  raise_keeps op cached b spent target known is pair stands from = branch (NumberedKeeps cached b spent) (nat_lt known.0 target) _ _
      (λ t. (stands, from))
      (λ t.
      let le = ltb-false known.0 target t in
      let number_is : known.0 ≡ number_of cached = ap (λ k. k.0) pair in
      let most = at_most cached b stands.fits in
      let once = few cached new b spent from in
      (subst (BoundaryStands path cached new) (sym (greater_is b goal (omega (arith, le, most, number_is, is)))) stands, omega (arith, once)))

  look_steps : (target : ℕ) (cached : Option CachedBoundary) → target ≡ goal → new.calls ≡ old.calls → new.left ≡ old.left → Numbered cached cached None (Looks target) (advance_looked path (Looks target) target cached)
  look_steps target None is calls left = ((is, refl, refl), omega arith, omega (arith, calls), omega (arith, left))
  look_steps target (Some known) is calls left = raise_steps (Looks target) (Looks target) (Some known) (Some known) None target (known_pair known) is refl (omega arith) (omega (arith, calls)) (omega (arith, left))

  look_keeps : (target : ℕ) (cached : Option CachedBoundary) (b spent : ℕ) → target ≡ goal → BoundaryStands path cached new b → FirstOrCurrent path cached new b spent → NumberedKeeps cached b spent (advance_looked path (Looks target) target cached)
  look_keeps target None b spent is stands (inl none) = (stands, tt, none)
  look_keeps target None b spent is stands (inr (one, at)) = absurd at
  look_keeps target (Some known) b spent is stands from = raise_keeps (Looks target) (Some known) b spent target (known_pair known) is refl stands from

  -- where a read goes on, what it began with still holds
  from_on : (again : Bool) (cached : Option CachedBoundary) (r s : BoundaryRead) → map.get new.files path ≡ map.get old.files path → read_steps s < read_steps r → ReadFrom again path cached old r → ReadFrom again path (boundary_cached r cached) new s
  from_on again cached r (read.Holds known) same less from = tt
  from_on true cached (read.Looks p) (read.Gets request) same less from = λ none. let s = from none in (s.0, same ∙ s.1)
  from_on false cached (read.Looks p) (read.Gets request) same less from = from
  from_on again cached (read.Gets request) (read.Gets next) same less from = absurd (omega (arith, less))
  from_on again cached (read.Holds known) (read.Gets next) same less from = absurd (omega (arith, less))
  from_on again cached (read.Looks q) (read.Looks p) same less from = absurd (omega (arith, less))
  from_on again cached (read.Gets request) (read.Looks p) same less from = absurd (omega (arith, less))
  from_on again cached (read.Holds known) (read.Looks p) same less from = absurd (omega (arith, less))

  -- after a put that came too late the read leaves a boundary cached
  cached_after : (cached : Option CachedBoundary) (r : BoundaryRead) (known : Known) → map.get new.files path ≡ map.get old.files path → ReadFrom true path cached old r → ReadEnds path old new r (boundary_cached r cached) known → look_calls (boundary_cached r cached) ≡ 0
  cached_after cached (read.Looks p) known same from ends = absurd ends
  cached_after None (read.Gets request) known same from (missing, is) = absurd (let s = from refl in let at = same ∙ s.1 in cc (at, missing))
  cached_after (Some held) (read.Gets request) known same from ends = refl
  cached_after cached (read.Holds held) known same from (kept, is, pair) = ap look_calls is

  -- at first it leaves what it says
  pair_after : (cached : Option CachedBoundary) (r : BoundaryRead) (known : Known) → ReadFrom false path cached old r → ReadEnds path old new r (boundary_cached r cached) known → known ≡ pair_of (boundary_cached r cached)
  pair_after cached (read.Looks p) known from ends = absurd ends
  pair_after cached (read.Gets request) known from (missing, is) = is ∙ ap pair_of (sym from)
  pair_after cached (read.Holds held) known from (kept, is, pair) = pair ∙ ap pair_of (sym is)

  module _ (target : ℕ) (r : BoundaryRead) (cached : Option CachedBoundary) (told : Option StoreError) (is : target ≡ goal) (kept : Kept old new) where
    abbrev after : Option CachedBoundary
    after = boundary_cached r cached

    same_file : map.get new.files path ≡ map.get old.files path
    same_file = ap (λ f. map.get f path) kept.files

    read_on : (again : Bool) (x : BoundaryRead × Turned (Result Known ℕ)) → ReadFrom again path cached old r → ReadSteps path old new after told r x → Numbered cached after told (Reads target again r) (advance_read path target again x)
    read_on true (s, Goes) from (formed, less, calls) = let left = kept.left in ((is, formed, from_on true cached r s same_file less from), omega (arith, less), omega (arith, calls), omega (arith, left))
    read_on false (s, Goes) from (formed, less, calls) = let left = kept.left in ((is, formed, from_on false cached r s same_file less from), omega (arith, less), omega (arith, calls), omega (arith, left))
    read_on true (s, Done (Ok known)) from (calls, ends) =
        let left = kept.left in
        let some = some_left r in
        let none = cached_after cached r known same_file from ends in
        (is, omega (arith, some), omega (arith, calls, none), omega (arith, left))
    read_on false (s, Done (Ok known)) from (calls, ends) =
        let left = kept.left in
        let some = some_left r in
        raise_steps (Reads target false r) (Reads target false s) cached after told target known is (pair_after cached r known from ends) (omega (arith, some)) (omega (arith, calls)) (omega (arith, left))
    read_on true (s, Done (Err number)) from (calls, cause) = let left = kept.left in (omega (arith, calls), omega (arith, left), cause)
    read_on false (s, Done (Err number)) from (calls, cause) = let left = kept.left in (omega (arith, calls), omega (arith, left), cause)

    -- after a put that came too late the cached boundary is the file's
    now_current : (b : ℕ) (cached' : Option CachedBoundary) → look_calls cached' ≡ 0 → BoundaryStands path cached' new b → (map.get new.files path ≡ None) ⊎ Current path cached' new b → Current path cached' new b
    now_current b None none stands file = absurd (omega (arith, none))
    now_current b (Some known) none stands (inl missing) = absurd (let at = stands.fits.is_file in cc (at, missing))
    now_current b (Some known) none stands (inr at) = at

    read_keeps : (again : Bool) (b spent : ℕ) (x : BoundaryRead × Turned (Result Known ℕ)) → ReadFrom again path cached old r → ReadSteps path old new after told r x → ReadKeeps path old new after b x
        → AdvanceHolds path cached old b spent (Reads target again r) → NumberedKeeps after b spent (advance_read path target again x)
    read_keeps true b spent (s, Goes) from steps (stands, holds) at = (stands, holds, at.2)
    read_keeps false b spent (s, Goes) from steps (stands, holds) at = (stands, holds, at.2)
    read_keeps true b spent (s, Done (Ok known)) from (calls, ends) (stands, number_is, file) at =
        (stands, by_spent spent at.2)
      where
        by_spent : (n : ℕ) → n ≤ 1 → FirstOrCurrent path after new b n
        by_spent zero le = inl refl
        by_spent (suc zero) le = inr (refl, now_current b after (cached_after cached r known same_file from ends) stands file)
        by_spent (suc (suc n)) le = absurd (omega (arith, le))
    read_keeps false b spent (s, Done (Ok known)) from (calls, ends) (stands, number_is, file) at = raise_keeps (Reads target false s) after b spent target known is (pair_after cached r known from ends) stands (inl at.2)
    read_keeps true b spent (s, Done (Err number)) from steps (stands, seven) at = let once = at.2 in (inl stands, seven, omega (arith, once))
    read_keeps false b spent (s, Done (Err number)) from steps (stands, seven) at = let once = at.2 in (inl stands, seven, omega (arith, once))

  module _ (target : ℕ) (request : Request) (cached : Option CachedBoundary) (is : target ≡ goal) where
    abbrev fault : Option StoreError
    fault = put_fault (raise_mode (token_of cached)) (map.get old.files path)

    late : (e : StoreError) → fault ≡ Some e → Kept old new → new.calls ≡ old.calls + 1 → FromAt true path cached new × (new.calls + 1 ≤ old.calls + 0 + 2 * 1) × (old.left + 0 ≤ new.left + 0)
    late e is kept calls = let left = kept.left in ((λ none. late_stored path old new cached e is kept none), omega (arith, calls), omega (arith, left))

    put_steps : (answer : Result ℕ StoreError) → StorePuts path (decimal target) (raise_mode (token_of cached)) old answer new → Numbered cached cached (reply_told (Some (replies.Put answer))) (Puts target request) (put_answered path (Puts target request) target answer)
    put_steps (Ok tk) told = let calls = told.counted.calls in let left = told.placed.left in (is, omega arith, omega (arith, calls), omega (arith, left))
    put_steps (Err errors.AlreadyExists) told = let l = late errors.AlreadyExists told.err.0 told.err.1 told.counted.calls in ((is, refl, l.0), omega arith, l.1, l.2)
    put_steps (Err errors.Precondition) told = let l = late errors.Precondition told.err.0 told.err.1 told.counted.calls in ((is, refl, l.0), omega arith, l.1, l.2)
    put_steps (Err errors.NotFound) told = absurd (no_other_fault (token_of cached) (map.get old.files path) errors.NotFound (λ e. cc) (λ e. cc) told.err.0)
    put_steps (Err errors.NotModified) told = absurd (no_other_fault (token_of cached) (map.get old.files path) errors.NotModified (λ e. cc) (λ e. cc) told.err.0)
    put_steps (Err errors.Failed) told = let calls = told.counted.calls in let l = put_leaves path old new target (token_of cached) (Err errors.Failed) told in let least = l.least in (omega (arith, calls), omega (arith, least), inl (refl, told_is old new errors.Failed told.err.0))
    put_steps (Err errors.NoMemory) told = let calls = told.counted.calls in let left = told.err.1.left in (omega (arith, calls), omega (arith, left), inr (inr refl))
    put_steps (Err errors.TokensExhausted) told = let calls = told.counted.calls in let left = told.err.2.left in (omega (arith, calls), omega (arith, left), inl (refl, told_is old new errors.TokensExhausted (left ∙ told.err.1)))

    module _ (b spent spent' : ℕ) (one_more : spent' ≡ spent + 1) (stands : BoundaryStands path cached old b) (from : FirstOrCurrent path cached old b spent) (less : number_of cached < target) (reads : boundary_read (decimal target) ≡ Some target) where
      still : Kept old new → BoundaryStands path cached new b
      still kept = stands_kept path cached old new b kept stands

      twice : spent' ≤ 2
      twice = let once = few cached old b spent from in omega (arith, once, one_more)

      -- a put of the file's own boundary never comes too late
      was_first : (e : StoreError) → fault ≡ Some e → spent' ≤ 1
      was_first e refused = by_from from
        where
          by_from : FirstOrCurrent path cached old b spent → spent' ≤ 1
          by_from (inl none) = omega (arith, none, one_more)
          by_from (inr (one, at)) = absurd (let allowed = current_allows path old b cached at in cc (allowed, refused))

      put_keeps : (answer : Result ℕ StoreError) → StorePuts path (decimal target) (raise_mode (token_of cached)) old answer new → NumberedKeeps cached b spent' (put_answered path (Puts target request) target answer)
      put_keeps (Ok tk) told =
          let up = raised path old b target cached told.allowed stands less in
          (put_stands path old new b target tk reads up told.placed cached stands, omega (arith, up), put_current path old new b target tk reads up told.placed, twice)
      put_keeps (Err errors.AlreadyExists) told = (still told.err.1, tt, was_first errors.AlreadyExists told.err.0)
      put_keeps (Err errors.Precondition) told = (still told.err.1, tt, was_first errors.Precondition told.err.0)
      put_keeps (Err errors.TokensExhausted) told = (inl (still told.err.2), (λ e. cc), twice)
      put_keeps (Err errors.Failed) told = (
        elim told.err.1 [
          | inl kept ↦ inl (still kept)
          | inr took ↦
              let up = raised path old b target cached took.allowed stands less in
              inr (subst (BoundaryStands path cached new) (is ∙ sym (target_is b goal (omega (arith, up, is)))) (put_stands path old new b target took.token reads up took.placed cached stands))
        ],
        (λ e. cc),
        twice,
      )
      put_keeps (Err error) told = (inl (still told.err.1), (λ e. cc), twice)

  keep_keeps : (target tk b spent : ℕ) (cached : Option CachedBoundary) → target ≡ goal → Kept old new → AdvanceHolds path cached old b spent (Keeps target tk)
      → NumberedKeeps (Some (greater_known cached (record { number = target; token = tk }))) b spent (advance_kept (Keeps target tk))
  keep_keeps target tk b spent cached is kept (stands, le, at, twice) =
      let known : CachedBoundary = record { number = target; token = tk } in
      let kept_is : greater_known cached known ≡ known = kept_known path old new target kept cached known stands.fits refl in
      let now : BoundaryStands path (Some known) old target = record { says = stands.says; fits = at.fits } in
      (subst (λ k. BoundaryStands path (Some k) new (max b goal)) (sym kept_is) (subst (BoundaryStands path (Some known) new) (is ∙ sym (target_is b goal (omega (arith, le, is)))) (stands_kept path (Some known) old new target kept now)), twice)

  -- one step, before memory is thought of
  pub record OneStep (op : BoundaryAdvance) (cached : Option CachedBoundary) (reply : Option Reply) : Type 0 where
    pub asked : IsBoundaryAdvanceReply op reply
    pub moves : Moves path old new
    pub written : Written path goal old new
    pub unput : asks_put op ≡ false → Kept old new
    pub steps : Numbered cached (boundary_advance_cached op cached) (reply_told reply) op (boundary_advance_turned path op cached reply)
    pub keeps : (b spent spent' : ℕ) → spent' ≡ spent + one_if (asks_put op) → AdvanceHolds path cached old b spent op → NumberedKeeps (boundary_advance_cached op cached) b spent' (boundary_advance_turned path op cached reply)

  -- a step that puts nothing spends nothing
  unspent : (b spent spent' : ℕ) (op : BoundaryAdvance) (cached : Option CachedBoundary) → spent' ≡ spent + 0 → AdvanceHolds path cached old b spent op → AdvanceHolds path cached old b spent' op
  unspent b spent spent' op cached same at = let alike : spent ≡ spent' = omega (arith, same) in subst (λ n. AdvanceHolds path cached old b n op) alike at

  from_kept : (cached : Option CachedBoundary) (b spent : ℕ) → new ≡ old → FirstOrCurrent path cached old b spent → FirstOrCurrent path cached new b spent
  from_kept cached b spent same from = subst (λ s. FirstOrCurrent path cached s b spent) (sym same) from

  pub one : (reads : boundary_read (decimal goal) ≡ Some goal) (op : BoundaryAdvance) (cached : Option CachedBoundary) (reply : Option Reply) → AdvanceFormed path goal cached old op → Replies (boundary_advance_asked op) old reply new → OneStep op cached reply
  one reads (Looks target) cached None is same =
      let r = look_reads old new same in
      record {
        asked = tt;
        moves = read_moves path old new r;
        written = inl (ap (λ f. map.get f path) r.kept.files);
        unput = λ e. r.kept;
        steps = look_steps target cached is (ap (λ s. s.calls) same) r.kept.left;
        keeps = λ b spent spent' more at. let now = unspent b spent spent' (Looks target) cached more at in look_keeps target cached b spent' is (stands_kept path cached old new b r.kept now.0) (from_kept cached b spent' same now.1);
      }
  one reads (Looks target) cached (Some reply) is same = absurd same
  one reads (Reads target again r) cached reply (is, formed, from) told =
      let replied = read_replied path old new r cached reply formed told in
      let steps = read_steps_on path old new r cached reply formed replied.0 told in
      record {
        asked = replied.0;
        moves = read_moves path old new replied.1;
        written = inl (ap (λ f. map.get f path) replied.1.kept.files);
        unput = λ e. replied.1.kept;
        steps = read_on target r cached (reply_told reply) is replied.1.kept again _ from steps;
        keeps = λ b spent spent' more at.
            let now = unspent b spent spent' (Reads target again r) cached more at in
            let held = read_held again b spent' cached target r now in
            read_keeps target r cached (reply_told reply) is replied.1.kept again b spent' _ from steps (read_keeps_on path old new b replied.1.kept r cached reply formed replied.0 told held.0 held.1) now;
      }
    where
      read_held : (again : Bool) (b spent : ℕ) (cached : Option CachedBoundary) (target : ℕ) (r : BoundaryRead) → AdvanceHolds path cached old b spent (Reads target again r) → BoundaryStands path cached old b × ReadHolds path cached old b r
      read_held true b spent cached target r at = (at.0, at.1)
      read_held false b spent cached target r at = (at.0, at.1)
  one reads (Puts target request) cached None formed told = absurd told
  one reads (Puts target request) cached (Some (replies.Put answer)) (is, request_is, less) told =
      let put : StorePuts path (decimal target) (raise_mode (token_of cached)) old answer new = (rw request_is at told) in
      let leaves = put_leaves path old new target (token_of cached) answer put in
      record {
        asked = tt;
        moves = leaves.moves;
        written = subst (λ t. Written path t old new) is leaves.written;
        unput = λ e. absurd (cc);
        steps = put_steps target request cached is answer put;
        keeps = λ b spent spent' more at. put_keeps target request cached is b spent spent' more at.0 at.1 less (subst (λ t. boundary_read (decimal t) ≡ Some t) (sym is) reads) answer put;
      }
  one reads (Puts target request) cached (Some reply) (is, request_is, less) told = absurd (rw request_is at told)
  one reads (Keeps target tk) cached None is same =
      let r = look_reads old new same in
      let calls : new.calls ≡ old.calls = ap (λ s. s.calls) same in
      let left = r.kept.left in
      record {
        asked = tt;
        moves = read_moves path old new r;
        written = inl (ap (λ f. map.get f path) r.kept.files);
        unput = λ e. r.kept;
        steps = (omega (arith, calls), omega (arith, left), (let most = (greater_rises cached (record { number = target; token = tk })).1 in omega (arith, most, is)));
        keeps = λ b spent spent' more at. keep_keeps target tk b spent' cached is r.kept (unspent b spent spent' (Keeps target tk) cached more at);
      }
  one reads (Keeps target tk) cached (Some reply) is same = absurd same
