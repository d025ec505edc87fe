-- A read of the newest version, driven: the loop.
use Rattle.std.proofs.Common.{◌≡◌, ◌⊎◌, ℕ, ◌+◌, ◌*◌, ◌<◌, ◌≤◌, ◌^◌, ◌&&◌, Bool, true, false, List, length, Option, Some, IfSome, Result, Ok, Err, IfOk, IfErr, IsErrOf, refl, sym, ap, subst, ◌∙◌, inl, inr, arith, None}
use Rattle.std.specs.Prelude.{◌==◌, if◌then◌else◌}
use Rattle.std.proofs.Math.Nat.{lt_of_mul-lt-mul_right}
use Rattle.std.proofs.lemmas.List.{length-append}
use Rattle.txn_store.specs.VersionName.{Names}
use Rattle.txn_store.specs.Store.{State, Files, Kept}
use Rattle.txn_store.specs.declared.store.StoreError.{StoreError}
use Rattle.txn_store.specs.declared.store.StoreError.TheVariants as errors
use Rattle.txn_store.specs.types.Errors.{error_number}
use Rattle.txn_store.specs.declared.types.error.TransactionalObjectError.{TransactionalObjectError}
use Rattle.txn_store.specs.declared.types.error.TransactionalObjectError.TheVariants as kinds
use Rattle.txn_steps.specs.declared.boundary.caches.Cached.{Cached}
use Rattle.txn_steps.specs.declared.boundary.turned.Turned.{Turned}
use Rattle.txn_steps.specs.declared.boundary.turned.Turned.TheVariants.{Goes, Done}
use Rattle.txn_steps.specs.boundary.Asking.{reply_told, unless_lacking}
use Rattle.txn_steps.specs.boundary.Steps.{turned_by_number, IsErrorOf}
use Rattle.txn_steps.specs.boundary.Windows.{Ascends, greatest_held}
use Rattle.txn_steps.specs.declared.latest.LatestOp.{LatestOp}
use Rattle.txn_steps.specs.declared.latest.LatestOp.TheVariants.{Looks, Probes, Finds, Lists, Chooses, Gets, Keeps, Drops, Ended}
use Rattle.txn_steps.specs.Requests.{version_got}
use Rattle.txn_steps.specs.Latest.{ReadAnswer, answered, begins_with, latest_begun, latest_turned, latest_window_after}
use Rattle.txn_steps_driven.specs.Calls.{one_if, SpendsTurns, HasStoreCause, HasCauseOfRead}
use Rattle.txn_steps_driven.specs.Standing.{FilesStand, WindowFits}
use Rattle.txn_steps_driven.specs.LatestReads.{HasPages, HasGrown, IsRefused, HasToList, IsAnswer, AnswersOf, Ended as ReadEnded}
use Rattle.txn_steps_driven.specs.PageCount.{files_below}
use Rattle.txn_steps_driven.specs.LatestRuns.{is_listing, steps_left, calls_left, Pays, IsStep, Listing, Holds, HasSpent, Running}
use Rattle.txn_steps_driven.proofs.LatestWindows.{grown_none, grown_kept, grown_every}
use Rattle.txn_steps_driven.proofs.LatestSteps.{Leaves}
use Rattle.txn_steps_driven.proofs.LatestTurns.{NumberCause, calls_of, LatestFails}
use Rattle.txn_steps_driven.proofs.LatestMoves.{not_due, due_as, Moved, moved}
use Rattle.txn_steps_driven.proofs.LatestStands.{window_stands, answer_stands, newest_few, newest_calls}

pub kept_on : (a b c : State) → Kept a b → Kept b c → Kept a c
kept_on a b c first second = record { files = second.files ∙ first.files; given = second.given ∙ first.given; left = second.left ∙ first.left }

-- a call that reads takes no token
pub spends_none : (each beside turns turns' : ℕ) (old new : State) → Kept old new → turns' ≤ turns → old.calls ≤ new.calls → new.calls + each * turns' ≤ old.calls + beside + each * turns → old.failures ≤ new.failures → SpendsTurns each beside 0 turns turns' old new
spends_none each beside turns turns' old new kept fall rise most failures = let l = kept.left in record { turns_fall = fall; calls_rise = rise; calls_most = most; failures_rise = failures; left_falls = omega (arith, l); left_least = omega (arith, l) }

-- the cause of an error, from its number and what the store told
pub cause_of : (left : ℕ) (old mid new : State) (told : Option StoreError) (error : TransactionalObjectError) → old.failures ≤ mid.failures → NumberCause mid new told (error_number error) → IsErrorOf told error → HasCauseOfRead left old new error
cause_of left old mid new told error rise cause of = by_kind error cause of
  where
    store_cause : (e : StoreError) → HasStoreCause mid new e → HasStoreCause old new e
    store_cause errors.Failed rose = omega (arith, rise, rose)
    store_cause errors.TokensExhausted none = none
    store_cause errors.NotFound never = never
    store_cause errors.AlreadyExists never = never
    store_cause errors.Precondition never = never
    store_cause errors.NotModified never = never
    store_cause errors.NoMemory never = never

    never : (n : ℕ) → (n ≡ 2 → ⊥) → (n ≡ 8 → ⊥) → (n ≡ 9 → ⊥) → NumberCause mid new told n → ⊥
    never n two eight nine (inl (is, cause)) = two is
    never n two eight nine (inr (inl is)) = eight is
    never n two eight nine (inr (inr is)) = nine is

    by_store : (e : StoreError) → NumberCause mid new told 2 → told ≡ Some e → HasStoreCause old new e
    by_store e (inl (is, cause)) same = store_cause e (cause e same)
    by_store e (inr (inl is)) same = absurd (omega (arith, is))
    by_store e (inr (inr is)) same = absurd (omega (arith, is))

    by_kind : (error : TransactionalObjectError) → NumberCause mid new told (error_number error) → IsErrorOf told error → HasCauseOfRead left old new error
    by_kind kinds.IoError c of = never 1 (λ e. omega (arith, e)) (λ e. omega (arith, e)) (λ e. omega (arith, e)) c
    by_kind (kinds.ObjectStoreError e) c of = by_store e c of
    by_kind (kinds.ObjectUpdateTimeout timeout) c of = never 3 (λ e. omega (arith, e)) (λ e. omega (arith, e)) (λ e. omega (arith, e)) c
    by_kind kinds.LatestRecordMissing c of = never 4 (λ e. omega (arith, e)) (λ e. omega (arith, e)) (λ e. omega (arith, e)) c
    by_kind kinds.ObjectVersionExists c of = never 5 (λ e. omega (arith, e)) (λ e. omega (arith, e)) (λ e. omega (arith, e)) c
    by_kind kinds.Fenced c of = never 6 (λ e. omega (arith, e)) (λ e. omega (arith, e)) (λ e. omega (arith, e)) c
    by_kind kinds.InvalidObjectState c of = never 7 (λ e. omega (arith, e)) (λ e. omega (arith, e)) (λ e. omega (arith, e)) c
    by_kind (kinds.CallbackError error) c of = tt
    by_kind kinds.NoMemory c of = tt
    by_kind kinds.IdExhausted c of = never 10 (λ e. omega (arith, e)) (λ e. omega (arith, e)) (λ e. omega (arith, e)) c
    by_kind kinds.TurnsExhausted c of = absurd (never 11 (λ e. omega (arith, e)) (λ e. omega (arith, e)) (λ e. omega (arith, e)) c)

lifted : {T X : Type 0} (P : X × Turned (ReadAnswer T) → Type 0) (lacks : Bool) (old : X) (x : X × Turned (ReadAnswer T)) → P (old, Done (Err 9)) → P x → P (unless_lacking lacks old x)
lifted P true old x err told = err
lifted P false old x err told = told

-- fewer full pages than pages
fewer : (page n s g : ℕ) → s * page < n → n ≤ g * page → s < g
fewer page n s g less most = lt_of_mul-lt-mul_right page {m = s} {n = g} (omega (arith, less, most))

pub spent_fewer : (names : Names) (page : ℕ) (files : Files) (spent pages : ℕ) → HasSpent names page files spent → HasPages names page files pages → spent < pages
spent_fewer names page files spent pages (inl none) has = (let some = has.0 in omega (arith, none, some))
spent_fewer names page files spent pages (inr full) has = fewer page (length (files_below names files)) spent pages full has.1

module _ {T : Type 0} (names : Names) (page : ℕ) (room : 1 ≤ page) (decode : List ℕ → Option T) where
  -- what it leaves of the held versions where it lacks memory
  err_held : (files : Files) (first : List Cached) (spent calls : ℕ) (paged : Bool) (latest : List Cached) (op : LatestOp T) → Holds names page decode files first spent calls paged latest op → HasGrown names files first latest → HasGrown names files first (latest_window_after op latest (Done (Err 9)))
  err_held files first spent calls paged latest Looks at every = every
  err_held files first spent calls paged latest (Probes hand found next request) at every = every
  err_held files first spent calls paged latest (Finds successor found) at every = every
  err_held files first spent calls paged latest (Lists found request) at every = every
  err_held files first spent calls paged latest (Chooses greatest) at every = every
  err_held files first spent calls paged latest (Gets id request) at every = every
  err_held files first spent calls paged latest (Keeps version value) at every = grown_kept names files first version latest at.2 every
  err_held files first spent calls paged latest (Drops id) at every = absurd at
  err_held files first spent calls paged latest Ended at every = absurd at

  -- a step's calls are among those that are left
  few_calls : (files : Files) (first : List Cached) (spent calls : ℕ) (paged : Bool) (latest : List Cached) (op : LatestOp T) → Holds names page decode files first spent calls paged latest op → calls_of op ≤ calls_left paged op
  few_calls files first spent calls paged latest Looks at = omega arith
  few_calls files first spent calls paged latest (Probes hand found next request) at = (let few = at.2 in omega (arith, few))
  few_calls files first spent calls paged latest (Finds successor found) at = omega arith
  few_calls files first spent calls paged latest (Lists found request) at = omega arith
  few_calls files first spent calls paged latest (Chooses greatest) at = omega arith
  few_calls files first spent calls paged latest (Gets id request) at = omega arith
  few_calls files first spent calls paged latest (Keeps version value) at = omega arith
  few_calls files first spent calls paged latest (Drops id) at = absurd at
  few_calls files first spent calls paged latest Ended at = absurd at

  -- where a turn is due, so many pages are full, and another follows
  listing_full : (files : Files) (first : List Cached) (found : Option ℕ) (request : _) (spent : ℕ) (paged : Bool) → Listing {T = T} names page decode files first found request spent paged → one_if paged ≡ 1 → (spent + 1) * page < length (files_below names files)
  listing_full files first found request spent paged l one =
      let all : length (files_below names files) ≡ length l.seen + length l.rest = ap length l.split ∙ length-append l.seen l.rest in
      let full : length l.seen ≡ (spent + 1) * page = l.full ∙ ap (λ k. (spent + k) * page) one in
      let more = l.more in
      omega (arith, all, full, more, one)

  due_full : (files : Files) (first : List Cached) (spent calls : ℕ) (paged : Bool) (latest : List Cached) (op : LatestOp T) → Holds names page decode files first spent calls paged latest op → one_if (is_listing op && paged) ≡ 1 → (spent + 1) * page < length (files_below names files)
  due_full files first spent calls paged latest (Lists found request) at one = listing_full files first found request spent paged at.1 (sym (due_as paged) ∙ one)
  due_full files first spent calls paged latest Looks at one = absurd (let none = not_due paged in omega (arith, none, one))
  due_full files first spent calls paged latest (Probes hand found next request) at one = absurd (let none = not_due paged in omega (arith, none, one))
  due_full files first spent calls paged latest (Finds successor found) at one = absurd (let none = not_due paged in omega (arith, none, one))
  due_full files first spent calls paged latest (Chooses greatest) at one = absurd (let none = not_due paged in omega (arith, none, one))
  due_full files first spent calls paged latest (Gets id request) at one = absurd (let none = not_due paged in omega (arith, none, one))
  due_full files first spent calls paged latest (Keeps version value) at one = absurd (let none = not_due paged in omega (arith, none, one))
  due_full files first spent calls paged latest (Drops id) at one = absurd at
  due_full files first spent calls paged latest Ended at one = absurd at

  due_lists : (files : Files) (first : List Cached) (spent calls : ℕ) (paged : Bool) (latest : List Cached) (op : LatestOp T) → Holds names page decode files first spent calls paged latest op → one_if (is_listing op && paged) ≡ 1 → HasToList names files first
  due_lists files first spent calls paged latest (Lists found request) at one = at.0.0
  due_lists files first spent calls paged latest Looks at one = absurd (let none = not_due paged in omega (arith, none, one))
  due_lists files first spent calls paged latest (Probes hand found next request) at one = absurd (let none = not_due paged in omega (arith, none, one))
  due_lists files first spent calls paged latest (Finds successor found) at one = absurd (let none = not_due paged in omega (arith, none, one))
  due_lists files first spent calls paged latest (Chooses greatest) at one = at.0.0
  due_lists files first spent calls paged latest (Gets id request) at one = at.0.0
  due_lists files first spent calls paged latest (Keeps version value) at one = at.0.0
  due_lists files first spent calls paged latest (Drops id) at one = absurd at
  due_lists files first spent calls paged latest Ended at one = absurd at

  one_or_none : (b : Bool) → (one_if b ≡ 0) ⊎ (one_if b ≡ 1)
  one_or_none true = inr refl
  one_or_none false = inl refl

  spent_on : (files : Files) (first : List Cached) (spent calls : ℕ) (paged : Bool) (latest : List Cached) (op : LatestOp T) → Holds names page decode files first spent calls paged latest op → HasSpent names page files spent → HasSpent names page files (spent + one_if (is_listing op && paged))
  spent_on files first spent calls paged latest op at has =
      elim (one_or_none (is_listing op && paged)) [
        | inl none ↦ subst (HasSpent names page files) (let same : spent ≡ spent + one_if (is_listing op && paged) = omega (arith, none) in same) has
        | inr one ↦ subst (HasSpent names page files) (let same : spent + 1 ≡ spent + one_if (is_listing op && paged) = omega (arith, one) in same) (inr (due_full files first spent calls paged latest op at one))
      ]

  module _ (old mid : State) (turns turns' : ℕ) (first latest : List Cached) (paged : Bool) (op : LatestOp T) (r : Running names page decode old mid turns turns' first latest paged op) where
    -- no turn is left for the page that is due
    pub spent : (paged' : Bool) (turns'' : ℕ) → Pays (is_listing op) paged paged' turns' turns'' false → ReadEnded names page decode old mid turns turns'' first latest (Err kinds.TurnsExhausted)
    spent paged' turns'' (due, had, has) =
        let s = r.spent_is in
        let c = r.calls_are in
        let m = r.calls_most in
        record {
          kept = r.kept;
          spends = spends_none 1 6 turns turns'' old mid r.kept (omega (arith, has)) (omega (arith, c)) (omega (arith, c, m, s, has, had)) r.failures_rise;
          cause = has;
          pages = λ pages p. (let f = spent_fewer names page old.files r.spent pages r.has_spent p in omega (arith, f, s, has, had));
          exhausted = λ is. (due_lists old.files first r.spent r.calls paged latest op r.holds due, (let full = due_full old.files first r.spent r.calls paged latest op r.holds due in let e : turns ≡ r.spent = omega (arith, s, had) in subst (λ n. (n + 1) * page < length (files_below names old.files)) (sym e) full));
          enough = λ pages p some is. (let f = fewer page (length (files_below names old.files)) (r.spent + 1) pages (due_full old.files first r.spent r.calls paged latest op r.holds due) p.1 in omega (arith, f, s, had, some));
          refused = λ number. absurd (omega (arith, number));
          grown = r.grown;
          calls = r.calls;
          calls_are = r.calls_are;
          spent = r.spent;
          spent_is = (omega (arith, s, had, has));
          answer = tt;
          stands = λ h b stand fits. record {
            files = subst (λ f. FilesStand names decode f h b) (sym r.kept.files) stand;
            window = window_stands names decode old.files h b stand first fits latest (grown_every names old.files first latest r.grown);
            answer = tt;
            at_most = λ from greatest is. (let few = newest_few names decode old.files h b stand first fits page r.spent r.calls paged latest op r.holds from greatest is in omega (arith, few, c));
            at_newest = λ from greatest is. tt;
          };
        }

    module _ (new : State) (turns'' : ℕ) (latest' : List Cached) (paged' : Bool) (op' : LatestOp T) (paid : Pays (is_listing op) paged paged' turns' turns'' true) where
      abbrev due : ℕ
      due = one_if (is_listing op && paged)

      abbrev spent' : ℕ
      spent' = r.spent + due

      abbrev calls' : ℕ
      calls' = r.calls + calls_of op

      abbrev Left : LatestOp T × Turned (ReadAnswer T) → Type 0
      Left = Leaves names page room decode old.files first r.ascending r.small (latest_window_after op latest) spent' calls' paged' (steps_left paged op + 16 * due) (6 + spent')

      module _ (told : Turned (Result (Option (ℕ × T)) TransactionalObjectError)) (s : IsStep names page decode mid new latest latest' op op' told) where
        move : Moved names page room decode old.files first r.ascending r.small mid new r.kept.files op latest spent' calls' paged paged' s.reply
        move = moved names page room decode old.files first r.ascending r.small mid new r.kept.files op latest s.reply r.spent spent' r.calls calls' paged paged' r.holds r.grown s.replied refl paid.1 refl r.calls_most

        leaves : Left (op', turned_by_number told)
        leaves = subst Left (sym s.turned) (lifted Left s.lacks op (latest_turned names page decode op latest s.reply) (err_held old.files first r.spent r.calls paged latest op r.holds r.grown, λ e. absurd (omega (arith, e))) move.0)

        fails : LatestFails mid new (reply_told s.reply) (op', turned_by_number told)
        fails = subst (LatestFails mid new (reply_told s.reply)) (sym s.turned) (lifted (LatestFails mid new (reply_told s.reply)) s.lacks op (latest_turned names page decode op latest s.reply) (inr (inr refl)) move.1)

        kept' : Kept old new
        kept' = kept_on old mid new r.kept move.2.kept

        made : new.calls ≡ old.calls + calls'
        made = (let a = r.calls_are in let b = move.2.calls_are in omega (arith, a, b))

        spent_is' : turns ≡ turns'' + spent'
        spent_is' = (let a = r.spent_is in let b = paid.0 in omega (arith, a, b))

        failures' : old.failures ≤ new.failures
        failures' = (let a = r.failures_rise in let b = move.2.failures_rise in omega (arith, a, b))

        has_spent' : HasSpent names page old.files spent'
        has_spent' = spent_on old.files first r.spent r.calls paged latest op r.holds r.has_spent

      -- it goes on
      pub goes_on : IsStep names page decode mid new latest latest' op op' Goes → Running names page decode old new turns turns'' first latest' paged' op'
      goes_on s =
          let l = leaves Goes s in
          record {
            ascending = r.ascending;
            small = r.small;
            kept = kept' Goes s;
            spent = spent';
            spent_is = spent_is' Goes s;
            has_spent = has_spent' Goes s;
            calls = calls';
            calls_are = made Goes s;
            calls_most = l.2;
            failures_rise = failures' Goes s;
            grown = subst (HasGrown names old.files first) (sym s.left) l.0.1;
            holds = subst (λ window. Holds names page decode old.files first spent' calls' paged' window op') (sym s.left) l.0.0;
          }

      pub less : IsStep names page decode mid new latest latest' op op' Goes → 16 * turns'' + steps_left paged' op' < 16 * turns' + steps_left paged op
      less s = let l = leaves Goes s in let lt = l.1 in let p = paid.0 in omega (arith, lt, p)

      -- it ends
      module _ (answer : Result (Option (ℕ × T)) TransactionalObjectError) (s : IsStep names page decode mid new latest latest' op op' (Done answer)) where
        within : calls' ≤ 6 + spent'
        within = (let a = r.calls_most in let b = few_calls old.files first r.spent r.calls paged latest op r.holds in omega (arith, a, b))

        ended_with : HasGrown names old.files first latest' → IfErr answer (λ error. error_number error ≡ 8 → IsRefused names decode old.files first) → IfErr answer (HasCauseOfRead turns'' old new) → (IsErrOf answer kinds.TurnsExhausted → ⊥) → IfOk answer (IsAnswer names decode old.files first spent' calls' latest')
            → ((h : List T) (b : ℕ) → FilesStand names decode old.files h b → WindowFits decode h b first → IfOk answer (AnswersOf h b first latest') × ((from : Cached) → greatest_held first ≡ Some from → from.id ≡ length h → IfOk answer (λ _. ((from.id + 1 ≡ 2 ^ 64) × (new.calls ≡ old.calls)) ⊎ ((from.id + 1 < 2 ^ 64) × (new.calls ≡ old.calls + 1)))))
            → ReadEnded names page decode old new turns turns'' first latest' answer
        ended_with grown refused cause enough is stands =
            let m = made (Done answer) s in
            let t = spent_is' (Done answer) s in
            record {
              kept = kept' (Done answer) s;
              spends = spends_none 1 6 turns turns'' old new (kept' (Done answer) s) (omega (arith, t)) (omega (arith, m)) (let w = within in omega (arith, w, m, t)) (failures' (Done answer) s);
              cause = cause;
              pages = λ pages p. (let f = spent_fewer names page old.files spent' pages (has_spent' (Done answer) s) p in omega (arith, f, t));
              exhausted = λ is. absurd (enough is);
              enough = λ pages p some. enough;
              refused = refused;
              grown = grown;
              calls = calls';
              calls_are = m;
              spent = spent';
              spent_is = t;
              answer = is;
              stands = λ h b stand fits. record {
                files = subst (λ f. FilesStand names decode f h b) (sym (kept' (Done answer) s).files) stand;
                window = window_stands names decode old.files h b stand first fits latest' (grown_every names old.files first latest' grown);
                answer = (stands h b stand fits).0;
                at_most = λ from greatest is. (let few = newest_few names decode old.files h b stand first fits page r.spent r.calls paged latest op r.holds from greatest is in omega (arith, few, m));
                at_newest = (stands h b stand fits).1;
              };
            }

      not_turns : (told : Option StoreError) (error : TransactionalObjectError) → NumberCause mid new told (error_number error) → IsErrOf {T = Option (ℕ × T)} (Err error) kinds.TurnsExhausted → ⊥
      not_turns told error cause is =
          let same : error ≡ kinds.TurnsExhausted = cc in
          let number : error_number error ≡ 11 = ap error_number same in
          elim cause [ inl (two, of) ↦ omega (arith, two, number) | inr other ↦ elim other [ inl eight ↦ omega (arith, eight, number) | inr nine ↦ omega (arith, nine, number) ] ]

      at_newest : (answer : Option (ℕ × T)) → (s : IsStep names page decode mid new latest latest' op op' (Done (Ok answer))) → (from : Cached) → ((from.id + 1 ≡ 2 ^ 64) × (calls' ≡ 0)) ⊎ ((from.id + 1 < 2 ^ 64) × (calls' ≡ 1)) → ((from.id + 1 ≡ 2 ^ 64) × (new.calls ≡ old.calls)) ⊎ ((from.id + 1 < 2 ^ 64) × (new.calls ≡ old.calls + 1))
      at_newest answer s from (inl (top, none)) = inl (top, (let m = made (Done (Ok answer)) s in omega (arith, m, none)))
      at_newest answer s from (inr (more, one)) = inr (more, (let m = made (Done (Ok answer)) s in omega (arith, m, one)))

      pub ended : (answer : Result (Option (ℕ × T)) TransactionalObjectError) → IsStep names page decode mid new latest latest' op op' (Done answer) → ReadEnded names page decode old new turns turns'' first latest' answer
      ended (Ok answer) s =
          let l = leaves (Done (Ok answer)) s in
          let is : IsAnswer names decode old.files first spent' calls' latest' answer = subst (λ window. IsAnswer names decode old.files first spent' calls' window answer) (sym s.left) l.0 in
          ended_with (Ok answer) s (subst (HasGrown names old.files first) (sym s.left) l.1) tt tt (λ e. cc) is
          (λ h b stand fits. (answer_stands names decode old.files h b stand first fits spent' calls' latest' answer is, λ from greatest newest. at_newest answer s from (newest_calls names decode old.files h b stand first fits spent' calls' latest' answer is from greatest newest)))
      ended (Err error) s =
          let l = leaves (Done (Err error)) s in
          let f = fails (Done (Err error)) s in
          ended_with (Err error) s (subst (HasGrown names old.files first) (sym s.left) l.0) l.1 (cause_of turns'' old mid new (reply_told s.reply) error r.failures_rise f s.store_error) (not_turns (reply_told s.reply) error f) tt
          (λ h b stand fits. (tt, λ from greatest newest. tt))

-- it begins with a look
pub begins : {T : Type 0} (names : Names) (page : ℕ) (decode : List ℕ → Option T) (store : State) (turns : ℕ) (first : List Cached) (op : LatestOp T) → Ascends first → IfSome (greatest_held first) (λ version. version.id < 2 ^ 64) → op ≡ Looks → Running names page decode store store turns turns first first false op
begins names page decode store turns first op ascending small is = rw is (record {
  ascending = ascending;
  small = small;
  kept = record { files = refl; given = refl; left = refl };
  spent = 0;
  spent_is = omega arith;
  has_spent = inl refl;
  calls = 0;
  calls_are = omega arith;
  calls_most = omega arith;
  failures_rise = omega arith;
  grown = grown_none names store.files first;
  holds = (refl, refl, refl, refl);
})

-- or with what its first look led to
looked_on : {T : Type 0} (names : Names) (page : ℕ) (decode : List ℕ → Option T) (store : State) (first : List Cached) (op : LatestOp T) → (op, Goes) ≡ latest_turned names page decode Looks first None → IsStep names page decode store store first first Looks op Goes
looked_on names page decode store first op is = record { reply = None; replied = refl; lacks = false; turned = is; left = refl; store_error = tt }

begun_as : {T : Type 0} (names : Names) (page : ℕ) (decode : List ℕ → Option T) (found : Option Cached) (op : LatestOp T) → op ≡ latest_begun names page found → (op ≡ Looks) ⊎ ((op, Goes) ≡ begins_with names page decode Looks found)
begun_as names page decode None op is = inr (ap (λ (o : LatestOp _). (o, Goes)) is)
begun_as {T} names page decode (Some hand) op is = by (hand.id == 18446744073709551615) is
  where
    asks : LatestOp T
    asks = Probes hand 0 (hand.id + 1) (version_got names (hand.id + 1))

    by : (b : Bool) → op ≡ (if b then Looks else asks) → (op ≡ Looks) ⊎ ((op, Goes) ≡ (if b then answered decode Looks hand else (asks, Goes)))
    by true same = inl same
    by false same = inr (ap (λ (o : LatestOp T). (o, Goes)) same)

pub begun : {T : Type 0} (names : Names) (page : ℕ) (room : 1 ≤ page) (decode : List ℕ → Option T) (store : State) (turns : ℕ) (first : List Cached) (op : LatestOp T) → Ascends first → IfSome (greatest_held first) (λ version. version.id < 2 ^ 64) → op ≡ latest_begun names page (greatest_held first) → Running names page decode store store turns turns first first false op
begun names page room decode store turns first op ascending small is =
    elim (begun_as names page decode (greatest_held first) op is) [
      | inl looks ↦ begins names page decode store turns first op ascending small looks
      | inr on ↦ goes_on names page room decode store store turns turns first first false Looks (begins names page decode store turns first Looks ascending small refl) store turns first false op (omega arith, refl) (looked_on names page decode store first op on)
    ]
