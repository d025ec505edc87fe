-- An advance that nothing disturbs: where its put comes too late, it reads the boundary, and its next put is in time.
use Rattle.std.proofs.Common.{◌≡◌, ℕ, ◌+◌, ◌≤◌, ◌==◌, nat_lt, Bool, true, false, List, Option, Some, None, Ok, Err, Result, ◌⊎◌, inl, inr, refl, sym, ◌∙◌, ap, subst, arith}
use Rattle.std.specs.FinMap.{get}
use Rattle.std.proofs.lemmas.Bool.{cases_Bool, ltb-true, eq-eqb}
use Rattle.std.proofs.lemmas.Option.{same_Some}
use Rattle.txn_store.specs.Paths.{Segments}
use Rattle.txn_store.specs.Store.{State as StoreState, Gets, Puts, update_fault}
use Rattle.txn_store.specs.Requests.{Serves}
use Rattle.txn_store.specs.declared.store.Got.{Got}
use Rattle.txn_store.specs.declared.store.PutMode.TheVariants.{Create, Update}
use Rattle.txn_store.specs.declared.store.StoreError.{StoreError}
use Rattle.txn_store.specs.declared.store.StoreError.TheVariants as errors
use Rattle.std.specs.Fmt.{decimal}
use Rattle.txn_store.specs.declared.request.Request.{Request}
use Rattle.txn_store.specs.declared.request.Request.TheVariants as requests
use Rattle.txn_store.specs.declared.request.Reply.{Reply}
use Rattle.txn_store.specs.declared.request.Reply.TheVariants as replies
use Rattle.txn_store.specs.types.BoundaryText.{boundary_read}
use Rattle.txn_steps.specs.declared.boundary.boundary_read.BoundaryRead.{BoundaryRead}
use Rattle.txn_steps.specs.declared.boundary.boundary_read.BoundaryRead.TheVariants as reading
use Rattle.txn_steps.specs.declared.boundary.advance.BoundaryAdvance.{BoundaryAdvance}
use Rattle.txn_steps.specs.declared.boundary.advance.BoundaryAdvance.TheVariants as raising
use Rattle.txn_steps.specs.declared.boundary.caches.CachedBoundary.{CachedBoundary}
use Rattle.txn_steps.specs.declared.boundary.turned.Turned.{Turned}
use Rattle.txn_steps.specs.declared.boundary.turned.Turned.TheVariants.{Goes, Done}
use Rattle.txn_steps.specs.boundary.Boundaries.{Known, known_pair, token_of, greater_known}
use Rattle.txn_steps.specs.boundary.BoundaryReads.{text_read, boundary_got, boundary_held, boundary_turned, boundary_cached, boundary_read_asked, IsBoundaryReply}
use Rattle.txn_steps.specs.boundary.BoundaryAdvances.{putting, raise_known, advance_looked, put_answered, advance_read, asks_put, boundary_advance_turned, boundary_advance_cached, boundary_advance_asked, IsBoundaryAdvanceReply}
use Rattle.txn_steps.specs.boundary.Counts.{boundary_budget}
use Rattle.txn_history.specs.Trace.{PlainRow}
use Rattle.txn_history.specs.Names.{world_boundary}
use Rattle.txn_history.specs.History.{boundary}
use Rattle.txn_machine.proofs.plain.Faults.{get_missing, get_same}
use Rattle.txn_machine.proofs.plain.Stands.{get_boundary, raise, KnownFits, ReadingStands, PutStands, RaiseStands, KnowStands}
use Rattle.txn_world.proofs.finishing.Unheld.{UnheldRaise, create_fair}

abbrev pub boundary_sum : BoundaryRead → ℕ
boundary_sum read = (boundary_budget read).looks + (boundary_budget read).calls

-- of this try: with a boundary in hand a look, a put, and two looks after it; without one a read before them
abbrev looks_cost : Option CachedBoundary → ℕ
looks_cost None = 7
looks_cost (Some known) = 4

abbrev pub raise_cost : Option CachedBoundary → BoundaryAdvance → ℕ
raise_cost cached (raising.Looks t) = looks_cost cached
raise_cost cached (raising.Reads t true read) = boundary_sum read + 4
raise_cost cached (raising.Reads t false read) = boundary_sum read + 3
raise_cost cached (raising.Puts t request) = 3
raise_cost cached (raising.Keeps t token) = 2

-- the file has this token
abbrev HasToken : Option Got → ℕ → Type 0
HasToken file token = (got : Got) × (file ≡ Some got) × (got.token ≡ token)

-- what is known of the boundary is that of the file
abbrev Current : Option Got → Option CachedBoundary → Type 0
Current file None = Unit {0}
Current file (Some known) = HasToken file known.token

abbrev SureRead : Option Got → Option CachedBoundary → BoundaryRead → Type 0
SureRead file cached (reading.Looks path) = Unit {0}
SureRead file cached (reading.Gets request) = request ≡ get_boundary (token_of cached)
SureRead file cached (reading.Holds (Some known)) = HasToken file known.token
SureRead file cached (reading.Holds None) = (known : CachedBoundary) × (cached ≡ Some known) × HasToken file known.token

-- its put will be in time
abbrev pub Sure : Option Got → Option CachedBoundary → BoundaryAdvance → Type 0
Sure file cached (raising.Looks t) = Current file cached
Sure file cached (raising.Reads t again read) = SureRead file cached read
Sure file cached (raising.Puts t request) = ((request ≡ raise t None) × (file ≡ None)) ⊎ ((got : Got) × (file ≡ Some got) × (request ≡ raise t (Some got.token)))
Sure file cached (raising.Keeps t token) = Unit {0}

-- where it will come too late: that put, a read and a look more
abbrev pub RaiseLeft : Option Got → Option CachedBoundary → BoundaryAdvance → ℕ → Type 0
RaiseLeft file cached op n = (Sure file cached op × (raise_cost cached op ≤ n)) ⊎ (raise_cost cached op + 5 ≤ n)

abbrev pub RaiseOn : Option Got → Option CachedBoundary → ℕ → BoundaryAdvance × Turned (Result (Unit {0}) ℕ) → Type 0
RaiseOn file cached n (op, Goes) = (rest : ℕ) × (rest + 1 ≤ n) × RaiseLeft file cached op rest
RaiseOn file cached n (op, Done (Ok done)) = 2 ≤ n
RaiseOn file cached n (op, Done (Err number)) = Unit {0}

-- goes on in this try, where this much less is left
on_try : (file : Option Got) (cached : Option CachedBoundary) (n cost : ℕ) (op : BoundaryAdvance) → raise_cost cached op + 1 ≤ cost → (Sure file cached op × (cost ≤ n)) ⊎ (cost + 5 ≤ n) → RaiseOn file cached n (op, Goes)
on_try file cached n cost op less h =
    elim h [
      | inl sure ↦ (let most = sure.1 in (raise_cost cached op, omega (arith, less, most), inl (sure.0, omega arith)))
      | inr more ↦ (raise_cost cached op + 5, omega (arith, less, more), inr (omega arith))
    ]

-- with the boundary known
known_on : (file : Option Got) (cached : Option CachedBoundary) (n cost target : ℕ) (op : BoundaryAdvance) (known : Known) → 4 ≤ cost → (((known.1 ≡ None) × (file ≡ None)) ⊎ ((token : ℕ) × (known.1 ≡ Some token) × HasToken file token)) × (cost ≤ n) ⊎ (cost + 5 ≤ n) →
    RaiseOn file cached n (raise_known world_boundary op target known)
known_on file cached n cost target op known four h =
    elim (cases_Bool (nat_lt known.0 target)) [
      | inl less ↦ rw less (on_try file cached n cost (putting world_boundary target known.1) (omega (arith, four)) (elim h [
        | inl sure ↦ inl (
          elim sure.0 [
            | inl none ↦ inl (ap (raise target) none.0, none.1)
            | inr some ↦ inr (some.2.0, some.2.1, ap (raise target) (some.1 ∙ ap Some (sym some.2.2)))
          ],
          sure.1,
        )
        | inr more ↦ inr more
      ]))
      | inr not ↦ rw not (elim h [ inl sure ↦ (let most = sure.1 in omega (arith, four, most)) | inr more ↦ omega (arith, four, more) ])
    ]

-- the greater of two, where the second is not below the first
takes_known : (cached : Option CachedBoundary) (known : CachedBoundary) → ((held : CachedBoundary) → cached ≡ Some held → held.number ≤ known.number) → greater_known cached known ≡ known
takes_known None known le = refl
takes_known (Some held) known le = elim (cases_Bool (nat_lt known.number held.number)) [ inl less ↦ absurd (let lt = ltb-true known.number held.number less in let below = le held refl in omega (arith, lt, below)) | inr not ↦ rw not refl ]

module _ {T : Type 0} (decode : List ℕ → Option T) (get_epoch : T → ℕ) (failed : List ℕ) (rows : List (PlainRow T)) (store new : StoreState) (k : KnowStands decode get_epoch failed rows store) (cached : Option CachedBoundary) (fits : KnownFits rows store cached) (unraised : get store.files world_boundary ≡ None → cached ≡ None) where
  abbrev file : Option Got
  file = get store.files world_boundary

  -- what is known is at most the boundary
  at_most_boundary : (c : Option CachedBoundary) → KnownFits rows store c → (held : CachedBoundary) → c ≡ Some held → held.number ≤ boundary rows
  at_most_boundary None f held e = cc
  at_most_boundary (Some known) f held e = (let same = ap (λ (x : CachedBoundary). x.number) (same_Some known held e) in let below = f.below in omega (arith, same, below))

  -- a look at what is cached
  looked_on : (n target : ℕ) (op : BoundaryAdvance) (c : Option CachedBoundary) → (Current file c × (looks_cost c ≤ n)) ⊎ (looks_cost c + 5 ≤ n) → RaiseOn file c n (advance_looked world_boundary op target c)
  looked_on n target op None h = on_try file None n 7 (raising.Reads target false (reading.Looks world_boundary)) (omega arith) (elim h [ inl sure ↦ inl (tt, sure.1) | inr more ↦ inr more ])
  looked_on n target op (Some known) h = known_on file (Some known) n 4 target op (known_pair known) (omega arith) (elim h [ inl sure ↦ inl (inr (known.token, refl, sure.0), sure.1) | inr more ↦ inr more ])

  -- its read of the boundary

  abbrev Now : Known → Type 0
  Now known = ((known.1 ≡ None) × (file ≡ None)) ⊎ ((token : ℕ) × (known.1 ≡ Some token) × HasToken file token)

  -- the boundary of the file is cached, where it has one
  abbrev Kept : Option CachedBoundary → Type 0
  Kept after = ((after ≡ None) × (file ≡ None)) ⊎ ((known : CachedBoundary) × (after ≡ Some known) × HasToken file known.token)

  abbrev SureReadOn : Option CachedBoundary → BoundaryRead × Turned (Result Known ℕ) → Type 0
  SureReadOn after (read, Goes) = SureRead file after read
  SureReadOn after (read, Done (Ok known)) = Now known × Kept after
  SureReadOn after (read, Done (Err number)) = Unit {0}

  abbrev SumOn : ℕ → BoundaryRead × Turned (Result Known ℕ) → Type 0
  SumOn m (read, Goes) = boundary_sum read + 1 ≤ m
  SumOn m (read, Done answer) = 1 ≤ m

  got_on : (request : Request) (answer : Result Got StoreError) → Gets world_boundary (token_of cached) store answer new → SureReadOn cached (boundary_got (reading.Gets request) answer)
  got_on request (Ok got) s = text_on (boundary_read got.bytes) (k.files.says got s.found)
    where
      text_on : (said : Option ℕ) → said ≡ Some (boundary rows) → SureReadOn cached (text_read (reading.Gets request) got.token said)
      text_on None e = cc
      text_on (Some number) e = (got, s.found, refl)
  got_on request (Err errors.NotFound) s =
      let none = get_missing (token_of cached) file s.err.0 in
      (inl (refl, none), inl (unraised none, none))
  got_on request (Err errors.NotModified) s = by cached refl
    where
      by : (c : Option CachedBoundary) → cached ≡ c → (known : CachedBoundary) × (cached ≡ Some known) × HasToken file known.token
      by None e = (
          let same = get_same (token_of cached) file s.err.0 in
          let clash : None ≡ Some same.got.token = sym (ap token_of e) ∙ same.sent in
          cc
          )
      by (Some known) e =
          let same = get_same (token_of cached) file s.err.0 in
          let sent : Some known.token ≡ Some same.got.token = sym (ap token_of e) ∙ same.sent in
          (known, e, (same.got, same.there, sym (same_Some known.token same.got.token sent)))
  got_on request (Err errors.Failed) s = tt
  got_on request (Err errors.NoMemory) s = tt
  got_on request (Err errors.TokensExhausted) s = tt
  got_on request (Err errors.AlreadyExists) s = tt
  got_on request (Err errors.Precondition) s = tt

  got_sum : (request : Request) (answer : Result Got StoreError) → SumOn 2 (boundary_got (reading.Gets request) answer)
  got_sum request (Ok got) = text_sum (boundary_read got.bytes)
    where
      text_sum : (said : Option ℕ) → SumOn 2 (text_read (reading.Gets request) got.token said)
      text_sum None = omega arith
      text_sum (Some number) = omega arith
  got_sum request (Err errors.NotFound) = omega arith
  got_sum request (Err errors.NotModified) = omega arith
  got_sum request (Err errors.Failed) = omega arith
  got_sum request (Err errors.NoMemory) = omega arith
  got_sum request (Err errors.TokensExhausted) = omega arith
  got_sum request (Err errors.AlreadyExists) = omega arith
  got_sum request (Err errors.Precondition) = omega arith

  held_sum : (op : BoundaryRead) (known : Option CachedBoundary) (c : Option CachedBoundary) → SumOn 1 (boundary_held op known c)
  held_sum op (Some known) c = omega arith
  held_sum op None (Some held) = omega arith
  held_sum op None None = omega arith

  read_sum : (read : BoundaryRead) (reply : Option Reply) → IsBoundaryReply read reply → SumOn (boundary_sum read) (boundary_turned read cached reply)
  read_sum (reading.Looks path) reply is = omega arith
  read_sum (reading.Gets request) (Some (replies.Get answer)) is = got_sum request answer
  read_sum (reading.Gets request) (Some (replies.Put answer)) is = absurd is
  read_sum (reading.Gets request) (Some (replies.List answer)) is = absurd is
  read_sum (reading.Gets request) (Some (replies.Delete answer)) is = absurd is
  read_sum (reading.Gets request) None is = absurd is
  read_sum (reading.Holds known) reply is = held_sum (reading.Holds known) known cached

  sure_read : (read : BoundaryRead) (reply : Option Reply) → ReadingStands rows store cached 0 ⊥ read → IsBoundaryReply read reply → ((request : Request) (told : Reply) → reply ≡ Some told → boundary_read_asked read ≡ Some request → Serves request store told new) → SureRead file cached read →
      SureReadOn (boundary_cached read cached) (boundary_turned read cached reply)
  sure_read (reading.Looks path) reply h is serves s = ap (λ (p : Segments). requests.Get p (token_of cached)) h.0
  sure_read (reading.Gets request) (Some (replies.Get answer)) h is serves s = got_on request answer (subst (λ (r : Request). Serves r store (replies.Get answer) new) s (serves request (replies.Get answer) refl refl))
  sure_read (reading.Gets request) (Some (replies.Put answer)) h is serves s = absurd is
  sure_read (reading.Gets request) (Some (replies.List answer)) h is serves s = absurd is
  sure_read (reading.Gets request) (Some (replies.Delete answer)) h is serves s = absurd is
  sure_read (reading.Gets request) None h is serves s = absurd is
  sure_read (reading.Holds (Some known)) reply h is serves s =
      let number_is : known.number ≡ boundary rows = h.0.same s.0 s.1 s.2 in
      let takes : greater_known cached known ≡ known = takes_known cached known (λ held e. (let below = at_most_boundary cached fits held e in omega (arith, below, number_is))) in (
        inr (known.token, ap (λ (c : CachedBoundary). Some c.token) takes, s),
        inr (known, ap Some takes, s),
      )
  sure_read (reading.Holds None) reply h is serves s = subst (λ (c : Option CachedBoundary). SureReadOn c (boundary_held (reading.Holds None) None c)) (sym s.1) (inr (s.0.token, refl, s.2), inr (s.0, refl, s.2))

  -- a read anew is followed by a look
  looks_on : (target : ℕ) (after : Option CachedBoundary) (n sum : ℕ) → 1 ≤ sum → (file ≡ None → ⊥) → (Kept after × (sum + 4 ≤ n)) ⊎ (sum + 4 + 5 ≤ n) → RaiseOn file after n (raising.Looks target, Goes)
  looks_on target None n sum some there h =
      elim h [
        | inl sure ↦ absurd (elim sure.0 [ inl none ↦ there none.1 | inr known ↦ (let clash : None ≡ Some known.0 = known.1 in cc) ])
        | inr more ↦ (7, omega (arith, some, more), inl (tt, omega arith))
      ]
  looks_on target (Some held) n sum some there h =
      elim h [
        | inl sure ↦ (
          4,
          (let most = sure.1 in omega (arith, some, most)),
          inl (
            elim sure.0 [
              | inl none ↦ absurd (there none.1)
              | inr known ↦ subst (λ (c : CachedBoundary). HasToken file c.token) (sym (same_Some held known.0 known.1)) known.2
            ],
            omega arith,
          ),
        )
        | inr more ↦ (9, omega (arith, some, more), inr (omega arith))
      ]

  -- a turn of the read, within the raise
  reads_on : (target : ℕ) (again : Bool) (read : BoundaryRead) (n : ℕ) (after : Option CachedBoundary) (told : BoundaryRead × Turned (Result Known ℕ)) → SumOn (boundary_sum read) told → (again ≡ true → file ≡ None → ⊥) → (SureReadOn after told × (raise_cost cached (raising.Reads target again read) ≤ n)) ⊎ (raise_cost cached (raising.Reads target again read) + 5 ≤ n) →
      RaiseOn file after n (advance_read world_boundary target again told)
  reads_on target true read n after (next, Goes) sum there h = on_try file after n (boundary_sum read + 4) (raising.Reads target true next) (omega (arith, sum)) h
  reads_on target false read n after (next, Goes) sum there h = on_try file after n (boundary_sum read + 3) (raising.Reads target false next) (omega (arith, sum)) h
  reads_on target true read n after (next, Done (Ok known)) sum there h = looks_on target after n (boundary_sum read) sum (there refl) (elim h [ inl sure ↦ inl (sure.0.1, sure.1) | inr more ↦ inr more ])
  reads_on target false read n after (next, Done (Ok known)) sum there h = known_on file after n (boundary_sum read + 3) target (raising.Reads target false next) known (omega (arith, sum)) (elim h [ inl sure ↦ inl (sure.0.0, sure.1) | inr more ↦ inr more ])
  reads_on target true read n after (next, Done (Err number)) sum there h = tt
  reads_on target false read n after (next, Done (Err number)) sum there h = tt

  -- its put

  too_late : (now : Option Got) (after : Option CachedBoundary) (n target : ℕ) → 3 + 5 ≤ n → RaiseOn now after n (raising.Reads target true (reading.Looks world_boundary), Goes)
  too_late now after n target enough = (7, omega (arith, enough), inl (tt, omega arith))

  update_fair : (found : Option Got) (got : Got) (error : StoreError) → found ≡ Some got → update_fault got.token found ≡ Some error → ⊥
  update_fair None got error e fault = cc
  update_fair (Some own) got error e fault =
      let is : own ≡ got = same_Some own got e in
      let same : (own.token == got.token) ≡ true = eq-eqb own.token got.token (ap (λ (g : Got). g.token) is) in
      let none : update_fault got.token (Some own) ≡ None = rw same refl in
      let clash : None ≡ Some error = sym none ∙ fault in
      cc

  put_on : (now : Option Got) (after : Option CachedBoundary) (target n : ℕ) (request : Request) (answer : Result ℕ StoreError) → PutStands rows store target request → Serves request store (replies.Put answer) new → RaiseLeft file cached (raising.Puts target request) n →
      RaiseOn now after n (put_answered world_boundary (raising.Puts target request) target answer)
  put_on now after target n request (Ok token) p serves h = elim h [ inl sure ↦ (let most = sure.1 in (2, omega (arith, most), inl (tt, omega arith))) | inr more ↦ (2, omega (arith, more), inl (tt, omega arith)) ]
  put_on now after target n request (Err errors.AlreadyExists) p serves h =
      elim h [
        | inr more ↦ too_late now after n target more
        | inl sure ↦ absurd (elim sure.0 [
          | inl none ↦ (let s : Puts world_boundary (decimal target) Create store (Err errors.AlreadyExists) new = subst (λ (q : Request). Serves q store (replies.Put (Err errors.AlreadyExists)) new) none.0 serves in create_fair file errors.AlreadyExists none.1 s.err.0)
          | inr some ↦ (let s : Puts world_boundary (decimal target) (Update some.0.token) store (Err errors.AlreadyExists) new = subst (λ (q : Request). Serves q store (replies.Put (Err errors.AlreadyExists)) new) some.2 serves in update_fair file some.0 errors.AlreadyExists some.1 s.err.0)
        ])
      ]
  put_on now after target n request (Err errors.Precondition) p serves h =
      elim h [
        | inr more ↦ too_late now after n target more
        | inl sure ↦ absurd (elim sure.0 [
          | inl none ↦ (let s : Puts world_boundary (decimal target) Create store (Err errors.Precondition) new = subst (λ (q : Request). Serves q store (replies.Put (Err errors.Precondition)) new) none.0 serves in create_fair file errors.Precondition none.1 s.err.0)
          | inr some ↦ (let s : Puts world_boundary (decimal target) (Update some.0.token) store (Err errors.Precondition) new = subst (λ (q : Request). Serves q store (replies.Put (Err errors.Precondition)) new) some.2 serves in update_fair file some.0 errors.Precondition some.1 s.err.0)
        ])
      ]
  put_on now after target n request (Err errors.NotFound) p serves h = tt
  put_on now after target n request (Err errors.NotModified) p serves h = tt
  put_on now after target n request (Err errors.Failed) p serves h = tt
  put_on now after target n request (Err errors.NoMemory) p serves h = tt
  put_on now after target n request (Err errors.TokensExhausted) p serves h = tt

  -- a turn of the raise
  pub raise_step : (now : Option Got) (op : BoundaryAdvance) (target n : ℕ) (reply : Option Reply) → RaiseStands rows store cached target op → IsBoundaryAdvanceReply op reply → ((request : Request) (told : Reply) → reply ≡ Some told → boundary_advance_asked op ≡ Some request → Serves request store told new) → (asks_put op ≡ false → now ≡ file) → (file ≡ None → UnheldRaise op) → RaiseLeft file cached op n →
      RaiseOn now (boundary_advance_cached op cached) n (boundary_advance_turned world_boundary op cached reply)
  raise_step now (raising.Looks t) target n reply h is serves same first l = subst (λ (f : Option Got). RaiseOn f cached n (advance_looked world_boundary (raising.Looks t) t cached)) (sym (same refl)) (looked_on n t (raising.Looks t) cached l)
  raise_step now (raising.Reads t again read) target n reply h is serves same first l =
      let sum = read_sum read reply is in
      let there : again ≡ true → file ≡ None → ⊥ = λ anew none. subst (λ (b : Bool). UnheldRaise (raising.Reads t b read)) anew (first none) in
      subst (λ (f : Option Got). RaiseOn f (boundary_cached read cached) n (advance_read world_boundary t again (boundary_turned read cached reply))) (sym (same refl))
      (reads_on t again read n (boundary_cached read cached) (boundary_turned read cached reply) sum there (elim l [ inl sure ↦ inl (sure_read read reply h.1 is serves sure.0, sure.1) | inr more ↦ inr more ]))
  raise_step now (raising.Puts t request) target n (Some (replies.Put answer)) h is serves same first l = put_on now cached t n request answer (subst (λ (x : ℕ). PutStands rows store x request) (sym h.0) h.1) (serves request (replies.Put answer) refl refl) l
  raise_step now (raising.Puts t request) target n (Some (replies.Get answer)) h is serves same first l = absurd is
  raise_step now (raising.Puts t request) target n (Some (replies.List answer)) h is serves same first l = absurd is
  raise_step now (raising.Puts t request) target n (Some (replies.Delete answer)) h is serves same first l = absurd is
  raise_step now (raising.Puts t request) target n None h is serves same first l = absurd is
  raise_step now (raising.Keeps t token) target n reply h is serves same first l = elim l [ inl sure ↦ sure.1 | inr more ↦ omega (arith, more) ]

-- it has something left
pub raise_some : (file : Option Got) (cached : Option CachedBoundary) (op : BoundaryAdvance) (n : ℕ) → RaiseLeft file cached op n → 1 ≤ n
raise_some file cached op n l = (let some = cost_some cached op in elim l [ inl sure ↦ (let most = sure.1 in omega (arith, some, most)) | inr more ↦ omega (arith, some, more) ])
  where
    cost_some : (cached : Option CachedBoundary) (op : BoundaryAdvance) → 1 ≤ raise_cost cached op
    cost_some None (raising.Looks t) = omega arith
    cost_some (Some known) (raising.Looks t) = omega arith
    cost_some cached (raising.Reads t true read) = omega arith
    cost_some cached (raising.Reads t false read) = omega arith
    cost_some cached (raising.Puts t request) = omega arith
    cost_some cached (raising.Keeps t token) = omega arith

-- as it begins
pub raise_begins : (file : Option Got) (cached : Option CachedBoundary) (target : ℕ) → RaiseLeft file cached (raising.Looks target) 9
raise_begins file None target = inl (tt, omega arith)
raise_begins file (Some known) target = inr (omega arith)

-- wherever it is
pub raise_small : (file : Option Got) (cached : Option CachedBoundary) (op : BoundaryAdvance) (n : ℕ) → 11 ≤ n → RaiseLeft file cached op n
raise_small file None (raising.Looks t) n enough = inl (tt, omega (arith, enough))
raise_small file (Some known) (raising.Looks t) n enough = inr (omega (arith, enough))
raise_small file cached (raising.Reads t true (reading.Looks path)) n enough = inl (tt, omega (arith, enough))
raise_small file cached (raising.Reads t true (reading.Gets request)) n enough = inr (omega (arith, enough))
raise_small file cached (raising.Reads t true (reading.Holds known)) n enough = inr (omega (arith, enough))
raise_small file cached (raising.Reads t false (reading.Looks path)) n enough = inl (tt, omega (arith, enough))
raise_small file cached (raising.Reads t false (reading.Gets request)) n enough = inr (omega (arith, enough))
raise_small file cached (raising.Reads t false (reading.Holds known)) n enough = inr (omega (arith, enough))
raise_small file cached (raising.Puts t request) n enough = inr (omega (arith, enough))
raise_small file cached (raising.Keeps t token) n enough = inl (tt, omega (arith, enough))

-- What disturbs it makes it come too late at most.
pub raise_disturbed : (file now : Option Got) (cached after : Option CachedBoundary) (op : BoundaryAdvance) (n : ℕ) → RaiseLeft file cached op n → RaiseLeft now after op (n + 5)
raise_disturbed file now cached after (raising.Looks t) n l = (let four = least cached l in by after four)
  where
    least : (c : Option CachedBoundary) → RaiseLeft file c (raising.Looks t) n → 4 ≤ n
    least None l' = elim l' [ inl sure ↦ (let most = sure.1 in omega (arith, most)) | inr more ↦ omega (arith, more) ]
    least (Some known) l' = elim l' [ inl sure ↦ (let most = sure.1 in omega (arith, most)) | inr more ↦ omega (arith, more) ]

    by : (c : Option CachedBoundary) → 4 ≤ n → RaiseLeft now c (raising.Looks t) (n + 5)
    by None four = inl (tt, omega (arith, four))
    by (Some known) four = inr (omega (arith, four))
raise_disturbed file now cached after (raising.Reads t true read) n l = inr (elim l [ inl sure ↦ (let most = sure.1 in omega (arith, most)) | inr more ↦ omega (arith, more) ])
raise_disturbed file now cached after (raising.Reads t false read) n l = inr (elim l [ inl sure ↦ (let most = sure.1 in omega (arith, most)) | inr more ↦ omega (arith, more) ])
raise_disturbed file now cached after (raising.Puts t request) n l = inr (elim l [ inl sure ↦ (let most = sure.1 in omega (arith, most)) | inr more ↦ omega (arith, more) ])
raise_disturbed file now cached after (raising.Keeps t token) n l = inr (elim l [ inl sure ↦ (let most = sure.1 in omega (arith, most)) | inr more ↦ omega (arith, more) ])
