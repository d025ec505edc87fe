-- What may be a fact at a row of a call: what was newest, what an operation entered, what overtook it; and which answers of plain calls fit.
use Rattle.std.specs.Prelude.{◌≡◌, ℕ, zero, suc, List, ◌+◌, ◌<◌, ◌≤◌, ◌⊎◌, nat_le, nat_eq, Bool, true, false, Option, Some, None, take, slice_get}
use Rattle.std.specs.List.{list_any}
use Rattle.std.specs.List.Sorted.{IsStrictlySortedBy}
use Rattle.std.specs.Ordering.{nat_cmp}
use Rattle.std.specs.declared.ops.Bound.{Bound}
use Rattle.txn_history.specs.declared.event.PlainCall.{PlainCall}
use Rattle.txn_history.specs.declared.event.PlainCall.TheVariants as plain_calls
use Rattle.txn_history.specs.declared.event.PlainAnswer.{PlainAnswer}
use Rattle.txn_history.specs.declared.event.PlainAnswer.TheVariants as plain_answers
use Rattle.txn_store.specs.declared.request.Request.{Request}
use Rattle.txn_history.specs.declared.trace.RowOf.{RowOf}
use Rattle.txn_history.specs.declared.trace.RowOf.TheVariants.{Effect}
use Rattle.txn_store.specs.types.Numbers.{number_of, is_within}
use Rattle.txn_history.specs.History.{created, has_id, versions_of, newest, boundary, is_stored, put_count, IsEntry}
use Rattle.txn_history.specs.Calls.{was_begun, AtRow}

-- the base of a write directly on entry n: none on 0
abbrev pub base_on : ℕ → Option ℕ
base_on zero = None
base_on (suc n) = Some (suc n)

module _ {T : Type 0} (get_epoch : T → ℕ) where
  -- a value that is written has an epoch of at least this
  abbrev pub is_high : ℕ → Option T → Bool
  is_high epoch None = true
  is_high epoch (Some value) = nat_le epoch (get_epoch value)

-- The answers. Each refusal has its number: 2, a failed store call, or no token left; 4, nothing to load; 5, a conflict; 6, a greater epoch; 7, not to be deleted, or not of the holder's epoch; 9, want of memory; 10, no id or no epoch left.

-- the greatest id
abbrev pub greatest : ℕ
greatest = 18446744073709551615

module _ {C A : Type 0} where
  -- A name of id n was created by the operation, at a row of its call, with these bytes.
  pub record Created (before : List (RowOf C A)) (op n : ℕ) : Type 0 where
    pub place : ℕ
    pub request : Request
    pub bytes : List ℕ
    pub effect : slice_get before place ≡ Some (Effect op request)
    pub creates : created request ≡ Some (n, bytes)
    pub begun : was_begun (take place before) op ≡ true

  -- a put finds no token left in the store
  abbrev pub NoTokens : List (RowOf C A) → Type 0
  NoTokens before = put_count before ≡ 18446744073709551615

  -- Ids that a listing answers at a row: ids of entries within the bounds, with all of them that are above the boundary.
  pub record IsListing (rows : List (RowOf C A)) (from to : Bound ℕ) (ids : List ℕ) : Type 0 where
    pub ascending : IsStrictlySortedBy nat_cmp ids
    pub there : (n : ℕ) → list_any (nat_eq n) ids ≡ true → ((0 < n) × (n ≤ newest rows)) × (is_within from to n ≡ true)
    pub whole : (n : ℕ) → boundary rows < n → n ≤ newest rows → is_within from to n ≡ true → list_any (nat_eq n) ids ≡ true

  -- at a row of the call there was no entry
  abbrev pub WasEmpty : List (RowOf C A) → ℕ → Type 0
  WasEmpty before op = AtRow before op (λ rows. newest rows ≡ 0)

module _ {C A T : Type 0} (decode : List ℕ → Option T) where
  -- Version n was created by the operation so, and this was its first create, with this value.
  pub record Entered (before : List (RowOf C A)) (op n : ℕ) (value : T) : Type 0 where
    pub create : Created before op n
    pub first : has_id (versions_of (take create.place before)) n ≡ false
    pub reads : decode create.bytes ≡ Some value

  -- A base was overtaken: there is a newer entry now. What the operation entered itself, the boundary has reached.
  pub record Overtaken (before : List (RowOf C A)) (op : ℕ) (base : Option ℕ) : Type 0 where
    pub longer : number_of base < newest before
    pub fenced : (n : ℕ) (value : T) → Entered before op n value → n ≤ boundary before

  -- at a row of the call the newest entry was entry n, with this value
  abbrev pub WasNewest : List (RowOf C A) → ℕ → ℕ → T → Type 0
  WasNewest before op n value = AtRow before op (λ rows. (newest rows ≡ n) × IsEntry decode rows n value)

  -- what an unchecked read finds is that entry, or there was none of this id at a row of the call
  abbrev pub IsFound : List (RowOf C A) → ℕ → ℕ → Option T → Type 0
  IsFound before op id None = AtRow before op (λ rows. newest rows < id)
  IsFound before op id (Some value) = IsEntry decode before id value

-- Every call is refused where its store call failed, or for want of memory. Rows do not show that a store call failed: the operations that were told so are a list beside them.
abbrev pub FailureFits : List ℕ → ℕ → ℕ → Type 0
FailureFits failed op number = ((number ≡ 2) × (list_any (nat_eq op) failed ≡ true)) ⊎ (number ≡ 9)

module _ {C A T : Type 0} (decode : List ℕ → Option T) where
  -- An answer of a plain call that is no refusal fits it. A checked write answers its own version, with its value; a read what was newest.
  abbrev pub PlainSucceeds : List (RowOf C A) → ℕ → PlainCall T → PlainAnswer T → Type 0
  PlainSucceeds before op (plain_calls.Write base value) (plain_answers.Wrote n) = Entered decode before op n value
  PlainSucceeds before op (plain_calls.WriteUnchecked base value) (plain_answers.Wrote n) = Created before op n × (n ≡ number_of base + 1) × (n ≤ newest before)
  PlainSucceeds before op plain_calls.Read (plain_answers.Read None) = WasEmpty before op
  PlainSucceeds before op plain_calls.Read (plain_answers.Read (Some found)) = WasNewest decode before op found.0 found.1
  PlainSucceeds before op (plain_calls.ReadUnchecked id) (plain_answers.Value found) = (id ≤ boundary before) ⊎ IsFound decode before op id found
  PlainSucceeds before op (plain_calls.ReadSeen id) (plain_answers.Value found) = (id ≤ boundary before) ⊎ IsFound decode before op id found
  PlainSucceeds before op (plain_calls.ListIds from to) (plain_answers.Ids ids) = AtRow before op (λ rows. IsListing rows from to ids)
  PlainSucceeds before op (plain_calls.Delete id) plain_answers.Done = AtRow before op (λ rows. (id ≤ boundary rows) × (is_stored rows id ≡ false))
  PlainSucceeds before op (plain_calls.Check id) plain_answers.Done = AtRow before op (λ rows. boundary rows < id)
  PlainSucceeds before op (plain_calls.Advance to) plain_answers.Done = to ≤ boundary before
  PlainSucceeds before op call answer = ⊥

  -- a write is refused because its base was overtaken, because the store has no token left, or because no id is left
  abbrev pub WriteRefused : List (RowOf C A) → ℕ → Option ℕ → ℕ → Type 0
  WriteRefused before op base number = ((number ≡ 5) × Overtaken decode before op base) ⊎ ((number ≡ 2) × NoTokens before) ⊎ ((number ≡ 10) × (base ≡ Some greatest))

  -- a refusal of a plain call fits it, by its number
  abbrev pub PlainRefuses : List (RowOf C A) → ℕ → PlainCall T → ℕ → Type 0
  PlainRefuses before op (plain_calls.Write base value) number = WriteRefused before op base number
  PlainRefuses before op (plain_calls.WriteUnchecked base value) number = WriteRefused before op base number
  PlainRefuses before op (plain_calls.Delete id) number = (number ≡ 7) × AtRow before op (λ rows. boundary rows < id)
  PlainRefuses before op (plain_calls.Check id) number = (number ≡ 5) × (id ≤ boundary before)
  PlainRefuses before op (plain_calls.Advance to) number = (number ≡ 2) × NoTokens before
  PlainRefuses before op call number = ⊥
