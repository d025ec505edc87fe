-- Collecting: the boundary is raised, and the versions at or below it are removed.
use Rattle.std.specs.Prelude.{◌≡◌, ◌-◌, ◌<◌, ◌≤◌, ℕ, min, nat_lt, List, [], ◌∷◌, ◌++◌, filter, length, All, IfSome, Option, Some, None, option_map, Result, Ok, Err}
use Rattle.std.specs.declared.ops.Bound.TheVariants.{Unbounded, Included}
use Rattle.txn_history.specs.declared.event.Call.{Call}
use Rattle.txn_history.specs.declared.event.Call.TheVariants as calls
use Rattle.txn_history.specs.declared.event.PlainCall.TheVariants as plain_calls
use Rattle.txn_history.specs.declared.event.Answer.{Answer}
use Rattle.txnobj.specs.declared.clients.stop.Stop.{Stop}
use Rattle.txnobj.specs.declared.error.Error.{Error}
use Rattle.txnobj.specs.Answers.{read_in, ids_in, done_in}
use Rattle.txnobj.specs.Calls.{Ends}

-- What is collected below a version is below this end: below the newest version too, where there is one.
abbrev pub end_of : {T : Type 0} → ℕ → Option (ℕ × T) → Option ℕ
end_of id found = option_map (λ newest. min id newest.0) found

-- those of these ids that are below this one
abbrev pub below : ℕ → List ℕ → List ℕ
below end ids = filter (λ id. nat_lt id end) ids

module _ {T F P : Type 0} (made : P → Call T → Answer T → P → Type 0) (stopped : P → Call T → Stop → P → Type 0) (tells : P → Option F → Type 0) where
  -- what came of a delete, of an advance, of a listing up to a boundary, and of a read
  abbrev pub DeleteEnds : ℕ → P → Result (Unit {0}) (Error F) → P → Type 0
  DeleteEnds id old result new = Ends made stopped tells done_in (calls.Plain (plain_calls.Delete id)) old result new

  abbrev pub AdvanceEnds : ℕ → P → Result (Unit {0}) (Error F) → P → Type 0
  AdvanceEnds boundary old result new = Ends made stopped tells done_in (calls.Plain (plain_calls.Advance boundary)) old result new

  abbrev pub ListEnds : ℕ → P → Result (List ℕ) (Error F) → P → Type 0
  ListEnds boundary old result new = Ends made stopped tells ids_in (calls.Plain (plain_calls.ListIds Unbounded (Included boundary))) old result new

  abbrev pub ReadEnds : P → Result (Option (ℕ × T)) (Error F) → P → Type 0
  ReadEnds old result new = Ends made stopped tells read_in (calls.Plain plain_calls.Read) old result new

  -- each of these was deleted, the first first
  abbrev pub DeletesAll : List ℕ → P → P → Type 0
  DeletesAll [] old new = new ≡ old
  DeletesAll (id ∷ ids) old new = (between : P) × DeleteEnds id old (Ok tt) between × DeletesAll ids between new

  -- Of these ids those below this one were deleted, the first first, and so many they are; or the first of them were, and then a delete failed.
  abbrev pub DeletesBelow : ℕ → List ℕ → P → Result ℕ (Error F) → P → Type 0
  DeletesBelow end ids old (Ok removed) new = DeletesAll (below end ids) old new × (removed ≡ length (below end ids))
  DeletesBelow end ids old (Err e) new = (front : List ℕ) × (id : ℕ) × (rest : List ℕ) × (between : P) × (below end ids ≡ front ++ id ∷ rest) × DeletesAll front old between × DeleteEnds id between (Err e) new

  -- The newest version was read, and what is to be removed is below this end.
  pub record EndsAt (id : ℕ) (old : P) (end : ℕ) (new : P) : Type 0 where
    pub found : Option (ℕ × T)
    pub read : ReadEnds old (Ok found) new
    pub end_is : end_of id found ≡ Some end

  -- What came of a collection below a version.
  pub data Collects (id : ℕ) (old : P) (result : Result ℕ (Error F)) (new : P) : Type 0 where
    -- the read of the newest version failed
    NotRead : (e : Error F) → ReadEnds old (Err e) new → result ≡ Err e → Collects id old result new
    -- there is no version
    NoVersion : (found : Option (ℕ × T)) → ReadEnds old (Ok found) new → end_of id found ≡ None → result ≡ Ok 0 → Collects id old result new
    -- no version is below both
    NoneBelow : (end : ℕ) → EndsAt id old end new → end ≤ 1 → result ≡ Ok 0 → Collects id old result new
    -- the boundary was not raised to straight below the end
    NotRaised : (end : ℕ) (read : P) (e : Error F) → EndsAt id old end read → AdvanceEnds (end - 1) read (Err e) new → result ≡ Err e → Collects id old result new
    -- it was, and the listing up to it failed
    NotListed : (end : ℕ) (read raised : P) (e : Error F) → EndsAt id old end read → AdvanceEnds (end - 1) read (Ok tt) raised → ListEnds (end - 1) raised (Err e) new → result ≡ Err e → Collects id old result new
    -- those listed ones that are below the end were deleted, or some of them, and then a delete failed
    Deletes : (end : ℕ) (read raised listed : P) (ids : List ℕ) → EndsAt id old end read → AdvanceEnds (end - 1) read (Ok tt) raised → ListEnds (end - 1) raised (Ok ids) listed → DeletesBelow end ids listed result new → Collects id old result new

  -- A collection deleted so many versions, and none of them is the newest, which it read.
  pub record SparesNewest (old : P) (removed : ℕ) (new : P) : Type 0 where
    pub found : Option (ℕ × T)
    pub read : P
    pub newest_read : ReadEnds old (Ok found) read
    pub listed : P
    pub deleted : List ℕ
    pub deletes : DeletesAll deleted listed new
    pub count : removed ≡ length deleted
    pub spared : All (λ id. IfSome found (λ newest. id < newest.0)) deleted
