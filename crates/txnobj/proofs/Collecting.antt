-- Deletes, one after another, of those of some ids that are below an end.
use Rattle.std.proofs.Common.{◌≡◌, ◌+◌, ◌<◌, ◌≤◌, ℕ, cond, nat_lt, List, [], ◌∷◌, ◌++◌, length, take, drop, get_or, min, true, All, IfSome, Option, Some, None, Ok, refl, sym, ap, ◌∙◌, arith}
use Rattle.std.proofs.Math.Nat.{min-le_right}
use Rattle.std.proofs.lemmas.Bool.{lt-ltb, le-ltb, ltb-true}
use Rattle.std.proofs.lemmas.List.{take-append-drop, length-take-le, append_assoc, append-nil}
use Rattle.std.proofs.lemmas.List.Elements.{All-nil, All-weaker, filter-append, filter_more, filter_passes}
use Rattle.std.proofs.lemmas.List.Sums.{length-filter, count_by-le-length}
use Rattle.txn_history.specs.declared.event.Call.{Call}
use Rattle.txn_history.specs.declared.event.Answer.{Answer}
use Rattle.txnobj.specs.declared.clients.stop.Stop.{Stop}
use Rattle.txnobj.specs.Collecting.{end_of, below, DeleteEnds, DeletesAll, Collects, NotRead, NoVersion, NoneBelow, NotRaised, NotListed, Deletes, SparesNewest}

-- the next id is below the end
pub below_taken : (end i : ℕ) (ids : List ℕ) → i < length ids → get_or ids i 0 < end → below end (take (i + 1) ids) ≡ below end (take i ids) ++ get_or ids i 0 ∷ []
below_taken end i ids within under = filter_more (λ id. nat_lt id end) ids i 0 within ∙ ap (λ is. below end (take i ids) ++ cond is (get_or ids i 0 ∷ []) []) (lt-ltb (get_or ids i 0) end under)

-- it is not
pub below_passed : (end i : ℕ) (ids : List ℕ) → i < length ids → end ≤ get_or ids i 0 → below end (take (i + 1) ids) ≡ below end (take i ids)
below_passed end i ids within over = filter_more (λ id. nat_lt id end) ids i 0 within ∙ ap (λ is. below end (take i ids) ++ cond is (get_or ids i 0 ∷ []) []) (le-ltb (get_or ids i 0) end over) ∙ append-nil (below end (take i ids))

-- those before the next id, this, and those after it
pub below_split : (end i : ℕ) (ids : List ℕ) → i < length ids → get_or ids i 0 < end → below end ids ≡ below end (take i ids) ++ get_or ids i 0 ∷ below end (drop (i + 1) ids)
below_split end i ids within under =
    ap (below end) (sym (take-append-drop (i + 1) ids)) ∙ filter-append (λ id. nat_lt id end) (take (i + 1) ids) (drop (i + 1) ids) ∙ ap (λ front. front ++ below end (drop (i + 1) ids)) (below_taken end i ids within under) ∙ append_assoc (below end (take i ids)) (get_or ids i 0 ∷ []) (below end (drop (i + 1) ids))

-- they are no more than there are
pub below_few : (end i : ℕ) (ids : List ℕ) → i ≤ length ids → length (below end (take i ids)) ≤ i
below_few end i ids within =
    let counted = length-filter (λ id. nat_lt id end) (take i ids) in
    let few = count_by-le-length (λ id. nat_lt id end) (take i ids) in
    let taken = length-take-le i ids within in
    omega arith

-- what is below an end is below the newest version
spared : {T : Type 0} (id end : ℕ) (found : Option (ℕ × T)) (ids : List ℕ) → end_of id found ≡ Some end → All (λ d. IfSome found (λ newest. d < newest.0)) (below end ids)
spared id end None ids is = absurd cc
spared id end (Some newest) ids is =
    All-weaker (λ d. nat_lt d end ≡ true) (λ d. d < newest.0) (λ d passes.
    let same : min id newest.0 ≡ end = cc in
    let under = ltb-true d end passes in
    let most = min-le_right id newest.0 in
    omega arith) (below end ids) (filter_passes (λ d. nat_lt d end) ids)

module _ {T F P : Type 0} (made : P → Call T → Answer T → P → Type 0) (stopped : P → Call T → Stop → P → Type 0) (tells : P → Option F → Type 0) where
  -- one delete more
  pub deletes_more : (ids : List ℕ) (id : ℕ) (old between new : P) → DeletesAll made stopped tells ids old between → DeleteEnds made stopped tells id between (Ok tt) new → DeletesAll made stopped tells (ids ++ id ∷ []) old new
  deletes_more [] id old between new none one = (new, rw (← none) one, refl)
  deletes_more (first ∷ ids) id old between new (after, done, rest) one = (after, done, deletes_more ids id after between new rest one)

  -- the newest version is none of those that a collection deletes
  pub newest_spared : (id : ℕ) (old : P) (removed : ℕ) (new : P) → Collects made stopped tells id old (Ok removed) new → SparesNewest made stopped tells old removed new
  newest_spared id old removed new (NotRead e read is) = absurd cc
  newest_spared id old removed new (NoVersion found read none is) = record {
    found = found;
    read = new;
    newest_read = read;
    listed = new;
    deleted = [];
    deletes = refl;
    count = cc;
    spared = All-nil (λ d. IfSome found (λ newest. d < newest.0));
  }
  newest_spared id old removed new (NoneBelow end at few is) = record {
    found = at.found;
    read = new;
    newest_read = at.read;
    listed = new;
    deleted = [];
    deletes = refl;
    count = cc;
    spared = All-nil (λ d. IfSome at.found (λ newest. d < newest.0));
  }
  newest_spared id old removed new (NotRaised end read e at raised is) = absurd cc
  newest_spared id old removed new (NotListed end read raised e at advanced listed is) = absurd cc
  newest_spared id old removed new (Deletes end read raised listed ids at advanced list (deletes, count)) = record {
    found = at.found;
    read = read;
    newest_read = at.read;
    listed = listed;
    deleted = below end ids;
    deletes = deletes;
    count = count;
    spared = spared id end at.found ids at.end_is;
  }
