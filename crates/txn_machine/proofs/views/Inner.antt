-- What holds of an operation of the machine, of its owner: entries, what was newest, what was overtaken, listings.
use Rattle.std.proofs.Common.{◌≡◌, ◌≢◌, ℕ, ◌<◌, ◌≤◌, List, take, false, Option, Some, None, inl, inr, sym, ◌∙◌, subst, arith}
use Rattle.std.specs.declared.ops.Bound.{Bound}
use Rattle.std.proofs.lemmas.Bool.{cases_eq}
use Rattle.txn_history.specs.declared.trace.RowOf.{RowOf}
use Rattle.txn_history.specs.History.{Version, has_id, newest, boundary, IsEntry}
use Rattle.txn_history.specs.Calls.{AtRow}
use Rattle.txn_history.specs.Facts.{Created, Entered, Overtaken, WasNewest, WasEmpty, IsFound, IsListing, NoTokens}
use Rattle.txn_machine.proofs.views.Tied.{Alike, Tied, lift_at, same_versions, same_newest, same_boundary, same_puts}

module _ {C A D B T : Type 0} (decode : List ℕ → Option T) (owner : ℕ → ℕ) where
  pub entry_both : (fine : List (RowOf C A)) (rows : List (RowOf D B)) → Alike owner fine rows → (n : ℕ) (value : T) → IsEntry decode fine n value → IsEntry decode rows n value
  entry_both fine rows h n value e = rw (same_versions owner fine rows h) e

  module _ (fine : List (RowOf C A)) (rows : List (RowOf D B)) (tied : Tied owner fine rows) (op : ℕ) where
    abbrev pub created_by_owner : (n : ℕ) → Created fine op n → Created rows (owner op) n
    created_by_owner n c =
        let e = tied.effects c.place op c.request c.effect in
        record { place = e.place; request = c.request; bytes = c.bytes; effect = e.effect; creates = c.creates; begun = e.alike.begun op c.begun }

    pub entered_by_owner : (n : ℕ) (value : T) → Entered decode fine op n value → Entered decode rows (owner op) n value
    entered_by_owner n value h =
        let c = h.create in
        let e = tied.effects c.place op c.request c.effect in
        record {
          create = created_by_owner n c;
          first = subst (λ (vs : List Version). has_id vs n ≡ false) (sym (same_versions owner (take c.place fine) (take e.place rows) e.alike)) h.first;
          reads = h.reads;
        }

    pub newest_of_owner : (n : ℕ) (value : T) → WasNewest decode fine op n value → WasNewest decode rows (owner op) n value
    newest_of_owner n value w = lift_at owner fine rows op (λ f. (newest f ≡ n) × IsEntry decode f n value) (λ g. (newest g ≡ n) × IsEntry decode g n value) tied (λ f g a h. (same_newest owner f g a ∙ h.0, entry_both f g a n value h.1)) w

    pub empty_of_owner : WasEmpty fine op → WasEmpty rows (owner op)
    empty_of_owner w = lift_at owner fine rows op (λ f. newest f ≡ 0) (λ g. newest g ≡ 0) tied (λ f g a h. same_newest owner f g a ∙ h) w

    pub found_of_owner : (id : ℕ) (found : Option T) → IsFound decode fine op id found → IsFound decode rows (owner op) id found
    found_of_owner id None h = lift_at owner fine rows op (λ f. newest f < id) (λ g. newest g < id) tied (λ f g a lt. (let same = same_newest owner f g a in omega (arith, same, lt))) h
    found_of_owner id (Some value) h = entry_both fine rows tied.top id value h

    pub lists_of_owner : (from to : Bound ℕ) (ids : List ℕ) → AtRow fine op (λ f. IsListing f from to ids) → AtRow rows (owner op) (λ g. IsListing g from to ids)
    lists_of_owner from to ids h = lift_at owner fine rows op (λ f. IsListing f from to ids) (λ g. IsListing g from to ids) tied (λ f g a l. both f g a l) h
      where
        both : (f : List (RowOf C A)) (g : List (RowOf D B)) → Alike owner f g → IsListing f from to ids → IsListing g from to ids
        both f g a l =
            let up = same_newest owner f g a in
            let low = same_boundary owner f g a in
            record {
              ascending = l.ascending;
              there = λ n e. (let t = l.there n e in let top = t.0.1 in ((t.0.0, omega (arith, top, up)), t.1));
              whole = λ n lt le q. l.whole n (omega (arith, lt, low)) (omega (arith, le, up)) q;
            }

    -- what the other operations of an owner entered, the boundary has reached
    abbrev pub PastFenced : Type 0
    PastFenced = (m n : ℕ) (value : T) → owner m ≡ owner op → m ≢ op → Entered decode fine m n value → n ≤ boundary fine

    -- an entry of the owner is that of one of its operations
    entered_fine : (o n : ℕ) (value : T) → Entered decode rows o n value → (m : ℕ) × (owner m ≡ o) × Entered decode fine m n value
    entered_fine o n value e =
        let c = e.create in
        let m = tied.makers c.place o c.request c.effect in (
          m.maker,
          m.own,
          record {
            create = record { place = m.place; request = c.request; bytes = c.bytes; effect = m.effect; creates = c.creates; begun = m.begun };
            first = subst (λ (vs : List Version). has_id vs n ≡ false) (same_versions owner (take m.place fine) (take c.place rows) m.alike) e.first;
            reads = e.reads;
          },
        )

    pub overtaken_of_owner : (base : Option ℕ) → PastFenced → Overtaken decode fine op base → Overtaken decode rows (owner op) base
    overtaken_of_owner base past h =
        let up = same_newest owner fine rows tied.top in
        let low = same_boundary owner fine rows tied.top in
        record {
          longer = (let lt = h.longer in omega (arith, lt, up));
          fenced = λ n value e. (
              let m = entered_fine (owner op) n value e in
              elim (cases_eq m.0 op) [
                | inl same ↦ (let le = h.fenced n value (subst (λ (o : ℕ). Entered decode fine o n value) same m.2) in omega (arith, le, low))
                | inr other ↦ (let le = past m.0 n value m.1 other m.2 in omega (arith, le, low))
              ]
              );
        }

    pub no_tokens_both : NoTokens fine → NoTokens rows
    no_tokens_both h = same_puts owner fine rows tied.top ∙ h
