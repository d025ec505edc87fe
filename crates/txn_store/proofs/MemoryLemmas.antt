-- What the calls of a store in memory mean.
use Rattle.std.proofs.Common.{◌≡◌, ℕ, zero, suc, ◌+◌, ◌-◌, ◌^◌, ◌<◌, ◌≤◌, List, [], ◌∷◌, ◌++◌, Contains, Option, Some, None, Ok, refl, ap, ◌∙◌, arith, inl, inr}
use Rattle.std.specs.Option.{SomeIff}
use Rattle.std.specs.FinMap.{get, insert, remove}
use Rattle.std.proofs.lemmas.List.Elements.{Contains-push_cases}
use Rattle.txn_store.specs.Paths.{Segments}
use Rattle.txn_store.specs.Store.{Puts, Deletes, put_fault}
use Rattle.txn_store.specs.Memory.{Memory, tokens_from, state_of, called, with_file, without_file}
use Rattle.txn_store.specs.MemoryFields.{end_of}
use Rattle.txn_store.specs.declared.store.PutMode.{PutMode}

-- every token so far is below the next one
tokens_from-below : (first n t : ℕ) → Contains (tokens_from first n) t → t < first + n
tokens_from-below first zero t (k, l, e) = absurd (omega (arith, l))
tokens_from-below first (suc n) t h = elim (Contains-push_cases (tokens_from first n) (first + n) t h) [
  | inl a ↦ let below : t < first + n = tokens_from-below first n t a in omega (arith, below)
  | inr same ↦ omega (arith, same)
]

tokens_from-fresh : (first next : ℕ) → first ≤ next → Contains (tokens_from first (next - first)) next → ⊥
tokens_from-fresh first next le h = let below : next < first + (next - first) = tokens_from-below first (next - first) next h in omega (arith, below, le)

tokens_from-next : (first next : ℕ) → first ≤ next → tokens_from first (next + 1 - first) ≡ tokens_from first (next - first) ++ next ∷ []
tokens_from-next first next le = let n : next + 1 - first ≡ suc (next - first) = omega (arith, le) in let same : first + (next - first) ≡ next = omega (arith, le) in rw n (ap (λ t. tokens_from first (next - first) ++ t ∷ []) same)

pub end_of-after : (n : ℕ) (o : Option ℕ) → n < 2 ^ 64 → SomeIff o (n + 1 < 2 ^ 64) (n + 1) → end_of o ≡ n + 1
end_of-after n None fits k = omega (arith, fits, k)
end_of-after n (Some m) fits k = k.1

-- a put that takes effect
pub put_placed : (m n : Memory) (path : Segments) (bytes : List ℕ) (mode : PutMode) (token : ℕ) → n ≡ with_file path bytes m → token ≡ m.next → m.first ≤ m.next → m.next < 2 ^ 64 → put_fault mode (get m.files path) ≡ None → Puts path bytes mode (state_of m) (Ok token) (state_of n)
put_placed m n path bytes mode token is next rising fits allowed = rw (is, next) (record {
  counted = record { calls = refl; failures = omega arith };
  allowed = allowed;
  placed = record {
    files = refl;
    fresh = tokens_from-fresh m.first m.next rising;
    given = tokens_from-next m.first m.next rising;
    left = omega (arith, fits);
  };
  err = tt;
})

-- a delete
pub delete_removed : (m n : Memory) (path : Segments) → n ≡ without_file path m → Deletes path (state_of m) (Ok tt) (state_of n)
delete_removed m n path is = rw is (record {
  counted = record { calls = refl; failures = omega arith };
  removed = record { files = refl; given = refl; left = refl };
  err = tt;
})

-- what a put and a delete leave, after the call was counted
pub file_put : (m v n : Memory) (path : Segments) (bytes : List ℕ) → v ≡ called m → n ≡ record { files = insert v.files path (record { bytes = bytes; token = v.next }); first = v.first; next = v.next + 1; calls = v.calls } → n ≡ with_file path bytes m
file_put m v n path bytes begun is = is ∙ ap (λ (w : Memory). record { files = insert w.files path (record { bytes = bytes; token = w.next }); first = w.first; next = w.next + 1; calls = w.calls }) begun

pub file_removed : (m v n : Memory) (path : Segments) → v ≡ called m → n ≡ record { files = remove v.files path; first = v.first; next = v.next; calls = v.calls } → n ≡ without_file path m
file_removed m v n path begun is = is ∙ ap (λ (w : Memory). record { files = remove w.files path; first = w.first; next = w.next; calls = w.calls }) begun
