-- What a store in memory is seen as, and what its calls do.
use Rattle.std.specs.Prelude.{◌≡◌, ◌⊎◌, ℕ, zero, suc, ◌+◌, ◌-◌, ◌^◌, if◌then◌else◌, nat_lt, List, [], ◌∷◌, ◌++◌, length, Option, Some, None, Result, Ok, Err, refl}
use Rattle.std.specs.Coded.{Coded, code_by, coded×, coded_ℕ, coded_list}
use Rattle.std.specs.FinMap as finmap
use Rattle.std.specs.Int.Digits.{digits_of}
use Rattle.txn_store.specs.Paths.{Segments}
use Rattle.txn_store.specs.Store.{Files, State, known_fault}
use Rattle.txn_store.specs.declared.store.Got.{Got}
use Rattle.txn_store.specs.declared.store.StoreError.{StoreError}
use Rattle.txn_store.specs.declared.store.StoreError.TheVariants.{NotFound, NoMemory, TokensExhausted}

pub record Memory : Type 0 where
  pub files : Files
  -- the token of the first put
  pub first : ℕ
  -- the token of the next put, or 2 ^ 64 where none is left
  pub next : ℕ
  pub calls : ℕ

-- a store in memory: what it stands for, and how many stored paths its last call compared with an asked one
pub record Searched : Type 0 where
  pub memory : Memory
  pub compared : ℕ

-- how many binary digits a number has, none for 0
abbrev pub binary_digits : ℕ → ℕ
binary_digits n = length (digits_of 2 n)

-- how many files it has
abbrev pub file_count : Memory → ℕ
file_count m = length (finmap.entries m.files)

-- a file is stored as its bytes and its token
abbrev pub got_code : Coded Got
got_code = code_by (List ℕ × ℕ) (coded× (coded_list coded_ℕ) coded_ℕ) (λ g. (g.bytes, g.token)) (λ p. record { bytes = p.0; token = p.1 }) (λ _. refl)

abbrev pub files_code : Coded Files
files_code = finmap.code (coded_list (coded_list coded_ℕ)) got_code

abbrev pub memory_code : Coded Memory
memory_code =
    code_by (Files × (ℕ × (ℕ × ℕ))) (coded× files_code (coded× coded_ℕ (coded× coded_ℕ coded_ℕ)))
    (λ m. (m.files, (m.first, (m.next, m.calls)))) (λ p. record { files = p.0; first = p.1.0; next = p.1.1.0; calls = p.1.1.1 }) (λ _. refl)

abbrev pub searched_code : Coded Searched
searched_code = code_by (Memory × ℕ) (coded× memory_code coded_ℕ) (λ s. (s.memory, s.compared)) (λ p. record { memory = p.0; compared = p.1 }) (λ _. refl)

-- so many tokens, from the first one on
abbrev pub tokens_from : ℕ → ℕ → List ℕ
tokens_from first zero = []
tokens_from first (suc n) = tokens_from first n ++ (first + n) ∷ []

-- the store that it is: it never fails
abbrev pub state_of : Memory → State
state_of m = record { files = m.files; given = tokens_from m.first (m.next - m.first); left = 2 ^ 64 - m.next; calls = m.calls; failures = 0 }

abbrev pub searched_state : Searched → State
searched_state s = state_of s.memory

-- an empty store
abbrev pub fresh_memory : ℕ → Memory
fresh_memory first = record { files = finmap.empty; first = first; next = first; calls = 0 }

-- a call that changes nothing else
abbrev pub called : Memory → Memory
called m = record m { calls = m.calls + 1 }

-- the bytes under the path, with the next token
abbrev pub with_file : Segments → List ℕ → Memory → Memory
with_file path bytes m = record { files = finmap.insert m.files path (record { bytes = bytes; token = m.next }); first = m.first; next = m.next + 1; calls = m.calls + 1 }

-- no file under the path
abbrev pub without_file : Segments → Memory → Memory
without_file path m = record m { files = finmap.remove m.files path; calls = m.calls + 1 }

-- the answer of a put, where no growth is refused
abbrev pub put_answer : Option StoreError → ℕ → Result ℕ StoreError
put_answer (Some e) next = Err e
put_answer None next = if nat_lt next (2 ^ 64) then Ok next else Err TokensExhausted

-- the answer of a get, where no growth is refused
abbrev pub known_answer : Option StoreError → Got → Result Got StoreError
known_answer (Some e) got = Err e
known_answer None got = Ok got

abbrev pub get_answer : Option ℕ → Option Got → Result Got StoreError
get_answer known None = Err NotFound
get_answer known (Some got) = known_answer (known_fault known got) got

-- the exact answer, or that of a refused growth
abbrev pub IsExact : {A : Type 0} → Result A StoreError → Result A StoreError → Type 0
IsExact exact result = (result ≡ exact) ⊎ (result ≡ Err NoMemory)
