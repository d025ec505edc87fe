-- How `InMemory` is kept.
use Rattle.std.specs.Prelude.{ℕ, ◌≤◌, ◌^◌, Option, Some, None}
use Rattle.txn_store.specs.Memory.{Memory, Searched}
use Rattle.txn_store.specs.declared.in_memory.InMemory.TheInside.{Inside}

-- the token to come, or the one behind the last
abbrev pub end_of : Option ℕ → ℕ
end_of None = 2 ^ 64
end_of (Some next) = next

abbrev pub memory_view : Inside → Memory
memory_view a = record { files = a.files; first = a.first; next = end_of a.next; calls = a.calls }

abbrev pub searched_view : Inside → Searched
searched_view a = record { memory = memory_view a; compared = a.compared }

abbrev pub IsMemory : Inside → Type 0
IsMemory a = a.first ≤ end_of a.next
