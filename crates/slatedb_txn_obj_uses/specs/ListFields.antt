-- How `ListStore` is kept.
use Rattle.std.specs.Prelude.{◌≤◌}
use Rattle.txn_store.specs.Memory.{Memory}
use Rattle.txn_store.specs.MemoryFields.{end_of}
use Rattle.slatedb_txn_obj_uses.specs.declared.list_store.ListStore.TheInside.{Inside}

abbrev pub list_view : Inside → Memory
list_view a = record { files = a.files; first = 1; next = end_of a.next; calls = a.calls.memory.calls }

abbrev pub IsList : Inside → Type 0
IsList a = 1 ≤ end_of a.next
