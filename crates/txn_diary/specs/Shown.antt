-- What a client keeps. It stands alone, because it names the tables.
use Rattle.std.specs.Prelude.{ℕ, ◌++◌, List, Bool, Option, None, map, nat_eq, replicate, reverse}
use Rattle.std.specs.List.{range_with_len}
use Rattle.std.specs.HashMap.{get}
use Rattle.txn_store.specs.declared.types.codec.ObjectCodec as coding
use Rattle.txn_store.specs.declared.types.epoch.EpochField as fields
use Rattle.txn_machine.specs.views.Layer.{Used}
use Rattle.txn_machine.specs.declared.doing.Operation.{Operation}
use Rattle.txn_machine.specs.Machine.{used_in}
use Rattle.txn_client_journals.specs.Parts.{Part}
use Rattle.txn_diary.specs.Forgetting.{forgotten}
use Rattle.txn_diary.specs.Keepers.{KeeperState}
use Rattle.txn_diary.specs.declared.calls.Calls.{Calls}
use Rattle.txn_diary.specs.declared.standing.Standing.{Standing}
use Rattle.txn_diary.specs.declared.tables.Tables.{Tables}

module _ {T : Type 0} where
  -- the operations, in the order of their numbers
  abbrev pub operations_of : Calls T → List (Operation T)
  operations_of calls = replicate calls.forgotten forgotten ++ calls.operations.items

  -- of each of them the epoch of what it writes
  abbrev pub writes_of : Calls T → List (Option ℕ)
  writes_of calls = replicate calls.forgotten None ++ calls.writes.items

  -- the views, in the order of their numbers
  abbrev pub views_of : Standing T → List (Option (Used T))
  views_of views = map (λ number. used_in (get nat_eq views.used number)) (range_with_len 1 views.count)

module _ {T C E : Type 0} {codec : coding.Ghosts C T} {field : fields.Ghosts E T} where
  abbrev pub shown : Tables T C E codec field → Part T
  shown t = record {
    caches = t.caches;
    operations = operations_of t.calls;
    views = views_of t.views;
    writes = writes_of t.calls;
    told = reverse t.notes.noted.items;
  }

  -- these tables, of a client that lives or not, as its clauses see it
  abbrev pub keeper_of : Tables T C E codec field → Bool → KeeperState T C E
  keeper_of t alive = record { client = t.client; page = t.layout.page; codec = t.layout.codec; epochs = t.epochs; part = shown t; alive = alive }
