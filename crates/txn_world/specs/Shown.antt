-- What a world's tables stand for. It stands alone, because it names the tables.
use Rattle.txn_store.specs.Memory.{searched_state}
use Rattle.txn_store.specs.declared.types.codec.ObjectCodec as coding
use Rattle.txn_store.specs.declared.types.epoch.EpochField as fields
use Rattle.txn_world.specs.declared.tables.Tables.{Tables}
use Rattle.txn_machine.specs.Machine.{State, WorldState}

module _ {T C E : Type 0} {codec : coding.Ghosts C T} {field : fields.Ghosts E T} where
  abbrev pub shown : Tables T C E codec field → State T
  shown t = record {
    clients = t.clients.count;
    page = t.trace.layout.page;
    store = searched_state t.store;
    caches = t.clients.caches.items;
    operations = t.clients.operations.items;
    views = t.views.used.items;
    loose = t.loose.items;
    failed = t.failed.items;
    trace = t.trace.rows.items;
  }

  abbrev pub shown_world : Tables T C E codec field → WorldState T C E
  shown_world t = record { codec = t.trace.layout.codec; epochs = t.trace.field; state = shown t }
