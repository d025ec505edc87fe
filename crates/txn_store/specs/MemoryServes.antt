-- What a store in memory replies to a request, and what it then is.
use Rattle.std.specs.Prelude.{◌≡◌, Ok, Err, Bool, true, false}
use Rattle.std.specs.FinMap as finmap
use Rattle.txn_store.specs.Store.{put_fault, listing, page_of}
use Rattle.txn_store.specs.Memory.{Memory, put_answer, get_answer, called, with_file, without_file}
use Rattle.txn_store.specs.declared.request.Request.{Request}
use Rattle.txn_store.specs.declared.request.Request.TheVariants.{Put, Get, List, Delete}
use Rattle.txn_store.specs.declared.request.Reply.{Reply}
use Rattle.txn_store.specs.declared.request.Reply.TheVariants.{Put as PutReply, Get as GetReply, List as ListReply, Delete as DeleteReply}
use Rattle.txn_store.specs.declared.store.StoreError.TheVariants.{NoMemory}

-- the reply, where no growth is refused
abbrev pub exact_reply : Request → Memory → Reply
exact_reply (Put path bytes mode) m = PutReply (put_answer (put_fault mode (finmap.get m.files path)) m.next)
exact_reply (Get path known) m = GetReply (get_answer known (finmap.get m.files path))
exact_reply (List prefix after limit) m = ListReply (Ok (page_of limit (listing prefix after (finmap.entries m.files))))
exact_reply (Delete path) m = DeleteReply (Ok tt)

-- the reply of a refused growth, which a delete does not have
abbrev pub LacksMemory : Request → Reply → Type 0
LacksMemory (Put path bytes mode) reply = reply ≡ PutReply (Err NoMemory)
LacksMemory (Get path known) reply = reply ≡ GetReply (Err NoMemory)
LacksMemory (List prefix after limit) reply = reply ≡ ListReply (Err NoMemory)
LacksMemory (Delete path) reply = ⊥

-- whether a reply says that a growth was refused
abbrev pub lacks_memory : Reply → Bool
lacks_memory (PutReply (Err NoMemory)) = true
lacks_memory (GetReply (Err NoMemory)) = true
lacks_memory (ListReply (Err NoMemory)) = true
lacks_memory (DeleteReply (Err NoMemory)) = true
lacks_memory _ = false

-- the store after a request and its reply
abbrev pub memory_after : Request → Reply → Memory → Memory
memory_after (Put path bytes mode) (PutReply (Ok token)) m = with_file path bytes m
memory_after (Delete path) reply m = without_file path m
memory_after request reply m = called m
