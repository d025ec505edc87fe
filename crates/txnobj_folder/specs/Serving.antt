-- What a folder says of a call.
use Rattle.std.specs.Prelude.{◌≡◌, ◌≤◌, false, Result, Ok, Err}
use Rattle.txn_folder_files.specs.declared.fault.Fault.{Fault}
use Rattle.txn_store.specs.declared.request.Request.{Request}
use Rattle.txn_store.specs.declared.request.Reply.{Reply}
use Rattle.txn_folder.specs.Replies.{IsReplyTo, reply_failed}
use Rattle.txn_folder.specs.Told.{Tells}
use Rattle.txnobj_folder.specs.declared.store.SharedFolder.{SharedFolder}

-- A reply is one to its request, with the tokens and the listing that a folder tells, and does not say that the call failed. Of one that failed nothing is said.
abbrev pub FolderServes : SharedFolder → Request → Result Reply Fault → SharedFolder → Type 0
FolderServes old request (Ok reply) new = IsReplyTo request reply × (reply_failed reply ≡ false) × Tells old.store.names old.store.boundary old.store.disk.numbers.last new.store.disk.numbers.last request reply
FolderServes old request (Err fault) new = Unit {0}
