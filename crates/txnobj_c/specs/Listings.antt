-- What a host tells of the files of a listing. It stands alone, because it names the struct that C writes.
use Rattle.std.specs.Prelude.{ℕ, List, map, Bool}
use Rattle.txn_store.specs.declared.store.ObjectMeta.{ObjectMeta}
use Rattle.txn_store.specs.declared.request.Reply.{Reply}
use Rattle.txn_store.specs.declared.request.Reply.TheVariants as replies
use Rattle.txn_store.specs.VersionName.{version_path}
use Rattle.txn_history.specs.Names.{world_names}
use Rattle.txnobj_c.specs.declared.files.Listed.{Listed}
use Rattle.txnobj_c.specs.Numbers.{or_error}

-- a version's file, with its token and its size
abbrev pub told_file : Listed → ObjectMeta
told_file file = record { location = version_path world_names file.version; size = file.size; token = file.token }

-- the reply to a listing: the files that follow, and whether more follow them
abbrev pub files_reply : ℕ → List Listed → Bool → Reply
files_reply error files more = replies.List (or_error error (record { metas = map told_file files; more = more }))

-- a version's file, of which nothing else is told: no operation asks for its token or its size
abbrev pub bare_file : ℕ → Listed
bare_file version = record { version = version; token = 0; size = 0 }

-- the reply to a listing: the versions that follow, and whether more follow them
abbrev pub listed_reply : ℕ → List ℕ → Bool → Reply
listed_reply error versions more = files_reply error (map bare_file versions) more
