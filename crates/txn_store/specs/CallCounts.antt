-- The counts of a failing store's calls.
use Rattle.std.specs.Prelude.{ℕ, ◌+◌, ◌-◌, ◌^◌, min}
use Rattle.txn_store.specs.declared.failing.Counts.{Counts}

-- one call more, up to the greatest u64
abbrev pub one_more : ℕ → ℕ
one_more n = min (n + 1) (2 ^ 64 - 1)

abbrev pub no_calls : Counts
no_calls = record { puts = 0; gets = 0; lists = 0; deletes = 0 }

abbrev pub one_put : Counts → Counts
one_put c = record c { puts = one_more c.puts }

abbrev pub one_get : Counts → Counts
one_get c = record c { gets = one_more c.gets }

abbrev pub one_list : Counts → Counts
one_list c = record c { lists = one_more c.lists }

abbrev pub one_delete : Counts → Counts
one_delete c = record c { deletes = one_more c.deletes }
