-- The page is that of the files between the beginning and the end.
use Rattle.std.proofs.Common.{◌≡◌, ◌∙◌, ℕ, ◌-◌, ◌+◌, min, sym, ap, subst, map, take, drop, List, nat_lt, arith}
use Rattle.std.specs.FinMap.{entries}
use Rattle.std.specs.Option.{option_copied}
use Rattle.txn_store.specs.Store.{meta_of}
use Rattle.txn_store.specs.Sorted.{IsBehind}
use Rattle.txn_store.specs.Paths.{Segments}
use Rattle.txn_store.specs.declared.store.ObjectMeta.{ObjectMeta}
use Rattle.txn_store.specs.declared.sorted.Mark.TheVariants.{Path}
use Rattle.txn_store.proofs.PageLemmas.{page_told}
use Rattle.txn_store.proofs.sorted.SortedFiles.page.Goals as goal

pub returns-clause-told : goal.returns-clause-told
returns-clause-told c =
    let start = subst (λ (p : Segments). IsBehind Path p (entries c.args.self.now) c.behind-start.result) c.further.ensures c.behind-start.ensures.behind in
    let told = page_told c.args.prefix.now (option_copied c.args.after) (entries c.args.self.now) c.behind-start.result c.behind.result start c.behind.ensures.behind c.args.limit in
    let below : c.saturating_sub-below.result ≡ c.behind.result - c.behind-start.result = c.saturating_sub-below.ensures in
    let count : c.behind-start.result + c.min-count.result - c.behind-start.result ≡ min c.args.limit (c.behind.result - c.behind-start.result) = let is = c.min-count.ensures in omega (arith, is, below) in
    let metas : c.from_vec.result ≡ map meta_of (take (min c.args.limit (c.behind.result - c.behind-start.result)) (drop c.behind-start.result (entries c.args.self.now))) =
    c.from_vec.ensures ∙ (c.in_ok-metas.ensures ∙ ap (λ (n : ℕ). map meta_of (take n (drop c.behind-start.result (entries c.args.self.now)))) count) in
    ap (λ (n : ℕ). record { metas = c.from_vec.result; more = nat_lt c.args.limit n }) below ∙ (ap (λ (ms : List ObjectMeta). record { metas = ms; more = nat_lt c.args.limit (c.behind.result - c.behind-start.result) }) metas ∙ sym told)
