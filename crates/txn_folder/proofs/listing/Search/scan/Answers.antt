use Rattle.std.proofs.lemmas.List.Filters.{dedup_is, All-dedup}
use Rattle.std.proofs.lemmas.List.Sorted.{All-permutation}
use Rattle.std.proofs.lemmas.Map.Keys.{IsStrictlyIncreasing-dedup}
use Rattle.txn_folder.specs.Pages.{IsAbove}
use Rattle.txn_folder.proofs.listing.Search.scan.Goals as goal

pub returns : goal.returns
returns g c = rw (dedup_is _ _ _ c.dedup.ensures.filtered) (record {
  ascend = IsStrictlyIncreasing-dedup _ c.sort_unstable.ensures.sorted;
  above = All-dedup _ (IsAbove c.args.self.now.after) _ (All-permutation (IsAbove c.args.self.now.after) _ _ c.sort_unstable.ensures.permutation c.in_ok-ids.ensures);
})
