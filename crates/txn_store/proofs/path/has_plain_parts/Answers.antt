-- The parts between the slashes are tried one by one.
use Rattle.std.proofs.Common.{rules, ◌∙◌, ◌==◌, lit<}
use Rattle.std.specs.List.{slice_split}
use Rattle.std.proofs.lemmas.Iterator.Search.{all_from_yields_List}
use Rattle.std.proofs.lemmas.Iterator.Splits.{YieldsList-from_str_split}
use borrow.Author.Tests.{tests}
use Rattle.txn_store.proofs.PathLemmas.{is_fine, all_fine}
use Rattle.txn_store.proofs.path.has_plain_parts.Goals as goal

pub returns : goal.returns
returns c =
    all_from_yields_List is_fine _ _ _ c.all.ensures.ran (YieldsList-from_str_split 47 c.args.text.now (lit< tt) c.split.ensures.text c.split.ensures.has_more c.split.ensures.pattern) (λ x b q k. search (rules, tests))
    ∙ all_fine (slice_split (λ b. b == 47) c.args.text.now)
