use Rattle.std.proofs.Common.{subst, sym}
use Rattle.txn_steps.specs.Reads.{IsInRange}
use Rattle.txn_steps.proofs.RangeLemmas.{latest_stays, read_stays}
use Rattle.txn_steps.proofs.counts.reads_stay_in_range.Goals as goal

pub returns : goal.returns
returns g c = record {
  started = λ path op is. subst IsInRange (sym is) tt;
  unchecked = λ names page decode. latest_stays names page decode;
  stays = λ names path page decode. read_stays names page decode path;
}
