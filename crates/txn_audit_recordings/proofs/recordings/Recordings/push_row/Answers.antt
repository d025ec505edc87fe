use Rattle.std.proofs.Common.{map, refl}
use Rattle.txn_audit_recordings.proofs.Lines.{last_were, last_are}
use Rattle.txn_audit_recordings.proofs.recordings.Recordings.push_row.Goals as goal

pub returns : goal.returns
returns g c = λ _. record {
  before = map (λ rows. rows.items) c.pop.new.self.items;
  last = c.in-Some.last.items;
  rows_were = last_were _ _ _ _ c.in-Some.ensures.items;
  rows_are = last_are _ _ _ c.in-Some.last _ _ c.in_ok-push-2.ensures.items c.in_ok-push.ensures.items;
  begins_are = refl;
  clocks_are = refl;
  next_is = refl;
}
