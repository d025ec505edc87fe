use Rattle.std.proofs.Common.{length, refl, inr, ap}
use Rattle.txn_audit_recordings.proofs.Lines.{named_last}
use Rattle.txn_audit_recordings.proofs.recordings.Recordings.note_new.Goals as goal

pub returns : goal.returns
returns g c = record {
  place = length c.as_slice-place.result.now;
  next_is = refl;
  named = named_last c.args.self.now.clocks.items c.push.new.self.items (length c.as_slice-place.result.now) c.args.source c.in_ok-push.ensures.items (ap length c.as_slice-place.ensures.value);
  clocks_are = inr c.in_ok-push.ensures.items;
  rows_are = refl;
  begins_are = refl;
}
