use Rattle.std.proofs.Common.{ap, subst, refl, sym, ◌∙◌}
use Rattle.txn_audit_effects.specs.Clocks.{clock_of}
use Rattle.txn_audit.specs.recordings.Places.{HasAsked, as_call}
use Rattle.txn_audit.proofs.recordings.Placed.{with_pair}
use Rattle.txn_audit.proofs.recordings.placing.Placing.take.Goals as goal

pub returns : goal.returns
returns g c =
    let place = c.in-Some.ensures.place in
    record {
      call = as_call c.in-Some.call;
      has = c.in-Some.ensures.has;
      is = rw c.in-Some-2.is at c.in_ok-row.ensures;
      asked = subst (λ clock. HasAsked c.add.new.self clock c.in-Some.call.asked) (c.clock_of.ensures ∙ ap (λ (at : _). clock_of c.args.clocks.now at.recording) (sym place)) c.in_ok-add.ensures.added;
      in_time = c.is_in_time.ensures c.if-not-is_in_time.false;
      first = c.in_ok-note.ensures.new c.if-not-branch.false;
      places = λ recording row is. rw place (with_pair _ _ (c.args.placed.call.recording, c.args.placed.call.row) (recording, row) refl (sym (c.in_ok-insert.ensures.updates.0 (recording, row)) ∙ is));
      keeps = record { asked = c.in_ok-add.ensures.kept; landed = λ client op. c.note.ensures.kept (client, op) };
    }
