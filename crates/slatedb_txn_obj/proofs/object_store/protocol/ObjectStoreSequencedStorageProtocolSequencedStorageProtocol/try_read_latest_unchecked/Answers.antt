-- A read leaves the file of the boundary.
use Rattle.slatedb_txn_obj.proofs.AtHand.{read-at_hand}
use Rattle.slatedb_txn_obj.proofs.Leaving.{same-kept}
use Rattle.slatedb_txn_obj.proofs.Wholes.{whole-found, whole-read, whole-warm, whole-latest_cause, turns_few, turns_enough}
use Rattle.slatedb_txn_obj.proofs.object_store.protocol.ObjectStoreSequencedStorageProtocolSequencedStorageProtocol.try_read_latest_unchecked.Goals as goal

pub returns-clause-found : goal.returns-clause-found
returns-clause-found g c = rw (← c.self.view_is, c.widened.ensures) (whole-found _ _ _ _ _ _ _ _ _ (λ b same bounds. g.met.B.BoundaryObject.bounds_frame c.self.inside.boundary c.args.store.now c.read_latest-result.new.store b same bounds) _ _ _ c.read_latest-result.result c.read_latest-result.ensures)

pub returns-clause-kept : goal.returns-clause-kept
returns-clause-kept g c = rw (← c.self.view_is) (whole-read _ _ _ _ _ _ _ _ _ (λ b same bounds. g.met.B.BoundaryObject.bounds_frame c.self.inside.boundary c.args.store.now c.read_latest-result.new.store b same bounds) _ _ _ c.read_latest-result.result c.read_latest-result.ensures)

pub returns-clause-few : goal.returns-clause-few
returns-clause-few g c = rw (← c.self.view_is) (λ h b whole. turns_few _ _ _ _ _ _ _ _ _ c.self.invariant _ c.read_latest-result.ensures)

pub returns-clause-enough : goal.returns-clause-enough
returns-clause-enough g c = rw (← c.self.view_is, c.widened.ensures) (λ h b whole. turns_enough _ _ _ _ _ _ _ _ _ c.self.invariant _ c.read_latest-result.ensures)

pub returns-clause-warm : goal.returns-clause-warm
returns-clause-warm g c = rw (← c.self.view_is, c.widened.ensures) (whole-warm _ _ _ _ _ _ _ _ _ (λ b same bounds. g.met.B.BoundaryObject.bounds_frame c.self.inside.boundary c.args.store.now c.read_latest-result.new.store b same bounds) _ _ _ c.read_latest-result.result c.read_latest-result.ensures)

pub returns-clause-cause : goal.returns-clause-cause
returns-clause-cause g c = rw (← c.self.view_is, c.widened.ensures) (whole-latest_cause _ _ _ _ _ _ _ _ _ _ _ c.read_latest-result.result c.read_latest-result.ensures)

pub returns-clause-files : goal.returns-clause-files
returns-clause-files g c = same-kept c.read_latest-result.ensures.kept

pub returns-clause-held : goal.returns-clause-held
returns-clause-held g c = rw c.widened.ensures (read-at_hand _ _ _ _ _ _ _ _ _ c.read_latest-result.result c.as_slice.ensures.ascends c.read_latest-result.ensures)
