-- A write leaves the file of the boundary.
use Rattle.std.proofs.lemmas.Result.{IfOk-weaker}
use Rattle.txn_steps_driven.proofs.PageCounts.{pages_written}
use Rattle.slatedb_txn_obj.proofs.AtHand.{write-at_hand}
use Rattle.slatedb_txn_obj.proofs.Leaving.{written-creates, written-stood}
use Rattle.slatedb_txn_obj.proofs.Wholes.{whole-answered, whole-conflict, whole-refused, whole-full, whole-exhausted}
use Rattle.slatedb_txn_obj.proofs.object_store.protocol.ObjectStoreSequencedStorageProtocolSequencedStorageProtocol.write_unchecked.Goals as goal

pub returns-clause-entered : goal.returns-clause-entered
returns-clause-entered g c = rw (← c.self.view_is, c.widened.ensures) (whole-answered _ _ _ _ _ _ _ _ _ _ _ _ (λ b same bounds. g.met.B.BoundaryObject.bounds_frame c.self.inside.boundary c.args.store.now c.write_version-result.new.store b same bounds) c.write_version-result.result c.write_version-result.ensures)

pub returns-clause-conflict : goal.returns-clause-conflict
returns-clause-conflict g c = rw (← c.self.view_is, c.widened.ensures) (whole-conflict _ _ _ _ _ _ _ _ _ _ _ _ (λ b same bounds. g.met.B.BoundaryObject.bounds_frame c.self.inside.boundary c.args.store.now c.write_version-result.new.store b same bounds) c.write_version-result.result c.write_version-result.ensures)

pub returns-clause-err : goal.returns-clause-err
returns-clause-err g c = rw (← c.self.view_is, c.widened.ensures) (whole-refused _ _ _ _ _ _ _ _ _ _ _ _ (λ b same bounds. g.met.B.BoundaryObject.bounds_frame c.self.inside.boundary c.args.store.now c.write_version-result.new.store b same bounds) c.write_version-result.result c.write_version-result.ensures)

pub returns-clause-paged : goal.returns-clause-paged
returns-clause-paged g c = rw (← c.self.view_is) (pages_written _ c.self.inside.layout.page _ _ _ _ _ _ _ _ _ c.self.invariant c.write_version-result.ensures)

pub returns-clause-creates : goal.returns-clause-creates
returns-clause-creates g c = rw (← c.self.view_is) (written-creates c.args.base c.write_version-result.result c.write_version-result.ensures)

pub returns-clause-stood : goal.returns-clause-stood
returns-clause-stood g c = rw c.widened.ensures (written-stood c.write_version-result.result c.write_version-result.ensures)

pub returns-clause-full : goal.returns-clause-full
returns-clause-full g c = rw c.widened.ensures (whole-full _ _ _ _ _ _ _ _ _ _ _ _ (λ b same bounds. g.met.B.BoundaryObject.bounds_frame c.self.inside.boundary c.args.store.now c.write_version-result.new.store b same bounds) c.write_version-result.result c.write_version-result.ensures)

pub returns-clause-exhausted : goal.returns-clause-exhausted
returns-clause-exhausted g c = rw (← c.self.view_is, c.widened.ensures) (whole-exhausted _ _ _ _ _ _ _ _ _ _ _ _ (λ b same bounds. g.met.B.BoundaryObject.bounds_frame c.self.inside.boundary c.args.store.now c.write_version-result.new.store b same bounds) c.write_version-result.result c.write_version-result.ensures)

pub returns-clause-held : goal.returns-clause-held
returns-clause-held g c = rw (← c.self.view_is, c.widened.ensures) (IfOk-weaker c.write_version-result.result _ _ (λ id at h b whole newest. at h b whole.versions.window_fits newest) (write-at_hand _ _ _ _ _ _ _ _ _ c.write_version-result.result c.as_slice.ensures.ascends c.write_version-result.ensures))
