-- A write leaves each file that is not its protocol's own.
use Rattle.std.proofs.lemmas.Result.{IfOk-weaker}
use Rattle.slatedb_txn_obj.proofs.Leaving.{others-create, own-apart}
use Rattle.slatedb_txn_obj_uses.proofs.beside.write_beside.Goals as goal

pub returns-in_err-write-clause-kept : goal.returns-in_err-write-clause-kept
returns-in_err-write-clause-kept g c apart h b stands =
    g.met.Q.TransactionalStorageProtocol.stands_frame c.args.other.now c.args.store.now c.write.new.store h b (own-apart apart (others-create _ (g.met.P.TransactionalStorageProtocol.owns_version _ _) c.write.ensures.creates)) stands

pub returns-clause-kept : goal.returns-clause-kept
returns-clause-kept g c apart h b stands =
    c.try_read_latest.ensures.kept h b (g.met.Q.TransactionalStorageProtocol.stands_frame c.args.other.now c.args.store.now c.write.new.store h b (own-apart apart (others-create _ (g.met.P.TransactionalStorageProtocol.owns_version _ _) c.write.ensures.creates)) stands)

pub returns-clause-latest : goal.returns-clause-latest
returns-clause-latest g c =
    IfOk-weaker c.try_read_latest.result _ _ (λ read shows apart h b stands. shows h b (g.met.Q.TransactionalStorageProtocol.stands_frame c.args.other.now c.args.store.now c.write.new.store h b (own-apart apart (others-create _ (g.met.P.TransactionalStorageProtocol.owns_version _ _) c.write.ensures.creates)) stands)) c.try_read_latest.ensures.latest
