-- Each call goes on where the calls before it led.
use Rattle.std.proofs.Common.{◌≡◌, ◌+◌, [], ◌∷◌, ◌++◌, length, take, sym, ap, ◌∙◌, arith}
use Rattle.std.proofs.lemmas.List.{take_more, length_push}
use Rattle.slatedb_txn_obj_uses.specs.declared.one_client.Call.{Call}
use Rattle.slatedb_txn_obj_uses.proofs.Running.{run_on}
use Rattle.slatedb_txn_obj_uses.proofs.one_client.perform_all.Goals as goal

pub loop-call-preserved : goal.loop-call-preserved
loop-call-preserved g c =
    let Now = g.P.SequencedStorageProtocol.stands c.loop-call.protocol c.loop-call.store in
    let Then = g.P.SequencedStorageProtocol.stands c.perform-reply.new.protocol c.perform-reply.new.store in
    let i = c.loop-call.invariant in
    let called : take (c.loop-call.call-index + 1) c.args.calls.now ≡ take c.loop-call.call-index c.args.calls.now ++ c.call-item.result ∷ [] = take_more c.args.calls.now c.loop-call.call-index c.call-item.result c.loop-call-test.true ∙ ap (λ (x : Call g.row.T.Denot). take c.loop-call.call-index c.args.calls.now ++ x ∷ []) (sym c.call-item.is) in
    let told = c.push_reserved.ensures.items in
    let room = c.push_reserved.ensures.capacity in
    record {
      runs = λ h b stands. rw (called, told) (run_on Now Then c.call-item.result c.perform-reply.result c.perform-reply.ensures h b _ _ (i.runs h b stands));
      each = ap length told ∙ (length_push c.loop-call.replies.items c.perform-reply.result ∙ ap (λ n. n + 1) i.each);
      room = omega (arith, i.room, room);
    }
