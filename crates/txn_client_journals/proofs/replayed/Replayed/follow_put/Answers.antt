use Rattle.std.proofs.Common.{◌≡◌, ◌∙◌, refl, sym, ap}
use Rattle.std.specs.FinMap.{get}
use Rattle.txn_store.specs.Store.{put_fault}
use Rattle.txn_client_journals.proofs.Following.{put_error_follows, put_follows, not_some}
use Rattle.txn_client_journals.proofs.replayed.Replayed.follow_put.Goals as goal

pub returns-else-self-eq0 : goal.returns-else-self-eq0
returns-else-self-eq0 c = rw c.in-Ok.is
    (λ store s. (
    let kept = c.args.self.now in
    let is : c.fault_of_put-fault.result ≡ put_fault c.args.mode.now (get kept.files c.args.path.now) = c.fault_of_put-fault.ensures ∙ ap (put_fault c.args.mode.now) c.get.ensures.got in
    let allowed = not_some c.fault_of_put-fault.result _ is (sym c.is_some.ensures ∙ c.if-is_some.false) in
    put_follows c.args.path.now c.args.bytes.now c.args.mode.now kept store s c.in-Ok.token c.put.new.self c.put.result allowed c.put.ensures.ok c.put.ensures.err c.put.ensures.fault))

pub returns-in-Err : goal.returns-in-Err
returns-in-Err c = rw c.in-Err.is
    (λ store s. put_error_follows c.args.path.now c.args.bytes.now c.args.mode.now c.args.self.now store s c.fault_of_put-fault.result _ c.in-Err.error c.take_error.result (c.fault_of_put-fault.ensures ∙ ap (put_fault c.args.mode.now) c.get.ensures.got) refl c.take_error.ensures.ok c.take_error.ensures.err)
