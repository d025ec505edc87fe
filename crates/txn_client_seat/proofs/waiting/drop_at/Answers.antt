use Rattle.std.proofs.Common.{rules, ◌==◌, not}
use Rattle.std.proofs.lemmas.Fn.{filter_same}
use Rattle.txn_client_seat.proofs.waiting.drop_at.Goals as goal

pub returns-clause-items : goal.returns-clause-items
returns-clause-items g c = filter_same _ (λ one. not (one.0 == c.args.number)) _ (λ x b f' k. search rules) _ _ c.retain.ensures.filtered
