use Rattle.std.proofs.Common.{◌∙◌, ◌≤◌, length, ap, sym, arith}
use Rattle.txn_history.specs.Lists.{numbered}
use Rattle.txn_world.specs.Owning.{emptied_where}
use Rattle.txn_world.proofs.Running.{set_of}
use Rattle.txn_world.proofs.Owning.{owned_found, owned_crashed, crashed_views}
use Rattle.txn_world.proofs.views.Views.crash.Goals as goal

pub end_views-requires : goal.end_views-requires
end_views-requires g c = λ n there.
    let t = c.args.self.now in
    owned_found t.owned.items t.used.items c.args.client n t.all_owned (set_of t.owned.items c.args.client n c.index.result.now c.requires.some (omega (arith, c.requires.within, t.each, t.owned.ok.0)) c.index.ensures ∙ there)

pub invariant_of-self : goal.invariant_of-self
invariant_of-self g c =
    let t = c.args.self.now in
    let within : c.args.client ≤ length t.owned.items = omega (arith, c.requires.within, t.each, t.owned.ok.0) in
    record {
      each = c.clear.ensures.len ∙ t.each;
      all_owned = owned_crashed t.owned.items c.clear.new.sets.items t.used.items c.end_views.new.used.items c.args.client t.all_owned c.clear.ensures.left (λ n. c.end_views.ensures n ∙ ap (λ b. emptied_where b (numbered t.used.items n)) (sym (set_of t.owned.items c.args.client n c.index.result.now c.requires.some within c.index.ensures)));
    }

pub returns-clause-used : goal.returns-clause-used
returns-clause-used g c =
    let t = c.args.self.now in
    let within : c.args.client ≤ length t.owned.items = omega (arith, c.requires.within, t.each, t.owned.ok.0) in
    crashed_views t.owned.items t.used.items c.end_views.new.used.items c.args.client t.all_owned (λ n. c.end_views.ensures n ∙ ap (λ b. emptied_where b (numbered t.used.items n)) (sym (set_of t.owned.items c.args.client n c.index.result.now c.requires.some within c.index.ensures)))
