use Rattle.std.proofs.Common.{◌∙◌, ap}
use Rattle.std.specs.Prelude.{nat_eq}
use Rattle.std.specs.List.{list_any}
use Rattle.txn_manifest.proofs.PinsLemmas.{found_is}
use Rattle.txn_manifest.proofs.pins.Pins.contains.Goals as goal

pub returns : goal.returns
returns c =
    rw (← c.self.view_is)
    (c.is_ok.ensures.value ∙ (found_is c.deref.result.now c.args.id c.binary_search.result c.binary_search.ensures.position (rw (c.deref.ensures.value) c.self.invariant.ascending) ∙ ap (list_any (nat_eq c.args.id)) c.deref.ensures.value))
