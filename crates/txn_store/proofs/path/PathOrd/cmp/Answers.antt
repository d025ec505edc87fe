-- The texts stand in the order of their paths.
use Rattle.std.proofs.Common.{◌∙◌}
use Rattle.txn_store.proofs.TextLemmas.{kept_cmp}
use Rattle.txn_store.proofs.path.PathOrd.cmp.Goals as goal

pub returns : goal.returns
returns c = c.cmp.ensures ∙ rw (c.as_str.ensures.value, c.as_str-2.ensures.value) (kept_cmp _ _ _ _ c.self.invariant c.other.invariant c.self.view_is c.other.view_is)
