-- The texts are equal where their paths are.
use Rattle.std.proofs.Common.{◌∙◌}
use Rattle.txn_store.proofs.TextLemmas.{kept_eq}
use Rattle.txn_store.proofs.path.PathPartialEq.eq.Goals as goal

pub returns : goal.returns
returns c = c.eq.ensures ∙ rw (c.as_str.ensures.value, c.as_str-2.ensures.value) (kept_eq _ _ _ _ c.self.invariant c.other.invariant c.self.view_is c.other.view_is)
