-- The text begins with the prefix's text, and has more.
use Rattle.std.proofs.Common.{◌≡◌, ◌∙◌, ◌&&◌, length}
use Rattle.std.specs.Prelude.{nat_lt}
use Rattle.txn_store.specs.Paths.{is_below}
use Rattle.txn_store.proofs.TextLemmas.{kept_below}
use Rattle.txn_store.proofs.path.Path.is_below.Goals as goal
use Rattle.txn_store.proofs.path.Path.is_below.Goals.{After-starts_with}

below : (c : After-starts_with) → (c.starts_with.result && nat_lt (length c.as_bytes-front.result.now) (length c.as_bytes-text.result.now)) ≡ is_below c.args.prefix.now c.args.self.now
below c =
    let value = kept_below _ _ _ _ c.prefix.invariant c.self.invariant c.prefix.view_is c.self.view_is in
    rw (c.starts_with.ensures.value, c.as_bytes-front.ensures.value, c.as_bytes-text.ensures.value) value

pub returns-then-starts_with : goal.returns-then-starts_with
returns-then-starts_with c = rw c.if-starts_with.true at (below (goal.at.returns-then-starts_with c).After-starts_with)

pub returns-else-starts_with : goal.returns-else-starts_with
returns-else-starts_with c = c.if-starts_with.false ∙ rw c.if-starts_with.false at (below (goal.at.returns-else-starts_with c).After-starts_with)
