use Rattle.std.proofs.Common.{◌≡◌}
use Rattle.txnworld_commands.proofs.drawings.noting.Noting.note.Given as goal

-- the reader stays as it was
abbrev pub invariant-loop-byte : goal.invariant-loop-byte
invariant-loop-byte g l = l.self.inner ≡ l.fn.self.inner
