use Rattle.std.proofs.Common.{◌≡◌, ◌≤◌, IfSome, vec_len}
use Rattle.txn_script_lines.proofs.Feeds.{InLine}
use Rattle.txn_script_lines.proofs.lines.Lines.read_text.Given as goal

-- so much of the line was read, with no end of it
abbrev pub invariant-loop-piece : goal.invariant-loop-piece
invariant-loop-piece g l = record {
  number : l.self.number ≡ l.fn.self.number;
  short : IfSome l.most (λ most. vec_len l.self.text ≤ most);
  read : InLine (g.R.Read.remaining l.fn.self.reader) (g.R.Read.remaining l.self.reader) l.self.text.items;
}
