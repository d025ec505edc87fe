use Rattle.std.proofs.Common.{arith, Bool, true, false, sym, ◌∙◌, ◌≡◌, ◌<◌, ◌≤◌, ℕ, Option, Some, None, IfSome, length, vec_len, ap, subst}
use Rattle.std.proofs.lemmas.Bool.{eqb-true, eqb-false, ltb-false}
use Rattle.txn_script_lines.specs.Lines.{is_comment}
use Rattle.txn_script_lines.specs.Reading.{TakesPiece, is_above}
use Rattle.txn_script_lines.proofs.Feeds.{line_more, line_whole, line_end, line_read, line_comment, line_long}
use Rattle.txn_script_lines.proofs.lines.Lines.read_text.Goals as goal

-- what is not too long
short_by : (most : Option ℕ) (n : ℕ) → is_above most n ≡ false → IfSome most (λ (m : ℕ). n ≤ m)
short_by None n e = tt
short_by (Some most) n e = ltb-false most n e

pub returns-then-is_empty-clause-ok : goal.returns-then-is_empty-clause-ok
returns-then-is_empty-clause-ok g c =
    let before = g.R.Read.remaining c.loop-piece.self.reader in
    let after = g.R.Read.remaining c.take_piece.new.reader in
    let piece = subst (λ (ended : Bool). TakesPiece before after c.loop-piece.self.text.items c.take_piece.new.text.items ended) c.if-branch.true c.in_ok-take_piece.ensures.piece in
    let none : length c.take_piece.new.text.items ≡ 0 = omega (arith, c.take_piece.new.text.ok.0, eqb-true (vec_len c.take_piece.new.text) 0 (sym c.is_empty.ensures ∙ c.if-is_empty.true)) in
    line_end c.args.most (g.R.Read.remaining c.args.self.now.reader) after c.take_piece.new.text.items (line_whole (g.R.Read.remaining c.args.self.now.reader) before after c.loop-piece.self.text.items c.take_piece.new.text.items c.loop-piece.invariant.read piece) none

pub returns-else-is_empty-clause-ok : goal.returns-else-is_empty-clause-ok
returns-else-is_empty-clause-ok g c =
    let before = g.R.Read.remaining c.loop-piece.self.reader in
    let after = g.R.Read.remaining c.take_piece.new.reader in
    let piece = subst (λ (ended : Bool). TakesPiece before after c.loop-piece.self.text.items c.take_piece.new.text.items ended) c.if-branch.true c.in_ok-take_piece.ensures.piece in
    let some : 0 < length c.take_piece.new.text.items = omega (arith, c.take_piece.new.text.ok.0, eqb-false (vec_len c.take_piece.new.text) 0 (sym c.is_empty.ensures ∙ c.if-is_empty.false)) in
    line_read c.args.most (g.R.Read.remaining c.args.self.now.reader) after c.take_piece.new.text.items (line_whole (g.R.Read.remaining c.args.self.now.reader) before after c.loop-piece.self.text.items c.take_piece.new.text.items c.loop-piece.invariant.read piece) some

pub returns-in-Ok-clause-ok : goal.returns-in-Ok-clause-ok
returns-in-Ok-clause-ok g c =
    let before = g.R.Read.remaining c.loop-piece.self.reader in
    let after = g.R.Read.remaining c.take_piece.new.reader in
    let text = c.take_piece.new.text.items in
    let piece = subst (λ (ended : Bool). TakesPiece before after c.loop-piece.self.text.items text ended) c.if-branch.false c.in_ok-take_piece.ensures.piece in
    let comment : is_comment text ≡ true = ap is_comment (sym c.deref.ensures.value) ∙ sym c.is_comment.ensures ∙ c.if-is_comment.true in
    line_comment c.args.most (g.R.Read.remaining c.args.self.now.reader) after (g.R.Read.remaining c.skip_until.new.self) text (line_more (g.R.Read.remaining c.args.self.now.reader) before after c.loop-piece.self.text.items text c.loop-piece.invariant.read piece) comment c.in-Ok.ensures.rest

pub returns-then-is_too_long-clause-ok : goal.returns-then-is_too_long-clause-ok
returns-then-is_too_long-clause-ok g c =
    let before = g.R.Read.remaining c.loop-piece.self.reader in
    let after = g.R.Read.remaining c.take_piece.new.reader in
    let text = c.take_piece.new.text.items in
    let piece = subst (λ (ended : Bool). TakesPiece before after c.loop-piece.self.text.items text ended) c.if-branch.false c.in_ok-take_piece.ensures.piece in
    let long : is_above c.args.most (length text) ≡ true = ap (is_above c.args.most) (omega (arith, c.take_piece.new.text.ok.0)) ∙ sym c.is_too_long.ensures ∙ c.if-is_too_long.true in
    let kept : is_comment text ≡ false = ap is_comment (sym c.deref.ensures.value) ∙ sym c.is_comment.ensures ∙ c.if-is_comment.false in
    line_long c.args.most (g.R.Read.remaining c.args.self.now.reader) after text (line_more (g.R.Read.remaining c.args.self.now.reader) before after c.loop-piece.self.text.items text c.loop-piece.invariant.read piece) long kept

pub loop-piece-preserved : goal.loop-piece-preserved
loop-piece-preserved g c =
    let before = g.R.Read.remaining c.loop-piece.self.reader in
    let after = g.R.Read.remaining c.take_piece.new.reader in
    let text = c.take_piece.new.text.items in
    let piece = subst (λ (ended : Bool). TakesPiece before after c.loop-piece.self.text.items text ended) c.if-branch.false c.in_ok-take_piece.ensures.piece in
    record {
      number = c.loop-piece.invariant.number;
      short = short_by c.args.most (vec_len c.take_piece.new.text) (ap (is_above c.args.most) (sym c.len-in-loop-piece.ensures) ∙ sym c.is_too_long.ensures ∙ c.if-is_too_long.false);
      read = line_more (g.R.Read.remaining c.args.self.now.reader) before after c.loop-piece.self.text.items text c.loop-piece.invariant.read piece;
    }
