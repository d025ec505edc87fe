use Rattle.std.proofs.Common.{◌≡◌, true, Option, IfSome, sym, ◌∙◌, ap, subst}
use Rattle.txn_script_lines.specs.Grammar.{Says}
use Rattle.std.specs.Io.BufRead.{strip_last}
use Rattle.txn_script_lines.specs.Lines.{is_skipped}
use Rattle.txn_script_lines.proofs.Skips.{skip_comment, skip_line, next_some, next_bad, next_long, says_only, says_none}
use Rattle.txn_script_lines.proofs.lines.Lines.next_line.Goals.{After-without_feed-line}
use Rattle.txn_script_lines.proofs.lines.Lines.next_line.Goals as goal

-- the bytes of a line without its line feed
line_is : (g : _) (c : After-without_feed-line g) → c.without_feed-line.result.now ≡ strip_last 10 c.read_text.new.self.text.items
line_is g c = c.without_feed-line.ensures ∙ ap (strip_last 10) c.deref.ensures.value

pub loop-self-preserved-in-Comment : goal.loop-self-preserved-in-Comment
loop-self-preserved-in-Comment g c =
    rw c.read_text.ensures.number (skip_comment c.most_kept-most.result _ _ _ _ _ c.read_text.new.self.text.items c.loop-self.invariant (rw c.in-Comment.is at c.in_ok-read_text.ensures.ok))

pub returns-in-TooLong-clause-bad : goal.returns-in-TooLong-clause-bad
returns-in-TooLong-clause-bad g c =
    let read = rw c.in-TooLong.is at c.in_ok-read_text.ensures.ok in
    rw (c.bad.ensures, c.read_text.ensures.number) (next_long g.L.TextForm.text g.L.TextForm.fits c.most_kept-most.result c.most_bytes.result _ _ (g.R.Read.remaining c.read_text.new.self.reader) _ _ c.read_text.new.self.text.items c.most_kept-most.ensures c.most_bytes.ensures.short c.loop-self.invariant read)

pub loop-self-preserved : goal.loop-self-preserved
loop-self-preserved g c =
    let line = line_is g (goal.at.loop-self-preserved g c).After-without_feed-line in
    let skipped : is_skipped c.without_feed-line.result.now ≡ true = sym c.is_skipped.ensures ∙ c.if-is_skipped.true in
    rw c.read_text.ensures.number (skip_line c.most_kept-most.result _ _ _ _ _ _ c.without_feed-line.result.now c.loop-self.invariant (rw c.in-Line.is at c.in_ok-read_text.ensures.ok) line skipped)

pub returns-in-Ok-None-clause-bad : goal.returns-in-Ok-None-clause-bad
returns-in-Ok-None-clause-bad g c =
    let bytes = c.without_feed-line.result.now in
    let line = line_is g (goal.at.returns-in-Ok-None-clause-bad g c).After-without_feed-line in
    let says = says_none g.L.TextForm.text g.L.TextForm.fits bytes (λ (l : g.row.L.Denot) said. sym c.in-Ok-None.field-0-is ∙ c.in-Ok-None.ensures.all l said) in
    rw (c.bad-in-Ok-None.ensures, c.read_text.ensures.number) (next_bad g.L.TextForm.text g.L.TextForm.fits c.most_kept-most.result _ _ _ _ _ _ bytes c.loop-self.invariant (rw c.in-Line.is at c.in_ok-read_text.ensures.ok) line (sym c.is_skipped.ensures ∙ c.if-is_skipped.false) says)

pub returns-in-Ok-Some-clause-ok : goal.returns-in-Ok-Some-clause-ok
returns-in-Ok-Some-clause-ok g c =
    let bytes = c.without_feed-line.result.now in
    let line = line_is g (goal.at.returns-in-Ok-Some-clause-ok g c).After-without_feed-line in
    let one = subst (λ (o : Option g.row.L.Denot). IfSome o (Says g.L.TextForm.text g.L.TextForm.fits bytes)) c.in-Ok-Some.field-0-is c.in-Ok-Some.ensures.says in
    let says = says_only g.L.TextForm.text g.L.TextForm.fits bytes c.in-Ok-Some.line one (λ (l : g.row.L.Denot) said. sym c.in-Ok-Some.field-0-is ∙ c.in-Ok-Some.ensures.all l said) in
    rw c.read_text.ensures.number (next_some g.L.TextForm.text g.L.TextForm.fits c.most_kept-most.result _ _ _ _ _ _ bytes c.in-Ok-Some.line c.loop-self.invariant (rw c.in-Line.is at c.in_ok-read_text.ensures.ok) line (sym c.is_skipped.ensures ∙ c.if-is_skipped.false) says)
