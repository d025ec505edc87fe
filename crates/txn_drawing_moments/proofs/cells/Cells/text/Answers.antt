use Rattle.std.proofs.Common.{◌≡◌, ◌<◌, ◌+◌, ◌++◌, ◌∙◌, sym, ap, arith, length, replicate, string_bytes, encode_utf8}
use Rattle.std.proofs.lemmas.List.{get_or_read}
use Rattle.txn_drawing_moments.proofs.Filling.{blank_more, sign_more}
use Rattle.txn_drawing_moments.proofs.cells.Cells.text.Goals as goal
use Rattle.txn_drawing_moments.proofs.cells.Cells.text.Goals.{then-cell-eq32, else-cell-eq32+else-loop-test+in_ok-push-2}

pub loop-cell-preserved : goal.loop-cell-preserved
loop-cell-preserved c =
    let xs = c.deref-cell-items.result.now in
    let i = c.loop-cell.cell-index in
    let so_far = c.loop-cell.invariant in
    let lt : i < length xs = omega (arith, c.loop-cell-test.true) in
    let item = get_or_read xs i c.cell-item.result lt c.cell-item.is 0 in
    elim c.if-cell-eq32.branch [
      | then-cell-eq32 w ↦
          let blanks : c.if-cell-eq32.blanks ≡ c.loop-cell.blanks + 1 = omega (arith, w.blanks-is, w.saturating_add-blanks.ensures, so_far.1, lt, c.deref-cell-items.ensures.len) in (
            ap (λ it. string_bytes it ++ replicate c.if-cell-eq32.blanks 32) w.text-is ∙ ap (λ it. string_bytes c.loop-cell.text ++ replicate it 32) blanks ∙ blank_more xs (string_bytes c.loop-cell.text) i c.loop-cell.blanks lt (sym item ∙ w.if-cell-eq32.true) so_far.0,
            omega (arith, blanks, so_far.1),
          )
      | else-cell-eq32+else-loop-test+in_ok-push-2 w ↦
          let many : w.loop.counter ≡ c.loop-cell.blanks = omega (arith, w.loop-test.false, w.loop.auto.counter-end) in
          let text : string_bytes w.loop.text ≡ string_bytes c.loop-cell.text ++ replicate c.loop-cell.blanks 32 = w.loop.invariant ∙ ap (λ it. string_bytes c.loop-cell.text ++ replicate it 32) many in
          let is = w.in_ok-push-2.ensures.bytes ∙ ap (λ it. it ++ encode_utf8 c.cell-item.result) text ∙ ap (λ it. (string_bytes c.loop-cell.text ++ replicate c.loop-cell.blanks 32) ++ encode_utf8 it) item in (
            ap (λ it. string_bytes it ++ replicate c.if-cell-eq32.blanks 32) w.text-is ∙ ap (λ it. string_bytes w.push-else-cell-eq32.new.self ++ replicate it 32) w.blanks-is ∙ sign_more xs (string_bytes c.loop-cell.text) (string_bytes w.push-else-cell-eq32.new.self) i c.loop-cell.blanks lt so_far.0 is,
            omega (arith, w.blanks-is),
          )
    ]
