use Rattle.std.proofs.Common.{ℕ, ◌≤◌, ◌∙◌, Bool, Option, take, length-take, length, subst, sym, ap, arith}
use Rattle.std.specs.Io.KnownBytes.{Consumes}
use Rattle.std.specs.Io.BufRead.{FillKeeps}
use Rattle.std.proofs.BufReadLemmas.{Consumes_shown}
use Rattle.txn_script_lines.proofs.Pieces.{IsCounted, counted_within, takes_piece, consumed_twice}
use Rattle.txn_script_lines.proofs.lines.take_piece.Goals as goal
use Rattle.txn_script_lines.proofs.lines.take_piece.Goals.{in-Some, in-None}

pub returns-clause-piece : goal.returns-clause-piece
returns-clause-piece g c =
    let room = c.args.room in
    let available = c.in-Ok.available.now in
    let most = c.min.result in
    let shown = take most available in
    let count = c.match-feed_place.count.0 in
    let ended = c.match-feed_place.count.1 in
    let counted : IsCounted c.feed_place.result shown count ended = elim c.match-feed_place.branch [
      | in-Some w ↦ subst (λ (place : Option ℕ). IsCounted place shown count ended) (sym w.in-Some.is) (ap (λ (p : ℕ × Bool). p.0) w.count-is, ap (λ (p : ℕ × Bool). p.1) w.count-is)
      | in-None w ↦ subst (λ (place : Option ℕ). IsCounted place shown count ended) (sym w.in-None.is) (ap (λ (p : ℕ × Bool). p.0) w.count-is, ap (λ (p : ℕ × Bool). p.1) w.count-is ∙ w.is_empty.ensures)
    ] in
    let within : count ≤ length shown = counted_within c.feed_place.result shown count ended c.feed_place.ensures counted in
    let rested = c.fill_buf.follows.lender-at-none in
    let filled = subst (FillKeeps _ (g.R.Read.remaining rested) (g.R.BufRead.consumable_len rested)) c.in-Ok.is c.fill_buf.follows.holds-at-none in
    let consumed : Consumes (g.R.Read.remaining c.args.reader.now) (g.R.Read.remaining c.consume.new.self) (take count shown) =
    let less : count ≤ length available = omega (arith, length-take most available) in
    consumed_twice _ _ available most count within (Consumes_shown _ _ _ _ available count less c.in-Ok.ensures.front c.in-Ok.ensures.end filled.0 filled.1 c.consume.ensures.bytes).0
    in
    takes_piece (g.R.Read.remaining c.args.reader.now) (g.R.Read.remaining c.consume.new.self) c.feed_place.result available c.args.text.now.items c.extend_from_slice.new.self.items room most count ended c.requires (omega arith) c.feed_place.ensures counted consumed c.in-Ok.ensures.end c.in-Ok-extend_from_slice.ensures.items
