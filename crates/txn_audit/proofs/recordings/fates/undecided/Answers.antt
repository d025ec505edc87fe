use Rattle.std.proofs.Common.{◌≡◌, ◌∙◌, sym, ap, ℕ, List, min, length, arith}
use Rattle.std.proofs.lemmas.List.{length-map}
use Rattle.txn_audit_recordings.specs.declared.row.RecordedRow.{RecordedRow}
use Rattle.txn_audit.specs.recordings.Undecided.{version_shown, boundary_shown, lost_of, undecided}
use Rattle.txn_audit.proofs.recordings.Counting.{all_lost_more}
use Rattle.txn_audit.proofs.recordings.fates.undecided.Goals as goal

pub loop-recording-preserved : goal.loop-recording-preserved
loop-recording-preserved g c =
    let l = c.loop-recording in
    let rows = c.index-recordings-recording.result in
    all_lost_more (λ rows. rows.items) c.args.recordings.now l.recording rows c.loop-recording-test.true c.index-recordings-recording.is c.reach_of-reach.result.version c.reach_of-reach.result.boundary l.lost c.saturating_add-lost.result 18446744073709551615 l.invariant (rw (← c.as_slice.ensures.value) (rw (← c.lost_in-more.ensures) c.saturating_add-lost.ensures))

-- at the end all are counted
all_counted : {T : Type 0} (all : List (List (RecordedRow T))) (version boundary at lost : ℕ) → version ≡ version_shown all → boundary ≡ boundary_shown all → at ≡ length all → lost ≡ min (lost_of version boundary all at) 18446744073709551615 → lost ≡ min (undecided all) 18446744073709551615
all_counted all version boundary at lost v b e is = is ∙ ap (λ (n : ℕ). min n 18446744073709551615) (ap (λ (n : ℕ). lost_of n boundary all at) v ∙ ap (λ (n : ℕ). lost_of (version_shown all) n all at) b ∙ ap (λ (n : ℕ). lost_of (version_shown all) (boundary_shown all) all n) e)

pub returns : goal.returns
returns g c =
    let end : c.loop-recording.recording ≡ length c.args.recordings.now = omega (arith, c.loop-recording-test.false, c.loop-recording.auto.recording-end) in
    all_counted _ c.reach_of-reach.result.version c.reach_of-reach.result.boundary c.loop-recording.recording c.loop-recording.lost c.reach_of-reach.ensures.version c.reach_of-reach.ensures.boundary (end ∙ sym (length-map c.args.recordings.now (λ rows. rows.items))) c.loop-recording.invariant
