-- The lines that are skipped before the next kept one.
use Rattle.std.proofs.Common.{◌≡◌, ℕ, ◌+◌, ◌<◌, ◌≤◌, List, [], ◌∷◌, ◌++◌, Bool, true, false, length, Option, Some, None, IfSome, refl, sym, ◌∙◌, ap, subst, arith, length-append}
use Rattle.std.proofs.lemmas.Bool.{ltb-true}
use Rattle.std.proofs.lemmas.Option.{same_Some}
use Rattle.std.proofs.lemmas.List.{append_assoc}
use Rattle.std.specs.Io.BufRead.{take_through, drop_through, strip_last, first_piece}
use Rattle.txn_script_lines.specs.declared.lines.Taken.TheVariants as taken
use Rattle.txn_script_lines.specs.Lines.{lines_of, is_skipped, kept}
use Rattle.txn_script_lines.specs.Grammar.{Says}
use Rattle.txn_script_lines.specs.Reading.{is_above, IsRoom, ReadsLine, SkipsTo, SaysOnly, ReadsNext, MeetsBad}
use Rattle.txn_script_lines.proofs.Feeds.{first_line}

-- From line n these lines were skipped, up to line m.
abbrev pub Skipping : Option (List ℕ) → ℕ → Option (List ℕ) → ℕ → Type 0
Skipping old n new m = IfSome old (λ input. (now : List ℕ) × (skipped : List (List ℕ)) × (new ≡ Some now) × (lines_of input ≡ skipped ++ lines_of now) × (kept skipped ≡ []) × (m ≡ n + length skipped))

kept_by : (l : List ℕ) (ls : List (List ℕ)) (line : List ℕ) (b : Bool) → is_skipped l ≡ b → kept (l ∷ ls) ≡ [] → (kept ls ≡ [] → kept (ls ++ line ∷ []) ≡ []) → kept (l ∷ (ls ++ line ∷ [])) ≡ []
kept_by l ls line true e none more = rw e (more (rw e at none))
kept_by l ls line false e none more = let some = rw e at none in absurd (cc)

kept_push : (lines : List (List ℕ)) (line : List ℕ) → kept lines ≡ [] → is_skipped line ≡ true → kept (lines ++ line ∷ []) ≡ []
kept_push [] line none skipped = rw skipped refl
kept_push (l ∷ ls) line none skipped = kept_by l ls line (is_skipped l) refl none (λ h. kept_push ls line h skipped)

-- the line at which lines were skipped so far
skip_by : (input now rest : List ℕ) (skipped : List (List ℕ)) (line : List ℕ) → lines_of input ≡ skipped ++ lines_of now → lines_of now ≡ line ∷ lines_of rest → lines_of input ≡ (skipped ++ line ∷ []) ++ lines_of rest
skip_by input now rest skipped line all first = all ∙ ap (λ ls. skipped ++ ls) first ∙ sym (append_assoc skipped (line ∷ []) (lines_of rest))

skip_one : (input now rest : List ℕ) (n m : ℕ) (skipped : List (List ℕ)) (line : List ℕ) (new : Option (List ℕ)) → lines_of input ≡ skipped ++ lines_of now → kept skipped ≡ [] → m ≡ n + length skipped → lines_of now ≡ line ∷ lines_of rest → is_skipped line ≡ true → new ≡ Some rest → Skipping (Some input) n new (m + 1)
skip_one input now rest n m skipped line new all none number first is_one is_new =
    (rest, skipped ++ line ∷ [], is_new, skip_by input now rest skipped line all first, kept_push skipped line none is_one, omega (arith, number, length-append skipped (line ∷ [])))

-- a comment
pub skip_comment : (most : Option ℕ) (old mid new : Option (List ℕ)) (n m : ℕ) (text : List ℕ) → Skipping old n mid m → ReadsLine most mid new text taken.Comment → Skipping old n new (m + 1)
skip_comment most None mid new n m text on read = tt
skip_comment most (Some input) mid new n m text on read =
    let here : ReadsLine most (Some on.0) new text taken.Comment = subst (λ o. ReadsLine most o new text taken.Comment) on.2 read in
    skip_one input on.0 (drop_through 10 on.0) n m on.1 (first_piece 10 on.0) new on.3 on.4 on.5 (first_line on.0 here.0) here.1 here.2

taken_some : (input text : List ℕ) → 0 < length text → text ≡ take_through 10 input → 0 < length input
taken_some [] text some is = absurd (omega (arith, some, ap length is))
taken_some (b ∷ bs) text some is = omega arith

-- a whole line that is skipped
pub skip_line : (most : Option ℕ) (old mid new : Option (List ℕ)) (n m : ℕ) (text line : List ℕ) → Skipping old n mid m → ReadsLine most mid new text taken.Line → line ≡ strip_last 10 text → is_skipped line ≡ true → Skipping old n new (m + 1)
skip_line most None mid new n m text line on read is skipped = tt
skip_line most (Some input) mid new n m text line on read is skipped =
    let here : ReadsLine most (Some on.0) new text taken.Line = subst (λ o. ReadsLine most o new text taken.Line) on.2 read in
    let piece : line ≡ first_piece 10 on.0 = is ∙ ap (strip_last 10) here.1 in
    skip_one input on.0 (drop_through 10 on.0) n m on.1 (first_piece 10 on.0) new on.3 on.4 on.5 (first_line on.0 (taken_some on.0 text here.0 here.1)) (ap is_skipped (sym piece) ∙ skipped) here.2

skips_to : (input now : List ℕ) (n m : ℕ) (skipped : List (List ℕ)) (left : List (List ℕ)) → lines_of input ≡ skipped ++ lines_of now → kept skipped ≡ [] → m ≡ n + length skipped → lines_of now ≡ left → SkipsTo input n (m + 1) left
skips_to input now n m skipped left all none number first =
    record { skipped = skipped; lines = all ∙ ap (λ ls. skipped ++ ls) first; none_kept = none; number = omega (arith, number) }

-- the first line of what is left
first_kept : (left text bytes : List ℕ) → 0 < length text → text ≡ take_through 10 left → bytes ≡ strip_last 10 text → lines_of left ≡ bytes ∷ lines_of (drop_through 10 left)
first_kept left text bytes some taken is = first_line left (taken_some left text some taken) ∙ ap (λ l. l ∷ lines_of (drop_through 10 left)) (sym (is ∙ ap (strip_last 10) taken))

-- what is longer than all that is kept says nothing
not_long : {L : Type 0} (text : L → List ℕ) (fits : L → Type 0) (most room : Option ℕ) (bytes : List ℕ) → IsRoom most room → IfSome most (λ m. (v : L) → fits v → length (text v) ≤ m) → is_above room (length bytes) ≡ true → (line : L) → ¬ (Says text fits bytes line)
not_long text fits None None bytes fit short above line said = absurd (cc)
not_long text fits None (Some room) bytes fit short above line said = absurd (cc)
not_long text fits (Some most) None bytes fit short above line said = absurd (cc)
not_long text fits (Some most) (Some room) bytes fit short above line said = omega (arith, fit, ltb-true room (length bytes) above, ap length said.words, short line said.numbers)

module _ {L : Type 0} (text : L → List ℕ) (fits : L → Type 0) (most : Option ℕ) where
  -- a line that is kept, and says something
  pub next_some : (old mid new : Option (List ℕ)) (n m : ℕ) (whole bytes : List ℕ) (line : L) → Skipping old n mid m → ReadsLine most mid new whole taken.Line → bytes ≡ strip_last 10 whole → is_skipped bytes ≡ false → SaysOnly text fits bytes line → ReadsNext text fits old n new (m + 1) (Some line)
  next_some None mid new n m whole bytes line on read is unskipped says = tt
  next_some (Some input) mid new n m whole bytes line on read is unskipped says =
      let here : ReadsLine most (Some on.0) new whole taken.Line = subst (λ o. ReadsLine most o new whole taken.Line) on.2 read in
      let first = first_kept on.0 whole bytes here.0 here.1 is in
      (drop_through 10 on.0, here.2, (bytes, skips_to input on.0 n m on.1 (bytes ∷ lines_of (drop_through 10 on.0)) on.3 on.4 on.5 first, unskipped, says))

  -- a line that is kept, and says nothing
  pub next_bad : (old mid new : Option (List ℕ)) (n m : ℕ) (whole bytes : List ℕ) → Skipping old n mid m → ReadsLine most mid new whole taken.Line → bytes ≡ strip_last 10 whole → is_skipped bytes ≡ false → ((line : L) → ¬ (Says text fits bytes line)) → MeetsBad text fits old n (m + 1)
  next_bad None mid new n m whole bytes on read is unskipped says = tt
  next_bad (Some input) mid new n m whole bytes on read is unskipped says =
      let here : ReadsLine most (Some on.0) new whole taken.Line = subst (λ o. ReadsLine most o new whole taken.Line) on.2 read in
      let first = first_kept on.0 whole bytes here.0 here.1 is in
      (bytes, lines_of (drop_through 10 on.0), skips_to input on.0 n m on.1 (bytes ∷ lines_of (drop_through 10 on.0)) on.3 on.4 on.5 first, unskipped, says)

  -- a line that is too long
  pub next_long : (bound : Option ℕ) (old mid new : Option (List ℕ)) (n m : ℕ) (whole : List ℕ) → IsRoom bound most → IfSome bound (λ b. (v : L) → fits v → length (text v) ≤ b) → Skipping old n mid m → ReadsLine most mid new whole taken.TooLong → MeetsBad text fits old n (m + 1)
  next_long bound None mid new n m whole fit short on read = tt
  next_long bound (Some input) mid new n m whole fit short on read =
      let here : ReadsLine most (Some on.0) new whole taken.TooLong = subst (λ o. ReadsLine most o new whole taken.TooLong) on.2 read in
      (first_piece 10 on.0, lines_of (drop_through 10 on.0), skips_to input on.0 n m on.1 (first_piece 10 on.0 ∷ lines_of (drop_through 10 on.0)) on.3 on.4 on.5 (first_line on.0 here.0), here.1, not_long text fits bound most (first_piece 10 on.0) fit short here.2)

-- what is read of the bytes says them alone
module _ {L : Type 0} (text : L → List ℕ) (fits : L → Type 0) where
  pub says_only : (bytes : List ℕ) (line : L) → Says text fits bytes line → ((other : L) → Says text fits bytes other → Some line ≡ Some other) → SaysOnly text fits bytes line
  says_only bytes line says all = record {
    says = says;
    only = λ other said. sym (same_Some line other (all other said));
  }

  pub says_none : (bytes : List ℕ) → ((line : L) → Says text fits bytes line → None ≡ Some line) → (line : L) → ¬ (Says text fits bytes line)
  says_none bytes all line said = let same : None ≡ Some line = all line said in cc
