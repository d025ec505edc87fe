-- What a script prints, one line after another.
use Rattle.std.proofs.Common.{◌≡◌, ℕ, List, [], ◌∷◌, ◌++◌, Bool, true, false, length, Option, Some, None, IfSome, inl, inr, refl, sym, ◌∙◌, ap, subst, arith, length-append}
use Rattle.std.proofs.lemmas.List.{append_assoc, append-nil}
use Rattle.std.specs.Io.KnownBytes.{Appends}
use Rattle.txn_machine.specs.Machine.{State, opening}
use Rattle.txn_script_lines.specs.declared.line.Line.{Line}
use Rattle.txn_script_lines.specs.declared.line.Line.TheVariants as lines
use Rattle.txn_script_lines.specs.declared.stop.Stop.{Stop}
use Rattle.txn_script_lines.specs.declared.stop.Stop.TheVariants as stops
use Rattle.txn_script_lines.specs.Lines.{lines_of, is_skipped, kept}
use Rattle.txn_script_lines.specs.Reading.{OnBadLine, SkipsTo}
use Rattle.txn_script.specs.Rules.{Rules}
use Rattle.txn_script.specs.Script.{Stage, SaysLine, IsPage, PageSteps, EventSteps, MayStand, LineSteps, Plays, EndsWith, IsBadNext, IsBadLine, IsFront, IsEndFront, LeadsTo, IsPrinted, IsPrintedBefore, IsFrontPrinted, StopsAfter}
use Rattle.txn_script.specs.Reading.{NextLine, ReadsNextLine, MeetsBadLine, OpensWorld, OpensBad}
use Rattle.txn_script.specs.Printing.{Misplaced, StopsLine, StopsInEnd}
use Rattle.txn_script.proofs.Ending.{appends_nothing, appends_both}

-- the lines that are kept

kept_of : (l : List ℕ) (ls more : List (List ℕ)) (b : Bool) → is_skipped l ≡ b → kept (ls ++ more) ≡ kept ls ++ kept more → kept (l ∷ (ls ++ more)) ≡ kept (l ∷ ls) ++ kept more
kept_of l ls more true e rest = rw e rest
kept_of l ls more false e rest = rw e (ap (λ ms. l ∷ ms) rest)

kept-append : (ls more : List (List ℕ)) → kept (ls ++ more) ≡ kept ls ++ kept more
kept-append [] more = refl
kept-append (l ∷ ls) more = kept_of l ls more (is_skipped l) refl (kept-append ls more)

kept_one : (l : List ℕ) → is_skipped l ≡ false → kept (l ∷ []) ≡ l ∷ []
kept_one l e = rw e refl

-- past skipped lines, with one kept line after them
kept_past : (before skipped : List (List ℕ)) (bytes : List ℕ) → kept skipped ≡ [] → is_skipped bytes ≡ false → kept (before ++ (skipped ++ bytes ∷ [])) ≡ kept before ++ bytes ∷ []
kept_past before skipped bytes none one =
    kept-append before (skipped ++ bytes ∷ []) ∙ ap (λ ls. kept before ++ ls) (kept-append skipped (bytes ∷ []) ∙ ap (λ ls. ls ++ kept (bytes ∷ [])) none ∙ kept_one bytes one)

-- past skipped lines alone
kept_same : (before skipped : List (List ℕ)) → kept skipped ≡ [] → kept (before ++ skipped) ≡ kept before
kept_same before skipped none = kept-append before skipped ∙ ap (λ ls. kept before ++ ls) none ∙ append-nil (kept before)

module _ {T C : Type 0} (rules : Rules T C) where
  -- one more line
  plays_push : (old mid new : Option (Stage T)) (ls : List (List ℕ)) (bytes text first : List ℕ) (line : Line C) → Plays rules old ls text mid → SaysLine rules bytes line → MayStand mid line → LineSteps rules mid line first new → Plays rules old (ls ++ bytes ∷ []) (text ++ first) new
  plays_push old mid new [] bytes text first line plays says may step =
      (line, first, new, [], says, subst (λ s. MayStand s line) plays.1 may, subst (λ s. LineSteps rules s line first new) plays.1 step, (refl, refl), ap (λ t. t ++ first) plays.0 ∙ sym (append-nil first))
  plays_push old mid new (l ∷ ls) bytes text first line plays says may step =
      (plays.0, plays.1, plays.2, plays.3 ++ first, plays.4, plays.5, plays.6, plays_push plays.2 mid new ls bytes plays.3 first line plays.7 says may step, ap (λ t. t ++ first) plays.8 ∙ append_assoc plays.1 plays.3 first)

  -- So many lines of the input were taken: what they print, the world after them, and the bytes that are left.
  pub record Taking (input : List ℕ) (number : ℕ) (left : List ℕ) (stage : Option (Stage T)) (text : List ℕ) : Type 0 where
    pub before : List (List ℕ)
    pub lines : lines_of input ≡ before ++ lines_of left
    pub count : number ≡ length before
    pub plays : Plays rules None (kept before) text stage

  nothing_taken : (input : List ℕ) → Taking input 0 input None []
  nothing_taken input = record { before = []; lines = refl; count = refl; plays = (refl, refl) }

  take_next : (input left after : List ℕ) (n m : ℕ) (old new : Option (Stage T)) (text first : List ℕ) (line : Line C) → Taking input n left old text → NextLine rules left n after m (Some line) → MayStand old line → LineSteps rules old line first new → Taking input m after new (text ++ first)
  take_next input left after n m old new text first line on next may step =
      let bytes = next.0 in
      let skipped = next.1.skipped in
      let before = on.before ++ (skipped ++ bytes ∷ []) in
      let whole : lines_of input ≡ before ++ lines_of after =
      on.lines ∙ ap (λ ls. on.before ++ ls) (next.1.lines ∙ sym (append_assoc skipped (bytes ∷ []) (lines_of after))) ∙ sym (append_assoc on.before (skipped ++ bytes ∷ []) (lines_of after))
      in
      record {
        before = before;
        lines = whole;
        count = omega (arith, on.count, next.1.number, length-append on.before (skipped ++ bytes ∷ []), length-append skipped (bytes ∷ []));
        plays = subst (λ ls. Plays rules None ls (text ++ first) new) (sym (kept_past on.before skipped bytes next.1.none_kept next.2)) (plays_push None old new (kept on.before) bytes text first line on.plays next.3.says may step);
      }

  -- the next line that is left is bad
  bad_next : (input left : List ℕ) (n m : ℕ) (stage : Option (Stage T)) (text : List ℕ) (rest : List (List ℕ)) → Taking input n left stage text → SkipsTo left n m rest → IsBadNext rules stage rest → IsBadLine rules input m text
  bad_next input left n m stage text rest on skips bad =
      record {
        before = on.before ++ skips.skipped;
        left = rest;
        stage = stage;
        lines = on.lines ∙ ap (λ ls. on.before ++ ls) skips.lines ∙ sym (append_assoc on.before skips.skipped rest);
        number = omega (arith, on.count, skips.number, length-append on.before skips.skipped);
        plays = subst (λ ls. Plays rules None ls text stage) (sym (kept_same on.before skips.skipped skips.none_kept)) on.plays;
        bad = bad;
      }

  -- What was printed so far, and what is left of the input.
  abbrev pub Playing : Option (List ℕ) → Option (List ℕ) → ℕ → Option (List ℕ) → Option (List ℕ) → Stage T → Type 0
  Playing old new number out now world = IfSome old (λ input. (left : List ℕ) × (text : List ℕ) × (new ≡ Some left) × Taking input number left (Some world) text × Appends out now text)

  pub play_first : (old new out : Option (List ℕ)) (n m clients : ℕ) (world : State T) → n ≡ 0 → OpensWorld rules old n new m clients world → Playing old new m out out (record { state = world; opened = Some clients })
  play_first None new out n m clients world zero opens = tt
  play_first (Some input) new out n m clients world zero opens =
      let after = opens.0 in
      let stage : Stage T = record { state = opening clients 1000; opened = Some clients } in
      let start : Taking input n input None [] = subst (λ k. Taking input k input None []) (sym zero) (nothing_taken input) in
      let taken : Taking input m after (Some stage) ([] ++ []) = take_next input input after n m None (Some stage) [] [] (lines.Clients clients) start opens.4 (opens.2, opens.3) (refl, refl) in
      (after, [], opens.1, subst (λ (s : State T). Taking input m after (Some (record { state = s; opened = Some clients })) []) (sym opens.5) taken, appends_nothing out)

  page_follows : (opened : Option ℕ) (size : ℕ) (text : List ℕ) (new : State T) → PageSteps opened size text new → IsPage opened size
  page_follows None size text new step = step
  page_follows (Some clients) size text new step = (step.2, step.3)

  may_follow : (old : Stage T) (new : State T) (line : Line C) (text : List ℕ) → EventSteps rules old.opened old.state line text new → MayStand (Some old) line
  may_follow old new (lines.Clients count) text step = step
  may_follow old new (lines.Page size) text step = page_follows old.opened size text new step
  may_follow old new (lines.Event event) text step = tt
  may_follow old new (lines.Run op) text step = tt

  pub play_more : (old mid new out now later : Option (List ℕ)) (n m : ℕ) (world : Stage T) (next : State T) (line : Line C) (text : List ℕ) → Playing old mid n out now world → ReadsNextLine rules mid n new m (Some line) → EventSteps rules world.opened world.state line text next → Appends now later text → Playing old new m out later (record { state = next; opened = None })
  play_more None mid new out now later n m world next line text on read step grown = tt
  play_more (Some input) mid new out now later n m world next line text on read step grown =
      let here : ReadsNextLine rules (Some on.0) n new m (Some line) = subst (λ o. ReadsNextLine rules o n new m (Some line)) on.2 read in (
        here.0,
        on.1 ++ text,
        here.1,
        take_next input on.0 here.0 n m (Some world) (Some (record { state = next; opened = None })) on.1 text line on.3 here.2 (may_follow world next line text step) (next, refl, step),
        appends_both out now later on.1 text on.4 grown,
      )

  -- all kept lines were taken
  all_kept : (input left : List ℕ) (n m : ℕ) (new : Option (List ℕ)) (world : Stage T) (text : List ℕ) → (taken : Taking input n left (Some world) text) → ReadsNextLine rules (Some left) n new m None → kept taken.before ≡ kept (lines_of input)
  all_kept input left n m new world text taken here =
      let skipped = here.2.skipped in
      let all : lines_of input ≡ taken.before ++ skipped = taken.lines ∙ ap (λ ls. taken.before ++ ls) (here.2.lines ∙ append-nil skipped) in
      sym (ap kept all ∙ kept_same taken.before skipped here.2.none_kept)

  pub play_end : (old mid new out now later : Option (List ℕ)) (n m : ℕ) (world : Stage T) → Playing old mid n out now world → ReadsNextLine rules mid n new m None → ((text : List ℕ) × EndsWith rules world.state text × Appends now later text) → IsPrinted rules old out later
  play_end None mid new out now later n m world on read ends = tt
  play_end (Some input) mid new out now later n m world on read ends =
      let here : ReadsNextLine rules (Some on.0) n new m None = subst (λ o. ReadsNextLine rules o n new m None) on.2 read in
      let same = all_kept input on.0 n m new world on.1 on.3 here in (
        on.1 ++ ends.0,
        record { printed = on.1; stage = world; ending = ends.0; plays = subst (λ ls. Plays rules None ls on.1 (Some world)) same on.3.plays; ends = ends.1; whole = refl },
        appends_both out now later on.1 ends.0 on.4 ends.2,
      )

  pub play_leads : (old mid new out now : Option (List ℕ)) (n m : ℕ) (world : Stage T) → Playing old mid n out now world → ReadsNextLine rules mid n new m None → LeadsTo rules old world.state
  play_leads None mid new out now n m world on read = tt
  play_leads (Some input) mid new out now n m world on read =
      let here : ReadsNextLine rules (Some on.0) n new m None = subst (λ o. ReadsNextLine rules o n new m None) on.2 read in
      (on.1, world.opened, subst (λ ls. Plays rules None ls on.1 (Some world)) (all_kept input on.0 n m new world on.1 on.3 here) on.3.plays)

  -- So much was printed where the run stops after these lines.
  front_of : (input left : List ℕ) (n : ℕ) (stage : Option (Stage T)) (text : List ℕ) → Taking input n left stage text → IsFront rules input text
  front_of input left n stage text on =
      record { before = on.before; left = lines_of left; stage = stage; printed = text; ending = []; lines = on.lines; plays = on.plays; ends = nothing_more stage (lines_of left); whole = sym (append-nil text) }
    where
      nothing_more : (s : Option (Stage T)) (ls : List (List ℕ)) → IsEndFront rules s ls []
      nothing_more None ls = refl
      nothing_more (Some world) (l ∷ ls) = refl
      nothing_more (Some world) [] = inl refl

  none_printed : (old out : Option (List ℕ)) → IsFrontPrinted rules old out out
  none_printed None out = tt
  none_printed (Some input) out = ([], front_of input input 0 None [] (nothing_taken input), appends_nothing out)

  so_printed : (old mid out now : Option (List ℕ)) (n : ℕ) (world : Stage T) → Playing old mid n out now world → IsFrontPrinted rules old out now
  so_printed None mid out now n world on = tt
  so_printed (Some input) mid out now n world on = (on.1, front_of input on.0 n (Some world) on.1 on.3, on.4)

  -- a stop of which only a bad line says more
  stops_by : (stop : Stop) (old out now : Option (List ℕ)) (P : ℕ → Type 0) → OnBadLine stop P → ((n : ℕ) → P n → IsPrintedBefore rules n old out now) → IsFrontPrinted rules old out now → StopsAfter rules stop old out now
  stops_by (stops.BadLine n) old out now P is bad front = bad n is
  stops_by stops.ReadFailed old out now P is bad front = front
  stops_by stops.NoMemory old out now P is bad front = front
  stops_by stops.WriteFailed old out now P is bad front = tt

  open_bad : (old out : Option (List ℕ)) (n m : ℕ) → n ≡ 0 → OpensBad rules old n m → IsPrintedBefore rules m old out out
  open_bad None out n m zero bad = tt
  open_bad (Some input) out n m zero bad =
      let start : Taking input n input None [] = subst (λ k. Taking input k input None []) (sym zero) (nothing_taken input) in
      ([], bad_next input input n m None [] bad.0 start bad.1 bad.2, appends_nothing out)

  -- it stops before its first line
  pub stops_first : (stop : Stop) (old out : Option (List ℕ)) (n : ℕ) → n ≡ 0 → OnBadLine stop (OpensBad rules old n) → StopsAfter rules stop old out out
  stops_first stop old out n zero is = stops_by stop old out out (OpensBad rules old n) is (λ m bad. open_bad old out n m zero bad) (none_printed old out)

  play_bad : (old mid out now : Option (List ℕ)) (n m : ℕ) (world : Stage T) → Playing old mid n out now world → MeetsBadLine rules mid n m → IsPrintedBefore rules m old out now
  play_bad None mid out now n m world on meets = tt
  play_bad (Some input) mid out now n m world on meets =
      let here : MeetsBadLine rules (Some on.0) n m = subst (λ o. MeetsBadLine rules o n m) on.2 meets in
      (on.1, bad_next input on.0 n m (Some world) on.1 (here.0 ∷ here.1) on.3 here.2 (here.3, λ line says may. here.4 line says), on.4)

  -- it stops at a later line that is not read, or says nothing
  pub stops_next : (stop : Stop) (old mid out now : Option (List ℕ)) (n : ℕ) (world : Stage T) → Playing old mid n out now world → OnBadLine stop (MeetsBadLine rules mid n) → StopsAfter rules stop old out now
  stops_next stop old mid out now n world on is = stops_by stop old out now (MeetsBadLine rules mid n) is (λ m meets. play_bad old mid out now n m world on meets) (so_printed old mid out now n world on)

  no_second : (world : Stage T) (line : Line C) → Misplaced world.opened line → ¬ (MayStand (Some world) line)
  no_second world (lines.Clients count) misplaced may = may
  no_second world (lines.Page size) misplaced may = misplaced may
  no_second world (lines.Event event) misplaced may = misplaced
  no_second world (lines.Run op) misplaced may = misplaced

  play_misplaced : (old mid new out now : Option (List ℕ)) (n m : ℕ) (world : Stage T) (line : Line C) → Playing old mid n out now world → ReadsNextLine rules mid n new m (Some line) → Misplaced world.opened line → IsPrintedBefore rules m old out now
  play_misplaced None mid new out now n m world line on read misplaced = tt
  play_misplaced (Some input) mid new out now n m world line on read misplaced =
      let here : ReadsNextLine rules (Some on.0) n new m (Some line) = subst (λ o. ReadsNextLine rules o n new m (Some line)) on.2 read in
      let bytes = here.2.0 in
      let bad = λ (other : Line C) (says : SaysLine rules bytes other) (may : MayStand (Some world) other). no_second world line misplaced (subst (λ l. MayStand (Some world) l) (here.2.3.only other says) may) in
      (on.1, bad_next input on.0 n m (Some world) on.1 (bytes ∷ lines_of here.0) on.3 here.2.1 (here.2.2, bad), on.4)

  -- it stops at a line that was read
  pub stops_line : (stop bad : Stop) (old mid new out now : Option (List ℕ)) (n m : ℕ) (world : Stage T) (line : Line C) → bad ≡ stops.BadLine m → Playing old mid n out now world → ReadsNextLine rules mid n new m (Some line) → StopsLine stop bad world.opened line → StopsAfter rules stop old out now
  stops_line stop bad old mid new out now n m world line named on read (inl is) = subst (λ s. StopsAfter rules s old out now) (sym is) (so_printed old mid out now n world on)
  stops_line stop bad old mid new out now n m world line named on read (inr is) = subst (λ s. StopsAfter rules s old out now) (sym (is.1 ∙ named)) (play_misplaced old mid new out now n m world line on read is.0)

  -- it stops in the end lines
  pub stops_end : (stop : Stop) (old mid new out now later : Option (List ℕ)) (n m : ℕ) (world : Stage T) → Playing old mid n out now world → ReadsNextLine rules mid n new m None → StopsInEnd rules stop world.state now later → StopsAfter rules stop old out later
  stops_end stop old mid new out now later n m world on read (inl is) = subst (λ s. StopsAfter rules s old out later) (sym is) tt
  stops_end stop None mid new out now later n m world on read (inr is) = subst (λ s. StopsAfter rules s None out later) (sym is.0) tt
  stops_end stop (Some input) mid new out now later n m world on read (inr is) =
      let here : ReadsNextLine rules (Some on.0) n new m None = subst (λ o. ReadsNextLine rules o n new m None) on.2 read in
      let taken = on.3 in
      let skipped = here.2.skipped in
      let all : lines_of input ≡ (taken.before ++ skipped) ++ [] = taken.lines ∙ ap (λ ls. taken.before ++ ls) here.2.lines ∙ sym (append_assoc taken.before skipped []) in
      let plays = subst (λ ls. Plays rules None ls on.1 (Some world)) (sym (kept_same taken.before skipped here.2.none_kept)) taken.plays in
      let front : IsFront rules input (on.1 ++ is.1) = record { before = taken.before ++ skipped; left = []; stage = Some world; printed = on.1; ending = is.1; lines = all; plays = plays; ends = is.2; whole = refl } in
      subst (λ s. StopsAfter rules s (Some input) out later) (sym is.0) (on.1 ++ is.1, front, appends_both out now later on.1 is.1 on.4 is.3)
