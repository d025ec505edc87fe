-- The first line of a text, and the lines after it.
use Rattle.std.proofs.Common.{◌≡◌, ℕ, ◌<◌, ◌≤◌, List, [], ◌∷◌, ◌++◌, ◌==◌, Bool, true, false, cond, length, Option, Some, None, IfSome, inl, inr, refl, sym, ◌∙◌, ap, subst, arith, length-append}
use Rattle.std.proofs.lemmas.Grind.{common_steps}
use Rattle.std.proofs.lemmas.Bool.{ltb-true, lt-ltb}
use Rattle.std.proofs.lemmas.List.{append_assoc}
use Rattle.std.specs.Io.BufRead.{take_through, drop_through, strip_last, first_piece, DropsThrough}
use Rattle.txn_script_lines.specs.declared.lines.Taken.TheVariants as taken
use Rattle.txn_script_lines.specs.Lines.{lines_of, onto, is_comment, is_skipped}
use Rattle.txn_script_lines.specs.Reading.{LacksFeed, Ends, TakesPiece, ReadsLine, is_above}

strip_cons : (b y : ℕ) (ys : List ℕ) → strip_last 10 (b ∷ y ∷ ys) ≡ b ∷ strip_last 10 (y ∷ ys)
strip_cons b y ys = grind (arith, common_steps)

-- what `take_through` gives of a text is not empty
some_taken : (c : ℕ) (cs : List ℕ) → (y : ℕ) × (ys : List ℕ) × (take_through 10 (c ∷ cs) ≡ y ∷ ys)
some_taken c cs = elim (c == 10) as (λ t. (y : ℕ) × (ys : List ℕ) × (cond t (c ∷ []) (c ∷ take_through 10 cs) ≡ y ∷ ys)) [ true ↦ (c, [], refl) | false ↦ (c, take_through 10 cs, refl) ]

onto_cons : (b : ℕ) (line : List ℕ) (rest lines : List (List ℕ)) → lines ≡ line ∷ rest → onto b lines ≡ (b ∷ line) ∷ rest
onto_cons b line rest lines e = rw e refl

piece_cons : (b c : ℕ) (cs : List ℕ) → strip_last 10 (b ∷ take_through 10 (c ∷ cs)) ≡ b ∷ strip_last 10 (take_through 10 (c ∷ cs))
piece_cons b c cs =
    let t = some_taken c cs in
    ap (λ xs. strip_last 10 (b ∷ xs)) t.2 ∙ strip_cons b t.0 t.1 ∙ sym (ap (λ xs. b ∷ strip_last 10 xs) t.2)

-- at a byte that is no line feed
taken_false : (b : ℕ) (bs : List ℕ) → (b == 10) ≡ false → take_through 10 (b ∷ bs) ≡ b ∷ take_through 10 bs
taken_false b bs e = rw e refl

left_false : (b : ℕ) (bs : List ℕ) → (b == 10) ≡ false → drop_through 10 (b ∷ bs) ≡ drop_through 10 bs
left_false b bs e = rw e refl

lines_false : (b : ℕ) (bs : List ℕ) → (b == 10) ≡ false → lines_of (b ∷ bs) ≡ onto b (lines_of bs)
lines_false b bs e = rw e refl

strip_one : (b : ℕ) → (b == 10) ≡ false → strip_last 10 (b ∷ []) ≡ b ∷ []
strip_one b e = rw e refl

piece_false : (b : ℕ) (bs : List ℕ) → (b == 10) ≡ false → first_piece 10 (b ∷ bs) ≡ b ∷ first_piece 10 bs
piece_false b [] e = ap (strip_last 10) (taken_false b [] e) ∙ strip_one b e
piece_false b (c ∷ cs) e = ap (strip_last 10) (taken_false b (c ∷ cs) e) ∙ piece_cons b c cs

-- at a line feed
taken_true : (b : ℕ) (bs : List ℕ) → (b == 10) ≡ true → take_through 10 (b ∷ bs) ≡ b ∷ []
taken_true b bs e = rw e refl

left_true : (b : ℕ) (bs : List ℕ) → (b == 10) ≡ true → drop_through 10 (b ∷ bs) ≡ bs
left_true b bs e = rw e refl

lines_true : (b : ℕ) (bs : List ℕ) → (b == 10) ≡ true → lines_of (b ∷ bs) ≡ [] ∷ lines_of bs
lines_true b bs e = rw e refl

strip_feed : (b : ℕ) → (b == 10) ≡ true → strip_last 10 (b ∷ []) ≡ []
strip_feed b e = rw e refl

piece_true : (b : ℕ) (bs : List ℕ) → (b == 10) ≡ true → first_piece 10 (b ∷ bs) ≡ []
piece_true b bs e = ap (strip_last 10) (taken_true b bs e) ∙ strip_feed b e

-- the lines of a text that is not empty: its first, and those after it
abbrev FirstOf : ℕ → List ℕ → Type 0
FirstOf b bs = lines_of (b ∷ bs) ≡ first_piece 10 (b ∷ bs) ∷ lines_of (drop_through 10 (b ∷ bs))

cons_both : {A : Type 0} {x y : A} {xs ys : List A} → x ≡ y → xs ≡ ys → x ∷ xs ≡ y ∷ ys
cons_both {x = x} {y = y} {xs = xs} {ys = ys} one two = ap (λ z. z ∷ xs) one ∙ ap (λ zs. y ∷ zs) two

abbrev OntoFirst : ℕ → List ℕ → Type 0
OntoFirst b bs = onto b (lines_of bs) ≡ (b ∷ first_piece 10 bs) ∷ lines_of (drop_through 10 bs)

first_by : (b : ℕ) (bs : List ℕ) (feed : Bool) → (b == 10) ≡ feed → OntoFirst b bs → FirstOf b bs
first_by b bs true e more = lines_true b bs e ∙ cons_both (sym (piece_true b bs e)) (ap lines_of (sym (left_true b bs e)))
first_by b bs false e more = lines_false b bs e ∙ more ∙ cons_both (sym (piece_false b bs e)) (ap lines_of (sym (left_false b bs e)))

onto_first : (b : ℕ) (bs : List ℕ) → OntoFirst b bs
onto_first b [] = refl
onto_first b (c ∷ cs) = onto_cons b (first_piece 10 (c ∷ cs)) (lines_of (drop_through 10 (c ∷ cs))) (lines_of (c ∷ cs)) (first_by c cs (c == 10) refl (onto_first c cs))

pub first_line : (input : List ℕ) → 0 < length input → lines_of input ≡ first_piece 10 input ∷ lines_of (drop_through 10 input)
first_line [] some = absurd (omega (arith, some))
first_line (b ∷ bs) some = first_by b bs (b == 10) refl (onto_first b bs)

-- after bytes with no line feed
lacks-append : (xs ys : List ℕ) → LacksFeed xs → LacksFeed ys → LacksFeed (xs ++ ys)
lacks-append [] ys one two = two
lacks-append (x ∷ xs) ys one two = (one.0, lacks-append xs ys one.1 two)

take_through-append : (xs ys : List ℕ) → LacksFeed xs → take_through 10 (xs ++ ys) ≡ xs ++ take_through 10 ys
take_through-append [] ys lacks = refl
take_through-append (x ∷ xs) ys lacks = taken_false x (xs ++ ys) lacks.0 ∙ ap (λ zs. x ∷ zs) (take_through-append xs ys lacks.1)

drop_through-append : (xs ys : List ℕ) → LacksFeed xs → drop_through 10 (xs ++ ys) ≡ drop_through 10 ys
drop_through-append [] ys lacks = refl
drop_through-append (x ∷ xs) ys lacks = left_false x (xs ++ ys) lacks.0 ∙ drop_through-append xs ys lacks.1

first_piece-append : (xs ys : List ℕ) → LacksFeed xs → first_piece 10 (xs ++ ys) ≡ xs ++ first_piece 10 ys
first_piece-append [] ys lacks = refl
first_piece-append (x ∷ xs) ys lacks = piece_false x (xs ++ ys) lacks.0 ∙ ap (λ zs. x ∷ zs) (first_piece-append xs ys lacks.1)

-- So much of a line was read: the text, which has no line feed yet.
abbrev pub InLine : Option (List ℕ) → Option (List ℕ) → List ℕ → Type 0
InLine old new text = IfSome old (λ input. (rest : List ℕ) × (new ≡ Some rest) × (input ≡ text ++ rest) × LacksFeed text)

pub line_more : (old mid new : Option (List ℕ)) (text longer : List ℕ) → InLine old mid text → TakesPiece mid new text longer false → InLine old new longer
line_more None mid new text longer on read = tt
line_more (Some input) mid new text longer on read =
    let here : TakesPiece (Some on.0) new text longer false = subst (λ o. TakesPiece o new text longer false) on.1 read in
    let bytes = here.0 in
    let rest = here.1 in (
      rest,
      here.2,
      on.2 ∙ ap (λ xs. text ++ xs) here.3 ∙ sym (append_assoc text bytes rest) ∙ ap (λ xs. xs ++ rest) (sym here.4),
      subst LacksFeed (sym here.4) (lacks-append text bytes on.3 here.5),
    )

none_taken : (input : List ℕ) → length (take_through 10 input) ≡ 0 → input ≡ []
none_taken [] e = refl
none_taken (c ∷ cs) e = let t = some_taken c cs in absurd (omega (arith, e, ap length t.2))

-- a piece that ends a line is all that is left of it
ends_taken : (bytes rest input : List ℕ) → input ≡ bytes ++ rest → Ends bytes input true → (take_through 10 input ≡ bytes) × (drop_through 10 input ≡ rest)
ends_taken bytes rest input is (inl ends) =
    let front = ends.0 in
    let whole : input ≡ front ++ (10 ∷ rest) = is ∙ ap (λ xs. xs ++ rest) ends.2 ∙ append_assoc front (10 ∷ []) rest in (
      ap (take_through 10) whole ∙ take_through-append front (10 ∷ rest) ends.1 ∙ sym ends.2,
      ap (drop_through 10) whole ∙ drop_through-append front (10 ∷ rest) ends.1,
    )
ends_taken bytes rest input is (inr ends) = (
  ap (take_through 10) ends.1 ∙ sym ends.0,
  ap (drop_through 10) ends.1 ∙ sym ends.1 ∙ is ∙ ap (λ xs. xs ++ rest) ends.0,
)

-- the whole line was read
abbrev pub Whole : Option (List ℕ) → Option (List ℕ) → List ℕ → Type 0
Whole old new text = IfSome old (λ input. (text ≡ take_through 10 input) × (new ≡ Some (drop_through 10 input)))

pub line_whole : (old mid new : Option (List ℕ)) (text longer : List ℕ) → InLine old mid text → TakesPiece mid new text longer true → Whole old new longer
line_whole None mid new text longer on read = tt
line_whole (Some input) mid new text longer on read =
    let here : TakesPiece (Some on.0) new text longer true = subst (λ o. TakesPiece o new text longer true) on.1 read in
    let taken = ends_taken here.0 here.1 on.0 here.3 here.5 in (
      here.4 ∙ ap (λ xs. text ++ xs) (sym taken.0) ∙ sym (take_through-append text on.0 on.3) ∙ ap (take_through 10) (sym on.2),
      here.2 ∙ ap Some (sym taken.1 ∙ sym (drop_through-append text on.0 on.3) ∙ ap (drop_through 10) (sym on.2)),
    )

pub line_end : (most : Option ℕ) (old new : Option (List ℕ)) (text : List ℕ) → Whole old new text → length text ≡ 0 → ReadsLine most old new text taken.End
line_end most None new text whole none = tt
line_end most (Some input) new text whole none =
    let empty : input ≡ [] = none_taken input (ap length (sym whole.0) ∙ none) in
    (empty, whole.1 ∙ ap (λ xs. Some (drop_through 10 xs)) empty)

pub line_read : (most : Option ℕ) (old new : Option (List ℕ)) (text : List ℕ) → Whole old new text → 0 < length text → ReadsLine most old new text taken.Line
line_read most None new text whole some = tt
line_read most (Some input) new text whole some = (some, whole.0, whole.1)

-- what the first line has of the bytes that were read of it
skipped-append : (text rest : List ℕ) → 0 < length text → is_skipped (text ++ rest) ≡ is_comment text
skipped-append [] rest some = absurd (omega (arith, some))
skipped-append (b ∷ bs) rest some = refl

first_skipped : (input text rest : List ℕ) → 0 < length text → input ≡ text ++ rest → LacksFeed text → is_skipped (first_piece 10 input) ≡ is_comment text
first_skipped input text rest some is lacks = ap (λ xs. is_skipped (first_piece 10 xs)) is ∙ ap is_skipped (first_piece-append text rest lacks) ∙ skipped-append text (first_piece 10 rest) some

comment_some : (text : List ℕ) → is_comment text ≡ true → 0 < length text
comment_some [] e = absurd (cc)
comment_some (b ∷ bs) e = omega arith

pub line_comment : (most : Option ℕ) (old mid new : Option (List ℕ)) (text : List ℕ) → InLine old mid text → is_comment text ≡ true → DropsThrough mid new 10 → ReadsLine most old new text taken.Comment
line_comment most None mid new text on comment dropped = tt
line_comment most (Some input) mid new text on comment dropped =
    let here : DropsThrough (Some on.0) new 10 = subst (λ o. DropsThrough o new 10) on.1 dropped in
    let some = comment_some text comment in (
      omega (arith, some, ap length on.2, length-append text on.0),
      first_skipped input text on.0 some on.2 on.3 ∙ comment,
      here ∙ ap Some (sym (drop_through-append text on.0 on.3) ∙ ap (drop_through 10) (sym on.2)),
    )

-- what goes on after a line that is too long is longer still
above_more : (most : Option ℕ) (few more : ℕ) → few ≤ more → is_above most few ≡ true → is_above most more ≡ true
above_more None few more le above = above
above_more (Some most) few more le above = lt-ltb most more (omega (arith, le, ltb-true most few above))

above_some : (most : Option ℕ) (n : ℕ) → is_above most n ≡ true → 0 < n
above_some None n above = absurd (cc)
above_some (Some most) n above = omega (arith, ltb-true most n above)

pub line_long : (most : Option ℕ) (old mid : Option (List ℕ)) (text : List ℕ) → InLine old mid text → is_above most (length text) ≡ true → is_comment text ≡ false → ReadsLine most old mid text taken.TooLong
line_long most None mid text on long kept = tt
line_long most (Some input) mid text on long kept =
    let some : 0 < length text = above_some most (length text) long in
    let piece : first_piece 10 input ≡ text ++ first_piece 10 on.0 = ap (first_piece 10) on.2 ∙ first_piece-append text on.0 on.3 in (
      omega (arith, some, ap length on.2, length-append text on.0),
      first_skipped input text on.0 some on.2 on.3 ∙ kept,
      above_more most (length text) (length (first_piece 10 input)) (omega (arith, ap length piece, length-append text (first_piece 10 on.0))) long,
    )
