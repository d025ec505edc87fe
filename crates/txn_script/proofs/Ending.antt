-- What is printed at the end of a script, one line after another.
use Rattle.std.proofs.Common.{◌≡◌, ℕ, ◌+◌, ◌<◌, List, [], ◌++◌, length, drop, get_or, add-one, Option, Some, None, inl, inr, refl, sym, ◌∙◌, ap, subst}
use Rattle.std.proofs.lemmas.List.{append_assoc, append-nil}
use Rattle.std.proofs.lemmas.Option.{slice_get-get_or}
use Rattle.std.proofs.Math.Seq.{drop-cons}
use Rattle.std.specs.Prelude.{map}
use Rattle.std.specs.Io.KnownBytes.{Appends, append_known}
use Rattle.txn_history.specs.History.{history, boundary, AreErased}
use Rattle.txn_history.specs.Lists.{numbered}
use Rattle.txn_history.specs.Views.{View}
use Rattle.txn_history.specs.Seen.{view_in, view_of}
use Rattle.txn_machine.specs.Machine.{State, seen_of, seen_views}
use Rattle.txn_script_lines.specs.declared.stop.Stop.{Stop}
use Rattle.txn_script_lines.specs.declared.stop.Stop.TheVariants as stops
use Rattle.txn_script_lines.specs.Printed.{entry_text, boundary_text, erased_text}
use Rattle.txn_script.specs.Printed.{with_feed, pinned_line, entries_text, view_line, views_text, end_text}
use Rattle.txn_script.specs.Rules.{Rules}
use Rattle.txn_script.specs.Script.{EndsWith, IsEndFront}
use Rattle.txn_script.specs.Printing.{StopsWithin, StopsInEnd}
use Rattle.txn_script.proofs.Steps.{both_after}

-- what is gathered before it is written

pub appends_nothing : (o : Option (List ℕ)) → Appends o o []
appends_nothing None = tt
appends_nothing (Some xs) = sym (append-nil xs)

pub appends_both : (a b c : Option (List ℕ)) (xs ys : List ℕ) → Appends a b xs → Appends b c ys → Appends a c (xs ++ ys)
appends_both None b c xs ys one two = tt
appends_both (Some us) None c xs ys one two = absurd one
appends_both (Some us) (Some bs) None xs ys one two = absurd two
appends_both (Some us) (Some bs) (Some cs) xs ys one two = two ∙ ap (λ zs. zs ++ ys) one ∙ append_assoc us xs ys

pub gathers : (o : Option (List ℕ)) (old new text : List ℕ) → new ≡ old ++ text → Appends (append_known o old) (append_known o new) text
gathers None old new text e = tt
gathers (Some xs) old new text e = ap (λ ys. xs ++ ys) e ∙ sym (append_assoc xs old text)

-- what was gathered, in other words for the same bytes
pub gathered_so : (old out : Option (List ℕ)) (text : List ℕ) {items now : List ℕ} → now ≡ items → Appends old (append_known out items) text → Appends old (append_known out now) text
gathered_so old out text same = subst (λ (items : List ℕ). Appends old (append_known out items) text) (sym same)

-- one more line, and then perhaps all is written
pub gathers_line : (a b c : Option (List ℕ)) (old mid new text line : List ℕ) → Appends a (append_known b old) text → mid ≡ old ++ line → Appends (append_known b mid) (append_known c new) [] → Appends a (append_known c new) (text ++ line)
gathers_line a b c old mid new text line before grown written =
    subst (Appends a (append_known c new)) (append-nil (text ++ line)) (appends_both a (append_known b mid) (append_known c new) (text ++ line) [] (appends_both a (append_known b old) (append_known b mid) text line before (gathers b old mid line grown)) written)

-- the view of a number, where there are views up to it
pub view_there : {T : Type 0} (s : State T) (i : ℕ) → i < length (seen_views s.views) → view_of (seen_of s) (i + 1) ≡ get_or (seen_views s.views) i None
view_there s i lt = ap (λ n. view_in (numbered (seen_views s.views) n)) (add-one i) ∙ ap view_in (slice_get-get_or (seen_views s.views) i None lt)

module _ {T : Type 0} (text : T → List ℕ) where
  pub entries_step : (i : ℕ) (values : List T) (d : T) → i < length values → entries_text text (i + 1) (drop i values) ≡ with_feed (entry_text text (i + 1) (get_or values i d)) ++ entries_text text (i + 1 + 1) (drop (i + 1) values)
  entries_step i values d lt = ap (entries_text text (i + 1)) (drop-cons values i d lt) ∙ rw add-one refl

  -- one more entry was printed
  pub entry_printed : (values : List T) (i : ℕ) (d : T) (a b c : Option (List ℕ)) (old mid new before : List ℕ) → i < length values → Appends a (append_known b old) before → mid ≡ old ++ with_feed (entry_text text (i + 1) (get_or values i d)) → Appends (append_known b mid) (append_known c new) [] → before ++ entries_text text (i + 1) (drop i values) ≡ entries_text text 1 values
      → (printed : List ℕ) × Appends a (append_known c new) printed × (printed ++ entries_text text (i + 1 + 1) (drop (i + 1) values) ≡ entries_text text 1 values)
  entry_printed values i d a b c old mid new before lt so_far grown written whole =
      let line = with_feed (entry_text text (i + 1) (get_or values i d)) in (
        before ++ line,
        gathers_line a b c old mid new before line so_far grown written,
        append_assoc before line (entries_text text (i + 1 + 1) (drop (i + 1) values)) ∙ ap (λ more. before ++ more) (sym (entries_step i values d lt)) ∙ whole,
      )

  pub views_step : (i : ℕ) (views : List (Option (View T))) → i < length views → views_text text (i + 1) (drop i views) ≡ view_line text (i + 1) (get_or views i None) ++ views_text text (i + 1 + 1) (drop (i + 1) views)
  views_step i views lt = ap (views_text text (i + 1)) (drop-cons views i None lt) ∙ rw add-one refl

module _ {T C : Type 0} (rules : Rules T C) where
  -- These are the history, the erased ids and what is pinned.
  pub record Ended (s : State T) (values : List T) (ids : List ℕ) (pins : Option (List ℕ)) : Type 0 where
    pub entries : map Some values ≡ history rules.world.decode s.trace
    pub erased : AreErased s.trace ids
    pub pinned : rules.world.pins s pins

module _ {T C : Type 0} {rules : Rules T C} {s : State T} {values : List T} {ids : List ℕ} {pins : Option (List ℕ)} (are : Ended rules s values ids pins) where
  -- all end lines of this state
  abbrev pub ending_of : List ℕ
  ending_of = end_text rules.value_text values (boundary s.trace) ids pins (seen_views s.views)

  abbrev entries_part : List ℕ
  entries_part = entries_text rules.value_text 1 values

  abbrev boundary_part : List ℕ
  boundary_part = with_feed (boundary_text (boundary s.trace))

  abbrev erased_part : List ℕ
  erased_part = with_feed (erased_text ids)

  abbrev views_part : List ℕ
  views_part = views_text rules.value_text 1 (seen_views s.views)

  -- what was printed of the end lines, and what was still to print
  end_front : (text more : List ℕ) → text ++ more ≡ ending_of → IsEndFront rules (Some (record { state = s; opened = None })) [] text
  end_front text more e = inr (more, record { values = values; ids = ids; pins = pins; entries = are.entries; erased = are.erased; pinned = are.pinned; whole = e })

  -- a stop within some of the end lines, after those before them
  pub part_front : (stop : Stop) (old mid new : Option (List ℕ)) (before part after : List ℕ) → before ++ (part ++ after) ≡ ending_of → Appends old mid before → StopsWithin stop part mid new → StopsInEnd rules stop s old new
  part_front stop old mid new before part after whole grown (inl is) = inl is
  part_front stop old mid new before part after whole grown (inr is) =
      let text = is.1 in
      let more = is.2 in
      let split : (before ++ text) ++ (more ++ after) ≡ before ++ (part ++ after) = append_assoc before text (more ++ after) ∙ ap (λ xs. before ++ xs) (sym (append_assoc text more after) ∙ ap (λ xs. xs ++ after) is.3) in
      inr (is.0, before ++ text, end_front (before ++ text) (more ++ after) (split ∙ whole), appends_both old mid new before text grown is.4)

  pub line_front : (stop : Stop) (old new : Option (List ℕ)) (text more : List ℕ) → stop ≡ stops.NoMemory → text ++ more ≡ ending_of → Appends old new text → StopsInEnd rules stop s old new
  line_front stop old new text more is e grown = inr (is, text, end_front text more e, grown)

  -- the lines before those of the views
  abbrev front_of_views : List ℕ
  front_of_views = entries_part ++ (boundary_part ++ (erased_part ++ pinned_line pins))

  before_views : (views : List ℕ) → front_of_views ++ views ≡ entries_part ++ (boundary_part ++ (erased_part ++ (pinned_line pins ++ views)))
  before_views views =
      append_assoc entries_part (boundary_part ++ (erased_part ++ pinned_line pins)) views
      ∙ ap (λ xs. entries_part ++ xs) (append_assoc boundary_part (erased_part ++ pinned_line pins) views ∙ ap (λ xs. boundary_part ++ xs) (append_assoc erased_part (pinned_line pins) views))

  -- The entries were printed, then the boundary, the erased ids and what is pinned.
  pub record PrintedBefore (old out : Option (List ℕ)) (first second third fourth : List ℕ) : Type 0 where
    pub entries : Appends old (append_known out first) entries_part
    pub boundary : second ≡ first ++ boundary_part
    pub erased : third ≡ second ++ erased_part
    pub pinned : fourth ≡ third ++ pinned_line pins

  printed_before : (old out : Option (List ℕ)) (first second third fourth : List ℕ) → PrintedBefore old out first second third fourth → Appends old (append_known out fourth) front_of_views
  printed_before old out first second third fourth before =
      let after = erased_part ++ pinned_line pins in
      let rest = both_after second third fourth erased_part (pinned_line pins) before.erased before.pinned in
      appends_both old (append_known out first) (append_known out fourth) entries_part (boundary_part ++ after) before.entries (gathers out first fourth (boundary_part ++ after) (both_after first second fourth boundary_part after before.boundary rest))

  -- and then the views
  pub ends_with : {old out : Option (List ℕ)} {first second third fourth : List ℕ} → PrintedBefore old out first second third fourth → (new : Option (List ℕ)) → Appends (append_known out fourth) new views_part → (text : List ℕ) × EndsWith rules s text × Appends old new text
  ends_with {old = old} {out = out} {first = first} {second = second} {third = third} {fourth = fourth} before new last = (
    front_of_views ++ views_part,
    record { values = values; ids = ids; pins = pins; entries = are.entries; erased = are.erased; pinned = are.pinned; whole = before_views views_part },
    appends_both old (append_known out fourth) new front_of_views views_part (printed_before old out first second third fourth before) last,
  )

  -- a stop within the lines of the views
  pub stops_in_views : {old out : Option (List ℕ)} {first second third fourth : List ℕ} → PrintedBefore old out first second third fourth → (stop : Stop) (new : Option (List ℕ)) → StopsWithin stop views_part (append_known out fourth) new → StopsInEnd rules stop s old new
  stops_in_views {old = old} {out = out} {first = first} {second = second} {third = third} {fourth = fourth} before stop new is =
      let whole : front_of_views ++ (views_part ++ []) ≡ ending_of = ap (λ xs. front_of_views ++ xs) (append-nil views_part) ∙ before_views views_part in
      part_front stop old (append_known out fourth) new front_of_views views_part [] whole (printed_before old out first second third fourth before) is

  -- a stop at the line of the boundary
  pub stops_at_boundary : (stop : Stop) (old out : Option (List ℕ)) (first now : List ℕ) → stop ≡ stops.NoMemory → now ≡ first → Appends old (append_known out first) entries_part → StopsInEnd rules stop s old (append_known out now)
  stops_at_boundary stop old out first now is same grown =
      line_front stop old (append_known out now) entries_part (boundary_part ++ (erased_part ++ (pinned_line pins ++ views_part))) is refl (gathered_so old out entries_part same grown)

  -- at that of the erased ids
  pub stops_at_erased : (stop : Stop) (old out : Option (List ℕ)) (first second now : List ℕ) → stop ≡ stops.NoMemory → now ≡ second → Appends old (append_known out first) entries_part → second ≡ first ++ boundary_part → StopsInEnd rules stop s old (append_known out now)
  stops_at_erased stop old out first second now is same grown one =
      let after = erased_part ++ (pinned_line pins ++ views_part) in
      let printed = appends_both old (append_known out first) (append_known out second) entries_part boundary_part grown (gathers out first second boundary_part one) in
      line_front stop old (append_known out now) (entries_part ++ boundary_part) after is (append_assoc entries_part boundary_part after) (gathered_so old out (entries_part ++ boundary_part) same printed)

  -- at that of what is pinned
  pub stops_at_pinned : (stop : Stop) (old out : Option (List ℕ)) (first second third now : List ℕ) → stop ≡ stops.NoMemory → now ≡ third → Appends old (append_known out first) entries_part → second ≡ first ++ boundary_part → third ≡ second ++ erased_part → StopsInEnd rules stop s old (append_known out now)
  stops_at_pinned stop old out first second third now is same grown one two =
      let both = boundary_part ++ erased_part in
      let after = pinned_line pins ++ views_part in
      let printed = appends_both old (append_known out first) (append_known out third) entries_part both grown (gathers out first third both (both_after first second third boundary_part erased_part one two)) in
      let whole : (entries_part ++ both) ++ after ≡ ending_of = append_assoc entries_part both after ∙ ap (λ xs. entries_part ++ xs) (append_assoc boundary_part erased_part after) in
      line_front stop old (append_known out now) (entries_part ++ both) after is whole (gathered_so old out (entries_part ++ both) same printed)
