-- What a client was told is so by the rows of all.
use Rattle.std.proofs.Common.{◌≡◌, ℕ, ◌<◌, List, [], ◌∷◌, ◌++◌, length, take, nat_eq, nat_lt, ◌==◌, ◌||◌, Bool, true, false, Option, Some, None, ◌⊎◌, inl, inr, refl, sym, ◌∙◌, ap, subst, arith}
use Rattle.std.specs.List.{list_any}
use Rattle.std.proofs.lemmas.List.{append_assoc, append-nil, take_all, length-append}
use Rattle.std.proofs.lemmas.List.Folds.{list_any-append}
use Rattle.std.proofs.lemmas.Bool.{both_ways, cases_Bool, eqb-true, eq-eqb, lt-ltb, ltb-true}
use Rattle.txn_history.specs.declared.event.PlainCall.TheVariants as calls
use Rattle.txn_history.specs.declared.event.PlainAnswer.{PlainAnswer}
use Rattle.txn_history.specs.declared.event.PlainAnswer.TheVariants as plain_answers
use Rattle.txn_history.specs.declared.trace.RowOf.TheVariants.{Effect, Begun, Answered}
use Rattle.txn_history.specs.History.{IsEntry, epoch_in, epoch_at}
use Rattle.txn_history.specs.Calls.{IsCall, tells_id, tells, was_told, is_below_told}
use Rattle.txn_history.specs.Facts.{Entered, WasNewest}
use Rattle.txn_history.proofs.Lists.{get_last, any_last}
use Rattle.txn_history.proofs.More.{call_kept}
use Rattle.txn_history.proofs.Fronts.{of_front}
use Rattle.txn_history.proofs.Numbered.{AreNumbered, one_call}
use Rattle.txn_history.proofs.Entries.{entry_more, entry_later, entered_entry, newest_entry}
use Rattle.txn_history.specs.declared.event.ViewCall.TheVariants as view_calls
use Rattle.txn_history.specs.declared.event.Call.{Call}
use Rattle.txn_history.specs.declared.event.Call.TheVariants as any
use Rattle.txn_history.specs.declared.event.Answer.{Answer}
use Rattle.txn_history.specs.declared.event.Answer.TheVariants as answers
use Rattle.txn_history.specs.Trace.{Row}
use Rattle.txn_history.specs.OneHistory.{AnswerFits, Answers, IsOneHistory}
use Rattle.txn_history.proofs.Legal.{are_moves}
use Rattle.txn_history.proofs.Claimers.{held_fits}
use Rattle.txn_client_journals.specs.Numbers.{number}
use Rattle.txn_client_journals.specs.Traces.{named_answer}
use Rattle.txn_client_journals.specs.Parts.{knows_base, is_below_known, epoch_told, note_plain, note_of}

or_cases : (a b : Bool) → (a || b) ≡ true → (a ≡ true) ⊎ (b ≡ true)
or_cases true b h = inl refl
or_cases false b h = inr h

or_left : (a b : Bool) → a ≡ true → (a || b) ≡ true
or_left true b h = refl
or_left false b h = cc

or_right : (a b : Bool) → b ≡ true → (a || b) ≡ true
or_right true b e = refl
or_right false b e = e

any_weaker : {A : Type 0} (p q : A → Bool) → ((x : A) → p x ≡ true → q x ≡ true) → (xs : List A) → list_any p xs ≡ true → list_any q xs ≡ true
any_weaker p q weaker [] h = cc
any_weaker p q weaker (x ∷ xs) h = elim (or_cases (p x) (list_any p xs) h) [ inl e ↦ or_left (q x) (list_any q xs) (weaker x e) | inr e ↦ or_right (q x) (list_any q xs) (any_weaker p q weaker xs e) ]

weaker_id : (id to n : ℕ) → to < id → nat_eq id n ≡ true → nat_lt to n ≡ true
weaker_id id to n lt is = lt-ltb to n (subst (λ (m : ℕ). to < m) (eqb-true id n is) lt)

module _ {T : Type 0} where
  weaker_answer : (id to : ℕ) → to < id → (answer : Answer T) → tells_id (nat_eq id) answer ≡ true → tells_id (nat_lt to) answer ≡ true
  weaker_answer id to lt (answers.Plain (plain_answers.Wrote n)) is = weaker_id id to n lt is
  weaker_answer id to lt (answers.Plain (plain_answers.Read None)) is = cc
  weaker_answer id to lt (answers.Plain (plain_answers.Read (Some found))) is = weaker_id id to found.0 lt is
  weaker_answer id to lt (answers.Plain (plain_answers.Ids ids)) is = any_weaker (nat_eq id) (nat_lt to) (λ n. weaker_id id to n lt) ids is
  weaker_answer id to lt (answers.Plain (plain_answers.Value value)) is = cc
  weaker_answer id to lt (answers.Plain plain_answers.Done) is = cc
  weaker_answer id to lt (answers.Plain (plain_answers.Refused number)) is = cc
  weaker_answer id to lt (answers.View view n value) is = weaker_id id to n lt is
  weaker_answer id to lt (answers.Held view n value epoch) is = weaker_id id to n lt is

  weaker_row : (id to : ℕ) → to < id → (row : Row T) → tells (nat_eq id) row ≡ true → tells (nat_lt to) row ≡ true
  weaker_row id to lt (Answered op answer) is = weaker_answer id to lt answer is
  weaker_row id to lt (Effect op request) is = cc
  weaker_row id to lt (Begun op call) is = cc

module _ {T : Type 0} (decode : List ℕ → Option T) (get_epoch : T → ℕ) where
  -- an id was told, and is that of an entry of this epoch
  pub record Knows (rows : List (Row T)) (id epoch : ℕ) : Type 0 where
    pub told : was_told rows id ≡ true
    pub value : T
    pub entry : IsEntry decode rows id value
    pub has : get_epoch value ≡ epoch

  abbrev pub AreKnown : List (Row T) → List (ℕ × ℕ) → Type 0
  AreKnown rows [] = Unit {0}
  AreKnown rows (note ∷ notes) = Knows rows note.0 note.1 × AreKnown rows notes

  -- the operation began as a checked write of a value of this epoch
  pub record Writes (rows : List (Row T)) (op epoch : ℕ) : Type 0 where
    pub base : Option ℕ
    pub value : T
    pub call : IsCall rows op (any.Plain (calls.Write base value))
    pub has : get_epoch value ≡ epoch

  abbrev pub IfWrites : List (Row T) → ℕ → Option ℕ → Type 0
  IfWrites rows op None = Unit {0}
  IfWrites rows op (Some epoch) = Writes rows op epoch

  -- more rows

  entry_by : (rows more : List (Row T)) (n : ℕ) (v : T) → IsEntry decode rows n v → IsEntry decode (rows ++ more) n v
  entry_by rows [] n v e = subst (λ (rs : List (Row T)). IsEntry decode rs n v) (sym (append-nil rows)) e
  entry_by rows (row ∷ more) n v e = subst (λ (rs : List (Row T)). IsEntry decode rs n v) (append_assoc rows (row ∷ []) more) (entry_by (rows ++ row ∷ []) more n v (entry_more decode get_epoch rows row n v e))

  told_more : (rows more : List (Row T)) (id : ℕ) → was_told rows id ≡ true → was_told (rows ++ more) id ≡ true
  told_more rows more id e = rw (list_any-append (tells (nat_eq id)) rows more, e) refl

  knows_more : (rows more : List (Row T)) (id epoch : ℕ) → Knows rows id epoch → Knows (rows ++ more) id epoch
  knows_more rows more id epoch k = record { told = told_more rows more id k.told; value = k.value; entry = entry_by rows more id k.value k.entry; has = k.has }

  pub known_more : (rows more : List (Row T)) (told : List (ℕ × ℕ)) → AreKnown rows told → AreKnown (rows ++ more) told
  known_more rows more [] h = tt
  known_more rows more (note ∷ told) h = (knows_more rows more note.0 note.1 h.0, known_more rows more told h.1)

  pub known_append : (rows : List (Row T)) (notes told : List (ℕ × ℕ)) → AreKnown rows notes → AreKnown rows told → AreKnown rows (notes ++ told)
  known_append rows [] told h k = k
  known_append rows (note ∷ notes) told h k = (h.0, known_append rows notes told h.1 k)

  pub writes_more : (rows more : List (Row T)) (op : ℕ) (written : Option ℕ) → IfWrites rows op written → IfWrites (rows ++ more) op written
  writes_more rows more op None w = tt
  writes_more rows more op (Some epoch) w = record { base = w.base; value = w.value; call = call_kept rows more op (any.Plain (calls.Write w.base w.value)) w.call; has = w.has }

  -- what was told is known

  pub base_known : (rows : List (Row T)) (told : List (ℕ × ℕ)) (id : ℕ) → AreKnown rows told → knows_base told (Some id) ≡ true → was_told rows id ≡ true
  base_known rows [] id h e = absurd (cc)
  base_known rows (note ∷ told) id h e = elim (or_cases (nat_eq id note.0) (knows_base told (Some id)) e) [
    | inl is ↦ subst (λ (n : ℕ). was_told rows n ≡ true) (sym (eqb-true id note.0 is)) h.0.told
    | inr rest ↦ base_known rows told id h.1 rest
  ]

  pub below_known : (rows : List (Row T)) (told : List (ℕ × ℕ)) (to : ℕ) → AreKnown rows told → is_below_known told to ≡ true → is_below_told rows to ≡ true
  below_known rows [] to h e = absurd (cc)
  below_known rows (note ∷ told) to h e = elim (or_cases (nat_lt to note.0) (is_below_known told to) e) [
    | inl is ↦ any_weaker (tells (nat_eq note.0)) (tells (nat_lt to)) (weaker_row note.0 to (ltb-true to note.0 is)) rows h.0.told
    | inr rest ↦ below_known rows told to h.1 rest
  ]

  pub epoch_known : (rows : List (Row T)) (told : List (ℕ × ℕ)) (id : ℕ) → AreKnown rows told → knows_base told (Some id) ≡ true → epoch_at decode get_epoch rows id ≡ epoch_told told id
  epoch_known rows [] id h e = absurd (cc)
  epoch_known rows (note ∷ told) id h e = elim (cases_Bool (note.0 == id)) [
    | inl is ↦ rw is (ap (λ (n : ℕ). epoch_at decode get_epoch rows n) (sym (eqb-true note.0 id is)) ∙ (ap (epoch_in get_epoch) h.0.entry ∙ h.0.has))
    | inr not ↦ rw not (epoch_known rows told id h.1 (elim (or_cases (nat_eq id note.0) (knows_base told (Some id)) e) [
      | inl is ↦ absurd (both_ways (note.0 == id) not (eq-eqb note.0 id (sym (eqb-true id note.0 is))))
      | inr rest ↦ rest
    ]))
  ]

-- an answer more

module _ {T : Type 0} (decode : List ℕ → Option T) (get_epoch : T → ℕ) (set_epoch : T → ℕ → T) (failed : List ℕ) (rows : List (Row T)) (op : ℕ) where
  abbrev with_answer : Answer T → List (Row T)
  with_answer answer = rows ++ Answered op answer ∷ []

  -- an entry at its row is one of all rows
  entry_now : (answer : Answer T) (n : ℕ) (v : T) → IsEntry decode (take (length rows) (with_answer answer)) n v → IsEntry decode (with_answer answer) n v
  entry_now answer n v e =
      let all = with_answer answer in
      subst (λ (rs : List (Row T)). IsEntry decode rs n v) (take_all (length all) all (omega arith)) (entry_later decode get_epoch all (length rows) (length all) n v (omega (arith, length-append rows (Answered op answer ∷ []))) e)

  entered_is : (answer : Answer T) → IsOneHistory decode get_epoch set_epoch failed (with_answer answer) → (n : ℕ) (v : T) → Entered decode (take (length rows) (with_answer answer)) op n v → IsEntry decode (with_answer answer) n v
  entered_is answer good n v e = entry_now answer n v (entered_entry decode get_epoch (with_answer answer) (are_moves decode get_epoch set_epoch failed (with_answer answer) good) (length rows) op n v e)

  newest_is : (answer : Answer T) (n : ℕ) (v : T) → WasNewest decode (take (length rows) (with_answer answer)) op n v → IsEntry decode (with_answer answer) n v
  newest_is answer n v e = entry_now answer n v (newest_entry decode get_epoch (with_answer answer) (length rows) op n v e)

  -- the fit of the answer
  fits : (answer : Answer T) → IsOneHistory decode get_epoch set_epoch failed (with_answer answer) → Answers decode get_epoch failed (take (length rows) (with_answer answer)) op answer
  fits answer good = good (length rows) (Answered op answer) (get_last rows (Answered op answer))

  knows_now : (answer : Answer T) (id epoch : ℕ) (v : T) → tells (nat_eq id) (Answered op answer) ≡ true → IsEntry decode (with_answer answer) id v → get_epoch v ≡ epoch → Knows decode get_epoch (with_answer answer) id epoch
  knows_now answer id epoch v is entry has = record { told = any_last (tells (nat_eq id)) rows (Answered op answer) is; value = v; entry = entry; has = has }

  -- views
  view_entry : (before : List (Row T)) (shown n : ℕ) (value : T) (call : Call T) → AnswerFits decode get_epoch failed before op call (answers.View shown n value) → Entered decode before op n value ⊎ WasNewest decode before op n value
  view_entry before shown n value (any.View (view_calls.Init v)) h = inl h.1
  view_entry before shown n value (any.View view_calls.Load) h = inr h.1
  view_entry before shown n value (any.View (view_calls.Refresh w)) h = inr h.1
  view_entry before shown n value (any.View (view_calls.Update w v)) h = inl h.1
  view_entry before shown n value (any.View (view_calls.HolderRefresh w)) h = inr h.1
  view_entry before shown n value (any.View (view_calls.HolderUpdate w v)) h = inl h.1
  view_entry before shown n value (any.View (view_calls.Claim w)) h = absurd h
  view_entry before shown n value (any.View (view_calls.ClaimAt w at)) h = absurd h
  view_entry before shown n value (any.Plain call) h = absurd h

  read_entry : (before : List (Row T)) (found : ℕ × T) (call : Call T) → AnswerFits decode get_epoch failed before op call (answers.Plain (plain_answers.Read (Some found))) → WasNewest decode before op found.0 found.1
  read_entry before found (any.Plain calls.Read) h = h
  read_entry before found (any.Plain (calls.Write base v)) h = absurd h
  read_entry before found (any.Plain (calls.WriteUnchecked base v)) h = absurd h
  read_entry before found (any.Plain (calls.ReadUnchecked id)) h = absurd h
  read_entry before found (any.Plain (calls.ReadSeen id)) h = absurd h
  read_entry before found (any.Plain (calls.ListIds from to)) h = absurd h
  read_entry before found (any.Plain (calls.Delete id)) h = absurd h
  read_entry before found (any.Plain (calls.Check id)) h = absurd h
  read_entry before found (any.Plain (calls.Advance to)) h = absurd h
  read_entry before found (any.View (view_calls.Init v)) h = absurd h
  read_entry before found (any.View view_calls.Load) h = absurd h
  read_entry before found (any.View (view_calls.Refresh w)) h = absurd h
  read_entry before found (any.View (view_calls.Update w v)) h = absurd h
  read_entry before found (any.View (view_calls.HolderRefresh w)) h = absurd h
  read_entry before found (any.View (view_calls.HolderUpdate w v)) h = absurd h
  read_entry before found (any.View (view_calls.Claim w)) h = absurd h
  read_entry before found (any.View (view_calls.ClaimAt w at)) h = absurd h

  are_numbered : (all : List (Row T)) → IsOneHistory decode get_epoch set_epoch failed all → AreNumbered all
  are_numbered all good k n call e = (good k (Begun n call) e).next

  wrote_known : (id epoch : ℕ) → IsOneHistory decode get_epoch set_epoch failed (with_answer (answers.Plain (plain_answers.Wrote id))) → Writes decode get_epoch rows op epoch → Knows decode get_epoch (with_answer (answers.Plain (plain_answers.Wrote id))) id epoch
  wrote_known id epoch good w =
      let answer : Answer T = answers.Plain (plain_answers.Wrote id) in
      let all = with_answer answer in
      let k = length rows in
      let a = fits answer good in
      let called : IsCall all op a.call = (a.called.0, (of_front all k a.called.0 (Begun op a.call) a.called.1).0) in
      let same = one_call all (are_numbered all good) op a.call (any.Plain (calls.Write w.base w.value)) called (call_kept rows (Answered op answer ∷ []) op (any.Plain (calls.Write w.base w.value)) w.call) in
      let fit : Entered decode (take k all) op id w.value = subst (λ (c : Call T). AnswerFits decode get_epoch failed (take k all) op c answer) same a.fits in
      knows_now answer id epoch w.value (eq-eqb id id refl) (entered_is answer good id w.value fit) w.has

  view_known : (shown id : ℕ) (value : T) → IsOneHistory decode get_epoch set_epoch failed (with_answer (answers.View shown id value)) → Knows decode get_epoch (with_answer (answers.View shown id value)) id (get_epoch value)
  view_known shown id value good =
      let answer : Answer T = answers.View shown id value in
      let a = fits answer good in
      knows_now answer id (get_epoch value) value (eq-eqb id id refl) (elim (view_entry (take (length rows) (with_answer answer)) shown id value a.call a.fits) [ inl e ↦ entered_is answer good id value e | inr e ↦ newest_is answer id value e ]) refl

  held_known : (shown id : ℕ) (value : T) (epoch : ℕ) → IsOneHistory decode get_epoch set_epoch failed (with_answer (answers.Held shown id value epoch)) → Knows decode get_epoch (with_answer (answers.Held shown id value epoch)) id (get_epoch value)
  held_known shown id value epoch good =
      let answer : Answer T = answers.Held shown id value epoch in
      let a = fits answer good in
      knows_now answer id (get_epoch value) value (eq-eqb id id refl) (entered_is answer good id value (held_fits decode get_epoch set_epoch failed (take (length rows) (with_answer answer)) op shown id epoch value a.call a.fits).entered) refl

  plain_known : (written : Option ℕ) (answer : PlainAnswer T) → IsOneHistory decode get_epoch set_epoch failed (with_answer (answers.Plain answer)) → IfWrites decode get_epoch rows op written → AreKnown decode get_epoch (with_answer (answers.Plain answer)) (note_plain get_epoch written answer)
  plain_known None (plain_answers.Wrote id) good w = tt
  plain_known (Some epoch) (plain_answers.Wrote id) good w = (wrote_known id epoch good w, tt)
  plain_known written (plain_answers.Read None) good w = tt
  plain_known written (plain_answers.Read (Some found)) good w =
      let answer : Answer T = answers.Plain (plain_answers.Read (Some found)) in
      let a = fits answer good in
      (knows_now answer found.0 (get_epoch found.1) found.1 (eq-eqb found.0 found.0 refl) (newest_is answer found.0 found.1 (read_entry (take (length rows) (with_answer answer)) found a.call a.fits)) refl, tt)
  plain_known written (plain_answers.Value value) good w = tt
  plain_known written (plain_answers.Ids ids) good w = tt
  plain_known written plain_answers.Done good w = tt
  plain_known written (plain_answers.Refused number) good w = tt

  -- what an answer tells is known, whatever the numbers of views
  pub answer_known : (names : ℕ → ℕ) (written : Option ℕ) (answer : Answer T) → IsOneHistory decode get_epoch set_epoch failed (with_answer (named_answer names answer)) → IfWrites decode get_epoch rows op written →
      AreKnown decode get_epoch (with_answer (named_answer names answer)) (note_of get_epoch written (Some answer))
  answer_known names written (answers.Plain answer) good w = plain_known written answer good w
  answer_known names written (answers.View view id value) good w = (view_known (names view) id value good, tt)
  answer_known names written (answers.Held view id value epoch) good w = (held_known (names view) id value epoch good, tt)
