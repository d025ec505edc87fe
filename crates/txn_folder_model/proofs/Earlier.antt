-- A call at one moment and at a later one.
use Rattle.std.proofs.Common.{◌≡◌, ℕ, zero, suc, ◌<◌, ◌≤◌, ◌==◌, if◌then◌else◌, not, is_some, Bool, true, false, Option, Some, None, refl, ap, sym, subst, ◌∙◌, arith, ◌⊎◌, inl, inr}
use Rattle.std.specs.Prelude.{nat_lt}
use Rattle.std.proofs.lemmas.Bool.{cases_lt, eqb-true, eqb-false}
use Rattle.std.proofs.lemmas.Option.{same_Some}
use Rattle.txn_store.specs.Paths.{Segments}
use Rattle.txn_store.specs.VersionName.{Names}
use Rattle.txn_store.specs.declared.request.Reply.{Reply}
use Rattle.txn_folder.specs.steps.Folders.{Ask, Way, Told, step_told}
use Rattle.txn_folder.specs.steps.Steps.{Verdict, Is, Ends, Work, Creates, Gets, Updates, Deletes, asked, turned, verdict_of}
use Rattle.txn_folder_model.specs.Worlds.{Call, World, Job, Event, Begin, Step, Kill, Clean, first_work, begun, answers, answer_of, ended_with, worked, goes, killed, may_draw, runs, after, stepped, world}
use Rattle.txn_folder_model.specs.Linear.{request_of}
use Rattle.txn_folder_model.proofs.Stepping.{nobody, second_true}
use Rattle.txn_folder_model.proofs.Theorem.{ended_before}

-- A call began before the moment at which it is there, and ended no earlier; while it goes on it has no answer.
pub record IsTimed (t : ℕ) (k : Call) : Type 0 where
  pub began : k.began < t
  pub ended : (e : ℕ) → k.ended ≡ Some e → (k.began ≤ e) × (e < t)
  pub silent : k.ended ≡ None → k.answer ≡ None

module _ (names : Names) (boundary : Segments) where
  -- What becomes of a call after a moment: it asks for the same, it is as it was if it had ended, and else it ends later.
  pub record GoesOn (t : ℕ) (k now : Call) : Type 0 where
    pub client : now.client ≡ k.client
    pub request : request_of names boundary now.work ≡ request_of names boundary k.work
    pub began : now.began ≡ k.began
    pub same : (e : ℕ) → k.ended ≡ Some e → now ≡ k
    pub late : (e : ℕ) → k.ended ≡ None → now.ended ≡ Some e → t ≤ e
    pub silent : now.ended ≡ None → now.answer ≡ k.answer

  stays : (t : ℕ) (k : Call) → GoesOn t k k
  stays t k = record { client = refl; request = refl; began = refl; same = λ e is. refl; late = λ e none is. absurd (let clash = sym none ∙ is in cc); silent = λ none. refl }

  on_and_on : (t s : ℕ) (a b c : Call) → t ≤ s → GoesOn t a b → GoesOn s b c → GoesOn t a c
  on_and_on t s a b c low g h = record {
    client = h.client ∙ g.client;
    request = h.request ∙ g.request;
    began = h.began ∙ g.began;
    same = λ e is. (let was = g.same e is in h.same e (ap (λ (k : Call). k.ended) was ∙ is) ∙ was);
    late = λ e none is. by e none is b.ended refl;
    silent = λ none. h.silent none ∙ g.silent (still none b.ended refl);
  }
    where
      still : c.ended ≡ None → (o : Option ℕ) → b.ended ≡ o → b.ended ≡ None
      still none None at = at
      still none (Some d) at = absurd (let clash : Some d ≡ None = sym at ∙ sym (ap (λ (k : Call). k.ended) (h.same d at)) ∙ none in cc)

      by : (e : ℕ) → a.ended ≡ None → c.ended ≡ Some e → (o : Option ℕ) → b.ended ≡ o → t ≤ e
      by e none is None at = let more = h.late e at is in omega (arith, low, more)
      by e none is (Some d) at =
          let from = g.late d none at in
          let now : d ≡ e = same_Some d e (sym (ap (λ (k : Call). k.ended) (h.same d at) ∙ at) ∙ is) in
          omega (arith, from, now)

  turned_request : (work : Work) (told : Told) → request_of names boundary (turned work told) ≡ request_of names boundary work
  turned_request (Creates place bytes (Is state)) told = refl
  turned_request (Creates place bytes (Ends verdict)) told = refl
  turned_request (Gets place known (Is state)) told = refl
  turned_request (Gets place known (Ends verdict)) told = refl
  turned_request (Updates bytes token (Is state)) told = refl
  turned_request (Updates bytes token (Ends verdict)) told = refl
  turned_request (Deletes id (Is state)) told = refl
  turned_request (Deletes id (Ends verdict)) told = refl

  module _ (floor t : ℕ) (w : World) (c : ℕ) (low : c < w.count) where
    abbrev Goes : World → Type 0
    Goes v = (w.count ≤ v.count) × GoesOn t (w.calls c) (v.calls c)

    one : (d : ℕ) (k : Call → Call) → ((w.calls c).ended ≡ None → GoesOn t (w.calls c) (k (w.calls c))) → (w.calls d).ended ≡ None → (b : Bool) → (c == d) ≡ b → GoesOn t (w.calls c) (if b then k (w.calls d) else w.calls c)
    one d k own none true is =
        let same : c ≡ d = eqb-true c d is in
        subst (λ (x : ℕ). GoesOn t (w.calls c) (k (w.calls x))) same (own (subst (λ (x : ℕ). (w.calls x).ended ≡ None) (sym same) none))
    one d k own none false is = stays t (w.calls c)

    ends_now : (answer : Option Reply) → (w.calls c).ended ≡ None → GoesOn t (w.calls c) (ended_with t answer (w.calls c))
    ends_now answer none = record { client = refl; request = refl; began = refl; same = λ e is. absurd (let clash = sym none ∙ is in cc); late = λ e was is. (let now = same_Some t e is in omega (arith, now)); silent = λ is. absurd (cc) }

    works_on : (told : Told) → (w.calls c).ended ≡ None → GoesOn t (w.calls c) (worked (w.calls c) (turned (w.calls c).work told))
    works_on told none = record { client = refl; request = turned_request (w.calls c).work told; began = refl; same = λ e is. absurd (let clash = sym none ∙ is in cc); late = λ e was is. absurd (let clash = sym none ∙ is in cc); silent = λ is. refl }

    answers_go : (d : ℕ) → (w.calls d).ended ≡ None → (o : Option Verdict) → Goes (answers t d o w)
    answers_go d none None = (omega arith, stays t (w.calls c))
    answers_go d none (Some verdict) = (omega arith, one d (ended_with t (answer_of verdict)) (ends_now (answer_of verdict)) none (c == d) refl)

    draws_go : (d : ℕ) → (w.calls d).ended ≡ None → (ask : Ask) (way : Way) (b : Bool) → Goes (if b then stepped d ask way w else w)
    draws_go d none ask way true = (omega arith, one d (λ k. worked k (turned k.work (step_told d ask way w.folder))) (works_on (step_told d ask way w.folder)) none (c == d) refl)
    draws_go d none ask way false = (omega arith, stays t (w.calls c))

    steps_go : (d : ℕ) → (w.calls d).ended ≡ None → (o : Option Ask) (way : Way) → Goes (goes floor t d o way w)
    steps_go d none None way = answers_go d none (verdict_of (w.calls d).work)
    steps_go d none (Some ask) way = draws_go d none ask way (may_draw floor w.owners way)

    open_of : (d : ℕ) → runs w d ≡ true → (w.calls d).ended ≡ None
    open_of d on = nobody (w.calls d).ended (second_true (nat_lt d w.count) (not (is_some (w.calls d).ended)) on).1

    runs_go : (d : ℕ) (way : Way) (b : Bool) → runs w d ≡ b → Goes (if b then goes floor t d (asked d (w.calls d).work) way w else w)
    runs_go d way true on = steps_go d (open_of d on) (asked d (w.calls d).work) way
    runs_go d way false on = (omega arith, stays t (w.calls c))

    kills_go : (d : ℕ) (b : Bool) → runs w d ≡ b → Goes (if b then killed t d w else w)
    kills_go d true on = (omega arith, one d (ended_with t None) (ends_now None) (open_of d on) (c == d) refl)
    kills_go d false on = (omega arith, stays t (w.calls c))

    begins_go : (client : ℕ) (job : Job) → Goes (begun t client job w)
    begins_go client job = (omega arith, other (c == w.count) refl)
      where
        other : (b : Bool) → (c == w.count) ≡ b → GoesOn t (w.calls c) (if b then record { client = client; work = first_work job; began = t; ended = None; answer = None } else w.calls c)
        other true is = absurd (let same = eqb-true c w.count is in omega (arith, low, same))
        other false is = stays t (w.calls c)

    event_goes : (event : Event) → Goes (after floor t event w)
    event_goes (Begin client job) = begins_go client job
    event_goes (Step d way) = runs_go d way (runs w d) refl
    event_goes (Kill d) = kills_go d (runs w d) refl
    event_goes (Clean d) = (omega arith, stays t (w.calls c))

  -- a call that is new
  abbrev IsNew : ℕ → World → ℕ → World → Type 0
  IsNew t w c v = c < v.count → w.count ≤ c → ((v.calls c).began ≡ t) × ((v.calls c).ended ≡ None) × ((v.calls c).answer ≡ None)

  module _ (floor t : ℕ) (w : World) (c : ℕ) where
    answers_new : (d : ℕ) (o : Option Verdict) → IsNew t w c (answers t d o w)
    answers_new d None low past = absurd (omega (arith, low, past))
    answers_new d (Some verdict) low past = absurd (omega (arith, low, past))

    draws_new : (d : ℕ) (ask : Ask) (way : Way) (b : Bool) → IsNew t w c (if b then stepped d ask way w else w)
    draws_new d ask way true low past = absurd (omega (arith, low, past))
    draws_new d ask way false low past = absurd (omega (arith, low, past))

    steps_new : (d : ℕ) (o : Option Ask) (way : Way) → IsNew t w c (goes floor t d o way w)
    steps_new d None way = answers_new d (verdict_of (w.calls d).work)
    steps_new d (Some ask) way = draws_new d ask way (may_draw floor w.owners way)

    runs_new : (d : ℕ) (way : Way) (b : Bool) → IsNew t w c (if b then goes floor t d (asked d (w.calls d).work) way w else w)
    runs_new d way true = steps_new d (asked d (w.calls d).work) way
    runs_new d way false = λ low past. absurd (omega (arith, low, past))

    kills_new : (d : ℕ) (b : Bool) → IsNew t w c (if b then killed t d w else w)
    kills_new d true low past = absurd (omega (arith, low, past))
    kills_new d false low past = absurd (omega (arith, low, past))

    begins_new : (client : ℕ) (job : Job) → IsNew t w c (begun t client job w)
    begins_new client job low past = by (c == w.count) refl
      where
        by : (b : Bool) → (c == w.count) ≡ b → ((if b then record { client = client; work = first_work job; began = t; ended = None; answer = None } else w.calls c).began ≡ t) × ((if b then record { client = client; work = first_work job; began = t; ended = None; answer = None } else w.calls c).ended ≡ None) × ((if b then record { client = client; work = first_work job; began = t; ended = None; answer = None } else w.calls c).answer ≡ None)
        by true is = (refl, refl, refl)
        by false is = absurd (let other = eqb-false c w.count is in omega (arith, low, past, other))

    event_new : (event : Event) → IsNew t w c (after floor t event w)
    event_new (Begin client job) = begins_new client job
    event_new (Step d way) = runs_new d way (runs w d)
    event_new (Kill d) = kills_new d (runs w d)
    event_new (Clean d) = λ low past. absurd (omega (arith, low, past))

  module _ (floor : ℕ) (events : ℕ → Event) where
    abbrev w : ℕ → World
    w = world floor events

    -- how a call of one moment stands at a later one
    pub goes_on : (t n c : ℕ) → t ≤ n → c < (w t).count → ((w t).count ≤ (w n).count) × GoesOn t ((w t).calls c) ((w n).calls c)
    goes_on t zero c most low = let same : t ≡ 0 = omega (arith, most) in subst (λ (n : ℕ). ((w t).count ≤ (w n).count) × GoesOn t ((w t).calls c) ((w n).calls c)) same (omega arith, stays t ((w t).calls c))
    goes_on t (suc n) c most low = elim (cases_lt t (suc n)) [
      | inl less ↦
          let before = goes_on t n c (omega (arith, less)) low in
          let few = before.0 in
          let next = event_goes floor n (w n) c (omega (arith, low, few)) (events n) in
          let more = next.0 in
          (omega (arith, few, more), on_and_on t n ((w t).calls c) ((w n).calls c) ((w (suc n)).calls c) (omega (arith, less)) before.1 next.1)
      | inr past ↦ let same : t ≡ suc n = omega (arith, past, most) in subst (λ (x : ℕ). ((w t).count ≤ (w x).count) × GoesOn t ((w t).calls c) ((w x).calls c)) same (omega arith, stays t ((w t).calls c))
    ]

    timed_on : (t c : ℕ) → c < (w t).count → IsTimed t ((w t).calls c) → IsTimed (suc t) ((w (suc t)).calls c)
    timed_on t c low timed = record {
      began = (let was = g.began in let first = timed.began in omega (arith, was, first));
      ended = λ e is. by e is ((w t).calls c).ended refl;
      silent = λ none. g.silent none ∙ timed.silent (still none ((w t).calls c).ended refl);
    }
      where
        both : ((w t).count ≤ (w (suc t)).count) × GoesOn t ((w t).calls c) ((w (suc t)).calls c)
        both = event_goes floor t (w t) c low (events t)

        g : GoesOn t ((w t).calls c) ((w (suc t)).calls c)
        g = both.1

        still : ((w (suc t)).calls c).ended ≡ None → (o : Option ℕ) → ((w t).calls c).ended ≡ o → ((w t).calls c).ended ≡ None
        still none None at = at
        still none (Some d) at = absurd (let clash : Some d ≡ None = sym at ∙ sym (ap (λ (k : Call). k.ended) (g.same d at)) ∙ none in cc)

        by : (e : ℕ) → ((w (suc t)).calls c).ended ≡ Some e → (o : Option ℕ) → ((w t).calls c).ended ≡ o → (((w (suc t)).calls c).began ≤ e) × (e < suc t)
        by e is None at =
            let from = g.late e at is in
            let was = g.began in
            let first = timed.began in
            let past = ended_before floor events (suc t) c e (let few = both.0 in omega (arith, few, low)) is in
            (omega (arith, from, was, first), past)
        by e is (Some d) at =
            let now : d ≡ e = same_Some d e (sym at ∙ sym (ap (λ (k : Call). k.ended) (g.same d at)) ∙ is) in
            let first = timed.ended d at in
            let one = first.0 in
            let two = first.1 in
            let was = g.began in
            (omega (arith, one, now, was), omega (arith, two, now))

    pub timed : (t c : ℕ) → c < (w t).count → IsTimed t ((w t).calls c)
    timed zero c low = absurd (omega (arith, low))
    timed (suc t) c low = elim (cases_lt c (w t).count) [
      | inl less ↦ timed_on t c less (timed t c less)
      | inr past ↦
          let new = event_new floor t (w t) c (events t) low past in
          let began = new.0 in
          record { began = omega (arith, began); ended = λ e is. absurd (let clash = sym new.1 ∙ is in cc); silent = λ none. new.2 }
    ]

    -- a call of a later moment was there, or began since
    pub there_before : (t n c : ℕ) → t ≤ n → c < (w n).count → (c < (w t).count) ⊎ (t ≤ ((w n).calls c).began)
    there_before t zero c most low = absurd (omega (arith, low))
    there_before t (suc n) c most low = elim (cases_lt c (w n).count) [
      | inl less ↦ elim (cases_lt t (suc n)) [
        | inl old ↦ elim (there_before t n c (omega (arith, old)) less) [
          | inl there ↦ inl there
          | inr since ↦ inr (let was = (event_goes floor n (w n) c less (events n)).1.began in omega (arith, was, since))
        ]
        | inr now ↦ let same : suc n ≡ t = omega (arith, most, now) in inl (subst (λ (x : ℕ). c < (w x).count) same low)
      ]
      | inr past ↦ elim (cases_lt t (suc n)) [
        | inl old ↦ inr (let began = (event_new floor n (w n) c (events n) low past).0 in omega (arith, began, old))
        | inr now ↦ let same : suc n ≡ t = omega (arith, most, now) in inl (subst (λ (x : ℕ). c < (w x).count) same low)
      ]
    ]
