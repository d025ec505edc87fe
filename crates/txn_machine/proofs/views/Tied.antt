-- Rows of a machine of writes and reads, and rows of the layer over it, that say the same of the store.
-- Each operation of the machine is of one operation of the layer, its owner. The machine's rows are the fine ones.
use Rattle.std.proofs.Common.{◌≡◌, ℕ, ◌+◌, ◌<◌, ◌≤◌, List, [], ◌∷◌, ◌++◌, length, take, slice_get, Bool, true, false, ◌||◌, if◌then◌else◌, Some, inl, inr, refl, sym, ◌∙◌, ap, subst, arith}
use Rattle.std.specs.FinMap.{empty, get}
use Rattle.std.proofs.lemmas.List.{length-append, take-append-le, take_all}
use Rattle.std.proofs.lemmas.Bool.{cases_lt}
use Rattle.std.proofs.lemmas.Option.{slice_get_within}
use Rattle.txn_store.specs.declared.request.Request.{Request}
use Rattle.txn_history.specs.declared.trace.RowOf.{RowOf}
use Rattle.txn_history.specs.declared.trace.RowOf.TheVariants.{Effect, Begun, Answered}
use Rattle.txn_history.specs.Names.{world_boundary}
use Rattle.txn_history.specs.History.{Version, Contents, is_id, removed, is_put, versions_from, versions_of, newest, was_erased, with_version, created, contents_after, stored_from, stored, boundary_said, boundary, put_count}
use Rattle.txn_history.specs.Calls.{begins, was_begun, AtRow}
use Rattle.txn_history.proofs.Lists.{get_more, get_kept, get_last, any_more, any_true}

module _ {C A : Type 0} where
  abbrev pub is_effect : RowOf C A → Bool
  is_effect (Effect op request) = true
  is_effect (Begun op call) = false
  is_effect (Answered op answer) = false

  -- the effects of rows, each as one of its owner
  abbrev pub effects_of : (ℕ → ℕ) → List (RowOf C A) → List (RowOf (Unit {0}) (Unit {0}))
  effects_of owner [] = []
  effects_of owner (Effect op request ∷ rows) = Effect (owner op) request ∷ effects_of owner rows
  effects_of owner (Begun op call ∷ rows) = effects_of owner rows
  effects_of owner (Answered op answer ∷ rows) = effects_of owner rows

  -- what rows say of the store, their effects say

  said_versions : (owner : ℕ → ℕ) (versions : List Version) (rows : List (RowOf C A)) → versions_from versions (effects_of owner rows) ≡ versions_from versions rows
  said_versions owner versions [] = refl
  said_versions owner versions (Effect op request ∷ rows) = said_versions owner (with_version versions (created request)) rows
  said_versions owner versions (Begun op call ∷ rows) = said_versions owner versions rows
  said_versions owner versions (Answered op answer ∷ rows) = said_versions owner versions rows

  said_stored : (owner : ℕ → ℕ) (contents : Contents) (rows : List (RowOf C A)) → stored_from contents (effects_of owner rows) ≡ stored_from contents rows
  said_stored owner contents [] = refl
  said_stored owner contents (Effect op request ∷ rows) = said_stored owner (contents_after contents request) rows
  said_stored owner contents (Begun op call ∷ rows) = said_stored owner contents rows
  said_stored owner contents (Answered op answer ∷ rows) = said_stored owner contents rows

  said_erased : (owner : ℕ → ℕ) (rows : List (RowOf C A)) (n : ℕ) → was_erased (effects_of owner rows) n ≡ was_erased rows n
  said_erased owner [] n = refl
  said_erased owner (Effect op request ∷ rows) n = ap (λ (b : Bool). is_id n (removed request) || b) (said_erased owner rows n)
  said_erased owner (Begun op call ∷ rows) n = said_erased owner rows n
  said_erased owner (Answered op answer ∷ rows) n = said_erased owner rows n

  said_puts : (owner : ℕ → ℕ) (rows : List (RowOf C A)) → put_count (effects_of owner rows) ≡ put_count rows
  said_puts owner [] = refl
  said_puts owner (Effect op request ∷ rows) = ap (λ (n : ℕ). (if is_put request then 1 else 0) + n) (said_puts owner rows)
  said_puts owner (Begun op call ∷ rows) = said_puts owner rows
  said_puts owner (Answered op answer ∷ rows) = said_puts owner rows

  -- one more row

  no_effect : (owner : ℕ → ℕ) (rows : List (RowOf C A)) (row : RowOf C A) → is_effect row ≡ false → effects_of owner (rows ++ row ∷ []) ≡ effects_of owner rows
  no_effect owner [] (Effect op request) h = cc
  no_effect owner [] (Begun op call) h = refl
  no_effect owner [] (Answered op answer) h = refl
  no_effect owner (Effect op request ∷ rows) row h = ap (λ (rs : List (RowOf (Unit {0}) (Unit {0}))). Effect (owner op) request ∷ rs) (no_effect owner rows row h)
  no_effect owner (Begun op call ∷ rows) row h = no_effect owner rows row h
  no_effect owner (Answered op answer ∷ rows) row h = no_effect owner rows row h

  one_effect : (owner : ℕ → ℕ) (rows : List (RowOf C A)) (n : ℕ) (request : Request) → effects_of owner (rows ++ Effect n request ∷ []) ≡ effects_of owner rows ++ Effect (owner n) request ∷ []
  one_effect owner [] n request = refl
  one_effect owner (Effect op other ∷ rows) n request = ap (λ (rs : List (RowOf (Unit {0}) (Unit {0}))). Effect (owner op) other ∷ rs) (one_effect owner rows n request)
  one_effect owner (Begun op call ∷ rows) n request = one_effect owner rows n request
  one_effect owner (Answered op answer ∷ rows) n request = one_effect owner rows n request

  not_effect : (row : RowOf C A) (op : ℕ) (request : Request) → is_effect row ≡ false → row ≡ Effect op request → ⊥
  not_effect (Effect o other) op request h e = cc
  not_effect (Begun o call) op request h e = cc
  not_effect (Answered o answer) op request h e = cc

abbrev effect_row : (C A : Type 0) → ℕ → Request → RowOf C A
effect_row C A op request = Effect op request

-- fronts of a list with one more

front_less : {A : Type 0} (xs : List A) (x : A) (k : ℕ) → k ≤ length xs → take k (xs ++ x ∷ []) ≡ take k xs
front_less xs x k le = take-append-le k xs (x ∷ []) le

front_last : {A : Type 0} (xs : List A) (x : A) → take (length xs) (xs ++ x ∷ []) ≡ xs
front_last xs x = front_less xs x (length xs) (omega arith) ∙ take_all (length xs) xs (omega arith)

front_past : {A : Type 0} (xs : List A) (x : A) (k : ℕ) → length xs < k → take k (xs ++ x ∷ []) ≡ xs ++ x ∷ []
front_past xs x k lt = take_all k (xs ++ x ∷ []) (omega (arith, lt, length-append xs (x ∷ [])))

front_at : {A : Type 0} (xs : List A) (x : A) (k : ℕ) (y : A) → slice_get xs k ≡ Some y → take k (xs ++ x ∷ []) ≡ take k xs
front_at xs x k y e = front_less xs x k (omega (arith, slice_get_within xs k y e))

module _ {C A D B : Type 0} (owner : ℕ → ℕ) where
  -- The same effects, each of its owner. Where an operation began, its owner has.
  pub record Alike (fine : List (RowOf C A)) (rows : List (RowOf D B)) : Type 0 where
    pub effects : effects_of (λ op. op) rows ≡ effects_of owner fine
    pub begun : (n : ℕ) → was_begun fine n ≡ true → was_begun rows (owner n) ≡ true

  -- some front of the rows says what this one of the fine rows does
  pub record FrontOf (fine : List (RowOf C A)) (rows : List (RowOf D B)) : Type 0 where
    pub place : ℕ
    pub within : place ≤ length rows
    pub alike : Alike fine (take place rows)

  -- a fine effect is one of its owner, after rows that say the same
  pub record EffectOf (before : List (RowOf C A)) (rows : List (RowOf D B)) (op : ℕ) (request : Request) : Type 0 where
    pub place : ℕ
    pub effect : slice_get rows place ≡ Some (Effect (owner op) request)
    pub alike : Alike before (take place rows)

  -- an effect is that of a fine operation that began, after rows that say the same
  pub record MadeBy (fine : List (RowOf C A)) (before : List (RowOf D B)) (op : ℕ) (request : Request) : Type 0 where
    pub place : ℕ
    pub maker : ℕ
    pub own : owner maker ≡ op
    pub effect : slice_get fine place ≡ Some (Effect maker request)
    pub begun : was_begun (take place fine) maker ≡ true
    pub alike : Alike (take place fine) before

  -- Both say the same, now and at each row.
  pub record Tied (fine : List (RowOf C A)) (rows : List (RowOf D B)) : Type 0 where
    pub top : Alike fine rows
    pub fronts : (k : ℕ) → FrontOf (take k fine) rows
    pub effects : (k op : ℕ) (request : Request) → slice_get fine k ≡ Some (Effect op request) → EffectOf (take k fine) rows op request
    pub makers : (k op : ℕ) (request : Request) → slice_get rows k ≡ Some (Effect op request) → MadeBy fine (take k rows) op request

  module _ (fine : List (RowOf C A)) (rows : List (RowOf D B)) (h : Alike fine rows) where
    pub same_versions : versions_of rows ≡ versions_of fine
    same_versions = sym (said_versions (λ op. op) [] rows) ∙ (ap (λ (rs : List (RowOf (Unit {0}) (Unit {0}))). versions_of rs) h.effects ∙ said_versions owner [] fine)

    pub same_newest : newest rows ≡ newest fine
    same_newest = ap length same_versions

    pub same_stored : stored rows ≡ stored fine
    same_stored = sym (said_stored (λ op. op) empty rows) ∙ (ap (λ (rs : List (RowOf (Unit {0}) (Unit {0}))). stored rs) h.effects ∙ said_stored owner empty fine)

    pub same_boundary : boundary rows ≡ boundary fine
    same_boundary = ap (λ (contents : Contents). boundary_said (get contents world_boundary)) same_stored

    pub same_erased : (n : ℕ) → was_erased rows n ≡ was_erased fine n
    same_erased n = sym (said_erased (λ op. op) rows n) ∙ (ap (λ (rs : List (RowOf (Unit {0}) (Unit {0}))). was_erased rs n) h.effects ∙ said_erased owner fine n)

    pub same_puts : put_count rows ≡ put_count fine
    same_puts = sym (said_puts (λ op. op) rows) ∙ (ap (λ (rs : List (RowOf (Unit {0}) (Unit {0}))). put_count rs) h.effects ∙ said_puts owner fine)

  -- a row of a fine operation's call gives one of its owner's
  pub lift_at : (fine : List (RowOf C A)) (rows : List (RowOf D B)) (n : ℕ) (P : List (RowOf C A) → Type 0) (Q : List (RowOf D B) → Type 0) → Tied fine rows → ((f : List (RowOf C A)) (g : List (RowOf D B)) → Alike f g → P f → Q g) → AtRow fine n P → AtRow rows (owner n) Q
  lift_at fine rows n P Q tied turn a =
      let f = tied.fronts a.place in
      record { place = f.place; within = f.within; begun = f.alike.begun n a.begun; there = turn (take a.place fine) (take f.place rows) f.alike a.there }

  front_now : (fine : List (RowOf C A)) (rows : List (RowOf D B)) → Alike fine rows → FrontOf fine rows
  front_now fine rows h = record { place = length rows; within = omega arith; alike = subst (Alike fine) (sym (take_all (length rows) rows (omega arith))) h }

  made_more : (fine : List (RowOf C A)) (before : List (RowOf D B)) (row : RowOf C A) (op : ℕ) (request : Request) → MadeBy fine before op request → MadeBy (fine ++ row ∷ []) before op request
  made_more fine before row op request m =
      let same = front_at fine row m.place (Effect m.maker request) m.effect in
      record {
        place = m.place;
        maker = m.maker;
        own = m.own;
        effect = get_kept fine (row ∷ []) m.place (Effect m.maker request) m.effect;
        begun = subst (λ (f : List (RowOf C A)). was_begun f m.maker ≡ true) (sym same) m.begun;
        alike = subst (λ (f : List (RowOf C A)). Alike f before) (sym same) m.alike;
      }

  front_more : (f : List (RowOf C A)) (rows : List (RowOf D B)) (row : RowOf D B) → FrontOf f rows → FrontOf f (rows ++ row ∷ [])
  front_more f rows row h = record { place = h.place; within = omega (arith, h.within, length-append rows (row ∷ [])); alike = subst (Alike f) (sym (front_less rows row h.place h.within)) h.alike }

  effect_more : (f : List (RowOf C A)) (rows : List (RowOf D B)) (row : RowOf D B) (op : ℕ) (request : Request) → EffectOf f rows op request → EffectOf f (rows ++ row ∷ []) op request
  effect_more f rows row op request h =
      record {
        place = h.place;
        effect = get_kept rows (row ∷ []) h.place (Effect (owner op) request) h.effect;
        alike = subst (Alike f) (sym (front_at rows row h.place (Effect (owner op) request) h.effect)) h.alike;
      }

  -- nothing at all
  pub tied_first : Tied [] []
  tied_first =
      let none : Alike [] [] = record { effects = refl; begun = λ n e. cc } in
      record { top = none; fronts = λ k. subst (λ (f : List (RowOf C A)). FrontOf f []) (sym (take_all k [] (omega arith))) (front_now [] [] none); effects = λ k op request e. cc; makers = λ k op request e. cc }

  -- one more fine row, of the begin of an operation whose owner began, or of an answer
  pub tied_fine : (fine : List (RowOf C A)) (rows : List (RowOf D B)) (row : RowOf C A) → is_effect row ≡ false → ((n : ℕ) → begins n row ≡ true → was_begun rows (owner n) ≡ true) → Tied fine rows → Tied (fine ++ row ∷ []) rows
  tied_fine fine rows row none begun h =
      let now : Alike (fine ++ row ∷ []) rows = record {
        effects = h.top.effects ∙ sym (no_effect owner fine row none);
        begun = λ n e. elim (any_more (begins n) fine row e) [ inl old ↦ h.top.begun n old | inr new ↦ begun n new ];
      } in
      record {
        top = now;
        fronts = λ k. elim (cases_lt (length fine) k) [
          | inl past ↦ subst (λ (f : List (RowOf C A)). FrontOf f rows) (sym (front_past fine row k past)) (front_now (fine ++ row ∷ []) rows now)
          | inr le ↦ subst (λ (f : List (RowOf C A)). FrontOf f rows) (sym (front_less fine row k le)) (h.fronts k)
        ];
        effects = λ k op request e. elim (get_more fine row k (Effect op request) e) [
          | inl old ↦ subst (λ (f : List (RowOf C A)). EffectOf f rows op request) (sym (front_at fine row k (Effect op request) old)) (h.effects k op request old)
          | inr last ↦ absurd (not_effect row op request none last.1)
        ];
        makers = λ k op request e. made_more fine (take k rows) row op request (h.makers k op request e);
      }

  -- one more row of the layer, of a begin or of an answer
  pub tied_rows : (fine : List (RowOf C A)) (rows : List (RowOf D B)) (row : RowOf D B) → is_effect row ≡ false → Tied fine rows → Tied fine (rows ++ row ∷ [])
  tied_rows fine rows row none h =
      record {
        top = record {
          effects = no_effect (λ op. op) rows row none ∙ h.top.effects;
          begun = λ n e. any_true (begins (owner n)) rows row (h.top.begun n e);
        };
        fronts = λ k. front_more (take k fine) rows row (h.fronts k);
        effects = λ k op request e. effect_more (take k fine) rows row op request (h.effects k op request e);
        makers = λ k op request e. elim (get_more rows row k (Effect op request) e) [
          | inl old ↦ subst (λ (g : List (RowOf D B)). MadeBy fine g op request) (sym (front_at rows row k (Effect op request) old)) (h.makers k op request old)
          | inr last ↦ absurd (not_effect row op request none last.1)
        ];
      }

  -- the same effect of both
  pub tied_effect : (fine : List (RowOf C A)) (rows : List (RowOf D B)) (n : ℕ) (request : Request) → was_begun fine n ≡ true → Tied fine rows → Tied (fine ++ Effect n request ∷ []) (rows ++ Effect (owner n) request ∷ [])
  tied_effect fine rows n request begun h =
      let row : RowOf C A = Effect n request in
      let own : RowOf D B = Effect (owner n) request in
      let now : Alike (fine ++ row ∷ []) (rows ++ own ∷ []) = record {
        effects = one_effect (λ op. op) rows (owner n) request ∙ (ap (λ (rs : List (RowOf (Unit {0}) (Unit {0}))). rs ++ Effect (owner n) request ∷ []) h.top.effects ∙ sym (one_effect owner fine n request));
        begun = λ i e. elim (any_more (begins i) fine row e) [ inl old ↦ any_true (begins (owner i)) rows own (h.top.begun i old) | inr new ↦ cc ];
      } in
      record {
        top = now;
        fronts = λ k. elim (cases_lt (length fine) k) [
          | inl past ↦ subst (λ (f : List (RowOf C A)). FrontOf f (rows ++ own ∷ [])) (sym (front_past fine row k past)) (front_now (fine ++ row ∷ []) (rows ++ own ∷ []) now)
          | inr le ↦ subst (λ (f : List (RowOf C A)). FrontOf f (rows ++ own ∷ [])) (sym (front_less fine row k le)) (front_more (take k fine) rows own (h.fronts k))
        ];
        effects = λ k op asked e. elim (get_more fine row k (Effect op asked) e) [
          | inl old ↦ subst (λ (f : List (RowOf C A)). EffectOf f (rows ++ own ∷ []) op asked) (sym (front_at fine row k (Effect op asked) old)) (effect_more (take k fine) rows own op asked (h.effects k op asked old))
          | inr last ↦ last_effect k op asked last.0 last.1
        ];
        makers = λ k op asked e. elim (get_more rows own k (Effect op asked) e) [
          | inl old ↦ subst (λ (g : List (RowOf D B)). MadeBy (fine ++ row ∷ []) g op asked) (sym (front_at rows own k (Effect op asked) old)) (made_more fine (take k rows) row op asked (h.makers k op asked old))
          | inr last ↦ last_maker k op asked last.0 last.1
        ];
      }
    where
      last_effect : (k op : ℕ) (asked : Request) → k ≡ length fine → effect_row C A n request ≡ effect_row C A op asked → EffectOf (take k (fine ++ Effect n request ∷ [])) (rows ++ Effect (owner n) request ∷ []) op asked
      last_effect k op asked at e =
          let one : n ≡ op = cc in
          let what : request ≡ asked = cc in
          record {
            place = length rows;
            effect = rw (sym one, sym what) (get_last rows (Effect (owner n) request));
            alike =
                let front : take k (fine ++ Effect n request ∷ []) ≡ fine = ap (λ (i : ℕ). take i (fine ++ Effect n request ∷ [])) at ∙ front_last fine (Effect n request) in
                subst (λ (f : List (RowOf C A)). Alike f (take (length rows) (rows ++ Effect (owner n) request ∷ []))) (sym front) (subst (Alike fine) (sym (front_last rows (Effect (owner n) request))) h.top);
          }

      last_maker : (k op : ℕ) (asked : Request) → k ≡ length rows → effect_row D B (owner n) request ≡ effect_row D B op asked → MadeBy (fine ++ Effect n request ∷ []) (take k (rows ++ Effect (owner n) request ∷ [])) op asked
      last_maker k op asked at e =
          let one : owner n ≡ op = cc in
          let what : request ≡ asked = cc in
          let front : take k (rows ++ Effect (owner n) request ∷ []) ≡ rows = ap (λ (i : ℕ). take i (rows ++ Effect (owner n) request ∷ [])) at ∙ front_last rows (Effect (owner n) request) in
          let same = front_last fine (effect_row C A n request) in
          record {
            place = length fine;
            maker = n;
            own = one;
            effect = rw (sym what) (get_last fine (Effect n request));
            begun = subst (λ (f : List (RowOf C A)). was_begun f n ≡ true) (sym same) begun;
            alike = subst (λ (g : List (RowOf D B)). Alike (take (length fine) (fine ++ Effect n request ∷ [])) g) (sym front) (subst (λ (f : List (RowOf C A)). Alike f rows) (sym same) h.top);
          }
