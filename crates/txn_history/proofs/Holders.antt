-- A holder's view never has an epoch below its own.
use Rattle.std.proofs.Common.{◌≡◌, ℕ, ◌≤◌, List, [], ◌∷◌, ◌++◌, length, take, ◌==◌, Bool, true, false, cond, Option, Some, None, ◌⊎◌, inl, inr, refl, sym, ◌∙◌, ap, subst, arith}
use Rattle.std.proofs.lemmas.List.{take_all}
use Rattle.std.proofs.lemmas.Bool.{eqb-true}
use Rattle.std.proofs.lemmas.Option.{same_Some}
use Rattle.txn_store.specs.types.Numbers.{number_of}
use Rattle.txn_history.specs.declared.trace.RowOf.TheVariants.{Effect, Begun, Answered}
use Rattle.txn_history.specs.History.{IsEntry}
use Rattle.txn_history.specs.Facts.{Entered, WasNewest}
use Rattle.txn_history.proofs.Fronts.{later_at}
use Rattle.txn_history.proofs.Entries.{fronts_of, entry_more, entered_entry, newest_entry}
use Rattle.txn_history.specs.declared.event.ViewCall.TheVariants as view_calls
use Rattle.txn_history.specs.declared.event.Call.{Call}
use Rattle.txn_history.specs.declared.event.Call.TheVariants as any
use Rattle.txn_history.specs.declared.event.Answer.{Answer}
use Rattle.txn_history.specs.declared.event.Answer.TheVariants as answers
use Rattle.txn_history.specs.Trace.{Row}
use Rattle.txn_history.specs.Views.{or_else, last_told, first_told, id_shown, epoch_shown, view_at, epoch_held, View, ViewsFit}
use Rattle.txn_history.specs.OneHistory.{Shows, AnswerFits, Fits, IsOneHistory}
use Rattle.txn_history.specs.Laws.{HoldersRise, HoldersStand}
use Rattle.txn_history.proofs.Legal.{are_moves}
use Rattle.txn_history.proofs.Claimers.{held_says, held_fits}

or_assoc : (a b c : Option ℕ) → or_else a (or_else b c) ≡ or_else (or_else a b) c
or_assoc None b c = refl
or_assoc (Some n) b c = refl

or_none : (a : Option ℕ) → a ≡ or_else a None
or_none None = refl
or_none (Some n) = refl

module _ {T : Type 0} where
  abbrev pub told_in : (Answer T → Option ℕ) → Row T → Option ℕ
  told_in reading (Answered op answer) = reading answer
  told_in reading (Effect op request) = None
  told_in reading (Begun op call) = None

  pub last_more : (reading : Answer T → Option ℕ) (last : Option ℕ) (rows : List (Row T)) (row : Row T) → last_told reading last (rows ++ row ∷ []) ≡ or_else (told_in reading row) (last_told reading last rows)
  last_more reading last [] (Answered op answer) = refl
  last_more reading last [] (Effect op request) = refl
  last_more reading last [] (Begun op call) = refl
  last_more reading last (Answered op answer ∷ rows) row = last_more reading (or_else (reading answer) last) rows row
  last_more reading last (Effect op request ∷ rows) row = last_more reading last rows row
  last_more reading last (Begun op call ∷ rows) row = last_more reading last rows row

  pub first_more : (reading : Answer T → Option ℕ) (rows : List (Row T)) (row : Row T) → first_told reading (rows ++ row ∷ []) ≡ or_else (first_told reading rows) (told_in reading row)
  first_more reading [] (Answered op answer) = sym (or_none (reading answer))
  first_more reading [] (Effect op request) = refl
  first_more reading [] (Begun op call) = refl
  first_more reading (Answered op answer ∷ rows) row = ap (or_else (reading answer)) (first_more reading rows row) ∙ or_assoc (reading answer) (first_told reading rows) (told_in reading row)
  first_more reading (Effect op request ∷ rows) row = first_more reading rows row
  first_more reading (Begun op call ∷ rows) row = first_more reading rows row

  no_lower : (before : List (Row T)) (view shown n : ℕ) → Shows before view shown n → number_of (view_at before shown) ≤ n
  no_lower before view shown n s = subst (λ (w : ℕ). number_of (view_at before w) ≤ n) (sym s.same) s.rises

module _ {T : Type 0} (decode : List ℕ → Option T) (get_epoch : T → ℕ) (set_epoch : T → ℕ → T) (failed : List ℕ) where
  -- what an answer that shows a view says
  record Said (before : List (Row T)) (op shown n : ℕ) (value : T) : Type 0 where
    rises : number_of (view_at before shown) ≤ n
    is : Entered decode before op n value ⊎ WasNewest decode before op n value

  said : (before : List (Row T)) (op shown n : ℕ) (value : T) (call : Call T) → AnswerFits decode get_epoch failed before op call (answers.View shown n value) → Said before op shown n value
  said before op shown n value (any.View (view_calls.Init v)) h = record { rises = no_lower before _ shown n h.0; is = inl h.1 }
  said before op shown n value (any.View view_calls.Load) h = record { rises = no_lower before _ shown n h.0; is = inr h.1 }
  said before op shown n value (any.View (view_calls.Refresh w)) h = record { rises = no_lower before w shown n h.0; is = inr h.1 }
  said before op shown n value (any.View (view_calls.Update w v)) h = record { rises = no_lower before w shown n h.0; is = inl h.1 }
  said before op shown n value (any.View (view_calls.HolderRefresh w)) h = record { rises = no_lower before w shown n h.0; is = inr h.1 }
  said before op shown n value (any.View (view_calls.HolderUpdate w v)) h = record { rises = no_lower before w shown n h.0; is = inl h.1 }
  said before op shown n value (any.View (view_calls.Claim w)) h = absurd h
  said before op shown n value (any.View (view_calls.ClaimAt w at)) h = absurd h
  said before op shown n value (any.Plain call) h = absurd h

  held_rises : (before : List (Row T)) (op view n epoch : ℕ) (value : T) (call : Call T) → AnswerFits decode get_epoch failed before op call (answers.Held view n value epoch) → number_of (view_at before view) ≤ n
  held_rises before op view n epoch value call h = let shows = (held_says decode get_epoch set_epoch failed before op view n epoch value call h).0 in no_lower before shows.0 view n shows.2

  said_entry : (rows : List (Row T)) → IsOneHistory decode get_epoch set_epoch failed rows → (k op shown n : ℕ) (value : T) → Said (take k rows) op shown n value → IsEntry decode (take k rows) n value
  said_entry rows good k op shown n value s = elim s.is [ inl e ↦ entered_entry decode get_epoch rows (are_moves decode get_epoch set_epoch failed rows good) k op n value e | inr e ↦ newest_entry decode get_epoch rows k op n value e ]

  -- a holder's claim entered an entry of its epoch, at or below where its view stands
  record HeldAt (front : List (Row T)) (view epoch : ℕ) : Type 0 where
    id : ℕ
    value : T
    entry : IsEntry decode front id value
    has : get_epoch value ≡ epoch
    below : id ≤ number_of (view_at front view)

  abbrev HoldersAt : ℕ → List (Row T) → Type 0
  HoldersAt view front = (epoch : ℕ) → epoch_held front view ≡ Some epoch → HeldAt front view epoch

  -- one more row, by what it shows of the view and of its holder's epoch
  holders_more : (before : List (Row T)) (row : Row T) (view : ℕ) → (now held : Option ℕ) → told_in (id_shown view) row ≡ now → told_in (epoch_shown view) row ≡ held → ((n : ℕ) → now ≡ Some n → number_of (view_at before view) ≤ n) →
      ((e : ℕ) → held ≡ Some e → (n : ℕ) × (now ≡ Some n) × (v : T) × IsEntry decode before n v × (get_epoch v ≡ e)) → HoldersAt view before → HoldersAt view (before ++ row ∷ [])
  holders_more before row view now held is_now is_held up new h epoch e =
      let at : view_at (before ++ row ∷ []) view ≡ or_else now (view_at before view) = last_more (id_shown view) None before row ∙ ap (λ (o : Option ℕ). or_else o (view_at before view)) is_now in
      let was : or_else (epoch_held before view) held ≡ Some epoch = sym (first_more (epoch_shown view) before row ∙ ap (or_else (epoch_held before view)) is_held) ∙ e in
      elim (split (epoch_held before view) held epoch was) [
        | inl old ↦ (
            let q = h epoch old in
            record {
              id = q.id;
              value = q.value;
              entry = entry_more decode get_epoch before row q.id q.value q.entry;
              has = q.has;
              below = rw at (stays now (view_at before view) q.id up q.below);
            }
            )
        | inr fresh ↦ (
            let q = new epoch fresh in
            record {
              id = q.0;
              value = q.2;
              entry = entry_more decode get_epoch before row q.0 q.2 q.3;
              has = q.4;
              below = rw (at, q.1) (omega arith);
            }
            )
      ]
    where
      split : (a b : Option ℕ) (epoch : ℕ) → or_else a b ≡ Some epoch → (a ≡ Some epoch) ⊎ (b ≡ Some epoch)
      split None b epoch e = inr e
      split (Some n) b epoch e = inl e

      stays : (now was : Option ℕ) (id : ℕ) → ((n : ℕ) → now ≡ Some n → number_of was ≤ n) → id ≤ number_of was → id ≤ number_of (or_else now was)
      stays None was id up le = le
      stays (Some n) was id up le = let u = up n refl in omega (arith, u, le)

  if_some : (b : Bool) (n m : ℕ) → cond b (Some n) None ≡ Some m → (b ≡ true) × (n ≡ m)
  if_some true n m e = (refl, same_Some n m e)
  if_some false n m e = cc

  answer_holders : (rows : List (Row T)) → IsOneHistory decode get_epoch set_epoch failed rows → (k op view : ℕ) (call : Call T) (answer : Answer T) → AnswerFits decode get_epoch failed (take k rows) op call answer → HoldersAt view (take k rows) → HoldersAt view (take k rows ++ Answered op answer ∷ [])
  answer_holders rows good k op view call (answers.View shown n value) fits h =
      let s = said (take k rows) op shown n value call fits in
      holders_more (take k rows) (Answered op (answers.View shown n value)) view (cond (shown == view) (Some n) None) None refl refl
      (λ m e. (let q = if_some (shown == view) n m e in let up = subst (λ (w : ℕ). number_of (view_at (take k rows) w) ≤ n) (eqb-true shown view q.0) s.rises in let same = q.1 in omega (arith, up, same))) (λ e q. cc) h
  answer_holders rows good k op view call (answers.Held shown n value epoch) fits h =
      let g = held_fits decode get_epoch set_epoch failed (take k rows) op shown n epoch value call fits in
      let rises = held_rises (take k rows) op shown n epoch value call fits in
      holders_more (take k rows) (Answered op (answers.Held shown n value epoch)) view (cond (shown == view) (Some n) None) (cond (shown == view) (Some epoch) None) refl refl
      (λ m e. (let q = if_some (shown == view) n m e in let up = subst (λ (w : ℕ). number_of (view_at (take k rows) w) ≤ n) (eqb-true shown view q.0) rises in let same = q.1 in omega (arith, up, same)))
      (λ e q. (let p = if_some (shown == view) epoch e q in (n, ap (λ (b : Bool). cond b (Some n) None) p.0, value, entered_entry decode get_epoch rows (are_moves decode get_epoch set_epoch failed rows good) k op n value g.entered, g.has ∙ p.1))) h
  answer_holders rows good k op view call (answers.Plain answer) fits h = holders_more (take k rows) (Answered op (answers.Plain answer)) view None None refl refl (λ m e. cc) (λ e q. cc) h

  row_holders : (rows : List (Row T)) → IsOneHistory decode get_epoch set_epoch failed rows → (k view : ℕ) (row : Row T) → Fits decode get_epoch set_epoch failed (take k rows) row → HoldersAt view (take k rows) → HoldersAt view (take k rows ++ row ∷ [])
  row_holders rows good k view (Effect op request) fits h = holders_more (take k rows) (Effect op request) view None None refl refl (λ m e. cc) (λ e q. cc) h
  row_holders rows good k view (Begun op call) fits h = holders_more (take k rows) (Begun op call) view None None refl refl (λ m e. cc) (λ e q. cc) h
  row_holders rows good k view (Answered op answer) fits h = answer_holders rows good k op view fits.call answer fits.fits h

  holders_at : (rows : List (Row T)) → IsOneHistory decode get_epoch set_epoch failed rows → (view k : ℕ) → HoldersAt view (take k rows)
  holders_at rows good view k = later_at (HoldersAt view) rows (λ n row e h. row_holders rows good n view row (good n row e) h) 0 k (omega arith) (λ epoch e. cc)

  -- an entry at or above a holder's view has an epoch of at least the holder's
  pub rises_from : (rows : List (Row T)) → IsOneHistory decode get_epoch set_epoch failed rows → (k view epoch n : ℕ) (value : T) → epoch_held (take k rows) view ≡ Some epoch → number_of (view_at (take k rows) view) ≤ n → IsEntry decode (take k rows) n value → epoch ≤ get_epoch value
  rises_from rows good k view epoch n value e le there =
      let h = holders_at rows good view k epoch e in
      let up = (fronts_of decode get_epoch rows (are_moves decode get_epoch set_epoch failed rows good) k).rising h.id n h.value value (let b = h.below in omega (arith, b, le)) h.entry there in
      let has = h.has in
      omega (arith, up, has)

  pub holders_rise : (rows : List (Row T)) → IsOneHistory decode get_epoch set_epoch failed rows → HoldersRise get_epoch rows
  holders_rise rows good k op view n epoch value e held =
      let a = good k (Answered op (answers.View view n value)) e in
      let s = said (take k rows) op view n value a.call a.fits in
      rises_from rows good k view epoch n value held s.rises (said_entry rows good k op view n value s)

  pub holders_stand : (rows : List (Row T)) (views : List (Option (View T))) → IsOneHistory decode get_epoch set_epoch failed rows → ViewsFit decode get_epoch rows views → HoldersStand get_epoch views
  holders_stand rows views good fit number epoch view there e =
      let f = fit.each number view there in
      let all : take (length rows) rows ≡ rows = take_all (length rows) rows (omega arith) in
      let held : epoch_held (take (length rows) rows) number ≡ Some epoch = ap (λ (rs : List (Row T)). epoch_held rs number) all ∙ (sym f.epoch ∙ e) in
      let at : number_of (view_at (take (length rows) rows) number) ≡ f.shown = ap (λ (rs : List (Row T)). number_of (view_at rs number)) all ∙ ap number_of f.last in
      let below : f.shown ≤ view.id = elim f.stands [ inl same ↦ omega (arith, same) | inr up ↦ up.0 ] in
      rises_from rows good (length rows) number epoch view.id view.object held (omega (arith, at, below)) (subst (λ (rs : List (Row T)). IsEntry decode rs view.id view.object) (sym all) f.object)
