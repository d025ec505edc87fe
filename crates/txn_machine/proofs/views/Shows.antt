-- What an answer owes of the view that its call uses: one lemma for each way to change it.
use Rattle.std.proofs.Common.{◌≡◌, ◌≢◌, ℕ, ◌<◌, ◌≤◌, List, [], ◌∷◌, ◌++◌, length, true, false, Option, Some, None, is_some, inl, inr, refl, sym, ◌∙◌, ap, subst, arith}
use Rattle.std.proofs.lemmas.Bool.{eq-eqb, ne_eqb}
use Rattle.std.proofs.lemmas.Option.{same_Some}
use Rattle.txn_store.specs.types.Numbers.{number_of}
use Rattle.txn_history.specs.declared.trace.RowOf.TheVariants.{Answered}
use Rattle.txn_history.specs.History.{IsEntry}
use Rattle.txn_history.specs.declared.event.ViewCall.TheVariants as view_calls
use Rattle.txn_history.specs.declared.event.Call.{Call}
use Rattle.txn_history.specs.declared.event.Call.TheVariants as any
use Rattle.txn_history.specs.declared.event.Answer.TheVariants as answers
use Rattle.txn_history.specs.Trace.{Row}
use Rattle.txn_history.specs.Calls.{view_used}
use Rattle.txn_history.specs.Views.{or_else, id_shown, epoch_shown, view_at, epoch_held, View, ViewFits}
use Rattle.txn_history.specs.OneHistory.{Shows, AnswerFits, IsOneHistory}
use Rattle.txn_history.proofs.Holders.{last_more, first_more, rises_from}
use Rattle.txn_machine.specs.views.Layer.{Used, Inner, Operation, Layer, Keeps, Puts, Makes, Closes, refused, view_put, changed}
use Rattle.txn_machine.specs.views.Parts.{refusing}
use Rattle.txn_machine.proofs.views.History.{whole_front}
use Rattle.txn_machine.proofs.views.Stands.{ViewAt, Stands, Quiet, EndStands, NextStands}
use Rattle.txn_machine.proofs.views.Frames.{entry_kept, view_more}
use Rattle.txn_machine.proofs.views.Tables.{view_of}

or_none : (a : Option ℕ) → or_else a None ≡ a
or_none None = refl
or_none (Some n) = refl

pub no_epoch : (epoch : Option ℕ) → is_some epoch ≡ false → epoch ≡ None
no_epoch None e = refl
no_epoch (Some n) e = cc

pub some_epoch : (epoch : Option ℕ) → is_some epoch ≡ true → (e : ℕ) × (epoch ≡ Some e)
some_epoch None e = cc
some_epoch (Some n) e = (n, refl)

-- an operation with its call and what it does now
abbrev pub op_as : {T : Type 0} → ℕ → Call T → Inner T → Operation T
op_as client call inner = record { client = client; call = call; inner = inner }

module _ {T : Type 0} (decode : List ℕ → Option T) (get_epoch : T → ℕ) (set_epoch : T → ℕ → T) where
  -- where a view stood is at or below it
  pub shown_below : (rows : List (Row T)) (number : ℕ) (view : View T) → (h : ViewFits decode get_epoch rows number view) → h.shown ≤ view.id
  shown_below rows number view h = elim h.stands [ inl same ↦ omega (arith, same) | inr up ↦ up.0 ]

  pub stood_below : (rows : List (Row T)) (number : ℕ) (view : View T) → ViewFits decode get_epoch rows number view → (id : ℕ) → view.id ≤ id → number_of (view_at rows number) ≤ id
  stood_below rows number view h id le = (let at : number_of (view_at rows number) ≡ h.shown = ap number_of h.last in let low = shown_below rows number view h in omega (arith, at, low, le))

  -- a holder's epoch is at most that of an entry at or above its view
  pub least_at : (failed : List ℕ) (rows : List (Row T)) → IsOneHistory decode get_epoch set_epoch failed rows → (number : ℕ) (view : View T) → ViewFits decode get_epoch rows number view → (id : ℕ) (found : T) → view.id ≤ id → IsEntry decode rows id found → (epoch : ℕ) → view.epoch ≡ Some epoch → epoch ≤ get_epoch found
  least_at failed rows good number view h id found le there epoch e =
      let all = whole_front rows in
      let held : epoch_held rows number ≡ Some epoch = sym h.epoch ∙ e in
      rises_from decode get_epoch set_epoch failed rows good (length rows) number epoch id found
      (subst (λ (front : List (Row T)). epoch_held front number ≡ Some epoch) (sym all) held)
      (subst (λ (front : List (Row T)). number_of (view_at front number) ≤ id) (sym all) (stood_below rows number view h id le))
      (subst (λ (front : List (Row T)). IsEntry decode front id found) (sym all) there)

  -- the answers of an operation of a state that stands
  module _ (s : Layer T) (st : Stands decode get_epoch set_epoch s) (op : ℕ) where
    -- refusals

    kept_at : (number k : ℕ) (used : Option (Used T)) → ViewAt decode get_epoch set_epoch s.rows s.count number used → ViewAt decode get_epoch set_epoch (s.rows ++ Answered op (refused k) ∷ []) s.count number (changed used Keeps)
    kept_at number k None h = tt
    kept_at number k (Some used) h = (h.0, view_more decode get_epoch set_epoch s.rows (Answered op (refused k)) number used.view (refl, refl) h.1)

    pub refuses : (o : Operation T) (k : ℕ) → AnswerFits decode get_epoch s.failed s.rows op o.call (refused k) → EndStands decode get_epoch set_epoch s.failed s.rows s.views s.count op o (refused k) Keeps
    refuses o k fits = record { fits = fits; known = omega arith; quiet = λ number ne. (refl, refl); own = λ number e. kept_at number k (s.views number) (st.views number); rises = λ number used e there. tt }

    closed_at : (number k : ℕ) (used : Option (Used T)) → ViewAt decode get_epoch set_epoch (s.rows ++ Answered op (refused k) ∷ []) s.count number (changed used Closes)
    closed_at number k None = tt
    closed_at number k (Some used) = tt

    pub refuses_closing : (o : Operation T) (k : ℕ) → AnswerFits decode get_epoch s.failed s.rows op o.call (refused k) → EndStands decode get_epoch set_epoch s.failed s.rows s.views s.count op o (refused k) Closes
    refuses_closing o k fits = record { fits = fits; known = omega arith; quiet = λ number ne. (refl, refl); own = λ number e. closed_at number k (s.views number); rises = λ number used e there. tt }

    pub refusing_stands : (client : ℕ) (call : Call T) (inner : Inner T) (k : ℕ) → AnswerFits decode get_epoch s.failed s.rows op call (refused k) → NextStands decode get_epoch set_epoch s.failed s.rows s.views s.count op (op_as client call inner) (refusing call k)
    refusing_stands client (any.View (view_calls.Claim w)) inner k fits = refuses_closing (op_as client (any.View (view_calls.Claim w)) inner) k fits
    refusing_stands client (any.View (view_calls.ClaimAt w at)) inner k fits = refuses_closing (op_as client (any.View (view_calls.ClaimAt w at)) inner) k fits
    refusing_stands client (any.View (view_calls.Init v)) inner k fits = refuses (op_as client (any.View (view_calls.Init v)) inner) k fits
    refusing_stands client (any.View view_calls.Load) inner k fits = refuses (op_as client (any.View view_calls.Load) inner) k fits
    refusing_stands client (any.View (view_calls.Refresh w)) inner k fits = refuses (op_as client (any.View (view_calls.Refresh w)) inner) k fits
    refusing_stands client (any.View (view_calls.Update w v)) inner k fits = refuses (op_as client (any.View (view_calls.Update w v)) inner) k fits
    refusing_stands client (any.View (view_calls.HolderRefresh w)) inner k fits = refuses (op_as client (any.View (view_calls.HolderRefresh w)) inner) k fits
    refusing_stands client (any.View (view_calls.HolderUpdate w v)) inner k fits = refuses (op_as client (any.View (view_calls.HolderUpdate w v)) inner) k fits
    refusing_stands client (any.Plain call) inner k fits = refuses (op_as client (any.Plain call) inner) k fits

    -- answers that show the view

    -- the view that an operation uses, and an entry at or above it
    pub record Showing (number id : ℕ) (value : T) : Type 0 where
      pub used : Used T
      pub there : s.views number ≡ Some used
      pub up : used.view.id ≤ id
      pub entry : IsEntry decode s.rows id value

    fits_of : (number id : ℕ) (value : T) → (w : Showing number id value) → (number ≤ s.count) × ViewFits decode get_epoch s.rows number w.used.view
    fits_of number id value w = view_of decode get_epoch set_epoch s st number w.used w.there

    pub rises : (number id : ℕ) (value : T) → Showing number id value → Shows s.rows number number id
    rises number id value w = record { same = refl; rises = stood_below s.rows number w.used.view (fits_of number id value w).1 id w.up }

    -- the view that a call uses is this one
    same_used : (number id : ℕ) (value : T) (w : Showing number id value) (used : Option ℕ) → used ≡ Some number → (i : ℕ) (other : Used T) → used ≡ Some i → s.views i ≡ Some other → w.used ≡ other
    same_used number id value w used is i other e there =
        let same : number ≡ i = same_Some number i (sym is ∙ e) in
        same_Some w.used other (sym w.there ∙ (ap s.views same ∙ there))

    up_used : (number id : ℕ) (value : T) (w : Showing number id value) (used : Option ℕ) → used ≡ Some number → (i : ℕ) (other : Used T) → used ≡ Some i → s.views i ≡ Some other → other.view.id ≤ id
    up_used number id value w used is i other e there = subst (λ (u : Used T). u.view.id ≤ id) (same_used number id value w used is i other e there) w.up

    -- an answer shows no other view
    other_shown : (number id : ℕ) (value : T) (used : Option ℕ) → used ≡ Some number → (i : ℕ) → used ≢ Some i → Quiet (Answered op (answers.View number id value)) i
    other_shown number id value used e i ne = (rw (ne_eqb number i (λ q. ne (e ∙ ap Some q))) refl, refl)

    other_held : (number id epoch : ℕ) (value : T) (used : Option ℕ) → used ≡ Some number → (i : ℕ) → used ≢ Some i → Quiet (Answered op (answers.Held number id value epoch)) i
    other_held number id epoch value used e i ne = (let apart : number ≢ i = (λ q. ne (e ∙ ap Some q)) in (rw (ne_eqb number i apart) refl, rw (ne_eqb number i apart) refl))

    put_fits : (number id : ℕ) (value : T) (w : Showing number id value) → ViewFits decode get_epoch (s.rows ++ Answered op (answers.View number id value) ∷ []) number (view_put w.used.view id value w.used.view.epoch).view
    put_fits number id value w =
        let row : Row T = Answered op (answers.View number id value) in
        let h = (fits_of number id value w).1 in
        record {
          object = entry_kept decode get_epoch set_epoch s.rows row id value w.entry;
          shown = id;
          last = last_more (id_shown number) None s.rows row ∙ rw (eq-eqb number number refl) refl;
          stands = inl refl;
          epoch = h.epoch ∙ sym (first_more (epoch_shown number) s.rows row ∙ or_none (epoch_held s.rows number));
        }

    pub shows : (o : Operation T) (number id : ℕ) (value : T) → Showing number id value → view_used o.call ≡ Some number → AnswerFits decode get_epoch s.failed s.rows op o.call (answers.View number id value) → EndStands decode get_epoch set_epoch s.failed s.rows s.views s.count op o (answers.View number id value) (Puts id value)
    shows o number id value w used fits =
        let row : Row T = Answered op (answers.View number id value) in
        let f = fits_of number id value w in
        record {
          fits = fits;
          known = f.0;
          quiet = λ i ne. other_shown number id value (view_used o.call) used i ne;
          rises = λ i other e there. up_used number id value w (view_used o.call) used i other e there;
          own = λ i e. (
              let same : number ≡ i = same_Some number i (sym used ∙ e) in
              subst (λ (n : ℕ). ViewAt decode get_epoch set_epoch (s.rows ++ row ∷ []) s.count n (changed (s.views n) (Puts id value))) same (rw w.there (f.0, put_fits number id value w))
              );
        }

    -- a claim that is held
    made_fits : (number id epoch : ℕ) (value : T) (w : Showing number id value) → w.used.view.epoch ≡ None → ViewFits decode get_epoch (s.rows ++ Answered op (answers.Held number id value epoch) ∷ []) number (view_put w.used.view id value (Some epoch)).view
    made_fits number id epoch value w none =
        let row : Row T = Answered op (answers.Held number id value epoch) in
        let h = (fits_of number id value w).1 in
        let unheld : epoch_held s.rows number ≡ None = sym h.epoch ∙ none in
        let held : epoch_held (s.rows ++ row ∷ []) number ≡ Some epoch = first_more (epoch_shown number) s.rows row ∙ rw (unheld, eq-eqb number number refl) refl in
        record {
          object = entry_kept decode get_epoch set_epoch s.rows row id value w.entry;
          shown = id;
          last = last_more (id_shown number) None s.rows row ∙ rw (eq-eqb number number refl) refl;
          stands = inl refl;
          epoch = sym held;
        }

    pub holds : (o : Operation T) (number id epoch : ℕ) (value : T) (w : Showing number id value) → w.used.view.epoch ≡ None → view_used o.call ≡ Some number → AnswerFits decode get_epoch s.failed s.rows op o.call (answers.Held number id value epoch) →
        EndStands decode get_epoch set_epoch s.failed s.rows s.views s.count op o (answers.Held number id value epoch) (Makes id value epoch)
    holds o number id epoch value w none used fits =
        let row : Row T = Answered op (answers.Held number id value epoch) in
        let f = fits_of number id value w in
        record {
          fits = fits;
          known = omega arith;
          quiet = λ i ne. other_held number id epoch value (view_used o.call) used i ne;
          rises = λ i other e there. (up_used number id value w (view_used o.call) used i other e there, subst (λ (u : Used T). u.view.epoch ≡ None) (same_used number id value w (view_used o.call) used i other e there) none);
          own = λ i e. (
              let same : number ≡ i = same_Some number i (sym used ∙ e) in
              subst (λ (n : ℕ). ViewAt decode get_epoch set_epoch (s.rows ++ row ∷ []) s.count n (changed (s.views n) (Makes id value epoch))) same (rw w.there (f.0, made_fits number id epoch value w none))
              );
        }

    -- a holder's refresh that is fenced leaves the newer entry in its view
    fenced_fits : (number id k : ℕ) (value : T) (w : Showing number id value) (epoch : ℕ) → w.used.view.epoch ≡ Some epoch → epoch < get_epoch value → ViewFits decode get_epoch (s.rows ++ Answered op (refused k) ∷ []) number (view_put w.used.view id value w.used.view.epoch).view
    fenced_fits number id k value w epoch holder lt =
        let row : Row T = Answered op (refused k) in
        let h = (fits_of number id value w).1 in
        let low = shown_below s.rows number w.used.view h in
        let up = w.up in
        record {
          object = entry_kept decode get_epoch set_epoch s.rows row id value w.entry;
          shown = h.shown;
          last = last_more (id_shown number) None s.rows row ∙ h.last;
          stands = inr (omega (arith, low, up), record { epoch = epoch; holder = holder; greater = lt });
          epoch = h.epoch ∙ sym (first_more (epoch_shown number) s.rows row ∙ or_none (epoch_held s.rows number));
        }

    pub fences : (o : Operation T) (number id k : ℕ) (value : T) (w : Showing number id value) (epoch : ℕ) → w.used.view.epoch ≡ Some epoch → epoch < get_epoch value → view_used o.call ≡ Some number → AnswerFits decode get_epoch s.failed s.rows op o.call (refused k) →
        EndStands decode get_epoch set_epoch s.failed s.rows s.views s.count op o (refused k) (Puts id value)
    fences o number id k value w epoch holder lt used fits =
        let row : Row T = Answered op (refused k) in
        let f = fits_of number id value w in
        record {
          fits = fits;
          known = omega arith;
          quiet = λ i ne. (refl, refl);
          rises = λ i other e there. up_used number id value w (view_used o.call) used i other e there;
          own = λ i e. (
              let same : number ≡ i = same_Some number i (sym used ∙ e) in
              subst (λ (n : ℕ). ViewAt decode get_epoch set_epoch (s.rows ++ row ∷ []) s.count n (changed (s.views n) (Puts id value))) same (rw w.there (f.0, fenced_fits number id k value w epoch holder lt))
              );
        }
