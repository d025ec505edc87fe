-- What ties the rows of the machine to those of the layer, after one more row, and after one more owner.
use Rattle.std.proofs.Common.{◌≡◌, ◌≢◌, ℕ, ◌≤◌, List, [], ◌∷◌, ◌++◌, slice_get, Bool, true, false, nat_eq, Option, Some, None, inl, inr, refl, sym, ◌∙◌, ap, subst, arith}
use Rattle.std.specs.List.{list_any}
use Rattle.std.proofs.lemmas.Bool.{both_ways, eq-eqb, eqb-true}
use Rattle.txn_store.specs.declared.request.Request.{Request}
use Rattle.txn_history.specs.declared.trace.RowOf.TheVariants.{Effect, Begun, Answered}
use Rattle.txn_history.specs.History.{boundary}
use Rattle.txn_machine.specs.plain.PlainHistory.{tells as plain_tells}
use Rattle.txn_history.specs.Calls.{begins, was_begun, tells}
use Rattle.txn_history.proofs.Lists.{any_true, any_last, any_more}
use Rattle.txn_history.proofs.More.{call_kept, entered_back}
use Rattle.txn_history.proofs.Rows.{stored-more, boundary-same}
use Rattle.txn_history.specs.declared.event.Call.{Call}
use Rattle.txn_history.specs.Trace.{Row, PlainRow}
use Rattle.txn_machine.specs.views.Layer.{Used, Inner, Starts, Writes, Reads, Acts, Asked, noted}
use Rattle.txn_machine.specs.views.Steps.{IsAsked}
use Rattle.txn_machine.proofs.views.Tied.{is_effect, Tied, tied_fine, tied_rows, tied_effect}
use Rattle.txn_machine.proofs.Renamed.{renamed, renamed_other, Unused, tied_named}
use Rattle.txn_machine.proofs.Joined.{Noted, IsTold, ViewTold, Does, PastAt, Core}

module _ {T : Type 0} where
  -- more fine rows tell no less

  pub told_more : (fine : List (PlainRow T)) (row : PlainRow T) (id : ℕ) → IsTold fine id → IsTold (fine ++ row ∷ []) id
  told_more fine row id h test e = any_true (plain_tells test) fine row (h test e)

  pub view_told_more : (fine : List (PlainRow T)) (row : PlainRow T) (used : Option (Used T)) → ViewTold fine used → ViewTold (fine ++ row ∷ []) used
  view_told_more fine row None h = tt
  view_told_more fine row (Some used) h = told_more fine row used.view.id h

  module _ (fine : List (PlainRow T)) (fine_failed : List ℕ) (rows : List (Row T)) (views : ℕ → Option (Used T)) (failed : List ℕ) (owner : ℕ → ℕ) (h : Core fine fine_failed rows views failed owner) where
    -- a fine row of a begin or of an answer
    pub core_fine : (row : PlainRow T) → is_effect row ≡ false → ((n : ℕ) → begins n row ≡ true → was_begun rows (owner n) ≡ true) → Core (fine ++ row ∷ []) fine_failed rows views failed owner
    core_fine row none begun =
        record {
          tied = tied_fine owner fine rows row none begun h.tied;
          told = λ test e. any_true (plain_tells test) fine row (h.told test e);
          seen = λ number. view_told_more fine row (views number) (h.seen number);
          noted = λ n e. (let was = h.noted n e in (any_true (begins n) fine row was.0, was.1));
        }

    -- a row of the layer, of a begin or of an answer, which tells what was told
    pub core_row : (row : Row T) → is_effect row ≡ false → ((test : ℕ → Bool) → tells test row ≡ true → list_any (plain_tells test) fine ≡ true) → Core fine fine_failed (rows ++ row ∷ []) views failed owner
    core_row row none told =
        record {
          tied = tied_rows owner fine rows row none h.tied;
          told = λ test e. elim (any_more (tells test) rows row e) [ inl old ↦ h.told test old | inr new ↦ told test new ];
          seen = h.seen;
          noted = h.noted;
        }

    -- the same effect of both
    pub core_effect : (n op : ℕ) (request : Request) → owner n ≡ op → was_begun fine n ≡ true → Core (fine ++ Effect n request ∷ []) fine_failed (rows ++ Effect op request ∷ []) views failed owner
    core_effect n op request own begun =
        let row : PlainRow T = Effect n request in
        let laid : Row T = Effect op request in
        record {
          tied = subst (λ (o : ℕ). Tied owner (fine ++ row ∷ []) (rows ++ Effect o request ∷ [])) own (tied_effect owner fine rows n request begun h.tied);
          told = λ test e. elim (any_more (tells test) rows laid e) [ inl old ↦ any_true (plain_tells test) fine row (h.told test old) | inr new ↦ (let clash : false ≡ true = new in cc) ];
          seen = λ number. view_told_more fine row (views number) (h.seen number);
          noted = λ i e. (let was = h.noted i e in (any_true (begins i) fine row was.0, was.1));
        }

    -- views that stand where was told
    pub core_views : (new : ℕ → Option (Used T)) → ((number : ℕ) → ViewTold fine (new number)) → Core fine fine_failed rows new failed owner
    core_views new seen = record { tied = h.tied; told = h.told; seen = seen; noted = h.noted }

    -- a store call of a fine operation failed, and so one of its owner's
    pub core_failed : (n op : ℕ) → owner n ≡ op → was_begun fine n ≡ true → Core fine (fine_failed ++ n ∷ []) rows views (failed ++ op ∷ []) owner
    core_failed n op own begun =
        record {
          tied = h.tied;
          told = h.told;
          seen = h.seen;
          noted = λ i e. elim (any_more (nat_eq i) fine_failed n e) [
            | inl old ↦ (let was = h.noted i old in (was.0, any_true (nat_eq (owner i)) failed op was.1))
            | inr new ↦
                let same : i ≡ n = eqb-true i n new in (
                  subst (λ (j : ℕ). was_begun fine j ≡ true) (sym same) begun,
                  any_last (nat_eq (owner i)) failed op (eq-eqb (owner i) op (ap owner same ∙ own)),
                )
          ];
        }

    -- one more owner
    pub core_named : (next op : ℕ) → Unused fine next → Core fine fine_failed rows views failed (renamed owner next op)
    core_named next op u =
        record {
          tied = tied_named owner next op fine rows u h.tied;
          told = h.told;
          seen = h.seen;
          noted = λ n e. (
              let was = h.noted n e in
              let apart : n ≢ next = (λ q. both_ways (was_begun fine next) u.begun (subst (λ (m : ℕ). was_begun fine m ≡ true) q was.0)) in
              (was.0, subst (λ (m : ℕ). list_any (nat_eq m) failed ≡ true) (sym (renamed_other owner next op n apart)) was.1)
              );
        }

module _ {T : Type 0} (decode : List ℕ → Option T) where
  no_row : (row : PlainRow T) (m : ℕ) (request : Request) → is_effect row ≡ false → row ≡ Effect m request → ⊥
  no_row (Effect o other) m request h e = cc
  no_row (Begun o call) m request h e = cc
  no_row (Answered o answer) m request h e = cc

  quiet_boundary : (fine : List (PlainRow T)) (row : PlainRow T) → is_effect row ≡ false → boundary (fine ++ row ∷ []) ≡ boundary fine
  quiet_boundary fine (Effect o request) none = cc
  quiet_boundary fine (Begun o call) none = boundary-same fine (Begun o call) (stored-more fine (Begun o call))
  quiet_boundary fine (Answered o answer) none = boundary-same fine (Answered o answer) (stored-more fine (Answered o answer))

  -- what others entered stays fenced

  pub past_fine : (owner : ℕ → ℕ) (fine : List (PlainRow T)) (row : PlainRow T) (op n : ℕ) → is_effect row ≡ false → PastAt decode owner fine op n → PastAt decode owner (fine ++ row ∷ []) op n
  past_fine owner fine row op n none past m k value own ne e =
      elim (entered_back decode fine row m k value e) [
        | inl old ↦ (let le = past m k value own ne old in let same = quiet_boundary fine row none in omega (arith, le, same))
        | inr last ↦ absurd (no_row row m last.0 none last.2)
      ]

  abbrev row_is : ℕ → Request → PlainRow T
  row_is n request = Effect n request

  maker_is : (i m : ℕ) (request other : Request) → row_is i request ≡ row_is m other → i ≡ m
  maker_is i m request other e = cc

  pub past_effect : (owner : ℕ → ℕ) (fine : List (PlainRow T)) (i : ℕ) (request : Request) (op n : ℕ) → boundary fine ≤ boundary (fine ++ Effect i request ∷ []) → (owner i ≡ op → i ≡ n) → PastAt decode owner fine op n → PastAt decode owner (fine ++ Effect i request ∷ []) op n
  past_effect owner fine i request op n up one past m k value own ne e =
      elim (entered_back decode fine (Effect i request) m k value e) [
        | inl old ↦ (let le = past m k value own ne old in omega (arith, le, up))
        | inr last ↦ absurd (let same = maker_is i m request last.0 last.2 in ne (sym same ∙ one (ap owner same ∙ own)))
      ]

  pub past_named : (owner : ℕ → ℕ) (fine : List (PlainRow T)) (next to op n : ℕ) → Unused fine next → PastAt decode owner fine op n → PastAt decode (renamed owner next to) fine op n
  past_named owner fine next to op n u past m k value own ne e =
      let apart : m ≢ next = (λ q. u.none e.create.place e.create.request (subst (λ (j : ℕ). slice_get fine e.create.place ≡ Some (Effect j e.create.request)) q e.create.effect)) in
      past m k value (sym (renamed_other owner next to m apart) ∙ own) ne e

module _ {T : Type 0} where
  -- what was noted stays so

  pub asked_noted : (asked : List (Asked T)) (op : ℕ) (inner : Inner T) (write : Asked T) → IsAsked write asked → IsAsked write (noted op inner asked)
  asked_noted asked op (Writes base value epoch) write h = inr h
  asked_noted asked op Reads write h = h
  asked_noted asked op Starts write h = h
  asked_noted asked op Acts write h = h

  pub noted_on : (asked : List (Asked T)) (op : ℕ) (inner : Inner T) (o : ℕ) (other : Inner T) → Noted asked o other → Noted (noted op inner asked) o other
  noted_on asked op inner o (Writes base value epoch) h = asked_noted asked op inner (record { op = o; base = base; value = value }) h
  noted_on asked op inner o Reads h = tt
  noted_on asked op inner o Starts h = tt
  noted_on asked op inner o Acts h = tt

  pub noted_now : (asked : List (Asked T)) (op : ℕ) (inner : Inner T) → Noted (noted op inner asked) op inner
  noted_now asked op (Writes base value epoch) = inl refl
  noted_now asked op Reads = tt
  noted_now asked op Starts = tt
  noted_now asked op Acts = tt

module _ {T : Type 0} (get_epoch : T → ℕ) where
  pub does_fine : (fine more : List (PlainRow T)) (rows : List (Row T)) (asked : List (Asked T)) (n op : ℕ) (call : Call T) (inner : Inner T) → Does get_epoch fine rows asked n op call inner → Does get_epoch (fine ++ more) rows asked n op call inner
  does_fine fine more rows asked n op call inner d = record { own = d.own; called = call_kept fine more n _ d.called; first = d.first; noted = d.noted }

  pub does_row : (fine : List (PlainRow T)) (rows more : List (Row T)) (asked : List (Asked T)) (n op : ℕ) (call : Call T) (inner : Inner T) → Does get_epoch fine rows asked n op call inner → Does get_epoch fine (rows ++ more) asked n op call inner
  does_row fine rows more asked n op call inner d = record { own = call_kept rows more op call d.own; called = d.called; first = d.first; noted = d.noted }

  pub does_noted : (fine : List (PlainRow T)) (rows : List (Row T)) (asked : List (Asked T)) (n op : ℕ) (call : Call T) (inner : Inner T) (k : ℕ) (other : Inner T) → Does get_epoch fine rows asked n op call inner → Does get_epoch fine rows (noted k other asked) n op call inner
  does_noted fine rows asked n op call inner k other d = record { own = d.own; called = d.called; first = d.first; noted = noted_on asked k other op inner d.noted }
