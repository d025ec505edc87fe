-- A read that nothing disturbs begins at most two passes.
use Rattle.std.proofs.Common.{◌≡◌, ℕ, ◌≤◌, List, [], ◌∷◌, Bool, true, false, cond, Option, inl, inr, refl, sym, ◌∙◌, ap, subst, arith}
use Rattle.txn_steps.specs.declared.boundary.caches.Caches.{Caches}
use Rattle.txn_steps.specs.declared.boundary.turned.Turned.{Turned}
use Rattle.txn_steps.specs.declared.boundary.turned.Turned.TheVariants.{Goes}
use Rattle.txn_steps.specs.declared.read.ReadOp.{ReadOp}
use Rattle.txn_steps.specs.Latest.{ReadAnswer}
use Rattle.txn_steps.specs.Reads.{read_started, read_caches_after}
use Rattle.txn_history.specs.Trace.{PlainRow}
use Rattle.txn_history.specs.Names.{world_boundary}
use Rattle.txn_machine.specs.declared.plain.doing.PlainDoing.TheVariants.{Ended}
use Rattle.txn_machine.specs.plain.Machine.{State, next_op, IsReached}
use Rattle.txn_machine.specs.plain.Alone.{doing_in, begins_pass, passes, MovesAlone, ReadsAlone}
use Rattle.txn_machine.proofs.plain.Stands.{WindowFits}
use Rattle.txn_machine.proofs.plain.Resting.{First, Second, FirstOn, SecondOn, GoesOn, first_step, second_step}
use Rattle.txn_machine.proofs.plain.Moving.{Reading, GoesTo, Standing, does, reached_standing, takes_standing, moves_standing, read_stands, caches_stand, is_window, moves, ended_still, begins}

pub at_most_one : (b : Bool) → cond b 1 0 ≤ 1
at_most_one true = omega arith
at_most_one false = omega arith

pub counts_none : (b : Bool) → b ≡ false → ◌≡◌ {A = ℕ} (cond b 1 0) 0
counts_none true e = cc
counts_none false e = refl

module _ {T : Type 0} (encode : T → List ℕ) (decode : List ℕ → Option T) (get_epoch : T → ℕ) (op : ℕ) where
  abbrev Alone : State T → List (State T) → Type 0
  Alone s states = MovesAlone encode decode get_epoch op s states

  -- an operation that has ended begins no pass
  ended_none : (s : State T) (states : List (State T)) → doing_in s op ≡ Ended → Alone s states → passes op (s ∷ states) ≡ 0
  ended_none s [] e a = let none = counts_none (begins_pass (doing_in s op)) (ap begins_pass e) in omega (arith, none)
  ended_none s (next ∷ states) e a = absurd (ended_still encode decode get_epoch op s next e a.0)

  module _ (old new : State T) (read : ReadOp T) (caches : Caches) (h : Standing encode decode get_epoch old) (r : Reading old op read caches) (h' : Standing encode decode get_epoch new) (g : GoesTo decode old new op read caches) where
    -- what a move makes of the first pass, and of the second
    abbrev pub after : Caches
    after = read_caches_after read caches Goes

    pub first_on : First old.trace read caches.latest → FirstOn new.trace (g.next, Goes) after.latest
    first_on f =
        let fits : WindowFits decode old.trace after.latest = subst (λ (rows : List (PlainRow T)). WindowFits decode rows after.latest) g.trace (caches_stand encode decode get_epoch op g.next after new h' g.at).latest in
        let step = first_step decode get_epoch old.failed old.trace old.store new.store h.stands.know op old.page read caches g.reply (read_stands encode decode get_epoch op read caches old h r) g.given (is_window encode decode get_epoch op read caches old h r) (caches_stand encode decode get_epoch op read caches old h r) fits f in
        subst (λ (rows : List (PlainRow T)). FirstOn rows (g.next, Goes) after.latest) (sym g.trace) (subst (λ (told : ReadOp T × Turned (ReadAnswer T)). FirstOn old.trace told after.latest) g.turn step)

    pub second_on : Second old.trace read caches.latest → SecondOn new.trace (g.next, Goes) after.latest
    second_on s =
        let step = second_step decode get_epoch old.failed old.trace old.store new.store h.stands.know op old.page read caches g.reply (read_stands encode decode get_epoch op read caches old h r) g.given (caches_stand encode decode get_epoch op read caches old h r) s in
        subst (λ (rows : List (PlainRow T)). SecondOn rows (g.next, Goes) after.latest) (sym g.trace) (subst (λ (told : ReadOp T × Turned (ReadAnswer T)). SecondOn old.trace told after.latest) g.turn step)

    pub no_pass : GoesOn g.next → begins_pass (doing_in new op) ≡ false
    no_pass on = ap begins_pass (does new op g.next after g.at) ∙ on

  second_passes : (states : List (State T)) (s : State T) (read : ReadOp T) (caches : Caches) → Standing encode decode get_epoch s → Reading s op read caches → Second s.trace read caches.latest → Alone s states → passes op states ≡ 0
  second_passes [] s read caches h r f a = refl
  second_passes (next ∷ states) s read caches h r f a =
      let h' = moves_standing encode decode get_epoch op s next a.0 h in
      elim (moves encode decode get_epoch op read caches s next a.0 h r) [
        | inl ended ↦ ended_none next states ended a.1
        | inr g ↦
            let on = second_on s next read caches h r h' g f in
            let none = counts_none (begins_pass (doing_in next op)) (no_pass s next read caches h r h' g on.1) in
            let rest = second_passes states next g.next (read_caches_after read caches Goes) h' g.at on.0 a.1 in
            omega (arith, none, rest)
      ]

  first_passes : (states : List (State T)) (s : State T) (read : ReadOp T) (caches : Caches) → Standing encode decode get_epoch s → Reading s op read caches → First s.trace read caches.latest → Alone s states → passes op states ≤ 1
  first_passes [] s read caches h r f a = omega arith
  first_passes (next ∷ states) s read caches h r f a =
      let h' = moves_standing encode decode get_epoch op s next a.0 h in
      elim (moves encode decode get_epoch op read caches s next a.0 h r) [
        | inl ended ↦ (let none = ended_none next states ended a.1 in omega (arith, none))
        | inr g ↦ elim (first_on s next read caches h r h' g f) [
          | inl on ↦
              let none = counts_none (begins_pass (doing_in next op)) (no_pass s next read caches h r h' g on.1) in
              let rest = first_passes states next g.next (read_caches_after read caches Goes) h' g.at on.0 a.1 in
              omega (arith, none, rest)
          | inr on ↦
              let one = at_most_one (begins_pass (doing_in next op)) in
              let rest = second_passes states next g.next (read_caches_after read caches Goes) h' g.at on a.1 in
              omega (arith, one, rest)
        ]
      ]

module _ {T : Type 0} (encode : T → List ℕ) (decode : List ℕ → Option T) (get_epoch : T → ℕ) where
  -- from a state that stands
  pub two_passes_from : (s : State T) (client : ℕ) (states : List (State T)) → Standing encode decode get_epoch s → ReadsAlone encode decode get_epoch s client states → passes (next_op s) states ≤ 2
  two_passes_from s client [] h a = omega arith
  two_passes_from s client (first ∷ states) h a =
      let began = begins encode decode get_epoch s client a.0.0 first a.0.1 h in
      let h' = takes_standing encode decode get_epoch s _ a.0.0 first a.0.1 h in
      let one = at_most_one (begins_pass (doing_in first (next_op s))) in
      let rest = first_passes encode decode get_epoch (next_op s) states first (read_started world_boundary) began.0 h' began.1 (inl tt) a.1 in
      omega (arith, one, rest)

  pub two_passes : (s : State T) (client : ℕ) (states : List (State T)) → IsReached encode decode get_epoch s → ReadsAlone encode decode get_epoch s client states → passes (next_op s) states ≤ 2
  two_passes s client states reached a = two_passes_from s client states (reached_standing encode decode get_epoch s reached) a
