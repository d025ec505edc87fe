-- A read that nothing disturbs takes at most two turns for each page that a listing has.
use Rattle.std.proofs.Common.{◌≡◌, ℕ, ◌+◌, ◌*◌, ◌≤◌, List, [], ◌∷◌, true, false, cond, Option, ◌⊎◌, inl, inr, sym, ◌∙◌, ap, subst, arith}
use Rattle.txn_store.specs.Store.{Files}
use Rattle.txn_store.specs.declared.request.Reply.{Reply}
use Rattle.txn_steps.specs.declared.boundary.caches.Cached.{Cached}
use Rattle.txn_steps.specs.declared.boundary.caches.Caches.{Caches}
use Rattle.txn_steps.specs.declared.boundary.check.CheckOp.TheVariants as checks
use Rattle.txn_steps.specs.declared.boundary.turned.Turned.{Turned}
use Rattle.txn_steps.specs.declared.boundary.turned.Turned.TheVariants.{Goes}
use Rattle.txn_steps.specs.declared.latest.LatestOp.{LatestOp}
use Rattle.txn_steps.specs.declared.latest.LatestOp.TheVariants as latest
use Rattle.txn_steps.specs.declared.read.ReadOp.{ReadOp}
use Rattle.txn_steps.specs.declared.read.ReadOp.TheVariants as reads
use Rattle.txn_steps.specs.Latest.{ReadAnswer}
use Rattle.txn_steps.specs.Reads.{read_started, read_turned, read_caches_after}
use Rattle.txn_history.specs.Trace.{PlainRow}
use Rattle.txn_history.specs.Names.{world_names, world_boundary}
use Rattle.txn_machine.specs.declared.plain.doing.PlainDoing.{PlainDoing}
use Rattle.txn_machine.specs.declared.plain.doing.PlainDoing.TheVariants.{Read, Ended}
use Rattle.txn_machine.specs.plain.Machine.{State, next_op, IsReached}
use Rattle.txn_machine.specs.plain.Alone.{HasPages, doing_in, begins_pass, is_turn, turns, MovesAlone, ReadsAlone}
use Rattle.txn_machine.proofs.plain.Resting.{Probing, Seeking, First, Second, FirstOn, GoesOn}
use Rattle.txn_machine.proofs.plain.Moving.{Reading, GoesTo, Standing, does, reached_standing, takes_standing, moves_standing, read_stands, moves, ended_still, begins}
use Rattle.txn_machine.proofs.plain.Passes.{at_most_one, counts_none, first_on, second_on}
use Rattle.txn_machine.proofs.plain.RestTurns.{turn_count, LatestLeft, Left, TurnsOn, AtNewest, ReadNewest, IsRefusal, turns_step}

module _ {T : Type 0} where
  -- in both passes what it gets is the newest

  seeking_newest : (rows : List (PlainRow T)) (op : LatestOp T) → Seeking rows op → AtNewest rows op
  seeking_newest rows (latest.Gets id request) h = h
  seeking_newest rows _ h = tt

  probing_newest : (rows : List (PlainRow T)) (op : LatestOp T) (versions : List Cached) → Probing op versions → AtNewest rows op
  probing_newest rows (latest.Gets id request) versions h = absurd h
  probing_newest rows _ versions h = tt

  first_newest : (rows : List (PlainRow T)) (read : ReadOp T) (versions : List Cached) → First rows read versions → ReadNewest rows read
  first_newest rows (reads.Reads op ahead) versions h = elim h [ inl p ↦ probing_newest rows op versions p | inr s ↦ seeking_newest rows op s ]
  first_newest rows (reads.Checks id value check) versions h = tt
  first_newest rows reads.Ended versions h = tt

  second_newest : (rows : List (PlainRow T)) (read : ReadOp T) (versions : List Cached) → Second rows read versions → ReadNewest rows read
  second_newest rows (reads.Reads latest.Looks ahead) versions h = tt
  second_newest rows (reads.Reads op ahead) versions (inr s) = seeking_newest rows op s
  second_newest rows (reads.Reads op ahead) versions (inl none) = absurd none
  second_newest rows (reads.Checks id value check) versions h = tt
  second_newest rows reads.Ended versions h = tt

  -- what is left for two passes is enough for one
  latest_less : (files : Files) (page more extra left : ℕ) (op : LatestOp T) → LatestLeft files page more extra op left → LatestLeft files page more 0 op left
  latest_less files page more extra left latest.Looks h = omega (arith, h)
  latest_less files page more extra left (latest.Probes hand found next request) h = omega (arith, h)
  latest_less files page more extra left (latest.Finds successor found) h = omega (arith, h)
  latest_less files page more extra left (latest.Lists found request) l = let enough = l.enough in record { after = l.after; asks = l.asks; follow = l.follow; pages = l.pages; enough = omega (arith, enough) }
  latest_less files page more extra left (latest.Chooses greatest) h = omega arith
  latest_less files page more extra left (latest.Gets id request) h = omega arith
  latest_less files page more extra left (latest.Keeps version value) h = omega arith
  latest_less files page more extra left (latest.Drops id) h = tt
  latest_less files page more extra left latest.Ended h = tt

  less : (files : Files) (page more extra left : ℕ) (read : ReadOp T) → Left files page more extra read left → Left files page more 0 read left
  less files page more extra left (reads.Reads op ahead) h = latest_less files page more extra left op h
  less files page more extra left (reads.Checks id value check) h = omega arith
  less files page more extra left reads.Ended h = tt

  -- a refusal, and what it leads to
  refusal_left : (files : Files) (page more extra left : ℕ) (read : ReadOp T) → IsRefusal read → Left files page more extra read left → extra ≤ left
  refusal_left files page more extra left (reads.Checks id value (checks.Drops i)) refused h = h
  refusal_left files page more extra left (reads.Checks id value (checks.Checks check)) refused h = absurd refused
  refusal_left files page more extra left (reads.Reads op ahead) refused h = absurd refused
  refusal_left files page more extra left reads.Ended refused h = absurd refused

  refusal_starts : (decode : List ℕ → Option T) (page : ℕ) (read next : ReadOp T) (caches : Caches) (reply : Option Reply) → IsRefusal read → read_turned world_names world_boundary page decode read caches reply ≡ (next, Goes) → next ≡ read_started world_boundary
  refusal_starts decode page (reads.Checks id value (checks.Drops i)) next caches reply refused e = sym (ap (λ (told : ReadOp T × Turned (ReadAnswer T)). told.0) e)
  refusal_starts decode page (reads.Checks id value (checks.Checks check)) next caches reply refused e = absurd refused
  refusal_starts decode page (reads.Reads op ahead) next caches reply refused e = absurd refused
  refusal_starts decode page reads.Ended next caches reply refused e = absurd refused

  starts_pass : (next : ReadOp T) → next ≡ read_started world_boundary → GoesOn next → ⊥
  starts_pass next is on = let begins' : begins_pass (Read next) ≡ true = ap (λ (read : ReadOp T). begins_pass (Read read)) is in let clash : true ≡ false = sym begins' ∙ on in cc

module _ {T : Type 0} (encode : T → List ℕ) (decode : List ℕ → Option T) (get_epoch : T → ℕ) (op more : ℕ) where
  abbrev Alone : State T → List (State T) → Type 0
  Alone s states = MovesAlone encode decode get_epoch op s states

  abbrev Pages : State T → Type 0
  Pages s = HasPages s.store.files s.page more

  abbrev Enough : ℕ → State T → ReadOp T → ℕ → Type 0
  Enough extra s read left = Left s.store.files s.page more extra read left

  -- an operation that has ended takes no turn
  ended_none : (s next : State T) (states : List (State T)) → doing_in next op ≡ Ended → Alone next states → turns op s (next ∷ states) ≡ 0
  ended_none s next [] e a = let none = counts_none (is_turn (doing_in s op) (doing_in next op)) (ap (is_turn (doing_in s op)) e) in omega (arith, none)
  ended_none s next (after ∷ states) e a = absurd (ended_still encode decode get_epoch op next after e a.0)

  module _ (old new : State T) (read : ReadOp T) (caches : Caches) (h : Standing encode decode get_epoch old) (r : Reading old op read caches) (g : GoesTo decode old new op read caches) where
    -- the turn of a move
    turn_is : ◌≡◌ {A = ℕ} (cond (is_turn (doing_in old op) (doing_in new op)) 1 0) (turn_count read g.next)
    turn_is =
        let before = does old op read caches r in
        let after = does new op g.next (read_caches_after read caches Goes) g.at in
        ap (λ (d : PlainDoing T). cond {A = ℕ} (is_turn d (doing_in new op)) 1 0) before ∙ ap (λ (d : PlainDoing T). cond {A = ℕ} (is_turn (Read read) d) 1 0) after

    pages_stay : Pages old → Pages new
    pages_stay p = subst (λ (page : ℕ). HasPages new.store.files page more) (sym g.page) (subst (λ (files : Files). HasPages files old.page more) (sym g.files) p)

    enough_stays : (extra left : ℕ) (next : ReadOp T) → Left old.store.files old.page more extra next left → Enough extra new next left
    enough_stays extra left next l = subst (λ (page : ℕ). Left new.store.files page more extra next left) (sym g.page) (subst (λ (files : Files). Left files old.page more extra next left) (sym g.files) l)

    -- it goes on and takes its turn, or is refused
    turn_on : (extra left : ℕ) → ReadNewest old.trace read → Pages old → Enough extra old read left → IsRefusal read ⊎ TurnsOn old.store.files old.page more extra read left (g.next, Goes)
    turn_on extra left n p l =
        elim (turns_step decode get_epoch old.failed old.trace old.store new.store h.stands.know op old.page more extra p read caches g.reply left (read_stands encode decode get_epoch op read caches old h r) g.given n l) [
          | inl refused ↦ inl refused
          | inr on ↦ inr (subst (λ (told : ReadOp T × Turned (ReadAnswer T)). TurnsOn old.store.files old.page more extra read left told) g.turn on)
        ]

    refused_starts : IsRefusal read → g.next ≡ read_started world_boundary
    refused_starts refused = refusal_starts decode old.page read g.next caches g.reply refused g.turn

  second_turns : (states : List (State T)) (s : State T) (read : ReadOp T) (caches : Caches) (left : ℕ) → Standing encode decode get_epoch s → Reading s op read caches → Second s.trace read caches.latest → Pages s → Enough 0 s read left → Alone s states → turns op s states ≤ left
  second_turns [] s read caches left h r f p l a = omega arith
  second_turns (next ∷ states) s read caches left h r f p l a =
      let h' = moves_standing encode decode get_epoch op s next a.0 h in
      elim (moves encode decode get_epoch op read caches s next a.0 h r) [
        | inl ended ↦ (let none = ended_none s next states ended a.1 in omega (arith, none))
        | inr g ↦
            let on = second_on encode decode get_epoch op s next read caches h r h' g f in
            elim (turn_on s next read caches h r g 0 left (second_newest s.trace read caches.latest f) p l) [
              | inl refused ↦ absurd (starts_pass g.next (refused_starts s next read caches h r g refused) on.1)
              | inr turn ↦
                  let is = turn_is s next read caches h r g in
                  let rest = second_turns states next g.next (read_caches_after read caches Goes) turn.0 h' g.at on.0 (pages_stay s next read caches h r g p) (enough_stays s next read caches h r g 0 turn.0 g.next turn.2) a.1 in
                  omega (arith, is, turn.1, rest)
            ]
      ]

  -- a refusal leads to the second pass
  refused_turns : (next : State T) (states : List (State T)) (read : ReadOp T) (caches : Caches) (left count : ℕ) → Standing encode decode get_epoch next → Reading next op read caches → Pages next → read ≡ read_started world_boundary → FirstOn next.trace (read, Goes) caches.latest → Alone next states →
      more + 1 ≤ left → count ≤ 1 → count + turns op next states ≤ left
  refused_turns next states read caches left count h r p starts on a enough one =
      elim on [
        | inl first ↦ absurd (starts_pass read starts first.1)
        | inr second ↦
            let l : Enough 0 next read more = subst (λ (x : ReadOp T). Enough 0 next x more) (sym starts) (omega arith) in
            let rest = second_turns states next read caches more h r second p l a in
            omega (arith, enough, one, rest)
      ]

  first_turns : (states : List (State T)) (s : State T) (read : ReadOp T) (caches : Caches) (left : ℕ) → Standing encode decode get_epoch s → Reading s op read caches → First s.trace read caches.latest → Pages s → Enough (more + 1) s read left → Alone s states → turns op s states ≤ left
  first_turns [] s read caches left h r f p l a = omega arith
  first_turns (next ∷ states) s read caches left h r f p l a =
      let h' = moves_standing encode decode get_epoch op s next a.0 h in
      elim (moves encode decode get_epoch op read caches s next a.0 h r) [
        | inl ended ↦ (let none = ended_none s next states ended a.1 in omega (arith, none))
        | inr g ↦
            let p' = pages_stay s next read caches h r g p in
            let on = first_on encode decode get_epoch op s next read caches h r h' g f in
            elim (turn_on s next read caches h r g (more + 1) left (first_newest s.trace read caches.latest f) p l) [
              | inl refused ↦ refused_turns next states g.next (read_caches_after read caches Goes) left (cond (is_turn (doing_in s op) (doing_in next op)) 1 0) h' g.at p' (refused_starts s next read caches h r g refused) on a.1
                  (refusal_left s.store.files s.page more (more + 1) left read refused l) (at_most_one (is_turn (doing_in s op) (doing_in next op)))
              | inr turn ↦
                  let is = turn_is s next read caches h r g in
                  let l' = enough_stays s next read caches h r g (more + 1) turn.0 g.next turn.2 in
                  elim on [
                    | inl first ↦ (let rest = first_turns states next g.next (read_caches_after read caches Goes) turn.0 h' g.at first.0 p' l' a.1 in omega (arith, is, turn.1, rest))
                    | inr second ↦ (let rest = second_turns states next g.next (read_caches_after read caches Goes) turn.0 h' g.at second p' (less next.store.files next.page more (more + 1) turn.0 g.next l') a.1 in omega (arith, is, turn.1, rest))
                  ]
            ]
      ]

module _ {T : Type 0} (encode : T → List ℕ) (decode : List ℕ → Option T) (get_epoch : T → ℕ) where
  -- from a state that stands
  pub turns_from : (s : State T) (client more : ℕ) (states : List (State T)) → Standing encode decode get_epoch s → ReadsAlone encode decode get_epoch s client states → HasPages s.store.files s.page more → turns (next_op s) s states ≤ 2 * (more + 1)
  turns_from s client more [] h a p = omega arith
  turns_from s client more (first ∷ states) h a p =
      let began = begins encode decode get_epoch s client a.0.0 first a.0.1 h in
      let h' = takes_standing encode decode get_epoch s _ a.0.0 first a.0.1 h in
      let state = a.0.1.step.state in
      let p' : HasPages first.store.files first.page more = subst (λ (x : State T). HasPages x.store.files x.page more) (sym state) p in
      let one = at_most_one (is_turn (doing_in s (next_op s)) (doing_in first (next_op s))) in
      let rest = first_turns encode decode get_epoch (next_op s) more states first (read_started world_boundary) began.0 (more + (more + 1)) h' began.1 (inl tt) p' (omega arith) a.1 in
      omega (arith, one, rest)

  pub turns_at_rest : (s : State T) (client more : ℕ) (states : List (State T)) → IsReached encode decode get_epoch s → ReadsAlone encode decode get_epoch s client states → HasPages s.store.files s.page more → turns (next_op s) s states ≤ 2 * (more + 1)
  turns_at_rest s client more states reached a p = turns_from s client more states (reached_standing encode decode get_epoch s reached) a p
