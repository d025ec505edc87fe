-- What journals left stands in the list of all that may still reach the store, at its place there.
use Rattle.std.proofs.Common.{◌≡◌, ◌≢◌, ℕ, ◌+◌, List, [], ◌∷◌, ◌++◌, length, map, slice_get, suc, ◌==◌, ◌&&◌, Bool, true, false, if◌then◌else◌, Option, Some, None, inl, inr, refl, sym, ◌∙◌, ap, subst, arith}
use Rattle.std.proofs.lemmas.Bool.{cases_Bool, cases_eq, eqb-true, eq-eqb, ne_eqb}
use Rattle.std.proofs.lemmas.List.{append_assoc, length-append}
use Rattle.std.proofs.lemmas.Option.{same_Some}
use Rattle.std.specs.Prelude.{Vec}
use Rattle.std.specs.declared.alloc.Global.{Global}
use Rattle.txn_store.specs.declared.request.Request.{Request}
use Rattle.txn_history.specs.Lists.{numbered}
use Rattle.txn_history.specs.Seen.{Store}
use Rattle.txn_history.specs.GoesOn.{as_loose, may_be_loose}
use Rattle.txn_history.proofs.Lists.{numbered_kept}
use Rattle.txn_history.specs.declared.event.Call.{Call}
use Rattle.txn_history.specs.declared.event.Answer.{Answer}
use Rattle.txn_client_journals.specs.declared.rows.Receipt.{Receipt}
use Rattle.txn_client_journals.specs.declared.rows.Act.{Act}
use Rattle.txn_client_journals.specs.declared.rows.Act.TheVariants as acts
use Rattle.txn_client_journals.specs.declared.rows.Left.{Left}
use Rattle.txn_client_journals.specs.declared.rows.Step.{Step}
use Rattle.txn_client_journals.specs.declared.rows.Step.TheVariants as steps
use Rattle.txn_client_journals.specs.declared.rows.JournalRow.{JournalRow}
use Rattle.txn_client_journals.specs.Journals.{left_by, left_now, left_among, left_in, left_of}
use Rattle.txn_client_journals.specs.Numbers.{count}
use Rattle.txn_client_journals.specs.Merged.{Did, Merged, part_of, begins_of}
use Rattle.txn_client_journals.specs.Traces.{loose_of, op_in}
use Rattle.txn_client_journals.proofs.Taken.{place_now, place_among, place_in}
use Rattle.txn_client_journals.proofs.Numbers.{number_old, IsWithin}
use Rattle.txn_machine.proofs.plain.Lists.{numbered_new}
use Rattle.txn_client_journals.proofs.Operations.{within_more}

both_true : (a b : Bool) → (a && b) ≡ true → (a ≡ true) × (b ≡ true)
both_true true b h = (refl, h)
both_true false b h = absurd (cc)

left_false : (left rest : Option Request) → left_now false left rest ≡ rest
left_false None rest = refl
left_false (Some request) rest = refl

-- one more is left, if one is

left_at : (loose : List (ℕ × Request)) (n : ℕ) (left rest : Option Request) (place target : ℕ) (is : Bool) (request : Request) → (is ≡ true → n ≡ target) → (rest ≡ Some request → numbered loose place ≡ Some (target, request)) → left_now is left rest ≡ Some request →
    numbered (loose ++ as_loose n left) (place_now is left (length loose + 1) place) ≡ Some (target, request)
left_at loose n None rest place target is request own old e = numbered_kept loose [] place (target, request) (old e)
left_at loose n (Some left) rest place target true request own old e =
    let one : n ≡ target = own refl in
    let two : left ≡ request = Rattle.std.proofs.lemmas.Option.same_Some left request e in
    numbered_new loose (n, left) ∙ (ap (λ (i : ℕ). Some (i, left)) one ∙ ap (λ (r : Request). Some (target, r)) two)
left_at loose n (Some left) rest place target false request own old e = numbered_kept loose ((n, left) ∷ []) place (target, request) (old e)

pub left_cases : (P : Type 0) (is : Bool) (left rest : Option Request) (request : Request) → (is ≡ true → P) → (rest ≡ Some request → P) → left_now is left rest ≡ Some request → P
left_cases P is None rest request own old e = old e
left_cases P true (Some left) rest request own old e = own refl
left_cases P false (Some left) rest request own old e = old e

-- what a kill leaves

pub among_cases : (P : Type 0) (op : ℕ) (lefts : List Left) (rest : Option Request) (request : Request) → ((j : ℕ) (left : Left) → slice_get lefts j ≡ Some left → left.op ≡ op → P) → (rest ≡ Some request → P) → left_among op lefts rest ≡ Some request → P
among_cases P op [] rest request own old e = old e
among_cases P op (left ∷ lefts) rest request own old e = elim (cases_eq left.op op) [
  | inl is ↦ own 0 left refl is
  | inr ne ↦ among_cases P op lefts rest request (λ j. own (suc j)) old (ap (λ (b : Bool). if b then Some left.request else left_among op lefts rest) (sym (ne_eqb left.op op ne)) ∙ e)
]

pub none_among : (op : ℕ) (lefts : List Left) (rest : Option Request) → ((j : ℕ) (left : Left) → slice_get lefts j ≡ Some left → left.op ≢ op) → left_among op lefts rest ≡ rest
none_among op [] rest none = refl
none_among op (left ∷ lefts) rest none = ap (λ (b : Bool). if b then Some left.request else left_among op lefts rest) (ne_eqb left.op op (none 0 left refl)) ∙ none_among op lefts rest (λ j. none (suc j))

place_else : (lefts : List Left) (at op rest : ℕ) → place_among at false op lefts rest ≡ rest
place_else [] at op rest = refl
place_else (left ∷ lefts) at op rest = place_else lefts (at + 1) op rest

among_at : (names : ℕ → ℕ) (op : ℕ) (lefts : List Left) (loose : List (ℕ × Request)) (rest : Option Request) (place : ℕ) (request : Request) → (rest ≡ Some request → numbered loose place ≡ Some (names op, request)) → left_among op lefts rest ≡ Some request →
    numbered (loose ++ map (λ left. (names left.op, left.request)) lefts) (place_among (length loose + 1) true op lefts place) ≡ Some (names op, request)
among_at names op [] loose rest place request old e = numbered_kept loose [] place (names op, request) (old e)
among_at names op (left ∷ lefts) loose rest place request old e =
    let one : ℕ × Request = (names left.op, left.request) in
    let more : List (ℕ × Request) = map (λ left. (names left.op, left.request)) lefts in
    let both : (loose ++ one ∷ []) ++ more ≡ loose ++ one ∷ more = append_assoc loose (one ∷ []) more in
    elim (cases_eq left.op op) [
      | inl is ↦ (
          let found : left.request ≡ request = same_Some left.request request (ap (λ (b : Bool). if b then Some left.request else left_among op lefts rest) (sym (eq-eqb left.op op is)) ∙ e) in
          ap (λ (b : Bool). numbered (loose ++ one ∷ more) (if b then length loose + 1 else place_among ((length loose + 1) + 1) true op lefts place)) (eq-eqb left.op op is)
          ∙ (ap (λ (xs : List (ℕ × Request)). numbered xs (length loose + 1)) (sym both) ∙ (numbered_kept (loose ++ one ∷ []) more (length loose + 1) one (numbered_new loose one) ∙ (ap (λ (n : ℕ). Some (names n, left.request)) is ∙ ap (λ (r : Request). Some (names op, r)) found))))
      | inr ne ↦ (
          let len : length (loose ++ one ∷ []) ≡ length loose + 1 = length-append loose (one ∷ []) ∙ omega arith in
          ap (λ (b : Bool). numbered (loose ++ one ∷ more) (if b then length loose + 1 else place_among ((length loose + 1) + 1) true op lefts place)) (ne_eqb left.op op ne)
          ∙ (ap (λ (xs : List (ℕ × Request)). numbered xs (place_among ((length loose + 1) + 1) true op lefts place)) (sym both)
          ∙ (ap (λ (n : ℕ). numbered ((loose ++ one ∷ []) ++ more) (place_among (n + 1) true op lefts place)) (sym len)
          ∙ among_at names op lefts (loose ++ one ∷ []) rest place request (λ h. numbered_kept loose (one ∷ []) place (names op, request) (old h)) (ap (λ (b : Bool). if b then Some left.request else left_among op lefts rest) (sym (ne_eqb left.op op ne)) ∙ e))))
    ]

module _ {T : Type 0} where
  pub record IsLeft (m : Merged T) (client op : ℕ) (request : Request) : Type 0 where
    pub within : IsWithin op (count client (begins_of m))
    pub at : numbered (loose_of m) (place_in m client op) ≡ Some (op_in m client op, request)

  -- all that journals left stands there
  abbrev pub AllLeft : Merged T → Type 0
  AllLeft m = (client op : ℕ) (request : Request) → left_of op (part_of client m) ≡ Some request → IsLeft m client op request

  abbrev row_of : Step T → Option (Answer T) → JournalRow T
  row_of step answer = record { step = step; answer = answer }

  -- a row that leaves nothing
  skipped : (c d op : ℕ) (row : JournalRow T) (m : Merged T) → ((rest : Option Request) → left_in op row.step rest ≡ rest) → left_of op (part_of d (Did c row ∷ m)) ≡ left_of op (part_of d m)
  skipped c d op row m none = elim (cases_Bool (c == d)) [ inl h ↦ rw h (none (left_of op (part_of d m))) | inr h ↦ rw h refl ]

  pub lefts_begin : (c : ℕ) (call : Call T) (answer : Option (Answer T)) (m : Merged T) → AllLeft m → AllLeft (Did c (row_of (steps.Begin call) answer) ∷ m)
  lefts_begin c call answer m g d op request e =
      let old = g d op request (sym (skipped c d op (row_of (steps.Begin call) answer) m (λ rest. refl)) ∙ e) in
      record {
        within = within_more c d op (begins_of m) old.within;
        at = old.at ∙ ap (λ (n : ℕ). Some (n, request)) (sym (number_old c d op (begins_of m) old.within.below));
      }

  pub lefts_look : (c k : ℕ) (answer : Option (Answer T)) (m : Merged T) → AllLeft m → AllLeft (Did c (row_of (steps.Act k acts.Look) answer) ∷ m)
  lefts_look c k answer m g d op request e = (let old = g d op request (sym (skipped c d op (row_of (steps.Act k acts.Look) answer) m (λ rest. refl)) ∙ e) in record { within = old.within; at = old.at })

  pub lefts_lacks : (c k : ℕ) (answer : Option (Answer T)) (m : Merged T) → AllLeft m → AllLeft (Did c (row_of (steps.Act k acts.Lacks) answer) ∷ m)
  lefts_lacks c k answer m g d op request e = (let old = g d op request (sym (skipped c d op (row_of (steps.Act k acts.Lacks) answer) m (λ rest. refl)) ∙ e) in record { within = old.within; at = old.at })

  pub lefts_got : (c k : ℕ) (receipt : Receipt) (answer : Option (Answer T)) (m : Merged T) → AllLeft m → AllLeft (Did c (row_of (steps.Act k (acts.Receive receipt)) answer) ∷ m)
  lefts_got c k receipt answer m g d op request e = (let old = g d op request (sym (skipped c d op (row_of (steps.Act k (acts.Receive receipt)) answer) m (λ rest. refl)) ∙ e) in record { within = old.within; at = old.at })

  -- a kill
  pub lefts_killed : (c : ℕ) (lefts : Vec Left Global) (answer : Option (Answer T)) (m : Merged T) → ((j : ℕ) (left : Left) → slice_get lefts.items j ≡ Some left → IsWithin left.op (count c (begins_of m))) → AllLeft m → AllLeft (Did c (row_of (steps.Killed lefts) answer) ∷ m)
  lefts_killed c lefts answer m each g d op request e =
      elim (cases_eq c d) [
        | inr ne ↦ (
            let old = g d op request (ap (λ (b : Bool). left_of op (if b then row_of (steps.Killed lefts) answer ∷ part_of d m else part_of d m)) (sym (ne_eqb c d ne)) ∙ e) in
            record {
              within = old.within;
              at = ap (λ (b : Bool). numbered (loose_of m ++ map (λ left. (op_in m c left.op, left.request)) lefts.items) (place_among (length (loose_of m) + 1) b op lefts.items (place_in m d op))) (ne_eqb c d ne)
                  ∙ (ap (numbered (loose_of m ++ map (λ left. (op_in m c left.op, left.request)) lefts.items)) (place_else lefts.items (length (loose_of m) + 1) op (place_in m d op)) ∙ numbered_kept (loose_of m) (map (λ left. (op_in m c left.op, left.request)) lefts.items) (place_in m d op) (op_in m d op, request) old.at);
            })
        | inl same ↦ subst (λ (d' : ℕ). left_of op (part_of d' (Did c (row_of (steps.Killed lefts) answer) ∷ m)) ≡ Some request → IsLeft (Did c (row_of (steps.Killed lefts) answer) ∷ m) d' op request) same own e
      ]
    where
      own : left_of op (part_of c (Did c (row_of (steps.Killed lefts) answer) ∷ m)) ≡ Some request → IsLeft (Did c (row_of (steps.Killed lefts) answer) ∷ m) c op request
      own e =
          let e' : left_among op lefts.items (left_of op (part_of c m)) ≡ Some request = ap (λ (b : Bool). left_of op (if b then row_of (steps.Killed lefts) answer ∷ part_of c m else part_of c m)) (sym (eq-eqb c c refl)) ∙ e in
          record {
            within = among_cases (IsWithin op (count c (begins_of m))) op lefts.items (left_of op (part_of c m)) request (λ j left is at. subst (λ (n : ℕ). IsWithin n (count c (begins_of m))) at (each j left is)) (λ h. (g c op request h).within) e';
            at = ap (λ (b : Bool). numbered (loose_of m ++ map (λ left. (op_in m c left.op, left.request)) lefts.items) (place_among (length (loose_of m) + 1) b op lefts.items (place_in m c op))) (eq-eqb c c refl)
                ∙ among_at (op_in m c) op lefts.items (loose_of m) (left_of op (part_of c m)) (place_in m c op) request (λ h. (g c op request h).at) e';
          }

  -- a row that leaves something, or nothing
  left_more : (c d k op : ℕ) (act : Act) (answer : Option (Answer T)) (m : Merged T) → left_of op (part_of d (Did c (row_of (steps.Act k act) answer) ∷ m)) ≡ left_now ((c == d) && (k == op)) (left_by act) (left_of op (part_of d m))
  left_more c d k op act answer m = elim (cases_Bool (c == d)) [ inl h ↦ rw h refl | inr h ↦ rw h (sym (left_false (left_by act) (left_of op (part_of d m)))) ]

  record Leaves (c k : ℕ) (left : Option Request) (m : Merged T) (d op : ℕ) (request : Request) : Type 0 where
    within : IsWithin op (count d (begins_of m))
    at : numbered (loose_of m ++ as_loose (op_in m c k) left) (place_now ((c == d) && (k == op)) left (length (loose_of m) + 1) (place_in m d op)) ≡ Some (op_in m d op, request)

  leaves : (c k : ℕ) (left : Option Request) (m : Merged T) → IsWithin k (count c (begins_of m)) → AllLeft m → (d op : ℕ) (request : Request) → left_now ((c == d) && (k == op)) left (left_of op (part_of d m)) ≡ Some request → Leaves c k left m d op request
  leaves c k left m there g d op request e =
      let is = (c == d) && (k == op) in
      let rest = left_of op (part_of d m) in
      record {
        within = left_cases (IsWithin op (count d (begins_of m))) is left rest request own_within (λ h. (g d op request h).within) e;
        at = left_at (loose_of m) (op_in m c k) left rest (place_in m d op) (op_in m d op) is request own_number (λ h. (g d op request h).at) e;
      }
    where
      own_within : ((c == d) && (k == op)) ≡ true → IsWithin op (count d (begins_of m))
      own_within h = (let two = both_true (c == d) (k == op) h in subst (λ (i : ℕ). IsWithin i (count d (begins_of m))) (eqb-true k op two.1) (subst (λ (i : ℕ). IsWithin k (count i (begins_of m))) (eqb-true c d two.0) there))

      own_number : ((c == d) && (k == op)) ≡ true → op_in m c k ≡ op_in m d op
      own_number h = (let two = both_true (c == d) (k == op) h in ap (λ (i : ℕ). op_in m i k) (eqb-true c d two.0) ∙ ap (λ (i : ℕ). op_in m d i) (eqb-true k op two.1))

  pub lefts_given : (c k : ℕ) (left : Option Request) (answer : Option (Answer T)) (m : Merged T) → IsWithin k (count c (begins_of m)) → AllLeft m → AllLeft (Did c (row_of (steps.Act k (acts.GiveUp left)) answer) ∷ m)
  lefts_given c k left answer m there g d op request e =
      let l = leaves c k left m there g d op request (sym (left_more c d k op (acts.GiveUp left) answer m) ∙ e) in record { within = l.within; at = l.at }

  pub lefts_failed : (c k : ℕ) (asked : Request) (answer : Option (Answer T)) (m : Merged T) → IsWithin k (count c (begins_of m)) → AllLeft m → AllLeft (Did c (row_of (steps.Act k (acts.Fails asked)) answer) ∷ m)
  lefts_failed c k asked answer m there g d op request e =
      let l = leaves c k (may_be_loose (Store asked)) m there g d op request (sym (left_more c d k op (acts.Fails asked) answer m) ∙ e) in record { within = l.within; at = l.at }
