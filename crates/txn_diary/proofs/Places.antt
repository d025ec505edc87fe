-- Lists of which the first places hold what was forgotten, and lists of what stands at numbers.
use Rattle.std.proofs.Common.{◌≡◌, ◌≢◌, ℕ, zero, suc, ◌+◌, ◌-◌, ◌<◌, ◌≤◌, List, [], ◌∷◌, ◌++◌, length, map, set, take, drop, replicate, get_or, slice_get, Bool, true, false, cond, ◌==◌, nat_eq, is_some, IfSome, Option, Some, None, unwrap_or, All, ◌⊎◌, inl, inr, refl, sym, ◌∙◌, ap, subst, arith}
use Rattle.std.specs.List.{range_with_len}
use Rattle.std.proofs.lemmas.List.{append-nil, length-append, length-map, length-take-le, length-drop, take_all, drop_all, set-get_or, length-replicate, length-set, set-append_right, get_or-set_same, get_or-set_other, same_lists}
use Rattle.std.proofs.lemmas.List.Elements.{All-nil, All-tail, All-append, All-replicate}
use Rattle.std.proofs.lemmas.List.FromFn.{length-map-range_with_len, get_or-map-range_with_len, map-range_with_len_more}
use Rattle.std.specs.HashMap.{HashMap, get, values}
use Rattle.std.proofs.lemmas.Map.Views.{IfSome-lookup_from_All}
use Rattle.std.proofs.lemmas.Bool.{cases_lt, cases_eq, eq-eqb, ne_eqb}
use Rattle.std.proofs.lemmas.Option.{slice_get_read, slice_get_within, get_or_from_slice_get, unwrap_or-slice_get}
use Rattle.txn_store.specs.declared.request.Reply.{Reply}
use Rattle.txn_steps.specs.declared.boundary.caches.Caches.{Caches}
use Rattle.txn_history.specs.Lists.{numbered}
use Rattle.txn_history.specs.GoesOn.{left_loose, all_left_loose}
use Rattle.txn_history.specs.Seen.{Ask}
use Rattle.txn_machine.specs.views.Layer.{Used}
use Rattle.txn_machine.specs.views.Steps.{view_without}
use Rattle.txn_machine.proofs.plain.Lists.{numbered_there}
use Rattle.txn_machine.specs.declared.doing.Doing.{Doing}
use Rattle.txn_machine.specs.declared.doing.Operation.{Operation}
use Rattle.txn_machine.specs.declared.doing.Ending.{Ending}
use Rattle.txn_machine.specs.Doing.{asked, ended}
use Rattle.txn_machine.specs.Machine.{used_in, used_by, seen_operations, with_used, with_doing, doing_next, ended_by}
use Rattle.txn_client_journals.specs.tables.Operations.{asked_of, asked_by, Ends, TakesReply, TakesTurn}
use Rattle.txn_client_journals.proofs.tables.Acting.{numbered_past}
use Rattle.txn_client_journals.specs.Parts.{written_in}
use Rattle.txn_diary.specs.Maps.{value_at}
use Rattle.txn_diary.specs.Forgetting.{forgotten, HasEnded, HaveEnded, AreForgotten, AreKeptOperations, AreKeptWrites}
use Rattle.txn_diary.proofs.Killing.{changed_next}
use Rattle.txn_diary.proofs.Kept.{forgotten_stays}

-- lists whose first places are filled

module _ {A : Type 0} (x : A) where
  get_past : (n k : ℕ) (xs : List A) → n ≤ k → slice_get (replicate n x ++ xs) k ≡ slice_get xs (k - n)
  get_past zero k xs le = let same : k ≡ k - 0 = omega arith in ap (slice_get xs) same
  get_past (suc n) zero xs le = absurd (omega (arith, le))
  get_past (suc n) (suc k) xs le = let same : k - n ≡ suc k - suc n = omega arith in get_past n k xs (omega (arith, le)) ∙ ap (slice_get xs) same

  get_filled : (n k : ℕ) (xs : List A) → k < n → slice_get (replicate n x ++ xs) k ≡ Some x
  get_filled zero k xs lt = absurd (omega (arith, lt))
  get_filled (suc n) zero xs lt = refl
  get_filled (suc n) (suc k) xs lt = get_filled n k xs (omega (arith, lt))

  -- one behind them
  pub numbered_behind : (n op : ℕ) (xs : List A) → n < op → numbered (replicate n x ++ xs) op ≡ numbered xs (op - n)
  numbered_behind n zero xs lt = absurd (omega (arith, lt))
  numbered_behind n (suc k) xs lt = let le : n ≤ k = omega (arith, lt) in let place : suc (k - n) ≡ suc k - n = omega (arith, lt) in get_past n k xs le ∙ ap (numbered xs) place

  -- one of them
  pub numbered_filled : (n op : ℕ) (xs : List A) → 0 < op → op ≤ n → numbered (replicate n x ++ xs) op ≡ Some x
  numbered_filled n zero xs some le = absurd (omega (arith, some))
  numbered_filled n (suc k) xs some le = get_filled n k xs (omega (arith, le))

  pub set_behind : (n op : ℕ) (xs : List A) (y : A) → n < op → set (replicate n x ++ xs) (op - 1) y ≡ replicate n x ++ set xs (op - n - 1) y
  set_behind n op xs y lt = let place : op - 1 - n ≡ op - n - 1 = omega (arith, lt) in set-append_right (replicate n x) xs n (op - 1) y (length-replicate n x) (omega (arith, lt)) ∙ ap (λ i. replicate n x ++ set xs i y) place

  pub length_behind : (n : ℕ) (xs : List A) → length (replicate n x ++ xs) ≡ n + length xs
  length_behind n xs = length-append (replicate n x) xs ∙ ap (λ m. m + length xs) (length-replicate n x)

-- an operation that has ended leaves nothing
pub none_left : (b : Bool) (op : ℕ) (ask : Option Ask) → ask ≡ None → cond b (left_loose op ask) [] ≡ []
none_left true op None e = refl
none_left true op (Some ask) e = cc
none_left false op ask e = refl

module _ {T : Type 0} where
  -- one that runs was not forgotten
  pub behind_running : (n op : ℕ) (xs : List (Operation T)) → is_some (asked_by (replicate n forgotten ++ xs) op) ≡ true → n < op
  behind_running n op xs runs = elim (cases_lt n op) [ inl lt ↦ lt | inr h ↦ by op (omega (arith, h)) runs ]
    where
      by : (op : ℕ) → op ≤ n → is_some (asked_by (replicate n (forgotten {T = T}) ++ xs) op) ≡ true → n < op
      by zero le runs = cc
      by (suc k) le runs = let clash : false ≡ true = sym (ap (λ (o : Option (Operation T)). is_some (asked_of o)) (numbered_filled (forgotten {T = T}) n (suc k) xs (omega arith) le)) ∙ runs in absurd (cc)

  -- one that was forgotten asks for nothing
  pub none_asked : (n op : ℕ) (xs : List (Operation T)) → op ≤ n → asked_by (replicate n forgotten ++ xs) op ≡ None
  none_asked n zero xs le = refl
  none_asked n (suc k) xs le = ap asked_of (numbered_filled (forgotten {T = T}) n (suc k) xs (omega arith) le)

  -- the others, where one of them does something next
  pub doing_behind : (n op : ℕ) (xs : List (Operation T)) (o : Operation T) (doing : Doing T) → n < op → with_doing (replicate n forgotten ++ xs) op o doing ≡ replicate n forgotten ++ with_doing xs (op - n) o doing
  doing_behind n op xs o doing lt = set_behind (forgotten {T = T}) n op xs (doing_next o doing) lt

  -- one that runs ends, or takes its turn

  pub ends_behind : (n op : ℕ) (xs ys : List (Operation T)) → is_some (asked_by (replicate n forgotten ++ xs) op) ≡ true → Ends xs (op - n) ys → Ends (replicate n forgotten ++ xs) op (replicate n forgotten ++ ys)
  ends_behind n op xs ys runs e =
      let lt = behind_running n op xs runs in
      record { operation = e.operation; found = numbered_behind (forgotten {T = T}) n op xs lt ∙ e.found; operations = ap (λ (os : List (Operation T)). replicate n forgotten ++ os) e.operations ∙ sym (doing_behind n op xs e.operation ended lt) }

  pub found_behind : (n op : ℕ) (xs : List (Operation T)) (reply : Option Reply) → is_some (asked_by (replicate n forgotten ++ xs) op) ≡ true → TakesReply (replicate n forgotten ++ xs) op reply → TakesReply xs (op - n) reply
  found_behind n op xs reply runs t = record { operation = t.operation; found = sym (numbered_behind (forgotten {T = T}) n op xs (behind_running n op xs runs)) ∙ t.found; kind = t.kind; range = t.range }

  lefts_from : (client n op : ℕ) (xs : List (Operation T)) → all_left_loose client op (seen_operations (replicate n forgotten ++ xs)) ≡ all_left_loose client (op + n) (seen_operations xs)
  lefts_from client zero op xs = let same : op ≡ op + 0 = omega arith in ap (λ m. all_left_loose client m (seen_operations xs)) same
  lefts_from client (suc n) op xs =
      let next : op + 1 + n ≡ op + suc n = omega arith in
      ap (λ ls. ls ++ all_left_loose client (op + 1) (seen_operations (replicate n forgotten ++ xs))) (none_left (0 == client) op None refl) ∙ (lefts_from client n (op + 1) xs ∙ ap (λ m. all_left_loose client m (seen_operations xs)) next)

  -- what a kill leaves
  pub lefts_behind : (client n first : ℕ) (xs : List (Operation T)) → first ≡ n + 1 → all_left_loose client 1 (seen_operations (replicate n forgotten ++ xs)) ≡ all_left_loose client first (seen_operations xs)
  lefts_behind client n first xs is = let same : 1 + n ≡ first = omega (arith, is) in lefts_from client n 1 xs ∙ ap (λ m. all_left_loose client m (seen_operations xs)) same

  pub ended_behind : (client n : ℕ) (xs : List (Operation T)) → map (ended_by client) (replicate n forgotten ++ xs) ≡ replicate n forgotten ++ map (ended_by client) xs
  ended_behind client zero xs = refl
  ended_behind client (suc n) xs = ap (λ o. o ∷ map (ended_by client) (replicate n forgotten ++ xs)) (forgotten_stays {T = T} client) ∙ ap (λ os. forgotten ∷ os) (ended_behind client n xs)

  -- all are forgotten, where all have ended

  ended_at : (n op : ℕ) (xs : List (Operation T)) → All (λ o. asked o.doing ≡ None) xs → n < op → op ≤ n + length xs → HasEnded (replicate n forgotten ++ xs) op
  ended_at n op xs all lt le =
      let there = numbered_there xs (op - n) (omega (arith, lt)) (omega (arith, le)) in
      (there.0, numbered_behind (forgotten {T = T}) n op xs lt ∙ there.1, at (op - n) there.0 there.1)
    where
      at : (k : ℕ) (o : Operation T) → numbered xs k ≡ Some o → asked o.doing ≡ None
      at zero o e = cc
      at (suc k) o e = subst (λ (x : Operation T). asked x.doing ≡ None) (get_or_from_slice_get xs k o o e) (all k o (slice_get_within xs k o e))

  forgets_at : (n m op : ℕ) (xs : List (Operation T)) → All (λ o. asked o.doing ≡ None) xs → m ≡ n + length xs → (numbered (replicate m forgotten ++ []) op ≡ numbered (replicate n forgotten ++ xs) op) ⊎ (HasEnded (replicate n forgotten ++ xs) op × (numbered (replicate m (forgotten {T = T}) ++ []) op ≡ Some forgotten))
  forgets_at n m zero xs all count = inl refl
  forgets_at n m (suc k) xs all count = elim (cases_lt n (suc k)) [
    | inr h ↦ (let le : suc k ≤ n = omega (arith, h) in inl (numbered_filled (forgotten {T = T}) m (suc k) [] (omega arith) (omega (arith, le, count)) ∙ sym (numbered_filled (forgotten {T = T}) n (suc k) xs (omega arith) le)))
    | inl lt ↦ (
        elim (cases_lt m (suc k)) [
          | inr g ↦ (let le : suc k ≤ m = omega (arith, g) in inr (ended_at n (suc k) xs all lt (omega (arith, le, count)), numbered_filled (forgotten {T = T}) m (suc k) [] (omega arith) le))
          | inl gt ↦ (
              inl (numbered_past (replicate m (forgotten {T = T}) ++ []) (suc k) (omega (arith, gt, length_behind (forgotten {T = T}) m [])) ∙ sym (numbered_past (replicate n forgotten ++ xs) (suc k) (omega (arith, gt, count, length_behind (forgotten {T = T}) n xs)))))
        ])
  ]

  -- where all have ended, those that are kept have
  pub ended_kept : (n : ℕ) (xs : List (Operation T)) → HaveEnded (replicate n forgotten ++ xs) → HaveEnded xs
  ended_kept zero xs all = all
  ended_kept (suc n) xs all = ended_kept n xs (All-tail (λ (o : Operation T). asked o.doing ≡ None) forgotten (replicate n forgotten ++ xs) all)

  pub all_forgotten : (n : ℕ) → AreForgotten (replicate n (forgotten {T = T}) ++ [])
  all_forgotten n = All-append (λ (o : Operation T). o ≡ forgotten) (replicate n forgotten) [] (All-replicate (λ (o : Operation T). o ≡ forgotten) n forgotten refl) (All-nil (λ (o : Operation T). o ≡ forgotten))

  pub operations_forgotten : (n m : ℕ) (xs : List (Operation T)) → All (λ o. asked o.doing ≡ None) xs → m ≡ n + length xs → AreKeptOperations (replicate n forgotten ++ xs) (replicate m forgotten ++ [])
  operations_forgotten n m xs all count = record { count = length_behind (forgotten {T = T}) m [] ∙ (omega (arith, count) ∙ sym (length_behind (forgotten {T = T}) n xs)); each = λ op. forgets_at n m op xs all count }

  pub writes_forgotten : (n m : ℕ) (xs : List (Operation T)) (ws : List (Option ℕ)) → All (λ o. asked o.doing ≡ None) xs → m ≡ n + length xs → length ws ≡ length xs → AreKeptWrites (replicate n forgotten ++ xs) (replicate n None ++ ws) (replicate m None ++ [])
  writes_forgotten n m xs ws all count long = record { count = length_behind none m [] ∙ (omega (arith, count, long) ∙ sym (length_behind none n ws)); each = each }
    where
      none : Option ℕ
      none = None

      each : (op : ℕ) → (written_in (numbered (replicate m none ++ []) op) ≡ written_in (numbered (replicate n none ++ ws) op)) ⊎ HasEnded (replicate n forgotten ++ xs) op
      each zero = inl refl
      each (suc k) = elim (cases_lt n (suc k)) [
        | inr h ↦ (let le : suc k ≤ n = omega (arith, h) in inl (ap written_in (numbered_filled none m (suc k) [] (omega arith) (omega (arith, le, count)) ∙ sym (numbered_filled none n (suc k) ws (omega arith) le))))
        | inl lt ↦ (
            elim (cases_lt m (suc k)) [
              | inr g ↦ (let le : suc k ≤ m = omega (arith, g) in inr (ended_at n (suc k) xs all lt (omega (arith, le, count))))
              | inl gt ↦ (
                  inl (ap written_in (numbered_past (replicate m none ++ []) (suc k) (omega (arith, gt, length_behind none m [])) ∙ sym (numbered_past (replicate n none ++ ws) (suc k) (omega (arith, gt, count, long, length_behind none n ws))))))
            ])
      ]

module _ {T : Type 0} (page : ℕ) (encode : T → List ℕ) (decode : List ℕ → Option T) (get_epoch : T → ℕ) (set_epoch : T → ℕ → T) where
  pub turns_behind : (n op : ℕ) (xs ys : List (Operation T)) (caches left : Caches) (reply : Option Reply) (ending : Option (Ending T)) → is_some (asked_by (replicate n forgotten ++ xs) op) ≡ true → TakesTurn page encode decode get_epoch set_epoch xs caches (op - n) reply ys left ending →
      TakesTurn page encode decode get_epoch set_epoch (replicate n forgotten ++ xs) caches op reply (replicate n forgotten ++ ys) left ending
  turns_behind n op xs ys caches left reply ending runs t =
      let lt = behind_running n op xs runs in
      record { operation = t.operation; found = numbered_behind (forgotten {T = T}) n op xs lt ∙ t.found; next = t.next; turns = t.turns; ends = t.ends; operations = ap (λ (os : List (Operation T)). replicate n forgotten ++ os) t.operations ∙ sym (doing_behind n op xs t.operation t.next.0 lt); leaves = t.leaves }

-- lists of what stands at numbers

module _ {A : Type 0} where
  abbrev pub at_numbers : (ℕ → A) → ℕ → List A
  at_numbers f count = map f (range_with_len 1 count)

  pub at_number : (f : ℕ → A) (count number : ℕ) → 0 < number → number ≤ count → numbered (at_numbers f count) number ≡ Some (f number)
  at_number f count zero some le = absurd (omega (arith, some))
  at_number f count (suc k) some le =
      let place : 1 + k ≡ suc k = omega arith in
      slice_get_read (at_numbers f count) count k (f (suc k)) (sym (length-map-range_with_len f 1 count)) (omega (arith, le)) (sym (get_or-map-range_with_len f 1 count k (suc k) (f (suc k)) (omega (arith, le)) place))

  pub past_numbers : (f : ℕ → A) (count number : ℕ) → count < number → numbered (at_numbers f count) number ≡ None
  past_numbers f count number lt = numbered_past (at_numbers f count) number (omega (arith, lt, length-map-range_with_len f 1 count))

  -- one more
  pub numbers_more : (f g : ℕ → A) (count : ℕ) (x : A) → ((n : ℕ) → n ≤ count → g n ≡ f n) → g (count + 1) ≡ x → at_numbers g (count + 1) ≡ at_numbers f count ++ x ∷ []
  numbers_more f g count x same new =
      let place : 1 + count ≡ count + 1 = omega arith in
      map-range_with_len_more g 1 count (count + 1) place ∙ (ap (λ xs. xs ++ g (count + 1) ∷ []) (numbers_same f g count same) ∙ ap (λ y. at_numbers f count ++ y ∷ []) new)
    where
      numbers_same : (f g : ℕ → A) (count : ℕ) → ((n : ℕ) → n ≤ count → g n ≡ f n) → at_numbers g count ≡ at_numbers f count
      numbers_same f g count same = same_lists (at_numbers g count) (at_numbers f count) (length-map-range_with_len g 1 count ∙ sym (length-map-range_with_len f 1 count)) (λ k d lt.
          let le : k < count = omega (arith, lt, length-map-range_with_len g 1 count) in
          let place : 1 + k ≡ k + 1 = omega arith in
          get_or-map-range_with_len g 1 count k (k + 1) d le place ∙ (same (k + 1) (omega (arith, le)) ∙ sym (get_or-map-range_with_len f 1 count k (k + 1) d le place)))

  -- one set
  pub numbers_set : (f g : ℕ → A) (count number : ℕ) (x : A) → 0 < number → ((n : ℕ) → n ≢ number → g n ≡ f n) → g number ≡ x → at_numbers g count ≡ set (at_numbers f count) (number - 1) x
  numbers_set f g count number x some same new = same_lists (at_numbers g count) (set (at_numbers f count) (number - 1) x) (length-map-range_with_len g 1 count ∙ sym (length-set (at_numbers f count) (number - 1) x ∙ length-map-range_with_len f 1 count)) (λ k d lt.
      let le : k < count = omega (arith, lt, length-map-range_with_len g 1 count) in
      let place : 1 + k ≡ k + 1 = omega arith in
      get_or-map-range_with_len g 1 count k (k + 1) d le place ∙ elim (cases_eq k (number - 1)) [
        | inl is ↦ (
            let there : k + 1 ≡ number = omega (arith, is, some) in
            ap g there ∙ (new ∙ sym (ap (λ i. get_or (set (at_numbers f count) (number - 1) x) i d) is ∙ get_or-set_same (at_numbers f count) (number - 1) x d (omega (arith, is, le, length-map-range_with_len f 1 count)))))
        | inr ne ↦ same (k + 1) (λ e. ne (omega (arith, e))) ∙ sym (get_or-set_other (at_numbers f count) (number - 1) k x d ne ∙ get_or-map-range_with_len f 1 count k (k + 1) d le place)
      ])

  -- one set that is not there
  pub numbers_out : (f : ℕ → A) (count number : ℕ) (x : A) → count < number → set (at_numbers f count) (number - 1) x ≡ at_numbers f count
  numbers_out f count number x lt = same_lists (set (at_numbers f count) (number - 1) x) (at_numbers f count) (length-set (at_numbers f count) (number - 1) x) (λ k d le.
      let ne : k ≢ number - 1 = omega (arith, lt, le, length-set (at_numbers f count) (number - 1) x, length-map-range_with_len f 1 count) in
      get_or-set_other (at_numbers f count) (number - 1) k x d ne)

  pub none_of : (found : Option A) → is_some found ≡ false → found ≡ None
  none_of None h = refl
  none_of (Some x) h = cc

  -- what a map has at numbers

  pub value_here : (number : ℕ) (value found : Option A) → value_at number number value found ≡ value
  value_here number value found = ap (λ b. cond b value found) (eq-eqb number number refl)

  pub value_other : (n number : ℕ) (value found : Option A) → n ≢ number → value_at n number value found ≡ found
  value_other n number value found ne = ap (λ b. cond b value found) (ne_eqb n number ne)

module _ {T : Type 0} where
  pub used_at_number : (f : ℕ → Option (Used T)) (count number : ℕ) → 0 < number → number ≤ count → used_by (at_numbers f count) (Some number) ≡ f number
  used_at_number f count number some le = ap used_in (at_number f count number some le)

  pub used_past_numbers : (f : ℕ → Option (Used T)) (count number : ℕ) → count < number → used_by (at_numbers f count) (Some number) ≡ None
  used_past_numbers f count number lt = ap used_in (past_numbers f count number lt)

  -- views that end, one after another

  as_used : (found : Option (Option (Used T))) → used_in found ≡ unwrap_or found None
  as_used None = refl
  as_used (Some used) = refl

  -- what a place holds, put there
  pub used_again : (views : List (Option (Used T))) (number : ℕ) → 0 < number → set views (number - 1) (used_by views (Some number)) ≡ views
  used_again views zero some = absurd (omega (arith, some))
  used_again views (suc k) some =
      let place : suc k - 1 ≡ k = omega arith in
      ap (λ i. set views i (used_in (slice_get views k))) place ∙ (ap (set views k) (as_used (slice_get views k) ∙ unwrap_or-slice_get views k None) ∙ set-get_or views k None)

  pub without_none : (client : ℕ) (views : List (Option (Used T))) (number : ℕ) → 0 < number → used_by views (Some number) ≡ None → views ≡ with_used views (Some number) (view_without client (used_by views (Some number)))
  without_none client views number some none = sym (ap (λ (u : Option (Used T)). set views (number - 1) (view_without client u)) none ∙ (ap (set views (number - 1)) (sym none) ∙ used_again views number some))

  pub without_other : (client : ℕ) (views : List (Option (Used T))) (number : ℕ) (used : Used T) → 0 < number → used_by views (Some number) ≡ Some used → (used.view.client == client) ≡ false → views ≡ with_used views (Some number) (view_without client (used_by views (Some number)))
  without_other client views number used some there other = sym (ap (λ (u : Option (Used T)). set views (number - 1) (view_without client u)) there ∙ (ap (λ b. set views (number - 1) (cond b None (Some used))) other ∙ (ap (set views (number - 1)) (sym there) ∙ used_again views number some)))

  pub without_own : (client : ℕ) (views : List (Option (Used T))) (number : ℕ) (used : Used T) → used_by views (Some number) ≡ Some used → (used.view.client == client) ≡ true → with_used views (Some number) None ≡ with_used views (Some number) (view_without client (used_by views (Some number)))
  without_own client views number used there own = sym (ap (λ (u : Option (Used T)). set views (number - 1) (view_without client u)) there ∙ ap (λ b. set views (number - 1) (cond b None (Some used))) own)

  long_so : (client k : ℕ) (old : List (Option (Used T))) → k ≤ length old → length (map (view_without client) (take k old) ++ drop k old) ≡ length old
  long_so client k old le =
      let ahead = length-append (map (view_without client) (take k old)) (drop k old) in
      let taken = length-map (take k old) (view_without client) in
      let first = length-take-le k old le in
      let rest = length-drop k old in
      omega (arith, ahead, taken, first, rest, le)

  pub emptied_next : (client k : ℕ) (old now after : List (Option (Used T))) → k < length old → now ≡ map (view_without client) (take k old) ++ drop k old → after ≡ with_used now (Some (k + 1)) (view_without client (used_by now (Some (k + 1)))) → after ≡ map (view_without client) (take (k + 1) old) ++ drop (k + 1) old
  emptied_next client k old now after lt is changes =
      let long : length now ≡ length old = ap length is ∙ long_so client k old (omega (arith, lt)) in
      let next : k + 1 ≡ suc k = omega arith in
      let place : k + 1 - 1 ≡ k = omega arith in
      let there = numbered_there now (k + 1) (omega arith) (omega (arith, lt, long)) in
      changed_next (view_without client) old now after k there.0 is (ap (numbered now) (sym next) ∙ there.1) (changes ∙ (ap (λ i. set now i (view_without client (used_in (numbered now (k + 1))))) place ∙ ap (λ (found : Option (Option (Used T))). set now k (view_without client (used_in found))) there.1))

  pub emptied_all : (client k : ℕ) (old now : List (Option (Used T))) → length old ≤ k → now ≡ map (view_without client) (take k old) ++ drop k old → now ≡ map (view_without client) old
  emptied_all client k old now le is = is ∙ (ap (λ (vs : List (Option (Used T))). map (view_without client) vs ++ drop k old) (take_all k old le) ∙ (ap (λ (vs : List (Option (Used T))). map (view_without client) old ++ vs) (drop_all k old le) ∙ append-nil (map (view_without client) old)))

module _ {T S : Type 0} where
  -- what holds of each value of a map, and where nothing stands, holds of what stands at each number
  pub of_each_used : (P : Option (Used T) → Type 0) (used : HashMap ℕ (Option (Used T)) S) (count number : ℕ) → P None → All P (values used) → P (used_by (at_numbers (λ n. used_in (get nat_eq used n)) count) (Some number))
  of_each_used P used count zero none all = none
  of_each_used P used count (suc k) none all = elim (cases_lt count (suc k)) [
    | inl lt ↦ subst P (sym (used_past_numbers (λ n. used_in (get nat_eq used n)) count (suc k) lt)) none
    | inr le ↦ subst P (sym (used_at_number (λ n. used_in (get nat_eq used n)) count (suc k) (omega arith) le)) (by (get nat_eq used (suc k)) (IfSome-lookup_from_All P (nat_eq (suc k)) used.entries all))
  ]
    where
      by : (found : Option (Option (Used T))) → IfSome found P → P (used_in found)
      by None h = none
      by (Some one) h = h
