-- A new operation of a client: what its begin keeps of its own and of others'.
use Rattle.std.proofs.Common.{◌≡◌, ◌≢◌, ℕ, ◌+◌, List, [], ◌∷◌, ◌++◌, length, Bool, Option, Some, option_map, inl, inr, refl, sym, ◌∙◌, ap, subst, arith}
use Rattle.std.proofs.lemmas.List.{length-append}
use Rattle.txn_history.specs.declared.trace.RowOf.TheVariants.{Begun}
use Rattle.txn_history.specs.Added.{answer_rows}
use Rattle.txn_history.proofs.Lists.{numbered_more}
use Rattle.txn_machine.proofs.plain.Lists.{within}
use Rattle.txn_history.specs.declared.event.Call.{Call}
use Rattle.txn_history.specs.declared.event.Answer.{Answer}
use Rattle.txn_history.specs.Calls.{view_used}
use Rattle.txn_machine.specs.views.Layer.{Used}
use Rattle.txn_machine.specs.declared.doing.Operation.{Operation}
use Rattle.txn_machine.specs.Doing.{Next}
use Rattle.txn_machine.specs.views.Parts.{is_claim_call}
use Rattle.txn_machine.specs.plain.Machine.{next_op}
use Rattle.txn_machine.specs.Machine.{State, views_after, views_taken, answered, new_operation, begun_as}
use Rattle.txn_client_journals.specs.Parts as diary
use Rattle.txn_client_journals.specs.Parts.{Part, epoch_written}
use Rattle.txn_client_journals.specs.Numbers.{count, number, number_or_next}
use Rattle.txn_client_journals.specs.Merged.{with_view}
use Rattle.txn_client_journals.specs.Traces.{named_answer, named_call}
use Rattle.txn_client_journals.proofs.Numbers.{count_own, count_other, number_own, number_old, IsWithin}
use Rattle.txn_client_journals.proofs.Operations.{named_op, OpsTied, ops_begun, ops_begun_other}
use Rattle.txn_client_journals.proofs.Views.{ViewsTied, views_begun, after_own, after_other, after_size, ops_after, taken_own, taken_other, taken_size, answer_same}
use Rattle.txn_client_journals.proofs.Told.{known_more, IfWrites, writes_more}
use Rattle.txn_client_journals.proofs.Calls as by_client
use Rattle.txn_client_journals.proofs.Ties.{TiedTo, begun_writes}

module _ {T : Type 0} (decode : List ℕ → Option T) (get_epoch : T → ℕ) (s : State T) (client : ℕ) (part : Part T) (begins views : List ℕ) (all_begun : length s.operations ≡ length begins) (long : length s.views ≡ length views) (t : TiedTo decode get_epoch s client part begins views)
    (call : Call T) (has : (w : ℕ) → view_used call ≡ Some w → IsWithin w (count client views)) (next : Next T) where
  abbrev names : ℕ → ℕ
  names = number views client

  abbrev call' : Call T
  call' = named_call names call

  abbrev begins' : List ℕ
  begins' = client ∷ begins

  -- its own number, and the world's
  abbrev k : ℕ
  k = length part.operations + 1

  abbrev n : ℕ
  n = next_op s

  abbrev answer : Option (Answer T)
  answer = answered (length part.views) (view_used call) next.1

  abbrev views' : List ℕ
  views' = with_view client answer views

  abbrev s' : State T
  s' = begun_as s client call' next

  abbrev part' : Part T
  part' = diary.begun get_epoch client part call next

  k_is : k ≡ count client begins + 1
  k_is = ap (λ m. m + 1) t.ops.size

  pub begun_number : number begins' client k ≡ n
  begun_number = ap (number begins' client) k_is ∙ (number_own client begins ∙ ap (λ m. m + 1) (sym all_begun))

  k_within : IsWithin k (count client begins')
  k_within = let one = count_own client begins in record { above = omega arith; below = omega (arith, one, k_is) }

  pub begun_answer : answered (length s.views) (view_used call') next.1 ≡ option_map (named_answer (number_or_next views client)) answer
  begun_answer = ap (λ (view : Option ℕ). answered (length s.views) view next.1) (sym (by_client.same names call).uses) ∙ answer_same s.views part.views client views (view_used call) next.1 long t.seen.size has

  -- the views, where the one that is used is busy

  abbrev all_taken : Option ℕ → List (Option (Used T))
  all_taken view = views_taken s.views view n

  abbrev own_taken : List (Option (Used T))
  own_taken = views_taken part.views (view_used call) k

  taken : ViewsTied (all_taken (option_map names (view_used call))) own_taken client begins' views
  taken = subst (λ (op : ℕ). ViewsTied (views_taken s.views (option_map names (view_used call)) op) own_taken client begins' views) begun_number (taken_own s.views part.views client begins' views (view_used call) k k_within has (views_begun s.views part.views client client begins views t.seen))

  taken_long : length (all_taken (option_map names (view_used call))) ≡ length views
  taken_long = taken_size s.views (option_map names (view_used call)) n ∙ long

  own_long : length own_taken ≡ length part.views
  own_long = taken_size part.views (view_used call) k

  -- the view and the kind of the call, as the world has them
  abbrev After : Option ℕ → Bool → List (Option (Used T))
  After view claims = views_after (all_taken view) client view claims next.1

  with_names : (P : List (Option (Used T)) → Type 0) → P (After (option_map names (view_used call)) (is_claim_call call)) → P s'.views
  with_names P h = subst (λ (view : Option ℕ). P (After view (is_claim_call call'))) (by_client.same names call).uses (subst (λ (c : Bool). P (After (option_map names (view_used call)) c)) (by_client.same names call).claims h)

  after : ViewsTied s'.views part'.views client begins' views'
  after = with_names (λ xs. ViewsTied xs part'.views client begins' views')
      (subst (λ (size : ℕ). ViewsTied (After (option_map names (view_used call)) (is_claim_call call)) part'.views client begins' (with_view client (answered size (view_used call) next.1) views)) own_long
      (after_own (all_taken (option_map names (view_used call))) own_taken client begins' views (view_used call) (is_claim_call call) next.1 taken_long has taken))

  abbrev record_of : Option ℕ → Bool → Operation T
  record_of view claims = record { client = client; view = view; claims = claims; doing = next.0 }

  new_named : named_op names (new_operation client call next.0) ≡ new_operation client call' next.0
  new_named = ap (λ (view : Option ℕ). record_of view (is_claim_call call)) (by_client.same names call).uses ∙ ap (λ (c : Bool). record_of (view_used call') c) (by_client.same names call).claims

  pub begun_own : TiedTo decode get_epoch s' client part' begins' views'
  begun_own =
      record {
        caches = t.caches;
        ops = ops_after s'.operations part'.operations client client begins' views answer
            (subst (λ (x : Operation T). OpsTied (s.operations ++ x ∷ []) part'.operations client begins' views) new_named (ops_begun s.operations part.operations client begins views (new_operation client call next.0) all_begun refl has t.ops));
        seen = after;
        writes_size = (let one = count_own client begins in let len = length-append part.writes (epoch_written get_epoch call ∷ []) in omega (arith, one, len, t.writes_size));
        writes = λ j written is. elim (numbered_more part.writes (epoch_written get_epoch call) j written is) [
          | inl old ↦ (
              let i = within part.writes j written old in
              subst (λ (m : ℕ). IfWrites decode get_epoch s'.trace m written) (sym (number_old client client j begins (omega (arith, i.1, t.writes_size)))) (more j written (t.writes j written old)))
          | inr new ↦ (
              let at : j ≡ k = new.0 ∙ ap (λ m. m + 1) (t.writes_size ∙ sym t.ops.size) in
              subst (λ (m : ℕ). IfWrites decode get_epoch s'.trace m written) (sym (ap (number begins' client) at ∙ begun_number))
              (subst (λ (w : Option ℕ). IfWrites decode get_epoch s'.trace n w) new.1 (begun_writes decode get_epoch s.trace (answer_rows n (answered (length s.views) (view_used call') next.1)) n names call)))
        ];
        told = known_more decode get_epoch (s.trace ++ Begun n call' ∷ []) (answer_rows n (answered (length s.views) (view_used call') next.1)) part.told (known_more decode get_epoch s.trace (Begun n call' ∷ []) part.told t.told);
      }
    where
      more : (j : ℕ) (written : Option ℕ) → IfWrites decode get_epoch s.trace (number begins client j) written → IfWrites decode get_epoch s'.trace (number begins client j) written
      more j written h = writes_more decode get_epoch (s.trace ++ Begun n call' ∷ []) (answer_rows n (answered (length s.views) (view_used call') next.1)) (number begins client j) written (writes_more decode get_epoch s.trace (Begun n call' ∷ []) (number begins client j) written h)

  pub begun_other : (d : ℕ) (other : Part T) → client ≢ d → TiedTo decode get_epoch s d other begins views → TiedTo decode get_epoch s' d other begins' views'
  begun_other d other ne g =
      record {
        caches = g.caches;
        ops = ops_after s'.operations other.operations client d begins' views answer (ops_begun_other s.operations other.operations client d begins views (new_operation client call' next.0) ne g.ops);
        seen = with_names (λ xs. ViewsTied xs other.views d begins' views')
            (subst (λ (size : ℕ). ViewsTied (After (option_map names (view_used call)) (is_claim_call call)) other.views d begins' (with_view client (answered size (view_used call) next.1) views)) own_long
            (after_other (all_taken (option_map names (view_used call))) other.views own_taken client d begins' views (view_used call) (is_claim_call call) next.1 has ne taken
            (taken_other s.views other.views part.views client d begins' views (view_used call) n has ne (views_begun s.views part.views client client begins views t.seen) (views_begun s.views other.views client d begins views g.seen))));
        writes_size = g.writes_size ∙ sym (count_other client d begins ne);
        writes = λ j written is. (
            let i = within other.writes j written is in
            subst (λ (m : ℕ). IfWrites decode get_epoch s'.trace m written) (sym (number_old client d j begins (omega (arith, i.1, g.writes_size))))
            (writes_more decode get_epoch (s.trace ++ Begun n call' ∷ []) (answer_rows n (answered (length s.views) (view_used call') next.1)) (number begins d j) written (writes_more decode get_epoch s.trace (Begun n call' ∷ []) (number begins d j) written (g.writes j written is))));
        told = known_more decode get_epoch (s.trace ++ Begun n call' ∷ []) (answer_rows n (answered (length s.views) (view_used call') next.1)) other.told (known_more decode get_epoch s.trace (Begun n call' ∷ []) other.told g.told);
      }

  pub begun_views_size : length s'.views ≡ length views'
  begun_views_size = with_names (λ xs. length xs ≡ length views')
      (subst (λ (size : ℕ). length (After (option_map names (view_used call)) (is_claim_call call)) ≡ length (with_view client (answered size (view_used call) next.1) views)) own_long
      (after_size (all_taken (option_map names (view_used call))) own_taken client views (view_used call) (is_claim_call call) next.1 taken_long (own_long ∙ t.seen.size) has))

  pub begun_size : length s'.operations ≡ length begins'
  begun_size = (let len = length-append s.operations (new_operation client call' next.0 ∷ []) in omega (arith, len, all_begun))
