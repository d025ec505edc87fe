-- What a client keeps, by its journal, among what a world keeps: what steps of its own and of others keep.
use Rattle.std.proofs.Common.{◌≡◌, ◌≢◌, ℕ, ◌-◌, ◌≤◌, List, [], ◌∷◌, ◌++◌, length, set, Option, Some, None, option_map, refl, sym, ◌∙◌, ap, subst, arith}
use Rattle.txn_store.specs.Store.{State as StoreState}
use Rattle.txn_store.specs.declared.request.Request.{Request}
use Rattle.txn_store.specs.declared.request.Reply.{Reply}
use Rattle.txn_steps.specs.declared.boundary.caches.Caches.{Caches}
use Rattle.txn_history.specs.declared.event.PlainCall.TheVariants as calls
use Rattle.txn_history.specs.declared.trace.RowOf.TheVariants.{Begun, Answered}
use Rattle.txn_history.specs.Lists.{numbered}
use Rattle.txn_history.specs.Seen.{Ask}
use Rattle.txn_history.specs.Added.{answer_rows, effect_rows}
use Rattle.txn_history.proofs.Lists.{get_kept, get_last}
use Rattle.txn_machine.specs.plain.Machine.{effect_of, effected, loosened, failing}
use Rattle.txn_machine.proofs.plain.Lists.{numbered_here, numbered_other}
use Rattle.txn_history.specs.declared.event.Call.{Call}
use Rattle.txn_history.specs.declared.event.Call.TheVariants as any
use Rattle.txn_history.specs.declared.event.Answer.{Answer}
use Rattle.txn_history.specs.Trace.{Row}
use Rattle.txn_history.specs.OneHistory.{IsOneHistory}
use Rattle.txn_machine.specs.declared.doing.Operation.{Operation}
use Rattle.txn_machine.specs.Doing.{Next, ended}
use Rattle.txn_machine.specs.Machine.{State, let_go, views_after, answered, acted, given_up}
use Rattle.txn_client_journals.specs.Parts as diary
use Rattle.txn_client_journals.specs.Parts.{Part, note_of, written_in, epoch_written, answer_in}
use Rattle.txn_client_journals.specs.Numbers.{count, number, number_or_next}
use Rattle.txn_client_journals.specs.Merged.{with_view}
use Rattle.txn_client_journals.specs.Traces.{named_answer, named_call}
use Rattle.txn_client_journals.proofs.Numbers.{IsWithin}
use Rattle.txn_client_journals.proofs.Operations.{named_op, OpsTied, op_within, ops_own, ops_other}
use Rattle.txn_client_journals.proofs.Views.{ViewsTied, change_own, change_other, change_size, after_own, after_other, after_size, ops_after, answer_same}
use Rattle.txn_client_journals.proofs.Told.{AreKnown, known_more, known_append, IfWrites, writes_more, answer_known}

module _ {T : Type 0} (decode : List ℕ → Option T) (get_epoch : T → ℕ) where
  pub record TiedTo (s : State T) (client : ℕ) (part : Part T) (begins views : List ℕ) : Type 0 where
    pub caches : 1 ≤ client → client ≤ s.clients → numbered s.caches client ≡ Some part.caches
    pub ops : OpsTied s.operations part.operations client begins views
    pub seen : ViewsTied s.views part.views client begins views
    pub writes_size : length part.writes ≡ count client begins
    pub writes : (k : ℕ) (written : Option ℕ) → numbered part.writes k ≡ Some written → IfWrites decode get_epoch s.trace (number begins client k) written
    pub told : AreKnown decode get_epoch s.trace part.told

  -- what a request does at the store

  pub effected_tied : (s : State T) (op : ℕ) (request : Request) (reply : Reply) (store : StoreState) (client : ℕ) (part : Part T) (begins views : List ℕ) → TiedTo s client part begins views → TiedTo (effected s op request reply store) client part begins views
  effected_tied s op request reply store client part begins views t =
      let more : List (Row T) = effect_rows op (effect_of s.store.files request reply) in
      record {
        caches = t.caches;
        ops = t.ops;
        seen = t.seen;
        writes_size = t.writes_size;
        writes = λ k written is. writes_more decode get_epoch s.trace more (number begins client k) written (t.writes k written is);
        told = known_more decode get_epoch s.trace more part.told t.told;
      }

  -- what a failure does beside its operation
  pub failing_tied : (s : State T) (op : ℕ) (ask : Ask) (client : ℕ) (part : Part T) (begins views : List ℕ) → TiedTo s client part begins views → TiedTo (failing (loosened s op ask) op) client part begins views
  failing_tied s op ask client part begins views t = record { caches = t.caches; ops = t.ops; seen = t.seen; writes_size = t.writes_size; writes = t.writes; told = t.told }

  -- the caches

  pub caches_own : (all : List Caches) (client clients : ℕ) (was new : Caches) → (1 ≤ client → client ≤ clients → numbered all client ≡ Some was) → 1 ≤ client → client ≤ clients → numbered (set all (client - 1) new) client ≡ Some new
  caches_own all client clients was new there some le = numbered_here all client new was (there some le)

  pub caches_other : (all : List Caches) (client d clients : ℕ) (was new : Caches) → 1 ≤ client → client ≢ d → (1 ≤ d → d ≤ clients → numbered all d ≡ Some was) → 1 ≤ d → d ≤ clients → numbered (set all (client - 1) new) d ≡ Some was
  caches_other all client d clients was new one ne there some le = numbered_other all client d new (omega (arith, one)) (λ e. ne (sym e)) ∙ there some le

  -- what was written

  pub written_at : (s : State T) (client : ℕ) (part : Part T) (begins views : List ℕ) (k : ℕ) → TiedTo s client part begins views → IfWrites decode get_epoch s.trace (number begins client k) (written_in (numbered part.writes k))
  written_at s client part begins views k t = by (numbered part.writes k) refl
    where
      by : (found : Option (Option ℕ)) → numbered part.writes k ≡ found → IfWrites decode get_epoch s.trace (number begins client k) (written_in found)
      by None is = tt
      by (Some written) is = t.writes k written is

  -- the begin of a checked write
  pub begun_writes : (rows more : List (Row T)) (n : ℕ) (names : ℕ → ℕ) (call : Call T) → IfWrites decode get_epoch ((rows ++ Begun n (named_call names call) ∷ []) ++ more) n (epoch_written get_epoch call)
  begun_writes rows more n names (any.Plain (calls.Write base value)) =
      let row : Row T = Begun n (any.Plain (calls.Write base value)) in
      record { base = base; value = value; call = (length rows, get_kept (rows ++ row ∷ []) more (length rows) row (get_last rows row)); has = refl }
  begun_writes rows more n names (any.Plain (calls.WriteUnchecked base value)) = tt
  begun_writes rows more n names (any.Plain calls.Read) = tt
  begun_writes rows more n names (any.Plain (calls.ReadUnchecked id)) = tt
  begun_writes rows more n names (any.Plain (calls.ReadSeen id)) = tt
  begun_writes rows more n names (any.Plain (calls.ListIds from to)) = tt
  begun_writes rows more n names (any.Plain (calls.Delete id)) = tt
  begun_writes rows more n names (any.Plain (calls.Check id)) = tt
  begun_writes rows more n names (any.Plain (calls.Advance to)) = tt
  begun_writes rows more n names (any.View call) = tt

module _ {T : Type 0} (decode : List ℕ → Option T) (get_epoch : T → ℕ) (set_epoch : T → ℕ → T) (failed : List ℕ) where
  -- what an answer tells, if there is one
  told_own : (rows : List (Row T)) (n : ℕ) (names : ℕ → ℕ) (written : Option ℕ) (answer : Option (Answer T)) (told : List (ℕ × ℕ)) → IsOneHistory decode get_epoch set_epoch failed (rows ++ answer_rows n (option_map (named_answer names) answer)) → IfWrites decode get_epoch rows n written →
      AreKnown decode get_epoch rows told → AreKnown decode get_epoch (rows ++ answer_rows n (option_map (named_answer names) answer)) (note_of get_epoch written answer ++ told)
  told_own rows n names written None told good w h = known_more decode get_epoch rows [] told h
  told_own rows n names written (Some answer) told good w h =
      known_append decode get_epoch (rows ++ Answered n (named_answer names answer) ∷ []) (note_of get_epoch written (Some answer)) told
      (answer_known decode get_epoch set_epoch failed rows n names written answer good w) (known_more decode get_epoch rows (Answered n (named_answer names answer) ∷ []) told h)

-- A turn of an operation.
module _ {T : Type 0} (decode : List ℕ → Option T) (get_epoch : T → ℕ) (set_epoch : T → ℕ → T) (failed : List ℕ) (s : State T) (client : ℕ) (part : Part T) (begins views : List ℕ) (long : length s.views ≡ length views) (t : TiedTo decode get_epoch s client part begins views)
    (k : ℕ) (o : Operation T) (found : numbered part.operations k ≡ Some o) (next : Next T) (caches' : Caches) (is_client : 1 ≤ client) where
  abbrev n : ℕ
  n = number begins client k

  abbrev op' : Operation T
  op' = named_op (number views client) o

  abbrev answer : Option (Answer T)
  answer = answer_in part o next

  abbrev views' : List ℕ
  views' = with_view client answer views

  abbrev s' : State T
  s' = acted s n op' next caches'

  own : o.client ≡ client
  own = t.ops.owner k o found

  has : (w : ℕ) → o.view ≡ Some w → IsWithin w (count client views)
  has w = t.ops.has k o w found

  -- the answer of the world
  pub turn_answer : answered (length s.views) (option_map (number views client) o.view) next.1 ≡ option_map (named_answer (number_or_next views client)) answer
  turn_answer = answer_same s.views part.views client views o.view next.1 long t.seen.size has

  turn_rows : s'.trace ≡ s.trace ++ answer_rows n (option_map (named_answer (number_or_next views client)) answer)
  turn_rows = ap (λ (a : Option (Answer T)). s.trace ++ answer_rows n a) turn_answer

  -- views and caches of the client that acts, who is the operation's
  turn_views : (c : ℕ) → c ≡ client → ViewsTied (views_after s.views c (option_map (number views client) o.view) o.claims next.1) (views_after part.views c o.view o.claims next.1) client begins views'
  turn_views c e = subst (λ (d : ℕ). ViewsTied (views_after s.views d (option_map (number views client) o.view) o.claims next.1) (views_after part.views d o.view o.claims next.1) client begins views') (sym e)
      (after_own s.views part.views client begins views o.view o.claims next.1 long has t.seen)

  pub turn_own : IsOneHistory decode get_epoch set_epoch failed s'.trace → TiedTo decode get_epoch s' client (diary.turned_with get_epoch part k o next caches') begins views'
  turn_own good =
      record {
        caches = λ some le. subst (λ (c : ℕ). numbered (set s.caches (c - 1) caches') client ≡ Some caches') (sym own) (caches_own decode get_epoch s.caches client s.clients part.caches caches' t.caches some le);
        ops = ops_after s'.operations (diary.turned_with get_epoch part k o next caches').operations client client begins views answer (ops_own s.operations part.operations client begins views k o next.0 found t.ops);
        seen = turn_views o.client own;
        writes_size = t.writes_size;
        writes = λ j written is. writes_more decode get_epoch s.trace (answer_rows n (answered (length s.views) op'.view next.1)) (number begins client j) written (t.writes j written is);
        told = subst (λ (rows : List (Row T)). AreKnown decode get_epoch rows (note_of get_epoch (written_in (numbered part.writes k)) answer ++ part.told)) (sym turn_rows)
            (told_own decode get_epoch set_epoch failed s.trace n (number_or_next views client) (written_in (numbered part.writes k)) answer part.told (subst (λ (rows : List (Row T)). IsOneHistory decode get_epoch set_epoch failed rows) turn_rows good) (written_at decode get_epoch s client part begins views k t) t.told);
      }

  pub turn_other : (d : ℕ) (other : Part T) → client ≢ d → TiedTo decode get_epoch s d other begins views → TiedTo decode get_epoch s' d other begins views'
  turn_other d other ne g =
      record {
        caches = λ some le. subst (λ (c : ℕ). numbered (set s.caches (c - 1) caches') d ≡ Some other.caches) (sym own) (caches_other decode get_epoch s.caches client d s.clients other.caches caches' is_client ne g.caches some le);
        ops = ops_after s'.operations other.operations client d begins views answer (ops_other s.operations other.operations client d k begins views op' (Rattle.txn_machine.specs.Machine.doing_next op' next.0) (t.ops.each k o found) (op_within s.operations part.operations client begins views t.ops k o found) ne g.ops);
        seen = subst (λ (c : ℕ). ViewsTied (views_after s.views c (option_map (number views client) o.view) o.claims next.1) other.views d begins views') (sym own) (after_other s.views other.views part.views client d begins views o.view o.claims next.1 has ne t.seen g.seen);
        writes_size = g.writes_size;
        writes = λ j written is. writes_more decode get_epoch s.trace (answer_rows n (answered (length s.views) op'.view next.1)) (number begins d j) written (g.writes j written is);
        told = known_more decode get_epoch s.trace (answer_rows n (answered (length s.views) op'.view next.1)) other.told g.told;
      }

  pub turn_size : length s'.views ≡ length views'
  turn_size = ap (λ (c : ℕ). length (views_after s.views c (option_map (number views client) o.view) o.claims next.1)) own ∙ after_size s.views part.views client views o.view o.claims next.1 long t.seen.size has

-- A give-up.
module _ {T : Type 0} (decode : List ℕ → Option T) (get_epoch : T → ℕ) (s : State T) (client : ℕ) (part : Part T) (begins views : List ℕ) (t : TiedTo decode get_epoch s client part begins views) (k : ℕ) (o : Operation T) (found : numbered part.operations k ≡ Some o) (ask : Ask) where
  abbrev left_op : Operation T
  left_op = named_op (number views client) o

  abbrev left : State T
  left = given_up (loosened s (number begins client k) ask) (number begins client k) left_op

  has_left : (w : ℕ) → o.view ≡ Some w → IsWithin w (count client views)
  has_left w = t.ops.has k o w found

  pub left_own : TiedTo decode get_epoch left client (diary.given_up part k o) begins views
  left_own =
      record {
        caches = t.caches;
        ops = ops_own s.operations part.operations client begins views k o ended found t.ops;
        seen = change_own s.views part.views client begins views o.view (let_go o.claims) has_left t.seen;
        writes_size = t.writes_size;
        writes = t.writes;
        told = t.told;
      }

  pub left_other : (d : ℕ) (other : Part T) → client ≢ d → TiedTo decode get_epoch s d other begins views → TiedTo decode get_epoch left d other begins views
  left_other d other ne g =
      record {
        caches = g.caches;
        ops = ops_other s.operations other.operations client d k begins views left_op (Rattle.txn_machine.specs.Machine.doing_next left_op ended) (t.ops.each k o found) (op_within s.operations part.operations client begins views t.ops k o found) ne g.ops;
        seen = change_other s.views other.views part.views client d begins views o.view (let_go o.claims) has_left ne t.seen g.seen;
        writes_size = g.writes_size;
        writes = g.writes;
        told = g.told;
      }

  pub left_size : length left.views ≡ length s.views
  left_size = change_size s.views left_op.view (let_go o.claims)
