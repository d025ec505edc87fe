-- A claim takes a look or a reply as the write or the read of the machine of plain calls does that its attempt is.
use Rattle.std.proofs.Common.{◌≡◌, ℕ, ◌==◌, List, Bool, true, false, if◌then◌else◌, Option, Some, None, Result, Ok, Err, refl, sym, ◌∙◌, ap, subst, inl, inr}
use Rattle.std.proofs.lemmas.Option.{same_Some}
use Rattle.txn_store.specs.declared.request.Reply.{Reply}
use Rattle.txn_store.specs.types.Errors.{error_number}
use Rattle.txn_store.specs.types.Epochs.{claimed_epoch}
use Rattle.txn_store.specs.declared.types.error.TransactionalObjectError.{TransactionalObjectError}
use Rattle.txn_steps.specs.declared.boundary.caches.Caches.{Caches}
use Rattle.txn_steps.specs.declared.boundary.turned.Turned.{Turned}
use Rattle.txn_steps.specs.declared.boundary.turned.Turned.TheVariants as turns
use Rattle.txn_steps.specs.boundary.Asking.{unless_lacking}
use Rattle.txn_steps.specs.declared.read.ReadOp.{ReadOp}
use Rattle.txn_steps.specs.declared.write.WriteOp.{WriteOp}
use Rattle.txn_steps.specs.Latest.{ReadAnswer}
use Rattle.txn_steps.specs.Reads.{read_started, read_turned, read_caches_after}
use Rattle.txn_steps.specs.Writes.{write_started, write_turned}
use Rattle.txn_history.specs.declared.event.PlainAnswer.TheVariants as plain_answers
use Rattle.txn_history.specs.Names.{world_names, world_boundary}
use Rattle.txn_machine.specs.declared.plain.doing.PlainDoing.{PlainDoing}
use Rattle.txn_machine.specs.declared.plain.doing.PlainDoing.TheVariants as doings
use Rattle.txn_machine.specs.plain.Doing as plain
use Rattle.txn_steps_views.specs.declared.claiming.Claiming.{Claiming}
use Rattle.txn_steps_views.specs.declared.claiming.Claiming.TheVariants as claiming
use Rattle.txn_steps_views.specs.declared.op.ViewOp.{ViewOp}
use Rattle.txn_steps_views.specs.declared.op.ViewOp.TheVariants as ops
use Rattle.txn_steps_views.specs.declared.outcome.Outcome.{Outcome}
use Rattle.txn_steps_views.specs.declared.outcome.Outcome.TheVariants as outcomes
use Rattle.txn_steps_views.specs.Attempts.{attempt_turned, refreshed_turned, followed, entered_with, attempted_again}
use Rattle.txn_steps_views.specs.Claims.{as_claim}
use Rattle.txn_steps_views.specs.Readings.{said}
use Rattle.txn_steps_views.specs.Shortages.{IsShort, LacksAsWrite}
use Rattle.txn_steps_views.specs.ViewOps.{held}
use Rattle.txn_history.specs.declared.event.ViewCall.{ViewCall}
use Rattle.txn_history.specs.declared.event.ViewCall.TheVariants as view_calls
use Rattle.txn_history.specs.declared.event.Call.{Call}
use Rattle.txn_history.specs.declared.event.Call.TheVariants as any
use Rattle.txn_history.specs.declared.event.Answer.TheVariants as answers
use Rattle.txn_history.specs.Calls.{view_used}
use Rattle.txn_machine.specs.views.Layer as layer
use Rattle.txn_machine.specs.views.Layer.{Writes, Reads, Makes, Goes, Ends}
use Rattle.txn_machine.specs.views.Parts.{entered, denied, missed, refusing, claimed, attempted, written}
use Rattle.txn_machine.specs.views.Parts as parts
use Rattle.txn_machine.proofs.views.Inside.{inside}
use Rattle.txn_machine.specs.declared.doing.Doing.TheVariants as does
use Rattle.txn_machine.specs.declared.doing.Ending.TheVariants as endings
use Rattle.txn_machine.specs.Doing.{Next, ended, refused, view_next, goes_by, IsMadeSo}
use Rattle.txn_machine.specs.Doing as whole
use Rattle.txn_machine.proofs.Matched.{asked_of, IsAttempt, IsClaimRead, EndsAs, Answered, TurnsAs}
use Rattle.txn_machine.proofs.ReadsLeft.{left_by_refusal, left_as_refused, left_as_going}
use Rattle.txn_machine.proofs.EntryTurns.{Tells, refusal_closes}
use Rattle.txn_machine.proofs.Nexts.{write_goes, read_goes}

module _ {T : Type 0} where
  -- a claim that asks for this, at its attempt
  abbrev pub at_claim : Option ℕ → Claiming T → ViewOp T
  at_claim asked op = ops.Claims (as_claim asked op)

  abbrev pub wrapped : (Claiming T → ViewOp T) → Claiming T × Turned (Result (Outcome T) ℕ) → ViewOp T × Turned (Result (Outcome T) ℕ)
  wrapped as_op next = (as_op next.0, next.1)

  lacking_wrapped : (asked : Option ℕ) (lacks : Bool) (x : Claiming T × Turned (Result (Outcome T) ℕ)) →
      held ops.Claims (unless_lacking lacks (as_claim asked claiming.Ended) (as_claim asked x.0, x.1)) ≡ unless_lacking lacks (at_claim asked claiming.Ended) (wrapped (at_claim asked) x)
  lacking_wrapped asked true x = refl
  lacking_wrapped asked false x = refl

  -- the view is held
  holds_view : (call : Call T) (number id : ℕ) (value : T) (epoch : ℕ) → view_used call ≡ Some number → EndsAs call (answers.Held number id value epoch) (Makes id value epoch) (ended, Some (endings.Comes (outcomes.Held id value epoch)))
  holds_view call number id value epoch e = record {
    ending = endings.Comes (outcomes.Held id value epoch);
    ends = refl;
    answers = λ count. rw e;
    changes = refl;
    quiet = λ none client. absurd (cc);
  }

module _ {T : Type 0} (page : ℕ) (encode : T → List ℕ) (decode : List ℕ → Option T) (get_epoch : T → ℕ) (set_epoch : T → ℕ → T) where
  -- A claim: what the layer makes of the answers of its write and its read, and what its operation does then.
  pub record IsClaimCall (call : ViewCall T) (local asked : Option ℕ) : Type 0 where
    pub asks_so : asked_of (any.View call) ≡ Some asked
    pub wrote : (id : ℕ) (value : T) (epoch : ℕ) → Tells page encode decode get_epoch call local (entered (any.View call) id value epoch) (ended, Some (endings.Comes (outcomes.Held id value epoch)))
    pub refuses : (number : ℕ) → Tells page encode decode get_epoch call local (refusing (any.View call) number) (refused number)
    pub denies : (number : ℕ) → denied (any.View call) number ≡ (if◌then◌else◌ {A = layer.Next T} (number == 5) (Goes Reads) (refusing (any.View call) number))
    pub misses : missed (any.View call) ≡ refusing (any.View call) 7
    pub finds : (id : ℕ) (value : T) → parts.found get_epoch set_epoch (any.View call) local id value ≡ attempted get_epoch set_epoch (any.View call) asked id value

  module _ (call : ViewCall T) (local asked : Option ℕ) (facts : IsClaimCall call local asked) where
    abbrev as_op : Claiming T → ViewOp T
    as_op op = at_claim asked op

    -- its write, and its read
    attempt : (write : WriteOp) (value : T) (epoch : ℕ) → IsAttempt (claiming.Writes write value epoch) value epoch (doings.Write write)
    attempt write value epoch = record { write = write; attempt_is = refl; fine_is = refl }

    reading : (read : ReadOp T) → IsClaimRead (claiming.Reads read) (doings.Read read)
    reading read = record { read = read; attempt_is = refl; fine_is = refl }

    -- what the layer makes of an answer, memory aside, and what the claim does then
    abbrev pub Follows : layer.Next T → Next T → Type 0
    Follows makes next = Tells page encode decode get_epoch call local makes next

    -- it writes the value with this epoch, where there is a next id
    follows_entry : (full : Bool) (id : ℕ) (value : T) (epoch : ℕ) → (id == 18446744073709551615) ≡ full →
        IsMadeSo encode decode get_epoch (view_next (wrapped as_op (followed (if◌then◌else◌ {A = Result (Claiming T) ℕ} full (Err 10) (Ok (claiming.Writes (write_started world_names world_boundary (Some id) (encode value)) value epoch)))))).0 →
        Follows (if◌then◌else◌ {A = layer.Next T} full (refusing (any.View call) 10) (Goes (Writes id value epoch)))
        (view_next (wrapped as_op (followed (if◌then◌else◌ {A = Result (Claiming T) ℕ} full (Err 10) (Ok (claiming.Writes (write_started world_names world_boundary (Some id) (encode value)) value epoch))))))
    follows_entry true id value epoch e made = facts.refuses 10
    follows_entry false id value epoch e made =
        let write = write_started world_names world_boundary (Some id) (encode value) in
        (made.own, write_goes page encode decode get_epoch call local id value epoch (as_op (claiming.Writes write value epoch)) e made.reads_back (facts.asks_so, attempt write value epoch))

    -- it begins an attempt on a version, whose epoch decides which one is set
    pub follows_claim : (epoch : Result ℕ TransactionalObjectError) (id : ℕ) (value : T) →
        IsMadeSo encode decode get_epoch (view_next (wrapped as_op (followed (entered_with world_names world_boundary encode set_epoch epoch id value)))).0 →
        Follows (claimed set_epoch (any.View call) id value epoch) (view_next (wrapped as_op (followed (entered_with world_names world_boundary encode set_epoch epoch id value))))
    follows_claim (Ok epoch) id value made = follows_entry (id == 18446744073709551615) id (set_epoch value epoch) epoch refl made
    follows_claim (Err error) id value made = facts.refuses (error_number error)

    -- after a conflict it reads
    follows_conflict : (five : Bool) (number : ℕ) →
        Follows (if◌then◌else◌ {A = layer.Next T} five (Goes Reads) (refusing (any.View call) number))
        (view_next (wrapped as_op (if◌then◌else◌ {A = Claiming T × Turned (Result (Outcome T) ℕ)} five (claiming.Reads (read_started world_boundary), turns.Goes) (claiming.Ended, turns.Done (Err number)))))
    follows_conflict true number = (tt, read_goes page encode decode get_epoch call local (as_op (claiming.Reads (read_started world_boundary))) (facts.asks_so, reading (read_started world_boundary)))
    follows_conflict false number = facts.refuses number

    -- the attempt's write is answered
    attempt_answered : (base : ℕ) (value : T) (epoch : ℕ) (lacks : Bool) (x : WriteOp × Turned (Result ℕ ℕ)) → (lacks ≡ true → IsShort x.1) →
        Answered page encode decode get_epoch set_epoch (any.View call) local (Writes base value epoch) (plain.write_next {T = T} x).0 (plain.write_next {T = T} x).1 (view_next (unless_lacking lacks (as_op claiming.Ended) (wrapped as_op (attempt_turned world_boundary value epoch x))))
    attempt_answered base value epoch true (write, turns.Goes) short = absurd (short refl)
    attempt_answered base value epoch true (write, turns.Done (Ok id)) short = absurd (short refl)
    attempt_answered base value epoch true (write, turns.Done (Err number)) short = (refusing (any.View call) 9, refl, inr refl, (facts.refuses 9).0, (facts.refuses 9).1)
    attempt_answered base value epoch false (write, turns.Goes) short = (does.View (as_op (claiming.Writes write value epoch)), refl, (facts.asks_so, attempt write value epoch))
    attempt_answered base value epoch false (write, turns.Done (Ok id)) short = (entered (any.View call) id value epoch, refl, inl refl, (facts.wrote id value epoch).0, (facts.wrote id value epoch).1)
    attempt_answered base value epoch false (write, turns.Done (Err number)) short =
        let f = subst (λ (due : layer.Next T). Follows due (view_next (wrapped as_op (attempt_turned world_boundary value epoch (write, turns.Done (Err number)))))) (sym (facts.denies number)) (follows_conflict (number == 5) number) in
        (denied (any.View call) number, refl, inl refl, f.0, f.1)

    attempt_at : (base : ℕ) (value : T) (epoch : ℕ) (write : WriteOp) (caches : Caches) (reply : Option Reply) (lacks : Bool) → (lacks ≡ true → IsShort (write_turned write caches reply).1) →
        TurnsAs page encode decode get_epoch set_epoch (any.View call) local (Writes base value epoch) (does.View (as_op (claiming.Writes write value epoch))) (doings.Write write) caches reply
        (whole.turned page encode decode get_epoch set_epoch lacks (does.View (as_op (claiming.Writes write value epoch))) caches reply)
    attempt_at base value epoch write caches reply lacks short =
        let x = write_turned write caches reply in
        record {
          refused = lacks;
          after = plain.write_next x;
          turns = refl;
          answered = subst (λ (n : ViewOp T × Turned (Result (Outcome T) ℕ)). Answered page encode decode get_epoch set_epoch (any.View call) local (Writes base value epoch) (plain.write_next {T = T} x).0 (plain.write_next {T = T} x).1 (view_next n))
              (sym (lacking_wrapped asked lacks (attempt_turned world_boundary value epoch x))) (attempt_answered base value epoch lacks x short);
          leaves = refl;
        }

    -- its read found this
    follows_found : (found : Option (ℕ × T)) → IsMadeSo encode decode get_epoch (view_next (wrapped as_op (followed (attempted_again world_names world_boundary encode get_epoch set_epoch asked found)))).0 →
        Follows (parts.taken get_epoch set_epoch (any.View call) local Reads (inside (plain_answers.Read found))) (view_next (wrapped as_op (followed (attempted_again world_names world_boundary encode get_epoch set_epoch asked found))))
    follows_found None made = subst (λ (due : layer.Next T). Follows due (refused 7)) (sym facts.misses) (facts.refuses 7)
    follows_found (Some found) made =
        subst (λ (due : layer.Next T). Follows due (view_next (wrapped as_op (followed (attempted_again world_names world_boundary encode get_epoch set_epoch asked (Some found)))))) (sym (facts.finds found.0 found.1))
        (follows_claim (claimed_epoch asked (get_epoch found.1)) found.0 found.1 made)

    reading_answered : (lacks : Bool) (x : ReadOp T × Turned (ReadAnswer T)) →
        IsMadeSo encode decode get_epoch (view_next (unless_lacking lacks (as_op claiming.Ended) (wrapped as_op (refreshed_turned world_names world_boundary encode get_epoch set_epoch asked x)))).0 →
        Answered page encode decode get_epoch set_epoch (any.View call) local Reads (plain.or_no_memory lacks (plain.read_next x)).0 (plain.or_no_memory lacks (plain.read_next x)).1
        (view_next (unless_lacking lacks (as_op claiming.Ended) (wrapped as_op (refreshed_turned world_names world_boundary encode get_epoch set_epoch asked x))))
    reading_answered true x made = (refusing (any.View call) 9, refl, inl refl, (facts.refuses 9).0, (facts.refuses 9).1)
    reading_answered false (read, turns.Goes) made = (does.View (as_op (claiming.Reads read)), refl, (facts.asks_so, reading read))
    reading_answered false (read, turns.Done (Ok found)) made = let f = follows_found found made in (parts.taken get_epoch set_epoch (any.View call) local Reads (inside (plain_answers.Read found)), refl, inl refl, f.0, f.1)
    reading_answered false (read, turns.Done (Err number)) made = (refusing (any.View call) number, refl, inl refl, (facts.refuses number).0, (facts.refuses number).1)

    -- it goes on or is refused, and leaves the same of the caches as its read
    followed_left : (read : ReadOp T) (caches left : Caches) (next : Result (Claiming T) ℕ) → read_caches_after read caches turns.Goes ≡ left → read_caches_after read caches (turns.Done (Err 9)) ≡ left →
        read_caches_after read caches (said (goes_by (view_next (wrapped as_op (followed next))).1)) ≡ left
    followed_left read caches left (Ok op) going refusing = going
    followed_left read caches left (Err number) going refusing = refusing

    reading_leaves : (read : ReadOp T) (caches : Caches) (reply : Option Reply) (lacks : Bool) (x : ReadOp T × Turned (ReadAnswer T)) → x ≡ read_turned world_names world_boundary page decode read caches reply →
        read_caches_after read caches (said (goes_by (view_next (unless_lacking lacks (as_op claiming.Ended) (wrapped as_op (refreshed_turned world_names world_boundary encode get_epoch set_epoch asked x)))).1)) ≡ read_caches_after read caches (plain.said_of (plain.or_no_memory lacks (plain.read_next x)).1)
    reading_leaves read caches reply true x e = refl
    reading_leaves read caches reply false (next, turns.Goes) e = refl
    reading_leaves read caches reply false (next, turns.Done (Ok found)) e =
        followed_left read caches (read_caches_after read caches (turns.Done (Ok None))) (attempted_again world_names world_boundary encode get_epoch set_epoch asked found)
        (left_as_going world_names world_boundary page decode read caches reply next found e) (left_as_refused world_names world_boundary page decode read caches reply next found e)
    reading_leaves read caches reply false (next, turns.Done (Err number)) e = left_by_refusal read caches 9 number

    reading_at : (read : ReadOp T) (caches : Caches) (reply : Option Reply) (lacks : Bool) →
        IsMadeSo encode decode get_epoch (whole.turned page encode decode get_epoch set_epoch lacks (does.View (as_op (claiming.Reads read))) caches reply).0 →
        TurnsAs page encode decode get_epoch set_epoch (any.View call) local Reads (does.View (as_op (claiming.Reads read))) (doings.Read read) caches reply (whole.turned page encode decode get_epoch set_epoch lacks (does.View (as_op (claiming.Reads read))) caches reply)
    reading_at read caches reply lacks made =
        let x = read_turned world_names world_boundary page decode read caches reply in
        let after = plain.or_no_memory lacks (plain.read_next x) in
        let is = lacking_wrapped asked lacks (refreshed_turned world_names world_boundary encode get_epoch set_epoch asked x) in
        record {
          refused = lacks;
          after = after;
          turns = refl;
          answered = subst (λ (n : ViewOp T × Turned (Result (Outcome T) ℕ)). Answered page encode decode get_epoch set_epoch (any.View call) local Reads after.0 after.1 (view_next n)) (sym is)
              (reading_answered lacks x (subst (λ (n : ViewOp T × Turned (Result (Outcome T) ℕ)). IsMadeSo encode decode get_epoch (view_next n).0) is made));
          leaves = ap (λ (n : ViewOp T × Turned (Result (Outcome T) ℕ)). read_caches_after read caches (said (goes_by (view_next n).1))) is ∙ reading_leaves read caches reply lacks x refl;
        }

    pub attempt_turns : (base : ℕ) (value : T) (epoch : ℕ) (op : Claiming T) (fine : PlainDoing T) (caches : Caches) (reply : Option Reply) (lacks : Bool) → IsAttempt op value epoch fine → LacksAsWrite op caches reply lacks →
        TurnsAs page encode decode get_epoch set_epoch (any.View call) local (Writes base value epoch) (does.View (as_op op)) fine caches reply (whole.turned page encode decode get_epoch set_epoch lacks (does.View (as_op op)) caches reply)
    attempt_turns base value epoch op fine caches reply lacks m may =
        subst (λ (f : PlainDoing T). TurnsAs page encode decode get_epoch set_epoch (any.View call) local (Writes base value epoch) (does.View (as_op op)) f caches reply (whole.turned page encode decode get_epoch set_epoch lacks (does.View (as_op op)) caches reply)) (sym m.fine_is)
        (subst (λ (o : Claiming T). TurnsAs page encode decode get_epoch set_epoch (any.View call) local (Writes base value epoch) (does.View (as_op o)) (doings.Write m.write) caches reply (whole.turned page encode decode get_epoch set_epoch lacks (does.View (as_op o)) caches reply)) (sym m.attempt_is)
        (attempt_at base value epoch m.write caches reply lacks (subst (λ (o : Claiming T). LacksAsWrite o caches reply lacks) m.attempt_is may)))

    pub reading_turns : (op : Claiming T) (fine : PlainDoing T) (caches : Caches) (reply : Option Reply) (lacks : Bool) → IsClaimRead op fine →
        ((read : ReadOp T) → op ≡ claiming.Reads read → IsMadeSo encode decode get_epoch (whole.turned page encode decode get_epoch set_epoch lacks (does.View (as_op op)) caches reply).0) →
        TurnsAs page encode decode get_epoch set_epoch (any.View call) local Reads (does.View (as_op op)) fine caches reply (whole.turned page encode decode get_epoch set_epoch lacks (does.View (as_op op)) caches reply)
    reading_turns op fine caches reply lacks m made =
        subst (λ (f : PlainDoing T). TurnsAs page encode decode get_epoch set_epoch (any.View call) local Reads (does.View (as_op op)) f caches reply (whole.turned page encode decode get_epoch set_epoch lacks (does.View (as_op op)) caches reply)) (sym m.fine_is)
        (subst (λ (o : Claiming T). TurnsAs page encode decode get_epoch set_epoch (any.View call) local Reads (does.View (as_op o)) (doings.Read m.read) caches reply (whole.turned page encode decode get_epoch set_epoch lacks (does.View (as_op o)) caches reply)) (sym m.attempt_is)
        (reading_at m.read caches reply lacks
        (subst (λ (o : Claiming T). IsMadeSo encode decode get_epoch (whole.turned page encode decode get_epoch set_epoch lacks (does.View (as_op o)) caches reply).0) m.attempt_is (made m.read m.attempt_is))))

  -- the claim of the next epoch, and that of an epoch that is asked for
  pub claim_call : (call : ViewCall T) (local asked : Option ℕ) → asked_of (any.View call) ≡ Some asked → IsClaimCall call local asked
  claim_call (view_calls.Claim number) local asked e = subst (IsClaimCall (view_calls.Claim number) local) (same_Some None asked e) (record {
    asks_so = refl;
    wrote = λ id value epoch. (tt, holds_view (any.View (view_calls.Claim number)) number id value epoch refl);
    refuses = λ n. (tt, refusal_closes (any.View (view_calls.Claim number)) n refl);
    denies = λ n. refl;
    misses = refl;
    finds = λ id value. refl;
  })
  claim_call (view_calls.ClaimAt number sought) local asked e = subst (IsClaimCall (view_calls.ClaimAt number sought) local) (same_Some (Some sought) asked e) (record {
    asks_so = refl;
    wrote = λ id value epoch. (tt, holds_view (any.View (view_calls.ClaimAt number sought)) number id value epoch refl);
    refuses = λ n. (tt, refusal_closes (any.View (view_calls.ClaimAt number sought)) n refl);
    denies = λ n. refl;
    misses = refl;
    finds = λ id value. refl;
  })
  claim_call call local asked e = absurd (cc)
