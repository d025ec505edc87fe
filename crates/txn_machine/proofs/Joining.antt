-- Every state that events lead to is joined with a machine of plain calls and with a layer of views.
use Rattle.std.proofs.Common.{◌≡◌, ℕ, zero, suc, ◌≤◌, List, [], Option, Some, None, inl, inr, refl, sym, ap, subst, arith}
use Rattle.txn_history.specs.declared.event.EventFault.TheVariants as faults
use Rattle.txn_history.specs.declared.event.EventOf.TheVariants as events
use Rattle.txn_history.specs.Lists.{numbered}
use Rattle.txn_history.specs.Allowed.{is_client}
use Rattle.txn_machine.specs.plain.Machine as machine
use Rattle.txn_machine.proofs.plain.World as machine_world
use Rattle.txn_machine.proofs.plain.World.{client_within, tested}
use Rattle.txn_history.specs.Trace.{Event, Told}
use Rattle.txn_machine.specs.views.Layer as layer
use Rattle.txn_machine.specs.views.Layer.{Used, Layer}
use Rattle.txn_machine.proofs.views.Goes.{same_goes}
use Rattle.txn_machine.proofs.views.Runs as layer_runs
use Rattle.txn_machine.proofs.views.Tied.{tied_first}
use Rattle.txn_machine.specs.declared.doing.Operation.{Operation}
use Rattle.txn_machine.specs.Machine.{State, opening, used_in, TakesOrLacks, IsReached}
use Rattle.txn_machine.proofs.Joined.{Past, At, Joined}
use Rattle.txn_machine.proofs.Runs.{opening_reached, taken_reached_or_lacking, runs_keep}
use Rattle.txn_machine.proofs.Busy.{reached_busy}
use Rattle.txn_machine.proofs.Serving.{look_joins, serve_joins}
use Rattle.txn_machine.proofs.GivingUp.{give_up_joins, land_joins}
use Rattle.txn_machine.proofs.Failing.{fail_joins}
use Rattle.txn_machine.proofs.Lacking.{lacks_joins}
use Rattle.txn_machine.proofs.Crashing.{crash_joins}
use Rattle.txn_machine.proofs.Beginning.{begin_joins}

-- before anything was made
abbrev pub nothing : {T : Type 0} → Past T
nothing = record { views = λ number. None; count = 0 }

none_numbered : {A P : Type 0} (n : ℕ) (x : A) → numbered [] n ≡ Some x → P
none_numbered zero x e = cc
none_numbered (suc n) x e = cc

no_number : {A : Type 0} (n : ℕ) → numbered {A = A} [] n ≡ None
no_number zero = refl
no_number (suc n) = refl

module _ {T : Type 0} (encode : T → List ℕ) (decode : List ℕ → Option T) (get_epoch : T → ℕ) (set_epoch : T → ℕ → T) where
  opening_joins : (clients page : ℕ) → 1 ≤ page → Joined decode get_epoch set_epoch nothing (opening clients page)
  opening_joins clients page room =
      record {
        fine = machine.opening clients page;
        l = layer.opening;
        owner = λ n. n;
        now = λ n. n;
        stands = machine_world.opening_stands encode decode get_epoch clients page room;
        over = layer_runs.opening_stands decode get_epoch set_epoch;
        tie = record { clients = refl; page = refl; store = refl; rows = refl; failed = refl; views = λ m. sym (ap used_in (no_number m)); count = refl; next = refl };
        goes = λ number le. refl;
        grown = omega arith;
        caches = refl;
        core = record { tied = tied_first (λ n. n); told = λ test e. cc; seen = λ number. tt; noted = λ n e. cc };
        rest = record {
          each = λ op. subst (λ (x : Option (Operation T)). At decode get_epoch [] [] [] (λ n. n) (λ n. n) (λ o. None) (λ v. None) [] op x) (sym (no_number op)) refl;
          loose = λ k op request e. none_numbered k (op, request) e;
        };
      }

  -- an event keeps a world joined
  pub takes_joins : (past : Past T) (old : State T) (event : Event T) (said : Told T) (new : State T) → IsReached encode decode get_epoch set_epoch old → TakesOrLacks encode decode get_epoch set_epoch old event said new → Joined decode get_epoch set_epoch past old → Joined decode get_epoch set_epoch past new
  takes_joins past old (events.Begin client call) said new r t j = begin_joins encode decode get_epoch set_epoch past old j (λ number used there. reached_busy encode decode get_epoch set_epoch old r number used there) client call said new t.allowed t.step
  takes_joins past old (events.Look op) said new r t j = look_joins encode decode get_epoch set_epoch past old j op said new t.step
  takes_joins past old (events.Serve op) said new r t j = elim t.step [ inl v ↦ serve_joins encode decode get_epoch set_epoch past old j op said new v | inr v ↦ lacks_joins encode decode get_epoch set_epoch past old j op said new v ]
  takes_joins past old (events.Fail op failure) said new r t j = fail_joins encode decode get_epoch set_epoch past old j op said new failure t.step
  takes_joins past old (events.GiveUp op) said new r t j = give_up_joins encode decode get_epoch set_epoch past old j op said new t.step
  takes_joins past old (events.Land k) said new r t j = land_joins encode decode get_epoch set_epoch past old j k said new t.step
  takes_joins past old (events.Crash client) said new r t j = crash_joins encode decode get_epoch set_epoch past old j client (client_within old.clients client (tested (is_client old.clients client) faults.UnknownNumber t.allowed)).0 said new t.step

  -- and so does every run
  pub reached_joins : (s : State T) → IsReached encode decode get_epoch set_epoch s → Joined decode get_epoch set_epoch nothing s
  reached_joins s r =
      (runs_keep encode decode get_epoch set_epoch (λ x. IsReached encode decode get_epoch set_epoch x × Joined decode get_epoch set_epoch nothing x)
      (λ old event said new h t. (taken_reached_or_lacking encode decode get_epoch set_epoch old event said new h.0 t, takes_joins nothing old event said new h.0 t h.1))
      (opening s.clients s.page) r.0 s r.1 (opening_reached encode decode get_epoch set_epoch s.clients s.page r.2, opening_joins s.clients s.page r.2)).1

  -- the same, from here on
  abbrev pub from_here : (past : Past T) (s : State T) → Joined decode get_epoch set_epoch past s → Past T
  from_here past s j = record { views = j.l.views; count = j.l.count }

  pub begins_again : (past : Past T) (s : State T) (j : Joined decode get_epoch set_epoch past s) → Joined decode get_epoch set_epoch (from_here past s j) s
  begins_again past s j =
      record { fine = j.fine; l = j.l; owner = j.owner; now = j.now; stands = j.stands; over = j.over; tie = j.tie; goes = λ number le. same_goes (j.l.views number); grown = omega arith; caches = j.caches; core = j.core; rest = record { each = j.rest.each; loose = j.rest.loose } }
