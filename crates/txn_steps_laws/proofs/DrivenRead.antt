-- A read of the newest version that runs alone from its start: what it leaves.
use Rattle.std.proofs.Common.{◌≡◌, ◌==◌, ℕ, ◌+◌, ◌*◌, ◌<◌, ◌≤◌, ◌^◌, Bool, true, false, if◌then◌else◌, List, [], Option, Some, None, IfSome, Result, Ok, Err, refl, sym, ap, subst, ◌∙◌, inl, arith}
use Rattle.std.proofs.lemmas.Bool.{eqb-true}
use Rattle.txn_store.specs.Paths.{Segments}
use Rattle.txn_store.specs.VersionName.{Names}
use Rattle.txn_store.specs.Store.{State}
use Rattle.txn_store.specs.declared.request.Reply.{Reply}
use Rattle.txn_store.specs.types.Errors.{error_number}
use Rattle.txn_store.specs.declared.types.error.TransactionalObjectError.{TransactionalObjectError}
use Rattle.txn_store.specs.declared.types.error.TransactionalObjectError.TheVariants as kinds
use Rattle.txn_steps.specs.boundary.Asking.{reply_told, unless_lacking}
use Rattle.txn_steps.specs.boundary.Checks.{check_started, check_of_read, check_asked, check_turned, check_caches}
use Rattle.txn_steps.specs.boundary.Steps.{turned_by_number, lacks_memory, TellsErrorOf}
use Rattle.txn_steps.specs.boundary.Windows.{Ascends, greatest_held}
use Rattle.txn_steps.specs.declared.boundary.boundary_read.BoundaryRead.{BoundaryRead}
use Rattle.txn_steps.specs.declared.boundary.boundary_read.BoundaryRead.TheVariants as boundary
use Rattle.txn_steps.specs.declared.boundary.caches.Caches.{Caches}
use Rattle.txn_steps.specs.declared.boundary.check.CheckOp.{CheckOp}
use Rattle.txn_steps.specs.declared.boundary.turned.Turned.{Turned}
use Rattle.txn_steps.specs.declared.boundary.turned.Turned.TheVariants.{Goes, Done}
use Rattle.txn_steps.specs.declared.latest.LatestOp.{LatestOp}
use Rattle.txn_steps.specs.declared.latest.LatestOp.TheVariants as latest
use Rattle.txn_steps.specs.declared.read.ReadOp.{ReadOp}
use Rattle.txn_steps.specs.declared.read.ReadOp.TheVariants.{Reads, Checks, Ended}
use Rattle.txn_steps.specs.Latest.{ReadAnswer, latest_asked, latest_turned, latest_window_after}
use Rattle.txn_steps.specs.Reads.{read_started, read_asked, read_turned, read_caches_after, reads_turned, checks_turned}
use Rattle.txn_steps_driven.specs.Asked.{Replies}
use Rattle.txn_steps_driven.specs.Checking.{Checked, Unbounded}
use Rattle.txn_steps_driven.specs.DriveRuns.{Scene, GoesOn, Drives}
use Rattle.txn_steps_driven.specs.DriveSteps.{with_latest, LatestSteps, CheckSteps, ReadSteps}
use Rattle.txn_steps_laws.specs.DrivenChecks.{checked_latest}
use Rattle.txn_steps_laws.specs.DrivenReads.{AllStand, ReadEnds, ReadDriven}
use Rattle.txn_steps_driven.specs.LatestReads.{IsHeldOrStored}
use Rattle.txn_steps_driven.specs.PageCount.{pages_below}
use Rattle.txn_steps_driven.proofs.DriveLemmas.{after_steps, Since, since_now, since_goes}
use Rattle.txn_steps_laws.proofs.DrivenCheck.{Between, check_driven, check_between}
use Rattle.txn_steps_laws.proofs.DrivenLatest.{latest_driven}
use Rattle.txn_steps_laws.proofs.DrivenPasses.{cause_of_check, check_reads_none, found_leaves, Began, Found, found, early_pass, ends_unchecked, check_fails, accepts, restarts}
use Rattle.txn_steps_driven.proofs.LatestWindows.{every_if}
use Rattle.txn_steps_driven.proofs.Refusals.{error_is}
use Rattle.txn_steps_driven.proofs.Standings.{none_above}

-- what a check is, and what it told
abbrev told_of : CheckOp → Turned (Result (Unit {0}) ℕ) → CheckOp × Turned (Result (Unit {0}) ℕ)
told_of op told = (op, told)

module _ {T : Type 0} (names : Names) (path : Segments) (page : ℕ) (room : 1 ≤ page) (decode : List ℕ → Option T) (a : Scene (ReadOp T)) where
  abbrev LSteps : Scene (LatestOp T) → Turned (Result (Option (ℕ × T)) TransactionalObjectError) → Scene (LatestOp T) → Type 0
  LSteps = LatestSteps names page decode

  abbrev reading : Scene (ReadOp T) → LatestOp T → Scene (LatestOp T)
  reading s op = record { op = op; caches = s.caches; store = s.store }

  abbrev checking : Scene (ReadOp T) → CheckOp → Scene CheckOp
  checking s op = record { op = op; caches = s.caches; store = s.store }

  abbrev check_begun : Scene (LatestOp T) → ℕ → Scene CheckOp
  check_begun m id = record { op = check_started path id; caches = m.caches; store = m.store }

  abbrev pages : ℕ
  pages = pages_below names page a.store.files

  abbrev PassBegan : ℕ → Scene (LatestOp T) → Type 0
  PassBegan = Began names path page room decode a

  abbrev PassFound : ℕ → Scene (LatestOp T) → Result (Option (ℕ × T)) TransactionalObjectError → State → Caches → Type 0
  PassFound = Found names path page room decode a

  -- where it is

  -- it reads unchecked
  record AtReads (n : ℕ) (b : Scene (ReadOp T)) (op : LatestOp T) (read : BoundaryRead) : Type 0 where
    before : ℕ
    s : Scene (LatestOp T)
    began : PassBegan before s
    since : Since LSteps s before n (reading b op)
    read_is : read ≡ boundary.Looks path

  -- it checks what it found
  record AtChecks (n : ℕ) (b : Scene (ReadOp T)) (id : ℕ) (value : T) (check : CheckOp) : Type 0 where
    before : ℕ
    s : Scene (LatestOp T)
    began : PassBegan before s
    m : Scene (LatestOp T)
    found : PassFound before s (Ok (Some (id, value))) m.store m.caches
    k : ℕ
    few : k < 15 + pages
    since : Since CheckSteps (check_begun m id) (before + k + 1) n (checking b check)

  abbrev At : ℕ → Scene (ReadOp T) → ReadOp T → Type 0
  At n b (Reads op read) = AtReads n b op read
  At n b (Checks id value check) = AtChecks n b id value check
  At n b Ended = ⊥

  abbrev After : ℕ → Scene (ReadOp T) → Turned (Result (Option (ℕ × T)) TransactionalObjectError) → Type 0
  After n c Goes = At (n + 1) c c.op
  After n c (Done answer) = ReadEnds names decode path page a c answer

  abbrev pair : LatestOp T → Turned (ReadAnswer T) → LatestOp T × Turned (ReadAnswer T)
  pair op told = (op, told)

  few_reads : (before : ℕ) (s w : Scene (LatestOp T)) (k : ℕ) → PassBegan before s → GoesOn LSteps k s w → k < 15 + pages
  few_reads before s w k began on = subst (λ f. k < 15 + pages_below names page f) began.leaves.kept.files (latest_driven names page room decode s began.is began.ascends began.small k None w on)

  few_checks : (m : Scene (LatestOp T)) (id : ℕ) (w : Scene CheckOp) (j : ℕ) → GoesOn CheckSteps j (check_begun m id) w → j < 5
  few_checks m id w j on = check_driven path id (check_begun m id) refl j None w on

  module _ (n : ℕ) (b c : Scene (ReadOp T)) (reply : Option Reply) where
    module _ (op : LatestOp T) (read : BoundaryRead) (at : AtReads n b op read) (served : Replies (latest_asked op) b.store reply c.store) where
      abbrev makes : LatestOp T × Turned (ReadAnswer T)
      makes = latest_turned names page decode op b.caches.latest reply

      inner : (op' : LatestOp T) (told : Turned (Result (Option (ℕ × T)) TransactionalObjectError)) → pair op' (turned_by_number told) ≡ unless_lacking (lacks_memory (turned_by_number told)) op makes → c.caches ≡ with_latest (latest_window_after op b.caches.latest (turned_by_number told)) b.caches → TellsErrorOf (reply_told reply) told → LSteps (reading b op) told (reading c op')
      inner op' told takes leaves tells = record { reply = reply; replies = served; takes = takes; leaves = leaves; error = tells }

      stops : (op' : LatestOp T) (answer : Result (Option (ℕ × T)) TransactionalObjectError) → LSteps (reading b op) (Done answer) (reading c op') → PassFound at.before at.s answer c.store c.caches
      stops op' answer step = found names path page room decode a at.before at.s (reading c op') answer at.since.k (reading b op) at.began at.since.on step

      chooses : (op' : LatestOp T) (id : ℕ) (value : T) → LSteps (reading b op) (Done (Ok (Some (id, value)))) (reading c op') → AtChecks (n + 1) c id value (check_of_read id read)
      chooses op' id value step =
          let count = at.since.count in
          record {
            before = at.before;
            s = at.s;
            began = at.began;
            m = reading c op';
            found = stops op' (Ok (Some (id, value))) step;
            k = at.since.k;
            few = few_reads at.before at.s (reading b op) at.since.k at.began at.since.on;
            since = record { k = 0; on = ap (λ r. checking c (check_of_read id r)) at.read_is; count = omega (arith, count) };
          }

      read_fails : (x : LatestOp T × Turned (ReadAnswer T)) (error : TransactionalObjectError) (t : Bool) → (error_number error == 9) ≡ t → x ≡ makes → (c.op, Done (Err (error_number error))) ≡ unless_lacking t (Reads op read) (reads_turned read x) → c.caches ≡ with_latest (latest_window_after op b.caches.latest (Done (Err (error_number error)))) b.caches → TellsErrorOf {A = Option (ℕ × T)} (reply_told reply) (Done (Err error)) → PassFound at.before at.s (Err error) c.store c.caches
      read_fails x error true is made takes leaves tells =
          let nine : error_number error ≡ 9 = eqb-true (error_number error) 9 is in
          stops op (Err error) (inner op (Done (Err error)) (ap (λ k. pair op (Done (Err k))) nine ∙ sym (ap (λ t. unless_lacking t op makes) is)) leaves tells)
      read_fails (op', Goes) error false is made takes leaves tells = let e = ap (λ p. p.1) takes in absurd (cc)
      read_fails (op', Done (Ok None)) error false is made takes leaves tells = let e = ap (λ p. p.1) takes in absurd (cc)
      read_fails (op', Done (Ok (Some found))) error false is made takes leaves tells = let e = ap (λ p. p.1) takes in absurd (cc)
      read_fails (op', Done (Err number)) error false is made takes leaves tells =
          stops op' (Err error) (inner op' (Done (Err error)) ((ap (λ p. pair op' p.1) takes ∙ made) ∙ sym (ap (λ t. unless_lacking t op makes) is)) leaves tells)

      reads_by : (x : LatestOp T × Turned (ReadAnswer T)) (told : Turned (Result (Option (ℕ × T)) TransactionalObjectError)) → x ≡ makes → (c.op, turned_by_number told) ≡ unless_lacking (lacks_memory (turned_by_number told)) (Reads op read) (reads_turned read x) → c.caches ≡ read_caches_after (Reads op read) b.caches (turned_by_number told) → TellsErrorOf (reply_told reply) told → After n c told
      reads_by (op', Goes) Goes made takes leaves tells =
          subst (At (n + 1) c) (sym (ap (λ p. p.0) takes)) (record { before = at.before; s = at.s; began = at.began; since = since_goes LSteps at.s (reading b op) (reading c op') at.before n at.since (inner op' Goes made leaves tt); read_is = at.read_is })
      reads_by (op', Done (Ok (Some found))) Goes made takes leaves tells =
          subst (At (n + 1) c) (sym (ap (λ p. p.0) takes))
          (chooses op' found.0 found.1 (inner op' (Done (Ok (Some (found.0, found.1)))) made (leaves ∙ ap (λ l. with_latest l b.caches) (found_leaves op b.caches.latest (Some (found.0, found.1)))) tt))
      reads_by (op', Done answer) Goes made takes leaves tells = let e = ap (λ p. p.1) takes in absurd (cc)
      reads_by (op', Done (Ok None)) (Done (Ok None)) made takes leaves tells =
          ends_unchecked names path page room decode a at.before at.s c (Ok None) (λ h n answers. answers.0) (λ n stood. tt) (stops op' (Ok None) (inner op' (Done (Ok None)) made leaves tt))
      reads_by (op', Goes) (Done (Ok answer)) made takes leaves tells = let e = ap (λ p. p.1) takes in absurd (cc)
      reads_by (op', Done (Ok None)) (Done (Ok (Some found))) made takes leaves tells = let e = ap (λ p. p.1) takes in absurd (cc)
      reads_by (op', Done (Ok (Some found))) (Done (Ok answer)) made takes leaves tells = let e = ap (λ p. p.1) takes in absurd (cc)
      reads_by (op', Done (Err number)) (Done (Ok answer)) made takes leaves tells = let e = ap (λ p. p.1) takes in absurd (cc)
      reads_by x (Done (Err error)) made takes leaves tells =
          ends_unchecked names path page room decode a at.before at.s c (Err error) (λ h n answers. tt) tt (read_fails x error (error_number error == 9) refl made takes leaves tells)

    module _ (id : ℕ) (value : T) (check : CheckOp) (at : AtChecks n b id value check) (served : Replies (check_asked check) b.store reply c.store) (leaves : c.caches ≡ check_caches check b.caches) where
      between : Between path id (check_begun at.m id) c.store c.caches
      between = check_between path id (check_begun at.m id) refl at.since.k (checking b check) reply c.store c.caches at.since.on served leaves

      one : (check' : CheckOp) (told : Turned (Result (Unit {0}) TransactionalObjectError)) → (check', turned_by_number told) ≡ check_turned check b.caches reply → TellsErrorOf (reply_told reply) told → CheckSteps (checking b check) told (checking c check')
      one check' told takes tells = record { reply = reply; replies = served; takes = takes; leaves = leaves; error = tells }

      ended : (check' : CheckOp) (answer : Result (Unit {0}) TransactionalObjectError) → CheckSteps (checking b check) (Done answer) (checking c check') → Checked path id at.m.store c.store at.m.caches.boundary c.caches.boundary answer × (c.caches.latest ≡ checked_latest id answer at.m.caches.latest)
      ended check' answer step = check_driven path id (check_begun at.m id) refl (at.since.k + 1) (Some answer) (checking c check') (at.since.k, checking b check, omega arith, at.since.on, step)

      refused : (check' : CheckOp) → (check', Done (Err 5)) ≡ check_turned check b.caches reply → c.op ≡ read_started path → At (n + 1) c c.op
      refused check' turned is =
          let e = ended check' (Err kinds.ObjectVersionExists) (one check' (Done (Err kinds.ObjectVersionExists)) turned tt) in
          let empty : c.caches.latest ≡ [] = e.1 ∙ none_above id at.m.caches.latest at.found.answers.1 in
          let count = at.since.count in
          let few = at.few in
          let soon = few_checks at.m id (checking b check) at.since.k at.since.on in
          subst (At (n + 1) c) (sym is) (record {
            before = n + 1;
            s = reading c latest.Looks;
            began = restarts names path page room decode a at.before at.s at.m id value at.found c between (λ k stands. e.0.fenced refl k stands) empty (n + 1) (omega (arith, count, few, soon));
            since = since_now LSteps (reading c latest.Looks) (n + 1);
            read_is = refl;
          })

      fails : (check' : CheckOp) (error : TransactionalObjectError) → (error_number error ≡ 5 → ⊥) → CheckSteps (checking b check) (Done (Err error)) (checking c check') → ReadEnds names decode path page a c (Err error)
      fails check' error other step =
          let e = ended check' (Err error) step in
          check_fails names path page room decode a at.before at.s at.m id value at.found c between error
          (cause_of_check (Unbounded path at.m.caches.boundary at.m.store) (Unbounded path a.caches.boundary a.store) a.store at.m.store c.store error at.found.leaves.failures_rise (λ none k stood. none k (at.found.leaves.bounded k stood)) other e.0.cause)
          (check_reads_none (Unbounded path at.m.caches.boundary at.m.store) at.m.store c.store error e.0.cause)

      lacks : (error : TransactionalObjectError) → error_number error ≡ 9 → ReadEnds names decode path page a c (Err error)
      lacks error nine = subst (λ e. ReadEnds names decode path page a c (Err e)) (sym (error_is kinds.NoMemory error tt nine)) (check_fails names path page room decode a at.before at.s at.m id value at.found c between kinds.NoMemory tt (λ is. omega (arith, is)))

      abbrev ended_as : Bool → CheckOp → ℕ → ReadOp T × Turned (ReadAnswer T)
      ended_as t k number = if t then (read_started path, Goes) else (Checks id value k, Done (Err number))

      refuses : (k : CheckOp) (number : ℕ) (t : Bool) → (number == 5) ≡ t → (k, Done (Err number)) ≡ check_turned check b.caches reply → (c.op, Goes) ≡ ended_as t k number → At (n + 1) c c.op
      refuses k number true is turned takes = refused k (ap (λ (e : ℕ). told_of k (Done (Err e))) (sym (eqb-true number 5 is)) ∙ turned) (ap (λ p. p.0) takes)
      refuses k number false is turned takes = let e = ap (λ p. p.1) takes in absurd (cc)

      never_answers : (k : CheckOp) (number : ℕ) (t : Bool) (answer : Option (ℕ × T)) → (c.op, Done (Ok answer)) ≡ ended_as t k number → ⊥
      never_answers k number true answer takes = let e = ap (λ p. p.1) takes in cc
      never_answers k number false answer takes = let e = ap (λ p. p.1) takes in cc

      errs : (k : CheckOp) (number : ℕ) (t : Bool) (error : TransactionalObjectError) → (number == 5) ≡ t → (k, Done (Err number)) ≡ check_turned check b.caches reply → (c.op, Done (Err (error_number error))) ≡ ended_as t k number → TellsErrorOf {A = Unit {0}} (reply_told reply) (Done (Err error)) → ReadEnds names decode path page a c (Err error)
      errs k number true error is turned takes tells = let e = ap (λ p. p.1) takes in absurd (cc)
      errs k number false error is turned takes tells =
          let e = ap (λ p. p.1) takes in
          let same : error_number error ≡ number = cc in
          fails k error (λ five. (let at : (number == 5) ≡ true = ap (λ n. n == 5) (sym same ∙ five) in absurd (cc (at, is)))) (one k (Done (Err error)) (ap (λ (e : ℕ). told_of k (Done (Err e))) same ∙ turned) tells)

      by_error : (x : CheckOp × Turned (Result (Unit {0}) ℕ)) (error : TransactionalObjectError) (t : Bool) → (error_number error == 9) ≡ t → x ≡ check_turned check b.caches reply → (c.op, Done (Err (error_number error))) ≡ unless_lacking t (Checks id value check) (checks_turned path id value x) → TellsErrorOf {A = Unit {0}} (reply_told reply) (Done (Err error)) → ReadEnds names decode path page a c (Err error)
      by_error x error true is turned takes tells = lacks error (eqb-true (error_number error) 9 is)
      by_error (k, Goes) error false is turned takes tells = let e = ap (λ p. p.1) takes in absurd (cc)
      by_error (k, Done (Ok accepted)) error false is turned takes tells = let e = ap (λ p. p.1) takes in absurd (cc)
      by_error (k, Done (Err number)) error false is turned takes tells = errs k number (number == 5) error refl turned takes tells

      checks_by : (x : CheckOp × Turned (Result (Unit {0}) ℕ)) (told : Turned (Result (Option (ℕ × T)) TransactionalObjectError)) → x ≡ check_turned check b.caches reply → (c.op, turned_by_number told) ≡ unless_lacking (lacks_memory (turned_by_number told)) (Checks id value check) (checks_turned path id value x) → TellsErrorOf (reply_told reply) told → After n c told
      checks_by (k, Goes) Goes turned takes tells =
          subst (At (n + 1) c) (sym (ap (λ p. p.0) takes)) (record { before = at.before; s = at.s; began = at.began; m = at.m; found = at.found; k = at.k; few = at.few; since = since_goes CheckSteps (check_begun at.m id) (checking b check) (checking c k) (at.before + at.k + 1) n at.since (one k Goes turned tt) })
      checks_by (k, Goes) (Done (Ok answer)) turned takes tells = let e = ap (λ p. p.1) takes in absurd (cc)
      checks_by (k, Done (Ok accepted)) Goes turned takes tells = let e = ap (λ p. p.1) takes in absurd (cc)
      checks_by (k, Done (Ok accepted)) (Done (Ok answer)) turned takes tells =
          let e = ended k (Ok accepted) (one k (Done (Ok accepted)) turned tt) in
          let told = ap (λ p. p.1) takes in
          let same : answer ≡ Some (id, value) = cc in
          subst (λ r. ReadEnds names decode path page a c (Ok r)) (sym same) (accepts names path page room decode a at.before at.s at.m id value at.found c between e.0.above e.1)
      checks_by (k, Done (Err number)) Goes turned takes tells = refuses k number (number == 5) refl turned takes
      checks_by (k, Done (Err number)) (Done (Ok answer)) turned takes tells = absurd (never_answers k number (number == 5) answer takes)
      checks_by x (Done (Err error)) turned takes tells = by_error x error (error_number error == 9) refl turned takes tells

    by_op : (op : ReadOp T) (told : Turned (Result (Option (ℕ × T)) TransactionalObjectError)) → At n b op → Replies (read_asked op) b.store reply c.store → (c.op, turned_by_number told) ≡ unless_lacking (lacks_memory (turned_by_number told)) op (read_turned names path page decode op b.caches reply) → c.caches ≡ read_caches_after op b.caches (turned_by_number told) → TellsErrorOf (reply_told reply) told → After n c told
    by_op (Reads op read) told at served takes leaves tells = reads_by op read at served (latest_turned names page decode op b.caches.latest reply) told refl takes leaves tells
    by_op (Checks id value check) told at served takes leaves tells = checks_by id value check at served leaves (check_turned check b.caches reply) told refl takes tells
    by_op Ended told at served takes leaves tells = absurd at

  stepped : (n : ℕ) (b c : Scene (ReadOp T)) (told : Turned (Result (Option (ℕ × T)) TransactionalObjectError)) → At n b b.op → ReadSteps names path page decode b told c → After n c told
  stepped n b c told at step = by_op n b c step.reply b.op told at step.replies step.takes step.leaves step.error

  module _ (starts : a.op ≡ read_started path) (ascending : Ascends a.caches.latest) (small : IfSome (greatest_held a.caches.latest) (λ version. version.id < 2 ^ 64)) where
    begins : AtReads 0 a latest.Looks (boundary.Looks path)
    begins = record {
      before = 0;
      s = reading a latest.Looks;
      began = record {
        is = refl;
        leaves = record {
          kept = record { files = refl; given = refl; left = refl };
          calls_rise = omega arith;
          failures_rise = omega arith;
          held = every_if (IsHeldOrStored names a.store.files a.caches.latest) a.caches.latest (λ version one. inl one);
          bounded = λ n stood. stood;
        };
        ascends = ascending;
        small = small;
        stands = λ h n stood. (stood, inl (refl, refl));
      };
      since = since_now LSteps (reading a latest.Looks) 0;
      read_is = refl;
    }

    read_on : (n : ℕ) (b : Scene (ReadOp T)) → GoesOn (ReadSteps names path page decode) n a b → At n b b.op
    read_on = after_steps (ReadSteps names path page decode) (λ n b. At n b b.op) a (subst (At 0 a) (sym starts) begins) (λ n b c at step. stepped n b c Goes at step)

    soon : (n : ℕ) (b : Scene (ReadOp T)) (op : ReadOp T) → At n b op → (h : List T) (k : ℕ) → AllStand names decode path a.store a.caches h k → n < 40 + 2 * pages
    soon n b (Reads op read) at h k stood =
        let few = few_reads at.before at.s (reading b op) at.since.k at.began at.since.on in
        let count = at.since.count in
        let early = early_pass names path page room decode a at.before at.s (at.began.stands h k stood).1 in
        omega (arith, few, count, early)
    soon n b (Checks id value check) at h k stood =
        let few = at.few in
        let fewer = few_checks at.m id (checking b check) at.since.k at.since.on in
        let count = at.since.count in
        let early = early_pass names path page room decode a at.before at.s (at.began.stands h k stood).1 in
        omega (arith, few, fewer, count, early)
    soon n b Ended at h k stood = absurd at

    pub read_driven : (steps : ℕ) (result : Option (Result (Option (ℕ × T)) TransactionalObjectError)) (b : Scene (ReadOp T)) → Drives (ReadSteps names path page decode) steps a result b → ReadDriven names decode path page steps a result b
    read_driven steps None b on = λ h n stood. soon steps b b.op (read_on steps b on) h n stood
    read_driven steps (Some answer) c (n, b, within, on, step) = stepped n b c (Done answer) (read_on n b on) step
