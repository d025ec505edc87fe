-- A merged list is a run of a world, and one history; and so is each beginning of it.
use Rattle.std.proofs.Common.{◌≡◌, ◌≢◌, ℕ, zero, suc, ◌≤◌, List, [], ◌∷◌, drop, Bool, if◌then◌else◌, ◌==◌, Option, Some, None, inl, inr, refl, sym, ◌∙◌, ap, subst, arith}
use Rattle.std.specs.Option.{option_map}
use Rattle.std.proofs.lemmas.Bool.{cases_eq, eq-eqb, ne_eqb}
use Rattle.std.proofs.lemmas.List.{length-map}
use Rattle.txn_store.specs.Store.{State as StoreState}
use Rattle.txn_store.specs.Requests.{Serves}
use Rattle.txn_store.specs.declared.request.Request.{Request}
use Rattle.txn_history.specs.Lists.{numbered}
use Rattle.txn_history.specs.declared.event.Answer.{Answer}
use Rattle.txn_history.specs.Trace.{Row}
use Rattle.txn_history.specs.OneHistory.{IsOneHistory}
use Rattle.txn_history.specs.Views.{ViewsFit}
use Rattle.txn_history.specs.Laws.{HasOneClaimer}
use Rattle.txn_machine.specs.Machine.{State, opening, seen_view, seen_views}
use Rattle.txn_machine.proofs.Reached.{run_reaches_or_lacking, reached_history, reached_views, reached_claims}
use Rattle.txn_machine.specs.plain.Machine.{no_caches}
use Rattle.txn_machine.proofs.plain.Lists.{numbered_of_map}
use Rattle.txn_machine.specs.views.Layer.{Used}
use Rattle.txn_client_journals.specs.declared.rows.LogRow.{LogRow}
use Rattle.txn_client_journals.specs.declared.rows.Act.TheVariants as acts
use Rattle.txn_client_journals.specs.declared.rows.Step.{Step}
use Rattle.txn_client_journals.specs.declared.rows.Step.TheVariants as steps
use Rattle.txn_client_journals.specs.declared.rows.JournalRow.{JournalRow}
use Rattle.txn_client_journals.specs.Parts.{Part}
use Rattle.txn_client_journals.specs.Journals.{Follows, Replays}
use Rattle.txn_client_journals.specs.Logs.{IsLog}
use Rattle.txn_client_journals.specs.Numbers.{number}
use Rattle.txn_client_journals.specs.Merged.{Landing, Did, Lands, Merged, part_of, clients_of, views_of, landing_row, with_receipt, log_of, CanLand, IsMerged}
use Rattle.txn_client_journals.specs.Traces.{failed_of}
use Rattle.txn_client_journals.specs.Histories.{OneHistoryOfMerged}
use Rattle.txn_client_journals.specs.Runs.{IsRun, used_in}
use Rattle.txn_client_journals.proofs.Taken.{taken_of}
use Rattle.txn_client_journals.proofs.Stages.{History, Stage}
use Rattle.txn_client_journals.proofs.ClientRows.{look_more, got_more, left_more, fail_more, lack_more, kill_more, new_more}
use Rattle.txn_client_journals.proofs.Landings.{land_more}

module _ {T : Type 0} (page : ℕ) (encode : T → List ℕ) (decode : List ℕ → Option T) (get_epoch : T → ℕ) (set_epoch : T → ℕ → T) where
  abbrev Journal : ℕ → List (JournalRow T) → Part T → Type 0
  Journal client rows part = Replays page encode decode get_epoch set_epoch client rows part

  -- what stands before the last row

  -- the log of the rows before, and the row's receipt
  abbrev pub Gets : Step T → StoreState → StoreState → Type 0
  Gets (steps.Begin call) before store = store ≡ before
  Gets (steps.Act op acts.Look) before store = store ≡ before
  Gets (steps.Act op acts.Lacks) before store = store ≡ before
  Gets (steps.Act op (acts.Receive receipt)) before store = Serves receipt.request before receipt.reply store × (store.failures ≡ 0)
  Gets (steps.Act op (acts.GiveUp left)) before store = store ≡ before
  Gets (steps.Act op (acts.Fails request)) before store = store ≡ before
  Gets (steps.Killed lefts) before store = store ≡ before

  log_before : (client : ℕ) (step : Step T) (log : List LogRow) (store : StoreState) → IsLog (with_receipt client step log) store → (before : StoreState) × IsLog log before × Gets step before store
  log_before client (steps.Begin call) log store h = (store, h, refl)
  log_before client (steps.Act op acts.Look) log store h = (store, h, refl)
  log_before client (steps.Act op acts.Lacks) log store h = (store, h, refl)
  log_before client (steps.Act op (acts.Receive receipt)) log store h = (h.0, h.1, (h.2, h.3))
  log_before client (steps.Act op (acts.GiveUp left)) log store h = (store, h, refl)
  log_before client (steps.Act op (acts.Fails request)) log store h = (store, h, refl)
  log_before client (steps.Killed lefts) log store h = (store, h, refl)

  pub record Before (client : ℕ) (row : JournalRow T) (m : Merged T) (parts : ℕ → Part T) (store : StoreState) : Type 0 where
    pub was : ℕ → Part T
    pub before : StoreState
    pub merged : IsMerged page encode decode get_epoch set_epoch m was before
    pub follows : Follows page encode decode get_epoch set_epoch client (was client) row.step row.answer (parts client)
    pub others : (d : ℕ) → client ≢ d → was d ≡ parts d
    pub gets : Gets row.step before store

  own_journal : (client : ℕ) (row : JournalRow T) (m : Merged T) (part : Part T) → Journal client (part_of client (Did client row ∷ m)) part → Journal client (row ∷ part_of client m) part
  own_journal client row m part h = subst (λ (b : Bool). Journal client (if b then row ∷ part_of client m else part_of client m) part) (eq-eqb client client refl) h

  other_journal : (client : ℕ) (row : JournalRow T) (m : Merged T) (d : ℕ) (part : Part T) → client ≢ d → Journal d (part_of d (Did client row ∷ m)) part → Journal d (part_of d m) part
  other_journal client row m d part ne h = subst (λ (b : Bool). Journal d (if b then row ∷ part_of d m else part_of d m) part) (ne_eqb client d ne) h

  -- the parts before: that of one client is another
  abbrev with_part : (ℕ → Part T) → ℕ → Part T → ℕ → Part T
  with_part parts client part d = if client == d then part else parts d

  pub tail : (client : ℕ) (row : JournalRow T) (m : Merged T) (parts : ℕ → Part T) (store : StoreState) → IsMerged page encode decode get_epoch set_epoch (Did client row ∷ m) parts store → Before client row m parts store
  tail client row m parts store h =
      let j = own_journal client row m (parts client) (h.journals client) in
      let l = log_before client row.step (log_of m) store h.log in
      let own : with_part parts client j.0 client ≡ j.0 = rw (eq-eqb client client refl) refl in
      record {
        was = with_part parts client j.0;
        before = l.0;
        merged = record {
          journals = λ d. elim (cases_eq client d) [
            | inl is ↦ subst (λ (c : ℕ). Journal c (part_of c m) (with_part parts client j.0 c)) is (subst (λ (p : Part T). Journal client (part_of client m) p) (sym own) j.1)
            | inr ne ↦ rw (ne_eqb client d ne) (other_journal client row m d (parts d) ne (h.journals d))
          ];
          log = l.1;
          landings = h.landings;
        };
        follows = subst (λ (p : Part T). Follows page encode decode get_epoch set_epoch client p row.step row.answer (parts client)) (sym own) j.2;
        others = λ d ne. rw (ne_eqb client d ne) refl;
        gets = l.2;
      }

  -- what stands before a landing
  pub record BeforeLanding (landing : Landing) (m : Merged T) (parts : ℕ → Part T) (store : StoreState) : Type 0 where
    pub before : StoreState
    pub merged : IsMerged page encode decode get_epoch set_epoch m parts before
    pub lands : CanLand m landing
    pub serves : Serves landing.request before landing.reply store
    pub honest : store.failures ≡ 0

  pub landing_tail : (landing : Landing) (m : Merged T) (parts : ℕ → Part T) (store : StoreState) → IsMerged page encode decode get_epoch set_epoch (Lands landing ∷ m) parts store → BeforeLanding landing m parts store
  landing_tail landing m parts store h =
      let l : IsLog (landing_row landing ∷ log_of m) store = h.log in
      record {
        before = l.0;
        merged = record { journals = h.journals; log = l.1; landings = h.landings.1 };
        lands = h.landings.0;
        serves = l.2;
        honest = l.3;
      }

module _ {T : Type 0} (page : ℕ) (encode : T → List ℕ) (decode : List ℕ → Option T) (get_epoch : T → ℕ) (set_epoch : T → ℕ → T) (law : History page encode decode get_epoch set_epoch) (room : 1 ≤ page) where
  -- one more row
  next : (clients : ℕ) (m : Merged T) (was parts : ℕ → Part T) (before store : StoreState) (s : State T) → Stage page encode decode get_epoch set_epoch clients m was before s → IsLog (log_of m) before → (client : ℕ) → client ≤ clients → ((d : ℕ) → client ≢ d → was d ≡ parts d) →
      (step : Step T) (answer : Option (Answer T)) → Follows page encode decode get_epoch set_epoch client (was client) step answer (parts client) → Gets page encode decode get_epoch set_epoch step before store →
      (s2 : State T) × Stage page encode decode get_epoch set_epoch clients (Did client (record { step = step; answer = answer }) ∷ m) parts store s2
  next clients m was parts before store s g log client le same (steps.Begin call) answer v gets =
      subst (λ (now : StoreState). (s2 : State T) × Stage page encode decode get_epoch set_epoch clients (Did client (record { step = steps.Begin call; answer = answer }) ∷ m) parts now s2) (sym gets) (new_more page encode decode get_epoch set_epoch law room clients m was parts before s g client le same call answer v)
  next clients m was parts before store s g log client le same (steps.Act op acts.Look) answer v gets =
      subst (λ (now : StoreState). (s2 : State T) × Stage page encode decode get_epoch set_epoch clients (Did client (record { step = steps.Act op acts.Look; answer = answer }) ∷ m) parts now s2) (sym gets) (look_more page encode decode get_epoch set_epoch law room clients m was parts before s g client le same op answer v)
  next clients m was parts before store s g log client le same (steps.Act op (acts.Receive receipt)) answer v gets =
      got_more page encode decode get_epoch set_epoch law room clients m was parts before s g client le same op receipt answer v store log gets.0 gets.1
  next clients m was parts before store s g log client le same (steps.Act op (acts.GiveUp left)) answer v gets =
      subst (λ (now : StoreState). (s2 : State T) × Stage page encode decode get_epoch set_epoch clients (Did client (record { step = steps.Act op (acts.GiveUp left); answer = answer }) ∷ m) parts now s2) (sym gets) (left_more page encode decode get_epoch set_epoch law room clients m was parts before s g client le same op left answer v)
  next clients m was parts before store s g log client le same (steps.Act op (acts.Fails request)) answer v gets =
      subst (λ (now : StoreState). (s2 : State T) × Stage page encode decode get_epoch set_epoch clients (Did client (record { step = steps.Act op (acts.Fails request); answer = answer }) ∷ m) parts now s2) (sym gets) (fail_more page encode decode get_epoch set_epoch law room clients m was parts before s g client le same op request answer v)
  next clients m was parts before store s g log client le same (steps.Act op acts.Lacks) answer v gets =
      subst (λ (now : StoreState). (s2 : State T) × Stage page encode decode get_epoch set_epoch clients (Did client (record { step = steps.Act op acts.Lacks; answer = answer }) ∷ m) parts now s2) (sym gets) (lack_more page encode decode get_epoch set_epoch law room clients m was parts before s g client le same op answer v)
  next clients m was parts before store s g log client le same (steps.Killed lefts) answer v gets =
      subst (λ (now : StoreState). (s2 : State T) × Stage page encode decode get_epoch set_epoch clients (Did client (record { step = (steps.Killed lefts); answer = answer }) ∷ m) parts now s2) (sym gets) (kill_more page encode decode get_epoch set_epoch law room clients m was parts before s g client le same lefts answer v)

  opens : (clients : ℕ) (parts : ℕ → Part T) (store : StoreState) → IsMerged page encode decode get_epoch set_epoch [] parts store → Stage page encode decode get_epoch set_epoch clients [] parts store (opening clients page)
  opens clients parts store h =
      record {
        runs = refl;
        clients_is = refl;
        page_is = refl;
        trace = refl;
        failed = refl;
        loose = refl;
        lefts = λ client op request e. absurd (nothing_left request e);
        store_is = sym h.log;
        all_operations = refl;
        all_views = refl;
        above = λ client some. absurd (omega (arith, some));
        tied = λ client. subst (λ (p : Part T). Rattle.txn_client_journals.proofs.Ties.TiedTo decode get_epoch (opening clients page) client p [] []) (sym (h.journals client)) (record {
          caches = λ some le. replicated clients client some le;
          ops = record { size = refl; each = λ k o e. absurd (nothing k o e); owner = λ k o e. absurd (nothing k o e); has = λ k o w e. absurd (nothing k o e) };
          seen = record { size = refl; each = λ k u e. absurd (nothing k u e); owned = λ k u e. absurd (nothing k u e) };
          writes_size = refl;
          writes = λ k written e. absurd (nothing k written e);
          told = tt;
        });
      }
    where
      nothing_left : (request : Request) → None ≡ Some request → ⊥
      nothing_left request e = cc

      nothing : {A : Type 0} (k : ℕ) (x : A) → numbered [] k ≡ Some x → ⊥
      nothing zero x e = cc
      nothing (suc k) x e = cc

      replicated : (n k : ℕ) → 1 ≤ k → k ≤ n → numbered (Rattle.std.proofs.Common.replicate n no_caches) k ≡ Some no_caches
      replicated n zero some le = absurd (omega (arith, some))
      replicated zero (suc k) some le = absurd (omega (arith, le))
      replicated (suc n) (suc zero) some le = refl
      replicated (suc n) (suc (suc k)) some le = replicated n (suc k) (omega arith) (omega (arith, le))

  pub stages : (clients : ℕ) (m : Merged T) (parts : ℕ → Part T) (store : StoreState) → clients_of m ≤ clients → IsMerged page encode decode get_epoch set_epoch m parts store → (s : State T) × Stage page encode decode get_epoch set_epoch clients m parts store s
  stages clients [] parts store le h = (opening clients page, opens clients parts store h)
  stages clients (Did client row ∷ m) parts store le h =
      let b = tail page encode decode get_epoch set_epoch client row m parts store h in
      let s = stages clients m b.was b.before (omega (arith, le)) b.merged in
      next clients m b.was parts b.before store s.0 s.1 b.merged.log client (omega (arith, le)) b.others row.step row.answer b.follows b.gets
  stages clients (Lands landing ∷ m) parts store le h =
      let b = landing_tail page encode decode get_epoch set_epoch landing m parts store h in
      let s = stages clients m parts b.before le b.merged in
      land_more page encode decode get_epoch set_epoch clients m parts b.before s.0 s.1 landing b.lands store b.merged.log b.serves b.honest

module _ {T : Type 0} (page : ℕ) (encode : T → List ℕ) (decode : List ℕ → Option T) (get_epoch : T → ℕ) (set_epoch : T → ℕ → T) where
  -- a client's view is seen as it is, whichever operation uses it
  seen_same : (m : Merged T) (client : ℕ) (used : Option (Used T)) → seen_view (option_map (used_in m client) used) ≡ option_map (λ (it : Used T). it.view) used
  seen_same m client None = refl
  seen_same m client (Some used) = refl

  history : History page encode decode get_epoch set_epoch
  history clients size taken state room runs = reached_history encode decode get_epoch set_epoch state (run_reaches_or_lacking encode decode get_epoch set_epoch clients size taken state room runs)

  pub merged_runs : (clients : ℕ) (m : Merged T) (parts : ℕ → Part T) (store : StoreState) → 1 ≤ page → clients_of m ≤ clients → IsMerged page encode decode get_epoch set_epoch m parts store → IsRun page encode decode get_epoch set_epoch clients m parts store
  merged_runs clients m parts store room le h =
      let found = stages page encode decode get_epoch set_epoch history room clients m parts store le h in
      let g = found.1 in
      record {
        taken = taken_of m;
        state = found.0;
        runs = g.runs;
        trace = g.trace;
        failed = g.failed;
        loose = g.loose;
        store_is = g.store_is;
        caches = λ client some low. (g.tied client).caches some (let e = g.clients_is in omega (arith, low, e));
        all_operations = g.all_operations;
        operations = λ client k operation is. (g.tied client).ops.each k operation is;
        all_views = g.all_views;
        views = λ client k used is. (g.tied client).seen.each k used is;
      }

  pub merged_history : (m : Merged T) (parts : ℕ → Part T) (store : StoreState) → 1 ≤ page → IsMerged page encode decode get_epoch set_epoch m parts store → OneHistoryOfMerged decode get_epoch set_epoch m parts
  merged_history m parts store room h =
      let clients = clients_of m in
      let found = stages page encode decode get_epoch set_epoch history room clients m parts store (omega arith) h in
      let s = found.0 in
      let g = found.1 in
      let r = run_reaches_or_lacking encode decode get_epoch set_epoch clients page (taken_of m) s room g.runs in
      record {
        one_history = subst (λ (rows : List (Row T)). IsOneHistory decode get_epoch set_epoch (failed_of m) rows) g.trace (subst (λ (failed : List ℕ). IsOneHistory decode get_epoch set_epoch failed s.trace) g.failed (reached_history encode decode get_epoch set_epoch s r));
        views = seen_views s.views;
        all_views = length-map s.views seen_view ∙ g.all_views;
        its_views = λ client k used is. numbered_of_map seen_view s.views (number (views_of m) client k) (option_map (used_in m client) used) ((g.tied client).seen.each k used is) ∙ ap Some (seen_same m client used);
        views_fit = subst (λ (rows : List (Row T)). ViewsFit decode get_epoch rows (seen_views s.views)) g.trace (reached_views encode decode get_epoch set_epoch s r);
        one_claimer = subst (λ (rows : List (Row T)). HasOneClaimer rows) g.trace (reached_claims encode decode get_epoch set_epoch s r);
      }

  -- each beginning of a merged list is one
  pub merged_begins : (m : Merged T) (parts : ℕ → Part T) (store : StoreState) → IsMerged page encode decode get_epoch set_epoch m parts store → (k : ℕ) → (was : ℕ → Part T) × (before : StoreState) × IsMerged page encode decode get_epoch set_epoch (drop k m) was before
  merged_begins m parts store h zero = (parts, store, h)
  merged_begins [] parts store h (suc k) = (parts, store, h)
  merged_begins (Did client row ∷ m) parts store h (suc k) = (let b = tail page encode decode get_epoch set_epoch client row m parts store h in merged_begins m b.was b.before b.merged k)
  merged_begins (Lands landing ∷ m) parts store h (suc k) = (let b = landing_tail page encode decode get_epoch set_epoch landing m parts store h in merged_begins m parts b.before b.merged k)
