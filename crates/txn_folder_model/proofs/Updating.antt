-- An update of the boundary takes its steps, but for the rename that makes it.
use Rattle.std.proofs.Common.{◌≡◌, ℕ, suc, ◌<◌, ◌≤◌, ◌==◌, if◌then◌else◌, Bool, true, false, List, [], Option, Some, None, unwrap_or, refl, ap, sym, subst, ◌∙◌, arith, inl, inr}
use Rattle.std.proofs.lemmas.Bool.{eqb-true, eq-eqb}
use Rattle.txn_store.specs.types.BoundaryText.{boundary_read}
use Rattle.txn_store.specs.Paths.{Segments}
use Rattle.txn_store.specs.VersionName.{Names}
use Rattle.txn_store.specs.Store.{update_fault}
use Rattle.txn_store.specs.declared.store.StoreError.TheVariants as errors
use Rattle.txn_folder.specs.steps.Folders.{Boundary, At, Temporary, File, Folder, with_file, OfBoundary, Draw, Write, SetTime, Way, Plainly, Draws, Partly, Stale, after_step, step_told, found_told, made_told, made, locked}
use Rattle.txn_folder.specs.steps.Steps as steps
use Rattle.txn_folder.specs.steps.Steps.{Verdict, Fails, Phase, Is, Ends, Updates, Updating, update_asked, update_turned, compared, said_fault, got_at, token_at, put_ok, put_error}
use Rattle.txn_folder_model.specs.Worlds.{World, SaysUpTo, drawn, may_draw}
use Rattle.txn_folder_model.specs.Linear.{request_of}
use Rattle.txn_folder_model.proofs.Ghosts.{Effect, Ghost}
use Rattle.txn_folder_model.proofs.Facts.{By, NoWrite, HasWritten, HasLock, SaysSo, IsSo, Outcome, Not, Must, may_put, no_write_on, written_on, so_fails, update_outcome, update_number, update_content, update_opened, update_live, IsContent, IsOpened, IsLive, Matched, Holds, WasThere}
use Rattle.txn_folder_model.proofs.Frames.{Running, may_drawn}
use Rattle.txn_folder_model.proofs.Replies.{differs_reads}
use Rattle.txn_folder_model.proofs.Getting.{there_now, so_far}

abbrev pub IsRenames : Updating → Type 0
IsRenames (steps.Renames n) = Unit {0}
IsRenames state = ⊥

module _ (names : Names) (boundary : Segments) (floor : ℕ) (ghosts : ℕ → Ghost) (effects : ℕ → Option Effect) (t : ℕ) (w : World) (h : Holds names boundary floor ghosts effects t w) (c began : ℕ) (since : began ≤ t) (none : ¬ (By effects t c)) where
  module _ (bytes : List ℕ) (token : ℕ) (may : SaysUpTo floor (boundary_read bytes)) where
    abbrev SoThen : Outcome → Type 0
    SoThen o = IsSo names boundary floor ghosts effects (suc t) (suc t) began c (request_of names boundary (Updates bytes token (Ends Fails))) o

    abbrev SoNow : Outcome → Type 0
    SoNow o = IsSo names boundary floor ghosts effects t t began c (request_of names boundary (Updates bytes token (Ends Fails))) o

    more : (o : Outcome) → SoNow o → SoThen o
    more o so = so_far names boundary floor ghosts effects t w h c began since none (Updates bytes token (Ends Fails)) o so

    failed : (o : Outcome) → SoNow o → SoThen (Must Fails)
    failed o so = so_fails names boundary floor ghosts effects (suc t) (suc t) began c (request_of names boundary (Updates bytes token (Ends Fails))) o (more o so)

    module _ (g : Folder) (owners : ℕ → Option ℕ) where
      abbrev pub Then : Phase Updating → Type 0
      Then phase = Running names boundary floor ghosts effects (suc t) c began g owners (Updates bytes token phase)

      plain : (state : Updating) → SoThen (update_outcome bytes state) → ((n : ℕ) → update_number state ≡ Some n → (owners n ≡ Some c) × (floor < n)) → IsContent (g.files c) (update_content bytes state) → IsOpened names boundary floor ghosts effects (suc t) began g (update_opened state) → IsLive g c (update_live token state) → Then (Is state)
      plain state so number content opened live = record { may = may; outcome = so; number = number; content = content; opened = opened; live = live }

      ends : (verdict : Verdict) → SoThen (Must verdict) → Then (Ends verdict)
      ends verdict so = record { may = may; outcome = so; number = λ n is. absurd (cc); content = tt; opened = tt; live = tt }

      numbered : (m : ℕ) → (owners m ≡ Some c) × (floor < m) → (n : ℕ) → Some m ≡ Some n → (owners n ≡ Some c) × (floor < n)
      numbered m own n is = let same : m ≡ n = ap (λ (o : Option ℕ). elim o [ None ↦ m | Some x ↦ x ]) is in subst (λ (x : ℕ). (owners x ≡ Some c) × (floor < x)) same own

      frees : (verdict : Verdict) → SoThen (Must verdict) → Then (Is (steps.Frees verdict))
      frees verdict so = plain (steps.Frees verdict) so (λ n is. absurd (cc)) tt tt tt

      cleans : SoThen (Must Fails) → Then (Is steps.UpdateCleans)
      cleans so = plain steps.UpdateCleans so (λ n is. absurd (cc)) tt tt tt

      missing : NoWrite effects t c → w.folder.names (At Boundary) ≡ None → Then (Is (steps.Frees (put_error errors.Precondition)))
      missing never is =
          frees (put_error errors.Precondition) (inr (
            no_write_on names boundary floor ghosts effects t c none never,
            record { at = t; since = since; within = omega arith; right = differs_reads (ghosts t) boundary bytes token (ap (update_fault token) (there_now names boundary floor ghosts effects t w h c began since none Boundary tt None is)) },
          ))

      seeks : (o : Option ℕ) → w.folder.names (At Boundary) ≡ o → HasLock g c → NoWrite effects t c → Then (update_turned bytes token steps.Seeks (found_told w.folder o))
      seeks None is lock never = missing never is
      seeks (Some file) is lock never = plain steps.Enters (more Not never) (λ n e. absurd (cc)) tt tt lock

      enters : (o : Option ℕ) → w.folder.names (At Boundary) ≡ o → HasLock g c → g.names (At Boundary) ≡ w.folder.names (At Boundary) → ((file : ℕ) → g.files file ≡ w.folder.files file) → NoWrite effects t c → Then (update_turned bytes token steps.Enters (found_told w.folder o))
      enters None is lock same files never = missing never is
      enters (Some file) is lock same files never =
          plain (steps.Compares file) (more Not never) (λ n e. absurd (cc)) tt
          (record {
            at = t;
            since = since;
            past = omega arith;
            got = there_now names boundary floor ghosts effects t w h c began since none Boundary tt (Some file) is ∙ ap (λ f. Some (got_at Boundary f)) (sym (files file));
            whole = written_on names boundary floor ghosts effects t file (h.placed Boundary file is).0;
            says = subst (λ (f : File). SaysSo Boundary f.bytes) (sym (files file)) (h.placed Boundary file is).2;
          })
          (lock, same ∙ is)

      compares : (file : ℕ) → WasThere names boundary floor ghosts effects t began w.folder Boundary file → HasLock g c → g.names (At Boundary) ≡ Some file → g.files file ≡ w.folder.files file → NoWrite effects t c →
          (b : Bool) → (token_at Boundary (w.folder.files file).bytes (w.folder.files file).time == token) ≡ b → Then (compared (if b then None else Some errors.Precondition))
      compares file there lock stands same never true is =
          plain steps.UpdateDraws (more Not never) (λ n e. absurd (cc)) tt tt
          (lock, (file, stands, ap (λ f. update_fault token (Some (got_at Boundary f))) same ∙ rw is refl))
      compares file there lock stands same never false is =
          let past = there.past in
          frees (put_error errors.Precondition) (inr (
            no_write_on names boundary floor ghosts effects t c none never,
            record { at = there.at; since = there.since; within = omega (arith, past); right = differs_reads (ghosts there.at) boundary bytes token (ap (update_fault token) there.got ∙ rw is refl) },
          ))

      -- the file says a number
      compares_said : (file : ℕ) → WasThere names boundary floor ghosts effects t began w.folder Boundary file → HasLock g c → g.names (At Boundary) ≡ Some file → g.files file ≡ w.folder.files file → NoWrite effects t c →
          SaysSo Boundary (w.folder.files file).bytes → Then (compared (said_fault token (boundary_read (w.folder.files file).bytes)))
      compares_said file there lock stands same never (number, says) =
          let e : token_at Boundary (w.folder.files file).bytes (w.folder.files file).time ≡ number = ap (λ (o : Option ℕ). unwrap_or o 0) says in
          subst (λ (o : Option ℕ). Then (compared (said_fault token o))) (sym says) (compares file there lock stands same never (number == token) (ap (λ (x : ℕ). x == token) e))

      makes : (n : ℕ) (o : Option ℕ) → (owners n ≡ Some c) × (floor < n) → IsLive g c (Matched token) → NoWrite effects t c → Then (update_turned bytes token (steps.UpdateMakes n) (made_told o))
      makes n None own live never = plain (steps.UpdateWrites n) (more Not never) (numbered n own) tt tt live
      makes n (Some file) own live never = plain steps.UpdateDraws (more Not never) (λ m e. absurd (cc)) tt tt live

      renamed_it : (n : ℕ) → HasWritten effects t c → SoNow (may_put Boundary bytes n) → SoNow (Must (put_ok (token_at Boundary bytes n)))
      renamed_it n (s, low, by) (inl never) = absurd (never s low by)
      renamed_it n (s, low, by) (inr wrote) = inl wrote

      number_by : (n file : ℕ) → w.folder.names (At Boundary) ≡ Some file → w.owners n ≡ Some c → SoNow (may_put Boundary bytes n) → (b : Bool) → ((w.folder.files file).time == n) ≡ b → Then (if b then Is (steps.UpdateSyncs (put_ok (token_at Boundary bytes n))) else Is steps.UpdateCleans)
      number_by n file is own so true e =
          let at : w.owners n ≡ Some file = subst (λ (x : ℕ). w.owners x ≡ Some file) (eqb-true (w.folder.files file).time n e) (h.placed Boundary file is).1 in
          let same : file ≡ c = ap (λ (o : Option ℕ). elim o [ None ↦ file | Some x ↦ x ]) (sym at ∙ own) in
          let wrote : HasWritten effects t c = subst (HasWritten effects t) same (h.placed Boundary file is).0 in
          plain (steps.UpdateSyncs (put_ok (token_at Boundary bytes n))) (more (Must (put_ok (token_at Boundary bytes n))) (renamed_it n wrote so)) (λ m x. absurd (cc)) tt tt tt
      number_by n file is own so false e = cleans (failed (may_put Boundary bytes n) so)

      looks_number : (n : ℕ) (o : Option ℕ) → w.folder.names (At Boundary) ≡ o → w.owners n ≡ Some c → SoNow (may_put Boundary bytes n) → Then (update_turned bytes token (steps.LooksNumber n) (found_told w.folder o))
      looks_number n None is own so = cleans (failed (may_put Boundary bytes n) so)
      looks_number n (Some file) is own so = number_by n file is own so ((w.folder.files file).time == n) refl

    abbrev pub Next : Updating → Way → Type 0
    Next state way = Then (after_step c (update_asked c bytes state) way w.folder) (drawn w.owners c (update_asked c bytes state) way) (update_turned bytes token state (step_told c (update_asked c bytes state) way w.folder))

    own_now : (x : File) → (if c == c then x else w.folder.files c) ≡ x
    own_now x = rw (eq-eqb c c refl) refl

    drawn_now : (m : ℕ) → drawn w.owners c Draw (Draws m) m ≡ Some c
    drawn_now m = rw (eq-eqb m m refl) refl

    locks : (o : Option ℕ) → w.folder.locks OfBoundary ≡ o → NoWrite effects t c → Then (locked w.folder c OfBoundary o) w.owners (update_turned bytes token steps.Locks (made_told o))
    locks None is never = plain (locked w.folder c OfBoundary None) w.owners steps.Seeks (more Not never) (λ n e. absurd (cc)) tt tt refl
    locks (Some x) is never = plain w.folder w.owners steps.Locks (more Not never) (λ n e. absurd (cc)) tt tt tt

    -- what it compared stands still, whatever becomes of its own file
    written_other : (file : ℕ) (x : File) → NoWrite effects t c → HasWritten effects t file → (b : Bool) → (file == c) ≡ b → (if b then x else w.folder.files file) ≡ w.folder.files file
    written_other file x never wrote true is = absurd (never wrote.0 wrote.1 (subst (By effects wrote.0) (eqb-true file c is) wrote.2))
    written_other file x never wrote false is = refl

    matched_write : (x : File) → NoWrite effects t c → IsLive w.folder c (Matched token) → IsLive (with_file w.folder c x) c (Matched token)
    matched_write x never (lock, (file, there, match)) = (lock, (file, there, ap (λ f. update_fault token (Some (got_at Boundary f))) (written_other file x never (h.placed Boundary file there).0 (file == c) refl) ∙ match))

    matched_make : (o : Option ℕ) → NoWrite effects t c → IsLive w.folder c (Matched token) → IsLive (made w.folder c o) c (Matched token)
    matched_make None never (lock, (file, there, match)) = (lock, (file, there, ap (λ f. update_fault token (Some (got_at Boundary f))) (written_other file (record { bytes = []; time = 0 }) never (h.placed Boundary file there).0 (file == c) refl) ∙ match))
    matched_make (Some x) never live = live

    abbrev pub Was : Updating → Type 0
    Was state = Running names boundary floor ghosts effects t c began w.folder w.owners (Updates bytes token (Is state))

    -- the rename that has no effect
    pub unrenamed : (n : ℕ) (g : Folder) (owners : ℕ → Option ℕ) → (owners n ≡ Some c) × (floor < n) → NoWrite effects t c → Then g owners (Is (steps.LooksNumber n))
    unrenamed n g owners own never = plain g owners (steps.LooksNumber n) (inl (more Not never)) (numbered g owners n own) tt tt tt

    pub update_running : (state : Updating) (way : Way) → ¬ (IsRenames state) → may_draw floor w.owners way ≡ true → Was state → Next state way
    update_running steps.Locks Plainly quiet draws r = locks (w.folder.locks OfBoundary) refl r.outcome
    update_running steps.Locks way quiet draws r = frees _ _ Fails (failed Not r.outcome)
    update_running steps.Seeks Plainly quiet draws r = seeks w.folder w.owners (w.folder.names (At Boundary)) refl r.live r.outcome
    update_running steps.Seeks way quiet draws r = frees _ _ Fails (failed Not r.outcome)
    update_running steps.Enters Plainly quiet draws r = enters w.folder w.owners (w.folder.names (At Boundary)) refl r.live refl (λ file. refl) r.outcome
    update_running steps.Enters Stale quiet draws r = plain w.folder w.owners steps.Seeks (more Not r.outcome) (λ n e. absurd (cc)) tt tt r.live
    update_running steps.Enters way quiet draws r = frees _ _ Fails (failed Not r.outcome)
    update_running (steps.Compares file) Plainly quiet draws r = compares_said w.folder w.owners file r.opened r.live.0 r.live.1 refl r.outcome r.opened.says
    update_running (steps.Compares file) Stale quiet draws r = plain w.folder w.owners steps.Seeks (more Not r.outcome) (λ n e. absurd (cc)) tt tt r.live.0
    update_running (steps.Compares file) way quiet draws r = frees _ _ Fails (failed Not r.outcome)
    update_running steps.UpdateDraws (Draws m) quiet draws r = plain w.folder (drawn w.owners c Draw (Draws m)) (steps.UpdateMakes m) (more Not r.outcome) (numbered w.folder (drawn w.owners c Draw (Draws m)) m (drawn_now m, (may_drawn floor m w.owners draws).0)) tt tt r.live
    update_running steps.UpdateDraws way quiet draws r = frees _ _ Fails (failed Not r.outcome)
    update_running (steps.UpdateMakes n) Plainly quiet draws r = makes (made w.folder c (w.folder.names (Temporary c))) w.owners n (w.folder.names (Temporary c)) (r.number n refl) (matched_make (w.folder.names (Temporary c)) r.outcome r.live) r.outcome
    update_running (steps.UpdateMakes n) way quiet draws r = frees _ _ Fails (failed Not r.outcome)
    update_running (steps.UpdateWrites n) Plainly quiet draws r = plain (after_step c (Write bytes) Plainly w.folder) w.owners (steps.UpdateSetsTime n) (more Not r.outcome) (numbered w.folder w.owners n (r.number n refl)) (ap (λ (f : File). f.bytes) (own_now (record { bytes = bytes; time = (w.folder.files c).time }))) tt (matched_write (record { bytes = bytes; time = (w.folder.files c).time }) r.outcome r.live)
    update_running (steps.UpdateWrites n) (Partly k) quiet draws r = plain (after_step c (Write bytes) (Partly k) w.folder) w.owners (steps.UpdateWrites n) (more Not r.outcome) (numbered w.folder w.owners n (r.number n refl)) tt tt (matched_write _ r.outcome r.live)
    update_running (steps.UpdateWrites n) way quiet draws r = cleans _ _ (failed Not r.outcome)
    update_running (steps.UpdateSetsTime n) Plainly quiet draws r =
        let now = own_now (record { bytes = (w.folder.files c).bytes; time = n }) in
        plain (after_step c (SetTime n) Plainly w.folder) w.owners (steps.UpdateSyncsNew n) (more Not r.outcome) (numbered w.folder w.owners n (r.number n refl)) (ap (λ (f : File). f.bytes) now ∙ r.content, ap (λ (f : File). f.time) now) tt (matched_write (record { bytes = (w.folder.files c).bytes; time = n }) r.outcome r.live)
    update_running (steps.UpdateSetsTime n) way quiet draws r = cleans _ _ (failed Not r.outcome)
    update_running (steps.UpdateSyncsNew n) Plainly quiet draws r = plain w.folder w.owners (steps.Renames n) (more Not r.outcome) (numbered w.folder w.owners n (r.number n refl)) r.content tt r.live
    update_running (steps.UpdateSyncsNew n) way quiet draws r = cleans _ _ (failed Not r.outcome)
    update_running (steps.Renames n) way quiet draws r = absurd (quiet tt)
    update_running (steps.LooksNumber n) Plainly quiet draws r = looks_number w.folder w.owners n (w.folder.names (At Boundary)) refl (r.number n refl).0 r.outcome
    update_running (steps.LooksNumber n) way quiet draws r = cleans _ _ (failed (may_put Boundary bytes n) r.outcome)
    update_running steps.UpdateCleans way quiet draws r = frees _ _ Fails (more (Must Fails) r.outcome)
    update_running (steps.UpdateSyncs verdict) Plainly quiet draws r = frees w.folder w.owners verdict (more (Must verdict) r.outcome)
    update_running (steps.UpdateSyncs verdict) way quiet draws r = frees _ _ Fails (failed (Must verdict) r.outcome)
    update_running (steps.Frees verdict) way quiet draws r = ends _ _ verdict (more (Must verdict) r.outcome)
