-- What a cut of power leaves, at any moment of any schedule.
use Rattle.std.proofs.Common.{◌≡◌, ℕ, zero, suc, ◌<◌, ◌≤◌, ◌==◌, if◌then◌else◌, not, is_some, List, Option, Some, None, refl, ap, sym, subst, ◌∙◌, arith, ◌⊎◌, inl, inr}
use Rattle.std.specs.Prelude.{Bool, true, false, nat_lt}
use Rattle.std.proofs.lemmas.Bool.{cases_lt, eqb-true, eqb-false, eq-eqb, ltb-true}
use Rattle.std.proofs.lemmas.Option.{same_Some}
use Rattle.txn_store.specs.declared.request.Reply.{Reply}
use Rattle.txn_folder.specs.steps.Folders.{Place, Boundary, At, Temporary, File, Ask, Link, Rename, Way, Told, step_told}
use Rattle.txn_folder.specs.steps.Steps as steps
use Rattle.txn_folder.specs.steps.Steps.{Verdict, Tells, Fails, Is, Ends, Work, Creates, Gets, Updates, Deletes, create_asked, update_asked, asked, turned, verdict_of}
use Rattle.txn_folder_model.specs.Worlds.{Call, World, Job, Create, Get, Update, Delete, Event, Begin, Step, Kill, Clean, opening, first_work, begun, answers, answer_of, ended_with, worked, killed, may_draw, drawn, runs, after, stepped, world}
use Rattle.txn_folder_model.specs.Power.{Syncs, AfterCut, IsLeft, IsPut, IsWhole, ChangesAt, MayChange, name_at}
use Rattle.txn_folder_model.proofs.Frames.{step_own, drawn_owns}
use Rattle.txn_folder_model.proofs.Stepping.{nobody, second_true}
use Rattle.txn_folder_model.proofs.Events.{by_event, cleaned, Places, step_files, step_temps, step_from}
use Rattle.txn_folder_model.proofs.Facts.{number_of}
use Rattle.txn_folder_model.proofs.Sealed.{limit, Rests, HasAll, Sealed, Made, WorkSo, CallSo, AllSo, sealed_on, work_on}
use Rattle.txn_folder_model.proofs.Turning.{put_turned, rests_on, rests_keep, linked_rests, renamed_rests, plain_ask, number_on}
use Rattle.txn_folder_model.proofs.Syncing.{Acts, create_step, update_step, delete_step, get_step}

module _ (floor : ℕ) (events : ℕ → Event) (syncs : Syncs) where
  module _ (t : ℕ) where
    abbrev w : World
    w = world floor events t

    -- a call is what it was, or took a step
    abbrev pub Goes : ℕ → Call → Type 0
    Goes c k = (k.work ≡ (w.calls c).work) ⊎ ((told : Told) × (k.work ≡ turned (w.calls c).work told))

    -- what holds of a call whatever it is told
    goes_on : (P : Work → Type 0) → ((work : Work) (told : Told) → P work → P (turned work told)) → (c : ℕ) (k : Call) → Goes c k → P (w.calls c).work → P k.work
    goes_on P turns c k (inl same) has = subst P (sym same) has
    goes_on P turns c k (inr (told, is)) has = subst P (sym is) (turns (w.calls c).work told has)

    -- What an event leaves, in a world that follows.
    pub record Leaves (v : World) : Type 0 where
      pub more : w.count ≤ v.count
      pub owners : (n d : ℕ) → w.owners n ≡ Some d → v.owners n ≡ Some d
      pub files : (file : ℕ) → ¬ (ChangesAt floor events t file) → v.folder.files file ≡ w.folder.files file
      pub temps : (c file : ℕ) → v.folder.names (Temporary c) ≡ Some file → file ≡ c
      pub works : (c : ℕ) → c < w.count → Goes c (v.calls c)

    module _ (all : AllSo floor events syncs t w) where
      made_on : (v : World) → Leaves v → (place : Place) (file : ℕ) → Made floor events syncs t w place file → Made floor events syncs (suc t) v place file
      made_on v leaves place file made =
          let never : ¬ (ChangesAt floor events t file) = λ changes. rests_keep file (w.calls file).work made.rests changes.asks in
          let same = leaves.files file never in
          let low = made.low in
          let more = leaves.more in
          record {
            low = omega (arith, low, more);
            put = subst (λ (f : File). IsPut (v.calls file).work place f.bytes) (sym same) (goes_on (λ k. IsPut k place (w.folder.files file).bytes) (λ k told is. put_turned k told place (w.folder.files file).bytes is) file (v.calls file) (leaves.works file made.low) made.put);
            sealed = sealed_on floor events syncs t w v file never same made.sealed;
            rests = goes_on Rests rests_on file (v.calls file) (leaves.works file made.low) made.rests;
            number = ap (λ (f : File). v.owners f.time) same ∙ leaves.owners (w.folder.files file).time file made.number;
          }

      kept : (v : World) → Leaves v → (place : Place) (file m : ℕ) → m ≤ t → name_at floor events m place ≡ Some file → v.folder.files file ≡ w.folder.files file
      kept v leaves place file m past is = leaves.files file (λ changes. rests_keep file (w.calls file).work (all.ever m place file past is).rests changes.asks)

      -- a name of a place that an event gave
      abbrev pub Gives : World → Type 0
      Gives v = (place : Place) (file : ℕ) → v.folder.names (At place) ≡ Some file → (w.folder.names (At place) ≡ Some file) ⊎ Made floor events syncs (suc t) v place file

      all_on : (v : World) → world floor events (suc t) ≡ v → Leaves v → Gives v → ((c : ℕ) → c < v.count → CallSo floor events syncs (suc t) v c (v.calls c)) → AllSo floor events syncs (suc t) v
      all_on v now leaves gives calls = record {
        calls = calls;
        temps = leaves.temps;
        ever = λ m place file past is. ever m place file is (cases_lt m (suc t)) past;
      }
        where
          given : (place : Place) (file : ℕ) → (w.folder.names (At place) ≡ Some file) ⊎ Made floor events syncs (suc t) v place file → Made floor events syncs (suc t) v place file
          given place file (inl old) = made_on v leaves place file (all.ever t place file (omega arith) old)
          given place file (inr new) = new

          ever : (m : ℕ) (place : Place) (file : ℕ) → name_at floor events m place ≡ Some file → (m < suc t) ⊎ (suc t ≤ m) → m ≤ suc t → Made floor events syncs (suc t) v place file
          ever m place file is (inl before) past = made_on v leaves place file (all.ever m place file (omega (arith, before)) is)
          ever m place file is (inr most) past =
              let same : m ≡ suc t = omega (arith, most, past) in
              given place file (gives place file (sym (ap (λ (x : World). x.folder.names (At place)) now) ∙ subst (λ (x : ℕ). name_at floor events x place ≡ Some file) same is))

      -- what holds of a call that the event is not of, or that only ends
      call_on : (v : World) → Leaves v → (c : ℕ) (k : Call) → v.folder.files c ≡ w.folder.files c → k.work ≡ (w.calls c).work → k.began ≡ (w.calls c).began → limit t (w.calls c).ended ≤ limit (suc t) k.ended → ((reply : Reply) → k.answer ≡ Some reply → verdict_of (w.calls c).work ≡ Some (Tells reply)) → (k.ended ≡ None → k.answer ≡ None) → CallSo floor events syncs t w c (w.calls c) → CallSo floor events syncs (suc t) v c k
      call_on v leaves c k same works began most told silent h = let began_is = h.began_is in record {
        work = subst (λ (x : ℕ). WorkSo floor events syncs (suc t) v (limit (suc t) k.ended) x c k.work) (sym began)
            (subst (λ (x : Work). WorkSo floor events syncs (suc t) v (limit (suc t) k.ended) (w.calls c).began c x) (sym works)
            (work_on floor events syncs t w v (kept v leaves) (limit t (w.calls c).ended) (limit (suc t) k.ended) (w.calls c).began c most same (w.calls c).work (λ plain changes. plain changes.asks) h.work));
        number = λ n is. leaves.owners n c (h.number n (ap number_of (sym works) ∙ is));
        began_is = omega (arith, began, began_is);
        told = λ reply is. ap verdict_of works ∙ told reply is;
        silent = silent;
      }

      later : (end : Option ℕ) → limit t end ≤ limit (suc t) end
      later None = omega arith
      later (Some end) = omega arith

      same_on : (v : World) → Leaves v → (c : ℕ) → v.folder.files c ≡ w.folder.files c → CallSo floor events syncs t w c (w.calls c) → CallSo floor events syncs (suc t) v c (w.calls c)
      same_on v leaves c same h = call_on v leaves c (w.calls c) same refl refl (later (w.calls c).ended) h.told h.silent h

      -- One call is another, or takes a step.

      others : (v : World) → Leaves v → (c : ℕ) (k : Call) → ((file : ℕ) → ¬ (file ≡ c) → v.folder.files file ≡ w.folder.files file) → (c < w.count → CallSo floor events syncs (suc t) v c k) → (d : ℕ) → d < w.count → (b : Bool) → (d == c) ≡ b → CallSo floor events syncs (suc t) v d (if b then k else w.calls d)
      others v leaves c k files new d low true is = subst (λ (x : ℕ). CallSo floor events syncs (suc t) v x k) (sym (eqb-true d c is)) (new (subst (λ (x : ℕ). x < w.count) (eqb-true d c is) low))
      others v leaves c k files new d low false is = same_on v leaves d (files d (eqb-false d c is)) (all.calls d low)

      -- works are those before
      works_by : (c : ℕ) (k : Call) → Goes c k → (d : ℕ) (b : Bool) → (d == c) ≡ b → Goes d (if b then k else w.calls d)
      works_by c k goes d true is = subst (λ (x : ℕ). Goes x k) (sym (eqb-true d c is)) goes
      works_by c k goes d false is = inl refl

      -- where the folder and the owners stay, but for locks and temporary names
      pub record Still (v : World) : Type 0 where
        pub owners : v.owners ≡ w.owners
        pub files : (file : ℕ) → v.folder.files file ≡ w.folder.files file
        pub places : (place : Place) → v.folder.names (At place) ≡ w.folder.names (At place)
        pub temps : (c file : ℕ) → v.folder.names (Temporary c) ≡ Some file → file ≡ c

      gives_none : (v : World) → Still v → Gives v
      gives_none v still place file is = inl (sym (still.places place) ∙ is)

      still_leaves : (v : World) → Still v → w.count ≤ v.count → ((c : ℕ) → c < w.count → Goes c (v.calls c)) → Leaves v
      still_leaves v still more works = record {
        more = more;
        owners = λ n d is. ap (λ (o : ℕ → Option ℕ). o n) still.owners ∙ is;
        files = λ file never. still.files file;
        temps = still.temps;
        works = works;
      }

      -- an event that changes nothing of the calls
      quiet : (v : World) → world floor events (suc t) ≡ v → v.calls ≡ w.calls → v.count ≡ w.count → Still v → AllSo floor events syncs (suc t) v
      quiet v now calls count still = all_on v now leaves (gives_none v still) (λ c low. subst (λ (k : ℕ → Call). CallSo floor events syncs (suc t) v c (k c)) (sym calls) (same_on v leaves c (still.files c) (all.calls c (omega (arith, low, count)))))
        where
          leaves : Leaves v
          leaves = still_leaves v still (omega (arith, count)) (λ c low. inl (ap (λ (k : ℕ → Call). (k c).work) calls))

      -- a call ends
      end_of : (v : World) → world floor events (suc t) ≡ v → (c : ℕ) (answer : Option Reply) → v.count ≡ w.count → ((d : ℕ) → v.calls d ≡ (if d == c then ended_with t answer (w.calls c) else w.calls d)) → (w.calls c).ended ≡ None → ((reply : Reply) → answer ≡ Some reply → verdict_of (w.calls c).work ≡ Some (Tells reply)) → Still v → AllSo floor events syncs (suc t) v
      end_of v now c answer count calls on told still = all_on v now leaves (gives_none v still) (λ d low. subst (CallSo floor events syncs (suc t) v d) (sym (calls d)) (others v leaves c (ended_with t answer (w.calls c)) (λ file other. still.files file) ends d (omega (arith, low, count)) (d == c) refl))
        where
          leaves : Leaves v
          leaves = still_leaves v still (omega (arith, count)) (λ d low. subst (Goes d) (sym (calls d)) (works_by c (ended_with t answer (w.calls c)) (inl refl) d (d == c) refl))

          ends : c < w.count → CallSo floor events syncs (suc t) v c (ended_with t answer (w.calls c))
          ends low = call_on v leaves c (ended_with t answer (w.calls c)) (still.files c) refl refl (subst (λ (o : Option ℕ). limit t o ≤ t) (sym on) (omega arith)) told (λ is. absurd (cc)) (all.calls c low)

      -- A call takes a step.

      module _ (c : ℕ) (way : Way) (step : events t ≡ Step c way) (on : runs w c ≡ true) (may : may_draw floor w.owners way ≡ true) where
        abbrev its : Call
        its = w.calls c

        low : c < w.count
        low = ltb-true c w.count (second_true (nat_lt c w.count) (not (is_some its.ended)) on).0

        open_now : its.ended ≡ None
        open_now = nobody its.ended (second_true (nat_lt c w.count) (not (is_some its.ended)) on).1

        h : CallSo floor events syncs t w c its
        h = all.calls c low

        acts : Acts floor events syncs t c way
        acts = record { step = step; goes = on; began_is = h.began_is; own = all.temps c; made = λ place file is. (all.ever t place file (omega arith) is).number }

        abbrev next : Ask → World
        next ask = stepped c ask way w

        owns : (ask : Ask) (n d : ℕ) → w.owners n ≡ Some d → drawn w.owners c ask way n ≡ Some d
        owns ask n d has = drawn_owns floor w.owners c ask way may n d has

        files_by : (ask : Ask) → asked c its.work ≡ Some ask → (file : ℕ) → ¬ (ChangesAt floor events t file) → (b : Bool) → (file == c) ≡ b → (next ask).folder.files file ≡ w.folder.files file
        files_by ask asks file never false is = step_files c w.folder ask way file (eqb-false file c is)
        files_by ask asks file never true is =
            let same = eqb-true file c is in
            subst (λ (x : ℕ). (next ask).folder.files x ≡ w.folder.files x) (sym same)
            (step_own c w.folder ask way (plain_ask ask (λ changes. never (subst (ChangesAt floor events t) (sym same) (record { way = way; step = step; goes = on; asks = subst MayChange (sym asks) changes })))))

        leaves : (ask : Ask) → asked c its.work ≡ Some ask → Leaves (next ask)
        leaves ask asks = record {
          more = omega arith;
          owners = owns ask;
          files = λ file never. files_by ask asks file never (file == c) refl;
          temps = step_temps c w.folder all.temps ask way;
          works = λ d few. works_by c (worked its (turned its.work (step_told c ask way w.folder))) (inr (step_told c ask way w.folder, refl)) d (d == c) refl;
        }

        -- its work after the step
        abbrev SoNow : Work → Type 0
        SoNow work = WorkSo floor events syncs t w t its.began c work

        abbrev Turns : Work → Ask → Type 0
        Turns work ask = WorkSo floor events syncs (suc t) (next ask) (suc t) its.began c (turned work (step_told c ask way w.folder))

        abbrev Known : Ask → Type 0
        Known ask = world floor events (suc t) ≡ next ask

        as_asked : (work : Work) (was ask : Ask) → its.work ≡ work → asked c work ≡ Some was → was ≡ ask → (Leaves (next was) → Known was → Turns work was) → Known ask → Turns work ask
        as_asked work was ask is asks same turn now = subst (λ (a : Ask). Known a → Turns work a) same (turn (leaves was (ap (asked c) is ∙ asks))) now

        turn : (work : Work) (ask : Ask) → its.work ≡ work → asked c work ≡ Some ask → Known ask → SoNow work → Turns work ask
        turn (Creates place bytes (Is state)) ask is asks now so = as_asked (Creates place bytes (Is state)) (create_asked c place bytes state) ask is refl (same_Some (create_asked c place bytes state) ask asks) (λ left next_is. create_step floor events syncs t c place bytes state way acts is (kept (next (create_asked c place bytes state)) left) next_is so) now
        turn (Gets place known (Is state)) ask is asks now so = as_asked (Gets place known (Is state)) (steps.get_asked place state) ask is refl (same_Some (steps.get_asked place state) ask asks) (λ left next_is. get_step floor events syncs t c place known state way acts is (kept (next (steps.get_asked place state)) left) so) now
        turn (Updates bytes token (Is state)) ask is asks now so = as_asked (Updates bytes token (Is state)) (update_asked c bytes state) ask is refl (same_Some (update_asked c bytes state) ask asks) (λ left next_is. update_step floor events syncs t c bytes token state way acts is (λ n e. h.number n (ap number_of (is ∙ ap (λ (s : steps.Updating). Updates bytes token (Is s)) e))) (kept (next (update_asked c bytes state)) left) next_is so) now
        turn (Deletes id (Is state)) ask is asks now so = as_asked (Deletes id (Is state)) (steps.delete_asked id state) ask is refl (same_Some (steps.delete_asked id state) ask asks) (λ left next_is. delete_step floor events syncs t c id state way acts is (kept (next (steps.delete_asked id state)) left) next_is so) now
        turn (Creates place bytes (Ends verdict)) ask is asks now so = absurd (cc)
        turn (Gets place known (Ends verdict)) ask is asks now so = absurd (cc)
        turn (Updates bytes token (Ends verdict)) ask is asks now so = absurd (cc)
        turn (Deletes id (Ends verdict)) ask is asks now so = absurd (cc)

        turned_so : (ask : Ask) → asked c its.work ≡ Some ask → Known ask → CallSo floor events syncs (suc t) (next ask) c (worked its (turned its.work (step_told c ask way w.folder)))
        turned_so ask asks now = let began_is = h.began_is in record {
          work = subst (λ (o : Option ℕ). WorkSo floor events syncs (suc t) (next ask) (limit (suc t) o) its.began c (turned its.work (step_told c ask way w.folder))) (sym open_now)
              (turn its.work ask refl asks now (subst (λ (o : Option ℕ). WorkSo floor events syncs t w (limit t o) its.began c its.work) open_now h.work));
          number = number_on c w.folder w.owners way owns its.work ask asks h.number;
          began_is = omega (arith, began_is);
          told = λ reply is. absurd (let clash : None ≡ Some reply = sym (h.silent open_now) ∙ is in cc);
          silent = λ none. h.silent open_now;
        }

        -- what it gave a place's name
        made_of : (ask : Ask) (place : Place) (bytes : List ℕ) (n : ℕ) → asked c its.work ≡ Some ask → ¬ (MayChange (Some ask)) → HasAll (w.folder.files c) bytes n × Sealed floor events syncs t w c → w.owners n ≡ Some c → IsPut (turned its.work (step_told c ask way w.folder)) place bytes → Rests (turned its.work (step_told c ask way w.folder)) → Made floor events syncs (suc t) (next ask) place c
        made_of ask place bytes n asks plain so number put rests =
            let never : ¬ (ChangesAt floor events t c) = λ changes. plain (subst MayChange asks changes.asks) in
            let same = (leaves ask asks).files c never in
            let now : (next ask).calls c ≡ worked its (turned its.work (step_told c ask way w.folder)) = rw (eq-eqb c c refl) refl in
            record {
              low = low;
              put = subst (λ (k : Call). IsPut k.work place ((next ask).folder.files c).bytes) (sym now) (subst (IsPut (turned its.work (step_told c ask way w.folder)) place) (sym (ap (λ (f : File). f.bytes) same ∙ so.0.0)) put);
              sealed = sealed_on floor events syncs t w (next ask) c never same so.1;
              rests = subst (λ (k : Call). Rests k.work) (sym now) rests;
              number = ap (λ (f : File). (next ask).owners f.time) same ∙ ap (next ask).owners so.0.1 ∙ owns ask n c number;
            }

        abbrev GivesIt : Ask → Place → Type 0
        GivesIt ask place = Places ask place → Made floor events syncs (suc t) (next ask) place c

        links_it : (there : Place) (bytes : List ℕ) (n : ℕ) (place : Place) → its.work ≡ Creates there bytes (Is (steps.Links n)) → SoNow (Creates there bytes (Is (steps.Links n))) → GivesIt (Link there) place
        links_it there bytes n place is so same =
            made_of (Link there) place bytes n (ap (asked c) is) (λ changes. changes) so (h.number n (ap number_of is))
            (subst (λ (k : Work). IsPut (turned k (step_told c (Link there) way w.folder)) place bytes) (sym is) (same, refl))
            (subst (λ (k : Work). Rests (turned k (step_told c (Link there) way w.folder))) (sym is) (linked_rests there bytes n (step_told c (Link there) way w.folder)))

        renames_it : (bytes : List ℕ) (token n : ℕ) (place : Place) → its.work ≡ Updates bytes token (Is (steps.Renames n)) → SoNow (Updates bytes token (Is (steps.Renames n))) → GivesIt (Rename Boundary) place
        renames_it bytes token n place is so same =
            made_of (Rename Boundary) place bytes n (ap (asked c) is) (λ changes. changes) so (h.number n (ap number_of is))
            (subst (λ (k : Work). IsPut (turned k (step_told c (Rename Boundary) way w.folder)) place bytes) (sym is) (same, refl))
            (subst (λ (k : Work). Rests (turned k (step_told c (Rename Boundary) way w.folder))) (sym is) (renamed_rests bytes token n (step_told c (Rename Boundary) way w.folder)))

        creates_it : (there : Place) (bytes : List ℕ) (state : steps.Creating) (place : Place) → its.work ≡ Creates there bytes (Is state) → SoNow (Creates there bytes (Is state)) → GivesIt (create_asked c there bytes state) place
        creates_it there bytes (steps.Links n) place is so = links_it there bytes n place is so
        creates_it there bytes state place is so = λ never. absurd never

        updates_it : (bytes : List ℕ) (token : ℕ) (state : steps.Updating) (place : Place) → its.work ≡ Updates bytes token (Is state) → SoNow (Updates bytes token (Is state)) → GivesIt (update_asked c bytes state) place
        updates_it bytes token (steps.Renames n) place is so = renames_it bytes token n place is so
        updates_it bytes token state place is so = λ never. absurd never

        gets_it : (there : Place) (state : steps.Getting) (place : Place) → GivesIt (steps.get_asked there state) place
        gets_it there steps.Looks place never = absurd never
        gets_it there state place never = absurd never

        deletes_it : (id : ℕ) (state : steps.Deleting) (place : Place) → GivesIt (steps.delete_asked id state) place
        deletes_it id steps.Peeks place never = absurd never
        deletes_it id state place never = absurd never

        gives_it : (work : Work) (ask : Ask) (place : Place) → its.work ≡ work → asked c work ≡ Some ask → SoNow work → GivesIt ask place
        gives_it (Creates there bytes (Is state)) ask place is asks so = subst (λ (a : Ask). GivesIt a place) (same_Some (create_asked c there bytes state) ask asks) (creates_it there bytes state place is so)
        gives_it (Updates bytes token (Is state)) ask place is asks so = subst (λ (a : Ask). GivesIt a place) (same_Some (update_asked c bytes state) ask asks) (updates_it bytes token state place is so)
        gives_it (Gets there known (Is state)) ask place is asks so = subst (λ (a : Ask). GivesIt a place) (same_Some (steps.get_asked there state) ask asks) (gets_it there state place)
        gives_it (Deletes id (Is state)) ask place is asks so = subst (λ (a : Ask). GivesIt a place) (same_Some (steps.delete_asked id state) ask asks) (deletes_it id state place)
        gives_it (Creates there bytes (Ends verdict)) ask place is asks so = absurd (cc)
        gives_it (Gets there known (Ends verdict)) ask place is asks so = absurd (cc)
        gives_it (Updates bytes token (Ends verdict)) ask place is asks so = absurd (cc)
        gives_it (Deletes id (Ends verdict)) ask place is asks so = absurd (cc)

        gives : (ask : Ask) → asked c its.work ≡ Some ask → Gives (next ask)
        gives ask asks place file is = by (step_from c w.folder place file ask way is)
          where
            by : (w.folder.names (At place) ≡ Some file) ⊎ (Places ask place × (w.folder.names (Temporary c) ≡ Some file)) → (w.folder.names (At place) ≡ Some file) ⊎ Made floor events syncs (suc t) (next ask) place file
            by (inl old) = inl old
            by (inr new) = inr (subst (Made floor events syncs (suc t) (next ask) place) (sym (all.temps c file new.1)) (gives_it its.work ask place refl asks (subst (λ (o : Option ℕ). WorkSo floor events syncs t w (limit t o) its.began c its.work) open_now h.work) new.0))

        pub stepped_so : (ask : Ask) → asked c its.work ≡ Some ask → Known ask → AllSo floor events syncs (suc t) (next ask)
        stepped_so ask asks now = all_on (next ask) now (leaves ask asks) (gives ask asks) (λ d few. others (next ask) (leaves ask asks) c (worked its (turned its.work (step_told c ask way w.folder))) (λ file other. step_files c w.folder ask way file other) (λ here. turned_so ask asks now) d few (d == c) refl)

      -- Each event.

      abbrev Then : Event → World → Type 0
      Then e v = events t ≡ e → world floor events (suc t) ≡ v → AllSo floor events syncs (suc t) v

      still_here : Still w
      still_here = record { owners = refl; files = λ file. refl; places = λ place. refl; temps = all.temps }

      cleaned_temps : (c d file : ℕ) → (b : Bool) → (if b then None else w.folder.names (Temporary d)) ≡ Some file → file ≡ d
      cleaned_temps c d file true is = absurd (cc)
      cleaned_temps c d file false is = all.temps d file is

      cleans_so : (c : ℕ) → Then (Clean c) (cleaned c w)
      cleans_so c is now = quiet (cleaned c w) now refl refl (record { owners = refl; files = λ file. refl; places = λ place. refl; temps = λ d file e. cleaned_temps c d file (d == c) e })

      answer_told : (work : Work) (verdict : Verdict) → verdict_of work ≡ Some verdict → (reply : Reply) → answer_of verdict ≡ Some reply → verdict_of work ≡ Some (Tells reply)
      answer_told work (Tells other) is reply same = is ∙ ap (λ (r : Reply). Some (Tells r)) (same_Some other reply same)
      answer_told work Fails is reply same = absurd (cc)

      open_of : (c : ℕ) → runs w c ≡ true → (w.calls c).ended ≡ None
      open_of c on = nobody (w.calls c).ended (second_true (nat_lt c w.count) (not (is_some (w.calls c).ended)) on).1

      ends_so : (c : ℕ) (way : Way) (verdict : Verdict) → runs w c ≡ true → verdict_of (w.calls c).work ≡ Some verdict → Then (Step c way) (answers t c (Some verdict) w)
      ends_so c way verdict on says is now = end_of (answers t c (Some verdict) w) now c (answer_of verdict) refl (λ d. refl) (open_of c on) (answer_told (w.calls c).work verdict says) (record { owners = refl; files = λ file. refl; places = λ place. refl; temps = all.temps })

      kills_so : (c : ℕ) → runs w c ≡ true → Then (Kill c) (killed t c w)
      kills_so c on is now = end_of (killed t c w) now c None refl (λ d. refl) (open_of c on) (λ reply none. absurd (cc)) (record { owners = refl; files = λ file. refl; places = λ place. refl; temps = all.temps })

      module _ (client : ℕ) (job : Job) where
        abbrev new : Call
        new = record { client = client; work = first_work job; began = t; ended = None; answer = None }

        abbrev there : World
        there = begun t client job w

        job_so : (v : World) (c : ℕ) (other : Job) → WorkSo floor events syncs (suc t) v (suc t) t c (first_work other)
        job_so v c (Create true place bytes) = tt
        job_so v c (Create false place bytes) = tt
        job_so v c (Get place known) = tt
        job_so v c (Update bytes token) = tt
        job_so v c (Delete id) = tt

        no_number : (n : ℕ) (other : Job) → number_of (first_work other) ≡ Some n → ⊥
        no_number n (Create true place bytes) is = cc
        no_number n (Create false place bytes) is = cc
        no_number n (Get place known) is = cc
        no_number n (Update bytes token) is = cc
        no_number n (Delete id) is = cc

        new_so : (c : ℕ) → CallSo floor events syncs (suc t) there c new
        new_so c = record { work = job_so there c job; number = λ n is. absurd (no_number n job is); began_is = omega arith; told = λ reply is. absurd (cc); silent = λ none. refl }

        still_there : Still there
        still_there = record { owners = refl; files = λ file. refl; places = λ place. refl; temps = all.temps }

        begins_leaves : Leaves there
        begins_leaves = still_leaves there still_there (omega arith) (λ c few. old c few (c == w.count) refl)
          where
            old : (c : ℕ) → c < w.count → (b : Bool) → (c == w.count) ≡ b → Goes c (if b then new else w.calls c)
            old c few true is = absurd (let same = eqb-true c w.count is in omega (arith, few, same))
            old c few false is = inl refl

        begins_so : Then (Begin client job) there
        begins_so is now = all_on there now begins_leaves (gives_none there still_there) (λ c few. by c few (c == w.count) refl)
          where
            by : (c : ℕ) → c < suc w.count → (b : Bool) → (c == w.count) ≡ b → CallSo floor events syncs (suc t) there c (if b then new else w.calls c)
            by c few true same = new_so c
            by c few false same = same_on there begins_leaves c refl (all.calls c (let other = eqb-false c w.count same in omega (arith, few, other)))

      pub event_so : Then (events t) (after floor t (events t) w)
      event_so = by_event floor t w Then (record {
        begins = begins_so;
        idles = λ c way is now. quiet w now refl refl still_here;
        ends = ends_so;
        steps = λ c way ask on asks may is now. stepped_so c way is on may ask asks now;
        rests = λ c is now. quiet w now refl refl still_here;
        kills = kills_so;
        cleans = cleans_so;
      }) (events t)

  first_so : AllSo floor events syncs zero opening
  first_so = record {
    calls = λ c low. absurd (omega (arith, low));
    temps = λ c file is. absurd (cc);
    ever = λ m place file past is. absurd (let now : m ≡ 0 = omega (arith, past) in let clash : None ≡ Some file = subst (λ (x : ℕ). name_at floor events x place ≡ Some file) now is in cc);
  }

  pub all_so : (t : ℕ) → AllSo floor events syncs t (world floor events t)
  all_so zero = first_so
  all_so (suc t) = event_so t (all_so t) refl refl

  -- what a step leaves of a file that has had a name
  module _ (t : ℕ) where
    abbrev KeepsFiles : Event → World → Type 0
    KeepsFiles e v = events t ≡ e → (file : ℕ) → ¬ (ChangesAt floor events t file) → v.folder.files file ≡ (w t).folder.files file

    files_next : KeepsFiles (events t) (after floor t (events t) (w t))
    files_next = by_event floor t (w t) KeepsFiles (record {
      begins = λ client job is file never. refl;
      idles = λ c way is file never. refl;
      ends = λ c way verdict on says is file never. refl;
      steps = λ c way ask on asks may is file never. files_by t (all_so t) c way is on may ask asks file never (file == c) refl;
      rests = λ c is file never. refl;
      kills = λ c on is file never. refl;
      cleans = λ c is file never. refl;
    }) (events t)

  pub file_since : (place : Place) (file from to : ℕ) → from ≤ to → name_at floor events from place ≡ Some file → (world floor events to).folder.files file ≡ (world floor events from).folder.files file
  file_since place file from zero since is = let now : from ≡ zero = omega (arith, since) in ap (λ (x : ℕ). (world floor events x).folder.files file) (sym now)
  file_since place file from (suc to) since is = elim (cases_lt from (suc to)) [
    | inl less ↦
        let made = (all_so to).ever from place file (omega (arith, less)) is in
        files_next to refl file (λ changes. rests_keep file ((world floor events to).calls file).work made.rests changes.asks) ∙ file_since place file from to (omega (arith, less)) is
    | inr most ↦ let now : from ≡ suc to = omega (arith, since, most) in ap (λ (x : ℕ). (world floor events x).folder.files file) (sym now)
  ]

  -- what is left of what has a name is whole
  pub left_whole : (t number : ℕ) (left : AfterCut) (place : Place) → IsLeft floor events syncs t left → left.names place ≡ Some number → IsWhole floor events t place number (left.files number)
  left_whole t number left place is has =
      let name = is.names place in
      let made = (all_so t).ever name.at place number name.past (sym name.is ∙ has) in
      let seal = made.sealed in
      let same : left.files number ≡ (world floor events t).folder.files number = is.files number seal.at seal.past seal.synced seal.still ∙ sym seal.same in
      record { made = made.low; put = subst (λ (f : File). IsPut ((world floor events t).calls number).work place f.bytes) (sym same) made.put; stood = same }
