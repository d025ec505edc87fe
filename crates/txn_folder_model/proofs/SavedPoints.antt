-- The calls up to a moment, of a cut that syncs came before: each has a point where its change was saved, or where it read.
use Rattle.std.proofs.Common.{◌≡◌, ℕ, ◌^◌, ◌<◌, ◌≤◌, Bool, true, false, Option, Some, None, Ok, refl, ap, sym, subst, ◌∙◌, arith, ◌⊎◌, inl, inr}
use Rattle.std.specs.Prelude.{List, nat_lt}
use Rattle.std.proofs.lemmas.Bool.{lt-ltb, ltb-true, ltb-false}
use Rattle.std.proofs.lemmas.Option.{same_Some}
use Rattle.txn_store.specs.Paths.{Segments}
use Rattle.txn_store.specs.VersionName.{Names}
use Rattle.txn_store.specs.declared.request.Request.{Request}
use Rattle.txn_store.specs.declared.request.Request.TheVariants as requests
use Rattle.txn_store.specs.declared.request.Reply.{Reply}
use Rattle.txn_store.specs.declared.request.Reply.TheVariants as replies
use Rattle.txn_folder.specs.steps.Folders.{Place, Version, Boundary}
use Rattle.txn_folder.specs.steps.Steps as steps
use Rattle.txn_folder.specs.steps.Steps.{Tells, Fails, Phase, Work, Creates, Gets, Updates, Deletes}
use Rattle.txn_folder_model.specs.Worlds.{World, Event, IsPlace, world}
use Rattle.txn_folder_model.specs.Linear.{Point, IsApart, IsDone, path_of, request_of}
use Rattle.txn_folder_model.specs.Power.{Syncs, SyncsNames, IsFound, IsPut, SyncsAll}
use Rattle.txn_folder_model.proofs.Ghosts.{Change, Created, Updated, Removed, Effect, Ghost, effect_of, change_request, change_reply, ghost_at}
use Rattle.txn_folder_model.proofs.Facts.{MayDo, By, NoWrite, HasWritten, Outcome, Not, May, Must, Wrote, IsSo, outcome_of, bound, Holds}
use Rattle.txn_folder_model.proofs.Stepping.{fits_of}
use Rattle.txn_folder_model.proofs.Points.{change_done, must_tell}
use Rattle.txn_folder_model.proofs.Theorem.{Allowed, all_holds}
use Rattle.txn_folder_model.proofs.Lasting.{put_synced, is_gone}
use Rattle.txn_folder_model.proofs.ChangedPaths.{EffectIn, asked_path, change_path, effect_in_place, place_of, same_by_path}
use Rattle.txn_folder_model.proofs.SavedReads as saved_reads

-- the reply of an outcome, where it must tell one
may_told : (reply told : Reply) → May reply ≡ Must (Tells told) → reply ≡ told
may_told reply told is = absurd (cc)

must_told : (reply told : Reply) → Must (Tells reply) ≡ Must (Tells told) → reply ≡ told
must_told reply told is = cc

fails_told : (reply told : Reply) → Must Fails ≡ Must (Tells told) → reply ≡ told
fails_told reply told is = absurd (cc)

module _ (names : Names) (boundary : Segments) (floor : ℕ) (events : ℕ → Event) (apart : IsApart names boundary) (may : Allowed floor events) (cut : Place → ℕ) (syncs : Syncs) (n : ℕ) (room : n < 2 ^ 64) (late : (p : Place) (s : ℕ) → s < n → SyncsNames floor events syncs s p → s ≤ cut p) where
  abbrev path : Place → Segments
  path p = path_of names boundary p

  abbrev g : ℕ → Ghost
  g s = ghost_at names boundary floor events s

  abbrev e : ℕ → Option Effect
  e s = effect_of (world floor events s) (events s)

  abbrev w : World
  w = world floor events n

  holds : (s : ℕ) → s < 2 ^ 64 → Holds names boundary floor g e s (world floor events s)
  holds s few = all_holds names boundary floor events apart may s few

  h : Holds names boundary floor g e n w
  h = holds n room

  abbrev Its : ℕ → Request
  Its c = request_of names boundary (w.calls c).work

  abbrev Reads : ℕ → Type 0
  Reads c = saved_reads.Reads names boundary floor events apart may cut syncs n room late c

  abbrev Read : ℕ → Reply → Type 0
  Read c reply = saved_reads.Read names boundary floor events apart may cut syncs n room late c reply

  abbrev reads_of : (c : ℕ) → c < w.count → Reads c
  reads_of c low = saved_reads.reads_of names boundary floor events apart may cut syncs n room late c low

  abbrev WroteBy : ℕ → Reply → Type 0
  WroteBy c reply = Wrote names boundary floor g e n (bound n (w.calls c).ended) (w.calls c).began c (Its c) reply

  abbrev So : ℕ → Outcome → Type 0
  So c o = IsSo names boundary floor g e n (bound n (w.calls c).ended) (w.calls c).began c (Its c) o

  -- a reply that such a call can be answered with
  abbrev Replies : ℕ → Outcome → Reply → Type 0
  Replies c o reply = (told : Reply) → o ≡ Must (Tells told) → reply ≡ told

  -- what a call changed
  abbrev Did : ℕ → Outcome → Type 0
  Did c o = NoWrite e n c ⊎ ((reply : Reply) × (so : WroteBy c reply) × Replies c o reply)

  abbrev did : (c : ℕ) (o : Outcome) → So c o → Did c o
  did c Not so = inl so
  did c (May reply) (inl so) = inl so
  did c (May reply) (inr so) = inr (reply, so, may_told reply)
  did c (Must (Tells reply)) (inl so) = inr (reply, so, must_told reply)
  did c (Must (Tells reply)) (inr so) = inl so.0
  did c (Must Fails) (inl so) = inl so
  did c (Must Fails) (inr so) = inr (so.0, so.1, fails_told so.0)

  abbrev point_if : (c : ℕ) (reply : Reply) → WroteBy c reply → Bool → Option Point
  point_if c reply so true = Some (record { at = so.at; writes = true; reply = reply })
  point_if c reply so false = None

  abbrev point_in : (c : ℕ) (o : Outcome) → Did c o → Option Point
  point_in c o (inl never) = None
  point_in c o (inr (reply, so, told)) = point_if c reply so (nat_lt so.at (cut (place_of so.change)))

  abbrev read_point : (c : ℕ) → Reads c → Option Point
  read_point c (inl none) = None
  read_point c (inr (reply, r)) = Some (record { at = r.at; writes = false; reply = reply })

  -- the point of its change, or else of what it read
  abbrev point_or : Option Point → Option Point → Option Point
  point_or None other = other
  point_or (Some p) other = Some p

  abbrev wrote_point : (c : ℕ) → c < w.count → Option Point
  wrote_point c low = point_in c (outcome_of (w.calls c).work) (did c (outcome_of (w.calls c).work) (h.calls c low).outcome)

  abbrev point_by : (c : ℕ) (b : Bool) → nat_lt c w.count ≡ b → Option Point
  point_by c true is = point_or (wrote_point c (ltb-true c w.count is)) (read_point c (reads_of c (ltb-true c w.count is)))
  point_by c false is = None

  pub points : ℕ → Option Point
  points c = point_by c (nat_lt c w.count) refl

  -- a change that was not saved, or none
  abbrev Unsaved : ℕ → Type 0
  Unsaved c = NoWrite e n c ⊎ ((reply : Reply) × (so : WroteBy c reply) × (cut (place_of so.change) ≤ so.at))

  -- what a point is
  data Seen (c : ℕ) (o : Option Point) : Type 0 where
    Nowhere : o ≡ None → Unsaved c → Seen c o
    Writes : (reply : Reply) (so : WroteBy c reply) → so.at < cut (place_of so.change) → ((told : Reply) → (w.calls c).answer ≡ Some told → reply ≡ told) → o ≡ Some (record { at = so.at; writes = true; reply = reply }) → Seen c o
    ReadsIt : (reply : Reply) (r : Read c reply) → Unsaved c → o ≡ Some (record { at = r.at; writes = false; reply = reply }) → Seen c o

  answers_so : (c : ℕ) (low : c < w.count) (reply : Reply) → Replies c (outcome_of (w.calls c).work) reply → (told : Reply) → (w.calls c).answer ≡ Some told → reply ≡ told
  answers_so c low reply same told answer = same told (must_tell names boundary floor g e n (w.calls c).work told ((h.calls c low).told told answer))

  seen_if : (c : ℕ) (low : c < w.count) (reply : Reply) (so : WroteBy c reply) → Replies c (outcome_of (w.calls c).work) reply → (b : Bool) → nat_lt so.at (cut (place_of so.change)) ≡ b → Seen c (point_if c reply so b)
  seen_if c low reply so same true is = Writes reply so (ltb-true so.at (cut (place_of so.change)) is) (answers_so c low reply same) refl
  seen_if c low reply so same false is = Nowhere refl (inr (reply, so, ltb-false so.at (cut (place_of so.change)) is))

  seen_in : (c : ℕ) (low : c < w.count) (d : Did c (outcome_of (w.calls c).work)) → Seen c (point_in c (outcome_of (w.calls c).work) d)
  seen_in c low (inl never) = Nowhere refl (inl never)
  seen_in c low (inr (reply, so, same)) = seen_if c low reply so same (nat_lt so.at (cut (place_of so.change))) refl

  seen_read : (c : ℕ) (r : Reads c) → Unsaved c → Seen c (read_point c r)
  seen_read c (inl none) why = Nowhere refl why
  seen_read c (inr (reply, r)) why = ReadsIt reply r why refl

  seen_or : (c : ℕ) (o : Option Point) (r : Reads c) → Seen c o → Seen c (point_or o (read_point c r))
  seen_or c o r (Nowhere none why) = subst (λ (x : Option Point). Seen c (point_or x (read_point c r))) (sym none) (seen_read c r why)
  seen_or c o r (Writes reply so low same here) = Writes reply so low same (ap (λ (x : Option Point). point_or x (read_point c r)) here)
  seen_or c o r (ReadsIt reply it why here) = ReadsIt reply it why (ap (λ (x : Option Point). point_or x (read_point c r)) here)

  seen_by : (c : ℕ) (b : Bool) (is : nat_lt c w.count ≡ b) → c < w.count → Seen c (point_by c b is)
  seen_by c true is low = seen_or c (wrote_point c (ltb-true c w.count is)) (reads_of c (ltb-true c w.count is)) (seen_in c low (did c (outcome_of (w.calls c).work) (h.calls c (ltb-true c w.count is)).outcome))
  seen_by c false is low = absurd (let most = ltb-false c w.count is in omega (arith, low, most))

  seen : (c : ℕ) → c < w.count → Seen c (points c)
  unfolding points
  seen c low = seen_by c (nat_lt c w.count) refl low

  -- what holds of changes that were saved and of what was read holds of a point
  abbrev pub OfWrites : (ℕ → Point → Type 0) → Type 0
  OfWrites P = (c : ℕ) (reply : Reply) (so : WroteBy c reply) → so.at < cut (place_of so.change) → ((told : Reply) → (w.calls c).answer ≡ Some told → reply ≡ told) → P c (record { at = so.at; writes = true; reply = reply })

  abbrev pub OfReads : (ℕ → Point → Type 0) → Type 0
  OfReads P = (c : ℕ) (reply : Reply) (r : Read c reply) → P c (record { at = r.at; writes = false; reply = reply })

  module _ (P : ℕ → Point → Type 0) (own : OfWrites P) (read : OfReads P) where
    each_by : (c : ℕ) (p : Point) (o : Option Point) → o ≡ Some p → Seen c o → P c p
    each_by c p o has (Nowhere none why) = absurd (let clash : None ≡ Some p = sym none ∙ has in cc)
    each_by c p o has (Writes reply so low same here) = subst (P c) (same_Some (record { at = so.at; writes = true; reply = reply }) p (sym here ∙ has)) (own c reply so low same)
    each_by c p o has (ReadsIt reply r why here) = subst (P c) (same_Some (record { at = r.at; writes = false; reply = reply }) p (sym here ∙ has)) (read c reply r)

    pub each : (c : ℕ) (p : Point) → c < w.count → points c ≡ Some p → P c p
    each c p low has = each_by c p (points c) has (seen c low)

  pub done_of : (c : ℕ) (reply : Reply) → WroteBy c reply → IsDone (Its c) reply
  done_of c reply so = subst (IsDone (Its c)) so.reply_is (subst (λ (q : Request). IsDone q (change_reply so.change)) so.request_is (change_done names boundary so.change))

  -- A change that was saved has its call's point.
  pub record ItsPoint (s : ℕ) (x : Effect) : Type 0 where
    pub reply : Reply
    pub so : WroteBy x.call reply
    pub at : so.at ≡ s
    pub same : x ≡ record { call = x.call; change = so.change }
    pub has : points x.call ≡ Some (record { at = so.at; writes = true; reply = reply })

  -- what was written at a moment
  wrote_at : (s : ℕ) (x : Effect) (reply : Reply) (so : WroteBy x.call reply) → s < n → e s ≡ Some x → (so.at ≡ s) × (x ≡ record { call = x.call; change = so.change })
  wrote_at s x reply so before is =
      let at : s ≡ so.at = so.only s before (x.change, is) in
      (sym at, same_Some x (record { call = x.call; change = so.change }) (sym is ∙ ap e at ∙ so.here))

  not_saved : (s : ℕ) (x : Effect) → s < n → e s ≡ Some x → s < cut (place_of x.change) → Unsaved x.call → ⊥
  not_saved s x before is kept (inl never) = never s before (x.change, is)
  not_saved s x before is kept (inr (reply, so, most)) =
      let wrote = wrote_at s x reply so before is in
      let at = wrote.0 in
      let there : cut (place_of x.change) ≤ so.at = subst (λ (y : Effect). cut (place_of y.change) ≤ so.at) (sym wrote.1) most in
      omega (arith, there, at, kept)

  its_point_by : (s : ℕ) (x : Effect) → s < n → e s ≡ Some x → s < cut (place_of x.change) → Seen x.call (points x.call) → ItsPoint s x
  its_point_by s x before is kept (Nowhere none why) = absurd (not_saved s x before is kept why)
  its_point_by s x before is kept (ReadsIt reply r why here) = absurd (not_saved s x before is kept why)
  its_point_by s x before is kept (Writes reply so less told here) = let wrote = wrote_at s x reply so before is in record { reply = reply; so = so; at = wrote.0; same = wrote.1; has = here }

  pub its_point : (s : ℕ) (x : Effect) → s < n → e s ≡ Some x → s < cut (place_of x.change) → ItsPoint s x
  its_point s x before is kept = its_point_by s x before is kept (seen x.call (h.writers s x.call before (x.change, is)))

  -- A put or a delete that was answered Ok was saved.
  pub record IsSaved (c : ℕ) : Type 0 where
    pub writes : HasWritten e n c
    pub low : (reply : Reply) (so : WroteBy c reply) → so.at < cut (place_of so.change)

  saved_by : (c s sync : ℕ) (place : Place) → c < w.count → IsPlace place → asked_path (Its c) ≡ path place → s < n → By e s c → s < sync → sync < n → SyncsNames floor events syncs sync place → IsSaved c
  saved_by c s sync place low fits asks past by before_sync before_cut synced = record {
    writes = (s, past, by);
    low = λ reply so.
        let at : s ≡ so.at = so.only s past by in
        let so_past = so.past in
        let there : IsPlace (place_of so.change) = subst EffectIn so.here (effect_in_place names boundary floor events apart may so.at (omega (arith, so_past, room))) in
        let same : place_of so.change ≡ place = same_by_path names boundary apart (place_of so.change) place there fits (change_path names boundary so.change ∙ ap asked_path so.request_is ∙ asks) in
        let most = late place sync before_cut synced in
        let less : so.at < cut place = omega (arith, at, before_sync, most) in
        subst (λ (q : Place). so.at < cut q) (sym same) less;
  }

  put_saved : (c token : ℕ) (place : Place) (bytes : List ℕ) → c < w.count → IsPlace place → asked_path (Its c) ≡ path place → IsPut (w.calls c).work place bytes → (w.calls c).answer ≡ Some (replies.Put (Ok token)) → IsSaved c
  put_saved c token place bytes low fits asks puts answered =
      let was = put_synced floor events syncs n c low place bytes token puts answered in
      let past = was.past in
      let most = was.after in
      let wrote = ((holds was.at (omega (arith, most, past, room))).placed place c was.is).0 in
      let less = wrote.1 in
      saved_by c wrote.0 was.sync place low fits asks (omega (arith, less, most, past)) wrote.2 (omega (arith, less, most)) was.past was.synced

  work_saved : (c : ℕ) (work : Work) (reply : Reply) → c < w.count → (w.calls c).work ≡ work → MayDo floor work → (w.calls c).answer ≡ Some reply → IsDone (request_of names boundary work) reply → IsSaved c
  work_saved c (Creates place bytes phase) (replies.Put (Ok token)) low is fits answered done =
      put_saved c token place bytes low (fits_of floor place bytes fits) (ap (λ (k : Work). asked_path (request_of names boundary k)) is) (subst (λ (k : Work). IsPut k place bytes) (sym is) (refl, refl)) answered
  work_saved c (Updates bytes old phase) (replies.Put (Ok token)) low is fits answered done =
      put_saved c token Boundary bytes low tt (ap (λ (k : Work). asked_path (request_of names boundary k)) is) (subst (λ (k : Work). IsPut k Boundary bytes) (sym is) (refl, refl)) answered
  work_saved c (Deletes id phase) (replies.Delete (Ok all)) low is fits answered done =
      let gone = is_gone floor events syncs n c low id phase is answered in
      let past = gone.past in
      let before_sync = gone.before in
      saved_by c gone.at gone.sync (Version id) low fits (ap (λ (k : Work). asked_path (request_of names boundary k)) is) (omega (arith, before_sync, past)) (Removed id, gone.removes) gone.before gone.past gone.synced
  work_saved c work reply low is fits answered done = absurd done

  -- and has a point
  answered_in : (c : ℕ) (reply : Reply) (o : Outcome) (so : So c o) → o ≡ Must (Tells reply) → IsSaved c → (p : Point) × (point_in c o (did c o so) ≡ Some p) × (p.reply ≡ reply)
  answered_in c reply Not so is saved_so = absurd (cc)
  answered_in c reply (May other) so is saved_so = absurd (cc)
  answered_in c reply (Must Fails) so is saved_so = absurd (cc)
  answered_in c reply (Must (Tells other)) (inl so) is saved_so = (record { at = so.at; writes = true; reply = other }, ap (point_if c other so) (lt-ltb so.at (cut (place_of so.change)) (saved_so.low other so)), cc)
  answered_in c reply (Must (Tells other)) (inr so) is saved_so = absurd (let wrote = saved_so.writes in so.0 wrote.0 wrote.1 wrote.2)

  answered_by : (c : ℕ) (reply : Reply) (b : Bool) (is : nat_lt c w.count ≡ b) → c < w.count → (w.calls c).answer ≡ Some reply → IsSaved c → (p : Point) × (point_by c b is ≡ Some p) × (p.reply ≡ reply)
  answered_by c reply true is low told saved_so =
      let one = answered_in c reply (outcome_of (w.calls c).work) (h.calls c (ltb-true c w.count is)).outcome (must_tell names boundary floor g e n (w.calls c).work reply ((h.calls c low).told reply told)) saved_so in
      (one.0, ap (λ (x : Option Point). point_or x (read_point c (reads_of c (ltb-true c w.count is)))) one.1, one.2)
  answered_by c reply false is low told saved_so = absurd (let most = ltb-false c w.count is in omega (arith, low, most))

  pub answered : (c : ℕ) (reply : Reply) → c < w.count → (w.calls c).answer ≡ Some reply → IsDone (Its c) reply → (p : Point) × (points c ≡ Some p) × (p.reply ≡ reply)
  unfolding points
  answered c reply low told done = answered_by c reply (nat_lt c w.count) refl low told (work_saved c (w.calls c).work reply low refl (h.calls c low).may told done)

  -- a get changes nothing, and has the point of what it read
  no_get : (change : Change) (at : Segments) (known : Option ℕ) → change_request names boundary change ≡ requests.Get at known → ⊥
  no_get (Created place bytes token) at known is = cc
  no_get (Updated bytes old token) at known is = cc
  no_get (Removed id) at known is = cc

  no_point : (c : ℕ) (at : Segments) (known : Option ℕ) → Its c ≡ requests.Get at known → (o : Outcome) (d : Did c o) → point_in c o d ≡ None
  no_point c at known asks o (inl never) = refl
  no_point c at known asks o (inr (reply, so, same)) = absurd (no_get so.change at known (so.request_is ∙ asks))

  found_by : (c : ℕ) (place : Place) (known : Option ℕ) (phase : Phase steps.Getting) (reply : Reply) (b : Bool) (is : nat_lt c w.count ≡ b) → c < w.count → (w.calls c).work ≡ Gets place known phase → (w.calls c).answer ≡ Some reply → IsFound reply → SyncsAll floor events syncs n c → (p : Point) × (point_by c b is ≡ Some p) × (p.reply ≡ reply)
  found_by c place known phase reply true is low asks told found none =
      let few = ltb-true c w.count is in
      let one = saved_reads.reads_found names boundary floor events apart may cut syncs n room late c few place known phase reply asks told found none in (
        record { at = one.0.1.at; writes = false; reply = one.0.0 },
        ap (λ (x : Option Point). point_or x (read_point c (reads_of c few))) (no_point c (path place) known (ap (request_of names boundary) asks) (outcome_of (w.calls c).work) (did c (outcome_of (w.calls c).work) (h.calls c few).outcome)) ∙ ap (read_point c) one.1,
        one.2,
      )
  found_by c place known phase reply false is low asks told found none = absurd (let most = ltb-false c w.count is in omega (arith, low, most))

  pub found : (c : ℕ) (place : Place) (known : Option ℕ) (phase : Phase steps.Getting) (reply : Reply) → c < w.count → (w.calls c).work ≡ Gets place known phase → (w.calls c).answer ≡ Some reply → IsFound reply → SyncsAll floor events syncs n c → (p : Point) × (points c ≡ Some p) × (p.reply ≡ reply)
  unfolding points
  found c place known phase reply low asks told is none = found_by c place known phase reply (nat_lt c w.count) refl low asks told is none
