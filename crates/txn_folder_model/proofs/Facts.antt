-- What holds of the calls over a folder at each moment.
use Rattle.std.proofs.Common.{◌≡◌, ℕ, suc, ◌<◌, ◌≤◌, Bool, true, false, List, length, Option, Some, None, Ok, refl, ap, sym, subst, ◌∙◌, arith, ◌⊎◌, inl, inr}
use Rattle.std.specs.Prelude.{Contains, nat_lt}
use Rattle.std.specs.Option.{option_map}
use Rattle.std.specs.FinMap.{get}
use Rattle.std.proofs.lemmas.Bool.{ltb-true, ltb-false}
use Rattle.txn_store.specs.Paths.{Segments}
use Rattle.txn_store.specs.VersionName.{Names}
use Rattle.txn_store.specs.Store.{update_fault}
use Rattle.txn_store.specs.declared.request.Request.{Request}
use Rattle.txn_store.specs.declared.request.Reply.{Reply}
use Rattle.txn_store.specs.declared.request.Reply.TheVariants as replies
use Rattle.txn_store.specs.types.BoundaryText.{boundary_read}
use Rattle.txn_folder.specs.steps.Folders.{Place, Version, Boundary, At, Temporary, File, Folder, Lock, OfBoundary, OfVersions}
use Rattle.txn_folder.specs.steps.Steps as steps
use Rattle.txn_folder.specs.steps.Steps.{Verdict, Tells, Fails, Is, Ends, Work, Creates, Gets, Updates, Deletes, token_at, got_at, verdict_of}
use Rattle.txn_folder_model.specs.Worlds.{Call, World, MayPut, IsPlace, SaysUpTo}
use Rattle.txn_folder_model.specs.Linear.{path_of, request_of}
use Rattle.txn_folder_model.proofs.Ghosts.{Change, Effect, Ghost, ReadsSo, WritesSo, change_request, change_reply}

-- what a call can have done to the store where it is: nothing; it may have been given this; or it has what it is to tell
pub data Outcome : Type 0 where
  Not : Outcome
  May : (reply : Reply) → Outcome
  Must : (verdict : Verdict) → Outcome

abbrev pub may_put : Place → List ℕ → ℕ → Outcome
may_put place bytes n = May (replies.Put (Ok (token_at place bytes n)))

abbrev pub may_where : Bool → Place → List ℕ → ℕ → Outcome
may_where true place bytes n = Not
may_where false place bytes n = may_put place bytes n

abbrev pub create_outcome : Place → List ℕ → steps.Creating → Outcome
create_outcome place bytes (steps.LooksOwn n taken) = may_where taken place bytes n
create_outcome place bytes (steps.LooksThere n taken own) = may_where taken place bytes n
create_outcome place bytes (steps.Cleans verdict) = Must verdict
create_outcome place bytes (steps.Syncs verdict) = Must verdict
create_outcome place bytes state = Not

abbrev pub get_outcome : steps.Getting → Outcome
get_outcome (steps.Lasts verdict) = Must verdict
get_outcome state = Not

abbrev pub update_outcome : List ℕ → steps.Updating → Outcome
update_outcome bytes (steps.LooksNumber n) = may_put Boundary bytes n
update_outcome bytes steps.UpdateCleans = Must Fails
update_outcome bytes (steps.UpdateSyncs verdict) = Must verdict
update_outcome bytes (steps.Frees verdict) = Must verdict
update_outcome bytes state = Not

abbrev pub delete_outcome : steps.Deleting → Outcome
delete_outcome (steps.DeleteSyncs verdict) = Must verdict
delete_outcome (steps.DeleteFrees verdict) = Must verdict
delete_outcome state = Not

abbrev pub outcome_of : Work → Outcome
outcome_of (Creates place bytes (Is state)) = create_outcome place bytes state
outcome_of (Creates place bytes (Ends verdict)) = Must verdict
outcome_of (Gets place known (Is state)) = get_outcome state
outcome_of (Gets place known (Ends verdict)) = Must verdict
outcome_of (Updates bytes token (Is state)) = update_outcome bytes state
outcome_of (Updates bytes token (Ends verdict)) = Must verdict
outcome_of (Deletes id (Is state)) = delete_outcome state
outcome_of (Deletes id (Ends verdict)) = Must verdict

-- the number that a call has drawn
abbrev pub create_number : steps.Creating → Option ℕ
create_number (steps.Makes n) = Some n
create_number (steps.Writes n) = Some n
create_number (steps.SetsTime n) = Some n
create_number (steps.SyncsNew n) = Some n
create_number (steps.Links n) = Some n
create_number (steps.LooksOwn n taken) = Some n
create_number (steps.LooksThere n taken own) = Some n
create_number state = None

abbrev pub update_number : steps.Updating → Option ℕ
update_number (steps.UpdateMakes n) = Some n
update_number (steps.UpdateWrites n) = Some n
update_number (steps.UpdateSetsTime n) = Some n
update_number (steps.UpdateSyncsNew n) = Some n
update_number (steps.Renames n) = Some n
update_number (steps.LooksNumber n) = Some n
update_number state = None

abbrev pub number_of : Work → Option ℕ
number_of (Creates place bytes (Is state)) = create_number state
number_of (Updates bytes token (Is state)) = update_number state
number_of work = None

-- what its own file has
pub data Content : Type 0 where
  Anything : Content
  HasBytes : (bytes : List ℕ) → Content
  IsWhole : (bytes : List ℕ) (time : ℕ) → Content

abbrev pub create_content : List ℕ → steps.Creating → Content
create_content bytes (steps.SetsTime n) = HasBytes bytes
create_content bytes (steps.SyncsNew n) = IsWhole bytes n
create_content bytes (steps.Links n) = IsWhole bytes n
create_content bytes state = Anything

abbrev pub update_content : List ℕ → steps.Updating → Content
update_content bytes (steps.UpdateSetsTime n) = HasBytes bytes
update_content bytes (steps.UpdateSyncsNew n) = IsWhole bytes n
update_content bytes (steps.Renames n) = IsWhole bytes n
update_content bytes state = Anything

abbrev pub content_of : Work → Content
content_of (Creates place bytes (Is state)) = create_content bytes state
content_of (Updates bytes token (Is state)) = update_content bytes state
content_of work = Anything

abbrev pub IsContent : File → Content → Type 0
IsContent file Anything = Unit {0}
IsContent file (HasBytes bytes) = file.bytes ≡ bytes
IsContent file (IsWhole bytes time) = (file.bytes ≡ bytes) × (file.time ≡ time)

-- the file that it has open, and of which place
pub data Opened : Type 0 where
  Nothing : Opened
  OpenAt : (place : Place) (file : ℕ) → Opened

abbrev pub get_opened : Place → steps.Getting → Opened
get_opened place (steps.Reads file) = OpenAt place file
get_opened place state = Nothing

abbrev pub update_opened : steps.Updating → Opened
update_opened (steps.Compares file) = OpenAt Boundary file
update_opened state = Nothing

abbrev pub opened_of : Work → Opened
opened_of (Gets place known (Is state)) = get_opened place state
opened_of (Updates bytes token (Is state)) = update_opened state
opened_of work = Nothing

-- what it rests on while it has the boundary's lock
pub data Live : Type 0 where
  Free : Live
  Locked : Live
  LockedAt : (file : ℕ) → Live
  Matched : (token : ℕ) → Live
  -- a file's number, which is its own
  Owns : (file : ℕ) → Live
  -- it has the lock of removals
  LockedVersions : Live

abbrev pub update_live : ℕ → steps.Updating → Live
update_live token steps.Seeks = Locked
update_live token steps.Enters = Locked
update_live token (steps.Compares file) = LockedAt file
update_live token steps.UpdateDraws = Matched token
update_live token (steps.UpdateMakes n) = Matched token
update_live token (steps.UpdateWrites n) = Matched token
update_live token (steps.UpdateSetsTime n) = Matched token
update_live token (steps.UpdateSyncsNew n) = Matched token
update_live token (steps.Renames n) = Matched token
update_live token state = Free

abbrev pub create_live : steps.Creating → Live
create_live (steps.LooksThere n taken own) = Owns own
create_live state = Free

abbrev pub delete_live : steps.Deleting → Live
delete_live steps.Removes = LockedVersions
delete_live state = Free

abbrev pub live_of : Work → Live
live_of (Deletes id (Is state)) = delete_live state
live_of (Creates place bytes (Is state)) = create_live state
live_of (Updates bytes token (Is state)) = update_live token state
live_of work = Free

abbrev pub HasLock : Folder → ℕ → Type 0
HasLock f c = f.locks OfBoundary ≡ Some c

abbrev pub IsLive : Folder → ℕ → Live → Type 0
IsLive f c Free = Unit {0}
IsLive f c Locked = HasLock f c
IsLive f c (Owns file) = file ≡ c
IsLive f c LockedVersions = f.locks OfVersions ≡ Some c
IsLive f c (LockedAt file) = HasLock f c × (f.names (At Boundary) ≡ Some file)
IsLive f c (Matched token) = HasLock f c × ((file : ℕ) × (f.names (At Boundary) ≡ Some file) × (update_fault token (Some (got_at Boundary (f.files file))) ≡ None))

abbrev pub MayDo : ℕ → Work → Type 0
MayDo floor (Creates place bytes phase) = MayPut floor place bytes
MayDo floor (Gets place known phase) = IsPlace place
MayDo floor (Updates bytes token phase) = SaysUpTo floor (boundary_read bytes)
MayDo floor (Deletes id phase) = IsPlace (Version id)

-- what stands at the boundary's place says a number
abbrev pub SaysSo : Place → List ℕ → Type 0
SaysSo (Version id) bytes = Unit {0}
SaysSo Boundary bytes = (number : ℕ) × (boundary_read bytes ≡ Some number)

-- the end of the moments in which a call takes place
abbrev pub bound : ℕ → Option ℕ → ℕ
bound t None = t
bound t (Some end) = suc end

module _ (effects : ℕ → Option Effect) where
  -- a call changed the store in a step
  abbrev pub By : ℕ → ℕ → Type 0
  By s c = (change : Change) × (effects s ≡ Some (record { call = c; change = change }))

  abbrev pub NoWrite : ℕ → ℕ → Type 0
  NoWrite t c = (s : ℕ) → s < t → By s c → ⊥

  abbrev pub HasWritten : ℕ → ℕ → Type 0
  HasWritten t c = (s : ℕ) × (s < t) × By s c

module _ (names : Names) (boundary : Segments) (floor : ℕ) (ghosts : ℕ → Ghost) (effects : ℕ → Option Effect) where
  -- a call changed the store once, between its begin and a moment
  pub record Wrote (t until began c : ℕ) (request : Request) (reply : Reply) : Type 0 where
    pub at : ℕ
    pub since : began ≤ at
    pub within : at < until
    pub past : at < t
    pub change : Change
    pub here : effects at ≡ Some (record { call = c; change = change })
    pub request_is : change_request names boundary change ≡ request
    pub reply_is : change_reply change ≡ reply
    pub only : (s : ℕ) → s < t → By effects s c → s ≡ at

  -- the store replied so at a moment between
  pub record WasRead (until began : ℕ) (request : Request) (reply : Reply) : Type 0 where
    pub at : ℕ
    pub since : began ≤ at
    pub within : at < until
    pub right : ReadsSo (ghosts at) request reply

  abbrev pub IsSo : ℕ → ℕ → ℕ → ℕ → Request → Outcome → Type 0
  IsSo t until began c request Not = NoWrite effects t c
  IsSo t until began c request (May reply) = NoWrite effects t c ⊎ Wrote t until began c request reply
  IsSo t until began c request (Must (Tells reply)) = Wrote t until began c request reply ⊎ (NoWrite effects t c × WasRead until began request reply)
  IsSo t until began c request (Must Fails) = NoWrite effects t c ⊎ ((reply : Reply) × Wrote t until began c request reply)

  -- this file stood at a place at a moment between
  pub record WasThere (t began : ℕ) (f : Folder) (place : Place) (file : ℕ) : Type 0 where
    pub at : ℕ
    pub since : began ≤ at
    pub past : at < t
    pub got : get (ghosts at).files (path_of names boundary place) ≡ Some (got_at place (f.files file))
    pub whole : HasWritten effects t file
    pub says : SaysSo place (f.files file).bytes

  abbrev pub IsOpened : ℕ → ℕ → Folder → Opened → Type 0
  IsOpened t began f Nothing = Unit {0}
  IsOpened t began f (OpenAt place file) = WasThere t began f place file

  pub record Facts (t : ℕ) (w : World) (c : ℕ) (k : Call) : Type 0 where
    pub may : MayDo floor k.work
    pub outcome : IsSo t (bound t k.ended) k.began c (request_of names boundary k.work) (outcome_of k.work)
    pub number : (n : ℕ) → number_of k.work ≡ Some n → (w.owners n ≡ Some c) × (floor < n)
    pub content : IsContent (w.folder.files c) (content_of k.work)
    pub opened : IsOpened t k.began w.folder (opened_of k.work)
    pub live : k.ended ≡ None → IsLive w.folder c (live_of k.work)
    pub began_is : k.began ≤ t
    pub told : (reply : Reply) → k.answer ≡ Some reply → verdict_of k.work ≡ Some (Tells reply)
    pub silent : k.ended ≡ None → k.answer ≡ None

  -- a token that was given is a boundary's, up to the one that stands, or a number of a call that wrote
  abbrev pub GivenSo : ℕ → World → ℕ → Type 0
  GivenSo t w token =
      ((token ≤ floor) × ((file : ℕ) × (w.folder.names (At Boundary) ≡ Some file) × (token ≤ token_at Boundary (w.folder.files file).bytes 0)))
      ⊎ ((c : ℕ) × (w.owners token ≡ Some c) × HasWritten effects t c × (floor < token))

  pub record Holds (t : ℕ) (w : World) : Type 0 where
    pub calls : (c : ℕ) → c < w.count → Facts t w c (w.calls c)
    pub placed : (place : Place) (file : ℕ) → w.folder.names (At place) ≡ Some file → HasWritten effects t file × (w.owners (w.folder.files file).time ≡ Some file) × SaysSo place (w.folder.files file).bytes
    pub temps : (c file : ℕ) → w.folder.names (Temporary c) ≡ Some file → file ≡ c
    pub shown : (place : Place) → IsPlace place → get (ghosts t).files (path_of names boundary place) ≡ option_map (λ file. got_at place (w.folder.files file)) (w.folder.names (At place))
    pub given : (token : ℕ) → Contains (ghosts t).given token → GivenSo t w token
    pub few : length (ghosts t).given ≤ t
    pub writers : (s c : ℕ) → s < t → By effects s c → c < w.count
    pub right : (s c : ℕ) (change : Change) → s < t → effects s ≡ Some (record { call = c; change = change }) → WritesSo (ghosts s) (change_request names boundary change) (change_reply change) (ghosts (suc s))

  -- a call may fail whatever it did
  pub so_fails : (t until began c : ℕ) (request : Request) (o : Outcome) → IsSo t until began c request o → IsSo t until began c request (Must Fails)
  so_fails t until began c request Not so = inl so
  so_fails t until began c request (May reply) (inl so) = inl so
  so_fails t until began c request (May reply) (inr so) = inr (reply, so)
  so_fails t until began c request (Must (Tells reply)) (inl so) = inr (reply, so)
  so_fails t until began c request (Must (Tells reply)) (inr so) = inl so.0
  so_fails t until began c request (Must Fails) so = so

  -- One step more.

  earlier : (s t : ℕ) → s < suc t → (b : Bool) → nat_lt s t ≡ b → (s < t) ⊎ (s ≡ t)
  earlier s t low true is = inl (ltb-true s t is)
  earlier s t low false is = let most = ltb-false s t is in inr (omega (arith, low, most))

  pub before_or_now : (s t : ℕ) → s < suc t → (s < t) ⊎ (s ≡ t)
  before_or_now s t low = earlier s t low (nat_lt s t) refl

  module _ (t : ℕ) where
    pub no_write_on : (c : ℕ) → ¬ (By effects t c) → NoWrite effects t c → NoWrite effects (suc t) c
    no_write_on c none never s low by = at (before_or_now s t low)
      where
        at : (s < t) ⊎ (s ≡ t) → ⊥
        at (inl before) = never s before by
        at (inr now) = none (subst (λ (m : ℕ). By effects m c) now by)

    pub written_on : (c : ℕ) → HasWritten effects t c → HasWritten effects (suc t) c
    written_on c (s, low, by) = (s, omega (arith, low), by)

    pub wrote_on : (until more began c : ℕ) (request : Request) (reply : Reply) → ¬ (By effects t c) → until ≤ more → Wrote t until began c request reply → Wrote (suc t) more began c request reply
    wrote_on until more began c request reply none most h = let within = h.within in let past = h.past in record {
      at = h.at;
      since = h.since;
      within = omega (arith, within, most);
      past = omega (arith, past);
      change = h.change;
      here = h.here;
      request_is = h.request_is;
      reply_is = h.reply_is;
      only = λ s low by. at s by (before_or_now s t low);
    }
      where
        at : (s : ℕ) → By effects s c → (s < t) ⊎ (s ≡ t) → s ≡ h.at
        at s by (inl before) = h.only s before by
        at s by (inr now) = absurd (none (subst (λ (m : ℕ). By effects m c) now by))

    pub read_on : (until more began : ℕ) (request : Request) (reply : Reply) → until ≤ more → WasRead until began request reply → WasRead more began request reply
    read_on until more began request reply most h = let within = h.within in record { at = h.at; since = h.since; within = omega (arith, within, most); right = h.right }

    pub so_on : (until more began c : ℕ) (request : Request) (o : Outcome) → ¬ (By effects t c) → until ≤ more → IsSo t until began c request o → IsSo (suc t) more began c request o
    so_on until more began c request Not none most h = no_write_on c none h
    so_on until more began c request (May reply) none most (inl h) = inl (no_write_on c none h)
    so_on until more began c request (May reply) none most (inr h) = inr (wrote_on until more began c request reply none most h)
    so_on until more began c request (Must (Tells reply)) none most (inl h) = inl (wrote_on until more began c request reply none most h)
    so_on until more began c request (Must (Tells reply)) none most (inr h) = inr (no_write_on c none h.0, read_on until more began request reply most h.1)
    so_on until more began c request (Must Fails) none most (inl h) = inl (no_write_on c none h)
    so_on until more began c request (Must Fails) none most (inr h) = inr (h.0, wrote_on until more began c request h.0 none most h.1)

    pub bound_on : (end : Option ℕ) → bound t end ≤ bound (suc t) end
    bound_on None = omega arith
    bound_on (Some end) = omega arith

    -- What a step of another call, or of nobody, leaves to a call.
    pub record Leaves (w after : World) (c : ℕ) : Type 0 where
      pub none : ¬ (By effects t c)
      pub owners : (n d : ℕ) → w.owners n ≡ Some d → after.owners n ≡ Some d
      pub own_file : after.folder.files c ≡ w.folder.files c
      pub old_files : (file : ℕ) → HasWritten effects t file → after.folder.files file ≡ w.folder.files file
      pub lock : (l : Lock) → w.folder.locks l ≡ Some c → after.folder.locks l ≡ Some c
      pub steady : HasLock w.folder c → (file : ℕ) → w.folder.names (At Boundary) ≡ Some file → after.folder.names (At Boundary) ≡ Some file

    module _ (w after : World) (h : Holds t w) where
      pub opened_on : (began : ℕ) (o : Opened) → ((file : ℕ) → HasWritten effects t file → after.folder.files file ≡ w.folder.files file) → IsOpened t began w.folder o → IsOpened (suc t) began after.folder o
      opened_on began Nothing same there = tt
      opened_on began (OpenAt place file) same there = let past = there.past in record {
        at = there.at;
        since = there.since;
        past = omega (arith, past);
        got = there.got ∙ ap (λ f. Some (got_at place f)) (sym (same file there.whole));
        whole = written_on file there.whole;
        says = subst (λ (f : File). SaysSo place f.bytes) (sym (same file there.whole)) there.says;
      }

      pub content_on : (c : ℕ) (o : Content) → after.folder.files c ≡ w.folder.files c → IsContent (w.folder.files c) o → IsContent (after.folder.files c) o
      content_on c o same is = subst (λ (f : File). IsContent f o) (sym same) is

      pub live_on : (c : ℕ) (o : Live) → Leaves w after c → IsLive w.folder c o → IsLive after.folder c o
      live_on c Free leaves is = tt
      live_on c Locked leaves is = leaves.lock OfBoundary is
      live_on c LockedVersions leaves is = leaves.lock OfVersions is
      live_on c (Owns file) leaves is = is
      live_on c (LockedAt file) leaves is = (leaves.lock OfBoundary is.0, leaves.steady is.0 file is.1)
      live_on c (Matched token) leaves (lock, (file, there, match)) =
          (leaves.lock OfBoundary lock, (file, leaves.steady lock file there, ap (λ f. update_fault token (Some (got_at Boundary f))) (leaves.old_files file (h.placed Boundary file there).0) ∙ match))

      pub facts_on : (c : ℕ) (k : Call) → Leaves w after c → Facts t w c k → Facts (suc t) after c k
      facts_on c k leaves f = let began = f.began_is in record {
        may = f.may;
        outcome = so_on (bound t k.ended) (bound (suc t) k.ended) k.began c (request_of names boundary k.work) (outcome_of k.work) leaves.none (bound_on k.ended) f.outcome;
        number = λ n is. (leaves.owners n c (f.number n is).0, (f.number n is).1);
        content = content_on c (content_of k.work) leaves.own_file f.content;
        opened = opened_on k.began (opened_of k.work) leaves.old_files f.opened;
        live = λ running. live_on c (live_of k.work) leaves (f.live running);
        began_is = omega (arith, began);
        told = f.told;
        silent = f.silent;
      }
