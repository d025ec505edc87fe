-- What a step leaves of what a call is.
use Rattle.std.proofs.Common.{◌≡◌, ℕ, ◌==◌, if◌then◌else◌, List, Option, Some, None, Ok, Err, refl, sym, subst}
use Rattle.std.specs.Prelude.{Bool, true, false}
use Rattle.std.proofs.lemmas.Bool.{eq-eqb}
use Rattle.std.proofs.lemmas.Option.{same_Some}
use Rattle.txn_store.specs.declared.request.Reply.TheVariants as replies
use Rattle.txn_folder.specs.steps.Folders.{Place, Ask, Draw, Make, Write, SetTime, Way, Draws, Told, Done, More, Taken, Missing, Holds, Says, step_told}
use Rattle.txn_folder.specs.steps.Steps as steps
use Rattle.txn_folder.specs.steps.Folders.{Folder}
use Rattle.txn_folder.specs.steps.Steps.{Verdict, Tells, Fails, Phase, Is, Ends, Work, Creates, Gets, Updates, Deletes, not_same, cleaned, compared, said_fault, create_turned, update_turned, asked, turned}
use Rattle.txn_store.specs.declared.store.StoreError.{StoreError}
use Rattle.txn_folder_model.specs.Worlds.{drawn}
use Rattle.txn_folder_model.specs.Power.{MayChange, IsPut}
use Rattle.txn_folder_model.proofs.Frames.{Rewrites}
use Rattle.txn_folder_model.proofs.Facts.{create_number, update_number, number_of}
use Rattle.txn_folder_model.proofs.Sealed.{Rests, create_rests, update_rests}
use Rattle.txn_store.specs.types.BoundaryText.{boundary_read}

pub put_turned : (work : Work) (told : Told) (place : Place) (bytes : List ℕ) → IsPut work place bytes → IsPut (turned work told) place bytes
put_turned (Creates there put (Is state)) told place bytes is = is
put_turned (Gets there known (Is state)) told place bytes is = is
put_turned (Updates put token (Is state)) told place bytes is = is
put_turned (Deletes id (Is state)) told place bytes is = is
put_turned work told place bytes is = is

-- A call that rests rests on.
module _ (place : Place) (bytes : List ℕ) where
  abbrev CreateRests : Phase steps.Creating → Type 0
  CreateRests phase = Rests (Creates place bytes phase)

  not_same_rests : (n : ℕ) (taken : Bool) → CreateRests (not_same n taken)
  not_same_rests n true = tt
  not_same_rests n false = tt

  same_rests : (n token : ℕ) (taken b : Bool) → CreateRests (if b then Is (steps.Cleans (steps.put_ok token)) else not_same n taken)
  same_rests n token taken true = tt
  same_rests n token taken false = not_same_rests n taken

  cleaned_rests : (verdict : Verdict) → CreateRests (cleaned verdict)
  cleaned_rests Fails = tt
  cleaned_rests (Tells (replies.Put (Ok token))) = tt
  cleaned_rests (Tells (replies.Put (Err error))) = tt
  cleaned_rests (Tells reply) = tt

  pub linked_rests : (n : ℕ) (told : Told) → CreateRests (create_turned place bytes (steps.Links n) told)
  linked_rests n Done = tt
  linked_rests n Taken = tt
  linked_rests n told = tt

  create_on : (state : steps.Creating) (told : Told) → create_rests state → CreateRests (create_turned place bytes state told)
  create_on (steps.LooksOwn n taken) (Holds file time) rests = tt
  create_on (steps.LooksOwn n taken) told rests = not_same_rests n taken
  create_on (steps.LooksThere n taken own) (Holds file time) rests = same_rests n _ taken (file == own)
  create_on (steps.LooksThere n taken own) told rests = not_same_rests n taken
  create_on (steps.LooksTaken n) (Holds file time) rests = tt
  create_on (steps.LooksTaken n) told rests = tt
  create_on (steps.Cleans verdict) told rests = cleaned_rests verdict
  create_on (steps.Syncs verdict) Done rests = tt
  create_on (steps.Syncs verdict) told rests = tt
  create_on state told rests = absurd rests

module _ (bytes : List ℕ) (token : ℕ) where
  abbrev UpdateRests : Phase steps.Updating → Type 0
  UpdateRests phase = Rests (Updates bytes token phase)

  number_rests : (said : ℕ) (b : Bool) → UpdateRests (if b then Is (steps.UpdateSyncs (steps.put_ok said)) else Is steps.UpdateCleans)
  number_rests said true = tt
  number_rests said false = tt

  pub renamed_rests : (n : ℕ) (told : Told) → UpdateRests (update_turned bytes token (steps.Renames n) told)
  renamed_rests n Done = tt
  renamed_rests n told = tt

  update_on : (state : steps.Updating) (told : Told) → update_rests state → UpdateRests (update_turned bytes token state told)
  update_on (steps.LooksNumber n) (Holds file time) rests = number_rests _ (time == n)
  update_on (steps.LooksNumber n) told rests = tt
  update_on steps.UpdateCleans told rests = tt
  update_on (steps.UpdateSyncs verdict) Done rests = tt
  update_on (steps.UpdateSyncs verdict) told rests = tt
  update_on (steps.Frees verdict) told rests = tt
  update_on state told rests = absurd rests

pub rests_on : (work : Work) (told : Told) → Rests work → Rests (turned work told)
rests_on (Creates place bytes (Is state)) told rests = create_on place bytes state told rests
rests_on (Creates place bytes (Ends verdict)) told rests = tt
rests_on (Gets place known phase) told rests = absurd rests
rests_on (Updates bytes token (Is state)) told rests = update_on bytes token state told rests
rests_on (Updates bytes token (Ends verdict)) told rests = tt
rests_on (Deletes id phase) told rests = absurd rests

-- It changes no file.
pub rests_keep : (c : ℕ) (work : Work) → Rests work → ¬ (MayChange (asked c work))
rests_keep c (Creates place bytes (Is (steps.LooksOwn n taken))) rests = λ never. never
rests_keep c (Creates place bytes (Is (steps.LooksThere n taken own))) rests = λ never. never
rests_keep c (Creates place bytes (Is (steps.LooksTaken n))) rests = λ never. never
rests_keep c (Creates place bytes (Is (steps.Cleans verdict))) rests = λ never. never
rests_keep c (Creates place bytes (Is (steps.Syncs verdict))) rests = λ never. never
rests_keep c (Creates place bytes (Is state)) rests = absurd rests
rests_keep c (Creates place bytes (Ends verdict)) rests = λ never. never
rests_keep c (Gets place known phase) rests = absurd rests
rests_keep c (Updates bytes token (Is (steps.LooksNumber n))) rests = λ never. never
rests_keep c (Updates bytes token (Is steps.UpdateCleans)) rests = λ never. never
rests_keep c (Updates bytes token (Is (steps.UpdateSyncs verdict))) rests = λ never. never
rests_keep c (Updates bytes token (Is (steps.Frees verdict))) rests = λ never. never
rests_keep c (Updates bytes token (Is state)) rests = absurd rests
rests_keep c (Updates bytes token (Ends verdict)) rests = λ never. never
rests_keep c (Deletes id phase) rests = absurd rests

pub plain_ask : (ask : Ask) → ¬ (MayChange (Some ask)) → ¬ (Rewrites ask)
plain_ask Make plain = plain
plain_ask (Write bytes) plain = plain
plain_ask (SetTime n) plain = plain
plain_ask ask plain = λ never. never

-- The number of a call stays, until it draws another.
module _ (place : Place) (bytes : List ℕ) where
  abbrev number_then : Phase steps.Creating → Option ℕ
  number_then phase = number_of (Creates place bytes phase)

  none_same : (k n : ℕ) (taken : Bool) → number_then (not_same k taken) ≡ Some n → Some k ≡ Some n
  none_same k n true is = absurd (cc)
  none_same k n false is = absurd (cc)

  none_there : (k n token : ℕ) (taken b : Bool) → number_then (if b then Is (steps.Cleans (steps.put_ok token)) else not_same k taken) ≡ Some n → Some k ≡ Some n
  none_there k n token taken true is = absurd (cc)
  none_there k n token taken false is = none_same k n taken is

  none_cleaned : (n : ℕ) (verdict : Verdict) → number_then (cleaned verdict) ≡ Some n → ⊥
  none_cleaned n Fails is = cc
  none_cleaned n (Tells (replies.Put (Ok token))) is = cc
  none_cleaned n (Tells (replies.Put (Err error))) is = cc
  none_cleaned n (Tells reply) is = cc

  abbrev DrawsThen : steps.Creating → Type 0
  DrawsThen steps.Draws = Unit {0}
  DrawsThen state = ⊥

  pub create_keeps : (state : steps.Creating) (told : Told) (n : ℕ) → ¬ (DrawsThen state) → number_then (create_turned place bytes state told) ≡ Some n → create_number state ≡ Some n
  create_keeps steps.LooksFirst Missing n other is = absurd (cc)
  create_keeps steps.Draws told n other is = absurd (other tt)
  create_keeps (steps.Makes k) Done n other is = is
  create_keeps (steps.Writes k) Done n other is = is
  create_keeps (steps.Writes k) More n other is = is
  create_keeps (steps.SetsTime k) Done n other is = is
  create_keeps (steps.SyncsNew k) Done n other is = is
  create_keeps (steps.Links k) Done n other is = absurd (cc)
  create_keeps (steps.Links k) told n other is = is
  create_keeps (steps.LooksOwn k taken) (Holds file time) n other is = is
  create_keeps (steps.LooksOwn k taken) told n other is = none_same k n taken is
  create_keeps (steps.LooksThere k taken own) (Holds file time) n other is = none_there k n _ taken (file == own) is
  create_keeps (steps.LooksThere k taken own) told n other is = none_same k n taken is
  create_keeps (steps.LooksTaken k) (Holds file time) n other is = absurd (cc)
  create_keeps (steps.Cleans verdict) told n other is = absurd (none_cleaned n verdict is)
  create_keeps (steps.Syncs verdict) Done n other is = absurd (cc)
  create_keeps state told n other is = absurd (cc)

module _ (bytes : List ℕ) (token : ℕ) where
  abbrev number_now : Phase steps.Updating → Option ℕ
  number_now phase = number_of (Updates bytes token phase)

  none_compared : (n : ℕ) (fault : Option StoreError) → number_now (compared fault) ≡ Some n → ⊥
  none_compared n None is = cc
  none_compared n (Some error) is = cc

  none_number : (k n said : ℕ) (b : Bool) → number_now (if b then Is (steps.UpdateSyncs (steps.put_ok said)) else Is steps.UpdateCleans) ≡ Some n → Some k ≡ Some n
  none_number k n said true is = absurd (cc)
  none_number k n said false is = absurd (cc)

  abbrev DrawsNow : steps.Updating → Type 0
  DrawsNow steps.UpdateDraws = Unit {0}
  DrawsNow state = ⊥

  pub update_keeps : (state : steps.Updating) (told : Told) (n : ℕ) → ¬ (DrawsNow state) → number_now (update_turned bytes token state told) ≡ Some n → update_number state ≡ Some n
  update_keeps steps.Locks Done n other is = absurd (cc)
  update_keeps steps.Seeks Missing n other is = absurd (cc)
  update_keeps steps.Enters Missing n other is = absurd (cc)
  update_keeps (steps.Compares file) (Says read time) n other is = absurd (none_compared n (said_fault token (boundary_read read)) is)
  update_keeps steps.UpdateDraws told n other is = absurd (other tt)
  update_keeps (steps.UpdateMakes k) Done n other is = is
  update_keeps (steps.UpdateWrites k) Done n other is = is
  update_keeps (steps.UpdateWrites k) More n other is = is
  update_keeps (steps.UpdateSetsTime k) Done n other is = is
  update_keeps (steps.UpdateSyncsNew k) Done n other is = is
  update_keeps (steps.Renames k) Done n other is = absurd (cc)
  update_keeps (steps.Renames k) told n other is = is
  update_keeps (steps.LooksNumber k) (Holds file time) n other is = none_number k n _ (time == k) is
  update_keeps (steps.UpdateSyncs verdict) Done n other is = absurd (cc)
  update_keeps state told n other is = absurd (cc)

module _ (c : ℕ) (f : Folder) (owners : ℕ → Option ℕ) where
  draws_by : (m n : ℕ) → Some m ≡ Some n → drawn owners c Draw (Draws m) n ≡ Some c
  draws_by m n is = rw (eq-eqb n m (sym (same_Some m n is))) refl

  create_draws : (place : Place) (bytes : List ℕ) (way : Way) (n : ℕ) → number_of (Creates place bytes (create_turned place bytes steps.Draws (step_told c Draw way f))) ≡ Some n → drawn owners c Draw way n ≡ Some c
  create_draws place bytes (Draws m) n is = draws_by m n is
  create_draws place bytes way n is = absurd (cc)

  update_draws : (bytes : List ℕ) (token : ℕ) (way : Way) (n : ℕ) → number_of (Updates bytes token (update_turned bytes token steps.UpdateDraws (step_told c Draw way f))) ≡ Some n → drawn owners c Draw way n ≡ Some c
  update_draws bytes token (Draws m) n is = draws_by m n is
  update_draws bytes token way n is = absurd (cc)

  module _ (way : Way) (owns : (ask : Ask) (n d : ℕ) → owners n ≡ Some d → drawn owners c ask way n ≡ Some d) where
    create_number_on : (place : Place) (bytes : List ℕ) (state : steps.Creating) → ((n : ℕ) → create_number state ≡ Some n → owners n ≡ Some c) → (n : ℕ) → number_of (Creates place bytes (create_turned place bytes state (step_told c (steps.create_asked c place bytes state) way f))) ≡ Some n → drawn owners c (steps.create_asked c place bytes state) way n ≡ Some c
    create_number_on place bytes steps.Draws old n is = create_draws place bytes way n is
    create_number_on place bytes state old n is = owns (steps.create_asked c place bytes state) n c (old n (create_keeps place bytes state (step_told c (steps.create_asked c place bytes state) way f) n (λ never. never) is))

    update_number_on : (bytes : List ℕ) (token : ℕ) (state : steps.Updating) → ((n : ℕ) → update_number state ≡ Some n → owners n ≡ Some c) → (n : ℕ) → number_of (Updates bytes token (update_turned bytes token state (step_told c (steps.update_asked c bytes state) way f))) ≡ Some n → drawn owners c (steps.update_asked c bytes state) way n ≡ Some c
    update_number_on bytes token steps.UpdateDraws old n is = update_draws bytes token way n is
    update_number_on bytes token state old n is = owns (steps.update_asked c bytes state) n c (old n (update_keeps bytes token state (step_told c (steps.update_asked c bytes state) way f) n (λ never. never) is))

    -- by what the call asks
    pub number_on : (work : Work) (ask : Ask) → asked c work ≡ Some ask → ((n : ℕ) → number_of work ≡ Some n → owners n ≡ Some c) → (n : ℕ) → number_of (turned work (step_told c ask way f)) ≡ Some n → drawn owners c ask way n ≡ Some c
    number_on (Creates place bytes (Is state)) ask asks old n is =
        subst (λ (a : Ask). (n : ℕ) → number_of (Creates place bytes (create_turned place bytes state (step_told c a way f))) ≡ Some n → drawn owners c a way n ≡ Some c) (same_Some (steps.create_asked c place bytes state) ask asks) (create_number_on place bytes state old) n is
    number_on (Updates bytes token (Is state)) ask asks old n is =
        subst (λ (a : Ask). (n : ℕ) → number_of (Updates bytes token (update_turned bytes token state (step_told c a way f))) ≡ Some n → drawn owners c a way n ≡ Some c) (same_Some (steps.update_asked c bytes state) ask asks) (update_number_on bytes token state old) n is
    number_on (Gets place known (Is state)) ask asks old n is = absurd (cc)
    number_on (Deletes id (Is state)) ask asks old n is = absurd (cc)
    number_on work ask asks old n is = absurd (cc)
