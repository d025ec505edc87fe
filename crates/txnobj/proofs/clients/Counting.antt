-- How many operations of a client began.
use Rattle.std.proofs.Common.{◌≡◌, ℕ, List, [], ◌∷◌, length, Option, ap, ◌∙◌, length-append}
use Rattle.std.proofs.lemmas.List.{length-map, length-set}
use Rattle.txn_history.specs.declared.event.Answer.{Answer}
use Rattle.txn_machine.specs.Machine.{new_operation, ended_by}
use Rattle.txn_client_journals.specs.declared.rows.Act.TheVariants as acts
use Rattle.txn_client_journals.specs.declared.rows.Step.{Step}
use Rattle.txn_client_journals.specs.declared.rows.Step.TheVariants as steps
use Rattle.txn_client_journals.specs.Parts.{Part}
use Rattle.txn_client_journals.specs.Journals.{Follows}
use Rattle.txn_diary.specs.Keepers.{KeeperState, Does}
use Rattle.txn_diary.specs.Reading.{begun_by}
use Rattle.txnobj.specs.clients.Calling.{begun_in}

module _ {T : Type 0} (page : ℕ) (encode : T → List ℕ) (decode : List ℕ → Option T) (get_epoch : T → ℕ) (set_epoch : T → ℕ → T) where
  follows_count : (client : ℕ) (old : Part T) (step : Step T) (answer : Option (Answer T)) (new : Part T) → Follows page encode decode get_epoch set_epoch client old step answer new → length new.operations ≡ begun_by (length old.operations) step
  follows_count client old (steps.Begin call) answer new v = ap (λ (p : Part T). length p.operations) v.part ∙ length-append old.operations (new_operation client call v.next.0 ∷ [])
  follows_count client old (steps.Act op acts.Look) answer new v = ap (λ (p : Part T). length p.operations) v.part ∙ length-set old.operations _ _
  follows_count client old (steps.Act op (acts.Receive receipt)) answer new v = ap (λ (p : Part T). length p.operations) v.part ∙ length-set old.operations _ _
  follows_count client old (steps.Act op (acts.Fails request)) answer new v = ap (λ (p : Part T). length p.operations) v.part ∙ length-set old.operations _ _
  follows_count client old (steps.Act op acts.Lacks) answer new v = ap (λ (p : Part T). length p.operations) v.part ∙ length-set old.operations _ _
  follows_count client old (steps.Act op (acts.GiveUp left)) answer new v = ap (λ (p : Part T). length p.operations) v.part ∙ length-set old.operations _ _
  follows_count client old (steps.Killed lefts) answer new v = ap (λ (p : Part T). length p.operations) v.part ∙ length-map old.operations (ended_by client)

module _ {T C E : Type 0} (encoded : C → T → List ℕ) (decoded : C → List ℕ → Option T) (epoch_of : E → T → ℕ) (with_epoch : E → T → ℕ → T) where
  pub does_count : (old : KeeperState T C E) (step : Step T) (answer : Option (Answer T)) (new : KeeperState T C E) → Does encoded decoded epoch_of with_epoch old step answer new → begun_in new ≡ begun_by (begun_in old) step
  does_count old step answer new h = follows_count old.page (encoded old.codec) (decoded old.codec) (epoch_of old.epochs) (with_epoch old.epochs) old.client old.part step answer new.part h.follows

  -- and then nothing more
  pub count_same : (old between new : KeeperState T C E) (step : Step T) (answer : Option (Answer T)) → Does encoded decoded epoch_of with_epoch old step answer between → new ≡ between → begun_in new ≡ begun_by (begun_in old) step
  count_same old between new step answer h same = ap begun_in same ∙ does_count old step answer between h
