-- An operation takes a look or a reply as its state does, and an answer ends it.
use Rattle.std.proofs.Common.{◌≡◌, ℕ, Bool, true, false, if◌then◌else◌, is_some, List, Option, Some, None, Result, Ok, Err, refl, sym, ◌∙◌, ap, subst}
use Rattle.std.specs.Option.{option_map}
use Rattle.txn_store.specs.Paths.{Segments}
use Rattle.txn_store.specs.VersionName.{Names}
use Rattle.txn_store.specs.declared.request.Reply.{Reply}
use Rattle.txn_steps.specs.declared.boundary.caches.Caches.{Caches}
use Rattle.txn_steps.specs.declared.boundary.turned.Turned.{Turned}
use Rattle.txn_steps.specs.declared.boundary.turned.Turned.TheVariants.{Goes, Done}
use Rattle.txn_steps.specs.boundary.Steps.{lacks_memory}
use Rattle.txn_history.specs.declared.event.PlainAnswer.{PlainAnswer}
use Rattle.txn_history.specs.Names.{world_names, world_boundary}
use Rattle.txn_machine.specs.declared.plain.doing.PlainDoing.{PlainDoing}
use Rattle.txn_machine.specs.declared.plain.doing.PlainDoing.TheVariants as doings
use Rattle.txn_steps.specs.boundary.Advances.{advance_turned}
use Rattle.txn_steps.specs.Reads.{read_turned}
use Rattle.txn_steps.specs.SeenSteps.{unchecked_turned as value_turned, seen_turned}
use Rattle.txn_steps.specs.Listings.{listing_turned}
use Rattle.txn_machine.specs.plain.Doing as plain
use Rattle.txn_steps_views.specs.declared.claiming.Claiming.{Claiming}
use Rattle.txn_steps_views.specs.declared.claiming.Claiming.TheVariants as claiming
use Rattle.txn_steps_views.specs.declared.op.ViewOp.{ViewOp}
use Rattle.txn_steps_views.specs.declared.op.ViewOp.TheVariants as ops
use Rattle.txn_steps_views.specs.declared.outcome.Outcome.{Outcome}
use Rattle.txn_steps_views.specs.Attempts.{claiming_caches_after}
use Rattle.txn_steps_views.specs.ViewOps as views
use Rattle.txn_steps_views.specs.ViewOps.{view_turned, view_caches_after, IsViewMade}
use Rattle.txn_machine.specs.declared.doing.Doing.{Doing}
use Rattle.txn_machine.specs.declared.doing.Doing.TheVariants as does
use Rattle.txn_machine.specs.declared.doing.Ending.{Ending}
use Rattle.txn_machine.specs.declared.doing.Ending.TheVariants as endings
use Rattle.txn_machine.specs.Doing.{Next, ended, plain_next, next_of, view_next, goes_by, caches_after, IsMadeSo, Turns}

module _ {T : Type 0} where
  next_of_plain : (next : plain.Next T) → (does.Plain next.0, option_map endings.Answers next.1) ≡ plain_next next
  next_of_plain (doing, None) = refl
  next_of_plain (doing, Some answer) = refl

  -- what it leaves of the caches depends on whether it goes on alone
  claiming_left_so : (op : Claiming T) (caches : Caches) (answer : Result (Outcome T) ℕ) → claiming_caches_after op caches (Done answer) ≡ claiming_caches_after op caches (Done (Err 9))
  claiming_left_so (claiming.Writes write value epoch) caches answer = refl
  claiming_left_so (claiming.Reads read) caches answer = refl
  claiming_left_so claiming.Ended caches answer = refl

  view_left_so : (op : ViewOp T) (caches : Caches) (answer : Result (Outcome T) ℕ) → view_caches_after op caches (Done answer) ≡ view_caches_after op caches (Done (Err 9))
  view_left_so (ops.Enters op) caches answer = refl
  view_left_so (ops.Reads op) caches answer = refl
  view_left_so (ops.Claims op) caches answer = claiming_left_so op.claiming caches answer

  left_at : (op new : ViewOp T) (caches : Caches) (told : Turned (Result (Outcome T) ℕ)) → view_caches_after op caches told ≡ view_caches_after op caches (goes_by (next_of (does.View new) told).1)
  left_at op new caches Goes = refl
  left_at op new caches (Done (Ok outcome)) = view_left_so op caches (Ok outcome)
  left_at op new caches (Done (Err number)) = view_left_so op caches (Err number)

  pub view_leaves : (old : Doing T) (op new : ViewOp T) (before after : Caches) (told : Turned (Result (Outcome T) ℕ)) (next : Next T) → old ≡ does.View op → after ≡ view_caches_after op before told → next ≡ next_of (does.View new) told → after ≡ caches_after old before next.1
  view_leaves old op new before after told next is left ends =
      left ∙ (left_at op new before told ∙ (ap (λ (n : Next T). view_caches_after op before (goes_by n.1)) (sym ends) ∙ ap (λ (o : Doing T). caches_after o before next.1) (sym is)))

  pub plain_leaves : (old : Doing T) (doing : PlainDoing T) (before after : Caches) (answers : Option (PlainAnswer T)) (ending : Option (Ending T)) → old ≡ does.Plain doing → after ≡ plain.plain_caches_after doing before answers → ending ≡ option_map endings.Answers answers → after ≡ caches_after old before ending
  plain_leaves old doing before after None ending is left ends = rw (is, ends) left
  plain_leaves old doing before after (Some answer) ending is left ends = rw (is, ends) left

  -- a call on a view that has ended is kept no more
  pub view_after : (new after : Doing T) (told : Turned (Result (Outcome T) ℕ)) (ending : Option (Ending T)) → ending ≡ (next_of new told).1 → after ≡ (if is_some ending then ended else new) → (after, ending) ≡ next_of new told
  view_after new after Goes ending e a = let kept : after ≡ new = rw e at a in rw (kept, e) refl
  view_after new after (Done (Ok outcome)) ending e a = let kept : after ≡ ended = rw e at a in rw (kept, e) refl
  view_after new after (Done (Err number)) ending e a = let kept : after ≡ ended = rw e at a in rw (kept, e) refl

  next_ends : (doing : PlainDoing T) (found : Option (PlainAnswer T)) → is_some (plain.next_of doing found).1 ≡ true → (plain.next_of doing found).0 ≡ doings.Ended
  next_ends doing None some = cc
  next_ends doing (Some answer) some = refl

  memory_ends : (refused : Bool) (next : plain.Next T) → (is_some next.1 ≡ true → next.0 ≡ doings.Ended) → is_some (plain.or_no_memory refused next).1 ≡ true → (plain.or_no_memory refused next).0 ≡ doings.Ended
  memory_ends true next ends some = refl
  memory_ends false next ends some = ends some

module _ {T : Type 0} (page : ℕ) (decode : List ℕ → Option T) (caches : Caches) (reply : Option Reply) where
  turned_ends : (refused : Bool) (old : PlainDoing T) → is_some (plain.turned page decode refused old caches reply).1 ≡ true → (plain.turned page decode refused old caches reply).0 ≡ doings.Ended
  turned_ends refused (doings.Write op) = next_ends _ _
  turned_ends refused (doings.WriteUnchecked op) = next_ends _ _
  turned_ends refused (doings.Read op) = memory_ends refused (plain.read_next (read_turned world_names world_boundary page decode op caches reply)) (next_ends _ _)
  turned_ends refused (doings.ReadUnchecked op) = memory_ends refused (plain.value_next op (value_turned decode reply)) (next_ends _ _)
  turned_ends refused (doings.ReadSeen op) = memory_ends refused (plain.seen_next (seen_turned world_names decode op caches.latest reply)) (next_ends _ _)
  turned_ends refused (doings.ListIds op) = memory_ends refused (plain.ids_next (listing_turned world_names page op reply)) (next_ends _ _)
  turned_ends refused (doings.Delete op) = next_ends _ _
  turned_ends refused (doings.Check op) = next_ends _ _
  turned_ends refused (doings.Advance op) = memory_ends refused (plain.advance_next (advance_turned world_boundary op caches reply)) (next_ends _ _)
  turned_ends refused doings.Ended = λ some. refl

  -- a plain call that is answered has ended
  pub plain_after : (old new : PlainDoing T) (answers : Option (PlainAnswer T)) (after : Doing T) (ending : Option (Ending T)) → plain.Turns page decode old caches reply new answers → ending ≡ option_map endings.Answers answers → after ≡ (if is_some ending then ended else does.Plain new) → after ≡ does.Plain new
  plain_after old new None after ending t e a = rw e at a
  plain_after old new (Some answer) after ending t e a =
      let ends : new ≡ doings.Ended = ap (λ (n : plain.Next T). n.0) t.1 ∙ turned_ends t.0 old (ap (λ (n : plain.Next T). is_some n.1) (sym t.1)) in
      let kept : after ≡ ended = rw e at a in
      cc

module _ {T : Type 0} (page : ℕ) (encode : T → List ℕ) (decode : List ℕ → Option T) (get_epoch : T → ℕ) (set_epoch : T → ℕ → T) (caches : Caches) (reply : Option Reply) where
  pub plain_takes : (old : Doing T) (doing new : PlainDoing T) (answers : Option (PlainAnswer T)) (ending : Option (Ending T)) → old ≡ does.Plain doing → plain.Turns page decode doing caches reply new answers → ending ≡ option_map endings.Answers answers →
      Turns page encode decode get_epoch set_epoch old caches reply (does.Plain new, ending)
  plain_takes old doing new answers ending is t e =
      subst (λ (o : Doing T). Turns page encode decode get_epoch set_epoch o caches reply (does.Plain new, ending)) (sym is)
      (record { refused = t.0; turns = ap (λ (d : Option (Ending T)). (does.Plain new, d)) e ∙ (next_of_plain (new, answers) ∙ ap plain_next t.1); may = tt; made = λ never. absurd never })

  next_made : (new : ViewOp T) (told : Turned (Result (Outcome T) ℕ)) → IsViewMade encode decode get_epoch new → IsMadeSo encode decode get_epoch (next_of (does.View new) told).0
  next_made new Goes made = made
  next_made new (Done (Ok outcome)) made = tt
  next_made new (Done (Err number)) made = tt

  pub view_takes : (names : Names) (path : Segments) → names ≡ world_names → path ≡ world_boundary → (old : Doing T) (op new : ViewOp T) (told : Turned (Result (Outcome T) ℕ)) (next : Next T) → old ≡ does.View op →
      (new, told) ≡ view_turned names path page encode decode get_epoch set_epoch (lacks_memory told) op caches reply → (views.IsClaimReading op → IsViewMade encode decode get_epoch new) → views.MayLack op caches reply (lacks_memory told) →
      next ≡ next_of (does.View new) told → Turns page encode decode get_epoch set_epoch old caches reply next
  view_takes names path n p old op new told next is takes made short ends =
      let so : (new, told) ≡ view_turned world_names world_boundary page encode decode get_epoch set_epoch (lacks_memory told) op caches reply =
      takes ∙ (ap (λ (m : Names). view_turned m path page encode decode get_epoch set_epoch (lacks_memory told) op caches reply) n ∙ ap (λ (q : Segments). view_turned world_names q page encode decode get_epoch set_epoch (lacks_memory told) op caches reply) p) in
      subst (λ (o : Doing T). Turns page encode decode get_epoch set_epoch o caches reply next) (sym is)
      (record {
        refused = lacks_memory told;
        turns = ends ∙ ap view_next so;
        may = short;
        made = λ reads. subst (λ (m : Next T). IsMadeSo encode decode get_epoch m.0) (sym ends) (next_made new told (made reads));
      })
