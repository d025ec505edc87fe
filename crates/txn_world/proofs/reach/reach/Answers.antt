-- What changed the store is the request itself, so its epoch is the one that was read before.
use Rattle.std.proofs.Common.{◌≡◌, ◌∙◌, sym, ap, Bool, true, false, Option, Some, None, unwrap_or, is_some, if◌then◌else◌}
use Rattle.std.specs.FinMap.{get}
use Rattle.txn_store.specs.Store.{Files}
use Rattle.txn_store.specs.declared.request.Request.{Request}
use Rattle.txn_store.specs.declared.request.Request.TheVariants as requests
use Rattle.txn_machine.specs.plain.Machine.{may_change, took}
use Rattle.txn_world.proofs.reach.reach.Goals as goal

taken : (took : Bool) (copy : Option Request) (x : Request) → (if took then copy else None) ≡ Some x → copy ≡ Some x
taken true copy x e = e
taken false copy x e = absurd (cc e)

told : (there : Bool) (request x : Request) → (if there then Some request else None) ≡ Some x → x ≡ request
told true request x e = sym (ap (λ o. unwrap_or o x) e)
told false request x e = absurd (cc e)

same : (files : Files) (request x : Request) → may_change files request ≡ Some x → x ≡ request
same files (requests.Put path bytes mode) x e = sym (ap (λ o. unwrap_or o x) e)
same files (requests.Get path known) x e = absurd (cc e)
same files (requests.List prefix after limit) x e = absurd (cc e)
same files (requests.Delete path) x e = told (is_some (get files path)) (requests.Delete path) x e

pub effect-requires-clause-epoch : goal.effect-requires-clause-epoch
effect-requires-clause-epoch g c = λ x is.
    let copied : c.in_ok-copy.copy ≡ Some x = taken _ c.in_ok-copy.copy x (sym c.effect_of-effect.ensures ∙ is) in
    let request : x ≡ c.args.request.now = same _ c.args.request.now x (sym c.in_ok-copy.ensures ∙ copied) in
    rw (c.in_ok-reserve.ensures.layout, c.in_ok-reserve.ensures.field, request) c.in_ok-epoch.ensures
