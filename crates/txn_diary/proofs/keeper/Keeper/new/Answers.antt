use Rattle.std.proofs.Common.{◌≤◌, [], refl, subst, sym}
use Rattle.txn_diary.specs.Shown.{shown}
use Rattle.txn_diary.proofs.Forgetting.{remembers_all}
use Rattle.txn_diary.proofs.keeper.Keeper.new.Goals as goal

pub invariant_of-result : goal.invariant_of-result
invariant_of-result g c =
    let made = c.in_ok-new.ensures in
    (subst (λ n. 1 ≤ n) (sym made.client) c.requires.some, subst (λ n. 1 ≤ n) (sym made.page) c.requires.paged, record { rows = []; whole = shown c.in_ok-new.field-0; alive = refl; replays = made.shown; remembers = remembers_all (shown c.in_ok-new.field-0) })
