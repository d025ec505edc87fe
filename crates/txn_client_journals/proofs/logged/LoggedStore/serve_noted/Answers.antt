use Rattle.std.proofs.Common.{None, ℕ, List, refl, subst, sym, ap, ◌∙◌, ◌++◌, ◌∷◌, []}
use Rattle.txn_store.specs.Memory.{searched_state}
use Rattle.txn_store.specs.declared.request.Request.{Request}
use Rattle.txn_store.specs.declared.request.Reply.{Reply}
use Rattle.txn_client_journals.specs.declared.rows.LogRow.{LogRow}
use Rattle.txn_client_journals.specs.Logged.{IsLogged}
use Rattle.txn_client_journals.proofs.Leads.{served_logged, not_logged}
use Rattle.txn_client_journals.proofs.logged.LoggedStore.serve_noted.Goals as goal

abbrev row_of : ℕ → Request → Reply → LogRow
row_of client request reply = record { client = client; request = request; reply = reply; landed = None }

pub invariant_of-self-in-Err-reply_twice : goal.invariant_of-self-in-Err-reply_twice
invariant_of-self-in-Err-reply_twice c =
    let now = searched_state c.self.inside.store in
    let kept = subst (λ (rows : List LogRow). IsLogged rows now) (sym c.reserve.ensures.items) c.self.invariant in
    not_logged c.reserve.new.self.items now c.args.request.now c.in-Ok.reply (searched_state c.try_serve.new.self) kept c.in-Err-reply_twice.ensures.err c.in-Ok.ensures.meaning refl

pub invariant_of-self-2 : goal.invariant_of-self-2
invariant_of-self-2 c =
    let now = searched_state c.self.inside.store in
    let after = searched_state c.try_serve.new.self in
    let client = c.args.client in
    let more = served_logged c.self.inside.log.items now client c.args.request.now c.in-Ok.reply after c.self.invariant c.in-Ok.ensures.meaning refl in
    let noted = subst (λ (request : Request). IsLogged (c.self.inside.log.items ++ row_of client request c.in-Ok.reply ∷ []) after) (sym c.in_ok-requests.ensures.noted) more in
    let copy = subst (λ (reply : Reply). IsLogged (c.self.inside.log.items ++ row_of client c.in_ok-requests.requests.0 reply ∷ []) after) (sym c.in-Ok-reply_twice.ensures.copy) noted in
    subst (λ (rows : List LogRow). IsLogged rows after) (sym (c.push_within.ensures.items ∙ ap (λ (rows : List LogRow). rows ++ row_of client c.in_ok-requests.requests.0 c.in-Ok-reply_twice.replies.0 ∷ []) c.reserve.ensures.items)) copy
