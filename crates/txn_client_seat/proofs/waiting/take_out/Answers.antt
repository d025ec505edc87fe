use Rattle.std.proofs.Common.{◌≡◌, ◌∙◌, ◌==◌, ℕ, None, Some, sym, ap, subst}
use Rattle.std.proofs.lemmas.List.Quantifiers.{position-Some}
use Rattle.std.specs.List.{position}
use Rattle.txn_client_seat.specs.Numbered.{without}
use Rattle.txn_client_seat.proofs.Places.{first_found, rest_left, none_found, none_left, none_has}
use Rattle.txn_client_seat.proofs.waiting.take_out.Goals.{In_default, In-Some}
use Rattle.txn_client_seat.proofs.waiting.take_out.Goals as goal

nowhere : (g : _) (c : In_default g) → position (λ one. one.0 == c.args.number) c.args.waiting.now.items ≡ None
nowhere g c = ap (position (λ one. one.0 == c.args.number)) (sym c.as_slice.ensures.value) ∙ sym c.place_of.ensures ∙ c.in_default.is

pub returns-in_default-clause-found : goal.returns-in_default-clause-found
returns-in_default-clause-found g c = sym (none_found c.args.number c.args.waiting.now.items (none_has c.args.number c.args.waiting.now.items (nowhere g c)))

pub returns-in_default-clause-left : goal.returns-in_default-clause-left
returns-in_default-clause-left g c = sym (none_left c.args.number c.args.waiting.now.items (none_has c.args.number c.args.waiting.now.items (nowhere g c)))

pub returns-clause-found : goal.returns-clause-found
returns-clause-found g c =
    let xs = c.args.waiting.now.items in
    let at = position-Some (λ one. one.0 == c.args.number) xs c.in-Some.place c.remove-found.result (ap (position (λ one. one.0 == c.args.number)) (sym c.as_slice.ensures.value) ∙ sym c.place_of.ensures ∙ c.in-Some.is) in
    ap (λ one. Some one.1) c.remove-found.ensures.value ∙ sym (first_found c.args.number xs c.in-Some.place c.remove-found.result at.0 at.1 at.2)

pub returns-clause-left : goal.returns-clause-left
returns-clause-left g c =
    let xs = c.args.waiting.now.items in
    let at = position-Some (λ one. one.0 == c.args.number) xs c.in-Some.place c.remove-found.result (ap (position (λ one. one.0 == c.args.number)) (sym c.as_slice.ensures.value) ∙ sym c.place_of.ensures ∙ c.in-Some.is) in
    c.drop_at.ensures.items ∙ ap (without c.args.number) c.remove-found.ensures.items ∙ rest_left c.args.number xs c.in-Some.place c.remove-found.result at.0 at.1
