-- From step to step each view goes on: its client stays, its id never falls, a holder stays one, and an ended view stays ended.
use Rattle.std.proofs.Common.{◌≡◌, ◌≢◌, ℕ, ◌+◌, ◌≤◌, List, Bool, true, false, if◌then◌else◌, ◌==◌, Option, Some, None, inl, inr, refl, sym, ◌∙◌, ap, subst, arith}
use Rattle.std.specs.Option.{option_map}
use Rattle.std.proofs.lemmas.Bool.{cases_Bool, eqb-true}
use Rattle.txn_history.specs.declared.event.Answer.TheVariants as answers
use Rattle.txn_history.specs.Calls.{view_used}
use Rattle.txn_machine.specs.views.Layer.{Used, Operation, Layer, Change, Keeps, Puts, Makes, Closes, Next, Goes, Ends, Opens, look_up, with_busy, changed, new_view, starting, set_used, turned, opened}
use Rattle.txn_machine.specs.views.Parts.{is_claim_call}
use Rattle.txn_machine.specs.views.Steps.{view_without, Steps, GoesOn, operation_of}
use Rattle.txn_machine.proofs.views.Stands.{IsUp, Stands, NextStands}
use Rattle.txn_machine.proofs.views.Tables.{set_other}
use Rattle.txn_machine.proofs.views.Begins.{begin_stands}
use Rattle.txn_machine.proofs.views.Takes.{take_stands}
use Rattle.txn_machine.proofs.views.Runs.{tell_stands}

module _ {T : Type 0} where
  pub same_goes : (used : Option (Used T)) → GoesOn used used
  same_goes None = refl
  same_goes (Some used) = record { client = refl; rises = omega arith; holder = λ epoch e. e }

  pub after_goes : (one two three : Option (Used T)) → GoesOn one two → GoesOn two three → GoesOn one three
  after_goes None two three e h = none three (subst (λ (x : Option (Used T)). GoesOn x three) e h)
    where
      none : (x : Option (Used T)) → GoesOn None x → GoesOn None x
      none x h = h
  after_goes (Some one) None None e h = tt
  after_goes (Some one) None (Some three) e h = cc
  after_goes (Some one) (Some two) None e h = tt
  after_goes (Some one) (Some two) (Some three) e h = record { client = h.client ∙ e.client; rises = (let a = e.rises in let b = h.rises in omega (arith, a, b)); holder = λ epoch q. h.holder epoch (e.holder epoch q) }

  -- a change that does not lower the view
  changed_goes : (used : Option (Used T)) (change : Change T) → ((was : Used T) → used ≡ Some was → IsUp was.view change) → GoesOn used (changed used change)
  changed_goes None change up = refl
  changed_goes (Some used) Keeps up = record { client = refl; rises = omega arith; holder = λ epoch e. e }
  changed_goes (Some used) (Puts id value) up = record { client = refl; rises = up used refl; holder = λ epoch e. e }
  changed_goes (Some used) (Makes id value made) up =
      let u = up used refl in
      record { client = refl; rises = u.0; holder = λ epoch e. absurd (let clash : None ≡ Some epoch = sym u.1 ∙ e in cc) }
  changed_goes (Some used) Closes up = tt

  used_goes : (views : ℕ → Option (Used T)) (used : Option ℕ) (change : Change T) → ((number : ℕ) (was : Used T) → used ≡ Some number → views number ≡ Some was → IsUp was.view change) → (number : ℕ) → GoesOn (views number) (set_used views used (changed (look_up views used) change) number)
  used_goes views None change up number = same_goes (views number)
  used_goes views (Some i) change up number =
      elim (cases_Bool (number == i)) [
        | inl h ↦ rw h (let same : i ≡ number = sym (eqb-true number i h) in subst (λ (n : ℕ). GoesOn (views n) (changed (views i) change)) same (changed_goes (views i) change (λ was e. up i was refl e)))
        | inr h ↦ rw h (same_goes (views number))
      ]

  busied_goes : (op : ℕ) (used : Option (Used T)) → GoesOn used (option_map (with_busy (Some op)) used)
  busied_goes op None = refl
  busied_goes op (Some used) = record { client = refl; rises = omega arith; holder = λ epoch e. e }

  pub opened_goes : (views : ℕ → Option (Used T)) (op : ℕ) (used : Option ℕ) (number : ℕ) → GoesOn (views number) (set_used views used (option_map (with_busy (Some op)) (look_up views used)) number)
  opened_goes views op None number = same_goes (views number)
  opened_goes views op (Some i) number =
      elim (cases_Bool (number == i)) [
        | inl h ↦ rw h (let same : i ≡ number = sym (eqb-true number i h) in subst (λ (n : ℕ). GoesOn (views n) (option_map (with_busy (Some op)) (views i))) same (busied_goes op (views i)))
        | inr h ↦ rw h (same_goes (views number))
      ]

  crashed_goes : (client : ℕ) (used : Option (Used T)) → GoesOn used (view_without client used)
  crashed_goes client None = refl
  crashed_goes client (Some used) = elim (cases_Bool (used.view.client == client)) [ inl e ↦ rw e tt | inr e ↦ rw e (same_goes (Some used)) ]

  given_up : (closes : Bool) (view : Used T) → IsUp view.view (if closes then Closes else Keeps)
  given_up true view = tt
  given_up false view = tt

  same_views : (s after : Layer T) (views : ℕ → Option (Used T)) (number : ℕ) → after.views ≡ views → GoesOn (s.views number) (views number) → GoesOn (s.views number) (after.views number)
  same_views s after views number e h = subst (λ (f : ℕ → Option (Used T)). GoesOn (s.views number) (f number)) (sym e) h

module _ {T : Type 0} (decode : List ℕ → Option T) (get_epoch : T → ℕ) (set_epoch : T → ℕ → T) where
  pub turned_goes : (s : Layer T) (op : ℕ) (o : Operation T) (next : Next T) → NextStands decode get_epoch set_epoch s.failed s.rows s.views s.count op o next → (number : ℕ) → number ≤ s.count → GoesOn (s.views number) ((turned s op o next).views number)
  turned_goes s op o (Goes inner) h number le = same_goes (s.views number)
  turned_goes s op o (Ends answer change) h number le = used_goes s.views (view_used o.call) change h.rises number
  turned_goes s op o (Opens id value) h number le =
      let other : number ≢ s.count + 1 = (λ e. absurd (omega (arith, e, le))) in
      subst (GoesOn (s.views number)) (sym (set_other s.views (s.count + 1) (Some (new_view o.client id value)) number other)) (same_goes (s.views number))

  pub step_goes : (s after : Layer T) → Stands decode get_epoch set_epoch s → Steps decode get_epoch set_epoch s after → (number : ℕ) → number ≤ s.count → GoesOn (s.views number) (after.views number)
  step_goes s after st (inl b) number le =
      let now = opened s b.client b.call in
      same_views s after (turned now s.next (starting b.client b.call) b.next).views number (ap (λ (l : Layer T). l.views) b.new)
      (after_goes (s.views number) (now.views number) ((turned now s.next (starting b.client b.call) b.next).views number) (opened_goes s.views s.next (view_used b.call) number)
      (turned_goes now s.next (starting b.client b.call) b.next (begin_stands decode get_epoch set_epoch s after st b) number le))
  step_goes s after st (inr (inl t)) number le =
      let o = operation_of t.of in
      same_views s after (turned s t.of.op o t.next).views number (ap (λ (l : Layer T). l.views) t.new) (turned_goes s t.of.op o t.next (take_stands decode get_epoch set_epoch s after st t) number le)
  step_goes s after st (inr (inr (inl t))) number le =
      let o = operation_of t.of in
      same_views s after (turned s t.of.op o (Ends (answers.Plain t.answer) Keeps)).views number (ap (λ (l : Layer T). l.views) t.new) (turned_goes s t.of.op o (Ends (answers.Plain t.answer) Keeps) (tell_stands decode get_epoch set_epoch s after t) number le)
  step_goes s after st (inr (inr (inr (inl c)))) number le = same_views s after s.views number (ap (λ (l : Layer T). l.views) c.new) (same_goes (s.views number))
  step_goes s after st (inr (inr (inr (inr (inl a))))) number le = same_views s after s.views number (ap (λ (l : Layer T). l.views) a.new) (same_goes (s.views number))
  step_goes s after st (inr (inr (inr (inr (inr (inl r)))))) number le = same_views s after s.views number (ap (λ (l : Layer T). l.views) r.new) (same_goes (s.views number))
  step_goes s after st (inr (inr (inr (inr (inr (inr (inl g))))))) number le =
      let change : Change T = if is_claim_call g.o.call then Closes else Keeps in
      same_views s after (set_used s.views (view_used g.o.call) (changed (look_up s.views (view_used g.o.call)) change)) number (ap (λ (l : Layer T). l.views) g.new)
      (used_goes s.views (view_used g.o.call) change (λ n was e there. given_up (is_claim_call g.o.call) was) number)
  step_goes s after st (inr (inr (inr (inr (inr (inr (inr (inl c)))))))) number le =
      same_views s after (λ n. view_without c.client (s.views n)) number (ap (λ (l : Layer T). l.views) c.new) (crashed_goes c.client (s.views number))
  step_goes s after st (inr (inr (inr (inr (inr (inr (inr (inr f)))))))) number le = same_views s after s.views number (ap (λ (l : Layer T). l.views) f.new) (same_goes (s.views number))
