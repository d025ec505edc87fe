-- Every run keeps what stands of the layer.
use Rattle.std.proofs.Common.{◌≡◌, ℕ, zero, suc, List, Option, Some, None, inl, inr, refl, sym, subst, arith}
use Rattle.txn_history.specs.declared.event.Answer.TheVariants as answers
use Rattle.txn_machine.specs.views.Layer.{Layer, Keeps, Ends, opening}
use Rattle.txn_machine.specs.views.Steps.{Tells, Steps, Runs, operation_of}
use Rattle.txn_machine.proofs.views.Stands.{Stands, EndStands}
use Rattle.txn_machine.proofs.views.Turns.{turn_keeps}
use Rattle.txn_machine.proofs.views.Begins.{begin_keeps}
use Rattle.txn_machine.proofs.views.Takes.{take_keeps}
use Rattle.txn_machine.proofs.views.Effects.{create_keeps, advance_keeps, remove_keeps}
use Rattle.txn_machine.proofs.views.Ends.{give_up_keeps, crash_keeps}
use Rattle.txn_machine.proofs.views.Failed.{fail_keeps}

module _ {T : Type 0} (decode : List ℕ → Option T) (get_epoch : T → ℕ) (set_epoch : T → ℕ → T) where
  -- the answer of a call without a view
  pub tell_stands : (s after : Layer T) (t : Tells decode get_epoch set_epoch s after) → EndStands decode get_epoch set_epoch s.failed s.rows s.views s.count t.of.op (operation_of t.of) (answers.Plain t.answer) Keeps
  tell_stands s after t = record { fits = t.fits; known = omega arith; quiet = λ number ne. (refl, refl); own = λ number e. absurd (let clash : None ≡ Some number = e in cc); rises = λ number used e there. tt }

  pub tell_keeps : (s after : Layer T) → Stands decode get_epoch set_epoch s → Tells decode get_epoch set_epoch s after → Stands decode get_epoch set_epoch after
  tell_keeps s after st t = subst (Stands decode get_epoch set_epoch) (sym t.new) (turn_keeps decode get_epoch set_epoch s t.of.op (operation_of t.of) (Ends (answers.Plain t.answer) Keeps) st t.of.runs (tell_stands s after t))

  pub opening_stands : Stands decode get_epoch set_epoch opening
  opening_stands =
      record {
        good = λ k row e. absurd (let clash : None ≡ Some row = e in cc);
        count = refl;
        views = λ number. tt;
        ops = λ op. tt;
        asked = tt;
        unseen = λ number le. (refl, refl);
        begun = refl;
        fresh = λ op le. (record { begun = refl; running = refl }, refl);
      }

  pub step_keeps : (s after : Layer T) → Stands decode get_epoch set_epoch s → Steps decode get_epoch set_epoch s after → Stands decode get_epoch set_epoch after
  step_keeps s after st (inl h) = begin_keeps decode get_epoch set_epoch s after st h
  step_keeps s after st (inr (inl h)) = take_keeps decode get_epoch set_epoch s after st h
  step_keeps s after st (inr (inr (inl h))) = tell_keeps s after st h
  step_keeps s after st (inr (inr (inr (inl h)))) = create_keeps decode get_epoch set_epoch s after st h
  step_keeps s after st (inr (inr (inr (inr (inl h))))) = advance_keeps decode get_epoch set_epoch s after st h
  step_keeps s after st (inr (inr (inr (inr (inr (inl h)))))) = remove_keeps decode get_epoch set_epoch s after st h
  step_keeps s after st (inr (inr (inr (inr (inr (inr (inl h))))))) = give_up_keeps decode get_epoch set_epoch s after st h
  step_keeps s after st (inr (inr (inr (inr (inr (inr (inr (inl h)))))))) = crash_keeps decode get_epoch set_epoch s after st h
  step_keeps s after st (inr (inr (inr (inr (inr (inr (inr (inr h)))))))) = fail_keeps decode get_epoch set_epoch s after st h

  run_keeps : (n : ℕ) (s after : Layer T) → Stands decode get_epoch set_epoch s → Runs decode get_epoch set_epoch n s after → Stands decode get_epoch set_epoch after
  run_keeps zero s after st e = subst (Stands decode get_epoch set_epoch) (sym e) st
  run_keeps (suc n) s after st r = run_keeps n r.0 after (step_keeps s r.0 st r.1) r.2

  pub reached : (n : ℕ) (s : Layer T) → Runs decode get_epoch set_epoch n opening s → Stands decode get_epoch set_epoch s
  reached n s r = run_keeps n opening s opening_stands r
