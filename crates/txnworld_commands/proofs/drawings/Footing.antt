-- What was written behind what was drawn, and at the foot of a picture.
use Rattle.std.proofs.Common.{◌≡◌, ℕ, List, ◌++◌, Option, Some, None, ◌∙◌, arith, refl, subst}
use Rattle.std.proofs.lemmas.List.{append_assoc}
use Rattle.std.specs.Prelude.{Result, Ok, Err, OnOk, IfOk, Bool, true}
use Rattle.std.specs.Io.KnownBytes.{Appends, Keeps, append_known}
use Rattle.txn_script_lines.specs.declared.stop.Stop.{Stop}
use Rattle.txn_script_lines.specs.declared.stop.Stop.TheVariants as stops
use Rattle.txn_script.specs.Script.{ended_status}

-- the drawing was printed, then the foot, all was written, and nothing more
pub foot_behind : (a b c d : Option (List ℕ)) (drawn left foot : List ℕ) → Appends (append_known a drawn) (append_known b left) foot → Appends b c left → Keeps c d → Appends a d (drawn ++ foot)
foot_behind None b c d drawn left foot printed written kept = tt
foot_behind (Some xs) None c d drawn left foot printed written kept = absurd printed
foot_behind (Some xs) (Some ys) None d drawn left foot printed written kept = absurd written
foot_behind (Some xs) (Some ys) (Some zs) None drawn left foot printed written kept = absurd kept
foot_behind (Some xs) (Some ys) (Some zs) (Some us) drawn left foot printed written kept = kept ∙ (written ∙ (printed ∙ append_assoc xs drawn foot))

-- a run that ended with status 0 ended well
pub ended_well : {A : Type 0} (ended : Result A Stop) (P : Type 0) → ended_status ended ≡ 0 → OnOk ended P → P
ended_well (Ok done) P zero on = on
ended_well (Err (stops.BadLine n)) P zero on = absurd (omega (arith, zero))
ended_well (Err stops.ReadFailed) P zero on = absurd (omega (arith, zero))
ended_well (Err stops.WriteFailed) P zero on = absurd (omega (arith, zero))
ended_well (Err stops.NoMemory) P zero on = absurd (omega (arith, zero))

-- what was written is this text
pub written_is : (old new : Option (List ℕ)) (picture whole : List ℕ) → Appends old new picture → picture ≡ whole → Appends old new whole
written_is old new picture whole written is = subst (λ it. Appends old new it) is written

-- what holds of a picture that was drawn
pub drawn_well : {P : Type 0} (ended : Result Bool Stop) → ended ≡ Ok true → IfOk ended (λ is_drawn. is_drawn ≡ true → P) → P
drawn_well {P} ended is on = subst (λ it. IfOk it (λ is_drawn. is_drawn ≡ true → P)) is on refl
