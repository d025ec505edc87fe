-- What is said of a moment, in bytes.
use Rattle.std.specs.Prelude.{◌≡◌, ℕ, Bool, true, false, ◌⊎◌, if◌then◌else◌, List, [], ◌∷◌, ◌++◌, codes, decimal}
use Rattle.txn_drawing_moments.specs.declared.holds.ShutOut.{ShutOut}
use Rattle.txn_drawing_moments.specs.declared.moment.Kind.{Kind}
use Rattle.txn_drawing_moments.specs.declared.moment.Kind.TheVariants as kinds

-- ⊘, → and ✗ in UTF-8, each with a blank behind it
abbrev pub refused_sign : List ℕ
refused_sign = 226 ∷ 138 ∷ 152 ∷ 32 ∷ []

abbrev pub answer_sign : List ℕ
answer_sign = 226 ∷ 134 ∷ 146 ∷ 32 ∷ []

abbrev pub refusal_sign : List ℕ
refusal_sign = 226 ∷ 156 ∷ 151 ∷ 32 ∷ []

-- what an event was: a call by the number of its operation and its words, a refused event by its words and its fault
abbrev pub event_text : Kind → ℕ → List ℕ → List ℕ
event_text kinds.Begins op words = decimal op ++ (32 ∷ words)
event_text kinds.Refused op words = refused_sign ++ words
event_text kinds.Crashes op words = codes "crash"
event_text kinds.Killed op words = codes "killed"
event_text kinds.GivesUp op words = codes "given up"
event_text _ op words = []

-- An answer stands behind its sign, a refusal without the word "refused", where it begins with that.
abbrev pub IsAnswerText : Bool → List ℕ → List ℕ → Type 0
IsAnswerText false words text = text ≡ answer_sign ++ words
IsAnswerText true words text = (why : List ℕ) × (text ≡ refusal_sign ++ why) × ((words ≡ codes "refused " ++ why) ⊎ (words ≡ why))

-- a client that is shut out, with the epoch that it holds
abbrev pub out_of : ShutOut → List ℕ
out_of it = codes ", client " ++ (decimal it.client ++ (codes " (epoch " ++ (decimal it.epoch ++ codes ") is shut out")))

-- each client that is shut out
abbrev pub out_text : List ShutOut → List ℕ
out_text [] = []
out_text (it ∷ rest) = out_of it ++ out_text rest

-- A client claims a greater epoch, or writes with one, and others are shut out.
abbrev pub fence_text : ℕ → Bool → ℕ → List ShutOut → List ℕ
fence_text client is_claim epoch out = (codes "client " ++ (decimal client ++ (32 ∷ ((if is_claim then codes "claims" else codes "writes") ++ (codes " epoch " ++ decimal epoch))))) ++ out_text out
