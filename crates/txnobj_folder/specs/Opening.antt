-- A client of an object in a folder, as it is opened.
use Rattle.std.specs.Prelude.{◌≡◌, ◌≤◌, ℕ, true, Option, IfSome}
use Rattle.txn_client_journals.specs.Parts.{no_part}
use Rattle.txnobj.specs.declared.client.ObjectClient.{ObjectClient}

-- a client's number is at least 1, and the one that was asked for, where one was
abbrev pub IsNumberOf : Option ℕ → ℕ → Type 0
IsNumberOf asked number = (1 ≤ number) × IfSome asked (λ own. number ≡ own)

module _ {T C E S R F : Type 0} where
  -- A client that has done nothing and goes on: of this codec and these epochs, and of the number that was asked for, where one was.
  pub record IsOpened (asked : Option ℕ) (codec : C) (epochs : E) (client : ObjectClient T C E S R F) : Type 0 where
    pub number : ℕ
    pub number_is : IsNumberOf asked number
    pub keeper : client.client.keeper ≡ record { client = number; page = 1000; codec = codec; epochs = epochs; part = no_part; alive = true }
    pub goes_on : client.client.goes_on ≡ true
    pub steps : client.steps ≡ 100000
    pub attempts : client.attempts ≡ 10000
