-- Refusals, as they are told.
use Rattle.std.specs.Prelude.{ℕ, List, [], ◌∷◌}
use Rattle.book.specs.declared.faults.FilterFault.{FilterFault}
use Rattle.book.specs.declared.faults.FilterFault.TheVariants.{NoFilterField, Backward}
use Rattle.book.specs.declared.faults.ChangeFault.{ChangeFault}
use Rattle.book.specs.declared.faults.ChangeFault.TheVariants.{NoChangeField, NoOperation}
use Rattle.book.specs.declared.faults.BookFault.{BookFault}
use Rattle.book.specs.declared.faults.BookFault.TheVariants.{GarbledWord, NotPending, NoTable, BadFilter, BadChange, BadChoice, TooManyPending, NumbersSpent, NoRoom, BadMaking}

-- the number of a refusal, and what it carries
pub record Refusal : Type 0 where
  pub number : ℕ
  pub carries : List ℕ

abbrev pub filter_carries : FilterFault → List ℕ
filter_carries (NoFilterField field) = field ∷ []
filter_carries (Backward low high) = low ∷ (high ∷ [])

abbrev pub change_carries : ChangeFault → List ℕ
change_carries (NoChangeField field) = field ∷ []
change_carries (NoOperation operation) = operation ∷ []

abbrev pub refusal : BookFault → Refusal
refusal (GarbledWord word) = record { number = 1; carries = word ∷ [] }
refusal (NotPending number) = record { number = 2; carries = number ∷ [] }
refusal (NoTable table) = record { number = 3; carries = table ∷ [] }
refusal (BadFilter e) = record { number = 4; carries = filter_carries e }
refusal (BadChange e) = record { number = 5; carries = change_carries e }
refusal (BadChoice choice) = record { number = 6; carries = choice ∷ [] }
refusal TooManyPending = record { number = 9; carries = [] }
refusal NumbersSpent = record { number = 10; carries = [] }
refusal NoRoom = record { number = 11; carries = [] }
refusal BadMaking = record { number = 14; carries = [] }
