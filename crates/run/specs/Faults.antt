-- The refusals of a run, as they are told.
use Rattle.std.specs.Prelude.{ℕ, [], ◌∷◌}
use Rattle.book.specs.Faults.{Refusal, refusal}
use Rattle.run.specs.declared.faults.PageFault.{PageFault}
use Rattle.run.specs.declared.faults.PageFault.TheVariants.{CutShort, UnknownKind}
use Rattle.run.specs.declared.faults.RunFault.{RunFault}
use Rattle.run.specs.declared.faults.RunFault.TheVariants.{OnPage, InBook}

abbrev pub page_refusal : PageFault → Refusal
page_refusal CutShort = record { number = 12; carries = [] }
page_refusal UnknownKind = record { number = 13; carries = [] }

-- a lower refusal, carried whole behind the place and the kind of its record
abbrev pub located_refusal : ℕ → ℕ → Refusal → Refusal
located_refusal place kind r = record { number = r.number; carries = place ∷ (kind ∷ r.carries) }

abbrev pub run_refusal : RunFault → Refusal
run_refusal (OnPage e) = located_refusal e.place e.kind (page_refusal e.fault)
run_refusal (InBook e) = located_refusal e.place e.kind (refusal e.fault)
