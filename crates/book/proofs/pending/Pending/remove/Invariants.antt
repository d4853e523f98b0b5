use Rattle.std.proofs.Common.{◌≡◌, not, eqb}
use Rattle.std.proofs.lemmas.List.Filters.{FiltersInPlace}
use Rattle.book.proofs.pending.Pending.remove.Given as goal

abbrev pub invariant-loop-at : goal.invariant-loop-at
invariant-loop-at l =
    FiltersInPlace (λ x. not (eqb x l.number)) l.initial.self.numbers l.self.numbers l.count l.at
    × (l.self.count ≡ l.initial.self.count)
