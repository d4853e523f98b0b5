-- The numbers of transactions.
use Rattle.std.specs.Prelude.{ℕ, ◌+◌, cond, not, List, take, Some, None, filter, Option, ◌==◌}
use Rattle.std.specs.List.{position}
use Rattle.book.specs.declared.pending.Pending.{Pending}

-- the numbers that are pending, in order of opening
abbrev pub held : Pending → List ℕ
held p = take p.count p.numbers

-- the position of a number: where it stands first
abbrev pub place : ℕ → List ℕ → Option ℕ
place n xs = position (λ x. x == n) xs

-- all but a number, closed up
abbrev pub others : ℕ → List ℕ → List ℕ
others n xs = filter (λ x. not (x == n)) xs

-- the number after n, until they are spent
abbrev pub following : ℕ → Option ℕ
following n = cond (n == 4294967295) None (Some (n + 1))
