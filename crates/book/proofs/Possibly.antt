-- No call leaves an impossible line.
use Rattle.std.proofs.Common.{◌≡◌, ℕ, Bool, true, false, cond, List, [], ◌∷◌, refl}
use Rattle.std.specs.List.{flat_map, AllByRecursion}
use Rattle.std.proofs.ByRecursion.{All-append}
use Rattle.book.specs.declared.row.Row.{Row}
use Rattle.book.specs.Lines.{Fact, impossible, decided_line}
use Rattle.book.specs.Writes.{deleted_line}

abbrev pub Possible : Fact → Type 0
Possible f = impossible f ≡ false

pub kept_possible : (f : Fact) (b : Bool) → impossible f ≡ b → AllByRecursion Possible (cond b [] (f ∷ []))
kept_possible f true e = tt
kept_possible f false e = (e, tt)

-- where each line leaves possible lines alone, so do all of them
pub each_possible : (h : Fact → List Fact) → ((f : Fact) → AllByRecursion Possible (h f)) → (fs : List Fact) → AllByRecursion Possible (flat_map h fs)
each_possible h one [] = tt
each_possible h one (f ∷ fs) = All-append _ (h f) (flat_map h fs) (one f) (each_possible h one fs)

pub decided_possible : (i : ℕ) (s : Bool) (fs : List Fact) → AllByRecursion Possible (flat_map (decided_line i s) fs)
decided_possible i s = each_possible (decided_line i s) (λ f. kept_possible _ _ refl)

pub deleted_possible : (i table : ℕ) (p : Row → Bool) (fs : List Fact) → AllByRecursion Possible (flat_map (deleted_line i table p) fs)
deleted_possible i table p = each_possible (deleted_line i table p) (λ f. kept_possible _ _ refl)
