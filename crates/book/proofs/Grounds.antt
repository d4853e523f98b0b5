-- Refusals: what a check says of its ground, what is told, and that the smallest number wins.
use Rattle.std.proofs.Common.{◌≡◌, ℕ, suc, ◌≤◌, Bool, true, false, ◌&&◌, ltb, ◌⊎◌, List, [], ◌∷◌, Ok, Err, refl, ap, inl, inr, arith}
use Rattle.std.specs.List.{ContainsAt, AllByRecursion}
use Rattle.std.proofs.lemmas.Bool.{ltb-true, and_parts, both_ways}
use Rattle.book.specs.declared.faults.BookFault.{BookFault}
use Rattle.book.specs.Faults.{refusal}
use Rattle.book.specs.Calls.{Ground, refusing}

-- a check on one ground

module _ {B : Type 0} (g : Ground) (c : B) where
  pub check_passed : {b : B} → Ok b ≡ refusing (g ∷ []) c → g.applies ≡ false
  check_passed {b} is = grind arith

  pub check_value : {b : B} → Ok b ≡ refusing (g ∷ []) c → b ≡ c
  check_value {b} is = grind arith

  pub check_failed : {e : BookFault} → Err e ≡ refusing (g ∷ []) c → (g.applies ≡ true) × (g.fault ≡ e)
  check_failed {e} is = (grind arith, grind arith)

-- none applies
abbrev pub Clear : List Ground → Type 0
Clear gs = AllByRecursion (λ g. g.applies ≡ false) gs

-- the first that applies has the fault f
abbrev pub Stops : List Ground → BookFault → Type 0
Stops [] f = ⊥
Stops (g ∷ gs) f = ((g.applies ≡ true) × (g.fault ≡ f)) ⊎ ((g.applies ≡ false) × Stops gs f)

pub clear : {A : Type 0} (gs : List Ground) (a : A) → Clear gs → refusing gs a ≡ Ok a
clear [] a h = refl
clear (g ∷ gs) a h = rw h.0 (clear gs a h.1)

pub stops : {A : Type 0} (gs : List Ground) (f : BookFault) (a : A) → Stops gs f → refusing gs a ≡ Err f
stops [] f a h = absurd h
stops (g ∷ gs) f a (inl h) = rw h.0 (ap Err h.1)
stops (g ∷ gs) f a (inr h) = rw h.0 (stops gs f a h.1)

-- their numbers rise, from above k on
abbrev pub rising : ℕ → List Ground → Bool
rising k [] = true
rising k (g ∷ gs) = ltb k (refusal g.fault).number && rising (refusal g.fault).number gs

abbrev Least : BookFault → List Ground → Type 0
Least f gs = AllByRecursion (λ g. g.applies ≡ true → (refusal f).number ≤ (refusal g.fault).number) gs

module _ (k : ℕ) (f : BookFault) (g : Ground) (gs : List Ground) (up : rising k (g ∷ gs) ≡ true) where
  next : k ≤ (refusal g.fault).number
  next = omega (arith, ltb-true k _ (and_parts (ltb k (refusal g.fault).number) _ up).0)

  rest : rising (refusal g.fault).number gs ≡ true
  rest = (and_parts (ltb k (refusal g.fault).number) _ up).1

above : (k : ℕ) (f : BookFault) (gs : List Ground) → (refusal f).number ≤ k → rising k gs ≡ true → Least f gs
above k f [] h up = tt
above k f (g ∷ gs) h up =
    let n = next k f g gs up in
    ((λ _. omega arith), above (refusal g.fault).number f gs (omega arith) (rest k f g gs up))

pub told : (k : ℕ) (gs : List Ground) (f : BookFault) → rising k gs ≡ true → Stops gs f → ContainsAt gs (record { applies = true; fault = f }) × Least f gs
told k [] f up h = absurd h
told k (g ∷ gs) f up (inl h) = (
  (0, omega arith, λ d t. record { applies = h.0 t; fault = h.1 t }),
  ((λ _. omega (arith, ap (λ e. (refusal e).number) h.1)), above (refusal g.fault).number f gs (omega (arith, ap (λ e. (refusal e).number) h.1)) (rest k f g gs up)),
)
told k (g ∷ gs) f up (inr h) =
    let t = told (refusal g.fault).number gs f (rest k f g gs up) h.1 in
    ((suc t.0.0, omega (arith, t.0.1), t.0.2), ((λ e. absurd (both_ways g.applies h.0 e)), t.1))
