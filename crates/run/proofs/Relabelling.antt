-- A call keeps its promises when its answer is given another name.
use Rattle.std.proofs.Common.{◌≡◌, ℕ, Bool, true, false, cond, List, [], ◌∷◌, Ok, Err, Result, refl, ap, ◌∙◌}
use Rattle.std.specs.Result.{result_map_both}
use Rattle.book.specs.declared.book.Book.{Book}
use Rattle.book.specs.declared.faults.BookFault.{BookFault}
use Rattle.book.specs.Calls.{Ground, Effect, refusing}
use Rattle.book.specs.Books.{state, Called}
use Rattle.run.specs.Runs.{answering}

module _ {A B : Type 0} (f : A → B) where
  abbrev mapped : Result A BookFault → Result B BookFault
  mapped r = result_map_both f (λ e. e) r

  refusing_mapped : (gs : List Ground) (a : A) → mapped (refusing gs a) ≡ refusing gs (f a)
  refusing_mapped [] a = refl
  refusing_mapped (g ∷ gs) a =
      elim g.applies as (λ t. mapped (cond t (Err g.fault) (refusing gs a)) ≡ cond t (Err g.fault) (refusing gs (f a)))
      [ true ↦ refl | false ↦ refusing_mapped gs a ]

  module _ {C : Type 0} (m : C → ℕ → Bool) {e : Effect A} {a b : Book C} where
    answered : {r : Result A BookFault} → Called m e a b r → mapped r ≡ refusing (e.grounds (state m a)) (f (e.answer (state m a)))
    answered h = ap mapped h.answers ∙ refusing_mapped (e.grounds (state m a)) (e.answer (state m a))

    called_mapped : (r : Result A BookFault) → Called m e a b r → Called m (answering f e) a b (mapped r)
    called_mapped (Ok x) h = record { answers = answered h; leaves = h.leaves; told = h.told; refused = λ g o. cc; beyond = h.beyond; possible = h.possible; lender = h.lender }
    called_mapped (Err g) h = record { answers = answered h; leaves = h.leaves; told = h.told; refused = λ _ _. h.refused g refl; beyond = h.beyond; possible = h.possible; lender = h.lender }

    pub called_as : {r : Result A BookFault} {s : Result B BookFault} → Called m e a b r → s ≡ mapped r → Called m (answering f e) a b s
    called_as {r} h e = rw e (called_mapped r h)
