use Rattle.std.proofs.Common.{◌≡◌, ℕ, cond, not, eqb, is_some, Some, None, Err, Ok, Option, refl, ap, ◌∙◌, rules, tests}
use Rattle.std.specs.Option.{MatchOption, IsSomeAnd, ok_or}
use Rattle.std.proofs.lemmas.Iterator.{YieldsList-from_slice}
use Rattle.std.proofs.lemmas.Iterator.Search.{position_from_yields_List}
use Rattle.book.specs.declared.faults.BookFault.TheVariants.{NotPending}
use Rattle.book.specs.Numbers.{held, place}
use Rattle.book.specs.Calls.{or_zero}
use Rattle.book.proofs.book.Book.position.Goals as goal

-- the place, where there is one, refuses nothing
refuses : (P : ℕ → ℕ → Type 0) (n : ℕ) (o q : Option ℕ) → MatchOption o (q ≡ None) (λ x. IsSomeAnd q (P x)) → ((x y : ℕ) → P x y → y ≡ x)
    → ok_or q (NotPending n) ≡ cond (not (is_some o)) (Err (NotPending n)) (Ok (or_zero o))
refuses P n None q h same = rw h refl
refuses P n (Some x) None h same = absurd h
refuses P n (Some x) (Some y) h same = ap Ok (same x y h)

pub returns-clause-found : goal.returns-clause-found
returns-clause-found g c =
    let n = c.args.number in
    let xs = held c.args.self.now.pending in
    let found : c.position.result ≡ place n xs =
    position_from_yields_List (λ x. eqb x n) _ _ c.position.result c.position.ensures.ran (YieldsList-from_slice xs cc) (λ x b q k. search (rules, tests)) in
    c.ok_or.ensures.value
    ∙ refuses _ n c.position.result c.map.result c.map.ensures.cases (λ x y k. search rules)
    ∙ ap (λ o. cond (not (is_some o)) (Err (NotPending n)) (Ok (or_zero o))) found
