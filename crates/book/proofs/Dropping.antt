-- What is left of lists that agree from a place on.
use Rattle.std.proofs.Common.{◌≡◌, ℕ, ◌+◌, ◌-◌, ◌≤◌, List, drop, sym, ap, ◌∙◌, arith}
use Rattle.std.proofs.lemmas.List.{drop-drop}

-- lists that are the same from i on are so from k on
pub drop_further : {X : Type 0} (i k : ℕ) (xs ys : List X) → i ≤ k → drop i xs ≡ drop i ys → drop k xs ≡ drop k ys
drop_further i k xs ys h e =
    let at : i + (k - i) ≡ k = omega arith in
    ap (λ n. drop n xs) (sym at) ∙ sym (drop-drop (k - i) i xs) ∙ ap (drop (k - i)) e ∙ drop-drop (k - i) i ys ∙ ap (λ n. drop n ys) at
