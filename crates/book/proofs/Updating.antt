-- What an update leaves of one line, and how many lines of all.
use Rattle.std.proofs.Common.{◌≡◌, ◌+◌, ◌≤◌, Bool, true, false, cond, not, List, [], ◌∷◌, ◌++◌, map, length, sym, refl, ap, ◌∙◌, arith}
use Rattle.std.specs.List.{flat_map}
use Rattle.std.proofs.lemmas.List.{length-append, length-map}
use Rattle.conditions.specs.Choices.{positions}
use Rattle.conditions.proofs.Meaning.{half_nowhere}
use Rattle.book.specs.Lines.{Fact, impossible, kept}
use Rattle.book.proofs.Making.{made_fewer}
use Rattle.book.specs.Writes.{Rewrite, rewritten, original, copy, forked, stay_line, extra_line, split_lines, updated_lines}

-- a line that is not touched
module _ (u : Rewrite) (f : Fact) (left : false ≡ rewritten u f) where
  pub left_stays : stay_line u f ≡ f
  left_stays = rw (sym left)

  pub left_alone : extra_line u f ≡ []
  left_alone = rw (sym left)

-- an impossible line adds none
none_of_none : (u : Rewrite) (f : Fact) → impossible f ≡ true → extra_line u f ≡ []
none_of_none u f h =
    let o : impossible (original u f) ≡ true = half_nowhere positions u.position false f.meaning h in
    elim (rewritten u f) as (λ t. cond t (cond (impossible (original u f)) [] (kept (copy u f))) [] ≡ []) [ true ↦ rw o | false ↦ refl ]

pub joined_kept : (u : Rewrite) (fs : List Fact) → flat_map (extra_line u) fs ≡ flat_map (extra_line u) (flat_map kept fs)
joined_kept u [] = refl
joined_kept u (f ∷ fs) = go (impossible f) refl (joined_kept u fs)
  where
    go : (b : Bool) → impossible f ≡ b → flat_map (extra_line u) fs ≡ flat_map (extra_line u) (flat_map kept fs)
        → extra_line u f ++ flat_map (extra_line u) fs ≡ flat_map (extra_line u) (cond b [] (f ∷ []) ++ flat_map kept fs)
    go true e rest = ap (λ l. l ++ flat_map (extra_line u) fs) (none_of_none u f e) ∙ rest
    go false e rest = ap (λ l. extra_line u f ++ l) rest

pub length_updated : (u : Rewrite) (fs : List Fact) → length (updated_lines u fs) ≡ length (flat_map kept fs) + length (flat_map (extra_line u) fs)
unfolding updated_lines split_lines
length_updated u fs =
    length-append (map (stay_line u) (flat_map kept fs)) (flat_map (extra_line u) (flat_map kept fs))
    ∙ (λ t. length-map (flat_map kept fs) (stay_line u) t + length (sym (joined_kept u fs) t))

-- one, where it forks
pub forked_one : (u : Rewrite) (f : Fact) → length (extra_line u f) ≡ cond (forked u f) 1 0
forked_one u f = grind arith

pub kept_one : (f : Fact) → length (kept f) ≡ cond (not (impossible f)) 1 0
kept_one f = grind arith

one_added : (u : Rewrite) (f : Fact) → length (extra_line u f) ≤ 1
one_added u f = grind arith

pub few_more : (u : Rewrite) (fs : List Fact) → length (flat_map (extra_line u) fs) ≤ length (flat_map kept fs)
few_more u fs = omega (arith, ap length (joined_kept u fs), made_fewer (extra_line u) (one_added u) (flat_map kept fs))

kept_once : (f : Fact) → length (kept f) ≤ 1
kept_once f = grind arith

pub kept_fewer : (fs : List Fact) → length (flat_map kept fs) ≤ length fs
kept_fewer = made_fewer kept kept_once

-- where no fewer are kept, all are
pub kept_all : (fs : List Fact) → length fs ≤ length (flat_map kept fs) → flat_map kept fs ≡ fs
kept_all [] e = refl
kept_all (f ∷ fs) e = go (impossible f) e (kept_all fs)
  where
    go : (b : Bool) → length (f ∷ fs) ≤ length (cond b [] (f ∷ []) ++ flat_map kept fs) → (length fs ≤ length (flat_map kept fs) → flat_map kept fs ≡ fs)
        → cond b [] (f ∷ []) ++ flat_map kept fs ≡ f ∷ fs
    go true e rest = absurd (omega (arith, kept_fewer fs))
    go false e rest = ap (λ l. f ∷ l) (rest (omega arith))
