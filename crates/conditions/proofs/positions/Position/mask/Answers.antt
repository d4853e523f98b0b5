-- Each entry of the table, and what is left of all ones, is tested at each choice.
use Rattle.std.proofs.Common.{◌≡◌, ℕ, ◌-◌, ◌^◌, ◌<◌, Bool, true, false, cond, get_or, refl, arith}
use Rattle.conditions.specs.Choices.{positions, bit, same}
use Rattle.conditions.specs.Kinds.{all_below}
use Rattle.conditions.specs.declared.positions.TheConstants.{COMMITTING}
use Rattle.conditions.proofs.Meaning.{all_decides}
use Rattle.conditions.proofs.positions.Position.mask.Goals as goal

abbrev chosen : ℕ → Bool → ℕ
chosen i s = cond s (get_or COMMITTING i 0) (2 ^ 64 - 1 - get_or COMMITTING i 0)

abbrev right : Bool → ℕ → ℕ → Bool
right s i c = same (bit c (chosen i s)) (same s (bit i c))

all_right : (s : Bool) → all_below positions (λ i. all_below (2 ^ positions) (right s i)) ≡ true
all_right true = refl
all_right false = refl

each_right : (s : Bool) (i c : ℕ) → i < positions → c < 2 ^ positions → bit c (chosen i s) ≡ same s (bit i c)
each_right s i c h k =
    let e = (all_decides (2 ^ positions) (right s i)).0 ((all_decides positions (λ i. all_below (2 ^ positions) (right s i))).0 (all_right s) i h) c k in grind arith

pub returns-then-commits : goal.returns-then-commits
returns-then-commits c k h = rw c.if-commits.true (each_right true c.args.self.number k c.args.self.within h)

pub returns-else-commits : goal.returns-else-commits
returns-else-commits c k h = rw c.if-commits.false (each_right false c.args.self.number k c.args.self.within h)
