use Rattle.std.proofs.Common.{◌≡◌, ◌<◌, not, length, get_or, ap, arith}
use Rattle.std.proofs.lemmas.List.{get_or_default}
use Rattle.std.proofs.lemmas.Bool.{eq-eqb, ne_eqb}
use Rattle.std.proofs.lemmas.List.Filters.{FiltersInPlace-more_no, FiltersInPlace-more_set}
use Rattle.book.proofs.pending.Pending.remove.Goals as goal

pub loop-at-preserved : goal.loop-at-preserved
loop-at-preserved c =
    let ys = c.loop-at.self.numbers in
    let i = c.loop-at.at in
    let n = c.args.number in
    let lt : i < length ys = omega (arith, c.loop-at.self.size, c.loop-at.self.few, c.loop-at.invariant.1) in
    let is : get_or ys i 0 ≡ get_or ys i (get_or ys i 0) = get_or_default ys i 0 (get_or ys i 0) lt in
    elim c.if-self-at.branch [
      | goal.then-self-at w ↦
          rw (w.self-is, w.count-is) (FiltersInPlace-more_set c.loop-at.invariant.0 lt (ap not (ne_eqb (get_or ys i 0) n w.if-self-at.true)) is, c.loop-at.invariant.1)
      | goal.else-self-at w ↦
          rw (w.self-is, w.count-is) (FiltersInPlace-more_no c.loop-at.invariant.0 lt (ap not (eq-eqb (get_or ys i 0) n w.if-self-at.false)) is, c.loop-at.invariant.1)
    ]
