use Rattle.std.proofs.Common.{not, ◌&&◌, sym, ap, ◌∙◌, arith}
use Rattle.conditions.specs.Choices.{bit}
use Rattle.book.proofs.Voting.{cued, cue_then}
use Rattle.book.proofs.vote.uncued.Goals as goal

pub loop-line-preserved-then-is_cue : goal.loop-line-preserved-then-is_cue
loop-line-preserved-then-is_cue g c k h =
    let m = g.C.Condition.meaning in
    let v = c.loop-line.left in
    cue_then m k c.args.cue v c.next.new.self.iter.rest.now c.in-Some.line.now c.verdicts.result (omega arith) h c.if-is_cue.ensures (c.verdicts.ensures k h)
    ∙ ap (λ ls. bit k v && not (cued m k c.args.cue ls)) (sym c.in-Some.ensures.steps) ∙ c.loop-line.invariant k h
