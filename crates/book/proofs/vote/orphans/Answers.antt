use Rattle.std.proofs.Common.{◌≡◌, ℕ, ◌-◌, ◌^◌, not, ◌&&◌, map, ap, ◌∙◌, arith}
use lib.Bits.{bit_and}
use Rattle.std.proofs.lemmas.List.{take_all}
use Rattle.conditions.specs.Choices.{bit}
use Rattle.book.specs.Lines.{seen}
use Rattle.book.specs.Tables.{rows}
use Rattle.book.specs.Votes.{orphaned}
use Rattle.book.proofs.Voting.{cued, cued_append, lacking, orphan_then, orphan_else}
use Rattle.book.proofs.vote.orphans.Goals as goal
use Rattle.book.proofs.vote.orphans.Goals.{then-line-eq-SCRIPT, else-line-eq-SCRIPT}

pub loop-at-preserved : goal.loop-at-preserved
loop-at-preserved g c k h =
    let m = g.C.Condition.meaning in
    let ls = c.args.lines.now in
    let l = c.index-lines-at.result in
    let v = c.loop-at.found in
    let a = c.args.choices in
    let cues = rows 2 k (map (seen m) ls) in
    let before = c.loop-at.invariant k h in
    elim c.if-line-eq-SCRIPT.branch [
      | then-line-eq-SCRIPT w ↦
          let q = w.uncued-found.result in
          let asked : ℕ = bit_and (bit_and a (2 ^ 64 - 1 - v)) w.verdicts.result in
          let parts = ap (cued m k l.row.first) w.split_at.ensures.by_index.0 ∙ cued_append m k l.row.first w.split_at.result.0.now w.split_at.result.1.now in
          let front = w.uncued-left.ensures k h in
          let rest = w.uncued-found.ensures k h in
          let found : bit k q ≡ (bit k asked && not (cued m k l.row.first ls)) = grind arith in
          rw w.found-is (orphan_then m k cues a v c.loop-at.at ls l c.loop-at-test.true c.index-lines-at.is before w.verdicts.result q (omega arith) h w.if-line-eq-SCRIPT.true (w.verdicts.ensures k h) found)
      | else-line-eq-SCRIPT w ↦ rw w.found-is (orphan_else m k cues a v c.loop-at.at ls l c.loop-at-test.true c.index-lines-at.is before w.if-line-eq-SCRIPT.false)
    ]

pub returns : goal.returns
unfolding orphaned
returns g c k h =
    let m = g.C.Condition.meaning in
    let ls = c.args.lines.now in
    c.loop-at.invariant k h ∙ ap (λ xs. bit k c.args.choices && lacking m k (rows 2 k (map (seen m) ls)) xs) (take_all c.loop-at.at ls (omega arith))
