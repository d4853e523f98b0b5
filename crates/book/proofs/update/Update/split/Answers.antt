use Rattle.std.proofs.Common.{get_or, sym, ap, ◌∙◌, arith}
use Rattle.book.specs.Lines.{shown}
use Rattle.book.specs.Writes.{rewrite}
use Rattle.book.proofs.Splitting.{splitting_all, splitting_room, splitting_none, splitting_one}
use Rattle.book.proofs.Updating.{left_stays, left_alone}
use Rattle.book.proofs.update.Update.split.Goals as goal
use Rattle.book.proofs.update.Update.split.Goals.{then-touches+in-Some, then-touches+in_default, else-touches}

pub bounds-room-added : goal.bounds-room-added
bounds-room-added g c =
    let is = ap (get_or c.loop-line.lines c.loop-line.line-index) c.line-item.is in
    splitting_room c.loop-line.invariant (omega arith) is _ (sym c.split_line-stays.ensures.added ∙ ap (shown g.C.Condition.meaning) c.in-Some.is)

pub loop-line-preserved : goal.loop-line-preserved
loop-line-preserved g c =
    let m = g.C.Condition.meaning in
    let u = rewrite c.args.self in
    let h = c.loop-line.invariant in
    let is = ap (get_or c.loop-line.lines c.loop-line.line-index) c.line-item.is in
    elim c.if-touches.branch [
      | then-touches+in-Some w ↦
          let does = w.split_line-stays.ensures in
          rw (w.lines-is, w.room-is, w.added-is) (splitting_one h (omega arith) is _ does.stays _ (sym does.added ∙ ap (shown m) w.in-Some.is))
      | then-touches+in_default w ↦
          let does = w.split_line-stays.ensures in
          rw (w.lines-is, w.room-is, w.added-is) (splitting_none h (omega arith) is _ does.stays (sym does.added ∙ ap (shown m) w.in_default.is))
      | else-touches w ↦
          let t = w.if-touches.ensures in
          rw (w.lines-is, w.room-is, w.added-is) (splitting_none h (omega arith) is _ (sym (left_stays u _ t)) (left_alone u _ t))
    ]

pub returns-clause-stay : goal.returns-clause-stay
returns-clause-stay g c = (splitting_all c.loop-line.invariant (omega arith)).0
