use Rattle.std.proofs.Common.{length, ap, ◌∙◌, arith}
use Rattle.book.specs.Books.{state, reach}
use Rattle.book.proofs.Dropping.{drop_further}
use Rattle.run.specs.Runs.{records, peak}
use Rattle.run.proofs.Running.{ran_more, peak_both}
use Rattle.run.proofs.page.run.Goals as goal

pub loop-item-preserved : goal.loop-item-preserved
loop-item-preserved g c =
    let m = g.C.Condition.meaning in
    let i = c.loop-item.invariant.2 in
    let t = c.reply.ensures.taken in
    let step = c.in-Some.ensures.steps in
    let ran = rw step at i.ran in
    let top = peak (records c.args.page.now) (state m c.args.book.now) in (
      tt,
      tt,
      record {
        ran = rw (c.push_reserved.ensures.items, c.reply.ensures.reply, t.leaves) (ran_more ran);
        room = omega (arith, ap length step, i.room, c.push_reserved.ensures.len, c.push_reserved.ensures.capacity);
        lender = t.lender ∙ i.lender;
        possible = λ p. t.possible (i.possible p);
        beyond = drop_further (reach m c.loop-item.book c.reply.new.book) top _ _ (omega (arith, peak_both ran, ap (λ s. length s.lines) t.leaves)) t.beyond ∙ i.beyond;
      },
    )
