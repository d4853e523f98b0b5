use Rattle.std.proofs.Common.{length, eqb, ap, ◌∙◌, subst, rules}
use Rattle.std.specs.List.{flat_map}
use Rattle.book.specs.Numbers.{held, others}
use Rattle.book.specs.Lines.{decided_line}
use Rattle.book.specs.Calls.{position, lines_decided}
use Rattle.book.specs.Books.{state, Became}
use Rattle.book.proofs.Grounds.{check_passed, check_value}
use Rattle.book.proofs.Meanings.{decide_decides}
use Rattle.book.proofs.Calling.{performed}
use Rattle.book.proofs.Possibly.{decided_possible}
use Rattle.book.proofs.book.Book.decide.Goals as goal

pub returns : goal.returns
returns g c =
    let m = g.C.Condition.meaning in
    let b = c.args.self.now in
    let s = state m b in
    let n = c.args.number in
    let commits = eqb c.args.word 1 in
    let pending = check_passed _ _ c.in_ok-position.ensures.found in
    let wrote : Became m (lines_decided n c.args.word s) b c.retain_lines.new.self =
    subst (λ fs. Became m fs b c.retain_lines.new.self) (λ t. flat_map (decided_line (check_value _ _ c.in_ok-position.ensures.found t) (check_value _ _ c.in_ok-commits.ensures t)) s.lines)
    (c.retain_lines.ensures (decided_line c.in_ok-position.position c.in_ok-commits.commits) (λ l r k. search rules)) in
    performed m (check_passed _ _ c.in_ok-commits.ensures, (pending, tt))
    (c.len.ensures.count ∙ ap length wrote.lines)
    (λ t. record { capacity = wrote.size t; first = wrote.numbers.0 t; next = wrote.numbers.1 t; pending = (c.remove.ensures ∙ ap (λ ps. others n (held ps)) wrote.numbers.2) t; lines = wrote.lines t })
    wrote.beyond
    (λ _. decided_possible (position n s) commits s.lines)
    wrote.lender
    (decide_decides n s c.in_ok-position.ensures.within commits (others n s.pending))
