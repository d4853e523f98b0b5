use Rattle.std.proofs.Common.{length, ap, ◌∙◌, arith}
use Rattle.std.specs.List.{flat_map}
use Rattle.std.proofs.lemmas.Bool.Decides.{nat_tests}
use Rattle.book.specs.Writes.{rewrite, extra_line}
use Rattle.book.specs.Books.{in_use}
use Rattle.book.proofs.Using.{possible_fit}
use Rattle.book.proofs.Updating.{length_updated, few_more}
use Rattle.book.proofs.book.Book.has_room.Goals as goal

pub overflow_sub-room : goal.overflow_sub-room
overflow_sub-room g c = omega (arith, possible_fit g.C.Condition.meaning c.args.self.now)

pub returns-then-count-room : goal.returns-then-count-room
returns-then-count-room g c =
    let fs = in_use g.C.Condition.meaning c.args.self.now in
    let long = length_updated (rewrite c.args.update.now) fs in
    let few = few_more (rewrite c.args.update.now) fs in
    grind (arith, nat_tests)

pub returns-else-count-room : goal.returns-else-count-room
returns-else-count-room g c =
    let u = rewrite c.args.update.now in
    let b = c.args.self.now in
    let long = length_updated u (in_use g.C.Condition.meaning b) in
    let fits = possible_fit g.C.Condition.meaning b in
    let forks = c.count_forks.ensures ∙ ap (λ fs. length (flat_map (extra_line u) fs)) c.lines_in_use.ensures in
    grind (arith, nat_tests)
