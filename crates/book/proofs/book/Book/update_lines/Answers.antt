use Rattle.std.proofs.Common.{◌≤◌, length, sym, ap, arith}
use Rattle.std.proofs.lemmas.Bool.{leb-true}
use Rattle.book.specs.Writes.{rewrite, split_lines, updated_lines}
use Rattle.book.specs.Books.{in_use}
use Rattle.book.proofs.Updating.{kept_fewer}
use Rattle.book.proofs.Using.{used_is, became_then}
use Rattle.book.proofs.book.Book.update_lines.Goals as goal

pub split_lines-requires : goal.split_lines-requires
unfolding updated_lines
split_lines-requires g c =
    omega (arith, ap (λ fs. length (split_lines (rewrite c.args.update.now) fs)) c.clear_lines.ensures.lines, leb-true _ _ (sym c.if-not-has_room.ensures), c.clear_lines.ensures.size)

pub returns : goal.returns
unfolding updated_lines
returns g c =
    let m = g.C.Condition.meaning in
    let b = c.args.self.now in
    let cleared = c.clear_lines.ensures in
    let fewer : c.clear_lines.new.self.used ≤ b.used = omega (arith, used_is m b, used_is m c.clear_lines.new.self, ap length cleared.lines, kept_fewer (in_use m b)) in
    rw (← cleared.lines) (became_then m b c.clear_lines.new.self c.split_lines.new.self cleared c.split_lines.ensures fewer)
