use Rattle.std.proofs.Common.{sym, refl, arith}
use Rattle.book.specs.Books.{in_use}
use Rattle.book.proofs.Updating.{kept_all}
use Rattle.book.proofs.Using.{used_is}
use Rattle.book.proofs.book.Book.clear_lines.Goals as goal

pub returns-else-count-self : goal.returns-else-count-self
returns-else-count-self g c =
    let m = g.C.Condition.meaning in
    let b = c.args.self.now in
    record { lines = sym (kept_all (in_use m b) (omega (arith, used_is m b))); size = refl; numbers = (refl, refl, refl); beyond = refl; lender = refl }
