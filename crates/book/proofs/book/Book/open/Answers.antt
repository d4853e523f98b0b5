use Rattle.std.proofs.Common.{refl, inl, inr, rules}
use Rattle.std.proofs.lemmas.Result.{err_from_is_err_and}
use Rattle.book.proofs.Grounds.{check_failed}
use Rattle.book.proofs.Calling.{refused}
use Rattle.book.proofs.book.Book.open.Goals as goal

pub returns-in_err-check_making : goal.returns-in_err-check_making
returns-in_err-check_making g c =
    let p = err_from_is_err_and c.from_residual-in_err-check_making.result c.from_residual-in_err-check_making.ensures.1 in
    rw (p.1, p.2) (refused g.C.Condition.meaning refl (inr (search rules, inr (search rules, inl (check_failed _ _ c.in_err-check_making.ensures)))))
