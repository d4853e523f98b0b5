use Rattle.std.proofs.Common.{◌≡◌, ℕ, ◌^◌, ◌<◌, true, ◌&&◌, ltb, length, sym, ap, ◌∙◌, subst, arith}
use lib.Bits.{bit_and}
use Rattle.std.proofs.lemmas.Bool.{lt-ltb}
use Rattle.std.proofs.lemmas.Bool.Decides.{nat_tests}
use Rattle.conditions.specs.Choices.{positions, bit}
use Rattle.conditions.specs.Meanings.{everywhere, narrowing}
use Rattle.conditions.proofs.Bits.{bit_of_and}
use Rattle.book.specs.Votes.{orphaned, lowest_below, vote_on, Says}
use Rattle.book.specs.Calls.{position, speaks_against}
use Rattle.book.specs.Books.{state}
use Rattle.book.proofs.Grounds.{check_passed, check_value}
use Rattle.book.proofs.Showing.{narrowed_at}
use Rattle.book.proofs.Voting.{lowest_first}
use Rattle.book.proofs.Lowest.{vote_says}
use Rattle.book.proofs.Calling.{answered}
use Rattle.book.proofs.book.Book.vote.Goals as goal

pub returns : goal.returns
returns g c =
    let m = g.C.Condition.meaning in
    let b = c.args.self.now in
    let s = state m b in
    let n = c.args.number in
    let pending = check_passed _ _ c.in_ok-position.ensures.found in
    let at = c.in_ok-position.ensures.within in
    let o = c.orphans.result in
    let k = c.verdicts-committing.result in
    let f = c.first_choices.result in
    let all = c.choices.ensures.count in
    let same : (d : ℕ) → d < 64 → bit d o ≡ (ltb d (2 ^ length s.pending) && speaks_against n s d) =
    λ d l.
    let x = bit_of_and d k f in
    let z = c.orphans.ensures d l ∙ ap (λ fs. bit d (bit_and k f) && orphaned d fs) c.lines_in_use.ensures in
    let u : bit d k ≡ bit (position n s) d =
    c.verdicts-committing.ensures d l
    ∙ ap (λ q. q d) (c.narrowed.ensures ∙ ap (narrowing positions c.in_ok-position.position true) c.always.ensures ∙ ap (λ i. narrowing positions i true (everywhere positions)) (check_value _ _ c.in_ok-position.ensures.found))
    ∙ narrowed_at (position n s) at d l 0 true (everywhere positions) ∙ ap (λ b. b && bit (position n s) d) (lt-ltb d 64 l) in
    let v : bit d f ≡ ltb d (2 ^ length s.pending) = c.first_choices.ensures d ∙ ap (ltb d) all in
    grind (arith, nat_tests) in
    let top = 2 ^ length s.pending in
    let gives : c.vote_against.result ≡ vote_on (lowest_below top (speaks_against n s)) =
    c.vote_against.ensures ∙ ap vote_on (lowest_first 64 top _ (speaks_against n s) (omega (arith, c.choices.ensures.within, all)) same) in
    record {
      answered = answered m (pending, tt) gives;
      plainly = subst (λ v. Says v top (speaks_against n s)) (sym gives) (vote_says top (speaks_against n s));
    }
