use Rattle.std.proofs.Common.{sym, ap, ◌∙◌, arith}
use Rattle.conditions.specs.Choices.{bit}
use Rattle.book.specs.Votes.{lowest_below, vote_on}
use Rattle.book.proofs.Voting.{none_set, first_set}
use Rattle.book.proofs.vote.vote_against.Goals as goal

pub returns-then-choices-eq0 : goal.returns-then-choices-eq0
returns-then-choices-eq0 c = sym (ap (λ x. vote_on (lowest_below 64 (λ k. bit k x))) c.if-choices-eq0.true ∙ ap vote_on (none_set 64))

pub returns : goal.returns
returns c = sym (ap vote_on (first_set 64 c.args.choices (omega arith) (omega arith)))
