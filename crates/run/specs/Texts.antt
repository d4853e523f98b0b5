-- What is printed of replies.
use Rattle.std.specs.Prelude.{ℕ, List, ◌++◌, Ok, Err, codes, decimal, Result}
use Rattle.std.specs.List.{flat_map}
use Rattle.book.specs.declared.vote.Vote.{Vote}
use Rattle.book.specs.declared.vote.Vote.TheVariants.{Yes, No}
use Rattle.run.specs.declared.calls.Answer.{Answer}
use Rattle.run.specs.declared.calls.Answer.TheVariants.{Opened, Lines, Voted, Rows}
use Rattle.run.specs.declared.faults.RunFault.{RunFault}
use Rattle.run.specs.declared.faults.Reply.{Reply}
use Rattle.run.specs.Faults.{run_refusal}

abbrev pub vote_text : Vote → List ℕ
vote_text Yes = codes "yes"
vote_text (No choice) = codes "no " ++ decimal choice

abbrev pub answer_text : Answer → List ℕ
answer_text (Opened number) = decimal number
answer_text (Lines count) = decimal count
answer_text (Voted vote) = vote_text vote
answer_text (Rows count) = decimal count

abbrev pub outcome_text : Result Answer RunFault → List ℕ
outcome_text (Ok answer) = codes " ok " ++ answer_text answer
outcome_text (Err e) = codes " refused " ++ decimal (run_refusal e).number

-- `PLACE KIND ok ANSWER` or `PLACE KIND refused NUMBER`
abbrev pub reply_text : Reply → List ℕ
reply_text r = decimal r.place ++ (codes " " ++ (decimal r.kind ++ outcome_text r.outcome))

-- each reply has a line of its own
abbrev pub text_of : List Reply → List ℕ
text_of rs = flat_map (λ r. reply_text r ++ codes "\n") rs
