use Rattle.std.proofs.Common.{ℕ, Bool, refl, ◌∙◌, arith, rules, tests}
use Rattle.std.proofs.lemmas.Bool.Decides.{nat_tests}
use Rattle.std.proofs.lemmas.Iterator.{YieldsList-from_range}
use Rattle.std.proofs.lemmas.Iterator.Consumers.{YieldsList-from_filter}
use Rattle.conditions.specs.Choices.{positions, source}
use Rattle.conditions.specs.Kinds.{in_set}
use Rattle.conditions.proofs.Collected.{collected, passing}
use Rattle.conditions.proofs.TruthSets.{set_decided}
use Rattle.conditions.proofs.truth.TruthSetCondition.decided.Goals as goal

pub returns : goal.returns
returns c =
    let held : ℕ → Bool = λ k. in_set positions c.args.self.now.verdicts (source positions c.in-Some.position.number c.args.commits k) in
    let choices = YieldsList-from_range 0 64 64 c.filter.ensures.source refl in
    rw (← c.in-Some.ensures) (set_decided positions _ _ _ _ c.in-Some.position.within (λ k l.
    collected c.fold-verdicts.ensures.ran (λ v x w q t. search rules) (YieldsList-from_filter _ held choices c.filter.ensures.closure (λ x b q t. (search (rules, tests), search (rules, tests)))) k l
    ∙ passing held 0 64 k
    ∙ grind (arith, nat_tests)))
