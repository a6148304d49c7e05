use Rattle.std.proofs.Common.{sym, ap, ◌∙◌, rules, SFits, Ok}
use Rattle.std.specs.Int.{w128}
use Rattle.items.proofs.Gives.{Gives-Ok, Gives-Err}
use Rattle.linear_terms.specs.declared.error.TermError.TheVariants.{Wide, Degree}
use Rattle.linear_terms.specs.Expressions.{weighted_sum}
use Rattle.linear_terms.specs.TermError.{cause}
use Rattle.recurrence.proofs.Linear.{weighted-made, weighted-not_degree, weighted-not_wide}
use Rattle.recurrence.proofs.terms.combination_of_columns.Goals as goal

pub returns-in-Ok : goal.returns-in-Ok
returns-in-Ok c = λ cs ascends same.
    ap (λ p. Ok p) (weighted-made c.args.numbers.now cs c.in-Ok.poly ascends
    (ap (weighted_sum c.args.numbers.now) (sym same) ∙ Gives-Ok cause (λ p. p) c.combination.result (weighted_sum c.args.numbers.now c.args.columns.now) c.in-Ok.poly c.in-Ok.is c.combination.ensures.exact))

pub returns-in-Err-Wide : goal.returns-in-Err-Wide
returns-in-Err-Wide c = λ cs ascends same.
    let range : SFits w128 c.in-Err-Wide.left = search rules in
    absurd (weighted-not_wide c.args.numbers.now cs c.in-Err-Wide.left c.in-Err-Wide.right c.in-Err-Wide.times ascends range
    (ap (weighted_sum c.args.numbers.now) (sym same)
    ∙ Gives-Err cause (λ p. p) c.combination.result (weighted_sum c.args.numbers.now c.args.columns.now) c.in-Err-Wide.field-0 (Wide c.in-Err-Wide.left c.in-Err-Wide.right c.in-Err-Wide.times) c.in-Err-Wide.is (ap cause c.in-Err-Wide.field-0-is) c.combination.ensures.exact))

pub returns-in-Err-Degree : goal.returns-in-Err-Degree
returns-in-Err-Degree c = λ cs ascends same.
    absurd (weighted-not_degree c.args.numbers.now cs ascends
    (ap (weighted_sum c.args.numbers.now) (sym same)
    ∙ Gives-Err cause (λ p. p) c.combination.result (weighted_sum c.args.numbers.now c.args.columns.now) c.in-Err-Degree.field-0 Degree c.in-Err-Degree.is (ap cause c.in-Err-Degree.field-0-is) c.combination.ensures.exact))
