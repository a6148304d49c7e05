use Rattle.std.proofs.Common.{◌∙◌, [], refl, ap}
use Rattle.farkas_check.specs.Columns.{columns}
use Rattle.posing.specs.Posing.{Done}
use Rattle.posing.proofs.Steps.{at_end, in_other_words, value_first}
use Rattle.newton_rounds.specs.Candidates.{with_answer}
use Rattle.newton_rounds.proofs.RowRefutations.{asked-in}
use Rattle.newton_rounds.proofs.refuting.findings_in.Goals as goal

pub returns : goal.returns
returns g c =
    in_other_words (asked-in c.args.found c.args.rows (λ none. let e = c.is_empty.ensures.1 none in let f = c.if-is_empty.false in cc))
    (value_first (λ answer. Done (with_answer c.args.found c.args.rows answer)) c.in_ok-answer.ensures refl
    (at_end (c.in_ok-with_answer.ensures c.args.rows (c.in_ok-of.ensures ∙ ap (λ rows. columns rows []) c.as_slice.ensures))))
