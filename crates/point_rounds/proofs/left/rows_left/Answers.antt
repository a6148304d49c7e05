use Rattle.std.proofs.Common.{ap, ◌∙◌}
use Rattle.point_rounds.specs.Parts.{rows_without}
use Rattle.point_rounds.proofs.LeftRows.{without-left}
use Rattle.std.proofs.lemmas.Result.{IfOk-weaker}
use Rattle.point_rounds.proofs.left.rows_left.Goals as goal

pub returns : goal.returns
returns c =
    let numbers = c.as_slice.ensures ∙ c.in_ok-numbers.ensures in
    IfOk-weaker c.rows_without.result _ _
    (λ left e. e ∙ ap (λ ns. rows_without ns 0 c.args.rows) numbers ∙ without-left c.args.place c.args.fallen.now 0 c.args.rows) c.rows_without.ensures
