use Rattle.std.proofs.Common.{[], ◌∷◌, sym, ap, ◌∙◌}
use Rattle.std.proofs.lemmas.Result.{IfOk-weaker}
use Rattle.linear_terms.specs.declared.row.Row.{Row}
use Rattle.transition_formula.proofs.Opposites.{met_none, met_one}
use Rattle.transition_formula.proofs.tidy.met_row.Goals as goal

pub returns-in_ok-clone-in-None : goal.returns-in_ok-clone-in-None
returns-in_ok-clone-in-None c =
    ap (λ (r : Row). r ∷ []) c.in_ok-clone-in-None.ensures.cases ∙ met_none c.args.row.now c.args.rows.now c.requires.apart c.args.place (sym c.in-None.is ∙ c.in_ok-other.ensures.first)

pub returns-in-Some : goal.returns-in-Some
returns-in-Some c =
    IfOk-weaker c.row_met_with.result _ _
    (λ made is. is ∙ met_one c.args.row.now c.args.rows.now c.requires.apart c.args.place c.in-Some.other c.index-rows-other.result (sym c.in-Some.is ∙ c.in_ok-other.ensures.first) c.index-rows-other.is)
    c.row_met_with.ensures
