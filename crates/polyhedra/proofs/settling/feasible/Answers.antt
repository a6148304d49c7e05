use Rattle.std.proofs.Common.{◌≡◌, List, [], ◌∷◌, refl}
use Rattle.linear_terms.specs.declared.row.Case.{Case}
use Rattle.linear_terms.specs.declared.row.Row.{Row}
use Rattle.posing.specs.Posing.{Done, ◌>>=◌}
use Rattle.polyhedra.specs.Infeasibility.{infeasible}
use Rattle.polyhedra.specs.Settle.{feasible, feasible_by, unless}
use Rattle.posing.proofs.Steps.{value_first, error_first, at_end, in_other_words}
use Rattle.polyhedra.proofs.settling.feasible.Goals as goal

with_rows : (case : Case) (rows : List Row) → (rows ≡ [] → ⊥) → infeasible case.rows >>= (λ drops. Done (unless drops case)) ≡ feasible_by case rows
with_rows case [] some = absurd (some refl)
with_rows case (row ∷ rows) some = refl

pub returns-in_err-drops : goal.returns-in_err-drops
unfolding feasible
returns-in_err-drops g c =
    in_other_words (with_rows c.args.case c.args.case.rows (λ none. let e = c.is_empty.ensures.1 none in let f = c.if-is_empty.false in cc))
    (error_first _ c.in_err-drops.ensures refl c.from_residual.ensures.1)

pub returns : goal.returns
unfolding feasible
returns g c =
    in_other_words (with_rows c.args.case c.args.case.rows (λ none. let e = c.is_empty.ensures.1 none in let f = c.if-is_empty.false in cc))
    (value_first _ c.in_ok-drops.ensures refl (at_end c.unless.ensures))
