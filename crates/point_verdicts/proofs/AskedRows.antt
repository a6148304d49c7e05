-- Rows are asked about where there are some.
use Rattle.std.proofs.Common.{◌≡◌, ◌≢◌, false, List, [], ◌∷◌, refl}
use Rattle.linear_terms.specs.declared.row.Row.{Row}
use Rattle.farkas_check.specs.declared.question.Question.TheVariants.{Infeasible}
use Rattle.posing.specs.Posing.{Done, answer_to, ◌>>=◌}
use Rattle.polyhedra.specs.Infeasibility.{is_yes}
use Rattle.point_verdicts.specs.Exclusions.{refutation}

pub asked-of : (rows : List Row) → rows ≢ [] → (answer_to (Infeasible rows) >>= λ answer. Done (is_yes answer)) ≡ refutation rows
asked-of [] some = absurd (some refl)
asked-of (row ∷ rows) some = refl

pub none-asked : (rows : List Row) → rows ≡ [] → Done false ≡ refutation rows
none-asked [] none = refl
none-asked (row ∷ rows) none = absurd (cc)
