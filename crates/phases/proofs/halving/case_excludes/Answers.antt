use Rattle.std.proofs.Common.{[], List, length, Result, Ok, Err, refl, sym, subst}
use Rattle.std.specs.Prelude.{All, IfOk}
use Rattle.items.specs.Gives.{Gives}
use Rattle.items.proofs.Gives.{Gives-Ok}
use Rattle.linear_terms.specs.declared.error.TermError.{TermError}
use Rattle.linear_terms.specs.declared.row.Case.{Case}
use Rattle.linear_terms.specs.Operations.{substituted_polynomial}
use Rattle.linear_terms.specs.Polynomial.{Polynomial}
use Rattle.linear_terms.specs.Replacement.{HasPoly, put_in}
use Rattle.linear_terms.specs.TermError.{cause}
use Rattle.transition_formula.specs.Transition.{IsSolvable}
use Rattle.transition_formula.proofs.ColumnTests.{every_column-Decides}
use Rattle.phases.specs.Phases.{case_excludes, case_where}
use Rattle.phases.specs.Words.{IsExcludable}
use Rattle.phases.proofs.Exclusions.{excluded-solvable}
use Rattle.phases.proofs.halving.case_excludes.Goals as goal

pub after-solvable : (q : Polynomial) (case : Case) → IsExcludable q case → (r : Result Polynomial TermError) → Gives cause (λ p. p) r (substituted_polynomial (put_in case.post []) q) → IfOk r (λ p. IsSolvable (case_where p case))
after-solvable q case is (Ok p) gives = excluded-solvable q p case (Gives-Ok cause (λ p. p) (Ok p) (substituted_polynomial (put_in case.post []) q) p refl gives) is
after-solvable q case is (Err e) gives = tt

pub subst-after-requires : goal.subst-after-requires
subst-after-requires g c =
    subst (λ (posts : List Polynomial). All (λ t. All (HasPoly posts []) t.0) c.args.poly.now.terms) (sym c.as_slice.ensures)
    ((every_column-Decides (length c.args.case.now.post) 0 c.args.poly.now).0 c.requires.over)

pub excludes_by-requires : goal.excludes_by-requires
excludes_by-requires g c =
    after-solvable c.args.poly.now c.args.case.now c.requires c.subst-after.result
    (subst (λ (posts : List Polynomial). Gives cause (λ p. p) c.subst-after.result (substituted_polynomial (put_in posts []) c.args.poly.now)) c.as_slice.ensures c.subst-after.ensures.exact)

pub returns : goal.returns
unfolding case_excludes
returns g c =
    c.excludes_by.ensures (substituted_polynomial (put_in c.args.case.now.post []) c.args.poly.now)
    (subst (λ (posts : List Polynomial). Gives cause (λ p. p) c.subst-after.result (substituted_polynomial (put_in posts []) c.args.poly.now)) c.as_slice.ensures c.subst-after.ensures.exact)
