use Rattle.std.proofs.Common.{List, sym, subst, []}
use Rattle.farkas_check.specs.Ratios.{Fraction}
use Rattle.elimination.specs.declared.spaces.Space.{Space}
use Rattle.elimination.specs.Spaces.{IsBasisOf}
use Rattle.elimination.proofs.Bases.{basis_of_origin}
use Rattle.elimination.proofs.reduction.basis.Goals as goal

pub returns-in-Origin : goal.returns-in-Origin
returns-in-Origin c =
    subst (λ (lines : List (List Fraction)). IsBasisOf c.args.width c.args.space.now lines) (sym c.new.ensures)
    (subst (λ (space : Space). IsBasisOf c.args.width space []) (sym c.in-Origin.is) (basis_of_origin c.args.width))
