use Rattle.std.proofs.Common.{ℕ, List, sym, subst}
use Rattle.std.proofs.lemmas.Result.{IfOk-weaker}
use Rattle.farkas_check.specs.Ratios.{Fraction}
use Rattle.elimination.specs.Echelon.{IsReducedOf}
use Rattle.elimination.specs.Spaces.{HasWidth, IsBasisOf}
use Rattle.elimination.proofs.RowSpans.{width_of, reduced_of}
use Rattle.elimination.proofs.reduction.reduced_basis.Goals as goal

pub basis-requires-clause-width : goal.basis-requires-clause-width
basis-requires-clause-width c = subst (λ (n : ℕ). HasWidth n c.span_of-space.result) (sym c.width.ensures) (width_of c.args.rows.now c.span_of-space.result c.requires c.span_of-space.ensures)

pub returns : goal.returns
returns c =
    IfOk-weaker c.basis.result (λ (lines : List (List Fraction)). IsBasisOf c.width.result c.span_of-space.result lines) (λ (lines : List (List Fraction)). IsReducedOf c.args.rows.now lines)
    (λ lines b. reduced_of c.args.rows.now lines c.span_of-space.result c.span_of-space.ensures (subst (λ (n : ℕ). IsBasisOf n c.span_of-space.result lines) c.width.ensures b)) c.basis.ensures
