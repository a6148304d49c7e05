use Rattle.std.proofs.Common.{◌≡◌, ◌+◌, ℕ, Vec, Global, get_or, ap, sym, subst, ◌≤◌}
use Rattle.farkas_check.specs.Ratios.{Fraction}
use Rattle.simplex.specs.Exchange.{choices_of}
use Rattle.simplex.proofs.CornersByLines.{IsCornerTo, line_besides, line_put}
use Rattle.simplex.proofs.corner.corner.Goals as goal
use Rattle.simplex.proofs.corner.corner.Goals.{then-column-constants+in_ok-point-2, else-column-constants}

pub loop-line-preserved : goal.loop-line-preserved
loop-line-preserved g c =
    let column : ℕ = get_or c.deref.result.now c.loop-line.line 0 in
    let is : choices_of c.args.t.now c.loop-line.line ≡ column = ap (λ cs. get_or cs c.loop-line.line 0) (sym c.deref.ensures) in
    elim c.if-column-constants.branch [
      | then-column-constants+in_ok-point-2 w ↦
          subst (λ (v : Vec Fraction Global). IsCornerTo c.args.t.now c.args.constants (c.loop-line.line + 1) v.items) (sym w.point-is)
          (line_put c.args.t.now c.args.constants c.loop-line.line column w.in_ok-point-2.field-0 c.loop-line.point.items is w.if-column-constants.true w.in_ok-point-2.ensures.corner c.loop-line.invariant)
      | else-column-constants w ↦
          subst (λ (v : Vec Fraction Global). IsCornerTo c.args.t.now c.args.constants (c.loop-line.line + 1) v.items) (sym w.point-is)
          (line_besides c.args.t.now c.args.constants c.loop-line.line c.loop-line.point.items (subst (λ (n : ℕ). c.args.constants ≤ n) (sym is) w.if-column-constants.false) c.loop-line.invariant)
    ]
