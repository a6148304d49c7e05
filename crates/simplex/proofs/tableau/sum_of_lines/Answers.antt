use Rattle.std.proofs.Common.{rules, arith, ap, ◌∙◌, ◌≡◌, ◌<◌, length, get_or, Err, ℤ, pos, to_z, of_z}
use Rattle.std.specs.Int.{w128}
use Rattle.std.proofs.Math.ListN.{set, length-set}
use Rattle.std.proofs.lemmas.Int.{to_z-of_z}
use Rattle.std.proofs.lemmas.List.{get_or_default}
use Rattle.simplex.specs.Exchange.{sum_of_lines}
use Rattle.simplex.proofs.Behind.{sum-next, sum-fails}
use Rattle.simplex.proofs.tableau.sum_of_lines.Goals as goal

pub returns-in_err-made-clause-exact : goal.returns-in_err-made-clause-exact
returns-in_err-made-clause-exact c =
    let b : ℤ = get_or c.args.pivot.now c.loop-i.i (pos 0) in
    let within : c.loop-i.i < length c.args.pivot.now = search rules in
    let same : length c.loop-i.made.items ≡ length c.args.pivot.now = c.loop-i.invariant.0 in
    let failed : sum_of_lines c.args.p.now c.args.line c.args.q.now c.args.pivot.now ≡ Err c.in_err-made.field-0.0 =
    sum-fails c.args.p.now c.args.q.now c.args.pivot.now c.loop-i.made.items c.loop-i.i c.index.result.now b c.in_err-made.field-0.0 (sum_of_lines c.args.p.now c.args.line c.args.q.now c.args.pivot.now)
    (omega (arith, within, same)) within (search rules) (get_or_default c.args.pivot.now c.loop-i.i (pos 0) b within) (search rules) c.loop-i.invariant.1 in search rules

pub loop-i-preserved : goal.loop-i-preserved
loop-i-preserved c =
    let b : ℤ = get_or c.args.pivot.now c.loop-i.i (pos 0) in
    let within : c.loop-i.i < length c.args.pivot.now = search rules in
    let same : length c.loop-i.made.items ≡ length c.args.pivot.now = c.loop-i.invariant.0 in
    let is : to_z w128 (of_z w128 c.in_ok-made.field-0) ≡ c.in_ok-made.field-0 = to_z-of_z w128 c.in_ok-made.field-0 (search rules) in (
      length-set c.loop-i.made.items c.loop-i.i (to_z w128 (of_z w128 c.in_ok-made.field-0)) ∙ same,
      sum-next c.args.p.now c.args.q.now c.args.pivot.now c.loop-i.made.items (set c.loop-i.made.items c.loop-i.i (to_z w128 (of_z w128 c.in_ok-made.field-0))) c.loop-i.i c.index.result.now b c.in_ok-made.field-0 (sum_of_lines c.args.p.now c.args.line c.args.q.now c.args.pivot.now)
          (omega (arith, within, same)) within (search rules) (get_or_default c.args.pivot.now c.loop-i.i (pos 0) b within) (search rules) (ap (λ (z : ℤ). set c.loop-i.made.items c.loop-i.i z) is) c.loop-i.invariant.1,
    )
