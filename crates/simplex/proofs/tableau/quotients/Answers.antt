use Rattle.std.proofs.Common.{rules, ap, ◌∙◌, ◌≡◌, ◌<◌, length, ℤ, pos, to_z, of_z}
use Rattle.std.specs.Int.{w128}
use Rattle.std.specs.Prelude.{int_div}
use Rattle.std.proofs.Math.ListN.{set}
use Rattle.std.proofs.lemmas.Int.{to_z-of_z}
use Rattle.std.proofs.lemmas.List.Edits.{map_over_more}
use Rattle.simplex.proofs.tableau.quotients.Goals as goal

pub loop-i-preserved : goal.loop-i-preserved
loop-i-preserved c =
    let is : to_z w128 (of_z w128 c.share.result) ≡ int_div c.index-number.result.now (pos c.args.divisor) = to_z-of_z w128 c.share.result (search rules) ∙ (search rules) in
    let within : c.loop-i.i < length c.args.line = search rules in
    ap (λ (z : ℤ). set c.loop-i.made.items c.loop-i.i z) is
    ∙ map_over_more (λ (z : ℤ). int_div z (pos c.args.divisor)) c.args.line c.loop-i.made.items c.loop-i.i c.index-number.result.now within c.loop-i.invariant (search rules)
