use Rattle.std.proofs.Common.{◌≡◌, ◌≤◌, ◌<◌, ◌+◌, ◌*◌, length, refl, sym, ap, subst, ◌∙◌, arith, ℤ, pos, ◌+ℤ◌, ◌*ℤ◌, to_z, of_z}
use Rattle.std.specs.Int.{w128}
use Rattle.std.specs.Prelude.{◌^◌, unsigned_abs}
use Rattle.farkas_check.specs.Relations.{entry}
use Rattle.elimination.proofs.Few.{each_at}
use Rattle.elimination.proofs.Magnitudes.{read}
use Rattle.elimination.proofs.Steps.{value-more, value-small}
use Rattle.elimination.proofs.kernel.value.Goals as goal

pub loop-place-preserved : goal.loop-place-preserved
loop-place-preserved c =
    let each : length c.args.numbers.now ≡ length c.args.chosen.now = c.requires.numbers.each in
    let here : c.loop-place.place < length c.args.numbers.now = omega (arith, each) in
    let sum : ℤ = to_z w128 c.loop-place.sum-bits in
    let number : ℤ = entry c.args.numbers.now c.loop-place.place in
    let small : unsigned_abs (entry c.args.numbers.now c.loop-place.place) ≤ 28 ^ 6 = each_at (λ (z : ℤ). unsigned_abs z ≤ 28 ^ 6) c.args.numbers.now (pos 0) c.loop-place.place c.requires.numbers.small here in
    let part : to_z w128 (of_z w128 c.probe_value-part.result) ≡ c.probe_value-part.result = read c.probe_value-part.result (omega (arith, c.probe_value-part.ensures.small)) in
    let made : c.with_part-sum.result ≡ to_z w128 c.loop-place.sum-bits +ℤ entry c.args.numbers.now c.loop-place.place *ℤ c.probe_value-part.result =
    c.with_part-sum.ensures.value ∙ ap (λ (z : ℤ). to_z w128 c.loop-place.sum-bits +ℤ entry c.args.numbers.now c.loop-place.place *ℤ z) part in
    let whole : to_z w128 (of_z w128 c.with_part-sum.result) ≡ c.with_part-sum.result = read c.with_part-sum.result (omega (arith, c.with_part-sum.ensures.small)) in (
      whole ∙ value-more c.args.columns.now c.args.cases.now c.args.lower.now c.args.chosen.now c.args.numbers.now c.args.probe.now c.loop-place.place sum number c.probe_value-part.result c.with_part-sum.result c.loop-place.invariant.0 refl c.probe_value-part.ensures.value made,
      subst (λ (z : ℤ). unsigned_abs z ≤ (c.loop-place.place + 1) * (28 ^ 6 * 4)) (sym whole) (value-small c.loop-place.place sum number c.probe_value-part.result c.with_part-sum.result c.loop-place.invariant.1 small c.probe_value-part.ensures.small made),
    )
