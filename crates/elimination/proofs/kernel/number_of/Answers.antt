use Rattle.std.proofs.Common.{◌≡◌, ◌≤◌, ◌<◌, length, sym, subst, ◌∙◌, arith, ℤ, pos}
use Rattle.std.specs.Prelude.{◌^◌, unsigned_abs}
use Rattle.farkas_check.specs.Relations.{entry}
use Rattle.simplex.proofs.CalmRelations.{at_chosen-none}
use Rattle.elimination.proofs.ChosenNumbers.{at_chosen-first}
use Rattle.elimination.proofs.Few.{each_at}
use Rattle.elimination.proofs.Magnitudes.{read}
use Rattle.elimination.proofs.kernel.number_of.Goals as goal

pub returns-then-chosen-place-clause-value : goal.returns-then-chosen-place-clause-value
returns-then-chosen-place-clause-value c =
    let each : length c.args.numbers.now ≡ length c.args.chosen.now = c.requires.each in
    let here : c.loop-place.place < length c.args.numbers.now = omega (arith, each) in
    let small : unsigned_abs (entry c.args.numbers.now c.loop-place.place) ≤ 28 ^ 6 = each_at (λ (z : ℤ). unsigned_abs z ≤ 28 ^ 6) c.args.numbers.now (pos 0) c.loop-place.place c.requires.small here in
    read (entry c.args.numbers.now c.loop-place.place) (omega (arith, small)) ∙ sym (at_chosen-first c.args.chosen.now (entry c.args.numbers.now) c.args.unknown c.loop-place.place (omega arith) c.if-chosen-place.true c.loop-place.invariant)

pub returns-then-chosen-place-clause-small : goal.returns-then-chosen-place-clause-small
returns-then-chosen-place-clause-small c =
    let each : length c.args.numbers.now ≡ length c.args.chosen.now = c.requires.each in
    let here : c.loop-place.place < length c.args.numbers.now = omega (arith, each) in
    let small : unsigned_abs (entry c.args.numbers.now c.loop-place.place) ≤ 28 ^ 6 = each_at (λ (z : ℤ). unsigned_abs z ≤ 28 ^ 6) c.args.numbers.now (pos 0) c.loop-place.place c.requires.small here in
    subst (λ (z : ℤ). unsigned_abs z ≤ 28 ^ 6) (sym (read (entry c.args.numbers.now c.loop-place.place) (omega (arith, small)))) small

pub returns-clause-value : goal.returns-clause-value
returns-clause-value c = sym (at_chosen-none c.args.chosen.now (entry c.args.numbers.now) c.args.unknown (λ k h. c.loop-place.invariant k (omega (arith, h))))
