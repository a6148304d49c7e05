use Rattle.std.proofs.Common.{◌≡◌, drop, map, ◌++◌, pos}
use Rattle.std.specs.Prelude.{int_div}
use Rattle.cones.proofs.projecting.quotients.Given as goal

abbrev pub invariant-loop-number : goal.invariant-loop-number
invariant-loop-number l = l.made ++ map (λ z. int_div z (pos l.divisor)) (drop l.number-index l.numbers) ≡ map (λ z. int_div z (pos l.divisor)) l.numbers
