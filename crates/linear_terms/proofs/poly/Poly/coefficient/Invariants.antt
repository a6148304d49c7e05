use Rattle.std.proofs.Common.{◌≡◌, drop}
use Rattle.linear_terms.specs.Polynomial.{coefficient_in}
use Rattle.linear_terms.proofs.poly.Poly.coefficient.Given as goal

abbrev pub invariant-loop-own : goal.invariant-loop-own
invariant-loop-own l = coefficient_in (drop l.own-index l.own-items) l.mono ≡ coefficient_in l.self.terms l.mono
