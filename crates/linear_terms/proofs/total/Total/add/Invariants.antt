use Rattle.std.proofs.Common.{◌≡◌, drop}
use Rattle.linear_terms.specs.Polynomial.{Polynomial, Terms}
use Rattle.linear_terms.specs.Operations.{put_all}
use Rattle.linear_terms.proofs.total.Total.add.Given as goal

-- the sum of what is left is the whole sum, and the constant waits
pub record SoFar (before now : Polynomial) (all others : Terms) : Type 0 where
  pub same : put_all now.terms others ≡ put_all before.terms all
  pub constant : now.rest ≡ before.rest

abbrev pub invariant-loop-term : goal.invariant-loop-term
invariant-loop-term l = SoFar l.fn.self l.self l.poly.terms (drop l.term-index l.term-items)
