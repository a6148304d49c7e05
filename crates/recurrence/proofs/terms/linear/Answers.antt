use Rattle.std.proofs.Common.{◌≡◌, Ok}
use Rattle.linear_terms.specs.Polynomial.{Polynomial}
use Rattle.linear_terms.specs.Expressions.{Made, linear}
use Rattle.recurrence.proofs.terms.linear.Goals as goal

only : (p q : Polynomial) → ◌≡◌ {A = Made} (Ok p) (Ok q) → q ≡ p
only p q e = cc

pub returns-in-Ok : goal.returns-in-Ok
returns-in-Ok c = λ cs ascends same. only (linear c.args.numbers.now cs) c.in-Ok.poly (c.in-Ok.ensures cs ascends same)
