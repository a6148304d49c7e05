use Rattle.std.proofs.Common.{◌≡◌, pos, drop}
use Rattle.linear_terms.specs.Polynomial.{constant_of}
use Rattle.linear_terms.specs.Operations.{add_substituted}
use Rattle.linear_terms.specs.Replacement.{put_in}
use Rattle.linear_terms.proofs.substitute.substituted_polynomial.Given as goal

abbrev pub invariant-loop-term : goal.invariant-loop-term
invariant-loop-term l =
    add_substituted (put_in l.at l.aux) (drop l.term-index l.term-items) l.total ≡ add_substituted (put_in l.at l.aux) l.a.terms (constant_of (pos 0))
