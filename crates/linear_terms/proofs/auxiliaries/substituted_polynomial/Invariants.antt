use Rattle.std.proofs.Common.{◌≡◌, pos, drop}
use Rattle.linear_terms.specs.Polynomial.{constant_of}
use Rattle.linear_terms.specs.Operations.{add_substituted}
use Rattle.linear_terms.specs.Auxiliaries.{put_for}
use Rattle.linear_terms.proofs.auxiliaries.substituted_polynomial.Given as goal

abbrev pub invariant-loop-term : goal.invariant-loop-term
invariant-loop-term l =
    add_substituted (put_for l.aux l.by) (drop l.term-index l.term-items) l.total ≡ add_substituted (put_for l.aux l.by) l.a.terms (constant_of (pos 0))
