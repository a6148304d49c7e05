use Rattle.std.proofs.Common.{◌≡◌}
use Rattle.vocabularies.specs.Ends.{terms_below}
use Rattle.vocabularies.proofs.ends.terms_below.Given as goal

abbrev pub invariant-loop-term : goal.invariant-loop-term
invariant-loop-term l = l.kept ≡ terms_below l.columns l.yielded
