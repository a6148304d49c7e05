use Rattle.std.proofs.Common.{subst, All}
use Rattle.farkas_check.specs.Kept.{IsCanonicalChange, ArePolysCanonical}
use Rattle.farkas_check.proofs.kept.canonical_stratum.Goals as goal

pub returns : goal.returns
returns c = record { cases_too = subst (All IsCanonicalChange) c.cases.ensures.cases c.canonical_cases.ensures; lower_too = subst ArePolysCanonical c.lower.ensures c.canonical_polys.ensures }
