use Rattle.std.proofs.Common.{◌≡◌, List, Result, Ok, Err, ℤ}
use Rattle.std.specs.Prelude.{IfOk}
use Rattle.linear_terms.specs.Polynomial.{Polynomial}
use Rattle.farkas_check.specs.Kept.{IsCanonicalStratum}
use Rattle.farkas_check.specs.Relations.{term_count}
use Rattle.farkas_check.specs.declared.stratum.Change.{Change}
use Rattle.cones.specs.declared.stop.ConeStop.{ConeStop}
use Rattle.cones.proofs.Bits.{given_value, given_refusal}
use Rattle.facet_hull.specs.Changes.{HasChange}
use Rattle.facet_hull.specs.Hull.{IsHull}
use Rattle.facet_hull.specs.InBits as in_bits
use Rattle.facet_hull.specs.Normals.{normals}
use Rattle.facet_hull.proofs.Bits.{normals-made}
use Rattle.facet_hull.proofs.Whole.{hull_of}
use Rattle.facet_hull.proofs.hull.normals.Goals as goal

pub returns-clause-value : goal.returns-clause-value
returns-clause-value c = given_value (normals c.args.body.now.cases) (in_bits.normals c.args.body.now.cases) c.stated_normals.result (normals-made c.args.body.now.cases) c.stated_normals.ensures

if_hull : (cases : List Change) (lower : List Polynomial) (r : Result (List (List ℤ)) ConeStop) → IsCanonicalStratum cases lower → IfOk r (λ made. made ≡ normals cases) → IfOk r (λ made. HasChange cases → IsHull (term_count cases) cases made)
if_hull cases lower (Ok made) h e = hull_of cases lower made e h
if_hull cases lower (Err stop) h e = tt

pub returns-clause-hull : goal.returns-clause-hull
returns-clause-hull c = if_hull c.args.body.now.cases c.args.body.now.lower c.stated_normals.result c.canonical_stratum.ensures (returns-clause-value c)

pub returns-clause-refusal : goal.returns-clause-refusal
returns-clause-refusal c = given_refusal (normals c.args.body.now.cases) (in_bits.normals c.args.body.now.cases) c.stated_normals.result (normals-made c.args.body.now.cases) c.stated_normals.ensures
