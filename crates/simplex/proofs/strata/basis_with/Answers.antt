use Rattle.std.proofs.Common.{rules, refl}
use Rattle.std.specs.Prelude.{IfErr}
use Rattle.simplex.specs.CalmStrata.{IsRefusalOf}
use Rattle.simplex.proofs.CalmSearches.{known_calm, known_scales}
use Rattle.simplex.proofs.CalmSteps.{under_error}
use Rattle.simplex.proofs.Courses.{basis_of_known}
use Rattle.simplex.proofs.SmallBases.{basis_small}
use Rattle.simplex.proofs.StrataStops.{units_stop}
use Rattle.simplex.proofs.strata.basis_with.Goals as goal

pub unit_lists-requires-clause-scales : goal.unit_lists-requires-clause-scales
unit_lists-requires-clause-scales c = known_scales c.args.strata.now c.args.known c.requires.asked c.requires.count c.requires.known

pub returns-in_err-free-clause-refusal : goal.returns-in_err-free-clause-refusal
returns-in_err-free-clause-refusal c =
    let known : IfErr c.unit_lists.result (IsRefusalOf c.args.strata.now) =
    under_error c.args.strata.now c.args.strata.now.count c.args.known.spots.lines c.unit_lists.result c.unit_lists.ensures.refusal (λ calm. known_calm c.args.strata.now c.args.known c.requires.asked c.requires.count c.requires.known calm)
    (units_stop c.args.strata.now c.args.known c.unit_lists.result c.requires.asked c.requires.count c.requires.known c.unit_lists.ensures.step) in search rules

pub returns-clause-found : goal.returns-clause-found
returns-clause-found c = basis_of_known c.args.strata.now c.args.known _ _ _ c.requires.asked c.requires.count c.requires.known c.requires.all c.in_ok-free.ensures.lists refl refl

pub returns-clause-small : goal.returns-clause-small
returns-clause-small c = basis_small c.args.strata.now c.args.known _ _ _ c.requires.asked c.requires.count c.requires.few c.requires.known c.requires.all c.in_ok-free.ensures.lists refl refl
