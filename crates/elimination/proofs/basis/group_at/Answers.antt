use Rattle.std.proofs.Common.{◌<◌, get_or, length, List, subst, sym}
use Rattle.std.specs.List.{AllByRecursion}
use Rattle.linear_terms.specs.declared.row.Row.{Row}
use Rattle.farkas_check.specs.declared.stratum.Change.{Change}
use Rattle.farkas_check.specs.Stratum.{rows_of}
use Rattle.elimination.specs.Around.{IsSmallOver}
use Rattle.elimination.specs.Probes.{IsInner}
use Rattle.elimination.proofs.BasisFacts.{IsKnownAt, known_at, group_at-is}
use Rattle.elimination.proofs.basis.group_at.Goals as goal

known : (c : goal.After-struct_known-1) → IsKnownAt c.args.columns.now c.args.asked.now.cases (get_or c.args.probes.now c.args.place (record { case = 0; place = 0 })) c.index-inners-place.result
known c = known_at c.args.columns.now c.args.asked.now.cases c.args.asked.now.lower c.args.probes.now c.args.inners.now c.args.place (record { case = 0; place = 0 }) c.index-inners-place.result c.requires.asked c.requires.place c.index-inners-place.is

pub spots_around-requires-clause-few : goal.spots_around-requires-clause-few
spots_around-requires-clause-few c = (known c).few

pub spots_around-requires-clause-order : goal.spots_around-requires-clause-order
spots_around-requires-clause-order c = (known c).ordered

pub spots_around-requires-clause-here : goal.spots_around-requires-clause-here
spots_around-requires-clause-here c =
    subst (λ (cs : List Change). (get_or c.args.probes.now c.args.place (record { case = 0; place = 0 })).case < length cs) (sym c.cases.ensures.cases) (known c).probe_too.case

pub spots_around-requires-clause-rows : goal.spots_around-requires-clause-rows
spots_around-requires-clause-rows c =
    subst (λ (cs : List Change). AllByRecursion (λ (row : Row). IsSmallOver c.args.columns.now row.poly) (rows_of cs (get_or c.args.probes.now c.args.place (record { case = 0; place = 0 })).case)) (sym c.cases.ensures.cases) (known c).rows

pub spots_around-requires-clause-inner : goal.spots_around-requires-clause-inner
spots_around-requires-clause-inner c =
    subst (λ (cs : List Change). IsInner c.args.columns.now (rows_of cs (get_or c.args.probes.now c.args.place (record { case = 0; place = 0 })).case) c.index-inners-place.result) (sym c.cases.ensures.cases) (known c).inside

pub returns : goal.returns
returns c =
    group_at-is c.args.columns.now c.cases.result.now c.args.asked.now.cases c.args.probes.now c.args.inners.now c.args.place (record { case = 0; place = 0 }) c.index-inners-place.result c.in_ok-group.group
    c.cases.ensures.cases c.index-inners-place.is c.in_ok-group.ensures
