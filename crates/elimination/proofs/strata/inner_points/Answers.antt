use Rattle.std.proofs.Common.{◌∙◌, ap, sym, subst, arith, ◌<◌, ◌+◌, length, get_or, [], List}
use Rattle.std.specs.Prelude.{⊤, Option, MatchOption}
use Rattle.std.proofs.lemmas.Option.{slice_get-get_or}
use Rattle.linear_terms.specs.declared.row.Row.{Row}
use Rattle.farkas_check.specs.declared.stratum.Change.{Change}
use Rattle.elimination.specs.declared.inner.Inner.{Inner}
use Rattle.elimination.specs.Probes.{IsInner}
use Rattle.elimination.specs.Descents.{HasColumns}
use Rattle.elimination.specs.Narrow.{IsSmallCase}
use Rattle.elimination.specs.Rooms.{HasSmallRoom}
use Rattle.elimination.specs.SmallStrata.{AreInnersTo}
use Rattle.elimination.proofs.SmallStrata.{nowhere, case_there, case_over, room_lacks, inners_more}
use Rattle.elimination.proofs.strata.inner_points.Goals as goal

pub loop-probe-preserved : goal.loop-probe-preserved
loop-probe-preserved c =
    let here : c.loop-probe.probe-index < length c.args.probes.now = omega arith in
    let found : MatchOption c.in_ok-inner.field-0 ⊤ (IsInner c.args.columns.now c.as_slice.result.now) = c.in_ok-inner.ensures.point in
    let inside : IsInner c.args.columns.now c.index-cases-probe.result.rows c.in-Some.inner =
    subst (λ (case : Change). IsInner c.args.columns.now case.rows c.in-Some.inner) (sym c.index-cases-probe.is)
    (subst (λ (rows : List Row). IsInner c.args.columns.now rows c.in-Some.inner) c.as_slice.ensures (subst (λ (o : Option Inner). MatchOption o ⊤ (IsInner c.args.columns.now c.as_slice.result.now)) c.in-Some.is found)) in
    subst (AreInnersTo c.args.columns.now c.args.cases.now c.args.probes.now (c.loop-probe.probe-index + 1)) (sym c.in_ok-push-in-Some.ensures.ok)
    (inners_more c.args.columns.now c.args.cases.now c.args.probes.now c.loop-probe.probe-index c.loop-probe.made (get_or c.args.probes.now c.loop-probe.probe-index nowhere) c.index-cases-probe.result c.in-Some.inner c.loop-probe.invariant
    (slice_get-get_or c.args.probes.now c.loop-probe.probe-index nowhere here) (case_there c.args.columns.now c.args.cases.now c.args.probes.now c.loop-probe.probe-index c.index-cases-probe.result here c.requires.probes c.index-cases-probe.is) inside)

pub inner_point-requires-clause-small : goal.inner_point-requires-clause-small
inner_point-requires-clause-small c =
    subst (λ (rows : List Row). IsSmallCase 4 rows []) (sym (c.as_slice.ensures ∙ ap (λ (case : Change). case.rows) (sym c.index-cases-probe.is)))
    (case_over c.args.columns.now c.args.cases.now c.args.probes.now c.loop-probe.probe-index c.index-cases-probe.result (omega arith) c.requires.probes c.index-cases-probe.is).small

pub inner_point-requires-clause-columns : goal.inner_point-requires-clause-columns
inner_point-requires-clause-columns c =
    subst (HasColumns c.args.columns.now) (sym (c.as_slice.ensures ∙ ap (λ (case : Change). case.rows) (sym c.index-cases-probe.is)))
    (case_over c.args.columns.now c.args.cases.now c.args.probes.now c.loop-probe.probe-index c.index-cases-probe.result (omega arith) c.requires.probes c.index-cases-probe.is).columns

pub returns-in-None-clause-none : goal.returns-in-None-clause-none
returns-in-None-clause-none c e =
    room_lacks c.args.columns.now c.args.cases.now c.args.probes.now c.loop-probe.probe-index c.index-cases-probe.result (omega arith) c.requires.probes c.index-cases-probe.is
    (λ room. c.in_ok-inner.ensures.none c.in-None.is (subst HasSmallRoom (sym c.as_slice.ensures) (subst (λ (case : Change). HasSmallRoom case.rows) c.index-cases-probe.is room)))
