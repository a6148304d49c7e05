-- What the verdict on an assertion is found by.
--     check-within      its flow has a formula for where it stands
--     asserted-is       the assertion by its entry and that formula
--     stands-at         both, by what is read at the place of its procedure
--     judged-next, refuted-next       verdicts, and one more
use Rattle.std.proofs.Common.{◌≡◌, ℕ, ◌+◌, ◌<◌, ◌⊎◌, inl, inr, List, [], ◌∷◌, ◌++◌, length, get_or, sym, ap, subst, ◌∙◌, arith}
use Rattle.std.specs.Prelude.{Option, Some, slice_get}
use Rattle.std.proofs.lemmas.List.{length-map}
use Rattle.std.proofs.lemmas.Option.{slice_get_read, slice_get_within}
use Rattle.syntax_tree.specs.declared.program.Program.{Program}
use Rattle.transition_formula.specs.Transition.{Transition}
use Rattle.flow_graph.specs.FlowGraph.{CheckPlace, body_of, flow_of, graph_of}
use Rattle.proc_summary.specs.declared.stop.Flow.{Flow}
use Rattle.proc_summary.specs.declared.stop.NodeFormula.{NodeFormula}
use Rattle.proc_summary.specs.Claims.{FitsFlow}
use Rattle.proc_summary.specs.Subject.{own_graph}
use Rattle.proc_summary.proofs.CratesBelow.{some_at}
use Rattle.context.specs.Claims.{AreEntries, AreFlows}
use Rattle.report.specs.declared.blocks.Judged.{Judged}
use Rattle.report.specs.Claims.{IsRefuted}
use Rattle.analysis.specs.declared.standing.CheckAt.{CheckAt}
use Rattle.analysis.specs.Claims.{AreJudged, AreRefuted, IsCheckOf, IsJudged}
use Rattle.analysis.specs.Judging.{assertion_at, assertion_by, asserted_if, stops_in}
use Rattle.analysis.proofs.Puts.{push-get}

module _ (program : Program) (c : CheckAt) (check : IsCheckOf program c) where
  pub check-within : (flow : Flow) → FitsFlow program check.p flow → c.check < length flow.checks
  check-within flow fit =
      let nodes = ap length fit.checks_are in
      let stops = length-map flow.checks (λ (s : NodeFormula). s.node) in
      let places = length-map (own_graph check.p).checks (λ (at : CheckPlace). at.node) in
      let lt = slice_get_within (own_graph check.p).checks c.check check.at check.at_is in
      omega (arith, nodes, stops, places, lt)

  pub asserted-is : (entries : List (Option Transition)) (flows : List Flow) (entry : Option Transition) (flow : Flow) (stop : NodeFormula) → slice_get entries c.proc ≡ Some entry → slice_get flows c.proc ≡ Some flow
      → slice_get flow.checks c.check ≡ Some stop → assertion_by program entries flows c ≡ Some (assertion_at program check.p check.at entry stop)
  asserted-is entries flows entry flow stop is_entry is_flow is_stop =
      let graph_is : slice_get (graph_of program c.proc).checks c.check ≡ Some check.at = ap (λ o. slice_get (flow_of (body_of o)).checks c.check) check.is ∙ check.at_is in
      let stop_is : slice_get (stops_in (slice_get flows c.proc)) c.check ≡ Some stop = ap (λ o. slice_get (stops_in o) c.check) is_flow ∙ is_stop in
      λ i. asserted_if program (check.is i) (graph_is i) (is_entry i) (stop_is i)

-- what stands at the place of an assertion's procedure: its entry, its flow, and in that the
-- formula of where it stands
pub record StandsAt (program : Program) (c : CheckAt) (check : IsCheckOf program c) (entries : List (Option Transition)) (flows : List Flow) (entry : Option Transition) (flow : Flow) : Type 0 where
  pub entry_is : slice_get entries c.proc ≡ Some entry
  pub flow_is : slice_get flows c.proc ≡ Some flow
  pub fits : FitsFlow program check.p flow
  pub within : c.check < length flow.checks
  pub stop : NodeFormula
  pub stop_is : slice_get flow.checks c.check ≡ Some stop
  pub asserted : assertion_by program entries flows c ≡ Some (assertion_at program check.p check.at entry stop)

pub stands-at : {program : Program} {c : CheckAt} {entries : List (Option Transition)} {flows : List Flow} {entry : Option Transition} {flow : Flow} (check : IsCheckOf program c) →
    AreEntries program entries → AreFlows program flows → entry ≡ get_or entries c.proc entry → flow ≡ get_or flows c.proc flow → StandsAt program c check entries flows entry flow
stands-at {program} {c} {entries} {flows} {entry} {flow} check are_entries are_flows entry_read flow_read =
    let below = slice_get_within program.procs c.proc check.p check.is in
    let entry_is = slice_get_read entries (length program.procs) c.proc entry (sym are_entries.each) below entry_read in
    let flow_is = slice_get_read flows (length program.procs) c.proc flow (sym are_flows.each) below flow_read in
    let fits = are_flows.fit c.proc check.p flow check.is flow_is in
    let within = check-within program c check flow fits in
    let stop = some_at flow.checks c.check within in
    record {
      entry_is = entry_is;
      flow_is = flow_is;
      fits = fits;
      within = within;
      stop = stop.0;
      stop_is = stop.1;
      asserted = asserted-is program c check entries flows entry flow stop.0 entry_is flow_is stop.1;
    }

pub judged-next : (program : Program) (made : List Judged) (judged : Judged) (n : ℕ) → length made ≡ n → AreJudged program made → IsJudged program (n + 1) judged → AreJudged program (made ++ judged ∷ [])
judged-next program made judged n long are this place j e = go (push-get made judged place j e)
  where
    go : (slice_get made place ≡ Some j) ⊎ ((place ≡ length made) × (judged ≡ j)) → IsJudged program (place + 1) j
    go (inl there) = are place j there
    go (inr last) = subst (λ k. IsJudged program (k + 1) j) (sym (last.0 ∙ long)) (subst (IsJudged program (n + 1)) last.1 this)

pub refuted-next : (made : List Judged) (judged : Judged) → AreRefuted made → IsRefuted judged.verdict → AreRefuted (made ++ judged ∷ [])
refuted-next made judged are this place j e = go (push-get made judged place j e)
  where
    go : (slice_get made place ≡ Some j) ⊎ ((place ≡ length made) × (judged ≡ j)) → IsRefuted j.verdict
    go (inl there) = are place j there
    go (inr last) = subst (λ (k : Judged). IsRefuted k.verdict) last.1 this
