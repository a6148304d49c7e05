use Rattle.std.proofs.Common.{◌∙◌, map, refl, sym, ap, subst}
use Rattle.flow_graph.specs.Plain.{plain}
use Rattle.execution.specs.Execution.{Fails}
use Rattle.posing.proofs.Steps.{at_end, error_first, in_other_words, value_first}
use Rattle.analysis.specs.Judging.{judgement_of}
use Rattle.analysis.proofs.AssertionParts.{stands-at}
use Rattle.analysis.proofs.ChecksStand.{graph-is, graph-within}
use Rattle.analysis.proofs.judging.judgement_at.Goals as goal

pub bounds-graphs-proc : goal.bounds-graphs-proc
bounds-graphs-proc g c = graph-within c.args.text.program.now c.as_slice-graphs.result.now (ap (map plain) c.as_slice-graphs.ensures ∙ c.requires.text.standing.graphs) c.args.check.proc c.requires.check.p c.requires.check.is

pub verdict_apart-requires-clause-graph : goal.verdict_apart-requires-clause-graph
verdict_apart-requires-clause-graph g c =
    graph-is c.args.text.program.now c.as_slice-graphs.result.now (ap (map plain) c.as_slice-graphs.ensures ∙ c.requires.text.standing.graphs) c.args.check.proc c.requires.check.p c.requires.check.is c.index-graphs-proc.result c.index-graphs-proc.is

pub verdict_apart-requires-clause-assertion : goal.verdict_apart-requires-clause-assertion
verdict_apart-requires-clause-assertion g c =
    let there = stands-at c.requires.check c.requires.text.entries c.requires.text.flows c.index-entries-proc.is c.index-flows-proc.is in
    there.within

pub verdict_apart-requires-clause-flow : goal.verdict_apart-requires-clause-flow
verdict_apart-requires-clause-flow g c = λ p is.
    let there = stands-at c.requires.check c.requires.text.entries c.requires.text.flows c.index-entries-proc.is c.index-flows-proc.is in
    c.requires.text.flows.fit c.args.check.proc p c.index-flows-proc.result is there.flow_is

pub verdict_apart-requires-clause-entry : goal.verdict_apart-requires-clause-entry
verdict_apart-requires-clause-entry g c = λ p is.
    let there = stands-at c.requires.check c.requires.text.entries c.requires.text.flows c.index-entries-proc.is c.index-flows-proc.is in
    c.requires.text.entries.fit c.args.check.proc p c.index-entries-proc.result is there.entry_is

pub returns-in_err-verdict-clause-follows : goal.returns-in_err-verdict-clause-follows
unfolding judgement_of
returns-in_err-verdict-clause-follows g c =
    let check = c.requires.check in
    let there = stands-at c.requires.check c.requires.text.entries c.requires.text.flows c.index-entries-proc.is c.index-flows-proc.is in
    in_other_words (ap (judgement_of c.args.at) (sym there.asserted))
    (error_first _ (c.in_err-verdict.ensures.follows check.p check.at there.stop check.is check.at_is there.stop_is) refl c.from_residual-in_err-verdict.ensures.1)

pub returns-clause-follows : goal.returns-clause-follows
unfolding judgement_of
returns-clause-follows g c =
    let check = c.requires.check in
    let there = stands-at c.requires.check c.requires.text.entries c.requires.text.flows c.index-entries-proc.is c.index-flows-proc.is in
    in_other_words (ap (judgement_of c.args.at) (sym there.asserted))
    (value_first _ (c.in_ok-verdict.ensures.follows check.p check.at there.stop check.is check.at_is there.stop_is) refl
    (at_end (λ i. record {
      at = c.args.at.at;
      line = c.args.at.line;
      column = c.args.at.column;
      named = c.in_ok-named.ensures check.p check.is i;
      shown = c.in_ok-shown.ensures check.p check.is i;
      verdict = c.in_ok-verdict.verdict;
      notes = c.in_ok-verdict.notes;
    })))

pub returns-clause-sound : goal.returns-clause-sound
returns-clause-sound g c = λ enter hold proved fails.
    let check = c.requires.check in
    let there = stands-at c.requires.check c.requires.text.entries c.requires.text.flows c.index-entries-proc.is c.index-flows-proc.is in
    c.in_ok-verdict.ensures.sound check.p check.at check.is check.at_is
    (enter c.args.check.proc c.index-entries-proc.result there.entry_is) (hold c.args.check.proc c.index-flows-proc.result there.flow_is) proved (subst (Fails c.args.text.program.now) (sym check.number) fails)
