use Rattle.std.proofs.Common.{None, get_or}
use Rattle.std.proofs.lemmas.List.{get_or_default}
use Rattle.posing.specs.Posing.{each}
use Rattle.posing.proofs.Following.{leads_none, loop_ends}
use Rattle.posing.proofs.Steps.{each_next, each_fails, in_other_words, value_has}
use Rattle.forward_graphs.specs.Evaluation.{with_arrival, arrival_formula}
use Rattle.checked_tree.specs.Graph.{vocabulary_at}
use Rattle.forward_graphs.specs.UnderWay.{graph_of, IsFound}
use Rattle.forward_graphs.proofs.CellLaws.{LeadsTo, arrival-fit, arrival-found, arrival-further, arrival-same, arrivals-at, further}
use Rattle.forward_graphs.proofs.arriving.arrival_formula.Goals as goal

pub loop-number-init : goal.loop-number-init
loop-number-init g c = (leads_none _ _ _ _, tt)

pub arrival_of-arrival-requires : goal.arrival_of-arrival-requires
arrival_of-arrival-requires g c =
    let leads : LeadsTo c.args.walks.steps.now c.args.node (get_or c.args.numbers.now c.loop-number.number-index 0) =
    arrivals-at (graph_of c.args.walks) c.args.walks.source c.requires.before.source_is c.args.walks.steps.now c.requires.before.known c.args.cells.now c.args.node c.requires.before
    c.args.numbers.now c.loop-number.number-index c.requires.numbers c.loop-number-test.true in
    record { known = c.requires.before; is = leads.0; leads = leads.1 }

pub with_walk-requires-clause-further : goal.with_walk-requires-clause-further
with_walk-requires-clause-further g c =
    let leads : LeadsTo c.args.walks.steps.now c.args.node (get_or c.args.numbers.now c.loop-number.number-index 0) =
    arrivals-at (graph_of c.args.walks) c.args.walks.source c.requires.before.source_is c.args.walks.steps.now c.requires.before.known c.args.cells.now c.args.node c.requires.before
    c.args.numbers.now c.loop-number.number-index c.requires.numbers c.loop-number-test.true in
    arrival-further (graph_of c.args.walks) c.args.walks.source c.args.walks.steps.now c.args.cells.now c.args.node (get_or c.args.numbers.now c.loop-number.number-index 0) c.arrival_of-arrival.result
    c.arrival_of-arrival.ensures
    (further (graph_of c.args.walks) c.args.walks.source c.requires.before.source_is c.args.walks.steps.now c.requires.before.known c.args.cells.now c.args.node c.requires.before
    (get_or c.args.numbers.now c.loop-number.number-index 0) leads)

pub with_walk-requires-clause-found : goal.with_walk-requires-clause-found
with_walk-requires-clause-found g c =
    arrival-found (graph_of c.args.walks) c.args.walks.source c.args.walks.steps.now c.args.cells.now c.args.node (get_or c.args.numbers.now c.loop-number.number-index 0) c.arrival_of-arrival.result
    c.arrival_of-arrival.ensures c.loop-number.found c.loop-number.invariant.1

pub returns-in_err-found : goal.returns-in_err-found
unfolding arrival_formula
returns-in_err-found g c =
    in_other_words (λ i. each (with_arrival (graph_of c.args.walks) c.args.walks.source c.args.walks.steps.now c.args.cells.now c.args.node) None (c.requires.numbers i))
    (each_fails (with_arrival (graph_of c.args.walks) c.args.walks.source c.args.walks.steps.now c.args.cells.now c.args.node) _ _ c.loop-number.invariant.0 c.loop-number-test.true
    (get_or_default c.args.numbers.now c.loop-number.number-index _ _ c.loop-number-test.true)
    (in_other_words
    (arrival-same (graph_of c.args.walks) c.args.walks.source c.args.walks.steps.now c.args.cells.now c.args.node (get_or c.args.numbers.now c.loop-number.number-index 0) c.arrival_of-arrival.result
    c.arrival_of-arrival.ensures c.loop-number.found)
    c.in_err-found.ensures) c.from_residual.ensures.1)

pub loop-number-preserved : goal.loop-number-preserved
loop-number-preserved g c =
    let same = arrival-same (graph_of c.args.walks) c.args.walks.source c.args.walks.steps.now c.args.cells.now c.args.node (get_or c.args.numbers.now c.loop-number.number-index 0) c.arrival_of-arrival.result
    c.arrival_of-arrival.ensures c.loop-number.found in
    let leads : LeadsTo c.args.walks.steps.now c.args.node (get_or c.args.numbers.now c.loop-number.number-index 0) =
    arrivals-at (graph_of c.args.walks) c.args.walks.source c.requires.before.source_is c.args.walks.steps.now c.requires.before.known c.args.cells.now c.args.node c.requires.before
    c.args.numbers.now c.loop-number.number-index c.requires.numbers c.loop-number-test.true in (
      each_next (with_arrival (graph_of c.args.walks) c.args.walks.source c.args.walks.steps.now c.args.cells.now c.args.node) _ _ c.loop-number.invariant.0 c.loop-number-test.true
          (get_or_default c.args.numbers.now c.loop-number.number-index _ _ c.loop-number-test.true) (in_other_words same c.in_ok-found.ensures),
      value_has (IsFound (vocabulary_at (graph_of c.args.walks) c.args.walks.source) (vocabulary_at (graph_of c.args.walks) c.args.node)) (in_other_words same c.in_ok-found.ensures)
          (arrival-fit (graph_of c.args.walks) c.args.walks.source c.requires.before.source_is c.args.walks.steps.now c.requires.before.known c.args.cells.now c.args.node c.requires.before
          (get_or c.args.numbers.now c.loop-number.number-index 0) c.loop-number.found leads c.loop-number.invariant.1),
    )

pub returns : goal.returns
unfolding arrival_formula
returns g c =
    in_other_words (λ i. each (with_arrival (graph_of c.args.walks) c.args.walks.source c.args.walks.steps.now c.args.cells.now c.args.node) None (c.requires.numbers i))
    (loop_ends _ _ _ _ _ _ (with_arrival (graph_of c.args.walks) c.args.walks.source c.args.walks.steps.now c.args.cells.now c.args.node) _ _ _ c.loop-number.invariant.0 c.loop-number-test.false)
