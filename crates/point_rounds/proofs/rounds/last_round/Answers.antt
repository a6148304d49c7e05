use Rattle.std.proofs.Common.{◌<◌, ◌+◌, List, sym, ap, subst, arith}
use Rattle.std.specs.Prelude.{Bool, true, if◌then◌else◌}
use Rattle.posing.specs.Posing.{until}
use Rattle.posing.proofs.Steps.{in_other_words}
use Rattle.posing.proofs.UnderAnswers.{passing-has}
use Rattle.point_rows.proofs.ExitMeanings.{exit_rows-met}
use Rattle.point_rows.proofs.RowMeanings.{contraries_decide, given_rows-hold}
use Rattle.point_rounds.specs.declared.round.PointRound.{PointRound}
use Rattle.point_rounds.specs.declared.round.StepFrom.{StepFrom}
use Rattle.point_rounds.specs.Closed.{AreKeptBy, AreStepsFrom}
use Rattle.point_rounds.specs.Parts.{IsRoundOf}
use Rattle.point_rounds.specs.Rounds.{before_rounds, last_round, most_rounds, round, row_count}
use Rattle.point_rounds.specs.Table.{IsTable}
use Rattle.point_rounds.proofs.CoveredPassages.{closed_tables_are_true}
use Rattle.point_rounds.proofs.RoundLoops.{AreRounds, rounds-begin, rounds-end, rounds-fail, rounds-next}
use Rattle.point_rounds.proofs.RoundsKept.{last_round-kept}
use Rattle.point_rounds.proofs.rounds.last_round.Goals as goal

pub loop-fell-init : goal.loop-fell-init
loop-fell-init g c =
    let step = λ (left : PointRound). round c.args.source.program.now c.args.source.known.now c.args.source.states.now left.table in
    let whole = before_rounds c.args.table in
    record {
      turns =
          subst (λ (steps : List StepFrom). AreRounds g.O.Oracle.asking c.args.oracle.now c.args.oracle.now c.args.log.now c.args.log.now (until step (most_rounds c.args.table) whole) step (record { table = c.args.table; steps = steps }) true)
          (sym c.new.ensures) (rounds-begin g.O.Oracle.asking c.args.oracle.now c.args.log.now step c.args.table);
      shape = c.requires.table;
      steps = subst (λ (steps : List StepFrom). AreStepsFrom c.args.source.program.now steps) (sym c.new.ensures) tt;
      covers = λ e. absurd (cc);
    }

pub round-requires-clause-table : goal.round-requires-clause-table
round-requires-clause-table g c = subst (IsTable c.args.source.program.now) (sym c.table_of.ensures) c.loop-fell.invariant.shape

pub loop-fell-preserved : goal.loop-fell-preserved
loop-fell-preserved g c =
    let next : PointRound × Bool = (c.in_ok-next.next, c.in_ok-next.more) in
    let step = round c.args.source.program.now c.args.source.known.now c.args.source.states.now in
    let made = subst (λ table. IsRoundOf c.args.source table next) c.table_of.ensures c.in_ok-next.ensures.made in
    record {
      turns = rounds-next next c.loop-fell-test.true c.loop-fell.invariant.turns (in_other_words (ap step c.table_of.ensures) c.in_ok-next.ensures.follows) made.fewer;
      shape = made.shape;
      steps = made.steps;
      covers = made.covers;
    }

pub loop-fell-smaller : goal.loop-fell-smaller
loop-fell-smaller g c =
    let fewer = (subst (λ table. IsRoundOf c.args.source table (c.in_ok-next.next, c.in_ok-next.more)) c.table_of.ensures c.in_ok-next.ensures.made).fewer in
    subst (λ d. row_count c.in_ok-next.next.table + (if c.in_ok-next.more then 1 else 0) < row_count c.loop-fell.left.table + (if d then 1 else 0)) (sym c.loop-fell-test.true) (omega (arith, fewer))

pub returns-in_err-next-clause-follows : goal.returns-in_err-next-clause-follows
unfolding last_round
returns-in_err-next-clause-follows g c =
    rounds-fail c.loop-fell-test.true c.loop-fell.invariant.turns
    (in_other_words (ap (round c.args.source.program.now c.args.source.known.now c.args.source.states.now) c.table_of.ensures) c.in_err-next.ensures.follows) c.from_residual.ensures.1

pub returns-clause-follows : goal.returns-clause-follows
unfolding last_round
returns-clause-follows g c = rounds-end c.loop-fell-test.false c.loop-fell.invariant.turns

pub returns-clause-fits : goal.returns-clause-fits
returns-clause-fits g c = c.loop-fell.invariant.shape

pub returns-clause-steps : goal.returns-clause-steps
returns-clause-steps g c = c.loop-fell.invariant.steps

pub returns-clause-covers : goal.returns-clause-covers
returns-clause-covers g c = c.loop-fell.invariant.covers c.loop-fell-test.false

pub returns-clause-holds : goal.returns-clause-holds
returns-clause-holds g c = λ tell hold.
    let source = c.args.source in
    let program = source.program.now in
    let known = source.known.now in
    let states = source.states.now in
    let left = c.loop-fell.left in
    let kept = last_round-kept contraries_decide given_rows-hold program known states c.requires.source.formed c.args.table c.requires.table in
    let both = passing-has (λ (end : PointRound). IsTable program end.table × AreKeptBy program end.steps end.table) (returns-clause-follows g c) kept in
    closed_tables_are_true exit_rows-met program known states left.steps left.table both.0 tell hold (returns-clause-covers g c) both.1
