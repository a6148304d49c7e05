use Rattle.std.proofs.Common.{◌<◌, ◌+◌, List, sym, ap, subst, arith}
use Rattle.std.specs.Prelude.{Bool, true, if◌then◌else◌}
use Rattle.transition_formula.specs.Transition.{Transition}
use Rattle.posing.specs.Posing.{until}
use Rattle.posing.proofs.Steps.{in_other_words, value_has}
use Rattle.newton_rounds.specs.declared.findings.RoundEnd.{RoundEnd}
use Rattle.newton_rounds.specs.Between.{AreCandidates, AreSummaries, IsFewer, row_count}
use Rattle.newton_rounds.specs.Candidates.{before_rounds, last_round, most_rounds, round}
use Rattle.newton_rounds.specs.Pairs.{PairEnds}
use Rattle.newton_rounds.proofs.ReadyGroups.{procs-there}
use Rattle.newton_rounds.proofs.RoundFormulas.{IsFit, last_round-fits}
use Rattle.newton_rounds.proofs.RoundRows.{AreRounds, rounds-begin, rounds-end, rounds-fail, rounds-next}
use Rattle.newton_rounds.proofs.rounds.last_round.Goals as goal

pub loop-dropped-init : goal.loop-dropped-init
loop-dropped-init g c =
    let step = λ (end : RoundEnd). round c.args.group.program.now c.args.group.procs.now c.args.group.known.now end.candidates in
    let whole = before_rounds c.args.candidates in
    record {
      turns =
          subst (λ (formulas : List Transition). AreRounds g.O.Oracle.asking c.args.oracle.now c.args.oracle.now c.args.log.now c.args.log.now (until step (most_rounds c.args.candidates) whole) step (record { candidates = c.args.candidates; formulas = formulas }) true)
          (sym c.new.ensures) (rounds-begin g.O.Oracle.asking c.args.oracle.now c.args.log.now step c.args.candidates);
      over = c.requires.candidates;
    }

pub loop-dropped-preserved : goal.loop-dropped-preserved
loop-dropped-preserved g c =
    let next : RoundEnd × Bool = (c.in_ok-next.next, c.in_ok-next.more) in
    let step = round c.args.group.program.now c.args.group.procs.now c.args.group.known.now in
    let fewer = subst (λ left. IsFewer left next) c.as_slice.ensures c.in_ok-next.ensures.fewer in
    record {
      turns = rounds-next next c.loop-dropped-test.true c.loop-dropped.invariant.turns (in_other_words (ap step c.as_slice.ensures) c.in_ok-next.ensures.follows) fewer;
      over = c.in_ok-next.ensures.over;
    }

pub loop-dropped-smaller : goal.loop-dropped-smaller
loop-dropped-smaller g c =
    let fewer = subst (λ left. IsFewer left (c.in_ok-next.next, c.in_ok-next.more)) c.as_slice.ensures c.in_ok-next.ensures.fewer in
    subst (λ d. row_count c.in_ok-next.next.candidates + (if c.in_ok-next.more then 1 else 0) < row_count c.loop-dropped.left.candidates + (if d then 1 else 0)) (sym c.loop-dropped-test.true) (omega (arith, fewer))

pub returns-in_err-next-clause-follows : goal.returns-in_err-next-clause-follows
unfolding last_round
returns-in_err-next-clause-follows g c =
    rounds-fail c.loop-dropped-test.true c.loop-dropped.invariant.turns
    (in_other_words (ap (round c.args.group.program.now c.args.group.procs.now c.args.group.known.now) c.as_slice.ensures) c.in_err-next.ensures.follows) c.from_residual.ensures.1

pub returns-clause-follows : goal.returns-clause-follows
unfolding last_round
returns-clause-follows g c = rounds-end c.loop-dropped-test.false c.loop-dropped.invariant.turns

pub returns-clause-fits : goal.returns-clause-fits
returns-clause-fits g c =
    let group = c.args.group in
    let ready = c.requires.group in
    let program = group.program.now in
    let procs = group.procs.now in
    let known = group.known.now in
    let there = procs-there group ready in
    let candidates = c.args.candidates in
    let fit = last_round-fits program procs known ready.formed there ready.few ready.known candidates (subst (λ (ms : List PairEnds). AreCandidates ms candidates) ready.members c.requires.candidates) in
    subst (λ (ms : List PairEnds). AreSummaries ms c.loop-dropped.left.formulas) (sym ready.members)
    (value_has (IsFit program procs known ready.formed there ready.few ready.known) (returns-clause-follows g c) fit).1
