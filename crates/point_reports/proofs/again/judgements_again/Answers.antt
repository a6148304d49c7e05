use Rattle.std.proofs.Common.{ℕ, ◌+◌, List, [], ◌∷◌, drop, refl, sym, ap, subst, arith}
use Rattle.std.proofs.lemmas.List.{drop_all}
use Rattle.report.specs.declared.blocks.Judged.{Judged}
use Rattle.posing.specs.Follows.{Leads}
use Rattle.posing.specs.Posing.{each}
use Rattle.posing.proofs.Following.{leads_none, stops}
use Rattle.posing.proofs.Steps.{all_left, at_end, each_fails, each_next, in_other_words}
use Rattle.point_reports.specs.Again.{judgements_again, judgements_from, with_judgement}
use Rattle.point_reports.proofs.JudgedAgain.{again-all, again-next, again-none, numbered-first}
use Rattle.point_reports.proofs.again.judgements_again.Goals as goal

pub loop-one-init : goal.loop-one-init
loop-one-init g c =
    let step = with_judgement c.args.left.program.now c.args.left.round.now in
    let none = sym c.new-made.ensures in
    record {
      leads = subst (λ made. Leads g.O.Oracle.asking c.args.oracle.now c.args.oracle.now c.args.log.now c.args.log.now (each step [] (judgements_from 1 c.args.judged.now)) (each step made (judgements_from 1 c.args.judged.now))) none (leads_none _ _ _ _);
      again = again-none c.args.left.program.now c.args.left.round.now c.args.judged.now _ c.new-made.ensures;
    }

pub returns-in_err-made-clause-follows : goal.returns-in_err-made-clause-follows
unfolding judgements_again
returns-in_err-made-clause-follows g c =
    let step = with_judgement c.args.left.program.now c.args.left.round.now in
    let judged = c.args.judged.now in
    let i = c.loop-one.one-index in
    let one = c.one-item.result in
    let n = c.loop-one.number in
    let xs : List (ℕ × Judged) = (n, one) ∷ judgements_from (n + 1) (drop (i + 1) judged) in
    let first = numbered-first n judged i one c.loop-one-test.true c.one-item.is in
    each_fails step xs 0 (subst (λ left. Leads g.O.Oracle.asking c.args.oracle.now c.loop-one.oracle c.args.log.now c.loop-one.log (each step [] (judgements_from 1 judged)) (each step c.loop-one.made left)) first c.loop-one.invariant.leads)
    (omega arith) refl c.in_err-made.ensures.follows c.from_residual.ensures.1

pub returns-in_err-number-clause-follows : goal.returns-in_err-number-clause-follows
unfolding judgements_again
returns-in_err-number-clause-follows g c =
    let step = with_judgement c.args.left.program.now c.args.left.round.now in
    let judged = c.args.judged.now in
    let i = c.loop-one.one-index in
    let one = c.one-item.result in
    let n = c.loop-one.number in
    let xs : List (ℕ × Judged) = (n, one) ∷ judgements_from (n + 1) (drop (i + 1) judged) in
    let first = numbered-first n judged i one c.loop-one-test.true c.one-item.is in
    all_left
    (each_next step xs 0 (subst (λ left. Leads g.O.Oracle.asking c.args.oracle.now c.loop-one.oracle c.args.log.now c.loop-one.log (each step [] (judgements_from 1 judged)) (each step c.loop-one.made left)) first c.loop-one.invariant.leads)
    (omega arith) refl c.in_ok-made.ensures.follows)
    (stops _ _ _ _ _ _ refl c.from_residual-in_err-number.ensures.1)

pub loop-one-preserved : goal.loop-one-preserved
loop-one-preserved g c =
    let program = c.args.left.program.now in
    let round = c.args.left.round.now in
    let step = with_judgement program round in
    let judged = c.args.judged.now in
    let i = c.loop-one.one-index in
    let one = c.one-item.result in
    let n = c.loop-one.number in
    let xs : List (ℕ × Judged) = (n, one) ∷ judgements_from (n + 1) (drop (i + 1) judged) in
    let first = numbered-first n judged i one c.loop-one-test.true c.one-item.is in
    record {
      leads =
          subst (λ m. Leads g.O.Oracle.asking c.args.oracle.now c.with_judgement.new.oracle c.args.log.now c.with_judgement.new.log (each step [] (judgements_from 1 judged)) (each step c.in_ok-made.made (judgements_from m (drop (i + 1) judged)))) (sym c.in_ok-number.ensures)
          (each_next step xs 0 (subst (λ left. Leads g.O.Oracle.asking c.args.oracle.now c.loop-one.oracle c.args.log.now c.loop-one.log (each step [] (judgements_from 1 judged)) (each step c.loop-one.made left)) first c.loop-one.invariant.leads)
          (omega arith) refl c.in_ok-made.ensures.follows);
      again = again-next program round judged c.loop-one.made c.in_ok-made.made n c.in_ok-number.number i one c.loop-one-test.true c.one-item.is c.loop-one.invariant.again c.in_ok-made.ensures.adds c.in_ok-number.ensures;
    }

pub returns-clause-follows : goal.returns-clause-follows
unfolding judgements_again
returns-clause-follows g c =
    let step = with_judgement c.args.left.program.now c.args.left.round.now in
    let judged = c.args.judged.now in
    all_left c.loop-one.invariant.leads (in_other_words (sym (ap (λ xs. each step c.loop-one.made (judgements_from c.loop-one.number xs)) (drop_all c.loop-one.one-index judged c.loop-one-test.false))) (at_end refl))

pub returns-clause-again : goal.returns-clause-again
returns-clause-again g c =
    again-all c.args.left.program.now c.args.left.round.now c.args.judged.now c.loop-one.made c.loop-one.number c.loop-one.one-index c.loop-one-test.false c.loop-one.invariant.again
