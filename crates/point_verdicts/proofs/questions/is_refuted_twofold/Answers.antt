use Rattle.std.proofs.Common.{ap, refl, sym, ◌∙◌}
use Rattle.std.specs.List.{each_same}
use Rattle.posing.proofs.Following.{stops}
use Rattle.posing.proofs.Steps.{at_end, error_first, in_other_words, value_first}
use Rattle.point_verdicts.specs.Exclusions.{refutation, refutation_after, twofold_refutation}
use Rattle.point_verdicts.proofs.questions.is_refuted_twofold.Goals as goal

pub returns-in_err-is_refuted : goal.returns-in_err-is_refuted
unfolding twofold_refutation
returns-in_err-is_refuted g c =
    error_first (refutation_after c.args.rows) c.in_err-is_refuted.ensures (ap refutation (each_same c.args.rows c.in_ok-first.first c.in_ok-first.ensures.cases)) c.from_residual-in_err-is_refuted.ensures.1

pub returns-then-branch : goal.returns-then-branch
unfolding twofold_refutation
returns-then-branch g c =
    value_first (refutation_after c.args.rows) c.in_ok-is_refuted.ensures (ap refutation (each_same c.args.rows c.in_ok-first.first c.in_ok-first.ensures.cases))
    (in_other_words (sym (ap (refutation_after c.args.rows) c.if-branch.true)) (at_end refl))

pub returns-in_err-all : goal.returns-in_err-all
unfolding twofold_refutation
returns-in_err-all g c =
    value_first (refutation_after c.args.rows) c.in_ok-is_refuted.ensures (ap refutation (each_same c.args.rows c.in_ok-first.first c.in_ok-first.ensures.cases))
    (stops _ _ _ _ _ _ refl c.from_residual-in_err-all.ensures.1)

pub returns : goal.returns
unfolding twofold_refutation
returns g c =
    value_first (refutation_after c.args.rows) c.in_ok-is_refuted.ensures (ap refutation (each_same c.args.rows c.in_ok-first.first c.in_ok-first.ensures.cases))
    (in_other_words (ap refutation c.in_ok-all.ensures ∙ sym (ap (refutation_after c.args.rows) c.if-branch.false)) c.is_refuted-2.ensures)
