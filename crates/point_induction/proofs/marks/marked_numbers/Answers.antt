use Rattle.std.proofs.Common.{◌++◌, ◌∷◌, [], ap, get_or, false, sym, ◌∙◌}
use Rattle.point_induction.proofs.HeadMarks.{filter-kept, filter-pushed}
use Rattle.point_induction.proofs.marks.marked_numbers.Goals as goal
use Rattle.point_induction.proofs.marks.marked_numbers.Goals.{then-marks-number+in_ok-push, else-marks-number}

pub loop-number-preserved : goal.loop-number-preserved
loop-number-preserved c =
    elim c.if-marks-number.branch [
      | then-marks-number+in_ok-push w ↦ rw w.numbers-is
          (w.in_ok-push.ensures.ok ∙ ap (λ numbers. numbers ++ c.loop-number.number ∷ []) c.loop-number.invariant
          ∙ sym (filter-pushed (λ n. get_or c.args.marks.now n false) c.loop-number.number w.if-marks-number.true))
      | else-marks-number w ↦ rw w.numbers-is
          (c.loop-number.invariant ∙ sym (filter-kept (λ n. get_or c.args.marks.now n false) c.loop-number.number w.if-marks-number.false))
    ]
