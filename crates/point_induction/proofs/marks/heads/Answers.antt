use Rattle.std.proofs.Common.{◌≡◌, List, ℕ, Bool, ap, subst, length, ◌∙◌}
use Rattle.std.specs.Prelude.{IfOk}
use Rattle.flow_graph.specs.Plain.{plain}
use Rattle.point_induction.specs.Heads.{marked_numbers}
use Rattle.point_induction.proofs.HeadMarks.{heads-numbered, length-heads}
use Rattle.point_induction.proofs.marks.heads.Goals as goal

pub marked_numbers-requires : goal.marked_numbers-requires
marked_numbers-requires c = ap (λ (marks : List Bool). length marks) (c.as_slice.ensures ∙ c.in_ok-marks.ensures) ∙ length-heads (plain c.args.graph.now)

pub returns : goal.returns
returns c =
    subst (λ (numbers : List ℕ). IfOk c.marked_numbers.result (λ heads. heads ≡ numbers))
    (ap (marked_numbers c.args.graph.now.nodes) (c.as_slice.ensures ∙ c.in_ok-marks.ensures) ∙ heads-numbered (plain c.args.graph.now)) c.marked_numbers.ensures
