use Rattle.std.proofs.Common.{ap, refl, sym, ◌∙◌}
use Rattle.posing.specs.Posing.{Done}
use Rattle.posing.proofs.Steps.{at_end, error_first, in_other_words, value_first}
use Rattle.forward_graphs.specs.Evaluation.{joining_behind, joining_of}
use Rattle.forward_graphs.specs.Graph.{graph_in}
use Rattle.forward_graphs.proofs.joining.joining_behind.Goals as goal

pub returns-in_err-formula : goal.returns-in_err-formula
returns-in_err-formula g c =
    in_other_words (ap (joining_behind (graph_in c.args.graph) c.args.done c.args.last c.args.step.now) (sym c.if-have_same_ends.true ∙ c.have_same_ends.ensures))
    (error_first (λ f. Done (joining_of c.args.done record { from = c.args.last.from; to = c.args.last.to; formula = f })) c.in_err-formula.ensures refl c.from_residual.ensures.1)

pub returns-then-have_same_ends : goal.returns-then-have_same_ends
returns-then-have_same_ends g c =
    in_other_words (ap (joining_behind (graph_in c.args.graph) c.args.done c.args.last c.args.step.now) (sym c.if-have_same_ends.true ∙ c.have_same_ends.ensures))
    (value_first (λ f. Done (joining_of c.args.done record { from = c.args.last.from; to = c.args.last.to; formula = f })) c.in_ok-formula.ensures refl (at_end c.with_formula.ensures))

pub returns : goal.returns
returns g c =
    in_other_words (ap (joining_behind (graph_in c.args.graph) c.args.done c.args.last c.args.step.now) (sym c.if-have_same_ends.false ∙ c.have_same_ends.ensures)) (at_end c.in_ok-behind.ensures)
