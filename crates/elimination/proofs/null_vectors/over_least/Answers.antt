use Rattle.std.proofs.lemmas.List.Elements.{recursion_from_All}
use Rattle.std.proofs.Common.{subst}
use Rattle.items.specs.Gives.{FailsBy}
use Rattle.farkas_check.specs.Ratios.{IsLowest}
use Rattle.simplex.specs.Exchange.{cause}
use Rattle.simplex.specs.declared.stop.SearchStop.{SearchStop}
use Rattle.elimination.specs.Equations.{least_numerators}
use Rattle.elimination.proofs.NullVectors.{null_vector_is, never_wide}
use Rattle.elimination.proofs.null_vectors.over_least.Goals as goal

pub returns-in-Ok : goal.returns-in-Ok
returns-in-Ok c = null_vector_is c.args.lines.now c.args.values.now c.in-Ok.numbers c.requires.lines c.requires.solution (recursion_from_All IsLowest c.args.values.now c.lowest_ratios.ensures) c.in-Ok.ensures

pub unreachable-requires : goal.unreachable-requires
unreachable-requires c =
    never_wide c.args.lines.now c.args.values.now c.in-Err-Wide._step c.requires.lines c.requires.solution (recursion_from_All IsLowest c.args.values.now c.lowest_ratios.ensures)
    (subst (λ (stop : SearchStop). FailsBy (cause stop) (least_numerators c.args.values.now)) c.in-Err-Wide.field-0-is c.in-Err-Wide.ensures)
