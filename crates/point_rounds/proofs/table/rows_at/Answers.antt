use Rattle.std.proofs.Common.{[], ◌∷◌, ap, ◌∙◌}
use Rattle.std.specs.Prelude.{slice_get, unwrap_or}
use Rattle.point_rounds.specs.Table.{list_at_node}
use Rattle.point_rounds.proofs.table.rows_at.Goals as goal

pub returns : goal.returns
returns c = λ program are.
    c.rows_of_point.ensures
    ∙ (λ i. list_at_node c.args.node (0 ∷ are i) ((c.list_at-lists.ensures ∙ ap (λ points. unwrap_or (slice_get points c.args.proc) []) c.as_slice.ensures) i))
