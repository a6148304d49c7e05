use Rattle.std.proofs.Common.{◌≡◌, length, take, map, ap, subst, ◌∙◌}
use Rattle.std.specs.Prelude.{slice_index, IsTrue}
use Rattle.linear_terms.specs.Auxiliaries.{renumbered_column}
use Rattle.linear_terms.specs.Mono.{is_in_order}
use Rattle.linear_terms.proofs.Numbering.{mono_numbered}
use Rattle.linear_terms.proofs.Placements.{length-front, unused_cells}
use Rattle.linear_terms.proofs.mono.Mono.with_numbers.Goals as goal

pub invariant_of-result : goal.invariant_of-result
invariant_of-result c =
    let columns = c.columns-columns.result.now in
    let cells = c.renumber_each.new.cells in
    let number = slice_index c.args.numbers.now in
    let same = c.columns-columns.ensures.columns in
    let made : take (length columns) cells ≡ map (renumbered_column number) c.args.self.now = c.renumber_each.ensures.written ∙ ap (map (renumbered_column number)) same in
    record {
      some = c.columns-columns.ensures.some;
      most = c.columns-columns.ensures.few;
      kept = length-front (length columns) cells c.renumber_each.array_long c.columns-columns.ensures.few;
      unused = unused_cells (length columns) cells c.renumber_each.ensures.after;
      ordered = ap is_in_order made ∙ mono_numbered number c.args.self.now c.requires.order (subst (λ m. IsTrue (is_in_order m)) same c.columns-columns.ensures.in_order);
    }
