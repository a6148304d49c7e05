use Rattle.std.proofs.Common.{◌≡◌, ◌+◌, List, [], take, length, fold, refl, ap, ◌∙◌, arith}
use Rattle.std.specs.Prelude.{replicate}
use Rattle.linear_terms.specs.declared.col.Col.{Col}
use Rattle.linear_terms.specs.declared.col.Col.TheVariants.{At}
use Rattle.linear_terms.specs.Mono.{with_column, is_in_order}
use Rattle.linear_terms.proofs.Placements.{in_order-fold, drop_later, length-front, unused_cells}
use Rattle.linear_terms.proofs.mono.Mono.product.Goals as goal

pub invariant_of-result : goal.invariant_of-result
invariant_of-result c =
    let n = length c.args.left.now + length c.args.right.now in
    let cells = c.place_each-2.new.cells in
    let left : List Col = fold with_column [] c.args.left.now in
    let same : take n cells ≡ fold with_column left c.args.right.now = c.place_each-2.ensures.placed ∙ ap (λ front. fold with_column front c.args.right.now) (ap (λ n. take n c.place_each.new.cells) (omega arith) ∙ c.place_each.ensures.placed) in
    record {
      some = c.requires.some;
      most = c.requires.few;
      kept = length-front n cells c.place_each-2.array_long c.requires.few;
      unused = unused_cells n cells (c.place_each-2.ensures.after ∙ drop_later c.place_each.new.cells (replicate 4 (At 0)) (0 + length c.args.left.now) n (omega arith) c.place_each.ensures.after);
      ordered = ap is_in_order same ∙ in_order-fold left c.args.right.now (in_order-fold [] c.args.left.now refl);
    }
