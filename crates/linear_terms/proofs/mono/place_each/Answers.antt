use Rattle.std.proofs.Common.{◌≡◌, ◌+◌, take, get_or, length, sym, ap, ◌∙◌, arith}
use Rattle.linear_terms.specs.declared.col.Col.TheVariants.{At}
use Rattle.linear_terms.specs.Mono.{with_column}
use Rattle.linear_terms.proofs.Placements.{fold_next, drop_later}
use Rattle.linear_terms.proofs.mono.place_each.Goals as goal

pub loop-i-preserved : goal.loop-i-preserved
loop-i-preserved c =
    let count : c.args.len + (c.loop-i.i + 1) ≡ c.args.len + c.loop-i.i + 1 = omega arith in
    record {
      same = ap (λ n. take n c.place.new.cells) count ∙ c.place.ensures.placed ∙ ap (λ front. with_column front (get_or c.args.columns.now c.loop-i.i (At 0))) c.loop-i.invariant.same ∙ sym (fold_next (take c.args.len c.args.cells.now) c.args.columns.now c.loop-i.i (At 0) (omega arith));
      after = drop_later c.place.new.cells c.loop-i.cells (c.args.len + c.loop-i.i + 1) (c.args.len + length c.args.columns.now) (omega arith) c.place.ensures.after ∙ c.loop-i.invariant.after;
    }
