use Rattle.std.proofs.Common.{sym, ◌∙◌, refl, arith, get_or, ◌+◌}
use Rattle.linear_terms.specs.declared.col.Col.TheVariants.{At}
use Rattle.std.proofs.lemmas.List.{drop-set-lt}
use Rattle.linear_terms.proofs.Placements.{so_far-kept, so_far-swapped}
use Rattle.linear_terms.proofs.mono.place.Goals as goal
use Rattle.linear_terms.proofs.mono.place.Goals.{then-is_before, else-is_before}

pub loop-i-preserved : goal.loop-i-preserved
loop-i-preserved c =
    let before = c.loop-i.invariant in
    elim c.if-is_before.branch [
      | then-is_before w ↦ record {
        same = rw (w.cells-is, w.carried-is) (sym (so_far-swapped c.loop-i.cells c.loop-i.i c.args.len c.loop-i.carried (get_or c.loop-i.cells c.loop-i.i (At 0)) (omega arith) (omega arith) refl (sym c.is_before.ensures ∙ w.if-is_before.true)) ∙ before.same);
        after = rw w.cells-is (drop-set-lt (c.args.len + 1) c.loop-i.cells c.loop-i.i c.loop-i.carried (omega arith) ∙ before.after);
        size = c.if-is_before.array_long;
      }
      | else-is_before w ↦ record {
        same = rw (w.cells-is, w.carried-is) (sym (so_far-kept c.loop-i.cells c.loop-i.i c.args.len c.loop-i.carried (get_or c.loop-i.cells c.loop-i.i (At 0)) (omega arith) (omega arith) refl (sym c.is_before.ensures ∙ w.if-is_before.false)) ∙ before.same);
        after = rw w.cells-is before.after;
        size = c.if-is_before.array_long;
      }
    ]
