use Rattle.std.proofs.Common.{◌≡◌, ◌++◌, ◌∷◌, length, rules, sym, ap, ◌∙◌, arith}
use Rattle.std.specs.Vec.Iter.{into_iter_items}
use Rattle.point_rounds.specs.Rounds.{points_left}
use Rattle.point_rounds.proofs.LeftRows.{points-next}
use Rattle.point_rounds.proofs.left.points_left.Goals as goal

pub loop-lists-preserved : goal.loop-lists-preserved
loop-lists-preserved c =
    let program = c.args.source.program.now in
    let fell = c.args.fallen.now in
    let rest = into_iter_items c.next.new.self in
    let lists = c.in-Some.lists in
    let begins : into_iter_items c.loop-lists.lists-iterator ≡ lists ∷ rest = search rules in
    let count = c.loop-lists.invariant.count in
    let long = ap length begins in
    record {
      made = points-next fell program c.loop-lists.proc c.heads_at-heads.result.now lists c.in_ok-lists_left.field-0 rest c.loop-lists.left c.push.new.self c.heads_at-heads.ensures c.in_ok-lists_left.ensures c.in_ok-push.ensures.ok
          ∙ ap (λ all. c.loop-lists.left ++ points_left program fell c.loop-lists.proc all) (sym begins) ∙ c.loop-lists.invariant.made;
      count = omega (arith, count, long);
    }
