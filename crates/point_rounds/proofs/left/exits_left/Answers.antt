use Rattle.std.proofs.Common.{◌≡◌, ◌++◌, ◌∷◌, length, rules, sym, ap, ◌∙◌, arith}
use Rattle.std.specs.Vec.Iter.{into_iter_items}
use Rattle.point_rounds.specs.Rounds.{exits_left}
use Rattle.point_rounds.proofs.LeftRows.{exits-next}
use Rattle.point_rounds.proofs.left.exits_left.Goals as goal

pub loop-rows-preserved : goal.loop-rows-preserved
loop-rows-preserved c =
    let fell = c.args.fallen.now in
    let rest = into_iter_items c.next.new.self in
    let rows = c.in-Some.rows in
    let begins : into_iter_items c.loop-rows.rows-iterator ≡ rows ∷ rest = search rules in
    let count = c.loop-rows.invariant.count in
    let long = ap length begins in
    record {
      made = exits-next fell c.loop-rows.proc rows c.in_ok-rows_left.field-0 rest c.loop-rows.left c.push.new.self c.in_ok-rows_left.ensures c.in_ok-push.ensures.ok
          ∙ ap (λ all. c.loop-rows.left ++ exits_left fell c.loop-rows.proc all) (sym begins) ∙ c.loop-rows.invariant.made;
      count = omega (arith, count, long);
    }
