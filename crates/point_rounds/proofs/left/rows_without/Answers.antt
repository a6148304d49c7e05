use Rattle.std.proofs.Common.{◌≡◌, ◌++◌, [], ◌∷◌, length, rules, sym, ap, ◌∙◌, arith}
use Rattle.std.specs.Prelude.{if◌then◌else◌}
use Rattle.std.specs.Vec.Iter.{into_iter_items}
use Rattle.point_rounds.specs.Parts.{rows_without}
use Rattle.point_rounds.proofs.LeftRows.{without-next}
use Rattle.point_rounds.proofs.left.rows_without.Goals as goal

pub loop-row-preserved : goal.loop-row-preserved
loop-row-preserved c =
    let numbers = c.args.numbers.now in
    let rest = into_iter_items c.next.new.self in
    let row = c.in-Some.row in
    let begins : into_iter_items c.loop-row.row-iterator ≡ row ∷ rest = search rules in
    let count = c.loop-row.invariant.count in
    let long = ap length begins in
    record {
      made = without-next numbers c.loop-row.number row rest c.loop-row.left c.in_ok-left.left (c.in_ok-left.ensures ∙ ap (λ b. if b then c.loop-row.left else c.loop-row.left ++ row ∷ []) c.is_among.ensures)
          ∙ ap (λ all. c.loop-row.left ++ rows_without numbers c.loop-row.number all) (sym begins) ∙ c.loop-row.invariant.made;
      count = omega (arith, count, long);
    }
