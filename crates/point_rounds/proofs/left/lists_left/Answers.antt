use Rattle.std.proofs.Common.{◌≡◌, ◌++◌, [], ◌∷◌, append-nil, drop, length, rules, sym, ap, ◌∙◌}
use Rattle.std.specs.Vec.Iter.{into_iter_items}
use Rattle.point_rounds.specs.Rounds.{lists_left}
use Rattle.point_rounds.proofs.LeftRows.{lists-end, lists-next}
use Rattle.point_rounds.proofs.left.lists_left.Goals as goal

pub loop-rows-preserved : goal.loop-rows-preserved
loop-rows-preserved c =
    let fell = c.args.fallen.now in
    let points = 0 ∷ c.args.heads.now in
    let rest = into_iter_items c.next.new.self in
    let rows = c.in-Some.rows in
    let begins : into_iter_items c.loop-rows.rows-iterator ≡ rows ∷ rest = search rules in
    lists-next fell c.args.proc points rows rest c.loop-rows.left c.in_ok-left.left c.in_ok-left.ensures
    ∙ ap (λ all. c.loop-rows.left ++ lists_left fell c.args.proc (drop (length c.loop-rows.left) points) all) (sym begins) ∙ c.loop-rows.invariant

pub returns : goal.returns
returns c =
    let fell = c.args.fallen.now in
    let points = 0 ∷ c.args.heads.now in
    let left = c.loop-rows.left in
    let ends : into_iter_items c.loop-rows.rows-iterator ≡ [] = search rules in
    sym (append-nil left) ∙ ap (λ l. left ++ l) (sym (lists-end fell c.args.proc (drop (length left) points)))
    ∙ ap (λ all. left ++ lists_left fell c.args.proc (drop (length left) points) all) (sym ends) ∙ c.loop-rows.invariant
