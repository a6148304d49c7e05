use Rattle.std.proofs.Common.{rules, List, [], sym, subst}
use Rattle.std.specs.Prelude.{◌↔◌, IsTrue, IfOk}
use Rattle.linear_terms.specs.declared.row.Row.{Row}
use Rattle.elimination.specs.Narrow.{IsSmallCase}
use Rattle.elimination.specs.Rooms.{HasSmallRoom}
use Rattle.elimination.proofs.NarrowStrata.{change_answer}
use Rattle.elimination.proofs.questions.is_narrow_change.Goals as goal

pub has_room-requires : goal.has_room-requires
has_room-requires c =
    let small : IsTrue c.in_ok-is_small_change.field-0 = search rules in
    subst (λ (rows : List Row). IsSmallCase 4 rows []) (sym c.as_slice.ensures) (c.in_ok-is_small_change.ensures.0 small).rows

pub returns : goal.returns
returns c =
    let small : IsTrue c.in_ok-is_small_change.field-0 = search rules in
    change_answer c.args.case.now c.has_room.result (c.in_ok-is_small_change.ensures.0 small)
    (subst (λ (rows : List Row). IfOk c.has_room.result (λ b. IsTrue b ↔ HasSmallRoom rows)) c.as_slice.ensures c.has_room.ensures)
