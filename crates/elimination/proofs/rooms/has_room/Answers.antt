use Rattle.std.proofs.Common.{List, sym, subst, ◌∙◌}
use Rattle.std.specs.Prelude.{◌↔◌, IsTrue, Bool}
use Rattle.linear_terms.specs.declared.col.Col.{Col}
use Rattle.elimination.specs.Descents.{HasColumns}
use Rattle.elimination.specs.Rooms.{HasSmallRoom}
use Rattle.elimination.proofs.InnerRooms.{own_columns, room_decided}
use Rattle.elimination.proofs.rooms.has_room.Goals as goal

pub inner_point-requires-clause-columns : goal.inner_point-requires-clause-columns
inner_point-requires-clause-columns c = subst (λ (cs : List (List Col)). HasColumns cs c.args.rows.now) (sym (c.as_slice.ensures ∙ c.in_ok-columns.ensures)) (own_columns c.args.rows.now c.requires)

pub returns : goal.returns
returns c =
    subst (λ (b : Bool). IsTrue b ↔ HasSmallRoom c.args.rows.now) (sym c.is_some.ensures)
    (room_decided c.as_slice.result.now c.args.rows.now c.in_ok-inner.inner c.requires (subst (λ (cs : List (List Col)). HasColumns cs c.args.rows.now) (sym (c.as_slice.ensures ∙ c.in_ok-columns.ensures)) (own_columns c.args.rows.now c.requires)) c.canonical_rows.ensures c.in_ok-inner.ensures.point c.in_ok-inner.ensures.none)
