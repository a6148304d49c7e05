use Rattle.std.proofs.Common.{◌≡◌, drop, length}
use Rattle.serde_json.specs.View.{items_view}
use Rattle.wire.specs.Shapes.{items_from}
use Rattle.wire.proofs.Lists.{behind}
use Rattle.wire.proofs.shape.items.Given as goal

-- the parts that are read, and then those that are left; so many are read as there were
abbrev pub invariant-loop-place : goal.invariant-loop-place
invariant-loop-place g l = (behind l.made (items_from g.T.Shape.reads l.place (items_view (drop l.place l.parts))) ≡ items_from g.T.Shape.reads 0 (items_view l.parts))
    × (length l.made ≡ l.place)
