use Rattle.std.proofs.Common.{◌≡◌, ◌++◌, drop, map}
use Rattle.std.specs.Prelude.{Ok}
use Rattle.serde_json.specs.View.{view}
use Rattle.wire.specs.Written.{read_then}
use Rattle.wire.proofs.shape.values.Given as goal

-- the parts so far and those that are left to write are all, and read as the list
abbrev pub invariant-loop-value : goal.invariant-loop-value
invariant-loop-value g l = (map view l.parts.items ++ map g.T.Written.writes (drop l.value-index l.list) ≡ map g.T.Written.writes l.list)
    × (read_then g.T.Shape.reads (map view l.parts.items) (drop l.value-index l.list) ≡ Ok l.list)
