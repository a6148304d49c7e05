use Rattle.std.proofs.Common.{◌≡◌, ◌<◌, drop}
use Rattle.std.specs.List.{AllByRecursion}
use Rattle.serde_json.specs.View.{items_view}
use Rattle.wire.specs.Files.{place}
use Rattle.wire.specs.Shapes.{items_from}
use Rattle.wire.proofs.Lists.{behind}
use Rattle.wire.proofs.certificate.places.Given as goal

-- the parts that are read, and then those that are left; those that are read are places
abbrev pub invariant-loop-number : goal.invariant-loop-number
invariant-loop-number l = (behind l.made (items_from (place l.count) l.number (items_view (drop l.number l.parts))) ≡ items_from (place l.count) 0 (items_view l.parts))
    × AllByRecursion (λ place. place < l.count) l.made
