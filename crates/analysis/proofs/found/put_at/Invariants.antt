use Rattle.std.proofs.Common.{◌≡◌, drop, length}
use Rattle.std.specs.Vec.Iter.{into_iter_items}
use Rattle.analysis.specs.Found.{put_at}
use Rattle.analysis.proofs.found.put_at.Given as goal

abbrev pub invariant-loop-place : goal.invariant-loop-place
invariant-loop-place g l =
    record {
      long : length l.made.items ≡ length l.fn.all;
      put : put_at (drop l.place-index l.places) (into_iter_items l.left) l.made.items ≡ put_at l.places l.fn.elements l.fn.all;
    }
