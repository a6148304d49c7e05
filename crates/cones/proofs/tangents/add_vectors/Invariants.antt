use Rattle.std.proofs.Common.{◌≡◌, fold}
use Rattle.std.specs.BTreeSet.{insert_key}
use Rattle.std.specs.Cmp.Lexicographic.{slice_cmp}
use Rattle.std.specs.Ordering.{int_cmp}
use Rattle.std.specs.Vec.Iter.{into_iter_items}
use Rattle.cones.proofs.tangents.add_vectors.Given as goal

abbrev pub invariant-loop-vector : goal.invariant-loop-vector
invariant-loop-vector l =
    fold (insert_key (slice_cmp int_cmp)) l.found.keys (into_iter_items l.vector-iterator) ≡ fold (insert_key (slice_cmp int_cmp)) l.initial.found.keys l.fn.vectors
