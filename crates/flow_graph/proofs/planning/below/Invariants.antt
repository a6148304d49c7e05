use Rattle.std.proofs.Common.{◌≡◌, ◌++◌, drop}
use Rattle.std.specs.Prelude.{nat_lt}
use Rattle.std.specs.List.{filter}
use Rattle.flow_graph.proofs.planning.below.Given as goal

abbrev pub invariant-loop-q : goal.invariant-loop-q
invariant-loop-q l = l.kept ++ filter (λ q. nat_lt q l.count) (drop l.q-index l.all) ≡ filter (λ q. nat_lt q l.count) l.all
