use Rattle.std.proofs.Common.{◌≡◌, ◌++◌, ◌∷◌, [], get_or, rules, ℕ, ℤ}
use Rattle.elimination.specs.Probes.{probe_at}
use Rattle.simplex.proofs.Behind.{mapped-next}
use Rattle.elimination.proofs.kernel.line.Goals as goal

pub loop-unknown-preserved : goal.loop-unknown-preserved
loop-unknown-preserved c =
    let f : ℕ → ℤ = probe_at c.args.columns.now c.args.cases.now c.args.lower.now c.args.probe.now in
    let more : c.push.new.self ≡ c.loop-unknown.line ++ f (get_or c.args.chosen.now c.loop-unknown.unknown-index 0) ∷ [] = search rules in
    mapped-next f c.args.chosen.now c.loop-unknown.line c.push.new.self c.loop-unknown.unknown-index 0 c.loop-unknown-test.true c.loop-unknown.invariant more
