use Rattle.std.proofs.Common.{◌≡◌, length, sym, arith}
use Rattle.elimination.proofs.Sides.{one_at-here, one_at-elsewhere}
use Rattle.elimination.proofs.probes.one.Goals as goal

pub returns-then-place-columns-clause-value : goal.returns-then-place-columns-clause-value
returns-then-place-columns-clause-value c = sym (one_at-here c.args.columns.now c.args.place (omega arith))

pub returns-else-place-columns-clause-value : goal.returns-else-place-columns-clause-value
returns-else-place-columns-clause-value c = sym (one_at-elsewhere c.args.columns.now c.args.place (λ e. let same : c.args.place ≡ length c.args.columns.now = e in omega arith))
