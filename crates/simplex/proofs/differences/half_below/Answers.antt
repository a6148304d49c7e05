use Rattle.std.proofs.Common.{rules, ◌≡◌, pos}
use Rattle.simplex.proofs.differences.half_below.Goals as goal

pub returns-else-cert-eq0-clause-half : goal.returns-else-cert-eq0-clause-half
returns-else-cert-eq0-clause-half c strata numbers case up point apart tied =
    let some : c.args.cert.sum ≡ pos 0 → ⊥ = search rules in
    record { point = point; apart = apart some }
