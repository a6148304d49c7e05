use Rattle.std.proofs.Common.{rules, ◌≡◌}
use Rattle.std.specs.Prelude.{FitsSigned}
use Rattle.std.specs.Int.{w128}
use Rattle.farkas_check.specs.Ratios.{ratio_text}
use Rattle.wire.proofs.RatioTexts.{ratio-string, ratio_of-ratio_text}
use Rattle.wire.proofs.numbers.RatioWritten.write.Goals as goal

pub returns-clause-back : goal.returns-clause-back
returns-clause-back c =
    let num_fits : FitsSigned w128 c.args.self.now.num = search (rules, c.num-num.type_inv, c.num-num.ensures) in
    let den_fits : FitsSigned w128 c.args.self.now.den = search (rules, c.den-den.type_inv, c.den-den.ensures.den) in
    let reads = ratio_of-ratio_text c.args.self.now c.den-den.ensures.lowest num_fits den_fits in
    let text : c.as_str.result.now ≡ ratio_text c.args.self.now = search (rules, c.as_str.ensures.value, c.in_ok-text.ensures, c.num-num.ensures, c.den-den.ensures.den) in
    ratio-string c.args.self.now c.as_str.result.now c.try_from_str.result text reads c.try_from_str.ensures
