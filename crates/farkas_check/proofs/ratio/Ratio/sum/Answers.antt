use Rattle.std.proofs.Common.{◌≡◌, true, pos, rules}
use Rattle.whole_numbers.specs.Fits.{fits}
use Rattle.farkas_check.specs.Ratios.{IsLowest}
use Rattle.farkas_check.proofs.Shortcuts.{sum_with_zero}
use Rattle.farkas_check.proofs.ratio.Ratio.sum.Goals as goal

pub returns-then-other-eq0 : goal.returns-then-other-eq0
returns-then-other-eq0 c =
    let own : IsLowest c.args.self.now = search rules in
    let other : IsLowest c.args.other.now = search rules in
    let num : fits c.args.self.now.num ≡ true = search rules in
    let den : fits c.args.self.now.den ≡ true = search rules in
    let zero : c.args.other.now.num ≡ pos 0 = search rules in
    let same = sum_with_zero c.args.self.now c.args.other.now own other num den zero in
    search (rules, same)
