use Rattle.std.proofs.Common.{◌≡◌, true, pos, rules}
use Rattle.whole_numbers.specs.Fits.{fits}
use Rattle.farkas_check.specs.Ratios.{IsLowest}
use Rattle.farkas_check.proofs.Shortcuts.{with_multiple-zero}
use Rattle.farkas_check.proofs.ratio.Ratio.with_multiple.Goals as goal

pub returns-then-of-eq0 : goal.returns-then-of-eq0
returns-then-of-eq0 c =
    let own : IsLowest c.args.self.now = search rules in
    let other : IsLowest c.args.of.now = search rules in
    let num : fits c.args.self.now.num ≡ true = search rules in
    let den : fits c.args.self.now.den ≡ true = search rules in
    let zero : c.args.of.now.num ≡ pos 0 = search rules in
    let same = with_multiple-zero c.args.self.now c.args.of.now c.args.number.now own other num den zero in
    search (rules, same)
