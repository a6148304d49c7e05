use Rattle.std.proofs.Common.{◌≡◌, true, pos, rules}
use Rattle.whole_numbers.specs.Fits.{fits}
use Rattle.farkas_check.specs.Ratios.{IsLowest}
use Rattle.farkas_check.proofs.Shortcuts.{product_from_zero, product_with_zero}
use Rattle.farkas_check.proofs.ratio.Ratio.product.Goals as goal

pub returns-then-self-eq0 : goal.returns-then-self-eq0
returns-then-self-eq0 c =
    let own : IsLowest c.args.self.now = search rules in
    let den : fits c.args.by.now.den ≡ true = search rules in
    let zero : c.args.self.now.num ≡ pos 0 = search rules in
    let same = product_from_zero c.args.self.now c.args.by.now own den zero in
    search (rules, same)

pub returns-then-by-eq0 : goal.returns-then-by-eq0
returns-then-by-eq0 c =
    let other : IsLowest c.args.by.now = search rules in
    let den : fits c.args.self.now.den ≡ true = search rules in
    let zero : c.args.by.now.num ≡ pos 0 = search rules in
    let same = product_with_zero c.args.self.now c.args.by.now other den zero in
    search (rules, same)
