use Rattle.std.proofs.Common.{◌≡◌, true, sym, ◌∙◌, arith, rules}
use Rattle.transition_formula.proofs.Few.{all_few}
use Rattle.test_formulas.proofs.numbered.are_few.Goals as goal

pub returns : goal.returns
returns c h =
    let first : c.have_few.result ≡ true = search rules in
    all_few c.args.first.now c.args.second.now c.args.to (omega arith) (sym c.have_few.ensures ∙ first) (sym c.have_few-2.ensures ∙ h)
