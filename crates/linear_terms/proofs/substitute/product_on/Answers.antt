use Rattle.std.proofs.Common.{◌-◌, length, take, drop, rules}
use Rattle.std.specs.Prelude.{All}
use Rattle.std.proofs.lemmas.List.Elements.{All-take, All-drop}
use Rattle.linear_terms.specs.declared.col.Col.TheVariants.{At}
use Rattle.linear_terms.specs.Replacement.{HasPoly}
use Rattle.linear_terms.proofs.substitute.product_on.Goals as goal

pub put_in-requires-in-loop-col : goal.put_in-requires-in-loop-col
put_in-requires-in-loop-col c =
    let columns = c.args.columns.now in
    let others : All (HasPoly c.args.at.now c.args.aux.now) (take (length columns - 1) (drop 1 columns)) = search (rules, All-take, All-drop, c.requires.covered) in
    others c.loop-col.col-index (At 0) c.loop-col-test.true
