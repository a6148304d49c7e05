use Rattle.std.proofs.Common.{◌∙◌}
use Rattle.path_expr.proofs.RunLemmas.{Makes-as, Makes-good}
use Rattle.path_expr.proofs.SweepLemmas.{HoldsAll-as}
use Rattle.path_expr.proofs.FirstLemmas.{AllHaveItems-of, links_between-outside, joins-are, joined-are}
use Rattle.path_expr.proofs.beginning.begin_table.Goals as goal

pub begin_rows-requires-clause-links : goal.begin_rows-requires-clause-links
begin_rows-requires-clause-links g c =
    (c.args.source, AllHaveItems-of c.args.links.now c.args.source c.in_ok-numbers.numbers c.requires.edges c.requires.counted c.in_ok-numbers.ensures.numbers)

pub begin_rows-requires-clause-within : goal.begin_rows-requires-clause-within
begin_rows-requires-clause-within g c = λ i j past.
    c.in_ok-numbers.ensures.numbers i j ∙ links_between-outside c.args.nodes c.args.links.now c.args.source c.requires.graph c.requires.source i j past

pub returns-clause-made : goal.returns-clause-made
returns-clause-made g c =
    let same = c.in_ok-numbers.ensures.numbers in
    let m = c.begin_rows.ensures.made c.args.source (AllHaveItems-of c.args.links.now c.args.source c.in_ok-numbers.numbers c.requires.edges c.requires.counted same) in
    Makes-as (joins-are c.args.nodes c.args.links.now c.args.source c.in_ok-numbers.numbers same)
    (Makes-good m (λ table. HoldsAll-as (joined-are c.args.links.now c.args.source c.in_ok-numbers.numbers same)))
