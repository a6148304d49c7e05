use Rattle.std.specs.Prelude.{length, IfOk}
use Rattle.std.proofs.Common.{[], ap, sym, subst, ◌∙◌}
use Rattle.posing.specs.Posing.{each}
use Rattle.posing.proofs.Steps.{in_other_words}
use Rattle.checked_tree.specs.Graph.{Graph}
use Rattle.checked_tree.specs.ByNumber.{Entries, with_number, entries_of}
use Rattle.checked_tree.specs.Growing.{graph_in, entries_in, AreUnderWay, KeepsGrowing}
use Rattle.checked_tree.proofs.Growths.{entries-bare}
use Rattle.checked_tree.proofs.evaluating.growths_of.Goals as goal

pub with_numbers-requires : goal.with_numbers-requires
with_numbers-requires g c =
    let graph : Graph = graph_in c.args.graph in
    subst (λ growths. AreUnderWay graph c.args.keys.now c.args.log.now growths c.args.order.now) (sym c.in_ok-growths.ensures) c.requires

pub returns-clause-follows : goal.returns-clause-follows
unfolding entries_of
returns-clause-follows g c =
    let graph : Graph = graph_in c.args.graph in
    in_other_words (ap (λ (entries : Entries). each (with_number graph c.args.keys.now) entries c.args.order.now) (ap entries_in c.in_ok-growths.ensures ∙ entries-bare (length c.args.keys.now))) c.with_numbers.ensures.follows

pub returns-clause-grown : goal.returns-clause-grown
returns-clause-grown g c =
    let graph : Graph = graph_in c.args.graph in
    subst (λ growths. IfOk c.with_numbers.result (λ all. KeepsGrowing graph c.args.keys.now c.args.log.now growths c.args.order.now c.with_numbers.new.log all [])) c.in_ok-growths.ensures c.with_numbers.ensures.grown
