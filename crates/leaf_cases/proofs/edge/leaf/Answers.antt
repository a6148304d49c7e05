use Rattle.std.proofs.Common.{◌<◌, ◌≤◌, ◌^◌, length, ◌++◌, ap, refl, sym, subst, ◌∙◌}
use Rattle.std.specs.Prelude.{All}
use Rattle.linear_terms.specs.declared.row.Case.{Case}
use Rattle.flow_graph.specs.Plain.{statement_of_act}
use Rattle.transition_formula.specs.Meaning.{Holds}
use Rattle.transition_formula.specs.Transition.{Transition}
use Rattle.transition_formula.proofs.Meanings.{nothing-more}
use Rattle.leaf_cases.specs.Conditions.{columns_at}
use Rattle.leaf_cases.specs.Edges.{losses_in_leaf}
use Rattle.leaf_cases.proofs.Graphs.{fit_as, globals_at, narrow_at}
use Rattle.leaf_cases.proofs.Leaves.{leaf_cases_few, leaf_few, leaf_held, leaf_holds}
use Rattle.leaf_cases.proofs.edge.leaf.Goals as goal

pub returns-clause-cases : goal.returns-clause-cases
returns-clause-cases c =
    let fit = fit_as c.requires.formed c.requires.procedure c.requires.edge refl refl in
    let wide = globals_at c.args.program.now c.args.proc c.requires.procedure in
    subst (λ (f : Transition). length f.cases ≤ 4096) (sym c.in_ok-formula.ensures.exact) (leaf_cases_few c.args.program.now (columns_at c.args.program.now c.args.proc) wide c.args.known.now c.requires.known (statement_of_act c.args.act.now) fit)

pub returns-clause-few : goal.returns-clause-few
returns-clause-few c =
    let fit = fit_as c.requires.formed c.requires.procedure c.requires.edge refl refl in
    let wide = globals_at c.args.program.now c.args.proc c.requires.procedure in
    let narrow = narrow_at c.args.program.now c.args.proc c.requires.formed c.requires.procedure in
    subst (λ (f : Transition). All (λ (case : Case). case.aux < 2 ^ 31) f.cases) (sym c.in_ok-formula.ensures.exact) (leaf_few c.args.program.now (columns_at c.args.program.now c.args.proc) wide narrow c.args.known.now c.requires.known (statement_of_act c.args.act.now) fit)

pub returns-clause-at_least : goal.returns-clause-at_least
returns-clause-at_least c before after long relates =
    let fit = fit_as c.requires.formed c.requires.procedure c.requires.edge refl refl in
    let wide = globals_at c.args.program.now c.args.proc c.requires.procedure in
    subst (λ (f : Transition). Holds f before after) (sym c.in_ok-formula.ensures.exact) (leaf_holds c.args.program.now (columns_at c.args.program.now c.args.proc) wide c.args.known.now c.requires.known (statement_of_act c.args.act.now) fit before after long relates)

pub returns-clause-at_most : goal.returns-clause-at_most
returns-clause-at_most c before after kept holds =
    let fit = fit_as c.requires.formed c.requires.procedure c.requires.edge refl refl in
    let wide = globals_at c.args.program.now c.args.proc c.requires.procedure in
    let none = nothing-more c.args.losses.now (losses_in_leaf (columns_at c.args.program.now c.args.proc) (length c.args.program.now.globals) c.args.known.now (statement_of_act c.args.act.now)) (sym (c.in_ok-append.ensures.ok ∙ ap (λ more. c.args.losses.now ++ more) (c.in_ok-formula.ensures.noted ∙ ap (λ front. front ++ (losses_in_leaf (columns_at c.args.program.now c.args.proc) (length c.args.program.now.globals) c.args.known.now (statement_of_act c.args.act.now))) c.new-lost.ensures)) ∙ kept) in
    leaf_held c.args.program.now (columns_at c.args.program.now c.args.proc) wide c.args.known.now c.requires.known (statement_of_act c.args.act.now) fit none before after (subst (λ (f : Transition). Holds f before after) c.in_ok-formula.ensures.exact holds)
