use Rattle.std.proofs.Common.{◌≤◌, ◌++◌, refl, sym, ap, subst, ◌∙◌, append-nil, arith}
use Rattle.flow_graph.specs.Plain.{statement_of_act}
use Rattle.leaf_cases.proofs.Graphs.{fit_as, narrow_at, proc_within}
use Rattle.leaf_cases.proofs.ReadyCalls.{call-ready}
use Rattle.leaf_cases.proofs.edge.act_formula.Goals as goal

pub truth-requires-clause-below : goal.truth-requires-clause-below
truth-requires-clause-below c =
    let fit = fit_as c.requires.formed c.requires.procedure c.requires.edge (ap statement_of_act c.in-Guard.is) c.widths_of-widths.ensures.columns in fit.below

pub truth-requires-clause-operators : goal.truth-requires-clause-operators
truth-requires-clause-operators c =
    let fit = fit_as c.requires.formed c.requires.procedure c.requires.edge (ap statement_of_act c.in-Guard.is) c.widths_of-widths.ensures.columns in fit.operators

pub set-requires-clause-col : goal.set-requires-clause-col
set-requires-clause-col c =
    let fit = fit_as c.requires.formed c.requires.procedure c.requires.edge (ap statement_of_act c.in-Set.is) c.widths_of-widths.ensures.columns in fit.col_is

pub set-requires-clause-below : goal.set-requires-clause-below
set-requires-clause-below c =
    let fit = fit_as c.requires.formed c.requires.procedure c.requires.edge (ap statement_of_act c.in-Set.is) c.widths_of-widths.ensures.columns in fit.below

pub set-requires-clause-operators : goal.set-requires-clause-operators
set-requires-clause-operators c =
    let fit = fit_as c.requires.formed c.requires.procedure c.requires.edge (ap statement_of_act c.in-Set.is) c.widths_of-widths.ensures.columns in let few = fit.operators in omega arith

pub any-requires : goal.any-requires
any-requires c =
    fit_as c.requires.formed c.requires.procedure c.requires.edge (ap statement_of_act c.in-Any.is) c.widths_of-widths.ensures.columns

pub bounds-known-proc : goal.bounds-known-proc
bounds-known-proc c =
    let fit = fit_as c.requires.formed c.requires.procedure c.requires.edge (ap statement_of_act c.in-Call.is) c.widths_of-widths.ensures.columns in
    proc_within c.requires.known fit

pub call-requires-clause-narrow : goal.call-requires-clause-narrow
call-requires-clause-narrow c =
    subst (λ n. n ≤ 1000) (sym c.widths_of-widths.ensures.columns) (narrow_at c.args.program.now c.args.proc c.requires.formed c.requires.procedure)

pub call-requires-clause-below : goal.call-requires-clause-below
call-requires-clause-below c =
    let ready = call-ready c.in-Call.args c.requires.formed c.requires.edge c.requires.procedure c.requires.known (ap statement_of_act c.in-Call.is)
    c.widths_of-widths.ensures.columns c.widths_of-widths.ensures.globals c.index-known-proc.is c.in-Some.is c.as_slice.ensures in
    let given = ready.given c.in-Some.callee refl in given.below

pub call-requires-clause-operators : goal.call-requires-clause-operators
call-requires-clause-operators c =
    let ready = call-ready c.in-Call.args c.requires.formed c.requires.edge c.requires.procedure c.requires.known (ap statement_of_act c.in-Call.is)
    c.widths_of-widths.ensures.columns c.widths_of-widths.ensures.globals c.index-known-proc.is c.in-Some.is c.as_slice.ensures in
    let given = ready.given c.in-Some.callee refl in given.operators

pub call-requires-clause-into : goal.call-requires-clause-into
call-requires-clause-into c =
    let ready = call-ready c.in-Call.args c.requires.formed c.requires.edge c.requires.procedure c.requires.known (ap statement_of_act c.in-Call.is)
    c.widths_of-widths.ensures.columns c.widths_of-widths.ensures.globals c.index-known-proc.is c.in-Some.is c.as_slice.ensures in
    let given = ready.given c.in-Some.callee refl in given.awaits

pub call-requires-clause-enters : goal.call-requires-clause-enters
call-requires-clause-enters c =
    let ready = call-ready c.in-Call.args c.requires.formed c.requires.edge c.requires.procedure c.requires.known (ap statement_of_act c.in-Call.is)
    c.widths_of-widths.ensures.columns c.widths_of-widths.ensures.globals c.index-known-proc.is c.in-Some.is c.as_slice.ensures in
    let given = ready.given c.in-Some.callee refl in given.enters

pub call-requires-clause-leaves : goal.call-requires-clause-leaves
call-requires-clause-leaves c =
    let ready = call-ready c.in-Call.args c.requires.formed c.requires.edge c.requires.procedure c.requires.known (ap statement_of_act c.in-Call.is)
    c.widths_of-widths.ensures.columns c.widths_of-widths.ensures.globals c.index-known-proc.is c.in-Some.is c.as_slice.ensures in
    let given = ready.given c.in-Some.callee refl in given.leaves

pub call-requires-clause-few : goal.call-requires-clause-few
call-requires-clause-few c =
    let ready = call-ready c.in-Call.args c.requires.formed c.requires.edge c.requires.procedure c.requires.known (ap statement_of_act c.in-Call.is)
    c.widths_of-widths.ensures.columns c.widths_of-widths.ensures.globals c.index-known-proc.is c.in-Some.is c.as_slice.ensures in
    let given = ready.given c.in-Some.callee refl in given.few

pub returns-in_ok-formula-in-Some-clause-exact : goal.returns-in_ok-formula-in-Some-clause-exact
returns-in_ok-formula-in-Some-clause-exact c =
    let ready = call-ready c.in-Call.args c.requires.formed c.requires.edge c.requires.procedure c.requires.known (ap statement_of_act c.in-Call.is)
    c.widths_of-widths.ensures.columns c.widths_of-widths.ensures.globals c.index-known-proc.is c.in-Some.is c.as_slice.ensures in
    c.in_ok-formula-in-Some.ensures.exact ∙ ready.exact

pub returns-in_ok-formula-in-Some-clause-noted : goal.returns-in_ok-formula-in-Some-clause-noted
returns-in_ok-formula-in-Some-clause-noted c =
    let ready = call-ready c.in-Call.args c.requires.formed c.requires.edge c.requires.procedure c.requires.known (ap statement_of_act c.in-Call.is)
    c.widths_of-widths.ensures.columns c.widths_of-widths.ensures.globals c.index-known-proc.is c.in-Some.is c.as_slice.ensures in
    c.in_ok-formula-in-Some.ensures.noted ∙ ap (λ l. c.args.losses.now ++ l) ready.lost

pub returns-in-None-clause-exact : goal.returns-in-None-clause-exact
returns-in-None-clause-exact c =
    let ready = call-ready c.in-Call.args c.requires.formed c.requires.edge c.requires.procedure c.requires.known (ap statement_of_act c.in-Call.is)
    c.widths_of-widths.ensures.columns c.widths_of-widths.ensures.globals c.index-known-proc.is c.in-None.is refl in
    c.nothing.ensures ∙ ready.exact

pub returns-in-None-clause-noted : goal.returns-in-None-clause-noted
returns-in-None-clause-noted c =
    let ready = call-ready c.in-Call.args c.requires.formed c.requires.edge c.requires.procedure c.requires.known (ap statement_of_act c.in-Call.is)
    c.widths_of-widths.ensures.columns c.widths_of-widths.ensures.globals c.index-known-proc.is c.in-None.is refl in
    sym (append-nil c.args.losses.now) ∙ ap (λ l. c.args.losses.now ++ l) ready.lost
