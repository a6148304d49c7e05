use Rattle.std.proofs.Common.{◌≡◌, ◌+◌, List, ◌++◌, ◌∙◌, sym, ap, subst}
use Rattle.std.specs.Prelude.{IfOk, OnOk}
use Rattle.std.proofs.lemmas.List.{length-map}
use Rattle.syntax_tree.specs.Term.{term_of}
use Rattle.transition_formula.specs.declared.loss.Loss.{Loss}
use Rattle.transition_formula.specs.Composition.{losses_in_sequence, sequence_of}
use Rattle.transition_formula.specs.Transition.{Transition, AreFew}
use Rattle.proc_summary.specs.Claims.{FitsIf}
use Rattle.proc_summary.specs.Summary.{exit_formula}
use Rattle.newton_rounds.specs.Pairs.{PairEnds, call_exit, carrying}
use Rattle.newton_rounds.proofs.stretching.along_from_entry.Goals as goal

pub seq-requires-clause-few : goal.seq-requires-clause-few
seq-requires-clause-few c =
    let wide = c.columns-columns.ensures.columns ∙ ap (λ (m : PairEnds). m.ends.full.columns) c.caller.view_is in
    let globals = ap (λ (m : PairEnds). m.ends.globals) c.caller.view_is in
    let exit = c.columns-exit.ensures.columns ∙ ap (λ (m : PairEnds). m.ends.exit.columns) c.callee.view_is in
    let args = c.len.ensures ∙ sym (length-map c.args.call.now.args term_of) in
    let third = c.in_ok-third.ensures ∙ (λ i. call_exit (wide i) (globals i) c.args.call.now.into (globals i + args i) (exit i)) in
    subst (AreFew c.args.entered.now) (sym third) c.requires.third

pub carried_exit-requires-clause-fits : goal.carried_exit-requires-clause-fits
carried_exit-requires-clause-fits c =
    subst (λ n. FitsIf n c.args.sides.now.after) (sym (c.columns-columns.ensures.columns ∙ ap (λ (m : PairEnds). m.ends.full.columns) c.caller.view_is)) c.requires.stretch.after

pub seq-requires-2-clause-few : goal.seq-requires-2-clause-few
seq-requires-2-clause-few c =
    let wide = c.columns-columns.ensures.columns ∙ ap (λ (m : PairEnds). m.ends.full.columns) c.caller.view_is in
    let globals = ap (λ (m : PairEnds). m.ends.globals) c.caller.view_is in
    let exit = c.columns-exit.ensures.columns ∙ ap (λ (m : PairEnds). m.ends.exit.columns) c.callee.view_is in
    let args = c.len.ensures ∙ sym (length-map c.args.call.now.args term_of) in
    let third = c.in_ok-third.ensures ∙ (λ i. call_exit (wide i) (globals i) c.args.call.now.into (globals i + args i) (exit i)) in
    let returned = c.in_ok-returned.ensures.exact ∙ ap (sequence_of c.args.entered.now) third in
    let fourth = c.in_ok-fourth.ensures ∙ (λ i. carrying (wide i) (globals i + args i + exit i) (exit_formula (wide i) c.args.sides.now.after)) in
    subst (λ (both : Transition × Transition). AreFew both.0 both.1) (λ i. (sym returned i, sym fourth i)) c.requires.fourth

pub returns-clause-made : goal.returns-clause-made
returns-clause-made c =
    let wide = c.columns-columns.ensures.columns ∙ ap (λ (m : PairEnds). m.ends.full.columns) c.caller.view_is in
    let globals = ap (λ (m : PairEnds). m.ends.globals) c.caller.view_is in
    let exit = c.columns-exit.ensures.columns ∙ ap (λ (m : PairEnds). m.ends.exit.columns) c.callee.view_is in
    let args = c.len.ensures ∙ sym (length-map c.args.call.now.args term_of) in
    let third = c.in_ok-third.ensures ∙ (λ i. call_exit (wide i) (globals i) c.args.call.now.into (globals i + args i) (exit i)) in
    let returned = c.in_ok-returned.ensures.exact ∙ (λ i. sequence_of (c.requires.entered i) (third i)) in
    let fourth = c.in_ok-fourth.ensures ∙ (λ i. carrying (wide i) (globals i + args i + exit i) (exit_formula (wide i) c.args.sides.now.after)) in
    subst (λ (both : Transition × Transition). IfOk c.seq-2.result (λ (f : Transition). f ≡ sequence_of both.0 both.1)) (λ i. (returned i, fourth i)) c.seq-2.ensures.exact

pub returns-clause-noted : goal.returns-clause-noted
returns-clause-noted c =
    let wide = c.columns-columns.ensures.columns ∙ ap (λ (m : PairEnds). m.ends.full.columns) c.caller.view_is in
    let globals = ap (λ (m : PairEnds). m.ends.globals) c.caller.view_is in
    let exit = c.columns-exit.ensures.columns ∙ ap (λ (m : PairEnds). m.ends.exit.columns) c.callee.view_is in
    let args = c.len.ensures ∙ sym (length-map c.args.call.now.args term_of) in
    let third = c.in_ok-third.ensures ∙ (λ i. call_exit (wide i) (globals i) c.args.call.now.into (globals i + args i) (exit i)) in
    let returned = c.in_ok-returned.ensures.exact ∙ ap (sequence_of c.args.entered.now) third in
    let fourth = c.in_ok-fourth.ensures ∙ (λ i. carrying (wide i) (globals i + args i + exit i) (exit_formula (wide i) c.args.sides.now.after)) in
    subst (λ (lost : List Loss). OnOk c.seq-2.result (c.seq-2.new.losses ≡ lost))
    (λ i. (c.in_ok-returned.ensures.noted ∙ ap (λ f. c.args.lost.now ++ losses_in_sequence c.args.entered.now f) third) i ++ losses_in_sequence (returned i) (fourth i))
    c.seq-2.ensures.noted
