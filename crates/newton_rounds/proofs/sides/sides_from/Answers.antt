use Rattle.std.proofs.Common.{◌∙◌, sym, subst, refl}
use Rattle.posing.proofs.Steps.{at_end, value_first}
use Rattle.syntax_tree.specs.WellFormed.{width_of}
use Rattle.proc_summary.specs.Claims.{FitsIf}
use Rattle.proc_summary.specs.Flow.{formula_at}
use Rattle.newton_rounds.specs.Closure.{sides_from}
use Rattle.newton_rounds.proofs.Widths.{columns-are, some-nodes, states-at}
use Rattle.newton_rounds.proofs.sides.sides_from.Goals as goal

pub returns-clause-follows : goal.returns-clause-follows
unfolding sides_from
returns-clause-follows g c = λ p is.
    let program = c.args.group.program.now in
    let known = c.args.group.known.now in
    let wide = c.columns_of-columns.ensures p is ∙ sym (columns-are program c.args.caller.proc p c.requires.group.formed is known c.requires.group.known) in
    value_first _ (c.in_ok-ends.ensures.follows p is) refl
    (at_end (λ i. record {
      before = (c.in_ok-before.ensures ∙ (λ j. formula_at (wide j) c.args.caller.starts.now c.args.call.now.from)) i;
      after = (c.in_ok-after.ensures ∙ (λ j. formula_at (wide j) (c.as_slice.ensures j) (c.requires.caller.exit p is j))) i;
    }))

pub returns-clause-fits : goal.returns-clause-fits
returns-clause-fits g c = λ p is.
    let program = c.args.group.program.now in
    let known = c.args.group.known.now in
    let wide = c.columns_of-columns.ensures p is in
    let states = states-at program c.args.caller.proc p c.requires.group.formed is known c.requires.group.known in
    record {
      before =
          subst (FitsIf (width_of program p)) (sym (c.in_ok-before.ensures ∙ (λ j. formula_at (wide j) c.args.caller.starts.now c.args.call.now.from)))
          (states 0 c.args.caller.starts.now (some-nodes program c.args.caller.proc p c.requires.group.formed is) (c.requires.caller.starts p is) c.args.call.now.from);
      after =
          subst (FitsIf (width_of program p)) (sym (c.in_ok-after.ensures ∙ (λ j. formula_at (wide j) (c.as_slice.ensures j) c.args.caller.exit)))
          (states c.args.call.now.to c.in_ok-ends.ends (c.requires.node p is) (c.in_ok-ends.ensures.fits p is) c.args.caller.exit);
    }
