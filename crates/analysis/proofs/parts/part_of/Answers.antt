use Rattle.std.proofs.Common.{refl, sym, ap, subst, ◌∙◌}
use Rattle.posing.proofs.Steps.{at_end, value_first}
use Rattle.analysis.specs.declared.parts.Part.{Part}
use Rattle.analysis.specs.Claims.{FitsGroup, GroupIsMet}
use Rattle.analysis.specs.Parts.{part_of, part_with}
use Rattle.analysis.proofs.parts.part_of.Goals as goal

pub returns-clause-follows : goal.returns-clause-follows
unfolding part_of
returns-clause-follows g c =
    value_first _ c.in_ok-made.ensures.follows refl
    (at_end (c.in_ok-part_with.ensures ∙ ap (λ procs. part_with procs c.in_ok-made.made c.in_ok-made.notes) c.as_slice.ensures))

pub returns-clause-fits : goal.returns-clause-fits
returns-clause-fits g c =
    subst (λ (part : Part). FitsGroup c.args.program.now c.args.planned.now.procs part.formulas part.flows) (sym c.in_ok-part_with.ensures) c.in_ok-made.ensures.fits

pub returns-clause-met : goal.returns-clause-met
returns-clause-met g c = λ met.
    subst (λ (part : Part). GroupIsMet c.args.program.now c.args.planned.now.procs part.formulas part.flows) (sym c.in_ok-part_with.ensures) (c.in_ok-made.ensures.met met)
