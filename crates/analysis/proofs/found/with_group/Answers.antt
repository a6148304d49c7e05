use Rattle.std.proofs.Common.{◌∙◌, ◌++◌, sym, ap, subst}
use Rattle.posing.proofs.Steps.{at_end, value_first}
use Rattle.leaf_cases.specs.Summaries.{AreMet}
use Rattle.analysis.specs.Claims.{FitsFound, FoundIsMet, HasFound}
use Rattle.analysis.specs.Found.{with_group, with_part}
use Rattle.analysis.specs.Parts.{part_of}
use Rattle.analysis.proofs.GroupFindings.{found-fits, found-has, found-met}
use Rattle.analysis.proofs.found.with_group.Goals as goal

pub returns-clause-follows : goal.returns-clause-follows
unfolding with_group
returns-clause-follows g c =
    value_first _ c.in_ok-part.ensures.follows (ap (part_of c.args.program.now c.args.planned.now) c.as_slice.ensures)
    (at_end (c.with_part.ensures ∙ ap (λ procs. with_part c.args.found procs c.in_ok-part.part) c.as_slice-2.ensures))

pub returns-clause-fits : goal.returns-clause-fits
returns-clause-fits g c =
    let procs = c.args.planned.now.procs in
    let made = c.with_part.ensures ∙ ap (λ procs. with_part c.args.found procs c.in_ok-part.part) c.as_slice-2.ensures in
    subst (FitsFound c.args.program.now) (sym made) (found-fits c.args.program.now procs c.args.found c.in_ok-part.part c.requires.found c.in_ok-part.ensures.fits)

pub returns-clause-has : goal.returns-clause-has
returns-clause-has g c = λ come has.
    let procs = c.args.planned.now.procs in
    let made = c.with_part.ensures ∙ ap (λ procs. with_part c.args.found procs c.in_ok-part.part) c.as_slice-2.ensures in
    subst (HasFound (come ++ procs)) (sym made) (found-has c.args.program.now procs c.args.found c.in_ok-part.part come c.requires.found c.in_ok-part.ensures.fits c.requires.ready.there has)

pub returns-clause-met : goal.returns-clause-met
returns-clause-met g c = λ met.
    let procs = c.args.planned.now.procs in
    let made = c.with_part.ensures ∙ ap (λ procs. with_part c.args.found procs c.in_ok-part.part) c.as_slice-2.ensures in
    subst (FoundIsMet c.args.program.now) (sym made)
    (found-met c.args.program.now procs c.args.found c.in_ok-part.part met (c.in_ok-part.ensures.met (subst (AreMet c.args.program.now) (sym c.as_slice.ensures) met.summaries)))
