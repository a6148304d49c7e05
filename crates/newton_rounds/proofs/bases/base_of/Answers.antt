use Rattle.std.proofs.Common.{◌∙◌, ap, subst, sym, refl}
use Rattle.posing.specs.Logs.{loss_notes}
use Rattle.posing.proofs.Following.{stops}
use Rattle.posing.proofs.Steps.{at_end, error_first, in_other_words, notes_first, value_first}
use Rattle.proc_summary.specs.Claims.{FitsIf}
use Rattle.newton_rounds.specs.Between.{GoesBetween}
use Rattle.newton_rounds.specs.Closure.{pair_ends}
use Rattle.newton_rounds.specs.Pairs.{base_from, losses_in_base}
use Rattle.newton_rounds.specs.Shapes.{AreEnds}
use Rattle.newton_rounds.proofs.BaseFormulas.{base-goes}
use Rattle.newton_rounds.proofs.CratesBelow.{full-columns, some_at}
use Rattle.newton_rounds.proofs.ExitFormulas.{base-by-exit, noted_base}
use Rattle.newton_rounds.proofs.Widths.{ends-are}
use Rattle.newton_rounds.proofs.bases.base_of.Goals as goal

pub noted_base-requires-clause-ends : goal.noted_base-requires-clause-ends
noted_base-requires-clause-ends g c =
    let there = some_at c.args.program.now.procs c.args.proc c.requires.procedure in
    subst AreEnds (sym (c.in_ok-ends.ensures there.0 there.1)) (ends-are c.args.program.now c.args.proc there.0 c.requires.formed there.1)

pub noted_base-requires-clause-fits : goal.noted_base-requires-clause-fits
noted_base-requires-clause-fits g c =
    let there = some_at c.args.program.now.procs c.args.proc c.requires.procedure in
    let wide = full-columns c.args.program.now there.0 in
    subst (λ n. FitsIf n c.in_ok-exit.exit) (sym (ap (λ m. m.ends.full.columns) (c.in_ok-ends.ensures there.0 there.1) ∙ wide)) (c.in_ok-exit.ensures.fits there.0 there.1)

pub returns-in_err-exit-clause-follows : goal.returns-in_err-exit-clause-follows
returns-in_err-exit-clause-follows g c = λ p is.
    in_other_words (base-by-exit c.args.program.now c.args.known.now p)
    (error_first (noted_base (pair_ends c.args.program.now p)) (c.in_err-exit.ensures.follows p is) refl c.from_residual-in_err-exit.ensures.1)

pub returns-in_err-noted_base-clause-follows : goal.returns-in_err-noted_base-clause-follows
returns-in_err-noted_base-clause-follows g c = λ p is.
    in_other_words (base-by-exit c.args.program.now c.args.known.now p)
    (value_first (noted_base (pair_ends c.args.program.now p)) (c.in_ok-exit.ensures.follows p is) refl
    (stops _ _ _ _ _ _ c.in_err-noted_base.ensures.noted c.from_residual-in_err-noted_base.ensures.1))

pub returns-clause-follows : goal.returns-clause-follows
returns-clause-follows g c = λ p is.
    let exit = c.in_ok-exit.exit in
    let ends = c.in_ok-ends.ensures p is in
    in_other_words (base-by-exit c.args.program.now c.args.known.now p)
    (value_first (noted_base (pair_ends c.args.program.now p)) (c.in_ok-exit.ensures.follows p is) refl
    (notes_first c.in_ok-noted_base.ensures.noted (ap (λ m. loss_notes (losses_in_base m exit)) ends)
    (at_end (c.in_ok-noted_base.ensures.made ∙ ap (λ m. base_from m exit) ends))))

pub returns-clause-goes : goal.returns-clause-goes
returns-clause-goes g c = λ p is.
    let program = c.args.program.now in
    let exit = c.in_ok-exit.exit in
    subst (GoesBetween 1000 (pair_ends program p).pair.columns 0)
    (sym (c.in_ok-noted_base.ensures.made ∙ ap (λ m. base_from m exit) (c.in_ok-ends.ensures p is)))
    (base-goes (pair_ends program p) (ends-are program c.args.proc p c.requires.formed is) exit
    (subst (λ n. FitsIf n exit) (sym (full-columns program p)) (c.in_ok-exit.ensures.fits p is)))
