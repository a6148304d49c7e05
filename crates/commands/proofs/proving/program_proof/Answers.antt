use Rattle.std.proofs.Common.{◌∙◌, IsTrue, map, refl, sym, ap, subst}
use Rattle.c_lexer.specs.Laws.{ascends_from}
use Rattle.syntax_tree.specs.declared.program.Program.{Program}
use Rattle.syntax_tree.specs.WellFormed.{IsWellFormed}
use Rattle.analysis.specs.Plan.{IsPlan}
use Rattle.summary_cache.specs.Stated.{text_place}
use Rattle.commands.proofs.ProvedTexts.{never-refused, proof-made, wanting-only}
use Rattle.commands.proofs.proving.program_proof.Goals as goal

pub plan-requires : goal.plan-requires
plan-requires c =
    subst IsWellFormed (sym c.with_rule-program.ensures)
    (c.rules_are_free.ensures c.args.program 4 (c.accepted_is_well_formed.ensures c.args.text.now c.args.program c.requires.accepted) refl)

pub places_of-requires-clause-ascend : goal.places_of-requires-clause-ascend
places_of-requires-clause-ascend c =
    subst (λ checks. IsTrue (ascends_from 0 checks)) (sym c.as_slice.ensures)
    (subst (λ (p : Program). IsTrue (ascends_from 0 p.checks)) (sym c.with_rule-program.ensures)
    (c.assertions_ascend.ensures c.args.text.now c.args.program c.requires.accepted))

pub prove-requires-clause-formed : goal.prove-requires-clause-formed
prove-requires-clause-formed c =
    subst IsWellFormed (sym c.with_rule-program.ensures)
    (c.rules_are_free.ensures c.args.program 4 (c.accepted_is_well_formed.ensures c.args.text.now c.args.program c.requires.accepted) refl)

pub prove-requires-clause-plan : goal.prove-requires-clause-plan
prove-requires-clause-plan c = subst (IsPlan c.with_rule-program.result) (sym c.as_slice-3.ensures) c.in_ok-plan.ensures

pub returns-clause-made : goal.returns-clause-made
returns-clause-made c =
    proof-made _ c.args.text.now c.args.program c.with_rule-program.result c.with_rule-program.ensures c.as_slice-2.result.now (c.as_slice-2.ensures ∙ c.in_ok-places.ensures ∙ ap (map (text_place c.args.text.now)) c.as_slice.ensures)
    c.as_slice-3.result.now c.requires.accepted (subst (IsPlan c.with_rule-program.result) (sym c.as_slice-3.ensures) c.in_ok-plan.ensures) _ _ _ _ c.prove.result c.new-log.ensures c.prove.ensures.kept c.prove.ensures.follows c.prove.ensures.met c.prove.ensures.covers
    c.prove.ensures.points

pub returns-clause-answered : goal.returns-clause-answered
returns-clause-answered c = never-refused c.prove.result (λ s question declined. declined) c.prove.ensures.follows.1

pub returns-in_err-plan-clause-answered : goal.returns-in_err-plan-clause-answered
returns-in_err-plan-clause-answered c = wanting-only _ c.from_residual.ensures.1

pub returns-in_err-places-clause-answered : goal.returns-in_err-places-clause-answered
returns-in_err-places-clause-answered c = wanting-only _ c.from_residual-in_err-places.ensures.1
