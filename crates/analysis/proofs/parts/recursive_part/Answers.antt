use Rattle.std.proofs.Common.{◌∙◌, [], refl, sym, ap, subst}
use Rattle.posing.specs.Posing.{each}
use Rattle.posing.proofs.Steps.{at_end, value_first}
use Rattle.leaf_cases.specs.Conditions.{AreKnown}
use Rattle.leaf_cases.specs.Summaries.{AreMet}
use Rattle.newton_rounds.specs.Members.{members_of, with_table}
use Rattle.analysis.specs.Claims.{KnowAllCallees}
use Rattle.analysis.specs.Parts.{recursive_part, with_flow}
use Rattle.analysis.proofs.Ready.{ready-tabled, tabled-are, tabled-met}
use Rattle.analysis.proofs.parts.recursive_part.Goals as goal

pub flows_by-requires-clause-known : goal.flows_by-requires-clause-known
flows_by-requires-clause-known g c =
    let procs = c.args.procs.now in
    let same = c.as_slice-2.ensures ∙ c.in_ok-all.ensures ∙ ap (λ table. with_table procs table c.args.known.now) c.as_slice.ensures in
    subst (AreKnown c.args.program.now) (sym same) (tabled-are c.args.program.now procs c.args.known.now c.in_ok-formulas.formulas c.requires.known c.in_ok-formulas.ensures.known)

pub flows_by-requires-clause-callees : goal.flows_by-requires-clause-callees
flows_by-requires-clause-callees g c =
    let procs = c.args.procs.now in
    let same = c.as_slice-2.ensures ∙ c.in_ok-all.ensures ∙ ap (λ table. with_table procs table c.args.known.now) c.as_slice.ensures in
    subst (KnowAllCallees c.args.program.now procs) (sym same)
    (ready-tabled c.args.program.now procs c.args.known.now c.in_ok-formulas.formulas c.in_ok-formulas.ensures.known.each c.requires.known c.requires.there c.requires.callees)

pub returns-clause-follows : goal.returns-clause-follows
unfolding recursive_part
returns-clause-follows g c =
    let procs = c.args.procs.now in
    let same = c.as_slice-2.ensures ∙ c.in_ok-all.ensures ∙ ap (λ table. with_table procs table c.args.known.now) c.as_slice.ensures in
    value_first _ c.in_ok-formulas.ensures.follows refl
    (value_first _ c.in_ok-flows.ensures.follows (ap (λ all. each (with_flow c.args.program.now all) [] (members_of c.args.program.now procs)) same) (at_end refl))

pub returns-clause-met : goal.returns-clause-met
returns-clause-met g c = λ met.
    let procs = c.args.procs.now in
    let same = c.as_slice-2.ensures ∙ c.in_ok-all.ensures ∙ ap (λ table. with_table procs table c.args.known.now) c.as_slice.ensures in
    let own = c.in_ok-formulas.ensures.met met c.requires.callees in
    record {
      summaries = own;
      hold = c.in_ok-flows.ensures.holds (subst (AreMet c.args.program.now) (sym same)
          (tabled-met c.args.program.now procs c.args.known.now c.in_ok-formulas.formulas c.in_ok-formulas.ensures.known.each met own));
    }
