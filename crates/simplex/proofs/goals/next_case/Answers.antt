use Rattle.std.proofs.Common.{rules}
use Rattle.std.specs.Prelude.{IfErr}
use Rattle.simplex.specs.Goals.{IsRefusalAmong}
use Rattle.simplex.specs.declared.stop.SearchStop.TheVariants.{Wide}
use Rattle.simplex.proofs.Cases.{far_among}
use Rattle.simplex.proofs.ShortCases.{progress-short}
use Rattle.simplex.proofs.goals.next_case.Goals as goal

pub returns-in_err-case-clause-refusal : goal.returns-in_err-case-clause-refusal
returns-in_err-case-clause-refusal c =
    let known : IfErr c.case_number.result (λ step. IsRefusalAmong c.args.goals.now (Wide step)) = far_among c.args.goals.now c.args.place c.case_number.result c.requires.here c.case_number.ensures.far in search rules

pub returns-clause-short : goal.returns-clause-short
returns-clause-short c = λ yes. progress-short c.args.goals.now c.args.place c.in_ok-came.came (search rules) (λ goal is. c.in_ok-found.ensures.short goal yes is)
