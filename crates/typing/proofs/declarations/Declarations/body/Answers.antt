use Rattle.std.proofs.Common.{List, ◌++◌, ap, ◌∙◌}
use Rattle.std.specs.Prelude.{◌==◌}
use Rattle.syntax_tree.specs.Limits.{most_procedures}
use Rattle.typing.specs.declared.error.Limited.TheVariants.{Procedures}
use Rattle.typing.specs.declared.error.TypeError.TheVariants.{Many}
use Rattle.typing.specs.CallFaults.{when}
use Rattle.typing.specs.Faults.{least_of, main_faults, parameter_faults}
use Rattle.typing.specs.LineFaults.{twice_faults}
use Rattle.typing.specs.Scopes.{Scope}
use Rattle.typing.proofs.declarations.Declarations.body.Goals as goal

pub returns-clause-least : goal.returns-clause-least
returns-clause-least c =
    c.note_body.ensures.least
    ∙ ap (λ (scopes : List Scope). least_of c.args.self.now.least (twice_faults scopes c.args.at c.args.name.now
    ++ when (c.args.self.now.procs == most_procedures) (Many Procedures c.args.at) ++ main_faults c.args.at c.args.name.now c.args.params.now ++ parameter_faults 0 c.args.params.now)) c.requires.one
