use Rattle.commands.proofs.Scripts.{read-short}
use Rattle.commands.proofs.editing.versions_in.Goals as goal

pub returns-clause-short : goal.returns-clause-short
returns-clause-short c = read-short c.args.input.now c.in_ok-script.script c.texts.result c.in_ok-script.ensures.exact c.texts.ensures
