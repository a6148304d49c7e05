use Rattle.commands.proofs.ProvedTexts.{read-refused}
use Rattle.commands.proofs.proving.text_proof.Goals as goal

pub returns-in_err-program : goal.returns-in_err-program
returns-in_err-program c = read-refused c.args.text.now _ c.in_err-program.field-0.0 c.in_err-program.ensures c.from_residual.ensures.1
