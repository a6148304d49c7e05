use Rattle.proc_summary.proofs.Alike.{alike_procs_are_one}
use Rattle.proc_summary.proofs.laws.alike_procedures_are_one.Goals as goal

pub returns : goal.returns
returns c = alike_procs_are_one
