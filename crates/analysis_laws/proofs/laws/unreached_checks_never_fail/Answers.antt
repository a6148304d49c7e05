use Rattle.analysis_laws.proofs.DeadAssertions.{unreached-fail, unreached-stand}
use Rattle.analysis_laws.proofs.laws.unreached_checks_never_fail.Goals as goal

pub returns-clause-nowhere : goal.returns-clause-nowhere
returns-clause-nowhere c = unreached-stand

pub returns-clause-never : goal.returns-clause-never
returns-clause-never c = unreached-fail
