use Rattle.simplex.proofs.Memory.{certificate-calm}
use Rattle.simplex.proofs.supremum.certificate.Goals as goal

pub returns-clause-calm : goal.returns-clause-calm
returns-clause-calm c n room small = certificate-calm c.args.constants c.args.goal c.args.line.now c.read_certificate.result c.read_certificate.ensures.exact n room small
