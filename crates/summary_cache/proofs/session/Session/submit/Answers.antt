use Rattle.std.proofs.Common.{sym}
use Rattle.summary_cache.proofs.Statements.{next-allowed, session-first, session-first_cause}
use Rattle.summary_cache.proofs.session.Session.submit.Goals as goal

pub invariant_of-self : goal.invariant_of-self
invariant_of-self g c = (
  c.self.invariant.0,
  next-allowed g.O.Oracle.asking c.args.oracle.now c.submitted_text.new.oracle c.args.text.now c.args.self.now c.self.inside.rule c.self.inside.last (sym c.self.view_is)
      c.in-Ok.last c.in-Ok.counts c.in-Ok.ensures.comes,
)

pub returns-in-Ok-clause-first : goal.returns-in-Ok-clause-first
returns-in-Ok-clause-first g c =
    session-first g.O.Oracle.asking c.args.oracle.now c.submitted_text.new.oracle c.args.text.now c.args.self.now c.self.inside.rule c.self.inside.last (sym c.self.view_is)
    c.in-Ok.last c.in-Ok.counts c.in-Ok.ensures.comes

pub returns-in-Err-clause-first : goal.returns-in-Err-clause-first
returns-in-Err-clause-first g c =
    session-first_cause g.O.Oracle.asking c.args.oracle.now c.submitted_text.new.oracle c.args.text.now c.args.self.now c.self.inside.rule c.self.inside.last (sym c.self.view_is)
    c.in-Err.error c.in-Err.ensures.comes
