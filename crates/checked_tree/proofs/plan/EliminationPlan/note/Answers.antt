use Rattle.checked_tree.proofs.NumberedKeys.{noted-of}
use Rattle.checked_tree.proofs.plan.EliminationPlan.note.Goals as goal

pub returns-in-Ok-clause-noted : goal.returns-in-Ok-clause-noted
returns-in-Ok-clause-noted c =
    noted-of c.args.self.now.keys.keys c.insert_full.new.self.keys c.args.self.now.order c.push.new.self c.args.key c.in_ok-number.number
    c.in_ok-number.ensures.keys c.in_ok-number.ensures.stored c.in-Ok.ensures.ok
