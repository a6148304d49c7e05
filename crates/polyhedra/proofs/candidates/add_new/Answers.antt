use Rattle.std.proofs.Common.{sym, subst, ◌∙◌}
use Rattle.polyhedra.specs.Keys.{TellsMade}
use Rattle.polyhedra.proofs.DirectionSets.{is_new, is_there, tells-new}
use Rattle.polyhedra.proofs.candidates.add_new.Goals as goal

pub returns-in_ok-push-clause-known : goal.returns-in_ok-push-clause-known
returns-in_ok-push-clause-known c =
    subst (TellsMade c.insert.new.self) (sym c.in_ok-push.ensures.items)
    (tells-new c.args.known.now c.args.made.now.items c.args.poly c.requires c.insert.new.self c.in_ok-key.key c.in_ok-key.ensures (λ q. c.in_ok-insert.ensures.updates.0 q))

pub returns-in_ok-push-clause-made : goal.returns-in_ok-push-clause-made
returns-in_ok-push-clause-made c =
    c.in_ok-push.ensures.items ∙ is_new c.args.known.now c.args.made.now.items c.args.poly c.requires c.in_ok-key.key c.in_ok-key.ensures (sym c.in_ok-insert.ensures.added ∙ c.if-branch.true)

pub returns-else-branch-clause-made : goal.returns-else-branch-clause-made
returns-else-branch-clause-made c =
    is_there c.args.known.now c.args.made.now.items c.args.poly c.requires c.in_ok-key.key c.in_ok-key.ensures (sym c.in_ok-insert.ensures.added ∙ c.if-branch.false)
