use Rattle.std.proofs.lemmas.Result.{IfOk-weaker}
use Rattle.posing.proofs.Steps.{value_has}
use Rattle.polyhedra.specs.Laws.{IsSmall}
use Rattle.checked_tree.specs.Law.{IsBetweenEnds, IsFrom}
use Rattle.checked_tree.proofs.Between.{between, settled-from, small-between}
use Rattle.checked_tree.proofs.operations.settled_and_fitted.Goals as goal

pub fit-requires : goal.fit-requires
fit-requires g c =
    between c.args.from.now c.args.to.now c.requires.start c.requires.end c.in_ok-settled.settled
    (value_has (IsFrom c.args.from.now c.args.to.now) c.in_ok-settled.ensures.follows
    (settled-from c.args.from.now c.args.to.now c.requires.start c.requires.end c.args.f.now c.requires.between))

pub returns-clause-fits : goal.returns-clause-fits
returns-clause-fits g c =
    IfOk-weaker c.fit.result (IsSmall c.in_ok-settled.settled) (IsBetweenEnds c.args.from.now c.args.to.now)
    (λ made small. small-between c.args.from.now c.args.to.now c.in_ok-settled.settled made
    (value_has (IsFrom c.args.from.now c.args.to.now) c.in_ok-settled.ensures.follows
    (settled-from c.args.from.now c.args.to.now c.requires.start c.requires.end c.args.f.now c.requires.between)) small) c.fit.ensures.small
