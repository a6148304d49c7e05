use Rattle.std.proofs.Common.{◌<◌, arith, sym, subst}
use Rattle.std.specs.Prelude.{All}
use Rattle.transition_formula.specs.Transition.{Transition}
use Rattle.proc_summary.proofs.ExitSummaries.{hidden-few}
use Rattle.proc_summary.proofs.summary.projection_of.Goals as goal

pub hidden-requires-clause-few : goal.hidden-requires-clause-few
hidden-requires-clause-few c = hidden-few c.args.entry c.args.places.now c.args.f.now c.requires

pub with_posts-requires-clause-there : goal.with_posts-requires-clause-there
with_posts-requires-clause-there c =
    subst (λ (t : Transition). All (λ place. place < t.to) c.args.places.now) (sym c.in_ok-hidden.ensures.exact) c.requires.there

pub with_posts-requires-clause-few : goal.with_posts-requires-clause-few
with_posts-requires-clause-few c = let short = c.requires.short in omega (arith, short)
