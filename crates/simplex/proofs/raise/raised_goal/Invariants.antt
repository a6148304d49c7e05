use Rattle.simplex.specs.Raise.{sign_of}
use Rattle.simplex.specs.History.{Raises}
use Rattle.simplex.proofs.raise.raised_goal.Given as goal

abbrev pub ghost-one_turn : goal.ghost-one_turn
ghost-one_turn g a = g.over

abbrev pub invariant-loop-turn : goal.invariant-loop-turn
invariant-loop-turn g l = Raises g.over l.raise.enters.now l.raise.constants l.raise.keys.now l.raise.goal (sign_of l.raise.up) l.fn.t l.now l._turn
