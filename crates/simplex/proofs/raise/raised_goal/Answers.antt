use Rattle.std.proofs.Common.{◌+◌, ◌<◌, ℕ, subst, sym, length, arith}
use Rattle.farkas_check.specs.Frames.{choose}
use Rattle.simplex.specs.Raise.{sign_of}
use Rattle.simplex.specs.declared.raise.Turn.{Turn}
use Rattle.simplex.specs.declared.raise.Turn.TheVariants as turn
use Rattle.simplex.specs.History.{CameTo}
use Rattle.simplex.proofs.Turns.{Raises-begins, Raises-more, Raises-short}
use Rattle.simplex.proofs.raise.raised_goal.Goals as goal

pub loop-turn-init : goal.loop-turn-init
loop-turn-init g c = Raises-begins g.over c.args.raise.enters.now c.args.raise.constants c.args.raise.keys.now c.args.raise.goal (sign_of c.args.raise.up) c.args.t c.requires.0

pub loop-turn-preserved : goal.loop-turn-preserved
loop-turn-preserved g c =
    let came : CameTo c.args.raise.enters.now c.args.raise.constants c.args.raise.keys.now (sign_of c.args.raise.up) c.args.raise.until c.args.raise.goal c.loop-turn.now c.in_ok-next.next turn.Moved =
    subst (λ (t : Turn). CameTo c.args.raise.enters.now c.args.raise.constants c.args.raise.keys.now (sign_of c.args.raise.up) c.args.raise.until c.args.raise.goal c.loop-turn.now c.in_ok-next.next t) c.in-Moved.is c.in_ok-next.ensures.came in
    Raises-more g.over c.args.raise.enters.now c.args.raise.constants c.args.raise.keys.now c.args.raise.goal (sign_of c.args.raise.up) c.args.t c.loop-turn.now c.in_ok-next.next c.loop-turn._turn came.1.0 came.0
    c.requires.0 c.loop-turn.invariant came.1.1.0 came.1.1.1 came.1.1.2

pub returns-clause-ends : goal.returns-clause-ends
returns-clause-ends g c =
    let r = c.loop-turn.invariant in
    let short : c.loop-turn._turn < choose (g.over.units + length c.args.t.lines) (length c.args.t.lines) =
    Raises-short g.over c.args.raise.enters.now c.args.raise.constants c.args.raise.keys.now c.args.raise.goal (sign_of c.args.raise.up) c.args.t c.loop-turn.now c.loop-turn._turn c.requires.0 r in
    let here : c.loop-turn._turn < choose (g.over.units + length c.loop-turn.now.lines) (length c.loop-turn.now.lines) =
    subst (λ (n : ℕ). c.loop-turn._turn < choose (g.over.units + n) n) (sym r.many) short in omega arith
