use Rattle.std.proofs.Common.{[], ◌∷◌, ◌+◌, ◌++◌, map, drop, get_or, sym, ap, ◌∙◌, append_assoc}
use Rattle.newton_rounds.specs.Closure.{ends_of_members, pair_ends}
use Rattle.newton_rounds.proofs.CratesBelow.{some_at}
use Rattle.newton_rounds.proofs.ProcedureLoops.{members-next}
use Rattle.newton_rounds.proofs.ends.ends_of_members.Goals as goal

pub loop-proc-preserved : goal.loop-proc-preserved
loop-proc-preserved c =
    let program = c.args.program.now in
    let procs = c.args.procs.now in
    let i = c.loop-proc.proc-index in
    let there = some_at program.procs (get_or procs i 0) (c.requires.there i 0 c.loop-proc-test.true) in
    let rest = ends_of_members program (drop (i + 1) procs) in
    ap (λ l. l ++ rest) c.in_ok-push.ensures.ok
    ∙ append_assoc c.loop-proc.all (c.in_ok-pair_ends.field-0 ∷ []) rest
    ∙ (λ j. c.loop-proc.all ++ (c.in_ok-pair_ends.ensures there.0 there.1 j ∷ rest))
    ∙ ap (λ ps. c.loop-proc.all ++ map (pair_ends program) ps) (sym (members-next program procs i 0 there.0 c.loop-proc-test.true there.1))
    ∙ c.loop-proc.invariant
