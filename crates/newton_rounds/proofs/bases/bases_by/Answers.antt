use Rattle.std.proofs.Common.{[], ◌∷◌, ◌++◌, ◌+◌, ◌∙◌, List, append-nil, append_assoc, map, drop, get_or, sym, ap, subst, refl}
use Rattle.std.proofs.lemmas.List.{drop_all}
use Rattle.transition_formula.specs.Transition.{Transition}
use Rattle.posing.specs.Follows.{Leads}
use Rattle.posing.specs.Posing.{each}
use Rattle.posing.proofs.Following.{leads_none}
use Rattle.posing.proofs.Steps.{all_left, at_end, error_first, first_left, in_other_words}
use Rattle.newton_rounds.specs.Between.{AreBases}
use Rattle.newton_rounds.specs.Closure.{ends_of_members, pair_ends, with_base}
use Rattle.newton_rounds.specs.Members.{members_of}
use Rattle.newton_rounds.specs.Pairs.{PairEnds}
use Rattle.newton_rounds.proofs.CratesBelow.{some_at}
use Rattle.newton_rounds.proofs.ProcedureLoops.{members-next}
use Rattle.newton_rounds.proofs.bases.bases_by.Goals as goal

pub loop-proc-init : goal.loop-proc-init
loop-proc-init g c =
    let program = c.args.group.program.now in
    let procs = c.args.group.procs.now in
    let whole = each (with_base program c.args.group.known.now) [] (members_of program procs) in
    record {
      leads =
          subst (λ made. Leads g.O.Oracle.asking c.args.oracle.now c.args.oracle.now c.args.log.now c.args.log.now whole (each (with_base program c.args.group.known.now) made (members_of program procs)))
          (sym c.new-made.ensures) (leads_none _ _ _ _);
      fits = λ rest fit. subst (λ (made : List Transition). AreBases c.args.group.members.now (made ++ rest)) (sym c.new-made.ensures) (subst (λ (members : List PairEnds). AreBases members rest) (sym c.requires.members) fit);
    }

pub loop-proc-preserved : goal.loop-proc-preserved
loop-proc-preserved g c =
    let program = c.args.group.program.now in
    let procs = c.args.group.procs.now in
    let i = c.loop-proc.proc-index in
    let step = with_base program c.args.group.known.now in
    let there = some_at program.procs (get_or procs i 0) (c.requires.there i 0 c.loop-proc-test.true) in
    let next = members-next program procs i 0 there.0 c.loop-proc-test.true there.1 in
    let one = c.in_ok-made.ensures.fits there.0 there.1 in
    record {
      leads =
          first_left (λ made. each step made (members_of program (drop (i + 1) procs))) c.loop-proc.invariant.leads
          (ap (each step c.loop-proc.made) next) (c.in_ok-made.ensures.follows there.0 there.1) refl;
      fits = λ rest fit.
          subst (AreBases c.args.group.members.now) (sym (append_assoc c.loop-proc.made (one.base ∷ []) rest) ∙ ap (λ (l : List Transition). l ++ rest) (sym one.is))
          (c.loop-proc.invariant.fits (one.base ∷ rest)
          (subst (λ ps. AreBases (map (pair_ends program) ps) (one.base ∷ rest)) (sym next) (one.goes, fit)));
    }

pub returns-in_err-made-clause-follows : goal.returns-in_err-made-clause-follows
returns-in_err-made-clause-follows g c =
    let program = c.args.group.program.now in
    let procs = c.args.group.procs.now in
    let i = c.loop-proc.proc-index in
    let step = with_base program c.args.group.known.now in
    let there = some_at program.procs (get_or procs i 0) (c.requires.there i 0 c.loop-proc-test.true) in
    all_left c.loop-proc.invariant.leads
    (in_other_words (ap (each step c.loop-proc.made) (sym (members-next program procs i 0 there.0 c.loop-proc-test.true there.1)))
    (error_first (λ next. each step next (members_of program (drop (i + 1) procs))) (c.in_err-made.ensures.follows there.0 there.1) refl c.from_residual.ensures.1))

pub returns-clause-follows : goal.returns-clause-follows
returns-clause-follows g c =
    let program = c.args.group.program.now in
    let procs = c.args.group.procs.now in
    let i = c.loop-proc.proc-index in
    let step = with_base program c.args.group.known.now in
    all_left c.loop-proc.invariant.leads
    (in_other_words (ap (λ ps. each step c.loop-proc.made (members_of program ps)) (sym (drop_all i procs c.loop-proc-test.false))) (at_end refl))

pub returns-clause-fits : goal.returns-clause-fits
returns-clause-fits g c =
    let program = c.args.group.program.now in
    let procs = c.args.group.procs.now in
    subst (AreBases c.args.group.members.now) (append-nil c.loop-proc.made)
    (c.loop-proc.invariant.fits [] (subst (λ ps. AreBases (ends_of_members program ps) []) (sym (drop_all c.loop-proc.proc-index procs c.loop-proc-test.false)) tt))
