use Rattle.std.proofs.Common.{◌≡◌, ◌+◌, ◌++◌, ◌∙◌, [], List, drop, get_or, refl, sym, ap, subst, append_assoc, append-nil}
use Rattle.std.proofs.lemmas.List.{drop_all}
use Rattle.posing.specs.Follows.{Leads}
use Rattle.posing.specs.Posing.{each}
use Rattle.posing.proofs.Following.{leads_none}
use Rattle.posing.proofs.Steps.{all_left, at_end, error_first, first_left, in_other_words}
use Rattle.syntax_tree.specs.WellFormed.{width_of}
use Rattle.newton_rounds.specs.declared.calls.Sides.{Sides}
use Rattle.newton_rounds.specs.Closure.{ends_at, with_places_from, sides_of, with_member}
use Rattle.newton_rounds.specs.Members.{calls_from, calls_of, members_of}
use Rattle.newton_rounds.specs.Pairs.{PairEnds}
use Rattle.newton_rounds.specs.Shapes.{FitCalls}
use Rattle.newton_rounds.proofs.CratesBelow.{some_at}
use Rattle.newton_rounds.proofs.BothSides.{calls-fit}
use Rattle.newton_rounds.proofs.GroupCalls.{calls-from, columns-at, number-at}
use Rattle.newton_rounds.proofs.ReadyGroups.{procs-there}
use Rattle.newton_rounds.proofs.ProcedureLoops.{members-next}
use Rattle.newton_rounds.proofs.sides.sides_of.Goals as goal

pub loop-place-init : goal.loop-place-init
loop-place-init g c =
    let program = c.args.group.program.now in
    let procs = c.args.group.procs.now in
    let step = with_member program procs c.args.group.known.now in
    let whole = each step [] (with_places_from 0 (members_of program procs)) in
    let calls = calls_from procs 0 (members_of program procs) in
    record {
      leads =
          subst (λ made. Leads g.O.Oracle.asking c.args.oracle.now c.args.oracle.now c.args.log.now c.args.log.now whole (each step made (with_places_from 0 (members_of program procs))))
          (sym c.new-made.ensures) (leads_none _ _ _ _);
      fits = λ rest fit. subst (λ (made : List Sides). FitCalls c.args.group.members.now calls (made ++ rest)) (sym c.new-made.ensures) fit;
    }

pub loop-place-preserved : goal.loop-place-preserved
loop-place-preserved g c =
    let program = c.args.group.program.now in
    let procs = c.args.group.procs.now in
    let place = c.loop-place.place in
    let proc = get_or procs place 0 in
    let step = with_member program procs c.args.group.known.now in
    let there = some_at program.procs proc (c.requires.there place 0 c.loop-place-test.true) in
    let next = members-next program procs place 0 there.0 c.loop-place-test.true there.1 in
    let members = c.args.group.members.now in
    let one = c.in_ok-made.ensures.fits there.0 there.1 in
    let later = calls_from procs (place + 1) (members_of program (drop (place + 1) procs)) in
    let wide = subst (λ (ms : List PairEnds). (ends_at ms place).ends.full.columns ≡ width_of program there.0) (sym c.requires.members)
    (columns-at program procs (procs-there c.args.group c.requires) place proc there.0 (number-at procs place c.loop-place-test.true) there.1) in
    record {
      leads =
          first_left (λ made. each step made (with_places_from (place + 1) (members_of program (drop (place + 1) procs)))) c.loop-place.invariant.leads
          (ap (λ ps. each step c.loop-place.made (with_places_from place ps)) next) (c.in_ok-made.ensures.follows there.0 there.1) refl;
      fits = λ rest fit.
          subst (λ (all : List Sides). FitCalls members (calls_from procs 0 (members_of program procs)) all)
          (sym (append_assoc c.loop-place.made one.more rest) ∙ ap (λ (l : List Sides). l ++ rest) (sym one.is))
          (c.loop-place.invariant.fits (one.more ++ rest)
          (subst (λ ps. FitCalls members (calls_from procs place ps) (one.more ++ rest)) (sym next)
          (calls-fit members (width_of program there.0) place wide (calls_of procs place there.0) later one.more rest one.many (calls-from procs place there.0) one.fit fit)));
    }

pub returns-in_err-made-clause-follows : goal.returns-in_err-made-clause-follows
unfolding sides_of
returns-in_err-made-clause-follows g c =
    let program = c.args.group.program.now in
    let procs = c.args.group.procs.now in
    let place = c.loop-place.place in
    let step = with_member program procs c.args.group.known.now in
    let there = some_at program.procs (get_or procs place 0) (c.requires.there place 0 c.loop-place-test.true) in
    let next = members-next program procs place 0 there.0 c.loop-place-test.true there.1 in
    all_left c.loop-place.invariant.leads
    (in_other_words (ap (λ ps. each step c.loop-place.made (with_places_from place ps)) (sym next))
    (error_first (λ made. each step made (with_places_from (place + 1) (members_of program (drop (place + 1) procs)))) (c.in_err-made.ensures.follows there.0 there.1) refl c.from_residual.ensures.1))

pub returns-clause-follows : goal.returns-clause-follows
unfolding sides_of
returns-clause-follows g c =
    let program = c.args.group.program.now in
    let procs = c.args.group.procs.now in
    let place = c.loop-place.place in
    let step = with_member program procs c.args.group.known.now in
    all_left c.loop-place.invariant.leads
    (in_other_words (ap (λ ps. each step c.loop-place.made (with_places_from place (members_of program ps))) (sym (drop_all place procs c.loop-place-test.false))) (at_end refl))

pub returns-clause-fits : goal.returns-clause-fits
returns-clause-fits g c =
    let program = c.args.group.program.now in
    let procs = c.args.group.procs.now in
    let place = c.loop-place.place in
    let members = c.args.group.members.now in
    subst (λ (all : List Sides). FitCalls members (calls_from procs 0 (members_of program procs)) all) (append-nil c.loop-place.made)
    (c.loop-place.invariant.fits []
    (subst (λ ps. FitCalls members (calls_from procs place (members_of program ps)) []) (sym (drop_all place procs c.loop-place-test.false)) tt))
