use Rattle.std.proofs.Common.{◌∙◌, List, [], length, map, sym, ap, subst, refl}
use Rattle.std.specs.List.{range_with_len}
use Rattle.std.proofs.lemmas.List.{length-map}
use Rattle.posing.specs.Posing.{each}
use Rattle.posing.proofs.Steps.{in_other_words, value_first}
use Rattle.polyhedra.proofs.Results.{result_has}
use Rattle.newton_rounds.specs.declared.calls.GroupCall as own
use Rattle.newton_rounds.specs.declared.calls.Sides.{Sides}
use Rattle.newton_rounds.specs.Between.{AreSummaries, IsGroup}
use Rattle.newton_rounds.specs.Closure.{closure_of, ends_of_members, pair_ends, stretches_with, with_closed}
use Rattle.newton_rounds.specs.Members.{calls_from, members_of}
use Rattle.newton_rounds.specs.Shapes.{plain_call}
use Rattle.newton_rounds.proofs.ClosureSummaries.{closed-summaries}
use Rattle.newton_rounds.proofs.ReadyGroups.{calls-group, procs-few, sides-each}
use Rattle.newton_rounds.proofs.closure.closure_of.Goals as goal

pub calls_from-requires-clause-few : goal.calls_from-requires-clause-few
calls_from-requires-clause-few g c = procs-few c.args.group c.requires.group

pub group_formulas-requires-clause-graph : goal.group_formulas-requires-clause-graph
group_formulas-requires-clause-graph g c =
    let group = c.args.group in
    let calls = c.in_ok-calls.calls in
    let sides = c.in_ok-sides.sides in
    let made = c.in_ok-calls.ensures.made in
    let fits = c.in_ok-sides.ensures.fits in
    record {
      each = ap length c.as_slice.ensures ∙ sides-each group c.requires.group calls sides made fits ∙ sym (ap length c.as_slice-2.ensures);
      group =
          subst (λ (t : List own.GroupCall × List Sides). IsGroup group.members.now (stretches_with (map plain_call t.0) t.1)) (λ i. (sym c.as_slice.ensures i, sym c.as_slice-2.ensures i))
          (calls-group group c.requires.group calls sides made fits c.in_ok-calls.ensures.fit);
    }

pub returns-clause-follows : goal.returns-clause-follows
unfolding closure_of
returns-clause-follows g c =
    let program = c.args.group.program.now in
    let procs = c.args.group.procs.now in
    let bases = c.args.bases.now in
    let ms = members_of program procs in
    let members = c.requires.group.members in
    let calls = ap (map plain_call) c.as_slice.ensures ∙ c.in_ok-calls.ensures.made in
    let many = ap length members ∙ length-map ms (pair_ends program) in
    value_first (λ sides. each (with_closed (ends_of_members program procs) (stretches_with (calls_from procs 0 ms) sides) bases) [] (range_with_len 0 (length ms)))
    c.in_ok-sides.ensures.follows refl
    (in_other_words (λ i. each (with_closed (members i) (stretches_with (calls i) (c.as_slice-2.ensures i)) bases) [] (range_with_len 0 (many i))) c.group_formulas.ensures)

pub returns-clause-fits : goal.returns-clause-fits
returns-clause-fits g c =
    let group = c.args.group in
    let members = group.members.now in
    let bases = c.args.bases.now in
    let calls = c.in_ok-calls.calls in
    let sides = c.in_ok-sides.sides in
    let are = calls-group group c.requires.group calls sides c.in_ok-calls.ensures.made c.in_ok-sides.ensures.fits c.in_ok-calls.ensures.fit in
    result_has (AreSummaries members) c.group_formulas.result
    (in_other_words (λ i. each (with_closed members (stretches_with (map plain_call (c.as_slice.ensures i)) (c.as_slice-2.ensures i)) bases) [] (range_with_len 0 (length members))) c.group_formulas.ensures)
    (closed-summaries members (stretches_with (map plain_call calls) sides) are bases c.requires.bases)
