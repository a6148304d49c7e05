use Rattle.std.proofs.Common.{◌<◌, ◌∙◌, map, length, refl, sym, ap, subst}
use Rattle.std.specs.Prelude.{All, IfOk}
use Rattle.std.proofs.lemmas.List.{length-map}
use Rattle.syntax_tree.specs.WellFormed.{width_of}
use Rattle.posing.specs.Posing.{each}
use Rattle.posing.proofs.Steps.{in_other_words, value_first}
use Rattle.checked_tree.specs.Law.{AreFittedCells}
use Rattle.proc_summary.specs.Subject.{graph_by, own_graph}
use Rattle.newton_rounds.specs.declared.calls.GroupCall.{GroupCall}
use Rattle.newton_rounds.specs.Closure.{with_member, with_sides}
use Rattle.newton_rounds.specs.Groups.{subject_in}
use Rattle.newton_rounds.specs.Shapes.{AddSides, plain_call}
use Rattle.newton_rounds.proofs.sides.with_member.Goals as goal

pub with_all_sides-requires-clause-caller : goal.with_all_sides-requires-clause-caller
with_all_sides-requires-clause-caller g c =
    let group = c.args.group in
    record {
      procedure = c.requires.group.there c.args.place 0 c.requires.place;
      exit = λ p is. (c.in_ok-exit.ensures.nodes p is).exit_is;
      starts = λ p is. subst (AreFittedCells (graph_by (subject_in group p)) 0) (sym c.as_slice.ensures) (c.in_ok-starts.ensures.fits p is);
    }

pub with_all_sides-requires-clause-nodes : goal.with_all_sides-requires-clause-nodes
with_all_sides-requires-clause-nodes g c = λ p is.
    subst (All (λ (call : GroupCall). call.to < (own_graph p).nodes)) (sym c.as_slice-2.ensures) (c.in_ok-exit.ensures.nodes p is).ends

pub returns-clause-follows : goal.returns-clause-follows
unfolding with_member
returns-clause-follows g c = λ p is.
    let calls = ap (map plain_call) c.as_slice-2.ensures ∙ c.in_ok-exit.ensures.made p is in
    value_first _ (c.in_ok-starts.ensures.follows p is) refl
    (in_other_words (λ i. each (with_sides (subject_in c.args.group p) (c.as_slice.ensures i)) c.args.made (calls i)) (c.with_all_sides.ensures.follows p is))

pub returns-clause-fits : goal.returns-clause-fits
returns-clause-fits g c = λ p is.
    let calls = ap (map plain_call) c.as_slice-2.ensures ∙ c.in_ok-exit.ensures.made p is in
    subst (λ n. IfOk c.with_all_sides.result (AddSides (width_of c.args.group.program.now p) n c.args.made))
    (sym (length-map c.as_slice-2.result.now plain_call) ∙ ap length calls) (c.with_all_sides.ensures.fits p is)
