use Rattle.std.proofs.Common.{IfErr, ◌≡◌, ◌+◌, ◌∙◌, sym, ap, subst, ℕ, ℤ, List, [], length, get_or, Ok, rules}
use Rattle.std.proofs.lemmas.List.{get_or_read}
use Rattle.simplex.specs.Answers.{multipliers_of}
use Rattle.simplex.specs.Exchange.{cause, HasShape}
use Rattle.simplex.specs.Search.{IsRefuted, FoundAt}
use Rattle.simplex.specs.declared.search.SearchEnd.{SearchEnd}
use Rattle.simplex.specs.declared.search.SearchEnd.TheVariants as found
use Rattle.simplex.proofs.Points.{multipliers-are}
use Rattle.simplex.specs.Refusal.{IsRefusalIn}
use Rattle.items.specs.Gives.{Gives}
use Rattle.simplex.specs.Calm.{IsSmallLine}
use Rattle.simplex.specs.SearchSteps.{IsTableauIn}
use Rattle.simplex.proofs.Overruns.{refused}
use Rattle.simplex.proofs.Stops.{numbers_stop, multipliers_stop}
use Rattle.simplex.proofs.answering.answer_at.Goals as goal

pub returns-in_err-corner-in-Corner-clause-refusal : goal.returns-in_err-corner-in-Corner-clause-refusal
returns-in_err-corner-in-Corner-clause-refusal g c =
    let m : FoundAt g.over c.args.constants c.args.kinds.now c.args.budget c.args.stage.now.enters c.args.stage.now.tableau found.Corner =
    subst (λ (f : SearchEnd). FoundAt g.over c.args.constants c.args.kinds.now c.args.budget c.args.stage.now.enters c.args.stage.now.tableau f) c.in-Corner.is c.requires in
    let known : IfErr c.corner.result (IsRefusalIn g.over (length c.args.kinds.now)) =
    let of : IsTableauIn g.over (length c.args.kinds.now) c.args.stage.now.tableau = record { many = sym m.placed.marked.sized.many; tableau = m.placed.marked.sized.tableau; primitive = m.placed.marked.sized.primitive } in
    refused g.over (length c.args.kinds.now) c.args.stage.now.tableau of c.corner.result c.corner.ensures.refusal c.corner.ensures.calm
    (numbers_stop g.over (length c.args.kinds.now) c.args.stage.now.tableau of c.args.constants c.corner.result m.placed.marked.sized.units c.corner.ensures.step) in search rules

pub returns-in_err-by-in-Refuted-clause-refusal : goal.returns-in_err-by-in-Refuted-clause-refusal
returns-in_err-by-in-Refuted-clause-refusal g c =
    let r : IsRefuted g.over c.args.constants c.args.kinds.now c.args.stage.now.tableau c.in-Refuted.line =
    subst (λ (f : SearchEnd). FoundAt g.over c.args.constants c.args.kinds.now c.args.budget c.args.stage.now.enters c.args.stage.now.tableau f) c.in-Refuted.is c.requires in
    let own : c.as_slice.result.now ≡ get_or c.args.stage.now.tableau.lines c.in-Refuted.line [] = get_or_read c.args.stage.now.tableau.lines c.in-Refuted.line c.as_slice.result.now r.here (search rules) [] in
    let of : IsTableauIn g.over (length c.args.kinds.now) c.args.stage.now.tableau = record { many = sym r.sized.many; tableau = r.sized.tableau; primitive = r.sized.primitive } in
    let exact : Gives cause (λ (by : List ℤ). by) c.multipliers.result (multipliers_of c.args.constants c.as_slice.result.now) = search rules in
    let known : IfErr c.multipliers.result (IsRefusalIn g.over (length c.args.kinds.now)) =
    refused g.over (length c.args.kinds.now) c.args.stage.now.tableau of c.multipliers.result c.multipliers.ensures.refusal
    (λ n room small. c.multipliers.ensures.calm n room (subst (λ (zs : List ℤ). IsSmallLine n zs) (sym own) (λ j. small c.in-Refuted.line j)))
    (multipliers_stop g.over (length c.args.kinds.now) c.args.stage.now.tableau of c.args.constants c.in-Refuted.line c.as_slice.result.now c.multipliers.result r.sized.units own exact) in search rules

pub returns-in_ok-by-in-Refuted-clause-of : goal.returns-in_ok-by-in-Refuted-clause-of
returns-in_ok-by-in-Refuted-clause-of g c =
    let r : IsRefuted g.over c.args.constants c.args.kinds.now c.args.stage.now.tableau c.in-Refuted.line =
    subst (λ (f : SearchEnd). FoundAt g.over c.args.constants c.args.kinds.now c.args.budget c.args.stage.now.enters c.args.stage.now.tableau f) c.in-Refuted.is c.requires in
    let own : c.as_slice.result.now ≡ get_or c.args.stage.now.tableau.lines c.in-Refuted.line [] = get_or_read c.args.stage.now.tableau.lines c.in-Refuted.line c.as_slice.result.now r.here (search rules) [] in
    let exact : multipliers_of c.args.constants c.as_slice.result.now ≡ Ok c.in_ok-by-in-Refuted.by = search rules in (
      c.args.stage.now.tableau,
      (
        c.in-Refuted.line,
        (
          r,
          multipliers-are c.args.stage.now.tableau c.args.constants c.in-Refuted.line c.in_ok-by-in-Refuted.by
              (subst (λ (n : ℕ). HasShape (n + length c.args.stage.now.tableau.lines) c.args.stage.now.tableau) r.sized.units r.sized.tableau.shape) r.here r.some
              (sym (ap (λ (line : List ℤ). multipliers_of c.args.constants line) own) ∙ exact),
        ),
      ),
    )
