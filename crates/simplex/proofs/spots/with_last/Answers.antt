use Rattle.std.proofs.Common.{rules, ◌≡◌, ◌<◌, ◌+◌, ◌∙◌, ℕ, ℤ, List, [], length, get_or, ap, sym, subst, arith, Ok, pos}
use Rattle.std.specs.Prelude.{IfErr}
use Rattle.std.proofs.lemmas.List.{get_or_read}
use Rattle.farkas_check.specs.Relations.{entry}
use Rattle.items.specs.Gives.{Gives}
use Rattle.simplex.specs.CalmStrata.{IsRefusalUnder, IsLinesStep, lines_choice}
use Rattle.simplex.specs.SearchSteps.{StopsBy}
use Rattle.simplex.specs.declared.tableau.Tableau.{Tableau}
use Rattle.simplex.specs.Exchange.{cause, numbers_of, exchange, HasShape}
use Rattle.simplex.proofs.CalmSpots.{small_spots}
use Rattle.simplex.proofs.CalmSteps.{error_under}
use Rattle.simplex.proofs.Echelons.{spot-exchanged}
use Rattle.simplex.proofs.Independence.{some_unknown}
use Rattle.simplex.proofs.Stops.{gives_stop}
use Rattle.simplex.proofs.spots.with_last.Goals as goal

pub exchange-requires : goal.exchange-requires
exchange-requires g c =
    let inside : c.args.line < length c.args.t.lines = subst (λ (n : ℕ). c.args.line < n) (sym c.requires.1.0.many) c.requires.1.1.0 in
    let own : c.as_slice.result.now ≡ get_or c.args.t.lines c.args.line [] = get_or_read c.args.t.lines c.args.line c.as_slice.result.now inside (search rules) [] in
    let some : numbers_of c.args.t c.args.line c.in-Some.column ≡ pos 0 → ⊥ = λ e. c.in-Some.ensures.1 (ap (λ (line : List ℤ). entry line c.in-Some.column) own ∙ e) in
    let within : c.in-Some.column < c.args.count = c.in-Some.ensures.0 in
    let is : g.units ≡ c.args.count = c.requires.0 in (
      subst (λ (n : ℕ). HasShape (n + length c.args.t.lines) c.args.t) (sym is) c.requires.1.0.tableau.shape,
      (inside, (omega (arith, within, is), some)),
    )

pub returns-in_ok-made-in-Some-clause-tableau : goal.returns-in_ok-made-in-Some-clause-tableau
returns-in_ok-made-in-Some-clause-tableau g c =
    let exact : exchange c.args.t c.args.line c.in-Some.column ≡ Ok c.in_ok-made-in-Some.made = search rules in
    let inside : c.args.line < length c.args.t.lines = subst (λ (n : ℕ). c.args.line < n) (sym c.requires.1.0.many) c.requires.1.1.0 in
    let own : c.as_slice.result.now ≡ get_or c.args.t.lines c.args.line [] = get_or_read c.args.t.lines c.args.line c.as_slice.result.now inside (search rules) [] in
    let some : numbers_of c.args.t c.args.line c.in-Some.column ≡ pos 0 → ⊥ = λ e. c.in-Some.ensures.1 (ap (λ (line : List ℤ). entry line c.in-Some.column) own ∙ e) in
    let last : (j : ℕ) → c.in-Some.column < j → j < c.args.count → numbers_of c.args.t c.args.line j ≡ pos 0 = λ j h k. ap (λ (line : List ℤ). entry line j) (sym own) ∙ c.in-Some.ensures.2 j h k in
    spot-exchanged c.args.count c.args.lines.now c.args.t c.in_ok-made-in-Some.made c.args.line c.in-Some.column c.requires.1.0 c.requires.1.1.0 c.in-Some.ensures.0 some last exact

pub returns-in-None-clause-chosen : goal.returns-in-None-clause-chosen
returns-in-None-clause-chosen g c =
    let inside : c.args.line < length c.args.t.lines = subst (λ (n : ℕ). c.args.line < n) (sym c.requires.1.0.many) c.requires.1.1.0 in
    let own : c.as_slice.result.now ≡ get_or c.args.t.lines c.args.line [] = get_or_read c.args.t.lines c.args.line c.as_slice.result.now inside (search rules) [] in
    let zeros : (j : ℕ) → j < c.args.count → numbers_of c.args.t c.args.line j ≡ pos 0 = λ j h. ap (λ (line : List ℤ). entry line j) (sym own) ∙ c.in-None.ensures j h in
    absurd (some_unknown c.args.count c.args.lines.now c.args.t c.args.line c.requires.1.0 c.requires.1.1.1.1 c.requires.1.1.0 zeros)

pub returns-in_err-made-in-Some-clause-refusal : goal.returns-in_err-made-in-Some-clause-refusal
returns-in_err-made-in-Some-clause-refusal g c =
    let known : IfErr c.exchange.result (IsRefusalUnder c.args.count c.args.lines.now) =
    error_under c.args.count c.args.lines.now c.exchange.result c.exchange.ensures.refusal (λ calm. c.exchange.ensures.calm 1048576 (omega arith) (small_spots 1048576 c.args.count c.args.lines.now calm c.args.t c.requires.1.0.many c.requires.1.0.tableau c.requires.1.0.primitive)) in search rules

pub returns-in_err-made-in-Some-clause-step : goal.returns-in_err-made-in-Some-clause-step
returns-in_err-made-in-Some-clause-step g c =
    let exact : Gives cause (λ (u : Tableau). u) c.exchange.result (exchange c.args.t c.args.line c.in-Some.column) = search rules in
    let known : IfErr c.exchange.result (StopsBy (IsLinesStep c.args.count c.args.lines.now)) =
    gives_stop (IsLinesStep c.args.count c.args.lines.now) (λ (u : Tableau). u) c.exchange.result (exchange c.args.t c.args.line c.in-Some.column) exact
    (λ step e. lines_choice c.args.t c.args.line c.in-Some.column c.requires.1.0 e) in search rules
