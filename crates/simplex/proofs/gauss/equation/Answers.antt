use Rattle.std.proofs.Common.{◌≡◌, ◌<◌, ◌∙◌, ℕ, ℤ, List, [], length, get_or, ap, sym, subst, Ok, pos, rules}
use Rattle.std.proofs.lemmas.List.{get_or_read}
use Rattle.linear_terms.specs.declared.row.Kind.TheVariants.{Equal}
use Rattle.std.specs.Prelude.{IfErr}
use Rattle.items.specs.Gives.{Gives}
use Rattle.simplex.specs.Exchange.{cause, numbers_of, exchange}
use Rattle.simplex.specs.Refusal.{IsRefusalIn}
use Rattle.simplex.specs.declared.tableau.Tableau.{Tableau}
use Rattle.simplex.proofs.Overruns.{refused_exchange}
use Rattle.farkas_check.specs.Relations.{entry}
use Rattle.simplex.specs.Rows.{kind_at}
use Rattle.simplex.proofs.Eliminations.{solved-more, refuted-equation}
use Rattle.simplex.proofs.gauss.equation.Goals as goal

pub returns-in_ok-next-in-Some-clause-found : goal.returns-in_ok-next-in-Some-clause-found
returns-in_ok-next-in-Some-clause-found g c =
    let exact : exchange c.args.t c.args.i c.in-Some.column ≡ Ok c.in_ok-next-in-Some.next = search rules in
    let kind : kind_at c.args.kinds.now c.args.i ≡ Equal = search rules in
    let inside : c.args.i < length c.args.t.lines = subst (λ (n : ℕ). c.args.i < n) c.requires.0.sized.many c.requires.1 in
    let own : c.as_slice.result.now ≡ get_or c.args.t.lines c.args.i [] = get_or_read c.args.t.lines c.args.i c.as_slice.result.now inside (search rules) [] in
    let some : numbers_of c.args.t c.args.i c.in-Some.column ≡ pos 0 → ⊥ = λ e. c.in-Some.ensures.1 (ap (λ (line : List ℤ). entry line c.in-Some.column) own ∙ e) in
    let within : c.in-Some.column < c.args.constants = search rules in
    solved-more g.over c.args.constants c.args.kinds.now c.args.i c.in-Some.column c.args.t c.in_ok-next-in-Some.next c.requires.0 c.requires.1 kind within some exact

pub returns-then-deref-constants-ne0-clause-found : goal.returns-then-deref-constants-ne0-clause-found
returns-then-deref-constants-ne0-clause-found g c =
    let kind : kind_at c.args.kinds.now c.args.i ≡ Equal = search rules in
    let inside : c.args.i < length c.args.t.lines = subst (λ (n : ℕ). c.args.i < n) c.requires.0.sized.many c.requires.1 in
    let own : c.as_slice.result.now ≡ get_or c.args.t.lines c.args.i [] = get_or_read c.args.t.lines c.args.i c.as_slice.result.now inside (search rules) [] in
    let line : c.deref-in-None-2.result.now ≡ get_or c.args.t.lines c.args.i [] = get_or_read c.args.t.lines c.args.i c.deref-in-None-2.result.now inside (search rules) [] in
    let number : entry c.deref-in-None-2.result.now c.args.constants ≡ pos 0 → ⊥ = search rules in
    let some : numbers_of c.args.t c.args.i c.args.constants ≡ pos 0 → ⊥ = λ e. number (ap (λ (zs : List ℤ). entry zs c.args.constants) line ∙ e) in
    refuted-equation g.over c.args.constants c.args.kinds.now c.args.i c.args.t c.requires.0 c.requires.1 kind
    (λ j h. ap (λ (line : List ℤ). entry line j) (sym own) ∙ c.in-None.ensures j h) some

pub returns-in_err-next-in-Some-clause-refusal : goal.returns-in_err-next-in-Some-clause-refusal
returns-in_err-next-in-Some-clause-refusal g c =
    let sized = c.requires.0.sized in
    let exact : Gives cause (λ (u : Tableau). u) c.exchange.result (exchange c.args.t c.args.i c.in-Some.column) = search rules in
    let known : IfErr c.exchange.result (IsRefusalIn g.over (length c.args.kinds.now)) =
    refused_exchange g.over (length c.args.kinds.now) c.args.t (record { many = sym sized.many; tableau = sized.tableau; primitive = sized.primitive }) c.args.i c.in-Some.column c.exchange.result exact c.exchange.ensures.refusal c.exchange.ensures.calm in search rules
