use Rattle.std.proofs.Common.{◌≡◌, ◌<◌, ◌+◌, Ok, pos, true, sym, subst, List, ◌∙◌, ℕ, ℤ, [], length, get_or, ap, Bool, rules}
use Rattle.std.proofs.lemmas.List.{get_or_read}
use Rattle.std.specs.Prelude.{slice_set}
use Rattle.linear_terms.specs.declared.row.Kind.TheVariants.{AtMost}
use Rattle.std.specs.Prelude.{IfErr}
use Rattle.items.specs.Gives.{Gives}
use Rattle.simplex.specs.Exchange.{cause, numbers_of, exchange}
use Rattle.simplex.specs.Refusal.{IsRefusalIn}
use Rattle.simplex.specs.declared.tableau.Tableau.{Tableau}
use Rattle.simplex.proofs.Overruns.{refused_exchange}
use Rattle.farkas_check.specs.Relations.{entry}
use Rattle.simplex.specs.Rows.{kind_at}
use Rattle.simplex.specs.Search.{IsFreeing}
use Rattle.simplex.proofs.Eliminations.{freed-more}
use Rattle.simplex.proofs.gauss.inequality.Goals as goal

pub returns-in_ok-next-in-Some-clause-freed : goal.returns-in_ok-next-in-Some-clause-freed
returns-in_ok-next-in-Some-clause-freed g c =
    let exact : exchange c.args.stage.tableau c.args.i c.in-Some.column ≡ Ok c.in_ok-next-in-Some.next = search rules in
    let kind : kind_at c.args.kinds.now c.args.i ≡ AtMost = search rules in
    let inside : c.args.i < length c.args.stage.tableau.lines = subst (λ (n : ℕ). c.args.i < n) c.requires.0.marked.sized.many c.requires.1 in
    let own : c.as_slice.result.now ≡ get_or c.args.stage.tableau.lines c.args.i [] = get_or_read c.args.stage.tableau.lines c.args.i c.as_slice.result.now inside (search rules) [] in
    let some : numbers_of c.args.stage.tableau c.args.i c.in-Some.column ≡ pos 0 → ⊥ = λ e. c.in-Some.ensures.1 (ap (λ (line : List ℤ). entry line c.in-Some.column) own ∙ e) in
    let within : c.in-Some.column < c.args.constants = search rules in
    let made : c.with_entry.result ≡ slice_set c.args.stage.enters (c.args.constants + 1 + c.args.i) true = search rules in
    subst (λ (es : List Bool). IsFreeing g.over c.args.constants c.args.kinds.now (c.args.i + 1) es c.in_ok-next-in-Some.next) (sym made)
    (freed-more g.over c.args.constants c.args.kinds.now c.args.i c.in-Some.column c.args.stage.enters c.args.stage.tableau c.in_ok-next-in-Some.next c.requires.0 c.requires.1 kind within some exact)

pub returns-in_err-next-in-Some-clause-refusal : goal.returns-in_err-next-in-Some-clause-refusal
returns-in_err-next-in-Some-clause-refusal g c =
    let sized = c.requires.0.marked.sized in
    let exact : Gives cause (λ (u : Tableau). u) c.exchange.result (exchange c.args.stage.tableau c.args.i c.in-Some.column) = search rules in
    let known : IfErr c.exchange.result (IsRefusalIn g.over (length c.args.kinds.now)) =
    refused_exchange g.over (length c.args.kinds.now) c.args.stage.tableau (record { many = sym sized.many; tableau = sized.tableau; primitive = sized.primitive }) c.args.i c.in-Some.column c.exchange.result exact c.exchange.ensures.refusal c.exchange.ensures.calm in search rules
