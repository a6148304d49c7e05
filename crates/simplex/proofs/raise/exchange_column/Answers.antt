use Rattle.std.proofs.Common.{rules, refl, length}
use Rattle.std.specs.Prelude.{IfErr}
use Rattle.simplex.specs.Refusal.{IsOverrun, IsRefusalIn}
use Rattle.simplex.specs.Exchange.{cause, exchange}
use Rattle.simplex.specs.declared.tableau.Tableau.{Tableau}
use Rattle.items.specs.Gives.{Gives}
use Rattle.simplex.proofs.Overruns.{refused_comparison, refused_exchange}
use Rattle.simplex.proofs.raise.exchange_column.Goals as goal

pub returns-in_err-leaving-clause-refusal : goal.returns-in_err-leaving-clause-refusal
returns-in_err-leaving-clause-refusal g c =
    let known : IfErr c.leaving.result (IsOverrun g.over (length c.args.t.lines)) =
    refused_comparison g.over (length c.args.t.lines) c.args.t (record { many = refl; tableau = c.requires.0; primitive = c.requires.1.0 }) c.args.raise.constants c.args.column c.args.raise.keys.now c.leaving.result c.leaving.ensures.width c.leaving.ensures.calm c.leaving.ensures.step in search rules

pub returns-in_err-next-in-Some-clause-refusal : goal.returns-in_err-next-in-Some-clause-refusal
returns-in_err-next-in-Some-clause-refusal g c =
    let exact : Gives cause (λ (u : Tableau). u) c.exchange.result (exchange c.args.t c.in-Some.line c.args.column) = search rules in
    let known : IfErr c.exchange.result (IsRefusalIn g.over (length c.args.t.lines)) =
    refused_exchange g.over (length c.args.t.lines) c.args.t (record { many = refl; tableau = c.requires.0; primitive = c.requires.1.0 }) c.in-Some.line c.args.column c.exchange.result exact c.exchange.ensures.refusal c.exchange.ensures.calm in search rules
