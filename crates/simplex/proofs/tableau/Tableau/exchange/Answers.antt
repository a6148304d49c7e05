use Rattle.std.proofs.Common.{◌≡◌, ◌<◌, ℕ, subst, Ok, rules}
use Rattle.simplex.specs.Exchange.{exchange}
use Rattle.simplex.proofs.Numbers.{exchange-keeps}
use Rattle.std.specs.Prelude.{IfErr}
use Rattle.simplex.specs.Calm.{IsMemory}
use Rattle.simplex.proofs.Memory.{exchange-calm}
use Rattle.simplex.proofs.tableau.Tableau.exchange.Goals as goal

pub returns-clause-kept : goal.returns-clause-kept
returns-clause-kept g c units frame wide t =
    let exact : exchange c.args.self c.args.line c.args.column ≡ Ok c.in_ok-made.made = search rules in
    exchange-keeps units frame c.args.self c.in_ok-made.made c.args.line c.args.column t c.requires.1.0
    (subst (λ (n : ℕ). c.args.column < n) wide c.requires.1.1.0) c.requires.1.1.1 exact

pub returns-in_err-made-clause-calm : goal.returns-in_err-made-clause-calm
returns-in_err-made-clause-calm g c n room small =
    let known : IfErr c.exchange_line.result IsMemory = exchange-calm c.args.self c.args.line c.args.column c.exchange_line.result c.exchange_line.ensures.exact n room small in
    search rules
