use Rattle.std.proofs.Common.{◌≡◌, ◌≤◌, ◌+◌, ◌∙◌, sym, ap, subst, ℕ, length, Ok, rules}
use Rattle.simplex.specs.Exchange.{upright_line}
use Rattle.simplex.proofs.Lines.{upright-length}
use Rattle.simplex.proofs.answering.unit_numbers.Goals as goal

pub after-requires : goal.after-requires
after-requires c =
    let exact : upright_line c.args.constants c.args.line.now ≡ Ok c.in_ok-own.own = search rules in
    let same : c.as_slice.result.now ≡ c.in_ok-own.own = search rules in
    subst (λ (n : ℕ). c.args.constants + 1 ≤ n) (sym (ap length same ∙ upright-length c.args.constants c.args.line.now c.in_ok-own.own exact)) c.requires
