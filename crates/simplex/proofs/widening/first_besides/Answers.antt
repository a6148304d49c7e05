use Rattle.std.proofs.Common.{rules, sym, subst, pos, ℤ}
use Rattle.std.specs.Prelude.{int_lt}
use Rattle.std.specs.Int.{w128}
use Rattle.std.proofs.lemmas.Int.{to_z-of_z}
use Rattle.simplex.specs.Wider.{IsBesides}
use Rattle.simplex.proofs.OwnColumns.{besides_at}
use Rattle.simplex.proofs.widening.first_besides.Goals as goal

pub returns-then-not-is_own : goal.returns-then-not-is_own
returns-then-not-is_own c =
    subst (λ (z : ℤ). IsBesides c.args.own.now c.args.terms.now c.loop-mono-item.result.0 (int_lt (pos 0) z)) (sym (to_z-of_z w128 c.loop-mono-item.result.1 (search rules)))
    (besides_at c.args.own.now c.args.terms.now c.loop-mono.mono-index c.loop-mono-item.result c.requires (search rules) (search rules) (search rules))
