use Rattle.std.proofs.Common.{All, length, sym, subst, ◌∙◌}
use Rattle.linear_terms.specs.Replacement.{IsBelow}
use Rattle.recurrence.specs.Words.{AreCovered}
use Rattle.recurrence.specs.Products.{columns_after_turn}
use Rattle.recurrence.proofs.KnownCoverage.{turned-covered, products-covered}
use Rattle.recurrence.proofs.growing.sequences.Goals as goal

pub sequences_of-requires-clause-covered : goal.sequences_of-requires-clause-covered
sequences_of-requires-clause-covered c = subst AreCovered (sym (c.as_slice.ensures ∙ c.in_ok-next.ensures)) (turned-covered c.args.known.now c.requires)

pub sequences_of-requires-clause-below : goal.sequences_of-requires-clause-below
sequences_of-requires-clause-below c =
    let next = c.as_slice.ensures ∙ c.in_ok-next.ensures in
    let monos = c.as_slice-2.ensures ∙ c.in_ok-monos.ensures in
    subst (λ ns. All (λ m. All (IsBelow (length ns) 0) m) c.as_slice-2.result.now) (sym next)
    (subst (λ ms. All (λ m. All (IsBelow (length (columns_after_turn c.args.known.now)) 0) m) ms) (sym monos) (products-covered c.args.known.now c.args.products.now))
