-- The next factor comes from what is left to what is counted.
use Rattle.std.proofs.Common.{◌≡◌, ◌*◌, ◌+◌, ◌∷◌, drop, get_or, length, add-one, ap, sym, ◌∙◌, arith, ℕ, suc, ◌<◌, List}
use Rattle.std.specs.Prelude.{map, min}
use Rattle.std.proofs.Math.Seq.{drop-cons}
use Rattle.syntax_tree.specs.declared.core_expr.Core.{Core}
use Rattle.syntax_tree.specs.Term.{term_of}
use Rattle.syntax_tree.specs.Cases.{joint_cases}
use Rattle.syntax_tree.proofs.Counts.{joint_cases-next}
use Rattle.syntax_tree.proofs.measure.joint_cases.Goals as goal

next_left : (xs : List Core) (i : ℕ) (e : Core) → e ≡ get_or xs i e → i < length xs → e ∷ drop (i + 1) xs ≡ drop i xs
next_left xs i e p h = rw add-one (ap (λ x. x ∷ drop (suc i) xs) p ∙ sym (drop-cons xs i e h))

pub loop-e-preserved : goal.loop-e-preserved
loop-e-preserved c = record {
  cut = omega arith;
  product =
      joint_cases-next (term_of c.e-item.result) (map term_of (drop (c.loop-e.e-index + 1) c.args.args.now)) c.loop-e.total c.count_cases.result.value c.product-total.result 257 (ap (λ n. n.value) c.count_cases.ensures) c.product-total.ensures
      ∙ ap (λ xs. min (c.loop-e.total * joint_cases (map term_of xs)) 257) (next_left _ _ _ c.e-item.is c.loop-e-test.true)
      ∙ c.loop-e.invariant.product;
}
