use Rattle.std.proofs.Common.{◌≡◌, ℕ, ◌+◌, ◌<◌, ◌∷◌, length, get_or, drop, List, ℤ, Ok, sym, ap, ◌∙◌, rules}
use Rattle.std.proofs.lemmas.List.{drop_more}
use Rattle.items.specs.Gives.{◌>>=◌}
use Rattle.linear_terms.specs.declared.col.Col.{Col}
use Rattle.linear_terms.specs.Polynomial.{Terms}
use Rattle.farkas_check.specs.Points.{ratio_at, value_from}
use Rattle.farkas_check.specs.Ratios.{Fraction, whole, ratio_product, ratio_sum}
use Rattle.simplex.proofs.values.terms_value.Goals as goal

value_from-next : (at : List Col → Fraction) (items : Terms) (i : ℕ) (t : List Col × ℤ) (total part next : Fraction) → i < length items → t ≡ get_or items i t
    → ratio_product (whole t.1) (at t.0) ≡ Ok part → ratio_sum total part ≡ Ok next → value_from at next (drop (i + 1) items) ≡ value_from at total (drop i items)
value_from-next at items i t total part next lt e multiplied added =
    let begins : drop i items ≡ t ∷ drop (i + 1) items = drop_more items i t lt ∙ ap (λ u. u ∷ drop (i + 1) items) (sym e) in
    sym (
    ap (value_from at total) begins
    ∙ ap (λ r. r >>= λ p. ratio_sum total p >>= λ n. value_from at n (drop (i + 1) items)) multiplied
    ∙ ap (λ r. r >>= λ n. value_from at n (drop (i + 1) items)) added
    )

pub loop-mono-preserved : goal.loop-mono-preserved
loop-mono-preserved c =
    let at = ratio_at c.args.columns.now c.args.point.now in
    let item = c.loop-mono-item.result in
    let multiplied : ratio_product (whole item.1) (at item.0) ≡ Ok c.in_ok-part.part = search rules in
    let added : ratio_sum c.loop-mono.total c.in_ok-part.part ≡ Ok c.in_ok-total.total = search rules in
    value_from-next at c.args.of.now c.loop-mono.mono-index item c.loop-mono.total c.in_ok-part.part c.in_ok-total.total c.loop-mono-test.true c.loop-mono-item.is multiplied added
    ∙ c.loop-mono.invariant
