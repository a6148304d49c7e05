use Rattle.std.proofs.Common.{◌≡◌, ℕ, ◌+◌, ◌<◌, length, get_or, drop, List, ◌∷◌, ℤ, Ok, Err, sym, ap, ◌∙◌, rules}
use Rattle.std.proofs.lemmas.List.{drop_more}
use Rattle.items.specs.Gives.{◌>>=◌}
use Rattle.items.proofs.Gives.{bind-assoc}
use Rattle.linear_terms.specs.declared.col.Col.{Col}
use Rattle.linear_terms.specs.Polynomial.{Terms}
use Rattle.farkas_check.specs.Ratios.{Fraction, whole, ratio_product, ratio_sum}
use Rattle.farkas_check.specs.Listing.{columns_in}
use Rattle.farkas_check.specs.Points.{ratio_at, value_from}
use Rattle.farkas_check.specs.Steps.{with_multiple}
use Rattle.farkas_check.proofs.points.terms_value.Goals as goal

-- one term, and then the others
value_from-step : (at : List Col → Fraction) (items : Terms) (i : ℕ) (t : List Col × ℤ) (total ratio : Fraction) → i < length items → t ≡ get_or items i t → ratio ≡ at t.0
    → value_from at total (drop i items) ≡ (with_multiple total t.1 ratio >>= λ next. value_from at next (drop (i + 1) items))
value_from-step at items i t total ratio lt e g =
    ap (value_from at total) (drop_more items i t lt ∙ ap (λ u. u ∷ drop (i + 1) items) (sym e))
    ∙ ap (λ r. ratio_product (whole t.1) r >>= λ part. ratio_sum total part >>= λ next. value_from at next (drop (i + 1) items)) (sym g)
    ∙ sym (bind-assoc (ratio_product (whole t.1) ratio) (ratio_sum total) (λ next. value_from at next (drop (i + 1) items)))

pub loop-mono-preserved : goal.loop-mono-preserved
loop-mono-preserved c =
    let at = ratio_at (columns_in c.args.columns.now) c.args.point.now in
    let items = c.args.of.now in
    let item = c.loop-mono-item.result in
    let told : with_multiple c.loop-mono.total item.1 c.ratio_and_place-ratio.result.0 ≡ Ok c.in_ok-total.total = search rules in
    sym (ap (λ r. r >>= λ next. value_from at next (drop (c.loop-mono.mono-index + 1) items)) told)
    ∙ sym (value_from-step at items c.loop-mono.mono-index item c.loop-mono.total c.ratio_and_place-ratio.result.0 c.loop-mono-test.true c.loop-mono-item.is c.ratio_and_place-ratio.ensures)
    ∙ c.loop-mono.invariant

pub returns-in_err-total : goal.returns-in_err-total
returns-in_err-total c =
    let at = ratio_at (columns_in c.args.columns.now) c.args.point.now in
    let items = c.args.of.now in
    let item = c.loop-mono-item.result in
    let fault = c.in_err-total.field-0.0 in
    let told : with_multiple c.loop-mono.total item.1 c.ratio_and_place-ratio.result.0 ≡ Err fault = search rules in
    let fails : c.from_residual.result ≡ Err fault = search rules in
    fails
    ∙ sym (ap (λ r. r >>= λ next. value_from at next (drop (c.loop-mono.mono-index + 1) items)) told)
    ∙ sym (value_from-step at items c.loop-mono.mono-index item c.loop-mono.total c.ratio_and_place-ratio.result.0 c.loop-mono-test.true c.loop-mono-item.is c.ratio_and_place-ratio.ensures)
    ∙ c.loop-mono.invariant
