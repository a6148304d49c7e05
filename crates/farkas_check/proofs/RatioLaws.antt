-- What sums, products and values of ratios are worth.
use Rattle.std.proofs.Common.{◌≡◌, ℤ, pos, ◌*ℤ◌, ◌<ℤ◌, refl}
use Rattle.std.proofs.lemmas.List.Elements.{recursion_from_All}
use Rattle.whole_numbers.proofs.Ring.{ring}
use Rattle.farkas_check.specs.Laws.{SumsAreExact, ProductsAreExact, ValuesAreExact}
use Rattle.farkas_check.specs.Points.{ratio_at}
use Rattle.farkas_check.specs.Ratios.{Fraction}
use Rattle.farkas_check.proofs.PointValues.{Stands-sum, Stands-ratio_at, ratio_value-stands}
use Rattle.farkas_check.proofs.Spots.{Stands-times}

left : (n d e : ℤ) → n *ℤ (d *ℤ e) ≡ n *ℤ e *ℤ d
left n d e = simp ring refl

right : (n d e : ℤ) → n *ℤ (d *ℤ e) ≡ n *ℤ d *ℤ e
right n d e = simp ring refl

pub sums_exact : SumsAreExact
sums_exact p q r h k e =
    (Stands-sum (p.num *ℤ q.den) (q.num *ℤ p.den) (p.den *ℤ q.den) p q r (record { same = left p.num p.den q.den; positive = h }) (record { same = right q.num p.den q.den; positive = k }) e).same

pub products_exact : ProductsAreExact
products_exact p q r h k e = (Stands-times p.num p.den p q r (record { same = refl; positive = h }) k e).same

pub values_exact : ValuesAreExact
values_exact point cs numbers p r positive listed e =
    (ratio_value-stands (ratio_at cs numbers) point.numerator point.over p r
    (λ m. record { same = listed.same m; positive = (Stands-ratio_at cs numbers m (recursion_from_All (λ (r : Fraction). pos 0 <ℤ r.den) numbers positive)).positive }) e).same
