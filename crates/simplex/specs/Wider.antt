-- A case over more columns than its rows have.
use Rattle.std.specs.Prelude.{◌≡◌, List, [], ◌∷◌, map, Bool, false, true, pos, ◌*ℤ◌, ◌<ℤ◌, if◌then◌else◌}
use Rattle.std.specs.Map.{keys_of}
use Rattle.std.specs.Ordering.{eq_by_cmp}
use Rattle.linear_terms.specs.declared.col.Col.{Col}
use Rattle.linear_terms.specs.declared.row.Row.{Row}
use Rattle.linear_terms.specs.Mono.{mono_cmp}
use Rattle.linear_terms.specs.Polynomial.{Terms, Polynomial, coefficient_in}
use Rattle.farkas_check.specs.Ratios.{Fraction, whole}
use Rattle.farkas_check.proofs.Spreads.{is_among, AreAmong, RowsAmong}
use Rattle.farkas_check.proofs.Walks.{IsOrdered}
use Rattle.simplex.specs.Raise.{sign_of}
use Rattle.simplex.specs.declared.supremum.Supremum.{Supremum}
use Rattle.simplex.specs.declared.supremum.Supremum.TheVariants as supremum

-- numbers at a case's own columns, at wider ones: those of the own columns, and else 0
abbrev pub widened_numbers : List (List Col) → List (List Col) → List Fraction → List Fraction
widened_numbers own [] numbers = []
widened_numbers [] (c ∷ cs) numbers = whole (pos 0) ∷ widened_numbers [] cs numbers
widened_numbers (d ∷ ds) (c ∷ cs) [] = whole (pos 0) ∷ widened_numbers (d ∷ ds) cs []
widened_numbers (d ∷ ds) (c ∷ cs) (n ∷ ns) =
    if eq_by_cmp mono_cmp d c then n ∷ widened_numbers ds cs ns
    else whole (pos 0) ∷ widened_numbers (d ∷ ds) cs (n ∷ ns)

-- the number of the ray along one monomial at a column, 1 or -1 at the monomial and else 0
abbrev pub number_along : List Col → Bool → List Col → Fraction
number_along mono up c = if eq_by_cmp mono_cmp mono c then whole (sign_of up) else whole (pos 0)

-- the ray along one monomial, up or down, by its numbers in the order of the columns
abbrev pub unit_ray : List Col → Bool → List (List Col) → List Fraction
unit_ray mono up cs = map (λ (c : List Col). number_along mono up c) cs

-- what a supremum came to, at wider columns
abbrev pub widened_supremum : List (List Col) → List (List Col) → Supremum → Supremum
widened_supremum own cs supremum.Empty = supremum.Empty
widened_supremum own cs supremum.Pivots = supremum.Pivots
widened_supremum own cs (supremum.Bound cert point) =
    supremum.Bound cert (widened_numbers own cs point)
widened_supremum own cs (supremum.Unbounded point ray) =
    supremum.Unbounded (widened_numbers own cs point) (widened_numbers own cs ray)

-- a monomial of the terms that is none of the columns, and the sign of its coefficient
pub record IsBesides (own : List (List Col)) (terms : Terms) (mono : List Col)
    (up : Bool) : Type 0 where
  pub apart : is_among mono own ≡ false
  pub here : is_among mono (keys_of terms) ≡ true
  pub grows : pos 0 <ℤ (sign_of up *ℤ coefficient_in terms mono)

-- columns in print order, and among them those of the rows and of the objective
pub record AreColumnsOf (cs : List (List Col)) (rows : List Row) (p : Polynomial) : Type 0 where
  pub ordered : IsOrdered cs
  pub own : RowsAmong rows cs
  pub objective : AreAmong (keys_of p.terms) cs
