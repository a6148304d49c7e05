-- What the search finds is extreme: the lines on which it is 0 leave nothing else of the span.
use Rattle.std.proofs.Common.{◌≡◌, Bool, true, false, cond, ap, ◌∙◌, List, [], ◌∷◌, ℤ, pos, ◌-ℤ◌, ◌*ℤ◌}
use Rattle.std.specs.Prelude.{neg_ℤ}
use Rattle.std.specs.List.{AllByRecursion}
use Rattle.items.proofs.Each.{each-append}
use Rattle.whole_numbers.specs.Dot.{dot}
use Rattle.whole_numbers.proofs.Ring.{neg_ℤ-*ℤ, *ℤ-neg_ℤ, neg_ℤ-neg_ℤ}
use Rattle.cones.specs.Vectors.{opposite}
use Rattle.cones.specs.Cones.{Cleared, Kept, Given, clearing, are_at_most, ends, extremes_at_zero, extremes}
use Rattle.cones.specs.Spans.{Values, IsSpanned}
use Rattle.cones.proofs.Clears.{IsClearing, IsGivenUp, clearing-is}
use Rattle.cones.proofs.Dots.{dot-opposite}
use Rattle.cones.proofs.Searches.{extremes-spanned}
use Rattle.cones.proofs.Spanning.{vanishes_on}

-- what the basis spans, and is 0 on each line on which the vector is, is proportional to the vector
abbrev pub IsExtreme : List (List ℤ) → List (List ℤ) → List ℤ → Type 0
IsExtreme lines basis v = (f : Values) → IsSpanned basis f → AllByRecursion (λ line. dot line v ≡ pos 0 → f line ≡ pos 0) lines → IsSpanned (v ∷ []) f

turned_spanned : (v : List ℤ) (f : Values) → IsSpanned (v ∷ []) f → IsSpanned (opposite v ∷ []) f
turned_spanned v f s = (
  s.0,
  neg_ℤ s.1,
  s.2,
  λ line. ap (λ x. s.0 *ℤ f line -ℤ x) (ap (λ x. neg_ℤ s.1 *ℤ x) (dot-opposite line v) ∙ both s.1 (dot line v)) ∙ s.3 line,
)
  where
    both : (c x : ℤ) → neg_ℤ c *ℤ neg_ℤ x ≡ c *ℤ x
    both c x = neg_ℤ-*ℤ c (neg_ℤ x) ∙ ap neg_ℤ (*ℤ-neg_ℤ c x) ∙ neg_ℤ-neg_ℤ (c *ℤ x)

ends-extreme : (lines rest : List (List ℤ)) (w : List ℤ) → AllByRecursion (IsExtreme rest (w ∷ [])) (ends lines w)
ends-extreme lines rest w = go (are_at_most lines w) (are_at_most lines (opposite w))
  where
    go : (s t : Bool) → AllByRecursion (IsExtreme rest (w ∷ [])) (cond s (w ∷ []) (cond t (opposite w ∷ []) []))
    go true t = ((λ f s k. s), tt)
    go false true = ((λ f s k. turned_spanned w f s), tt)
    go false false = tt

-- found where the line is made 0
made_zero : (line : List ℤ) (rest basis : List (List ℤ)) (pivot : List ℤ) (left : List (List ℤ)) → IsGivenUp line basis pivot left → (found : List (List ℤ))
    → AllByRecursion (IsExtreme rest left) found → AllByRecursion (λ v. IsSpanned left (λ l. dot l v)) found → AllByRecursion (IsExtreme (line ∷ rest) basis) found
made_zero line rest basis pivot left g [] h s = tt
made_zero line rest basis pivot left g (v ∷ found) h s = (
  (λ f t k. h.0 f (g.all f t (k.0 (vanishes_on left (λ l. dot l v) line g.zero_there s.0))) k.1),
  made_zero line rest basis pivot left g found h.1 s.1,
)

-- found where it is passed over
passed_over : (line : List ℤ) (rest basis found : List (List ℤ)) → AllByRecursion (IsExtreme rest basis) found → AllByRecursion (IsExtreme (line ∷ rest) basis) found
passed_over line rest basis [] h = tt
passed_over line rest basis (v ∷ found) h = ((λ f s k. h.0 f s k.1), passed_over line rest basis found h.1)

pub extremes-extreme : (lines rest basis : List (List ℤ)) → AllByRecursion (IsExtreme rest basis) (extremes lines rest basis)
extremes-extreme lines [] [] = tt
extremes-extreme lines [] (w ∷ []) = ends-extreme lines [] w
extremes-extreme lines [] (v ∷ (u ∷ vs)) = tt
extremes-extreme lines (line ∷ rest) [] = tt
extremes-extreme lines (line ∷ rest) (w ∷ []) = ends-extreme lines (line ∷ rest) w
extremes-extreme lines (line ∷ rest) (v ∷ (u ∷ vs)) =
    each-append (IsExtreme (line ∷ rest) (v ∷ u ∷ vs)) (extremes_at_zero (extremes lines rest) (clearing line (v ∷ u ∷ vs))) (extremes lines rest (v ∷ u ∷ vs))
    (go (clearing line (v ∷ u ∷ vs)) (clearing-is line (v ∷ u ∷ vs)) (λ basis. extremes-extreme lines rest basis))
    (passed_over line rest (v ∷ u ∷ vs) (extremes lines rest (v ∷ u ∷ vs)) (extremes-extreme lines rest (v ∷ u ∷ vs)))
  where
    go : (c : Cleared) → IsClearing line (v ∷ u ∷ vs) c → ((basis : List (List ℤ)) → AllByRecursion (IsExtreme rest basis) (extremes lines rest basis))
        → AllByRecursion (IsExtreme (line ∷ rest) (v ∷ u ∷ vs)) (extremes_at_zero (extremes lines rest) c)
    go Kept g again = tt
    go (Given pivot left) g again = made_zero line rest (v ∷ u ∷ vs) pivot left g (extremes lines rest left) (again left) (extremes-spanned lines rest left)
