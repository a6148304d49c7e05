-- The frame of a case with an objective.
use Rattle.std.proofs.Common.{◌≡◌, ℕ, ◌+◌, List, length, ap, subst, ◌∙◌}
use Rattle.linear_terms.specs.declared.col.Col.{Col}
use Rattle.linear_terms.specs.declared.row.Kind.{Kind}
use Rattle.linear_terms.specs.declared.row.Row.{Row}
use Rattle.linear_terms.specs.Polynomial.{Polynomial}
use Rattle.simplex.specs.Exchange.{numbers_of}
use Rattle.simplex.specs.Raise.{Framed}
use Rattle.simplex.specs.Rows.{kinds_of, framed_tableau}
use Rattle.simplex.specs.Suprema.{with_goal, frame_over}
use Rattle.simplex.specs.declared.tableau.Tableau.{Tableau}

-- what is said of the frame of a tableau and of kinds at the beginning of a search, said of those of
-- the case
pub of_beginning : (P : Framed → ℕ → List Kind → Type 0) (cs : List (List Col)) (rows all : List Row) (p : Polynomial) (constants count : ℕ) (kinds : List Kind) (t : Tableau) → all ≡ with_goal rows p → constants ≡ length cs → count ≡ length rows → t ≡ framed_tableau cs all → kinds ≡ kinds_of all
    → P (record { units = constants + 1; rows = count; frame = numbers_of t }) constants kinds → P (frame_over cs rows p) (length cs) (kinds_of (with_goal rows p))
of_beginning P cs rows all p constants count kinds t a e d f g h =
    subst (λ (ks : List Kind). P (frame_over cs rows p) (length cs) ks) (g ∙ ap kinds_of a)
    (subst (λ (u : Tableau). P (record { units = length cs + 1; rows = length rows; frame = numbers_of u }) (length cs) kinds) (f ∙ ap (framed_tableau cs) a)
    (subst (λ (n : ℕ). P (record { units = length cs + 1; rows = n; frame = numbers_of t }) (length cs) kinds) d
    (subst (λ (n : ℕ). P (record { units = n + 1; rows = count; frame = numbers_of t }) n kinds) e h)))
