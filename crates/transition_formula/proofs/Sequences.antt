-- Sequence: what its loops make, and that it fits.
use Rattle.std.proofs.Common.{◌≡◌, ℕ, ◌+◌, true, length, map, List, ◌++◌, sym, ap, subst, ◌∙◌, append_assoc}
use Rattle.std.specs.Prelude.{IsTrue, count_by}
use Rattle.std.specs.List.{list_all, range_with_len, flat_map}
use Rattle.std.proofs.lemmas.List.FromFn.{length-map-range_with_len}
use Rattle.linear_terms.specs.declared.col.Col.TheVariants.{Aux}
use Rattle.linear_terms.specs.declared.row.Row.{Row}
use Rattle.linear_terms.specs.declared.row.Case.{Case}
use Rattle.linear_terms.specs.Polynomial.{Polynomial, column_of}
use Rattle.linear_terms.specs.Operations.{substituted_polynomial}
use Rattle.linear_terms.specs.Replacement.{put_in}
use Rattle.transition_formula.specs.declared.loss.Loss.{Loss}
use Rattle.transition_formula.specs.Loss.{losses_of}
use Rattle.transition_formula.specs.Transition.{every_column, every_column_of, is_below}
use Rattle.transition_formula.specs.Composition.{rows_by, posts_by, sequence_of_cases, after_case, losses_by}
use Rattle.transition_formula.proofs.ColumnTests.{both, lost}

-- auxiliaries after those of the first case
abbrev pub later : Case → Case → List Polynomial
later first second = map (λ n. column_of (Aux n)) (range_with_len first.aux second.aux)

pub rows_covered : (first second : Case) (at aux : List Polynomial) (rows : List Row) → IsTrue (every_column_of (is_below (length first.post) second.aux) second) → at ≡ first.post → aux ≡ later first second → rows ≡ second.rows
    → IsTrue (list_all (λ row. every_column (is_below (length at) (length aux)) row.poly) rows)
rows_covered first second at aux rows h e f g =
    let parts = both (list_all (λ row. every_column (is_below (length first.post) second.aux) row.poly) second.rows) (list_all (every_column (is_below (length first.post) second.aux)) second.post) h in
    let many : length aux ≡ second.aux = ap length f ∙ length-map-range_with_len (λ n. column_of (Aux n)) first.aux second.aux in
    subst (λ b. b ≡ true) (sym (λ i. list_all (λ row. every_column (is_below (length (e i)) (many i)) row.poly) (g i))) parts.0

pub posts_covered : (first second : Case) (at aux posts : List Polynomial) → IsTrue (every_column_of (is_below (length first.post) second.aux) second) → at ≡ first.post → aux ≡ later first second → posts ≡ second.post
    → IsTrue (list_all (every_column (is_below (length at) (length aux))) posts)
posts_covered first second at aux posts h e f g =
    let parts = both (list_all (λ row. every_column (is_below (length first.post) second.aux) row.poly) second.rows) (list_all (every_column (is_below (length first.post) second.aux)) second.post) h in
    let many : length aux ≡ second.aux = ap length f ∙ length-map-range_with_len (λ n. column_of (Aux n)) first.aux second.aux in
    subst (λ b. b ≡ true) (sym (λ i. list_all (every_column (is_below (length (e i)) (many i))) (g i))) parts.1

-- the lists that the code has, and those of the definition
pub record Reads (first second : Case) (at aux : List Polynomial) (start rows : List Row) (posts : List Polynomial) : Type 0 where
  pub same_at : at ≡ first.post
  pub same_aux : aux ≡ later first second
  pub same_start : start ≡ first.rows
  pub same_rows : rows ≡ second.rows
  pub same_posts : posts ≡ second.post

pub sequence_made : (first second : Case) (at aux : List Polynomial) (start rows : List Row) (posts : List Polynomial) → Reads first second at aux start rows posts
    → (made : List Row) (post : List Polynomial) (n : ℕ) → made ≡ start ++ rows_by (substituted_polynomial (put_in at aux)) rows → post ≡ posts_by (substituted_polynomial (put_in at aux)) (first.aux + second.aux) posts
    → n ≡ first.aux + second.aux + count_by (lost (substituted_polynomial (put_in at aux))) posts
    → (let c : Case = record { aux = n; rows = made; post = post } in c ≡ sequence_of_cases first second)
sequence_made first second at aux start rows posts reads made post n e f g =
    (λ i. record { aux = g i; rows = e i; post = f i })
    ∙ (λ i. record {
      aux = first.aux + second.aux + count_by (lost (substituted_polynomial (put_in (reads.same_at i) (reads.same_aux i)))) (reads.same_posts i);
      rows = reads.same_start i ++ rows_by (substituted_polynomial (put_in (reads.same_at i) (reads.same_aux i))) (reads.same_rows i);
      post = posts_by (substituted_polynomial (put_in (reads.same_at i) (reads.same_aux i))) (first.aux + second.aux) (reads.same_posts i);
    })

pub sequence_noted : (first second : Case) (at aux : List Polynomial) (start rows : List Row) (posts : List Polynomial) → Reads first second at aux start rows posts
    → (before between after : List Loss) → between ≡ before ++ flat_map (λ row. losses_of (substituted_polynomial (put_in at aux) row.poly)) rows → after ≡ between ++ flat_map (λ p. losses_of (substituted_polynomial (put_in at aux) p)) posts
    → after ≡ before ++ losses_by (after_case first second) second
sequence_noted first second at aux start rows posts reads before between after e f =
    f
    ∙ ap (λ l. l ++ flat_map (λ p. losses_of (substituted_polynomial (put_in at aux) p)) posts) e
    ∙ append_assoc before (flat_map (λ row. losses_of (substituted_polynomial (put_in at aux) row.poly)) rows) (flat_map (λ p. losses_of (substituted_polynomial (put_in at aux) p)) posts)
    ∙ (λ i. before ++ (flat_map (λ row. losses_of (substituted_polynomial (put_in (reads.same_at i) (reads.same_aux i)) row.poly)) (reads.same_rows i) ++ flat_map (λ p. losses_of (substituted_polynomial (put_in (reads.same_at i) (reads.same_aux i)) p)) (reads.same_posts i)))
