-- The rows of the second case have their monomials in print order, each once.
use Rattle.std.proofs.Common.{◌≡◌, ℕ, List, [], ◌∷◌, ◌++◌, true, Ok, map, subst, ℤ, pos, negsuc}
use Rattle.std.specs.Prelude.{Result, Some}
use Rattle.std.specs.List.{AllByRecursion}
use Rattle.items.specs.Gives.{◌>>=◌}
use Rattle.items.proofs.Gives.{on_ok}
use Rattle.items.proofs.Each.{each-append, each-any}
use Rattle.linear_terms.specs.declared.col.Col.{Col}
use Rattle.linear_terms.specs.declared.error.TermError.{TermError}
use Rattle.linear_terms.specs.declared.row.Kind.TheVariants.{AtMost, Equal}
use Rattle.linear_terms.specs.declared.row.Row.{Row}
use Rattle.linear_terms.specs.Expressions.{Made, ◌⊠◌, ◌⊟◌, whole, column, at_most, or_zero, when_made, when_all_made, put_into, linear}
use Rattle.linear_terms.specs.Operations.{product_of_polys, difference_of_polys, substituted_polynomial}
use Rattle.linear_terms.specs.Polynomial.{Terms, Polynomial, IsCanonical, column_of}
use Rattle.linear_terms.specs.TermError.{times}
use Rattle.linear_terms.proofs.Canonical.{IsCanonical-nil, IsCanonical-cons, IsCanonical-column, IsCanonical-difference_of_polys, IsCanonical-product_of_polys, IsCanonical-substituted}
use Rattle.transition_formula.specs.Transition.{Transition}
use Rattle.posing.specs.Posing.{◌>>=◌ as ◌>>>◌, each, Always}
use Rattle.posing.proofs.Paths.{always_bind, always_any}
use Rattle.closed_form.specs.ClosedRow.{closed_poly, closed_row, sum_poly, sum_row}
use Rattle.polyhedra.specs.Vocabulary.{Vocabulary}
use Rattle.polyhedra.proofs.RowShapes.{with_row-keeps, bounded-keeps, each-keeps}
use Rattle.polyhedra.specs.Directions.{directions}
use Rattle.polyhedra.specs.Changes.{poly_at, change, moving}
use Rattle.polyhedra.specs.Bounds.{for_entries, put_in_for, with_row, before_row, after_row, change_row, rows_with_entry_bound, rows_with_exit_bound, bounded_change}
use Rattle.recurrence.specs.declared.terms.StratumTerm.{StratumTerm}
use Rattle.recurrence.specs.Products.{products}
use Rattle.recurrence.specs.Strata.{strata}
use Rattle.recurrence.specs.Progressions.{Progression, excess, progression_row, progressions, bounded_progression}
use Rattle.recurrence.specs.Star.{after, count, change_over_turns, posts, moves, past_third, term_row, terms_with_row, some_turn, rows_of, turns}

-- ---- expressions

pub record IsCanonicalIfMade (m : Made) : Type 0 where
  pub as_made : (p : Polynomial) → m ≡ Ok p → IsCanonical p.terms

pub canonical-Ok : (d : Polynomial) → IsCanonical d.terms → IsCanonicalIfMade (Ok d)
canonical-Ok d h = record { as_made = λ p e. let same : d ≡ p = cc in subst (λ q. IsCanonical q.terms) same h }

pub canonical-column : (c : Col) → IsCanonicalIfMade (column c)
canonical-column c = canonical-Ok (column_of c) (IsCanonical-column (c ∷ []))

pub canonical-product : (a b : Made) → IsCanonicalIfMade (a ⊠ b)
canonical-product a b = record {
  as_made = λ r e.
      on_ok a (λ p. b >>= λ q. product_of_polys p q) r e (λ p f g.
      on_ok b (λ q. product_of_polys p q) r g (λ q h l. IsCanonical-product_of_polys p q r l));
}

pub canonical-difference : (a b : Made) → IsCanonicalIfMade a → IsCanonicalIfMade (a ⊟ b)
canonical-difference a b of_a = record {
  as_made = λ r e.
      on_ok a (λ p. b >>= λ q. difference_of_polys p q) r e (λ p f g.
      on_ok b (λ q. difference_of_polys p q) r g (λ q h l. IsCanonical-difference_of_polys p q r l (of_a.as_made p f)));
}

when-next : (values : Col → Made) (m : List Col) (next : Made) (p : Polynomial) → when_made values m next ≡ Ok p → next ≡ Ok p
when-next values [] next p e = e
when-next values (c ∷ m) next p e = on_ok (values c) (λ q. when_made values m next) p e (λ q f g. when-next values m next p g)

when_all-next : (values : Col → Made) (ts : Terms) (next : Made) (p : Polynomial) → when_all_made values ts next ≡ Ok p → next ≡ Ok p
when_all-next values [] next p e = e
when_all-next values (t ∷ ts) next p e = when_all-next values ts next p (when-next values t.0 (when_all_made values ts next) p e)

pub canonical-put_into : (values : Col → Made) (d : Polynomial) → IsCanonicalIfMade (put_into values d)
canonical-put_into values d = record { as_made = λ p e. IsCanonical-substituted (λ c. or_zero (values c)) d p (when_all-next values d.terms (substituted_polynomial (λ c. or_zero (values c)) d) p e) }

pub canonical-put_in_for : (polys : List Polynomial) (d : Polynomial) → IsCanonicalIfMade (put_in_for polys d)
canonical-put_in_for polys d = canonical-put_into (for_entries (λ v. Ok (poly_at polys v))) d

-- ---- rows

pub record IsCanonicalRow (m : Result Row TermError) : Type 0 where
  pub as_made : (r : Row) → m ≡ Ok r → IsCanonical r.poly.terms

pub canonical-at_most : (m : Made) → IsCanonicalIfMade m → IsCanonicalRow (at_most m)
canonical-at_most m h = record {
  as_made = λ r e. on_ok m (λ p. Ok record { poly = p; kind = AtMost }) r e
      (λ p f g. let same : record { poly = p; kind = AtMost } ≡ r = cc in subst (λ (row : Row). IsCanonical row.poly.terms) same (h.as_made p f));
}

pub canonical-closed_row : (after before d1 d2 d3 : Polynomial) (k : Col) → IsCanonicalRow (closed_row after before d1 d2 d3 k)
canonical-closed_row after before d1 d2 d3 k = record {
  as_made = λ r e. on_ok made (λ p. Ok record { poly = p; kind = Equal }) r e
      (λ p f g. let same : record { poly = p; kind = Equal } ≡ r = cc in subst (λ (row : Row). IsCanonical row.poly.terms) same (is_made.as_made p f));
}
  where
    made : Made
    made = closed_poly (Ok after) (Ok before) (Ok d1) (Ok d2) (Ok d3) (Ok (column_of k))

    is_made : IsCanonicalIfMade (closed_poly (Ok after) (Ok before) (Ok d1) (Ok d2) (Ok d3) (Ok (column_of k)))
    is_made =
        canonical-difference
        (whole (pos 6) ⊠ Ok after ⊟ whole (pos 6) ⊠ Ok before ⊟ whole (pos 6) ⊠ Ok (column_of k) ⊠ Ok d1 ⊟ whole (pos 3) ⊠ Ok (column_of k) ⊠ (Ok (column_of k) ⊟ whole (pos 1)) ⊠ Ok d2)
        (Ok (column_of k) ⊠ (Ok (column_of k) ⊟ whole (pos 1)) ⊠ (Ok (column_of k) ⊟ whole (pos 2)) ⊠ Ok d3)
        (canonical-difference
        (whole (pos 6) ⊠ Ok after ⊟ whole (pos 6) ⊠ Ok before ⊟ whole (pos 6) ⊠ Ok (column_of k) ⊠ Ok d1)
        (whole (pos 3) ⊠ Ok (column_of k) ⊠ (Ok (column_of k) ⊟ whole (pos 1)) ⊠ Ok d2)
        (canonical-difference (whole (pos 6) ⊠ Ok after ⊟ whole (pos 6) ⊠ Ok before) (whole (pos 6) ⊠ Ok (column_of k) ⊠ Ok d1)
        (canonical-difference (whole (pos 6) ⊠ Ok after) (whole (pos 6) ⊠ Ok before) (canonical-product (whole (pos 6)) (Ok after)))))

-- ---- the second case

abbrev Canonical : Row → Type 0
Canonical row = IsCanonical row.poly.terms

abbrev pub RowsAreCanonical : List Row → Type 0
RowsAreCanonical rows = AllByRecursion (λ row. IsCanonical row.poly.terms) rows

term_row-canonical : (ms : List (List Col)) (body : Transition) (t : StratumTerm) → IsCanonicalRow (term_row ms body t)
term_row-canonical ms body t = record {
  as_made = λ r e.
      on_ok (past_third ms t) (λ d4. t.recurrence.first >>= λ d1. t.recurrence.second >>= λ d2. t.recurrence.third >>= λ d3. closed_row (linear t.relation.a (map (after body) (moving true body))) t.recurrence.start d1 d2 d3 (count body)) r e (λ d4 e4 e0.
      on_ok t.recurrence.first (λ d1. t.recurrence.second >>= λ d2. t.recurrence.third >>= λ d3. closed_row (linear t.relation.a (map (after body) (moving true body))) t.recurrence.start d1 d2 d3 (count body)) r e0 (λ d1 e1 f.
      on_ok t.recurrence.second (λ d2. t.recurrence.third >>= λ d3. closed_row (linear t.relation.a (map (after body) (moving true body))) t.recurrence.start d1 d2 d3 (count body)) r f (λ d2 e2 g.
      on_ok t.recurrence.third (λ d3. closed_row (linear t.relation.a (map (after body) (moving true body))) t.recurrence.start d1 d2 d3 (count body)) r g (λ d3 e3 k.
      (canonical-closed_row (linear t.relation.a (map (after body) (moving true body))) t.recurrence.start d1 d2 d3 (count body)).as_made r k))));
}

sum_row-canonical : (d s : Polynomial) (g most : ℤ) (k : Col) → IsCanonicalRow (sum_row d s g most k)
sum_row-canonical d s g most k =
    canonical-at_most (sum_poly (Ok d) (Ok s) g most (column k))
    (canonical-difference (whole (pos 2) ⊠ Ok d ⊟ whole (pos 2) ⊠ column k ⊠ Ok s ⊟ whole g ⊠ column k ⊠ (column k ⊟ whole (pos 1))) (whole (pos 2) ⊠ whole most ⊠ column k)
    (canonical-difference (whole (pos 2) ⊠ Ok d ⊟ whole (pos 2) ⊠ column k ⊠ Ok s) (whole g ⊠ column k ⊠ (column k ⊟ whole (pos 1)))
    (canonical-difference (whole (pos 2) ⊠ Ok d) (whole (pos 2) ⊠ column k ⊠ Ok s) (canonical-product (whole (pos 2)) (Ok d)))))

progression_row-canonical : (moved : ℕ → Made) (k : Col) (p : Progression) (most : ℤ) → IsCanonicalRow (progression_row moved k p most)
progression_row-canonical moved k p most = record {
  as_made = λ r e.
      on_ok (whole p.up ⊠ moved p.variable) (λ d. times p.by p.term.relation.c >>= λ g. (whole p.by ⊠ Ok p.term.recurrence.start) >>= λ s. sum_row d s g most k) r e (λ d e1 f.
      on_ok (times p.by p.term.relation.c) (λ g. (whole p.by ⊠ Ok p.term.recurrence.start) >>= λ s. sum_row d s g most k) r f (λ g e2 h.
      on_ok (whole p.by ⊠ Ok p.term.recurrence.start) (λ s. sum_row d s g most k) r h (λ s e3 l. (sum_row-canonical d s g most k).as_made r l)));
}

some_turn-canonical : (body : Transition) → IsCanonical (some_turn body).poly.terms
some_turn-canonical body = IsCanonical-cons (count body ∷ [], negsuc 0) [] tt (λ e. cc) IsCanonical-nil

-- the rows of the second case are canonical, whatever the answers
pub turns-canonical : (body : Transition) (voc : Vocabulary) → AllByRecursion (λ d. IsCanonical d.terms) (directions voc) → Always (λ case. RowsAreCanonical case.rows) (turns body voc)
unfolding turns rows_of ◌>>>◌
turns-canonical body voc canonical =
    always_bind (λ s. Unit {0}) (λ case. RowsAreCanonical case.rows) (strata body (products body voc)) _ (always_any (λ s. Unit {0}) (strata body (products body voc)) (λ s. tt)) (λ s any.
    always_bind RowsAreCanonical (λ case. RowsAreCanonical case.rows) (rows_of body voc s) _
    (always_bind RowsAreCanonical RowsAreCanonical (each (λ rows t. with_row rows (term_row (products body voc) body t)) [] (terms_with_row (products body voc) s)) _
    (each-keeps Canonical (λ t. Unit {0}) (λ rows t. with_row rows (term_row (products body voc) body t)) [] (terms_with_row (products body voc) s) (λ rows t k fine. with_row-keeps Canonical rows (term_row (products body voc) body t) (term_row-canonical (products body voc) body t).as_made fine) (each-any (λ t. Unit {0}) (λ t. tt) (terms_with_row (products body voc) s)) tt) (λ equations h1.
    always_bind RowsAreCanonical RowsAreCanonical (each (rows_with_entry_bound body.cases) (equations ++ some_turn body ∷ []) (directions voc)) _
    (each-keeps Canonical (λ d. IsCanonical d.terms) (rows_with_entry_bound body.cases) (equations ++ some_turn body ∷ []) (directions voc)
    (λ rows d k fine. bounded-keeps Canonical body.cases (λ case. Ok d) (before_row d) rows (λ most. (canonical-at_most (Ok d ⊟ whole most) (canonical-difference (Ok d) (whole most) (canonical-Ok d k))).as_made) fine)
    canonical (each-append (λ r. IsCanonical r.poly.terms) equations (some_turn body ∷ []) h1 (some_turn-canonical body, tt))) (λ before h2.
    always_bind RowsAreCanonical RowsAreCanonical (each (rows_with_exit_bound body.cases (posts body)) before (directions voc)) _
    (each-keeps Canonical (λ d. Unit {0}) (rows_with_exit_bound body.cases (posts body)) before (directions voc)
    (λ rows d k fine. bounded-keeps Canonical body.cases (λ case. put_in_for case.post d) (after_row (posts body) d) rows
    (λ most. (canonical-at_most (put_in_for (posts body) d ⊟ whole most) (canonical-difference (put_in_for (posts body) d) (whole most) (canonical-put_in_for (posts body) d))).as_made) fine)
    (each-any (λ d. Unit {0}) (λ d. tt) (directions voc)) h2) (λ after_too h3.
    always_bind RowsAreCanonical RowsAreCanonical (each (bounded_change body.cases (moves body) (Some (count body))) after_too (directions voc ++ voc.extra)) _
    (each-keeps Canonical (λ d. Unit {0}) (bounded_change body.cases (moves body) (Some (count body))) after_too (directions voc ++ voc.extra)
    (λ rows d k fine. bounded-keeps Canonical body.cases (λ case. put_into (for_entries (change true case)) d) (change_row (moves body) (Some (count body)) d) rows
    (λ most. (canonical-at_most (put_in_for (moves body) d ⊟ whole most ⊠ column (count body)) (canonical-difference (put_in_for (moves body) d) (whole most ⊠ column (count body)) (canonical-put_in_for (moves body) d))).as_made) fine)
    (each-any (λ d. Unit {0}) (λ d. tt) (directions voc ++ voc.extra)) h3) (λ changes h4.
    each-keeps Canonical (λ p. Unit {0}) (bounded_progression body.cases (change_over_turns body) (count body)) changes (progressions body voc s)
    (λ rows p k fine. bounded-keeps Canonical body.cases (excess p) (progression_row (change_over_turns body) (count body) p) rows (λ most. (progression_row-canonical (change_over_turns body) (count body) p most).as_made) fine)
    (each-any (λ p. Unit {0}) (λ p. tt) (progressions body voc s)) h4)))))
    (λ rows h. h))
