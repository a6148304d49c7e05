-- The laws of star, whole.
use Rattle.std.proofs.Common.{ℕ, ◌≤◌, List, [], ◌∷◌, true, map, length, refl, subst, arith, ◌≡◌, ◌+◌}
use Rattle.std.specs.Prelude.{IsTrue, Option, None, Some, option_to_list}
use Rattle.std.specs.List.{AllByRecursion, range_with_len}
use Rattle.std.proofs.lemmas.List.Elements.{All-from_recursion}
use Rattle.items.proofs.Each.{each-more}
use Rattle.linear_terms.specs.declared.col.Col.TheVariants.{At}
use Rattle.linear_terms.specs.declared.row.Row.{Row}
use Rattle.linear_terms.specs.declared.row.Case.{Case}
use Rattle.linear_terms.specs.Polynomial.{Polynomial, IsCanonical, column_of}
use Rattle.linear_terms.proofs.Columns.{EachColumn}
use Rattle.transition_formula.specs.Composition.{identity_of, union_of}
use Rattle.transition_formula.specs.Rounds.{in_order, solved_answer, Stays}
use Rattle.transition_formula.specs.Transition.{Transition, IsTransition, IsSolvable, is_below, fits}
use Rattle.transition_formula.proofs.ColumnTests.{both, both_true}
use Rattle.transition_formula.proofs.Fitting.{identity-fits}
use Rattle.posing.specs.Posing.{Always, ◌>>=◌}
use Rattle.posing.proofs.Paths.{always_weaker, always_any, always_bind}
use Rattle.polyhedra.specs.Vocabulary.{Vocabulary, IsDirection, IsDirectionOver}
use Rattle.polyhedra.specs.Directions.{directions}
use Rattle.polyhedra.specs.Finish.{finish_of_case}
use Rattle.polyhedra.proofs.DirectionShapes.{directions-over}
use Rattle.polyhedra.specs.Changes.{modified_variables}
use Rattle.polyhedra.proofs.OwnPosts.{in_order-few}
use Rattle.polyhedra.proofs.FinishLaws.{FinishedLeft, finished-fits}
use Rattle.polyhedra.proofs.Coverage.{modified-few}
use Rattle.recurrence.specs.Products.{products}
use Rattle.recurrence.specs.Strata.{strata}
use Rattle.recurrence.specs.Star.{rows_of, turns, star_by, star_of}
use Rattle.recurrence.specs.Law.{IsStarred, IsStar, StarHolds, StarFits}
use Rattle.recurrence.proofs.ColumnShapes.{RowsAreCanonical, turns-canonical}
use Rattle.recurrence.proofs.NumberedColumns.{IsFit, turns-fit}
use Rattle.recurrence.proofs.StarLaws.{IsReady, always_both, star-holds}

module _ (body : Transition) (voc : Vocabulary) (starred : IsStarred body voc) where
  -- the second case fits and can be put in order
  pub turns-are-fit : Always (IsFit body) (turns body voc)
  turns-are-fit =
      turns-fit body starred.same_ends voc (each-more (IsDirectionOver body.to) (λ (d : Polynomial). EachColumn (λ c. IsTrue (is_below body.to 0 c)) d.terms) (λ d k. k.within) (directions voc)
      (subst (λ n. AllByRecursion (IsDirectionOver n) (directions voc)) starred.same_columns (directions-over voc starred.vocabulary)))

  ready : Always IsReady (turns body voc)
  ready =
      always_weaker (λ case. IsFit body case × RowsAreCanonical case.rows) IsReady (turns body voc)
      (λ case made. record { canonical = All-from_recursion (λ (row : Row). IsCanonical row.poly.terms) case.rows made.1; numbered = made.0.numbered })
      (always_both (IsFit body) (λ case. RowsAreCanonical case.rows) (turns body voc) turns-are-fit
      (turns-canonical body voc (each-more (IsDirectionOver voc.columns) (λ d. IsCanonical d.terms) (λ d k. k.canonical) (directions voc) (directions-over voc starred.vocabulary))))

  -- one auxiliary more than modified variables
  turns-aux : Always (λ (case : Case). case.aux ≡ length (modified_variables true body) + 1) (turns body voc)
  unfolding turns ◌>>=◌
  turns-aux =
      always_bind (λ s. Unit {0}) (λ (case : Case). case.aux ≡ length (modified_variables true body) + 1) (strata body (products body voc)) _ (always_any (λ s. Unit {0}) (strata body (products body voc)) (λ s. tt)) (λ s any.
      always_bind (λ rows. Unit {0}) (λ (case : Case). case.aux ≡ length (modified_variables true body) + 1) (rows_of body voc s) _ (always_any (λ rows. Unit {0}) (rows_of body voc s) (λ rows. tt)) (λ rows all. refl))

  pub record IsPut (case : Case) : Type 0 where
    pub fit : IsFit body case
    pub solvable : IsSolvable case

  -- the second case fits, and can be put in order
  pub turns-put : Always IsPut (turns body voc)
  turns-put =
      always_weaker (λ (case : Case). IsFit body case × (case.aux ≡ length (modified_variables true body) + 1)) IsPut (turns body voc) (λ case made. record { fit = made.0; solvable = solvable case made.0 made.1 })
      (always_both (IsFit body) (λ (case : Case). case.aux ≡ length (modified_variables true body) + 1) (turns body voc) turns-are-fit turns-aux)
    where
      solvable : (case : Case) → IsFit body case → case.aux ≡ length (modified_variables true body) + 1 → IsSolvable case
      solvable case fit few = record {
        numbered = fit.numbered;
        few = let long = fit.posts_are in let short = modified-few true body in let small = starred.few in omega arith;
      }

pub star-holds-of-chains : StarHolds
star-holds-of-chains body voc starred =
    star-holds body voc starred.body_fits starred.same_ends (each-more (IsDirectionOver voc.columns) IsDirection (λ d k. k.straight) (directions voc) (directions-over voc starred.vocabulary))
    (each-more (IsDirectionOver voc.columns) IsDirection (λ d k. k.straight) voc.extra starred.vocabulary.extra) (ready body voc starred)

-- ---- what star fits

abbrev pub SmallLeft : ℕ → Option Case → Type 0
SmallLeft n left = FinishedLeft n n (n + 1) left

pub left-fits : (n : ℕ) (o : Option Case) → SmallLeft n o → IsTransition n n (option_to_list o)
left-fits n None h = refl
left-fits n (Some case) h = both_true (fits n n case) true h.fit refl

pub finished-small : (body : Transition) (case : Case) → IsFit body case → Always (SmallLeft body.to) (finish_of_case case)
finished-small body case is =
    finished-fits body.to body.to (body.to + 1) case is.fits
    (subst (λ m. Stays (λ left. left.aux ≤ m) (solved_answer (in_order case).left)) (next (length case.post) body.to is.posts_are) (in_order-few (length (modified_variables true body) ∷ []) case is.owned))
  where
    next : (m n : ℕ) → m ≡ n → 1 + m ≡ n + 1
    next m n e = omega arith

pub star-fits : StarFits
unfolding star_of
star-fits body voc starred = go body.cases
  where
    same_here : IsTransition body.to body.to (identity_of body.from).cases
    same_here = subst (λ m. IsTransition m m (identity_of body.from).cases) starred.same_ends (identity-fits body.from)

    with_left : (o : Option Case) → SmallLeft body.to o → IsStar body.to (union_of (identity_of body.from) record { from = body.from; to = body.to; cases = option_to_list o })
    with_left None h = record { fits = same_here; two = omega arith; rows = (omega arith, tt); auxiliaries = (omega arith, tt) }
    with_left (Some case) h = record {
      fits = let parts = both (fits body.to body.to record { aux = 0; rows = []; post = map (λ n. column_of (At n)) (range_with_len 0 body.from) }) true same_here in
          both_true (fits body.to body.to record { aux = 0; rows = []; post = map (λ n. column_of (At n)) (range_with_len 0 body.from) }) _ parts.0 (both_true (fits body.to body.to case) true h.fit refl);
      two = omega arith;
      rows = (omega arith, (h.rows, tt));
      auxiliaries = (omega arith, (h.aux, tt));
    }

    go : (cases : List Case) → Always (IsStar body.to) (star_by body voc cases)
    go [] = record { fits = same_here; two = omega arith; rows = (omega arith, tt); auxiliaries = (omega arith, tt) }
    go (case ∷ cases) =
        always_bind (SmallLeft body.to) (IsStar body.to) (turns body voc >>= finish_of_case) _
        (always_bind (IsFit body) (SmallLeft body.to) (turns body voc) finish_of_case (turns-are-fit body voc starred) (λ c k. finished-small body c k)) with_left
