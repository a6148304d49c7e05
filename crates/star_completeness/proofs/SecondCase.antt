-- The second case of star: two states that it links lie within as many turns as its count column
-- tells.
use Rattle.std.proofs.Common.{◌≡◌, ℕ, ◌+◌, ◌<◌, List, [], ◌∷◌, map, Bool, true, false, refl, sym, ap, ◌∙◌, ℤ, pos, negsuc, ◌-ℤ◌}
use Rattle.std.specs.Prelude.{Ok, if◌then◌else◌, ◌==◌, ◌||◌}
use Rattle.std.specs.List.{AllByRecursion, Contains, filter, list_any, range_with_len}
use Rattle.std.specs.Ordering.{match_ordering}
use Rattle.std.specs.declared.cmp.Ordering.{Ordering}
use Rattle.std.specs.declared.cmp.Ordering.TheVariants.{Less, Equal, Greater}
use Rattle.items.proofs.Each.{each-more}
use Rattle.items.specs.Gives as gives
use Rattle.linear_terms.specs.declared.col.Col.{Col}
use Rattle.linear_terms.specs.declared.col.Col.TheVariants.{At, Aux}
use Rattle.linear_terms.specs.declared.row.Case.{Case}
use Rattle.linear_terms.specs.Expressions.{Made, ◌⊟◌, column, or_zero}
use Rattle.linear_terms.specs.Mono.{mono_cmp}
use Rattle.linear_terms.specs.Operations.{with_term, put, put_all}
use Rattle.linear_terms.specs.Polynomial.{Polynomial, column_of}
use Rattle.linear_terms.specs.TermError.{plus}
use Rattle.linear_terms.specs.Value.{value_of}
use Rattle.linear_terms.proofs.Worth.{IsWorth-column, IsWorth-difference, column_of-value}
use Rattle.transition_formula.specs.Meaning.{numbers}
use Rattle.transition_formula.specs.Transition.{Transition}
use Rattle.posing.specs.Posing.{◌>>=◌}
use Rattle.polyhedra.specs.Changes.{poly_at, is_modified, modified_variables}
use Rattle.polyhedra.specs.Vocabulary.{Vocabulary}
use Rattle.polyhedra.proofs.Lists.{same_number, each-filter}
use Rattle.polyhedra.proofs.Places.{poly_at-first, range-first}
use Rattle.polyhedra.proofs.Turns.{post-worth}
use Rattle.recurrence.specs.Products.{products}
use Rattle.recurrence.specs.Strata.{strata}
use Rattle.recurrence.specs.Star.{after_from, after, change_over_turns, posts, moves, rows_of, turns}
use Rattle.star_completeness.specs.Laws.{number_in}
use Rattle.star_completeness.proofs.NormalRows.{Say, HasTurn, HasTurnRow, polynomial_of, turn_change, normal-said, turn-said}
use Rattle.star_completeness.proofs.Quiet.{AlwaysQuiet, quiet-any, quiet-bind, quiet-both, quiet-listed}

-- ---- what the case is

-- its posts are the columns after the turns, it has a turn, and each of the forms has its row
pub record IsSecondCase (body : Transition) (forms : List (List ℤ)) (case : Case) : Type 0 where
  pub ends : case.post ≡ posts body
  pub turn : Say (HasTurn body) case.rows
  pub normals : AllByRecursion (λ form. Say (HasTurnRow body form) case.rows) forms

pub turns-second : (body : Transition) (voc : Vocabulary) (forms : List (List ℤ)) → AllByRecursion (λ form. Contains voc.extra (polynomial_of body form)) forms → AlwaysQuiet (IsSecondCase body forms) (turns body voc)
unfolding turns ◌>>=◌
turns-second body voc forms asked = λ kept.
    quiet-bind (λ s. Unit {0}) (IsSecondCase body forms) (strata body (products body voc)) _ (quiet-any (λ s. Unit {0}) (strata body (products body voc)) (λ s. tt)) (λ s any.
    quiet-bind (λ rows. Say (HasTurn body) rows × AllByRecursion (λ form. Say (HasTurnRow body form) rows) forms) (IsSecondCase body forms) (rows_of body voc s) _
    (quiet-both (Say (HasTurn body)) (λ rows. AllByRecursion (λ form. Say (HasTurnRow body form) rows) forms) (rows_of body voc s) (turn-said body voc s)
    (quiet-listed (λ form rows. Say (HasTurnRow body form) rows) (rows_of body voc s) forms
    (each-more (λ form. Contains voc.extra (polynomial_of body form)) (λ form. AlwaysQuiet (Say (HasTurnRow body form)) (rows_of body voc s)) (λ form h. normal-said body voc s form h) forms asked)))
    (λ rows h. record { ends = refl; turn = h.0; normals = h.1 }))

-- ---- the numbers of the states

-- the difference of two columns, by their order
abbrev by_order : Col → Col → Ordering → Made
by_order c d o =
    gives.◌>>=◌ (gives.◌>>=◌ (match_ordering o (Ok (with_term (d ∷ []) (negsuc 0) ((c ∷ [], pos 1) ∷ []))) (gives.◌>>=◌ (plus (pos 1) (negsuc 0)) (λ n. Ok (with_term (c ∷ []) n [])))
    (gives.◌>>=◌ (put (d ∷ []) (negsuc 0) []) (λ made. Ok ((c ∷ [], pos 1) ∷ made)))) (λ made. put_all made []))
    (λ ts. gives.◌>>=◌ (plus (pos 0) (pos 0)) (λ r. Ok record { terms = ts; rest = r }))

columns-made : (c d : Col) → (p : Polynomial) × (column c ⊟ column d ≡ Ok p)
columns-made c d = go (mono_cmp (d ∷ []) (c ∷ []))
  where
    go : (o : Ordering) → (p : Polynomial) × (by_order c d o ≡ Ok p)
    go Less = (record { terms = (d ∷ [], negsuc 0) ∷ (c ∷ [], pos 1) ∷ []; rest = pos 0 }, refl)
    go Equal = (record { terms = []; rest = pos 0 }, refl)
    go Greater = (record { terms = (c ∷ [], pos 1) ∷ (d ∷ [], negsuc 0) ∷ []; rest = pos 0 }, refl)

-- a variable that is not among those from a number on has its own column
after_from-stays : (n : ℕ) (us : List ℕ) (v : ℕ) → list_any (λ u. u == v) us ≡ false → after_from n us v ≡ At v
after_from-stays n [] v e = refl
after_from-stays n (u ∷ us) v e = go (u == v) refl e (after_from-stays (n + 1) us v)
  where
    go : (b : Bool) → (u == v) ≡ b → (b || list_any (λ w. w == v) us) ≡ false → (list_any (λ w. w == v) us ≡ false → after_from (n + 1) us v ≡ At v) → (if b then Aux n else after_from (n + 1) us v) ≡ At v
    go true same f rest = cc
    go false differs f rest = rest f

-- what does not pass is not among those that pass
failing-unfound : (test : ℕ → Bool) (v : ℕ) → test v ≡ false → (us : List ℕ) → list_any (λ u. u == v) (filter test us) ≡ false
failing-unfound test v e [] = refl
failing-unfound test v e (u ∷ us) = go (test u) refl (failing-unfound test v e us)
  where
    differs : test u ≡ true → (b : Bool) → (u == v) ≡ b → b ≡ false
    differs passes true same = let equal : u ≡ v = same_number u v same in let both : test v ≡ true = ap test (sym equal) ∙ passes in cc
    differs passes false same = refl

    go : (b : Bool) → test u ≡ b → list_any (λ w. w == v) (filter test us) ≡ false → list_any (λ w. w == v) (if b then u ∷ filter test us else filter test us) ≡ false
    go true passes rest = ap (λ b. b || list_any (λ w. w == v) (filter test us)) (differs passes (u == v) refl) ∙ rest
    go false fails rest = rest

module _ (body : Transition) (before last : List ℤ) (aux : ℕ → ℤ) (ends : map (value_of (numbers before aux)) (posts body) ≡ last) where
  -- the column after the turns has the variable's last number
  column-last : (v : ℕ) → v < body.to → numbers before aux (after body v) ≡ number_in last v
  column-last v low =
      sym (column_of-value (numbers before aux) (after body v)) ∙ sym (ap (value_of (numbers before aux)) (poly_at-first (λ k. column_of (after body k)) body.to v low))
      ∙ (post-worth record { aux = 0; rows = []; post = posts body } before last aux (record { rows = tt; posts = ends }) v).as_made (poly_at (posts body) v) refl

  -- the change over the turns is that of the states
  pub move-value : (v : ℕ) → v < body.to → value_of (numbers before aux) (poly_at (moves body) v) ≡ number_in last v -ℤ number_in before v
  move-value v low =
      ap (value_of (numbers before aux)) (poly_at-first (λ k. or_zero (change_over_turns body k)) body.to v low)
      ∙ made_value (columns-made (after body v) (At v))
    where
      made_value : ((p : Polynomial) × (column (after body v) ⊟ column (At v) ≡ Ok p)) → value_of (numbers before aux) (or_zero (change_over_turns body v)) ≡ number_in last v -ℤ number_in before v
      made_value (p, e) =
          ap (λ m. value_of (numbers before aux) (or_zero m)) e
          ∙ (IsWorth-difference (IsWorth-column (numbers before aux) (after body v)) (IsWorth-column (numbers before aux) (At v))).as_made p e
          ∙ ap (λ x. x -ℤ number_in before v) (column-last v low)

  -- a variable that is not modified stays
  pub unmodified-stays : (v : ℕ) → v < body.to → is_modified true body.cases v ≡ false → number_in last v ≡ number_in before v
  unmodified-stays v low e = sym (column-last v low) ∙ ap (numbers before aux) (after_from-stays 0 (modified_variables true body) v (failing-unfound (is_modified true body.cases) v e (range_with_len 0 body.to)))

  pub turn_change-is : turn_change body (numbers before aux) ≡ map (λ v. number_in last v -ℤ number_in before v) (modified_variables true body)
  turn_change-is = over (modified_variables true body) modified_below
    where
      modified_below : AllByRecursion (λ v. v < body.to) (modified_variables true body)
      modified_below = each-filter (λ v. v < body.to) (is_modified true body.cases) (range_with_len 0 body.to) (range-first body.to)

      over : (vs : List ℕ) → AllByRecursion (λ v. v < body.to) vs → map (λ v. value_of (numbers before aux) (poly_at (moves body) v)) vs ≡ map (λ v. number_in last v -ℤ number_in before v) vs
      over [] low = refl
      over (v ∷ vs) low = λ i. move-value v low.0 i ∷ over vs low.1 i
