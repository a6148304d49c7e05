-- A supremum over the rows' own columns: what the steps of its search hand on.
use Rattle.std.proofs.Common.{◌≡◌, ◌≢◌, ℕ, zero, suc, ◌+◌, ◌<◌, Bool, true, false, cond, List, [], ◌∷◌, length, get_or, Result, Ok, Err, refl, sym, ap, subst, ◌∙◌, arith, ℤ, pos, ◌*ℤ◌, ◌<ℤ◌}
use Rattle.std.specs.Prelude.{int_lt, IfOk, IfErr, IfSome, Option, None, Some}
use Rattle.std.specs.Map.{keys_of}
use Rattle.std.specs.Ordering.{eq_by_cmp, is_eq}
use Rattle.std.specs.declared.cmp.Ordering.TheVariants.{Less}
use Rattle.std.proofs.lemmas.Int.{ints}
use Rattle.linear_terms.specs.declared.col.Col.{Col}
use Rattle.linear_terms.specs.declared.row.Row.{Row}
use Rattle.linear_terms.specs.Mono.{mono_cmp}
use Rattle.linear_terms.specs.Polynomial.{Terms, Polynomial, coefficient_in, IsCanonical}
use Rattle.linear_terms.proofs.Canonical.{Before, first_before, first_some, IsCanonical-tail}
use Rattle.farkas_check.specs.Columns.{columns}
use Rattle.farkas_check.specs.Ratios.{Fraction}
use Rattle.farkas_check.specs.declared.stratum.Change.{Change}
use Rattle.farkas_check.proofs.Spreads.{itself, same_mono, is_among, is_among-right, AreAmong}
use Rattle.simplex.specs.Endings.{IsMetFor, StandsAt, FoundFor}
use Rattle.simplex.specs.Differences.{IsDifferenceOf}
use Rattle.simplex.specs.Raise.{sign_of}
use Rattle.simplex.specs.Refusal.{IsRefusalIn}
use Rattle.simplex.specs.Search.{IsMet, IsCornerOf}
use Rattle.simplex.specs.Strata.{IsAsked, IsCaseOf}
use Rattle.simplex.specs.Suprema.{FramedKinds, frame_over, own_frame, case_over, IsSupremumOver}
use Rattle.simplex.specs.Wider.{widened_numbers, unit_ray, widened_supremum, IsBesides, AreColumnsOf}
use Rattle.simplex.specs.declared.differences.StrataQuestion.{StrataQuestion}
use Rattle.simplex.specs.declared.gauss.Stage.{Stage}
use Rattle.simplex.specs.declared.search.SearchEnd.TheVariants as found
use Rattle.simplex.specs.declared.stop.SearchStop.{SearchStop}
use Rattle.simplex.specs.declared.supremum.Supremum.{Supremum}
use Rattle.simplex.specs.declared.supremum.Supremum.TheVariants as supremum
use Rattle.simplex.specs.declared.tableau.Tableau.{Tableau}
use Rattle.simplex.proofs.Apart.{difference-among}
use Rattle.simplex.proofs.Further.{case_given}
use Rattle.simplex.proofs.WiderCases.{HasCorner}
use Rattle.simplex.proofs.WiderColumns.{columns_of_case, empty_over, pivots_over, found_over, opened_over}

-- a stop of the search over the rows' own columns
pub refused_own : {X : Type 0} (rows : List Row) (p : Polynomial) (own : List (List Col)) (r : Result X SearchStop) → own ≡ columns rows [] → IfErr r (IsRefusalIn (frame_over own rows p) (length rows + 1)) → IfErr r (IsRefusalIn (own_frame rows p) (length rows + 1))
refused_own rows p own r is h = subst (λ (ds : List (List Col)). IfErr r (IsRefusalIn (frame_over ds rows p) (length rows + 1))) is h

-- ---- a monomial that no row has

before-at : (m : List Col) (ts : Terms) (i : ℕ) (t : List Col × ℤ) → Before m ts → i < length ts → t ≡ get_or ts i t → mono_cmp m t.0 ≡ Less
before-at m [] i t b h e = absurd (omega (arith, h))
before-at m (x ∷ ts) zero t b h e = ap (λ (y : List Col × ℤ). mono_cmp m y.0) e ∙ b.0
before-at m (x ∷ ts) (suc i) t b h e = before-at m ts i t b.1 (omega (arith, h)) e

-- what a term says of its monomial
record IsTermOf (ts : Terms) (t : List Col × ℤ) : Type 0 where
  coefficient : coefficient_in ts t.0 ≡ t.1
  some : t.1 ≢ pos 0
  here : is_among t.0 (keys_of ts) ≡ true

term-at : (ts : Terms) (i : ℕ) (t : List Col × ℤ) → IsCanonical ts → i < length ts → t ≡ get_or ts i t → IsTermOf ts t
term-at [] i t k h e = absurd (omega (arith, h))
term-at (x ∷ ts) zero t k h e = subst (λ (y : List Col × ℤ). IsTermOf (x ∷ ts) y) (sym e) (record {
  coefficient = ap (λ (b : Bool). cond b x.1 (coefficient_in ts x.0)) (itself x.0);
  some = first_some x ts k;
  here = ap (λ (b : Bool). cond b true (is_among x.0 (keys_of ts))) (itself x.0);
})
term-at (x ∷ ts) (suc i) t k h e = later (term-at ts i t (IsCanonical-tail x ts k) (omega (arith, h)) e)
  where
    later : IsTermOf ts t → IsTermOf (x ∷ ts) t
    later r = record {
      coefficient = ap (λ (b : Bool). cond b x.1 (coefficient_in ts t.0)) (ap is_eq (before-at x.0 ts i t (first_before x ts k) (omega (arith, h)) e)) ∙ r.coefficient;
      some = r.some;
      here = is_among-right t.0 (x.0 ∷ []) (keys_of ts) r.here;
    }

sign-grows : (z : ℤ) → z ≢ pos 0 → pos 0 <ℤ (sign_of (int_lt (pos 0) z) *ℤ z)
sign-grows z some = go (int_lt (pos 0) z) refl
  where
    go : (b : Bool) → int_lt (pos 0) z ≡ b → pos 0 <ℤ (sign_of b *ℤ z)
    go true e = omega (arith, ints)
    go false e = let f : z ≡ pos 0 → ⊥ = some in omega (arith, ints)

pub besides_at : (own : List (List Col)) (ts : Terms) (i : ℕ) (t : List Col × ℤ) → IsCanonical ts → i < length ts → t ≡ get_or ts i t → is_among t.0 own ≡ false → IsBesides own ts t.0 (int_lt (pos 0) t.1)
besides_at own ts i t k h e apart =
    let r = term-at ts i t k h e in
    record { apart = apart; here = r.here; grows = subst (λ (z : ℤ). pos 0 <ℤ (sign_of (int_lt (pos 0) t.1) *ℤ z)) (sym r.coefficient) (sign-grows t.1 r.some) }

-- ---- columns

pub case_columns : (cs : List (List Col)) (rows : List Row) (p : Polynomial) → cs ≡ columns rows p.terms → AreColumnsOf cs rows p
case_columns cs rows p e = subst (λ (ds : List (List Col)). AreColumnsOf ds rows p) (sym e) (columns_of_case rows p)

among-in : (m : List Col) (ms cs : List (List Col)) → AreAmong ms cs → is_among m ms ≡ true → is_among m cs ≡ true
among-in m [] cs a h = cc
among-in m (x ∷ ms) cs a h = go (eq_by_cmp mono_cmp m x) refl h (λ k. among-in m ms cs a.1 k)
  where
    go : (b : Bool) → eq_by_cmp mono_cmp m x ≡ b → cond b true (is_among m ms) ≡ true → (is_among m ms ≡ true → is_among m cs ≡ true) → is_among m cs ≡ true
    go true e k ih = subst (λ (y : List Col). is_among y cs ≡ true) (sym (same_mono m x e)) a.0
    go false e k ih = ih k

module _ (rows : List Row) (p : Polynomial) (cs own : List (List Col)) (a : AreColumnsOf cs rows p) (is : own ≡ columns rows []) where
  pub refuted_over : (budget line : ℕ) (enters : List Bool) (t : Tableau) → FoundFor own rows p budget enters t (found.Refuted line) → IsSupremumOver cs rows p budget supremum.Empty
  refuted_over budget line enters t h = empty_over rows p budget cs a (subst (λ (ds : List (List Col)). IsSupremumOver ds rows p budget supremum.Empty) is (t, (line, h)))

  pub spent_over : (budget : ℕ) (enters : List Bool) (t : Tableau) → FoundFor own rows p budget enters t found.Pivots → IsSupremumOver cs rows p budget supremum.Pivots
  spent_over budget enters t h = pivots_over rows p budget cs a (subst (λ (ds : List (List Col)). IsSupremumOver ds rows p budget supremum.Pivots) is h)

  pub topped_wide : (budget : ℕ) (r : Supremum) → AreAmong (keys_of p.terms) own → IsSupremumOver own rows p budget r → IsSupremumOver cs rows p budget (widened_supremum own cs r)
  topped_wide budget r b h =
      subst (λ (ds : List (List Col)). IsSupremumOver cs rows p budget (widened_supremum ds cs r)) (sym is)
      (found_over rows p budget cs r a (subst (λ (ds : List (List Col)). AreAmong (keys_of p.terms) ds) is b) (subst (λ (ds : List (List Col)). IsSupremumOver ds rows p budget r) is h))

  pub opened_wide : (budget : ℕ) (mono : List Col) (up : Bool) (enters : List Bool) (t : Tableau) (point : List Fraction) → IsBesides own p.terms mono up → IsMetFor own rows p enters t → IsCornerOf t (length own) (length own) point
      → IsSupremumOver cs rows p budget (supremum.Unbounded (widened_numbers own cs point) (unit_ray mono up cs))
  opened_wide budget mono up enters t point b met corner =
      subst (λ (ds : List (List Col)). IsSupremumOver cs rows p budget (supremum.Unbounded (widened_numbers ds cs point) (unit_ray mono up cs))) (sym is)
      (opened_over rows p budget mono up b.grows cs point a (among-in mono (keys_of p.terms) cs a.objective b.here) (subst (λ (ds : List (List Col)). is_among mono ds ≡ false) is b.apart)
      (subst (λ (ds : List (List Col)). HasCorner ds rows p point) is (record { enters = enters; tableau = t; met = met; corner = corner })))

-- ---- what is left

left_stands : (case : FramedKinds) (cs : List (List Col)) (rows : List Row) (p : Polynomial) (left : Option Stage) → case ≡ case_over cs rows p
    → IfSome left (λ s. IsMet case.over (length cs) case.kinds s.enters s.tableau) → IfSome left (λ s. StandsAt cs rows s.enters s.tableau)
left_stands case cs rows p None e h = tt
left_stands case cs rows p (Some s) e h = record { objective = p; met = subst (λ (k : FramedKinds). IsMet k.over (length cs) k.kinds s.enters s.tableau) e h }

pub left_ends : {E : Type 0} (case : FramedKinds) (cs : List (List Col)) (rows : List Row) (p : Polynomial) (r : Result (Supremum × Option Stage) E) → case ≡ case_over cs rows p
    → IfOk r (λ x. IfSome x.1 (λ s. IsMet case.over (length cs) case.kinds s.enters s.tableau)) → IfOk r (λ x. IfSome x.1 (λ s. StandsAt cs rows s.enters s.tableau))
left_ends case cs rows p (Ok x) e h = left_stands case cs rows p x.1 e h
left_ends case cs rows p (Err w) e h = tt

-- ---- the difference of a relation

pub difference_columns : (s : StrataQuestion) (case : Change) (numbers : List ℤ) (up : Bool) (p : Polynomial) → IsAsked s → IsCaseOf s case → IsDifferenceOf case.terms s.lower.now numbers up p → AreColumnsOf s.columns.now case.rows p
difference_columns s case numbers up p is of d =
    let given = case_given s case is of in
    record { ordered = given.ordered; own = given.among; objective = difference-among s.columns.now case.terms s.lower.now numbers up p given.over d }
