-- On a calm question the basis that is found has small numbers.
use Rattle.std.proofs.Common.{◌≡◌, ℕ, zero, suc, ◌+◌, ◌^◌, ◌<◌, ◌≤◌, List, [], ◌∷◌, length, map, get_or, Result, Ok, Err, refl, sym, ap, subst, ◌∙◌, arith, ⊎_elim, ℤ, pos, ◌<ℤ◌}
use Rattle.std.specs.Prelude.{unsigned_abs, IfOk}
use Rattle.std.specs.List.{AllByRecursion}
use Rattle.std.proofs.lemmas.Bool.{cases_lt}
use Rattle.linear_terms.specs.declared.col.Col.{Col}
use Rattle.linear_terms.specs.Polynomial.{Polynomial}
use Rattle.farkas_check.specs.Calm.{row_frame}
use Rattle.farkas_check.specs.Frames.{IsCalmUpTo}
use Rattle.farkas_check.specs.Ratios.{Fraction}
use Rattle.farkas_check.specs.Relations.{unknown_count, numbers_of as relation_numbers, entry, pivot}
use Rattle.farkas_check.specs.declared.answer.Answer.{Answer}
use Rattle.farkas_check.specs.declared.answer.Answer.TheVariants as answer
use Rattle.farkas_check.specs.declared.stratum.Change.{Change}
use Rattle.farkas_check.specs.declared.stratum.Relation.{Relation}
use Rattle.farkas_check.specs.declared.stratum.Spot.{Spot}
use Rattle.simplex.specs.Calm.{IsSmallLine, HasSmallLines}
use Rattle.simplex.specs.CalmStrata.{IsCalmAsked}
use Rattle.simplex.specs.Exchange.{numbers_of, choices_of}
use Rattle.simplex.specs.Points.{IsSpotAt}
use Rattle.simplex.specs.SmallBasis.{AreAtMost, IsSmallRelation, IsSmallSpot, IsSmallUnitList, IsSmallIn, IsSmallOver}
use Rattle.simplex.specs.Spots.{AreSpotLines, IsSpotTableau, AreRelations, AreUnitLists, chosen_below, spots_framed, frame_of_lines}
use Rattle.simplex.specs.Strata.{IsAsked, IsTiedRelation, AreKnown}
use Rattle.simplex.specs.declared.differences.StrataQuestion.{StrataQuestion}
use Rattle.simplex.specs.declared.spots.Spots.{Spots}
use Rattle.simplex.specs.declared.stop.SearchStop.{SearchStop}
use Rattle.simplex.specs.declared.strata.KnownRelations.{KnownRelations}
use Rattle.simplex.proofs.CalmSearches.{known_calm, known_scales, relation_calm}
use Rattle.simplex.proofs.CalmSpots.{small_spots}
use Rattle.simplex.proofs.Cases.{at_place}
use Rattle.simplex.proofs.Courses.{few_spots, lines_long}
use Rattle.simplex.proofs.SmallPoints.{IsSmallPoint, point_small}
use Rattle.simplex.proofs.SpotFrames.{framed-number, spots_framed-is}

-- ---- spots

spot_small : (s : StrataQuestion) (spot : Spot) → IsCalmAsked s → IsSpotAt s.columns.now s.cases.now spot → IsSmallSpot spot
spot_small s spot calm at = of_point (point_small s.columns.now at.case.rows spot.at (at_place (λ (c : Change). IsCalmUpTo 1048576 (row_frame s.columns.now c.rows)) s.cases.now spot.case at.case calm.calm.rows at.is) at.point)
  where
    of_point : IsSmallPoint s.columns.now 1099511627776 spot.at → IsSmallSpot spot
    of_point p = record {
      over = p.over;
      numerators = p.number;
      above = p.positive;
      over_small = p.over_small;
      small = λ j h. p.small j (inside j h);
      are = λ j h. record { same = (p.ratio j (inside j h)).stands.same; lowest = (p.ratio j (inside j h)).lowest };
    }
      where
        inside : (j : ℕ) → j < length spot.at → j < length s.columns.now
        inside j h = subst (λ (n : ℕ). j < n) p.each h

spots_small : (s : StrataQuestion) (spots : List Spot) → IsCalmAsked s → AllByRecursion (IsSpotAt s.columns.now s.cases.now) spots → AllByRecursion IsSmallSpot spots
spots_small s [] calm at = tt
spots_small s (spot ∷ spots) calm at = (spot_small s spot calm at.0, spots_small s spots calm at.1)

-- ---- lines of spots

entry_past : (line : List ℤ) (j : ℕ) → length line ≤ j → entry line j ≡ pos 0
entry_past [] j h = refl
entry_past (z ∷ line) zero h = absurd (omega (arith, h))
entry_past (z ∷ line) (suc j) h = entry_past line j (omega (arith, h))

long_at : (count : ℕ) (lines : List (List ℤ)) (l : ℕ) → AllByRecursion (λ (line : List ℤ). length line ≡ count) lines → l < length lines → length (get_or lines l []) ≡ count
long_at count [] l a h = absurd (omega (arith, h))
long_at count (line ∷ lines) zero a h = a.0
long_at count (line ∷ lines) (suc l) a h = long_at count lines l a.1 (omega (arith, h))

small_each : (lines : List (List ℤ)) → ((l : ℕ) → l < length lines → IsSmallLine 1048576 (get_or lines l [])) → AllByRecursion (IsSmallLine 1048576) lines
small_each [] f = tt
small_each (line ∷ lines) f = (f 0 (omega arith), small_each lines (λ l h. f (suc l) (omega (arith, h))))

lines_small : (count : ℕ) (lines : List (List ℤ)) → IsCalmUpTo 1048576 (frame_of_lines count lines) → AllByRecursion (λ (line : List ℤ). length line ≡ count) lines → AllByRecursion (IsSmallLine 1048576) lines
lines_small count lines calm long = small_each lines (λ l h j. ⊎_elim (λ (g : j < count). before l h j g) (λ (g : count ≤ j). past l h j g) (cases_lt j count))
  where
    own : IsSpotTableau count lines (spots_framed count lines)
    own = spots_framed-is count lines (spots_framed count lines) refl

    before : (l : ℕ) → l < length lines → (j : ℕ) → j < count → unsigned_abs (entry (get_or lines l []) j) ≤ 1048576
    before l h j g = subst (λ (z : ℤ). unsigned_abs z ≤ 1048576) (framed-number count lines l j h g) (small_spots 1048576 count lines calm (spots_framed count lines) own.many own.tableau own.primitive l j)

    past : (l : ℕ) → l < length lines → (j : ℕ) → count ≤ j → unsigned_abs (entry (get_or lines l []) j) ≤ 1048576
    past l h j g = subst (λ (z : ℤ). unsigned_abs z ≤ 1048576) (sym (entry_past (get_or lines l []) j (subst (λ (n : ℕ). n ≤ j) (sym (long_at count lines l long h)) g))) (omega arith)

same_many : (cs : List (List Col)) (cases : List Change) (lower : List Polynomial) (spots : List Spot) (lines : List (List ℤ)) (scales : List ℤ) → AreSpotLines cs cases lower spots lines scales → length spots ≡ length lines
same_many cs cases lower [] lines scales a = sym (ap length a.0)
same_many cs cases lower (spot ∷ spots) [] scales a = absurd a
same_many cs cases lower (spot ∷ spots) (line ∷ lines) [] a = absurd a
same_many cs cases lower (spot ∷ spots) (line ∷ lines) (scale ∷ scales) a = let e : length spots ≡ length lines = same_many cs cases lower spots lines scales a.1 in omega (arith, e)

-- ---- multiples of spots

lists_small : (count : ℕ) (known : Spots) (us : List ℕ) (lists : List (List Fraction)) → HasSmallLines 1048576 known.tableau → ((i : ℕ) → i < length known.tableau.lines → pos 0 <ℤ numbers_of known.tableau i (choices_of known.tableau i)) → AreUnitLists count known us lists → AllByRecursion (IsSmallUnitList count known.scales) lists
lists_small count known [] lists small own a = subst (AllByRecursion (IsSmallUnitList count known.scales)) (sym a) tt
lists_small count known (u ∷ us) [] small own a = absurd a
lists_small count known (u ∷ us) (by ∷ lists) small own a = (
  record {
    line = get_or known.tableau.lines a.0.line [];
    own = numbers_of known.tableau a.0.line u;
    above = subst (λ (n : ℕ). pos 0 <ℤ numbers_of known.tableau a.0.line n) a.0.chooses (own a.0.line a.0.here);
    own_small = small a.0.line u;
    line_small = λ j. small a.0.line j;
    is = a.0.is;
  },
  lists_small count known us lists small own a.1,
)

-- ---- relations

numbers_small : (relations : List Relation) → ((i : ℕ) → i < length (map relation_numbers relations) → AreAtMost 1048576 (get_or (map relation_numbers relations) i [])) → AllByRecursion (λ (r : Relation). AreAtMost 1048576 (relation_numbers r)) relations
numbers_small [] f = tt
numbers_small (r ∷ relations) f = (f 0 (omega arith), numbers_small relations (λ i h. f (suc i) (omega (arith, h))))

both_small : (s : StrataQuestion) (relations : List Relation) → IsCalmAsked s → AllByRecursion (λ (r : Relation). AreAtMost 1048576 (relation_numbers r)) relations → AllByRecursion (IsTiedRelation s) relations → AllByRecursion IsSmallRelation relations
both_small s [] calm n t = tt
both_small s (r ∷ relations) calm n t = (record { numbers = n.0; ties = t.0.small.small calm }, both_small s relations calm n.1 t.1)

-- ---- the basis

pub basis_small : (s : StrataQuestion) (known : KnownRelations) (relations : List Relation) (spots : List Spot) (free : List (List Fraction)) → IsAsked s → s.count ≡ s.terms + length s.lower.now + 1 → s.count < 2 ^ 61 → AreKnown s known → AreRelations s.count known.spots.tableau s.count (map relation_numbers known.relations)
    → AreUnitLists s.count known.spots (chosen_below known.spots.tableau s.count) free → relations ≡ known.relations → spots ≡ known.spots.spots → IsSmallIn s (answer.Basis relations spots free)
basis_small s known relations spots free is count few k every lists all points = record {
  small = λ calm. record {
    few_columns = is.few_columns;
    few_unknowns = subst (λ (n : ℕ). n < 2 ^ 61) many few;
    few_spots = subst (λ (xs : List Spot). length xs ≤ unknown_count s.cases.now s.lower.now) (sym points) (subst (λ (n : ℕ). length known.spots.spots ≤ n) many few_enough);
    relations_small = subst (AllByRecursion IsSmallRelation) (sym all) (both_small s known.relations calm (numbers_small known.relations (relation_at calm)) k.relations);
    spots_small = subst (AllByRecursion IsSmallSpot) (sym points) (spots_small s known.spots.spots calm k.points);
    lines = known.spots.lines;
    scales = known.spots.scales;
    are_lines = subst (λ (xs : List Spot). AreSpotLines s.columns.now s.cases.now s.lower.now xs known.spots.lines known.spots.scales) (sym points) k.lines;
    lines_small = lines_small s.count known.spots.lines (known_calm s known is count k calm) (lines_long s known.spots.spots known.spots.lines known.spots.scales is count k.points k.lines);
    scales_small = (known_scales s known is count k).small (known_calm s known is count k calm);
    free_small = subst (λ (n : ℕ). AllByRecursion (IsSmallUnitList n known.spots.scales) free) many
        (lists_small s.count known.spots (chosen_below known.spots.tableau s.count) free (tableau_small calm) (λ i h. k.spots.tableau.tableau.is.own i h) lists);
  };
}
  where
    many : s.count ≡ unknown_count s.cases.now s.lower.now
    many = count ∙ ap (λ (n : ℕ). n + length s.lower.now + 1) is.terms

    few_enough : length known.spots.spots ≤ s.count
    few_enough = subst (λ (n : ℕ). n ≤ s.count) (sym (same_many s.columns.now s.cases.now s.lower.now known.spots.spots known.spots.lines known.spots.scales k.lines)) (few_spots s.count known.spots k.spots)

    tableau_small : IsCalmAsked s → HasSmallLines 1048576 known.spots.tableau
    tableau_small calm = small_spots 1048576 s.count known.spots.lines (known_calm s known is count k calm) known.spots.tableau k.spots.tableau.many k.spots.tableau.tableau k.spots.tableau.primitive

    relation_at : IsCalmAsked s → (i : ℕ) → i < length (map relation_numbers known.relations) → AreAtMost 1048576 (get_or (map relation_numbers known.relations) i [])
    relation_at calm i h =
        (relation_calm s known (pivot (get_or (map relation_numbers known.relations) i [])) (get_or (map relation_numbers known.relations) i []) is count k (every.within i h) (record { none = λ line g. every.free i line h g }) (every.each i h)).small calm

-- ---- the question

pub small_over : (s : StrataQuestion) (a : Answer) → IsSmallIn s a → IsSmallOver s.columns.now s.cases.now s.lower.now a
small_over s a h = record { small = λ few calm. h.small (record { few_cases = few; calm = calm }) }

pub over_result : (s : StrataQuestion) (r : Result Answer SearchStop) → IfOk r (IsSmallIn s) → IfOk r (IsSmallOver s.columns.now s.cases.now s.lower.now)
over_result s (Ok a) h = small_over s a h
over_result s (Err stop) h = tt
