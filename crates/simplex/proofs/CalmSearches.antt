-- What a search for relations knows on a calm question: the frame of its spots' lines is calm, and
-- the relations that are read off are small and have differences whose frames are calm.
use Rattle.std.proofs.Common.{◌≡◌, ℕ, suc, ◌+◌, ◌<◌, ◌≤◌, List, [], ◌∷◌, ◌++◌, map, length, get_or, refl, sym, ap, subst, ◌∙◌, arith, ℤ, negsuc, ◌*ℤ◌, ◌^◌}
use Rattle.std.specs.Prelude.{unsigned_abs}
use Rattle.std.specs.List.{AllByRecursion}
use Rattle.std.proofs.lemmas.Int.{ints}
use Rattle.linear_terms.specs.declared.col.Col.{Col}
use Rattle.linear_terms.specs.Polynomial.{Polynomial}
use Rattle.farkas_check.specs.Calm.{SpotPoint, IsSpotOf, spot_line, spot_frame}
use Rattle.farkas_check.specs.Calm.{IsRelationOf as IsFrameRelation}
use Rattle.farkas_check.specs.Frames.{Frame, IsCalmUpTo}
use Rattle.farkas_check.specs.Points.{ratio_at}
use Rattle.farkas_check.specs.Ratios.{Fraction}
use Rattle.farkas_check.specs.Relations.{entry, unknown_count}
use Rattle.farkas_check.specs.Stratum.{terms_of}
use Rattle.farkas_check.specs.declared.stratum.Spot.{Spot}
use Rattle.simplex.specs.CalmStrata.{HasSmallScales, IsCalmAsked, IsCalmRelation, HasSpotLine, IsCalmSpot}
use Rattle.simplex.specs.Points.{IsSpotAt, IsPointAt}
use Rattle.simplex.specs.Spots.{AreSpotLines, frame_of_lines, IsSpotTableau, IsRelationOf, IsUnchosen, spots_framed}
use Rattle.simplex.specs.Strata.{IsAsked, AreKnown}
use Rattle.simplex.specs.declared.differences.StrataQuestion.{StrataQuestion}
use Rattle.simplex.specs.declared.strata.KnownRelations.{KnownRelations}
use Rattle.simplex.proofs.CalmPoints.{IsFramedPoint, point_framed}
use Rattle.simplex.proofs.CalmRelations.{relation_framed, relation_small}
use Rattle.simplex.proofs.CalmSpots.{small_spots}
use Rattle.simplex.proofs.CalmSteps.{spot_line_made}
use Rattle.simplex.proofs.Courses.{all_more, lines_more, terms_found, few_spots, fewer_spots, lines_long}
use Rattle.simplex.proofs.RowTableaux.{long}
use Rattle.simplex.proofs.Further.{IsGiven, case_given}
use Rattle.simplex.proofs.SpotFrames.{framed-number, spots_framed-is}
use Rattle.simplex.proofs.SpotLines.{line_framed, HasLastNumber, last_of}
use Rattle.simplex.proofs.SpotPoints.{spot_positive}
use Rattle.simplex.proofs.Units.{IsPositiveAt, sides-lowest}

-- the spots' points in the words of calm questions
record AreFramed (s : StrataQuestion) (spots : List Spot) (lines : List (List ℤ)) : Type 0 where
  pub points : List SpotPoint
  pub many : length points ≡ length lines
  pub are : AllByRecursion (IsSpotOf s.columns.now s.cases.now) points
  pub lines_are : lines ≡ map (spot_line s.columns.now s.cases.now s.lower.now) points

abbrev AreSpotsAt : StrataQuestion → List Spot → Type 0
AreSpotsAt s spots = AllByRecursion (IsSpotAt s.columns.now s.cases.now) spots

given_at : (s : StrataQuestion) (spot : Spot) → IsAsked s → (at : IsSpotAt s.columns.now s.cases.now spot) → IsGiven s.columns.now at.case.rows (terms_of s.cases.now spot.case) s.lower.now
given_at s spot is at = subst (λ (ts : List Polynomial). IsGiven s.columns.now at.case.rows ts s.lower.now) (sym (terms_found s.cases.now spot.case at.case at.is)) (case_given s at.case is (record { place = spot.case; is = at.is }))

framed : (s : StrataQuestion) (spots : List Spot) (lines : List (List ℤ)) (scales : List ℤ) → IsAsked s → AreSpotsAt s spots → AreSpotLines s.columns.now s.cases.now s.lower.now spots lines scales → AreFramed s spots lines
framed s [] lines scales is at a = record { points = []; many = sym (ap length a.0); are = tt; lines_are = a.0 }
framed s (spot ∷ spots) [] scales is at a = absurd a
framed s (spot ∷ spots) (line ∷ lines) [] is at a = absurd a
framed s (spot ∷ spots) (line ∷ lines) (scale ∷ scales) is at a = joined (point_framed s.columns.now at.0.case.rows spot.at at.0.point) (framed s spots lines scales is at.1 a.1)
  where
    joined : IsFramedPoint s.columns.now at.0.case.rows spot.at → AreFramed s spots lines → AreFramed s (spot ∷ spots) (line ∷ lines)
    joined f rest = record {
      points = record { case = spot.case; over = f.over; numbers = f.numbers } ∷ rest.points;
      many = ap (λ (n : ℕ). suc n) rest.many;
      are = (record { case = at.0.case; there = at.0.is; is = f.is }, rest.are);
      lines_are = ap (λ (l : List ℤ). l ∷ lines) (line_framed s.columns.now s.cases.now s.lower.now spot f.numbers f.over line scale f.positive (given_at s spot is at.0).ordered (given_at s spot is at.0).over f.each f.stands a.0)
          ∙ ap (λ (ls : List (List ℤ)). spot_line s.columns.now s.cases.now s.lower.now (record { case = spot.case; over = f.over; numbers = f.numbers }) ∷ ls) rest.lines_are;
    }

frame_is : (s : StrataQuestion) (spots : List Spot) (lines : List (List ℤ)) → IsAsked s → s.count ≡ s.terms + length s.lower.now + 1 → (f : AreFramed s spots lines) → spot_frame s.columns.now s.cases.now s.lower.now f.points ≡ frame_of_lines s.count lines
frame_is s spots lines is count f =
    ap (λ (ls : List (List ℤ)). frame ls (unknown_count s.cases.now s.lower.now)) (sym f.lines_are)
    ∙ ap (λ (n : ℕ). frame lines n) (ap (λ (n : ℕ). n + length s.lower.now + 1) (sym is.terms) ∙ sym count)
  where
    frame : List (List ℤ) → ℕ → Frame
    frame ls n = record { lines = ls; units = n }

few_points : (s : StrataQuestion) (spots : List Spot) (lines : List (List ℤ)) → IsAsked s → s.count ≡ s.terms + length s.lower.now + 1 → length lines ≤ s.count → (f : AreFramed s spots lines) → length f.points ≤ unknown_count s.cases.now s.lower.now
few_points s spots lines is count few f = subst (λ (n : ℕ). length f.points ≤ n) (count ∙ ap (λ (n : ℕ). n + length s.lower.now + 1) is.terms) (let e : length f.points ≡ length lines = f.many in omega (arith, e, few))

-- the frame of the lines of spots
pub lines_calm : (s : StrataQuestion) (spots : List Spot) (lines : List (List ℤ)) (scales : List ℤ) → IsAsked s → s.count ≡ s.terms + length s.lower.now + 1 → AllByRecursion (IsSpotAt s.columns.now s.cases.now) spots → AreSpotLines s.columns.now s.cases.now s.lower.now spots lines scales → length lines ≤ s.count → IsCalmAsked s → IsCalmUpTo 1048576 (frame_of_lines s.count lines)
lines_calm s spots lines scales is count at a few calm =
    subst (IsCalmUpTo 1048576) (frame_is s spots lines is count f) (calm.calm.spots f.points (few_points s spots lines is count few f) f.are)
  where
    f : AreFramed s spots lines
    f = framed s spots lines scales is at a

pub known_calm : (s : StrataQuestion) (known : KnownRelations) → IsAsked s → s.count ≡ s.terms + length s.lower.now + 1 → AreKnown s known → IsCalmAsked s → IsCalmUpTo 1048576 (frame_of_lines s.count known.spots.lines)
known_calm s known is count k calm = lines_calm s known.spots.spots known.spots.lines known.spots.scales is count k.points k.lines (few_spots s.count known.spots k.spots) calm

-- a relation that is read off
pub relation_calm : (s : StrataQuestion) (known : KnownRelations) (u : ℕ) (numbers : List ℤ) → IsAsked s → s.count ≡ s.terms + length s.lower.now + 1 → AreKnown s known → u < s.count → IsUnchosen known.spots.tableau u → IsRelationOf s.count known.spots.tableau u numbers → IsCalmRelation s numbers
relation_calm s known u numbers is count k here free r = record {
  small = λ calm. relation_small s.count known.spots.lines known.spots.tableau u numbers k.spots.tableau k.spots.chosen here free r (known_calm s known is count k calm);
  frames = λ calm. calm.calm.relations f.points numbers (few_points s known.spots.spots known.spots.lines is count (few_spots s.count known.spots k.spots) f) f.are
      (subst (λ (g : Frame). IsFrameRelation g numbers) (sym (frame_is s known.spots.spots known.spots.lines is count f)) (relation_framed s.count known.spots.lines known.spots.tableau u numbers k.spots.tableau k.spots.chosen here free r));
}
  where
    f : AreFramed s known.spots.spots known.spots.lines
    f = framed s known.spots.spots known.spots.lines known.spots.scales is k.points k.lines

-- ---- a new spot

pub new_spot_calm : (s : StrataQuestion) (known : KnownRelations) (u place : ℕ) (at : List Fraction) → IsAsked s → s.count ≡ s.terms + length s.lower.now + 1 → length s.columns.now < 2 ^ 64 → AreKnown s known → u < s.count → IsUnchosen known.spots.tableau u → IsPointAt s.columns.now s.cases.now place at → IsCalmSpot s (terms_of s.cases.now place) at known.spots.lines
new_spot_calm s known u place at is count few k here free point = record {
  made = λ calm. subst (λ (ts : List Polynomial). HasSpotLine s.columns.now at ts s.lower.now) (sym (terms_found s.cases.now place point.case point.is)) (spot_line_made s point.case at is (record { place = place; is = point.is }) few point.point calm);
  frame = λ calm line scale own. lines_calm s (known.spots.spots ++ spot ∷ []) (known.spots.lines ++ line ∷ []) (known.spots.scales ++ scale ∷ []) is count
      (all_more (IsSpotAt s.columns.now s.cases.now) known.spots.spots spot k.points (record { case = point.case; is = point.is; point = point.point }))
      (lines_more s.columns.now s.cases.now s.lower.now known.spots.spots known.spots.lines known.spots.scales spot line scale k.lines own)
      (let e : length (known.spots.lines ++ line ∷ []) ≡ length known.spots.lines + 1 = long known.spots.lines (line ∷ []) in let g : length known.spots.lines < s.count = fewer_spots s.count known.spots u k.spots here free in omega (arith, e, g)) calm;
}
  where
    spot : Spot
    spot = record { case = place; at = at }

-- ---- scales

-- each of the first numbers is small
abbrev IsSmallTo : ℕ → List ℤ → Type 0
IsSmallTo count line = (j : ℕ) → j < count → unsigned_abs (entry line j) ≤ 1048576

small_lines : (count : ℕ) (lines : List (List ℤ)) → ((l : ℕ) → l < length lines → IsSmallTo count (get_or lines l [])) → AllByRecursion (IsSmallTo count) lines
small_lines count [] f = tt
small_lines count (line ∷ lines) f = (f 0 (omega arith), small_lines count lines (λ l h. f (suc l) (omega (arith, h))))

own_lines : (count : ℕ) (lines : List (List ℤ)) → IsCalmUpTo 1048576 (frame_of_lines count lines) → AllByRecursion (IsSmallTo count) lines
own_lines count lines calm = small_lines count lines (λ l h j g. subst (λ z. unsigned_abs z ≤ 1048576) (framed-number count lines l j h g) (small_spots 1048576 count lines calm (spots_framed count lines) own.many own.tableau own.primitive l j))
  where
    own : IsSpotTableau count lines (spots_framed count lines)
    own = spots_framed-is count lines (spots_framed count lines) refl

scales_small : (s : StrataQuestion) (spots : List Spot) (lines : List (List ℤ)) (scales : List ℤ) → IsAsked s → AreSpotsAt s spots → AreSpotLines s.columns.now s.cases.now s.lower.now spots lines scales → AllByRecursion (λ (line : List ℤ). length line ≡ s.count) lines → AllByRecursion (IsSmallTo s.count) lines → AllByRecursion (λ z. unsigned_abs z ≤ 1048576) scales
scales_small s [] lines scales is at a long small = subst (λ (ks : List ℤ). AllByRecursion (λ z. unsigned_abs z ≤ 1048576) ks) (sym a.1) tt
scales_small s (spot ∷ spots) [] scales is at a long small = absurd a
scales_small s (spot ∷ spots) (line ∷ lines) [] is at a long small = absurd a
scales_small s (spot ∷ spots) (line ∷ lines) (scale ∷ scales) is at a long small = (by_last last, scales_small s spots lines scales is at.1 a.1 long.1 small.1)
  where
    last : HasLastNumber line scale
    last = last_of s.columns.now spot.at (terms_of s.cases.now spot.case) s.lower.now line scale a.0
        (sides-lowest s.columns.now spot.at (terms_of s.cases.now spot.case) s.lower.now a.0.values (subst (λ (cs : List (List Col)). IsPositiveAt (ratio_at cs spot.at)) (sym is.columns) (spot_positive s.cases.now s.lower.now spot is.canonical (subst (λ (cs : List (List Col)). IsSpotAt cs s.cases.now spot) is.columns at.0))) a.0.are)

    turned : (z : ℤ) → unsigned_abs (z *ℤ negsuc 0) ≡ unsigned_abs z
    turned z = omega (arith, ints)

    by_last : HasLastNumber line scale → unsigned_abs scale ≤ 1048576
    by_last l = subst (λ z. unsigned_abs z ≤ 1048576) l.is (subst (λ (n : ℕ). n ≤ 1048576) (sym (turned (entry line l.place))) (small.0 l.place (subst (λ (n : ℕ). l.place < n) long.0 l.within)))

pub known_scales : (s : StrataQuestion) (known : KnownRelations) → IsAsked s → s.count ≡ s.terms + length s.lower.now + 1 → AreKnown s known → HasSmallScales s.count known.spots
known_scales s known is count k = record {
  small = λ calm. scales_small s known.spots.spots known.spots.lines known.spots.scales is k.points k.lines (lines_long s known.spots.spots known.spots.lines known.spots.scales is count k.points k.lines) (own_lines s.count known.spots.lines calm);
}
