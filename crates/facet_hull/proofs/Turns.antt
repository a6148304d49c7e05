-- Rows along exact normals, over many turns.
use Rattle.std.proofs.Common.{◌≡◌, ℕ, zero, suc, sym, subst, List, [], ◌∷◌, map, ℤ, pos, ◌*ℤ◌, ◌≤ℤ◌, ◌<ℤ◌}
use Rattle.std.specs.Prelude.{slice_get, Some}
use Rattle.std.specs.List.{AllByRecursion}
use Rattle.std.proofs.lemmas.Int.{ints}
use Rattle.std.proofs.Common.{arith}
use Rattle.whole_numbers.proofs.Ring.{*ℤ_right_comm, ≤ℤ-*ℤ, *ℤ-≤ℤ}
use Rattle.whole_numbers.specs.Dot.{dot}
use Rattle.farkas_check.specs.declared.stratum.Change.{Change}
use Rattle.facet_hull.specs.Changes.{changes_at, Rational, IsBoundIn, IsBound, IsSupremum}
use Rattle.facet_hull.specs.Hull.{Facet, MeetsFacet, AreSuprema, AreExact}
use Rattle.facet_hull.specs.Laws.{IsReachedBy, IsTurnRow, IsBoundOver}

weak : (x : ℤ) → pos 0 <ℤ x → pos 0 ≤ℤ x
weak x h = omega (arith, ints)

-- what all cases have, one of them has
pub at_case : (P : Change → Type 0) (cases : List Change) (place : ℕ) (case : Change) → AllByRecursion P cases → slice_get cases place ≡ Some case → P case
at_case P [] place case h e = cc
at_case P (c ∷ cases) zero case h e = let same : c ≡ case = cc in subst P same h.0
at_case P (c ∷ cases) (suc place) case h e = at_case P cases place case h.1 e

-- a bound of the form is not below a number that is reached
reached_below : (cases : List Change) (form : List ℤ) (at : ℤ) (most : Rational) → IsReachedBy cases form at → IsBound cases form most → (at *ℤ most.bottom) ≤ℤ most.top
reached_below cases form at most r b =
    *ℤ-≤ℤ (at *ℤ most.bottom) most.top r.point.over r.point.positive
    (links (at *ℤ r.point.over *ℤ most.bottom) (dot form (changes_at r.case.terms r.point) *ℤ most.bottom) (most.top *ℤ r.point.over) (at *ℤ most.bottom *ℤ r.point.over)
    (≤ℤ-*ℤ (at *ℤ r.point.over) (dot form (changes_at r.case.terms r.point)) most.bottom (weak most.bottom most.positive) r.far)
    (at_case (IsBoundIn form most) cases r.place r.case b r.is r.point r.meets)
    (*ℤ_right_comm at most.bottom r.point.over))
  where
    links : (x y z w : ℤ) → x ≤ℤ y → y ≤ℤ z → w ≡ x → w ≤ℤ z
    links x y z w h k e = omega (arith, ints)

-- the row over the turns is the facet at the mean change
meets : (cases : List Change) (change : List ℤ) (turns : ℤ) (p : pos 0 <ℤ turns) (facet : Facet) → IsSupremum cases facet.normal facet.most → IsTurnRow cases change turns facet.normal
    → MeetsFacet (record { numbers = change; over = turns; positive = p }) facet
meets cases change turns p facet s r =
    links (dot facet.normal change *ℤ facet.most.bottom) (r.at *ℤ turns *ℤ facet.most.bottom) (r.at *ℤ facet.most.bottom *ℤ turns) (facet.most.top *ℤ turns)
    (≤ℤ-*ℤ (dot facet.normal change) (r.at *ℤ turns) facet.most.bottom (weak facet.most.bottom facet.most.positive) r.row)
    (*ℤ_right_comm r.at turns facet.most.bottom)
    (≤ℤ-*ℤ (r.at *ℤ facet.most.bottom) facet.most.top turns (weak turns p) (reached_below cases facet.normal r.at facet.most r.tight s.bound))
  where
    links : (x y z w : ℤ) → x ≤ℤ y → y ≡ z → z ≤ℤ w → x ≤ℤ w
    links x y z w h e k = omega (arith, ints)

each_meets : (cases : List Change) (change : List ℤ) (turns : ℤ) (p : pos 0 <ℤ turns) (bounds : List Facet) → AreSuprema cases bounds
    → AllByRecursion (IsTurnRow cases change turns) (map (λ (f : Facet). f.normal) bounds) → AllByRecursion (MeetsFacet (record { numbers = change; over = turns; positive = p })) bounds
each_meets cases change turns p [] s h = tt
each_meets cases change turns p (facet ∷ bounds) s h = (meets cases change turns p facet s.0 h.0, each_meets cases change turns p bounds s.1 h.1)

pub relatively_complete : (count : ℕ) (cases : List Change) (normals : List (List ℤ)) → AreExact count cases normals → (change : List ℤ) (turns : ℤ) → pos 0 <ℤ turns
    → AllByRecursion (IsTurnRow cases change turns) normals → IsBoundOver count cases change turns
relatively_complete count cases normals exact change turns p h =
    exact.complete (record { numbers = change; over = turns; positive = p })
    (each_meets cases change turns p exact.bounds exact.suprema (subst (AllByRecursion (IsTurnRow cases change turns)) (sym exact.each) h))
