-- What a search for a basis knows: spots that are points of their cases, and relations of as many
-- numbers as there are unknowns.
use Rattle.std.proofs.Common.{◌≡◌, ◌≢◌, ℕ, zero, suc, ◌+◌, ◌*◌, ◌-◌, ◌<◌, ◌≤◌, Bool, true, false, get_or, List, [], ◌∷◌, ◌++◌, length, map, Result, Ok, refl, sym, ap, subst, ◌∙◌, arith, ℤ, negsuc}
use Rattle.std.specs.Prelude.{◌==◌, ◌&&◌, ◌||◌, IsTrue, slice_get, Option, None, Some}
use Rattle.std.specs.List.{AllByRecursion, list_all, list_any, IsDistinct}
use Rattle.std.proofs.Math.Dec.{eqb}
use Rattle.std.proofs.Math.Nat.{mul-le-mul_left, mul-le-mul_right}
use Rattle.std.proofs.lemmas.Map.Steps.{length-le_from_distinct_below}
use Rattle.std.specs.Cmp.Lexicographic.{pointwise}
use Rattle.std.specs.Ordering.{int_eq}
use Rattle.std.proofs.lemmas.Bool.{eq-eqb, ne_eqb, eqb-true}
use Rattle.std.proofs.lemmas.Bool.Decides.{Decides-int_eq}
use Rattle.std.proofs.lemmas.Slice.Eq.{slice_eq-Decides}
use Rattle.items.specs.Gives.{◌>>=◌}
use Rattle.items.proofs.Gives.{on_ok}
use Rattle.whole_numbers.specs.declared.wide.Wide as Step
use Rattle.linear_terms.specs.Polynomial.{Polynomial}
use Rattle.farkas_check.specs.Relations.{numbers_of, is_reduced, term_count, free_places}
use Rattle.linear_terms.specs.declared.col.Col.{Col}
use Rattle.farkas_check.specs.Points.{ratio_at, ratio_value}
use Rattle.farkas_check.specs.Ratios.{Fraction, whole}
use Rattle.farkas_check.specs.Stratum.{has_unknowns, terms_of, minus_value, tested_free, spot_side}
use Rattle.farkas_check.specs.declared.stratum.Change.{Change}
use Rattle.farkas_check.specs.declared.stratum.Relation.{Relation}
use Rattle.farkas_check.specs.declared.stratum.Spot.{Spot}
use Rattle.farkas_check.specs.declared.stratum.Tie.{Tie}
use Rattle.simplex.specs.Exchange.{choices_of, numbers_of as numbers_of_frame}
use Rattle.simplex.specs.Search.{IsLineChoosing}
use Rattle.simplex.specs.Spots.{values_of, IsSpotLine, AreSpotLines, HasMoreLine, IsNewPoint, IsUnchosen, inner_product, AreSpots, IsRelationOf, AreRelations, AreUnitLists, chosen_below, spots_framed, spots_frame}
use Rattle.simplex.specs.Points.{IsPointAt, IsSpotAt}
use Rattle.simplex.specs.Relations.{IsRelationWith, HasCounts}
use Rattle.simplex.specs.SmallBasis.{HasSmallTies}
use Rattle.simplex.specs.Strata.{IsAsked, AreKnown, turns_left, IsApartAt, IsTiedRelation, IsHonestRelation, IsHonestFree, IsBasisOver}
use Rattle.simplex.specs.Ties.{AreTies}
use Rattle.simplex.specs.declared.differences.StrataQuestion.{StrataQuestion}
use Rattle.simplex.specs.declared.spots.Spots.{Spots}
use Rattle.simplex.specs.declared.strata.KnownRelations.{KnownRelations}
use Rattle.simplex.specs.declared.tableau.Tableau.{Tableau}
use Rattle.simplex.proofs.Echelons.{no_relations, relations-skip, relations-more, relations-reduced}
use Rattle.simplex.proofs.Eliminations.{choose_apart}
use Rattle.simplex.proofs.RowTableaux.{long}
use Rattle.simplex.proofs.HonestTies.{relation_honest}
use Rattle.simplex.proofs.Independence.{independent_more, relation_level}
use Rattle.simplex.proofs.RaisedDifferences.{terms_at}
use Rattle.simplex.proofs.SpotFrames.{numerators-length}
use Rattle.simplex.proofs.SpotPoints.{spot_positive}
use Rattle.simplex.proofs.Units.{IsPositiveAt, HasUnits, free_honest}

-- ---- what is known

pub all_more : {A : Type 0} (P : A → Type 0) (xs : List A) (x : A) → AllByRecursion P xs → P x → AllByRecursion P (xs ++ x ∷ [])
all_more P [] x h p = (p, tt)
all_more P (y ∷ xs) x h p = (h.0, all_more P xs x h.1 p)

abbrev AreTied : StrataQuestion → List Relation → Type 0
AreTied s relations = AllByRecursion (IsTiedRelation s) relations

abbrev AreSpotsAt : StrataQuestion → List Spot → Type 0
AreSpotsAt s spots = AllByRecursion (IsSpotAt s.columns.now s.cases.now) spots

-- the lines of the spots
abbrev HasLines : StrataQuestion → List Spot → List (List ℤ) → List ℤ → Type 0
HasLines s spots lines scales = AreSpotLines s.columns.now s.cases.now s.lower.now spots lines scales

-- before the first unknown there are no relations
none_yet : (count : ℕ) (known : KnownRelations) → known.next ≡ 0 → known.relations ≡ [] → AreRelations count known.spots.tableau known.next (map numbers_of known.relations)
none_yet count known next empty = subst (λ (n : ℕ). AreRelations count known.spots.tableau n (map numbers_of known.relations)) (sym next) (subst (λ (rs : List Relation). AreRelations count known.spots.tableau 0 (map numbers_of rs)) (sym empty) (no_relations count known.spots.tableau))

pub known-first : (s : StrataQuestion) (known : KnownRelations) → AreSpots s.count known.spots → known.spots.spots ≡ [] → known.spots.lines ≡ [] → known.spots.scales ≡ [] → known.relations ≡ [] → known.next ≡ 0 → known.start ≡ 0 → AreKnown s known
known-first s known are none lines scales empty next start = record {
  spots = are;
  points = subst (AreSpotsAt s) (sym none) tt;
  lines = subst (λ (xs : List Spot). HasLines s xs known.spots.lines known.spots.scales) (sym none) (lines, scales);
  relations = subst (AreTied s) (sym empty) tt;
  next = omega (arith, next);
  start = omega (arith, start);
  round = λ e. none_yet s.count known next empty;
}

-- other relations of the same spots
with_relations : (s : StrataQuestion) (known made : KnownRelations) → AreKnown s known → made.spots ≡ known.spots → AreTied s made.relations → made.next ≤ s.count → made.start ≤ length known.spots.lines → (made.start ≡ length known.spots.lines → AreRelations s.count known.spots.tableau made.next (map numbers_of made.relations)) → AreKnown s made
with_relations s known made k same tied next start round = record {
  spots = subst (AreSpots s.count) (sym same) k.spots;
  points = subst (λ (x : Spots). AreSpotsAt s x.spots) (sym same) k.points;
  lines = subst (λ (x : Spots). HasLines s x.spots x.lines x.scales) (sym same) k.lines;
  relations = tied;
  next = next;
  start = subst (λ (x : Spots). made.start ≤ length x.lines) (sym same) start;
  round = subst (λ (x : Spots). made.start ≡ length x.lines → AreRelations s.count x.tableau made.next (map numbers_of made.relations)) (sym same) round;
}

-- what a turn leaves: what is known, and fewer turns
abbrev IsLess : StrataQuestion → KnownRelations → KnownRelations → Type 0
IsLess s known made = AreKnown s made × (turns_left s.count made < turns_left s.count known)

-- the next unknown has had its turn
fewer_next : (count : ℕ) (known made : KnownRelations) → known.next < count → made.next ≡ known.next + 1 → made.start ≡ known.start → made.spots ≡ known.spots → turns_left count made < turns_left count known
fewer_next count known made here next start same =
    let lines : length made.spots.lines ≡ length known.spots.lines = ap (λ (x : Spots). length x.lines) same in
    let rest : (count - made.start) * (count + 1) ≡ (count - known.start) * (count + 1) = ap (λ (n : ℕ). (count - n) * (count + 1)) start in
    smaller (count - made.next) (count - known.next) (count - length made.spots.lines) (count - length known.spots.lines) ((count - made.start) * (count + 1)) ((count - known.start) * (count + 1)) (omega (arith, here, next)) (ap (λ (n : ℕ). count - n) lines) rest
  where
    smaller : (a b c d e f : ℕ) → a < b → c ≡ d → e ≡ f → a + c + 1 + e < b + d + 1 + f
    smaller a b c d e f p q r = omega (arith, p, q, r)

pub known-same : (s : StrataQuestion) (known made : KnownRelations) (line : ℕ) → AreKnown s known → known.next < s.count → line < length known.spots.tableau.lines → choices_of known.spots.tableau line ≡ known.next → made.next ≡ known.next + 1 → made.start ≡ known.start → made.spots ≡ known.spots → made.relations ≡ known.relations → IsLess s known made
known-same s known made line k here inside own next start same all = (
  with_relations s known made k same (subst (AreTied s) (sym all) k.relations) (omega (arith, here, next)) (subst (λ (n : ℕ). n ≤ length known.spots.lines) (sym start) k.start)
      (λ e. subst (λ (n : ℕ). AreRelations s.count known.spots.tableau n (map numbers_of made.relations)) (sym next) (subst (λ (rs : List Relation). AreRelations s.count known.spots.tableau (known.next + 1) (map numbers_of rs)) (sym all)
      (relations-skip s.count known.spots.tableau known.next line (map numbers_of known.relations) inside own (k.round (sym start ∙ e))))),
  fewer_next s.count known made here next start same,
)

map_more : (rs : List Relation) (r : Relation) → map numbers_of (rs ++ r ∷ []) ≡ map numbers_of rs ++ numbers_of r ∷ []
map_more [] r = refl
map_more (q ∷ rs) r = ap (λ (ns : List (List ℤ)). numbers_of q ∷ ns) (map_more rs r)

pub known-relation : (s : StrataQuestion) (known made : KnownRelations) (numbers : List ℤ) (ties : List Tie) (relation : Relation) → AreKnown s known → known.next < s.count → IsUnchosen known.spots.tableau known.next → IsRelationOf s.count known.spots.tableau known.next numbers → IsRelationWith s.terms (length s.lower.now) numbers ties relation
    → AreTies s.columns.now s.lower.now numbers s.cases.now (length s.cases.now) ties → HasSmallTies s ties → made.next ≡ known.next + 1 → made.start ≡ known.start → made.spots ≡ known.spots → made.relations ≡ known.relations ++ relation ∷ [] → IsLess s known made
known-relation s known made numbers ties relation k here free own r t small next start same more = (
  with_relations s known made k same (subst (AreTied s) (sym more) (all_more (IsTiedRelation s) known.relations relation k.relations tied)) (omega (arith, here, next)) (subst (λ (n : ℕ). n ≤ length known.spots.lines) (sym start) k.start)
      (λ e. subst (λ (n : ℕ). AreRelations s.count known.spots.tableau n (map numbers_of made.relations)) (sym next) (subst (λ (ns : List (List ℤ)). AreRelations s.count known.spots.tableau (known.next + 1) ns) (sym (ap (map numbers_of) more ∙ map_more known.relations relation))
      (relations-more s.count s.count (numbers_of_frame (spots_framed s.count known.spots.lines)) known.spots.tableau known.next (map numbers_of known.relations) (numbers_of relation) k.spots.tableau.tableau k.spots.tableau.ends here free.none
      (subst (IsRelationOf s.count known.spots.tableau known.next) (sym r.is) own) (k.round (sym start ∙ e))))),
  fewer_next s.count known made here next start same,
)
  where
    tied : IsTiedRelation s relation
    tied = record {
      counts = record { a = r.a; b = r.b };
      ties = subst (λ (ns : List ℤ). AreTies s.columns.now s.lower.now ns s.cases.now (length s.cases.now) relation.ties) (sym r.is)
          (subst (λ (ts : List Tie). AreTies s.columns.now s.lower.now numbers s.cases.now (length s.cases.now) ts) (sym r.tied) t);
      small = subst (HasSmallTies s) (sym r.tied) small;
    }

-- there are no more numbers below a count than the count, where no two are the same
pub few_choices : (xs : List ℕ) (count : ℕ) → ((i k : ℕ) → i < length xs → k < length xs → i ≢ k → get_or xs i 0 ≢ get_or xs k 0) → ((i : ℕ) → i < length xs → get_or xs i 0 < count) → length xs ≤ count
unfolding IsDistinct
few_choices xs count apart inside = length-le_from_distinct_below xs count (distinct xs apart) (λ q e. below q e)
  where
    distinct : (xs : List ℕ) → ((i k : ℕ) → i < length xs → k < length xs → i ≢ k → get_or xs i 0 ≢ get_or xs k 0) → IsDistinct eqb xs
    distinct [] f = tt
    distinct (x ∷ xs) f = (others xs (λ i h. f 0 (suc i) (omega arith) (omega (arith, h)) (λ e. absurd (omega (arith, e)))), distinct xs (λ i k h g other. f (suc i) (suc k) (omega (arith, h)) (omega (arith, g)) (λ e. other (omega (arith, e)))))
      where
        others : (ys : List ℕ) → ((i : ℕ) → i < length ys → x ≢ get_or ys i 0) → AllByRecursion (λ y. eqb x y ≡ false) ys
        others [] g = tt
        others (y ∷ ys) g = (ne_eqb x y (g 0 (omega arith)), others ys (λ i h. g (suc i) (omega (arith, h))))

    found : (xs : List ℕ) (q : ℕ) → list_any (eqb q) xs ≡ true → (i : ℕ) × ((i < length xs) × (get_or xs i 0 ≡ q))
    found [] q e = cc
    found (x ∷ xs) q e = at (eqb q x) refl e (λ f. found xs q f)
      where
        at : (b : Bool) → eqb q x ≡ b → b || list_any (eqb q) xs ≡ true → (list_any (eqb q) xs ≡ true → (i : ℕ) × ((i < length xs) × (get_or xs i 0 ≡ q))) → (i : ℕ) × ((i < length (x ∷ xs)) × (get_or (x ∷ xs) i 0 ≡ q))
        at true f g more = (0, (omega arith, sym (eqb-true q x f)))
        at false f g more = let m = more g in (suc m.0, (let h : m.0 < length xs = m.1.0 in omega (arith, h), m.1.1))

    below : (q : ℕ) → list_any (eqb q) xs ≡ true → q < count
    below q e = let f = found xs q e in subst (λ (n : ℕ). n < count) f.1.1 (inside f.0 f.1.0)

-- what lines choose
choices_apart : (count : ℕ) (spots : Spots) → AreSpots count spots → (i k : ℕ) → i < length spots.tableau.chosen → k < length spots.tableau.chosen → i ≢ k → get_or spots.tableau.chosen i 0 ≢ get_or spots.tableau.chosen k 0
choices_apart count spots a i k h g other = choose_apart (spots_frame count spots.lines) spots.tableau i k a.tableau.tableau (subst (λ (n : ℕ). i < n) a.tableau.tableau.shape.choices h) (subst (λ (n : ℕ). k < n) a.tableau.tableau.shape.choices g) other

choices_below : (count : ℕ) (spots : Spots) → AreSpots count spots → (i : ℕ) → i < length spots.tableau.chosen → get_or spots.tableau.chosen i 0 < count
choices_below count spots a i h = a.chosen i (subst (λ (n : ℕ). i < n) (a.tableau.tableau.shape.choices ∙ a.tableau.many) h)

-- there are no more spots than unknowns
pub few_spots : (count : ℕ) (spots : Spots) → AreSpots count spots → length spots.lines ≤ count
few_spots count spots a = subst (λ (n : ℕ). n ≤ count) (a.tableau.tableau.shape.choices ∙ a.tableau.many) (few_choices spots.tableau.chosen count (choices_apart count spots a) (choices_below count spots a))

-- there are fewer where no line chooses some unknown
pub fewer_spots : (count : ℕ) (spots : Spots) (u : ℕ) → AreSpots count spots → u < count → IsUnchosen spots.tableau u → length spots.lines < count
fewer_spots count spots u a here free =
    let many : length spots.tableau.chosen ≡ length spots.lines = a.tableau.tableau.shape.choices ∙ a.tableau.many in
    let few : length (u ∷ spots.tableau.chosen) ≤ count = few_choices (u ∷ spots.tableau.chosen) count (λ i k h g other. apart i k h g other) (λ i h. inside i h) in omega (arith, many, few)
  where
    none : (k : ℕ) → k < length spots.tableau.chosen → get_or spots.tableau.chosen k 0 ≢ u
    none k h = free.none k (subst (λ (n : ℕ). k < n) a.tableau.tableau.shape.choices h)

    apart : (i k : ℕ) → i < suc (length spots.tableau.chosen) → k < suc (length spots.tableau.chosen) → i ≢ k → get_or (u ∷ spots.tableau.chosen) i 0 ≢ get_or (u ∷ spots.tableau.chosen) k 0
    apart zero zero h g other e = other refl
    apart zero (suc k) h g other e = none k (omega (arith, g)) (sym e)
    apart (suc i) zero h g other e = none i (omega (arith, h)) e
    apart (suc i) (suc k) h g other e = choices_apart count spots a i k (omega (arith, h)) (omega (arith, g)) (λ f. other (omega (arith, f))) e

    inside : (i : ℕ) → i < suc (length spots.tableau.chosen) → get_or (u ∷ spots.tableau.chosen) i 0 < count
    inside zero h = here
    inside (suc i) h = choices_below count spots a i (omega (arith, h))

-- the unknowns have their turns anew
pub known-again : (s : StrataQuestion) (known made : KnownRelations) → AreKnown s known → (known.start ≡ length known.spots.lines → ⊥) → made.spots ≡ known.spots → made.relations ≡ [] → made.next ≡ 0 → made.start ≡ length known.spots.lines → IsLess s known made
known-again s known made k more same none next start = (
  with_relations s known made k same (subst (AreTied s) (sym none) tt) (omega (arith, next)) (omega (arith, start)) (λ e. subst (λ (x : Spots). AreRelations s.count x.tableau made.next (map numbers_of made.relations)) same (none_yet s.count made next none)),
  fewer,
)
  where
    fewer : turns_left s.count made < turns_left s.count known
    fewer =
        let few : length known.spots.lines ≤ s.count = few_spots s.count known.spots k.spots in
        let before : known.start ≤ length known.spots.lines = k.start in
        let lines : length made.spots.lines ≡ length known.spots.lines = ap (λ (x : Spots). length x.lines) same in
        let anew : suc (s.count - length known.spots.lines) * (s.count + 1) ≤ (s.count - known.start) * (s.count + 1) = mul-le-mul_right (s.count + 1) (omega (arith, few, before, more)) in
        let open_up : suc (s.count - length known.spots.lines) * (s.count + 1) ≡ (s.count - length known.spots.lines) * (s.count + 1) + (s.count + 1) = omega arith in
        let here : (s.count - made.start) * (s.count + 1) ≡ (s.count - length known.spots.lines) * (s.count + 1) = ap (λ (n : ℕ). (s.count - n) * (s.count + 1)) start in
        smaller (s.count - made.next) (s.count - known.next) (s.count - length made.spots.lines) (s.count - length known.spots.lines) ((s.count - made.start) * (s.count + 1)) ((s.count - known.start) * (s.count + 1)) ((s.count - length known.spots.lines) * (s.count + 1)) s.count (omega (arith, next)) (ap (λ (n : ℕ). s.count - n) lines) here (omega (arith, anew, open_up))
      where
        smaller : (a b c d e f g n : ℕ) → a ≤ n → c ≡ d → e ≡ g → g + (n + 1) ≤ f → a + c + 1 + e < b + d + 1 + f
        smaller a b c d e f g n p q r t = omega (arith, p, q, r, t)

pub lines_more : (cs : List (List Col)) (cases : List Change) (lower : List Polynomial) (spots : List Spot) (lines : List (List ℤ)) (scales : List ℤ) (spot : Spot) (line : List ℤ) (scale : ℤ) → AreSpotLines cs cases lower spots lines scales → IsSpotLine cs spot.at (terms_of cases spot.case) lower line scale
    → AreSpotLines cs cases lower (spots ++ spot ∷ []) (lines ++ line ∷ []) (scales ++ scale ∷ [])
lines_more cs cases lower [] lines scales spot line scale a is =
    subst (λ (ls : List (List ℤ)). AreSpotLines cs cases lower (spot ∷ []) (ls ++ line ∷ []) (scales ++ scale ∷ [])) (sym a.0)
    (subst (λ (ks : List ℤ). AreSpotLines cs cases lower (spot ∷ []) (line ∷ []) (ks ++ scale ∷ [])) (sym a.1) (is, (refl, refl)))
lines_more cs cases lower (s ∷ spots) [] scales spot line scale a is = absurd a
lines_more cs cases lower (s ∷ spots) (l ∷ lines) [] spot line scale a is = absurd a
lines_more cs cases lower (s ∷ spots) (l ∷ lines) (k ∷ scales) spot line scale a is = (a.0, lines_more cs cases lower spots lines scales spot line scale a.1 is)

pub terms_found : (cases : List Change) (l : ℕ) (case : Change) → slice_get cases l ≡ Some case → terms_of cases l ≡ case.terms
terms_found [] l case e = cc
terms_found (c ∷ cases) zero case e = let same : c ≡ case = cc in ap (λ (x : Change). x.terms) same
terms_found (c ∷ cases) (suc l) case e = terms_found cases l case e

pub known-spot : (s : StrataQuestion) (known made : KnownRelations) (spot : Spot) (case : Change) (place : ℕ) → AreKnown s known → AreSpots s.count made.spots → spot.case ≡ place → slice_get s.cases.now place ≡ Some case → IsPointAt s.columns.now s.cases.now place spot.at → HasMoreLine s.columns.now spot.at case.terms s.lower.now known.spots made.spots
    → made.spots.spots ≡ known.spots.spots ++ spot ∷ [] → made.relations ≡ known.relations → made.next ≡ known.next → made.start ≡ known.start → IsLess s known made
known-spot s known made spot case place k are own there at line more same next start = (
  record {
    spots = are;
    points = subst (AreSpotsAt s) (sym more) (all_more (IsSpotAt s.columns.now s.cases.now) known.spots.spots spot k.points (record { case = at.case; is = ap (slice_get s.cases.now) own ∙ at.is; point = at.point }));
    lines = subst (λ (xs : List Spot). HasLines s xs made.spots.lines made.spots.scales) (sym more)
        (subst (λ (ls : List (List ℤ)). HasLines s (known.spots.spots ++ spot ∷ []) ls made.spots.scales) (sym line.lines)
        (subst (λ (ks : List ℤ). HasLines s (known.spots.spots ++ spot ∷ []) (known.spots.lines ++ line.line ∷ []) ks) (sym line.scales)
        (lines_more s.columns.now s.cases.now s.lower.now known.spots.spots known.spots.lines known.spots.scales spot line.line line.scale k.lines
        (subst (λ (ts : List Polynomial). IsSpotLine s.columns.now spot.at ts s.lower.now line.line line.scale) (sym (ap (terms_of s.cases.now) own ∙ terms_found s.cases.now place case there)) line.is))));
    relations = subst (AreTied s) (sym same) k.relations;
    next = subst (λ (n : ℕ). n ≤ s.count) (sym next) k.next;
    start = let before : known.start ≤ length known.spots.lines = k.start in omega (arith, before, start, longer);
    round = λ e. absurd (let before : known.start ≤ length known.spots.lines = k.start in omega (arith, before, start, longer, e));
  },
  fewer,
)
  where
    longer : length made.spots.lines ≡ length known.spots.lines + 1
    longer = ap length line.lines ∙ long known.spots.lines (line.line ∷ [])

    fewer : turns_left s.count made < turns_left s.count known
    fewer =
        let few : length made.spots.lines ≤ s.count = few_spots s.count made.spots are in
        smaller (s.count - made.next) (s.count - known.next) (s.count - length made.spots.lines) (s.count - length known.spots.lines) ((s.count - made.start) * (s.count + 1)) ((s.count - known.start) * (s.count + 1)) (ap (λ (n : ℕ). s.count - n) next) (omega (arith, few, longer)) (ap (λ (n : ℕ). (s.count - n) * (s.count + 1)) start)
      where
        smaller : (a b c d e f : ℕ) → a ≡ b → c < d → e ≡ f → a + c + 1 + e < b + d + 1 + f
        smaller a b c d e f p q r = omega (arith, p, q, r)

pub apart_point : (s : StrataQuestion) (numbers : List ℤ) (place : ℕ) (at : List Fraction) → IsApartAt s numbers place at → IsPointAt s.columns.now s.cases.now place at
apart_point s numbers place at a = record { case = a.case; is = a.is; point = a.point.point }

pub unchosen : (count : ℕ) (known : Spots) (u : ℕ) (found : Option ℕ) → AreSpots count known → IsLineChoosing known.tableau.chosen u found → found ≡ None → IsUnchosen known.tableau u
unchosen count known u found k l e = record { none = λ i h. at i (subst (λ (n : ℕ). i < n) (sym k.tableau.tableau.shape.choices) h) }
  where
    chooses : IsLineChoosing known.tableau.chosen u None
    chooses = subst (IsLineChoosing known.tableau.chosen u) e l

    at : (i : ℕ) → i < length known.tableau.chosen → choices_of known.tableau i ≢ u
    at = chooses

-- a spot at which the difference of the next relation is not 0 has a line that is independent of
-- the others
pub apart_line : (s : StrataQuestion) (known : KnownRelations) (numbers : List ℤ) (place : ℕ) (at : List Fraction) → AreKnown s known → known.next < s.count → IsUnchosen known.spots.tableau known.next → length numbers ≡ s.count → IsRelationOf s.count known.spots.tableau known.next numbers → IsApartAt s numbers place at
    → IsNewPoint s.columns.now at (terms_of s.cases.now place) s.lower.now s.count known.spots.lines
apart_line s known numbers place at k here free many r a = record {
  any = λ line scale is. independent_more s.count known.spots.lines line numbers k.spots.independent
      (relation_level s.count known.spots.lines known.spots.tableau known.next numbers k.spots.tableau (λ i h. k.spots.chosen i (subst (λ (n : ℕ). i < n) k.spots.tableau.many h)) here free.none r)
      (λ e. a.point.apart line scale (subst (λ (ts : List Polynomial). IsSpotLine s.columns.now at ts s.lower.now line scale) (terms_found s.cases.now place a.case a.is) is) (ap (λ (n : ℕ). inner_product n numbers line) many ∙ e));
}

-- ---- the turns

pub turns_first : (count : ℕ) (known : KnownRelations) → known.next ≡ 0 → known.start ≡ 0 → known.spots.lines ≡ [] → turns_left count known + 0 ≤ (count + 2) * (count + 2)
turns_first count known next start none =
    let few : length known.spots.lines ≡ 0 = ap length none in
    let last : (count - known.start) * (count + 1) ≡ count * (count + 1) = (let e : count - known.start ≡ count = omega (arith, start) in ap (λ (n : ℕ). n * (count + 1)) e) in
    bound (count - known.next) (count - length known.spots.lines) ((count - known.start) * (count + 1)) (omega (arith, next)) (omega (arith, few)) last
  where
    bound : (a b c : ℕ) → a ≡ count → b ≡ count → c ≡ count * (count + 1) → a + b + 1 + c + 0 ≤ (count + 2) * (count + 2)
    bound a b c p q r =
        let open_up : suc (suc count) * (count + 2) ≡ count * (count + 2) + (count + 2) + (count + 2) = omega arith in
        let same : count + 2 ≡ suc (suc count) = omega arith in
        let whole : (count + 2) * (count + 2) ≡ suc (suc count) * (count + 2) = ap (λ (n : ℕ). n * (count + 2)) same in
        let step : count + 1 ≤ count + 2 = omega arith in
        let more : count * (count + 1) ≤ count * (count + 2) = mul-le-mul_left count step in omega (arith, p, q, r, open_up, whole, more)

-- ---- the basis

all_counted : (cases : List Change) (lower : List Polynomial) (relations : List Relation) → AllByRecursion (HasCounts (term_count cases) (length lower)) relations → list_all (has_unknowns cases lower) relations ≡ true
all_counted cases lower [] h = refl
all_counted cases lower (r ∷ relations) h = both (length r.a == term_count cases) (length r.b == length lower) (list_all (has_unknowns cases lower) relations) (eq-eqb (length r.a) (term_count cases) h.0.a) (eq-eqb (length r.b) (length lower) h.0.b) (all_counted cases lower relations h.1)
  where
    both : (a b c : Bool) → a ≡ true → b ≡ true → c ≡ true → a && b && c ≡ true
    both a b c e f g = rw (e, f, g) refl

each_relation : {P Q : Relation → Type 0} (relations : List Relation) → ((r : Relation) → P r → Q r) → AllByRecursion P relations → AllByRecursion Q relations
each_relation [] f h = tt
each_relation (r ∷ relations) f h = (f r h.0, each_relation relations f h.1)

-- a line has a number for each unknown
values-length : (value : Polynomial → Result Fraction Step.Wide) (ps : List Polynomial) (rs : List Fraction) → values_of value ps ≡ Ok rs → length rs ≡ length ps
values-length value [] rs e = let none : [] ≡ rs = cc in ap length (sym none)
values-length value (p ∷ ps) rs e =
    on_ok (value p) (λ r. values_of value ps >>= λ more. ratios_ok (r ∷ more)) rs e
    (λ r f g. on_ok (values_of value ps) (λ more. ratios_ok (r ∷ more)) rs g
    (λ more h i. let same : r ∷ more ≡ rs = cc in let l : length more ≡ length ps = values-length value ps more h in let k : length (r ∷ more) ≡ length rs = ap length same in omega (arith, l, k)))
  where
    ratios_ok : List Fraction → Result (List Fraction) Step.Wide
    ratios_ok rs = Ok rs

line-length : (cs : List (List Col)) (at : List Fraction) (terms lower : List Polynomial) (line : List ℤ) (scale : ℤ) → IsSpotLine cs at terms lower line scale → length line ≡ length terms + length lower + 1
line-length cs at terms lower line scale is =
    numerators-length scale is.values line is.line_is
    ∙ ap length is.are.is
    ∙ long is.are.own (is.are.others ++ whole (negsuc 0) ∷ [])
    ∙ (let e : length (is.are.others ++ whole (negsuc 0) ∷ []) ≡ length is.are.others + 1 = long is.are.others (whole (negsuc 0) ∷ []) in
    let f : length is.are.own ≡ length terms = values-length (ratio_value (ratio_at cs at)) terms is.are.own is.are.own_is in
    let g : length is.are.others ≡ length lower = values-length (minus_value (ratio_value (ratio_at cs at))) lower is.are.others is.are.others_is in
    omega (arith, e, f, g))

pub lines_long : (s : StrataQuestion) (spots : List Spot) (lines : List (List ℤ)) (scales : List ℤ) → IsAsked s → s.count ≡ s.terms + length s.lower.now + 1 → AreSpotsAt s spots → HasLines s spots lines scales → AllByRecursion (λ (line : List ℤ). length line ≡ s.count) lines
lines_long s [] lines scales is count at a = subst (λ (ls : List (List ℤ)). AllByRecursion (λ (line : List ℤ). length line ≡ s.count) ls) (sym a.0) tt
lines_long s (spot ∷ spots) [] scales is count at a = absurd a
lines_long s (spot ∷ spots) (line ∷ lines) [] is count at a = absurd a
lines_long s (spot ∷ spots) (line ∷ lines) (scale ∷ scales) is count at a = (one, lines_long s spots lines scales is count at.1 a.1)
  where
    many : length (terms_of s.cases.now spot.case) ≡ s.terms
    many = ap length (terms_found s.cases.now spot.case at.0.case at.0.is) ∙ terms_at (term_count s.cases.now) spot.case s.cases.now at.0.case is.even at.0.is ∙ sym is.terms

    one : length line ≡ s.count
    one = line-length s.columns.now spot.at (terms_of s.cases.now spot.case) s.lower.now line scale a.0 ∙ ap (λ (n : ℕ). n + length s.lower.now + 1) many ∙ sym count

all_positive : (s : StrataQuestion) (spots : List Spot) → IsAsked s → AreSpotsAt s spots → AllByRecursion (λ (spot : Spot). IsPositiveAt (ratio_at s.columns.now spot.at)) spots
all_positive s [] is at = tt
all_positive s (spot ∷ spots) is at = (
  subst (λ (cs : List (List Col)). IsPositiveAt (ratio_at cs spot.at)) (sym is.columns) (spot_positive s.cases.now s.lower.now spot is.canonical (subst (λ (cs : List (List Col)). IsSpotAt cs s.cases.now spot) is.columns at.0)),
  all_positive s spots is at.1,
)

known-units : (s : StrataQuestion) (known : KnownRelations) → IsAsked s → s.count ≡ s.terms + length s.lower.now + 1 → AreKnown s known → HasUnits s.columns.now s.cases.now s.lower.now s.count known.spots
known-units s known is count k = record {
  are = k.spots;
  lines = k.lines;
  positive = all_positive s known.spots.spots is k.points;
  long = lines_long s known.spots.spots known.spots.lines known.spots.scales is count k.points k.lines;
}

pub basis_of_known : (s : StrataQuestion) (known : KnownRelations) (relations : List Relation) (spots : List Spot) (free : List (List Fraction)) → IsAsked s → s.count ≡ s.terms + length s.lower.now + 1 → AreKnown s known → AreRelations s.count known.spots.tableau s.count (map numbers_of known.relations)
    → AreUnitLists s.count known.spots (chosen_below known.spots.tableau s.count) free → relations ≡ known.relations → spots ≡ known.spots.spots → IsBasisOver s.columns.now s.cases.now s.lower.now relations spots free
basis_of_known s known relations spots free is count k every lists all points = record {
  counts = subst (λ (xs : List Relation). list_all (has_unknowns s.cases.now s.lower.now) xs ≡ true) (sym all) (all_counted s.cases.now s.lower.now known.relations (each_relation known.relations (λ r t. subst (λ (n : ℕ). HasCounts n (length s.lower.now) r) is.terms t.counts) k.relations));
  reduced = subst (λ (xs : List Relation). IsTrue (is_reduced (map numbers_of xs))) (sym all) (relations-reduced s.count known.spots.tableau (map numbers_of known.relations) every);
  tied = subst (λ (xs : List Relation). AllByRecursion (IsHonestRelation s.columns.now s.cases.now s.lower.now) xs) (sym all) (each_relation known.relations (λ r t. relation_honest s.columns.now s.cases.now s.lower.now r t.ties) k.relations);
  points = subst (AreSpotsAt s) (sym points) k.points;
  free_too = subst (λ (xs : List Relation). IsHonestFree s.columns.now s.cases.now s.lower.now xs spots free) (sym all) (subst (λ (xs : List Spot). IsHonestFree s.columns.now s.cases.now s.lower.now known.relations xs free) (sym points) units);
}
  where
    units : IsHonestFree s.columns.now s.cases.now s.lower.now known.relations known.spots.spots free
    units b e = free_honest s.columns.now s.cases.now s.lower.now s.count known.spots (map numbers_of known.relations) free b (known-units s known is count k) every lists
        (subst (λ (n : ℕ). tested_free (spot_side s.columns.now s.cases.now s.lower.now) known.spots.spots (free_places (map numbers_of known.relations) n) free ≡ Ok b) (sym (count ∙ ap (λ (n : ℕ). n + length s.lower.now + 1) is.terms)) e)

pub same_relations : (b : Bool) (count : ℕ) (t : Tableau) (own last : List (List ℤ)) (relations : List Relation) → b ≡ pointwise (pointwise int_eq) own last → own ≡ map numbers_of relations → AreRelations count t count last → IsTrue b → AreRelations count t count (map numbers_of relations)
same_relations b count t own last relations e is all h =
    let same : own ≡ last = (slice_eq-Decides (λ (xs ys : List ℤ). slice_eq-Decides Decides-int_eq xs ys (pointwise int_eq xs ys) refl) own last b e).0 h in
    subst (AreRelations count t count) (sym same ∙ is) all
