-- What a loop makes in 128 bits, one element more at a time, and the lengths of what is made.
use Rattle.std.proofs.Common.{◌≡◌, ℕ, ◌+◌, ◌<◌, List, [], ◌∷◌, ◌++◌, drop, get_or, length, take, refl, sym, ap, subst, ◌∙◌, append_assoc, ℤ}
use Rattle.std.specs.Prelude.{Option, Ok, Err}
use Rattle.std.specs.List.{cons_option}
use Rattle.std.proofs.lemmas.List.{drop_more, take_more}
use Rattle.std.proofs.lemmas.List.Sums.{fold-append}
use Rattle.std.specs.BTreeSet.{insert_key}
use Rattle.std.specs.Cmp.Lexicographic.{slice_cmp}
use Rattle.std.specs.Ordering.{int_cmp}
use Rattle.items.specs.Gives.{◌>>=◌, FailsBy}
use Rattle.items.proofs.Gives.{FailsBy-bind}
use Rattle.whole_numbers.specs.declared.wide.Wide as Step
use Rattle.cones.specs.Cones.{AreWide, Cleared, Given, IsWide, clearing}
use Rattle.cones.specs.InBits as in_bits
use Rattle.cones.specs.InBits.{Made}
use Rattle.cones.specs.Split.{units, remainder, pivots}
use Rattle.cones.specs.Tangents.{ArePoints, Point, directions}
use Rattle.cones.proofs.Bits.{value_of, clearing-made, pivots-made, directions-made}
use Rattle.cones.proofs.Tangency.{put_all, directions-wide, point-length, point-same_length}
use Rattle.cones.proofs.Units.{units-wide, pivots_behind-wide, remainder-wide}
use Rattle.cones.proofs.Widths.{clearing-wide, wide_behind}

behind_both : {X : Type 0} (first second : List X) (rest : Made (List X)) → in_bits.behind (first ++ second) rest ≡ in_bits.behind first (in_bits.behind second rest)
behind_both first second (Ok made) = ap (λ xs. Ok xs) (append_assoc first second made)
behind_both first second (Err step) = refl

-- ---- pivots

-- what is stated of the vectors from one on
from_here : (lines vs : List (List ℤ)) (i : ℕ) (v : List ℤ) → i < length vs → v ≡ get_or vs i v
    → in_bits.pivots_behind lines (take i vs) (drop i vs)
    ≡ in_bits.first_of (in_bits.is_pivot v (take i vs) (drop (i + 1) vs)) lines >>= λ found. in_bits.behind (cons_option found []) (in_bits.pivots_behind lines (take (i + 1) vs) (drop (i + 1) vs))
from_here lines vs i v h e =
    ap (λ us. in_bits.pivots_behind lines (take i vs) us) (drop_more vs i v h ∙ ap (λ u. u ∷ drop (i + 1) vs) (sym e))
    ∙ ap (λ us. in_bits.first_of (in_bits.is_pivot v (take i vs) (drop (i + 1) vs)) lines >>= λ found. in_bits.behind (cons_option found []) (in_bits.pivots_behind lines us (drop (i + 1) vs)))
    (sym (take_more vs i v h ∙ ap (λ u. take i vs ++ u ∷ []) (sym e)))

-- what is found of a vector, and then of those behind it
pub pivots_next : (lines vs : List (List ℤ)) (i : ℕ) (v : List ℤ) (made more : List (List ℤ)) (found : Option (List ℤ)) (all : Made (List (List ℤ))) → i < length vs → v ≡ get_or vs i v
    → in_bits.first_of (in_bits.is_pivot v (take i vs) (drop (i + 1) vs)) lines ≡ Ok found → more ≡ made ++ cons_option found []
    → in_bits.behind made (in_bits.pivots_behind lines (take i vs) (drop i vs)) ≡ all → in_bits.behind more (in_bits.pivots_behind lines (take (i + 1) vs) (drop (i + 1) vs)) ≡ all
pivots_next lines vs i v made more found all h e f g k =
    ap (λ us. in_bits.behind us rest) g
    ∙ behind_both made (cons_option found []) rest
    ∙ ap (λ r. in_bits.behind made (r >>= λ o. in_bits.behind (cons_option o []) rest)) (sym f)
    ∙ ap (in_bits.behind made) (sym (from_here lines vs i v h e))
    ∙ k
  where
    rest : Made (List (List ℤ))
    rest = in_bits.pivots_behind lines (take (i + 1) vs) (drop (i + 1) vs)

-- a vector of which the search stops
pub pivots_stop : (lines vs : List (List ℤ)) (i : ℕ) (v : List ℤ) (made : List (List ℤ)) (fault : Option Step.Wide) (all : Made (List (List ℤ))) → i < length vs → v ≡ get_or vs i v
    → FailsBy fault (in_bits.first_of (in_bits.is_pivot v (take i vs) (drop (i + 1) vs)) lines)
    → in_bits.behind made (in_bits.pivots_behind lines (take i vs) (drop i vs)) ≡ all → FailsBy fault all
pivots_stop lines vs i v made fault all h e f k =
    subst (FailsBy fault) (sym (ap (in_bits.behind made) (from_here lines vs i v h e)) ∙ k)
    (FailsBy-bind fault (first >>= after) (λ found. Ok (made ++ found)) (FailsBy-bind fault first after f))
  where
    first : Made (Option (List ℤ))
    first = in_bits.first_of (in_bits.is_pivot v (take i vs) (drop (i + 1) vs)) lines

    after : Option (List ℤ) → Made (List (List ℤ))
    after found = in_bits.behind (cons_option found []) (in_bits.pivots_behind lines (take (i + 1) vs) (drop (i + 1) vs))

-- ---- facets

-- a set, and what is made for it
abbrev pub put_made : List (List ℤ) → Made (List (List ℤ)) → Made (List (List ℤ))
put_made keys rest = rest >>= λ found. Ok (put_all keys found)

put_both : (keys first : List (List ℤ)) (rest : Made (List (List ℤ))) → put_made (put_all keys first) rest ≡ put_made keys (in_bits.behind first rest)
put_both keys first (Ok made) = ap (λ xs. Ok xs) (sym (fold-append (insert_key (slice_cmp int_cmp)) keys first made))
put_both keys first (Err step) = refl

-- the facets through one point more
pub facets_next : (f : Point → Made (List (List ℤ))) (points : List Point) (i : ℕ) (p : Point) (found more through : List (List ℤ)) (all : Made (List (List ℤ))) → i < length points → p ≡ get_or points i p
    → f p ≡ Ok through → more ≡ put_all found through → put_made found (in_bits.all_of f (drop i points)) ≡ all → put_made more (in_bits.all_of f (drop (i + 1) points)) ≡ all
facets_next f points i p found more through all h e t m k =
    ap (λ keys. put_made keys rest) m
    ∙ put_both found through rest
    ∙ ap (λ r. put_made found (r >>= λ ys. in_bits.behind ys rest)) (sym t)
    ∙ ap (λ ps. put_made found (in_bits.all_of f ps)) (sym (drop_more points i p h ∙ ap (λ q. q ∷ drop (i + 1) points) (sym e)))
    ∙ k
  where
    rest : Made (List (List ℤ))
    rest = in_bits.all_of f (drop (i + 1) points)

-- a point at which the search stops
pub facets_stop : (f : Point → Made (List (List ℤ))) (points : List Point) (i : ℕ) (p : Point) (found : List (List ℤ)) (fault : Option Step.Wide) (all : Made (List (List ℤ))) → i < length points → p ≡ get_or points i p
    → FailsBy fault (f p) → put_made found (in_bits.all_of f (drop i points)) ≡ all → FailsBy fault all
facets_stop f points i p found fault all h e fails k =
    subst (FailsBy fault) (sym (ap (λ ps. put_made found (in_bits.all_of f ps)) (drop_more points i p h ∙ ap (λ q. q ∷ drop (i + 1) points) (sym e))) ∙ k)
    (FailsBy-bind fault (f p >>= after) (λ all. Ok (put_all found all)) (FailsBy-bind fault (f p) after fails))
  where
    after : List (List ℤ) → Made (List (List ℤ))
    after ys = in_bits.behind ys (in_bits.all_of f (drop (i + 1) points))

-- ---- lengths

pub made_clearing-wide : (count : ℕ) (line : List ℤ) (vs : List (List ℤ)) (c : Cleared) → in_bits.clearing line vs ≡ Ok c → AreWide count vs → IsWide count c
made_clearing-wide count line vs c e h = subst (IsWide count) (sym (value_of (clearing line vs) c (in_bits.clearing line vs) (clearing-made line vs) e)) (clearing-wide count line vs h)

pub made_behind-wide : (count n : ℕ) (line : List ℤ) (vs : List (List ℤ)) (c : Cleared) → in_bits.clearing line (take n (drop 1 vs)) ≡ Ok c → AreWide count vs → IsWide count c
made_behind-wide count n line vs c e h = made_clearing-wide count line (take n (drop 1 vs)) c e (wide_behind count n vs h)

pub made_given-wide : (count : ℕ) (line : List ℤ) (basis : List (List ℤ)) (c : Cleared) (pivot : List ℤ) (vs ws : List (List ℤ)) → in_bits.clearing line basis ≡ Ok c → c ≡ Given pivot vs → ws ≡ vs → AreWide count basis → AreWide count ws
made_given-wide count line basis c pivot vs ws e f g h = subst (AreWide count) (sym g) (part (subst (IsWide count) f (made_clearing-wide count line basis c e h)))
  where
    part : IsWide count (Given pivot vs) → AreWide count vs
    part k = k.1

pub made_remainder-wide : (count : ℕ) (line : List ℤ) (basis left : List (List ℤ)) (c : Cleared) → in_bits.clearing line basis ≡ Ok c → left ≡ remainder basis c → AreWide count basis → AreWide count left
made_remainder-wide count line basis left c e f h = remainder-wide count line basis left (f ∙ ap (remainder basis) (value_of (clearing line basis) c (in_bits.clearing line basis) (clearing-made line basis) e)) h

pub units_of-wide : (count : ℕ) (us : List (List ℤ)) → us ≡ units count → AreWide count us
units_of-wide count us e = subst (AreWide count) (sym e) (units-wide count)

pub made_pivots-wide : (count : ℕ) (us vs ps : List (List ℤ)) → us ≡ units count → in_bits.pivots us vs ≡ Ok ps → AreWide count ps
made_pivots-wide count us vs ps e f = subst (AreWide count) (sym (value_of (pivots us vs) ps (in_bits.pivots us vs) (pivots-made us vs) f)) (pivots_behind-wide count us [] vs (units_of-wide count us e))

pub made_directions-wide : (count : ℕ) (points : List Point) (rays : List (List ℤ)) (p : Point) (made : List (List ℤ)) → ArePoints count points → AreWide count rays → length p.numbers ≡ count → in_bits.directions points rays p ≡ Ok made → AreWide count made
made_directions-wide count points rays p made h k e f =
    subst (AreWide count) (sym (value_of (directions points rays p) made (in_bits.directions points rays p) (directions-made points rays p) f)) (directions-wide count points rays p h k e)

pub ruleset widths = (units_of-wide, made_pivots-wide, made_remainder-wide)

pub ruleset pivoting = (pivots_next, pivots_stop)

pub ruleset pointing = (made_directions-wide, point-length, point-same_length, facets_next, facets_stop)
