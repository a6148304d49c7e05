-- The parts of a basis so far, and one more: relations, groups of spots, and groups of their
-- multiples.
use Rattle.std.proofs.Common.{◌≡◌, ℕ, zero, suc, ◌+◌, ◌<◌, ◌≤◌, List, [], ◌∷◌, ◌++◌, length, drop, slice_get, Some, refl, sym, ap, subst, ◌∙◌, append_assoc, arith, ℤ, ◌*ℤ◌}
use Rattle.std.proofs.Common.{map}
use Rattle.linear_terms.specs.declared.col.Col.{Col}
use Rattle.linear_terms.specs.Polynomial.{Polynomial}
use Rattle.farkas_check.specs.declared.stratum.Change.{Change}
use Rattle.farkas_check.specs.declared.stratum.Relation.{Relation}
use Rattle.farkas_check.specs.declared.stratum.Spot.{Spot}
use Rattle.farkas_check.specs.Ratios.{Fraction, lowest_terms}
use Rattle.farkas_check.specs.Relations.{entry, term_count}
use Rattle.simplex.specs.Relations.{IsRelationWith}
use Rattle.elimination.specs.declared.inner.Inner.{Inner}
use Rattle.elimination.specs.declared.probes.Probe.{Probe}
use Rattle.elimination.specs.Around.{weight_at}
use Rattle.elimination.specs.BasisParts.{zero_tie, AreTied, AreGroups, IsGroupAt, values_below, multiples_over, AreWeightsAt}

-- ---- elements at places

-- the element at a place
pub record HasAt {A : Type 0} (xs : List A) (n : ℕ) : Type 0 where
  pub item : A
  pub is : slice_get xs n ≡ Some item
  pub behind : drop n xs ≡ item ∷ drop (n + 1) xs

pub has_at : {A : Type 0} (xs : List A) (n : ℕ) → n < length xs → HasAt xs n
has_at [] n h = absurd (omega (arith, h))
has_at (x ∷ xs) zero h = record { item = x; is = refl; behind = refl }
has_at (x ∷ xs) (suc n) h = next (has_at xs n (omega (arith, h)))
  where
    next : HasAt xs n → HasAt (x ∷ xs) (suc n)
    next k = record { item = k.item; is = k.is; behind = k.behind ∙ ap (λ (m : ℕ). k.item ∷ drop m (x ∷ xs)) more }
      where
        more : suc (n + 1) ≡ suc n + 1
        more = omega arith

pub entry-behind : (xs : List ℤ) (n : ℕ) → n < length xs → drop n xs ≡ entry xs n ∷ drop (n + 1) xs
entry-behind [] n h = absurd (omega (arith, h))
entry-behind (x ∷ xs) zero h = refl
entry-behind (x ∷ xs) (suc n) h = let more : suc (n + 1) ≡ suc n + 1 = omega arith in entry-behind xs n (omega (arith, h)) ∙ ap (λ (m : ℕ). entry xs n ∷ drop m (x ∷ xs)) more

none-behind : {A : Type 0} (xs : List A) (n : ℕ) → length xs ≤ n → drop n xs ≡ []
none-behind [] zero e = refl
none-behind [] (suc n) e = refl
none-behind (x ∷ xs) zero e = absurd (omega (arith, e))
none-behind (x ∷ xs) (suc n) e = none-behind xs n (omega (arith, e))

nothing_more : {A : Type 0} (xs : List A) → xs ++ [] ≡ xs
nothing_more [] = refl
nothing_more (x ∷ xs) = ap (λ ys. x ∷ ys) (nothing_more xs)

-- ---- relations

-- relations of the first so many lines: with those of the others behind them they are those of all
pub record AreTiedSoFar (cases : List Change) (lower : List Polynomial) (lines : List (List ℤ)) (n : ℕ) (made : List Relation) : Type 0 where
  pub all : (rest : List Relation) → AreTied cases lower (drop n lines) rest → AreTied cases lower lines (made ++ rest)

pub tied-begin : (cases : List Change) (lower : List Polynomial) (lines : List (List ℤ)) → AreTiedSoFar cases lower lines 0 []
tied-begin cases lower lines = record { all = λ rest t. t }

pub tied-more : (cases : List Change) (lower : List Polynomial) (lines : List (List ℤ)) (n : ℕ) (made next : List Relation) (line : List ℤ) (relation : Relation) → slice_get lines n ≡ Some line → n < length lines → AreTiedSoFar cases lower lines n made
    → IsRelationWith (term_count cases) (length lower) line (map zero_tie cases) relation → next ≡ made ++ relation ∷ [] → AreTiedSoFar cases lower lines (n + 1) next
tied-more cases lower lines n made next line relation here h s r e = record {
  all = λ rest t.
      subst (AreTied cases lower lines) (sym (append_assoc made (relation ∷ []) rest) ∙ ap (λ (xs : List Relation). xs ++ rest) (sym e))
      (s.all (relation ∷ rest) (subst (λ (ls : List (List ℤ)). AreTied cases lower ls (relation ∷ rest)) (sym behind) (r, t)));
}
  where
    behind : drop n lines ≡ line ∷ drop (n + 1) lines
    behind = of_item (has_at lines n h)
      where
        of_item : HasAt lines n → drop n lines ≡ line ∷ drop (n + 1) lines
        of_item k = let same : k.item ≡ line = let both : Some k.item ≡ Some line = sym k.is ∙ here in cc in k.behind ∙ ap (λ (x : List ℤ). x ∷ drop (n + 1) lines) same

pub tied-end : (cases : List Change) (lower : List Polynomial) (lines : List (List ℤ)) (n : ℕ) (made : List Relation) → length lines ≤ n → AreTiedSoFar cases lower lines n made → AreTied cases lower lines made
tied-end cases lower lines n made e s = subst (AreTied cases lower lines) (nothing_more made) (s.all [] (subst (λ (ls : List (List ℤ)). AreTied cases lower ls []) (sym (none-behind lines n e)) refl))

-- ---- groups of spots

pub record AreGroupsSoFar (cs : List (List Col)) (cases : List Change) (probes : List Probe) (inners : List Inner) (n : ℕ) (made : List Spot) : Type 0 where
  pub all : (rest : List Spot) → AreGroups cs cases (drop n probes) (drop n inners) rest → AreGroups cs cases probes inners (made ++ rest)

pub groups-begin : (cs : List (List Col)) (cases : List Change) (probes : List Probe) (inners : List Inner) → AreGroupsSoFar cs cases probes inners 0 []
groups-begin cs cases probes inners = record { all = λ rest g. g }

pub groups-more : (cs : List (List Col)) (cases : List Change) (probes : List Probe) (inners : List Inner) (n : ℕ) (made next group : List Spot) → n < length probes → length inners ≡ length probes → AreGroupsSoFar cs cases probes inners n made → IsGroupAt cs cases probes inners n group → next ≡ made ++ group
    → AreGroupsSoFar cs cases probes inners (n + 1) next
groups-more cs cases probes inners n made next group h many s at e = with_items (has_at probes n h) (has_at inners n (omega (arith, h, many)))
  where
    with_items : HasAt probes n → HasAt inners n → AreGroupsSoFar cs cases probes inners (n + 1) next
    with_items p i = record {
      all = λ rest g.
          subst (AreGroups cs cases probes inners) (sym (append_assoc made group rest) ∙ ap (λ (xs : List Spot). xs ++ rest) (sym e))
          (s.all (group ++ rest) (subst (λ (ps : List Probe). AreGroups cs cases ps (drop n inners) (group ++ rest)) (sym p.behind)
          (subst (λ (is : List Inner). AreGroups cs cases (p.item ∷ drop (n + 1) probes) is (group ++ rest)) (sym i.behind)
          (group, (rest, (refl, (at.around p.item i.item p.is i.is, g)))))));
    }

pub groups-end : (cs : List (List Col)) (cases : List Change) (probes : List Probe) (inners : List Inner) (n : ℕ) (made : List Spot) → length probes ≤ n → AreGroupsSoFar cs cases probes inners n made → AreGroups cs cases probes inners made
groups-end cs cases probes inners n made e s =
    subst (AreGroups cs cases probes inners) (nothing_more made) (s.all [] (subst (λ (ps : List Probe). AreGroups cs cases ps (drop n inners) []) (sym (none-behind probes n e)) refl))

-- ---- groups of multiples

pub record AreMultiplesSoFar (columns : ℕ) (over : ℤ) (dual : List ℤ) (probes : List Probe) (inners : List Inner) (n : ℕ) (made : List Fraction) : Type 0 where
  pub all : made ++ multiples_over columns over (drop n dual) (drop n probes) (drop n inners) ≡ multiples_over columns over dual probes inners

pub multiples-begin : (columns : ℕ) (over : ℤ) (dual : List ℤ) (probes : List Probe) (inners : List Inner) → AreMultiplesSoFar columns over dual probes inners 0 []
multiples-begin columns over dual probes inners = record { all = refl }

listed-map : {A B : Type 0} (f : A → B) (n : ℕ) (g : ℕ → A) → map f (values_below n g) ≡ values_below n (λ i. f (g i))
listed-map f zero g = refl
listed-map f (suc n) g = ap (λ xs. f (g zero) ∷ xs) (listed-map f n (λ i. g (suc i)))

pub multiples-more : (columns : ℕ) (over : ℤ) (dual : List ℤ) (probes : List Probe) (inners : List Inner) (n : ℕ) (made next group : List Fraction) (taken : List ℤ) → n < length probes → length inners ≡ length probes → length dual ≡ length probes + 1
    → AreMultiplesSoFar columns over dual probes inners n made → AreWeightsAt columns probes inners n taken → group ≡ map (λ w. lowest_terms (entry dual n *ℤ w) over) taken → next ≡ made ++ group → AreMultiplesSoFar columns over dual probes inners (n + 1) next
multiples-more columns over dual probes inners n made next group taken h many long s at f e = with_items (has_at probes n h) (has_at inners n (omega (arith, h, many)))
  where
    with_items : HasAt probes n → HasAt inners n → AreMultiplesSoFar columns over dual probes inners (n + 1) next
    with_items p i = record { all = ap (λ (xs : List Fraction). xs ++ others) e ∙ append_assoc made group others ∙ ap (λ (xs : List Fraction). made ++ xs) (sym opened) ∙ s.all }
      where
        others : List Fraction
        others = multiples_over columns over (drop (n + 1) dual) (drop (n + 1) probes) (drop (n + 1) inners)

        own : group ≡ values_below (suc columns) (λ j. lowest_terms (entry dual n *ℤ weight_at columns i.item p.item.place j) over)
        own = f ∙ ap (map (λ w. lowest_terms (entry dual n *ℤ w) over)) (at.are p.item i.item p.is i.is) ∙ listed-map (λ w. lowest_terms (entry dual n *ℤ w) over) (suc columns) (weight_at columns i.item p.item.place)

        opened : multiples_over columns over (drop n dual) (drop n probes) (drop n inners) ≡ group ++ others
        opened =
            ap (λ (zs : List ℤ). multiples_over columns over zs (drop n probes) (drop n inners)) (entry-behind dual n (omega (arith, h, long)))
            ∙ ap (λ (ps : List Probe). multiples_over columns over (entry dual n ∷ drop (n + 1) dual) ps (drop n inners)) p.behind
            ∙ ap (λ (is : List Inner). multiples_over columns over (entry dual n ∷ drop (n + 1) dual) (p.item ∷ drop (n + 1) probes) is) i.behind
            ∙ ap (λ (xs : List Fraction). xs ++ others) (sym own)

pub multiples-end : (columns : ℕ) (over : ℤ) (dual : List ℤ) (probes : List Probe) (inners : List Inner) (n : ℕ) (made : List Fraction) → length probes ≤ n → AreMultiplesSoFar columns over dual probes inners n made → made ≡ multiples_over columns over dual probes inners
multiples-end columns over dual probes inners n made e s = sym (nothing_more made) ∙ ap (λ (xs : List Fraction). made ++ xs) (sym none) ∙ s.all
  where
    none : multiples_over columns over (drop n dual) (drop n probes) (drop n inners) ≡ []
    none = ap (λ (ps : List Probe). multiples_over columns over (drop n dual) ps (drop n inners)) (none-behind probes n e)
