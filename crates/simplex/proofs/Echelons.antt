-- Lines that choose their last unknown: each is 0 at the unknowns behind its choice.
use Rattle.std.proofs.Common.{◌≡◌, ◌≢◌, ℕ, ◌+◌, ◌<◌, ◌≤◌, ◌⊎◌, inl, inr, Bool, true, false, cond, List, [], ◌∷◌, length, get_or, Ok, refl, sym, ap, subst, ◌∙◌, arith, ⊎_elim, ℤ, pos, negsuc, ◌-ℤ◌, ◌*ℤ◌, ◌<ℤ◌, zero, suc}
use Rattle.std.specs.Prelude.{Result, Err, IfOk, ◌++◌, map, int_lt, nat_lt, ◌==◌, ◌&&◌, ◌||◌, IsTrue, Option, None, Some}
use Rattle.std.specs.List.{list_all}
use Rattle.std.proofs.lemmas.Int.{ints}
use Rattle.std.proofs.lemmas.Bool.{cases_eq, cases_lt, eq-eqb, lt-ltb, false≢true}
use Rattle.std.proofs.lemmas.Bool.Decides.{Decides-int_eq}
use Rattle.std.proofs.Math.IntN.{*ℤ_comm, zero-*ℤ}
use Rattle.whole_numbers.proofs.Ring.{ring, *ℤ_cancel, one-*ℤ}
use Rattle.farkas_check.specs.Multiples.{is_zero}
use Rattle.farkas_check.specs.Ratios.{Fraction, IsLowest, whole}
use Rattle.farkas_check.specs.Relations.{entry, pivot, is_primitive, is_beyond, rises_after, is_rising, is_alone, is_reduced}
use Rattle.items.specs.Gives.{Gives}
use Rattle.simplex.specs.declared.stop.SearchStop.{SearchStop}
use Rattle.simplex.specs.Exchange.{cause, numbers_of, choices_of, exchange, IsTableauOf}
use Rattle.simplex.specs.Frames.{IsCleared, is_chosen}
use Rattle.simplex.specs.Search.{IsLineChoosing}
use Rattle.simplex.specs.declared.spots.Spots.{Spots}
use Rattle.simplex.specs.Spots.{AreSpots, EndsAtChoices, IsSpotTableau, IsRelationOf, HasPivot, AreRelations, spots_framed, common_denominator, numerators_over}
use Rattle.simplex.specs.Suprema.{SlopeAt, IsRayOf}
use Rattle.whole_numbers.specs.Divisors.{gcd_of_all}
use Rattle.simplex.specs.declared.tableau.Tableau.{Tableau}
use Rattle.simplex.proofs.Certificates.{lt_true as int_lt_true}
use Rattle.simplex.proofs.ColumnChoices.{is_chosen-at, chosen_by}
use Rattle.simplex.proofs.Denominators.{AreLowest, AreNumerators, numerators_of, denominator-positive, numerators-primitive}
use Rattle.simplex.proofs.Divisors.{exchange-primitive}
use Rattle.simplex.proofs.Exchanges.{times_zero, vanishes, both_zero}
use Rattle.simplex.proofs.RowTableaux.{at_front, after_front, long}
use Rattle.simplex.proofs.Lines.{upright-length}
use Rattle.simplex.proofs.Numbers.{ExchangeAt, exchange-is, exchange-keeps}
use Rattle.simplex.proofs.SpotFrames.{numerators-length}

-- an exchange at the last unknown at which a line is not 0 keeps this
pub ends-exchanged : (count : ℕ) (t made : Tableau) (line column : ℕ) → ExchangeAt t made line column → line < length t.lines → column < count → ((j : ℕ) → column < j → j < count → numbers_of t line j ≡ pos 0) → EndsAtChoices count t → EndsAtChoices count made
ends-exchanged count t made line column x here within last ends i j h after before =
    ⊎_elim (λ (same : i ≡ line). at_line same) (λ other. elsewhere other (x.numbers.line_without i inside other)) (cases_eq i line)
  where
    inside : i < length t.lines
    inside = subst (λ (n : ℕ). i < n) x.many h

    beyond_zero : column < j → numbers_of made line j ≡ pos 0
    beyond_zero beyond = x.numbers.upright j ∙ ap (λ z. x.numbers.sign *ℤ z) (last j beyond before) ∙ times_zero x.numbers.sign

    at_line : i ≡ line → numbers_of made i j ≡ pos 0
    at_line same = ap (λ (k : ℕ). numbers_of made k j) same ∙ beyond_zero (subst (λ (n : ℕ). n < j) (ap (choices_of made) same ∙ x.choices.there) after)

    no_part : (factor new p old q other : ℤ) → pos 0 <ℤ factor → factor *ℤ new ≡ p *ℤ old -ℤ q *ℤ other → old ≡ pos 0 → q ≡ pos 0 → new ≡ pos 0
    no_part factor new p old q other positive e f g = vanishes factor new positive (e ∙ rw (f, g, times_zero p, zero-*ℤ other) refl)

    elsewhere : i ≢ line → IsCleared (numbers_of t i) (numbers_of made line) (numbers_of made i) column → numbers_of made i j ≡ pos 0
    elsewhere other s = ⊎_elim
        (λ (early : choices_of t i < column). no_part s.factor (numbers_of made i j) (numbers_of made line column) (numbers_of t i j) (numbers_of t i column) (numbers_of made line j) s.positive (s.is j) own (ends i column inside early within))
        (λ (late : column ≤ choices_of t i). both_zero s.factor (numbers_of made i j) (numbers_of made line column) (numbers_of t i j) (numbers_of t i column) (numbers_of made line j) s.positive (s.is j) own (beyond_zero (omega (arith, late, behind))))
        (cases_lt (choices_of t i) column)
      where
        behind : choices_of t i < j
        behind = subst (λ (n : ℕ). n < j) (x.choices.elsewhere i inside other) after

        own : numbers_of t i j ≡ pos 0
        own = ends i j inside behind before

pub spot-exchanged : (count : ℕ) (lines : List (List ℤ)) (t made : Tableau) (line column : ℕ) → IsSpotTableau count lines t → line < length lines → column < count → (numbers_of t line column ≡ pos 0 → ⊥) → ((j : ℕ) → column < j → j < count → numbers_of t line j ≡ pos 0) → exchange t line column ≡ Ok made → IsSpotTableau count lines made
spot-exchanged count lines t made line column s here within some last e = with_is (exchange-is (count + length t.lines) t made line column s.tableau.shape inside some (λ made m. upright-length column (get_or t.lines line []) made m ∙ s.tableau.shape.wide line inside) e)
  where
    inside : line < length t.lines
    inside = subst (λ (n : ℕ). line < n) (sym s.many) here

    with_is : ExchangeAt t made line column → IsSpotTableau count lines made
    with_is x = record { many = x.many ∙ s.many; tableau = exchange-keeps count (numbers_of (spots_framed count lines)) t made line column s.tableau inside (omega (arith, within)) some e; primitive = exchange-primitive count (numbers_of (spots_framed count lines)) t made line column s.tableau inside (omega (arith, within)) some s.primitive e; ends = ends-exchanged count t made line column x inside within last s.ends }

-- ---- the relation of an unknown

-- some line chooses the column, or none does
choice_of : (t : Tableau) (own : ℕ) → ((k : ℕ) × ((k < length t.lines) × (choices_of t k ≡ own))) ⊎ ((k : ℕ) → k < length t.lines → choices_of t k ≢ own)
choice_of t own = go (is_chosen (length t.lines) (choices_of t) own) refl
  where
    go : (b : Bool) → is_chosen (length t.lines) (choices_of t) own ≡ b → ((k : ℕ) × ((k < length t.lines) × (choices_of t k ≡ own))) ⊎ ((k : ℕ) → k < length t.lines → choices_of t k ≢ own)
    go true e = inl (chosen_by (length t.lines) (choices_of t) own e)
    go false e = inr (λ k h f. absurd (false≢true (sym e ∙ ap (is_chosen (length t.lines) (choices_of t)) (sym f) ∙ is_chosen-at (length t.lines) (choices_of t) k h)))

lowest_each : (rs : List Fraction) → ((j : ℕ) → j < length rs → IsLowest (get_or rs j (whole (pos 0)))) → AreLowest rs
lowest_each [] f = tt
lowest_each (r ∷ rs) f = (f 0 (omega arith), lowest_each rs (λ j h. f (suc j) (omega (arith, h))))

pub numerator_at : (m : ℤ) (rs : List Fraction) (ns : List ℤ) (j : ℕ) → AreNumerators m rs ns → j < length ns → entry ns j *ℤ (get_or rs j (whole (pos 0))).den ≡ (get_or rs j (whole (pos 0))).num *ℤ m
numerator_at m [] ns j a h = absurd (let e : length ns ≡ 0 = ap length a in omega (arith, e, h))
numerator_at m (r ∷ rs) [] j a h = absurd a
numerator_at m (r ∷ rs) (n ∷ ns) zero a h = a.0
numerator_at m (r ∷ rs) (n ∷ ns) (suc j) a h = numerator_at m rs ns j a.1 (omega (arith, h))

pub relation-is : (count : ℕ) (t : Tableau) (unknown : ℕ) (rs : List Fraction) (m : ℤ) (ns : List ℤ) → unknown < count → IsRayOf t unknown true count rs → common_denominator rs ≡ Ok m → numerators_over m rs ≡ Ok ns → IsRelationOf count t unknown ns
relation-is count t unknown rs m ns here ray e f = record {
  each = each;
  positive = subst (λ (z : ℤ). pos 0 <ℤ z) (sym own_is) (denominator-positive rs m lowest e);
  chosen = λ k h within other. at_chosen (choices_of t k) k h within other (ray.same (choices_of t k) within) refl;
  free = λ own within other none. at_free own within (ray.same own within) other none;
  primitive = numerators-primitive rs m ns unknown lowest e f (subst (λ (n : ℕ). unknown < n) (sym each) here) own_is;
}
  where
    each : length ns ≡ count
    each = numerators-length m rs ns f ∙ ray.each

    lowest : AreLowest rs
    lowest = lowest_each rs (λ j h. (ray.same j (subst (λ (n : ℕ). j < n) ray.each h)).lowest)

    at : (j : ℕ) → j < count → entry ns j *ℤ (get_or rs j (whole (pos 0))).den ≡ (get_or rs j (whole (pos 0))).num *ℤ m
    at j h = numerator_at m rs ns j (numerators_of rs m ns lowest e f) (subst (λ (n : ℕ). j < n) (sym each) h)

    own_is : entry ns unknown ≡ m
    own_is = times_one (entry ns unknown) ∙ subst (λ (r : Fraction). entry ns unknown *ℤ r.den ≡ r.num *ℤ m) ((ray.same unknown here).here refl) (at unknown here) ∙ one-*ℤ m
      where
        times_one : (z : ℤ) → z ≡ z *ℤ pos 1
        times_one z = sym (*ℤ_comm z (pos 1) ∙ one-*ℤ z)

    at_chosen : (own k : ℕ) → k < length t.lines → own < count → own ≢ unknown → SlopeAt t unknown true own (get_or rs own (whole (pos 0))) → choices_of t k ≡ own → entry ns own *ℤ numbers_of t k own ≡ numbers_of t k unknown *ℤ negsuc 0 *ℤ entry ns unknown
    at_chosen own k h within other s same =
        *ℤ_cancel (entry ns own *ℤ numbers_of t k own) (numbers_of t k unknown *ℤ negsuc 0 *ℤ entry ns unknown) (get_or rs own (whole (pos 0))).den s.lowest.positive
        (slide (entry ns own) (numbers_of t k own) (get_or rs own (whole (pos 0))).den ∙ ap (λ z. z *ℤ numbers_of t k own) (at own within)
        ∙ slide (get_or rs own (whole (pos 0))).num m (numbers_of t k own) ∙ ap (λ z. z *ℤ m) (s.chosen other k h same)
        ∙ slide (numbers_of t k unknown *ℤ negsuc 0) (get_or rs own (whole (pos 0))).den m ∙ ap (λ z. numbers_of t k unknown *ℤ negsuc 0 *ℤ z *ℤ (get_or rs own (whole (pos 0))).den) (sym own_is))
      where
        slide : (a b c : ℤ) → a *ℤ b *ℤ c ≡ a *ℤ c *ℤ b
        slide a b c = simp ring (omega (arith, ints))

    at_free : (own : ℕ) → own < count → SlopeAt t unknown true own (get_or rs own (whole (pos 0))) → own ≢ unknown → ((k : ℕ) → k < length t.lines → choices_of t k ≢ own) → entry ns own ≡ pos 0
    at_free own within s other none =
        vanishes (get_or rs own (whole (pos 0))).den (entry ns own) s.lowest.positive
        (*ℤ_comm (get_or rs own (whole (pos 0))).den (entry ns own) ∙ at own within ∙ ap (λ z. z *ℤ m) (s.free other none) ∙ zero-*ℤ m)

-- it is 0 at each other unknown that no line chooses, and at those before its own
pub relation-before : (count units : ℕ) (frame : ℕ → ℕ → ℤ) (t : Tableau) (unknown : ℕ) (ns : List ℤ) → IsTableauOf units frame t → EndsAtChoices count t → unknown < count → IsRelationOf count t unknown ns → (own : ℕ) → own < unknown → entry ns own ≡ pos 0
relation-before count units frame t unknown ns s ends here r own h =
    ⊎_elim (λ (c : (k : ℕ) × ((k < length t.lines) × (choices_of t k ≡ own))). chosen c.0 c.1.0 c.1.1) (λ none. r.free own (omega (arith, h, here)) (λ e. omega (arith, e, h)) none) (choice_of t own)
  where
    chosen : (k : ℕ) → k < length t.lines → choices_of t k ≡ own → entry ns own ≡ pos 0
    chosen k g e = subst (λ (n : ℕ). entry ns n ≡ pos 0) e
        (vanishes (numbers_of t k (choices_of t k)) (entry ns (choices_of t k)) (s.is.own k g)
        (*ℤ_comm (numbers_of t k (choices_of t k)) (entry ns (choices_of t k)) ∙ r.chosen k g (omega (arith, e, h, here)) (λ f. omega (arith, f, e, h))
        ∙ ap (λ z. z *ℤ negsuc 0 *ℤ entry ns unknown) (ends k unknown g (omega (arith, e, h)) here) ∙ ap (λ z. z *ℤ entry ns unknown) (zero-*ℤ (negsuc 0)) ∙ zero-*ℤ (entry ns unknown)))

not_zero : (z : ℤ) → (z ≡ pos 0 → ⊥) → is_zero z ≡ false
not_zero z h = go (is_zero z) refl
  where
    go : (b : Bool) → is_zero z ≡ b → is_zero z ≡ false
    go true e = absurd (h ((Decides-int_eq z (pos 0)).0 e))
    go false e = e

zero_is : (z : ℤ) → z ≡ pos 0 → is_zero z ≡ true
zero_is z h = (Decides-int_eq z (pos 0)).1 h

pivot-at : (ns : List ℤ) (u : ℕ) → u < length ns → ((j : ℕ) → j < u → entry ns j ≡ pos 0) → (entry ns u ≡ pos 0 → ⊥) → pivot ns ≡ u
pivot-at [] u h b n = absurd (omega (arith, h))
pivot-at (z ∷ zs) zero h b n = ap (λ (t : Bool). cond t (suc (pivot zs)) 0) (not_zero z n)
pivot-at (z ∷ zs) (suc u) h b n = ap (λ (t : Bool). cond t (suc (pivot zs)) 0) (zero_is z (b 0 (omega arith))) ∙ ap (λ (k : ℕ). suc k) (pivot-at zs u (omega (arith, h)) (λ j g. b (suc j) (omega (arith, g))) n)

pub relation-pivot : (count units : ℕ) (frame : ℕ → ℕ → ℤ) (t : Tableau) (unknown : ℕ) (ns : List ℤ) → IsTableauOf units frame t → EndsAtChoices count t → unknown < count → IsRelationOf count t unknown ns → pivot ns ≡ unknown
relation-pivot count units frame t unknown ns s ends here r =
    pivot-at ns unknown (subst (λ (n : ℕ). unknown < n) (sym r.each) here) (relation-before count units frame t unknown ns s ends here r) (λ e. positive (entry ns unknown) r.positive e)
  where
    positive : (z : ℤ) → pos 0 <ℤ z → z ≡ pos 0 → ⊥
    positive z h e = omega (arith, ints, h, e)

-- ---- all relations

pub no_relations : (count : ℕ) (t : Tableau) → AreRelations count t 0 []
no_relations count t = record {
  each = λ i h. absurd (omega (arith, h));
  within = λ i h. absurd (omega (arith, h));
  free = λ i k h g. absurd (omega (arith, h));
  rising = λ i j h g. absurd (omega (arith, g));
  all = λ u h none. absurd (omega (arith, h));
}

pub relations-skip : (count : ℕ) (t : Tableau) (place line : ℕ) (relations : List (List ℤ)) → line < length t.lines → choices_of t line ≡ place → AreRelations count t place relations → AreRelations count t (place + 1) relations
relations-skip count t place line relations here own a = record {
  each = a.each;
  within = λ i h. let b : pivot (get_or relations i []) < place = a.within i h in omega (arith, b);
  free = a.free;
  rising = a.rising;
  all = λ u h none. ⊎_elim (λ (same : u ≡ place). absurd (none line here (own ∙ sym same))) (λ other. a.all u (omega (arith, h, other)) none) (cases_eq u place);
}

pub relations-more : (count units : ℕ) (frame : ℕ → ℕ → ℤ) (t : Tableau) (place : ℕ) (relations : List (List ℤ)) (ns : List ℤ) → IsTableauOf units frame t → EndsAtChoices count t → place < count → ((k : ℕ) → k < length t.lines → choices_of t k ≢ place) → IsRelationOf count t place ns
    → AreRelations count t place relations → AreRelations count t (place + 1) (relations ++ ns ∷ [])
relations-more count units frame t place relations ns s ends here none r a = record {
  each = λ i h. by_place (λ xs. IsRelationOf count t (pivot xs) xs) i h (λ g. a.each i g) (subst (λ (n : ℕ). IsRelationOf count t n ns) (sym own) r);
  within = λ i h. by_place (λ xs. pivot xs < place + 1) i h (λ g. let b : pivot (get_or relations i []) < place = a.within i g in omega (arith, b)) (omega (arith, own));
  free = λ i k h g. by_place (λ xs. choices_of t k ≢ pivot xs) i h (λ f. a.free i k f g) (λ e. none k g (e ∙ own));
  rising = λ i j h g. by_place (λ xs. pivot (get_or (relations ++ ns ∷ []) i []) < pivot xs) j g
      (λ f. let before : i < length relations = omega (arith, h, f) in subst (λ (xs : List ℤ). pivot xs < pivot (get_or relations j [])) (sym (at_front relations (ns ∷ []) [] i before)) (a.rising i j h f))
      (let before : i < length relations = in_front i j h g in subst (λ (xs : List ℤ). pivot xs < pivot ns) (sym (at_front relations (ns ∷ []) [] i before)) (let b : pivot (get_or relations i []) < place = a.within i before in omega (arith, b, own)));
  all = λ u h apart. ⊎_elim (λ (same : u ≡ place). last_pivot u same) (λ other. front_pivot u (a.all u (omega (arith, h, other)) apart)) (cases_eq u place);
}
  where
    own : pivot ns ≡ place
    own = relation-pivot count units frame t place ns s ends here r

    longer : length (relations ++ ns ∷ []) ≡ length relations + 1
    longer = long relations (ns ∷ [])

    last_pivot : (u : ℕ) → u ≡ place → HasPivot u (relations ++ ns ∷ [])
    last_pivot u same = (length relations, (omega (arith, longer), (let f : length relations ≡ length relations + 0 = omega arith in ap (λ (n : ℕ). pivot (get_or (relations ++ ns ∷ []) n [])) f ∙ ap pivot (after_front relations (ns ∷ []) [] 0)) ∙ own ∙ sym same))

    front_pivot : (u : ℕ) → HasPivot u relations → HasPivot u (relations ++ ns ∷ [])
    front_pivot u p = let h : p.0 < length relations = p.1.0 in (p.0, (omega (arith, longer, h), ap pivot (at_front relations (ns ∷ []) [] p.0 h) ∙ p.1.1))

    in_front : (i j : ℕ) → i < j → j < length (relations ++ ns ∷ []) → i < length relations
    in_front i j h g = let e : length (relations ++ ns ∷ []) ≡ length relations + 1 = long relations (ns ∷ []) in omega (arith, e, h, g)

    by_place : (P : List ℤ → Type 0) (i : ℕ) → i < length (relations ++ ns ∷ []) → (i < length relations → P (get_or relations i [])) → P ns → P (get_or (relations ++ ns ∷ []) i [])
    by_place P i h front last =
        ⊎_elim (λ (g : i < length relations). subst P (sym (at_front relations (ns ∷ []) [] i g)) (front g))
        (λ (g : length relations ≤ i). let e : length (relations ++ ns ∷ []) ≡ length relations + 1 = long relations (ns ∷ []) in let f : i ≡ length relations + 0 = omega (arith, e, g, h) in
        subst P (sym (ap (λ (n : ℕ). get_or (relations ++ ns ∷ []) n []) f ∙ after_front relations (ns ∷ []) [] 0)) last) (cases_lt i (length relations))

-- ---- reduced

both : (a b : Bool) → a ≡ true → b ≡ true → a && b ≡ true
both a b e f = rw (e, f) refl

all_pass : {X : Type 0} (p : X → Bool) (xs : List X) (d : X) → ((i : ℕ) → i < length xs → p (get_or xs i d) ≡ true) → list_all p xs ≡ true
all_pass p [] d f = refl
all_pass p (x ∷ xs) d f = both (p x) (list_all p xs) (f 0 (omega arith)) (all_pass p xs d (λ i h. f (suc i) (omega (arith, h))))

lt_true : (a b : ℕ) → a < b → nat_lt a b ≡ true
lt_true a b h = lt-ltb a b h

rises : (last : Option ℕ) (ls : List (List ℤ)) → ((i : ℕ) → i < length ls → is_beyond last (pivot (get_or ls i [])) ≡ true) → ((i j : ℕ) → i < j → j < length ls → pivot (get_or ls i []) < pivot (get_or ls j [])) → rises_after last (map pivot ls) ≡ true
rises last [] f g = refl
rises last (l ∷ ls) f g =
    both (is_beyond last (pivot l)) (rises_after (Some (pivot l)) (map pivot ls)) (f 0 (omega arith))
    (rises (Some (pivot l)) ls (λ i h. lt_true (pivot l) (pivot (get_or ls i [])) (g 0 (suc i) (omega arith) (omega (arith, h)))) (λ i j h k. g (suc i) (suc j) (omega (arith, h)) (omega (arith, k))))

mapped : (ls : List (List ℤ)) (P : ℕ → Bool) → ((i : ℕ) → i < length ls → P (pivot (get_or ls i [])) ≡ true) → list_all P (map pivot ls) ≡ true
mapped [] P f = refl
mapped (l ∷ ls) P f = both (P (pivot l)) (list_all P (map pivot ls)) (f 0 (omega arith)) (mapped ls P (λ i h. f (suc i) (omega (arith, h))))

-- The relations of all unknowns that no line chooses stand in reduced echelon form.
pub relations-reduced : (count : ℕ) (t : Tableau) (relations : List (List ℤ)) → AreRelations count t count relations → IsTrue (is_reduced relations)
relations-reduced count t relations a =
    both (list_all is_primitive relations) (is_rising (map pivot relations) && list_all (is_alone (map pivot relations)) relations)
    (all_pass is_primitive relations [] (λ i h. primitive (get_or relations i []) (a.each i h)))
    (both (is_rising (map pivot relations)) (list_all (is_alone (map pivot relations)) relations) (rises None relations (λ i h. refl) a.rising)
    (all_pass (is_alone (map pivot relations)) relations [] (λ i h. mapped relations (λ (p : ℕ). p == pivot (get_or relations i []) || is_zero (entry (get_or relations i []) p)) (λ j g. alone i j h g))))
  where
    primitive : (ns : List ℤ) → IsRelationOf count t (pivot ns) ns → is_primitive ns ≡ true
    primitive ns r = both (int_lt (pos 0) (entry ns (pivot ns))) (gcd_of_all ns == 1) (above (entry ns (pivot ns)) r.positive) (eq-eqb (gcd_of_all ns) 1 r.primitive)
      where
        above : (z : ℤ) → pos 0 <ℤ z → int_lt (pos 0) z ≡ true
        above z h = int_lt_true (pos 0) z h

    alone : (i j : ℕ) → i < length relations → j < length relations → pivot (get_or relations j []) == pivot (get_or relations i []) || is_zero (entry (get_or relations i []) (pivot (get_or relations j []))) ≡ true
    alone i j h g = by_place (cases_eq (pivot (get_or relations j [])) (pivot (get_or relations i [])))
      where
        or_left : (a b : Bool) → a ≡ true → a || b ≡ true
        or_left a b e = rw e refl

        or_right : (a b : Bool) → b ≡ true → a || b ≡ true
        or_right true b e = refl
        or_right false b e = e

        by_place : (pivot (get_or relations j []) ≡ pivot (get_or relations i [])) ⊎ (pivot (get_or relations j []) ≢ pivot (get_or relations i [])) → pivot (get_or relations j []) == pivot (get_or relations i []) || is_zero (entry (get_or relations i []) (pivot (get_or relations j []))) ≡ true
        by_place (inl e) = or_left (pivot (get_or relations j []) == pivot (get_or relations i [])) (is_zero (entry (get_or relations i []) (pivot (get_or relations j [])))) (eq-eqb (pivot (get_or relations j [])) (pivot (get_or relations i [])) e)
        by_place (inr e) = or_right (pivot (get_or relations j []) == pivot (get_or relations i [])) (is_zero (entry (get_or relations i []) (pivot (get_or relations j []))))
            (zero_is (entry (get_or relations i []) (pivot (get_or relations j []))) ((a.each i h).free (pivot (get_or relations j [])) (a.within j g) e (λ k f. a.free j k g f)))

-- ---- what the code makes

pub relation-given : (r : Result (List ℤ) SearchStop) (count : ℕ) (t : Tableau) (unknown : ℕ) (rs : List Fraction) (m : ℤ) → unknown < count → IsRayOf t unknown true count rs → common_denominator rs ≡ Ok m → Gives cause (λ (made : List ℤ). made) r (numerators_over m rs) → IfOk r (λ ns. IsRelationOf count t unknown ns)
relation-given (Ok ns) count t unknown rs m here ray e g = relation-is count t unknown rs m ns here ray e g
relation-given (Err stop) count t unknown rs m here ray e g = tt

pub relations-with : (count : ℕ) (known : Spots) (place : ℕ) (relations made : List (List ℤ)) (ns : List ℤ) (found : Option ℕ) → AreSpots count known → place < count → IsLineChoosing known.tableau.chosen place found → found ≡ None → IsRelationOf count known.tableau place ns → AreRelations count known.tableau place relations
    → made ≡ relations ++ ns ∷ [] → AreRelations count known.tableau (place + 1) made
relations-with count known place relations made ns found s here l none r a e =
    subst (AreRelations count known.tableau (place + 1)) (sym e)
    (relations-more count count (numbers_of (spots_framed count known.lines)) known.tableau place relations ns s.tableau.tableau s.tableau.ends here
    (λ k h. at_none k (subst (λ (n : ℕ). k < n) (sym s.tableau.tableau.shape.choices) h)) r a)
  where
    none_chooses : IsLineChoosing known.tableau.chosen place None
    none_chooses = subst (IsLineChoosing known.tableau.chosen place) none l

    at_none : (k : ℕ) → k < length known.tableau.chosen → choices_of known.tableau k ≢ place
    at_none = none_chooses
