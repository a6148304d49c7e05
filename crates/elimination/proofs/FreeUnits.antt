-- The multiples that duals give for the spots around inner points make units of the unknowns that
-- are no pivot.
use Rattle.std.proofs.Common.{◌≡◌, ℕ, zero, suc, ◌+◌, ◌*◌, ◌^◌, ◌<◌, ◌≤◌, Bool, true, false, cond, List, [], ◌∷◌, ◌++◌, map, length, get_or, Result, Ok, refl, sym, ap, subst, ◌∙◌, arith, ℤ, pos, ◌+ℤ◌, ◌*ℤ◌, ◌<ℤ◌}
use Rattle.std.specs.Prelude.{◌==◌, unsigned_abs}
use Rattle.std.specs.List.{AllByRecursion, zip}
use Rattle.std.specs.Ordering.{int_eq}
use Rattle.std.proofs.lemmas.Int.{ints}
use Rattle.std.proofs.lemmas.Bool.{eq-eqb}
use Rattle.std.proofs.lemmas.Bool.Decides.{Decides-int_eq}
use Rattle.std.proofs.lemmas.List.{length-append, length-map}
use Rattle.items.specs.Gives.{◌>>=◌}
use Rattle.whole_numbers.specs.declared.wide.Wide as Step
use Rattle.whole_numbers.proofs.Ring.{ring, *ℤ_cancel, *ℤ-positive, *ℤ_left_comm, *ℤ-+ℤ, unsigned_abs-+ℤ}
use Rattle.linear_terms.specs.declared.col.Col.{Col}
use Rattle.linear_terms.specs.Polynomial.{Polynomial}
use Rattle.farkas_check.specs.declared.stratum.Change.{Change}
use Rattle.farkas_check.specs.declared.stratum.Spot.{Spot}
use Rattle.farkas_check.specs.Calm.{paired_sum}
use Rattle.farkas_check.specs.Frames.{line_of, sum_below}
use Rattle.farkas_check.specs.Parts.{and_then}
use Rattle.farkas_check.specs.Ratios.{Fraction, whole, lowest_terms}
use Rattle.farkas_check.specs.Relations.{Side, sides, entry, free_places}
use Rattle.farkas_check.specs.Stratum.{all_of, terms_of, rows_of, spots_from, spot_side, is_exactly, unit_at, unit_test_at, tested_unit, tested_free}
use Rattle.simplex.proofs.Certificates.{sum_below-first}
use Rattle.simplex.proofs.Small.{product-small, product_of-fits}
use Rattle.simplex.proofs.Sums.{sum_below-same}
use Rattle.simplex.proofs.Widths.{IsRatio, IsShare, shared, factor_small, IsRatio-nothing}
use Rattle.elimination.specs.declared.inner.Inner.{Inner}
use Rattle.elimination.specs.declared.probes.Probe.{Probe}
use Rattle.elimination.specs.Around.{AreAround, around_value, weight_at, WeightsRead}
use Rattle.elimination.specs.BasisParts.{AreInners, AreGroups, values_below, multiples_over, dual_multiples}
use Rattle.elimination.specs.Probes.{read_at, one_at, side_at, probe_at, IsDual, IsProbe, IsInner}
use Rattle.elimination.proofs.FreeGroups.{group-numerators, Reaches, group-reaches}
use Rattle.elimination.proofs.FreePlaces.{free-same, all_of-places, all_of-pairs}
use Rattle.elimination.proofs.FreeSums.{HasRatio, IsRatio-scaled, IsRatio-unscaled, side_by, side_at-by, IsSmallSide, side-size, side-read, multiple-read}
use Rattle.elimination.proofs.WeightSizes.{AreWithin, entry-size, around_value-size, read_at-size, over-size, weight_at-size}

-- what stands at the unknowns of each case is small, and there are few columns
pub record AreSmallSides (cs : List (List Col)) (cases : List Change) (lower : List Polynomial) : Type 0 where
  pub few : length cs ≤ 3
  pub small : (case : ℕ) → AllByRecursion (IsSmallSide cs) (sides (terms_of cases case) lower)

-- the multiples of the values around any inner point read what each polynomial has at each place
pub record AreReading (cs : List (List Col)) : Type 0 where
  pub reads : (inner : Inner) (place : ℕ) (p : Polynomial) → length inner.numbers ≡ length cs → place ≤ length cs → WeightsRead cs inner place p

-- ---- the polynomial 1

read_at-one : (cs : List (List Col)) (place : ℕ) → read_at cs place (record { terms = []; rest = pos 1 }) ≡ one_at cs place
read_at-one [] zero = refl
read_at-one [] (suc place) = refl
read_at-one (c ∷ cs) zero = refl
read_at-one (c ∷ cs) (suc place) = read_at-one cs place

read_at-none : (cs : List (List Col)) (place : ℕ) → place < length cs → read_at cs place (record { terms = []; rest = pos 1 }) ≡ pos 0
read_at-none [] place h = absurd (omega (arith, h))
read_at-none (c ∷ cs) zero h = refl
read_at-none (c ∷ cs) (suc place) h = read_at-none cs place (omega (arith, h))

paired-one : (cs : List (List Col)) (numbers : List ℤ) (over : ℤ) → length numbers ≡ length cs → paired_sum (line_of cs (record { terms = []; rest = pos 1 })) (numbers ++ over ∷ []) ≡ over
paired-one [] [] over e = omega (arith, ints)
paired-one [] (z ∷ zs) over e = absurd (omega (arith, e))
paired-one (c ∷ cs) [] over e = absurd (omega (arith, e))
paired-one (c ∷ cs) (z ∷ zs) over e = ap (λ w. pos 0 *ℤ z +ℤ w) (paired-one cs zs over (omega (arith, e))) ∙ none z over
  where
    none : (x y : ℤ) → pos 0 *ℤ x +ℤ y ≡ y
    none x y = omega (arith, ints)

around_value-one : (cs : List (List Col)) (inner : Inner) (i : ℕ) → length inner.numbers ≡ length cs → i < length cs + 1 → around_value cs inner i (record { terms = []; rest = pos 1 }) ≡ pos 4 *ℤ inner.over
around_value-one cs inner zero e h = ap (λ z. pos 4 *ℤ z) (paired-one cs inner.numbers inner.over e)
around_value-one cs inner (suc column) e h =
    ap (λ z. pos 4 *ℤ z +ℤ read_at cs column (record { terms = []; rest = pos 1 })) (paired-one cs inner.numbers inner.over e)
    ∙ ap (λ z. pos 4 *ℤ inner.over +ℤ z) (read_at-none cs column (omega (arith, h))) ∙ right (pos 4 *ℤ inner.over)
  where
    right : (z : ℤ) → z +ℤ pos 0 ≡ z
    right z = omega (arith, ints)

one-read : (cs : List (List Col)) (inner : Inner) (place : ℕ) → AreReading cs → length inner.numbers ≡ length cs → place ≤ length cs
    → sum_below (length cs + 1) (λ i. weight_at (length cs) inner place i *ℤ (pos 4 *ℤ inner.over)) ≡ (pos 4 *ℤ inner.over) *ℤ one_at cs place
one-read cs inner place law e h =
    sum_below-same (length cs + 1) (λ i. weight_at (length cs) inner place i *ℤ (pos 4 *ℤ inner.over)) (λ i. weight_at (length cs) inner place i *ℤ around_value cs inner i (record { terms = []; rest = pos 1 }))
    (λ j k. ap (λ z. weight_at (length cs) inner place j *ℤ z) (sym (around_value-one cs inner j e k)))
    ∙ law.reads inner place (record { terms = []; rest = pos 1 }) e h
    ∙ ap (λ z. (pos 4 *ℤ inner.over) *ℤ z) (read_at-one cs place)

one_at-size : (cs : List (List Col)) (place : ℕ) → unsigned_abs (one_at cs place) ≤ 4
one_at-size [] zero = omega arith
one_at-size [] (suc place) = omega arith
one_at-size (c ∷ cs) zero = omega arith
one_at-size (c ∷ cs) (suc place) = one_at-size cs place

-- ---- one probe

side_at-size : (cs : List (List Col)) (place : ℕ) (ss : List Side) (unknown : ℕ) → AllByRecursion (IsSmallSide cs) ss → unsigned_abs (side_at cs place ss unknown) ≤ 4
side_at-size cs place ss unknown h =
    subst (λ z. unsigned_abs z ≤ 4) (sym (side_at-by cs place ss unknown))
    (side-size cs (read_at cs place) (one_at cs place) 4 ss unknown (one_at-size cs place) (λ p k. read_at-size 4 cs place p k.small) h)

group-read : (cs : List (List Col)) (inner : Inner) (place count : ℕ) (number : ℤ) (ss : List Side) (unknown : ℕ) → AreReading cs → length inner.numbers ≡ length cs → place ≤ length cs → count ≡ length cs + 1 → AllByRecursion (IsSmallSide cs) ss
    → sum_below count (λ i. side_by (around_value cs inner i) (pos 4 *ℤ inner.over) ss unknown *ℤ (number *ℤ weight_at (length cs) inner place i)) ≡ (pos 4 *ℤ inner.over) *ℤ (number *ℤ side_at cs place ss unknown)
group-read cs inner place count number ss unknown law e h many small =
    ap (λ (n : ℕ). sum_below n (λ i. side_by (around_value cs inner i) (pos 4 *ℤ inner.over) ss unknown *ℤ (number *ℤ weight_at (length cs) inner place i))) many
    ∙ multiple-read (length cs + 1) number (weight_at (length cs) inner place) (λ i. side_by (around_value cs inner i) (pos 4 *ℤ inner.over) ss unknown)
    ∙ ap (λ z. number *ℤ z)
    (side-read cs (length cs + 1) (weight_at (length cs) inner place) (around_value cs inner) (pos 4 *ℤ inner.over) (read_at cs place) (one_at cs place) ss unknown (λ p k. law.reads inner place p e h) (one-read cs inner place law e h) small)
    ∙ *ℤ_left_comm number (pos 4 *ℤ inner.over) (side_by (read_at cs place) (one_at cs place) ss unknown)
    ∙ ap (λ z. (pos 4 *ℤ inner.over) *ℤ (number *ℤ z)) (sym (side_at-by cs place ss unknown))

-- the sum goes on over the spots around one inner point: a dual's number times what the probe has
-- at the unknown is added
probe-reaches : (cs : List (List Col)) (cases : List Change) (lower : List Polynomial) (unknown : ℕ) (over number x : ℤ) (total : Fraction) (probe : Probe) (inner : Inner) (group rest : List Spot) (more : List Fraction)
    → AreReading cs → AreSmallSides cs cases lower → pos 0 <ℤ over → unsigned_abs over ≤ 481890304 → unsigned_abs number ≤ 481890304 → probe.place ≤ length cs → IsInner cs (rows_of cases probe.case) inner → AreAround cs cases probe.case inner group
    → IsRatio total x over → unsigned_abs x ≤ 2 ^ 40
    → Reaches (λ spot. spot_side cs cases lower spot unknown) total group rest (values_below (suc (length cs)) (λ i. lowest_terms (number *ℤ weight_at (length cs) inner probe.place i) over)) more (x +ℤ number *ℤ probe_at cs cases lower probe unknown) over
probe-reaches cs cases lower unknown over number x total probe inner group rest more law sides_small p ho hn place i around s hx =
    turn
    (group-reaches (λ spot. spot_side cs cases lower spot unknown) den over (λ j. side_by (around_value cs inner j) (pos 4 *ℤ inner.over) (sides (terms_of cases probe.case) lower) unknown) (λ j. number *ℤ weight_at (length cs) inner probe.place j)
    (12800000 * 2 ^ 40) (den *ℤ x) total group rest more above p bottom ho
    (λ j. product-small 481890304 67108864 number (weight_at (length cs) inner probe.place j) hn (weight_at-size cs (rows_of cases probe.case) inner probe.place j sides_small.few i))
    (group-numerators cs cases lower probe.case unknown den (around_value cs inner) group above (let b : unsigned_abs (pos 4 *ℤ inner.over) ≤ 12800000 = bottom in omega (arith, b)) around.case_is around.values
    (λ j q k. around_value-size cs (rows_of cases probe.case) inner j q sides_small.few i k.small) (sides_small.small probe.case))
    (IsRatio-scaled total x over den s) (product-small 12800000 (2 ^ 40) den x bottom hx)
    (let few : length cs ≤ 3 = sides_small.few in let each : length group ≡ length cs + 1 = around.each in omega (arith, few, each)))
  where
    den : ℤ
    den = pos 4 *ℤ inner.over

    above : pos 0 <ℤ (pos 4 *ℤ inner.over)
    above = *ℤ-positive (pos 4) inner.over (omega (arith, ints)) i.positive

    bottom : unsigned_abs (pos 4 *ℤ inner.over) ≤ 12800000
    bottom = over-size cs (rows_of cases probe.case) inner i

    many : length group ≡ suc (length cs)
    many = let each : length group ≡ length cs + 1 = around.each in omega (arith, each)

    whole_sum : den *ℤ x +ℤ sum_below (length group) (λ j. side_by (around_value cs inner j) (pos 4 *ℤ inner.over) (sides (terms_of cases probe.case) lower) unknown *ℤ (number *ℤ weight_at (length cs) inner probe.place j))
        ≡ den *ℤ (x +ℤ number *ℤ probe_at cs cases lower probe unknown)
    whole_sum =
        ap (λ z. den *ℤ x +ℤ z) (group-read cs inner probe.place (length group) number (sides (terms_of cases probe.case) lower) unknown law i.each place around.each (sides_small.small probe.case))
        ∙ sym (*ℤ-+ℤ den x (number *ℤ probe_at cs cases lower probe unknown))

    turn : Reaches (λ spot. spot_side cs cases lower spot unknown) total group rest (values_below (length group) (λ j. lowest_terms (number *ℤ weight_at (length cs) inner probe.place j) over)) more
        (den *ℤ x +ℤ sum_below (length group) (λ j. side_by (around_value cs inner j) (pos 4 *ℤ inner.over) (sides (terms_of cases probe.case) lower) unknown *ℤ (number *ℤ weight_at (length cs) inner probe.place j))) (den *ℤ over)
        → Reaches (λ spot. spot_side cs cases lower spot unknown) total group rest (values_below (suc (length cs)) (λ j. lowest_terms (number *ℤ weight_at (length cs) inner probe.place j) over)) more (x +ℤ number *ℤ probe_at cs cases lower probe unknown) over
    turn r = record {
      next = r.next;
      same = subst (λ (n : ℕ). spots_from (λ spot. spot_side cs cases lower spot unknown) total (group ++ rest) (values_below n (λ j. lowest_terms (number *ℤ weight_at (length cs) inner probe.place j) over) ++ more) ≡ spots_from (λ spot. spot_side cs cases lower spot unknown) r.next rest more) many r.same;
      ratio = IsRatio-unscaled r.next (x +ℤ number *ℤ probe_at cs cases lower probe unknown) over den above (subst (λ z. IsRatio r.next z (den *ℤ over)) whole_sum r.ratio);
    }

-- ---- all probes

inners-rest : (cs : List (List Col)) (cases : List Change) (probe : Probe) (probes : List Probe) (inner : Inner) (inners : List Inner) → AreInners cs cases (probe ∷ probes) (inner ∷ inners) → AreInners cs cases probes inners
inners-rest cs cases probe probes inner inners h = record {
  each = let each : suc (length inners) ≡ suc (length probes) = h.each in omega (arith, each);
  inside = λ i p n e f. h.inside (suc i) p n e f;
}

pub groups-reach : (cs : List (List Col)) (cases : List Change) (lower : List Polynomial) (unknown : ℕ) (over : ℤ) (b : ℕ) (x : ℤ) (total : Fraction) (probes : List Probe) (inners : List Inner) (numbers : List ℤ) (spots : List Spot)
    → AreReading cs → AreSmallSides cs cases lower → pos 0 <ℤ over → unsigned_abs over ≤ 481890304 → AreWithin 481890304 numbers → length probes ≤ length numbers → AllByRecursion (IsProbe cs cases) probes → AreInners cs cases probes inners → AreGroups cs cases probes inners spots
    → IsRatio total x over → unsigned_abs x ≤ b → b + length probes * 1927561216 ≤ 2 ^ 40
    → HasRatio (spots_from (λ spot. spot_side cs cases lower spot unknown) total spots (multiples_over (length cs) over numbers probes inners)) (x +ℤ sum_below (length probes) (λ j. entry numbers j *ℤ probe_at cs cases lower (get_or probes j (record { case = 0; place = 0 })) unknown)) over
groups-reach cs cases lower unknown over b x total [] inners numbers spots law small p ho hn long are in_probes g s hx room =
    subst (λ (ss : List Spot). HasRatio (spots_from (λ spot. spot_side cs cases lower spot unknown) total ss []) (x +ℤ pos 0) over) (sym g)
    (record { value = total; is = refl; ratio = subst (λ z. IsRatio total z over) (plain x) s })
  where
    plain : (z : ℤ) → z ≡ z +ℤ pos 0
    plain z = omega (arith, ints)
groups-reach cs cases lower unknown over b x total (probe ∷ probes) [] numbers spots law small p ho hn long are in_probes g s hx room = absurd g
groups-reach cs cases lower unknown over b x total (probe ∷ probes) (inner ∷ inners) [] spots law small p ho hn long are in_probes g s hx room = absurd (omega (arith, long))
groups-reach cs cases lower unknown over b x total (probe ∷ probes) (inner ∷ inners) (number ∷ numbers) spots law small p ho hn long are in_probes g s hx room =
    turn
    (probe-reaches cs cases lower unknown over number x total probe inner g.0 g.1.0 (multiples_over (length cs) over numbers probes inners) law small p ho hn.0 are.0.place (in_probes.inside zero probe inner refl refl) g.1.1.1.0 s (omega (arith, hx, room)))
    (λ next t. groups-reach cs cases lower unknown over (b + 1927561216) (x +ℤ number *ℤ probe_at cs cases lower probe unknown) next probes inners numbers g.1.0 law small p ho hn.1 (omega (arith, long)) are.1 (inners-rest cs cases probe probes inner inners in_probes) g.1.1.1.1 t size (omega (arith, room, opened)))
  where
    opened : suc (length probes) * 1927561216 ≡ length probes * 1927561216 + 1927561216
    opened = omega arith

    size : unsigned_abs (x +ℤ number *ℤ probe_at cs cases lower probe unknown) ≤ b + 1927561216
    size =
        let both : unsigned_abs (x +ℤ number *ℤ probe_at cs cases lower probe unknown) ≤ unsigned_abs x + unsigned_abs (number *ℤ probe_at cs cases lower probe unknown) = unsigned_abs-+ℤ x (number *ℤ probe_at cs cases lower probe unknown) in
        let part : unsigned_abs (number *ℤ probe_at cs cases lower probe unknown) ≤ 481890304 * 4 = product-small 481890304 4 number (probe_at cs cases lower probe unknown) hn.0 (side_at-size cs probe.place (sides (terms_of cases probe.case) lower) unknown (small.small probe.case)) in
        omega (arith, both, part, hx)

    added : ℤ
    added = sum_below (length probes) (λ j. entry numbers j *ℤ probe_at cs cases lower (get_or probes j (record { case = 0; place = 0 })) unknown)

    group : (a c e : ℤ) → a +ℤ c +ℤ e ≡ a +ℤ (c +ℤ e)
    group a c e = omega (arith, ints)

    all : x +ℤ number *ℤ probe_at cs cases lower probe unknown +ℤ added ≡ x +ℤ sum_below (suc (length probes)) (λ j. entry (number ∷ numbers) j *ℤ probe_at cs cases lower (get_or (probe ∷ probes) j (record { case = 0; place = 0 })) unknown)
    all = group x (number *ℤ probe_at cs cases lower probe unknown) added ∙ ap (λ z. x +ℤ z) (sym (sum_below-first (length probes) (λ j. entry (number ∷ numbers) j *ℤ probe_at cs cases lower (get_or (probe ∷ probes) j (record { case = 0; place = 0 })) unknown)))

    turn : Reaches (λ spot. spot_side cs cases lower spot unknown) total g.0 g.1.0 (values_below (suc (length cs)) (λ i. lowest_terms (number *ℤ weight_at (length cs) inner probe.place i) over)) (multiples_over (length cs) over numbers probes inners) (x +ℤ number *ℤ probe_at cs cases lower probe unknown) over
        → ((next : Fraction) → IsRatio next (x +ℤ number *ℤ probe_at cs cases lower probe unknown) over → HasRatio (spots_from (λ spot. spot_side cs cases lower spot unknown) next g.1.0 (multiples_over (length cs) over numbers probes inners)) (x +ℤ number *ℤ probe_at cs cases lower probe unknown +ℤ added) over)
        → HasRatio (spots_from (λ spot. spot_side cs cases lower spot unknown) total spots (multiples_over (length cs) over (number ∷ numbers) (probe ∷ probes) (inner ∷ inners)))
        (x +ℤ sum_below (suc (length probes)) (λ j. entry (number ∷ numbers) j *ℤ probe_at cs cases lower (get_or (probe ∷ probes) j (record { case = 0; place = 0 })) unknown)) over
    turn r again = last (again r.next r.ratio)
      where
        last : HasRatio (spots_from (λ spot. spot_side cs cases lower spot unknown) r.next g.1.0 (multiples_over (length cs) over numbers probes inners)) (x +ℤ number *ℤ probe_at cs cases lower probe unknown +ℤ added) over
            → HasRatio (spots_from (λ spot. spot_side cs cases lower spot unknown) total spots (multiples_over (length cs) over (number ∷ numbers) (probe ∷ probes) (inner ∷ inners)))
            (x +ℤ sum_below (suc (length probes)) (λ j. entry (number ∷ numbers) j *ℤ probe_at cs cases lower (get_or (probe ∷ probes) j (record { case = 0; place = 0 })) unknown)) over
        last t = record {
          value = t.value;
          is = ap (λ (ss : List Spot). spots_from (λ spot. spot_side cs cases lower spot unknown) total ss (multiples_over (length cs) over (number ∷ numbers) (probe ∷ probes) (inner ∷ inners))) g.1.1.0 ∙ r.same ∙ t.is;
          ratio = subst (λ z. IsRatio t.value z over) all t.ratio;
        }

-- ---- units

unit-exact : (total : Fraction) (over : ℤ) (own : Bool) → pos 0 <ℤ over → unsigned_abs over ≤ 481890304 → IsRatio total (cond own over (pos 0)) over → is_exactly total (cond own (pos 1) (pos 0)) ≡ Ok true
unit-exact total over own p ho s = exact (cond own (pos 1) (pos 0)) (few own) (subst (λ z. IsRatio total z over) (times own) s)
  where
    few : (b : Bool) → unsigned_abs (cond b (pos 1) (pos 0)) ≤ 1
    few true = omega arith
    few false = omega arith

    times : (b : Bool) → cond b over (pos 0) ≡ cond b (pos 1) (pos 0) *ℤ over
    times true = one_times over
      where
        one_times : (z : ℤ) → z ≡ pos 1 *ℤ z
        one_times z = omega (arith, ints)
    times false = zero_times over
      where
        zero_times : (z : ℤ) → pos 0 ≡ pos 0 *ℤ z
        zero_times z = omega (arith, ints)

    exact : (unit : ℤ) → unsigned_abs unit ≤ 1 → IsRatio total (unit *ℤ over) over → is_exactly total unit ≡ Ok true
    exact unit small t =
        ap (λ (r : Result ℤ Step.Wide). r >>= λ right. bool_ok (int_eq total.num right)) (product_of-fits unit total.den fits)
        ∙ ap bool_ok ((Decides-int_eq total.num (unit *ℤ total.den)).1 (*ℤ_cancel total.num (unit *ℤ total.den) over p (t.stands.same ∙ swap unit over total.den)))
      where
        bool_ok : Bool → Result Bool Step.Wide
        bool_ok b = Ok b

        swap : (a b c : ℤ) → a *ℤ b *ℤ c ≡ a *ℤ c *ℤ b
        swap a b c = simp ring refl

        share : IsShare total (unit *ℤ over) over
        share = shared total (unit *ℤ over) over p t

        fits : unsigned_abs (unit *ℤ total.den) < 2 ^ 127
        fits =
            let den : unsigned_abs total.den ≤ unsigned_abs over = factor_small total.den share.times over share.positive share.den in
            let size : unsigned_abs (unit *ℤ total.den) ≤ 1 * 481890304 = product-small 1 481890304 unit total.den small (omega (arith, den, ho)) in
            omega (arith, size)

listed-length : (n : ℕ) (f : ℕ → Fraction) → length (values_below n f) ≡ n
listed-length zero f = refl
listed-length (suc n) f = ap (λ (k : ℕ). suc k) (listed-length n (λ i. f (suc i)))

multiples-length : (cs : List (List Col)) (cases : List Change) (over : ℤ) (probes : List Probe) (inners : List Inner) (numbers : List ℤ) (spots : List Spot) → length probes ≤ length numbers → AreGroups cs cases probes inners spots
    → length (multiples_over (length cs) over numbers probes inners) ≡ length spots
multiples-length cs cases over [] inners numbers spots long g = ap length (sym g)
multiples-length cs cases over (probe ∷ probes) [] numbers spots long g = absurd g
multiples-length cs cases over (probe ∷ probes) (inner ∷ inners) [] spots long g = absurd (omega (arith, long))
multiples-length cs cases over (probe ∷ probes) (inner ∷ inners) (number ∷ numbers) spots long g =
    let first : length (values_below (suc (length cs)) (λ i. lowest_terms (number *ℤ weight_at (length cs) inner probe.place i) over)) ≡ suc (length cs) = listed-length (suc (length cs)) (λ i. lowest_terms (number *ℤ weight_at (length cs) inner probe.place i) over) in
    let others : length (multiples_over (length cs) over numbers probes inners) ≡ length g.1.0 = multiples-length cs cases over probes inners numbers g.1.0 (omega (arith, long)) g.1.1.1.1 in
    let each : length g.0 ≡ length cs + 1 = g.1.1.1.0.each in
    length-append (values_below (suc (length cs)) (λ i. lowest_terms (number *ℤ weight_at (length cs) inner probe.place i) over)) (multiples_over (length cs) over numbers probes inners)
    ∙ sums (length (values_below (suc (length cs)) (λ i. lowest_terms (number *ℤ weight_at (length cs) inner probe.place i) over))) (length (multiples_over (length cs) over numbers probes inners)) (length g.0) (length g.1.0) (omega (arith, first, each)) others
    ∙ sym (length-append g.0 g.1.0) ∙ ap length (sym g.1.1.0)
  where
    sums : (a b c d : ℕ) → a ≡ c → b ≡ d → a + b ≡ c + d
    sums a b c d e f = omega (arith, e, f)

-- what a kernel's duals are over, with inner points of its probes' cases and the spots around them
pub record AreDuals (cs : List (List Col)) (cases : List Change) (lower : List Polynomial) (lines : List (List ℤ)) (count : ℕ) (probes : List Probe) (inners : List Inner) (spots : List Spot) : Type 0 where
  pub law : AreReading cs
  pub sides_too : AreSmallSides cs cases lower
  pub few : length probes ≤ 6
  pub are : AllByRecursion (IsProbe cs cases) probes
  pub inside : AreInners cs cases probes inners
  pub groups : AreGroups cs cases probes inners spots

dual-tested : (cs : List (List Col)) (cases : List Change) (lower : List Polynomial) (lines : List (List ℤ)) (count : ℕ) (probes : List Probe) (inners : List Inner) (spots : List Spot) (own : ℕ) (v : List ℤ) → AreDuals cs cases lower lines count probes inners spots
    → own < length (free_places lines count) → IsDual cs cases lower probes (free_places lines count) own v
    → tested_unit (spot_side cs cases lower) spots (free_places lines count) (get_or (free_places lines count) own 0) (dual_multiples (length cs) probes inners v) ≡ Ok true
dual-tested cs cases lower lines count probes inners spots own v k here d =
    ap (λ (b : Bool). and_then (bool_ok b) (all_of (unit_test_at (spot_side cs cases lower) spots (get_or others own 0) by) others)) (eq-eqb (length by) (length spots) (multiples-length cs cases over probes inners v spots long k.groups))
    ∙ all_of-places (unit_test_at (spot_side cs cases lower) spots (get_or others own 0) by) others (λ i h. at i h (reach i))
  where
    others : List ℕ
    others = free_places lines count

    over : ℤ
    over = entry v (length probes)

    by : List Fraction
    by = dual_multiples (length cs) probes inners v

    bool_ok : Bool → Result Bool Step.Wide
    bool_ok b = Ok b

    long : length probes ≤ length v
    long = let each : length v ≡ length probes + 1 = d.each in omega (arith, each)

    small : unsigned_abs (entry v (length probes)) ≤ 481890304
    small = entry-size 481890304 v (length probes) d.small

    reach : (i : ℕ) → HasRatio (spots_from (λ spot. spot_side cs cases lower spot (get_or (free_places lines count) i 0)) (whole (pos 0)) spots (dual_multiples (length cs) probes inners v))
        (pos 0 +ℤ sum_below (length probes) (λ j. entry v j *ℤ probe_at cs cases lower (get_or probes j (record { case = 0; place = 0 })) (get_or (free_places lines count) i 0))) (entry v (length probes))
    reach i =
        groups-reach cs cases lower (get_or others i 0) over 0 (pos 0) (whole (pos 0)) probes inners v spots k.law k.sides_too d.positive small d.small long k.are k.inside k.groups (IsRatio-nothing over) (omega arith)
        (let few : length probes ≤ 6 = k.few in omega (arith, few))

    left : (z : ℤ) → pos 0 +ℤ z ≡ z
    left z = omega (arith, ints)

    at : (i : ℕ) → i < length (free_places lines count)
        → HasRatio (spots_from (λ spot. spot_side cs cases lower spot (get_or (free_places lines count) i 0)) (whole (pos 0)) spots (dual_multiples (length cs) probes inners v))
        (pos 0 +ℤ sum_below (length probes) (λ j. entry v j *ℤ probe_at cs cases lower (get_or probes j (record { case = 0; place = 0 })) (get_or (free_places lines count) i 0))) (entry v (length probes))
        → unit_test_at (spot_side cs cases lower) spots (get_or (free_places lines count) own 0) (dual_multiples (length cs) probes inners v) (get_or (free_places lines count) i 0) ≡ Ok true
    at i h r =
        ap (λ (q : Result Fraction Step.Wide). q >>= λ total. is_exactly total (unit_at (get_or others own 0) (get_or others i 0))) r.is
        ∙ ap (λ (b : Bool). is_exactly r.value (cond b (pos 1) (pos 0))) (free-same lines count i own h here)
        ∙ unit-exact r.value over (i == own) d.positive small (subst (λ z. IsRatio r.value z over) (left (sum_below (length probes) (λ j. entry v j *ℤ probe_at cs cases lower (get_or probes j (record { case = 0; place = 0 })) (get_or others i 0))) ∙ d.unit i h) r.ratio)

pub duals-tested : (cs : List (List Col)) (cases : List Change) (lower : List Polynomial) (lines : List (List ℤ)) (count : ℕ) (probes : List Probe) (inners : List Inner) (spots : List Spot) (duals : List (List ℤ)) → AreDuals cs cases lower lines count probes inners spots
    → length duals ≡ length (free_places lines count) → ((own : ℕ) → own < length duals → IsDual cs cases lower probes (free_places lines count) own (get_or duals own []))
    → tested_free (spot_side cs cases lower) spots (free_places lines count) (map (dual_multiples (length cs) probes inners) duals) ≡ Ok true
duals-tested cs cases lower lines count probes inners spots duals k counted d =
    ap (λ (b : Bool). and_then (bool_ok b) (all_of (λ (p : ℕ × List Fraction). tested_unit (spot_side cs cases lower) spots (free_places lines count) p.0 p.1) (zip (free_places lines count) (map (dual_multiples (length cs) probes inners) duals))))
    (eq-eqb (length (map (dual_multiples (length cs) probes inners) duals)) (length (free_places lines count)) (length-map duals (dual_multiples (length cs) probes inners) ∙ counted))
    ∙ all_of-pairs (tested_unit (spot_side cs cases lower) spots (free_places lines count)) (dual_multiples (length cs) probes inners) (free_places lines count) duals
    (λ i h l. dual-tested cs cases lower lines count probes inners spots i (get_or duals i []) k h (d i l))
  where
    bool_ok : Bool → Result Bool Step.Wide
    bool_ok b = Ok b
