-- One unknown more: either its own relation is one in each case, or a probe where it is not 0 keeps
-- the numbers regular.
use Rattle.std.proofs.Common.{◌≡◌, ◌≢◌, ℕ, zero, suc, ◌+◌, ◌-◌, ◌*◌, ◌<◌, ◌≤◌, List, [], ◌∷◌, ◌++◌, map, length, get_or, refl, sym, ap, subst, ◌∙◌, arith, ⊎_elim, ℤ, pos, ◌+ℤ◌, ◌*ℤ◌, ◌<ℤ◌, length-append}
use Rattle.std.specs.Prelude.{◌^◌, ◌==◌, not, unsigned_abs}
use Rattle.std.specs.List.{AllByRecursion, list_any, filter}
use Rattle.std.proofs.lemmas.Int.{ints}
use Rattle.std.proofs.lemmas.Bool.{cases_lt}
use Rattle.std.proofs.lemmas.List.{get_or_append_left, get_or_push}
use Rattle.std.proofs.Math.IntN.{*ℤ_comm}
use Rattle.whole_numbers.specs.Divisors.{gcd_of_all}
use Rattle.whole_numbers.proofs.Ring.{unsigned_abs-+ℤ}
use Rattle.linear_terms.specs.declared.col.Col.{Col}
use Rattle.linear_terms.specs.Polynomial.{Polynomial}
use Rattle.farkas_check.specs.declared.stratum.Change.{Change}
use Rattle.farkas_check.specs.Calm.{at_chosen}
use Rattle.farkas_check.specs.Frames.{sum_below}
use Rattle.farkas_check.specs.Relations.{sides, entry, pivot, places, unknown_count, free_places}
use Rattle.farkas_check.specs.Stratum.{terms_of}
use Rattle.simplex.proofs.Corners.{none}
use Rattle.simplex.proofs.Exchanges.{times_zero}
use Rattle.simplex.proofs.Sums.{sum_below-same}
use Rattle.elimination.specs.declared.kernel.ProbeStage.{ProbeStage}
use Rattle.elimination.specs.declared.probes.Probe.{Probe}
use Rattle.elimination.specs.Probes.{side_at, difference_at, probe_at, IsRegular, IsNullLine, IsNothing, IsDual, IsKernel}
use Rattle.elimination.specs.Stages.{IsSmallKernel, IsRisingFrom, unknowns_from, free_from, probe_number, spread, chosen_value, VanishesAtAll, IsApart, AreChosenNumbers, IsOwnRelation, IsStage, AreDuals}
use Rattle.elimination.proofs.ChosenNumbers.{AreApart, chosen-sum, spread-length, spread-entry, spread-own, spread-elsewhere, spread-small, spread-primitive}
use Rattle.elimination.proofs.Few.{each_at, each_from, rising-from, rising-less, free-few}
use Rattle.elimination.proofs.Magnitudes.{product_up_to}
use Rattle.elimination.proofs.ReducedRelations.{pivot-at, reduced-more, free-more, free-less, free-apart}
use Rattle.elimination.proofs.Regular.{regular-none, regular-more}
use Rattle.elimination.proofs.Sides.{side_at-past, difference_sum}

-- ---- the unknowns that are no pivot, and one more before them

rising-weaker : (u : ℕ) (us : List ℕ) → IsRisingFrom (suc u) us → IsRisingFrom u us
rising-weaker u [] r = tt
rising-weaker u (v ∷ us) r = let low : suc u ≤ v = r.0 in (omega (arith, low), r.1)

behind-weaker : (u : ℕ) (lines : List (List ℤ)) → AllByRecursion (λ line. suc u ≤ pivot line) lines → AllByRecursion (λ line. u ≤ pivot line) lines
behind-weaker u [] h = tt
behind-weaker u (l ∷ lines) h = let low : suc u ≤ pivot l = h.0 in (omega (arith, low), behind-weaker u lines h.1)

module _ (u : ℕ) (free : List ℕ) (rising : IsRisingFrom (suc u) free) where
  chosen-length : length (free ++ u ∷ []) ≡ suc (length free)
  chosen-length = let e : length (free ++ u ∷ []) ≡ length free + 1 = length-append free (u ∷ []) in omega (arith, e)

  -- a property of each of them
  chosen-each : (P : ℕ → Type 0) (k : ℕ) → k < length (free ++ u ∷ []) → (k < length free → P (get_or free k 0)) → P u → P (get_or (free ++ u ∷ []) k 0)
  chosen-each P k h front last =
      ⊎_elim (λ (g : k < length free). subst P (sym (get_or_append_left free (u ∷ []) 0 k g)) (front g))
      (λ (g : length free ≤ k). let e : length free ≡ k = omega (arith, h, g, chosen-length) in subst P (sym (get_or_push free u 0 k e)) last) (cases_lt k (length free))

  chosen-apart : AreApart (free ++ u ∷ [])
  chosen-apart = record { at = λ i k h g other. ⊎_elim (λ (less : i < k). ordered i k less g) (λ (more : k ≤ i). let l : k < i = omega (arith, more, other) in λ e. ordered k i l h (sym e)) (cases_lt i k) }
    where
      ordered : (i k : ℕ) → i < k → k < length (free ++ u ∷ []) → get_or (free ++ u ∷ []) i 0 ≢ get_or (free ++ u ∷ []) k 0
      ordered i k l h =
          let front : i < length free = omega (arith, l, h, chosen-length) in
          chosen-each (λ v. get_or (free ++ u ∷ []) i 0 ≢ v) k h
          (λ g e. let first : get_or (free ++ u ∷ []) i 0 ≡ get_or free i 0 = get_or_append_left free (u ∷ []) 0 i front in let less : get_or free i 0 < get_or free k 0 = rising-less (suc u) free i k rising l g in omega (arith, e, first, less))
          (λ e. let first : get_or (free ++ u ∷ []) i 0 ≡ get_or free i 0 = get_or_append_left free (u ∷ []) 0 i front in let low : suc u + i ≤ get_or free i 0 = rising-from (suc u) free i rising front in omega (arith, e, first, low))

  chosen-from : (k : ℕ) → k < length (free ++ u ∷ []) → u ≤ get_or (free ++ u ∷ []) k 0
  chosen-from k h = chosen-each (λ v. u ≤ v) k h (λ g. let low : suc u + k ≤ get_or free k 0 = rising-from (suc u) free k rising g in omega (arith, low)) (omega arith)

  chosen-within : (n : ℕ) → u < n → AllByRecursion (λ v. v < n) free → (k : ℕ) → k < length (free ++ u ∷ []) → get_or (free ++ u ∷ []) k 0 < n
  chosen-within n h within k g = chosen-each (λ v. v < n) k g (λ l. each_at (λ v. v < n) free 0 k within l) h

  -- ---- the own relation as a line

  module _ (cs : List (List Col)) (cases : List Change) (lower : List Polynomial) (probes : List Probe) (v : List ℤ) (n : ℕ) (here : u < n) (within : AllByRecursion (λ w. w < n) free) (o : IsOwnRelation cs cases lower probes free u v) where
    numbers-length : length v ≡ length (free ++ u ∷ [])
    numbers-length = o.each ∙ sym chosen-length

    line-own : (k : ℕ) → k < length (free ++ u ∷ []) → entry (spread (free ++ u ∷ []) (entry v) n) (get_or (free ++ u ∷ []) k 0) ≡ entry v k
    line-own k h = spread-own (free ++ u ∷ []) (entry v) n k chosen-apart h (chosen-within n here within k h)

    line-unknown : entry (spread (free ++ u ∷ []) (entry v) n) u ≡ entry v (length free)
    line-unknown = ap (entry (spread (free ++ u ∷ []) (entry v) n)) (sym (get_or_push free u 0 (length free) refl)) ∙ line-own (length free) (omega (arith, chosen-length))

    line-positive : pos 0 <ℤ entry (spread (free ++ u ∷ []) (entry v) n) u
    line-positive = subst (λ (z : ℤ). pos 0 <ℤ z) (sym line-unknown) o.positive

    line-pivot : pivot (spread (free ++ u ∷ []) (entry v) n) ≡ u
    line-pivot =
        pivot-at (spread (free ++ u ∷ []) (entry v) n) u (subst (λ (m : ℕ). u < m) (sym (spread-length (free ++ u ∷ []) (entry v) n)) here)
        (λ j h. spread-elsewhere (free ++ u ∷ []) (entry v) n j (λ k g e. let low : u ≤ get_or (free ++ u ∷ []) k 0 = chosen-from k g in omega (arith, low, e, h)))
        (λ e. not_both (entry (spread (free ++ u ∷ []) (entry v) n) u) line-positive e)
      where
        not_both : (z : ℤ) → pos 0 <ℤ z → z ≡ pos 0 → ⊥
        not_both z h e = omega (arith, ints, h, e)

    line-primitive : gcd_of_all (spread (free ++ u ∷ []) (entry v) n) ≡ 1
    line-primitive = spread-primitive (free ++ u ∷ []) v n chosen-apart numbers-length (chosen-within n here within) o.primitive

    line-small : AllByRecursion (λ z. unsigned_abs z ≤ 28 ^ 6) (spread (free ++ u ∷ []) (entry v) n)
    line-small = spread-small (28 ^ 6) (free ++ u ∷ []) (entry v) n (λ k. entry_small (28 ^ 6) v k o.small)
      where
        entry_small : (most : ℕ) (xs : List ℤ) (k : ℕ) → AllByRecursion (λ z. unsigned_abs z ≤ most) xs → unsigned_abs (entry xs k) ≤ most
        entry_small most [] k h = omega arith
        entry_small most (x ∷ xs) zero h = h.0
        entry_small most (x ∷ xs) (suc k) h = entry_small most xs k h.1

    line-difference : (place : ℕ) (case : ℕ) → difference_at cs place (spread (free ++ u ∷ []) (entry v) n) (sides (terms_of cases case) lower) ≡ chosen_value cs cases lower (free ++ u ∷ []) v (record { case = case; place = place }) (length (free ++ u ∷ []))
    line-difference place case =
        difference_sum cs place (spread (free ++ u ∷ []) (entry v) n) (sides (terms_of cases case) lower)
        ∙ ap (λ (m : ℕ). sum_below m (λ w. entry (spread (free ++ u ∷ []) (entry v) n) w *ℤ side_at cs place (sides (terms_of cases case) lower) w)) (spread-length (free ++ u ∷ []) (entry v) n)
        ∙ sum_below-same n (λ w. entry (spread (free ++ u ∷ []) (entry v) n) w *ℤ side_at cs place (sides (terms_of cases case) lower) w) (λ w. at_chosen (free ++ u ∷ []) (entry v) w *ℤ side_at cs place (sides (terms_of cases case) lower) w)
        (λ w h. ap (λ z. z *ℤ side_at cs place (sides (terms_of cases case) lower) w) (spread-entry (free ++ u ∷ []) (entry v) n w h))
        ∙ chosen-sum n (free ++ u ∷ []) (entry v) (side_at cs place (sides (terms_of cases case) lower)) chosen-apart (each_from (λ c. c < n) (free ++ u ∷ []) 0 (λ k h. chosen-within n here within k h))

    line-nothing : VanishesAtAll cs cases lower (free ++ u ∷ []) v → (case : ℕ) → case < length cases → (place : ℕ) → difference_at cs place (spread (free ++ u ∷ []) (entry v) n) (sides (terms_of cases case) lower) ≡ pos 0
    line-nothing all case h place =
        ⊎_elim (λ (past : length cs < place). difference_sum cs place (spread (free ++ u ∷ []) (entry v) n) (sides (terms_of cases case) lower)
        ∙ none (length (spread (free ++ u ∷ []) (entry v) n)) (λ w. entry (spread (free ++ u ∷ []) (entry v) n) w *ℤ side_at cs place (sides (terms_of cases case) lower) w) (λ w g. ap (λ z. entry (spread (free ++ u ∷ []) (entry v) n) w *ℤ z) (side_at-past cs place (sides (terms_of cases case) lower) w past) ∙ times_zero (entry (spread (free ++ u ∷ []) (entry v) n) w)))
        (λ (inside : place ≤ length cs). line-difference place case ∙ (all.at case h).at place inside) (cases_lt (length cs) place)

terms-listed : (cases : List Change) (case : ℕ) → (get_or cases case (record { rows = []; terms = [] })).terms ≡ terms_of cases case
terms-listed [] case = refl
terms-listed (c ∷ cases) zero = refl
terms-listed (c ∷ cases) (suc case) = terms-listed cases case

-- ---- stages

module _ (cs : List (List Col)) (cases : List Change) (lower : List Polynomial) (u : ℕ) (stage : ProbeStage) (here : u < unknown_count cases lower) (s : IsStage cs cases lower (suc u) stage) (v : List ℤ) (o : IsOwnRelation cs cases lower stage.probes stage.free u v) where
  left : unknown_count cases lower - u ≡ suc (unknown_count cases lower - suc u)
  left = omega (arith, here)

  module _ (all : VanishesAtAll cs cases lower (stage.free ++ u ∷ []) v) where
    abbrev line : List ℤ
    line = spread (stage.free ++ u ∷ []) (entry v) (unknown_count cases lower)

    own_pivot : pivot line ≡ u
    own_pivot = line-pivot u stage.free s.rising cs cases lower stage.probes v (unknown_count cases lower) here s.within o

    null_line : IsNullLine cs cases lower line
    null_line = record {
      each = spread-length (stage.free ++ u ∷ []) (entry v) (unknown_count cases lower);
      vanish = each_from (IsNothing cs lower line) cases (record { rows = []; terms = [] }) (λ case h place. subst (λ (ts : List Polynomial). difference_at cs place line (sides ts lower) ≡ pos 0) (sym (terms-listed cases case)) (line-nothing u stage.free s.rising cs cases lower stage.probes v (unknown_count cases lower) here s.within o all case h place));
      small = line-small u stage.free s.rising cs cases lower stage.probes v (unknown_count cases lower) here s.within o;
    }

    free_differ : AllByRecursion (λ f. AllByRecursion (λ other. pivot other ≢ f) stage.relations) stage.free
    free_differ = subst (λ (us : List ℕ). AllByRecursion (λ f. AllByRecursion (λ other. pivot other ≢ f) stage.relations) us) (sym s.free) (free-apart stage.relations (suc u) (unknown_count cases lower - suc u))

    zero_at : AllByRecursion (λ other. entry line (pivot other) ≡ pos 0) stage.relations
    zero_at = each_from (λ other. entry line (pivot other) ≡ pos 0) stage.relations [] (λ i h. spread-elsewhere (stage.free ++ u ∷ []) (entry v) (unknown_count cases lower) (pivot (get_or stage.relations i [])) (λ k g. differ i h k g))
      where
        differ : (i : ℕ) → i < length stage.relations → (k : ℕ) → k < length (stage.free ++ u ∷ []) → get_or (stage.free ++ u ∷ []) k 0 ≢ pivot (get_or stage.relations i [])
        differ i h k g =
            chosen-each u stage.free s.rising (λ w. w ≢ pivot (get_or stage.relations i [])) k g
            (λ l e. each_at (λ other. pivot other ≢ get_or stage.free k 0) stage.relations [] i (each_at (λ f. AllByRecursion (λ other. pivot other ≢ f) stage.relations) stage.free 0 k free_differ l) h (sym e))
            (λ e. let low : suc u ≤ pivot (get_or stage.relations i []) = each_at (λ other. suc u ≤ pivot other) stage.relations [] i s.behind h in omega (arith, low, e))

    pub stage-relation : IsStage cs cases lower u (record { relations = line ∷ stage.relations; free = stage.free; probes = stage.probes })
    stage-relation = record {
      reduced = reduced-more line stage.relations (subst (λ (w : ℕ). pos 0 <ℤ entry line w) (sym own_pivot) (line-positive u stage.free s.rising cs cases lower stage.probes v (unknown_count cases lower) here s.within o)) (line-primitive u stage.free s.rising cs cases lower stage.probes v (unknown_count cases lower) here s.within o)
          (subst (λ (w : ℕ). AllByRecursion (λ other. suc w ≤ pivot other) stage.relations) (sym own_pivot) s.behind) zero_at s.reduced;
      lines = (null_line, s.lines);
      behind = ((let e : pivot line ≡ u = own_pivot in omega (arith, e)), behind-weaker u stage.relations s.behind);
      free = s.free ∙ sym (ap (free_from (line ∷ stage.relations) u) left ∙ free-less u (unknown_count cases lower - suc u) line stage.relations own_pivot);
      rising = rising-weaker u stage.free s.rising;
      within = s.within;
      few = s.few;
      each = s.each;
      probes = s.probes;
      regular = s.regular;
    }

  module _ (small : IsSmallKernel cs cases lower) (probe : Probe) (a : IsApart cs cases lower (stage.free ++ u ∷ []) v probe) where
    made_apart : sum_below (length stage.free) (λ j. probe_at cs cases lower probe (get_or stage.free j 0) *ℤ entry v j) +ℤ probe_at cs cases lower probe u *ℤ entry v (length stage.free) ≡ pos 0 → ⊥
    made_apart e = a.some (subst (λ (m : ℕ). chosen_value cs cases lower (stage.free ++ u ∷ []) v probe m ≡ pos 0) (sym (chosen-length u stage.free s.rising)) (
        ap (λ z. z +ℤ entry v (length stage.free) *ℤ probe_at cs cases lower probe (get_or (stage.free ++ u ∷ []) (length stage.free) 0))
        (sum_below-same (length stage.free) (λ j. entry v j *ℤ probe_at cs cases lower probe (get_or (stage.free ++ u ∷ []) j 0)) (λ j. probe_at cs cases lower probe (get_or stage.free j 0) *ℤ entry v j)
        (λ j h. ap (λ w. entry v j *ℤ probe_at cs cases lower probe w) (get_or_append_left stage.free (u ∷ []) 0 j h) ∙ *ℤ_comm (entry v j) (probe_at cs cases lower probe (get_or stage.free j 0))))
        ∙ ap (λ z. sum_below (length stage.free) (λ j. probe_at cs cases lower probe (get_or stage.free j 0) *ℤ entry v j) +ℤ z)
        (ap (λ w. entry v (length stage.free) *ℤ probe_at cs cases lower probe w) (get_or_push stage.free u 0 (length stage.free) refl) ∙ *ℤ_comm (entry v (length stage.free)) (probe_at cs cases lower probe u))
        ∙ e))

    more_regular : IsRegular (suc (length stage.free)) (probe_number cs cases lower (probe ∷ stage.probes) (u ∷ stage.free))
    more_regular = regular-more (length stage.free) (probe_number cs cases lower (probe ∷ stage.probes) (u ∷ stage.free)) (entry v) (entry v (length stage.free)) s.regular o.zeros (λ e. not_both (entry v (length stage.free)) o.positive e) made_apart
      where
        not_both : (z : ℤ) → pos 0 <ℤ z → z ≡ pos 0 → ⊥
        not_both z h e = omega (arith, ints, h, e)

    pub stage-probe : IsStage cs cases lower u (record { relations = stage.relations; free = u ∷ stage.free; probes = probe ∷ stage.probes })
    stage-probe = record {
      reduced = s.reduced;
      lines = s.lines;
      behind = behind-weaker u stage.relations s.behind;
      free = ap (λ (us : List ℕ). u ∷ us) s.free ∙ sym (ap (free_from stage.relations u) left ∙ free-more u (unknown_count cases lower - suc u) stage.relations s.behind);
      rising = (omega arith, s.rising);
      within = (here, s.within);
      few = free-few cs cases lower (probe ∷ stage.probes) (u ∷ stage.free) u small (omega arith, s.rising) (a.probe_there, s.probes) (ap (λ (m : ℕ). suc m) s.each) (let few : length stage.free ≤ 6 = s.few in omega (arith, few)) more_regular;
      each = ap (λ (m : ℕ). suc m) s.each;
      probes = (a.probe_there, s.probes);
      regular = more_regular;
    }

-- ---- the first and the last

pub stage-first : (cs : List (List Col)) (cases : List Change) (lower : List Polynomial) → IsStage cs cases lower (unknown_count cases lower) (record { relations = []; free = []; probes = [] })
stage-first cs cases lower = record {
  reduced = refl;
  lines = tt;
  behind = tt;
  free = let e : unknown_count cases lower - unknown_count cases lower ≡ 0 = omega arith in sym (ap (free_from [] (unknown_count cases lower)) e);
  rising = tt;
  within = tt;
  few = omega arith;
  each = refl;
  probes = tt;
  regular = regular-none (probe_number cs cases lower [] []);
}

unknowns-listed : (start n : ℕ) → unknowns_from start n ≡ map (λ place. start + place) (places n)
unknowns-listed start zero = refl
unknowns-listed start (suc n) = let first : start ≡ start + 0 = omega arith in ap (λ (us : List ℕ). start ∷ us) (unknowns-listed (suc start) n ∙ shifted (places n)) ∙ ap (λ (w : ℕ). w ∷ map (λ place. start + place) (map (λ place. suc place) (places n))) first
  where
    shifted : (xs : List ℕ) → map (λ place. suc start + place) xs ≡ map (λ place. start + place) (map (λ place. suc place) xs)
    shifted [] = refl
    shifted (x ∷ xs) = let e : suc start + x ≡ start + suc x = omega arith in ap (λ (w : ℕ). w ∷ map (λ place. suc start + place) xs) e ∙ ap (λ (ys : List ℕ). (start + suc x) ∷ ys) (shifted xs)

unknowns-all : (n : ℕ) → unknowns_from 0 n ≡ places n
unknowns-all n = unknowns-listed 0 n ∙ same (places n)
  where
    same : (xs : List ℕ) → map (λ place. 0 + place) xs ≡ xs
    same [] = refl
    same (x ∷ xs) = let e : 0 + x ≡ x = omega arith in ap (λ (w : ℕ). w ∷ map (λ place. 0 + place) xs) e ∙ ap (λ (ys : List ℕ). x ∷ ys) (same xs)

pub stage-last_free : (cs : List (List Col)) (cases : List Change) (lower : List Polynomial) (stage : ProbeStage) → IsStage cs cases lower 0 stage → stage.free ≡ free_places stage.relations (unknown_count cases lower)
stage-last_free cs cases lower stage s =
    let e : unknown_count cases lower - 0 ≡ unknown_count cases lower = omega arith in
    s.free ∙ ap (free_from stage.relations 0) e ∙ ap (filter (λ place. not (list_any (λ p. p == place) (map pivot stage.relations)))) (unknowns-all (unknown_count cases lower))

pub kernel_of : (cs : List (List Col)) (cases : List Change) (lower : List Polynomial) (stage : ProbeStage) (duals : List (List ℤ)) → IsStage cs cases lower 0 stage → AreDuals cs cases lower stage.probes stage.free (length stage.free) duals
    → IsKernel cs cases lower (record { relations = stage.relations; probes = stage.probes; duals = duals })
kernel_of cs cases lower stage duals s d = record {
  reduced = s.reduced;
  lines = s.lines;
  few = let e : length stage.probes ≡ length stage.free = s.each in let h : length stage.free ≤ 6 = s.few in omega (arith, e, h);
  probes = s.probes;
  counted = d.each ∙ ap length (stage-last_free cs cases lower stage s);
  duals = λ own h. subst (λ (us : List ℕ). IsDual cs cases lower stage.probes us own (get_or duals own [])) (stage-last_free cs cases lower stage s) (d.at own (subst (λ (n : ℕ). own < n) d.each h));
}

-- ---- as the code makes them

pub stage-begin : (cs : List (List Col)) (cases : List Change) (lower : List Polynomial) (start : ℕ) (relations : List (List ℤ)) (free : List ℕ) (probes : List Probe) → start ≡ unknown_count cases lower → relations ≡ [] → free ≡ [] → probes ≡ []
    → IsStage cs cases lower start (record { relations = relations; free = free; probes = probes })
stage-begin cs cases lower start relations free probes e f g h =
    subst (λ (n : ℕ). IsStage cs cases lower n (record { relations = relations; free = free; probes = probes })) (sym e)
    (subst (λ (ls : List (List ℤ)). IsStage cs cases lower (unknown_count cases lower) (record { relations = ls; free = free; probes = probes })) (sym f)
    (subst (λ (us : List ℕ). IsStage cs cases lower (unknown_count cases lower) (record { relations = []; free = us; probes = probes })) (sym g)
    (subst (λ (ps : List Probe). IsStage cs cases lower (unknown_count cases lower) (record { relations = []; free = []; probes = ps })) (sym h) (stage-first cs cases lower))))

module _ (cs : List (List Col)) (cases : List Change) (lower : List Polynomial) (u : ℕ) (stage : ProbeStage) (here : u < unknown_count cases lower) (s : IsStage cs cases lower (u + 1) stage) (v : List ℤ) (o : IsOwnRelation cs cases lower stage.probes stage.free u v) (next : ProbeStage) where
  at_suc : IsStage cs cases lower (suc u) stage
  at_suc = let e : u + 1 ≡ suc u = omega arith in subst (λ (n : ℕ). IsStage cs cases lower n stage) e s

  pub chosen_numbers : (chosen : List ℕ) (numbers : List ℤ) → chosen ≡ stage.free ++ u ∷ [] → numbers ≡ v → AreChosenNumbers chosen numbers
  chosen_numbers chosen numbers e f =
      subst (λ (us : List ℕ). AreChosenNumbers us numbers) (sym e) (subst (λ (ns : List ℤ). AreChosenNumbers (stage.free ++ u ∷ []) ns) (sym f) record {
        few = let few : length stage.free ≤ 6 = s.few in let many : length (stage.free ++ u ∷ []) ≡ length stage.free + 1 = length-append stage.free (u ∷ []) in omega (arith, few, many);
        each = let each : length v ≡ suc (length stage.free) = o.each in let many : length (stage.free ++ u ∷ []) ≡ length stage.free + 1 = length-append stage.free (u ∷ []) in omega (arith, each, many);
        small = o.small;
      })

  pub relation-kept : (chosen own : List ℕ) (numbers others : List ℤ) (count : ℕ) (made : List ℤ) → chosen ≡ stage.free ++ u ∷ [] → numbers ≡ v → own ≡ stage.free ++ u ∷ [] → others ≡ v → count ≡ unknown_count cases lower
      → VanishesAtAll cs cases lower chosen numbers → made ≡ spread own (entry others) count → next ≡ record { relations = made ∷ stage.relations; free = stage.free; probes = stage.probes } → IsStage cs cases lower u next
  relation-kept chosen own numbers others count made e f g h k all m n =
      subst (IsStage cs cases lower u) (sym n)
      (subst (λ (l : List ℤ). IsStage cs cases lower u (record { relations = l ∷ stage.relations; free = stage.free; probes = stage.probes })) (sym line_is)
      (stage-relation cs cases lower u stage here at_suc v o (subst (λ (us : List ℕ). VanishesAtAll cs cases lower us v) e (subst (λ (ns : List ℤ). VanishesAtAll cs cases lower chosen ns) f all))))
    where
      line_is : made ≡ spread (stage.free ++ u ∷ []) (entry v) (unknown_count cases lower)
      line_is = m ∙ ap (λ (us : List ℕ). spread us (entry others) count) g ∙ ap (λ (ns : List ℤ). spread (stage.free ++ u ∷ []) (entry ns) count) h ∙ ap (spread (stage.free ++ u ∷ []) (entry v)) k

  pub probe-kept : (small : IsSmallKernel cs cases lower) (probe : Probe) (chosen : List ℕ) (numbers : List ℤ) → chosen ≡ stage.free ++ u ∷ [] → numbers ≡ v → IsApart cs cases lower chosen numbers probe
      → next ≡ record { relations = stage.relations; free = u ∷ stage.free; probes = probe ∷ stage.probes } → IsStage cs cases lower u next
  probe-kept small probe chosen numbers e f a n =
      subst (IsStage cs cases lower u) (sym n)
      (stage-probe cs cases lower u stage here at_suc v o small probe (subst (λ (us : List ℕ). IsApart cs cases lower us v probe) e (subst (λ (ns : List ℤ). IsApart cs cases lower chosen ns probe) f a)))

-- ---- values at a probe

pub value-more : (cs : List (List Col)) (cases : List Change) (lower : List Polynomial) (chosen : List ℕ) (numbers : List ℤ) (probe : Probe) (place : ℕ) (sum number part result : ℤ) → sum ≡ chosen_value cs cases lower chosen numbers probe place
    → number ≡ entry numbers place → part ≡ probe_at cs cases lower probe (get_or chosen place 0) → result ≡ sum +ℤ number *ℤ part → result ≡ chosen_value cs cases lower chosen numbers probe (place + 1)
value-more cs cases lower chosen numbers probe place sum number part result e f g h =
    let one : suc place ≡ place + 1 = omega arith in
    h ∙ ap (λ z. z +ℤ number *ℤ part) e ∙ ap (λ z. chosen_value cs cases lower chosen numbers probe place +ℤ z *ℤ part) f ∙ ap (λ z. chosen_value cs cases lower chosen numbers probe place +ℤ entry numbers place *ℤ z) g
    ∙ ap (λ (n : ℕ). chosen_value cs cases lower chosen numbers probe n) one

pub value-small : (place : ℕ) (sum number part result : ℤ) → unsigned_abs sum ≤ place * (28 ^ 6 * 4) → unsigned_abs number ≤ 28 ^ 6 → unsigned_abs part ≤ 4 → result ≡ sum +ℤ number *ℤ part → unsigned_abs result ≤ (place + 1) * (28 ^ 6 * 4)
value-small place sum number part result h k l e =
    let product : unsigned_abs (number *ℤ part) ≤ 28 ^ 6 * 4 = product_up_to number part (28 ^ 6) 4 k l in
    let both : unsigned_abs (sum +ℤ number *ℤ part) ≤ unsigned_abs sum + unsigned_abs (number *ℤ part) = unsigned_abs-+ℤ sum (number *ℤ part) in
    subst (λ (z : ℤ). unsigned_abs z ≤ (place + 1) * (28 ^ 6 * 4)) (sym e) (omega (arith, product, both, h))
