-- The null vector of the lines at the probes is the own relation of an unknown, and that of the
-- unit lines is a dual.
use Rattle.std.proofs.Common.{◌≡◌, ℕ, zero, suc, ◌+◌, ◌<◌, ◌≤◌, Bool, true, false, cond, List, [], ◌∷◌, ◌++◌, map, length, get_or, refl, sym, ap, subst, ◌∙◌, arith, ⊎_elim, ℤ, pos, negsuc, ◌+ℤ◌, ◌-ℤ◌, ◌*ℤ◌, ◌<ℤ◌, length-append}
use Rattle.std.specs.Prelude.{◌==◌, unsigned_abs, if◌then◌else◌}
use Rattle.std.specs.List.{AllByRecursion}
use Rattle.std.proofs.lemmas.Int.{ints}
use Rattle.std.proofs.lemmas.List.{get_or_append_left, get_or_push}
use Rattle.std.proofs.lemmas.Bool.{cases_eq}
use Rattle.std.proofs.Math.IntN.{*ℤ_comm, zero-*ℤ}
use Rattle.whole_numbers.proofs.Ring.{ring}
use Rattle.linear_terms.specs.declared.col.Col.{Col}
use Rattle.linear_terms.specs.Polynomial.{Polynomial}
use Rattle.farkas_check.specs.declared.stratum.Change.{Change}
use Rattle.farkas_check.specs.Frames.{sum_below}
use Rattle.farkas_check.specs.Relations.{entry}
use Rattle.simplex.proofs.Sums.{sum_below-same}
use Rattle.elimination.specs.declared.probes.Probe.{Probe}
use Rattle.elimination.specs.Probes.{probe_at, IsRegular, number_at, IsNullVector, IsDual}
use Rattle.elimination.specs.Stages.{HasSmallTerms, AreLines, AreDuals, probe_line, unit_line, probe_number, IsOwnRelation}
use Rattle.elimination.proofs.Few.{each_from, probe_at-small}
use Rattle.elimination.proofs.Regular.{regular-same, regular-turned}

-- ---- lines

pub lines-none : (line : ℕ → List ℤ) → AreLines 0 line []
lines-none line = record { each = refl; at = λ i h. absurd (omega (arith, h)) }

pub lines-more : (count : ℕ) (line : ℕ → List ℤ) (lines : List (List ℤ)) (own : List ℤ) → own ≡ line count → AreLines count line lines → AreLines (count + 1) line (lines ++ own ∷ [])
lines-more count line lines own e a = record {
  each = let many : length (lines ++ own ∷ []) ≡ length lines + 1 = length-append lines (own ∷ []) in let known : length lines ≡ count = a.each in omega (arith, many, known);
  at = λ i h. go i h;
}
  where
    go : (i : ℕ) → i < count + 1 → get_or (lines ++ own ∷ []) i [] ≡ line i
    go i h =
        ⊎_elim (λ (last : i ≡ count). get_or_push lines own [] i (a.each ∙ sym last) ∙ e ∙ ap line (sym last))
        (λ other. let front : i < count = omega (arith, h, other) in get_or_append_left lines (own ∷ []) [] i (subst (λ (n : ℕ). i < n) (sym a.each) front) ∙ a.at i front)
        (cases_eq i count)

pub lines-each : (P : List ℤ → Type 0) (count : ℕ) (line : ℕ → List ℤ) (lines : List (List ℤ)) → AreLines count line lines → ((i : ℕ) → P (line i)) → AllByRecursion P lines
lines-each P count line lines a tells = each_from P lines [] (λ i h. subst P (sym (a.at i (subst (λ (n : ℕ). i < n) a.each h))) (tells i))

mapped-entry : {A : Type 0} (f : A → ℤ) (xs : List A) (d : A) (j : ℕ) → j < length xs → entry (map f xs) j ≡ f (get_or xs j d)
mapped-entry f [] d j h = absurd (omega (arith, h))
mapped-entry f (x ∷ xs) d zero h = refl
mapped-entry f (x ∷ xs) d (suc j) h = mapped-entry f xs d j (omega (arith, h))

mapped-length : {A : Type 0} (f : A → ℤ) (xs : List A) → length (map f xs) ≡ length xs
mapped-length f [] = refl
mapped-length f (x ∷ xs) = ap (λ (n : ℕ). suc n) (mapped-length f xs)

mapped-each : {A : Type 0} (P : ℤ → Type 0) (f : A → ℤ) → ((x : A) → P (f x)) → (xs : List A) → AllByRecursion P (map f xs)
mapped-each P f tells [] = tt
mapped-each P f tells (x ∷ xs) = (tells x, mapped-each P f tells xs)

each-more_last : (P : ℤ → Type 0) (xs : List ℤ) (z : ℤ) → AllByRecursion P xs → P z → AllByRecursion P (xs ++ z ∷ [])
each-more_last P [] z h k = (k, tt)
each-more_last P (x ∷ xs) z h k = (h.0, each-more_last P xs z h.1 k)

-- ---- lines at the probes

module _ (cs : List (List Col)) (cases : List Change) (lower : List Polynomial) (probes : List Probe) (free : List ℕ) (unknown : ℕ) (many : length probes ≡ length free) (lines : List (List ℤ)) (a : AreLines (length probes) (probe_line cs cases lower probes (free ++ unknown ∷ [])) lines) where
  chosen_many : length (free ++ unknown ∷ []) ≡ suc (length free)
  chosen_many = let e : length (free ++ unknown ∷ []) ≡ length free + 1 = length-append free (unknown ∷ []) in omega (arith, e)

  lines_many : length lines ≡ length free
  lines_many = a.each ∙ many

  at_front : (i j : ℕ) → i < length free → j < length free → number_at lines i j ≡ probe_number cs cases lower probes free i j
  at_front i j h k =
      ap (λ (line : List ℤ). entry line j) (a.at i (subst (λ (n : ℕ). i < n) (sym many) h))
      ∙ mapped-entry (probe_at cs cases lower (get_or probes i (record { case = 0; place = 0 }))) (free ++ unknown ∷ []) 0 j (omega (arith, k, chosen_many))
      ∙ ap (probe_at cs cases lower (get_or probes i (record { case = 0; place = 0 }))) (get_or_append_left free (unknown ∷ []) 0 j k)

  at_last : (i : ℕ) → i < length free → number_at lines i (length free) ≡ probe_at cs cases lower (get_or probes i (record { case = 0; place = 0 })) unknown
  at_last i h =
      ap (λ (line : List ℤ). entry line (length free)) (a.at i (subst (λ (n : ℕ). i < n) (sym many) h))
      ∙ mapped-entry (probe_at cs cases lower (get_or probes i (record { case = 0; place = 0 }))) (free ++ unknown ∷ []) 0 (length free) (omega (arith, chosen_many))
      ∙ ap (probe_at cs cases lower (get_or probes i (record { case = 0; place = 0 }))) (get_or_push free unknown 0 (length free) refl)

  pub lines_wide : AllByRecursion (λ line. length line ≡ length lines + 1) lines
  lines_wide = lines-each (λ line. length line ≡ length lines + 1) (length probes) (probe_line cs cases lower probes (free ++ unknown ∷ [])) lines a (λ i. mapped-length (probe_at cs cases lower (get_or probes i (record { case = 0; place = 0 }))) (free ++ unknown ∷ []) ∙ (let e : length (free ++ unknown ∷ []) ≡ suc (length free) = chosen_many in let f : length lines ≡ length free = lines_many in omega (arith, e, f)))

  pub lines_small : HasSmallTerms cases lower → AllByRecursion (AllByRecursion (λ z. unsigned_abs z ≤ 4)) lines
  lines_small s = lines-each (AllByRecursion (λ z. unsigned_abs z ≤ 4)) (length probes) (probe_line cs cases lower probes (free ++ unknown ∷ [])) lines a (λ i. mapped-each (λ z. unsigned_abs z ≤ 4) (probe_at cs cases lower (get_or probes i (record { case = 0; place = 0 }))) (λ u. probe_at-small cs cases lower (get_or probes i (record { case = 0; place = 0 })) u s) (free ++ unknown ∷ []))

  pub lines_regular : IsRegular (length free) (probe_number cs cases lower probes free) → IsRegular (length lines) (number_at lines)
  lines_regular r = subst (λ (n : ℕ). IsRegular n (number_at lines)) (sym lines_many) (regular-same (length free) (probe_number cs cases lower probes free) (number_at lines) (λ i j h k. sym (at_front i j h k)) r)

  pub lines_few : length free ≤ 6 → length lines ≤ 6
  lines_few h = let e : length lines ≡ length free = lines_many in omega (arith, e, h)

  pub own_relation : (v : List ℤ) → IsNullVector lines v → IsOwnRelation cs cases lower probes free unknown v
  own_relation v n = record {
    each = let e : length lines ≡ length free = lines_many in let f : length v ≡ length lines + 1 = n.each in omega (arith, e, f);
    zeros = λ i h. zeros i h;
    positive = subst (λ (m : ℕ). pos 0 <ℤ entry v m) lines_many n.positive;
    primitive = n.primitive;
    small = n.small;
  }
    where
      wide : length lines + 1 ≡ suc (length free)
      wide = let e : length lines ≡ length free = lines_many in omega (arith, e)

      zeros : (i : ℕ) → i < length free → sum_below (length free) (λ j. probe_number cs cases lower probes free i j *ℤ entry v j) +ℤ probe_at cs cases lower (get_or probes i (record { case = 0; place = 0 })) unknown *ℤ entry v (length free) ≡ pos 0
      zeros i h =
          ap (λ z. z +ℤ probe_at cs cases lower (get_or probes i (record { case = 0; place = 0 })) unknown *ℤ entry v (length free))
          (sum_below-same (length free) (λ j. probe_number cs cases lower probes free i j *ℤ entry v j) (λ j. number_at lines i j *ℤ entry v j) (λ j k. ap (λ z. z *ℤ entry v j) (sym (at_front i j h k))))
          ∙ ap (λ z. sum_below (length free) (λ j. number_at lines i j *ℤ entry v j) +ℤ z *ℤ entry v (length free)) (sym (at_last i h))
          ∙ subst (λ (m : ℕ). sum_below m (λ j. number_at lines i j *ℤ entry v j) ≡ pos 0) wide (n.solves i (subst (λ (m : ℕ). i < m) (sym lines_many) h))

pub lines-same : (cs : List (List Col)) (cases : List Change) (lower : List Polynomial) (probes others : List Probe) (chosen us : List ℕ) (lines made : List (List ℤ)) → others ≡ probes → us ≡ chosen → made ≡ lines
    → AreLines (length others) (probe_line cs cases lower others us) lines → AreLines (length probes) (probe_line cs cases lower probes chosen) made
lines-same cs cases lower probes others chosen us lines made e f g a =
    subst (AreLines (length probes) (probe_line cs cases lower probes chosen)) (sym g)
    (subst (λ (vs : List ℕ). AreLines (length probes) (probe_line cs cases lower probes vs) lines) f (subst (λ (ps : List Probe). AreLines (length ps) (probe_line cs cases lower ps us) lines) e a))

-- ---- unit lines

pub units-same : (cs : List (List Col)) (cases : List Change) (lower : List Polynomial) (probes others : List Probe) (free us : List ℕ) (own : ℕ) (lines made : List (List ℤ)) → others ≡ probes → us ≡ free → made ≡ lines
    → AreLines (length us) (unit_line cs cases lower others us own) lines → AreLines (length free) (unit_line cs cases lower probes free own) made
units-same cs cases lower probes others free us own lines made e f g a =
    subst (AreLines (length free) (unit_line cs cases lower probes free own)) (sym g)
    (subst (λ (ps : List Probe). AreLines (length free) (unit_line cs cases lower ps free own) lines) e (subst (λ (vs : List ℕ). AreLines (length vs) (unit_line cs cases lower others vs own) lines) f a))

module _ (cs : List (List Col)) (cases : List Change) (lower : List Polynomial) (probes : List Probe) (free : List ℕ) (own : ℕ) (many : length probes ≡ length free) (lines : List (List ℤ)) (a : AreLines (length free) (unit_line cs cases lower probes free own) lines) where
  line_many : (i : ℕ) → length (unit_line cs cases lower probes free own i) ≡ length probes + 1
  line_many i = length-append (map (λ (probe : Probe). probe_at cs cases lower probe (get_or free i 0)) probes) ((if i == own then negsuc 0 else pos 0) ∷ []) ∙ ap (λ (n : ℕ). n + 1) (mapped-length (λ (probe : Probe). probe_at cs cases lower probe (get_or free i 0)) probes)

  unit_front : (i j : ℕ) → i < length free → j < length free → number_at lines i j ≡ probe_number cs cases lower probes free j i
  unit_front i j h k =
      ap (λ (line : List ℤ). entry line j) (a.at i h)
      ∙ get_or_append_left (map (λ (probe : Probe). probe_at cs cases lower probe (get_or free i 0)) probes) ((if i == own then negsuc 0 else pos 0) ∷ []) (pos 0) j (subst (λ (n : ℕ). j < n) (sym (mapped-length (λ (probe : Probe). probe_at cs cases lower probe (get_or free i 0)) probes ∙ many)) k)
      ∙ mapped-entry (λ (probe : Probe). probe_at cs cases lower probe (get_or free i 0)) probes (record { case = 0; place = 0 }) j (subst (λ (n : ℕ). j < n) (sym many) k)

  unit_last : (i : ℕ) → i < length free → number_at lines i (length free) ≡ (if i == own then negsuc 0 else pos 0)
  unit_last i h =
      ap (λ (line : List ℤ). entry line (length free)) (a.at i h)
      ∙ get_or_push (map (λ (probe : Probe). probe_at cs cases lower probe (get_or free i 0)) probes) (if i == own then negsuc 0 else pos 0) (pos 0) (length free) (mapped-length (λ (probe : Probe). probe_at cs cases lower probe (get_or free i 0)) probes ∙ many)

  pub units_wide : AllByRecursion (λ line. length line ≡ length lines + 1) lines
  units_wide = lines-each (λ line. length line ≡ length lines + 1) (length free) (unit_line cs cases lower probes free own) lines a (λ i. line_many i ∙ ap (λ (n : ℕ). n + 1) (many ∙ sym a.each))

  pub units_small : HasSmallTerms cases lower → AllByRecursion (AllByRecursion (λ z. unsigned_abs z ≤ 4)) lines
  units_small s = lines-each (AllByRecursion (λ z. unsigned_abs z ≤ 4)) (length free) (unit_line cs cases lower probes free own) lines a
      (λ i. each-more_last (λ z. unsigned_abs z ≤ 4) (map (λ (probe : Probe). probe_at cs cases lower probe (get_or free i 0)) probes) (if i == own then negsuc 0 else pos 0)
      (mapped-each (λ z. unsigned_abs z ≤ 4) (λ (probe : Probe). probe_at cs cases lower probe (get_or free i 0)) (λ probe. probe_at-small cs cases lower probe (get_or free i 0) s) probes) (unit-small (i == own)))
    where
      unit-small : (b : Bool) → unsigned_abs (cond b (negsuc 0) (pos 0)) ≤ 4
      unit-small true = omega arith
      unit-small false = omega arith

  pub units_regular : IsRegular (length free) (probe_number cs cases lower probes free) → IsRegular (length lines) (number_at lines)
  units_regular r = subst (λ (n : ℕ). IsRegular n (number_at lines)) (sym a.each) (regular-same (length free) (λ i j. probe_number cs cases lower probes free j i) (number_at lines) (λ i j h k. sym (unit_front i j h k)) (regular-turned (length free) (probe_number cs cases lower probes free) r))

  pub units_few : length free ≤ 6 → length lines ≤ 6
  units_few h = let e : length lines ≡ length free = a.each in omega (arith, e, h)

  pub dual : (v : List ℤ) → IsNullVector lines v → IsDual cs cases lower probes free own v
  dual v n = record {
    each = let e : length lines ≡ length free = a.each in let f : length v ≡ length lines + 1 = n.each in let g : length probes ≡ length free = many in omega (arith, e, f, g);
    positive = subst (λ (m : ℕ). pos 0 <ℤ entry v m) (a.each ∙ sym many) n.positive;
    unit = λ i h. unit i h;
    small = n.small;
  }
    where
      wide : length lines + 1 ≡ suc (length free)
      wide = let e : length lines ≡ length free = a.each in omega (arith, e)

      at : (i : ℕ) → i < length free → sum_below (length free) (λ j. entry v j *ℤ probe_number cs cases lower probes free j i) +ℤ (if i == own then negsuc 0 else pos 0) *ℤ entry v (length free) ≡ pos 0
      at i h =
          ap (λ z. z +ℤ (if i == own then negsuc 0 else pos 0) *ℤ entry v (length free))
          (sum_below-same (length free) (λ j. entry v j *ℤ probe_number cs cases lower probes free j i) (λ j. number_at lines i j *ℤ entry v j) (λ j k. *ℤ_comm (entry v j) (probe_number cs cases lower probes free j i) ∙ ap (λ z. z *ℤ entry v j) (sym (unit_front i j h k))))
          ∙ ap (λ z. sum_below (length free) (λ j. number_at lines i j *ℤ entry v j) +ℤ z *ℤ entry v (length free)) (sym (unit_last i h))
          ∙ subst (λ (m : ℕ). sum_below m (λ j. number_at lines i j *ℤ entry v j) ≡ pos 0) wide (n.solves i (subst (λ (m : ℕ). i < m) (sym a.each) h))

      read_off : (b : Bool) (s z : ℤ) → s +ℤ cond b (negsuc 0) (pos 0) *ℤ z ≡ pos 0 → s ≡ cond b z (pos 0)
      read_off true s z e = last s z (sym (ap (λ w. s +ℤ w) (less z)) ∙ e)
        where
          less : (z : ℤ) → negsuc 0 *ℤ z ≡ pos 0 -ℤ z
          less z = simp ring (omega (arith, ints))

          last : (s z : ℤ) → s +ℤ (pos 0 -ℤ z) ≡ pos 0 → s ≡ z
          last s z e = omega (arith, ints, e)
      read_off false s z e = last s (sym (ap (λ w. s +ℤ w) (zero-*ℤ z)) ∙ e)
        where
          last : (s : ℤ) → s +ℤ pos 0 ≡ pos 0 → s ≡ pos 0
          last s e = omega (arith, ints, e)

      unit : (i : ℕ) → i < length free → sum_below (length probes) (λ j. entry v j *ℤ probe_at cs cases lower (get_or probes j (record { case = 0; place = 0 })) (get_or free i 0)) ≡ (if i == own then entry v (length probes) else pos 0)
      unit i h = subst (λ (m : ℕ). sum_below m (λ j. entry v j *ℤ probe_number cs cases lower probes free j i) ≡ (if i == own then entry v m else pos 0)) (sym many) (read_off (i == own) (sum_below (length free) (λ j. entry v j *ℤ probe_number cs cases lower probes free j i)) (entry v (length free)) (at i h))

pub duals-more : (cs : List (List Col)) (cases : List Change) (lower : List Polynomial) (probes : List Probe) (free : List ℕ) (count : ℕ) (duals : List (List ℤ)) (own : List ℤ) → IsDual cs cases lower probes free count own
    → AreDuals cs cases lower probes free count duals → AreDuals cs cases lower probes free (count + 1) (duals ++ own ∷ [])
duals-more cs cases lower probes free count duals own d a = record {
  each = let many : length (duals ++ own ∷ []) ≡ length duals + 1 = length-append duals (own ∷ []) in let known : length duals ≡ count = a.each in omega (arith, many, known);
  at = λ i h. go i h;
}
  where
    go : (i : ℕ) → i < count + 1 → IsDual cs cases lower probes free i (get_or (duals ++ own ∷ []) i [])
    go i h =
        ⊎_elim (λ (last : i ≡ count). subst (λ (n : ℕ). IsDual cs cases lower probes free n (get_or (duals ++ own ∷ []) n [])) (sym last) (subst (IsDual cs cases lower probes free count) (sym (get_or_push duals own [] count a.each)) d))
        (λ other. let front : i < count = omega (arith, h, other) in subst (IsDual cs cases lower probes free i) (sym (get_or_append_left duals (own ∷ []) [] i (subst (λ (n : ℕ). i < n) (sym a.each) front))) (a.at i front))
        (cases_eq i count)
