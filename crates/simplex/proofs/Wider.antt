-- A frame with one column more before its unit columns: a tableau of the frame is one of the wider
-- frame, where each line has at the new column what its own multiples of the frame's lines give.
use Rattle.std.proofs.Common.{◌≡◌, ◌⊎◌, ℕ, suc, ◌+◌, ◌-◌, ◌<◌, ◌≤◌, Bool, cond, List, [], length, map, get_or, refl, sym, ap, subst, ◌∙◌, arith, ⊎_elim, ℤ, pos, ◌+ℤ◌, ◌*ℤ◌, ◌<ℤ◌}
use Rattle.std.specs.Prelude.{nat_eq, nat_le}
use Rattle.std.proofs.lemmas.Int.{ints}
use Rattle.std.proofs.lemmas.Bool.{eq-eqb, ne_eqb, le-leb, lt-leb}
use Rattle.std.proofs.lemmas.List.{get_or-map, length-map}
use Rattle.std.proofs.Math.IntN.{*ℤ_comm, zero-*ℤ}
use Rattle.whole_numbers.specs.Divisors.{gcd_of_all}
use Rattle.whole_numbers.proofs.Ring.{ring, *ℤ_assoc, one-*ℤ}
use Rattle.farkas_check.specs.Frames.{sum_below}
use Rattle.farkas_check.specs.Relations.{entry}
use Rattle.simplex.specs.Exchange.{numbers_of, choices_of, IsTableauOf, ArePrimitive}
use Rattle.simplex.specs.Frames.{IsOwnCombination, IsWholeTableau}
use Rattle.simplex.specs.declared.tableau.Tableau.{Tableau}
use Rattle.simplex.proofs.Corners.{none, single, plus, factored}
use Rattle.simplex.proofs.Skips.{put, skip, put-length, put-here, put-skip, skip-less, skip-unit, skipped, sum_skip, primitive-put}
use Rattle.simplex.proofs.RowCorners.{sum_below-plus}
use Rattle.simplex.proofs.Sums.{sum_below-same}

-- a frame with one column more at a place before the unit columns
pub record HasMore (k units lines : ℕ) (frame other : ℕ → ℕ → ℤ) : Type 0 where
  pub inside : k ≤ units
  pub same : (l j : ℕ) → l < lines → other l (skip k j) ≡ frame l j
  pub unit : (l m : ℕ) → l < lines → m < lines → frame l (units + m) ≡ cond (nat_eq m l) (pos 1) (pos 0)

-- what a line has at the new column
abbrev pub more_at : ℕ → ℕ → (ℕ → ℤ) → (ℕ → ℤ) → ℤ
more_at units lines column w = sum_below lines (λ l. w (units + l) *ℤ column l)

module _ (k units lines : ℕ) (frame other numbers after : ℕ → ℕ → ℤ) (chosen next : ℕ → ℕ) (h : HasMore k units lines frame other) (t : IsWholeTableau lines units (units + lines) frame numbers chosen)
    (elsewhere : (i j : ℕ) → i < lines → after i (skip k j) ≡ numbers i j) (here : (i : ℕ) → i < lines → after i k ≡ more_at units lines (λ l. other l k) (numbers i)) (choices : (i : ℕ) → i < lines → next i ≡ skip k (chosen i)) where
  at_unit : (w : ℕ → ℤ) (l : ℕ) → w (units + 1 + l) ≡ w (skip k (units + l))
  at_unit w l = ap w (sym (skip-unit k units l h.inside))

  wide : units + 1 + lines ≡ suc (units + lines)
  wide = omega arith

  at_place : (j : ℕ) → j < units + 1 + lines → (j ≡ k) ⊎ ((i : ℕ) × ((i < units + lines) × (j ≡ skip k i)))
  at_place j m = skipped (units + lines) k j (let a : k ≤ units = h.inside in omega (arith, a)) (omega (arith, m))

  combined : (i : ℕ) → i < lines → IsOwnCombination lines (units + 1) (units + 1 + lines) other (after i)
  combined i m j g = ⊎_elim new (λ found. old found.0 found.1.0 found.1.1) (at_place j g)
    where
      parts : (c : ℕ) → sum_below lines (λ l. numbers i (units + l) *ℤ other l c) ≡ sum_below lines (λ l. after i (units + 1 + l) *ℤ other l c)
      parts c = sum_below-same lines (λ l. numbers i (units + l) *ℤ other l c) (λ l. after i (units + 1 + l) *ℤ other l c) (λ l p. ap (λ z. z *ℤ other l c) (sym (at_unit (after i) l ∙ elsewhere i (units + l) m)))

      new : j ≡ k → after i j ≡ sum_below lines (λ l. after i (units + 1 + l) *ℤ other l j)
      new e = ap (after i) e ∙ here i m ∙ parts k ∙ ap (λ (c : ℕ). sum_below lines (λ l. after i (units + 1 + l) *ℤ other l c)) (sym e)

      old : (c : ℕ) → c < units + lines → j ≡ skip k c → after i j ≡ sum_below lines (λ l. after i (units + 1 + l) *ℤ other l j)
      old c p e =
          ap (after i) e ∙ elsewhere i c m ∙ t.combination i m c p
          ∙ sum_below-same lines (λ l. numbers i (units + l) *ℤ frame l c) (λ l. numbers i (units + l) *ℤ other l (skip k c)) (λ l q. ap (λ z. numbers i (units + l) *ℤ z) (sym (h.same l c q)))
          ∙ parts (skip k c) ∙ ap (λ (c : ℕ). sum_below lines (λ l. after i (units + 1 + l) *ℤ other l c)) (sym e)

  decided : (w : ℕ → ℤ) → IsOwnCombination lines (units + 1) (units + 1 + lines) other w → ((i : ℕ) → i < lines → w (next i) ≡ pos 0) → (j : ℕ) → j < units + 1 + lines → w j ≡ pos 0
  decided w c zeros j g = ⊎_elim (λ (e : j ≡ k). new e) (λ found. ap w found.1.1 ∙ old found.0 found.1.0) (at_place j g)
    where
      parts : (d : ℕ) → sum_below lines (λ l. w (units + 1 + l) *ℤ other l (skip k d)) ≡ sum_below lines (λ l. w (skip k (units + l)) *ℤ frame l d)
      parts d = sum_below-same lines (λ l. w (units + 1 + l) *ℤ other l (skip k d)) (λ l. w (skip k (units + l)) *ℤ frame l d) (λ l q. ap (λ z. z *ℤ other l (skip k d)) (at_unit w l) ∙ ap (λ z. w (skip k (units + l)) *ℤ z) (h.same l d q))

      old : (d : ℕ) → d < units + lines → w (skip k d) ≡ pos 0
      old = t.determined (λ d. w (skip k d)) (λ d p. c (skip k d) (let q : skip k d < units + lines + 1 = skip-less (units + lines) k d p in omega (arith, q)) ∙ parts d) (λ i m. ap w (sym (choices i m)) ∙ zeros i m)

      new : j ≡ k → w j ≡ pos 0
      new e = c j g ∙ none lines (λ l. w (units + 1 + l) *ℤ other l j) (λ l q. ap (λ z. z *ℤ other l j) (at_unit w l ∙ old (units + l) (omega (arith, q))) ∙ zero-*ℤ (other l j))

  solved : (x : ℕ → ℤ) → ((i : ℕ) → i < lines → sum_below (units + 1 + lines) (λ j. after i j *ℤ x j) ≡ pos 0) → (l : ℕ) → l < lines → sum_below (units + 1 + lines) (λ j. other l j *ℤ x j) ≡ pos 0
  solved x e l m = sums (other l) (frame l) (λ j. h.same l j m) (other l k) at_new ∙ t.solutions y each l m
    where
      -- the new column counts at the slacks
      push : ℕ → ℤ
      push l = other l k *ℤ x k

      late : ℕ → ℤ
      late j = cond (nat_le units j) (push (j - units)) (pos 0)

      y : ℕ → ℤ
      y j = x (skip k j) +ℤ late j

      late-before : (j : ℕ) → j < units → late j ≡ pos 0
      late-before j p = ap (λ (b : Bool). cond b (push (j - units)) (pos 0)) (lt-leb units j p)

      late-behind : (l : ℕ) → late (units + l) ≡ push l
      late-behind l = ap (λ (b : Bool). cond b (push (units + l - units)) (pos 0)) (le-leb units (units + l) (omega arith)) ∙ (let q : units + l - units ≡ l = omega arith in ap push q)

      regroup : (a b c : ℤ) → a *ℤ (b +ℤ c) ≡ a *ℤ b +ℤ a *ℤ c
      regroup a b c = simp ring (omega (arith, ints))

      -- under the numbers of a line
      pushed : (w : ℕ → ℤ) → sum_below (units + lines) (λ j. w j *ℤ late j) ≡ sum_below lines (λ l. w (units + l) *ℤ push l)
      pushed w =
          sum_below-plus units lines (λ j. w j *ℤ late j)
          ∙ ap (λ z. z +ℤ sum_below lines (λ l. w (units + l) *ℤ late (units + l))) (none units (λ j. w j *ℤ late j) (λ j p. ap (λ z. w j *ℤ z) (late-before j p) ∙ *ℤ_comm (w j) (pos 0) ∙ zero-*ℤ (w j)))
          ∙ plain (sum_below lines (λ l. w (units + l) *ℤ late (units + l)))
          ∙ sum_below-same lines (λ l. w (units + l) *ℤ late (units + l)) (λ l. w (units + l) *ℤ push l) (λ l p. ap (λ z. w (units + l) *ℤ z) (late-behind l))
        where
          plain : (z : ℤ) → pos 0 +ℤ z ≡ z
          plain z = omega (arith, ints)

      sums : (v w : ℕ → ℤ) → ((j : ℕ) → v (skip k j) ≡ w j) → (a : ℤ) → (v k *ℤ x k ≡ sum_below lines (λ l. w (units + l) *ℤ push l)) → sum_below (units + 1 + lines) (λ j. v j *ℤ x j) ≡ sum_below (units + lines) (λ j. w j *ℤ y j)
      sums v w same a f =
          ap (λ (n : ℕ). sum_below n (λ j. v j *ℤ x j)) wide
          ∙ sum_skip (units + lines) k (λ j. v j *ℤ x j) (let q : k ≤ units = h.inside in omega (arith, q))
          ∙ ap (λ z. sum_below (units + lines) (λ j. v (skip k j) *ℤ x (skip k j)) +ℤ z) (f ∙ sym (pushed w))
          ∙ ap (λ z. z +ℤ sum_below (units + lines) (λ j. w j *ℤ late j)) (sum_below-same (units + lines) (λ j. v (skip k j) *ℤ x (skip k j)) (λ j. w j *ℤ x (skip k j)) (λ j p. ap (λ z. z *ℤ x (skip k j)) (same j)))
          ∙ sym (plus (units + lines) (λ j. w j *ℤ x (skip k j)) (λ j. w j *ℤ late j))
          ∙ sum_below-same (units + lines) (λ j. w j *ℤ x (skip k j) +ℤ w j *ℤ late j) (λ j. w j *ℤ y j) (λ j p. sym (regroup (w j) (x (skip k j)) (late j)))

      at_new : other l k *ℤ x k ≡ sum_below lines (λ o. frame l (units + o) *ℤ push o)
      at_new = sym (
          single lines (λ o. frame l (units + o) *ℤ push o) l m (λ o p apart. ap (λ z. z *ℤ push o) (h.unit l o m p ∙ ap (λ (b : Bool). cond b (pos 1) (pos 0)) (ne_eqb o l apart)) ∙ zero-*ℤ (push o))
          ∙ ap (λ z. z *ℤ push l) (h.unit l l m m ∙ ap (λ (b : Bool). cond b (pos 1) (pos 0)) (eq-eqb l l refl)) ∙ one-*ℤ (push l))

      each : (i : ℕ) → i < lines → sum_below (units + lines) (λ j. numbers i j *ℤ y j) ≡ pos 0
      each i p = sym (sums (after i) (numbers i) (λ j. elsewhere i j p) (after i k) (ap (λ z. z *ℤ x k) (here i p) ∙ spread)) ∙ e i p
        where
          spread : sum_below lines (λ l. numbers i (units + l) *ℤ other l k) *ℤ x k ≡ sum_below lines (λ l. numbers i (units + l) *ℤ push l)
          spread =
              *ℤ_comm (sum_below lines (λ l. numbers i (units + l) *ℤ other l k)) (x k)
              ∙ factored lines (x k) (λ l. numbers i (units + l) *ℤ other l k)
              ∙ sum_below-same lines (λ l. x k *ℤ (numbers i (units + l) *ℤ other l k)) (λ l. numbers i (units + l) *ℤ push l) (λ l q. *ℤ_comm (x k) (numbers i (units + l) *ℤ other l k) ∙ *ℤ_assoc (numbers i (units + l)) (other l k) (x k))

  pub wider_is : IsWholeTableau lines (units + 1) (units + 1 + lines) other after next
  wider_is = record {
    own = λ i m. subst (λ (z : ℤ). pos 0 <ℤ z) (sym (ap (after i) (choices i m) ∙ elsewhere i (chosen i) m)) (t.own i m);
    others = λ i o m g apart. ap (after i) (choices o g) ∙ elsewhere i (chosen o) m ∙ t.others i o m g apart;
    combination = combined;
    determined = decided;
    solutions = solved;
  }

-- ---- lists

-- the tableau over the wider frame
abbrev pub wider : ℕ → ℕ → (ℕ → ℤ) → Tableau → Tableau
wider k units column t = record {
  lines = map (λ (line : List ℤ). put k (more_at units (length t.lines) column (entry line)) line) t.lines;
  chosen = map (skip k) t.chosen;
}

module _ (k units : ℕ) (frame other : ℕ → ℕ → ℤ) (t : Tableau) (h : HasMore k units (length t.lines) frame other) (s : IsTableauOf units frame t) where
  abbrev pub now : Tableau
  now = wider k units (λ l. other l k) t

  pub now-many : length (now).lines ≡ length t.lines
  now-many = length-map t.lines (λ (line : List ℤ). put k (more_at units (length t.lines) (λ l. other l k) (entry line)) line)

  in_t : (i : ℕ) → i < length (now).lines → i < length t.lines
  in_t i m = subst (λ (n : ℕ). i < n) now-many m

  short : (i : ℕ) → i < length t.lines → k ≤ length (get_or t.lines i [])
  short i m = let e : length (get_or t.lines i []) ≡ units + length t.lines = s.shape.wide i m in let a : k ≤ units = h.inside in omega (arith, e, a)

  pub line_now : (i : ℕ) → i < length t.lines → get_or (now).lines i [] ≡ put k (more_at units (length t.lines) (λ l. other l k) (numbers_of t i)) (get_or t.lines i [])
  line_now i m = get_or-map (λ (line : List ℤ). put k (more_at units (length t.lines) (λ l. other l k) (entry line)) line) t.lines i [] [] m

  pub numbers_now : (i j : ℕ) → i < length t.lines → numbers_of now i (skip k j) ≡ numbers_of t i j
  numbers_now i j m = ap (λ zs. entry zs (skip k j)) (line_now i m) ∙ put-skip k (more_at units (length t.lines) (λ l. other l k) (numbers_of t i)) (get_or t.lines i []) j (pos 0) (short i m)

  pub more_now : (i : ℕ) → i < length t.lines → numbers_of now i k ≡ more_at units (length t.lines) (λ l. other l k) (numbers_of t i)
  more_now i m = ap (λ zs. entry zs k) (line_now i m) ∙ put-here k (more_at units (length t.lines) (λ l. other l k) (numbers_of t i)) (get_or t.lines i []) (pos 0) (short i m)

  pub choices_now : (i : ℕ) → i < length t.lines → choices_of now i ≡ skip k (choices_of t i)
  choices_now i m = get_or-map (skip k) t.chosen i 0 0 (subst (λ (n : ℕ). i < n) (sym s.shape.choices) m)

  pub tableau_now : IsTableauOf (units + 1) other now
  tableau_now = record {
    shape = record {
      wide = λ i m. ap length (line_now i (in_t i m)) ∙ put-length k (more_at units (length t.lines) (λ l. other l k) (numbers_of t i)) (get_or t.lines i [])
          ∙ (let e : length (get_or t.lines i []) ≡ units + length t.lines = s.shape.wide i (in_t i m) in let f : length (now).lines ≡ length t.lines = now-many in omega (arith, e, f));
      choices = length-map t.chosen (skip k) ∙ s.shape.choices ∙ sym now-many;
    };
    is = subst (λ (n : ℕ). IsWholeTableau n (units + 1) (units + 1 + n) other (numbers_of now) (choices_of now)) (sym now-many)
        (wider_is k units (length t.lines) frame other (numbers_of t) (numbers_of now) (choices_of t) (choices_of now) h s.is numbers_now more_now choices_now);
    within = λ i m. let e : choices_of now i ≡ skip k (choices_of t i) = choices_now i (in_t i m) in let f : skip k (choices_of t i) < units + length t.lines + 1 = skip-less (units + length t.lines) k (choices_of t i) (s.within i (in_t i m)) in let g : length (now).lines ≡ length t.lines = now-many in omega (arith, e, f, g);
  }

  pub primitive_now : ArePrimitive t → ArePrimitive now
  primitive_now p i m = ap gcd_of_all (line_now i (in_t i m)) ∙ primitive-put k (more_at units (length t.lines) (λ l. other l k) (numbers_of t i)) (get_or t.lines i []) (p i (in_t i m))
