-- The search finds a vector above 0 wherever the lines that are 0 on some vector of the cone, and
-- the form, decide it.
use Rattle.std.proofs.Common.{◌≡◌, ◌≢◌, Bool, true, false, cond, refl, sym, ap, subst, ◌∙◌, arith, ⊎_elim, inl, inr, List, [], ◌∷◌, ◌++◌, ℤ, pos, ◌+ℤ◌, ◌-ℤ◌, ◌*ℤ◌, ◌≤ℤ◌, ◌<ℤ◌}
use Rattle.std.specs.Prelude.{neg_ℤ, int_le, ◌&&◌}
use Rattle.std.specs.List.{AllByRecursion}
use Rattle.std.proofs.lemmas.Int.{ints, by_lt_z}
use Rattle.std.proofs.lemmas.Bool.{false≢true}
use Rattle.std.proofs.Math.IntN.{*ℤ_comm, zero-*ℤ}
use Rattle.whole_numbers.proofs.Ring.{ring, *ℤ_assoc, *ℤ-positive}
use Rattle.items.proofs.Each.{each-append}
use Rattle.cones.specs.Vectors.{opposite}
use Rattle.whole_numbers.specs.Dot.{dot}
use Rattle.cones.specs.Cones.{Cleared, Kept, Given, clearing, are_at_most, ends, extremes_at_zero, extremes}
use Rattle.cones.specs.Spans.{Values, IsSpanned, IsIndependent, IsPointed, AreAtMost, IsAboveAt}
use Rattle.cones.proofs.Numbers.{times_zero, vanishes, above_not_zero, factor_positive, factor_not_above, product_not_above}
use Rattle.cones.proofs.Dots.{dot-opposite}
use Rattle.cones.proofs.Spanning.{same_spanned, sum_spanned, first_spanned, behind_spanned, lifted_spanned, vanishes_on}
use Rattle.cones.proofs.Clears.{IsClearing, clearing-is}

-- ---- tests

le_true : (a b : ℤ) → a ≤ℤ b → int_le a b ≡ true
le_true a b h = go (int_le a b) refl
  where
    go : (t : Bool) → int_le a b ≡ t → int_le a b ≡ true
    go true e = e
    go false e = absurd (omega (arith, ints, e, h))

le_of_true : (a b : ℤ) → int_le a b ≡ true → a ≤ℤ b
le_of_true a b e = by_lt_z b a (λ h. absurd (clash a b e h)) (λ h. h)
  where
    clash : (a b : ℤ) → int_le a b ≡ true → b <ℤ a → ⊥
    clash a b e h = omega (arith, ints, e, h)

both_true : (a b : Bool) → a ≡ true → b ≡ true → a && b ≡ true
both_true true b e f = f
both_true false b e f = absurd (false≢true e)

first_true : (a b : Bool) → a && b ≡ true → a ≡ true
first_true true b e = refl
first_true false b e = e

second_true : (a b : Bool) → a && b ≡ true → b ≡ true
second_true true b e = e
second_true false b e = absurd (false≢true e)

pub at_most-true : (lines : List (List ℤ)) (v : List ℤ) → AreAtMost lines (λ l. dot l v) → are_at_most lines v ≡ true
at_most-true [] v h = refl
at_most-true (line ∷ lines) v h = both_true (int_le (dot line v) (pos 0)) (are_at_most lines v) (le_true (dot line v) (pos 0) h.0) (at_most-true lines v h.1)

pub at_most-are : (lines : List (List ℤ)) (v : List ℤ) → are_at_most lines v ≡ true → AreAtMost lines (λ l. dot l v)
at_most-are [] v e = tt
at_most-are (line ∷ lines) v e = (
  le_of_true (dot line v) (pos 0) (first_true (int_le (dot line v) (pos 0)) (are_at_most lines v) e),
  at_most-are lines v (second_true (int_le (dot line v) (pos 0)) (are_at_most lines v) e),
)

pub zero_or : {P : Type 0} (z : ℤ) → (z ≡ pos 0 → P) → (z ≢ pos 0 → P) → P
zero_or z same other =
    by_lt_z (pos 0) z (λ p. other (above_not_zero z p))
    (λ p. by_lt_z z (pos 0) (λ q. other (below z q)) (λ q. same (omega (arith, ints))))
  where
    below : (z : ℤ) → z <ℤ pos 0 → z ≢ pos 0
    below z q e = omega (arith, ints)

-- ---- lists

above_left : (z : List ℤ) (vs us : List (List ℤ)) → IsAboveAt z vs → IsAboveAt z (vs ++ us)
above_left z [] us h = absurd h
above_left z (v ∷ vs) us h = ⊎_elim (λ k. inl k) (λ k. inr (above_left z vs us k)) h

above_right : (z : List ℤ) (vs us : List (List ℤ)) → IsAboveAt z us → IsAboveAt z (vs ++ us)
above_right z [] us h = h
above_right z (v ∷ vs) us h = inr (above_right z vs us h)

-- ---- one vector is left

-- up to positive factors the vector has the values
record IsAlong (w : Values) (v : List ℤ) : Type 0 where
  left : ℤ
  left_above : pos 0 <ℤ left
  right : ℤ
  right_above : pos 0 <ℤ right
  same : (l : List ℤ) → left *ℤ w l ≡ right *ℤ dot l v

along_inside : (lines : List (List ℤ)) (w : Values) (v : List ℤ) → IsAlong w v → AreAtMost lines w → AreAtMost lines (λ l. dot l v)
along_inside [] w v a h = tt
along_inside (line ∷ lines) w v a h =
    (factor_not_above a.right (dot line v) a.right_above (subst (λ x. x ≤ℤ pos 0) (a.same line) (product_not_above a.left (w line) (weak a.left a.left_above) h.0)), along_inside lines w v a h.1)
  where
    weak : (x : ℤ) → pos 0 <ℤ x → pos 0 ≤ℤ x
    weak x h = omega (arith, ints)

along_above : (z : List ℤ) (w : Values) (v : List ℤ) → IsAlong w v → pos 0 <ℤ w z → pos 0 <ℤ dot z v
along_above z w v a h = factor_positive a.right (dot z v) a.right_above (subst (λ x. pos 0 <ℤ x) (a.same z) (*ℤ-positive a.left (w z) a.left_above h))

pub both_zero : (lines : List (List ℤ)) (v : List ℤ) → AreAtMost lines (λ l. dot l v) → AreAtMost lines (λ l. dot l (opposite v)) → AllByRecursion (λ l. dot l v ≡ pos 0) lines
both_zero [] v h k = tt
both_zero (line ∷ lines) v h k = (meet (dot line v) (dot line (opposite v)) (dot-opposite line v) h.0 k.0, both_zero lines v h.1 k.1)
  where
    meet : (x y : ℤ) → y ≡ neg_ℤ x → x ≤ℤ pos 0 → y ≤ℤ pos 0 → x ≡ pos 0
    meet x y e h k = omega (arith, ints)

found_one : (lines : List (List ℤ)) (z : List ℤ) (w : Values) (v : List ℤ) → AreAtMost lines w → pos 0 <ℤ w z → IsPointed lines (v ∷ []) → IsSpanned (v ∷ []) w → IsAboveAt z (ends lines v)
found_one lines z w v inside above pointed s =
    by_lt_z (pos 0) (s.0 *ℤ s.1) (λ p. upwards (same_way p))
    (λ p. by_lt_z (s.0 *ℤ s.1) (pos 0) (λ q. downwards (other_way q)) (λ q. absurd (neither (omega (arith, ints)))))
  where
    meet : (x y : ℤ) → x -ℤ y ≡ pos 0 → x ≡ y
    meet x y e = omega (arith, ints)

    same : (l : List ℤ) → s.0 *ℤ w l ≡ s.1 *ℤ dot l v
    same l = meet (s.0 *ℤ w l) (s.1 *ℤ dot l v) (s.3 l)

    squared : (l : List ℤ) → s.0 *ℤ s.0 *ℤ w l ≡ s.0 *ℤ s.1 *ℤ dot l v
    squared l = *ℤ_assoc s.0 s.0 (w l) ∙ ap (λ x. s.0 *ℤ x) (same l) ∙ sym (*ℤ_assoc s.0 s.1 (dot l v))

    square_above : pos 0 <ℤ (s.0 *ℤ s.0)
    square_above =
        by_lt_z (pos 0) s.0 (λ p. *ℤ-positive s.0 s.0 p p)
        (λ p. by_lt_z s.0 (pos 0) (λ q. subst (λ x. pos 0 <ℤ x) (turned s.0) (*ℤ-positive (neg_ℤ s.0) (neg_ℤ s.0) (omega (arith, ints)) (omega (arith, ints))))
        (λ q. let none : s.0 ≡ pos 0 = omega (arith, ints) in absurd (s.2 none)))
      where
        turned : (x : ℤ) → neg_ℤ x *ℤ neg_ℤ x ≡ x *ℤ x
        turned x = simp ring (omega (arith, ints))

    neither : s.0 *ℤ s.1 ≡ pos 0 → ⊥
    neither e = clash (s.0 *ℤ s.0 *ℤ w z) (*ℤ-positive (s.0 *ℤ s.0) (w z) square_above above) (squared z ∙ ap (λ x. x *ℤ dot z v) e ∙ zero-*ℤ (dot z v))
      where
        clash : (x : ℤ) → pos 0 <ℤ x → x ≡ pos 0 → ⊥
        clash x h e = omega (arith, ints)

    same_way : pos 0 <ℤ (s.0 *ℤ s.1) → IsAlong w v
    same_way p = record { left = s.0 *ℤ s.0; left_above = square_above; right = s.0 *ℤ s.1; right_above = p; same = squared }

    other_way : (s.0 *ℤ s.1) <ℤ pos 0 → IsAlong w (opposite v)
    other_way q = record {
      left = s.0 *ℤ s.0;
      left_above = square_above;
      right = neg_ℤ (s.0 *ℤ s.1);
      right_above = omega (arith, ints);
      same = λ l. squared l ∙ turned (s.0 *ℤ s.1) (dot l v) ∙ ap (λ x. neg_ℤ (s.0 *ℤ s.1) *ℤ x) (sym (dot-opposite l v));
    }
      where
        turned : (x y : ℤ) → x *ℤ y ≡ neg_ℤ x *ℤ neg_ℤ y
        turned x y = simp ring (omega (arith, ints))

    upwards : IsAlong w v → IsAboveAt z (ends lines v)
    upwards a = go (are_at_most lines v) (at_most-true lines v (along_inside lines w v a inside))
      where
        go : (b : Bool) → b ≡ true → IsAboveAt z (cond b (v ∷ []) (cond (are_at_most lines (opposite v)) (opposite v ∷ []) []))
        go true e = inl (along_above z w v a above)
        go false e = absurd (false≢true e)

    downwards : IsAlong w (opposite v) → IsAboveAt z (ends lines v)
    downwards a = go (are_at_most lines v) refl (are_at_most lines (opposite v)) (at_most-true lines (opposite v) below)
      where
        below : AreAtMost lines (λ l. dot l (opposite v))
        below = along_inside lines w (opposite v) a inside

        flat : AreAtMost lines (λ l. dot l v) → dot z v ≡ pos 0
        flat h = pointed (λ l. dot l v) (first_spanned v []) (both_zero lines v h below) z

        clash : (x y : ℤ) → x ≡ pos 0 → y ≡ neg_ℤ x → pos 0 <ℤ y → ⊥
        clash x y e f h = omega (arith, ints)

        go : (b : Bool) → are_at_most lines v ≡ b → (c : Bool) → c ≡ true → IsAboveAt z (cond b (v ∷ []) (cond c (opposite v ∷ []) []))
        go true e c f = absurd (clash (dot z v) (dot z (opposite v)) (flat (at_most-are lines v e)) (dot-opposite z v) (along_above z w (opposite v) a above))
        go false e true f = inl (along_above z w (opposite v) a above)
        go false e false f = absurd (false≢true f)

-- ---- what decides a vector

-- nothing that the basis spans but 0 is 0 on the form, and on those of the lines on which the
-- vector is 0
abbrev pub IsDecided : List (List ℤ) → List (List ℤ) → List ℤ → Values → Type 0
IsDecided rest basis z w = (f : Values) → IsSpanned basis f → AllByRecursion (λ line. w line ≡ pos 0 → f line ≡ pos 0) rest → f z ≡ pos 0
    → (line : List ℤ) → f line ≡ pos 0

-- two independent vectors are never decided by the form alone
two_left : (z v u : List ℤ) (vs : List (List ℤ)) → IsIndependent (v ∷ u ∷ vs) → ((f : Values) → IsSpanned (v ∷ u ∷ vs) f → f z ≡ pos 0 → (line : List ℤ) → f line ≡ pos 0) → ⊥
two_left z v u vs i d =
    i.1.0.seen (d (λ l. dot l u) (behind_spanned v (u ∷ vs) (λ l. dot l u) (first_spanned u vs)) flat i.1.0.line)
  where
    across : Values
    across l = dot z u *ℤ dot l v +ℤ neg_ℤ (dot z v) *ℤ dot l u

    crossed : (x y : ℤ) → y *ℤ x +ℤ neg_ℤ x *ℤ y ≡ pos 0
    crossed x y = simp ring (omega (arith, ints))

    alone : (x y : ℤ) → x +ℤ y ≡ pos 0 → y ≡ pos 0 → x ≡ pos 0
    alone x y e f = omega (arith, ints)

    gone : across i.0.line ≡ pos 0
    gone =
        d across (sum_spanned (v ∷ u ∷ vs) (λ l. dot l v) (λ l. dot l u) (dot z u) (neg_ℤ (dot z v)) (first_spanned v (u ∷ vs)) (behind_spanned v (u ∷ vs) (λ l. dot l u) (first_spanned u vs)))
        (crossed (dot z v) (dot z u)) i.0.line

    flat : dot z u ≡ pos 0
    flat =
        vanishes (dot i.0.line v) (dot z u) i.0.seen
        (*ℤ_comm (dot i.0.line v) (dot z u) ∙ alone (dot z u *ℤ dot i.0.line v) (neg_ℤ (dot z v) *ℤ dot i.0.line u) gone (ap (λ x. neg_ℤ (dot z v) *ℤ x) i.0.others.0 ∙ times_zero (neg_ℤ (dot z v))))

nowhere : (z : List ℤ) (w : Values) → pos 0 <ℤ w z → IsSpanned [] w → ⊥
nowhere z w h s = clash (w z) h (s z)
  where
    clash : (x : ℤ) → pos 0 <ℤ x → x ≡ pos 0 → ⊥
    clash x h e = omega (arith, ints)

-- the search finds from each basis that has the vector
abbrev pub FindsFrom : List (List ℤ) → List ℤ → Values → List (List ℤ) → Type 0
FindsFrom lines z w rest = (basis : List (List ℤ)) → IsIndependent basis → IsPointed lines basis → IsSpanned basis w → IsDecided rest basis z w
    → IsAboveAt z (extremes lines rest basis)

-- a line more
one_line : (lines : List (List ℤ)) (z : List ℤ) (w : Values) (line : List ℤ) (rest : List (List ℤ)) (v u : List ℤ) (vs : List (List ℤ)) → FindsFrom lines z w rest
    → IsIndependent (v ∷ u ∷ vs) → IsPointed lines (v ∷ u ∷ vs) → IsSpanned (v ∷ u ∷ vs) w → IsDecided (line ∷ rest) (v ∷ u ∷ vs) z w
    → IsAboveAt z (extremes lines (line ∷ rest) (v ∷ u ∷ vs))
one_line lines z w line rest v u vs again i p s d =
    zero_or (w line) (λ e. tight e (clearing line (v ∷ u ∷ vs)) (clearing-is line (v ∷ u ∷ vs)))
    (λ n. above_right z (extremes_at_zero (extremes lines rest) (clearing line (v ∷ u ∷ vs))) (extremes lines rest (v ∷ u ∷ vs))
    (again (v ∷ u ∷ vs) i p s (λ f sf k e. d f sf ((λ q. absurd (n q)), k) e)))
  where
    tight : w line ≡ pos 0 → (c : Cleared) → IsClearing line (v ∷ u ∷ vs) c → IsAboveAt z (extremes_at_zero (extremes lines rest) c ++ extremes lines rest (v ∷ u ∷ vs))
    tight e Kept h = again (v ∷ u ∷ vs) i p s (λ f sf k q. d f sf ((λ r. vanishes_on (v ∷ u ∷ vs) f line h sf), k) q)
    tight e (Given pivot left) g =
        above_left z (extremes lines rest left) (extremes lines rest (v ∷ u ∷ vs))
        (again left (g.independent i) (λ f sf k. p f (lifted_spanned left (v ∷ u ∷ vs) f g.inside sf) k) (g.all w s e)
        (λ f sf k q. d f (lifted_spanned left (v ∷ u ∷ vs) f g.inside sf) ((λ r. vanishes_on left f line g.zero_there sf), k) q))

pub found : (lines : List (List ℤ)) (z : List ℤ) (w : Values) → AreAtMost lines w → pos 0 <ℤ w z → (rest : List (List ℤ)) → FindsFrom lines z w rest
found lines z w inside above [] [] i p s d = absurd (nowhere z w above s)
found lines z w inside above [] (v ∷ []) i p s d = found_one lines z w v inside above p s
found lines z w inside above [] (v ∷ (u ∷ vs)) i p s d = absurd (two_left z v u vs i (λ f sf e. d f sf tt e))
found lines z w inside above (line ∷ rest) [] i p s d = absurd (nowhere z w above s)
found lines z w inside above (line ∷ rest) (v ∷ []) i p s d = found_one lines z w v inside above p s
found lines z w inside above (line ∷ rest) (v ∷ (u ∷ vs)) i p s d =
    one_line lines z w line rest v u vs (λ basis j q t e. found lines z w inside above rest basis j q t e) i p s d

-- ---- what is found

each_at_most : (lines : List (List ℤ)) (v : List ℤ) → AllByRecursion (λ u. AreAtMost lines (λ l. dot l u)) (ends lines v)
each_at_most lines v = go (are_at_most lines v) refl (are_at_most lines (opposite v)) refl
  where
    go : (b : Bool) → are_at_most lines v ≡ b → (c : Bool) → are_at_most lines (opposite v) ≡ c
        → AllByRecursion (λ u. AreAtMost lines (λ l. dot l u)) (cond b (v ∷ []) (cond c (opposite v ∷ []) []))
    go true e c f = (at_most-are lines v e, tt)
    go false e true f = (at_most-are lines (opposite v) f, tt)
    go false e false f = tt

at_zero-each : (P : List ℤ → Type 0) (search : List (List ℤ) → List (List ℤ)) (c : Cleared) → ((basis : List (List ℤ)) → AllByRecursion P (search basis)) → AllByRecursion P (extremes_at_zero search c)
at_zero-each P search Kept h = tt
at_zero-each P search (Given pivot rest) h = h rest

pub extremes-inside : (lines rest basis : List (List ℤ)) → AllByRecursion (λ v. AreAtMost lines (λ line. dot line v)) (extremes lines rest basis)
extremes-inside lines [] [] = tt
extremes-inside lines [] (v ∷ []) = each_at_most lines v
extremes-inside lines [] (v ∷ (u ∷ vs)) = tt
extremes-inside lines (line ∷ rest) [] = tt
extremes-inside lines (line ∷ rest) (v ∷ []) = each_at_most lines v
extremes-inside lines (line ∷ rest) (v ∷ (u ∷ vs)) =
    each-append (λ v. AreAtMost lines (λ l. dot l v)) (extremes_at_zero (extremes lines rest) (clearing line (v ∷ u ∷ vs))) (extremes lines rest (v ∷ u ∷ vs))
    (at_zero-each (λ v. AreAtMost lines (λ l. dot l v)) (extremes lines rest) (clearing line (v ∷ u ∷ vs)) (λ basis. extremes-inside lines rest basis)) (extremes-inside lines rest (v ∷ u ∷ vs))

-- ---- and is spanned by the basis

pub opposite_spanned : (vs : List (List ℤ)) (v : List ℤ) → IsSpanned vs (λ l. dot l v) → IsSpanned vs (λ l. dot l (opposite v))
opposite_spanned vs v h =
    same_spanned vs (λ l. neg_ℤ (pos 1) *ℤ dot l v +ℤ pos 0 *ℤ dot l v) (λ l. dot l (opposite v)) (λ l. step (dot l v) ∙ sym (dot-opposite l v))
    (sum_spanned vs (λ l. dot l v) (λ l. dot l v) (neg_ℤ (pos 1)) (pos 0) h h)
  where
    none : (x y : ℤ) → y ≡ pos 0 → x +ℤ y ≡ x
    none x y e = omega (arith, ints)

    minus : (x : ℤ) → neg_ℤ (pos 1) *ℤ x ≡ neg_ℤ x
    minus x = omega (arith, ints)

    step : (x : ℤ) → neg_ℤ (pos 1) *ℤ x +ℤ pos 0 *ℤ x ≡ neg_ℤ x
    step x = none (neg_ℤ (pos 1) *ℤ x) (pos 0 *ℤ x) (zero-*ℤ x) ∙ minus x

each_spanned_end : (lines : List (List ℤ)) (v : List ℤ) → AllByRecursion (λ u. IsSpanned (v ∷ []) (λ l. dot l u)) (ends lines v)
each_spanned_end lines v = go (are_at_most lines v) (are_at_most lines (opposite v))
  where
    go : (b c : Bool) → AllByRecursion (λ u. IsSpanned (v ∷ []) (λ l. dot l u)) (cond b (v ∷ []) (cond c (opposite v ∷ []) []))
    go true c = (first_spanned v [], tt)
    go false true = (opposite_spanned (v ∷ []) v (first_spanned v []), tt)
    go false false = tt

each_lifted : (vs us found : List (List ℤ)) → AllByRecursion (λ v. IsSpanned us (λ l. dot l v)) vs → AllByRecursion (λ u. IsSpanned vs (λ l. dot l u)) found
    → AllByRecursion (λ u. IsSpanned us (λ l. dot l u)) found
each_lifted vs us [] e h = tt
each_lifted vs us (u ∷ found) e h = (lifted_spanned vs us (λ l. dot l u) e h.0, each_lifted vs us found e h.1)

of_clearing : (lines rest : List (List ℤ)) (line v u : List ℤ) (vs : List (List ℤ)) → ((basis : List (List ℤ)) → AllByRecursion (λ x. IsSpanned basis (λ l. dot l x)) (extremes lines rest basis))
    → (c : Cleared) → IsClearing line (v ∷ u ∷ vs) c → AllByRecursion (λ x. IsSpanned (v ∷ u ∷ vs) (λ l. dot l x)) (extremes_at_zero (extremes lines rest) c)
of_clearing lines rest line v u vs again Kept h = tt
of_clearing lines rest line v u vs again (Given pivot left) g = each_lifted left (v ∷ u ∷ vs) (extremes lines rest left) g.inside (again left)

pub extremes-spanned : (lines rest basis : List (List ℤ)) → AllByRecursion (λ v. IsSpanned basis (λ line. dot line v)) (extremes lines rest basis)
extremes-spanned lines [] [] = tt
extremes-spanned lines [] (v ∷ []) = each_spanned_end lines v
extremes-spanned lines [] (v ∷ (u ∷ vs)) = tt
extremes-spanned lines (line ∷ rest) [] = tt
extremes-spanned lines (line ∷ rest) (v ∷ []) = each_spanned_end lines v
extremes-spanned lines (line ∷ rest) (v ∷ (u ∷ vs)) =
    each-append (λ x. IsSpanned (v ∷ u ∷ vs) (λ l. dot l x)) (extremes_at_zero (extremes lines rest) (clearing line (v ∷ u ∷ vs))) (extremes lines rest (v ∷ u ∷ vs))
    (of_clearing lines rest line v u vs (λ basis. extremes-spanned lines rest basis) (clearing line (v ∷ u ∷ vs)) (clearing-is line (v ∷ u ∷ vs))) (extremes-spanned lines rest (v ∷ u ∷ vs))
