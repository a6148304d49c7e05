-- A vector of the cone is moved until the lines that are 0 on it decide it, and the form stays.
use Rattle.std.proofs.Common.{◌≡◌, ◌≢◌, ℕ, zero, suc, ◌+◌, ◌<◌, ◌≤◌, Bool, true, false, cond, refl, sym, ap, subst, ◌∙◌, arith, ⊎_elim, inl, inr, List, [], ◌∷◌, ℤ, pos, ◌+ℤ◌, ◌*ℤ◌, ◌≤ℤ◌, ◌<ℤ◌}
use Rattle.std.specs.Prelude.{◌⊎◌, neg_ℤ}
use Rattle.std.specs.List.{AllByRecursion}
use Rattle.std.specs.Ordering.{int_eq}
use Rattle.std.proofs.lemmas.Int.{ints, by_lt_z}
use Rattle.std.proofs.lemmas.Bool.{false≢true}
use Rattle.std.proofs.lemmas.Bool.Decides.{Decides-int_eq}
use Rattle.std.proofs.Math.IntN.{*ℤ_comm}
use Rattle.whole_numbers.proofs.Ring.{ring, *ℤ_right_comm, neg_ℤ-*ℤ, *ℤ-≤ℤ, ≤ℤ-*ℤ, *ℤ-positive}
use Rattle.cones.specs.Vectors.{opposite}
use Rattle.whole_numbers.specs.Dot.{dot}
use Rattle.cones.specs.Cones.{extremes}
use Rattle.cones.specs.Spans.{Values, IsSpanned, IsIndependent, IsPointed, AreAtMost, IsAboveAt}
use Rattle.cones.proofs.Numbers.{times_zero, product_not_above}
use Rattle.cones.proofs.Spanning.{sum_spanned}
use Rattle.cones.specs.Split.{clearing_by_all}
use Rattle.cones.proofs.Several.{IsAllCleared, all_cleared}
use Rattle.cones.proofs.Searches.{found, both_zero, opposite_spanned}
use Rattle.cones.proofs.Dots.{dot-opposite}

-- ---- lines on which values are 0

abbrev tight : Values → List (List ℤ) → List (List ℤ)
tight w [] = []
tight w (line ∷ lines) = cond (int_eq (w line) (pos 0)) (line ∷ tight w lines) (tight w lines)

-- how many of the lines are not 0
abbrev loose : Values → List (List ℤ) → ℕ
loose w [] = 0
loose w (line ∷ lines) = cond (int_eq (w line) (pos 0)) 0 1 + loose w lines

all_tight : (w f : Values) (lines : List (List ℤ)) → AllByRecursion (λ line. w line ≡ pos 0 → f line ≡ pos 0) lines → AllByRecursion (λ line. f line ≡ pos 0) (tight w lines)
all_tight w f [] h = tt
all_tight w f (line ∷ lines) h = go (int_eq (w line) (pos 0)) refl (all_tight w f lines h.1)
  where
    go : (b : Bool) → int_eq (w line) (pos 0) ≡ b → AllByRecursion (λ l. f l ≡ pos 0) (tight w lines) → AllByRecursion (λ l. f l ≡ pos 0) (cond b (line ∷ tight w lines) (tight w lines))
    go true e more = (h.0 ((Decides-int_eq (w line) (pos 0)).0 e), more)
    go false e more = more

of_tight : (w f : Values) (lines : List (List ℤ)) → AllByRecursion (λ line. f line ≡ pos 0) (tight w lines) → AllByRecursion (λ line. w line ≡ pos 0 → f line ≡ pos 0) lines
of_tight w f [] h = tt
of_tight w f (line ∷ lines) h = go (int_eq (w line) (pos 0)) refl h (λ k. of_tight w f lines k)
  where
    go : (b : Bool) → int_eq (w line) (pos 0) ≡ b → AllByRecursion (λ l. f l ≡ pos 0) (cond b (line ∷ tight w lines) (tight w lines))
        → (AllByRecursion (λ l. f l ≡ pos 0) (tight w lines) → AllByRecursion (λ l. w l ≡ pos 0 → f l ≡ pos 0) lines)
        → AllByRecursion (λ l. w l ≡ pos 0 → f l ≡ pos 0) (line ∷ lines)
    go true e k again = ((λ q. k.0), again k.1)
    go false e k again = ((λ q. absurd (false≢true (sym e ∙ (Decides-int_eq (w line) (pos 0)).1 q))), again k)

abbrev Has : List ℤ → List (List ℤ) → Type 0
Has line [] = ⊥
Has line (l ∷ lines) = (line ≡ l) ⊎ Has line lines

loose_less : (w u : Values) (line : List ℤ) (lines : List (List ℤ)) → AllByRecursion (λ l. w l ≡ pos 0 → u l ≡ pos 0) lines → Has line lines → w line ≢ pos 0 → u line ≡ pos 0
    → loose u lines < loose w lines
loose_less w u line [] h k n e = absurd k
loose_less w u line (l ∷ lines) h k n e =
    ⊎_elim (λ (q : line ≡ l). here (subst (λ x. w x ≢ pos 0) q n) (subst (λ x. u x ≡ pos 0) q e))
    (λ q. there (loose_less w u line lines h.1 q n e)) k
  where
    no_more : (ls : List (List ℤ)) → AllByRecursion (λ l. w l ≡ pos 0 → u l ≡ pos 0) ls → loose u ls ≤ loose w ls
    no_more [] h = omega arith
    no_more (m ∷ ls) h = go (int_eq (w m) (pos 0)) refl (int_eq (u m) (pos 0)) refl (no_more ls h.1)
      where
        go : (b : Bool) → int_eq (w m) (pos 0) ≡ b → (c : Bool) → int_eq (u m) (pos 0) ≡ c → loose u ls ≤ loose w ls → cond c 0 1 + loose u ls ≤ cond b 0 1 + loose w ls
        go true f true g r = omega arith
        go true f false g r = absurd (false≢true (sym g ∙ (Decides-int_eq (u m) (pos 0)).1 (h.0 ((Decides-int_eq (w m) (pos 0)).0 f))))
        go false f true g r = omega arith
        go false f false g r = omega arith

    here : w l ≢ pos 0 → u l ≡ pos 0 → loose u (l ∷ lines) < loose w (l ∷ lines)
    here n e = go (int_eq (w l) (pos 0)) refl (int_eq (u l) (pos 0)) ((Decides-int_eq (u l) (pos 0)).1 e) (no_more lines h.1)
      where
        go : (b : Bool) → int_eq (w l) (pos 0) ≡ b → (c : Bool) → c ≡ true → loose u lines ≤ loose w lines → cond c 0 1 + loose u lines < cond b 0 1 + loose w lines
        go true f c g r = absurd (n ((Decides-int_eq (w l) (pos 0)).0 f))
        go false f true g r = omega arith
        go false f false g r = absurd (false≢true g)

    there : loose u lines < loose w lines → loose u (l ∷ lines) < loose w (l ∷ lines)
    there r = go (int_eq (w l) (pos 0)) refl (int_eq (u l) (pos 0)) refl
      where
        go : (b : Bool) → int_eq (w l) (pos 0) ≡ b → (c : Bool) → int_eq (u l) (pos 0) ≡ c → cond c 0 1 + loose u lines < cond b 0 1 + loose w lines
        go true f true g = omega (arith, r)
        go true f false g = absurd (false≢true (sym g ∙ (Decides-int_eq (u l) (pos 0)).1 (h.0 ((Decides-int_eq (w l) (pos 0)).0 f))))
        go false f true g = omega (arith, r)
        go false f false g = omega (arith, r)

-- ---- how far a vector can be moved

-- of the lines that grow the one that is reached first
record Reached (w g : Values) (lines : List (List ℤ)) : Type 0 where
  line : List ℤ
  within : Has line lines
  grows : pos 0 <ℤ g line
  least : AllByRecursion (λ l. pos 0 <ℤ g l → (w l *ℤ g line) ≤ℤ (w line *ℤ g l)) lines

each_least : (w g : Values) (old new : List ℤ) (lines : List (List ℤ)) → pos 0 <ℤ g old → pos 0 <ℤ g new → (w old *ℤ g new) ≤ℤ (w new *ℤ g old)
    → AllByRecursion (λ l. pos 0 <ℤ g l → (w l *ℤ g old) ≤ℤ (w old *ℤ g l)) lines → AllByRecursion (λ l. pos 0 <ℤ g l → (w l *ℤ g new) ≤ℤ (w new *ℤ g l)) lines
each_least w g old new [] p q h k = tt
each_least w g old new (l ∷ lines) p q h k = ((λ r. chained (w l) (w old) (w new) (g l) (g old) (g new) r p q (k.0 r) h), each_least w g old new lines p q h k.1)
  where
    weak : (x : ℤ) → pos 0 <ℤ x → pos 0 ≤ℤ x
    weak x h = omega (arith, ints)

    chained : (a b c x y z : ℤ) → pos 0 <ℤ x → pos 0 <ℤ y → pos 0 <ℤ z → (a *ℤ y) ≤ℤ (b *ℤ x) → (b *ℤ z) ≤ℤ (c *ℤ y) → (a *ℤ z) ≤ℤ (c *ℤ x)
    chained a b c x y z r s t f g =
        *ℤ-≤ℤ (a *ℤ z) (c *ℤ x) y s
        (links (a *ℤ y *ℤ z) (b *ℤ x *ℤ z) (b *ℤ z *ℤ x) (c *ℤ y *ℤ x) (a *ℤ z *ℤ y) (c *ℤ x *ℤ y)
        (≤ℤ-*ℤ (a *ℤ y) (b *ℤ x) z (weak z t) f) (≤ℤ-*ℤ (b *ℤ z) (c *ℤ y) x (weak x r) g) (*ℤ_right_comm b x z) (*ℤ_right_comm a z y) (*ℤ_right_comm c x y))
      where
        links : (k l m n o q : ℤ) → k ≤ℤ l → m ≤ℤ n → l ≡ m → o ≡ k → q ≡ n → o ≤ℤ q
        links k l m n o q f g d e h = omega (arith, ints)

none_grows : (w g : Values) (line : List ℤ) (lines : List (List ℤ)) → AreAtMost lines g → AllByRecursion (λ l. pos 0 <ℤ g l → (w l *ℤ g line) ≤ℤ (w line *ℤ g l)) lines
none_grows w g line [] h = tt
none_grows w g line (l ∷ lines) h = ((λ p. absurd (clash (g l) p h.0)), none_grows w g line lines h.1)
  where
    clash : (x : ℤ) → pos 0 <ℤ x → x ≤ℤ pos 0 → ⊥
    clash x p q = omega (arith, ints)

reached : (w g : Values) (lines : List (List ℤ)) → AreAtMost lines g ⊎ Reached w g lines
reached w g [] = inl tt
reached w g (line ∷ lines) =
    by_lt_z (pos 0) (g line) (λ p. inr (⊎_elim (λ h. alone p h) (λ r. better p r) (reached w g lines)))
    (λ q. ⊎_elim (λ h. inl (q, h)) (λ r. inr (passed q r)) (reached w g lines))
  where
    same : (x : ℤ) → x ≤ℤ x
    same x = omega (arith, ints)

    weak : (x y : ℤ) → x <ℤ y → x ≤ℤ y
    weak x y h = omega (arith, ints)

    clash : (x : ℤ) → pos 0 <ℤ x → x ≤ℤ pos 0 → ⊥
    clash x p q = omega (arith, ints)

    alone : pos 0 <ℤ g line → AreAtMost lines g → Reached w g (line ∷ lines)
    alone p h = record { line = line; within = inl refl; grows = p; least = ((λ r. same (w line *ℤ g line)), none_grows w g line lines h) }

    better : pos 0 <ℤ g line → Reached w g lines → Reached w g (line ∷ lines)
    better p r =
        by_lt_z (w line *ℤ g r.line) (w r.line *ℤ g line)
        (λ h. record { line = r.line; within = inr r.within; grows = r.grows; least = ((λ q. weak (w line *ℤ g r.line) (w r.line *ℤ g line) h), r.least) })
        (λ h. record { line = line; within = inl refl; grows = p; least = ((λ q. same (w line *ℤ g line)), each_least w g r.line line lines r.grows p h r.least) })

    passed : g line ≤ℤ pos 0 → Reached w g lines → Reached w g (line ∷ lines)
    passed q r = record { line = r.line; within = inr r.within; grows = r.grows; least = ((λ p. absurd (clash (g line) p q)), r.least) }

-- ---- a vector moved

at_line : (P : List ℤ → Type 0) (line : List ℤ) (lines : List (List ℤ)) → AllByRecursion P lines → Has line lines → P line
at_line P line [] h k = absurd k
at_line P line (l ∷ lines) h k = ⊎_elim (λ (e : line ≡ l). subst P (sym e) h.0) (λ m. at_line P line lines h.1 m) k

record IsPushed (lines basis : List (List ℤ)) (z : List ℤ) (w : Values) : Type 0 where
  to : Values
  spanned : IsSpanned basis to
  inside : AreAtMost lines to
  above : pos 0 <ℤ to z
  less : loose to lines < loose w lines

pushed : (lines basis : List (List ℤ)) (z : List ℤ) (w g : Values) → IsSpanned basis w → AreAtMost lines w → pos 0 <ℤ w z
    → IsSpanned basis g → AllByRecursion (λ l. w l ≡ pos 0 → g l ≡ pos 0) lines → g z ≡ pos 0 → Reached w g lines → IsPushed lines basis z w
pushed lines basis z w g s h a t k e r = record {
  to = to;
  spanned = sum_spanned basis w g (g r.line) (neg_ℤ (w r.line)) s t;
  inside = each lines h r.least;
  above = subst (λ x. pos 0 <ℤ x) (sym (plain (g r.line *ℤ w z) (neg_ℤ (w r.line) *ℤ g z) (ap (λ x. neg_ℤ (w r.line) *ℤ x) e ∙ times_zero (neg_ℤ (w r.line))))) (*ℤ-positive (g r.line) (w z) r.grows a);
  less = loose_less w to r.line lines (stay lines k) r.within loose_there (crossed (w r.line) (g r.line));
}
  where
    to : Values
    to l = g r.line *ℤ w l +ℤ neg_ℤ (w r.line) *ℤ g l

    plain : (x y : ℤ) → y ≡ pos 0 → x +ℤ y ≡ x
    plain x y e = omega (arith, ints)

    crossed : (x y : ℤ) → y *ℤ x +ℤ neg_ℤ x *ℤ y ≡ pos 0
    crossed x y = simp ring (omega (arith, ints))

    below : w r.line ≤ℤ pos 0
    below = at_line (λ l. w l ≤ℤ pos 0) r.line lines h r.within

    loose_there : w r.line ≢ pos 0
    loose_there f = clash (g r.line) r.grows (at_line (λ l. w l ≡ pos 0 → g l ≡ pos 0) r.line lines k r.within f)
      where
        clash : (x : ℤ) → pos 0 <ℤ x → x ≡ pos 0 → ⊥
        clash x p q = omega (arith, ints)

    stay : (ls : List (List ℤ)) → AllByRecursion (λ l. w l ≡ pos 0 → g l ≡ pos 0) ls → AllByRecursion (λ l. w l ≡ pos 0 → to l ≡ pos 0) ls
    stay [] m = tt
    stay (l ∷ ls) m = ((λ f. none (g r.line *ℤ w l) (neg_ℤ (w r.line) *ℤ g l) (ap (λ x. g r.line *ℤ x) f ∙ times_zero (g r.line)) (ap (λ x. neg_ℤ (w r.line) *ℤ x) (m.0 f) ∙ times_zero (neg_ℤ (w r.line)))), stay ls m.1)
      where
        none : (x y : ℤ) → x ≡ pos 0 → y ≡ pos 0 → x +ℤ y ≡ pos 0
        none x y e f = omega (arith, ints)

    each : (ls : List (List ℤ)) → AreAtMost ls w → AllByRecursion (λ l. pos 0 <ℤ g l → (w l *ℤ g r.line) ≤ℤ (w r.line *ℤ g l)) ls → AreAtMost ls to
    each [] m n = tt
    each (l ∷ ls) m n = (
      by_lt_z (pos 0) (g l) (λ p. reaches (w l) (w r.line) (g l) (g r.line) (n.0 p))
          (λ q. sums (g r.line *ℤ w l) (neg_ℤ (w r.line) *ℤ g l) (product_not_above (g r.line) (w l) (weak (g r.line) r.grows) m.0) (product_not_above (neg_ℤ (w r.line)) (g l) (turned (w r.line) below) q)),
      each ls m.1 n.1,
    )
      where
        weak : (x : ℤ) → pos 0 <ℤ x → pos 0 ≤ℤ x
        weak x h = omega (arith, ints)

        turned : (x : ℤ) → x ≤ℤ pos 0 → pos 0 ≤ℤ neg_ℤ x
        turned x h = omega (arith, ints)

        sums : (x y : ℤ) → x ≤ℤ pos 0 → y ≤ℤ pos 0 → (x +ℤ y) ≤ℤ pos 0
        sums x y h k = omega (arith, ints)

        reaches : (a b x y : ℤ) → (a *ℤ y) ≤ℤ (b *ℤ x) → (y *ℤ a +ℤ neg_ℤ b *ℤ x) ≤ℤ pos 0
        reaches a b x y h = less (a *ℤ y) (b *ℤ x) (y *ℤ a) (neg_ℤ b *ℤ x) h (*ℤ_comm y a) (neg_ℤ-*ℤ b x)
          where
            less : (m n o p : ℤ) → m ≤ℤ n → o ≡ m → p ≡ neg_ℤ n → (o +ℤ p) ≤ℤ pos 0
            less m n o p h e f = omega (arith, ints)

-- ---- the law

first_of_each : (v : List ℤ) (vs lines : List (List ℤ)) → AllByRecursion (λ line. AllByRecursion (λ u. dot line u ≡ pos 0) (v ∷ vs)) lines → AllByRecursion (λ line. dot line v ≡ pos 0) lines
first_of_each v vs [] h = tt
first_of_each v vs (line ∷ lines) h = (h.0.0, first_of_each v vs lines h.1)

turned_each : (v : List ℤ) (lines : List (List ℤ)) → AllByRecursion (λ line. dot line v ≡ pos 0) lines → AllByRecursion (λ line. dot line (opposite v) ≡ pos 0) lines
turned_each v [] h = tt
turned_each v (line ∷ lines) h = (dot-opposite line v ∙ ap neg_ℤ h.0, turned_each v lines h.1)

pushed_along : (lines basis : List (List ℤ)) (z : List ℤ) (w : Values) (v : List ℤ) (vs : List (List ℤ)) → IsPointed lines basis → IsSpanned basis w → AreAtMost lines w → pos 0 <ℤ w z
    → IsAllCleared (z ∷ tight w lines) basis (v ∷ vs) → IsPushed lines basis z w
pushed_along lines basis z w v vs p s h a c =
    ⊎_elim
    (λ (m : AreAtMost lines (λ l. dot l v)). ⊎_elim (λ (n : AreAtMost lines (λ l. dot l (opposite v))). absurd (c.independent.0.seen (p (λ l. dot l v) c.inside.0 (both_zero lines v m n) c.independent.0.line)))
    (λ r. pushed lines basis z w (λ l. dot l (opposite v)) s h a (opposite_spanned basis v c.inside.0) (of_tight w (λ l. dot l (opposite v)) lines (turned_each v (tight w lines) still)) (dot-opposite z v ∙ ap neg_ℤ c.zero_there.0.0) r)
    (reached w (λ l. dot l (opposite v)) lines))
    (λ r. pushed lines basis z w (λ l. dot l v) s h a c.inside.0 (of_tight w (λ l. dot l v) lines still) c.zero_there.0.0 r)
    (reached w (λ l. dot l v) lines)
  where
    still : AllByRecursion (λ line. dot line v ≡ pos 0) (tight w lines)
    still = first_of_each v vs (tight w lines) c.zero_there.1

climbed : (n : ℕ) (lines basis : List (List ℤ)) (z : List ℤ) → IsIndependent basis → IsPointed lines basis → (w : Values) → IsSpanned basis w → AreAtMost lines w → pos 0 <ℤ w z → loose w lines < n
    → IsAboveAt z (extremes lines lines basis)
climbed zero lines basis z i p w s h a few = absurd (omega (arith, few))
climbed (suc n) lines basis z i p w s h a few =
    by_made (clearing_by_all (z ∷ tight w lines) basis) (all_cleared (z ∷ tight w lines) basis i) (λ v t k b less. climbed n lines basis z i p v t k b less)
  where
    by_made : (made : List (List ℤ)) → IsAllCleared (z ∷ tight w lines) basis made
        → ((v : Values) → IsSpanned basis v → AreAtMost lines v → pos 0 <ℤ v z → loose v lines < n → IsAboveAt z (extremes lines lines basis))
        → IsAboveAt z (extremes lines lines basis)
    by_made [] c again = found lines z w h a lines basis i p s (λ f sf k e. c.all f sf (e, all_tight w f lines k))
    by_made (v ∷ vs) c again = onward (pushed_along lines basis z w v vs p s h a c)
      where
        onward : IsPushed lines basis z w → IsAboveAt z (extremes lines lines basis)
        onward m = again m.to m.spanned m.inside m.above (let k = m.less in omega (arith, k, few))

pub extremes-above : (lines basis : List (List ℤ)) → IsIndependent basis → IsPointed lines basis → (z : List ℤ) (w : Values) → IsSpanned basis w → AreAtMost lines w → pos 0 <ℤ w z
    → IsAboveAt z (extremes lines lines basis)
extremes-above lines basis i p z w s h a = climbed (suc (loose w lines)) lines basis z i p w s h a (omega arith)
