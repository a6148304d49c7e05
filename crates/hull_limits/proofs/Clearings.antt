-- A column of the frame made 0 on all owners but one, which owns it from then on.
use Rattle.std.proofs.Common.{◌≡◌, ◌≢◌, ℕ, zero, suc, ◌<◌, Bool, true, false, cond, ⊎_elim, inl, inr, refl, sym, ap, subst, ◌∙◌, arith, List, [], ◌∷◌, ◌++◌, map, length, nat_eq, ℤ, pos, negsuc, ◌+ℤ◌, ◌*ℤ◌}
use Rattle.std.specs.Prelude.{◌⊎◌, neg_ℤ}
use Rattle.std.specs.List.{AllByRecursion}
use Rattle.std.proofs.lemmas.Bool.{cases_eq, eq-eqb, ne_eqb}
use Rattle.std.proofs.lemmas.Int.{ints}
use Rattle.items.proofs.Each.{each-map}
use Rattle.whole_numbers.proofs.Ring.{ring}
use Rattle.cones.proofs.Numbers.{above_not_zero, times_zero, vanishes}
use Rattle.farkas_check.specs.Frames.{Frame, line_count, number_in, sum_below, width}
use Rattle.simplex.proofs.Corners.{plus, factored}
use Rattle.simplex.proofs.Sums.{sum_below-same}
use Rattle.hull_limits.proofs.Owners.{AreApart, AreOwners, IsBasis, IsSolution, Owner, columns_of, found_in, only, only-else, only-sum, own, sum_over}

-- ---- in another order

each-middle : {A : Type 0} (P : A → Type 0) (xs : List A) (p : A) (ys : List A) → AllByRecursion P (xs ++ p ∷ ys) → P p × AllByRecursion P (xs ++ ys)
each-middle P [] p ys h = h
each-middle P (x ∷ xs) p ys h = let more = each-middle P xs p ys h.1 in (more.0, (h.0, more.1))

each-put : {A : Type 0} (P : A → Type 0) (xs : List A) (p : A) (ys : List A) → P p → AllByRecursion P (xs ++ ys) → AllByRecursion P (xs ++ p ∷ ys)
each-put P [] p ys h k = (h, k)
each-put P (x ∷ xs) p ys h k = (k.0, each-put P xs p ys h k.1)

owners-front : (xs : List Owner) (p : Owner) (ys : List Owner) → AreOwners (xs ++ p ∷ ys) → AreOwners (p ∷ xs ++ ys)
owners-front [] p ys h = h
owners-front (x ∷ xs) p ys h =
    let more = owners-front xs p ys h.2 in
    let apart = each-middle (AreApart x) xs p ys h.1 in
    (more.0, (record { there = apart.0.here; here = apart.0.there }, more.1), (h.0, apart.1, more.2))

owners-put : (xs : List Owner) (p : Owner) (ys : List Owner) → AreOwners (p ∷ xs ++ ys) → AreOwners (xs ++ p ∷ ys)
owners-put [] p ys h = h
owners-put (x ∷ xs) p ys h =
    (h.2.0, each-put (AreApart x) xs p ys (record { there = h.1.0.here; here = h.1.0.there }) h.2.1, owners-put xs p ys (h.0, h.1.1, h.2.2))

sums-front : (xs : List Owner) (p : Owner) (ys : List Owner) (g : ℕ → ℤ) → sum_over (columns_of (xs ++ p ∷ ys)) g ≡ g p.column +ℤ sum_over (columns_of (xs ++ ys)) g
sums-front [] p ys g = refl
sums-front (x ∷ xs) p ys g = ap (λ z. g x.column +ℤ z) (sums-front xs p ys g) ∙ swap (g x.column) (g p.column) (sum_over (columns_of (xs ++ ys)) g)
  where
    swap : (a b c : ℤ) → a +ℤ (b +ℤ c) ≡ b +ℤ (a +ℤ c)
    swap a b c = omega (arith, ints)

-- the owner in the middle comes to the front
pub basis-front : (f : Frame) (xs : List Owner) (p : Owner) (ys : List Owner) (chosen : List ℕ) → IsBasis f (xs ++ p ∷ ys) chosen → IsBasis f (p ∷ xs ++ ys) chosen
basis-front f xs p ys chosen b = record {
  each = b.each;
  within = b.within;
  owned = each-middle (λ (o : Owner). o.column < width f) xs p ys b.owned;
  owners = owners-front xs p ys b.owners;
  solved = each-middle (λ (o : Owner). IsSolution f o.numbers) xs p ys b.solved;
  parted = record { sums = λ g. ap (λ z. z +ℤ sum_over chosen g) (sym (sums-front xs p ys g)) ∙ b.parted.sums g };
}

-- and the one at the front goes to the middle
pub basis-put : (f : Frame) (xs : List Owner) (p : Owner) (ys : List Owner) (chosen : List ℕ) → IsBasis f (p ∷ xs ++ ys) chosen → IsBasis f (xs ++ p ∷ ys) chosen
basis-put f xs p ys chosen b = record {
  each = b.each;
  within = b.within;
  owned = each-put (λ (o : Owner). o.column < width f) xs p ys b.owned.0 b.owned.1;
  owners = owners-put xs p ys b.owners;
  solved = each-put (λ (o : Owner). IsSolution f o.numbers) xs p ys b.solved.0 b.solved.1;
  parted = record { sums = λ g. ap (λ z. z +ℤ sum_over chosen g) (sums-front xs p ys g) ∙ b.parted.sums g };
}

-- ---- one column made 0

-- up to a factor a sum of the owner, not 0 times, and of the pivot; and 0 at the column
pub record IsMovedOwner (col : ℕ) (p o made : Owner) : Type 0 where
  pub column : made.column ≡ o.column
  pub factor : ℤ
  pub some_factor : factor ≢ pos 0
  pub a : ℤ
  pub some : a ≢ pos 0
  pub b : ℤ
  pub is : (c : ℕ) → factor *ℤ made.numbers c ≡ a *ℤ o.numbers c +ℤ b *ℤ p.numbers c
  pub gone : made.numbers col ≡ pos 0

-- and so each of one list of another
abbrev pub AreMoved : ℕ → Owner → List Owner → List Owner → Type 0
AreMoved col p [] [] = Unit {0}
AreMoved col p [] (m ∷ ms) = ⊥
AreMoved col p (o ∷ os) [] = ⊥
AreMoved col p (o ∷ os) (m ∷ ms) = IsMovedOwner col p o m × AreMoved col p os ms

moved-columns : (col : ℕ) (p : Owner) (os ms : List Owner) → AreMoved col p os ms → columns_of ms ≡ columns_of os
moved-columns col p [] [] h = refl
moved-columns col p [] (m ∷ ms) h = absurd h
moved-columns col p (o ∷ os) [] h = absurd h
moved-columns col p (o ∷ os) (m ∷ ms) h = λ i. h.0.column i ∷ moved-columns col p os ms h.1 i

-- where the pivot has 0, what is moved has 0 exactly where it had before
moved-zero : (col : ℕ) (p o m : Owner) (c : ℕ) → IsMovedOwner col p o m → p.numbers c ≡ pos 0 → o.numbers c ≡ pos 0 → m.numbers c ≡ pos 0
moved-zero col p o m c h e k = vanishes h.factor (m.numbers c) h.some_factor (h.is c ∙ both (h.a *ℤ o.numbers c) (h.b *ℤ p.numbers c) (ap (λ z. h.a *ℤ z) k ∙ times_zero h.a) (ap (λ z. h.b *ℤ z) e ∙ times_zero h.b))
  where
    both : (x y : ℤ) → x ≡ pos 0 → y ≡ pos 0 → x +ℤ y ≡ pos 0
    both x y e f = omega (arith, ints)

moved-own : (col : ℕ) (p o m : Owner) → IsMovedOwner col p o m → p.numbers o.column ≡ pos 0 → own o ≢ pos 0 → own m ≢ pos 0
moved-own col p o m h e n k = n (vanishes h.a (own o) h.some (cancel (h.a *ℤ own o) (h.b *ℤ p.numbers o.column) (h.factor *ℤ m.numbers o.column) (ap (λ z. h.b *ℤ z) e ∙ times_zero h.b) (ap (λ z. h.factor *ℤ z) (ap m.numbers (sym h.column) ∙ k) ∙ times_zero h.factor) (h.is o.column)))
  where
    cancel : (x y z : ℤ) → y ≡ pos 0 → z ≡ pos 0 → z ≡ x +ℤ y → x ≡ pos 0
    cancel x y z e f g = omega (arith, ints)

moved-apart : (col : ℕ) (p o m : Owner) (os ms : List Owner) → IsMovedOwner col p o m → AreMoved col p os ms → AreApart p o → AllByRecursion (AreApart p) os → AllByRecursion (AreApart o) os → AllByRecursion (AreApart m) ms
moved-apart col p o m [] [] h k x y z = tt
moved-apart col p o m [] (n ∷ ms) h k x y z = absurd k
moved-apart col p o m (q ∷ os) [] h k x y z = absurd k
moved-apart col p o m (q ∷ os) (n ∷ ms) h k x y z =
    (record { there = ap m.numbers k.0.column ∙ moved-zero col p o m q.column h y.0.there z.0.there; here = ap n.numbers h.column ∙ moved-zero col p q n o.column k.0 x.there z.0.here }, moved-apart col p o m os ms h k.1 x y.1 z.1)

moved-owners : (col : ℕ) (p : Owner) (os ms : List Owner) → AreMoved col p os ms → AllByRecursion (AreApart p) os → AreOwners os → AreOwners ms
moved-owners col p [] [] h y z = tt
moved-owners col p [] (m ∷ ms) h y z = absurd h
moved-owners col p (o ∷ os) [] h y z = absurd h
moved-owners col p (o ∷ os) (m ∷ ms) h y z = (moved-own col p o m h.0 y.0.there z.0, moved-apart col p o m os ms h.0 h.1 y.0 y.1 z.1, moved-owners col p os ms h.1 y.1 z.2)

-- the pivot, which owns the column now
abbrev pub given_up : ℕ → Owner → Owner
given_up col p = record { column = col; numbers = p.numbers }

given_up-apart : (col : ℕ) (p : Owner) (os ms : List Owner) → AreMoved col p os ms → AllByRecursion (AreApart p) os → AllByRecursion (AreApart (given_up col p)) ms
given_up-apart col p [] [] h y = tt
given_up-apart col p [] (m ∷ ms) h y = absurd h
given_up-apart col p (o ∷ os) [] h y = absurd h
given_up-apart col p (o ∷ os) (m ∷ ms) h y = (record { there = ap p.numbers h.0.column ∙ y.0.there; here = h.0.gone }, given_up-apart col p os ms h.1 y.1)

-- ---- a column at which one of the owners has a number

-- one of the owners has a number that is not 0 at the column
abbrev pub IsSeenBy : ℕ → List Owner → Type 0
IsSeenBy at [] = ⊥
IsSeenBy at (o ∷ os) = (o.numbers at ≢ pos 0) ⊎ IsSeenBy at os

pub seen-front : (at : ℕ) (xs : List Owner) (p : Owner) (ys : List Owner) → IsSeenBy at (xs ++ p ∷ ys) → IsSeenBy at (p ∷ xs ++ ys)
seen-front at [] p ys h = h
seen-front at (x ∷ xs) p ys h = ⊎_elim (λ n. inr (inl n)) (λ k. ⊎_elim (λ n. inl n) (λ l. inr (inr l)) (seen-front at xs p ys k)) h

pub seen-put : (at : ℕ) (xs : List Owner) (p : Owner) (ys : List Owner) → IsSeenBy at (p ∷ xs ++ ys) → IsSeenBy at (xs ++ p ∷ ys)
seen-put at [] p ys h = h
seen-put at (x ∷ xs) p ys h = ⊎_elim (λ n. inr (seen-put at xs p ys (inl n))) (λ k. ⊎_elim (λ n. inl n) (λ l. inr (seen-put at xs p ys (inr l))) k) h

-- a number is 0 or not
pub none_or_some : (z : ℤ) → (z ≡ pos 0) ⊎ (z ≢ pos 0)
none_or_some (pos zero) = inl refl
none_or_some (pos (suc n)) = inr (λ e. absurd (omega (arith, ints, e)))
none_or_some (negsuc n) = inr (λ e. absurd (omega (arith, ints, e)))

-- what clearing makes of the owners has a number there where they had one
pub seen-cleared : (col at : ℕ) (p : Owner) (os ms : List Owner) → AreMoved col p os ms → IsSeenBy at (p ∷ os) → IsSeenBy at (given_up col p ∷ ms)
seen-cleared col at p os ms h s = ⊎_elim (λ e. ⊎_elim (λ n. inl n) (λ k. inr (each e os ms h k)) s) (λ n. inl n) (none_or_some (p.numbers at))
  where
    still : p.numbers at ≡ pos 0 → (o m : Owner) → IsMovedOwner col p o m → o.numbers at ≢ pos 0 → m.numbers at ≢ pos 0
    still e o m k n zero_there = n (vanishes k.a (o.numbers at) k.some (cancel (k.a *ℤ o.numbers at) (k.b *ℤ p.numbers at) (k.factor *ℤ m.numbers at) (ap (λ z. k.b *ℤ z) e ∙ times_zero k.b) (ap (λ z. k.factor *ℤ z) zero_there ∙ times_zero k.factor) (k.is at)))
      where
        cancel : (x y z : ℤ) → y ≡ pos 0 → z ≡ pos 0 → z ≡ x +ℤ y → x ≡ pos 0
        cancel x y z e f g = omega (arith, ints)

    each : p.numbers at ≡ pos 0 → (os ms : List Owner) → AreMoved col p os ms → IsSeenBy at os → IsSeenBy at ms
    each e [] ms k t = absurd t
    each e (o ∷ os) [] k t = absurd k
    each e (o ∷ os) (m ∷ ms) k t = ⊎_elim (λ n. inl (still e o m k.0 n)) (λ l. inr (each e os ms k.1 l)) t

-- ---- the chosen columns

-- the first of the columns that is this one is another one now
abbrev replaced : ℕ → ℕ → List ℕ → List ℕ
replaced col by [] = []
replaced col by (c ∷ cs) = cond (nat_eq c col) (by ∷ cs) (c ∷ replaced col by cs)

replaced-length : (col by : ℕ) (cs : List ℕ) → length (replaced col by cs) ≡ length cs
replaced-length col by [] = refl
replaced-length col by (c ∷ cs) = go (nat_eq c col) (replaced-length col by cs)
  where
    go : (b : Bool) → length (replaced col by cs) ≡ length cs → length (cond b (by ∷ cs) (c ∷ replaced col by cs)) ≡ suc (length cs)
    go true e = refl
    go false e = omega (arith, e)

replaced-within : (w col by : ℕ) (cs : List ℕ) → by < w → AllByRecursion (λ c. c < w) cs → AllByRecursion (λ c. c < w) (replaced col by cs)
replaced-within w col by [] h k = tt
replaced-within w col by (c ∷ cs) h k = go (nat_eq c col) (replaced-within w col by cs h k.1)
  where
    go : (b : Bool) → AllByRecursion (λ c. c < w) (replaced col by cs) → AllByRecursion (λ c. c < w) (cond b (by ∷ cs) (c ∷ replaced col by cs))
    go true l = (h, k.1)
    go false l = (k.0, l)

-- sums over them, where the column is one of them
record IsReplaced (col by : ℕ) (cs : List ℕ) : Type 0 where
  sums : (g : ℕ → ℤ) → sum_over (replaced col by cs) g +ℤ g col ≡ sum_over cs g +ℤ g by

replaced-sums : (col by : ℕ) (cs : List ℕ) → IsReplaced col by cs ⊎ (sum_over cs (only col (pos 1)) ≡ pos 0)
replaced-sums col by [] = inr refl
replaced-sums col by (c ∷ cs) = ⊎_elim (λ e. inl (record { sums = here e })) (λ n. ⊎_elim (λ r. inl (record { sums = later n r })) (λ e. inr (none n e)) (replaced-sums col by cs)) (cases_eq c col)
  where
    here : c ≡ col → (g : ℕ → ℤ) → sum_over (cond (nat_eq c col) (by ∷ cs) (c ∷ replaced col by cs)) g +ℤ g col ≡ g c +ℤ sum_over cs g +ℤ g by
    here e g = ap (λ b. sum_over (cond b (by ∷ cs) (c ∷ replaced col by cs)) g +ℤ g col) (eq-eqb c col e) ∙ step (g by) (sum_over cs g) (g col) (g c) (ap g (sym e))
      where
        step : (x y z w : ℤ) → z ≡ w → x +ℤ y +ℤ z ≡ w +ℤ y +ℤ x
        step x y z w e = omega (arith, ints)

    later : c ≢ col → IsReplaced col by cs → (g : ℕ → ℤ) → sum_over (cond (nat_eq c col) (by ∷ cs) (c ∷ replaced col by cs)) g +ℤ g col ≡ g c +ℤ sum_over cs g +ℤ g by
    later n r g = ap (λ b. sum_over (cond b (by ∷ cs) (c ∷ replaced col by cs)) g +ℤ g col) (ne_eqb c col n) ∙ step (g c) (sum_over (replaced col by cs) g) (g col) (sum_over cs g) (g by) (r.sums g)
      where
        step : (x y z v w : ℤ) → y +ℤ z ≡ v +ℤ w → x +ℤ y +ℤ z ≡ x +ℤ v +ℤ w
        step x y z v w e = omega (arith, ints)

    none : c ≢ col → sum_over cs (only col (pos 1)) ≡ pos 0 → only col (pos 1) c +ℤ sum_over cs (only col (pos 1)) ≡ pos 0
    none n e = step (only col (pos 1) c) (sum_over cs (only col (pos 1))) (only-else col c (pos 1) n) e
      where
        step : (a b : ℤ) → a ≡ pos 0 → b ≡ pos 0 → a +ℤ b ≡ pos 0
        step a b e f = omega (arith, ints)

-- solutions that own the columns that some choice leaves
pub record HasBasis (f : Frame) (os : List Owner) : Type 0 where
  pub chosen : List ℕ
  pub basis : IsBasis f os chosen

pub column-cleared : (f : Frame) (p : Owner) (os ms : List Owner) (chosen : List ℕ) (col : ℕ) → IsBasis f (p ∷ os) chosen → col < width f → p.numbers col ≢ pos 0 → AreMoved col p os ms → AllByRecursion (λ (o : Owner). IsSolution f o.numbers) ms
    → HasBasis f (given_up col p ∷ ms)
column-cleared f p os ms chosen col b l n moved solved = ⊎_elim (λ r. entered r) (λ e. kept e) (replaced-sums col p.column chosen)
  where
    same : columns_of ms ≡ columns_of os
    same = moved-columns col p os ms moved

    owned : AllByRecursion (λ (o : Owner). o.column < width f) ms
    owned = within os ms moved b.owned.1
      where
        within : (os ms : List Owner) → AreMoved col p os ms → AllByRecursion (λ (o : Owner). o.column < width f) os → AllByRecursion (λ (o : Owner). o.column < width f) ms
        within [] [] h k = tt
        within [] (m ∷ ms) h k = absurd h
        within (o ∷ os) [] h k = absurd h
        within (o ∷ os) (m ∷ ms) h k = (subst (λ c. c < width f) (sym h.0.column) k.0, within os ms h.1 k.1)

    owners : AreOwners (given_up col p ∷ ms)
    owners = (n, given_up-apart col p os ms moved b.owners.1, moved-owners col p os ms moved b.owners.1 b.owners.2)

    with_choice : (cs : List ℕ) → length cs ≡ line_count f → AllByRecursion (λ c. c < width f) cs → ((g : ℕ → ℤ) → g col +ℤ sum_over (columns_of os) g +ℤ sum_over cs g ≡ sum_below (width f) g) → HasBasis f (given_up col p ∷ ms)
    with_choice cs e h sums = record {
      chosen = cs;
      basis = record {
        each = e;
        within = h;
        owned = (l, owned);
        owners = owners;
        solved = (b.solved.0, solved);
        parted = record { sums = λ g. ap (λ ds. g col +ℤ sum_over ds g +ℤ sum_over cs g) same ∙ sums g };
      };
    }

    entered : IsReplaced col p.column chosen → HasBasis f (given_up col p ∷ ms)
    entered r =
        with_choice (replaced col p.column chosen) (replaced-length col p.column chosen ∙ b.each) (replaced-within (width f) col p.column chosen b.owned.0 b.within)
        (λ g. step (g col) (sum_over (columns_of os) g) (sum_over (replaced col p.column chosen) g) (sum_over chosen g) (g p.column) (r.sums g) ∙ b.parted.sums g)
      where
        step : (x y z v w : ℤ) → z +ℤ x ≡ v +ℤ w → x +ℤ y +ℤ z ≡ w +ℤ y +ℤ v
        step x y z v w e = omega (arith, ints)

    kept : sum_over chosen (only col (pos 1)) ≡ pos 0 → HasBasis f (given_up col p ∷ ms)
    kept e =
        let its : col ≡ p.column = ⊎_elim (λ k. ⊎_elim (λ is. is) (λ zero. absurd (n zero)) k) (λ none. absurd (clash (sum_over (columns_of (p ∷ os)) (only col (pos 1))) (sum_over chosen (only col (pos 1))) (sum_below (width f) (only col (pos 1))) none e (b.parted.sums (only col (pos 1))) (only-sum (width f) col (pos 1) l)))
        (found_in (λ c. (c ≡ p.column) ⊎ (p.numbers c ≡ pos 0)) (columns_of (p ∷ os)) col (inl refl, each-map (AreApart p) (λ c. (c ≡ p.column) ⊎ (p.numbers c ≡ pos 0)) (λ (o : Owner). o.column) (λ o k. inr k.there) os b.owners.1)) in
        with_choice chosen b.each b.within (λ g. ap (λ c. g c +ℤ sum_over (columns_of os) g +ℤ sum_over chosen g) its ∙ b.parted.sums g)
      where
        clash : (a b c : ℤ) → a ≡ pos 0 → b ≡ pos 0 → a +ℤ b ≡ c → c ≡ pos 1 → ⊥
        clash a b c e f g i = omega (arith, ints)

-- ---- owners moved along another one

-- an owner moved along another one to where it has 0 at a column
abbrev pub moved_other : ℕ → Owner → Owner → Owner
moved_other col p o = record { column = o.column; numbers = λ c. p.numbers col *ℤ o.numbers c +ℤ neg_ℤ (o.numbers col) *ℤ p.numbers c }

pub other-moved : (col : ℕ) (p o : Owner) → p.numbers col ≢ pos 0 → IsMovedOwner col p o (moved_other col p o)
other-moved col p o n = record {
  column = refl;
  factor = pos 1;
  some_factor = above_not_zero (pos 1) (omega (arith, ints));
  a = p.numbers col;
  some = n;
  b = neg_ℤ (o.numbers col);
  is = λ c. one (p.numbers col *ℤ o.numbers c +ℤ neg_ℤ (o.numbers col) *ℤ p.numbers c);
  gone = gone (p.numbers col) (o.numbers col);
}
  where
    one : (z : ℤ) → pos 1 *ℤ z ≡ z
    one z = omega (arith, ints)

    gone : (a b : ℤ) → a *ℤ b +ℤ neg_ℤ b *ℤ a ≡ pos 0
    gone a b = simp ring (omega (arith, ints))

pub others-moved : (col : ℕ) (p : Owner) (os : List Owner) → p.numbers col ≢ pos 0 → AreMoved col p os (map (moved_other col p) os)
others-moved col p [] n = tt
others-moved col p (o ∷ os) n = (other-moved col p o n, others-moved col p os n)

pub others-solved : (f : Frame) (col : ℕ) (p : Owner) (os : List Owner) → IsSolution f p.numbers → AllByRecursion (λ (o : Owner). IsSolution f o.numbers) os → AllByRecursion (λ (o : Owner). IsSolution f o.numbers) (map (moved_other col p) os)
others-solved f col p os s h = each-map (λ (o : Owner). IsSolution f o.numbers) (λ (o : Owner). IsSolution f o.numbers) (moved_other col p) (λ o k. combined o k) os h
  where
    combined : (o : Owner) → IsSolution f o.numbers → IsSolution f (moved_other col p o).numbers
    combined o k line l =
        sum_below-same (width f) (λ c. number_in f line c *ℤ (p.numbers col *ℤ o.numbers c +ℤ neg_ℤ (o.numbers col) *ℤ p.numbers c)) (λ c. p.numbers col *ℤ (number_in f line c *ℤ o.numbers c) +ℤ neg_ℤ (o.numbers col) *ℤ (number_in f line c *ℤ p.numbers c)) (λ c m. apart (number_in f line c) (p.numbers col) (o.numbers c) (neg_ℤ (o.numbers col)) (p.numbers c))
        ∙ plus (width f) (λ c. p.numbers col *ℤ (number_in f line c *ℤ o.numbers c)) (λ c. neg_ℤ (o.numbers col) *ℤ (number_in f line c *ℤ p.numbers c))
        ∙ both (sum_below (width f) (λ c. p.numbers col *ℤ (number_in f line c *ℤ o.numbers c))) (sum_below (width f) (λ c. neg_ℤ (o.numbers col) *ℤ (number_in f line c *ℤ p.numbers c)))
        (sym (factored (width f) (p.numbers col) (λ c. number_in f line c *ℤ o.numbers c)) ∙ ap (λ z. p.numbers col *ℤ z) (k line l) ∙ times_zero (p.numbers col))
        (sym (factored (width f) (neg_ℤ (o.numbers col)) (λ c. number_in f line c *ℤ p.numbers c)) ∙ ap (λ z. neg_ℤ (o.numbers col) *ℤ z) (s line l) ∙ times_zero (neg_ℤ (o.numbers col)))
      where
        apart : (n a x b y : ℤ) → n *ℤ (a *ℤ x +ℤ b *ℤ y) ≡ a *ℤ (n *ℤ x) +ℤ b *ℤ (n *ℤ y)
        apart n a x b y = simp ring (omega (arith, ints))

        both : (x y : ℤ) → x ≡ pos 0 → y ≡ pos 0 → x +ℤ y ≡ pos 0
        both x y e g = omega (arith, ints)

-- owners of which one has a number at a column, and owns it from then on
pub others-cleared : (f : Frame) (p : Owner) (os : List Owner) (chosen : List ℕ) (col : ℕ) → IsBasis f (p ∷ os) chosen → col < width f → p.numbers col ≢ pos 0 → HasBasis f (given_up col p ∷ map (moved_other col p) os)
others-cleared f p os chosen col b l n = column-cleared f p os (map (moved_other col p) os) chosen col b l n (others-moved col p os n) (others-solved f col p os b.solved.0 b.solved.1)
