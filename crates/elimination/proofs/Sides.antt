-- What stands at an unknown, at a place: which polynomial it is, how great it is, and what it
-- depends on.
use Rattle.std.proofs.Common.{◌≡◌, ◌≢◌, ℕ, zero, suc, ◌+◌, ◌<◌, ◌≤◌, List, [], ◌∷◌, length, get_or, refl, sym, ap, ◌∙◌, arith, ℤ, pos, ◌+ℤ◌, ◌*ℤ◌}
use Rattle.std.specs.Prelude.{neg_ℤ, unsigned_abs}
use Rattle.std.specs.List.{AllByRecursion}
use Rattle.std.proofs.lemmas.Int.{ints}
use Rattle.linear_terms.specs.declared.col.Col.{Col}
use Rattle.linear_terms.specs.Polynomial.{Polynomial, coefficient_in}
use Rattle.farkas_check.specs.Frames.{sum_below}
use Rattle.farkas_check.specs.Relations.{Side, Term, Lower, One, sides, side_value, entry}
use Rattle.farkas_check.specs.Sizes.{HasNumbersUpTo}
use Rattle.simplex.proofs.Corners.{none}
use Rattle.simplex.proofs.Exchanges.{times_zero}
use Rattle.simplex.proofs.SmallSums.{coefficient-small}
use Rattle.elimination.specs.Probes.{read_at, one_at, side_at, difference_at}
use Rattle.elimination.proofs.Regular.{sum_below-front}

-- ---- reading at a place

pub read_at-column : (cs : List (List Col)) (place : ℕ) (p : Polynomial) (m : List Col) → place < length cs → m ≡ get_or cs place m → read_at cs place p ≡ coefficient_in p.terms m
read_at-column [] place p m h e = absurd (omega (arith, h))
read_at-column (c ∷ cs) zero p m h e = ap (coefficient_in p.terms) (sym e)
read_at-column (c ∷ cs) (suc place) p m h e = read_at-column cs place p m (omega (arith, h)) e

pub read_at-constant : (cs : List (List Col)) (place : ℕ) (p : Polynomial) → place ≡ length cs → read_at cs place p ≡ p.rest
read_at-constant [] zero p e = refl
read_at-constant [] (suc place) p e = absurd (omega (arith, e))
read_at-constant (c ∷ cs) zero p e = absurd (omega (arith, e))
read_at-constant (c ∷ cs) (suc place) p e = read_at-constant cs place p (omega (arith, e))

pub read_at-past : (cs : List (List Col)) (place : ℕ) (p : Polynomial) → length cs < place → read_at cs place p ≡ pos 0
read_at-past [] zero p h = absurd (omega (arith, h))
read_at-past [] (suc place) p h = refl
read_at-past (c ∷ cs) zero p h = absurd (omega (arith, h))
read_at-past (c ∷ cs) (suc place) p h = read_at-past cs place p (omega (arith, h))

pub read_at-small : (cs : List (List Col)) (place : ℕ) (p : Polynomial) → HasNumbersUpTo 4 p → unsigned_abs (read_at cs place p) ≤ 4
read_at-small [] zero p h = h.rest
read_at-small [] (suc place) p h = omega arith
read_at-small (c ∷ cs) zero p h = coefficient-small 4 p.terms c h.terms
read_at-small (c ∷ cs) (suc place) p h = read_at-small cs place p h

pub one_at-here : (cs : List (List Col)) (place : ℕ) → place ≡ length cs → one_at cs place ≡ pos 1
one_at-here [] zero e = refl
one_at-here [] (suc place) e = absurd (omega (arith, e))
one_at-here (c ∷ cs) zero e = absurd (omega (arith, e))
one_at-here (c ∷ cs) (suc place) e = one_at-here cs place (omega (arith, e))

pub one_at-elsewhere : (cs : List (List Col)) (place : ℕ) → place ≢ length cs → one_at cs place ≡ pos 0
one_at-elsewhere [] zero e = absurd (e refl)
one_at-elsewhere [] (suc place) e = refl
one_at-elsewhere (c ∷ cs) zero e = refl
one_at-elsewhere (c ∷ cs) (suc place) e = one_at-elsewhere cs place (λ same. e (omega (arith, same)))

one_at-small : (cs : List (List Col)) (place : ℕ) → unsigned_abs (one_at cs place) ≤ 4
one_at-small [] zero = omega arith
one_at-small [] (suc place) = omega arith
one_at-small (c ∷ cs) zero = omega arith
one_at-small (c ∷ cs) (suc place) = one_at-small cs place

-- ---- sides

pub side_at-term : (cs : List (List Col)) (place : ℕ) (terms lower : List Polynomial) (unknown : ℕ) (p : Polynomial) → unknown < length terms → p ≡ get_or terms unknown p → side_at cs place (sides terms lower) unknown ≡ read_at cs place p
side_at-term cs place [] lower unknown p h e = absurd (omega (arith, h))
side_at-term cs place (t ∷ terms) lower zero p h e = ap (read_at cs place) (sym e)
side_at-term cs place (t ∷ terms) lower (suc unknown) p h e = side_at-term cs place terms lower unknown p (omega (arith, h)) e

-- behind the terms it does not depend on them
pub side_at-behind : (cs : List (List Col)) (place : ℕ) (terms lower : List Polynomial) (unknown behind : ℕ) → unknown ≡ length terms + behind → side_at cs place (sides terms lower) unknown ≡ side_at cs place (sides [] lower) behind
side_at-behind cs place [] lower unknown behind e = let same : unknown ≡ behind = omega (arith, e) in ap (side_at cs place (sides [] lower)) same
side_at-behind cs place (t ∷ terms) lower zero behind e = absurd (omega (arith, e))
side_at-behind cs place (t ∷ terms) lower (suc unknown) behind e = side_at-behind cs place terms lower unknown behind (omega (arith, e))

pub side_at-lower : (cs : List (List Col)) (place : ℕ) (lower : List Polynomial) (behind : ℕ) (p : Polynomial) → behind < length lower → p ≡ get_or lower behind p → side_at cs place (sides [] lower) behind ≡ neg_ℤ (read_at cs place p)
side_at-lower cs place [] behind p h e = absurd (omega (arith, h))
side_at-lower cs place (l ∷ lower) zero p h e = ap (λ q. neg_ℤ (read_at cs place q)) (sym e)
side_at-lower cs place (l ∷ lower) (suc behind) p h e = side_at-lower cs place lower behind p (omega (arith, h)) e

pub side_at-one : (cs : List (List Col)) (place : ℕ) (lower : List Polynomial) (behind : ℕ) → behind ≡ length lower → side_at cs place (sides [] lower) behind ≡ neg_ℤ (one_at cs place)
side_at-one cs place [] zero e = refl
side_at-one cs place [] (suc behind) e = absurd (omega (arith, e))
side_at-one cs place (l ∷ lower) zero e = absurd (omega (arith, e))
side_at-one cs place (l ∷ lower) (suc behind) e = side_at-one cs place lower behind (omega (arith, e))

pub side_at-none : (cs : List (List Col)) (place : ℕ) (lower : List Polynomial) (behind : ℕ) → length lower < behind → side_at cs place (sides [] lower) behind ≡ pos 0
side_at-none cs place [] zero h = absurd (omega (arith, h))
side_at-none cs place [] (suc behind) h = refl
side_at-none cs place (l ∷ lower) zero h = absurd (omega (arith, h))
side_at-none cs place (l ∷ lower) (suc behind) h = side_at-none cs place lower behind (omega (arith, h))

negative-small : (z : ℤ) → unsigned_abs z ≤ 4 → unsigned_abs (neg_ℤ z) ≤ 4
negative-small z h = omega (arith, ints, h)

lower_at-small : (cs : List (List Col)) (place : ℕ) (lower : List Polynomial) (behind : ℕ) → AllByRecursion (HasNumbersUpTo 4) lower → unsigned_abs (side_at cs place (sides [] lower) behind) ≤ 4
lower_at-small cs place [] zero h = negative-small (one_at cs place) (one_at-small cs place)
lower_at-small cs place [] (suc behind) h = omega arith
lower_at-small cs place (l ∷ lower) zero h = negative-small (read_at cs place l) (read_at-small cs place l h.0)
lower_at-small cs place (l ∷ lower) (suc behind) h = lower_at-small cs place lower behind h.1

pub side_at-small : (cs : List (List Col)) (place : ℕ) (terms lower : List Polynomial) (unknown : ℕ) → AllByRecursion (HasNumbersUpTo 4) terms → AllByRecursion (HasNumbersUpTo 4) lower → unsigned_abs (side_at cs place (sides terms lower) unknown) ≤ 4
side_at-small cs place [] lower unknown h k = lower_at-small cs place lower unknown k
side_at-small cs place (t ∷ terms) lower zero h k = read_at-small cs place t h.0
side_at-small cs place (t ∷ terms) lower (suc unknown) h k = side_at-small cs place terms lower unknown h.1 k

-- past the constants all is 0
pub side_at-past : (cs : List (List Col)) (place : ℕ) (ss : List Side) (unknown : ℕ) → length cs < place → side_at cs place ss unknown ≡ pos 0
side_at-past cs place [] unknown h = refl
side_at-past cs place (Term p ∷ ss) zero h = read_at-past cs place p h
side_at-past cs place (Lower p ∷ ss) zero h = ap neg_ℤ (read_at-past cs place p h)
side_at-past cs place (One ∷ ss) zero h = ap neg_ℤ (one_at-elsewhere cs place (λ e. omega (arith, h, e)))
side_at-past cs place (s ∷ ss) (suc unknown) h = side_at-past cs place ss unknown h

-- ---- differences

pub difference_sum : (cs : List (List Col)) (place : ℕ) (ns : List ℤ) (ss : List Side) → difference_at cs place ns ss ≡ sum_below (length ns) (λ v. entry ns v *ℤ side_at cs place ss v)
difference_sum cs place [] ss = refl
difference_sum cs place (n ∷ ns) [] = sym (none (length (n ∷ ns)) (λ v. entry (n ∷ ns) v *ℤ pos 0) (λ v h. times_zero (entry (n ∷ ns) v)))
difference_sum cs place (n ∷ ns) (s ∷ ss) =
    ap (λ z. n *ℤ side_value (read_at cs place) (one_at cs place) s +ℤ z) (difference_sum cs place ns ss)
    ∙ sym (sum_below-front (length ns) (λ v. entry (n ∷ ns) v *ℤ side_at cs place (s ∷ ss) v))
