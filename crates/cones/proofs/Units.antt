-- Units, made one after another, and the lengths of what is made of them.
use Rattle.std.proofs.Common.{◌≡◌, ℕ, zero, suc, ◌+◌, ◌-◌, ◌<◌, Bool, true, false, cond, List, [], ◌∷◌, ◌++◌, length, map, refl, sym, ap, subst, ◌∙◌, arith, append_assoc, ℤ, pos}
use Rattle.std.specs.Prelude.{Some}
use Rattle.std.specs.List.{cons_option, find}
use Rattle.std.proofs.lemmas.List.{append-nil}
use Rattle.cones.specs.Cones.{AreWide, Cleared, Given, IsWide, Kept, clearing}
use Rattle.cones.specs.Split.{zeros, units, remainder, is_pivot, pivots_behind}
use Rattle.cones.proofs.Widths.{clearing-wide}

-- ---- units

-- the unit of a place
abbrev pub unit_at : ℕ → ℕ → List ℤ
unit_at place count = zeros place ++ pos 1 ∷ zeros (count - place - 1)

-- the units from a place on
abbrev pub units_from : ℕ → ℕ → List (List ℤ)
units_from place count = map (λ v. zeros place ++ v) (units (count - place))

zeros-behind : (n : ℕ) (v : List ℤ) → zeros n ++ pos 0 ∷ v ≡ pos 0 ∷ zeros n ++ v
zeros-behind zero v = refl
zeros-behind (suc n) v = ap (λ ys. pos 0 ∷ ys) (zeros-behind n v)

map-behind : (n : ℕ) (vs : List (List ℤ)) → map (λ v. zeros n ++ v) (map (λ v. pos 0 ∷ v) vs) ≡ map (λ v. zeros (suc n) ++ v) vs
map-behind n [] = refl
map-behind n (v ∷ vs) = λ i. zeros-behind n v i ∷ map-behind n vs i

units-first : (place m : ℕ) → map (λ v. zeros place ++ v) (units (suc m)) ≡ (zeros place ++ pos 1 ∷ zeros m) ∷ map (λ v. zeros (suc place) ++ v) (units m)
units-first place m = ap (λ vs. (zeros place ++ pos 1 ∷ zeros m) ∷ vs) (map-behind place (units m))

map-same : (vs : List (List ℤ)) → map (λ v. [] ++ v) vs ≡ vs
map-same [] = refl
map-same (v ∷ vs) = ap (λ us. v ∷ us) (map-same vs)

pub units-from_first : (count : ℕ) → [] ++ units_from 0 count ≡ units count
units-from_first count = map-same (units (count - 0)) ∙ ap units (omega arith)

pub units-next : (place count : ℕ) (made more : List (List ℤ)) (unit : List ℤ) → place < count → made ++ units_from place count ≡ units count → unit ≡ unit_at place count
    → more ≡ made ++ unit ∷ [] → more ++ units_from (place + 1) count ≡ units count
units-next place count made more unit h e f g =
    ap (λ us. us ++ units_from (place + 1) count) g
    ∙ append_assoc made (unit ∷ []) (units_from (place + 1) count)
    ∙ ap (λ us. made ++ us) (front (count - place - 1) (omega arith) (omega arith) refl)
    ∙ e
  where
    front : (m : ℕ) → count - place ≡ suc m → count - (place + 1) ≡ m → count - place - 1 ≡ m → unit ∷ units_from (place + 1) count ≡ units_from place count
    front m a b d =
        (λ i. (f ∙ ap (λ n. zeros place ++ pos 1 ∷ zeros n) d) i ∷ map (λ v. zeros (next i) ++ v) (units (b i)))
        ∙ sym (units-first place m)
        ∙ sym (ap (λ n. map (λ v. zeros place ++ v) (units n)) a)
      where
        next : place + 1 ≡ suc place
        next = omega arith

pub units-end : (place count : ℕ) (made : List (List ℤ)) → count - place ≡ 0 → made ++ units_from place count ≡ units count → made ≡ units count
units-end place count made h e = sym (ap (λ n. made ++ map (λ v. zeros place ++ v) (units n)) h ∙ append-nil made) ∙ e

pub zeros_next : (place count : ℕ) (made more start : List ℤ) → place < count → made ++ zeros (count - place) ≡ start → more ≡ made ++ pos 0 ∷ [] → more ++ zeros (count - (place + 1)) ≡ start
zeros_next place count made more start h e g =
    ap (λ us. us ++ zeros (count - (place + 1))) g
    ∙ append_assoc made (pos 0 ∷ []) (zeros (count - (place + 1)))
    ∙ ap (λ us. made ++ us) (front (count - (place + 1)) (omega arith))
    ∙ e
  where
    front : (m : ℕ) → count - place ≡ suc m → pos 0 ∷ zeros m ≡ zeros (count - place)
    front m a = sym (ap zeros a)

-- ---- lengths

zeros-length : (n : ℕ) → length (zeros n) ≡ n
zeros-length zero = refl
zeros-length (suc n) = let e = zeros-length n in omega (arith, e)

units-behind_wide : (n : ℕ) (vs : List (List ℤ)) → AreWide n vs → AreWide (suc n) (map (λ v. pos 0 ∷ v) vs)
units-behind_wide n [] h = tt
units-behind_wide n (v ∷ vs) h = (let e = h.0 in omega (arith, e), units-behind_wide n vs h.1)

pub units-wide : (n : ℕ) → AreWide n (units n)
units-wide zero = tt
units-wide (suc n) = (let e = zeros-length n in omega (arith, e), units-behind_wide n (units n) (units-wide n))

found-wide : (count : ℕ) (test : List ℤ → Bool) (lines rest : List (List ℤ)) → AreWide count lines → AreWide count rest → AreWide count (cons_option (find test lines) rest)
found-wide count test [] rest h k = k
found-wide count test (line ∷ lines) rest h k = go (test line) (found-wide count test lines rest h.1 k)
  where
    go : (b : Bool) → AreWide count (cons_option (find test lines) rest) → AreWide count (cons_option (cond b (Some line) (find test lines)) rest)
    go true later = (h.0, k)
    go false later = later

pub pivots_behind-wide : (count : ℕ) (lines before vs : List (List ℤ)) → AreWide count lines → AreWide count (pivots_behind lines before vs)
pivots_behind-wide count lines before [] h = tt
pivots_behind-wide count lines before (v ∷ vs) h = found-wide count (is_pivot v before vs) lines (pivots_behind lines (before ++ v ∷ []) vs) h (pivots_behind-wide count lines (before ++ v ∷ []) vs h)

pub remainder-wide : (count : ℕ) (line : List ℤ) (basis left : List (List ℤ)) → left ≡ remainder basis (clearing line basis) → AreWide count basis → AreWide count left
remainder-wide count line basis left e h = subst (AreWide count) (sym e) (go (clearing line basis) (clearing-wide count line basis h))
  where
    go : (c : Cleared) → IsWide count c → AreWide count (remainder basis c)
    go Kept k = h
    go (Given pivot rest) k = k.1

pub units_of-wide : (count : ℕ) (us : List (List ℤ)) → us ≡ units count → AreWide count us
units_of-wide count us e = subst (AreWide count) (sym e) (units-wide count)

pub ruleset unit_steps = (units-from_first, units-next, units-end, zeros_next)
