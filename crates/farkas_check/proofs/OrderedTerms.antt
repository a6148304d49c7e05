-- Terms in print order: the coefficient at a place, or that there is none, and the first term after
-- a monomial.
use Rattle.std.proofs.Common.{◌≡◌, ℕ, zero, suc, ◌≤◌, ◌<◌, ◌+◌, ◌-◌, ℤ, pos, Bool, true, false, cond, List, [], ◌∷◌, length, get_or, Option, Some, None, refl, sym, ap, subst, ◌∙◌, arith}
use Rattle.std.specs.Prelude.{slice_get}
use Rattle.std.specs.List.{AllByRecursion}
use Rattle.std.specs.Map.{keys_of}
use Rattle.std.specs.Ordering.{eq_by_cmp, is_eq, is_lt}
use Rattle.std.specs.declared.cmp.Ordering.{Ordering}
use Rattle.std.specs.declared.cmp.Ordering.TheVariants.{Less, Equal, Greater}
use Rattle.std.proofs.lemmas.Bool.{false≢true}
use Rattle.std.proofs.lemmas.Option.{slice_get_read}
use Rattle.linear_terms.specs.declared.col.Col.{Col}
use Rattle.linear_terms.specs.Mono.{mono_cmp}
use Rattle.linear_terms.specs.MonoOrder.{mono_cmp_total}
use Rattle.linear_terms.specs.Polynomial.{Terms, IsCanonical, coefficient_in}
use Rattle.linear_terms.proofs.Canonical.{Before, Before-trans, first_before, IsCanonical-tail}
use Rattle.linear_terms.proofs.Order.{mono_tie}
use Rattle.farkas_check.specs.Walk.{is_after, lesser, least_after, IsFirstBehind}
use Rattle.farkas_check.proofs.Listing.{mono_itself}
use Rattle.farkas_check.proofs.Walks.{is_after-trans, reversed}

before_there : (m : List Col) (ts : Terms) (place : ℕ) (t : List Col × ℤ) → Before m ts → slice_get ts place ≡ Some t → mono_cmp m t.0 ≡ Less
before_there m [] place t b e = cc
before_there m (u ∷ ts) zero t b e = let same : u ≡ t = cc in subst (λ (x : List Col × ℤ). mono_cmp m x.0 ≡ Less) same b.0
before_there m (u ∷ ts) (suc place) t b e = before_there m ts place t b.1 e

-- ---- the coefficient

coefficient_there : (ts : Terms) (place : ℕ) (t : List Col × ℤ) → IsCanonical ts → slice_get ts place ≡ Some t → t.1 ≡ coefficient_in ts t.0
coefficient_there [] place t k e = cc
coefficient_there (u ∷ ts) zero t k e =
    let same : u ≡ t = cc in
    subst (λ (x : List Col × ℤ). x.1 ≡ coefficient_in (u ∷ ts) x.0) same (rw (mono_itself u.0) refl)
coefficient_there (u ∷ ts) (suc place) t k e = rw (before_there u.0 ts place t (first_before u ts k) e) (coefficient_there ts place t (IsCanonical-tail u ts k) e)

coefficient_read : (ts : Terms) (place : ℕ) (t : List Col × ℤ) (m : List Col) → IsCanonical ts → place < length ts → t ≡ get_or ts place t → eq_by_cmp mono_cmp t.0 m ≡ true → t.1 ≡ coefficient_in ts m
coefficient_read ts place t m k lt is h = go (mono_cmp t.0 m) refl h
  where
    go : (o : Ordering) → mono_cmp t.0 m ≡ o → is_eq o ≡ true → t.1 ≡ coefficient_in ts m
    go Less f g = cc
    go Equal f g = coefficient_there ts place t k (slice_get_read ts (length ts) place t refl lt is) ∙ ap (coefficient_in ts) (mono_tie t.0 m f)
    go Greater f g = cc

-- ---- the first after a monomial

counts : (last known : Option (List Col)) (m : List Col) (ms : List (List Col)) → is_after last m ≡ true → least_after last known (m ∷ ms) ≡ least_after last (lesser known m true) ms
counts last known m ms e = ap (λ b. least_after last (lesser known m b) ms) e

none_counts : (last known : Option (List Col)) (m : List Col) (ms : List (List Col)) → is_after last m ≡ false → least_after last known (m ∷ ms) ≡ least_after last known ms
none_counts last known m ms e = rw e refl

not_after : (last : Option (List Col)) (m n : List Col) → mono_cmp m n ≡ Less → is_after last n ≡ false → is_after last m ≡ false
not_after last m n e f = go (is_after last m) refl
  where
    go : (b : Bool) → is_after last m ≡ b → is_after last m ≡ false
    go true g = absurd (false≢true (sym f ∙ is_after-trans last m n g e))
    go false g = g

-- a monomial that stands before others leaves the least as it is
lesser_stays : (last known : Option (List Col)) (ms : List (List Col)) → AllByRecursion (λ m. (b : Bool) → lesser known m b ≡ known) ms → least_after last known ms ≡ known
lesser_stays last known [] h = refl
lesser_stays last known (m ∷ ms) h = ap (λ x. least_after last x ms) (h.0 (is_after last m)) ∙ lesser_stays last known ms h.1

below_each : (s : List Col) (known : Option (List Col)) (ms : List (List Col)) → known ≡ Some s → AllByRecursion (λ n. mono_cmp s n ≡ Less) ms → AllByRecursion (λ m. (b : Bool) → lesser known m b ≡ known) ms
below_each s known [] e h = tt
below_each s known (n ∷ ms) e h = (λ b. go b, below_each s known ms e h.1)
  where
    go : (b : Bool) → lesser known n b ≡ known
    go true = subst (λ k. lesser k n true ≡ k) (sym e) (rw h.0 refl)
    go false = refl

trans_each : (a m : List Col) (ms : List (List Col)) → mono_cmp a m ≡ Less → AllByRecursion (λ n. mono_cmp m n ≡ Less) ms → AllByRecursion (λ n. mono_cmp a n ≡ Less) ms
trans_each a m [] e h = tt
trans_each a m (n ∷ ms) e h = (mono_cmp_total.trans a m n e h.0, trans_each a m ms e h.1)

-- the lesser of a known one and the first of others stays the least of all
lesser_first : (known : Option (List Col)) (m : List Col) (ms : List (List Col)) → AllByRecursion (λ n. mono_cmp m n ≡ Less) ms → AllByRecursion (λ n. (b : Bool) → lesser (lesser known m true) n b ≡ lesser known m true) ms
lesser_first None m ms h = below_each m (Some m) ms refl h
lesser_first (Some a) m ms h = go (mono_cmp a m) refl
  where
    go : (o : Ordering) → mono_cmp a m ≡ o → AllByRecursion (λ n. (b : Bool) → lesser (lesser (Some a) m true) n b ≡ lesser (Some a) m true) ms
    go Less e = below_each a (lesser (Some a) m true) ms (rw e refl) (trans_each a m ms e h)
    go Equal e = below_each m (lesser (Some a) m true) ms (rw e refl) h
    go Greater e = below_each m (lesser (Some a) m true) ms (rw e refl) h

there : (ts : Terms) (place : ℕ) → place < length ts → (t : List Col × ℤ) × (slice_get ts place ≡ Some t)
there [] place lt = absurd (omega arith)
there (u ∷ ts) zero lt = (u, refl)
there (u ∷ ts) (suc place) lt = there ts place (omega arith)

head_not_after : (u : List Col × ℤ) (ts : Terms) (last : Option (List Col)) (place : ℕ) → IsCanonical (u ∷ ts) → IsFirstBehind (u ∷ ts) last (suc place) → is_after last u.0 ≡ false
head_not_after u ts last zero k f = f.before zero u (omega arith) refl
head_not_after u ts last (suc place) k f =
    let lt : place < length ts = (let h = f.within in omega arith) in
    let v = there ts place lt in
    not_after last u.0 v.0.0 (before_there u.0 ts place v.0 (first_before u ts k) v.1) (f.before (suc place) v.0 (omega arith) v.1)

tail_behind : (u : List Col × ℤ) (ts : Terms) (last : Option (List Col)) (place : ℕ) → IsFirstBehind (u ∷ ts) last (suc place) → IsFirstBehind ts last place
tail_behind u ts last place f = record {
  within = (let h = f.within in omega arith);
  behind = λ t e. f.behind t e;
  before = λ p t e g. f.before (suc p) t (omega (arith, e)) g;
}

-- ---- a coefficient that is not there

before_all : (m : List Col) (ts : Terms) → Before m ts → coefficient_in ts m ≡ pos 0
before_all m [] b = refl
before_all m (u ∷ ts) b = rw (reversed m u.0 Less b.0) (before_all m ts b.1)

less_of : (o : Ordering) → is_lt o ≡ true → o ≡ Less
less_of Less e = refl
less_of Equal e = absurd (false≢true e)
less_of Greater e = absurd (false≢true e)

-- a term that stands before one that is not behind a monomial is not the monomial's own
other_head : (u v : List Col × ℤ) (m : List Col) → mono_cmp u.0 v.0 ≡ Less → is_after (Some m) v.0 ≡ false → eq_by_cmp mono_cmp u.0 m ≡ false
other_head u v m before not = go (mono_cmp u.0 m) refl
  where
    go : (o : Ordering) → mono_cmp u.0 m ≡ o → is_eq o ≡ false
    go Less e = refl
    go Equal e = absurd (false≢true (sym not ∙ subst (λ x. is_lt (mono_cmp x v.0) ≡ true) (mono_tie u.0 m e) (ap is_lt before)))
    go Greater e = refl

-- no term is the monomial's own, where the last one that does not stand behind it is not
no_coefficient : (ts : Terms) (m : List Col) (place : ℕ) → IsCanonical ts → IsFirstBehind ts (Some m) place → ((p : ℕ) (t : List Col × ℤ) → place ≡ p + 1 → slice_get ts p ≡ Some t → eq_by_cmp mono_cmp t.0 m ≡ false) → coefficient_in ts m ≡ pos 0
no_coefficient [] m place k f other = refl
no_coefficient (u ∷ ts) m zero k f other =
    let before : mono_cmp m u.0 ≡ Less = less_of (mono_cmp m u.0) (f.behind u refl) in
    before_all m (u ∷ ts) (before, Before-trans m u.0 ts before (first_before u ts k))
no_coefficient (u ∷ ts) m (suc place) k f other =
    ap (λ b. cond b u.1 (coefficient_in ts m)) (head place refl)
    ∙ no_coefficient ts m place (IsCanonical-tail u ts k) (tail_behind u ts (Some m) place f) (λ p t e g. other (suc p) t (omega (arith, e)) g)
  where
    head : (q : ℕ) → place ≡ q → eq_by_cmp mono_cmp u.0 m ≡ false
    head zero e = other zero u (ap (λ n. suc n) e) refl
    head (suc q) e =
        let lt : q < length ts = (let h = f.within in omega (arith, e)) in
        let v = there ts q lt in
        other_head u v.0 m (before_there u.0 ts q v.0 (first_before u ts k) v.1) (f.before (suc q) v.0 (omega (arith, e)) v.1)

pub coefficient_own : (ts : Terms) (m : List Col) (place : ℕ) (t : List Col × ℤ) → IsCanonical ts → IsFirstBehind ts (Some m) place → (place ≡ 0 → ⊥) → t ≡ get_or ts (place - 1) t → eq_by_cmp mono_cmp t.0 m ≡ true → t.1 ≡ coefficient_in ts m
coefficient_own ts m place t k f some is own = coefficient_read ts (place - 1) t m k (let h = f.within in omega (arith, h, some)) is own

pub coefficient_none : (ts : Terms) (m : List Col) (place : ℕ) → IsCanonical ts → IsFirstBehind ts (Some m) place → place ≡ 0 → pos 0 ≡ coefficient_in ts m
coefficient_none ts m place k f none = sym (no_coefficient ts m place k f (λ p t e g. absurd (omega (arith, none, e))))

pub coefficient_other : (ts : Terms) (m : List Col) (place : ℕ) (t : List Col × ℤ) → IsCanonical ts → IsFirstBehind ts (Some m) place → (place ≡ 0 → ⊥) → t ≡ get_or ts (place - 1) t → eq_by_cmp mono_cmp t.0 m ≡ false → pos 0 ≡ coefficient_in ts m
coefficient_other ts m place t k f some is other = sym (no_coefficient ts m place k f (λ p u e g. go p u e g))
  where
    go : (p : ℕ) (u : List Col × ℤ) → place ≡ p + 1 → slice_get ts p ≡ Some u → eq_by_cmp mono_cmp u.0 m ≡ false
    go p u e g =
        let same : place - 1 ≡ p = omega (arith, e) in
        let within : p < length ts = (let h = f.within in omega (arith, e)) in
        let own : slice_get ts p ≡ Some t = slice_get_read ts (length ts) p t refl within (is ∙ ap (λ n. get_or ts n t) same) in
        let one : u ≡ t = (let both : Some u ≡ Some t = sym g ∙ own in cc) in
        subst (λ (x : List Col × ℤ). eq_by_cmp mono_cmp x.0 m ≡ false) (sym one) other

least_there : (ts : Terms) (last known : Option (List Col)) (place : ℕ) (t : List Col × ℤ) → IsCanonical ts → IsFirstBehind ts last place → slice_get ts place ≡ Some t → lesser known t.0 true ≡ least_after last known (keys_of ts)
least_there [] last known place t k f e = cc
least_there (u ∷ ts) last known zero t k f e =
    let same : u ≡ t = cc in
    subst (λ (x : List Col × ℤ). lesser known x.0 true ≡ least_after last known (keys_of (u ∷ ts))) same
    (sym (counts last known u.0 (keys_of ts) (f.behind u refl) ∙ lesser_stays last (lesser known u.0 true) (keys_of ts) (lesser_first known u.0 (keys_of ts) (first_before u ts k))))
least_there (u ∷ ts) last known (suc place) t k f e =
    least_there ts last known place t (IsCanonical-tail u ts k) (tail_behind u ts last place f) e ∙ sym (none_counts last known u.0 (keys_of ts) (head_not_after u ts last place k f))

pub least_read : (ts : Terms) (last known : Option (List Col)) (place : ℕ) (t : List Col × ℤ) → IsCanonical ts → IsFirstBehind ts last place → place < length ts → t ≡ get_or ts place t → lesser known t.0 true ≡ least_after last known (keys_of ts)
least_read ts last known place t k f lt is = least_there ts last known place t k f (slice_get_read ts (length ts) place t refl lt is)

pub least_past : (ts : Terms) (last known : Option (List Col)) (place : ℕ) → IsCanonical ts → IsFirstBehind ts last place → length ts ≤ place → known ≡ least_after last known (keys_of ts)
least_past [] last known place k f le = refl
least_past (u ∷ ts) last known zero k f le = absurd (omega arith)
least_past (u ∷ ts) last known (suc place) k f le =
    least_past ts last known place (IsCanonical-tail u ts k) (tail_behind u ts last place f) (omega arith) ∙ sym (none_counts last known u.0 (keys_of ts) (head_not_after u ts last place k f))

pub ruleset ordered = (coefficient_own, coefficient_none, coefficient_other, least_read, least_past)
