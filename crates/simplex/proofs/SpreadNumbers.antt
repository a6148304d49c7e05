-- Numbers of terms that are spread over columns in print order are those of the terms there.
use Rattle.std.proofs.Common.{◌≡◌, Bool, true, false, cond, List, [], ◌∷◌, ◌++◌, map, refl, sym, ap, subst, ◌∙◌, append_assoc, append-nil, ℤ, pos}
use Rattle.std.specs.Map.{keys_of}
use Rattle.std.specs.Ordering.{eq_by_cmp, is_eq}
use Rattle.std.specs.declared.cmp.Ordering.TheVariants.{Less}
use Rattle.std.proofs.lemmas.Bool.{false≢true}
use Rattle.linear_terms.specs.declared.col.Col.{Col}
use Rattle.linear_terms.specs.Mono.{mono_cmp}
use Rattle.linear_terms.specs.Polynomial.{Terms, coefficient_in, IsCanonical}
use Rattle.linear_terms.proofs.Canonical.{first_before, IsCanonical-tail}
use Rattle.farkas_check.proofs.Spreads.{same_mono, is_among, AreAmong}
use Rattle.farkas_check.proofs.Walks.{IsBefore, IsOrdered}
use Rattle.simplex.specs.Endings.{spread}
use Rattle.simplex.proofs.WiderCases.{not_eq}
use Rattle.simplex.proofs.WiderColumns.{before-among, before-trans, among-step, among-rest}

-- a column before all monomials of the terms has 0
nothing-before : (c : List Col) (ts : Terms) → IsBefore c (keys_of ts) → coefficient_in ts c ≡ pos 0
nothing-before c [] b = refl
nothing-before c (t ∷ ts) b = ap (λ q. cond q t.1 (coefficient_in ts c)) (not_eq c t.0 b.0) ∙ nothing-before c ts b.1

-- columns behind the first monomial
first-apart : (t : List Col × ℤ) (ts : Terms) (cs : List (List Col)) → IsBefore t.0 cs → map (coefficient_in (t ∷ ts)) cs ≡ map (coefficient_in ts) cs
first-apart t ts [] b = refl
first-apart t ts (c ∷ cs) b = both (ap (λ q. cond q t.1 (coefficient_in ts c)) (not_after t.0 c b.0)) (first-apart t ts cs b.1)
  where
    not_after : (m c : List Col) → mono_cmp m c ≡ Less → eq_by_cmp mono_cmp m c ≡ false
    not_after m c e = ap is_eq e

    both : {a b : ℤ} {xs ys : List ℤ} → a ≡ b → xs ≡ ys → a ∷ xs ≡ b ∷ ys
    both e f = cc

-- those behind the first column are among the others
later-among : (c : List Col) (ms cs : List (List Col)) → IsBefore c ms → AreAmong ms (c ∷ cs) → AreAmong ms cs
later-among c [] cs b a = tt
later-among c (m ∷ ms) cs b a = (among-step m c cs a.0 (not_eq c m b.0), later-among c ms cs b.1 a.1)

pub more-among : (c : List Col) (ms cs : List (List Col)) → AreAmong ms cs → AreAmong ms (c ∷ cs)
more-among c [] cs a = tt
more-among c (m ∷ ms) cs a = (among-rest m c cs a.0, more-among c ms cs a.1)

pub spread-none : (cs : List (List Col)) → spread [] cs ≡ map (coefficient_in []) cs
spread-none [] = refl
spread-none (c ∷ cs) = ap (λ zs. pos 0 ∷ zs) (spread-none cs)

pub spread-numbers : (ts : Terms) (cs : List (List Col)) → IsCanonical ts → IsOrdered cs → AreAmong (keys_of ts) cs → spread ts cs ≡ map (coefficient_in ts) cs
spread-numbers [] cs k o a = spread-none cs
spread-numbers (t ∷ ts) [] k o a = absurd (false≢true a.0)
spread-numbers (t ∷ ts) (c ∷ cs) k o a = go (eq_by_cmp mono_cmp t.0 c) refl
    (λ b. spread-numbers ts cs (IsCanonical-tail t ts k) o.1 b) (λ b. spread-numbers (t ∷ ts) cs k o.1 b)
  where
    both : {a b : ℤ} {xs ys : List ℤ} → a ≡ b → xs ≡ ys → a ∷ xs ≡ b ∷ ys
    both e f = cc

    go : (q : Bool) → eq_by_cmp mono_cmp t.0 c ≡ q → (AreAmong (keys_of ts) cs → spread ts cs ≡ map (coefficient_in ts) cs) → (AreAmong (keys_of (t ∷ ts)) cs → spread (t ∷ ts) cs ≡ map (coefficient_in (t ∷ ts)) cs)
        → cond q (t.1 ∷ spread ts cs) (pos 0 ∷ spread (t ∷ ts) cs) ≡ map (coefficient_in (t ∷ ts)) (c ∷ cs)
    go true e rest all =
        let same : t.0 ≡ c = same_mono t.0 c e in
        both (sym (ap (λ q. cond q t.1 (coefficient_in ts c)) e))
        (rest (later-among c (keys_of ts) cs (subst (λ (m : List Col). IsBefore m (keys_of ts)) same (first_before t ts k)) a.1)
        ∙ sym (first-apart t ts cs (subst (λ (m : List Col). IsBefore m cs) (sym same) o.0)))
    go false e rest all =
        let here : is_among t.0 cs ≡ true = among-step t.0 c cs a.0 e in
        let less : mono_cmp c t.0 ≡ Less = before-among c t.0 cs o.0 here in
        let before : IsBefore c (keys_of (t ∷ ts)) = (less, before-trans c t.0 (keys_of ts) less (first_before t ts k)) in
        both (sym (nothing-before c (t ∷ ts) before)) (all (here, later-among c (keys_of ts) cs before.1 a.1))

-- what is made so far, before what is left is spread over the columns that are left: all
pub record IsSpread (terms : Terms) (columns : List (List Col)) (line : List ℤ) (left : Terms) (behind : List (List Col)) : Type 0 where
  pub same : line ++ spread left behind ≡ spread terms columns
  pub among : AreAmong (keys_of left) behind → AreAmong (keys_of terms) columns

pub spread-next : (terms : Terms) (columns : List (List Col)) (line more : List ℤ) (left rest : Terms) (behind later : List (List Col)) (column : List Col) (number : ℤ) → behind ≡ column ∷ later → more ≡ line ++ number ∷ []
    → spread left (column ∷ later) ≡ number ∷ spread rest later → (AreAmong (keys_of rest) later → AreAmong (keys_of left) (column ∷ later)) → IsSpread terms columns line left behind → IsSpread terms columns more rest later
spread-next terms columns line more left rest behind later column number e f g h s = record {
  same =
      ap (λ zs. zs ++ spread rest later) f
      ∙ append_assoc line (number ∷ []) (spread rest later)
      ∙ ap (λ zs. line ++ zs) (sym g)
      ∙ ap (λ cs. line ++ spread left cs) (sym e)
      ∙ s.same;
  among = λ a. s.among (subst (λ (cs : List (List Col)). AreAmong (keys_of left) cs) (sym e) (h a));
}

pub spread-end : (terms : Terms) (columns : List (List Col)) (line : List ℤ) (left : Terms) (behind : List (List Col)) → behind ≡ [] → left ≡ [] → IsCanonical terms → IsOrdered columns → IsSpread terms columns line left behind → (line ≡ map (coefficient_in terms) columns) × AreAmong (keys_of terms) columns
spread-end terms columns line left behind e f k o s =
    let among : AreAmong (keys_of terms) columns = s.among (subst (λ (ts : Terms). AreAmong (keys_of ts) behind) (sym f) tt) in (
      sym (append-nil line)
          ∙ ap (λ cs. line ++ spread [] cs) (sym e)
          ∙ ap (λ ts. line ++ spread ts behind) (sym f)
          ∙ s.same
          ∙ spread-numbers terms columns k o among,
      among,
    )
