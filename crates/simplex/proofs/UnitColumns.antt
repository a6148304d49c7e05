-- The numbers of a line at the unit columns: zeros, and 1 at the place of the line.
use Rattle.std.proofs.Common.{◌≡◌, ◌≢◌, ℕ, zero, suc, ◌+◌, ◌-◌, ◌<◌, ◌≤◌, List, [], ◌∷◌, ◌++◌, cond, length, set, take, replicate, refl, sym, ap, ◌∙◌, arith, ⊎_elim, ℤ, pos}
use Rattle.std.proofs.lemmas.Bool.{cases_eq, eq-eqb, ne_eqb}
use Rattle.std.proofs.lemmas.List.{length-replicate, replicate-append-replicate, take_all, set-append_left, set-append_right}
use Rattle.std.proofs.Math.Seq.{set-append_seam}
use Rattle.simplex.specs.Rows.{units_to}

one_more : (n : ℕ) → replicate (suc n) (pos 0) ≡ replicate n (pos 0) ++ pos 0 ∷ []
one_more n = let e : suc n ≡ n + 1 = omega arith in ap (λ (m : ℕ). replicate m (pos 0)) e ∙ sym (replicate-append-replicate n 1 (pos 0))

-- no place before the n-th
pub units-zero : (n place : ℕ) → n ≤ place → replicate n (pos 0) ≡ units_to n place
units-zero zero place h = refl
units-zero (suc n) place h =
    one_more n
    ∙ ap (λ zs. zs ++ pos 0 ∷ []) (units-zero n place (omega (arith, h)))
    ∙ ap (λ b. units_to n place ++ (cond b (pos 1) (pos 0)) ∷ []) (sym (ne_eqb n place (λ e. absurd (omega (arith, h, e)))))

pub units-one : (n place : ℕ) → place < n → set (replicate n (pos 0)) place (pos 1) ≡ units_to n place
units-one zero place h = absurd (omega (arith, h))
units-one (suc n) place h = ap (λ zs. set zs place (pos 1)) (one_more n) ∙ ⊎_elim last (before (λ g. units-one n place g)) (cases_eq n place)
  where
    last : n ≡ place → set (replicate n (pos 0) ++ pos 0 ∷ []) place (pos 1) ≡ units_to (suc n) place
    last e =
        ap (λ (k : ℕ). set (replicate n (pos 0) ++ pos 0 ∷ []) k (pos 1)) (sym e ∙ sym (length-replicate n (pos 0)))
        ∙ set-append_seam (replicate n (pos 0)) (pos 0) [] (pos 1)
        ∙ ap (λ zs. zs ++ pos 1 ∷ []) (units-zero n place (omega (arith, e)))
        ∙ ap (λ b. units_to n place ++ (cond b (pos 1) (pos 0)) ∷ []) (sym (eq-eqb n place e))

    before : (place < n → set (replicate n (pos 0)) place (pos 1) ≡ units_to n place) → n ≢ place → set (replicate n (pos 0) ++ pos 0 ∷ []) place (pos 1) ≡ units_to (suc n) place
    before ih e =
        set-append_left (replicate n (pos 0)) (pos 0 ∷ []) place (pos 1) (let many : length (replicate n (pos 0)) ≡ n = length-replicate n (pos 0) in omega (arith, many, h, e))
        ∙ ap (λ zs. zs ++ pos 0 ∷ []) (ih (omega (arith, h, e)))
        ∙ ap (λ b. units_to n place ++ (cond b (pos 1) (pos 0)) ∷ []) (sym (ne_eqb n place e))

-- the same behind a line
pub line-one : (line : List ℤ) (n place : ℕ) → place < n → set (line ++ replicate n (pos 0)) (length line + place) (pos 1) ≡ line ++ units_to n place
line-one line n place h =
    set-append_right line (replicate n (pos 0)) (length line) (length line + place) (pos 1) refl (omega arith)
    ∙ (let e : length line + place - length line ≡ place = omega arith in ap (λ (k : ℕ). line ++ set (replicate n (pos 0)) k (pos 1)) e)
    ∙ ap (λ zs. line ++ zs) (units-one n place h)

-- what a list of zeros behind a line comes to, made to a length
pub line-zeros : (line made : List ℤ) (n all many : ℕ) → made ≡ line → all ≡ length line + n → many ≡ length line → take all made ++ replicate (all - many) (pos 0) ≡ line ++ replicate n (pos 0)
line-zeros line made n all many e f g =
    ap (λ zs. take all zs ++ replicate (all - many) (pos 0)) e
    ∙ ap (λ zs. zs ++ replicate (all - many) (pos 0)) (take_all all line (omega (arith, f)))
    ∙ (let h : all - many ≡ n = omega (arith, f, g) in ap (λ (k : ℕ). line ++ replicate k (pos 0)) h)
