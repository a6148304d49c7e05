-- The numbers of a relation, cut into those of the terms, those of the lower terms and that of 1.
use Rattle.std.proofs.Common.{◌≡◌, ℕ, zero, suc, ◌+◌, ◌-◌, List, [], ◌∷◌, ◌++◌, length, take, drop, refl, ap, ◌∙◌, arith, ℤ}
use Rattle.std.proofs.lemmas.List.{length-drop, length-take-le}
use Rattle.farkas_check.specs.Relations.{entry}
use Rattle.farkas_check.specs.declared.stratum.Relation.{Relation}
use Rattle.farkas_check.specs.declared.stratum.Tie.{Tie}
use Rattle.simplex.specs.Relations.{IsRelationWith}

last_one : (n : ℕ) (xs : List ℤ) → length xs ≡ n + 1 → take n xs ++ entry xs n ∷ [] ≡ xs
last_one n [] h = absurd (omega (arith, h))
last_one zero (x ∷ []) h = refl
last_one zero (x ∷ (y ∷ xs)) h = absurd (omega (arith, h))
last_one (suc n) (x ∷ xs) h = ap (λ (ys : List ℤ). x ∷ ys) (last_one n xs (omega (arith, h)))

parts : (m n : ℕ) (xs : List ℤ) → length xs ≡ m + n + 1 → take m xs ++ (take n (drop m xs) ++ entry xs (m + n) ∷ []) ≡ xs
parts zero n xs h = let e : 0 + n ≡ n = omega arith in ap (λ (k : ℕ). take n xs ++ entry xs k ∷ []) e ∙ last_one n xs (omega (arith, h))
parts (suc m) n [] h = absurd (omega (arith, h))
parts (suc m) n (x ∷ xs) h =
    let e : suc m + n ≡ suc (m + n) = omega arith in
    ap (λ (k : ℕ). (x ∷ take m xs) ++ (take n (drop m xs) ++ entry (x ∷ xs) k ∷ [])) e ∙ ap (λ (ys : List ℤ). x ∷ ys) (parts m n xs (omega (arith, h)))

pub relation_of_parts : (m n : ℕ) (numbers rest : List ℤ) (ties : List Tie) (made : Relation) → length numbers ≡ m + n + 1 → rest ≡ drop m numbers → made.a ≡ take m numbers → made.b ≡ take n rest → made.c ≡ entry numbers (m + n) → made.ties ≡ ties → IsRelationWith m n numbers ties made
relation_of_parts m n numbers rest ties made h behind e f g k = record {
  a = ap length e ∙ length-take-le m numbers (omega (arith, h));
  b = ap length second ∙ length-take-le n (drop m numbers) (let l : length (drop m numbers) ≡ length numbers - m = length-drop m numbers in omega (arith, h, l));
  is = ap (λ (xs : List ℤ). xs ++ (made.b ++ made.c ∷ [])) e ∙ ap (λ (xs : List ℤ). take m numbers ++ (xs ++ made.c ∷ [])) second ∙ ap (λ (z : ℤ). take m numbers ++ (take n (drop m numbers) ++ z ∷ [])) g ∙ parts m n numbers h;
  tied = k;
}
  where
    second : made.b ≡ take n (drop m numbers)
    second = f ∙ ap (λ (xs : List ℤ). take n xs) behind
