-- Lists that a loop over numbers makes.
use Rattle.std.proofs.Common.{◌≡◌, ℕ, ◌+◌, ◌-◌, ◌≤◌, List, [], ◌∷◌, ◌++◌, map, sym, ap, ◌∙◌, arith}
use Rattle.std.specs.List.{range_with_len}
use Rattle.std.proofs.lemmas.List.FromFn.{map-range_with_len_more}

-- one more behind those of k numbers from a on
pub counted_more : {X : Type 0} (f : ℕ → X) (a k n : ℕ) (made next : List X) (x : X) → a + k ≡ n → made ≡ map f (range_with_len a k) → x ≡ f n → next ≡ made ++ x ∷ [] → next ≡ map f (range_with_len a (k + 1))
counted_more f a k n made next x place e same pushed = pushed ∙ (λ i. e i ++ same i ∷ []) ∙ sym (map-range_with_len_more f a k n place)

-- the same where a loop runs from a to n
pub counted_from : {X : Type 0} (f : ℕ → X) (a n : ℕ) (made next : List X) (x : X) → a ≤ n → made ≡ map f (range_with_len a (n - a)) → x ≡ f n → next ≡ made ++ x ∷ [] → next ≡ map f (range_with_len a (n + 1 - a))
counted_from f a n made next x before e same pushed =
    let place : a + (n - a) ≡ n = omega arith in
    let longer : n - a + 1 ≡ n + 1 - a = omega arith in
    counted_more f a (n - a) n made next x place e same pushed ∙ ap (λ k. map f (range_with_len a k)) longer
