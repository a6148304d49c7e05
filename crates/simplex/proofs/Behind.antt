-- A loop that makes a list, one element more at a time.
use Rattle.std.proofs.Common.{◌≡◌, ℕ, ◌+◌, ◌<◌, ◌≤◌, List, [], ◌∷◌, ◌++◌, length, get_or, map, take, drop, refl, sym, ap, subst, ◌∙◌, arith, ⊎_elim, Result, Ok, Err, ℤ}
use Rattle.std.proofs.lemmas.Bool.{cases_lt}
use Rattle.std.proofs.Math.ListN.{set}
use Rattle.std.proofs.lemmas.List.{append_assoc, append-nil, get_or_push, drop_more, map_more, take_all, take_more_set, drop-set-lt}
use Rattle.items.specs.Gives.{◌>>=◌}
use Rattle.whole_numbers.specs.declared.wide.Wide as Step
use Rattle.simplex.specs.Exchange.{behind, sum_of_products, sum_of_lines}
use Rattle.simplex.proofs.RowTableaux.{at_front, long}

-- what is made and one element more, and what is left without it
pub behind-next : {X : Type 0} (front made : List X) (x : X) (first : Result X Step.Wide) (rest : Result (List X) Step.Wide) → made ≡ front ++ x ∷ [] → first ≡ Ok x
    → behind made rest ≡ behind front (first >>= λ z. rest >>= λ more. Ok (z ∷ more))
behind-next {X = X} front made x first rest e f =
    ap (λ ys. behind ys rest) e ∙ moved rest ∙ ap (λ r. behind front (r >>= λ z. rest >>= λ more. Ok (z ∷ more))) (sym f)
  where
    moved : (rest : Result (List X) Step.Wide) → behind (front ++ x ∷ []) rest ≡ behind front (rest >>= λ more. Ok (x ∷ more))
    moved (Ok more) = ap (λ ys. Ok ys) (append_assoc front (x ∷ []) more)
    moved (Err w) = refl

-- what holds of each of the first so many elements, and of one more
pub each-next : {X : Type 0} (P : ℕ → X → Type 0) (front made : List X) (x d : X) (n : ℕ) → length front ≡ n → ((j : ℕ) → j < n → P j (get_or front j d)) → made ≡ front ++ x ∷ [] → P n x
    → (length made ≡ n + 1) × ((j : ℕ) → j < n + 1 → P j (get_or made j d))
each-next {X = X} P front made x d n many each e here = (
  (let added : length (front ++ x ∷ []) ≡ length front + length (x ∷ []) = long front (x ∷ []) in let same = ap length e in omega (arith, many, added, same)),
  λ j h. subst (λ (ys : List X). P j (get_or ys j d)) (sym e) (⊎_elim (λ (a : j < n). before j a) (λ (b : n ≤ j). last j (omega (arith, h, b))) (cases_lt j n)),
)
  where
    before : (j : ℕ) → j < n → P j (get_or (front ++ x ∷ []) j d)
    before j a = subst (λ (y : X). P j y) (sym (at_front front (x ∷ []) d j (omega (arith, a, many)))) (each j a)

    last : (j : ℕ) → j ≡ n → P j (get_or (front ++ x ∷ []) j d)
    last j same = subst (λ (k : ℕ). P k (get_or (front ++ x ∷ []) k d)) (sym same) (subst (λ (y : X). P n y) (sym (get_or_push front x d n many)) here)

-- the element at an index stands before what is left behind it
pub at_index : {X : Type 0} (xs : List X) (i : ℕ) (x : X) → i < length xs → x ≡ get_or xs i x → drop i xs ≡ x ∷ drop (i + 1) xs
at_index xs i x h e = drop_more xs i x h ∙ ap (λ y. y ∷ drop (i + 1) xs) (sym e)

-- a list that is made by a function of each element
pub mapped-next : {X Y : Type 0} (f : X → Y) (xs : List X) (made more : List Y) (i : ℕ) (d : X) → i < length xs → made ≡ map f (take i xs) → more ≡ made ++ f (get_or xs i d) ∷ [] → more ≡ map f (take (i + 1) xs)
mapped-next f xs made more i d h e g = g ∙ ap (λ ys. ys ++ f (get_or xs i d) ∷ []) e ∙ sym (map_more f xs i d h)

-- ---- a list that is made in its place

-- the first so many are made, and one more
pub place-next : {X : Type 0} (made new : List X) (i : ℕ) (x : X) (first : Result X Step.Wide) (rest : Result (List X) Step.Wide) → i < length made → new ≡ set made i x → first ≡ Ok x
    → behind (take (i + 1) new) rest ≡ behind (take i made) (first >>= λ z. rest >>= λ more. Ok (z ∷ more))
place-next made new i x first rest h e f = behind-next (take i made) (take (i + 1) new) x first rest (ap (take (i + 1)) e ∙ take_more_set made i x h) f

-- all are made
pub all-made : {X : Type 0} (made : List X) (i : ℕ) → length made ≤ i → behind (take i made) (Ok []) ≡ Ok made
all-made made i h = ap (λ xs. Ok xs) (ap (λ xs. xs ++ []) (take_all i made h) ∙ append-nil made)

-- a multiple of a line and of another, made in the place of the first: one number more
pub sum-next : (p q : ℤ) (pivot made new : List ℤ) (i : ℕ) (a b z : ℤ) (all : Result (List ℤ) Step.Wide) → i < length made → i < length pivot → a ≡ get_or made i a → b ≡ get_or pivot i b → sum_of_products p a q b ≡ Ok z → new ≡ set made i z
    → behind (take i made) (sum_of_lines p (drop i made) q (drop i pivot)) ≡ all → behind (take (i + 1) new) (sum_of_lines p (drop (i + 1) new) q (drop (i + 1) pivot)) ≡ all
sum-next p q pivot made new i a b z all h g e f first is known =
    ap (λ zs. behind (take (i + 1) new) (sum_of_lines p zs q (drop (i + 1) pivot))) (ap (drop (i + 1)) is ∙ drop-set-lt (i + 1) made i z (omega arith))
    ∙ place-next made new i z (sum_of_products p a q b) (sum_of_lines p (drop (i + 1) made) q (drop (i + 1) pivot)) h is first
    ∙ ap (λ zs. behind (take i made) (sum_of_lines p (a ∷ drop (i + 1) made) q zs)) (sym (at_index pivot i b g f))
    ∙ ap (λ zs. behind (take i made) (sum_of_lines p zs q (drop i pivot))) (sym (at_index made i a h e)) ∙ known

-- the number that fails
pub sum-fails : (p q : ℤ) (pivot made : List ℤ) (i : ℕ) (a b : ℤ) (w : Step.Wide) (all : Result (List ℤ) Step.Wide) → i < length made → i < length pivot → a ≡ get_or made i a → b ≡ get_or pivot i b → sum_of_products p a q b ≡ Err w
    → behind (take i made) (sum_of_lines p (drop i made) q (drop i pivot)) ≡ all → all ≡ Err w
sum-fails p q pivot made i a b w all h g e f failed known =
    sym known
    ∙ ap (λ zs. behind (take i made) (sum_of_lines p zs q (drop i pivot))) (at_index made i a h e)
    ∙ ap (λ zs. behind (take i made) (sum_of_lines p (a ∷ drop (i + 1) made) q zs)) (at_index pivot i b g f)
    ∙ ap (λ r. behind (take i made) (r >>= λ z. sum_of_lines p (drop (i + 1) made) q (drop (i + 1) pivot) >>= λ more. Ok (z ∷ more))) failed
