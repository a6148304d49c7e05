-- What `find` finds in a list.
use Rattle.std.proofs.Common.{◌≡◌, ℕ, zero, suc, slice_get, ◌<◌, ◌≤◌, Bool, true, false, cond, List, [], ◌∷◌, None, Some, find, refl, sym, ap, ◌∙◌, ◌⊎◌, inl, inr, ⊎_elim, arith}
use Rattle.std.specs.Prelude.{◌&&◌, nat_le}
use Rattle.std.specs.List.{list_all}
use Rattle.std.proofs.lemmas.Bool.{false≢true, leb-true}

-- x stands in the list
abbrev pub In : {X : Type 0} → X → List X → Type 0
In x [] = ⊥
In x (y ∷ ys) = (y ≡ x) ⊎ In x ys

pub In-slice_get : {X : Type 0} (xs : List X) (i : ℕ) (x : X) → slice_get xs i ≡ Some x → In x xs
In-slice_get [] i x e = cc
In-slice_get (y ∷ ys) zero x e = let same : y ≡ x = cc in inl same
In-slice_get (y ∷ ys) (suc i) x e = inr (In-slice_get ys i x e)

-- no element is followed by one with a greater measure
abbrev pub descends : {X : Type 0} → (X → ℕ) → List X → Bool
descends f [] = true
descends f (x ∷ xs) = list_all (λ y. nat_le (f y) (f x)) xs && descends f xs

pub and_parts : (a b : Bool) → a && b ≡ true → (a ≡ true) × (b ≡ true)
and_parts true b e = (refl, e)
and_parts false b e = absurd (false≢true e)

module _ {X : Type 0} (p : X → Bool) where
  found_step : (b : Bool) (x m : X) (xs : List X) → p x ≡ b → (find p xs ≡ Some m → p m ≡ true) → cond b (Some x) (find p xs) ≡ Some m → p m ≡ true
  found_step true x m xs e h found = let same : x ≡ m = cc in ap p (sym same) ∙ e
  found_step false x m xs e h found = h found

  -- what is found passes
  pub found_passes : (xs : List X) (m : X) → find p xs ≡ Some m → p m ≡ true
  found_passes [] m found = cc
  found_passes (x ∷ xs) m found = found_step (p x) x m xs refl (found_passes xs m) found

  missed_step : (b : Bool) (x m : X) (xs : List X) → p x ≡ b → (find p xs ≡ None → In m xs → p m ≡ false) → cond b (Some x) (find p xs) ≡ None → (x ≡ m) ⊎ In m xs → p m ≡ false
  missed_step true x m xs e h missed place = cc
  missed_step false x m xs e h missed place = ⊎_elim (λ same. ap p (sym same) ∙ e) (h missed) place

  -- where nothing is found, nothing passes
  pub missed_fails : (xs : List X) (m : X) → find p xs ≡ None → In m xs → p m ≡ false
  missed_fails [] m missed place = absurd place
  missed_fails (x ∷ xs) m missed place = missed_step (p x) x m xs refl (missed_fails xs m) missed place

  module _ (f : X → ℕ) where
    in_below : (xs : List X) (n : ℕ) (m : X) → list_all (λ y. nat_le (f y) n) xs ≡ true → In m xs → f m ≤ n
    in_below [] n m h place = absurd place
    in_below (x ∷ xs) n m h place =
        let parts = and_parts (nat_le (f x) n) (list_all (λ y. nat_le (f y) n) xs) h in
        ⊎_elim (λ same. let k : f x ≤ n = leb-true (f x) n parts.0 in let e : f x ≡ f m = ap f same in omega arith) (in_below xs n m parts.1) place

    longer_step : (b : Bool) (x m other : X) (xs : List X) → p x ≡ b → list_all (λ y. nat_le (f y) (f x)) xs ≡ true → (find p xs ≡ Some m → In other xs → p other ≡ false)
        → cond b (Some x) (find p xs) ≡ Some m → (x ≡ other) ⊎ In other xs → f m < f other → p other ≡ false
    longer_step true x m other xs e below h found place more =
        let same : x ≡ m = cc in
        let level : f x ≡ f m = ap f same in
        ⊎_elim (λ here. let k : f x ≡ f other = ap f here in absurd (omega arith)) (λ there. let k : f other ≤ f x = in_below xs (f x) other below there in absurd (omega arith)) place
    longer_step false x m other xs e below h found place more = ⊎_elim (λ same. ap p (sym same) ∙ e) (h found) place

    -- of a list that descends, nothing with a greater measure than what is found passes
    pub longer_fails : (xs : List X) (m other : X) → descends f xs ≡ true → find p xs ≡ Some m → In other xs → f m < f other → p other ≡ false
    longer_fails [] m other down found place more = absurd place
    longer_fails (x ∷ xs) m other down found place more =
        let parts = and_parts (list_all (λ y. nat_le (f y) (f x)) xs) (descends f xs) down in
        longer_step (p x) x m other xs refl parts.0 (λ found. λ place. longer_fails xs m other parts.1 found place more) found place more
