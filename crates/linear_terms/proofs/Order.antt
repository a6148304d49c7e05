-- Only equal monomials tie in print order.
use Rattle.std.proofs.Common.{◌≡◌, ℕ, List, [], ◌∷◌, length, refl, sym, ap}
use Rattle.std.specs.declared.cmp.Ordering.{Ordering}
use Rattle.std.specs.declared.cmp.Ordering.TheVariants.{Less, Equal, Greater}
use Rattle.std.specs.Ordering.{nat_cmp, ordering_then}
use Rattle.std.specs.Cmp.Lexicographic.{slice_cmp}
use Rattle.std.proofs.lemmas.Cmp.{ranked}
use Rattle.linear_terms.specs.declared.col.Col.{Col}
use Rattle.linear_terms.specs.declared.col.Col.TheVariants.{At, Aux}
use Rattle.linear_terms.specs.Col.{col_cmp}
use Rattle.linear_terms.specs.Mono.{mono_cmp}

nat_tie : (a b : ℕ) → nat_cmp a b ≡ Equal → a ≡ b
nat_tie a b h = ranked a b Equal (sym h)

pub col_tie : (x y : Col) → col_cmp x y ≡ Equal → x ≡ y
col_tie (At a) (At b) h = ap At (nat_tie a b h)
col_tie (At a) (Aux b) h = cc
col_tie (Aux a) (At b) h = cc
col_tie (Aux a) (Aux b) h = ap Aux (nat_tie a b h)

then_tie : (o p : Ordering) → ordering_then o p ≡ Equal → (o ≡ Equal) × (p ≡ Equal)
then_tie Less p h = cc
then_tie Equal p h = (refl, h)
then_tie Greater p h = cc

cols_tie : (m n : List Col) → slice_cmp col_cmp m n ≡ Equal → m ≡ n
cols_tie [] [] h = refl
cols_tie [] (d ∷ n) h = cc
cols_tie (c ∷ m) [] h = cc
cols_tie (c ∷ m) (d ∷ n) h =
    let both = then_tie (col_cmp c d) (slice_cmp col_cmp m n) h in
    let first = col_tie c d both.0 in
    let others = cols_tie m n both.1 in
    λ i. first i ∷ others i

pub mono_tie : (m n : List Col) → mono_cmp m n ≡ Equal → m ≡ n
mono_tie m n h = cols_tie m n (then_tie (nat_cmp (length n) (length m)) (slice_cmp col_cmp m n) h).1
