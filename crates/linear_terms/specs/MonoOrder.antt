-- The laws of print order, which `Ord` of a monomial asks for.
use Rattle.std.specs.Prelude.{◌≡◌, List, length, refl}
use Rattle.std.specs.declared.cmp.Ordering.TheVariants.{Less, Equal}
use Rattle.std.specs.Ordering.{ordering_reverse}
use Rattle.std.specs.Cmp.{IsTotalOrder}
use Rattle.std.specs.Cmp.Lexicographic.{lists_total}
use Rattle.std.proofs.lemmas.Cmp.{nat_cmp_total, on_total, then_total, back_total}
use Rattle.linear_terms.specs.declared.col.Col.{Col}
use Rattle.linear_terms.specs.declared.col.Col.TheVariants.{At, Aux}
use Rattle.linear_terms.specs.Col.{col_cmp}
use Rattle.linear_terms.specs.Mono.{mono_cmp}

antisymm : (x y : Col) → col_cmp x y ≡ ordering_reverse (col_cmp y x)
antisymm (At a) (At b) = nat_cmp_total.antisymm a b
antisymm (At a) (Aux b) = refl
antisymm (Aux a) (At b) = refl
antisymm (Aux a) (Aux b) = nat_cmp_total.antisymm a b

trans : (x y z : Col) → col_cmp x y ≡ Less → col_cmp y z ≡ Less → col_cmp x z ≡ Less
trans (At a) (At b) (At c) h k = nat_cmp_total.trans a b c h k
trans (At a) (At b) (Aux c) h k = refl
trans (At a) (Aux b) (At c) h k = cc
trans (At a) (Aux b) (Aux c) h k = refl
trans (Aux a) (At b) z h k = cc
trans (Aux a) (Aux b) (At c) h k = cc
trans (Aux a) (Aux b) (Aux c) h k = nat_cmp_total.trans a b c h k

congr : (x y z : Col) → col_cmp x y ≡ Equal → col_cmp x z ≡ col_cmp y z
congr (At a) (At b) (At c) h = nat_cmp_total.congr a b c h
congr (At a) (At b) (Aux c) h = refl
congr (At a) (Aux b) z h = cc
congr (Aux a) (At b) z h = cc
congr (Aux a) (Aux b) (At c) h = refl
congr (Aux a) (Aux b) (Aux c) h = nat_cmp_total.congr a b c h

-- the order of columns is total
pub col_cmp_total : IsTotalOrder col_cmp
col_cmp_total = record { antisymm = antisymm; trans = trans; congr = congr }

-- print order is a total order of monomials
pub mono_cmp_total : IsTotalOrder mono_cmp
mono_cmp_total = then_total (back_total (on_total (λ (m : List Col). length m) nat_cmp_total))
    (lists_total col_cmp_total)
