-- Marks differ by what they say.
use Rattle.std.proofs.Common.{◌≡◌, ℕ, ◌+◌, ◌<◌, Bool, true, false, List, [], ◌∷◌, length, get_or, set, ap, subst, arith, zero, suc}
use Rattle.std.proofs.lemmas.Grind.{common_steps}
use Rattle.std.specs.List.{count_by}
use Rattle.flow_graph.specs.declared.components.NumberMark.{NumberMark}
use Rattle.flow_graph.specs.declared.components.NumberMark.TheVariants.{New, OnPath, Done}
use Rattle.flow_graph.specs.Search.{is_new}

-- the number in a mark
place_in : NumberMark → ℕ
place_in New = 0
place_in (OnPath at) = at
place_in (Done group) = group

is_on_path : NumberMark → Bool
is_on_path New = false
is_on_path (OnPath at) = true
is_on_path (Done group) = false

abbrev IsTrueB : Bool → Type 0
IsTrueB true = Unit {0}
IsTrueB false = ⊥

pub same_place : (a b : ℕ) → OnPath a ≡ OnPath b → a ≡ b
unfolding place_in
same_place a b e = ap place_in e

pub same_group : (a b : ℕ) → Done a ≡ Done b → a ≡ b
unfolding place_in
same_group a b e = ap place_in e

pub new_is_not_on_path : (a : ℕ) → New ≡ OnPath a → ⊥
new_is_not_on_path a e = subst IsTrueB (ap is_new e) tt

pub new_is_not_done : (a : ℕ) → New ≡ Done a → ⊥
new_is_not_done a e = subst IsTrueB (ap is_new e) tt

pub on_path_is_not_done : (a b : ℕ) → OnPath a ≡ Done b → ⊥
unfolding is_on_path
on_path_is_not_done a b e = subst IsTrueB (ap is_on_path e) tt

-- a new number that is marked leaves one fewer
pub fewer_new : (marks : List NumberMark) (p : ℕ) (m : NumberMark) → p < length marks → get_or marks p New ≡ New → is_new m ≡ false
    → count_by is_new (set marks p m) + 1 ≡ count_by is_new marks
fewer_new [] p m l h n = grind (arith, common_steps)
fewer_new (x ∷ marks) zero m l h n = grind (arith, common_steps)
fewer_new (x ∷ marks) (suc p) m l h n = grind (arith, common_steps, fewer_new marks p m (omega arith) h n)
