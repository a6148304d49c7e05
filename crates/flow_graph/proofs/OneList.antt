-- A program has one list of groups: the group that is next is determined by the procedures that
-- have come.
use Rattle.std.proofs.Common.{◌≡◌, ◌<◌, ℕ, Bool, true, false, List, [], ◌∷◌, ◌++◌, length, inl, inr, ⊎_elim, refl, sym, subst, arith}
use Rattle.std.specs.Prelude.{IsTrue}
use Rattle.std.proofs.lemmas.Bool.{cases_lt}
use Rattle.syntax_tree.specs.declared.program.Program.{Program}
use Rattle.flow_graph.specs.declared.grouping.Group.{Group}
use Rattle.flow_graph.specs.Groups.{InOneGroup, Reaches, IsAscending, IsNext, AreGroupsAfter, AreGroups}
use Rattle.flow_graph.proofs.Members.{In, in_of, contains_of}

-- ---- lists in ascending order that have the same elements

heads_same : (x y : ℕ) (xs ys : List ℕ) → IsAscending (x ∷ xs) → IsAscending (y ∷ ys) → In (y ∷ ys) x → In (x ∷ xs) y → x ≡ y
heads_same x y xs ys a b (inl same) there = sym same
heads_same x y xs ys a b (inr later) (inl same) = same
heads_same x y xs ys a b (inr later) (inr more) =
    let above = b.0 x (contains_of ys x later) in
    let below = a.0 y (contains_of xs y more) in
    absurd (omega (arith, above, below))

-- an element of the rest of the one list is no head of the other
in_rest : (x y : ℕ) (xs ys : List ℕ) → IsAscending (x ∷ xs) → x ≡ y → (q : ℕ) → In xs q → In (y ∷ ys) q → In ys q
in_rest x y xs ys a same q there (inl head) = let above = a.0 q (contains_of xs q there) in absurd (omega (arith, above, same, head))
in_rest x y xs ys a same q there (inr rest) = rest

same_elements : (xs ys : List ℕ) → IsAscending xs → IsAscending ys → ((q : ℕ) → In xs q → In ys q) → ((q : ℕ) → In ys q → In xs q) → xs ≡ ys
same_elements [] [] a b f g = refl
same_elements [] (y ∷ ys) a b f g = absurd (g y (inl refl))
same_elements (x ∷ xs) [] a b f g = absurd (f x (inl refl))
same_elements (x ∷ xs) (y ∷ ys) a b f g =
    let same = heads_same x y xs ys a b (f x (inl refl)) (g y (inl refl)) in
    let rest = same_elements xs ys a.1 b.1 (λ q there. in_rest x y xs ys a same q there (f q (inr there))) (λ q there. in_rest y x ys xs b (sym same) q there (g q (inr there))) in
    λ i. same i ∷ rest i

tests_same : (b c : Bool) → (IsTrue b → IsTrue c) → (IsTrue c → IsTrue b) → b ≡ c
tests_same true true f g = refl
tests_same true false f g = sym (f refl)
tests_same false true f g = g refl
tests_same false false f g = refl

-- ---- the group that is next

not_before : (program : Program) (come : List ℕ) (one other : Group) (n : IsNext program come one) (m : IsNext program come other) → n.first < m.first → ⊥
not_before program come one other n m before = n.new (m.least n.first before n.ready)

firsts_same : (program : Program) (come : List ℕ) (one other : Group) (n : IsNext program come one) (m : IsNext program come other) → n.first ≡ m.first
firsts_same program come one other n m =
    ⊎_elim (λ before. absurd (not_before program come one other n m before))
    (λ least. ⊎_elim (λ before. absurd (not_before program come other one m n before)) (λ most. omega (arith, least, most)) (cases_lt m.first n.first))
    (cases_lt n.first m.first)

member : (program : Program) (come : List ℕ) (one other : Group) (n : IsNext program come one) (m : IsNext program come other) → n.first ≡ m.first
    → (q : ℕ) → In one.procs q → In other.procs q
member program come one other n m same q there =
    in_of other.procs q ((m.members q).1 (subst (λ (first : ℕ). (q < length program.procs) × InOneGroup program first q) same ((n.members q).0 (contains_of one.procs q there))))

repeats : (program : Program) (come : List ℕ) (one other : Group) (n : IsNext program come one) (m : IsNext program come other) → n.first ≡ m.first
    → IsTrue one.recursive → IsTrue other.recursive
repeats program come one other n m same is = m.recursive.1 (subst (λ (first : ℕ). Reaches program first first) same (n.recursive.0 is))

next_same : (program : Program) (come : List ℕ) (one other : Group) → IsNext program come one → IsNext program come other → one ≡ other
next_same program come one other n m =
    let same = firsts_same program come one other n m in
    let procs = same_elements one.procs other.procs n.in_order m.in_order (member program come one other n m same) (member program come other one m n (sym same)) in
    let recursive = tests_same one.recursive other.recursive (repeats program come one other n m same) (repeats program come other one m n (sym same)) in
    λ i. record { procs = procs i; recursive = recursive i }

-- ---- all of them

groups_same : (program : Program) (come : List ℕ) (one other : List Group) → AreGroupsAfter program come one → AreGroupsAfter program come other → one ≡ other
groups_same program come [] [] a b = refl
groups_same program come [] (group ∷ rest) a b = absurd (b.0.new (a b.0.first b.0.there))
groups_same program come (group ∷ rest) [] a b = absurd (a.0.new (b a.0.first a.0.there))
groups_same program come (group ∷ rest) (next ∷ more) a b =
    let same = next_same program come group next a.0 b.0 in
    let later = groups_same program (come ++ group.procs) rest more a.1 (subst (λ (g : Group). AreGroupsAfter program (come ++ g.procs) more) (sym same) b.1) in
    λ i. same i ∷ later i

pub groups_are_determined : (program : Program) (one other : List Group) → AreGroups program one → AreGroups program other → one ≡ other
groups_are_determined program one other a b = groups_same program [] one other a b
