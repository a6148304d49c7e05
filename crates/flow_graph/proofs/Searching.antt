-- Where all numbers are done, their groups are the strong components.
use Rattle.std.proofs.Common.{inl, inr, ◌≡◌, ℕ, zero, suc, ◌+◌, ◌<◌, ◌≤◌, List, [], ◌∷◌, ◌++◌, length, map, get_or, refl, sym, ap, arith, ◌∙◌}
use Rattle.std.proofs.lemmas.Bool.{cases_lt, cases_eq}
use Rattle.std.proofs.lemmas.Grind.{common_steps}
use Rattle.std.proofs.lemmas.List.{get_or_past, length-map}
use Rattle.std.specs.List.{count_by}
use Rattle.flow_graph.specs.declared.components.NumberMark.{NumberMark}
use Rattle.flow_graph.specs.declared.components.NumberMark.TheVariants.{New, OnPath, Done}
use Rattle.flow_graph.specs.Reaching.{Calls, Leads}
use Rattle.flow_graph.specs.Components.{AreComponents, group_at}
use Rattle.flow_graph.specs.Search.{State, all_new, fresh, group_in, is_new, mark_of, AreDone, AreNumbers, AllReach, IsSound, Visited}
use Rattle.flow_graph.proofs.SearchMarks.{new_is_not_done, new_is_not_on_path}

mark_new : (n p : ℕ) → get_or (all_new n) p New ≡ New
mark_new zero p = refl
mark_new (suc n) zero = refl
mark_new (suc n) (suc p) = mark_new n p

pub length_new : (n : ℕ) → length (all_new n) ≡ n
length_new zero = refl
length_new (suc n) = ap suc (length_new n)

count_new : (n : ℕ) → count_by is_new (all_new n) ≡ n
count_new zero = refl
count_new (suc n) = grind (arith, common_steps, count_new n)

fresh_sound : (calls : List (List ℕ)) (n : ℕ) → IsSound calls (fresh n)
fresh_sound calls n = record {
  marked = record {
    placed = λ at l. absurd (omega (arith, l));
    stands = λ p at e. absurd (new_is_not_on_path at (sym (mark_new n p) ∙ e));
    begun = λ l. absurd (omega (arith, l));
    within = λ x c. absurd (omega (arith, c.1));
    ascending = λ i j l h. absurd (omega (arith, h));
  };
  reaches = λ at before l. absurd (omega (arith, l));
  closed = λ p q group e. absurd (new_is_not_done group (sym (mark_new n p) ∙ e));
  strong = λ p q group e. absurd (new_is_not_done group (sym (mark_new n p) ∙ e));
  counted = λ p group e. absurd (new_is_not_done group (sym (mark_new n p) ∙ e));
  some = λ group l. absurd (omega (arith, l));
  few = omega (arith, count_new n, length_new n);
}

pub none_done : (calls : List (List ℕ)) (n : ℕ) → n ≡ length calls → AreDone calls (fresh n) 0
none_done calls n e = record { sound = fresh_sound calls n; empty = refl; all = length_new n ∙ e; done = λ p l. absurd (omega (arith, l)) }

one_more_done : (s : State) (p k : ℕ) → p < k + 1 → ((i : ℕ) → i < k → (group : ℕ) × (mark_of s i ≡ Done group)) → (group : ℕ) × (mark_of s k ≡ Done group)
    → (group : ℕ) × (mark_of s p ≡ Done group)
one_more_done s p k l before now = elim (cases_eq p k) [
  | inl e ↦ (now.0, ap (mark_of s) e ∙ now.1)
  | inr ne ↦ before p (omega (arith, l, ne))
]

pub done_already : (calls : List (List ℕ)) (s : State) (k group : ℕ) → AreDone calls s k → mark_of s k ≡ Done group → AreDone calls s (k + 1)
done_already calls s k group d e = record {
  sound = d.sound;
  empty = d.empty;
  all = d.all;
  done = λ p l. one_more_done s p k l d.done (group, e);
}

pub none_on_path : (calls : List (List ℕ)) (s : State) (k p place : ℕ) → AreDone calls s k → mark_of s p ≡ OnPath place → ⊥
none_on_path calls s k p place d e = let st = d.sound.marked.stands p place e in omega (arith, st.0, d.empty)

pub all_reach_none : (calls : List (List ℕ)) (s : State) (k p : ℕ) → AreDone calls s k → AllReach calls s p
all_reach_none calls s k p d at l = absurd (omega (arith, l, d.empty))

no_path : (calls : List (List ℕ)) (s t : State) (k : ℕ) → AreDone calls s k → Visited calls s t k → length t.path ≡ 0
no_path calls s t k d v = elim (cases_lt 0 (length t.path)) [
  | inl some ↦ let c = v.follows.starts 0 (v.sound.marked.begun some) in let w = d.sound.marked.within 0 c in absurd (omega (arith, w, d.empty))
  | inr none ↦ omega (arith, none)
]

now_done : (calls : List (List ℕ)) (s t : State) (k : ℕ) → AreDone calls s k → Visited calls s t k → (group : ℕ) × (mark_of t k ≡ Done group)
now_done calls s t k d v = elim v.seen [
  | inl done ↦ done
  | inr later ↦ let st = v.sound.marked.stands k later.0 later.1 in absurd (omega (arith, st.0, no_path calls s t k d v))
]

pub done_by_visit : (calls : List (List ℕ)) (s t : State) (k : ℕ) → AreDone calls s k → Visited calls s t k → AreDone calls t (k + 1)
done_by_visit calls s t k d v = record {
  sound = v.sound;
  empty = no_path calls s t k d v;
  all = v.follows.all ∙ d.all;
  done = λ p l. one_more_done t p k l (λ i h. let old = d.done i h in (old.0, v.follows.done i old.0 old.1)) (now_done calls s t k d v);
}

-- ---- the components

group_is : (marks : List NumberMark) (p : ℕ) → get_or (map group_in marks) p 0 ≡ group_in (get_or marks p New)
group_is [] p = refl
group_is (m ∷ marks) zero = refl
group_is (m ∷ marks) (suc p) = group_is marks p

module _ (calls : List (List ℕ)) (s : State) (d : AreDone calls s (length calls)) (numbers : AreNumbers calls (length calls)) where
  done_in : (p : ℕ) → p < length calls → mark_of s p ≡ Done (group_at (map group_in s.marks) p)
  done_in p l = let done = d.done p l in done.1 ∙ ap Done (sym (group_is s.marks p ∙ ap group_in done.1))

  falls_at : (p q : ℕ) → p < length calls → Calls calls p q → group_at (map group_in s.marks) q ≤ group_at (map group_in s.marks) p
  falls_at p q l call =
      let to = d.sound.closed p q (group_at (map group_in s.marks) p) (done_in p l) call in
      omega (arith, group_is s.marks q ∙ ap group_in to.1, to.2)

  falls_over : (p q : ℕ) (over : List ℕ) → p < length calls → Leads calls p over q → group_at (map group_in s.marks) q ≤ group_at (map group_in s.marks) p
  falls_over p q [] l e = omega (arith, ap (group_at (map group_in s.marks)) e)
  falls_over p q (next ∷ over) l h =
      let one = falls_at p next l h.0 in
      let rest = falls_over next q over (numbers p next h.0) h.1 in
      omega (arith, one, rest)

  some_in : (group : ℕ) → group < s.groups → (p : ℕ) × (p < length calls) × (group_at (map group_in s.marks) p ≡ group)
  some_in group l = let old = d.sound.some group l in elim (cases_lt old.0 (length calls)) [
    | inl h ↦ (old.0, h, group_is s.marks old.0 ∙ ap group_in old.1)
    | inr ge ↦ absurd (new_is_not_done group (sym (get_or_past s.marks old.0 New (omega (arith, ge, d.all))) ∙ old.1))
  ]

  pub are_components : AreComponents calls (map group_in s.marks) s.groups
  are_components = record {
    all = length-map s.marks group_in ∙ d.all;
    within = λ p l. d.sound.counted p (group_at (map group_in s.marks) p) (done_in p l);
    one = λ p q l h. (
      (λ e. let there = done_in q h ∙ ap Done (sym e) in
          (d.sound.strong p q (group_at (map group_in s.marks) p) (done_in p l) there, d.sound.strong q p (group_at (map group_in s.marks) p) there (done_in p l))),
      (λ both. let a = falls_over p q both.0.over l both.0.leads in let b = falls_over q p both.1.over h both.1.leads in omega (arith, a, b)),
    );
    falls = falls_at;
    some = some_in;
  }

new_then : (n : ℕ) → all_new n ++ New ∷ [] ≡ all_new (suc n)
new_then zero = refl
new_then (suc n) = ap (λ (r : List NumberMark). New ∷ r) (new_then n)

pub new_more : (n : ℕ) → all_new n ++ New ∷ [] ≡ all_new (n + 1)
new_more n = let e : suc n ≡ n + 1 = omega arith in new_then n ∙ ap all_new e
