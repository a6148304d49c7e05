-- A number put at the end of the path keeps what the search keeps.
use Rattle.std.proofs.Common.{inl, inr, ◌≡◌, ℕ, ◌<◌, List, [], ◌∷◌, ◌++◌, length, get_or, refl, sym, ap, subst, arith, ◌∙◌}
use Rattle.std.proofs.lemmas.Bool.{cases_lt, cases_eq}
use Rattle.std.proofs.lemmas.Grind.{common_steps}
use Rattle.std.proofs.lemmas.List.{get_or-set_same, get_or-set_other, length_push, length-set, get_or_default}
use Rattle.std.proofs.lemmas.List.Elements.{Contains-append_left, Contains-append_right, Contains-append_cases}
use Rattle.std.specs.List.{Contains}
use Rattle.flow_graph.specs.declared.components.NumberMark.{NumberMark}
use Rattle.flow_graph.specs.declared.components.NumberMark.TheVariants.{New, OnPath, Done}
use Rattle.flow_graph.specs.Reaching.{Reaches}
use Rattle.flow_graph.specs.Search.{State, after_entry, mark_of, on_path, IsMarked, IsSound, IsJoined}
use Rattle.flow_graph.proofs.SearchMarks.{same_place, new_is_not_on_path, new_is_not_done, on_path_is_not_done, fewer_new}
use Rattle.flow_graph.proofs.Chains.{reaches_self}

-- what stands at a place of a longer path
pub at_end : (xs : List ℕ) (y : ℕ) → get_or (xs ++ y ∷ []) (length xs) 0 ≡ y
at_end xs y = grind (arith, common_steps)

pub before_end : (xs : List ℕ) (y i : ℕ) → i < length xs → get_or (xs ++ y ∷ []) i 0 ≡ get_or xs i 0
before_end xs y i l = grind (arith, common_steps)

pub contains_end : (xs : List ℕ) (y : ℕ) → Contains (xs ++ y ∷ []) y
contains_end xs y = Contains-append_right xs (y ∷ []) y (0, omega arith, refl)

pub only_end : (y x : ℕ) → Contains (y ∷ []) x → x ≡ y
only_end y x h = let z : h.0 ≡ 0 = omega (arith, h.1) in sym (subst (λ (k : ℕ). get_or (y ∷ []) k x ≡ x) z h.2)

pub contains_at : (xs : List ℕ) (i : ℕ) → i < length xs → Contains xs (get_or xs i 0)
contains_at xs i l = (i, l, get_or_default xs i (get_or xs i 0) 0 l)

pub entered_marks : (s : State) (p : ℕ) → p < length s.marks → mark_of (after_entry s p) p ≡ OnPath (length s.path)
entered_marks s p l = get_or-set_same s.marks p (OnPath (length s.path)) New l

entered_others : (s : State) (p q : ℕ) → (q ≡ p → ⊥) → mark_of (after_entry s p) q ≡ mark_of s q
entered_others s p q ne = get_or-set_other s.marks p q (OnPath (length s.path)) New ne

-- where an old mark was not new, it stays
pub stays : (s : State) (p q : ℕ) (m : NumberMark) → mark_of s p ≡ New → mark_of s q ≡ m → (New ≡ m → ⊥) → mark_of (after_entry s p) q ≡ m
stays s p q m new is differ = entered_others s p q (λ e. differ (sym new ∙ subst (λ (x : ℕ). mark_of s x ≡ m) e is)) ∙ is

pub entered_follows : (s : State) (p : ℕ) → p < length s.marks → mark_of s p ≡ New
    → (at group : ℕ) → mark_of s at ≡ Done group → mark_of (after_entry s p) at ≡ Done group
entered_follows s p l new at group h = stays s p at (Done group) new h (new_is_not_done group)

entered_marked : (s : State) (p : ℕ) → p < length s.marks → mark_of s p ≡ New → IsMarked s → IsMarked (after_entry s p)
entered_marked s p l new m = record {
  placed = λ at h. elim (cases_lt at (length s.path)) [
    | inl lt ↦ ap (mark_of (after_entry s p)) (before_end s.path p at lt)
        ∙ stays s p (on_path s at) (OnPath at) new (m.placed at lt) (new_is_not_on_path at)
    | inr ge ↦ let e : at ≡ length s.path = grind (arith, common_steps) in
        ap (mark_of (after_entry s p)) (ap (on_path (after_entry s p)) e ∙ at_end s.path p) ∙ entered_marks s p l ∙ ap OnPath (sym e)
  ];
  stands = λ q at h. elim (cases_eq q p) [
    | inl e ↦ let n : length s.path ≡ at = same_place _ _ (sym (ap (mark_of (after_entry s p)) e ∙ entered_marks s p l) ∙ h) in
        (grind (arith, common_steps), ap (on_path (after_entry s p)) (sym n) ∙ at_end s.path p ∙ sym e)
    | inr ne ↦ let old = m.stands q at (sym (entered_others s p q ne) ∙ h) in
        (grind (arith, common_steps, old.0), before_end s.path p at old.0 ∙ old.1)
  ];
  begun = λ h. elim (cases_lt 0 (length s.path)) [
    | inl lt ↦ Contains-append_left s.starts _ 0 (m.begun lt)
    | inr ge ↦ let z : length s.path ≡ 0 = omega arith in subst (λ (x : ℕ). Contains (s.starts ++ length s.path ∷ []) x) z (contains_end s.starts (length s.path))
  ];
  within = λ b h. elim (Contains-append_cases s.starts (length s.path ∷ []) b h) [
    | inl c ↦ let w = m.within b c in grind (arith, common_steps, w)
    | inr c ↦ let e = only_end (length s.path) b c in grind (arith, common_steps, e)
  ];
  ascending = λ i j lt h. elim (cases_lt j (length s.starts)) [
    | inl old ↦ let a = m.ascending i j lt old in
        let x : get_or (s.starts ++ length s.path ∷ []) i 0 ≡ get_or s.starts i 0 = before_end s.starts (length s.path) i (omega arith) in
        rw (x, before_end s.starts (length s.path) j old) a
    | inr ge ↦ let e : j ≡ length s.starts = grind (arith, common_steps) in
        let i-in : i < length s.starts = omega arith in
        let x : get_or (s.starts ++ length s.path ∷ []) i 0 ≡ get_or s.starts i 0 = before_end s.starts (length s.path) i i-in in
        let y : get_or (s.starts ++ length s.path ∷ []) j 0 ≡ length s.path = ap (λ (k : ℕ). get_or (s.starts ++ length s.path ∷ []) k 0) e ∙ at_end s.starts (length s.path) in
        rw (x, y) (m.within (get_or s.starts i 0) (contains_at s.starts i i-in))
  ];
}

entered_reaches : (calls : List (List ℕ)) (s : State) (p : ℕ) → IsSound calls s
    → ((at : ℕ) → at < length s.path → Reaches calls (on_path s at) p)
    → (at before : ℕ) → at < length (after_entry s p).path → before < length (after_entry s p).path → IsJoined (after_entry s p) at before
    → Reaches calls (on_path (after_entry s p) at) (on_path (after_entry s p) before)
entered_reaches calls s p sound to at before la lb joined = elim (cases_lt at (length s.path)) [
  | inl lt ↦ elim (cases_lt before (length s.path)) [
    | inl lt2 ↦ rw (before_end s.path p at lt, before_end s.path p before lt2)
        (sound.reaches at before lt lt2 (λ b c. joined b (Contains-append_left s.starts _ b c)))
    | inr ge ↦ let e : before ≡ length s.path = grind (arith, common_steps) in
        rw (before_end s.path p at lt, ap (on_path (after_entry s p)) e ∙ at_end s.path p) (to at lt)
  ]
  | inr ge ↦ let e : at ≡ length s.path = grind (arith, common_steps) in
      elim (cases_lt before (length s.path)) [
        | inl lt2 ↦ absurd (joined (length s.path) (contains_end s.starts (length s.path)) lt2 (omega (arith, e)))
        | inr ge2 ↦ let f : before ≡ length s.path = grind (arith, common_steps) in
            rw (ap (on_path (after_entry s p)) e ∙ at_end s.path p, ap (on_path (after_entry s p)) f ∙ at_end s.path p) (reaches_self calls p)
      ]
]

-- a number that is done after the step was done before
was_done : (s : State) (p q group : ℕ) → p < length s.marks → mark_of (after_entry s p) q ≡ Done group → mark_of s q ≡ Done group
was_done s p q group l h = elim (cases_eq q p) [
  | inl e ↦ absurd (on_path_is_not_done _ _ (sym (ap (mark_of (after_entry s p)) e ∙ entered_marks s p l) ∙ h))
  | inr ne ↦ sym (entered_others s p q ne) ∙ h
]

pub entered_sound : (calls : List (List ℕ)) (s : State) (p : ℕ) → p < length s.marks → mark_of s p ≡ New → IsSound calls s
    → ((at : ℕ) → at < length s.path → Reaches calls (on_path s at) p) → IsSound calls (after_entry s p)
entered_sound calls s p l new sound to = record {
  marked = entered_marked s p l new sound.marked;
  reaches = entered_reaches calls s p sound to;
  closed = λ q r group h c. let old = sound.closed q r group (was_done s p q group l h) c in
      (old.0, stays s p r (Done old.0) new old.1 (new_is_not_done old.0), old.2);
  strong = λ q r group h k. sound.strong q r group (was_done s p q group l h) (was_done s p r group l k);
  counted = λ q group h. sound.counted q group (was_done s p q group l h);
  some = λ group h. let old = sound.some group h in (old.0, stays s p old.0 (Done group) new old.1 (new_is_not_done group));
  few = rw (length_push s.path p, length-set s.marks p (OnPath (length s.path)))
      (omega (arith, sound.few, fewer_new s.marks p (OnPath (length s.path)) l new refl));
}
