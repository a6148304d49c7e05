-- The last group of the path that is done keeps what the search keeps.
use Rattle.std.proofs.Common.{inl, inr, ◌⊎◌, ◌≡◌, ℕ, ◌+◌, ◌-◌, ◌<◌, ◌≤◌, List, [], ◌∷◌, length, get_or, set, take, map, refl, sym, ap, subst, arith, ◌∙◌, zero, suc}
use Rattle.std.proofs.lemmas.Bool.{cases_lt, cases_eq}
use Rattle.std.proofs.lemmas.Grind.{common_steps}
use Rattle.std.proofs.lemmas.List.{get_or_past, length-take-le, length-map}
use Rattle.std.specs.List.{Contains, count_by}
use Rattle.flow_graph.specs.declared.components.NumberMark.{NumberMark}
use Rattle.flow_graph.specs.declared.components.NumberMark.TheVariants.{New, OnPath, Done}
use Rattle.flow_graph.specs.Reaching.{Calls, Reaches}
use Rattle.flow_graph.specs.Search.{State, mark_of, on_path, after_leaving, left_mark, last_start, is_new, IsMarked, IsSound, IsJoined, IsSettled, AreLow, AreSettled}
use Rattle.flow_graph.proofs.Joins.{init, init_ascending, init_less, into_init}
use Rattle.flow_graph.proofs.Entering.{contains_at}
use Rattle.flow_graph.proofs.SearchMarks.{same_group, new_is_not_on_path, new_is_not_done, on_path_is_not_done}

-- ---- marks

left_here : (at end groups place : ℕ) → at ≤ place → place < end → left_mark at end groups (OnPath place) ≡ Done groups
left_here at end groups place l h = grind (arith, common_steps)

left_before : (at end groups place : ℕ) → place < at → left_mark at end groups (OnPath place) ≡ OnPath place
left_before at end groups place l = grind (arith, common_steps)

-- the mark of a number in a changed list of marks
changed : (at end groups : ℕ) (marks : List NumberMark) (p : ℕ) → get_or (map (left_mark at end groups) marks) p New ≡ left_mark at end groups (get_or marks p New)
changed at end groups [] p = refl
changed at end groups (m ∷ marks) zero = refl
changed at end groups (m ∷ marks) (suc p) = changed at end groups marks p

-- a mark that is one of the path behind `at` changes, and no other
still_new : (at end groups : ℕ) (m : NumberMark) → is_new (left_mark at end groups m) ≡ is_new m
still_new at end groups New = refl
still_new at end groups (OnPath place) = grind (arith, common_steps)
still_new at end groups (Done g) = refl

pub as_many_new : (at end groups : ℕ) (marks : List NumberMark) → count_by is_new (map (left_mark at end groups) marks) ≡ count_by is_new marks
as_many_new at end groups [] = refl
as_many_new at end groups (m ∷ marks) = grind (arith, common_steps, as_many_new at end groups marks, still_new at end groups m)

-- what the mark of a number was before
left_new : (s : State) (at p : ℕ) → mark_of s p ≡ New → mark_of (after_leaving s at) p ≡ New
left_new s at p h = changed at (length s.path) s.groups s.marks p ∙ ap (left_mark at (length s.path) s.groups) h

pub left_done : (s : State) (at p group : ℕ) → mark_of s p ≡ Done group → mark_of (after_leaving s at) p ≡ Done group
left_done s at p group h = changed at (length s.path) s.groups s.marks p ∙ ap (left_mark at (length s.path) s.groups) h

pub left_kept : (s : State) (at p place : ℕ) → mark_of s p ≡ OnPath place → place < at → mark_of (after_leaving s at) p ≡ OnPath place
left_kept s at p place h l =
    changed at (length s.path) s.groups s.marks p ∙ ap (left_mark at (length s.path) s.groups) h ∙ left_before at (length s.path) s.groups place l

pub left_ended : (s : State) (at p place : ℕ) → IsMarked s → mark_of s p ≡ OnPath place → at ≤ place → mark_of (after_leaving s at) p ≡ Done s.groups
left_ended s at p place m h l =
    changed at (length s.path) s.groups s.marks p ∙ ap (left_mark at (length s.path) s.groups) h
    ∙ left_here at (length s.path) s.groups place l (m.stands p place h).0

-- what the mark of a number was before, where it is one of the path, or done
left_behind : (at end groups place : ℕ) → end ≤ place → left_mark at end groups (OnPath place) ≡ OnPath place
left_behind at end groups place l = grind (arith, common_steps)

on_before : (at end groups : ℕ) (m : NumberMark) (place : ℕ) → left_mark at end groups m ≡ OnPath place → m ≡ OnPath place
on_before at end groups New place e = absurd (new_is_not_on_path _ e)
on_before at end groups (OnPath old) place e = elim (cases_lt old at) [
  | inl l ↦ sym (left_before at end groups old l) ∙ e
  | inr ge ↦ elim (cases_lt old end) [
    | inl h ↦ absurd (on_path_is_not_done _ _ (sym e ∙ left_here at end groups old (omega (arith, ge)) h))
    | inr out ↦ sym (left_behind at end groups old (omega (arith, out))) ∙ e
  ]
]
on_before at end groups (Done g) place e = absurd (on_path_is_not_done _ _ (sym e))

abbrev Ended : ℕ → ℕ → NumberMark → ℕ → Type 0
Ended at groups m group = (place : ℕ) × (m ≡ OnPath place) × (at ≤ place) × (group ≡ groups)

done_before : (at end groups : ℕ) (m : NumberMark) (group : ℕ) → left_mark at end groups m ≡ Done group → (m ≡ Done group) ⊎ Ended at groups m group
done_before at end groups New group e = absurd (new_is_not_done _ e)
done_before at end groups (OnPath old) group e = elim (cases_lt old at) [
  | inl l ↦ absurd (on_path_is_not_done _ _ (sym (left_before at end groups old l) ∙ e))
  | inr ge ↦ elim (cases_lt old end) [
    | inl h ↦ inr (old, refl, omega (arith, ge), same_group _ _ (sym e ∙ left_here at end groups old (omega (arith, ge)) h))
    | inr out ↦ absurd (on_path_is_not_done _ _ (sym (left_behind at end groups old (omega (arith, out))) ∙ e))
  ]
]
done_before at end groups (Done g) group e = inl e

was_on : (s : State) (at p place : ℕ) → mark_of (after_leaving s at) p ≡ OnPath place → mark_of s p ≡ OnPath place
was_on s at p place e = on_before at (length s.path) s.groups (mark_of s p) place (sym (changed at (length s.path) s.groups s.marks p) ∙ e)

was_done : (s : State) (at p group : ℕ) → mark_of (after_leaving s at) p ≡ Done group → (mark_of s p ≡ Done group) ⊎ Ended at s.groups (mark_of s p) group
was_done s at p group e = done_before at (length s.path) s.groups (mark_of s p) group (sym (changed at (length s.path) s.groups s.marks p) ∙ e)

-- ---- the state

pub path_kept : (s : State) (at i : ℕ) → at < length s.path → i < at → on_path (after_leaving s at) i ≡ on_path s i
path_kept s at i l h = grind (arith, common_steps)

pub path_length : (s : State) (at : ℕ) → at < length s.path → length (take at s.path) ≡ at
path_length s at l = length-take-le at s.path (omega (arith, l))

pub left_length : (s : State) (at : ℕ) → length (after_leaving s at).marks ≡ length s.marks
left_length s at = length-map s.marks (left_mark at (length s.path) s.groups)

pub last_there : (s : State) (at : ℕ) → 0 < length s.starts → last_start s ≡ at → Contains s.starts at
last_there s at l e = subst (Contains s.starts) e (contains_at s.starts (length s.starts - 1) (omega (arith, l)))

module _ (calls : List (List ℕ)) (s : State) (at : ℕ) (sound : IsSound calls s) (within : at < length s.path) (low : AreLow s at)
    (last : last_start s ≡ at) (settled : AreSettled calls s at) where
  some : 0 < length s.starts
  some = let b = sound.marked.begun (omega (arith, within)) in omega (arith, b.1)

  here : Contains s.starts at
  here = last_there s at some last

  in_front : (x : ℕ) → Contains s.starts x → x < at → Contains (init s.starts) x
  in_front x c l = into_init s.starts x c (λ e. omega (arith, l, e, last))

  left_marked : IsMarked (after_leaving s at)
  left_marked = record {
    placed = λ i h. let l : i < at = omega (arith, h, path_length s at within) in
        ap (mark_of (after_leaving s at)) (path_kept s at i within l) ∙ left_kept s at (on_path s i) i (sound.marked.placed i (omega (arith, l, within))) l;
    stands = λ p i e. let old = was_on s at p i e in let st = sound.marked.stands p i old in
        elim (cases_lt i at) [
          | inl l ↦ (omega (arith, l, path_length s at within), path_kept s at i within l ∙ st.1)
          | inr ge ↦ absurd (on_path_is_not_done _ _ (sym e ∙ left_ended s at p i sound.marked old (omega (arith, ge))))
        ];
    begun = λ h. let l : 0 < at = omega (arith, h, path_length s at within) in in_front 0 (sound.marked.begun (omega (arith, within))) l;
    within = λ b c. let l = init_less s.starts b sound.marked.ascending c in omega (arith, l, last, path_length s at within);
    ascending = init_ascending s.starts sound.marked.ascending;
  }

  left_reaches : (i before : ℕ) → i < length (after_leaving s at).path → before < length (after_leaving s at).path → IsJoined (after_leaving s at) i before
      → Reaches calls (on_path (after_leaving s at) i) (on_path (after_leaving s at) before)
  left_reaches i before li lb joined =
      let a : i < at = omega (arith, li, path_length s at within) in
      let b : before < at = omega (arith, lb, path_length s at within) in
      rw (path_kept s at i within a, path_kept s at before within b)
      (sound.reaches i before (omega (arith, a, within)) (omega (arith, b, within)) (λ x c l u. joined x (in_front x c (omega (arith, u, a))) l u))

  ended_call : (p q place : ℕ) → mark_of s p ≡ OnPath place → at ≤ place → IsSettled s place q
      → (other : ℕ) × (mark_of (after_leaving s at) q ≡ Done other) × (other ≤ s.groups)
  ended_call p q place on l (inl done) = (done.0, left_done s at q done.0 done.1, let c = sound.counted q done.0 done.1 in omega (arith, c))
  ended_call p q place on l (inr later) = elim (cases_lt later.place at) [
    | inl early ↦ absurd (later.joined at here early l)
    | inr ge ↦ (s.groups, left_ended s at q later.place sound.marked later.marked (omega (arith, ge)), omega arith)
  ]

  left_closed : (p q group : ℕ) → mark_of (after_leaving s at) p ≡ Done group → Calls calls p q
      → (other : ℕ) × (mark_of (after_leaving s at) q ≡ Done other) × (other ≤ group)
  left_closed p q group e call = elim (was_done s at p group e) [
    | inl done ↦ let old = sound.closed p q group done call in (old.0, left_done s at q old.0 old.1, old.2)
    | inr ended ↦ let st = sound.marked.stands p ended.0 ended.1 in
        let to = ended_call p q ended.0 ended.1 ended.2 (settled ended.0 q ended.2 st.0 (subst (λ (x : ℕ). Calls calls x q) (sym st.1) call)) in
        (to.0, to.1, omega (arith, to.2, ended.3))
  ]

  early : (p group : ℕ) → mark_of s p ≡ Done group → group ≡ s.groups → ⊥
  early p group e same = let c = sound.counted p group e in omega (arith, c, same)

  left_strong : (p q group : ℕ) → mark_of (after_leaving s at) p ≡ Done group → mark_of (after_leaving s at) q ≡ Done group → Reaches calls p q
  left_strong p q group e f = elim (was_done s at p group e) [
    | inl one ↦ elim (was_done s at q group f) [
      | inl other ↦ sound.strong p q group one other
      | inr ended ↦ absurd (early p group one ended.3)
    ]
    | inr ended ↦ elim (was_done s at q group f) [
      | inl other ↦ absurd (early q group other ended.3)
      | inr more ↦ let a = sound.marked.stands p ended.0 ended.1 in let b = sound.marked.stands q more.0 more.1 in
          subst (λ (x : ℕ). Reaches calls x q) a.1 (subst (λ (x : ℕ). Reaches calls (on_path s ended.0) x) b.1
          (sound.reaches ended.0 more.0 a.0 b.0 (λ x c l u. let w = low x c in absurd (omega (arith, w, l, more.2)))))
    ]
  ]

  left_counted : (p group : ℕ) → mark_of (after_leaving s at) p ≡ Done group → group < s.groups + 1
  left_counted p group e = elim (was_done s at p group e) [
    | inl done ↦ let c = sound.counted p group done in omega (arith, c)
    | inr ended ↦ omega (arith, ended.3)
  ]

  left_some : (group : ℕ) → group < s.groups + 1 → (p : ℕ) × (mark_of (after_leaving s at) p ≡ Done group)
  left_some group l = elim (cases_eq group s.groups) [
    | inl e ↦ (on_path s at, left_ended s at (on_path s at) at sound.marked (sound.marked.placed at within) (omega arith) ∙ ap Done (sym e))
    | inr ne ↦ let old = sound.some group (omega (arith, l, ne)) in (old.0, left_done s at old.0 group old.1)
  ]

  pub left_sound : IsSound calls (after_leaving s at)
  left_sound = record {
    marked = left_marked;
    reaches = left_reaches;
    closed = left_closed;
    strong = left_strong;
    counted = left_counted;
    some = left_some;
    few = let n = as_many_new at (length s.path) s.groups s.marks in let m = path_length s at within in
        let k = length-map s.marks (left_mark at (length s.path) s.groups) in
        omega (arith, sound.few, n, m, k, within);
  }

-- ---- the marks, one after the other

map_same : (f g : NumberMark → NumberMark) (marks : List NumberMark) → ((q : ℕ) → q < length marks → f (get_or marks q New) ≡ g (get_or marks q New)) → map f marks ≡ map g marks
map_same f g [] h = refl
map_same f g (m ∷ marks) h = (λ i. h 0 (omega arith) i ∷ map_same f g marks (λ q l. h (suc q) (omega (arith, l))) i)

set_same : (f g : NumberMark → NumberMark) (marks : List NumberMark) (p : ℕ) → p < length marks
    → ((q : ℕ) → q < length marks → (q ≡ p → ⊥) → f (get_or marks q New) ≡ g (get_or marks q New))
    → set (map f marks) p (g (get_or marks p New)) ≡ map g marks
set_same f g [] p l h = absurd (omega (arith, l))
set_same f g (m ∷ marks) zero l h = ap (λ (r : List NumberMark). g m ∷ r) (map_same f g marks (λ q k. h (suc q) (omega (arith, k)) (λ e. omega (arith, e))))
set_same f g (m ∷ marks) (suc p) l h =
    (λ i. h 0 (omega arith) (λ e. omega (arith, e)) i ∷ set_same f g marks p (omega (arith, l)) (λ q k ne. h (suc q) (omega (arith, k)) (λ e. ne (omega (arith, e)))) i)

-- one place more of the path
differs_at : (at k groups : ℕ) (m : NumberMark) → (m ≡ OnPath k → ⊥) → left_mark at k groups m ≡ left_mark at (k + 1) groups m
differs_at at k groups New ne = refl
differs_at at k groups (OnPath place) ne = elim (cases_eq place k) [
  | inl e ↦ absurd (ne (ap OnPath e))
  | inr other ↦ grind (arith, common_steps, other)
]
differs_at at k groups (Done g) ne = refl

pub place_within : (s : State) (i : ℕ) → IsMarked s → i < length s.path → on_path s i < length s.marks
place_within s i m l = elim (cases_lt (on_path s i) (length s.marks)) [
  | inl h ↦ h
  | inr ge ↦ absurd (new_is_not_on_path i (sym (get_or_past s.marks (on_path s i) New (omega (arith, ge))) ∙ m.placed i l))
]

pub one_more : (s : State) (at k : ℕ) → IsMarked s → at ≤ k → k < length s.path
    → set (map (left_mark at k s.groups) s.marks) (on_path s k) (Done s.groups) ≡ map (left_mark at (k + 1) s.groups) s.marks
one_more s at k m l h =
    let there : left_mark at (k + 1) s.groups (mark_of s (on_path s k)) ≡ Done s.groups =
    ap (left_mark at (k + 1) s.groups) (m.placed k h) ∙ left_here at (k + 1) s.groups k l (omega arith) in
    ap (set (map (left_mark at k s.groups) s.marks) (on_path s k)) (sym there)
    ∙ set_same (left_mark at k s.groups) (left_mark at (k + 1) s.groups) s.marks (on_path s k) (place_within s k m h)
    (λ q w ne. differs_at at k s.groups (mark_of s q) (λ on. ne (sym (m.stands q k on).1)))

same_mark : (at groups : ℕ) (m : NumberMark) → left_mark at at groups m ≡ m
same_mark at groups New = refl
same_mark at groups (OnPath place) = grind (arith, common_steps)
same_mark at groups (Done g) = refl

pub none_yet : (at groups : ℕ) (marks : List NumberMark) → map (left_mark at at groups) marks ≡ marks
none_yet at groups [] = refl
none_yet at groups (m ∷ marks) = (λ i. same_mark at groups m i ∷ none_yet at groups marks i)
