-- What a search from a number has kept behind some of its calls.
use Rattle.std.proofs.Common.{inl, inr, ◌≡◌, ℕ, ◌+◌, ◌-◌, ◌<◌, ◌≤◌, List, [], ◌∷◌, length, get_or, refl, sym, ap, subst, arith, ◌∙◌}
use Rattle.std.proofs.lemmas.Bool.{cases_lt, cases_eq}
use Rattle.std.proofs.lemmas.List.{get_or_default, length_push, length-set}
use Rattle.std.proofs.lemmas.List.Elements.{Contains-append_cases}
use Rattle.std.specs.List.{Contains, count_by}
use Rattle.flow_graph.specs.declared.components.NumberMark.{NumberMark}
use Rattle.flow_graph.specs.declared.components.NumberMark.TheVariants.{New, OnPath, Done}
use Rattle.flow_graph.specs.Reaching.{Calls, Reaches, callees_of}
use Rattle.flow_graph.specs.Search.{State, after_entry, after_leaving, mark_of, on_path, with_starts, last_start, is_new, IsMarked, IsSound, Follows, IsCut, IsSettled, AreLow, AreNumbers, AreSettled, AllReach, Visited}
use Rattle.flow_graph.proofs.Chains.{reaches_then, reaches_call}
use Rattle.flow_graph.proofs.Entering.{at_end, before_end, contains_at, entered_marks, entered_sound, only_end, stays}
use Rattle.flow_graph.proofs.Joins.{init_less, from_init, at_most_last}
use Rattle.flow_graph.proofs.Joining.{joined_sound, joined_follows, joined_settles, settled_follows, follows_self, follows_then}
use Rattle.flow_graph.proofs.Leaving.{as_many_new, left_done, left_ended, left_kept, left_length, left_sound, path_kept, path_length}
use Rattle.flow_graph.proofs.SearchMarks.{fewer_new, new_is_not_done, new_is_not_on_path}

pub record IsOpen (calls : List (List ℕ)) (old s : State) (p k : ℕ) : Type 0 where
  pub sound : IsSound calls s
  pub follows : Follows (after_entry old p) s
  pub low : AreLow s (length old.path)
  pub behind : AreSettled calls s (length old.path + 1)
  pub own : (i : ℕ) → i < k → IsSettled s (length old.path) (get_or (callees_of calls p) i 0)

pub opened : (calls : List (List ℕ)) (old : State) (p : ℕ) → IsSound calls old → mark_of old p ≡ New → p < length old.marks → AllReach calls old p
    → IsOpen calls old (after_entry old p) p 0
opened calls old p sound new there to = record {
  sound = entered_sound calls old p there new sound to;
  follows = follows_self (after_entry old p);
  low = λ x c. elim (Contains-append_cases old.starts (length old.path ∷ []) x c) [
    | inl before ↦ let w = sound.marked.within x before in omega (arith, w)
    | inr now ↦ let e = only_end (length old.path) x now in omega (arith, e)
  ];
  behind = λ at q from here call. absurd (omega (arith, from, here, length_push old.path p));
  own = λ i l. absurd (omega (arith, l));
}

-- the number that is searched from stands where the path ended
module _ (calls : List (List ℕ)) (old s : State) (p k : ℕ) (opens : IsOpen calls old s p k) where
  own_place : length old.path < length s.path
  own_place = let l = opens.follows.longer in omega (arith, l, length_push old.path p)

  own_number : on_path s (length old.path) ≡ p
  own_number = opens.follows.same (length old.path) (omega (arith, length_push old.path p)) ∙ at_end old.path p

  all_reach : (q : ℕ) → Calls calls p q → AllReach calls s q
  all_reach q call at l = reaches_then calls _ p q
      (subst (Reaches calls (on_path s at)) own_number
      (opens.sound.reaches at (length old.path) l own_place (λ x c h u. let w = opens.low x c in absurd (omega (arith, w, h)))))
      (reaches_call calls p q call)

settled_more : (calls : List (List ℕ)) (s t : State) (from : ℕ) → Follows s t → AreSettled calls s from → AreSettled calls t (length s.path) → AreSettled calls t from
settled_more calls s t from f before behind at q l h call = elim (cases_lt at (length s.path)) [
  | inl there ↦ settled_follows s t at q f (before at q l there (subst (λ (x : ℕ). Calls calls x q) (f.same at there) call))
  | inr ge ↦ behind at q (omega (arith, ge)) h call
]

-- one call more
open_more : (calls : List (List ℕ)) (old s t : State) (p k : ℕ) → IsOpen calls old s p k → Follows s t → IsSound calls t → AreSettled calls t (length s.path)
    → IsSettled t (length old.path) (get_or (callees_of calls p) k 0) → IsOpen calls old t p (k + 1)
open_more calls old s t p k opens f sound behind now = record {
  sound = sound;
  follows = follows_then (after_entry old p) s t opens.follows f;
  low = λ x c. opens.low x (f.starts x c);
  behind = settled_more calls s t (length old.path + 1) f opens.behind behind;
  own = λ i l. elim (cases_eq i k) [
    | inl e ↦ subst (λ (x : ℕ). IsSettled t (length old.path) (get_or (callees_of calls p) x 0)) (sym e) now
    | inr ne ↦ settled_follows s t (length old.path) (get_or (callees_of calls p) i 0) f (opens.own i (omega (arith, l, ne)))
  ];
}

none_behind : (calls : List (List ℕ)) (s t : State) → length t.path ≤ length s.path → AreSettled calls t (length s.path)
none_behind calls s t short at q from here call = absurd (omega (arith, from, here, short))

pub after_done : (calls : List (List ℕ)) (old s : State) (p k q group : ℕ) → IsOpen calls old s p k → get_or (callees_of calls p) k 0 ≡ q → mark_of s q ≡ Done group
    → IsOpen calls old s p (k + 1)
after_done calls old s p k q group opens is done =
    open_more calls old s s p k opens (follows_self s) opens.sound (none_behind calls s s (omega arith))
    (inl (group, ap (mark_of s) is ∙ done))

pub after_join : (calls : List (List ℕ)) (old s : State) (starts : List ℕ) (p k q place : ℕ) → IsOpen calls old s p k → k < length (callees_of calls p)
    → get_or (callees_of calls p) k 0 ≡ q → mark_of s q ≡ OnPath place → IsCut s.starts starts place → IsOpen calls old (with_starts s starts) p (k + 1)
after_join calls old s starts p k q place opens l is mark cut =
    let call : Calls calls p q = (k, l, get_or_default (callees_of calls p) k q 0 l ∙ is) in
    let call-here : Calls calls (on_path s (length old.path)) q = subst (λ (x : ℕ). Calls calls x q) (sym (own_number calls old s p k opens)) call in
    open_more calls old s (with_starts s starts) p k opens (joined_follows s starts place cut)
    (joined_sound calls s starts (length old.path) place q opens.sound cut opens.low (own_place calls old s p k opens) call-here mark)
    (none_behind calls s (with_starts s starts) (omega arith))
    (subst (IsSettled (with_starts s starts) (length old.path)) (sym is) (joined_settles s starts (length old.path) place q cut mark))

pub after_visit : (calls : List (List ℕ)) (old s t : State) (p k q : ℕ) → IsOpen calls old s p k → get_or (callees_of calls p) k 0 ≡ q → Visited calls s t q
    → IsOpen calls old t p (k + 1)
after_visit calls old s t p k q opens is visited =
    open_more calls old s t p k opens visited.follows visited.sound visited.settled
    (subst (IsSettled t (length old.path)) (sym is) (elim visited.seen [
      | inl done ↦ inl done
      | inr later ↦ inr (record {
        place = later.0;
        marked = later.1;
        joined = λ x c l u. let w = opens.low x (visited.follows.starts x c) in let o = own_place calls old s p k opens in absurd (omega (arith, w, l, u, later.2, o));
      })
    ]))

-- ---- the end of a search

entered_follows_all : (old t : State) (p : ℕ) → IsMarked old → mark_of old p ≡ New → p < length old.marks → Follows (after_entry old p) t
    → ((x : ℕ) → Contains t.starts x → Contains old.starts x) → Follows old t
entered_follows_all old t p m new there f starts = record {
  longer = let l = f.longer in omega (arith, l, length_push old.path p);
  same = λ at l. f.same at (omega (arith, l, length_push old.path p)) ∙ before_end old.path p at l;
  starts = starts;
  done = λ q group e. f.done q group (stays old p q (Done group) new e (new_is_not_done group));
  kept = λ q at e. f.kept q at (stays old p q (OnPath at) new e (new_is_not_on_path at));
  fewer = let l = f.fewer in let n = fewer_new old.marks p (OnPath (length old.path)) there new refl in omega (arith, l, n);
  all = f.all ∙ length-set old.marks p (OnPath (length old.path));
}

module _ (calls : List (List ℕ)) (old s : State) (p k : ℕ) (opens : IsOpen calls old s p k) (sound : IsSound calls old) (new : mark_of old p ≡ New)
    (there : p < length old.marks) (all : length (callees_of calls p) ≤ k) where
  mark_own : mark_of s p ≡ OnPath (length old.path)
  mark_own = opens.follows.kept p (length old.path) (entered_marks old p there)

  all_settled : AreSettled calls s (length old.path)
  all_settled i q from here call = elim (cases_eq i (length old.path)) [
    | inl e ↦
        let own : Calls calls p q = subst (λ (x : ℕ). Calls calls x q) (ap (on_path s) e ∙ own_number calls old s p k opens) call in
        let is : get_or (callees_of calls p) own.0 0 ≡ q = get_or_default (callees_of calls p) own.0 0 q own.1 ∙ own.2 in
        subst (λ (x : ℕ). IsSettled s x q) (sym e) (subst (IsSettled s (length old.path)) is (opens.own own.0 (omega (arith, own.1, all))))
    | inr ne ↦ opens.behind i q (omega (arith, from, ne)) here call
  ]

  old_start : (x : ℕ) → Contains s.starts x → (x ≡ length old.path → ⊥) → Contains old.starts x
  old_start x c ne = elim (Contains-append_cases old.starts (length old.path ∷ []) x (opens.follows.starts x c)) [
    | inl before ↦ before
    | inr now ↦ absurd (ne (only_end (length old.path) x now))
  ]

  closing_kept : (last_start s ≡ length old.path → ⊥) → Visited calls old s p
  closing_kept ne = record {
    sound = opens.sound;
    follows = entered_follows_all old s p sound.marked new there opens.follows (λ x c. old_start x c (λ e.
        let m = at_most_last s.starts x opens.sound.marked.ascending c in
        let l = opens.low (last_start s) (contains_at s.starts (length s.starts - 1) (omega (arith, c.1))) in
        ne (omega (arith, e, m, l))));
    settled = all_settled;
    seen = inr (length old.path, mark_own, omega arith);
  }

  left_is_sound : last_start s ≡ length old.path → IsSound calls (after_leaving s (length old.path))
  left_is_sound last = left_sound calls s (length old.path) opens.sound (own_place calls old s p k opens) opens.low last all_settled

  left_follows : last_start s ≡ length old.path → Follows old (after_leaving s (length old.path))
  left_follows last =
      let within = own_place calls old s p k opens in
      record {
        longer = omega (arith, path_length s (length old.path) within);
        same = λ i l. path_kept s (length old.path) i within l
            ∙ opens.follows.same i (omega (arith, l, length_push old.path p)) ∙ before_end old.path p i l;
        starts = λ x c. old_start x (from_init s.starts x c) (λ e.
            let l = init_less s.starts x opens.sound.marked.ascending c in omega (arith, l, e, last));
        done = λ q group e. left_done s (length old.path) q group (opens.follows.done q group (stays old p q (Done group) new e (new_is_not_done group)));
        kept = λ q i e. left_kept s (length old.path) q i (opens.follows.kept q i (stays old p q (OnPath i) new e (new_is_not_on_path i)))
            (sound.marked.stands q i e).0;
        fewer = let l = opens.follows.fewer in let n = fewer_new old.marks p (OnPath (length old.path)) there new refl in
            omega (arith, l, n, as_many_new (length old.path) (length s.path) s.groups s.marks);
        all = left_length s (length old.path) ∙ opens.follows.all ∙ length-set old.marks p (OnPath (length old.path));
      }

  closing_left : last_start s ≡ length old.path → Visited calls old (after_leaving s (length old.path)) p
  closing_left last = record {
    sound = left_is_sound last;
    follows = left_follows last;
    settled = none_behind calls old (after_leaving s (length old.path)) (omega (arith, path_length s (length old.path) (own_place calls old s p k opens)));
    seen = inl (s.groups, left_ended s (length old.path) p (length old.path) opens.sound.marked mark_own (omega arith));
  }

-- ---- one call of the list

call_at : (calls : List (List ℕ)) (p k : ℕ) (items : List ℕ) → items ≡ callees_of calls p → k < length items → Calls calls p (get_or items k 0)
call_at calls p k items e l =
    subst (λ (xs : List ℕ). Contains (callees_of calls p) (get_or xs k 0)) (sym e)
    (contains_at (callees_of calls p) k (subst (λ (xs : List ℕ). k < length xs) e l))

open_length : (calls : List (List ℕ)) (old s : State) (p k : ℕ) → IsOpen calls old s p k → length s.marks ≡ length old.marks
open_length calls old s p k opens = opens.follows.all ∙ length-set old.marks p (OnPath (length old.path))

open_fewer : (calls : List (List ℕ)) (old s : State) (p k : ℕ) → IsOpen calls old s p k → mark_of old p ≡ New → p < length old.marks
    → count_by is_new s.marks < count_by is_new old.marks
open_fewer calls old s p k opens new there =
    let l = opens.follows.fewer in let n = fewer_new old.marks p (OnPath (length old.path)) there new refl in omega (arith, l, n)

row_is : (calls : List (List ℕ)) (p : ℕ) (row found : List ℕ) → p < length calls → row ≡ found → found ≡ get_or calls p found → row ≡ callees_of calls p
row_is calls p row found there same read = same ∙ read ∙ get_or_default calls p found [] there

-- the call of a row that stands next: its number has a mark, and a search from it ends
pub record IsNextCall (calls : List (List ℕ)) (old s : State) (p k : ℕ) (row : List ℕ) : Type 0 where
  pub long : k < length (callees_of calls p)
  pub is : get_or (callees_of calls p) k 0 ≡ get_or row k 0
  pub there : get_or row k 0 < length s.marks
  pub all : length calls ≡ length s.marks
  pub fewer : count_by is_new s.marks < count_by is_new old.marks
  pub reach : AllReach calls s (get_or row k 0)
  pub marked : (mark : NumberMark) → mark ≡ get_or s.marks (get_or row k 0) mark → mark_of s (get_or row k 0) ≡ mark

pub call-next : {calls : List (List ℕ)} {old s : State} {p k : ℕ} {row found : List ℕ} → IsOpen calls old s p k → mark_of old p ≡ New → p < length old.marks → length calls ≡ length old.marks → AreNumbers calls (length calls)
    → row ≡ found → found ≡ get_or calls p found → k < length row → IsNextCall calls old s p k row
call-next {calls} {old} {s} {p} {k} {row} {found} opens new within all numbers same read l =
    let items = row_is calls p row found (omega (arith, within, all)) same read in
    let call = call_at calls p k row items l in
    let number = numbers p (get_or row k 0) call in
    let there : get_or row k 0 < length s.marks = omega (arith, number, all, open_length calls old s p k opens) in
    record {
      long = subst (λ (xs : List ℕ). k < length xs) items l;
      is = ap (λ (xs : List ℕ). get_or xs k 0) (sym items);
      there = there;
      all = omega (arith, all, open_length calls old s p k opens);
      fewer = open_fewer calls old s p k opens new within;
      reach = all_reach calls old s p k opens (get_or row k 0) call;
      marked = λ mark e. get_or_default s.marks (get_or row k 0) New mark there ∙ sym e;
    }

-- the end of a row: what the search has kept, whether its group goes on or ends
pub record IsRowEnd (calls : List (List ℕ)) (old s : State) (p at : ℕ) : Type 0 where
  pub kept : (last_start s ≡ at → ⊥) → Visited calls old s p
  pub ended : last_start s ≡ at → Visited calls old (after_leaving s at) p

pub row-end : {calls : List (List ℕ)} {old s : State} {p k : ℕ} {row found : List ℕ} (at : ℕ) → IsOpen calls old s p k → IsSound calls old → mark_of old p ≡ New → p < length old.marks → length calls ≡ length old.marks
    → row ≡ found → found ≡ get_or calls p found → length row ≤ k → at ≡ length old.path → IsRowEnd calls old s p at
row-end {calls} {old} {s} {p} {k} {row} {found} at opens sound new within all same read le place =
    let items = row_is calls p row found (omega (arith, within, all)) same read in
    let past : length (callees_of calls p) ≤ k = subst (λ (xs : List ℕ). length xs ≤ k) items le in
    record {
      kept = λ ne. closing_kept calls old s p k opens sound new within past (λ last. ne (last ∙ sym place));
      ended = λ last. subst (λ n. Visited calls old (after_leaving s n) p) (sym place) (closing_left calls old s p k opens sound new within past (last ∙ place));
    }
