-- Groups of the path that are joined keep what the search keeps.
use Rattle.std.proofs.Common.{inl, inr, ◌≡◌, ℕ, ◌<◌, List, length, refl, subst, arith, ◌∙◌}
use Rattle.std.proofs.lemmas.Bool.{cases_lt}
use Rattle.flow_graph.specs.declared.components.NumberMark.TheVariants.{OnPath}
use Rattle.flow_graph.specs.Reaching.{Calls, Reaches}
use Rattle.flow_graph.specs.Search.{State, mark_of, on_path, with_starts, IsSound, Follows, IsJoined, IsCut, IsSettled, AreLow}
use Rattle.flow_graph.proofs.Chains.{reaches_then, reaches_call}

joined_reaches : (calls : List (List ℕ)) (s : State) (starts : List ℕ) (here place q : ℕ) → IsSound calls s → IsCut s.starts starts place
    → AreLow s here → here < length s.path → Calls calls (on_path s here) q → mark_of s q ≡ OnPath place
    → (at before : ℕ) → at < length s.path → before < length s.path → IsJoined (with_starts s starts) at before
    → Reaches calls (on_path s at) (on_path s before)
joined_reaches calls s starts here place q sound cut low within call mark at before la lb joined = elim (cases_lt place at) [
  | inl behind ↦ let stands = sound.marked.stands q place mark in
      let first : Reaches calls (on_path s at) (on_path s here) =
      sound.reaches at here la within (λ b c l u. let w = low b c in absurd (omega (arith, w, l))) in
      let last : Reaches calls (on_path s place) (on_path s before) =
      sound.reaches place before stands.0 lb (λ b c l u. joined b (cut.rest b c u) l (omega (arith, behind, u))) in
      reaches_then calls _ _ _ first (reaches_then calls _ _ _ (reaches_call calls _ _ call) (subst (λ (x : ℕ). Reaches calls x (on_path s before)) stands.1 last))
  | inr early ↦ sound.reaches at before la lb (λ b c l u. joined b (cut.rest b c (omega (arith, early, u))) l u)
]

pub joined_sound : (calls : List (List ℕ)) (s : State) (starts : List ℕ) (here place q : ℕ) → IsSound calls s → IsCut s.starts starts place
    → AreLow s here → here < length s.path → Calls calls (on_path s here) q → mark_of s q ≡ OnPath place → IsSound calls (with_starts s starts)
joined_sound calls s starts here place q sound cut low within call mark = record {
  marked = record {
    placed = sound.marked.placed;
    stands = sound.marked.stands;
    begun = λ h. cut.rest 0 (sound.marked.begun h) (omega arith);
    within = λ b c. sound.marked.within b (cut.from b c);
    ascending = cut.ascending;
  };
  reaches = joined_reaches calls s starts here place q sound cut low within call mark;
  closed = sound.closed;
  strong = sound.strong;
  counted = sound.counted;
  some = sound.some;
  few = sound.few;
}

pub joined_follows : (s : State) (starts : List ℕ) (place : ℕ) → IsCut s.starts starts place → Follows s (with_starts s starts)
joined_follows s starts place cut = record {
  longer = omega arith;
  same = λ at h. refl;
  starts = cut.from;
  done = λ p group h. h;
  kept = λ p at h. h;
  fewer = omega arith;
  all = refl;
}

-- what a call leads to is taken into account once its groups are joined
pub joined_settles : (s : State) (starts : List ℕ) (here place q : ℕ) → IsCut s.starts starts place → mark_of s q ≡ OnPath place
    → IsSettled (with_starts s starts) here q
joined_settles s starts here place q cut mark =
    inr (record { place = place; marked = mark; joined = λ b c l u. let w = cut.low b c in absurd (omega (arith, w, l)) })

pub settled_follows : (s t : State) (at q : ℕ) → Follows s t → IsSettled s at q → IsSettled t at q
settled_follows s t at q f (inl done) = inl (done.0, f.done q done.0 done.1)
settled_follows s t at q f (inr later) =
    inr (record { place = later.place; marked = f.kept q later.place later.marked; joined = λ b c l u. later.joined b (f.starts b c) l u })

pub follows_self : (s : State) → Follows s s
follows_self s = record { longer = omega arith; same = λ at h. refl; starts = λ b c. c; done = λ p g h. h; kept = λ p a h. h; fewer = omega arith; all = refl }

pub follows_then : (s t u : State) → Follows s t → Follows t u → Follows s u
follows_then s t u a b = record {
  longer = omega (arith, a.longer, b.longer);
  same = λ at h. b.same at (omega (arith, h, a.longer)) ∙ a.same at h;
  starts = λ x c. a.starts x (b.starts x c);
  done = λ p g h. b.done p g (a.done p g h);
  kept = λ p i h. b.kept p i (a.kept p i h);
  fewer = omega (arith, a.fewer, b.fewer);
  all = b.all ∙ a.all;
}
