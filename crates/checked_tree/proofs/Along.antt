-- Runs along words that are cut as the expression is.
use Rattle.std.proofs.Common.{◌≡◌, ℕ, ℤ, List, [], ◌∷◌, ◌++◌, length, refl, sym, ◌∙◌, ap, subst, inl, inr, ◌⊎◌}
use Rattle.std.specs.List.{AllByRecursion, concat}
use Rattle.std.proofs.lemmas.List.Elements.{recursion_from_All}
use Rattle.path_expr.specs.PathExpr.{PathExpr, Edge, Seq, Join, Star, InLanguage}
use Rattle.transition_formula.specs.Composition.{sequence_of, union_of}
use Rattle.transition_formula.specs.Meaning.{Holds, Covers, IsChain, last_of, HoldsOfChains}
use Rattle.transition_formula.specs.Transition.{Transition}
use Rattle.transition_formula.proofs.Meanings.{sequence-holds, joined-left, joined-right}
use Rattle.checked_tree.specs.Graph.{Graph, leaf_at, start_of, end_of, start_vocabulary, end_vocabulary, vocabulary_at}
use Rattle.checked_tree.specs.Law.{IsRun, HoldsAlong, IsBetweenEnds}
use Rattle.checked_tree.proofs.Between.{same_from, after-length}

module _ (g : Graph) where
  pub run-split : (front back : List ℕ) (before after : List ℤ) → IsRun g (front ++ back) before after → (middle : List ℤ) × IsRun g front before middle × IsRun g back middle after
  run-split [] back before after h = (before, refl, h)
  run-split (number ∷ front) back before after h = let rest = run-split front back h.0 after h.2 in (rest.0, (h.0, h.1, rest.1), rest.2)

  pub edge-along : (number : ℕ) (f : Transition) → Covers f (leaf_at g number) → HoldsAlong g (Edge number) f
  edge-along number f covers word before after is long run =
      let step : IsRun g (number ∷ []) before after = subst (λ w. IsRun g w before after) is run in
      covers before after (subst (Holds (leaf_at g number) before) step.2 step.1)

  -- ---- one path and then another

  module _ (p q : PathExpr) (a b : Transition) (ends : end_of g p ≡ start_of g q) (first : IsBetweenEnds (start_vocabulary g p) (end_vocabulary g p) a)
      (second : IsBetweenEnds (end_vocabulary g p) (end_vocabulary g q) b) (along_first : HoldsAlong g p a) (along_second : HoldsAlong g q b) where
    parts : (front back : List ℕ) → InLanguage p front → InLanguage q back → (before middle after : List ℤ) → length before ≡ (start_vocabulary g p).columns →
        IsRun g front before middle → IsRun g back middle after → Holds (sequence_of a b) before after
    parts front back in_first in_second before middle after long run more =
        let h = along_first front before middle in_first long run in
        let between = after-length (start_vocabulary g p) (end_vocabulary g p) a first before middle h in
        let k = along_second back middle after in_second (between ∙ ap (λ n. (vocabulary_at g n).columns) ends) more in
        sequence-holds a b (first.between.to_is ∙ sym second.between.from_is) first.between.fits second.between.fits before middle after h k

    pub sequence-along : (f : Transition) → Covers f (sequence_of a b) → HoldsAlong g (Seq p q) f
    sequence-along f covers word before after is long run =
        let cut = run-split is.0 is.1 before after (subst (λ w. IsRun g w before after) is.2 run) in
        covers before after (parts is.0 is.1 is.3 is.4 before cut.0 after long cut.1 cut.2)

  -- ---- either of two

  module _ (p q : PathExpr) (a b : Transition) (starts : start_of g p ≡ start_of g q) (first : IsBetweenEnds (start_vocabulary g p) (end_vocabulary g p) a)
      (second : IsBetweenEnds (start_vocabulary g p) (end_vocabulary g p) b) (along_first : HoldsAlong g p a) (along_second : HoldsAlong g q b) where
    pub join-along : (f : Transition) → Covers f (union_of a b) → HoldsAlong g (Join p q) f
    join-along f covers word before after is long run = covers before after (by_side is)
      where
        by_side : InLanguage p word ⊎ InLanguage q word → Holds (union_of a b) before after
        by_side (inl h) = joined-left a b before after (along_first word before after h long run)
        by_side (inr h) =
            joined-right a b before after (same_from (start_vocabulary g p) (end_vocabulary g p) a b first second)
            (along_second word before after h (long ∙ ap (λ n. (vocabulary_at g n).columns) starts) run)

  -- ---- turns

  module _ (p : PathExpr) (a : Transition) (ends : start_of g p ≡ end_of g p) (body : IsBetweenEnds (start_vocabulary g p) (end_vocabulary g p) a) (along : HoldsAlong g p a) where
    -- states that the body links, from the first to the last
    record Chain (before after : List ℤ) : Type 0 where
      more : List (List ℤ)
      chain : IsChain a before more
      last : last_of before more ≡ after

    turn-chain : (turns : List (List ℕ)) → AllByRecursion (InLanguage p) turns → (before after : List ℤ) → length before ≡ (start_vocabulary g p).columns → IsRun g (concat turns) before after → Chain before after
    turn-chain [] all before after long run = record { more = []; chain = tt; last = run }
    turn-chain (turn ∷ turns) all before after long run =
        let cut = run-split turn (concat turns) before after run in
        let h = along turn before cut.0 all.0 long cut.1 in
        let next = after-length (start_vocabulary g p) (end_vocabulary g p) a body before cut.0 h in
        let rest = turn-chain turns all.1 cut.0 after (next ∙ sym (ap (λ n. (vocabulary_at g n).columns) ends)) cut.2 in
        record { more = cut.0 ∷ rest.more; chain = (h, rest.chain); last = rest.last }

    pub star-along : (f : Transition) → HoldsOfChains a f → HoldsAlong g (Star p) f
    star-along f holds word before after is long run =
        let c = turn-chain is.0 (recursion_from_All (InLanguage p) is.0 is.2) before after long (subst (λ w. IsRun g w before after) is.1 run) in
        subst (Holds f before) c.last (holds before c.more (long ∙ sym body.between.from_is) c.chain)
