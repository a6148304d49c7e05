-- What a checked tree says, by induction on its steps.
use Rattle.std.proofs.Common.{◌≡◌, ℕ, ℤ, List, [], ◌∷◌, length, sym, ◌∙◌, ap, subst, inl, inr}
use Rattle.std.specs.List.{AllByRecursion, concat}
use Rattle.std.proofs.lemmas.List.Elements.{recursion_from_All}
use Rattle.farkas_check.specs.declared.answer.Answer.{Answer}
use Rattle.farkas_check.specs.Tested.{Passes}
use Rattle.farkas_check.proofs.Tight.{passing}
use Rattle.path_expr.specs.PathExpr.{PathExpr, InLanguage}
use Rattle.posing.specs.declared.note.Note.{Note}
use Rattle.posing.specs.Posing.{Posing, Done, Always}
use Rattle.posing.specs.Replay.{Keeps}
use Rattle.posing.proofs.Paths.{always_path}
use Rattle.polyhedra.specs.Laws.{HaveCanonicalRows}
use Rattle.polyhedra.specs.Vocabulary.{Vocabulary}
use Rattle.phases.specs.Repetition.{repetition}
use Rattle.phases.proofs.Repetitions.{repetitions-hold}
use Rattle.transition_formula.specs.Composition.{sequence_of, union_of}
use Rattle.transition_formula.specs.Meaning.{Holds, Covers, IsChain, last_of, HoldsOfChains}
use Rattle.transition_formula.specs.Transition.{Transition}
use Rattle.transition_formula.proofs.Meanings.{sequence-holds, joined-left, joined-right}
use Rattle.checked_tree.specs.Graph.{Graph, leaf_at}
use Rattle.checked_tree.specs.Evaluation.{leaf_formula, sequence_formula, join_formula}
use Rattle.checked_tree.specs.Law.{IsEnd, IsFrom, IsBetweenEnds, IsRun}
use Rattle.checked_tree.specs.Tree.{Own, Tree, Leaf, Seq, Join, Star, own_of, formula_of, path_of}
use Rattle.checked_tree.specs.Checked.{IsLeafStep, IsSeqStep, IsJoinStep, IsStarStep, IsChecked}
use Rattle.checked_tree.specs.TreeLaw.{IsLinked, Relates, TreesHold, TreesFit, RunsAreRelated}
use Rattle.checked_tree.proofs.Along.{run-split}
use Rattle.checked_tree.proofs.Between.{settled_and_fitted-between, settled_and_fitted-covers, sequence-from, sequence-solvable, sequence-canonical, joined-from, fitted-between, fitted-covered, phasable, repetition-between, same_from, after-length}

-- what every end of a computation has, so long as the answers are true, its value under answers
-- that pass has
pub kept-always : {A : Type 0} (p : Posing A) (value : A) (notes : List Note) (answers : List Answer) (P : A → Type 0)
    → Keeps Passes p value notes answers → Always P p → P value
kept-always p value notes answers P kept holds =
    always_path Passes P p (Done value) notes answers (λ question answer passes. (passing question answer passes).0) kept.path holds

-- ---- the ends of a tree, and its rows

pub tree-ends : (t : Tree) → IsChecked t → IsEnd (own_of t).from × IsEnd (own_of t).to
tree-ends (Leaf number given own) h = (h.start, h.end)
tree-ends (Seq first second own) h =
    (subst IsEnd (sym h.2.from_is) (tree-ends first h.0).0, subst IsEnd (sym h.2.to_is) (tree-ends second h.1).1)
tree-ends (Join left right own) h =
    (subst IsEnd (sym h.2.from_is) (tree-ends left h.0).0, subst IsEnd (sym h.2.to_is) (tree-ends left h.0).1)
tree-ends (Star turn own) h =
    (subst IsEnd (sym h.1.from_is) (tree-ends turn h.0).0, subst IsEnd (sym h.1.to_is) (tree-ends turn h.0).0)

pub tree-canonical : (t : Tree) → IsChecked t → HaveCanonicalRows (formula_of t).cases
tree-canonical (Leaf number given own) h = h.made.canonical
tree-canonical (Seq first second own) h = h.2.made.canonical
tree-canonical (Join left right own) h = h.2.made.canonical
tree-canonical (Star turn own) h = h.1.made.canonical

-- ---- one step

module _ (given : Transition) (own : Own) (step : IsLeafStep given own) where
  pub leaf-fits : IsBetweenEnds own.from own.to own.formula
  unfolding leaf_formula
  leaf-fits =
      kept-always (leaf_formula given own.from own.to) own.formula own.log.notes own.log.answers (IsBetweenEnds own.from own.to) step.made.kept
      (settled_and_fitted-between own.from own.to step.start step.end given step.between)

  pub leaf-covers : Covers own.formula given
  unfolding leaf_formula
  leaf-covers =
      kept-always (leaf_formula given own.from own.to) own.formula own.log.notes own.log.answers (λ f. Covers f given) step.made.kept
      (settled_and_fitted-covers own.from own.to step.start step.end given step.between step.given_canonical step.solvable)

module _ (a b own : Own) (step : IsSeqStep a b own) (start : IsEnd own.from) (end : IsEnd own.to) (one : IsBetweenEnds a.from a.to a.formula) (other : IsBetweenEnds b.from b.to b.formula) where
  pub seq-first : IsBetweenEnds own.from a.to a.formula
  seq-first = subst (λ v. IsBetweenEnds v a.to a.formula) (sym step.from_is) one

  pub seq-second : IsBetweenEnds a.to own.to b.formula
  seq-second = subst (λ v. IsBetweenEnds a.to v b.formula) (sym step.to_is) (subst (λ v. IsBetweenEnds v b.to b.formula) (sym step.through) other)

  seq-from : IsFrom own.from own.to (sequence_of a.formula b.formula)
  seq-from = sequence-from own.from a.to own.to end a.formula b.formula seq-first seq-second

  pub seq-fits : IsBetweenEnds own.from own.to own.formula
  unfolding sequence_formula
  seq-fits =
      kept-always (sequence_formula a.formula b.formula own.from own.to) own.formula own.log.notes own.log.answers (IsBetweenEnds own.from own.to) step.made.kept
      (settled_and_fitted-between own.from own.to start end (sequence_of a.formula b.formula) seq-from)

  pub seq-covers : HaveCanonicalRows a.formula.cases → Covers own.formula (sequence_of a.formula b.formula)
  unfolding sequence_formula
  seq-covers canonical =
      kept-always (sequence_formula a.formula b.formula own.from own.to) own.formula own.log.notes own.log.answers (λ f. Covers f (sequence_of a.formula b.formula)) step.made.kept
      (settled_and_fitted-covers own.from own.to start end (sequence_of a.formula b.formula) seq-from (sequence-canonical a.formula b.formula canonical)
      (sequence-solvable own.from a.to own.to end a.formula b.formula seq-first seq-second))

module _ (a b own : Own) (step : IsJoinStep a b own) (start : IsEnd own.from) (end : IsEnd own.to) (one : IsBetweenEnds a.from a.to a.formula) (other : IsBetweenEnds b.from b.to b.formula) where
  pub join-left : IsBetweenEnds own.from own.to a.formula
  join-left = subst (λ v. IsBetweenEnds v own.to a.formula) (sym step.from_is) (subst (λ v. IsBetweenEnds a.from v a.formula) (sym step.to_is) one)

  pub join-right : IsBetweenEnds own.from own.to b.formula
  join-right =
      subst (λ v. IsBetweenEnds v own.to b.formula) (sym (step.from_is ∙ step.starts))
      (subst (λ v. IsBetweenEnds b.from v b.formula) (sym (step.to_is ∙ step.ends)) other)

  join-from : IsFrom own.from own.to (union_of a.formula b.formula)
  join-from = joined-from own.from own.to a.formula b.formula join-left join-right

  pub join-fits : IsBetweenEnds own.from own.to own.formula
  unfolding join_formula
  join-fits =
      kept-always (join_formula a.formula b.formula own.from own.to) own.formula own.log.notes own.log.answers (IsBetweenEnds own.from own.to) step.made.kept
      (fitted-between own.from own.to start end (union_of a.formula b.formula) join-from)

  pub join-covers : Covers own.formula (union_of a.formula b.formula)
  unfolding join_formula
  join-covers =
      kept-always (join_formula a.formula b.formula own.from own.to) own.formula own.log.notes own.log.answers (λ f. Covers f (union_of a.formula b.formula)) step.made.kept
      (fitted-covered own.from own.to start end (union_of a.formula b.formula) join-from)

module _ (a own : Own) (step : IsStarStep a own) (start : IsEnd own.from) (one : IsBetweenEnds a.from a.to a.formula) where
  pub star-turn : IsBetweenEnds own.from own.from a.formula
  star-turn =
      subst (λ v. IsBetweenEnds v v a.formula) (sym step.from_is) (subst (λ v. IsBetweenEnds a.from v a.formula) step.turns one)

  pub star-fits-ends : IsBetweenEnds own.from own.to own.formula
  star-fits-ends =
      subst (λ v. IsBetweenEnds own.from v own.formula) (step.from_is ∙ sym step.to_is)
      (kept-always (repetition a.formula own.from) own.formula own.log.notes own.log.answers (IsBetweenEnds own.from own.from) step.made.kept
      (repetition-between own.from start a.formula star-turn))

  pub star-chains : HaveCanonicalRows a.formula.cases → HoldsOfChains a.formula own.formula
  star-chains canonical =
      kept-always (repetition a.formula own.from) own.formula own.log.notes own.log.answers (HoldsOfChains a.formula) step.made.kept
      (repetitions-hold a.formula own.from (phasable own.from start a.formula star-turn) canonical)

-- ---- all steps

pub trees-fit : TreesFit
trees-fit (Leaf number given own) h = leaf-fits given own h
trees-fit (Seq first second own) h =
    let ends = tree-ends (Seq first second own) h in
    seq-fits (own_of first) (own_of second) own h.2 ends.0 ends.1 (trees-fit first h.0) (trees-fit second h.1)
trees-fit (Join left right own) h =
    let ends = tree-ends (Join left right own) h in
    join-fits (own_of left) (own_of right) own h.2 ends.0 ends.1 (trees-fit left h.0) (trees-fit right h.1)
trees-fit (Star turn own) h =
    let ends = tree-ends (Star turn own) h in
    star-fits-ends (own_of turn) own h.1 ends.0 (trees-fit turn h.0)

-- the state after what a tree's formula holds of has the columns of its end
tree-after : (t : Tree) → IsChecked t → (before after : List ℤ) → Holds (formula_of t) before after → length after ≡ (own_of t).to.columns
tree-after t h before after held = after-length (own_of t).from (own_of t).to (formula_of t) (trees-fit t h) before after held

-- linked states are a chain of a formula that holds of what links them
chain-of : (R : List ℤ → List ℤ → Type 0) (f : Transition) (columns : ℕ) → ((before after : List ℤ) → length before ≡ columns → R before after → Holds f before after) →
    ((before after : List ℤ) → Holds f before after → length after ≡ columns) → (before : List ℤ) (states : List (List ℤ)) → length before ≡ columns → IsLinked R before states → IsChain f before states
chain-of R f columns holds ends before [] long linked = tt
chain-of R f columns holds ends before (next ∷ states) long linked =
    let held = holds before next long linked.0 in
    (held, chain-of R f columns holds ends next states (ends before next held) linked.1)

pub trees-hold : TreesHold
trees-hold (Leaf number given own) h before after long related = leaf-covers given own h before after related
trees-hold (Seq first second own) h before after long related =
    let ends = tree-ends (Seq first second own) h in
    let one = trees-fit first h.0 in
    let other = trees-fit second h.1 in
    let a = own_of first in
    let b = own_of second in
    let x = seq-first a b own h.2 ends.0 ends.1 one other in
    let y = seq-second a b own h.2 ends.0 ends.1 one other in
    let held = trees-hold first h.0 before related.0 (long ∙ ap (λ (v : Vocabulary). v.columns) h.2.from_is) related.1 in
    let more = trees-hold second h.1 related.0 after (tree-after first h.0 before related.0 held ∙ ap (λ (v : Vocabulary). v.columns) h.2.through) related.2 in
    seq-covers a b own h.2 ends.0 ends.1 one other (tree-canonical first h.0) before after
    (sequence-holds a.formula b.formula (x.between.to_is ∙ sym y.between.from_is) x.between.fits y.between.fits before related.0 after held more)
trees-hold (Join left right own) h before after long (inl related) =
    let ends = tree-ends (Join left right own) h in
    let a = own_of left in
    let b = own_of right in
    join-covers a b own h.2 ends.0 ends.1 (trees-fit left h.0) (trees-fit right h.1) before after
    (joined-left a.formula b.formula before after
    (trees-hold left h.0 before after (long ∙ ap (λ (v : Vocabulary). v.columns) h.2.from_is) related))
trees-hold (Join left right own) h before after long (inr related) =
    let ends = tree-ends (Join left right own) h in
    let one = trees-fit left h.0 in
    let other = trees-fit right h.1 in
    let a = own_of left in
    let b = own_of right in
    join-covers a b own h.2 ends.0 ends.1 one other before after
    (joined-right a.formula b.formula before after
    (same_from own.from own.to a.formula b.formula (join-left a b own h.2 ends.0 ends.1 one other) (join-right a b own h.2 ends.0 ends.1 one other))
    (trees-hold right h.1 before after (long ∙ ap (λ (v : Vocabulary). v.columns) (h.2.from_is ∙ h.2.starts)) related))
trees-hold (Star turn own) h before after long related =
    let ends = tree-ends (Star turn own) h in
    let a = own_of turn in
    let one = trees-fit turn h.0 in
    let here = long ∙ ap (λ (v : Vocabulary). v.columns) h.1.from_is in
    let chain = chain-of (Relates turn) a.formula a.from.columns (λ s t l r. trees-hold turn h.0 s t l r)
    (λ s t held. tree-after turn h.0 s t held ∙ ap (λ (v : Vocabulary). v.columns) h.1.turns) before related.0 here related.1 in
    subst (Holds own.formula before) related.2
    (star-chains a own h.1 ends.0 one (tree-canonical turn h.0) before related.0 (here ∙ sym one.between.from_is) chain)

-- ---- runs along words

-- states that are linked from the first to the last
record Linked (R : List ℤ → List ℤ → Type 0) (before after : List ℤ) : Type 0 where
  states : List (List ℤ)
  linked : IsLinked R before states
  last : last_of before states ≡ after

module _ (g : Graph) (p : PathExpr) (R : List ℤ → List ℤ → Type 0) (related : (word : List ℕ) → InLanguage p word → (before after : List ℤ) → IsRun g word before after → R before after) where
  turns-linked : (turns : List (List ℕ)) → AllByRecursion (InLanguage p) turns → (before after : List ℤ) → IsRun g (concat turns) before after → Linked R before after
  turns-linked [] all before after run = record { states = []; linked = tt; last = run }
  turns-linked (turn ∷ turns) all before after run =
      let cut = run-split g turn (concat turns) before after run in
      let rest = turns-linked turns all.1 cut.0 after cut.2 in
      record { states = cut.0 ∷ rest.states; linked = (related turn all.0 before cut.0 cut.1, rest.linked); last = rest.last }

pub runs-are-related : RunsAreRelated
runs-are-related g (Leaf number given own) of word is before after run =
    let step : IsRun g (number ∷ []) before after = subst (λ w. IsRun g w before after) is run in
    subst (λ (f : Transition). Holds f before after) (sym of.1) (subst (Holds (leaf_at g number) before) step.2 step.1)
runs-are-related g (Seq first second own) of word is before after run =
    let cut = run-split g is.0 is.1 before after (subst (λ w. IsRun g w before after) is.2 run) in
    (cut.0, runs-are-related g first of.0 is.0 is.3 before cut.0 cut.1, runs-are-related g second of.1 is.1 is.4 cut.0 after cut.2)
runs-are-related g (Join left right own) of word (inl is) before after run = inl (runs-are-related g left of.0 word is before after run)
runs-are-related g (Join left right own) of word (inr is) before after run = inr (runs-are-related g right of.1 word is before after run)
runs-are-related g (Star turn own) of word is before after run =
    let all = turns-linked g (path_of turn) (Relates turn) (λ w within s t r. runs-are-related g turn of w within s t r) is.0 (recursion_from_All (InLanguage (path_of turn)) is.0 is.2) before after
    (subst (λ w. IsRun g w before after) is.1 run) in
    (all.states, all.linked, all.last)
