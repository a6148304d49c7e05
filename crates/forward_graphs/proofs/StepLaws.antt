-- The steps of links, and the steps of different ends that they are joined to: they go between the
-- vocabularies of their nodes, and say no less than the leaves do.
use Rattle.std.proofs.Common.{◌≡◌, ◌⊎◌, ℕ, suc, ◌<◌, List, [], ◌∷◌, ◌++◌, length, refl, sym, subst, inl, inr, arith, Bool, true, false, Option, Some, None}
use Rattle.std.specs.Prelude.{◌==◌, option_to_list}
use Rattle.std.specs.List.{AllByRecursion, range_with_len}
use Rattle.std.proofs.lemmas.Bool.{eqb-true}
use Rattle.std.proofs.lemmas.Option.{slice_get-get_or, unwrap_or-slice_get}
use Rattle.items.proofs.Each.{each-append, each-front, each-back, each-get}
use Rattle.path_expr.specs.declared.link.Link.{Link}
use Rattle.transition_formula.specs.Composition.{union_of}
use Rattle.transition_formula.specs.Meaning.{Covers}
use Rattle.transition_formula.specs.Transition.{Transition}
use Rattle.transition_formula.proofs.ColumnTests.{both}
use Rattle.transition_formula.proofs.Meanings.{joined-left, joined-right}
use Rattle.posing.specs.Posing.{Done, Always, each}
use Rattle.posing.proofs.Paths.{always_bind, always_weaker, always_each}
use Rattle.polyhedra.specs.Laws.{HaveCanonicalRows}
use Rattle.polyhedra.specs.Vocabulary.{Vocabulary}
use Rattle.forward_graphs.specs.declared.joining.Joining.{Joining}
use Rattle.forward_graphs.specs.declared.order.StepEnd.TheVariants.{Start, Target}
use Rattle.forward_graphs.specs.declared.step.Step.{Step}
use Rattle.checked_tree.specs.Graph.{Graph, nothing, link_at, leaf_at, vocabulary_at}
use Rattle.forward_graphs.specs.Graph.{step_at}
use Rattle.forward_graphs.specs.Evaluation.{step_of, leaf_formula, with_leaf, leaf_steps, either_formula, have_same_ends, joining_of, joining_behind, joining_after, with_joined, all_steps, no_steps, joined_steps}
use Rattle.forward_graphs.specs.Law.{IsForward, IsWalkFormula, HaveCanonicalLeaves}
use Rattle.forward_graphs.specs.Order.{numbers_by_node, numbers_of, in_order}
use Rattle.forward_graphs.specs.UnderWay.{IsReadyLink, AreReadyLinks, IsStep, AreSteps}
use Rattle.forward_graphs.proofs.Between.{always-both, always-if, settled-walk, settled-covered, fitted-walk, fitted-covered, either-between, same-from}
use Rattle.forward_graphs.proofs.Groups.{IsIn, in-range, in-ordered, each-ordered, each-below}

-- ---- one of the steps

abbrev pub Some_step : (Step → Type 0) → List Step → Type 0
Some_step P [] = ⊥
Some_step P (step ∷ steps) = P step ⊎ Some_step P steps

some-front : (P : Step → Type 0) (xs ys : List Step) → Some_step P xs → Some_step P (xs ++ ys)
some-front P [] ys h = absurd h
some-front P (x ∷ xs) ys (inl h) = inl h
some-front P (x ∷ xs) ys (inr h) = inr (some-front P xs ys h)

some-back : (P : Step → Type 0) (xs ys : List Step) → Some_step P ys → Some_step P (xs ++ ys)
some-back P [] ys h = h
some-back P (x ∷ xs) ys h = inr (some-back P xs ys h)

some-cut : (P : Step → Type 0) (xs ys : List Step) → Some_step P (xs ++ ys) → Some_step P xs ⊎ Some_step P ys
some-cut P [] ys h = inr h
some-cut P (x ∷ xs) ys (inl h) = inl (inl h)
some-cut P (x ∷ xs) ys (inr h) = by_side (some-cut P xs ys h)
  where
    by_side : Some_step P xs ⊎ Some_step P ys → Some_step P (x ∷ xs) ⊎ Some_step P ys
    by_side (inl k) = inl (inr k)
    by_side (inr k) = inr k

pub some-more : (P Q : Step → Type 0) → ((step : Step) → P step → Q step) → (steps : List Step) → Some_step P steps → Some_step Q steps
some-more P Q more [] h = absurd h
some-more P Q more (step ∷ steps) (inl h) = inl (more step h)
some-more P Q more (step ∷ steps) (inr h) = inr (some-more P Q more steps h)

-- the number of such a step
pub record Found (P : Step → Type 0) (steps : List Step) : Type 0 where
  pub number : ℕ
  pub is : number < length steps
  pub says : P (step_at steps number)

pub some-found : (P : Step → Type 0) (steps : List Step) → Some_step P steps → Found P steps
some-found P [] h = absurd h
some-found P (step ∷ steps) (inl h) = record { number = 0; is = omega arith; says = h }
some-found P (step ∷ steps) (inr h) =
    let f = some-found P steps h in
    let lt = f.is in
    record { number = suc f.number; is = omega (arith, lt); says = f.says }

-- the step leads between these nodes, and holds of all that the formula holds of
pub record SaysNoLess (from to : ℕ) (f : Transition) (step : Step) : Type 0 where
  pub from_is : step.from ≡ from
  pub to_is : step.to ≡ to
  pub covers : Covers step.formula f

abbrev pub IsCovered : ℕ → ℕ → Transition → List Step → Type 0
IsCovered from to f steps = Some_step (SaysNoLess from to f) steps

pub step-known : (g : Graph) (steps : List Step) (number : ℕ) → AreSteps g steps → number < length steps → IsStep g (step_at steps number)
step-known g steps number known lt = subst (IsStep g) (sym (unwrap_or-slice_get steps number _)) (each-get (IsStep g) steps number _ known (slice_get-get_or steps number _ lt))

-- ---- either of two formulas

module _ (from to : Vocabulary) (a b : Transition) (left : IsWalkFormula from to a) (right : IsWalkFormula from to b) where
  pub either-walk : Always (IsWalkFormula from to) (either_formula a b from to)
  unfolding either_formula
  either-walk = fitted-walk from to (union_of a b) (either-between from to a b left right)

  pub either-covered : Always (λ f. Covers f (union_of a b)) (either_formula a b from to)
  unfolding either_formula
  either-covered = fitted-covered from to (union_of a b) (either-between from to a b left right)

module _ (g : Graph) where
  -- ---- the steps of links

  -- each leaf that is not left is covered
  pub record KeepsLeaves (rest : List ℕ) (made : List Step) : Type 0 where
    pub ready : AllByRecursion (IsReadyLink g) rest
    pub steps : AreSteps g made
    pub covered : HaveCanonicalLeaves g → (n : ℕ) → n < length g.links
        → IsIn n rest ⊎ IsCovered (link_at g n).from (link_at g n).to (leaf_at g n) made

  module _ (source : ℕ) (is : IsForward g source) where
    pub link-ready : (number : ℕ) → number < length g.links → IsReadyLink g number
    link-ready number lt =
        let same = unwrap_or-slice_get g.links number record { from = 0; to = 0 } in
        let ends : ((link_at g number).from < (link_at g number).to) × ((link_at g number).to < length g.nodes) =
        subst (λ (l : Link). (l.from < l.to) × (l.to < length g.nodes)) (sym same) (is.forward number record { from = 0; to = 0 } lt) in
        let one = ends.0 in
        let other = ends.1 in
        record {
          is = lt;
          has_leaf = subst (λ n. number < n) (sym is.one_each) lt;
          forward = one;
          target = other;
          start = omega (arith, one, other);
          leaf = is.leaves number lt;
        }

    leaf-canonical : HaveCanonicalLeaves g → (number : ℕ) → number < length g.links → HaveCanonicalRows (leaf_at g number).cases
    leaf-canonical canonical number lt =
        let within : number < length g.leaves = subst (λ n. number < n) (sym is.one_each) lt in
        subst (λ (f : Transition). HaveCanonicalRows f.cases) (sym (unwrap_or-slice_get g.leaves number nothing))
        (each-get (λ (f : Transition). HaveCanonicalRows f.cases) g.leaves number _ canonical (slice_get-get_or g.leaves number nothing within))

    abbrev IsLeafFormula : ℕ → Transition → Type 0
    IsLeafFormula number f =
        IsWalkFormula (vocabulary_at g (link_at g number).from) (vocabulary_at g (link_at g number).to) f
        × (HaveCanonicalLeaves g → Covers f (leaf_at g number))

    leaf-made : (number : ℕ) → IsReadyLink g number → Always (IsLeafFormula number) (leaf_formula g number)
    leaf-made number ready =
        let from = vocabulary_at g (link_at g number).from in
        let to = vocabulary_at g (link_at g number).to in
        always-both (IsWalkFormula from to) (λ f. HaveCanonicalLeaves g → Covers f (leaf_at g number)) (leaf_formula g number)
        (settled-walk from to (leaf_at g number) ready.leaf.between)
        (always-if (λ f. Covers f (leaf_at g number)) (leaf_formula g number)
        (λ (canonical : HaveCanonicalLeaves g). settled-covered from to (leaf_at g number) ready.leaf.between (leaf-canonical canonical number ready.is) ready.leaf.solvable))

    pub with_leaf-keeps : (number : ℕ) (rest : List ℕ) (made : List Step) → KeepsLeaves (number ∷ rest) made → Always (KeepsLeaves rest) (with_leaf g made number)
    unfolding with_leaf
    with_leaf-keeps number rest made kept =
        always_bind (IsLeafFormula number) (KeepsLeaves rest) (leaf_formula g number) (λ f. Done (made ++ step_of (link_at g number) f ∷ []))
        (leaf-made number kept.ready.0)
        (λ f now. record {
          ready = kept.ready.1;
          steps = each-append (IsStep g) made (step_of (link_at g number) f ∷ []) kept.steps
              (record { forward = kept.ready.0.forward; target = kept.ready.0.target; start = kept.ready.0.start; formula = now.0 }, tt);
          covered = λ canonical n lt. one_more f (now.1 canonical) n (kept.covered canonical n lt);
        })
      where
        one_more : (f : Transition) → Covers f (leaf_at g number) → (n : ℕ) → (IsIn n (number ∷ rest) ⊎ IsCovered (link_at g n).from (link_at g n).to (leaf_at g n) made)
            → IsIn n rest ⊎ IsCovered (link_at g n).from (link_at g n).to (leaf_at g n) (made ++ step_of (link_at g number) f ∷ [])
        one_more f covers n (inl (inl e)) =
            inr (subst (λ k. IsCovered (link_at g k).from (link_at g k).to (leaf_at g k) (made ++ step_of (link_at g number) f ∷ [])) (sym e)
            (some-back (SaysNoLess (link_at g number).from (link_at g number).to (leaf_at g number)) made (step_of (link_at g number) f ∷ [])
            (inl (record { from_is = refl; to_is = refl; covers = covers }))))
        one_more f covers n (inl (inr h)) = inl h
        one_more f covers n (inr h) = inr (some-front (SaysNoLess (link_at g n).from (link_at g n).to (leaf_at g n)) made (step_of (link_at g number) f ∷ []) h)

    pub links-ready : AreReadyLinks g (range_with_len 0 (length g.links))
    links-ready = each-below (IsReadyLink g) 0 (length g.links) (λ k lt. link-ready k (omega (arith, lt)))

    pub leaves-begin : KeepsLeaves (range_with_len 0 (length g.links)) []
    leaves-begin = record {
      ready = links-ready;
      steps = tt;
      covered = λ canonical n lt. inl (in-range 0 (length g.links) n (omega arith) (omega (arith, lt)));
    }

    pub leaves-keep : Always (KeepsLeaves []) (leaf_steps g)
    unfolding leaf_steps
    leaves-keep = always_each KeepsLeaves (with_leaf g) [] (range_with_len 0 (length g.links)) with_leaf-keeps leaves-begin

  -- ---- joined steps

  -- all steps that were there are covered, and so is the new one
  record HasJoined (old : List Step) (step : Step) (joining : Joining) : Type 0 where
    made : AreSteps g (all_steps joining)
    keeps : (from to : ℕ) (f : Transition) → IsCovered from to f old → IsCovered from to f (all_steps joining)
    new : IsCovered step.from step.to step.formula (all_steps joining)

  itself : (step : Step) → SaysNoLess step.from step.to step.formula step
  itself step = record { from_is = refl; to_is = refl; covers = λ before after h. h }

  pub same-ends : (last step : Step) → have_same_ends last step ≡ true → (last.from ≡ step.from) × (last.to ≡ step.to)
  same-ends last step e =
      let parts = both (last.from == step.from) (last.to == step.to) e in
      (eqb-true last.from step.from parts.0, eqb-true last.to step.to parts.1)

  -- a step between the nodes of another
  pub moved : (last step : Step) → IsStep g step → (last.from ≡ step.from) × (last.to ≡ step.to) → IsWalkFormula (vocabulary_at g last.from) (vocabulary_at g last.to) step.formula
  moved last step step_is ends =
      subst (λ n. IsWalkFormula (vocabulary_at g n) (vocabulary_at g last.to) step.formula) (sym ends.0)
      (subst (λ n. IsWalkFormula (vocabulary_at g step.from) (vocabulary_at g n) step.formula) (sym ends.1) step_is.formula)

  module _ (done : List Step) (last step : Step) (old : AreSteps g done) (last_is : IsStep g last) (step_is : IsStep g step) where
    put-behind : HasJoined (done ++ last ∷ []) step (joining_of (done ++ last ∷ []) step)
    put-behind = record {
      made = each-append (IsStep g) (done ++ last ∷ []) (step ∷ []) (each-append (IsStep g) done (last ∷ []) old (last_is, tt)) (step_is, tt);
      keeps = λ from to f h. some-front (SaysNoLess from to f) (done ++ last ∷ []) (step ∷ []) h;
      new = some-back (SaysNoLess step.from step.to step.formula) (done ++ last ∷ []) (step ∷ []) (inl (itself step));
    }

    module _ (ends : (last.from ≡ step.from) × (last.to ≡ step.to)) where
      put-together : (f : Transition) → IsWalkFormula (vocabulary_at g last.from) (vocabulary_at g last.to) f → Covers f (union_of last.formula step.formula)
          → HasJoined (done ++ last ∷ []) step (joining_of done record { from = last.from; to = last.to; formula = f })
      put-together f fit covers = record {
        made = each-append (IsStep g) done (both_steps ∷ []) old (record { forward = last_is.forward; target = last_is.target; start = last_is.start; formula = fit }, tt);
        keeps = λ from to h known. by_side from to h (some-cut (SaysNoLess from to h) done (last ∷ []) known);
        new = some-back (SaysNoLess step.from step.to step.formula) done (both_steps ∷ [])
            (inl (record {
              from_is = ends.0;
              to_is = ends.1;
              covers = λ before after k. covers before after
                  (joined-right last.formula step.formula before after
                  (same-from (vocabulary_at g last.from) (vocabulary_at g last.to) last.formula step.formula last_is.formula (moved last step step_is ends)) k);
            }));
      }
        where
          both_steps : Step
          both_steps = record { from = last.from; to = last.to; formula = f }

          by_side : (from to : ℕ) (h : Transition) → (IsCovered from to h done ⊎ IsCovered from to h (last ∷ [])) → IsCovered from to h (done ++ both_steps ∷ [])
          by_side from to h (inl k) = some-front (SaysNoLess from to h) done (both_steps ∷ []) k
          by_side from to h (inr (inl k)) =
              some-back (SaysNoLess from to h) done (both_steps ∷ [])
              (inl (record {
                from_is = k.from_is;
                to_is = k.to_is;
                covers = λ before after held. covers before after (joined-left last.formula step.formula before after (k.covers before after held));
              }))
          by_side from to h (inr (inr k)) = absurd k

    behind-makes : (same : Bool) → have_same_ends last step ≡ same → Always (HasJoined (done ++ last ∷ []) step) (joining_behind g done last step same)
    behind-makes false e = put-behind
    behind-makes true e =
        let ends = same-ends last step e in
        let from = vocabulary_at g last.from in
        let to = vocabulary_at g last.to in
        always_bind (λ f. IsWalkFormula from to f × Covers f (union_of last.formula step.formula)) (HasJoined (done ++ last ∷ []) step)
        (either_formula last.formula step.formula from to) (λ f. Done (joining_of done record { from = last.from; to = last.to; formula = f }))
        (always-both (IsWalkFormula from to) (λ f. Covers f (union_of last.formula step.formula)) (either_formula last.formula step.formula from to)
        (either-walk from to last.formula step.formula last_is.formula (moved last step step_is ends))
        (either-covered from to last.formula step.formula last_is.formula (moved last step step_is ends)))
        (λ f now. put-together ends f now.0 now.1)

  after-makes : (done : List Step) (last : Option Step) (step : Step) → AreSteps g (done ++ option_to_list last) → IsStep g step
      → Always (HasJoined (done ++ option_to_list last) step) (joining_after g done last step)
  after-makes done None step old step_is = record {
    made = each-append (IsStep g) done (step ∷ []) (each-front (IsStep g) done [] old) (step_is, tt);
    keeps = λ from to f h. by_side from to f (some-cut (SaysNoLess from to f) done [] h);
    new = some-back (SaysNoLess step.from step.to step.formula) done (step ∷ []) (inl (itself step));
  }
    where
      by_side : (from to : ℕ) (f : Transition) → (IsCovered from to f done ⊎ ⊥) → IsCovered from to f (done ++ step ∷ [])
      by_side from to f (inl k) = some-front (SaysNoLess from to f) done (step ∷ []) k
      by_side from to f (inr k) = absurd k
  after-makes done (Some last) step old step_is =
      behind-makes done last step (each-front (IsStep g) done (last ∷ []) old) (each-back (IsStep g) done (last ∷ []) old).0 step_is (have_same_ends last step) refl

  -- each step that is not left is covered
  pub record KeepsJoining (steps : List Step) (rest : List ℕ) (joining : Joining) : Type 0 where
    pub below : AllByRecursion (λ n. n < length steps) rest
    pub made : AreSteps g (all_steps joining)
    pub covered : (n : ℕ) → n < length steps
        → IsIn n rest ⊎ IsCovered (step_at steps n).from (step_at steps n).to (step_at steps n).formula (all_steps joining)

  -- what is made of all steps
  pub record AreJoined (steps joined : List Step) : Type 0 where
    pub all : AreSteps g joined
    pub covered : (n : ℕ) → n < length steps → IsCovered (step_at steps n).from (step_at steps n).to (step_at steps n).formula joined

  module _ (steps : List Step) (known : AreSteps g steps) where
    pub with_joined-keeps : (number : ℕ) (rest : List ℕ) (joining : Joining) → KeepsJoining steps (number ∷ rest) joining → Always (KeepsJoining steps rest) (with_joined g steps joining number)
    unfolding with_joined
    with_joined-keeps number rest joining kept =
        always_weaker (HasJoined (all_steps joining) (step_at steps number)) (KeepsJoining steps rest) (joining_after g joining.done joining.last (step_at steps number))
        (λ next now. record { below = kept.below.1; made = now.made; covered = λ n lt. one_more next now n (kept.covered n lt) })
        (after-makes joining.done joining.last (step_at steps number) kept.made (step-known g steps number known kept.below.0))
      where
        one_more : (next : Joining) → HasJoined (all_steps joining) (step_at steps number) next → (n : ℕ)
            → (IsIn n (number ∷ rest) ⊎ IsCovered (step_at steps n).from (step_at steps n).to (step_at steps n).formula (all_steps joining))
            → IsIn n rest ⊎ IsCovered (step_at steps n).from (step_at steps n).to (step_at steps n).formula (all_steps next)
        one_more next now n (inl (inl e)) =
            inr (subst (λ k. IsCovered (step_at steps k).from (step_at steps k).to (step_at steps k).formula (all_steps next)) (sym e) now.new)
        one_more next now n (inl (inr h)) = inl h
        one_more next now n (inr h) = inr (now.keeps (step_at steps n).from (step_at steps n).to (step_at steps n).formula h)

    -- what is made goes on to be between the vocabularies of nodes
    pub joined-known : (number : ℕ) (joining : Joining) → number < length steps → AreSteps g (all_steps joining) → Always (λ next. AreSteps g (all_steps next)) (with_joined g steps joining number)
    unfolding with_joined
    joined-known number joining lt made =
        always_weaker (HasJoined (all_steps joining) (step_at steps number)) (λ next. AreSteps g (all_steps next)) (joining_after g joining.done joining.last (step_at steps number))
        (λ next now. now.made)
        (after-makes joining.done joining.last (step_at steps number) made (step-known g steps number known lt))

    pub order-below : AllByRecursion (λ n. n < length steps) (in_order (length g.nodes) steps)
    unfolding in_order
    order-below =
        each-ordered (length g.nodes) steps Start (λ n. n < length steps) (numbers_by_node (length g.nodes) steps Target (numbers_of steps))
        (each-ordered (length g.nodes) steps Target (λ n. n < length steps) (numbers_of steps) (each-below (λ n. n < length steps) 0 (length steps) (λ k lt. omega (arith, lt))))

    order-all : (n : ℕ) → n < length steps → IsIn n (in_order (length g.nodes) steps)
    unfolding in_order
    order-all n lt =
        let is = step-known g steps n known lt in
        in-ordered (length g.nodes) steps Start (numbers_by_node (length g.nodes) steps Target (numbers_of steps)) n is.start
        (in-ordered (length g.nodes) steps Target (numbers_of steps) n is.target (in-range 0 (length steps) n (omega arith) (omega (arith, lt))))

    pub joining-begins : KeepsJoining steps (in_order (length g.nodes) steps) no_steps
    joining-begins = record { below = order-below; made = tt; covered = λ n lt. inl (order-all n lt) }

    pub joined-keep : Always (AreJoined steps) (joined_steps g steps)
    unfolding joined_steps
    joined-keep =
        always_bind (KeepsJoining steps []) (AreJoined steps) (each (with_joined g steps) no_steps (in_order (length g.nodes) steps)) (λ joining. Done (all_steps joining))
        (always_each (KeepsJoining steps) (with_joined g steps) no_steps (in_order (length g.nodes) steps) with_joined-keeps joining-begins)
        (λ joining kept. record { all = kept.made; covered = λ n lt. at_end (all_steps joining) n (kept.covered n lt) })
      where
        at_end : (joined : List Step) (n : ℕ) → (IsIn n [] ⊎ IsCovered (step_at steps n).from (step_at steps n).to (step_at steps n).formula joined)
            → IsCovered (step_at steps n).from (step_at steps n).to (step_at steps n).formula joined
        at_end joined n (inl h) = absurd h
        at_end joined n (inr h) = h
