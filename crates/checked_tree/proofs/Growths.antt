-- Each step of the evaluation of a plan leaves growths of which each path that was made has its
-- tree.
use Rattle.std.specs.Prelude.{Bool, true, false, ◌==◌, slice_set}
use Rattle.std.specs.List.{flat_map}
use Rattle.std.proofs.Common.{◌≡◌, ◌<◌, ℕ, zero, suc, List, [], ◌∷◌, ◌++◌, length, map, replicate, Some, refl, sym, ◌∙◌, ap, subst, inl, inr, ◌⊎◌, append_assoc, eqb-true, eq-eqb, true≢false}
use Rattle.std.proofs.lemmas.List.{append-nil, map-append}
use Rattle.std.proofs.lemmas.Grind.{flat_map-append}
use Rattle.path_expr.specs.declared.cell.Cell.{Cell}
use Rattle.path_expr.specs.declared.link.Link.{Link}
use Rattle.path_expr.specs.Operations.{operations}
use Rattle.path_expr.specs.PathExpr.{PathExpr, Zero, One, Edge, Seq, Join, Star}
use Rattle.posing.specs.declared.log.Log.{Log}
use Rattle.checked_tree.specs.declared.growth.Growth.{Growth}
use Rattle.checked_tree.specs.declared.key.Key.{Key}
use Rattle.checked_tree.specs.declared.key.Key.TheVariants as key
use Rattle.checked_tree.specs.Graph.{Graph, link_at, vocabulary_at, start_of, end_of}
use Rattle.checked_tree.specs.Plan.{IsPathOf, ArePathsOf, IsPlanned}
use Rattle.checked_tree.specs.ByNumber.{blank, entry_at, key_at, ends_by}
use Rattle.checked_tree.specs.Ready.{IsAmong, IsReady, AreReady}
use Rattle.checked_tree.specs.Tree.{Own, Tree, own_of, path_of}
use Rattle.checked_tree.specs.Tree as tree
use Rattle.checked_tree.specs.Checked.{IsChecked}
use Rattle.checked_tree.specs.TreeLaw.{IsOf}
use Rattle.checked_tree.specs.Grown.{IsBuilt, AreBuilt}
use Rattle.checked_tree.specs.Growing.{bare_growth, IsDueLink, growth_at, grown_tree, entry_of_growth, entries_in, HasTree, IsGrowable, IsNextGrowth, IsTreeBy, HasGrown, IsTreeOf, IsGrownAs, IsPlantable, AreGrowing, IsLeafOf}
use Rattle.checked_tree.proofs.SameByNumber.{found_key, path-within, one-number, one-path, read-same, read-other, length-set, length-same}
use Rattle.checked_tree.proofs.Stands.{among-left, among-last, among-right}
use Rattle.checked_tree.proofs.EliminationSteps.{operations-ready}
use Rattle.checked_tree.proofs.Whole.{link-within, leaf-canonical}

-- ---- growths by their formulas

pub entry_at-growth : (growths : List Growth) (n : ℕ) → entry_at (entries_in growths) n ≡ entry_of_growth (growth_at growths n)
entry_at-growth [] n = refl
entry_at-growth (growth ∷ growths) zero = refl
entry_at-growth (growth ∷ growths) (suc n) = entry_at-growth growths n

pub entries-set : (growths : List Growth) (n : ℕ) (growth : Growth) → entries_in (slice_set growths n growth) ≡ slice_set (entries_in growths) n (entry_of_growth growth)
entries-set [] n growth = refl
entries-set (first ∷ growths) zero growth = refl
entries-set (first ∷ growths) (suc n) growth = ap (λ rest. entry_of_growth first ∷ rest) (entries-set growths n growth)

pub entries-bare : (n : ℕ) → entries_in (replicate n bare_growth) ≡ replicate n blank
entries-bare zero = refl
entries-bare (suc n) = ap (λ rest. blank ∷ rest) (entries-bare n)

same_some : {X : Type 0} (x y : X) → Some x ≡ Some y → x ≡ y
same_some x y e = cc

-- ---- the next operation

module _ (g : Graph) (source : ℕ) (keys : List Key) (start log : Log) (growths : List Growth) (n : ℕ) (rest : List ℕ) (way : AreGrowing g source keys start log growths (n ∷ rest)) where
  within : (p : PathExpr) (m : ℕ) → IsPathOf keys p m → m < length growths
  within p m is = subst (λ l. m < l) (sym way.long) (path-within g keys way.plantable.distinct p m is)

  has_tree : (p : PathExpr) (growth : Growth) (x : IsGrownAs g way.steps growth p) → HasTree g growth x.tree
  has_tree p growth x = record {
    is = x.is;
    from_is = x.of_path.from_is ∙ ap (vocabulary_at g) (sym x.from_is);
    to_is = x.of_path.to_is ∙ ap (vocabulary_at g) (sym x.to_is);
  }

  growable : (p : PathExpr) → IsPathOf keys p n → IsReady g (map path_of way.steps) p → IsGrowable g growths (key_at keys n)
  growable Zero is ready = absurd ready
  growable One is ready = absurd ready
  growable (Edge e) is ready =
      let evaluated = way.plantable.evaluated in
      let ends = link-within g source evaluated e ready in
      let due : IsDueLink g e = record {
        leaf_within = subst (λ l. e < l) (sym evaluated.one_each) ready;
        from_within = ends.0;
        to_within = ends.1;
        start = evaluated.ends (link_at g e).from ends.0;
        end = evaluated.ends (link_at g e).to ends.1;
        leaf = evaluated.leaves e ready;
      } in
      subst (IsGrowable g growths) (sym (found_key g keys way.plantable.distinct n (key.Edge e) is))
      (due, leaf-canonical g source evaluated way.plantable.leaves e ready)
  growable (Seq a b) is ready =
      let x = way.grown a is.0 is.3 ready.0 in
      let y = way.grown b is.1 is.4 ready.1 in
      subst (IsGrowable g growths) (sym (found_key g keys way.plantable.distinct n (key.Seq is.0 is.1) is.2)) (
        within a is.0 is.3,
        within b is.1 is.4,
        record { one = x.tree; one_is = has_tree a _ x; other = y.tree; other_is = has_tree b _ y; through = x.to_is ∙ ready.2 ∙ sym y.from_is },
      )
  growable (Join a b) is ready =
      let x = way.grown a is.0 is.3 ready.0 in
      let y = way.grown b is.1 is.4 ready.1 in
      subst (IsGrowable g growths) (sym (found_key g keys way.plantable.distinct n (key.Join is.0 is.1) is.2)) (
        within a is.0 is.3,
        within b is.1 is.4,
        record {
          one = x.tree;
          one_is = has_tree a _ x;
          other = y.tree;
          other_is = has_tree b _ y;
          starts = x.from_is ∙ ready.2 ∙ sym y.from_is;
          ends = x.to_is ∙ ready.3 ∙ sym y.to_is;
        },
      )
  growable (Star a) is ready =
      let x = way.grown a is.0 is.2 ready.0 in
      subst (IsGrowable g growths) (sym (found_key g keys way.plantable.distinct n (key.Star is.0) is.1)) (
        within a is.0 is.2,
        record { one = x.tree; one_is = has_tree a _ x; turns = x.to_is ∙ sym ready.1 ∙ sym x.from_is },
      )

  next-by : (paths : List PathExpr) → AreReady g (map path_of way.steps) paths → ArePathsOf keys paths (n ∷ rest) → IsNextGrowth g keys growths n
  next-by [] ready numbers = absurd numbers
  next-by (p ∷ paths) ready numbers = record { within = within p n numbers.0; growable = growable p numbers.0 ready.0 }

  pub next-growth : IsNextGrowth g keys growths n
  next-growth = next-by way.paths way.ready way.numbers

-- ---- the tree of a path, from those of its operands

module _ (g : Graph) where
  seq-of-path : (a b : PathExpr) (x y : Tree) (own : Own) → IsTreeOf g a x → IsTreeOf g b y → IsChecked (tree.Seq x y own) → IsTreeOf g (Seq a b) (tree.Seq x y own)
  seq-of-path a b x y own h k checked = record {
    path = λ i. Seq (h.path i) (k.path i);
    checked = checked;
    of = (h.of, k.of);
    from_is = checked.2.from_is ∙ h.from_is;
    to_is = checked.2.to_is ∙ k.to_is;
  }

  join-of-path : (a b : PathExpr) (x y : Tree) (own : Own) → IsTreeOf g a x → IsTreeOf g b y → IsChecked (tree.Join x y own) → IsTreeOf g (Join a b) (tree.Join x y own)
  join-of-path a b x y own h k checked = record {
    path = λ i. Join (h.path i) (k.path i);
    checked = checked;
    of = (h.of, k.of);
    from_is = checked.2.from_is ∙ h.from_is;
    to_is = checked.2.to_is ∙ h.to_is;
  }

  star-of-path : (a : PathExpr) (x : Tree) (own : Own) → IsTreeOf g a x → IsChecked (tree.Star x own) → IsTreeOf g (Star a) (tree.Star x own)
  star-of-path a x own h checked = record {
    path = λ i. Star (h.path i);
    checked = checked;
    of = h.of;
    from_is = checked.1.from_is ∙ h.from_is;
    to_is = checked.1.to_is ∙ h.from_is;
  }

  -- the tree of a path, made of steps
  record IsStepOf (steps : List Tree) (p : PathExpr) (t : Tree) : Type 0 where
    of_path : IsTreeOf g p t
    built : IsBuilt steps t

-- ---- a step more

pub append_one : {A : Type 0} (xs : List A) (x : A) (ys : List A) → (xs ++ x ∷ []) ++ ys ≡ xs ++ x ∷ ys
append_one xs x ys = append_assoc xs (x ∷ []) ys

built-more : (done steps : List Tree) (t : Tree) → AreBuilt done steps → IsBuilt (done ++ steps) t → AreBuilt done (steps ++ t ∷ [])
built-more done [] t all built = (subst (λ d. IsBuilt d t) (append-nil done) built, tt)
built-more done (x ∷ steps) t all built =
    (all.0, built-more (done ++ x ∷ []) steps t all.1 (subst (λ d. IsBuilt d t) (sym (append_one done x steps)) built))

flat-more : {X : Type 0} (f : Tree → List X) (steps : List Tree) (t : Tree) (first before after : List X) → before ≡ first ++ flat_map f steps → after ≡ before ++ f t → after ≡ first ++ flat_map f (steps ++ t ∷ [])
flat-more f steps t first before after old new =
    new ∙ ap (λ xs. xs ++ f t) old ∙ append_assoc first (flat_map f steps) (f t)
    ∙ ap (λ xs. first ++ (flat_map f steps ++ xs)) (sym (append-nil (f t))) ∙ ap (λ xs. first ++ xs) (sym (flat_map-append f steps (t ∷ [])))

module _ (g : Graph) (source : ℕ) (keys : List Key) (start before after : Log) (growths next : List Growth) (n : ℕ) (rest : List ℕ)
    (way : AreGrowing g source keys start before growths (n ∷ rest)) (grown : HasGrown g keys growths n before after next) where
  same_tree : (i : ℕ) (t : Tree) (p : PathExpr) (x : IsGrownAs g way.steps (growth_at growths i) p) → grown_tree (growth_at growths i) ≡ Some t → t ≡ x.tree
  same_tree i t p x is = same_some t x.tree (sym is ∙ x.is)

  by_key : (k : Key) → key_at keys n ≡ k → IsTreeBy g growths k grown.tree
  by_key k e = subst (λ k. IsTreeBy g growths k grown.tree) e grown.by

  step-of : (p : PathExpr) → IsPathOf keys p n → IsReady g (map path_of way.steps) p → IsStepOf g way.steps p grown.tree
  step-of Zero is ready = absurd ready
  step-of One is ready = absurd ready
  step-of (Edge e) is ready =
      let by : IsLeafOf g e grown.tree = by_key (key.Edge e) (found_key g keys way.plantable.distinct n (key.Edge e) is) in
      record {
        of_path = record {
          path = ap path_of by.is;
          checked = grown.new.checked;
          of = subst (IsOf g) (sym by.is) (ready, refl);
          from_is = by.from_is;
          to_is = by.to_is;
        };
        built = subst (IsBuilt way.steps) (sym by.is) tt;
      }
  step-of (Seq a b) is ready =
      let by = by_key (key.Seq is.0 is.1) (found_key g keys way.plantable.distinct n (key.Seq is.0 is.1) is.2) in
      let x = way.grown a is.0 is.3 ready.0 in
      let y = way.grown b is.1 is.4 ready.1 in
      let first = same_tree is.0 by.0 a x by.2 in
      let second = same_tree is.1 by.1 b y by.3 in
      let same : grown.tree ≡ tree.Seq x.tree y.tree (own_of grown.tree) = by.4 ∙ (λ i. tree.Seq (first i) (second i) (own_of grown.tree)) in
      record {
        of_path = subst (IsTreeOf g (Seq a b)) (sym same) (seq-of-path g a b x.tree y.tree (own_of grown.tree) x.of_path y.of_path (subst IsChecked same grown.new.checked));
        built = subst (IsBuilt way.steps) (sym same) (x.among, y.among);
      }
  step-of (Join a b) is ready =
      let by = by_key (key.Join is.0 is.1) (found_key g keys way.plantable.distinct n (key.Join is.0 is.1) is.2) in
      let x = way.grown a is.0 is.3 ready.0 in
      let y = way.grown b is.1 is.4 ready.1 in
      let left = same_tree is.0 by.0 a x by.2 in
      let right = same_tree is.1 by.1 b y by.3 in
      let same : grown.tree ≡ tree.Join x.tree y.tree (own_of grown.tree) = by.4 ∙ (λ i. tree.Join (left i) (right i) (own_of grown.tree)) in
      record {
        of_path = subst (IsTreeOf g (Join a b)) (sym same) (join-of-path g a b x.tree y.tree (own_of grown.tree) x.of_path y.of_path (subst IsChecked same grown.new.checked));
        built = subst (IsBuilt way.steps) (sym same) (x.among, y.among);
      }
  step-of (Star a) is ready =
      let by = by_key (key.Star is.0) (found_key g keys way.plantable.distinct n (key.Star is.0) is.1) in
      let x = way.grown a is.0 is.2 ready.0 in
      let turn = same_tree is.0 by.0 a x by.1 in
      let same : grown.tree ≡ tree.Star x.tree (own_of grown.tree) = by.2 ∙ (λ i. tree.Star (turn i) (own_of grown.tree)) in
      record {
        of_path = subst (IsTreeOf g (Star a)) (sym same) (star-of-path g a x.tree (own_of grown.tree) x.of_path (subst IsChecked same grown.new.checked));
        built = subst (IsBuilt way.steps) (sym same) x.among;
      }

  ends-of : (p : PathExpr) → IsPathOf keys p n → IsReady g (map path_of way.steps) p → ends_by g (entries_in growths) (key_at keys n) ≡ record { from = start_of g p; to = end_of g p }
  ends-of Zero is ready = absurd ready
  ends-of One is ready = absurd ready
  ends-of (Edge e) is ready = ap (ends_by g (entries_in growths)) (found_key g keys way.plantable.distinct n (key.Edge e) is)
  ends-of (Seq a b) is ready =
      let x = way.grown a is.0 is.3 ready.0 in
      let y = way.grown b is.1 is.4 ready.1 in
      ap (ends_by g (entries_in growths)) (found_key g keys way.plantable.distinct n (key.Seq is.0 is.1) is.2)
      ∙ (λ i. record { from = (entry_at-growth growths is.0 i).from; to = (entry_at-growth growths is.1 i).to })
      ∙ (λ i. record { from = x.from_is i; to = y.to_is i })
  ends-of (Join a b) is ready =
      let x = way.grown a is.0 is.3 ready.0 in
      ap (ends_by g (entries_in growths)) (found_key g keys way.plantable.distinct n (key.Join is.0 is.1) is.2)
      ∙ (λ i. record { from = (entry_at-growth growths is.0 i).from; to = (entry_at-growth growths is.0 i).to })
      ∙ (λ i. record { from = x.from_is i; to = x.to_is i })
  ends-of (Star a) is ready =
      let x = way.grown a is.0 is.2 ready.0 in
      ap (ends_by g (entries_in growths)) (found_key g keys way.plantable.distinct n (key.Star is.0) is.1)
      ∙ (λ i. record { from = (entry_at-growth growths is.0 i).from; to = (entry_at-growth growths is.0 i).from })
      ∙ (λ i. record { from = x.from_is i; to = x.from_is i })

  module _ (p : PathExpr) (is : IsPathOf keys p n) (ready : IsReady g (map path_of way.steps) p) where
    abbrev steps : List Tree
    steps = way.steps ++ grown.tree ∷ []

    step : IsStepOf g way.steps p grown.tree
    step = step-of p is ready

    paths-more : map path_of steps ≡ map path_of way.steps ++ p ∷ []
    paths-more = map-append path_of way.steps (grown.tree ∷ []) ∙ ap (λ q. map path_of way.steps ++ q ∷ []) step.of_path.path

    inside : n < length growths
    inside = subst (λ l. n < l) (sym way.long) (path-within g keys way.plantable.distinct p n is)

    now : IsGrownAs g steps (growth_at next n) p
    now =
        subst (λ growth. IsGrownAs g steps growth p) (sym (ap (λ all. growth_at all n) grown.set ∙ read-same bare_growth growths n grown.growth inside)) (record {
          tree = grown.tree;
          is = grown.tree_is;
          among = among-right grown.tree way.steps (grown.tree ∷ []) (inl refl);
          of_path = step.of_path;
          from_is = grown.from_is ∙ ap (λ (l : Link). l.from) (ends-of p is ready);
          to_is = grown.to_is ∙ ap (λ (l : Link). l.to) (ends-of p is ready);
        })

    earlier : (q : PathExpr) (m : ℕ) → (m ≡ n → ⊥) → IsGrownAs g way.steps (growth_at growths m) q → IsGrownAs g steps (growth_at next m) q
    earlier q m other x =
        subst (λ growth. IsGrownAs g steps growth q) (sym (ap (λ all. growth_at all m) grown.set ∙ read-other bare_growth growths m n grown.growth other)) (record {
          tree = x.tree;
          is = x.is;
          among = among-left x.tree way.steps (grown.tree ∷ []) x.among;
          of_path = x.of_path;
          from_is = x.from_is;
          to_is = x.to_is;
        })

    by_side : (q : PathExpr) (m : ℕ) → IsPathOf keys q m → (m ≡ n → ⊥) → IsAmong q (map path_of way.steps) ⊎ (q ≡ p) → IsGrownAs g steps (growth_at next m) q
    by_side q m here other (inl among) = earlier q m other (way.grown q m here among)
    by_side q m here other (inr same) = absurd (other (one-number keys way.plantable.distinct p m n (subst (λ r. IsPathOf keys r m) same here) is))

    by_test : (q : PathExpr) (m : ℕ) → IsPathOf keys q m → IsAmong q (map path_of steps) → (b : Bool) → (m == n) ≡ b → IsGrownAs g steps (growth_at next m) q
    by_test q m here among true e =
        let place : m ≡ n = eqb-true m n e in
        subst (λ k. IsGrownAs g steps (growth_at next k) q) (sym place)
        (subst (IsGrownAs g steps (growth_at next n)) (sym (one-path keys q p n (subst (IsPathOf keys q) place here) is)) now)
    by_test q m here among false e =
        by_side q m here (λ same. true≢false (sym (eq-eqb m n same) ∙ e)) (among-last q p (map path_of way.steps) (subst (IsAmong q) paths-more among))

    growing-by : (paths : List PathExpr) → AreReady g (map path_of way.steps ++ p ∷ []) paths → ArePathsOf keys paths rest → map path_of way.steps ++ p ∷ paths ≡ operations (length g.nodes) g.links source →
        AreGrowing g source keys start after next rest
    growing-by paths left numbers parts = record {
      plantable = way.plantable;
      steps = steps;
      paths = paths;
      long = ap length grown.set ∙ length-set growths n grown.growth ∙ way.long;
      grown = λ q m here among. by_test q m here among (m == n) refl;
      ready = subst (λ ps. AreReady g ps paths) (sym paths-more) left;
      numbers = numbers;
      parts = ap (λ ps. ps ++ paths) paths-more ∙ append_one (map path_of way.steps) p paths ∙ parts;
      noted = flat-more (λ t. (own_of t).log.notes) way.steps grown.tree start.notes before.notes after.notes way.noted grown.new.noted;
      answered = flat-more (λ t. (own_of t).log.answers) way.steps grown.tree start.answers before.answers after.answers way.answered grown.new.answered;
      shared = built-more [] way.steps grown.tree way.shared step.built;
    }

  next-by-paths : (paths : List PathExpr) → AreReady g (map path_of way.steps) paths → ArePathsOf keys paths (n ∷ rest) → map path_of way.steps ++ paths ≡ operations (length g.nodes) g.links source →
      AreGrowing g source keys start after next rest
  next-by-paths [] ready numbers parts = absurd numbers
  next-by-paths (p ∷ paths) ready numbers parts = growing-by p numbers.0 ready.0 paths ready.1 numbers.1 parts

  pub growing-next : AreGrowing g source keys start after next rest
  growing-next = next-by-paths way.paths way.ready way.numbers way.parts

-- ---- the beginning

pub growing-first : (g : Graph) (source : ℕ) (keys : List Key) (log : Log) (order : List ℕ) (cells : List (Cell ℕ)) → IsPlantable g source keys → IsPlanned (length g.nodes) g.links source keys order cells →
    AreGrowing g source keys log log (replicate (length keys) bare_growth) order
growing-first g source keys log order cells plantable planned = record {
  plantable = plantable;
  steps = [];
  paths = operations (length g.nodes) g.links source;
  long = length-same bare_growth (length keys);
  grown = λ p n is among. absurd among;
  ready = operations-ready g source plantable.evaluated.graph plantable.evaluated.source_is;
  numbers = planned.order_is;
  parts = refl;
  noted = sym (append-nil log.notes);
  answered = sym (append-nil log.answers);
  shared = tt;
}
