-- What a log gained in a call is what the call kept, and calls that end for want of memory behind
-- one.
use Rattle.std.specs.Prelude.{Result, IfOk}
use Rattle.std.proofs.Common.{◌≡◌, ℕ, ◌<◌, get_or, List, ◌++◌, length, drop, Ok, Err, IsErrAnd, refl, sym, ◌∙◌, ap, subst, ◌≤◌, arith}
use Rattle.std.proofs.lemmas.List.{length-append}
use Rattle.std.proofs.Math.Seq.{drop-append_seam}
use Rattle.farkas_check.specs.Asking.{Asking}
use Rattle.farkas_check.specs.Tested.{Passes}
use Rattle.posing.specs.declared.error.WorkError.{WorkError}
use Rattle.posing.specs.declared.error.WorkError.TheVariants.{Memory}
use Rattle.posing.specs.declared.log.Log.{Log}
use Rattle.posing.specs.Posing.{Posing, Done, Path, ◌>>=◌, each}
use Rattle.posing.specs.Follows.{IsGood, Leads, Follows}
use Rattle.posing.specs.Replay.{Keeps}
use Rattle.posing.proofs.Following.{stops}
use Rattle.posing.proofs.Paths.{path_map}
use Rattle.posing.proofs.Steps.{all_left, each_fails, error_first, in_other_words}
use Rattle.polyhedra.specs.Laws.{HaveCanonicalRows}
use Rattle.polyhedra.specs.Vocabulary.{Vocabulary}
use Rattle.phases.specs.Law.{IsPhasable}
use Rattle.transition_formula.specs.Transition.{Transition}
use Rattle.checked_tree.specs.declared.mark.LogMark.{LogMark}
use Rattle.checked_tree.specs.Law.{IsBetweenEnds}
use Rattle.checked_tree.specs.Operands.{AreInSequence, AreEither}
use Rattle.checked_tree.specs.Tree.{Own, Tree, own_of, formula_of}
use Rattle.checked_tree.specs.Checked.{IsMade, IsChecked}
use Rattle.checked_tree.specs.Grown.{result_map}
use Rattle.checked_tree.specs.Growing.{log_gain, own_with, IsNew}
use Rattle.checked_tree.proofs.Between.{phasable}
use Rattle.checked_tree.proofs.Trees.{tree-ends, trees-fit}

-- a list behind what it had before
gained-more : {X : Type 0} (before after more : List X) → after ≡ before ++ more → drop (length before) after ≡ more
gained-more before after more e = ap (drop (length before)) e ∙ drop-append_seam before more

no-shorter : {X : Type 0} (before after more : List X) → after ≡ before ++ more → length before ≤ length after
no-shorter before after more e = let long = ap length e ∙ length-append before more in omega arith

module _ {S A : Type 0} {O : Asking S} {old new : S} {before after : Log} {p : Posing A} {value : A} (follows : Follows O old new before after (Ok value) p) where
  pub notes-within : length before.notes ≤ length after.notes
  notes-within = no-shorter before.notes after.notes follows.comes.notes follows.comes.noted

  pub answers-within : length before.answers ≤ length after.answers
  answers-within = no-shorter before.answers after.answers follows.comes.answers follows.comes.logged

  -- the log gained notes and answers that lead the computation to its value
  pub gained-keeps : Keeps Passes p value (log_gain (length before.notes) (length before.answers) after).notes (log_gain (length before.notes) (length before.answers) after).answers
  gained-keeps =
      let notes = gained-more before.notes after.notes follows.comes.notes follows.comes.noted in
      let answers = gained-more before.answers after.answers follows.comes.answers follows.comes.logged in
      record {
        path = subst (λ ns. Path Passes p ns (drop (length before.answers) after.answers) (Done value)) (sym notes)
            (subst (λ given. Path Passes p follows.comes.notes given (Done value)) (sym answers)
            (path_map (IsGood O.allows) Passes p (Done value) follows.comes.notes follows.comes.answers (λ question answer good. good.passes) follows.comes.path));
      }

  pub gained-notes : after.notes ≡ before.notes ++ drop (length before.notes) after.notes
  gained-notes = follows.comes.noted ∙ ap (λ ns. before.notes ++ ns) (sym (gained-more before.notes after.notes follows.comes.notes follows.comes.noted))

  pub gained-answers : after.answers ≡ before.answers ++ drop (length before.answers) after.answers
  gained-answers = follows.comes.logged ∙ ap (λ ns. before.answers ++ ns) (sym (gained-more before.answers after.answers follows.comes.answers follows.comes.logged))

  -- memory is wanting behind it
  pub halts_plain : (result : Result A WorkError) → IsErrAnd result (λ e. e ≡ Memory) → Follows O old new before after result p
  halts_plain result failed = all_left follows.comes (stops _ _ _ _ _ _ refl failed)

  pub halts : {B : Type 0} (result : Result B WorkError) (f : B → A) → IsErrAnd result (λ e. e ≡ Memory) → Follows O old new before after (result_map f result) p
  halts result f failed = all_left follows.comes (stops _ _ _ _ _ _ refl (mapped-error f result failed))
    where
      mapped-error : {B : Type 0} (f : B → A) (r : Result B WorkError) → IsErrAnd r (λ e. e ≡ Memory) → IsErrAnd (result_map f r) (λ e. e ≡ Memory)
      mapped-error f (Ok x) h = absurd h
      mapped-error f (Err e) h = h

-- a call that failed, in other words
pub error_in_other_words : {S A : Type 0} {O : Asking S} {old new : S} {before after : Log} {p q : Posing A} {result : Result A WorkError} {error : WorkError} →
    Follows O old new before after (Err error) q → q ≡ p → IsErrAnd result (λ e. e ≡ error) → Follows O old new before after result p
error_in_other_words {result = Ok x} follows same is = absurd is
error_in_other_words {O = O} {old = old} {new = new} {before = before} {after = after} {q = q} {result = Err e} follows same is =
    in_other_words same (subst (λ d. Follows O old new before after (Err d) q) (sym is) follows)

-- a call that failed, its value seen in another way
pub fails : {S A B : Type 0} {O : Asking S} {old new : S} {before after : Log} {p q : Posing A} {error : WorkError} (result : Result B WorkError) (f : B → A) →
    Follows O old new before after (Err error) q → q ≡ p → IsErrAnd result (λ e. e ≡ error) → Follows O old new before after (result_map f result) p
fails (Ok x) f follows same is = absurd is
fails {O = O} {old = old} {new = new} {before = before} {after = after} {q = q} (Err e) f follows same is =
    in_other_words same (subst (λ d. Follows O old new before after (Err d) q) (sym is) follows)

-- a first part that failed, and then more; the value is seen in another way
pub first_fails : {S A B C : Type 0} {O : Asking S} {old new : S} {before after : Log} {p q : Posing A} {error : WorkError} (result : Result C WorkError) (f : C → B) (rest : A → Posing B) →
    Follows O old new before after (Err error) q → q ≡ p → IsErrAnd result (λ e. e ≡ error) → Follows O old new before after (result_map f result) (p >>= rest)
first_fails (Ok x) f rest follows same is = absurd is
first_fails (Err e) f rest follows same is = error_first rest follows same is

-- memory was wanting before anything was asked
pub wanting : {S A B : Type 0} {O : Asking S} {state : S} {log : Log} {p : Posing A} (result : Result B WorkError) (f : B → A) → IsErrAnd result (λ e. e ≡ Memory) → Follows O state state log log (result_map f result) p
wanting (Ok x) f failed = absurd failed
wanting (Err e) f failed = stops _ _ _ _ _ _ refl failed

-- a step of a loop that failed
pub step_fails : {S A B C : Type 0} {O : Asking S} {old now new : S} {before between after : Log} {whole : Posing B} {made : B} {x : A} {error : WorkError} (result : Result C WorkError) (f : C → B) (step : B → A → Posing B) (xs : List A) (i : ℕ)
    → Leads O old now before between whole (each step made (drop i xs)) → i < length xs → x ≡ get_or xs i x → Follows O now new between after (Err error) (step made x) → IsErrAnd result (λ e. e ≡ error)
    → Follows O old new before after (result_map f result) whole
step_fails (Ok value) f step xs i leads lt is one failed = absurd failed
step_fails (Err e) f step xs i leads lt is one failed = each_fails step xs i leads lt is one failed

-- a value that is another one
pub as_value : {S A : Type 0} {O : Asking S} {old new : S} {before after : Log} {p : Posing A} {value other : A} → other ≡ value → Follows O old new before after (Ok value) p → Follows O old new before after (Ok other) p
as_value {O = O} {old = old} {new = new} {before = before} {after = after} {p = p} same follows = subst (λ x. Follows O old new before after (Ok x) p) (sym same) follows

-- ---- a step that keeps what its operation gained

-- how many notes and answers a log has
abbrev mark_of : Log → LogMark
mark_of log = record { notes = length log.notes; answers = length log.answers }

module _ {S : Type 0} {O : Asking S} {old new : S} {before after : Log} {p : Posing Transition} {value : Transition} (follows : Follows O old new before after (Ok value) p) (mark : LogMark) (is : mark ≡ mark_of before) where
  pub made-by : (from to : Vocabulary) → HaveCanonicalRows value.cases → IsMade (own_with from to value mark after) p
  made-by from to canonical =
      subst (λ m. IsMade (own_with from to value m after) p) (sym is) (record { kept = gained-keeps follows; canonical = canonical })

  pub new-by : (t : Tree) (from to : Vocabulary) → own_of t ≡ own_with from to value mark after → IsChecked t → IsNew before after t
  new-by t from to own checked =
      let log : (own_of t).log ≡ log_gain (length before.notes) (length before.answers) after =
      ap (λ (o : Own). o.log) own ∙ ap (λ (m : LogMark). log_gain m.notes m.answers after) is in
      record {
        checked = checked;
        noted = gained-notes follows ∙ ap (λ (l : Log). before.notes ++ l.notes) (sym log);
        answered = gained-answers follows ∙ ap (λ (l : Log). before.answers ++ l.answers) (sym log);
      }

-- ---- what operations ask of checked trees

-- the operands, and their vocabularies, as calls hand them on
pub seq-operands : (a b : Tree) (from to : Vocabulary) (f g : Transition) → from ≡ (own_of a).from → to ≡ (own_of b).to → f ≡ formula_of a → g ≡ formula_of b → IsChecked a → IsChecked b →
    (own_of a).to ≡ (own_of b).from → AreInSequence from to f g
seq-operands a b from to f g from_is to_is one other h k through =
    subst (λ v. AreInSequence v to f g) (sym from_is) (subst (λ v. AreInSequence (own_of a).from v f g) (sym to_is)
    (subst (λ x. AreInSequence (own_of a).from (own_of b).to x g) (sym one) (subst (AreInSequence (own_of a).from (own_of b).to (formula_of a)) (sym other) (record {
      through = (own_of a).to;
      start = (tree-ends a h).0;
      end = (tree-ends b k).1;
      first_is = trees-fit a h;
      second_is = subst (λ v. IsBetweenEnds v (own_of b).to (formula_of b)) (sym through) (trees-fit b k);
    }))))

pub join-operands : (a b : Tree) (from to : Vocabulary) (f g : Transition) → from ≡ (own_of a).from → to ≡ (own_of a).to → f ≡ formula_of a → g ≡ formula_of b → IsChecked a → IsChecked b →
    (own_of a).from ≡ (own_of b).from → (own_of a).to ≡ (own_of b).to → AreEither from to f g
join-operands a b from to f g from_is to_is one other h k starts ends =
    subst (λ v. AreEither v to f g) (sym from_is) (subst (λ v. AreEither (own_of a).from v f g) (sym to_is)
    (subst (λ x. AreEither (own_of a).from (own_of a).to x g) (sym one) (subst (AreEither (own_of a).from (own_of a).to (formula_of a)) (sym other) (record {
      start = (tree-ends a h).0;
      end = (tree-ends a h).1;
      left_is = trees-fit a h;
      right_is = subst (λ v. IsBetweenEnds v (own_of a).to (formula_of b)) (sym starts)
          (subst (λ v. IsBetweenEnds (own_of b).from v (formula_of b)) (sym ends) (trees-fit b k));
    }))))

pub star-operand : (a : Tree) (voc : Vocabulary) (f : Transition) → voc ≡ (own_of a).from → f ≡ formula_of a → IsChecked a → (own_of a).to ≡ (own_of a).from → IsPhasable f voc
star-operand a voc f voc_is one h turns =
    subst (IsPhasable f) (sym voc_is) (subst (λ x. IsPhasable x (own_of a).from) (sym one)
    (phasable (own_of a).from (tree-ends a h).0 (formula_of a) (subst (λ v. IsBetweenEnds (own_of a).from v (formula_of a)) turns (trees-fit a h))))

-- ---- clauses of a value

-- what three properties of a value give together
pub if_all : {A E : Type 0} (r : Result A E) (P Q R T : A → Type 0) → IfOk r P → IfOk r Q → IfOk r R → ((x : A) → P x → Q x → R x → T x) → IfOk r T
if_all (Ok x) P Q R T h k l all = all x h k l
if_all (Err e) P Q R T h k l all = tt
