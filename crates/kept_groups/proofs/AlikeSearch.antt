-- The search for an alike group, and the summaries of the program whose groups were kept.
--     none-first, none-next, none-all      no group so far is alike
--     alike-found                          a group is alike
--     known-kept, put-next                 the summaries of all groups; one formula more
use Rattle.std.proofs.Common.{◌≡◌, Bor, ℕ, zero, suc, ◌+◌, ◌<◌, ◌≤◌, ◌⊎◌, inl, inr, List, [], ◌∷◌, length, drop, get_or, refl, sym, ap, subst, ◌∙◌, arith}
use Rattle.std.specs.Prelude.{IsSomeAnd, MatchOption, Option, None, Some, slice_get, slice_set, unwrap_or}
use Rattle.std.specs.List.{AllZip}
use Rattle.std.specs.Option.{IfSome, option_copied}
use Rattle.std.proofs.lemmas.List.{drop_more}
use Rattle.std.proofs.lemmas.Option.{slice_get-get_or, slice_get_past, slice_get_read, slice_get_within}
use Rattle.std.proofs.lemmas.Slice.Zip.{AllZip-left}
use Rattle.syntax_tree.specs.declared.program.Program.{Program}
use Rattle.transition_formula.specs.Transition.{Transition}
use Rattle.posing.specs.Follows.{IsGood}
use Rattle.newton_rounds.specs.Alike.{AreAlikeGroups}
use Rattle.analysis.specs.declared.found.Found.{Found}
use Rattle.analysis.specs.declared.planning.Planned.{Planned}
use Rattle.analysis.specs.Found.{nothing_found, put_at}
use Rattle.kept_groups.specs.declared.kept.KeptGroups.{KeptGroups}
use Rattle.kept_groups.specs.declared.kept.KeptPart.{KeptPart}
use Rattle.kept_groups.specs.Coming.{IsAlikeAt}
use Rattle.kept_groups.specs.Kept.{AreKept, Anything, IsPartOf, findings_with, kept_summaries, with_kept}
use Rattle.kept_groups.specs.OneGroup.{FindsAlike, with_summary_at, summaries_with}

-- ---- the search

one-other : {A : Type 0} (x y : A) (o : Option A) → o ≡ Some x → o ≡ Some y → x ≡ y
one-other x y o e f = ap (λ p. unwrap_or p x) (sym e ∙ f)

there : {A : Type 0} (P : A → Type 0) (o : Option A) → IsSomeAnd o P → (x : A) × (o ≡ Some x)
there P None h = absurd h
there P (Some x) h = (x, refl)

-- where a list of pairs has an element, so has the other
paired : {A B : Type 0} (Q : A → B → Type 0) (xs : List A) (ys : List B) (k : ℕ) (x : A) → AllZip Q xs ys → slice_get xs k ≡ Some x → (y : B) × (slice_get ys k ≡ Some y)
paired Q xs ys k x all at =
    there (Q x) (slice_get ys k) (subst (λ o. MatchOption o (Unit {0}) (λ z. IsSomeAnd (slice_get ys k) (Q z))) at (AllZip-left Q xs ys all k))

last-or-before : (n i : ℕ) → n < i + 1 → (n < i) ⊎ (n ≡ i)
last-or-before zero zero lt = inr refl
last-or-before zero (suc i) lt = inl (omega arith)
last-or-before (suc n) zero lt = absurd (omega (arith, lt))
last-or-before (suc n) (suc i) lt = go (last-or-before n i (omega (arith, lt)))
  where
    go : (n < i) ⊎ (n ≡ i) → (suc n < suc i) ⊎ (suc n ≡ suc i)
    go (inl less) = inl (omega (arith, less))
    go (inr same) = inr (ap suc same)

-- an element that is asked for, if it is there
pub got : {A : Type 0} (P : Bor A → Type 0) (r : Option (Bor A)) (xs : List A) (i : ℕ) → IfSome r (λ x. x.now ≡ get_or xs i x.now) → MatchOption r (length xs ≤ i) (λ x. (i < length xs) × P x) → option_copied r ≡ slice_get xs i
got P None xs i value at = sym (slice_get_past xs i at)
got P (Some x) xs i value at = sym (slice_get_read xs (length xs) i x.now refl at.0 value)

-- where an element stands
pub placed : {A : Type 0} (xs ys : List A) (i : ℕ) (x : A) → ys ≡ xs → i < length ys → x ≡ get_or ys i x → slice_get xs i ≡ Some x
placed xs ys i x same lt is = subst (λ zs. slice_get zs i ≡ Some x) same (slice_get-get_or ys i x lt ∙ ap (λ y. Some y) (sym is))

module _ (program : Program) (known : List (Option Transition)) (planned : Planned) (kept : KeptGroups) where
  abbrev IsAlikeTo : Planned → Type 0
  IsAlikeTo other = AreAlikeGroups program kept.program planned.procs other.procs known (kept_summaries kept)

  pub alike-words : (procs : List ℕ) (other_known : List (Option Transition)) (other : Planned) → procs ≡ planned.procs → other_known ≡ kept_summaries kept
      → AreAlikeGroups program kept.program procs other.procs known other_known ≡ IsAlikeTo other
  alike-words procs other_known other same_procs same_known = λ i. AreAlikeGroups program kept.program (same_procs i) other.procs known (same_known i)

  -- no group before this place is alike
  pub record NoneBefore (count : ℕ) : Type 0 where
    pub none : (place : ℕ) → place < count → ¬ IsAlikeAt program known planned kept place

  pub none-first : NoneBefore 0
  none-first = record { none = λ place lt. absurd (omega (arith, lt)) }

  pub none-next : (i : ℕ) (other : Planned) → slice_get kept.plan i ≡ Some other → ¬ IsAlikeTo other → NoneBefore i → NoneBefore (i + 1)
  none-next i other at differ before = record { none = λ place lt alike. go place alike (last-or-before place i lt) }
    where
      go : (place : ℕ) → IsAlikeAt program known planned kept place → (place < i) ⊎ (place ≡ i) → ⊥
      go place alike (inl less) = before.none place less alike
      go place alike (inr same) =
          differ (subst IsAlikeTo (one-other alike.other other (slice_get kept.plan i) (subst (λ n. slice_get kept.plan n ≡ Some alike.other) same alike.is) at) alike.alike)

  pub none-all : (i : ℕ) → length kept.plan ≤ i → NoneBefore i → FindsAlike (Some kept) program known planned None
  none-all i end before =
      record { is = λ place alike. let lt = slice_get_within kept.plan place alike.other alike.is in before.none place (omega (arith, lt, end)) alike }

  pub alike-found : (i : ℕ) (other : Planned) → AreKept Anything kept → slice_get kept.plan i ≡ Some other → IsAlikeTo other → (found : Option KeptPart) → found ≡ slice_get kept.parts i
      → FindsAlike (Some kept) program known planned found
  alike-found i other are at alike found is =
      let own = paired (IsPartOf (IsGood Anything) kept.program (kept_summaries kept)) kept.plan kept.parts i other are.parts at in
      subst (FindsAlike (Some kept) program known planned) (sym own.1 ∙ sym is)
      (record { is = record { place = i; alike = record { other = other; is = at; alike = alike }; is = own.1 } })

-- ---- the summaries

known-with : (found : Found) (plan : List Planned) (parts : List KeptPart) → (findings_with found plan parts).known ≡ summaries_with found.known plan parts
known-with found [] [] = refl
known-with found [] (part ∷ parts) = refl
known-with found (planned ∷ plan) [] = refl
known-with found (planned ∷ plan) (part ∷ parts) = known-with (with_kept found planned part) plan parts

pub known-kept : (kept : KeptGroups) → summaries_with (nothing_found (length kept.program.procs)).known kept.plan kept.parts ≡ kept_summaries kept
known-kept kept = sym (known-with (nothing_found (length kept.program.procs)) kept.plan kept.parts)

set-past : {A : Type 0} (xs : List A) (place : ℕ) (x : A) → length xs ≤ place → slice_set xs place x ≡ xs
set-past [] place x past = refl
set-past (y ∷ xs) zero x past = absurd (omega (arith, past))
set-past (y ∷ xs) (suc place) x past = ap (λ rest. y ∷ rest) (set-past xs place x (omega (arith, past)))

pub at-past : (known : List (Option Transition)) (place : ℕ) (formula : Option Transition) → length known ≤ place → with_summary_at place formula known ≡ known
at-past known place None past = refl
at-past known place (Some f) past = set-past known place (Some f) past

put-nothing : (places : List ℕ) (known : List (Option Transition)) → put_at places [] known ≡ known
put-nothing [] known = refl
put-nothing (place ∷ places) known = refl

put-after : (place : ℕ) (places : List ℕ) (formulas : List Transition) (i : ℕ) (known : List (Option Transition))
    → put_at places (drop (suc i) formulas) (with_summary_at place (slice_get formulas i) known) ≡ put_at (place ∷ places) (drop i formulas) known
put-after place places [] zero known = put-nothing places known
put-after place places [] (suc i) known = put-nothing places known
put-after place places (f ∷ formulas) zero known = refl
put-after place places (f ∷ formulas) (suc i) known = put-after place places formulas i known

-- what is left to put, with one formula put
pub put-next : (places : List ℕ) (formulas : List Transition) (i : ℕ) (known next : List (Option Transition))
    → i < length places → next ≡ with_summary_at (get_or places i 0) (slice_get formulas i) known
    → put_at (drop (i + 1) places) (drop (i + 1) formulas) next ≡ put_at (drop i places) (drop i formulas) known
put-next places formulas i known next lt made =
    let more : i + 1 ≡ suc i = omega arith in
    ap (λ n. put_at (drop (i + 1) places) (drop n formulas) next) more
    ∙ ap (put_at (drop (i + 1) places) (drop (suc i) formulas)) made
    ∙ put-after (get_or places i 0) (drop (i + 1) places) formulas i known
    ∙ ap (λ ps. put_at ps (drop i formulas) known) (sym (drop_more places i 0 lt))
