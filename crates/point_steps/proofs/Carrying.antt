-- One case after another, where posts of the first one are told too.
use Rattle.std.proofs.Common.{◌≡◌, inl, inr, ℕ, ◌+◌, ◌<◌, ◌≤◌, ℤ, length, map, get_or, List, [], ◌∷◌, ◌++◌, refl, sym, subst, ◌∙◌, length-append, arith}
use Rattle.std.specs.Prelude.{IsTrue}
use Rattle.std.specs.List.{AllByRecursion, list_all, flat_map}
use Rattle.std.proofs.lemmas.List.{map-append}
use Rattle.std.proofs.lemmas.List.Folds.{list_all-append}
use Rattle.std.proofs.lemmas.List.Sums.{count_by-le-length}
use Rattle.std.proofs.lemmas.Option.{slice_get_read}
use Rattle.items.proofs.Each.{each-append, each-flat_map, each-get, each-map}
use Rattle.linear_terms.specs.declared.col.Col.{Col}
use Rattle.linear_terms.specs.declared.col.Col.TheVariants.{At, Aux}
use Rattle.linear_terms.specs.declared.row.Case.{Case}
use Rattle.linear_terms.specs.Polynomial.{Polynomial}
use Rattle.linear_terms.specs.Row.{RowHolds}
use Rattle.linear_terms.specs.Value.{Valuation, value_of}
use Rattle.transition_formula.specs.Composition.{after_case, rows_by, sequence_of_cases}
use Rattle.transition_formula.specs.Meaning.{HoldsAt, HoldsCase, HoldsSome, numbers}
use Rattle.transition_formula.specs.Transition.{every_column, is_below}
use Rattle.transition_formula.proofs.ColumnTests.{all_more, both_true, lost, more_columns}
use Rattle.transition_formula.proofs.Fitting.{Fitting, is_below-more, true-below}
use Rattle.transition_formula.proofs.Meanings.{after-keeps, both_aux, first_aux, lost_aux, second_aux, some-left, some-right}
use Rattle.transition_formula.proofs.Values.{lost_values, posts-agree, posts_by-values, rows-agree, rows_by-hold}
use Rattle.point_steps.specs.States.{told_case}

-- ---- numbers for the auxiliaries of a sequence

-- the sequence holds, by numbers for auxiliaries that are those of the first case where it has them
pub record Carries (first second : Case) (before after : List ℤ) (own : ℕ → ℤ) : Type 0 where
  pub aux : ℕ → ℤ
  pub holds : HoldsAt (numbers before aux) (sequence_of_cases first second) after
  pub same : (n : ℕ) → n < first.aux → own n ≡ aux n

agrees : (from a : ℕ) (before : List ℤ) (own aux : ℕ → ℤ) → ((n : ℕ) → n < a → own n ≡ aux n) → (c : Col) → IsTrue (is_below from a c) → numbers before own c ≡ numbers before aux c
agrees from a before own aux same (At n) e = refl
agrees from a before own aux same (Aux n) e = same n (true-below n a e)

pub sequence-carries : (from between to : ℕ) (first second : Case) → Fitting from between first → Fitting between to second → (before middle after : List ℤ) (h : HoldsCase first before middle) → HoldsCase second middle after → Carries first second before after h.0
sequence-carries from between to first second f s before middle after h k =
    let op = after_case first second in
    let v2 = numbers middle k.0 in
    let values = lost_values op v2 second.post in
    let aux = both_aux first.aux second.aux h.0 k.0 values in
    let w = numbers before aux in
    let same : (n : ℕ) → n < first.aux → h.0 n ≡ aux n = λ n lt. first_aux first.aux second.aux h.0 k.0 values n lt in
    let agree : (c : Col) → IsTrue (is_below from first.aux c) → numbers before h.0 c ≡ w c = agrees from first.aux before h.0 aux same in
    let reads : map (value_of w) first.post ≡ middle = sym (posts-agree (numbers before h.0) w (is_below from first.aux) agree first.post f.posts_are) ∙ h.1.posts in
    let keeps = after-keeps from between to first second f s w middle k.0 reads (λ n lt. second_aux first.aux second.aux h.0 k.0 values n lt) in
    record {
      aux = aux;
      holds = record {
        rows =
            each-append (RowHolds w) first.rows (rows_by op second.rows) (rows-agree (numbers before h.0) w (is_below from first.aux) agree first.rows f.rows_are h.1.rows)
            (rows_by-hold op (is_below between second.aux) v2 w keeps second.rows s.rows_are k.1.rows);
        posts = posts_by-values op (is_below between second.aux) v2 w keeps (first.aux + second.aux) second.post s.posts_are (λ j lt. lost_aux first.aux second.aux h.0 k.0 values j) ∙ k.1.posts;
      };
      same = same;
    }

-- polynomials over the columns of the first case have the values that they had
pub carried-values : (from : ℕ) (first second : Case) (before after : List ℤ) (own : ℕ → ℤ) (carries : Carries first second before after own) (posts : List Polynomial) → IsTrue (list_all (every_column (is_below from first.aux)) posts)
    → map (value_of (numbers before carries.aux)) posts ≡ map (value_of (numbers before own)) posts
carried-values from first second before after own carries posts h =
    sym (posts-agree (numbers before own) (numbers before carries.aux) (is_below from first.aux) (agrees from first.aux before own carries.aux carries.same) posts h)

-- ---- further posts

pub told-holds : (w : Valuation) (case : Case) (front behind : List Polynomial) (x after y : List ℤ) → map (value_of w) front ≡ x → HoldsAt w case after → map (value_of w) behind ≡ y → HoldsAt w (told_case front behind case) (x ++ (after ++ y))
told-holds w case front behind x after y e h f = record {
  rows = h.rows;
  posts = map-append (value_of w) front (case.post ++ behind) ∙ (λ i. e i ++ (map-append (value_of w) case.post behind ∙ (λ j. h.posts j ++ f j)) i);
}

pub told-fitting : (from to : ℕ) (case : Case) (front behind : List Polynomial) → Fitting from to case → IsTrue (list_all (every_column (is_below from case.aux)) front) → IsTrue (list_all (every_column (is_below from case.aux)) behind)
    → Fitting from (length front + (to + length behind)) (told_case front behind case)
told-fitting from to case front behind f h k =
    let test = every_column (is_below from case.aux) in
    record {
      length_is = length-append front (case.post ++ behind) ∙ (λ i. length front + (length-append case.post behind ∙ (λ j. f.length_is j + length behind)) i);
      rows_are = f.rows_are;
      posts_are =
          list_all-append test front (case.post ++ behind)
          ∙ both_true (list_all test front) (list_all test (case.post ++ behind)) h (list_all-append test case.post behind ∙ both_true (list_all test case.post) (list_all test behind) f.posts_are k);
    }

-- what has the columns of the first case has those of the sequence
pub carried-below : (from : ℕ) (first second : Case) (posts : List Polynomial) → IsTrue (list_all (every_column (is_below from first.aux)) posts) → IsTrue (list_all (every_column (is_below from (sequence_of_cases first second).aux)) posts)
carried-below from first second posts h =
    let end : ℕ = (sequence_of_cases first second).aux in
    all_more (every_column (is_below from first.aux)) (every_column (is_below from end)) (more_columns (is_below from first.aux) (is_below from end) (is_below-more from first.aux end (omega arith))) posts h

pub sequence-aux : (m n to : ℕ) (first second : Case) → first.aux ≤ m → second.aux ≤ n → length second.post ≡ to → (sequence_of_cases first second).aux ≤ m + n + to
sequence-aux m n to first second a b long = let most = count_by-le-length (lost (after_case first second)) second.post in omega (arith, most, a, b, long)

-- ---- each case of one list with each of another

pub each-pair : (f : Case → Case → Case) (P Q R : Case → Type 0) → ((x y : Case) → P x → Q y → R (f x y)) → (xs ys : List Case) → AllByRecursion P xs → AllByRecursion Q ys → AllByRecursion R (flat_map (λ x. map (f x) ys) xs)
each-pair f P Q R tells xs ys h k = each-flat_map P R (λ x. map (f x) ys) (λ x one. each-map Q R (f x) (λ y two. tells x y one two) ys k) xs h

-- for loops: what each has, the one at an index has
pub each-at : {A : Type 0} (P : A → Type 0) (xs ys : List A) (i : ℕ) (x : A) → AllByRecursion P ys → xs ≡ ys → i < length xs → x ≡ get_or xs i x → P x
each-at P xs ys i x h same lt is = each-get P xs i x (subst (AllByRecursion P) (sym same) h) (slice_get_read xs (length xs) i x refl lt is)

-- two states for each list, and for what is made of both
pub record States : Type 0 where
  pub first_before : List ℤ
  pub first_after : List ℤ
  pub second_before : List ℤ
  pub second_after : List ℤ
  pub before : List ℤ
  pub after : List ℤ

module _ (f : Case → Case → Case) (P Q : Case → Type 0) (s : States)
    (tells : (x y : Case) → P x → Q y → HoldsCase x s.first_before s.first_after → HoldsCase y s.second_before s.second_after → HoldsCase (f x y) s.before s.after) where
  one-pair : (x : Case) (ys : List Case) → P x → AllByRecursion Q ys → HoldsCase x s.first_before s.first_after → HoldsSome ys s.second_before s.second_after → HoldsSome (map (f x) ys) s.before s.after
  one-pair x [] h k a b = absurd b
  one-pair x (y ∷ ys) h k a (inl b) = inl (tells x y h k.0 a b)
  one-pair x (y ∷ ys) h k a (inr b) = inr (one-pair x ys h k.1 a b)

  pub some-pair : (xs ys : List Case) → AllByRecursion P xs → AllByRecursion Q ys → HoldsSome xs s.first_before s.first_after → HoldsSome ys s.second_before s.second_after → HoldsSome (flat_map (λ x. map (f x) ys) xs) s.before s.after
  some-pair [] ys h k a b = absurd a
  some-pair (x ∷ xs) ys h k (inl a) b = some-left (map (f x) ys) (flat_map (λ z. map (f z) ys) xs) s.before s.after (one-pair x ys h.0 k a b)
  some-pair (x ∷ xs) ys h k (inr a) b = some-right (map (f x) ys) (flat_map (λ z. map (f z) ys) xs) s.before s.after (some-pair xs ys h.1 k a b)
