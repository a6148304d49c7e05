-- Where an assertion stands has the columns that are asked for.
use Rattle.std.proofs.Common.{◌≡◌, ℕ, zero, suc, ◌+◌, ◌-◌, ◌<◌, ◌≤◌, Bool, true, false, length, take, List, [], ◌∷◌, ◌++◌, Some, refl, sym, ap, subst, ◌∙◌, append_assoc, length-append, arith}
use Rattle.std.specs.Prelude.{slice_get}
use Rattle.std.specs.List.{AllByRecursion, range_with_len}
use Rattle.std.proofs.lemmas.List.{take_at}
use Rattle.std.proofs.lemmas.List.Elements.{All-from_recursion}
use Rattle.items.proofs.Each.{each-front}
use Rattle.polyhedra.specs.Vocabulary.{IsVocabulary}
use Rattle.syntax_tree.specs.declared.program.Column.{Column}
use Rattle.syntax_tree.specs.declared.program.Proc.{Proc}
use Rattle.syntax_tree.specs.declared.program.Program.{Program}
use Rattle.syntax_tree.specs.WellFormed.{IsProcFit, IsWellFormed, has_name, width_of}
use Rattle.vocabularies.specs.Ends.{full_of, named_columns_from, named_if, start_of}
use Rattle.context.specs.Ends.{IsPlace}
use Rattle.context.specs.Verdicts.{place_of, shown_columns_of}
use Rattle.context.proofs.FurtherPosts.{length-range}

pub got : {A : Type 0} (xs : List A) (k : ℕ) → k < length xs → (x : A) × (slice_get xs k ≡ Some x)
got [] k lt = absurd (omega arith)
got (x ∷ xs) zero lt = (x, refl)
got (x ∷ xs) (suc k) lt = got xs k (omega arith)

take-front : (xs : List ℕ) (x : ℕ) → take (length (xs ++ x ∷ []) - 1) (xs ++ x ∷ []) ≡ xs
take-front xs x =
    let long = length-append xs (x ∷ []) in
    let less : length (xs ++ x ∷ []) - 1 ≡ length xs = omega (arith, long) in
    ap (λ n. take n (xs ++ x ∷ [])) less ∙ take_at xs (x ∷ []) (length xs) refl

abbrev last_of : Program → Proc → ℕ
last_of program p = length program.globals + length p.columns

named-is : (program : Program) (p : Proc) → (full_of program p).named ≡ shown_columns_of program p ++ last_of program p ∷ []
unfolding full_of
named-is program p = sym (append_assoc (range_with_len 0 (length program.globals)) (named_columns_from (length program.globals) p.columns) (last_of program p ∷ []))

pub named-some : (program : Program) (p : Proc) → 0 < length (full_of program p).named
named-some program p =
    let e = ap length (named-is program p) in
    let f = length-append (shown_columns_of program p) (last_of program p ∷ []) in omega (arith, e, f)

pub shown-is : (program : Program) (p : Proc) → take (length (full_of program p).named - 1) (full_of program p).named ≡ shown_columns_of program p
shown-is program p = ap (λ l. take (length l - 1) l) (named-is program p) ∙ take-front (shown_columns_of program p) (last_of program p)

named-short : (number : ℕ) (columns : List Column) → length (named_columns_from number columns) ≤ length columns
named-short number [] = omega arith
named-short number (column ∷ columns) = go (has_name column) (named-short (number + 1) columns)
  where
    go : (b : Bool) → length (named_columns_from (number + 1) columns) ≤ length columns → length (named_if b number (named_columns_from (number + 1) columns)) ≤ suc (length columns)
    go true h = omega (arith, h)
    go false h = omega (arith, h)

pub full-columns : (program : Program) (p : Proc) → (full_of program p).columns ≡ width_of program p
unfolding full_of
full-columns program p = refl

start-columns : (program : Program) → (start_of program).columns ≡ 0
unfolding start_of
start-columns program = refl

pub place-is : (program : Program) (p : Proc) → IsWellFormed program → IsProcFit program p → IsVocabulary (start_of program) → IsVocabulary (full_of program p) → IsPlace (place_of program p)
place-is program p formed fit start full =
    let globals = formed.globals in
    let slots = fit.slots in
    let params = fit.first in
    let wide = full-columns program p in
    let none = start-columns program in
    let short = named-short (length program.globals) p.columns in
    let long = length-append (range_with_len 0 (length program.globals)) (named_columns_from (length program.globals) p.columns) in
    let range = length-range 0 (length program.globals) in
    record {
      entry = omega (arith, params);
      start_columns = none;
      full_columns = wide;
      start = record { is = start; few = omega (arith, none) };
      full = record { is = full; few = omega (arith, wide, globals, slots) };
      shown =
          All-from_recursion (λ column. column < width_of program p) (shown_columns_of program p)
          (each-front (λ column. column < width_of program p) (shown_columns_of program p) (last_of program p ∷ [])
          (subst (λ n. AllByRecursion (λ column. column < n) (shown_columns_of program p ++ last_of program p ∷ [])) wide
          (subst (AllByRecursion (λ column. column < (full_of program p).columns)) (named-is program p) full.named)));
      few = omega (arith, long, range, short, globals, slots);
    }
