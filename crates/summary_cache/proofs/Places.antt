-- A place of a text by one before it: the lines and columns of the bytes between them are added.
use Rattle.std.proofs.Common.{◌≡◌, ℕ, suc, ◌+◌, ◌-◌, ◌≤◌, Bool, true, false, List, [], ◌∷◌, ◌++◌, take, drop, length, refl, sym, ap, ◌∙◌, subst, arith, cond}
use Rattle.std.specs.Prelude.{if◌then◌else◌, min}
use Rattle.std.specs.List.{count_by}
use Rattle.std.proofs.Math.Seq.{take-add}
use Rattle.std.proofs.lemmas.List.{drop-take, length-drop, length-take}
use Rattle.std.proofs.lemmas.List.Sums.{count_by-le-length, sum_by-append}
use Rattle.summary_cache.specs.Place.{column_at, column_behind, is_newline, line_at}

count-++ : (bytes more : List ℕ) → count_by is_newline (bytes ++ more) ≡ count_by is_newline bytes + count_by is_newline more
count-++ bytes more = sum_by-append (λ b. cond (is_newline b) 1 0) bytes more

column-++ : (column : ℕ) (bytes more : List ℕ) → column_behind column (bytes ++ more) ≡ column_behind (column_behind column bytes) more
column-++ column [] more = refl
column-++ column (b ∷ bytes) more = column-++ (if is_newline b then 1 else column + 1) bytes more

front-between : (from at : ℕ) (text : List ℕ) → from ≤ at → take at text ≡ take from text ++ drop from (take at text)
front-between from at text before =
    let split : from + (at - from) ≡ at = omega (arith, before) in
    subst (λ n. take n text ≡ take from text ++ drop from (take n text)) split
    (take-add from (at - from) text ∙ ap (λ rest. take from text ++ rest) (sym (drop-take from (at - from) text)))

pub line-behind : (from at : ℕ) (text : List ℕ) → from ≤ at → line_at text from + count_by is_newline (drop from (take at text)) ≡ line_at text at
line-behind from at text before =
    let e : count_by is_newline (take at text) ≡ count_by is_newline (take from text) + count_by is_newline (drop from (take at text)) =
    ap (λ bytes. count_by is_newline bytes) (front-between from at text before) ∙ count-++ (take from text) (drop from (take at text)) in
    omega (arith, e)

pub column-behind : (from at : ℕ) (text : List ℕ) → from ≤ at → column_behind (column_at text from) (drop from (take at text)) ≡ column_at text at
column-behind from at text before =
    sym (ap (λ bytes. column_behind 1 bytes) (front-between from at text before) ∙ column-++ 1 (take from text) (drop from (take at text)))

-- ---- how great they are at most

pub line-few : (text : List ℕ) (at : ℕ) → line_at text at ≤ length text + 1
line-few text at =
    let count : count_by is_newline (take at text) ≤ length (take at text) = count_by-le-length is_newline (take at text) in
    let front : length (take at text) ≡ min at (length text) = length-take at text in
    omega (arith, count, front)

column-few-behind : (column : ℕ) (bytes : List ℕ) → column_behind column bytes ≤ column + length bytes
column-few-behind column [] = omega arith
column-few-behind column (b ∷ bytes) = go (is_newline b) (column-few-behind 1 bytes) (column-few-behind (column + 1) bytes)
  where
    go : (is : Bool) → column_behind 1 bytes ≤ 1 + length bytes → column_behind (column + 1) bytes ≤ column + 1 + length bytes
        → column_behind (if is then 1 else column + 1) bytes ≤ column + suc (length bytes)
    go true first next = omega (arith, first)
    go false first next = omega (arith, next)

pub column-few : (text : List ℕ) (at : ℕ) → column_at text at ≤ length text + 1
column-few text at =
    let few : column_behind 1 (take at text) ≤ 1 + length (take at text) = column-few-behind 1 (take at text) in
    let front : length (take at text) ≡ min at (length text) = length-take at text in
    omega (arith, few, front)

pub between-few : (text : List ℕ) (from at : ℕ) → length (drop from (take at text)) ≤ length text
between-few text from at =
    let front : length (take at text) ≡ min at (length text) = length-take at text in
    let rest : length (drop from (take at text)) ≡ length (take at text) - from = length-drop from (take at text) in
    omega (arith, front, rest)
