-- The procedures that alike statements call stand at the same places, and the statements are alike
-- in each sense in which these are.
use Rattle.std.proofs.Common.{◌≡◌, ℕ, List, [], ◌∷◌, ◌++◌, refl}
use Rattle.std.specs.Prelude.{Some, slice_get}
use Rattle.std.specs.List.{AllZip, Contains}
use Rattle.std.proofs.lemmas.List.Elements.{Contains-append_left, Contains-append_right}
use Rattle.std.proofs.lemmas.Option.{get_or_from_slice_get, slice_get_within}
use Rattle.syntax_tree.specs.Code.{Statement, Code}
use Rattle.flow_graph.specs.Groups.{called, called_in}
use Rattle.proc_summary.specs.Alike.{AreAlike, AreAlikeStatements, alike_anys, alike_breaks, alike_calls, alike_checks, alike_continues, alike_ends, alike_guards, alike_ifs, alike_loops, alike_more, alike_returns, alike_sets}

pub contains-at : (xs : List ℕ) (k x : ℕ) → slice_get xs k ≡ Some x → Contains xs x
contains-at xs k x at = (k, slice_get_within xs k x at, get_or_from_slice_get xs k x x at)

zipped-append : (R : ℕ → ℕ → Type 0) (xs ys more others : List ℕ) → AllZip R xs ys → AllZip R more others → AllZip R (xs ++ more) (ys ++ others)
zipped-append R [] [] more others h k = k
zipped-append R [] (y ∷ ys) more others h k = absurd h
zipped-append R (x ∷ xs) [] more others h k = absurd h
zipped-append R (x ∷ xs) (y ∷ ys) more others h k = (h.0, zipped-append R xs ys more others h.1 k)

module _ (same : ℕ → ℕ → Type 0) where
  mutual
    statement-called : (s o : Statement) → AreAlikeStatements same s o → AllZip same (called_in s) (called_in o)
    statement-called _ _ (alike_sets col value) = tt
    statement-called _ _ (alike_anys col) = tt
    statement-called _ _ (alike_calls proc other args into h) = (h, tt)
    statement-called _ _ (alike_guards cond) = tt
    statement-called _ _ (alike_checks number other cond) = tt
    statement-called _ _ (alike_ifs cond a b c d h k) = zipped-append same (called a) (called c) (called b) (called d) (code-called a c h) (code-called b d k)
    statement-called _ _ (alike_loops pre begin cond body step turn end first h k l) =
        zipped-append same (called pre ++ called body) (called begin ++ called turn) (called step) (called end)
        (zipped-append same (called pre) (called begin) (called body) (called turn) (code-called pre begin h) (code-called body turn k)) (code-called step end l)
    statement-called _ _ alike_breaks = tt
    statement-called _ _ alike_continues = tt
    statement-called _ _ alike_returns = tt

    pub code-called : (a b : Code) → AreAlike same a b → AllZip same (called a) (called b)
    code-called _ _ alike_ends = tt
    code-called _ _ (alike_more s o rest others h k) = zipped-append same (called_in s) (called_in o) (called rest) (called others) (statement-called s o h) (code-called rest others k)

module _ (same next : ℕ → ℕ → Type 0) where
  -- what is called here is alike in the other sense
  abbrev IsNextOf : List ℕ → Type 0
  IsNextOf calls = (proc other : ℕ) → Contains calls proc → same proc other → next proc other

  left-of : (xs ys : List ℕ) → IsNextOf (xs ++ ys) → IsNextOf xs
  left-of xs ys h proc other c = h proc other (Contains-append_left xs ys proc c)

  right-of : (xs ys : List ℕ) → IsNextOf (xs ++ ys) → IsNextOf ys
  right-of xs ys h proc other c = h proc other (Contains-append_right xs ys proc c)

  mutual
    statement-by_calls : (s o : Statement) → AreAlikeStatements same s o → IsNextOf (called_in s) → AreAlikeStatements next s o
    statement-by_calls _ _ (alike_sets col value) are = alike_sets col value
    statement-by_calls _ _ (alike_anys col) are = alike_anys col
    statement-by_calls _ _ (alike_calls proc other args into h) are = alike_calls proc other args into (are proc other (contains-at (proc ∷ []) 0 proc refl) h)
    statement-by_calls _ _ (alike_guards cond) are = alike_guards cond
    statement-by_calls _ _ (alike_checks number other cond) are = alike_checks number other cond
    statement-by_calls _ _ (alike_ifs cond a b c d h k) are =
        alike_ifs cond a b c d (code-by_calls a c h (left-of (called a) (called b) are)) (code-by_calls b d k (right-of (called a) (called b) are))
    statement-by_calls _ _ (alike_loops pre begin cond body step turn end first h k l) are =
        let inner = left-of (called pre ++ called body) (called step) are in
        alike_loops pre begin cond body step turn end first (code-by_calls pre begin h (left-of (called pre) (called body) inner))
        (code-by_calls body turn k (right-of (called pre) (called body) inner)) (code-by_calls step end l (right-of (called pre ++ called body) (called step) are))
    statement-by_calls _ _ alike_breaks are = alike_breaks
    statement-by_calls _ _ alike_continues are = alike_continues
    statement-by_calls _ _ alike_returns are = alike_returns

    pub code-by_calls : (a b : Code) → AreAlike same a b → IsNextOf (called a) → AreAlike next a b
    code-by_calls _ _ alike_ends are = alike_ends
    code-by_calls _ _ (alike_more s o rest others h k) are =
        alike_more s o rest others (statement-by_calls s o h (left-of (called_in s) (called rest) are)) (code-by_calls rest others k (right-of (called_in s) (called rest) are))
