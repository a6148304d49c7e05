-- Loops that put what each element gives behind what is made.
--     loop-next       one element more
--     names-front     what a name gives, and then the others
--     flows-more, flows-same      an element that is there, and one that is not
use Rattle.std.proofs.Common.{◌≡◌, ℕ, ◌+◌, ◌<◌, List, [], ◌∷◌, ◌++◌, length, drop, get_or, refl, sym, ap, ◌∙◌, append_assoc, append-nil}
use Rattle.std.specs.Prelude.{Option, None, Some}
use Rattle.std.specs.List.{filter_map}
use Rattle.std.proofs.lemmas.List.{drop_more}
use Rattle.syntax_tree.specs.declared.program.Column.{Column}
use Rattle.analysis.specs.Judging.{column_names, names_onto}

pub loop-next : {X Y : Type 0} (all : List X → List Y) (one : X → List Y) → ((x : X) (xs : List X) → all (x ∷ xs) ≡ one x ++ all xs) → (xs : List X) (i : ℕ) (x : X) (made next whole : List Y)
    → i < length xs → x ≡ get_or xs i x → made ++ all (drop i xs) ≡ whole → next ≡ made ++ one x → next ++ all (drop (i + 1) xs) ≡ whole
loop-next all one front xs i x made next whole lt is so_far more =
    let rest = drop (i + 1) xs in
    ap (λ l. l ++ all rest) more ∙ append_assoc made (one x) (all rest)
    ∙ ap (λ l. made ++ l) (sym (front x rest))
    ∙ ap (λ l. made ++ all l) (sym (drop_more xs i x lt ∙ ap (λ y. y ∷ rest) (sym is))) ∙ so_far

onto-front : (name : Option (List ℕ)) (names : List (List ℕ)) → names_onto name names ≡ names_onto name [] ++ names
onto-front None names = refl
onto-front (Some name) names = refl

pub names-front : (c : Column) (columns : List Column) → column_names (c ∷ columns) ≡ names_onto c.name [] ++ column_names columns
names-front c columns = onto-front c.name (column_names columns)

-- ---- those that are there

flows-behind : {X : Type 0} (xs : List (Option X)) (o : Option X) → filter_map (λ x. x) (xs ++ o ∷ []) ≡ filter_map (λ x. x) xs ++ filter_map (λ x. x) (o ∷ [])
flows-behind [] o = refl
flows-behind (None ∷ xs) o = flows-behind xs o
flows-behind (Some x ∷ xs) o = ap (λ l. x ∷ l) (flows-behind xs o)

pub flows-more : {X : Type 0} (xs : List (Option X)) (o : Option X) (x : X) (made next : List X) → made ≡ filter_map (λ x. x) xs → o ≡ Some x → next ≡ made ++ x ∷ [] → next ≡ filter_map (λ x. x) (xs ++ o ∷ [])
flows-more xs o x made next so_far is more =
    more ∙ ap (λ l. l ++ x ∷ []) so_far ∙ ap (λ y. filter_map (λ x. x) xs ++ filter_map (λ x. x) (y ∷ [])) (sym is) ∙ sym (flows-behind xs o)

pub flows-same : {X : Type 0} (xs : List (Option X)) (o : Option X) (made : List X) → made ≡ filter_map (λ x. x) xs → o ≡ None → made ≡ filter_map (λ x. x) (xs ++ o ∷ [])
flows-same xs o made so_far is =
    so_far ∙ sym (append-nil (filter_map (λ x. x) xs)) ∙ ap (λ y. filter_map (λ x. x) xs ++ filter_map (λ x. x) (y ∷ [])) (sym is) ∙ sym (flows-behind xs o)
