-- A scope and the first declarations of its names find the same.
use Rattle.std.proofs.Common.{◌≡◌, ℕ, Bool, true, false, Some, List, [], ◌∷◌, ◌++◌, refl, sym, ap, ◌∙◌}
use Rattle.std.specs.Prelude.{if◌then◌else◌}
use Rattle.std.specs.Str.{bytes_eq}
use Rattle.std.specs.Map.{lookup}
use Rattle.std.proofs.lemmas.Slice.Eq.{bytes_eq-Decides}
use Rattle.typing.specs.Scopes.{Scope, meaning_in, or_outer}

pub meaning_in-append : (scope more : Scope) (name : List ℕ) → meaning_in (scope ++ more) name ≡ or_outer (meaning_in scope name) (meaning_in more name)
meaning_in-append [] more name = refl
meaning_in-append (entry ∷ rest) more name = by (bytes_eq entry.0 name) (meaning_in-append rest more name)
  where
    by : (b : Bool) → meaning_in (rest ++ more) name ≡ or_outer (meaning_in rest name) (meaning_in more name)
        → (if b then Some entry.1 else meaning_in (rest ++ more) name) ≡ or_outer (if b then Some entry.1 else meaning_in rest name) (meaning_in more name)
    by true same = refl
    by false same = same

same_test : (p q : Bool) → (p ≡ true → q ≡ true) → (q ≡ true → p ≡ true) → p ≡ q
same_test true q f g = sym (f refl)
same_test false true f g = g refl
same_test false false f g = refl

pub bytes_eq-sym : (a b : List ℕ) → bytes_eq a b ≡ bytes_eq b a
bytes_eq-sym a b =
    same_test (bytes_eq a b) (bytes_eq b a)
    (λ h. (bytes_eq-Decides b a).1 (sym ((bytes_eq-Decides a b).0 h)))
    (λ h. (bytes_eq-Decides a b).1 (sym ((bytes_eq-Decides b a).0 h)))

-- what a map finds is what its entries declare first
pub lookup-meaning_in : (scope : Scope) (name : List ℕ) → lookup (bytes_eq name) scope ≡ meaning_in scope name
lookup-meaning_in [] name = refl
lookup-meaning_in (entry ∷ rest) name =
    ap (λ b. if b then Some entry.1 else lookup (bytes_eq name) rest) (bytes_eq-sym name entry.0)
    ∙ ap (λ m. if bytes_eq entry.0 name then Some entry.1 else m) (lookup-meaning_in rest name)
