-- Laws of what a line depends on, and of the least fault.
use Rattle.std.proofs.Common.{◌≡◌, ℕ, suc, ◌+◌, ◌<◌, ◌≤◌, Option, None, Some, List, [], ◌∷◌, ◌++◌, drop, get_or, length, refl, sym, ap, ◌∙◌, add-one, arith, append_assoc}
use Rattle.std.proofs.Math.ListN.{drop_of_length-le}
use Rattle.std.proofs.Math.Seq.{drop-cons}
use Rattle.syntax_tree.specs.declared.expr.Expr.{Expr}
use Rattle.syntax_tree.specs.SourceExpr.{source_exprs_of}
use Rattle.typing.specs.declared.env.Env.{Env}
use Rattle.typing.specs.declared.meaning.Meaning.{Meaning}
use Rattle.typing.specs.declared.meaning.Meaning.TheVariants.{Variable, Procedure}
use Rattle.typing.specs.declared.special.Special.{Special}
use Rattle.typing.specs.declared.env.LoopPlace.{LoopPlace}
use Rattle.typing.specs.declared.error.TypeError.{TypeError}
use Rattle.typing.specs.Env.{with_assertions, with_place, with_columns_taken}
use Rattle.typing.specs.Faults.{least_of, lesser}
use Rattle.typing.specs.Calls.{callee_asserts, if_assertion}
use Rattle.typing.specs.Scopes.{Scope, callee_of, if_procedure, if_special, meaning_of}
use Rattle.typing.specs.Specials.{special_of}
use Rattle.typing.specs.Terms.{count_of}

pub with_columns_taken-taken : (a b : ℕ) (env : Env) → with_columns_taken b (with_columns_taken a env) ≡ with_columns_taken (a + b) env
unfolding with_columns_taken
with_columns_taken-taken a b env = let same : (env.next + a) + b ≡ env.next + (a + b) = omega arith in ap (λ (n : ℕ). record env { next = n }) same

pub with_columns_taken-zero : (env : Env) → with_columns_taken 0 env ≡ env
unfolding with_columns_taken
with_columns_taken-zero env = let same : env.next + 0 ≡ env.next = omega arith in ap (λ (n : ℕ). record env { next = n }) same

pub with_columns_taken-next : (n : ℕ) (env : Env) → (with_columns_taken n env).next ≡ env.next + n
unfolding with_columns_taken
with_columns_taken-next n env = refl

pub with_columns_taken-number : (n : ℕ) (env : Env) → (with_columns_taken n env).number ≡ env.number
unfolding with_columns_taken
with_columns_taken-number n env = refl

pub with_columns_taken-scopes : (n : ℕ) (env : Env) → (with_columns_taken n env).scopes ≡ env.scopes
unfolding with_columns_taken
with_columns_taken-scopes n env = refl

pub with_assertions-zero : (env : Env) → with_assertions 0 env ≡ env
unfolding with_assertions
with_assertions-zero env = let same : env.number + 0 ≡ env.number = omega arith in ap (λ (n : ℕ). record env { number = n }) same

pub with_place-place : (place : LoopPlace) (env : Env) → (with_place place env).place ≡ place
unfolding with_place
with_place-place place env = refl

pub least_of-append : (least : Option TypeError) (faults more : List TypeError) → least_of least (faults ++ more) ≡ least_of (least_of least faults) more
least_of-append least [] more = refl
least_of-append least (fault ∷ rest) more = least_of-append (Some (lesser least fault)) rest more

pub count_of-length : (exprs : List Expr) → count_of (source_exprs_of exprs) ≡ length exprs
count_of-length [] = refl
count_of-length (e ∷ rest) = let more : count_of (source_exprs_of rest) ≡ length rest = count_of-length rest in omega (arith, more)

pub appended : {A : Type 0} (a b c : List A) → a ++ (b ++ c) ≡ (a ++ b) ++ c
appended a b c = sym (append_assoc a b c)

-- the next item of a list comes from what is left
pub next_left : {A : Type 0} (xs : List A) (i : ℕ) (x : A) → x ≡ get_or xs i x → i < length xs → drop i xs ≡ x ∷ drop (i + 1) xs
next_left xs i x p h = rw add-one (drop-cons xs i x h ∙ sym (ap (λ y. y ∷ drop (suc i) xs) p))

pub none_left : {A : Type 0} (xs : List A) (i : ℕ) → length xs ≤ i → drop i xs ≡ []
none_left xs i h = drop_of_length-le xs h

asserts : (special : Option Special) (meaning : Option Meaning) → callee_asserts (if_special special (if_procedure meaning)) ≡ if_assertion special
asserts (Some special) meaning = refl
asserts None (Some (Procedure signature)) = refl
asserts None (Some (Variable col)) = refl
asserts None None = refl

-- whether a call is an assertion is told by its name alone
pub callee_asserts-special : (scopes : List Scope) (name : List ℕ) → callee_asserts (callee_of scopes name) ≡ if_assertion (special_of name)
unfolding callee_of
callee_asserts-special scopes name = asserts (special_of name) (meaning_of scopes name)

pub ruleset steps = (appended, with_columns_taken-taken, with_columns_taken-zero, with_columns_taken-next, with_columns_taken-number, with_columns_taken-scopes, with_assertions-zero, with_place-place, least_of-append, count_of-length, callee_asserts-special)
