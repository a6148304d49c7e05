-- Loops that put one value behind others for each element.
use Rattle.std.proofs.Common.{◌≡◌, List, [], ◌∷◌, ◌++◌, append_assoc, append-nil, sym, ap, subst, ◌∙◌}
use Rattle.std.specs.Prelude.{Result, IfOk, Ok, Err}
use Rattle.std.specs.List.{AllByRecursion, AllZip}
use Rattle.posing.specs.Posing.{Posing, Done, Noted, Asked, each, Always}
use Rattle.posing.proofs.Paths.{always_bind, always_weaker}

pub always_both : {A : Type 0} (P Q : A → Type 0) (p : Posing A) → Always P p → Always Q p → Always (λ x. P x × Q x) p
always_both P Q (Done x) h k = (h, k)
always_both P Q (Noted notes p) h k = always_both P Q p h k
always_both P Q (Asked question next) h k = λ answer is_true. always_both P Q (next answer) (h answer is_true) (k answer is_true)

-- one more value behind others, in a relation to the element
pub record IsBehind {A B : Type 0} (P : A → B → Type 0) (made : List B) (x : A) (next : List B) : Type 0 where
  pub value : B
  pub is : next ≡ made ++ value ∷ []
  pub holds : P x value

-- so many values behind others, each in a relation to the element at its place
pub record AreBehind {A B : Type 0} (P : A → B → Type 0) (made : List B) (xs : List A) (all : List B) : Type 0 where
  pub values : List B
  pub is : all ≡ made ++ values
  pub match : AllZip P xs values

-- of a list that is a part of what is made
pub each-part_behind : {A B S : Type 0} (part : S → List B) (Q : A → Type 0) (P : A → B → Type 0) (step : S → A → Posing S) → ((made : S) (x : A) → Q x → Always (λ next. IsBehind P (part made) x (part next)) (step made x))
    → (made : S) (xs : List A) → AllByRecursion Q xs → Always (λ all. AreBehind P (part made) xs (part all)) (each step made xs)
each-part_behind part Q P step one made [] all = record { values = []; is = sym (append-nil (part made)); match = tt }
each-part_behind part Q P step one made (x ∷ xs) all =
    always_bind (λ next. IsBehind P (part made) x (part next)) (λ all. AreBehind P (part made) (x ∷ xs) (part all)) (step made x) (λ next. each step next xs) (one made x all.0)
    (λ next behind. always_weaker (λ all. AreBehind P (part next) xs (part all)) (λ all. AreBehind P (part made) (x ∷ xs) (part all)) (each step next xs)
    (λ all more. record {
      values = behind.value ∷ more.values;
      is = more.is ∙ ap (λ u. u ++ more.values) behind.is ∙ append_assoc (part made) (behind.value ∷ []) more.values;
      match = (behind.holds, more.match);
    }) (each-part_behind part Q P step one next xs all.1))

pub each-behind : {A B : Type 0} (Q : A → Type 0) (P : A → B → Type 0) (step : List B → A → Posing (List B)) → ((made : List B) (x : A) → Q x → Always (IsBehind P made x) (step made x))
    → (made : List B) (xs : List A) → AllByRecursion Q xs → Always (AreBehind P made xs) (each step made xs)
each-behind Q P step one made xs all = each-part_behind (λ made. made) Q P step one made xs all

pub each-match : {A B : Type 0} (Q : A → Type 0) (P : A → B → Type 0) (step : List B → A → Posing (List B)) → ((made : List B) (x : A) → Q x → Always (IsBehind P made x) (step made x))
    → (xs : List A) → AllByRecursion Q xs → Always (AllZip P xs) (each step [] xs)
each-match Q P step one xs all =
    always_weaker (AreBehind P [] xs) (AllZip P xs) (each step [] xs) (λ all behind. subst (AllZip P xs) (sym behind.is) behind.match) (each-behind Q P step one [] xs all)

pub each-part_match : {A B S : Type 0} (part : S → List B) (Q : A → Type 0) (P : A → B → Type 0) (step : S → A → Posing S) → ((made : S) (x : A) → Q x → Always (λ next. IsBehind P (part made) x (part next)) (step made x))
    → (none : S) → part none ≡ [] → (xs : List A) → AllByRecursion Q xs → Always (λ all. AllZip P xs (part all)) (each step none xs)
each-part_match part Q P step one none empty xs all =
    always_weaker (λ all. AreBehind P (part none) xs (part all)) (λ all. AllZip P xs (part all)) (each step none xs)
    (λ all behind. subst (AllZip P xs) (sym (behind.is ∙ ap (λ u. u ++ behind.values) empty)) behind.match) (each-part_behind part Q P step one none xs all)

pub if_ok-both : {A E : Type 0} (P Q R : A → Type 0) (r : Result A E) → ((x : A) → P x → Q x → R x) → IfOk r P → IfOk r Q → IfOk r R
if_ok-both P Q R (Ok x) both h k = both x h k
if_ok-both P Q R (Err e) both h k = tt

pub if_ok-more : {A E : Type 0} (P Q : A → Type 0) (r : Result A E) → ((x : A) → P x → Q x) → IfOk r P → IfOk r Q
if_ok-more P Q (Ok x) more h = more x h
if_ok-more P Q (Err e) more h = tt
