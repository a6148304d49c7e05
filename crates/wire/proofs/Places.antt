-- Places in a list of answers, read from numbers.
use Rattle.std.proofs.Common.{◌≡◌, ℕ, ◌+◌, ◌<◌, List, [], ◌∷◌, ap, sym, subst, ◌∙◌, refl}
use Rattle.std.specs.Prelude.{None, Some, Result, Ok, Err, is_ok, if◌then◌else◌}
use Rattle.std.specs.List.{AllByRecursion}
use Rattle.std.proofs.lemmas.Bool.{false≢true, lt-ltb}
use Rattle.items.proofs.Each.{each-append}
use Rattle.items.specs.Gives.{◌>>=◌}
use Rattle.serde_json.specs.Data.{Data, null, boolean, number, string, array, object, Items, no_items, item}
use Rattle.wire.specs.Files.{if_below, place}
use Rattle.wire.specs.Shapes.{item_path, items_from, list, natural, or_wrong, under}

abbrev list_of : {E : Type 0} → Result (List ℕ) E → List ℕ
list_of (Ok ns) = ns
list_of (Err e) = []

-- a list that was read has a first number and others
cons-parts : (step : List ℕ) (r : Result ℕ (List ℕ)) (s : Result (List ℕ) (List ℕ)) (ns : List ℕ) → (under step r >>= λ x. s >>= λ xs. Ok (x ∷ xs)) ≡ Ok ns
    → (x : ℕ) × (xs : List ℕ) × (r ≡ Ok x) × (s ≡ Ok xs) × (x ∷ xs ≡ ns)
cons-parts step (Err p) s ns e = absurd (false≢true (ap is_ok e))
cons-parts step (Ok x) (Err p) ns e = absurd (false≢true (ap is_ok e))
cons-parts step (Ok x) (Ok xs) ns e = (x, xs, refl, refl, ap list_of e)

-- a place is a number below the count
place-natural : (count : ℕ) (d : Data) (n : ℕ) → natural d ≡ Ok n → n < count → place count d ≡ Ok n
place-natural count d n e small = ap (λ r. r >>= λ m. or_wrong (if_below count m)) e ∙ ap (λ b. or_wrong (if b then Some n else None)) (lt-ltb n count small)

items_from-place : (count at : ℕ) (ds : Items) (ns : List ℕ) → items_from natural at ds ≡ Ok ns → AllByRecursion (λ n. n < count) ns → items_from (place count) at ds ≡ Ok ns
items_from-place count at no_items ns e small = e
items_from-place count at (item d ds) ns e small =
    let parts = cons-parts (item_path at) (natural d) (items_from natural (at + 1) ds) ns e in
    let below = subst (AllByRecursion (λ n. n < count)) (sym parts.4) small in
    ap (λ r. under (item_path at) r >>= λ x. items_from (place count) (at + 1) ds >>= λ xs. Ok (x ∷ xs)) (place-natural count d parts.0 parts.2 below.0)
    ∙ ap (λ s. s >>= λ xs. Ok (parts.0 ∷ xs)) (items_from-place count (at + 1) ds parts.1 parts.3 below.1)
    ∙ ap Ok parts.4

pub list-place : (count : ℕ) (d : Data) (ns : List ℕ) → list natural d ≡ Ok ns → AllByRecursion (λ n. n < count) ns → list (place count) d ≡ Ok ns
list-place count null ns e small = e
list-place count (boolean b) ns e small = e
list-place count (number x) ns e small = e
list-place count (string t) ns e small = e
list-place count (array ds) ns e small = items_from-place count 0 ds ns e small
list-place count (object ms) ns e small = e

pub ruleset places = (list-place)

pub ruleset appended = (each-append)
