-- Lists that are read and written item by item.
use Rattle.std.proofs.Common.{◌≡◌, ℕ, zero, suc, ◌+◌, ◌<◌, add-one, drop, get_or, length, ap, sym, ◌∙◌, arith, refl}
use Rattle.std.specs.List.{range_with_len}
use Rattle.std.proofs.Math.Seq.{drop-cons}
use Rattle.std.proofs.lemmas.List.{append-nil, map-append}
use Rattle.serde_json.specs.Data.{Data}
use Rattle.serde_json.specs.View.{items_of}
use Rattle.wire.specs.Shapes.{Reading, item_path, items_from, under}
use Rattle.wire.specs.Written.{read_then}
use Rattle.std.specs.Prelude.{List, [], ◌∷◌, ◌++◌, Result, Ok, Err}
use Rattle.items.specs.Gives.{◌>>=◌}

-- a list that is read, and then those that are left
abbrev pub behind : {A E : Type 0} → List A → Result (List A) E → Result (List A) E
behind front rest = rest >>= λ made. Ok (front ++ made)

range_with_len-suc_from : (a n : ℕ) → range_with_len a (suc n) ≡ range_with_len a n ++ (a + n) ∷ []
range_with_len-suc_from a zero = ap (λ m. m ∷ []) (omega arith)
range_with_len-suc_from a (suc n) = ap (λ ms. a ∷ ms) (range_with_len-suc_from (a + 1) n ∙ ap (λ m. range_with_len (a + 1) n ++ m ∷ []) (omega arith))

-- one number more
pub range_with_len-suc : (n : ℕ) → range_with_len 0 (n + 1) ≡ range_with_len 0 n ++ n ∷ []
range_with_len-suc n =
    let next : n + 1 ≡ suc n = omega arith in
    ap (range_with_len 0) next ∙ (range_with_len-suc_from 0 n ∙ ap (λ m. range_with_len 0 n ++ m ∷ []) (omega arith))

pub ruleset ranges = (range_with_len-suc)

-- the next item of a list comes from what is left
pub next_left : {A : Type 0} (xs : List A) (i : ℕ) (x : A) → x ≡ get_or xs i x → i < length xs → drop i xs ≡ x ∷ drop (i + 1) xs
next_left xs i x p h = rw add-one (drop-cons xs i x h ∙ sym (ap (λ y. y ∷ drop (suc i) xs) p))

-- a part more that reads as the first of what is left
read-more : {A : Type 0} (reads : Reading A) (place : ℕ) (ds : List Data) (d : Data) (x : A) (rest : List A) → reads d ≡ Ok x
    → (items_from reads place (items_of (ds ++ d ∷ [])) >>= λ front. Ok (front ++ rest)) ≡ (items_from reads place (items_of ds) >>= λ front. Ok (front ++ x ∷ rest))
read-more reads place [] d x rest e = ap (λ r. (under (item_path place) r >>= λ y. Ok (y ∷ [])) >>= λ front. Ok (front ++ rest)) e
read-more {A} reads place (c ∷ ds) d x rest e = each (read-more reads (place + 1) ds d x rest e) (under (item_path place) (reads c)) where
  inner : (y : A) (r s : Result (List A) (List ℕ)) → (r >>= λ front. Ok (front ++ rest)) ≡ (s >>= λ front. Ok (front ++ x ∷ rest))
      → ((r >>= λ ys. Ok (y ∷ ys)) >>= λ front. Ok (front ++ rest)) ≡ ((s >>= λ ys. Ok (y ∷ ys)) >>= λ front. Ok (front ++ x ∷ rest))
  inner y (Ok f) (Ok g) h = ap (λ t. t >>= λ fs. Ok (y ∷ fs)) h
  inner y (Ok f) (Err p) h = ap (λ t. t >>= λ fs. Ok (y ∷ fs)) h
  inner y (Err p) (Ok g) h = ap (λ t. t >>= λ fs. Ok (y ∷ fs)) h
  inner y (Err p) (Err q) h = ap (λ t. t >>= λ fs. Ok (y ∷ fs)) h

  each : (items_from reads (place + 1) (items_of (ds ++ d ∷ [])) >>= λ front. Ok (front ++ rest)) ≡ (items_from reads (place + 1) (items_of ds) >>= λ front. Ok (front ++ x ∷ rest))
      → (r : Result A (List ℕ)) → ((r >>= λ y. items_from reads (place + 1) (items_of (ds ++ d ∷ [])) >>= λ ys. Ok (y ∷ ys)) >>= λ front. Ok (front ++ rest))
      ≡ ((r >>= λ y. items_from reads (place + 1) (items_of ds) >>= λ ys. Ok (y ∷ ys)) >>= λ front. Ok (front ++ x ∷ rest))
  each h (Ok y) = inner y (items_from reads (place + 1) (items_of (ds ++ d ∷ []))) (items_from reads (place + 1) (items_of ds)) h
  each h (Err p) = refl

pub read_then-more : {A : Type 0} (reads : Reading A) (ds : List Data) (d : Data) (x : A) (rest : List A) → reads d ≡ Ok x
    → read_then reads (ds ++ d ∷ []) rest ≡ read_then reads ds (x ∷ rest)
unfolding read_then
read_then-more reads ds d x rest e = read-more reads 0 ds d x rest e

-- where nothing is left, all is read
pub read_then-end : {A : Type 0} (reads : Reading A) (ds : List Data) (xs : List A) → read_then reads ds [] ≡ Ok xs → items_from reads 0 (items_of ds) ≡ Ok xs
unfolding read_then
read_then-end {A} reads ds xs e = same (items_from reads 0 (items_of ds)) e where
  same : (r : Result (List A) (List ℕ)) → (r >>= λ front. Ok (front ++ [])) ≡ Ok xs → r ≡ Ok xs
  same (Ok front) h = ap Ok (sym (append-nil front)) ∙ h
  same (Err p) h = h

pub read_then-begin : {A : Type 0} (reads : Reading A) (xs : List A) → read_then reads [] xs ≡ Ok xs
unfolding read_then
read_then-begin reads xs = refl

pub ruleset written = (read_then-more, read_then-end, read_then-begin, map-append)
