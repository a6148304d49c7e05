-- The search makes what is defined, where each line that is made 0 keeps what is asked of the basis.
use Rattle.std.proofs.Common.{ℕ, Bool, true, false, cond, List, [], ◌∷◌, ◌++◌, ℤ, pos}
use Rattle.std.specs.Prelude.{IsOkAnd, Ok, int_le}
use Rattle.std.specs.List.{AllByRecursion, cons_option}
use Rattle.std.specs.Ordering.{int_eq}
use Rattle.items.specs.Gives.{◌>>=◌}
use Rattle.items.proofs.Each.{each-append, each-more}
use Rattle.cones.specs.declared.projecting.Cleared.{Cleared}
use Rattle.cones.specs.declared.projecting.Cleared.TheVariants.{Kept, Given}
use Rattle.cones.specs.InBits.{Made}
use Rattle.cones.specs.InBits as in_bits
use Rattle.cones.specs.Split.{units, remainder}
use Rattle.hull_limits.proofs.MadeSteps.{IsMade, IsOkAnd-bind, behind-makes, both-makes, negation-makes, are_all-makes, first_of-makes}

-- each of the lines can be put on the vector
abbrev pub IsSeen : (List ℤ → Type 0) → List ℤ → Type 0
IsSeen Line v = (line : List ℤ) → Line line → IsMade (in_bits.dot line v)

-- Of lines, of bases and of vectors that are found something is so, which clearing keeps and which
-- lets lines be put on vectors.
pub record IsKept (Line : List ℤ → Type 0) (Basis : List (List ℤ) → Type 0) (Found : List ℤ → Type 0) : Type 0 where
  pub clears : (line : List ℤ) (basis : List (List ℤ)) → Line line → Basis basis → IsOkAnd (in_bits.clearing line basis) (λ c. Basis (remainder basis c))
  pub sees : (basis : List (List ℤ)) → Basis basis → AllByRecursion (IsSeen Line) basis
  pub turns : (basis : List (List ℤ)) → Basis basis → AllByRecursion (λ v. IsMade (in_bits.opposite v)) basis
  pub ends : (w : List ℤ) → Basis (w ∷ []) → Found w × IsOkAnd (in_bits.opposite w) Found
  pub finds : (w : List ℤ) → Found w → IsSeen Line w

module _ (Line : List ℤ → Type 0) (Basis : List (List ℤ) → Type 0) (Found : List ℤ → Type 0) (kept : IsKept Line Basis Found) where
  -- ---- the search

  tests-make : (lines : List (List ℤ)) (w : List ℤ) → AllByRecursion Line lines → IsSeen Line w → IsMade (in_bits.are_at_most lines w)
  tests-make lines w h s =
      are_all-makes (in_bits.is_at_most w) lines (each-more Line (λ line. IsMade (in_bits.is_at_most w line)) (λ line k. IsOkAnd-bind (λ x. Unit {0}) (λ x. Unit {0}) (in_bits.dot line w) (λ value. Ok (int_le value (pos 0))) (s line k) (λ value l. tt)) lines h)

  ends-make : (lines : List (List ℤ)) (w : List ℤ) → AllByRecursion Line lines → Basis (w ∷ []) → IsOkAnd (in_bits.ends lines w) (AllByRecursion Found)
  ends-make lines w h b = IsOkAnd-bind (λ x. Unit {0}) (AllByRecursion Found) (in_bits.are_at_most lines w) _ (tests-make lines w h (kept.finds w (kept.ends w b).0)) (λ along k. go along)
    where
      last : (u : List ℤ) (against : Bool) → Found u → AllByRecursion Found (cond against (u ∷ []) [])
      last u true k = (k, tt)
      last u false k = tt

      go : (along : Bool) → IsOkAnd (cond along (Ok (w ∷ [])) (in_bits.opposite w >>= λ u. in_bits.are_at_most lines u >>= λ against. Ok (cond against (u ∷ []) []))) (AllByRecursion Found)
      go true = ((kept.ends w b).0, tt)
      go false = IsOkAnd-bind Found (AllByRecursion Found) (in_bits.opposite w) _ (kept.ends w b).1 (λ u k. IsOkAnd-bind (λ x. Unit {0}) (AllByRecursion Found) (in_bits.are_at_most lines u) _ (tests-make lines u h (kept.finds u k)) (λ against l. last u against k))

  pub extremes-make : (lines rest basis : List (List ℤ)) → AllByRecursion Line lines → AllByRecursion Line rest → Basis basis → IsOkAnd (in_bits.extremes lines rest basis) (AllByRecursion Found)
  extremes-make lines [] [] h k b = tt
  extremes-make lines [] (w ∷ []) h k b = ends-make lines w h b
  extremes-make lines [] (v ∷ (u ∷ vs)) h k b = tt
  extremes-make lines (line ∷ rest) [] h k b = tt
  extremes-make lines (line ∷ rest) (w ∷ []) h k b = ends-make lines w h b
  extremes-make lines (line ∷ rest) (v ∷ (u ∷ vs)) h k b =
      IsOkAnd-bind (λ c. Basis (remainder (v ∷ u ∷ vs) c)) (AllByRecursion Found) (in_bits.clearing line (v ∷ u ∷ vs)) _ (kept.clears line (v ∷ u ∷ vs) k.0 b) (λ c l.
      IsOkAnd-bind (AllByRecursion Found) (AllByRecursion Found) (in_bits.extremes_at_zero (in_bits.extremes lines rest) c) _ (go c l (λ basis m. extremes-make lines rest basis h k.1 m)) (λ taken m.
      behind-makes Found taken (in_bits.extremes lines rest (v ∷ u ∷ vs)) m (extremes-make lines rest (v ∷ u ∷ vs) h k.1 b)))
    where
      go : (c : Cleared) → Basis (remainder (v ∷ u ∷ vs) c) → ((basis : List (List ℤ)) → Basis basis → IsOkAnd (in_bits.extremes lines rest basis) (AllByRecursion Found)) → IsOkAnd (in_bits.extremes_at_zero (in_bits.extremes lines rest) c) (AllByRecursion Found)
      go Kept l again = tt
      go (Given pivot left) l again = again left l

  -- ---- flat vectors and the rest

  pub clearing_by_all-makes : (lines basis : List (List ℤ)) → AllByRecursion Line lines → Basis basis → IsOkAnd (in_bits.clearing_by_all lines basis) Basis
  clearing_by_all-makes [] basis h b = b
  clearing_by_all-makes (line ∷ lines) basis h b =
      IsOkAnd-bind (λ c. Basis (remainder basis c)) Basis (in_bits.clearing line basis) (λ c. in_bits.clearing_by_all lines (remainder basis c)) (kept.clears line basis h.0 b) (λ c k. clearing_by_all-makes lines (remainder basis c) h.1 k)

  zero_at-makes : (line v : List ℤ) → Line line → IsSeen Line v → IsMade (in_bits.is_zero_at line v)
  zero_at-makes line v h s = IsOkAnd-bind (λ x. Unit {0}) (λ x. Unit {0}) (in_bits.dot line v) (λ value. Ok (int_eq value (pos 0))) (s line h) (λ value k. tt)

  zero_on-makes : (line : List ℤ) (vs : List (List ℤ)) → Line line → AllByRecursion (IsSeen Line) vs → IsMade (in_bits.is_zero_on line vs)
  zero_on-makes line vs h s = are_all-makes (in_bits.is_zero_at line) vs (each-more (IsSeen Line) (λ v. IsMade (in_bits.is_zero_at line v)) (λ v. zero_at-makes line v h) vs s)

  pivots-make : (lines before vs : List (List ℤ)) → AllByRecursion Line lines → AllByRecursion (IsSeen Line) before → AllByRecursion (IsSeen Line) vs → IsOkAnd (in_bits.pivots_behind lines before vs) (AllByRecursion Line)
  pivots-make lines before [] h s t = tt
  pivots-make lines before (v ∷ vs) h s t =
      IsOkAnd-bind (λ found. AllByRecursion Line (cons_option found [])) (AllByRecursion Line) (in_bits.first_of (in_bits.is_pivot v before vs) lines) _
      (first_of-makes Line (in_bits.is_pivot v before vs) (λ line k. both-makes (in_bits.negation (in_bits.is_zero_at line v)) (in_bits.both (in_bits.is_zero_on line before) (in_bits.is_zero_on line vs))
      (negation-makes (in_bits.is_zero_at line v) (zero_at-makes line v k t.0)) (both-makes (in_bits.is_zero_on line before) (in_bits.is_zero_on line vs) (zero_on-makes line before k s) (zero_on-makes line vs k t.1))) lines h)
      (λ found k. behind-makes Line (cons_option found []) (in_bits.pivots_behind lines (before ++ v ∷ []) vs) k (pivots-make lines (before ++ v ∷ []) vs h (each-append (IsSeen Line) before (v ∷ []) s (t.0, tt)) t.1))

  pub flat-makes : (lines : List (List ℤ)) (count : ℕ) → AllByRecursion Line lines → Basis (units count) → IsOkAnd (in_bits.flat lines count) Basis
  flat-makes lines count h b = clearing_by_all-makes lines (units count) h b

  pub rest_basis-makes : (vs : List (List ℤ)) (count : ℕ) → Basis vs → AllByRecursion Line (units count) → Basis (units count) → IsOkAnd (in_bits.rest_basis vs count) Basis
  rest_basis-makes vs count b h u =
      IsOkAnd-bind (AllByRecursion Line) Basis (in_bits.pivots (units count) vs) (λ ps. in_bits.clearing_by_all ps (units count)) (pivots-make (units count) [] vs h tt (kept.sees vs b)) (λ ps k. clearing_by_all-makes ps (units count) k u)
