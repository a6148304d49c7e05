-- Ranks of heads are their places among the heads.
use Rattle.std.proofs.Common.{◌≡◌, ℕ, zero, suc, ◌+◌, ◌<◌, cond, [], ◌∷◌, length, Some, refl, sym, ap, subst, ◌∙◌, arith}
use Rattle.std.specs.Prelude.{Bool, true, false, slice_get}
use Rattle.std.specs.List.{filter, range_with_len}
use Rattle.point_induction.specs.Points.{heads_of, is_head}
use Rattle.point_ways.specs.Laws.{PlacesAreRanks, RanksArePlaces}
use Rattle.point_ways.specs.Ways.{head_rank}

-- ---- numbers from a number on that pass a test

module _ (test : ℕ → Bool) where
  -- what stands at a place of them passes, and stands behind as many as the place says
  record IsPlace (a n place number : ℕ) : Type 0 where
    ahead : ℕ
    is : a + ahead ≡ number
    within : ahead < n
    passes : test number ≡ true
    before : length (filter test (range_with_len a ahead)) ≡ place

  place-later : (a n place number : ℕ) (b : Bool) → test a ≡ b → (rest : IsPlace (a + 1) n place number) → IsPlace a (suc n) (length (cond b (a ∷ []) []) + place) number
  place-later a n place number b e rest =
      record {
        ahead = suc rest.ahead;
        is = let sum = rest.is in omega (arith, sum);
        within = let less = rest.within in omega (arith, less);
        passes = rest.passes;
        before = ap (λ t. length (cond t (a ∷ filter test (range_with_len (a + 1) rest.ahead)) (filter test (range_with_len (a + 1) rest.ahead)))) e ∙ by_test b;
      }
    where
      by_test : (t : Bool) → length (cond t (a ∷ filter test (range_with_len (a + 1) rest.ahead)) (filter test (range_with_len (a + 1) rest.ahead))) ≡ length (cond t (a ∷ []) []) + place
      by_test true = let before = rest.before in omega (arith, before)
      by_test false = let before = rest.before in omega (arith, before)

  at-place : (a n place number : ℕ) → slice_get (filter test (range_with_len a n)) place ≡ Some number → IsPlace a n place number
  at-place a zero place number is = absurd (cc)
  at-place a (suc n) place number is = by_test (test a) refl place is (λ k there. at-place (a + 1) n k number there)
    where
      by_test : (b : Bool) → test a ≡ b → (k : ℕ) → slice_get (cond b (a ∷ filter test (range_with_len (a + 1) n)) (filter test (range_with_len (a + 1) n))) k ≡ Some number
          → ((m : ℕ) → slice_get (filter test (range_with_len (a + 1) n)) m ≡ Some number → IsPlace (a + 1) n m number) → IsPlace a (suc n) k number
      by_test true e zero there rest =
          let same : a ≡ number = cc in
          record { ahead = 0; is = omega (arith, same); within = omega arith; passes = ap test (sym same) ∙ e; before = refl }
      by_test true e (suc k) there rest = subst (λ m. IsPlace a (suc n) m number) (omega arith) (place-later a n k number true e (rest k there))
      by_test false e k there rest = subst (λ m. IsPlace a (suc n) m number) (omega arith) (place-later a n k number false e (rest k there))

  place-of : (a n ahead : ℕ) → ahead < n → test (a + ahead) ≡ true → slice_get (filter test (range_with_len a n)) (length (filter test (range_with_len a ahead))) ≡ Some (a + ahead)
  place-of a zero ahead lt passes = absurd (omega arith)
  place-of a (suc n) zero lt passes =
      let same : a + 0 ≡ a = omega arith in
      ap (λ b. slice_get (cond b (a ∷ filter test (range_with_len (a + 1) n)) (filter test (range_with_len (a + 1) n))) 0) (ap test (sym same) ∙ passes) ∙ ap Some (sym same)
  place-of a (suc n) (suc ahead) lt passes =
      let same : a + 1 + ahead ≡ a + suc ahead = omega arith in
      by_test (test a) (place-of (a + 1) n ahead (omega (arith, lt)) (ap test same ∙ passes) ∙ ap Some same)
    where
      by_test : (b : Bool) → slice_get (filter test (range_with_len (a + 1) n)) (length (filter test (range_with_len (a + 1) ahead))) ≡ Some (a + suc ahead)
          → slice_get (cond b (a ∷ filter test (range_with_len (a + 1) n)) (filter test (range_with_len (a + 1) n)))
          (length (cond b (a ∷ filter test (range_with_len (a + 1) ahead)) (filter test (range_with_len (a + 1) ahead)))) ≡ Some (a + suc ahead)
      by_test true rest = rest
      by_test false rest = rest

-- ---- the laws

pub ranks_are_places : RanksArePlaces
ranks_are_places graph head lt is =
    let same : 0 + head ≡ head = omega arith in
    subst (λ n. slice_get (heads_of graph) (head_rank graph head) ≡ Some n) same
    (place-of (is_head graph.arcs) 0 graph.nodes head lt (ap (is_head graph.arcs) same ∙ is))

pub places_are_ranks : PlacesAreRanks
places_are_ranks graph place head there =
    let at = at-place (is_head graph.arcs) 0 graph.nodes place head there in
    let same : at.ahead ≡ head = let sum = at.is in omega (arith, sum) in
    let less = at.within in
    (omega (arith, same, less), at.passes, ap (λ n. length (filter (is_head graph.arcs) (range_with_len 0 n))) (sym same) ∙ at.before)
