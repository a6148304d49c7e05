-- Reading in pieces: what was read stands before what is left, until nothing is left or the limit
-- is passed.
use Rattle.std.proofs.Common.{◌≡◌, ℕ, ◌+◌, ◌≤◌, List, ◌++◌, length, take, Option, None, Some, subst, sym, ap, ◌∙◌, arith, append-nil}
use Rattle.std.proofs.Math.Seq.{take-append_seam}
use Rattle.std.proofs.lemmas.List.{take_all}
use Rattle.std.proofs.KnownBytes.{Consumes-trans}
use Rattle.std.specs.Io.KnownBytes.{Consumes, IsAtEnd}
use Rattle.commands.specs.Input.{IsInput}

-- a piece more was read
pub one_piece_more : (all before after : Option (List ℕ)) (xs ys zs : List ℕ) → Consumes all before xs → Consumes before after ys → zs ≡ xs ++ ys → Consumes all after zs
one_piece_more all before after xs ys zs p q r = subst (Consumes all after) (sym r) (Consumes-trans all before after xs ys p q)

-- more than the limit was read
pub IsInput-past : (limit : ℕ) (all rest : Option (List ℕ)) (bytes : List ℕ) → Consumes all rest bytes → length bytes ≡ limit + 1 → IsInput limit all bytes
unfolding IsInput
IsInput-past limit None rest bytes p e = omega arith
IsInput-past limit (Some all) None bytes p e = absurd p
IsInput-past limit (Some all) (Some rest) bytes p e =
    sym (ap (take (limit + 1)) p ∙ ap (λ n. take n (bytes ++ rest)) (sym e) ∙ take-append_seam bytes rest)

-- all was read
pub IsInput-all : (limit : ℕ) (all rest : Option (List ℕ)) (bytes : List ℕ) → Consumes all rest bytes → IsAtEnd rest → length bytes ≤ limit + 1 → IsInput limit all bytes
unfolding IsInput
IsInput-all limit None rest bytes p end h = h
IsInput-all limit (Some all) None bytes p end h = absurd p
IsInput-all limit (Some all) (Some rest) bytes p end h =
    let same : all ≡ bytes = p ∙ ap (λ more. bytes ++ more) end ∙ append-nil bytes in
    sym (ap (take (limit + 1)) same ∙ take_all (limit + 1) bytes h)
