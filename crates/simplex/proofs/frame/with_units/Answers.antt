use Rattle.std.proofs.Common.{rules, ◌≡◌, ◌+◌, ◌++◌, ℕ, ℤ, pos, List, Vec, Global, length, set, replicate, ap, ◌∙◌}
use Rattle.std.specs.Vec.{vec_len}
use Rattle.simplex.proofs.UnitColumns.{units-zero, line-one, line-zeros}
use Rattle.simplex.proofs.frame.with_units.Goals as goal
use Rattle.simplex.proofs.frame.with_units.Goals.{then-place-count, else-place-count}

pub returns : goal.returns
returns c =
    let first : c.len-first.result ≡ length c.args.line = search rules in
    let all : c.in_ok-all.all ≡ length c.args.line + c.args.count = search rules in
    let many : vec_len c.into_vec-made.result ≡ length c.args.line = search rules in
    let filled : c.resize.new.self.items ≡ c.args.line ++ replicate c.args.count (pos 0) =
    c.in_ok-resize.ensures.items ∙ line-zeros c.args.line c.into_vec-made.result.items c.args.count c.in_ok-all.all (vec_len c.into_vec-made.result) c.into_vec-made.ensures all many in
    c.from_vec.ensures ∙ elim c.if-place-count.branch [
      | then-place-count w ↦
          ap (λ (v : Vec ℤ Global). v.items) w.made-is
          ∙ ap (λ (zs : List ℤ). set zs (c.len-first.result + c.args.place) (pos 1)) filled
          ∙ ap (λ (n : ℕ). set (c.args.line ++ replicate c.args.count (pos 0)) (n + c.args.place) (pos 1)) first
          ∙ line-one c.args.line c.args.count c.args.place w.if-place-count.true
      | else-place-count w ↦
          ap (λ (v : Vec ℤ Global). v.items) w.made-is ∙ filled ∙ ap (λ zs. c.args.line ++ zs) (units-zero c.args.count c.args.place w.if-place-count.false)
    ]
