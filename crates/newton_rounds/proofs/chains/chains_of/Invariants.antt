use Rattle.std.proofs.Common.{◌≡◌, ◌-◌, ◌++◌, length}
use Rattle.std.specs.List.{flat_map, range_with_len}
use Rattle.newton_rounds.specs.Closure.{chains_of, losses_in_chains, others_in}
use Rattle.newton_rounds.specs.Groups.{chain_by, losses_in_chain_by}
use Rattle.newton_rounds.proofs.chains.chains_of.Given as goal

abbrev pub invariant-loop-n : goal.invariant-loop-n
invariant-loop-n l =
    record {
      made :
          l.cases ++ flat_map (λ n. (chain_by l.parts n).cases) (others_in l.parts.place (range_with_len l.n (length l.parts.members.now - l.n)))
          ≡ (chains_of l.parts.members.now l.parts.bases.now l.parts.cells.now l.parts.place).cases;
      noted :
          l.lost ++ flat_map (losses_in_chain_by l.parts) (others_in l.parts.place (range_with_len l.n (length l.parts.members.now - l.n)))
          ≡ l.fn.lost ++ losses_in_chains l.parts.members.now l.parts.bases.now l.parts.cells.now l.parts.place;
    }
