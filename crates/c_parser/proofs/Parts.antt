-- A `for` by its parts.
use Rattle.std.proofs.Common.{◌≡◌, ℕ, false, Result, Ok, Err, List, [], ◌∷◌, refl, sym, ◌∙◌}
use Rattle.items.specs.Gives.{◌>>=◌}
use Rattle.items.proofs.Gives.{bind-assoc}
use Rattle.c_lexer.specs.declared.mark.Mark.TheVariants as marks
use Rattle.syntax_tree.specs.SourceLine as made
use Rattle.syntax_tree.specs.SourceLine.{lines_from}
use Rattle.c_parser.specs.Descent.{deeper, past}
use Rattle.c_parser.specs.Parts.{for_begin, for_parts}
use Rattle.c_parser.specs.Spots.{Spot}
use Rattle.c_parser.specs.Statements.{LineReader, for_by, for_condition, for_step, init}

abbrev paired : {B D E : Type 0} → B → D → Result (B × D) E
paired x z = Ok (x, z)

last-part : {B D F E : Type 0} (r : Result D E) (x : B) (k : B → D → Result F E) → (r >>= λ z. k x z) ≡ ((r >>= λ z. paired x z) >>= λ w. k w.0 w.1)
last-part (Ok z) x k = refl
last-part (Err e) x k = refl

made-part : {B C D F E : Type 0} (r : Result (B × C) E) (q : C → Result D E) (k : B → D → Result F E)
    → (r >>= λ y. q y.1 >>= λ z. k y.0 z) ≡ ((r >>= λ y. q y.1 >>= λ z. paired y.0 z) >>= λ w. k w.0 w.1)
made-part (Ok y) q k = last-part (q y.1) y.0 k
made-part (Err e) q k = refl

-- a step that makes something between two that do not
between : {A B C D F E : Type 0} (r : Result A E) (s : A → Result (B × C) E) (q : C → Result D E) (k : B → D → Result F E)
    → (r >>= λ x. s x >>= λ y. q y.1 >>= λ z. k y.0 z) ≡ ((r >>= λ x. s x >>= λ y. q y.1 >>= λ z. paired y.0 z) >>= λ w. k w.0 w.1)
between (Ok x) s q k = made-part (s x) q k
between (Err e) s q k = refl

pub for_by-parts : (most : ℕ) (reader : ℕ → LineReader) (levels at : ℕ) (rest : List Spot) → for_by most reader levels at rest ≡ for_parts most reader levels at rest
for_by-parts most reader levels at rest =
    (λ i. deeper levels at >>= λ level.
    sym (bind-assoc (past marks.OpenRound rest) (init most level) (λ first. for_condition most level first.1 >>= λ cond.
    past marks.Semi cond.1 >>= λ then_step. for_step most level then_step >>= λ step. past marks.CloseRound step.1 >>= λ then_body. reader level then_body >>= λ body.
    Ok (made.Loop (lines_from first.0) cond.0 (lines_from step.0) (lines_from body.0) false ∷ [], body.1))) i)
    ∙ (λ i. deeper levels at >>= λ level. for_begin most level rest >>= λ first. for_condition most level first.1 >>= λ cond.
    between (past marks.Semi cond.1) (for_step most level) (past marks.CloseRound) (λ step then_body. reader level then_body >>= λ body.
    Ok (made.Loop (lines_from first.0) cond.0 (lines_from step) (lines_from body.0) false ∷ [], body.1)) i)
