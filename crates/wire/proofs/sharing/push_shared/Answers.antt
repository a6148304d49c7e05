use Rattle.std.proofs.Common.{◌++◌, ◌∷◌, [], subst, sym}
use Rattle.wire.specs.Sharing.{IsShared}
use Rattle.wire.proofs.DistinctAnswers.{IsShared-more}
use Rattle.wire.proofs.sharing.push_shared.Goals as goal

pub returns : goal.returns
returns c before shared =
    let inserted = c.in_ok-place.ensures in
    subst (λ order. IsShared (before ++ c.args.answer ∷ []) c.insert_full.new.self.keys order) (sym c.in_ok-push.ensures.ok)
    (IsShared-more before c.args.distinct.now.keys c.args.order.now c.args.answer c.insert_full.new.self.keys c.in_ok-place.place
    shared inserted.keys inserted.index inserted.unique)
