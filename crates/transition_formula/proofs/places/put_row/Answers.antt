use Rattle.std.proofs.Common.{◌≡◌, length, sym, ◌∙◌, arith}
use Rattle.transition_formula.proofs.AtPlaces.{row-new, row-at, told, replaced, replaced-tells, left_as_is, pushed-tells}
use Rattle.transition_formula.proofs.places.put_row.Goals as goal

pub index-requires : goal.index-requires
index-requires c =
    let found = told c.args.rows.now.items c.args.row c.args.places.now c.requires c.in_ok-key.key c.copied-place.result c.in_ok-key.ensures (c.copied-place.ensures ∙ c.get.ensures.value) ∙ c.in-Some.is in
    let put = row-at c.args.rows.now.items c.args.row c.args.row c.in-Some.place found in
    let within = put.within in
    omega (arith, c.args.rows.now.ok.0)

pub index_mut-requires : goal.index_mut-requires
index_mut-requires c =
    let found = told c.args.rows.now.items c.args.row c.args.places.now c.requires c.in_ok-key.key c.copied-place.result c.in_ok-key.ensures (c.copied-place.ensures ∙ c.get.ensures.value) ∙ c.in-Some.is in
    let put = row-at c.args.rows.now.items c.args.row c.args.row c.in-Some.place found in
    let within = put.within in
    omega (arith, c.args.rows.now.ok.0)

pub returns-then-is_weaker-clause-made : goal.returns-then-is_weaker-clause-made
returns-then-is_weaker-clause-made c =
    let found = told c.args.rows.now.items c.args.row c.args.places.now c.requires c.in_ok-key.key c.copied-place.result c.in_ok-key.ensures (c.copied-place.ensures ∙ c.get.ensures.value) ∙ c.in-Some.is in
    replaced c.args.rows.now.items c.args.row c.args.places.now c.requires c.index.result.now c.in-Some.place found c.index.ensures (sym c.if-is_weaker.ensures)

pub returns-then-is_weaker-clause-places : goal.returns-then-is_weaker-clause-places
returns-then-is_weaker-clause-places c =
    let found = told c.args.rows.now.items c.args.row c.args.places.now c.requires c.in_ok-key.key c.copied-place.result c.in_ok-key.ensures (c.copied-place.ensures ∙ c.get.ensures.value) ∙ c.in-Some.is in
    replaced-tells c.args.rows.now.items c.args.row c.args.places.now c.requires c.in-Some.place found

pub returns-else-is_weaker-clause-made : goal.returns-else-is_weaker-clause-made
returns-else-is_weaker-clause-made c =
    let found = told c.args.rows.now.items c.args.row c.args.places.now c.requires c.in_ok-key.key c.copied-place.result c.in_ok-key.ensures (c.copied-place.ensures ∙ c.get.ensures.value) ∙ c.in-Some.is in
    left_as_is c.args.rows.now.items c.args.row c.args.places.now c.requires c.index.result.now c.in-Some.place found c.index.ensures (sym c.if-is_weaker.ensures)

pub returns-in_ok-push-in-None-clause-made : goal.returns-in_ok-push-in-None-clause-made
returns-in_ok-push-in-None-clause-made c =
    let none = told c.args.rows.now.items c.args.row c.args.places.now c.requires c.in_ok-key.key c.copied-place.result c.in_ok-key.ensures (c.copied-place.ensures ∙ c.get.ensures.value) ∙ c.in-None.is in
    c.in_ok-push-in-None.ensures.items ∙ sym (row-new c.args.rows.now.items c.args.row none)

pub returns-in_ok-push-in-None-clause-places : goal.returns-in_ok-push-in-None-clause-places
returns-in_ok-push-in-None-clause-places c =
    let none = told c.args.rows.now.items c.args.row c.args.places.now c.requires c.in_ok-key.key c.copied-place.result c.in_ok-key.ensures (c.copied-place.ensures ∙ c.get.ensures.value) ∙ c.in-None.is in
    let at : c.len.result ≡ length c.args.rows.now.items = omega (arith, c.args.rows.now.ok.0, c.len.ensures) in
    pushed-tells c.args.rows.now.items c.args.row c.args.places.now c.requires c.insert.new.self c.push.new.self.items c.in_ok-key.key c.len.result none c.in_ok-key.ensures at c.in_ok-push-in-None.ensures.items
    (λ q. c.in_ok-insert-in-None.ensures.updates.0 q)
