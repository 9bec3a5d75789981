use Rattle.std.proofs.Common.{◌≡◌, ◌<◌, List, length, get_or, refl, ap, ◌∙◌, subst}
use Rattle.moved_set.specs.declared.mask.Mask.{Mask}
use Rattle.moved_set.specs.Building.{place_at}
use Rattle.moved_set.proofs.GroupLaws.{names_more}
use Rattle.std.proofs.lemmas.List.{get_or_default}
use Rattle.moved_set.proofs.build.add.Goals as goal

pub returns-then-is_there-clause-adds : goal.returns-then-is_there-clause-adds
returns-then-is_there-clause-adds c v =
    let at = get_or c.args.last.now c.args.mask.place 0 in
    let said = c.if-is_there.ensures in
    let there = said.0 refl in
    let masks : c.as_slice.result.now ≡ c.args.group.now.items = c.as_slice.ensures.value in
    let inside : at < length c.args.group.now.items = subst (λ (ms : List Mask). at < length ms) masks there.0 in
    let none : Mask = record { place = 0; bits = 0 } in
    let place : (get_or c.args.group.now.items at none).place ≡ c.args.mask.place = subst (λ (ms : List Mask). place_at ms at ≡ c.args.mask.place) masks there.1 in
    let old : Mask = c.index_mut.result.now in
    let is : old ≡ get_or c.args.group.now.items at old = c.index_mut.ensures.value in
    names_more c.args.group.now.items at v old c.args.mask inside is
    (ap (λ (m : Mask). m.place) (is ∙ get_or_default c.args.group.now.items at old none inside) ∙ place)
