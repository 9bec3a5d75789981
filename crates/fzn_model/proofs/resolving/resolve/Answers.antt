use Rattle.std.proofs.Common.{◌≡◌, ◌≤◌, ◌∙◌, ap, subst, sym, length, map, take, false, None, arith}
use Rattle.std.proofs.lemmas.List.{length-map}
use Rattle.fzn_parser.specs.declared.tree.Item.{Item}
use Rattle.fzn_parser.specs.Parsing.{item_tree}
use Rattle.fzn_model.specs.Drafts.{seen}
use Rattle.fzn_model.specs.Scopes.{AreNumbered}
use Rattle.fzn_model.specs.Effects.{Reading, with_item}
use Rattle.fzn_model.specs.Faults.{fault_of, is_too_large, Refuses}
use Rattle.fzn_model.specs.Resolving.{IsCause, stopped_at}
use Rattle.fzn_model.proofs.ArrayLaws.{names_numbered}
use Rattle.fzn_model.proofs.Standing.{stands_more, cause_here, end_here}
use Rattle.fzn_model.proofs.resolving.resolve.Goals as goal

pub add-requires-clause-numbers : goal.add-requires-clause-numbers
add-requires-clause-numbers c =
    let front = take c.loop-item.item-index (map item_tree c.args.items.now) in
    subst (λ (r : Reading). AreNumbered r.arrays r.scope) (sym c.loop-item.invariant.same) (names_numbered c.args.text.now front)

pub returns-in-Err : goal.returns-in-Err
returns-in-Err c =
    let item = c.item-item.result in
    let now = seen c.loop-item.draft in
    let P : Item → Type 0 = λ x. Refuses (fault_of c.args.text.now now (item_tree x).what) c.in-Err.stop in
    let here = cause_here c.args.text.now c.args.items.now c.loop-item.item-index item now c.loop-item.invariant c.loop-item-test.true c.in-Err.stop (subst P c.item-item.is c.in-Err.ensures.fault) in
    let from = ap (λ (x : Item). stopped_at c.in-Err.stop x.from) c.item-item.is in
    subst (IsCause c.args.text.now (map item_tree c.args.items.now)) (sym (c.stopped.ensures ∙ from)) here

pub loop-item-preserved : goal.loop-item-preserved
loop-item-preserved c =
    let item = c.item-item.result in
    let now = seen c.loop-item.draft in
    let P : Item → Type 0 = λ x. seen c.add.new.self ≡ with_item c.args.text.now now (item_tree x) in
    let Q : Item → Type 0 = λ x. is_too_large (with_item c.args.text.now now (item_tree x)) ≡ false in
    let R : Item → Type 0 = λ x. fault_of c.args.text.now now (item_tree x).what ≡ None in
    stands_more c.args.text.now c.args.items.now c.loop-item.item-index item now c.loop-item.invariant c.loop-item-test.true (seen c.add.new.self)
    (subst P c.item-item.is c.in-Ok.ensures.added) (subst Q c.item-item.is c.in-Ok.ensures.fits) (subst R c.item-item.is c.in-Ok.ensures.lawful)

pub returns : goal.returns
returns c =
    let all : length (map item_tree c.args.items.now) ≤ c.loop-item.item-index = omega (arith, length-map c.args.items.now item_tree, c.loop-item-test.false) in
    end_here c.args.text.now (map item_tree c.args.items.now) c.loop-item.item-index (seen c.loop-item.draft) c.finished.result c.loop-item.invariant all c.finished.ensures.model c.finished.ensures.unsolved
