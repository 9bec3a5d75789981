use Rattle.std.proofs.Common.{◌≡◌, ◌<◌, ◌≤◌, ◌+◌, ◌*◌, ◌||◌, ℕ, List, length, take, refl, sym, ◌∙◌, ap, subst, arith}
use Rattle.std.proofs.lemmas.List.{take_all}
use Rattle.moved_set.specs.declared.mask.Mask.{Mask}
use Rattle.moved_set.specs.Sets.{Naming}
use Rattle.moved_set.specs.Words.{names}
use Rattle.moved_set.specs.Rows.{row_at}
use Rattle.moved_set.specs.Asked.{IsUnited}
use Rattle.std.specs.Prelude.{All}
use Rattle.moved_set.specs.Asking.{row_of, some_uses, IsAsked}
use Rattle.moved_set.proofs.RowLaws.{row_lent}
use Rattle.moved_set.proofs.AskingLaws.{asked_own, asked_list, asked_all, sets_length, row_inside, list_inside, rows_inside, three_inside}
use Rattle.moved_set.proofs.masks.Masks.ask.Goals as goal

pub unite-requires : goal.unite-requires
unite-requires c =
    let within : 3 * c.args.v + 2 < length c.self.inside.own = omega (arith, c.requires.variable, ap (λ (n : Naming). n.count) c.self.view_is, c.self.invariant.own_length) in
    let size : length c.args.asked.now ≡ c.self.inside.kernels = c.requires.set ∙ ap (λ (n : Naming). length n.sets) (sym c.self.view_is) ∙ sets_length _ _ _ _ _ in
    let all = rows_inside c.self.inside.own c.self.inside.kernels (length c.args.asked.now) c.self.invariant.own_within size in
    subst (All (λ m. m.place * 32 ≤ length c.args.asked.now)) (sym c.three.ensures)
    (three_inside c.self.inside.own (3 * c.args.v) (3 * c.args.v + 1) (3 * c.args.v + 2) (length c.args.asked.now) all (omega arith) (omega arith) (omega arith))

pub loop-list-init : goal.loop-list-init
loop-list-init c =
    asked_own c.args.asked.now c.unite.new.self (row_of c.self.inside.own c.args.v) c.self.inside.users
    (subst (λ (r : List Mask). IsUnited c.args.asked.now r c.unite.new.self) c.three.ensures c.unite.ensures)

pub group-requires : goal.group-requires
group-requires c =
    let within : c.args.v < c.self.inside.count = omega (arith, c.requires.variable, ap (λ (n : Naming). n.count) c.self.view_is) in
    let there : c.args.v < length c.self.inside.lists_of.items = omega (arith, within, c.self.invariant.lists_length) in
    let lists : c.deref-list-items.result.now ≡ row_at c.self.inside.lists_of.items c.args.v =
    row_lent c.self.inside.lists_of.items c.args.v c.index.result.now c.deref-list-items.result.now there c.index.ensures c.deref-list-items.ensures.value in
    list_inside c.self.inside.lists_of.items c.self.inside.count (length c.self.inside.users) c.args.v c.loop-list.list-index c.deref-list-items.result.now within c.self.invariant.there lists c.loop-list-test.true

pub unite-requires-in-loop-list : goal.unite-requires-in-loop-list
unite-requires-in-loop-list c =
    let within : c.args.v < c.self.inside.count = omega (arith, c.requires.variable, ap (λ (n : Naming). n.count) c.self.view_is) in
    let there : c.args.v < length c.self.inside.lists_of.items = omega (arith, within, c.self.invariant.lists_length) in
    let lists : c.deref-list-items.result.now ≡ row_at c.self.inside.lists_of.items c.args.v =
    row_lent c.self.inside.lists_of.items c.args.v c.index.result.now c.deref-list-items.result.now there c.index.ensures c.deref-list-items.ensures.value in
    row_inside c.self.inside.users _ c.self.inside.kernels (length c.loop-list.asked) c.group.result.now c.self.invariant.users_within
    (list_inside c.self.inside.lists_of.items c.self.inside.count (length c.self.inside.users) c.args.v c.loop-list.list-index c.deref-list-items.result.now within c.self.invariant.there lists c.loop-list-test.true)
    c.group.ensures
    (c.loop-list.invariant.same_length ∙ c.requires.set ∙ ap (λ (n : Naming). length n.sets) (sym c.self.view_is) ∙ sets_length _ _ _ _ _)

pub loop-list-preserved : goal.loop-list-preserved
loop-list-preserved c =
    asked_list c.args.asked.now c.loop-list.asked c.unite-in-loop-list.new.self (row_of c.self.inside.own c.args.v) c.self.inside.users c.deref-list-items.result.now c.loop-list.list-index
    c.group.result.now c.loop-list-test.true c.group.ensures c.loop-list.invariant c.unite-in-loop-list.ensures

pub returns : goal.returns
returns c =
    let within : c.args.v < c.self.inside.count = omega (arith, c.requires.variable, ap (λ (n : Naming). n.count) c.self.view_is) in
    let there : c.args.v < length c.self.inside.lists_of.items = omega (arith, within, c.self.invariant.lists_length) in
    let lists : c.deref-list-items.result.now ≡ row_at c.self.inside.lists_of.items c.args.v =
    row_lent c.self.inside.lists_of.items c.args.v c.index.result.now c.deref-list-items.result.now there c.index.ensures c.deref-list-items.ensures.value in
    let all : take c.loop-list.list-index c.deref-list-items.result.now ≡ c.deref-list-items.result.now = take_all c.loop-list.list-index c.deref-list-items.result.now (omega (arith, c.loop-list-test.false)) in
    asked_all c.args.asked.now c.loop-list.asked (row_of c.self.inside.own) c.self.inside.lists_of.items c.self.inside.users c.self.inside.count c.self.inside.kernels c.args.v c.args.self.now.sets
    (row_of c.self.inside.own c.args.v) c.deref-list-items.result.now (ap (λ (n : Naming). n.sets) c.self.view_is) within (c.requires.set ∙ ap (λ (n : Naming). length n.sets) (sym c.self.view_is) ∙ sets_length _ _ _ _ _) refl lists
    (subst (λ (ls : List ℕ). IsAsked c.args.asked.now (λ j. names (row_of c.self.inside.own c.args.v) j || some_uses c.self.inside.users j ls) c.loop-list.asked) all c.loop-list.invariant)

pub three-requires : goal.three-requires
three-requires c = omega (arith, c.requires.variable, ap (λ (n : Naming). n.count) c.self.view_is, c.self.invariant.own_length)
