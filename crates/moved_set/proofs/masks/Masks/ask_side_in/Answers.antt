use Rattle.std.proofs.Common.{◌≡◌, ◌<◌, ◌≤◌, ◌*◌, ◌+◌, false, length, get_or, sym, subst, ◌∙◌, ap, arith}
use Rattle.std.specs.Prelude.{All}
use Rattle.moved_set.specs.Sets.{Naming, side_sets}
use Rattle.moved_set.specs.Rows.{row_at}
use Rattle.moved_set.specs.Asking.{side_row, asked_sets}
use Rattle.moved_set.proofs.RowLaws.{row_lent}
use Rattle.moved_set.proofs.AskingLaws.{asked_in_all, sets_length, rows_inside, lists_inside, side_inside, side_view}
use Rattle.moved_set.proofs.masks.Masks.ask_side_in.Goals as goal

pub row_of_side-row-requires : goal.row_of_side-row-requires
row_of_side-row-requires c = omega (arith, c.requires.variable, ap (λ (n : Naming). n.count) c.self.view_is, c.self.invariant.own_length)

pub ask_row-requires-clause-row : goal.ask_row-requires-clause-row
ask_row-requires-clause-row c =
    let within : 3 * c.args.v + 2 < length c.self.inside.own = omega (arith, c.requires.variable, ap (λ (n : Naming). n.count) c.self.view_is, c.self.invariant.own_length) in
    let size : length c.args.asked.now ≡ c.self.inside.kernels = c.requires.set ∙ ap (λ (n : Naming). length n.sets) (sym c.self.view_is) ∙ sets_length _ _ _ _ _ in
    let all = rows_inside c.self.inside.own c.self.inside.kernels (length c.args.asked.now) c.self.invariant.own_within size in
    subst (All (λ m. m.place * 32 ≤ length c.args.asked.now)) (sym c.row_of_side-row.ensures) (side_inside c.self.inside.own c.args.side c.args.v (length c.args.asked.now) all within)

pub ask_row-requires-clause-lists : goal.ask_row-requires-clause-lists
ask_row-requires-clause-lists c =
    let within : c.args.v < c.self.inside.count = omega (arith, c.requires.variable, ap (λ (n : Naming). n.count) c.self.view_is) in
    let there : c.args.v < length c.self.inside.lists_of.items = omega (arith, within, c.self.invariant.lists_length) in
    let lists : c.as_slice-lists.result.now ≡ row_at c.self.inside.lists_of.items c.args.v =
    row_lent c.self.inside.lists_of.items c.args.v c.index.result.now c.as_slice-lists.result.now there c.index.ensures c.as_slice-lists.ensures.value in
    lists_inside c.self.inside.lists_of.items c.self.inside.count (length c.self.inside.users) c.args.v c.as_slice-lists.result.now within c.self.invariant.there lists

pub ask_row-requires-clause-users : goal.ask_row-requires-clause-users
ask_row-requires-clause-users c =
    rows_inside c.self.inside.users c.self.inside.kernels (length c.args.asked.now) c.self.invariant.users_within
    (c.requires.set ∙ ap (λ (n : Naming). length n.sets) (sym c.self.view_is) ∙ sets_length _ _ _ _ _)

pub returns : goal.returns
returns c =
    let within : c.args.v < c.self.inside.count = omega (arith, c.requires.variable, ap (λ (n : Naming). n.count) c.self.view_is) in
    let there : c.args.v < length c.self.inside.lists_of.items = omega (arith, within, c.self.invariant.lists_length) in
    let lists : c.as_slice-lists.result.now ≡ row_at c.self.inside.lists_of.items c.args.v =
    row_lent c.self.inside.lists_of.items c.args.v c.index.result.now c.as_slice-lists.result.now there c.index.ensures c.as_slice-lists.ensures.value in
    let size : length c.args.asked.now ≡ c.self.inside.kernels = c.requires.set ∙ ap (λ (n : Naming). length n.sets) (sym c.self.view_is) ∙ sets_length _ _ _ _ _ in
    let sets : asked_sets (side_row c.self.inside.own c.args.side) c.self.inside.lists_of.items c.self.inside.users c.self.inside.count c.self.inside.kernels ≡ side_sets c.args.self.now c.args.side =
    side_view c.self.inside.own c.self.inside.lists_of.items c.self.inside.users c.self.inside.count c.self.inside.kernels c.self.inside.shapes.items c.args.side ∙ ap (λ (n : Naming). side_sets n c.args.side) c.self.view_is in
    asked_in_all c.args.asked.now c.ask_row.new.asked (side_row c.self.inside.own c.args.side) c.self.inside.lists_of.items c.self.inside.users c.self.inside.count c.self.inside.kernels c.args.v (side_sets c.args.self.now c.args.side)
    c.row_of_side-row.result.now c.as_slice-lists.result.now (λ j. get_or c.args.wanted.now.current j false) sets within size c.row_of_side-row.ensures lists c.ask_row.ensures
