use Rattle.std.proofs.Common.{◌*◌, length, arith}
use Rattle.moved_set.proofs.RowLaws.{rows_below}
use Rattle.moved_set.proofs.NamingLaws.{masks_name, lists_there, groups_lent}
use Rattle.moved_set.proofs.masks.Masks.new.Goals as goal

pub masks_of-requires : goal.masks_of-requires
masks_of-requires c = rows_below _ (length c.args.kernels.now) (3 * c.args.count) _ c.in_ok-rows.rows.own.items c.as_slice.result.now c.as_slice.ensures.value (omega arith) c.in_ok-rows.ensures.own

pub masks_of-requires-2 : goal.masks_of-requires-2
masks_of-requires-2 c =
    rows_below _ (length c.args.kernels.now) (length c.in_ok-parts.parts.lists.items) _ c.in_ok-rows.rows.users.items c.as_slice-2.result.now c.as_slice-2.ensures.value (omega arith) c.in_ok-rows.ensures.users

pub invariant_of-result : goal.invariant_of-result
invariant_of-result c =
    let own = groups_lent c.in_ok-rows.rows.own.items c.as_slice.result.now (3 * c.args.count) c.in_ok-own.own c.as_slice.ensures.value c.in_ok-rows.ensures.own.length_is c.in_ok-own.ensures.masks in
    let users = groups_lent c.in_ok-rows.rows.users.items c.as_slice-2.result.now (length c.in_ok-parts.parts.lists.items) c.in_ok-users.users c.as_slice-2.ensures.value c.in_ok-rows.ensures.users.length_is c.in_ok-users.ensures.masks in
    record {
      own_length = own.same_length;
      lists_length = c.in_ok-rows.ensures.lists.length_is;
      there = lists_there c.args.kernels.now c.in_ok-parts.parts.lists.items c.in_ok-parts.parts.of_kernels.items c.args.count c.in_ok-rows.rows.own.items c.in_ok-rows.rows.lists_of.items c.in_ok-rows.rows.users.items
          c.in_ok-own.own c.in_ok-users.users c.requires c.in_ok-parts.ensures.parts c.in_ok-rows.ensures.own c.in_ok-rows.ensures.lists c.in_ok-rows.ensures.users own users users.same_length;
      own_within = c.in_ok-own.ensures.within;
      users_within = c.in_ok-users.ensures.within;
    }

pub returns-clause-naming : goal.returns-clause-naming
returns-clause-naming c =
    let own = groups_lent c.in_ok-rows.rows.own.items c.as_slice.result.now (3 * c.args.count) c.in_ok-own.own c.as_slice.ensures.value c.in_ok-rows.ensures.own.length_is c.in_ok-own.ensures.masks in
    let users = groups_lent c.in_ok-rows.rows.users.items c.as_slice-2.result.now (length c.in_ok-parts.parts.lists.items) c.in_ok-users.users c.as_slice-2.ensures.value c.in_ok-rows.ensures.users.length_is c.in_ok-users.ensures.masks in
    masks_name c.args.kernels.now c.in_ok-parts.parts.lists.items c.in_ok-parts.parts.of_kernels.items c.args.count c.in_ok-rows.rows.own.items c.in_ok-rows.rows.lists_of.items c.in_ok-rows.rows.users.items
    c.in_ok-own.own c.in_ok-users.users c.requires c.in_ok-parts.ensures.parts c.in_ok-rows.ensures.own c.in_ok-rows.ensures.lists c.in_ok-rows.ensures.users own users c.in_ok-shapes.shapes.items

pub shapes_of-requires : goal.shapes_of-requires
shapes_of-requires c = λ i d h. (c.requires i d h).numbers
