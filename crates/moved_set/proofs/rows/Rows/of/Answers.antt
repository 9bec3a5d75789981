use Rattle.std.proofs.Common.{length, ap}
use Rattle.moved_set.proofs.NamingLaws.{users_lent}
use Rattle.moved_set.proofs.rows.Rows.of.Goals as goal

pub returns-clause-users : goal.returns-clause-users
returns-clause-users c =
    users_lent c.as_slice-of_kernels.result.now c.args.parts.now.of_kernels.items (length c.args.kernels.now) (length c.as_slice-lists.result.now) (length c.args.parts.now.lists.items) c.in_ok-users.users.items
    c.as_slice-of_kernels.ensures.value c.requires.parts.same_length (ap length c.as_slice-lists.ensures.value) c.in_ok-users.ensures
