use Rattle.std.proofs.Common.{◌≤◌, slice_get, arith}
use Rattle.fzn_io.specs.Memory.{all_of, bytes_of}
use Rattle.fzn_io.proofs.MemoryLaws.{read_some}
use Rattle.fzn_io.proofs.mem_source.MemSourceSource.read.Goals as goal

pub returns-clause-taken : goal.returns-clause-taken
returns-clause-taken c =
    let within : c.copy_front-taken.result ≤ c.args.self.now.chunk = omega (arith, c.copy_front-taken.ensures.count) in
    rw (c.requires, c.copy_front-taken.ensures.copied, c.left_at-left.ensures, c.deref.ensures.value) (read_some c.args.self.now.chunk c.args.self.now.from c.copy_front-taken.result (all_of (bytes_of (slice_get c.args.self.now.entries.items c.args.self.now.place))) within)
