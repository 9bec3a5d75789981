-- The two tests of short domains.
use Rattle.std.proofs.Common.{w64, to_z, of_z}
use Rattle.bit_domain.proofs.DomLaws.{short_parts}
use Rattle.bit_domain.proofs.mix.between.Goals as goal

pub short_between-requires-clause-some : goal.short_between-requires-clause-some
short_between-requires-clause-some c =
    (short_parts (to_z w64 (of_z w64 c.args.low)) (to_z w64 (of_z w64 c.args.high)) c.is_short.result c.is_short.ensures c.if-is_short.true).0

pub short_between-requires-clause-short : goal.short_between-requires-clause-short
short_between-requires-clause-short c =
    (short_parts (to_z w64 (of_z w64 c.args.low)) (to_z w64 (of_z w64 c.args.high)) c.is_short.result c.is_short.ensures c.if-is_short.true).1
