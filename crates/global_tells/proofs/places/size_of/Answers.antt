-- A word has no more ones than bits.
use Rattle.std.proofs.lemmas.Nat.{ones-le}
use Rattle.global_tells.proofs.places.size_of.Goals as goal

pub returns-clause-most : goal.returns-clause-most
returns-clause-most c = ones-le 128 c.args.set c.ranges.set.fits
