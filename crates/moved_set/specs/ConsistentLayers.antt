-- What is so of every value of `TrailedSet`.
use Rattle.std.specs.Prelude.{◌≡◌, ◌+◌, ◌/◌, ◌<◌, ◌^◌, length, All}
use Rattle.moved_set.specs.Layers.{AreOn}
use Rattle.moved_set.specs.declared.trailed_set.TrailedSet.TheInside.{Inside}

-- the words are one more than whole words of bits, changes are of these, and the marks lie on the trail
pub record IsConsistent (s : Inside) : Type 0 where
  pub words : length s.words.items ≡ s.count / 32 + 1
  pub small : s.count < 2 ^ 32
  pub places : All (λ m. m.place < length s.words.items) s.trail.items
  pub marks : AreOn s.trail.items s.marks.items
