-- What is so of every value of `MovedSet`.
use Rattle.std.specs.Prelude.{◌≡◌, ◌+◌, ◌/◌, length}
use Rattle.moved_set.specs.Words.{set_of}
use Rattle.moved_set.specs.Listed.{IsListing, IsWorthwhile}
use Rattle.moved_set.specs.declared.set.MovedSet.TheInside.{Inside}

-- the words are as many as the count asks for, and the list is one of the set, given up only where that has many
pub record IsConsistent (s : Inside) : Type 0 where
  pub words : length s.words.items ≡ (s.count + 31) / 32
  pub listing : IsListing s.few (set_of s.words.items s.count)
  pub worthwhile : IsWorthwhile s.few (set_of s.words.items s.count)
