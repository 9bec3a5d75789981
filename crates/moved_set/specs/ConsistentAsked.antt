-- What is so of every value of `AskedSet`.
use Rattle.std.specs.Prelude.{◌≡◌, ◌+◌, ◌/◌, ◌<◌, length}
use Rattle.moved_set.specs.Pages.{AreMarked}
use Rattle.moved_set.specs.declared.asked.AskedSet.TheInside.{Inside}

-- the words are one more than whole words of bits, and each page in which there is something is marked
pub record IsConsistent (s : Inside) : Type 0 where
  pub words : length s.words.items ≡ s.count / 32 + 1
  pub pages : length s.pages.items ≡ s.count / 2048
  pub marked : AreMarked s.words.items s.pages.items s.count
  pub small : s.count < 281474976710656
