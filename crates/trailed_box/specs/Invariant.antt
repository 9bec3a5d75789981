-- What is so of every trailed box.
use Rattle.std.specs.Prelude.{◌≡◌, length}
use Rattle.trailed_box.specs.Trail.{AreOn, AreParts}
use Rattle.trailed_box.specs.declared.trailed.TrailedBox.TheInside.{Inside}

-- the marks lie on the trail, which speaks of the box's variables, and each of them has a place
pub record IsOrderly (t : Inside) : Type 0 where
  pub marks : AreOn t.trail.items t.marks.items
  pub parts : AreParts (length t.current) t.trail.items t.marks.items
  pub places : length t.last.items ≡ length t.current
