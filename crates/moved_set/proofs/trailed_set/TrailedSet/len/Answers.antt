use Rattle.std.proofs.Common.{length, sym, ap, ◌∙◌}
use Rattle.moved_set.specs.Layers.{Layers}
use Rattle.moved_set.proofs.SetLaws.{length-set_of}
use Rattle.moved_set.proofs.trailed_set.TrailedSet.len.Goals as goal

pub returns : goal.returns
returns c = sym (length-set_of c.self.inside.words.items c.self.inside.count) ∙ ap (λ (l : Layers). length l.current) c.self.view_is
