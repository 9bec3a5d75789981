use Rattle.std.proofs.Common.{length, sym, ap, ◌∙◌}
use Rattle.moved_set.proofs.SetLaws.{length-set_of}
use Rattle.moved_set.proofs.set.MovedSet.len.Goals as goal

pub returns : goal.returns
returns c = sym (length-set_of c.self.inside.words.items c.self.inside.count) ∙ ap length c.self.view_is
