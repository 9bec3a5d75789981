use Rattle.std.proofs.Common.{◌≡◌, ◌++◌, ◌∷◌, [], get_or, refl, arith}
use Rattle.std.proofs.lemmas.Grind.{common_steps}
use Rattle.moved_set.proofs.LayerLaws.{spares_written}
use Rattle.moved_set.proofs.trailed_set.write_growing.Goals as goal

pub returns-clause-spared : goal.returns-clause-spared
returns-clause-spared c =
    let items : c.push.new.self.items ≡ c.args.trail.now.items ++ record { place = c.args.place; bits = get_or c.args.words.now c.args.place 0 } ∷ [] = grind (arith, common_steps) in
    spares_written c.args.words.now c.args.trail.now.items c.push.new.self.items c.args.place c.args.word (get_or c.args.words.now c.args.place 0) c.requires.inside refl items
