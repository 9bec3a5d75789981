use Rattle.std.proofs.lemmas.Bool.{OnTrue_from}
use Rattle.moved_fixpoint.specs.declared.told.Gathering.{Gathering}
use Rattle.moved_fixpoint.proofs.Gathering.{done_takes}
use Rattle.moved_fixpoint.proofs.told.GatheringHear.is_done.Goals as goal

pub returns : goal.returns
returns c = OnTrue_from _ _ (λ e. done_takes (λ (w : Gathering). w.told.now) (λ (w : Gathering). w.b.now) (λ (w : Gathering). w.told.ghost_name) c.args.self.now e)
