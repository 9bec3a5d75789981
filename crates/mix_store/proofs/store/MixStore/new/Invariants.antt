use Rattle.mix_store.proofs.store.MixStore.new.Given as goal

abbrev pub ghosts-name_floor : goal.ghosts-name_floor
ghosts-name_floor g a = record { floor = g.floor }
