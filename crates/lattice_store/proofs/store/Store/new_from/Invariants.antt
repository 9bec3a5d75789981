use Rattle.lattice_store.proofs.store.Store.new_from.Given as goal

abbrev pub ghosts-name_floor : goal.ghosts-name_floor
ghosts-name_floor g a = record { floor = g.floor }
