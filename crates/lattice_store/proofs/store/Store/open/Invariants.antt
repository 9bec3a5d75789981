use Rattle.lattice_store.proofs.store.Store.open.Given as goal

abbrev pub ghosts-open_words : goal.ghosts-open_words
ghosts-open_words g a = record { floor = g.floor }
