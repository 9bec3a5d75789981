use Rattle.lattice_store.proofs.store.Store.new.Given as goal

abbrev pub ghost-new_from : goal.ghost-new_from
ghost-new_from g a = g.floor
