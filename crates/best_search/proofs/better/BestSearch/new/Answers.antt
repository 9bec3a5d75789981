use Rattle.best_search.proofs.better.BestSearch.new.Goals as goal

pub returns-clause-search : goal.returns-clause-search
returns-clause-search g c = record {
  plain = c.in_ok-plain.ensures.turns;
  same_box = c.in_ok-plain.ensures.asked;
  is_free = tt;
  cost = tt;
  as_low = c.in_ok-plain.ensures.lowest;
}
