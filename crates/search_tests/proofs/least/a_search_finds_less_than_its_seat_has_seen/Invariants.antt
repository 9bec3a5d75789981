use Rattle.search.specs.LeastEnds.{IsCost}
use Rattle.search_tests.proofs.least.a_search_finds_less_than_its_seat_has_seen.Given as goal

-- what may be posted are the costs of the model
abbrev pub ghosts-assert_ends : goal.ghosts-assert_ends
ghosts-assert_ends g a = record { is_cost = λ cost. IsCost a.searched.now.model cost }
