use Rattle.answer.proofs.AskedAlike.{asked_alike}
use Rattle.answer.proofs.OneLimited.{one_limited, rounds_pinned}
use Rattle.answer.proofs.laws.law_one_limited_answer.Goals as goal

pub returns : goal.returns
returns c = λ model o p answer other form alike own its h k.
    one_limited c.law_one_end.ensures c.law_paths.ensures c.law_one_list.ensures model form.search o (rounds_pinned o own.0) own.1 answer other h
    (asked_alike c.law_lanes_are_free.ensures model o p other alike own its k)
