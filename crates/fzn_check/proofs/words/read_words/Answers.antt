use Rattle.fzn_check.proofs.WordLaws.{names_taken, taken_err, taken_ok}
use Rattle.fzn_check.proofs.words.read_words.Goals as goal

pub returns-in-Ok-try_get_matches_from-clause-ok : goal.returns-in-Ok-try_get_matches_from-clause-ok
returns-in-Ok-try_get_matches_from-clause-ok c =
    let meant = names_taken _ _ _ _ c.names_in.result c.in-Ok.ensures c.in-Ok-try_get_matches_from.ensures.matches c.in-Ok-try_get_matches_from.ensures.kinds c.names_in.ensures in
    taken_ok _ c.names_in.result c.ok_or.result c.ok_or.ensures.value meant

pub returns-in-Ok-try_get_matches_from-clause-not_taken : goal.returns-in-Ok-try_get_matches_from-clause-not_taken
returns-in-Ok-try_get_matches_from-clause-not_taken c =
    let meant = names_taken _ _ _ _ c.names_in.result c.in-Ok.ensures c.in-Ok-try_get_matches_from.ensures.matches c.in-Ok-try_get_matches_from.ensures.kinds c.names_in.ensures in
    taken_err _ c.names_in.result c.ok_or.result c.ok_or.ensures.value meant
