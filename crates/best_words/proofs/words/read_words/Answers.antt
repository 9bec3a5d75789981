use Rattle.std.proofs.Common.{◌≡◌, ◌∙◌, false, subst}
use denote.Enum.Bare.{sameb}
use Rattle.clap.specs.contracts.error.kind.ErrorKind.{the_type}
use Rattle.clap.specs.declared.error.kind.ErrorKind.TheVariants.{OutOfMemory}
use Rattle.best_words.proofs.WordLaws.{config_refused, config_taken, taken_err, taken_ok}
use Rattle.best_words.proofs.words.read_words.Goals as goal

pub returns-in-Ok-try_get_matches_from-clause-ok : goal.returns-in-Ok-try_get_matches_from-clause-ok
returns-in-Ok-try_get_matches_from-clause-ok c =
    let meant = config_taken _ _ _ _ c.config_in.result c.in-Ok.ensures c.in-Ok-try_get_matches_from.ensures.matches c.in-Ok-try_get_matches_from.ensures.kinds c.config_in.ensures.is in
    taken_ok _ c.config_in.result c.ok_or.result c.ok_or.ensures.value meant

pub returns-in-Ok-try_get_matches_from-clause-not_taken : goal.returns-in-Ok-try_get_matches_from-clause-not_taken
returns-in-Ok-try_get_matches_from-clause-not_taken c =
    let meant = config_taken _ _ _ _ c.config_in.result c.in-Ok.ensures c.in-Ok-try_get_matches_from.ensures.matches c.in-Ok-try_get_matches_from.ensures.kinds c.config_in.ensures.is in
    taken_err _ c.config_in.result c.ok_or.result c.ok_or.ensures.value meant

pub returns-clause-not_taken : goal.returns-clause-not_taken
returns-clause-not_taken c = λ is. config_refused _ _ c.in-Err.error c.in-Ok.ensures c.in-Err.ensures.kinds
    (λ memory. let bad = subst (λ k. false ≡ sameb the_type k OutOfMemory) (c.kind.ensures ∙ memory) c.if-eq.ensures in cc)
