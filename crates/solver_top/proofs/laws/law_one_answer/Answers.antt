use Rattle.solver_top.proofs.AnswerLaws.{one_answer, one_domains, one_line, one_limited, one_limited_line}
use Rattle.solver_top.proofs.laws.law_one_answer.Goals as goal

pub returns-clause-answer : goal.returns-clause-answer
returns-clause-answer c = one_answer c.law_one_text.ensures.one_model c.law_one_finished.ensures
    (λ text m is. (c.law_well_formed.ensures text is.items m is.resolved).search)

pub returns-clause-line : goal.returns-clause-line
returns-clause-line c = one_line c.law_one_text.ensures.one_model c.law_one_finished.ensures
    (λ text m is. (c.law_well_formed.ensures text is.items m is.resolved).search) c.law_unfinished_marks.ensures

pub returns-clause-limited : goal.returns-clause-limited
returns-clause-limited c = one_limited c.law_one_text.ensures.one_model c.law_one_limited_answer.ensures (λ text m is. c.law_well_formed.ensures text is.items m is.resolved)

pub returns-clause-limited_line : goal.returns-clause-limited_line
returns-clause-limited_line c = one_limited_line c.law_one_text.ensures.one_model c.law_one_limited_answer.ensures (λ text m is. c.law_well_formed.ensures text is.items m is.resolved)
    c.law_unfinished_marks.ensures

pub returns-clause-domains : goal.returns-clause-domains
returns-clause-domains c = one_domains c.law_one_text.ensures.one_model c.law_one_domain_text.ensures
