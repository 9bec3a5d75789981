use Rattle.std.proofs.Common.{◌≡◌, inl}
use Rattle.std.proofs.lemmas.Result.{IfOk-weaker}
use Rattle.domain_text.specs.Domains.{IsDomainText, domain_text}
use Rattle.domain_text.proofs.left.print_left.Goals as goal

pub returns : goal.returns
returns c =
    let model = c.args.model.now in
    let mix = c.args.mix.now in
    let left = c.requires.left in
    let hold = c.law_solutions_are_left.ensures.left model mix c.requires.model left in
    IfOk-weaker c.print_domains.result (λ text. text.items ≡ domain_text model mix) (λ text. IsDomainText model text.items)
    (λ text e. inl (mix, left, hold, e))
    c.print_domains.ensures
