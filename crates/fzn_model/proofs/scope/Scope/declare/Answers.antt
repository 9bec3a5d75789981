use Rattle.std.proofs.Common.{◌≡◌, [], ◌∷◌, ◌++◌, None, ap, ◌∙◌, sym}
use Rattle.fzn_model.specs.Scopes.{meaning_of}
use Rattle.fzn_model.proofs.ScopeLaws.{declarations, declared_last, lacks}
use Rattle.fzn_model.proofs.scope.Scope.declare.Goals as goal

pub returns-clause-added : goal.returns-clause-added
returns-clause-added c =
    let key = c.in_ok-key.key in
    let scope = c.args.self.now in
    let same : key.items ≡ c.args.name = c.in_ok-key.ensures.items ∙ c.as_slice-2.ensures in
    let absent : meaning_of scope key.items ≡ None = ap (meaning_of scope) (same ∙ sym c.as_slice.ensures) ∙ lacks (meaning_of scope c.as_slice.result.now) (sym c.contains.ensures ∙ c.if-contains.false) in
    λ _. ap declarations c.in_ok-insert.ensures.entries
    ∙ declared_last c.self.inside.entries key c.args.meaning (ap (λ s. meaning_of s key.items) c.self.view_is ∙ absent)
    ∙ ap (λ s. s ++ (key.items, c.args.meaning) ∷ []) c.self.view_is
    ∙ ap (λ k. scope ++ (k, c.args.meaning) ∷ []) same
