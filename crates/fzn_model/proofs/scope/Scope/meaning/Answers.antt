use Rattle.std.proofs.Common.{ap, ◌∙◌}
use Rattle.fzn_model.specs.Scopes.{meaning_of}
use Rattle.fzn_model.proofs.ScopeLaws.{looked_up}
use Rattle.fzn_model.proofs.scope.Scope.meaning.Goals as goal

pub returns : goal.returns
returns c = c.get.ensures.value ∙ looked_up c.args.name.now c.self.inside.entries.entries ∙ ap (λ s. meaning_of s c.args.name.now) c.self.view_is
