use Rattle.std.proofs.Common.{ap, ◌∙◌, is_some}
use Rattle.fzn_model.specs.Scopes.{meaning_of}
use Rattle.fzn_model.proofs.ScopeLaws.{looked_up}
use Rattle.fzn_model.proofs.scope.Scope.contains.Goals as goal

pub returns : goal.returns
returns c = c.contains_key.ensures ∙ ap is_some (looked_up c.args.name.now c.self.inside.entries.entries ∙ ap (λ s. meaning_of s c.args.name.now) c.self.view_is)
