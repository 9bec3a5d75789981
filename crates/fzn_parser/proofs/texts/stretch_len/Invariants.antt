use Rattle.std.proofs.Common.{◌≡◌, ◌++◌, take, drop}
use Rattle.fzn_parser.specs.Texts.{first_stretch}
use Rattle.fzn_parser.proofs.texts.stretch_len.Given as goal

abbrev pub invariant-loop-token : goal.invariant-loop-token
invariant-loop-token l = (l.len ≡ l.token-index) × (first_stretch l.text l.tokens ≡ take l.len l.tokens ++ first_stretch l.text (drop l.len l.tokens))
