use Rattle.std.proofs.Common.{◌≡◌, ◌+◌, ◌++◌, drop, length, option_map}
use Rattle.fzn_parser.specs.Texts.{before_last}
use Rattle.fzn_parser.proofs.texts.before_last.Given as goal

abbrev pub invariant-loop-token : goal.invariant-loop-token
invariant-loop-token l = (l.left + l.token-index ≡ length l.tokens) × (before_last l.text l.tokens ≡ option_map (λ us. l.list ++ us) (before_last l.text (drop l.token-index l.tokens)))
