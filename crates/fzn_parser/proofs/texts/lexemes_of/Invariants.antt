use Rattle.std.proofs.Common.{◌≡◌, map, take}
use Rattle.fzn_parser.specs.Texts.{lexeme_of}
use Rattle.fzn_parser.proofs.texts.lexemes_of.Given as goal

abbrev pub invariant-loop-token : goal.invariant-loop-token
invariant-loop-token l = l.lexemes.items ≡ map (lexeme_of l.text) (take l.token-index l.tokens)
