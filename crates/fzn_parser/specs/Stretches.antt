-- The item that a stretch of tokens is read as.
use Rattle.std.specs.Prelude.{ℕ, List, [], ◌∷◌, map, cond, Option, None, option_map}
use Rattle.fzn_lexer.specs.declared.Token.{Token}
use Rattle.fzn_parser.specs.declared.cursor.Symbol.{Symbol}
use Rattle.fzn_parser.specs.Items.{predicate_item, whole_at}
use Rattle.fzn_parser.specs.Texts.{lexeme_of, is_at, before_last}
use Rattle.fzn_parser.specs.Parsing.{ItemTree, placed, max_depth}

-- the item that these tokens read as
unfoldable pub item_at : List ℕ → List Token → Option ItemTree
item_at text [] = None
item_at text (first ∷ more) = cond (is_at Symbol.Predicate text first)
    (option_map (λ kept. placed first (predicate_item kept)) (before_last text more))
    (option_map (λ what. placed first what) (whole_at max_depth (map (lexeme_of text) (first ∷ more))))
