use Rattle.std.proofs.Common.{◌≡◌, ◌∙◌, Option, Some, drop, sym, subst, refl, arith, IfOk}
use Rattle.fzn_lexer.specs.declared.Kind.{Kind}
use Rattle.fzn_lexer.specs.declared.Token.{Token}
use Rattle.fzn_parser.specs.declared.cursor.Symbol.{Symbol}
use Rattle.fzn_parser.specs.Parsing.{ItemTree, item_tree}
use Rattle.fzn_parser.proofs.Whole.{begins_first, item_empty, item_other}
use Rattle.fzn_parser.proofs.Progress.{first_of}
use Rattle.fzn_parser.proofs.read_stretch.Goals as goal

pub returns-in-empty-clause-refused : goal.returns-in-empty-clause-refused
returns-in-empty-clause-refused c refused = item_empty c.args.text.now c.args.stretch.now c.in-empty.len_below

pub returns-else-begins-clause-read : goal.returns-else-begins-clause-read
returns-else-begins-clause-read c =
    let whole = first_of c.args.stretch.now _ (omega (arith, c.in-len1-up.len_at_least)) in
    let other = begins_first Symbol.Predicate c.args.text.now _ c.args.stretch.now (drop 1 c.args.stretch.now) c.args.lexemes.now whole c.requires ∙ (sym c.begins.ensures ∙ c.if-begins.false) in
    let same = item_other c.args.text.now _ c.args.stretch.now (drop 1 c.args.stretch.now) c.args.lexemes.now _ other whole c.requires refl in
    subst (λ (o : Option ItemTree). IfOk c.read_other.result (λ i. o ≡ Some (item_tree i))) (sym same) c.read_other.ensures.read

-- the place of an empty stretch's first token, which no stretch here is
abbrev no_token : Token
no_token = record { kind = Kind.Word; from = 0; to = 0 }

pub returns-else-begins-clause-refused : goal.returns-else-begins-clause-refused
returns-else-begins-clause-refused c refused =
    let whole = first_of c.args.stretch.now no_token (omega (arith, c.in-len1-up.len_at_least)) in
    let other = begins_first Symbol.Predicate c.args.text.now _ c.args.stretch.now (drop 1 c.args.stretch.now) c.args.lexemes.now whole c.requires ∙ (sym c.begins.ensures ∙ c.if-begins.false) in
    item_other c.args.text.now _ c.args.stretch.now (drop 1 c.args.stretch.now) c.args.lexemes.now _ other whole c.requires (c.read_other.ensures.refused refused)

pub read_predicate-requires : goal.read_predicate-requires
read_predicate-requires c =
    let whole = first_of c.args.stretch.now no_token (omega (arith, c.in-len1-up.len_at_least)) in
    begins_first Symbol.Predicate c.args.text.now _ c.args.stretch.now (drop 1 c.args.stretch.now) c.args.lexemes.now whole c.requires ∙ (sym c.begins.ensures ∙ c.if-begins.true)
