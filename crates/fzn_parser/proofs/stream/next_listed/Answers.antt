use Rattle.std.proofs.Common.{◌≡◌, ◌∙◌, List, None, length, false, sym, ap, rules}
use Rattle.std.specs.Prelude.{◌==◌, option_map}
use Rattle.fzn_parser.specs.declared.cursor.Lexeme.{Lexeme}
use Rattle.fzn_parser.specs.declared.cursor.Symbol.{Symbol}
use Rattle.fzn_parser.specs.Terminals.{begins}
use Rattle.fzn_parser.specs.Parsing.{item_tree, placed_at, max_depth}
use Rattle.fzn_parser.specs.Items.{whole_at}
use Rattle.fzn_parser.proofs.Gathered.{TurnLaws, gathered_item, gathered_lacks, gathered_lacks_next}
use Rattle.fzn_parser.proofs.stream.next_listed.Goals as goal

pub returns-in-Ok-clause-item : goal.returns-in-Ok-clause-item
returns-in-Ok-clause-item c =
    let ls = c.gather.new.lexemes.items in
    let some : (length ls == 0) ≡ false = search rules in
    let other : begins Symbol.Predicate ls ≡ false = ap (begins Symbol.Predicate) (sym c.as_slice.ensures.value) ∙ (sym c.begins.ensures ∙ c.if-begins.false) in
    gathered_item c.args.text.now c.args.from ls c.in_ok-stretch.stretch (item_tree c.in-Ok.item) c.in_ok-stretch.ensures.stretch some other
    (ap (λ (us : List Lexeme). option_map (λ what. placed_at c.in_ok-stretch.stretch.start what) (whole_at max_depth us)) (sym c.as_slice-2.ensures.value) ∙ c.in-Ok.ensures.read)

pub returns-in-Err-Refused-clause-cause : goal.returns-in-Err-Refused-clause-cause
returns-in-Err-Refused-clause-cause c =
    let ls = c.gather.new.lexemes.items in
    let some : (length ls == 0) ≡ false = search rules in
    let other : begins Symbol.Predicate ls ≡ false = ap (begins Symbol.Predicate) (sym c.as_slice.ensures.value) ∙ (sym c.begins.ensures ∙ c.if-begins.false) in
    let none : whole_at max_depth c.as_slice-2.result.now ≡ None = search rules in
    let laws : TurnLaws c.args.text.now = record {
      nothing = c.law_tokens_in_turn.ensures.nothing c.args.text.now;
      joined = c.law_tokens_in_turn.ensures.joined c.args.text.now;
      one_rest = c.law_tokens_in_turn.ensures.one_rest c.args.text.now;
    } in
    gathered_lacks c.args.text.now laws c.args.from ls c.in_ok-stretch.stretch c.in_ok-stretch.ensures.stretch some other
    (ap (whole_at max_depth) (sym c.as_slice-2.ensures.value) ∙ none)

pub returns-in-Err-Refused-clause-next : goal.returns-in-Err-Refused-clause-next
returns-in-Err-Refused-clause-next c =
    let ls = c.gather.new.lexemes.items in
    let some : (length ls == 0) ≡ false = search rules in
    let other : begins Symbol.Predicate ls ≡ false = ap (begins Symbol.Predicate) (sym c.as_slice.ensures.value) ∙ (sym c.begins.ensures ∙ c.if-begins.false) in
    let none : whole_at max_depth c.as_slice-2.result.now ≡ None = search rules in
    gathered_lacks_next c.args.text.now c.args.from ls c.in_ok-stretch.stretch c.in_ok-stretch.ensures.stretch some other
    (ap (whole_at max_depth) (sym c.as_slice-2.ensures.value) ∙ none)
