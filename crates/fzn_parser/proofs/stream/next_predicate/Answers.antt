use Rattle.std.proofs.Common.{◌≡◌, ◌<◌, ◌∙◌, Some, None, length, sym, ap, subst, rules}
use Rattle.fzn_lexer.specs.declared.Token.{Token}
use Rattle.fzn_parser.specs.Stretches.{item_at}
use Rattle.fzn_parser.specs.Parsing.{item_tree}
use Rattle.fzn_parser.specs.Stream.{LacksItem, LacksNext}
use Rattle.fzn_parser.proofs.Gathered.{TurnLaws, item_to, lacks_item, lacks_next}
use Rattle.fzn_parser.proofs.stream.next_predicate.Goals as goal

pub returns-in-Ok-clause-item : goal.returns-in-Ok-clause-item
returns-in-Ok-clause-item c =
    let tokens = c.gather_tokens.new.tokens.items in
    let some : 0 < length tokens = search rules in
    let read : item_at c.args.text.now tokens ≡ Some (item_tree c.in-Ok.item) = ap (item_at c.args.text.now) (sym c.as_slice.ensures.value) ∙ c.in-Ok.ensures.read in
    item_to c.args.text.now c.args.from c.in_ok-to.to tokens (item_tree c.in-Ok.item) c.in_ok-to.ensures.stretch some read

pub returns-in-Err-Refused-clause-cause : goal.returns-in-Err-Refused-clause-cause
returns-in-Err-Refused-clause-cause c =
    let tokens = c.gather_tokens.new.tokens.items in
    let some : 0 < length tokens = search rules in
    let none : item_at c.args.text.now c.as_slice.result.now ≡ None = search rules in
    let laws : TurnLaws c.args.text.now = record {
      nothing = c.law_tokens_in_turn.ensures.nothing c.args.text.now;
      joined = c.law_tokens_in_turn.ensures.joined c.args.text.now;
      one_rest = c.law_tokens_in_turn.ensures.one_rest c.args.text.now;
    } in
    let here = lacks_item c.args.text.now laws c.args.from c.in_ok-to.to tokens _ c.in_ok-to.ensures.stretch some (ap (item_at c.args.text.now) (sym c.as_slice.ensures.value) ∙ none) in
    subst (λ (t : Token). LacksItem c.args.text.now c.args.from t.from c.in_ok-to.to) (sym c.index.ensures) here

pub returns-in-Err-Refused-clause-next : goal.returns-in-Err-Refused-clause-next
returns-in-Err-Refused-clause-next c =
    let tokens = c.gather_tokens.new.tokens.items in
    let some : 0 < length tokens = search rules in
    let none : item_at c.args.text.now c.as_slice.result.now ≡ None = search rules in
    subst (λ (t : Token). LacksNext c.args.text.now c.args.from t.from c.in_ok-to.to) (sym c.index.ensures)
    (lacks_next c.args.text.now c.args.from c.in_ok-to.to tokens _ c.in_ok-to.ensures.stretch some (ap (item_at c.args.text.now) (sym c.as_slice.ensures.value) ∙ none))
