use Rattle.std.proofs.Common.{◌≡◌, ◌+◌, ◌-◌, List, [], ◌∷◌, ◌++◌, None, length, take, drop, map, sym, ap, ◌∙◌, subst, arith, rules, length-drop}
use Rattle.fzn_parser.specs.Parsing.{ItemTree, item_tree}
use Rattle.fzn_parser.proofs.Trees.{map_push}
use Rattle.fzn_parser.proofs.Whole.{take_rest}
use Rattle.fzn_parser.specs.Stretches.{item_at}
use Rattle.fzn_parser.proofs.Progress.{ReadBefore, read_on, read_fault}
use Rattle.fzn_parser.proofs.parse.Goals as goal

pub loop-start-preserved : goal.loop-start-preserved
loop-start-preserved c =
    let start = c.loop-start.start in
    let len = c.stretch_len-len.result in
    let pushed : c.push.new.self.items ≡ c.loop-start.items.items ++ c.in-Ok.item ∷ [] = search rules in
    let on = read_on c.args.text.now c.args.tokens.now _ (map item_tree c.loop-start.items.items) (item_tree c.in-Ok.item) start len c.loop-start.invariant.1 (ap (take len) (take_rest start c.args.tokens.now)) c.in-Ok.ensures.read in
    let Reads = λ (xs : List ItemTree). ReadBefore c.args.text.now c.args.tokens.now (drop (start + len) c.args.tokens.now) xs in
    (omega (arith, length-drop start c.args.tokens.now), subst Reads (sym (map_push item_tree c.loop-start.items.items c.in-Ok.item) ∙ sym (ap (map item_tree) pushed)) on)

pub returns-in-Err-Refused : goal.returns-in-Err-Refused
returns-in-Err-Refused c =
    let left = take (length c.args.tokens.now - c.loop-start.start) (drop c.loop-start.start c.args.tokens.now) in
    let refused : item_at c.args.text.now (take c.stretch_len-len.result left) ≡ None = search rules in
    read_fault c.args.text.now c.args.tokens.now (take c.stretch_len-len.result left) (map item_tree c.loop-start.items.items) c.loop-start.start _ c.loop-start.invariant.1 c.loop-start-test.true c.stretch_len-len.ensures.stretch refused
