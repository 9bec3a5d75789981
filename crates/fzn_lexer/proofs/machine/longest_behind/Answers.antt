use Rattle.std.proofs.Common.{◌≡◌, ◌<◌, ◌+◌, ◌∙◌, drop, length, sym, arith}
use Rattle.fzn_lexer.specs.Machine.{later, longest_found}
use Rattle.fzn_lexer.proofs.Longest.{found_more, found_dead, found_last, found_all}
use Rattle.fzn_lexer.proofs.machine.longest_behind.Goals as goal

-- no longer piece is found behind the dead state
pub returns-in-Dead : goal.returns-in-Dead
returns-in-Dead c =
    let inside : c.loop-at.at < length c.args.text.now = omega arith in
    found_dead c.loop-at.found _ c.loop-at.state c.loop-at.at c.args.text.now inside c.loop-at.invariant (sym c.step-state.ensures ∙ c.in-Dead.is)

pub loop-at-preserved : goal.loop-at-preserved
loop-at-preserved c =
    let inside : c.loop-at.at < length c.args.text.now = omega arith in
    let more = found_more c.loop-at.found _ c.loop-at.state c.loop-at.at c.args.text.now inside c.loop-at.invariant in
    rw (c.later-found.ensures, c.accepted.ensures, c.step-state.ensures) more

-- no longer piece is found behind a last state
pub returns-then-is_last : goal.returns-then-is_last
returns-then-is_last c =
    let inside : c.loop-at.at < length c.args.text.now = omega arith in
    let more = found_more c.loop-at.found _ c.loop-at.state c.loop-at.at c.args.text.now inside c.loop-at.invariant in
    let here : later c.later-found.result (longest_found c.step-state.result (c.loop-at.at + 1) (drop (c.loop-at.at + 1) c.args.text.now)) ≡ later c.args.first (longest_found c.args.before c.args.from (drop c.args.from c.args.text.now))
    = rw (c.later-found.ensures, c.accepted.ensures, c.step-state.ensures) more in
    found_last _ _ _ _ _ here (sym c.is_last.ensures ∙ c.if-is_last.true)

pub returns : goal.returns
returns c = found_all c.loop-at.found _ c.loop-at.state c.loop-at.at c.args.text.now (omega arith) c.loop-at.invariant
