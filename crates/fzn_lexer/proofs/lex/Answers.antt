use Rattle.std.proofs.Common.{◌≡◌, ◌<◌, ◌≤◌, length, drop, sym, subst, arith}
use Rattle.std.specs.Prelude.{Some, List}
use Rattle.fzn_lexer.specs.Machine.{longest_found}
use Rattle.fzn_lexer.specs.declared.Token.{Token}
use Rattle.fzn_lexer.specs.declared.machine.State.TheVariants.{Start}
use Rattle.fzn_lexer.proofs.Cuts.{Reads, reads_more, reads_all, reads_fault, more_within}
use Rattle.fzn_lexer.proofs.lex.Goals as goal

pub returns-in_default : goal.returns-in_default
returns-in_default c = reads_fault c.args.text.now c.loop-at.at c.loop-at.tokens.items c.loop-at-test.true (sym c.in_default.ensures) c.loop-at.invariant.read

pub loop-at-smaller : goal.loop-at-smaller
loop-at-smaller c =
    let found : longest_found Start c.loop-at.at (drop c.loop-at.at c.args.text.now) ≡ Some c.in-Some.found = sym c.in-Some.ensures in
    let within : (c.in-Some.found.to ≤ length c.args.text.now) × (c.loop-at.at < c.in-Some.found.to)
    = more_within c.args.text.now c.loop-at.at c.in-Some.found found c.loop-at.invariant.within in
    omega (arith, within.0, within.1)

pub loop-at-preserved : goal.loop-at-preserved
loop-at-preserved c =
    let found : longest_found Start c.loop-at.at (drop c.loop-at.at c.args.text.now) ≡ Some c.in-Some.found = sym c.in-Some.ensures in
    let within : (c.in-Some.found.to ≤ length c.args.text.now) × (c.loop-at.at < c.in-Some.found.to)
    = more_within c.args.text.now c.loop-at.at c.in-Some.found found c.loop-at.invariant.within in
    record {
      within = within.0;
      read = subst (λ (ts : List Token). Reads c.args.text.now c.in-Some.found.to ts) (sym c.in_ok-keep.ensures.kept)
          (reads_more c.args.text.now c.loop-at.at c.loop-at.tokens.items c.in-Some.found found c.loop-at.invariant.read);
    }

pub returns : goal.returns
returns c = reads_all c.args.text.now c.loop-at.at c.loop-at.tokens.items (omega (arith, c.loop-at.invariant.within)) c.loop-at.invariant.read
