-- What the code tells of the last term is what that term tells.
use Rattle.std.proofs.Common.{refl, sym, subst, List, [], ◌∷◌}
use Rattle.tells.specs.declared.tell.Tell.{Tell}
use Rattle.tells.specs.Hearing.{MayHearAll, HearsAll}
use Rattle.sum_tells.proofs.EqualityCode.{told_unequal}
use Rattle.sum_tells.proofs.parted.tell_last_unequal.Goals as goal

pub tell_unequal_term-requires-clause-hearer : goal.tell_unequal_term-requires-clause-hearer
tell_unequal_term-requires-clause-hearer g c =
    let term = c.term_of-term in
    let told = told_unequal c.args.b.now c.args.equation.limit c.args.equation.sum.least c.args.equation.sum.greatest (c.args.last.0 ∷ []) (c.args.last.1 ∷ []) 0 term.result.coeff term.result.var term.result.range.least term.result.range.greatest refl c.requires.last term.ensures.coeff term.ensures.var term.ensures.least term.ensures.greatest in
    let P : List Tell → Type 0 = λ ts. MayHearAll g.H.Hear.can_hear g.H.Hear.hears c.args.h.now ts in
    subst P (sym told) c.requires.hearer

pub returns : goal.returns
returns g c =
    let term = c.term_of-term in
    let told = told_unequal c.args.b.now c.args.equation.limit c.args.equation.sum.least c.args.equation.sum.greatest (c.args.last.0 ∷ []) (c.args.last.1 ∷ []) 0 term.result.coeff term.result.var term.result.range.least term.result.range.greatest refl c.requires.last term.ensures.coeff term.ensures.var term.ensures.least term.ensures.greatest in
    let P : List Tell → Type 0 = λ ts. HearsAll g.H.Hear.hears c.args.h.now ts c.tell_unequal_term.new.h in
    subst P told c.tell_unequal_term.ensures
