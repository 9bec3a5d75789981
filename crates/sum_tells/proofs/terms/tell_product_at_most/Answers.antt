use Rattle.std.proofs.Common.{List, subst, sym, refl, arith, rules}
use Rattle.std.proofs.lemmas.Grind.{common_steps}
use Rattle.std.proofs.lemmas.Int.{ints}
use Rattle.tells.specs.declared.tell.Tell.{Tell}
use Rattle.tells.specs.Hearing.{HearsAll}
use Rattle.sum_tells.proofs.ProductLaws.{at_most_above}
use Rattle.sum_tells.proofs.terms.tell_product_at_most.Goals as goal

pub returns-then-coeff-gt0 : goal.returns-then-coeff-gt0
returns-then-coeff-gt0 g c =
    let P : List Tell → Type 0 = λ ts. HearsAll g.H.Hear.hears c.args.h.now ts c.hear.new.self in
    let h = c.hear.ensures in
    subst P (sym (at_most_above c.args.var c.args.coeff c.args.room (omega (arith, ints, c.if-coeff-gt0.true)))) (c.hear.new.self, first_of (search rules, grind (arith, common_steps)), refl)
