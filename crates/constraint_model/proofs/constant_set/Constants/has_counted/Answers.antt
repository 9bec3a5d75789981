use Rattle.std.proofs.Common.{ap, sym, subst, ◌∙◌}
use Rattle.std.specs.Prelude.{slice_get}
use Rattle.constraint_model.specs.Found.{HasConstants}
use Rattle.constraint_model.proofs.CountedLaws.{view_numbers, view_arrays, numbered_at}
use Rattle.constraint_model.proofs.constant_set.Constants.has_counted.Goals as goal

pub returns-in-Some : goal.returns-in-Some
returns-in-Some c counted =
    let terms = c.args.row.now.terms in
    let number = c.in-Some.number in
    let at = ap (λ arrays. slice_get arrays number) (view_arrays c.self.view_is) ∙ numbered_at c.args.self.now.arrays c.args.row.now number c.in-Some.is c.requires in
    subst (λ numbers. HasConstants numbers terms) (view_numbers c.self.view_is)
    (c.self.invariant.counted.there number terms (sym c.contains.ensures ∙ counted) at)
