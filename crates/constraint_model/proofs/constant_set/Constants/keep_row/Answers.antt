use Rattle.std.proofs.Common.{ap, sym, subst, ◌∙◌}
use Rattle.std.specs.Prelude.{slice_get}
use Rattle.constraint_model.specs.Found.{HasConstants}
use Rattle.constraint_model.proofs.CountedLaws.{row_kept, rows_unchanged, view_numbers, view_arrays, numbered_at}
use Rattle.constraint_model.proofs.constant_set.Constants.keep_row.Goals as goal

pub invariant_of-self : goal.invariant_of-self
invariant_of-self c =
    let inside = c.self.inside in
    let terms = c.args.row.now.terms in
    let number = c.in-Some.number in
    let at = ap (λ arrays. slice_get arrays number) (view_arrays c.self.view_is) ∙ numbered_at c.args.self.now.arrays c.args.row.now number c.in-Some.is c.requires.numbered in
    let has = subst (λ numbers. HasConstants numbers terms) (sym (view_numbers c.self.view_is)) c.requires.there in
    record {
      found = c.self.invariant.found;
      counted = row_kept inside.numbers.items inside.arrays inside.counted c.insert.new.self number terms c.self.invariant.counted at has c.in_ok-insert.ensures.updates;
    }

pub invariant_of-self-in_err-insert : goal.invariant_of-self-in_err-insert
invariant_of-self-in_err-insert c =
    let inside = c.self.inside in
    record {
      found = c.self.invariant.found;
      counted = rows_unchanged inside.numbers.items inside.arrays inside.counted c.insert.new.self c.in_err-insert.ensures.err c.self.invariant.counted;
    }
