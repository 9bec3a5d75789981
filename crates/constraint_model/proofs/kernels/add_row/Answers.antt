use Rattle.std.proofs.Common.{ap, ◌∙◌, flat_map, refl}
use Rattle.std.specs.Prelude.{Result, Ok, Err, OnErr}
use Rattle.constraint_model.specs.Fits.{constant_of}
use Rattle.constraint_model.proofs.ConstantLaws.{front_same, front_found}
use Rattle.constraint_model.proofs.CountedLaws.{row_there, row_added}
use Rattle.constraint_model.proofs.kernels.add_row.Goals as goal

-- what holds in any case holds at an error
at_error : {A E P : Type 0} (result : Result A E) → P → OnErr result P
at_error (Ok a) p = tt
at_error (Err e) p = p

pub returns-then-has_counted-clause-added : goal.returns-then-has_counted-clause-added
returns-then-has_counted-clause-added c = row_there c.args.found.now.numbers c.args.row.now.terms (c.has_counted.ensures c.if-has_counted.true)

pub keep_row-requires-clause-there : goal.keep_row-requires-clause-there
keep_row-requires-clause-there c =
    row_added c.args.found.now.numbers c.add_terms.new.found.numbers c.args.row.now.terms (rw c.as_slice.ensures at c.in_ok-add_terms.ensures.added)

pub returns-clause-kept : goal.returns-clause-kept
returns-clause-kept c =
    let found = c.args.found.now.numbers in
    at_error c.keep_row.result
    (front_found found found c.keep_row.new.self.numbers (flat_map constant_of c.args.row.now.terms) (front_same found found refl)
    (ap (λ v. v.numbers) c.keep_row.ensures ∙ rw c.as_slice.ensures at c.in_ok-add_terms.ensures.added))
