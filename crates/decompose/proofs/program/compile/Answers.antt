use Rattle.std.proofs.Common.{ap, ◌∙◌}
use Rattle.constraint_model.specs.Found.{KnownConstants}
use Rattle.decompose.specs.Places.{Placing}
use Rattle.decompose.specs.Program.{start_pairs}
use Rattle.decompose.proofs.ProgramLaws.{pairs_in_range, constraints_declared, program_of}
use Rattle.decompose.proofs.program.compile.Goals as goal

pub start_box-requires : goal.start_box-requires
start_box-requires c =
    pairs_in_range c.args.model.now c.as_slice-vars.result.now c.as_slice.result.now c.as_slice-vars.ensures (c.as_slice.ensures ∙ ap (λ (k : KnownConstants). k.numbers) c.in_ok-constants.ensures) c.requires

pub with_lists-requires-clause-declared : goal.with_lists-requires-clause-declared
with_lists-requires-clause-declared c =
    constraints_declared c.args.model.now c.as_slice-vars.result.now c.in_ok-constants.constants.numbers c.as_slice-vars.ensures (ap (λ (k : KnownConstants). k.numbers) c.in_ok-constants.ensures)
    c.new-places.result.numbering (ap (λ (p : Placing). p.numbering) c.new-places.ensures) c.as_slice-constraints.result.now c.as_slice-constraints.ensures c.requires

pub kernels_of-requires-clause-declared : goal.kernels_of-requires-clause-declared
kernels_of-requires-clause-declared c =
    constraints_declared c.args.model.now c.as_slice-vars.result.now c.in_ok-constants.constants.numbers c.as_slice-vars.ensures (ap (λ (k : KnownConstants). k.numbers) c.in_ok-constants.ensures)
    c.in_ok-places.places.numbering (ap (λ (p : Placing). p.numbering) (c.in_ok-places.ensures ∙ c.new-places.ensures)) c.as_slice-constraints.result.now c.as_slice-constraints.ensures c.requires

pub returns : goal.returns
returns c =
    program_of c.args.model.now c.as_slice-vars.result.now c.in_ok-constants.constants.numbers c.as_slice-vars.ensures (ap (λ (k : KnownConstants). k.numbers) c.in_ok-constants.ensures)
    c.in_ok-places.places.numbering (ap (λ (p : Placing). p.numbering) (c.in_ok-places.ensures ∙ c.new-places.ensures)) c.in_ok-start.start c.in_ok-kernels.kernels
    c.as_slice-constraints.result.now c.as_slice-constraints.ensures
    (c.in_ok-start.ensures ∙ ap (start_pairs c.as_slice-vars.result.now) c.as_slice.ensures)
    c.in_ok-kernels.ensures c.law_table.ensures.letters c.requires
