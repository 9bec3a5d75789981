use Rattle.std.proofs.Common.{refl}
use Rattle.constraint_model.specs.WellFormed.{constants_of}
use Rattle.decompose.specs.Kernels.{kernels_of}
use Rattle.decompose.specs.Places.{numbering_of}
use Rattle.decompose.specs.Program.{start_of}
use Rattle.decompose.proofs.ProgramLaws.{program_of}
use Rattle.decompose.proofs.program.law_some_program.Goals as goal

pub returns : goal.returns
returns c = λ model h.
    program_of model model.vars (constants_of model) refl refl (numbering_of model.vars (constants_of model)) refl (start_of model) (kernels_of model) model.constraints refl refl refl
    c.law_table.ensures.letters h
