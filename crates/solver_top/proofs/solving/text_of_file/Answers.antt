use Rattle.std.proofs.Common.{Err, ap}
use Rattle.solver_top.proofs.OutcomeLaws.{next_name}
use Rattle.solver_top.proofs.solving.text_of_file.Goals as goal

pub read_named-requires : goal.read_named-requires
read_named-requires g c = next_name _ _ c.requires

pub returns-in-Err-TooLong-clause-cause : goal.returns-in-Err-TooLong-clause-cause
returns-in-Err-TooLong-clause-cause g c = rw c.number.ensures (c.law_long_text.ensures _ (c.in-Err-TooLong.ensures.too_long (ap Err c.in-Err-TooLong.field-0-is)))
