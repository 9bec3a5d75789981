use Rattle.fzn_parser.proofs.Existing.{reads_or_faults}
use Rattle.fzn_parser.proofs.Unique.{one_list, one_fault, never_both}
use Rattle.fzn_parser.proofs.laws.law_one_reading.Goals as goal

pub returns : goal.returns
returns c = record { reads_or_faults = reads_or_faults; one_list = one_list; one_fault = one_fault; never_both = never_both }
