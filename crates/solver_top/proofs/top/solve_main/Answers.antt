use Rattle.std.proofs.Common.{◌∙◌, sym}
use Rattle.solver_top.proofs.OutcomeLaws.{cause_reported, status_before, never_answered, never_unwritten, wrote_front, wrote_whole, ends_answered, ends_refused, ends_unread, never_reported, no_written_fault, nothing_answered, nothing_reported, read_reported, refused_reported, usage_reported}
use Rattle.solver_top.specs.declared.status.Status.TheVariants.{Answered, WriteFault}
use Rattle.solver_top.proofs.top.solve_main.Goals.{in-Ok, in-Err}
use Rattle.solver_top.proofs.top.solve_main.Goals as goal

pub returns-clause-usage : goal.returns-clause-usage
returns-clause-usage g c = λ is. elim c.match-answer_of_words.branch [
  | in-Ok w ↦ absurd (never_reported _ _ _ _ (λ e. cc) (λ e. cc) (λ e. cc) w.status-is w.write_answer-status.ensures.ends c.report.ensures.ends is)
  | in-Err w ↦ usage_reported _ _ _ _ _ _ _ w.status-is w.in-Err.ensures.cause c.report.ensures.ends is
]

pub returns-clause-not_taken : goal.returns-clause-not_taken
returns-clause-not_taken g c = λ none. elim c.match-answer_of_words.branch [
  | in-Ok w ↦ absurd (nothing_answered _ _ _ w.in-Ok.ensures.ok none)
  | in-Err w ↦ nothing_reported _ _ _ _ _ _ _ w.status-is w.in-Err.ensures.cause c.report.ensures.ends none
]

pub returns-clause-refused : goal.returns-clause-refused
returns-clause-refused g c = λ kind line is. elim c.match-answer_of_words.branch [
  | in-Ok w ↦ absurd (never_reported _ _ _ _ (λ e. cc) (λ e. cc) (λ e. cc) w.status-is w.write_answer-status.ensures.ends c.report.ensures.ends is)
  | in-Err w ↦ refused_reported _ _ _ _ _ _ _ kind line w.status-is w.in-Err.ensures.cause c.report.ensures.ends is
]

pub returns-clause-read_fault : goal.returns-clause-read_fault
returns-clause-read_fault g c = λ is. elim c.match-answer_of_words.branch [
  | in-Ok w ↦ absurd (never_reported _ _ _ _ (λ e. cc) (λ e. cc) (λ e. cc) w.status-is w.write_answer-status.ensures.ends c.report.ensures.ends is)
  | in-Err w ↦ read_reported _ _ _ _ _ _ _ w.status-is w.in-Err.ensures.cause c.report.ensures.ends is
]

pub returns-clause-complete : goal.returns-clause-complete
returns-clause-complete g c = λ has no_read_fault no_write_fault. elim c.match-answer_of_words.branch [
  | in-Ok w ↦ ends_answered _ _ _ _ w.status-is w.write_answer-status.ensures.ends
      (λ e. rw w.out-is (w.write_answer-status.ensures.write_fault e)) no_write_fault c.report.ensures.ends
  | in-Err w ↦ ends_unread c.law_one_text.ensures.one_fault c.law_one_text.ensures.never_both _ _ _ _ _ _ _ w.status-is w.in-Err.ensures.cause has no_read_fault c.report.ensures.ends
]

pub returns-clause-every_fault : goal.returns-clause-every_fault
returns-clause-every_fault g c = λ kind line has no_read_fault. elim c.match-answer_of_words.branch [
  | in-Ok w ↦ no_written_fault c.law_one_text.ensures.one_fault c.law_one_text.ensures.never_both _ _ _ kind line _ has w.in-Ok.ensures.ok
  | in-Err w ↦ ends_refused c.law_one_text.ensures.one_fault c.law_one_text.ensures.never_both _ _ _ _ _ kind line _ _ w.status-is w.in-Err.ensures.cause has no_read_fault c.report.ensures.ends
]

pub returns-clause-answered : goal.returns-clause-answered
returns-clause-answered g c = λ is. elim c.match-answer_of_words.branch [
  | in-Ok w ↦
      let ends = sym w.status-is ∙ status_before _ _ Answered (λ e. cc) c.report.ensures.ends is in
      rw w.out-is (wrote_whole _ _ _ _ _ _ w.deref.ensures.value w.in-Ok.ensures.ok (w.write_answer-status.ensures.answered ends))
  | in-Err w ↦ absurd (never_answered _ _ _ _ (cause_reported _ _ _ Answered _ _ _ _ (λ e. cc) w.status-is w.in-Err.ensures.cause c.report.ensures.ends is))
]

pub returns-clause-write_fault : goal.returns-clause-write_fault
returns-clause-write_fault g c = λ is. elim c.match-answer_of_words.branch [
  | in-Ok w ↦
      let ends = sym w.status-is ∙ status_before _ _ WriteFault (λ e. cc) c.report.ensures.ends is in
      rw w.out-is (w.write_answer-status.ensures.write_fault ends)
  | in-Err w ↦ absurd (never_unwritten _ _ _ _ (cause_reported _ _ _ WriteFault _ _ _ _ (λ e. cc) w.status-is w.in-Err.ensures.cause c.report.ensures.ends is))
]

pub returns-clause-front : goal.returns-clause-front
returns-clause-front g c = λ is. elim c.match-answer_of_words.branch [
  | in-Ok w ↦ rw w.out-is (wrote_front _ _ _ _ _ _ w.deref.ensures.value w.in-Ok.ensures.ok w.write_answer-status.ensures.front)
  | in-Err w ↦ absurd (never_unwritten _ _ _ _ (cause_reported _ _ _ WriteFault _ _ _ _ (λ e. cc) w.status-is w.in-Err.ensures.cause c.report.ensures.ends is))
]
