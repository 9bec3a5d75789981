use Rattle.fzn_check.specs.Words.{names_meant}
use Rattle.fzn_check.proofs.StepLaws.{early_held, early_whole, late_whole}
use Rattle.fzn_check.proofs.reading.check_files.Goals as goal

pub returns-in-Err-clause-ends : goal.returns-in-Err-clause-ends
returns-in-Err-clause-ends g c =
    let law = c.law_one_text.ensures in
    early_whole law.one_model law.one_fault law.never_both (g.S.Source.held c.args.files.now) (names_meant c.args.names.now) _ _ c.in-Err.ending c.in-Err.ensures.never_falls c.in-Err.ensures.ends

pub returns-in-Ok-shown_model-clause-ends : goal.returns-in-Ok-shown_model-clause-ends
returns-in-Ok-shown_model-clause-ends g c =
    let law = c.law_one_text.ensures in
    late_whole law.one_model law.one_fault law.never_both (g.S.Source.held c.args.files.now) (names_meant c.args.names.now) c.in-Ok.text.items c.in-Ok-shown_model.model _ _ _ c.check_solutions.result
    c.in-Ok.ensures.never_falls c.check_solutions.ensures.never_falls c.in-Ok.ensures.ok (rw c.deref.ensures.value at c.in-Ok-shown_model.ensures.model) c.in-Ok-shown_model.ensures.shown
    (rw c.in-Ok.ensures.held_kept at c.check_solutions.ensures.ends)

pub returns-clause-ends : goal.returns-clause-ends
returns-clause-ends g c =
    let law = c.law_one_text.ensures in
    early_whole law.one_model law.one_fault law.never_both (g.S.Source.held c.args.files.now) (names_meant c.args.names.now) _ _ c.in-Err-shown_model.ending c.in-Ok.ensures.never_falls
    (early_held _ c.in-Ok.text.items _ _ c.in-Err-shown_model.ending c.in-Ok.ensures.ok (rw c.deref.ensures.value at c.in-Err-shown_model.ensures.ends))
