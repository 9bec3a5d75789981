use Rattle.std.proofs.Common.{◌≡◌, ◌<◌, ◌-◌, List, length, get_or, subst, refl}
use Rattle.trailed_box.specs.Trail.{var_at}
use Rattle.trailed_box.proofs.TrailLaws.{before_last, spares_noted, spares_appended, changes_appended, on_ok, on_ok_both}
use Rattle.trailed_box.specs.declared.trail.Mark.{Mark}
use Rattle.trailed_box.specs.declared.trail.Change.{Change}
use Rattle.trailed_box.proofs.trail.note.Goals as goal

pub returns-then-is_noted-clause-spared : goal.returns-then-is_noted-clause-spared
returns-then-is_noted-clause-spared c =
    let place = get_or c.args.last.now c.args.v 0 in
    let said = c.if-is_noted.ensures in
    let noted = said.0 refl in
    let trail : c.as_slice.result.now ≡ c.args.trail.now.items = c.as_slice.ensures.value in
    let there : place < length c.args.trail.now.items = subst (λ (cs : List Change). place < length cs) trail noted.1 in
    let var : var_at c.args.trail.now.items place ≡ c.args.v = subst (λ (cs : List Change). var_at cs place ≡ c.args.v) trail noted.2 in
    let is : (d : Mark) → c.in-Some.mark.now ≡ get_or c.args.marks.now (length c.args.marks.now - 1) d = c.in-Some.ensures.item.3.1 in
    spares_noted _ _ _ _ c.in-Some.mark.now.from place (before_last _ _ c.in-Some.mark.now c.requires.marks is) noted.0 there var

pub returns-clause-spared : goal.returns-clause-spared
returns-clause-spared c =
    on_ok c.append.result (spares_appended c.args.marks.now c.args.trail.now.items c.append.new.trail.items c.args.current.now c.args.v c.requires.marks.within) c.append.ensures.ok

pub returns-clause-changes : goal.returns-clause-changes
returns-clause-changes c =
    on_ok_both c.append.result
    (λ part ok. changes_appended (length c.args.current.now) c.args.trail.now.items c.append.new.trail.items c.args.current.now c.args.v part ok c.requires.changes)
    c.append.ensures.part c.append.ensures.ok
