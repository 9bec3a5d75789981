use Rattle.std.proofs.Common.{◌≡◌, ◌<◌, ◌∙◌, List, length, set, get_or, sym, subst, ap, arith, OnOk}
use Rattle.std.proofs.lemmas.Result.{on_ok_weaker}
use Rattle.std.proofs.lemmas.List.{get_or_default}
use Rattle.tells.specs.declared.tell.Tell.{Tell}
use Rattle.literals.specs.Literals.{IsMore, IsAsTight}
use Rattle.literals.proofs.ListLaws.{more_set, more_push}
use Rattle.literals.proofs.list.Literals.meet.Goals as goal

pub returns-then-is_as_tight-2-clause-more : goal.returns-then-is_as_tight-2-clause-more
returns-then-is_as_tight-2-clause-more c =
    let xs : List Tell = c.self.inside.items.items in
    let within : c.in-Some.place < length xs = subst (λ (ys : List Tell). c.in-Some.place < length ys) (sym c.self.view_is) c.in-Some.ensures in
    let tight : IsAsTight c.args.t c.index-found.result.now = c.is_as_tight-in-Some.ensures.0 c.if-is_as_tight-2.true in
    subst (λ (ys : List Tell). IsMore ys c.args.t (set xs c.in-Some.place c.args.t)) c.self.view_is
    (more_set xs c.in-Some.place c.args.t within
    (λ d. subst (IsAsTight c.args.t) (c.index-found.ensures ∙ get_or_default xs c.in-Some.place _ d within) tight))

pub returns-clause-more : goal.returns-clause-more
returns-clause-more c =
    on_ok_weaker c.append.result (λ e. subst (IsMore c.args.self.now c.args.t) (sym e) (more_push c.args.self.now c.args.t)) c.append.ensures
