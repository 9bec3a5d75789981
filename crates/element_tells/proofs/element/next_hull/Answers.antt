-- With the place where x can be it, as before where not.
use Rattle.std.proofs.Common.{Bool, [], ◌∷◌, ◌++◌, cond, Some, sym, subst, ◌∙◌}
use Rattle.std.proofs.lemmas.List.{append-nil}
use Rattle.element_tells.specs.Hull.{IsHullOf}
use Rattle.element_tells.proofs.element.next_hull.Goals as goal

pub returns-then-can_be : goal.returns-then-can_be
returns-then-can_be c = λ ps is.
    let P : Bool → Type 0 = λ t. IsHullOf c.args.b.now (ps ++ cond t ((c.args.place, c.args.y) ∷ []) []) (Some c.hull_with.result) in
    subst P (sym (sym c.can_be.ensures ∙ c.if-can_be.true)) (c.hull_with.ensures ps is)

pub returns-else-can_be : goal.returns-else-can_be
returns-else-can_be c = λ ps is.
    let P : Bool → Type 0 = λ t. IsHullOf c.args.b.now (ps ++ cond t ((c.args.place, c.args.y) ∷ []) []) c.args.found in
    subst P (sym (sym c.can_be.ensures ∙ c.if-can_be.false)) (subst (λ qs. IsHullOf c.args.b.now qs c.args.found) (sym (append-nil ps)) is)
