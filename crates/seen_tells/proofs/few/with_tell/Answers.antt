-- A tell that narrows the box is gathered, one that doesn't isn't.
use Rattle.std.proofs.Common.{[], ◌∷◌, ◌++◌, Bool, cond, subst}
use Rattle.seen_tells.specs.Few.{AreFew}
use Rattle.seen_tells.proofs.few.with_tell.Goals as goal

pub returns-then-narrows : goal.returns-then-narrows
returns-then-narrows c ts few =
    let P : Bool → Type 0 = λ n. AreFew (ts ++ cond n (c.args.t ∷ []) []) c.with.result in
    subst P c.if-narrows.ensures (c.with.ensures ts few)
