use Rattle.std.proofs.Common.{ap, ◌∙◌, ◌++◌, ◌∷◌, ◌*◌, ◌+◌, ◌-◌, append_assoc, sym, arith, List, ℕ, []}
use Rattle.moved_set.specs.Parts.{keys_from}
use Rattle.moved_set.proofs.KeyLaws.{keys_start, keys_more}
use Rattle.moved_set.proofs.parts.push_keys.Goals as goal

pub loop-place-init : goal.loop-place-init
loop-place-init c = keys_start c.args.kernel.now c.args.from c.args.keys.now.items

pub loop-place-preserved : goal.loop-place-preserved
loop-place-preserved c =
    let k = c.args.kernel.now in
    let key : ℕ = 3 * c.var_at.result + c.kind_at.result in
    let before : List ℕ = keys_from k c.args.from (c.loop-place.place - c.args.from) in
    c.in_ok-push.ensures.items
    ∙ ap (λ (ks : List ℕ). ks ++ key ∷ []) c.loop-place.invariant
    ∙ append_assoc c.args.keys.now.items before (key ∷ [])
    ∙ ap (λ (ks : List ℕ). c.args.keys.now.items ++ ks) (sym (keys_more k c.args.from c.loop-place.place c.var_at.result c.kind_at.result (omega arith) c.var_at.ensures c.kind_at.ensures.kind))
