use Rattle.std.proofs.Common.{◌≡◌, ◌∙◌, ℕ, ℤ, pos, get_or, refl, subst, arith, to_z, of_z, below_more}
use Rattle.std.specs.Prelude.{slice_index_or}
use Rattle.std.specs.Int.{w64}
use Rattle.std.proofs.lemmas.Int.{ints}
use Rattle.std.proofs.lemmas.List.{get_or_default}
use Rattle.constraint_model.specs.declared.model.VarDecl.{VarDecl}
use Rattle.fzn_print.specs.Reading.{IsValue}
use Rattle.fzn_print.proofs.reading.are_values.Goals as goal

pub loop-place-preserved : goal.loop-place-preserved
loop-place-preserved c = λ k d lt.
    let vars = c.args.vars.now in
    let values = c.args.values.now in
    let at = c.loop-place.place in
    let var = c.index-vars-place.result in
    let inside = c.loop-place-test.true in
    let P : ℕ → Type 0 = λ n. IsValue (slice_index_or vars n d).is_bool (slice_index_or values n (pos 0)) in
    let exact : to_z w64 (of_z w64 (get_or values at (pos 0))) ≡ get_or values at (pos 0) = omega (arith, ints) in
    let read = subst (λ (z : ℤ). IsValue var.is_bool z) exact (c.is_value.ensures.0 c.if-not-is_value.false) in
    let is = c.index-vars-place.is ∙ get_or_default vars at var d inside in
    let here = subst (λ (v : VarDecl). IsValue v.is_bool (get_or values at (pos 0))) is read in
    below_more P at (λ n less. c.loop-place.invariant n d less) here k lt

pub returns : goal.returns
returns c =
    let over = c.loop-place-test.false in
    (λ e. record { same_length = c.if-values-vars.false; each = λ k d inside. c.loop-place.invariant k d (omega arith) }, λ h. refl)
