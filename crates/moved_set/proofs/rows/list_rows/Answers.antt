use Rattle.std.proofs.Common.{◌≡◌, ℕ, List, [], length, get_or, sym, subst, ◌∙◌, arith}
use Rattle.std.specs.Prelude.{Contains}
use Rattle.std.proofs.lemmas.List.{get_or_default}
use Rattle.std.proofs.lemmas.List.Elements.{Contains-get_or}
use Rattle.moved_set.specs.Parts.{list_at}
use Rattle.moved_set.specs.Rows.{AreRowsTo}
use Rattle.moved_set.proofs.rows.list_rows.Goals as goal

pub put-requires : goal.put-requires
put-requires c k d lt =
    let l : ℕ = c.loop-l.l in
    let lists : List (List ℕ) = c.args.lists.now in
    let list : List ℕ = c.index-lists-l.result in
    let lent : List ℕ = c.as_slice.result.now in
    let is : lent ≡ list_at lists l = c.as_slice.ensures ∙ c.index-lists-l.is ∙ get_or_default lists l list [] (omega arith) in
    let inside : Contains (list_at lists l) (get_or lent k d) = subst (λ (xs : List ℕ). Contains xs (get_or lent k d)) is (Contains-get_or lent k d lt) in
    let below = c.requires.lists.variables l (get_or lent k d) inside in
    let len = c.loop-l.invariant.length_is in
    omega arith

pub loop-l-preserved : goal.loop-l-preserved
loop-l-preserved c =
    let l : ℕ = c.loop-l.l in
    let lists : List (List ℕ) = c.args.lists.now in
    let list : List ℕ = c.index-lists-l.result in
    let is : list_at lists l ≡ c.as_slice.result.now = sym (c.as_slice.ensures ∙ c.index-lists-l.is ∙ get_or_default lists l list [] (omega arith)) in
    c.in_ok-put.ensures (list_at lists) c.args.count is c.loop-l.invariant

pub returns : goal.returns
returns c =
    let all : c.loop-l.l ≡ length c.args.lists.now = omega arith in
    subst (λ (n : ℕ). AreRowsTo (list_at c.args.lists.now) n c.args.count c.loop-l.rows.items) all c.loop-l.invariant
