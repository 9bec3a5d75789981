use Rattle.std.proofs.Common.{◌≡◌, ◌∷◌, [], ℕ, List, length, refl, subst, arith}
use Rattle.moved_set.specs.declared.parts.Part.{Part}
use Rattle.moved_set.specs.Parts.{part_at}
use Rattle.moved_set.specs.Rows.{AreRowsTo}
use Rattle.moved_set.proofs.RowLaws.{rows_one}
use Rattle.moved_set.proofs.rows.user_rows.Goals as goal

pub loop-j-preserved : goal.loop-j-preserved
loop-j-preserved c =
    let j : ℕ = c.loop-j.j in
    let parts : List Part = c.args.parts.now in
    let keys : ℕ → List ℕ = λ i. (part_at parts i).list ∷ [] in
    let len = c.loop-j.invariant.length_is in
    let below = c.requires.lists j (omega arith) in
    rows_one keys j (part_at parts j).list c.args.count c.loop-j.rows.items c.index_mut.result.now c.push.new.self (omega arith)
    refl c.index_mut.ensures.value c.in_ok-push.ensures.items c.loop-j.invariant

pub returns : goal.returns
returns c =
    let keys : ℕ → List ℕ = λ i. (part_at c.args.parts.now i).list ∷ [] in
    let all : c.loop-j.j ≡ length c.args.parts.now = omega arith in
    subst (λ (n : ℕ). AreRowsTo keys n c.args.count c.loop-j.rows.items) all c.loop-j.invariant
