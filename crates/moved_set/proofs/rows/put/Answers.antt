use Rattle.std.proofs.Common.{◌≡◌, ◌+◌, ℕ, List, take, get_or, refl, subst, ◌∙◌, arith}
use Rattle.std.specs.Prelude.{Vec}
use Rattle.std.specs.declared.alloc.Global.{Global}
use Rattle.std.proofs.lemmas.List.{take_all, take_more, length-set}
use Rattle.moved_set.proofs.RowLaws.{AreRowsWith, rows_begin, rows_put, rows_end}
use Rattle.moved_set.proofs.rows.put.Goals as goal

pub loop-key-init : goal.loop-key-init
loop-key-init c = record { same_length = refl; put = λ keys count are. rows_begin keys c.args.j count c.args.rows.now.items are }

pub loop-key-preserved : goal.loop-key-preserved
loop-key-preserved c =
    let i : ℕ = c.loop-key.key-index in
    let all : List ℕ = c.args.keys.now in
    let key : ℕ = get_or all i 0 in
    let rows : List (Vec ℕ Global) = c.loop-key.rows.items in
    let same = c.loop-key.invariant.same_length in
    let below = c.requires i 0 c.loop-key-test.true in
    record {
      same_length = length-set rows key c.put_once.new.row ∙ same;
      put = λ keys count are.
          rows_put keys c.args.j (take i all) (take (i + 1) all) key count rows c.index_mut.result.now c.put_once.new.row (omega arith)
          (take_more all i 0 c.loop-key-test.true)
          c.index_mut.ensures.value c.in_ok-put_once.ensures (c.loop-key.invariant.put keys count are);
    }

pub returns : goal.returns
returns c keys count last are =
    let all : take c.loop-key.key-index c.args.keys.now ≡ c.args.keys.now = take_all c.loop-key.key-index c.args.keys.now (omega arith) in
    rows_end keys c.args.j count c.args.keys.now c.loop-key.rows.items last
    (subst (λ (xs : List ℕ). AreRowsWith keys c.args.j xs count c.loop-key.rows.items) all (c.loop-key.invariant.put keys count are))
