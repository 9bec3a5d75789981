use Rattle.std.proofs.Common.{◌≡◌, ◌<◌, ◌*◌, ℕ, List, length, get_or, sym, subst, ◌∙◌, arith}
use Rattle.std.specs.Prelude.{All}
use Rattle.std.proofs.lemmas.List.{get_or_default}
use Rattle.guarded_tell.specs.Kernels.{vars_of}
use Rattle.moved_set.specs.Parts.{own_keys_at}
use Rattle.moved_set.specs.Rows.{AreRowsTo}
use Rattle.moved_set.proofs.KeyLaws.{own_keys_below}
use Rattle.moved_set.proofs.rows.own_rows.Goals as goal

pub own_keys-requires-clause-numbers : goal.own_keys-requires-clause-numbers
own_keys-requires-clause-numbers c j d h = (c.requires.kernels j d h).numbers

pub own_keys-requires-clause-few : goal.own_keys-requires-clause-few
own_keys-requires-clause-few c j d h i e l =
    let vars : List ℕ = vars_of (get_or c.args.kernels.now j d) in
    let lt : get_or vars i 0 < c.args.count = (c.requires.kernels j d h).variables.each i l in
    let same : get_or vars i 0 ≡ get_or vars i e = get_or_default vars i 0 e l in
    let few = c.requires.few_variables in
    omega arith

pub put-requires : goal.put-requires
put-requires c =
    let j : ℕ = c.loop-j.j in
    let lists : List (List ℕ) = c.args.parts.now.lists.items in
    let parts = c.args.parts.now.of_kernels.items in
    let below : All (λ key. key < 3 * c.args.count) (own_keys_at c.args.kernels.now lists parts j) =
    own_keys_below c.args.count c.args.kernels.now lists parts j (omega arith) (λ k. (c.requires.kernels j k (omega arith)).variables) c.requires.parts in
    let lent : c.as_slice.result.now ≡ own_keys_at c.args.kernels.now lists parts j = c.as_slice.ensures.value ∙ c.in_ok-own_keys.ensures in
    subst (λ (n : ℕ). All (λ key. key < n) c.as_slice.result.now) (sym c.loop-j.invariant.length_is) (subst (All (λ key. key < 3 * c.args.count)) (sym lent) below)

pub loop-j-preserved : goal.loop-j-preserved
loop-j-preserved c =
    let keys : ℕ → List ℕ = own_keys_at c.args.kernels.now c.args.parts.now.lists.items c.args.parts.now.of_kernels.items in
    let own : keys c.loop-j.j ≡ c.as_slice.result.now = sym c.in_ok-own_keys.ensures ∙ sym c.as_slice.ensures.value in
    c.in_ok-put.ensures keys (3 * c.args.count) own c.loop-j.invariant

pub returns : goal.returns
returns c =
    let keys : ℕ → List ℕ = own_keys_at c.args.kernels.now c.args.parts.now.lists.items c.args.parts.now.of_kernels.items in
    let all : c.loop-j.j ≡ length c.args.kernels.now = omega arith in
    subst (λ (n : ℕ). AreRowsTo keys n (3 * c.args.count) c.loop-j.rows.items) all c.loop-j.invariant
