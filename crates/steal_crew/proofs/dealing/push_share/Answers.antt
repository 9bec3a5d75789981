use Rattle.std.proofs.Common.{ℕ, ◌≡◌, ◌+◌, ◌%◌, ◌<◌, List, [], ◌∷◌, ◌++◌, min, refl, sym, ap, ◌∙◌, arith}
use Rattle.std.proofs.Math.Nat.{add-mod_right, mod-eq_of_lt}
use Rattle.steal_crew.specs.Numbers.{share}
use Rattle.steal_crew.specs.Rule.{view_of}
use Rattle.steal_crew.specs.declared.deque.View.{View}
use Rattle.steal_crew.proofs.NumberLaws.{share-none, share-step}
use Rattle.steal_crew.proofs.dealing.push_share.Goals as goal

pub loop-next-init : goal.loop-next-init
loop-next-init c =
    let e : c.from-next.result ≡ c.args.rest = c.from-next.ensures in
    record {
      same = (refl, refl, refl, omega arith);
      share = c.requires.empty ∙ ap (λ (xs : List ℕ). view_of 1024 xs []) (sym (share-none (min c.from-next.result c.args.n) c.args.workers c.args.rest (omega arith) c.requires.rest));
      rest = ap (λ (x : ℕ). x % c.args.workers) e ∙ mod-eq_of_lt c.requires.rest;
      bound = let r = c.requires.rest in omega arith;
    }

pub loop-next-preserved : goal.loop-next-preserved
loop-next-preserved c =
    let i = c.loop-next.invariant in
    let next = c.loop-next.next in
    let e : c.from-next-in-loop-next.result ≡ c.args.workers = c.from-next-in-loop-next.ensures in
    let f : c.from.result ≡ c.args.n = c.from.ensures in
    let below : next < c.args.n = (let t = c.loop-next-test.true in omega arith) in
    let r = c.requires.rest in
    let here : min next c.args.n ≡ next = omega arith in
    let to : ℕ = min (next + c.from-next-in-loop-next.result) c.args.n in
    record {
      same = (c.push.ensures.same.0 ∙ i.same.0, c.push.ensures.same.1 ∙ i.same.1, c.push.ensures.same.2 ∙ i.same.2, (let a = c.push.ensures.same.3 in let b = i.same.3 in omega arith));
      share = c.in_ok-push.ensures.pushed
          ∙ ap (λ (u : View). view_of u.parts (u.dealt ++ next ∷ []) u.taken) i.share
          ∙ ap (λ (x : ℕ). view_of 1024 (share x c.args.workers c.args.rest ++ next ∷ []) []) here
          ∙ ap (λ (xs : List ℕ). view_of 1024 xs []) (sym (share-step next to c.args.workers c.args.rest (omega arith) (omega arith) i.rest));
      rest = ap (λ (x : ℕ). (next + x) % c.args.workers) e ∙ add-mod_right next c.args.workers ∙ i.rest;
      bound = omega arith;
    }
