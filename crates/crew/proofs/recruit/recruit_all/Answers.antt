use Rattle.std.proofs.Common.{◌≡◌, suc, ◌++◌, [], ◌∷◌, ap, ◌∙◌, sym, subst, arith, map, take, get_or, length, length-append}
use Rattle.std.proofs.lemmas.List.{map-append, take_more}
use Rattle.std.proofs.lemmas.List.Elements.{All-push}
use Rattle.std.specs.List.{All}
use Rattle.crew.specs.declared.recruit.Recruit.{Recruit}
use Rattle.steal_crew.specs.Numbers.{numbers_below}
use Rattle.crew.proofs.Items.{taken_more, length_taken, mapped_more}
use Rattle.crew.proofs.recruit.recruit_all.Goals as goal

pub loop-right-preserved : goal.loop-right-preserved
loop-right-preserved g c =
    let i = c.loop-right.invariant in
    let p = c.push_reserved.ensures in
    let l = length-append c.loop-right.yielded (c.in-Some.right ∷ []) in
    let more : suc (length c.loop-right.yielded) ≡ length (c.loop-right.yielded ++ c.in-Some.right ∷ []) = omega (arith, l) in
    let at : c.len-number.result ≡ length c.loop-right.yielded = omega (arith, c.len-number.ensures, i.len) in
    let taken = length_taken c.loop-right.yielded c.in-Some.right c.next.new.self.rest.items _ _ c.in-Some.ensures.steps.0 i.all in
    record {
      all = taken_more c.loop-right.yielded c.in-Some.right c.next.new.self.rest.items _ _ c.in-Some.ensures.steps.0 i.all;
      len = omega (arith, p.len, i.len, l);
      room = omega (arith, p.capacity, i.room);
      rights = ap (map (λ (recruit : Recruit g.row.N.Denot g.row.W.Denot). recruit.right)) p.items ∙ map-append (λ (recruit : Recruit g.row.N.Denot g.row.W.Denot). recruit.right) _ _ ∙ ap (λ xs. xs ++ c.in-Some.right ∷ []) i.rights;
      numbers =
          mapped_more (λ (recruit : Recruit g.row.N.Denot g.row.W.Denot). recruit.number) c.loop-right.recruits.items c.push_reserved.new.self.items _ (numbers_below (length c.loop-right.yielded)) (length c.loop-right.yielded) p.items i.numbers at
          ∙ ap numbers_below more;
      turns =
          mapped_more (λ (recruit : Recruit g.row.N.Denot g.row.W.Denot). recruit.turn) c.loop-right.recruits.items c.push_reserved.new.self.items _ (take (length c.loop-right.yielded) c.args.turns.now) (get_or c.args.turns.now (length c.loop-right.yielded) 0) p.items i.turns (ap (λ n. get_or c.args.turns.now n 0) at)
          ∙ sym (take_more c.args.turns.now (length c.loop-right.yielded) 0 (omega (arith, taken, c.requires.turns)))
          ∙ ap (λ n. take n c.args.turns.now) (omega (arith, l));
      own = λ k d within. subst (All (λ (recruit : Recruit g.row.N.Denot g.row.W.Denot). g.J.Job.owns c.args.job.now recruit.own)) (sym p.items) (All-push (λ (recruit : Recruit g.row.N.Denot g.row.W.Denot). g.J.Job.owns c.args.job.now recruit.own) c.loop-right.recruits.items _ i.own (c.in_ok-own.ensures)) k d within;
    }
