use Rattle.std.proofs.Common.{◌+◌, ℕ, List, subst, sym, arith}
use Rattle.guarded_tell.specs.Kernels.{vars_of, IsKernel}
use Rattle.guarded_tell.specs.declared.kernel.Kernel.{Kernel}
use Rattle.moved_set.specs.Parts.{AreParts}
use Rattle.moved_set.proofs.PartLaws.{lists_grown, parts_more}
use Rattle.moved_set.proofs.parts.parts_of.Goals as goal

pub loop-j-preserved : goal.loop-j-preserved
loop-j-preserved c =
    let j : ℕ = c.loop-j.j in
    let k : Kernel = c.index-kernels-j.result in
    let old : List (List ℕ) = c.loop-j.lists.items.items in
    let new : List (List ℕ) = c.part_of.new.self.items.items in
    let kernel : IsKernel c.args.count k = subst (IsKernel c.args.count) (sym c.index-kernels-j.is) (c.requires j k (omega arith)) in
    record {
      lists = lists_grown c.args.count (vars_of k) old new kernel.variables c.loop-j.invariant.lists c.in_ok-part.ensures.grows;
      parts = subst (AreParts c.args.kernels.now (j + 1) new) (sym c.in_ok-push.ensures.items)
          (parts_more c.args.kernels.now j k old new c.loop-j.of_kernels.items c.in_ok-part.part (omega arith) c.index-kernels-j.is c.in_ok-part.ensures.grows c.in_ok-part.ensures.part c.loop-j.invariant.parts);
    }
