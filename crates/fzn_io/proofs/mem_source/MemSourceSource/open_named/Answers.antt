use Rattle.std.proofs.Common.{arith}
use Rattle.fzn_io.proofs.MemoryLaws.{name_leaves}
use Rattle.fzn_io.proofs.mem_source.MemSourceSource.open_named.Goals as goal

pub returns-in_err-next-clause-name_leaves : goal.returns-in_err-next-clause-name_leaves
returns-in_err-next-clause-name_leaves c =
    let n = c.args.self.now.entries.ok.0 in
    let l = c.len.ensures in
    name_leaves _ _ _ (λ h. c.after_one-self.ensures.more (omega (arith, h, n, l))) (λ h. c.after_one-self.ensures.end (omega (arith, h, n, l)))

pub returns-in-Some-clause-name_leaves : goal.returns-in-Some-clause-name_leaves
returns-in-Some-clause-name_leaves c =
    let n = c.args.self.now.entries.ok.0 in
    let l = c.len.ensures in
    name_leaves _ _ _ (λ h. c.after_one-self.ensures.more (omega (arith, h, n, l))) (λ h. c.after_one-self.ensures.end (omega (arith, h, n, l)))

pub returns-in_default-clause-name_leaves : goal.returns-in_default-clause-name_leaves
returns-in_default-clause-name_leaves c =
    let n = c.args.self.now.entries.ok.0 in
    let l = c.len.ensures in
    name_leaves _ _ _ (λ h. c.after_one-self.ensures.more (omega (arith, h, n, l))) (λ h. c.after_one-self.ensures.end (omega (arith, h, n, l)))
