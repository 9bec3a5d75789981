use Rattle.std.proofs.Common.{ℕ, List, length, sym, subst}
use Rattle.guarded_tell.specs.Words.{Lit}
use Rattle.clause_tells.specs.Clause.{clause_vars}
use Rattle.moved_set.specs.Parts.{HasList}
use Rattle.moved_set.proofs.ClauseLists.{has_positives, has_negatives}
use Rattle.moved_set.proofs.parts.long_list_of_clause.Goals as goal

pub returns-then-is_some : goal.returns-then-is_some
returns-then-is_some c = subst (λ (ls : List Lit). HasList (clause_vars ls) 0 c.in_ok-positives.positives.now) (sym c.in_ok-positives.ensures) (has_positives c.in_ok-positives.positives.now c.in_ok-positives.negatives.now)

pub returns-else-is_some : goal.returns-else-is_some
returns-else-is_some c =
    let behind : HasList (clause_vars c.args.lits.now) (length c.in_ok-positives.positives.now) c.in_ok-positives.negatives.now = subst (λ (ls : List Lit). HasList (clause_vars ls) (length c.in_ok-positives.positives.now) c.in_ok-positives.negatives.now) (sym c.in_ok-positives.ensures) (has_negatives c.in_ok-positives.positives.now c.in_ok-positives.negatives.now) in
    subst (λ (n : ℕ). HasList (clause_vars c.args.lits.now) n c.in_ok-positives.negatives.now) (sym c.len.ensures) behind
