-- The words name the two files, which are all that the source has.
use Rattle.std.proofs.Common.{sym, subst, refl, rules}
use Rattle.std.specs.Prelude.{List, [], ◌∷◌, ℕ, Option, codes}
use Rattle.fzn_check.specs.Words.{names_of}
use Rattle.fzn_check.specs.Outcome.{CanOpenFiles}
use Rattle.check_tests.proofs.NamedFiles.{can_open_files}
use Rattle.check_tests.proofs.calls.check_named.Goals as goal

pub check_main-requires : goal.check_main-requires
check_main-requires g c = (
  search rules,
  subst (λ (n : Option (List (List ℕ))). CanOpenFiles n (names_of c.args.words.now)) (sym c.requires.files)
      (can_open_files c.args.words.now (codes "m.fzn" ∷ codes "s.txt" ∷ []) c.requires.words refl),
)
