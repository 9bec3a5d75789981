-- What the made texts mean: each has a model, and the model a solution.
use Rattle.std.specs.Prelude.{◌≡◌, ◌≤◌, ◌-◌, ◌*◌, ℕ, ℤ, pos, List, length, map, sum_by}
use Rattle.std.specs.List.{range_with_len}
use Rattle.fzn_lexer.specs.declared.Token.{Token}
use Rattle.fzn_lexer.specs.Lexing.{LexesAs}
use Rattle.fzn_parser.specs.Parsing.{ItemTree, ReadsAs}
use Rattle.fzn_model.specs.Resolving.{IsModelOf}
use Rattle.constraint_model.specs.declared.model.Term.{Term}
use Rattle.constraint_model.specs.declared.model.Goal.{Goal}
use Rattle.constraint_model.specs.declared.model.FznModel.{FznModel}
use Rattle.constraint_model.specs.Fits.{kernels_of}
use Rattle.constraint_model.specs.Relations.{IsSolution}
use Rattle.made_model.specs.Made.{made}

-- the most bytes that a text may have
abbrev pub most_bytes : ℕ
most_bytes = 67108864

-- the numbers 0, 9, 18 and so on: each variable is greater by 9 than the one before it, and no gap is greater
abbrev pub spaced : ℕ → List ℤ
spaced n = map (λ i. pos (9 * i)) (range_with_len 0 n)

-- the text is read to its end, and has a model of `n` variables and 4n propagators, whose last variable is minimized; the
-- spaced numbers are a solution
pub record HasSolvedModel (n : ℕ) (text : List ℕ) : Type 0 where
  pub short : length text ≤ most_bytes
  pub tokens : List Token
  pub lexed : LexesAs text tokens
  pub items : List ItemTree
  pub parsed : ReadsAs text tokens items
  pub model : FznModel
  pub resolved : IsModelOf text items model
  pub variables : length model.vars ≡ n
  pub kernels : sum_by kernels_of model.constraints ≡ 4 * n
  pub goal : model.goal ≡ Goal.Minimize (Term.Var (n - 1))
  pub solved : IsSolution model (spaced n)

abbrev pub MadeHasModel : Type 0
MadeHasModel = (n : ℕ) → 2 ≤ n → n ≤ 2000 → HasSolvedModel n (made n)
