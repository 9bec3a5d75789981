-- A clause: some literal of a list is true. (FlatZinc: bool_clause; array_bool_and and array_bool_or are made of
-- clauses.)
use Rattle.std.specs.Prelude.{◌<◌, ◌≤◌, ◌==◌, ℕ, ℤ, pos, Bool, true, ◌&&◌, cond, IsTrue, List, [], ◌∷◌, ◌++◌, length, map}
use Rattle.std.specs.List.{All, Any, list_all}
use Rattle.tells.specs.declared.tell.Lit.{Lit}
use Rattle.tells.specs.declared.tell.Tell.{Tell}
use Rattle.interval.specs.Limits.{bound_limit}
use Rattle.interval.specs.Boxes.{Bounds}
use Rattle.tells.specs.Words.{low_tell, when, literal_true, is_out, tell_true, value_of}

-- a clause has at most so many literals: those of two arrays and one more
unfoldable pub literal_limit : ℕ
literal_limit = 131073

-- the variables of the literals; an empty clause names variable 0, whose bounds it crosses
unfoldable pub clause_vars : List Lit → List ℕ
clause_vars [] = 0 ∷ []
clause_vars (l ∷ ls) = l.var ∷ map (λ k. k.var) ls

-- each literal of the list such that all others are out is told true. `before` says whether those that stand before the
-- list are all out
unfoldable pub sole_tells : Bool → List Lit → Bounds → List Tell
sole_tells before [] b = []
sole_tells before (l ∷ ls) b =
    when (before && list_all (λ k. is_out k b) ls) (tell_true l ∷ []) ++ sole_tells (before && is_out l b) ls b

-- the tells of the clause on a box
unfoldable pub clause_tells : List Lit → Bounds → List Tell
clause_tells [] b = low_tell 0 (pos bound_limit) ∷ []
clause_tells (l ∷ ls) b = sole_tells true (l ∷ ls) b

-- some literal is true
abbrev pub IsClause : List Lit → List ℤ → Type 0
IsClause lits numbers = Any (λ l. IsTrue (literal_true l (value_of numbers l.var))) lits

-- not too many literals
abbrev pub IsShortClause : List Lit → Type 0
IsShortClause lits = length lits ≤ literal_limit

-- ---- the tells by the number of literals that aren't out

-- the literal is told true where it alone is left, or none is. `left` is how many of the whole list aren't out
unfoldable pub sole_tell : ℕ → Bounds → Lit → List Tell
sole_tell left b l = when (left == cond (is_out l b) 0 1) (tell_true l ∷ [])

-- the literals' variables are among the first `count`
abbrev pub AreLiterals : ℕ → List Lit → Type 0
AreLiterals count lits = All (λ l. l.var < count) lits
