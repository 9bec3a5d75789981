-- What propagation alone leaves of the domains of a model's variables, and its text.
--
-- The form of the text is this program's own; ranges and sets are written as in FlatZinc.
use Rattle.std.specs.Prelude.{◌≡◌, ◌⊎◌, ℕ, List, [], ◌++◌, map, flat_map, codes}
use Rattle.std.specs.Fmt.{signed_decimal}
use Rattle.bit_domain.specs.declared.dom.Dom.{Dom}
use Rattle.bit_domain.specs.declared.dom.Dom.TheVariants.{Bits, Pair}
use Rattle.bit_domain.specs.Mixes.{Mix, values_from}
use Rattle.constraint_model.specs.declared.model.FznModel.{FznModel}
use Rattle.constraint_model.specs.declared.model.Output.{Output}
use Rattle.constraint_model.specs.declared.model.Term.{Term}
use Rattle.domain_laws.specs.Left.{declared_dom, AreLeft, AreNoneLeft, HoldSolutions, HasNoSolution}
use Rattle.fzn_print.specs.AnswerText.{comma, joined, line_end, mark_text_of, range_text}
use Rattle.fzn_print.specs.declared.marks.Mark.{Mark}

-- ---- the text

-- a domain that is kept as bits is written as the set of its numbers, rising, and any other as the range between its bounds
abbrev pub dom_text : Dom → List ℕ
dom_text (Bits base set) = codes "{" ++ joined comma (map signed_decimal (values_from base set)) ++ codes "}"
dom_text (Pair low high) = range_text (low, high)

-- the line of a variable of this name
abbrev pub named_line : Mix → List ℕ → Term → List ℕ
named_line m name (Term.Var v) = name ++ codes ": " ++ dom_text (declared_dom m v) ++ codes ";" ++ line_end
named_line m name (Term.Number z) = []

-- the line of an output; one that is no variable, as a parameter or an array, has none
abbrev pub domain_line : Mix → Output → List ℕ
domain_line m (Output.Scalar name is_bool t) = named_line m name t
domain_line m (Output.Array name is_bool ranges entries) = []

-- the lines of a model's outputs, in the order of the declarations
abbrev pub domain_text : FznModel → Mix → List ℕ
domain_text model m = flat_map (domain_line m) model.output

-- ---- whose text is written

-- the text of the domains that are left, outside which no solution lies; or, exactly where none are left, the mark that there
-- is no solution, and there is none
abbrev pub IsDomainText : FznModel → List ℕ → Type 0
IsDomainText model bytes =
    ((m : Mix) × AreLeft model m × HoldSolutions model m × (bytes ≡ domain_text model m))
    ⊎ (AreNoneLeft model × HasNoSolution model × (bytes ≡ mark_text_of Mark.Unsatisfiable))

-- it is one text
abbrev pub OneDomainText : Type 0
OneDomainText = (model : FznModel) (bytes others : List ℕ) → IsDomainText model bytes → IsDomainText model others → bytes ≡ others
