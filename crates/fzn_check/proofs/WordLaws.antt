-- What is read of the words of the command line.
use Rattle.std.proofs.Common.{◌≡◌, ◌∙◌, List, [], Option, Some, None, Result, Ok, Err, IfOk, Bool, true, refl, sym, ap, ap₂, subst, option_map, option_and_then, ok_or, codes}
use Rattle.std.specs.Prelude.{if◌then◌else◌}
use Rattle.clap.specs.Faults.{fault_of, is_simple_and_free}
use Rattle.clap.specs.Simple.{App, is_simple, matches_of}
use Rattle.clap.specs.Matches.{first_value}
use Rattle.clap.specs.Walk.{Row, Text, first_of, is_empty, rows_of}
use Rattle.clap.specs.declared.parser.matches.Found.{Found}
use Rattle.clap.proofs.WalkLemmas.{first_value-rows}
use Rattle.fzn_check.specs.Words.{command, names_in, names_meant}
use Rattle.fzn_check.specs.declared.words.Names.{Names}
use Rattle.fzn_check.specs.declared.words.WordsError.{WordsError}
use Rattle.fzn_check.specs.declared.words.WordsError.TheVariants.{NotTaken}

is_simple_command : is_simple command ≡ true
is_simple_command = refl

is_free_command : is_simple_and_free command ≡ true
is_free_command = refl

-- the names, where the command takes the words
pub names_taken : (a : App) (words : List Text) (rows : List Row) (X : Type 0) (n : Option Names) → a ≡ command
    → (is_simple a ≡ true → (rows ≡ matches_of a words) × X) → (is_simple_and_free a ≡ true → fault_of a words ≡ [])
    → option_map names_meant n ≡ names_in rows
    → (if is_empty (fault_of command words) then names_in (matches_of command words) else None) ≡ option_map names_meant n
names_taken a words rows X n is_command found free is =
    let faults : fault_of command words ≡ [] = subst (λ z. fault_of z words ≡ []) is_command (free (subst (λ z. is_simple_and_free z ≡ true) (sym is_command) is_free_command)) in
    let rows_are : rows ≡ matches_of command words = subst (λ z. rows ≡ matches_of z words) is_command (found (subst (λ z. is_simple z ≡ true) (sym is_command) is_simple_command)).0 in
    ap (λ ks. if is_empty ks then names_in (matches_of command words) else None) faults ∙ ap names_in (sym rows_are) ∙ sym is

-- what the answer is then
pub taken_ok : (m : Option (Text × Text)) (n : Option Names) (r : Result Names WordsError) → r ≡ ok_or n NotTaken → m ≡ option_map names_meant n
    → IfOk r (λ x. m ≡ Some (names_meant x))
taken_ok m (Some x) r is means = rw is means
taken_ok m None r is means = rw is tt

pub taken_err : (m : Option (Text × Text)) (n : Option Names) (r : Result Names WordsError) → r ≡ ok_or n NotTaken → m ≡ option_map names_meant n
    → r ≡ Err NotTaken → m ≡ None
taken_err m (Some x) r is means refused = let bad : Ok x ≡ Err NotTaken = sym is ∙ refused in cc
taken_err m None r is means refused = means

-- the names that are found
pub no_model : (f : Found) → None ≡ first_value f (codes "MODEL") → None ≡ names_in (rows_of f)
no_model f none = ap (option_and_then (λ model. option_map (λ solutions. (model, solutions)) (first_of (codes "SOLUTION") (rows_of f)))) (none ∙ first_value-rows f (codes "MODEL"))

pub names_are : (f : Found) (m s : Option Text) → m ≡ first_value f (codes "MODEL") → s ≡ first_value f (codes "SOLUTION")
    → option_and_then (λ model. option_map (λ solutions. (model, solutions)) s) m ≡ names_in (rows_of f)
names_are f m s model solutions =
    ap₂ (λ p q. option_and_then (λ model. option_map (λ solutions. (model, solutions)) q) p) (model ∙ first_value-rows f (codes "MODEL")) (solutions ∙ first_value-rows f (codes "SOLUTION"))
