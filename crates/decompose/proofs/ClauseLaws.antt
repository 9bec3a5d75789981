-- Clauses that say that a literal is true exactly where one of some others is, as they are added one by one.
use Rattle.std.proofs.Common.{◌≡◌, true, false, List, [], ◌∷◌, ◌++◌, map, sym, ap, ◌∙◌, append_assoc}
use Rattle.std.proofs.lemmas.Simd.{map-map}
use Rattle.std.proofs.lemmas.List.{map-append}
use Rattle.guarded_tell.specs.Words.{Lit}
use Rattle.guarded_tell.specs.declared.kernel.Kernel.{Kernel}
use Rattle.constraint_model.specs.declared.model.Term.{Term}
use Rattle.clause_tells.specs.Literals.{literal, literals_by_sign}
use Rattle.decompose.specs.Kernels.{negated, some_of, variable_of, variables_of, clause_literals}
use Rattle.decompose.specs.Places.{Numbering}

abbrev pub implied : Lit → Lit → Kernel
implied l k = Kernel.Clause (l ∷ negated k ∷ [])

-- the last clause stands behind those that stood before
last_after : (before clauses middle after : List Kernel) (last : Kernel) → middle ≡ before ++ clauses → after ≡ middle ++ last ∷ [] → after ≡ before ++ (clauses ++ last ∷ [])
last_after before clauses middle after last e f = f ∙ ap (λ ks. ks ++ last ∷ []) e ∙ append_assoc before clauses (last ∷ [])

-- the clauses of terms are those of their literals
pub joined_after : (l : Lit) (f : Term → Lit) (ts : List Term) (before middle after : List Kernel) (literals : List Lit)
    → middle ≡ before ++ map (λ t. implied l (f t)) ts → literals ≡ negated l ∷ map f ts → after ≡ middle ++ Kernel.Clause literals ∷ [] → after ≡ before ++ some_of l (map f ts)
joined_after l f ts before middle after literals e g h =
    last_after before (map (implied l) (map f ts)) middle after (Kernel.Clause (negated l ∷ map f ts)) (e ∙ ap (λ ks. before ++ ks) (sym (map-map (implied l) f ts)))
    (h ∙ ap (λ ls. middle ++ Kernel.Clause ls ∷ []) g)

-- those of two lists of terms
pub joined_both_after : (l : Lit) (f g : Term → Lit) (ts us : List Term) (before first middle after : List Kernel) (literals : List Lit)
    → first ≡ before ++ map (λ t. implied l (f t)) ts → middle ≡ first ++ map (λ t. implied l (g t)) us → literals ≡ negated l ∷ (map f ts ++ map g us)
    → after ≡ middle ++ Kernel.Clause literals ∷ [] → after ≡ before ++ some_of l (map f ts ++ map g us)
joined_both_after l f g ts us before first middle after literals d e x h =
    last_after before (map (implied l) (map f ts ++ map g us)) middle after (Kernel.Clause (negated l ∷ (map f ts ++ map g us)))
    (e ∙ ap (λ ks. ks ++ map (λ t. implied l (g t)) us) d ∙ append_assoc before (map (λ t. implied l (f t)) ts) (map (λ t. implied l (g t)) us)
    ∙ ap (λ ks. before ++ (ks ++ map (λ t. implied l (g t)) us)) (sym (map-map (implied l) f ts))
    ∙ ap (λ ks. before ++ (map (implied l) (map f ts) ++ ks)) (sym (map-map (implied l) g us))
    ∙ ap (λ ks. before ++ ks) (sym (map-append (implied l) (map f ts) (map g us))))
    (h ∙ ap (λ ls. middle ++ Kernel.Clause ls ∷ []) x)

-- the literals behind the first one
pub literals_after : (l l' : Lit) (none some all : List Lit) (rest : List Lit) → none ≡ [] → l' ≡ negated l → some ≡ none ++ l' ∷ [] → all ≡ some ++ rest → all ≡ negated l ∷ rest
literals_after l l' none some all rest e f g h =
    h ∙ ap (λ ls. ls ++ rest) g ∙ ap (λ ls. (ls ++ l' ∷ []) ++ rest) e ∙ ap (λ k. k ∷ rest) f

-- the literals of the terms' variables by sign are those of the terms
pub literals_of_variables : (numbering : Numbering) (positives negatives : List Term)
    → literals_by_sign (variables_of numbering positives) (variables_of numbering negatives) ≡ clause_literals numbering positives negatives
literals_of_variables numbering positives negatives =
    λ i. map-map (literal true) (variable_of numbering) positives i ++ map-map (literal false) (variable_of numbering) negatives i
