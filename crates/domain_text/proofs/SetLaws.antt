-- The numbers of a set as text, from the least one on.
use Rattle.std.proofs.Common.{◌≡◌, ℕ, ℤ, pos, ◌+ℤ◌, List, [], ◌∷◌, ◌++◌, map, ◌∙◌, refl, ap, sym, append_assoc, append-nil, arith, w64, to_z, of_z}
use Rattle.std.specs.Prelude.{flat_map}
use Rattle.std.specs.Fmt.{signed_decimal}
use Rattle.std.proofs.lemmas.Int.{ints}
use Rattle.interval.specs.Limits.{IsBound, bound_limit, largest_number}
use Rattle.bit_domain.specs.Bits.{members}
use Rattle.bit_domain.specs.Mixes.{values_from}
use Rattle.fzn_print.specs.AnswerText.{comma, joined}

no_members : members 0 ≡ []
unfolding members
no_members = refl

-- a bound is read in 64 bits as it is
pub coded_base : (base : ℤ) → IsBound base → to_z w64 (of_z w64 base) ≡ base
unfolding bound_limit largest_number
coded_base base bound = omega (arith, ints)

-- the numbers of a set, each with a comma before it
abbrev pub others_text : ℤ → ℕ → List ℕ
others_text base set = flat_map (λ z. comma ++ signed_decimal z) (values_from base set)

-- and with a comma between each two
abbrev pub numbers_text : ℤ → ℕ → List ℕ
numbers_text base set = joined comma (map signed_decimal (values_from base set))

-- behind the first part each other follows its separator
joined_first : {X : Type 0} (sep : List ℕ) (f : X → List ℕ) (x : X) (xs : List X) → joined sep (map f (x ∷ xs)) ≡ f x ++ flat_map (λ y. sep ++ f y) xs
joined_first sep f x [] = sym (append-nil (f x))
joined_first {X = X} sep f x (y ∷ ys) =
    let others = flat_map {X = X} {A = ℕ} (λ z. sep ++ f z) ys in
    ap (λ rest. (f x ++ sep) ++ rest) (joined_first sep f y ys) ∙ append_assoc (f x) sep (f y ++ others) ∙ ap (λ rest. f x ++ rest) (sym (append_assoc sep (f y) others))

-- what stands once no number is left
pub others_done : (base : ℤ) (rest : ℕ) (text all : List ℕ) → rest ≡ 0 → text ++ others_text base rest ≡ all → text ≡ all
others_done base rest text all none leads =
    sym (append-nil text)
    ∙ ap (λ (xs : List ℕ). text ++ flat_map (λ z. comma ++ signed_decimal z) (map (λ i. base +ℤ pos i) xs)) (sym no_members)
    ∙ ap (λ (n : ℕ). text ++ others_text base n) (sym none) ∙ leads

-- the least number that is left comes next
pub others_step : (base : ℤ) (set rest i : ℕ) (text next all : List ℕ) → members set ≡ i ∷ members rest → next ≡ (text ++ comma) ++ signed_decimal (base +ℤ pos i)
    → text ++ others_text base set ≡ all → next ++ others_text base rest ≡ all
others_step base set rest i text next all parted added leads =
    let f = λ (z : ℤ). comma ++ signed_decimal z in
    let first = signed_decimal (base +ℤ pos i) in
    let others = others_text base rest in
    ap (λ t. t ++ others) added
    ∙ ap (λ t. t ++ others) (append_assoc text comma first)
    ∙ append_assoc text (comma ++ first) others
    ∙ ap (λ (xs : List ℕ). text ++ flat_map f (map (λ j. base +ℤ pos j) xs)) (sym parted)
    ∙ leads

-- of an empty set nothing is written
pub numbers_none : (base : ℤ) (set : ℕ) (text : List ℕ) → set ≡ 0 → text ≡ text ++ numbers_text base set
numbers_none base set text none =
    sym (append-nil text)
    ∙ ap (λ (xs : List ℕ). text ++ joined comma (map signed_decimal (map (λ i. base +ℤ pos i) xs))) (sym no_members)
    ∙ ap (λ (n : ℕ). text ++ numbers_text base n) (sym none)

-- what stands after the least number and then the others were added
pub numbers_first : (base : ℤ) (set rest i : ℕ) (before text : List ℕ) → members set ≡ i ∷ members rest → text ≡ before ++ signed_decimal (base +ℤ pos i)
    → text ++ others_text base rest ≡ before ++ numbers_text base set
numbers_first base set rest i before text parted added =
    let first = signed_decimal (base +ℤ pos i) in
    let others = others_text base rest in
    ap (λ t. t ++ others) added ∙ append_assoc before first others
    ∙ ap (λ t. before ++ t) (sym (joined_first comma signed_decimal (base +ℤ pos i) (values_from base rest)))
    ∙ ap (λ (xs : List ℕ). before ++ joined comma (map signed_decimal (map (λ j. base +ℤ pos j) xs))) (sym parted)
