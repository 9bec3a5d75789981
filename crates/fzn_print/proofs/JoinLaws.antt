-- Texts with separators between them.
use Rattle.std.proofs.Common.{◌≡◌, ℕ, List, [], ◌∷◌, ◌++◌, map, refl, ap, sym, ◌∙◌, append_assoc, append-nil}
use Rattle.std.specs.Prelude.{flat_map}
use Rattle.fzn_print.specs.AnswerText.{joined}

-- behind the first part each other follows its separator
pub joined_first : {X : Type 0} (sep : List ℕ) (f : X → List ℕ) (x : X) (xs : List X) → joined sep (map f (x ∷ xs)) ≡ f x ++ flat_map (λ y. sep ++ f y) xs
joined_first sep f x [] = sym (append-nil (f x))
joined_first {X = X} sep f x (y ∷ ys) =
    let others = flat_map {X = X} {A = ℕ} (λ z. sep ++ f z) ys in
    ap (λ rest. (f x ++ sep) ++ rest) (joined_first sep f y ys) ∙ append_assoc (f x) sep (f y ++ others) ∙ ap (λ rest. f x ++ rest) (sym (append_assoc sep (f y) others))

-- each part before the last comes before its separator
pub joined_last : {X : Type 0} (sep : List ℕ) (f : X → List ℕ) (xs : List X) (last : List ℕ) → joined sep (map f xs ++ (last ∷ [])) ≡ flat_map (λ y. f y ++ sep) xs ++ last
joined_last sep f [] last = refl
joined_last sep f (x ∷ []) last = ap (λ front. front ++ last) (sym (append-nil (f x ++ sep)))
joined_last {X = X} sep f (x ∷ y ∷ ys) last =
    let others = flat_map {X = X} {A = ℕ} (λ z. f z ++ sep) (y ∷ ys) in
    ap (λ rest. (f x ++ sep) ++ rest) (joined_last sep f (y ∷ ys) last) ∙ sym (append_assoc (f x ++ sep) others last)

-- what stands after the first part and then the others were added
pub after_first : {X : Type 0} (sep : List ℕ) (f : X → List ℕ) (x : X) (xs all : List X) (before text : List ℕ) → all ≡ x ∷ xs → text ≡ before ++ f x → text ++ flat_map (λ y. sep ++ f y) xs ≡ before ++ joined sep (map f all)
after_first {X = X} sep f x xs all before text is added =
    let others = flat_map {X = X} {A = ℕ} (λ y. sep ++ f y) xs in
    ap (λ front. front ++ others) added ∙ append_assoc before (f x) others ∙ ap (λ rest. before ++ rest) (sym (joined_first sep f x xs)) ∙ ap (λ parts. before ++ joined sep (map f parts)) (sym is)

-- what stands after the last part was added behind the others
pub after_last : {X : Type 0} (sep : List ℕ) (f : X → List ℕ) (xs : List X) (last before text : List ℕ) → text ≡ before ++ flat_map (λ y. f y ++ sep) xs → text ++ last ≡ before ++ joined sep (map f xs ++ (last ∷ []))
after_last {X = X} sep f xs last before text added =
    let others = flat_map {X = X} {A = ℕ} (λ y. f y ++ sep) xs in
    ap (λ front. front ++ last) added ∙ append_assoc before others last ∙ ap (λ rest. before ++ rest) (sym (joined_last sep f xs last))
