-- Tokens read as one list of items, or have one fault, and never both.
use Rattle.std.proofs.Common.{◌≡◌, ℕ, List, [], ◌∷◌, ◌++◌, Option, Some, refl, sym, ap, ◌∙◌, subst, append_assoc}
use Rattle.fzn_lexer.specs.declared.Token.{Token}
use Rattle.fzn_parser.specs.Texts.{first_stretch}
use Rattle.fzn_parser.specs.Parsing.{ItemTree, BeginsAt, ReadsAsItem, ReadsAs, FaultsAt}
use Rattle.fzn_parser.specs.Stretches.{item_at}
use Rattle.fzn_parser.proofs.ItemForms.{written_is_read, item_is_stretch}

abbrev tail_of : List Token → List Token
tail_of [] = []
tail_of (t ∷ ts) = ts

cancel : (xs a b : List Token) → xs ++ a ≡ xs ++ b → a ≡ b
cancel [] a b e = e
cancel (x ∷ xs) a b e = cancel xs a b (ap tail_of e)

same_item : (i j : ItemTree) (o : Option ItemTree) → o ≡ Some i → o ≡ Some j → i ≡ j
same_item i j o e f = cc

first_same : (t u : Token) (ts us : List Token) → t ∷ ts ≡ u ∷ us → t ≡ u
first_same t u ts us e = cc

no_first : (t : Token) (ts : List Token) → t ∷ ts ≡ [] → ⊥
no_first t ts e = cc

-- the first item's tokens are one list
front_is : (text : List ℕ) (tokens front more : List Token) (i : ItemTree) → tokens ≡ front ++ more → ReadsAsItem text front i → first_stretch text tokens ≡ front
front_is text tokens front more i e r = ap (first_stretch text) e ∙ item_is_stretch text front more i r

same_front : (text : List ℕ) (tokens front more other left : List Token) (i j : ItemTree) → tokens ≡ front ++ more → ReadsAsItem text front i → tokens ≡ other ++ left → ReadsAsItem text other j → front ≡ other
same_front text tokens front more other left i j e r f s = sym (front_is text tokens front more i e r) ∙ front_is text tokens other left j f s

same_more : (tokens front more other left : List Token) → tokens ≡ front ++ more → tokens ≡ other ++ left → front ≡ other → more ≡ left
same_more tokens front more other left e f g = cancel front more left (sym e ∙ f ∙ ap (λ ts. ts ++ left) (sym g))

nothing_reads : (text : List ℕ) (tokens front more : List Token) (i : ItemTree) → tokens ≡ [] → tokens ≡ front ++ more → ReadsAsItem text front i → ⊥
nothing_reads text tokens [] more i e f r = let begins : BeginsAt i.from [] = r.place in absurd begins
nothing_reads text tokens (t ∷ front) more i e f r = no_first t (front ++ more) (sym f ∙ e)

pub one_list : (text : List ℕ) (is js : List ItemTree) (tokens : List Token) → ReadsAs text tokens is → ReadsAs text tokens js → is ≡ js
one_list text [] [] tokens r s = refl
one_list text [] (j ∷ js) tokens r s = absurd (nothing_reads text tokens s.0 s.1 j r s.2 s.3)
one_list text (i ∷ is) [] tokens r s = absurd (nothing_reads text tokens r.0 r.1 i s r.2 r.3)
one_list text (i ∷ is) (j ∷ js) tokens r s =
    let Reads : List Token → Type 0 = λ ts. ReadsAs text ts js in
    let front : r.0 ≡ s.0 = same_front text tokens r.0 r.1 s.0 s.1 i j r.2 r.3 s.2 s.3 in
    let more : s.1 ≡ r.1 = sym (same_more tokens r.0 r.1 s.0 s.1 r.2 s.2 front) in
    let item : i ≡ j = same_item i j (item_at text r.0) (written_is_read text r.0 i r.3) (ap (item_at text) front ∙ written_is_read text s.0 j s.3) in
    ap (λ x. x ∷ is) item ∙ ap (λ xs. j ∷ xs) (one_list text is js r.1 r.4 (subst Reads more s.4))

-- no item begins with these tokens
abbrev Refused : List ℕ → Token → List Token → Type 0
Refused text first more = (item : ItemTree) → ReadsAsItem text (first_stretch text (first ∷ more)) item → ⊥

clash : (text : List ℕ) (tokens front left : List Token) (i : ItemTree) (first : Token) (more : List Token) → tokens ≡ first ∷ more → Refused text first more → tokens ≡ front ++ left → ReadsAsItem text front i → ⊥
clash text tokens front left i first more e refused f r =
    let Reads : List Token → Type 0 = λ ts. ReadsAsItem text ts i in
    refused i (subst Reads (sym (front_is text tokens front left i f r) ∙ ap (first_stretch text) e) r)

behind : (tokens front last others left : List Token) → tokens ≡ front ++ left → front ≡ last ++ others → tokens ≡ last ++ (others ++ left)
behind tokens front last others left e f = e ∙ ap (λ ts. ts ++ left) f ∙ append_assoc last others left

never_to : (text : List ℕ) (is js : List ItemTree) (front : List Token) (first : Token) (more tokens : List Token) → tokens ≡ front ++ first ∷ more → ReadsAs text front js → Refused text first more → ReadsAs text tokens is → ⊥
never_to text [] [] front first more tokens e r refused s = no_first first more (sym (e ∙ ap (λ ts. ts ++ first ∷ more) r) ∙ s)
never_to text (i ∷ is) [] front first more tokens e r refused s = clash text tokens s.0 s.1 i first more (e ∙ ap (λ ts. ts ++ first ∷ more) r) refused s.2 s.3
never_to text [] (j ∷ js) front first more tokens e r refused s = nothing_reads text tokens r.0 (r.1 ++ first ∷ more) j s (behind tokens front r.0 r.1 (first ∷ more) e r.2) r.3
never_to text (i ∷ is) (j ∷ js) front first more tokens e r refused s =
    let Reads : List Token → Type 0 = λ ts. ReadsAs text ts is in
    let cut : tokens ≡ r.0 ++ (r.1 ++ first ∷ more) = behind tokens front r.0 r.1 (first ∷ more) e r.2 in
    let same : s.0 ≡ r.0 = same_front text tokens s.0 s.1 r.0 (r.1 ++ first ∷ more) i j s.2 s.3 cut r.3 in
    let left : s.1 ≡ r.1 ++ first ∷ more = same_more tokens s.0 s.1 r.0 (r.1 ++ first ∷ more) s.2 cut same in
    never_to text is js r.1 first more s.1 left r.4 refused s.4

pub never_both : (text : List ℕ) (tokens : List Token) (items : List ItemTree) (at : ℕ) → ReadsAs text tokens items → FaultsAt text tokens at → ⊥
never_both text tokens items at r f = never_to text items f.items f.front f.first f.more tokens f.cut f.before f.refused r

one_place : (text : List ℕ) (is js : List ItemTree) (front other : List Token) (t u : Token) (ts us tokens : List Token) → tokens ≡ front ++ t ∷ ts → ReadsAs text front is → Refused text t ts → tokens ≡ other ++ u ∷ us → ReadsAs text other js → Refused text u us → t ≡ u
one_place text [] [] front other t u ts us tokens e r p f s q = first_same t u ts us (sym (e ∙ ap (λ zs. zs ++ t ∷ ts) r) ∙ f ∙ ap (λ zs. zs ++ u ∷ us) s)
one_place text (i ∷ is) [] front other t u ts us tokens e r p f s q =
    absurd (clash text tokens r.0 (r.1 ++ t ∷ ts) i u us (f ∙ ap (λ zs. zs ++ u ∷ us) s) q (behind tokens front r.0 r.1 (t ∷ ts) e r.2) r.3)
one_place text [] (j ∷ js) front other t u ts us tokens e r p f s q =
    absurd (clash text tokens s.0 (s.1 ++ u ∷ us) j t ts (e ∙ ap (λ zs. zs ++ t ∷ ts) r) p (behind tokens other s.0 s.1 (u ∷ us) f s.2) s.3)
one_place text (i ∷ is) (j ∷ js) front other t u ts us tokens e r p f s q =
    let here : tokens ≡ r.0 ++ (r.1 ++ t ∷ ts) = behind tokens front r.0 r.1 (t ∷ ts) e r.2 in
    let there : tokens ≡ s.0 ++ (s.1 ++ u ∷ us) = behind tokens other s.0 s.1 (u ∷ us) f s.2 in
    let same : r.0 ≡ s.0 = same_front text tokens r.0 (r.1 ++ t ∷ ts) s.0 (s.1 ++ u ∷ us) i j here r.3 there s.3 in
    let left : r.1 ++ t ∷ ts ≡ s.1 ++ u ∷ us = same_more tokens r.0 (r.1 ++ t ∷ ts) s.0 (s.1 ++ u ∷ us) here there same in
    one_place text is js r.1 s.1 t u ts us (r.1 ++ t ∷ ts) refl r.4 p left s.4 q

pub one_fault : (text : List ℕ) (tokens : List Token) (at place : ℕ) → FaultsAt text tokens at → FaultsAt text tokens place → at ≡ place
one_fault text tokens at place f g = f.place ∙ ap (λ t. t.from) (one_place text f.items g.items f.front g.front f.first g.first f.more g.more tokens f.cut f.before f.refused g.cut g.before g.refused) ∙ sym g.place
