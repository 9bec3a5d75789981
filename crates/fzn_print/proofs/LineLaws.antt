-- How the lines of a solution are taken apart.
use Rattle.std.proofs.Common.{◌≡◌, ◌+◌, ◌<◌, ◌≤◌, ℕ, ℤ, Bool, List, [], ◌∷◌, ◌++◌, length, map, take, drop, refl, sym, ap, subst, ◌∙◌, append_assoc, append-nil, codes, get_or, take_all}
use Rattle.std.specs.Prelude.{flat_map, All}
use Rattle.std.specs.Fmt.{decimal}
use Rattle.std.proofs.lemmas.List.{drop_more, take_more, drop_all}
use Rattle.std.proofs.lemmas.List.Concat.{flat_map-append}
use Rattle.std.proofs.lemmas.List.Elements.{All-head, All-tail}
use Rattle.constraint_model.specs.declared.model.Term.{Term}
use Rattle.constraint_model.specs.declared.model.Output.{Output}
use Rattle.constraint_model.specs.Ranges.{Range}
use Rattle.constraint_model.specs.Relations.{value}
use Rattle.fzn_print.specs.AnswerText.{array_text, comma, joined, line_end, output_line, output_name, output_text, range_text, term_text}
use Rattle.fzn_print.specs.Reading.{IsValue, terms_in}
use Rattle.fzn_print.specs.Lines.{EndsNumber, HasValues, ReadsTerm, ReadsOthers, ReadsEntries, ReadsArray, ReadsOutput, ReadsLine, ReadsLines, filled, head_text, put_at}
use Rattle.fzn_print.proofs.JoinLaws.{joined_first, joined_last}

-- ---- terms with a comma before each

-- what is left of them ends a number
pub others_end : (a : List ℤ) (is_bool : Bool) (ts : List Term) (tail : List ℕ) → EndsNumber tail → EndsNumber (flat_map (λ t. comma ++ term_text a is_bool t) ts ++ tail)
others_end a is_bool [] tail ends = ends
others_end a is_bool (t ∷ ts) tail ends = refl

-- one more of them
pub one_other : (a : List ℤ) (is_bool : Bool) (t : Term) (ts : List Term) (tail : List ℕ)
    → flat_map (λ t. comma ++ term_text a is_bool t) (t ∷ ts) ++ tail ≡ comma ++ (term_text a is_bool t ++ (flat_map (λ t. comma ++ term_text a is_bool t) ts ++ tail))
one_other a is_bool t ts tail =
    append_assoc (comma ++ term_text a is_bool t) (flat_map (λ t. comma ++ term_text a is_bool t) ts) tail ∙ append_assoc comma (term_text a is_bool t) (flat_map (λ t. comma ++ term_text a is_bool t) ts ++ tail)

-- ---- filling

pub filled_one : (a values : List ℤ) (t : Term) → filled a values (t ∷ []) ≡ put_at values t (value a t)
filled_one a values t = refl

pub filled-append : (a values : List ℤ) (ts us : List Term) → filled a values (ts ++ us) ≡ filled a (filled a values ts) us
filled-append a values [] us = refl
filled-append a values (t ∷ ts) us = filled-append a (put_at values t (value a t)) ts us

-- ---- arrays and lines

pub array_parts : (ranges : List Range) (entries : List (List ℕ)) (tail : List ℕ) → array_text ranges entries ++ tail ≡ head_text ranges ++ (joined comma entries ++ (codes "])" ++ tail))
array_parts ranges entries tail =
    let name = codes "array" ++ decimal (length ranges) ++ codes "d(" in
    let before = flat_map (λ (range : Range). range_text range ++ comma) ranges in
    let middle = joined comma entries in
    let inside = (codes "[" ++ middle) ++ codes "]" in
    ap (λ (arguments : List ℕ). (name ++ arguments ++ codes ")") ++ tail) (joined_last comma range_text ranges inside)
    ∙ append_assoc (name ++ (before ++ inside)) (codes ")") tail
    ∙ ap (λ (front : List ℕ). front ++ (codes ")" ++ tail)) (sym (append_assoc name before inside))
    ∙ append_assoc (name ++ before) inside (codes ")" ++ tail)
    ∙ ap (λ (later : List ℕ). (name ++ before) ++ later) (append_assoc (codes "[" ++ middle) (codes "]") (codes ")" ++ tail) ∙ append_assoc (codes "[") middle (codes "])" ++ tail))
    ∙ sym (append_assoc (name ++ before) (codes "[") (middle ++ (codes "])" ++ tail)))

pub line_parts : (a : List ℤ) (output : Output) (tail : List ℕ) → output_line a output ++ tail ≡ output_name output ++ (codes " = " ++ (output_text a output ++ (codes ";\n" ++ tail)))
line_parts a output tail =
    append_assoc (output_name output ++ codes " = " ++ output_text a output ++ codes ";") line_end tail
    ∙ append_assoc (output_name output ++ codes " = " ++ output_text a output) (codes ";") (line_end ++ tail)
    ∙ append_assoc (output_name output ++ codes " = ") (output_text a output) (codes ";\n" ++ tail)
    ∙ append_assoc (output_name output) (codes " = ") (output_text a output ++ (codes ";\n" ++ tail))

-- ---- what was read so far of several texts, one behind the other

abbrev pub OthersSoFar : Bool → List Term → ℕ → List ℕ → List ℤ → List ℕ → List ℤ → Type 0
OthersSoFar is_bool ts i first old rest new = (a : List ℤ) (tail : List ℕ) → All (λ t. IsValue is_bool (value a t)) ts → EndsNumber tail
    → first ≡ flat_map (λ t. comma ++ term_text a is_bool t) ts ++ tail
    → (rest ≡ flat_map (λ t. comma ++ term_text a is_bool t) (drop i ts) ++ tail) × (new ≡ filled a old (take i ts))

pub others_start : (is_bool : Bool) (ts : List Term) (first : List ℕ) (old : List ℤ) → OthersSoFar is_bool ts 0 first old first old
others_start is_bool ts first old = λ a tail all ends is. (is, refl)

pub others_step : (is_bool : Bool) (ts : List Term) (i : ℕ) (t : Term) (first rest here after : List ℕ) (old middle new : List ℤ) → i < length ts → t ≡ get_or ts i t
    → OthersSoFar is_bool ts i first old rest middle → ((tail : List ℕ) → rest ≡ comma ++ tail → here ≡ tail) → ReadsTerm is_bool t here after middle new
    → OthersSoFar is_bool ts (i + 1) first old after new
others_step is_bool ts i t first rest here after old middle new inside is_item so_far gone reads = λ a tail all ends is.
    let text : Term → List ℕ = λ u. comma ++ term_text a is_bool u in
    let so = so_far a tail all ends is in
    let others : List ℕ = flat_map text (drop (i + 1) ts) ++ tail in
    let split : drop i ts ≡ t ∷ drop (i + 1) ts = drop_more ts i t inside ∙ ap (λ (u : Term). u ∷ drop (i + 1) ts) (sym is_item) in
    let at : rest ≡ flat_map text (t ∷ drop (i + 1) ts) ++ tail = so.0 ∙ ap (λ (us : List Term). flat_map text us ++ tail) split in
    let is_here = gone (term_text a is_bool t ++ others) (at ∙ one_other a is_bool t (drop (i + 1) ts) tail) in
    let fits = subst (λ (u : Term). IsValue is_bool (value a u)) (sym is_item) (all i t inside) in
    let one = reads a others fits (others_end a is_bool (drop (i + 1) ts) tail ends) is_here in
    let more : take (i + 1) ts ≡ take i ts ++ t ∷ [] = take_more ts i t inside ∙ ap (λ (u : Term). take i ts ++ u ∷ []) (sym is_item) in
    (one.0, one.1 ∙ ap (λ (v : List ℤ). put_at v t (value a t)) so.1 ∙ sym (filled-append a old (take i ts) (t ∷ [])) ∙ ap (filled a old) (sym more))

pub others_end_all : (is_bool : Bool) (ts : List Term) (i : ℕ) (first rest : List ℕ) (old new : List ℤ) → length ts ≤ i → OthersSoFar is_bool ts i first old rest new → ReadsOthers is_bool ts first rest old new
others_end_all is_bool ts i first rest old new whole so_far = λ a tail all ends is.
    let text : Term → List ℕ = λ u. comma ++ term_text a is_bool u in
    let so = so_far a tail all ends is in
    (so.0 ∙ ap (λ (us : List Term). flat_map text us ++ tail) (drop_all i ts whole), so.1 ∙ ap (filled a old) (take_all i ts whole))

-- the first term and the others
pub entries_from : (is_bool : Bool) (t : Term) (ts all : List Term) (rest after end : List ℕ) (old middle new : List ℤ) → all ≡ t ∷ ts
    → ReadsTerm is_bool t rest after old middle → ReadsOthers is_bool ts after end middle new → ReadsEntries is_bool all rest end old new
entries_from is_bool t ts all rest after end old middle new split reads later =
    subst (λ (us : List Term). ReadsEntries is_bool us rest end old new) (sym split) (λ a tail fit ends is.
    let text = term_text a is_bool in
    let others = flat_map (λ (u : Term). comma ++ text u) ts in
    let at = is ∙ ap (λ (front : List ℕ). front ++ tail) (joined_first comma text t ts) ∙ append_assoc (text t) others tail in
    let one = reads a (others ++ tail) (All-head (λ u. IsValue is_bool (value a u)) t ts fit) (others_end a is_bool ts tail ends) at in
    let rest_of = later a tail (All-tail (λ u. IsValue is_bool (value a u)) t ts fit) ends one.0 in
    (rest_of.0, rest_of.1 ∙ ap (λ (v : List ℤ). filled a v ts) one.1))

pub no_entries : (is_bool : Bool) (all : List Term) (rest : List ℕ) (old : List ℤ) → all ≡ [] → ReadsEntries is_bool all rest rest old old
no_entries is_bool all rest old none = subst (λ (us : List Term). ReadsEntries is_bool us rest rest old old) (sym none) (λ a tail fit ends is. (is, refl))

-- an array: what stands before its entries, these, and the brackets
pub array_from : (is_bool : Bool) (ranges : List Range) (ts : List Term) (rest head entries after end : List ℕ) (old new : List ℤ) → head ≡ head_text ranges
    → ((tail : List ℕ) → rest ≡ head ++ tail → entries ≡ tail) → ReadsEntries is_bool ts entries after old new → ((tail : List ℕ) → after ≡ codes "])" ++ tail → end ≡ tail)
    → ReadsArray is_bool ranges ts rest end old new
array_from is_bool ranges ts rest head entries after end old new is_head head_gone reads brackets_gone = λ a tail fit is.
    let texts = map (term_text a is_bool) ts in
    let behind : List ℕ = joined comma texts ++ (codes "])" ++ tail) in
    let at = head_gone behind (is ∙ array_parts ranges texts tail ∙ ap (λ (front : List ℕ). front ++ behind) (sym is_head)) in
    let inner = reads a (codes "])" ++ tail) fit refl at in
    (brackets_gone tail inner.0, inner.1)

pub line_from : (output : Output) (rest named here after end : List ℕ) (old new : List ℤ) → ((tail : List ℕ) → rest ≡ output_name output ++ tail → named ≡ tail)
    → ((tail : List ℕ) → named ≡ codes " = " ++ tail → here ≡ tail) → ReadsOutput output here after old new → ((tail : List ℕ) → after ≡ codes ";\n" ++ tail → end ≡ tail)
    → ReadsLine output rest end old new
line_from output rest named here after end old new name_gone sign_gone reads ended = λ a tail fit is.
    let later : List ℕ = codes ";\n" ++ tail in
    let at = sign_gone (output_text a output ++ later) (name_gone (codes " = " ++ (output_text a output ++ later)) (is ∙ line_parts a output tail)) in
    let inner = reads a later fit refl at in
    (ended tail inner.0, inner.1)

-- ---- lines

abbrev pub LinesSoFar : List Output → ℕ → List ℕ → List ℤ → List ℕ → List ℤ → Type 0
LinesSoFar outputs i first old rest new = (a : List ℤ) (tail : List ℕ) → All (HasValues a) outputs → first ≡ flat_map (output_line a) outputs ++ tail
    → (rest ≡ flat_map (output_line a) (drop i outputs) ++ tail) × (new ≡ filled a old (flat_map terms_in (take i outputs)))

pub lines_start : (outputs : List Output) (first : List ℕ) (old : List ℤ) → LinesSoFar outputs 0 first old first old
lines_start outputs first old = λ a tail all is. (is, refl)

pub lines_step : (outputs : List Output) (i : ℕ) (output : Output) (first rest after : List ℕ) (old middle new : List ℤ) → i < length outputs → output ≡ get_or outputs i output
    → LinesSoFar outputs i first old rest middle → ReadsLine output rest after middle new → LinesSoFar outputs (i + 1) first old after new
lines_step outputs i output first rest after old middle new inside is_item so_far reads = λ a tail all is.
    let so = so_far a tail all is in
    let others = flat_map (output_line a) (drop (i + 1) outputs) in
    let split : drop i outputs ≡ output ∷ drop (i + 1) outputs = drop_more outputs i output inside ∙ ap (λ (o : Output). o ∷ drop (i + 1) outputs) (sym is_item) in
    let at : rest ≡ output_line a output ++ (others ++ tail) = so.0 ∙ ap (λ (os : List Output). flat_map (output_line a) os ++ tail) split ∙ append_assoc (output_line a output) others tail in
    let fits = subst (HasValues a) (sym is_item) (all i output inside) in
    let one = reads a (others ++ tail) fits at in
    let more : take (i + 1) outputs ≡ take i outputs ++ output ∷ [] = take_more outputs i output inside ∙ ap (λ (o : Output). take i outputs ++ o ∷ []) (sym is_item) in
    let terms : flat_map terms_in (take (i + 1) outputs) ≡ flat_map terms_in (take i outputs) ++ terms_in output =
    ap (flat_map terms_in) more ∙ flat_map-append terms_in (take i outputs) (output ∷ []) ∙ ap (λ (ts : List Term). flat_map terms_in (take i outputs) ++ ts) (append-nil (terms_in output)) in
    (one.0, one.1 ∙ ap (λ (v : List ℤ). filled a v (terms_in output)) so.1 ∙ sym (filled-append a old (flat_map terms_in (take i outputs)) (terms_in output)) ∙ ap (filled a old) (sym terms))

pub lines_end : (outputs : List Output) (i : ℕ) (first rest : List ℕ) (old new : List ℤ) → length outputs ≤ i → LinesSoFar outputs i first old rest new → ReadsLines outputs first old new
lines_end outputs i first rest old new whole so_far = λ a tail all is.
    (so_far a tail all is).1 ∙ ap (λ (os : List Output). filled a old (flat_map terms_in os)) (take_all i outputs whole)
