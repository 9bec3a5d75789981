-- The turns of the loops over tokens.
use Rattle.std.proofs.Common.{◌≡◌, ◌≤◌, ◌<◌, length, take, drop, ℕ, zero, suc, ◌+◌, Bool, true, false, cond, List, [], ◌∷◌, ◌++◌, Option, Some, None, option_map, get_or, arith, sym, ap, refl, ◌∙◌, length-drop, append-nil, append_assoc}
use Rattle.std.proofs.lemmas.List.{drop_more, take_more}
use Rattle.fzn_lexer.specs.declared.Token.{Token}
use Rattle.fzn_parser.specs.declared.cursor.Symbol.{Symbol}
use Rattle.fzn_parser.specs.Texts.{is_at, first_stretch, before_last, no_more}

pub first_at : (text : List ℕ) (t : Token) (us : List Token) → is_at Symbol.Semicolon text t ≡ true → first_stretch text (t ∷ us) ≡ t ∷ []
unfolding first_stretch
first_at text t us e = ap (λ b. t ∷ cond b [] (first_stretch text us)) e

pub first_not : (text : List ℕ) (t : Token) (us : List Token) → is_at Symbol.Semicolon text t ≡ false → first_stretch text (t ∷ us) ≡ t ∷ first_stretch text us
unfolding first_stretch
first_not text t us e = ap (λ b. t ∷ cond b [] (first_stretch text us)) e

drop_past : {A : Type 0} (n : ℕ) (xs : List A) → length xs ≤ n → drop n xs ≡ []
drop_past zero [] h = refl
drop_past zero (x ∷ xs) h = absurd (omega arith)
drop_past (suc n) [] h = refl
drop_past (suc n) (x ∷ xs) h = drop_past n xs (omega arith)

pub stretch_ends : (text : List ℕ) (ts whole : List Token) (i n : ℕ) (b : Bool) (d : Token) → n ≡ i → i < length ts → whole ≡ take n ts ++ first_stretch text (drop n ts) → b ≡ is_at Symbol.Semicolon text (get_or ts i d) → b ≡ true → take (n + 1) ts ≡ whole
stretch_ends text ts whole i n b d e h inv t g =
    let at : is_at Symbol.Semicolon text (get_or ts n d) ≡ true = ap (λ k. is_at Symbol.Semicolon text (get_or ts k d)) e ∙ sym t ∙ g in
    let lt : n < length ts = omega arith in
    take_more ts n d lt ∙ ap (λ zs. take n ts ++ zs) (sym (first_at text _ (drop (n + 1) ts) at)) ∙ ap (λ zs. take n ts ++ first_stretch text zs) (sym (drop_more ts n d lt)) ∙ sym inv

pub stretch_goes : (text : List ℕ) (ts whole : List Token) (i n : ℕ) (b : Bool) (d : Token) → n ≡ i → i < length ts → whole ≡ take n ts ++ first_stretch text (drop n ts) → b ≡ is_at Symbol.Semicolon text (get_or ts i d) → b ≡ false → whole ≡ take (n + 1) ts ++ first_stretch text (drop (n + 1) ts)
stretch_goes text ts whole i n b d e h inv t g =
    let at : is_at Symbol.Semicolon text (get_or ts n d) ≡ false = ap (λ k. is_at Symbol.Semicolon text (get_or ts k d)) e ∙ sym t ∙ g in
    let lt : n < length ts = omega arith in
    inv ∙ ap (λ zs. take n ts ++ first_stretch text zs) (drop_more ts n d lt) ∙ ap (λ zs. take n ts ++ zs) (first_not text _ (drop (n + 1) ts) at)
    ∙ sym (append_assoc (take n ts) (get_or ts n d ∷ []) _) ∙ ap (λ zs. zs ++ first_stretch text (drop (n + 1) ts)) (sym (take_more ts n d lt))

pub stretch_out : (text : List ℕ) (ts whole : List Token) (i n : ℕ) → n ≡ i → length ts ≤ i → whole ≡ take n ts ++ first_stretch text (drop n ts) → take n ts ≡ whole
unfolding first_stretch
stretch_out text ts whole i n e h inv = sym (inv ∙ ap (λ zs. take n ts ++ first_stretch text zs) (drop_past n ts (omega arith)) ∙ append-nil (take n ts))

pub last_at : (text : List ℕ) (t : Token) (us : List Token) → is_at Symbol.Semicolon text t ≡ true → before_last text (t ∷ us) ≡ no_more us
unfolding before_last
last_at text t us e = ap (λ b. cond b (no_more us) (option_map (λ vs. t ∷ vs) (before_last text us))) e

pub last_not : (text : List ℕ) (t : Token) (us : List Token) → is_at Symbol.Semicolon text t ≡ false → before_last text (t ∷ us) ≡ option_map (λ vs. t ∷ vs) (before_last text us)
unfolding before_last
last_not text t us e = ap (λ b. cond b (no_more us) (option_map (λ vs. t ∷ vs) (before_last text us))) e

none_more : (us : List Token) → length us ≡ 0 → no_more us ≡ Some []
none_more [] h = refl
none_more (u ∷ us) h = absurd (omega arith)

some_more : (us : List Token) → 0 < length us → no_more us ≡ None
some_more [] h = absurd (omega arith)
some_more (u ∷ us) h = refl

step_at : (text : List ℕ) (ts xs : List Token) (whole : Option (List Token)) (i : ℕ) (b : Bool) (d : Token) → i < length ts → whole ≡ option_map (λ us. xs ++ us) (before_last text (drop i ts)) → b ≡ is_at Symbol.Semicolon text (get_or ts i d) → b ≡ true → whole ≡ option_map (λ us. xs ++ us) (no_more (drop (i + 1) ts))
step_at text ts xs whole i b d h inv t g =
    inv ∙ ap (λ zs. option_map (λ us. xs ++ us) (before_last text zs)) (drop_more ts i d h) ∙ ap (option_map (λ us. xs ++ us)) (last_at text _ (drop (i + 1) ts) (sym t ∙ g))

pub last_whole : (text : List ℕ) (ts xs : List Token) (whole : Option (List Token)) (i : ℕ) (b : Bool) (d : Token) → length ts ≡ i + 1 → whole ≡ option_map (λ us. xs ++ us) (before_last text (drop i ts)) → b ≡ is_at Symbol.Semicolon text (get_or ts i d) → b ≡ true → Some xs ≡ whole
last_whole text ts xs whole i b d h inv t g =
    sym (step_at text ts xs whole i b d (omega arith) inv t g ∙ ap (option_map (λ us. xs ++ us)) (none_more (drop (i + 1) ts) (omega (arith, length-drop (i + 1) ts))) ∙ ap (λ us. Some us) (append-nil xs))

pub last_early : (text : List ℕ) (ts xs : List Token) (whole : Option (List Token)) (i : ℕ) (b : Bool) (d : Token) → i + 1 < length ts → whole ≡ option_map (λ us. xs ++ us) (before_last text (drop i ts)) → b ≡ is_at Symbol.Semicolon text (get_or ts i d) → b ≡ true → None ≡ whole
last_early text ts xs whole i b d h inv t g =
    sym (step_at text ts xs whole i b d (omega arith) inv t g ∙ ap (option_map (λ us. xs ++ us)) (some_more (drop (i + 1) ts) (omega (arith, length-drop (i + 1) ts))))

one_more : (xs : List Token) (x : Token) (o : Option (List Token)) → option_map (λ us. xs ++ us) (option_map (λ us. x ∷ us) o) ≡ option_map (λ us. (xs ++ x ∷ []) ++ us) o
one_more xs x None = refl
one_more xs x (Some us) = ap (λ ys. Some ys) (sym (append_assoc xs (x ∷ []) us))

pub last_goes : (text : List ℕ) (ts xs ys : List Token) (whole : Option (List Token)) (i : ℕ) (b : Bool) (d : Token) → i < length ts → whole ≡ option_map (λ us. xs ++ us) (before_last text (drop i ts)) → b ≡ is_at Symbol.Semicolon text (get_or ts i d) → b ≡ false → ys ≡ xs ++ get_or ts i d ∷ [] → whole ≡ option_map (λ us. ys ++ us) (before_last text (drop (i + 1) ts))
last_goes text ts xs ys whole i b d h inv t g p =
    inv ∙ ap (λ zs. option_map (λ us. xs ++ us) (before_last text zs)) (drop_more ts i d h) ∙ ap (option_map (λ us. xs ++ us)) (last_not text _ (drop (i + 1) ts) (sym t ∙ g))
    ∙ one_more xs (get_or ts i d) (before_last text (drop (i + 1) ts)) ∙ ap (λ zs. option_map (λ us. zs ++ us) (before_last text (drop (i + 1) ts))) (sym p)

pub last_out : (text : List ℕ) (ts xs : List Token) (whole : Option (List Token)) (i : ℕ) → length ts ≤ i → whole ≡ option_map (λ us. xs ++ us) (before_last text (drop i ts)) → None ≡ whole
unfolding before_last
last_out text ts xs whole i h inv = sym (inv ∙ ap (λ zs. option_map (λ us. xs ++ us) (before_last text zs)) (drop_past i ts h))
