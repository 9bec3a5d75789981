-- The items that are read as their tokens are found.
use Rattle.std.proofs.Common.{◌≡◌, ◌≤◌, ℕ, zero, suc, inl, inr, List, [], ◌∷◌, ◌++◌, length, map, true, false, Some, None, refl, sym, ◌∙◌, ap, subst, arith, append_assoc, append-nil}
use Rattle.std.specs.Prelude.{Bool, option_map, option_and_then}
use Rattle.std.proofs.lemmas.List.Elements.{All-append}
use Rattle.fzn_lexer.specs.declared.Kind.{Kind}
use Rattle.fzn_lexer.specs.declared.Token.{Token}
use Rattle.fzn_lexer.specs.Lexing.{IsNext}
use Rattle.fzn_parser.specs.declared.cursor.Symbol.{Symbol}
use Rattle.fzn_parser.specs.declared.cursor.Class.{Class}
use Rattle.fzn_parser.specs.declared.cursor.Lexeme.{Lexeme}
use Rattle.fzn_parser.specs.declared.tree.SetLit.{SetLit}
use Rattle.fzn_parser.specs.declared.tree.Elem.{Elem}
use Rattle.fzn_parser.specs.declared.tree.Expr.{Expr}
use Rattle.fzn_parser.specs.declared.tree.Shape.{Shape}
use Rattle.fzn_parser.specs.declared.stream.Stretch.{Stretch}
use Rattle.fzn_parser.specs.Terminals.{begins, rest, kept_at}
use Rattle.fzn_parser.specs.Reading.{and_then, mapped, set_at}
use Rattle.fzn_parser.specs.Grammar.{further, separated, print_elem, print_expr}
use Rattle.fzn_parser.specs.Notes.{AnnTree, notes_at, notes_more}
use Rattle.fzn_parser.specs.Items.{scalar_item, constraint_item, var_at, var_range_at, shape_at, value_at, name_at, scalar_at, constraint_at, what_at, whole_at, if_end, is_end}
use Rattle.fzn_parser.specs.Texts.{is_at, is_symbol, lexeme_by, lexeme_of, spelling}
use Rattle.fzn_parser.specs.Parsing.{placed_at, max_depth}
use Rattle.fzn_parser.specs.Gathering.{IsGathered}
use Rattle.fzn_parser.specs.Stream.{GoesOn, IsItemTo, IsStretch}
use Rattle.fzn_parser.specs.Plain.{AreLexemes, AreNotes}
use Rattle.fzn_parser.proofs.Inversions.{begins_is}
use Rattle.fzn_parser.proofs.WholeValues.{exprs_whole}
use Rattle.fzn_parser.proofs.Gathered.{TurnLaws, AreGathered, gathered_none, gathered_more, more_than_none, stretch_here, gathered_item}

-- ---- lexemes in turn

pub map_append : {A B : Type 0} (f : A → B) (xs ys : List A) → map f (xs ++ ys) ≡ map f xs ++ map f ys
map_append f [] ys = refl
map_append f (x ∷ xs) ys = ap (λ zs. f x ∷ zs) (map_append f xs ys)

-- no token yet
pub no_lexemes : (text : List ℕ) (laws : TurnLaws text) (from : ℕ) → from ≤ length text → AreLexemes text from from []
no_lexemes text laws from h = record { tokens = []; lexed = laws.nothing from h; goes = λ k d h. absurd (omega arith); same = refl }

-- the first token, which is no semicolon
pub one_lexeme : (text : List ℕ) (from : ℕ) (t : Token) (l : Lexeme) → IsNext text from (Some t) → lexeme_of text t ≡ l → is_symbol Symbol.Semicolon l ≡ false → AreLexemes text from t.to (l ∷ [])
one_lexeme text from t l n e s = record {
  tokens = t ∷ [];
  lexed = n.1;
  goes = All-append (λ t. is_at Symbol.Semicolon text t ≡ false) [] (t ∷ []) (λ k d h. absurd (omega arith)) (only text t (ap (is_symbol Symbol.Semicolon) e ∙ s));
  same = ap (λ m. m ∷ []) e;
}
  where
    only : (text : List ℕ) (t : Token) → is_at Symbol.Semicolon text t ≡ false → GoesOn text (t ∷ [])
    only text t e zero d h = e
    only text t e (suc k) d h = absurd (omega arith)

-- some lexemes and others behind them
pub joined_lexemes : (text : List ℕ) (laws : TurnLaws text) (from at to : ℕ) (ls ms : List Lexeme) → AreLexemes text from at ls → AreLexemes text at to ms → AreLexemes text from to (ls ++ ms)
joined_lexemes text laws from at to ls ms a b = record {
  tokens = a.tokens ++ b.tokens;
  lexed = laws.joined from at to a.tokens b.tokens a.lexed b.lexed;
  goes = All-append (λ t. is_at Symbol.Semicolon text t ≡ false) a.tokens b.tokens a.goes b.goes;
  same = map_append (lexeme_of text) a.tokens b.tokens ∙ (ap (λ xs. xs ++ map (lexeme_of text) b.tokens) a.same ∙ ap (λ ys. ls ++ ys) b.same);
}

-- ---- lists

-- the first of a list of lexemes is a semicolon
abbrev first : List Lexeme → Bool
first [] = false
first (l ∷ ls) = is_symbol Symbol.Semicolon l

-- the entries, each with a comma behind it
abbrev pub with_commas : {A : Type 0} → (A → List Lexeme) → List A → List Lexeme
with_commas print [] = []
with_commas print (x ∷ xs) = print x ++ (Lexeme.Fixed Symbol.Comma ∷ with_commas print xs)

pub commas_more : {A : Type 0} (print : A → List Lexeme) (xs : List A) (x : A) → with_commas print (xs ++ x ∷ []) ≡ with_commas print xs ++ (print x ++ Lexeme.Fixed Symbol.Comma ∷ [])
commas_more print [] x = refl
commas_more print (y ∷ xs) x =
    ap (λ zs. print y ++ (Lexeme.Fixed Symbol.Comma ∷ zs)) (commas_more print xs x)
    ∙ sym (append_assoc (print y) (Lexeme.Fixed Symbol.Comma ∷ with_commas print xs) (print x ++ Lexeme.Fixed Symbol.Comma ∷ []))

further_is : {A : Type 0} (print : A → List Lexeme) (xs : List A) (x : A) → Lexeme.Fixed Symbol.Comma ∷ (with_commas print xs ++ print x) ≡ further print (xs ++ x ∷ [])
further_is print [] x = ap (λ zs. Lexeme.Fixed Symbol.Comma ∷ zs) (sym (append-nil (print x)))
further_is print (y ∷ xs) x =
    ap (λ zs. Lexeme.Fixed Symbol.Comma ∷ zs)
    (append_assoc (print y) (Lexeme.Fixed Symbol.Comma ∷ with_commas print xs) (print x) ∙ ap (λ zs. print y ++ zs) (further_is print xs x))

pub commas_end : {A : Type 0} (print : A → List Lexeme) (xs : List A) (x : A) → with_commas print xs ++ print x ≡ separated print (xs ++ x ∷ [])
commas_end print [] x = sym (append-nil (print x))
commas_end print (y ∷ xs) x =
    append_assoc (print y) (Lexeme.Fixed Symbol.Comma ∷ with_commas print xs) (print x) ∙ ap (λ zs. print y ++ zs) (further_is print xs x)

-- one more entry and the comma behind it
pub entry_more : {A : Type 0} (print : A → List Lexeme) (text : List ℕ) (laws : TurnLaws text) (from at to : ℕ) (xs : List A) (x : A) (comma : Token)
    → AreLexemes text from at (with_commas print xs) → AreLexemes text at to (print x) → IsNext text to (Some comma) → lexeme_of text comma ≡ Lexeme.Fixed Symbol.Comma
    → AreLexemes text from comma.to (with_commas print (xs ++ x ∷ []))
entry_more print text laws from at to xs x comma a b n e =
    subst (AreLexemes text from comma.to) (sym (commas_more print xs x))
    (joined_lexemes text laws from at comma.to _ _ a (joined_lexemes text laws at to comma.to _ _ b (one_lexeme text to comma _ n e refl)))

-- the last entry and the bracket behind it
pub entry_last : {A : Type 0} (print : A → List Lexeme) (text : List ℕ) (laws : TurnLaws text) (from at to : ℕ) (xs : List A) (x : A) (close : Symbol) (end : Token)
    → AreLexemes text from at (with_commas print xs) → AreLexemes text at to (print x) → IsNext text to (Some end) → lexeme_of text end ≡ Lexeme.Fixed close → is_symbol Symbol.Semicolon (Lexeme.Fixed close) ≡ false
    → AreLexemes text from end.to (separated print (xs ++ x ∷ []) ++ Lexeme.Fixed close ∷ [])
entry_last print text laws from at to xs x close end a b n e s =
    subst (λ zs. AreLexemes text from end.to (zs ++ Lexeme.Fixed close ∷ [])) (commas_end print xs x)
    (joined_lexemes text laws from to end.to _ _ (joined_lexemes text laws from at to _ _ a b) (one_lexeme text to end _ n e s))

-- an entry of one token is no semicolon
pub elem_goes : (e : Elem) (l : Lexeme) → print_elem e ≡ l ∷ [] → is_symbol Symbol.Semicolon l ≡ false
elem_goes Elem.True l h = ap first (sym h)
elem_goes Elem.False l h = ap first (sym h)
elem_goes (Elem.Int t) l h = ap first (sym h)
elem_goes (Elem.Float t) l h = ap first (sym h)
elem_goes (Elem.Name t) l h = ap first (sym h)
elem_goes (Elem.Set (SetLit.Range low high)) l h = ap first (sym h)
elem_goes (Elem.Set (SetLit.Braces ts)) l h = ap first (sym h)

pub elem_lexemes : (text : List ℕ) (from : ℕ) (t : Token) (e : Elem) → IsNext text from (Some t) → print_elem e ≡ lexeme_of text t ∷ [] → AreLexemes text from t.to (print_elem e)
elem_lexemes text from t e n h = subst (AreLexemes text from t.to) (sym h) (one_lexeme text from t (lexeme_of text t) n refl (elem_goes e (lexeme_of text t) h))

-- an integer is its lexeme
pub integer_seen : (text : List ℕ) (t : Token) → t.kind ≡ Kind.Int → lexeme_of text t ≡ Lexeme.Kept Class.Int t
unfolding lexeme_of
integer_seen text t e = ap (λ (k : Kind). lexeme_by k (spelling text t) t) e

-- the three tokens of a range
pub range_lexemes : (text : List ℕ) (laws : TurnLaws text) (from : ℕ) (low dots high : Token) → IsNext text from (Some low) → lexeme_of text low ≡ Lexeme.Kept Class.Int low
    → IsNext text low.to (Some dots) → lexeme_of text dots ≡ Lexeme.Fixed Symbol.DotDot → IsNext text dots.to (Some high) → lexeme_of text high ≡ Lexeme.Kept Class.Int high
    → AreLexemes text from high.to (print_elem (Elem.Set (SetLit.Range low high)))
range_lexemes text laws from low dots high l a m b n c =
    joined_lexemes text laws from low.to high.to _ _ (one_lexeme text from low _ l a refl)
    (joined_lexemes text laws low.to dots.to high.to _ _ (one_lexeme text low.to dots _ m b refl) (one_lexeme text dots.to high _ n c refl))

-- an opening bracket and what stands behind it
pub behind_bracket : (text : List ℕ) (laws : TurnLaws text) (from to : ℕ) (opener : Token) (ls : List Lexeme) → IsNext text from (Some opener) → lexeme_of text opener ≡ Lexeme.Fixed Symbol.BracketOpen
    → AreLexemes text opener.to to ls → AreLexemes text from to (Lexeme.Fixed Symbol.BracketOpen ∷ ls)
behind_bracket text laws from to opener ls n e a = joined_lexemes text laws from opener.to to _ ls (one_lexeme text from opener _ n e refl) a

-- ---- annotations and the semicolon

pub no_notes : (text : List ℕ) (laws : TurnLaws text) (from : ℕ) (end : Token) → from ≤ length text → IsNext text from (Some end) → lexeme_of text end ≡ Lexeme.Fixed Symbol.Semicolon
    → AreNotes text from end.to []
unfolding notes_more begins
no_notes text laws from end h n e = record {
  tokens = end ∷ [];
  stretch = stretch_here text from from [] end (gathered_none text from laws h) n (ap (is_symbol Symbol.Semicolon) e);
  read = ap (λ l. notes_at max_depth (l ∷ [])) e;
}

ends_alone : (ls : List Lexeme) → is_end ls ≡ true → ls ≡ []
ends_alone [] e = refl
ends_alone (l ∷ ls) e = cc

pub some_notes : (text : List ℕ) (from : ℕ) (ls ms ns : List Lexeme) (st : Stretch) (notes : List AnnTree) → IsGathered text from ls st → notes_at max_depth ls ≡ Some (notes, ms)
    → begins Symbol.Semicolon ms ≡ true → ns ≡ rest ms → is_end ns ≡ true → AreNotes text from st.to notes
some_notes text from ls ms ns st notes g e b r d = record {
  tokens = g.tokens;
  stretch = g.is_stretch;
  read = ap (notes_at max_depth) (sym g.same) ∙ (e ∙ ap (λ zs. Some (notes, zs)) (begins_is Symbol.Semicolon ms b ∙ ap (λ zs. Lexeme.Fixed Symbol.Semicolon ∷ zs) (sym r ∙ ends_alone ns d)));
}

-- ---- items

-- the token is the first behind `from`, and this lexeme
pub record IsSeen (text : List ℕ) (from : ℕ) (token : Token) (lexeme : Lexeme) : Type 0 where
  pub next : IsNext text from (Some token)
  pub seen : lexeme_of text token ≡ lexeme

-- one more token, which is no semicolon
goes_on : (text : List ℕ) (from at : ℕ) (ts : List Token) (t : Token) (l : Lexeme) → AreGathered text from at ts → IsSeen text at t l → is_symbol Symbol.Semicolon l ≡ false → AreGathered text from t.to (ts ++ t ∷ [])
goes_on text from at ts t l g s e = gathered_more text from at ts t g s.next (ap (is_symbol Symbol.Semicolon) s.seen ∙ e)

-- more lexemes
goes_far : (text : List ℕ) (from at to : ℕ) (t : Token) (ts : List Token) (ls : List Lexeme) → AreGathered text from at (t ∷ ts) → (a : AreLexemes text at to ls) → AreGathered text from to (t ∷ (ts ++ a.tokens))
goes_far text from at to t ts ls g a = record {
  laws = g.laws;
  lexed = g.laws.joined from at to (t ∷ ts) a.tokens g.lexed a.lexed;
  goes = All-append (λ t. is_at Symbol.Semicolon text t ≡ false) (t ∷ ts) a.tokens g.goes a.goes;
  onward = λ some. omega (arith, g.onward (omega arith), a.lexed.rises);
}

-- the rest of the stretch
stretch_far : (text : List ℕ) (from at to : ℕ) (t : Token) (ts us : List Token) → AreGathered text from at (t ∷ ts) → IsStretch text at to us → IsStretch text from to (t ∷ (ts ++ us))
stretch_far text from at to t ts us g s = record {
  lexed = g.laws.joined from at to (t ∷ ts) us g.lexed s.lexed;
  ends = elim s.ends [
    | inl c ↦ inl (record {
      front = t ∷ (ts ++ c.front);
      last = c.last;
      cut = ap (λ zs. t ∷ (ts ++ zs)) c.cut ∙ ap (λ zs. t ∷ zs) (sym (append_assoc ts c.front (c.last ∷ [])));
      goes = All-append (λ t. is_at Symbol.Semicolon text t ≡ false) (t ∷ ts) c.front g.goes c.goes;
      semicolon = c.semicolon;
      place = c.place;
    })
    | inr r ↦ inr (All-append (λ t. is_at Symbol.Semicolon text t ≡ false) (t ∷ ts) us g.goes r.0, r.1)
  ];
  onward = λ some. omega (arith, g.onward (omega arith), s.lexed.rises);
}

-- lexemes whose annotations are read are the item
var_is : (low high name : Token) (ls : List Lexeme) (notes : List AnnTree) → notes_at max_depth ls ≡ Some (notes, Lexeme.Fixed Symbol.Semicolon ∷ [])
    → whole_at max_depth (Lexeme.Fixed Symbol.Var ∷ Lexeme.Kept Class.Int low ∷ Lexeme.Fixed Symbol.DotDot ∷ Lexeme.Kept Class.Int high ∷ Lexeme.Fixed Symbol.Colon ∷ Lexeme.Kept Class.Name name ∷ ls)
    ≡ Some (scalar_item (Shape.VarIn (SetLit.Range low high)) name notes None)
unfolding whole_at what_at begins rest kept_at scalar_at shape_at var_at var_range_at set_at name_at value_at
var_is low high name ls notes e =
    ap (λ o. option_and_then (λ p. if_end p.0 p.1) (and_then o (λ ns os. mapped (λ value. scalar_item (Shape.VarIn (SetLit.Range low high)) name ns value) (value_at true os)))) e

constraint_is : (name : Token) (args : List Expr) (ls : List Lexeme) (notes : List AnnTree) → notes_at max_depth ls ≡ Some (notes, Lexeme.Fixed Symbol.Semicolon ∷ [])
    → whole_at max_depth (Lexeme.Fixed Symbol.Constraint ∷ Lexeme.Kept Class.Name name ∷ Lexeme.Fixed Symbol.ParenOpen ∷ (separated print_expr args ++ Lexeme.Fixed Symbol.ParenClose ∷ ls))
    ≡ Some (constraint_item name args notes)
unfolding whole_at what_at constraint_at begins rest kept_at
constraint_is name args ls notes e =
    ap (λ o. option_and_then (λ p. if_end p.0 p.1) (and_then o (λ xs os. mapped (λ ns. constraint_item name xs ns) (notes_at max_depth os)))) (exprs_whole args ls)
    ∙ ap (λ o. option_and_then (λ p. if_end p.0 p.1) (mapped (λ ns. constraint_item name args ns) o)) e

-- six tokens in turn behind `from`, and what each is
pub record AreSix (text : List ℕ) (from : ℕ) (var low dots high colon name : Token) : Type 0 where
  pub word : IsSeen text from var (Lexeme.Fixed Symbol.Var)
  pub least : IsSeen text var.to low (Lexeme.Kept Class.Int low)
  pub range : IsSeen text low.to dots (Lexeme.Fixed Symbol.DotDot)
  pub most : IsSeen text dots.to high (Lexeme.Kept Class.Int high)
  pub mark : IsSeen text high.to colon (Lexeme.Fixed Symbol.Colon)
  pub named : IsSeen text colon.to name (Lexeme.Kept Class.Name name)

pub var_item : (text : List ℕ) (laws : TurnLaws text) (from to : ℕ) (var low dots high colon name : Token) (notes : List AnnTree) → from ≤ length text → AreSix text from var low dots high colon name
    → AreNotes text name.to to notes → IsItemTo text from to (placed_at var.from (scalar_item (Shape.VarIn (SetLit.Range low high)) name notes None))
unfolding begins
var_item text laws from to var low dots high colon name notes h s n =
    let g0 = gathered_none text from laws h in
    let g1 = goes_on text from from [] var _ g0 s.word refl in
    let g2 = goes_on text from var.to _ low _ g1 s.least refl in
    let g3 = goes_on text from low.to _ dots _ g2 s.range refl in
    let g4 = goes_on text from dots.to _ high _ g3 s.most refl in
    let g5 = goes_on text from high.to _ colon _ g4 s.mark refl in
    let g6 = goes_on text from colon.to _ name _ g5 s.named refl in
    let left = map (lexeme_of text) n.tokens in
    let ls : List Lexeme = Lexeme.Fixed Symbol.Var ∷ Lexeme.Kept Class.Int low ∷ Lexeme.Fixed Symbol.DotDot ∷ Lexeme.Kept Class.Int high ∷ Lexeme.Fixed Symbol.Colon ∷ Lexeme.Kept Class.Name name ∷ left in
    let st : Stretch = record { start = var.from; to = to } in
    let g : IsGathered text from ls st = record {
      tokens = var ∷ low ∷ dots ∷ high ∷ colon ∷ name ∷ n.tokens;
      is_stretch = stretch_far text from name.to to var _ n.tokens g6 n.stretch;
      same = rw (s.word.seen, s.least.seen, s.range.seen, s.most.seen, s.mark.seen, s.named.seen) refl;
      leads = refl;
    } in
    gathered_item text from ls st _ g (more_than_none _) refl (ap (option_map (λ what. placed_at var.from what)) (var_is low high name left notes n.read))

-- three tokens in turn behind `from`, and what each is
pub record AreThree (text : List ℕ) (from : ℕ) (word name opener : Token) : Type 0 where
  pub keyword : IsSeen text from word (Lexeme.Fixed Symbol.Constraint)
  pub named : IsSeen text word.to name (Lexeme.Kept Class.Name name)
  pub mark : IsSeen text name.to opener (Lexeme.Fixed Symbol.ParenOpen)

pub constraint_item_is : (text : List ℕ) (laws : TurnLaws text) (from at to : ℕ) (word name opener : Token) (args : List Expr) (notes : List AnnTree) → from ≤ length text → AreThree text from word name opener
    → AreLexemes text opener.to at (separated print_expr args ++ Lexeme.Fixed Symbol.ParenClose ∷ []) → AreNotes text at to notes → IsItemTo text from to (placed_at word.from (constraint_item name args notes))
unfolding begins
constraint_item_is text laws from at to word name opener args notes h s a n =
    let g0 = gathered_none text from laws h in
    let g1 = goes_on text from from [] word _ g0 s.keyword refl in
    let g2 = goes_on text from word.to _ name _ g1 s.named refl in
    let g3 = goes_on text from name.to _ opener _ g2 s.mark refl in
    let g4 = goes_far text from opener.to at word (name ∷ opener ∷ []) _ g3 a in
    let left = map (lexeme_of text) n.tokens in
    let entries = separated print_expr args in
    let ls : List Lexeme = Lexeme.Fixed Symbol.Constraint ∷ Lexeme.Kept Class.Name name ∷ Lexeme.Fixed Symbol.ParenOpen ∷ (entries ++ Lexeme.Fixed Symbol.ParenClose ∷ left) in
    let st : Stretch = record { start = word.from; to = to } in
    let inner : entries ++ Lexeme.Fixed Symbol.ParenClose ∷ left ≡ map (lexeme_of text) (a.tokens ++ n.tokens)
    = sym (map_append (lexeme_of text) a.tokens n.tokens ∙ (ap (λ zs. zs ++ left) a.same ∙ append_assoc entries (Lexeme.Fixed Symbol.ParenClose ∷ []) left)) in
    let g : IsGathered text from ls st = record {
      tokens = word ∷ name ∷ opener ∷ (a.tokens ++ n.tokens);
      is_stretch = stretch_far text from at to word (name ∷ opener ∷ a.tokens) n.tokens g4 n.stretch;
      same = rw (s.keyword.seen, s.named.seen, s.mark.seen) (ap (λ zs. Lexeme.Fixed Symbol.Constraint ∷ Lexeme.Kept Class.Name name ∷ Lexeme.Fixed Symbol.ParenOpen ∷ zs) inner);
      leads = refl;
    } in
    gathered_item text from ls st _ g (more_than_none _) refl (ap (option_map (λ what. placed_at word.from what)) (constraint_is name args left notes n.read))
