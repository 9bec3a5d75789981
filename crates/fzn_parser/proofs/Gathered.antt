-- The tokens of a stretch, gathered one by one.
use Rattle.std.proofs.Common.{◌≡◌, ◌<◌, ◌≤◌, ℕ, List, [], ◌∷◌, ◌++◌, length, map, true, false, Option, Some, None, inl, inr, zero, suc, refl, sym, ◌∙◌, ap, subst, arith, append_assoc, append-nil, true≢false}
use Rattle.std.specs.Prelude.{slice_index_or, drop}
use Rattle.std.specs.Prelude.{Bool, ◌==◌, cond, option_map}
use Rattle.std.proofs.lemmas.Bool.Decides.{nat_tests}
use Rattle.std.proofs.lemmas.List.{length-map}
use Rattle.std.proofs.lemmas.List.Elements.{All-push}
use Rattle.fzn_lexer.specs.declared.Kind.{Kind}
use Rattle.fzn_lexer.specs.declared.Token.{Token}
use Rattle.fzn_lexer.specs.Lexing.{LexesTo, LacksToken as IsStuck}
use Rattle.fzn_parser.specs.declared.cursor.Symbol.{Symbol}
use Rattle.fzn_parser.specs.declared.cursor.Lexeme.{Lexeme}
use Rattle.fzn_parser.specs.Texts.{is_at, lexeme_of, first_stretch}
use Rattle.fzn_parser.specs.Parsing.{ItemTree, FaultsAt, BeginsAt, placed_at, max_depth}
use Rattle.fzn_parser.specs.Items.{WhatTree, whole_at}
use Rattle.fzn_parser.specs.Terminals.{begins}
use Rattle.fzn_parser.specs.declared.stream.Stretch.{Stretch}
use Rattle.fzn_parser.specs.Gathering.{LeadsIn, IsGathered}
use Rattle.fzn_parser.specs.Stretches.{item_at}
use Rattle.fzn_parser.specs.Stream.{GoesOn, ClosesAt, IsStretch, IsItemTo, LacksItem, LacksToken, RunsOnTo, LacksNext}
use Rattle.fzn_parser.proofs.Trees.{map_push}
use Rattle.fzn_parser.proofs.Stretches.{first_at, first_not}
use Rattle.fzn_parser.proofs.Existing.{fault_here}
use Rattle.fzn_parser.proofs.Progress.{first_of}
use Rattle.fzn_parser.proofs.Whole.{begins_first, item_other}
use Rattle.fzn_parser.proofs.ItemForms.{read_is_written, written_is_read}

-- the lexer's laws of a text
pub record TurnLaws (text : List ℕ) : Type 0 where
  pub nothing : (at : ℕ) → at ≤ length text → LexesTo text at at []
  pub joined : (from at to : ℕ) (ts us : List Token) → LexesTo text from at ts → LexesTo text at to us → LexesTo text from to (ts ++ us)
  pub one_rest : (from : ℕ) (ts us : List Token) → LexesTo text from (length text) ts → LexesTo text from (length text) us → ts ≡ us

-- these tokens stand behind `from`, up to `at`, and no semicolon is among them
pub record AreGathered (text : List ℕ) (from at : ℕ) (tokens : List Token) : Type 0 where
  pub laws : TurnLaws text
  pub lexed : LexesTo text from at tokens
  pub goes : GoesOn text tokens
  pub onward : 0 < length tokens → from < at

pub gathered_none : (text : List ℕ) (from : ℕ) (laws : TurnLaws text) → from ≤ length text → AreGathered text from from []
gathered_none text from laws h = record { laws = laws; lexed = laws.nothing from h; goes = λ k d h. absurd (omega arith); onward = λ n. absurd (omega arith) }

pub gathered_more : (text : List ℕ) (from at : ℕ) (ts : List Token) (t : Token) → AreGathered text from at ts
    → (at < t.to) × LexesTo text at t.to (t ∷ []) → is_at Symbol.Semicolon text t ≡ false → AreGathered text from t.to (ts ++ t ∷ [])
gathered_more text from at ts t g n e = record {
  laws = g.laws;
  lexed = g.laws.joined from at t.to ts (t ∷ []) g.lexed n.1;
  goes = All-push (λ t. is_at Symbol.Semicolon text t ≡ false) ts t g.goes e;
  onward = λ some. omega (arith, n.0, g.lexed.rises);
}

-- the stretch ends with a semicolon
pub stretch_here : (text : List ℕ) (from at : ℕ) (ts : List Token) (t : Token) → AreGathered text from at ts
    → (at < t.to) × LexesTo text at t.to (t ∷ []) → is_at Symbol.Semicolon text t ≡ true → IsStretch text from t.to (ts ++ t ∷ [])
stretch_here text from at ts t g n e = record {
  lexed = g.laws.joined from at t.to ts (t ∷ []) g.lexed n.1;
  ends = inl (record { front = ts; last = t; cut = refl; goes = g.goes; semicolon = e; place = refl });
  onward = λ some. omega (arith, n.0, g.lexed.rises);
}

-- the stretch ends with the text
pub stretch_end : (text : List ℕ) (from at : ℕ) (ts : List Token) → AreGathered text from at ts → LexesTo text at (length text) []
    → IsStretch text from (length text) ts
stretch_end text from at ts g n =
    let lexed : LexesTo text from (length text) ts = subst (λ (us : List Token). LexesTo text from (length text) us) (append-nil ts) (g.laws.joined from at (length text) ts [] g.lexed n) in
    record {
      lexed = lexed;
      ends = inr (g.goes, refl);
      onward = λ some. omega (arith, g.onward some, g.lexed.inside);
    }

pub stretch_out : (text : List ℕ) (from at : ℕ) (ts : List Token) → AreGathered text from at ts → length text ≤ at → IsStretch text from at ts
stretch_out text from at ts g h =
    let end : at ≡ length text = omega (arith, g.lexed.inside) in
    subst (λ (n : ℕ). IsStretch text from n ts) (sym end)
    (stretch_end text from at ts g (subst (λ (n : ℕ). LexesTo text n (length text) []) (sym end) (g.laws.nothing (length text) (omega arith))))

-- no token begins behind what was gathered
pub stuck_behind : (text : List ℕ) (from at place : ℕ) (ts : List Token) → AreGathered text from at ts → IsStuck text at place
    → LacksToken text from place
stuck_behind text from at place ts g s = record {
  tokens = ts;
  lexed = subst (λ (us : List Token). LexesTo text from place us) (append-nil ts) (g.laws.joined from at place ts [] g.lexed s.0);
  stuck = s.1;
}

pub stuck_next : (text : List ℕ) (from at place : ℕ) (ts : List Token) → AreGathered text from at ts → IsStuck text at place
    → RunsOnTo text from place
stuck_next text from at place ts g s = record {
  tokens = ts;
  lexed = subst (λ (us : List Token). LexesTo text from place us) (append-nil ts) (g.laws.joined from at place ts [] g.lexed s.0);
  goes = g.goes;
}

-- the first stretch of a text's tokens
first_all : (text : List ℕ) (ts more : List Token) → GoesOn text ts → first_stretch text (ts ++ more) ≡ ts ++ first_stretch text more
first_all text [] more g = refl
first_all text (t ∷ ts) more g = first_not text t (ts ++ more) (g 0 t (omega arith)) ∙ ap (λ us. t ∷ us) (first_all text ts more (λ k d h. g (suc k) d (omega arith)))

first_closed : (text : List ℕ) (to : ℕ) (ts more : List Token) → ClosesAt text to ts → first_stretch text (ts ++ more) ≡ ts
first_closed text to ts more c =
    ap (λ us. first_stretch text (us ++ more)) c.cut ∙ (ap (first_stretch text) (append_assoc c.front (c.last ∷ []) more)
    ∙ (first_all text c.front (c.last ∷ more) c.goes ∙ (ap (λ us. c.front ++ us) (first_at text c.last more c.semicolon) ∙ sym c.cut)))

ends_all : (text : List ℕ) → first_stretch text [] ≡ []
unfolding first_stretch
ends_all text = refl

first_out : (text : List ℕ) (ts : List Token) → GoesOn text ts → first_stretch text (ts ++ []) ≡ ts
first_out text ts g = first_all text ts [] g ∙ (ap (λ us. ts ++ us) (ends_all text) ∙ append-nil ts)

pub first_of_all : (text : List ℕ) (laws : TurnLaws text) (from to : ℕ) (ts more : List Token) → IsStretch text from to ts → LexesTo text to (length text) more
    → first_stretch text (ts ++ more) ≡ ts
first_of_all text laws from to ts more s rest = elim s.ends [
  | inl c ↦ first_closed text to ts more c
  | inr r ↦
      let here : LexesTo text (length text) (length text) more = subst (λ (n : ℕ). LexesTo text n (length text) more) r.1 rest in
      let none : more ≡ [] = laws.one_rest (length text) more [] here (laws.nothing (length text) (omega arith)) in
      ap (λ us. first_stretch text (ts ++ us)) none ∙ first_out text ts r.0
]

no_push : (ts : List Token) (t : Token) → ts ++ t ∷ [] ≡ [] → ⊥
no_push [] t e = cc
no_push (u ∷ ts) t e = cc

-- what a stretch is read as
pub none_left : (text : List ℕ) (from to : ℕ) (ts : List Token) → IsStretch text from to ts → ts ≡ [] → LexesTo text from (length text) []
none_left text from to ts s e =
    let end : to ≡ length text = elim s.ends [ inl c ↦ absurd (no_push c.front c.last (sym c.cut ∙ e)) | inr r ↦ r.1 ] in
    subst (λ (n : ℕ). LexesTo text from n []) end (subst (λ (us : List Token). LexesTo text from to us) e s.lexed)

pub item_to : (text : List ℕ) (from to : ℕ) (ts : List Token) (item : ItemTree) → IsStretch text from to ts → 0 < length ts → item_at text ts ≡ Some item → IsItemTo text from to item
item_to text from to ts item s h e = record { onward = s.onward h; tokens = ts; lexed = s.lexed; read = read_is_written text ts item e }

pub lacks_item : (text : List ℕ) (laws : TurnLaws text) (from to : ℕ) (ts : List Token) (d : Token) → IsStretch text from to ts → 0 < length ts → item_at text ts ≡ None
    → LacksItem text from (slice_index_or ts 0 d).from to
lacks_item text laws from to ts d s h e =
    let first : ts ≡ slice_index_or ts 0 d ∷ drop 1 ts = first_of ts d h in
    record {
      tokens = ts;
      lexed = s.lexed;
      fault = λ more rest.
          let whole : slice_index_or ts 0 d ∷ (drop 1 ts ++ more) ≡ ts ++ more = sym (ap (λ us. us ++ more) first) in
          let none : item_at text (first_stretch text (slice_index_or ts 0 d ∷ (drop 1 ts ++ more))) ≡ None
          = ap (λ us. item_at text (first_stretch text us)) whole ∙ (ap (item_at text) (first_of_all text laws from to ts more s rest) ∙ e) in
          subst (λ (us : List Token). FaultsAt text us (slice_index_or ts 0 d).from) whole (fault_here text (slice_index_or ts 0 d) (drop 1 ts ++ more) none);
    }

none_and_some : (item : ItemTree) → None ≡ Some item → ⊥
none_and_some item e = cc

pub lacks_next : (text : List ℕ) (from to : ℕ) (ts : List Token) (d : Token) → IsStretch text from to ts → 0 < length ts → item_at text ts ≡ None
    → LacksNext text from (slice_index_or ts 0 d).from to
lacks_next text from to ts d s h e = record {
  tokens = ts;
  stretch = s;
  first = subst (BeginsAt (slice_index_or ts 0 d).from) (sym (first_of ts d h)) refl;
  refused = λ item r. none_and_some item (sym e ∙ written_is_read text ts item r);
}

-- ---- lexemes in place of the tokens

-- these are the lexemes of tokens that stand behind `from`, up to `at`; no semicolon is among them
pub record HaveLexemes (text : List ℕ) (from at : ℕ) (lexemes : List Lexeme) (start : ℕ) : Type 0 where
  pub tokens : List Token
  pub gathered : AreGathered text from at tokens
  pub same : lexemes ≡ map (lexeme_of text) tokens
  pub leads : LeadsIn start tokens

pub lexemes_none : (text : List ℕ) (from : ℕ) (start : ℕ) (laws : TurnLaws text) → from ≤ length text → HaveLexemes text from from [] start
lexemes_none text from start laws h = record { tokens = []; gathered = gathered_none text from laws h; same = refl; leads = tt }

pub more_than_none : (n : ℕ) → (suc n == 0) ≡ false
more_than_none n = grind (arith, nat_tests)

leads_more : (start : ℕ) (t : Token) (ts : List Token) (none : Bool) → none ≡ (length ts == 0) → LeadsIn start ts → LeadsIn (cond none t.from start) (ts ++ t ∷ [])
leads_more start t [] none e l = ap (λ (b : Bool). cond b t.from start) e
leads_more start t (u ∷ us) none e l = ap (λ (b : Bool). cond b t.from start) (e ∙ more_than_none (length us)) ∙ l

leads_on : (text : List ℕ) (from at : ℕ) (ls : List Lexeme) (start : ℕ) (t : Token) (none : Bool) (h : HaveLexemes text from at ls start) → none ≡ (length ls == 0)
    → LeadsIn (cond none t.from start) (h.tokens ++ t ∷ [])
leads_on text from at ls start t none h e =
    leads_more start t h.tokens none (e ∙ ap (λ (n : ℕ). n == 0) (ap length h.same ∙ length-map h.tokens (lexeme_of text))) h.leads

pushed : (text : List ℕ) (ts : List Token) (ls : List Lexeme) (t : Token) → ls ≡ map (lexeme_of text) ts → ls ++ lexeme_of text t ∷ [] ≡ map (lexeme_of text) (ts ++ t ∷ [])
pushed text ts ls t e = ap (λ ms. ms ++ lexeme_of text t ∷ []) e ∙ sym (map_push (lexeme_of text) ts t)

pub lexemes_more : (text : List ℕ) (from at : ℕ) (ls : List Lexeme) (start : ℕ) (t : Token) (none : Bool) → HaveLexemes text from at ls start → none ≡ (length ls == 0)
    → (at < t.to) × LexesTo text at t.to (t ∷ []) → is_at Symbol.Semicolon text t ≡ false → HaveLexemes text from t.to (ls ++ lexeme_of text t ∷ []) (cond none t.from start)
lexemes_more text from at ls start t none h e n s = record {
  tokens = h.tokens ++ t ∷ [];
  gathered = gathered_more text from at h.tokens t h.gathered n s;
  same = pushed text h.tokens ls t h.same;
  leads = leads_on text from at ls start t none h e;
}

pub lexemes_here : (text : List ℕ) (from at : ℕ) (ls : List Lexeme) (start : ℕ) (t : Token) (none : Bool) → HaveLexemes text from at ls start → none ≡ (length ls == 0)
    → (at < t.to) × LexesTo text at t.to (t ∷ []) → is_at Symbol.Semicolon text t ≡ true → IsGathered text from (ls ++ lexeme_of text t ∷ []) (record { start = cond none t.from start; to = t.to })
lexemes_here text from at ls start t none h e n s = record {
  tokens = h.tokens ++ t ∷ [];
  is_stretch = stretch_here text from at h.tokens t h.gathered n s;
  same = pushed text h.tokens ls t h.same;
  leads = leads_on text from at ls start t none h e;
}

pub lexemes_end : (text : List ℕ) (from at : ℕ) (ls : List Lexeme) (start : ℕ) → HaveLexemes text from at ls start → LexesTo text at (length text) []
    → IsGathered text from ls (record { start = start; to = length text })
lexemes_end text from at ls start h n = record { tokens = h.tokens; is_stretch = stretch_end text from at h.tokens h.gathered n; same = h.same; leads = h.leads }

pub lexemes_out : (text : List ℕ) (from at : ℕ) (ls : List Lexeme) (start : ℕ) → HaveLexemes text from at ls start → length text ≤ at
    → IsGathered text from ls (record { start = start; to = at })
lexemes_out text from at ls start h n = record { tokens = h.tokens; is_stretch = stretch_out text from at h.tokens h.gathered n; same = h.same; leads = h.leads }

-- what the lexemes of a stretch are read as
item_is : (text : List ℕ) (start : ℕ) (ts : List Token) (ls : List Lexeme) → ls ≡ map (lexeme_of text) ts → LeadsIn start ts → 0 < length ts → begins Symbol.Predicate ls ≡ false
    → item_at text ts ≡ option_map (λ what. placed_at start what) (whole_at max_depth ls)
item_is text start [] ls e l h b = absurd (omega arith)
item_is text start (t ∷ ts) ls e l h b =
    let other : is_at Symbol.Predicate text t ≡ false = begins_first Symbol.Predicate text t (t ∷ ts) ts ls refl e ∙ b in
    item_other text t (t ∷ ts) ts ls (whole_at max_depth ls) other refl e refl
    ∙ ap (λ (n : ℕ). option_map (λ what. placed_at n what) (whole_at max_depth ls)) (sym l)

start_is : (start : ℕ) (d : Token) (ts : List Token) → LeadsIn start ts → 0 < length ts → (slice_index_or ts 0 d).from ≡ start
start_is start d [] l h = absurd (omega arith)
start_is start d (t ∷ ts) l h = sym l

-- the place of an empty stretch's first token, which no stretch here is
abbrev no_token : Token
no_token = record { kind = Kind.Word; from = 0; to = 0 }

some_tokens : (text : List ℕ) (from : ℕ) (ls : List Lexeme) (st : Stretch) (g : IsGathered text from ls st) → (length ls == 0) ≡ false → 0 < length g.tokens
some_tokens text from ls st g h =
    let same : length ls ≡ length g.tokens = ap length g.same ∙ length-map g.tokens (lexeme_of text) in
    let some : 0 < length ls = by (length ls) h in
    omega (arith, same, some)
  where
    by : (n : ℕ) → (n == 0) ≡ false → 0 < n
    by zero e = absurd (true≢false e)
    by (suc n) e = omega arith

pub gathered_item : (text : List ℕ) (from : ℕ) (ls : List Lexeme) (st : Stretch) (item : ItemTree) → IsGathered text from ls st → (length ls == 0) ≡ false → begins Symbol.Predicate ls ≡ false
    → option_map (λ what. placed_at st.start what) (whole_at max_depth ls) ≡ Some item → IsItemTo text from st.to item
gathered_item text from ls st item g h b e =
    item_to text from st.to g.tokens item g.is_stretch (some_tokens text from ls st g h)
    (item_is text st.start g.tokens ls g.same g.leads (some_tokens text from ls st g h) b ∙ e)

no_item : (text : List ℕ) (from : ℕ) (ls : List Lexeme) (st : Stretch) (g : IsGathered text from ls st) → (length ls == 0) ≡ false → begins Symbol.Predicate ls ≡ false
    → whole_at max_depth ls ≡ None → item_at text g.tokens ≡ None
no_item text from ls st g h b e =
    item_is text st.start g.tokens ls g.same g.leads (some_tokens text from ls st g h) b ∙ ap (λ (o : Option WhatTree). option_map (λ what. placed_at st.start what) o) e

pub gathered_lacks : (text : List ℕ) (laws : TurnLaws text) (from : ℕ) (ls : List Lexeme) (st : Stretch) → IsGathered text from ls st → (length ls == 0) ≡ false → begins Symbol.Predicate ls ≡ false
    → whole_at max_depth ls ≡ None → LacksItem text from st.start st.to
gathered_lacks text laws from ls st g h b e =
    subst (λ (n : ℕ). LacksItem text from n st.to) (start_is st.start no_token g.tokens g.leads (some_tokens text from ls st g h))
    (lacks_item text laws from st.to g.tokens no_token g.is_stretch (some_tokens text from ls st g h) (no_item text from ls st g h b e))

pub gathered_lacks_next : (text : List ℕ) (from : ℕ) (ls : List Lexeme) (st : Stretch) → IsGathered text from ls st → (length ls == 0) ≡ false → begins Symbol.Predicate ls ≡ false
    → whole_at max_depth ls ≡ None → LacksNext text from st.start st.to
gathered_lacks_next text from ls st g h b e =
    subst (λ (n : ℕ). LacksNext text from n st.to) (start_is st.start no_token g.tokens g.leads (some_tokens text from ls st g h))
    (lacks_next text from st.to g.tokens no_token g.is_stretch (some_tokens text from ls st g h) (no_item text from ls st g h b e))
