-- A text has at most one model or one fault, and never both.
use Rattle.std.proofs.Common.{◌≡◌, ◌⊎◌, ℕ, List, length, inl, inr, refl, sym, subst, ◌∙◌, arith}
use Rattle.std.proofs.lemmas.Bool.{cases_lt}
use Rattle.fzn_lexer.specs.declared.Token.{Token}
use Rattle.fzn_lexer.specs.Lexing.{LexesAs, FaultsAt as IsNoToken}
use Rattle.fzn_parser.specs.Parsing.{ItemTree, ReadsAs, FaultsAt as IsNoItem}
use Rattle.constraint_model.specs.declared.model.FznModel.{FznModel}
use Rattle.fzn_model.specs.Resolving.{IsModelOf, HasFault, IsRead}
use Rattle.model_text.specs.Texts.{HasItems, IsTextOf, LacksItem, IsFaultOf, most_bytes, no_token as lex_kind, no_item as syntax_kind, too_long}

-- what each step says by itself
pub record StepsAreOne : Type 0 where
  pub lexing : (text : List ℕ) (ts us : List Token) → LexesAs text ts → LexesAs text us → ts ≡ us
  pub lex_fault : (text : List ℕ) (at place : ℕ) → IsNoToken text at → IsNoToken text place → at ≡ place
  pub lex_never : (text : List ℕ) (ts : List Token) (at : ℕ) → LexesAs text ts → IsNoToken text at → ⊥
  pub parsing : (text : List ℕ) (items others : List ItemTree) (tokens : List Token) → ReadsAs text tokens items → ReadsAs text tokens others → items ≡ others
  pub parse_fault : (text : List ℕ) (tokens : List Token) (at place : ℕ) → IsNoItem text tokens at → IsNoItem text tokens place → at ≡ place
  pub parse_never : (text : List ℕ) (tokens : List Token) (items : List ItemTree) (at : ℕ) → ReadsAs text tokens items → IsNoItem text tokens at → ⊥
  pub model : (text : List ℕ) (items : List ItemTree) (m n : FznModel) → IsModelOf text items m → IsModelOf text items n → m ≡ n
  pub fault : (text : List ℕ) (items : List ItemTree) (k l at place : ℕ) → HasFault text items k at → HasFault text items l place → (k ≡ l) × (at ≡ place)
  pub never : (text : List ℕ) (items : List ItemTree) (m : FznModel) (k at : ℕ) → IsModelOf text items m → HasFault text items k at → ⊥

module _ (s : StepsAreOne) (text : List ℕ) where
  -- one list of items
  one_items : (items others : List ItemTree) → HasItems text items → HasItems text others → items ≡ others
  one_items items others h g =
      let same = s.lexing text g.tokens h.tokens g.lexed h.lexed in
      s.parsing text items others h.tokens h.parsed (subst (λ ts. ReadsAs text ts others) same g.parsed)

  no_token : (items : List ItemTree) (at : ℕ) → HasItems text items → IsNoToken text at → ⊥
  no_token items at h f = s.lex_never text h.tokens at h.lexed f

  no_item : (items : List ItemTree) (kind at : ℕ) → HasItems text items → LacksItem text kind at → ⊥
  no_item items kind at h f =
      let same = s.lexing text h.tokens f.tokens h.lexed f.lexed in
      s.parse_never text f.tokens items at (subst (λ ts. ReadsAs text ts items) same h.parsed) f.fault

  pub one_model : (m n : FznModel) → IsTextOf text m → IsTextOf text n → m ≡ n
  one_model m n h g =
      let same = one_items g.items h.items g.read h.read in
      s.model text h.items m n h.resolved (subst (λ is. IsModelOf text is n) same g.resolved)

  pub never_both : (m : FznModel) (k at : ℕ) → IsTextOf text m → IsFaultOf text k at → ⊥
  never_both m k at h (inl f) = let a = h.short in let b = f.long in absurd (omega arith)
  never_both m k at h (inr (inl f)) = no_token h.items at h.read f.fault
  never_both m k at h (inr (inr (inl f))) = no_item h.items k at h.read f
  never_both m k at h (inr (inr (inr f))) =
      s.never text h.items m k at h.resolved (subst (λ is. HasFault text is k at) (one_items f.items h.items f.read h.read) f.fault)

  pub one_fault : (k l at place : ℕ) → IsFaultOf text k at → IsFaultOf text l place → (k ≡ l) × (at ≡ place)
  one_fault k l at place (inl f) (inl g) = (f.is_kind ∙ sym g.is_kind, f.first ∙ sym g.first)
  one_fault k l at place (inl f) (inr (inl g)) = let a = g.short in let b = f.long in absurd (omega arith)
  one_fault k l at place (inl f) (inr (inr (inl g))) = let a = g.short in let b = f.long in absurd (omega arith)
  one_fault k l at place (inl f) (inr (inr (inr g))) = let a = g.short in let b = f.long in absurd (omega arith)
  one_fault k l at place (inr (inl f)) (inl g) = let a = f.short in let b = g.long in absurd (omega arith)
  one_fault k l at place (inr (inl f)) (inr (inl g)) = (f.is_kind ∙ sym g.is_kind, s.lex_fault text at place f.fault g.fault)
  one_fault k l at place (inr (inl f)) (inr (inr (inl g))) = absurd (s.lex_never text g.tokens at g.lexed f.fault)
  one_fault k l at place (inr (inl f)) (inr (inr (inr g))) = absurd (no_token g.items at g.read f.fault)
  one_fault k l at place (inr (inr (inl f))) (inl g) = let a = f.short in let b = g.long in absurd (omega arith)
  one_fault k l at place (inr (inr (inl f))) (inr (inl g)) = absurd (s.lex_never text f.tokens place f.lexed g.fault)
  one_fault k l at place (inr (inr (inl f))) (inr (inr (inl g))) =
      let same = s.lexing text g.tokens f.tokens g.lexed f.lexed in
      (f.is_kind ∙ sym g.is_kind, s.parse_fault text f.tokens at place f.fault (subst (λ ts. IsNoItem text ts place) same g.fault))
  one_fault k l at place (inr (inr (inl f))) (inr (inr (inr g))) = absurd (no_item g.items k at g.read f)
  one_fault k l at place (inr (inr (inr f))) (inl g) = let a = f.short in let b = g.long in absurd (omega arith)
  one_fault k l at place (inr (inr (inr f))) (inr (inl g)) = absurd (no_token f.items place f.read g.fault)
  one_fault k l at place (inr (inr (inr f))) (inr (inr (inl g))) = absurd (no_item f.items l place f.read g)
  one_fault k l at place (inr (inr (inr f))) (inr (inr (inr g))) =
      s.fault text f.items k l at place f.fault (subst (λ is. HasFault text is l place) (one_items g.items f.items g.read f.read) g.fault)

-- a text has a model or a fault, as each step gives something or has a fault
pub some_text : (lexing : (text : List ℕ) → ((ts : List Token) × LexesAs text ts) ⊎ ((at : ℕ) × IsNoToken text at))
    → (parsing : (text : List ℕ) (tokens : List Token) → ((items : List ItemTree) × ReadsAs text tokens items) ⊎ ((at : ℕ) × IsNoItem text tokens at))
    → (reading : (text : List ℕ) (items : List ItemTree) → IsRead text items)
    → (text : List ℕ) → ((model : FznModel) × IsTextOf text model) ⊎ ((kind : ℕ) × ((at : ℕ) × IsFaultOf text kind at))
some_text lexing parsing reading text = elim (cases_lt most_bytes (length text)) [
  | inl long ↦ inr (too_long, (0, inl (record { long = long; is_kind = refl; first = refl })))
  | inr short ↦ elim (lexing text) [
    | inr fault ↦ inr (lex_kind, (fault.0, inr (inl (record { short = short; fault = fault.1; is_kind = refl }))))
    | inl lexed ↦ elim (parsing text lexed.0) [
      | inr fault ↦ inr (syntax_kind, (fault.0, inr (inr (inl (record { short = short; tokens = lexed.0; lexed = lexed.1; fault = fault.1; is_kind = refl })))))
      | inl parsed ↦
          let read : HasItems text parsed.0 = record { tokens = lexed.0; lexed = lexed.1; parsed = parsed.1 } in
          elim (reading text parsed.0) [
            | inl model ↦ inl (model.model, record { short = short; items = parsed.0; read = read; resolved = model.is_model })
            | inr refused ↦ inr (refused.kind, (refused.at, inr (inr (inr (record { short = short; items = parsed.0; read = read; fault = refused.fault })))))
          ]
    ]
  ]
]
