-- Tokens read as some items, or have a fault.
use Rattle.std.proofs.Common.{◌≡◌, ◌≤◌, ℕ, zero, suc, List, [], ◌∷◌, ◌++◌, length, Bool, true, false, Option, Some, None, ◌⊎◌, inl, inr, refl, sym, ap, ◌∙◌, append_assoc, arith}
use Rattle.fzn_lexer.specs.declared.Token.{Token}
use Rattle.fzn_parser.specs.declared.cursor.Symbol.{Symbol}
use Rattle.fzn_parser.specs.Texts.{is_at, first_stretch}
use Rattle.fzn_parser.specs.Parsing.{ItemTree, ReadsAs, FaultsAt}
use Rattle.fzn_parser.specs.Stretches.{item_at}
use Rattle.fzn_parser.proofs.Stretches.{first_at, first_not}
use Rattle.fzn_parser.proofs.ItemForms.{read_is_written, written_is_read}

-- what is left behind the first stretch
record Cut (text : List ℕ) (first : Token) (others : List Token) : Type 0 where
  more : List Token
  cut : first ∷ others ≡ first_stretch text (first ∷ others) ++ more
  less : length more ≤ length others

cut_after : (text : List ℕ) (first next : Token) (others : List Token) → is_at Symbol.Semicolon text first ≡ false → Cut text next others → Cut text first (next ∷ others)
cut_after text first next others e c = record {
  more = c.more;
  cut = ap (λ ts. first ∷ ts) c.cut ∙ ap (λ ts. ts ++ c.more) (sym (first_not text first (next ∷ others) e));
  less = omega (arith, c.less);
}

cut_end : (text : List ℕ) (first : Token) (others : List Token) → is_at Symbol.Semicolon text first ≡ true → Cut text first others
cut_end text first others e = record { more = others; cut = ap (λ ts. ts ++ others) (sym (first_at text first others e)); less = omega arith }

cut_all : (text : List ℕ) (first : Token) → is_at Symbol.Semicolon text first ≡ false → Cut text first []
unfolding first_stretch
cut_all text first e = record { more = []; cut = ap (λ ts. ts ++ []) (sym (first_not text first [] e)); less = omega arith }

true_or_false : (b : Bool) → (b ≡ true) ⊎ (b ≡ false)
true_or_false true = inl refl
true_or_false false = inr refl

cut_of : (text : List ℕ) (others : List Token) (first : Token) → Cut text first others
cut_of text [] first = elim (true_or_false (is_at Symbol.Semicolon text first)) [ inl e ↦ cut_end text first [] e | inr e ↦ cut_all text first e ]
cut_of text (next ∷ others) first = elim (true_or_false (is_at Symbol.Semicolon text first)) [
  | inl e ↦ cut_end text first (next ∷ others) e
  | inr e ↦ cut_after text first next others e (cut_of text others next)
]

abbrev pub Reading : List ℕ → List Token → Type 0
Reading text tokens = ((items : List ItemTree) × ReadsAs text tokens items) ⊎ ((at : ℕ) × FaultsAt text tokens at)

none_and_some : (i : ItemTree) → None ≡ Some i → ⊥
none_and_some i e = cc

pub fault_here : (text : List ℕ) (first : Token) (others : List Token) → item_at text (first_stretch text (first ∷ others)) ≡ None → FaultsAt text (first ∷ others) first.from
fault_here text first others e = record {
  front = [];
  first = first;
  more = others;
  cut = refl;
  items = [];
  before = refl;
  place = refl;
  refused = λ i s. none_and_some i (sym e ∙ written_is_read text (first_stretch text (first ∷ others)) i s);
}

fault_behind : (text : List ℕ) (tokens stretch more : List Token) (item : ItemTree) (at : ℕ) → tokens ≡ stretch ++ more → item_at text stretch ≡ Some item → FaultsAt text more at → FaultsAt text tokens at
fault_behind text tokens stretch more item at c e f = record {
  front = stretch ++ f.front;
  first = f.first;
  more = f.more;
  cut = c ∙ ap (λ ts. stretch ++ ts) f.cut ∙ sym (append_assoc stretch f.front (f.first ∷ f.more));
  items = item ∷ f.items;
  before = (stretch, f.front, refl, read_is_written text stretch item e, f.before);
  place = f.place;
  refused = f.refused;
}

step : (text : List ℕ) (first : Token) (others more : List Token) (o : Option ItemTree) → item_at text (first_stretch text (first ∷ others)) ≡ o → first ∷ others ≡ first_stretch text (first ∷ others) ++ more → Reading text more → Reading text (first ∷ others)
step text first others more None e c r = inr (first.from, fault_here text first others e)
step text first others more (Some item) e c (inl r) = inl (item ∷ r.0, (first_stretch text (first ∷ others), more, c, read_is_written text _ item e, r.1))
step text first others more (Some item) e c (inr f) = inr (f.0, fault_behind text (first ∷ others) (first_stretch text (first ∷ others)) more item f.0 c e f.1)

reading : (n : ℕ) (text : List ℕ) (tokens : List Token) → length tokens ≤ n → Reading text tokens
reading n text [] h = inl ([], refl)
reading zero text (t ∷ ts) h = absurd (omega arith)
reading (suc n) text (t ∷ ts) h =
    let c = cut_of text ts t in
    step text t ts c.more (item_at text (first_stretch text (t ∷ ts))) refl c.cut (reading n text c.more (omega (arith, c.less)))

pub reads_or_faults : (text : List ℕ) (tokens : List Token) → Reading text tokens
reads_or_faults text tokens = reading (length tokens) text tokens (omega arith)
