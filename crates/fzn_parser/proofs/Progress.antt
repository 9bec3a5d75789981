-- The turns of the loop over stretches.
use Rattle.std.proofs.Common.{◌≡◌, ◌+◌, ◌-◌, ◌<◌, ℕ, List, [], ◌∷◌, ◌++◌, length, Some, None, take, drop, slice_index_or, refl, sym, ap, ◌∙◌, append_assoc, append-nil, subst, arith, length-drop}
use Rattle.fzn_lexer.specs.declared.Token.{Token}
use Rattle.fzn_parser.specs.Texts.{first_stretch}
use Rattle.fzn_parser.specs.Parsing.{ItemTree, ReadsAsItem, ReadsAs, FaultsAt}
use Rattle.fzn_parser.specs.Stretches.{item_at}
use Rattle.fzn_parser.proofs.ItemForms.{read_is_written, written_is_read}
use Rattle.fzn_parser.proofs.Whole.{take_drop_same, drop_sum, take_rest}

-- these items were read of the tokens before those that are left
pub record ReadBefore (text : List ℕ) (tokens left : List Token) (items : List ItemTree) : Type 0 where
  pub front : List Token
  pub cut : tokens ≡ front ++ left
  pub before : ReadsAs text front items

one_more : (text : List ℕ) (items : List ItemTree) (item : ItemTree) (front stretch : List Token) → ReadsAs text front items → ReadsAsItem text stretch item → ReadsAs text (front ++ stretch) (items ++ item ∷ [])
one_more text [] item front stretch r s = (stretch, [], ap (λ ts. ts ++ stretch) r ∙ sym (append-nil stretch), s, refl)
one_more text (i ∷ items) item front stretch r s = (r.0, r.1 ++ stretch, ap (λ ts. ts ++ stretch) r.2 ∙ append_assoc r.0 r.1 stretch, r.3, one_more text items item r.1 stretch r.4 s)

pub read_on : (text : List ℕ) (tokens stretch : List Token) (items : List ItemTree) (item : ItemTree) (start len : ℕ) → ReadBefore text tokens (drop start tokens) items → stretch ≡ take len (drop start tokens) → item_at text stretch ≡ Some item → ReadBefore text tokens (drop (start + len) tokens) (items ++ item ∷ [])
read_on text tokens stretch items item start len r e f =
    let cut : drop start tokens ≡ stretch ++ drop (start + len) tokens =
    take_drop_same len (drop start tokens) ∙ ap (λ ts. ts ++ drop len (drop start tokens)) (sym e) ∙ ap (λ ts. stretch ++ ts) (sym (drop_sum start len tokens)) in
    record {
      front = r.front ++ stretch;
      cut = r.cut ∙ ap (λ ts. r.front ++ ts) cut ∙ sym (append_assoc r.front stretch (drop (start + len) tokens));
      before = one_more text items item r.front stretch r.before (read_is_written text stretch item f);
    }

none_and_some : (i : ItemTree) → None ≡ Some i → ⊥
none_and_some i e = cc

read_faults : (text : List ℕ) (tokens left : List Token) (items : List ItemTree) (first : Token) (more : List Token) → ReadBefore text tokens left items → left ≡ first ∷ more → item_at text (first_stretch text left) ≡ None → FaultsAt text tokens first.from
read_faults text tokens left items first more r e f =
    record {
      front = r.front;
      first = first;
      more = more;
      cut = r.cut ∙ ap (λ ts. r.front ++ ts) e;
      items = items;
      before = r.before;
      place = refl;
      refused = λ i s. none_and_some i (sym f ∙ ap (λ ts. item_at text (first_stretch text ts)) e ∙ written_is_read text (first_stretch text (first ∷ more)) i s);
    }

pub first_of : (xs : List Token) (d : Token) → 0 < length xs → xs ≡ slice_index_or xs 0 d ∷ drop 1 xs
first_of [] d h = absurd (omega arith)
first_of (x ∷ xs) d h = refl

pub read_fault : (text : List ℕ) (tokens stretch : List Token) (items : List ItemTree) (start : ℕ) (d : Token) → ReadBefore text tokens (drop start tokens) items → start < length tokens → stretch ≡ first_stretch text (take (length tokens - start) (drop start tokens)) → item_at text stretch ≡ None → FaultsAt text tokens (slice_index_or (take (length tokens - start) (drop start tokens)) 0 d).from
read_fault text tokens stretch items start d r h e f =
    let left = take (length tokens - start) (drop start tokens) in
    let same : left ≡ drop start tokens = take_rest start tokens in
    let Before : List Token → Type 0 = λ ts. ReadBefore text tokens ts items in
    let some : 0 < length left = omega (arith, ap length same, length-drop start tokens) in
    read_faults text tokens left items (slice_index_or left 0 d) (drop 1 left) (subst Before (sym same) r) (first_of left d some) (ap (item_at text) (sym e) ∙ f)
