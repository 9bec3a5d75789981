-- A text that is read item by item, against the text whole.
use Rattle.std.proofs.Common.{◌<◌, ◌≤◌, ℕ, List, [], ◌∷◌, ◌++◌, length, refl, sym, ◌∙◌, ap, subst, arith, append_assoc, append-nil, inl, inr}
use Rattle.fzn_lexer.specs.declared.Token.{Token}
use Rattle.fzn_lexer.specs.Lexing.{LexesAs, LexesTo, LacksPiece, FaultsAt as IsNoToken}
use Rattle.fzn_parser.specs.declared.stream.ItemError.{ItemError}
use Rattle.fzn_parser.specs.Parsing.{ItemTree, ReadsAs, FaultsAt as IsNoItem}
use Rattle.fzn_parser.specs.Stream.{IsItemTo, LacksToken as IsStuck}
use Rattle.constraint_model.specs.declared.model.FznModel.{FznModel}
use Rattle.fzn_model.specs.Effects.{Reading}
use Rattle.fzn_model.specs.Resolving.{HasFault, IsModelOf}
use Rattle.fzn_model.specs.Taking.{AreTaken}
use Rattle.model_text.specs.Texts.{most_bytes, no_token, no_item, HasItems, IsTextOf, IsFaultOf}
use Rattle.model_text.specs.Turns.{HasItemsTo, IsTakenTo, IsUnread, LacksItemAt, HasFaultBefore}

-- the lexer's laws
pub record TurnLaws : Type 0 where
  pub nothing : (text : List ℕ) (at : ℕ) → at ≤ length text → LexesTo text at at []
  pub joined : (text : List ℕ) (from at to : ℕ) (ts us : List Token) → LexesTo text from at ts → LexesTo text at to us → LexesTo text from to (ts ++ us)
  pub whole : (text : List ℕ) (ts : List Token) → LexesTo text 0 (length text) ts → LexesAs text ts
  pub fault : (text : List ℕ) (at : ℕ) (ts : List Token) → LexesTo text 0 at ts → LacksPiece text at → IsNoToken text at

reads_append : (text : List ℕ) (items others : List ItemTree) (ts us : List Token) → ReadsAs text ts items → ReadsAs text us others → ReadsAs text (ts ++ us) (items ++ others)
reads_append text [] others ts us r s = subst (λ vs. ReadsAs text (vs ++ us) others) (sym r) s
reads_append text (i ∷ items) others ts us r s =
    (r.0, r.1 ++ us, ap (λ vs. vs ++ us) r.2 ∙ append_assoc r.0 r.1 us, r.3, reads_append text items others r.1 us r.4 s)

module _ (laws : TurnLaws) (text : List ℕ) where
  pub items_none : length text ≤ most_bytes → HasItemsTo text 0 []
  items_none h = record { short = h; tokens = []; lexed = laws.nothing text 0 (omega arith); read = refl }

  pub items_more : (at to : ℕ) (items : List ItemTree) (item : ItemTree) → HasItemsTo text at items → IsItemTo text at to item → HasItemsTo text to (items ++ item ∷ [])
  items_more at to items item b i = record {
    short = b.short;
    tokens = b.tokens ++ i.tokens;
    lexed = laws.joined text 0 at to b.tokens i.tokens b.lexed i.lexed;
    read = reads_append text items (item ∷ []) b.tokens i.tokens b.read (i.tokens, [], sym (append-nil i.tokens), i.read, refl);
  }

  pub items_end : (at : ℕ) (items : List ItemTree) → HasItemsTo text at items → LexesTo text at (length text) [] → HasItemsTo text (length text) items
  items_end at items b l = record {
    short = b.short;
    tokens = b.tokens;
    lexed = subst (λ ts. LexesTo text 0 (length text) ts) (append-nil b.tokens) (laws.joined text 0 at (length text) b.tokens [] b.lexed l);
    read = b.read;
  }

  pub items_out : (at : ℕ) (items : List ItemTree) → length text ≤ at → HasItemsTo text at items → HasItemsTo text (length text) items
  items_out at items h b = subst (λ (n : ℕ). HasItemsTo text n items) (omega (arith, b.lexed.inside)) b

  pub items_whole : (items : List ItemTree) → HasItemsTo text (length text) items → HasItems text items
  items_whole items b = record { tokens = b.tokens; lexed = laws.whole text b.tokens b.lexed; parsed = b.read }

  -- ---- no token begins

  stuck_at : (at place : ℕ) (ts : List Token) → LexesTo text 0 at ts → IsStuck text at place → length text ≤ most_bytes → IsFaultOf text no_token place
  stuck_at at place ts l s h =
      inr (inl (record { short = h; fault = laws.fault text place (ts ++ s.tokens) (laws.joined text 0 at place ts s.tokens l s.lexed) s.stuck; is_kind = refl }))

  pub stuck_first : (place : ℕ) → length text ≤ most_bytes → IsStuck text 0 place → IsFaultOf text no_token place
  stuck_first place h s = stuck_at 0 place [] (laws.nothing text 0 (omega arith)) s h

  pub stuck_behind : (at place : ℕ) (items : List ItemTree) → HasItemsTo text at items → IsStuck text at place → IsFaultOf text no_token place
  stuck_behind at place items b s = stuck_at at place b.tokens b.lexed s b.short

  -- ---- no item begins

  pub stuck_lacking : (at to place : ℕ) → LacksItemAt text at to → IsStuck text to place → IsFaultOf text no_token place
  stuck_lacking at to place w s =
      let front : LexesTo text 0 to (w.before.tokens ++ w.lacks.tokens) = laws.joined text 0 w.place to w.before.tokens w.lacks.tokens w.before.lexed w.lacks.lexed in
      stuck_at to place (w.before.tokens ++ w.lacks.tokens) front s w.before.short

  fault_after : (front more : List Token) (items : List ItemTree) (at : ℕ) → ReadsAs text front items → IsNoItem text more at → IsNoItem text (front ++ more) at
  fault_after front more items at r f = record {
    front = front ++ f.front;
    first = f.first;
    more = f.more;
    cut = ap (λ ts. front ++ ts) f.cut ∙ sym (append_assoc front f.front (f.first ∷ f.more));
    items = items ++ f.items;
    before = reads_append text items f.items front f.front r f.before;
    place = f.place;
    refused = f.refused;
  }

  pub lacking : (at to : ℕ) (more : List Token) → LacksItemAt text at to → LexesTo text to (length text) more → IsFaultOf text no_item at
  lacking at to more w l =
      let rest : LexesTo text w.place (length text) (w.lacks.tokens ++ more) = laws.joined text w.place to (length text) w.lacks.tokens more w.lacks.lexed l in
      let all : LexesTo text 0 (length text) (w.before.tokens ++ (w.lacks.tokens ++ more)) = laws.joined text 0 w.place (length text) w.before.tokens (w.lacks.tokens ++ more) w.before.lexed rest in
      inr (inr (inl (record {
        short = w.before.short;
        tokens = w.before.tokens ++ (w.lacks.tokens ++ more);
        lexed = laws.whole text (w.before.tokens ++ (w.lacks.tokens ++ more)) all;
        fault = fault_after w.before.tokens (w.lacks.tokens ++ more) w.items at w.before.read (w.lacks.fault more l);
        is_kind = refl;
      })))

  -- ---- the items have no model

  pub fault_more : (at to kind place : ℕ) (item : ItemTree) → HasFaultBefore text at kind place → IsItemTo text at to item → HasFaultBefore text to kind place
  fault_more at to kind place item w i = record {
    items = w.items ++ item ∷ [];
    before = items_more at to w.items item w.before i;
    fault = λ more. subst (λ is. HasFault text is kind place) (sym (append_assoc w.items (item ∷ []) more)) (w.fault (item ∷ more));
  }

  fault_whole : (kind place : ℕ) (items : List ItemTree) → HasItemsTo text (length text) items → HasFault text items kind place → IsFaultOf text kind place
  fault_whole kind place items b f = inr (inr (inr (record { short = b.short; items = items; read = items_whole items b; fault = f })))

  pub fault_end : (at kind place : ℕ) → HasFaultBefore text at kind place → LexesTo text at (length text) [] → IsFaultOf text kind place
  fault_end at kind place w l =
      fault_whole kind place w.items (items_end at w.items w.before l) (subst (λ is. HasFault text is kind place) (append-nil w.items) (w.fault []))

  pub fault_out : (at kind place : ℕ) → length text ≤ at → HasFaultBefore text at kind place → IsFaultOf text kind place
  fault_out at kind place h w =
      fault_whole kind place w.items (items_out at w.items h w.before) (subst (λ is. HasFault text is kind place) (append-nil w.items) (w.fault []))

  -- ---- the items that were taken

  pub fault_taken : (at to kind place : ℕ) (item : ItemTree) (r : Reading) (w : IsTakenTo text at r) → IsItemTo text at to item
      → ((more : List ItemTree) → HasFault text (w.items ++ item ∷ more) kind place) → HasFaultBefore text to kind place
  fault_taken at to kind place item r w i f = record {
    items = w.items ++ item ∷ [];
    before = items_more at to w.items item w.before i;
    fault = λ more. subst (λ is. HasFault text is kind place) (sym (append_assoc w.items (item ∷ []) more)) (f more);
  }

  pub taken_more : (at to : ℕ) (item : ItemTree) (r s : Reading) (w : IsTakenTo text at r) → IsItemTo text at to item → AreTaken text (w.items ++ item ∷ []) s → IsTakenTo text to s
  taken_more at to item r s w i t = record { items = w.items ++ item ∷ []; before = items_more at to w.items item w.before i; taken = t }

  pub taken_end : (at : ℕ) (r : Reading) → IsTakenTo text at r → LexesTo text at (length text) [] → IsTakenTo text (length text) r
  taken_end at r w l = record { items = w.items; before = items_end at w.items w.before l; taken = w.taken }

  pub taken_out : (at : ℕ) (r : Reading) → length text ≤ at → IsTakenTo text at r → IsTakenTo text (length text) r
  taken_out at r h w = record { items = w.items; before = items_out at w.items h w.before; taken = w.taken }

  pub model_whole : (r : Reading) (m : FznModel) (w : IsTakenTo text (length text) r) → IsModelOf text w.items m → IsTextOf text m
  model_whole r m w o = record { short = w.before.short; items = w.items; read = items_whole w.items w.before; resolved = o }

  pub fault_finished : (r : Reading) (kind place : ℕ) (w : IsTakenTo text (length text) r) → HasFault text w.items kind place → IsFaultOf text kind place
  fault_finished r kind place w f = fault_whole kind place w.items w.before f

-- ---- tokens passed one by one

abbrev pub Lexed : List ℕ → ℕ → ℕ → Type 0
Lexed text from to = (ts : List Token) × LexesTo text from to ts

pub lexed_on : (laws : TurnLaws) (text : List ℕ) (from at : ℕ) (t : Token) → Lexed text from at → (at < t.to) × LexesTo text at t.to (t ∷ []) → Lexed text from t.to
lexed_on laws text from at t l n = (l.0 ++ t ∷ [], laws.joined text from at t.to l.0 (t ∷ []) l.1 n.1)

pub lexed_end : (laws : TurnLaws) (text : List ℕ) (from at : ℕ) → Lexed text from at → LexesTo text at (length text) [] → Lexed text from (length text)
lexed_end laws text from at l n = (l.0 ++ [], laws.joined text from at (length text) l.0 [] l.1 n)

pub lexed_out : (laws : TurnLaws) (text : List ℕ) (from at : ℕ) → Lexed text from at → length text ≤ at → Lexed text from (length text)
lexed_out laws text from at l h =
    let inside : at ≤ length text = l.1.inside in
    subst (λ (n : ℕ). Lexed text from n) (omega (arith, h, inside)) l

pub stuck_on : (laws : TurnLaws) (text : List ℕ) (from at place : ℕ) → Lexed text from at → LexesTo text at place [] × LacksPiece text place → IsStuck text from place
stuck_on laws text from at place l s = record { tokens = l.0 ++ []; lexed = laws.joined text from at place l.0 [] l.1 s.0; stuck = s.1 }

pub stuck_unread : (laws : TurnLaws) (text : List ℕ) (place : ℕ) → IsUnread text (ItemError.NoToken place) → IsFaultOf text no_token place
stuck_unread laws text place u = stuck_behind laws text u.at place u.items u.before u.cause

pub lacks_unread : (text : List ℕ) (at to : ℕ) → IsUnread text (ItemError.NoItem at to) → LacksItemAt text at to
lacks_unread text at to u = record { place = u.at; items = u.items; before = u.before; lacks = u.cause }
