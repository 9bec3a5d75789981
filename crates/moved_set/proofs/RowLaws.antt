-- Rows of the numbers that have a key.
use Rattle.std.proofs.Common.{◌≡◌, ◌≢◌, ℕ, ◌+◌, ◌*◌, ◌<◌, ◌≤◌, List, [], ◌∷◌, ◌++◌, length, get_or, set, refl, sym, ◌∙◌, ap, subst, ⊎_elim, arith, inl, inr, ◌⊎◌}
use Rattle.std.specs.Prelude.{Vec, All, Contains}
use Rattle.std.specs.declared.alloc.Global.{Global}
use Rattle.std.proofs.lemmas.Bool.{cases_eq, cases_lt}
use Rattle.std.proofs.lemmas.Grind.{get_or-set_at}
use Rattle.std.proofs.lemmas.List.{length_push, length-set, get_or-map, get_or_append_left, get_or_push, get_or-set_other}
use Rattle.std.proofs.lemmas.List.Elements.{Contains-get_or, Contains-push, Contains-push_cases, Contains-append_left}
use Rattle.moved_set.specs.Rows.{PutsOnce, row_at, IsRowTo, AreRowsTo}

pub none_of : (x : ℕ) → Contains [] x → ⊥
none_of x c = let lt = c.1 in omega arith

-- the row at a place, by any default
pub row_is : (rows : List (Vec ℕ Global)) (k : ℕ) (d : Vec ℕ Global) → k < length rows → row_at rows k ≡ (get_or rows k d).items
row_is rows k d h = get_or-map (λ (row : Vec ℕ Global). row.items) rows k d [] h

-- the row that the code lends
pub row_lent : (rows : List (Vec ℕ Global)) (k : ℕ) (row : Vec ℕ Global) (lent : List ℕ) → k < length rows → row ≡ get_or rows k row → lent ≡ row.items → lent ≡ row_at rows k
row_lent rows k row lent h is same = same ∙ ap (λ (r : Vec ℕ Global). r.items) is ∙ sym (row_is rows k row h)

-- ---- one row

-- the row also has the next number, if its key is among these
abbrev pub IsRowWith : (ℕ → List ℕ) → ℕ → List ℕ → ℕ → List ℕ → Type 0
IsRowWith keys to some key row =
    (j : ℕ) → (Contains row j → ((j < to) × Contains (keys j) key) ⊎ ((j ≡ to) × Contains some key)) × (((j < to) × Contains (keys j) key) ⊎ ((j ≡ to) × Contains some key) → Contains row j)

with_none : (keys : ℕ → List ℕ) (to key : ℕ) (row : List ℕ) → IsRowTo keys to key row → IsRowWith keys to [] key row
with_none keys to key row is j = (
  λ c. inl ((is j).0 c),
  λ s. elim s [
    | inl p ↦ (is j).1 p
    | inr p ↦ absurd (none_of key p.1)
  ],
)

with_put : (keys : ℕ → List ℕ) (to : ℕ) (some : List ℕ) (w key : ℕ) (row : List ℕ) → w ≡ key → IsRowWith keys to some key row → IsRowWith keys to (some ++ w ∷ []) key (row ++ to ∷ [])
with_put keys to some w key row same is j = (
  λ c. elim (Contains-push_cases row to j c) [
    | inl before ↦ elim ((is j).0 before) [
      | inl p ↦ inl p
      | inr p ↦ inr (p.0, Contains-append_left some (w ∷ []) key p.1)
    ]
    | inr here ↦ inr (sym here, subst (Contains (some ++ w ∷ [])) same (Contains-push some w))
  ],
  λ s. elim s [
    | inl p ↦ Contains-append_left row (to ∷ []) j ((is j).1 (inl p))
    | inr p ↦ subst (Contains (row ++ to ∷ [])) (sym p.0) (Contains-push row to)
  ],
)

with_kept : (keys : ℕ → List ℕ) (to : ℕ) (some : List ℕ) (w key : ℕ) (row : List ℕ) → w ≡ key → Contains row to → IsRowWith keys to some key row → IsRowWith keys to (some ++ w ∷ []) key row
with_kept keys to some w key row same there is j = (
  λ c. elim ((is j).0 c) [
    | inl p ↦ inl p
    | inr p ↦ inr (p.0, Contains-append_left some (w ∷ []) key p.1)
  ],
  λ s. elim s [
    | inl p ↦ (is j).1 (inl p)
    | inr p ↦ subst (Contains row) (sym p.0) there
  ],
)

with_other : (keys : ℕ → List ℕ) (to : ℕ) (some : List ℕ) (w key : ℕ) (row : List ℕ) → w ≢ key → IsRowWith keys to some key row → IsRowWith keys to (some ++ w ∷ []) key row
with_other keys to some w key row ne is j = (
  λ c. elim ((is j).0 c) [
    | inl p ↦ inl p
    | inr p ↦ inr (p.0, Contains-append_left some (w ∷ []) key p.1)
  ],
  λ s. elim s [
    | inl p ↦ (is j).1 (inl p)
    | inr p ↦ elim (Contains-push_cases some w key p.1) [
      | inl before ↦ (is j).1 (inr (p.0, before))
      | inr here ↦ absurd (ne here)
    ]
  ],
)

with_all : (keys : ℕ → List ℕ) (to key : ℕ) (some row : List ℕ) → keys to ≡ some → IsRowWith keys to some key row → IsRowTo keys (to + 1) key row
with_all keys to key some row all is j = (
  λ c. elim ((is j).0 c) [
    | inl p ↦ let lt = p.0 in (omega arith, p.1)
    | inr p ↦
        let e = p.0 in
        (omega arith, subst (λ (ks : List ℕ). Contains ks key) (sym all ∙ ap keys (sym e)) p.1)
  ],
  λ p.
      let lt = p.0 in
      let before : j < to → Contains row j = λ below. (is j).1 (inl (below, p.1)) in
      let last : to ≤ j → Contains row j =
      λ above.
      let e : j ≡ to = omega arith in
      (is j).1 (inr (e, subst (λ (ks : List ℕ). Contains ks key) (ap keys e ∙ all) p.1)) in
      ⊎_elim before last (cases_lt j to),
)

-- ---- all rows

pub record AreRowsWith (keys : ℕ → List ℕ) (to : ℕ) (some : List ℕ) (count : ℕ) (rows : List (Vec ℕ Global)) : Type 0 where
  pub length_is : length rows ≡ count
  pub each : (key : ℕ) → key < count → IsRowWith keys to some key (row_at rows key)

pub rows_none : (keys : ℕ → List ℕ) (rows : List (Vec ℕ Global)) → rows ≡ [] → AreRowsTo keys 0 0 rows
rows_none keys rows is = record { length_is = ap length is; each = λ key h. absurd (omega arith) }

pub rows_empty : (keys : ℕ → List ℕ) (count : ℕ) (rows : List (Vec ℕ Global)) (row : Vec ℕ Global) → row.items ≡ [] → AreRowsTo keys 0 count rows → AreRowsTo keys 0 (count + 1) (rows ++ row ∷ [])
rows_empty keys count rows row is are =
    let len = are.length_is in
    let more : length (rows ++ row ∷ []) ≡ count + 1 = length_push rows row ∙ ap (λ (n : ℕ). n + 1) are.length_is in
    record {
      length_is = more;
      each = λ key h.
          let here : row_at (rows ++ row ∷ []) key ≡ (get_or (rows ++ row ∷ []) key row).items = row_is (rows ++ row ∷ []) key row (omega arith) in
          let old : key < count → IsRowTo keys 0 key (row_at (rows ++ row ∷ []) key) =
          λ lt.
          let same : row_at (rows ++ row ∷ []) key ≡ row_at rows key =
          here ∙ ap (λ (r : Vec ℕ Global). r.items) (get_or_append_left rows (row ∷ []) row key (omega arith)) ∙ sym (row_is rows key row (omega arith)) in
          subst (IsRowTo keys 0 key) (sym same) (are.each key lt) in
          let new : count ≤ key → IsRowTo keys 0 key (row_at (rows ++ row ∷ []) key) =
          λ le.
          let empty : IsRowTo keys 0 key [] = λ j. (λ c. absurd (none_of j c), λ p. let lt = p.0 in absurd (omega arith)) in
          let same : row_at (rows ++ row ∷ []) key ≡ [] =
          here ∙ ap (λ (r : Vec ℕ Global). r.items) (get_or_push rows row row key (omega arith)) ∙ is in
          subst (IsRowTo keys 0 key) (sym same) empty in
          ⊎_elim old new (cases_lt key count);
    }

pub rows_begin : (keys : ℕ → List ℕ) (to count : ℕ) (rows : List (Vec ℕ Global)) → AreRowsTo keys to count rows → AreRowsWith keys to [] count rows
rows_begin keys to count rows are = record {
  length_is = are.length_is;
  each = λ key h. with_none keys to key (row_at rows key) (are.each key h);
}

-- the row of the key, with the number put there or found there
with_once : (keys : ℕ → List ℕ) (to : ℕ) (some : List ℕ) (w key : ℕ) (old new : List ℕ) → w ≡ key → PutsOnce to old new → IsRowWith keys to some key old → IsRowWith keys to (some ++ w ∷ []) key new
with_once keys to some w key old new same (inl put) is = subst (IsRowWith keys to (some ++ w ∷ []) key) (sym put) (with_put keys to some w key old same is)
with_once keys to some w key old new same (inr kept) is = subst (IsRowWith keys to (some ++ w ∷ []) key) (sym kept.0) (with_kept keys to some w key old same kept.1 is)

pub rows_put : (keys : ℕ → List ℕ) (to : ℕ) (some more : List ℕ) (w count : ℕ) (rows : List (Vec ℕ Global)) (old new : Vec ℕ Global) → w < length rows → more ≡ some ++ w ∷ []
    → old ≡ get_or rows w old → PutsOnce to old.items new.items → AreRowsWith keys to some count rows → AreRowsWith keys to more count (set rows w new)
rows_put keys to some more w count rows old new h e o n are =
    let len = are.length_is in
    let set_len : length (set rows w new) ≡ length rows = length-set rows w new in
    subst (λ (xs : List ℕ). AreRowsWith keys to xs count (set rows w new)) (sym e) (record {
      length_is = set_len ∙ are.length_is;
      each = λ key k.
          let here : row_at (set rows w new) key ≡ (get_or (set rows w new) key old).items = row_is (set rows w new) key old (omega arith) in
          let before : row_at rows key ≡ (get_or rows key old).items = row_is rows key old (omega arith) in
          elim (cases_eq key w) [
            | inl q ↦
                let was : row_at rows key ≡ old.items = before ∙ ap (λ (r : Vec ℕ Global). r.items) (ap (λ m. get_or rows m old) q ∙ sym o) in
                let now : row_at (set rows w new) key ≡ new.items = here ∙ ap (λ (r : Vec ℕ Global). r.items) (get_or-set_at rows w key new old q (omega arith)) in
                subst (IsRowWith keys to (some ++ w ∷ []) key) (sym now)
                (with_once keys to some w key old.items new.items (sym q) n (subst (IsRowWith keys to some key) was (are.each key k)))
            | inr ne ↦
                let same : row_at (set rows w new) key ≡ row_at rows key = here ∙ ap (λ (r : Vec ℕ Global). r.items) (get_or-set_other rows w key new old ne) ∙ sym before in
                subst (IsRowWith keys to (some ++ w ∷ []) key) (sym same)
                (with_other keys to some w key (row_at rows key) (λ z. ne (sym z)) (are.each key k))
          ];
    })

pub rows_end : (keys : ℕ → List ℕ) (to count : ℕ) (some : List ℕ) (rows : List (Vec ℕ Global)) → keys to ≡ some → AreRowsWith keys to some count rows → AreRowsTo keys (to + 1) count rows
rows_end keys to count some rows all are = record {
  length_is = are.length_is;
  each = λ key h. with_all keys to key some (row_at rows key) all (are.each key h);
}

-- one key
pub rows_one : (keys : ℕ → List ℕ) (to w count : ℕ) (rows : List (Vec ℕ Global)) (old new : Vec ℕ Global) → w < length rows → keys to ≡ w ∷ []
    → old ≡ get_or rows w old → new.items ≡ old.items ++ to ∷ [] → AreRowsTo keys to count rows → AreRowsTo keys (to + 1) count (set rows w new)
rows_one keys to w count rows old new h all o n are =
    rows_end keys to count (w ∷ []) (set rows w new) all (rows_put keys to [] (w ∷ []) w count rows old new h refl o (inl n) (rows_begin keys to count rows are))

-- the numbers have words
pub rows_below : (keys : ℕ → List ℕ) (to count words : ℕ) (rows lent : List (Vec ℕ Global)) → lent ≡ rows → to < 32 * words → AreRowsTo keys to count rows
    → (i : ℕ) → i < length lent → All (λ j. j < 32 * words) (row_at lent i)
rows_below keys to count words rows lent is fits are i h =
    let len = are.length_is in
    let same = ap length is in
    subst (λ (rs : List (Vec ℕ Global)). All (λ j. j < 32 * words) (row_at rs i)) (sym is)
    (λ k d l.
    let j : ℕ = get_or (row_at rows i) k d in
    let below : j < to = ((are.each i (omega arith) j).0 (Contains-get_or (row_at rows i) k d l)).0 in
    omega arith)
