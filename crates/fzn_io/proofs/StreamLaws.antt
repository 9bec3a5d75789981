-- One call after another on a source or a sink.
use Rattle.std.proofs.Common.{◌≡◌, ℕ, ◌+◌, ◌-◌, ◌≤◌, List, ◌++◌, Option, None, Some, sym, ap, ◌∙◌, append_assoc, length, take, drop, subst, take-add, arith}
use Rattle.std.proofs.lemmas.Grind.{common_steps}
use Rattle.fzn_io.specs.Streams.{Takes, Adds}

pub takes_more : (a b c : Option (List ℕ)) (xs ys : List ℕ) → Takes a b xs → Takes b c ys → Takes a c (xs ++ ys)
takes_more None b c xs ys p q = subst (λ l. Takes l c ys) p q
takes_more (Some a) None c xs ys p q = absurd p
takes_more (Some a) (Some b) None xs ys p q = absurd q
takes_more (Some a) (Some b) (Some c) xs ys p q = p ∙ ap (λ l. xs ++ l) q ∙ sym (append_assoc xs ys c)

pub adds_more : (a b c : Option (List ℕ)) (xs ys : List ℕ) → Adds a b xs → Adds b c ys → Adds a c (xs ++ ys)
adds_more None b c xs ys p q = subst (λ w. Adds w c ys) p q
adds_more (Some a) None None xs ys p q = tt
adds_more (Some a) None (Some c) xs ys p q = cc
adds_more (Some a) (Some b) None xs ys p q = tt
adds_more (Some a) (Some b) (Some c) xs ys p q = q ∙ ap (λ l. l ++ ys) p ∙ append_assoc a xs ys

-- What a slice from `done` on holds.
pub after_done : (done : ℕ) (bytes : List ℕ) → done ≤ length bytes → take (length bytes - done) (drop done bytes) ≡ drop done bytes
after_done done bytes h = grind (arith, common_steps)

pub front_fits : (done taken : ℕ) (bytes : List ℕ) → done ≤ length bytes → taken ≤ length (take (length bytes - done) (drop done bytes)) → done + taken ≤ length bytes
front_fits done taken bytes h fits = grind (arith, common_steps)

-- A front of the bytes was added, and then a front of those after it.
pub adds_next : (a b c : Option (List ℕ)) (done taken : ℕ) (bytes : List ℕ) → done ≤ length bytes → Adds a b (take done bytes) → Adds b c (take taken (take (length bytes - done) (drop done bytes))) → Adds a c (take (done + taken) bytes)
adds_next a b c done taken bytes h p q =
    let rest = subst (λ l. Adds b c (take taken l)) (after_done done bytes h) q in
    subst (Adds a c) (sym (take-add done taken bytes)) (adds_more a b c _ _ p rest)

-- The text read so far and the front of the room that one more call filled.
pub takes_next : (a b c : Option (List ℕ)) (text more room : List ℕ) (n : ℕ) → Takes a b text → Takes b c (take n room) → more ≡ text ++ take n room → Takes a c more
takes_next a b c text more room n p q e = subst (Takes a c) (sym e) (takes_more a b c text (take n room) p q)

-- What a call that gives up after one more call of `read` has taken.
pub takes_at_most : (a b c : Option (List ℕ)) (text room : List ℕ) (n most : ℕ) → Takes a b text → Takes b c (take n room) → length text + n ≤ most
    → (all : List ℕ) × Takes a c all × (length all ≤ most)
takes_at_most a b c text room n most p q fits = (text ++ take n room, takes_more a b c text (take n room) p q, grind (arith, common_steps))

pub takes_exactly : (a b c : Option (List ℕ)) (text room : List ℕ) (n most : ℕ) → Takes a b text → Takes b c (take n room) → n ≤ length room → length text + n ≡ most
    → (all : List ℕ) × Takes a c all × (length all ≡ most)
takes_exactly a b c text room n most p q fits e = (text ++ take n room, takes_more a b c text (take n room) p q, grind (arith, common_steps))
