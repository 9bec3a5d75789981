-- What is read of a text of the command line.
use Rattle.std.proofs.Common.{IfOk, List, [], ◌∷◌, option_map, ◌≡◌, ◌≤◌, ◌∙◌, ℕ, Bool, true, false, Option, Some, None, Result, Ok, Err, refl, sym, ap, subst, codes, unwrap_or, option_and_then, inl, inr, arith}
use Rattle.std.specs.Prelude.{if◌then◌else◌}
use Rattle.std.specs.Option.{option_map_or}
use Rattle.std.specs.Str.{bytes_eq}
use Rattle.std.specs.Str.Parse.{ParsesBool, ParsesUnsigned, digits_value, without_leading_plus}
use Rattle.std.proofs.lemmas.Slice.Eq.{bytes_eq-Decides}
use Rattle.clap.specs.Matches.{ReadsOne, one_text}
use Rattle.clap.specs.Values.{IsUnsignedIn, kind_of}
use Rattle.clap.specs.ValueTests.{is_unsigned_in}
use Rattle.clap.specs.Walk.{rows_of}
use Rattle.clap.specs.declared.builder.value_parser.ValueParser.TheVariants as vp
use Rattle.clap.specs.declared.error.Error.{Error}
use Rattle.clap.specs.declared.error.kind.ErrorKind.TheVariants.{OutOfMemory}
use Rattle.clap.specs.declared.parser.matches.Found.{Found}
use Rattle.clap.proofs.ValueTestLemmas.{Accepts-accepts, accepts-Accepts}
use Rattle.clap.proofs.WalkLemmas.{one_text-rows}
use Rattle.clap.specs.Faults.{fault_of, is_simple_and_free}
use Rattle.clap.specs.Kinds.{HasKind, Kinds}
use Rattle.clap.specs.Simple.{App, is_simple, matches_of}
use Rattle.clap.specs.Walk.{Row, Text, is_empty}
use Rattle.std.specs.Option.{ok_or}
use Rattle.best_words.specs.declared.words.Config.{Config}
use Rattle.best_words.specs.declared.words.Options.{Options}
use Rattle.best_words.specs.declared.words.WordsError.{WordsError}
use Rattle.best_words.specs.declared.words.WordsError.TheVariants.{NotTaken}
use Rattle.best_words.specs.Words.{command, config_in, config_meant, is_given, number_in, number_of}

not_true : (b : Bool) → (b ≡ true → ⊥) → b ≡ false
not_true true h = absurd (h refl)
not_true false h = refl

in_bounds : (low high : ℕ) (t : List ℕ) → is_unsigned_in low high t ≡ true → IsUnsignedIn low high t
in_bounds low high t e = accepts-Accepts false (vp.Unsigned low high) t e

-- what `get_one` reads as a number
module _ {E : Type 0} (G : List ℕ → Result ℕ E → Type 0) (only : (t : List ℕ) (x : Result ℕ E) → G t x → ParsesUnsigned 64 10 t x) where
  text_in : (low high : ℕ) (t : List ℕ) (n : ℕ) → ReadsOne G t (Some n) → low ≤ n → n ≤ high → number_in low high t ≡ Some n
  text_in low high t n read least most =
      let parsed = only t (Ok n) read in
      let accepted = Accepts-accepts false (vp.Unsigned low high) t (parsed.0.0, parsed.0.1, subst (λ k. low ≤ k) parsed.1 least, subst (λ k. k ≤ high) parsed.1 most) in
      ap (λ b. if b then Some (digits_value 10 (without_leading_plus t)) else None) accepted ∙ ap Some (sym parsed.1)

  text_out : (low high : ℕ) (t : List ℕ) (n : ℕ) → ReadsOne G t (Some n) → (low ≤ n → n ≤ high → ⊥) → number_in low high t ≡ None
  text_out low high t n read out =
      let parsed = only t (Ok n) read in
      let refused : is_unsigned_in low high t ≡ false = not_true _ (λ e.
      let within = in_bounds low high t e in
      out (subst (λ k. low ≤ k) (sym parsed.1) within.2) (subst (λ k. k ≤ high) (sym parsed.1) within.3)) in
      ap (λ b. if b then Some (digits_value 10 (without_leading_plus t)) else None) refused

  text_none : (low high : ℕ) (t : List ℕ) → ReadsOne G t None → number_in low high t ≡ None
  text_none low high t read =
      let refused : is_unsigned_in low high t ≡ false = not_true _ (λ e.
      let within = in_bounds low high t e in
      only t (Err read.0) read.1 (within.0, within.1)) in
      ap (λ b. if b then Some (digits_value 10 (without_leading_plus t)) else None) refused

  module _ (f : Found) (id : List ℕ) (low high : ℕ) where
    by_text : (o : Option (List ℕ)) → one_text f id ≡ o → number_of id low high (rows_of f) ≡ option_and_then (number_in low high) o
    by_text o e = ap (option_and_then (number_in low high)) (sym (one_text-rows f id) ∙ e)

    pub number_is_in : (n : ℕ) (o : Option (List ℕ)) → one_text f id ≡ o → (o ≡ None → Some n ≡ None) → ((t : List ℕ) → o ≡ Some t → ReadsOne G t (Some n))
        → low ≤ n → n ≤ high → number_of id low high (rows_of f) ≡ Some n
    number_is_in n None e none some least most = let bad : Some n ≡ None = none refl in cc
    number_is_in n (Some t) e none some least most = by_text (Some t) e ∙ text_in low high t n (some t refl) least most

    pub number_is_out : (n : ℕ) (o : Option (List ℕ)) → one_text f id ≡ o → (o ≡ None → Some n ≡ None) → ((t : List ℕ) → o ≡ Some t → ReadsOne G t (Some n))
        → (low ≤ n → n ≤ high → ⊥) → number_of id low high (rows_of f) ≡ None
    number_is_out n None e none some out = by_text None e
    number_is_out n (Some t) e none some out = by_text (Some t) e ∙ text_out low high t n (some t refl) out

    pub number_is_none : (o : Option (List ℕ)) → one_text f id ≡ o → ((t : List ℕ) → o ≡ Some t → ReadsOne G t None) → number_of id low high (rows_of f) ≡ None
    number_is_none None e some = by_text None e
    number_is_none (Some t) e some = by_text (Some t) e ∙ text_none low high t (some t refl)

-- what `get_one` reads as a flag
pub flag_is : (E : Type 0) (f : Found) (id : List ℕ) (r : Option Bool) (o : Option (List ℕ)) → one_text f id ≡ o → (o ≡ None → r ≡ None)
    → ((t : List ℕ) → o ≡ Some t → ReadsOne (ParsesBool {E = E}) t r) → unwrap_or r false ≡ is_given id (rows_of f)
flag_is E f id r o e none some = by_flag r o none some ∙ ap (λ p. option_map_or (λ t. bytes_eq t (codes "true")) p false) (sym e ∙ one_text-rows f id)
  where
    by_flag : (r : Option Bool) (o : Option (List ℕ)) → (o ≡ None → r ≡ None) → ((t : List ℕ) → o ≡ Some t → ReadsOne (ParsesBool {E = E}) t r)
        → unwrap_or r false ≡ option_map_or (λ t. bytes_eq t (codes "true")) o false
    by_flag r None none some = ap (λ q. unwrap_or q false) (none refl)
    by_flag (Some true) (Some t) none some = sym ((bytes_eq-Decides t (codes "true")).1 (some t refl))
    by_flag (Some false) (Some t) none some = sym (ap (λ u. bytes_eq u (codes "true")) (some t refl))
    by_flag None (Some t) none some = sym (not_true _ (λ yes. (some t refl).1.0 ((bytes_eq-Decides t (codes "true")).0 yes)))

is_simple_command : is_simple command ≡ true
is_simple_command = refl

is_free_command : is_simple_and_free command ≡ true
is_free_command = refl

-- what the words ask for, where the command takes them
pub config_taken : (a : App) (words : List Text) (rows : List Row) (X : Type 0) (c : Option Config) → a ≡ command
    → (is_simple a ≡ true → (rows ≡ matches_of a words) × X) → (is_simple_and_free a ≡ true → fault_of a words ≡ [])
    → option_map config_meant c ≡ config_in rows
    → (if is_empty (fault_of command words) then config_in (matches_of command words) else None) ≡ option_map config_meant c
config_taken a words rows X c is_command found free is =
    let faults : fault_of command words ≡ [] = subst (λ z. fault_of z words ≡ []) is_command (free (subst (λ z. is_simple_and_free z ≡ true) (sym is_command) is_free_command)) in
    let rows_are : rows ≡ matches_of command words = subst (λ z. rows ≡ matches_of z words) is_command (found (subst (λ z. is_simple z ≡ true) (sym is_command) is_simple_command)).0 in
    ap (λ ks. if is_empty ks then config_in (matches_of command words) else None) faults ∙ ap config_in (sym rows_are) ∙ sym is

-- a kind that isn't want of memory is of a fault
faulty : (kinds : Kinds) (e : Error) → HasKind kinds e → (kind_of e ≡ OutOfMemory → ⊥) → is_empty kinds ≡ false
faulty [] e (inl memory) known = absurd (known memory)
faulty [] e (inr none) known = absurd none
faulty (k ∷ ks) e has known = grind arith

-- nothing is asked for where the command doesn't take the words
pub config_refused : (a : App) (words : List Text) (e : Error) → a ≡ command → (is_simple_and_free a ≡ true → HasKind (fault_of a words) e) → (kind_of e ≡ OutOfMemory → ⊥)
    → (if is_empty (fault_of command words) then config_in (matches_of command words) else None) ≡ None
config_refused a words e is_command fails known =
    let has : HasKind (fault_of command words) e = subst (λ z. HasKind (fault_of z words) e) is_command (fails (subst (λ z. is_simple_and_free z ≡ true) (sym is_command) is_free_command)) in
    ap (λ b. if b then config_in (matches_of command words) else None) (faulty (fault_of command words) e has known)

-- what the answer is then
pub taken_ok : (m : Option (Options × Text)) (c : Option Config) (r : Result Config WordsError) → r ≡ ok_or c NotTaken → m ≡ option_map config_meant c
    → IfOk r (λ x. m ≡ Some (config_meant x))
taken_ok m (Some x) r is means = rw is means
taken_ok m None r is means = rw is tt

pub taken_err : (m : Option (Options × Text)) (c : Option Config) (r : Result Config WordsError) → r ≡ ok_or c NotTaken → m ≡ option_map config_meant c
    → r ≡ Err NotTaken → m ≡ None
taken_err m (Some x) r is means refused = let bad : Ok x ≡ Err NotTaken = sym is ∙ refused in cc
taken_err m None r is means refused = means
