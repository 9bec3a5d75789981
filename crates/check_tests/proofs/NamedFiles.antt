-- The words that name two files, of the tests whose source tells its names.
use Rattle.std.proofs.Common.{◌≡◌, ℕ, List, [], ◌∷◌, Option, Some, None, refl, sym, subst, codes}
use Rattle.std.specs.Prelude.{String, if◌then◌else◌}
use Rattle.std.specs.declared.alloc.Global.{Global}
use Rattle.clap.specs.Walk.{Text, is_empty}
use Rattle.clap.specs.Simple.{matches_of}
use Rattle.clap.specs.Faults.{fault_of}
use Rattle.clap.proofs.OnLiterals.{clap_on_literals}
use Rattle.fzn_check.specs.Words.{command, names_in, names_of, texts_of}
use Rattle.fzn_check.specs.Outcome.{CanOpenFiles}

abbrev pub words : List Text
words = codes "fzncheck" ∷ codes "m.fzn" ∷ codes "s.txt" ∷ []

abbrev names_at : List Text → Option (Text × Text)
names_at texts = if is_empty (fault_of command texts) then names_in (matches_of command texts) else None

asks_for_files : names_at words ≡ Some (codes "m.fzn", codes "s.txt")
unfolding clap_on_literals
asks_for_files = refl

-- a source that tells those files alone may be opened
pub can_open_files : (ws : List (String Global)) (names : List (List ℕ)) → texts_of ws ≡ words → names ≡ codes "m.fzn" ∷ codes "s.txt" ∷ [] → CanOpenFiles (Some names) (names_of ws)
can_open_files ws names texts alone =
    let at_words : CanOpenFiles (Some names) (names_at words) = subst (λ a. CanOpenFiles (Some names) a) (sym asks_for_files) alone in
    subst (λ ts. CanOpenFiles (Some names) (names_at ts)) (sym texts) at_words
