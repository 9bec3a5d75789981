-- The words that name one file, of the tests whose source tells its names.
use Rattle.std.proofs.Common.{◌≡◌, ℕ, List, [], ◌∷◌, Option, Some, None, refl, sym, subst, codes, false}
use Rattle.std.specs.Prelude.{String, if◌then◌else◌}
use Rattle.std.specs.declared.alloc.Global.{Global}
use Rattle.clap.specs.Walk.{Text, is_empty}
use Rattle.clap.specs.Simple.{matches_of}
use Rattle.clap.specs.Faults.{fault_of}
use Rattle.clap.proofs.OnLiterals.{clap_on_literals}
use Rattle.command_line.specs.declared.words.Options.{Options}
use Rattle.command_line.specs.CommandLine.{InputOf, command, config_in, config_of, file, texts_of}
use Rattle.solver_top.specs.Outcome.{CanOpen}

abbrev pub words : List Text
words = codes "turbofzn" ∷ codes "m.fzn" ∷ []

abbrev defaults : Options
defaults = record { all = false; workers = 1; lanes = 1; depth = None; node_limit = 0; round_limit = 0; domains = false; steal = false }

abbrev config_at : List Text → Option (Options × InputOf)
config_at texts = if is_empty (fault_of command texts) then config_in (matches_of command texts) else None

asks_for_file : config_at words ≡ Some (defaults, file (codes "m.fzn"))
unfolding clap_on_literals
asks_for_file = refl

-- a source that tells that file alone may be opened
pub can_open_file : (ws : List (String Global)) (names : List (List ℕ)) → texts_of ws ≡ words → names ≡ codes "m.fzn" ∷ [] → CanOpen (Some names) (config_of ws)
can_open_file ws names texts alone =
    let at_words : CanOpen (Some names) (config_at words) = subst (λ a. CanOpen (Some names) a) (sym asks_for_file) alone in
    subst (λ ts. CanOpen (Some names) (config_at ts)) (sym texts) at_words
