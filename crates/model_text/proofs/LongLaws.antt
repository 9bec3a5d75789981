-- A text that is too long has that fault.
use Rattle.std.proofs.Common.{◌≡◌, ◌+◌, ◌<◌, inl, ℕ, zero, suc, List, [], ◌∷◌, length, Option, None, Some, ap, refl, arith}
use Rattle.fzn_io.specs.Streams.{IsHeld}
use Rattle.model_text.specs.Texts.{most_bytes, too_long}
use Rattle.model_text.specs.Files.{IsFaultOfTold, LongHasFault}

long_list : (n : ℕ) → (text : List ℕ) × (length text ≡ n)
long_list zero = ([], refl)
long_list (suc n) = let rest = long_list n in (0 ∷ rest.0, ap suc rest.1)

too_long_text : (held : Option (Option (List ℕ))) (text : List ℕ) → IsHeld held text → most_bytes < length text → IsFaultOfTold held too_long 0
too_long_text held text told long = record { text = text; told = told; fault = record { at = 0; fault = inl (record { long = long; is_kind = refl; first = refl }); is_line = refl } }

some_long : (n : ℕ) → n ≡ most_bytes + 1 → IsFaultOfTold None too_long 0
some_long n e = let some = long_list n in let same = some.1 in too_long_text None some.0 tt (omega arith)

pub long_has_fault : LongHasFault
long_has_fault None longer = some_long (most_bytes + 1) refl
long_has_fault (Some None) longer = absurd longer
long_has_fault (Some (Some bytes)) longer = too_long_text (Some (Some bytes)) bytes refl longer
