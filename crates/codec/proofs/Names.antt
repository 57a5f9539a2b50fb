-- The line of names at the start of a file.
use Prim.Native.Nat.{ℕ, ◌≤◌}
use mathlib.Core.Path.{◌≡◌, refl, ◌∙◌, ap}
use mathlib.Core.Bool.{true, false}
use mathlib.Core.List.{List, [], ◌∷◌}
use lib.ListN.{length, drop}
use Rattle.model.specs.Text.{names, lines_of}
use Rattle.model.specs.Verdicts.{refusal, Unread, read_lines, read_all}
use Rattle.basics.proofs.Choices.{true_else}
use Rattle.shows.proofs.Files.{names-first}
use Rattle.lines.proofs.Names.{starts_is, starts_long}
use Rattle.lines.proofs.FirstLines.{first-unnamed}
use Rattle.codec.specs.Scanning.{names_size, starts_named}

-- The lines behind it are read from the second on.
pub named-read : (f : List ℕ) → starts_named f ≡ true → read_all (lines_of f) ≡ read_lines 2 (lines_of (drop names_size f))
unfolding starts_named names
named-read f e = ap (λ (t : List ℕ). read_all (lines_of t)) (starts_is names f e) ∙ names-first (drop names_size f)

-- Otherwise nothing is read.
pub unnamed_read : (f : List ℕ) → starts_named f ≡ false → read_all (lines_of f) ≡ Unread (refusal 2 1)
unfolding read_all starts_named
unnamed_read f e = go (lines_of f) refl
  where
    go : (ls : List (List ℕ)) → lines_of f ≡ ls → read_all ls ≡ Unread (refusal 2 1)
    go [] p = refl
    go (l ∷ ls) p = true_else _ _ _ (first-unnamed names f l ls p e)

pub named-long : (f : List ℕ) → starts_named f ≡ true → names_size ≤ length f
unfolding starts_named names
named-long f e = starts_long names f e
