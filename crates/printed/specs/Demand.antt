-- What the library behind the unfolding program makes of a file. Document 01, "The ring show": "The unfolding program reads a show from standard input and
-- prints its links (cue, cue, label), each triple once, rising." `begin` ensures `TextBegun`, `part` ensures `Part`; the text that is demanded is
-- `IsPrinted` of crates/demands/specs/Printed.
use Rattle.std.specs.Prelude.{ℕ, ◌≡◌, List, ◌++◌, take, Some, None}
use Rattle.model.specs.Blocks.{blocks_of}
use Rattle.demands.specs.Printed.{IsPrinted}
use Rattle.printed.specs.Parts.{end_of, TextBegun, Run}
use Rattle.printed.specs.declared.Links.{Links}
use Rattle.printed.specs.declared.Begun.{Begun}

pub record PrintsAsDemanded : Type 0 where
  -- Where no more is to come, what `begin` has put out is the text.
  pub whole : (file rows t out : List ℕ) (r : Begun) → TextBegun file rows t out r → r.coming ≡ None → IsPrinted file (take r.used out)
  -- Where more is to come, the text is that and then part by part, from before the first cue on, until nothing is left.
  pub parts : (file rows t out m text : List ℕ) (r : Begun) (k : Links) → TextBegun file rows t out r → r.coming ≡ Some k
      → Run (blocks_of (take k.size rows)) m 0 (end_of k.cues) text → IsPrinted file (take r.used out ++ text)
  -- A file has no other such text.
  pub one : (file text other : List ℕ) → IsPrinted file text → IsPrinted file other → text ≡ other
