-- The list of a cue, in the model's words, and what the walk from its copy gives.
use Rattle.std.specs.Prelude.{ℕ, ◌+◌, ◌≤◌, min, ◌≡◌, Bool, false, List, length, take, ltb}
use Rattle.model.specs.Choice.{if_true}
use Rattle.model.specs.Blocks.{Block, own_of, total, count, blocks_of}
use Rattle.model.specs.Unfolding.{show_links}
use Rattle.model.specs.Lists.{cues_after, is_out, is_into, overwrite}
use Rattle.shows.specs.Copies.{number, Sound, Low}
use Rattle.neighbours.specs.declared.Ask.{Ask}
use Rattle.copies.specs.declared.Frame.{Frame}
use Rattle.model.specs.declared.Listed.{Listed}
use Rattle.neighbours.specs.Picks.{wanted}
use Rattle.lists.specs.Pages.{HasRoom, Gives}
use Rattle.copies.specs.Copies.{framed, links_of, IsCopy}

-- "List out, or in, of cue v after n".
unfoldable pub linked_cues : Bool → List Block → ℕ → ℕ → List ℕ
linked_cues inward bs v n = if_true inward (cues_after (is_into (show_links bs) v) (count bs) n) (cues_after (is_out (show_links bs) v) (count bs) n)

-- The cues that links with labels lo to hi lead to from cue v.
unfoldable pub labelled_cues : ℕ → ℕ → List Block → ℕ → List ℕ
labelled_cues lo hi bs v = wanted (record { inward = false; lo = lo; hi = hi; after = 0; room = 0 }) (show_links bs) v 0 (count bs)

-- "as many as fit, the rest unchanged; how many were written; "more" exactly if a further one
-- exists".
pub record IsListed (cues page : List ℕ) (after : List ℕ) (r : Listed) : Type 0 where
  pub written : r.written ≡ min (length page) (length cues)
  pub more : r.more ≡ ltb (length page) (length cues)
  pub filled : after ≡ overwrite (take (length page) cues) page

-- What may be asked of the walk from cue c of a copy: an own cue, numbers that fit, and room that
-- the page has.
pub record MayAnswer (q : Ask) (xs : List ℕ) (z : Frame) (c : ℕ) (page : List ℕ) : Type 0 where
  pub copy : IsCopy xs z
  pub low : 1 ≤ c
  pub high : c ≤ own_of (blocks_of xs) z.block
  pub room : HasRoom q page 0

-- What it gives: the cues asked for up to the last one of the copy.
pub record Answered (q : Ask) (xs : List ℕ) (z : Frame) (c : ℕ) (page after : List ℕ) (g : ℕ) : Type 0 where
  pub gives : Sound (framed (blocks_of xs) z) → Low (framed (blocks_of xs) z)
      → Gives q.room page 0 (wanted q (links_of (blocks_of xs) z) (number (framed (blocks_of xs) z) c) 0 (z.base + total (blocks_of xs) z.block)) after g
