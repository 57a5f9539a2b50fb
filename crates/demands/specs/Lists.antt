-- Linked cues: what list_out and list_in answer and leave in the page. Document 01, "Questions": "List out, or in, of cue v after n, with a
-- lent list of 32-bit numbers: the smallest linked cues greater than n, each once, rising, as many as fit, the rest unchanged; how many
-- were written; "more" exactly if a further one exists. n is free, and the list may have length 0."
use Rattle.std.specs.Prelude.{ℕ, suc, ◌-◌, ◌≤◌, ◌<◌, ◌≡◌, Bool, true, false, ◌⊎◌, ◌↔◌, length, get_or, take, Ok, Some}
use mathlib.Core.List.{List, ◌++◌, Memᴰ}
use Rattle.model.specs.Answers.{ListAnswer, listing}
use Rattle.model.specs.Blocks.{Link, blocks_of}
use Rattle.model.specs.Unfolding.{show_links}
use Rattle.shows.specs.Lists.{Rising}
use Rattle.demands.specs.Buffers.{Leaves}

-- A link of the unfolded show leads from cue u to cue v. "All labels count as follow-ons." "Lists and the unfolding program still show notes" (02, Paper 3).
-- "List out, or in, of cue v": cue u is linked to v, by one that leads from v to u, or from u to v.
abbrev pub LinkLeads : List ℕ → ℕ → ℕ → Type 0
LinkLeads xs u v = (l : Link) × Memᴰ l (show_links (blocks_of xs)) × (l.from ≡ u) × (l.to ≡ v)

abbrev pub LinkedOut : List ℕ → ℕ → ℕ → Type 0
LinkedOut xs v u = LinkLeads xs v u

abbrev pub LinkedIn : List ℕ → ℕ → ℕ → Type 0
LinkedIn xs v u = LinkLeads xs u v

-- Some cues are "the smallest linked cues greater than n, each once, rising", and more says whether "a further one exists".
pub record Smallest (Linked : ℕ → Type 0) (n : ℕ) (cues : List ℕ) (more : Bool) : Type 0 where
  pub linked : (u : ℕ) → Memᴰ u cues → Linked u
  pub above : (u : ℕ) → Memᴰ u cues → n < u
  pub rising : Rising cues
  -- a linked cue greater than n that is not among them is greater than all of them
  pub smallest : (u : ℕ) → Linked u → n < u → Memᴰ u cues ⊎ ((w : ℕ) → Memᴰ w cues → w < u)
  pub further : (more ≡ true) ↔ ((u : ℕ) × Linked u × (n < u) × (Memᴰ u cues → ⊥))

-- What is answered, for a lent page and what is left in it.
pub record IsList (Linked : ℕ → Type 0) (n : ℕ) (page : List ℕ) (r : ListAnswer) (after : List ℕ) : Type 0 where
  pub cues : List ℕ
  pub more : Bool
  pub answer : r ≡ Ok (listing (length cues) more)
  pub smallest : Smallest Linked n cues more
  pub leaves : Leaves cues page after
  -- "as many as fit": where a further one exists, the page is full
  pub fit : length cues ≤ length page
  pub full : more ≡ true → length cues ≡ length page

-- Pages asked for one after another, so many of them, each of any length from 1: the first after n, each next one after the last number
-- that was written before it. They have written some cues in all, and the last of them said more.
pub data Pages (Asks : ℕ → List ℕ → ListAnswer → List ℕ → Type 0) (n : ℕ) : ℕ → List ℕ → Bool → Type 0 where
  one-page : {page after : List ℕ} {written : ℕ} {more : Bool} → 1 ≤ length page → Asks n page (Ok (listing written more)) after
      → Pages Asks n 1 (take written after) more
  one-more_page : {many : ℕ} {cues page after : List ℕ} {written : ℕ} {more : Bool} → Pages Asks n many cues true → 1 ≤ length page
      → Asks (get_or cues (length cues - 1) 0) page (Ok (listing written more)) after → Pages Asks n (suc many) (cues ++ take written after) more

-- What they come to: the smallest linked cues again; no more pages say "more" than the number of any cue that no linked one exceeds, so this
-- ends; and when no more is said, every linked cue greater than n was written, once.
pub record ArePages (Linked : ℕ → Type 0) (n many : ℕ) (cues : List ℕ) (more : Bool) : Type 0 where
  pub smallest : Smallest Linked n cues more
  pub ends : more ≡ true → (most : ℕ) → ((u : ℕ) → Linked u → u ≤ most) → many ≤ most
  pub whole : more ≡ false → (u : ℕ) → Linked u → n < u → Memᴰ u cues
