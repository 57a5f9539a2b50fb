-- Of accepted rows: a link of a copy, with its origin, is that of a link row of the block that its path leads to. So each link of a copy has the label of a
-- link row.
use Prim.Native.Nat.{ℕ, ◌<◌}
use native.Mathlib.Omega.{arith}
use mathlib.Core.Path.{◌≡◌, sym, ◌∙◌, ap}
use mathlib.Core.List.{List, Memᴰ}
use lib.ListN.{length}
use Rattle.model.specs.Rows.{rows_of}
use Rattle.model.specs.Blocks.{Link, Block, blocks_of}
use Rattle.model.specs.Verdicts.{verdict, Accepted}
use Rattle.model.specs.Unfolding.{renamed, links}
use Rattle.model.specs.Behind.{Traced, traced, opening_row}
use Rattle.basics.proofs.Members.{map-mem, mem_map}
use Rattle.shows.specs.Accepted.{Show}
use Rattle.shows.specs.Copies.{Copy, number, copy_of, after, Steps}
use Rattle.shows.specs.Numbering.{block_after}
use Rattle.shows.proofs.Accepted.{accepted-show}
use Rattle.shows.proofs.Tracing.{link-of, traced-links}
use Rattle.shows.proofs.TracedByPath.{trace, after_block, after_lower, to_end, from_end}
use Rattle.demands.specs.Acceptance.{nth_row, IsRow, Links, InPlace}
use Rattle.demands.specs.Blocks.{links_in}
use Rattle.demands.proofs.Acceptance.{accepted-exactly}
use Rattle.demands.proofs.Blocks.{are-blocks}
use Rattle.demands.proofs.LinkRows.{IsLinkRow, is-link_row, link-row_is}

-- The links of a copy are those that have an origin.
module _ (xs : List ℕ) (k base : ℕ) (met : List ℕ) where
  abbrev copy-traced : List Traced
  copy-traced = traced (opening_row xs) (blocks_of xs) k base met

  pub link-trace : (l : Link) → Memᴰ l (links (blocks_of xs) k base met) → (x : Traced) × Memᴰ x copy-traced × (l ≡ x.link)
  link-trace l i = map-mem link-of l _ (rw (← traced-links (opening_row xs) (blocks_of xs) k base met) at i)

  pub trace_link : (x : Traced) → Memᴰ x copy-traced → Memᴰ x.link (links (blocks_of xs) k base met)
  trace_link x i = rw (traced-links (opening_row xs) (blocks_of xs) k base met) at (mem_map link-of i)

module _ (xs : List ℕ) (v : verdict xs ≡ Accepted) where
  abbrev bs : List Block
  bs = blocks_of xs

  shown : Show xs
  shown = accepted-show xs v

  pub place : (q : ℕ) → IsRow xs q → InPlace xs q
  place = ((accepted-exactly xs).0 v).sequence

  -- A copy of one of the blocks.
  module _ (k base : ℕ) (met : List ℕ) (h : k < length bs) where
    abbrev copy : Copy
    copy = copy_of bs k base met

    -- The block that a path leads to has the links of its link rows.
    end-links : (path : List ℕ) → Steps copy path → (after copy path).block.links ≡ links_in (block_after bs k path) (rows_of xs)
    end-links path s =
        ap (λ (b : Block). b.links) (after_block bs shown.good k base met path s)
        ∙ (are-blocks xs v).links _ (omega (arith, after_lower bs shown.good k base met path s))

    -- A row whose link stands in the copy that a path leads to.
    pub record StandsIn (path : List ℕ) (row : ℕ) (l : Link) : Type 0 where
      pub steps : Steps copy path
      pub row_is : IsLinkRow xs place (number (after copy path)) (block_after bs k path) row l

    module _ (path : List ℕ) (row : ℕ) (l : Link) where
      pub trace_row : Memᴰ (trace path row l) (copy-traced xs k base met) → StandsIn path row l
      trace_row i =
          let (s, m) = to_end bs shown.good (opening_row xs) row l path k base met i in
          record { steps = s; row_is = is-link_row xs place _ _ row l (rw (end-links path s) at m) }

      pub row-trace : StandsIn path row l → Memᴰ (trace path row l) (copy-traced xs k base met)
      row-trace r =
          from_end bs shown.good (opening_row xs) row l path k base met
          (r.steps, rw (end-links path r.steps) (link-row_is xs place _ _ row l r.row_is))

    -- So each link of the copy has the label of a link row.
    pub label-row : (l : Link) → Memᴰ l (links bs k base met) → (r : ℕ) × IsRow xs r × Links (nth_row xs r) × ((nth_row xs r).label ≡ l.label)
    unfolding renamed
    label-row l i =
        let (x, j, e) = link-trace xs k base met l i in
        let r = (trace_row x.origin.path x.origin.row x.link j).row_is in
        (x.origin.row, r.is, r.links, sym (ap (λ (l : Link). l.label) (e ∙ r.link)))
