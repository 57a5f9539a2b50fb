-- A chain has only links with labels 1 to 254, of the unfolded show and of each block; and where no row is a note, every link is followed, so fewest answers
-- and leaves what it did while all labels counted.
use Prim.Native.Nat.{ℕ, ◌+◌, ◌*◌, ◌-◌, ◌≤◌, ◌<◌}
use native.Mathlib.Omega.{arith}
use mathlib.Core.Path.{◌≡◌, refl, ◌∙◌}
use mathlib.Core.Bool.{true}
use mathlib.Core.List.{List, [], Memᴰ}
use lib.ListN.{length}
use lib.Dec.{ltb}
use borrow.Author.Tests.{ltb-true}
use Rattle.model.specs.Answers.{FewestAnswer}
use Rattle.model.specs.Choice.{if_true}
use Rattle.model.specs.Limits.{max_label}
use Rattle.model.specs.Rows.{cell, row_at, row_count}
use Rattle.model.specs.Rules.{every}
use Rattle.model.specs.Blocks.{Link, Block, blocks_of, last_block, count}
use Rattle.model.specs.Verdicts.{verdict, Accepted}
use Rattle.model.specs.Unfolding.{links, show_links}
use Rattle.model.specs.Chains.{followed}
use Rattle.model.specs.Summaries.{block_links}
use Rattle.model.specs.Asking.{AsksFewest}
use Rattle.model.specs.Ring.{ring, noted_ring}
use Rattle.basics.proofs.Members.{get_d_mem, every-mem}
use Rattle.shows.proofs.Followed.{followed-is, followed-has, followed-all}
use Rattle.demands.specs.Acceptance.{nth_row, IsRow}
use Rattle.demands.specs.Notes.{IsNote, NoNotes, followed_links, followed_inside, ChainsHave, ChainLinks, OldFigure}
use Rattle.demands.proofs.Acceptance.{accepted-exactly}
use Rattle.demands.proofs.Blocks.{last-low}
use Rattle.demands.proofs.LinksOfRows.{label-row}
use Rattle.demands.proofs.Shortest.{is-fewest, leaves-summaries}

module _ (xs : List ℕ) (v : verdict xs ≡ Accepted) where
  abbrev bs : List Block
  bs = blocks_of xs

  -- The links of a copy of one of the blocks.
  module _ (k base : ℕ) (met : List ℕ) (h : k < length bs) where
    -- Their labels are those of link rows, so they are 1 to 255,
    labels : (l : Link) → Memᴰ l (links bs k base met) → (1 ≤ l.label) × (l.label ≤ max_label)
    labels l i = let (r, is, row, e) = label-row xs v k base met h l i in rw e at (((accepted-exactly xs).0 v).links r is row).label

    -- and without notes at most 254.
    no_note : NoNotes xs → (l : Link) → Memᴰ l (links bs k base met) → l.label ≤ 254
    no_note n l i = let (r, is, row, e) = label-row xs v k base met h l i in go (labels l i).1 (λ z. n r is (row, e ∙ z))
      where
        go : l.label ≤ max_label → (l.label ≡ 255 → ⊥) → l.label ≤ 254
        go a z = omega arith

    chains_have : ChainsHave (links bs k base met) (followed (links bs k base met))
    chains_have l = (
      λ i. let (m, a) = followed-is _ l i in (m, (labels l m).0, a),
      λ (m, _, a). followed-has _ l m a,
    )

    all-followed : NoNotes xs → followed (links bs k base met) ≡ links bs k base met
    all-followed n = followed-all _ (no_note n)

  -- Of the show.
  pub show_labels : (l : Link) → Memᴰ l (show_links bs) → (1 ≤ l.label) × (l.label ≤ max_label)
  unfolding show_links
  show_labels = labels (last_block bs) 0 [] (last-low xs v)

  pub chain-links : ChainLinks xs
  unfolding show_links block_links
  chain-links = record { of-show = chains_have (last_block bs) 0 [] (last-low xs v); of-block = λ k h. chains_have k 0 _ h }

  -- Where there are no notes, these are all links: the answer and the work area are those of all.
  module _ (n : NoNotes xs) where
    all-of_show : followed_links xs ≡ show_links bs
    unfolding show_links
    all-of_show = all-followed (last_block bs) 0 [] (last-low xs v) n

    all-inside : (k : ℕ) → k < length bs → followed_inside xs k ≡ block_links bs k
    unfolding block_links
    all-inside k h = all-followed k 0 _ h n

    pub old-figure : (s t : ℕ) (work after : List ℕ) (r : FewestAnswer) → 1 ≤ s → s ≤ count bs → 1 ≤ t → t ≤ count bs → 16384 ≤ length work
        → AsksFewest xs s t work r after → OldFigure xs s t work r after
    old-figure s t work after r low high low' high' room e =
        let area = leaves-summaries xs v s t work after r low high low' high' room e in
        record {
          fewest = rw all-of_show at (is-fewest xs v s t work after r low high low' high' room e);
          work-area =
              record {
                summaries = λ k i j h a b c d. rw (all-inside k h) at (area.summaries k i j h a b c d);
                others = area.others;
                beyond = area.beyond;
                size = area.size;
              };
        }

-- Rows whose numbers are all below 255 have no note; so it is with the ring. Where its row 8 has label 255, that is one.
small-not : (x : ℕ) → ltb x 255 ≡ true → x ≡ 255 → ⊥
small-not x h e = omega (arith, ltb-true x 255 h)

small-unnoted : (xs : List ℕ) → every (λ x. ltb x 255) xs ≡ true → NoNotes xs
unfolding cell row_at row_count
small-unnoted xs e r i (k, l) = small-not _ (every-mem (λ x. ltb x 255) xs e _ (get_d_mem xs ((r - 1) * 11 + 2) (omega arith))) l

pub ring-unnoted : NoNotes ring
unfolding every if_true
ring-unnoted = small-unnoted ring refl

pub ring-noted : (r : ℕ) × IsRow noted_ring r × IsNote (nth_row noted_ring r)
unfolding cell row_at row_count
ring-noted = (8, omega arith, (refl, refl))
