-- Check 5 of one row, with its sentence.
use Prim.Native.Nat.{ℕ, ◌+◌, ◌<◌}
use native.Mathlib.Omega.{arith}
use native.Mathlib.Decide.{ℕ_discrete}
use mathlib.Core.Path.{◌≡◌}
use mathlib.Core.List.{List}
use lib.ListN.{length}
use Rattle.model.specs.Limits.{max_blocks}
use Rattle.model.specs.Rows.{Row}
use Rattle.model.specs.Rules.{Seen, may_open, goes_on, may_follow}
use Rattle.model.specs.Blocks.{Block}
use Rattle.demands.specs.Acceptance.{nth_row, IsRow, Opens, Links, FewBlocks, Keeps, Sequence}
use Rattle.demands.proofs.Tests.{Says, in_words, less, equal, both, equal-then, first-case, second-case}
use Rattle.demands.proofs.Openings.{Comes, opening, link, later-use, to-place, from_place}
use Rattle.demands.proofs.Knows.{Knows}

module _ (xs : List ℕ) (p : ℕ) (s : Seen) (bs : List Block) (i : IsRow xs p) (k : Knows xs p s bs) where
  abbrev w : Row
  w = nth_row xs p

  abbrev opened : ℕ
  opened = length s.joins

  -- A row of the current block is not the first.
  behind-row : w.block + 1 ≡ opened → 1 < p
  behind-row h = go (ℕ_discrete p 1)
    where
      go : Dec (p ≡ 1) → 1 < p
      go (yes e) = absurd (omega (arith, k.count.0 e))
      go (no n) = omega arith

  -- What the test lets through,
  comes : Says (may_follow s w) (Comes xs p opened × FewBlocks w)
  unfolding may_follow may_open goes_on
  comes = go (ℕ_discrete w.kind 0) (ℕ_discrete w.kind 1)
    where
      few : w.block + 1 ≡ opened → FewBlocks w
      few h = omega (arith, k.tracks.count, k.tracks.few)

      as_opening : Opens w → Comes xs p opened × FewBlocks w → (w.block ≡ opened) × (opened < max_blocks)
      as_opening q (opening z e, f) = (e, omega arith)
      as_opening q (link z e l m, f) = absurd (omega arith)
      as_opening q (later-use z e l, f) = absurd (omega arith)

      as_link : Links w → Comes xs p opened × FewBlocks w → (w.block + 1 ≡ opened) × (s.before.kind < 2)
      as_link q (opening z e, f) = absurd (omega arith)
      as_link q (link z e l m, f) = (e, rw (k.before l) m)
      as_link q (later-use z e l, f) = absurd (omega arith)

      as_use : (Opens w → ⊥) → (Links w → ⊥) → Comes xs p opened × FewBlocks w → (w.kind ≡ 2) × (w.block + 1 ≡ opened)
      as_use n m (opening z e, f) = absurd (n z)
      as_use n m (link z e l o, f) = absurd (m z)
      as_use n m (later-use z e l, f) = (z, e)

      go : Dec (w.kind ≡ 0) → Dec (w.kind ≡ 1) → Says (may_follow s w) (Comes xs p opened × FewBlocks w)
      go (yes q) d =
          first-case w.kind 0 _ q
          (in_words (equal-then w.block opened (less opened max_blocks)) (λ h. (opening q h.0, omega arith)) (as_opening q))
      go (no n) (yes q) =
          second-case w.kind 0 _ n
          (first-case w.kind 1 _ q
          (in_words (both _ (equal (w.block + 1) opened) (λ h. less s.before.kind 2))
          (λ h. (link q h.0 (behind-row h.0) (rw (k.before (behind-row h.0)) at h.1), few h.0))
          (as_link q)))
      go (no n) (no m) =
          second-case w.kind 0 _ n
          (second-case w.kind 1 _ m
          (in_words (equal-then w.kind 2 (equal (w.block + 1) opened))
          (λ h. (later-use h.0 h.1 (behind-row h.1), few h.1))
          (as_use n m)))

  -- and that this is the sentence.
  pub sequence : Says (may_follow s w) (Keeps xs Sequence p)
  sequence =
      in_words comes
      (λ h. (to-place xs p opened i.0 k.count h.0, h.1))
      (λ h. (from_place xs p opened i.0 k.count h.0, h.1))
