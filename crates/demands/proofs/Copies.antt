-- Copies by their paths: a path of uses leads to a copy exactly if some run of single steps comes to a use that stands there, and that copy is the one which
-- the step puts in.
use Prim.Native.Nat.{ℕ, suc, ◌≤◌, ◌<◌}
use native.Mathlib.Omega.{arith}
use mathlib.Core.Path.{◌≡◌, refl, sym, ◌∙◌, ap}
use mathlib.Core.List.Memᴰ
use mathlib.Core.List.{List, [], ◌∷◌, ◌++◌, append-nil, append_assoc}
use lib.ListN.{length}
use Rattle.std.specs.Prelude.{Ok}
use Rattle.model.specs.Answers.{NumberAnswer}
use Rattle.model.specs.Blocks.{Block, block_at, blocks_of, last_block}
use Rattle.model.specs.Verdicts.{verdict, Accepted}
use Rattle.model.specs.Paths.{number_in}
use Rattle.model.specs.Lists.{range}
use Rattle.model.specs.Asking.{AsksNumber}
use Rattle.shows.specs.Accepted.{Show}
use Rattle.shows.specs.Copies.{Copy, number, meets, copy_of, show_copy, nth_use, part_at, after, Steps, goes}
use Rattle.shows.proofs.Accepted.{accepted-show}
use Rattle.shows.proofs.Ranges.{cue_at-own}
use Rattle.shows.proofs.Locality.{alone_copy}
use Rattle.shows.proofs.Trails.{number-after}
use Rattle.shows.proofs.TracedByPath.{after_block}
use Rattle.demands.specs.Acceptance.{own_in}
use Rattle.demands.specs.Replacement.{Standing, stay, then, join_nodes, begin, nodes_of, nth, end_number}
use Rattle.demands.specs.Copies.{block_at_path, copy_at, StandsInShow, CopiesByPath}
use Rattle.demands.proofs.Blocks.{are-blocks, last-low}
use Rattle.demands.proofs.PutIn.{stand, standing-nth}
use Rattle.demands.proofs.Standing.{Stands, cue-number}
use Rattle.demands.proofs.Replacement.{step-at, each_stands}
use Rattle.demands.proofs.Numbers.{Says, says, none, number-says}

module _ (bs : List Block) where
  -- At the beginning the show stands.
  abbrev whole : Standing
  whole = record { path = []; block = last_block bs; met = join_nodes bs (last_block bs) }

  whole-stands : StandsInShow bs whole
  unfolding begin
  whole-stands = record { many = 0; graph = begin bs (last_block bs); run = stay; stands = Memᴰ.head refl }

  -- Where a use stands, each use of its block does after one step more.
  abbrev below : Standing → ℕ → Standing
  below u p = stand (nodes_of (block_at bs u.block) u) u.path p (nth_use (block_at bs u.block).uses p)

  below-stands : (u : Standing) → StandsInShow bs u → (p : ℕ) → 1 ≤ p → p ≤ length (block_at bs u.block).uses → StandsInShow bs (below u p)
  below-stands u s p x y =
      let (h, step, new) = step-at bs s.graph u s.stands in
      record { many = suc s.many; graph = h; run = then s.run step; stands = new (below u p) (standing-nth _ u.path _ p x y) }

  -- So where each step of a path on from there is a use, a use stands at its end.
  goes_on_is : (u : Standing) → StandsInShow bs u → (base : ℕ) (met path : List ℕ) → Steps (copy_of bs u.block base met) path
      → (w : Standing) × StandsInShow bs w × (w.path ≡ u.path ++ path)
  goes_on_is u s base met [] t = (u, s, sym (append-nil u.path))
  goes_on_is u s base met (p ∷ path) (goes x y t) =
      let z : Copy = copy_of bs u.block base met in
      let (w, r, e) = goes_on_is (below u p) (below-stands u s p x y) (part_at z p).base (meets z (part_at z p)) path t in
      (w, r, e ∙ append_assoc u.path (p ∷ []) path)

module _ (xs : List ℕ) (v : verdict xs ≡ Accepted) where
  abbrev blocks : List Block
  blocks = blocks_of xs

  abbrev last : ℕ
  last = last_block blocks

  shown : Show xs
  shown = accepted-show xs v

  -- The show has no joins, so it is the last block alone.
  show_alone : alone_copy blocks last ≡ show_copy blocks
  unfolding range
  show_alone = rw shown.no_joins

  -- So what holds of each use that stands says what is at the end of its path:
  stands : (u : Standing) → StandsInShow blocks u → Stands blocks last u
  stands u s = each_stands blocks shown.good last (last-low xs v) s.run u s.stands

  -- the number that a cue of its block has there, own cue or join,
  cue-is : (u : Standing) → StandsInShow blocks u → (c : ℕ) → 1 ≤ c
      → number (copy_at xs u.path) c ≡ end_number blocks last (nth (nodes_of (block_at blocks u.block) u) c)
  cue-is u s c low =
      ap (λ (z : Copy). number (after z u.path) c) (sym show_alone)
      ∙ ap (λ (z : Copy). number z c) (stands u s).is
      ∙ sym (cue-number blocks shown.good last (stands u s) c low)

  -- and, for an own cue, that number answers it. (The block at the end of the path is one of the show's.)
  known : (path : List ℕ) → Steps (show_copy blocks) path → block_at_path xs path < length blocks
  known path t = let (u, s, e) = goes_on_is blocks (whole blocks) (whole-stands blocks) 0 [] path t in rw (← e, (stands u s).leads) (stands u s).known

  own-cue : (path : List ℕ) (c : ℕ) (r : NumberAnswer) → Steps (show_copy blocks) path → 1 ≤ c → c ≤ own_in xs (block_at_path xs path)
      → AsksNumber xs path c r → r ≡ Ok (number (copy_at xs path) c)
  own-cue path c r s low high asked = go (number-says xs v path c r asked)
    where
      z : Copy
      z = copy_at xs path

      own : c ≤ z.block.own
      own = rw (after_block blocks shown.good last 0 [] path s, (are-blocks xs v).own (block_at_path xs path) (known path s)) high

      same : number_in blocks last 0 path c ≡ number z c
      same = number-after blocks shown.good last 0 [] path c s low own

      go : Says (number_in blocks last 0 path c) r → r ≡ Ok (number z c)
      go (says some e) = rw same at e
      go (none e _) = absurd (omega (arith, same, cue_at-own z.block.own z.base z.met c own))

  pub copies-by_path : CopiesByPath xs
  copies-by_path =
      record {
        steps = λ path. (
          λ t. goes_on_is blocks (whole blocks) (whole-stands blocks) 0 [] path t,
          λ (u, s, e). rw (← e, ← show_alone) (stands u s).steps,
        );
        block = λ u s. (stands u s).leads;
        cue = λ u s c low high. cue-is u s c low;
        own-cue = own-cue;
      }
