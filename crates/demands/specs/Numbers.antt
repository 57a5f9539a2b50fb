-- Numbers and paths: what count, locate and number answer, and locate leaves in the lent list. Document 01, "Unfolding": "a copy numbers its own
-- cues first, then the cues of its uses in order. The show's copy begins at 1. A join has no number of its own; it has that of the cue it
-- meets. The path of a cue is the list of use positions (1 for the block's first use) from the show down to the copy that owns it".
use Rattle.std.specs.Prelude.{ℕ, ◌≤◌, ◌<◌, ◌≡◌, ◌⊎◌, ◌↔◌, length, take, Ok, Err}
use mathlib.Core.List.{List, [], ◌∷◌, Memᴰ}
use Rattle.model.specs.Answers.{CountAnswer, NumberAnswer, LocateAnswer, cue_place}
use Rattle.model.specs.Limits.{max_depth}
use Rattle.model.specs.Rows.{row_count}
use Rattle.model.specs.Blocks.{blocks_of, last_block, count}
use Rattle.model.specs.Verdicts.{refusal}
use Rattle.shows.specs.Numbering.{block_after}
use Rattle.model.specs.Asking.{AsksLocate, AsksNumber}
use Rattle.demands.specs.Buffers.{Leaves}
use Rattle.demands.specs.Acceptance.{nth_row, own_in, AreTotals}
use Rattle.demands.specs.Replacement.{Node, Graph, Ended, node_number}

abbrev pub node : List ℕ → ℕ → Node
node path c = record { path = path; own = c }

-- "a copy numbers its own cues first, then the cues of its uses in order": of two cues of a copy, by their paths from the copy and their own
-- cues, the first comes before the second.
pub data Before : List ℕ → ℕ → List ℕ → ℕ → Type 0 where
  own-order : {c d : ℕ} → c < d → Before [] c [] d
  own_first : {c d p : ℕ} {path : List ℕ} → Before [] c (p ∷ path) d
  use_order_lem : {c d p q : ℕ} {path way : List ℕ} → p < q → Before (p ∷ path) c (q ∷ way) d
  same-use : {c d p q : ℕ} {path way : List ℕ} → p ≡ q → Before path c way d → Before (p ∷ path) c (q ∷ way) d

-- What count answers: "the total of the show", which is the last block, and so many cues the unfolded show has, by whatever steps. The rows have
-- totals, and whoever gives them gives the show this one.
pub record IsCount (xs : List ℕ) (r : CountAnswer) : Type 0 where
  pub answer : r ≡ Ok (count (blocks_of xs))
  pub totals : (T : ℕ → ℕ) × AreTotals xs T
  pub total : (T : ℕ → ℕ) → AreTotals xs T → T (nth_row xs (row_count xs)).block ≡ count (blocks_of xs)
  pub cues : {m : ℕ} {g : Graph} → Ended (blocks_of xs) (last_block (blocks_of xs)) m g → length g.cues ≡ count (blocks_of xs)

-- What number answers about a path and an own cue.
pub record IsNumber (xs path : List ℕ) (c : ℕ) (r : NumberAnswer) : Type 0 where
  -- It answers exactly if the unfolded show, by whatever steps, has this cue; else the refusal is 13.
  pub exactly : {m : ℕ} {g : Graph} → Ended (blocks_of xs) (last_block (blocks_of xs)) m g → ((n : ℕ) × (r ≡ Ok n)) ↔ Memᴰ (node path c) g.cues
  pub refused : ((n : ℕ) × (r ≡ Ok n)) ⊎ (r ≡ Err (refusal 13 0))
  -- The number is that of the cue in the unfolded show, one of 1 to the count, and locate leads from it back to the path and the own cue.
  pub number : (n : ℕ) → r ≡ Ok n → n ≡ node_number (blocks_of xs) (last_block (blocks_of xs)) (node path c)
  pub range : (n : ℕ) → r ≡ Ok n → (1 ≤ n) × (n ≤ count (blocks_of xs))
  pub back : (n : ℕ) → r ≡ Ok n → (lent after : List ℕ) (a : LocateAnswer) → max_depth ≤ length lent → AsksLocate xs n lent a after
      → ((block : ℕ) × (a ≡ Ok (cue_place (length path) block c))) × (take (length path) after ≡ path)
  -- Of two cues the one that comes before has the smaller number.
  pub in_order_is : (m : ℕ) → r ≡ Ok m → (way : List ℕ) (d n : ℕ) → AsksNumber xs way d (Ok n) → Before path c way d → m < n

-- What locate answers about cue n, and leaves in the lent list.
pub record IsLocated (xs : List ℕ) (n : ℕ) (lent : List ℕ) (r : LocateAnswer) (after : List ℕ) : Type 0 where
  -- "depth, block and own cue; the path goes to the first depth numbers of a lent list", "the depth is the length of this path, 0 to 127".
  pub path : List ℕ
  pub block : ℕ
  pub own : ℕ
  pub answer : r ≡ Ok (cue_place (length path) block own)
  pub leaves : Leaves path lent after
  pub deep : length path ≤ max_depth
  -- The path leads to a copy of this block, whose own cue it is: a cue of the unfolded show, by whatever steps.
  pub leads : block_after (blocks_of xs) (last_block (blocks_of xs)) path ≡ block
  pub owned : (1 ≤ own) × (own ≤ own_in xs block)
  pub cue : {m : ℕ} {g : Graph} → Ended (blocks_of xs) (last_block (blocks_of xs)) m g → Memᴰ (node path own) g.cues
  -- number leads from it back to n, and from no other path and own cue.
  pub back : (a : NumberAnswer) → AsksNumber xs path own a → a ≡ Ok n
  pub only : (way : List ℕ) (d : ℕ) → AsksNumber xs way d (Ok n) → (way ≡ path) × (d ≡ own)
