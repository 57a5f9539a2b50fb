-- The quickest way: what quickest answers about cues s and t under a wait file, and leaves in the work area. Document 02, Paper 5: "The quickest answer is the
-- smallest sum of waits over all chains, 64 bits wide, 0 where s is t." What a wait file says: Waits.
use Rattle.std.specs.Prelude.{ℕ, ◌+◌, ◌≤◌, ◌<◌, ◌≡◌, ◌⊎◌, ◌↔◌, length, get_or, Ok, Err, Some, None}
use mathlib.Core.List.{List, Memᴰ}
use Rattle.model.specs.Answers.{FewestAnswer, QuickestAnswer, line_refusal}
use Rattle.model.specs.Blocks.{Link, blocks_of}
use Rattle.model.specs.Unfolding.{show_links}
use Rattle.model.specs.Asking.{AsksFewest}
use Rattle.demands.specs.Acceptance.{Lawful}
use Rattle.demands.specs.Refusals.{NoCue}
use Rattle.demands.specs.Waits.{LawfulWaits, Waits, Malformed, Outside, NotRising}

-- Lasts vss E t s sum is a chain from s to t of the links E, with the sum of its waits: every link of the list waits as its label does, however often it is
-- taken. vss are the lines of the wait file. "a chain has only links with labels 1 to 254" (Paper 3).
pub data Lasts (vss : List (List ℕ)) (E : List Link) (t : ℕ) : ℕ → ℕ → Type 0 where
  here : Lasts vss E t t 0
  link : {wait sum : ℕ} (l : Link) → Memᴰ l E → 1 ≤ l.label → l.label ≤ 254 → Waits vss l.label wait → Lasts vss E t l.to sum
      → Lasts vss E t l.from (wait + sum)

-- What is asked meets none of refusals 4 to 12. "It needs a work area of at least 16,384 64-bit numbers".
pub record Askable (xs : List ℕ) (s t : ℕ) (work : List ℕ) : Type 0 where
  pub lawful : Lawful xs
  pub room : 16384 ≤ length work
  pub start : NoCue xs s → ⊥
  pub end : NoCue xs t → ⊥

-- The answer r under a lawful wait file with the lines vss, where E are the links of the unfolded show.
pub record IsQuickest (xs : List ℕ) (vss : List (List ℕ)) (E : List Link) (s t : ℕ) (r : QuickestAnswer) : Type 0 where
  -- A number exactly when there is a chain from s to t: then it is the sum of such a chain.
  pub found : (sum : ℕ) → Lasts vss E t s sum → (n : ℕ) × (r ≡ Ok (Some n))
  pub chain : (n : ℕ) → r ≡ Ok (Some n) → Lasts vss E t s n
  -- No such chain has a smaller sum.
  pub least : (n sum : ℕ) → r ≡ Ok (Some n) → Lasts vss E t s sum → n ≤ sum
  -- "64 bits wide, 0 where s is t."
  pub in_64_bits : (n : ℕ) → r ≡ Ok (Some n) → n < 18446744073709551616
  pub stays : s ≡ t → r ≡ Ok (Some 0)
  -- Otherwise none: "It is none exactly where the fewest answer is none."
  pub none : (r ≡ Ok None) ↔ ((sum : ℕ) → Lasts vss E t s sum → ⊥)
  pub as_fewest : (work after : List ℕ) (q : FewestAnswer) → 16384 ≤ length work → AsksFewest xs s t work q after → (r ≡ Ok None) ↔ (q ≡ Ok None)

-- "an answer leaves the first 16,384 at 0 and the rest unchanged".
pub record IsCleared (work after : List ℕ) : Type 0 where
  pub first : (p : ℕ) → p < 16384 → get_or after p 1 ≡ 0
  pub beyond : (p : ℕ) → 16384 ≤ p → get_or after p 0 ≡ get_or work p 0
  pub size : length after ≡ length work

-- What is asked of rows xs under the file f, with the answer r: a work area that held work holds after. (Refusals 4 to 12, and that no refusal changes it:
-- `Refusals.Refuses`.)
pub record QuickestExact (xs : List ℕ) (s t : ℕ) (f work : List ℕ) (r : QuickestAnswer) (after : List ℕ) : Type 0 where
  -- "15 with the first malformed line (line 1 for wrong names)",
  pub malformed : (n : ℕ) → (r ≡ Err (line_refusal 15 n)) ↔ (Askable xs s t work × Malformed f n)
  -- "then 16 with the first line whose label or wait is outside its range",
  pub out_of_range : (n : ℕ) → (r ≡ Err (line_refusal 16 n)) ↔ (Askable xs s t work × Outside f n)
  -- "then 17 with the first line whose label isn't above the one before, all after 12".
  pub not-above : (n : ℕ) → (r ≡ Err (line_refusal 17 n)) ↔ (Askable xs s t work × NotRising f n)
  -- It is answered exactly if nothing is refused, and then by the smallest sum.
  pub answered : (((n : ℕ) × (r ≡ Ok (Some n))) ⊎ (r ≡ Ok None)) ↔ (Askable xs s t work × ((vss : List (List ℕ)) × LawfulWaits f vss))
  pub quickest : Askable xs s t work → (vss : List (List ℕ)) → LawfulWaits f vss → IsQuickest xs vss (show_links (blocks_of xs)) s t r
  pub leaves : Askable xs s t work → (vss : List (List ℕ)) → LawfulWaits f vss → IsCleared work after
