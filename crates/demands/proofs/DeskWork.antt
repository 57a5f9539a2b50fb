-- The work area after rows that were read the second way has the summaries of the built-in table.
use Prim.Native.Nat.{ℕ, ◌+◌, ◌*◌, ◌≤◌, ◌<◌}
use native.Mathlib.Omega.{arith}
use mathlib.Core.Path.{◌≡◌, ◌∙◌, ap}
use mathlib.Core.List.{List}
use lib.ListN.{length, get_or, take}
use Rattle.std.specs.Prelude.{Ok}
use Rattle.model.specs.Answers.{FewestAnswer, show_size}
use Rattle.model.specs.Limits.{row_size}
use Rattle.model.specs.Blocks.{blocks_of}
use Rattle.model.specs.Chains.{fewest}
use Rattle.model.specs.Summaries.{summary, work_after}
use Rattle.model.specs.Desk.{built_in_numbers}
use Rattle.model.specs.Questions.{Outcome, answer}
use Rattle.model.specs.Asking.{AsksDeskRead, AsksFewest}
use Rattle.demands.specs.Desk.{HasDeskSummaries}
use Rattle.demands.specs.WorkArea.{place}
use Rattle.demands.proofs.DeskTable.{table-fact}
use Rattle.demands.proofs.DeskReading.{DeskLeft, desk_left}
use Rattle.demands.proofs.Shortest.{said}
use Rattle.demands.proofs.WorkArea.{holds}

pub has-desk_summaries : (file out after : List ℕ) (rows blocks cues : ℕ) → AsksDeskRead file out (Ok (show_size rows blocks cues)) after
    → (s t : ℕ) (work after' : List ℕ) (r : FewestAnswer) → 1 ≤ s → s ≤ cues → 1 ≤ t → t ≤ cues → 16384 ≤ length work
    → AsksFewest (take (rows * row_size) after) s t work r after' → HasDeskSummaries after'
unfolding answer
has-desk_summaries file out after rows blocks cues e s t work after' r low high low' high' room e' k h = go (desk_left file out after rows blocks cues e)
  where
    xs : List ℕ
    xs = take (rows * row_size) after

    go : DeskLeft xs cues → (get_or after' (place k 1 2) 0 ≡ k + 2) × (get_or after' (place k 2 1) 0 ≡ 4294967295)
    go d = (
      at 1 2 (omega arith) (omega arith) ∙ table-fact.there k h,
      at 2 1 (omega arith) (omega arith) ∙ table-fact.back k h,
    )
      where
        few : k < length (blocks_of xs)
        few = omega (arith, d.blocks)

        left : after' ≡ work_after (blocks_of xs) work
        left =
            ap (λ (o : Outcome). o.after)
            (said xs d.accepted s t work after' r low (omega (arith, d.cues-are)) low' (omega (arith, d.cues-are)) room e')

        at : (i j : ℕ) → (1 ≤ i) × (i ≤ 8) → (1 ≤ j) × (j ≤ 8) → get_or after' (place k i j) 0 ≡ summary (blocks_of built_in_numbers) k i j
        at i j a b = rw left (holds fewest xs work d.accepted room k i j few a.0 a.1 b.0 b.1 ∙ d.same fewest k i j h)
