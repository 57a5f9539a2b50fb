-- Parts of the questions, as the answers have them.
use Rattle.std.specs.Prelude.{ℕ, ◌≤◌, Bool, false, List}
use Rattle.model.specs.Choice.{if_true}
use Rattle.model.specs.Rules.{is_cue}
use Rattle.model.specs.Blocks.{Block, blocks_of, count}
use Rattle.model.specs.Unfolding.{show_links}
use Rattle.model.specs.Verdicts.{verdict}
use Rattle.model.specs.Chains.{fewest}
use Rattle.model.specs.Summaries.{work_after}
use Rattle.model.specs.Questions.{Outcome, refuse, answer, on_accepted, with_cue, listed, distance_values}
use Rattle.lists.specs.Answer.{linked_cues}

-- "List out, or in, of cue v after n", of a loaded show and of rows.
unfoldable pub list_of : Bool → List Block → ℕ → ℕ → List ℕ → Outcome
list_of inward bs v n page = with_cue bs v page (listed (linked_cues inward bs v n) page)

unfoldable pub list_asked : Bool → List ℕ → ℕ → ℕ → List ℕ → Outcome
list_asked inward xs v n page = on_accepted (verdict xs) (λ r. refuse r page) (list_of inward (blocks_of xs) v n page)

-- s and t are cues of a show that has so many.
unfoldable pub are_cues : ℕ → ℕ → ℕ → Bool
are_cues cues s t = if_true (is_cue cues s) (is_cue cues t) false

-- "Fewest from s to t", where both are cues and the work area is large enough.
unfoldable pub between : List Block → ℕ → ℕ → List ℕ → Outcome
between bs s t work = answer (distance_values (fewest (show_links bs) (count bs) s t)) (work_after bs work)
