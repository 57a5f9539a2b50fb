-- The answers on linked cues.
use Prim.Native.Nat.{ℕ, ◌≤◌}
use mathlib.Core.Path.{◌≡◌, sym, ◌∙◌}
use mathlib.Core.Bool.{Bool, true, false}
use mathlib.Core.List.{List}
use Rattle.std.specs.Prelude.{Ok, Err}
use Rattle.model.specs.Choice.{if_true}
use Rattle.model.specs.Rules.{is_cue}
use Rattle.model.specs.Blocks.{blocks_of, count}
use Rattle.model.specs.Verdicts.{refusal}
use Rattle.model.specs.Answers.{of_list}
use Rattle.model.specs.Questions.{Outcome, outcome, refuse, answer, listed, list_in, out_asked, in_asked}
use Rattle.lists.specs.Answer.{linked_cues, IsListed}
use Rattle.model.specs.declared.Listed.{Listed}
use Rattle.answers.specs.Asked.{list_of, list_asked}
use Rattle.shows.proofs.Outcomes.{has-cue, no_cue}
use Rattle.answers.proofs.Outcomes.{cue-no, cue-yes}

-- b is the test of cue v.
module _ (xs : List ℕ) (v cues : ℕ) (b : Bool) (q : b ≡ is_cue cues v) (e : cues ≡ count (blocks_of xs)) where
  -- What is no cue has no list.
  pub list_no : (inward : Bool) (n : ℕ) (page : List ℕ) → b ≡ false
      → outcome (of_list (Err (record { number = 12; place = 0 }))) page ≡ list_of inward (blocks_of xs) v n page
  unfolding of_list list_of refuse refusal
  list_no inward n page k = sym (no_cue (blocks_of xs) v page _ (cue-no (blocks_of xs) v cues b q e k))

  pub find_asks : b ≡ true → (1 ≤ v) × (v ≤ count (blocks_of xs))
  find_asks = cue-yes (blocks_of xs) v cues b q e

  -- The list of a cue, whose place was found.
  pub list_done : (inward : Bool) (n : ℕ) (page after : List ℕ) (u : ℕ) (r : Listed) → b ≡ true → u ≡ v
      → IsListed (linked_cues inward (blocks_of xs) u n) page after r
      → outcome (of_list (Ok r)) after ≡ list_of inward (blocks_of xs) v n page
  unfolding of_list list_of listed answer
  list_done inward n page after u r k w l =
      let c = cue-yes (blocks_of xs) v cues b q e k in
      rw (l.written, l.more, l.filled, w) (sym (has-cue (blocks_of xs) v page _ c.0 c.1))

-- Out and in.
pub list_out : (xs : List ℕ) (v n : ℕ) (page : List ℕ) (inward : Bool) (o : Outcome) → inward ≡ false → o ≡ list_asked inward xs v n page → o ≡ out_asked xs v n page
unfolding list_asked list_of linked_cues out_asked list_in if_true
list_out xs v n page inward o b e = e ∙ rw b

pub list_in_lem : (xs : List ℕ) (v n : ℕ) (page : List ℕ) (inward : Bool) (o : Outcome) → inward ≡ true → o ≡ list_asked inward xs v n page → o ≡ in_asked xs v n page
unfolding list_asked list_of linked_cues in_asked list_in if_true
list_in_lem xs v n page inward o b e = e ∙ rw b
