-- What a question comes to at each of its checks: what follows, or the refusal.
use Prim.Native.Nat.{ℕ, ◌≤◌, ◌<◌}
use mathlib.Core.Path.{◌≡◌, ◌∙◌}
use mathlib.Core.Bool.{false}
use mathlib.Core.List.{List}
use lib.ListN.{length}
use Rattle.std.specs.Prelude.{Err}
use Rattle.model.specs.Rules.{is_cue}
use Rattle.model.specs.Blocks.{Block, count}
use Rattle.model.specs.Verdicts.{refusal, Verdict, Accepted}
use Rattle.model.specs.Questions.{Outcome, refuse, on_accepted, with_room, with_cue}
use Rattle.model.specs.declared.Refusal.{Refusal}
use Rattle.basics.proofs.Choices.{lt_then, lt_else, true_then, true_else}

-- The rows.
module _ {A : Type 0} (v : Verdict) (refuse : Refusal → A) (answer : A) where
  pub on-yes : v ≡ Accepted → on_accepted v refuse answer ≡ answer
  unfolding on_accepted
  on-yes e = rw e

  pub on-no : (f : Refusal) → v ≡ Err f → on_accepted v refuse answer ≡ refuse f
  unfolding on_accepted
  on-no f e = rw e

-- The room of a lent list.
module _ (need : ℕ) (lent : List ℕ) (o : Outcome) where
  pub has_room : need ≤ length lent → with_room need lent o ≡ o
  unfolding with_room
  has_room h = lt_else _ _ _ _ h

  pub no_room : length lent < need → with_room need lent o ≡ refuse (refusal 11 0) lent
  unfolding with_room
  no_room h = lt_then _ _ _ _ h

-- A cue.
module _ (bs : List Block) (n : ℕ) (lent : List ℕ) (o : Outcome) where
  pub has-cue : 1 ≤ n → n ≤ count bs → with_cue bs n lent o ≡ o
  unfolding with_cue is_cue
  has-cue low high = true_then _ _ _ (lt_else _ _ _ _ low ∙ lt_else _ _ _ _ high)

  pub no_cue : is_cue (count bs) n ≡ false → with_cue bs n lent o ≡ refuse (refusal 12 0) lent
  unfolding with_cue
  no_cue e = true_else _ _ _ e
