-- What a question answers once the rows are checked, from the tests that the code has made.
use Prim.Native.Nat.{ℕ, ◌≤◌}
use mathlib.Core.Path.{◌≡◌, refl, sym, ◌∙◌}
use mathlib.Core.Bool.{Bool, true, false, false≢true}
use mathlib.Core.List.{List}
use lib.ListN.{length}
use Rattle.model.specs.Choice.{if_true}
use Rattle.model.specs.Rules.{is_cue}
use Rattle.model.specs.Blocks.{Block, blocks_of, count}
use Rattle.model.specs.Verdicts.{refusal}
use Rattle.model.specs.Questions.{Outcome, refuse, with_room, with_cue}
use Rattle.basics.proofs.Choices.{true_then, true_else}
use Rattle.shows.proofs.Passed.{is_cue-bounds}
use Rattle.shows.proofs.Outcomes.{has_room}
use Rattle.answers.specs.Asked.{are_cues}

-- b is the test of cue n, and cues the count, as the code has them: a number that is no cue, and a cue.
module _ (bs : List Block) (n cues : ℕ) (b : Bool) (q : b ≡ is_cue cues n) (e : cues ≡ count bs) where
  pub cue-no : b ≡ false → is_cue (count bs) n ≡ false
  cue-no k = rw (← e) (sym q ∙ k)

  pub cue-yes : b ≡ true → (1 ≤ n) × (n ≤ count bs)
  cue-yes k = let c = is_cue-bounds cues n (sym q ∙ k) in (c.0, rw e at c.1)

-- Two tests one after the other are one of both.
two-tests : {A : Type 0} (b d : Bool) (x y : A) → if_true (if_true b d false) x y ≡ if_true b (if_true d x y) y
unfolding if_true
two-tests true d x y = refl
two-tests false d x y = refl

both_true : (b d : Bool) → if_true b d false ≡ true → (b ≡ true) × (d ≡ true)
unfolding if_true
both_true true d e = (refl, e)
both_true false d e = absurd (false≢true e)

-- The same for a question of two cues that has room: b is the test of both.
module _ (lent : List ℕ) (o : Outcome) (need : ℕ) (h : need ≤ length lent) (bs : List Block) (s t cues : ℕ) (b : Bool) (q : b ≡ are_cues cues s t)
    (e : cues ≡ count bs) where
  asked_both : if_true b o (refuse (refusal 12 0) lent) ≡ with_room need lent (with_cue bs s lent (with_cue bs t lent o))
  unfolding are_cues with_cue
  asked_both = rw (q, e) (two-tests (is_cue (count bs) s) (is_cue (count bs) t) o (refuse (refusal 12 0) lent)) ∙ sym (has_room need lent _ h)

  pub no_cues : b ≡ false → refuse (refusal 12 0) lent ≡ with_room need lent (with_cue bs s lent (with_cue bs t lent o))
  no_cues k = sym (true_else _ _ _ k) ∙ asked_both

  pub has-cues : (w : Outcome) → b ≡ true → w ≡ o → w ≡ with_room need lent (with_cue bs s lent (with_cue bs t lent o))
  has-cues w k f = f ∙ sym (true_then _ _ _ k) ∙ asked_both

-- Both are cues of the show.
pub cues-yes : (xs : List ℕ) (s t cues : ℕ) (b : Bool) → b ≡ are_cues cues s t → cues ≡ count (blocks_of xs) → b ≡ true
    → ((1 ≤ s) × (s ≤ count (blocks_of xs))) × ((1 ≤ t) × (t ≤ count (blocks_of xs)))
unfolding are_cues
cues-yes xs s t cues b q e k =
    let (l, r) = both_true (is_cue cues s) (is_cue cues t) (sym q ∙ k) in
    (cue-yes (blocks_of xs) s cues true (sym l) e refl, cue-yes (blocks_of xs) t cues true (sym r) e refl)
