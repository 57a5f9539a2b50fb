-- Rows that were checked: what the verdict says, and that accepted rows are loaded.
use Prim.Native.Nat.{ℕ, ◌≤◌}
use mathlib.Core.Bool.{false≢true}
use mathlib.Core.Path.{◌≡◌, refl, sym, ◌∙◌, ap}
use mathlib.Core.List.{List}
use lib.ListN.{length}
use lib.Seq.{take-length}
use Rattle.std.specs.Prelude.{Ok, Err, is_ok, IsErrAnd, MatchResult}
use Rattle.model.specs.Limits.{max_rows}
use Rattle.model.specs.Verdicts.{verdict, by_line, in_lines, Verdict, Accepted}
use Rattle.model.specs.Questions.{on_accepted}
use Rattle.model.specs.declared.Refusal.{Refusal}
use Rattle.shows.proofs.Outcomes.{on-yes, on-no}
use Rattle.shows.proofs.RefusalPlaces.{place-few}
use Rattle.verdicts.specs.Passing.{IsChecked}
use Rattle.blocks.specs.Loaded.{Loaded}
use Rattle.loading.specs.Loads.{HasLoaded, Loads}

module _ (xs t : List ℕ) (v : Verdict) (c : IsChecked xs t v) where
  pub said-yes : v ≡ Accepted → verdict xs ≡ Accepted
  said-yes e = sym c.said ∙ e

  pub said-no : (f : Refusal) → v ≡ Err f → verdict xs ≡ Err f
  said-no f e = sym c.said ∙ e

  -- What is answered to a question about rows, from the answer for accepted rows, and from the refusal.
  pub asked_yes : {A : Type 0} (refuse : Refusal → A) (o answer : A) → v ≡ Accepted → o ≡ answer → o ≡ on_accepted (verdict xs) refuse answer
  asked_yes refuse o answer e h = h ∙ sym (on-yes (verdict xs) refuse answer (said-yes e))

  pub asked_no : {A : Type 0} (refuse : Refusal → A) (o answer : A) (f : Refusal) → v ≡ Err f → o ≡ refuse f → o ≡ on_accepted (verdict xs) refuse answer
  asked_no refuse o answer f e h = h ∙ sym (on-no (verdict xs) refuse answer f (said-no f e))

  -- What was checked and accepted is loaded.
  pub loaded : v ≡ Accepted → Loaded xs t
  loaded e = let a = said-yes e in record { accepted = a; index = c.table a }

  pub refused-few : (f : Refusal) → v ≡ Err f → f.place ≤ max_rows
  refused-few f e = place-few xs f (said-no f e)

  -- The same of the rows of a file, on which the verdict is w.
  pub has-loaded : (w : Verdict) (n : ℕ) → v ≡ Accepted → w ≡ Accepted → n ≡ length xs → HasLoaded w xs n xs t
  has-loaded w n e a m =
      record {
        accepted = a;
        size = m;
        first = take-length xs;
        loaded = loaded e;
      }

  pub rows-loaded : (n : ℕ) → v ≡ Accepted → n ≡ length xs → Loads (in_lines (verdict xs)) xs (Ok n) xs t
  unfolding Loads in_lines
  rows-loaded n e m = has-loaded (in_lines (verdict xs)) n e (rw (said-yes e)) m

  pub rows-refused : (f f' : Refusal) → v ≡ Err f → f' ≡ by_line f → Loads (in_lines (verdict xs)) xs (Err f') xs t
  unfolding Loads in_lines
  rows-refused f f' e h = rw (said-no f e, h)

-- What `map_err` makes of a verdict: it accepts what the verdict accepts, and its refusal comes of the verdict's.
pub mapped_yes : (v m : Verdict) → is_ok m ≡ is_ok v → m ≡ Accepted → v ≡ Accepted
mapped_yes (Ok _) m e a = refl
mapped_yes (Err f) m e a = absurd (false≢true (sym e ∙ ap is_ok a))

pub mapped_no : (Of : Refusal → Refusal → Type 0) (v m : Verdict) (f : Refusal) → MatchResult v (λ x. m ≡ Ok x) (λ e. IsErrAnd m (Of e)) → m ≡ Err f
    → (e : Refusal) × (v ≡ Err e) × Of e f
mapped_no Of (Ok _) m f p a = absurd (false≢true (ap is_ok (sym a ∙ p)))
mapped_no Of (Err e) m f p a = (e, refl, rw a at p)
