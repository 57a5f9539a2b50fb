-- What is printed as a whole: the beginning and then part by part, until nothing is left, is the text that the model gives for the file.
use Prim.Native.Nat.{ℕ, ◌-◌, ◌≤◌, ◌<◌}
use native.Mathlib.Omega.{arith}
use native.Mathlib.Decide.{dec_lt}
use mathlib.Core.Path.{◌≡◌, sym, ◌∙◌, ap}
use mathlib.Core.Bool.{true, false}
use mathlib.Core.List.{List, [], ◌++◌, flat_map}
use lib.ListN.{take}
use Rattle.model.specs.Blocks.{Block, blocks_of, count}
use Rattle.model.specs.Lists.{range}
use Rattle.model.specs.Printed.{printed}
use Rattle.basics.proofs.Choices.{lt_then, lt_else}
use Rattle.printed.specs.Parts.{end_of, lines_after, rest_of, is_going, TextBegun, Run, ends, goes}
use Rattle.std.specs.Prelude.{Some}
use Rattle.printed.specs.declared.Links.{Links}
use Rattle.printed.specs.declared.Begun.{Begun}
use Rattle.printed.proofs.Parts.{no_lines}

-- Where nothing is to look at, there is no line.
module _ (bs : List Block) (m : List ℕ) (u p : ℕ) (e : is_going (count bs) u p ≡ false) where
  no_more : true ≡ false → ⊥
  no_more g = let z : ◌≡◌ {A = ℕ} 0 1 = cc in omega arith

  past : end_of (count bs) ≤ p
  unfolding is_going
  past = go (dec_lt p (end_of (count bs)))
    where
      go : Dec (p < end_of (count bs)) → end_of (count bs) ≤ p
      go (yes h) = absurd (no_more (sym (lt_then p (end_of (count bs)) _ _ h) ∙ e))
      go (no h) = omega arith

  last : count bs ≤ u
  unfolding is_going
  last = go (dec_lt u (count bs))
    where
      go : Dec (u < count bs) → count bs ≤ u
      go (yes h) = absurd (no_more (sym (lt_else p (end_of (count bs)) _ _ past ∙ lt_then u (count bs) _ _ h) ∙ e))
      go (no h) = omega arith

  nothing_left : rest_of bs m u p ≡ []
  unfolding rest_of lines_after range flat_map
  nothing_left =
      let z : count bs - u ≡ 0 = omega (arith, last) in
      ap (λ zs. zs ++ lines_after bs u) (no_lines m u (end_of (count bs)) p past) ∙ rw z

-- All that a run of parts puts out is what was to come.
pub run-text : (bs : List Block) {m text : List ℕ} {u p : ℕ} → Run bs m u p text → text ≡ rest_of bs m u p
run-text bs {m} {text} {u} {p} (ends e) = sym (nothing_left bs m u p e)
run-text bs (goes {after = after} {r = r} part run) = ap (λ zs. take r.used after ++ zs) (run-text bs run) ∙ sym part.text

-- So the whole text is the one of the file.
pub whole-text : (file rows t out m text : List ℕ) (r : Begun) (k : Links) → TextBegun file rows t out r → r.coming ≡ Some k
    → Run (blocks_of (take k.size rows)) m 0 (end_of k.cues) text → take r.used out ++ text ≡ printed file
whole-text file rows t out m text r k b e run =
    ap (λ zs. take r.used out ++ zs) (run-text (blocks_of (take k.size rows)) run) ∙ sym (b.text k e m)
