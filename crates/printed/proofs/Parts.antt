-- Laws of the parts.
use Prim.Native.Nat.{ℕ, suc, ◌+◌, ◌*◌, ◌-◌, ◌≤◌, ◌<◌}
use native.Mathlib.Omega.{arith}
use native.Mathlib.Decide.{dec_lt}
use lib.Dec.{ltb}
use borrow.Author.Tests.{lt-ltb, le-ltb}
use mathlib.Core.Path.{◌≡◌, refl, sym, ◌∙◌, ap}
use mathlib.Core.Bool.{Bool, true, false}
use mathlib.Core.List.{List, [], ◌++◌, flat_map, append_assoc}
use lib.ListN.{take}
use Rattle.model.specs.Limits.{printed_cues}
use Rattle.model.specs.Blocks.{Block, blocks_of, count}
use Rattle.model.specs.Lists.{range, keep}
use Rattle.model.specs.Unfolding.{show_links}
use Rattle.basics.proofs.Choices.{lt_then, lt_else}
use Rattle.triples.specs.Marks.{label_places, Marked}
use Rattle.printing.specs.Stream.{cue_lines, marks_from, lines_from, Fills}
use Rattle.printing.proofs.Triples.{marked-lines}
use Rattle.printed.specs.Parts.{end_of, lines_after, rest_of, is_going, Prints, Stands, Part}

-- At the end of a table there is no line.
pub no_lines : (m : List ℕ) (u e p : ℕ) → e ≤ p → lines_from m u p e ≡ []
unfolding lines_from marks_from range keep flat_map
no_lines m u e p h = let z : e - p ≡ 0 = omega arith in rw z

-- The lines of the next cue come first among those of the cues after u.
pub next-lines : (bs : List Block) (u : ℕ) → u < count bs → lines_after bs u ≡ cue_lines (show_links bs) (suc u) (count bs) ++ lines_after bs (suc u)
unfolding lines_after range flat_map
next-lines bs u h = let e : count bs - u ≡ suc (count bs - suc u) = omega arith in rw e

-- The tests for something to come.
module _ (cues u p w : ℕ) (same : w ≡ cues) where
  pub going_here : p < label_places * w + label_places → ltb p (label_places * w + label_places) ≡ is_going cues u p
  unfolding is_going
  going_here h = lt-ltb p (label_places * w + label_places) h ∙ sym (lt_then p (end_of cues) _ _ (omega arith))

  going_next : label_places * w + label_places ≤ p → u < cues → true ≡ is_going cues u p
  unfolding is_going
  going_next h l = sym (lt_else p (end_of cues) _ _ (omega arith) ∙ lt_then u cues _ _ l)

  going_not : label_places * w + label_places ≤ p → cues ≤ u → false ≡ is_going cues u p
  unfolding is_going
  going_not h l = sym (lt_else p (end_of cues) _ _ (omega arith) ∙ lt_else u cues _ _ l)

  pub going_else : label_places * w + label_places ≤ p → ltb u cues ≡ is_going cues u p
  going_else h = go (dec_lt u cues)
    where
      go : Dec (u < cues) → ltb u cues ≡ is_going cues u p
      go (yes l) = lt-ltb u cues l ∙ going_next h l
      go (no n) = le-ltb u cues (omega arith) ∙ going_not h (omega arith)

-- A part of the lines of the cue at hand.
module _ (xs t : List ℕ) (cues : ℕ) (g : Prints xs t cues) (u p : ℕ) (m : List ℕ) (s : Stands (blocks_of xs) m u p) (w : ℕ) (same : w ≡ cues) where
  abbrev bs : List Block
  bs = blocks_of xs

  ends : label_places * w + label_places ≡ end_of (count bs)
  ends = omega (arith, g.all)

  module _ (out after : List ℕ) (place used : ℕ) where
    pub part-here : Fills m u p (label_places * w + label_places) out place used after → p < label_places * w + label_places
        → Part bs u p m out (record { «from» = u; place = place; used = used }) m after
    unfolding rest_of
    part-here f h =
        record {
          stands = record { long = s.long; cue = s.cue; place = omega (arith, f.upto, ends); marks = λ g. s.marks (omega (arith, ends)) };
          fits = f.fits;
          long = f.long;
          text = ap (λ zs. zs ++ lines_after bs u) (rw ends at f.text) ∙ append_assoc (take used after) _ (lines_after bs u);
          gets_on = λ room q. omega (arith, f.gets_on room h, f.upto, g.few);
        }

    -- A part of those of the next one.
    pub part-next : (m' : List ℕ) → Marked (show_links bs) (u + 1) (count bs) m' → Fills m' (u + 1) label_places (label_places * w + label_places) out place used after
        → label_places * w + label_places ≤ p → u < cues → Part bs u p m out (record { «from» = u + 1; place = place; used = used }) m' after
    unfolding rest_of
    part-next m' marked f h l =
        let k : u + 1 ≡ suc u = omega arith in
        let lines : cue_lines (show_links bs) (suc u) (count bs) ≡ take used after ++ lines_from m' (u + 1) place (end_of (count bs)) =
        ap (λ v. cue_lines (show_links bs) v (count bs)) (sym k) ∙ marked-lines (show_links bs) (u + 1) (count bs) m' marked ∙ rw ends at f.text in
        record {
          stands = record { long = marked.long; cue = omega (arith, g.all); place = omega (arith, f.upto, ends); marks = λ q. marked };
          fits = f.fits;
          long = f.long;
          text =
              ap (λ zs. zs ++ lines_after bs u) (no_lines m u (end_of (count bs)) p (omega (arith, ends)))
              ∙ next-lines bs u (omega (arith, g.all))
              ∙ ap (λ zs. zs ++ lines_after bs (suc u)) lines
              ∙ append_assoc (take used after) _ (lines_after bs (suc u))
              ∙ rw k;
          gets_on = λ room q. omega (arith, f.upto, f.from, g.few);
        }

  -- Nothing is left.
  pub part_none : (out : List ℕ) → label_places * w + label_places ≤ p → cues ≤ u → Part bs u p m out (record { «from» = u; place = p; used = 0 }) m out
  part_none out h l =
      record {
        stands = s;
        fits = omega arith;
        long = refl;
        text = refl;
        gets_on = λ room q.
            let z : ◌≡◌ {A = Bool} false true = going_not (count bs) u p w (same ∙ g.all) h (omega (arith, g.all)) ∙ q in
            let o : ◌≡◌ {A = ℕ} 0 1 = cc in
            absurd (omega arith);
      }

-- What the table of the next cue asks for.
pub cue-asks : (xs t : List ℕ) (cues u : ℕ) → Prints xs t cues → u < cues
    → (1 ≤ u + 1) × (u + 1 ≤ count (blocks_of xs)) × (count (blocks_of xs) ≤ printed_cues)
cue-asks xs t cues u g h = (omega arith, omega (arith, g.all), omega (arith, g.all, g.few))
