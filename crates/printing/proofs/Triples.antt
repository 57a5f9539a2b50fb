-- The lines of a show's links are those of the marked places, cue by cue.
use Prim.Native.Nat.{ℕ, zero, suc, ◌+◌, ◌*◌, ◌-◌, ◌/◌, ◌%◌, ◌≤◌, ◌<◌}
use native.Mathlib.Omega.{arith}
use mathlib.Core.Path.{◌≡◌, refl, sym, ◌∙◌, ap, ap₂}
use mathlib.Core.Bool.{Bool, true, false}
use mathlib.Core.List.{List, [], ◌∷◌, ◌++◌, flat_map}
use lib.ListN.{get_or}
use Rattle.model.specs.Limits.{max_label, printed_cues}
use Rattle.model.specs.Answers.{flag}
use Rattle.model.specs.Blocks.{Link, Block, count}
use Rattle.model.specs.Unfolding.{show_links}
use Rattle.model.specs.Lists.{range, keep}
use Rattle.model.specs.Printed.{is_triple, triples_of, triples, values_text, links_title, cues_title, show_text}
use Rattle.basics.proofs.Choices.{lt_then, lt_else, true_else}
use Rattle.triples.specs.Marks.{label_places, Marked}
use Rattle.printing.specs.Stream.{link_line, cue_lines, line_of, marked, marks_from, lines_from}
use Rattle.printing.proofs.Marks.{is-marked, not-marked}
use Rattle.printing.proofs.Texts.{flat_same, flat-map, flat_flat, flat_keep, flat_parts, range-first}

-- A byte of 0 is no mark.
zero-mark : (m : List ℕ) (p : ℕ) → get_or m p 0 ≡ 0 → marked m p ≡ false
zero-mark m p e = not-marked m p (λ o. let z : ◌≡◌ {A = ℕ} 0 1 = sym e ∙ o in omega arith)

module _ (E : List Link) (u n : ℕ) (m : List ℕ) (w : Marked E u n m) where
  module _ (v : ℕ) (low : 1 ≤ v) (high : v ≤ n) where
    -- The mark of a label says whether there is such a link, and its line is the link's.
    mark_is : (label : ℕ) → 1 ≤ label → label < label_places → marked m (label_places * v + label) ≡ is_triple E u v label
    unfolding flag
    mark_is label h k = go (is_triple E u v label) (w.at v label low high h k)
      where
        go : (t : Bool) → get_or m (label_places * v + label) 0 ≡ flag t → marked m (label_places * v + label) ≡ t
        go true e = is-marked m _ e
        go false e = zero-mark m _ e

    line_is : (label : ℕ) → label < label_places → line_of u (label_places * v + label) ≡ values_text (u ∷ v ∷ label ∷ [])
    unfolding line_of
    line_is label k =
        let a : (label_places * v + label) / label_places ≡ v = omega arith in
        let b : (label_places * v + label) % label_places ≡ label = omega arith in
        rw (a, b)

    -- The lines of the labels from a on.
    labels_lines : (a k : ℕ) → 1 ≤ a → a + k ≤ label_places
        → flat_map (λ label. values_text (u ∷ v ∷ label ∷ [])) (keep (is_triple E u v) (range a k))
        ≡ flat_map (line_of u) (keep (marked m) (range (label_places * v + a) k))
    unfolding range keep flat_map
    labels_lines a zero h l = refl
    labels_lines a (suc k) h l =
        let s : label_places * v + suc a ≡ suc (label_places * v + a) = omega arith in
        let rest = rw s at (labels_lines (suc a) k (omega arith) (omega arith)) in
        flat_keep (λ label. values_text (u ∷ v ∷ label ∷ [])) (is_triple E u v) a (range (suc a) k)
        ∙ (rw (← mark_is a h (omega arith), ← line_is a (omega arith), rest))
        ∙ sym (flat_keep (line_of u) (marked m) (label_places * v + a) (range (suc (label_places * v + a)) k))

    -- The lines of the links to cue v. Label 0 is never marked.
    cue-lines : flat_map link_line (triples_of E u v) ≡ flat_map (line_of u) (keep (marked m) (range (label_places * v) label_places))
    unfolding triples_of
    cue-lines =
        let s : label_places * v + 1 ≡ suc (label_places * v) = omega arith in
        flat-map link_line _ (keep (is_triple E u v) (range 1 max_label))
        ∙ (rw s at (labels_lines 1 max_label (omega arith) (omega arith)))
        ∙ sym (ap (λ (xs : List ℕ). flat_map (line_of u) (keep (marked m) xs)) (range-first (label_places * v) max_label)
        ∙ flat_keep (line_of u) (marked m) (label_places * v) (range (suc (label_places * v)) max_label)
        ∙ (rw (true_else _ (line_of u (label_places * v)) [] (zero-mark m _ (w.none v low high)))))

  -- The lines of the links to a cue.
  to_cue : ℕ → List ℕ
  to_cue v = flat_map link_line (triples_of E u v)

  -- The lines of the marks among k places from p on.
  places : ℕ → ℕ → List ℕ
  places p k = flat_map (line_of u) (keep (marked m) (range p k))

  -- So the lines of the links to k cues from v on are those of 256 places for each.
  no_lines : (v : ℕ) → flat_map to_cue (range v 0) ≡ places (label_places * v) (label_places * 0)
  unfolding range keep flat_map places
  no_lines v = refl

  more-lines : (v k : ℕ) → flat_map to_cue (range v (suc k)) ≡ to_cue v ++ flat_map to_cue (range (suc v) k)
  unfolding flat_map
  more-lines v k = ap (flat_map to_cue) (range-first v k)

  more-places : (p k : ℕ) → places p (label_places * suc k) ≡ places p label_places ++ places (p + label_places) (label_places * k)
  unfolding places
  more-places p k =
      let s : label_places * suc k ≡ label_places + label_places * k = omega arith in
      ap (places p) s ∙ flat_parts (line_of u) (marked m) p label_places (label_places * k)

  cues-lines : (v k : ℕ) → 1 ≤ v → v + k ≤ suc n → flat_map to_cue (range v k) ≡ places (label_places * v) (label_places * k)
  unfolding places to_cue
  cues-lines v zero h l = no_lines v
  cues-lines v (suc k) h l =
      let t : label_places * suc v ≡ label_places * v + label_places = omega arith in
      more-lines v k
      ∙ ap₂ ◌++◌ (cue-lines v h (omega arith)) (cues-lines (suc v) k (omega arith) (omega arith) ∙ ap (λ (p : ℕ). places p (label_places * k)) t)
      ∙ sym (more-places (label_places * v) k)

  -- The lines of the links from a cue are those of its marked places.
  pub marked-lines : cue_lines E u n ≡ lines_from m u label_places (label_places * n + label_places)
  unfolding lines_from marks_from places to_cue
  marked-lines =
      let s : label_places * n + label_places - label_places ≡ label_places * n = omega arith in
      rw s (cues-lines 1 n (omega arith) (omega arith))

-- The lines of a show's links, cue by cue.
pub triples-lines : (bs : List Block) → flat_map link_line (triples bs) ≡ flat_map (λ u. cue_lines (show_links bs) u (count bs)) (range 1 (count bs))
unfolding triples
triples-lines bs =
    flat_flat link_line _ (range 1 (count bs)) ∙ flat_same _ _ (λ u. flat_flat link_line _ (range 1 (count bs))) (range 1 (count bs))

-- So that is what is printed of a show with at most 1,000 cues, and of any other only the count.
pub show_lines : (bs : List Block) → count bs ≤ printed_cues
    → show_text bs ≡ links_title ++ flat_map (λ u. cue_lines (show_links bs) u (count bs)) (range 1 (count bs))
unfolding show_text
show_lines bs h = lt_else _ _ _ _ h ∙ ap (λ (w : List ℕ). links_title ++ w) (triples-lines bs)

pub show_count : (bs : List Block) → printed_cues < count bs → show_text bs ≡ cues_title ++ values_text (count bs ∷ [])
unfolding show_text
show_count bs h = lt_then _ _ _ _ h
