-- The first row that leads from one cue to another, the place of a number, and the cue of a copy that a number is.
use Prim.Native.Nat.{ℕ, suc, ◌+◌, ◌-◌, ◌≤◌, ◌<◌}
use native.Mathlib.Omega.{arith}
use native.Mathlib.Decide.{dec_lt}
use mathlib.Core.Path.{◌≡◌, refl, sym, ◌∙◌, ap}
use mathlib.Core.Logic.{◌≢◌}
use mathlib.Core.Bool.{false≢true}
use mathlib.Core.List.{List, []}
use lib.ListN.{length, get_or, take}
use Rattle.std.specs.Prelude.{◌==◌, None, Some, position}
use Rattle.std.specs.List.{position_or_len}
use Rattle.std.proofs.lemmas.Bool.{eqb-true, eq-eqb}
use Rattle.std.proofs.lemmas.Grind.{common_steps}
use Rattle.std.proofs.lemmas.List.{length-take}
use Rattle.std.proofs.lemmas.List.Quantifiers.{position-Some}
use Rattle.std.proofs.lemmas.List.Sums.{fails_before_first}
use Rattle.model.specs.Limits.{max_joins, max_total}
use Rattle.model.specs.Choice.{if_eq}
use Rattle.model.specs.Blocks.{Block, block_at, joins_of, own_of, blocks_of}
use Rattle.basics.proofs.Choices.{eq_then, eq_else}
use Rattle.shows.specs.WellFormed.{Cue}
use Rattle.shows.specs.Copies.{number}
use Rattle.shows.proofs.Ranges.{cue_at-own, cue_at-join}
use Rattle.shows.proofs.AtBlock.{joins-small}
use Rattle.shows.proofs.BlockAt.{own_of_at, joins_of-at, total-at}
use Rattle.verdicts.specs.Index.{link_at, links_from, use_at}
use Rattle.blocks.specs.Loaded.{Loaded}
use Rattle.blocks.proofs.Loaded.{loaded-show, links_from-next}
use Rattle.copies.specs.Copies.{IsCopy, framed}
use Rattle.copies.specs.declared.Frame.{Frame}
use Rattle.behind.specs.declared.Lead.{Lead}
use Rattle.behind.specs.Leads.{row_between, MayFollow}
use Rattle.behind.specs.Ways.{SeenAs}

-- The answer of the link rows from r on, before end.
abbrev pub row_from : List ℕ → ℕ → ℕ → ℕ → ℕ → ℕ
row_from xs x y r end = row_between x y (r + 1) (links_from xs r (end - r))

module _ (xs : List ℕ) (x y r end : ℕ) (h : r < end) where
  -- Row r decides, or those behind it do.
  row_next : row_from xs x y r end
      ≡ if_eq (link_at xs r).from x (if_eq (link_at xs r).to y (r + 1) (row_from xs x y (r + 1) end)) (row_from xs x y (r + 1) end)
  unfolding row_between
  row_next =
      let e : suc (r + 1) ≡ r + 1 + 1 = omega arith in
      rw (← e) (ap (row_between x y (r + 1)) (links_from-next xs r end h))

  pub row-hit : (a b n : ℕ) → a ≡ (link_at xs r).from → a ≡ x → b ≡ (link_at xs r).to → b ≡ y → row_from xs x y r end ≡ n → r + 1 ≡ n
  row-hit a b n e p f q w = sym (row_next ∙ eq_then _ _ _ _ (sym e ∙ p) ∙ eq_then _ _ _ _ (sym f ∙ q)) ∙ w

  pub row_from_is : (a n : ℕ) → a ≡ (link_at xs r).from → (a ≡ x → ⊥) → row_from xs x y r end ≡ n → row_from xs x y (r + 1) end ≡ n
  row_from_is a n e p w = sym (row_next ∙ eq_else _ _ _ _ (λ z. p (e ∙ z))) ∙ w

  pub row-to : (a b n : ℕ) → a ≡ (link_at xs r).from → a ≡ x → b ≡ (link_at xs r).to → (b ≡ y → ⊥) → row_from xs x y r end ≡ n
      → row_from xs x y (r + 1) end ≡ n
  row-to a b n e p f q w = sym (row_next ∙ eq_then _ _ _ _ (sym e ∙ p) ∙ eq_else _ _ _ _ (λ z. q (f ∙ z))) ∙ w

pub row-none : (xs : List ℕ) (x y r end n : ℕ) → end ≤ r → row_from xs x y r end ≡ n → n ≡ 0
unfolding row_between links_from
row-none xs x y r end n h e = let q : end - r ≡ 0 = omega arith in sym (rw q at e)

-- A number that is at no place.
position-without : (v : ℕ) (xs : List ℕ) → position (λ x. x == v) xs ≡ None → (i : ℕ) → i < length xs → get_or xs i 0 ≡ v → ⊥
position-without v xs h i l e =
    let all : length xs ≤ position_or_len (λ x. x == v) xs = grind (arith, common_steps) in
    false≢true (sym (fails_before_first (λ x. x == v) xs i 0 (omega arith)) ∙ eq-eqb _ _ e)

-- The cue of a copy's block that a number is.
module _ (xs : List ℕ) (z : Frame) (own : ℕ) (eo : own ≡ own_of (blocks_of xs) z.block) where
  abbrev bs : List Block
  bs = blocks_of xs

  own_is : (block_at bs z.block).own ≡ own
  own_is = sym (eo ∙ own_of_at bs z.block)

  pub seen-small : {t : List ℕ} → Loaded xs t → IsCopy xs z → z.base + own ≤ max_total
  seen-small g copy = omega (arith, copy.small, total-at bs (loaded-show g).good z.block 0 [], own_of_at bs z.block)

  pub seen-own : (v c : ℕ) → z.base < v → v ≤ z.base + own → c ≡ v - z.base → (c ≢ 0) × SeenAs xs z v c
  seen-own v c l h e = (
    λ n. omega arith,
    record {
      seen = λ n. ((omega arith, omega (arith, own_is)), cue_at-own (block_at bs z.block).own z.base _ c (omega (arith, own_is)) ∙ omega arith);
      unseen = λ n. absurd (omega arith);
    },
  )

  module _ (joins v : ℕ) (ej : joins ≡ joins_of bs z.block) where
    joins-is : (block_at bs z.block).joins ≡ joins
    joins-is = sym (ej ∙ joins_of-at bs z.block)

    -- The number of a join.
    join_number : (d : ℕ) → own < d → d ≤ own + joins → number (framed bs z) d ≡ get_or (take joins z.met) (d - own - 1) 0
    join_number d h l =
        rw own_is
        (cue_at-join own z.base (take (joins_of bs z.block) z.met) d h ∙ ap (λ (n : ℕ). get_or (take n z.met) (d - own - 1) 0) (sym ej))

    few : length (take joins z.met) ≤ joins
    few = omega (arith, length-take joins z.met)

    pub seen-join : (c j : ℕ) → position (λ x. x == v) (take joins z.met) ≡ Some j → c ≡ own + 1 + j → (c ≢ 0) × SeenAs xs z v c
    seen-join c j h e =
        let (within, found, before) = position-Some (λ x. x == v) (take joins z.met) j 0 h in
        let p : c - own - 1 ≡ j = omega arith in (
          λ n. omega arith,
          record {
            seen = λ n. ((omega arith, omega (arith, own_is, joins-is, few)), join_number c (omega arith) (omega (arith, few)) ∙ ap (λ (i : ℕ). get_or (take joins z.met) i 0) p ∙ eqb-true _ _ found);
            unseen = λ n. absurd (omega arith);
          },
        )

    pub seen_none : length (take joins z.met) ≡ joins → position (λ x. x == v) (take joins z.met) ≡ None → (z.base < v → v ≤ z.base + own → ⊥) → SeenAs xs z v 0
    seen_none long h n = record { seen = λ m. absurd (m refl); unseen = λ m d cue q. go d cue q (dec_lt own d) }
      where
        go : (d : ℕ) → Cue (block_at bs z.block) d → number (framed bs z) d ≡ v → Dec (own < d) → ⊥
        go d cue q (yes l) =
            let i : d ≤ own + joins = omega (arith, cue.0, cue.1, own_is, joins-is) in
            position-without v (take joins z.met) h (d - own - 1) (omega (arith, long)) (sym (join_number d l i) ∙ q)
        go d cue q (no l) =
            let w : z.base + d ≡ v = sym (cue_at-own (block_at bs z.block).own z.base _ d (omega (arith, own_is))) ∙ q in
            n (omega (arith, cue.0)) (omega arith)

-- The joins of a lead are less than the most.
pub joins-fit : {xs t : List ℕ} {b : Lead} → Loaded xs t × MayFollow xs b → (b.from < max_joins) × (b.to < max_joins)
joins-fit {xs} {b = b} (g, may) =
    let few : joins_of (blocks_of xs) (use_at xs (blocks_of xs) b.row).block ≤ max_joins =
    joins-small (use_at xs (blocks_of xs) b.row).block (loaded-show g).small in
    (omega (arith, may.from), omega (arith, may.to))
