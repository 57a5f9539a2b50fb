-- The checks 6 to 8 of one row that may come where it stands, each with its sentence.
use Prim.Native.Nat.{ℕ, ◌+◌, ◌-◌, ◌≤◌, ◌<◌}
use native.Mathlib.Omega.{arith}
use native.Mathlib.Decide.{ℕ_discrete}
use mathlib.Core.Path.{◌≡◌, sym, ◌∙◌, ap}
use mathlib.Core.Bool.{not}
use mathlib.Core.List.{List, []}
use lib.ListN.{length, get_or, take, drop}
use Rattle.model.specs.Limits.{max_joins, max_own, max_label}
use Rattle.model.specs.Rows.{Row, row_at}
use Rattle.model.specs.Rules.{
  Seen,
  cues_in,
  columns_used,
  named,
  every,
  is_cue,
  is_zero,
  label_fits,
  own_fits,
  in_range,
  distinct,
  is_below,
  link_key,
  use_key,
  in_order,
}
use Rattle.model.specs.Blocks.{Block}
use Rattle.basics.proofs.Choices.{eq_then, eq_else}
use Rattle.shows.proofs.AtBlock.{joins-small}
use Rattle.demands.specs.Acceptance.{
  nth_row,
  column,
  Opens,
  Links,
  Uses,
  joins_in,
  own_in,
  CueOf,
  IdleAfter,
  OpeningFits,
  LinkFits,
  UseFits,
  Rises,
  NeverFalls,
  Keeps,
  Ranges,
  Repeats,
  Order,
}
use Rattle.demands.proofs.Tests.{
  Says,
  no_test,
  in_words,
  less,
  not-less,
  equal,
  both,
  not-less_then,
  first-case,
  second-case,
  only_if,
  opposite,
}
use Rattle.demands.proofs.Columns.{first-columns, columns-behind, distinct-columns, below-places}
use Rattle.demands.proofs.Openings.{Comes, opening, link, later-use}
use Rattle.demands.proofs.Knows.{Knows, eight}

-- The tests of one number.
cue-test : (cues c : ℕ) → Says (is_cue cues c) ((1 ≤ c) × (c ≤ cues))
unfolding is_cue
cue-test cues c = not-less_then c 1 (not-less cues c)

zero_test : (x : ℕ) → Says (is_zero x) (x ≡ 0)
unfolding is_zero
zero_test x = equal x 0

module _ (xs : List ℕ) (p : ℕ) (s : Seen) (bs : List Block) (k : Knows xs p s bs) where
  abbrev w : Row
  w = nth_row xs p

  abbrev opened : ℕ
  opened = length s.joins

  -- What the tests look up is what the opening rows say.
  cue-count : w.block + 1 ≡ opened → cues_in s ≡ own_in xs w.block + joins_in xs w.block
  unfolding cues_in
  cue-count h =
      let e : opened - 1 ≡ w.block = omega arith in
      let o : s.own ≡ own_in xs w.block = rw e at (k.own (omega arith)) in
      let j : get_or s.joins w.block 0 ≡ joins_in xs w.block = k.joins w.block (omega arith) in
      rw (e, o, j)

  -- A block has at most eight joins.
  few-joins : (n : ℕ) → n < opened → joins_in xs n ≤ max_joins
  few-joins n h = rw (← k.joins n h, k.tracks.joins n) (joins-small n k.tracks.small)

  -- The columns used, and the cues named, by the kind of the row.
  used_opening : Opens w → columns_used s w ≡ 1
  unfolding columns_used
  used_opening q = eq_then w.kind 0 _ _ q

  used_link : Links w → columns_used s w ≡ 2
  unfolding columns_used
  used_link q = eq_else w.kind 0 _ _ (λ z. omega arith) ∙ eq_then w.kind 1 _ _ q

  used_use : Uses w → w.label < opened → columns_used s w ≡ joins_in xs w.label
  unfolding columns_used
  used_use q h = eq_else w.kind 0 _ _ (λ z. omega arith) ∙ eq_else w.kind 1 _ _ (λ z. omega arith) ∙ k.joins w.label h

  named_none : Opens w → named s w ≡ []
  unfolding named
  named_none q = eq_then w.kind 0 _ _ q

  named-first : (Opens w → ⊥) → (n : ℕ) → columns_used s w ≡ n → named s w ≡ take n w.columns
  unfolding named
  named-first z n e = eq_else w.kind 0 _ _ z ∙ ap (λ (m : ℕ). take m w.columns) e

  -- Check 6: the cues named by the first n columns, the columns behind them,
  cues-test : (n : ℕ) → n ≤ 8 → w.block + 1 ≡ opened
      → Says (every (is_cue (cues_in s)) (take n w.columns)) ((j : ℕ) → 1 ≤ j → j ≤ n → CueOf xs w.block (column w j))
  cues-test n h b =
      rw (cue-count b) (first-columns _ _ (cue-test (own_in xs w.block + joins_in xs w.block)) n w.columns (omega (arith, eight xs p)))

  idle-test : (n : ℕ) → Says (every is_zero (drop n w.columns)) (IdleAfter n w)
  idle-test n = rw (eight xs p) at (columns-behind _ _ zero_test n w.columns)

  -- the four parts together,
  range-test : (A B C D : Type 0) → Says (label_fits w) A → Says (own_fits w) B → (A → Says (every (is_cue (cues_in s)) (named s w)) C)
      → (A → Says (every is_zero (drop (columns_used s w) w.columns)) D) → Says (in_range s w) (A × (B × (C × D)))
  unfolding in_range
  range-test A B C D a b c d = both (label_fits w) a (λ h. both (own_fits w) b (λ _. both _ (c h) (λ _. d h)))

  -- and what they are for each kind.
  pub ranges : Comes xs p opened → Says (in_range s w) (Keeps xs Ranges p)
  unfolding label_fits own_fits every
  ranges (opening q b) =
      in_words
      (range-test (w.label ≤ max_joins) (column w 1 ≤ max_own) (Unit {0}) (IdleAfter 1 w)
      (first-case w.kind 0 _ q (not-less max_joins w.label))
      (first-case w.kind 0 _ q (not-less max_own (column w 1)))
      (λ _. rw (named_none q) no_test)
      (λ _. rw (used_opening q) (idle-test 1)))
      (λ h. (λ o. record { joins = h.0; own = h.1.0; idle = h.1.1.1 }, λ l. absurd (omega arith), λ u. absurd (omega arith)))
      (λ h. let f : OpeningFits w = h.0 q in (f.joins, (f.own, (tt, f.idle))))
  ranges (link q b l m) =
      let z : Opens w → ⊥ = λ e. omega arith in
      in_words
      (range-test ((1 ≤ w.label) × (w.label ≤ max_label)) (Unit {0}) ((j : ℕ) → 1 ≤ j → j ≤ 2 → CueOf xs w.block (column w j)) (IdleAfter 2 w)
      (second-case w.kind 0 _ z (first-case w.kind 1 _ q (not-less_then w.label 1 (not-less max_label w.label))))
      (second-case w.kind 0 _ z no_test)
      (λ _. rw (named-first z 2 (used_link q)) (cues-test 2 (omega arith) b))
      (λ _. rw (used_link q) (idle-test 2)))
      (λ h. (
        λ o. absurd (z o),
        λ o.
            record { label = h.0; from = h.1.1.0 1 (omega arith) (omega arith); to = h.1.1.0 2 (omega arith) (omega arith); idle = h.1.1.1 },
        λ u. absurd (omega arith),
      ))
      (λ h. let f : LinkFits xs w = h.1 q in (f.label, (tt, (both_columns f, f.idle))))
    where
      both_columns : LinkFits xs w → (j : ℕ) → 1 ≤ j → j ≤ 2 → CueOf xs w.block (column w j)
      both_columns f j a c = go (ℕ_discrete j 1)
        where
          go : Dec (j ≡ 1) → CueOf xs w.block (column w j)
          go (yes e) = rw e f.from
          go (no n) = let e : j ≡ 2 = omega arith in rw e f.to
  ranges (later-use q b l) =
      let z : Opens w → ⊥ = λ e. omega arith in
      let m : Links w → ⊥ = λ e. omega arith in
      in_words
      (range-test (w.label < w.block) (Unit {0}) ((j : ℕ) → 1 ≤ j → j ≤ joins_in xs w.label → CueOf xs w.block (column w j))
      (IdleAfter (joins_in xs w.label) w)
      (second-case w.kind 0 _ z (second-case w.kind 1 _ m (less w.label w.block)))
      (second-case w.kind 0 _ z no_test)
      (λ h. rw (named-first z _ (used_use q (omega arith))) (cues-test _ (few-joins w.label (omega arith)) b))
      (λ h. rw (used_use q (omega arith)) (idle-test (joins_in xs w.label))))
      (λ h. (λ o. absurd (z o), λ o. absurd (m o), λ u. record { lower = h.0; cues = h.1.1.0; idle = h.1.1.1 }))
      (λ h. let f : UseFits xs w = h.2 q in (f.lower, (tt, (f.cues, f.idle))))

  -- Check 7.
  pub repeats : Comes xs p opened → Keeps xs Ranges p → Says (distinct (named s w)) (Keeps xs Repeats p)
  unfolding distinct
  repeats (opening q b) r =
      rw (named_none q) (in_words no_test (λ _. (λ l. absurd (omega arith), λ u. absurd (omega arith))) (λ _. tt))
  repeats (link q b l m) r =
      rw (named-first (λ e. omega arith) 2 (used_link q))
      (in_words (distinct-columns 2 w.columns (omega (arith, eight xs p))) (λ h. (λ o. h, λ u. absurd (omega arith))) (λ h. h.0 q))
  repeats (later-use q b l) r =
      let h : w.label < opened = omega (arith, (r.2 q).lower) in
      rw (named-first (λ e. omega arith) _ (used_use q h))
      (in_words (distinct-columns _ w.columns (omega (arith, eight xs p, few-joins w.label h))) (λ h. (λ o. absurd (omega arith), λ u. h))
      (λ h. h.1 q))

  -- Check 8: against the row before, of links and of uses.
  rises_test : Says (is_below (link_key (nth_row xs (p - 1))) (link_key w)) (Rises (nth_row xs (p - 1)) w)
  unfolding link_key row_at
  rises_test = below-places _ _

  falls_test : Says (not (is_below (use_key w) (use_key (nth_row xs (p - 1))))) (NeverFalls (nth_row xs (p - 1)) w)
  unfolding use_key
  falls_test = opposite _ (below-places _ _)

  -- By kind.
  pub order : Comes xs p opened → Says (in_order s.before w) (Keeps xs Order p)
  unfolding in_order
  order (opening q b) =
      only_if w.kind s.before.kind
      (λ _. second-case w.kind 1 _ (λ z. omega arith) (second-case w.kind 2 _ (λ z. omega arith) (in_words no_test (λ _. free) (λ _. tt))))
      (λ _. free)
    where
      free : Keeps xs Order p
      free = (λ l a c. absurd (omega arith), λ l a c. absurd (omega arith))
  order (link q b l m) =
      rw (k.before l)
      (only_if w.kind (nth_row xs (p - 1)).kind
      (λ e. first-case w.kind 1 _ q (in_words rises_test (λ h. (λ l a c. h, λ l a c. absurd (omega arith))) (λ h. h.0 l (omega arith) q)))
      (λ n. (λ l a c. absurd (n (c ∙ sym a)), λ l a c. absurd (n (c ∙ sym a)))))
  order (later-use q b l) =
      rw (k.before l)
      (only_if w.kind (nth_row xs (p - 1)).kind
      (λ e. second-case w.kind 1 _ (λ z. omega arith)
      (first-case w.kind 2 _ q (in_words falls_test (λ h. (λ l a c. absurd (omega arith), λ l a c. h)) (λ h. h.1 l (omega arith) q))))
      (λ n. (λ l a c. absurd (n (c ∙ sym a)), λ l a c. absurd (n (c ∙ sym a)))))
