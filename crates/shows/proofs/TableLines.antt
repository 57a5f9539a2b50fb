-- Lines of values of a small file: read to some values just where they spell them, and broken off at a line just where that line spells none.
use Prim.Native.Nat.{ℕ, suc, ◌+◌, ◌≤◌}
use mathlib.Core.Path.{◌≡◌, refl, sym, ◌∙◌, ap}
use mathlib.Core.List.{List, [], ◌∷◌, ◌++◌, append_assoc, flatten}
use native.Mathlib.Omega.{arith}
use lib.ListN.{length}
use Rattle.model.specs.Text.{LineValues, Values, Malformed, values_of, lines_of}
use Rattle.model.specs.Tables.{Table, Lines, Breaks, line_then, table_lines}
use Rattle.basics.specs.Members.{Each}
use Rattle.basics.specs.Values.{Other}
use Rattle.shows.specs.Files.{SpellsLine, OneLine}
use Rattle.shows.specs.SmallFiles.{SpellsTable, no_line, line_then_lem}
use Rattle.shows.proofs.Lines.{line_read, line_spelled, spelled_line, lines-first, lines-flatten}

-- Two answers that differ.
pub unbroken : (n : ℕ) (vss : List (List ℕ)) → Breaks n ≡ Lines vss → ⊥
unbroken n vss e = let z : ◌≡◌ {A = ℕ} 0 1 = cc in omega arith

-- A line that says some values puts them before what the lines behind it say; one that is none ends the reading.
module _ (es : List ℕ) (n : ℕ) (l : List ℕ) (ls : List (List ℕ)) where
  pub table-says : (vs : List ℕ) → values_of es l ≡ Values vs → table_lines es n (l ∷ ls) ≡ line_then vs (table_lines es (suc n) ls)
  unfolding table_lines
  table-says vs e = rw (table_lines, e)

  pub table-mute : values_of es l ≡ Malformed → table_lines es n (l ∷ ls) ≡ Breaks n
  unfolding table_lines
  table-mute e = rw (table_lines, e)

then_is : (vs : List ℕ) (k : Table) (vss : List (List ℕ)) → line_then vs k ≡ Lines vss
    → (wss : List (List ℕ)) × (k ≡ Lines wss) × (vss ≡ vs ∷ wss)
unfolding line_then
then_is vs (Lines wss) vss e = (wss, refl, cc)
then_is vs (Breaks n) vss e = absurd (unbroken n vss e)

then-breaks : (vs : List ℕ) (k : Table) (m : ℕ) → line_then vs k ≡ Breaks m → k ≡ Breaks m
unfolding line_then
then-breaks vs (Lines wss) m e = absurd (unbroken m (vs ∷ wss) (sym e))
then-breaks vs (Breaks n) m e = e

-- Lines that say some values spell them.
pub table-spelled : (es : List ℕ) (n : ℕ) (ls : List (List ℕ)) (vss : List (List ℕ)) → table_lines es n ls ≡ Lines vss → SpellsTable es (flatten ls) vss
unfolding table_lines flatten
table-spelled es n [] vss e = let f : [] ≡ vss = cc in rw (← f) no_line
table-spelled es n (l ∷ ls) vss e = go (λ wss p. table-spelled es (suc n) ls wss p) (values_of es l) refl
  where
    go : ((wss : List (List ℕ)) → table_lines es (suc n) ls ≡ Lines wss → SpellsTable es (flatten ls) wss) → (k : LineValues) → values_of es l ≡ k
        → SpellsTable es (l ++ flatten ls) vss
    go below (Values vs) p =
        let (wss, q, f) = then_is vs (table_lines es (suc n) ls) vss (sym (table-says es n l ls vs p) ∙ e) in
        rw f (line_then_lem (line_spelled es l vs p) (below wss q))
    go below Malformed p = absurd (unbroken n vss (sym (table-mute es n l ls p) ∙ e))

-- A text that has a line is not empty.
some-text : (t l : List ℕ) (ls : List (List ℕ)) → lines_of t ≡ l ∷ ls → 1 ≤ length t
unfolding lines_of
some-text [] l ls k = let z : ◌≡◌ {A = ℕ} 0 1 = cc in absurd (omega arith)
some-text (x ∷ t) l ls k = omega arith

-- Text that does not begin with a line of values, and lines of values before it.
pub record Stops (es t : List ℕ) (many : ℕ) : Type 0 where
  pub before : List ℕ
  pub broken : List ℕ
  pub vss : List (List ℕ)
  pub spells : SpellsTable es before vss
  pub text : t ≡ before ++ broken
  pub some : 1 ≤ length broken
  pub no_such : (l vs r : List ℕ) → SpellsLine es l vs → broken ≡ l ++ r → ⊥
  pub count : many ≡ length vss

module _ (es : List ℕ) (el : OneLine es) (o : Each Other es) where
  -- One line in front of a text.
  pub line_on : {l vs : List ℕ} (t : List ℕ) (n : ℕ) → SpellsLine es l vs
      → table_lines es n (lines_of (l ++ t)) ≡ line_then vs (table_lines es (suc n) (lines_of t))
  line_on {l} {vs} t n s = ap (table_lines es n) (lines-first (spelled_line el s) t) ∙ table-says es n l (lines_of t) vs (line_read o s)

  -- A text that does not begin with one.
  pub line_off : (t : List ℕ) (n : ℕ) → 1 ≤ length t → ((l vs r : List ℕ) → SpellsLine es l vs → t ≡ l ++ r → ⊥)
      → table_lines es n (lines_of t) ≡ Breaks n
  unfolding flatten
  line_off t n some none = go (lines_of t) refl
    where
      mute : (l : List ℕ) (ls : List (List ℕ)) (k : LineValues) → lines_of t ≡ l ∷ ls → values_of es l ≡ k → k ≡ Malformed
      mute l ls Malformed q r = refl
      mute l ls (Values vs) q r = absurd (none l vs (flatten ls) (line_spelled es l vs r) (sym (lines-flatten t) ∙ ap flatten q))

      go : (ls : List (List ℕ)) → lines_of t ≡ ls → table_lines es n ls ≡ Breaks n
      go [] q =
          let d : length t ≡ 0 = ap length (sym (lines-flatten t) ∙ ap flatten q) in
          absurd (omega arith)
      go (l ∷ ls) q = table-mute es n l ls (mute l ls (values_of es l) q refl)

  -- Text that spells some values says them.
  pub table-read : {t : List ℕ} {vss : List (List ℕ)} → SpellsTable es t vss → (n : ℕ) → table_lines es n (lines_of t) ≡ Lines vss
  unfolding table_lines lines_of line_then
  table-read no_line n = refl
  table-read (line_then_lem {t = t} {vs = vs} s r) n = line_on t n s ∙ ap (line_then vs) (table-read r (suc n))

  -- Where it stops behind some lines, the reading breaks there;
  pub stops-breaks : {b : List ℕ} {vss : List (List ℕ)} → SpellsTable es b vss → (t : List ℕ) (n : ℕ) → 1 ≤ length t
      → ((l vs r : List ℕ) → SpellsLine es l vs → t ≡ l ++ r → ⊥) → table_lines es n (lines_of (b ++ t)) ≡ Breaks (length vss + n)
  unfolding line_then
  stops-breaks no_line t n some none = let e : n ≡ 0 + n = omega arith in line_off t n some none ∙ ap Breaks e
  stops-breaks (line_then_lem {l = l} {t = b} {vs = vs} {vss = vss} s r) t n some none =
      let e : length vss + suc n ≡ suc (length vss) + n = omega arith in
      ap (λ (u : List ℕ). table_lines es n (lines_of u)) (append_assoc l b t) ∙ line_on (b ++ t) n s
      ∙ ap (line_then vs) (stops-breaks r t (suc n) some none ∙ ap Breaks e)

  -- and where the reading breaks, it stops.
  pub breaks_stops : (ls : List (List ℕ)) (t : List ℕ) (n m : ℕ) → lines_of t ≡ ls → table_lines es n ls ≡ Breaks m
      → (many : ℕ) × (m ≡ many + n) × Stops es t many
  unfolding table_lines flatten
  breaks_stops [] t n m q e = absurd (unbroken m [] (sym e))
  breaks_stops (l ∷ ls) t n m q e = go (λ u k. breaks_stops ls u (suc n) m k) (values_of es l) refl
    where
      whole : t ≡ l ++ flatten ls
      whole = sym (lines-flatten t) ∙ ap flatten q

      go : ((u : List ℕ) → lines_of u ≡ ls → table_lines es (suc n) ls ≡ Breaks m → (many : ℕ) × (m ≡ many + suc n) × Stops es u many)
          → (k : LineValues) → values_of es l ≡ k → (many : ℕ) × (m ≡ many + n) × Stops es t many
      go below (Values vs) p =
          let s : SpellsLine es l vs = line_spelled es l vs p in
          let f : l ∷ lines_of (flatten ls) ≡ l ∷ ls = sym (lines-first (spelled_line el s) (flatten ls)) ∙ ap lines_of (sym whole) ∙ q in
          let g : lines_of (flatten ls) ≡ ls = cc in
          let b = then-breaks vs _ m (sym (table-says es n l ls vs p) ∙ e) in
          let (many, c, d) = below (flatten ls) g b in (
            suc many,
            omega arith,
            record {
              before = l ++ d.before;
              broken = d.broken;
              vss = vs ∷ d.vss;
              spells = line_then_lem s d.spells;
              text = whole ∙ ap (λ (u : List ℕ). l ++ u) d.text ∙ sym (append_assoc l d.before d.broken);
              some = d.some;
              no_such = d.no_such;
              count = ap suc d.count;
            },
          )
      go below Malformed p =
          let b : Breaks n ≡ Breaks m = sym (table-mute es n l ls p) ∙ e in
          let c : n ≡ m = cc in (
            0,
            omega arith,
            record {
              before = [];
              broken = t;
              vss = [];
              spells = no_line;
              text = refl;
              some = some-text t l ls q;
              no_such = none;
              count = refl;
            },
          )
        where
          none : (k vs r : List ℕ) → SpellsLine es k vs → t ≡ k ++ r → ⊥
          none k vs r s w =
              let f : k ∷ lines_of r ≡ l ∷ ls = sym (lines-first (spelled_line el s) r) ∙ ap lines_of (sym w) ∙ q in
              let g : k ≡ l = cc in
              let v : Malformed ≡ Values vs = sym p ∙ ap (values_of es) (sym g) ∙ line_read o s in
              let z : ◌≡◌ {A = ℕ} 0 1 = cc in
              omega arith
