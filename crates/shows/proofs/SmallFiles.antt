-- Small files: a file is read to some lines of values just where it spells them, and breaks at a line just where that is its first malformed one.
use Prim.Native.Nat.{ℕ, ◌+◌}
use mathlib.Core.Path.{◌≡◌, refl, sym, ◌∙◌, ap}
use mathlib.Core.Bool.{Bool, true, false, false≢true}
use mathlib.Core.Logic.{◌↔◌, ◌⊎◌, inl, inr}
use mathlib.Core.List.{List, [], ◌∷◌, ◌++◌, flatten}
use native.Mathlib.Omega.{arith}
use lib.ListN.{length}
use Rattle.model.specs.Text.{lines_of}
use Rattle.model.specs.Verdicts.{same}
use Rattle.model.specs.Tables.{Lines, Breaks, table_lines, table_all, table_read}
use Rattle.basics.specs.Members.{Each}
use Rattle.basics.specs.Values.{Other}
use Rattle.basics.proofs.Choices.{true_then, true_else}
use Rattle.shows.specs.Files.{OneLine}
use Rattle.shows.specs.SmallFiles.{SpellsSmall, BreaksAt, wrong_names, wrong_line}
use Rattle.shows.proofs.Lines.{lines-first, lines-flatten}
use Rattle.shows.proofs.Files.{same_refl, same-is}
use Rattle.shows.proofs.TableLines.{unbroken, table-spelled, table-read, stops-breaks, breaks_stops}

-- Whole files.
module _ (names es : List ℕ) (nl : OneLine names) (el : OneLine es) (o : Each Other es) where
  pub named_table : (t : List ℕ) → table_read names es (names ++ t) ≡ table_lines es 2 (lines_of t)
  unfolding table_read table_all
  named_table t = ap (table_all names es) (lines-first nl t) ∙ true_then _ _ _ (same_refl names)

  pub unnamed_table : (f : List ℕ) → ((t : List ℕ) → f ≡ names ++ t → ⊥) → table_read names es f ≡ Breaks 1
  unfolding table_read table_all flatten
  unnamed_table f none = go (lines_of f) refl
    where
      other : (l : List ℕ) (ls : List (List ℕ)) (t : Bool) → lines_of f ≡ l ∷ ls → same l names ≡ t → t ≡ false
      other l ls false p q = refl
      other l ls true p q =
          let e : f ≡ l ++ flatten ls = sym (lines-flatten f) ∙ ap flatten p in
          absurd (none (flatten ls) (e ∙ ap (λ (k : List ℕ). k ++ flatten ls) (same-is l names q)))

      go : (ls : List (List ℕ)) → lines_of f ≡ ls → table_all names es ls ≡ Breaks 1
      go [] p = refl
      go (l ∷ ls) p = true_else _ _ _ (other l ls (same l names) p refl)

  -- Either the names stand first, or nothing is read.
  named-or : (f : List ℕ) → ((t : List ℕ) × (f ≡ names ++ t)) ⊎ ((t : List ℕ) → f ≡ names ++ t → ⊥)
  unfolding flatten
  named-or f = go (lines_of f) refl
    where
      go : (ls : List (List ℕ)) → lines_of f ≡ ls → ((t : List ℕ) × (f ≡ names ++ t)) ⊎ ((t : List ℕ) → f ≡ names ++ t → ⊥)
      go [] p = inr none
        where
          none : (t : List ℕ) → f ≡ names ++ t → ⊥
          none t e =
              let q : names ∷ lines_of t ≡ [] = sym (lines-first nl t) ∙ ap lines_of (sym e) ∙ p in
              let z : ◌≡◌ {A = ℕ} 0 1 = cc in
              omega arith
      go (l ∷ ls) p = at (same l names) refl
        where
          at : (b : Bool) → same l names ≡ b → ((t : List ℕ) × (f ≡ names ++ t)) ⊎ ((t : List ℕ) → f ≡ names ++ t → ⊥)
          at true q =
              let e : f ≡ l ++ flatten ls = sym (lines-flatten f) ∙ ap flatten p in
              inl (flatten ls, e ∙ ap (λ (k : List ℕ). k ++ flatten ls) (same-is l names q))
          at false q = inr none
            where
              none : (t : List ℕ) → f ≡ names ++ t → ⊥
              none t e =
                  let g : names ∷ lines_of t ≡ l ∷ ls = sym (lines-first nl t) ∙ ap lines_of (sym e) ∙ p in
                  let h : names ≡ l = cc in
                  false≢true (sym q ∙ ap (λ (k : List ℕ). same k names) (sym h) ∙ same_refl names)

  read_table : (f : List ℕ) (vss : List (List ℕ)) → SpellsSmall names es f vss → table_read names es f ≡ Lines vss
  read_table f vss s = ap (table_read names es) s.text ∙ named_table s.lines ∙ table-read es el o s.values 2

  spells_table : (f : List ℕ) (vss : List (List ℕ)) → table_read names es f ≡ Lines vss → SpellsSmall names es f vss
  spells_table f vss e = go (named-or f)
    where
      go : ((t : List ℕ) × (f ≡ names ++ t)) ⊎ ((t : List ℕ) → f ≡ names ++ t → ⊥) → SpellsSmall names es f vss
      go (inl (t, p)) =
          let q : table_lines es 2 (lines_of t) ≡ Lines vss = sym (named_table t) ∙ ap (table_read names es) (sym p) ∙ e in
          record { lines = t; text = p; values = rw (lines-flatten t) at (table-spelled es 2 (lines_of t) vss q) }
      go (inr none) = absurd (unbroken 1 vss (sym (unnamed_table f none) ∙ e))

  -- A file is read to some lines of values just where it spells them,
  pub table-reads : (f : List ℕ) (vss : List (List ℕ)) → (table_read names es f ≡ Lines vss) ↔ SpellsSmall names es f vss
  table-reads f vss = (spells_table f vss, read_table f vss)

  read-breaks : (f : List ℕ) (n : ℕ) → BreaksAt names es f n → table_read names es f ≡ Breaks n
  read-breaks f n (wrong_names none) = unnamed_table f none
  read-breaks f n (wrong_line {before = b} {broken = t} s e some none) =
      ap (table_read names es) e ∙ named_table (b ++ t) ∙ stops-breaks es el o s t 2 some none

  breaks_read : (f : List ℕ) (n : ℕ) → table_read names es f ≡ Breaks n → BreaksAt names es f n
  breaks_read f n e = go (named-or f)
    where
      go : ((t : List ℕ) × (f ≡ names ++ t)) ⊎ ((t : List ℕ) → f ≡ names ++ t → ⊥) → BreaksAt names es f n
      go (inl (t, p)) =
          let q : table_lines es 2 (lines_of t) ≡ Breaks n = sym (named_table t) ∙ ap (table_read names es) (sym p) ∙ e in
          let (many, c, d) = breaks_stops es el o (lines_of t) t 2 n refl q in
          let m : length d.vss + 2 ≡ n = omega (arith, d.count) in
          let b : BreaksAt names es f (length d.vss + 2) =
          wrong_line d.spells (p ∙ ap (λ (u : List ℕ). names ++ u) d.text) d.some d.no_such in
          rw m at b
      go (inr none) =
          let b : Breaks 1 ≡ Breaks n = sym (unnamed_table f none) ∙ e in
          let m : 1 ≡ n = cc in
          let w : BreaksAt names es f 1 = wrong_names none in
          rw m at w

  -- and it breaks at a line just where that is its first that is none.
  pub table-breaks : (f : List ℕ) (n : ℕ) → (table_read names es f ≡ Breaks n) ↔ BreaksAt names es f n
  table-breaks f n = (breaks_read f n, read-breaks f n)
