-- Filling a buffer with the lines of marked places.
use Prim.Native.Nat.{ℕ, suc, ◌+◌, ◌-◌, ◌≤◌, ◌<◌}
use native.Mathlib.Omega.{arith}
use native.Mathlib.Numerals.{add-one}
use mathlib.Core.Path.{◌≡◌, refl, sym, ◌∙◌, ap}
use mathlib.Core.Logic.{◌⊎◌, inl, inr}
use mathlib.Core.List.{List, ◌++◌, flat_map}
use lib.ListN.{length, get_or, take, drop}
use Rattle.codec.specs.Writing.{Puts}
use Rattle.codec.proofs.Stores.{puts-long, puts-part, part-room, Stored, stored-begin, stored-then}
use Rattle.printing.specs.Stream.{line_of, lines_from, Fills}
use Rattle.printing.proofs.Lines.{line_long, begins}
use Rattle.printing.proofs.Marks.{marks-skip, marks-hit}

-- A buffer has changed from o to q while its first bytes were used for the lines of the places before the one that was come to.
pub record Filling (m : List ℕ) (u p e : ℕ) (o : List ℕ) (place used : ℕ) (q : List ℕ) : Type 0 where
  pub from : p ≤ place
  pub upto : place ≤ e
  pub fits : used ≤ length q
  pub stored : Stored (lines_from m u p e) (lines_from m u place e) o 0 used q
  pub started : (used ≡ 0) ⊎ (p < place)

module _ (m : List ℕ) (u p e : ℕ) (o : List ℕ) where
  pub filling_begin : p ≤ e → Filling m u p e o p 0 o
  filling_begin h =
      record {
        from = omega arith;
        upto = h;
        fits = omega arith;
        stored = stored-begin (lines_from m u p e) o 0;
        started = inl refl;
      }

  module _ (place used : ℕ) (q : List ℕ) (s : Filling m u p e o place used q) where
    -- A place that is not marked has no line, and one that is has the next.
    line_none : place < e → (get_or m place 0 ≡ 1 → ⊥) → lines_from m u (place + 1) e ≡ lines_from m u place e
    unfolding lines_from
    line_none h n = rw (add-one place) (ap (flat_map (line_of u)) (sym (marks-skip m place e h n)))

    line_first : place < e → get_or m place 0 ≡ 1 → lines_from m u place e ≡ line_of u place ++ lines_from m u (place + 1) e
    unfolding lines_from flat_map
    line_first h n = rw (add-one place) (ap (flat_map (line_of u)) (marks-hit m place e h n))

    pub filling_skip : place < e → (get_or m place 0 ≡ 1 → ⊥) → Filling m u p e o (place + 1) used q
    filling_skip h n =
        record {
          from = omega (arith, s.from);
          upto = omega arith;
          fits = s.fits;
          stored = rw (line_none h n) s.stored;
          started = inr (omega (arith, s.from));
        }

    -- One line more.
    module _ (h : place < e) (n : get_or m place 0 ≡ 1) (k : 33 ≤ length q - used) where
      pub place_room : 33 ≤ length (take (length q - used) (drop used q))
      place_room = part-room q used 33 (omega (arith, s.fits))

      module _ (i : ℕ) (zs : List ℕ) (l : Puts (line_of u place) (take (length q - used) (drop used q)) 0 i zs) where
        pub line_fits : used + i ≤ length q
        line_fits = omega (arith, s.fits, l.place, line_long u place)

        pub filling_on : Filling m u p e o (place + 1) (used + i) (take used q ++ (zs ++ drop (length q - used) (drop used q)))
        filling_on =
            record {
              from = omega (arith, s.from);
              upto = omega arith;
              fits = omega (arith, puts-long (puts-part {o = q} {at = used} l), line_fits);
              stored = stored-then _ _ _ _ o q used (line_first h n) s.stored i zs l;
              started = inr (omega (arith, s.from));
            }

    filled : (33 ≤ length o → p < e → p < place) → Fills m u p e o place used q
    filled on =
        let long : length q ≡ length o = puts-long s.stored.puts in
        record {
          from = s.from;
          upto = s.upto;
          fits = s.fits;
          long = long;
          text =
              sym s.stored.split
              ∙ ap (λ (w : List ℕ). w ++ lines_from m u place e) (sym (begins s.stored.done o q used s.stored.puts (omega (arith, s.fits, s.stored.puts.place))).text);
          gets_on = on;
        }

    -- It ends where no place is left, or no room for a line.
    pub filling_end : e ≤ place → Fills m u p e o e used q
    filling_end h =
        let same : place ≡ e = omega (arith, s.upto) in
        rw same at (filled (λ a b. omega arith))

    pub filling_full : length q - used < 33 → Fills m u p e o place used q
    filling_full h = filled (λ a b. go a s.started)
      where
        go : 33 ≤ length o → (used ≡ 0) ⊎ (p < place) → p < place
        go a (inl z) = absurd (omega (arith, puts-long s.stored.puts))
        go a (inr l) = l
