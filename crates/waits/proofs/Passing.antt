-- The pass over a wait file at a place of it: what the whole file says is what the lines from there on say, with what is seen of those before.
use Prim.Native.Nat.{ℕ, suc, ◌+◌, ◌-◌, ◌≤◌, ◌<◌}
use mathlib.Core.Path.{◌≡◌, refl, sym, ◌∙◌, ap}
use mathlib.Core.Bool.{Bool, true, false}
use mathlib.Core.List.{List}
use native.Mathlib.Omega.{arith}
use lib.ListN.{length, get_or, set, drop, take}
use Rattle.std.proofs.Common.{Option, Some, None, Result, Err}
use Rattle.model.specs.Text.{lines_of}
use Rattle.model.specs.Tables.{Breaks, line_then, table_lines, table_read}
use Rattle.model.specs.Waits.{wait_names, wait_ends, no_waits, waits_in, wait_file, is_outside}
use Rattle.shows.specs.Files.{OneLine, ended, ends_of}
use Rattle.shows.proofs.Lines.{line_behind, ends_of-line, ends_of-other}
use Rattle.lines.specs.Scanning.{Values, Broken, line_at, LineSays, starts_with}
use Rattle.lines.proofs.LineScan.{said-line, said-none}
use Rattle.lines.proofs.LineTexts.{line_text_lem}
use Rattle.lines.proofs.Tables.{table_on, table-off, table-end, table-named, table-unnamed}
use Rattle.waits.specs.Passing.{with_line, judged, known_or, is_low, waits_from, SaysWaits}
use Rattle.waits.specs.declared.Seen.{Seen}
use Rattle.model.specs.declared.LineRefusal.{LineRefusal}
use Rattle.waits.proofs.Turns.{turn-begin, turn_on, first_some, turn_end}

-- The names are a line, and the ends are those of two values.
names-line : OneLine wait_names
unfolding wait_names
names-line = line_behind (take 10 wait_names) (omega arith) ended

ends-are : ends_of 2 ≡ wait_ends
unfolding ends_of wait_ends
ends-are = refl

-- The place behind the names.
abbrev names_size : ℕ
names_size = 11

-- The pass at a place. A line has a byte at least, so its number is at most its place, and the count of lines never overflows.
pub record Passed (f : List ℕ) (at : ℕ) (seen : Seen) (ws : List ℕ) : Type 0 where
  pub some : 2 ≤ seen.line
  pub few : seen.line ≤ at
  pub outside : 1 ≤ known_or seen.outside 1
  pub low : 1 ≤ known_or seen.low 1
  pub rest : wait_file f ≡ waits_from seen ws (table_lines wait_ends seen.line (lines_of (drop at f)))

pub pass_begin : (f ws : List ℕ) (seen : Seen) → starts_with wait_names f ≡ true → ws ≡ no_waits → seen.line ≡ 2 → seen.before ≡ 0
    → seen.outside ≡ None → seen.low ≡ None → Passed f names_size seen ws
unfolding wait_file wait_names known_or
pass_begin f ws seen t z l b o w =
    let q : table_read wait_names wait_ends f ≡ table_lines wait_ends 2 (lines_of (drop names_size f)) =
    rw ends-are at (table-named wait_names (ends_of 2) names-line (ends_of-line 1) (ends_of-other 2) f t) in
    let u = ap (λ (n : ℕ). table_lines wait_ends n (lines_of (drop names_size f))) (sym l) in
    record {
      some = omega arith;
      few = omega arith;
      outside = rw o (omega arith);
      low = rw w (omega arith);
      rest = rw (z, q) (sym (turn-begin seen l b o w (table_lines wait_ends 2 (lines_of (drop names_size f)))) ∙ ap (waits_from seen no_waits) u);
    }

-- Other names.
pub pass_unnamed : (f ws : List ℕ) (t : Bool) (r : Result Unit LineRefusal) → t ≡ starts_with wait_names f → t ≡ false → r ≡ Err (record { number = 15; place = 1 })
    → SaysWaits (wait_file f) r ws
unfolding wait_file waits_in SaysWaits
pass_unnamed f ws t r e h q =
    let b : table_read wait_names wait_ends f ≡ Breaks 1 =
    rw ends-are at (table-unnamed wait_names (ends_of 2) names-line (ends_of-line 1) (ends_of-other 2) f (sym e ∙ h)) in
    rw b q

module _ (f ws : List ℕ) (at : ℕ) (seen : Seen) (p : Passed f at seen ws) where
  -- The end of the file.
  pub pass_end : (r : Result Unit LineRefusal) → length f ≤ at → r ≡ judged seen → SaysWaits (wait_file f) r ws
  pass_end r h q = rw (p.rest, table-end wait_ends f at seen.line h) (turn_end seen ws r p.outside p.low q)

  -- The line at the place, as its reader says it.
  module _ (vs : List ℕ) (k : ℕ) (l : Option ℕ) (s : LineSays (line_at (ends_of k) f at) l vs) (two : k ≡ 2) where
    is-line : (next : ℕ) → l ≡ Some next → line_at (ends_of 2) f at ≡ Values vs next
    is-line next e = let t = rw two at s in said-line _ l next vs t e

    on : (next : ℕ) → l ≡ Some next → at + 2 ≤ next
    unfolding ends_of
    on next e = (line_text_lem (ends_of 2) f at vs next (is-line next e)).on

    pub pass_less : (next : ℕ) → l ≡ Some next → at < length f → length f - next < length f - at
    pass_less next e h = omega (arith, on next e)

    pub pass_broken : (after : List ℕ) (r : Result Unit LineRefusal) → at < length f → l ≡ None → r ≡ Err (record { number = 15; place = seen.line }) → SaysWaits (wait_file f) r after
    unfolding SaysWaits waits_from
    pass_broken after r h e q =
        let b : line_at (ends_of 2) f at ≡ Broken = let t = rw two at s in said-none _ l vs t e in
        let t : table_lines wait_ends seen.line (lines_of (drop at f)) ≡ Breaks seen.line =
        rw ends-are at (table-off (ends_of 2) (ends_of-line 1) (ends_of-other 2) f at seen.line h b) in
        rw (p.rest, t) q

    pub pass_on : (next label wait : ℕ) (ws' : List ℕ) (seen' : Seen) → l ≡ Some next → label ≡ get_or vs 0 0 → wait ≡ get_or vs 1 0
        → ws' ≡ set ws label wait → seen' ≡ with_line seen label wait → Passed f next seen' ws'
    unfolding with_line
    pass_on next label wait ws' seen' e x y ew es =
        let t : table_lines wait_ends seen.line (lines_of (drop at f)) ≡ line_then vs (table_lines wait_ends (suc seen.line) (lines_of (drop next f))) =
        rw ends-are at (table_on (ends_of 2) (ends_of-line 1) (ends_of-other 2) f at seen.line vs next (is-line next e)) in
        let n : suc seen.line ≡ seen.line + 1 = omega arith in
        rw (es, ew)
        (record {
          some = omega (arith, p.some);
          few = omega (arith, p.few, on next e);
          outside = first_some seen.outside seen.line (is_outside label wait) (omega (arith, p.some)) p.outside;
          low = first_some seen.low seen.line (is_low seen.before label) (omega (arith, p.some)) p.low;
          rest =
              p.rest ∙ ap (waits_from seen ws) t
              ∙ turn_on seen label wait ws vs (table_lines wait_ends (suc seen.line) (lines_of (drop next f))) x y
              ∙ ap (λ (m : ℕ). waits_from (with_line seen label wait) (set ws label wait) (table_lines wait_ends m (lines_of (drop next f)))) n;
        })
