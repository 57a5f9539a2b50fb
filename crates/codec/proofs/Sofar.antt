-- A file that is read up to a place: the invariant of the loop over its lines, and how it begins, goes on and ends.
use Prim.Native.Nat.{ℕ, suc, ◌+◌, ◌*◌, ◌-◌, ◌/◌, ◌≤◌, ◌<◌}
use mathlib.Core.Path.{◌≡◌, refl, sym, ◌∙◌, ap}
use mathlib.Core.Bool.{Bool, true, false}
use mathlib.Core.List.{List, [], ◌++◌, append-nil, append_assoc}
use native.Mathlib.Omega.{arith}
use native.Mathlib.Decide.{dec_lt}
use lib.ListN.{length, take, drop, length-append, drop_of_length-le}
use lib.Seq.{take-nil, take_all, take_at, take-append-le, drop_at, drop-drop}
use Rattle.std.proofs.Common.{Result, Ok, Err}
use Rattle.model.specs.declared.Refusal.{Refusal}
use Rattle.model.specs.Limits.{row_size, max_bytes}
use Rattle.model.specs.Text.{ends, lines_of}
use Rattle.model.specs.Rows.{row_count}
use Rattle.model.specs.Lists.{overwrite}
use Rattle.model.specs.Verdicts.{refusal, Reading, Numbers, Unread, row_then, read_lines, read_all, read_file}
use Rattle.basics.proofs.Choices.{lt_then, lt_else}
use Rattle.shows.proofs.Lines.{spelled_many}
use Rattle.lines.proofs.LineTexts.{line_text_lem, line_counted}
use Rattle.codec.specs.Scanning.{names_size, stored, StepSays, starts_named}
use Rattle.codec.specs.Parsing.{filled, Parses}
use Rattle.codec.proofs.Names.{named-long, named-read, unnamed_read}
use Rattle.codec.proofs.RowScan.{row_line}
use Rattle.codec.proofs.FileScan.{read-on, read_off}

-- n rows were read up to place at: their numbers, of which those that have room stand in the lent rows, and what is left to read.
pub record Sofar (f lent : List ℕ) (at n : ℕ) (rows : List ℕ) : Type 0 where
  pub xs : List ℕ
  pub reads : read_file f ≡ row_then xs (read_lines (n + 2) (lines_of (drop at f)))
  pub many : length xs ≡ n * row_size
  pub kept : rows ≡ filled xs lent
  pub inside : at ≤ length f
  pub few : n ≤ at
  pub long : length rows ≡ length lent

then-none : (k : Reading) → k ≡ row_then [] k
unfolding row_then
then-none (Numbers xs) = refl
then-none (Unread r) = refl

then-both : (vs ws : List ℕ) (k : Reading) → row_then vs (row_then ws k) ≡ row_then (vs ++ ws) k
unfolding row_then
then-both vs ws (Numbers xs) = rw (append_assoc vs ws xs)
then-both vs ws (Unread r) = refl

pub sofar_begin : (f rows : List ℕ) → length f ≤ max_bytes → starts_named f ≡ true → Sofar f rows names_size 0 rows
unfolding read_file filled overwrite
sofar_begin f rows h e =
    record {
      xs = [];
      reads = lt_else _ _ _ _ h ∙ named-read f e ∙ then-none (read_lines 2 (lines_of (drop names_size f)));
      many = refl;
      kept = rw (take-nil (row_count rows * row_size)) refl;
      inside = named-long f e;
      few = omega arith;
      long = refl;
    }

-- The numbers of one more row.
stored-in : (xs vs rows lent : List ℕ) (r : ℕ) → length rows ≡ length lent → length xs ≡ r * row_size → length vs ≡ row_size
    → rows ≡ filled xs lent → stored r vs rows ≡ filled (xs ++ vs) lent
unfolding stored filled overwrite row_count
stored-in xs vs rows lent r long m n p = go (dec_lt r (length rows / row_size))
  where
    room : ℕ
    room = length lent / row_size * row_size

    go : Dec (r < length rows / row_size) → stored r vs rows ≡ filled (xs ++ vs) lent
    go (yes h) =
        let q : rows ≡ xs ++ drop (length xs) lent = p ∙ rw (take_all room xs (omega arith)) in
        let a : take (r * row_size) rows ≡ xs = ap (take (r * row_size)) q ∙ take_at xs _ (r * row_size) m in
        let b : drop (r * row_size) rows ≡ drop (r * row_size) lent = ap (drop (r * row_size)) q ∙ drop_at xs _ (r * row_size) m ∙ rw m in
        let l : length (xs ++ vs) ≡ r * row_size + row_size = length-append xs vs ∙ rw (m, n) in
        lt_then r (length rows / row_size) _ _ h
        ∙ rw (a, b, drop-drop row_size (r * row_size) lent, take_all room (xs ++ vs) (omega (arith, l)), l)
        (sym (append_assoc xs vs (drop (r * row_size + row_size) lent)))
    go (no h) =
        lt_else r (length rows / row_size) _ _ (omega arith) ∙ p ∙ ap (λ (ys : List ℕ). overwrite ys lent) (sym (take-append-le room xs vs (omega arith)))

module _ (f lent rows ys : List ℕ) (at n : ℕ) (s : Sofar f lent at n rows) (m : length ys ≡ length rows) where
  -- One more line: its row is stored, and less of the file is left.
  module _ (next : ℕ) (b : Bool) (step : StepSays f at n (Ok b) next rows ys) (t : b ≡ true) where
    w : StepSays f at n (Ok true) next rows ys
    w = rw t at step

    pub sofar_less : length f - next < length f - at
    unfolding StepSays ends
    sofar_less =
        let (vs, p, q) = row_line _ n next rows ys w.1 in
        omega (arith, w.0, (line_counted ends f at vs next p (omega arith) at (omega arith) s.inside).0)

    pub sofar_on : Sofar f lent next (n + 1) ys
    unfolding StepSays ends
    sofar_on =
        let (vs, p, q) = row_line _ n next rows ys w.1 in
        let many : length vs ≡ row_size = spelled_many (line_text_lem ends f at vs next p).spells in
        let (few, inside) = line_counted ends f at vs next p (omega arith) n s.few s.inside in
        let e : suc (n + 2) ≡ n + 1 + 2 = omega arith in
        record {
          xs = s.xs ++ vs;
          reads = s.reads ∙ rw (read-on f at (n + 2) vs next p, e) (then-both s.xs vs _);
          many = rw (length-append s.xs vs, s.many, many) (omega arith);
          kept = q ∙ stored-in s.xs vs rows lent n s.long s.many many s.kept;
          inside = inside;
          few = few;
          long = m ∙ s.long;
        }

  -- The end of reading: the file's rows, or a line that is none.
  pub sofar_done : (next : ℕ) (b : Bool) → StepSays f at n (Ok b) next rows ys → b ≡ false → Parses (read_file f) (Ok n) lent ys
  unfolding StepSays Parses row_then read_lines lines_of row_count
  sofar_done next b step t =
      let (h, q) = rw t at step in
      let c : length s.xs / row_size ≡ n = omega (arith, s.many) in
      rw (s.reads, drop_of_length-le f {i = at} h, append-nil s.xs, c, q) (refl, s.kept)

  pub sofar_refused : (next : ℕ) (r : Refusal) → StepSays f at n (Err r) next rows ys → Parses (read_file f) (Err r) lent ys
  unfolding StepSays Parses row_then read_lines
  sofar_refused next r w =
      let (h, e, q) = w in
      rw (s.reads, read_off f at (n + 2) h e, q)

-- The refusals of a whole file.
pub long-refused : (f lent ys : List ℕ) (p : Result ℕ Refusal) → max_bytes < length f → p ≡ Err (record { number = 1; place = 0 })
    → Parses (read_file f) p lent ys
unfolding Parses read_file refusal
long-refused f lent ys p h g = rw (lt_then max_bytes (length f) (Unread (refusal 1 0)) (read_all (lines_of f)) h) g

pub unnamed_refused : (f lent ys : List ℕ) (p : Result ℕ Refusal) (t : Bool) → length f ≤ max_bytes → t ≡ starts_named f → t ≡ false
    → p ≡ Err (record { number = 2; place = 1 }) → Parses (read_file f) p lent ys
unfolding Parses read_file refusal
unnamed_refused f lent ys p t h q e g =
    rw (lt_else max_bytes (length f) (Unread (refusal 1 0)) (read_all (lines_of f)) h, unnamed_read f (sym q ∙ e)) g
