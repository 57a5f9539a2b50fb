-- The answers of locating, numbering, writing and reading.
use Prim.Native.Nat.{ℕ, ◌+◌, ◌*◌, ◌/◌, ◌≤◌, ◌<◌}
use native.Mathlib.Omega.{arith}
use mathlib.Core.Path.{◌≡◌, refl, sym, ◌∙◌, ap}
use mathlib.Core.Bool.{Bool, true, false}
use mathlib.Core.List.{List}
use lib.ListN.{length}
use Rattle.std.specs.Prelude.{Option, None, Some, IfSome, unwrap_or, Ok, Err}
use Rattle.std.specs.Option.{ok_or}
use Rattle.model.specs.Limits.{row_size, max_rows, max_bytes, max_depth, max_blocks}
use Rattle.model.specs.Rows.{rows_from, row_count, rows_of, file_text}
use Rattle.model.specs.Rules.{is_cue}
use Rattle.model.specs.Blocks.{Block, blocks_of, last_block, count}
use Rattle.model.specs.Verdicts.{refusal, verdict, Accepted}
use Rattle.model.specs.Paths.{place_in}
use Rattle.model.specs.Lists.{overwrite}
use Rattle.model.specs.Answers.{of_read, of_write, of_locate, of_number, NumberAnswer, show_size, cue_place}
use Rattle.model.specs.Questions.{outcome, refuse, answer, read_into, write_into, located, locate_in, numbered}
use Rattle.shows.specs.Numbering.{IsPlace}
use Rattle.basics.proofs.Choices.{eq_then, eq_else}
use Rattle.shows.proofs.Accepted.{accepted-show}
use Rattle.shows.proofs.Numbering.{numbering}
use Rattle.shows.proofs.RoundTrips.{rows_fit}
use Rattle.shows.proofs.Outcomes.{has_room, no_room, has-cue, no_cue}
use Rattle.blocks.specs.Loaded.{Loaded}
use Rattle.blocks.specs.declared.Place.{Place}
use Rattle.blocks.proofs.Loaded.{loaded-show}
use Rattle.paths.specs.Locating.{place_of}
use Rattle.answers.proofs.Outcomes.{cue-no, cue-yes}

-- Locating.
pub locate-room : (bs : List Block) (n : ℕ) (path : List ℕ) → length path < max_depth
    → outcome (of_locate (Err (record { number = 11; place = 0 }))) path ≡ locate_in bs n path
unfolding of_locate locate_in refuse refusal
locate-room bs n path h = sym (no_room max_depth path _ h)

-- b is the test of cue n.
module _ (xs t : List ℕ) (g : Loaded xs t) (n cues : ℕ) (b : Bool) (q : b ≡ is_cue cues n) (e : cues ≡ count (blocks_of xs)) (path : List ℕ)
    (room : max_depth ≤ length path) where
  pub locate-no : b ≡ false → outcome (of_locate (Err (record { number = 12; place = 0 }))) path ≡ locate_in (blocks_of xs) n path
  unfolding of_locate locate_in refuse refusal
  locate-no k = sym (has_room max_depth path _ room ∙ no_cue (blocks_of xs) n path _ (cue-no (blocks_of xs) n cues b q e k))

  pub locate-asks : b ≡ true → (1 ≤ n) × (n ≤ count (blocks_of xs)) × (max_depth ≤ length path)
  locate-asks k = let c = cue-yes (blocks_of xs) n cues b q e k in (c.0, c.1, room)

  -- What was found is small.
  pub found-few : (r : Place) → b ≡ true → r ≡ place_of n (place_in (blocks_of xs) (last_block (blocks_of xs)) n)
      → (r.depth ≤ max_depth) × (r.block < max_blocks)
  unfolding last_block
  found-few r k f =
      let c = cue-yes (blocks_of xs) n cues b q e k in
      let p : IsPlace (blocks_of xs) n (place_in (blocks_of xs) (last_block (blocks_of xs)) n) = (numbering (blocks_of xs) (loaded-show g).good).each n c.0 c.1 in
      rw f (omega (arith, p.located.depth, (loaded-show g).blocks), omega (arith, p.located.known, (loaded-show g).blocks))

  pub locate-found : (r : Place) (d m : ℕ) (after : List ℕ) → b ≡ true → r ≡ place_of n (place_in (blocks_of xs) (last_block (blocks_of xs)) n)
      → d ≡ r.depth → m ≡ r.block → after ≡ overwrite (place_in (blocks_of xs) (last_block (blocks_of xs)) n).path path
      → outcome (of_locate (Ok (cue_place d m r.own))) after ≡ locate_in (blocks_of xs) n path
  unfolding of_locate locate_in located answer
  locate-found r d m after k f ed em a =
      let c = cue-yes (blocks_of xs) n cues b q e k in
      rw (ed, em, f, a) (sym (has_room max_depth path _ room ∙ has-cue (blocks_of xs) n path _ c.0 c.1))

-- Numbering: what was found, if anything.
pub number-told : (o : Option ℕ) (r : NumberAnswer) (m : ℕ) → r ≡ ok_or o (record { number = 13; place = 0 }) → unwrap_or o 0 ≡ m → IfSome o (λ n. 0 < n)
    → of_number r ≡ numbered m
unfolding of_number numbered refusal
number-told None r m a b c = rw a (sym (eq_then _ _ _ _ (sym b)))
number-told (Some n) r m a b c = rw (a, ← b) (sym (eq_else _ _ _ _ (λ e. omega (arith, c))))

-- Writing.
abbrev text : List ℕ → List ℕ
text xs = file_text (rows_from xs 0 (length xs / row_size))

same_text : (xs : List ℕ) → text xs ≡ file_text (rows_of xs)
unfolding rows_of row_count
same_text xs = refl

pub rows_few : (xs : List ℕ) → verdict xs ≡ Accepted → (length xs / row_size * row_size ≤ length xs) × (length xs / row_size ≤ max_rows)
unfolding row_count
rows_few xs v = let s = accepted-show xs v in (omega arith, s.rows.1)

pub text-few : (xs : List ℕ) (n : ℕ) → verdict xs ≡ Accepted → n ≡ length (text xs) → n ≤ max_bytes
text-few xs n v e = rw (e, same_text xs) (rows_fit xs v)

module _ (xs out : List ℕ) (n : ℕ) (e : n ≡ length (text xs)) where
  pub write-room : length out < n → outcome (of_write (Err (record { number = 11; place = 0 }))) out ≡ write_into (file_text (rows_of xs)) out
  unfolding of_write write_into refuse refusal
  write-room h = sym (no_room (length (file_text (rows_of xs))) out _ (rw (e, same_text xs) at h))

  pub write_done : (m : ℕ) (after : List ℕ) → m ≡ n → n ≤ length out → after ≡ overwrite (text xs) out
      → outcome (of_write (Ok m)) after ≡ write_into (file_text (rows_of xs)) out
  unfolding of_write write_into answer
  write_done m after em h a =
      let q : n ≡ length (file_text (rows_of xs)) = e ∙ ap length (same_text xs) in
      rw (em, a, same_text xs, q) (sym (has_room (length (file_text (rows_of xs))) out _ (rw q at h)))

-- Reading.
module _ (xs t : List ℕ) (g : Loaded xs t) (out : List ℕ) where
  pub read-room : length out < length xs → outcome (of_read (Err (record { number = 11; place = 0 }))) out ≡ read_into xs out
  unfolding of_read read_into refuse refusal
  read-room h = sym (no_room (length xs) out _ h)

  pub read_done : (many last blocks cues : ℕ) (after : List ℕ) → length xs ≤ length out → after ≡ overwrite xs out → many ≡ length xs / row_size
      → last ≡ last_block (blocks_of xs) → blocks ≡ last + 1 → cues ≡ count (blocks_of xs)
      → outcome (of_read (Ok (show_size many blocks cues))) after ≡ read_into xs out
  unfolding of_read read_into answer row_count last_block
  read_done many last blocks cues after h a em el eb ec =
      let n : blocks ≡ length (blocks_of xs) = omega (arith, el, eb, (loaded-show g).blocks) in
      rw (em, n, ec, a) (sym (has_room (length xs) out _ h))
