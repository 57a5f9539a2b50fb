-- What the unfolding program prints for a file. Document 01, "The ring show": "The unfolding program reads a show from standard input and prints its links
-- (cue, cue, label), each triple once, rising." That the library behind the program makes such a text: crates/printed/specs/Demand.
use Rattle.std.specs.Prelude.{ℕ, ◌*◌, ◌-◌, ◌≤◌, ◌<◌, ◌≡◌, ◌↔◌, ◌≢◌, length, get_or, take, Ok, Err}
use mathlib.Core.List.{List, [], ◌∷◌, ◌++◌, map, Memᴰ}
use Rattle.model.specs.Answers.{show_size}
use Rattle.model.specs.Values.{decimal}
use Rattle.model.specs.Blocks.{Link, blocks_of}
use Rattle.model.specs.Unfolding.{show_links}
use Rattle.model.specs.Asking.{AsksRead}
use Rattle.model.specs.declared.Refusal.{Refusal}
use Rattle.basics.specs.Members.{Each}
use Rattle.demands.specs.Words.{IsDigit}
use Rattle.demands.specs.Acceptance.{Below}

-- Lines of numbers.

-- "Figures are in base ten", of the bytes: digits, at least one, and a 0 before others is none of them.
pub record NumberText (t : List ℕ) (n : ℕ) : Type 0 where
  pub all_digits : Each IsDigit t
  pub some : 1 ≤ length t
  pub no_padding : 1 < length t → get_or t 0 0 ≢ 48
  pub number : decimal 0 (map (λ (b : ℕ). b - 48) t) ≡ n

-- "the two values with a comma between": numbers with single commas between, and a line feed behind the last.
pub data NumbersLine : List ℕ → List ℕ → Type 0 where
  last : {t : List ℕ} {n : ℕ} → NumberText t n → NumbersLine (t ++ (10 ∷ [])) (n ∷ [])
  next : {t l : List ℕ} {n m : ℕ} {ns : List ℕ} → NumberText t n → NumbersLine l (m ∷ ns) → NumbersLine (t ++ (44 ∷ l)) (n ∷ m ∷ ns)

-- Triples.

-- "(cue, cue, label)".
abbrev pub triple : Link → List ℕ
triple l = l.from ∷ l.to ∷ l.label ∷ []

-- The lines of some links, in order.
pub data TripleLines : List ℕ → List Link → Type 0 where
  no_triple : TripleLines [] []
  triple-then : {line lines : List ℕ} {l : Link} {ls : List Link} → NumbersLine line (triple l) → TripleLines lines ls → TripleLines (line ++ lines) (l ∷ ls)

-- "each triple once, rising": each comes before all that follow it.
pub data RisingTriples : List Link → Type 0 where
  none : RisingTriples []
  more : {l : Link} {ls : List Link} → ((m : Link) → Memᴰ m ls → Below (triple l) (triple m)) → RisingTriples ls → RisingTriples (l ∷ ls)

-- "prints its links": a triple is listed exactly if it is a link of the unfolded show.
pub record Listed (E ls : List Link) : Type 0 where
  pub exactly : (l : Link) → Memᴰ l ls ↔ Memᴰ l E
  pub rising : RisingTriples ls

-- The text, by what read answers about the file. Where it refuses, it was lent an output that has room for 1,024 rows.
pub record IsPrinted (file text : List ℕ) : Type 0 where
  -- The line `from,to,label`, and the lines of the links,
  pub links : (out after : List ℕ) (rows blocks cues : ℕ) → AsksRead file out (Ok (show_size rows blocks cues)) after → cues ≤ 1000
      → (lines : List ℕ) × (ls : List Link) × TripleLines lines ls × Listed (show_links (blocks_of (take (rows * 11) after))) ls
      × (text ≡ 102 ∷ 114 ∷ 111 ∷ 109 ∷ 44 ∷ 116 ∷ 111 ∷ 44 ∷ 108 ∷ 97 ∷ 98 ∷ 101 ∷ 108 ∷ 10 ∷ lines)
  -- "Over 1,000 cues it prints `cues` and the count on two lines",
  pub count : (out after : List ℕ) (rows blocks cues : ℕ) → AsksRead file out (Ok (show_size rows blocks cues)) after → 1000 < cues
      → (line : List ℕ) × NumbersLine line (cues ∷ []) × (text ≡ 99 ∷ 117 ∷ 101 ∷ 115 ∷ 10 ∷ line)
  -- "for a refusal, the line `refusal,place` and a line of the two values with a comma between".
  pub refusal : (out after : List ℕ) (q : Refusal) → 1024 * 11 ≤ length out → AsksRead file out (Err q) after
      → (line : List ℕ) × NumbersLine line (q.number ∷ q.place ∷ [])
      × (text ≡ 114 ∷ 101 ∷ 102 ∷ 117 ∷ 115 ∷ 97 ∷ 108 ∷ 44 ∷ 112 ∷ 108 ∷ 97 ∷ 99 ∷ 101 ∷ 10 ∷ line)
