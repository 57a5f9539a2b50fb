-- A wait file in one pass. The model goes over the lines of a whole file once for the malformed ones, once for 16, once for 17 and once for the table.
use Rattle.std.specs.Prelude.{ℕ, ◌+◌, ◌≡◌, Bool, true, false, List, Option, Some, None, Result, Ok, Err}
use Rattle.model.specs.Choice.{if_lt, if_true}
use Rattle.model.specs.Tables.{Table, Lines, Breaks}
use Rattle.model.specs.Waits.{WaitFile, WaitTable, Unfit, is_outside, first_outside, first_not_above, waits_with, waits_or}
use Rattle.model.specs.declared.LineRefusal.{LineRefusal}
use Rattle.waits.specs.declared.Seen.{Seen}

-- "isn't above the one before".
unfoldable pub is_low : ℕ → ℕ → Bool
is_low before label = if_lt before label false true

-- The first line of a kind, if there is one: the one that is known, else this one if it is of the kind.
unfoldable pub earliest : Option ℕ → Bool → ℕ → Option ℕ
earliest (Some l) is line = Some l
earliest None is line = if_true is (Some line) None

-- What is known behind one line more.
unfoldable pub with_line : Seen → ℕ → ℕ → Seen
with_line seen label wait = record {
  line = seen.line + 1;
  before = label;
  outside = earliest seen.outside (is_outside label wait) seen.line;
  low = earliest seen.low (is_low seen.before label) seen.line;
}

-- What is said where no line is left, by the first lines of 16 and 17.
unfoldable pub judged_by : Option ℕ → Option ℕ → Result Unit LineRefusal
judged_by (Some l) low = Err (record { number = 16; place = l })
judged_by None (Some l) = Err (record { number = 17; place = l })
judged_by None None = Ok tt

unfoldable pub judged : Seen → Result Unit LineRefusal
judged seen = judged_by seen.outside seen.low

-- The line that is known, else the one that is to come.
unfoldable pub known_or : Option ℕ → ℕ → ℕ
known_or (Some l) coming = l
known_or None coming = coming

-- What a file says by the lines that are left, where the waits and what is seen are those of the lines before.
unfoldable pub waits_from : Seen → List ℕ → Table → WaitFile
waits_from seen ws (Lines vss) =
    waits_or (waits_with ws vss) (known_or seen.outside (first_outside seen.line vss))
    (known_or seen.low (first_not_above seen.before seen.line vss))
waits_from seen ws (Breaks n) = Unfit 15 n

-- What the reader answers, and leaves in the table.
unfoldable pub SaysWaits : WaitFile → Result Unit LineRefusal → List ℕ → Type 0
SaysWaits (WaitTable ws) r after = (r ≡ Ok tt) × (after ≡ ws)
SaysWaits (Unfit number line) r after = r ≡ Err (record { number = number; place = line })
